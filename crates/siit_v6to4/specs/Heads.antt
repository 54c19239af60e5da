-- The packet that `head64` makes, by its argument.
use Rattle.std.specs.Prelude.{◌+◌, ◌-◌, length, Option}
use Rattle.siit_model.specs.Extensions.{FragmentFields, Walked}
use Rattle.siit_model.specs.Fragments.{Fragment, fragment_by, packet4}
use Rattle.siit_model.specs.Ipv4.{Ipv4Packet}
use Rattle.siit_model.specs.Ipv6.{Ipv6Packet}
use Rattle.siit_v6to4.specs.To4.{Head4, df_for, header_to_4, identification}
use Rattle.siit_v6to4.specs.declared.fields.Head64.{Head64}

-- the new header of a fragment, one hop on
abbrev pub head4_for : Head64 → Option FragmentFields → Fragment → Head4
head4_for to fields f = record {
  source = to.src.0;
  destination = to.dst.0;
  tos = to.tos;
  ttl = f.common.hop - 1;
  id = identification fields to.ident;
}

-- The packet with its new header, its upper part as it is. The extension headers that were passed over are gone.
abbrev pub headed_packet4 : Head64 → Walked → Ipv6Packet → Ipv4Packet
headed_packet4 to walked packet =
    let f = fragment_by packet walked in
    packet4 (df_for walked.fragment (20 + length f.bytes)) (header_to_4 (head4_for to walked.fragment f) f)
