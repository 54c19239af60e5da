-- The packet that a written header belongs to. Its options and its payload are none: no header depends on them but by
-- their lengths.
use Rattle.std.specs.Prelude.{[]}
use Rattle.siit_model.specs.Bytes.{flag_bit}
use Rattle.siit_model.specs.Ipv4.{Ipv4Packet}
use Rattle.siit_model.specs.Ipv6.{Ipv6Packet}
use Rattle.siit_views.specs.declared.writers.Fields4.{Fields4}
use Rattle.siit_views.specs.declared.writers.Fields6.{Fields6}

abbrev pub packet_in4 : Fields4 → Ipv4Packet
packet_in4 fields = record {
  tos = fields.tos;
  id = fields.id;
  df = flag_bit fields.df;
  mf = flag_bit fields.more;
  offset = fields.offset;
  ttl = fields.ttl;
  protocol = fields.protocol;
  source = fields.src.0;
  destination = fields.dst.0;
  options = [];
  payload = [];
}

abbrev pub packet_in6 : Fields6 → Ipv6Packet
packet_in6 fields = record {
  class = fields.class;
  flow = 0;
  hop = fields.hop;
  source = fields.src.0;
  destination = fields.dst.0;
  next = fields.next;
  body = [];
}
