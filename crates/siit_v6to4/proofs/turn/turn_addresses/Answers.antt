use Rattle.std.proofs.Common.{◌≡◌, ℕ, ◌+◌, ◌-◌, List, ◌++◌, length, take, drop, ◌∙◌, ap, sym, refl}
use Rattle.siit_model.specs.Checksum.{pseudo6}
use Rattle.siit_model.specs.Extensions.{Walked}
use Rattle.siit_model.specs.Ipv6.{Ipv6Packet, ipv6_fields, payload_length_in}
use Rattle.siit_upper.specs.Walks.{walked}
use Rattle.siit_v6to4.specs.Turns.{turned_part}
use Rattle.siit_v6to4.proofs.Heads.{upper-is, upper-length-is}
use Rattle.siit_v6to4.proofs.Turned.{part-length, turned-is, version-accepted}
use Rattle.siit_v6to4.proofs.turn.turn_addresses.Goals as goal

pub returns : goal.returns
returns c =
    let bytes : List ℕ = c.args.bytes.now in
    let packet : Ipv6Packet = ipv6_fields bytes in
    let walk : Walked = walked c.args.walk.now in
    let at : ℕ = walk.at in
    let upper : List ℕ = drop at packet.body in
    let same : c.new-header.result ≡ bytes = c.new-header.ensures in
    let source : c.src.result.0 ≡ packet.source = c.src.ensures ∙ ap (λ b. (ipv6_fields b).source) same in
    let destination : c.dst.result.0 ≡ packet.destination = c.dst.ensures ∙ ap (λ b. (ipv6_fields b).destination) same in
    let size : c.length.result - at ≡ length upper = ap (λ n. n - at) (c.length.ensures ∙ ap payload_length_in same) ∙ sym (upper-length-is bytes at c.requires.no_padding) in
    let new : ℕ → ℕ = λ n. pseudo6 c.args.new.src.0 c.args.new.dst.0 walk.upper n in
    let part : List ℕ = turned_part (pseudo6 packet.source packet.destination walk.upper (length upper)) (new (length upper)) walk upper in
    let is_part : c.turn_part.new.bytes ≡ take (40 + at) bytes ++ part =
    c.turn_part.ensures
    ∙ ap (λ a. take (40 + at) bytes ++ turned_part (pseudo6 a c.dst.result.0 walk.upper (c.length.result - at)) (new (c.length.result - at)) walk (drop (40 + at) bytes)) source
    ∙ ap (λ a. take (40 + at) bytes ++ turned_part (pseudo6 packet.source a walk.upper (c.length.result - at)) (new (c.length.result - at)) walk (drop (40 + at) bytes)) destination
    ∙ ap (λ n. take (40 + at) bytes ++ turned_part (pseudo6 packet.source packet.destination walk.upper n) (new n) walk (drop (40 + at) bytes)) size
    ∙ ap (λ l. take (40 + at) bytes ++ turned_part (pseudo6 packet.source packet.destination walk.upper (length upper)) (new (length upper)) walk l)
    (upper-is bytes at (40 + at) c.requires.no_padding refl) in
    turned-is bytes c.turn_part.new.bytes c.write_addresses.new.bytes part c.args.new.src.0 c.args.new.dst.0 at
    c.are_bytes.ensures (version-accepted bytes c.requires.packet) c.requires.no_padding c.requires.within is_part
    (part-length _ (new (length upper)) walk upper ∙ upper-length-is bytes at c.requires.no_padding)
    c.write_addresses.ensures
