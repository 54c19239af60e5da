use Rattle.std.proofs.Common.{◌≡◌, Some, rules}
use Rattle.siit_addr.specs.Texts.{ipv6_of_text, parts_at, prefix_of_parts, slash}
use Rattle.siit_addr.proofs.Prefixes.{prefix6_from_parts}
use Rattle.siit_addr.proofs.text.read_prefix6.Goals as goal

pub returns : goal.returns
returns c =
    let parts : Some (c.in_ok-read_ipv6.field-0.0, c.in_ok-read_decimal_up_to.field-0) ≡ prefix_of_parts ipv6_of_text 128 (parts_at slash c.args.text.now) = search rules in
    prefix6_from_parts _ _ parts
