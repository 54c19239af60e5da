use Rattle.std.proofs.Common.{◌≡◌, Some, rules}
use Rattle.siit_addr.specs.Texts.{ipv4_of_text, parts_at, prefix_of_parts, slash}
use Rattle.siit_addr.proofs.Prefixes.{prefix4_from_parts}
use Rattle.siit_addr.proofs.text.read_prefix4.Goals as goal

pub returns : goal.returns
returns c =
    let parts : Some (c.in_ok-read_ipv4.field-0.0, c.in_ok-read_decimal_up_to.field-0) ≡ prefix_of_parts ipv4_of_text 32 (parts_at slash c.args.text.now) = search rules in
    prefix4_from_parts _ _ parts
