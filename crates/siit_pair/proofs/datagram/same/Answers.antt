use Rattle.std.proofs.Common.{◌≡◌, List, [], ◌∷◌, ℕ, ◌∙◌, sym}
use Rattle.siit_model.specs.Ipv4.{ipv4_fields}
use Rattle.siit_roles.specs.declared.settings.Settings.{Settings}
use Rattle.siit_pair.specs.Same.{is_same_from}
use Rattle.siit_pair.proofs.SameDatagrams.{from-left, from-right, same-decided}
use Rattle.siit_pair.proofs.Tables.{two}
use Rattle.siit_pair.proofs.datagram.same.Goals as goal

pub returns-then-is_same_from : goal.returns-then-is_same_from
returns-then-is_same_from c =
    let left : Settings = c.left-item.result in
    let right : Settings = c.right-item.result in
    let devices : c.args.settings.now.devices ≡ left ∷ right ∷ [] =
    sym c.devices.ensures ∙ two c.devices.result.now left right c.in-len2.len_at_least c.in-len2.len_below c.left-item.is c.right-item.is in
    let before : List ℕ = c.args.before.now in
    let after : List ℕ = c.args.after.now in
    let seen : is_same_from left right (ipv4_fields c.in-Some-Some.before) (ipv4_fields c.in-Some-Some.after) ≡ is_same_from left right (ipv4_fields before) (ipv4_fields after) =
    (λ i. is_same_from left right (ipv4_fields (c.in-Some-Some.ensures.bytes i)) (ipv4_fields (c.in-Some-Some.ensures'.bytes i))) in
    same-decided c.args.settings.now left right before after c.is_same_from.result (c.is_pair.ensures.0 c.if-not-is_pair.false) devices
    (sym c.in-Some-Some.ensures.whole) (sym c.in-Some-Some.ensures'.whole)
    (from-left left right (ipv4_fields before) (ipv4_fields after) c.is_same_from.result (c.is_same_from.ensures ∙ seen) c.if-is_same_from.true)

pub returns-else-is_same_from : goal.returns-else-is_same_from
returns-else-is_same_from c =
    let left : Settings = c.left-item.result in
    let right : Settings = c.right-item.result in
    let devices : c.args.settings.now.devices ≡ left ∷ right ∷ [] =
    sym c.devices.ensures ∙ two c.devices.result.now left right c.in-len2.len_at_least c.in-len2.len_below c.left-item.is c.right-item.is in
    let before : List ℕ = c.args.before.now in
    let after : List ℕ = c.args.after.now in
    let seen : (first second : Settings) → is_same_from first second (ipv4_fields c.in-Some-Some.before) (ipv4_fields c.in-Some-Some.after) ≡ is_same_from first second (ipv4_fields before) (ipv4_fields after) =
    (λ first second. λ i. is_same_from first second (ipv4_fields (c.in-Some-Some.ensures.bytes i)) (ipv4_fields (c.in-Some-Some.ensures'.bytes i))) in
    same-decided c.args.settings.now left right before after c.is_same_from-else-is_same_from.result (c.is_pair.ensures.0 c.if-not-is_pair.false) devices
    (sym c.in-Some-Some.ensures.whole) (sym c.in-Some-Some.ensures'.whole)
    (from-right left right (ipv4_fields before) (ipv4_fields after) c.is_same_from.result c.is_same_from-else-is_same_from.result
    (c.is_same_from.ensures ∙ seen left right) c.if-is_same_from.false (c.is_same_from-else-is_same_from.ensures ∙ seen right left))
