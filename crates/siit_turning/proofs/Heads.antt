-- The first bytes of a turned ICMPv6 error and of its packet.
use Rattle.std.proofs.Common.{◌≡◌, ℕ, ◌+◌, ◌-◌, ◌*◌, ◌%◌, ◌≤◌, List, [], ◌∷◌, ◌++◌, length, take, drop, slice_set, Bool, true, false, ◌||◌, ◌==◌, if◌then◌else◌, ◌∙◌, ap, sym, refl, arith, append_assoc, length-append, length-drop}
use borrow.Rule.Slice.PartMut.{put_mid}
use Rattle.std.proofs.lemmas.List.{drop-drop, drop-take, drop_at, length-take-le, take-take, take_at, take_rest}
use Rattle.std.proofs.Math.Seq.{take-add}
use Rattle.siit_model.specs.Bytes.{bytes16, field8, field16, part, with_field16}
use Rattle.siit_model.specs.Checksum.{moved, pseudo6, residue, words_sum}
use Rattle.siit_addr.specs.declared.addr.Addresses6.{Addresses6}
use Rattle.siit_v6to4.proofs.Packets.{put-behind}
use Rattle.siit_quoted.specs.Bodies.{NewBody}
use Rattle.siit_quoted.specs.Errors.{body_turned}
use Rattle.siit_quoted.specs.Sums.{IsDifference}
use Rattle.siit_device.specs.Turned.{rest_turned}
use Rattle.siit_turning.specs.Back.{error_between, head_turned}

-- bytes 4 to 7, and what is written in them
abbrev rest-by : Bool → (octet : ℕ) → List ℕ → List ℕ
rest-by test octet message = if test then octet ∷ part message 5 3 else part message 4 4

abbrev octet-by : Bool → (octet : ℕ) → List ℕ → List ℕ
octet-by test octet message = if test then slice_set message 4 octet else message

abbrev head-by : Bool → (octet gone come : ℕ) → List ℕ → List ℕ
head-by test octet gone come message =
    let rest = rest-by test octet message in
    field8 message 0 ∷ field8 message 1
    ∷ bytes16 (moved (field16 message 2) ((gone + field16 message 4) % 65535) ((come + field16 rest 0) % 65535)) ++ rest

head-cases : (test : Bool) (octet gone come : ℕ) (message : List ℕ) → 8 ≤ length message
    → (let between = octet-by test octet message in
    with_field16 between 2 (moved (field16 between 2) ((gone + field16 message 4) % 65535) ((come + field16 between 4) % 65535))
    ≡ head-by test octet gone come message ++ drop 8 message)
head-cases test octet gone come [] there = absurd (omega arith)
head-cases test octet gone come (a ∷ []) there = absurd (omega arith)
head-cases test octet gone come (a ∷ b ∷ []) there = absurd (omega arith)
head-cases test octet gone come (a ∷ b ∷ c ∷ []) there = absurd (omega arith)
head-cases test octet gone come (a ∷ b ∷ c ∷ d ∷ []) there = absurd (omega arith)
head-cases test octet gone come (a ∷ b ∷ c ∷ d ∷ e ∷ []) there = absurd (omega arith)
head-cases test octet gone come (a ∷ b ∷ c ∷ d ∷ e ∷ f ∷ []) there = absurd (omega arith)
head-cases test octet gone come (a ∷ b ∷ c ∷ d ∷ e ∷ f ∷ g ∷ []) there = absurd (omega arith)
head-cases true octet gone come (a ∷ b ∷ c ∷ d ∷ e ∷ f ∷ g ∷ h ∷ body) there = refl
head-cases false octet gone come (a ∷ b ∷ c ∷ d ∷ e ∷ f ∷ g ∷ h ∷ body) there = refl

-- the head that is written: with the octet or without it, and then with the checksum
pub head-is : (test : Bool) (octet gone come sum : ℕ) (message between new : List ℕ) → 8 ≤ length message → test ≡ ((field8 message 0 == 1) || (field8 message 0 == 3))
    → between ≡ (if test then slice_set message 4 octet else message)
    → sum ≡ moved (field16 between 2) ((gone + field16 message 4) % 65535) ((come + field16 between 4) % 65535)
    → new ≡ with_field16 between 2 sum → new ≡ head_turned octet gone come message ++ drop 8 message
head-is test octet gone come sum message between new there is_test is_between is_sum is_new =
    is_new ∙ ap (with_field16 between 2) is_sum
    ∙ ap (λ (l : List ℕ). with_field16 l 2 (moved (field16 l 2) ((gone + field16 message 4) % 65535) ((come + field16 l 4) % 65535))) is_between
    ∙ head-cases test octet gone come message there
    ∙ ap (λ (t : Bool). head-by t octet gone come message ++ drop 8 message) is_test

-- the head hangs on the first 8 bytes alone
pub head-taken : (octet gone come : ℕ) (message body : List ℕ) → 8 ≤ length message → head_turned octet gone come (take 8 message ++ body) ≡ head_turned octet gone come message
head-taken octet gone come [] body there = absurd (omega arith)
head-taken octet gone come (a ∷ []) body there = absurd (omega arith)
head-taken octet gone come (a ∷ b ∷ []) body there = absurd (omega arith)
head-taken octet gone come (a ∷ b ∷ c ∷ []) body there = absurd (omega arith)
head-taken octet gone come (a ∷ b ∷ c ∷ d ∷ []) body there = absurd (omega arith)
head-taken octet gone come (a ∷ b ∷ c ∷ d ∷ e ∷ []) body there = absurd (omega arith)
head-taken octet gone come (a ∷ b ∷ c ∷ d ∷ e ∷ f ∷ []) body there = absurd (omega arith)
head-taken octet gone come (a ∷ b ∷ c ∷ d ∷ e ∷ f ∷ g ∷ []) body there = absurd (omega arith)
head-taken octet gone come (a ∷ b ∷ c ∷ d ∷ e ∷ f ∷ g ∷ h ∷ rest) body there = refl

-- a head that is written in place
pub head-at : (at octet gone come : ℕ) (bytes new : List ℕ)
    → (let part = take (length bytes - at) (drop at bytes) in new ≡ head_turned octet gone come part ++ drop 8 part)
    → put_mid at (length bytes - at) bytes new ≡ take at bytes ++ head_turned octet gone come (drop at bytes) ++ drop (at + 8) bytes
head-at at octet gone come bytes new is =
    let head : List ℕ = head_turned octet gone come (drop at bytes) in
    put-behind at bytes new
    ∙ ap (λ l. take at bytes ++ l) (is ∙ ap (λ (l : List ℕ). head_turned octet gone come l ++ drop 8 l) (take_rest bytes at) ∙ ap (λ l. head ++ l) (drop-drop 8 at bytes)) ∙ sym (append_assoc (take at bytes) head (drop (at + 8) bytes))

-- what stays in the message counts nothing
counted : (sum same old new gone come word rest old_body new_body : ℕ) → (old_body + come) % 65535 ≡ (new_body + gone) % 65535
    → moved sum ((old + (same + word + old_body) % 65535) % 65535) ((new + (same + rest + new_body) % 65535) % 65535)
    ≡ moved sum (((old + gone) % 65535 + word) % 65535) (((new + come) % 65535 + rest) % 65535)
counted sum same old new gone come word rest old_body new_body change = omega arith

-- the words of a message before and after: type and code, bytes 4 and 5, bytes 6 and 7, the body
eight-counted : (sum kind last old new gone come word rest old_body new_body : ℕ) → (old_body % 65535 + come) % 65535 ≡ (new_body % 65535 + gone) % 65535
    → moved sum ((old + (kind + (0 * 256 + 0 + (word + (last + old_body)))) % 65535) % 65535) ((new + (kind + (0 * 256 + 0 + (rest + (last + new_body)))) % 65535) % 65535)
    ≡ moved sum (((old + gone) % 65535 + word) % 65535) (((new + come) % 65535 + rest) % 65535)
eight-counted sum kind last old new gone come word rest old_body new_body change =
    let before : (kind + (0 * 256 + 0 + (word + (last + old_body)))) % 65535 ≡ (kind + last + word + old_body % 65535) % 65535 = omega arith in
    let after : (kind + (0 * 256 + 0 + (rest + (last + new_body)))) % 65535 ≡ (kind + last + rest + new_body % 65535) % 65535 = omega arith in
    ap (λ n. moved sum ((old + n) % 65535) ((new + (kind + (0 * 256 + 0 + (rest + (last + new_body)))) % 65535) % 65535)) before
    ∙ ap (λ n. moved sum ((old + (kind + last + word + old_body % 65535) % 65535) % 65535) ((new + n) % 65535)) after
    ∙ counted sum (kind + last) old new gone come word rest (old_body % 65535) (new_body % 65535) change

summed-cases : (test : Bool) (octet old new gone come : ℕ) (message body : List ℕ) → 8 ≤ length message
    → (residue (drop 8 message) + come) % 65535 ≡ (residue body + gone) % 65535
    → (let rest = rest-by test octet message in
    moved (field16 message 2) ((old + residue (take 2 message ++ 0 ∷ 0 ∷ drop 4 message)) % 65535)
    ((new + residue (field8 message 0 ∷ field8 message 1 ∷ 0 ∷ 0 ∷ rest ++ body)) % 65535)
    ≡ moved (field16 message 2) (((old + gone) % 65535 + field16 message 4) % 65535) (((new + come) % 65535 + field16 rest 0) % 65535))
summed-cases test octet old new gone come [] body there change = absurd (omega arith)
summed-cases test octet old new gone come (a ∷ []) body there change = absurd (omega arith)
summed-cases test octet old new gone come (a ∷ b ∷ []) body there change = absurd (omega arith)
summed-cases test octet old new gone come (a ∷ b ∷ c ∷ []) body there change = absurd (omega arith)
summed-cases test octet old new gone come (a ∷ b ∷ c ∷ d ∷ []) body there change = absurd (omega arith)
summed-cases test octet old new gone come (a ∷ b ∷ c ∷ d ∷ e ∷ []) body there change = absurd (omega arith)
summed-cases test octet old new gone come (a ∷ b ∷ c ∷ d ∷ e ∷ f ∷ []) body there change = absurd (omega arith)
summed-cases test octet old new gone come (a ∷ b ∷ c ∷ d ∷ e ∷ f ∷ g ∷ []) body there change = absurd (omega arith)
summed-cases true octet old new gone come (a ∷ b ∷ c ∷ d ∷ e ∷ f ∷ g ∷ h ∷ rest) body there change =
    eight-counted (c * 256 + d) (a * 256 + b) (g * 256 + h) old new gone come (e * 256 + f) (octet * 256 + f) (words_sum rest) (words_sum body) change
summed-cases false octet old new gone come (a ∷ b ∷ c ∷ d ∷ e ∷ f ∷ g ∷ h ∷ rest) body there change =
    eight-counted (c * 256 + d) (a * 256 + b) (g * 256 + h) old new gone come (e * 256 + f) (e * 256 + f) (words_sum rest) (words_sum body) change

-- the turned error, of its head and its new body
pub error-is : (old new quote : Addresses6) (message : List ℕ) (octet old_sum new_sum gone come all_gone all_come len : ℕ) (body : NewBody) → 8 ≤ length message
    → body ≡ body_turned quote.src.0 quote.dst.0 message → octet ≡ body.octet → len ≡ 8 + length body.bytes
    → IsDifference (drop 8 message) (body_turned quote.src.0 quote.dst.0 message).bytes gone come
    → old_sum ≡ pseudo6 old.src.0 old.dst.0 58 (length message) → new_sum ≡ pseudo6 new.src.0 new.dst.0 58 len
    → all_gone ≡ (old_sum + gone) % 65535 → all_come ≡ (new_sum + come) % 65535
    → head_turned octet all_gone all_come message ++ body.bytes ≡ error_between old new quote message
unfolding error_between
error-is old new quote message octet old_sum new_sum gone come all_gone all_come len body there is_body is_octet is_len change is_old is_new is_gone is_come =
    let b : NewBody = body_turned quote.src.0 quote.dst.0 message in
    let p : ℕ = pseudo6 old.src.0 old.dst.0 58 (length message) in
    let q : ℕ = pseudo6 new.src.0 new.dst.0 58 (8 + length b.bytes) in
    let is_q : new_sum ≡ q = is_new ∙ ap (λ n. pseudo6 new.src.0 new.dst.0 58 n) (is_len ∙ ap (λ (x : NewBody). 8 + length x.bytes) is_body) in
    let rest : List ℕ = rest_turned b.octet message in
    let test : Bool = (field8 message 0 == 1) || (field8 message 0 == 3) in
    let head = λ (sum : ℕ). ((field8 message 0 ∷ field8 message 1 ∷ bytes16 sum) ++ rest) ++ b.bytes in
    ap (λ n. head_turned n all_gone all_come message ++ body.bytes) (is_octet ∙ ap (λ (x : NewBody). x.octet) is_body)
    ∙ ap (λ (x : NewBody). head_turned b.octet all_gone all_come message ++ x.bytes) is_body
    ∙ ap (λ n. head_turned b.octet n all_come message ++ b.bytes) (is_gone ∙ ap (λ n. (n + gone) % 65535) is_old)
    ∙ ap (λ n. head_turned b.octet ((p + gone) % 65535) n message ++ b.bytes) (is_come ∙ ap (λ n. (n + come) % 65535) is_q)
    ∙ ap head (sym (summed-cases test b.octet p q gone come message b.bytes there change.same))

-- IN PLACE

-- the kept bytes of a body in the packet that was cut behind them
pub kept-there : (at kept : ℕ) (old message cut : List ℕ) → message ≡ drop at old → cut ≡ take (at + 8 + kept) old → drop (at + 8) cut ≡ take kept (drop 8 message)
kept-there at kept old message cut same is =
    ap (drop (at + 8)) is ∙ drop-take (at + 8) kept old ∙ ap (take kept) (sym (drop-drop 8 at old)) ∙ ap (λ (l : List ℕ). take kept (drop 8 l)) (sym same)

-- the message in the packet as it was handed out
pub message-seen : (at : ℕ) (old seen : List ℕ) → seen ≡ old → take (length seen - at) (drop at seen) ≡ drop at old
message-seen at old seen same = take_rest seen at ∙ ap (drop at) same

pub kept-inside : (at kept : ℕ) (old message : List ℕ) → message ≡ drop at old → 8 + kept ≤ length message → at + 8 + kept ≤ length old
kept-inside at kept old message same inside = omega (arith, inside, ap length same, length-drop at old)

-- a head written before its new body, in the packet
pub head-joined : (at octet gone come kept : ℕ) (old cut between new body : List ℕ) → at + 8 + kept ≤ length old → cut ≡ take (at + 8 + kept) old
    → between ≡ take (at + 8) cut ++ body → new ≡ take at between ++ head_turned octet gone come (drop at between) ++ drop (at + 8) between
    → new ≡ take at old ++ (head_turned octet gone come (drop at old) ++ body)
head-joined at octet gone come kept old cut between new body there is_cut is_between is_new =
    let message : List ℕ = drop at old in
    let front : List ℕ = take at old in
    let eight : List ℕ = take 8 message in
    let front_long : length front ≡ at = length-take-le at old (omega arith) in
    let long : 8 ≤ length message = omega (arith, length-drop at old) in
    let first : take (at + 8) cut ≡ front ++ eight = ap (take (at + 8)) is_cut ∙ take-take (at + 8) (at + 8 + kept) old (omega arith) ∙ take-add at 8 old in
    let whole : between ≡ (front ++ eight) ++ body = is_between ∙ ap (λ l. l ++ body) first in
    let grouped : between ≡ front ++ (eight ++ body) = whole ∙ append_assoc front eight body in
    let one : take at between ≡ front = ap (take at) grouped ∙ take_at front (eight ++ body) at front_long in
    let two : drop at between ≡ eight ++ body = ap (drop at) grouped ∙ drop_at front (eight ++ body) at front_long in
    let three : drop (at + 8) between ≡ body =
    ap (drop (at + 8)) whole ∙ drop_at (front ++ eight) body (at + 8) (omega (arith, length-append front eight, length-take-le 8 message long)) in
    is_new
    ∙ ap (λ l. l ++ head_turned octet gone come (drop at between) ++ drop (at + 8) between) one
    ∙ ap (λ (l : List ℕ). front ++ head_turned octet gone come l ++ drop (at + 8) between) two
    ∙ ap (λ l. front ++ l ++ drop (at + 8) between) (head-taken octet gone come message body long)
    ∙ ap (λ l. front ++ head_turned octet gone come message ++ l) three
    ∙ append_assoc front (head_turned octet gone come message) body

pub message-length : (at kept len : ℕ) (old cut between body : List ℕ) → at + 8 + kept ≤ length old → cut ≡ take (at + 8 + kept) old → between ≡ take (at + 8) cut ++ body
    → len ≡ length between - at → len ≡ 8 + length body
message-length at kept len old cut between body there is_cut is_between is_len =
    let cut_long = length-take-le (at + 8 + kept) old there in
    omega (arith, is_len, ap length is_between, length-append (take (at + 8) cut) body, length-take-le (at + 8) cut (omega (arith, ap length is_cut, cut_long)))
