-- The outputs of a command that carries captures have files of their own, since its words are so.
use Rattle.std.proofs.Common.{◌≡◌, ◌≢◌, ℕ, List, [], ◌∷◌, ◌++◌, Bool, true, false, not, ◌&&◌, ◌||◌, if◌then◌else◌, IfSome, Option, Some, None, option_map, refl, ap, sym, subst, ◌∙◌}
use Rattle.std.specs.Prelude.{codes}
use Rattle.std.specs.Str.{bytes_eq}
use Rattle.std.proofs.lemmas.Slice.Eq.{bytes_eq-Decides}
use Rattle.siit_addr.specs.Texts.{both_with}
use Rattle.siit_addr.specs.declared.addr.Prefix6.{Prefix6}
use Rattle.siit_chain.specs.Log.{is_output}
use Rattle.siit_chain.specs.Outputs.{AreApart}
use Rattle.siit_chain.specs.declared.origin.End.{End}
use Rattle.siit_chain.specs.declared.origin.End.TheVariants as ends
use Rattle.siit_chain.specs.declared.origin.Output.{Output}
use Rattle.siit_chain.specs.declared.origin.Output.TheVariants.{Left, Right, Report}
use Rattle.siit_command.specs.Words.{is_among, is_output_name, address_of_text, number_of_text, Address}
use Rattle.siit_config.specs.Texts.{embedding_of}
use Rattle.siit_running.specs.Inputs.{AreNoneOf, IsApart}
use Rattle.siit_word.specs.Files.{IsNoneOf}
use Rattle.siit_top.specs.Carried.{captures_named, output_files, outputs_named, HaveOwnFiles}
use Rattle.siit_top.specs.CarryRun.{captures_of, outputs_of}
use Rattle.siit_top.specs.Promises.{HasOwnFiles}
use Rattle.siit_top.specs.WkpRun.{wkp_captures, wkp_outputs}
use Rattle.siit_top.specs.Words.{are_output_names, carry_run, carry_run_of, command_of, discover_of, dns64_of, given_name, map_address, map_of, messages_of, run_files, synthesis, wkp, wkp_of, Command}

-- NAMES

-- names that are other ones by the test are other ones
are_others : (xs ys : List ℕ) → bytes_eq xs ys ≡ false → xs ≢ ys
are_others xs ys isnt is = let t = (bytes_eq-Decides xs ys).1 is in cc

either_false : (b c : Bool) → (b || c) ≡ false → (b ≡ false) × (c ≡ false)
either_false true c h = cc
either_false false c h = (refl, h)

both_true : (b c : Bool) → (b && c) ≡ true → (b ≡ true) × (c ≡ true)
both_true true c h = (refl, h)
both_true false c h = cc

is_false : (b : Bool) → not b ≡ true → b ≡ false
is_false true h = cc
is_false false h = refl

none_among : (name : List ℕ) (others : List (List ℕ)) → is_among name others ≡ false → IsNoneOf name others
none_among name [] h = tt
none_among name (other ∷ others) h =
    let parts = either_false (bytes_eq name other) (is_among name others) h in
    (are_others name other parts.0, none_among name others parts.1)

-- an output's name is that of none of the other files
none_of_others : (name : List ℕ) (others : List (List ℕ)) → is_output_name name others ≡ true → IsNoneOf name others
none_of_others name others h =
    none_among name others (is_false (is_among name others) (both_true (not (bytes_eq name (codes "-"))) (not (is_among name others)) h).1)

other_way : {a b : List ℕ} → a ≢ b → b ≢ a
other_way isnt is = isnt (sym is)

same_name : {a b : List ℕ} → Some a ≡ Some b → a ≡ b
same_name is = cc

-- `run`

module _ (c a b l r p : List ℕ) (lr : l ≢ r) (lp : l ≢ p) (rp : r ≢ p) (la : l ≢ a) (lb : l ≢ b) (ra : r ≢ a) (rb : r ≢ b) (pa : p ≢ a) (pb : p ≢ b) where
  outputs : Output → Option (List ℕ)
  outputs = outputs_named (Some l) (Some r) (Some p)

  run_apart : AreApart (outputs_named (Some l) (Some r) (Some p))
  run_apart Left Left name is and = refl
  run_apart Right Right name is and = refl
  run_apart Report Report name is and = refl
  run_apart Left Right name is and = absurd (lr (same_name (is ∙ sym and)))
  run_apart Left Report name is and = absurd (lp (same_name (is ∙ sym and)))
  run_apart Right Left name is and = absurd (lr (same_name (and ∙ sym is)))
  run_apart Right Report name is and = absurd (rp (same_name (is ∙ sym and)))
  run_apart Report Left name is and = absurd (lp (same_name (and ∙ sym is)))
  run_apart Report Right name is and = absurd (rp (same_name (and ∙ sym is)))

  given_apart : (dash : Bool) (word : List ℕ) → word ≢ l → word ≢ r → word ≢ p
      → IsApart (if dash then None else Some word) (l ∷ r ∷ p ∷ [])
  given_apart true word wl wr wp = tt
  given_apart false word wl wr wp = (wl, (wr, (wp, tt)))

  run_none_of : AreNoneOf (captures_named (given_name a) (given_name b)) (l ∷ r ∷ p ∷ [])
  run_none_of ends.Left = given_apart (bytes_eq a (codes "-")) a (other_way la) (other_way ra) (other_way pa)
  run_none_of ends.Right = given_apart (bytes_eq b (codes "-")) b (other_way lb) (other_way rb) (other_way pb)

  pub run_own : HasOwnFiles (carry_run (run_files c a b l r p))
  run_own = record { apart = run_apart; none_of = run_none_of }

run_if : (names : Bool) (c a b l r p : List ℕ) → are_output_names (l ∷ r ∷ p ∷ []) (c ∷ a ∷ b ∷ []) ≡ names
    → IfSome (if names then Some (carry_run (run_files c a b l r p)) else None) HasOwnFiles
run_if false c a b l r p is = tt
run_if true c a b l r p is =
    let first = both_true (is_output_name l (r ∷ p ∷ c ∷ a ∷ b ∷ [])) (are_output_names (r ∷ p ∷ []) (l ∷ c ∷ a ∷ b ∷ [])) is in
    let second = both_true (is_output_name r (p ∷ l ∷ c ∷ a ∷ b ∷ [])) (are_output_names (p ∷ []) (r ∷ l ∷ c ∷ a ∷ b ∷ [])) first.1 in
    let third = both_true (is_output_name p (r ∷ l ∷ c ∷ a ∷ b ∷ [])) true second.1 in
    let ls = none_of_others l (r ∷ p ∷ c ∷ a ∷ b ∷ []) first.0 in
    let rs = none_of_others r (p ∷ l ∷ c ∷ a ∷ b ∷ []) second.0 in
    let ps = none_of_others p (r ∷ l ∷ c ∷ a ∷ b ∷ []) third.0 in
    run_own c a b l r p ls.0 ls.1.0 rs.0 ls.1.1.1.0 ls.1.1.1.1.0 rs.1.1.1.0 rs.1.1.1.1.0 ps.1.1.1.0 ps.1.1.1.1.0

run_words : (words : List (List ℕ)) → IfSome (carry_run_of words) HasOwnFiles
run_words [] = tt
run_words (c ∷ []) = tt
run_words (c ∷ a ∷ []) = tt
run_words (c ∷ a ∷ b ∷ []) = tt
run_words (c ∷ a ∷ b ∷ l ∷ []) = tt
run_words (c ∷ a ∷ b ∷ l ∷ r ∷ []) = tt
run_words (c ∷ a ∷ b ∷ l ∷ r ∷ p ∷ []) = run_if (are_output_names (l ∷ r ∷ p ∷ []) (c ∷ a ∷ b ∷ [])) c a b l r p refl
run_words (c ∷ a ∷ b ∷ l ∷ r ∷ p ∷ more ∷ words) = tt

-- `wkp`

module _ (input output : List ℕ) (isnt : output ≢ input) where
  wkp_apart : AreApart (wkp_outputs output)
  wkp_apart Left q name is and = cc
  wkp_apart Right Left name is and = cc
  wkp_apart Right Right name is and = refl
  wkp_apart Right Report name is and = cc
  wkp_apart Report q name is and = cc

  wkp_none_of : AreNoneOf (wkp_captures input) (output ∷ [])
  wkp_none_of ends.Left = (other_way isnt, tt)
  wkp_none_of ends.Right = tt

  pub wkp_own : HasOwnFiles (wkp input output)
  wkp_own = record { apart = wkp_apart; none_of = wkp_none_of }

wkp_if : (name : Bool) (input output : List ℕ) → is_output_name output (input ∷ []) ≡ name
    → IfSome (if name then Some (wkp input output) else None) HasOwnFiles
wkp_if false input output is = tt
wkp_if true input output is = wkp_own input output (none_of_others output (input ∷ []) is).0

wkp_words : (words : List (List ℕ)) → IfSome (wkp_of words) HasOwnFiles
wkp_words [] = tt
wkp_words (input ∷ []) = tt
wkp_words (input ∷ output ∷ []) = wkp_if (is_output_name output (input ∷ [])) input output refl
wkp_words (input ∷ output ∷ more ∷ words) = tt

-- THE OTHER COMMANDS

both_parts : (c : List ℕ) (device : Option ℕ) (address : Option Address) → IfSome (both_with (map_address c) device address) HasOwnFiles
both_parts c None None = tt
both_parts c None (Some address) = tt
both_parts c (Some device) None = tt
both_parts c (Some device) (Some address) = tt

map_words : (words : List (List ℕ)) → IfSome (map_of words) HasOwnFiles
map_words [] = tt
map_words (c ∷ []) = tt
map_words (c ∷ device ∷ []) = tt
map_words (c ∷ device ∷ address ∷ []) = both_parts c (number_of_text device) (address_of_text address)
map_words (c ∷ device ∷ address ∷ more ∷ words) = tt

discover_words : (words : List (List ℕ)) → IfSome (discover_of words) HasOwnFiles
discover_words [] = tt
discover_words (answer ∷ []) = tt
discover_words (answer ∷ more ∷ words) = tt

dns64_prefix : (prefix : Option Prefix6) (q aaaa a output : List ℕ)
    → IfSome (option_map (λ p. synthesis p (messages_of q aaaa (given_name a)) output) prefix) HasOwnFiles
dns64_prefix None q aaaa a output = tt
dns64_prefix (Some prefix) q aaaa a output = tt

dns64_if : (name : Bool) (prefix : Option Prefix6) (q aaaa a output : List ℕ)
    → IfSome (if name then option_map (λ p. synthesis p (messages_of q aaaa (given_name a)) output) prefix else None) HasOwnFiles
dns64_if false prefix q aaaa a output = tt
dns64_if true prefix q aaaa a output = dns64_prefix prefix q aaaa a output

dns64_words : (words : List (List ℕ)) → IfSome (dns64_of words) HasOwnFiles
dns64_words [] = tt
dns64_words (prefix ∷ []) = tt
dns64_words (prefix ∷ q ∷ []) = tt
dns64_words (prefix ∷ q ∷ aaaa ∷ []) = tt
dns64_words (prefix ∷ q ∷ aaaa ∷ a ∷ []) = tt
dns64_words (prefix ∷ q ∷ aaaa ∷ a ∷ output ∷ []) =
    dns64_if (is_output_name output (q ∷ aaaa ∷ a ∷ [])) (embedding_of prefix) q aaaa a output
dns64_words (prefix ∷ q ∷ aaaa ∷ a ∷ output ∷ more ∷ words) = tt

-- ALL

one_or_other : (b : Bool) (x y : Option Command) → IfSome x HasOwnFiles → IfSome y HasOwnFiles → IfSome (if b then x else y) HasOwnFiles
one_or_other true x y is other = is
one_or_other false x y is other = other

words_own : (words : List (List ℕ)) → IfSome (command_of words) HasOwnFiles
words_own [] = tt
words_own (name ∷ words) =
    one_or_other (bytes_eq name (codes "run")) _ _ (run_words words)
    (one_or_other (bytes_eq name (codes "wkp")) _ _ (wkp_words words)
    (one_or_other (bytes_eq name (codes "map")) _ _ (map_words words)
    (one_or_other (bytes_eq name (codes "discover")) _ _ (discover_words words)
    (one_or_other (bytes_eq name (codes "dns64")) _ _ (dns64_words words) tt))))

-- A command that words are has outputs of its own.
pub own_files : (words : List (List ℕ)) {command : Command} → command_of words ≡ Some command → HasOwnFiles command
own_files words {command} is = subst (λ (o : Option Command). IfSome o HasOwnFiles) is (words_own words)
