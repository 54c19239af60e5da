-- Bodies that grow by what stands for one record after another.
use Rattle.std.proofs.Common.{◌≡◌, ◌∙◌, ℕ, ◌+◌, List, [], ◌∷◌, ◌++◌, length, get_or, ◌<◌, take, map, filter, flat_map, Bool, true, false, not, ◌==◌, ◌&&◌, if◌then◌else◌, refl, sym, ap, subst, arith, append_assoc, length-append}
use Rattle.std.proofs.lemmas.Grind.{flat_map-append}
use Rattle.std.proofs.lemmas.List.{take_more, append-nil}
use Rattle.std.proofs.lemmas.Bool.Decides.{nat_tests}
use Rattle.siit_addr.specs.Addresses.{is_non_global_number}
use Rattle.siit_addr.specs.declared.addr.Prefix6.{Prefix6}
use Rattle.siit_model.specs.Bytes.{field32}
use Rattle.siit_rfc6052.specs.Embedding.{is_well_known}
use Rattle.siit_dns.specs.Messages.{ResourceRecord}
use Rattle.siit_dns64.specs.Answers.{joined, copied, is_answer_of, made_from, made_record, prefixes_for, stand_in, section_of, count_made}
use Rattle.siit_dns64.specs.Body.{ComesTo, Grows, GrowsBy, count_in, made_under}
use Rattle.siit_dns64.specs.declared.body.Body.{Body}

joined-append : (lines more : List (List ℕ)) → joined (lines ++ more) ≡ joined lines ++ joined more
joined-append lines more = flat_map-append (λ line. line) lines more

-- two growths of the answer section
pub grows-more : (old mid new : Body) (lines more : List (List ℕ)) → GrowsBy old mid lines → GrowsBy mid new more → GrowsBy old new (lines ++ more)
grows-more old mid new lines more first next =
    let len : length (lines ++ more) ≡ length lines + length more = length-append lines more in
    record {
      bytes =
          next.bytes ∙ ap (λ (bytes : List ℕ). bytes ++ joined more) first.bytes ∙ append_assoc old.bytes.items (joined lines) (joined more)
          ∙ ap (λ (bytes : List ℕ). old.bytes.items ++ bytes) (sym (joined-append lines more));
      answers = omega (arith, first.answers, next.answers);
      authorities = omega (arith, first.authorities, next.authorities);
      additionals = omega (arith, first.additionals, next.additionals);
      made = omega (arith, first.made, next.made);
    }

pub grows-none : (body : Body) → GrowsBy body body []
grows-none body = record {
  bytes = sym (append-nil body.bytes.items);
  answers = omega arith;
  authorities = omega arith;
  additionals = omega arith;
  made = omega arith;
}

-- what is made under one more prefix
one_kept : (test : Bool) (f : Prefix6 → List ℕ) (prefix : Prefix6) → map f (if test then prefix ∷ [] else []) ≡ (if test then f prefix ∷ [] else [])
one_kept true f prefix = refl
one_kept false f prefix = refl

under_test : (test : Bool) (f : Prefix6 → List ℕ) (other : Prefix6) (all rest : List Prefix6) (more : List (List ℕ)) → map f all ≡ map f rest ++ more
    → map f (if test then other ∷ all else all) ≡ map f (if test then other ∷ rest else rest) ++ more
under_test true f other all rest more same = ap (λ (lines : List (List ℕ)). f other ∷ lines) same
under_test false f other all rest more same = same

kept-more : (test : Prefix6 → Bool) (f : Prefix6 → List ℕ) (prefixes : List Prefix6) (prefix : Prefix6)
    → map f (filter test (prefixes ++ prefix ∷ [])) ≡ map f (filter test prefixes) ++ (if test prefix then f prefix ∷ [] else [])
kept-more test f [] prefix = one_kept (test prefix) f prefix
kept-more test f (other ∷ prefixes) prefix = under_test (test other) f other (filter test (prefixes ++ prefix ∷ [])) (filter test prefixes) (if test prefix then f prefix ∷ [] else []) (kept-more test f prefixes prefix)

pub made-more : (greatest : ℕ) (r : ResourceRecord) (prefixes : List Prefix6) (i : ℕ) (prefix : Prefix6) → i < length prefixes → prefix ≡ get_or prefixes i prefix
    → map (made_record greatest r) (prefixes_for (take (i + 1) prefixes) (field32 r.rdata 0))
    ≡ map (made_record greatest r) (prefixes_for (take i prefixes) (field32 r.rdata 0)) ++ made_under greatest r prefix
made-more greatest r prefixes i prefix lt is_prefix =
    ap (λ (ps : List Prefix6). map (made_record greatest r) (prefixes_for ps (field32 r.rdata 0)))
    (take_more prefixes i prefix lt ∙ ap (λ (p : Prefix6). take i prefixes ++ p ∷ []) (sym is_prefix))
    ∙ kept-more (λ p. not (is_well_known p && is_non_global_number (field32 r.rdata 0))) (made_record greatest r) (take i prefixes) prefix

-- what stands for an A record of the answer section, and for another record
answered : (test : Bool) (old new : Body) (section : ℕ) (made : List (List ℕ)) (copy : List ℕ) → test ≡ true → Grows old new section made (length made)
    → Grows old new section (if test then (if test then made else []) else copy ∷ []) (length (if test then made else []))
answered true old new section made copy is_test grows = grows
answered false old new section made copy is_test grows = absurd (cc)

kept : (test : Bool) (old new : Body) (section : ℕ) (made : List (List ℕ)) (copy : List ℕ) → test ≡ false → Grows old new section (copy ∷ []) 0
    → Grows old new section (if test then (if test then made else []) else copy ∷ []) (length (if test then made else []))
kept true old new section made copy is_test grows = absurd (cc)
kept false old new section made copy is_test grows = grows

in_answer : (kind : ℕ) (r : ResourceRecord) → is_answer_of kind r ≡ true → r.section ≡ 0
in_answer kind r test = grind (arith, nat_tests)

pub stands-made : (old new : Body) (greatest : ℕ) (prefixes : List Prefix6) (r : ResourceRecord) → is_answer_of 1 r ≡ true
    → GrowsBy old new (map (made_record greatest r) (prefixes_for prefixes (field32 r.rdata 0)))
    → Grows old new r.section (stand_in greatest prefixes r) (length (made_from greatest prefixes r))
stands-made old new greatest prefixes r test grows =
    let made : List (List ℕ) = map (made_record greatest r) (prefixes_for prefixes (field32 r.rdata 0)) in
    answered (is_answer_of 1 r) old new r.section made (copied r) test
    (subst (λ (section : ℕ). Grows old new section made (length made)) (sym (in_answer 1 r test)) grows)

pub stands-copied : (old new : Body) (greatest : ℕ) (prefixes : List Prefix6) (r : ResourceRecord) → is_answer_of 1 r ≡ false
    → Grows old new r.section (copied r ∷ []) 0
    → Grows old new r.section (stand_in greatest prefixes r) (length (made_from greatest prefixes r))
stands-copied old new greatest prefixes r test grows =
    kept (is_answer_of 1 r) old new r.section (map (made_record greatest r) (prefixes_for prefixes (field32 r.rdata 0))) (copied r) test grows

-- one more record
counted : (test : Bool) (f : ResourceRecord → List (List ℕ)) (r : ResourceRecord) (rest : List ResourceRecord)
    → length (flat_map f (if test then r ∷ rest else rest)) ≡ (if test then length (f r) else 0) + length (flat_map f rest)
counted true f r rest = length-append (f r) (flat_map f rest)
counted false f r rest = omega arith

section-more : (section greatest : ℕ) (prefixes : List Prefix6) (r : ResourceRecord) (rest : List ResourceRecord)
    → length (section_of section greatest prefixes (r ∷ rest)) ≡ count_in r.section section (length (stand_in greatest prefixes r)) + length (section_of section greatest prefixes rest)
section-more section greatest prefixes r rest =
    counted (r.section == section) (stand_in greatest prefixes) r (filter (λ other. other.section == section) rest)

pub comes-more : (old new : Body) (greatest : ℕ) (prefixes : List Prefix6) (r : ResourceRecord) (rest all : List ResourceRecord)
    → ComesTo old greatest prefixes (r ∷ rest) all → Grows old new r.section (stand_in greatest prefixes r) (length (made_from greatest prefixes r))
    → ComesTo new greatest prefixes rest all
comes-more old new greatest prefixes r rest all so_far grows =
    let stand : List (List ℕ) = stand_in greatest prefixes r in
    let behind : List (List ℕ) = flat_map (stand_in greatest prefixes) rest in
    let made : length (made_from greatest prefixes r ++ flat_map (made_from greatest prefixes) rest) ≡ length (made_from greatest prefixes r) + count_made greatest prefixes rest =
    length-append (made_from greatest prefixes r) (flat_map (made_from greatest prefixes) rest) in
    record {
      bytes =
          ap (λ (bytes : List ℕ). bytes ++ joined behind) grows.bytes ∙ append_assoc old.bytes.items (joined stand) (joined behind)
          ∙ ap (λ (bytes : List ℕ). old.bytes.items ++ bytes) (sym (joined-append stand behind)) ∙ so_far.bytes;
      answers = omega (arith, so_far.answers, grows.answers, section-more 0 greatest prefixes r rest);
      authorities = omega (arith, so_far.authorities, grows.authorities, section-more 1 greatest prefixes r rest);
      additionals = omega (arith, so_far.additionals, grows.additionals, section-more 2 greatest prefixes r rest);
      made = omega (arith, so_far.made, grows.made, made);
    }
