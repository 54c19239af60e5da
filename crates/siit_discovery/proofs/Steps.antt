-- One step of the loops over addresses, lengths and records.
use Rattle.std.proofs.Common.{◌≡◌, ◌∙◌, ℕ, suc, ◌+◌, ◌<◌, List, [], ◌∷◌, ◌++◌, length, get_or, drop, map, filter, filter_map, fold, flat_map, Bool, true, false, if◌then◌else◌, Option, Some, None, option_to_list, Result, Ok, Err, refl, sym, ap, arith, add-one, drop-cons}
use Rattle.std.specs.List.{cons_option}
use Rattle.std.proofs.lemmas.List.{map-append}
use Rattle.siit_model.specs.Bytes.{field128}
use Rattle.siit_dns.specs.Faults.{message_fault}
use Rattle.siit_dns.specs.Messages.{DnsMessage, ResourceRecord, message_of}
use Rattle.siit_dns.specs.declared.fault.DnsFault.{DnsFault}
use Rattle.siit_dns.specs.declared.fault.DnsFault.TheVariants.{Bad, NotAnswer}
use Rattle.siit_discovery.specs.Counting.{counting_at}
use Rattle.siit_discovery.specs.Discovery.{Candidate, with_prefix, addresses_of, candidate_at, counting, counts, found, found_in, is_address, is_answer, prefix_of, prefixes_of}
use Rattle.siit_discovery.specs.Refused.{IsDiscoveryFault}

-- the next element of a list that is gone through
pub drop-step : {A : Type 0} (i : ℕ) (xs : List A) (x : A) → i < length xs → x ≡ get_or xs i x → drop i xs ≡ x ∷ drop (i + 1) xs
drop-step i xs x lt is_x = rw add-one (drop-cons xs i x lt ∙ ap (λ y. y ∷ drop (suc i) xs) (sym is_x))

pub drop-at : (i : ℕ) (xs : List ℕ) → i < length xs → drop i xs ≡ get_or xs i 0 ∷ drop (i + 1) xs
drop-at i xs lt = rw add-one (drop-cons xs i 0 lt)

count_of : (first : Option Candidate) (others : List Candidate) → length (cons_option first others) ≡ length (option_to_list first) + length others
count_of None others = omega arith
count_of (Some c) others = omega arith

pub count-more : (x len : ℕ) (lengths : List ℕ)
    → length (filter_map (candidate_at x) (len ∷ lengths)) ≡ length (option_to_list (candidate_at x len)) + length (filter_map (candidate_at x) lengths)
count-more x len lengths = count_of (candidate_at x len) (filter_map (candidate_at x) lengths)

-- what is found over two lists
pub fold-append : {A B : Type 0} (f : A → B → A) (start : A) (xs ys : List B) → fold f start (xs ++ ys) ≡ fold f (fold f start xs) ys
fold-append f start [] ys = refl
fold-append f start (x ∷ xs) ys = fold-append f (f start x) xs ys

by_test : (test : Bool) (c : Candidate) (others : List Candidate) → (if test then c ∷ others else others) ≡ (if test then c ∷ [] else []) ++ others
by_test true c others = refl
by_test false c others = refl

filter-option : (test : Candidate → Bool) (first : Option Candidate) (others : List Candidate)
    → filter test (cons_option first others) ≡ filter test (option_to_list first) ++ filter test others
filter-option test None others = refl
filter-option test (Some c) others = by_test (test c) c (filter test others)

-- the candidate of one length, and those of the lengths behind it
pub length-more : (alone : Bool) (addresses lengths : List ℕ) (x len : ℕ) (found : List (ℕ × ℕ))
    → fold with_prefix found (map prefix_of (filter (counts alone addresses) (filter_map (candidate_at x) (len ∷ lengths))))
    ≡ fold with_prefix (fold with_prefix found (map prefix_of (counting_at alone addresses (candidate_at x len)))) (map prefix_of (filter (counts alone addresses) (filter_map (candidate_at x) lengths)))
length-more alone addresses lengths x len found =
    let first : List Candidate = counting_at alone addresses (candidate_at x len) in
    let others : List Candidate = filter (counts alone addresses) (filter_map (candidate_at x) lengths) in
    ap (λ (cs : List Candidate). fold with_prefix found (map prefix_of cs)) (filter-option (counts alone addresses) (candidate_at x len) (filter_map (candidate_at x) lengths))
    ∙ ap (fold with_prefix found) (map-append prefix_of first others)
    ∙ fold-append with_prefix found (map prefix_of first) (map prefix_of others)

-- the candidates of one address, and those of the addresses behind it
pub address-more : (addresses rest : List ℕ) (x : ℕ) (found : List (ℕ × ℕ))
    → fold with_prefix found (map prefix_of (flat_map (counting addresses) (x ∷ rest)))
    ≡ fold with_prefix (fold with_prefix found (map prefix_of (counting addresses x))) (map prefix_of (flat_map (counting addresses) rest))
address-more addresses rest x found =
    ap (fold with_prefix found) (map-append prefix_of (counting addresses x) (flat_map (counting addresses) rest))
    ∙ fold-append with_prefix found (map prefix_of (counting addresses x)) (map prefix_of (flat_map (counting addresses) rest))

-- the address of one record, and those of the records behind it
by_test_of : (test : Bool) (r : ResourceRecord) (rest : List ResourceRecord)
    → map (λ other. field128 other.rdata 0) (if test then r ∷ filter is_address rest else filter is_address rest)
    ≡ map (λ other. field128 other.rdata 0) (if test then r ∷ [] else []) ++ addresses_of rest
by_test_of true r rest = refl
by_test_of false r rest = refl

pub record-more : (r : ResourceRecord) (rest : List ResourceRecord) → addresses_of (r ∷ rest) ≡ addresses_of (r ∷ []) ++ addresses_of rest
record-more r rest = by_test_of (is_address r) r rest

-- how an answer is refused
read_refused_of : (read : Result DnsMessage ℕ) (fault : DnsFault) → Some fault ≡ message_fault read → IsDiscoveryFault fault (found_in read)
read_refused_of (Ok message) fault is_fault = absurd (cc)
read_refused_of (Err place) fault is_fault = let same : fault ≡ Bad place = cc in rw same refl

pub read-refused : (bytes : List ℕ) (fault : DnsFault) → Some fault ≡ message_fault (message_of bytes) → IsDiscoveryFault fault (found bytes)
unfolding found
read-refused bytes fault is_fault = read_refused_of (message_of bytes) fault is_fault

pub found-is : (bytes : List ℕ) (message : DnsMessage) → message_of bytes ≡ Ok message
    → found bytes ≡ (if is_answer message then Ok (prefixes_of (addresses_of message.records)) else Err NotAnswer)
unfolding found
found-is bytes message is_message = ap found_in is_message
