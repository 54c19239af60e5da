-- When the messages of `dns64` are read, and when they aren't.
use Rattle.std.proofs.Common.{◌≡◌, ◌⊎◌, ℕ, zero, suc, ◌≤◌, ◌<◌, List, [], ◌∷◌, length, Bool, true, false, Option, Some, None, option_map, inl, inr, refl, ap, sym, subst, ◌∙◌, arith, IsTrue}
use Rattle.std.specs.Prelude.{if◌then◌else◌, nat_lt}
use Rattle.std.proofs.lemmas.Bool.{lt-ltb}
use Rattle.std.proofs.lemmas.Bool.Decides.{nat_tests}
use Rattle.siit_command.specs.Reading.{IsLonger, IsUnread, WasRead}
use Rattle.siit_command.specs.declared.reading.Unread.{Unread}
use Rattle.siit_command.specs.declared.reading.Unread.TheVariants as unread
use Rattle.siit_word.specs.Files.{held, FilesMeaning, ReadFailed, Touches}
use Rattle.siit_word.proofs.Touched.{told_after, touches_among, touches_then}
use Rattle.siit_top.specs.Dns64Run.{files_of, first_long, long_if_given, message_word, messages_held, AreShort, HoldsFirst, IsLongAt, IsReadFault, IsShortIfGiven, IsUnreadAt, WasReadIfGiven, WereRead}
use Rattle.siit_top.specs.Runs.{AllTold, SomeRose}
use Rattle.siit_top.specs.Words.{messages_of, Messages}

-- What is read later was so before.
pub read_since : {before mid : FilesMeaning} {reads : List (List ℕ)} {name bytes : List ℕ} → Touches before mid reads [] → WasRead mid name 65535 bytes → WasRead before name 65535 bytes
read_since {before} {mid} {reads} {name} {bytes} only read = record {
  file = λ told. sym (only.contents name tt) ∙ read.file (told_after only name told);
  within = read.within;
  are_bytes = read.are_bytes;
}

longer_since : {before mid : FilesMeaning} {reads : List (List ℕ)} {name : List ℕ} → Touches before mid reads [] → IsLonger mid name 65535 → IsLonger before name 65535
longer_since {before} {mid} {reads} {name} only long = λ told.
    subst (λ (file : Option (List ℕ)). 65535 < length (held file)) (only.contents name tt) (long (told_after only name told))

is_short : (bytes : List ℕ) → length bytes ≤ 65535 → nat_lt 65535 (length bytes) ≡ false
is_short bytes within = grind (arith, nat_tests)

held_short : {files : FilesMeaning} {name bytes : List ℕ} → WasRead files name 65535 bytes → IsTrue (files.told name) → nat_lt 65535 (length (held (files.contents name))) ≡ false
held_short {files} {name} {bytes} read told =
    ap (λ (file : Option (List ℕ)). nat_lt 65535 (length (held file))) (read.file told) ∙ is_short bytes read.within

pub query_unread : (u : Unread) (before after : FilesMeaning) (query aaaa : List ℕ) (a : Option (List ℕ)) → IsUnread before after query 65535 u → IsUnreadAt before after (messages_of query aaaa a) 2 u
query_unread unread.Failed before after query aaaa a cause = record { which = 0; failed = cause }
query_unread unread.NoMemory before after query aaaa a cause = tt
query_unread unread.TooLong before after query aaaa a cause = record { which = 0; word_of = refl; long = cause }

pub aaaa_unread : (u : Unread) (before mid after : FilesMeaning) (query aaaa bytes : List ℕ) (a : Option (List ℕ)) → Touches before mid (query ∷ []) [] → WasRead before query 65535 bytes → IsUnread mid after aaaa 65535 u → IsUnreadAt before after (messages_of query aaaa a) 3 u
aaaa_unread unread.Failed before mid after query aaaa bytes a only read cause = record {
  which = 1;
  failed = ((bytes, read), omega (arith, cause, only.read_faults aaaa));
}
aaaa_unread unread.NoMemory before mid after query aaaa bytes a only read cause = tt
aaaa_unread unread.TooLong before mid after query aaaa bytes a only read cause = record {
  which = 1;
  word_of = refl;
  long = ((bytes, read), longer_since only cause);
}

pub a_unread : (u : Unread) (before mid last after : FilesMeaning) (query aaaa a bytes more : List ℕ) → Touches before mid (query ∷ []) [] → WasRead before query 65535 bytes → Touches mid last (aaaa ∷ []) [] → WasRead mid aaaa 65535 more → IsUnread last after a 65535 u → IsUnreadAt before after (messages_of query aaaa (Some a)) 4 u
a_unread unread.Failed before mid last after query aaaa a bytes more only read then_only then_read cause = record {
  which = 2;
  failed = ((bytes, read), ((more, read_since only then_read), omega (arith, cause, only.read_faults a, then_only.read_faults a)));
}
a_unread unread.NoMemory before mid last after query aaaa a bytes more only read then_only then_read cause = tt
a_unread unread.TooLong before mid last after query aaaa a bytes more only read then_only then_read cause = record {
  which = 2;
  word_of = refl;
  long = ((bytes, read), ((more, read_since only then_read), longer_since only (longer_since then_only cause)));
}

-- Where these files are told, the first that is too long by the run is so by what they hold.
held_long : (files : FilesMeaning) (query aaaa : List ℕ) (a : Option (List ℕ)) (which : ℕ) → HoldsFirst (λ name. IsLonger files name 65535) files (files_of (messages_of query aaaa a)) which → AllTold (files_of (messages_of query aaaa a)) files → first_long (messages_held files (messages_of query aaaa a)) ≡ Some (message_word which)
held_long files query aaaa a zero long told =
    ap (λ b. if b then Some 2 else if nat_lt 65535 (length (held (files.contents aaaa))) then Some 3 else long_if_given (option_map (λ (n : List ℕ). held (files.contents n)) a)) (lt-ltb 65535 (length (held (files.contents query))) (long told.0))
held_long files query aaaa a (suc zero) long told =
    ap (λ b. if b then Some 2 else if nat_lt 65535 (length (held (files.contents aaaa))) then Some 3 else long_if_given (option_map (λ (n : List ℕ). held (files.contents n)) a)) (held_short long.0.1 told.0)
    ∙ ap (λ b. if b then Some 3 else long_if_given (option_map (λ (n : List ℕ). held (files.contents n)) a)) (lt-ltb 65535 (length (held (files.contents aaaa))) (long.1 told.1.0))
held_long files query aaaa None (suc (suc place)) long told = absurd long.1.1
held_long files query aaaa (Some a) (suc (suc zero)) long told =
    ap (λ b. if b then Some 2 else if nat_lt 65535 (length (held (files.contents aaaa))) then Some 3 else long_if_given (option_map (λ (n : List ℕ). held (files.contents n)) (Some a))) (held_short long.0.1 told.0)
    ∙ ap (λ b. if b then Some 3 else long_if_given (option_map (λ (n : List ℕ). held (files.contents n)) (Some a))) (held_short long.1.0.1 told.1.0)
    ∙ ap (λ b. if b then Some 4 else None) (lt-ltb 65535 (length (held (files.contents a))) (long.1.1 told.1.1.0))
held_long files query aaaa (Some a) (suc (suc (suc place))) long told = absurd long.1.1.1

-- A failed read is that of one of the files.
rose_at : (files after : FilesMeaning) (names : List (List ℕ)) (place : ℕ) → HoldsFirst (ReadFailed files after) files names place → SomeRose names files.read_faults after.read_faults
rose_at files after [] place failed = absurd failed
rose_at files after (name ∷ names) zero failed = inl failed
rose_at files after (name ∷ names) (suc place) failed = inr (rose_at files after names place failed.1)

pub some_rose : {before after : FilesMeaning} {names : Messages} → IsReadFault before after names → SomeRose (files_of names) before.read_faults after.read_faults
some_rose {before} {after} {names} fault = rose_at before after (files_of names) fault.which fault.failed

pub first_long_held : {files : FilesMeaning} {names : Messages} {word : ℕ} → IsLongAt files names word → AllTold (files_of names) files → first_long (messages_held files names) ≡ Some word
first_long_held {files} {names} {word} at told =
    held_long files names.query names.aaaa names.a at.which at.long told ∙ ap Some (sym at.word_of)

-- Messages that were read are short.
short_given : (files : FilesMeaning) (name bytes : Option (List ℕ)) → WasReadIfGiven files name bytes → IsShortIfGiven bytes
short_given files None None read = tt
short_given files (Some name) (Some bytes) read = read.within
short_given files None (Some bytes) read = absurd read
short_given files (Some name) None read = absurd read

pub were_short : {files : FilesMeaning} {names messages : Messages} → WereRead files names messages → AreShort messages
were_short {files} {names} {messages} read = record {
  query = read.query.within;
  aaaa = read.aaaa.within;
  a = short_given files names.a messages.a read.a;
}

none_given : (bytes : Option (List ℕ)) → IsShortIfGiven bytes → long_if_given bytes ≡ None
none_given None short = refl
none_given (Some bytes) short = ap (λ b. if b then Some 4 else None) (is_short bytes short)

pub none_long : {messages : Messages} → AreShort messages → first_long messages ≡ None
none_long {messages} short =
    ap (λ b. if b then Some 2 else if nat_lt 65535 (length messages.aaaa) then Some 3 else long_if_given messages.a) (is_short messages.query short.query)
    ∙ ap (λ b. if b then Some 3 else long_if_given messages.a) (is_short messages.aaaa short.aaaa)
    ∙ none_given messages.a short.a

-- which files were read
pub query_only : {before after : FilesMeaning} {query : List ℕ} (aaaa : List ℕ) (a : Option (List ℕ)) → Touches before after (query ∷ []) [] → Touches before after (files_of (messages_of query aaaa a)) []
query_only aaaa a only = touches_among only (λ q none. (none.0, tt)) (λ q none. none)

pub two_only : {before mid after : FilesMeaning} {query aaaa : List ℕ} (a : Option (List ℕ)) → Touches before mid (query ∷ []) [] → Touches mid after (aaaa ∷ []) [] → Touches before after (files_of (messages_of query aaaa a)) []
two_only a only more =
    touches_then (touches_among only (λ q none. (none.0, tt)) (λ q none. none)) (touches_among more (λ q none. (none.1.0, tt)) (λ q none. none))

pub three_only : {before mid last after : FilesMeaning} {query aaaa a : List ℕ} → Touches before mid (query ∷ []) [] → Touches mid last (aaaa ∷ []) [] → Touches last after (a ∷ []) [] → Touches before after (files_of (messages_of query aaaa (Some a))) []
three_only {before} {mid} {last} {after} {query} {aaaa} {a} only more last_only =
    touches_then (two_only (Some a) only more) (touches_among last_only (λ q none. (none.1.1.0, tt)) (λ q none. none))
