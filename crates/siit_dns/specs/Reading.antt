-- What a message and an iterator over its records are seen as.
use Rattle.std.specs.Prelude.{◌≡◌, ℕ, List, [], Result, Ok, Err, IsTrue, is_ok, ◌≤◌, length}
use Rattle.siit_dns.specs.Messages.{DnsMessage, question_at, records_from, message_of}

-- an item that is in order, and the place behind it
abbrev pub value_of : {A : Type 0} → A → Result (A × ℕ) ℕ → A
value_of none (Ok x) = x.0
value_of none (Err place) = none

abbrev pub end_of : {A : Type 0} → Result (A × ℕ) ℕ → Result ℕ ℕ
end_of (Ok x) = Ok x.1
end_of (Err place) = Err place

abbrev pub place_of : {A : Type 0} → Result (A × ℕ) ℕ → ℕ
place_of (Ok x) = x.1
place_of (Err place) = place

-- the message that the bytes are; bytes at fault are seen as an empty one
abbrev pub the_message : Result DnsMessage ℕ → DnsMessage
the_message (Ok message) = message
the_message (Err place) = record { id = 0; flags = 0; question = record { name = []; kind = 0; class = 0 }; records = [] }

-- a message, and the place of its first record
pub record IsMessage (bytes : List ℕ) (first : ℕ) : Type 0 where
  pub whole : IsTrue (is_ok (message_of bytes))
  pub first_is : first ≡ place_of (question_at bytes 12)
  pub within : first ≤ length bytes

-- records that are in order from a place on
pub record AreRecords (bytes : List ℕ) (place : ℕ) (sections : List ℕ) : Type 0 where
  pub whole : IsTrue (is_ok (records_from sections bytes place))
  pub within : place ≤ length bytes
