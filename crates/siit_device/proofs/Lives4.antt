-- What comes of a packet from the IPv4 side may live less long than it.
use Rattle.std.proofs.Common.{◌≡◌, ◌⊎◌, inl, inr, ℕ, ◌+◌, ◌-◌, ◌*◌, ◌/◌, ◌<◌, ◌≤◌, List, [], ◌∷◌, length, drop, map, Bool, true, false, not, ◌&&◌, ◌||◌, ◌==◌, nat_lt, if◌then◌else◌, Option, Some, None, Result, Ok, ◌∙◌, ap, sym, subst, refl, arith, eq-eqb, ne_eqb}
use Rattle.std.specs.List.{AllByRecursion}
use Rattle.std.specs.Result.{result_err}
use Rattle.std.proofs.lemmas.Bool.{ltb-false, eqb-true}
use Rattle.siit_model.specs.Bytes.{AreBytes, field8}
use Rattle.siit_model.specs.Fragments.{Fragment, fragment4, fragment_packet6, is_whole, plain_packet6}
use Rattle.siit_model.specs.Ipv4.{Ipv4Packet, ipv4_fields, is_bad_header4, is_short4, is_whole4, version_in}
use Rattle.siit_model.specs.Ipv6.{Ipv6Packet, ipv6_bytes}
use Rattle.siit_rules.specs.Rows.{row_of}
use Rattle.siit_rules.specs.declared.rule.Answer.{Answer}
use Rattle.siit_rules.specs.declared.rule.Answer.TheVariants.{Silent, Icmp4, Icmp6}
use Rattle.siit_rules.specs.declared.rule.Rule.{Rule}
use Rattle.siit_rules.specs.declared.rule.Rule.TheVariants.{BadHeader4, Short4, Expired4, SourceRoute4, ProtocolClash4, RoleSource4, RoleDestination4, SourceMap4, DestinationMap4, TooBig4, IcmpType4, IcmpCode4}
use Rattle.siit_fragments.specs.Pieces.{blocks_of, piece_of, pieces_of}
use Rattle.siit_fragments.proofs.Pieces.{All-pieces, piece-length}
use Rattle.siit_icmp.specs.Errors.{is_error_kind4, is_error_kind6}
use Rattle.siit_icmp.specs.Icmp.{icmp_to_6}
use Rattle.siit_icmp.specs.declared.kinds.NewKind.{NewKind}
use Rattle.siit_v4to6.specs.To6.{ends_to_6}
use Rattle.siit_v4to6.proofs.Good.{to_6-length}
use Rattle.siit_v4to6.proofs.Packets.{fragment-packet, plain-packet}
use Rattle.siit_quoted.specs.Quotes.{written_class}
use Rattle.siit_chain.specs.Outcome.{Falls, dropped, pieces, through}
use Rattle.siit_roles.specs.Limits.{IsWithinLimits}
use Rattle.siit_roles.specs.declared.settings.Settings.{Settings}
use Rattle.siit_errors.specs.Answers.{is_perhaps_error, may_answer4, may_answer6}
use Rattle.siit_errors.specs.Errors.{answer4, error4, error_packet4}
use Rattle.siit_device.specs.Answers.{told_to_4}
use Rattle.siit_device.specs.Arrival4.{is_error4, is_icmp_fragment4, is_icmp_refused4, is_upper_short4}
use Rattle.siit_device.specs.Forward.{error_by6, error_to_6, head6_for, is_cut6, is_error_fragment4, lacks_checksum, pieces6, translated6, upper_forward, whole6}
use Rattle.siit_device.specs.Laws.{life, measure}
use Rattle.siit_device.specs.Outcome.{outcome4, outcome_by4}
use Rattle.siit_device.specs.Rows.{first_of, is_by, or_rule}
use Rattle.siit_device.specs.Rules4.{bytes_rows4, first_rule4, header_rows4, packet_rule4, upper_rows4}
use Rattle.siit_device.specs.Shapes.{is_misshapen, least_upper}
use Rattle.siit_device.proofs.ErrorKinds.{kinds6}
use Rattle.siit_device.proofs.Lists.{all-made}
use Rattle.siit_device.proofs.Read.{answer-falls, falls-by, later-silent6, lived4, lived6, made6, message-silent4, message-silent6}
use Rattle.siit_device.proofs.Rows.{neither, none-at}

-- TESTS

pub and-second : (a b : Bool) → (a && b) ≡ false → a ≡ true → b ≡ false
and-second true b is is_a = is
and-second false b is is_a = cc

pub not-false : (a : Bool) → not a ≡ false → a ≡ true
not-false true is = refl
not-false false is = cc

pub not-true : (a : Bool) → a ≡ false → not a ≡ true
not-true true is = cc
not-true false is = refl

pub or-last : (a b c : Bool) → (a || b || c) ≡ false → c ≡ false
or-last true b c is = cc
or-last false true c is = cc
or-last false false c is = is

pub and-true : (a b : Bool) → (a && b) ≡ true → (a ≡ true) × (b ≡ true)
and-true true true is = (refl, refl)
and-true true false is = cc
and-true false b is = cc

pub second-out : (a b c : Bool) → b ≡ false → (a && (b && c)) ≡ false
second-out true true c is = cc
second-out true false c is = refl
second-out false b c is = refl

pub if-true : {A : Type 0} (test : Bool) (one other : A) → test ≡ true → (if test then one else other) ≡ one
if-true true one other is = refl
if-true false one other is = cc

-- why a packet isn't answered: it is a later fragment, or an ICMP message that is an error or has no type
pub unanswered : (first icmp error : Bool) → (first && not (icmp && error)) ≡ false → (first ≡ false) ⊎ ((first ≡ true) × ((icmp ≡ true) × (error ≡ true)))
unanswered true true true is = inr (refl, (refl, refl))
unanswered true true false is = cc
unanswered true false error is = cc
unanswered false icmp error is = inl refl

cc-bool : false ≡ true → ⊥
cc-bool e = cc

pub nonzero : (n : ℕ) → (n == 0) ≡ false → n ≡ 0 → ⊥
nonzero n is none = cc-bool (sym is ∙ eq-eqb n 0 none)

-- the type of a message that is there
pub kind-there : (kinds : ℕ → Bool) (message : List ℕ) → 1 ≤ length message → is_perhaps_error kinds message ≡ kinds (field8 message 0)
kind-there kinds [] there = absurd (omega arith)
kind-there kinds (kind ∷ rest) there = refl

-- a fragment that is no whole packet ends within the longest datagram
pub ends-within : (f : Fragment) → is_misshapen f ≡ false → is_whole f ≡ false → 8 * f.offset + length f.bytes ≤ 65535
ends-within f shaped part_of =
    ltb-false 65535 (8 * f.offset + length f.bytes)
    (or-last (length f.bytes == 0) _ (nat_lt 65535 (8 * f.offset + length f.bytes)) (and-second (not (is_whole f)) _ shaped (not-true (is_whole f) part_of)))

pub later-part : (first more : Bool) → first ≡ false → (first && not more) ≡ false
later-part true more is = cc
later-part false more is = refl

-- THE RULES

-- what no rule leaves
record Left4 (packet : Ipv4Packet) : Type 0 where
  alive : 2 ≤ packet.ttl
  shaped : is_misshapen (fragment4 packet) ≡ false
  long : is_upper_short4 packet ≡ false
  whole : is_icmp_fragment4 packet ≡ false
  kind : is_icmp_refused4 IcmpType4 packet ≡ false
  code : is_icmp_refused4 IcmpCode4 packet ≡ false

left4 : (settings : Settings) (packet : Ipv4Packet) → packet_rule4 settings packet ≡ None → Left4 packet
unfolding header_rows4 upper_rows4 packet_rule4
left4 settings packet is =
    let header = neither (first_of header_rows4 packet) _ is in
    let upper = neither (first_of (upper_rows4 settings) packet) _ header.1 in
    record {
      alive = ltb-false packet.ttl 2 (none-at 3 header_rows4 packet header.0);
      shaped = none-at 2 header_rows4 packet header.0;
      long = none-at 0 (upper_rows4 settings) packet upper.0;
      whole = none-at 1 (upper_rows4 settings) packet upper.0;
      kind = none-at 5 (upper_rows4 settings) packet upper.0;
      code = none-at 6 (upper_rows4 settings) packet upper.0;
    }

-- THE ANSWER

abbrev IsError4 : Answer → Type 0
IsError4 (Icmp4 kind code) = is_error_kind4 kind ≡ true
IsError4 answer = Unit {0}

answers-are-errors : (rule : Rule) → IsError4 (row_of rule).answer
answers-are-errors Expired4 = refl
answers-are-errors SourceRoute4 = refl
answers-are-errors ProtocolClash4 = refl
answers-are-errors RoleSource4 = refl
answers-are-errors RoleDestination4 = refl
answers-are-errors SourceMap4 = refl
answers-are-errors DestinationMap4 = refl
answers-are-errors TooBig4 = refl
answers-are-errors rule = tt

error-lives : (source kind code rest : ℕ) (bytes : List ℕ) → is_error_kind4 kind ≡ true → measure (error4 source kind code rest bytes) ≡ life false 64
error-lives source kind code rest bytes error =
    lived4 (error4 source kind code rest bytes) refl
    ∙ ap (λ (a : Bool). life a 64) (message-silent4 (error_packet4 source kind code rest bytes) kind _ refl refl refl error)

answered : (a : Bool) (source kind code rest : ℕ) (bytes : List ℕ) → version_in bytes ≡ 4 → may_answer4 bytes ≡ a → is_error_kind4 kind ≡ true → (rule : Rule)
    → Falls measure bytes (dropped rule (if a then Some (error4 source kind code rest bytes) else None))
answered false source kind code rest bytes four is error rule = tt
answered true source kind code rest bytes four is error rule =
    subst (λ n. n < measure bytes) (sym (error-lives source kind code rest bytes error))
    (subst (λ n. life false 64 < n) (sym (lived4 bytes four ∙ ap (λ (a : Bool). life a (ipv4_fields bytes).ttl) is)) (answer-falls (ipv4_fields bytes).ttl))

dropped-falls : (answer : Answer) (source rest : ℕ) (bytes : List ℕ) → version_in bytes ≡ 4 → IsError4 answer → (rule : Rule) → Falls measure bytes (dropped rule (answer4 answer source rest bytes))
dropped-falls Silent source rest bytes four error rule = tt
dropped-falls (Icmp4 kind code) source rest bytes four error rule = answered (may_answer4 bytes) source kind code rest bytes four refl error rule
dropped-falls (Icmp6 kind code) source rest bytes four error rule = tt

-- THE PACKET THAT GOES ON

class-small : (zero : Bool) (tos : ℕ) → tos < 256 → written_class zero tos < 256
class-small true tos small = omega arith
class-small false tos small = small

-- bytes of a later fragment keep their number
choice-two : (one other : Bool) (a b c : List ℕ) → one ≡ false → other ≡ false → (if one then a else if other then b else c) ≡ c
choice-two one other a b c is_one is_other = rw (is_one, is_other) refl

later-length : (settings : Settings) (f : Fragment) → is_whole f ≡ false → length (upper_forward settings f) ≡ length f.bytes
later-length settings f part_of =
    ap length (choice-two (is_error_fragment4 f) (lacks_checksum f) _ _ _ (second-out (f.common.protocol == 1) (is_whole f) _ part_of) (second-out (f.common.protocol == 17) (is_whole f) _ part_of))
    ∙ to_6-length (ends_to_6 (head6_for settings f.common) f.common) (length f.bytes) f

-- a whole ICMP error among the packets that aren't answered
record Error4 (packet : Ipv4Packet) : Type 0 where
  is : is_error4 packet ≡ true
  icmp : packet.protocol ≡ 1
  whole : is_whole (fragment4 packet) ≡ true
  fragment : is_error_fragment4 (fragment4 packet) ≡ true
  error : is_error_kind4 (field8 packet.payload 0) ≡ true

one-zero : (n : ℕ) → n ≡ 1 → n ≡ 0 → ⊥
one-zero n one none = omega arith

both-one : (mf : ℕ) → (mf == 0) ≡ true → (mf == 1) ≡ false
both-one mf none = ne_eqb mf 1 (λ (one : mf ≡ 1). one-zero mf one (eqb-true mf 0 none))

error-facts : (packet : Ipv4Packet) → Left4 packet → (packet.offset == 0) ≡ true → (packet.protocol == 1) ≡ true → is_perhaps_error is_error_kind4 packet.payload ≡ true → Error4 packet
error-facts packet left first icmp error =
    let protocol : packet.protocol ≡ 1 = eqb-true packet.protocol 1 icmp in
    let short = and-second (packet.offset == 0) (nat_lt (length packet.payload) (least_upper 1 packet.protocol)) left.long first in
    let long : 8 ≤ length packet.payload = ltb-false (length packet.payload) 8 (sym (ap (λ n. nat_lt (length packet.payload) (least_upper 1 n)) protocol) ∙ short) in
    let kind : is_error_kind4 (field8 packet.payload 0) ≡ true = sym (kind-there is_error_kind4 packet.payload (omega arith)) ∙ error in
    let whole4 : is_whole4 packet ≡ true = not-false (is_whole4 packet) (and-second (packet.protocol == 1) (not (is_whole4 packet)) left.whole icmp) in
    let no_more : (packet.mf == 1) ≡ false = both-one packet.mf (and-true (packet.offset == 0) (packet.mf == 0) whole4).1 in
    let whole : is_whole (fragment4 packet) ≡ true = rw (first, no_more) refl in
    record {
      is = rw (icmp, whole4, kind) refl;
      icmp = protocol;
      whole = whole;
      fragment = rw (icmp, whole, kind) refl;
      error = kind;
    }

-- the message of an error begins with its new type
error-forward : (settings : Settings) (packet : Ipv4Packet) → Left4 packet → Error4 packet
    → (kind : ℕ) × (rest : List ℕ) × ((upper_forward settings (fragment4 packet) ≡ kind ∷ rest) × (is_error_kind6 kind ≡ true))
unfolding error_to_6
error-forward settings packet left error =
    let f : Fragment = fragment4 packet in
    let icmp : (packet.protocol == 1) ≡ true = eq-eqb packet.protocol 1 error.icmp in
    let r : Result NewKind Rule = icmp_to_6 (field8 packet.payload 0) (field8 packet.payload 1) in
    let new = kinds6 (field8 packet.payload 0) (field8 packet.payload 1) error.error
    (and-second (packet.protocol == 1) (is_by IcmpType4 (result_err r)) left.kind icmp) (and-second (packet.protocol == 1) (is_by IcmpCode4 (result_err r)) left.code icmp) in
    let made : List ℕ = error_by6 settings f.common f.bytes (Ok new.0) in
    (new.0.kind, drop 1 made, (if-true (is_error_fragment4 f) _ _ error.fragment ∙ ap (error_by6 settings f.common f.bytes) new.1.0, new.1.1))

true-not : (a : Bool) → a ≡ true → not a ≡ false
true-not true is = refl
true-not false is = cc

not-is : (a : Bool) → not a ≡ true → a ≡ false
not-is true is = cc
not-is false is = refl

pub within : (offset begins all len : ℕ) → 8 * offset + all ≤ 65535 → len ≡ all → 8 * begins < len → offset + begins < 8192
within offset begins all len fits is there = omega arith

pub later-still : (offset begins : ℕ) → (offset ≡ 0 → ⊥) → offset + begins ≡ 0 → ⊥
later-still offset begins some none = some (omega arith)

-- the fragment on the other side
abbrev image : Settings → Ipv4Packet → Fragment
image settings packet = translated6 settings (fragment4 packet)

silent-whole-by : (settings : Settings) (packet : Ipv4Packet) → packet.offset < 8192 → Left4 packet
    → ((packet.offset == 0) ≡ false) ⊎ (((packet.offset == 0) ≡ true) × (((packet.protocol == 1) ≡ true) × (is_perhaps_error is_error_kind4 packet.payload ≡ true)))
    → may_answer6 (ipv6_bytes (whole6 settings packet)) ≡ false
silent-whole-by settings packet small left (inl later) =
    let f : Fragment = fragment4 packet in
    let g : Fragment = image settings packet in
    let part_of : is_whole f ≡ false = later-part (packet.offset == 0) f.more later in
    let fits = ends-within f left.shaped part_of in
    let size = later-length settings f part_of in
    let some : packet.offset ≡ 0 → ⊥ = nonzero packet.offset later in
    ap (λ (p : Ipv6Packet). may_answer6 (ipv6_bytes p)) (fragment-packet false g (not-true (is_whole f) part_of))
    ∙ later-silent6 g small some (omega (arith, fits, size, some))
silent-whole-by settings packet small left (inr error) =
    let g : Fragment = image settings packet in
    let facts = error-facts packet left error.0 error.1.0 error.1.1 in
    let message = error-forward settings packet left facts in
    ap (λ (p : Ipv6Packet). may_answer6 (ipv6_bytes p)) (plain-packet false g (true-not (is_whole (fragment4 packet)) facts.whole))
    ∙ message-silent6 (plain_packet6 g) message.0 message.1 (if-true (packet.protocol == 1) 58 packet.protocol error.1.0) message.2.0 message.2.1

silent-pieces-by : (settings : Settings) (packet : Ipv4Packet) (k : ℕ) → packet.offset < 8192 → Left4 packet → is_error4 packet ≡ false
    → 8 * (k * blocks_of 48 settings.lowest) < length (image settings packet).bytes
    → ((packet.offset == 0) ≡ false) ⊎ (((packet.offset == 0) ≡ true) × (((packet.protocol == 1) ≡ true) × (is_perhaps_error is_error_kind4 packet.payload ≡ true)))
    → may_answer6 (ipv6_bytes (fragment_packet6 (piece_of (blocks_of 48 settings.lowest) (image settings packet) k))) ≡ false
silent-pieces-by settings packet k small left no_error begins (inl later) =
    let f : Fragment = fragment4 packet in
    let g : Fragment = image settings packet in
    let blocks : ℕ = blocks_of 48 settings.lowest in
    let part_of : is_whole f ≡ false = later-part (packet.offset == 0) f.more later in
    let fits = ends-within f left.shaped part_of in
    let size = later-length settings f part_of in
    let some : packet.offset ≡ 0 → ⊥ = nonzero packet.offset later in
    let piece = piece-length blocks g k in
    later-silent6 (piece_of blocks g k) (within packet.offset (k * blocks) (length f.bytes) (length g.bytes) fits size begins) (later-still packet.offset (k * blocks) some)
    (omega (arith, fits, size, some, piece))
silent-pieces-by settings packet k small left no_error begins (inr error) = absurd (cc-bool (sym no_error ∙ (error-facts packet left error.0 error.1.0 error.1.1).is))

silent-whole : (settings : Settings) (bytes : List ℕ) → Left4 (ipv4_fields bytes) → may_answer4 bytes ≡ false → may_answer6 (ipv6_bytes (whole6 settings (ipv4_fields bytes))) ≡ false
silent-whole settings bytes left silent =
    let packet : Ipv4Packet = ipv4_fields bytes in
    silent-whole-by settings packet (omega arith) left
    (unanswered (packet.offset == 0) (packet.protocol == 1) (is_perhaps_error is_error_kind4 packet.payload) silent)

silent-pieces : (settings : Settings) (packet : Ipv4Packet) (k : ℕ) → packet.offset < 8192 → Left4 packet → is_error4 packet ≡ false
    → 8 * (k * blocks_of 48 settings.lowest) < length (image settings packet).bytes
    → ((packet.offset == 0) && not ((packet.protocol == 1) && is_perhaps_error is_error_kind4 packet.payload)) ≡ false
    → may_answer6 (ipv6_bytes (fragment_packet6 (piece_of (blocks_of 48 settings.lowest) (image settings packet) k))) ≡ false
silent-pieces settings packet k small left no_error begins silent =
    silent-pieces-by settings packet k small left no_error begins (unanswered (packet.offset == 0) (packet.protocol == 1) (is_perhaps_error is_error_kind4 packet.payload) silent)

-- what goes on, whole or in pieces
goes-on : (settings : Settings) (bytes : List ℕ) (p : Ipv6Packet) → AreBytes bytes → version_in bytes ≡ 4 → 2 ≤ (ipv4_fields bytes).ttl
    → p.class ≡ written_class settings.tos_zero (ipv4_fields bytes).tos → p.flow ≡ 0 → p.hop ≡ (ipv4_fields bytes).ttl - 1
    → (may_answer4 bytes ≡ false → may_answer6 (ipv6_bytes p) ≡ false) → measure (ipv6_bytes p) < measure bytes
goes-on settings bytes p small four alive is_class is_flow is_hop silent =
    let class = class-small settings.tos_zero (ipv4_fields bytes).tos (small 1) in
    let six = made6 p (subst (λ n. n < 256) (sym is_class) class) (subst (λ n. n < 1048576) (sym is_flow) (omega arith)) in
    subst (λ n. n < measure bytes) (sym (lived6 (ipv6_bytes p) six))
    (subst (λ n. life (may_answer6 (ipv6_bytes p)) p.hop < n) (sym (lived4 bytes four))
    (falls-by (may_answer4 bytes) (may_answer6 (ipv6_bytes p)) (ipv4_fields bytes).ttl p.hop alive is_hop silent))

whole-falls : (settings : Settings) (bytes : List ℕ) → AreBytes bytes → version_in bytes ≡ 4 → Left4 (ipv4_fields bytes)
    → measure (ipv6_bytes (whole6 settings (ipv4_fields bytes))) < measure bytes
whole-falls settings bytes small four left =
    goes-on settings bytes (whole6 settings (ipv4_fields bytes)) small four left.alive refl refl refl (silent-whole settings bytes left)

some-blocks : (lowest : ℕ) → 1280 ≤ lowest → 0 < (lowest - 48) / 8
some-blocks lowest least = omega arith

pieces-fall : (settings : Settings) (bytes : List ℕ) → IsWithinLimits settings → AreBytes bytes → version_in bytes ≡ 4 → Left4 (ipv4_fields bytes) → is_cut6 settings (ipv4_fields bytes) ≡ true
    → AllByRecursion (λ next. measure next < measure bytes) (map ipv6_bytes (pieces6 settings (ipv4_fields bytes)))
pieces-fall settings bytes limits small four left cut =
    let packet : Ipv4Packet = ipv4_fields bytes in
    let blocks : ℕ = blocks_of 48 settings.lowest in
    let no_error : is_error4 packet ≡ false = not-is (is_error4 packet) (and-true (not (is_error4 packet)) _ (and-true (packet.df == 0) _ cut).1).0 in
    all-made (λ next. measure next < measure bytes) fragment_packet6 ipv6_bytes (pieces_of blocks (image settings packet))
    (All-pieces (λ g. measure (ipv6_bytes (fragment_packet6 g)) < measure bytes) blocks (image settings packet) (some-blocks settings.lowest limits.lowest)
    (λ k begins.
    goes-on settings bytes (fragment_packet6 (piece_of blocks (image settings packet) k)) small four left.alive refl refl refl
    (λ silent. silent-pieces settings packet k (omega arith) left no_error begins silent)))

-- ALL THAT COMES

passed : (settings : Settings) (bytes : List ℕ) (cut : Bool) → IsWithinLimits settings → AreBytes bytes → version_in bytes ≡ 4 → Left4 (ipv4_fields bytes) → is_cut6 settings (ipv4_fields bytes) ≡ cut
    → Falls measure bytes (if cut then pieces false (map ipv6_bytes (pieces6 settings (ipv4_fields bytes))) else through false (ipv6_bytes (whole6 settings (ipv4_fields bytes))))
passed settings bytes true limits small four left is = pieces-fall settings bytes limits small four left is
passed settings bytes false limits small four left is = whole-falls settings bytes small four left

by-rule : (settings : Settings) (bytes : List ℕ) (found : Option Rule) → IsWithinLimits settings → AreBytes bytes → version_in bytes ≡ 4 → packet_rule4 settings (ipv4_fields bytes) ≡ found
    → Falls measure bytes (outcome_by4 settings bytes found)
by-rule settings bytes (Some rule) limits small four is =
    dropped-falls (row_of rule).answer settings.address4.0 (told_to_4 settings rule (ipv4_fields bytes)) bytes four (answers-are-errors rule) rule
by-rule settings bytes None limits small four is =
    passed settings bytes (is_cut6 settings (ipv4_fields bytes)) limits small four (left4 settings (ipv4_fields bytes) is) refl

first-or : (version : Bool) (b c d : Bool) → (not version || b || c || d) ≡ false → version ≡ true
first-or true b c d is = refl
first-or false b c d is = cc

by-shape : (settings : Settings) (bytes : List ℕ) (short bad : Bool) → IsWithinLimits settings → AreBytes bytes → is_bad_header4 bytes ≡ bad
    → Falls measure bytes (outcome_by4 settings bytes (or_rule (if short then Some Short4 else if bad then Some BadHeader4 else None) (packet_rule4 settings (ipv4_fields bytes))))
by-shape settings bytes true bad limits small is = tt
by-shape settings bytes false true limits small is = tt
by-shape settings bytes false false limits small is =
    by-rule settings bytes (packet_rule4 settings (ipv4_fields bytes)) limits small (eqb-true (version_in bytes) 4 (first-or (version_in bytes == 4) _ _ _ is)) refl

pub falls4 : (settings : Settings) (bytes : List ℕ) → IsWithinLimits settings → AreBytes bytes → Falls measure bytes (outcome4 settings bytes)
unfolding outcome4 first_rule4 bytes_rows4
falls4 settings bytes limits small = by-shape settings bytes (is_short4 bytes) (is_bad_header4 bytes) limits small refl
