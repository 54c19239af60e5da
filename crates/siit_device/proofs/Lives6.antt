-- What comes of a packet from the IPv6 side may live less long than it.
use Rattle.std.proofs.Common.{◌≡◌, ◌⊎◌, inl, inr, ℕ, zero, suc, ◌+◌, ◌-◌, ◌*◌, ◌/◌, ◌<◌, ◌≤◌, List, [], ◌∷◌, ◌++◌, length, take, drop, map, Bool, true, false, not, ◌&&◌, ◌||◌, ◌==◌, nat_lt, nat_le, if◌then◌else◌, Option, Some, None, Result, Ok, Err, ◌∙◌, ap, sym, subst, refl, arith, eq-eqb, length-append, length-drop}
use Rattle.std.specs.List.{AllByRecursion}
use Rattle.std.specs.Result.{result_err}
use Rattle.std.proofs.lemmas.Bool.{eqb-true, leb-true, ltb-false}
use Rattle.std.proofs.lemmas.List.{drop_at, drop-take, length-take, length-take-le, take-append-drop, take-take}
use Rattle.std.proofs.Math.Nat.{suc-mul}
use Rattle.siit_model.specs.Bytes.{AreBytes, field8, part}
use Rattle.siit_model.specs.Extensions.{FragmentFields, Trouble, Walked, walk_of}
use Rattle.siit_model.specs.Fragments.{Common, Fragment, fields_in, fragment_by, is_whole, packet4}
use Rattle.siit_model.specs.Ipv4.{Ipv4Packet, ipv4_bytes}
use Rattle.siit_model.specs.Ipv6.{Ipv6Packet, ipv6_bytes, ipv6_fields, is_bad_header6, is_short6, payload_length_in, version6_in}
use Rattle.siit_addr.specs.declared.addr.Addresses6.{Addresses6}
use Rattle.siit_rules.specs.Rows.{row_of}
use Rattle.siit_rules.specs.declared.rule.Answer.{Answer}
use Rattle.siit_rules.specs.declared.rule.Answer.TheVariants.{Silent, Icmp4, Icmp6}
use Rattle.siit_rules.specs.declared.rule.Rule.{Rule}
use Rattle.siit_rules.specs.declared.rule.Rule.TheVariants.{BadHeader6, Short6, Expired6, SegmentsLeft6, ProtocolClash6, RoleSource6, RoleDestination6, SourceMap6, DestinationMap6, HairpinSource6, TooBig6, IcmpType6, IcmpCode6}
use Rattle.siit_checksum.proofs.Fields.{field16-small}
use Rattle.siit_fragments.specs.Pieces.{blocks_of, piece_of, pieces_of}
use Rattle.siit_fragments.proofs.Pieces.{All-pieces}
use Rattle.siit_hairpin.specs.declared.hairpin.TurnAnswer.{TurnAnswer}
use Rattle.siit_hairpin.specs.declared.hairpin.TurnAnswer.TheVariants.{Not, Pair, Refused}
use Rattle.siit_icmp.specs.Errors.{is_error_kind4, is_error_kind6}
use Rattle.siit_icmp.specs.Icmp.{icmp_to_4}
use Rattle.siit_icmp.specs.declared.kinds.NewKind.{NewKind}
use Rattle.siit_icmp.specs.declared.kinds.Rest.{Rest}
use Rattle.siit_icmp.specs.declared.kinds.Rest.TheVariants.{Same, Zero, Mtu, Pointer, PointerSix, Length}
use Rattle.siit_v6to4.specs.To4.{df_for, ends_to_4, identification, walk_in}
use Rattle.siit_v6to4.proofs.Good.{to_4-length}
use Rattle.siit_quoted.specs.Bodies.{NewBody, carried_to_4, has_extension, joined_to_4, length_octet6, padding, part_of}
use Rattle.siit_quoted.specs.Errors.{part_to_4, quote_by_walk}
use Rattle.siit_quoted.specs.Quoted.{QuotedIpv6, quoted6_fields}
use Rattle.siit_quoted.specs.Quotes.{quote_to_4}
use Rattle.siit_quoted.specs.Rewriting.{quote_head_to_4, quoted_upper_to_4}
use Rattle.siit_quoted.proofs.Extended.{joined-length}
use Rattle.siit_quoted.proofs.Quotes64.{upper-length-kept}
use Rattle.siit_chain.specs.Outcome.{Falls, dropped, pieces, through}
use Rattle.siit_roles.specs.Limits.{IsWithinLimits}
use Rattle.siit_roles.specs.declared.settings.Settings.{Settings}
use Rattle.siit_errors.specs.Answers.{is_perhaps_error, may_answer4, may_answer6}
use Rattle.siit_errors.specs.Errors.{answer6, error6, error_packet6}
use Rattle.siit_device.specs.Addresses.{to4}
use Rattle.siit_device.specs.Answers.{told_to_6}
use Rattle.siit_device.specs.Arrival6.{Arrived, arrived_fragment, is_error6, is_icmp_fragment6, is_icmp_refused6, is_upper_short6, quoted_part6, turn_for}
use Rattle.siit_device.specs.Backward.{error_by4, error_to_4, head4_for, is_number_used, is_sent_cut4, new_body4, pieces4, rest_to_4, sent4, upper_backward, whole4}
use Rattle.siit_device.specs.Laws.{life, measure}
use Rattle.siit_device.specs.Outcome.{outcome6, outcome_by6, outcome_by_turn, outcome_by_walk, segments_in}
use Rattle.siit_device.specs.Rows.{first_of, is_by, or_rule}
use Rattle.siit_device.specs.Rules6.{arrived_rule6, bytes_rows6, first_rule6, header_rows6, packet_rule6, upper_rows6, walk_rows6, walked_rule6}
use Rattle.siit_device.specs.Shapes.{is_misshapen, least_upper}
use Rattle.siit_device.specs.Turned.{error_turned, packet_turned, upper_back}
use Rattle.siit_device.proofs.ErrorKinds.{kinds4}
use Rattle.siit_device.proofs.Lists.{all-made}
use Rattle.siit_device.proofs.Lives4.{and-second, and-true, ends-within, if-true, kind-there, later-part, later-still, nonzero, not-false, not-true, second-out, unanswered, within}
use Rattle.siit_device.proofs.Read.{answer-falls, answered-by, body-read, falls-by, first-false, later-silent4, lived4, lived6, made4, made6, message-silent4, message-silent6, perhaps-taken, second-false}
use Rattle.siit_device.proofs.Rows.{neither, none-at}
use Rattle.siit_device.proofs.Walks.{walk-kept, walk-within}

-- THE RULES

-- what no rule leaves
record Left6 (arrived : Arrived) : Type 0 where
  alive : 2 ≤ arrived.packet.hop
  shaped : is_misshapen (arrived_fragment arrived) ≡ false
  long : is_upper_short6 arrived ≡ false
  whole : is_icmp_fragment6 arrived ≡ false
  kind : is_icmp_refused6 IcmpType6 arrived ≡ false
  code : is_icmp_refused6 IcmpCode6 arrived ≡ false

left6 : (settings : Settings) (arrived : Arrived) → arrived_rule6 settings arrived ≡ None → Left6 arrived
unfolding walk_rows6 upper_rows6 arrived_rule6
left6 settings arrived is =
    let header = neither (first_of walk_rows6 arrived) _ is in
    let upper = neither (first_of upper_rows6 arrived) _ header.1 in
    record {
      alive = ltb-false arrived.packet.hop 2 (none-at 1 walk_rows6 arrived header.0);
      shaped = none-at 0 walk_rows6 arrived header.0;
      long = none-at 0 upper_rows6 arrived upper.0;
      whole = none-at 1 upper_rows6 arrived upper.0;
      kind = none-at 2 upper_rows6 arrived upper.0;
      code = none-at 3 upper_rows6 arrived upper.0;
    }

-- THE ANSWER

abbrev IsError6 : Answer → Type 0
IsError6 (Icmp6 kind code) = is_error_kind6 kind ≡ true
IsError6 answer = Unit {0}

answers-are-errors : (rule : Rule) → IsError6 (row_of rule).answer
answers-are-errors Expired6 = refl
answers-are-errors SegmentsLeft6 = refl
answers-are-errors ProtocolClash6 = refl
answers-are-errors RoleSource6 = refl
answers-are-errors RoleDestination6 = refl
answers-are-errors SourceMap6 = refl
answers-are-errors DestinationMap6 = refl
answers-are-errors HairpinSource6 = refl
answers-are-errors TooBig6 = refl
answers-are-errors rule = tt

error-lives : (source kind code rest : ℕ) (bytes : List ℕ) → is_error_kind6 kind ≡ true → measure (error6 source kind code rest bytes) ≡ life false 64
error-lives source kind code rest bytes error =
    lived6 (error6 source kind code rest bytes) (made6 (error_packet6 source kind code rest bytes) (omega arith) (omega arith))
    ∙ ap (λ (a : Bool). life a 64) (message-silent6 (error_packet6 source kind code rest bytes) kind _ refl refl error)

answered : (a : Bool) (source kind code rest : ℕ) (bytes : List ℕ) → version6_in bytes ≡ 6 → may_answer6 bytes ≡ a → is_error_kind6 kind ≡ true → (rule : Rule)
    → Falls measure bytes (dropped rule (if a then Some (error6 source kind code rest bytes) else None))
answered false source kind code rest bytes six is error rule = tt
answered true source kind code rest bytes six is error rule =
    subst (λ n. n < measure bytes) (sym (error-lives source kind code rest bytes error))
    (subst (λ n. life false 64 < n) (sym (lived6 bytes six ∙ ap (λ (a : Bool). life a (ipv6_fields bytes).hop) is)) (answer-falls (ipv6_fields bytes).hop))

dropped-falls : (answer : Answer) (source rest : ℕ) (bytes : List ℕ) → version6_in bytes ≡ 6 → IsError6 answer → (rule : Rule) → Falls measure bytes (dropped rule (answer6 answer source rest bytes))
dropped-falls Silent source rest bytes six error rule = tt
dropped-falls (Icmp4 kind code) source rest bytes six error rule = tt
dropped-falls (Icmp6 kind code) source rest bytes six error rule = answered (may_answer6 bytes) source kind code rest bytes six refl error rule

-- THE ERROR THAT GOES ON OR BACK

record Error6 (f : Fragment) : Type 0 where
  is : is_error6 f ≡ true
  whole : is_whole f ≡ true
  first : f.offset ≡ 0
  error : is_error_kind6 (field8 f.bytes 0) ≡ true

error-facts : (arrived : Arrived) → Left6 arrived → (let f = arrived_fragment arrived in
    (f.offset == 0) ≡ true → (f.common.protocol == 58) ≡ true → is_perhaps_error is_error_kind6 f.bytes ≡ true → Error6 f)
error-facts arrived left first icmp error =
    let f : Fragment = arrived_fragment arrived in
    let protocol : f.common.protocol ≡ 58 = eqb-true f.common.protocol 58 icmp in
    let short = and-second (f.offset == 0) (nat_lt (length f.bytes) (least_upper 58 f.common.protocol)) left.long first in
    let long : 8 ≤ length f.bytes = ltb-false (length f.bytes) 8 (sym (ap (λ n. nat_lt (length f.bytes) (least_upper 58 n)) protocol) ∙ short) in
    let kind : is_error_kind6 (field8 f.bytes 0) ≡ true = sym (kind-there is_error_kind6 f.bytes (omega arith)) ∙ error in
    let whole : is_whole f ≡ true = not-false (is_whole f) (and-second (f.common.protocol == 58) (not (is_whole f)) left.whole icmp) in
    record {
      is = rw (icmp, whole, kind) refl;
      whole = whole;
      first = eqb-true f.offset 0 first;
      error = kind;
    }

-- BACK TO THE IPv6 SIDE

-- a list whose end may be missing
cut-list : (n at : ℕ) (whole : List ℕ) → at ≤ n → take at (take n whole) ++ drop at whole ≡ whole
cut-list n at whole inside = ap (λ l. l ++ drop at whole) (take-take at n whole inside) ∙ take-append-drop at whole

same-walk : (v w : Walked) (r : Result Walked Trouble) → r ≡ Ok v → r ≡ Ok w → v ≡ w
same-walk v w r one other = cc

unanswered-message : (first : Bool) (upper : ℕ) (bytes : List ℕ) → upper ≡ 58 → is_perhaps_error is_error_kind6 bytes ≡ true
    → (first && not ((upper == 58) && is_perhaps_error is_error_kind6 bytes)) ≡ false
unanswered-message first upper bytes icmp error = second-false first (upper == 58) (is_perhaps_error is_error_kind6 bytes) (eq-eqb upper 58 icmp) error

-- with another upper part, whose end may be missing, the walk is the same or has a trouble
cut-silent : (q : Ipv6Packet) (next n kind : ℕ) (body rest : List ℕ) (w : Walked) (r : Result Walked Trouble) → walk_of next body ≡ Ok w → w.upper ≡ 58 → is_error_kind6 kind ≡ true →
    let whole = take w.at body ++ (kind ∷ rest) in
    walk_of next (take n whole) ≡ r → answered-by (record q { body = take n whole }) r ≡ false
cut-silent q next n kind body rest w (Err trouble) walk icmp error is = refl
cut-silent q next n kind body rest w (Ok v) walk icmp error is =
    let whole : List ℕ = take w.at body ++ (kind ∷ rest) in
    let there : v.at ≤ length (take n whole) = walk-within next (take n whole) v is in
    let again : walk_of next whole ≡ Ok v = ap (walk_of next) (sym (cut-list n v.at whole (omega (arith, there, length-take n whole)))) ∙ walk-kept next (take n whole) (drop v.at whole) v is in
    let same : v ≡ w = same-walk v w (walk_of next whole) again (walk-kept next body (kind ∷ rest) w walk) in
    let upper : v.upper ≡ 58 = ap (λ (x : Walked). x.upper) same ∙ icmp in
    let at : v.at ≡ w.at = ap (λ (x : Walked). x.at) same in
    let front : length (take w.at body) ≡ w.at = length-take-le w.at body (walk-within next body w walk) in
    let m : ℕ = n - w.at in
    let sum : n ≡ w.at + m = omega (arith, there, length-take n whole, at) in
    let bytes : drop v.at (take n whole) ≡ take m (kind ∷ rest) =
    ap (λ k. drop k (take n whole)) at ∙ ap (λ k. drop w.at (take k whole)) sum ∙ drop-take w.at m whole ∙ ap (take m) (drop_at (take w.at body) (kind ∷ rest) w.at front) in
    unanswered-message ((fields_in v.fragment).offset == 0) v.upper (drop v.at (take n whole)) upper (ap (is_perhaps_error is_error_kind6) bytes ∙ perhaps-taken is_error_kind6 m kind rest error)

body-small : (bytes : List ℕ) → AreBytes bytes → length (ipv6_fields bytes).body < 65536
body-small bytes small = omega (arith, length-take (payload_length_in bytes) (drop 40 bytes), field16-small bytes 4 small)

third : {A : Type 0} (first error : Bool) (one two three : A) → first ≡ true → error ≡ true → (if not first then one else if error then two else three) ≡ two
third first error one two three is_first is_error = rw (is_first, is_error) refl

-- a message between other addresses begins with its type
error-back : (settings : Settings) (new : Addresses6) (f : Fragment) → Error6 f → upper_back settings new f ≡ field8 f.bytes 0 ∷ drop 1 (error_turned settings new f.common f.bytes)
unfolding error_turned
error-back settings new f error = third (f.offset == 0) (is_error6 f) f.bytes _ _ (eq-eqb f.offset 0 error.first) error.is

turned-by : (settings : Settings) (new : Addresses6) (bytes : List ℕ) (w : Walked) → AreBytes bytes →
    let arrived : Arrived = record { packet = ipv6_fields bytes; walked = w } in
    let f : Fragment = arrived_fragment arrived in
    walk_of (ipv6_fields bytes).next (ipv6_fields bytes).body ≡ Ok w → Left6 arrived
    → ((f.offset == 0) ≡ false) ⊎ (((f.offset == 0) ≡ true) × (((f.common.protocol == 58) ≡ true) × (is_perhaps_error is_error_kind6 f.bytes ≡ true)))
    → may_answer6 (ipv6_bytes (packet_turned settings new arrived)) ≡ false
turned-by settings new bytes w small walk left (inl later) =
    let packet : Ipv6Packet = ipv6_fields bytes in
    let arrived : Arrived = record { packet = packet; walked = w } in
    let f : Fragment = arrived_fragment arrived in
    let p : Ipv6Packet = packet_turned settings new arrived in
    let q : Ipv6Packet = ipv6_fields (ipv6_bytes p) in
    let same : p.body ≡ packet.body = ap (λ l. take w.at packet.body ++ l) (if-true (not (f.offset == 0)) f.bytes _ (not-true (f.offset == 0) later)) ∙ take-append-drop w.at packet.body in
    let read : q.body ≡ packet.body = body-read p (subst (λ (l : List ℕ). length l < 65536) (sym same) (body-small bytes small)) ∙ same in
    ap (λ (l : List ℕ). answered-by (record q { body = l }) (walk_of packet.next l)) read
    ∙ ap (answered-by (record q { body = packet.body })) walk
    ∙ first-false (f.offset == 0) _ later
turned-by settings new bytes w small walk left (inr error) =
    let packet : Ipv6Packet = ipv6_fields bytes in
    let arrived : Arrived = record { packet = packet; walked = w } in
    let f : Fragment = arrived_fragment arrived in
    let facts = error-facts arrived left error.0 error.1.0 error.1.1 in
    let p : Ipv6Packet = packet_turned settings new arrived in
    let q : Ipv6Packet = ipv6_fields (ipv6_bytes p) in
    let n : ℕ = payload_length_in (ipv6_bytes p) in
    let kind : ℕ = field8 f.bytes 0 in
    let rest : List ℕ = drop 1 (error_turned settings new f.common f.bytes) in
    let same : p.body ≡ take w.at packet.body ++ (kind ∷ rest) = ap (λ l. take w.at packet.body ++ l) (error-back settings new f facts) in
    ap (λ (l : List ℕ). answered-by (record q { body = take n l }) (walk_of packet.next (take n l))) same
    ∙ cut-silent q packet.next n kind packet.body rest w (walk_of packet.next (take n (take w.at packet.body ++ (kind ∷ rest)))) walk (eqb-true w.upper 58 error.1.0) facts.error refl

turned-silent : (settings : Settings) (new : Addresses6) (bytes : List ℕ) (w : Walked) → AreBytes bytes →
    let arrived : Arrived = record { packet = ipv6_fields bytes; walked = w } in
    walk_of (ipv6_fields bytes).next (ipv6_fields bytes).body ≡ Ok w → Left6 arrived
    → may_answer6 bytes ≡ false → may_answer6 (ipv6_bytes (packet_turned settings new arrived)) ≡ false
turned-silent settings new bytes w small walk left silent =
    let f : Fragment = arrived_fragment (record { packet = ipv6_fields bytes; walked = w }) in
    turned-by settings new bytes w small walk left
    (unanswered (f.offset == 0) (f.common.protocol == 58) (is_perhaps_error is_error_kind6 f.bytes) (sym (ap (answered-by (ipv6_fields bytes)) walk) ∙ silent))

-- TO THE IPv4 SIDE

error-backward : (settings : Settings) (id : ℕ) (arrived : Arrived) → Left6 arrived → (arrived.walked.upper == 58) ≡ true → Error6 (arrived_fragment arrived)
    → (kind : ℕ) × (rest : List ℕ) × ((upper_backward settings (head4_for settings id (arrived_fragment arrived)) (arrived_fragment arrived) ≡ kind ∷ rest) × (is_error_kind4 kind ≡ true))
unfolding error_to_4
error-backward settings id arrived left icmp error =
    let f : Fragment = arrived_fragment arrived in
    let r : Result NewKind Rule = icmp_to_4 (field8 f.bytes 0) (field8 f.bytes 1) in
    let new = kinds4 (field8 f.bytes 0) (field8 f.bytes 1) error.error
    (and-second (arrived.walked.upper == 58) (is_by IcmpType6 (result_err r)) left.kind icmp) (and-second (arrived.walked.upper == 58) (is_by IcmpCode6 (result_err r)) left.code icmp) in
    let made : List ℕ = error_by4 settings f.common f.bytes (Ok new.0) in
    (new.0.kind, drop 1 made, (if-true (is_error6 f) _ _ error.is ∙ ap (error_by4 settings f.common f.bytes) new.1.0, new.1.1))

-- bytes of a later fragment keep their number
if-false : {A : Type 0} (test : Bool) (one other : A) → test ≡ false → (if test then one else other) ≡ other
if-false true one other is = cc
if-false false one other is = refl

later-length : (settings : Settings) (id : ℕ) (f : Fragment) → is_whole f ≡ false → length (upper_backward settings (head4_for settings id f) f) ≡ length f.bytes
later-length settings id f part_of =
    ap length (if-false (is_error6 f) _ _ (second-out (f.common.protocol == 58) (is_whole f) _ part_of))
    ∙ to_4-length (ends_to_4 (head4_for settings id f) f.common) (length f.bytes) f

df-by : (test : Bool) → (if test then 0 else 1) < 2
df-by true = omega arith
df-by false = omega arith

df-small : (fragment : Option FragmentFields) (total : ℕ) → df_for fragment total < 2
df-small (Some fields) total = omega arith
df-small None total = df-by (nat_le total 1260)

abbrev Unanswered : Fragment → Type 0
Unanswered f = ((f.offset == 0) ≡ false) ⊎ (((f.offset == 0) ≡ true) × (((f.common.protocol == 58) ≡ true) × (is_perhaps_error is_error_kind6 f.bytes ≡ true)))

whole-silent : (settings : Settings) (arrived : Arrived) (number : ℕ) → Left6 arrived → Unanswered (arrived_fragment arrived) → may_answer4 (ipv4_bytes (whole4 settings arrived number)) ≡ false
whole-silent settings arrived number left (inl later) =
    let f : Fragment = arrived_fragment arrived in
    let fits = ends-within f left.shaped (later-part (f.offset == 0) f.more later) in
    later-silent4 (df_for arrived.walked.fragment (20 + length (sent4 settings arrived number).bytes)) (sent4 settings arrived number) (df-small arrived.walked.fragment _) (omega (arith, fits))
    (nonzero f.offset later)
whole-silent settings arrived number left (inr error) =
    let f : Fragment = arrived_fragment arrived in
    let facts = error-facts arrived left error.0 error.1.0 error.1.1 in
    let message = error-backward settings (identification arrived.walked.fragment number) arrived left error.1.0 facts in
    message-silent4 (whole4 settings arrived number) message.0 message.1 refl (if-true (arrived.walked.upper == 58) 1 arrived.walked.upper error.1.0) message.2.0 message.2.1

-- the first piece of a message begins with its type
first-piece : (blocks kind : ℕ) (bytes rest : List ℕ) → 0 < blocks → bytes ≡ kind ∷ rest → part bytes (8 * (0 * blocks)) (8 * blocks) ≡ kind ∷ take (8 * blocks - 1) rest
first-piece blocks kind bytes rest some is =
    let none : 8 * (0 * blocks) ≡ 0 = omega arith in
    let size : 8 * blocks ≡ suc (8 * blocks - 1) = omega arith in
    ap (λ n. part bytes n (8 * blocks)) none ∙ ap (λ n. take n bytes) size ∙ ap (take (suc (8 * blocks - 1))) is

behind-first : (k blocks : ℕ) → 0 < blocks → suc k * blocks ≡ 0 → ⊥
behind-first k blocks some none = omega (arith, suc-mul k blocks)

piece-silent : (settings : Settings) (arrived : Arrived) (number blocks k : ℕ) → Left6 arrived → 0 < blocks
    → (is_error6 (arrived_fragment arrived) ≡ true → length (sent4 settings arrived number).bytes ≤ 65535)
    → 8 * (k * blocks) < length (sent4 settings arrived number).bytes → Unanswered (arrived_fragment arrived)
    → may_answer4 (ipv4_bytes (packet4 0 (piece_of blocks (sent4 settings arrived number) k))) ≡ false
piece-silent settings arrived number blocks k left some bound begins (inl later) =
    let f : Fragment = arrived_fragment arrived in
    let g : Fragment = sent4 settings arrived number in
    let part_of : is_whole f ≡ false = later-part (f.offset == 0) f.more later in
    let fits = ends-within f left.shaped part_of in
    let size = later-length settings (identification arrived.walked.fragment number) f part_of in
    later-silent4 0 (piece_of blocks g k) (omega arith) (within f.offset (k * blocks) (length f.bytes) (length g.bytes) fits size begins) (later-still f.offset (k * blocks) (nonzero f.offset later))
piece-silent settings arrived number blocks zero left some bound begins (inr error) =
    let f : Fragment = arrived_fragment arrived in
    let g : Fragment = sent4 settings arrived number in
    let facts = error-facts arrived left error.0 error.1.0 error.1.1 in
    let message = error-backward settings (identification arrived.walked.fragment number) arrived left error.1.0 facts in
    message-silent4 (packet4 0 (piece_of blocks g 0)) message.0 (take (8 * blocks - 1) message.1) refl (if-true (arrived.walked.upper == 58) 1 arrived.walked.upper error.1.0)
    (first-piece blocks message.0 g.bytes message.1 some message.2.0) message.2.1
piece-silent settings arrived number blocks (suc k) left some bound begins (inr error) =
    let f : Fragment = arrived_fragment arrived in
    let g : Fragment = sent4 settings arrived number in
    let facts = error-facts arrived left error.0 error.1.0 error.1.1 in
    let most = bound facts.is in
    later-silent4 0 (piece_of blocks g (suc k)) (omega arith) (omega (arith, facts.first)) (λ (none : f.offset + suc k * blocks ≡ 0). behind-first k blocks some (omega (arith, none)))

-- HOW LONG A MESSAGE IS THAT IS CUT

rest-length : (settings : Settings) (rest : Rest) (octet : ℕ) (message : List ℕ) → length (rest_to_4 settings rest octet message) ≤ 4
rest-length settings Same octet message = omega (arith, length-take 4 (drop 4 message))
rest-length settings Zero octet message = omega arith
rest-length settings Length octet message = omega arith
rest-length settings Mtu octet message = omega arith
rest-length settings Pointer octet message = omega arith
rest-length settings PointerSix octet message = omega arith

padded-most : (len : ℕ) → len ≤ 1020 → len + padding 4 len ≤ 1148
padded-most len most = omega arith

carried-most : (carried : Bool) (extension quote : List ℕ) → length (joined_to_4 (if carried then Some extension else None) quote).bytes ≤ 1148 + length quote + length extension
carried-most true extension quote =
    let cut : length (take 1020 quote) ≤ 1020 = omega (arith, length-take 1020 quote) in
    omega (arith, joined-length 4 (take 1020 quote) extension, padded-most (length (take 1020 quote)) cut)
carried-most false extension quote = omega arith

joined-most : (has : Bool) (kind : ℕ) (extension quote : List ℕ)
    → length (joined_to_4 (carried_to_4 kind (if has then Some extension else None)) quote).bytes ≤ 1148 + length quote + length extension
joined-most true kind extension quote = carried-most ((kind == 3) || (kind == 11)) extension quote
joined-most false kind extension quote = omega arith

quote-most : (source destination : ℕ) (tos_zero : Bool) (quote : List ℕ) (r : Result Walked Trouble)
    → length (quote_by_walk (λ w. quote_to_4 source destination tos_zero (quoted6_fields w quote)) r) ≤ 20 + length quote
unfolding quote_to_4
quote-most source destination tos_zero quote (Err trouble) = omega arith
quote-most source destination tos_zero quote (Ok w) =
    let quoted : QuotedIpv6 = quoted6_fields w quote in
    let upper : List ℕ = quoted_upper_to_4 source destination quoted in
    omega (
      arith,
      length-append (quote_head_to_4 source destination tos_zero quoted) upper,
      upper-length-kept source destination quoted,
      length-drop w.at (ipv6_fields quote).body,
      length-take (payload_length_in quote) (drop 40 quote),
      length-drop 40 quote,
    )

part-most : (test : Bool) (n : ℕ) (body : List ℕ) → length (if test then body else take n body) ≤ length body
part-most true n body = omega arith
part-most false n body = omega (arith, length-take n body)

message-most : (settings : Settings) (new : NewKind) (message : List ℕ) → length (new_body4 settings new message).bytes ≤ 1168 + length message + length message
message-most settings new message =
    let octet : ℕ = length_octet6 message in
    let body : List ℕ = drop 8 message in
    let part : List ℕ = quoted_part6 message in
    let source : ℕ = to4 settings (ipv6_fields part).source in
    let destination : ℕ = to4 settings (ipv6_fields part).destination in
    let quote : List ℕ = part_to_4 source destination settings.tos_zero part in
    let joined = joined-most (has_extension 8 octet body) new.kind (drop (octet * 8) body) quote in
    omega (arith, joined, quote-most source destination settings.tos_zero part (walk_in part), part-most (octet == 0) (octet * 8) body, length-drop (octet * 8) body, length-drop 8 message)

sized : (settings : Settings) (common : Common) (message : List ℕ) (new : NewKind)
    → length (error_by4 settings common message (Ok new))
    ≡ 4 + length (rest_to_4 settings new.rest (new_body4 settings new message).octet message ++ (new_body4 settings new message).bytes)
sized settings common message new = omega arith

error-most : (settings : Settings) (id : ℕ) (arrived : Arrived) → Left6 arrived → (arrived.walked.upper == 58) ≡ true → Error6 (arrived_fragment arrived)
    → length (upper_backward settings (head4_for settings id (arrived_fragment arrived)) (arrived_fragment arrived)) ≤ 1176 + length (arrived_fragment arrived).bytes + length (arrived_fragment arrived).bytes
unfolding error_to_4
error-most settings id arrived left icmp error =
    let f : Fragment = arrived_fragment arrived in
    let r : Result NewKind Rule = icmp_to_4 (field8 f.bytes 0) (field8 f.bytes 1) in
    let new = kinds4 (field8 f.bytes 0) (field8 f.bytes 1) error.error
    (and-second (arrived.walked.upper == 58) (is_by IcmpType6 (result_err r)) left.kind icmp) (and-second (arrived.walked.upper == 58) (is_by IcmpCode6 (result_err r)) left.code icmp) in
    let body : NewBody = new_body4 settings new.0 f.bytes in
    let rest : List ℕ = rest_to_4 settings new.0.rest body.octet f.bytes in
    let size : length (upper_backward settings (head4_for settings id f) f) ≡ 4 + length (rest ++ body.bytes) =
    ap length (if-true (is_error6 f) _ _ error.is) ∙ ap (λ (x : Result NewKind Rule). length (error_by4 settings f.common f.bytes x)) new.1.0 ∙ sized settings f.common f.bytes new.0 in
    omega (arith, size, length-append rest body.bytes, rest-length settings new.0.rest body.octet f.bytes, message-most settings new.0 f.bytes)

cut-bound : (settings : Settings) (arrived : Arrived) (number : ℕ) → Left6 arrived → is_sent_cut4 settings arrived ≡ true → (arrived.walked.upper == 58) ≡ true → Error6 (arrived_fragment arrived)
    → length (sent4 settings arrived number).bytes ≤ 65535
cut-bound settings arrived number left cut icmp error =
    let few : 40 + length arrived.packet.body ≤ 1280 = leb-true (40 + length arrived.packet.body) 1280 (and-true (nat_le (40 + length arrived.packet.body) 1280) _ cut).0 in
    omega (arith, few, error-most settings (identification arrived.walked.fragment number) arrived left icmp error, length-drop arrived.walked.at arrived.packet.body)

-- ALL THAT COMES

silent-is : (bytes : List ℕ) (w : Walked) → walk_of (ipv6_fields bytes).next (ipv6_fields bytes).body ≡ Ok w → may_answer6 bytes ≡ false
    → Unanswered (arrived_fragment (record { packet = ipv6_fields bytes; walked = w }))
silent-is bytes w walk silent =
    let f : Fragment = fragment_by (ipv6_fields bytes) w in
    unanswered (f.offset == 0) (f.common.protocol == 58) (is_perhaps_error is_error_kind6 f.bytes) (sym (ap (answered-by (ipv6_fields bytes)) walk) ∙ silent)

goes-on : (bytes : List ℕ) (p : Ipv4Packet) → version6_in bytes ≡ 6 → 2 ≤ (ipv6_fields bytes).hop → p.options ≡ [] → p.ttl ≡ (ipv6_fields bytes).hop - 1
    → (may_answer6 bytes ≡ false → may_answer4 (ipv4_bytes p) ≡ false) → measure (ipv4_bytes p) < measure bytes
goes-on bytes p six alive none is_ttl silent =
    subst (λ n. n < measure bytes) (sym (lived4 (ipv4_bytes p) (made4 p none)))
    (subst (λ n. life (may_answer4 (ipv4_bytes p)) p.ttl < n) (sym (lived6 bytes six))
    (falls-by (may_answer6 bytes) (may_answer4 (ipv4_bytes p)) (ipv6_fields bytes).hop p.ttl alive is_ttl silent))

goes-back : (bytes : List ℕ) (p : Ipv6Packet) → version6_in bytes ≡ 6 → 2 ≤ (ipv6_fields bytes).hop → p.class < 256 → p.flow < 1048576 → p.hop ≡ (ipv6_fields bytes).hop - 1
    → (may_answer6 bytes ≡ false → may_answer6 (ipv6_bytes p) ≡ false) → measure (ipv6_bytes p) < measure bytes
goes-back bytes p six alive class flow is_hop silent =
    subst (λ n. n < measure bytes) (sym (lived6 (ipv6_bytes p) (made6 p class flow)))
    (subst (λ n. life (may_answer6 (ipv6_bytes p)) p.hop < n) (sym (lived6 bytes six))
    (falls-by (may_answer6 bytes) (may_answer6 (ipv6_bytes p)) (ipv6_fields bytes).hop p.hop alive is_hop silent))

some-blocks : (mtu : ℕ) → 68 ≤ mtu → 0 < (mtu - 20) / 8
some-blocks mtu least = omega arith

error-by : (arrived : Arrived) → Left6 arrived → is_error6 (arrived_fragment arrived) ≡ true → ((arrived.walked.upper == 58) ≡ true) × Error6 (arrived_fragment arrived)
error-by arrived left error =
    let f : Fragment = arrived_fragment arrived in
    let icmp = and-true (f.common.protocol == 58) _ error in
    let whole = and-true (is_whole f) (is_error_kind6 (field8 f.bytes 0)) icmp.1 in (
      icmp.0,
      record {
        is = error;
        whole = whole.0;
        first = eqb-true f.offset 0 (and-true (f.offset == 0) (not f.more) whole.0).0;
        error = whole.1;
      },
    )

module _ (settings : Settings) (bytes : List ℕ) (number : ℕ) (w : Walked) (limits : IsWithinLimits settings) (small : AreBytes bytes) (six : version6_in bytes ≡ 6)
    (walk : walk_of (ipv6_fields bytes).next (ipv6_fields bytes).body ≡ Ok w) (left : Left6 (record { packet = ipv6_fields bytes; walked = w })) where
  abbrev arrived : Arrived
  arrived = record { packet = ipv6_fields bytes; walked = w }

  bound : is_sent_cut4 settings arrived ≡ true → is_error6 (arrived_fragment arrived) ≡ true → length (sent4 settings arrived number).bytes ≤ 65535
  bound cut error =
      let facts = error-by arrived left error in cut-bound settings arrived number left cut facts.0 facts.1

  pieces-fall : is_sent_cut4 settings arrived ≡ true → AllByRecursion (λ next. measure next < measure bytes) (map ipv4_bytes (pieces4 settings arrived number))
  pieces-fall cut =
      let blocks : ℕ = blocks_of 20 settings.mtu4 in
      let g : Fragment = sent4 settings arrived number in
      all-made (λ next. measure next < measure bytes) (packet4 0) ipv4_bytes (pieces_of blocks g)
      (All-pieces (λ h. measure (ipv4_bytes (packet4 0 h)) < measure bytes) blocks g (some-blocks settings.mtu4 limits.mtu4)
      (λ k begins.
      goes-on bytes (packet4 0 (piece_of blocks g k)) six left.alive refl refl
      (λ silent. piece-silent settings arrived number blocks k left (some-blocks settings.mtu4 limits.mtu4) (bound cut) begins (silent-is bytes w walk silent))))

  on4 : (cut used : Bool) → is_sent_cut4 settings arrived ≡ cut
      → Falls measure bytes (if cut then pieces used (map ipv4_bytes (pieces4 settings arrived number)) else through used (ipv4_bytes (whole4 settings arrived number)))
  on4 true used is = pieces-fall is
  on4 false used is =
      goes-on bytes (whole4 settings arrived number) six left.alive refl refl (λ silent. whole-silent settings arrived number left (silent-is bytes w walk silent))

  by-turn : (turn : TurnAnswer) → Falls measure bytes (outcome_by_turn settings arrived number turn)
  by-turn (Pair new) = goes-back bytes (packet_turned settings new arrived) six left.alive (omega arith) (omega arith) refl (turned-silent settings new bytes w small walk left)
  by-turn Not = on4 (is_sent_cut4 settings arrived) (is_number_used w.fragment) refl
  by-turn Refused = on4 (is_sent_cut4 settings arrived) (is_number_used w.fragment) refl

by-walk : (settings : Settings) (bytes : List ℕ) (number : ℕ) (r : Result Walked Trouble) → IsWithinLimits settings → AreBytes bytes → version6_in bytes ≡ 6
    → walk_of (ipv6_fields bytes).next (ipv6_fields bytes).body ≡ r → walked_rule6 settings (ipv6_fields bytes) r ≡ None
    → Falls measure bytes (outcome_by_walk settings (ipv6_fields bytes) number r)
by-walk settings bytes number (Err trouble) limits small six walk is = tt
by-walk settings bytes number (Ok w) limits small six walk is =
    let arrived : Arrived = record { packet = ipv6_fields bytes; walked = w } in
    by-turn settings bytes number w limits small six walk (left6 settings arrived is) (turn_for settings arrived)

by-rule : (settings : Settings) (bytes : List ℕ) (number : ℕ) (found : Option Rule) → IsWithinLimits settings → AreBytes bytes → version6_in bytes ≡ 6
    → packet_rule6 settings (ipv6_fields bytes) ≡ found → Falls measure bytes (outcome_by6 settings bytes number found)
by-rule settings bytes number (Some rule) limits small six is =
    let packet : Ipv6Packet = ipv6_fields bytes in
    dropped-falls (row_of rule).answer settings.address6.0 (told_to_6 settings rule (segments_in (walk_of packet.next packet.body))) bytes six (answers-are-errors rule) rule
by-rule settings bytes number None limits small six is =
    let packet : Ipv6Packet = ipv6_fields bytes in
    by-walk settings bytes number (walk_of packet.next packet.body) limits small six refl (neither (first_of header_rows6 packet) (walked_rule6 settings packet (walk_of packet.next packet.body)) is).1

by-shape : (settings : Settings) (bytes : List ℕ) (number : ℕ) (short bad : Bool) → IsWithinLimits settings → AreBytes bytes → is_bad_header6 bytes ≡ bad
    → Falls measure bytes (outcome_by6 settings bytes number (or_rule (if short then Some Short6 else if bad then Some BadHeader6 else None) (packet_rule6 settings (ipv6_fields bytes))))
by-shape settings bytes number true bad limits small is = tt
by-shape settings bytes number false true limits small is = tt
by-shape settings bytes number false false limits small is =
    by-rule settings bytes number (packet_rule6 settings (ipv6_fields bytes)) limits small (eqb-true (version6_in bytes) 6 (not-false (version6_in bytes == 6) is)) refl

pub falls6 : (settings : Settings) (bytes : List ℕ) (number : ℕ) → IsWithinLimits settings → AreBytes bytes → Falls measure bytes (outcome6 settings bytes number)
unfolding outcome6 first_rule6 bytes_rows6
falls6 settings bytes number limits small = by-shape settings bytes number (is_short6 bytes) (is_bad_header6 bytes) limits small refl
