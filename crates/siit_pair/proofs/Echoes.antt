-- Echo messages behind two devices.
use Rattle.std.proofs.Common.{◌≡◌, ℕ, ◌+◌, ◌*◌, ◌%◌, ◌<◌, ◌≤◌, List, [], ◌∷◌, ◌++◌, length, slice_set, Bool, true, false, ◌||◌, ◌==◌, nat_lt, if◌then◌else◌, ◌∙◌, ap, sym, subst, refl, arith, eq-eqb, lt-ltb}
use Rattle.std.specs.Int.{byte_at}
use Rattle.std.proofs.lemmas.Bool.{cond-true, and_from, and_left, and_right, eqb-true}
use Rattle.siit_model.specs.Bytes.{AreBytes, bytes16, field8, field16}
use Rattle.siit_model.specs.Checksum.{moved, pseudo6}
use Rattle.siit_model.specs.Fragments.{Fragment, datagram4, whole_of}
use Rattle.siit_model.specs.Ipv4.{Ipv4Packet}
use Rattle.siit_model.specs.Upper.{has_field16}
use Rattle.siit_checksum.proofs.Digits.{two-read}
use Rattle.siit_icmp.specs.Errors.{is_error_kind4, is_error_kind6}
use Rattle.siit_icmp.specs.Icmp.{echo_kind4, echo_kind6, is_echo_kind4, is_echo_kind6}
use Rattle.siit_upper.specs.Moves.{echo_moved}
use Rattle.siit_roles.specs.declared.settings.Settings.{Settings}
use Rattle.siit_v4to6.specs.To6.{echo_to_6, is_echo4, next_header_of}
use Rattle.siit_v6to4.specs.To4.{echo_to_4, is_echo6}
use Rattle.siit_device.specs.Addresses.{to6}
use Rattle.siit_device.specs.Arrival6.{is_error6}
use Rattle.siit_device.specs.Backward.{head4_for, upper_backward}
use Rattle.siit_device.specs.Forward.{is_error_fragment4, lacks_checksum}
use Rattle.siit_pair.specs.Across.{across, between}
use Rattle.siit_pair.proofs.Payloads.{IsMoved}

-- an echo message becomes one of another type
echo-to_6 : (kind kind6 code high low pseudo : ℕ) (rest : List ℕ) → is_echo_kind4 kind ≡ true → echo_kind6 kind ≡ kind6
    → echo_to_6 pseudo (kind ∷ code ∷ high ∷ low ∷ rest)
    ≡ kind6 ∷ code ∷ bytes16 (moved (moved (high * 256 + low) (kind * 256 + code) (kind6 * 256 + code)) 0 pseudo) ++ rest
echo-to_6 kind kind6 code high low pseudo rest is_echo is_kind =
    let part : List ℕ = kind ∷ code ∷ high ∷ low ∷ rest in
    cond-true (is_echo4 part) (echo_moved (echo_kind6 kind) 0 pseudo part) part
    (and_from (nat_lt 0 (length part)) _ (lt-ltb 0 (length part) (omega arith)) is_echo)
    ∙ ap (λ k. echo_moved k 0 pseudo part) is_kind
    ∙ cond-true (has_field16 part 2) _ (slice_set part 0 kind6) (lt-ltb 3 (length part) (omega arith))

echo-to_4 : (kind kind6 code high low pseudo : ℕ) (rest : List ℕ) → is_echo_kind6 kind6 ≡ true → echo_kind4 kind6 ≡ kind
    → echo_to_4 pseudo (kind6 ∷ code ∷ high ∷ low ∷ rest)
    ≡ kind ∷ code ∷ bytes16 (moved (moved (high * 256 + low) (kind6 * 256 + code) (kind * 256 + code)) pseudo 0) ++ rest
echo-to_4 kind kind6 code high low pseudo rest is_echo is_kind =
    let part : List ℕ = kind6 ∷ code ∷ high ∷ low ∷ rest in
    cond-true (is_echo6 part) (echo_moved (echo_kind4 kind6) pseudo 0 part) part
    (and_from (nat_lt 0 (length part)) _ (lt-ltb 0 (length part) (omega arith)) is_echo)
    ∙ ap (λ k. echo_moved k pseudo 0 part) is_kind
    ∙ cond-true (has_field16 part 2) _ (slice_set part 0 kind) (lt-ltb 3 (length part) (omega arith))

-- four moves that undo one another
step : (x y old new : ℕ) → x % 65535 ≡ y % 65535 → moved x old new % 65535 ≡ moved y old new % 65535
step x y old new same = omega arith

turned : (x old new a b : ℕ) → moved (moved x old new) a b % 65535 ≡ moved (moved x a b) old new % 65535
turned x old new a b = omega arith

undone : (x old new : ℕ) → old ≤ 65535 → new ≤ 65535 → moved (moved x old new) new old % 65535 ≡ x % 65535
undone x old new small_old small_new = omega arith

moved-small : (c old new : ℕ) → moved c old new < 65536
moved-small c old new = omega arith

four-moves : (x a b s : ℕ) → a ≤ 65535 → b ≤ 65535 → s ≤ 65535 → moved (moved (moved (moved x a b) 0 s) b a) s 0 % 65535 ≡ x % 65535
four-moves x a b s small_a small_b small_s =
    step (moved (moved (moved x a b) 0 s) b a) (moved (moved (moved x a b) b a) 0 s) s 0 (turned (moved x a b) 0 s b a)
    ∙ undone (moved (moved x a b) b a) 0 s (omega arith) small_s
    ∙ undone x a b small_a small_b

pick-icmp : (error lacks six seventeen one : Bool) (x b c d e g : List ℕ)
    → error ≡ false → lacks ≡ false → six ≡ false → seventeen ≡ false → one ≡ true
    → (if error then x else if lacks then b else if six then c else if seventeen then d else if one then e else g) ≡ e
pick-icmp error lacks six seventeen one x b c d e g y i j k l = rw (y, i, j, k, l) refl

pick-icmp4 : (error six seventeen one : Bool) (x c d e g : List ℕ) → error ≡ false → six ≡ false → seventeen ≡ false → one ≡ true
    → (if error then x else if six then c else if seventeen then d else if one then e else g) ≡ e
pick-icmp4 error six seventeen one x c d e g y j k l = rw (y, j, k, l) refl

word-fits : (kind code : ℕ) → kind < 256 → code < 256 → kind * 256 + code ≤ 65535
word-fits kind code small small_code = omega arith

below : (n : ℕ) → n % 65535 ≤ 65535
below n = omega arith

not-number : (n m k : ℕ) → n ≡ m → (m == k) ≡ false → (n == k) ≡ false
not-number n m k is other = rw is other

module _ (first second : Settings) (d : Ipv4Packet) (icmp : d.protocol ≡ 1) (kind kind6 code high low : ℕ) (rest : List ℕ) (id : ℕ)
    (small : kind < 256) (small6 : kind6 < 256) (small_code : code < 256)
    (is_echo : is_echo_kind4 kind ≡ true) (is_echo6_kind : is_echo_kind6 kind6 ≡ true) (is_kind6 : echo_kind6 kind ≡ kind6) (is_kind : echo_kind4 kind6 ≡ kind)
    (no_error4 : is_error_kind4 kind ≡ false) (no_error_kind : is_error_kind6 kind6 ≡ false) where
  abbrev part : List ℕ
  part = kind ∷ code ∷ high ∷ low ∷ rest

  abbrev sent : Ipv4Packet
  sent = record d { payload = part }

  abbrev six : ℕ
  six = pseudo6 (to6 first d.source) (to6 first d.destination) 58 (length part)

  abbrev once : ℕ
  once = moved (moved (high * 256 + low) (kind * 256 + code) (kind6 * 256 + code)) 0 six

  abbrev part6 : List ℕ
  part6 = kind6 ∷ code ∷ bytes16 once ++ rest

  next : next_header_of d.protocol ≡ 58
  next = ap next_header_of icmp

  forward : (between first sent).payload ≡ part6
  forward =
      pick-icmp (is_error_fragment4 (whole_of (datagram4 sent))) (lacks_checksum (whole_of (datagram4 sent)))
      (d.protocol == 6) (d.protocol == 17) (d.protocol == 1) _ _ _ _ _ _
      (and_right (d.protocol == 1) (is_error_kind4 kind) no_error4)
      (and_left (d.protocol == 17) (field16 part 6 == 0) (not-number d.protocol 1 17 icmp refl))
      (not-number d.protocol 1 6 icmp refl) (not-number d.protocol 1 17 icmp refl) (eq-eqb d.protocol 1 icmp)
      ∙ echo-to_6 kind kind6 code high low six rest is_echo is_kind6

  kind-between : is_error_kind6 (field8 (between first sent).payload 0) ≡ false
  kind-between = ap (λ l. is_error_kind6 (field8 l 0)) forward ∙ no_error_kind

  echo-across : IsMoved 2 part (across first second sent id).payload
  echo-across =
      let read : byte_at 1 once * 256 + byte_at 0 once ≡ once =
      two-read once (moved-small (moved (high * 256 + low) (kind * 256 + code) (kind6 * 256 + code)) 0 six) in
      let last : ℕ = moved (moved (byte_at 1 once * 256 + byte_at 0 once) (kind6 * 256 + code) (kind * 256 + code)) six 0 in
      let g : List ℕ → Fragment = λ l. record (whole_of (between first sent)) { bytes = l } in
      record {
        checksum = last;
        small = moved-small (moved (byte_at 1 once * 256 + byte_at 0 once) (kind6 * 256 + code) (kind * 256 + code)) six 0;
        bytes =
            ap (λ l. upper_backward second (head4_for second id (g l)) (g l)) forward
            ∙ pick-icmp4 (is_error6 (g part6)) (next_header_of d.protocol == 6) (next_header_of d.protocol == 17)
            (next_header_of d.protocol == 58) _ _ _ _ _
            (and_right (next_header_of d.protocol == 58) (is_error_kind6 kind6) no_error_kind)
            (not-number (next_header_of d.protocol) 58 6 next refl) (not-number (next_header_of d.protocol) 58 17 next refl)
            (eq-eqb (next_header_of d.protocol) 58 next)
            ∙ echo-to_4 kind kind6 code (byte_at 1 once) (byte_at 0 once) six rest is_echo6_kind is_kind;
        residue = ap (λ n. moved (moved n (kind6 * 256 + code) (kind * 256 + code)) six 0 % 65535) read
            ∙ four-moves (high * 256 + low) (kind * 256 + code) (kind6 * 256 + code) six
            (word-fits kind code small small_code) (word-fits kind6 code small6 small_code) (below _);
      }

module _ (first second : Settings) (d : Ipv4Packet) (id : ℕ) (icmp : d.protocol ≡ 1) where
  at-kind : (kind kind6 : ℕ) → kind < 256 → kind6 < 256 → is_echo_kind4 kind ≡ true → is_echo_kind6 kind6 ≡ true → echo_kind6 kind ≡ kind6 → echo_kind4 kind6 ≡ kind
      → is_error_kind4 kind ≡ false → is_error_kind6 kind6 ≡ false
      → (payload : List ℕ) → field8 payload 0 ≡ kind → field8 payload 1 < 256 → 4 ≤ length payload
      → IsMoved 2 payload (across first second (record d { payload = payload }) id).payload
  at-kind kind kind6 small small6 a b c e f g [] is code long = absurd (omega arith)
  at-kind kind kind6 small small6 a b c e f g (x ∷ []) is code long = absurd (omega arith)
  at-kind kind kind6 small small6 a b c e f g (x ∷ y ∷ []) is code long = absurd (omega arith)
  at-kind kind kind6 small small6 a b c e f g (x ∷ y ∷ z ∷ []) is code long = absurd (omega arith)
  at-kind kind kind6 small small6 a b c e f g (x ∷ y ∷ z ∷ w ∷ rest) is code long =
      subst (λ k. IsMoved 2 (k ∷ y ∷ z ∷ w ∷ rest) (across first second (record d { payload = k ∷ y ∷ z ∷ w ∷ rest }) id).payload) (sym is)
      (echo-across first second d icmp kind kind6 y z w rest id small small6 code a b c e f g)

  between-at : (kind kind6 : ℕ) → kind < 256 → kind6 < 256 → is_echo_kind4 kind ≡ true → is_echo_kind6 kind6 ≡ true → echo_kind6 kind ≡ kind6 → echo_kind4 kind6 ≡ kind
      → is_error_kind4 kind ≡ false → is_error_kind6 kind6 ≡ false
      → (payload : List ℕ) → field8 payload 0 ≡ kind → field8 payload 1 < 256 → 4 ≤ length payload
      → is_error_kind6 (field8 (between first (record d { payload = payload })).payload 0) ≡ false
  between-at kind kind6 small small6 a b c e f g [] is code long = absurd (omega arith)
  between-at kind kind6 small small6 a b c e f g (x ∷ []) is code long = absurd (omega arith)
  between-at kind kind6 small small6 a b c e f g (x ∷ y ∷ []) is code long = absurd (omega arith)
  between-at kind kind6 small small6 a b c e f g (x ∷ y ∷ z ∷ []) is code long = absurd (omega arith)
  between-at kind kind6 small small6 a b c e f g (x ∷ y ∷ z ∷ w ∷ rest) is code long =
      subst (λ k. is_error_kind6 (field8 (between first (record d { payload = k ∷ y ∷ z ∷ w ∷ rest })).payload 0) ≡ false) (sym is)
      (kind-between first second d icmp kind kind6 y z w rest id small small6 code a b c e f g)

  by-kind : {X : Type 0} (a b : Bool) → (a || b) ≡ true → (a ≡ true → X) → (b ≡ true → X) → X
  by-kind true b e at_a at_b = at_a refl
  by-kind false true e at_a at_b = at_b refl
  by-kind false false e at_a at_b = cc

  -- an echo message is no error between the devices
  pub echo-between : AreBytes d.payload → 8 ≤ length d.payload → is_echo_kind4 (field8 d.payload 0) ≡ true
      → is_error_kind6 (field8 (between first d).payload 0) ≡ false
  echo-between bytes long echo =
      let code : field8 d.payload 1 < 256 = bytes 1 in
      by-kind (field8 d.payload 0 == 8) (field8 d.payload 0 == 0) echo
      (λ is. between-at 8 128 (omega arith) (omega arith) refl refl refl refl refl refl d.payload (eqb-true (field8 d.payload 0) 8 is) code (omega arith))
      (λ is. between-at 0 129 (omega arith) (omega arith) refl refl refl refl refl refl d.payload (eqb-true (field8 d.payload 0) 0 is) code (omega arith))

  pub echoes-across : AreBytes d.payload → 8 ≤ length d.payload → is_echo_kind4 (field8 d.payload 0) ≡ true
      → IsMoved 2 d.payload (across first second d id).payload
  echoes-across bytes long echo =
      let code : field8 d.payload 1 < 256 = bytes 1 in
      by-kind (field8 d.payload 0 == 8) (field8 d.payload 0 == 0) echo
      (λ is. at-kind 8 128 (omega arith) (omega arith) refl refl refl refl refl refl d.payload (eqb-true (field8 d.payload 0) 8 is) code (omega arith))
      (λ is. at-kind 0 129 (omega arith) (omega arith) refl refl refl refl refl refl d.payload (eqb-true (field8 d.payload 0) 0 is) code (omega arith))
