-- The groups of rules joined: a packet's first rule by those of the groups, and what each group's first rule hangs on.
use Rattle.std.proofs.Common.{◌≡◌, ℕ, List, [], ◌∷◌, Bool, true, false, not, ◌&&◌, if◌then◌else◌, Option, Some, None, Result, Ok, Err, IfOk, IfErr, refl, sym, ap, ◌∙◌}
use Rattle.siit_addr.specs.declared.addr.Addr4.{Addr4}
use Rattle.siit_model.specs.Extensions.{Walked, Trouble}
use Rattle.siit_model.specs.Ipv6.{Ipv6Packet, ipv6_fields}
use Rattle.siit_views.specs.Headers.{refusal6}
use Rattle.siit_map.specs.Mapping.{ipv4_for}
use Rattle.siit_map.specs.declared.mapping.Means.{Means}
use Rattle.siit_map.specs.declared.mapping.MapRefusal.{MapRefusal}
use Rattle.siit_rules.specs.declared.rule.Rule.{Rule}
use Rattle.siit_rules.specs.declared.rule.Rule.TheVariants.{RoleSource6, RoleDestination6, SourceMap6, DestinationMap6, HairpinSource6, QuoteShort6, QuoteBad6, NestedTwice6, QuoteType6, QuoteAddress6, TooBig6}
use Rattle.siit_roles.specs.Roles.{role_refusal6}
use Rattle.siit_roles.specs.declared.settings.Settings.{Settings}
use Rattle.siit_quoted.specs.Refusals.{quote_refusal6}
use Rattle.siit_upper.specs.Walks.{walk_by_rule, rule_of, walked}
use Rattle.siit_upper.specs.declared.walk.Walk.{Walk}
use Rattle.siit_v6to4.specs.To4.{walk_in}
use Rattle.siit_device.specs.Addresses.{means_of}
use Rattle.siit_device.specs.Arrival6.{Arrived, arrived_fragment, is_error6, quoted_part6, turn_for, is_pair, is_source_refused6, is_destination_refused6, is_turn_refused, is_quote_unmapped6}
use Rattle.siit_device.specs.Rows.{row, first_of, is_by, or_rule}
use Rattle.siit_device.specs.Rules6.{bytes_rows6, header_rows6, walk_rows6, upper_rows6, address_rows6, quote_rows6, size_rows6, arrived_rule6, walked_rule6, packet_rule6, first_rule6}
use Rattle.siit_arrival6.specs.Parts.{found_in, means_found}
use Rattle.siit_arrival6.proofs.Tables.{role_first, quote_first}

-- THE PACKET

first_bytes : (bytes : List ℕ) → first_of bytes_rows6 bytes ≡ refusal6 bytes
unfolding bytes_rows6
first_bytes bytes = refl

pub in_bytes : (settings : Settings) (bytes : List ℕ) (rule : Rule) → refusal6 bytes ≡ Some rule → first_rule6 settings bytes ≡ Some rule
unfolding first_rule6
in_bytes settings bytes rule e = rw (first_bytes bytes ∙ e) refl

behind_bytes : (settings : Settings) (header bytes : List ℕ) (found : Option Rule) → header ≡ bytes → refusal6 bytes ≡ None
    → packet_rule6 settings (ipv6_fields header) ≡ found → first_rule6 settings bytes ≡ found
unfolding first_rule6
behind_bytes settings header bytes found same e f = rw (first_bytes bytes ∙ e) (ap (λ b. packet_rule6 settings (ipv6_fields b)) (sym same) ∙ f)

pub in_header : (settings : Settings) (header bytes : List ℕ) (rule : Rule) → header ≡ bytes → refusal6 bytes ≡ None
    → first_of header_rows6 (ipv6_fields header) ≡ Some rule → first_rule6 settings bytes ≡ Some rule
in_header settings header bytes rule same e h = behind_bytes settings header bytes (Some rule) same e (rw h refl)

trouble_rule : (settings : Settings) (packet : Ipv6Packet) (walk : Result Walked Trouble) (rule : Rule) → walk_by_rule walk ≡ Err rule
    → walked_rule6 settings packet walk ≡ Some rule
trouble_rule settings packet (Err trouble) rule e = let same : rule_of trouble ≡ rule = cc in rw same refl
trouble_rule settings packet (Ok found) rule e = cc

pub in_walk : (settings : Settings) (header bytes : List ℕ) (rule : Rule) → header ≡ bytes → refusal6 bytes ≡ None
    → first_of header_rows6 (ipv6_fields header) ≡ None → walk_by_rule (walk_in header) ≡ Err rule → first_rule6 settings bytes ≡ Some rule
in_walk settings header bytes rule same e h w =
    behind_bytes settings header bytes (Some rule) same e (rw h (trouble_rule settings (ipv6_fields header) (walk_in header) rule w))

pub behind_walk : (settings : Settings) (header bytes : List ℕ) (walk : Walk) (found : Option Rule) → header ≡ bytes → refusal6 bytes ≡ None
    → first_of header_rows6 (ipv6_fields header) ≡ None → walk_in header ≡ Ok (walked walk)
    → arrived_rule6 settings (found_in header walk) ≡ found → first_rule6 settings bytes ≡ found
behind_walk settings header bytes walk found same e h w f =
    behind_bytes settings header bytes found same e (rw h (ap (walked_rule6 settings (ipv6_fields header)) w ∙ f))

-- BEHIND THE WALK

pub in_walk_rows : (settings : Settings) (arrived : Arrived) (rule : Rule) → first_of walk_rows6 arrived ≡ Some rule → arrived_rule6 settings arrived ≡ Some rule
unfolding arrived_rule6
in_walk_rows settings arrived rule h = rw h refl

pub in_upper : (settings : Settings) (arrived : Arrived) (rule : Rule) → first_of walk_rows6 arrived ≡ None
    → first_of upper_rows6 arrived ≡ Some rule → arrived_rule6 settings arrived ≡ Some rule
unfolding arrived_rule6
in_upper settings arrived rule h u = rw (h, u) refl

pub in_addresses : (settings : Settings) (arrived : Arrived) (rule : Rule) → first_of walk_rows6 arrived ≡ None
    → first_of upper_rows6 arrived ≡ None → first_of (address_rows6 settings) arrived ≡ Some rule → arrived_rule6 settings arrived ≡ Some rule
unfolding arrived_rule6
in_addresses settings arrived rule h u a = rw (h, u, a) refl

pub behind_addresses : (settings : Settings) (arrived : Arrived) (found : Option Rule) → first_of walk_rows6 arrived ≡ None
    → first_of upper_rows6 arrived ≡ None → first_of (address_rows6 settings) arrived ≡ None
    → or_rule (first_of (quote_rows6 settings) arrived) (first_of (size_rows6 settings) arrived) ≡ found → arrived_rule6 settings arrived ≡ found
unfolding arrived_rule6
behind_addresses settings arrived found h u a f = rw (h, u, a) f

pub in_quote : (q s : Option Rule) (rule : Rule) → q ≡ Some rule → or_rule q s ≡ Some rule
in_quote q s rule e = rw e refl

pub behind_quote : (q s found : Option Rule) → q ≡ None → s ≡ found → or_rule q s ≡ found
behind_quote q s found e f = rw e f

turned_by : (b c d : Bool) → b ≡ true → (if not b && c && d then Some TooBig6 else None) ≡ None
turned_by b c d e = rw e refl

-- a packet that is turned is never too big
pub turned_fits : (settings : Settings) (arrived : Arrived) → is_pair (turn_for settings arrived) ≡ true → first_of (size_rows6 settings) arrived ≡ None
unfolding size_rows6
turned_fits settings arrived e = turned_by (is_pair (turn_for settings arrived)) _ _ e

-- ADDRESSES

means_same : (r : Result (Addr4 × Means) MapRefusal) (x : Result (ℕ × Means) MapRefusal)
    → IfOk r (λ found. x ≡ Ok (found.0.0, found.1)) → IfErr r (λ refusal. x ≡ Err refusal) → means_found r ≡ means_of x
means_same (Ok found) x h k = rw h refl
means_same (Err refusal) x h k = rw k refl

roles_by : (r : Option Rule) (rule : Rule) (later : Option Rule) → r ≡ Some rule
    → (if is_by RoleSource6 (Some rule) then Some RoleSource6 else if is_by RoleDestination6 (Some rule) then Some RoleDestination6 else later) ≡ Some rule
    → (if is_by RoleSource6 r then Some RoleSource6 else if is_by RoleDestination6 r then Some RoleDestination6 else later) ≡ Some rule
roles_by r rule later e k = rw e k

roles_packet : (settings : Settings) (arrived : Arrived) (rule : Rule)
    → role_refusal6 settings.role (means_of (ipv4_for settings.mapping arrived.packet.source)) (means_of (ipv4_for settings.mapping arrived.packet.destination)) ≡ Some rule
    → first_of (address_rows6 settings) arrived ≡ Some rule
unfolding address_rows6
roles_packet settings arrived rule e =
    let src = means_of (ipv4_for settings.mapping arrived.packet.source) in
    let dst = means_of (ipv4_for settings.mapping arrived.packet.destination) in
    let later = first_of (row SourceMap6 (is_source_refused6 settings) ∷ row DestinationMap6 (is_destination_refused6 settings) ∷ row HairpinSource6 (is_turn_refused settings) ∷ []) arrived in
    roles_by (role_refusal6 settings.role src dst) rule later e (role_first settings.role src dst rule later e)

pub in_roles : (settings : Settings) (arrived : Arrived) (src dst : ℕ) (r s : Result (Addr4 × Means) MapRefusal) (m n : Option Means) (rule : Rule)
    → src ≡ arrived.packet.source → dst ≡ arrived.packet.destination
    → IfOk r (λ found. ipv4_for settings.mapping src ≡ Ok (found.0.0, found.1)) → IfErr r (λ refusal. ipv4_for settings.mapping src ≡ Err refusal)
    → IfOk s (λ found. ipv4_for settings.mapping dst ≡ Ok (found.0.0, found.1)) → IfErr s (λ refusal. ipv4_for settings.mapping dst ≡ Err refusal)
    → m ≡ means_found r → n ≡ means_found s → Some rule ≡ role_refusal6 settings.role m n
    → first_of (address_rows6 settings) arrived ≡ Some rule
in_roles settings arrived src dst r s m n rule is_src is_dst r_ok r_err s_ok s_err is_m is_n e =
    let source : m ≡ means_of (ipv4_for settings.mapping arrived.packet.source) =
    is_m ∙ means_same r (ipv4_for settings.mapping src) r_ok r_err ∙ ap (λ a. means_of (ipv4_for settings.mapping a)) is_src in
    let destination : n ≡ means_of (ipv4_for settings.mapping arrived.packet.destination) =
    is_n ∙ means_same s (ipv4_for settings.mapping dst) s_ok s_err ∙ ap (λ a. means_of (ipv4_for settings.mapping a)) is_dst in
    roles_packet settings arrived rule (sym (e ∙ ap (λ x. role_refusal6 settings.role x n) source
    ∙ ap (λ y. role_refusal6 settings.role (means_of (ipv4_for settings.mapping arrived.packet.source)) y) destination))

-- QUOTES

quotes_by : (b : Bool) (r : Option Rule) (rule : Rule) (later : Option Rule) → b ≡ true → r ≡ Some rule
    → (if is_by QuoteShort6 (Some rule) then Some QuoteShort6 else if is_by QuoteBad6 (Some rule) then Some QuoteBad6
    else if is_by NestedTwice6 (Some rule) then Some NestedTwice6 else if is_by QuoteType6 (Some rule) then Some QuoteType6 else later) ≡ Some rule
    → (if b && is_by QuoteShort6 r then Some QuoteShort6 else if b && is_by QuoteBad6 r then Some QuoteBad6
    else if b && is_by NestedTwice6 r then Some NestedTwice6 else if b && is_by QuoteType6 r then Some QuoteType6 else later) ≡ Some rule
quotes_by b r rule later e f k = rw (e, f) k

pub in_quoted : (settings : Settings) (arrived : Arrived) (message part : List ℕ) (rule : Rule) → message ≡ (arrived_fragment arrived).bytes
    → part ≡ quoted_part6 message → is_error6 (arrived_fragment arrived) ≡ true → quote_refusal6 part ≡ Some rule
    → first_of (quote_rows6 settings) arrived ≡ Some rule
unfolding quote_rows6
in_quoted settings arrived message part rule is_message is_part is_error e =
    let later = first_of (row QuoteAddress6 (is_quote_unmapped6 settings) ∷ []) arrived in
    let bytes = (arrived_fragment arrived).bytes in
    let refusal : quote_refusal6 (quoted_part6 bytes) ≡ Some rule =
    ap (λ p. quote_refusal6 (quoted_part6 p)) (sym is_message) ∙ ap quote_refusal6 (sym is_part) ∙ e in
    quotes_by (is_error6 (arrived_fragment arrived)) (quote_refusal6 (quoted_part6 bytes)) rule later is_error refusal
    (quote_first (quoted_part6 bytes) rule later refusal)

unquoted_by : (b x y z w v : Bool) → b ≡ false
    → (if b && x then Some QuoteShort6 else if b && y then Some QuoteBad6 else if b && z then Some NestedTwice6
    else if b && w then Some QuoteType6 else if b && v then Some QuoteAddress6 else None) ≡ None
unquoted_by b x y z w v e = rw e refl

pub no_quote : (settings : Settings) (arrived : Arrived) → is_error6 (arrived_fragment arrived) ≡ false → first_of (quote_rows6 settings) arrived ≡ None
unfolding quote_rows6
no_quote settings arrived e = unquoted_by (is_error6 (arrived_fragment arrived)) _ _ _ _ _ e
