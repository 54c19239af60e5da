-- The groups of rules joined: a packet's first rule by those of the groups, and what each group's first rule hangs on.
use Rattle.std.proofs.Common.{◌≡◌, ℕ, List, [], ◌∷◌, Bool, true, false, ◌&&◌, if◌then◌else◌, Option, Some, None, Result, Ok, Err, IfOk, IfErr, refl, sym, ap, ◌∙◌}
use Rattle.siit_addr.specs.declared.addr.Addr6.{Addr6}
use Rattle.siit_model.specs.Ipv4.{Ipv4Packet, ipv4_fields}
use Rattle.siit_views.specs.Headers.{refusal4}
use Rattle.siit_map.specs.Mapping.{ipv6_for}
use Rattle.siit_map.specs.declared.mapping.Means.{Means}
use Rattle.siit_map.specs.declared.mapping.MapRefusal.{MapRefusal}
use Rattle.siit_rules.specs.declared.rule.Rule.{Rule}
use Rattle.siit_rules.specs.declared.rule.Rule.TheVariants.{RoleSource4, RoleDestination4, SourceMap4, DestinationMap4, QuoteShort4, QuoteBad4, NestedTwice4, QuoteType4, QuoteAddress4}
use Rattle.siit_roles.specs.Roles.{role_refusal4}
use Rattle.siit_roles.specs.declared.settings.Settings.{Settings}
use Rattle.siit_quoted.specs.Refusals.{quote_refusal4}
use Rattle.siit_device.specs.Addresses.{means_of}
use Rattle.siit_device.specs.Arrival4.{is_error4, quoted_part4, is_source_refused4, is_destination_refused4, is_quote_unmapped4}
use Rattle.siit_device.specs.Rows.{row, first_of, is_by}
use Rattle.siit_device.specs.Rules4.{bytes_rows4, header_rows4, upper_rows4, address_rows4, quote_rows4, size_rows4, packet_rule4, first_rule4}
use Rattle.siit_arrival4.specs.Parts.{means_found}
use Rattle.siit_arrival4.proofs.Tables.{role_first, quote_first}

-- THE PARTS

first_bytes : (bytes : List ℕ) → first_of bytes_rows4 bytes ≡ refusal4 bytes
unfolding bytes_rows4
first_bytes bytes = refl

pub in_bytes : (settings : Settings) (bytes : List ℕ) (rule : Rule) → refusal4 bytes ≡ Some rule → first_rule4 settings bytes ≡ Some rule
unfolding first_rule4
in_bytes settings bytes rule e = rw (first_bytes bytes ∙ e) refl

-- behind the first two rules, which speak of any bytes
pub behind_bytes : (settings : Settings) (header bytes : List ℕ) (found : Option Rule) → header ≡ bytes → refusal4 bytes ≡ None
    → packet_rule4 settings (ipv4_fields header) ≡ found → first_rule4 settings bytes ≡ found
unfolding first_rule4
behind_bytes settings header bytes found same e f = rw (first_bytes bytes ∙ e) (ap (λ b. packet_rule4 settings (ipv4_fields b)) (sym same) ∙ f)

pub in_header : (settings : Settings) (packet : Ipv4Packet) (rule : Rule) → first_of header_rows4 packet ≡ Some rule
    → packet_rule4 settings packet ≡ Some rule
unfolding packet_rule4
in_header settings packet rule h = rw h refl

pub in_upper : (settings : Settings) (packet : Ipv4Packet) (rule : Rule) → first_of header_rows4 packet ≡ None
    → first_of (upper_rows4 settings) packet ≡ Some rule → packet_rule4 settings packet ≡ Some rule
unfolding packet_rule4
in_upper settings packet rule h u = rw (h, u) refl

pub in_addresses : (settings : Settings) (packet : Ipv4Packet) (rule : Rule) → first_of header_rows4 packet ≡ None
    → first_of (upper_rows4 settings) packet ≡ None → first_of (address_rows4 settings) packet ≡ Some rule
    → packet_rule4 settings packet ≡ Some rule
unfolding packet_rule4
in_addresses settings packet rule h u a = rw (h, u, a) refl

pub in_quote : (settings : Settings) (packet : Ipv4Packet) (rule : Rule) → first_of header_rows4 packet ≡ None
    → first_of (upper_rows4 settings) packet ≡ None → first_of (address_rows4 settings) packet ≡ None
    → first_of (quote_rows4 settings) packet ≡ Some rule → packet_rule4 settings packet ≡ Some rule
unfolding packet_rule4
in_quote settings packet rule h u a q = rw (h, u, a, q) refl

pub in_size : (settings : Settings) (packet : Ipv4Packet) (found : Option Rule) → first_of header_rows4 packet ≡ None
    → first_of (upper_rows4 settings) packet ≡ None → first_of (address_rows4 settings) packet ≡ None
    → first_of (quote_rows4 settings) packet ≡ None → first_of (size_rows4 settings) packet ≡ found → packet_rule4 settings packet ≡ found
unfolding packet_rule4
in_size settings packet found h u a q s = rw (h, u, a, q) s

-- ADDRESSES

means_same : (r : Result (Addr6 × Means) MapRefusal) (x : Result (ℕ × Means) MapRefusal)
    → IfOk r (λ found. x ≡ Ok (found.0.0, found.1)) → IfErr r (λ refusal. x ≡ Err refusal) → means_found r ≡ means_of x
means_same (Ok found) x h k = rw h refl
means_same (Err refusal) x h k = rw k refl

roles_by : (r : Option Rule) (rule : Rule) (later : Option Rule) → r ≡ Some rule
    → (if is_by RoleSource4 (Some rule) then Some RoleSource4 else if is_by RoleDestination4 (Some rule) then Some RoleDestination4 else later) ≡ Some rule
    → (if is_by RoleSource4 r then Some RoleSource4 else if is_by RoleDestination4 r then Some RoleDestination4 else later) ≡ Some rule
roles_by r rule later e k = rw e k

roles_packet : (settings : Settings) (packet : Ipv4Packet) (rule : Rule)
    → role_refusal4 settings.role (means_of (ipv6_for settings.mapping packet.source)) (means_of (ipv6_for settings.mapping packet.destination)) ≡ Some rule
    → first_of (address_rows4 settings) packet ≡ Some rule
unfolding address_rows4
roles_packet settings packet rule e =
    let src = means_of (ipv6_for settings.mapping packet.source) in
    let dst = means_of (ipv6_for settings.mapping packet.destination) in
    let later = first_of (row SourceMap4 (is_source_refused4 settings) ∷ row DestinationMap4 (is_destination_refused4 settings) ∷ []) packet in
    roles_by (role_refusal4 settings.role src dst) rule later e (role_first settings.role src dst rule later e)

pub in_roles : (settings : Settings) (packet : Ipv4Packet) (src dst : ℕ) (r s : Result (Addr6 × Means) MapRefusal) (m n : Option Means) (rule : Rule)
    → src ≡ packet.source → dst ≡ packet.destination
    → IfOk r (λ found. ipv6_for settings.mapping src ≡ Ok (found.0.0, found.1)) → IfErr r (λ refusal. ipv6_for settings.mapping src ≡ Err refusal)
    → IfOk s (λ found. ipv6_for settings.mapping dst ≡ Ok (found.0.0, found.1)) → IfErr s (λ refusal. ipv6_for settings.mapping dst ≡ Err refusal)
    → m ≡ means_found r → n ≡ means_found s → Some rule ≡ role_refusal4 settings.role m n
    → first_of (address_rows4 settings) packet ≡ Some rule
in_roles settings packet src dst r s m n rule is_src is_dst r_ok r_err s_ok s_err is_m is_n e =
    let source : m ≡ means_of (ipv6_for settings.mapping packet.source) =
    is_m ∙ means_same r (ipv6_for settings.mapping src) r_ok r_err ∙ ap (λ a. means_of (ipv6_for settings.mapping a)) is_src in
    let destination : n ≡ means_of (ipv6_for settings.mapping packet.destination) =
    is_n ∙ means_same s (ipv6_for settings.mapping dst) s_ok s_err ∙ ap (λ a. means_of (ipv6_for settings.mapping a)) is_dst in
    roles_packet settings packet rule (sym (e ∙ ap (λ x. role_refusal4 settings.role x n) source
    ∙ ap (λ y. role_refusal4 settings.role (means_of (ipv6_for settings.mapping packet.source)) y) destination))

-- QUOTES

quotes_by : (b : Bool) (r : Option Rule) (rule : Rule) (later : Option Rule) → b ≡ true → r ≡ Some rule
    → (if is_by QuoteShort4 (Some rule) then Some QuoteShort4 else if is_by QuoteBad4 (Some rule) then Some QuoteBad4
    else if is_by NestedTwice4 (Some rule) then Some NestedTwice4 else if is_by QuoteType4 (Some rule) then Some QuoteType4 else later) ≡ Some rule
    → (if b && is_by QuoteShort4 r then Some QuoteShort4 else if b && is_by QuoteBad4 r then Some QuoteBad4
    else if b && is_by NestedTwice4 r then Some NestedTwice4 else if b && is_by QuoteType4 r then Some QuoteType4 else later) ≡ Some rule
quotes_by b r rule later e f k = rw (e, f) k

pub in_quoted : (settings : Settings) (packet : Ipv4Packet) (payload part : List ℕ) (rule : Rule) → payload ≡ packet.payload
    → part ≡ quoted_part4 payload → is_error4 packet ≡ true → quote_refusal4 part ≡ Some rule
    → first_of (quote_rows4 settings) packet ≡ Some rule
unfolding quote_rows4
in_quoted settings packet payload part rule is_payload is_part is_error e =
    let later = first_of (row QuoteAddress4 (is_quote_unmapped4 settings) ∷ []) packet in
    let refusal : quote_refusal4 (quoted_part4 packet.payload) ≡ Some rule =
    ap (λ p. quote_refusal4 (quoted_part4 p)) (sym is_payload) ∙ ap quote_refusal4 (sym is_part) ∙ e in
    quotes_by (is_error4 packet) (quote_refusal4 (quoted_part4 packet.payload)) rule later is_error refusal
    (quote_first (quoted_part4 packet.payload) rule later refusal)

unquoted_by : (b x y z w v : Bool) → b ≡ false
    → (if b && x then Some QuoteShort4 else if b && y then Some QuoteBad4 else if b && z then Some NestedTwice4
    else if b && w then Some QuoteType4 else if b && v then Some QuoteAddress4 else None) ≡ None
unquoted_by b x y z w v e = rw e refl

pub no_quote : (settings : Settings) (packet : Ipv4Packet) → is_error4 packet ≡ false → first_of (quote_rows4 settings) packet ≡ None
unfolding quote_rows4
no_quote settings packet e = unquoted_by (is_error4 packet) _ _ _ _ _ e
