use Rattle.std.proofs.Common.{◌≡◌, Some, None, sym}
use Rattle.std.proofs.lemmas.Result.{err_from_is_err_and}
use Rattle.siit_model.specs.Ipv4.{ipv4_fields}
use Rattle.siit_device.specs.Rows.{first_of}
use Rattle.siit_device.specs.Rules4.{header_rows4}
use Rattle.siit_arrival4.proofs.Joined.{in_bytes, behind_bytes, in_header, in_upper, in_addresses, in_quote, in_size}
use Rattle.siit_arrival4.proofs.arrival.arrive4.Goals as goal

pub returns-in-Err-clause-refused : goal.returns-in-Err-clause-refused
returns-in-Err-clause-refused g c = in_bytes c.args.settings.now c.args.bytes.now c.in-Err.rule c.in-Err.ensures.refused

pub returns-in-Some-clause-refused : goal.returns-in-Some-clause-refused
returns-in-Some-clause-refused g c =
    let settings = c.args.settings.now in
    let packet = ipv4_fields c.in-Ok.header in
    behind_bytes settings c.in-Ok.header c.args.bytes.now (Some c.in-Some.rule) c.in-Ok.ensures.bytes c.in-Ok.ensures.accepted
    (in_header settings packet c.in-Some.rule (sym c.in-Some.ensures.rule))

pub returns-in_err-kind-clause-refused : goal.returns-in_err-kind-clause-refused
returns-in_err-kind-clause-refused g c =
    let settings = c.args.settings.now in
    let packet = ipv4_fields c.in-Ok.header in
    let none : first_of header_rows4 packet ≡ None = sym c.in_default.ensures.rule in
    let from = err_from_is_err_and c.from_residual.result c.from_residual.ensures.1 in
    let rule = c.in_err-kind.field-0.0 in
    rw (from.1, from.2) (
    behind_bytes settings c.in-Ok.header c.args.bytes.now (Some rule) c.in-Ok.ensures.bytes c.in-Ok.ensures.accepted
    (in_upper settings packet rule none c.in_err-kind.ensures.refused)
    )

pub returns-in_err-new-clause-refused : goal.returns-in_err-new-clause-refused
returns-in_err-new-clause-refused g c =
    let settings = c.args.settings.now in
    let packet = ipv4_fields c.in-Ok.header in
    let none : first_of header_rows4 packet ≡ None = sym c.in_default.ensures.rule in
    let from = err_from_is_err_and c.from_residual-in_err-new.result c.from_residual-in_err-new.ensures.1 in
    let rule = c.in_err-new.field-0.0 in
    rw (from.1, from.2) (
    behind_bytes settings c.in-Ok.header c.args.bytes.now (Some rule) c.in-Ok.ensures.bytes c.in-Ok.ensures.accepted
    (in_addresses settings packet rule none c.in_ok-kind.ensures.accepted c.in_err-new.ensures.refused)
    )

pub returns-in_err-upper-clause-refused : goal.returns-in_err-upper-clause-refused
returns-in_err-upper-clause-refused g c =
    let settings = c.args.settings.now in
    let packet = ipv4_fields c.in-Ok.header in
    let none : first_of header_rows4 packet ≡ None = sym c.in_default.ensures.rule in
    let from = err_from_is_err_and c.from_residual-in_err-upper.result c.from_residual-in_err-upper.ensures.1 in
    let rule = c.in_err-upper.field-0.0 in
    rw (from.1, from.2) (
    behind_bytes settings c.in-Ok.header c.args.bytes.now (Some rule) c.in-Ok.ensures.bytes c.in-Ok.ensures.accepted
    (in_quote settings packet rule none c.in_ok-kind.ensures.accepted c.in_ok-new.ensures.accepted c.in_err-upper.ensures.refused)
    )

pub returns-in-Some-size_rule-clause-refused : goal.returns-in-Some-size_rule-clause-refused
returns-in-Some-size_rule-clause-refused g c =
    let settings = c.args.settings.now in
    let packet = ipv4_fields c.in-Ok.header in
    let none : first_of header_rows4 packet ≡ None = sym c.in_default.ensures.rule in
    let rule = c.in-Some-size_rule.rule in
    behind_bytes settings c.in-Ok.header c.args.bytes.now (Some rule) c.in-Ok.ensures.bytes c.in-Ok.ensures.accepted
    (in_size settings packet (Some rule) none c.in_ok-kind.ensures.accepted c.in_ok-new.ensures.accepted c.in_ok-upper.ensures.accepted (sym c.in-Some-size_rule.ensures))

pub returns-clause-accepted : goal.returns-clause-accepted
returns-clause-accepted g c =
    let settings = c.args.settings.now in
    let packet = ipv4_fields c.in-Ok.header in
    let none : first_of header_rows4 packet ≡ None = sym c.in_default.ensures.rule in
    behind_bytes settings c.in-Ok.header c.args.bytes.now (None) c.in-Ok.ensures.bytes c.in-Ok.ensures.accepted
    (in_size settings packet None none c.in_ok-kind.ensures.accepted c.in_ok-new.ensures.accepted c.in_ok-upper.ensures.accepted (sym c.in_default-size_rule.ensures))
