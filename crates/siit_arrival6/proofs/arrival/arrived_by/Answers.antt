use Rattle.std.proofs.Common.{◌≡◌, Some, None, sym}
use Rattle.siit_device.specs.Rows.{first_of}
use Rattle.siit_device.specs.Rules6.{walk_rows6}
use Rattle.siit_arrival6.specs.Parts.{found_in}
use Rattle.siit_arrival6.proofs.Joined.{in_walk_rows, in_upper, in_addresses, behind_addresses}
use Rattle.siit_arrival6.proofs.arrival.arrived_by.Goals as goal

pub returns-in-Some-clause-refused : goal.returns-in-Some-clause-refused
returns-in-Some-clause-refused g c =
    in_walk_rows c.args.settings.now (found_in c.args.header.now c.args.walk) c.in-Some.rule (sym c.in-Some.ensures.rule)

pub returns-in-Err-clause-refused : goal.returns-in-Err-clause-refused
returns-in-Err-clause-refused g c =
    let found = found_in c.args.header.now c.args.walk in
    let none : first_of walk_rows6 found ≡ None = sym c.in_default.ensures.rule in
    in_upper c.args.settings.now found c.in-Err.rule none c.in-Err.ensures.refused

pub returns-in-Err-new_addresses-clause-refused : goal.returns-in-Err-new_addresses-clause-refused
returns-in-Err-new_addresses-clause-refused g c =
    let found = found_in c.args.header.now c.args.walk in
    let none : first_of walk_rows6 found ≡ None = sym c.in_default.ensures.rule in
    in_addresses c.args.settings.now found c.in-Err-new_addresses.rule none c.in-Ok.ensures.accepted c.in-Err-new_addresses.ensures.refused

pub returns-in-Err-sent_on-clause-refused : goal.returns-in-Err-sent_on-clause-refused
returns-in-Err-sent_on-clause-refused g c =
    let found = found_in c.args.header.now c.args.walk in
    let none : first_of walk_rows6 found ≡ None = sym c.in_default.ensures.rule in
    behind_addresses c.args.settings.now found (Some c.in-Err-sent_on.rule) none c.in-Ok.ensures.accepted c.in-Ok-new_addresses.ensures.accepted
    c.in-Err-sent_on.ensures.refused

pub returns-in-Ok-sent_on-clause-accepted : goal.returns-in-Ok-sent_on-clause-accepted
returns-in-Ok-sent_on-clause-accepted g c =
    let found = found_in c.args.header.now c.args.walk in
    let none : first_of walk_rows6 found ≡ None = sym c.in_default.ensures.rule in
    behind_addresses c.args.settings.now found None none c.in-Ok.ensures.accepted c.in-Ok-new_addresses.ensures.accepted
    c.in-Ok-sent_on.ensures.accepted
