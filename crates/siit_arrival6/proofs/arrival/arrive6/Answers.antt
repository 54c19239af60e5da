use Rattle.std.proofs.Common.{◌≡◌, Some, None, sym}
use Rattle.siit_model.specs.Ipv6.{ipv6_fields}
use Rattle.siit_device.specs.Rows.{first_of}
use Rattle.siit_device.specs.Rules6.{header_rows6}
use Rattle.siit_v6to4.specs.To4.{walk_in}
use Rattle.siit_arrival6.proofs.Silent.{refusal_silent, header_silent, walk_silent}
use Rattle.siit_arrival6.proofs.Joined.{in_bytes, in_header, in_walk, behind_walk}
use Rattle.siit_arrival6.proofs.arrival.arrive6.Goals as goal

pub returns-in-Err-clause-refused : goal.returns-in-Err-clause-refused
returns-in-Err-clause-refused g c =
    rw c.unwalked.ensures.rule (in_bytes c.args.settings.now c.args.bytes.now c.in-Err.rule c.in-Err.ensures.refused)

pub returns-in-Some-clause-refused : goal.returns-in-Some-clause-refused
returns-in-Some-clause-refused g c =
    rw c.unwalked-in-Some.ensures.rule (in_header c.args.settings.now c.in-Ok.header c.args.bytes.now c.in-Some.rule c.in-Ok.ensures.bytes
    c.in-Ok.ensures.accepted (sym c.in-Some.ensures))

pub returns-in-Err-walk_over-clause-refused : goal.returns-in-Err-walk_over-clause-refused
returns-in-Err-walk_over-clause-refused g c =
    let none : first_of header_rows6 (ipv6_fields c.in-Ok.header) ≡ None = sym c.in_default.ensures in
    rw c.unwalked-in-Err-walk_over.ensures.rule (in_walk c.args.settings.now c.in-Ok.header c.args.bytes.now c.in-Err-walk_over.rule c.in-Ok.ensures.bytes
    c.in-Ok.ensures.accepted none c.in-Err-walk_over.ensures.refused)

pub returns-in-Err-arrived_by-clause-refused : goal.returns-in-Err-arrived_by-clause-refused
returns-in-Err-arrived_by-clause-refused g c =
    let none : first_of header_rows6 (ipv6_fields c.in-Ok.header) ≡ None = sym c.in_default.ensures in
    behind_walk c.args.settings.now c.in-Ok.header c.args.bytes.now c.in-Ok-walk_over.walk (Some c.in-Err-arrived_by.rule) c.in-Ok.ensures.bytes
    c.in-Ok.ensures.accepted none c.in-Ok-walk_over.ensures.walk c.in-Err-arrived_by.ensures.refused

pub returns-in-Ok-arrived_by-clause-accepted : goal.returns-in-Ok-arrived_by-clause-accepted
returns-in-Ok-arrived_by-clause-accepted g c =
    let none : first_of header_rows6 (ipv6_fields c.in-Ok.header) ≡ None = sym c.in_default.ensures in
    behind_walk c.args.settings.now c.in-Ok.header c.args.bytes.now c.in-Ok-walk_over.walk None c.in-Ok.ensures.bytes
    c.in-Ok.ensures.accepted none c.in-Ok-walk_over.ensures.walk c.in-Ok-arrived_by.ensures.accepted

pub returns-in-Err-clause-answerable : goal.returns-in-Err-clause-answerable
returns-in-Err-clause-answerable g c = refusal_silent c.args.bytes.now _ c.in-Err.rule c.unwalked.ensures.rule c.in-Err.ensures.refused

pub returns-in-Some-clause-answerable : goal.returns-in-Some-clause-answerable
returns-in-Some-clause-answerable g c = header_silent (ipv6_fields c.in-Ok.header) _ c.in-Some.rule c.unwalked-in-Some.ensures.rule (sym c.in-Some.ensures)

pub returns-in-Err-walk_over-clause-answerable : goal.returns-in-Err-walk_over-clause-answerable
returns-in-Err-walk_over-clause-answerable g c =
    walk_silent (walk_in c.in-Ok.header) _ c.in-Err-walk_over.rule c.unwalked-in-Err-walk_over.ensures.rule c.in-Err-walk_over.ensures.refused
