use Rattle.std.proofs.Common.{◌++◌, length, take, ap, ◌∙◌}
use Rattle.siit_addr.specs.Canonical.{joined, groups_text}
use Rattle.siit_addr.proofs.GroupsWritten.{written_with_gap, written_without_gap}
use Rattle.siit_addr.proofs.text.write_addr6.Goals as goal

pub returns : goal.returns
returns c =
    let run = c.longest_zero_run-place in
    written_with_gap c.groups_of-groups.result c.push_groups-2.new.text.bytes c.push_str.new.self.bytes c.push_groups-3.new.text.bytes
    run.result.0 run.result.1 8 (ap length c.groups_of-groups.ensures) run.ensures.len run.ensures.place c.if-len-lt-SHORTEST_GAP.false
    (c.push_groups-2.ensures.bytes ∙ ap (λ front. front ++ joined (take run.result.0 c.groups_of-groups.result)) c.new-text.ensures) c.push_str.ensures.bytes c.push_groups-3.ensures.bytes
    ∙ ap groups_text c.groups_of-groups.ensures

pub returns-then-len-lt-SHORTEST_GAP : goal.returns-then-len-lt-SHORTEST_GAP
returns-then-len-lt-SHORTEST_GAP c =
    let groups = c.groups_of-groups.result in
    written_without_gap groups c.push_groups.new.text.bytes c.longest_zero_run-place.result.1 c.longest_zero_run-place.ensures.len c.if-len-lt-SHORTEST_GAP.true
    (c.push_groups.ensures.bytes ∙ ap (λ front. front ++ joined groups) c.new-text.ensures)
    ∙ ap groups_text c.groups_of-groups.ensures
