use Rattle.siit_pair.proofs.accepted.mapped6.Given as goal

abbrev pub ghosts-mapped6_by : goal.ghosts-mapped6_by
ghosts-mapped6_by a = record { name = a.blank.name; parts = a.blank.parts }
