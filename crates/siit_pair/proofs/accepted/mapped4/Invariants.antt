use Rattle.siit_pair.proofs.accepted.mapped4.Given as goal

abbrev pub ghosts-mapped4_by : goal.ghosts-mapped4_by
ghosts-mapped4_by a = record { name = a.blank.name; parts = a.blank.parts }
