use Rattle.siit_hairpin.proofs.tests.two_hosts_meet.Given as goal

abbrev pub ghosts-answer : goal.ghosts-answer
ghosts-answer g a = record { name = a.blank.name; parts = a.blank.parts }
