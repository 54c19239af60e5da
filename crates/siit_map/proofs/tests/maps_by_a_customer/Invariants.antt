use Rattle.siit_map.proofs.tests.maps_by_a_customer.Given as goal

abbrev pub ghosts-map_each : goal.ghosts-map_each
ghosts-map_each g a = record { name = a.blank.name; parts = a.blank.parts }
