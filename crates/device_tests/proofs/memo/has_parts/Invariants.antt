use Rattle.device_tests.proofs.memo.has_parts.Given as goal

abbrev pub ghosts-asked : goal.ghosts-asked
ghosts-asked g = record { name = g.blank.name; parts = g.blank.parts }
