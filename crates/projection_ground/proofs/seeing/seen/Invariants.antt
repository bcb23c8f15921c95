use Rattle.projection_ground.proofs.seeing.seen.Given as goal

abbrev pub ghosts-shown_by : goal.ghosts-shown_by
ghosts-shown_by a = record { name = a.blank.name; parts = a.blank.parts }
