use Rattle.stage_tree.proofs.stage.Stage.copy.Given as goal

abbrev pub ghosts-copy : goal.ghosts-copy
ghosts-copy g = record { name = g.blank.name; parts = g.blank.parts }
