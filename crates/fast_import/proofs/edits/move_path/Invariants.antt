use Rattle.fast_import.proofs.edits.move_path.Given as goal

abbrev pub ghosts-rename : goal.ghosts-rename
ghosts-rename g = record { name = g.blank.name; parts = g.blank.parts }
