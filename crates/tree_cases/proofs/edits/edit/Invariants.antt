use Rattle.tree_cases.proofs.edits.edit.Given as goal

abbrev pub ghosts-renamed : goal.ghosts-renamed
ghosts-renamed g = record { name = g.blank.name; parts = g.blank.parts }
