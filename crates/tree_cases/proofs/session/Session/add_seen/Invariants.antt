use Rattle.tree_cases.proofs.session.Session.add_seen.Given as goal

abbrev pub ghosts-add_shown : goal.ghosts-add_shown
ghosts-add_shown g = record { name = g.blank.name; parts = g.blank.parts }
