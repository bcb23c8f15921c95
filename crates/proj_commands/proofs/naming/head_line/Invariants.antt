use Rattle.proj_commands.proofs.naming.head_line.Given as goal

abbrev pub ghosts-projected : goal.ghosts-projected
ghosts-projected a = record { name = a.blank.name; parts = a.blank.parts }
