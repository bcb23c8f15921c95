use Rattle.proj_commands.proofs.projecting.project.Given as goal

abbrev pub ghosts-shown_line : goal.ghosts-shown_line
ghosts-shown_line g a = record { name = a.blank.name; parts = a.blank.parts }
