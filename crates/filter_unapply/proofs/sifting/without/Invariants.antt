use Rattle.filter_unapply.proofs.sifting.without.Given as goal

abbrev pub ghosts-founds_by : goal.ghosts-founds_by
ghosts-founds_by a = record { name = a.blank.name; parts = a.blank.parts }
