-- The plain data of a filter of the code.
use Rattle.std.specs.Prelude.{List, [], ◌∷◌}
use Rattle.filter_text.specs.Filters as plain
use Rattle.filter_text.specs.declared.filter.Filter.{Filter, Nop, Sub, Prefix, Dir, File, Exclude', Join', Chain', Workspace, Row_of-Filter, end_of-Filter, more_of-Filter}

abbrev mutual
  pub shape : Filter → plain.Filter
  shape Nop = plain.nop
  shape (Sub p) = plain.sub p
  shape (Prefix p) = plain.onto p
  shape (Dir p) = plain.dir p
  shape (File p) = plain.file p
  shape (Exclude' p f) = plain.exclude (shape f)
  shape (Join' m all) = plain.join (shape_row all)
  shape (Chain' m all) = plain.chain (shape_row all)
  shape (Workspace p) = plain.workspace p

  pub shape_row : {m : _} → Row_of-Filter m → plain.Filters
  shape_row end_of-Filter = plain.no_more
  shape_row (more_of-Filter f rest) = plain.more (shape f) (shape_row rest)

abbrev pub shapes : List Filter → plain.Filters
shapes [] = plain.no_more
shapes (f ∷ fs) = plain.more (shape f) (shapes fs)
