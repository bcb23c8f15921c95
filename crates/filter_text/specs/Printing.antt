-- The canonical text of a filter.
use Rattle.std.specs.Prelude.{cond, [], ◌∷◌, ◌++◌, codes}
use Rattle.std.specs.List.{list_any}
use Rattle.git_objects.specs.Paths.{Bytes, Path, text}
use Rattle.path_names.specs.Quoting.{quoted}
use Rattle.filter_text.specs.Filters.{Filter, Filters, nop, sub, onto, dir, file, exclude, join, chain, workspace, no_more, more}
use Rattle.filter_text.specs.Texts.{ends_bare}

-- bare where each byte may stand in a bare path, else between quotes
abbrev pub name_text : Bytes → Bytes
name_text t = cond (list_any ends_bare t) (quoted t) t

abbrev pub path_text : Path → Bytes
path_text p = name_text (text p)

abbrev pub list_text : Bytes → Bytes
list_text t = codes ":[" ++ t ++ 93 ∷ []

abbrev mutual
  pub printed : Filter → Bytes
  printed nop = codes ":nop"
  printed (sub p) = codes ":/" ++ path_text p
  printed (onto p) = codes ":prefix=" ++ path_text p
  printed (dir p) = codes "::" ++ path_text p ++ 47 ∷ []
  printed (file p) = codes "::" ++ path_text p
  printed (exclude f) = codes ":exclude[" ++ printed_inside f ++ 93 ∷ []
  printed (join fs) = list_text (printed_members fs)
  printed (chain fs) = printed_pieces fs
  printed (workspace p) = codes ":workspace=" ++ path_text p

  -- what an exclude has between its brackets: the members of a list, but for a list of exactly one
  pub printed_inside : Filter → Bytes
  printed_inside nop = codes ":nop"
  printed_inside (sub p) = codes ":/" ++ path_text p
  printed_inside (onto p) = codes ":prefix=" ++ path_text p
  printed_inside (dir p) = codes "::" ++ path_text p ++ 47 ∷ []
  printed_inside (file p) = codes "::" ++ path_text p
  printed_inside (exclude f) = codes ":exclude[" ++ printed_inside f ++ 93 ∷ []
  printed_inside (join fs) = printed_listed fs
  printed_inside (chain fs) = printed_pieces fs
  printed_inside (workspace p) = codes ":workspace=" ++ path_text p

  pub printed_listed : Filters → Bytes
  printed_listed no_more = []
  printed_listed (more f no_more) = list_text (printed f)
  printed_listed (more f (more g fs)) = printed f ++ printed_further (more g fs)

  pub printed_members : Filters → Bytes
  printed_members no_more = []
  printed_members (more f fs) = printed f ++ printed_further fs

  -- members behind another, each with a comma before it
  pub printed_further : Filters → Bytes
  printed_further no_more = []
  printed_further (more f fs) = 44 ∷ (printed f ++ printed_further fs)

  pub printed_pieces : Filters → Bytes
  printed_pieces no_more = []
  printed_pieces (more f fs) = printed f ++ printed_pieces fs
