-- Refs with the commits that they name.
use Rattle.std.specs.Prelude.{List}
use Rattle.std.specs.declared.cmp.Ordering.{Ordering}
use Rattle.std.specs.Ordering.{nat_cmp}
use Rattle.std.specs.Cmp.Lexicographic.{slice_cmp}
use Rattle.git_objects.specs.Paths.{Bytes}

-- byte order
abbrev pub bytes_cmp : Bytes → Bytes → Ordering
bytes_cmp a b = slice_cmp nat_cmp a b

-- refs with the names of their commits, in the byte order of the refs
abbrev pub Refs : Type 0
Refs = List (Bytes × Bytes)
