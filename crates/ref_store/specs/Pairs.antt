-- How the code's refs are pairs of bytes.
use Rattle.std.specs.Prelude.{List, map}
use Rattle.git_objects.specs.Paths.{Bytes}
use Rattle.git_objects.specs.declared.name.Name.{Name}

abbrev pub name_bytes : Name → Bytes
name_bytes n = n.0

abbrev pub pair : Bytes × Name → Bytes × Bytes
pair e = (e.0, e.1.0)

abbrev pub pairs : List (Bytes × Name) → List (Bytes × Bytes)
pairs es = map pair es
