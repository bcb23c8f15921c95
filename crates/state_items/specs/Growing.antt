-- Objects that are taken in one after another, each once.
use Rattle.std.specs.Prelude.{if◌then◌else◌, List, [], ◌∷◌}
use Rattle.object_store.specs.Objects.{Object, has_name, object_name}

-- from the newest to the oldest
abbrev pub with_one : List Object → Object → List Object
with_one H o = if has_name H (object_name o) then H else o ∷ H

abbrev pub grown : List Object → List Object → List Object
grown H [] = H
grown H (o ∷ os) = grown (with_one H o) os
