-- The lines of reports that more than one command prints.
use Rattle.std.specs.Prelude.{[], ◌∷◌, ◌++◌, codes, Option, Some, None}
use Rattle.git_objects.specs.Commits.{hex}
use Rattle.git_objects.specs.Paths.{Bytes}
use Rattle.commit_map.specs.Shown.{Shown}
use Rattle.tag_objects.specs.Tags.{tag_object_name}
use Rattle.tag_objects.specs.declared.tag.Tag.{Tag}

-- a ref, a space, and its commit's digits
abbrev pub ref_line : Bytes × Bytes → Bytes
ref_line e = e.0 ++ 32 ∷ (hex e.1 ++ 10 ∷ [])

-- the digits of a projection, or `none`
abbrev pub name_line : Option Shown → Bytes
name_line None = codes "none\n"
name_line (Some p) = hex p.commit ++ 10 ∷ []

-- a tag's name, a space, and the digits of its object
abbrev pub tag_line : Tag → Bytes
tag_line t = t.name ++ 32 ∷ (hex (tag_object_name t) ++ 10 ∷ [])
