-- Which texts are read as paths, and why another isn't.
use Rattle.std.specs.Prelude.{◌==◌, nat_le, cond, length, [], Option, None, Some, Result, Ok, Err}
use Rattle.std.specs.List.{list_all, slice_split}
use Rattle.git_objects.specs.Paths.{Bytes, Path, is_component, is_nil}
use Rattle.git_objects.specs.declared.limits.TheConstants.{COMPONENT_BYTES, PATH_COMPONENTS, PATH_BYTES}
use Rattle.path_names.specs.declared.path.PathFault.{PathFault}
use Rattle.path_names.specs.declared.path.PathFault.TheVariants.{Empty, BadComponent, LongComponent, TooDeep, TooLong}

-- the parts between slashes
abbrev pub parts : Bytes → Path
parts t = slice_split (λ x. x == 47) t

-- the parts of what is left of a text, none where nothing is
abbrev pub parts_left : Option Bytes → Path
parts_left None = []
parts_left (Some t) = parts t

-- The components between slashes. A component, a path's components and its text have limits. Of several faults the
-- first in this order is told.
unfoldable pub path_of : Bytes → Result Path PathFault
path_of t =
    cond (is_nil t) (Err Empty)
    (cond (list_all is_component (parts t))
    (cond (list_all (λ c. nat_le (length c) COMPONENT_BYTES) (parts t))
    (cond (nat_le (length (parts t)) PATH_COMPONENTS)
    (cond (nat_le (length t) PATH_BYTES) (Ok (parts t)) (Err TooLong))
    (Err TooDeep))
    (Err LongComponent))
    (Err BadComponent))

-- the path where there is one
abbrev pub ok_path : Result Path PathFault → Option Path
ok_path (Ok p) = Some p
ok_path (Err e) = None
