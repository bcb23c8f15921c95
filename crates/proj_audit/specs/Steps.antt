-- What the code keeps while it reads objects: those that were needed so far, each once.
use Rattle.std.specs.Prelude.{◌≡◌, ⊤, fold, List, map, Result, Ok, Err}
use Rattle.object_store.specs.Errors.{object_value}
use Rattle.object_store.specs.Objects.{Object}
use Rattle.path_trees.specs.declared.found.Leaf.{Leaf}
use Rattle.proj_audit.specs.Readings.{Found, Reading, add_object}
use Rattle.proj_audit.specs.declared.objects.Needed.{Needed}
use Rattle.proj_audit.specs.declared.objects.Stop.{Stop}
use Rattle.proj_audit.specs.declared.objects.Stop.TheVariants.{NotThere, OutOfMemory}

abbrev pub needed_value : Needed → Object
needed_value n = object_value n.object

abbrev pub needed_values : List Needed → List Object
needed_values ns = map needed_value ns

abbrev pub found_value : Leaf → Found
found_value x = record { mode = x.mode; name = x.name.0 }

-- A reading was made: its objects were put behind those that were needed before, each once, and this is what it gives; or
-- it stopped at the name without a fit object.
abbrev pub Reads : {A B : Type 0} → (B → A) → Reading A → List Needed → List Needed → Result B Stop → Type 0
Reads value r old new (Ok x) =
    (r.outcome ≡ Ok (value x)) × (needed_values new ≡ fold add_object (needed_values old) r.used)
Reads value r old new (Err (NotThere n)) = r.outcome ≡ Err n.0
Reads value r old new (Err OutOfMemory) = ⊤
