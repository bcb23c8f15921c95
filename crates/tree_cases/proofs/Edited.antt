-- Whatever an edit answers, the stage shows a tree.
use Rattle.std.proofs.Common.{Result, Ok, Err, List}
use Rattle.git_objects.specs.Trees.{Flat}
use Rattle.object_store.specs.Objects.{Object}
use Rattle.stage_tree.specs.declared.fault.StageFault.{StageFault}
use Rattle.stage_tree.specs.Stages.{Staged, Shows}
use Rattle.stage_tree.specs.Edits.{IsEdited}

pub some_tree : {A : Type 0} (S : List Object) (v : Staged) (t : Flat) (left : Result Flat StageFault) (r : Result A StageFault) → IsEdited S v t left r → (u : Flat) × Shows S v u
some_tree S v t (Ok u) (Ok x) e = (u, e.done)
some_tree S v t (Err f) (Ok x) e = absurd e.done
some_tree S v t left (Err f) e = (t, e.refused.0)
