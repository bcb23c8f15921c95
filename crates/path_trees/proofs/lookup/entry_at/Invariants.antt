use Rattle.std.proofs.Common.{◌≡◌, true, drop}
use Rattle.git_objects.specs.declared.kind.Kind.TheVariants.{Tree}
use Rattle.object_store.specs.Objects.{has}
use Rattle.object_store.specs.Unfolding.{flat}
use Rattle.git_objects.specs.Trees.{standing}
use Rattle.path_trees.proofs.lookup.entry_at.Given as goal

-- in the directory of the components so far, the rest of the path has what the path has
abbrev pub invariant-loop-i : goal.invariant-loop-i
invariant-loop-i l = record {
  held : has Tree l.store l.directory.0 ≡ true;
  rest : standing (flat l.store l.directory.0) (drop l.i l.path) ≡ standing (flat l.store l.fn.root.0) l.path;
}
