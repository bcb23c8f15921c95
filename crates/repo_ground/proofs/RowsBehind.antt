-- The rows of a graph whose objects have others behind them.
use Rattle.std.proofs.Common.{◌≡◌, List, [], ◌∷◌, ◌++◌, Option, Some, None, refl, sym, ap, ◌∙◌, append-nil, append_assoc}
use Rattle.git_objects.specs.CommitBodies.{commit_from}
use Rattle.git_objects.specs.Commits.{Commit}
use Rattle.git_objects.specs.Names.{name}
use Rattle.git_objects.specs.Paths.{Bytes}
use Rattle.git_objects.specs.declared.kind.Kind.{Kind}
use Rattle.git_objects.specs.declared.kind.Kind.TheVariants.{Blob, Tree, Commit as CommitKind}
use Rattle.object_store.specs.Objects.{Object}
use Rattle.commit_graph.specs.Graphs.{Row}
use Rattle.state_items.specs.Arrivals.{commit_row, rows_of, with_commit, with_row}

-- rows with others behind them
abbrev pub HasBehind : List Row → List Row → Type 0
HasBehind rows all = (more : List Row) × (all ≡ rows ++ more)

commit-behind : (rows : List Row) (n : Bytes) (o : Option Commit) → HasBehind rows (with_commit rows n o)
commit-behind rows n None = ([], sym (append-nil rows))
commit-behind rows n (Some c) = (commit_row rows n c ∷ [], refl)

row-behind : (rows : List Row) (k : Kind) (b : Bytes) → HasBehind rows (with_row rows k b)
row-behind rows Blob b = ([], sym (append-nil rows))
row-behind rows Tree b = ([], sym (append-nil rows))
row-behind rows CommitKind b = commit-behind rows (name CommitKind b) (commit_from b)

pub rows-behind : (newer older : List Object) → HasBehind (rows_of older) (rows_of (newer ++ older))
unfolding rows_of
rows-behind [] older = ([], sym (append-nil (rows_of older)))
rows-behind (o ∷ newer) older =
    let r = rows-behind newer older in
    let x = row-behind (rows_of (newer ++ older)) o.kind o.body in
    (r.0 ++ x.0, x.1 ∙ ap (λ (rs : List Row). rs ++ x.0) r.1 ∙ append_assoc (rows_of older) r.0 x.0)
