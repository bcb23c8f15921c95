-- Leaves that a lens hides.
use Rattle.std.proofs.Common.{◌≡◌, cond, T, None}
use Rattle.std.specs.Option.{is_none}
use Rattle.std.specs.FinMap.{is_sorted}
use Rattle.std.specs.FinMap.Entries.{is_sorted-where_key}
use Rattle.git_objects.specs.Paths.{Path, path_cmp}
use Rattle.git_objects.specs.Trees.{Flat, at}
use Rattle.git_objects.proofs.Maps.{at-where}
use Rattle.filter_routes.specs.Lenses.{Lens}
use Rattle.filter_unapply.specs.Laying.{hidden}

pub sorted-hidden : (f : Lens) (t : Flat) → T (is_sorted path_cmp t) → T (is_sorted path_cmp (hidden f t))
sorted-hidden f t h = is_sorted-where_key path_cmp (λ x. is_none (f.image x)) t h

pub at-hidden : (f : Lens) (t : Flat) (p : Path) → at (hidden f t) p ≡ cond (is_none (f.image p)) (at t p) None
at-hidden f t p = at-where (λ x. is_none (f.image x)) t p
