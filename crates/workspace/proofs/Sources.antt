-- The original path of a workspace's file, by tables of routes.
use Rattle.std.specs.Prelude.{◌≡◌, refl, true, ◌++◌, Option, Some, None}
use Rattle.std.specs.Option.{option_and_then}
use Rattle.std.proofs.Common.{ap}
use Rattle.git_objects.specs.Paths.{Path, is_path}
use Rattle.filter_text.specs.Filters.{Filter, chain}
use Rattle.filter_routes.specs.Origins.{origin}
use Rattle.filter_routes.specs.Tables.{IsOrigin}
use Rattle.filter_routes.proofs.GoesBack.{the_law as route_law}
use Rattle.filter_routes.proofs.Inverse.{the_law as lens_law}
use Rattle.workspace.specs.Laws.{IsUsable}
use Rattle.workspace.specs.Workspaces.{Split, split, place, file_name}

-- no two are told of one image
one-origin : (f : Filter) (q : Path) (o r : Option Path) → IsUsable f → IsOrigin f q o → IsOrigin f q r → o ≡ r
one-origin f q None None u h k = refl
one-origin f q None (Some p) u h k = absurd (h p k.0 k.1)
one-origin f q (Some p) None u h k = absurd (k p h.0 h.1)
one-origin f q (Some p) (Some r) u h k = ap Some (route_law.equal f p r q u.paths u.sound h.0 k.0 h.1 k.1)

pub origin-is : (f : Filter) (q : Path) (o : Option Path) → IsUsable f → is_path q ≡ true → IsOrigin f q o → o ≡ origin f q
origin-is f q o u n h = one-origin f q o (origin f q) u h (lens_law.exact f q u.paths u.sound n)

pub place-is : (f : Filter) (s : Split) → split f ≡ Some s → place f ≡ origin (chain s.before) (s.directory ++ file_name)
place-is f s e = ap (λ o. option_and_then (λ z. origin (chain z.before) (z.directory ++ file_name)) o) e
