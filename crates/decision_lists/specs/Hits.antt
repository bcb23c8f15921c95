-- What hits on decision lists mean.
use Rattle.std.specs.Prelude.{ℕ, List, ◌++◌, drop, Option, Some, None, slice_get}
use Rattle.git_objects.specs.Paths.{Path}
use Rattle.decision_lists.specs.Entries.{Entry, base}
use Rattle.decision_lists.specs.declared.hits.RouteHit.{RouteHit}

-- the target of an entry, where there is one
abbrev pub target_of : Option Entry → Option Path
target_of None = None
target_of (Some e) = e.1

abbrev pub base_where : Option Path → Path → Option Path
base_where None s = None
base_where (Some t) s = Some s

-- the base of an entry that has a target
abbrev pub source_of : Option Entry → Option Path
source_of None = None
source_of (Some e) = base_where e.1 (base e.0)

abbrev pub longer_by : Path → Option Path → Option Path
longer_by w None = None
longer_by w (Some r) = Some (w ++ r)

abbrev pub onto_rest : Option Path → Path → Option Path
onto_rest None r = None
onto_rest (Some t) r = Some (t ++ r)

abbrev pub dropped : Path → Option ℕ → Option Path
dropped q None = None
dropped q (Some n) = Some (drop n q)

-- the image that a hit stands for
abbrev pub image_at : List Entry → Option RouteHit → Path → Option Path
image_at es None p = None
image_at es (Some h) p = onto_rest (target_of (slice_get es h.route)) (drop h.cut p)

-- the path that a hit on an image stands for
abbrev pub source_hit : List Entry → Option RouteHit → Path → Option Path
source_hit es None q = None
source_hit es (Some h) q = onto_rest (source_of (slice_get es h.route)) (drop h.cut q)
