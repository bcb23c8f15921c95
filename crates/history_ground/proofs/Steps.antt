-- One step of a walk.
use Rattle.std.proofs.Common.{◌≡◌, ℕ, ◌+◌, ◌<◌, List, [], ◌∷◌, ◌++◌, length, Option, Some, None, Result, refl, sym, ap, subst, ◌∙◌}
use Rattle.std.specs.Option.{option_map}
use Rattle.object_store.specs.Objects.{Object}
use Rattle.git_objects.specs.Snapshots.{Snapshot}
use Rattle.commit_map.specs.Shown.{Shown, shown_value}
use Rattle.commit_map.specs.declared.commit_map.Shown as code
use Rattle.filter_text.specs.Filters.{Filter}
use Rattle.projection_laws.specs.Projections.{projected}
use Rattle.projection_laws.specs.StoredGraphs.{name_at, snapshot_named}
use Rattle.projection_ground.specs.Choosing.{IsBelow}
use Rattle.projection_ground.specs.Grounds.{IsGround, Extends}
use Rattle.projection_ground.specs.Turns.{IsNew, IsTurn, kept_choice}
use Rattle.history_ground.specs.Walks.{IsProjectedTo, IsSettled, IsStep}
use Rattle.projection_ground.specs.declared.ground.Ground.{Ground}
use Rattle.projection_ground.specs.declared.turning.Turn.{Turn}
use Rattle.projection_ground.specs.declared.turning.Turn.TheVariants as turns
use Rattle.projection_ground.proofs.Growing.{extends-map}
use Rattle.projection_ground.proofs.TurnLemmas.{some-placed}

-- a turn, for whichever commit stands at the place
abbrev pub Turns : Filter → Ground → Ground → ℕ → Turn → Type 0
Turns f g h place t = (c : Snapshot) → snapshot_named g.store (name_at g.graph place) ≡ Some c → IsTurn f g h place c t

pub turn-below : (f : Filter) (g h : Ground) (place : ℕ) (t : Turn) (q : ℕ) → IsGround g → place < length g.graph → Turns f g h place t → t ≡ turns.Below q → IsBelow g place q
turn-below f g h place t q w l k e =
    let c = some-placed g place w l in
    subst (IsTurn f g h place c.0) e (k c.0 c.1)

pub kept-projected : (o : Option code.Shown) → projected (kept_choice o) ≡ option_map shown_value o
kept-projected None = refl
kept-projected (Some m) = refl

pub turn-kept : (f : Filter) (g h : Ground) (place : ℕ) (t : Turn) (o : Option code.Shown) → Turns f g h place t → t ≡ turns.Kept o → IsProjectedTo f g place (option_map shown_value o)
turn-kept f g h place t o k e = λ c n ks a. ap projected (subst (IsTurn f g h place c) e (k c n) ks a) ∙ kept-projected o

pub turn-new : (f : Filter) (g h : Ground) (place : ℕ) (t s : Turn) (m : code.Shown) → Turns f g h place t → t ≡ s → ((c : Snapshot) → IsTurn f g h place c s → (b : List ℕ) × IsNew f g h place c m b) → IsProjectedTo f g place (option_map shown_value (Some m))
turn-new f g h place t s m k e new = λ c n ks a.
    let w = new c (subst (IsTurn f g h place c) e (k c n)) in
    ap projected (w.1.becomes ks a) ∙ ap Some (sym w.1.names)

-- ---- the entry that is kept

pub settled : (f : Filter) (g h k : Ground) (place s t : ℕ) (v : Option Shown) → h.map ≡ g.map → h.graph ≡ g.graph → k ≡ record h { map = h.map ++ (name_at h.graph place, v) ∷ [] } → IsProjectedTo f g place v → t ≡ s + 1 → IsSettled f place g k s t
settled f g h k place s t v m e q is step = record {
  value = v;
  is = is;
  map = ap (λ (x : Ground). x.map) q ∙ (λ i. m i ++ (name_at (e i) place, v) ∷ []);
  step = step;
}

pub settled-same : (made : Object → Type 0) (g h k : Ground) (place : ℕ) (v : Option Shown) → k ≡ record h { map = h.map ++ (name_at h.graph place, v) ∷ [] } → Extends made g h → Extends made g k
settled-same made g h k place v q a = subst (λ (x : Ground). Extends made g x) (sym q) (extends-map made g h (h.map ++ (name_at h.graph place, v) ∷ []) a)

-- where branches join
pub step-from : {E : Type 0} (f : Filter) (place : ℕ) (g h k : Ground) (s t u : ℕ) (r q : Result (Option ℕ) E) → k ≡ h → u ≡ t → q ≡ r → IsStep f place g h s t r → IsStep f place g k s u q
step-from f place g h k s t u r q a b c x =
    subst (λ y. IsStep f place g y s u q) (sym a) (subst (λ y. IsStep f place g h s y q) (sym b) (subst (λ y. IsStep f place g h s t y) (sym c) x))
