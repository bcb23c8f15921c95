use Rattle.std.proofs.Common.{◌≡◌, ◌∙◌, ◌+◌, ◌++◌, ◌∷◌, ℕ, List, [], Option, None, Some, Result, Ok, Err, IfErr, OnErr, OnOk, ap, refl, sym, subst}
use Rattle.std.specs.Option.{option_map}
use Rattle.std.specs.Result.{result_and}
use Rattle.object_store.specs.Objects.{Object}
use Rattle.commit_map.specs.Shown.{Entries, shown_value}
use Rattle.filter_apply.specs.Faults.{IsApplyFault}
use Rattle.filter_apply.specs.declared.fault.ApplyError.{ApplyError}
use Rattle.filter_apply.specs.declared.fault.ApplyError.TheVariants.{OutOfMemory}
use Rattle.filter_text.specs.Filters.{Filter}
use Rattle.filter_text.specs.Shapes.{shape}
use Rattle.projection_laws.specs.StoredGraphs.{name_at}
use Rattle.projection_ground.specs.Asked.{IsAskedFor}
use Rattle.projection_ground.specs.Grounds.{Extends, IsShownOf, commits_of}
use Rattle.history_ground.specs.Walks.{IsSettled, IsStep}
use Rattle.projection_ground.specs.declared.ground.Ground.{Ground}
use Rattle.projection_ground.proofs.Asking.{asked-same}
use Rattle.projection_ground.proofs.Growing.{extends-map}
use Rattle.history_ground.proofs.Steps.{settled, step-from, turn-below, turn-kept, turn-new}
use Rattle.history_ground.proofs.walking.step.Goals as goal
use Rattle.history_ground.proofs.walking.step.Goals.{in-Below, in-Kept, in-New}

-- what holds of the ground before an entry is kept, and with it, holds of what is left
settled-either : {T E : Type 0} (P : Ground → Type 0) (es : Entries) (h k : Ground) (s t : ℕ) → (r : Result T E) → P h → P (record h { map = es }) → OnOk r (k ≡ record h { map = es }) → OnErr r ((k ≡ h) × (t ≡ s)) → P k
settled-either P es h k s t (Ok x) a b e f = subst P (sym e) b
settled-either P es h k s t (Err x) a b e f = subst P (sym f.0) a

-- want of memory is a fault whatever is made
and-memory : {T : Type 0} (made : Object → Type 0) (S : List Object) → (r : Result T ApplyError) → IfErr r (λ e. e ≡ OutOfMemory) → IfErr (result_and {U = Option ℕ} r (Ok None)) (IsApplyFault made S)
and-memory made S (Ok x) h = tt
and-memory made S (Err e) h = subst (IsApplyFault made S) (sym h) tt

-- a step behind which nothing waits
and-step : {T : Type 0} (f : Filter) (place : ℕ) (g h k : Ground) (s t : ℕ) (es : Entries) → (r : Result T ApplyError) → h.map ≡ g.map → (k ≡ record h { map = es } → t ≡ s + 1 → IsSettled f place g k s t)
    → OnOk r (k ≡ record h { map = es }) → OnOk r (t ≡ s + 1) → OnErr r ((k ≡ h) × (t ≡ s)) → IsStep f place g k s t (result_and r (Ok None))
and-step f place g h k s t es (Ok x) m i a b e = i a b
and-step f place g h k s t es (Err x) m i a b e = record { map = ap (λ (y : Ground). y.map) e.0 ∙ m; step = e.1 }

pub returns-clause-same : goal.returns-clause-same
returns-clause-same b c =
    let f = shape c.args.filter.now in
    let g = c.args.ground.now in
    let h = c.take_turn.new.ground in
    let j = c.match-branch-2.ground in
    let made = IsShownOf f (commits_of g) in
    elim c.match-branch-2.branch [
      | in-Below w ↦ subst (λ (x : Ground). Extends made g x) (sym w.ground-is) c.take_turn.ensures.same
      | in-Kept w ↦ subst (λ (x : Ground). Extends made g x) (sym w.ground-is)
          (settled-either (λ (x : Ground). Extends made g x) (h.map ++ (name_at h.graph c.args.place, option_map shown_value w.in-Kept.shown) ∷ []) h w.settle.new.ground c.args.steps.now w.settle.new.steps w.settle.result c.take_turn.ensures.same
          (extends-map made g h (h.map ++ (name_at h.graph c.args.place, option_map shown_value w.in-Kept.shown) ∷ []) c.take_turn.ensures.same) w.settle.ensures.ok w.settle.ensures.err)
      | in-New w ↦ subst (λ (x : Ground). Extends made g x) (sym w.ground-is)
          (settled-either (λ (x : Ground). Extends made g x) (h.map ++ (name_at h.graph c.args.place, Some (shown_value w.in-New.shown)) ∷ []) h w.settle-in-New.new.ground c.args.steps.now w.settle-in-New.new.steps w.settle-in-New.result c.take_turn.ensures.same
          (extends-map made g h (h.map ++ (name_at h.graph c.args.place, Some (shown_value w.in-New.shown)) ∷ []) c.take_turn.ensures.same) w.settle-in-New.ensures.ok w.settle-in-New.ensures.err)
    ]

pub returns-clause-asked : goal.returns-clause-asked
returns-clause-asked b c =
    let f = shape c.args.filter.now in
    let g = c.args.ground.now in
    let h = c.take_turn.new.ground in
    let j = c.match-branch-2.ground in
    elim c.match-branch-2.branch [
      | in-Below w ↦ subst (λ (x : Ground). IsAskedFor f x c.take_turn.new.asked) (sym w.ground-is) c.take_turn.ensures.asked
      | in-Kept w ↦ subst (λ (x : Ground). IsAskedFor f x c.take_turn.new.asked) (sym w.ground-is)
          (settled-either (λ (x : Ground). IsAskedFor f x c.take_turn.new.asked) (h.map ++ (name_at h.graph c.args.place, option_map shown_value w.in-Kept.shown) ∷ []) h w.settle.new.ground c.args.steps.now w.settle.new.steps w.settle.result c.take_turn.ensures.asked
          (asked-same f h (record h { map = h.map ++ (name_at h.graph c.args.place, option_map shown_value w.in-Kept.shown) ∷ [] }) c.take_turn.new.asked (h.map ++ (name_at h.graph c.args.place, option_map shown_value w.in-Kept.shown) ∷ []) refl c.take_turn.ensures.asked) w.settle.ensures.ok w.settle.ensures.err)
      | in-New w ↦ subst (λ (x : Ground). IsAskedFor f x c.take_turn.new.asked) (sym w.ground-is)
          (settled-either (λ (x : Ground). IsAskedFor f x c.take_turn.new.asked) (h.map ++ (name_at h.graph c.args.place, Some (shown_value w.in-New.shown)) ∷ []) h w.settle-in-New.new.ground c.args.steps.now w.settle-in-New.new.steps w.settle-in-New.result c.take_turn.ensures.asked
          (asked-same f h (record h { map = h.map ++ (name_at h.graph c.args.place, Some (shown_value w.in-New.shown)) ∷ [] }) c.take_turn.new.asked (h.map ++ (name_at h.graph c.args.place, Some (shown_value w.in-New.shown)) ∷ []) refl c.take_turn.ensures.asked) w.settle-in-New.ensures.ok w.settle-in-New.ensures.err)
    ]

pub returns-clause-err : goal.returns-clause-err
returns-clause-err b c =
    let f = shape c.args.filter.now in
    let g = c.args.ground.now in
    let h = c.take_turn.new.ground in
    let j = c.match-branch-2.ground in
    let made = IsShownOf f (commits_of g) in
    elim c.match-branch-2.branch [
      | in-Below w ↦ subst (λ (r : Result (Option ℕ) ApplyError). IfErr r (IsApplyFault made j.store)) (sym w.result-is) tt
      | in-Kept w ↦ subst (λ (r : Result (Option ℕ) ApplyError). IfErr r (IsApplyFault made j.store)) (sym (w.result-is ∙ w.and.ensures)) (and-memory made j.store w.settle.result w.settle.ensures.fault)
      | in-New w ↦ subst (λ (r : Result (Option ℕ) ApplyError). IfErr r (IsApplyFault made j.store)) (sym (w.result-is ∙ w.and-in-New.ensures)) (and-memory made j.store w.settle-in-New.result w.settle-in-New.ensures.fault)
    ]

pub returns-clause-step : goal.returns-clause-step
returns-clause-step b c =
    let f = shape c.args.filter.now in
    let g = c.args.ground.now in
    let h = c.take_turn.new.ground in
    let j = c.match-branch-2.ground in
    let s = c.args.steps.now in
    elim c.match-branch-2.branch [
      | in-Below w ↦ step-from f c.args.place g h j s s c.match-branch-2.steps _ c.match-branch-2.result w.ground-is w.steps-is w.result-is
          (turn-below f g h c.args.place c.in_ok-below.field-0 w.in-Below.below c.requires.ground c.requires.place c.in_ok-below.ensures.ok w.in-Below.is, record { map = c.take_turn.ensures.map; step = refl })
      | in-Kept w ↦ step-from f c.args.place g w.settle.new.ground j s w.settle.new.steps c.match-branch-2.steps (result_and w.settle.result (Ok None)) c.match-branch-2.result w.ground-is w.steps-is (w.result-is ∙ w.and.ensures)
          (and-step f c.args.place g h w.settle.new.ground s w.settle.new.steps (h.map ++ (name_at h.graph c.args.place, option_map shown_value w.in-Kept.shown) ∷ []) w.settle.result c.take_turn.ensures.map
          (λ q e. settled f g h w.settle.new.ground c.args.place s w.settle.new.steps (option_map shown_value w.in-Kept.shown) c.take_turn.ensures.map c.take_turn.ensures.same.graph q
          (turn-kept f g h c.args.place c.in_ok-below.field-0 w.in-Kept.shown c.in_ok-below.ensures.ok w.in-Kept.is) e)
          w.settle.ensures.ok w.settle.ensures.step w.settle.ensures.err)
      | in-New w ↦ step-from f c.args.place g w.settle-in-New.new.ground j s w.settle-in-New.new.steps c.match-branch-2.steps (result_and w.settle-in-New.result (Ok None)) c.match-branch-2.result w.ground-is w.steps-is (w.result-is ∙ w.and-in-New.ensures)
          (and-step f c.args.place g h w.settle-in-New.new.ground s w.settle-in-New.new.steps (h.map ++ (name_at h.graph c.args.place, Some (shown_value w.in-New.shown)) ∷ []) w.settle-in-New.result c.take_turn.ensures.map
          (λ q e. settled f g h w.settle-in-New.new.ground c.args.place s w.settle-in-New.new.steps (Some (shown_value w.in-New.shown)) c.take_turn.ensures.map c.take_turn.ensures.same.graph q
          (turn-new f g h c.args.place c.in_ok-below.field-0 _ w.in-New.shown c.in_ok-below.ensures.ok w.in-New.is (λ d x. (_, x))) e)
          w.settle-in-New.ensures.ok w.settle-in-New.ensures.step w.settle-in-New.ensures.err)
    ]
