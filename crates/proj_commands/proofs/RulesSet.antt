-- Setting the rule of a state.
use Rattle.std.proofs.Common.{◌≡◌, ℕ, Bool, true, false, List, ◌++◌, None, Result, Ok, Err, refl, sym, ap, subst, ◌∙◌}
use Rattle.std.specs.Prelude.{◌==◌, if◌then◌else◌}
use Rattle.std.specs.Result.{IsErrAnd}
use Rattle.git_objects.specs.Paths.{Bytes}
use Rattle.object_store.specs.Objects.{Object}
use Rattle.object_store.proofs.Growth.{grown_self}
use Rattle.commit_graph.specs.Graphs.{Row}
use Rattle.commit_map.specs.Rules.{rule_number}
use Rattle.commit_map.specs.declared.rule.Rule.{Rule}
use Rattle.commit_map.specs.declared.rule.Rule.TheVariants.{One, Two}
use Rattle.filter_apply.specs.Truth.{AreTrueFor}
use Rattle.projection_laws.specs.StoredGraphs.{IsGraphIn, graph_of}
use Rattle.projection_ground.specs.Grounds.{IsGround}
use Rattle.projection_ground.specs.TrueMaps.{AreTrueMaps}
use Rattle.state_items.specs.Arrivals.{rows_of}
use Rattle.state_items.specs.Appending.{IsAddition}
use Rattle.state_items.specs.Changes.{NoPlan, Plan, RulePlan, held_after, passed, plan_items, room_of, rule_plan}
use Rattle.state_items.specs.Items.{Held, is_rule}
use Rattle.state_items.proofs.Kepts.{kept-law}
use Rattle.proj_io.specs.Stops.{IsPresent, OnlyAdds}
use Rattle.proj_io.specs.Views.{KeeperView}
use Rattle.proj_words.specs.declared.outcome.Outcome.{Outcome}
use Rattle.proj_words.specs.declared.outcome.Outcome.TheVariants as outcomes
use Rattle.repo_ground.specs.Changes.{Appends, IsAppended, IsRefusal as IsRefusedBy, IsRefused, IsRuleSet, IsStopOf}
use Rattle.repo_ground.specs.declared.commit.CommitError.{CommitError}
use Rattle.repo_ground.proofs.Stopping.{adds_none}
use Rattle.repo_ground.specs.Contents.{Contents}
use Rattle.proj_commands.specs.Cases.{RuleCase}
use Rattle.proj_commands.specs.Rule.{rule_line}
use Rattle.proj_commands.specs.Filters.{project_by}
use Rattle.proj_commands.specs.Hands.{IsInHands}
use Rattle.proj_commands.specs.Makes.{IsMadeOf, IsStateOf, hands_of}
use Rattle.proj_commands.specs.Plans.{AreKept}
use Rattle.proj_commands.specs.Refusals.{commit_outcome}
use Rattle.proj_commands.proofs.Committing.{IsCase, made-done, made-refused, made-without, planned_by, stops-by}
use Rattle.proj_commands.proofs.StatesAfter.{passed-same}

is-rule : (r : Rule) → is_rule (rule_number r) ≡ true
is-rule One = refl
is-rule Two = refl

abbrev plan_if : ℕ → Bool → Plan
plan_if k b = if b then NoPlan else RulePlan k

addition-if : (h : Held) (k : ℕ) (b : Bool) → is_rule k ≡ true → IsAddition h (plan_if k b)
addition-if h k true e = tt
addition-if h k false e = e

kept-if : (items : List Bytes) (h : Held) (k : ℕ) (b : Bool) → is_rule k ≡ true → passed h (room_of items) (plan_if k b) ≡ None → AreKept items h
    → AreKept (items ++ plan_items (plan_if k b)) (held_after h (plan_if k b))
kept-if items h k true e f a = (kept-law project_by).none items h a
kept-if items h k false e f a = (kept-law project_by).rule items h k a e f

-- no objects are held then that weren't before
same-objects : (h : Held) (k : ℕ) (b : Bool) → (held_after h (plan_if k b)).objects ≡ h.objects
same-objects h k true = refl
same-objects h k false = refl

pub rule-case : (items : List Bytes) (h : Held) (s : Contents) (r : Rule) → IsStateOf items h s
    → IsCase (RuleCase h (rule_number r)) items h s s (rule_line (rule_number r)) (rule_plan h (rule_number r))
rule-case items h s r w = record {
  state = w;
  room = refl;
  step = refl;
  plan = λ e. refl;
  addition = addition-if h (rule_number r) (h.rule == rule_number r) (is-rule r);
  kept = λ e a. kept-if items h (rule_number r) (h.rule == rule_number r) (is-rule r) (passed-same items h (rule_plan h (rule_number r)) s w.current e) a;
  grown = grown_self (IsInHands (hands_of (Ok (RuleCase h (rule_number r))))) s.basis.store w.ground.graph.store;
}

-- with another rule a ground is one still
pub rule-ground : (items : List Bytes) (h : Held) (s after : Contents) (k : ℕ) → IsStateOf items h s → IsAppended h (rule_plan h k) s after → IsGround after.basis
rule-ground items h s after k w c =
    let rows : after.basis.graph ≡ s.basis.graph = c.spells.graph ∙ ap rows_of (same-objects h k (h.rule == k)) ∙ sym w.spells.graph in
    let graph : IsGraphIn after.basis.store s.basis.graph = subst (λ (S : List Object). IsGraphIn S s.basis.graph) (sym c.store) w.ground.graph in
    let memo : AreTrueFor after.basis.store s.basis.tables s.basis.memo = subst (λ (S : List Object). AreTrueFor S s.basis.tables s.basis.memo) (sym c.store) w.ground.memo in
    record {
      graph = subst (λ (rs : List Row). IsGraphIn after.basis.store rs) (sym rows) graph;
      memo =
          subst (λ ts. AreTrueFor after.basis.store ts after.basis.memo) (sym c.tables)
          (subst (λ m. AreTrueFor after.basis.store s.basis.tables m) (sym c.memo) memo);
      maps =
          subst (λ ms. AreTrueMaps after.basis.store (graph_of after.basis.store after.basis.graph) ms) (sym c.true_maps)
          (subst (λ (rs : List Row). AreTrueMaps after.basis.store (graph_of after.basis.store rs) s.basis.true_maps) (sym rows)
          (subst (λ (S : List Object). AreTrueMaps S (graph_of S s.basis.graph) s.basis.true_maps) (sym c.store) w.ground.maps));
    }

-- ---- what is said of a rule that is set

abbrev pub IsSet : List Bytes → Held → ℕ → Contents → Contents → KeeperView → KeeperView → ℕ → ℕ → (ℕ → List Bytes → Type 0) → (ℕ → List Bytes → Type 0) → Result Bytes Outcome → Type 0
IsSet items h k s after before now a b x y result =
    (p : Plan) × IsMadeOf (Ok (RuleCase h k)) items h s after before now p result × OnlyAdds a b x y (IsStopOf h s p before.items)

module _ (items : List Bytes) (h : Held) (s : Contents) (r : Rule) (w : IsStateOf items h s) where
  abbrev k : ℕ
  k = rule_number r

  abbrev plan : Plan
  plan = rule_plan h k

  -- there was no memory for its line
  pub unset : (before : KeeperView) (a : ℕ) (x : ℕ → List Bytes → Type 0) (result : Result Bytes Outcome) → IsErrAnd result (λ o. o ≡ outcomes.OutOfMemory)
      → IsSet items h k s s before before a a x x result
  unset before a x (Ok r) e = absurd e
  unset before a x (Err o) e =
      subst (λ (d : Outcome). IsSet items h k s s before before a a x x (Err d)) (sym e)
      (NoPlan, made-without (RuleCase h k) items h s s before (rule-case items h s r w).grown, adds_none a x (IsStopOf h s NoPlan before.items))

  module _ (after : Contents) (before now : KeeperView) (a b : ℕ) (x y : ℕ → List Bytes → Type 0) where
    pub set-refused : (e : CommitError) (o : Outcome) → o ≡ commit_outcome e → IsRefused h plan s after e → after.basis.store ≡ s.basis.store → Appends plan before now (Err e)
        → OnlyAdds a b x y (IsStopOf h s plan before.items) → (IsRefusedBy (Err e) → OnlyAdds a b x y (IsPresent before.items)) → IsSet items h k s after before now a b x y (Err o)
    set-refused e o q c same got adds refused =
        subst (λ (d : Outcome). IsSet items h k s after before now a b x y (Err d)) (sym q) (
          planned_by plan (Err e),
          made-refused (RuleCase h k) items h s s (rule_line k) plan (rule-case items h s r w) after before now e c same got,
          stops-by h s plan before.items a b x y (Err e) adds refused,
        )

    pub set-done : (u : Unit {0}) (line : Bytes) → line ≡ rule_line k → IsRuleSet h plan s after → Appends plan before now (Ok u) → OnlyAdds a b x y (IsStopOf h s plan before.items)
        → IsSet items h k s after before now a b x y (Ok line)
    set-done u line q c got adds = (
      plan,
      made-done (RuleCase h k) items h s s (rule_line k) plan (rule-case items h s r w) after u before now line (sym q) c.appended (rule-ground items h s after k w c.appended) got,
      adds,
    )
