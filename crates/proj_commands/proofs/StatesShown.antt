-- What is shown upon a state is of what is held, and the state is one of these items still.
use Rattle.std.proofs.Common.{◌≡◌, Bool, true, false, cond, inl, inr, List, ◌++◌, [], ◌∷◌, Contains, Some, IsSome, append-nil, refl, sym, ap, subst, ◌∙◌}
use Rattle.std.specs.Cmp.{first_so, second_so}
use Rattle.std.specs.FinMap.{find}
use Rattle.std.specs.Option.{is_some}
use Rattle.std.specs.Ordering.{eq_by_cmp}
use Rattle.std.proofs.lemmas.Option.{none-some, same_Some}
use Rattle.git_objects.specs.Paths.{Bytes}
use Rattle.git_objects.specs.Refs.{Refs, bytes_cmp}
use Rattle.git_objects.specs.Snapshots.{Graph}
use Rattle.git_objects.specs.Snapshots as graphs
use Rattle.git_objects.specs.declared.kind.Kind.TheVariants.{Commit}
use Rattle.object_store.specs.Objects.{Object, has}
use Rattle.commit_graph.specs.Graphs.{Row, place_of}
use Rattle.commit_map.specs.Rules.{rule_number}
use Rattle.commit_map.specs.Shown.{Entries}
use Rattle.commit_map.specs.declared.rule.Rule.{Rule}
use Rattle.commit_map.specs.declared.rule.Rule.TheVariants.{One, Two}
use Rattle.filter_text.specs.Filters.{Filter}
use Rattle.workspace.specs.Workspaces.{shown}
use Rattle.projection_laws.specs.Projections.{history_graph}
use Rattle.projection_ground.specs.Grounds.{Extends, IsShownOf, commits_of}
use Rattle.history_ground.specs.Histories.{IsOfHistory}
use Rattle.projection_ground.specs.declared.ground.Ground.{Ground}
use Rattle.state_items.specs.Items.{Held}
use Rattle.state_items.specs.Repos.{repo}
use Rattle.state_items.specs.Steps.{are_heads}
use Rattle.state_items.proofs.RowsHeld.{place-there}
use Rattle.repo_ground.specs.Contents.{Contents, Spells}
use Rattle.repo_ground.proofs.GroundLaws.{ground-law}
use Rattle.repo_ground.proofs.GrownLaws.{spells-grown}
use Rattle.proj_commands.specs.Filters.{history, rule_by}
use Rattle.proj_commands.specs.Hands.{IsInHands}
use Rattle.proj_commands.specs.Makes.{IsStateOf}
use Rattle.repo_ground.proofs.CommitGraphs.{has-commit}
use Rattle.proj_commands.proofs.InHands.{in-hands, in-reverse, made-in, shown-in, shown_hand}

-- ---- heads

head-held : (H : List Object) (refs : Refs) (r n : Bytes) → are_heads H refs ≡ true → find bytes_cmp r refs ≡ Some n → has Commit H n ≡ true
head-held H [] r n h e = absurd (none-some n e)
head-held H (x ∷ refs) r n h e = by (λ k. head-held H refs r n (second_so (has Commit H x.1) (are_heads H refs) h) k) (eq_by_cmp bytes_cmp r x.0) e
  where
    by : (find bytes_cmp r refs ≡ Some n → has Commit H n ≡ true) → (b : Bool) → cond b (Some x.1) (find bytes_cmp r refs) ≡ Some n → has Commit H n ≡ true
    by later true g = subst (λ (m : Bytes). has Commit H m ≡ true) (same_Some x.1 n g) (first_so (has Commit H x.1) (are_heads H refs) h)
    by later false g = later g

-- the commit of a ref is held
pub head-there : (h : Held) (s : Contents) (refname n : Bytes) → Spells h s → find bytes_cmp refname h.refs ≡ Some n → graphs.has (repo h).commits n ≡ true
head-there h s refname n w e = has-commit n h.objects w.store ∙ head-held h.objects h.refs refname n w.heads e

-- the commit of a ref has a place in the graph
pub head-placed : (h : Held) (s : Contents) (refname n : Bytes) → Spells h s → find bytes_cmp refname h.refs ≡ Some n → IsSome (place_of n s.basis.graph)
head-placed h s refname n w e =
    ap (λ (rows : List Row). is_some (place_of n rows)) w.graph ∙ place-there n h.objects w.store ∙ head-held h.objects h.refs refname n w.heads e

-- ---- rules

rule-back : (r : Rule) → r ≡ rule_by (rule_number r)
rule-back One = refl
rule-back Two = refl

pub rule-is : (h : Held) (s : Contents) → Spells h s → s.basis.rule ≡ rule_by h.rule
rule-is h s w = rule-back s.basis.rule ∙ ap rule_by w.rule

-- ---- what is shown

module _ (items : List Bytes) (h : Held) (s : Contents) (f : Filter) (n : Bytes) (w : IsStateOf items h s) where
  pub commits-are : commits_of s.basis ≡ (repo h).commits
  commits-are = ground-law.commits h s w.spells w.ground

  pub history-is : history_graph s.basis.rule (shown f) (commits_of s.basis) n ≡ history_graph (rule_by h.rule) (shown f) (repo h).commits n
  history-is = λ i. history_graph (rule-is h s w.spells i) (shown f) (commits-are i) n

  pub shown-at : (o : Object) → IsShownOf f (commits_of s.basis) o → IsInHands (shown_hand f h (history h.rule f (repo h).commits n) ∷ []) o
  shown-at o m =
      let made = history h.rule f (repo h).commits n in
      in-hands (shown_hand f h made) o (shown-in f h made o (subst (λ (g : Graph). IsShownOf f g o) commits-are m))

  pub history-at : (o : Object) → IsOfHistory f s.basis n o → IsInHands (shown_hand f h (history h.rule f (repo h).commits n) ∷ []) o
  history-at o (inl m) = shown-at o m
  history-at o (inr m) =
      let made = history h.rule f (repo h).commits n in
      in-hands (shown_hand f h made) o
      (made-in f h made m.0 (in-reverse (history_graph (rule_by h.rule) (shown f) (repo h).commits n) m.0 (subst (λ (g : Graph). Contains g m.0) history-is m.1)) o m.2)

  -- the state with a ground that has grown, and its map with it
  pub state-grown : (made : Object → Type 0) (g : Ground) (added : Entries) → Extends made s.basis g → s.basis.map ++ added ≡ g.map → IsStateOf items h (record s { basis = g })
  state-grown made g added x e = record {
    current = record { read = w.current.read; number = w.current.number; size = w.current.size };
    spells = spells-grown h s g x.store.newer added w.spells x.store.store x.store.above e x.graph x.rule;
    ground = x.ground;
  }

-- a state that differs in its basis alone, but for the map of it
basis-alone : (s t : Contents) → t ≡ record s { basis = record t.basis { map = s.basis.map } } → record s { basis = t.basis } ≡ t
basis-alone s t rest = ap (λ (g : Ground). record s { basis = g }) (ap (λ (x : Contents). x.basis) rest) ∙ sym rest

pub state-upon : (items : List Bytes) (h : Held) (s t : Contents) (f : Filter) (n : Bytes) (made : Object → Type 0) → IsStateOf items h s → t ≡ record s { basis = record t.basis { map = s.basis.map } } → Extends made s.basis t.basis → IsStateOf items h t
state-upon items h s t f n made w rest x =
    subst (IsStateOf items h) (basis-alone s t rest) (state-grown items h s f n w made t.basis [] x (append-nil s.basis.map ∙ sym (ap (λ (y : Contents). y.basis.map) rest)))
