-- The commit of its own that a commit of a graph becomes is among those that projecting makes.
use Rattle.std.specs.Prelude.{◌≡◌, Bool, true, false, cond, ◌||◌, List, [], ◌∷◌, ◌++◌, Contains}
use Rattle.std.specs.Option.{option_to_list}
use Rattle.std.proofs.Common.{ap, ◌∙◌, sym, subst, true≢false}
use Rattle.std.proofs.lemmas.Bool.{or_right}
use Rattle.std.proofs.lemmas.List.Elements.{Contains-append_left}
use Rattle.git_objects.specs.Paths.{Bytes}
use Rattle.git_objects.specs.Snapshots.{Snapshot, Graph, snapshot_name, has_name, has, is_graph, is_wanted, wanted_below, reached}
use Rattle.git_objects.specs.Trees.{Flat}
use Rattle.commit_map.specs.declared.rule.Rule.{Rule}
use Rattle.projection_laws.specs.Projections.{Choice, New, choice_of, own_commit, own_commits, projections}
use Rattle.projection_laws.proofs.GraphLemmas.{grown, has-self, other}
use Rattle.projection_laws.proofs.HistoryLemmas.{any-append, reached-in}
use Rattle.projection_laws.proofs.Reached.{has-each}
use Rattle.projection_ground.proofs.TurnLemmas.{contains-here}

pub has-behind : (newer older : Graph) (n : Bytes) → has older n ≡ true → has (newer ++ older) n ≡ true
has-behind newer older n h = any-append (has_name n) newer older ∙ or_right (has newer n) (has older n) h

-- in front of its own commits a commit has none with the name of an older one
skip : (x : Snapshot) (rest : Graph) (n : Bytes) (b : Bool) → has_name n x ≡ false → has (cond b (x ∷ []) [] ++ rest) n ≡ true → has rest n ≡ true
skip x rest n true e h = sym (ap (λ c. c || has rest n) e) ∙ h
skip x rest n false e h = h

module _ (k : Rule) (s : Flat → Flat) where
  abbrev newest : Graph → Snapshot → Choice
  newest older c = choice_of k s older (projections k s [] older) c

  pub own-in : (newer older : Graph) (c d : Snapshot) (ws : List Bytes) → is_graph (newer ++ c ∷ older) ≡ true → has (reached (newer ++ c ∷ older) ws) (snapshot_name c) ≡ true
      → newest older c ≡ New d → Contains (own_commits k s (newer ++ c ∷ older) ws) d
  own-in [] older c d ws g h e = by (is_wanted ws c) h
    where
      by : (b : Bool) → has (cond b (c ∷ []) [] ++ reached older (wanted_below ws c)) (snapshot_name c) ≡ true
          → Contains (own_commits k s older (wanted_below ws c) ++ cond b (option_to_list (own_commit (newest older c))) []) d
      by true x = subst (λ (o : Choice). Contains (own_commits k s older (wanted_below ws c) ++ option_to_list (own_commit o)) d) (sym e) (contains-here (own_commits k s older (wanted_below ws c)) [] d)
      by false x =
          absurd (true≢false (sym (has-each older (reached older (wanted_below ws c)) (snapshot_name c) (reached-in older (wanted_below ws c)) x) ∙ (grown c older g).new))
  own-in (x ∷ newer) older c d ws g h e =
      let v = grown x (newer ++ c ∷ older) g in
      let apart = other (newer ++ c ∷ older) x (snapshot_name c) v.new (has-behind newer (c ∷ older) (snapshot_name c) (has-self c older)) in
      Contains-append_left (own_commits k s (newer ++ c ∷ older) (wanted_below ws x)) (cond (is_wanted ws x) (option_to_list (own_commit (newest (newer ++ c ∷ older) x))) []) d
      (own-in newer older c d (wanted_below ws x) v.graph (skip x (reached (newer ++ c ∷ older) (wanted_below ws x)) (snapshot_name c) (is_wanted ws x) apart h) e)
