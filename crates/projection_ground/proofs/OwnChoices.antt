-- Whether a commit upon others becomes one of its own, in a ground that keeps the projection of each commit.
use Rattle.std.proofs.Common.{◌≡◌, ◌<◌, ◌≤◌, ℕ, Bool, is_some, true≢false, List, All, IsSome, Option, None, length, get_or, sym, ap, ◌∙◌, arith}
use Rattle.std.specs.Option.{unwrap_or}
use Rattle.std.proofs.lemmas.List.Elements.{All-contains}
use Rattle.git_objects.specs.Commits.{Letter}
use Rattle.git_objects.specs.Snapshots.{Graph}
use Rattle.git_objects.specs.Trees.{Flat}
use Rattle.commit_graph.proofs.Reaching.{reaches-down}
use Rattle.commit_map.specs.Shown.{Entries, Shown, kept_at}
use Rattle.projection_laws.specs.Projections.{Choice, chosen, leads, members, own_commit}
use Rattle.projection_laws.specs.StoredGraphs.{name_at}
use Rattle.projection_laws.proofs.StoredGraphs.{older-all}
use Rattle.projection_ground.specs.Choosing.{Agree, AreKept, IsBehind, IsLacked, KeepsAll, commits_before, is_own_by, leads_upon, names_at}
use Rattle.projection_ground.specs.Grounds.{IsGround, commits_of}
use Rattle.projection_ground.specs.declared.ground.Ground.{Ground}

-- what is kept agrees with itself
pub agrees-itself : (es : Entries) (older : Graph) → Agree es es older
agrees-itself es older = λ n o h e. sym (ap (λ (x : Option (Option Shown)). unwrap_or x None) e)

pub keeps-these : (g : Ground) (ps : List ℕ) → KeepsAll g → All (λ p. p < length g.graph) ps → AreKept g ps
keeps-these g ps k l = λ i d b. k (get_or ps i d) (l i d b)

-- all of them are before the place of the next commit
pub behind-all : (g : Ground) (ps : List ℕ) → All (λ p. p < length g.graph) ps → IsBehind g ps (length g.graph)
behind-all g ps l = record { within = omega arith; behind = l }

no-lacking : {A : Type 0} (o : Option A) → IsSome o → o ≡ None → ⊥
no-lacking o k e = true≢false (sym k ∙ ap is_some e)

-- nothing is lacking
pub none-lacked : (g : Ground) (ps : List ℕ) (q : ℕ) → IsGround g → KeepsAll g → All (λ p. p < length g.graph) ps → IsLacked g ps q → ⊥
none-lacked g ps q w k l x =
    let b : x.parent < length g.graph = All-contains (λ p. p < length g.graph) ps x.parent l x.among in
    let down : q ≤ x.parent = reaches-down g.graph w.graph.graph x.parent q x.reached in
    no-lacking (kept_at (name_at g.graph q) g.map) (k q (omega (arith, b, down))) x.lacked

-- ---- what the next commit becomes

module _ (g : Ground) (ps : List ℕ) (t : Flat) (letter : Letter) (ms : List Shown) (w : IsGround g) (same : ms ≡ members g.map (names_at g.graph ps)) where
  -- the commits before it are all
  leads-all : leads (commits_of g) g.map (names_at g.graph ps) ≡ leads_upon g (length g.graph) ps g.map
  leads-all = ap (λ (older : Graph). leads older g.map (names_at g.graph ps)) (sym (older-all g.store g.graph w.graph))

  choice-all : chosen g.rule (leads (commits_of g) g.map (names_at g.graph ps)) t letter (members g.map (names_at g.graph ps)) ≡ chosen g.rule (leads_upon g (length g.graph) ps g.map) t letter ms
  choice-all = λ i. chosen g.rule (leads-all i) t letter (sym same i)

  pub own-by : (b : Bool) (x : Choice) → b ≡ is_some (own_commit x) → ((ks : Entries) → Agree g.map ks (commits_before g (length g.graph)) → chosen g.rule (leads_upon g (length g.graph) ps ks) t letter ms ≡ x)
      → b ≡ is_own_by g ps t letter
  own-by b x e h = e ∙ sym (ap (λ y. is_some (own_commit y)) (choice-all ∙ h g.map (agrees-itself g.map (commits_before g (length g.graph)))))
