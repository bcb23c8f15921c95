-- Pushes of any length.
use Rattle.std.specs.Prelude.{◌≡◌, refl, ℕ, ◌+◌, Bool, true, false, cond, List, [], ◌∷◌, map, is_some, Option, Some, None, Result, Ok, Err}
use Rattle.std.specs.Option.{option_and_then, option_map_or, option_to_list}
use Rattle.std.proofs.Common.{ap, ◌∙◌, sym, subst, true≢false}
use Rattle.git_objects.specs.Paths.{Bytes, Path, is_nil, is_path, same_bytes}
use Rattle.git_objects.specs.Trees.{Flat, IsTree, at}
use Rattle.git_objects.specs.Lists.{Each}
use Rattle.workspace.specs.Laws.{IsUsable}
use Rattle.git_objects.specs.Names.{tree_name}
use Rattle.git_objects.specs.Commits.{Letter}
use Rattle.git_objects.proofs.Basics.{same_bytes-self, same_bytes-back}
use Rattle.git_objects.proofs.Maps.{at_rest}
use Rattle.std.proofs.lemmas.Option.{none-some, same_Some}
use Rattle.filter_text.specs.Filters.{Filter}
use Rattle.filter_routes.specs.Lenses.{seen_through}
use Rattle.filter_routes.specs.Origins.{lens_of, origin}
use Rattle.git_objects.specs.Snapshots.{Snapshot, Graph, snapshot_name, has_name, has, commit_at, tree_at, is_graph, add, add_all}
use Rattle.workspace.specs.Workspaces.{place, with_leaf, resolve, shown, next}
use Rattle.filter_unapply.specs.Laying.{pre, first_lost, first_blocked, laid, laid_from, laid_through, LaidTree, unseen}
use Rattle.projection_laws.specs.Projections.{shown_of, own, projection}
use Rattle.commit_map.specs.Shown.{Shown}
use Rattle.commit_map.specs.declared.rule.Rule.{Rule}
use Rattle.push_laws.specs.Pushes.{made_from, made_upon}
use Rattle.push_laws.specs.PushVerdicts.{Pair, Verdict, Refusal, NoChange, BadWorkspace, original_of, original_tree, with_pair, upon, verdict_from, is_bad_workspace, judged, TreeLimit}
use Rattle.push_laws.specs.PushLaws.{AreTrees, MadeLaw, IsStep, EachStep, StepsLaw, PushedLaw, IsChain, commit_of, originals, AreFound, ProjectedLaw, Returns, BackLaw, last_of, Agrees, ElsewhereLaw, AdmissibleLaw}
use Rattle.projection_laws.specs.ProjectionLaws.{IsOf}
use Rattle.projection_laws.proofs.GraphLemmas.{add-graph, add-has, found, one-parent-in}
use Rattle.projection_laws.proofs.ProjectionLemmas.{projection-added, projection-of, projection-one, upon_one}
use Rattle.filter_unapply.proofs.LayingLemmas.{the_law as laying}
use Rattle.workspace.proofs.Usable.{lens}
use Rattle.filter_routes.proofs.Carried.{same_on_paths}
use Rattle.filter_routes.proofs.TreeEntries.{each_entry}
use Rattle.filter_routes.proofs.SeenTrees.{at-seen}
use Rattle.filter_unapply.proofs.Lawful.{free, none_lost}
use Rattle.push_laws.proofs.Stepping.{IsAccepted, accepted, resolve-usable, step-law}

-- ---- trees of a graph

tree-is-at : (g : Graph) (d : Snapshot) (n : Bytes) (b : Bool) (c : Snapshot) → IsTree d.tree → (commit_at g n ≡ Some c → IsTree c.tree) → cond b (Some d) (commit_at g n) ≡ Some c → IsTree c.tree
tree-is-at g d n true c h k e = subst (λ (x : Snapshot). IsTree x.tree) (same_Some d c e) h
tree-is-at g d n false c h k e = k e

tree-found : (g : Graph) (n : Bytes) (c : Snapshot) → AreTrees g → commit_at g n ≡ Some c → IsTree c.tree
tree-found [] n c h e = absurd (none-some c e)
tree-found (d ∷ g) n c h e = tree-is-at g d n (has_name n d) c h.0 (tree-found g n c h.1) e

empty-tree : IsTree []
empty-tree = record { sorted = tt; paths = tt; leaves = tt; apart = tt }

pub tree-there : (g : Graph) (n : Bytes) → AreTrees g → IsTree (tree_at g n)
tree-there g n h = by (commit_at g n) refl
  where
    by : (o : Option Snapshot) → commit_at g n ≡ o → IsTree (option_map_or (λ c. c.tree) o [])
    by None e = empty-tree
    by (Some c) e = tree-found g n c h e

-- ---- a verdict, step by step

abbrev pub pair_of : Bytes → Snapshot → Flat → Pair
pair_of h c u = record { pushed = c; original = original_of h c u }

-- the first pair of an accepted push, and the others
pub record IsMore (f : Filter) (n : ℕ) (h : Bytes) (t seen : Flat) (c : Snapshot) (cs : List Snapshot) (ps : List Pair) : Type 0 where
  pub u : Flat
  pub rest : List Pair
  pub step : original_tree f t seen c.tree ≡ Ok u
  pub later : verdict_from f (n + 1) (snapshot_name (original_of h c u)) u c.tree cs ≡ Ok rest
  pub same : pair_of h c u ∷ rest ≡ ps

more-at : (f : Filter) (n : ℕ) (h : Bytes) (t seen : Flat) (c : Snapshot) (cs : List Snapshot) (ps : List Pair) (u : Flat) (v : Verdict) → original_tree f t seen c.tree ≡ Ok u
    → verdict_from f (n + 1) (snapshot_name (original_of h c u)) u c.tree cs ≡ v → with_pair (pair_of h c u) v ≡ Ok ps → IsMore f n h t seen c cs ps
more-at f n h t seen c cs ps u (Ok rest) s l e = record { u = u; rest = rest; step = s; later = l; same = cc }
more-at f n h t seen c cs ps u (Err x) s l e = cc

more-of : (f : Filter) (n : ℕ) (h : Bytes) (t seen : Flat) (c : Snapshot) (cs : List Snapshot) (ps : List Pair) (r : Result Flat Refusal) → original_tree f t seen c.tree ≡ r
    → upon n r (λ u. with_pair (pair_of h c u) (verdict_from f (n + 1) (snapshot_name (original_of h c u)) u c.tree cs)) ≡ Ok ps → IsMore f n h t seen c cs ps
more-of f n h t seen c cs ps (Ok u) s e = more-at f n h t seen c cs ps u (verdict_from f (n + 1) (snapshot_name (original_of h c u)) u c.tree cs) s refl e
more-of f n h t seen c cs ps (Err x) s e = cc

pub more : (f : Filter) (n : ℕ) (h : Bytes) (t seen : Flat) (c : Snapshot) (cs : List Snapshot) (ps : List Pair) → verdict_from f n h t seen (c ∷ cs) ≡ Ok ps → IsMore f n h t seen c cs ps
more f n h t seen c cs ps e = more-of f n h t seen c cs ps (original_tree f t seen c.tree) refl e

abbrev pub accepts : List Pair → Verdict
accepts ps = Ok ps

pub ok-is : (ps qs : List Pair) → accepts ps ≡ accepts qs → ps ≡ qs
ok-is ps qs e = cc

-- ---- what was pushed

pushed-of : (f : Filter) (cs : List Snapshot) (n : ℕ) (h : Bytes) (t seen : Flat) (ps : List Pair) → verdict_from f n h t seen cs ≡ Ok ps → map (λ p. p.pushed) ps ≡ cs
pushed-of f [] n h t seen ps e = ap (map (λ p. p.pushed)) (sym (ok-is [] ps e))
pushed-of f (c ∷ cs) n h t seen ps e =
    let m = more f n h t seen c cs ps e in
    ap (map (λ p. p.pushed)) (sym m.same) ∙ ap (λ xs. c ∷ xs) (pushed-of f cs (n + 1) (snapshot_name (original_of h c m.u)) m.u c.tree m.rest m.later)

pub pushed-law : PushedLaw
pushed-law f g h cs ps e = pushed-of f cs 1 h (tree_at g h) (shown f (tree_at g h)) ps e

-- ---- the originals that were made

made-of : (f : Filter) (cs : List Snapshot) (n : ℕ) (h : Bytes) (t seen : Flat) (ps : List Pair) → verdict_from f n h t seen cs ≡ Ok ps → made_from f h t seen cs ≡ originals ps
made-of f [] n h t seen ps e = ap originals (ok-is [] ps e)
made-of f (c ∷ cs) n h t seen ps e =
    let m = more f n h t seen c cs ps e in
    ap (λ r. made_upon h c r (λ u. made_from f (snapshot_name (original_of h c u)) u c.tree cs)) m.step
    ∙ ap (λ xs. original_of h c m.u ∷ xs) (made-of f cs (n + 1) (snapshot_name (original_of h c m.u)) m.u c.tree m.rest m.later)
    ∙ ap originals m.same

pub made-law : MadeLaw
made-law f g h refname from x ps e = made-of f x.state.commits 1 h (tree_at g h) (shown f (tree_at g h)) ps e

-- ---- steps

abbrev Steps : Filter → Flat → List Pair → Type 0
Steps f t ps = EachStep (λ t p. IsStep f t p.pushed.tree p.original.tree) t ps

steps-of : (f : Filter) → IsUsable f → (cs : List Snapshot) (n : ℕ) (h : Bytes) (t seen : Flat) (ps : List Pair) → IsTree t → AreTrees cs → verdict_from f n h t seen cs ≡ Ok ps → Steps f t ps
steps-of f w [] n h t seen ps v a e = subst (Steps f t) (ok-is [] ps e) tt
steps-of f w (c ∷ cs) n h t seen ps v a e =
    let m = more f n h t seen c cs ps e in
    let s : IsStep f t c.tree m.u = step-law f t seen c.tree m.u w v a.0 m.step in
    subst (Steps f t) m.same (s, steps-of f w cs (n + 1) (snapshot_name (original_of h c m.u)) m.u c.tree m.rest s.tree a.1 m.later)

pub steps-law : StepsLaw
steps-law f g h cs ps w a b e = steps-of f w cs 1 h (tree_at g h) (shown f (tree_at g h)) ps (tree-there g h a) b e

-- ---- the graph with a push's originals

originals-graph : (f : Filter) (cs : List Snapshot) (n : ℕ) (h : Bytes) (t seen : Flat) (ps : List Pair) (g : Graph) → verdict_from f n h t seen cs ≡ Ok ps → is_graph g ≡ true → has g h ≡ true
    → is_graph (add_all g (originals ps)) ≡ true
originals-graph f [] n h t seen ps g e s k = subst (λ x. is_graph (add_all g (originals x)) ≡ true) (ok-is [] ps e) s
originals-graph f (c ∷ cs) n h t seen ps g e s k =
    let m = more f n h t seen c cs ps e in
    let o : Snapshot = original_of h c m.u in
    subst (λ x. is_graph (add_all g (originals x)) ≡ true) m.same
    (originals-graph f cs (n + 1) (snapshot_name o) m.u c.tree m.rest (add g o) m.later (add-graph g o (one-parent-in o h g refl k) s) (add-has g o))

-- ---- originals project to the pushed commits

changed : (f : Filter) (t seen n u : Flat) → original_tree f t seen n ≡ Ok u → same_bytes (tree_name n) (tree_name seen) ≡ false
changed f t seen n u = by (same_bytes (tree_name n) (tree_name seen))
  where
    by : (b : Bool) → cond b (Err NoChange) (cond (is_bad_workspace f t n) (Err BadWorkspace) (judged (unseen (resolve f t) (next f t n) t n) (laid f t n))) ≡ Ok u → b ≡ false
    by true e = cc
    by false e = refl

abbrev line_up : Flat → List Bytes → Letter → Snapshot
line_up t ps l = record { tree = t; parents = ps; letter = l }

-- a commit upon the projection of another tree
upon-other : (k : Rule) (shown : Flat → Flat) (P : Option Shown) (seen n : Flat) (l : Letter) → IsOf seen P → same_bytes (tree_name n) (tree_name seen) ≡ false →
    upon_one k shown P n l ≡ Some (shown_of (line_up n (option_to_list (commit_of P)) l))
upon-other k shown None seen [] l i e = absurd (true≢false (sym (same_bytes-self (tree_name [])) ∙ ap (λ x. same_bytes (tree_name []) (tree_name x)) (sym i) ∙ e))
upon-other k shown None seen (x ∷ n) l i e = refl
upon-other k shown (Some m) seen n l i e =
    ap (λ b. cond b (Some m) (Some (shown_of (line_up n (m.commit ∷ []) l)))) (ap (λ x. same_bytes x (tree_name n)) i ∙ same_bytes-back (tree_name seen) (tree_name n) ∙ e)

-- a commit upon the projection of the same tree
upon-same : (k : Rule) (shown : Flat → Flat) (P : Option Shown) (n : Flat) (l : Letter) → IsOf n P → upon_one k shown P n l ≡ P
upon-same k shown None n l i = ap (λ x. cond (is_nil x) None (Some (shown_of (own x l [])))) i
upon-same k shown (Some m) n l i = ap (λ b. cond b (Some m) (Some (shown_of (own n l (m ∷ []))))) (ap (λ x. same_bytes x (tree_name n)) i ∙ same_bytes-self (tree_name n))

module _ (k : Rule) (f : Filter) (w : IsUsable f) (G : Graph) (s : is_graph G ≡ true) where
  abbrev P : Bytes → Option Shown
  P n = projection k (shown f) G n

  -- the pushed commit c upon h, whose projection shows `seen`
  one : (h : Bytes) (c : Snapshot) (seen u : Flat) → commit_at G (snapshot_name (original_of h c u)) ≡ Some (original_of h c u) → shown f u ≡ c.tree →
      c.parents ≡ option_to_list (commit_of (P h)) → IsOf seen (P h) → same_bytes (tree_name c.tree) (tree_name seen) ≡ false →
      P (snapshot_name (original_of h c u)) ≡ Some (shown_of c)
  one h c seen u a e p i d =
      (projection-one k (shown f) G s (snapshot_name (original_of h c u)) (original_of h c u) h a refl).0
      ∙ upon-other k (shown f) (P h) seen (shown f u) c.letter i (ap (λ x. same_bytes (tree_name x) (tree_name seen)) e ∙ d)
      ∙ (λ j. Some (shown_of (line_up (e j) (sym p j) c.letter)))

  push-projects : (cs : List Snapshot) (n : ℕ) (h : Bytes) (t seen : Flat) (ps : List Pair) → verdict_from f n h t seen cs ≡ Ok ps → AreFound G (originals ps) → AreTrees cs → IsTree t →
      IsOf seen (P h) → IsChain (commit_of (P h)) cs → Each (λ p. P (snapshot_name p.original) ≡ Some (shown_of p.pushed)) ps
  push-projects [] n h t seen ps e a v x i c = subst (Each (λ p. P (snapshot_name p.original) ≡ Some (shown_of p.pushed))) (ok-is [] ps e) tt
  push-projects (c ∷ cs) n h t seen ps e a v x i l =
      let m = more f n h t seen c cs ps e in
      let found : AreFound G (originals (pair_of h c m.u ∷ m.rest)) = subst (λ z. AreFound G (originals z)) (sym m.same) a in
      let z : IsStep f t c.tree m.u = step-law f t seen c.tree m.u w x v.0 m.step in
      let mine : P (snapshot_name (original_of h c m.u)) ≡ Some (shown_of c) = one h c seen m.u found.0 z.shown_again l.0 i (changed f t seen c.tree m.u m.step) in
      subst (Each (λ p. P (snapshot_name p.original) ≡ Some (shown_of p.pushed))) m.same (
        mine,
        push-projects cs (n + 1) (snapshot_name (original_of h c m.u)) m.u c.tree m.rest m.later found.1 v.1 z.tree
            (subst (IsOf c.tree) (sym mine) refl) (subst (λ o. IsChain (commit_of o) cs) (sym mine) l.1),
      )

tree-at : (g : Graph) (h : Bytes) (c : Snapshot) → commit_at g h ≡ Some c → tree_at g h ≡ c.tree
tree-at g h c e = ap (λ o. option_map_or (λ (x : Snapshot). x.tree) o []) e

pub projected-law : ProjectedLaw
projected-law k f g h cs ps x =
    let c = found g h x.head in
    let stays : projection k (shown f) (add_all g (originals ps)) h ≡ projection k (shown f) g h = projection-added k (shown f) (originals ps) g h x.head in
    let is_of : IsOf (shown f (tree_at g h)) (projection k (shown f) g h) = subst (λ z. IsOf (shown f z) (projection k (shown f) g h)) (sym (tree-at g h c.0 c.1)) (projection-of k (shown f) g h c.0 c.1) in
    push-projects k f x.usable (add_all g (originals ps)) (originals-graph f cs 1 h (tree_at g h) (shown f (tree_at g h)) ps g x.accepted x.graph x.head)
    cs 1 h (tree_at g h) (shown f (tree_at g h)) ps x.accepted x.found x.pushed (tree-there g h x.trees)
    (subst (IsOf (shown f (tree_at g h))) (sym stays) is_of) (subst (λ o. IsChain (commit_of o) cs) (sym stays) x.upon)

-- ---- there and back

-- laying into T is laying into the first tree
record IsStill (f : Filter) (first T : Flat) : Type 0 where
  tree : IsTree T
  lays : (m : Flat) → laid_through (lens_of (resolve f first)) T m ≡ laid_through (lens_of (resolve f first)) first m

tree-is : (u v : Flat) → LaidTree u ≡ LaidTree v → u ≡ v
tree-is u v e = cc

back-of : (f : Filter) (first : Flat) → IsUsable f → IsTree first → (cs : List Snapshot) (n : ℕ) (h : Bytes) (t seen : Flat) (ps : List Pair) → IsStill f first t → AreTrees cs → verdict_from f n h t seen cs ≡ Ok ps → Returns f first ps
unfolding resolve shown
back-of f first w x [] n h t seen ps i v e = subst (Returns f first) (ok-is [] ps e) tt
back-of f first w x (c ∷ cs) n h t seen ps i v e =
    let m = more f n h t seen c cs ps e in
    let s : IsStep f t c.tree m.u = step-law f t seen c.tree m.u w i.tree v.0 m.step in
    let k : IsAccepted f t c.tree m.u = accepted f t seen c.tree m.u m.step in
    let r : Filter = resolve f first in
    let g : IsUsable r = resolve-usable f first w in
    subst (Returns f first) m.same (λ same.
    let again : next f t c.tree ≡ r = sym s.resolved ∙ ap (with_leaf f) same in
    let lays : laid_through (lens_of r) t c.tree ≡ LaidTree m.u = ap (λ z. laid_through (lens_of z) t c.tree) (sym again) ∙ k.is_laid in
    let still : IsStill f first m.u = record { tree = s.tree; lays = λ y. laying.laid_again r t c.tree m.u y g.paths g.sound i.tree v.0 lays ∙ i.lays y } in (
      λ is. tree-is m.u first (sym lays ∙ ap (laid_through (lens_of r) t) is ∙ i.lays (shown f first) ∙ laying.given_back r first g.paths g.sound x),
      back-of f first w x cs (n + 1) (snapshot_name (original_of h c m.u)) m.u c.tree m.rest still v.1 m.later,
    ))

pub back-law : BackLaw
back-law f g h cs ps w a b e =
    let x : IsTree (tree_at g h) = tree-there g h a in
    back-of f (tree_at g h) w x cs 1 h (tree_at g h) (shown f (tree_at g h)) ps (record { tree = x; lays = λ m. refl }) b e

-- ---- other filters

agree-place : (f : Filter) (t u : Flat) (o : Option Path) → ((p : Path) → o ≡ Some p → at u p ≡ at t p) → option_and_then (at u) o ≡ option_and_then (at t) o
agree-place f t u None h = refl
agree-place f t u (Some p) h = h p refl

shown-agrees : (f : Filter) (t u : Flat) → IsUsable f → IsTree t → Agrees f t u → shown f u ≡ shown f t
unfolding resolve shown
shown-agrees f t u w v a =
    let r : Filter = resolve f t in
    let g : IsUsable r = resolve-usable f t w in
    let same : resolve f u ≡ r = ap (with_leaf f) (agree-place f t u (place f) a.file) in
    let x : IsTree (seen_through (lens_of r) u) = laying.shown_tree r u g.paths g.sound a.tree in
    let y : IsTree (seen_through (lens_of r) t) = laying.shown_tree r t g.paths g.sound v in
    ap (λ z. seen_through (lens_of z) u) same
    ∙ same_on_paths (seen_through (lens_of r) u) (seen_through (lens_of r) t) x.sorted y.sorted x.paths y.paths
    (λ q e. at-seen (lens_of r) (lens r g) u a.tree.paths q e ∙ by g q e (origin r q) refl ∙ sym (at-seen (lens_of r) (lens r g) t v.paths q e))
  where
    by : IsUsable (resolve f t) → (q : Path) → is_path q ≡ true → (o : Option Path) → origin (resolve f t) q ≡ o → at_rest u o ≡ at_rest t o
    by g q e None i = refl
    by g q e (Some p) i =
        let l = lens (resolve f t) g in
        a.seen p (l.origin_path p q e i) (ap is_some (l.origin_image p q e i))

chain-graph : (os : List Snapshot) (h : Bytes) (g : Graph) → IsChain (Some h) os → is_graph g ≡ true → has g h ≡ true → is_graph (add_all g os) ≡ true
chain-graph [] h g c s k = s
chain-graph (o ∷ os) h g c s k = chain-graph os (snapshot_name o) (add g o) c.1 (add-graph g o (one-parent-in o h g c.0 k) s) (add-has g o)

module _ (k : Rule) (f : Filter) (w : IsUsable f) (first : Flat) (v : IsTree first) (G : Graph) (s : is_graph G ≡ true) where
  push-keeps : (os : List Snapshot) (h : Bytes) → IsChain (Some h) os → Each (λ o. Agrees f first o.tree) os → AreFound G os → IsOf (shown f first) (projection k (shown f) G h) →
      projection k (shown f) G (last_of h os) ≡ projection k (shown f) G h
  push-keeps [] h c a e i = refl
  push-keeps (o ∷ os) h c a e i =
      let same : shown f o.tree ≡ shown f first = shown-agrees f first o.tree w v a.0 in
      let mine : projection k (shown f) G (snapshot_name o) ≡ projection k (shown f) G h =
      (projection-one k (shown f) G s (snapshot_name o) o h e.0 c.0).0 ∙ ap (λ t. upon_one k (shown f) (projection k (shown f) G h) t o.letter) same
      ∙ upon-same k (shown f) (projection k (shown f) G h) (shown f first) o.letter i in
      push-keeps os (snapshot_name o) c.1 a.1 e.1 (subst (IsOf (shown f first)) (sym mine) i) ∙ mine

pub elsewhere-law : ElsewhereLaw
elsewhere-law k f g h os w s v b c a e =
    let x = found g h b in
    let stays : projection k (shown f) (add_all g os) h ≡ projection k (shown f) g h = projection-added k (shown f) os g h b in
    let is_of : IsOf (shown f (tree_at g h)) (projection k (shown f) g h) = subst (λ z. IsOf (shown f z) (projection k (shown f) g h)) (sym (tree-at g h x.0 x.1)) (projection-of k (shown f) g h x.0 x.1) in
    push-keeps k f w (tree_at g h) (tree-there g h v) (add_all g os) (chain-graph os h g c s b) os h c a e (subst (IsOf (shown f (tree_at g h))) (sym stays) is_of) ∙ stays

-- ---- admissible commits

pub admissible-law : AdmissibleLaw
admissible-law f t seen n v a =
    let r : Filter = next f t n in
    let u : Flat = pre (lens_of r) t n in
    let lost : first_lost (lens_of r) n ≡ None = none_lost (lens_of r) n (each_entry (λ d. is_some (origin r d.0) ≡ true) n v.sorted (λ d e. a.held d.0 (ap is_some e))) in
    let blocked : first_blocked (lens_of r) u ≡ None = free (lens_of r) u a.tree in
    let lays : laid f t n ≡ LaidTree u = (λ i. laid_from (lost i) (blocked i) u) in
    (λ i. cond (a.change i) (Err NoChange) (cond (a.workspace i) (Err BadWorkspace) (judged (a.seen_whole i) (lays i))))
    ∙ ap (λ o. option_map_or (λ q. Err (TreeLimit q)) o (Ok u)) a.small
