-- What is told of a push, by what is shown and by the workspace's file.
use Rattle.std.proofs.Common.{◌≡◌, ℕ, ◌+◌, Bool, true, false, cond, not, ◌&&◌, ◌||◌, ◌⊎◌, inl, inr, List, [], ◌∷◌, refl, sym, ap, subst, ◌∙◌, Option, Some, None}
use Rattle.std.specs.Prelude.{map, Result, Ok, Err, is_none, if◌then◌else◌}
use Rattle.std.specs.Option.{option_and_then, option_map_or}
use Rattle.git_objects.specs.Paths.{Bytes, Path, same_bytes}
use Rattle.git_objects.specs.Names.{tree_name}
use Rattle.git_objects.specs.Snapshots.{Snapshot, snapshot_name}
use Rattle.git_objects.specs.Trees.{Leaf, Flat, IsTree, at}
use Rattle.git_objects.specs.declared.quantity.Quantity.{Quantity}
use Rattle.git_objects.proofs.Maps.{at_rest, first_some}
use Rattle.filter_text.specs.Filters.{Filter}
use Rattle.filter_routes.specs.Images.{image}
use Rattle.filter_routes.specs.Origins.{lens_of}
use Rattle.workspace.specs.Laws.{IsUsable}
use Rattle.workspace.specs.Workspaces.{place, split, is_unreadable, with_leaf, resolve, next}
use Rattle.workspace.proofs.Usable.{lens, place-path, with-usable}
use Rattle.filter_unapply.specs.Laying.{pre, first_lost, first_blocked, laid_from, laid_through, laid, unseen}
use Rattle.filter_unapply.proofs.Lawful.{at-pre}
use Rattle.push_laws.specs.Alike.{tells_unshown, SameUnlessUnshown, HaveOneFile, AlikeLaw}
use Rattle.push_laws.specs.PushLaws.{AreTrees}
use Rattle.push_laws.specs.PushVerdicts.{Pair, Refusal, NoChange, BadWorkspace, Unseen, Blocked, TreeLimit, Verdict, same_found, same_place, is_bad_workspace, passed, within_limits, judged, original_tree, original_of, with_pair, upon, verdict_from}

-- ---- one pushed commit

-- two values that are alike, or one refusal, or a refusal that tells of what isn't shown
abbrev Alike : {A : Type 0} → (A → A → Type 0) → Result A Refusal → Result A Refusal → Type 0
Alike P (Ok a) (Ok b) = P a b
Alike P (Ok a) (Err e) = tells_unshown e ≡ true
Alike P (Err d) (Ok b) = tells_unshown d ≡ true
Alike P (Err d) (Err e) = (tells_unshown d ≡ true) ⊎ (tells_unshown e ≡ true) ⊎ (d ≡ e)

left-unshown : {A : Type 0} (P : A → A → Type 0) (d : Refusal) (z : Result A Refusal) → tells_unshown d ≡ true → Alike P (Err d) z
left-unshown P d (Ok b) h = h
left-unshown P d (Err e) h = inl h

right-unshown : {A : Type 0} (P : A → A → Type 0) (z : Result A Refusal) (e : Refusal) → tells_unshown e ≡ true → Alike P z (Err e)
right-unshown P (Ok b) e h = h
right-unshown P (Err d) e h = inr (inl h)

-- the leaf at the workspace place
abbrev file : Filter → Flat → Option Leaf
file f t = option_and_then (at t) (place f)

module _ (f : Filter) (h : IsUsable f) where
  limits : (a b : Flat) → HaveOneFile f a b → Alike (HaveOneFile f) (within_limits a) (within_limits b)
  limits a b e = by (passed a) (passed b)
    where
      by : (x y : Option Quantity) → Alike (HaveOneFile f) (option_map_or (λ q. Err (TreeLimit q)) x (Ok a)) (option_map_or (λ q. Err (TreeLimit q)) y (Ok b))
      by None None = e
      by (Some q) y = left-unshown (HaveOneFile f) (TreeLimit q) (option_map_or (λ r. Err (TreeLimit r)) y (Ok b)) refl
      by None (Some q) = refl

  module _ (n : Flat) (v : IsTree n) where
    -- what a tree is pushed through, by the file of the tree before it
    abbrev next_by : Option Leaf → Filter
    next_by x = option_map_or (λ q. with_leaf f (at n q)) (option_and_then (image (with_leaf f x)) (place f)) (with_leaf f x)

    abbrev is_bad_by : Option Leaf → Bool
    is_bad_by x =
        option_map_or (λ q. not (same_found (at n q) x)
        && (option_map_or (λ s. is_unreadable s.directory (at n q)) (split f) false || not (same_place (option_and_then (image (next_by x)) (place f)) (Some q))))
        (option_and_then (image (with_leaf f x)) (place f)) false

    next-usable : (x : Option Leaf) → IsUsable (next_by x)
    next-usable x = by (option_and_then (image (with_leaf f x)) (place f))
      where
        by : (o : Option Path) → IsUsable (option_map_or (λ q. with_leaf f (at n q)) o (with_leaf f x))
        by None = with-usable f x h
        by (Some q) = with-usable f (at n q) h

    -- what is laid has one file too
    one-laid : (g : Filter) → IsUsable g → (t u : Flat) → HaveOneFile f t u → HaveOneFile f (pre (lens_of g) t n) (pre (lens_of g) u n)
    one-laid g w t u e = by (place f) refl e
      where
        by : (o : Option Path) → place f ≡ o → option_and_then (at t) o ≡ option_and_then (at u) o → option_and_then (at (pre (lens_of g) t n)) o ≡ option_and_then (at (pre (lens_of g) u n)) o
        by None i k = refl
        by (Some p) i k =
            let is = place-path f p h i in
            at-pre (lens_of g) (lens g w) t n v.paths p is
            ∙ ap (λ x. first_some (at_rest n (image g p)) (cond (is_none (image g p)) x None)) k
            ∙ sym (at-pre (lens_of g) (lens g w) u n v.paths p is)

    laid-alike : (g : Filter) → IsUsable g → (t u : Flat) → HaveOneFile f t u →
        Alike (HaveOneFile f) (judged None (laid_through (lens_of g) t n)) (judged None (laid_through (lens_of g) u n))
    laid-alike g w t u e = by (first_lost (lens_of g) n) (first_blocked (lens_of g) (pre (lens_of g) t n)) (first_blocked (lens_of g) (pre (lens_of g) u n))
      where
        by : (o : Option Path) (x y : Option (Path × Path)) → Alike (HaveOneFile f) (judged None (laid_from o x (pre (lens_of g) t n))) (judged None (laid_from o y (pre (lens_of g) u n)))
        by (Some q) x y = inr (inr refl)
        by None (Some x) y = left-unshown (HaveOneFile f) (Blocked x.0 x.1) (judged None (laid_from None y (pre (lens_of g) u n))) refl
        by None None (Some y) = right-unshown (HaveOneFile f) (judged None (laid_from None None (pre (lens_of g) t n))) (Blocked y.0 y.1) refl
        by None None None = limits (pre (lens_of g) t n) (pre (lens_of g) u n) (one-laid g w t u e)

    -- what comes of a commit that changes its tree
    abbrev judged_by : Bool → Flat → Result Flat Refusal
    judged_by bad t = if bad then Err BadWorkspace else judged (unseen (resolve f t) (next f t n) t n) (laid f t n)

    judged-alike : (t u : Flat) → HaveOneFile f t u → (bad : Bool) → Alike (HaveOneFile f) (judged_by bad t) (judged_by bad u)
    unfolding next resolve with_leaf
    judged-alike t u e true = inr (inr refl)
    judged-alike t u e false = by (unseen (resolve f t) (next f t n) t n) (unseen (resolve f u) (next f u n) u n)
      where
        by : (x y : Option Path) → Alike (HaveOneFile f) (judged x (laid f t n)) (judged y (laid f u n))
        by (Some p) y = left-unshown (HaveOneFile f) (Unseen p) (judged y (laid f u n)) refl
        by None (Some p) = right-unshown (HaveOneFile f) (judged None (laid f t n)) (Unseen p) refl
        by None None =
            subst (λ g. Alike (HaveOneFile f) (judged None (laid f t n)) (judged None (laid_through (lens_of g) u n))) (ap next_by e)
            (laid-alike (next f t n) (next-usable (file f t)) t u e)

    original-alike : (seen t u : Flat) → HaveOneFile f t u → Alike (HaveOneFile f) (original_tree f t seen n) (original_tree f u seen n)
    unfolding next resolve with_leaf
    original-alike seen t u e = by (same_bytes (tree_name n) (tree_name seen))
      where
        by : (same : Bool) → Alike (HaveOneFile f) (if same then Err NoChange else judged_by (is_bad_workspace f t n) t) (if same then Err NoChange else judged_by (is_bad_workspace f u n) u)
        by true = inr (inr refl)
        by false = subst (λ bad. Alike (HaveOneFile f) (judged_by (is_bad_workspace f t n) t) (judged_by bad u)) (ap is_bad_by e) (judged-alike t u e (is_bad_workspace f t n))

-- ---- all commits

abbrev Told : Type 0
Told = Result (List Snapshot) (ℕ × Refusal)

abbrev commits_of : Told → List Snapshot
commits_of (Ok cs) = cs
commits_of (Err e) = []

-- a value and a refusal aren't told alike
differ : (cs : List Snapshot) (e : ℕ × Refusal) → (let x : Told = Ok cs in let y : Told = Err e in x ≡ y) → ⊥
differ cs e s = cc

with-same : (p r : Pair) → p.pushed ≡ r.pushed → (v w : Verdict) → SameUnlessUnshown v w → SameUnlessUnshown (with_pair p v) (with_pair r w)
with-same p r e (Ok ps) (Ok rs) (inl s) = inl s
with-same p r e (Ok ps) (Ok rs) (inr (inl s)) = inr (inl s)
with-same p r e (Ok ps) (Ok rs) (inr (inr s)) = inr (inr (λ i. Ok (e i ∷ commits_of (s i))))
with-same p r e (Ok ps) (Err d) (inl s) = inl s
with-same p r e (Ok ps) (Err d) (inr (inl s)) = inr (inl s)
with-same p r e (Ok ps) (Err d) (inr (inr s)) = absurd (differ (map (λ p. p.pushed) ps) d s)
with-same p r e (Err d) (Ok rs) (inl s) = inl s
with-same p r e (Err d) (Ok rs) (inr (inl s)) = inr (inl s)
with-same p r e (Err d) (Ok rs) (inr (inr s)) = absurd (differ (map (λ p. p.pushed) rs) d (sym s))
with-same p r e (Err c) (Err d) s = s

module _ (f : Filter) (h : IsUsable f) where
  upon-same : (n : ℕ) (a b : Result Flat Refusal) (later other : Flat → Verdict) → Alike (HaveOneFile f) a b →
      ((t u : Flat) → HaveOneFile f t u → SameUnlessUnshown (later t) (other u)) → SameUnlessUnshown (upon n a later) (upon n b other)
  upon-same n (Ok t) (Ok u) later other s next = next t u s
  upon-same n (Ok t) (Err e) later other s next = inr (inl s)
  upon-same n (Err d) (Ok u) later other s next = inl s
  upon-same n (Err d) (Err e) later other (inl s) next = inl s
  upon-same n (Err d) (Err e) later other (inr (inl s)) next = inr (inl s)
  upon-same n (Err d) (Err e) later other (inr (inr s)) next = inr (inr (ap (λ x. Err (n, x)) s))

  -- what follows from the original tree of a commit
  abbrev later_of : ℕ → Bytes → Snapshot → List Snapshot → Flat → Verdict
  later_of n b c cs u = let o : Snapshot = original_of b c u in with_pair (record { pushed = c; original = o }) (verdict_from f (n + 1) (snapshot_name o) u c.tree cs)

  verdicts : (cs : List Snapshot) (n : ℕ) (a b : Bytes) (t u seen : Flat) → HaveOneFile f t u → AreTrees cs → SameUnlessUnshown (verdict_from f n a t seen cs) (verdict_from f n b u seen cs)
  verdicts [] n a b t u seen e v = inr (inr refl)
  verdicts (c ∷ cs) n a b t u seen e v =
      upon-same n (original_tree f t seen c.tree) (original_tree f u seen c.tree) (later_of n a c cs) (later_of n b c cs) (original-alike f h c.tree v.0 seen t u e)
      (λ x y s. with-same (record { pushed = c; original = original_of a c x }) (record { pushed = c; original = original_of b c y }) refl
      (verdict_from f (n + 1) (snapshot_name (original_of a c x)) x c.tree cs) (verdict_from f (n + 1) (snapshot_name (original_of b c y)) y c.tree cs)
      (verdicts cs (n + 1) (snapshot_name (original_of a c x)) (snapshot_name (original_of b c y)) x y c.tree s v.1))

pub alike-law : AlikeLaw
alike-law f n h k t u seen cs usable trees file = verdicts f usable cs n h k t u seen file trees
