-- The originals of an accepted push may be brought to the graph.
use Rattle.std.proofs.Common.{◌≡◌, ℕ, ◌+◌, Bool, true, false, ◌||◌, List, [], ◌∷◌, ◌++◌, length, Some, None, Ok, refl, sym, ap, subst, ◌∙◌, arith}
use Rattle.std.specs.Prelude.{if◌then◌else◌, nat_le, nat_lt}
use Rattle.std.specs.List.{list_any}
use Rattle.std.proofs.lemmas.Bool.Decides.{nat_tests}
use Rattle.std.proofs.lemmas.Option.{none-some}
use Rattle.git_objects.specs.Lists.{Each}
use Rattle.git_objects.specs.Names.{body, depth}
use Rattle.git_objects.specs.Paths.{Bytes, same_bytes, text}
use Rattle.git_objects.specs.Snapshots.{Snapshot, Graph, has, snapshot_commit, snapshot_name, tree_at}
use Rattle.git_objects.specs.Trees.{Flat, IsTree}
use Rattle.git_objects.specs.declared.kind.Kind.TheVariants.{Tree}
use Rattle.git_objects.specs.declared.limits.TheConstants.{TREE_DEPTH, TREE_FILES, TREE_PATH_BYTES}
use Rattle.git_objects.specs.declared.quantity.Quantity.TheVariants.{Files, PathBytes, PathDepth}
use Rattle.git_objects.proofs.Basics.{and_both, same_bytes-back, same_bytes-self}
use Rattle.git_objects.proofs.Digests.{name-is_name}
use Rattle.object_store.specs.Fits.{tree_fits}
use Rattle.object_store.specs.Sizes.{longest}
use Rattle.filter_text.specs.Filters.{Filter}
use Rattle.filter_routes.specs.Origins.{lens_of}
use Rattle.workspace.specs.Laws.{IsUsable}
use Rattle.workspace.specs.Workspaces.{next, shown}
use Rattle.workspace.proofs.Usable.{lens}
use Rattle.state_items.specs.Imported.{IsWhole, has_leaves, is_among}
use Rattle.state_items.proofs.Bringing.{any-back}
use Rattle.import_laws.proofs.EditLeaves.{leaves-more}
use Rattle.import_laws.proofs.Replaying.{among-name, commit-bytes}
use Rattle.push_laws.specs.Given.{AreBrought, BroughtLaw, IsGivenCommit, blobs_in}
use Rattle.push_laws.specs.PushLaws.{IsStep, originals}
use Rattle.push_laws.specs.PushVerdicts.{Pair, original_of, passed, verdict_from}
use Rattle.push_laws.proofs.LaidLeaves.{in-blobs, laid-leaves, pool-more, shown-leaves}
use Rattle.push_laws.proofs.Pushing.{IsMore, more, ok-is, tree-there}
use Rattle.push_laws.proofs.Stepping.{IsAccepted, accepted, accepted-step, next-usable}
use Rattle.push_laws.proofs.Depths.{deeper, longer}

-- ---- limits

no-limit : (a b c : Bool) → (if a then Some Files else if b then Some PathDepth else if c then Some PathBytes else None) ≡ None → (a ≡ false) × (b ≡ false) × (c ≡ false)
no-limit true b c e = absurd (none-some Files (sym e))
no-limit false true c e = absurd (none-some PathDepth (sym e))
no-limit false false true e = absurd (none-some PathBytes (sym e))
no-limit false false false e = (refl, refl, refl)

not-more : (m n : ℕ) → nat_lt m n ≡ false → nat_le n m ≡ true
not-more m n h = grind (arith, nat_tests)

-- a tree that passes no limit is within the limits of stored trees
pub fits : (u : Flat) → passed u ≡ None → tree_fits u ≡ true
fits u e =
    let k : (nat_lt TREE_FILES (length u) ≡ false) × (list_any (λ d. nat_lt TREE_DEPTH (length d.0)) u ≡ false) × (list_any (λ d. nat_lt TREE_PATH_BYTES (length (text d.0))) u ≡ false) =
    no-limit (nat_lt TREE_FILES (length u)) (list_any (λ d. nat_lt TREE_DEPTH (length d.0)) u) (list_any (λ d. nat_lt TREE_PATH_BYTES (length (text d.0))) u) e in
    and_both
    (and_both (not-more TREE_FILES (length u) k.0) (not-more TREE_DEPTH (depth u) (sym (deeper TREE_DEPTH u) ∙ k.1)))
    (not-more TREE_PATH_BYTES (longest u) (sym (longer TREE_PATH_BYTES u) ∙ k.2))

-- ---- one original

pub among-has : (g : Graph) (n : Bytes) → is_among g n ≡ has g n
among-has [] n = refl
among-has (c ∷ g) n = λ i. same_bytes-back (snapshot_name c) n i || among-has g n i

module _ (pool : List Bytes) (known : List Snapshot) where
  -- upon a commit that is there
  whole-upon : (h : Bytes) (c : Snapshot) (u : Flat) → IsTree u → is_among known h ≡ true → IsGivenCommit pool c → IsWhole (original_of h c u)
  whole-upon h c u v k i = record {
    tree = v;
    body = record {
      tree = name-is_name Tree (body u);
      parents = and_both (among-name known h k) refl;
      few = omega arith;
      author = i.author;
      committer = i.committer;
      spelled = refl;
    };
    bytes = commit-bytes (snapshot_commit (original_of h c u)) i.author_bytes i.committer_bytes i.message;
  }

  none-brought : AreBrought known pool []
  none-brought = record { whole = tt; leaves = refl; small = refl }

  -- one original in front of those behind it
  more-brought : (h : Bytes) (c : Snapshot) (u : Flat) (os : List Snapshot) → IsTree u → has_leaves pool u ≡ true → passed u ≡ None → is_among known h ≡ true → IsGivenCommit pool c
      → AreBrought (original_of h c u ∷ known) pool os → AreBrought known pool (original_of h c u ∷ os)
  more-brought h c u os v l s k i a = record {
    whole = (whole-upon h c u v k i, and_both k refl, a.whole);
    leaves = and_both l a.leaves;
    small = and_both (and_both (fits u s) i.short) a.small;
  }

-- ---- all originals

module _ (f : Filter) (w : IsUsable f) (pool : List Bytes) where
  brought-from : (cs : List Snapshot) (n : ℕ) (h : Bytes) (t seen : Flat) (ps : List Pair) (known : List Snapshot) → IsTree t → has_leaves pool t ≡ true → is_among known h ≡ true
      → Each (IsGivenCommit pool) cs → verdict_from f n h t seen cs ≡ Ok ps → AreBrought known pool (originals ps)
  brought-from [] n h t seen ps known v l k i e = subst (λ x. AreBrought known pool (originals x)) (ok-is [] ps e) (none-brought pool known)
  brought-from (c ∷ cs) n h t seen ps known v l k i e =
      let m : IsMore f n h t seen c cs ps = more f n h t seen c cs ps e in
      let o : Snapshot = original_of h c m.u in
      let a : IsAccepted f t c.tree m.u = accepted f t seen c.tree m.u m.step in
      let s : IsStep f t c.tree m.u = accepted-step f t c.tree m.u w v i.0.tree a in
      let leaves : has_leaves pool m.u ≡ true =
      laid-leaves pool (lens_of (next f t c.tree)) t c.tree m.u (lens (next f t c.tree) (next-usable f t c.tree w)) a.is_laid l i.0.leaves in
      let own : is_among (o ∷ known) (snapshot_name o) ≡ true = ap (λ x. x || is_among known (snapshot_name o)) (same_bytes-self (snapshot_name o)) in
      let rest : AreBrought (o ∷ known) pool (originals m.rest) =
      brought-from cs (n + 1) (snapshot_name o) m.u c.tree m.rest (o ∷ known) s.tree leaves own i.1 m.later in
      subst (λ x. AreBrought known pool (originals x)) m.same (more-brought pool known h c m.u (originals m.rest) s.tree leaves a.small k i.0 rest)

-- commits of some blobs are commits of more
pub given-more : (pool more : List Bytes) → ((t : Flat) → has_leaves pool t ≡ true → has_leaves more t ≡ true) → (cs : List Snapshot) → Each (IsGivenCommit pool) cs → Each (IsGivenCommit more) cs
given-more pool more up [] g = tt
given-more pool more up (c ∷ cs) g = (
  record {
    tree = g.0.tree;
    leaves = up c.tree g.0.leaves;
    author = g.0.author;
    committer = g.0.committer;
    author_bytes = g.0.author_bytes;
    committer_bytes = g.0.committer_bytes;
    message = g.0.message;
    short = g.0.short;
  },
  given-more pool more up cs g.1,
)

pub brought-law : BroughtLaw
brought-law f g h bs known cs ps w a k l i e =
    let t : Flat = tree_at g h in
    let seen : Flat = shown f t in
    let old : List Bytes = bs ++ blobs_in seen in
    let pool : List Bytes = bs ++ known in
    let up : (x : Flat) → has_leaves old x ≡ true → has_leaves pool x ≡ true =
    λ x. leaves-more old pool (pool-more bs (blobs_in seen) known (λ b. in-blobs known b seen (shown-leaves known f t l))) x in
    let here : has_leaves pool t ≡ true = leaves-more known pool (λ b. any-back (same_bytes b) bs known) t l in
    brought-from f w pool cs 1 h t seen ps g (tree-there g h a) here (among-has g h ∙ k) (given-more old pool up cs i) e
