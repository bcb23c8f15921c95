-- What a tree's body lists: an entry for each first component, in Git's order.
use Rattle.std.proofs.Common.{◌≡◌, ℕ, zero, suc, Bool, true, false, cond, ◌&&◌, ◌||◌, ◌⊎◌, inl, inr, T, List, [], ◌∷◌, ◌++◌, map, refl, sym, ap, subst, ◌∙◌, Option, Some, None, arith, true≢false}
use Rattle.std.specs.Prelude.{Contains}
use Rattle.std.specs.List.{list_all, flat_map}
use Rattle.std.specs.declared.cmp.Ordering.{Ordering}
use Rattle.std.specs.declared.cmp.Ordering.TheVariants.{Less, Equal, Greater}
use Rattle.std.specs.Ordering.{nat_cmp, ordering_then, is_lt}
use Rattle.std.specs.Cmp.{tied_itself}
use Rattle.std.specs.Cmp.Lexicographic.{slice_cmp, nat_list_cmp_total, bytes_decides}
use Rattle.std.specs.FinMap.{is_sorted, slice_cmp-IsAntisymmetric, nat_cmp-IsAntisymmetric}
use Rattle.std.specs.FinMap.Entries.{below_all}
use Rattle.std.proofs.lemmas.List.Elements.{Contains-append_left, Contains-append_right, Contains-append_cases}
use Rattle.git_objects.specs.Paths.{Bytes, Path, same_bytes, is_component, is_path, key, path_cmp}
use Rattle.git_objects.specs.Trees.{Leaf, FileLeaf, ExecLeaf, LinkLeaf, ModuleLeaf, is_leaf, Flat, at, IsTree, under}
use Rattle.git_objects.specs.Names.{name, line, leaf_mode, leaf_name, line_of, add_top, tops, body_within, depth}
use Rattle.git_objects.specs.Entries.{is_dir, dir_key, git_cmp, Before, entry_component, entry_dir, AreEntries, body_text}
use Rattle.git_objects.specs.Bodies.{is_name}
use Rattle.git_objects.specs.TreeLaws.{Begins, IsListed}
use Rattle.git_objects.specs.declared.entry.Entry.{Entry}
use Rattle.git_objects.specs.declared.kind.Kind.TheVariants.{Blob, Tree}
use Rattle.git_objects.specs.declared.mode.Mode.{Mode}
use Rattle.git_objects.specs.declared.mode.Mode.TheVariants.{Dir}
use Rattle.git_objects.proofs.Basics.{and_both, first, second, same_bytes-self, no_slash}
use Rattle.git_objects.specs.Lists.{Each}
use Rattle.git_objects.proofs.Order.{front}
use Rattle.git_objects.proofs.Pointwise.{from-T, all_at, leaf_at, at_apart, each_at}
use Rattle.git_objects.proofs.Bodies.{body-within}
use Rattle.git_objects.proofs.Levels.{entry_at}
use Rattle.git_objects.proofs.Digests.{name-is_name}

abbrev pub mode_at : Option Leaf → Mode
mode_at None = Dir
mode_at (Some x) = leaf_mode x

-- the leaf's name, or else the tree's
abbrev pub name_at : Option Leaf → Bytes → Bytes
name_at None n = n
name_at (Some x) n = leaf_name x

-- the entry of a component, where what lies below it has at most n components
abbrev pub entry_of : ℕ → Flat → Bytes → Entry
entry_of n t c = record { mode = mode_at (at t (c ∷ [])); component = c; name = record { 0 = name_at (at t (c ∷ [])) (name Tree (body_within n (under t (c ∷ [])))) } }

-- ---- first components

only : {A : Type 0} (c d : A) → Contains (c ∷ []) d → c ≡ d
only c d (zero, h, e) = e
only c d (suc k, h, e) = absurd (omega arith)

none : {A : Type 0} (d : A) → Contains [] d → ⊥
none d (k, h, e) = omega arith

head_top : (c : Bytes) (ds : List Bytes) → (es : List Bytes) × (add_top c ds ≡ c ∷ es)
head_top c [] = ([], refl)
head_top c (d ∷ ds) = by (same_bytes c d) refl
  where
    by : (b : Bool) → same_bytes c d ≡ b → (es : List Bytes) × (cond b (d ∷ ds) (c ∷ d ∷ ds) ≡ c ∷ es)
    by true e = (ds, ap (λ f. f ∷ ds) (sym ((bytes_decides c d).0 e)))
    by false e = (d ∷ ds, refl)

in_top : (c : Bytes) (ds : List Bytes) (f : Bytes) → Contains (add_top c ds) f → (c ≡ f) ⊎ Contains ds f
in_top c [] f h = inl (only c f h)
in_top c (d ∷ ds) f h =
    elim (same_bytes c d) as (λ b. Contains (cond b (d ∷ ds) (c ∷ d ∷ ds)) f → (c ≡ f) ⊎ Contains (d ∷ ds) f) [
      | true ↦ λ g. inr g
      | false ↦ λ g. elim (Contains-append_cases (c ∷ []) (d ∷ ds) f g) [ inl k ↦ inl (only c f k) | inr k ↦ inr k ]
    ] h

new_top : (c : Bytes) (ds : List Bytes) → Contains (add_top c ds) c
new_top c ds = let p = head_top c ds in subst (λ (es : List Bytes). Contains es c) (sym p.1) (Contains-append_left (c ∷ []) p.0 c (0, omega arith, refl))

old_top : (c : Bytes) (ds : List Bytes) (f : Bytes) → Contains ds f → Contains (add_top c ds) f
old_top c [] f h = absurd (none f h)
old_top c (d ∷ ds) f h = elim (same_bytes c d) as (λ b. Contains (cond b (d ∷ ds) (c ∷ d ∷ ds)) f) [ true ↦ h | false ↦ Contains-append_right (c ∷ []) (d ∷ ds) f h ]

later : (e : Path × Leaf) (t : Flat) (c : Bytes) → Begins t c → Begins (e ∷ t) c
later e t c (q, x, h) = (q, x, Contains-append_right (e ∷ []) t (c ∷ q, x) h)

begins_from : (t : Flat) (c : Bytes) → Contains (tops t) c → Begins t c
begins_from [] c h = absurd (none c h)
begins_from (([], x) ∷ t) c h = later ([], x) t c (begins_from t c h)
begins_from ((d ∷ q, x) ∷ t) c h = elim (in_top d (tops t) c h) [
  | inl e ↦ (q, x, (0, omega arith, λ i. (e i ∷ q, x)))
  | inr g ↦ later (d ∷ q, x) t c (begins_from t c g)
]

top_from : (t : Flat) (c : Bytes) (q : Path) (x : Leaf) → Contains t (c ∷ q, x) → Contains (tops t) c
top_from [] c q x h = absurd (none (c ∷ q, x) h)
top_from (([], y) ∷ t) c q x h = elim (Contains-append_cases (([], y) ∷ []) t (c ∷ q, x) h) [
  | inl g ↦ let e : [] ≡ c ∷ q = ap (λ (d : Path × Leaf). d.0) (only ([], y) (c ∷ q, x) g) in cc
  | inr g ↦ top_from t c q x g
]
top_from ((d ∷ r, y) ∷ t) c q x h = elim (Contains-append_cases ((d ∷ r, y) ∷ []) t (c ∷ q, x) h) [
  | inl g ↦ let e : d ∷ r ≡ c ∷ q = ap (λ (d : Path × Leaf). d.0) (only (d ∷ r, y) (c ∷ q, x) g) in
      let same : d ≡ c = cc in
      subst (λ f. Contains (add_top d (tops t)) f) same (new_top d (tops t))
  | inr g ↦ old_top d (tops t) c (top_from t c q x g)
]

-- ---- Git's order

first_less : (o p : Ordering) → (o ≡ Equal → ⊥) → T (is_lt (ordering_then o p)) → o ≡ Less
first_less Less p ne h = refl
first_less Equal p ne h = absurd (ne refl)
first_less Greater p ne h = absurd h

pub same_key : (c d : Bytes) (s t : Bool) → is_component c ≡ true → is_component d ≡ true → dir_key c s ≡ dir_key d t → c ≡ d
same_key c d false false h g e = e
same_key c d false true h g e = absurd (no_slash c d h e)
same_key c d true false h g e = absurd (no_slash d c g (sym e))
same_key c d true true h g e = front c d e

not_dir : (x : Leaf) → is_dir (leaf_mode x) ≡ false
not_dir (FileLeaf b) = refl
not_dir (ExecLeaf b) = refl
not_dir (LinkLeaf b) = refl
not_dir (ModuleLeaf n) = refl

not_less : (k : Bytes) → slice_cmp nat_cmp k k ≡ Less → ⊥
not_less k e = less_equal (sym e ∙ tied_itself nat_list_cmp_total k)
  where
    less_equal : Less ≡ Equal → ⊥
    less_equal h = cc

module _ (n : ℕ) (t : Flat) (h : IsTree t) where
  abbrev item : Bytes → Entry
  item c = entry_of n t c

  abbrev dir_at : Bytes → Bool
  dir_at c = is_dir (mode_at (at t (c ∷ [])))

  component : (c : Bytes) (q : Path) (x : Leaf) → at t (c ∷ q) ≡ Some x → is_component c ≡ true
  component c q x e = from-T (is_component c) (first (is_component c) _ (all_at is_path t (c ∷ q) x h.paths e))

  -- a component's key is the same in the paths that begin with it and in its entry
  own_key : (c : Bytes) (q : Path) (x : Leaf) → at t (c ∷ q) ≡ Some x → key c q ≡ dir_key c (dir_at c)
  own_key c [] x e = sym (ap (λ o. dir_key c (is_dir (mode_at o))) e ∙ ap (dir_key c) (not_dir x))
  own_key c (f ∷ q) x e = by (at t (c ∷ [])) refl
    where
      longer : c ∷ [] ≡ c ∷ f ∷ q → ⊥
      longer k = cc

      by : (o : Option Leaf) → at t (c ∷ []) ≡ o → c ++ 47 ∷ [] ≡ dir_key c (is_dir (mode_at o))
      by None g = refl
      by (Some y) g = absurd (longer (at_apart t h.apart (c ∷ []) (c ∷ f ∷ q) y x g e (ap (λ b. (b && true) || (same_bytes c c && false)) (same_bytes-self c))))

  entry_less : (c : Bytes) (q : Path) (x : Leaf) (d : Bytes) (r : Path) (y : Leaf) → at t (c ∷ q) ≡ Some x → at t (d ∷ r) ≡ Some y → same_bytes c d ≡ false → T (is_lt (path_cmp (c ∷ q) (d ∷ r))) →
      git_cmp entry_component entry_dir (item c) (item d) ≡ Less
  entry_less c q x d r y e g ne lt =
      first_less (slice_cmp nat_cmp (dir_key c (dir_at c)) (dir_key d (dir_at d))) (path_cmp q r)
      (λ k. true≢false (sym ((bytes_decides c d).1 (same_key c d (dir_at c) (dir_at d) (component c q x e) (component d r y g) (slice_cmp-IsAntisymmetric nat_cmp-IsAntisymmetric _ _ k))) ∙ ne))
      (subst T (λ i. is_lt (ordering_then (slice_cmp nat_cmp (own_key c q x e i) (own_key d r y g i)) (path_cmp q r))) lt)

  before_later : (c d : Bytes) (ds : List Bytes) → git_cmp entry_component entry_dir (item c) (item d) ≡ Less → Before entry_component entry_dir (item d) (map item ds) → Before entry_component entry_dir (item c) (map item ds)
  before_later c d [] e k = tt
  before_later c d (f ∷ ds) e k =
      let less = nat_list_cmp_total.trans (dir_key c (dir_at c)) (dir_key d (dir_at d)) (dir_key f (dir_at f)) e k.0 in
      (less, other less, before_later c d ds e k.2)
    where
      other : slice_cmp nat_cmp (dir_key c (dir_at c)) (dir_key f (dir_at f)) ≡ Less → same_bytes c f ≡ false
      other less = elim (same_bytes c f) as (λ b. same_bytes c f ≡ b → b ≡ false) [
        | true ↦ λ w. absurd (not_less (dir_key c (dir_at c)) (subst (λ g. slice_cmp nat_cmp (dir_key c (dir_at c)) (dir_key g (dir_at g)) ≡ Less) (sym ((bytes_decides c f).0 w)) less))
        | false ↦ λ w. refl
      ] refl

  listing : (s : Flat) → T (is_sorted path_cmp s) → Each (λ e. at t e.0 ≡ Some e.1) s → AreEntries (map item (tops s))
  listing [] z g = tt
  listing (([], x) ∷ s) z g = absurd (all_at is_path t [] x h.paths g.0)
  listing ((c ∷ q, x) ∷ []) z g = (component c q x g.0, tt, tt)
  listing ((c ∷ q, x) ∷ ([], y) ∷ s) z g = absurd (all_at is_path t [] y h.paths g.1.0)
  listing ((c ∷ q, x) ∷ (d ∷ r, y) ∷ s) z g =
      let rest = listing ((d ∷ r, y) ∷ s) (second _ _ z) g.1 in
      let p = head_top d (tops s) in
      subst (λ (ds : List Bytes). AreEntries (map item (add_top c ds))) (sym p.1)
      (by p.0 (same_bytes c d) refl (subst (λ (ds : List Bytes). AreEntries (map item ds)) p.1 rest))
    where
      by : (ds : List Bytes) (b : Bool) → same_bytes c d ≡ b → AreEntries (map item (d ∷ ds)) → AreEntries (map item (cond b (d ∷ ds) (c ∷ d ∷ ds)))
      by ds true e k = k
      by ds false e k =
          let less = entry_less c q x d r y g.0 g.1.0 e (first (is_lt (path_cmp (c ∷ q) (d ∷ r))) _ (first (below_all path_cmp (c ∷ q) ((d ∷ r, y) ∷ s)) _ z)) in
          (component c q x g.0, (less, e, before_later c d ds less k.1), k)

  pub entries-listed : AreEntries (map item (tops t))
  entries-listed = listing t h.sorted (each_at t h.sorted)

  -- ---- names

  leaf_named : (x : Leaf) → T (is_leaf x) → is_name (leaf_name x) ≡ true
  leaf_named (FileLeaf b) k = name-is_name Blob b
  leaf_named (ExecLeaf b) k = name-is_name Blob b
  leaf_named (LinkLeaf b) k = name-is_name Blob b
  leaf_named (ModuleLeaf m) k = from-T (is_name m) k

  named : (c : Bytes) (b : Bytes) (o : Option Leaf) → at t (c ∷ []) ≡ o → is_name (name_at o (name Tree b)) ≡ true
  named c b None e = name-is_name Tree b
  named c b (Some x) e = leaf_named x (leaf_at is_leaf t (c ∷ []) x h.leaves e)

  entries-named : (ds : List Bytes) → list_all (λ (e : Entry). is_name e.name.0) (map item ds) ≡ true
  entries-named [] = refl
  entries-named (c ∷ ds) = and_both (named c (body_within n (under t (c ∷ []))) (at t (c ∷ [])) refl) (entries-named ds)

  -- ---- the body

  line_spelled : (c : Bytes) (b : Bytes) (o : Option Leaf) → line (mode_at o) c (name_at o b) ≡ line_of c o b
  line_spelled c b None = refl
  line_spelled c b (Some x) = refl

  spelled : (ds : List Bytes) → body_text (map item ds) ≡ flat_map (entry_at n t) ds
  spelled [] = refl
  spelled (c ∷ ds) = λ i. line_spelled c (name Tree (body_within n (under t (c ∷ [])))) (at t (c ∷ [])) i ++ spelled ds i

  components_of : (ds : List Bytes) → map entry_component (map item ds) ≡ ds
  components_of [] = refl
  components_of (c ∷ ds) = ap (λ (es : List Bytes). c ∷ es) (components_of ds)

-- an entry for each first component
abbrev pub entries : Flat → List Entry
entries t = map (entry_of (depth t) t) (tops t)

pub listed : (t : Flat) → IsTree t → IsListed t (entries t)
listed t h = record {
  body = record {
    entries = entries-listed (depth t) t h;
    names = entries-named (depth t) t h (tops t);
    spelled = spelled (depth t) t h (tops t) ∙ body-within (suc (depth t)) t (omega arith);
  };
  components = components_of (depth t) t h (tops t);
  firsts = λ c. (begins_from t c, λ (q, x, g). top_from t c q x g);
}
