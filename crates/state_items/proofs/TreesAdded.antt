-- The objects of a tree come one after another, each behind its children, where no two objects have one name.
use Rattle.std.proofs.Common.{◌≡◌, ℕ, zero, suc, ◌≤◌, Bool, true, false, cond, not, ◌&&◌, ◌||◌, T, List, [], ◌∷◌, ◌++◌, map, Option, Some, None, refl, sym, ap, ◌∙◌, true≢false, arith}
use Rattle.std.specs.Cmp.{first_so, second_so}
use Rattle.std.specs.Cmp.Lexicographic.{bytes_decides}
use Rattle.std.specs.List.{flat_map, list_all}
use Rattle.std.specs.Option.{is_none, option_map_or}
use Rattle.std.proofs.lemmas.Bool.{or_right}
use Rattle.git_objects.specs.Paths.{Bytes, Path, is_bytes, is_component, is_nil, same_bytes}
use Rattle.git_objects.specs.Trees.{Leaf, FileLeaf, ExecLeaf, LinkLeaf, ModuleLeaf, Flat, IsTree, at, is_leaf, under}
use Rattle.git_objects.specs.Names.{body, body_within, depth, line, mode_text, name, tops, tree_name}
use Rattle.git_objects.specs.Entries.{AreEntries, body_text, entry_line}
use Rattle.git_objects.specs.Bodies.{is_name}
use Rattle.git_objects.specs.declared.entry.Entry.{Entry}
use Rattle.git_objects.specs.declared.kind.Kind.{Kind}
use Rattle.git_objects.specs.declared.kind.Kind.TheVariants.{Blob, Tree, Commit}
use Rattle.git_objects.specs.declared.mode.Mode.{Mode}
use Rattle.git_objects.specs.declared.mode.Mode.TheVariants.{File, Exec, Link, Module, Dir}
use Rattle.git_objects.specs.Lists.{Each}
use Rattle.git_objects.proofs.Basics.{and_both}
use Rattle.git_objects.proofs.Bodies.{body-within, depth-under}
use Rattle.git_objects.proofs.Pointwise.{from-T, leaf_at}
use Rattle.git_objects.proofs.Tops.{entries, entry_of, mode_at, name_at}
use Rattle.git_objects.proofs.Tops as tops_of
use Rattle.git_objects.proofs.TreeReading.{spelled_law}
use Rattle.git_objects.proofs.Under.{at-under, under-tree}
use Rattle.object_store.specs.Objects.{Object, IsStore, body_of, has, has_child, has_name, is_body, missing_entry, object_name, same_kind}
use Rattle.state_items.specs.Growing.{grown, with_one}
use Rattle.state_items.proofs.Growing.{grown-all, AreKnown}
use Rattle.object_store.specs.TreeObjects.{leaf_objects, objects_at, objects_within}
use Rattle.state_items.proofs.TreesHeld.{IsIn, among, begins, each-back, each-front, each-pick, each-top, no-tops, parts, top-at, tree_object}

-- ---- objects that come one after another

-- each is a body whose children are held when it comes
abbrev pub AreAdded : List Object → List Object → Type 0
AreAdded H [] = Unit
AreAdded H (o ∷ os) = (is_body H o.kind o.body ≡ true) × AreAdded (with_one H o) os

pub added-both : (H a b : List Object) → AreAdded H a → AreAdded (grown H a) b → AreAdded H (a ++ b)
added-both H [] b h g = g
added-both H (o ∷ a) b h g = (h.0, added-both (with_one H o) a b h.1 g)

store-one : (H : List Object) (o : Object) → IsStore H → is_body H o.kind o.body ≡ true → IsStore (with_one H o)
store-one H o s b =
    elim (has_name H (object_name o)) as (λ t. has_name H (object_name o) ≡ t → IsStore (cond t H (o ∷ H))) [
      | true ↦ λ e. s
      | false ↦ λ e. (b, e, s)
    ] refl

pub store-added : (H os : List Object) → IsStore H → AreAdded H os → IsStore (grown H os)
store-added H [] s h = s
store-added H (o ∷ os) s h = store-added (with_one H o) os (store-one H o s h.0) h.1

-- ---- bodies of trees

pub bytes-both : (a b : Bytes) → is_bytes a ≡ true → is_bytes b ≡ true → is_bytes (a ++ b) ≡ true
bytes-both [] b h g = g
bytes-both (x ∷ a) b h g = and_both (first_so _ _ h) (bytes-both a b (second_so _ _ h) g)

mode-bytes : (m : Mode) → is_bytes (mode_text m) ≡ true
mode-bytes File = refl
mode-bytes Exec = refl
mode-bytes Link = refl
mode-bytes Module = refl
mode-bytes Dir = refl

line-bytes : (m : Mode) (c n : Bytes) → is_component c ≡ true → is_name n ≡ true → is_bytes (line m c n) ≡ true
unfolding line
line-bytes m c n h g =
    bytes-both (mode_text m ++ (32 ∷ c)) (0 ∷ n) (bytes-both (mode_text m) (32 ∷ c) (mode-bytes m) (second_so _ _ h)) (first_so _ _ g)

text-bytes : (es : List Entry) → AreEntries es → list_all (λ e. is_name e.name.0) es ≡ true → is_bytes (body_text es) ≡ true
text-bytes [] h g = refl
text-bytes (e ∷ es) h g = bytes-both (entry_line e) (body_text es) (line-bytes e.mode e.component e.name.0 h.0 (first_so _ _ g)) (text-bytes es h.2 (second_so _ _ g))

line-some : (m : Mode) (c n r : Bytes) → is_nil (line m c n ++ r) ≡ false
unfolding line
line-some File c n r = refl
line-some Exec c n r = refl
line-some Link c n r = refl
line-some Module c n r = refl
line-some Dir c n r = refl

text-some : (k : ℕ) (t : Flat) (d : Bytes) (ds : List Bytes) → among d ds ≡ true → is_nil (body_text (map (entry_of k t) ds)) ≡ false
text-some k t d [] e = absurd (true≢false (sym e))
text-some k t d (c ∷ ds) e = let x = entry_of k t c in line-some x.mode x.component x.name.0 (body_text (map (entry_of k t) ds))

-- a tree that has a path has a body
body-some : (t : Flat) (d : Bytes) → IsTree t → among d (tops t) ≡ true → is_nil (body t) ≡ false
body-some t d h e = ap is_nil (sym (tops_of.listed t h).body.spelled) ∙ text-some (depth t) t d (tops t) e

-- below a first component without a leaf there is a tree that has a path
below-some : (t : Flat) (c : Bytes) → IsTree t → among c (tops t) ≡ true → at t (c ∷ []) ≡ None → is_nil (body (under t (c ∷ []))) ≡ false
below-some t c h e none = let b = begins t c h e in by b.rest b.leaf b.there
  where
    by : (q : Path) (x : Leaf) → at t (c ∷ q) ≡ Some x → is_nil (body (under t (c ∷ []))) ≡ false
    by [] x g = let no : None ≡ Some x = sym none ∙ g in cc
    by (d ∷ q) x g = body-some (under t (c ∷ [])) d (under-tree t (c ∷ []) h) (top-at (under t (c ∷ [])) d q x (at-under t (c ∷ []) d q ∙ g))

module _ (G : List Object) where
  leaf-child : (x : Leaf) (u : Flat) (os : List Object) → Each (IsIn G) (objects_at (Some x) os) → has_child G (mode_at (Some x)) (name_at (Some x) (tree_name u)) ≡ true
  leaf-child (FileLeaf b) u os h = h.0.held
  leaf-child (ExecLeaf b) u os h = h.0.held
  leaf-child (LinkLeaf b) u os h = h.0.held
  leaf-child (ModuleLeaf n) u os h = refl

  child-has : (k : ℕ) (t : Flat) (c : Bytes) → IsTree t → among c (tops t) ≡ true → (o : Option Leaf) → at t (c ∷ []) ≡ o → Each (IsIn G) (objects_at o (objects_within (suc k) (under t (c ∷ [])))) →
      has_child G (mode_at o) (name_at o (tree_name (under t (c ∷ [])))) ≡ true
  child-has k t c h e (Some x) g i = leaf-child x (under t (c ∷ [])) (objects_within (suc k) (under t (c ∷ []))) i
  child-has k t c h e None g i =
      let u = under t (c ∷ []) in
      let last : IsIn G (tree_object u) = (each-back (IsIn G) (flat_map (parts k u) (tops u)) (tree_object u ∷ []) i).0 in
      and_both last.held (ap (λ b. not (is_nil b)) last.body ∙ ap not (below-some t c h e g))

  none-missing : (n : ℕ) (t : Flat) (ds : List Bytes) → Each (λ c. has_child G (mode_at (at t (c ∷ []))) (name_at (at t (c ∷ [])) (name Tree (body_within n (under t (c ∷ []))))) ≡ true) ds →
      is_none (missing_entry G (map (entry_of n t) ds)) ≡ true
  none-missing n t [] h = refl
  none-missing n t (c ∷ ds) h =
      let x = entry_of n t c in
      ap (λ b. is_none (cond b (missing_entry G (map (entry_of n t) ds)) (Some x.name.0))) h.0 ∙ none-missing n t ds h.1

  each-child : (t : Flat) (ds : List Bytes) → Each (λ c. among c (tops t) ≡ true) ds →
      ((c : Bytes) → among c (tops t) ≡ true → has_child G (mode_at (at t (c ∷ []))) (name_at (at t (c ∷ [])) (tree_name (under t (c ∷ [])))) ≡ true) →
      Each (λ c. has_child G (mode_at (at t (c ∷ []))) (name_at (at t (c ∷ [])) (name Tree (body_within (depth t) (under t (c ∷ []))))) ≡ true) ds
  each-child t [] h f = tt
  each-child t (c ∷ ds) h f = (
    ap (λ (b : Bytes). has_child G (mode_at (at t (c ∷ []))) (name_at (at t (c ∷ [])) (name Tree b))) (body-within (depth t) (under t (c ∷ [])) (depth-under (depth t) t c (omega arith))) ∙ f c h.0,
    each-child t ds h.1 f,
  )

  tree-body : (t : Flat) → IsTree t → ((c : Bytes) → among c (tops t) ≡ true → has_child G (mode_at (at t (c ∷ []))) (name_at (at t (c ∷ [])) (tree_name (under t (c ∷ [])))) ≡ true) → is_body G Tree (body t) ≡ true
  tree-body t h f =
      let l = tops_of.listed t h in
      and_both (ap is_bytes (sym l.body.spelled) ∙ text-bytes (entries t) l.body.entries l.body.names)
      (ap (λ o. option_map_or (λ es. is_none (missing_entry G es)) o false) (spelled_law (body t) (entries t) l.body) ∙ none-missing (depth t) t (tops t) (each-child t (tops t) (each-top (tops t)) f))

-- ---- objects of which no two have one name

pub same_kind-self : (k : Kind) → same_kind k k ≡ true
same_kind-self Blob = refl
same_kind-self Tree = refl
same_kind-self Commit = refl

no-and : (b : Bool) → (b && false) ≡ false
no-and true = refl
no-and false = refl

module _ (hand : Object → Type 0) (apart : (o d : Object) → hand o → hand d → object_name o ≡ object_name d → o ≡ d) where
  held-one : (o : Object) (H : List Object) → hand o → Each hand H → has_name H (object_name o) ≡ true → (has o.kind H (object_name o) ≡ true) × (body_of o.kind H (object_name o) ≡ o.body)
  unfolding has has_name body_of
  held-one o [] p h e = absurd (true≢false (sym e))
  held-one o (x ∷ H) p h e =
      elim (same_bytes (object_name x) (object_name o)) as (λ b. same_bytes (object_name x) (object_name o) ≡ b → (b || has_name H (object_name o)) ≡ true →
      (((same_kind o.kind x.kind && b) || has o.kind H (object_name o)) ≡ true) × (cond (same_kind o.kind x.kind && b) x.body (body_of o.kind H (object_name o)) ≡ o.body)) [
        | true ↦ λ g k.
            let same : x ≡ o = apart x o h.0 p ((bytes_decides (object_name x) (object_name o)).0 g) in
            let kind : same_kind o.kind x.kind ≡ true = ap (λ (y : Object). same_kind o.kind y.kind) same ∙ same_kind-self o.kind in
            (ap (λ b. (b && true) || has o.kind H (object_name o)) kind, ap (λ b. cond (b && true) x.body (body_of o.kind H (object_name o))) kind ∙ ap (λ (y : Object). y.body) same)
        | false ↦ λ g k.
            let rest = held-one o H p h.1 k in
            (or_right (same_kind o.kind x.kind && false) (has o.kind H (object_name o)) rest.0, ap (λ b. cond b x.body (body_of o.kind H (object_name o))) (no-and (same_kind o.kind x.kind)) ∙ rest.1)
      ] refl e

  pub is-in : (o : Object) (H : List Object) → hand o → Each hand H → has_name H (object_name o) ≡ true → IsIn H o
  is-in o H p h e = let r = held-one o H p h e in record { held = r.0; body = r.1 }

  hand-one : (H : List Object) (o : Object) → hand o → Each hand H → Each hand (with_one H o)
  hand-one H o p h = elim (has_name H (object_name o)) as (λ b. Each hand (cond b H (o ∷ H))) [ true ↦ h | false ↦ (p, h) ]

  pub hand-all : (os H : List Object) → Each hand os → Each hand H → Each hand (grown H os)
  hand-all [] H p h = h
  hand-all (o ∷ os) H p h = hand-all os (with_one H o) p.1 (hand-one H o p.0 h)

  each-in : (os G : List Object) → Each hand os → Each hand G → AreKnown G os → Each (IsIn G) os
  each-in [] G p h k = tt
  each-in (o ∷ os) G p h k = (is-in o G p.0 h k.0, each-in os G p.1 h k.1)

  -- what was taken in is held under its names
  pub all-in : (os H : List Object) → Each hand os → Each hand H → Each (IsIn (grown H os)) os
  all-in os H p h = each-in os (grown H os) p (hand-all os H p h) (grown-all H os)

  -- ---- the objects of a tree

  leaf-added : (x : Leaf) (H : List Object) → T (is_leaf x) → AreAdded H (leaf_objects x)
  leaf-added (FileLeaf b) H h = (from-T (is_bytes b) h, tt)
  leaf-added (ExecLeaf b) H h = (from-T (is_bytes b) h, tt)
  leaf-added (LinkLeaf b) H h = (from-T (is_bytes b) h, tt)
  leaf-added (ModuleLeaf n) H h = tt

  parts-added : (f : Bytes → List Object) (all ds : List Bytes) → ((c : Bytes) (H : List Object) → among c all ≡ true → Each hand (f c) → Each hand H → AreAdded H (f c)) →
      Each (λ c. among c all ≡ true) ds → Each hand (flat_map f ds) → (H : List Object) → Each hand H → AreAdded H (flat_map f ds)
  parts-added f all [] one e p H h = tt
  parts-added f all (c ∷ ds) one e p H h =
      let front = each-front hand (f c) (flat_map f ds) p in
      added-both H (f c) (flat_map f ds) (one c H e.0 front h) (parts-added f all ds one e.1 (each-back hand (f c) (flat_map f ds) p) (grown H (f c)) (hand-all (f c) H front h))

  added-from : (k : ℕ) (t : Flat) → IsTree t → Each hand (objects_within (suc k) t) → (H : List Object) → Each hand H →
      ((c : Bytes) (H : List Object) → among c (tops t) ≡ true → Each hand (parts k t c) → Each hand H → AreAdded H (parts k t c)) →
      ((c : Bytes) (G : List Object) → among c (tops t) ≡ true → Each (IsIn G) (parts k t c) → has_child G (mode_at (at t (c ∷ []))) (name_at (at t (c ∷ [])) (tree_name (under t (c ∷ [])))) ≡ true) →
      AreAdded H (objects_within (suc k) t)
  added-from k t h p H g one child =
      let below = flat_map (parts k t) (tops t) in
      let front = each-front hand below (tree_object t ∷ []) p in
      let G = grown H below in
      let known : Each (IsIn G) below = all-in below H front g in
      added-both H below (tree_object t ∷ []) (parts-added (parts k t) (tops t) (tops t) one (each-top (tops t)) front H g)
      (tree-body G t h (λ c e. child c G e (each-pick (IsIn G) (parts k t) (tops t) c known e)), tt)

  pub tree-added : (k : ℕ) (t : Flat) → IsTree t → depth t ≤ k → Each hand (objects_within (suc k) t) → (H : List Object) → Each hand H → AreAdded H (objects_within (suc k) t)
  tree-added zero t h d p H g =
      let none : (c : Bytes) → among c (tops t) ≡ true → ⊥ = λ c e. true≢false (sym e ∙ ap (among c) (no-tops t d)) in
      added-from zero t h p H g (λ c R e q r. absurd (none c e)) (λ c G e i. absurd (none c e))
  tree-added (suc k) t h d p H g =
      added-from (suc k) t h p H g (λ c R e q r.
      part c (at t (c ∷ [])) R refl q r (λ w. tree-added k (under t (c ∷ [])) (under-tree t (c ∷ []) h) (depth-under k t c d) w R r))
      (λ c G e i. child-has G k t c h e (at t (c ∷ [])) refl i)
    where
      part : (c : Bytes) (o : Option Leaf) (R : List Object) → at t (c ∷ []) ≡ o → Each hand (objects_at o (objects_within (suc k) (under t (c ∷ [])))) → Each hand R →
          (Each hand (objects_within (suc k) (under t (c ∷ []))) → AreAdded R (objects_within (suc k) (under t (c ∷ [])))) → AreAdded R (objects_at o (objects_within (suc k) (under t (c ∷ []))))
      part c None R e q r f = f q
      part c (Some x) R e q r f = leaf-added x R (leaf_at is_leaf t (c ∷ []) x h.leaves e)
