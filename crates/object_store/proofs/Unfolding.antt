-- The flat map of a stored name is a tree, its name is that name, and it stays when the store grows.
use Rattle.std.proofs.Common.{◌≡◌, ℕ, zero, suc, ◌≤◌, Bool, true, false, cond, ◌||◌, T, List, [], ◌∷◌, ◌++◌, map, Some, refl, sym, ap, subst, ◌∙◌, arith, true≢false, le_refl}
use Rattle.std.specs.Option.{is_none, unwrap_or}
use Rattle.std.specs.List.{flat_map, list_all}
use Rattle.std.specs.Cmp.{first_so, second_so}
use Rattle.std.proofs.lemmas.Bool.{not-true}
use Rattle.git_objects.specs.Paths.{Bytes, is_nil}
use Rattle.git_objects.specs.Trees.{Flat, IsTree, Node, LeafNode, TreeNode, rests}
use Rattle.git_objects.specs.Names.{name, line, body_within, body, tree_name, depth}
use Rattle.git_objects.specs.Entries.{IsListing, Before, AreEntries, body_text, entry_component, is_dir}
use Rattle.git_objects.specs.Bodies.{tree_entries, is_name}
use Rattle.git_objects.specs.declared.entry.Entry.{Entry}
use Rattle.git_objects.specs.declared.kind.Kind.TheVariants.{Blob, Tree}
use Rattle.git_objects.specs.declared.mode.Mode.{Mode}
use Rattle.git_objects.specs.declared.mode.Mode.TheVariants.{File, Exec, Link, Module, Dir}
use Rattle.git_objects.specs.Lists.{Each}
use Rattle.git_objects.proofs.TreeReading.{tree_law}
use Rattle.object_store.specs.Objects.{Object, object_name, is_named, body_of, has, has_name, has_child, missing_entry, is_body, IsStore}
use Rattle.object_store.specs.Unfolding.{node_of, below, joined, flat}
use Rattle.object_store.specs.Laws.{UnfoldingLaw, GrowingLaw}
use Rattle.object_store.proofs.Listings.{Item, item_component, item_dir, is_tree, join, IsFullNode, AreItems, join-tree}
use Rattle.object_store.proofs.Bodies.{item_line, body_join}
use Rattle.object_store.proofs.Held.{named_kind, body_named, body_bytes, tree_held, not_named, has-above}

abbrev pub IsFull : Flat → Type 0
IsFull [] = ⊥
IsFull (e ∷ t) = Unit

-- what a name's flat map is to be
pub record IsFlat (t : Flat) (b : Bytes) : Type 0 where
  pub tree : IsTree t
  pub full : is_nil b ≡ false → IsFull t
  pub bodied : (k : ℕ) → depth t ≤ k → body_within k t ≡ b

deeper : (c : Bytes) (t s : Flat) (k : ℕ) → depth (below c t ++ s) ≤ suc k → (depth t ≤ k) × (depth s ≤ suc k)
deeper c [] s k h = (omega arith, h)
deeper c (e ∷ t) s k h = let r = deeper c t s k (omega arith) in (omega arith, r.1)

full_tree : (t : Flat) → IsTree t → IsFull t → IsFullNode (TreeNode t)
full_tree [] t u = u
full_tree (e ∷ es) t u = t

-- ---- the items of a body

module _ (blob : Bytes → Bytes) (tree : Bytes → Flat) where
  abbrev pub item_of : Entry → Item
  item_of e = (e.component, node_of blob tree e.mode e.name.0)

  pub joined-join : (es : List Entry) → joined blob tree es ≡ join (map item_of es)
  joined-join [] = refl
  joined-join (e ∷ es) = ap (λ (t : Flat). below e.component (rests (node_of blob tree e.mode e.name.0)) ++ t) (joined-join es)

  dir-of : (m : Mode) (n : Bytes) → is_tree (node_of blob tree m n) ≡ is_dir m
  dir-of File n = refl
  dir-of Exec n = refl
  dir-of Link n = refl
  dir-of Module n = refl
  dir-of Dir n = refl

  abbrev mapped_dir : Entry → Bool
  mapped_dir e = is_tree (node_of blob tree e.mode e.name.0)

  Before-items : (a : Entry) (es : List Entry) → Before entry_component mapped_dir a es → Before item_component item_dir (item_of a) (map item_of es)
  Before-items a [] h = tt
  Before-items a (e ∷ es) h = (h.0, h.1, Before-items a es h.2)

  listing-items : (es : List Entry) → IsListing entry_component mapped_dir es → IsListing item_component item_dir (map item_of es)
  listing-items [] h = tt
  listing-items (e ∷ es) h = (h.0, Before-items e es h.1, listing-items es h.2)

  pub items-listing : (es : List Entry) → AreEntries es → IsListing item_component item_dir (map item_of es)
  items-listing es h = listing-items es (subst (λ (d : Entry → Bool). IsListing entry_component d es) (sym (λ i e. dir-of e.mode e.name.0 i)) h)

items_from : (is : List Item) → IsListing item_component item_dir is → Each (λ i. IsFullNode i.1) is → AreItems is
items_from [] h g = tt
items_from (i ∷ is) h g = (h.0, g.0, h.1, items_from is h.2 g.1)

-- ---- entries whose children are held

pub record IsHeld (S : List Object) (e : Entry) : Type 0 where
  pub child : has_child S e.mode e.name.0 ≡ true
  pub name : is_name e.name.0 ≡ true

abbrev pub AreHeld : List Object → List Entry → Type 0
AreHeld S es = Each (IsHeld S) es

pub entries_held : (S : List Object) (es : List Entry) → is_none (missing_entry S es) ≡ true → list_all (λ e. is_name e.name.0) es ≡ true → AreHeld S es
entries_held S [] h g = tt
entries_held S (e ∷ es) h g =
    elim (has_child S e.mode e.name.0) as (λ b. has_child S e.mode e.name.0 ≡ b → is_none (cond b (missing_entry S es) (Some e.name.0)) ≡ true → AreHeld S (e ∷ es)) [
      | true ↦ λ k l. (record { child = k; name = first_so _ _ g }, entries_held S es l (second_so _ _ g))
      | false ↦ λ k l. absurd (true≢false (sym l))
    ] refl h

valid : (b : Bool) → b ≡ true → T b
valid b h = subst T (sym h) tt

abbrev pub node : List Object → Mode → Bytes → Node
node S m n = node_of (body_of Blob S) (flat S) m n

abbrev pub items : List Object → List Entry → List Item
items S es = map (item_of (body_of Blob S) (flat S)) es

module _ (S : List Object) (s : IsStore S) (is : (n : Bytes) → has Tree S n ≡ true → IsFlat (flat S n) (body_of Tree S n)) where
  pub node_good : (m : Mode) (n : Bytes) → has_child S m n ≡ true → is_name n ≡ true → IsFullNode (node S m n)
  node_good File n h g = valid _ (body_bytes Blob S n s h)
  node_good Exec n h g = valid _ (body_bytes Blob S n s h)
  node_good Link n h g = valid _ (body_bytes Blob S n s h)
  node_good Module n h g = valid _ g
  node_good Dir n h g = let f = is n (first_so _ _ h) in full_tree (flat S n) f.tree (f.full (not-true _ (second_so _ _ h)))

  nodes_good : (es : List Entry) → AreHeld S es → Each (λ i. IsFullNode i.1) (items S es)
  nodes_good [] h = tt
  nodes_good (e ∷ es) h = (node_good e.mode e.name.0 h.0.child h.0.name, nodes_good es h.1)

  pub items_good : (es : List Entry) → AreEntries es → AreHeld S es → AreItems (items S es)
  items_good es g h = items_from (items S es) (items-listing (body_of Blob S) (flat S) es g) (nodes_good es h)

  line_good : (k : ℕ) (c : Bytes) (m : Mode) (n : Bytes) → has_child S m n ≡ true → depth (rests (node S m n)) ≤ k →
      item_line (λ t. name Tree (body_within k t)) (c, node S m n) ≡ line m c n
  line_good k c File n h d = ap (line File c) (body_named Blob S n h)
  line_good k c Exec n h d = ap (line Exec c) (body_named Blob S n h)
  line_good k c Link n h d = ap (line Link c) (body_named Blob S n h)
  line_good k c Module n h d = refl
  line_good k c Dir n h d = let g = first_so _ _ h in ap (line Dir c) (ap (name Tree) ((is n g).bodied k d) ∙ body_named Tree S n g)

  lines_good : (k : ℕ) (es : List Entry) → AreHeld S es → depth (join (items S es)) ≤ suc k → flat_map (item_line (λ t. name Tree (body_within k t))) (items S es) ≡ body_text es
  lines_good k [] h d = refl
  lines_good k (e ∷ es) h d =
      let r = deeper e.component (rests (node S e.mode e.name.0)) (join (items S es)) k d in
      λ i. line_good k e.component e.mode e.name.0 h.0.child r.0 i ++ lines_good k es h.1 r.1 i

  full_join : (c : Bytes) (m : Node) (t : Flat) → IsFullNode m → IsFull (below c (rests m) ++ t)
  full_join c (LeafNode x) t h = tt
  full_join c (TreeNode []) t h = absurd h
  full_join c (TreeNode (e ∷ es)) t h = tt

  no_depth : (c : Bytes) (m : Node) (t : Flat) → IsFullNode m → depth (below c (rests m) ++ t) ≤ 0 → ⊥
  no_depth c (LeafNode x) t h d = omega arith
  no_depth c (TreeNode []) t h d = h
  no_depth c (TreeNode (e ∷ es)) t h d = omega arith

  body_good : (es : List Entry) (k : ℕ) → AreEntries es → AreHeld S es → depth (join (items S es)) ≤ k → body_within k (join (items S es)) ≡ body_text es
  body_good [] zero g h d = refl
  body_good (e ∷ es) zero g h d = absurd (no_depth e.component (node S e.mode e.name.0) _ (node_good e.mode e.name.0 h.0.child h.0.name) d)
  body_good es (suc k) g h d = body_join k (items S es) (items_good es g h) ∙ lines_good k es h d

  full_good : (es : List Entry) → AreHeld S es → is_nil (body_text es) ≡ false → IsFull (join (items S es))
  full_good [] h d = absurd (true≢false d)
  full_good (e ∷ es) h d = full_join e.component (node S e.mode e.name.0) (join (items S es)) (node_good e.mode e.name.0 h.0.child h.0.name)

  pub tree_good : (es : List Entry) → AreEntries es → AreHeld S es → IsFlat (joined (body_of Blob S) (flat S) es) (body_text es)
  tree_good es g h = subst (λ (t : Flat). IsFlat t (body_text es)) (sym (joined-join (body_of Blob S) (flat S) es))
      (record { tree = join-tree (items S es) (items_good es g h); full = full_good es h; bodied = λ k d. body_good es k g h d })

pub flat_good : (S : List Object) → IsStore S → (n : Bytes) → has Tree S n ≡ true → IsFlat (flat S n) (body_of Tree S n)
unfolding flat has body_of
flat_good [] s n h = absurd (true≢false (sym h))
flat_good (o ∷ older) s n h =
    elim (is_named Tree o n) as (λ t. is_named Tree o n ≡ t → (t || has Tree older n) ≡ true →
    IsFlat (cond t (joined (body_of Blob older) (flat older) (unwrap_or (tree_entries o.body) [])) (flat older n)) (cond t o.body (body_of Tree older n))) [
      | true ↦ λ e g.
          let b = tree_held older o.body (subst (λ k. is_body older k o.body ≡ true) (named_kind Tree o n e) s.0) in
          let r = (tree_law o.body b.entries b.bytes).0 b.read in
          subst (λ es. IsFlat (joined (body_of Blob older) (flat older) (unwrap_or es [])) o.body) (sym b.read)
          (subst (IsFlat (joined (body_of Blob older) (flat older) b.entries)) r.spelled (tree_good older s.2 (flat_good older s.2) b.entries r.entries (entries_held older b.entries b.held r.names)))
      | false ↦ λ e g. flat_good older s.2 n g
    ] refl h

flat-named : (S : List Object) → IsStore S → (n : Bytes) → has Tree S n ≡ true → tree_name (flat S n) ≡ n
unfolding body
flat-named S s n h = ap (name Tree) ((flat_good S s n h).bodied (depth (flat S n)) (le_refl _)) ∙ body_named Tree S n h

pub unfolding_law : UnfoldingLaw
unfolding_law S n s h = record { tree = (flat_good S s n h).tree; named = flat-named S s n h }

-- ---- growing

flat-newer : (o : Object) (S : List Object) (n : Bytes) → has_name S (object_name o) ≡ false → has Tree S n ≡ true → flat (o ∷ S) n ≡ flat S n
unfolding flat
flat-newer o S n f h = ap (λ b. cond b (joined (body_of Blob S) (flat S) (unwrap_or (tree_entries o.body) [])) (flat S n)) (not_named Tree o S n f h)

pub growing_law : GrowingLaw
growing_law [] S n s h = refl
growing_law (o ∷ newer) S n s h = flat-newer o (newer ++ S) n s.1 (has-above newer S Tree n h) ∙ growing_law newer S n s.2 h
