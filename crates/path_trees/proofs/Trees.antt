-- What a stored tree lists, and what it lists is its map.
use Rattle.std.proofs.Common.{◌≡◌, true, false, cond, ◌&&◌, ◌||◌, List, [], ◌∷◌, ◌++◌, Option, Some, None, refl, sym, ap, subst, ◌∙◌, true≢false}
use Rattle.std.specs.Option.{is_none, is_some, unwrap_or, option_and_then}
use Rattle.std.specs.List.{list_all}
use Rattle.std.specs.Cmp.Lexicographic.{bytes_decides}
use Rattle.git_objects.specs.Paths.{Bytes, same_bytes, is_component}
use Rattle.git_objects.specs.Entries.{AreEntries, body_text}
use Rattle.git_objects.specs.Bodies.{is_name, tree_entries}
use Rattle.git_objects.specs.declared.entry.Entry.{Entry}
use Rattle.git_objects.specs.declared.kind.Kind.TheVariants.{Blob, Tree}
use Rattle.git_objects.proofs.Basics.{and_both}
use Rattle.git_objects.proofs.TreeReading.{tree_law, spelled_law}
use Rattle.object_store.specs.Objects.{Object, object_name, same_kind, is_named, find_named, has, has_name, body_of, missing_entry, is_body, IsStore}
use Rattle.object_store.specs.Puts.{if_missing, of_tree, of_body}
use Rattle.object_store.specs.Unfolding.{flat, joined}
use Rattle.object_store.proofs.Held.{named_kind, has_name-from, tree_held}
use Rattle.object_store.proofs.Unfolding.{IsHeld, AreHeld, entries_held, IsFlat, flat_good, tree_good}
use Rattle.path_trees.specs.Listed.{entries_of, listed, changed}
use Rattle.path_trees.specs.Walked.{AreStored}
use Rattle.path_trees.specs.declared.found.Found.{Found}
use Rattle.path_trees.proofs.Grown.{joined_in, held-above, joined-above}
use Rattle.path_trees.proofs.Listings.{OnFound, entries-changed, each-changed}

-- entries of a tree whose children are held
pub record AreGood (S : List Object) (es : List Entry) : Type 0 where
  pub entries : AreEntries es
  pub held : AreHeld S es

names_held : (S : List Object) (es : List Entry) → AreHeld S es → list_all (λ e. is_name e.name.0) es ≡ true
names_held S [] h = refl
names_held S (e ∷ es) h = and_both h.0.name (names_held S es h.1)

nothing_missing : (S : List Object) (es : List Entry) → AreHeld S es → missing_entry S es ≡ None
nothing_missing S [] h = refl
nothing_missing S (e ∷ es) h = ap (λ b. cond b (missing_entry S es) (Some e.name.0)) h.0.child ∙ nothing_missing S es h.1

pub stored_good : (S : List Object) (es : List Entry) → AreGood S es → AreStored S es
stored_good S es g = record { entries = g.entries; names = names_held S es g.held; children = ap is_none (nothing_missing S es g.held) }

pub good_stored : (S : List Object) (es : List Entry) → AreStored S es → AreGood S es
good_stored S es g = record { entries = g.entries; held = entries_held S es g.children g.names }

pub good-above : (newer S : List Object) (es : List Entry) → IsStore (newer ++ S) → AreGood S es → AreGood (newer ++ S) es
good-above newer S es s g = record { entries = g.entries; held = held-above newer S es s g.held }

pub good-changed : (S : List Object) (c : Bytes) (o : Option Found) (es : List Entry) → is_component c ≡ true → OnFound (IsHeld S) c o → AreGood S es → AreGood S (changed c o es)
good-changed S c o es k h g = record { entries = entries-changed c o es k g.entries; held = each-changed (IsHeld S) c o es h g.held }

-- their map is a tree with their body
pub good_flat : (S : List Object) (es : List Entry) → IsStore S → AreGood S es → IsFlat (joined_in S es) (body_text es)
good_flat S es s g = tree_good S s (flat_good S s) es g.entries g.held

pub good_read : (S : List Object) (es : List Entry) → AreGood S es → tree_entries (body_text es) ≡ Some es
good_read S es g = spelled_law (body_text es) es (record { entries = g.entries; names = names_held S es g.held; spelled = refl })

-- so their body is taken in
pub good_fits : (S : List Object) (es : List Entry) → AreGood S es → of_body S Tree (body_text es) None ≡ None
good_fits S es g = ap (λ o. of_tree S o None) (good_read S es g) ∙ ap (λ o. if_missing o None) (nothing_missing S es g.held)

-- ---- a stored tree

pub record IsListedTree (S : List Object) (n : Bytes) (es : List Entry) : Type 0 where
  pub read : tree_entries (body_of Tree S n) ≡ Some es
  pub good : AreGood S es
  pub map : flat S n ≡ joined_in S es

newer_tree : (o : Object) (S : List Object) (n : Bytes) (es : List Entry) → IsStore (o ∷ S) → is_named Tree o n ≡ false → IsListedTree S n es → IsListedTree (o ∷ S) n es
unfolding flat body_of
newer_tree o S n es s f r = record {
  read = ap (λ b. tree_entries (cond b o.body (body_of Tree S n))) f ∙ r.read;
  good = good-above (o ∷ []) S es s r.good;
  map = ap (λ b. cond b (joined (body_of Blob S) (flat S) (unwrap_or (tree_entries o.body) [])) (flat S n)) f ∙ r.map ∙ sym (joined-above (o ∷ []) S es s r.good.held);
}

own_tree : (o : Object) (S : List Object) (n : Bytes) → IsStore (o ∷ S) → is_named Tree o n ≡ true → (es : List Entry) × IsListedTree (o ∷ S) n es
unfolding flat body_of
own_tree o S n s f =
    let b = tree_held S o.body (subst (λ k. is_body S k o.body ≡ true) (named_kind Tree o n f) s.0) in
    let r = (tree_law o.body b.entries b.bytes).0 b.read in
    let good : AreGood S b.entries = record { entries = r.entries; held = entries_held S b.entries b.held r.names } in (
      b.entries,
      record {
        read = ap (λ t. tree_entries (cond t o.body (body_of Tree S n))) f ∙ b.read;
        good = good-above (o ∷ []) S b.entries s good;
        map = ap (λ t. cond t (joined (body_of Blob S) (flat S) (unwrap_or (tree_entries o.body) [])) (flat S n)) f
            ∙ ap (λ es. joined_in S (unwrap_or es [])) b.read
            ∙ sym (joined-above (o ∷ []) S b.entries s good.held);
      },
    )

pub stored_tree : (S : List Object) → IsStore S → (n : Bytes) → has Tree S n ≡ true → (es : List Entry) × IsListedTree S n es
unfolding has
stored_tree [] s n h = absurd (true≢false (sym h))
stored_tree (o ∷ S) s n h =
    elim (is_named Tree o n) as (λ t. is_named Tree o n ≡ t → (t || has Tree S n) ≡ true → (es : List Entry) × IsListedTree (o ∷ S) n es) [
      | true ↦ λ e g. own_tree o S n s e
      | false ↦ λ e g. let r = stored_tree S s.2 n g in (r.0, newer_tree o S n r.0 s e r.1)
    ] refl h

-- ---- what is looked up

pub listed_tree : (S : List Object) (n : Bytes) → IsStore S → has Tree S n ≡ true → listed S n ≡ tree_entries (body_of Tree S n)
unfolding find_named has body_of
listed_tree [] n s h = absurd (true≢false (sym h))
listed_tree (o ∷ S) n s h =
    elim (same_bytes (object_name o) n) as (λ b. same_bytes (object_name o) n ≡ b → ((same_kind Tree o.kind && b) || has Tree S n) ≡ true →
    option_and_then entries_of (cond b (Some o) (find_named S n)) ≡ tree_entries (cond (same_kind Tree o.kind && b) o.body (body_of Tree S n))) [
      | true ↦ λ e g. elim (same_kind Tree o.kind) as (λ k. ((k && true) || has Tree S n) ≡ true → cond k (tree_entries o.body) None ≡ tree_entries (cond (k && true) o.body (body_of Tree S n))) [
        | true ↦ λ _. refl
        | false ↦ λ i. absurd (true≢false (sym (has_name-from Tree S n i) ∙ ap (has_name S) (sym ((bytes_decides (object_name o) n).0 e)) ∙ s.1))
      ] g
      | false ↦ λ e g. elim (same_kind Tree o.kind) as (λ k. ((k && false) || has Tree S n) ≡ true → listed S n ≡ tree_entries (cond (k && false) o.body (body_of Tree S n))) [
        | true ↦ λ i. listed_tree S n s.2 i
        | false ↦ λ i. listed_tree S n s.2 i
      ] g
    ] refl h

-- what the tree of that name lists
pub tree_listed : (S : List Object) (n : Bytes) → IsStore S → has Tree S n ≡ true → (es : List Entry) × (listed S n ≡ Some es) × AreGood S es × (flat S n ≡ joined_in S es)
tree_listed S n s h = let r = stored_tree S s n h in (r.0, listed_tree S n s h ∙ r.1.read, r.1.good, r.1.map)

-- a tree that is found lists something
pub found_listed : (S : List Object) (n : Bytes) (o : Object) → IsStore S → find_named S n ≡ Some o → o.kind ≡ Tree → is_some (tree_entries o.body) ≡ true
unfolding find_named
found_listed [] n o s e k = cc
found_listed (d ∷ S) n o s e k =
    elim (same_bytes (object_name d) n) as (λ b. cond b (Some d) (find_named S n) ≡ Some o → is_some (tree_entries o.body) ≡ true) [
      | true ↦ λ g.
          let same : d ≡ o = cc in
          let held : is_body S Tree o.body ≡ true = (λ i. is_body S (sym k i) o.body) ∙ ap (λ (x : Object). is_body S x.kind x.body) (sym same) ∙ s.0 in
          ap is_some (tree_held S o.body held).read
      | false ↦ λ g. found_listed S n o s.2 g k
    ] e
