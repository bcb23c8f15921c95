-- A tree that is taken in stands for the map of what its body lists.
use Rattle.std.proofs.Common.{◌≡◌, true, false, cond, ◌&&◌, ◌||◌, List, [], ◌∷◌, ◌++◌, Option, Some, None, refl, sym, ap, subst, ◌∙◌, true≢false}
use Rattle.std.specs.Option.{is_some, unwrap_or}
use Rattle.std.specs.Cmp.{first_so, second_so}
use Rattle.std.specs.Cmp.Lexicographic.{bytes_decides}
use Rattle.git_objects.specs.Paths.{Bytes, same_bytes}
use Rattle.git_objects.specs.Trees.{Flat}
use Rattle.git_objects.specs.Names.{name}
use Rattle.git_objects.specs.Entries.{body_text}
use Rattle.git_objects.specs.Bodies.{tree_entries}
use Rattle.git_objects.specs.declared.entry.Entry.{Entry}
use Rattle.git_objects.specs.declared.kind.Kind.{Kind}
use Rattle.git_objects.specs.declared.kind.Kind.TheVariants.{Blob, Tree, Commit}
use Rattle.git_objects.proofs.Basics.{same_bytes-self}
use Rattle.object_store.specs.Objects.{Object, object_name, same_kind, is_named, find_named, has, has_name, body_of, IsStore}
use Rattle.object_store.specs.Puts.{Collides, same_object, collision}
use Rattle.object_store.specs.Unfolding.{flat, joined}
use Rattle.object_store.proofs.Finding.{found_name}
use Rattle.path_trees.specs.Made.{AreMade}
use Rattle.path_trees.specs.Levels.{IsTaken}
use Rattle.path_trees.proofs.Grown.{joined_in}
use Rattle.path_trees.proofs.Trees.{AreGood, good_read, stored_tree}

abbrev tree_object : Bytes → Object
tree_object b = record { kind = Tree; body = b }

-- what is taken in is in front of the others, or was there
pub record IsIn (made : Bytes → Type 0) (S S' : List Object) (b : Bytes) (t : Flat) : Type 0 where
  pub newer : List Object
  pub above : newer ++ S ≡ S'
  pub trees : AreMade made newer
  pub held : has Tree S' (name Tree b) ≡ true
  pub body : body_of Tree S' (name Tree b) ≡ b
  pub map : flat S' (name Tree b) ≡ t

-- ---- it was there

is_tree : (k : Kind) → same_kind Tree k ≡ true → k ≡ Tree
is_tree Blob h = absurd (true≢false (sym h))
is_tree Tree h = refl
is_tree Commit h = absurd (true≢false (sym h))

-- the object of that name is this tree
found_tree : (S : List Object) (n b : Bytes) (o : Object) → find_named S n ≡ Some o → same_object Tree b o ≡ true → (has Tree S n ≡ true) × (body_of Tree S n ≡ b)
unfolding find_named has body_of
found_tree [] n b o e h = cc
found_tree (d ∷ S) n b o e h =
    elim (same_bytes (object_name d) n) as (λ v. cond v (Some d) (find_named S n) ≡ Some o → (((same_kind Tree d.kind && v) || has Tree S n) ≡ true) × (cond (same_kind Tree d.kind && v) d.body (body_of Tree S n) ≡ b)) [
      | true ↦ λ g.
          let same : d ≡ o = cc in
          let k : same_kind Tree d.kind ≡ true = ap (λ (x : Object). same_kind Tree x.kind) same ∙ first_so (same_kind Tree o.kind) (same_bytes b o.body) h in
          let w : d.body ≡ b = ap (λ (x : Object). x.body) same ∙ sym ((bytes_decides b o.body).0 (second_so (same_kind Tree o.kind) (same_bytes b o.body) h)) in
          (ap (λ v. (v && true) || has Tree S n) k, ap (λ v. cond (v && true) d.body (body_of Tree S n)) k ∙ w)
      | false ↦ λ g. let r = found_tree S n b o g h in elim (same_kind Tree d.kind) as (λ v. (((v && false) || has Tree S n) ≡ true) × (cond (v && false) d.body (body_of Tree S n) ≡ b)) [ true ↦ r | false ↦ r ]
    ] e

same_found : (b : Bytes) (o : Object) → collision Tree b (Some o) ≡ None → same_object Tree b o ≡ true
same_found b o h = elim (same_object Tree b o) as (λ v. cond v None (Some (Collides (name Tree b))) ≡ None → v ≡ true) [ true ↦ λ g. refl | false ↦ λ g. cc ] h

was_there : (S : List Object) (b : Bytes) → has_name S (name Tree b) ≡ true → collision Tree b (find_named S (name Tree b)) ≡ None → (has Tree S (name Tree b) ≡ true) × (body_of Tree S (name Tree b) ≡ b)
was_there S b h c = by (find_named S (name Tree b)) refl (sym (found_name S (name Tree b)) ∙ h) c
  where
    by : (o : Option Object) → find_named S (name Tree b) ≡ o → is_some o ≡ true → collision Tree b o ≡ None → (has Tree S (name Tree b) ≡ true) × (body_of Tree S (name Tree b) ≡ b)
    by None e g k = absurd (true≢false (sym g))
    by (Some o) e g k = found_tree S (name Tree b) b o e (same_found b o k)

some_entries : (a b : List Entry) → Some a ≡ Some b → a ≡ b
some_entries a b e = cc

old_map : (S : List Object) (b : Bytes) (es : List Entry) → IsStore S → tree_entries b ≡ Some es → (has Tree S (name Tree b) ≡ true) × (body_of Tree S (name Tree b) ≡ b) → flat S (name Tree b) ≡ joined_in S es
old_map S b es s r h =
    let t = stored_tree S s (name Tree b) h.0 in
    t.1.map ∙ ap (joined_in S) (some_entries t.0 es (sym t.1.read ∙ ap tree_entries h.1 ∙ r))

old_in : (made : Bytes → Type 0) (S : List Object) (b : Bytes) (es : List Entry) → IsStore S → tree_entries b ≡ Some es → has_name S (name Tree b) ≡ true → collision Tree b (find_named S (name Tree b)) ≡ None → IsIn made S S b (joined_in S es)
old_in made S b es s r h c =
    let w = was_there S b h c in
    record { newer = []; above = refl; trees = tt; held = w.0; body = w.1; map = old_map S b es s r w }

-- ---- it is new

new_named : (b : Bytes) → is_named Tree (tree_object b) (name Tree b) ≡ true
new_named b = same_bytes-self (name Tree b)

new_in : (made : Bytes → Type 0) → (S : List Object) (b : Bytes) (es : List Entry) → tree_entries b ≡ Some es → made b → IsIn made S (tree_object b ∷ S) b (joined_in S es)
unfolding flat has body_of
new_in made S b es r m = record {
  newer = tree_object b ∷ [];
  above = refl;
  trees = (refl, m, tt);
  held = ap (λ v. v || has Tree S (name Tree b)) (new_named b);
  body = ap (λ v. cond v b (body_of Tree S (name Tree b))) (new_named b);
  map = ap (λ v. cond v (joined (body_of Blob S) (flat S) (unwrap_or (tree_entries b) [])) (flat S (name Tree b))) (new_named b) ∙ ap (λ o. joined_in S (unwrap_or o [])) r;
}

-- ---- either

pub taken : (made : Bytes → Type 0) (S S' : List Object) (b : Bytes) (es : List Entry) → IsStore S → b ≡ body_text es → AreGood S es → made b → IsTaken S b S' → IsIn made S S' b (joined_in S es)
taken made S S' b es s e g m t =
    let read : tree_entries b ≡ Some es = ap tree_entries e ∙ good_read S es g in
    subst (λ (R : List Object). IsIn made S R b (joined_in S es)) (sym t.1)
    (elim (has_name S (name Tree b)) as (λ v. has_name S (name Tree b) ≡ v → IsIn made S (cond v S (tree_object b ∷ S)) b (joined_in S es)) [
      | true ↦ λ h. old_in made S b es s read h t.0
      | false ↦ λ h. new_in made S b es read m
    ] refl)
