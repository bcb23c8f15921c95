-- Sizes of trees, from those of their parts.
use Rattle.std.proofs.Common.{◌≡◌, ◌+◌, ◌-◌, ◌≤◌, ◌&&◌, ◌||◌, true, false, cond, not, eqb, T, List, [], ◌∷◌, ◌++◌, drop, length, max, Option, Some, None, refl, sym, ap, ◌∙◌, arith, length-append, true≢false}
use Rattle.std.specs.Prelude.{slice_get}
use Rattle.std.specs.List.{list_all, slice_range}
use Rattle.std.specs.Map.{lookup}
use Rattle.std.specs.Option.{option_map, unwrap_or}
use Rattle.std.specs.Cmp.{first_so, second_so}
use Rattle.std.specs.Cmp.Lexicographic.{bytes_decides}
use Rattle.std.proofs.lemmas.Bool.{not-true}
use Rattle.std.proofs.lemmas.List.{length-take, length-drop}
use Rattle.git_objects.specs.Paths.{Bytes, text, is_path, is_nil, same_bytes}
use Rattle.git_objects.specs.Trees.{Leaf, Flat}
use Rattle.git_objects.specs.Names.{name, depth}
use Rattle.git_objects.specs.Bodies.{tree_entries}
use Rattle.git_objects.specs.declared.entry.Entry.{Entry}
use Rattle.git_objects.specs.declared.kind.Kind.{Kind}
use Rattle.git_objects.specs.declared.kind.Kind.TheVariants.{Blob, Tree, Commit}
use Rattle.git_objects.specs.declared.mode.Mode.TheVariants.{Dir}
use Rattle.git_objects.specs.declared.name.Name.{Name}
use Rattle.git_objects.proofs.Basics.{second, same_bytes-self}
use Rattle.object_store.specs.Objects.{Object, object_name, same_kind, is_named, has, has_name, has_child, body_of, missing_entry}
use Rattle.object_store.specs.Unfolding.{below, joined, flat, entry_flat, body_flat}
use Rattle.object_store.specs.Places.{is_full_tree, placed, placed_objects, AreSized, HoldsStore}
use Rattle.object_store.specs.Sizes.{longest, held_number, sizes, stats_of, leaf_sizes, sizes_below, sizes_joined}
use Rattle.object_store.specs.declared.shelf.Place.{Place}
use Rattle.object_store.specs.declared.store.TreeStats.{TreeStats}
use Rattle.object_store.proofs.Unfolding.{IsFull, flat_good}
use Rattle.object_store.proofs.Finding.{find-places, place-within, has-found, full-found, nil_test, and-false}

-- ---- together

depth-append : (a b : Flat) → depth (a ++ b) ≡ max (depth a) (depth b)
depth-append [] b = omega arith
depth-append (e ∷ a) b = omega (arith, depth-append a b)

longest-append : (a b : Flat) → longest (a ++ b) ≡ max (longest a) (longest b)
longest-append [] b = omega arith
longest-append (e ∷ a) b = omega (arith, longest-append a b)

pub sizes-append : (a b : Flat) → sizes (a ++ b) ≡ sizes_joined (sizes a) (sizes b)
sizes-append a b =
    let f : held_number (length (a ++ b)) ≡ held_number (held_number (length a) + held_number (length b)) = omega (arith, length-append a b) in
    let d : held_number (depth (a ++ b)) ≡ max (held_number (depth a)) (held_number (depth b)) = omega (arith, depth-append a b) in
    let l : held_number (longest (a ++ b)) ≡ max (held_number (longest a)) (held_number (longest b)) = omega (arith, longest-append a b) in
    λ i. record { files = f i; depth = d i; longest = l i }

pub joined_joined : (a b c : TreeStats) → sizes_joined (sizes_joined a b) c ≡ sizes_joined a (sizes_joined b c)
joined_joined a b c =
    let f : held_number (held_number (a.files + b.files) + c.files) ≡ held_number (a.files + held_number (b.files + c.files)) = omega arith in
    let d : max (max a.depth b.depth) c.depth ≡ max a.depth (max b.depth c.depth) = omega arith in
    let l : max (max a.longest b.longest) c.longest ≡ max a.longest (max b.longest c.longest) = omega arith in
    λ i. record { files = f i; depth = d i; longest = l i }

pub joined_none : (a : TreeStats) → a.files ≤ 4294967295 → sizes_joined a (sizes []) ≡ a
joined_none a h =
    let f : held_number (a.files + 0) ≡ a.files = omega arith in
    let d : max a.depth 0 ≡ a.depth = omega arith in
    let l : max a.longest 0 ≡ a.longest = omega arith in
    λ i. record { files = f i; depth = d i; longest = l i }

pub none_joined : (t : Flat) → sizes_joined (sizes []) (sizes t) ≡ sizes t
none_joined t =
    let f : held_number (0 + held_number (length t)) ≡ held_number (length t) = omega arith in
    let d : max 0 (held_number (depth t)) ≡ held_number (depth t) = omega arith in
    let l : max 0 (held_number (longest t)) ≡ held_number (longest t) = omega arith in
    λ i. record { files = f i; depth = d i; longest = l i }

-- ---- behind a component

pub leaf_is : (c : Bytes) (x : Leaf) → sizes (below c (([], x) ∷ [])) ≡ leaf_sizes (length c)
leaf_is c x =
    let l : held_number (max (length c) 0) ≡ held_number (length c) = omega arith in
    λ i. record { files = 1; depth = 1; longest = l i }

length-below : (c : Bytes) (t : Flat) → length (below c t) ≡ length t
length-below c [] = refl
length-below c (e ∷ t) = omega (arith, length-below c t)

depth-below : (c : Bytes) (t : Flat) → IsFull t → depth (below c t) ≡ depth t + 1
depth-below c [] h = absurd h
depth-below c (e ∷ []) h = omega arith
depth-below c (e ∷ f ∷ t) h = omega (arith, depth-below c (f ∷ t) tt)

abbrev ArePaths : Flat → Type 0
ArePaths t = T (list_all (λ e. is_path e.0) t)

longest-below : (c : Bytes) (t : Flat) → IsFull t → ArePaths t → longest (below c t) ≡ length c + 1 + longest t
longest-below c [] h g = absurd h
longest-below c (([], x) ∷ t) h g = absurd g
longest-below c ((d ∷ p, x) ∷ []) h g = omega (arith, length-append c (47 ∷ text (d ∷ p)))
longest-below c ((d ∷ p, x) ∷ f ∷ t) h g = omega (arith, length-append c (47 ∷ text (d ∷ p)), longest-below c (f ∷ t) tt (second (is_path (d ∷ p)) _ g))

pub below_is : (c : Bytes) (t : Flat) → IsFull t → ArePaths t → sizes (below c t) ≡ sizes_below (length c) (sizes t)
below_is c t h g =
    let f : held_number (length (below c t)) ≡ held_number (length t) = omega (arith, length-below c t) in
    let d : held_number (depth (below c t)) ≡ held_number (held_number (depth t) + 1) = omega (arith, depth-below c t h) in
    let l : held_number (longest (below c t)) ≡ held_number (length c + 1 + held_number (longest t)) = omega (arith, longest-below c t h g) in
    λ i. record { files = f i; depth = d i; longest = l i }

-- ---- a directory's entries, one after another

abbrev entries_flat : List Object → List Entry → Flat
entries_flat S es = joined (body_of Blob S) (flat S) es

pub record IsStep (S : List Object) (es rest : List Entry) (sum next : TreeStats) : Type 0 where
  pub held : missing_entry S rest ≡ missing_entry S es
  pub whole : sizes_joined next (sizes (entries_flat S rest)) ≡ sizes_joined sum (sizes (entries_flat S es))
  pub files : next.files ≤ 4294967295

-- the first entry's child is held, and its sizes are joined to the sum
pub entry_step : (S : List Object) (es : List Entry) (e : Entry) (sum part : TreeStats) → Some e ≡ slice_get es 0 → has_child S e.mode e.name.0 ≡ true → part ≡ sizes (entry_flat S e) →
    IsStep S es (drop 1 es) sum (sizes_joined sum part)
entry_step S [] e sum part h g p = cc
entry_step S (d ∷ es) e sum part h g p =
    let same : d ≡ e = cc in
    record {
      held = sym (ap (λ b. cond b (missing_entry S es) (Some d.name.0)) (ap (λ (x : Entry). has_child S x.mode x.name.0) same ∙ g));
      whole =
          joined_joined sum part (sizes (entries_flat S es))
          ∙ ap (λ q. sizes_joined sum (sizes_joined q (sizes (entries_flat S es)))) (p ∙ ap (λ (x : Entry). sizes (entry_flat S x)) (sym same))
          ∙ ap (sizes_joined sum) (sym (sizes-append (entry_flat S d) (entries_flat S es)));
      files = omega arith;
    }

-- ---- by places

-- the sizes at a name's place
pub sized-at : (S : List Object) (es : List (Name × Place)) (k : Name) (p : Place) → AreSized S es → lookup (λ (j : Name). same_bytes k.0 j.0) es ≡ Some p → p.stats ≡ sizes (flat S k.0)
sized-at S [] k p h e = cc
sized-at S (d ∷ es) k p h e =
    elim (same_bytes k.0 d.0.0) as (λ b. same_bytes k.0 d.0.0 ≡ b → cond b (Some d.1) (lookup (λ (j : Name). same_bytes k.0 j.0) es) ≡ Some p → p.stats ≡ sizes (flat S k.0)) [
      | true ↦ λ t g. let same : p ≡ d.1 = cc in ap (λ (q : Place). q.stats) same ∙ h.0 ∙ ap (λ n. sizes (flat S n)) (sym ((bytes_decides k.0 d.0.0).0 t))
      | false ↦ λ t g. sized-at S es k p h.1 g
    ] refl e

abbrev pub stats_at : Option Place → Option TreeStats
stats_at None = None
stats_at (Some p) = cond (same_kind Tree p.kind) (Some p.stats) None

module _ (arena : Bytes) (es : List (Name × Place)) (k : Name) (h : HoldsStore arena es) where
  abbrev objects : List Object
  objects = placed_objects arena es

  abbrev at_key : Option Place
  at_key = lookup (λ (j : Name). same_bytes k.0 j.0) es

  pub stats-found : (o : Option Place) → o ≡ at_key → stats_at o ≡ stats_of objects k.0
  stats-found None e = ap (λ b. cond b (Some (sizes (flat objects k.0))) None) (has-found Tree objects k.0 None h.store (ap (option_map (placed arena)) e ∙ sym (find-places arena es k h)))
  stats-found (Some p) e =
      let t : same_kind Tree p.kind ≡ has Tree objects k.0 = has-found Tree objects k.0 (Some (placed arena p)) h.store (ap (option_map (placed arena)) e ∙ sym (find-places arena es k h)) in
      let s : p.stats ≡ sizes (flat objects k.0) = sized-at objects es k p h.sized (sym e) in
      λ i. cond (t i) (Some (s i)) None

  body_none : (p : Place) → Some p ≡ at_key → eqb p.len 0 ≡ is_nil (placed arena p).body
  body_none p e =
      let w : p.at + p.len ≤ length arena = place-within arena es (λ (j : Name). same_bytes k.0 j.0) p h.placed (sym e) in
      let b : Bytes = slice_range arena p.at (p.at + p.len) in
      let l : length b ≡ p.len = omega (arith, length-take ((p.at + p.len) - p.at) (drop p.at arena), length-drop p.at arena) in
      ap (λ n. eqb n 0) (sym l) ∙ nil_test b

  pub dir-none : None ≡ at_key → false ≡ has_child objects Dir k.0
  dir-none e = full-found Tree objects k.0 None h.store (ap (option_map (placed arena)) e ∙ sym (find-places arena es k h))

  pub dir-place : (p : Place) → Some p ≡ at_key → is_full_tree p ≡ has_child objects Dir k.0
  dir-place p e =
      ap (λ b. same_kind Tree p.kind && not b) (body_none p e)
      ∙ full-found Tree objects k.0 (Some (placed arena p)) h.store (ap (option_map (placed arena)) e ∙ sym (find-places arena es k h))

  pub dir-sizes : (p : Place) (c : Bytes) → Some p ≡ at_key → has_child objects Dir k.0 ≡ true → sizes_below (length c) p.stats ≡ sizes (below c (flat objects k.0))
  dir-sizes p c e g =
      let f = flat_good objects h.store k.0 (first_so _ _ g) in
      ap (sizes_below (length c)) (sized-at objects es k p h.sized (sym e))
      ∙ sym (below_is c (flat objects k.0) (f.full (not-true _ (second_so _ _ g))) f.tree.paths)

-- ---- one more object

-- of what is no tree
flat-unnamed : (S : List Object) (n : Bytes) → has_name S n ≡ false → flat S n ≡ []
unfolding flat has_name
flat-unnamed [] n h = refl
flat-unnamed (o ∷ S) n h =
    elim (same_bytes (object_name o) n) as (λ b. (b || has_name S n) ≡ false → cond (same_kind Tree o.kind && b) (joined (body_of Blob S) (flat S) (unwrap_or (tree_entries o.body) [])) (flat S n) ≡ []) [
      | true ↦ λ g. absurd (true≢false g)
      | false ↦ λ g. ap (λ b. cond b (joined (body_of Blob S) (flat S) (unwrap_or (tree_entries o.body) [])) (flat S n)) (and-false (same_kind Tree o.kind)) ∙ flat-unnamed S n g
    ] h

-- what the new object stands for
pub flat-new : (S : List Object) (k : Kind) (b n : Bytes) → n ≡ name k b → has_name S n ≡ false → flat (record { kind = k; body = b } ∷ S) n ≡ body_flat S k b
unfolding flat
flat-new S Blob b n e h = flat-unnamed S n h
flat-new S Commit b n e h = flat-unnamed S n h
flat-new S Tree b n e h = ap (λ t. cond t (body_flat S Tree b) (flat S n)) (ap (λ m. same_bytes m n) (sym e) ∙ same_bytes-self n)

-- what the others stand for stays
pub sized-newer : (S : List Object) (o : Object) (n : Bytes) (es : List (Name × Place)) → object_name o ≡ n → lookup (λ (j : Name). same_bytes n j.0) es ≡ None → AreSized S es → AreSized (o ∷ S) es
unfolding flat
sized-newer S o n [] e l h = tt
sized-newer S o n (d ∷ es) e l h =
    elim (same_bytes n d.0.0) as (λ b. same_bytes n d.0.0 ≡ b → cond b (Some d.1) (lookup (λ (j : Name). same_bytes n j.0) es) ≡ None → AreSized (o ∷ S) (d ∷ es)) [
      | true ↦ λ t g. cc
      | false ↦ λ t g.
          let other : is_named Tree o d.0.0 ≡ false = ap (λ b. same_kind Tree o.kind && b) (ap (λ m. same_bytes m d.0.0) e ∙ t) ∙ and-false (same_kind Tree o.kind) in
          (h.0 ∙ ap (λ b. sizes (cond b (joined (body_of Blob S) (flat S) (unwrap_or (tree_entries o.body) [])) (flat S d.0.0))) (sym other), sized-newer S o n es e g h.1)
    ] refl l

pub sized-push : (S : List Object) (es : List (Name × Place)) (e : Name × Place) → AreSized S es → e.1.stats ≡ sizes (flat S e.0.0) → AreSized S (es ++ e ∷ [])
sized-push S [] e h g = (g, tt)
sized-push S (d ∷ es) e h g = (h.0, sized-push S es e h.1 g)
