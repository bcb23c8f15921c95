-- What is read from items.
use Rattle.std.proofs.Common.{◌≡◌, ◌+◌, ℕ, zero, suc, true, false, not, cond, ◌&&◌, T, List, [], ◌∷◌, ◌++◌, length, Option, None, Some, Result, Ok, Err, refl, sym, ap, subst, ◌∙◌}
use Rattle.std.specs.Prelude.{◌==◌, ◌||◌}
use Rattle.std.specs.Cmp.{first_so, second_so}
use Rattle.std.specs.Cmp.Lexicographic.{nat_list_cmp_total}
use Rattle.std.specs.FinMap.{is_sorted, put as put_entry}
use Rattle.std.specs.FinMap.Entries.{is_sorted-put}
use Rattle.std.specs.List.{list_all, list_any}
use Rattle.std.specs.Option.{is_none, option_map, option_map_or, option_to_list}
use Rattle.git_objects.specs.Bodies.{tree_entries}
use Rattle.git_objects.specs.CommitBodies.{commit_from}
use Rattle.git_objects.specs.Paths.{Bytes, is_bytes}
use Rattle.git_objects.specs.Refs.{Refs, bytes_cmp}
use Rattle.git_objects.specs.Results.{◌>>=◌, must, or_refuse, refused_by}
use Rattle.git_objects.specs.Snapshots.{Snapshot}
use Rattle.git_objects.specs.declared.kind.Kind.{Kind}
use Rattle.git_objects.specs.declared.kind.Kind.TheVariants.{Blob, Tree, Commit}
use Rattle.git_objects.proofs.Basics.{and_both}
use Rattle.path_names.specs.RefNames.{is_ref_name}
use Rattle.object_store.specs.Fits.{body_fits, tree_fits, tree_map}
use Rattle.object_store.specs.Objects.{Object, IsStore, has, is_body, is_named, missing_entry, missing_of_commit}
use Rattle.object_store.specs.Puts.{Refusal, Missing, NotBody, if_missing, of_body, of_commit, of_tree}
use Rattle.object_store.specs.StoredSnapshots.{snapshot_in, snapshot_of, snapshots_in}
use Rattle.object_store.specs.Unfolding.{flat}
use Rattle.object_store.proofs.Held.{has-above, named_kind}
use Rattle.state_items.specs.Fields.{Spot, BrokenAt, ended, field, number, start}
use Rattle.state_items.specs.Items.{item_fits, item_kind, objects_field, refs_field, is_rule, ChangeItem, Held, ItemKind, Kept, KeptItem, OldKeptItem, RuleItem, TagItem, change_part, ended_with, entries_field, entry_field, is_of, kept_part, item_kind_field, nothing, part, read_from, read_item, read_items, read_one, result_field, rule_field, tag_part, tags_field, text_field}
use Rattle.state_items.specs.Appending.{are_tags}
use Rattle.state_items.specs.ReadHeld.{IsSoundHeld, ReadLaw}
use Rattle.state_items.proofs.ByteLists.{AreBytes}
use Rattle.state_items.proofs.HeldTags.{tags-read, tags-upon}
use Rattle.state_items.proofs.ReadObjects.{Taken, Upon, back-same, front-same, must-hold, number-bytes, objects-keep, objects-upon, ok-same, refs-keep, value-of}
use Rattle.state_items.proofs.RefsMoved.{keys-put, values-put}

-- ---- what is held

abbrev AreOriginals : List Object → List Kept → Type 0
AreOriginals S kept = list_all (λ e. has Commit S e.original) kept ≡ true

-- each object is within the limits of objects, by those before it
abbrev AreFitting : List Object → Type 0
AreFitting [] = Unit
AreFitting (o ∷ S) = (body_fits S o.kind o.body ≡ true) × AreFitting S

fitting-trees : (S : List Object) → AreFitting S → (n : Bytes) → tree_fits (flat S n) ≡ true
unfolding flat
fitting-trees [] h n = refl
fitting-trees (o ∷ S) h n =
    elim (is_named Tree o n) as (λ b. is_named Tree o n ≡ b → tree_fits (cond b (tree_map S o.body) (flat S n)) ≡ true) [
      | true ↦ λ e. ap (λ k. body_fits S k o.body) (sym (named_kind Tree o n e)) ∙ h.0
      | false ↦ λ e. fitting-trees S h.1 n
    ] refl

fitting-in : (S : List Object) (k : Kind) (b : Bytes) (cs : List Snapshot) → AreFitting S → list_all (λ (c : Snapshot). tree_fits c.tree) cs ≡ true → list_all (λ (c : Snapshot). tree_fits c.tree) (snapshot_in S k b ++ cs) ≡ true
fitting-in S Blob b cs f h = h
fitting-in S Tree b cs f h = h
fitting-in S Commit b cs f h =
    elim (commit_from b) as (λ o. list_all (λ (c : Snapshot). tree_fits c.tree) (option_to_list (option_map (snapshot_of S) o) ++ cs) ≡ true) [ None ↦ h | Some c ↦ and_both (fitting-trees S f c.tree) h ]

fitting-commits : (S : List Object) → AreFitting S → list_all (λ (c : Snapshot). tree_fits c.tree) (snapshots_in S) ≡ true
fitting-commits [] f = refl
fitting-commits (o ∷ S) f = fitting-in S o.kind o.body (snapshots_in S) f.1 (fitting-commits S f.1)

all-more : {A : Type 0} (f : A → Bytes) (S T : List Object) (xs : List A) → Upon S T → list_all (λ x. has Commit S (f x)) xs ≡ true → list_all (λ x. has Commit T (f x)) xs ≡ true
all-more f S T [] u h = refl
all-more f S T (x ∷ xs) u h =
    and_both (ap (λ (R : List Object). has Commit R (f x)) u.1 ∙ has-above u.0 S Commit (f x) (first_so _ _ h)) (all-more f S T xs u (second_so (has Commit S (f x)) _ h))

-- what is held is what is read last
pub ended-value : (h g : Held) (s : Spot) → ended_with h s ≡ Ok g → h ≡ g
ended-value h g s e = let d = value-of (ended s) (λ _. Ok h) g e in ok-same h g d.rest

record AreSound (h : Held) : Type 0 where
  sorted : T (is_sorted bytes_cmp h.refs)
  names : list_all (λ e. is_ref_name e.0) h.refs ≡ true
  heads : list_all (λ e. has Commit h.objects e.1) h.refs ≡ true
  originals : AreOriginals h.objects h.kept
  rule : is_rule h.rule ≡ true
  fitting : AreFitting h.objects
  tags : are_tags h.objects None h.tags ≡ true

rule-sound : (s t : Spot) (k : ℕ) → rule_field s ≡ Ok (k, t) → is_rule k ≡ true
rule-sound s t k e =
    let n = value-of (number 1 s) (λ k. must (BrokenAt s.at) (is_rule k.0) >>= λ _. Ok k) (k, t) e in
    let m = must-hold (BrokenAt s.at) (is_rule n.value.0) (λ _. Ok n.value) (k, t) n.rest in
    ap (λ (r : ℕ × Spot). is_rule r.0) (sym (ok-same n.value (k, t) m.1)) ∙ m.0

ended-sound : (h g : Held) (s : Spot) → AreSound h → ended_with h s ≡ Ok g → AreSound g
ended-sound h g s a e = subst (λ (k : Held). AreSound k) (ended-value h g s e) a

change-sound : (h g : Held) (s : Spot) → AreSound h → change_part h s ≡ Ok g → AreSound g
change-sound h g s a e =
    let n = value-of (number 4 s)
    (λ n. objects_field n.0 h.objects n.1 >>= λ o. number 4 o.1 >>= λ m. refs_field m.0 o.0 None h.refs m.1 >>= λ r. ended_with (record h { objects = o.0; refs = r.0 }) r.1) g e in
    let o = value-of (objects_field n.value.0 h.objects n.value.1) (λ o. number 4 o.1 >>= λ m. refs_field m.0 o.0 None h.refs m.1 >>= λ r. ended_with (record h { objects = o.0; refs = r.0 }) r.1) g n.rest in
    let m = value-of (number 4 o.value.1) (λ m. refs_field m.0 o.value.0 None h.refs m.1 >>= λ r. ended_with (record h { objects = o.value.0; refs = r.0 }) r.1) g o.rest in
    let r = value-of (refs_field m.value.0 o.value.0 None h.refs m.value.1) (λ r. ended_with (record h { objects = o.value.0; refs = r.0 }) r.1) g m.rest in
    let upon = objects-upon n.value.0 h.objects o.value.0 n.value.1 o.value.1 o.was in
    let S = o.value.0 in
    let keep : (P : Refs → Type 0) → ((m : Refs) (r n : Bytes) → P m → is_ref_name r ≡ true → has Commit S n ≡ true → P (put_entry bytes_cmp r n m)) → P h.refs → P r.value.0 =
    λ P f p. refs-keep S P f m.value.0 None h.refs r.value.0 m.value.1 r.value.1 p r.was in
    let last : Held = record h { objects = S; refs = r.value.0 } in
    ended-sound last g r.value.1 (record {
      sorted = keep (λ m. T (is_sorted bytes_cmp m)) (λ m r n p v w. is_sorted-put bytes_cmp nat_list_cmp_total r n m p) a.sorted;
      names = keep (λ m. list_all (λ e. is_ref_name e.0) m ≡ true) (λ m r n p v w. keys-put is_ref_name m r n p v) a.names;
      heads = keep (λ m. list_all (λ e. has Commit S e.1) m ≡ true) (λ m r n p v w. values-put (has Commit S) m r n p w) (all-more (λ (e : Bytes × Bytes). e.1) h.objects S h.refs upon a.heads);
      originals = all-more (λ (e : Kept). e.original) h.objects S h.kept upon a.originals;
      rule = a.rule;
      fitting = objects-keep (λ R _. AreFitting R) (λ R Q s t p w. subst AreFitting (sym w.same) (w.taken.fits, p)) n.value.0 h.objects S n.value.1 o.value.1 a.fitting o.was;
      tags = tags-upon h.objects S h.tags upon a.tags;
    }) r.rest

tag-sound : (h g : Held) (s : Spot) → AreSound h → tag_part h s ≡ Ok g → AreSound g
tag-sound h g s a e =
    let n = value-of (number 4 s)
    (λ n. objects_field n.0 h.objects n.1 >>= λ o. number 4 o.1 >>= λ m. refs_field m.0 o.0 None h.refs m.1 >>= λ r. number 4 r.1 >>= λ k. tags_field k.0 o.0 None h.tags k.1 >>= λ x. ended_with (record h { objects = o.0; refs = r.0; tags = x.0 }) x.1) g e in
    let o = value-of (objects_field n.value.0 h.objects n.value.1) (λ o. number 4 o.1 >>= λ m. refs_field m.0 o.0 None h.refs m.1 >>= λ r. number 4 r.1 >>= λ k. tags_field k.0 o.0 None h.tags k.1 >>= λ x. ended_with (record h { objects = o.0; refs = r.0; tags = x.0 }) x.1) g n.rest in
    let m = value-of (number 4 o.value.1) (λ m. refs_field m.0 o.value.0 None h.refs m.1 >>= λ r. number 4 r.1 >>= λ k. tags_field k.0 o.value.0 None h.tags k.1 >>= λ x. ended_with (record h { objects = o.value.0; refs = r.0; tags = x.0 }) x.1) g o.rest in
    let r = value-of (refs_field m.value.0 o.value.0 None h.refs m.value.1) (λ r. number 4 r.1 >>= λ k. tags_field k.0 o.value.0 None h.tags k.1 >>= λ x. ended_with (record h { objects = o.value.0; refs = r.0; tags = x.0 }) x.1) g m.rest in
    let k = value-of (number 4 r.value.1) (λ k. tags_field k.0 o.value.0 None h.tags k.1 >>= λ x. ended_with (record h { objects = o.value.0; refs = r.value.0; tags = x.0 }) x.1) g r.rest in
    let x = value-of (tags_field k.value.0 o.value.0 None h.tags k.value.1) (λ x. ended_with (record h { objects = o.value.0; refs = r.value.0; tags = x.0 }) x.1) g k.rest in
    let upon = objects-upon n.value.0 h.objects o.value.0 n.value.1 o.value.1 o.was in
    let S = o.value.0 in
    let keep : (P : Refs → Type 0) → ((m : Refs) (r n : Bytes) → P m → is_ref_name r ≡ true → has Commit S n ≡ true → P (put_entry bytes_cmp r n m)) → P h.refs → P r.value.0 =
    λ P f p. refs-keep S P f m.value.0 None h.refs r.value.0 m.value.1 r.value.1 p r.was in
    let last : Held = record h { objects = S; refs = r.value.0; tags = x.value.0 } in
    ended-sound last g x.value.1 (record {
      sorted = keep (λ m. T (is_sorted bytes_cmp m)) (λ m r n p v w. is_sorted-put bytes_cmp nat_list_cmp_total r n m p) a.sorted;
      names = keep (λ m. list_all (λ e. is_ref_name e.0) m ≡ true) (λ m r n p v w. keys-put is_ref_name m r n p v) a.names;
      heads = keep (λ m. list_all (λ e. has Commit S e.1) m ≡ true) (λ m r n p v w. values-put (has Commit S) m r n p w) (all-more (λ (e : Bytes × Bytes). e.1) h.objects S h.refs upon a.heads);
      originals = all-more (λ (e : Kept). e.original) h.objects S h.kept upon a.originals;
      rule = a.rule;
      fitting = objects-keep (λ R _. AreFitting R) (λ R Q s t p w. subst AreFitting (sym w.same) (w.taken.fits, p)) n.value.0 h.objects S n.value.1 o.value.1 a.fitting o.was;
      tags = tags-read k.value.0 S None h.tags x.value.0 k.value.1 x.value.1 (tags-upon h.objects S h.tags upon a.tags) x.was;
    }) x.rest

entry-sound : (S : List Object) (text : Bytes) (rule : ℕ) (kept : List Kept) (s t : Spot) (e : Kept) → entry_field S text rule kept s ≡ Ok (e, t) → has Commit S e.original ≡ true
entry-sound S text rule kept s t e q =
    let n = value-of (field 20 s)
    (λ n. must (BrokenAt s.at) (has Commit S n.0 && not (list_any (is_of text rule n.0) kept)) >>= λ _. result_field n.1 >>= λ r. Ok (record { filter = text; rule = rule; original = n.0; result = r.0 }, r.1)) (e, t) q in
    let k = must-hold (BrokenAt s.at) (has Commit S n.value.0 && not (list_any (is_of text rule n.value.0) kept))
    (λ _. result_field n.value.1 >>= λ r. Ok (record { filter = text; rule = rule; original = n.value.0; result = r.0 }, r.1)) (e, t) n.rest in
    let r = value-of (result_field n.value.1) (λ r. Ok (record { filter = text; rule = rule; original = n.value.0; result = r.0 }, r.1)) (e, t) k.1 in
    let made : Kept = record { filter = text; rule = rule; original = n.value.0; result = r.value.0 } in
    let same : (made, r.value.1) ≡ (e, t) = ok-same (made, r.value.1) (e, t) r.rest in
    ap (λ (x : Kept × Spot). has Commit S x.0.original) (sym same) ∙ first_so _ _ k.0

entries-sound : (n : ℕ) (S : List Object) (text : Bytes) (rule : ℕ) (kept after : List Kept) (s t : Spot) → AreOriginals S kept → entries_field n S text rule kept s ≡ Ok (after, t) → AreOriginals S after
entries-sound zero S text rule kept after s t a e = subst (AreOriginals S) (front-same kept after s t e) a
entries-sound (suc n) S text rule kept after s t a e =
    let x = value-of (entry_field S text rule kept s) (λ x. entries_field n S text rule (kept ++ x.0 ∷ []) x.1) (after, t) e in
    entries-sound n S text rule (kept ++ x.value.0 ∷ []) after x.value.1 t
    (all-last kept x.value.0 a (entry-sound S text rule kept s x.value.1 x.value.0 x.was)) x.rest
  where
    all-last : (xs : List Kept) (x : Kept) → AreOriginals S xs → has Commit S x.original ≡ true → AreOriginals S (xs ++ x ∷ [])
    all-last [] x a h = and_both h refl
    all-last (y ∷ xs) x a h = and_both (first_so _ _ a) (all-last xs x (second_so (has Commit S y.original) _ a) h)

kept-sound : (h g : Held) (rule : ℕ) (s : Spot) → AreSound h → kept_part h rule s ≡ Ok g → AreSound g
kept-sound h g rule s a e =
    let t = value-of (text_field s) (λ t. number 4 t.1 >>= λ n. entries_field n.0 h.objects t.0 rule h.kept n.1 >>= λ kept. ended_with (record h { kept = kept.0 }) kept.1) g e in
    let n = value-of (number 4 t.value.1) (λ n. entries_field n.0 h.objects t.value.0 rule h.kept n.1 >>= λ kept. ended_with (record h { kept = kept.0 }) kept.1) g t.rest in
    let k = value-of (entries_field n.value.0 h.objects t.value.0 rule h.kept n.value.1) (λ kept. ended_with (record h { kept = kept.0 }) kept.1) g n.rest in
    ended-sound (record h { kept = k.value.0 }) g k.value.1 (record {
      sorted = a.sorted;
      names = a.names;
      heads = a.heads;
      originals = entries-sound n.value.0 h.objects t.value.0 rule h.kept k.value.0 n.value.1 k.value.1 a.originals k.was;
      rule = a.rule;
      fitting = a.fitting;
      tags = a.tags;
    }) k.rest

part-sound : (h g : Held) (kind : ItemKind) (s : Spot) → AreSound h → part h kind s ≡ Ok g → AreSound g
part-sound h g ChangeItem s a e = change-sound h g s a e
part-sound h g OldKeptItem s a e = kept-sound h g 1 s a e
part-sound h g KeptItem s a e = let k = value-of (rule_field s) (λ k. kept_part h k.0 k.1) g e in kept-sound h g k.value.0 k.value.1 a k.rest
part-sound h g RuleItem s a e =
    let k = value-of (rule_field s) (λ k. ended_with (record h { rule = k.0 }) k.1) g e in
    ended-sound (record h { rule = k.value.0 }) g k.value.1 (record { sorted = a.sorted; names = a.names; heads = a.heads; originals = a.originals; rule = rule-sound s k.value.1 k.value.0 k.was; fitting = a.fitting; tags = a.tags }) k.rest
part-sound h g TagItem s a e = tag-sound h g s a e

item-sound : (h g : Held) (item : Bytes) → AreSound h → read_item h item ≡ Ok g → AreSound g
unfolding read_item
item-sound h g item a e = let k = value-of (item_kind_field (start item)) (λ k. part h k.0 k.1) g e in part-sound h g k.value.0 k.value.1 a k.rest

pub refused-value : {A E F : Type 0} (say : E → F) (r : Result A E) (x : A) → refused_by say r ≡ Ok x → r ≡ Ok x
refused-value say (Ok y) x e = cc
refused-value say (Err d) x e = cc

one-sound : (number size : ℕ) (h g : Held) (item : Bytes) → AreSound h → read_one number size h item ≡ Ok g → AreSound g
one-sound number size h g item a e =
    let f = must-hold (number, BrokenAt 0) (item_fits number size item) (λ _. refused_by (λ f. (number, f)) (read_item h item)) g e in
    item-sound h g item a (refused-value (λ f. (number, f)) (read_item h item) g f.1)

from-sound : (items : List Bytes) (number size : ℕ) (h g : Held) → AreSound h → read_from number size h items ≡ Ok g → AreSound g
from-sound [] number size h g a e = let same : h ≡ g = cc in subst (λ (x : Held). AreSound x) same a
from-sound (item ∷ items) number size h g a e =
    let k = value-of (read_one number size h item) (λ after. read_from (number + 1) (size + length item) after items) g e in
    from-sound items (number + 1) (size + length item) k.value g (one-sound number size h k.value item a k.was) k.rest

pub read-sound : (items : List Bytes) (h : Held) → read_items items ≡ Ok h → IsSoundHeld h
unfolding read_items
read-sound items h e =
    let s = from-sound items 0 0 nothing h (record { sorted = tt; names = refl; heads = refl; originals = refl; rule = refl; fitting = tt; tags = refl }) e in
    record { sorted = s.sorted; names = s.names; heads = s.heads; originals = s.originals; rule = s.rule; trees = fitting-commits h.objects s.fitting; tags = s.tags }

-- ---- a store

no-none : {A : Type 0} (x : A) → Some x ≡ None → ⊥
no-none x h = cc

none-missing : (o : Option Bytes) (later : Option Refusal) → if_missing o later ≡ None → is_none o ≡ true
none-missing None later e = refl
none-missing (Some n) later e = absurd (no-none (Missing n) e)

-- a body that isn't refused
body-from : (S : List Object) (k : Kind) (b : Bytes) (later : Option Refusal) → is_bytes b ≡ true → of_body S k b later ≡ None → is_body S k b ≡ true
body-from S Blob b later h e = h
body-from S Tree b later h e =
    and_both h (elim (tree_entries b) as (λ o. of_tree S o later ≡ None → option_map_or (λ es. is_none (missing_entry S es)) o false ≡ true) [
      | None ↦ λ g. absurd (no-none NotBody g)
      | Some es ↦ λ g. none-missing (missing_entry S es) later g
    ] e)
body-from S Commit b later h e =
    and_both h (elim (commit_from b) as (λ o. of_commit S o later ≡ None → option_map_or (λ c. is_none (missing_of_commit S c)) o false ≡ true) [
      | None ↦ λ g. absurd (no-none NotBody g)
      | Some c ↦ λ g. none-missing (missing_of_commit S c) later g
    ] e)

-- objects that are a store, and bytes behind them
abbrev IsStored : List Object → Spot → Type 0
IsStored S s = IsStore S × AreBytes s.rest

store-taken : (S T : List Object) (s t : Spot) → IsStored S s → Taken S T s t → IsStored T t
store-taken S T s t p w =
    let o = w.object in
    let b = w.bytes p.1 in
    (subst IsStore (sym w.same) (body-from S o.kind o.body _ b.0 w.taken.refused, w.taken.new, p.0), b.1)

change-store : (h g : Held) (s : Spot) → IsStored h.objects s → change_part h s ≡ Ok g → IsStore g.objects
change-store h g s p e =
    let n = value-of (number 4 s)
    (λ n. objects_field n.0 h.objects n.1 >>= λ o. number 4 o.1 >>= λ m. refs_field m.0 o.0 None h.refs m.1 >>= λ r. ended_with (record h { objects = o.0; refs = r.0 }) r.1) g e in
    let o = value-of (objects_field n.value.0 h.objects n.value.1) (λ o. number 4 o.1 >>= λ m. refs_field m.0 o.0 None h.refs m.1 >>= λ r. ended_with (record h { objects = o.0; refs = r.0 }) r.1) g n.rest in
    let m = value-of (number 4 o.value.1) (λ m. refs_field m.0 o.value.0 None h.refs m.1 >>= λ r. ended_with (record h { objects = o.value.0; refs = r.0 }) r.1) g o.rest in
    let r = value-of (refs_field m.value.0 o.value.0 None h.refs m.value.1) (λ r. ended_with (record h { objects = o.value.0; refs = r.0 }) r.1) g m.rest in
    let stored = objects-keep IsStored store-taken n.value.0 h.objects o.value.0 n.value.1 o.value.1 (p.0, number-bytes 4 s n.value.1 n.value.0 n.was p.1) o.was in
    subst (λ (k : Held). IsStore k.objects) (ended-value (record h { objects = o.value.0; refs = r.value.0 }) g r.value.1 r.rest) stored.0

tag-store : (h g : Held) (s : Spot) → IsStored h.objects s → tag_part h s ≡ Ok g → IsStore g.objects
tag-store h g s p e =
    let n = value-of (number 4 s)
    (λ n. objects_field n.0 h.objects n.1 >>= λ o. number 4 o.1 >>= λ m. refs_field m.0 o.0 None h.refs m.1 >>= λ r. number 4 r.1 >>= λ k. tags_field k.0 o.0 None h.tags k.1 >>= λ x. ended_with (record h { objects = o.0; refs = r.0; tags = x.0 }) x.1) g e in
    let o = value-of (objects_field n.value.0 h.objects n.value.1) (λ o. number 4 o.1 >>= λ m. refs_field m.0 o.0 None h.refs m.1 >>= λ r. number 4 r.1 >>= λ k. tags_field k.0 o.0 None h.tags k.1 >>= λ x. ended_with (record h { objects = o.0; refs = r.0; tags = x.0 }) x.1) g n.rest in
    let m = value-of (number 4 o.value.1) (λ m. refs_field m.0 o.value.0 None h.refs m.1 >>= λ r. number 4 r.1 >>= λ k. tags_field k.0 o.value.0 None h.tags k.1 >>= λ x. ended_with (record h { objects = o.value.0; refs = r.0; tags = x.0 }) x.1) g o.rest in
    let r = value-of (refs_field m.value.0 o.value.0 None h.refs m.value.1) (λ r. number 4 r.1 >>= λ k. tags_field k.0 o.value.0 None h.tags k.1 >>= λ x. ended_with (record h { objects = o.value.0; refs = r.0; tags = x.0 }) x.1) g m.rest in
    let k = value-of (number 4 r.value.1) (λ k. tags_field k.0 o.value.0 None h.tags k.1 >>= λ x. ended_with (record h { objects = o.value.0; refs = r.value.0; tags = x.0 }) x.1) g r.rest in
    let x = value-of (tags_field k.value.0 o.value.0 None h.tags k.value.1) (λ x. ended_with (record h { objects = o.value.0; refs = r.value.0; tags = x.0 }) x.1) g k.rest in
    let stored = objects-keep IsStored store-taken n.value.0 h.objects o.value.0 n.value.1 o.value.1 (p.0, number-bytes 4 s n.value.1 n.value.0 n.was p.1) o.was in
    subst (λ (k : Held). IsStore k.objects) (ended-value (record h { objects = o.value.0; refs = r.value.0; tags = x.value.0 }) g x.value.1 x.rest) stored.0

kept-store : (h g : Held) (rule : ℕ) (s : Spot) → IsStore h.objects → kept_part h rule s ≡ Ok g → IsStore g.objects
kept-store h g rule s p e =
    let t = value-of (text_field s) (λ t. number 4 t.1 >>= λ n. entries_field n.0 h.objects t.0 rule h.kept n.1 >>= λ kept. ended_with (record h { kept = kept.0 }) kept.1) g e in
    let n = value-of (number 4 t.value.1) (λ n. entries_field n.0 h.objects t.value.0 rule h.kept n.1 >>= λ kept. ended_with (record h { kept = kept.0 }) kept.1) g t.rest in
    let k = value-of (entries_field n.value.0 h.objects t.value.0 rule h.kept n.value.1) (λ kept. ended_with (record h { kept = kept.0 }) kept.1) g n.rest in
    subst (λ (x : Held). IsStore x.objects) (ended-value (record h { kept = k.value.0 }) g k.value.1 k.rest) p

part-store : (h g : Held) (kind : ItemKind) (s : Spot) → IsStored h.objects s → part h kind s ≡ Ok g → IsStore g.objects
part-store h g ChangeItem s p e = change-store h g s p e
part-store h g OldKeptItem s p e = kept-store h g 1 s p.0 e
part-store h g KeptItem s p e = let k = value-of (rule_field s) (λ k. kept_part h k.0 k.1) g e in kept-store h g k.value.0 k.value.1 p.0 k.rest
part-store h g RuleItem s p e =
    let k = value-of (rule_field s) (λ k. ended_with (record h { rule = k.0 }) k.1) g e in
    subst (λ (x : Held). IsStore x.objects) (ended-value (record h { rule = k.value.0 }) g k.value.1 k.rest) p.0
part-store h g TagItem s p e = tag-store h g s p e

-- the two bytes in front
front-bytes : (s t : Spot) (k : ItemKind) → item_kind_field s ≡ Ok (k, t) → AreBytes s.rest → AreBytes t.rest
front-bytes s t k e h =
    let f = value-of (number 1 s) (λ f. must (BrokenAt s.at) (f.0 == 1 || f.0 == 2) >>= λ _. number 1 f.1 >>= λ k. or_refuse (BrokenAt f.1.at) (item_kind f.0 k.0) >>= λ kind. Ok (kind, k.1)) (k, t) e in
    let m = must-hold (BrokenAt s.at) (f.value.0 == 1 || f.value.0 == 2) (λ _. number 1 f.value.1 >>= λ k. or_refuse (BrokenAt f.value.1.at) (item_kind f.value.0 k.0) >>= λ kind. Ok (kind, k.1)) (k, t) f.rest in
    let j = value-of (number 1 f.value.1) (λ k. or_refuse (BrokenAt f.value.1.at) (item_kind f.value.0 k.0) >>= λ kind. Ok (kind, k.1)) (k, t) m.1 in
    let i = value-of (or_refuse (BrokenAt f.value.1.at) (item_kind f.value.0 j.value.0)) (λ kind. Ok (kind, j.value.1)) (k, t) j.rest in
    subst (λ (u : Spot). AreBytes u.rest) (back-same i.value k j.value.1 t i.rest) (number-bytes 1 f.value.1 j.value.1 j.value.0 j.was (number-bytes 1 s f.value.1 f.value.0 f.was h))

item-store : (h g : Held) (item : Bytes) → IsStore h.objects → is_bytes item ≡ true → read_item h item ≡ Ok g → IsStore g.objects
unfolding read_item
item-store h g item p b e =
    let k = value-of (item_kind_field (start item)) (λ k. part h k.0 k.1) g e in part-store h g k.value.0 k.value.1 (p, front-bytes (start item) k.value.1 k.value.0 k.was b) k.rest

from-store : (items : List Bytes) (number size : ℕ) (h g : Held) → list_all is_bytes items ≡ true → IsStore h.objects → read_from number size h items ≡ Ok g → IsStore g.objects
from-store [] number size h g b p e = let same : h ≡ g = cc in subst (λ (x : Held). IsStore x.objects) same p
from-store (item ∷ items) number size h g b p e =
    let k = value-of (read_one number size h item) (λ after. read_from (number + 1) (size + length item) after items) g e in
    let f = must-hold (number, BrokenAt 0) (item_fits number size item) (λ _. refused_by (λ f. (number, f)) (read_item h item)) k.value k.was in
    let one = item-store h k.value item p (first_so _ _ b) (refused-value (λ f. (number, f)) (read_item h item) k.value f.1) in
    from-store items (number + 1) (size + length item) k.value g (second_so (is_bytes item) _ b) one k.rest

read-store : (items : List Bytes) (h : Held) → list_all is_bytes items ≡ true → read_items items ≡ Ok h → IsStore h.objects
unfolding read_items
read-store items h b e = from-store items 0 0 nothing h b tt e

pub read-law : ReadLaw
read-law = record { sound = read-sound; store = read-store }
