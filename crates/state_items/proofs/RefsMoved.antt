-- The refs of a change: valid names in byte order, each with a commit that is held.
use Rattle.std.proofs.Common.{◌≡◌, Bool, true, false, cond, T, List, [], ◌∷◌, filter, length, Option, None, Some, refl, sym, ap, ◌∙◌, arith}
use borrow.Author.Tests.{leb-true}
use Rattle.std.specs.Prelude.{nat_le}
use Rattle.std.specs.Cmp.{first_so, second_so}
use Rattle.std.specs.Ordering.{is_lt}
use Rattle.std.specs.List.{list_all}
use Rattle.std.specs.FinMap.{put, is_sorted}
use Rattle.std.specs.FinMap.Entries.{below_all, by_order}
use Rattle.std.proofs.lemmas.Bool.{eqb-true}
use Rattle.std.specs.declared.cmp.Ordering.{Ordering}
use Rattle.std.specs.declared.cmp.Ordering.TheVariants.{Less, Equal, Greater}
use Rattle.git_objects.specs.Paths.{Bytes}
use Rattle.git_objects.specs.Bodies.{is_name}
use Rattle.git_objects.specs.Names.{name}
use Rattle.git_objects.specs.Refs.{Refs, bytes_cmp}
use Rattle.git_objects.specs.declared.kind.Kind.{Kind}
use Rattle.git_objects.specs.declared.kind.Kind.TheVariants.{Commit as CommitKind}
use Rattle.git_objects.proofs.Basics.{and_both, first, second}
use Rattle.git_objects.proofs.Digests.{name-is_name}
use Rattle.path_names.specs.RefNames.{is_ref_name}
use Rattle.object_store.specs.Objects.{Object, has, body_of}
use Rattle.object_store.proofs.Held.{body_named}
use Rattle.state_items.specs.Changes.{is_moved, moved, with_refs}
use Rattle.state_items.specs.Items.{rises}
use Rattle.state_items.proofs.ReadFields.{AreSet}
use Rattle.state_items.proofs.RefsSet.{sorted-filter, sorted-with}

-- ---- tests that hold of each

module _ (q : Bytes × Bytes → Bool) where
  abbrev pub all_refs : Refs → Bool
  all_refs m = list_all q m

  refs-filter : (p : Bytes × Bytes → Bool) (m : Refs) → all_refs m ≡ true → all_refs (filter p m) ≡ true
  refs-filter p [] h = refl
  refs-filter p (d ∷ m) h =
      elim (p d) as (λ b. all_refs (cond b (d ∷ filter p m) (filter p m)) ≡ true) [
        | true ↦ and_both (first_so (q d) _ h) (refs-filter p m (second_so (q d) _ h))
        | false ↦ refs-filter p m (second_so (q d) _ h)
      ]

module _ (q : Bytes → Bool) where
  pub keys-put : (m : Refs) (k v : Bytes) → list_all (λ e. q e.0) m ≡ true → q k ≡ true → list_all (λ e. q e.0) (put bytes_cmp k v m) ≡ true
  keys-put [] k v h g = and_both g refl
  keys-put (d ∷ m) k v h g =
      elim (bytes_cmp k d.0) as (λ (o : Ordering). list_all (λ e. q e.0) (by_order o ((k, v) ∷ d ∷ m) ((d.0, v) ∷ m) (d ∷ put bytes_cmp k v m)) ≡ true) [
        | Less ↦ and_both g h
        | Equal ↦ h
        | Greater ↦ and_both (first_so (q d.0) _ h) (keys-put m k v (second_so (q d.0) _ h) g)
      ]

  keys-with : (es m : Refs) → list_all (λ e. q e.0) m ≡ true → list_all (λ e. q e.0) es ≡ true → list_all (λ e. q e.0) (with_refs m es) ≡ true
  keys-with [] m h g = h
  keys-with (e ∷ es) m h g = keys-with es (put bytes_cmp e.0 e.1 m) (keys-put m e.0 e.1 h (first_so (q e.0) _ g)) (second_so (q e.0) _ g)

  pub keys-moved : (refs es : Refs) → list_all (λ e. q e.0) es ≡ true → list_all (λ e. q e.0) (moved refs es) ≡ true
  keys-moved refs es h = refs-filter (λ e. q e.0) (is_moved refs) (with_refs [] es) (keys-with es [] refl h)

  pub values-put : (m : Refs) (k v : Bytes) → list_all (λ e. q e.1) m ≡ true → q v ≡ true → list_all (λ e. q e.1) (put bytes_cmp k v m) ≡ true
  values-put [] k v h g = and_both g refl
  values-put (d ∷ m) k v h g =
      elim (bytes_cmp k d.0) as (λ (o : Ordering). list_all (λ e. q e.1) (by_order o ((k, v) ∷ d ∷ m) ((d.0, v) ∷ m) (d ∷ put bytes_cmp k v m)) ≡ true) [
        | Less ↦ and_both g h
        | Equal ↦ and_both g (second_so (q d.1) _ h)
        | Greater ↦ and_both (first_so (q d.1) _ h) (values-put m k v (second_so (q d.1) _ h) g)
      ]

  values-with : (es m : Refs) → list_all (λ e. q e.1) m ≡ true → list_all (λ e. q e.1) es ≡ true → list_all (λ e. q e.1) (with_refs m es) ≡ true
  values-with [] m h g = h
  values-with (e ∷ es) m h g = values-with es (put bytes_cmp e.0 e.1 m) (values-put m e.0 e.1 h (first_so (q e.1) _ g)) (second_so (q e.1) _ g)

  pub values-moved : (refs es : Refs) → list_all (λ e. q e.1) es ≡ true → list_all (λ e. q e.1) (moved refs es) ≡ true
  values-moved refs es h = refs-filter (λ e. q e.1) (is_moved refs) (with_refs [] es) (values-with es [] refl h)

-- ---- byte order

sorted-moved : (refs es : Refs) → T (is_sorted bytes_cmp (moved refs es))
sorted-moved refs es = sorted-filter (is_moved refs) (with_refs [] es) (sorted-with es [] tt)

-- ---- names

pub short : (t : Bytes) → is_ref_name t ≡ true → nat_le (length t) 1024 ≡ true
unfolding is_ref_name
short t h =
    second_so (nat_le 6 (length t)) _ (first_so _ _ (first_so _ _ (first_so _ _ (first_so _ _ (first_so _ _ (first_so _ _ (first_so _ _ (first_so _ _ h))))))))

pub name-long : (n : Bytes) → is_name n ≡ true → length n ≡ 20
name-long n h = eqb-true (length n) 20 (second_so _ _ h)

pub held-long : (k : Kind) (G : List Object) (n : Bytes) → has k G n ≡ true → length n ≡ 20
held-long k G n h = ap length (sym (body_named k G n h)) ∙ name-long (name k (body_of k G n)) (name-is_name k (body_of k G n))

-- ---- one behind another

abbrev Rises : Option Bytes → Refs → Type 0
Rises before [] = Unit
Rises before (r ∷ rs) = rises before r.0 ≡ true

rises-next : (r : Bytes) (rs : Refs) → T (below_all bytes_cmp r rs) → Rises (Some r) rs
rises-next r [] h = tt
rises-next r (d ∷ rs) h = so (is_lt (bytes_cmp r d.0)) (first _ _ h)
  where
    so : (b : Bool) → T b → b ≡ true
    so true h = refl
    so false h = absurd h

set-all : (G : List Object) (before : Option Bytes) (rs : Refs) → Rises before rs → T (is_sorted bytes_cmp rs) → list_all (λ (e : Bytes × Bytes). is_ref_name e.0) rs ≡ true →
    list_all (λ (e : Bytes × Bytes). has CommitKind G e.1) rs ≡ true → AreSet G before rs
set-all G before [] u s v h = tt
set-all G before (r ∷ rs) u s v h =
    let valid : is_ref_name r.0 ≡ true = first_so _ _ v in
    let head : has CommitKind G r.1 ≡ true = first_so _ _ h in (
      record {
        valid = valid;
        rising = u;
        short = let l = leb-true (length r.0) 1024 (short r.0 valid) in omega (arith, l);
        named = held-long CommitKind G r.1 head;
        head = head;
      },
      set-all G (Some r.0) rs (rises-next r.0 rs (first _ _ s)) (second _ _ s) (second_so (is_ref_name r.0) _ v) (second_so (has CommitKind G r.1) _ h),
    )

rises-first : (rs : Refs) → Rises None rs
rises-first [] = tt
rises-first (r ∷ rs) = refl

-- the refs of a change are set one behind another
pub moved-set : (G : List Object) (refs es : Refs) → list_all (λ (e : Bytes × Bytes). is_ref_name e.0) (moved refs es) ≡ true →
    list_all (λ (e : Bytes × Bytes). has CommitKind G e.1) (moved refs es) ≡ true → AreSet G None (moved refs es)
moved-set G refs es v h = set-all G None (moved refs es) (rises-first (moved refs es)) (sorted-moved refs es) v h
