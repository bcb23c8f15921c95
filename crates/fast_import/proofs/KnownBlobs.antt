-- Blobs by their names, in the code and in the replay.
use Rattle.std.proofs.Common.{◌≡◌, Bool, true, false, cond, ◌||◌, List, [], ◌∷◌, ◌++◌, map, Option, Some, None, refl, sym, ap, subst, ◌∙◌}
use Rattle.std.specs.Prelude.{find}
use Rattle.std.specs.Cmp.Lexicographic.{bytes_decides}
use Rattle.std.specs.List.{list_any}
use Rattle.std.specs.Option.{option_or}
use Rattle.git_objects.specs.Lists.{Each}
use Rattle.git_objects.specs.Names.{name}
use Rattle.git_objects.specs.Paths.{Bytes, same_bytes}
use Rattle.git_objects.specs.Refs.{Refs}
use Rattle.git_objects.specs.declared.kind.Kind.TheVariants.{Blob}
use Rattle.git_objects.specs.declared.name.Name.{Name}
use Rattle.git_objects.proofs.Basics.{same_bytes-back}
use Rattle.object_store.specs.Objects.{Object, IsStore, body_of, find_named, has}
use Rattle.object_store.proofs.Held.{body_named}
use Rattle.object_store.proofs.Parts.{find-has, find-name}
use Rattle.fast_import.specs.Bases.{IsBaseIn, base_in}
use Rattle.fast_import.specs.Made.{blob_object}
use Rattle.fast_import.specs.Replays.{Replay, blob_named}
use Rattle.fast_import.specs.Replaying.{Replaying, is_named}
use Rattle.fast_import.specs.Standing.{AreBlobsIn, IsBlobIn, IsReplayOf}

find-append : {A : Type 0} (p : A → Bool) (xs ys : List A) → find p (xs ++ ys) ≡ option_or (find p xs) (find p ys)
find-append p [] ys = refl
find-append p (x ∷ xs) ys = elim (p x) as (λ b. cond b (Some x) (find p (xs ++ ys)) ≡ option_or (cond b (Some x) (find p xs)) (find p ys)) [ true ↦ refl | false ↦ find-append p xs ys ]

module _ (S : List Object) (n : Name) where
  abbrev pub has_it : Bytes → Bool
  has_it b = same_bytes (name Blob b) n.0

  -- a blob with this name is found
  pub record IsFound (bs : List Bytes) : Type 0 where
    pub blob : Bytes
    pub found : find has_it bs ≡ Some blob
    pub held : IsBlobIn S n blob

  test_is : (m : Name) (b : Bytes) → IsBlobIn S m b → is_named n m ≡ has_it b
  test_is m b h = ap (λ (x : Bytes). same_bytes n.0 x) (sym (find-name S m.0 (blob_object b) h)) ∙ same_bytes-back n.0 (name Blob b)

  read_there : (ns : List Name) (bs : List Bytes) → AreBlobsIn S ns bs → list_any (is_named n) ns ≡ true → IsFound bs
  read_there [] bs h e = absurd cc
  read_there (m ∷ ns) [] h e = absurd h
  read_there (m ∷ ns) (b ∷ bs) h e =
      elim (is_named n m) as (λ t. is_named n m ≡ t → (t || list_any (is_named n) ns) ≡ true → IsFound (b ∷ bs)) [
        | true ↦ λ q g. record {
          blob = b;
          found = ap (λ t. cond t (Some b) (find has_it bs)) (sym (test_is m b h.0) ∙ q);
          held = subst (λ (x : Bytes). find_named S x ≡ Some (blob_object b)) (sym ((bytes_decides n.0 m.0).0 q)) h.0;
        }
        | false ↦ λ q g. let x = read_there ns bs h.1 g in record { blob = x.blob; found = ap (λ t. cond t (Some b) (find has_it bs)) (sym (test_is m b h.0) ∙ q) ∙ x.found; held = x.held }
      ] refl e

  read_none : (ns : List Name) (bs : List Bytes) → AreBlobsIn S ns bs → list_any (is_named n) ns ≡ false → find has_it bs ≡ None
  read_none [] [] h e = refl
  read_none [] (b ∷ bs) h e = absurd h
  read_none (m ∷ ns) [] h e = absurd h
  read_none (m ∷ ns) (b ∷ bs) h e =
      elim (is_named n m) as (λ t. is_named n m ≡ t → (t || list_any (is_named n) ns) ≡ false → cond (has_it b) (Some b) (find has_it bs) ≡ None) [
        | true ↦ λ q g. cc
        | false ↦ λ q g. ap (λ t. cond t (Some b) (find has_it bs)) (sym (test_is m b h.0) ∙ q) ∙ read_none ns bs h.1 g
      ] refl e

  held_test : (m : Bytes) → has Blob S m ≡ true → same_bytes n.0 m ≡ has_it (body_of Blob S m)
  held_test m h = ap (λ (x : Bytes). same_bytes n.0 x) (sym (body_named Blob S m h)) ∙ same_bytes-back n.0 (name Blob (body_of Blob S m))

  base_there : IsStore S → (ms : List Bytes) → Each (λ m. has Blob S m ≡ true) ms → list_any (same_bytes n.0) ms ≡ true → IsFound (map (body_of Blob S) ms)
  base_there s [] h e = absurd cc
  base_there s (m ∷ ms) h e =
      elim (same_bytes n.0 m) as (λ t. same_bytes n.0 m ≡ t → (t || list_any (same_bytes n.0) ms) ≡ true → IsFound (map (body_of Blob S) (m ∷ ms))) [
        | true ↦ λ q g. record {
          blob = body_of Blob S m;
          found = ap (λ t. cond t (Some (body_of Blob S m)) (find has_it (map (body_of Blob S) ms))) (sym (held_test m h.0) ∙ q);
          held = subst (λ (x : Bytes). find_named S x ≡ Some (blob_object (body_of Blob S m))) (sym ((bytes_decides n.0 m).0 q)) (find-has S Blob m s h.0);
        }
        | false ↦ λ q g. let x = base_there s ms h.1 g in record { blob = x.blob; found = ap (λ t. cond t (Some (body_of Blob S m)) (find has_it (map (body_of Blob S) ms))) (sym (held_test m h.0) ∙ q) ∙ x.found; held = x.held }
      ] refl e

  base_none : (ms : List Bytes) → Each (λ m. has Blob S m ≡ true) ms → list_any (same_bytes n.0) ms ≡ false → find has_it (map (body_of Blob S) ms) ≡ None
  base_none [] h e = refl
  base_none (m ∷ ms) h e =
      elim (same_bytes n.0 m) as (λ t. same_bytes n.0 m ≡ t → (t || list_any (same_bytes n.0) ms) ≡ false → cond (has_it (body_of Blob S m)) (Some (body_of Blob S m)) (find has_it (map (body_of Blob S) ms)) ≡ None) [
        | true ↦ λ q g. cc
        | false ↦ λ q g. ap (λ t. cond t (Some (body_of Blob S m)) (find has_it (map (body_of Blob S) ms))) (sym (held_test m h.0) ∙ q) ∙ base_none ms h.1 g
      ] refl e

  module _ (v : Replaying) (r : Replay) (h : IsReplayOf S v r) (commits : List (Bytes × Bytes)) (refs : Refs) (blobs : List Bytes) (b : IsBaseIn S commits refs blobs) where
    all_is : blob_named (base_in S commits refs blobs) r n.0 ≡ option_or (find has_it r.blobs) (find has_it (map (body_of Blob S) blobs))
    all_is = find-append has_it r.blobs (map (body_of Blob S) blobs)

    pub record IsKnown : Type 0 where
      pub blob : Bytes
      pub named : blob_named (base_in S commits refs blobs) r n.0 ≡ Some blob
      pub held : IsBlobIn S n blob

    pub blob_known : IsStore S → (list_any (is_named n) v.blobs || list_any (same_bytes n.0) blobs) ≡ true → IsKnown
    blob_known s e =
        elim (list_any (is_named n) v.blobs) as (λ t. list_any (is_named n) v.blobs ≡ t → (t || list_any (same_bytes n.0) blobs) ≡ true → IsKnown) [
          | true ↦ λ q g. let x = read_there v.blobs r.blobs h.blobs q in
              record { blob = x.blob; named = all_is ∙ ap (λ (o : Option Bytes). option_or o (find has_it (map (body_of Blob S) blobs))) x.found; held = x.held }
          | false ↦ λ q g. let x = base_there s blobs b.contents g in
              record { blob = x.blob; named = all_is ∙ ap (λ (o : Option Bytes). option_or o (find has_it (map (body_of Blob S) blobs))) (read_none v.blobs r.blobs h.blobs q) ∙ x.found; held = x.held }
        ] refl e

    pub blob_unknown : (list_any (is_named n) v.blobs || list_any (same_bytes n.0) blobs) ≡ false → blob_named (base_in S commits refs blobs) r n.0 ≡ None
    blob_unknown e =
        elim (list_any (is_named n) v.blobs) as (λ t. list_any (is_named n) v.blobs ≡ t → (t || list_any (same_bytes n.0) blobs) ≡ false → blob_named (base_in S commits refs blobs) r n.0 ≡ None) [
          | true ↦ λ q g. cc
          | false ↦ λ q g. all_is ∙ ap (λ (o : Option Bytes). option_or o (find has_it (map (body_of Blob S) blobs))) (read_none v.blobs r.blobs h.blobs q) ∙ base_none blobs b.contents g
        ] refl e
