-- Objects and refs that were written are read back.
use Rattle.std.proofs.Common.{◌≡◌, ◌+◌, ◌<◌, ◌≤◌, ◌^◌, ℕ, true, false, cond, ◌&&◌, List, [], ◌∷◌, ◌++◌, length, take, drop, reverse, not, Option, None, Some, Result, Ok, Err, refl, sym, ap, ◌∙◌, arith, length-append}
use Rattle.std.specs.Int.{to_be_bytes, w16, w32}
use Rattle.std.specs.List.{flat_map}
use Rattle.std.specs.FinMap.{put as put_entry}
use Rattle.std.proofs.lemmas.Bool.{le-leb}
use Rattle.std.proofs.lemmas.List.{append_assoc, reverse-append}
use Rattle.std.proofs.lemmas.Nat.{from_be_bytes-to_be_bytes_2, from_be_bytes-to_be_bytes_4}
use Rattle.std.proofs.Math.Seq.{drop-append_seam}
use Rattle.git_objects.specs.Paths.{Bytes}
use Rattle.git_objects.specs.declared.kind.Kind.{Kind}
use Rattle.git_objects.specs.declared.kind.Kind.TheVariants.{Blob, Tree, Commit as CommitKind}
use Rattle.path_names.specs.RefNames.{is_ref_name}
use Rattle.object_store.specs.Objects.{Object, object_name, has, has_name}
use Rattle.object_store.specs.Puts.{refusal}
use Rattle.state_items.specs.Changes.{with_refs}
use Rattle.state_items.specs.Fields.{Spot, BrokenAt, field, number, number_of}
use Rattle.git_objects.specs.Results.{◌>>=◌, must, or_refuse}
use Rattle.git_objects.specs.Refs.{Refs, bytes_cmp}
use Rattle.object_store.specs.Fits.{body_fits}
use Rattle.state_items.specs.Items.{has_room, head_field, kind_byte, kind_field, kind_of, object_field, object_text, objects_field, ref_field, ref_text, refs_field, rises, take_object}

-- what follows a value
pub then-ok : {A B E : Type 0} (r : Result A E) (f : A → Result B E) (x : A) → r ≡ Ok x → (r >>= f) ≡ f x
then-ok r f x e = ap (λ q. q >>= f) e

abbrev pub spot : ℕ → Bytes → Spot
spot at rest = record { at = at; rest = rest }

-- ---- fields

pub take-front : (a b : Bytes) → take (length a) (a ++ b) ≡ a
take-front [] b = refl
take-front (x ∷ a) b = ap (λ (t : Bytes). x ∷ t) (take-front a b)

pub field-front : (at : ℕ) (a b : Bytes) → field (length a) (spot at (a ++ b)) ≡ Ok (a, spot (at + length a) b)
field-front at a b =
    let long : length a ≤ length (a ++ b) = omega (arith, length-append a b) in
    ap (λ t. cond t (Ok (take (length a) (a ++ b), spot (at + length a) (drop (length a) (a ++ b)))) (Err (BrokenAt at))) (le-leb (length a) (length (a ++ b)) long)
    ∙ (λ i. Ok (take-front a b i, spot (at + length a) (drop-append_seam a b i)))

pub number_4 : (n : ℕ) → n < 2 ^ 32 → number_of (to_be_bytes w32 n) ≡ n
number_4 n h = let f = from_be_bytes-to_be_bytes_4 n h in omega (arith, f)

pub number_2 : (n : ℕ) → n < 2 ^ 16 → number_of (to_be_bytes w16 n) ≡ n
number_2 n h = let f = from_be_bytes-to_be_bytes_2 n h in omega (arith, f)

pub number-front_4 : (at n : ℕ) (b : Bytes) → n < 2 ^ 32 → number 4 (spot at (to_be_bytes w32 n ++ b)) ≡ Ok (n, spot (at + 4) b)
number-front_4 at n b h =
    then-ok (field 4 (spot at (to_be_bytes w32 n ++ b))) (λ r. Ok (number_of r.0, r.1)) (to_be_bytes w32 n, spot (at + 4) b) (field-front at (to_be_bytes w32 n) b)
    ∙ (λ i. Ok (number_4 n h i, spot (at + 4) b))

pub number-front_2 : (at n : ℕ) (b : Bytes) → n < 2 ^ 16 → number 2 (spot at (to_be_bytes w16 n ++ b)) ≡ Ok (n, spot (at + 2) b)
number-front_2 at n b h =
    then-ok (field 2 (spot at (to_be_bytes w16 n ++ b))) (λ r. Ok (number_of r.0, r.1)) (to_be_bytes w16 n, spot (at + 2) b) (field-front at (to_be_bytes w16 n) b)
    ∙ (λ i. Ok (number_2 n h i, spot (at + 2) b))

pub byte-front : (at x : ℕ) (b : Bytes) → number 1 (spot at (x ∷ b)) ≡ Ok (x, spot (at + 1) b)
byte-front at x b =
    let same : number_of (x ∷ []) ≡ x = omega arith in
    then-ok (field 1 (spot at (x ∷ b))) (λ r. Ok (number_of r.0, r.1)) (x ∷ [], spot (at + 1) b) (field-front at (x ∷ []) b)
    ∙ (λ i. Ok (same i, spot (at + 1) b))

pub kind-front : (at : ℕ) (k : Kind) (b : Bytes) → kind_field (spot at (kind_byte k ∷ b)) ≡ Ok (k, spot (at + 1) b)
kind-front at Blob b = then-ok (number 1 (spot at (1 ∷ b))) (λ x. or_refuse (BrokenAt at) (kind_of x.0) >>= λ k. Ok (k, x.1)) (1, spot (at + 1) b) (byte-front at 1 b)
kind-front at Tree b = then-ok (number 1 (spot at (2 ∷ b))) (λ x. or_refuse (BrokenAt at) (kind_of x.0) >>= λ k. Ok (k, x.1)) (2, spot (at + 1) b) (byte-front at 2 b)
kind-front at CommitKind b = then-ok (number 1 (spot at (3 ∷ b))) (λ x. or_refuse (BrokenAt at) (kind_of x.0) >>= λ k. Ok (k, x.1)) (3, spot (at + 1) b) (byte-front at 3 b)

-- ---- objects

-- an object that fits behind these
pub record Takes (S : List Object) (o : Object) : Type 0 where
  pub refusal_none : refusal S o.kind o.body ≡ None
  pub new : has_name S (object_name o) ≡ false
  pub fits : body_fits S o.kind o.body ≡ true
  pub room : has_room (o ∷ S) ≡ true
  pub short : length o.body < 2 ^ 32

abbrev pub AreTaken : List Object → List Object → Type 0
AreTaken S [] = Unit
AreTaken S (o ∷ os) = Takes S o × AreTaken (o ∷ S) os

pub take-new : (S : List Object) (o : Object) (at : ℕ) → Takes S o → take_object S o.kind o.body at (refusal S o.kind o.body) ≡ Ok (o ∷ S)
take-new S o at h =
    ap (take_object S o.kind o.body at) h.refusal_none ∙ (λ i. cond (not (h.new i) && h.fits i && h.room i) (Ok (o ∷ S)) (Err (BrokenAt at)))

pub object-read : (S : List Object) (o : Object) (at : ℕ) (rest : Bytes) → Takes S o → object_field S (spot at (object_text o ++ rest)) ≡ Ok (o ∷ S, spot (at + 1 + 4 + length o.body) rest)
object-read S o at rest h =
    let n = to_be_bytes w32 (length o.body) in
    let b = o.body in
    let after = spot (at + 1 + 4 + length b) rest in
    ap (λ (t : Bytes). object_field S (spot at (kind_byte o.kind ∷ t))) (append_assoc n b rest)
    ∙ then-ok (kind_field (spot at (kind_byte o.kind ∷ (n ++ (b ++ rest)))))
    (λ k. number 4 k.1 >>= λ n. field n.0 n.1 >>= λ b. take_object S k.0 b.0 n.1.at (refusal S k.0 b.0) >>= λ held. Ok (held, b.1)) (o.kind, spot (at + 1) (n ++ (b ++ rest))) (kind-front at o.kind (n ++ (b ++ rest)))
    ∙ then-ok (number 4 (spot (at + 1) (n ++ (b ++ rest))))
    (λ n. field n.0 n.1 >>= λ b. take_object S o.kind b.0 n.1.at (refusal S o.kind b.0) >>= λ held. Ok (held, b.1)) (length b, spot (at + 1 + 4) (b ++ rest)) (number-front_4 (at + 1) (length b) (b ++ rest) h.short)
    ∙ then-ok (field (length b) (spot (at + 1 + 4) (b ++ rest)))
    (λ c. take_object S o.kind c.0 (at + 1 + 4) (refusal S o.kind c.0) >>= λ held. Ok (held, c.1)) (b, after) (field-front (at + 1 + 4) b rest)
    ∙ ap (λ r. r >>= λ held. Ok (held, after)) (take-new S o (at + 1 + 4) h)

-- so many objects, up to what follows
abbrev pub ReadsObjects : ℕ → List Object → Spot → List Object → Bytes → Type 0
ReadsObjects n S s T rest = (at : ℕ) × (objects_field n S s ≡ Ok (T, spot at rest))

pub objects-read : (os S : List Object) (at : ℕ) (rest : Bytes) → AreTaken S os → ReadsObjects (length os) S (spot at (flat_map object_text os ++ rest)) (reverse os ++ S) rest
objects-read [] S at rest h = (at, refl)
objects-read (o ∷ os) S at rest h =
    let next = objects-read os (o ∷ S) (at + 1 + 4 + length o.body) rest h.1 in
    let back : reverse (o ∷ os) ++ S ≡ reverse os ++ (o ∷ S) = ap (λ (t : List Object). t ++ S) (reverse-append (o ∷ []) os) ∙ append_assoc (reverse os) (o ∷ []) S in (
      next.0,
      ap (λ (t : Bytes). objects_field (length (o ∷ os)) S (spot at t)) (append_assoc (object_text o) (flat_map object_text os) rest)
          ∙ then-ok (object_field S (spot at (object_text o ++ (flat_map object_text os ++ rest)))) (λ r. objects_field (length os) r.0 r.1) (o ∷ S, spot (at + 1 + 4 + length o.body) (flat_map object_text os ++ rest))
          (object-read S o at (flat_map object_text os ++ rest) h.0)
          ∙ next.1
          ∙ ap (λ (T : List Object). Ok (T, spot next.0 rest)) (sym back),
    )

-- ---- refs

-- a ref that stands behind another
pub record Sets (G : List Object) (before : Option Bytes) (r : Bytes × Bytes) : Type 0 where
  pub valid : is_ref_name r.0 ≡ true
  pub rising : rises before r.0 ≡ true
  pub short : length r.0 < 2 ^ 16
  pub named : length r.1 ≡ 20
  pub head : has CommitKind G r.1 ≡ true

abbrev pub AreSet : List Object → Option Bytes → Refs → Type 0
AreSet G before [] = Unit
AreSet G before (r ∷ rs) = Sets G before r × AreSet G (Some r.0) rs

pub ref-read : (before : Option Bytes) (r : Bytes) (at : ℕ) (rest : Bytes) → is_ref_name r ≡ true → rises before r ≡ true → length r < 2 ^ 16 →
    ref_field before (spot at (to_be_bytes w16 (length r) ++ (r ++ rest))) ≡ Ok (r, spot (at + 2 + length r) rest)
ref-read before r at rest v u l =
    then-ok (number 2 (spot at (to_be_bytes w16 (length r) ++ (r ++ rest)))) (λ n. field n.0 n.1 >>= λ q. must (BrokenAt n.1.at) (is_ref_name q.0 && rises before q.0) >>= λ _. Ok q) (length r, spot (at + 2) (r ++ rest))
    (number-front_2 at (length r) (r ++ rest) l)
    ∙ then-ok (field (length r) (spot (at + 2) (r ++ rest))) (λ q. must (BrokenAt (at + 2)) (is_ref_name q.0 && rises before q.0) >>= λ _. Ok q) (r, spot (at + 2 + length r) rest) (field-front (at + 2) r rest)
    ∙ (λ i. must (BrokenAt (at + 2)) (v i && u i) >>= λ _. Ok (r, spot (at + 2 + length r) rest))

pub head-read : (G : List Object) (n : Bytes) (at : ℕ) (rest : Bytes) → length n ≡ 20 → has CommitKind G n ≡ true → head_field G (spot at (n ++ rest)) ≡ Ok (n, spot (at + length n) rest)
head-read G n at rest l h =
    ap (λ k. field k (spot at (n ++ rest)) >>= λ r. must (BrokenAt at) (has CommitKind G r.0) >>= λ _. Ok r) (sym l)
    ∙ then-ok (field (length n) (spot at (n ++ rest))) (λ r. must (BrokenAt at) (has CommitKind G r.0) >>= λ _. Ok r) (n, spot (at + length n) rest) (field-front at n rest)
    ∙ ap (λ t. must (BrokenAt at) t >>= λ _. Ok (n, spot (at + length n) rest)) h

abbrev pub ReadsRefs : ℕ → List Object → Option Bytes → Refs → Spot → Refs → Bytes → Type 0
ReadsRefs n G before refs s after rest = (at : ℕ) × (refs_field n G before refs s ≡ Ok (after, spot at rest))

pub refs-read : (G : List Object) (rs : Refs) (before : Option Bytes) (refs : Refs) (at : ℕ) (rest : Bytes) → AreSet G before rs →
    ReadsRefs (length rs) G before refs (spot at (flat_map ref_text rs ++ rest)) (with_refs refs rs) rest
refs-read G [] before refs at rest h = (at, refl)
refs-read G (r ∷ rs) before refs at rest h =
    let n = to_be_bytes w16 (length r.0) in
    let more = flat_map ref_text rs ++ rest in
    let at1 = at + 2 + length r.0 in
    let at2 = at1 + length r.1 in
    let set = put_entry bytes_cmp r.0 r.1 refs in
    let next = refs-read G rs (Some r.0) set at2 rest h.1 in
    let text : flat_map ref_text (r ∷ rs) ++ rest ≡ n ++ (r.0 ++ (r.1 ++ more)) =
    append_assoc (n ++ r.0 ++ r.1) (flat_map ref_text rs) rest ∙ append_assoc (n ++ r.0) r.1 more ∙ append_assoc n r.0 (r.1 ++ more) in (
      next.0,
      ap (λ (t : Bytes). refs_field (length (r ∷ rs)) G before refs (spot at t)) text
          ∙ then-ok (ref_field before (spot at (n ++ (r.0 ++ (r.1 ++ more))))) (λ q. head_field G q.1 >>= (λ h. refs_field (length rs) G (Some q.0) (put_entry bytes_cmp q.0 h.0 refs) h.1)) (r.0, spot at1 (r.1 ++ more))
          (ref-read before r.0 at (r.1 ++ more) h.0.valid h.0.rising h.0.short)
          ∙ then-ok (head_field G (spot at1 (r.1 ++ more))) (λ h. refs_field (length rs) G (Some r.0) (put_entry bytes_cmp r.0 h.0 refs) h.1) (r.1, spot at2 more) (head-read G r.1 at1 more h.0.named h.0.head)
          ∙ next.1,
    )
