-- The commits and the blobs of a store, by their names.
use Rattle.std.proofs.Common.{◌≡◌, ◌+◌, ◌<◌, ℕ, suc, Bool, true, false, cond, ◌&&◌, ◌||◌, List, [], ◌∷◌, ◌++◌, length, map, filter, position, Option, Some, None, All, refl, sym, ap, subst, ◌∙◌, arith, length-append, true≢false, not, one-add}
use Rattle.std.specs.Prelude.{nat_lt}
use Rattle.std.specs.List.{list_all, list_any, position_or_len}
use Rattle.std.specs.Option.{is_some, unwrap_or}
use Rattle.std.proofs.lemmas.Bool.{false_from_ne_true}
use Rattle.std.proofs.lemmas.Bool.Decides.{nat_tests}
use Rattle.std.proofs.lemmas.List.{map-append}
use Rattle.std.specs.Bool.{if◌then◌else◌}
use Rattle.indexmap.specs.IndexSet.{insert_key}
use Rattle.git_objects.specs.Parts.{name_bytes}
use Rattle.std.proofs.lemmas.List.Folds.{list_any-append}
use Rattle.git_objects.proofs.Basics.{same_bytes-back}
use Rattle.git_objects.specs.Lists.{Each}
use Rattle.git_objects.specs.Paths.{Bytes, same_bytes}
use Rattle.git_objects.specs.Names.{name}
use Rattle.git_objects.specs.Commits.{Commit}
use Rattle.git_objects.specs.CommitBodies.{commit_from}
use Rattle.git_objects.specs.declared.name.Name.{Name}
use Rattle.git_objects.specs.declared.kind.Kind.{Kind}
use Rattle.git_objects.specs.declared.kind.Kind.TheVariants.{Blob, Tree, Commit as CommitKind}
use Rattle.object_store.specs.Objects.{Object, same_kind, has, has_name, is_body, IsStore}
use Rattle.object_store.specs.Fits.{is_commit}
use Rattle.object_store.proofs.Held.{has_name-from}
use Rattle.object_store.proofs.StoredCommits.{commit-held}
use Rattle.commit_graph.specs.Graphs.{Row, IsGraph, place_of}
use Rattle.commit_graph.proofs.Places.{graph-nil, graph-push}
use borrow.Author.Tests.{ltb-true}
use Rattle.std.proofs.lemmas.List.Elements.{All-nil, All-cons}
use Rattle.state_items.specs.Arrivals.{AreHeld, blobs_of, commit_row, place_in, rows_of, with_blob_name, with_commit, with_row, HasParents}
use Rattle.state_items.proofs.Naming.{any-map, or-back, or-false}

-- ---- places

suc-lt : (n m : ℕ) → nat_lt (suc n) (suc m) ≡ nat_lt n m
suc-lt n m = grind (arith, nat_tests)

zero-lt : (m : ℕ) → nat_lt 0 (suc m) ≡ true
zero-lt m = grind (arith, nat_tests)

lt-step : (n m : ℕ) (later : Bool) → nat_lt n m ≡ later → (b : Bool) → nat_lt (cond (not b) (1 + n) 0) (suc m) ≡ (b || later)
lt-step n m later h true = zero-lt m
lt-step n m later h false = ap (λ (k : ℕ). nat_lt k (suc m)) (one-add n) ∙ suc-lt n m ∙ h

lt-any : {A : Type 0} (p : A → Bool) (xs : List A) → nat_lt (position_or_len p xs) (length xs) ≡ list_any p xs
lt-any p [] = refl
lt-any p (x ∷ xs) = lt-step (position_or_len p xs) (length xs) (list_any p xs) (lt-any p xs) (p x)

pub some-place : {A : Type 0} (p : A → Bool) (xs : List A) → is_some (position p xs) ≡ list_any p xs
some-place p xs = by (nat_lt (position_or_len p xs) (length xs)) (position_or_len p xs) ∙ lt-any p xs
  where
    by : (b : Bool) (n : ℕ) → is_some (cond b (Some n) None) ≡ b
    by true n = refl
    by false n = refl

-- ---- commits

rows-step : (S : List Object) (n : Bytes) (k : Kind) (b : Bytes) → is_body S k b ≡ true → list_any (λ (r : Row). same_bytes r.name n) (rows_of S) ≡ has CommitKind S n
    → list_any (λ (r : Row). same_bytes r.name n) (with_row (rows_of S) k b) ≡ ((same_kind CommitKind k && same_bytes (name k b) n) || has CommitKind S n)
rows-step S n Blob b w h = h
rows-step S n Tree b w h = h
rows-step S n CommitKind b w h =
    let c = commit-held S b w in
    let own : Bool = same_bytes (name CommitKind b) n in
    ap (λ (o : Option Commit). list_any (λ (r : Row). same_bytes r.name n) (with_commit (rows_of S) (name CommitKind b) o)) c.read
    ∙ list_any-append (λ (r : Row). same_bytes r.name n) (rows_of S) (commit_row (rows_of S) (name CommitKind b) c.commit ∷ [])
    ∙ (λ i. h i || or-false own i)
    ∙ or-back (has CommitKind S n) own

rows-there : (n : Bytes) (S : List Object) → IsStore S → list_any (λ (r : Row). same_bytes r.name n) (rows_of S) ≡ has CommitKind S n
unfolding rows_of has
rows-there n [] s = refl
rows-there n (o ∷ S) s = rows-step S n o.kind o.body s.0 (rows-there n S s.2)

-- a commit that is held has a place, and no other name
pub place-there : (n : Bytes) (S : List Object) → IsStore S → is_some (place_of n (rows_of S)) ≡ has CommitKind S n
place-there n S s = some-place (λ (r : Row). same_bytes r.name n) (rows_of S) ∙ rows-there n S s

none-from : {A : Type 0} (o : Option A) → is_some o ≡ false → o ≡ None
none-from None h = refl
none-from (Some x) h = absurd (true≢false h)

-- a name that nothing has is no commit's
pub place-fresh : (n : Bytes) (S : List Object) → IsStore S → has_name S n ≡ false → place_of n (rows_of S) ≡ None
place-fresh n S s h = none-from (place_of n (rows_of S)) (place-there n S s ∙ false_from_ne_true _ (λ e. true≢false (sym (has_name-from CommitKind S n e) ∙ h)))

parents-there : (S : List Object) → IsStore S → (ps : List Bytes) → Each (λ p. has CommitKind S p ≡ true) ps → list_all (λ p. is_some (place_of p (rows_of S))) ps ≡ true
parents-there S s [] h = refl
parents-there S s (p ∷ ps) h = (λ i. place-there p S s i && parents-there S s ps h.1 i) ∙ ap (λ b. b && true) h.0

-- the parents of a commit that may be taken in have places
pub has-parents : (S : List Object) (b : Bytes) → IsStore S → is_body S CommitKind b ≡ true → HasParents (rows_of S) (commit_from b)
has-parents S b s w =
    let c = commit-held S b w in
    subst (λ (o : Option Commit). HasParents (rows_of S) o) (sym c.read) (parents-there S s c.commit.parents c.parents)

-- ---- how many

length-step : (S : List Object) (k : Kind) (b : Bytes) → is_body S k b ≡ true → length (rows_of S) ≡ length (filter is_commit S)
    → length (with_row (rows_of S) k b) ≡ length (filter is_commit (record { kind = k; body = b } ∷ S))
length-step S Blob b w h = h
length-step S Tree b w h = h
length-step S CommitKind b w h =
    let c = commit-held S b w in
    let one : length (rows_of S) + 1 ≡ suc (length (filter is_commit S)) = omega arith in
    ap (λ (o : Option Commit). length (with_commit (rows_of S) (name CommitKind b) o)) c.read
    ∙ length-append (rows_of S) (commit_row (rows_of S) (name CommitKind b) c.commit ∷ [])
    ∙ one

pub rows-number : (S : List Object) → IsStore S → length (rows_of S) ≡ length (filter is_commit S)
unfolding rows_of
rows-number [] s = refl
rows-number (o ∷ S) s = length-step S o.kind o.body s.0 (rows-number S s.2)

-- ---- blobs

blobs-step : (S : List Object) (n : Bytes) (k : Kind) (b : Bytes) → list_any (same_bytes n) (blobs_of S) ≡ has Blob S n
    → list_any (same_bytes n) (with_blob_name (blobs_of S) k b) ≡ ((same_kind Blob k && same_bytes (name k b) n) || has Blob S n)
blobs-step S n Blob b h =
    list_any-append (same_bytes n) (blobs_of S) (name Blob b ∷ [])
    ∙ (λ i. h i || (or-false (same_bytes n (name Blob b)) ∙ same_bytes-back n (name Blob b)) i)
    ∙ or-back (has Blob S n) (same_bytes (name Blob b) n)
blobs-step S n Tree b h = h
blobs-step S n CommitKind b h = h

blobs-there : (n : Bytes) (S : List Object) → list_any (same_bytes n) (blobs_of S) ≡ has Blob S n
unfolding blobs_of has
blobs-there n [] = refl
blobs-there n (o ∷ S) = blobs-step S n o.kind o.body (blobs-there n S)

-- a name that nothing has is no blob's
pub blob-fresh : (n : Bytes) (S : List Object) → has_name S n ≡ false → list_any (same_bytes n) (blobs_of S) ≡ false
blob-fresh n S h = blobs-there n S ∙ false_from_ne_true _ (λ e. true≢false (sym (has_name-from Blob S n e) ∙ h))

-- ---- nothing

nil-from : {A : Type 0} (xs : List A) → length xs ≡ 0 → xs ≡ []
nil-from [] h = refl
nil-from (x ∷ xs) h = absurd (let n : suc (length xs) ≡ 0 = h in omega (arith, n))

pub nothing-held : (S : List Object) (names : List Name) (rows : List Row) (blobs : List Name) → S ≡ [] → length names ≡ 0 → rows ≡ [] → length blobs ≡ 0 → AreHeld S names rows blobs
unfolding rows_of blobs_of
nothing-held S names rows blobs s n r b =
    let empty : AreHeld [] [] [] [] = record { whole = tt; named = refl; graph = refl; known = refl; room = refl } in
    subst (λ (d : List Object × List Name × List Row × List Name). AreHeld d.0 d.1 d.2 d.3) (λ i. (sym s i, sym (nil-from names n) i, sym r i, sym (nil-from blobs b) i)) empty

-- a blob's name behind the others
pub blob-more : (keys after : List Name) (key : Name) (k : Kind) (b : Bytes) → k ≡ Blob → key.0 ≡ name k b → list_any (same_bytes (name k b)) (map name_bytes keys) ≡ false
    → after ≡ insert_key (λ (x y : Name). same_bytes x.0 y.0) keys key → map name_bytes after ≡ with_blob_name (map name_bytes keys) k b
blob-more keys after key k b e n new h =
    let unknown : list_any (λ (y : Name). same_bytes key.0 y.0) keys ≡ false =
    sym (any-map (same_bytes key.0) name_bytes keys) ∙ ap (λ (m : Bytes). list_any (same_bytes m) (map name_bytes keys)) n ∙ new in
    ap (map name_bytes) (h ∙ ap (λ t. if t then keys else keys ++ key ∷ []) unknown)
    ∙ map-append name_bytes keys (key ∷ [])
    ∙ ap (λ (m : Bytes). map name_bytes keys ++ m ∷ []) (n ∙ ap (λ (j : Kind). name j b) e)
    ∙ ap (λ (j : Kind). with_blob_name (map name_bytes keys) j b) (sym e)

-- ---- a graph

pub place-below : (n : Bytes) (rows : List Row) → is_some (place_of n rows) ≡ true → place_in rows n < length rows
place-below n rows h = by (nat_lt (position_or_len (λ (r : Row). same_bytes r.name n) rows) (length rows)) refl h
  where
    by : (b : Bool) → nat_lt (position_or_len (λ (r : Row). same_bytes r.name n) rows) (length rows) ≡ b
        → is_some (cond b (Some (position_or_len (λ (r : Row). same_bytes r.name n) rows)) None) ≡ true
        → unwrap_or (cond b (Some (position_or_len (λ (r : Row). same_bytes r.name n) rows)) None) 0 < length rows
    by true e g = ltb-true _ _ e
    by false e g = absurd (true≢false (sym g))

places-below : (S : List Object) → IsStore S → (ps : List Bytes) → Each (λ p. has CommitKind S p ≡ true) ps → All (λ p. p < length (rows_of S)) (map (place_in (rows_of S)) ps)
places-below S s [] h = All-nil (λ p. p < length (rows_of S))
places-below S s (p ∷ ps) h = All-cons (λ p. p < length (rows_of S)) (place_in (rows_of S) p) (map (place_in (rows_of S)) ps) (place-below p (rows_of S) (place-there p S s ∙ h.0)) (places-below S s ps h.1)

graph-step : (S : List Object) (k : Kind) (b : Bytes) → IsStore S → is_body S k b ≡ true → has_name S (name k b) ≡ false → IsGraph (rows_of S) → IsGraph (with_row (rows_of S) k b)
graph-step S Blob b s w f g = g
graph-step S Tree b s w f g = g
graph-step S CommitKind b s w f g =
    let c = commit-held S b w in
    subst (λ (o : Option Commit). IsGraph (with_commit (rows_of S) (name CommitKind b) o)) (sym c.read)
    (graph-push (rows_of S) (commit_row (rows_of S) (name CommitKind b) c.commit) g (place-fresh (name CommitKind b) S s f) (places-below S s c.commit.parents c.parents))

-- the commits of a store are a graph
pub rows-graph : (S : List Object) → IsStore S → IsGraph (rows_of S)
unfolding rows_of
rows-graph [] s = graph-nil
rows-graph (o ∷ S) s = graph-step S o.kind o.body s.2 s.0 s.1 (rows-graph S s.2)
