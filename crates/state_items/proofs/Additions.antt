-- What may be added is taken in: new objects, refs and names.
use Rattle.std.proofs.Common.{◌≡◌, ◌<◌, ◌≤◌, ◌^◌, true, false, cond, ◌&&◌, ◌||◌, List, [], ◌∷◌, ◌++◌, filter, length, reverse, Option, None, Some, refl, sym, ap, ◌∙◌, true≢false, arith, length-append}
use borrow.Author.Tests.{leb-true}
use Rattle.std.specs.Prelude.{nat_le}
use Rattle.std.specs.Cmp.{first_so, second_so}
use Rattle.std.specs.Int.{to_be_bytes, w32}
use Rattle.std.specs.List.{flat_map}
use Rattle.std.specs.Option.{is_none, option_map_or}
use Rattle.std.proofs.lemmas.Bool.{le-leb}
use Rattle.std.proofs.lemmas.List.{append_assoc, reverse-append}
use Rattle.git_objects.specs.Paths.{Bytes, same_bytes}
use Rattle.git_objects.specs.Names.{name}
use Rattle.git_objects.specs.Bodies.{tree_entries}
use Rattle.git_objects.specs.CommitBodies.{commit_from}
use Rattle.git_objects.specs.declared.kind.Kind.{Kind}
use Rattle.git_objects.specs.declared.kind.Kind.TheVariants.{Blob, Tree, Commit as CommitKind}
use Rattle.path_names.specs.RefNames.{is_ref_name}
use Rattle.object_store.specs.Objects.{Object, object_name, find_named, has, has_name, missing_entry, missing_of_commit, is_body}
use Rattle.object_store.specs.Puts.{collision, of_body, of_commit, of_tree, if_missing, refusal}
use Rattle.git_objects.specs.Refs.{Refs}
use Rattle.state_items.specs.Items.{has_room, object_text, rises}
use Rattle.object_store.specs.Fits.{is_commit}
use Rattle.state_items.proofs.RefsMoved.{held-long, short}
use Rattle.state_items.proofs.ReadFields.{AreSet, AreTaken}
use Rattle.state_items.specs.Appending.{AreNew, are_refs}

-- ---- objects

none-found : (S : List Object) (n : Bytes) → has_name S n ≡ false → find_named S n ≡ None
unfolding has_name find_named
none-found [] n h = refl
none-found (o ∷ S) n h =
    elim (same_bytes (object_name o) n) as (λ b. (b || has_name S n) ≡ false → cond b (Some o) (find_named S n) ≡ None) [
      | true ↦ λ g. absurd (true≢false g)
      | false ↦ λ g. none-found S n g
    ] h

none-if : (o : Option Bytes) → is_none o ≡ true → if_missing o None ≡ None
none-if None h = refl
none-if (Some n) h = absurd (true≢false (sym h))

-- a body whose children are held has no fault of its own
body-fine : (S : List Object) (k : Kind) (b : Bytes) → is_body S k b ≡ true → of_body S k b None ≡ None
body-fine S Blob b h = refl
body-fine S Tree b h =
    elim (tree_entries b) as (λ o. option_map_or (λ es. is_none (missing_entry S es)) o false ≡ true → of_tree S o None ≡ None) [
      | None ↦ λ g. absurd (true≢false (sym g))
      | Some es ↦ λ g. none-if (missing_entry S es) g
    ] (second_so _ _ h)
body-fine S CommitKind b h =
    elim (commit_from b) as (λ o. option_map_or (λ d. is_none (missing_of_commit S d)) o false ≡ true → of_commit S o None ≡ None) [
      | None ↦ λ g. absurd (true≢false (sym g))
      | Some d ↦ λ g. none-if (missing_of_commit S d) g
    ] (second_so _ _ h)

no-refusal : (S : List Object) (k : Kind) (b : Bytes) → is_body S k b ≡ true → has_name S (name k b) ≡ false → refusal S k b ≡ None
no-refusal S k b h g = ap (λ o. of_body S k b (collision k b o)) (none-found S (name k b) g) ∙ body-fine S k b h

pub back-one : (o : Object) (os S : List Object) → reverse (o ∷ os) ++ S ≡ reverse os ++ (o ∷ S)
back-one o os S = ap (λ (t : List Object). t ++ S) (reverse-append (o ∷ []) os) ∙ append_assoc (reverse os) (o ∷ []) S

back-length : (T S : List Object) → length S ≤ length (T ++ S)
back-length T S = omega (arith, length-append T S)

back-commits : (T S : List Object) → length (filter is_commit S) ≤ length (filter is_commit (T ++ S))
back-commits [] S = omega arith
back-commits (o ∷ T) S =
    elim (is_commit o) as (λ b. length (filter is_commit S) ≤ length (cond b (o ∷ filter is_commit (T ++ S)) (filter is_commit (T ++ S)))) [
      | true ↦ omega (arith, back-commits T S)
      | false ↦ back-commits T S
    ]

room-under : (T S : List Object) → has_room (T ++ S) ≡ true → has_room S ≡ true
room-under T S h =
    let a = leb-true (length (T ++ S)) (2 ^ 22) (first_so _ _ h) in
    let b = leb-true (length (filter is_commit (T ++ S))) (2 ^ 20) (second_so (nat_le (length (T ++ S)) (2 ^ 22)) _ h) in
    (λ i. le-leb (length S) (2 ^ 22) (omega (arith, a, back-length T S)) i && le-leb (length (filter is_commit S)) (2 ^ 20) (omega (arith, b, back-commits T S)) i)

-- new objects are taken in, one after another
pub are-taken : (os S : List Object) → AreNew S os → has_room (reverse os ++ S) ≡ true → length (flat_map object_text os) < 2 ^ 32 → AreTaken S os
are-taken [] S h room long = tt
are-taken (o ∷ os) S h room long =
    let all = length-append (object_text o) (flat_map object_text os) in
    let one = length-append (to_be_bytes w32 (length o.body)) o.body in
    let more : has_room (reverse os ++ (o ∷ S)) ≡ true = ap has_room (sym (back-one o os S)) ∙ room in (
      record {
        refusal_none = no-refusal S o.kind o.body h.0 h.2;
        new = h.2;
        fits = h.1;
        room = room-under (reverse os) (o ∷ S) more;
        short = omega (arith, long, all, one);
      },
      are-taken os (o ∷ S) h.3 more (omega (arith, long, all)),
    )

-- ---- refs

pub are-set : (G : List Object) (before : Option Bytes) (rs : Refs) → are_refs G before rs ≡ true → AreSet G before rs
are-set G before [] h = tt
are-set G before (r ∷ rs) h =
    let rest = second_so (is_ref_name r.0 && rises before r.0 && has CommitKind G r.1) _ h in
    let now = first_so (is_ref_name r.0 && rises before r.0 && has CommitKind G r.1) _ h in
    let valid : is_ref_name r.0 ≡ true = first_so _ _ (first_so _ _ now) in
    let head : has CommitKind G r.1 ≡ true = second_so (is_ref_name r.0 && rises before r.0) _ now in (
      record {
        valid = valid;
        rising = second_so (is_ref_name r.0) _ (first_so _ _ now);
        short = let l = leb-true (length r.0) 1024 (short r.0 valid) in omega (arith, l);
        named = held-long CommitKind G r.1 head;
        head = head;
      },
      are-set G (Some r.0) rs rest,
    )
