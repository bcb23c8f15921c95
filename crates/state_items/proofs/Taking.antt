-- One object more.
use Rattle.std.proofs.Common.{◌≡◌, ◌≤◌, ◌^◌, ℕ, Bool, true, false, not, ◌&&◌, List, [], ◌∷◌, ◌++◌, length, map, filter, None, Result, Ok, Err, refl, sym, ap, subst, ◌∙◌, arith}
use borrow.Author.Tests.{leb-true}
use Rattle.std.specs.Prelude.{nat_le}
use Rattle.std.specs.Bool.{if◌then◌else◌}
use Rattle.std.specs.List.{list_any}
use Rattle.std.specs.Cmp.{second_so}
use Rattle.git_objects.specs.declared.limits.TheConstants.{COMMITS, OBJECTS}
use Rattle.git_objects.specs.Paths.{Bytes, same_bytes}
use Rattle.git_objects.specs.Names.{name}
use Rattle.git_objects.specs.Parts.{name_bytes}
use Rattle.git_objects.specs.CommitBodies.{commit_from}
use Rattle.git_objects.specs.declared.kind.Kind.{Kind}
use Rattle.git_objects.specs.declared.kind.Kind.TheVariants.{Commit}
use Rattle.git_objects.specs.declared.name.Name.{Name}
use Rattle.object_store.specs.Fits.{body_fits, is_commit}
use Rattle.object_store.specs.Objects.{Object, has, has_name, is_body, IsStore}
use Rattle.object_store.specs.Puts.{refusal}
use Rattle.commit_graph.specs.Graphs.{Row, place_of}
use Rattle.state_items.specs.Fields.{Fault, BrokenAt}
use Rattle.state_items.specs.Items.{has_room, take_object}
use Rattle.state_items.specs.Arrivals.{AreHeld, HasArrived, HasParents, more_commits, blobs_of, rows_of, with_blob_name, with_row}
use Rattle.state_items.proofs.Naming.{named-more, room-more, commit-stays}
use Rattle.state_items.proofs.RowsHeld.{blob-fresh, has-parents, place-fresh, rows-number}

pub take-full : (S : List Object) (k : Kind) (b : Bytes) (at : ℕ) → refusal S k b ≡ None → has_name S (name k b) ≡ false → has_room (record { kind = k; body = b } ∷ S) ≡ false
    → take_object S k b at (refusal S k b) ≡ Err (BrokenAt at)
take-full S k b at r h m =
    ap (take_object S k b at) r ∙ (λ i. taken (h i) (body_fits S k b) (m i)) ∙ by (body_fits S k b)
  where
    taken : Bool → Bool → Bool → Result (List Object) Fault
    taken old fits room = if not old && fits && room then Ok (record { kind = k; body = b } ∷ S) else Err (BrokenAt at)

    by : (fits : Bool) → taken false fits false ≡ Err (BrokenAt at)
    by true = refl
    by false = refl

module _ (S : List Object) (names : List Name) (rows : List Row) (blobs : List Name) (h : AreHeld S names rows blobs) (k : Kind) (b : Bytes) where
  abbrev new : Object
  new = record { kind = k; body = b }

  pub few-rows : length rows ≤ 2 ^ 20
  few-rows = subst (λ (n : ℕ). n ≤ 2 ^ 20) (sym (ap length h.graph ∙ rows-number S h.whole))
      (leb-true (length (filter is_commit S)) (2 ^ 20) (second_so (nat_le (length S) OBJECTS) _ h.room))

  pub rows-counted : (n : ℕ) → n ≡ length rows → n ≡ length (filter is_commit S)
  rows-counted n e = e ∙ ap length h.graph ∙ rows-number S h.whole

  pub arrived : (S' : List Object) → IsStore S' → S' ≡ new ∷ S → has_name S (name k b) ≡ false → HasArrived rows (map name_bytes blobs) k b
  arrived S' s e fresh =
      let whole : IsStore (new ∷ S) = subst IsStore e s in
      record {
        parents = λ j. subst (λ (r : List Row). HasParents r (commit_from b)) (sym h.graph)
            (has-parents S b h.whole (subst (λ (i : Kind). is_body S i b ≡ true) j whole.0));
        fresh = ap (place_of (name k b)) h.graph ∙ place-fresh (name k b) S h.whole fresh;
        unknown = ap (list_any (same_bytes (name k b))) h.known ∙ blob-fresh (name k b) S fresh;
        room = let f = few-rows in omega (arith, f);
      }

  pub room-is : (key : Name) (after : List Name) (number commits : ℕ) → after ≡ names ++ key ∷ [] → number ≡ length after → commits ≡ length rows → key.0 ≡ name k b
      → (nat_le number OBJECTS && nat_le (more_commits commits k) COMMITS) ≡ has_room (new ∷ S)
  room-is key after number commits e en c named = room-more S names k b key after number commits e en h.named (rows-counted commits c) named

  pub held-more : (S' : List Object) (key : Name) (after : List Name) (rows' : List Row) (blobs' : List Name) → IsStore S' → S' ≡ new ∷ S → after ≡ names ++ key ∷ []
      → key.0 ≡ name k b → rows' ≡ with_row rows k b → map name_bytes blobs' ≡ with_blob_name (map name_bytes blobs) k b → has_room (new ∷ S) ≡ true → AreHeld S' after rows' blobs'
  unfolding rows_of blobs_of
  held-more S' key after rows' blobs' s e n named r f room =
      subst (λ (d : List Object × List Name). AreHeld d.0 d.1 rows' blobs') (λ i. (sym e i, sym n i))
      (record {
        whole = subst IsStore e s;
        named = named-more S names new key h.named named;
        graph = r ∙ ap (λ (q : List Row). with_row q k b) h.graph;
        known = f ∙ ap (λ (q : List Bytes). with_blob_name q k b) h.known;
        room = room;
      })

  pub commits-stay : (S' : List Object) → S' ≡ new ∷ S → (n : Bytes) → has Commit S n ≡ true → has Commit S' n ≡ true
  commits-stay S' e n g = ap (λ (T : List Object). has Commit T n) e ∙ commit-stays S new n g
