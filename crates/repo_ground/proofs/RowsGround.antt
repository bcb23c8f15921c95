-- The commits of what is held are a graph of each store that has it.
use Rattle.std.proofs.Common.{◌≡◌, ℕ, zero, suc, ◌+◌, ◌<◌, inl, inr, Bool, true, false, not, cond, ◌||◌, List, [], ◌∷◌, ◌++◌, map, length, Option, Some, None, Contains, All, refl, sym, ap, subst, ◌∙◌, arith, true≢false, one-add, nat_lt}
use Rattle.std.specs.List.{list_any, position_or_len}
use Rattle.std.specs.Option.{is_some, unwrap_or}
use Rattle.std.specs.Cmp.Lexicographic.{bytes_decides}
use Rattle.std.proofs.lemmas.List.Elements.{All-cons, All-nil, All-tail}
use Rattle.std.proofs.lemmas.Option.{none-some, slice_get_within}
use Rattle.git_objects.specs.Lists.{Each}
use Rattle.git_objects.specs.Paths.{Bytes, same_bytes}
use Rattle.git_objects.specs.Names.{name}
use Rattle.git_objects.specs.Commits.{Commit}
use Rattle.git_objects.specs.CommitBodies.{commit_from}
use Rattle.git_objects.specs.declared.kind.Kind.{Kind}
use Rattle.git_objects.specs.declared.kind.Kind.TheVariants.{Blob, Tree, Commit as CommitKind}
use Rattle.object_store.specs.Objects.{Object, IsStore, find_named, has, has_name, is_body, object_name}
use Rattle.object_store.specs.StoredSnapshots.{commit_named}
use Rattle.object_store.proofs.Parts.{AreIn, found-has, part-has}
use Rattle.object_store.proofs.StoredCommits.{commit-held}
use Rattle.commit_graph.specs.Graphs.{Row, place_of}
use Rattle.commit_graph.proofs.Places.{graph-nil, graph-push, slice_get-push}
use Rattle.state_items.specs.Arrivals.{commit_row, place_in, rows_of, with_commit, with_row}
use Rattle.state_items.proofs.RowsHeld.{place-below, place-fresh, place-there, some-place}
use Rattle.state_items.proofs.TreeParts.{each-map, each-member}
use Rattle.projection_laws.specs.StoredGraphs.{name_at, IsRowIn, IsGraphIn}

-- ---- names at places

name-push : (rows : List Row) (r : Row) (p : ℕ) → p < length rows → name_at (rows ++ r ∷ []) p ≡ name_at rows p
name-push [] r p l = absurd (omega (arith, l))
name-push (q ∷ rows) r zero l = refl
name-push (q ∷ rows) r (suc p) l = name-push rows r p (omega (arith, l))

names-push : (rows : List Row) (r : Row) (ps : List ℕ) → All (λ p. p < length rows) ps → map (name_at (rows ++ r ∷ [])) ps ≡ map (name_at rows) ps
names-push rows r [] h = refl
names-push rows r (p ∷ ps) h =
    let first : p < length rows = h 0 p (omega arith) in
    λ i. name-push rows r p first i ∷ names-push rows r ps (All-tail (λ q. q < length rows) p ps h) i

first-named : (n : Bytes) (rows : List Row) → list_any (λ (r : Row). same_bytes r.name n) rows ≡ true → name_at rows (position_or_len (λ (r : Row). same_bytes r.name n) rows) ≡ n
first-named n [] h = absurd (true≢false (sym h))
first-named n (r ∷ rows) h =
    let k : ℕ = position_or_len (λ (q : Row). same_bytes q.name n) rows in
    elim (same_bytes r.name n) as (λ b. same_bytes r.name n ≡ b → (b || list_any (λ (q : Row). same_bytes q.name n) rows) ≡ true → name_at (r ∷ rows) (cond (not b) (1 + k) 0) ≡ n) [
      | true ↦ λ e g. (bytes_decides r.name n).0 e
      | false ↦ λ e g. ap (name_at (r ∷ rows)) (one-add k) ∙ first-named n rows g
    ] refl h

-- a commit that has a place is the one at that place
pub name-at-place : (rows : List Row) (n : Bytes) → is_some (place_of n rows) ≡ true → name_at rows (place_in rows n) ≡ n
name-at-place rows n h =
    ap (name_at rows) (place (nat_lt (position_or_len (λ (r : Row). same_bytes r.name n) rows) (length rows)) h)
    ∙ first-named n rows (sym (some-place (λ (r : Row). same_bytes r.name n) rows) ∙ h)
  where
    place : (b : Bool) → is_some (cond b (Some (position_or_len (λ (r : Row). same_bytes r.name n) rows)) None) ≡ true
        → unwrap_or (cond b (Some (position_or_len (λ (r : Row). same_bytes r.name n) rows)) None) 0 ≡ position_or_len (λ (r : Row). same_bytes r.name n) rows
    place true e = refl
    place false e = absurd (true≢false (sym e))

-- names that have places
abbrev pub ArePlaced : List Row → List Bytes → Type 0
ArePlaced rows ns = Each (λ n. is_some (place_of n rows) ≡ true) ns

names-placed : (rows : List Row) (ps : List Bytes) → ArePlaced rows ps → map (name_at rows) (map (place_in rows) ps) ≡ ps
names-placed rows [] h = refl
names-placed rows (p ∷ ps) h = λ i. name-at-place rows p h.0 i ∷ names-placed rows ps h.1 i

-- commits that are held have places
held-placed : (H : List Object) → IsStore H → (ps : List Bytes) → Each (λ p. has CommitKind H p ≡ true) ps → ArePlaced (rows_of H) ps
held-placed H s ps h = each-map (λ p. has CommitKind H p ≡ true) (λ p. is_some (place_of p (rows_of H)) ≡ true) ps (λ p q. place-there p H s ∙ q) h

-- ---- rows

places-below : (rows : List Row) (ps : List Bytes) → ArePlaced rows ps → All (λ p. p < length rows) (map (place_in rows) ps)
places-below rows [] h = All-nil (λ p. p < length rows)
places-below rows (p ∷ ps) h = All-cons (λ p. p < length rows) (place_in rows p) (map (place_in rows) ps) (place-below p rows h.0) (places-below rows ps h.1)

row-push : (S : List Object) (rows : List Row) (r q : Row) → All (λ p. p < length rows) q.parents → IsRowIn S rows q → IsRowIn S (rows ++ r ∷ []) q
row-push S rows r q below w = record {
  commit = w.commit;
  held = w.held;
  named = w.named;
  tree = w.tree;
  parents = w.parents ∙ sym (names-push rows r q.parents below);
  tree_held = w.tree_held;
}

-- below the length of the rows
within : (rows : List Row) (i : ℕ) (ps : List ℕ) → i < length rows → All (λ p. p < i) ps → All (λ p. p < length rows) ps
within rows i ps l h j d e = let below = h j d e in omega (arith, l, below)

-- one commit of the store more, whose parents have places
pub one-more : (S : List Object) (rows : List Row) (n : Bytes) (c : Commit) → IsGraphIn S rows → has CommitKind S n ≡ true → commit_named S n ≡ Some c → has Tree S c.tree ≡ true → ArePlaced rows c.parents
    → place_of n rows ≡ None → IsGraphIn S (rows ++ commit_row rows n c ∷ [])
one-more S rows n c g held named tree ps new =
    let r : Row = commit_row rows n c in
    let below = places-below rows c.parents ps in
    record {
      store = g.store;
      graph = graph-push rows r g.graph new below;
      each = λ j q e. elim (slice_get-push rows r j q e) [
        | inl old ↦ row-push S rows r q (within rows j q.parents (slice_get_within rows j q old) (g.graph.placed j q old)) (g.each j q old)
        | inr own ↦ subst (IsRowIn S (rows ++ r ∷ [])) own.1 (record {
          commit = c;
          held = held;
          named = named;
          tree = refl;
          parents = sym (names-placed rows c.parents ps) ∙ sym (names-push rows r r.parents below);
          tree_held = tree;
        })
      ];
    }

step : (S H : List Object) (k : Kind) (b : Bytes) → IsStore H → is_body H k b ≡ true → has_name H (name k b) ≡ false → AreIn S (record { kind = k; body = b } ∷ H) → IsGraphIn S (rows_of H)
    → IsGraphIn S (with_row (rows_of H) k b)
step S H Blob b s w n i g = g
step S H Tree b s w n i g = g
step S H CommitKind b s w n i g =
    let c = commit-held H b w in
    let f = found-has S CommitKind (name CommitKind b) (record { kind = CommitKind; body = b }) i.0 refl in
    subst (λ (o : Option Commit). IsGraphIn S (with_commit (rows_of H) (name CommitKind b) o)) (sym c.read)
    (one-more S (rows_of H) (name CommitKind b) c.commit g f.0 (ap commit_from f.1 ∙ c.read) (part-has S H Tree c.commit.tree i.1 c.tree).0 (held-placed H s c.commit.parents c.parents)
    (place-fresh (name CommitKind b) H s n))

rows-in : (S H : List Object) → IsStore S → IsStore H → AreIn S H → IsGraphIn S (rows_of H)
unfolding rows_of
rows-in S [] t s h = record { store = t; graph = graph-nil; each = λ i r e. absurd (none-some r e) }
rows-in S (o ∷ H) t s h = step S H o.kind o.body s.2 s.0 s.1 h (rows-in S H t s.2 h.1)

-- all of them are found in the store under their names
pub are-in : (S H : List Object) → ((o : Object) → Contains H o → find_named S (object_name o) ≡ Some o) → AreIn S H
are-in S H w = each-map (Contains H) (λ o. find_named S (object_name o) ≡ Some o) H w (each-member H)

-- the commits of what is held, as a graph of a store that has all of it
pub rows_ground : (S H : List Object) → IsStore S → IsStore H → ((o : Object) → Contains H o → find_named S (object_name o) ≡ Some o) → IsGraphIn S (rows_of H)
rows_ground S H s h w = rows-in S H s h (are-in S H w)
