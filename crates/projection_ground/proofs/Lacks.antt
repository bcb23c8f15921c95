-- Commits of which nothing is kept.
use Rattle.std.proofs.Common.{◌≡◌, ℕ, zero, suc, ◌<◌, Bool, true, false, cond, List, [], ◌∷◌, length, slice_get, get_or, Option, Some, None, IfSome, IfNone, IsSome, All, Contains, refl, sym, ap, subst, ◌∙◌, arith, true≢false}
use Rattle.std.specs.List.{find}
use Rattle.std.specs.Option.{is_none, option_map_or}
use Rattle.std.proofs.lemmas.List.Elements.{All-contains}
use Rattle.std.proofs.lemmas.Option.{none-some, same_Some, slice_get-get_or}
use Rattle.commit_graph.specs.Graphs.{Row, Reaches, Itself, Through}
use Rattle.commit_map.specs.Shown.{kept_at}
use Rattle.projection_laws.specs.StoredGraphs.{name_at}
use Rattle.projection_ground.specs.Choosing.{AreKept, IsBelow, parents_at}
use Rattle.projection_ground.specs.declared.ground.Ground.{Ground}

pub find-some : {A : Type 0} (test : A → Bool) (xs : List A) (x : A) → find test xs ≡ Some x → Contains xs x × (test x ≡ true)
find-some test [] x e = absurd (none-some x e)
find-some test (y ∷ xs) x e = by (test y) refl e (find-some test xs x)
  where
    by : (b : Bool) → test y ≡ b → cond b (Some y) (find test xs) ≡ Some x → (find test xs ≡ Some x → Contains xs x × (test x ≡ true)) → Contains (y ∷ xs) x × (test x ≡ true)
    by true t f k = let same : y ≡ x = same_Some y x f in ((0, omega arith, same), ap test (sym same) ∙ t)
    by false t f k =
        let w = k f in
        let l : w.0.0 < length xs = w.0.1 in
        ((suc w.0.0, omega (arith, l), w.0.2), w.1)

pub none-kept : {A : Type 0} (o : Option A) → is_none o ≡ true → o ≡ None
none-kept None e = refl
none-kept (Some x) e = absurd (true≢false (sym e))

-- the parents of the row at a place
pub parents-are : (rows : List Row) (place : ℕ) (ps : List ℕ) → place < length rows → IfSome (slice_get rows place) (λ r. ps ≡ r.parents) → ps ≡ parents_at rows place
parents-are rows place ps l h =
    let d : Row = record { name = []; tree = []; parents = [] } in
    let e : slice_get rows place ≡ Some (get_or rows place d) = slice_get-get_or rows place d l in
    subst (λ o. IfSome o (λ (r : Row). ps ≡ r.parents)) e h ∙ sym (ap (λ o. option_map_or (λ (r : Row). r.parents) o []) e)

pub parent-reached : (rows : List Row) (place p : ℕ) → place < length rows → Contains (parents_at rows place) p → Reaches rows place p
parent-reached rows place p l c =
    let d : Row = record { name = []; tree = []; parents = [] } in
    let e : slice_get rows place ≡ Some (get_or rows place d) = slice_get-get_or rows place d l in
    Through place p p (get_or rows place d) e (subst (λ o. Contains (option_map_or (λ (r : Row). r.parents) o []) p) e c) (Itself p)

pub parent-below : (g : Ground) (place : ℕ) (ps : List ℕ) (o : Option ℕ) → place < length g.graph → IfSome (slice_get g.graph place) (λ r. ps ≡ r.parents) → All (λ p. p < place) ps
    → o ≡ find (λ p. is_none (kept_at (name_at g.graph p) g.map)) ps → IfSome o (IsBelow g place)
parent-below g place ps None l h b e = tt
parent-below g place ps (Some p) l h b e =
    let w = find-some (λ q. is_none (kept_at (name_at g.graph q) g.map)) ps p (sym e) in
    record {
      before = All-contains (λ q. q < place) ps p b w.0;
      reached = parent-reached g.graph place p l (subst (λ qs. Contains qs p) (parents-are g.graph place ps l h) w.0);
      lacked = none-kept (kept_at (name_at g.graph p) g.map) w.1;
    }

find-none : {A : Type 0} (test : A → Bool) (xs : List A) (i : ℕ) (d : A) → i < length xs → find test xs ≡ None → test (get_or xs i d) ≡ false
find-none test [] i d l e = absurd (omega (arith, l))
find-none test (y ∷ xs) zero d l e = by (test y) refl e
  where
    by : (b : Bool) → test y ≡ b → cond b (Some y) (find test xs) ≡ None → test y ≡ false
    by true t f = absurd (none-some y (sym f))
    by false t f = t
find-none test (y ∷ xs) (suc i) d l e = by (test y) e (find-none test xs i d (omega (arith, l)))
  where
    by : (b : Bool) → cond b (Some y) (find test xs) ≡ None → (find test xs ≡ None → test (get_or xs i d) ≡ false) → test (get_or xs i d) ≡ false
    by true f k = absurd (none-some y (sym f))
    by false f k = k f

is-kept : {A : Type 0} (o : Option A) → is_none o ≡ false → IsSome o
is-kept None e = absurd (true≢false e)
is-kept (Some x) e = refl

pub parents-kept : (g : Ground) (place : ℕ) (ps : List ℕ) (o : Option ℕ) → place < length g.graph → IfSome (slice_get g.graph place) (λ r. ps ≡ r.parents)
    → o ≡ find (λ p. is_none (kept_at (name_at g.graph p) g.map)) ps → IfNone o (AreKept g (parents_at g.graph place))
parents-kept g place ps (Some p) l h e = tt
parents-kept g place ps None l h e =
    subst (AreKept g) (parents-are g.graph place ps l h)
    (λ i d b. is-kept (kept_at (name_at g.graph (get_or ps i d)) g.map) (find-none (λ q. is_none (kept_at (name_at g.graph q) g.map)) ps i d b (sym e)))
