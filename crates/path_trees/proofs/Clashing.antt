-- The first clash of two trees, by what their root directories list.
use Rattle.std.proofs.Common.{◌≡◌, Bool, true, false, cond, ◌&&◌, ◌||◌, List, [], ◌∷◌, ◌++◌, refl, sym, ap, subst, ◌∙◌, Option, Some, None}
use Rattle.std.specs.Option.{option_map, option_or}
use Rattle.std.specs.Cmp.Lexicographic.{bytes_decides}
use Rattle.git_objects.specs.Paths.{Bytes, Path, same_bytes, comparable, is_prefix}
use Rattle.git_objects.specs.Trees.{Flat, at, rests}
use Rattle.git_objects.specs.Entries.{AreEntries}
use Rattle.git_objects.specs.declared.entry.Entry.{Entry}
use Rattle.git_objects.proofs.Basics.{same_bytes-back}
use Rattle.git_objects.proofs.Maps.{first_some, at-put_all}
use Rattle.object_store.specs.Objects.{Object}
use Rattle.object_store.specs.Unfolding.{below}
use Rattle.object_store.proofs.Unfolding.{node}
use Rattle.path_trees.specs.Clashes.{first_comparable, clash, together}
use Rattle.path_trees.specs.Listed.{entry_at, found, found_at}
use Rattle.path_trees.proofs.Grown.{joined_in}
use Rattle.path_trees.proofs.Listings.{Away, away_before}
use Rattle.path_trees.proofs.Levels.{rests_of}

-- ---- the first of several

pub or_assoc : {A : Type 0} (x y z : Option A) → option_or x (option_or y z) ≡ option_or (option_or x y) z
or_assoc None y z = refl
or_assoc (Some x) y z = refl

pub or_none : {A : Type 0} (x : Option A) → option_or x None ≡ x
or_none None = refl
or_none (Some x) = refl

pub map_or : {A B : Type 0} (f : A → B) (x y : Option A) → option_map f (option_or x y) ≡ option_or (option_map f x) (option_map f y)
map_or f None y = refl
map_or f (Some x) y = refl

cond_or : {A : Type 0} (b : Bool) (x : A) (y z : Option A) → cond b (Some x) (option_or y z) ≡ option_or (cond b (Some x) y) z
cond_or true x y z = refl
cond_or false x y z = refl

cond_map : {A B : Type 0} (f : A → B) (b : Bool) (x : A) (y : Option A) → cond b (Some (f x)) (option_map f y) ≡ option_map f (cond b (Some x) y)
cond_map f true x y = refl
cond_map f false x y = refl

-- ---- the first path of a listing that is comparable with a path

comparable-append : (p : Path) (a b : Flat) → first_comparable p (a ++ b) ≡ option_or (first_comparable p a) (first_comparable p b)
comparable-append p [] b = refl
comparable-append p (e ∷ a) b = ap (cond (comparable p e.0) (Some e.0)) (comparable-append p a b) ∙ cond_or (comparable p e.0) e.0 (first_comparable p a) (first_comparable p b)

heads : (c d : Bytes) (r s : Path) (b : Bool) → same_bytes c d ≡ b → comparable (c ∷ r) (d ∷ s) ≡ (b && is_prefix r s || b && is_prefix s r)
heads c d r s b e = λ i. (e i && is_prefix r s) || ((same_bytes-back d c ∙ e) i && is_prefix s r)

comparable-other : (c d : Bytes) (r : Path) (t : Flat) → same_bytes c d ≡ false → first_comparable (c ∷ r) (below d t) ≡ None
comparable-other c d r [] e = refl
comparable-other c d r (f ∷ t) e = ap (λ b. cond b (Some (d ∷ f.0)) (first_comparable (c ∷ r) (below d t))) (heads c d r f.0 false e) ∙ comparable-other c d r t e

comparable-same : (c d : Bytes) (r : Path) (t : Flat) → same_bytes c d ≡ true → first_comparable (c ∷ r) (below d t) ≡ option_map (λ q. d ∷ q) (first_comparable r t)
comparable-same c d r [] e = refl
comparable-same c d r (f ∷ t) e =
    ap (λ b. cond b (Some (d ∷ f.0)) (first_comparable (c ∷ r) (below d t))) (heads c d r f.0 true e)
    ∙ ap (cond (comparable r f.0) (Some (d ∷ f.0))) (comparable-same c d r t e)
    ∙ cond_map (λ q. d ∷ q) (comparable r f.0) f.0 (first_comparable r t)

abbrev pub behind : Bytes → Path × Path → Path × Path
behind c x = (c ∷ x.0, c ∷ x.1)

pair_map : (c : Bytes) (p : Path) (o : Option Path) → option_map {U = Path × Path} (λ q. (c ∷ p, q)) (option_map (λ q. c ∷ q) o) ≡ option_map (behind c) (option_map {U = Path × Path} (λ q. (p, q)) o)
pair_map c p None = refl
pair_map c p (Some q) = refl

clash-append : (a b t : Flat) → clash (a ++ b) t ≡ option_or (clash a t) (clash b t)
clash-append [] b t = refl
clash-append (e ∷ a) b t =
    ap (option_or (option_map (λ q. (e.0, q)) (first_comparable e.0 t))) (clash-append a b t) ∙ or_assoc (option_map (λ q. (e.0, q)) (first_comparable e.0 t)) (clash a t) (clash b t)

module _ (S : List Object) where
  comparable-away : (c : Bytes) (r : Path) (es : List Entry) → Away c es → first_comparable (c ∷ r) (joined_in S es) ≡ None
  comparable-away c r [] h = refl
  comparable-away c r (e ∷ es) h =
      comparable-append (c ∷ r) (below e.component (rests (node S e.mode e.name.0))) (joined_in S es)
      ∙ (λ k. option_or (comparable-other c e.component r (rests (node S e.mode e.name.0)) h.0 k) (comparable-away c r es h.1 k))

  comparable-joined : (c : Bytes) (r : Path) (es : List Entry) → AreEntries es → first_comparable (c ∷ r) (joined_in S es) ≡ option_map (λ q. c ∷ q) (first_comparable r (rests_of S (found_at c es)))
  comparable-joined c r [] h = refl
  comparable-joined c r (e ∷ es) h =
      let t = rests (node S e.mode e.name.0) in
      comparable-append (c ∷ r) (below e.component t) (joined_in S es)
      ∙ elim (same_bytes c e.component) as (λ b. same_bytes c e.component ≡ b → option_or (first_comparable (c ∷ r) (below e.component t)) (first_comparable (c ∷ r) (joined_in S es)) ≡ option_map (λ q. c ∷ q) (first_comparable r (rests_of S (option_map found (cond b (Some e) (entry_at c es)))))) [
        | true ↦ λ k.
            let s = (bytes_decides c e.component).0 k in
            (λ i. option_or (comparable-same c e.component r t k i) (subst (λ x. first_comparable (x ∷ r) (joined_in S es) ≡ None) (sym s) (comparable-away e.component r es (away_before e es h.1)) i))
            ∙ or_none (option_map (λ q. e.component ∷ q) (first_comparable r t))
            ∙ ap (λ x. option_map (λ q. x ∷ q) (first_comparable r t)) (sym s)
        | false ↦ λ k. ap (λ o. option_or o (first_comparable (c ∷ r) (joined_in S es))) (comparable-other c e.component r t k) ∙ comparable-joined c r es h.2
      ] refl

  clash-below : (c : Bytes) (t : Flat) (fs : List Entry) → AreEntries fs → clash (below c t) (joined_in S fs) ≡ option_map (behind c) (clash t (rests_of S (found_at c fs)))
  clash-below c [] fs h = refl
  clash-below c (e ∷ t) fs h =
      (λ k. option_or (option_map (λ q. (c ∷ e.0, q)) (comparable-joined c e.0 fs h k)) (clash-below c t fs h k))
      ∙ ap (λ o. option_or o (option_map (behind c) (clash t (rests_of S (found_at c fs))))) (pair_map c e.0 (first_comparable e.0 (rests_of S (found_at c fs))))
      ∙ sym (map_or (behind c) (option_map (λ q. (e.0, q)) (first_comparable e.0 (rests_of S (found_at c fs)))) (clash t (rests_of S (found_at c fs))))

  -- The first clash is that of the first entry with one.
  pub clash-joined : (e : Entry) (es fs : List Entry) → AreEntries fs →
      clash (joined_in S (e ∷ es)) (joined_in S fs) ≡ option_or (option_map (behind e.component) (clash (rests (node S e.mode e.name.0)) (rests_of S (found_at e.component fs)))) (clash (joined_in S es) (joined_in S fs))
  clash-joined e es fs h =
      clash-append (below e.component (rests (node S e.mode e.name.0))) (joined_in S es) (joined_in S fs)
      ∙ ap (λ o. option_or o (clash (joined_in S es) (joined_in S fs))) (clash-below e.component (rests (node S e.mode e.name.0)) fs h)

-- what two trees together have at a path
pub at-together : (a b : Flat) (q : Path) → at (together a b) q ≡ first_some (at a q) (at b q)
unfolding together
at-together a b q = at-put_all [] a b q
