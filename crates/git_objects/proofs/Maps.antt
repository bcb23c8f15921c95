-- What the flat maps answer at a path.
use Rattle.std.proofs.Common.{◌≡◌, Bool, true, false, cond, not, ◌&&◌, T, [], ◌∷◌, ◌++◌, refl, sym, ap, ◌∙◌, Option, Some, None, append-nil}
use Rattle.std.specs.Cmp.Lexicographic.{nat_list_eq_equiv}
use Rattle.std.specs.FinMap.{find, put as put_entry, is_sorted}
use Rattle.std.specs.FinMap.Entries.{where_key, find-put, find-where_key, is_sorted-put, is_sorted-where_key, same_entries}
use Rattle.git_objects.specs.Paths.{Path, same_bytes, same_path, path_cmp, comparable, is_prefix}
use Rattle.git_objects.specs.Trees.{Leaf, Flat, at, Node, LeafNode, rests, without, put_all, put, remove}
use Rattle.git_objects.proofs.Order.{path_cmp-total, path_cmp-antisymmetric, path_ties}

-- the first, unless it is None
abbrev pub first_some : {A : Type 0} → Option A → Option A → Option A
first_some None y = y
first_some (Some x) y = Some x

-- the path after p, if p is a prefix of it
abbrev pub after : Path → Path → Option Path
after [] q = Some q
after (c ∷ p) [] = None
after (c ∷ p) (d ∷ q) = cond (same_bytes c d) (after p q) None

pub find-at : (t : Flat) (p : Path) → find path_cmp p t ≡ at t p
find-at [] p = refl
find-at (e ∷ t) p = λ i. cond (path_ties p e.0 i) (Some e.1) (find-at t p i)

-- maps that answer alike are equal
pub same_flat : (a b : Flat) → T (is_sorted path_cmp a) → T (is_sorted path_cmp b) → ((p : Path) → at a p ≡ at b p) → a ≡ b
same_flat a b g h is = same_entries path_cmp path_cmp-total path_cmp-antisymmetric a b g h (λ p. find-at a p ∙ is p ∙ sym (find-at b p))

pub at-put_entry : (q k : Path) (v : Leaf) (t : Flat) → at (put_entry path_cmp k v t) q ≡ cond (same_path q k) (Some v) (at t q)
at-put_entry q k v t = sym (find-at (put_entry path_cmp k v t) q) ∙ find-put path_cmp path_cmp-total q k v t ∙ (λ i. cond (path_ties q k i) (Some v) (find-at t q i))

pub at-where : (f : Path → Bool) (t : Flat) (q : Path) → at (where_key path_cmp f t) q ≡ cond (f q) (at t q) None
at-where f t q =
    sym (find-at (where_key path_cmp f t) q)
    ∙ find-where_key path_cmp f q (λ x e. ap f (sym (path_cmp-antisymmetric q x e))) t
    ∙ (λ i. cond (f q) (find-at t q i) None)

pub turned : {A : Type 0} (b : Bool) (x y : A) → cond (not b) x y ≡ cond b y x
turned true x y = refl
turned false x y = refl

pub at-without : (t : Flat) (p q : Path) → at (without t p) q ≡ cond (comparable p q) None (at t q)
at-without t p q = at-where (λ x. not (comparable p x)) t q ∙ turned (comparable p q) (at t q) None

abbrev pub at_rest : Flat → Option Path → Option Leaf
at_rest t None = None
at_rest t (Some p) = at t p

-- the entry's own path behind p
same_behind : (p q r : Path) (x : Leaf) (t : Flat) → cond (same_path q (p ++ r)) (Some x) (at_rest t (after p q)) ≡ at_rest ((r, x) ∷ t) (after p q)
same_behind [] q r x t = refl
same_behind (c ∷ p) [] r x t = refl
same_behind (c ∷ p) (d ∷ q) r x t =
    ap (λ b. cond (b && same_path q (p ++ r)) (Some x) (at_rest t (cond (same_bytes c d) (after p q) None))) (nat_list_eq_equiv.symm d c)
    ∙ elim (same_bytes c d) as (λ b. cond (b && same_path q (p ++ r)) (Some x) (at_rest t (cond b (after p q) None)) ≡ at_rest ((r, x) ∷ t) (cond b (after p q) None)) [ true ↦ same_behind p q r x t | false ↦ refl ]

first_cond : {A : Type 0} (b : Bool) (x : A) (y z : Option A) → cond b (Some x) (first_some y z) ≡ first_some (cond b (Some x) y) z
first_cond true x y z = refl
first_cond false x y z = refl

at_rest-nil : (o : Option Path) → None ≡ at_rest [] o
at_rest-nil None = refl
at_rest-nil (Some p) = refl

pub at-put_all : (p : Path) (es t : Flat) (q : Path) → at (put_all p es t) q ≡ first_some (at_rest es (after p q)) (at t q)
at-put_all p [] t q = ap (λ o. first_some o (at t q)) (at_rest-nil (after p q))
at-put_all p (e ∷ es) t q =
    at-put_entry q (p ++ e.0) e.1 (put_all p es t)
    ∙ ap (cond (same_path q (p ++ e.0)) (Some e.1)) (at-put_all p es t q)
    ∙ first_cond (same_path q (p ++ e.0)) e.1 (at_rest es (after p q)) (at t q)
    ∙ ap (λ o. first_some o (at t q)) (same_behind p q e.0 e.1 es)

-- what `put` leaves at a path
pub at-put : (t : Flat) (p : Path) (n : Node) (q : Path) → at (put t p n) q ≡ first_some (at_rest (rests n) (after p q)) (cond (comparable p q) None (at t q))
unfolding put
at-put t p n q = at-put_all p (rests n) (without t p) q ∙ ap (first_some (at_rest (rests n) (after p q))) (at-without t p q)

pub sorted-without : (t : Flat) (p : Path) → T (is_sorted path_cmp t) → T (is_sorted path_cmp (without t p))
sorted-without t p h = is_sorted-where_key path_cmp (λ x. not (comparable p x)) t h

pub sorted-put_all : (p : Path) (es t : Flat) → T (is_sorted path_cmp t) → T (is_sorted path_cmp (put_all p es t))
sorted-put_all p [] t h = h
sorted-put_all p (e ∷ es) t h = is_sorted-put path_cmp path_cmp-total (p ++ e.0) e.1 (put_all p es t) (sorted-put_all p es t h)

pub sorted-put : (t : Flat) (p : Path) (n : Node) → T (is_sorted path_cmp t) → T (is_sorted path_cmp (put t p n))
unfolding put
sorted-put t p n h = sorted-put_all p (rests n) (without t p) (sorted-without t p h)

-- a leaf that is put stands at its path, and nothing else that is comparable with the path
at-leaf : (t : Flat) (p q : Path) (x : Leaf) → at (put t p (LeafNode x)) q ≡ cond (same_path q p) (Some x) (cond (comparable p q) None (at t q))
unfolding put
at-leaf t p q x =
    at-put_entry q (p ++ []) x (without t p)
    ∙ ap (λ (r : Path). cond (same_path q r) (Some x) (at (without t p) q)) (append-nil p)
    ∙ ap (cond (same_path q p) (Some x)) (at-without t p q)

pub put-leaf : (t : Flat) (p : Path) (x : Leaf) → put t p (LeafNode x) ≡ put_entry path_cmp p x (without t p)
unfolding put
put-leaf t p x = ap (λ (r : Path). put_entry path_cmp r x (without t p)) (append-nil p)

-- ---- what `remove` leaves at a path

pub at-remove : (t : Flat) (p q : Path) → at (remove t p) q ≡ cond (is_prefix p q) None (at t q)
unfolding remove
at-remove t p q = at-where (λ x. not (is_prefix p x)) t q ∙ turned (is_prefix p q) (at t q) None

pub sorted-remove : (t : Flat) (p : Path) → T (is_sorted path_cmp t) → T (is_sorted path_cmp (remove t p))
unfolding remove
sorted-remove t p h = is_sorted-where_key path_cmp (λ x. not (is_prefix p x)) t h
