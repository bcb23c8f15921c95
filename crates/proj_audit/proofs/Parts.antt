-- Objects that were read, and the objects of a tree.
use Rattle.std.proofs.Common.{◌≡◌, zero, suc, Bool, true, false, cond, ◌⊎◌, inl, inr, List, [], ◌∷◌, refl, sym, ap, subst, ◌∙◌, Option, Some, None, arith, true≢false}
use Rattle.std.specs.Prelude.{Contains, Result, Ok, Err, if◌then◌else◌}
use Rattle.std.specs.Option.{option_and_then}
use Rattle.std.specs.Cmp.Lexicographic.{bytes_decides}
use Rattle.std.proofs.lemmas.List.Elements.{Contains-append_right}
use Rattle.git_objects.specs.Paths.{Bytes, Path, same_bytes, same_path}
use Rattle.git_objects.specs.Trees.{Leaf, Flat, at, under}
use Rattle.git_objects.specs.declared.kind.Kind.{Kind}
use Rattle.git_objects.specs.Lists.{Each}
use Rattle.git_objects.proofs.Order.{path_decides}
use Rattle.git_objects.proofs.Under.{at-under, at-under_nil, under_cons}
use Rattle.object_store.specs.Objects.{Object, object_name, same_kind, find_named}
use Rattle.object_store.proofs.Held.{kind_is}
use Rattle.proj_audit.proofs.Finds.{found}
use Rattle.proj_audit.specs.Readings.{Reading, upon, ◌>>=◌, taken, read_as}
use Rattle.object_store.specs.Hands.{tree_object}
use Rattle.proj_audit.specs.Laws.{IsPart, Whole, Directory, Content, Collides}

-- ---- readings

-- a reading that is done has done its first part
pub both-done : {A B : Type 0} (r : Reading A) (next : A → Reading B) (y : B) → (r >>= next).outcome ≡ Ok y →
    (x : A) × (r.outcome ≡ Ok x) × ((next x).outcome ≡ Ok y)
both-done {A} {B} r next y e = by r.outcome e
  where
    by : (o : Result A Bytes) → (upon r.used o next).outcome ≡ Ok y → (x : A) × (o ≡ Ok x) × ((next x).outcome ≡ Ok y)
    by (Ok x) h = (x, refl, h)
    by (Err n) h = cc

-- the object of which something was read
pub record IsRead {A : Type 0} (k : Kind) (from : Bytes → Option A) (w : Option Object) (y : A) : Type 0 where
  pub object : Object
  pub is_it : w ≡ Some object
  pub kind : object.kind ≡ k
  pub value : from object.body ≡ Some y

pub read-done : {A : Type 0} (k : Kind) (from : Bytes → Option A) (n : Bytes) (w : Option Object) (y : A) → (read_as k from n w).outcome ≡ Ok y →
    IsRead k from w y
read-done k from n None y e = cc
read-done {A} k from n (Some o) y e = by (same_kind k o.kind) refl e
  where
    got : (z : Option A) → (taken n o z).outcome ≡ Ok y → z ≡ Some y
    got None h = cc
    got (Some x) h = let same : x ≡ y = cc in ap Some same

    by : (b : Bool) → same_kind k o.kind ≡ b → (taken n o (option_and_then from (if b then Some o.body else None))).outcome ≡ Ok y →
        IsRead k from (Some o) y
    by true h g = record { object = o; is_it = refl; kind = kind_is k o.kind h; value = got (from o.body) g }
    by false h g = cc

-- ---- objects by name

-- an object that was read under the name of one of its kind is that one, or the two collide
pub same-or : (os : List Object) (Own : Object → Type 0) (own o : Object) → Own own → find_named os (object_name own) ≡ Some o → o.kind ≡ own.kind →
    (o.body ≡ own.body) ⊎ Collides os Own
same-or os Own own o is e k = by (same_bytes o.body own.body) refl
  where
    by : (b : Bool) → same_bytes o.body own.body ≡ b → (o.body ≡ own.body) ⊎ Collides os Own
    by true h = inl ((bytes_decides o.body own.body).0 h)
    by false h = let r = found os (object_name own) o e in inr (record {
      read = o;
      own = own;
      is_read = r.0;
      is_own = is;
      differ = λ s. true≢false (sym ((bytes_decides o.body own.body).1 (ap (λ (x : Object). x.body) s)) ∙ h);
      named = r.1;
    })

pub wider : (os : List Object) (A B : Object → Type 0) → ((o : Object) → A o → B o) → Collides os A → Collides os B
wider os A B is c = record { read = c.read; own = c.own; is_read = c.is_read; is_own = is c.own c.is_own; differ = c.differ; named = c.named }

-- ---- the objects of a directory are its tree's

pub part-under : (t : Flat) (c : Bytes) (o : Object) → (under t (c ∷ []) ≡ [] → ⊥) → IsPart (under t (c ∷ [])) o → IsPart t o
part-under t c o some (Whole e) = Directory (c ∷ []) some e
part-under t c o some (Directory p h e) = Directory (c ∷ p) (λ z. h (sym (under_cons t c p) ∙ z)) (e ∙ ap tree_object (sym (under_cons t c p)))
part-under t c o some (Content [] x h e) = absurd (no_leaf (sym (at-under_nil t (c ∷ [])) ∙ h))
  where
    no_leaf : None ≡ Some x → ⊥
    no_leaf h = cc
part-under t c o some (Content (d ∷ r) x h e) = Content (c ∷ d ∷ r) x (sym (at-under t (c ∷ []) d r) ∙ h) e

-- ---- leaves and entries

pub at-contains : (t : Flat) (p : Path) (x : Leaf) → at t p ≡ Some x → Contains t (p, x)
at-contains [] p x e = cc
at-contains (d ∷ t) p x e =
    elim (same_path p d.0) as (λ b. same_path p d.0 ≡ b → cond b (Some d.1) (at t p) ≡ Some x → Contains (d ∷ t) (p, x)) [
      | true ↦ λ k h. let same : d.1 ≡ x = cc in let path = (path_decides p d.0).0 k in (0, omega arith, λ i. (sym path i, same i))
      | false ↦ λ k h. Contains-append_right (d ∷ []) t (p, x) (at-contains t p x h)
    ] refl e

pub each-in : {A : Type 0} (P : A → Type 0) (xs : List A) (x : A) → Each P xs → Contains xs x → P x
each-in P [] x h (k, l, e) = absurd (omega arith)
each-in P (y ∷ xs) x h (zero, l, e) = subst P e h.0
each-in P (y ∷ xs) x h (suc k, l, e) = each-in P xs x h.1 (k, omega arith, e)
