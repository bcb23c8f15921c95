-- New objects that are entered one after another.
use Rattle.std.proofs.Common.{◌≡◌, ℕ, ◌<◌, ◌+◌, ◌⊎◌, inl, inr, List, [], ◌∷◌, ◌++◌, length, drop, get_or, map, Option, refl, sym, ap, subst, ◌∙◌, add-one}
use Rattle.std.proofs.Math.Seq.{drop-cons}
use Rattle.std.proofs.lemmas.List.{append_assoc}
use Rattle.std.specs.Option.{option_to_list}
use Rattle.git_objects.specs.Parts.{name_bytes}
use Rattle.git_objects.specs.declared.name.Name.{Name}
use Rattle.commit_graph.specs.Graphs.{Row}
use Rattle.object_store.specs.declared.store.ObjectRef.{ObjectRef}
use Rattle.object_store.specs.Errors.{object_value}
use Rattle.object_store.specs.Objects.{Object, object_name}
use Rattle.state_items.specs.Arrivals.{AreHeld, HasArrived, with_blob_name, with_row}
use Rattle.state_items.specs.Writings.{found}
use Rattle.state_items.proofs.Taking.{arrived, held-more}
use Rattle.repo_ground.specs.Entering.{AreNewIn, IsFront, IsNewIn, with_all, with_found}

append-none : {A : Type 0} (xs : List A) → xs ++ [] ≡ xs
append-none [] = refl
append-none (x ∷ xs) = ap (λ (t : List _). x ∷ t) (append-none xs)

pub front-none : {A : Type 0} (xs : List A) → IsFront xs xs
front-none xs = ([], sym (append-none xs))

pub front-then : {A : Type 0} (a b c : List A) → IsFront a b → IsFront b c → IsFront a c
front-then a b c p q = (p.0 ++ q.0, q.1 ∙ ap (λ (t : List _). t ++ q.0) p.1 ∙ append_assoc a p.0 q.0)

pub drop-at : (names : List Name) (k : ℕ) (d : Name) → k < length names → drop k names ≡ get_or names k d ∷ drop (k + 1) names
drop-at names k d h = drop-cons names k d h ∙ (λ i. get_or names k d ∷ drop (sym (add-one k) i) names)

-- some names are left to be entered, with their objects
pub record IsEntering (S H : List Object) (held names left : List Name) (objects : List ObjectRef) (rows : List Row) (blobs : List Name) : Type 0 where
  pub now : List Object
  pub done : List Name
  pub split : done ++ left ≡ names
  pub holds : AreHeld now (held ++ done) rows blobs
  pub new : AreNewIn S now left
  pub found : map object_value objects ≡ found S left
  pub same : with_all S now left ≡ with_all S H names

same-head : (x y : Object) (xs ys : List Object) → x ∷ xs ≡ y ∷ ys → x ≡ y
same-head x y xs ys e = cc

same-tail : (x y : Object) (xs ys : List Object) → x ∷ xs ≡ y ∷ ys → xs ≡ ys
same-tail x y xs ys e = cc

module _ (S H : List Object) (held names : List Name) (rows : List Row) (blobs : List Name) where
  pub entering-first : (left : List Name) (objects all : List ObjectRef) → left ≡ names → objects ≡ all → AreHeld H held rows blobs → AreNewIn S H names → map object_value all ≡ found S names
      → IsEntering S H held names left objects rows blobs
  entering-first left objects all p q h l f = record {
    now = H;
    done = [];
    split = p;
    holds = subst (λ (ns : List Name). AreHeld H ns rows blobs) (sym (append-none held)) h;
    new = subst (AreNewIn S H) (sym p) l;
    found = ap (map object_value) q ∙ f ∙ ap (found S) (sym p);
    same = ap (with_all S H) p;
  }

  module _ (before left : List Name) (objects others : List ObjectRef) (n : Name) (o : ObjectRef) (p : before ≡ n ∷ left) (q : objects ≡ o ∷ others) (i : IsEntering S H held names before objects rows blobs) where
    abbrev v : Object
    v = object_value o

    abbrev e : IsEntering S H held names (n ∷ left) (o ∷ others) rows blobs
    e =
        subst (λ (ns : List Name). IsEntering S H held names ns (o ∷ others) rows blobs) p
        (subst (λ (os : List ObjectRef). IsEntering S H held names before os rows blobs) q i)

    -- the object that is found by the first name, and those that are found by the others
    found-first : v ∷ map object_value others ≡ e.new.0 ∷ found S left
    found-first = e.found ∙ ap (λ (t : Option Object). option_to_list t ++ found S left) e.new.1.found

    first-new : IsNewIn S e.now n v × AreNewIn S (v ∷ e.now) left
    first-new =
        subst (λ (x : Object). IsNewIn S e.now n x × AreNewIn S (x ∷ e.now) left)
        (sym (same-head v e.new.0 (map object_value others) (found S left) found-first)) (e.new.1, e.new.2)

    -- what a name needs before it is entered
    pub entering-next : (n.0 ≡ object_name v) × HasArrived rows (map name_bytes blobs) v.kind v.body
    entering-next = let one = first-new.0 in (one.named, arrived e.now (held ++ e.done) rows blobs e.holds v.kind v.body (v ∷ e.now) one.whole refl one.whole.1)

    pub entering-then : (rows' : List Row) (blobs' : List Name) → rows' ≡ with_row rows v.kind v.body → map name_bytes blobs' ≡ with_blob_name (map name_bytes blobs) v.kind v.body
        → IsEntering S H held names left others rows' blobs'
    entering-then rows' blobs' r b =
        let x = first-new in
        let after : held ++ (e.done ++ n ∷ []) ≡ (held ++ e.done) ++ n ∷ [] = sym (append_assoc held e.done (n ∷ [])) in record {
          now = v ∷ e.now;
          done = e.done ++ n ∷ [];
          split = append_assoc e.done (n ∷ []) left ∙ e.split;
          holds = held-more e.now (held ++ e.done) rows blobs e.holds v.kind v.body (v ∷ e.now) n (held ++ (e.done ++ n ∷ [])) rows' blobs' x.0.whole refl after x.0.named r b x.0.room;
          new = x.1;
          found = same-tail v e.new.0 (map object_value others) (found S left) found-first;
          same = ap (λ t. with_all S (with_found t e.now) left) (sym x.0.found) ∙ e.same;
        }

  -- where no object is left, no name is
  pub entering-end : (left : List Name) (objects : List ObjectRef) → (left ≡ []) ⊎ (objects ≡ []) → IsEntering S H held names left objects rows blobs → AreHeld (with_all S H names) (held ++ names) rows blobs
  entering-end [] objects q e =
      subst (λ (T : List Object). AreHeld T (held ++ names) rows blobs) e.same
      (subst (λ (ns : List Name). AreHeld e.now (held ++ ns) rows blobs) (sym (append-none e.done) ∙ e.split) e.holds)
  entering-end (n ∷ left) [] q e = let f : [] ≡ e.new.0 ∷ found S left = e.found ∙ ap (λ (t : Option Object). option_to_list t ++ found S left) e.new.1.found in cc
  entering-end (n ∷ left) (o ∷ objects) (inl q) e = cc
  entering-end (n ∷ left) (o ∷ objects) (inr q) e = cc
