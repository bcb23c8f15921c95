-- The names that were held for new objects.
use Rattle.std.proofs.Common.{◌≡◌, ◌≤◌, suc, true, false, cond, ◌&&◌, List, [], ◌∷◌, ◌++◌, length, map, filter, reverse, Some, refl, sym, ap, ◌∙◌, arith}
use borrow.Author.Tests.{leb-true}
use Rattle.std.specs.Prelude.{nat_le}
use Rattle.std.specs.Cmp.{first_so, second_so}
use Rattle.std.specs.Option.{option_to_list}
use Rattle.std.proofs.lemmas.Bool.{le-leb}
use Rattle.std.proofs.lemmas.List.{append_assoc, append_cancel_right, map-append, reverse-append, reverse-reverse}
use Rattle.git_objects.specs.Paths.{Bytes}
use Rattle.git_objects.specs.Parts.{name_bytes}
use Rattle.git_objects.specs.declared.limits.TheConstants.{COMMITS, OBJECTS}
use Rattle.git_objects.specs.declared.name.Name.{Name}
use Rattle.object_store.specs.Fits.{is_commit}
use Rattle.object_store.specs.Objects.{Object, IsStore, find_named, has_name, object_name}
use Rattle.object_store.proofs.Parts.{AreIn}
use Rattle.state_items.specs.Appending.{AreNew}
use Rattle.state_items.specs.Arrivals.{AreNamed}
use Rattle.state_items.specs.Changes.{fresh}
use Rattle.state_items.specs.Items.{has_room}
use Rattle.state_items.specs.Writings.{found}
use Rattle.repo_ground.specs.Entering.{AreNewIn, with_all, with_found}
use Rattle.repo_ground.specs.Growing.{AreFed}

-- ---- room

room-less : (o : Object) (S : List Object) → has_room (o ∷ S) ≡ true → has_room S ≡ true
room-less o S h =
    let a = leb-true (length (o ∷ S)) OBJECTS (first_so _ _ h) in
    let b = leb-true (length (filter is_commit (o ∷ S))) COMMITS (second_so (nat_le (length (o ∷ S)) OBJECTS) _ h) in
    let c = fewer o S in
    (λ i. le-leb (length S) OBJECTS (omega (arith, a)) i && le-leb (length (filter is_commit S)) COMMITS (omega (arith, b, c)) i)
  where
    fewer : (o : Object) (S : List Object) → length (filter is_commit S) ≤ length (filter is_commit (o ∷ S))
    fewer o S = elim (is_commit o) as (λ b. length (filter is_commit S) ≤ length (cond b (o ∷ filter is_commit S) (filter is_commit S))) [ true ↦ omega arith | false ↦ omega arith ]

room-back : (newer S : List Object) → has_room (newer ++ S) ≡ true → has_room S ≡ true
room-back [] S h = h
room-back (o ∷ newer) S h = room-back newer S (room-less o (newer ++ S) h)

-- ---- names of new objects

pub front-of : {A : Type 0} (x : A) (xs ys : List A) → reverse (x ∷ xs) ++ ys ≡ reverse xs ++ x ∷ ys
front-of x xs ys = ap (λ (r : List _). r ++ ys) (reverse-append (x ∷ []) xs) ∙ append_assoc (reverse xs) (x ∷ []) ys

same-head : (x y : Bytes) (xs ys : List Bytes) → x ∷ xs ≡ y ∷ ys → x ≡ y
same-head x y xs ys e = cc

same-tail : (x y : Bytes) (xs ys : List Bytes) → x ∷ xs ≡ y ∷ ys → xs ≡ ys
same-tail x y xs ys e = cc

-- names stand for new objects, one after another
pub record AreFreshNames (S H : List Object) (names : List Name) (fs : List Object) : Type 0 where
  pub found : found S names ≡ fs
  pub number : length names ≡ length fs
  pub new : has_room (reverse fs ++ H) ≡ true → AreNewIn S H names
  pub all : with_all S H names ≡ reverse fs ++ H

pub fresh-names : (S H : List Object) (names : List Name) (fs : List Object) → IsStore H → AreNew H fs → AreIn S fs → map name_bytes names ≡ map object_name fs → AreFreshNames S H names fs
fresh-names S H [] [] s n i e = record { found = refl; number = refl; new = λ r. tt; all = refl }
fresh-names S H [] (o ∷ fs) s n i e = cc
fresh-names S H (k ∷ names) [] s n i e = cc
fresh-names S H (k ∷ names) (o ∷ fs) s n i e =
    let here : k.0 ≡ object_name o = same-head k.0 (object_name o) (map name_bytes names) (map object_name fs) e in
    let at : find_named S k.0 ≡ Some o = ap (find_named S) here ∙ i.0 in
    let whole : IsStore (o ∷ H) = (n.0, n.2, s) in
    let later = fresh-names S (o ∷ H) names fs whole n.3 i.1 (same-tail k.0 (object_name o) (map name_bytes names) (map object_name fs) e) in
    record {
      found = λ j. option_to_list (at j) ++ later.found j;
      number = ap suc later.number;
      new = λ r.
          let q : has_room (reverse fs ++ o ∷ H) ≡ true = ap has_room (sym (front-of o fs H)) ∙ r in
          (o, record { found = at; named = here; whole = whole; room = room-back (reverse fs) (o ∷ H) q }, later.new q);
      all = ap (λ x. with_all S (with_found x H) names) at ∙ later.all ∙ sym (front-of o fs H);
    }

-- what is new is in the store, as all that is taken in
pub fed-fresh : (S H os : List Object) → AreFed S H os → AreIn S (fresh H os)
unfolding fresh
fed-fresh S H [] f = tt
fed-fresh S H (o ∷ os) f =
    elim (has_name H (object_name o)) as (λ b. AreFed S (cond b H (o ∷ H)) os → AreIn S (cond b (fresh H os) (o ∷ fresh (o ∷ H) os))) [
      | true ↦ λ g. fed-fresh S H os g
      | false ↦ λ g. (f.0, fed-fresh S (o ∷ H) os g)
    ] f.2

map-back : (fs : List Object) → map object_name (reverse fs) ≡ reverse (map object_name fs)
map-back [] = refl
map-back (o ∷ fs) =
    ap (map object_name) (reverse-append (o ∷ []) fs)
    ∙ map-append object_name (reverse fs) (o ∷ [])
    ∙ ap (λ (t : List Bytes). t ++ object_name o ∷ []) (map-back fs)
    ∙ sym (reverse-append (object_name o ∷ []) (map object_name fs))

-- names behind those of what was held are those of what is new
pub names-fresh : (H fs : List Object) (old more : List Name) → AreNamed H old → AreNamed (reverse fs ++ H) (old ++ more) → map name_bytes more ≡ map object_name fs
names-fresh H fs old more a b =
    let nb = map name_bytes in
    let split : reverse (nb more) ++ map object_name H ≡ map object_name (reverse fs) ++ map object_name H =
    ap (λ (t : List Bytes). reverse (nb more) ++ t) (sym a) ∙ sym (reverse-append (nb old) (nb more)) ∙ ap reverse (sym (map-append name_bytes old more)) ∙ b ∙ map-append object_name (reverse fs) H in
    let e = append_cancel_right (reverse (nb more)) (map object_name (reverse fs)) (map object_name H) split in
    sym (reverse-reverse (nb more)) ∙ ap reverse (e ∙ map-back fs) ∙ reverse-reverse (map object_name fs)
