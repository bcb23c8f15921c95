-- Objects that are taken in one after another, each once.
use Rattle.std.proofs.Common.{◌≡◌, true, false, cond, ◌||◌, List, [], ◌∷◌, ◌++◌, reverse, Some, refl, sym, ap, ◌∙◌, true≢false}
use Rattle.std.specs.Cmp.Lexicographic.{bytes_decides}
use Rattle.std.proofs.lemmas.Bool.{or_right}
use Rattle.std.proofs.lemmas.List.{append_assoc, reverse-append}
use Rattle.git_objects.specs.Lists.{Each}
use Rattle.git_objects.specs.Paths.{Bytes, same_bytes}
use Rattle.git_objects.proofs.Basics.{same_bytes-self}
use Rattle.object_store.specs.Objects.{Object, IsStore, find_named, has_name, object_name}
use Rattle.object_store.proofs.Parts.{AreIn}
use Rattle.state_items.specs.Changes.{fresh}
use Rattle.state_items.specs.Growing.{grown, with_one}

pub grown-append : (H a b : List Object) → grown H (a ++ b) ≡ grown (grown H a) b
grown-append H [] b = refl
grown-append H (o ∷ a) b = grown-append (with_one H o) a b

-- what is new stands in front of what was held
pub grown-fresh : (H os : List Object) → grown H os ≡ reverse (fresh H os) ++ H
unfolding fresh
grown-fresh H [] = refl
grown-fresh H (o ∷ os) =
    elim (has_name H (object_name o)) as (λ b. grown (cond b H (o ∷ H)) os ≡ reverse (cond b (fresh H os) (o ∷ fresh (o ∷ H) os)) ++ H) [
      | true ↦ grown-fresh H os
      | false ↦ grown-fresh (o ∷ H) os ∙ sym (ap (λ (r : List Object). r ++ H) (reverse-append (o ∷ []) (fresh (o ∷ H) os)) ∙ append_assoc (reverse (fresh (o ∷ H) os)) (o ∷ []) H)
    ]

-- ---- what stays known

abbrev pub AreKnown : List Object → List Object → Type 0
AreKnown H os = Each (λ o. has_name H (object_name o) ≡ true) os

known-one : (H : List Object) (o : Object) (n : Bytes) → has_name H n ≡ true → has_name (with_one H o) n ≡ true
unfolding has_name
known-one H o n h =
    elim (has_name H (object_name o)) as (λ b. has_name (cond b H (o ∷ H)) n ≡ true) [ true ↦ h | false ↦ or_right (same_bytes (object_name o) n) (has_name H n) h ]

pub known-grown : (H os : List Object) (n : Bytes) → has_name H n ≡ true → has_name (grown H os) n ≡ true
known-grown H [] n h = h
known-grown H (o ∷ os) n h = known-grown (with_one H o) os n (known-one H o n h)

known-self : (H : List Object) (o : Object) → has_name (with_one H o) (object_name o) ≡ true
unfolding has_name
known-self H o =
    elim (has_name H (object_name o)) as (λ b. has_name H (object_name o) ≡ b → has_name (cond b H (o ∷ H)) (object_name o) ≡ true) [
      | true ↦ λ e. e
      | false ↦ λ e. ap (λ b. b || has_name H (object_name o)) (same_bytes-self (object_name o))
    ] refl

pub grown-all : (H os : List Object) → AreKnown (grown H os) os
grown-all H [] = tt
grown-all H (o ∷ os) = (known-grown (with_one H o) os (object_name o) (known-self H o), grown-all (with_one H o) os)

-- ---- a store's own objects are in it

found-first : (o : Object) (S : List Object) → find_named (o ∷ S) (object_name o) ≡ Some o
unfolding find_named
found-first o S = ap (λ b. cond b (Some o) (find_named S (object_name o))) (same_bytes-self (object_name o))

name-apart : (o x : Object) (S : List Object) → has_name S (object_name o) ≡ false → has_name S (object_name x) ≡ true → same_bytes (object_name o) (object_name x) ≡ false
name-apart o x S h g =
    elim (same_bytes (object_name o) (object_name x)) as (λ b. same_bytes (object_name o) (object_name x) ≡ b → b ≡ false) [
      | true ↦ λ e. absurd (true≢false (sym (ap (has_name S) ((bytes_decides (object_name o) (object_name x)).0 e) ∙ g) ∙ h))
      | false ↦ λ e. refl
    ] refl

pub in-above : (o : Object) (S xs : List Object) → has_name S (object_name o) ≡ false → AreKnown S xs → AreIn S xs → AreIn (o ∷ S) xs
unfolding find_named
in-above o S [] h k i = tt
in-above o S (x ∷ xs) h k i =
    (ap (λ b. cond b (Some o) (find_named S (object_name x))) (name-apart o x S h k.0) ∙ i.0, in-above o S xs h k.1 i.1)

known-own : (S : List Object) → AreKnown S S
unfolding has_name
known-own [] = tt
known-own (o ∷ S) = (ap (λ b. b || has_name S (object_name o)) (same_bytes-self (object_name o)), more S (known-own S))
  where
    more : (xs : List Object) → AreKnown S xs → AreKnown (o ∷ S) xs
    more [] k = tt
    more (x ∷ xs) k = (or_right (same_bytes (object_name o) (object_name x)) (has_name S (object_name x)) k.0, more xs k.1)

pub in-self : (S : List Object) → IsStore S → AreIn S S
in-self [] s = tt
in-self (o ∷ S) s = (found-first o S, in-above o S S s.1 (known-own S) (in-self S s.2))
