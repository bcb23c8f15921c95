-- Two objects of one name.
use Rattle.std.proofs.Common.{◌≡◌, true, false, cond, List, [], ◌∷◌, Contains, Option, None, Some, inl, inr, refl, sym, ap, subst, ◌∙◌, true≢false}
use Rattle.std.specs.Prelude.{◌⊎◌}
use Rattle.std.specs.Cmp.Lexicographic.{bytes_decides}
use Rattle.std.proofs.lemmas.List.Elements.{Contains-append_cases, Contains-append_right}
use Rattle.git_objects.specs.Names.{name}
use Rattle.git_objects.specs.Paths.{Bytes, same_bytes}
use Rattle.git_objects.specs.declared.kind.Kind.{Kind}
use Rattle.git_objects.proofs.Basics.{and_both, same_bytes-self}
use Rattle.object_store.specs.Growth.{IsClash, IsGrownBy}
use Rattle.object_store.specs.Objects.{Object, find_named, object_name, same_kind}
use Rattle.object_store.specs.Puts.{Refusal, Collides, collision, same_object}
use Rattle.object_store.proofs.Held.{kind_is}
use Rattle.object_store.proofs.Parts.{find-name}
use Rattle.state_items.specs.Hands.{IsTwice}
use Rattle.state_items.proofs.TreeParts.{each-member}
use Rattle.state_items.proofs.TreesAdded.{same_kind-self}

-- ---- a clash

some-same : {A : Type 0} (x y : A) → Some x ≡ Some y → x ≡ y
some-same x y e = cc

-- what is found is there
found-member : (S : List Object) (n : Bytes) (o : Object) → find_named S n ≡ Some o → Contains S o
unfolding find_named
found-member [] n o e = let no : None ≡ Some o = e in cc
found-member (x ∷ S) n o e =
    elim (same_bytes (object_name x) n) as (λ b. cond b (Some x) (find_named S n) ≡ Some o → Contains (x ∷ S) o) [
      | true ↦ λ k. subst (Contains (x ∷ S)) (some-same x o k) (each-member (x ∷ S)).0
      | false ↦ λ k. Contains-append_right (x ∷ []) S o (found-member S n o k)
    ] e

record Clashed (k : Kind) (b n : Bytes) (o : Option Object) : Type 0 where
  other : Object
  found : o ≡ Some other
  named : name k b ≡ n
  apart : same_object k b other ≡ false

clashed : (k : Kind) (b n : Bytes) (o : Option Object) → collision k b o ≡ Some (Collides n) → Clashed k b n o
clashed k b n None e = let no : None ≡ Some (Collides n) = e in cc
clashed k b n (Some x) e =
    elim (same_object k b x) as (λ t. same_object k b x ≡ t → cond t None (Some (Collides (name k b))) ≡ Some (Collides n) → Clashed k b n (Some x)) [
      | true ↦ λ g j. let no : None ≡ Some (Collides n) = j in cc
      | false ↦ λ g j. record { other = x; found = refl; named = ap name-of (some-same (Collides (name k b)) (Collides n) j); apart = g }
    ] refl e
  where
    name-of : Refusal → Bytes
    name-of (Collides m) = m
    name-of r = n

object-self : (o : Object) → same_object o.kind o.body o ≡ true
object-self o = and_both (same_kind-self o.kind) (same_bytes-self o.body)

-- a clash in a store that has grown is of two objects, each of which was there or was made
pub clash-twice : (made : Object → Type 0) (S T : List Object) (n : Bytes) → IsGrownBy made S T → IsClash made T n → IsTwice (λ o. Contains S o ⊎ made o) n
clash-twice made S T n g c =
    let w = clashed c.object.kind c.object.body n (find_named T n) c.held in
    let there = subst (λ (R : List Object). Contains R w.other) (sym g.above) (found-member T n w.other w.found) in
    record {
      first = c.object;
      second = w.other;
      first_there = inr c.is_made;
      second_there = either (Contains-append_cases g.newer S w.other there);
      apart = λ e. true≢false (sym (object-self c.object) ∙ ap (same_object c.object.kind c.object.body) e ∙ w.apart);
      first_named = w.named;
      second_named = find-name T n w.other w.found;
    }
  where
    either : {o : Object} → Contains g.newer o ⊎ Contains S o → Contains S o ⊎ made o
    either (inl m) = inr (g.all _ m)
    either (inr m) = inl m

-- ---- no name twice

-- objects are the same or not
same-object : (o d : Object) → ((o ≡ d → ⊥) → ⊥) → o ≡ d
same-object o d f =
    elim (same_kind d.kind o.kind) as (λ b. same_kind d.kind o.kind ≡ b → o ≡ d) [
      | true ↦ λ k. elim (same_bytes o.body d.body) as (λ b. same_bytes o.body d.body ≡ b → o ≡ d) [
        | true ↦ λ g. (λ i. record { kind = kind_is d.kind o.kind k i; body = (bytes_decides o.body d.body).0 g i })
        | false ↦ λ g. absurd (f (λ e. true≢false (sym (same_bytes-self o.body) ∙ ap (λ (x : Object). same_bytes o.body x.body) e ∙ g)))
      ] refl
      | false ↦ λ k. absurd (f (λ e. true≢false (sym (same_kind-self d.kind) ∙ ap (λ (x : Object). same_kind d.kind x.kind) (sym e) ∙ k)))
    ] refl

-- objects of one name are the same
pub once-same : (hand : Object → Type 0) → ((n : Bytes) → IsTwice hand n → ⊥) → (o d : Object) → hand o → hand d → object_name o ≡ object_name d → o ≡ d
once-same hand f o d p q e =
    same-object o d (λ differ. f (object_name d) (record { first = o; second = d; first_there = p; second_there = q; apart = differ; first_named = e; second_named = refl }))
