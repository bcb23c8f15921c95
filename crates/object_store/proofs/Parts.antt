-- A part of a store, and what is found in it.
use Rattle.std.proofs.Common.{◌≡◌, Bool, true, false, cond, ◌&&◌, ◌||◌, List, [], ◌∷◌, Some, refl, sym, ap, ◌∙◌, true≢false, None}
use Rattle.std.specs.Cmp.Lexicographic.{bytes_decides}
use Rattle.std.proofs.lemmas.Bool.{or_right}
use Rattle.git_objects.specs.Paths.{Bytes, same_bytes}
use Rattle.git_objects.specs.declared.kind.Kind.{Kind}
use Rattle.git_objects.specs.Lists.{Each}
use Rattle.object_store.specs.Objects.{Object, object_name, same_kind, is_named, find_named, has, has_name, body_of, IsStore}
use Rattle.object_store.proofs.Held.{named_name, kind_is}
use Rattle.object_store.proofs.Finding.{has-found}

-- they are found under their names
abbrev pub AreIn : List Object → List Object → Type 0
AreIn S os = Each (λ o. find_named S (object_name o) ≡ Some o) os

pub find-name : (S : List Object) (n : Bytes) (o : Object) → find_named S n ≡ Some o → object_name o ≡ n
unfolding find_named
find-name [] n o h = cc
find-name (x ∷ S) n o h =
    elim (same_bytes (object_name x) n) as (λ b. same_bytes (object_name x) n ≡ b → cond b (Some x) (find_named S n) ≡ Some o → object_name o ≡ n) [
      | true ↦ λ e g. let same : o ≡ x = cc in ap object_name same ∙ (bytes_decides (object_name x) n).0 e
      | false ↦ λ e g. find-name S n o g
    ] refl h

-- what is found under a name of that kind
pub found-has : (S : List Object) (k : Kind) (n : Bytes) (o : Object) → find_named S n ≡ Some o → same_kind k o.kind ≡ true → (has k S n ≡ true) × (body_of k S n ≡ o.body)
unfolding find_named has body_of
found-has [] k n o h t = cc
found-has (x ∷ S) k n o h t =
    elim (same_bytes (object_name x) n) as (λ b. same_bytes (object_name x) n ≡ b → cond b (Some x) (find_named S n) ≡ Some o →
    (((same_kind k x.kind && b) || has k S n) ≡ true) × (cond (same_kind k x.kind && b) x.body (body_of k S n) ≡ o.body)) [
      | true ↦ λ e g. let same : o ≡ x = cc in let kind : same_kind k x.kind ≡ true = ap (λ (y : Object). same_kind k y.kind) (sym same) ∙ t in
          (ap (λ b. (b && true) || has k S n) kind, ap (λ b. cond (b && true) x.body (body_of k S n)) kind ∙ ap (λ (y : Object). y.body) (sym same))
      | false ↦ λ e g. let rest = found-has S k n o g t in
          (or_right (same_kind k x.kind && false) (has k S n) rest.0, ap (λ b. cond b x.body (body_of k S n)) (no-and (same_kind k x.kind)) ∙ rest.1)
    ] refl h
  where
    no-and : (b : Bool) → (b && false) ≡ false
    no-and true = refl
    no-and false = refl

-- a part of a store has what the store has
pub part-has : (S H : List Object) (k : Kind) (n : Bytes) → AreIn S H → has k H n ≡ true → (has k S n ≡ true) × (body_of k H n ≡ body_of k S n)
unfolding has body_of
part-has S [] k n i h = absurd (true≢false (sym h))
part-has S (o ∷ H) k n i h =
    elim (is_named k o n) as (λ t. is_named k o n ≡ t → (t || has k H n) ≡ true → (has k S n ≡ true) × (cond t o.body (body_of k H n) ≡ body_of k S n)) [
      | true ↦ λ e g.
          let kind : same_kind k o.kind ≡ true = kind-of (same_kind k o.kind) (same_bytes (object_name o) n) e in
          let f = found-has S k n o (ap (find_named S) (sym (named_name k o n e)) ∙ i.0) kind in (f.0, sym f.1)
      | false ↦ λ e g. part-has S H k n i.1 g
    ] refl h
  where
    kind-of : (a b : Bool) → (a && b) ≡ true → a ≡ true
    kind-of true b e = refl
    kind-of false b e = e

-- a name of the part is of the kind that it has in the store
pub part-kind : (S H : List Object) (k : Kind) (n : Bytes) → IsStore S → AreIn S H → has_name H n ≡ true → has k S n ≡ true → has k H n ≡ true
unfolding has has_name
part-kind S [] k n s i h g = h
part-kind S (o ∷ H) k n s i h g =
    elim (same_bytes (object_name o) n) as (λ b. same_bytes (object_name o) n ≡ b → (b || has_name H n) ≡ true → ((same_kind k o.kind && b) || has k H n) ≡ true) [
      | true ↦ λ e l.
          let found : Some o ≡ find_named S n = sym i.0 ∙ ap (find_named S) ((bytes_decides (object_name o) n).0 e) in
          let kind : same_kind k o.kind ≡ true = has-found k S n (Some o) s found ∙ g in
          ap (λ b. (b && true) || has k H n) kind
      | false ↦ λ e l. or_right (same_kind k o.kind && false) (has k H n) (part-kind S H k n s i.1 l g)
    ] refl h

-- the object of that kind and name
pub find-has : (S : List Object) (k : Kind) (n : Bytes) → IsStore S → has k S n ≡ true → find_named S n ≡ Some (record { kind = k; body = body_of k S n })
find-has S k n s h =
    elim (find_named S n) as (λ r. find_named S n ≡ r → find_named S n ≡ Some (record { kind = k; body = body_of k S n })) [
      | None ↦ λ e. absurd (true≢false (sym (has-found k S n None s (sym e) ∙ h)))
      | Some o ↦ λ e.
          let t : same_kind k o.kind ≡ true = has-found k S n (Some o) s (sym e) ∙ h in
          e ∙ (λ i. Some (record { kind = kind_is k o.kind t i; body = sym (found-has S k n o e t).1 i }))
    ] refl
