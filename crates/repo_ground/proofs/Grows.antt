-- Objects that are taken in one after another.
use Rattle.std.proofs.Common.{◌≡◌, true, false, cond, List, [], ◌∷◌, ◌++◌, map, reverse, None, Some, refl, sym, ap, subst, ◌∙◌}
use Rattle.std.specs.List.{list_any}
use Rattle.std.specs.Option.{option_to_list}
use Rattle.std.proofs.lemmas.List.{reverse-append, map-append, append_assoc}
use Rattle.git_objects.specs.Paths.{Bytes, same_bytes}
use Rattle.git_objects.specs.Parts.{name_bytes}
use Rattle.git_objects.specs.declared.name.Name.{Name}
use Rattle.object_store.specs.Objects.{Object, object_name, find_named, has_name, IsStore}
use Rattle.indexmap.specs.IndexSet.{insert_key}
use Rattle.state_items.specs.Arrivals.{AreNamed}
use Rattle.state_items.specs.Growing.{with_one, grown}
use Rattle.state_items.proofs.Growing.{AreKnown, grown-append}
use Rattle.repo_ground.specs.Growing.{AreFed, held_of, IsReady, IsStep, Extends}
use Rattle.state_items.specs.Writings.{objects_named as named}
use Rattle.state_items.proofs.Naming.{name-known, named-more}
use Rattle.object_store.proofs.Parts.{find-name, AreIn}

-- ---- lists of objects, one behind another

pub fed-front : (S H a b : List Object) → AreFed S H (a ++ b) → AreFed S H a
fed-front S H [] b h = tt
fed-front S H (o ∷ a) b h = (h.0, h.1, fed-front S (with_one H o) a b h.2)

pub fed-back : (S H a b : List Object) → AreFed S H (a ++ b) → AreFed S (grown H a) b
fed-back S H [] b h = h
fed-back S H (o ∷ a) b h = fed-back S (with_one H o) a b h.2

pub fed-both : (S H a b : List Object) → AreFed S H a → AreFed S (grown H a) b → AreFed S H (a ++ b)
fed-both S H [] b h g = g
fed-both S H (o ∷ a) b h g = (h.0, h.1, fed-both S (with_one H o) a b h.2 g)

-- where all are held, nothing is new
pub grown-known : (H os : List Object) → AreKnown H os → grown H os ≡ H
grown-known H [] h = refl
grown-known H (o ∷ os) h = ap (λ b. grown (cond b H (o ∷ H)) os) h.0 ∙ grown-known H os h.1

-- ---- objects of a store

pub named-in : (S : List Object) (ns : List Bytes) → AreIn S (named S ns)
named-in S [] = tt
named-in S (n ∷ ns) =
    elim (find_named S n) as (λ r. find_named S n ≡ r → AreIn S (option_to_list r ++ named S ns)) [
      | None ↦ λ e. named-in S ns
      | Some o ↦ λ e. (ap (find_named S) (find-name S n o e) ∙ e, named-in S ns)
    ] refl

-- ---- names in order of arrival

module _ (S : List Object) (names : List Name) (k : Name) (o : Object) where
  abbrev H : List Object
  H = held_of S names

  pub held-push : find_named S k.0 ≡ Some o → held_of S (names ++ k ∷ []) ≡ o ∷ H
  held-push e =
      ap (named S) (ap reverse (map-append name_bytes names (k ∷ [])) ∙ reverse-append (map name_bytes names) (k.0 ∷ []))
      ∙ ap (λ r. option_to_list r ++ H) e

  known : AreNamed H names → find_named S k.0 ≡ Some o → list_any (λ (j : Name). same_bytes k.0 j.0) names ≡ has_name H (object_name o)
  known h e = name-known H names k h ∙ ap (has_name H) (sym (find-name S k.0 o e))

  abbrev after : List Name
  after = insert_key (λ (i j : Name). same_bytes i.0 j.0) names k

  pub hold-one : find_named S k.0 ≡ Some o → AreNamed H names → (held_of S after ≡ with_one H o) × AreNamed (held_of S after) after
  hold-one e h =
      elim (has_name H (object_name o)) as (λ t. has_name H (object_name o) ≡ t → (held_of S after ≡ cond t H (o ∷ H)) × AreNamed (held_of S after) after) [
        | true ↦ λ g. let same : after ≡ names = ap (λ b. cond b names (names ++ k ∷ [])) (known h e ∙ g) in
            (ap (held_of S) same, subst (λ (ns : List Name). AreNamed (held_of S ns) ns) (sym same) h)
        | false ↦ λ g. let more : after ≡ names ++ k ∷ [] = ap (λ b. cond b names (names ++ k ∷ [])) (known h e ∙ g) in (
          ap (held_of S) more ∙ held-push e,
          subst (λ (ns : List Name). AreNamed (held_of S ns) ns) (sym more)
              (subst (λ (T : List Object). AreNamed T (names ++ k ∷ [])) (sym (held-push e)) (named-more H names o k h (sym (find-name S k.0 o e)))),
        )
      ] refl

  pub hold-step : (os : List Object) → find_named S k.0 ≡ Some o → IsReady S names (o ∷ os) → IsStep S names after (o ∷ os) os
  hold-step os e r =
      let one = hold-one e r.holds.named in record {
        ready = record {
          whole = r.whole;
          holds = record {
            held = subst IsStore (sym one.0) r.fed.1;
            named = one.1;
          };
          fed = subst (λ (T : List Object). AreFed S T os) (sym one.0) r.fed.2;
        };
        same = ap (λ (T : List Object). grown T os) one.0;
      }

pub hold-extends : (names : List Name) (k : Name) → Extends names (insert_key (λ (i j : Name). same_bytes i.0 j.0) names k)
hold-extends names k =
    elim (list_any (λ (j : Name). same_bytes k.0 j.0) names) as (λ b. Extends names (cond b names (names ++ k ∷ []))) [
      | true ↦ ([], sym (append-nil names))
      | false ↦ (k ∷ [], refl)
    ]
  where
    append-nil : (ns : List Name) → ns ++ [] ≡ ns
    append-nil [] = refl
    append-nil (n ∷ ns) = ap (λ (t : List Name). n ∷ t) (append-nil ns)

-- ---- steps in a row

pub step-none : (S : List Object) (names : List Name) (os : List Object) → IsReady S names os → IsStep S names names os os
step-none S names os r = record { ready = r; same = refl }

pub step-then : (S : List Object) (a b c : List Name) (x y z : List Object) → IsStep S a b x y → IsStep S b c y z → IsStep S a c x z
step-then S a b c x y z p q = record { ready = q.ready; same = q.same ∙ p.same }

pub extends-then : (a b c : List Name) → Extends a b → Extends b c → Extends a c
extends-then a b c p q = (p.0 ++ q.0, q.1 ∙ ap (λ (t : List Name). t ++ q.0) p.1 ∙ append_assoc a p.0 q.0)

-- a list, and what comes behind it
pub ready-front : (S : List Object) (names : List Name) (a b : List Object) → IsReady S names (a ++ b) → IsReady S names a
ready-front S names a b r = record { whole = r.whole; holds = r.holds; fed = fed-front S (held_of S names) a b r.fed }

pub step-front : (S : List Object) (names later : List Name) (a b : List Object) → IsReady S names (a ++ b) → IsStep S names later a [] → IsStep S names later (a ++ b) b
step-front S names later a b r p = record {
  ready = record {
    whole = r.whole;
    holds = p.ready.holds;
    fed = subst (λ (T : List Object). AreFed S T b) (sym p.same) (fed-back S (held_of S names) a b r.fed);
  };
  same = ap (λ (T : List Object). grown T b) p.same ∙ sym (grown-append (held_of S names) a b);
}
