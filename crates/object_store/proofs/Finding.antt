-- Look-ups in a store, and by the places of its objects.
use Rattle.std.proofs.Common.{◌≡◌, ◌+◌, ◌≤◌, Bool, true, false, not, cond, ◌&&◌, ◌||◌, List, [], ◌∷◌, ◌++◌, length, reverse, Option, Some, None, refl, sym, ap, subst, ◌∙◌, true≢false, eqb, arith}
use Rattle.std.proofs.lemmas.Bool.{ne_eqb}
use denote.Enum.Bare.{sameb}
use Rattle.std.proofs.lemmas.List.{reverse-append, reverse-reverse}
use Rattle.std.specs.Option.{is_some, option_map, option_map_or}
use Rattle.std.specs.Map.{lookup}
use Rattle.std.specs.Cmp.Lexicographic.{bytes_decides}
use Rattle.git_objects.specs.Paths.{Bytes, same_bytes, is_nil}
use Rattle.git_objects.specs.declared.kind.Kind.{Kind}
use Rattle.git_objects.specs.declared.kind.Kind.TheVariants.{Blob, Tree, Commit}
use Rattle.git_objects.specs.contracts.kind.Kind.{the_type}
use Rattle.git_objects.specs.declared.name.Name.{Name}
use Rattle.git_objects.proofs.Basics.{same_bytes-back}
use Rattle.git_objects.proofs.Maps.{first_some}
use Rattle.object_store.specs.Objects.{Object, object_name, same_kind, find_named, has, has_name, body_of, IsStore}
use Rattle.object_store.specs.Places.{arrived_objects, placed, placed_objects, ArePlaced, HoldsStore}
use Rattle.object_store.specs.declared.shelf.Place.{Place}
use Rattle.object_store.proofs.Held.{has_name-from}

-- no two have one name
abbrev pub AreApart : List Object → Type 0
AreApart [] = Unit
AreApart (o ∷ older) = (has_name older (object_name o) ≡ false) × AreApart older

pub store-apart : (S : List Object) → IsStore S → AreApart S
store-apart [] s = tt
store-apart (o ∷ older) s = (s.1, store-apart older s.2)

-- ---- the object of a name

pub found_name : (S : List Object) (n : Bytes) → has_name S n ≡ is_some (find_named S n)
unfolding find_named has_name
found_name [] n = refl
found_name (o ∷ older) n =
    elim (same_bytes (object_name o) n) as (λ b. (b || has_name older n) ≡ is_some (cond b (Some o) (find_named older n))) [ true ↦ refl | false ↦ found_name older n ]

none_found : (o : Option Object) → is_some o ≡ false → o ≡ None
none_found None h = refl
none_found (Some x) h = absurd (true≢false h)

none_named : (S : List Object) (n : Bytes) → has_name S n ≡ false → find_named S n ≡ None
none_named S n h = none_found (find_named S n) (sym (found_name S n) ∙ h)

find-append : (S R : List Object) (n : Bytes) → find_named (S ++ R) n ≡ first_some (find_named S n) (find_named R n)
unfolding find_named
find-append [] R n = refl
find-append (o ∷ S) R n =
    elim (same_bytes (object_name o) n) as (λ b. cond b (Some o) (find_named (S ++ R) n) ≡ first_some (cond b (Some o) (find_named S n)) (find_named R n)) [ true ↦ refl | false ↦ find-append S R n ]

some_first : (o : Option Object) → first_some o None ≡ o
some_first None = refl
some_first (Some x) = refl

-- where names are apart, the order makes no difference
find-reverse : (S : List Object) (n : Bytes) → AreApart S → find_named (reverse S) n ≡ find_named S n
unfolding find_named
find-reverse [] n h = refl
find-reverse (o ∷ S) n h =
    ap (λ (R : List Object). find_named R n) (reverse-append (o ∷ []) S)
    ∙ find-append (reverse S) (o ∷ []) n
    ∙ ap (λ r. first_some r (find_named (o ∷ []) n)) (find-reverse S n h.1)
    ∙ elim (same_bytes (object_name o) n) as (λ b. same_bytes (object_name o) n ≡ b → first_some (find_named S n) (cond b (Some o) None) ≡ cond b (Some o) (find_named S n)) [
      | true ↦ λ e. ap (λ r. first_some r (Some o)) (none_named S n (ap (has_name S) (sym ((bytes_decides (object_name o) n).0 e)) ∙ h.0))
      | false ↦ λ e. some_first (find_named S n)
    ] refl

-- ---- by places

find-placed : (arena : Bytes) (es : List (Name × Place)) (k : Name) → ArePlaced arena es → find_named (arrived_objects arena es) k.0 ≡ option_map (placed arena) (lookup (λ (j : Name). same_bytes k.0 j.0) es)
unfolding find_named
find-placed arena [] k h = refl
find-placed arena (e ∷ es) k h =
    ap (λ b. cond b (Some (placed arena e.1)) (find_named (arrived_objects arena es) k.0)) (ap (λ n. same_bytes n k.0) h.0.named ∙ same_bytes-back e.0.0 k.0)
    ∙ elim (same_bytes k.0 e.0.0) as (λ b. cond b (Some (placed arena e.1)) (find_named (arrived_objects arena es) k.0) ≡ option_map (placed arena) (cond b (Some e.1) (lookup (λ (j : Name). same_bytes k.0 j.0) es))) [
      | true ↦ refl
      | false ↦ find-placed arena es k h.1
    ]

pub find-places : (arena : Bytes) (es : List (Name × Place)) (k : Name) → HoldsStore arena es →
    find_named (placed_objects arena es) k.0 ≡ option_map (placed arena) (lookup (λ (j : Name). same_bytes k.0 j.0) es)
find-places arena es k h =
    let S = placed_objects arena es in
    sym (find-reverse S k.0 (store-apart S h.store))
    ∙ ap (λ (R : List Object). find_named R k.0) (reverse-reverse (arrived_objects arena es))
    ∙ find-placed arena es k h.placed

pub place-within : (arena : Bytes) (es : List (Name × Place)) (test : Name → Bool) (p : Place) → ArePlaced arena es → lookup test es ≡ Some p → p.at + p.len ≤ length arena
place-within arena [] test p h e = cc
place-within arena (d ∷ es) test p h e =
    elim (test d.0) as (λ b. cond b (Some d.1) (lookup test es) ≡ Some p → p.at + p.len ≤ length arena) [
      | true ↦ λ g. let same : d.1 ≡ p = cc in subst (λ (q : Place). q.at + q.len ≤ length arena) same h.0.within
      | false ↦ λ g. place-within arena es test p h.1 g
    ] e

pub nothing-placed : (arena : Bytes) (es : List (Name × Place)) (k : Name) → HoldsStore arena es → find_named (placed_objects arena es) k.0 ≡ None → lookup (λ (j : Name). same_bytes k.0 j.0) es ≡ None
nothing-placed arena es k h e = unmapped (lookup (λ (j : Name). same_bytes k.0 j.0) es) (sym (find-places arena es k h) ∙ e)
  where
    unmapped : (o : Option Place) → option_map (placed arena) o ≡ None → o ≡ None
    unmapped None g = refl
    unmapped (Some p) g = cc

-- ---- what is known of a name by its object

no_kind : (k : Kind) (S : List Object) (n : Bytes) → has_name S n ≡ false → has k S n ≡ false
no_kind k S n h = elim (has k S n) as (λ b. has k S n ≡ b → b ≡ false) [ true ↦ λ e. absurd (true≢false (sym (has_name-from k S n e) ∙ h)) | false ↦ λ e. refl ] refl

and-true : (b : Bool) → (b && true) ≡ b
and-true true = refl
and-true false = refl

or-false : (b : Bool) → (b || false) ≡ b
or-false true = refl
or-false false = refl

pub and-false : (b : Bool) → (b && false) ≡ false
and-false true = refl
and-false false = refl

found_kind : (k : Kind) (S : List Object) (n : Bytes) → AreApart S → has k S n ≡ option_map_or (λ o. same_kind k o.kind) (find_named S n) false
unfolding find_named has
found_kind k [] n h = refl
found_kind k (o ∷ S) n h =
    elim (same_bytes (object_name o) n) as (λ b. same_bytes (object_name o) n ≡ b → ((same_kind k o.kind && b) || has k S n) ≡ option_map_or (λ (o : Object). same_kind k o.kind) (cond b (Some o) (find_named S n)) false) [
      | true ↦ λ e.
          let none : has k S n ≡ false = no_kind k S n (ap (has_name S) (sym ((bytes_decides (object_name o) n).0 e)) ∙ h.0) in
          (λ i. and-true (same_kind k o.kind) i || none i) ∙ or-false (same_kind k o.kind)
      | false ↦ λ e. ap (λ b. b || has k S n) (and-false (same_kind k o.kind)) ∙ found_kind k S n h.1
    ] refl

abbrev pub full_kind : Kind → Object → Bool
full_kind k o = same_kind k o.kind && not (is_nil o.body)

-- whether an object of that kind has the name and a body
found_full : (k : Kind) (S : List Object) (n : Bytes) → AreApart S → (has k S n && not (is_nil (body_of k S n))) ≡ option_map_or (full_kind k) (find_named S n) false
unfolding find_named has body_of
found_full k [] n h = refl
found_full k (o ∷ S) n h =
    elim (same_bytes (object_name o) n) as (λ b. same_bytes (object_name o) n ≡ b →
    (((same_kind k o.kind && b) || has k S n) && not (is_nil (cond (same_kind k o.kind && b) o.body (body_of k S n)))) ≡ option_map_or (full_kind k) (cond b (Some o) (find_named S n)) false) [
      | true ↦ λ e. here (no_kind k S n (ap (has_name S) (sym ((bytes_decides (object_name o) n).0 e)) ∙ h.0))
      | false ↦ λ e. ap (λ b. (b || has k S n) && not (is_nil (cond b o.body (body_of k S n)))) (and-false (same_kind k o.kind)) ∙ found_full k S n h.1
    ] refl
  where
    here : has k S n ≡ false → (((same_kind k o.kind && true) || has k S n) && not (is_nil (cond (same_kind k o.kind && true) o.body (body_of k S n)))) ≡ full_kind k o
    here none = elim (same_kind k o.kind) as (λ b. (((b && true) || has k S n) && not (is_nil (cond (b && true) o.body (body_of k S n)))) ≡ (b && not (is_nil o.body))) [ true ↦ refl | false ↦ ap (λ c. c && not (is_nil (body_of k S n))) none ]

pub has-found : (k : Kind) (S : List Object) (n : Bytes) (o : Option Object) → IsStore S → o ≡ find_named S n → option_map_or (λ o. same_kind k o.kind) o false ≡ has k S n
has-found k S n o s e = ap (λ (o : Option Object). option_map_or (λ (o : Object). same_kind k o.kind) o false) e ∙ sym (found_kind k S n (store-apart S s))

pub full-found : (k : Kind) (S : List Object) (n : Bytes) (o : Option Object) → IsStore S → o ≡ find_named S n → option_map_or (full_kind k) o false ≡ (has k S n && not (is_nil (body_of k S n)))
full-found k S n o s e = ap (λ o. option_map_or (full_kind k) o false) e ∙ sym (found_full k S n (store-apart S s))

-- ---- the code's tests

pub kind_test : (held k : Kind) → sameb the_type held k ≡ same_kind k held
kind_test Blob Blob = refl
kind_test Blob Tree = refl
kind_test Blob Commit = refl
kind_test Tree Blob = refl
kind_test Tree Tree = refl
kind_test Tree Commit = refl
kind_test Commit Blob = refl
kind_test Commit Tree = refl
kind_test Commit Commit = refl

pub nil_test : (b : Bytes) → eqb (length b) 0 ≡ is_nil b
nil_test [] = refl
nil_test (x ∷ b) = ne_eqb (length (x ∷ b)) 0 (λ e. absurd (omega arith))
