-- What turns one tree into another, part by part: where no path of a part stands in another one, each gives its own.
use Rattle.std.proofs.Common.{◌≡◌, Bool, true, false, cond, not, ◌&&◌, List, [], ◌∷◌, ◌++◌, Option, Some, None, T, filter, map, refl, ap, ◌∙◌, append_assoc, true≢false}
use Rattle.std.specs.Option.{is_none, option_map_or}
use Rattle.std.specs.FinMap.{is_sorted}
use Rattle.std.proofs.lemmas.List.{map-append}
use Rattle.std.proofs.lemmas.List.Elements.{filter-append}
use Rattle.git_objects.specs.Lists.{Each}
use Rattle.git_objects.specs.Paths.{Bytes, Path, is_nil, path_cmp, same_path, text}
use Rattle.git_objects.specs.Trees.{ExecLeaf, FileLeaf, Flat, Leaf, LinkLeaf, ModuleLeaf, at, same_leaf}
use Rattle.git_objects.proofs.Basics.{same_bytes-self}
use Rattle.git_objects.proofs.Maps.{first_some}
use Rattle.git_objects.proofs.Pointwise.{each_at}
use Rattle.object_store.specs.Unfolding.{below}
use Rattle.incremental_export.specs.Changes.{changed, deleted, stands_in}
use Rattle.incremental_export.specs.Compared.{leaves_behind, texts_behind}

-- ---- members of lists

pub each_append : {A : Type 0} (P : A → Type 0) (xs ys : List A) → Each P xs → Each P ys → Each P (xs ++ ys)
each_append P [] ys h g = g
each_append P (x ∷ xs) ys h g = (h.0, each_append P xs ys h.1 g)

pub each_as : {A : Type 0} (P Q : A → Type 0) (xs : List A) → ((x : A) → P x → Q x) → Each P xs → Each Q xs
each_as P Q [] f h = tt
each_as P Q (x ∷ xs) f h = (f x h.0, each_as P Q xs f h.1)

pub each_kept : {A : Type 0} (f : A → Bool) (P : A → Type 0) (xs : List A) → Each P xs → Each P (filter f xs)
each_kept f P [] h = tt
each_kept f P (x ∷ xs) h = elim (f x) as (λ k. Each P (cond k (x ∷ filter f xs) (filter f xs))) [
  | true ↦ (h.0, each_kept f P xs h.1)
  | false ↦ each_kept f P xs h.1
]

filter_as : {A : Type 0} (f g : A → Bool) (xs : List A) → Each (λ x. f x ≡ g x) xs → filter f xs ≡ filter g xs
filter_as f g [] h = refl
filter_as f g (x ∷ xs) h = λ i. cond (h.0 i) (x ∷ filter_as f g xs h.1 i) (filter_as f g xs h.1 i)

none_kept : {A : Type 0} (f : A → Bool) (xs : List A) → Each (λ x. f x ≡ false) xs → filter f xs ≡ []
none_kept f [] h = refl
none_kept f (x ∷ xs) h = ap (λ b. cond b (x ∷ filter f xs) (filter f xs)) h.0 ∙ none_kept f xs h.1

-- ---- parts of a tree

at_append : (a b : Flat) (p : Path) → at (a ++ b) p ≡ first_some (at a p) (at b p)
at_append [] b p = refl
at_append (e ∷ a) b p =
    ap (cond (same_path p e.0) (Some e.1)) (at_append a b p)
    ∙ elim (same_path p e.0) as (λ k. cond k (Some e.1) (first_some (at a p) (at b p)) ≡ first_some (cond k (Some e.1) (at a p)) (at b p)) [ true ↦ refl | false ↦ refl ]

pub at_second : (a b : Flat) (p : Path) → at a p ≡ None → at (a ++ b) p ≡ at b p
at_second a b p h = at_append a b p ∙ ap (λ o. first_some o (at b p)) h

at_first : (a b : Flat) (p : Path) → at b p ≡ None → at (a ++ b) p ≡ at a p
at_first a b p h = at_append a b p ∙ ap (first_some (at a p)) h ∙ same (at a p)
  where
    same : (o : Option Leaf) → first_some o None ≡ o
    same None = refl
    same (Some x) = refl

-- no path of the first stands in the second
abbrev pub IsAway : Flat → Flat → Type 0
IsAway a b = Each (λ e. at b e.0 ≡ None) a

-- nor the other way
pub record AreApart (a b : Flat) : Type 0 where
  pub first : IsAway a b
  pub second : IsAway b a

deleted_append : (a c b : Flat) → deleted (a ++ c) b ≡ deleted a b ++ deleted c b
deleted_append a c b =
    ap (map (λ e. e.0)) (filter-append (λ e. is_none (at b e.0)) a c)
    ∙ map-append (λ e. e.0) (filter (λ e. is_none (at b e.0)) a) (filter (λ e. is_none (at b e.0)) c)

changed_append : (a b c : Flat) → changed a (b ++ c) ≡ changed a b ++ changed a c
changed_append a b c = filter-append (λ e. not (stands_in a e)) b c

deleted_as : (a b c : Flat) → Each (λ e. at b e.0 ≡ at c e.0) a → deleted a b ≡ deleted a c
deleted_as a b c h =
    ap (map (λ e. e.0)) (filter_as (λ e. is_none (at b e.0)) (λ e. is_none (at c e.0)) a
    (each_as (λ e. at b e.0 ≡ at c e.0) (λ e. is_none (at b e.0) ≡ is_none (at c e.0)) a (λ e g. ap is_none g) h))

changed_as : (a c b : Flat) → Each (λ e. at a e.0 ≡ at c e.0) b → changed a b ≡ changed c b
changed_as a c b h =
    filter_as (λ e. not (stands_in a e)) (λ e. not (stands_in c e)) b
    (each_as (λ e. at a e.0 ≡ at c e.0) (λ e. not (stands_in a e) ≡ not (stands_in c e)) b (λ e g. ap (λ o. not (option_map_or (same_leaf e.1) o false)) g) h)

over_first : (a b c : Flat) → IsAway a b → Each (λ e. at (b ++ c) e.0 ≡ at c e.0) a
over_first a b c h = each_as (λ e. at b e.0 ≡ None) (λ e. at (b ++ c) e.0 ≡ at c e.0) a (λ e g. at_second b c e.0 g) h

over_second : (a b c : Flat) → IsAway a c → Each (λ e. at (b ++ c) e.0 ≡ at b e.0) a
over_second a b c h = each_as (λ e. at c e.0 ≡ None) (λ e. at (b ++ c) e.0 ≡ at b e.0) a (λ e g. at_first b c e.0 g) h

-- ---- nothing on one side

pub none_deleted : (b : Flat) → deleted [] b ≡ []
none_deleted b = refl

pub all_deleted : (a : Flat) → deleted a [] ≡ map (λ e. e.0) a
all_deleted [] = refl
all_deleted (e ∷ a) = ap (λ (ps : List Path). e.0 ∷ ps) (all_deleted a)

pub all_changed : (b : Flat) → changed [] b ≡ b
all_changed [] = refl
all_changed (e ∷ b) = ap (λ (t : Flat). e ∷ t) (all_changed b)

-- ---- the same on both sides

same_leaf-self : (x : Leaf) → same_leaf x x ≡ true
same_leaf-self (FileLeaf b) = same_bytes-self b
same_leaf-self (ExecLeaf b) = same_bytes-self b
same_leaf-self (LinkLeaf b) = same_bytes-self b
same_leaf-self (ModuleLeaf b) = same_bytes-self b

pub same_deleted : (a : Flat) → T (is_sorted path_cmp a) → deleted a a ≡ []
same_deleted a h =
    ap (map (λ e. e.0)) (none_kept (λ e. is_none (at a e.0)) a
    (each_as (λ e. at a e.0 ≡ Some e.1) (λ e. is_none (at a e.0) ≡ false) a (λ e g. ap is_none g) (each_at a h)))

pub same_changed : (a : Flat) → T (is_sorted path_cmp a) → changed a a ≡ []
same_changed a h =
    none_kept (λ e. not (stands_in a e)) a
    (each_as (λ e. at a e.0 ≡ Some e.1) (λ e. not (stands_in a e) ≡ false) a
    (λ e g. ap (λ o. not (option_map_or (same_leaf e.1) o false)) g ∙ ap not (same_leaf-self e.1)) (each_at a h))

-- ---- below a component

at_below : (c : Bytes) (b : Flat) (p : Path) → at (below c b) (c ∷ p) ≡ at b p
at_below c [] p = refl
at_below c (e ∷ b) p =
    ap (λ k. cond (k && same_path p e.0) (Some e.1) (at (below c b) (c ∷ p))) (same_bytes-self c)
    ∙ ap (cond (same_path p e.0) (Some e.1)) (at_below c b p)

deleted_below : (c : Bytes) (a b : Flat) → deleted (below c a) (below c b) ≡ map (λ p. c ∷ p) (deleted a b)
deleted_below c [] b = refl
deleted_below c (e ∷ a) b =
    ap (λ o. map (λ d. d.0) (cond (is_none o) ((c ∷ e.0, e.1) ∷ filter (λ d. is_none (at (below c b) d.0)) (below c a)) (filter (λ d. is_none (at (below c b) d.0)) (below c a)))) (at_below c b e.0)
    ∙ elim (is_none (at b e.0)) as (λ k.
    map (λ d. d.0) (cond k ((c ∷ e.0, e.1) ∷ filter (λ d. is_none (at (below c b) d.0)) (below c a)) (filter (λ d. is_none (at (below c b) d.0)) (below c a)))
    ≡ map (λ p. c ∷ p) (map (λ d. d.0) (cond k (e ∷ filter (λ d. is_none (at b d.0)) a) (filter (λ d. is_none (at b d.0)) a)))) [
      | true ↦ ap (λ (ps : List Path). (c ∷ e.0) ∷ ps) (deleted_below c a b)
      | false ↦ deleted_below c a b
    ]

changed_below : (c : Bytes) (a b : Flat) → changed (below c a) (below c b) ≡ below c (changed a b)
changed_below c a [] = refl
changed_below c a (e ∷ b) =
    ap (λ o. cond (not (option_map_or (same_leaf e.1) o false)) ((c ∷ e.0, e.1) ∷ filter (λ d. not (stands_in (below c a) d)) (below c b)) (filter (λ d. not (stands_in (below c a) d)) (below c b))) (at_below c a e.0)
    ∙ elim (stands_in a e) as (λ k.
    cond (not k) ((c ∷ e.0, e.1) ∷ filter (λ d. not (stands_in (below c a) d)) (below c b)) (filter (λ d. not (stands_in (below c a) d)) (below c b))
    ≡ below c (cond (not k) (e ∷ filter (λ d. not (stands_in a d)) b) (filter (λ d. not (stands_in a d)) b))) [
      | true ↦ changed_below c a b
      | false ↦ ap (λ (t : Flat). (c ∷ e.0, e.1) ∷ t) (changed_below c a b)
    ]

-- ---- their texts

abbrev pub AreSome : Flat → Type 0
AreSome t = Each (λ e. is_nil e.0 ≡ false) t

text_behind : (front c : Bytes) (p : Path) → is_nil p ≡ false → front ++ text (c ∷ p) ≡ ((front ++ c) ++ 47 ∷ []) ++ text p
text_behind front c [] h = absurd (true≢false h)
text_behind front c (d ∷ p) h = simp append_assoc

texts_below : (front c : Bytes) (ps : List Path) → Each (λ p. is_nil p ≡ false) ps → texts_behind front (map (λ p. c ∷ p) ps) ≡ texts_behind ((front ++ c) ++ 47 ∷ []) ps
texts_below front c [] h = refl
texts_below front c (p ∷ ps) h = λ i. text_behind front c p h.0 i ∷ texts_below front c ps h.1 i

pub leaves_below : (front c : Bytes) (t : Flat) → AreSome t → leaves_behind front (below c t) ≡ leaves_behind ((front ++ c) ++ 47 ∷ []) t
leaves_below front c [] h = refl
leaves_below front c (e ∷ t) h = λ i. (text_behind front c e.0 h.0 i, e.1) ∷ leaves_below front c t h.1 i

paths_some : (t : Flat) → AreSome t → Each (λ p. is_nil p ≡ false) (map (λ e. e.0) t)
paths_some [] h = tt
paths_some (e ∷ t) h = (h.0, paths_some t h.1)

-- ---- both kinds of changes, in one form

-- what turns a tree into another one, told behind a front: part by part, and behind a longer front below a component
pub record AreTold {X : Type 0} (told : Bytes → Flat → Flat → List X) : Type 0 where
  pub nothing : (front : Bytes) → told front [] [] ≡ []
  pub same : (front : Bytes) (a : Flat) → T (is_sorted path_cmp a) → told front a a ≡ []
  pub left : (front : Bytes) (a t u : Flat) → AreApart a u → told front (a ++ t) u ≡ told front a [] ++ told front t u
  pub right : (front : Bytes) (b t u : Flat) → AreApart b t → told front t (b ++ u) ≡ told front [] b ++ told front t u
  pub both : (front : Bytes) (a b t u : Flat) → AreApart a u → AreApart b t → told front (a ++ t) (b ++ u) ≡ told front a b ++ told front t u
  pub inner : (front c : Bytes) (a b : Flat) → AreSome a → AreSome b → told front (below c a) (below c b) ≡ told ((front ++ c) ++ 47 ∷ []) a b

abbrev pub told_deleted : Bytes → Flat → Flat → List Bytes
told_deleted front a b = texts_behind front (deleted a b)

abbrev pub told_put : Bytes → Flat → Flat → List (Bytes × Leaf)
told_put front a b = leaves_behind front (changed a b)

texts_append : (front : Bytes) (ps qs : List Path) → texts_behind front (ps ++ qs) ≡ texts_behind front ps ++ texts_behind front qs
texts_append front ps qs = map-append (λ p. front ++ text p) ps qs

leaves_append : (front : Bytes) (t u : Flat) → leaves_behind front (t ++ u) ≡ leaves_behind front t ++ leaves_behind front u
leaves_append front t u = map-append (λ e. (front ++ text e.0, e.1)) t u

pub deleted_told : AreTold told_deleted
deleted_told = record {
  nothing = λ front. refl;
  same = λ front a h. ap (texts_behind front) (same_deleted a h);
  left = λ front a t u h. ap (texts_behind front) (deleted_append a t u ∙ ap (λ (ps : List Path). ps ++ deleted t u) (deleted_as a u [] h.first)) ∙ texts_append front (deleted a []) (deleted t u);
  right = λ front b t u h. ap (texts_behind front) (deleted_as t (b ++ u) u (over_first t b u h.second));
  both = λ front a b t u h g.
      ap (texts_behind front) (deleted_append a t (b ++ u) ∙ (λ i. deleted_as a (b ++ u) b (over_second a b u h.first) i ++ deleted_as t (b ++ u) u (over_first t b u g.second) i))
      ∙ texts_append front (deleted a b) (deleted t u);
  inner = λ front c a b h g. ap (texts_behind front) (deleted_below c a b)
      ∙ texts_below front c (deleted a b) (paths_some (filter (λ e. is_none (at b e.0)) a) (each_kept (λ e. is_none (at b e.0)) (λ e. is_nil e.0 ≡ false) a h));
}

pub put_told : AreTold told_put
put_told = record {
  nothing = λ front. refl;
  same = λ front a h. ap (leaves_behind front) (same_changed a h);
  left = λ front a t u h. ap (leaves_behind front) (changed_as (a ++ t) t u (over_first u a t h.second));
  right = λ front b t u h. ap (leaves_behind front) (changed_append t b u ∙ ap (λ (s : Flat). s ++ changed t u) (changed_as t [] b h.first)) ∙ leaves_append front (changed [] b) (changed t u);
  both = λ front a b t u h g.
      ap (leaves_behind front) (changed_append (a ++ t) b u ∙ (λ i. changed_as (a ++ t) a b (over_second b a t g.first) i ++ changed_as (a ++ t) t u (over_first u a t h.second) i))
      ∙ leaves_append front (changed a b) (changed t u);
  inner = λ front c a b h g. ap (leaves_behind front) (changed_below c a b) ∙ leaves_below front c (changed a b) (each_kept (λ e. not (stands_in a e)) (λ e. is_nil e.0 ≡ false) b g);
}
