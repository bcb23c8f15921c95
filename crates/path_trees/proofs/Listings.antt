-- One entry of a listing changed.
use Rattle.std.proofs.Common.{◌≡◌, Bool, true, false, cond, List, [], ◌∷◌, Option, Some, None, refl, sym, ap, ◌∙◌, true≢false}
use Rattle.std.specs.declared.cmp.Ordering.{Ordering}
use Rattle.std.specs.declared.cmp.Ordering.TheVariants.{Less, Equal, Greater}
use Rattle.std.specs.Option.{option_map}
use Rattle.std.specs.Ordering.{ordering_reverse, is_lt}
use Rattle.std.specs.Cmp.Lexicographic.{bytes_decides, nat_list_cmp_total}
use Rattle.std.specs.FinMap.{slice_cmp-IsAntisymmetric, nat_cmp-IsAntisymmetric}
use Rattle.git_objects.specs.Paths.{Bytes, same_bytes, is_component}
use Rattle.git_objects.specs.Entries.{dir_key, git_cmp, Before, entry_component, entry_dir, AreEntries}
use Rattle.git_objects.specs.declared.entry.Entry.{Entry}
use Rattle.git_objects.proofs.Tops.{same_key}
use Rattle.git_objects.proofs.Basics.{same_bytes-back}
use Rattle.git_objects.specs.Lists.{Each}
use Rattle.path_trees.specs.Listed.{entry_at, found, found_at, named, is_before, dropped, inserted, changed}
use Rattle.path_trees.specs.declared.found.Found.{Found}

abbrev cmp : Entry → Entry → Ordering
cmp a b = git_cmp entry_component entry_dir a b

abbrev IsBefore : Entry → List Entry → Type 0
IsBefore a es = Before entry_component entry_dir a es

-- no entry has this component
abbrev pub Away : Bytes → List Entry → Type 0
Away c es = Each (λ e. same_bytes c e.component ≡ false) es

-- ---- Git's order

less : (o : Ordering) → is_lt o ≡ true → o ≡ Less
less Less h = refl
less Equal h = absurd (true≢false (sym h))
less Greater h = absurd (true≢false (sym h))

other_way : (a b : Entry) → is_component a.component ≡ true → is_component b.component ≡ true → same_bytes a.component b.component ≡ false → is_before a b ≡ false → cmp b a ≡ Less
other_way a b h g e f =
    nat_list_cmp_total.antisymm (dir_key b.component (entry_dir b)) (dir_key a.component (entry_dir a))
    ∙ elim (cmp a b) as (λ o. cmp a b ≡ o → is_lt o ≡ false → ordering_reverse o ≡ Less) [
      | Less ↦ λ p q. absurd (true≢false q)
      | Equal ↦ λ p q. absurd (true≢false (sym ((bytes_decides a.component b.component).1 (same_key a.component b.component (entry_dir a) (entry_dir b) h g (slice_cmp-IsAntisymmetric nat_cmp-IsAntisymmetric _ _ p))) ∙ e))
      | Greater ↦ λ p q. refl
    ] refl f

before_later : (a b : Entry) (es : List Entry) → cmp a b ≡ Less → IsBefore b es → Away a.component es → IsBefore a es
before_later a b [] e h w = tt
before_later a b (d ∷ es) e h w =
    (nat_list_cmp_total.trans (dir_key a.component (entry_dir a)) (dir_key b.component (entry_dir b)) (dir_key d.component (entry_dir d)) e h.0, w.0, before_later a b es e h.2 w.1)

-- ---- a component's entry taken out

before-dropped : (a : Entry) (c : Bytes) (es : List Entry) → IsBefore a es → IsBefore a (dropped c es)
before-dropped a c [] h = tt
before-dropped a c (e ∷ es) h =
    elim (same_bytes c e.component) as (λ t. IsBefore a (cond t (dropped c es) (e ∷ dropped c es))) [ true ↦ before-dropped a c es h.2 | false ↦ (h.0, h.1, before-dropped a c es h.2) ]

entries-dropped : (c : Bytes) (es : List Entry) → AreEntries es → AreEntries (dropped c es)
entries-dropped c [] h = tt
entries-dropped c (e ∷ es) h =
    elim (same_bytes c e.component) as (λ t. AreEntries (cond t (dropped c es) (e ∷ dropped c es))) [ true ↦ entries-dropped c es h.2 | false ↦ (h.0, before-dropped e c es h.1, entries-dropped c es h.2) ]

away-dropped : (c : Bytes) (es : List Entry) → Away c (dropped c es)
away-dropped c [] = tt
away-dropped c (e ∷ es) =
    elim (same_bytes c e.component) as (λ t. same_bytes c e.component ≡ t → Away c (cond t (dropped c es) (e ∷ dropped c es))) [ true ↦ λ k. away-dropped c es | false ↦ λ k. (k, away-dropped c es) ] refl

each-dropped : (P : Entry → Type 0) (c : Bytes) (es : List Entry) → Each P es → Each P (dropped c es)
each-dropped P c [] h = tt
each-dropped P c (e ∷ es) h = elim (same_bytes c e.component) as (λ t. Each P (cond t (dropped c es) (e ∷ dropped c es))) [ true ↦ each-dropped P c es h.1 | false ↦ (h.0, each-dropped P c es h.1) ]

nothing : (b : Bool) (o : Option Entry) → o ≡ None → o ≡ cond b None o
nothing true o h = h
nothing false o h = refl

-- the component has nothing then, and the others have what they had
at-dropped : (d c : Bytes) (es : List Entry) → entry_at d (dropped c es) ≡ cond (same_bytes d c) None (entry_at d es)
at-dropped d c [] = nothing (same_bytes d c) None refl
at-dropped d c (e ∷ es) =
    elim (same_bytes c e.component) as (λ b. same_bytes c e.component ≡ b → entry_at d (cond b (dropped c es) (e ∷ dropped c es)) ≡ cond (same_bytes d c) None (entry_at d (e ∷ es))) [
      | true ↦ λ k. at-dropped d c es ∙ elim (same_bytes d c) as (λ b. same_bytes d c ≡ b → cond b None (entry_at d es) ≡ cond b None (entry_at d (e ∷ es))) [
        | true ↦ λ j. refl
        | false ↦ λ j. ap (λ b. cond b (Some e) (entry_at d es)) (sym j ∙ ap (same_bytes d) ((bytes_decides c e.component).0 k))
      ] refl
      | false ↦ λ k. ap (cond (same_bytes d e.component) (Some e)) (at-dropped d c es) ∙ elim (same_bytes d c) as (λ b. same_bytes d c ≡ b → cond (same_bytes d e.component) (Some e) (cond b None (entry_at d es)) ≡ cond b None (entry_at d (e ∷ es))) [
        | true ↦ λ j. ap (λ b. cond b (Some e) None) (ap (λ x. same_bytes x e.component) ((bytes_decides d c).0 j) ∙ k)
        | false ↦ λ j. refl
      ] refl
    ] refl

-- ---- one put in

before-inserted : (b a : Entry) (es : List Entry) → cmp b a ≡ Less → same_bytes b.component a.component ≡ false → IsBefore b es → IsBefore b (inserted a es)
before-inserted b a [] e f h = (e, f, tt)
before-inserted b a (d ∷ es) e f h =
    elim (is_before a d) as (λ t. IsBefore b (cond t (a ∷ d ∷ es) (d ∷ inserted a es))) [ true ↦ (e, f, h) | false ↦ (h.0, h.1, before-inserted b a es e f h.2) ]

entries-inserted : (a : Entry) (es : List Entry) → is_component a.component ≡ true → Away a.component es → AreEntries es → AreEntries (inserted a es)
entries-inserted a [] h w k = (h, tt, tt)
entries-inserted a (b ∷ es) h w k =
    elim (is_before a b) as (λ t. is_before a b ≡ t → AreEntries (cond t (a ∷ b ∷ es) (b ∷ inserted a es))) [
      | true ↦ λ e. (h, (less _ e, w.0, before_later a b es (less _ e) k.1 w.1), k)
      | false ↦ λ e. (k.0, before-inserted b a es (other_way a b h k.0 w.0 e) (same_bytes-back b.component a.component ∙ w.0) k.1, entries-inserted a es h w.1 k.2)
    ] refl

each-inserted : (P : Entry → Type 0) (a : Entry) (es : List Entry) → P a → Each P es → Each P (inserted a es)
each-inserted P a [] p h = (p, tt)
each-inserted P a (b ∷ es) p h = elim (is_before a b) as (λ t. Each P (cond t (a ∷ b ∷ es) (b ∷ inserted a es))) [ true ↦ (p, h) | false ↦ (h.0, each-inserted P a es p h.1) ]

at-inserted : (d : Bytes) (a : Entry) (es : List Entry) → Away a.component es → entry_at d (inserted a es) ≡ cond (same_bytes d a.component) (Some a) (entry_at d es)
at-inserted d a [] w = refl
at-inserted d a (b ∷ es) w =
    elim (is_before a b) as (λ t. entry_at d (cond t (a ∷ b ∷ es) (b ∷ inserted a es)) ≡ cond (same_bytes d a.component) (Some a) (entry_at d (b ∷ es))) [
      | true ↦ refl
      | false ↦ ap (cond (same_bytes d b.component) (Some b)) (at-inserted d a es w.1)
          ∙ elim (same_bytes d a.component) as (λ t. same_bytes d a.component ≡ t → cond (same_bytes d b.component) (Some b) (cond t (Some a) (entry_at d es)) ≡ cond t (Some a) (entry_at d (b ∷ es))) [
            | true ↦ λ e. ap (λ t. cond t (Some b) (Some a)) (ap (λ x. same_bytes x b.component) ((bytes_decides d a.component).0 e) ∙ w.0)
            | false ↦ λ e. refl
          ] refl
    ]

-- ---- changed

-- what is put in passes the test
abbrev pub OnFound : (Entry → Type 0) → Bytes → Option Found → Type 0
OnFound P c None = Unit
OnFound P c (Some f) = P (named c f)

pub entries-changed : (c : Bytes) (o : Option Found) (es : List Entry) → is_component c ≡ true → AreEntries es → AreEntries (changed c o es)
entries-changed c None es k h = entries-dropped c es h
entries-changed c (Some f) es k h = entries-inserted (named c f) (dropped c es) k (away-dropped c es) (entries-dropped c es h)

pub each-changed : (P : Entry → Type 0) (c : Bytes) (o : Option Found) (es : List Entry) → OnFound P c o → Each P es → Each P (changed c o es)
each-changed P c None es p h = each-dropped P c es h
each-changed P c (Some f) es p h = each-inserted P (named c f) (dropped c es) p (each-dropped P c es h)

pub found-changed : (d c : Bytes) (o : Option Found) (es : List Entry) → found_at d (changed c o es) ≡ cond (same_bytes d c) o (found_at d es)
found-changed d c None es = ap (option_map found) (at-dropped d c es) ∙ elim (same_bytes d c) as (λ b. option_map found (cond b None (entry_at d es)) ≡ cond b None (found_at d es)) [ true ↦ refl | false ↦ refl ]
found-changed d c (Some f) es =
    ap (option_map found) (at-inserted d (named c f) (dropped c es) (away-dropped c es) ∙ ap (cond (same_bytes d c) (Some (named c f))) (at-dropped d c es))
    ∙ elim (same_bytes d c) as (λ b. option_map found (cond b (Some (named c f)) (cond b None (entry_at d es))) ≡ cond b (Some f) (found_at d es)) [ true ↦ refl | false ↦ refl ]

pub away_before : (a : Entry) (es : List Entry) → IsBefore a es → Away a.component es
away_before a [] h = tt
away_before a (e ∷ es) h = (h.1, away_before a es h.2)
