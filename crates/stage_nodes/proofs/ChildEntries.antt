-- The entries of a directory's children, put one after another into Git's order.
use Rattle.std.proofs.Common.{◌≡◌, ℕ, zero, suc, ◌<◌, true, false, cond, List, [], ◌∷◌, ◌++◌, ◌-◌, map, length, get_or, Some, None, refl, sym, ap, subst, ◌∙◌, arith}
use Rattle.std.specs.declared.cmp.Ordering.TheVariants.{Less}
use Rattle.git_objects.specs.Lists.{Each}
use Rattle.git_objects.specs.Paths.{Bytes}
use Rattle.git_objects.specs.Entries.{AreEntries}
use Rattle.git_objects.specs.declared.entry.Entry.{Entry}
use Rattle.git_objects.specs.Views.{entry_value}
use Rattle.git_objects.specs.declared.tree_view.EntryView.{EntryView}
use Rattle.path_trees.specs.Listed.{is_before, changed, dropped, inserted, named}
use Rattle.path_trees.specs.declared.found.Found.{Found}
use Rattle.path_trees.proofs.Gathering.{added_behind, seen_at, seen_long, stops}
use Rattle.path_trees.proofs.Listings.{Away, entries-changed, each-changed}
use Rattle.stage_nodes.specs.declared.nodes.Node.{Node}
use Rattle.stage_nodes.specs.declared.nodes.Nodes.{Nodes}
use Rattle.stage_nodes.specs.declared.nodes.Content.{Content}
use Rattle.stage_nodes.specs.declared.nodes.Content.TheVariants.{Held, Open}
use Rattle.stage_nodes.specs.declared.nodes.Link.{Link}
use Rattle.stage_nodes.specs.declared.nodes.Link.TheVariants.{First, Next}
use Rattle.stage_nodes.specs.Forests.{Forest, Nil, Bin, bytes_cmp, forest, is_link, node_component, target, Beyond, Sound}
use Rattle.stage_nodes.specs.Pools.{Walks, hanging}
use Rattle.stage_nodes.specs.Directories.{any}
use Rattle.stage_nodes.specs.Closing.{AreTips, HasTips, gathered}
use Rattle.stage_nodes.proofs.Order.{less_apart_back}
use Rattle.stage_nodes.proofs.Seeking.{IsPassed, passed, inside_link, ended}

dropped_none : (c : Bytes) (es : List Entry) → Away c es → dropped c es ≡ es
dropped_none c [] h = refl
dropped_none c (e ∷ es) h = ap (λ b. cond b (dropped c es) (e ∷ dropped c es)) h.0 ∙ ap (λ x. e ∷ x) (dropped_none c es h.1)

-- what is listed comes before a component by its bytes
abbrev pub AllLess : Bytes → List Entry → Type 0
AllLess c es = Each (λ e. bytes_cmp e.component c ≡ Less) es

away : (c : Bytes) (es : List Entry) → AllLess c es → Away c es
away c [] h = tt
away c (e ∷ es) h = (less_apart_back e.component c h.0, away c es h.1)

pub less_at : (c : Bytes) (es : List Entry) (i : ℕ) (e : Entry) → AllLess c es → i < length es → e ≡ get_or es i e → bytes_cmp e.component c ≡ Less
less_at c [] i e h l r = absurd (omega arith)
less_at c (d ∷ es) zero e h l r = ap (λ (x : Entry). bytes_cmp x.component c) r ∙ h.0
less_at c (d ∷ es) (suc i) e h l r = less_at c es i e h.1 (omega arith) r

-- and so before each sibling
abbrev pub AreFresh : List Entry → Forest → Type 0
AreFresh es Nil = Unit
AreFresh es (Bin k c x l r) = AllLess c es × AreFresh es r

fresh_next : (c : Bytes) (f : Found) (es : List Entry) (F : Forest) → Beyond c F → AreFresh es F → AreFresh (changed c (Some f) es) F
fresh_next c f es Nil b h = tt
fresh_next c f es (Bin k d x l r) b h = (each-changed (λ e. bytes_cmp e.component d ≡ Less) c (Some f) es b.0 h.0, fresh_next c f es r b.1 h.1)

all_fresh : (F : Forest) → AreFresh [] F
all_fresh Nil = tt
all_fresh (Bin k c x l r) = (tt, all_fresh r)

-- ---- an entry that is added last

pub added_last : (views : List EntryView) (a : EntryView) (long : ℕ) (last : EntryView) → long ≡ length views → 0 < long → last ≡ get_or views (long - 1) last
    → AreEntries (map entry_value views) → is_before (entry_value a) (entry_value last) ≡ false → map entry_value (views ++ a ∷ []) ≡ inserted (entry_value a) (map entry_value views)
added_last views a long last l p r h b =
    Rattle.std.proofs.lemmas.List.map-append entry_value views (a ∷ [])
    ∙ added_behind (entry_value a) (map entry_value views) long (l ∙ sym (seen_long views)) h
    (stops (entry_value a) (map entry_value views) (long - 1) long (entry_value last) (omega arith) (omega (arith, seen_long views)) (seen_at views (long - 1) last r) b)

-- the entries so far, and the siblings that are left
pub record IsGathering (s : Nodes) (d : ℕ) (es : List Entry) (link : Link) : Type 0 where
  pub inside : is_link s.cells.items link ≡ true
  pub walk : Walks s (target s.cells.items link)
  pub tips : AreTips (hanging s link)
  pub sound : Sound any (hanging s link)
  pub good : AreEntries es
  pub fresh : AreFresh es (hanging s link)
  pub same : gathered es (hanging s link) ≡ gathered [] (hanging s (First d))

pub gathering_first : (s : Nodes) (d : ℕ) → HasTips any s d → IsGathering s d [] (First d)
gathering_first s d h = record { inside = h.link; walk = h.walk; tips = h.tips; sound = h.sound; good = tt; fresh = all_fresh (hanging s (First d)); same = refl }

module _ (s : Nodes) (d : ℕ) (es : List Entry) (link : Link) (g : IsGathering s d es link) (k : ℕ) (e : Some k ≡ target s.cells.items link) (n : Node) (read : n ≡ get_or s.cells.items k n) where
  pub child_passed : IsPassed s.names.items s.cells.items link k n
  child_passed = passed s.names.items s.cells.items link k n e g.walk read

  abbrev c : Bytes
  c = node_component s.names.items n

  abbrev l : Forest
  l = forest s.names.items s.cells.items n.first

  abbrev r : Forest
  r = hanging s (Next k)

  pub no_open : n.content ≡ Open → ⊥
  no_open h = subst (λ (x : Content). AreTips (Bin k c x l r)) h (subst AreTips child_passed.opened g.tips)

  module _ (f : Found) (h : n.content ≡ Held f) where
    here : hanging s link ≡ Bin k c (Held f) l r
    here = child_passed.opened ∙ ap (λ (x : Content). Bin k c x l r) h

    sound_here : Sound any (Bin k c (Held f) l r)
    sound_here = subst (Sound any) here g.sound

    fresh_here : AreFresh es (Bin k c (Held f) l r)
    fresh_here = subst (AreFresh es) here g.fresh

    pub less_here : AllLess c es
    less_here = fresh_here.0

    new : changed c (Some f) es ≡ inserted (named c f) es
    new = ap (inserted (named c f)) (dropped_none c es (away c es fresh_here.0))

    pub gathering_next : IsGathering s d (inserted (named c f) es) (Next k)
    gathering_next = subst (λ (x : List Entry). IsGathering s d x (Next k)) new (record {
      inside = inside_link s.names.items s.cells.items k child_passed.inside;
      walk = child_passed.walk;
      tips = subst AreTips here g.tips;
      sound = sound_here.3;
      good = entries-changed c (Some f) es sound_here.0.component g.good;
      fresh = fresh_next c f es r sound_here.1 fresh_here.1;
      same = ap (gathered es) (sym here) ∙ g.same;
    })

pub gathering_end : (s : Nodes) (d : ℕ) (es : List Entry) (link : Link) → IsGathering s d es link → target s.cells.items link ≡ None → es ≡ gathered [] (hanging s (First d))
gathering_end s d es link g e = sym (ap (gathered es) (ended s.names.items s.cells.items link e)) ∙ g.same
