-- A laying step by step: a store that has grown by what has no place, by what is taken apart, and by the laid tree.
use Rattle.std.proofs.Common.{◌≡◌, inl, inr, List, [], Some, None, false, true, sym, ap, subst, ◌∙◌}
use Rattle.git_objects.specs.Paths.{Bytes, Path}
use Rattle.git_objects.specs.Trees.{Leaf, Flat, IsTree, at}
use Rattle.git_objects.specs.declared.kind.Kind.TheVariants.{Tree}
use Rattle.git_objects.specs.declared.name.Name.{Name}
use Rattle.object_store.specs.Growth.{IsGrownBy}
use Rattle.object_store.specs.Objects.{Object, IsStore, has}
use Rattle.object_store.specs.Unfolding.{StandsFor, flat}
use Rattle.object_store.proofs.Growth.{flat-grown, grown_as, grown_then}
use Rattle.decision_lists.specs.Cells.{cells}
use Rattle.decision_lists.specs.Entries.{Entry}
use Rattle.filter_text.specs.Filters.{Filter, has_paths}
use Rattle.filter_routes.specs.Lists.{IsListOf}
use Rattle.filter_routes.specs.Soundness.{IsSound}
use Rattle.filter_unapply.specs.Hands.{IsIn, IsLaidMade, IsMadeOf}
use Rattle.filter_unapply.specs.Parts.{AreParts, IsAmong, any_at}
use Rattle.filter_unapply.specs.Routed.{IsOfBoth, taken}
use Rattle.filter_unapply.specs.Sifted.{sifted}
use Rattle.filter_unapply.proofs.HandTrees.{IsKnown, laid-made}
use Rattle.filter_unapply.proofs.Lays.{among-both, both-known, kept-alone}
use Rattle.filter_unapply.proofs.MadeTrees.{known-as, path-known}
use Rattle.filter_unapply.proofs.Told.{is_tree}

-- ---- what has no place

module _ (f : Filter) (S : List Object) (base pushed : Bytes) where
  abbrev pub Laid : Object → Type 0
  Laid = IsLaidMade f (flat S base) (flat S pushed)

  pub rest-made : (o : Object) → IsMadeOf (IsIn (flat S pushed)) o → Laid o
  rest-made o h =
      laid-made f (flat S base) (flat S pushed) o (known-as (IsIn (flat S pushed)) (IsKnown f (flat S base) (flat S pushed)) (λ p x e. inr (inl e)) o h)

  pub rest-grown : (R : List Object) → IsGrownBy (IsMadeOf (IsIn (flat S pushed))) S R → IsGrownBy Laid S R
  rest-grown R g = grown_as (IsMadeOf (IsIn (flat S pushed))) Laid S R rest-made g

-- ---- what is taken apart

-- the trees of a laying by a filter's list, and the store behind the search of what has no place
pub record IsBegun (f : Filter) (es : List Entry) (S : List Object) (base pushed : Bytes) (R : List Object) : Type 0 where
  pub paths : has_paths f ≡ true
  pub sound : IsSound f
  pub list : IsListOf f es
  pub base_tree : IsTree (flat S base)
  pub pushed_tree : IsTree (flat S pushed)
  pub grown : IsGrownBy (Laid f S base pushed) S R
  pub same_base : flat R base ≡ flat S base
  pub same_pushed : flat R pushed ≡ flat S pushed

pub begun : (f : Filter) (es : List Entry) (S : List Object) (base pushed : Bytes) (R : List Object) → has_paths f ≡ true → IsSound f → {xs : List Entry} → es ≡ xs → IsListOf f xs → IsStore S → has Tree S base ≡ true → has Tree S pushed ≡ true → IsGrownBy (IsMadeOf (IsIn (flat S pushed))) S R → IsBegun f es S base pushed R
begun f es S base pushed R paths sound e list store b p g =
    let grown = rest-grown f S base pushed R g in record {
      paths = paths;
      sound = sound;
      list = subst (IsListOf f) (sym e) list;
      base_tree = is_tree S store base b;
      pushed_tree = is_tree S store pushed p;
      grown = grown;
      same_base = flat-grown S R base grown b;
      same_pushed = flat-grown S R pushed grown p;
    }

module _ (f : Filter) (es : List Entry) (S : List Object) (base pushed : Bytes) (R : List Object) (h : IsBegun f es S base pushed R) where
  abbrev t : Flat
  t = flat S base

  abbrev n : Flat
  n = flat S pushed

  abbrev Both : Path → Leaf → Type 0
  Both = IsOfBoth es (flat R base) (flat R pushed)

  pub both-made : (o : Object) → IsMadeOf Both o → Laid f S base pushed o
  both-made o m =
      laid-made f t n o (path-known Both (IsKnown f t n)
      (λ p x w e. both-known f h.paths h.sound es h.list t n p x w
      (subst (λ (a : Flat). IsOfBoth es a n p x) h.same_base (subst (λ (b : Flat). IsOfBoth es (flat R base) b p x) h.same_pushed e))) o m)

  pub both-grown : (P : List Object) → IsGrownBy (IsMadeOf Both) R P → IsGrownBy (Laid f S base pushed) S P
  both-grown P g = grown_then (Laid f S base pushed) S R P h.grown (grown_as (IsMadeOf Both) (Laid f S base pushed) R P both-made g)

  pub kept-is : (P : List Object) (k : Bytes) → StandsFor P k (sifted false es (flat R base)) → StandsFor P k (sifted false es t)
  kept-is P k g = subst (λ (a : Flat). StandsFor P k (sifted false es a)) h.same_base g

  pub parts-are : (P : List Object) (ms ns : List Name) → ns ≡ ms → AreParts P ms (taken (cells [] es) (flat R pushed)) → AreParts P ns (taken (cells [] es) n)
  parts-are P ms ns e g =
      subst (λ (ls : List Name). AreParts P ls (taken (cells [] es) n)) (sym e)
      (subst (λ (b : Flat). AreParts P ms (taken (cells [] es) b)) h.same_pushed g)

  -- ---- what is put together

  module _ (P : List Object) (k : Name) (ns : List Name) (kept : StandsFor P k.0 (sifted false es t)) (parts : AreParts P ns (taken (cells [] es) n)) where
    pub kept-leaves : (p : Path) → at (flat P k.0) p ≡ at (sifted false es t) p
    kept-leaves p = ap (λ (u : Flat). at u p) kept.map

    pub kept-apart : (p : Path) (x : Leaf) → at (flat P k.0) p ≡ Some x → any_at P ns p ≡ None
    kept-apart p x e = parts.leaves p ∙ kept-alone f h.paths h.sound es h.list t n h.base_tree h.pushed_tree p x (sym (kept-leaves p) ∙ e)

    pub among-made : (o : Object) → IsMadeOf (IsAmong P k ns) o → Laid f S base pushed o
    among-made o m =
        laid-made f t n o (path-known (IsAmong P k ns) (IsKnown f t n)
        (λ p x w e. both-known f h.paths h.sound es h.list t n p x w
        (among-both f h.paths h.sound es h.list t n h.base_tree h.pushed_tree P k ns kept-leaves parts.leaves p x e)) o m)
