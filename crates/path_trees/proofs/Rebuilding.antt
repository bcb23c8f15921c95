-- A directory's entries with one component changed: what the change leaves as it is, in front of it and behind it.
use Rattle.std.proofs.Common.{◌≡◌, true, false, Bool, cond, List, [], ◌∷◌, ◌++◌, drop, slice_get, Option, Some, None, refl, sym, ap, subst, ◌∙◌, true≢false, append_assoc}
use Rattle.std.specs.Prelude.{Result, Ok, Err, is_ok, OnOk}
use Rattle.std.specs.Option.{is_some, option_map}
use Rattle.std.proofs.lemmas.Option.{none-some, same_Some}
use Rattle.git_objects.specs.Bodies.{if_listed, is_listing, tree_entries}
use Rattle.git_objects.specs.Entries.{AreEntries, body_text, entry_line}
use Rattle.git_objects.specs.Neighbours.{spelled_entries}
use Rattle.git_objects.specs.Paths.{Bytes, same_bytes}
use Rattle.git_objects.specs.declared.entry.Entry.{Entry}
use Rattle.git_objects.specs.declared.kind.Kind.TheVariants.{Tree}
use Rattle.git_objects.proofs.Neighbours.{listing_entries}
use Rattle.git_objects.proofs.TreeReading.{cond_some, then_some}
use Rattle.object_store.specs.Objects.{Object, find_named, same_kind}
use Rattle.path_trees.specs.Listed.{changed, dropped, entries_of, entry_at, found, found_at, listed, with_found}
use Rattle.path_trees.specs.Searches.{precedes}
use Rattle.path_trees.specs.declared.found.Found.{Found}
use Rattle.path_trees.proofs.Searching.{none_later}

-- what a tree of a store lists is in order
pub listed_order : (S : List Object) (n : Bytes) (es : List Entry) → listed S n ≡ Some es → AreEntries es
unfolding tree_entries
listed_order S n es h =
    let o = then_some entries_of (find_named S n) es h in
    elim (same_kind Tree o.0.kind) as (λ b. cond b (tree_entries o.0.body) None ≡ Some es → AreEntries es) [
      | true ↦ λ g.
          let d = then_some if_listed (spelled_entries o.0.body) es g in
          let c = cond_some (is_listing d.0) d.0 es d.2 in
          listing_entries es (ap is_listing (sym c.1) ∙ c.0)
      | false ↦ λ g. absurd (none-some es g)
    ] o.2

-- and so is what is left of entries in order
pub order_behind : (es rest : List Entry) → AreEntries (es ++ rest) → AreEntries rest
order_behind [] rest h = h
order_behind (e ∷ es) rest h = order_behind es rest h.2

-- entries that don't have a component stay as they are without it
none_dropped : (c : Bytes) (es : List Entry) → found_at c es ≡ None → dropped c es ≡ es
none_dropped c [] h = refl
none_dropped c (e ∷ es) h =
    elim (same_bytes c e.component) as (λ b. option_map found (cond b (Some e) (entry_at c es)) ≡ None → cond b (dropped c es) (e ∷ dropped c es) ≡ e ∷ es) [
      | true ↦ λ g. absurd (none-some (found e) (sym g))
      | false ↦ λ g. ap (λ (ds : List Entry). e ∷ ds) (none_dropped c es g)
    ] h

none_waits : (o : Option Found) → is_some o ≡ false → None ≡ o
none_waits None h = refl
none_waits (Some f) h = absurd (true≢false h)

-- bytes that were added, unless memory ran out
pub on_ok : {E : Type 0} (r : Result Unit E) (x a b whole : Bytes) → a ++ b ≡ whole → x ≡ cond (is_ok r) (a ++ b) a → OnOk r (x ≡ whole)
on_ok (Ok u) x a b whole e h = h ∙ e
on_ok (Err f) x a b whole e h = tt

-- ---- one entry

-- what is left of all entries behind some that a component's change leaves as they are
abbrev pub IsPassed : Bytes → Option Found → List Entry → List Entry → Type 0
IsPassed c o all rest = (es : List Entry) × (all ≡ es ++ rest) × (changed c o all ≡ es ++ changed c o rest)

pub next_entry : (ahead rest more : List Entry) (e : Entry) → ahead ≡ rest → Some e ≡ slice_get ahead 0 → more ≡ drop 1 ahead → rest ≡ e ∷ more
next_entry ahead rest more e same first after = by rest (first ∙ ap (λ (es : List Entry). slice_get es 0) same) (after ∙ ap (drop 1) same)
  where
    by : (es : List Entry) → Some e ≡ slice_get es 0 → more ≡ drop 1 es → es ≡ e ∷ more
    by [] f a = absurd (none-some e (sym f))
    by (d ∷ es) f a = λ i. sym (same_Some e d f) i ∷ sym a i

module _ {rest more : List Entry} {e : Entry} (next : rest ≡ e ∷ more) where
  pub order_next : AreEntries rest → AreEntries more
  order_next h = (subst AreEntries next h).2

  -- it stands in front of the change
  pub passed_next : (c : Bytes) (o : Option Found) (all : List Entry) → ((es : List Entry) → changed c o (e ∷ es) ≡ e ∷ changed c o es) → IsPassed c o all rest → IsPassed c o all more
  passed_next c o all k p = (
    p.0 ++ e ∷ [],
    p.1 ∙ ap (λ (es : List Entry). p.0 ++ es) next ∙ sym (append_assoc p.0 (e ∷ []) more),
    p.2 ∙ ap (λ (es : List Entry). p.0 ++ changed c o es) next ∙ ap (λ (es : List Entry). p.0 ++ es) (k more) ∙ sym (append_assoc p.0 (e ∷ []) (changed c o more)),
  )

  -- b bytes are there, and an entry of the component waits or none
  module _ (c b : Bytes) (w : Option Found) {whole : Bytes} (text : b ++ body_text (changed c w rest) ≡ whole) where
    text_at : (v : Bool) → v ≡ same_bytes c e.component → b ++ body_text (with_found c w (cond v (dropped c more) (e ∷ dropped c more))) ≡ whole
    text_at v h = ap (λ v. b ++ body_text (with_found c w (cond v (dropped c more) (e ∷ dropped c more)))) h ∙ ap (λ (es : List Entry). b ++ body_text (changed c w es)) (sym next) ∙ text

    -- an entry of the component is left out
    pub text_without : same_bytes c e.component ≡ true → b ++ body_text (changed c w more) ≡ whole
    text_without h = text_at true (sym h)

    -- another one follows what was to be added in front of it
    module _ (other : same_bytes c e.component ≡ false) (b1 : Bytes) (w1 : Option Found)
        (added : (es : List Entry) → b1 ++ body_text (e ∷ with_found c w1 es) ≡ b ++ body_text (with_found c w (e ∷ es))) where
      text_from : b1 ++ body_text (e ∷ changed c w1 more) ≡ whole
      text_from = added (dropped c more) ∙ text_at false (sym other)

      pub text_with : (b1 ++ entry_line e) ++ body_text (changed c w1 more) ≡ whole
      text_with = append_assoc b1 (entry_line e) (body_text (changed c w1 more)) ∙ text_from

      -- from it on all stays as it is, where nothing waits and the component is below it
      pub text_behind : is_some w1 ≡ false → precedes c e.component ≡ true → AreEntries rest → b1 ++ body_text rest ≡ whole
      text_behind n k h =
          ap (λ (es : List Entry). b1 ++ body_text es) next
          ∙ ap (λ (es : List Entry). b1 ++ body_text (e ∷ es)) (sym (none_dropped c more (none_later c e more k (subst AreEntries next h).1)))
          ∙ ap (λ o. b1 ++ body_text (e ∷ with_found c o (dropped c more))) (none_waits w1 n)
          ∙ text_from
