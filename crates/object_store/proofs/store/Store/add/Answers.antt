use Rattle.std.proofs.Common.{◌≡◌, ◌++◌, ◌∷◌, [], length, Bool, true, List, None, sym, ap, ◌∙◌}
use Rattle.std.specs.Bool.{if◌then◌else◌}
use Rattle.indexmap.proofs.CallerLemmas.{insert_entry-new}
use Rattle.git_objects.specs.Paths.{Bytes, same_bytes}
use Rattle.git_objects.specs.declared.name.Name.{Name}
use Rattle.object_store.specs.Objects.{Object, find_named, is_body}
use Rattle.object_store.specs.Places.{placed_objects, HoldsStore}
use Rattle.object_store.specs.Sizes.{sizes}
use Rattle.object_store.specs.Unfolding.{body_flat}
use Rattle.object_store.specs.declared.shelf.Place.{Place}
use Rattle.object_store.proofs.Finding.{nothing-placed}
use Rattle.object_store.proofs.Adding.{new_place, held-added, objects-added, from_ok}
use Rattle.object_store.proofs.store.Store.add.Goals as goal

abbrev same : Name → Name → Bool
same x y = same_bytes x.0 y.0

module _ (c : goal.Else-prove) where
  abbrev arena : Bytes
  arena = c.self.inside.arena.items

  abbrev places : List (Name × Place)
  places = c.self.inside.places.entries

  arena-after : c.extend_from_slice-copied.new.self.items ≡ arena ++ c.args.body.now
  arena-after =
      c.extend_from_slice-copied.ensures.items
      ∙ ap (λ b. if b then c.reserve.new.self.items ++ c.args.body.now else c.reserve.new.self.items) (sym c.if-prove.ensures.value)
      ∙ ap (λ (a : Bytes). a ++ c.args.body.now) c.reserve.ensures.items

  new_at : c.len-at.result ≡ length arena
  new_at = c.len-at.ensures ∙ c.self.inside.arena.ok.0

  -- the objects that were held
  abbrev old : List Object
  old = placed_objects arena places

  old_is : old ≡ c.args.self.now
  old_is = c.self.view_is

  not_held : find_named old c.args.key.0 ≡ None
  not_held = ap (λ (S : List Object). find_named S c.args.key.0) old_is ∙ c.requires.new

  whole : is_body old c.args.kind c.args.body.now ≡ true
  whole = ap (λ (S : List Object). is_body S c.args.kind c.args.body.now) old_is ∙ c.requires.body

  abbrev place : Place
  place = new_place c.args.kind c.args.key arena c.args.body.now c.args.stats places

  places-after : c.insert.new.self.entries ≡ places ++ (c.args.key, place) ∷ []
  places-after =
      from_ok c.insert.result c.if-is_err.ensures.value c.insert.ensures.entries
      ∙ insert_entry-new same c.self.inside.places c.args.key (record { kind = c.args.kind; at = c.len-at.result; len = length c.args.body.now; stats = c.args.stats }) (nothing-placed arena places c.args.key c.self.invariant not_held)
      ∙ ap (λ n. places ++ (c.args.key, record { kind = c.args.kind; at = n; len = length c.args.body.now; stats = c.args.stats }) ∷ []) new_at

  held : HoldsStore c.extend_from_slice-copied.new.self.items c.insert.new.self.entries
  held = held-added c.args.kind c.args.key arena c.args.body.now c.args.stats places _ _ arena-after places-after c.self.invariant c.requires.key not_held whole
      (c.requires.stats ∙ ap (λ (S : List Object). sizes (body_flat S c.args.kind c.args.body.now)) (sym old_is))

  added : placed_objects c.extend_from_slice-copied.new.self.items c.insert.new.self.entries ≡ record { kind = c.args.kind; body = c.args.body.now } ∷ c.args.self.now
  added = objects-added c.args.kind c.args.key arena c.args.body.now c.args.stats places _ _ arena-after places-after c.self.invariant ∙ ap (λ (S : List Object). record { kind = c.args.kind; body = c.args.body.now } ∷ S) old_is

pub invariant_of-self-2 : goal.invariant_of-self-2
invariant_of-self-2 c = held c

pub returns-clause-ok : goal.returns-clause-ok
returns-clause-ok c = added c

pub returns-clause-store : goal.returns-clause-store
returns-clause-store c = (held c).store
