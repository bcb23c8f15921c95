use Rattle.std.proofs.Common.{IsSome, ap, ◌∙◌, sym, subst, inl, inr, refl}
use Rattle.git_objects.specs.Parts.{name_bytes}
use Rattle.filter_cache.specs.Memos.{Key, Memo, entered, found, same_key}
use Rattle.filter_cache.specs.Pairs.{entries_of, join_of, key_of}
use Rattle.filter_cache.proofs.Lookups.{found-lookup, entered-put, either-way, key-is, when-ok, some-before, same_place}
use Rattle.filter_cache.specs.declared.memo.Place.{Place}
use Rattle.filter_cache.proofs.memo.Memo.put.Goals as goal

pub returns-clause-entered : goal.returns-clause-entered
returns-clause-entered c =
    let k : Key = ((c.args.table, c.args.part), c.args.tree.0) in
    let place : Place = record { table = c.args.table; part = c.args.part; tree = c.args.tree } in
    let joins = entries_of join_of c.self.inside.joins.entries in
    elim (either-way c.put.result c.put.ensures.entries c.put.ensures.err) [
      | inl h ↦ inl (
          (λ i. record { capacity = (h i).cap; entries = entries_of key_of (h i).entries; joins = joins })
          ∙ (λ i. record { capacity = c.self.inside.places.cap; entries = entered-put key_of same_key key-is (same_place place) k (λ p. refl) same_place c.self.inside.places place c.args.shown refl refl i; joins = joins })
          ∙ ap (λ (m : Memo). record m { entries = entered same_key m.capacity k c.args.shown.0 m.entries }) c.self.view_is)
      | inr h ↦ inr ((λ i. record { capacity = (h i).cap; entries = entries_of key_of (h i).entries; joins = joins }) ∙ c.self.view_is)
    ]

pub returns-clause-known : goal.returns-clause-known
returns-clause-known c s =
    let k : Key = ((c.args.table, c.args.part), c.args.tree.0) in
    let place : Place = record { table = c.args.table; part = c.args.part; tree = c.args.tree } in
    let joins = entries_of join_of c.self.inside.joins.entries in
    let back = found-lookup key_of same_key key-is _ k (λ p. refl) c.self.inside.places.entries ∙ ap (λ (m : Memo). found same_key k m.entries) c.self.view_is in
    let h = when-ok c.put.result c.put.ensures.entries (c.put.ensures.succeeds (some-before name_bytes _ (subst IsSome (sym back) s))) in
    (λ i. record { capacity = (h i).cap; entries = entries_of key_of (h i).entries; joins = joins })
    ∙ (λ i. record { capacity = c.self.inside.places.cap; entries = entered-put key_of same_key key-is (same_place place) k (λ p. refl) same_place c.self.inside.places place c.args.shown refl refl i; joins = joins })
    ∙ ap (λ (m : Memo). record m { entries = entered same_key m.capacity k c.args.shown.0 m.entries }) c.self.view_is
