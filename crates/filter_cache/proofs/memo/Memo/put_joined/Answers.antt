use Rattle.std.proofs.Common.{IsSome, ap, ◌∙◌, sym, subst, inl, inr, refl}
use Rattle.git_objects.specs.Parts.{name_bytes}
use Rattle.filter_cache.specs.Memos.{JoinKey, Memo, entered, found, same_join}
use Rattle.filter_cache.specs.Pairs.{entries_of, join_of, key_of}
use Rattle.filter_cache.proofs.Lookups.{found-lookup, entered-put, either-way, join-is, when-ok, some-before, same_pair}
use Rattle.filter_cache.specs.declared.memo.Pair.{Pair}
use Rattle.filter_cache.proofs.memo.Memo.put_joined.Goals as goal

pub returns-clause-entered : goal.returns-clause-entered
returns-clause-entered c =
    let k : JoinKey = (c.args.first.0, c.args.second.0) in
    let pair : Pair = record { first = c.args.first; second = c.args.second } in
    let places = c.self.inside.places in
    let joins = c.self.inside.joins in
    elim (either-way c.put.result c.put.ensures.entries c.put.ensures.err) [
      | inl h ↦ inl (
          (λ i. record { capacity = places.cap; entries = entries_of key_of places.entries; joins = entries_of join_of (h i).entries })
          ∙ (λ i. record { capacity = places.cap; entries = entries_of key_of places.entries; joins = entered-put join_of same_join join-is (same_pair pair) k (λ p. refl) same_pair joins pair c.args.name refl refl i })
          ∙ (λ i. record { capacity = places.cap; entries = entries_of key_of places.entries; joins = entered same_join (c.self.invariant i) k c.args.name.0 (entries_of join_of joins.entries) })
          ∙ ap (λ (m : Memo). record m { joins = entered same_join m.capacity k c.args.name.0 m.joins }) c.self.view_is)
      | inr h ↦ inr ((λ i. record { capacity = places.cap; entries = entries_of key_of places.entries; joins = entries_of join_of (h i).entries }) ∙ c.self.view_is)
    ]

pub returns-clause-known : goal.returns-clause-known
returns-clause-known c s =
    let k : JoinKey = (c.args.first.0, c.args.second.0) in
    let pair : Pair = record { first = c.args.first; second = c.args.second } in
    let places = c.self.inside.places in
    let joins = c.self.inside.joins in
    let back = found-lookup join_of same_join join-is _ k (λ p. refl) joins.entries ∙ ap (λ (m : Memo). found same_join k m.joins) c.self.view_is in
    let h = when-ok c.put.result c.put.ensures.entries (c.put.ensures.succeeds (some-before name_bytes _ (subst IsSome (sym back) s))) in
    (λ i. record { capacity = places.cap; entries = entries_of key_of places.entries; joins = entries_of join_of (h i).entries })
    ∙ (λ i. record { capacity = places.cap; entries = entries_of key_of places.entries; joins = entered-put join_of same_join join-is (same_pair pair) k (λ p. refl) same_pair joins pair c.args.name refl refl i })
    ∙ (λ i. record { capacity = places.cap; entries = entries_of key_of places.entries; joins = entered same_join (c.self.invariant i) k c.args.name.0 (entries_of join_of joins.entries) })
    ∙ ap (λ (m : Memo). record m { joins = entered same_join m.capacity k c.args.name.0 m.joins }) c.self.view_is
