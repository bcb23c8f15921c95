use Rattle.std.proofs.Common.{ap, ◌∙◌, refl}
use Rattle.std.specs.Option.{option_map}
use Rattle.git_objects.specs.Parts.{name_bytes}
use Rattle.filter_cache.specs.Memos.{Key, Memo, found, same_key, used}
use Rattle.filter_cache.specs.Pairs.{entries_of, join_of, key_of}
use Rattle.filter_cache.proofs.Lookups.{found-lookup, key-is, used-promoted}
use Rattle.filter_cache.proofs.memo.Memo.get.Goals as goal

pub returns-clause-found : goal.returns-clause-found
returns-clause-found c =
    let k : Key = ((c.args.table, c.args.part), c.args.tree.now.0) in
    ap (option_map name_bytes) (c.copied.ensures ∙ c.get.ensures.value)
    ∙ found-lookup key_of same_key key-is _ k (λ p. refl) c.self.inside.places.entries
    ∙ ap (λ (m : Memo). found same_key k m.entries) c.self.view_is

pub returns-clause-used : goal.returns-clause-used
returns-clause-used c =
    let k : Key = ((c.args.table, c.args.part), c.args.tree.now.0) in
    let h = c.get.follows.holds-at-none in
    (λ i. record { capacity = (h i).cap; entries = entries_of key_of (h i).entries; joins = entries_of join_of c.self.inside.joins.entries })
    ∙ (λ i. record { capacity = c.self.inside.places.cap; entries = used-promoted key_of same_key key-is _ k (λ p. refl) c.self.inside.places.entries i; joins = entries_of join_of c.self.inside.joins.entries })
    ∙ ap (λ (m : Memo). record m { entries = used same_key k m.entries }) c.self.view_is
