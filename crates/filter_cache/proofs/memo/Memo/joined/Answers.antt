use Rattle.std.proofs.Common.{ap, ◌∙◌, refl}
use Rattle.std.specs.Option.{option_map}
use Rattle.git_objects.specs.Parts.{name_bytes}
use Rattle.filter_cache.specs.Memos.{JoinKey, Memo, found, same_join, used}
use Rattle.filter_cache.specs.Pairs.{entries_of, join_of, key_of}
use Rattle.filter_cache.proofs.Lookups.{found-lookup, join-is, used-promoted}
use Rattle.filter_cache.proofs.memo.Memo.joined.Goals as goal

pub returns-clause-found : goal.returns-clause-found
returns-clause-found c =
    let k : JoinKey = (c.args.first.now.0, c.args.second.now.0) in
    ap (option_map name_bytes) (c.copied.ensures ∙ c.get.ensures.value)
    ∙ found-lookup join_of same_join join-is _ k (λ p. refl) c.self.inside.joins.entries
    ∙ ap (λ (m : Memo). found same_join k m.joins) c.self.view_is

pub returns-clause-used : goal.returns-clause-used
returns-clause-used c =
    let k : JoinKey = (c.args.first.now.0, c.args.second.now.0) in
    let h = c.get.follows.holds-at-none in
    (λ i. record { capacity = c.self.inside.places.cap; entries = entries_of key_of c.self.inside.places.entries; joins = entries_of join_of (h i).entries })
    ∙ (λ i. record { capacity = c.self.inside.places.cap; entries = entries_of key_of c.self.inside.places.entries; joins = used-promoted join_of same_join join-is _ k (λ p. refl) c.self.inside.joins.entries i })
    ∙ ap (λ (m : Memo). record m { joins = used same_join k m.joins }) c.self.view_is
