use Rattle.std.proofs.Common.{◌≡◌, ◌+◌, length, subst, refl, arith}
use Rattle.filter_cache.specs.Memos.{IsMemo, Memo, same_join, same_key}
use Rattle.filter_cache.specs.Pairs.{join_of, key_of}
use Rattle.filter_cache.proofs.Lookups.{distinct-keys, length-entries}
use Rattle.filter_cache.proofs.memo.Memo.len.Goals as goal

pub returns-clause-len : goal.returns-clause-len
returns-clause-len c =
    let places = length-entries key_of c.self.inside.places.entries in
    let joins = length-entries join_of c.self.inside.joins.entries in
    subst (λ (m : Memo). c.len.result + c.len-2.result ≡ length m.entries + length m.joins) c.self.view_is (omega (arith, places, joins))

pub returns-clause-memo : goal.returns-clause-memo
returns-clause-memo c =
    let places = c.len.ensures.valid in
    let joins = c.len-2.ensures.valid in
    subst IsMemo c.self.view_is (record {
      entries = record {
        distinct = distinct-keys key_of same_key _ (λ p q. refl) c.self.inside.places.entries places.0;
        within = let e = length-entries key_of c.self.inside.places.entries in omega (arith, e, places.1);
      };
      joins = record {
        distinct = distinct-keys join_of same_join _ (λ p q. refl) c.self.inside.joins.entries joins.0;
        within = let e = length-entries join_of c.self.inside.joins.entries in omega (arith, e, joins.1, c.self.invariant);
      };
      room = omega (arith, places.2);
    })
