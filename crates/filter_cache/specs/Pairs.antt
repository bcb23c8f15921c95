-- How the code's pairs are entries of a memo.
use Rattle.std.specs.Prelude.{List, map}
use Rattle.git_objects.specs.Paths.{Bytes}
use Rattle.git_objects.specs.declared.name.Name.{Name}
use Rattle.filter_cache.specs.Memos.{Key, JoinKey}
use Rattle.filter_cache.specs.declared.memo.Pair.{Pair}
use Rattle.filter_cache.specs.declared.memo.Place.{Place}

abbrev pub key_of : Place → Key
key_of p = ((p.table, p.part), p.tree.0)

abbrev pub join_of : Pair → JoinKey
join_of p = (p.first.0, p.second.0)

-- pairs of the code's keys as entries of the memo's
abbrev pub entries_of : {P K : Type 0} → (P → K) → List (P × Name) → List (K × Bytes)
entries_of key es = map (λ e. (key e.0, e.1.0)) es
