use Rattle.std.proofs.Common.{◌≡◌, Some, slice_get, sym, ap, ◌∙◌}
use Rattle.std.specs.Map.Iter.{deref_pair}
use Rattle.std.specs.Option.{option_map}
use Rattle.git_objects.specs.Paths.{Bytes, same_bytes}
use Rattle.indexmap.specs.IndexMap.{insert_entry}
use Rattle.ref_store.proofs.Copies.{copy-more}
use Rattle.ref_store.proofs.refs.Refs.copy.Goals as goal

pub loop-i-preserved : goal.loop-i-preserved
loop-i-preserved c =
    let es = c.self.inside.heads.entries in
    let at : slice_get es c.loop-i.i ≡ Some (deref_pair c.unwrap.result) = sym c.get_index.ensures.entry ∙ ap (option_map deref_pair) c.unwrap.ensures in
    copy-more c.loop-i.heads es _ c.loop-i.i _ _ c.len.ensures.unique c.loop-i.invariant at
    (c.in_ok-insert.ensures.entries ∙ ap (λ (k : Bytes). insert_entry same_bytes c.loop-i.heads.entries k c.unwrap.result.1.now) c.in_ok-copy.ensures)
