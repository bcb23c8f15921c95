use Rattle.std.proofs.Common.{List, [], Option, ap, sym, ◌∙◌}
use Rattle.std.specs.Option.{is_some, unwrap_or}
use Rattle.git_objects.specs.Bodies.{tree_entries}
use Rattle.git_objects.specs.Paths.{Bytes}
use Rattle.git_objects.specs.declared.entry.Entry.{Entry}
use Rattle.git_objects.proofs.Beside.{listing-of}
use Rattle.object_store.specs.Objects.{missing_entry}
use Rattle.object_store.specs.Sizes.{sizes}
use Rattle.object_store.proofs.Children.{tree-children, tree-read}
use Rattle.object_store.proofs.FlatParts.{entries_map, flat-unfolds}
use Rattle.object_store.proofs.Swaps.{is-some, none-missing}
use Rattle.object_store.proofs.shelf.Shelf.stats_beside.Goals as goal

pub of_canonical-requires : goal.of_canonical-requires
of_canonical-requires c =
    let t = c.in_ok-other.ensures.tree in
    ap (λ (b : Bytes). is_some (tree_entries b)) (sym t.2) ∙ is-some _ (tree-read c.args.self.now t.0 c.in_ok-other.ensures.store t.1)

pub swapped_stats-requires-clause-listing : goal.swapped_stats-requires-clause-listing
swapped_stats-requires-clause-listing c = listing-of c.in_ok-other.other.now c.of_canonical.result (sym c.of_canonical.ensures)

pub swapped_stats-requires-clause-held : goal.swapped_stats-requires-clause-held
swapped_stats-requires-clause-held c =
    let S = c.args.self.now in
    let t = c.in_ok-other.ensures.tree in
    ap (λ (o : Option (List Entry)). missing_entry S (unwrap_or o [])) (c.of_canonical.ensures ∙ ap tree_entries (sym t.2)) ∙ none-missing S _ (tree-children S t.0 c.in_ok-other.ensures.store t.1)

pub swapped_stats-requires-clause-total : goal.swapped_stats-requires-clause-total
swapped_stats-requires-clause-total c =
    let S = c.args.self.now in
    let t = c.in_ok-other.ensures.tree in
    t.3
    ∙ ap sizes (flat-unfolds S t.0 c.in_ok-other.ensures.store t.1)
    ∙ ap (λ (o : Option (List Entry)). sizes (entries_map S (unwrap_or o []))) (ap tree_entries t.2 ∙ sym c.of_canonical.ensures)
