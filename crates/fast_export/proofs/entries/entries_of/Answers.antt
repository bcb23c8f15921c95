use Rattle.std.proofs.Common.{◌∙◌, ap, []}
use Rattle.std.specs.Prelude.{unwrap_or}
use Rattle.std.specs.Option.{is_some}
use Rattle.git_objects.specs.Bodies.{tree_entries}
use Rattle.fast_export.proofs.LinesBehind.{body_lists, found_body, found_never}
use Rattle.fast_export.proofs.entries.entries_of.Goals as goal

pub unreachable-requires : goal.unreachable-requires
unreachable-requires c = found_never c.args.store.now c.args.tree.now.0 c.in-None.ensures.store c.requires c.in-None.ensures.object

pub of_canonical-requires : goal.of_canonical-requires
of_canonical-requires c =
    let body = found_body c.args.store.now c.args.tree.now.0 _ c.in-Some.ensures.store c.requires c.in-Some.ensures.object in
    ap (λ b. is_some (tree_entries b)) body ∙ body_lists c.args.store.now c.args.tree.now.0 c.in-Some.ensures.store c.requires

pub returns-clause-listed : goal.returns-clause-listed
returns-clause-listed c =
    let body = found_body c.args.store.now c.args.tree.now.0 _ c.in-Some.ensures.store c.requires c.in-Some.ensures.object in
    ap (λ o. unwrap_or o []) (c.of_canonical.ensures ∙ ap tree_entries body)
