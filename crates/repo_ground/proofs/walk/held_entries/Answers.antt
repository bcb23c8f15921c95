use Rattle.std.proofs.Common.{List, [], sym, ap, subst, ◌∙◌}
use Rattle.std.specs.Option.{unwrap_or}
use Rattle.git_objects.specs.Bodies.{tree_entries}
use Rattle.git_objects.specs.declared.entry.Entry.{Entry}
use Rattle.git_objects.proofs.SharedFronts.{listed}
use Rattle.object_store.specs.Errors.{object_value}
use Rattle.object_store.specs.Objects.{HasChildren}
use Rattle.object_store.proofs.Children.{tree-found, tree-read}
use Rattle.state_items.proofs.Naming.{name-known}
use Rattle.repo_ground.specs.Growing.{held_of}
use Rattle.repo_ground.proofs.Passing.{held-listed, some-read}
use Rattle.repo_ground.proofs.walk.held_entries.Goals as goal

pub of_canonical-requires : goal.of_canonical-requires
of_canonical-requires c =
    let S = c.args.store.now in
    let t = tree-found S c.args.name.now.0 (object_value c.in-Some.object) c.in-Some.ensures.store c.in-Some.ensures.object (sym c.ne.ensures ∙ c.if-ne.false) in
    some-read (tree_entries c.in-Some.object.body.now) (λ q. tree-read S c.args.name.now.0 c.in-Some.ensures.store t.0 (ap tree_entries t.1 ∙ q))

pub returns-else-ne : goal.returns-else-ne
returns-else-ne c = λ holds.
    let S = c.args.store.now in
    let names = c.args.held.now.keys in
    let n = c.args.name.now in
    let t = tree-found S n.0 (object_value c.in-Some.object) c.in-Some.ensures.store c.in-Some.ensures.object (sym c.ne.ensures ∙ c.if-ne.false) in
    let known = sym (name-known (held_of S names) names n holds.named) ∙ sym c.contains.ensures ∙ (cc) in
    subst (λ (es : List Entry). HasChildren (held_of S names) es) (ap listed t.1 ∙ ap (λ o. unwrap_or o []) (sym c.of_canonical.ensures))
    (held-listed S names n.0 c.in-Some.ensures.store holds known t.0)
