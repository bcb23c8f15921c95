use Rattle.std.proofs.Common.{None, sym, ◌∙◌, ap, true≢false}
use Rattle.std.specs.Option.{option_map}
use Rattle.git_objects.specs.Parts.{name_bytes}
use Rattle.git_objects.specs.declared.kind.Kind.TheVariants.{Commit}
use Rattle.object_store.specs.Errors.{object_value}
use Rattle.object_store.proofs.Finding.{has-found}
use Rattle.object_store.proofs.StoredCommits.{tree-told}
use Rattle.object_store.proofs.commits.tree_of.Goals as goal

pub unreachable-requires : goal.unreachable-requires
unreachable-requires c = true≢false (sym c.requires ∙ sym (has-found Commit c.args.store.now c.args.commit.now.0 None c.in-None.ensures.store c.in-None.ensures.object))

pub unreachable-requires-in-None-tree_in_commit : goal.unreachable-requires-in-None-tree_in_commit
unreachable-requires-in-None-tree_in_commit c =
    let told = tree-told c.args.store.now c.args.commit.now.0 (object_value c.in-Some.object) _ c.in-Some.ensures.store c.requires c.in-Some.ensures.object c.tree_in_commit.ensures in
    told.0 (ap (option_map name_bytes) c.in-None-tree_in_commit.is)

pub returns : goal.returns
returns c =
    let told = tree-told c.args.store.now c.args.commit.now.0 (object_value c.in-Some.object) _ c.in-Some.ensures.store c.requires c.in-Some.ensures.object c.tree_in_commit.ensures in
    told.1 _ (ap (option_map name_bytes) c.in-Some-tree_in_commit.is)
