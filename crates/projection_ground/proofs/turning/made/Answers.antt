use Rattle.std.proofs.Common.{refl, ap, ◌∙◌}
use Rattle.git_objects.specs.Names.{name}
use Rattle.git_objects.specs.declared.kind.Kind.TheVariants.{Commit}
use Rattle.object_store.specs.StoredSnapshots.{commit_named}
use Rattle.projection_ground.proofs.TurnLemmas.{commit-held, name-at-is}
use Rattle.projection_ground.proofs.turning.made.Goals as goal

pub own_body-requires-clause-commit : goal.own_body-requires-clause-commit
own_body-requires-clause-commit c = commit-held c.args.ground.now c.args.place c.name-original.result.0 c.requires.ground c.requires.place c.name-original.ensures

pub returns : goal.returns
returns c = λ d e. record {
  body = c.in_ok-body.ensures d (ap (commit_named c.args.ground.now.store) (name-at-is c.args.ground.now c.args.place c.name-original.result.0 c.requires.ground c.requires.place c.name-original.ensures) ∙ e);
  name = c.name_of.ensures ∙ ap (name Commit) c.deref.ensures.value;
  tree = refl;
}
