use Rattle.std.proofs.Common.{Some, None, ◌∙◌}
use Rattle.git_objects.specs.declared.kind.Kind.TheVariants.{Commit}
use Rattle.object_store.specs.Errors.{object_value}
use Rattle.object_store.proofs.Finding.{has-found, kind_test}
use Rattle.state_items.proofs.ref_fields.has_commit.Goals as goal

pub returns-in-None : goal.returns-in-None
returns-in-None c = has-found Commit _ c.args.name.now.0 None c.in-None.ensures.store c.in-None.ensures.object

pub returns-in-Some : goal.returns-in-Some
returns-in-Some c = c.eq.ensures ∙ kind_test c.in-Some.object.kind Commit ∙ has-found Commit _ c.args.name.now.0 (Some (object_value c.in-Some.object)) c.in-Some.ensures.store c.in-Some.ensures.object
