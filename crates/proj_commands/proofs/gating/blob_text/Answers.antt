-- Proves what src/gating.rt needs of `blob_text`.
use Rattle.std.proofs.Common.{◌∙◌, ap}
use Rattle.std.proofs.lemmas.Option.{none-some, same_Some}
use Rattle.git_objects.specs.declared.kind.Kind.TheVariants.{Blob}
use Rattle.object_store.specs.Objects.{Object, body_of}
use Rattle.object_store.specs.Errors.{object_value}
use Rattle.object_store.proofs.Parts.{find-has}
use Rattle.proj_commands.proofs.gating.blob_text.Goals as goal

pub unreachable-requires : goal.unreachable-requires
unreachable-requires c =
    let S = c.args.store.now in
    none-some (record { kind = Blob; body = body_of Blob S c.args.name.now.0 })
    (c.in-None.ensures.object ∙ find-has S Blob c.args.name.now.0 c.in-None.ensures.store c.requires.held)

pub returns : goal.returns
returns c =
    let S = c.args.store.now in
    ap (λ (o : Object). o.body)
    (same_Some (object_value c.in-Some.object) (record { kind = Blob; body = body_of Blob S c.args.name.now.0 })
    (c.in-Some.ensures.object ∙ find-has S Blob c.args.name.now.0 c.in-Some.ensures.store c.requires.held))
