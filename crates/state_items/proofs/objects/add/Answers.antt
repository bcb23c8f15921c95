use Rattle.std.proofs.Common.{◌≡◌, false, cond, ◌∷◌, take, drop, sym, ap, ◌∙◌}
use Rattle.git_objects.specs.Names.{name}
use Rattle.object_store.specs.Objects.{has_name}
use Rattle.std.specs.List.{list_any}
use Rattle.git_objects.specs.Paths.{Bytes, same_bytes}
use Rattle.git_objects.specs.declared.name.Name.{Name}
use Rattle.state_items.proofs.Naming.{name-known, not-true, not-false, take-known}
use Rattle.state_items.proofs.objects.add.Goals as goal

fresh : (c : goal.In-Ok-true) → has_name c.args.incoming.now.objects (name c.args.part.kind (take c.args.part.len (drop c.args.part.at c.args.incoming.now.piece))) ≡ false
fresh c =
    ap (λ (n : Bytes). has_name c.args.incoming.now.objects n) (sym c.in-Ok.ensures.ok.0)
    ∙ sym (name-known c.args.incoming.now.objects c.args.names.now.keys c.in-Ok.name c.requires.named)
    ∙ not-true (list_any (λ (j : Name). same_bytes c.in-Ok.name.0 j.0) c.args.names.now.keys) (sym c.in-Ok-true.field-0-test ∙ c.in-Ok-true.ensures.added)

pub returns-in-Ok-true-clause-added : goal.returns-in-Ok-true-clause-added
returns-in-Ok-true-clause-added c = record {
  refusal = c.in-Ok.ensures.ok.1;
  fresh = fresh c;
  objects = c.in-Ok.ensures.ok.2
      ∙ ap (λ b. cond b c.args.incoming.now.objects (record { kind = c.args.part.kind; body = (take c.args.part.len (drop c.args.part.at c.args.incoming.now.piece)) } ∷ c.args.incoming.now.objects)) (fresh c);
}

pub returns-in-Ok-false-clause-err : goal.returns-in-Ok-false-clause-err
returns-in-Ok-false-clause-err c =
    take-known c.args.incoming.now.objects c.args.part.kind (take c.args.part.len (drop c.args.part.at c.args.incoming.now.piece)) c.args.part.at c.in-Ok.ensures.ok.1
    (ap (λ (n : Bytes). has_name c.args.incoming.now.objects n) (sym c.in-Ok.ensures.ok.0)
    ∙ sym (name-known c.args.incoming.now.objects c.args.names.now.keys c.in-Ok.name c.requires.named)
    ∙ not-false (list_any (λ (j : Name). same_bytes c.in-Ok.name.0 j.0) c.args.names.now.keys) (sym c.in-Ok-false.field-0-test ∙ c.in-Ok-false.ensures.added))
