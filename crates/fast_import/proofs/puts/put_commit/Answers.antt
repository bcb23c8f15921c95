use Rattle.std.proofs.Common.{◌≡◌, Some, ◌∙◌, ap, subst}
use Rattle.git_objects.specs.CommitBodies.{commit_from}
use Rattle.git_objects.specs.Names.{name}
use Rattle.git_objects.specs.Parts.{commit_of}
use Rattle.git_objects.specs.Paths.{Bytes}
use Rattle.git_objects.specs.declared.kind.Kind.TheVariants.{Commit}
use Rattle.object_store.specs.Growth.{IsGrownBy, IsOnly}
use Rattle.object_store.specs.Objects.{find_named}
use Rattle.object_store.proofs.PutObjects.{commit_fits, put_is}
use Rattle.fast_import.specs.Made.{IsPutFault}
use Rattle.fast_import.proofs.Putting.{fault_fitting, refused_fitting}
use Rattle.fast_import.proofs.puts.put_commit.Goals as goal

pub put_fitting-requires : goal.put_fitting-requires
put_fitting-requires c =
    commit_fits c.args.store.now (commit_of c.args.parts.now) c.deref.result.now c.requires.tree c.requires.parents
    (ap commit_from c.deref.ensures.value ∙ c.in-Ok.ensures.read_back)

pub returns-in-Ok-put_fitting-clause-ok : goal.returns-in-Ok-put_fitting-clause-ok
returns-in-Ok-put_fitting-clause-ok c =
    let T = c.put_fitting.new.self in
    let ok = c.in-Ok-put_fitting.ensures.ok in
    let fits = commit_fits c.args.store.now (commit_of c.args.parts.now) c.deref.result.now c.requires.tree c.requires.parents (ap commit_from c.deref.ensures.value ∙ c.in-Ok.ensures.read_back) in
    let is = put_is c.args.store.now Commit c.deref.result.now T fits ok.1 c.put_fitting.ensures.store ok.2 in
    subst (λ (b : Bytes). (c.in-Ok-put_fitting.name.0 ≡ name Commit b) × (find_named T c.in-Ok-put_fitting.name.0 ≡ Some (record { kind = Commit; body = b })))
    (c.deref.ensures.value ∙ c.in-Ok.ensures.body) (ok.0, ap (find_named T) ok.0 ∙ is.found)

pub returns-in-Ok-put_fitting-clause-store : goal.returns-in-Ok-put_fitting-clause-store
returns-in-Ok-put_fitting-clause-store c =
    let ok = c.in-Ok-put_fitting.ensures.ok in
    let fits = commit_fits c.args.store.now (commit_of c.args.parts.now) c.deref.result.now c.requires.tree c.requires.parents (ap commit_from c.deref.ensures.value ∙ c.in-Ok.ensures.read_back) in
    let is = put_is c.args.store.now Commit c.deref.result.now c.put_fitting.new.self fits ok.1 c.put_fitting.ensures.store ok.2 in
    subst (λ (b : Bytes). IsGrownBy (IsOnly Commit b) c.args.store.now c.put_fitting.new.self) (c.deref.ensures.value ∙ c.in-Ok.ensures.body) is.grown

pub put_fault-requires : goal.put_fault-requires
put_fault-requires c =
    let fits = commit_fits c.args.store.now (commit_of c.args.parts.now) c.deref.result.now c.requires.tree c.requires.parents (ap commit_from c.deref.ensures.value ∙ c.in-Ok.ensures.read_back) in
    refused_fitting c.args.store.now c.put_fitting.new.self Commit c.deref.result.now c.in-Err-put_fitting.error fits c.in-Err-put_fitting.ensures.err

pub returns-clause-err : goal.returns-clause-err
returns-clause-err c =
    let fits = commit_fits c.args.store.now (commit_of c.args.parts.now) c.deref.result.now c.requires.tree c.requires.parents (ap commit_from c.deref.ensures.value ∙ c.in-Ok.ensures.read_back) in
    subst (λ (b : Bytes). IsPutFault (IsOnly Commit b) c.put_fitting.new.self c.put_fault.result) (c.deref.ensures.value ∙ c.in-Ok.ensures.body)
    (fault_fitting c.args.store.now c.put_fitting.new.self Commit c.deref.result.now c.in-Err-put_fitting.error fits c.in-Err-put_fitting.ensures.err c.put_fault.result c.put_fault.ensures.memory c.put_fault.ensures.collision)
