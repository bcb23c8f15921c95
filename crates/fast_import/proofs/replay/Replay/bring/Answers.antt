use Rattle.std.proofs.Common.{Err, ap, inl, refl, rules, subst, sym, ◌∙◌}
use Rattle.std.proofs.lemmas.Result.{err_from_is_err_and}
use Rattle.git_objects.specs.declared.kind.Kind.TheVariants.{Blob}
use Rattle.object_store.specs.Objects.{find_named}
use Rattle.object_store.proofs.PutObjects.{put_is}
use Rattle.fast_import.specs.Replaying.{Replaying}
use Rattle.fast_import.specs.Standing.{IsBrought}
use Rattle.fast_import.specs.contracts.replay.Replay.{the_view}
use Rattle.fast_import.proofs.Putting.{as_before, fault_fitting, refused_fitting}
use Rattle.fast_import.proofs.replay.Replay.bring.Goals as goal

pub put_fault-requires : goal.put_fault-requires
put_fault-requires c = refused_fitting c.args.store.now c.put_fitting.new.self Blob c.args.content.now c.in-Err.error refl c.in-Err.ensures.err

pub returns-in-Err : goal.returns-in-Err
returns-in-Err c =
    let S = c.args.store.now in
    let T = c.put_fitting.new.self in
    let b = c.args.content.now in
    let told = c.in-Err.ensures.err in
    record {
      named = tt;
      behind = tt;
      refused = fault_fitting S T Blob b c.in-Err.error refl told c.put_fault.result c.put_fault.ensures.memory c.put_fault.ensures.collision;
      grown = as_before S T Blob b c.in-Err.error refl told c.put_fitting.ensures.store;
    }

pub returns-in_err-add-in-Ok : goal.returns-in_err-add-in-Ok
returns-in_err-add-in-Ok c =
    let S = c.args.store.now in
    let T = c.put_fitting.new.self in
    let b = c.args.content.now in
    let ok = c.in-Ok.ensures.ok in
    let p = err_from_is_err_and c.from_residual.result c.from_residual.ensures.1 in
    let after : Replaying = the_view record { alloc = c.self.inside.alloc; blobs = c.add.new.self; commits = c.self.inside.commits; branches = c.self.inside.branches; marks = c.self.inside.marks; draft = c.self.inside.draft; tags = c.self.inside.tags } in
    subst (IsBrought S T c.args.self.now after b) (sym (p.1 ∙ ap Err p.2))
    (record { named = tt; behind = tt; refused = inl refl; grown = (put_is S Blob b T refl ok.1 c.put_fitting.ensures.store ok.2).grown })

pub returns-in_ok-add-in-Ok : goal.returns-in_ok-add-in-Ok
returns-in_ok-add-in-Ok c =
    let T = c.put_fitting.new.self in
    let ok = c.in-Ok.ensures.ok in
    let is = put_is c.args.store.now Blob c.args.content.now T refl ok.1 c.put_fitting.ensures.store ok.2 in
    record { named = ap (find_named T) ok.0 ∙ is.found; behind = search rules; refused = tt; grown = is.grown }
