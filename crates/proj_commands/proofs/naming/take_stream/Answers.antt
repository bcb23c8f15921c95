-- Proves what src/naming.rt needs of `take_stream`.
use Rattle.std.proofs.Common.{◌≡◌, [], Err, Ok, sym, ap, subst, ◌∙◌}
use Rattle.fast_import.specs.Replays.{empty_base}
use Rattle.proj_words.specs.declared.outcome.Outcome.TheVariants as outcomes
use Rattle.repo_ground.specs.Contents.{Contents}
use Rattle.repo_ground.specs.Loads.{IsEmpty}
use Rattle.repo_ground.specs.contracts.state.State.{the_view}
use Rattle.state_items.specs.Items.{nothing}
use Rattle.state_items.specs.Changes.{fresh, objects_of}
use Rattle.proj_commands.proofs.Intaking.{replay-takes}
use Rattle.proj_commands.proofs.NamesGiven.{IsUntold, batch-given, counts-by, ground-given, neither, passed-count, passed-neither, passed-result, same-error, state-given, unreplayed, untaken, untaken-store, untold-memory}
use Rattle.proj_commands.proofs.Outcomes.{commit-read, commit-write, replay-read, replay-store, replay-write, told-input}
use Rattle.proj_commands.proofs.naming.take_stream.Goals as goal
use Rattle.proj_commands.specs.Import.{tagged_ran}

pub returns-in-Err-clause-given : goal.returns-in-Err-clause-given
returns-in-Err-clause-given g c =
    let v : Contents = the_view c.state.inside in
    let empty = subst IsEmpty (sym c.state.view_is) c.requires in
    let t = c.in-Err.ensures.stream in
    (t.0, t.1, told-input (g.S.Source.left c.args.input.now) t.0 t.2, tt, unreplayed t.0 t.1 v empty c.replay_tagged.new.store c.in-Err.error c.replay_outcome.result c.replay_outcome.ensures t.3)

pub returns-in-Err-clause-early : goal.returns-in-Err-clause-early
returns-in-Err-clause-early g c =
    let is = c.replay_outcome.ensures in
    neither _ c.replay_outcome.result (λ q. replay-write c.in-Err.error (sym is ∙ q)) (λ q. replay-store c.in-Err.error (sym is ∙ q))

pub returns-in-Err-clause-told : goal.returns-in-Err-clause-told
returns-in-Err-clause-told g c = c.in-Err.ensures.told

pub returns-in-Err-clause-read : goal.returns-in-Err-clause-read
returns-in-Err-clause-read g c =
    counts-by (g.S.Source.faults c.args.input.now) (g.S.Source.faults c.replay_tagged.new.input) _ _ c.in-Err.ensures.cause
    (λ q. ap Err (replay-read c.in-Err.error (sym c.replay_outcome.ensures ∙ same-error c.replay_outcome.result outcomes.ReadFault q)))

pub returns-in_err-batch-clause-given : goal.returns-in_err-batch-clause-given
returns-in_err-batch-clause-given g c =
    let t = c.in-Ok.ensures.stream in
    let r = passed-result _ c.from_residual.result outcomes.OutOfMemory c.from_residual.ensures.1 _ (IsUntold t.0) (untold-memory t.0) in
    (t.0, t.1, told-input (g.S.Source.left c.args.input.now) t.0 t.2, r.0, r.1)

pub returns-in_err-batch-clause-early : goal.returns-in_err-batch-clause-early
returns-in_err-batch-clause-early g c = passed-neither _ c.from_residual.result outcomes.OutOfMemory c.from_residual.ensures.1 (λ q. cc) (λ q. cc)

pub returns-in_err-batch-clause-told : goal.returns-in_err-batch-clause-told
returns-in_err-batch-clause-told g c = c.in-Ok.ensures.told

pub returns-in_err-batch-clause-read : goal.returns-in_err-batch-clause-read
returns-in_err-batch-clause-read g c =
    passed-count _ c.from_residual.result outcomes.OutOfMemory c.from_residual.ensures.1 (g.S.Source.faults c.args.input.now) (g.S.Source.faults c.replay_tagged.new.input) _ outcomes.ReadFault
    c.in-Ok.ensures.cause (λ q. absurd (let no : outcomes.OutOfMemory ≡ outcomes.ReadFault = q in cc))

pub take-requires-clause-ground : goal.take-requires-clause-ground
take-requires-clause-ground g c =
    let v : Contents = the_view c.state.inside in
    let empty = subst IsEmpty (sym c.state.view_is) c.requires in
    let t = c.in-Ok.ensures.stream in
    ground-given t.0 t.1 v empty c.replay_tagged.new.store c.in-Ok.given t.3

pub take-requires-clause-batch : goal.take-requires-clause-batch
take-requires-clause-batch g c =
    let v : Contents = the_view c.state.inside in
    let empty = subst IsEmpty (sym c.state.view_is) c.requires in
    let t = c.in-Ok.ensures.stream in (
      nothing,
      (tagged_ran empty_base t.0).state.blobs,
      (tagged_ran empty_base t.0).state.commits,
      batch-given t.0 t.1 v empty c.replay_tagged.new.store c.in-Ok.given t.3 c.in_ok-batch.batch c.in_ok-batch.heads.items c.in_ok-batch.ensures,
    )

pub returns-in-Err-take-clause-given : goal.returns-in-Err-take-clause-given
returns-in-Err-take-clause-given g c =
    let v : Contents = the_view c.state.inside in
    let empty = subst IsEmpty (sym c.state.view_is) c.requires in
    let t = c.in-Ok.ensures.stream in
    let x = (tagged_ran empty_base t.0).state in
    let S = c.replay_tagged.new.store in
    let batch = batch-given t.0 t.1 v empty S c.in-Ok.given t.3 c.in_ok-batch.batch c.in_ok-batch.heads.items c.in_ok-batch.ensures in (
      t.0,
      t.1,
      told-input (g.S.Source.left c.args.input.now) t.0 t.2,
      tt,
      untaken t.0 t.1 v empty S c.in-Ok.given t.3 c.in-Err-take.error c.commit_outcome.result c.commit_outcome.ensures (c.in-Err-take.ensures nothing x.blobs x.commits batch),
    )

pub returns-in-Err-take-clause-early : goal.returns-in-Err-take-clause-early
returns-in-Err-take-clause-early g c =
    let v : Contents = the_view c.state.inside in
    let empty = subst IsEmpty (sym c.state.view_is) c.requires in
    let t = c.in-Ok.ensures.stream in
    let x = (tagged_ran empty_base t.0).state in
    let batch = batch-given t.0 t.1 v empty c.replay_tagged.new.store c.in-Ok.given t.3 c.in_ok-batch.batch c.in_ok-batch.heads.items c.in_ok-batch.ensures in
    let is = c.commit_outcome.ensures in
    neither _ c.commit_outcome.result (λ q. commit-write c.in-Err-take.error (sym is ∙ q))
    (λ q. untaken-store nothing (fresh [] (objects_of x.blobs x.commits)) c.in-Err-take.error (c.in-Err-take.ensures nothing x.blobs x.commits batch) (sym is ∙ q))

pub returns-in-Err-take-clause-told : goal.returns-in-Err-take-clause-told
returns-in-Err-take-clause-told g c = c.in-Ok.ensures.told

pub returns-in-Err-take-clause-read : goal.returns-in-Err-take-clause-read
returns-in-Err-take-clause-read g c =
    counts-by (g.S.Source.faults c.args.input.now) (g.S.Source.faults c.replay_tagged.new.input) _ _ c.in-Ok.ensures.cause
    (λ q. absurd (commit-read c.in-Err-take.error (sym c.commit_outcome.ensures ∙ same-error c.commit_outcome.result outcomes.ReadFault q)))

pub returns-clause-given : goal.returns-clause-given
returns-clause-given g c =
    let v : Contents = the_view c.state.inside in
    let empty = subst IsEmpty (sym c.state.view_is) c.requires in
    let t = c.in-Ok.ensures.stream in
    let x = (tagged_ran empty_base t.0).state in
    let S = c.replay_tagged.new.store in
    let batch = batch-given t.0 t.1 v empty S c.in-Ok.given t.3 c.in_ok-batch.batch c.in_ok-batch.heads.items c.in_ok-batch.ensures in (
      t.0,
      t.1,
      told-input (g.S.Source.left c.args.input.now) t.0 t.2,
      state-given t.0 t.1 v empty S c.in-Ok.given t.3 c.in_ok-batch.batch c.in_ok-batch.heads.items c.in_ok-batch.ensures c.take.new.self (c.in-Ok-take.ensures nothing x.blobs x.commits batch),
      tt,
    )

pub returns-clause-early : goal.returns-clause-early
returns-clause-early g c = (λ q. cc, λ q. cc)

pub returns-clause-told : goal.returns-clause-told
returns-clause-told g c = c.in-Ok.ensures.told

pub returns-clause-read : goal.returns-clause-read
returns-clause-read g c =
    counts-by (g.S.Source.faults c.args.input.now) (g.S.Source.faults c.replay_tagged.new.input) _ _ c.in-Ok.ensures.cause (λ q. absurd cc)

pub returns-in-Err-clause-taken : goal.returns-in-Err-clause-taken
returns-in-Err-clause-taken g c = replay-takes empty_base (g.S.Source.left c.args.input.now) (g.S.Source.left c.replay_tagged.new.input) (Err c.in-Err.error) c.in-Err.ensures.taken

pub returns-in_err-batch-clause-taken : goal.returns-in_err-batch-clause-taken
returns-in_err-batch-clause-taken g c = replay-takes empty_base (g.S.Source.left c.args.input.now) (g.S.Source.left c.replay_tagged.new.input) (Ok c.in-Ok.given) c.in-Ok.ensures.taken

pub returns-in-Err-take-clause-taken : goal.returns-in-Err-take-clause-taken
returns-in-Err-take-clause-taken g c = replay-takes empty_base (g.S.Source.left c.args.input.now) (g.S.Source.left c.replay_tagged.new.input) (Ok c.in-Ok.given) c.in-Ok.ensures.taken

pub returns-clause-taken : goal.returns-clause-taken
returns-clause-taken g c = replay-takes empty_base (g.S.Source.left c.args.input.now) (g.S.Source.left c.replay_tagged.new.input) (Ok c.in-Ok.given) c.in-Ok.ensures.taken
