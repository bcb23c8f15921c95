-- Proves what src/importing.rt needs of `import`.
use Rattle.std.proofs.Common.{◌≡◌, ◌∙◌, [], Err, None, Ok, ap, refl, reverse, sym, subst}
use Rattle.std.specs.Prelude.{◌⊎◌}
use Rattle.std.proofs.lemmas.Result.{err_from_is_err_and}
use Rattle.proj_io.specs.Views.{KeeperView, keeper_view}
use Rattle.projection_ground.specs.Grounds.{IsGround}
use Rattle.repo_ground.specs.Changes.{IsBatchOf}
use Rattle.repo_ground.specs.Contents.{Contents}
use Rattle.repo_ground.specs.Laws.{trees_of}
use Rattle.repo_ground.specs.contracts.state.State.{the_view}
use Rattle.state_items.specs.Changes.{with_refs}
use Rattle.tag_objects.specs.TagLists.{rise}
use Rattle.proj_words.specs.declared.outcome.Outcome.{Outcome}
use Rattle.proj_words.specs.declared.outcome.Outcome.TheVariants as outcomes
use Rattle.proj_commands.specs.Import.{all_free}
use Rattle.proj_commands.specs.Makes.{IsStateOf}
use Rattle.proj_commands.specs.Replaying.{IsReplayedUpon}
use Rattle.proj_commands.proofs.Imports.{are-tags, commit-done, commit-refused, is-batch, no-memory, not-forward, not-free, unreplayed}
use Rattle.proj_commands.proofs.Intaking.{state-takes}
use Rattle.proj_commands.proofs.Outcomes.{replay-store}
use Rattle.proj_commands.proofs.StateBases.{base-as, replayed-upon, state-base, with_store}
use Rattle.proj_commands.proofs.importing.import.Goals as goal

pub replay_tagged-requires : goal.replay_tagged-requires
replay_tagged-requires g c =
    let q = c.requires.state in
    let v : Contents = the_view c.state.inside in
    let w = subst (IsStateOf q.0 q.1) (sym c.state.view_is) q.2 in
    let i = c.of-view.ensures in
    base-as v.basis.store c.of-view.result.commits (trees_of v.basis.graph) c.of-view.result.refs (with_refs [] v.refs) c.of-view.result.blobs (reverse v.blobs) i.commits i.refs i.blobs
    (state-base q.1 v w.spells w.ground)

pub returns-in-Err-clause-made : goal.returns-in-Err-clause-made
returns-in-Err-clause-made g c = λ items h w.
    let before = c.args.store.now in
    let seen : KeeperView = keeper_view g.K.Keeper.items g.K.Keeper.number g.K.Keeper.faults before in
    let v : Contents = the_view c.state.inside in
    let x = c.of-view.result in
    let i = c.of-view.ensures in
    let t = replayed-upon items h c.args.state.now v c.state.view_is w x.commits x.refs x.blobs c.replay_tagged.new.store i.commits i.refs i.blobs (g.S.Source.left c.args.input.now) (Err c.in-Err.error) c.in-Err.ensures.stream in
    let o = c.replay_outcome in
    let m =
    unreplayed items h t.0 t.1 c.args.force c.args.state.now w seen (g.K.Keeper.moment before) (g.K.Keeper.left_since before) (with_store v c.replay_tagged.new.store) o.result (Err o.result) refl
    (subst (λ (y : Outcome). IsReplayedUpon items h t.0 c.args.state.now (with_store v c.replay_tagged.new.store) (Err y)) (sym o.ensures) t.3) (λ q. replay-store c.in-Err.error (sym o.ensures ∙ q))
    in
    (t.0, t.2, m.0, m.1, m.2)

pub returns-in_default-clause-made : goal.returns-in_default-clause-made
returns-in_default-clause-made g c = λ items h w.
    let before = c.args.store.now in
    let seen : KeeperView = keeper_view g.K.Keeper.items g.K.Keeper.number g.K.Keeper.faults before in
    let v : Contents = the_view c.state.inside in
    let x = c.of-view.result in
    let i = c.of-view.ensures in
    let t = replayed-upon items h c.args.state.now v c.state.view_is w x.commits x.refs x.blobs c.replay_tagged.new.store i.commits i.refs i.blobs (g.S.Source.left c.args.input.now) (Ok c.in-Ok.given) c.in-Ok.ensures.stream in
    let m =
    no-memory items h t.0 t.1 c.args.force c.args.state.now w seen (g.K.Keeper.moment before) (g.K.Keeper.left_since before) (with_store v c.replay_tagged.new.store) c.in-Ok.given t.3
    in
    (t.0, t.2, m.0, m.1, m.2)

pub all_forward-requires-clause-ground : goal.all_forward-requires-clause-ground
all_forward-requires-clause-ground g c =
    let q = c.requires.state in
    let v : Contents = the_view c.state.inside in
    let x = c.of-view.result in
    let i = c.of-view.ensures in
    let t = replayed-upon q.0 q.1 c.args.state.now v c.state.view_is q.2 x.commits x.refs x.blobs c.replay_tagged.new.store i.commits i.refs i.blobs (g.S.Source.left c.args.input.now) (Ok c.in-Ok.given) c.in-Ok.ensures.stream in
    t.3.state.ground

pub all_forward-requires-clause-batch : goal.all_forward-requires-clause-batch
all_forward-requires-clause-batch g c =
    let q = c.requires.state in
    let v : Contents = the_view c.state.inside in
    let x = c.of-view.result in
    let i = c.of-view.ensures in
    let t = replayed-upon q.0 q.1 c.args.state.now v c.state.view_is q.2 x.commits x.refs x.blobs c.replay_tagged.new.store i.commits i.refs i.blobs (g.S.Source.left c.args.input.now) (Ok c.in-Ok.given) c.in-Ok.ensures.stream in
    is-batch q.0 q.1 t.0 t.1 c.args.force c.args.state.now q.2 (with_store v c.replay_tagged.new.store) c.in-Ok.given c.in-Ok-prepared.report c.in-Ok-prepared.batch t.3 c.in-Ok-prepared.ensures

pub returns-in_err-all_forward-clause-made : goal.returns-in_err-all_forward-clause-made
returns-in_err-all_forward-clause-made g c = λ items h w.
    let before = c.args.store.now in
    let seen : KeeperView = keeper_view g.K.Keeper.items g.K.Keeper.number g.K.Keeper.faults before in
    let v : Contents = the_view c.state.inside in
    let x = c.of-view.result in
    let i = c.of-view.ensures in
    let t = replayed-upon items h c.args.state.now v c.state.view_is w x.commits x.refs x.blobs c.replay_tagged.new.store i.commits i.refs i.blobs (g.S.Source.left c.args.input.now) (Ok c.in-Ok.given) c.in-Ok.ensures.stream in
    let e = c.in_err-all_forward.ensures in
    let s1 : Contents = c.all_forward.new.state in
    let u = subst (λ (v : Contents). IsReplayedUpon items h t.0 c.args.state.now v (Ok c.in-Ok.given)) (sym e.same) t.3 in
    let p = err_from_is_err_and c.from_residual.result c.from_residual.ensures.1 in
    let m =
    not-forward items h t.0 t.1 c.args.force c.args.state.now w s1 c.in-Ok.given c.in-Ok-prepared.report c.in-Ok-prepared.batch u c.in-Ok-prepared.ensures seen (g.K.Keeper.moment before)
    (g.K.Keeper.left_since before) c.in_err-all_forward.field-0.0 c.from_residual.result (p.1 ∙ ap Err p.2)
    (λ blobs cs k. e.forward h blobs cs (subst (λ (v : Contents). IsBatchOf h v c.in-Ok-prepared.batch blobs cs) e.same k)) (λ q. e.early.2 (ap Err q))
    in
    (t.0, t.2, m.0, m.1, m.2)

pub all_free-requires-clause-held : goal.all_free-requires-clause-held
all_free-requires-clause-held g c =
    let q = c.requires.state in
    let v : Contents = the_view c.state.inside in
    let x = c.of-view.result in
    let i = c.of-view.ensures in
    let t = replayed-upon q.0 q.1 c.args.state.now v c.state.view_is q.2 x.commits x.refs x.blobs c.replay_tagged.new.store i.commits i.refs i.blobs (g.S.Source.left c.args.input.now) (Ok c.in-Ok.given) c.in-Ok.ensures.stream in
    let u = subst (λ (v : Contents). IsReplayedUpon q.0 q.1 t.0 c.args.state.now v (Ok c.in-Ok.given)) (sym c.all_forward.ensures.same) t.3 in
    ap (rise None) u.state.spells.tags ∙ u.state.spells.rising

pub all_free-requires-clause-tags : goal.all_free-requires-clause-tags
all_free-requires-clause-tags g c = ap (rise None) c.deref.ensures.value ∙ c.in-Ok.ensures.tags

pub returns-in_err-all_free-clause-made : goal.returns-in_err-all_free-clause-made
returns-in_err-all_free-clause-made g c = λ items h w.
    let before = c.args.store.now in
    let seen : KeeperView = keeper_view g.K.Keeper.items g.K.Keeper.number g.K.Keeper.faults before in
    let v : Contents = the_view c.state.inside in
    let x = c.of-view.result in
    let i = c.of-view.ensures in
    let t = replayed-upon items h c.args.state.now v c.state.view_is w x.commits x.refs x.blobs c.replay_tagged.new.store i.commits i.refs i.blobs (g.S.Source.left c.args.input.now) (Ok c.in-Ok.given) c.in-Ok.ensures.stream in
    let same = c.all_forward.ensures.same in
    let s1 : Contents = c.all_forward.new.state in
    let u = subst (λ (v : Contents). IsReplayedUpon items h t.0 c.args.state.now v (Ok c.in-Ok.given)) (sym same) t.3 in
    let e = c.in_err-all_free.ensures in
    let d : Outcome = c.in_err-all_free.field-0.0 in
    let p = err_from_is_err_and c.from_residual-in_err-all_free.result c.from_residual-in_err-all_free.ensures.1 in
    let m =
    not-free items h t.0 t.1 c.args.force c.args.state.now w s1 c.in-Ok.given c.in-Ok-prepared.report c.in-Ok-prepared.batch u c.in-Ok-prepared.ensures
    (λ blobs cs k. c.in_ok-all_forward.ensures.forward h blobs cs (subst (λ (v : Contents). IsBatchOf h v c.in-Ok-prepared.batch blobs cs) same k)) seen (g.K.Keeper.moment before)
    (g.K.Keeper.left_since before) c.in_err-all_free.field-0.0 c.from_residual-in_err-all_free.result (p.1 ∙ ap Err p.2) (λ k y. subst (λ ts. (d ≡ outcomes.OutOfMemory) ⊎ (all_free c.args.force k.tags ts ≡ Err d)) c.deref.ensures.value (e.free k y)) (λ q. e.early.2 (ap Err q))
    in
    (t.0, t.2, m.0, m.1, m.2)

pub commit_tagged-requires-clause-ground : goal.commit_tagged-requires-clause-ground
commit_tagged-requires-clause-ground g c =
    let q = c.requires.state in
    let v : Contents = the_view c.state.inside in
    let x = c.of-view.result in
    let i = c.of-view.ensures in
    let t = replayed-upon q.0 q.1 c.args.state.now v c.state.view_is q.2 x.commits x.refs x.blobs c.replay_tagged.new.store i.commits i.refs i.blobs (g.S.Source.left c.args.input.now) (Ok c.in-Ok.given) c.in-Ok.ensures.stream in
    subst (λ (y : Contents). IsGround y.basis) (sym c.all_forward.ensures.same) t.3.state.ground

pub commit_tagged-requires-clause-batch : goal.commit_tagged-requires-clause-batch
commit_tagged-requires-clause-batch g c =
    let q = c.requires.state in
    let v : Contents = the_view c.state.inside in
    let x = c.of-view.result in
    let i = c.of-view.ensures in
    let t = replayed-upon q.0 q.1 c.args.state.now v c.state.view_is q.2 x.commits x.refs x.blobs c.replay_tagged.new.store i.commits i.refs i.blobs (g.S.Source.left c.args.input.now) (Ok c.in-Ok.given) c.in-Ok.ensures.stream in
    let u = subst (λ (v : Contents). IsReplayedUpon q.0 q.1 t.0 c.args.state.now v (Ok c.in-Ok.given)) (sym c.all_forward.ensures.same) t.3 in
    is-batch q.0 q.1 t.0 t.1 c.args.force c.args.state.now q.2 c.all_forward.new.state c.in-Ok.given c.in-Ok-prepared.report c.in-Ok-prepared.batch u c.in-Ok-prepared.ensures

pub commit_tagged-requires-clause-tags : goal.commit_tagged-requires-clause-tags
commit_tagged-requires-clause-tags g c =
    let q = c.requires.state in
    let v : Contents = the_view c.state.inside in
    let x = c.of-view.result in
    let i = c.of-view.ensures in
    let t = replayed-upon q.0 q.1 c.args.state.now v c.state.view_is q.2 x.commits x.refs x.blobs c.replay_tagged.new.store i.commits i.refs i.blobs (g.S.Source.left c.args.input.now) (Ok c.in-Ok.given) c.in-Ok.ensures.stream in
    let u = subst (λ (v : Contents). IsReplayedUpon q.0 q.1 t.0 c.args.state.now v (Ok c.in-Ok.given)) (sym c.all_forward.ensures.same) t.3 in
    are-tags q.0 q.1 t.0 t.1 c.args.force c.args.state.now q.2 c.all_forward.new.state c.in-Ok.given c.in-Ok-prepared.report c.in-Ok-prepared.batch u c.in-Ok-prepared.ensures c.replayed_tags_law.ensures

pub returns-in-Ok-commit_tagged-clause-made : goal.returns-in-Ok-commit_tagged-clause-made
returns-in-Ok-commit_tagged-clause-made g c = λ items h w.
    let now = c.commit_tagged.new.keeper in
    let before = c.args.store.now in
    let seen : KeeperView = keeper_view g.K.Keeper.items g.K.Keeper.number g.K.Keeper.faults before in
    let v : Contents = the_view c.state.inside in
    let x = c.of-view.result in
    let i = c.of-view.ensures in
    let t = replayed-upon items h c.args.state.now v c.state.view_is w x.commits x.refs x.blobs c.replay_tagged.new.store i.commits i.refs i.blobs (g.S.Source.left c.args.input.now) (Ok c.in-Ok.given) c.in-Ok.ensures.stream in
    let same = c.all_forward.ensures.same in
    let s1 : Contents = c.all_forward.new.state in
    let u = subst (λ (v : Contents). IsReplayedUpon items h t.0 c.args.state.now v (Ok c.in-Ok.given)) (sym same) t.3 in
    let e = c.in-Ok-commit_tagged.ensures in
    let m =
    commit-done items h t.0 t.1 c.args.force c.args.state.now w s1 c.in-Ok.given c.in-Ok-prepared.report c.in-Ok-prepared.batch u c.in-Ok-prepared.ensures
    (λ blobs cs k. c.in_ok-all_forward.ensures.forward h blobs cs (subst (λ (v : Contents). IsBatchOf h v c.in-Ok-prepared.batch blobs cs) same k)) c.replayed_tags_law.ensures
    (λ k y. ap (all_free c.args.force k.tags) (sym c.deref.ensures.value) ∙ c.in_ok-all_free.ensures.free k y) c.commit_tagged.new.self seen (keeper_view g.K.Keeper.items g.K.Keeper.number g.K.Keeper.faults now) (g.K.Keeper.moment before)
    (g.K.Keeper.moment now) (g.K.Keeper.left_since before) (g.K.Keeper.left_since now) (e.stops.0 h) tt (e.state h) (e.items h)
    in
    (t.0, t.2, m.0, m.1, m.2)

pub returns-in-Err-commit_tagged-clause-made : goal.returns-in-Err-commit_tagged-clause-made
returns-in-Err-commit_tagged-clause-made g c = λ items h w.
    let now = c.commit_tagged.new.keeper in
    let before = c.args.store.now in
    let seen : KeeperView = keeper_view g.K.Keeper.items g.K.Keeper.number g.K.Keeper.faults before in
    let v : Contents = the_view c.state.inside in
    let x = c.of-view.result in
    let i = c.of-view.ensures in
    let t = replayed-upon items h c.args.state.now v c.state.view_is w x.commits x.refs x.blobs c.replay_tagged.new.store i.commits i.refs i.blobs (g.S.Source.left c.args.input.now) (Ok c.in-Ok.given) c.in-Ok.ensures.stream in
    let same = c.all_forward.ensures.same in
    let s1 : Contents = c.all_forward.new.state in
    let u = subst (λ (v : Contents). IsReplayedUpon items h t.0 c.args.state.now v (Ok c.in-Ok.given)) (sym same) t.3 in
    let e = c.in-Err-commit_tagged.ensures in
    let m =
    commit-refused items h t.0 t.1 c.args.force c.args.state.now w s1 c.in-Ok.given c.in-Ok-prepared.report c.in-Ok-prepared.batch u c.in-Ok-prepared.ensures
    (λ blobs cs k. c.in_ok-all_forward.ensures.forward h blobs cs (subst (λ (v : Contents). IsBatchOf h v c.in-Ok-prepared.batch blobs cs) same k)) c.replayed_tags_law.ensures
    (λ k y. ap (all_free c.args.force k.tags) (sym c.deref.ensures.value) ∙ c.in_ok-all_free.ensures.free k y) c.commit_tagged.new.self seen (keeper_view g.K.Keeper.items g.K.Keeper.number g.K.Keeper.faults now) (g.K.Keeper.moment before)
    (g.K.Keeper.moment now) (g.K.Keeper.left_since before) (g.K.Keeper.left_since now) (e.stops.0 h) c.in-Err-commit_tagged.error c.commit_outcome.result c.commit_outcome.ensures (e.state h) e.store (e.items h)
    e.stops.1
    in
    (t.0, t.2, m.0, m.1, m.2)

pub returns-in-Err-clause-taken : goal.returns-in-Err-clause-taken
returns-in-Err-clause-taken g c = λ items h w.
    let v : Contents = the_view c.state.inside in
    let st = subst (IsStateOf items h) (sym c.state.view_is) w in
    let x = c.of-view.result in
    let i = c.of-view.ensures in
    state-takes h v st.spells st.ground x.commits x.refs x.blobs i.commits i.refs i.blobs (g.S.Source.left c.args.input.now) (g.S.Source.left c.replay_tagged.new.input) (Err c.in-Err.error) c.in-Err.ensures.taken

pub returns-in_default-clause-taken : goal.returns-in_default-clause-taken
returns-in_default-clause-taken g c = λ items h w.
    let v : Contents = the_view c.state.inside in
    let st = subst (IsStateOf items h) (sym c.state.view_is) w in
    let x = c.of-view.result in
    let i = c.of-view.ensures in
    state-takes h v st.spells st.ground x.commits x.refs x.blobs i.commits i.refs i.blobs (g.S.Source.left c.args.input.now) (g.S.Source.left c.replay_tagged.new.input) (Ok c.in-Ok.given) c.in-Ok.ensures.taken

pub returns-in_err-all_forward-clause-taken : goal.returns-in_err-all_forward-clause-taken
returns-in_err-all_forward-clause-taken g c = λ items h w.
    let v : Contents = the_view c.state.inside in
    let st = subst (IsStateOf items h) (sym c.state.view_is) w in
    let x = c.of-view.result in
    let i = c.of-view.ensures in
    state-takes h v st.spells st.ground x.commits x.refs x.blobs i.commits i.refs i.blobs (g.S.Source.left c.args.input.now) (g.S.Source.left c.replay_tagged.new.input) (Ok c.in-Ok.given) c.in-Ok.ensures.taken

pub returns-in_err-all_free-clause-taken : goal.returns-in_err-all_free-clause-taken
returns-in_err-all_free-clause-taken g c = λ items h w.
    let v : Contents = the_view c.state.inside in
    let st = subst (IsStateOf items h) (sym c.state.view_is) w in
    let x = c.of-view.result in
    let i = c.of-view.ensures in
    state-takes h v st.spells st.ground x.commits x.refs x.blobs i.commits i.refs i.blobs (g.S.Source.left c.args.input.now) (g.S.Source.left c.replay_tagged.new.input) (Ok c.in-Ok.given) c.in-Ok.ensures.taken

pub returns-in-Ok-commit_tagged-clause-taken : goal.returns-in-Ok-commit_tagged-clause-taken
returns-in-Ok-commit_tagged-clause-taken g c = λ items h w.
    let v : Contents = the_view c.state.inside in
    let st = subst (IsStateOf items h) (sym c.state.view_is) w in
    let x = c.of-view.result in
    let i = c.of-view.ensures in
    state-takes h v st.spells st.ground x.commits x.refs x.blobs i.commits i.refs i.blobs (g.S.Source.left c.args.input.now) (g.S.Source.left c.replay_tagged.new.input) (Ok c.in-Ok.given) c.in-Ok.ensures.taken

pub returns-in-Err-commit_tagged-clause-taken : goal.returns-in-Err-commit_tagged-clause-taken
returns-in-Err-commit_tagged-clause-taken g c = λ items h w.
    let v : Contents = the_view c.state.inside in
    let st = subst (IsStateOf items h) (sym c.state.view_is) w in
    let x = c.of-view.result in
    let i = c.of-view.ensures in
    state-takes h v st.spells st.ground x.commits x.refs x.blobs i.commits i.refs i.blobs (g.S.Source.left c.args.input.now) (g.S.Source.left c.replay_tagged.new.input) (Ok c.in-Ok.given) c.in-Ok.ensures.taken
