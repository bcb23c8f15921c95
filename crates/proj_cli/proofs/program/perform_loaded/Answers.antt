-- Proves what src/program.rt needs of `perform_loaded`.
use Rattle.std.proofs.Common.{List, Result, Ok, Err, IsErr, ap, sym, subst}
use Rattle.git_objects.specs.Paths.{Bytes}
use Rattle.git_objects.specs.Results.{refused_by}
use Rattle.proj_io.specs.Stops.{OnlyAdds}
use Rattle.proj_io.specs.Views.{source_view, keeper_view}
use Rattle.repo_ground.specs.Changes.{KeepsItems}
use Rattle.proj_words.specs.Words.{Command}
use Rattle.proj_words.specs.declared.outcome.Outcome.{Outcome}
use Rattle.repo_ground.specs.Contents.{room_in}
use Rattle.state_items.specs.Items.{Held}
use Rattle.proj_commands.specs.Cases.{break_outcome, loaded}
use Rattle.proj_commands.specs.Steps.{case}
use Rattle.proj_commands.specs.Forms.{IsForm}
use Rattle.proj_commands.specs.Intake.{TakesUpTo, waited_by}
use Rattle.proj_commands.specs.Makes.{IsAtHand, IsCommandMade}
use Rattle.proj_commands.proofs.CommandsMade.{unwritten-kept}
use Rattle.proj_commands.proofs.Forming.{command-form, keeps-on, loaded-state, used-on}
use Rattle.proj_commands.proofs.Intaking.{takes-none}
use Rattle.proj_commands.proofs.JudgedCases.{case-unloaded, loaded-holds, state-of}
use Rattle.proj_cli.proofs.Lengthening.{for-later}
use Rattle.proj_cli.proofs.Making.{unloaded-made, whole-made}
use Rattle.proj_commands.proofs.Refusing.{load-refused, none-read, of-counts, refused-form}
use Rattle.proj_commands.proofs.Verdicts.{reported-judged}
use Rattle.proj_cli.proofs.program.perform_loaded.Goals as goal
use Rattle.fast_import.proofs.Stopping.{within_none}

pub returns-in-Err-clause-made : goal.returns-in-Err-clause-made
returns-in-Err-clause-made g c = λ (asked : Command) w may.
    let kept = keeper_view g.K.Keeper.items g.K.Keeper.number g.K.Keeper.faults in
    let at = g.K.Keeper.moment in
    let since = g.K.Keeper.left_since in
    let then = c.args.store.now in
    let now = c.load.new.store in
    let does = c.in-Err.ensures in
    let e = c.in-Err.outcome in
    unloaded-made (source_view g.S.Source.left g.S.Source.faults c.args.input.now) (kept then) (kept now) (at then) (at now) (since then) (since now) asked may (does.kept.number, does.kept.items) e
    (none-read e does.early) (λ is. does.early.0 (ap Err is)) (of-counts _ _ e does.cause) does.other
    (λ (items : List Bytes) told all. refused-form asked items all e (kept then) (kept now) (at then) (at now) (since then) (since now)
    (load-refused asked items all e (λ x. case-unloaded asked c.args.judged.now w may x all) (does.err items told)) (does.kept.number, does.kept.items) does.kept.stops)

pub perform-requires-clause-state : goal.perform-requires-clause-state
perform-requires-clause-state g c = state-of _ _ c.in-Ok.state c.in-Ok.ensures.ok

pub returns-in-Ok-clause-caseless : goal.returns-in-Ok-clause-caseless
returns-in-Ok-clause-caseless g c = λ (asked : Command) (items : List Bytes) w told none.
    let kept = keeper_view g.K.Keeper.items g.K.Keeper.number g.K.Keeper.faults in
    let was = c.in-Ok.ensures in
    let s = c.in-Ok.state in
    let there = loaded-state items (kept c.args.store.now) (kept c.load.new.store) (g.K.Keeper.number c.args.store.now) s told (was.kept.number, was.kept.items) was.ok in
    c.perform.ensures.caseless asked items was.ok.held w there
    (λ all. subst (λ (l : Result Held Outcome). IsErr (case asked l all)) (ap (refused_by break_outcome) there.current.read) (none all))

pub returns-in-Err-clause-taken : goal.returns-in-Err-clause-taken
returns-in-Err-clause-taken g c = λ (asked : Command) (items : List Bytes) w told. takes-none (waited_by (case asked (loaded items))) (g.S.Source.left c.args.input.now)

pub returns-in-Ok-clause-taken : goal.returns-in-Ok-clause-taken
returns-in-Ok-clause-taken g c = λ (asked : Command) (items : List Bytes) w told.
    let kept = keeper_view g.K.Keeper.items g.K.Keeper.number g.K.Keeper.faults in
    let was = c.in-Ok.ensures in
    let s = c.in-Ok.state in
    let there = loaded-state items (kept c.args.store.now) (kept c.load.new.store) (g.K.Keeper.number c.args.store.now) s told (was.kept.number, was.kept.items) was.ok in
    subst (λ (l : Result Held Outcome). TakesUpTo (waited_by (case asked l)) (g.S.Source.left c.args.input.now) (g.S.Source.left c.perform.new.input)) (sym (ap (refused_by break_outcome) there.current.read))
    (c.perform.ensures.taken asked items was.ok.held w there)

pub returns-in-Ok-clause-made : goal.returns-in-Ok-clause-made
returns-in-Ok-clause-made g c = λ (asked : Command) w may.
    let read = source_view g.S.Source.left g.S.Source.faults in
    let kept = keeper_view g.K.Keeper.items g.K.Keeper.number g.K.Keeper.faults in
    let at = g.K.Keeper.moment in
    let since = g.K.Keeper.left_since in
    let then = c.args.store.now in
    let mid = c.load.new.store in
    let now = c.perform.new.store in
    let was = c.in-Ok.ensures in
    let does = c.perform.ensures in
    let s = c.in-Ok.state in
    let used = used-on _ _ _ _ _ _ _ _ _ _ _ _ was.kept was.cause does.used in
    whole-made (read c.args.input.now) (read c.perform.new.input) (kept then) (kept now) (at then) (at now) (since then) (since now) c.perform.result asked may
    (λ none.
    let st = was.ok in let m = does.made asked st.items st.held w (record { current = st.current; spells = st.spells; ground = st.ground }) in
    keeps-on (kept then) (kept mid) (kept now) (was.kept.number, was.kept.items)
    (unwritten-kept asked m.all st.items st.held s c.perform.new.state (kept mid) (kept now) m.says.plan (ap (refused_by break_outcome) st.current.read) c.perform.result m.says.made none))
    does.read
    (λ no. (does.unread asked w no).1) used.cause does.early
    (λ items told. returns-in-Ok-clause-taken g c asked items w told) (λ items told none. ap read (returns-in-Ok-clause-caseless g c asked items w told none))
    (let st = was.ok in let m = does.made asked st.items st.held w (record { current = st.current; spells = st.spells; ground = st.ground }) in
    reported-judged asked (IsAtHand s.basis.store (case asked (Ok st.held) m.all)) (room_in s) (Ok st.held) m.all c.perform.result tt m.says.made.reported)
    (λ (items : List Bytes) told.
    let same : KeepsItems (kept then) (kept mid) = (was.kept.number, was.kept.items) in
    for-later (g.S.Source.left c.args.input.now)
    (λ all. IsCommandMade asked all items was.ok.held s c.perform.new.state (kept mid) (kept now) (OnlyAdds (at mid) (at now) (since mid) (since now)) c.perform.result)
    (λ all. IsForm asked items all (kept then) (kept now) (OnlyAdds (at then) (at now) (since then) (since now)) c.perform.result)
    (λ all m. command-form items (kept then) (kept mid) (g.K.Keeper.number then) s told same was.ok asked all (loaded-holds asked was.ok.held all may) c.perform.new.state (kept now) c.perform.result
    (at then) (at mid) (at now) (since then) (since mid) (since now) was.kept.stops m)
    (does.made asked items was.ok.held w (loaded-state items (kept then) (kept mid) (g.K.Keeper.number then) s told same was.ok)))

pub returns-in-Ok-clause-unread : goal.returns-in-Ok-clause-unread
returns-in-Ok-clause-unread g c = λ (asked : Command) w no. (c.perform.ensures.unread asked w no).0

pub returns-in-Ok-clause-is_open : goal.returns-in-Ok-clause-is_open
returns-in-Ok-clause-is_open g c = c.perform.ensures.used.is_open

-- ---- how much is taken

pub returns-in-Err-clause-within : goal.returns-in-Err-clause-within
returns-in-Err-clause-within g c = within_none (g.S.Source.left c.args.input.now)
