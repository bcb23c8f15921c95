-- Proves what src/performing.rt needs of `perform`.
use Rattle.std.proofs.Common.{List, Ok, refl}
use Rattle.git_objects.specs.Paths.{Bytes}
use Rattle.proj_io.specs.Views.{keeper_view}
use Rattle.proj_words.specs.Words.{Command}
use Rattle.state_items.specs.Items.{Held}
use Rattle.proj_commands.specs.Intake.{waited_by}
use Rattle.proj_commands.specs.Steps.{case}
use Rattle.proj_commands.proofs.CommandsMade.{refused-command}
use Rattle.proj_commands.proofs.Forming.{used-not}
use Rattle.proj_commands.proofs.Grants.{unpermitted-own, unpermitted-refusal}
use Rattle.proj_commands.proofs.Intaking.{takes-none}
use Rattle.proj_commands.proofs.Refusing.{own-before, own-counts, own-read}
use Rattle.proj_commands.proofs.performing.perform.Goals as goal
use Rattle.proj_commands.proofs.InputsRead.{for-any}
use Rattle.fast_import.proofs.Stopping.{within_none}

pub returns-in-Err-clause-made : goal.returns-in-Err-clause-made
returns-in-Err-clause-made g c = λ (asked : Command) (items : List Bytes) (h : Held) w st.
    let seen = keeper_view g.K.Keeper.items g.K.Keeper.number g.K.Keeper.faults c.args.store.now in
    let j = c.args.judged.now in
    let e = c.in-Err.outcome in
    let why = c.in-Err.ensures items h st in
    for-any (g.S.Source.left c.args.input.now) _
    (λ all. refused-command items h c.args.state.now st asked all e (unpermitted-own h j e why) (λ H room. unpermitted-refusal H room asked j w h all e why) seen _ _)

pub returns-in-Err-clause-taken : goal.returns-in-Err-clause-taken
returns-in-Err-clause-taken g c = λ (asked : Command) (items : List Bytes) (h : Held) w st. takes-none (waited_by (case asked (Ok h))) (g.S.Source.left c.args.input.now)

pub returns-in-Err-clause-early : goal.returns-in-Err-clause-early
returns-in-Err-clause-early g c =
    let q = c.requires.state in
    (own-before c.in-Err.outcome (unpermitted-own q.1 c.args.judged.now c.in-Err.outcome (c.in-Err.ensures q.0 q.1 q.2))).0

pub returns-in-Err-clause-read : goal.returns-in-Err-clause-read
returns-in-Err-clause-read g c =
    let q = c.requires.state in
    own-read _ c.in-Err.outcome (unpermitted-own q.1 c.args.judged.now c.in-Err.outcome (c.in-Err.ensures q.0 q.1 q.2))

pub returns-in-Err-clause-unread : goal.returns-in-Err-clause-unread
returns-in-Err-clause-unread g c = λ (asked : Command) w no.
    let q = c.requires.state in
    (refl, (own-before c.in-Err.outcome (unpermitted-own q.1 c.args.judged.now c.in-Err.outcome (c.in-Err.ensures q.0 q.1 q.2))).1)

pub returns-in-Err-clause-used : goal.returns-in-Err-clause-used
returns-in-Err-clause-used g c =
    let q = c.requires.state in
    used-not _ _ _ _ c.requires.open.0 (own-counts _ c.in-Err.outcome (unpermitted-own q.1 c.args.judged.now c.in-Err.outcome (c.in-Err.ensures q.0 q.1 q.2)))

-- ---- how much is taken

pub returns-in-Err-clause-within : goal.returns-in-Err-clause-within
returns-in-Err-clause-within g c = within_none (g.S.Source.left c.args.input.now)
