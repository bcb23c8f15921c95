-- Proves what src/performing.rt needs of `perform_permitted`.
use Rattle.std.proofs.Common.{◌∙◌, List, Ok, ap, refl, subst, sym}
use Rattle.filter_text.specs.Shapes.{shape}
use Rattle.git_objects.specs.Paths.{Bytes}
use Rattle.fast_import.specs.Replays.{empty_base}
use Rattle.fast_import.proofs.Stopping.{within_none}
use Rattle.proj_io.specs.Views.{keeper_view}
use Rattle.repo_ground.proofs.Stopping.{adds_none}
use Rattle.repo_ground.specs.Changes.{IsStopOf}
use Rattle.proj_words.specs.Words.{Command}
use Rattle.state_items.specs.Changes.{NoPlan}
use Rattle.state_items.specs.Items.{Held}
use Rattle.proj_commands.specs.Cases.{NameCase, VerifyCase}
use Rattle.proj_commands.specs.Steps.{case}
use Rattle.proj_commands.specs.Intake.{waited_by}
use Rattle.proj_commands.specs.Judging.{IsJudged, permission}
use Rattle.proj_commands.specs.Push.{push_case}
use Rattle.proj_commands.specs.declared.lines.Telling.TheVariants.{Both, PushedAlone}
use Rattle.proj_commands.specs.declared.judging.Judged.TheVariants as judged
use Rattle.proj_commands.proofs.AloneForms.{claim-alone, name-alone}
use Rattle.proj_commands.proofs.CommandsMade.{alone-command, performed}
use Rattle.proj_commands.proofs.Grants.{let-made}
use Rattle.proj_commands.proofs.Headless.{head-held, no-claim, no-head, no-import, no-merge-head, no-name, no-user-head}
use Rattle.proj_commands.proofs.Intaking.{push-takes, takes-by, takes-let, takes-none}
use Rattle.proj_commands.proofs.JudgedCases.{case-upon}
use Rattle.proj_commands.proofs.performing.perform_permitted.Goals as goal
use Rattle.proj_commands.specs.Import.{tagged_ran}
use Rattle.proj_commands.specs.declared.pushing.Manner.TheVariants.{InLine, Merging}
use Rattle.proj_commands.proofs.InputsRead.{for-any}

pub returns-in-Import-clause-made : goal.returns-in-Import-clause-made
returns-in-Import-clause-made g c = λ (asked : Command) (items : List Bytes) (h : Held) w st.
    let m = c.import.ensures.made items h st in
    record { all = m.0; told = m.1; says = performed asked (judged.Import _) (subst (IsJudged asked) c.in-Import.is w) refl m.0 items h _ _ _ _ _ _ _ _ _ m.2 m.3 m.4 }

pub returns-in-Push-clause-made : goal.returns-in-Push-clause-made
returns-in-Push-clause-made g c = λ (asked : Command) (items : List Bytes) (h : Held) w st.
    let m = c.push.ensures.made items h st in
    record { all = m.0; told = m.1; says = performed asked (judged.Push _) (subst (IsJudged asked) c.in-Push.is w) refl m.0 items h _ _ _ _ _ _ _ _ _ m.2 m.3 m.4 }

pub returns-in-PushMerges-clause-made : goal.returns-in-PushMerges-clause-made
returns-in-PushMerges-clause-made g c = λ (asked : Command) (items : List Bytes) (h : Held) w st.
    let m = c.push-in-PushMerges.ensures.made items h st in
    record { all = m.0; told = m.1; says = performed asked (judged.PushMerges _) (subst (IsJudged asked) c.in-PushMerges.is w) refl m.0 items h _ _ _ _ _ _ _ _ _ m.2 m.3 m.4 }

pub returns-in-Project-clause-made : goal.returns-in-Project-clause-made
returns-in-Project-clause-made g c = λ (asked : Command) (items : List Bytes) (h : Held) w st.
    let m = c.project_upon.ensures.made items h st in
    for-any (g.S.Source.left c.args.input.now) _ (λ all. performed asked (judged.Project _) (subst (IsJudged asked) c.in-Project.is w) refl all items h _ _ _ _ _ _ _ _ _ m.0 m.1 m.2)

pub returns-in-Rule-clause-made : goal.returns-in-Rule-clause-made
returns-in-Rule-clause-made g c = λ (asked : Command) (items : List Bytes) (h : Held) w st.
    let m = c.set_rule.ensures.made items h st in
    for-any (g.S.Source.left c.args.input.now) _ (λ all. performed asked (judged.Rule _) (subst (IsJudged asked) c.in-Rule.is w) refl all items h _ _ _ _ _ _ _ _ _ m.0 m.1 m.2)

pub returns-in-Export-clause-made : goal.returns-in-Export-clause-made
returns-in-Export-clause-made g c = λ (asked : Command) (items : List Bytes) (h : Held) w st.
    let seen = keeper_view g.K.Keeper.items g.K.Keeper.number g.K.Keeper.faults c.args.store.now in
    for-any (g.S.Source.left c.args.input.now) _
    (λ all. performed asked (judged.Export _) (subst (IsJudged asked) c.in-Export.is w) refl all items h _ _ _ _ _ _ _ _ _ NoPlan (c.exported.ensures.made items h seen st) (adds_none _ _ (IsStopOf h c.args.state.now NoPlan seen.items)))

pub returns-in-ExportTags-clause-made : goal.returns-in-ExportTags-clause-made
returns-in-ExportTags-clause-made g c = λ (asked : Command) (items : List Bytes) (h : Held) w st.
    let seen = keeper_view g.K.Keeper.items g.K.Keeper.number g.K.Keeper.faults c.args.store.now in
    for-any (g.S.Source.left c.args.input.now) _
    (λ all. performed asked (judged.ExportTags _) (subst (IsJudged asked) c.in-ExportTags.is w) refl all items h _ _ _ _ _ _ _ _ _ NoPlan (c.exported-in-ExportTags.ensures.made items h seen st) (adds_none _ _ (IsStopOf h c.args.state.now NoPlan seen.items)))

pub returns-in-Ask-clause-made : goal.returns-in-Ask-clause-made
returns-in-Ask-clause-made g c = λ (asked : Command) (items : List Bytes) (h : Held) w st.
    let seen = keeper_view g.K.Keeper.items g.K.Keeper.number g.K.Keeper.faults c.args.store.now in
    for-any (g.S.Source.left c.args.input.now) _
    (λ all. performed asked (judged.Ask _) (subst (IsJudged asked) c.in-Ask.is w) refl all items h _ _ _ _ _ _ _ _ _ NoPlan (c.query_upon.ensures.made items h seen st) (adds_none _ _ (IsStopOf h c.args.state.now NoPlan seen.items)))

pub returns-in-Name-clause-made : goal.returns-in-Name-clause-made
returns-in-Name-clause-made g c = λ (asked : Command) (items : List Bytes) (h : Held) w st.
    let seen = keeper_view g.K.Keeper.items g.K.Keeper.number g.K.Keeper.faults c.args.store.now in
    let m = c.name.ensures.made in
    let s = c.in-Name.subject in
    record {
      all = m.0;
      told = m.1;
      says =
          alone-command (NameCase (shape s.filter) s.refname (tagged_ran empty_base m.0)) (name-alone (shape s.filter) s.refname (tagged_ran empty_base m.0)) m.0 items h c.args.state.now st seen
          asked (case-upon asked (judged.Name s) (subst (IsJudged asked) c.in-Name.is w) h m.0) _ _ c.name.result c.name.ensures.early.1 m.2;
    }

pub returns-in-Verify-clause-made : goal.returns-in-Verify-clause-made
returns-in-Verify-clause-made g c = λ (asked : Command) (items : List Bytes) (h : Held) w st.
    let seen = keeper_view g.K.Keeper.items g.K.Keeper.number g.K.Keeper.faults c.args.store.now in
    let m = c.verify_text.ensures.made in
    let x = c.in-Verify.claim in
    record {
      all = m.0;
      told = m.1;
      says =
          alone-command (VerifyCase (shape x.filter) x.commit.0 x.path m.0) (claim-alone (shape x.filter) x.commit.0 x.path m.0 (c.verify_text.ensures.lawful m.0)) m.0 items h c.args.state.now st seen
          asked (case-upon asked (judged.Verify x) (subst (IsJudged asked) c.in-Verify.is w) h m.0) _ _ c.verify_text.result c.verify_text.ensures.early.1 m.2;
    }

-- ---- commands of users

pub returns-in-AsProject-clause-made : goal.returns-in-AsProject-clause-made
returns-in-AsProject-clause-made g c = λ (asked : Command) (items : List Bytes) (h : Held) w st.
    let m = c.project_upon-in-AsProject.ensures.made items h st in
    let may = ap (permission h) (sym c.in-AsProject.is) ∙ c.requires.permitted items h st in
    for-any (g.S.Source.left c.args.input.now) _
    (λ all. performed asked (judged.AsProject _ _) (subst (IsJudged asked) c.in-AsProject.is w) refl all items h _ _ _ _ _ _ _ _ _ m.0 (let-made _ _ may items h _ _ _ _ m.0 _ m.1) m.2)

pub returns-in-AsPush-clause-made : goal.returns-in-AsPush-clause-made
returns-in-AsPush-clause-made g c = λ (asked : Command) (items : List Bytes) (h : Held) w st.
    let m = c.push-in-AsPush.ensures.made items h st in
    let may = ap (permission h) (sym c.in-AsPush.is) ∙ c.requires.permitted items h st in
    record {
      all = m.0;
      told = m.1;
      says = performed asked (judged.AsPush _ _) (subst (IsJudged asked) c.in-AsPush.is w) refl m.0 items h _ _ _ _ _ _ _ _ _ m.2 (let-made _ _ may items h _ _ _ _ m.2 _ m.3) m.4;
    }

pub returns-in-AsExport-clause-made : goal.returns-in-AsExport-clause-made
returns-in-AsExport-clause-made g c = λ (asked : Command) (items : List Bytes) (h : Held) w st.
    let seen = keeper_view g.K.Keeper.items g.K.Keeper.number g.K.Keeper.faults c.args.store.now in
    let may = ap (permission h) (sym c.in-AsExport.is) ∙ c.requires.permitted items h st in
    let m = c.exported-in-AsExport.ensures.made items h seen st in
    for-any (g.S.Source.left c.args.input.now) _
    (λ all. performed asked (judged.AsExport _ _) (subst (IsJudged asked) c.in-AsExport.is w) refl all items h _ _ _ _ _ _ _ _ _ NoPlan (let-made _ _ may items h _ _ _ _ NoPlan _ m)
    (adds_none _ _ (IsStopOf h c.args.state.now NoPlan seen.items)))

-- ---- nothing is read where no case comes up

pub returns-in-Import-clause-caseless : goal.returns-in-Import-clause-caseless
returns-in-Import-clause-caseless g c = λ (asked : Command) (items : List Bytes) (h : Held) w st none.
    absurd (no-import asked _ (subst (IsJudged asked) c.in-Import.is w) h none)

pub returns-in-Push-clause-caseless : goal.returns-in-Push-clause-caseless
returns-in-Push-clause-caseless g c = λ (asked : Command) (items : List Bytes) (h : Held) w st none.
    let s = c.in-Push.subject in
    c.push.ensures.headless (head-held h c.args.state.now st.spells s.refname ∙ no-head asked s (subst (IsJudged asked) c.in-Push.is w) h none)

pub returns-in-PushMerges-clause-caseless : goal.returns-in-PushMerges-clause-caseless
returns-in-PushMerges-clause-caseless g c = λ (asked : Command) (items : List Bytes) (h : Held) w st none.
    let s = c.in-PushMerges.subject in
    c.push-in-PushMerges.ensures.headless (head-held h c.args.state.now st.spells s.refname ∙ no-merge-head asked s (subst (IsJudged asked) c.in-PushMerges.is w) h none)

pub returns-in-AsPush-clause-caseless : goal.returns-in-AsPush-clause-caseless
returns-in-AsPush-clause-caseless g c = λ (asked : Command) (items : List Bytes) (h : Held) w st none.
    let s = c.in-AsPush.subject in
    let may = ap (permission h) (sym c.in-AsPush.is) ∙ c.requires.permitted items h st in
    c.push-in-AsPush.ensures.headless (head-held h c.args.state.now st.spells s.refname ∙ no-user-head asked _ s (subst (IsJudged asked) c.in-AsPush.is w) h may none)

pub returns-in-Name-clause-caseless : goal.returns-in-Name-clause-caseless
returns-in-Name-clause-caseless g c = λ (asked : Command) (items : List Bytes) (h : Held) w st none.
    absurd (no-name asked _ (subst (IsJudged asked) c.in-Name.is w) h none)

pub returns-in-Verify-clause-caseless : goal.returns-in-Verify-clause-caseless
returns-in-Verify-clause-caseless g c = λ (asked : Command) (items : List Bytes) (h : Held) w st none.
    absurd (no-claim asked _ (subst (IsJudged asked) c.in-Verify.is w) h none)

-- ---- how much is read

pub returns-in-Import-clause-taken : goal.returns-in-Import-clause-taken
returns-in-Import-clause-taken g c = λ (asked : Command) (items : List Bytes) (h : Held) w st.
    takes-by asked (judged.Import _) (subst (IsJudged asked) c.in-Import.is w) h _ _ (c.import.ensures.taken items h st)

pub returns-in-Push-clause-taken : goal.returns-in-Push-clause-taken
returns-in-Push-clause-taken g c = λ (asked : Command) (items : List Bytes) (h : Held) w st.
    let s = c.in-Push.subject in
    takes-by asked (judged.Push s) (subst (IsJudged asked) c.in-Push.is w) h _ _
    (push-takes InLine Both h (shape s.filter) s.refname (g.S.Source.left c.args.input.now) (g.S.Source.left c.push.new.input) (λ n at. c.push.ensures.taken items h n st at)
    (λ none. ap g.S.Source.left (c.push.ensures.headless (head-held h c.args.state.now st.spells s.refname ∙ none))))

pub returns-in-PushMerges-clause-taken : goal.returns-in-PushMerges-clause-taken
returns-in-PushMerges-clause-taken g c = λ (asked : Command) (items : List Bytes) (h : Held) w st.
    let s = c.in-PushMerges.subject in
    takes-by asked (judged.PushMerges s) (subst (IsJudged asked) c.in-PushMerges.is w) h _ _
    (push-takes Merging Both h (shape s.filter) s.refname (g.S.Source.left c.args.input.now) (g.S.Source.left c.push-in-PushMerges.new.input) (λ n at. c.push-in-PushMerges.ensures.taken items h n st at)
    (λ none. ap g.S.Source.left (c.push-in-PushMerges.ensures.headless (head-held h c.args.state.now st.spells s.refname ∙ none))))

pub returns-in-AsPush-clause-taken : goal.returns-in-AsPush-clause-taken
returns-in-AsPush-clause-taken g c = λ (asked : Command) (items : List Bytes) (h : Held) w st.
    let s = c.in-AsPush.subject in
    let may = ap (permission h) (sym c.in-AsPush.is) ∙ c.requires.permitted items h st in
    takes-by asked (judged.AsPush _ s) (subst (IsJudged asked) c.in-AsPush.is w) h _ _
    (takes-let _ (push_case InLine PushedAlone h (shape s.filter) s.refname) may _ _
    (push-takes InLine PushedAlone h (shape s.filter) s.refname (g.S.Source.left c.args.input.now) (g.S.Source.left c.push-in-AsPush.new.input) (λ n at. c.push-in-AsPush.ensures.taken items h n st at)
    (λ none. ap g.S.Source.left (c.push-in-AsPush.ensures.headless (head-held h c.args.state.now st.spells s.refname ∙ none)))))

pub returns-in-AsProject-clause-taken : goal.returns-in-AsProject-clause-taken
returns-in-AsProject-clause-taken g c = λ (asked : Command) (items : List Bytes) (h : Held) w st. takes-none (waited_by (case asked (Ok h))) (g.S.Source.left c.args.input.now)

pub returns-in-AsExport-clause-taken : goal.returns-in-AsExport-clause-taken
returns-in-AsExport-clause-taken g c = λ (asked : Command) (items : List Bytes) (h : Held) w st. takes-none (waited_by (case asked (Ok h))) (g.S.Source.left c.args.input.now)

pub returns-in-Name-clause-taken : goal.returns-in-Name-clause-taken
returns-in-Name-clause-taken g c = λ (asked : Command) (items : List Bytes) (h : Held) w st.
    takes-by asked (judged.Name _) (subst (IsJudged asked) c.in-Name.is w) h _ _ c.name.ensures.taken

pub returns-in-Project-clause-taken : goal.returns-in-Project-clause-taken
returns-in-Project-clause-taken g c = λ (asked : Command) (items : List Bytes) (h : Held) w st. takes-none (waited_by (case asked (Ok h))) (g.S.Source.left c.args.input.now)

pub returns-in-Export-clause-taken : goal.returns-in-Export-clause-taken
returns-in-Export-clause-taken g c = λ (asked : Command) (items : List Bytes) (h : Held) w st. takes-none (waited_by (case asked (Ok h))) (g.S.Source.left c.args.input.now)

pub returns-in-ExportTags-clause-taken : goal.returns-in-ExportTags-clause-taken
returns-in-ExportTags-clause-taken g c = λ (asked : Command) (items : List Bytes) (h : Held) w st. takes-none (waited_by (case asked (Ok h))) (g.S.Source.left c.args.input.now)

pub returns-in-Rule-clause-taken : goal.returns-in-Rule-clause-taken
returns-in-Rule-clause-taken g c = λ (asked : Command) (items : List Bytes) (h : Held) w st. takes-none (waited_by (case asked (Ok h))) (g.S.Source.left c.args.input.now)

pub returns-in-Ask-clause-taken : goal.returns-in-Ask-clause-taken
returns-in-Ask-clause-taken g c = λ (asked : Command) (items : List Bytes) (h : Held) w st. takes-none (waited_by (case asked (Ok h))) (g.S.Source.left c.args.input.now)

pub returns-in-Verify-clause-taken : goal.returns-in-Verify-clause-taken
returns-in-Verify-clause-taken g c = λ (asked : Command) (items : List Bytes) (h : Held) w st.
    takes-by asked (judged.Verify _) (subst (IsJudged asked) c.in-Verify.is w) h _ _ c.verify_text.ensures.taken

-- ---- how much is taken

pub returns-in-Project-clause-within : goal.returns-in-Project-clause-within
returns-in-Project-clause-within g c = within_none (g.S.Source.left c.args.input.now)

pub returns-in-Export-clause-within : goal.returns-in-Export-clause-within
returns-in-Export-clause-within g c = within_none (g.S.Source.left c.args.input.now)

pub returns-in-ExportTags-clause-within : goal.returns-in-ExportTags-clause-within
returns-in-ExportTags-clause-within g c = within_none (g.S.Source.left c.args.input.now)

pub returns-in-Rule-clause-within : goal.returns-in-Rule-clause-within
returns-in-Rule-clause-within g c = within_none (g.S.Source.left c.args.input.now)

pub returns-in-Ask-clause-within : goal.returns-in-Ask-clause-within
returns-in-Ask-clause-within g c = within_none (g.S.Source.left c.args.input.now)

pub returns-in-AsProject-clause-within : goal.returns-in-AsProject-clause-within
returns-in-AsProject-clause-within g c = within_none (g.S.Source.left c.args.input.now)

pub returns-in-AsExport-clause-within : goal.returns-in-AsExport-clause-within
returns-in-AsExport-clause-within g c = within_none (g.S.Source.left c.args.input.now)
