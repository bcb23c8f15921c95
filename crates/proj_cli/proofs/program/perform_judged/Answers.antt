-- Proves what src/program.rt needs of `perform_judged`.
use Rattle.std.proofs.Common.{◌≡◌, ◌≢◌, true, false, List, Result, Ok, Err, refl, sym, ap, subst, ◌∙◌, rules, true≢false}
use Rattle.git_objects.specs.Paths.{Bytes}
use Rattle.filter_text.specs.Shapes.{shape}
use Rattle.fast_import.specs.Replays.{empty_base}
use Rattle.fast_import.proofs.Stopping.{within_none}
use Rattle.proj_io.specs.Stops.{OnlyAdds}
use Rattle.proj_io.specs.Views.{source_view, sink_view, keeper_view}
use Rattle.repo_ground.proofs.Stopping.{adds_none}
use Rattle.proj_words.specs.Words.{Command, As, Export, ExportTags, Name, loads, reads}
use Rattle.proj_words.specs.declared.outcome.Outcome.{Outcome}
use Rattle.proj_words.specs.declared.outcome.Outcome.TheVariants.{StoreFault}
use Rattle.proj_cli.specs.Calls.{devices}
use Rattle.proj_commands.specs.Cases.{Case, NameCase, VerifyCase, loaded}
use Rattle.proj_commands.specs.Steps.{case}
use Rattle.proj_commands.specs.Forms.{IsExport, IsMade, exported_case, user_exported_case}
use Rattle.proj_commands.specs.Judging.{IsClaimed, IsJudged, IsOf}
use Rattle.proj_cli.specs.Runs.{IsAnswer, MayLeave}
use Rattle.proj_cli.specs.Sent.{IsConcluded}
use Rattle.proj_commands.proofs.AloneForms.{claim-alone, name-alone}
use Rattle.proj_cli.proofs.Delivering.{after, before}
use Rattle.proj_cli.proofs.Dispatching.{judged-one, one-adds, one-answer}
use Rattle.proj_cli.proofs.ExportAnswers.{export-answer, export-case, tagged-export-case, user-export-case}
use Rattle.proj_commands.proofs.Forming.{adds-nothing}
use Rattle.proj_cli.proofs.Fronts.{form-grows, grows-self, grows-still}
use Rattle.proj_cli.proofs.Joining.{concluded}
use Rattle.proj_commands.proofs.JudgedCases.{claim-case, is_stored, judged-loads, read-filter}
use Rattle.proj_cli.proofs.Lengthening.{form-adds}
use Rattle.proj_cli.proofs.Making.{alone-form}
use Rattle.proj_commands.proofs.Verdicts.{apart-judged}
use Rattle.proj_cli.proofs.program.perform_judged.Goals as goal
use Rattle.proj_commands.specs.Import.{tagged_ran}
use Rattle.proj_commands.proofs.InputsRead.{for-any}

pub returns-in-Export-clause-fronts : goal.returns-in-Export-clause-fronts
returns-in-Export-clause-fronts g c = λ (items : List Bytes) told apart. let kept = c.export_loaded.ensures.kept in grows-still items _ _ told kept.items _ _ _ _ kept.stops

pub returns-in-Export-clause-answer : goal.returns-in-Export-clause-answer
returns-in-Export-clause-answer g c = λ (asked : Command) judges.
    let seen = devices g.S.Source.left g.S.Source.faults g.O.Sink.written g.O.Sink.faults g.O.Sink.refusals g.K.Keeper.items g.K.Keeper.number g.K.Keeper.faults in
    let read = source_view g.S.Source.left g.S.Source.faults in
    let shown = sink_view g.O.Sink.written g.O.Sink.faults g.O.Sink.refusals in
    let kept = keeper_view g.K.Keeper.items g.K.Keeper.number g.K.Keeper.faults in
    let does = c.export_loaded.ensures in
    let s = c.in-Export.subject in
    let w : IsOf Export asked s = subst (IsJudged asked) c.in-Export.is judges in
    subst (λ (a : Command). IsAnswer a (seen c.args.input.now c.args.out.now c.args.store.now) (seen c.args.input.now c.export_loaded.new.out c.export_loaded.new.store) c.export_loaded.result) (sym w.asked_is)
    (export-answer (Export s.refname w.text) refl refl (export-case s.refname w.text) (read c.args.input.now) (shown c.args.out.now) (shown c.export_loaded.new.out) (kept c.args.store.now) (kept c.export_loaded.new.store) c.export_loaded.result
    (apart-judged (Export s.refname w.text) c.export_loaded.result does.other) does.unread does.write does.cause does.memory (does.kept.number, does.kept.items)
    (λ items all told. subst (λ (r : Result Case Outcome). IsExport r items (shown c.args.out.now) (shown c.export_loaded.new.out) c.export_loaded.result)
    (sym (read-filter w.text (shape s.filter) (λ f. exported_case false (loaded items) f s.refname) w.sound_is)) (does.exported items told)))

pub returns-in-Export-clause-adds : goal.returns-in-Export-clause-adds
returns-in-Export-clause-adds g c = λ (asked : Command) (items : List Bytes) judges told.
    for-any (g.S.Source.left c.args.input.now)
    (λ all. OnlyAdds (g.K.Keeper.moment c.args.store.now) (g.K.Keeper.moment c.export_loaded.new.store) (g.K.Keeper.left_since c.args.store.now) (g.K.Keeper.left_since c.export_loaded.new.store) (MayLeave asked items all))
    (λ all. adds-nothing (g.K.Keeper.moment c.args.store.now) (g.K.Keeper.moment c.export_loaded.new.store) (g.K.Keeper.left_since c.args.store.now) (g.K.Keeper.left_since c.export_loaded.new.store) (MayLeave asked items all) c.export_loaded.ensures.kept.stops)

pub returns-in-ExportTags-clause-fronts : goal.returns-in-ExportTags-clause-fronts
returns-in-ExportTags-clause-fronts g c = λ (items : List Bytes) told apart. let kept = c.export_loaded-in-ExportTags.ensures.kept in grows-still items _ _ told kept.items _ _ _ _ kept.stops

pub returns-in-ExportTags-clause-answer : goal.returns-in-ExportTags-clause-answer
returns-in-ExportTags-clause-answer g c = λ (asked : Command) judges.
    let seen = devices g.S.Source.left g.S.Source.faults g.O.Sink.written g.O.Sink.faults g.O.Sink.refusals g.K.Keeper.items g.K.Keeper.number g.K.Keeper.faults in
    let read = source_view g.S.Source.left g.S.Source.faults in
    let shown = sink_view g.O.Sink.written g.O.Sink.faults g.O.Sink.refusals in
    let kept = keeper_view g.K.Keeper.items g.K.Keeper.number g.K.Keeper.faults in
    let does = c.export_loaded-in-ExportTags.ensures in
    let s = c.in-ExportTags.subject in
    let w : IsOf ExportTags asked s = subst (IsJudged asked) c.in-ExportTags.is judges in
    subst (λ (a : Command). IsAnswer a (seen c.args.input.now c.args.out.now c.args.store.now) (seen c.args.input.now c.export_loaded-in-ExportTags.new.out c.export_loaded-in-ExportTags.new.store) c.export_loaded-in-ExportTags.result) (sym w.asked_is)
    (export-answer (ExportTags s.refname w.text) refl refl (tagged-export-case s.refname w.text) (read c.args.input.now) (shown c.args.out.now) (shown c.export_loaded-in-ExportTags.new.out) (kept c.args.store.now) (kept c.export_loaded-in-ExportTags.new.store) c.export_loaded-in-ExportTags.result
    (apart-judged (ExportTags s.refname w.text) c.export_loaded-in-ExportTags.result does.other) does.unread does.write does.cause does.memory (does.kept.number, does.kept.items)
    (λ items all told. subst (λ (r : Result Case Outcome). IsExport r items (shown c.args.out.now) (shown c.export_loaded-in-ExportTags.new.out) c.export_loaded-in-ExportTags.result)
    (sym (read-filter w.text (shape s.filter) (λ f. exported_case true (loaded items) f s.refname) w.sound_is)) (does.exported items told)))

pub returns-in-ExportTags-clause-adds : goal.returns-in-ExportTags-clause-adds
returns-in-ExportTags-clause-adds g c = λ (asked : Command) (items : List Bytes) judges told.
    for-any (g.S.Source.left c.args.input.now)
    (λ all. OnlyAdds (g.K.Keeper.moment c.args.store.now) (g.K.Keeper.moment c.export_loaded-in-ExportTags.new.store) (g.K.Keeper.left_since c.args.store.now) (g.K.Keeper.left_since c.export_loaded-in-ExportTags.new.store) (MayLeave asked items all))
    (λ all. adds-nothing (g.K.Keeper.moment c.args.store.now) (g.K.Keeper.moment c.export_loaded-in-ExportTags.new.store) (g.K.Keeper.left_since c.args.store.now) (g.K.Keeper.left_since c.export_loaded-in-ExportTags.new.store) (MayLeave asked items all) c.export_loaded-in-ExportTags.ensures.kept.stops)

pub returns-in-AsExport-clause-fronts : goal.returns-in-AsExport-clause-fronts
returns-in-AsExport-clause-fronts g c = λ (items : List Bytes) told apart. let kept = c.export_granted.ensures.kept in grows-still items _ _ told kept.items _ _ _ _ kept.stops

pub returns-in-AsExport-clause-answer : goal.returns-in-AsExport-clause-answer
returns-in-AsExport-clause-answer g c = λ (asked : Command) judges.
    let seen = devices g.S.Source.left g.S.Source.faults g.O.Sink.written g.O.Sink.faults g.O.Sink.refusals g.K.Keeper.items g.K.Keeper.number g.K.Keeper.faults in
    let read = source_view g.S.Source.left g.S.Source.faults in
    let shown = sink_view g.O.Sink.written g.O.Sink.faults g.O.Sink.refusals in
    let kept = keeper_view g.K.Keeper.items g.K.Keeper.number g.K.Keeper.faults in
    let does = c.export_granted.ensures in
    let s = c.in-AsExport.subject in
    let u : Bytes = c.in-AsExport.user in
    let w : IsOf (λ refname text. As u (Export refname text)) asked s = subst (IsJudged asked) c.in-AsExport.is judges in
    subst (λ (a : Command). IsAnswer a (seen c.args.input.now c.args.out.now c.args.store.now) (seen c.args.input.now c.export_granted.new.out c.export_granted.new.store) c.export_granted.result) (sym w.asked_is)
    (export-answer (As u (Export s.refname w.text)) refl refl (user-export-case u s.refname w.text) (read c.args.input.now) (shown c.args.out.now) (shown c.export_granted.new.out) (kept c.args.store.now)
    (kept c.export_granted.new.store) c.export_granted.result
    (apart-judged (As u (Export s.refname w.text)) c.export_granted.result does.other) does.unread does.write does.cause does.memory (does.kept.number, does.kept.items)
    (λ items all told. subst (λ (r : Result Case Outcome). IsExport r items (shown c.args.out.now) (shown c.export_granted.new.out) c.export_granted.result)
    (ap (λ (v : Bytes). user_exported_case (loaded items) v (shape s.filter) s.refname) c.bytes.ensures ∙ sym (read-filter w.text (shape s.filter) (λ f. user_exported_case (loaded items) u f s.refname) w.sound_is)) (does.exported items told)))

pub returns-in-AsExport-clause-adds : goal.returns-in-AsExport-clause-adds
returns-in-AsExport-clause-adds g c = λ (asked : Command) (items : List Bytes) judges told.
    for-any (g.S.Source.left c.args.input.now)
    (λ all. OnlyAdds (g.K.Keeper.moment c.args.store.now) (g.K.Keeper.moment c.export_granted.new.store) (g.K.Keeper.left_since c.args.store.now) (g.K.Keeper.left_since c.export_granted.new.store) (MayLeave asked items all))
    (λ all. adds-nothing (g.K.Keeper.moment c.args.store.now) (g.K.Keeper.moment c.export_granted.new.store) (g.K.Keeper.left_since c.args.store.now) (g.K.Keeper.left_since c.export_granted.new.store) (MayLeave asked items all) c.export_granted.ensures.kept.stops)

pub returns-in-Name : goal.returns-in-Name
returns-in-Name g c =
    let read = source_view g.S.Source.left g.S.Source.faults in
    let shown = sink_view g.O.Sink.written g.O.Sink.faults g.O.Sink.refusals in
    let kept = keeper_view g.K.Keeper.items g.K.Keeper.number g.K.Keeper.faults in
    let at = g.K.Keeper.moment c.args.store.now in
    let since = g.K.Keeper.left_since c.args.store.now in
    let i = read c.args.input.now in
    let j = read c.name-made.new.input in
    let o = shown c.args.out.now in
    let q = shown c.conclude.new.out in
    let k = kept c.args.store.now in
    let s = c.in-Name.subject in
    let claimed : (asked : Command) → IsJudged asked c.args.judged.now → IsOf Name asked s = λ asked judges. subst (IsJudged asked) c.in-Name.is judges in
    record {
      answer = λ (asked : Command) judges.
          let w = claimed asked judges in
          one-answer asked (before i j o q k k) (after i j o q k k) c.conclude.result (judged-one asked c.args.judged.now judges)
          (concluded c.recall_law.ensures asked i j o q k k (OnlyAdds at at since since) c.name-made.result c.conclude.result
          (alone-form i j k at since c.name-made.result asked (λ all. NameCase (shape s.filter) s.refname (tagged_ran empty_base all))
          (λ loading all. ap (λ (a : Command). case a loading all) w.asked_is ∙ read-filter w.text (shape s.filter) (λ f. Ok (NameCase f s.refname (tagged_ran empty_base all))) w.sound_is)
          (λ all. name-alone (shape s.filter) s.refname (tagged_ran empty_base all)) (ap reads w.asked_is)
          c.name-made.ensures.read c.name-made.ensures.early c.name-made.ensures.taken c.name-made.ensures.made)
          c.conclude.ensures.concluded (λ e. ap shown (c.conclude.ensures.same e)));
      adds = λ (asked : Command) (items : List Bytes) judges told.
          for-any (g.S.Source.left c.args.input.now) (λ all. OnlyAdds at at since since (MayLeave asked items all)) (λ all. adds_none at since (MayLeave asked items all));
      fronts = λ (items : List Bytes) told apart. grows-self items (g.K.Keeper.items c.args.store.now) told at since;
      within = c.name-made.ensures.within;
      unread = λ (asked : Command) judges no. absurd (true≢false (sym (ap reads (claimed asked judges).asked_is) ∙ no));
      unloaded = λ (asked : Command) judges no. refl;
      is_open = λ apart. c.requires.open;
    }

pub returns-in-Verify : goal.returns-in-Verify
returns-in-Verify g c =
    let read = source_view g.S.Source.left g.S.Source.faults in
    let shown = sink_view g.O.Sink.written g.O.Sink.faults g.O.Sink.refusals in
    let kept = keeper_view g.K.Keeper.items g.K.Keeper.number g.K.Keeper.faults in
    let at = g.K.Keeper.moment c.args.store.now in
    let since = g.K.Keeper.left_since c.args.store.now in
    let i = read c.args.input.now in
    let j = read c.verify_text-made.new.input in
    let o = shown c.args.out.now in
    let q = shown c.conclude-in-Verify.new.out in
    let k = kept c.args.store.now in
    let x = c.in-Verify.claim in
    let claimed : (asked : Command) → IsJudged asked c.args.judged.now → IsClaimed asked x = λ asked judges. subst (IsJudged asked) c.in-Verify.is judges in
    record {
      answer = λ (asked : Command) judges.
          let w = claimed asked judges in
          one-answer asked (before i j o q k k) (after i j o q k k) c.conclude-in-Verify.result (judged-one asked c.args.judged.now judges)
          (concluded c.recall_law.ensures asked i j o q k k (OnlyAdds at at since since) c.verify_text-made.result c.conclude-in-Verify.result
          (alone-form i j k at since c.verify_text-made.result asked (λ all. VerifyCase (shape x.filter) x.commit.0 x.path all) (claim-case asked x w)
          (λ all. claim-alone (shape x.filter) x.commit.0 x.path all (c.verify_text-made.ensures.lawful all)) (ap reads w.asked_is)
          c.verify_text-made.ensures.read c.verify_text-made.ensures.early c.verify_text-made.ensures.taken c.verify_text-made.ensures.made)
          c.conclude-in-Verify.ensures.concluded (λ e. ap shown (c.conclude-in-Verify.ensures.same e)));
      adds = λ (asked : Command) (items : List Bytes) judges told.
          for-any (g.S.Source.left c.args.input.now) (λ all. OnlyAdds at at since since (MayLeave asked items all)) (λ all. adds_none at since (MayLeave asked items all));
      fronts = λ (items : List Bytes) told apart. grows-self items (g.K.Keeper.items c.args.store.now) told at since;
      within = c.verify_text-made.ensures.within;
      unread = λ (asked : Command) judges no. absurd (true≢false (sym (ap reads (claimed asked judges).asked_is) ∙ no));
      unloaded = λ (asked : Command) judges no. refl;
      is_open = λ apart. c.requires.open;
    }

pub returns-in_default : goal.returns-in_default
returns-in_default g c =
    let read = source_view g.S.Source.left g.S.Source.faults in
    let shown = sink_view g.O.Sink.written g.O.Sink.faults g.O.Sink.refusals in
    let kept = keeper_view g.K.Keeper.items g.K.Keeper.number g.K.Keeper.faults in
    let at = g.K.Keeper.moment in
    let since = g.K.Keeper.left_since in
    let then = c.args.store.now in
    let now = c.perform_loaded-made.new.store in
    let adds = OnlyAdds (at then) (at now) (since then) (since now) in
    let i = read c.args.input.now in
    let j = read c.perform_loaded-made.new.input in
    let o = shown c.args.out.now in
    let end = c.conclude-in_default in
    let q = shown end.new.out in
    let k = kept then in
    let l = kept now in
    let stored : is_stored c.args.judged.now ≡ true = search rules in
    let may : (asked : Command) → IsJudged asked c.args.judged.now → loads asked ≡ true = λ asked w. judged-loads asked c.args.judged.now w stored in
    let made : (asked : Command) (w : IsJudged asked c.args.judged.now) → IsMade asked i j k l adds c.perform_loaded-made.result = λ asked w. c.perform_loaded-made.ensures.made asked w (may asked w) in
    let faults : end.result ≢ StoreFault → c.perform_loaded-made.result ≢ Err StoreFault = λ apart fault. apart (subst (λ (m : Result Bytes Outcome). IsConcluded m o q end.result) fault end.ensures.concluded) in
    record {
      answer = λ (asked : Command) w.
          one-answer asked (before i j o q k l) (after i j o q k l) end.result (judged-one asked c.args.judged.now w)
          (concluded c.recall_law.ensures asked i j o q k l adds c.perform_loaded-made.result end.result (made asked w) end.ensures.concluded (λ e. ap shown (end.ensures.same e)));
      adds = λ (asked : Command) (items : List Bytes) w told.
          one-adds (g.S.Source.left c.args.input.now) items (at then) (at now) (since then) (since now) asked (judged-one asked c.args.judged.now w)
          (form-adds c.recall_law.ensures asked items (g.S.Source.left c.args.input.now) k l c.perform_loaded-made.result (at then) (at now) (since then) (since now)
          ((made asked w).formed items (λ _. told)));
      fronts = λ (items : List Bytes) told apart.
          let some = c.requires.judged in
          let f = (made some.0 some.1).formed items (λ _. told) in
          form-grows some.0 items f.all k l _ _ _ _ c.perform_loaded-made.result f.says (faults apart) told;
      within = c.perform_loaded-made.ensures.within;
      unread = λ (asked : Command) w. c.perform_loaded-made.ensures.unread asked w;
      unloaded = λ (asked : Command) w no. absurd (true≢false (sym (may asked w) ∙ no));
      is_open = λ apart. c.perform_loaded-made.ensures.is_open (faults apart);
    }

-- ---- how much is taken

pub returns-in-Export-clause-within : goal.returns-in-Export-clause-within
returns-in-Export-clause-within g c = within_none (g.S.Source.left c.args.input.now)

pub returns-in-ExportTags-clause-within : goal.returns-in-ExportTags-clause-within
returns-in-ExportTags-clause-within g c = within_none (g.S.Source.left c.args.input.now)

pub returns-in-AsExport-clause-within : goal.returns-in-AsExport-clause-within
returns-in-AsExport-clause-within g c = within_none (g.S.Source.left c.args.input.now)
