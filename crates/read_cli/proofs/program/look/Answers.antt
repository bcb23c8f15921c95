-- Proves what src/program.rt needs of `look`.
use Rattle.std.proofs.Common.{◌≡◌, List, [], map, Ok, ap, subst}
use Rattle.std.specs.Prelude.{IfOk, flat_map}
use Rattle.git_objects.specs.Paths.{Bytes}
use Rattle.git_objects.specs.Parts.{name_bytes}
use Rattle.git_objects.specs.declared.name.Name.{Name}
use Rattle.filter_text.specs.Shapes.{shape}
use Rattle.proj_io.specs.Views.{sink_view}
use Rattle.state_items.specs.Changes.{with_refs}
use Rattle.state_items.specs.Items.{Held}
use Rattle.repo_ground.specs.Contents.{Contents}
use Rattle.proj_commands.specs.Export.{export_hand}
use Rattle.proj_commands.specs.Hands.{still_hand}
use Rattle.proj_commands.specs.Lines.{ref_line}
use Rattle.read_cli.specs.Answers.{IsNewLawful, OfHead}
use Rattle.read_cli.specs.Looks.{IsAsked, IsLookedFor, at_head}
use Rattle.read_cli.specs.Outputs.{has_tags, new_output, originals_output, refs_output}
use Rattle.read_cli.specs.Readings.{Reading}
use Rattle.proj_commands.specs.declared.subjects.Subject.{Subject}
use Rattle.read_cli.proofs.AskedForms.{lawful-new, look-new, look-originals, look-refs, refs-report, refs-unreported}
use Rattle.read_cli.proofs.Looked.{concluded-looked}
use Rattle.read_cli.proofs.program.look.Goals as goal

pub returns-in-Refs-clause-looked : goal.returns-in-Refs-clause-looked
returns-in-Refs-clause-looked g c = λ (form : Reading) (items : List Bytes) (h : Held) w st.
    let seen = sink_view g.O.Sink.written g.O.Sink.faults g.O.Sink.refusals in
    let s = c.args.state.now in
    let made = c.refs_lines.result in
    let does = c.refs_lines.ensures in
    let lines = subst (λ (v : Contents). IfOk made (λ text. text ≡ flat_map ref_line (with_refs [] v.refs))) c.state.view_is does.ok in
    let end = c.conclude in
    let before = seen c.args.out.now in
    let after = seen end.new.out in
    look-refs s.basis.store h before after end.result form (subst (IsAsked form) c.in-Refs.is w)
    (concluded-looked s.basis.store (Ok (still_hand h.objects [] [])) (Ok (refs_output h)) before after made end.result
    (refs-report s.basis.store h s st.spells made lines does.err) (refs-unreported made does.err) end.ensures.concluded (λ e. ap seen (end.ensures.same e)))

pub returns-in-New-clause-looked : goal.returns-in-New-clause-looked
returns-in-New-clause-looked g c = λ (form : Reading) (items : List Bytes) (h : Held) w st.
    let seen = sink_view g.O.Sink.written g.O.Sink.faults g.O.Sink.refusals in
    let does = c.write_projected in
    let a = c.in-New in
    let s : Subject = a.subject in
    let S = c.args.state.now.basis.store in
    look-new S h (seen c.args.out.now) (seen does.new.out) does.result form a.beside s a.haves (subst (IsAsked form) a.is w)
    (subst (λ (ns : List Name). IsLookedFor S (at_head s.refname h (export_hand (has_tags a.beside) h (shape s.filter))) (at_head s.refname h (λ n. new_output a.beside h (shape s.filter) s.refname n (map name_bytes ns))) (seen c.args.out.now) (seen does.new.out) does.result)
    c.deref.ensures.value (does.ensures.looked items h st))

pub returns-in-Originals-clause-looked : goal.returns-in-Originals-clause-looked
returns-in-Originals-clause-looked g c = λ (form : Reading) (items : List Bytes) (h : Held) w st.
    let seen = sink_view g.O.Sink.written g.O.Sink.faults g.O.Sink.refusals in
    let does = c.write_originals in
    let a = c.in-Originals in
    let r : Bytes = a.refname in
    let S = c.args.state.now.basis.store in
    look-originals S h (seen c.args.out.now) (seen does.new.out) does.result form r a.haves (subst (IsAsked form) a.is w)
    (subst (λ (ns : List Name). IsLookedFor S (Ok (still_hand h.objects [] [])) (at_head r h (λ n. originals_output h r n (map name_bytes ns))) (seen c.args.out.now) (seen does.new.out) does.result)
    c.deref-in-Originals.ensures.value (does.ensures.looked items h st))

pub returns-in-New-clause-lawful : goal.returns-in-New-clause-lawful
returns-in-New-clause-lawful g c = λ (form : Reading) (items : List Bytes) (h : Held) w st done.
    let does = c.write_projected in
    let a = c.in-New in
    let s : Subject = a.subject in
    lawful-new h form a.beside s a.haves (subst (IsAsked form) a.is w)
    (subst (λ (ns : List Name). OfHead (Ok h) s.refname (λ h n. IsNewLawful (has_tags a.beside) h (shape s.filter) s.refname n (map name_bytes ns))) c.deref.ensures.value (does.ensures.lawful items h st done))
