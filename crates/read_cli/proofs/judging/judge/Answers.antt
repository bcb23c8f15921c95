-- Proves what src/judging.rt needs of `judge`.
use Rattle.std.proofs.Common.{map, string_bytes, sym, subst}
use Rattle.read_cli.specs.Looks.{IsAsked, form_reading}
use Rattle.read_cli.specs.Readings.{names_of}
use Rattle.read_cli.specs.declared.judging.Asked.TheVariants as asks
use Rattle.read_cli.specs.declared.words.Form.{Form}
use Rattle.read_cli.proofs.JudgedForms.{asked-new, asked-originals}
use Rattle.read_cli.proofs.judging.judge.Goals as goal

pub returns-in_ok-names_of-in-New-clause-ok : goal.returns-in_ok-names_of-in-New-clause-ok
returns-in_ok-names_of-in-New-clause-ok c =
    let s = c.in_ok-subject-in-New.subject in
    let haves = c.in_ok-names_of-in-New.field-0 in
    subst (λ (form : Form). IsAsked (form_reading form) (asks.New c.in-New.beside s haves)) (sym c.in-New.is)
    (asked-new c.in-New.beside c.in-New.refname.now c.in-New.filter.now (names_of (map (λ word. string_bytes word) c.in-New.haves.now)) s haves (record { refname = c.in_ok-subject-in-New.ensures.refname; sound_is = c.in_ok-subject-in-New.ensures.sound; usable = c.in_ok-subject-in-New.ensures.usable }) c.in_ok-names_of-in-New.ensures)

pub returns-in_ok-names_of-in-Originals-clause-ok : goal.returns-in_ok-names_of-in-Originals-clause-ok
returns-in_ok-names_of-in-Originals-clause-ok c =
    let n = c.in_ok-refname-in-Originals.refname in
    let haves = c.in_ok-names_of-in-Originals.field-0 in
    subst (λ (form : Form). IsAsked (form_reading form) (asks.Originals n haves)) (sym c.in-Originals.is)
    (asked-originals c.in-Originals.refname.now (names_of (map (λ word. string_bytes word) c.in-Originals.haves.now)) n haves c.in_ok-refname-in-Originals.ensures.ok c.in_ok-names_of-in-Originals.ensures)
