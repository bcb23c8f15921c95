use Rattle.std.proofs.Common.{nat_eq, ◌≡◌, sym, ap, ◌∙◌}
use Rattle.std.specs.HashMap.{get}
use Rattle.decision_lists.specs.Index.{code, code_from, is_cone}
use Rattle.std.specs.List.{slice_get}
use Rattle.decision_lists.specs.Entries.{cone_of}
use Rattle.decision_lists.proofs.Indexing.{add-known, add-new, code-is}
use Rattle.decision_lists.proofs.index.Index.add.Goals as goal

pub returns-in-Ok : goal.returns-in-Ok
returns-in-Ok c =
    let m = c.args.self.now in
    let e = c.args.entry.now in
    let k = c.cone_code-code.result in
    let is : k ≡ code e.0 = code-is e c.entry.inside.point c.entry.inside.base.items c.path_code.result k (ap (λ v. v.0) c.entry.view_is)
    (c.path_code.ensures ∙ ap (code_from 1) c.as_slice-base.ensures.value) c.cone_code-code.ensures in
    add-new (get nat_eq m.places) (get nat_eq c.insert.new.self) m.clean c.args.entries.now e k c.requires is
    (sym c.get.ensures.value ∙ sym c.copied.ensures ∙ c.in-None.is)
    c.in-Ok.ensures.updates.1 (λ q n. c.in-Ok.ensures.updates.2 q n)

pub returns-else-not-stands : goal.returns-else-not-stands
returns-else-not-stands c =
    let m = c.args.self.now in
    let e = c.args.entry.now in
    let k = c.cone_code-code.result in
    let is : k ≡ code e.0 = code-is e c.entry.inside.point c.entry.inside.base.items c.path_code.result k (ap (λ v. v.0) c.entry.view_is)
    (c.path_code.ensures ∙ ap (code_from 1) c.as_slice-base.ensures.value) c.cone_code-code.ensures in
    add-known (get nat_eq m.places) m.clean c.args.entries.now e k c.in-Some.place c.requires is
    (sym c.get.ensures.value ∙ sym c.copied.ensures ∙ c.in-Some.is)
    (sym (ap (λ s. is_cone (slice_get c.args.entries.now c.in-Some.place) (cone_of c.entry.inside.point s)) c.as_slice-base.ensures.value
    ∙ ap (λ v. is_cone (slice_get c.args.entries.now c.in-Some.place) v.0) c.entry.view_is) ∙ sym c.stands.ensures ∙ c.if-not-stands.false)
