-- Proves what src/newly.rt needs of `write_projected`.
use Rattle.std.proofs.Common.{List, [], ◌∷◌, ap, map, sym, ◌∙◌}
use Rattle.git_objects.specs.Parts.{name_bytes}
use Rattle.git_objects.specs.Paths.{Bytes}
use Rattle.git_objects.specs.declared.name.Name.{Name}
use Rattle.filter_text.specs.Shapes.{shape}
use Rattle.proj_io.specs.Views.{sink_view}
use Rattle.repo_ground.specs.Contents.{Contents}
use Rattle.repo_ground.specs.contracts.state.State.{the_view}
use Rattle.proj_commands.specs.Export.{export_hand}
use Rattle.proj_commands.proofs.StatesShown.{head-placed}
use Rattle.read_cli.specs.Outputs.{has_tags}
use Rattle.read_cli.proofs.Looked.{unshown-undone}
use Rattle.read_cli.proofs.Writing.{looked-as, new-as, new-lawful, new-looked, unshown-new}
use Rattle.read_cli.proofs.newly.write_projected.Goals.{in-Err, in-Ok}
use Rattle.read_cli.proofs.newly.write_projected.Goals as goal

pub found-requires-clause-head : goal.found-requires-clause-head
found-requires-clause-head g c =
    let q = c.requires.state in
    head-placed q.1 c.args.state.now c.args.subject.now.refname c.in-Some.head.0 q.2.spells (sym (c.in-Some.ensures.held q.1 q.2.spells))

pub write_named-requires : goal.write_named-requires
write_named-requires g c =
    let q = c.requires.state in
    let items = q.0 in
    let h = q.1 in
    let w = q.2 in
    let s : Contents = c.args.state.now in
    let v : Contents = the_view c.state.inside in
    let f = shape c.args.subject.now.filter in
    let n : Bytes = c.in-Some.head.0 in
    let r : Bytes = c.args.subject.now.refname in
    let beside = c.args.beside in
    let haves : List Bytes = map name_bytes c.args.haves.now in
    let e = sym (c.in-Some.ensures.held h w.spells) in
    (new-as beside items h s w f r n e haves c.found.new.state.basis.store v.basis.store (map name_bytes c.in-Ok.names.items) (map name_bytes c.deref-in-Ok.result.now) c.in-Ok.tags.items c.deref-in-Ok-2.result.now
    (ap (λ (x : Contents). x.basis.store) c.state.view_is) (ap (λ (xs : List Name). map name_bytes xs) c.deref-in-Ok.ensures.value) c.deref-in-Ok-2.ensures.value (c.in-Ok.ensures.ok items h w).1).fresh.commits

pub returns-clause-looked : goal.returns-clause-looked
returns-clause-looked g c = λ items h w.
    let s : Contents = c.args.state.now in
    let v : Contents = the_view c.state.inside in
    let f = shape c.args.subject.now.filter in
    let n : Bytes = c.in-Some.head.0 in
    let r : Bytes = c.args.subject.now.refname in
    let beside = c.args.beside in
    let haves : List Bytes = map name_bytes c.args.haves.now in
    let e = sym (c.in-Some.ensures.held h w.spells) in
    let seen = sink_view g.O.Sink.written g.O.Sink.faults g.O.Sink.refusals in
    let before = seen c.args.out.now in
    elim c.match-found.branch [
      | in-Err k ↦
          looked-as beside items h s w f r n e haves before (seen c.match-found.out) before c.match-found.result k.in-Err.outcome (ap seen k.out-is) k.result-is
          (unshown-new beside items h s w f r n e haves before k.in-Err.outcome (k.in-Err.ensures.err items h w))
      | in-Ok k ↦
          let names = map name_bytes k.deref-in-Ok.result.now in
          let tags = k.deref-in-Ok-2.result.now in
          let new = new-as beside items h s w f r n e haves c.found.new.state.basis.store v.basis.store (map name_bytes k.in-Ok.names.items) names k.in-Ok.tags.items tags
          (ap (λ (x : Contents). x.basis.store) c.state.view_is) (ap (λ (xs : List Name). map name_bytes xs) k.deref-in-Ok.ensures.value) k.deref-in-Ok-2.ensures.value (k.in-Ok.ensures.ok items h w).1 in
          looked-as beside items h s w f r n e haves before (seen c.match-found.out) (seen k.write_named.new.out) c.match-found.result k.write_named.result (ap seen k.out-is) k.result-is
          (new-looked beside items h s w f r n e haves k.deref.result.now v.basis.store names tags (k.deref.ensures.value ∙ (k.in-Ok.ensures.ok items h w).0) new before (seen k.write_named.new.out) k.write_named.result k.write_named.ensures.outcome k.write_named.ensures.given)
    ]

pub returns-clause-lawful : goal.returns-clause-lawful
returns-clause-lawful g c = λ items h w done.
    let s : Contents = c.args.state.now in
    let v : Contents = the_view c.state.inside in
    let f = shape c.args.subject.now.filter in
    let n : Bytes = c.in-Some.head.0 in
    let r : Bytes = c.args.subject.now.refname in
    let beside = c.args.beside in
    let haves : List Bytes = map name_bytes c.args.haves.now in
    let e = sym (c.in-Some.ensures.held h w.spells) in
    elim c.match-found.branch [
      | in-Err k ↦ absurd (unshown-undone s.basis.store (export_hand (has_tags beside) h f n ∷ []) k.in-Err.outcome (k.in-Err.ensures.err items h w) (sym k.result-is ∙ done))
      | in-Ok k ↦ new-lawful beside items h s w f r n e haves c.history_law.ensures c.found.new.state.basis.store (map name_bytes k.in-Ok.names.items) k.in-Ok.tags.items (k.in-Ok.ensures.ok items h w).1
    ]
