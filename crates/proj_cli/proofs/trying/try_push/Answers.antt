-- Proves what src/trying.rt needs of `try_push`.
use Rattle.std.proofs.Common.{◌++◌, ◌∙◌, [], sym}
use Rattle.std.specs.Option.{option_map}
use Rattle.std.proofs.lemmas.Option.{same_Some}
use Rattle.git_objects.specs.Parts.{name_bytes}
use Rattle.filter_text.specs.Shapes.{shape}
use Rattle.proj_words.specs.Views.{push_value}
use Rattle.proj_words.specs.declared.outcome.Outcome.TheVariants.{OutOfMemory, ReadFault, StoreFault}
use Rattle.proj_cli.specs.Trials.{push_hands, push_left}
use Rattle.proj_cli.specs.Trying.{IsLeft}
use Rattle.proj_commands.proofs.NamesGiven.{passed-whole}
use Rattle.proj_cli.proofs.TrialSteps.{never-fault}
use Rattle.proj_cli.proofs.TrialPushes.{from-ended, main-named, push-counted, push-done, push-ended, unsound-left}
use Rattle.proj_cli.proofs.trying.try_push.Goals as goal

pub returns-in_err-subject-clause-left : goal.returns-in_err-subject-clause-left
returns-in_err-subject-clause-left c = λ items h hands w.
    let p = push_value c.args.pushed.now in
    let ks = hands ++ push_hands p c.args.seconds items in
    passed-whole (Unit {0}) c.from_residual.result c.in_err-subject.field-0.0 c.from_residual.ensures.1 (IsLeft ks (push_left p c.args.seconds items) c.args.state.now)
    (unsound-left ks p c.args.seconds items c.in_err-subject.field-0.0 c.in_err-subject.ensures.err)

pub read_subject-requires : goal.read_subject-requires
read_subject-requires c = main-named

pub returns-in_err-from-clause-left : goal.returns-in_err-from-clause-left
returns-in_err-from-clause-left c = λ items h hands w.
    let p = push_value c.args.pushed.now in
    let ks = hands ++ push_hands p c.args.seconds items in
    passed-whole (Unit {0}) c.from_residual-in_err-from.result c.in_err-from.field-0.0 c.from_residual-in_err-from.ensures.1 (IsLeft ks (push_left p c.args.seconds items) c.head_projection.new.state)
    (from-ended p c.args.seconds items h hands (shape c.in_ok-subject.subject.filter) w.state.current.read c.in_ok-subject.ensures.sound c.in_ok-subject.subject.refname c.in_err-from.field-0.0 c.in_ok-subject.ensures.refname
    (λ all. c.in_err-from.ensures items h hands all w))

pub returns-in_err-stream-clause-left : goal.returns-in_err-stream-clause-left
returns-in_err-stream-clause-left c = λ items h hands w.
    let p = push_value c.args.pushed.now in
    let ks = hands ++ push_hands p c.args.seconds items in
    passed-whole (Unit {0}) c.from_residual-in_err-stream.result OutOfMemory c.from_residual-in_err-stream.ensures.1 (IsLeft ks (push_left p c.args.seconds items) c.head_projection.new.state) tt

pub push-requires-clause-open : goal.push-requires-clause-open
push-requires-clause-open c =
    let q = c.requires.state in
    let t = c.in_ok-from.ensures q.0 q.1 q.2 [] q.3 in
    (tt, t.1.state.current.number ∙ sym q.3.state.current.number ∙ c.requires.number)

pub push-requires-clause-state : goal.push-requires-clause-state
push-requires-clause-state c =
    let q = c.requires.state in
    let t = c.in_ok-from.ensures q.0 q.1 q.2 [] q.3 in
    (q.0, q.1, t.1.state)

pub returns-in_err-push-clause-left : goal.returns-in_err-push-clause-left
returns-in_err-push-clause-left c = λ items h hands w.
    let p = push_value c.args.pushed.now in
    let t = c.in_ok-from.ensures items h hands [] w in
    let m = c.in_err-push.ensures.made items h t.1.state in
    let e = c.in_err-push.field-0.0 in
    let ks = hands ++ push_hands p c.args.seconds items in
    passed-whole (Unit {0}) c.from_residual-in_err-push.result e c.from_residual-in_err-push.ensures.1 (IsLeft ks (push_left p c.args.seconds items) c.push.new.state)
    (push-ended p c.args.seconds items h hands (shape c.in_ok-subject.subject.filter) w.state.current.read c.in_ok-subject.ensures.sound c.in_ok-subject.subject.refname c.in_ok-subject.ensures.refname
    (option_map name_bytes c.in_ok-from.from) t.0 c.head_projection.new.state c.push.new.state (λ all. (c.in_ok-from.ensures items h hands all w).1) m.0
    (m.1 ∙ same_Some _ _ c.new-input.ensures.told ∙ c.deref.ensures.value ∙ c.in_ok-stream.ensures) _ _ m.2 e (never-fault e ReadFault c.in_err-push.ensures.read) (never-fault e StoreFault c.in_err-push.ensures.used.cause) m.3)

pub returns-clause-left : goal.returns-clause-left
returns-clause-left c = λ items h hands w.
    let p = push_value c.args.pushed.now in
    let t = c.in_ok-from.ensures items h hands [] w in
    let m = c.in_ok-push.ensures.made items h t.1.state in
    push-done p c.args.seconds items h hands (shape c.in_ok-subject.subject.filter) w.state.current.read c.in_ok-subject.ensures.sound c.in_ok-subject.subject.refname c.in_ok-subject.ensures.refname
    (option_map name_bytes c.in_ok-from.from) t.0 c.head_projection.new.state c.push.new.state (λ all. (c.in_ok-from.ensures items h hands all w).1) m.0
    (m.1 ∙ same_Some _ _ c.new-input.ensures.told ∙ c.deref.ensures.value ∙ c.in_ok-stream.ensures) _ _ m.2 _ tt m.3

pub returns-clause-number : goal.returns-clause-number
returns-clause-number c =
    let q = c.requires.state in
    let items = q.0 in
    let h = q.1 in
    let hands = q.2 in
    let w = q.3 in
    let p = push_value c.args.pushed.now in
    let t = c.in_ok-from.ensures items h hands [] w in
    let m = c.in_ok-push.ensures.made items h t.1.state in
    push-counted p c.args.seconds items h hands (shape c.in_ok-subject.subject.filter) w.state.current.read c.in_ok-subject.ensures.sound c.in_ok-subject.subject.refname c.in_ok-subject.ensures.refname
    (option_map name_bytes c.in_ok-from.from) t.0 c.head_projection.new.state c.push.new.state (λ all. (c.in_ok-from.ensures items h hands all w).1) m.0
    (m.1 ∙ same_Some _ _ c.new-input.ensures.told ∙ c.deref.ensures.value ∙ c.in_ok-stream.ensures) _ _ m.2 _
    (t.1.state.current.number ∙ sym w.state.current.number ∙ c.requires.number) m.3
