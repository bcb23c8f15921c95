-- Proves what src/trying.rt needs of `tried`.
use Rattle.std.proofs.Common.{◌+◌, Err, Ok, refl}
use Rattle.proj_words.specs.TrialTexts.{first_push, second_push, third_push}
use Rattle.proj_words.specs.Views.{push_value}
use Rattle.proj_cli.specs.Trials.{first_hands, first_left, import_hands, import_left, second_hands, second_left, third_hands, third_left}
use Rattle.proj_cli.specs.Trying.{IsLeft}
use Rattle.proj_commands.proofs.NamesGiven.{passed-whole}
use Rattle.proj_cli.proofs.TrialPushes.{first-ended, next-tried, none-imported, second-ended}
use Rattle.proj_cli.proofs.trying.tried.Goals as goal

pub returns-in_err-try_import : goal.returns-in_err-try_import
returns-in_err-try_import c =
    let n = c.args.count in
    passed-whole (Unit {0}) c.from_residual.result c.in_err-try_import.field-0.0 c.from_residual.ensures.1 (IsLeft (third_hands n) (third_left n) c.try_import.new.state)
    (none-imported n c.in_err-try_import.field-0.0 c.in_err-try_import.ensures.left)

pub try_push-requires-clause-state : goal.try_push-requires-clause-state
try_push-requires-clause-state c = let w = c.in_ok-try_import.ensures.left in (w.0, w.1, import_hands c.args.count, w.3)

pub returns-in_err-try_push : goal.returns-in_err-try_push
returns-in_err-try_push c =
    let n = c.args.count in
    passed-whole (Unit {0}) c.from_residual-in_err-try_push.result c.in_err-try_push.field-0.0 c.from_residual-in_err-try_push.ensures.1 (IsLeft (third_hands n) (third_left n) c.try_push.new.state)
    (first-ended n c.in_err-try_push.field-0.0
    (next-tried (import_hands n) (import_left n) (push_value c.first_push.result) first_push (1700000000 + n) (1700000000 + n) c.try_import.new.state c.try_push.new.state tt (Err c.in_err-try_push.field-0.0) c.first_push.ensures refl c.in_ok-try_import.ensures.left
    c.in_err-try_push.ensures.left))

pub try_push-requires-2-clause-state : goal.try_push-requires-2-clause-state
try_push-requires-2-clause-state c =
    let n = c.args.count in
    let w =
    next-tried (import_hands n) (import_left n) (push_value c.first_push.result) first_push (1700000000 + n) (1700000000 + n) c.try_import.new.state c.try_push.new.state tt (Ok tt) c.first_push.ensures refl c.in_ok-try_import.ensures.left
    c.in_ok-try_push.ensures.left
    in
    (w.0, w.1, first_hands n, w.3)

pub returns-in_err-try_push-2 : goal.returns-in_err-try_push-2
returns-in_err-try_push-2 c =
    let n = c.args.count in
    let w =
    next-tried (import_hands n) (import_left n) (push_value c.first_push.result) first_push (1700000000 + n) (1700000000 + n) c.try_import.new.state c.try_push.new.state tt (Ok tt) c.first_push.ensures refl c.in_ok-try_import.ensures.left
    c.in_ok-try_push.ensures.left
    in
    passed-whole (Unit {0}) c.from_residual-in_err-try_push-2.result c.in_err-try_push-2.field-0.0 c.from_residual-in_err-try_push-2.ensures.1 (IsLeft (third_hands n) (third_left n) c.try_push-2.new.state)
    (second-ended n c.in_err-try_push-2.field-0.0
    (next-tried (first_hands n) (first_left n) (push_value c.second_push.result) second_push (1700000001 + n) (1700000001 + n) c.try_push.new.state c.try_push-2.new.state tt (Err c.in_err-try_push-2.field-0.0) c.second_push.ensures refl w
    c.in_err-try_push-2.ensures.left))

pub try_push-requires-3-clause-state : goal.try_push-requires-3-clause-state
try_push-requires-3-clause-state c =
    let n = c.args.count in
    let w =
    next-tried (import_hands n) (import_left n) (push_value c.first_push.result) first_push (1700000000 + n) (1700000000 + n) c.try_import.new.state c.try_push.new.state tt (Ok tt) c.first_push.ensures refl c.in_ok-try_import.ensures.left
    c.in_ok-try_push.ensures.left
    in
    let x =
    next-tried (first_hands n) (first_left n) (push_value c.second_push.result) second_push (1700000001 + n) (1700000001 + n) c.try_push.new.state c.try_push-2.new.state tt (Ok tt) c.second_push.ensures refl w
    c.in_ok-try_push-2.ensures.left
    in
    (x.0, x.1, second_hands n, x.3)

pub returns : goal.returns
returns c =
    let n = c.args.count in
    let w =
    next-tried (import_hands n) (import_left n) (push_value c.first_push.result) first_push (1700000000 + n) (1700000000 + n) c.try_import.new.state c.try_push.new.state tt (Ok tt) c.first_push.ensures refl c.in_ok-try_import.ensures.left
    c.in_ok-try_push.ensures.left
    in
    let x =
    next-tried (first_hands n) (first_left n) (push_value c.second_push.result) second_push (1700000001 + n) (1700000001 + n) c.try_push.new.state c.try_push-2.new.state tt (Ok tt) c.second_push.ensures refl w
    c.in_ok-try_push-2.ensures.left
    in
    next-tried (second_hands n) (second_left n) (push_value c.third_push.result) third_push (1700000002 + n) (1700000002 + n) c.try_push-2.new.state c.try_push-3.new.state tt c.try_push-3.result c.third_push.ensures refl x
    c.try_push-3.ensures.left
