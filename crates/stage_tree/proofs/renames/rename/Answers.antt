use Rattle.std.proofs.Common.{◌≡◌, false, Ok, Err, inl, sym, ap, ◌∙◌, arith}
use Rattle.std.proofs.lemmas.Result.{err_from_is_err_and}
use Rattle.git_objects.specs.Paths.{comparable, is_path}
use Rattle.git_objects.specs.Trees.{put, remove}
use Rattle.stage_tree.specs.Edits.{renamed}
use Rattle.stage_nodes.proofs.Paying.{paid_there}
use Rattle.stage_nodes.proofs.OnWay.{still_on}
use Rattle.stage_tree.proofs.Moving.{can_prune, done_so, holds_there, left_so, not_renamed, same_left, source_moves, source_stands, stands_apart, stands_over, stands_there}
use Rattle.stage_tree.proofs.renames.rename.Goals as goal

pub find_source-requires-clause-from : goal.find_source-requires-clause-from
find_source-requires-clause-from g c = ap is_path c.components-source.ensures.components ∙ c.components-source.ensures.path

pub find_source-requires-clause-to : goal.find_source-requires-clause-to
find_source-requires-clause-to g c = ap is_path c.components-target.ensures.components ∙ c.components-target.ensures.path

pub returns-in_err-number-clause-edit : goal.returns-in_err-number-clause-edit
returns-in_err-number-clause-edit g c = λ t tree st.
    let S = c.args.store.now in let s0 = c.args.nodes.now in
    let src = c.components-source.result.now in let tgt = c.components-target.result.now in
    let from_is : src ≡ c.args.from.now = c.components-source.ensures.components in
    let to_is : tgt ≡ c.args.to.now = c.components-target.ensures.components in
    let r = err_from_is_err_and c.from_residual.result c.from_residual.ensures.1 in
    let e = c.in_err-number.ensures.err in
    rw (r.1, r.2) (same_left S s0 c.find_source.new.nodes (renamed t src tgt) (renamed t c.args.from.now c.args.to.now) (Err c.in_err-number.field-0.0) (λ i. renamed t (from_is i) (to_is i)) (record {
      done = tt;
      refused = (e.still, not_renamed t src tgt c.in_err-number.field-0.0 (e.refused t tree st));
    }))

pub relocate-requires-clause-node : goal.relocate-requires-clause-node
relocate-requires-clause-node g c =
    let S = c.args.store.now in let s0 = c.args.nodes.now in let s2 = c.find_source.new.nodes in
    let src = c.components-source.result.now in let tgt = c.components-target.result.now in let k = c.in_ok-number.number in
    let h = c.in_ok-number.ensures.ok in
    source_moves S s0 s2 src tgt k h

pub returns-in_err-relocate-clause-edit : goal.returns-in_err-relocate-clause-edit
returns-in_err-relocate-clause-edit g c = λ t tree st.
    let S = c.args.store.now in let s0 = c.args.nodes.now in let s2 = c.find_source.new.nodes in
    let src = c.components-source.result.now in let tgt = c.components-target.result.now in let k = c.in_ok-number.number in
    let h = c.in_ok-number.ensures.ok in
    let r = err_from_is_err_and c.from_residual-in_err-relocate.result c.from_residual-in_err-relocate.ensures.1 in
    rw (r.1) (record { done = tt; refused = (still_on S s0 s2 c.relocate.new.nodes h.still (c.in_err-relocate.ensures.err (source_moves S s0 s2 src tgt k h)), inl r.2) })

pub prune-requires-clause-clear : goal.prune-requires-clause-clear
prune-requires-clause-clear g c =
    let S = c.args.store.now in let s0 = c.args.nodes.now in let s2 = c.find_source.new.nodes in
    let src = c.components-source.result.now in let tgt = c.components-target.result.now in let k = c.in_ok-number.number in
    let h = c.in_ok-number.ensures.ok in
    let moved = c.in_ok-relocate.ensures.ok (source_moves S s0 s2 src tgt k h) in
    record { objects = S; opened = moved.opened; clear = moved.clear src (sym c.comparable.ensures ∙ c.if-not-comparable.true) h.clear }

pub returns-then-not-comparable-clause-edit : goal.returns-then-not-comparable-clause-edit
returns-then-not-comparable-clause-edit g c = λ t tree st.
    let S = c.args.store.now in let s0 = c.args.nodes.now in let s2 = c.find_source.new.nodes in
    let src = c.components-source.result.now in let tgt = c.components-target.result.now in let k = c.in_ok-number.number in
    let h = c.in_ok-number.ensures.ok in
    let here = source_stands S s0 s2 src tgt k h t st in
    let n = stands_there S c.requires.store s2 src k h.at t tree here in
    let holds = holds_there S c.requires.store s2 src k h.at t tree here n.0 n.1 in
    let from_is : src ≡ c.args.from.now = c.components-source.ensures.components in
    let to_is : tgt ≡ c.args.to.now = c.components-target.ensures.components in
    let moved = c.in_ok-relocate.ensures.ok (source_moves S s0 s2 src tgt k h) in
    let apart : comparable tgt src ≡ false = sym c.comparable.ensures ∙ c.if-not-comparable.true in
    let r = c.prune.ensures (can_prune S c.requires.store s2 src k h.at t tree here n.0 n.1 h.still.opened tgt h.target_clear c.relocate.new.nodes moved apart h.clear) in
    same_left S s0 c.prune.new.self (renamed t src tgt) (renamed t c.args.from.now c.args.to.now) (Ok tt) (λ i. renamed t (from_is i) (to_is i))
    (done_so S s0 c.prune.new.self (renamed t src tgt) (put (remove t src) tgt n.0) (left_so t src tgt n.0 n.1 (h.fits t n.0 holds)) r.opened (stands_apart S c.requires.store s2 src k h.at t tree here n.0 n.1 h.still.opened tgt h.target_clear c.relocate.new.nodes moved apart h.clear c.prune.new.self r))

pub returns-else-not-comparable-clause-edit : goal.returns-else-not-comparable-clause-edit
returns-else-not-comparable-clause-edit g c = λ t tree st.
    let S = c.args.store.now in let s0 = c.args.nodes.now in let s2 = c.find_source.new.nodes in
    let src = c.components-source.result.now in let tgt = c.components-target.result.now in let k = c.in_ok-number.number in
    let h = c.in_ok-number.ensures.ok in
    let here = source_stands S s0 s2 src tgt k h t st in
    let n = stands_there S c.requires.store s2 src k h.at t tree here in
    let holds = holds_there S c.requires.store s2 src k h.at t tree here n.0 n.1 in
    let from_is : src ≡ c.args.from.now = c.components-source.ensures.components in
    let to_is : tgt ≡ c.args.to.now = c.components-target.ensures.components in
    let moved = c.in_ok-relocate.ensures.ok (source_moves S s0 s2 src tgt k h) in
    same_left S s0 c.relocate.new.nodes (renamed t src tgt) (renamed t c.args.from.now c.args.to.now) (Ok tt) (λ i. renamed t (from_is i) (to_is i))
    (done_so S s0 c.relocate.new.nodes (renamed t src tgt) (put (remove t src) tgt n.0) (left_so t src tgt n.0 n.1 (h.fits t n.0 holds)) moved.opened (stands_over S c.requires.store s2 src k h.at t tree here n.0 n.1 h.still.opened tgt h.target_clear c.relocate.new.nodes moved (sym c.comparable.ensures ∙ c.if-not-comparable.false)))

pub returns-in_err-number-clause-paid : goal.returns-in_err-number-clause-paid
returns-in_err-number-clause-paid g c = λ t st. paid_there t c.components-source.result.now c.components-target.result.now c.args.from.now c.args.to.now c.components-source.ensures.components c.components-target.ensures.components c.args.steps.now c.find_source.new.steps c.find_source.new.steps (c.find_source.ensures.paid t st) (omega arith)

pub returns-in_err-relocate-clause-paid : goal.returns-in_err-relocate-clause-paid
returns-in_err-relocate-clause-paid g c = λ t st. paid_there t c.components-source.result.now c.components-target.result.now c.args.from.now c.args.to.now c.components-source.ensures.components c.components-target.ensures.components c.args.steps.now c.find_source.new.steps c.relocate.new.steps (c.find_source.ensures.paid t st) c.relocate.ensures.few

pub returns-then-not-comparable-clause-paid : goal.returns-then-not-comparable-clause-paid
returns-then-not-comparable-clause-paid g c = λ t st. paid_there t c.components-source.result.now c.components-target.result.now c.args.from.now c.args.to.now c.components-source.ensures.components c.components-target.ensures.components c.args.steps.now c.find_source.new.steps c.relocate.new.steps (c.find_source.ensures.paid t st) c.relocate.ensures.few

pub returns-else-not-comparable-clause-paid : goal.returns-else-not-comparable-clause-paid
returns-else-not-comparable-clause-paid g c = λ t st. paid_there t c.components-source.result.now c.components-target.result.now c.args.from.now c.args.to.now c.components-source.ensures.components c.components-target.ensures.components c.args.steps.now c.find_source.new.steps c.relocate.new.steps (c.find_source.ensures.paid t st) c.relocate.ensures.few

pub returns-in_err-number-clause-path : goal.returns-in_err-number-clause-path
returns-in_err-number-clause-path g c = c.components-target.ensures.path

pub returns-in_err-relocate-clause-path : goal.returns-in_err-relocate-clause-path
returns-in_err-relocate-clause-path g c = c.components-target.ensures.path

pub returns-then-not-comparable-clause-path : goal.returns-then-not-comparable-clause-path
returns-then-not-comparable-clause-path g c = c.components-target.ensures.path

pub returns-else-not-comparable-clause-path : goal.returns-else-not-comparable-clause-path
returns-else-not-comparable-clause-path g c = c.components-target.ensures.path

pub find_source-requires-clause-store : goal.find_source-requires-clause-store
find_source-requires-clause-store g c = c.requires.store

pub find_source-requires-clause-opened : goal.find_source-requires-clause-opened
find_source-requires-clause-opened g c = c.requires.opened

pub relocate-requires-clause-path : goal.relocate-requires-clause-path
relocate-requires-clause-path g c = ap is_path c.components-target.ensures.components ∙ c.components-target.ensures.path

pub prune-requires-clause-path : goal.prune-requires-clause-path
prune-requires-clause-path g c = ap is_path c.components-source.ensures.components ∙ c.components-source.ensures.path
