use Rattle.std.proofs.Common.{◌≡◌, Ok, Err, inl, ap, ◌∙◌}
use Rattle.std.proofs.lemmas.Result.{err_from_is_err_and}
use Rattle.git_objects.specs.Paths.{is_path}
use Rattle.git_objects.specs.Trees.{put}
use Rattle.stage_tree.specs.Edits.{copied}
use Rattle.stage_nodes.proofs.OnWay.{still_on}
use Rattle.stage_tree.proofs.Moving.{holds_there, not_copied, source_moves, source_stands, stands_there}
use Rattle.stage_tree.proofs.CopyEdits.{copy_done, copy_left, files_held, room_refused, same_copy, stands_copied}
use Rattle.stage_tree.proofs.copies.copy.Goals as goal

pub find_source-requires-clause-from : goal.find_source-requires-clause-from
find_source-requires-clause-from g c = ap is_path c.components-source.ensures.components ∙ c.components-source.ensures.path

pub find_source-requires-clause-to : goal.find_source-requires-clause-to
find_source-requires-clause-to g c = ap is_path c.components-target.ensures.components ∙ c.components-target.ensures.path

pub returns-in_err-number-clause-edit : goal.returns-in_err-number-clause-edit
returns-in_err-number-clause-edit g c = λ t tree st.
    let S = c.args.store.now in let s0 = c.args.nodes.now in
    let src = c.components-source.result.now in let tgt = c.components-target.result.now in
    let from_is : src ≡ c.args.aim.from.now = c.components-source.ensures.components in
    let to_is : tgt ≡ c.args.aim.to.now = c.components-target.ensures.components in
    let r = err_from_is_err_and c.from_residual.result c.from_residual.ensures.1 in
    let e = c.in_err-number.ensures.err in
    rw (r.1, r.2) (same_copy S s0 c.find_source.new.nodes (copied t src tgt) (copied t c.args.aim.from.now c.args.aim.to.now) (Err c.in_err-number.field-0.0) (λ i. copied t (from_is i) (to_is i)) (record {
      done = tt;
      refused = (e.still, not_copied t src tgt c.in_err-number.field-0.0 (e.refused t tree st));
    }))

pub most_with_copy-requires-clause-opened : goal.most_with_copy-requires-clause-opened
most_with_copy-requires-clause-opened g c = c.in_ok-number.ensures.ok.still.opened

pub most_with_copy-requires-clause-place : goal.most_with_copy-requires-clause-place
most_with_copy-requires-clause-place g c = c.in_ok-number.ensures.ok.at.place

pub most_with_copy-requires-clause-path : goal.most_with_copy-requires-clause-path
most_with_copy-requires-clause-path g c = ap is_path c.components-target.ensures.components ∙ c.components-target.ensures.path

pub most_with_copy-requires-clause-clear : goal.most_with_copy-requires-clause-clear
most_with_copy-requires-clause-clear g c = c.in_ok-number.ensures.ok.target_clear

pub most_with_copy-requires-clause-most : goal.most_with_copy-requires-clause-most
most_with_copy-requires-clause-most g c =
    let S = c.args.store.now in let s0 = c.args.nodes.now in let s2 = c.find_source.new.nodes in
    let src = c.components-source.result.now in let tgt = c.components-target.result.now in let k = c.in_ok-number.number in
    let h = c.in_ok-number.ensures.ok in
    let t = c.requires.most in
    files_held S c.requires.store s2 h.still.opened t.0 t.1 (source_stands S s0 s2 src tgt k h t.0 t.2) c.args.most t.3

pub returns-in_err-most-clause-edit : goal.returns-in_err-most-clause-edit
returns-in_err-most-clause-edit g c = λ t tree st.
    let S = c.args.store.now in let s0 = c.args.nodes.now in let s2 = c.find_source.new.nodes in
    let src = c.components-source.result.now in let tgt = c.components-target.result.now in let k = c.in_ok-number.number in
    let h = c.in_ok-number.ensures.ok in
    let here = source_stands S s0 s2 src tgt k h t st in
    let n = stands_there S c.requires.store s2 src k h.at t tree here in
    let holds = holds_there S c.requires.store s2 src k h.at t tree here n.0 n.1 in
    let from_is : src ≡ c.args.aim.from.now = c.components-source.ensures.components in
    let to_is : tgt ≡ c.args.aim.to.now = c.components-target.ensures.components in
    let same : copied t src tgt ≡ copied t c.args.aim.from.now c.args.aim.to.now = λ i. copied t (from_is i) (to_is i) in
    let r = err_from_is_err_and c.from_residual-in_err-most.result c.from_residual-in_err-most.ensures.1 in
    rw (r.1) (same_copy S s0 s2 (copied t src tgt) (copied t c.args.aim.from.now c.args.aim.to.now) (Err r.0) same (record {
      done = tt;
      refused = (h.still, room_refused t src tgt n.0 n.1 (h.fits t n.0 holds) c.in_err-most.field-0.0 r.0 r.2 (c.in_err-most.ensures.err h.at.place t n.0 holds));
    }))

pub duplicate-requires-clause-node : goal.duplicate-requires-clause-node
duplicate-requires-clause-node g c =
    let S = c.args.store.now in let s0 = c.args.nodes.now in let s2 = c.find_source.new.nodes in
    let src = c.components-source.result.now in let tgt = c.components-target.result.now in let k = c.in_ok-number.number in
    let h = c.in_ok-number.ensures.ok in
    source_moves S s0 s2 src tgt k h

pub returns-in_err-duplicate-clause-edit : goal.returns-in_err-duplicate-clause-edit
returns-in_err-duplicate-clause-edit g c = λ t tree st.
    let S = c.args.store.now in let s0 = c.args.nodes.now in let s2 = c.find_source.new.nodes in
    let src = c.components-source.result.now in let tgt = c.components-target.result.now in let k = c.in_ok-number.number in
    let h = c.in_ok-number.ensures.ok in
    let r = err_from_is_err_and c.from_residual-in_err-duplicate.result c.from_residual-in_err-duplicate.ensures.1 in
    rw (r.1) (record { done = tt; refused = (still_on S s0 s2 c.duplicate.new.nodes h.still (c.in_err-duplicate.ensures.err (source_moves S s0 s2 src tgt k h)), inl r.2) })

pub returns-clause-edit : goal.returns-clause-edit
returns-clause-edit g c = λ t tree st.
    let S = c.args.store.now in let s0 = c.args.nodes.now in let s2 = c.find_source.new.nodes in
    let src = c.components-source.result.now in let tgt = c.components-target.result.now in let k = c.in_ok-number.number in
    let h = c.in_ok-number.ensures.ok in
    let here = source_stands S s0 s2 src tgt k h t st in
    let n = stands_there S c.requires.store s2 src k h.at t tree here in
    let holds = holds_there S c.requires.store s2 src k h.at t tree here n.0 n.1 in
    let from_is : src ≡ c.args.aim.from.now = c.components-source.ensures.components in
    let to_is : tgt ≡ c.args.aim.to.now = c.components-target.ensures.components in
    let same : copied t src tgt ≡ copied t c.args.aim.from.now c.args.aim.to.now = λ i. copied t (from_is i) (to_is i) in
    let made = c.in_ok-duplicate.ensures.ok (source_moves S s0 s2 src tgt k h) in
    let room = c.in_ok-most.ensures.ok h.at.place t n.0 holds in
    same_copy S s0 c.duplicate.new.nodes (copied t src tgt) (copied t c.args.aim.from.now c.args.aim.to.now) (Ok c.in_ok-most.most) same
    (copy_done S s0 c.duplicate.new.nodes (copied t src tgt) (put t tgt n.0) c.in_ok-most.most (copy_left t src tgt n.0 n.1 (h.fits t n.0 holds) room.few) made.opened (stands_copied S s2 src k h.at c.duplicate.new.nodes tgt t tree here n.0 n.1 (made.puts)) room.most)

pub returns-in_err-number-clause-path : goal.returns-in_err-number-clause-path
returns-in_err-number-clause-path g c = c.components-target.ensures.path

pub returns-in_err-most-clause-path : goal.returns-in_err-most-clause-path
returns-in_err-most-clause-path g c = c.components-target.ensures.path

pub returns-in_err-duplicate-clause-path : goal.returns-in_err-duplicate-clause-path
returns-in_err-duplicate-clause-path g c = c.components-target.ensures.path

pub returns-clause-path : goal.returns-clause-path
returns-clause-path g c = c.components-target.ensures.path

pub find_source-requires-clause-store : goal.find_source-requires-clause-store
find_source-requires-clause-store g c = c.requires.store

pub find_source-requires-clause-opened : goal.find_source-requires-clause-opened
find_source-requires-clause-opened g c = c.requires.opened

pub most_with_copy-requires-clause-store : goal.most_with_copy-requires-clause-store
most_with_copy-requires-clause-store g c = c.requires.store

pub duplicate-requires-clause-path : goal.duplicate-requires-clause-path
duplicate-requires-clause-path g c = ap is_path c.components-target.ensures.components ∙ c.components-target.ensures.path
