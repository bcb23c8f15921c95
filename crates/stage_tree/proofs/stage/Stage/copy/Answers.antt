use Rattle.std.proofs.Common.{arith}
use Rattle.stage_tree.proofs.Marked.{rooted_in}
use Rattle.std.proofs.lemmas.Result.{err_from_is_err_and}
use Rattle.stage_tree.specs.Edits.{copied}
use Rattle.stage_tree.proofs.CopyShown.{copy_open, copy_refused, copy_shown}
use Rattle.stage_tree.proofs.Staging.{most_stays, stage_of, stands_opened}
use Rattle.stage_tree.proofs.stage.Stage.copy.Goals as goal

pub copy-requires-clause-most : goal.copy-requires-clause-most
copy-requires-clause-most c =
    let t = c.requires.0 in let h = c.requires.1 in
    (t, h.tree, stands_opened c.args.store.now c.self.inside.nodes c.open_root.new.self c.self.inside.most c.args.self.now t c.self.view_is c.in_ok-open_root.ensures.ok h, most_stays c.args.store.now c.self.inside.nodes c.self.inside.most c.args.self.now t t c.self.view_is h (omega arith))

pub returns-in_err-self-inside : goal.returns-in_err-self-inside
returns-in_err-self-inside c = λ t h.
    let p = err_from_is_err_and c.from_residual-in_err-self-inside.result c.from_residual-in_err-self-inside.ensures.1 in
    rw (p.1) (copy_refused c.args.store.now c.self.inside.nodes c.open_root.new.self c.copy.new.nodes c.self.inside.most c.args.self.now c.self.view_is c.in_ok-open_root.ensures.ok t h c.args.from.now c.args.to.now c.in_err-self-inside.field-0.0 p.0 p.2 (c.in_err-self-inside.ensures.edit t h.tree (stands_opened c.args.store.now c.self.inside.nodes c.open_root.new.self c.self.inside.most c.args.self.now t c.self.view_is c.in_ok-open_root.ensures.ok h)))

pub invariant_of-self-2 : goal.invariant_of-self-2
invariant_of-self-2 c =
    let S = c.args.store.now in let t = c.requires.0 in let h = c.requires.1 in
    record {
      stage = stage_of S c.copy.new.nodes (copy_open S c.open_root.new.self c.copy.new.nodes (copied t c.args.from.now c.args.to.now) c.copy.result (c.copy.ensures.edit t h.tree (stands_opened c.args.store.now c.self.inside.nodes c.open_root.new.self c.self.inside.most c.args.self.now t c.self.view_is c.in_ok-open_root.ensures.ok h)));
      last_there = tt;
    }

pub returns : goal.returns
returns c = λ t h.
    copy_shown c.args.store.now c.self.inside.nodes c.open_root.new.self c.copy.new.nodes c.self.inside.most c.args.self.now c.self.view_is c.in_ok-open_root.ensures.ok t h c.args.from.now c.args.to.now c.copy.ensures.path c.in_ok-self-inside.field-0 (c.in_ok-self-inside.ensures.edit t h.tree (stands_opened c.args.store.now c.self.inside.nodes c.open_root.new.self c.self.inside.most c.args.self.now t c.self.view_is c.in_ok-open_root.ensures.ok h))

pub open_root-requires-clause-stage : goal.open_root-requires-clause-stage
open_root-requires-clause-stage c = c.self.invariant.stage

pub open_root-requires-clause-held : goal.open_root-requires-clause-held
open_root-requires-clause-held c = rooted_in c.args.store.now c.self.inside.nodes c.self.inside.most c.args.self.now c.self.view_is c.requires.0 c.requires.1

pub invariant_of-self : goal.invariant_of-self
invariant_of-self c = record { stage = c.in_err-open_root.ensures.err.stage; last_there = tt }

pub copy-requires-clause-store : goal.copy-requires-clause-store
copy-requires-clause-store c = c.requires.1.store

pub copy-requires-clause-opened : goal.copy-requires-clause-opened
copy-requires-clause-opened c = c.in_ok-open_root.ensures.ok.opened

pub invariant_of-self-in_err-self-inside : goal.invariant_of-self-in_err-self-inside
invariant_of-self-in_err-self-inside c =
    let S = c.args.store.now in let t = c.requires.0 in let h = c.requires.1 in
    record {
      stage = stage_of S c.copy.new.nodes (copy_open S c.open_root.new.self c.copy.new.nodes (copied t c.args.from.now c.args.to.now) c.copy.result (c.copy.ensures.edit t h.tree (stands_opened c.args.store.now c.self.inside.nodes c.open_root.new.self c.self.inside.most c.args.self.now t c.self.view_is c.in_ok-open_root.ensures.ok h)));
      last_there = tt;
    }
