use Rattle.std.proofs.Common.{arith}
use Rattle.stage_tree.proofs.Marked.{rooted_in}
use Rattle.stage_tree.specs.Edits.{renamed}
use Rattle.stage_tree.proofs.Moved.{edited_open, shows_moved}
use Rattle.stage_tree.proofs.Staging.{stage_of, stands_opened}
use Rattle.stage_tree.proofs.stage.Stage.rename.Goals as goal

pub invariant_of-self-2 : goal.invariant_of-self-2
invariant_of-self-2 g c =
    let S = c.args.store.now in let t = c.requires.0 in let h = c.requires.1 in
    record {
      stage = stage_of S c.rename.new.nodes (edited_open S c.enter_root.new.self c.rename.new.nodes (renamed t c.args.from.now c.args.to.now) c.rename.result
          (c.rename.ensures.edit t h.tree (stands_opened S c.self.inside.nodes c.enter_root.new.self c.self.inside.most c.args.self.now t c.self.view_is c.in_ok-enter_root.ensures.ok h)));
      last_there = tt;
    }

pub returns-clause-edit : goal.returns-clause-edit
returns-clause-edit g c = λ t h.
    let S = c.args.store.now in
    shows_moved S c.self.inside.nodes c.enter_root.new.self c.rename.new.nodes c.self.inside.most c.args.self.now c.self.view_is c.in_ok-enter_root.ensures.ok t h c.args.from.now c.args.to.now c.rename.ensures.path c.rename.result
    (c.rename.ensures.edit t h.tree (stands_opened S c.self.inside.nodes c.enter_root.new.self c.self.inside.most c.args.self.now t c.self.view_is c.in_ok-enter_root.ensures.ok h))

pub returns-clause-steps : goal.returns-clause-steps
returns-clause-steps g c = λ t h.
    let S = c.args.store.now in
    let st = stands_opened S c.self.inside.nodes c.enter_root.new.self c.self.inside.most c.args.self.now t c.self.view_is c.in_ok-enter_root.ensures.ok h in
    omega (arith, c.in_ok-enter_root.ensures.paid t st, c.rename.ensures.paid t st)

pub enter_root-requires-clause-store : goal.enter_root-requires-clause-store
enter_root-requires-clause-store g c = c.requires.1.store

pub enter_root-requires-clause-stage : goal.enter_root-requires-clause-stage
enter_root-requires-clause-stage g c = c.self.invariant.stage

pub enter_root-requires-clause-held : goal.enter_root-requires-clause-held
enter_root-requires-clause-held g c = rooted_in c.args.store.now c.self.inside.nodes c.self.inside.most c.args.self.now c.self.view_is c.requires.0 c.requires.1

pub invariant_of-self : goal.invariant_of-self
invariant_of-self g c = record { stage = c.in_err-enter_root.ensures.err.stage; last_there = tt }

pub rename-requires-clause-store : goal.rename-requires-clause-store
rename-requires-clause-store g c = c.requires.1.store

pub rename-requires-clause-opened : goal.rename-requires-clause-opened
rename-requires-clause-opened g c = c.in_ok-enter_root.ensures.ok.opened
