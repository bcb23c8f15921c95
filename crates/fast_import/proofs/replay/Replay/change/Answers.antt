use Rattle.std.proofs.Common.{None, sym, ◌∙◌}
use Rattle.fast_import.specs.Bases.{base_in}
use Rattle.fast_import.proofs.Changing.{change_done, drafted_as, undrafted}
use Rattle.fast_import.proofs.replay.Replay.change.Goals as goal

pub edited-changed-requires-clause-store : goal.edited-changed-requires-clause-store
edited-changed-requires-clause-store g c =
    let d = drafted_as c.args.store.now c.args.self.now c.take_draft.new.self c.requires.so_far.0 c.in-Some.draft c.requires.so_far.1 (sym c.take_draft.ensures.value ∙ c.in-Some.is) c.take_draft.ensures.after in
    d.2.stage.store

pub edited-changed-requires-clause-so_far : goal.edited-changed-requires-clause-so_far
edited-changed-requires-clause-so_far g c =
    (record c.requires.so_far.0 { draft = None }, undrafted c.args.store.now c.args.self.now c.take_draft.new.self c.requires.so_far.0 c.in-Some.draft c.requires.so_far.1 (sym c.take_draft.ensures.value ∙ c.in-Some.is) c.take_draft.ensures.after)

pub edited-changed-requires-clause-stage : goal.edited-changed-requires-clause-stage
edited-changed-requires-clause-stage g c =
    let d = drafted_as c.args.store.now c.args.self.now c.take_draft.new.self c.requires.so_far.0 c.in-Some.draft c.requires.so_far.1 (sym c.take_draft.ensures.value ∙ c.in-Some.is) c.take_draft.ensures.after in
    (d.0.tree, d.2.stage)

pub returns : goal.returns
returns g c = λ r h.
    let S = c.args.store.now in
    change_done S c.args.self.now c.take_draft.new.self r c.in-Some.draft h (sym c.take_draft.ensures.value ∙ c.in-Some.is) c.take_draft.ensures.after
    (base_in S (g.B.Base.commits c.args.base.now) (g.B.Base.refs c.args.base.now) (g.B.Base.blobs c.args.base.now)) c.edited-changed.new.store c.edited-changed.new.self c.edited-changed.new.stage c.args.at c.args.change c.edited-changed.result c.edited-changed.ensures
    c.put_draft.new.self c.put_draft.ensures
