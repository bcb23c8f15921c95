-- Proves what src/keep.rt needs of `fresh`.
use Rattle.std.proofs.Common.{◌∙◌, ap, drop, not}
use Rattle.commit_map.specs.Shown.{Entries, entry_value, kept_at, shown_value}
use Rattle.std.specs.Option.{option_map}
use Rattle.repo_ground.proofs.Keeping.{mapped-some, unheld-set, unheld-there}
use Rattle.repo_ground.proofs.state.State.fresh.Goals as goal
use Rattle.repo_ground.proofs.state.State.fresh.Goals.{then-is_none+in_ok-set, else-is_none}

pub loop-i-preserved : goal.loop-i-preserved
loop-i-preserved c =
    let es : Entries = c.self.inside.ground.map in
    let all : Entries = drop c.self.inside.kept es in
    let x = entry_value c.entry-shown.result in
    elim c.if-is_none.branch [
      | then-is_none+in_ok-set w ↦ rw w.fresh-is (unheld-set es c.loop-i.fresh w.set.new.self c.loop-i.i x all c.loop-i.invariant c.entry-shown.ensures w.in_ok-set.ensures.ok)
      | else-is_none w ↦ rw w.fresh-is
          (unheld-there es c.loop-i.fresh c.loop-i.i x all c.loop-i.invariant c.entry-shown.ensures
          (mapped-some (λ s. option_map shown_value s) c.get.result (kept_at x.0 c.loop-i.fresh) c.get.ensures (c.is_none.ensures ∙ ap not w.if-is_none.false)))
    ]
