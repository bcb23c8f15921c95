use Rattle.std.proofs.Common.{ap, sym, ◌∙◌}
use Rattle.std.specs.Prelude.{None, false}
use Rattle.std.specs.Option.{option_map_or}
use Rattle.git_objects.specs.Paths.{same_bytes}
use Rattle.fast_import.specs.Replays.{target_name}
use Rattle.stream_reader.specs.declared.commit_ref.CommitRef.{CommitRef}
use Rattle.merge_push.specs.Grounds.{ground_in}
use Rattle.merge_push.proofs.Repeating.{given-here, given-more}
use Rattle.merge_push.proofs.commands.is_named.Goals as goal

pub returns-then-gives : goal.returns-then-gives
returns-then-gives c = λ S r h.
    let n = c.args.name.now.0 in
    given-here (λ (m : CommitRef). target_name (ground_in S c.args.base.now) r m.target) None n c.args.lines.now c.loop-line.line-index c.line-item.result c.loop-line-test.true
    (sym c.if-gives.true ∙ c.gives.ensures S r h ∙ ap (λ (m : CommitRef). option_map_or (same_bytes n) (target_name (ground_in S c.args.base.now) r m.target) false) c.line-item.is)

pub loop-line-preserved : goal.loop-line-preserved
loop-line-preserved c = λ S r h.
    let n = c.args.name.now.0 in
    given-more (λ (m : CommitRef). target_name (ground_in S c.args.base.now) r m.target) None n c.args.lines.now c.loop-line.line-index c.line-item.result c.loop-line-test.true (c.loop-line.invariant S r h)
    (sym c.if-gives.false ∙ c.gives.ensures S r h ∙ ap (λ (m : CommitRef). option_map_or (same_bytes n) (target_name (ground_in S c.args.base.now) r m.target) false) c.line-item.is)
