use Rattle.std.proofs.Common.{◌<◌, length, take, not, List, ◌++◌, ap, sym, ◌∙◌, arith}
use Rattle.std.specs.Option.{option_to_list}
use Rattle.fast_import.specs.Replays.{target_name}
use Rattle.stream_reader.specs.declared.commit_ref.CommitRef.{CommitRef}
use Rattle.push_back.specs.Grounds.{from_of}
use Rattle.push_laws.specs.PushReplays.{chain_end}
use Rattle.merge_laws.specs.MergeReplays.{is_once}
use Rattle.merge_laws.specs.StreamLaws.{named}
use Rattle.merge_push.specs.Grounds.{ground_in}
use Rattle.merge_push.proofs.Repeating.{again, line-again, line-more}
use Rattle.merge_push.proofs.commands.repeats.Goals as goal

pub returns-then-is_again : goal.returns-then-is_again
returns-then-is_again c = λ S r h.
    let b = ground_in S c.args.base.now in
    let ms = c.refs-merges.result.now in
    let e = chain_end (from_of c.args.base.now.push) r in
    let t = c.loop-i-test.true in
    let z = c.loop-i.invariant.end in
    let l : c.loop-i.i < length ms = omega (arith, t, z) in
    line-again (λ (m : CommitRef). target_name b r m.target) e ms c.loop-i.i c.index-merges-i.result l (c.loop-i.invariant.once S r h)
    (sym c.if-is_again.true ∙ c.is_again.ensures S r h ∙ ap (λ (m : CommitRef). again (λ (y : CommitRef). target_name b r y.target) e (take c.loop-i.i ms) m) c.index-merges-i.is)
    ∙ ap (λ (xs : List CommitRef). not (is_once (option_to_list e ++ named b r xs))) c.refs-merges.ensures

pub loop-i-preserved : goal.loop-i-preserved
loop-i-preserved c =
    let t = c.loop-i-test.true in
    let z = c.loop-i.invariant.end in
    let ms = c.refs-merges.result.now in
    let l : c.loop-i.i < length ms = omega (arith, t, z) in
    record {
      once = λ S r h.
          let b = ground_in S c.args.base.now in
          let e = chain_end (from_of c.args.base.now.push) r in
          line-more (λ (m : CommitRef). target_name b r m.target) e ms c.loop-i.i c.index-merges-i.result l (c.loop-i.invariant.once S r h)
          (sym c.if-is_again.false ∙ c.is_again.ensures S r h ∙ ap (λ (m : CommitRef). again (λ (y : CommitRef). target_name b r y.target) e (take c.loop-i.i ms) m) c.index-merges-i.is);
      end = z;
    }
