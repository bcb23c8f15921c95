use Rattle.std.proofs.Common.{◌≡◌, ◌≤◌, ◌∙◌, ap, sym, Some, length, drop, ◌+◌, ◌*◌, arith, length-drop, true, false, true≢false, [], ◌∷◌}
use Rattle.git_objects.specs.Paths.{Bytes}
use Rattle.std.specs.Option.{option_and_then}
use Rattle.filter_text.specs.Filters.{no_more}
use Rattle.filter_text.specs.Shapes.{shapes}
use Rattle.filter_text.specs.Texts.{gap, begins, target_at}
use Rattle.filter_text.specs.Reading.{pieces_at, list_at, member_of, more_members}
use Rattle.filter_text.specs.Nesting.{nested, resumed, after_list}
use Rattle.filter_text.proofs.Shorter.{gap_shorter}
use Rattle.filter_text.proofs.Resuming.{told, nearer, at_close, at_member}
use Rattle.filter_text.proofs.reader.in_list.Goals as goal

pub returns-then-begins-clause-answer : goal.returns-then-begins-clause-answer
returns-then-begins-clause-answer c =
    let t = c.args.text.now in
    let old = nested c.args.frames.now.items in
    let rest : c.gap.result.1.now ≡ (gap t).1 = ap (λ x. x.1) c.gap.ensures in
    told _ _ (nested c.close.new.frames.items) (shapes c.close.new.pieces.items) c.close.result
    (at_close c.args.frame old (shapes c.args.pieces.now.items) t (ap (begins 93) (sym rest) ∙ sym c.begins.ensures ∙ c.if-begins.true)
    ∙ ap (λ r. resumed old (after_list c.args.frame (Some (no_more, r)))) (ap (drop 1) (sym rest) ∙ sym c.past_first.ensures))
    c.close.ensures.answer

pub returns-then-begins-clause-left : goal.returns-then-begins-clause-left
returns-then-begins-clause-left c =
    let t = c.args.text.now in
    let rest : c.gap.result.1.now ≡ (gap t).1 = ap (λ x. x.1) c.gap.ensures in
    let there : 1 ≤ length c.gap.result.1.now = some c.gap.result.1.now (sym c.begins.ensures ∙ c.if-begins.true) in
    let short = gap_shorter false false t in
    let same : length c.gap.result.1.now ≡ length (gap t).1 = ap length rest in
    let first : length c.past_first.result.now ≡ length (drop 1 c.gap.result.1.now) = ap length c.past_first.ensures in
    let less : length c.past_first.result.now + 1 ≤ length t = omega (arith, length-drop 1 c.gap.result.1.now) in
    nearer (2 * length c.past_first.result.now + 2) (2 * length t + 2) c.close.result (omega arith) c.close.ensures.left
  where
    some : (s : Bytes) → begins 93 s ≡ true → 1 ≤ length s
    some [] e = absurd (true≢false (sym e))
    some (x ∷ s) e = omega arith

pub returns-clause-answer : goal.returns-clause-answer
returns-clause-answer c =
    let t = c.args.text.now in
    let old = nested c.args.frames.now.items in
    let rest : c.gap.result.1.now ≡ (gap t).1 = ap (λ x. x.1) c.gap.ensures in
    told _ _ (nested c.begin_member.new.frames.items) (shapes c.begin_member.new.pieces.items) c.begin_member.result
    (at_member c.args.frame old (shapes c.args.pieces.now.items) t (ap (begins 93) (sym rest) ∙ sym c.begins.ensures ∙ c.if-begins.false)
    ∙ ap (λ r. resumed old (after_list c.args.frame (option_and_then (more_members list_at) (option_and_then (member_of pieces_at) (target_at r))))) (sym rest))
    c.begin_member.ensures.answer

pub returns-clause-left : goal.returns-clause-left
returns-clause-left c =
    let t = c.args.text.now in
    let rest : c.gap.result.1.now ≡ (gap t).1 = ap (λ x. x.1) c.gap.ensures in
    let short = gap_shorter false false t in
    let same : length c.gap.result.1.now ≡ length (gap t).1 = ap length rest in
    nearer (2 * length c.gap.result.1.now + 1) (2 * length t + 2) c.begin_member.result (omega arith) c.begin_member.ensures.left
