use Rattle.std.proofs.Common.{◌≡◌, true, false, Ok, Some, inl, inr, sym, subst, true≢false}
use Rattle.stream_lex.specs.Lines.{Input, Line, line_at}
use Rattle.stream_lex.specs.Spelling.{NextLine, IsWhole}
use Rattle.stream_lex.proofs.Spelled.{Spelled, line_at-spelled, line_at-again, line_at-none, whole_line-again, long-again, over_has_none, over_not_long, over-again, more_has_none, more_not_long, more-again}
use Rattle.stream_lex.proofs.laws.line_law.Goals as goal

found_before : (i : Input) (l : Line) (j : Input) → line_at false i ≡ Ok (Some l, j) → (h : NextLine i l j) × IsWhole i l j h
found_before i l j e =
    let h = subst (Spelled false i) e (line_at-spelled false i) in
    elim h.1 [ inl w ↦ (h.0, w) | inr c ↦ absurd (true≢false (sym c)) ]

pub returns : goal.returns
returns c = record {
  line = λ i l j. (λ e. (subst (Spelled true i) e (line_at-spelled true i)).0, line_at-again i l j);
  none = λ i j. (λ e. (subst (Spelled true i) e (line_at-spelled true i)).0, line_at-none i j);
  line_before = λ i l j. (found_before i l j, λ h. whole_line-again false i l j h.0 h.1);
  none_before = λ i j e. true≢false (sym (subst (Spelled false i) e (line_at-spelled false i)).1);
  long = λ ended i at. (λ e. subst (Spelled ended i) e (line_at-spelled ended i), long-again ended i at);
  over = λ ended i. (
    λ e. (subst (Spelled ended i) e (line_at-spelled ended i), over_has_none ended i e, over_not_long ended i e),
    λ h. over-again ended i h.0 h.1 h.2,
  );
  more = λ ended i. (
    λ e. (let h = subst (Spelled ended i) e.1 (line_at-spelled ended i) in (h.0, h.1, more_has_none ended i e.0 e.1, more_not_long ended i e.0 e.1)),
    λ h. more-again ended i h.0 h.1 h.2 h.3,
  );
}
