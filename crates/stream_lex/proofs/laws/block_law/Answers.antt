use Rattle.std.proofs.Common.{◌≡◌, ◌<◌, ℕ, length, true, false, Ok, Some, inl, inr, refl, sym, subst, true≢false}
use Rattle.git_objects.specs.Paths.{Bytes}
use Rattle.stream_lex.specs.Lines.{Input, block_at}
use Rattle.stream_lex.specs.Spelling.{TakesBlock}
use Rattle.stream_lex.proofs.BlockSpelled.{BlockTold, block_at-told, block_at-sized, short-again, over_has_none, over-again, more-again}
use Rattle.stream_lex.proofs.laws.block_law.Goals as goal

found_before : (n : ℕ) (i : Input) (b : Bytes) (j : Input) → block_at n false i ≡ Ok (Some b, j) → (h : TakesBlock i b j) × (length b ≡ n) × (0 < length h.rest)
found_before n i b j e =
    let h = subst (BlockTold n false i) e (block_at-told n false i) in
    elim h.2 [ inl w ↦ (h.0, h.1, w) | inr c ↦ absurd (true≢false (sym c)) ]

pub returns : goal.returns
returns c = record {
  block = λ n i b j. (λ e. (let h = subst (BlockTold n true i) e (block_at-told n true i) in (h.0, h.1)), λ h. block_at-sized n true i b j h.0 h.1 (inr refl));
  short = λ n i j. (λ e. (let h = subst (BlockTold n true i) e (block_at-told n true i) in (h.0, h.1, h.2)), λ h. short-again n i j h.0 h.1 h.2);
  block_before = λ n i b j. (found_before n i b j, λ h. block_at-sized n false i b j h.0 h.1 (inl h.2));
  short_before = λ n i j e. true≢false (sym (subst (BlockTold n false i) e (block_at-told n false i)).3);
  long = λ n ended i at e. subst (BlockTold n ended i) e (block_at-told n ended i);
  over = λ n ended i. (
    λ e. (subst (BlockTold n ended i) e (block_at-told n ended i), over_has_none n ended i e),
    λ h. over-again n ended i h.0 h.1,
  );
  more = λ n ended i. (
    λ e. (let h = subst (BlockTold n ended i) e (block_at-told n ended i) in (h.0, h.1, h.2)),
    λ h. more-again n ended i h.0 h.1 h.2,
  );
}
