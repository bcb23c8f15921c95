-- A record is added in two steps: it is staged, and its gate is opened.
use Rattle.std.proofs.Common.{◌≡◌, ◌≤◌, inl, inr, ⊎_elim, ◌++◌, [], ◌∷◌, ℕ, List, length, Ok, Some, None, sym, ◌∙◌, ap, subst, arith}
use Rattle.std.specs.declared.option.Option.{Option}
use Rattle.std.specs.Prelude.{IfSome}
use Rattle.proj_disk.specs.Disks.{DiskView}
use Rattle.proj_journal.specs.Spelling.{listed}
use Rattle.proj_journal.specs.Rest.{StandsAt, IsAtRest, IsStaged, SpellsSame, SpellsOneMore, KeepsRest, KeepsList, Stages, AddsItem, MayAddItem}
use Rattle.proj_journal.proofs.Staging.{staged_stands}
use Rattle.proj_journal.proofs.GateOpening.{gate_within}

pub gate_inside : (end : ℕ) (item : List ℕ) (o : Option DiskView) → IsStaged end item o → IfSome o (λ d. end ≤ length d.bytes)
gate_inside end item None staged = tt
gate_inside end item (Some d) staged = omega (arith, gate_within end item (listed d.bytes) d staged)

-- a staged disk is at rest
pub staged_rest : (end : ℕ) (item : List ℕ) (o : Option DiskView) → IsStaged end item o → IsAtRest end o
staged_rest end item None staged = tt
staged_rest end item (Some d) staged = staged_stands end item (listed d.bytes) d staged

module _ (end : ℕ) (item : List ℕ) where
  -- what a staged disk is
  pub stages_list : (o p : Option DiskView) → Stages end item o p → KeepsList o p
  stages_list None p stages = stages
  stages_list (Some d) None stages = stages
  stages_list (Some d) (Some e) stages = stages.1

  pub stages_staged : (o p : Option DiskView) → Stages end item o p → IsStaged end item p
  stages_staged None p stages = subst (IsStaged end item) (sym stages) tt
  stages_staged (Some d) None stages = absurd stages
  stages_staged (Some d) (Some e) stages = stages.0

  pub added_from : (o p q : Option DiskView) → KeepsList o p → AddsItem end item p q → AddsItem end item o q
  added_from None p q keeps adds = known_none p q keeps adds
    where
      known_none : (p q : Option DiskView) → p ≡ None → AddsItem end item p q → q ≡ None
      known_none None q is adds = adds
      known_none (Some d) q is adds = cc
  added_from (Some d) None q keeps adds = absurd keeps
  added_from (Some d) (Some e) None keeps adds = adds
  added_from (Some d) (Some e) (Some f) keeps adds = (adds.0, adds.1 ∙ ap (λ (l : List (List ℕ)). l ++ item ∷ []) keeps)

  pub may_from : (o p q : Option DiskView) → KeepsList o p → MayAddItem item p q → MayAddItem item o q
  may_from None p q keeps may = known_none p q keeps may
    where
      known_none : (p q : Option DiskView) → p ≡ None → MayAddItem item p q → q ≡ None
      known_none None q is may = may
      known_none (Some d) q is may = cc
  may_from (Some d) None q keeps may = absurd keeps
  may_from (Some d) (Some e) None keeps may = may
  may_from (Some d) (Some e) (Some f) keeps may =
      ⊎_elim (λ old. inl (old ∙ keeps)) (λ new. inr (new ∙ ap (λ (l : List (List ℕ)). l ++ item ∷ []) keeps)) may

  pub may_same : (o p : Option DiskView) → KeepsList o p → MayAddItem item o p
  may_same None p keeps = keeps
  may_same (Some d) None keeps = keeps
  may_same (Some d) (Some e) keeps = inl keeps

  pub one_more_back : (o p : Option DiskView) → KeepsList o p → (image : List ℕ) → SpellsOneMore item p image → SpellsOneMore item o image
  one_more_back None p keeps image is = tt
  one_more_back (Some d) None keeps image is = absurd keeps
  one_more_back (Some d) (Some e) keeps image is =
      ⊎_elim (λ old. inl (old ∙ ap Ok keeps)) (λ new. inr (new ∙ ap (λ (l : List (List ℕ)). Ok (l ++ item ∷ [])) keeps)) is

  pub same_one_more : (o : Option DiskView) → (image : List ℕ) → SpellsSame o image → SpellsOneMore item o image
  same_one_more None image is = tt
  same_one_more (Some d) image is = inl is

  pub rest_from : (o p q : Option DiskView) → Stages end item o p → q ≡ p → KeepsRest end o q
  rest_from None p q stages is = is ∙ stages
  rest_from (Some d) None q stages is = absurd stages
  rest_from (Some d) (Some e) None stages is = cc
  rest_from (Some d) (Some e) (Some f) stages is =
      let same : f ≡ e = cc in
      let list : listed f.bytes ≡ listed d.bytes = ap (λ (v : DiskView). listed v.bytes) same ∙ stages.1 in
      (subst (λ (v : DiskView). StandsAt end (listed d.bytes) v) (sym same) (subst (λ (l : List (List ℕ)). StandsAt end l e) stages.1 (staged_stands end item (listed e.bytes) e stages.0)), list)
