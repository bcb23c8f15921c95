-- What a policy keeps to.
use Rattle.std.specs.Prelude.{◌≡◌, ◌≢◌, ⊤, ◌+◌, ◌<◌, ◌≤◌, ℕ, true, false, List, [], ◌∷◌, ◌++◌, length, Some, None}
use Rattle.std.specs.Prelude.{Ok, Err}
use Rattle.git_objects.specs.Lists.{Each}
use Rattle.git_objects.specs.Paths.{Bytes}
use Rattle.git_objects.specs.declared.limits.TheConstants.{POLICY_BYTES}
use Rattle.filter_text.specs.Filters.{Filter}
use Rattle.proj_gate.specs.Policies.{Act, Rule, Denied, line_rules, lines, rules, applies, verdict_of, decide}

-- ---- decisions

-- The first rule that speaks of an act decides it. Where none does it is denied, by the number 0.
pub record DecisionLaw : Type 0 where
  pub first : (user : Bytes) (act : Act) (refname : Bytes) (f : Filter) (before after : List Rule) (r : Rule) →
      Each (λ b. applies user act refname f b ≡ false) before → applies user act refname f r ≡ true →
      decide (before ++ r ∷ after) user act refname f ≡ verdict_of (Some r)
  pub none : (user : Bytes) (act : Act) (refname : Bytes) (f : Filter) (rs : List Rule) →
      Each (λ b. applies user act refname f b ≡ false) rs → decide rs user act refname f ≡ Denied 0

-- ---- reading

-- each of these lines, which are numbered from n on, is idle or a rule
abbrev pub AreRead : ℕ → List Bytes → Type 0
AreRead n [] = ⊤
AreRead n (t ∷ ts) = (line_rules n t ≢ None) × AreRead (n + 1) ts

-- the first line that is neither idle nor a rule, of lines that are numbered from n on
pub record IsBadLine (n : ℕ) (ts : List Bytes) (at : ℕ) : Type 0 where
  pub before : List Bytes
  pub line : Bytes
  pub after : List Bytes
  pub parted : ts ≡ before ++ line ∷ after
  pub number : at ≡ n + length before
  pub bad : line_rules at line ≡ None
  pub good : AreRead n before

-- A text that is too long has the bad line 0, and the bad line of another one is the first that is neither idle nor a
-- rule. A text that is read is short enough, and has none.
pub record ReadingLaw : Type 0 where
  pub long : (t : Bytes) → POLICY_BYTES < length t → rules t ≡ Err 0
  pub bad : (t : Bytes) (at : ℕ) → length t ≤ POLICY_BYTES → rules t ≡ Err at → IsBadLine 1 (lines t) at
  pub good : (t : Bytes) (rs : List Rule) → rules t ≡ Ok rs → (length t ≤ POLICY_BYTES) × AreRead 1 (lines t)
