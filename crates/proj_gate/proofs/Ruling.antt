-- The first bad line of a policy.
use Rattle.std.proofs.Common.{◌≡◌, ℕ, ◌+◌, ◌<◌, ◌≤◌, Bool, true, false, List, [], ◌∷◌, ◌++◌, length, refl, sym, ap, ◌∙◌, Option, Some, None, arith}
use Rattle.std.specs.Prelude.{Result, Ok, Err, nat_le}
use Rattle.std.proofs.lemmas.Bool.Decides.{nat_tests}
use Rattle.std.proofs.lemmas.Option.{none-some}
use Rattle.git_objects.specs.Paths.{Bytes}
use Rattle.git_objects.specs.declared.limits.TheConstants.{POLICY_BYTES}
use Rattle.git_objects.specs.Results.{◌>>=◌, or_refuse, must}
use Rattle.proj_gate.specs.Policies.{Rule, line_rules, lines, rules_from, rules}
use Rattle.proj_gate.specs.Laws.{AreRead, IsBadLine, ReadingLaw}

abbrev Rules : Type 0
Rules = Result (List Rule) ℕ

same_line : (m n : ℕ) → (let x : Rules = Err m in let y : Rules = Err n in x ≡ y) → m ≡ n
same_line m n e = cc

not_both : (a : List Rule) (n : ℕ) → (let x : Rules = Err n in let y : Rules = Ok a in x ≡ y) → ⊥
not_both a n e = cc

-- one line, and what comes of the further ones
abbrev with_rules : ℕ → Option (List Rule) → Rules → Rules
with_rules n o z = or_refuse n o >>= λ r. z >>= λ rs. Ok (r ++ rs)

further-bad : (z : Rules) (r : List Rule) (at : ℕ) → (z >>= λ rs. Ok (r ++ rs)) ≡ Err at → z ≡ Err at
further-bad (Ok rs) r at e = absurd (not_both (r ++ rs) at (sym e))
further-bad (Err n) r at e = ap (λ m. Err m) (same_line n at e)

bad-line : (ts : List Bytes) (n at : ℕ) → rules_from n ts ≡ Err at → IsBadLine n ts at
bad-line [] n at e = absurd (not_both [] at (sym e))
bad-line (t ∷ ts) n at e = by (bad-line ts (n + 1) at) (line_rules n t) refl e
  where
    by : (rules_from (n + 1) ts ≡ Err at → IsBadLine (n + 1) ts at) → (w : Option (List Rule)) → line_rules n t ≡ w → with_rules n w (rules_from (n + 1) ts) ≡ Err at → IsBadLine n (t ∷ ts) at
    by rec None i g =
        let same = same_line n at g in
        record { before = []; line = t; after = ts; parted = refl; number = sym same ∙ zero_more n; bad = ap (λ m. line_rules m t) (sym same) ∙ i; good = tt }
      where
        zero_more : (n : ℕ) → n ≡ n + 0
        zero_more n = omega arith
    by rec (Some r) i g =
        let b = rec (further-bad (rules_from (n + 1) ts) r at g) in
        record {
          before = t ∷ b.before;
          line = b.line;
          after = b.after;
          parted = ap (λ (us : List Bytes). t ∷ us) b.parted;
          number = omega (arith, b.number);
          bad = b.bad;
          good = ((λ z. none-some r (sym z ∙ i)), b.good);
        }

further-good : (z : Rules) (r rs : List Rule) → (z >>= λ qs. Ok (r ++ qs)) ≡ Ok rs → (qs : List Rule) × (z ≡ Ok qs)
further-good (Ok qs) r rs e = (qs, refl)
further-good (Err n) r rs e = absurd (not_both rs n e)

good-lines : (ts : List Bytes) (n : ℕ) (rs : List Rule) → rules_from n ts ≡ Ok rs → AreRead n ts
good-lines [] n rs e = tt
good-lines (t ∷ ts) n rs e = by (good-lines ts (n + 1)) (line_rules n t) refl e
  where
    by : ((qs : List Rule) → rules_from (n + 1) ts ≡ Ok qs → AreRead (n + 1) ts) → (w : Option (List Rule)) → line_rules n t ≡ w → with_rules n w (rules_from (n + 1) ts) ≡ Ok rs → AreRead n (t ∷ ts)
    by rec None i g = absurd (not_both rs n g)
    by rec (Some r) i g = let k = further-good (rules_from (n + 1) ts) r rs g in ((λ z. none-some r (sym z ∙ i)), rec k.0 k.1)

-- by whether the text is short enough
abbrev checked : Bytes → Bool → Rules
checked t b = must 0 b >>= λ w. rules_from 1 (lines t)

le_true : (m n : ℕ) → m ≤ n → nat_le m n ≡ true
le_true m n h = grind (arith, nat_tests)

le_false : (m n : ℕ) → n < m → nat_le m n ≡ false
le_false m n h = grind (arith, nat_tests)

true_le : (m n : ℕ) → nat_le m n ≡ true → m ≤ n
true_le m n h = grind (arith, nat_tests)

good : (t : Bytes) (rs : List Rule) → rules t ≡ Ok rs → (length t ≤ POLICY_BYTES) × AreRead 1 (lines t)
unfolding rules
good t rs e = by (nat_le (length t) POLICY_BYTES) refl e
  where
    by : (b : Bool) → nat_le (length t) POLICY_BYTES ≡ b → checked t b ≡ Ok rs → (length t ≤ POLICY_BYTES) × AreRead 1 (lines t)
    by true i g = (true_le (length t) POLICY_BYTES i, good-lines (lines t) 1 rs g)
    by false i g = absurd (not_both rs 0 g)

pub short : (t : Bytes) → length t ≤ POLICY_BYTES → rules t ≡ rules_from 1 (lines t)
unfolding rules
short t h = ap (checked t) (le_true (length t) POLICY_BYTES h)

pub long : (t : Bytes) → POLICY_BYTES < length t → rules t ≡ Err 0
unfolding rules
long t h = ap (checked t) (le_false (length t) POLICY_BYTES h)

pub reading-law : ReadingLaw
unfolding rules
reading-law = record {
  long = λ t h. ap (checked t) (le_false (length t) POLICY_BYTES h);
  bad = λ t at h e. bad-line (lines t) 1 at (sym (ap (checked t) (le_true (length t) POLICY_BYTES h)) ∙ e);
  good = good;
}
