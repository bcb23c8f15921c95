-- The commits of a trial, one behind another.
use Rattle.std.proofs.Common.{◌≡◌, ◌+◌, ◌-◌, ◌<◌, ◌%◌, ℕ, suc, [], ◌∷◌, ◌++◌, sym, ap, ◌∙◌, arith, append_assoc}
use Rattle.std.specs.Prelude.{codes, decimal}
use Rattle.git_objects.specs.Paths.{Bytes}
use Rattle.proj_words.specs.TrialTexts.{sized, trial_commit, trial_commits, trial_head}

pub next_commit : (text more : Bytes) (n i : ℕ) → i < n → more ≡ text ++ trial_commit i →
    more ++ trial_commits (n - (i + 1)) (i + 1) ≡ text ++ trial_commits (n - i) i
next_commit text more n i h e =
    let k : n - i ≡ suc (n - (i + 1)) = omega arith in
    ap (λ t. t ++ trial_commits (n - (i + 1)) (i + 1)) e
    ∙ append_assoc text (trial_commit i) (trial_commits (n - (i + 1)) (i + 1))
    ∙ ap (λ m. text ++ trial_commits m i) (sym k)

-- texts joined one after another
pub head_joined : (a b c d e t u v w : Bytes) → t ≡ a ++ b → u ≡ t ++ c → v ≡ u ++ d → w ≡ v ++ e →
    w ≡ a ++ (((b ++ c) ++ d) ++ e)
head_joined a b c d e t u v w h i j k =
    k ∙ ap (λ x. x ++ e) (j ∙ ap (λ x. x ++ d) (i ∙ ap (λ x. x ++ c) h))
    ∙ ap (λ x. (x ++ d) ++ e) (append_assoc a b c)
    ∙ ap (λ x. x ++ e) (append_assoc a (b ++ c) d)
    ∙ append_assoc a ((b ++ c) ++ d) e

pub file_joined : (a b c e t u v w : Bytes) → t ≡ a ++ b → u ≡ t ++ c → v ≡ u ++ (10 ∷ []) → w ≡ v ++ e →
    w ≡ ((a ++ b) ++ c) ++ (10 ∷ e)
file_joined a b c e t u v w h i j k =
    k ∙ ap (λ x. x ++ e) (j ∙ ap (λ x. x ++ (10 ∷ [])) (i ∙ ap (λ x. x ++ c) h))
    ∙ append_assoc ((a ++ b) ++ c) (10 ∷ []) e

four_joined : (a b c d e : Bytes) → (((a ++ b) ++ c) ++ d) ++ e ≡ a ++ ((b ++ c) ++ (d ++ e))
four_joined a b c d e =
    append_assoc ((a ++ b) ++ c) d e
    ∙ ap (λ x. x ++ (d ++ e)) (append_assoc a b c)
    ∙ append_assoc a (b ++ c) (d ++ e)

-- a commit of that time and message, which writes a file
abbrev commit_with : ℕ → Bytes → Bytes → Bytes → Bytes
commit_with seconds message path content =
    (trial_head seconds message ++ codes "M 100644 inline ") ++ (path ++ (10 ∷ sized content))

pub one_commit : (i : ℕ) (old mid new message path content : Bytes) →
    message ≡ codes "c" ++ decimal i ++ 10 ∷ [] →
    path ≡ (97 + i % 4) ∷ (codes "/f" ++ decimal (i % 10)) →
    content ≡ decimal i ++ 10 ∷ [] →
    mid ≡ old ++ trial_head (1700000000 + i) message →
    new ≡ ((mid ++ codes "M 100644 inline ") ++ path) ++ (10 ∷ sized content) →
    new ≡ old ++ trial_commit i
one_commit i old mid new message path content m p k h f =
    f ∙ ap (λ t. ((t ++ codes "M 100644 inline ") ++ path) ++ (10 ∷ sized content)) h
    ∙ four_joined old (trial_head (1700000000 + i) message) (codes "M 100644 inline ") path (10 ∷ sized content)
    ∙ ap (λ t. old ++ commit_with (1700000000 + i) t path content) m
    ∙ ap (λ t. old ++ commit_with (1700000000 + i) (codes "c" ++ decimal i ++ 10 ∷ []) t content) p
    ∙ ap (λ t. old ++ commit_with (1700000000 + i) (codes "c" ++ decimal i ++ 10 ∷ [])
    ((97 + i % 4) ∷ (codes "/f" ++ decimal (i % 10))) t) k
