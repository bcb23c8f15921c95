-- Objects that are written one after another.
use Rattle.std.proofs.Common.{◌≡◌, ◌<◌, ◌≤◌, ℕ, suc, List, ◌∷◌, ◌++◌, length, drop, get_or, drop-cons, sym, ap, ◌∙◌, append_assoc, append-nil}
use Rattle.std.proofs.lemmas.List.{drop_all}
use Rattle.std.specs.List.{flat_map}
use Rattle.git_objects.specs.Paths.{Bytes}
use Rattle.proj_audit.specs.Steps.{needed_value, needed_values}
use Rattle.proj_audit.specs.Texts.{object_text}
use Rattle.proj_audit.specs.declared.objects.Needed.{Needed}

-- what is written with what is left to write
abbrev pub with_rest : Bytes → List Needed → Bytes
with_rest t ns = t ++ flat_map object_text (needed_values ns)

pub one-more : (ns : List Needed) (k : ℕ) (n : Needed) (t u w : Bytes) → k < length ns → n ≡ get_or ns k n → u ≡ t ++ object_text (needed_value n) →
    with_rest t (drop k ns) ≡ w → with_rest u (drop (suc k) ns) ≡ w
one-more ns k n t u w l e g h =
    ap (λ v. with_rest v (drop (suc k) ns)) g
    ∙ append_assoc t (object_text (needed_value n)) (flat_map object_text (needed_values (drop (suc k) ns)))
    ∙ ap (λ ms. with_rest t ms) (ap (λ m. m ∷ drop (suc k) ns) e ∙ sym (drop-cons ns k n l))
    ∙ h

pub all-written : (ns : List Needed) (k : ℕ) (t w : Bytes) → length ns ≤ k → with_rest t (drop k ns) ≡ w → t ≡ w
all-written ns k t w l h = sym (append-nil t) ∙ ap (with_rest t) (sym (drop_all k ns l)) ∙ h
