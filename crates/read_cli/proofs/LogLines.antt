-- Lines of commits and their projections, one after another.
use Rattle.std.proofs.Common.{◌≡◌, ◌⊎◌, inl, inr, List, [], ◌∷◌, ◌++◌, Option, append-nil, append_assoc, refl, sym, ap, ◌∙◌}
use Rattle.std.specs.Prelude.{flat_map, zip}
use Rattle.std.specs.Option.{option_map}
use Rattle.git_objects.specs.Parts.{name_bytes}
use Rattle.git_objects.specs.Paths.{Bytes}
use Rattle.git_objects.specs.declared.name.Name.{Name}
use Rattle.read_cli.specs.Outputs.{name_line}

abbrev pub lines : List Name → List (Option Name) → Bytes
lines cs os = flat_map (λ e. name_line e.0.0 (option_map name_bytes e.1)) (zip cs os)

-- what is written, and the lines of the rest, are the lines of all
abbrev pub IsGoing : List Name → List (Option Name) → List Name → List (Option Name) → Bytes → Type 0
IsGoing commits shown cs os report = report ++ lines cs os ≡ lines commits shown

none-left : (cs : List Name) (os : List (Option Name)) → (cs ≡ []) ⊎ (os ≡ []) → lines cs os ≡ []
none-left [] os e = refl
none-left (c ∷ cs) [] e = refl
none-left (c ∷ cs) (o ∷ os) (inl e) = cc
none-left (c ∷ cs) (o ∷ os) (inr e) = cc

module _ (commits : List Name) (shown : List (Option Name)) where
  pub going-first : (cs : List Name) (os : List (Option Name)) (report : Bytes) → cs ≡ commits → os ≡ shown → report ≡ [] → IsGoing commits shown cs os report
  going-first cs os report p q none = λ i. none i ++ lines (p i) (q i)

  pub going-on : (before cs : List Name) (others os : List (Option Name)) (c : Name) (o : Option Name) (report more : Bytes) → before ≡ c ∷ cs → others ≡ o ∷ os → IsGoing commits shown before others report
      → more ≡ report ++ name_line c.0 (option_map name_bytes o) → IsGoing commits shown cs os more
  going-on before cs others os c o report more p q i same =
      ap (λ (x : Bytes). x ++ lines cs os) same
      ∙ append_assoc report (name_line c.0 (option_map name_bytes o)) (lines cs os)
      ∙ sym (λ j. report ++ lines (p j) (q j))
      ∙ i

  pub going-end : (cs : List Name) (os : List (Option Name)) (report : Bytes) → (cs ≡ []) ⊎ (os ≡ []) → IsGoing commits shown cs os report → report ≡ lines commits shown
  going-end cs os report e i = sym (append-nil report) ∙ ap (λ (x : Bytes). report ++ x) (sym (none-left cs os e)) ∙ i
