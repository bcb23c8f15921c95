-- Tags that pass a test, one after another.
use Rattle.std.proofs.Common.{◌≡◌, ◌≤◌, ℕ, length, drop, map, arith, Bool, true, false, cond, List, [], ◌∷◌, ◌++◌, filter, append_assoc, append-nil, sym, ap, ◌∙◌}
use Rattle.std.proofs.lemmas.List.{length-map}
use Rattle.std.specs.List.{list_any}
use Rattle.git_objects.specs.Parts.{name_bytes}
use Rattle.git_objects.specs.declared.name.Name.{Name}
use Rattle.fast_export.specs.ExportTexts.{is_among}
use Rattle.fast_export.specs.Given.{is_named}
use Rattle.incremental_export.specs.Unreached.{AreSame}
use Rattle.incremental_export.proofs.WantedNames.{all_added, among_names}
use Rattle.tag_objects.specs.declared.tag.Tag.{Tag}

module _ (test : Tag → Bool) (all left rest before : List Tag) (t : Tag) (split : before ≡ t ∷ rest) (so_far : left ++ filter test before ≡ all) where
  pub kept : test t ≡ true → (more : List Tag) → more ≡ left ++ t ∷ [] → more ++ filter test rest ≡ all
  kept e more same =
      ap (λ ts. ts ++ filter test rest) same
      ∙ append_assoc left (t ∷ []) (filter test rest)
      ∙ ap (λ b. left ++ cond b (t ∷ filter test rest) (filter test rest)) (sym e)
      ∙ ap (λ ts. left ++ filter test ts) (sym split)
      ∙ so_far

  pub passed : test t ≡ false → left ++ filter test rest ≡ all
  passed e =
      ap (λ b. left ++ cond b (t ∷ filter test rest) (filter test rest)) (sym e)
      ∙ ap (λ ts. left ++ filter test ts) (sym split)
      ∙ so_far

pub none-left : (test : Tag → Bool) (all left rest : List Tag) → rest ≡ [] → left ++ filter test rest ≡ all → left ≡ all
none-left test all left rest e h = sym (append-nil left) ∙ ap (λ ts. left ++ filter test ts) (sym e) ∙ h

-- what a set says of a name, when it has got all of these
pub among : (n : Name) (cs ks : List Name) (i : ℕ) → length cs ≤ i → AreSame (drop i (map name_bytes cs) ++ map name_bytes ks) (map name_bytes cs) → {b : Bool} → list_any (is_named n) ks ≡ b → is_among n.0 (map name_bytes cs) ≡ b
among n cs ks i l same e =
    let long : length (map name_bytes cs) ≡ length cs = length-map cs name_bytes in
    let all : length (map name_bytes cs) ≤ i = omega arith in
    sym (all_added (map name_bytes cs) i (map name_bytes ks) (map name_bytes cs) all same n.0) ∙ sym (among_names n ks) ∙ e
