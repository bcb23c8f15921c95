-- Reading a path and writing it undo each other.
use Rattle.std.proofs.Common.{◌≡◌, refl, sym, ap, ◌∙◌, subst, ℕ, eqb, nat_le}
use Rattle.std.proofs.Common.{Bool, true, false, cond, T, [], ◌∷◌, ◌++◌, length, Result, Ok, Err}
use Rattle.std.specs.List.{list_all, onto_first}
use Rattle.std.specs.Cmp.{first_so, second_so}
use Rattle.std.proofs.lemmas.Bool.{not-true}
use Rattle.std.proofs.lemmas.List.Splits.{join_with_byte-slice_split, slice_split-cons_no}
use Rattle.git_objects.specs.Paths.{Bytes, Path, is_component, is_path, text}
use Rattle.git_objects.specs.declared.limits.TheConstants.{COMPONENT_BYTES, PATH_COMPONENTS, PATH_BYTES}
use Rattle.git_objects.proofs.Basics.{plain, plain-component, first, second}
use Rattle.path_names.specs.PathTexts.{parts, path_of}
use Rattle.path_names.specs.Laws.{PathTextLaw}
use Rattle.path_names.specs.declared.path.PathFault.{PathFault}
use Rattle.path_names.specs.declared.path.PathFault.TheVariants.{BadComponent, LongComponent, TooDeep, TooLong}
use Rattle.path_names.proofs.SplitParts.{is_path-parts}

record IsReading (t : Bytes) (p : Path) : Type 0 where
  same : p ≡ parts t
  components : list_all is_component (parts t) ≡ true

-- the last four faults, by their tests
abbrev answer : Bool → Bool → Bool → Bool → Path → Result Path PathFault
answer a b c d p =
    cond a (cond b (cond c (cond d (Ok p) (Err TooLong)) (Err TooDeep)) (Err LongComponent)) (Err BadComponent)

answered : (a b c d : Bool) (p q : Path) → answer a b c d p ≡ Ok q → (a ≡ true) × (q ≡ p)
answered true true true true p q e = let h : q ≡ p = cc in (refl, h)
answered true true true false p q e = let h : ⊥ = cc in absurd h
answered true true false d p q e = let h : ⊥ = cc in absurd h
answered true false c d p q e = let h : ⊥ = cc in absurd h
answered false b c d p q e = let h : ⊥ = cc in absurd h

reading : (t : Bytes) (p : Path) → path_of t ≡ Ok p → IsReading t p
unfolding path_of
reading [] p e = let h : ⊥ = cc in absurd h
reading (x ∷ t) p e =
    let ps = parts (x ∷ t) in
    let h =
    answered (list_all is_component ps) (list_all (λ c. nat_le (length c) COMPONENT_BYTES) ps) (nat_le (length ps) PATH_COMPONENTS)
    (nat_le (length (x ∷ t)) PATH_BYTES) ps p e in
    record { same = h.1; components = h.0 }

no_slash_first : (x : ℕ) (c : Bytes) → plain (x ∷ c) ≡ true → eqb x 47 ≡ false
no_slash_first x c h = not-true (eqb x 47) (second_so _ _ (first_so _ _ h))

whole : (c : Bytes) → plain c ≡ true → parts c ≡ c ∷ []
whole [] h = refl
whole (x ∷ c) h =
    slice_split-cons_no (λ y. eqb y 47) x c (no_slash_first x c h) ∙ ap (onto_first x) (whole c (second_so _ _ h))

front : (c t : Bytes) → plain c ≡ true → parts (c ++ 47 ∷ t) ≡ c ∷ parts t
front [] t h = refl
front (x ∷ c) t h =
    slice_split-cons_no (λ y. eqb y 47) x (c ++ 47 ∷ t) (no_slash_first x c h)
    ∙ ap (onto_first x) (front c t (second_so _ _ h))

true-from : (b : Bool) → T b → b ≡ true
true-from true h = refl
true-from false h = absurd h

written : (p : Path) → T (is_path p) → parts (text p) ≡ p
written [] h = absurd h
written (c ∷ []) h = whole c (plain-component c (true-from _ (first (is_component c) _ h)))
written (c ∷ d ∷ p) h =
    front c (text (d ∷ p)) (plain-component c (true-from _ (first (is_component c) _ h)))
    ∙ ap (λ q. c ∷ q) (written (d ∷ p) (second (is_component c) _ h))

pub path_text_law : PathTextLaw
path_text_law = record {
  path = λ t p e. let r = reading t p e in subst T (sym (ap is_path r.same ∙ is_path-parts t r.components)) tt;
  same_text = λ t p e. ap text (reading t p e).same ∙ join_with_byte-slice_split 47 t;
  same_parts = written;
}
