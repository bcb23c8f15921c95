-- On paths the order level by level is the order of the texts.
use Rattle.std.proofs.Common.{◌≡◌, ◌≢◌, ℕ, Bool, true, false, T, [], ◌∷◌, ◌++◌, refl, sym, ap, ◌∙◌, true≢false, nat_eq, eq-eqb}
use Rattle.std.specs.declared.cmp.Ordering.{Ordering}
use Rattle.std.specs.declared.cmp.Ordering.TheVariants.{Less, Equal, Greater}
use Rattle.std.specs.Ordering.{nat_cmp, ordering_then, ordering_reverse}
use Rattle.std.specs.Cmp.{first_so, second_so}
use Rattle.std.specs.Cmp.Lexicographic.{slice_cmp, nat_list_cmp_total}
use Rattle.std.specs.FinMap.{slice_cmp-IsAntisymmetric, nat_cmp-IsAntisymmetric}
use Rattle.std.proofs.lemmas.Bool.{not-true}
use Rattle.git_objects.specs.Paths.{Bytes, Path, is_component, is_path, text, path_cmp}
use Rattle.git_objects.proofs.Basics.{first, second, plain, plain-component, no_slash}

then_Equal : (o : Ordering) → ordering_then o Equal ≡ o
then_Equal Less = refl
then_Equal Equal = refl
then_Equal Greater = refl

pub then_assoc : (a b c : Ordering) → ordering_then a (ordering_then b c) ≡ ordering_then (ordering_then a b) c
then_assoc Less b c = refl
then_assoc Equal b c = refl
then_assoc Greater b c = refl

decided : (o a b : Ordering) → o ≢ Equal → ordering_then o a ≡ ordering_then o b
decided Less a b h = refl
decided Equal a b h = absurd (h refl)
decided Greater a b h = refl

then_reverse : (o : Ordering) → ordering_reverse (ordering_reverse o) ≡ o
then_reverse Less = refl
then_reverse Equal = refl
then_reverse Greater = refl

not_slash : (x : ℕ) (c : Bytes) → plain (x ∷ c) ≡ true → nat_cmp x 47 ≢ Equal
not_slash x c h e = true≢false (sym (eq-eqb x 47 (nat_cmp-IsAntisymmetric x 47 e)) ∙ not-true (nat_eq x 47) (second_so _ _ (first_so _ _ h)))

plain-rest : (x : ℕ) (c : Bytes) → plain (x ∷ c) ≡ true → plain c ≡ true
plain-rest x c h = second_so _ _ h

both_more : (c d s t : Bytes) → plain c ≡ true → plain d ≡ true →
    slice_cmp nat_cmp (c ++ 47 ∷ s) (d ++ 47 ∷ t) ≡ ordering_then (slice_cmp nat_cmp (c ++ 47 ∷ []) (d ++ 47 ∷ [])) (slice_cmp nat_cmp s t)
both_more [] [] s t h g = refl
both_more [] (y ∷ d) s t h g =
    decided (nat_cmp 47 y) _ (ordering_then (slice_cmp nat_cmp [] (d ++ 47 ∷ [])) (slice_cmp nat_cmp s t)) (λ e. not_slash y d g (ap (λ x. nat_cmp x 47) (sym (nat_cmp-IsAntisymmetric 47 y e)))) ∙ then_assoc (nat_cmp 47 y) (slice_cmp nat_cmp [] (d ++ 47 ∷ [])) (slice_cmp nat_cmp s t)
both_more (x ∷ c) [] s t h g = decided (nat_cmp x 47) _ (ordering_then (slice_cmp nat_cmp (c ++ 47 ∷ []) []) (slice_cmp nat_cmp s t)) (not_slash x c h) ∙ then_assoc (nat_cmp x 47) (slice_cmp nat_cmp (c ++ 47 ∷ []) []) (slice_cmp nat_cmp s t)
both_more (x ∷ c) (y ∷ d) s t h g = ap (ordering_then (nat_cmp x y)) (both_more c d s t (plain-rest x c h) (plain-rest y d g)) ∙ then_assoc (nat_cmp x y) (slice_cmp nat_cmp (c ++ 47 ∷ []) (d ++ 47 ∷ [])) (slice_cmp nat_cmp s t)

one_more : (c d t : Bytes) → plain c ≡ true → slice_cmp nat_cmp c (d ++ 47 ∷ t) ≡ slice_cmp nat_cmp c (d ++ 47 ∷ [])
one_more [] [] t h = refl
one_more [] (y ∷ d) t h = refl
one_more (x ∷ c) [] t h = decided (nat_cmp x 47) _ _ (not_slash x c h)
one_more (x ∷ c) (y ∷ d) t h = ap (ordering_then (nat_cmp x y)) (one_more c d t (plain-rest x c h))

ended : (o a : Ordering) → o ≢ Equal → o ≡ ordering_then o a
ended o a h = sym (then_Equal o) ∙ decided o Equal a h

last : (c d t : Bytes) (o : Ordering) → is_component c ≡ true → slice_cmp nat_cmp c (d ++ 47 ∷ t) ≡ ordering_then (slice_cmp nat_cmp c (d ++ 47 ∷ [])) o
last c d t o h = one_more c d t (plain-component c h) ∙ ended (slice_cmp nat_cmp c (d ++ 47 ∷ [])) o (λ e. no_slash c d h (slice_cmp-IsAntisymmetric nat_cmp-IsAntisymmetric c (d ++ 47 ∷ []) e))

turn_then : (a b : Ordering) → ordering_reverse (ordering_then a b) ≡ ordering_then (ordering_reverse a) (ordering_reverse b)
turn_then Less b = refl
turn_then Equal b = refl
turn_then Greater b = refl

true-from : (b : Bool) → T b → b ≡ true
true-from true h = refl
true-from false h = absurd h

pub text_order : (p q : Path) → T (is_path p) → T (is_path q) → slice_cmp nat_cmp (text p) (text q) ≡ path_cmp p q
text_order [] q h g = absurd h
text_order (c ∷ p) [] h g = absurd g
text_order (c ∷ []) (d ∷ []) h g = sym (then_Equal (slice_cmp nat_cmp c d))
text_order (c ∷ []) (d ∷ f ∷ q) h g = last c d (text (f ∷ q)) Less (true-from _ (first (is_component c) _ h))
text_order (c ∷ e ∷ p) (d ∷ []) h g =
    nat_list_cmp_total.antisymm (text (c ∷ e ∷ p)) d
    ∙ ap ordering_reverse (last d c (text (e ∷ p)) Less (true-from _ (first (is_component d) _ g)))
    ∙ turn_then (slice_cmp nat_cmp d (c ++ 47 ∷ [])) Less
    ∙ ap (λ o. ordering_then o Greater) (sym (nat_list_cmp_total.antisymm (c ++ 47 ∷ []) d))
text_order (c ∷ e ∷ p) (d ∷ f ∷ q) h g =
    both_more c d (text (e ∷ p)) (text (f ∷ q)) (plain-component c (true-from _ (first (is_component c) _ h))) (plain-component d (true-from _ (first (is_component d) _ g)))
    ∙ ap (ordering_then (slice_cmp nat_cmp (c ++ 47 ∷ []) (d ++ 47 ∷ []))) (text_order (e ∷ p) (f ∷ q) (second (is_component c) _ h) (second (is_component d) _ g))
