-- Paths in order, by their texts.
use Rattle.std.proofs.Common.{◌≡◌, Bool, true, false, T, refl, sym, ap, subst, ◌∙◌, true≢false}
use Rattle.std.specs.declared.cmp.Ordering.{Ordering}
use Rattle.std.specs.declared.cmp.Ordering.TheVariants.{Less, Equal, Greater}
use Rattle.std.specs.Ordering.{is_lt, ordering_reverse, ordering_then}
use Rattle.git_objects.specs.Paths.{Path, before, is_path, path_cmp}
use Rattle.git_objects.proofs.Order.{path_cmp-total}
use Rattle.git_objects.proofs.Texts.{text_order}

valid : (b : Bool) → b ≡ true → T b
valid b h = subst T (sym h) tt

is-before : (p q : Path) → is_path p ≡ true → is_path q ≡ true → before p q ≡ is_lt (path_cmp p q)
is-before p q h g = ap is_lt (text_order p q (valid (is_path p) h) (valid (is_path q) g))

less : (o : Ordering) → true ≡ is_lt o → Less ≡ o
less Less e = refl
less Equal e = absurd (true≢false e)
less Greater e = absurd (true≢false e)

pub less-there : (p q : Path) → is_path p ≡ true → is_path q ≡ true → true ≡ before p q → Less ≡ path_cmp p q
less-there p q h g e = less (path_cmp p q) (e ∙ is-before p q h g)

pub less-back : (p q : Path) → is_path p ≡ true → is_path q ≡ true → true ≡ before q p → Greater ≡ path_cmp p q
less-back p q h g e = sym (path_cmp-total.antisymm p q ∙ ap ordering_reverse (sym (less (path_cmp q p) (e ∙ is-before q p g h))))

pub both-not : (p q : Path) → is_path p ≡ true → is_path q ≡ true → false ≡ before p q → false ≡ before q p → Equal ≡ path_cmp p q
both-not p q h g e f = by (path_cmp p q) refl
  where
    by : (o : Ordering) → path_cmp p q ≡ o → Equal ≡ o
    by Less k = absurd (true≢false (sym (e ∙ is-before p q h g ∙ ap is_lt k)))
    by Equal k = refl
    by Greater k = absurd (true≢false (sym (f ∙ is-before q p g h ∙ ap is_lt (path_cmp-total.antisymm q p ∙ ap ordering_reverse k))))

pub then-equal : (o v : Ordering) → is_lt (ordering_then o v) ≡ is_lt (ordering_then o (ordering_then v Equal))
then-equal Less v = refl
then-equal Greater v = refl
then-equal Equal Less = refl
then-equal Equal Equal = refl
then-equal Equal Greater = refl
