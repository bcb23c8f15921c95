-- Worked examples.
use Rattle.std.specs.Prelude.{◌≡◌, ℕ, ◌<◌, suc, zero, refl, [], ◌∷◌, ◌++◌, codes, Some, None, true, false, slice_get}
use Rattle.std.proofs.Common.{inl, inr, subst, arith}
use Rattle.std.proofs.lemmas.Option.{none-some, same_Some}
use Rattle.git_objects.specs.Paths.{Path}
use Rattle.git_objects.specs.Trees.{FileLeaf}
use Rattle.filter_text.specs.Filters.{Filter, Filters, nop, sub, onto, dir, file, exclude, join, chain, workspace, no_more, more, only}
use Rattle.filter_routes.specs.Images.{image}
use Rattle.filter_routes.specs.Lenses.{seen_through}
use Rattle.filter_routes.specs.Origins.{origin, lens_of}
use Rattle.filter_routes.specs.Soundness.{Clash}
use Rattle.filter_routes.specs.SoundTests.{is_sound}
use Rattle.filter_routes.specs.Faults.{Piece, nodes, keeps, IsBefore}
use Rattle.filter_routes.specs.FaultTests.{fault}
use Rattle.filter_routes.specs.RouteFaults.{IsRouteFault}
use Rattle.filter_routes.specs.declared.fault.RouteFault.TheVariants.{NotKeeping, Overlap}

abbrev a : Path
a = codes "a" ∷ []

abbrev b : Path
b = codes "b" ∷ []

abbrev x : Path
x = codes "x" ∷ []

abbrev y : Path
y = codes "y" ∷ []

abbrev two : Filter → Filter → Filters
two f g = more f (only g)

-- ---- images

pub nop_keeps : image nop a ≡ Some a
nop_keeps = refl

pub sub_takes_off : image (sub a) (a ++ b) ≡ Some b
sub_takes_off = refl

pub sub_is_below : image (sub a) a ≡ None
sub_is_below = refl

pub prefix_puts_on : image (onto a) b ≡ Some (a ++ b)
prefix_puts_on = refl

pub dir_keeps_below : image (dir a) (a ++ b) ≡ Some (a ++ b)
dir_keeps_below = refl

pub dir_is_below : image (dir a) a ≡ None
dir_is_below = refl

pub file_keeps_one : image (file a) a ≡ Some a
file_keeps_one = refl

pub file_is_one : image (file a) (a ++ b) ≡ None
file_is_one = refl

pub exclude_keeps_others : image (exclude (file a)) b ≡ Some b
exclude_keeps_others = refl

pub exclude_leaves_out : image (exclude (file a)) a ≡ None
exclude_leaves_out = refl

pub the_first_branch : image (join (two (sub a) nop)) (a ++ b) ≡ Some b
the_first_branch = refl

pub the_next_branch : image (join (two (sub a) nop)) (b ++ a) ≡ Some (b ++ a)
the_next_branch = refl

pub no_branch : image (join no_more) a ≡ None
no_branch = refl

pub one_after_the_other : image (chain (two (sub a) (onto x))) (a ++ b) ≡ Some (x ++ b)
one_after_the_other = refl

-- a workspace is read as what lies below it
pub a_workspace : image (workspace a) (a ++ b) ≡ Some b
a_workspace = refl

-- ---- origins

pub sub_puts_on_again : origin (sub a) b ≡ Some (a ++ b)
sub_puts_on_again = refl

pub prefix_takes_off_again : origin (onto a) (a ++ b) ≡ Some b
prefix_takes_off_again = refl

-- what isn't below the prefix comes from no path
pub prefix_gives_nothing_else : origin (onto a) (b ++ a) ≡ None
prefix_gives_nothing_else = refl

pub exclude_leaves_out_origins : origin (exclude (file a)) a ≡ None
exclude_leaves_out_origins = refl

-- `:/a:prefix=x`
pub back_through_a_chain : origin (chain (two (sub a) (onto x))) (x ++ b) ≡ Some (a ++ b)
back_through_a_chain = refl

-- `:[x=:/a,y=:/b]`
pub by_the_second_branch : origin (join (two (chain (two (sub a) (onto x))) (chain (two (sub b) (onto y))))) (y ++ a) ≡ Some (b ++ a)
by_the_second_branch = refl

-- `:/a` sees the leaf of a/b at b, and that of b/a nowhere
pub seen_by_a_sub : seen_through (lens_of (sub a)) ((a ++ b, FileLeaf (codes "1")) ∷ (b ++ a, FileLeaf (codes "2")) ∷ []) ≡ (b, FileLeaf (codes "1")) ∷ []
seen_by_a_sub = refl

-- ---- soundness as a test

-- `:[:/a,:/b]`
pub two_subs : is_sound (join (two (sub a) (sub b))) ≡ false
two_subs = refl

-- `:[::a,::a/]`
pub file_and_directory : is_sound (join (two (file a) (dir a))) ≡ false
file_and_directory = refl

pub exclude_of_sub : is_sound (exclude (sub a)) ≡ false
exclude_of_sub = refl

pub exclude_of_exclude : is_sound (exclude (exclude (file a))) ≡ false
exclude_of_exclude = refl

-- `:[x=:/a,y=:/b]`
pub two_targets : is_sound (join (two (chain (two (sub a) (onto x))) (chain (two (sub b) (onto y))))) ≡ true
two_targets = refl

-- `:[:exclude[::a/,::b/,::b],b=:/a]`
pub all_but_one : is_sound (join (two (exclude (join (more (dir a) (two (dir b) (file b))))) (chain (two (sub a) (onto b))))) ≡ true
all_but_one = refl

-- without `::b` in the exclude the path b stays, and clashes
pub all_but_below : is_sound (join (two (exclude (join (two (dir a) (dir b)))) (chain (two (sub a) (onto b))))) ≡ false
all_but_below = refl

-- ---- pieces

-- `:exclude[:exclude[::a]]`: piece 1 may not stand there
pub an_exclude_in_an_exclude : slice_get (nodes false (exclude (exclude (file a)))) 1 ≡ Some (true, exclude (file a))
an_exclude_in_an_exclude = refl

pub it_may_not : keeps (true, exclude (file a)) ≡ false
it_may_not = refl

-- chains have no number: `:/a:[:/b]` has the list as piece 1
pub chains_are_no_pieces : slice_get (nodes false (chain (two (sub a) (join (only (sub b)))))) 1 ≡ Some (false, join (only (sub b)))
chains_are_no_pieces = refl

-- `:[:/a,:/b]`: a/a and b/a have one image
pub overlapping : Clash (sub a) (sub b)
overlapping = record { p = a ++ a; q = b ++ a; x = a; y = a; path_p = refl; path_q = refl; image_p = refl; image_q = refl; meet = inr refl }

-- `:[::a,::a/]`: the images a and a/b are comparable
pub a_file_and_below : Clash (file a) (dir a)
a_file_and_below = record { p = a; q = a ++ b; x = a; y = a ++ b; path_p = refl; path_q = refl; image_p = refl; image_q = refl; meet = inr refl }

-- ---- faults

-- `:exclude[:/a]`
pub a_sub_does_not_keep : IsRouteFault (exclude (sub a)) (NotKeeping 1)
a_sub_does_not_keep = record { piece = (true, sub a); is_piece = refl; fails = refl; before = only_the_first }
  where
    only_the_first : (m : ℕ) (v : Piece) → m < 1 → slice_get (nodes false (exclude (sub a))) m ≡ Some v → keeps v ≡ true
    only_the_first zero v l e = subst (λ x. keeps x ≡ true) (same_Some (false, exclude (sub a)) v e) refl
    only_the_first (suc m) v l e = absurd (omega (arith, l))

-- `:[:/a,:/b]`
pub two_fronts_overlap : IsRouteFault (join (two (sub a) (sub b))) (Overlap 0 0 1)
two_fronts_overlap = record {
  keeping = all_keep;
  branches = two (sub a) (sub b);
  is_list = refl;
  pair = record { f = sub a; g = sub b; ordered = omega arith; is_f = refl; is_g = refl; clash = overlapping };
  first_list = λ m c d fs l. absurd (omega (arith, l));
  first_pair = λ c d o p. smallest c d o p.ordered;
}
  where
    all_keep : (m : ℕ) (v : Piece) → slice_get (nodes false (join (two (sub a) (sub b)))) m ≡ Some v → keeps v ≡ true
    all_keep zero v e = subst (λ x. keeps x ≡ true) (same_Some (false, join (two (sub a) (sub b))) v e) refl
    all_keep (suc zero) v e = subst (λ x. keeps x ≡ true) (same_Some (false, sub a) v e) refl
    all_keep (suc (suc zero)) v e = subst (λ x. keeps x ≡ true) (same_Some (false, sub b) v e) refl
    all_keep (suc (suc (suc m))) v e = absurd (none-some v e)

    smallest : (c d : ℕ) → IsBefore c d 0 1 → c < d → ⊥
    smallest c d (inl l) o = omega (arith, l)
    smallest c d (inr l) o = omega (arith, l.0, l.1, o)

-- ---- the test that tells the first fault

pub told_of_a_sub : fault (exclude (sub a)) ≡ Some (NotKeeping 1)
unfolding fault
told_of_a_sub = refl

pub told_of_two_fronts : fault (join (two (sub a) (sub b))) ≡ Some (Overlap 0 0 1)
unfolding fault
told_of_two_fronts = refl

-- `:[::a,::a/]`
pub told_of_a_file_and_its_directory : fault (join (two (file a) (dir a))) ≡ Some (Overlap 0 0 1)
unfolding fault
told_of_a_file_and_its_directory = refl

-- `:exclude[:exclude[::a]]`, and what doesn't keep comes before what overlaps
pub told_of_an_exclude_first : fault (join (two (join (two (sub a) (sub b))) (exclude (exclude (file a))))) ≡ Some (NotKeeping 5)
unfolding fault
told_of_an_exclude_first = refl

-- `:[x=:/a,y=:/b]`
pub told_of_no_fault : fault (join (two (chain (two (sub a) (onto x))) (chain (two (sub b) (onto y))))) ≡ None
unfolding fault
told_of_no_fault = refl
