-- The laws of laying, for filters.
use Rattle.std.proofs.Common.{◌≡◌, true, ap, ◌∙◌, sym}
use Rattle.git_objects.specs.Trees.{Flat, at}
use Rattle.filter_text.specs.Filters.{Filter, has_paths}
use Rattle.filter_routes.specs.Lenses.{IsLens}
use Rattle.filter_routes.specs.Origins.{lens_of}
use Rattle.filter_routes.specs.Soundness.{IsSound}
use Rattle.filter_routes.proofs.Inverse.{the_law as lens_law}
use Rattle.filter_routes.proofs.SeenTrees.{seen-tree}
use Rattle.filter_unapply.specs.Laws.{LayingLaw}
use Rattle.filter_unapply.proofs.Lawful.{at-image, kept-laid, laid-again, laid-shown, laid-tree, parts, shown-laid}

lens : (r : Filter) → has_paths r ≡ true → IsSound r → IsLens (lens_of r)
lens r v s = lens_law.lens r v s

pub the_law : LayingLaw
the_law = record {
  tree = λ r t n u v s h w e. laid-tree (lens_of r) (lens r v s) t n u h w e;
  shown_again = λ r t n u v s h w e. shown-laid (lens_of r) (lens r v s) t n u h w e;
  shown_tree = λ r t v s h. seen-tree (lens_of r) (lens r v s) t h;
  given_back = λ r t v s h. laid-shown (lens_of r) (lens r v s) t h;
  laid_again = λ r t n u m v s h w e. laid-again (lens_of r) (lens r v s) t n u m h w e;
  hidden = λ r t n u p v s h w e i. kept-laid (lens_of r) (lens r v s) t n u h w e p i;
  laid_at = λ r t n u p q v s h w e k i.
      let x = parts (lens_of r) (lens r v s) t n u e in
      ap (λ (z : Flat). at z p) (sym x.2) ∙ at-image (lens_of r) (lens r v s) t n w.paths p q k i;
}
