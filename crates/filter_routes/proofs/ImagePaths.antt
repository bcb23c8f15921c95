-- Images are paths, and what the way back through a filter's decision list finds.
use Rattle.std.specs.Prelude.{◌≡◌, refl, List, [], ◌++◌, Option, Some, None, true}
use Rattle.std.proofs.Common.{◌∙◌, sym, subst}
use Rattle.std.proofs.lemmas.Bool.{and_parts}
use Rattle.std.proofs.lemmas.Option.{none-some, same_Some}
use Rattle.git_objects.specs.Paths.{Path}
use Rattle.decision_lists.specs.Cells.{cells, origin}
use Rattle.decision_lists.specs.Entries.{Entry}
use Rattle.decision_lists.specs.Fronts.{and_then, kept, or_else, proper, strip, whole}
use Rattle.decision_lists.specs.Lists.{Full, IsPath, Valid}
use Rattle.decision_lists.proofs.Cells.{Gives, Has, cell-of, origin-none, origin-some, run-of}
use Rattle.decision_lists.proofs.Compile.{full-behind, kept-is, left_out-is, proper-full}
use Rattle.decision_lists.proofs.Locating.{has-path}
use Rattle.decision_lists.proofs.Strip.{proper-some}
use Rattle.decision_lists.proofs.Valid.{full-path, path-from, valid-both, valid-path, valid-rest}
use Rattle.filter_text.specs.Filters.{Filter, Filters, chain, dir, exclude, file, join, more, no_more, nop, onto, sub, workspace, has_paths, have_paths}
use Rattle.filter_routes.specs.Images.{first, image, through}
use Rattle.filter_routes.specs.Lists.{IsListOf}
use Rattle.filter_routes.specs.Tables.{IsOrigin}

-- ---- images are not empty

or_else-full : (o o' : Option Path) (q : Path) → (o ≡ Some q → Full q) → (o' ≡ Some q → Full q) → or_else o o' ≡ Some q → Full q
or_else-full None o' q f g e = g e
or_else-full (Some x) o' q f g e = f e

and_then-full : (o : Option Path) (g : Path → Option Path) (q : Path) → ((x : Path) → o ≡ Some x → g x ≡ Some q → Full q) → and_then o g ≡ Some q → Full q
and_then-full None g q h e = absurd (none-some q e)
and_then-full (Some x) g q h e = h x refl e

mutual
  pub image-full : (f : Filter) (p q : Path) → Full p → image f p ≡ Some q → Full q
  image-full nop p q n e = subst Full (same_Some p q e) n
  image-full (sub a) p q n e = proper-full (strip a p) q e
  image-full (onto a) p q n e = subst Full (same_Some (a ++ p) q e) (full-behind a p n)
  image-full (dir a) p q n e = subst Full (kept-is (proper (strip a p)) p q e) n
  image-full (file a) p q n e = subst Full (kept-is (whole (strip a p)) p q e) n
  image-full (exclude f) p q n e = subst Full (left_out-is (image f p) p q e) n
  image-full (join fs) p q n e = first-full fs p q n e
  image-full (chain fs) p q n e = through-full fs p q n e
  image-full (workspace a) p q n e = proper-full (strip a p) q e

  pub first-full : (fs : Filters) (p q : Path) → Full p → first fs p ≡ Some q → Full q
  first-full no_more p q n e = absurd (none-some q e)
  first-full (more f fs) p q n e = or_else-full (image f p) (first fs p) q (image-full f p q n) (first-full fs p q n) e

  pub through-full : (fs : Filters) (p q : Path) → Full p → through fs p ≡ Some q → Full q
  through-full no_more p q n e = subst Full (same_Some p q e) n
  through-full (more f fs) p q n e =
      and_then-full (image f p) (through fs) q (λ x h k. through-full fs x q (image-full f p x n h) k) e

-- ---- images are of components

valid-kept : (o : Option Path) (p q : Path) → kept o p ≡ Some q → Valid p → Valid q
valid-kept o p q e h = subst Valid (kept-is o p q e) h

or_else-valid : (o o' : Option Path) (q : Path) → (o ≡ Some q → Valid q) → (o' ≡ Some q → Valid q) → or_else o o' ≡ Some q → Valid q
or_else-valid None o' q f g e = g e
or_else-valid (Some x) o' q f g e = f e

and_then-valid : (o : Option Path) (g : Path → Option Path) (q : Path) → ((x : Path) → o ≡ Some x → g x ≡ Some q → Valid q) → and_then o g ≡ Some q → Valid q
and_then-valid None g q h e = absurd (none-some q e)
and_then-valid (Some x) g q h e = h x refl e

mutual
  pub image-valid : (f : Filter) (p q : Path) → has_paths f ≡ true → Valid p → image f p ≡ Some q → Valid q
  image-valid nop p q v h e = subst Valid (same_Some p q e) h
  image-valid (sub a) p q v h e = valid-rest a p q (proper-some (strip a p) q e) h
  image-valid (onto a) p q v h e = subst Valid (same_Some (a ++ p) q e) (valid-both a p (valid-path a v) h)
  image-valid (dir a) p q v h e = valid-kept (proper (strip a p)) p q e h
  image-valid (file a) p q v h e = valid-kept (whole (strip a p)) p q e h
  image-valid (exclude f) p q v h e = subst Valid (left_out-is (image f p) p q e) h
  image-valid (join fs) p q v h e = first-valid fs p q v h e
  image-valid (chain fs) p q v h e = through-valid fs p q v h e
  image-valid (workspace a) p q v h e = valid-rest a p q (proper-some (strip a p) q e) h

  pub first-valid : (fs : Filters) (p q : Path) → have_paths fs ≡ true → Valid p → first fs p ≡ Some q → Valid q
  first-valid no_more p q v h e = absurd (none-some q e)
  first-valid (more f fs) p q v h e =
      let w : (has_paths f ≡ true) × (have_paths fs ≡ true) = and_parts (has_paths f) (have_paths fs) v in
      or_else-valid (image f p) (first fs p) q (image-valid f p q w.0 h) (first-valid fs p q w.1 h) e

  pub through-valid : (fs : Filters) (p q : Path) → have_paths fs ≡ true → Valid p → through fs p ≡ Some q → Valid q
  through-valid no_more p q v h e = subst Valid (same_Some p q e) h
  through-valid (more f fs) p q v h e =
      let w : (has_paths f ≡ true) × (have_paths fs ≡ true) = and_parts (has_paths f) (have_paths fs) v in
      and_then-valid (image f p) (through fs) q (λ x k l. through-valid fs x q w.1 (image-valid f p x w.0 h k) l) e

pub image-path : (f : Filter) (p q : Path) → has_paths f ≡ true → IsPath p → image f p ≡ Some q → IsPath q
image-path f p q v h e = path-from q (image-full f p q (full-path p h) e) (image-valid f p q v (valid-path p h) e)

-- ---- the way back

pub origin-told : (f : Filter) (es : List Entry) (q : Path) (o : Option Path) → IsListOf f es → IsPath q → o ≡ origin (cells [] es) q → IsOrigin f q o
origin-told f es q None h v e = λ p n k.
    origin-none (cells [] es) q p (sym e) (cell-of es [] p q tt (h.gives p (full-path p n) ∙ k))
origin-told f es q (Some p) h v e =
    let g : Has (Gives p q) (cells [] es) = origin-some (cells [] es) q p (sym e) in
    let n : IsPath p = has-path es [] p q h.fine (valid-path q v) g in
    (n, sym (h.gives p (full-path p n)) ∙ run-of es [] p q g)
