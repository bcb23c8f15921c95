-- Lists of components, and paths.
use Rattle.std.specs.Prelude.{◌≡◌, refl, [], ◌∷◌, ◌++◌, Some, not}
use Rattle.std.specs.List.{list_all}
use Rattle.std.proofs.Common.{◌∙◌, sym, true≢false, subst}
use Rattle.std.proofs.lemmas.Bool.{and_parts, and_from}
use Rattle.std.proofs.lemmas.List.Folds.{list_all-append}
use Rattle.std.proofs.lemmas.Option.{none-some}
use Rattle.decision_lists.proofs.Strip.{strip-is}
use Rattle.decision_lists.specs.Fronts.{strip}
use Rattle.decision_lists.specs.Lists.{Full, IsPath, Valid}
use Rattle.git_objects.specs.Paths.{Path, is_component, is_nil}

pub valid-both : (s r : Path) → Valid s → Valid r → Valid (s ++ r)
valid-both s r h k = list_all-append is_component s r ∙ and_from (list_all is_component s) (list_all is_component r) h k

pub valid-front : (s r : Path) → Valid (s ++ r) → Valid s
valid-front s r h = (and_parts (list_all is_component s) (list_all is_component r) (sym (list_all-append is_component s r) ∙ h)).0

pub valid-behind : (s r : Path) → Valid (s ++ r) → Valid r
valid-behind s r h = (and_parts (list_all is_component s) (list_all is_component r) (sym (list_all-append is_component s r) ∙ h)).1

pub valid-path : (p : Path) → IsPath p → Valid p
valid-path p h = (and_parts (not (is_nil p)) (list_all is_component p) h).1

pub full-path : (p : Path) → IsPath p → Full p
full-path [] h = absurd (true≢false (sym h))
full-path (c ∷ p) h = refl

pub path-from : (p : Path) → Full p → Valid p → IsPath p
path-from [] f h = absurd (none-some [] f)
path-from (c ∷ p) f h = h

-- what stands behind a front of components
pub valid-rest : (s p r : Path) → strip s p ≡ Some r → Valid p → Valid r
valid-rest s p r e h = valid-behind s r (subst Valid (strip-is s p r e) h)
