use Rattle.std.proofs.Common.{◌≡◌, ◌≤◌, ◌⊎◌, true, nat_le}
use Rattle.std.proofs.lemmas.Bool.{and_parts, leb-true}
use Rattle.std.specs.Prelude.{Result, Ok, Err, IfOk, MatchResult}
use Rattle.git_objects.specs.Paths.{Bytes}
use Rattle.git_objects.specs.declared.limits.TheConstants.{FILTER_COMPONENTS, FILTER_PIECES}
use Rattle.filter_text.specs.Filters.{components, has_paths, is_filter, pieces}
use Rattle.filter_text.specs.Shapes.{shape}
use Rattle.filter_text.specs.Limits.{read}
use Rattle.filter_text.specs.Spelling.{SpellsFilter}
use Rattle.filter_text.specs.declared.filter.Filter.{Filter}
use Rattle.filter_text.specs.declared.filter.FilterFault.{FilterFault}
use Rattle.filter_text.specs.declared.filter.FilterFault.TheVariants as faults
use Rattle.filter_text.proofs.Goods.{filter-good}
use Rattle.filter_text.proofs.ItemPaths.{readable-paths}
use Rattle.filter_text.proofs.Printable.{read-is, read-filter}
use Rattle.filter_text.proofs.parsing.parse.Goals as goal

abbrev Reads : Bytes → Result Filter FilterFault → Type 0
Reads t r = MatchResult r (λ f. read t ≡ Ok (shape f)) (λ fault. (fault ≡ faults.OutOfMemory) ⊎ (read t ≡ Err fault))

spelled : (t : Bytes) (r : Result Filter FilterFault) → Reads t r → IfOk r (λ f. SpellsFilter t (shape f))
spelled t (Ok f) h = (read-is t (shape f) h).spelled
spelled t (Err e) h = tt

valid : (t : Bytes) (r : Result Filter FilterFault) → Reads t r → IfOk r (λ f. is_filter (shape f) ≡ true)
valid t (Ok f) h = read-filter t (shape f) h
valid t (Err e) h = tt

paths : (t : Bytes) (r : Result Filter FilterFault) → Reads t r → IfOk r (λ f. has_paths (shape f) ≡ true)
paths t (Ok f) h = readable-paths (shape f) (filter-good t (shape f) (read-is t (shape f) h).spelled).paths
paths t (Err e) h = tt

few : (t : Bytes) (r : Result Filter FilterFault) → Reads t r → IfOk r (λ f. pieces (shape f) ≤ FILTER_PIECES)
few t (Ok f) h =
    let small = (read-is t (shape f) h).small in
    leb-true (pieces (shape f)) FILTER_PIECES
    (and_parts (nat_le (pieces (shape f)) FILTER_PIECES) (nat_le (components (shape f)) FILTER_COMPONENTS) small).0
few t (Err e) h = tt

pub returns-clause-paths : goal.returns-clause-paths
returns-clause-paths c = paths c.args.text.now c.read_filter.result c.read_filter.ensures

pub returns-clause-few : goal.returns-clause-few
returns-clause-few c = few c.args.text.now c.read_filter.result c.read_filter.ensures

pub returns-clause-spelled : goal.returns-clause-spelled
returns-clause-spelled c = spelled c.args.text.now c.read_filter.result c.read_filter.ensures

pub returns-clause-valid : goal.returns-clause-valid
returns-clause-valid c = valid c.args.text.now c.read_filter.result c.read_filter.ensures
