-- A sound filter is read again from its canonical text.
use Rattle.std.proofs.Common.{◌≡◌, ◌≤◌, Bool, true, false, cond, length, Option, None, Some, Result, Ok, Err, refl, sym, ap, ◌∙◌}
use borrow.Author.Tests.{leb-true}
use Rattle.std.specs.Prelude.{nat_le}
use Rattle.git_objects.specs.Paths.{Bytes}
use Rattle.git_objects.specs.Results.{◌>>=◌, refused_by}
use Rattle.git_objects.specs.declared.limits.TheConstants.{FILTER_BYTES}
use Rattle.filter_text.specs.Filters.{Filter}
use Rattle.filter_text.specs.Limits.{judged, read, too_deep}
use Rattle.filter_text.specs.Printing.{printed}
use Rattle.filter_text.specs.Reading.{filter_of}
use Rattle.filter_text.specs.declared.filter.FilterFault.{FilterFault}
use Rattle.filter_text.specs.declared.filter.FilterFault.TheVariants.{TooDeep, TooLong, Syntax, TooMany, WorkspacePlace}
use Rattle.filter_text.proofs.Goods.{filter-good}
use Rattle.filter_text.proofs.ItemPaths.{readable-paths}
use Rattle.filter_text.proofs.Printable.{print-law, read-is}
use Rattle.filter_routes.specs.FaultTests.{fault}
use Rattle.filter_routes.specs.declared.fault.RouteFault.{RouteFault}
use Rattle.filter_routes.proofs.FaultsTold.{fault-test-law}
use Rattle.workspace.specs.Laws.{IsUsable}
use Rattle.filter_text.specs.Spelling.{SpellsFilter}
use Rattle.filter_text.proofs.Spelled.{filter-spelled}
use Rattle.proj_gate.specs.Views.{IsSpelled}
use Rattle.state_items.specs.Items.{is_canonical}
use Rattle.state_items.proofs.Canonicals.{canonical-law}
use Rattle.proj_words.specs.Faults.{filter_outcome}
use Rattle.proj_commands.specs.Filters.{sound, without_fault}

-- a text that is read is within the limits of texts
record IsWithin (t : Bytes) : Type 0 where
  short : length t ≤ 4096
  flat : too_deep t ≡ false

read-within : (t : Bytes) (f : Filter) → read t ≡ Ok f → IsWithin t
unfolding read
read-within t f e = by (nat_le (length t) FILTER_BYTES) refl (too_deep t) refl e
  where
    by : (a : Bool) → nat_le (length t) FILTER_BYTES ≡ a → (b : Bool) → too_deep t ≡ b → cond a (cond b (Err TooDeep) (judged (filter_of t))) (Err TooLong) ≡ Ok f → IsWithin t
    by true p true q g = let no : Err TooDeep ≡ Ok f = g in cc
    by true p false q g = record { short = leb-true (length t) 4096 p; flat = q }
    by false p b q g = let no : Err TooLong ≡ Ok f = g in cc

canonical-within : (t : Bytes) → is_canonical t ≡ true → IsWithin t
canonical-within t c = let w = canonical-law.of_text t c in read-within t w.0 w.1.was_read

-- a canonical text is short
pub canonical-short : (t : Bytes) → is_canonical t ≡ true → length t ≤ 4096
canonical-short t c = (canonical-within t c).short

-- ---- what a sound text is read as

record IsSoundText (t : Bytes) (f : Filter) : Type 0 where
  was_read : read t ≡ Ok f
  faultless : fault f ≡ None

sound-parts : (t : Bytes) (f : Filter) → sound t ≡ Ok f → IsSoundText t f
unfolding sound
sound-parts t f e = by (read t) refl e
  where
    no-fault : (g : Filter) (o : Option RouteFault) → read t ≡ Ok g → fault g ≡ o → without_fault g o ≡ Ok f → IsSoundText t f
    no-fault g None r q k = let same : g ≡ f = cc in record { was_read = r ∙ ap Ok same; faultless = ap fault (sym same) ∙ q }
    no-fault g (Some x) r q k = cc

    by : (r : Result Filter FilterFault) → read t ≡ r → (refused_by filter_outcome r >>= λ g. without_fault g (fault g)) ≡ Ok f → IsSoundText t f
    by (Ok g) r k = no-fault g (fault g) r refl k
    by (Err x) r k = cc

-- it is one of paths, and sound
pub sound-usable : (t : Bytes) (f : Filter) → sound t ≡ Ok f → IsUsable f
sound-usable t f e =
    let p = sound-parts t f e in
    let paths = readable-paths f (filter-good t f (read-is t f p.was_read).spelled).paths in
    record { paths = paths; sound = (fault-test-law.sound f paths).0 p.faultless }

-- the canonical text of a sound filter is its text, if it is canonical at all
pub sound-again : (t : Bytes) (f : Filter) → sound t ≡ Ok f → is_canonical (printed f) ≡ true → sound (printed f) ≡ Ok f
unfolding sound
sound-again t f e c =
    let p = sound-parts t f e in
    let w = canonical-within (printed f) c in
    ap (λ (r : Result Filter FilterFault). refused_by filter_outcome r >>= λ g. without_fault g (fault g)) (print-law t f p.was_read w.short w.flat)
    ∙ ap (without_fault f) p.faultless

-- ---- a sound text spells its filter

read-spelled : (t : Bytes) (f : Filter) → read t ≡ Ok f → SpellsFilter t f
unfolding read
read-spelled t f e = by (nat_le (length t) FILTER_BYTES) (too_deep t) e
  where
    fits : (placed small : Bool) (g : Filter) → filter_of t ≡ Some g → cond placed (cond small (Ok g) (Err TooMany)) (Err WorkspacePlace) ≡ Ok f → SpellsFilter t f
    fits true true g q k = let same : g ≡ f = cc in filter-spelled t f (q ∙ ap Some same)
    fits true false g q k = let no : Err TooMany ≡ Ok f = k in cc
    fits false small g q k = let no : Err WorkspacePlace ≡ Ok f = k in cc

    of-judged : (o : Option Filter) → filter_of t ≡ o → judged o ≡ Ok f → SpellsFilter t f
    of-judged None q k = let no : Err Syntax ≡ Ok f = k in cc
    of-judged (Some g) q k = fits _ _ g q k

    by : (short deep : Bool) → cond short (cond deep (Err TooDeep) (judged (filter_of t))) (Err TooLong) ≡ Ok f → SpellsFilter t f
    by true true k = let no : Err TooDeep ≡ Ok f = k in cc
    by true false k = of-judged (filter_of t) refl k
    by false deep k = let no : Err TooLong ≡ Ok f = k in cc

pub sound-spelled : (t : Bytes) (f : Filter) → sound t ≡ Ok f → IsSpelled f
sound-spelled t f e = (t, read-spelled t f (sound-parts t f e).was_read)
