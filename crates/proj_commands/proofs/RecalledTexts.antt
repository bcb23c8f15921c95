-- A sound filter's canonical text is sound, and on items that hold what they should its recalled projections are those from scratch.
use Rattle.std.proofs.Common.{◌≡◌, ◌≤◌, Bool, true, false, cond, length, List, Option, None, Some, Result, Ok, Err, refl, sym, ap, ◌∙◌}
use Rattle.std.specs.Prelude.{nat_le}
use Rattle.std.proofs.lemmas.Bool.{leb-true}
use Rattle.git_objects.specs.Paths.{Bytes}
use Rattle.git_objects.specs.Results.{◌>>=◌, refused_by}
use Rattle.git_objects.specs.declared.limits.TheConstants.{FILTER_BYTES}
use Rattle.object_store.specs.Objects.{IsStore}
use Rattle.filter_text.specs.Filters.{Filter}
use Rattle.filter_text.specs.Limits.{judged, read, too_deep}
use Rattle.filter_text.specs.Printing.{printed}
use Rattle.filter_text.specs.Reading.{filter_of}
use Rattle.filter_text.specs.declared.filter.FilterFault.{FilterFault}
use Rattle.filter_text.specs.declared.filter.FilterFault.TheVariants as texts
use Rattle.filter_text.proofs.Printable.{print-law}
use Rattle.filter_routes.specs.FaultTests.{fault}
use Rattle.filter_routes.specs.declared.fault.RouteFault.{RouteFault}
use Rattle.commit_map.specs.Shown.{Entries}
use Rattle.state_items.specs.Items.{Held, is_canonical}
use Rattle.state_items.specs.Repos.{repo}
use Rattle.state_items.proofs.Canonicals.{canonical-law}
use Rattle.state_items.proofs.ReadObjects.{value-of}
use Rattle.proj_words.specs.Faults.{filter_outcome}
use Rattle.proj_commands.specs.Filters.{entries_of, projected, recalled, sound, without_fault}
use Rattle.proj_commands.specs.Plans.{AreKept, RecallLaw}
use Rattle.repo_ground.proofs.KeptTexts.{no-entries}

-- ---- texts that are read

record IsShort (t : Bytes) : Type 0 where
  bytes : length t ≤ 4096
  flat : too_deep t ≡ false

read-short : (t : Bytes) (f : Filter) → read t ≡ Ok f → IsShort t
unfolding read
read-short t f e = by (nat_le (length t) FILTER_BYTES) refl e
  where
    deep : (b : Bool) → too_deep t ≡ b → cond b (Err texts.TooDeep) (judged (filter_of t)) ≡ Ok f → b ≡ false
    deep true g k = let no : Err texts.TooDeep ≡ Ok f = k in cc
    deep false g k = refl

    by : (b : Bool) → nat_le (length t) FILTER_BYTES ≡ b → cond b (cond (too_deep t) (Err texts.TooDeep) (judged (filter_of t))) (Err texts.TooLong) ≡ Ok f → IsShort t
    by true g k = record { bytes = leb-true (length t) 4096 g; flat = deep (too_deep t) refl k }
    by false g k = let no : Err texts.TooLong ≡ Ok f = k in cc

-- ---- sound texts

record IsSoundOf (text : Bytes) (f : Filter) : Type 0 where
  was_read : read text ≡ Ok f
  faultless : fault f ≡ None

said : (r : Result Filter FilterFault) (f : Filter) → refused_by filter_outcome r ≡ Ok f → r ≡ Ok f
said (Ok g) f e = cc
said (Err d) f e = cc

none-of : (g f : Filter) (o : Option RouteFault) → without_fault g o ≡ Ok f → (g ≡ f) × (o ≡ None)
none-of g f None e = (let same : g ≡ f = cc in same, refl)
none-of g f (Some x) e = cc

sound-of : (text : Bytes) (f : Filter) → sound text ≡ Ok f → IsSoundOf text f
unfolding sound
sound-of text f e =
    let g = value-of (refused_by filter_outcome (read text)) (λ g. without_fault g (fault g)) f e in
    let n = none-of g.value f (fault g.value) g.rest in
    record { was_read = said (read text) f (g.was ∙ ap Ok n.0); faultless = ap fault (sym n.0) ∙ n.1 }

sound-from : (text : Bytes) (f : Filter) → read text ≡ Ok f → fault f ≡ None → sound text ≡ Ok f
unfolding sound
sound-from text f r n = ap (λ (x : Result Filter FilterFault). refused_by filter_outcome x >>= λ g. without_fault g (fault g)) r ∙ ap (without_fault f) n

pub sound-printed : (text : Bytes) (f : Filter) → sound text ≡ Ok f → is_canonical (printed f) ≡ true → sound (printed f) ≡ Ok f
sound-printed text f s c =
    let was = sound-of text f s in
    let g = canonical-law.of_text (printed f) c in
    let short = read-short (printed f) g.0 g.1.was_read in
    sound-from (printed f) f (print-law text f was.was_read short.bytes short.flat) was.faultless

-- ---- projections

-- Where what is held is a store.
pub recalled-same : RecallLaw → (items : List Bytes) (h : Held) (text : Bytes) (f : Filter) (n : Bytes) → AreKept items h → IsStore h.objects → sound text ≡ Ok f
    → recalled (entries_of h f) h.rule f (repo h).commits n ≡ projected h f n
recalled-same law items h text f n kept store s = by (is_canonical (printed f)) refl
  where
    by : (b : Bool) → is_canonical (printed f) ≡ b → recalled (entries_of h f) h.rule f (repo h).commits n ≡ projected h f n
    by true c = law items h f n kept store (sound-printed text f s c)
    by false c = ap (λ (es : Entries). recalled es h.rule f (repo h).commits n) (no-entries items h (printed f) h.rule kept.spelled c)
