-- A call of the program on a disk.
use Rattle.std.proofs.Common.{◌≡◌, ◌⊎◌, ◌+◌, ◌≤◌, ◌≢◌, inl, inr, ⊎_elim, ◌++◌, [], ◌∷◌, ℕ, suc, List, append-nil, length, Option, Some, None, Ok, Err, Result, IfSome, ◌↔◌, refl, sym, ap, subst, ◌∙◌, arith, length-append, replicate}
use Rattle.std.proofs.lemmas.List.{length-replicate}
use Rattle.std.specs.Prelude.{IfErr, IfOk, IsSome, MatchResult, ⊤}
use Rattle.std.specs.Option.{option_map}
use Rattle.git_objects.specs.Paths.{Bytes}
use Rattle.state_items.specs.Fields.{BrokenAt}
use Rattle.state_items.specs.Items.{Break, Held, read_item, read_items}
use Rattle.state_items.specs.Changes.{ChangePlan, KeepPlan, NoPlan, Plan, RulePlan, TagPlan, plan_items}
use Rattle.proj_io.specs.Stops.{OnlyAdds, Nothing}
use Rattle.proj_disk.specs.Disks.{DiskView, IsImage, IsLeftBy, IsTornIfKnown, furthest, stable}
use Rattle.proj_journal.specs.Journals.{IsBrokenAt, IsEmpty, IsNew, IsSameOrSynced, ListsLeft, SpellsItsItems, TellsWhy, items_of}
use Rattle.proj_journal.specs.Rest.{Leaves, new_bytes}
use Rattle.proj_journal.specs.Spelling.{list_in, listed, spelled}
use Rattle.proj_journal.specs.Spelled.{spelled-other}
use Rattle.proj_journal.specs.declared.opening.JournalError.{JournalError}
use Rattle.proj_journal.specs.declared.opening.JournalError.TheVariants.{Failed, Broken, OutOfMemory as NoMemory}
use Rattle.proj_words.specs.Entries.{Entry}
use Rattle.proj_words.specs.Words.{Batch, Command, Trial}
use Rattle.proj_words.specs.declared.outcome.Outcome.{Outcome}
use Rattle.proj_cli.specs.Batches.{BatchLeaves}
use Rattle.proj_cli.specs.Runs.{MayLeave}
use Rattle.proj_cli.specs.Served.{HasList, IsBegun, IsOnlyOpened, IsSteady, IsWhole, KeepsBytes, LeavesKind, LeavesList, LeavesWhole, SaysWhy, Spells}
use Rattle.proj_cli.specs.Stopped.{IsBetween, IsLengthened, OnlyGrows}
use Rattle.proj_cli.specs.Turns.{AreTurns, IsSafeTurn, Turn, begun, items_after}
use Rattle.proj_cli.proofs.ListLengths.{list_short}
use Rattle.proj_commands.specs.Inputs.{ForInput}
use Rattle.proj_commands.proofs.InputsRead.{for-any}

-- ---- an empty disk

spelled_empty : spelled [] ≡ Err 0
spelled_empty = spelled-other [] (λ is. cc)

not_both : (r : Result (List Bytes) ℕ) (place : ℕ) (items : List Bytes) → r ≡ Err place → r ≡ Ok items → ⊥
not_both r place items broken is = cc

nil_of : (bytes : List ℕ) → length bytes ≡ 0 → bytes ≡ []
nil_of [] none = refl
nil_of (b ∷ bytes) none = absurd (omega (arith, none))

-- bytes that spell a list are some
pub spelled_some : (bytes : List ℕ) (items : List Bytes) → spelled bytes ≡ Ok items → bytes ≢ []
spelled_some bytes items is none = not_both (spelled []) 0 items spelled_empty (ap spelled (sym none) ∙ is)

pub whole_some : (o : Option DiskView) (disk : DiskView) → o ≡ Some disk → IfSome o (λ view. IsImage view view.bytes) → IsWhole disk → disk.bytes ≢ []
whole_some o disk e reads whole =
    spelled_some disk.bytes (listed disk.bytes) (whole disk.bytes (subst (λ (p : Option DiskView). IfSome p (λ view. IsImage view view.bytes)) e reads))

-- so many bytes
pub none_long : (o p : Option DiskView) (n : ℕ) → IfSome o (λ disk. n ≡ length disk.bytes) → p ≡ o → n ≡ 0 → IfSome p (λ disk. disk.bytes ≡ [])
none_long None None n count same e = tt
none_long None (Some q) n count same e = cc
none_long (Some d) None n count same e = cc
none_long (Some d) (Some q) n count same e =
    let is : q ≡ d = cc in
    nil_of q.bytes (ap (λ (v : DiskView). length v.bytes) is ∙ sym count ∙ e)

pub some_long : (o : Option DiskView) (disk : DiskView) (n : ℕ) → IfSome o (λ disk. n ≡ length disk.bytes) → o ≡ Some disk → disk.bytes ≢ [] → n ≡ 0 → ⊥
some_long o disk n count told some e =
    some (nil_of disk.bytes (sym (subst (λ (p : Option DiskView). IfSome p (λ d. n ≡ length d.bytes)) told count) ∙ e))

-- a new journal has the items of the empty disk
new_of : (p q : Option DiskView) → IfSome p (λ disk. disk.bytes ≡ []) → (IsSome q ↔ IsSome p) → IsEmpty q → items_of q ≡ items_of p
new_of None None none told empty = refl
new_of None (Some e) none told empty = let no_disk = told.0 refl in cc
new_of (Some d) None none told empty = let no_disk = told.1 refl in cc
new_of (Some d) (Some e) none told empty = ap Some (empty ∙ sym (ap (λ (b : List ℕ). list_in (spelled b)) none ∙ ap list_in spelled_empty))

pub new_items : (o p q : Option DiskView) → IfSome p (λ disk. disk.bytes ≡ []) → p ≡ o → (IsSome q ↔ IsSome p) → IsEmpty q → items_of q ≡ items_of o
new_items o p q none same told empty = new_of p q none told empty ∙ ap items_of same

pub new_list : (o p : Option DiskView) → IfSome p (λ disk. disk.bytes ≡ []) → p ≡ o → HasList o
new_list o p none same = by o (subst (λ (x : Option DiskView). IfSome x (λ disk. disk.bytes ≡ [])) same none)
  where
    by : (x : Option DiskView) → IfSome x (λ disk. disk.bytes ≡ []) → HasList x
    by None none = tt
    by (Some d) none = inl none

new_fresh : (o p q : Option DiskView) → IfSome p (λ disk. disk.bytes ≡ []) → p ≡ o → IsNew q → IsOnlyOpened o q
new_fresh o p q none same new = by o (subst (λ (x : Option DiskView). IfSome x (λ disk. disk.bytes ≡ [])) same none)
  where
    by : (x : Option DiskView) → IfSome x (λ disk. disk.bytes ≡ []) → IsOnlyOpened x q
    by None none = tt
    by (Some d) none = ((λ some. absurd (some none)), (λ empty. new))

-- ---- a journal that was there

pub open_list : (o p : Option DiskView) → SpellsItsItems p → p ≡ o → HasList o
open_list o p spells same = by o (subst SpellsItsItems same spells)
  where
    by : (x : Option DiskView) → SpellsItsItems x → HasList x
    by None spells = tt
    by (Some d) spells = inr spells

pub open_items : (o p q : Option DiskView) → q ≡ option_map (λ disk. stable disk.bytes) p → p ≡ o → items_of q ≡ items_of o
open_items o p q synced same = ap items_of synced ∙ by p ∙ ap items_of same
  where
    by : (x : Option DiskView) → items_of (option_map (λ disk. stable disk.bytes) x) ≡ items_of x
    by None = refl
    by (Some d) = refl

open_fresh : (o p q : Option DiskView) (n : ℕ) → IfSome o (λ disk. n ≡ length disk.bytes) → (n ≡ 0 → ⊥) → q ≡ option_map (λ disk. stable disk.bytes) p → p ≡ o → IsOnlyOpened o q
open_fresh None p q n count some synced same = tt
open_fresh (Some d) p q n count some synced same = (
  (λ not_empty. synced ∙ ap (λ (x : Option DiskView). option_map (λ disk. stable disk.bytes) x) same),
  (λ empty. absurd (some (count ∙ ap length empty))),
)

pub open_why : (o p : Option DiskView) (n : ℕ) (error : JournalError) → IfSome o (λ disk. n ≡ length disk.bytes) → (n ≡ 0 → ⊥) → p ≡ o → TellsWhy p error → SaysWhy o error
open_why o p n Failed count some same why = tt
open_why None p n (Broken at) count some same why = tt
open_why (Some d) p n (Broken at) count some same why = ((λ none. some (count ∙ ap length none)), subst (IsBrokenAt at) same why)
open_why o p n NoMemory count some same why = tt

-- ---- the disk where there is no journal

pub same_kept : (o p : Option DiskView) → p ≡ o → KeepsBytes o p
same_kept None p same = tt
same_kept (Some d) p same = λ some. inl same

-- an empty disk may get any bytes
pub empty_kept : (o p q : Option DiskView) → IfSome p (λ disk. disk.bytes ≡ []) → p ≡ o → KeepsBytes o q
empty_kept o p q none same = by o (subst (λ (x : Option DiskView). IfSome x (λ disk. disk.bytes ≡ [])) same none)
  where
    by : (x : Option DiskView) → IfSome x (λ disk. disk.bytes ≡ []) → KeepsBytes x q
    by None none = tt
    by (Some d) none = λ some. absurd (some none)

pub unopened_kept : (o p q : Option DiskView) → IsSameOrSynced p q → p ≡ o → KeepsBytes o q
unopened_kept None p q kept same = tt
unopened_kept (Some d) p q (inl was) same = λ some. inl (was ∙ same)
unopened_kept (Some d) p q (inr was) same = λ some. inr (was ∙ ap (λ (x : Option DiskView). option_map (λ disk. stable disk.bytes) x) same)

-- in a result of which this is said
pub empty_kept_in : {T E : Type 0} (result : Result T E) (content : E → Option DiskView) (o p : Option DiskView) → IfSome p (λ disk. disk.bytes ≡ []) → p ≡ o
    → IfErr result (λ none. KeepsBytes o (content none))
empty_kept_in (Ok journal) content o p none same = tt
empty_kept_in (Err e) content o p none same = empty_kept o p (content e) none same

pub unopened_kept_in : {T E : Type 0} (result : Result T E) (content : E → Option DiskView) (o p : Option DiskView) → p ≡ o → IfErr result (λ none. IsSameOrSynced p (content none))
    → IfErr result (λ none. KeepsBytes o (content none))
unopened_kept_in (Ok journal) content o p same kept = tt
unopened_kept_in (Err e) content o p same kept = unopened_kept o p (content e) kept same

-- ---- an empty disk

pub same_begun : (o p : Option DiskView) (e : JournalError) → p ≡ o → IsBegun o p e
same_begun None p e same = tt
same_begun (Some d) p e same = λ empty. inl same

-- a disk with bytes isn't empty
pub long_begun : (o p q : Option DiskView) (n : ℕ) (e : JournalError) → IfSome o (λ disk. n ≡ length disk.bytes) → p ≡ o → n ≢ 0 → IsBegun o q e
long_begun None p q n e count same some = tt
long_begun (Some d) p q n e count same some = λ empty. absurd (some (count ∙ ap length empty))

made_begun : (o p q : Option DiskView) (e : JournalError) → p ≡ o → (e ≡ Failed → IsTornIfKnown 0 (length new_bytes) p q) → (e ≡ NoMemory → q ≡ p) → ((place : ℕ) → e ≢ Broken place) → IsBegun o q e
made_begun None p q e same torn memory whole = tt
made_begun (Some d) p q Failed same torn memory whole = λ empty. inr (refl, subst (λ (x : Option DiskView). IsTornIfKnown 0 (length new_bytes) x q) same (torn refl))
made_begun (Some d) p q NoMemory same torn memory whole = λ empty. inl (memory refl ∙ same)
made_begun (Some d) p q (Broken place) same torn memory whole = absurd (whole place refl)

-- of what came of making a journal, and of opening one
pub made_begun_in : {T E : Type 0} (result : Result T E) (content : E → Option DiskView) (error : E → JournalError) (o p : Option DiskView) → p ≡ o
    → IfErr result (λ none. error none ≡ Failed → IsTornIfKnown 0 (length new_bytes) p (content none)) → IfErr result (λ none. error none ≡ NoMemory → content none ≡ p)
    → IfErr result (λ none. (place : ℕ) → error none ≢ Broken place) → IfErr result (λ none. IsBegun o (content none) (error none))
made_begun_in (Ok journal) content error o p same torn memory whole = tt
made_begun_in (Err none) content error o p same torn memory whole = made_begun o p (content none) (error none) same torn memory whole

pub long_begun_in : {T E : Type 0} (result : Result T E) (content : E → Option DiskView) (error : E → JournalError) (o p : Option DiskView) (n : ℕ) → IfSome o (λ disk. n ≡ length disk.bytes) → p ≡ o → n ≢ 0
    → IfErr result (λ none. IsBegun o (content none) (error none))
long_begun_in (Ok journal) content error o p n count same some = tt
long_begun_in (Err none) content error o p n count same some = long_begun o p (content none) n (error none) count same some

-- where there was no memory for the text of a broken journal, its disk wasn't empty
pub told_begun : (o q : Option DiskView) (e told : JournalError) → SaysWhy o e → (told ≡ e) ⊎ ((told ≡ NoMemory) × ((at : ℕ) × (e ≡ Broken at))) → IsBegun o q e → IsBegun o q told
told_begun o q e told why (inl same) begun = subst (IsBegun o q) (sym same) begun
told_begun None q e told why (inr broken) begun = tt
told_begun (Some d) q e told why (inr broken) begun = λ empty. absurd ((subst (SaysWhy (Some d)) broken.1.1 why).0 empty)

-- ---- what a stop leaves

-- an image whose lists are of a kind that isn't every list isn't broken
whole_as : (r : Result (List Bytes) ℕ) (Kind : List Bytes → Type 0) (other : List Bytes) → (Kind other → ⊥)
    → ((list : List Bytes) → MatchResult r (λ items. items ≡ list) (λ _. ⊤) → Kind list) → (r ≡ Ok (list_in r)) × Kind (list_in r)
whole_as (Ok items) Kind other never stands = (refl, stands items refl)
whole_as (Err place) Kind other never stands = absurd (never (stands other tt))

-- two more than the items
abbrev longer : List Bytes → List Bytes
longer items = items ++ [] ∷ [] ∷ []

pub image_spells : (items : List Bytes) (image : List ℕ) → ((list : List Bytes) → Leaves image list → list ≡ items) → spelled image ≡ Ok items
image_spells items image stands =
    let whole = whole_as (spelled image) (λ list. list ≡ items) (longer items) (λ same. omega (arith, ap length same, length-append items ([] ∷ [] ∷ []))) stands in
    whole.0 ∙ ap Ok whole.1

-- so many items more than any image of the disk spells, and than a step leaves
abbrev number_of : DiskView → ℕ
number_of disk = furthest (length disk.synced) disk.ranges + length (listed disk.bytes) + 2

many : DiskView → List Bytes
many disk = replicate (number_of disk) []

many_long : (disk : DiskView) → length (many disk) ≡ number_of disk
unfolding many
many_long disk = length-replicate {A = Bytes} (number_of disk) []

one_at_most : (p : Plan) → length (plan_items p) ≤ 1
one_at_most NoPlan = omega arith
one_at_most (ChangePlan objects refs) = omega arith
one_at_most (RulePlan n) = omega arith
one_at_most (KeepPlan n text es) = omega arith
one_at_most (TagPlan objects refs tags) = omega arith

-- no item is empty
empty_item : (items : List Bytes) → read_items ([] ∷ items) ≡ Err (0, BrokenAt 0)
unfolding read_items read_item
empty_item items = refl

not_read : (r : Result Held Break) (b : Break) (h : Held) → r ≡ Err b → r ≡ Ok h → ⊥
not_read r b h broken read = cc

none_spelled : (disk : DiskView) (h : Held) → read_items (many disk) ≡ Ok h → ⊥
unfolding many
none_spelled disk h read =
    let less = furthest (length disk.synced) disk.ranges + length (listed disk.bytes) + 1 in
    let same : suc less ≡ number_of disk = omega arith in
    not_read (read_items (replicate {A = Bytes} (number_of disk) [])) (0, BrokenAt 0) h
    (ap (λ (n : ℕ). read_items (replicate {A = Bytes} n [])) (sym same) ∙ empty_item (replicate {A = Bytes} less [])) read

not_as_they_were : (disk : DiskView) → many disk ≡ listed disk.bytes → ⊥
not_as_they_were disk same = omega (arith, ap length same, many_long disk)

not_after_turns : (disk : DiskView) (ts : List Turn) → many disk ≡ items_after (listed disk.bytes) ts → AreTurns (IsSafeTurn (listed disk.bytes)) ts → ⊥
not_after_turns disk [] same safe = not_as_they_were disk same
not_after_turns disk (t ∷ ts) same safe = none_spelled disk safe.1.longer.state (ap read_items same ∙ safe.1.longer.spelled)

not_by_batch : (disk : DiskView) (r : Result (List Entry) Outcome) → BatchLeaves (listed disk.bytes) r (many disk) → ⊥
not_by_batch disk (Ok es) leaves = not_after_turns disk leaves.turns leaves.behind leaves.safe
not_by_batch disk (Err e) same = not_as_they_were disk same

not_lengthened : (asked : Command) (input : Bytes) (disk : DiskView) → IsLengthened asked (listed disk.bytes) input (many disk) → ⊥
not_lengthened asked input disk more =
    omega (arith, ap length more.behind, many_long disk, length-append (listed disk.bytes) (plan_items more.plan), one_at_most more.plan)

none_left : (asked : Command) (input : Bytes) (disk : DiskView) → MayLeave asked (listed disk.bytes) input (many disk) → ⊥
none_left asked input disk (inl same) = not_as_they_were disk same
none_left Batch input disk (inr leaves) = not_by_batch disk (begun (listed disk.bytes) input) leaves
none_left (Trial n) input disk (inr none) = none
none_left asked input disk (inr more) = not_lengthened asked input disk more

none_so_many : (asked : Command) (input : Bytes) (disk : DiskView) → Spells disk (many disk) ⊎ MayLeave asked (listed disk.bytes) input (many disk) → ⊥
none_so_many asked input disk (inl is) = omega (arith, ap length is.2, many_long disk, list_short is.0, is.1.no_longer)
none_so_many asked input disk (inr leaves) = none_left asked input disk leaves

-- a list that is longer than another isn't between it and a third
none_between : (disk : DiskView) (all : List Bytes) → Spells disk (all ++ many disk) ⊎ IsBetween (listed disk.bytes) all (all ++ many disk) → ⊥
none_between disk all (inl is) = omega (arith, ap length is.2, length-append all (many disk), many_long disk, list_short is.0, is.1.no_longer)
none_between disk all (inr between) =
    omega (arith, ap length between.1.1, length-append (all ++ many disk) between.1.0, length-append all (many disk), many_long disk)

-- a list that a whole disk leaves is one of its lists
whole_list : (disk : DiskView) (whole : IsWhole disk) (image : List ℕ) (list : List Bytes) → IsImage disk image → Leaves image list → Spells disk list
whole_list disk whole image list is leaves =
    (image, is, subst (λ (r : Result (List Bytes) ℕ). MatchResult r (λ items. items ≡ list) (λ _. ⊤)) (whole image is) leaves)

module _ (left : Option Bytes) (asked : Command) (view : DiskView) (o : Option DiskView) (told : o ≡ Some view) (whole : IsWhole view) (d j : ℕ) (x y : ℕ → List ℕ → Type 0)
    (only : (image : List ℕ) → x d image → IsLeftBy o image) (opened : OnlyAdds d j x y Nothing) where
  -- what the disk left at entry
  at_entry : (image : List ℕ) → y d image → IsImage view image
  at_entry image since = subst (λ (p : Option DiskView). IsLeftBy p image) told (⊎_elim (λ was. only image was) (λ new. absurd new) (opened.each d image (omega arith) since))

  -- A stop during a call on the journal that only adds lists of a kind, which isn't every list, leaves one of them or one that it would have
  -- left at entry.
  stops_as : (e : ℕ) (z : ℕ → List ℕ → Type 0) (Kind : List Bytes → Type 0) (other : List Bytes) → (Spells view other ⊎ Kind other → ⊥) → OnlyAdds j e (ListsLeft y) (ListsLeft z) Kind
      → (image : List ℕ) → z d image → LeavesKind Kind view image
  stops_as e z Kind other never adds image since =
      whole_as (spelled image) (λ list. Spells view list ⊎ Kind list) other never (λ list leaves.
      ⊎_elim (λ was. inl (whole_list view whole was.0 list (at_entry was.0 was.1) was.2)) (λ new. inr new) (adds.each d list opened.later (image, since, leaves)))

  pub run_stops : (e : ℕ) (z : ℕ → List ℕ → Type 0) → ForInput left (λ all. OnlyAdds j e (ListsLeft y) (ListsLeft z) (MayLeave asked (listed view.bytes) all))
      → ForInput left (λ all. (image : List ℕ) → z d image → LeavesWhole asked all view image)
  run_stops e z adds = record {
    all = adds.all;
    told = adds.told;
    says = stops_as e z (MayLeave asked (listed view.bytes) adds.all) (many view) (none_so_many asked adds.all view) adds.says;
  }

  -- A stop during such a call that didn't answer a fault leaves a list between those at entry and at the end.
  pub run_fronts : (e : ℕ) (z : ℕ → List ℕ → Type 0) (all : List Bytes) → OnlyAdds j e (ListsLeft y) (ListsLeft z) (IsBetween (listed view.bytes) all)
      → (image : List ℕ) → z d image → LeavesKind (IsBetween (listed view.bytes) all) view image
  run_fronts e z all adds = stops_as e z (IsBetween (listed view.bytes) all) (all ++ many view) (none_between view all) adds

  -- a stop where there is no journal
  pub unopened_left : (Kind : List Bytes → Type 0) (image : List ℕ) → y d image → LeavesKind Kind view image
  unopened_left Kind image since = (whole image (at_entry image since), inl (image, at_entry image since, refl))

  pub unopened_stops : ForInput left (λ all. (image : List ℕ) → y d image → LeavesWhole asked all view image)
  unopened_stops = for-any left (λ all. (image : List ℕ) → y d image → LeavesWhole asked all view image) (λ all. unopened_left (MayLeave asked (listed view.bytes) all))

-- where a call of the disk adds no image, it adds no list
pub lists_add : (d j : ℕ) (x y : ℕ → List ℕ → Type 0) (Kind : List Bytes → Type 0) → OnlyAdds d j x y Nothing → OnlyAdds d j (ListsLeft x) (ListsLeft y) Kind
lists_add d j x y Kind opened = record {
  later = opened.later;
  each = λ t list le since. ⊎_elim (λ was. inl (since.0, was, since.2)) (λ new. absurd new) (opened.each t since.0 le since.1);
}

-- where there is no journal, and the disk hasn't failed, it has the items that it had
unopened_items : (view : DiskView) (q : Option DiskView) (e : JournalError) (bytes : List ℕ) → view.bytes ≡ bytes → e ≢ Failed → KeepsBytes (Some view) q → IsBegun (Some view) q e
    → items_of q ≡ Some (listed view.bytes)
unopened_items view q e [] empty apart kept begun = ⊎_elim (λ same. ap items_of same) (λ torn. absurd (apart torn.0)) (begun empty)
unopened_items view q e (b ∷ bytes) some apart kept begun =
    ⊎_elim (λ same. ap items_of same) (λ synced. ap items_of synced) (kept (λ empty. let no : [] ≡ b ∷ bytes = sym empty ∙ some in cc))

pub unopened_grows : (o q : Option DiskView) (view : DiskView) (e : JournalError) (Adds : (List Bytes → Type 0) → Type 0) → o ≡ Some view → e ≢ Failed → KeepsBytes o q → IsBegun o q e
    → Adds (IsBetween (listed view.bytes) (listed view.bytes)) → OnlyGrows (listed view.bytes) (items_of q) Adds
unopened_grows o q view e Adds told apart kept begun adds = record {
  all = listed view.bytes;
  told = unopened_items view q e view.bytes refl apart (subst (λ (x : Option DiskView). KeepsBytes x q) told kept) (subst (λ (x : Option DiskView). IsBegun x q e) told begun);
  behind = ([], sym (append-nil (listed view.bytes)));
  stops = adds;
}

-- a steady disk is whole
pub steady_whole : (disk : DiskView) → IsSteady disk → IsWhole disk
steady_whole disk steady image is = steady image is ∙ ap Ok (sym (ap list_in (steady image is)))

-- of a steady disk a stop leaves its list, or that with the item
pub steady_stops : (left : Option Bytes) (asked : Command) (disk : DiskView) (z : List ℕ → Type 0) → IsSteady disk → ForInput left (λ all. (image : List ℕ) → z image → LeavesWhole asked all disk image)
    → ForInput left (λ all. (image : List ℕ) → z image → LeavesList asked all (listed disk.bytes) image)
steady_stops left asks disk z steady stops = record {
  all = stops.all;
  told = stops.told;
  says = λ image since.
      let is = stops.says image since in
      (is.0, ⊎_elim (λ was. inl (sym was.2 ∙ ap list_in (steady was.0 was.1))) (λ new. new) is.1);
}

-- the disk is steady where a stop leaves its list
pub settled_steady : (o : Option DiskView) (m : ℕ) (z : ℕ → List ℕ → Type 0) → ((image : List ℕ) → IsLeftBy o image → z m image)
    → ((all : List Bytes) → items_of o ≡ Some all → (list : List Bytes) → ListsLeft z m list → list ≡ all) → IfSome o IsSteady
settled_steady None m z counts settled = tt
settled_steady (Some disk) m z counts settled = λ image is. image_spells (listed disk.bytes) image (λ list leaves. settled (listed disk.bytes) refl list (image, counts image is, leaves))

-- in a result of which this is said
pub new_items_in : {T E : Type 0} (result : Result T E) (content : T → Option DiskView) (o p : Option DiskView) → IfSome p (λ disk. disk.bytes ≡ []) → p ≡ o
    → IfOk result (λ journal. IsSome (content journal) ↔ IsSome p) → IfOk result (λ journal. IsEmpty (content journal)) → IfOk result (λ journal. items_of (content journal) ≡ items_of o)
new_items_in (Ok journal) content o p none same told empty = new_items o p (content journal) none same told empty
new_items_in (Err e) content o p none same told empty = tt

pub new_fresh_in : {T E : Type 0} (result : Result T E) (content : T → Option DiskView) (o p : Option DiskView) → IfSome p (λ disk. disk.bytes ≡ []) → p ≡ o
    → IfOk result (λ journal. IsNew (content journal)) → IfOk result (λ journal. IsOnlyOpened o (content journal))
new_fresh_in (Ok journal) content o p none same new = new_fresh o p (content journal) none same new
new_fresh_in (Err e) content o p none same new = tt

pub open_fresh_in : {T E : Type 0} (result : Result T E) (content : T → Option DiskView) (o p : Option DiskView) (n : ℕ) → IfSome o (λ disk. n ≡ length disk.bytes) → (n ≡ 0 → ⊥) → p ≡ o
    → IfOk result (λ journal. content journal ≡ option_map (λ disk. stable disk.bytes) p) → IfOk result (λ journal. IsOnlyOpened o (content journal))
open_fresh_in (Ok journal) content o p n count some same synced = open_fresh o p (content journal) n count some synced same
open_fresh_in (Err e) content o p n count some same synced = tt
