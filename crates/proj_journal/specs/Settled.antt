-- What a stop leaves of an open journal.
use Rattle.std.specs.Prelude.{◌≡◌, ℕ, List, Some, None, ⊤, Result, MatchResult}
use Rattle.std.proofs.Common.{sym, subst}
use Rattle.std.specs.declared.option.Option.{Option}
use Rattle.proj_io.specs.Stops.{IsPresent}
use Rattle.proj_disk.specs.Disks.{DiskView, IsLeftBy}
use Rattle.proj_journal.specs.declared.place.Place.{Place}
use Rattle.proj_journal.specs.declared.journal.Journal.{Journal}
use Rattle.proj_journal.specs.Rest.{Leaves, SpellsSame, IsAtRest}
use Rattle.proj_journal.specs.Resting.{rest_images}
use Rattle.proj_journal.specs.Journals.{IsOpen, ListsLeft, StandsIn, items_of}

pub in_rest : (o : Option DiskView) (end : ℕ) (places : List Place) → StandsIn o end places → IsAtRest end o
in_rest None end places stands = tt
in_rest (Some disk) end places stands = stands.0

pub leaves_same : (o : Option DiskView) (image : List ℕ) (list : List (List ℕ)) → SpellsSame o image → Leaves image list → IsPresent (items_of o) list
leaves_same None image list is leaves = tt
leaves_same (Some disk) image list is leaves =
    sym (subst (λ (r : Result (List (List ℕ)) ℕ). MatchResult r (λ items. items ≡ list) (λ _. ⊤)) is leaves)

pub settled_list : {D : Type 0} (content : D → Option DiskView) (moment : D → ℕ) (left_since : D → ℕ → List ℕ → Type 0)
    → ((disk : D) (image : List ℕ) → left_since disk (moment disk) image → IsLeftBy (content disk) image)
    → (journal : Journal D) (list : List (List ℕ)) → IsOpen content journal → ListsLeft (left_since journal.disk) (moment journal.disk) list → IsPresent (items_of (content journal.disk)) list
settled_list content moment left_since only_now journal list is_open left =
    let o = content journal.disk in
    let rest = in_rest o journal.end journal.places.items is_open.told in
    leaves_same o left.0 list (rest_images journal.end o rest left.0 (only_now journal.disk left.0 left.1)) left.2
