-- What is loaded from a keeper's items.
use Rattle.std.specs.Prelude.{◌≡◌, ⊤, ℕ, List, [], None, Option, Result, Err, IfSome}
use Rattle.git_objects.specs.Paths.{Bytes}
use Rattle.filter_cache.specs.Memos.{Memo}
use Rattle.projection_ground.specs.Grounds.{IsGround}
use Rattle.state_items.specs.Fields.{BrokenAt, Clash}
use Rattle.state_items.specs.Items.{Held, Break, nothing}
use Rattle.repo_ground.specs.Contents.{Contents, IsCurrent, Spells}
use Rattle.repo_ground.specs.declared.state.LoadError.{LoadError}
use Rattle.repo_ground.specs.declared.state.LoadError.TheVariants.{StoreFault, Damaged, Collision, OutOfMemory}

-- a memo with room for so many entries of each kind, which has none
abbrev pub new_memo : Memo
new_memo = record { capacity = 65536; entries = []; joins = [] }

-- nothing is held, nothing is in the store, there are no items, no filter is selected yet, and the memo has nothing
pub record IsEmpty (s : Contents) : Type 0 where
  pub spells : Spells nothing s
  pub ground : IsGround s.basis
  pub store : s.basis.store ≡ []
  pub none : s.selected ≡ None
  pub map : s.basis.map ≡ []
  pub memo : s.basis.memo ≡ new_memo
  pub number : s.number ≡ 0
  pub size : s.size ≡ 0

-- it has what some items hold, which are the keeper's where it tells them, and nothing else; no filter is selected yet, and the memo has
-- nothing
pub record IsLoaded (told : Option (List Bytes)) (number : ℕ) (s : Contents) : Type 0 where
  pub items : List Bytes
  pub keeps : IfSome told (λ all. items ≡ all)
  pub held : Held
  pub current : IsCurrent items held s
  pub spells : Spells held s
  pub only : s.basis.store ≡ held.objects
  pub ground : IsGround s.basis
  pub none : s.selected ≡ None
  pub empty : s.basis.map ≡ []
  pub memo : s.basis.memo ≡ new_memo
  pub counted : s.number ≡ number

-- the first break of the items, want of memory, or a fault of the keeper
abbrev pub IsLoadFault : LoadError → Result Held Break → Type 0
IsLoadFault StoreFault read = ⊤
IsLoadFault OutOfMemory read = ⊤
IsLoadFault (Damaged item at) read = read ≡ Err (item, BrokenAt at)
IsLoadFault (Collision n) read = (item : ℕ) × (read ≡ Err (item, Clash n.0))
