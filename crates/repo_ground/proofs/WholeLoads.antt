-- A state of all items of a keeper.
use Rattle.std.proofs.Common.{◌≡◌, ℕ, List, [], length, take, Result, Ok, Err, Some, None, IfSome, ap, ◌∙◌, arith}
use Rattle.std.specs.declared.option.Option.{Option}
use Rattle.std.proofs.lemmas.List.{take_all}
use Rattle.git_objects.specs.Paths.{Bytes}
use Rattle.projection_ground.specs.Grounds.{IsGround}
use Rattle.proj_io.specs.Items.{Stays}
use Rattle.state_items.specs.Items.{Held}
use Rattle.state_items.specs.Readings.{Gathered, Holds}
use Rattle.repo_ground.specs.Contents.{Contents, Spells}
use Rattle.repo_ground.specs.Loads.{IsLoaded, new_memo}
use Rattle.repo_ground.specs.Steps.{AreRead}
use Rattle.repo_ground.specs.declared.state.LoadError.{LoadError}
use Rattle.repo_ground.specs.declared.state.LoadError.TheVariants.{StoreFault, OutOfMemory}

-- a state that has what was read, and no filter selected yet, with a new memo
pub record IsFresh (v : Gathered) (count size : ℕ) (s : Contents) : Type 0 where
  pub spells : (h : Held) → Holds h v → Spells h s × IsGround s.basis
  pub store : s.basis.store ≡ v.objects
  pub none : s.selected ≡ None
  pub empty : s.basis.map ≡ []
  pub memo : s.basis.memo ≡ new_memo
  pub many : s.number ≡ count
  pub long : s.size ≡ size

-- the first items are all, where there are no others
kept-all : (o q : Option (List Bytes)) (count n : ℕ) (items : List Bytes) → Stays o q → IfSome o (λ all. length all ≡ n) → count ≡ n → IfSome q (λ all. items ≡ take count all) → IfSome o (λ all. items ≡ all)
kept-all None q count n items st l e k = tt
kept-all (Some all) None count n items st l e k = absurd st
kept-all (Some all) (Some other) count n items st l e k = k ∙ ap (λ (xs : List Bytes). take count xs) st ∙ take_all count all (omega arith)

pub loaded : (o q : Option (List Bytes)) (count n size : ℕ) (v : Gathered) (s : Contents) → Stays o q → IfSome o (λ all. length all ≡ n) → count ≡ n → AreRead q count size v → IsFresh v count size s →
    IsLoaded o n s
loaded o q count n size v s st l e r f =
    let w = f.spells r.held r.gathered in
    record {
      items = r.items;
      keeps = kept-all o q count n r.items st l e r.keeps;
      held = r.held;
      current = record { read = r.read; number = f.many ∙ r.many; size = f.long ∙ r.long };
      spells = w.0;
      only = f.store ∙ r.gathered.objects;
      ground = w.1;
      none = f.none;
      empty = f.empty;
      memo = f.memo;
      counted = f.many ∙ e;
    }

-- of any items nothing is asked
pub unasked : (o : Option (List Bytes)) → IfSome o (λ all. Unit {0})
unasked None = tt
unasked (Some all) = tt

-- what is loaded, or was not for want of memory, is no fault of the keeper
pub no-fault-ok : {T : Type 0} (x : T) (r : Result T LoadError) → r ≡ Ok x → r ≡ Err StoreFault → ⊥
no-fault-ok x r p q = cc

pub no-fault-memory : {T : Type 0} (r : Result T LoadError) → r ≡ Err OutOfMemory → r ≡ Err StoreFault → ⊥
no-fault-memory r p q = cc
