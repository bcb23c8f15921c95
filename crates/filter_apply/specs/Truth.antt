-- Memos that hold what tables show.
use Rattle.std.specs.Prelude.{◌≡◌, ℕ, ◌+◌, ◌<◌, ◌≤◌, ⊤, List, length, ◌++◌, slice_get, Some, Contains, true}
use Rattle.git_objects.specs.Paths.{Bytes}
use Rattle.git_objects.specs.declared.kind.Kind.TheVariants.{Tree}
use Rattle.object_store.specs.Objects.{Object, IsStore, has}
use Rattle.object_store.specs.Unfolding.{flat, StandsFor}
use Rattle.path_trees.specs.Clashes.{together}
use Rattle.filter_text.specs.Filters.{Filter, nop, sub, onto, dir, file, exclude, join, chain, workspace}
use Rattle.filter_text.specs.Shapes.{shape}
use Rattle.filter_routes.specs.Lenses.{seen_through}
use Rattle.filter_routes.specs.Origins.{lens_of}
use Rattle.filter_routes.specs.TableValues.{Table}
use Rattle.filter_cache.specs.Memos.{Memo}
use Rattle.filter_apply.specs.Parts.{routed}

-- two trees of the store, of which the table shows the second of the first
pub record IsShownAs (S : List Object) (table : Table) (tree shown : Bytes) : Type 0 where
  pub held : has Tree S tree ≡ true
  pub seen : StandsFor S shown (seen_through (lens_of (shape table.filter)) (flat S tree))

-- two trees of the store, of which the entry at i shows the second where the first stands at its base
pub record IsRoutedAs (S : List Object) (table : Table) (i : ℕ) (tree shown : Bytes) : Type 0 where
  pub held : has Tree S tree ≡ true
  pub seen : StandsFor S shown (routed table.routes i (flat S tree))

-- three trees of the store, of which the third is the first two together
pub record IsJoinedAs (S : List Object) (first second name : Bytes) : Type 0 where
  pub first_held : has Tree S first ≡ true
  pub second_held : has Tree S second ≡ true
  pub seen : StandsFor S name (together (flat S first) (flat S second))

-- the memo has this for a table's number and a part of it
abbrev pub Holds : Memo → ℕ × ℕ → Bytes → Bytes → Type 0
Holds memo part tree shown = Contains memo.entries ((part, tree), shown)

-- the joins that the memo has are joins
abbrev pub AreJoins : List Object → Memo → Type 0
AreJoins S memo = (first second name : Bytes) → Contains memo.joins ((first, second), name) → IsJoinedAs S first second name

-- what the memo has under the number is what the table and its entries show, and its joins are joins
pub record IsTrueFor (S : List Object) (table : Table) (id : ℕ) (memo : Memo) : Type 0 where
  pub whole : (tree shown : Bytes) → Holds memo (id, 0) tree shown → IsShownAs S table tree shown
  pub routes : (i : ℕ) (tree shown : Bytes) → Holds memo (id, i + 1) tree shown → IsRoutedAs S table i tree shown
  pub joins : AreJoins S memo

-- what the second has under another number the first has
abbrev pub KeepsOthers : ℕ → Memo → Memo → Type 0
KeepsOthers id memo memo' = (n part : ℕ) (tree shown : Bytes) → Holds memo' (n, part) tree shown → (n ≡ id → ⊥) → Holds memo (n, part) tree shown

-- the memo has what each table shows under its number, nothing under another, and joins that are joins
pub record AreTrueFor (S : List Object) (tables : List Table) (memo : Memo) : Type 0 where
  pub each : (id : ℕ) (table : Table) → slice_get tables id ≡ Some table → IsTrueFor S table id memo
  pub within : (n part : ℕ) (tree shown : Bytes) → Holds memo (n, part) tree shown → n < length tables
  pub joins : AreJoins S memo

-- a call that shows by one of the tables leaves the memo true for all
abbrev pub StaysTrueLaw : Type 0
StaysTrueLaw = (newer S : List Object) (tables : List Table) (id : ℕ) (table : Table) (memo memo' : Memo) →
    IsStore (newer ++ S) → slice_get tables id ≡ Some table → AreTrueFor S tables memo → IsTrueFor (newer ++ S) table id memo' → KeepsOthers id memo memo' →
    AreTrueFor (newer ++ S) tables memo'

-- a directory that is taken off, put on or kept takes as many steps as it has components, at most
abbrev pub IsPaid : Filter → ℕ → ℕ → Type 0
IsPaid nop old new = ⊤
IsPaid (sub a) old new = new ≤ old + length a
IsPaid (onto a) old new = new ≤ old + length a
IsPaid (dir a) old new = new ≤ old + length a
IsPaid (file a) old new = ⊤
IsPaid (exclude f) old new = ⊤
IsPaid (join fs) old new = ⊤
IsPaid (chain fs) old new = ⊤
IsPaid (workspace a) old new = ⊤
