-- What contracts see of the values that are read.
use Rattle.std.specs.Prelude.{ℕ, Bool, true, false, List, [], ◌∷◌, Option, Some, None}
use Rattle.std.specs.Borrow.{Bor}
use Rattle.std.specs.Global.{Vec}
use Rattle.git_objects.specs.Paths.{Bytes, Path}
use Rattle.filter_text.specs.Filters as plain
use Rattle.filter_text.specs.Shapes.{shape, shapes}
use Rattle.filter_text.specs.Texts.{Read}
use Rattle.filter_text.specs.Items as items
use Rattle.filter_text.specs.declared.filter.Filter.{Filter}
use Rattle.filter_text.specs.declared.filter.Item.{Item}
use Rattle.filter_text.specs.declared.items.Member.{Member}
use Rattle.filter_text.specs.declared.word.Word.{Word}

abbrev pub word_read : Option (Word × Bor Bytes) → Read Word
word_read None = None
word_read (Some r) = Some (r.0, r.1.now)

abbrev pub path_read : Option (Path × Bor Bytes) → Read Path
path_read None = None
path_read (Some r) = Some (r.0, r.1.now)

abbrev pub target_read : Option (Option Path × Bor Bytes) → Read (Option Path)
target_read None = None
target_read (Some r) = Some (r.0, r.1.now)

abbrev pub filter_read : Option (Filter × Bor Bytes) → Read plain.Filter
filter_read None = None
filter_read (Some r) = Some (shape r.0, r.1.now)

abbrev pub filters_read : Option (Vec Filter × Bor Bytes) → Read plain.Filters
filters_read None = None
filters_read (Some r) = Some (shapes r.0.items, r.1.now)

-- a comma, or nothing
abbrev pub comma : Bool → Bytes
comma true = 44 ∷ []
comma false = []

abbrev pub member_value : Member → items.Member
member_value m = record { target = m.target; filter = shape m.filter; size = m.size }

abbrev pub member_read : Option (Member × Bor Bytes) → Read items.Member
member_read None = None
member_read (Some r) = Some (member_value r.0, r.1.now)

abbrev pub item_value : Item → items.Item
item_value i = (i.place, shape i.filter)

abbrev pub item_values : List Item → List items.Item
item_values [] = []
item_values (i ∷ is) = item_value i ∷ item_values is

abbrev pub items_read : Option (Vec Item) → Option (List items.Item)
items_read None = None
items_read (Some v) = Some (item_values v.items)

abbrev pub next_read : Option (Item × ℕ × Bor Bytes) → Option items.Next
next_read None = None
next_read (Some n) = Some (item_value n.0, n.1, n.2.now)
