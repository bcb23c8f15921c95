-- The items of a store, each a change, with tags or without, kept projections or a rule: what a list of them holds, or its first break.
use Rattle.std.specs.Prelude.{ℕ, zero, suc, ◌+◌, Bool, true, false, not, ◌&&◌, ◌||◌, ◌==◌, nat_le, nat_lt, if◌then◌else◌, List, [], ◌∷◌, ◌++◌, length, filter, Option, Some, None, Result, Ok, Err}
use Rattle.std.specs.List.{flat_map, list_any}
use Rattle.std.specs.Int.{w16, w32, to_be_bytes}
use Rattle.std.specs.Ordering.{is_lt}
use Rattle.std.specs.FinMap.{put as put_entry}
use Rattle.git_objects.specs.declared.limits.TheConstants.{COMMITS, OBJECTS, ITEM_BYTES, ITEMS, MESSAGE_BYTES, STORE_BYTES}
use Rattle.git_objects.specs.Idents.{is_ident}
use Rattle.git_objects.specs.Paths.{Bytes, same_bytes}
use Rattle.git_objects.specs.Refs.{Refs, bytes_cmp}
use Rattle.git_objects.specs.Results.{◌>>=◌, must, or_refuse, refused_by}
use Rattle.git_objects.specs.Names.{name}
use Rattle.git_objects.specs.declared.kind.Kind.{Kind}
use Rattle.git_objects.specs.declared.kind.Kind.TheVariants.{Blob, Tree, Commit}
use Rattle.path_names.specs.RefNames.{is_ref_name}
use Rattle.object_store.specs.Objects.{Object, has, has_name}
use Rattle.object_store.specs.Fits.{is_commit, body_fits}
use Rattle.object_store.specs.Puts.{Refusal, NotBody, Missing, Collides, refusal}
use Rattle.filter_text.specs.Filters.{Filter}
use Rattle.filter_text.specs.Limits.{read}
use Rattle.filter_text.specs.Printing.{printed}
use Rattle.filter_text.specs.declared.filter.FilterFault.{FilterFault}
use Rattle.filter_routes.specs.SoundTests.{is_sound}
use Rattle.commit_map.specs.Shown.{Shown}
use Rattle.tag_objects.specs.TagLists.{put_tag}
use Rattle.tag_objects.specs.TagNames.{is_tag_name}
use Rattle.tag_objects.specs.declared.tag.Tag.{Tag}
use Rattle.state_items.specs.Fields.{Spot, Fault, BrokenAt, Clash, Read, start, field, number, ended}

-- A kept projection: the canonical text of a filter, the number of a rule, the name of an original commit, and its projection by
-- this filter under this rule, if it has one.
pub record Kept : Type 0 where
  pub filter : Bytes
  pub rule : ℕ
  pub original : Bytes
  pub result : Option Shown

-- What the items read so far hold: the objects from the newest to the oldest, the refs, the kept projections, the number of the
-- rule that was set last, and the tags, one of each name, in the byte order of their names.
pub record Held : Type 0 where
  pub objects : List Object
  pub refs : Refs
  pub kept : List Kept
  pub rule : ℕ
  pub tags : List Tag

abbrev pub nothing : Held
nothing = record { objects = []; refs = []; kept = []; rule = 1; tags = [] }

-- ---- kinds of items

pub data ItemKind : Type 0 where
  -- objects and refs
  ChangeItem : ItemKind
  -- kept projections, of rule 1 or of the rule that the item names
  OldKeptItem : ItemKind
  KeptItem : ItemKind
  -- a rule
  RuleItem : ItemKind
  -- objects, refs and tags
  TagItem : ItemKind

-- by the bytes for the format and for the kind
abbrev pub item_kind : ℕ → ℕ → Option ItemKind
item_kind format kind =
    if format == 1 && kind == 1 then Some ChangeItem else
    (if format == 1 && kind == 2 then Some OldKeptItem else
    (if format == 2 && kind == 2 then Some KeptItem else
    (if format == 2 && kind == 3 then Some RuleItem else
    (if format == 2 && kind == 4 then Some TagItem else None))))

-- a format that is none is broken at its byte, and a kind that isn't one of the format at the next
abbrev pub item_kind_field : Spot → Read ItemKind
item_kind_field s = do
  f ← number 1 s
  _ ← must (BrokenAt s.at) (f.0 == 1 || f.0 == 2)
  k ← number 1 f.1
  kind ← or_refuse (BrokenAt f.1.at) (item_kind f.0 k.0)
  Ok (kind, k.1)

-- ---- objects

-- whether objects are within the limits of a state
abbrev pub has_room : List Object → Bool
has_room S = nat_le (length S) OBJECTS && nat_le (length (filter is_commit S)) COMMITS

abbrev pub fault_of : ℕ → Refusal → Fault
fault_of at NotBody = BrokenAt at
fault_of at (Missing n) = BrokenAt at
fault_of at (Collides n) = Clash n

-- one object more, which fits and wasn't held before
abbrev pub take_object : List Object → Kind → Bytes → ℕ → Option Refusal → Result (List Object) Fault
take_object S k b at (Some r) = Err (fault_of at r)
take_object S k b at None =
    if not (has_name S (name k b)) && body_fits S k b && has_room (record { kind = k; body = b } ∷ S)
    then Ok (record { kind = k; body = b } ∷ S) else Err (BrokenAt at)

abbrev pub kind_of : ℕ → Option Kind
kind_of x = if x == 1 then Some Blob else (if x == 2 then Some Tree else (if x == 3 then Some Commit else None))

abbrev pub kind_field : Spot → Read Kind
kind_field s = do
  x ← number 1 s
  k ← or_refuse (BrokenAt s.at) (kind_of x.0)
  Ok (k, x.1)

-- the kind, the length and the body; what is held with the object
abbrev pub object_field : List Object → Spot → Read (List Object)
object_field S s = do
  k ← kind_field s
  n ← number 4 k.1
  b ← field n.0 n.1
  held ← take_object S k.0 b.0 n.1.at (refusal S k.0 b.0)
  Ok (held, b.1)

-- so many objects
abbrev pub objects_field : ℕ → List Object → Spot → Read (List Object)
objects_field zero S s = Ok (S, s)
objects_field (suc n) S s = object_field S s >>= λ o. objects_field n o.0 o.1

-- ---- refs

-- whether a ref name follows the one before, where there is one
abbrev pub rises : Option Bytes → Bytes → Bool
rises None r = true
rises (Some before) r = is_lt (bytes_cmp before r)

-- the length and the ref name, above the one before
abbrev pub ref_field : Option Bytes → Spot → Read Bytes
ref_field before s = do
  n ← number 2 s
  r ← field n.0 n.1
  _ ← must (BrokenAt n.1.at) (is_ref_name r.0 && rises before r.0)
  Ok r

-- the name of a commit that is held
abbrev pub head_field : List Object → Spot → Read Bytes
head_field S s = do
  h ← field 20 s
  _ ← must (BrokenAt s.at) (has Commit S h.0)
  Ok h

-- so many refs, each set to its commit
abbrev pub refs_field : ℕ → List Object → Option Bytes → Refs → Spot → Read Refs
refs_field zero S before refs s = Ok (refs, s)
refs_field (suc n) S before refs s =
    ref_field before s >>= λ r. head_field S r.1 >>= λ h. refs_field n S (Some r.0) (put_entry bytes_cmp r.0 h.0 refs) h.1

-- ---- tags

-- the length and the name of a tag, above the one before
abbrev pub name_field : Option Bytes → Spot → Read Bytes
name_field before s = do
  n ← number 2 s
  t ← field n.0 n.1
  _ ← must (BrokenAt n.1.at) (is_tag_name t.0 && rises before t.0)
  Ok t

-- the length and an ident
abbrev pub tagger_field : Spot → Read Bytes
tagger_field s = do
  n ← number 4 s
  t ← field n.0 n.1
  _ ← must (BrokenAt n.1.at) (is_ident t.0)
  Ok t

-- the length and a message within its limit
abbrev pub message_field : Spot → Read Bytes
message_field s = do
  n ← number 4 s
  t ← field n.0 n.1
  _ ← must (BrokenAt n.1.at) (nat_le (length t.0) MESSAGE_BYTES)
  Ok t

-- a tag of a commit that is held
abbrev pub tag_field : List Object → Option Bytes → Spot → Read Tag
tag_field S before s = do
  n ← name_field before s
  c ← head_field S n.1
  p ← tagger_field c.1
  m ← message_field p.1
  Ok (record { name = n.0; target = record { 0 = c.0 }; tagger = p.0; message = m.0 }, m.1)

-- so many tags, each in the place of the one of its name
abbrev pub tags_field : ℕ → List Object → Option Bytes → List Tag → Spot → Read (List Tag)
tags_field zero S before tags s = Ok (tags, s)
tags_field (suc n) S before tags s = tag_field S before s >>= λ t. tags_field n S (Some t.0.name) (put_tag t.0 tags) t.1

-- ---- rules and kept projections

-- a rule's number is 1 or 2
abbrev pub is_rule : ℕ → Bool
is_rule k = k == 1 || k == 2

abbrev pub rule_field : Spot → Read ℕ
rule_field s = do
  k ← number 1 s
  _ ← must (BrokenAt s.at) (is_rule k.0)
  Ok k

-- the byte 0 for none; or 1, and the names of the projected commit and of its tree
abbrev pub result_by : ℕ → ℕ → Spot → Read (Option Shown)
result_by at zero s = Ok (None, s)
result_by at (suc zero) s = do
  c ← field 20 s
  t ← field 20 c.1
  Ok (Some (record { commit = c.0; tree = t.0 }), t.1)
result_by at (suc (suc n)) s = Err (BrokenAt at)

abbrev pub result_field : Spot → Read (Option Shown)
result_field s = number 1 s >>= λ b. result_by s.at b.0 b.1

-- whether this is kept of that commit for that filter and rule
abbrev pub is_of : Bytes → ℕ → Bytes → Kept → Bool
is_of text rule n e = same_bytes e.filter text && e.rule == rule && same_bytes e.original n

-- an original is held, and has no projection yet for this filter and rule
abbrev pub entry_field : List Object → Bytes → ℕ → List Kept → Spot → Read Kept
entry_field S text rule kept s = do
  n ← field 20 s
  _ ← must (BrokenAt s.at) (has Commit S n.0 && not (list_any (is_of text rule n.0) kept))
  r ← result_field n.1
  Ok (record { filter = text; rule = rule; original = n.0; result = r.0 }, r.1)

-- so many, each behind those before
abbrev pub entries_field : ℕ → List Object → Bytes → ℕ → List Kept → Spot → Read (List Kept)
entries_field zero S text rule kept s = Ok (kept, s)
entries_field (suc n) S text rule kept s =
    entry_field S text rule kept s >>= λ e. entries_field n S text rule (kept ++ e.0 ∷ []) e.1

abbrev pub is_text_of : Bytes → Result Filter FilterFault → Bool
is_text_of t (Ok f) = same_bytes (printed f) t && is_sound f
is_text_of t (Err e) = false

-- whether a text is the canonical one of a sound filter
unfoldable pub is_canonical : Bytes → Bool
is_canonical t = is_text_of t (read t)

-- the length and the canonical text of a sound filter
abbrev pub text_field : Spot → Read Bytes
text_field s = do
  n ← number 2 s
  t ← field n.0 n.1
  _ ← must (BrokenAt n.1.at) (is_canonical t.0)
  Ok t

-- ---- items

-- nothing follows
abbrev pub ended_with : Held → Spot → Result Held Fault
ended_with h s = ended s >>= λ _. Ok h

abbrev pub change_part : Held → Spot → Result Held Fault
change_part h s = do
  n ← number 4 s
  objects ← objects_field n.0 h.objects n.1
  m ← number 4 objects.1
  refs ← refs_field m.0 objects.0 None h.refs m.1
  ended_with (record h { objects = objects.0; refs = refs.0 }) refs.1

-- the fields of a change, and the tags behind them
abbrev pub tag_part : Held → Spot → Result Held Fault
tag_part h s = do
  n ← number 4 s
  objects ← objects_field n.0 h.objects n.1
  m ← number 4 objects.1
  refs ← refs_field m.0 objects.0 None h.refs m.1
  k ← number 4 refs.1
  tags ← tags_field k.0 objects.0 None h.tags k.1
  ended_with (record h { objects = objects.0; refs = refs.0; tags = tags.0 }) tags.1

abbrev pub kept_part : Held → ℕ → Spot → Result Held Fault
kept_part h rule s = do
  t ← text_field s
  n ← number 4 t.1
  kept ← entries_field n.0 h.objects t.0 rule h.kept n.1
  ended_with (record h { kept = kept.0 }) kept.1

abbrev pub part : Held → ItemKind → Spot → Result Held Fault
part h ChangeItem s = change_part h s
part h OldKeptItem s = kept_part h 1 s
part h KeptItem s = rule_field s >>= λ k. kept_part h k.0 k.1
part h RuleItem s = rule_field s >>= λ k. ended_with (record h { rule = k.0 }) k.1
part h TagItem s = tag_part h s

-- what is held after an item
unfoldable pub read_item : Held → Bytes → Result Held Fault
read_item h bytes = item_kind_field (start bytes) >>= λ k. part h k.0 k.1

-- a fault, and the number of its item
abbrev pub Break : Type 0
Break = ℕ × Fault

-- of an item with this number behind so many bytes: at most 2^20 items of 2^29 bytes each, together 2^31
abbrev pub item_fits : ℕ → ℕ → Bytes → Bool
item_fits number size item = nat_lt number ITEMS && nat_le (length item) ITEM_BYTES && nat_le (size + length item) STORE_BYTES

-- what is held after one item more, of this number and behind so many bytes
abbrev pub read_one : ℕ → ℕ → Held → Bytes → Result Held Break
read_one number size h item = do
  _ ← must (number, BrokenAt 0) (item_fits number size item)
  refused_by (λ f. (number, f)) (read_item h item)

-- of the items from this number on, behind so many bytes
abbrev pub read_from : ℕ → ℕ → Held → List Bytes → Result Held Break
read_from number size h [] = Ok h
read_from number size h (item ∷ items) =
    read_one number size h item >>= λ after. read_from (number + 1) (size + length item) after items

-- What the items hold, or the first of them that breaks a rule, with the place where it does or the name that two objects have.
unfoldable pub read_items : List Bytes → Result Held Break
read_items items = read_from 0 0 nothing items

-- ---- writing

abbrev pub kind_byte : Kind → ℕ
kind_byte Blob = 1
kind_byte Tree = 2
kind_byte Commit = 3

abbrev pub object_text : Object → Bytes
object_text o = kind_byte o.kind ∷ (to_be_bytes w32 (length o.body) ++ o.body)

abbrev pub ref_text : Bytes × Bytes → Bytes
ref_text r = to_be_bytes w16 (length r.0) ++ r.0 ++ r.1

-- an item of these objects, in order, and of these refs
unfoldable pub change_text : List Object → Refs → Bytes
change_text objects refs =
    1 ∷ 1 ∷ (to_be_bytes w32 (length objects) ++ flat_map object_text objects ++ to_be_bytes w32 (length refs) ++ flat_map ref_text refs)

-- the length and the name, the commit's name, the length and the tagger, the length and the message
abbrev pub tag_item_text : Tag → Bytes
tag_item_text t =
    to_be_bytes w16 (length t.name) ++ t.name ++ t.target.0 ++ to_be_bytes w32 (length t.tagger) ++ t.tagger
    ++ to_be_bytes w32 (length t.message) ++ t.message

-- an item of these objects, in order, of these refs, and of these tags
unfoldable pub tagged_change_text : List Object → Refs → List Tag → Bytes
tagged_change_text objects refs tags =
    2 ∷ 4 ∷ (to_be_bytes w32 (length objects) ++ flat_map object_text objects ++ to_be_bytes w32 (length refs) ++ flat_map ref_text refs
    ++ to_be_bytes w32 (length tags) ++ flat_map tag_item_text tags)

-- an item of these objects and refs, and of these tags where there are any
abbrev pub text_with : List Object → Refs → List Tag → Bytes
text_with objects refs [] = change_text objects refs
text_with objects refs (t ∷ ts) = tagged_change_text objects refs (t ∷ ts)

abbrev pub result_text : Option Shown → Bytes
result_text None = 0 ∷ []
result_text (Some p) = 1 ∷ (p.commit ++ p.tree)

abbrev pub entry_text : Bytes × Option Shown → Bytes
entry_text e = e.0 ++ result_text e.1

-- an item of these originals with their projections, in order, for the filter of that text and the rule of that number
unfoldable pub kept_text : ℕ → Bytes → List (Bytes × Option Shown) → Bytes
kept_text rule text es =
    2 ∷ 2 ∷ rule ∷ (to_be_bytes w16 (length text) ++ text ++ to_be_bytes w32 (length es) ++ flat_map entry_text es)

abbrev pub rule_text : ℕ → Bytes
rule_text rule = 2 ∷ 3 ∷ rule ∷ []
