-- Parts of an item's definition, as the code reads them.
use Rattle.std.specs.Prelude.{ℕ, zero, suc, Bool, ◌&&◌, List, [], ◌∷◌, ◌++◌, Option, None, Result, Ok, is_none}
use Rattle.std.specs.List.{list_all}
use Rattle.std.specs.FinMap.{put as put_entry}
use Rattle.git_objects.specs.Paths.{Bytes}
use Rattle.git_objects.specs.Refs.{Refs, bytes_cmp}
use Rattle.git_objects.specs.Results.{◌>>=◌, must}
use Rattle.git_objects.specs.declared.kind.Kind.{Kind}
use Rattle.git_objects.specs.declared.kind.Kind.TheVariants.{Commit}
use Rattle.object_store.specs.Objects.{Object, has}
use Rattle.object_store.specs.declared.store.PutError.{PutError}
use Rattle.object_store.specs.declared.store.PutError.TheVariants.{NotCanonical, MissingChild, Collision as Collides, OutOfMemory as NoMemory}
use Rattle.commit_map.specs.Shown.{Entries, Shown, kept_at}
use Rattle.tag_objects.specs.TagLists.{put_tag}
use Rattle.tag_objects.specs.declared.tag.Tag.{Tag}
use Rattle.state_items.specs.Fields.{Spot, Fault, BrokenAt, Read, ended, field, number, start}
use Rattle.state_items.specs.Items.{ItemKind, ChangeItem, OldKeptItem, KeptItem, RuleItem, TagItem, head_field, item_kind_field, kind_field, objects_field, ref_field, refs_field, result_field, rule_field, tag_field, tags_field, text_field}
use Rattle.state_items.specs.KeptMaps.{RuleMaps, entries_at, with_map_by}
use Rattle.state_items.specs.declared.fault.ItemFault.{ItemFault}
use Rattle.state_items.specs.declared.fault.ItemFault.TheVariants.{Broken, Collision, OutOfMemory}

-- an object's kind, its body, and the body's place
pub record Field : Type 0 where
  pub kind : Kind
  pub body : Bytes
  pub at : ℕ

abbrev pub body_field : Spot → Read Field
body_field s = do
  k ← kind_field s
  n ← number 4 k.1
  b ← field n.0 n.1
  Ok (record { kind = k.0; body = b.0; at = n.1.at }, b.1)

-- why a body isn't taken in, at this place
abbrev pub put_fault : PutError → ℕ → ItemFault
put_fault NotCanonical at = Broken at
put_fault (MissingChild n) at = Broken at
put_fault (Collides n) at = Collision n
put_fault NoMemory at = OutOfMemory

-- one ref: its name, and the refs with it
abbrev pub one_ref : List Object → Option Bytes → Refs → Spot → Read (Bytes × Refs)
one_ref S before refs s = ref_field before s >>= λ r. head_field S r.1 >>= λ h. Ok ((r.0, put_entry bytes_cmp r.0 h.0 refs), h.1)

-- one tag: its name, and the tags with it
abbrev pub one_tag : List Object → Option Bytes → List Tag → Spot → Read (Bytes × List Tag)
one_tag S before tags s = tag_field S before s >>= λ t. Ok ((t.0.name, put_tag t.0 tags), t.1)

-- whether each ref names a commit that is held
abbrev pub are_heads : List Object → Refs → Bool
are_heads S refs = list_all (λ e. has Commit S e.1) refs

-- ---- kept projections, into one map

-- the names of a projected commit and of its tree
abbrev pub shown_field : Spot → Read Shown
shown_field s = do
  c ← field 20 s
  t ← field 20 c.1
  Ok (record { commit = c.0; tree = t.0 }, t.1)

-- an original that is held and isn't in the map
abbrev pub original_field : List Object → Entries → Spot → Read Bytes
original_field S es s = do
  n ← field 20 s
  _ ← must (BrokenAt s.at) (has Commit S n.0 && is_none (kept_at n.0 es))
  Ok n

-- with its projection
abbrev pub entry_step : List Object → Entries → Spot → Read Entries
entry_step S es s = do
  n ← original_field S es s
  r ← result_field n.1
  Ok (es ++ (n.0, r.0) ∷ [], r.1)

-- so many
abbrev pub entries_step : ℕ → List Object → Entries → Spot → Read Entries
entries_step zero S es s = Ok (es, s)
entries_step (suc n) S es s = entry_step S es s >>= λ e. entries_step n S e.0 e.1

-- ---- an item, into what the code holds

-- what the code holds: the objects from the newest to the oldest, the refs in byte order, the maps, the rule, and the tags
pub record Parts : Type 0 where
  pub objects : List Object
  pub refs : Refs
  pub maps : RuleMaps
  pub rule : ℕ
  pub tags : List Tag

-- the refs, and the end
abbrev pub refs_step : List Object → Refs → Spot → Result Refs Fault
refs_step S refs s = do
  n ← number 4 s
  r ← refs_field n.0 S None refs n.1
  _ ← ended r.1
  Ok r.0

-- the objects and the refs
abbrev pub objects_step : List Object → Refs → Spot → Result (List Object × Refs) Fault
objects_step S refs s = do
  n ← number 4 s
  o ← objects_field n.0 S n.1
  r ← refs_step o.0 refs o.1
  Ok (o.0, r)

abbrev pub change_step : Parts → Spot → Result Parts Fault
change_step p s = objects_step p.objects p.refs s >>= λ c. Ok (record p { objects = c.0; refs = c.1 })

-- the refs, the tags, and the end
abbrev pub tags_step : List Object → Refs → List Tag → Spot → Result (Refs × List Tag) Fault
tags_step S refs tags s = do
  n ← number 4 s
  r ← refs_field n.0 S None refs n.1
  k ← number 4 r.1
  t ← tags_field k.0 S None tags k.1
  _ ← ended t.1
  Ok (r.0, t.0)

-- the objects, the refs and the tags
abbrev pub tagged_step : List Object → Refs → List Tag → Spot → Result (List Object × Refs × List Tag) Fault
tagged_step S refs tags s = do
  n ← number 4 s
  o ← objects_field n.0 S n.1
  t ← tags_step o.0 refs tags o.1
  Ok (o.0, t.0, t.1)

abbrev pub tag_step : Parts → Spot → Result Parts Fault
tag_step p s = tagged_step p.objects p.refs p.tags s >>= λ c. Ok (record p { objects = c.0; refs = c.1; tags = c.2 })

abbrev pub kept_maps : List Object → ℕ → RuleMaps → Spot → Result RuleMaps Fault
kept_maps S rule maps s = do
  t ← text_field s
  n ← number 4 t.1
  e ← entries_step n.0 S (entries_at rule t.0 maps) n.1
  _ ← ended e.1
  Ok (with_map_by rule maps t.0 e.0)

abbrev pub kept_by_rule : List Object → RuleMaps → Spot → Result RuleMaps Fault
kept_by_rule S maps s = rule_field s >>= λ k. kept_maps S k.0 maps k.1

abbrev pub kept_step : Parts → ℕ → Spot → Result Parts Fault
kept_step p rule s = kept_maps p.objects rule p.maps s >>= λ maps. Ok (record p { maps = maps })

-- a rule, and the end
abbrev pub rule_end : Spot → Result ℕ Fault
rule_end s = do
  k ← rule_field s
  _ ← ended k.1
  Ok k.0

abbrev pub rule_step : Parts → Spot → Result Parts Fault
rule_step p s = rule_end s >>= λ k. Ok (record p { rule = k })

abbrev pub part_step : Parts → ItemKind → Spot → Result Parts Fault
part_step p ChangeItem s = change_step p s
part_step p OldKeptItem s = kept_step p 1 s
part_step p KeptItem s = kept_by_rule p.objects p.maps s >>= λ maps. Ok (record p { maps = maps })
part_step p RuleItem s = rule_step p s
part_step p TagItem s = tag_step p s

unfoldable pub item_step : Parts → Bytes → Result Parts Fault
item_step p bytes = item_kind_field (start bytes) >>= λ k. part_step p k.0 k.1
