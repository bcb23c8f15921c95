-- Items with one more behind them spell what is held after it.
use Rattle.std.specs.Prelude.{◌≡◌, ⊤, ◌&&◌, ◌<◌, ◌^◌, ℕ, nat_le, Bool, true, false, not, List, [], ◌∷◌, ◌++◌, length, Option, Some, None, Ok}
use Rattle.std.specs.List.{list_any}
use Rattle.git_objects.specs.Idents.{is_ident}
use Rattle.git_objects.specs.Paths.{Bytes}
use Rattle.git_objects.specs.Bodies.{is_name}
use Rattle.git_objects.specs.Refs.{Refs}
use Rattle.git_objects.specs.Snapshots.{Snapshot}
use Rattle.git_objects.specs.declared.kind.Kind.TheVariants.{Commit}
use Rattle.git_objects.specs.declared.limits.TheConstants.{MESSAGE_BYTES}
use Rattle.path_names.specs.RefNames.{is_ref_name}
use Rattle.object_store.specs.Objects.{Object, object_name, is_body, has, has_name}
use Rattle.object_store.specs.Fits.{body_fits}
use Rattle.commit_map.specs.Shown.{Shown}
use Rattle.tag_objects.specs.TagNames.{is_tag_name}
use Rattle.tag_objects.specs.declared.tag.Tag.{Tag}
use Rattle.state_items.specs.Items.{Held, Kept, is_canonical, is_of, is_rule, nothing, read_items, rises}
use Rattle.state_items.specs.Repos.{IsKept}
use Rattle.state_items.specs.Changes.{Plan, NoPlan, ChangePlan, RulePlan, KeepPlan, TagPlan, entry_of, held_after, passed, plan_items, room_of}

-- objects one after another, each with its children before it, within the limits of objects, and not held yet
abbrev pub AreNew : List Object → List Object → Type 0
AreNew S [] = ⊤
AreNew S (o ∷ os) = (is_body S o.kind o.body ≡ true) × (body_fits S o.kind o.body ≡ true)
    × (has_name S (object_name o) ≡ false) × AreNew (o ∷ S) os

-- ref names that strictly rise, each with a commit among these objects
abbrev pub are_refs : List Object → Option Bytes → Refs → Bool
are_refs S before [] = true
are_refs S before (r ∷ rs) = is_ref_name r.0 && rises before r.0 && has Commit S r.1 && are_refs S (Some r.0) rs

-- names of tags that strictly rise, each with a commit among these objects, an ident, and a message within its limit
abbrev pub are_tags : List Object → Option Bytes → List Tag → Bool
are_tags S before [] = true
are_tags S before (t ∷ ts) =
    is_tag_name t.name && rises before t.name && has Commit S t.target.0 && is_ident t.tagger
    && nat_le (length t.message) MESSAGE_BYTES && are_tags S (Some t.name) ts

abbrev pub is_result : Option Shown → Bool
is_result None = true
is_result (Some p) = is_name p.commit && is_name p.tree

-- originals that are held, each of which has no projection yet
abbrev pub are_entries : List Object → ℕ → Bytes → List Kept → List (Bytes × Option Shown) → Bool
are_entries S k text kept [] = true
are_entries S k text kept (e ∷ es) =
    has Commit S e.0 && is_result e.1 && not (list_any (is_of text k e.0) kept)
    && are_entries S k text (kept ++ entry_of k text e ∷ []) es

-- what may be added to what is held
abbrev pub IsAddition : Held → Plan → Type 0
IsAddition h NoPlan = ⊤
IsAddition h (ChangePlan objects refs) = AreNew h.objects objects
    × (are_refs (held_after h (ChangePlan objects refs)).objects None refs ≡ true)
IsAddition h (RulePlan k) = is_rule k ≡ true
IsAddition h (KeepPlan k text es) = (is_rule k ≡ true) × (is_canonical text ≡ true) × (length text < 2 ^ 16)
    × (are_entries h.objects k text h.kept es ≡ true)
IsAddition h (TagPlan objects refs tags) = AreNew h.objects objects
    × (are_refs (held_after h (TagPlan objects refs tags)).objects None refs ≡ true)
    × (are_tags (held_after h (TagPlan objects refs tags)).objects None tags ≡ true)

-- An addition that passes no limit is read back behind the items. No items spell a state in which nothing is held, and
-- hold what they should.
pub record AppendLaw : Type 0 where
  pub read_back : (items : List Bytes) (h : Held) (p : Plan) → read_items items ≡ Ok h → IsAddition h p
      → passed h (room_of items) p ≡ None
      → read_items (items ++ plan_items p) ≡ Ok (held_after h p)
  pub none : (project : ℕ → Bytes → List Snapshot → Bytes → Option Shown) → IsKept project [] nothing
