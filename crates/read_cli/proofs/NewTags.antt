-- The tags that are written with what is new are tags of its commits.
use Rattle.std.proofs.Common.{◌≡◌, Bool, true, false, cond, List, [], ◌∷◌, filter, map, Some, None, refl}
use Rattle.std.specs.Prelude.{replicate}
use Rattle.std.specs.Cmp.{first_so, second_so}
use Rattle.git_objects.specs.Lists.{Each}
use Rattle.git_objects.specs.Paths.{Bytes, same_bytes}
use Rattle.git_objects.specs.Refs.{bytes_cmp}
use Rattle.git_objects.specs.Snapshots.{Snapshot, snapshot_name}
use Rattle.git_objects.proofs.Basics.{and_both}
use Rattle.object_store.specs.Objects.{IsStore}
use Rattle.filter_text.specs.Filters.{Filter}
use Rattle.fast_export.specs.ExportTexts.{is_among}
use Rattle.fast_export.specs.TagLaws.{AreTagsOf, IsTagOf}
use Rattle.projection_laws.specs.ProjectionLaws.{HistoryLaw}
use Rattle.tag_objects.specs.TagLists.{rise}
use Rattle.tag_objects.specs.declared.tag.Tag.{Tag}
use Rattle.tag_objects.proofs.TagLists.{less, rise_from}
use Rattle.state_items.specs.Appending.{are_tags}
use Rattle.state_items.specs.Items.{Held}
use Rattle.proj_commands.specs.Export.{exported, tags_beside}
use Rattle.proj_commands.specs.Tags.{shown_tags}
use Rattle.proj_commands.proofs.ShownTags.{are-tags}
use Rattle.repo_ground.proofs.CommitGraphs.{stored-graph}
use Rattle.read_cli.specs.Outputs.{new_commits, new_tags}

-- ---- of tags in byte order some are left

module _ (test : Tag → Bool) where
  rises-from : (m : Bytes) (ts : List Tag) → rise (Some m) ts ≡ true → rise (Some m) (filter test ts) ≡ true
  rises-from m [] r = refl
  rises-from m (t ∷ ts) r =
      elim (test t) as (λ b. rise (Some m) (cond b (t ∷ filter test ts) (filter test ts)) ≡ true) [
        | true ↦ and_both (first_so _ _ r) (rises-from t.name ts (second_so _ _ r))
        | false ↦ rise_from m t.name (filter test ts) (less (bytes_cmp m t.name) (first_so _ _ r)) (rises-from t.name ts (second_so _ _ r))
      ]

  from-none : (m : Bytes) (ts : List Tag) → rise (Some m) ts ≡ true → rise None ts ≡ true
  from-none m [] r = refl
  from-none m (t ∷ ts) r = second_so _ _ r

  rises : (ts : List Tag) → rise None ts ≡ true → rise None (filter test ts) ≡ true
  rises [] r = refl
  rises (t ∷ ts) r =
      elim (test t) as (λ b. rise None (cond b (t ∷ filter test ts) (filter test ts)) ≡ true) [
        | true ↦ rises-from t.name ts r
        | false ↦ from-none t.name (filter test ts) (rises-from t.name ts r)
      ]

-- those of commits that are left
module _ (cs ds : List Snapshot) where
  abbrev left : Tag → Bool
  left t = is_among t.target.0 (map snapshot_name ds)

  each-left : (ts : List Tag) → Each (IsTagOf cs) ts → Each (IsTagOf ds) (filter left ts)
  each-left [] h = tt
  each-left (t ∷ ts) h =
      elim (left t) as (λ b. left t ≡ b → Each (IsTagOf ds) (cond b (t ∷ filter left ts) (filter left ts))) [
        | true ↦ λ e. (record { name = h.0.name; tagger = h.0.tagger; target = e; some = h.0.some }, each-left ts h.1)
        | false ↦ λ e. each-left ts h.1
      ] refl

  tags-left : (ts : List Tag) → AreTagsOf cs ts → AreTagsOf ds (filter left ts)
  tags-left ts h = record { order = rises left ts h.order; each = each-left ts h.each }

-- ---- of what is new

pub tags-new : HistoryLaw → (tagged : Bool) (h : Held) (f : Filter) (n : Bytes) (haves : List Bytes) → IsStore h.objects → are_tags h.objects None h.tags ≡ true
    → Each (λ t. same_bytes t.target.0 (replicate 20 0) ≡ false) (tags_beside tagged h f n) → AreTagsOf (new_commits h f n haves) (new_tags tagged h f n haves)
tags-new law true h f n haves store right some =
    tags-left (exported h f n) (new_commits h f n haves) (shown_tags h f n) (are-tags law h f n (stored-graph h.objects store) right some)
tags-new law false h f n haves store right some = record { order = refl; each = tt }
