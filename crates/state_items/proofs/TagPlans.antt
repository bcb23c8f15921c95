-- What a change with tags adds, and what items without tags leave.
use Rattle.std.proofs.Common.{◌≡◌, true, false, ◌||◌, List, [], ◌∷◌, ◌++◌, reverse, None, refl, sym, ap, ◌∙◌}
use Rattle.std.specs.Cmp.{second_so}
use Rattle.std.specs.Cmp.Lexicographic.{bytes_decides}
use Rattle.git_objects.specs.Lists.{Each}
use Rattle.git_objects.specs.Paths.{Bytes}
use Rattle.git_objects.specs.Refs.{Refs}
use Rattle.git_objects.specs.declared.kind.Kind.TheVariants.{Commit}
use Rattle.object_store.specs.Objects.{Object, has, is_named, object_name, same_kind}
use Rattle.object_store.proofs.Held.{has-above, named_kind}
use Rattle.tag_objects.specs.TagLists.{changed, is_changed, rise, tag_named, with_tags}
use Rattle.tag_objects.specs.declared.tag.Tag.{Tag}
use Rattle.tag_objects.proofs.TagLists.{changed_rises, found_changed, found_with, with_rises}
use Rattle.state_items.specs.Appending.{AreNew, IsAddition, are_refs, are_tags}
use Rattle.state_items.specs.Changes.{change_plan, fresh, held_after, moved, objects_of, plan_of, plan_with, tagged_plan}
use Rattle.state_items.specs.Items.{Held}
use Rattle.state_items.specs.TaggedLaws.{TaggedChangeLaw, TaggedLaw}
use Rattle.state_items.proofs.Growing.{grown-fresh}
use Rattle.state_items.proofs.HeldTags.{all-also, all-filter, is_right, right-more, right-of, rise-of, tags-of}
use Rattle.state_items.proofs.Imports as imports
use Rattle.state_items.proofs.Limits.{change-law}
use Rattle.state_items.proofs.TreesAdded.{all-in}
use Rattle.state_items.proofs.TreesHeld.{IsIn}
use Rattle.state_items.specs.Growing.{grown}

-- ---- what is held after it

plan-tags : (h : Held) (f : List Object) (m : Refs) (ts : List Tag) → held_after h (plan_with f m ts) ≡ record (held_after h (plan_of f m)) { tags = with_tags h.tags ts }
plan-tags h [] [] [] = refl
plan-tags h [] (e ∷ m) [] = refl
plan-tags h (o ∷ f) m [] = refl
plan-tags h [] [] (t ∷ ts) = refl
plan-tags h [] (e ∷ m) (t ∷ ts) = refl
plan-tags h (o ∷ f) m (t ∷ ts) = refl

pub tagged-after : (h : Held) (os : List Object) (es : Refs) (ts : List Tag) → held_after h (tagged_plan h os es ts) ≡ record (held_after h (change_plan h os es)) { tags = with_tags h.tags (changed h.tags ts) }
tagged-after h os es ts = plan-tags h (fresh h.objects os) (moved h.refs es) (changed h.tags ts)

pub tagged-law : TaggedLaw
tagged-law = record {
  same = tagged-after;
  value = λ h os es ts n r.
      ap (λ (g : Held). tag_named n g.tags) (tagged-after h os es ts) ∙ found_with n (changed h.tags ts) h.tags (changed_rises h.tags ts r) ∙ found_changed n h.tags ts r;
  order = λ h os es ts r. ap (λ (g : Held). rise None g.tags) (tagged-after h os es ts) ∙ with_rises (changed h.tags ts) h.tags r;
}

-- ---- what may be added

-- a commit of the objects that are brought or held is held then
has-all : (os H G : List Object) (n : Bytes) → Each (IsIn G) os → (has Commit H n ≡ true → has Commit G n ≡ true) → has Commit (os ++ H) n ≡ true → has Commit G n ≡ true
unfolding has
has-all [] H G n i f e = f e
has-all (o ∷ os) H G n i f e =
    elim (is_named Commit o n) as (λ b. is_named Commit o n ≡ b → (b || has Commit (os ++ H) n) ≡ true → has Commit G n ≡ true) [
      | true ↦ λ g k. (λ j. has (sym (named_kind Commit o n g) j) G (sym ((bytes_decides (object_name o) n).0 (second_so (same_kind Commit o.kind) _ g)) j)) ∙ i.0.held
      | false ↦ λ g k. has-all os H G n i.1 f k
    ] refl e

pub plan-parts : (h : Held) (f : List Object) (m : Refs) → IsAddition h (plan_of f m) → AreNew h.objects f × (are_refs (reverse f ++ h.objects) None m ≡ true)
plan-parts h [] [] a = (tt, refl)
plan-parts h [] (e ∷ m) a = a
plan-parts h (o ∷ f) m a = a

plan-added : (h : Held) (f : List Object) (m : Refs) (ts : List Tag) → IsAddition h (plan_of f m) → are_tags (reverse f ++ h.objects) None ts ≡ true → IsAddition h (plan_with f m ts)
plan-added h f m [] a t = a
plan-added h f m (x ∷ ts) a t = let p = plan-parts h f m a in (p.0, p.1, t)

pub tagged-change-law : TaggedChangeLaw
tagged-change-law h bs cs es ts w small refs right =
    let H = h.objects in
    let os = objects_of bs cs in
    let hand = imports.hand h bs cs es w in
    let apart = imports.apart h bs cs es w in
    let G : List Object = grown H os in
    let there : Each (IsIn G) os = all-in hand apart os H (imports.in_all h bs cs es w) (imports.in_H h bs cs es w) in
    let same : G ≡ reverse (fresh H os) ++ H = grown-fresh H os in
    let up : (n : Bytes) → has Commit (os ++ H) n ≡ true → has Commit (reverse (fresh H os) ++ H) n ≡ true =
    λ n e. ap (λ (T : List Object). has Commit T n) (sym same)
    ∙ has-all os H G n there (λ k. ap (λ (T : List Object). has Commit T n) same ∙ has-above (reverse (fresh H os)) H Commit n k) e in
    let tags : are_tags (reverse (fresh H os) ++ H) None (changed h.tags ts) ≡ true =
    tags-of (reverse (fresh H os) ++ H) None (changed h.tags ts) (changed_rises h.tags ts (rise-of (os ++ H) None ts right))
    (all-filter (is_right (reverse (fresh H os) ++ H)) (is_changed h.tags) ts
    (all-also (is_right (os ++ H)) (is_right (reverse (fresh H os) ++ H)) (right-more (os ++ H) (reverse (fresh H os) ++ H) up) ts (right-of (os ++ H) None ts right))) in
    plan-added h (fresh H os) (moved h.refs es) (changed h.tags ts) (change-law h bs cs es w small refs) tags
