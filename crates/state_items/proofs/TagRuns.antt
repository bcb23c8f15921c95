-- Tags of an item, one after another.
use Rattle.std.proofs.Common.{◌≡◌, ℕ, suc, ◌+◌, ◌-◌, ◌<◌, List, Option, Some, Ok, refl, ap, ◌∙◌, arith}
use Rattle.git_objects.specs.Paths.{Bytes}
use Rattle.git_objects.specs.Results.{◌>>=◌}
use Rattle.object_store.specs.Objects.{Object}
use Rattle.tag_objects.specs.TagLists.{put_tag}
use Rattle.tag_objects.specs.declared.tag.Tag.{Tag}
use Rattle.state_items.specs.Fields.{Spot}
use Rattle.state_items.specs.Items.{tag_field, tags_field}
use Rattle.state_items.specs.Steps.{one_tag}
use Rattle.state_items.specs.Stops.{IsStop}
use Rattle.state_items.specs.declared.fault.ItemFault.{ItemFault}
use Rattle.state_items.proofs.Stopping.{then-ok, then-stop, stop-along, together}

module _ (S : List Object) (before : Option Bytes) (tags : List Tag) (s : Spot) where
  tags-one : (n : ℕ) → tags_field (suc n) S before tags s ≡ (one_tag S before tags s >>= (λ q. tags_field n S (Some q.0.0) q.0.1 q.1))
  tags-one n =
      together (tag_field S before s) (λ t. Ok ((t.0.name, put_tag t.0 tags), t.1)) (λ q. tags_field n S (Some q.0.0) q.0.1 q.1) (λ t. tags_field n S (Some t.0.name) (put_tag t.0 tags) t.1) (λ t. refl)

  one_more : (count i : ℕ) → i < count → count - i ≡ suc (count - (i + 1))
  one_more count i h = omega arith

  pub tags-more : (count i : ℕ) (name : Bytes) (after : List Tag) (t : Spot) → i < count → one_tag S before tags s ≡ Ok ((name, after), t) →
      tags_field (count - i) S before tags s ≡ tags_field (count - (i + 1)) S (Some name) after t
  tags-more count i name after t h e =
      ap (λ n. tags_field n S before tags s) (one_more count i h)
      ∙ tags-one (count - (i + 1))
      ∙ then-ok (one_tag S before tags s) (λ q. tags_field (count - (i + 1)) S (Some q.0.0) q.0.1 q.1) ((name, after), t) e

  pub tags-stop : (count i : ℕ) (stop : ItemFault) → i < count → IsStop stop (one_tag S before tags s) → IsStop stop (tags_field (count - i) S before tags s)
  tags-stop count i stop h e =
      stop-along stop (tags_field (count - i) S before tags s) (one_tag S before tags s >>= (λ q. tags_field (count - (i + 1)) S (Some q.0.0) q.0.1 q.1))
      (ap (λ n. tags_field n S before tags s) (one_more count i h) ∙ tags-one (count - (i + 1)))
      (then-stop stop (one_tag S before tags s) (λ q. tags_field (count - (i + 1)) S (Some q.0.0) q.0.1 q.1) e)
