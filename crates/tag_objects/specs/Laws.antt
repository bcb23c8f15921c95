-- What lists of tags keep to.
use Rattle.std.specs.Prelude.{◌≡◌, true, List, [], Some, None, if◌then◌else◌}
use Rattle.std.specs.Option.{option_or}
use Rattle.git_objects.specs.Paths.{Bytes, same_bytes}
use Rattle.tag_objects.specs.declared.tag.Tag.{Tag}
use Rattle.tag_objects.specs.TagLists.{changed, put_tag, rise, tag_named, with_tags}

-- ---- one more, and several

-- Names rise again where a tag was put, and where several were. The tag that was put has its name, and each other name
-- has what it had. Tags whose names rise are what they give, put one after another.
pub record PuttingLaw : Type 0 where
  pub rises : (t : Tag) (us : List Tag) → rise None us ≡ true → rise None (put_tag t us) ≡ true
  pub all_rise : (ts us : List Tag) → rise None us ≡ true → rise None (with_tags us ts) ≡ true
  pub named : (n : Bytes) (t : Tag) (us : List Tag) →
      tag_named n (put_tag t us) ≡ if same_bytes t.name n then Some t else tag_named n us
  pub in_order : (ts : List Tag) → rise None ts ≡ true → with_tags [] ts ≡ ts

-- ---- those that change

-- Of tags whose names rise, the names of those that change rise too; and those that change say, upon the tags that were
-- there, what all of them say.
pub record ChangingLaw : Type 0 where
  pub rises : (tags ts : List Tag) → rise None ts ≡ true → rise None (changed tags ts) ≡ true
  pub enough : (n : Bytes) (tags ts : List Tag) → rise None ts ≡ true →
      option_or (tag_named n (changed tags ts)) (tag_named n tags) ≡ option_or (tag_named n ts) (tag_named n tags)
  pub all_named : (n : Bytes) (tags ts : List Tag) → rise None ts ≡ true →
      tag_named n (with_tags tags ts) ≡ option_or (tag_named n ts) (tag_named n tags)
