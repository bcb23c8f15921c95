-- Worked examples.
use Rattle.std.specs.Prelude.{◌≡◌, refl, true, false, [], ◌∷◌, codes, length, Some, None}
use Rattle.std.specs.Fmt.{digits}
use Rattle.hex.specs.Hex.{encode_with}
use Rattle.sha1.specs.Sha1.{sha1, first_words, schedule, rounds, compress, hash_after, digest_bytes}
use Rattle.git_objects.specs.Paths.{Bytes}
use Rattle.git_objects.specs.Commits.{hex}
use Rattle.path_names.specs.RefNames.{is_ref_name}
use Rattle.tag_objects.specs.declared.tag.Tag.{Tag}
use Rattle.tag_objects.specs.TagNames.{is_tag_name}
use Rattle.tag_objects.specs.Tags.{tag_body, tag_object_name, tag_text}
use Rattle.tag_objects.specs.TagLists.{changed, first_taken, rise, with_tags}

pub a_name : is_tag_name (codes "v1") ≡ true
unfolding is_ref_name
a_name = refl

pub a_name_with_a_slash : is_tag_name (codes "rel/1.0") ≡ true
unfolding is_ref_name
a_name_with_a_slash = refl

pub no_empty_name : is_tag_name [] ≡ false
unfolding is_ref_name
no_empty_name = refl

pub no_name_behind_a_slash : is_tag_name (codes "/v1") ≡ false
unfolding is_ref_name
no_name_behind_a_slash = refl

pub no_blank_in_a_name : is_tag_name (codes "v 1") ≡ false
unfolding is_ref_name
no_blank_in_a_name = refl

-- the commit of the file `f` alone, with the message `init`
abbrev commit : Bytes
commit =
    106 ∷ 39 ∷ 255 ∷ 109 ∷ 229 ∷ 212 ∷ 90 ∷ 101 ∷ 204 ∷ 102
    ∷ 114 ∷ 60 ∷ 106 ∷ 230 ∷ 34 ∷ 126 ∷ 166 ∷ 0 ∷ 74 ∷ 166 ∷ []

abbrev v1 : Tag
v1 = record {
  name = codes "v1";
  target = record { 0 = commit };
  tagger = codes "A <a@x> 1700000000 +0000";
  message = codes "v1\n";
}

pub its_body : length (tag_body v1) ≡ 103
unfolding encode_with
its_body = refl

-- the name that Git gives it
pub its_name : hex (tag_object_name v1) ≡ codes "d88c050478c5950055596d4c1e52f78a773f00eb"
unfolding tag_object_name encode_with digits first_words schedule rounds compress hash_after digest_bytes sha1
its_name = refl

pub its_text : tag_text v1
    ≡ codes "tag v1\nfrom 6a27ff6de5d45a65cc66723c6ae6227ea6004aa6\ntagger A <a@x> 1700000000 +0000\ndata 3\nv1\n\n"
unfolding encode_with digits
its_text = refl

-- ---- lists

abbrev other : Tag
other = record v1 { message = codes "v2\n" }

abbrev v0 : Tag
v0 = record v1 { name = codes "v0" }

abbrev v10 : Tag
v10 = record v1 { name = codes "v10" }

-- in byte order, the last one of each name
pub in_order : with_tags [] (v10 ∷ v1 ∷ v0 ∷ other ∷ []) ≡ v0 ∷ other ∷ v10 ∷ []
in_order = refl

pub they_rise : rise None (v0 ∷ v1 ∷ v10 ∷ []) ≡ true
they_rise = refl

pub no_name_twice : rise None (v0 ∷ v0 ∷ []) ≡ false
no_name_twice = refl

-- one that is new and one that differs, and not one that stays
pub what_changes : changed (v0 ∷ v1 ∷ []) (v0 ∷ other ∷ v10 ∷ []) ≡ other ∷ v10 ∷ []
what_changes = refl

-- a new one takes no name
pub what_is_taken : first_taken (v0 ∷ v1 ∷ []) (v10 ∷ v0 ∷ other ∷ []) ≡ Some (codes "v1")
what_is_taken = refl
