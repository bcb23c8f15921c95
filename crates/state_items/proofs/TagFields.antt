-- Tags that were written are read back.
use Rattle.std.proofs.Common.{◌≡◌, ◌+◌, ◌<◌, ◌≤◌, ◌^◌, ℕ, true, ◌&&◌, List, [], ◌∷◌, ◌++◌, length, reverse, Option, None, Some, Ok, refl, ap, ◌∙◌, arith, length-append}
use Rattle.std.specs.Prelude.{nat_le}
use Rattle.std.specs.Cmp.{first_so, second_so}
use Rattle.std.specs.Int.{to_be_bytes, w16, w32}
use Rattle.std.specs.List.{flat_map}
use Rattle.std.proofs.lemmas.List.{append_assoc}
use Rattle.git_objects.specs.Idents.{is_ident}
use Rattle.git_objects.specs.Paths.{Bytes}
use Rattle.git_objects.specs.Refs.{Refs}
use Rattle.git_objects.specs.Results.{◌>>=◌, must}
use Rattle.git_objects.specs.declared.kind.Kind.TheVariants.{Commit}
use Rattle.git_objects.specs.declared.limits.TheConstants.{MESSAGE_BYTES}
use Rattle.object_store.specs.Objects.{Object, has}
use Rattle.state_items.specs.Changes.{with_refs}
use Rattle.state_items.specs.Fields.{BrokenAt, Spot, field, number}
use Rattle.state_items.specs.Items.{Held, TagItem, change_text, ended_with, head_field, message_field, name_field, object_text, objects_field, read_item, ref_text, refs_field, rises, tag_field, tag_item_text, tagged_change_text, tagger_field, tags_field}
use Rattle.state_items.proofs.ItemReads.{append-nothing, item-by}
use Rattle.state_items.proofs.Lengths.{item-long, objects-long, ref-short}
use Rattle.state_items.proofs.ReadFields.{AreSet, AreTaken, field-front, head-read, number-front_2, number-front_4, objects-read, refs-read, spot, then-ok}
use Rattle.state_items.proofs.RefsMoved.{held-long}
use Rattle.tag_objects.specs.TagLists.{put_tag, with_tags}
use Rattle.tag_objects.specs.TagNames.{is_tag_name, tag_ref}
use Rattle.tag_objects.specs.declared.tag.Tag.{Tag}
use Rattle.state_items.specs.Appending.{are_tags}

-- ---- lengths

pub tag_long : (t : Tag) → 1 + length t.tagger + length t.message ≤ length (tag_item_text t)
tag_long t =
    let a = to_be_bytes w16 (length t.name) in
    let b = to_be_bytes w32 (length t.tagger) in
    let c = to_be_bytes w32 (length t.message) in
    let n = t.name in
    let k = t.target.0 in
    let g = t.tagger in
    omega (arith, length-append (((((a ++ n) ++ k) ++ b) ++ g) ++ c) t.message, length-append ((((a ++ n) ++ k) ++ b) ++ g) c, length-append (((a ++ n) ++ k) ++ b) g, length-append ((a ++ n) ++ k) b, length-append (a ++ n) k, length-append a n)

some_tags : (ts : List Tag) → length ts ≤ length (flat_map tag_item_text ts)
some_tags [] = omega arith
some_tags (t ∷ ts) = omega (arith, some_tags ts, tag_long t, length-append (tag_item_text t) (flat_map tag_item_text ts))

-- an item has more bytes than objects, refs and tags, and than their texts
pub record IsLong (os : List Object) (rs : Refs) (ts : List Tag) : Type 0 where
  pub all : length os + length rs + length ts ≤ length (tagged_change_text os rs ts)
  pub objects : length (flat_map object_text os) ≤ length (tagged_change_text os rs ts)
  pub tags : length (flat_map tag_item_text ts) ≤ length (tagged_change_text os rs ts)

longer : (os : List Object) (rs : Refs) (ts : List Tag) → length (change_text os rs) + length (flat_map tag_item_text ts) ≤ length (tagged_change_text os rs ts)
unfolding change_text tagged_change_text
longer os rs ts =
    let a = to_be_bytes w32 (length os) in
    let b = flat_map object_text os in
    let c = to_be_bytes w32 (length rs) in
    let d = flat_map ref_text rs in
    let e = to_be_bytes w32 (length ts) in
    let f = flat_map tag_item_text ts in
    omega (arith, length-append ((((a ++ b) ++ c) ++ d) ++ e) f, length-append (((a ++ b) ++ c) ++ d) e)

pub tagged_long : (os : List Object) (rs : Refs) (ts : List Tag) → IsLong os rs ts
tagged_long os rs ts = record {
  all = omega (arith, item-long os rs, some_tags ts, longer os rs ts);
  objects = omega (arith, objects-long os rs, longer os rs ts);
  tags = omega (arith, longer os rs ts);
}

-- ---- tags that may be added

pub record Sets (G : List Object) (before : Option Bytes) (t : Tag) : Type 0 where
  pub valid : is_tag_name t.name ≡ true
  pub rising : rises before t.name ≡ true
  pub head : has Commit G t.target.0 ≡ true
  pub by : is_ident t.tagger ≡ true
  pub within : nat_le (length t.message) MESSAGE_BYTES ≡ true
  pub name_short : length t.name < 2 ^ 16
  pub named : length t.target.0 ≡ 20
  pub tagger_short : length t.tagger < 2 ^ 32
  pub message_short : length t.message < 2 ^ 32

abbrev pub AreSetTags : List Object → Option Bytes → List Tag → Type 0
AreSetTags G before [] = Unit
AreSetTags G before (t ∷ ts) = Sets G before t × AreSetTags G (Some t.name) ts

pub name_short : (t : Bytes) → is_tag_name t ≡ true → length t < 2 ^ 16
name_short t h = omega (arith, ref-short (tag_ref t) h)

pub tags_set : (G : List Object) (before : Option Bytes) (ts : List Tag) → are_tags G before ts ≡ true → length (flat_map tag_item_text ts) < 2 ^ 32 → AreSetTags G before ts
tags_set G before [] h l = tt
tags_set G before (t ∷ ts) h l =
    let rest = second_so (is_tag_name t.name && rises before t.name && has Commit G t.target.0 && is_ident t.tagger && nat_le (length t.message) MESSAGE_BYTES) _ h in
    let a = first_so (is_tag_name t.name && rises before t.name && has Commit G t.target.0 && is_ident t.tagger && nat_le (length t.message) MESSAGE_BYTES) _ h in
    let b = first_so (is_tag_name t.name && rises before t.name && has Commit G t.target.0 && is_ident t.tagger) _ a in
    let c = first_so (is_tag_name t.name && rises before t.name && has Commit G t.target.0) _ b in
    let d = first_so (is_tag_name t.name && rises before t.name) _ c in
    let valid : is_tag_name t.name ≡ true = first_so _ _ d in
    let head : has Commit G t.target.0 ≡ true = second_so (is_tag_name t.name && rises before t.name) _ c in (
      record {
        valid = valid;
        rising = second_so (is_tag_name t.name) _ d;
        head = head;
        by = second_so (is_tag_name t.name && rises before t.name && has Commit G t.target.0) _ b;
        within = second_so (is_tag_name t.name && rises before t.name && has Commit G t.target.0 && is_ident t.tagger) _ a;
        name_short = name_short t.name valid;
        named = held-long Commit G t.target.0 head;
        tagger_short = omega (arith, l, tag_long t, length-append (tag_item_text t) (flat_map tag_item_text ts));
        message_short = omega (arith, l, tag_long t, length-append (tag_item_text t) (flat_map tag_item_text ts));
      },
      tags_set G (Some t.name) ts rest (omega (arith, l, length-append (tag_item_text t) (flat_map tag_item_text ts))),
    )

-- ---- one tag

name_read : (before : Option Bytes) (t : Bytes) (at : ℕ) (rest : Bytes) → is_tag_name t ≡ true → rises before t ≡ true → length t < 2 ^ 16 →
    name_field before (spot at (to_be_bytes w16 (length t) ++ (t ++ rest))) ≡ Ok (t, spot (at + 2 + length t) rest)
name_read before t at rest v u l =
    then-ok (number 2 (spot at (to_be_bytes w16 (length t) ++ (t ++ rest)))) (λ n. field n.0 n.1 >>= λ q. must (BrokenAt n.1.at) (is_tag_name q.0 && rises before q.0) >>= λ _. Ok q) (length t, spot (at + 2) (t ++ rest))
    (number-front_2 at (length t) (t ++ rest) l)
    ∙ then-ok (field (length t) (spot (at + 2) (t ++ rest))) (λ q. must (BrokenAt (at + 2)) (is_tag_name q.0 && rises before q.0) >>= λ _. Ok q) (t, spot (at + 2 + length t) rest) (field-front (at + 2) t rest)
    ∙ (λ i. must (BrokenAt (at + 2)) (v i && u i) >>= λ _. Ok (t, spot (at + 2 + length t) rest))

tagger_read : (t : Bytes) (at : ℕ) (rest : Bytes) → is_ident t ≡ true → length t < 2 ^ 32 → tagger_field (spot at (to_be_bytes w32 (length t) ++ (t ++ rest))) ≡ Ok (t, spot (at + 4 + length t) rest)
tagger_read t at rest v l =
    then-ok (number 4 (spot at (to_be_bytes w32 (length t) ++ (t ++ rest)))) (λ n. field n.0 n.1 >>= λ q. must (BrokenAt n.1.at) (is_ident q.0) >>= λ _. Ok q) (length t, spot (at + 4) (t ++ rest)) (number-front_4 at (length t) (t ++ rest) l)
    ∙ then-ok (field (length t) (spot (at + 4) (t ++ rest))) (λ q. must (BrokenAt (at + 4)) (is_ident q.0) >>= λ _. Ok q) (t, spot (at + 4 + length t) rest) (field-front (at + 4) t rest)
    ∙ ap (λ b. must (BrokenAt (at + 4)) b >>= λ _. Ok (t, spot (at + 4 + length t) rest)) v

message_read : (t : Bytes) (at : ℕ) (rest : Bytes) → nat_le (length t) MESSAGE_BYTES ≡ true → length t < 2 ^ 32 → message_field (spot at (to_be_bytes w32 (length t) ++ (t ++ rest))) ≡ Ok (t, spot (at + 4 + length t) rest)
message_read t at rest v l =
    then-ok (number 4 (spot at (to_be_bytes w32 (length t) ++ (t ++ rest)))) (λ n. field n.0 n.1 >>= λ q. must (BrokenAt n.1.at) (nat_le (length q.0) MESSAGE_BYTES) >>= λ _. Ok q) (length t, spot (at + 4) (t ++ rest)) (number-front_4 at (length t) (t ++ rest) l)
    ∙ then-ok (field (length t) (spot (at + 4) (t ++ rest))) (λ q. must (BrokenAt (at + 4)) (nat_le (length q.0) MESSAGE_BYTES) >>= λ _. Ok q) (t, spot (at + 4 + length t) rest) (field-front (at + 4) t rest)
    ∙ ap (λ b. must (BrokenAt (at + 4)) b >>= λ _. Ok (t, spot (at + 4 + length t) rest)) v

shape : (a n k b g c m rest : Bytes) → ((((((a ++ n) ++ k) ++ b) ++ g) ++ c) ++ m) ++ rest ≡ a ++ (n ++ (k ++ (b ++ (g ++ (c ++ (m ++ rest))))))
shape a n k b g c m rest = simp append_assoc

abbrev ReadsTag : List Object → Option Bytes → Spot → Tag → Bytes → Type 0
ReadsTag G before s t rest = (at : ℕ) × (tag_field G before s ≡ Ok (t, spot at rest))

tag_read : (G : List Object) (before : Option Bytes) (t : Tag) (at : ℕ) (rest : Bytes) → Sets G before t → ReadsTag G before (spot at (tag_item_text t ++ rest)) t rest
tag_read G before t at rest h =
    let a = to_be_bytes w16 (length t.name) in
    let b = to_be_bytes w32 (length t.tagger) in
    let c = to_be_bytes w32 (length t.message) in
    let t4 = c ++ (t.message ++ rest) in
    let t3 = b ++ (t.tagger ++ t4) in
    let t2 = t.target.0 ++ t3 in
    let at1 = at + 2 + length t.name in
    let at2 = at1 + length t.target.0 in
    let at3 = at2 + 4 + length t.tagger in
    let at4 = at3 + 4 + length t.message in (
      at4,
      ap (λ (x : Bytes). tag_field G before (spot at x)) (shape a t.name t.target.0 b t.tagger c t.message rest)
          ∙ then-ok (name_field before (spot at (a ++ (t.name ++ t2)))) (λ n. head_field G n.1 >>= λ c. tagger_field c.1 >>= λ p. message_field p.1 >>= λ m. Ok (record { name = n.0; target = record { 0 = c.0 }; tagger = p.0; message = m.0 }, m.1))
          (t.name, spot at1 t2) (name_read before t.name at t2 h.valid h.rising h.name_short)
          ∙ then-ok (head_field G (spot at1 t2)) (λ c. tagger_field c.1 >>= λ p. message_field p.1 >>= λ m. Ok (record { name = t.name; target = record { 0 = c.0 }; tagger = p.0; message = m.0 }, m.1))
          (t.target.0, spot at2 t3) (head-read G t.target.0 at1 t3 h.named h.head)
          ∙ then-ok (tagger_field (spot at2 t3)) (λ p. message_field p.1 >>= λ m. Ok (record { name = t.name; target = t.target; tagger = p.0; message = m.0 }, m.1)) (t.tagger, spot at3 t4) (tagger_read t.tagger at2 t4 h.by h.tagger_short)
          ∙ then-ok (message_field (spot at3 t4)) (λ m. Ok (record { name = t.name; target = t.target; tagger = t.tagger; message = m.0 }, m.1)) (t.message, spot at4 rest) (message_read t.message at3 rest h.within h.message_short),
    )

-- ---- several

abbrev pub ReadsTags : ℕ → List Object → Option Bytes → List Tag → Spot → List Tag → Bytes → Type 0
ReadsTags n G before tags s after rest = (at : ℕ) × (tags_field n G before tags s ≡ Ok (after, spot at rest))

pub tags_read : (G : List Object) (ts : List Tag) (before : Option Bytes) (tags : List Tag) (at : ℕ) (rest : Bytes) → AreSetTags G before ts →
    ReadsTags (length ts) G before tags (spot at (flat_map tag_item_text ts ++ rest)) (with_tags tags ts) rest
tags_read G [] before tags at rest h = (at, refl)
tags_read G (t ∷ ts) before tags at rest h =
    let more = flat_map tag_item_text ts ++ rest in
    let one = tag_read G before t at more h.0 in
    let next = tags_read G ts (Some t.name) (put_tag t tags) one.0 rest h.1 in (
      next.0,
      ap (λ (x : Bytes). tags_field (length (t ∷ ts)) G before tags (spot at x)) (append_assoc (tag_item_text t) (flat_map tag_item_text ts) rest)
          ∙ then-ok (tag_field G before (spot at (tag_item_text t ++ more))) (λ t. tags_field (length ts) G (Some t.0.name) (put_tag t.0 tags) t.1) (t, spot one.0 more) one.1
          ∙ next.1,
    )

-- ---- an item

text_shape : (n o k r e f : Bytes) → (((n ++ o) ++ k) ++ r) ++ e ++ f ≡ n ++ (o ++ (k ++ (r ++ (e ++ (f ++ [])))))
text_shape n o k r e f = simp (append_assoc, append-nothing)

pub tagged_read : (h : Held) (os : List Object) (rs : Refs) (ts : List Tag) → AreTaken h.objects os → AreSet (reverse os ++ h.objects) None rs → AreSetTags (reverse os ++ h.objects) None ts →
    length os < 2 ^ 32 → length rs < 2 ^ 32 → length ts < 2 ^ 32 →
    read_item h (tagged_change_text os rs ts) ≡ Ok (record h { objects = reverse os ++ h.objects; refs = with_refs h.refs rs; tags = with_tags h.tags ts })
unfolding tagged_change_text
tagged_read h os rs ts a b d l m w =
    let H = h.objects in
    let n = to_be_bytes w32 (length os) in
    let o = flat_map object_text os in
    let k = to_be_bytes w32 (length rs) in
    let r = flat_map ref_text rs in
    let e = to_be_bytes w32 (length ts) in
    let f = flat_map tag_item_text ts in
    let G = reverse os ++ H in
    let t5 = f ++ [] in
    let t4 = e ++ t5 in
    let t3 = r ++ t4 in
    let t2 = k ++ t3 in
    let t1 = o ++ t2 in
    let one = objects-read os H 6 t2 a in
    let two = refs-read G rs None h.refs (one.0 + 4) t4 b in
    let three = tags_read G ts None h.tags (two.0 + 4) [] d in
    ap (λ (t : Bytes). read_item h (2 ∷ 4 ∷ t)) (text_shape n o k r e f)
    ∙ item-by h 2 4 TagItem (n ++ t1) refl refl
    ∙ then-ok (number 4 (spot 2 (n ++ t1))) (λ n. objects_field n.0 H n.1 >>= λ o. number 4 o.1 >>= λ m. refs_field m.0 o.0 None h.refs m.1 >>= λ r. number 4 r.1 >>= λ k. tags_field k.0 o.0 None h.tags k.1 >>= λ t. ended_with (record h { objects = o.0; refs = r.0; tags = t.0 }) t.1)
    (length os, spot 6 t1) (number-front_4 2 (length os) t1 l)
    ∙ then-ok (objects_field (length os) H (spot 6 t1)) (λ o. number 4 o.1 >>= λ m. refs_field m.0 o.0 None h.refs m.1 >>= λ r. number 4 r.1 >>= λ k. tags_field k.0 o.0 None h.tags k.1 >>= λ t. ended_with (record h { objects = o.0; refs = r.0; tags = t.0 }) t.1)
    (G, spot one.0 t2) one.1
    ∙ then-ok (number 4 (spot one.0 t2)) (λ m. refs_field m.0 G None h.refs m.1 >>= λ r. number 4 r.1 >>= λ k. tags_field k.0 G None h.tags k.1 >>= λ t. ended_with (record h { objects = G; refs = r.0; tags = t.0 }) t.1)
    (length rs, spot (one.0 + 4) t3) (number-front_4 one.0 (length rs) t3 m)
    ∙ then-ok (refs_field (length rs) G None h.refs (spot (one.0 + 4) t3)) (λ r. number 4 r.1 >>= λ k. tags_field k.0 G None h.tags k.1 >>= λ t. ended_with (record h { objects = G; refs = r.0; tags = t.0 }) t.1)
    (with_refs h.refs rs, spot two.0 t4) two.1
    ∙ then-ok (number 4 (spot two.0 t4)) (λ k. tags_field k.0 G None h.tags k.1 >>= λ t. ended_with (record h { objects = G; refs = with_refs h.refs rs; tags = t.0 }) t.1) (length ts, spot (two.0 + 4) t5) (number-front_4 two.0 (length ts) t5 w)
    ∙ then-ok (tags_field (length ts) G None h.tags (spot (two.0 + 4) t5)) (λ t. ended_with (record h { objects = G; refs = with_refs h.refs rs; tags = t.0 }) t.1) (with_tags h.tags ts, spot three.0 []) three.1
