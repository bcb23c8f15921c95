-- Tags of commits that are held.
use Rattle.std.proofs.Common.{◌≡◌, ℕ, zero, suc, Bool, true, false, cond, ◌&&◌, List, [], ◌∷◌, filter, length, Option, None, Some, Ok, refl, sym, ap, ◌∙◌}
use Rattle.std.specs.Prelude.{nat_le}
use Rattle.std.specs.Cmp.{first_so, second_so}
use Rattle.std.specs.FinMap.Entries.{by_order}
use Rattle.std.specs.List.{list_all}
use Rattle.std.specs.declared.cmp.Ordering.{Ordering}
use Rattle.std.specs.declared.cmp.Ordering.TheVariants.{Less, Equal, Greater}
use Rattle.git_objects.specs.Idents.{is_ident}
use Rattle.git_objects.specs.Paths.{Bytes}
use Rattle.git_objects.specs.Refs.{bytes_cmp}
use Rattle.git_objects.specs.Results.{◌>>=◌, must}
use Rattle.git_objects.specs.declared.kind.Kind.TheVariants.{Commit}
use Rattle.git_objects.specs.declared.limits.TheConstants.{MESSAGE_BYTES}
use Rattle.git_objects.proofs.Basics.{and_both}
use Rattle.object_store.specs.Objects.{Object, has}
use Rattle.object_store.proofs.Held.{has-above}
use Rattle.tag_objects.specs.TagLists.{put_tag, rise}
use Rattle.tag_objects.specs.TagNames.{is_tag_name}
use Rattle.tag_objects.specs.declared.tag.Tag.{Tag}
use Rattle.tag_objects.proofs.TagLists.{put_rises}
use Rattle.state_items.specs.Appending.{are_tags}
use Rattle.state_items.specs.Fields.{BrokenAt, Spot, field, number}
use Rattle.state_items.specs.Items.{head_field, message_field, name_field, rises, tag_field, tagger_field, tags_field}
use Rattle.state_items.proofs.ReadObjects.{Upon, front-same, must-hold, ok-same, value-of}

-- ---- a list of tags, and each by itself

-- a tag name, a commit that is held, an ident, and a message within its limit
abbrev pub is_right : List Object → Tag → Bool
is_right S t = is_tag_name t.name && has Commit S t.target.0 && is_ident t.tagger && nat_le (length t.message) MESSAGE_BYTES

rises-first : (before : Option Bytes) (t : Tag) (ts : List Tag) → rises before t.name ≡ true → rise (Some t.name) ts ≡ true → rise before (t ∷ ts) ≡ true
rises-first None t ts a b = b
rises-first (Some n) t ts a b = and_both a b

first-rises : (before : Option Bytes) (t : Tag) (ts : List Tag) → rise before (t ∷ ts) ≡ true → (rises before t.name ≡ true) × (rise (Some t.name) ts ≡ true)
first-rises None t ts h = (refl, h)
first-rises (Some n) t ts h = (first_so _ _ h, second_so _ _ h)

pub record IsFirst (S : List Object) (before : Option Bytes) (t : Tag) (ts : List Tag) : Type 0 where
  pub rising : rises before t.name ≡ true
  pub right : is_right S t ≡ true
  pub rest : are_tags S (Some t.name) ts ≡ true

pub first-of : (S : List Object) (before : Option Bytes) (t : Tag) (ts : List Tag) → are_tags S before (t ∷ ts) ≡ true → IsFirst S before t ts
first-of S before t ts h =
    let a = first_so (is_tag_name t.name && rises before t.name && has Commit S t.target.0 && is_ident t.tagger && nat_le (length t.message) MESSAGE_BYTES) _ h in
    let b = first_so (is_tag_name t.name && rises before t.name && has Commit S t.target.0 && is_ident t.tagger) _ a in
    let c = first_so (is_tag_name t.name && rises before t.name && has Commit S t.target.0) _ b in
    let d = first_so (is_tag_name t.name && rises before t.name) _ c in
    record {
      rising = second_so (is_tag_name t.name) _ d;
      right =
          and_both (and_both (and_both (first_so (is_tag_name t.name) _ d) (second_so (is_tag_name t.name && rises before t.name) _ c)) (second_so (is_tag_name t.name && rises before t.name && has Commit S t.target.0) _ b))
          (second_so (is_tag_name t.name && rises before t.name && has Commit S t.target.0 && is_ident t.tagger) _ a);
      rest = second_so (is_tag_name t.name && rises before t.name && has Commit S t.target.0 && is_ident t.tagger && nat_le (length t.message) MESSAGE_BYTES) _ h;
    }

with-first : (S : List Object) (before : Option Bytes) (t : Tag) (ts : List Tag) → rises before t.name ≡ true → is_right S t ≡ true → are_tags S (Some t.name) ts ≡ true → are_tags S before (t ∷ ts) ≡ true
with-first S before t ts r h rest =
    let a = first_so (is_tag_name t.name && has Commit S t.target.0 && is_ident t.tagger) _ h in
    let b = first_so (is_tag_name t.name && has Commit S t.target.0) _ a in
    and_both
    (and_both (and_both (and_both (and_both (first_so (is_tag_name t.name) _ b) r) (second_so (is_tag_name t.name) _ b)) (second_so (is_tag_name t.name && has Commit S t.target.0) _ a)) (second_so (is_tag_name t.name && has Commit S t.target.0 && is_ident t.tagger) _ h))
    rest

pub rise-of : (S : List Object) (before : Option Bytes) (ts : List Tag) → are_tags S before ts ≡ true → rise before ts ≡ true
rise-of S before [] h = refl
rise-of S before (t ∷ ts) h = let w = first-of S before t ts h in rises-first before t ts w.rising (rise-of S (Some t.name) ts w.rest)

pub right-of : (S : List Object) (before : Option Bytes) (ts : List Tag) → are_tags S before ts ≡ true → list_all (is_right S) ts ≡ true
right-of S before [] h = refl
right-of S before (t ∷ ts) h = let w = first-of S before t ts h in and_both w.right (right-of S (Some t.name) ts w.rest)

pub tags-of : (S : List Object) (before : Option Bytes) (ts : List Tag) → rise before ts ≡ true → list_all (is_right S) ts ≡ true → are_tags S before ts ≡ true
tags-of S before [] r h = refl
tags-of S before (t ∷ ts) r h =
    let w = first-rises before t ts r in with-first S before t ts w.0 (first_so (is_right S t) _ h) (tags-of S (Some t.name) ts w.1 (second_so (is_right S t) _ h))

-- ---- what each keeps, all keep

pub all-filter : (p q : Tag → Bool) (ts : List Tag) → list_all p ts ≡ true → list_all p (filter q ts) ≡ true
all-filter p q [] h = refl
all-filter p q (t ∷ ts) h =
    elim (q t) as (λ b. list_all p (cond b (t ∷ filter q ts) (filter q ts)) ≡ true) [
      | true ↦ and_both (first_so (p t) _ h) (all-filter p q ts (second_so (p t) _ h))
      | false ↦ all-filter p q ts (second_so (p t) _ h)
    ]

pub all-put : (p : Tag → Bool) (t : Tag) (us : List Tag) → p t ≡ true → list_all p us ≡ true → list_all p (put_tag t us) ≡ true
all-put p t [] g h = and_both g refl
all-put p t (u ∷ us) g h =
    elim (bytes_cmp t.name u.name) as (λ (o : Ordering). list_all p (by_order o (t ∷ u ∷ us) (t ∷ us) (u ∷ put_tag t us)) ≡ true) [
      | Less ↦ and_both g h
      | Equal ↦ and_both g (second_so (p u) _ h)
      | Greater ↦ and_both (first_so (p u) _ h) (all-put p t us g (second_so (p u) _ h))
    ]

pub all-also : (p q : Tag → Bool) → ((t : Tag) → p t ≡ true → q t ≡ true) → (ts : List Tag) → list_all p ts ≡ true → list_all q ts ≡ true
all-also p q f [] h = refl
all-also p q f (t ∷ ts) h = and_both (f t (first_so (p t) _ h)) (all-also p q f ts (second_so (p t) _ h))

pub right-more : (S T : List Object) → ((n : Bytes) → has Commit S n ≡ true → has Commit T n ≡ true) → (t : Tag) → is_right S t ≡ true → is_right T t ≡ true
right-more S T f t h =
    let a = first_so (is_tag_name t.name && has Commit S t.target.0 && is_ident t.tagger) _ h in
    let b = first_so (is_tag_name t.name && has Commit S t.target.0) _ a in
    and_both (and_both (and_both (first_so (is_tag_name t.name) _ b) (f t.target.0 (second_so (is_tag_name t.name) _ b))) (second_so (is_tag_name t.name && has Commit S t.target.0) _ a))
    (second_so (is_tag_name t.name && has Commit S t.target.0 && is_ident t.tagger) _ h)

-- tags stay where commits stay held
pub tags-more : (S T : List Object) (ts : List Tag) → ((n : Bytes) → has Commit S n ≡ true → has Commit T n ≡ true) → are_tags S None ts ≡ true → are_tags T None ts ≡ true
tags-more S T ts f h = tags-of T None ts (rise-of S None ts h) (all-also (is_right S) (is_right T) (right-more S T f) ts (right-of S None ts h))

pub tags-upon : (S T : List Object) (ts : List Tag) → Upon S T → are_tags S None ts ≡ true → are_tags T None ts ≡ true
tags-upon S T ts u h = tags-more S T ts (λ n e. ap (λ (R : List Object). has Commit R n) u.1 ∙ has-above u.0 S Commit n e) h

-- a tag that is put
pub tags-put : (S : List Object) (t : Tag) (us : List Tag) → is_right S t ≡ true → are_tags S None us ≡ true → are_tags S None (put_tag t us) ≡ true
tags-put S t us g h = tags-of S None (put_tag t us) (put_rises t us (rise-of S None us h)) (all-put (is_right S) t us g (right-of S None us h))

-- ---- tags that are read

-- a field behind its length, which is judged
judged : (k : ℕ) (test : Bytes → Bool) (s : Spot) (r : Bytes × Spot) → (number k s >>= λ n. field n.0 n.1 >>= λ q. must (BrokenAt n.1.at) (test q.0) >>= λ _. Ok q) ≡ Ok r → test r.0 ≡ true
judged k test s r e =
    let n = value-of (number k s) (λ n. field n.0 n.1 >>= λ q. must (BrokenAt n.1.at) (test q.0) >>= λ _. Ok q) r e in
    let q = value-of (field n.value.0 n.value.1) (λ q. must (BrokenAt n.value.1.at) (test q.0) >>= λ _. Ok q) r n.rest in
    let m = must-hold (BrokenAt n.value.1.at) (test q.value.0) (λ _. Ok q.value) r q.rest in
    ap (λ (x : Bytes × Spot). test x.0) (sym (ok-same q.value r m.1)) ∙ m.0

head-held : (S : List Object) (s : Spot) (h : Bytes × Spot) → head_field S s ≡ Ok h → has Commit S h.0 ≡ true
head-held S s h e =
    let q = value-of (field 20 s) (λ q. must (BrokenAt s.at) (has Commit S q.0) >>= λ _. Ok q) h e in
    let m = must-hold (BrokenAt s.at) (has Commit S q.value.0) (λ _. Ok q.value) h q.rest in
    ap (λ (x : Bytes × Spot). has Commit S x.0) (sym (ok-same q.value h m.1)) ∙ m.0

tag-right : (S : List Object) (before : Option Bytes) (s : Spot) (r : Tag × Spot) → tag_field S before s ≡ Ok r → is_right S r.0 ≡ true
tag-right S before s r e =
    let n = value-of (name_field before s) (λ n. head_field S n.1 >>= λ c. tagger_field c.1 >>= λ p. message_field p.1 >>= λ m. Ok (record { name = n.0; target = record { 0 = c.0 }; tagger = p.0; message = m.0 }, m.1)) r e in
    let c = value-of (head_field S n.value.1) (λ c. tagger_field c.1 >>= λ p. message_field p.1 >>= λ m. Ok (record { name = n.value.0; target = record { 0 = c.0 }; tagger = p.0; message = m.0 }, m.1)) r n.rest in
    let p = value-of (tagger_field c.value.1) (λ p. message_field p.1 >>= λ m. Ok (record { name = n.value.0; target = record { 0 = c.value.0 }; tagger = p.0; message = m.0 }, m.1)) r c.rest in
    let m = value-of (message_field p.value.1) (λ m. Ok (record { name = n.value.0; target = record { 0 = c.value.0 }; tagger = p.value.0; message = m.0 }, m.1)) r p.rest in
    let made : Tag = record { name = n.value.0; target = record { 0 = c.value.0 }; tagger = p.value.0; message = m.value.0 } in
    ap (λ (x : Tag × Spot). is_right S x.0) (sym (ok-same (made, m.value.1) r m.rest))
    ∙ and_both (and_both (and_both (first_so (is_tag_name n.value.0) _ (judged 2 (λ t. is_tag_name t && rises before t) s n.value n.was)) (head-held S n.value.1 c.value c.was)) (judged 4 is_ident c.value.1 p.value p.was))
    (judged 4 (λ t. nat_le (length t) MESSAGE_BYTES) p.value.1 m.value m.was)

pub tags-read : (n : ℕ) (S : List Object) (before : Option Bytes) (us after : List Tag) (s t : Spot) → are_tags S None us ≡ true → tags_field n S before us s ≡ Ok (after, t) → are_tags S None after ≡ true
tags-read zero S before us after s t h e = ap (λ (x : List Tag). are_tags S None x) (sym (front-same us after s t e)) ∙ h
tags-read (suc n) S before us after s t h e =
    let r = value-of (tag_field S before s) (λ r. tags_field n S (Some r.0.name) (put_tag r.0 us) r.1) (after, t) e in
    tags-read n S (Some r.value.0.name) (put_tag r.value.0 us) after r.value.1 t (tags-put S r.value.0 us (tag-right S before s r.value r.was) h) r.rest
