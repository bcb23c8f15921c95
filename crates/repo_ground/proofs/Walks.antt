-- A walk over a stored tree.
use Rattle.std.proofs.Common.{◌≡◌, true, false, cond, ◌||◌, List, [], ◌∷◌, ◌++◌, map, reverse, drop, slice_get, None, Some, Result, Ok, Err, refl, sym, ap, subst, ◌∙◌, true≢false, append-nil}
use Rattle.std.proofs.lemmas.List.{append_assoc}
use Rattle.std.specs.Cmp.{first_so}
use Rattle.std.proofs.lemmas.Bool.{or_right}
use Rattle.git_objects.specs.Paths.{Bytes, same_bytes}
use Rattle.git_objects.specs.Names.{name}
use Rattle.git_objects.specs.declared.entry.Entry.{Entry}
use Rattle.git_objects.specs.declared.kind.Kind.{Kind}
use Rattle.git_objects.specs.declared.kind.Kind.TheVariants.{Blob, Tree}
use Rattle.git_objects.specs.declared.mode.Mode.{Mode}
use Rattle.git_objects.specs.declared.mode.Mode.TheVariants.{File, Exec, Link, Module, Dir}
use Rattle.git_objects.proofs.Basics.{same_bytes-self}
use Rattle.object_store.specs.Objects.{Object, object_name, is_named, find_named, has, has_name, has_child, body_of, IsStore, HasChildren}
use Rattle.object_store.proofs.Held.{named_kind, named_name, body_named, not_named, has_name-from}
use Rattle.std.specs.Result.{OnOk}
use Rattle.repo_ground.specs.declared.walk.Child.{Child}
use Rattle.repo_ground.specs.declared.walk.Frame.{Frame}
use Rattle.git_objects.specs.Parts.{name_bytes}
use Rattle.git_objects.specs.declared.name.Name.{Name}
use Rattle.git_objects.proofs.SharedFronts.{listed}
use Rattle.state_items.specs.Growing.{grown}
use Rattle.repo_ground.specs.Growing.{AreFed, held_of, IsReady, IsStep}
use Rattle.repo_ground.specs.StoredObjects.{AreOpen, IsOpen, child_steps, listed_steps, tree_steps, entries_steps, frame_steps, frames_steps, next_steps, itself, stored_objects, tree_at}
use Rattle.state_items.proofs.Growing.{AreKnown, grown-append}
use Rattle.repo_ground.proofs.Grows.{grown-known, named-in, fed-back}
use Rattle.object_store.proofs.Parts.{AreIn, found-has, part-has, part-kind}
use Rattle.object_store.proofs.Children.{tree-children, older-has, object-children}

-- ---- children that are held

-- ---- what is done at a tree

module _ {A : Type 0} (f : Object → A) (mark : List A) where
  abbrev steps : List Object → List Entry → List A
  steps S es = entries_steps f mark S es

  abbrev child : List Object → Mode → Bytes → List A
  child S m n = child_steps f mark (body_of Blob S) (tree_steps f mark S) m n

  pub no-steps : (S : List Object) (n : Bytes) → has Tree S n ≡ false → tree_steps f mark S n ≡ []
  unfolding has tree_steps
  no-steps [] n h = refl
  no-steps (o ∷ S) n h =
      elim (is_named Tree o n) as (λ t. (t || has Tree S n) ≡ false → cond t (listed_steps f mark (body_of Blob S) (tree_steps f mark S) (listed o.body) ++ f (record { kind = Tree; body = o.body }) ∷ []) (tree_steps f mark S n) ≡ []) [
        | true ↦ λ g. absurd (true≢false g)
        | false ↦ λ g. no-steps S n g
      ] h

  module _ (o : Object) (S : List Object) (s : IsStore (o ∷ S)) where
    older-steps : (n : Bytes) → has Tree S n ≡ true → tree_steps f mark (o ∷ S) n ≡ tree_steps f mark S n
    unfolding tree_steps
    older-steps n h = ap (λ b. cond b (steps S (listed o.body) ++ f (record { kind = Tree; body = o.body }) ∷ []) (tree_steps f mark S n)) (not_named Tree o S n s.1 h)

    child-same : (m : Mode) (n : Bytes) → has_child S m n ≡ true → child (o ∷ S) m n ≡ child S m n
    child-same File n h = ap (λ (b : Bytes). f (record { kind = Blob; body = b }) ∷ []) (older-has o S s Blob n h).1
    child-same Exec n h = ap (λ (b : Bytes). f (record { kind = Blob; body = b }) ∷ []) (older-has o S s Blob n h).1
    child-same Link n h = ap (λ (b : Bytes). f (record { kind = Blob; body = b }) ∷ []) (older-has o S s Blob n h).1
    child-same Module n h = refl
    child-same Dir n h = ap (λ (t : List A). mark ++ t) (older-steps n (first_so _ _ h))

    steps-same : (es : List Entry) → HasChildren S es → steps (o ∷ S) es ≡ steps S es
    steps-same [] h = refl
    steps-same (e ∷ es) h = λ i. child-same e.mode e.name.0 h.0 i ++ steps-same es h.1 i

  -- a stored tree is done by its entries, and then by itself
  pub tree-unfolds : (S : List Object) (n : Bytes) → IsStore S → has Tree S n ≡ true → tree_steps f mark S n ≡ steps S (listed (body_of Tree S n)) ++ f (tree_at S n) ∷ []
  unfolding has body_of tree_steps
  tree-unfolds [] n s h = absurd (true≢false (sym h))
  tree-unfolds (o ∷ S) n s h =
      elim (is_named Tree o n) as (λ t. is_named Tree o n ≡ t → (t || has Tree S n) ≡ true →
      cond t (steps S (listed o.body) ++ f (record { kind = Tree; body = o.body }) ∷ []) (tree_steps f mark S n)
      ≡ steps (o ∷ S) (listed (cond t o.body (body_of Tree S n))) ++ f (record { kind = Tree; body = cond t o.body (body_of Tree S n) }) ∷ []) [
        | true ↦ λ e g. ap (λ (t : List A). t ++ f (record { kind = Tree; body = o.body }) ∷ []) (sym (steps-same o S s (listed o.body) (object-children S o n s.0 e)))
        | false ↦ λ e g. tree-unfolds S n s.2 g ∙ ap (λ (t : List A). t ++ f (tree_at S n) ∷ []) (sym (steps-same o S s (listed (body_of Tree S n)) (tree-children S n s.2 g)))
      ] refl h

-- ---- what is held of a tree that is held

abbrev objects : List Object → Mode → Bytes → List Object
objects R m n = child_steps itself [] (body_of Blob R) (tree_steps itself [] R) m n

module _ (S H : List Object) (i : AreIn S H) (same : (n : Bytes) → has Tree H n ≡ true → stored_objects H n ≡ stored_objects S n) where
  part-child : (m : Mode) (k : Bytes) → has_child H m k ≡ true → objects H m k ≡ objects S m k
  part-child File k g = ap (λ (b : Bytes). record { kind = Blob; body = b } ∷ []) (part-has S H Blob k i g).1
  part-child Exec k g = ap (λ (b : Bytes). record { kind = Blob; body = b } ∷ []) (part-has S H Blob k i g).1
  part-child Link k g = ap (λ (b : Bytes). record { kind = Blob; body = b } ∷ []) (part-has S H Blob k i g).1
  part-child Module k g = refl
  part-child Dir k g = same k (first_so _ _ g)

  part-entries : (es : List Entry) → HasChildren H es → entries_steps itself [] H es ≡ entries_steps itself [] S es
  part-entries [] g = refl
  part-entries (e ∷ es) g = λ j. part-child e.mode e.name.0 g.0 j ++ part-entries es g.1 j

-- a part that is a store of its own has the same objects of its trees
pub stored-part : (S H : List Object) (n : Bytes) → IsStore S → IsStore H → AreIn S H → has Tree H n ≡ true → stored_objects H n ≡ stored_objects S n
unfolding has tree_steps
stored-part S [] n s h i t = absurd (true≢false (sym t))
stored-part S (o ∷ H) n s h i t =
    elim (is_named Tree o n) as (λ b. is_named Tree o n ≡ b → (b || has Tree H n) ≡ true →
    cond b (entries_steps itself [] H (listed o.body) ++ record { kind = Tree; body = o.body } ∷ []) (stored_objects H n) ≡ stored_objects S n) [
      | true ↦ λ e g.
          let f = found-has S Tree n o (ap (find_named S) (sym (named_name Tree o n e)) ∙ i.0) (first_so _ _ e) in
          (λ j. part-entries S H i.1 (λ m k. stored-part S H m s h.2 i.1 k) (listed o.body) (object-children H o n h.0 e) j ++ record { kind = Tree; body = o.body } ∷ [])
          ∙ ap (λ (b : Bytes). entries_steps itself [] S (listed b) ++ record { kind = Tree; body = b } ∷ []) (sym f.1)
          ∙ sym (tree-unfolds itself [] S n s f.0)
      | false ↦ λ e g. stored-part S H n s h.2 i.1 g
    ] refl t

-- ---- they are all held

known-both : (H a b : List Object) → AreKnown H a → AreKnown H b → AreKnown H (a ++ b)
known-both H [] b h g = g
known-both H (o ∷ a) b h g = (h.0, known-both H a b h.1 g)

known-above : (o : Object) (H os : List Object) → AreKnown H os → AreKnown (o ∷ H) os
unfolding has_name
known-above o H [] h = tt
known-above o H (x ∷ os) h = (or_right (same_bytes (object_name o) (object_name x)) (has_name H (object_name x)) h.0, known-above o H os h.1)

blob-known : (H : List Object) (n : Bytes) → has Blob H n ≡ true → has_name H (name Blob (body_of Blob H n)) ≡ true
blob-known H n h = ap (has_name H) (body_named Blob H n h) ∙ has_name-from Blob H n h

module _ (H : List Object) (known : (n : Bytes) → has Tree H n ≡ true → AreKnown H (stored_objects H n)) where
  child-known : (m : Mode) (k : Bytes) → has_child H m k ≡ true → AreKnown H (objects H m k)
  child-known File k g = (blob-known H k g, tt)
  child-known Exec k g = (blob-known H k g, tt)
  child-known Link k g = (blob-known H k g, tt)
  child-known Module k g = tt
  child-known Dir k g = known k (first_so _ _ g)

  entries-known : (es : List Entry) → HasChildren H es → AreKnown H (entries_steps itself [] H es)
  entries-known [] g = tt
  entries-known (e ∷ es) g = known-both H (objects H e.mode e.name.0) (entries_steps itself [] H es) (child-known e.mode e.name.0 g.0) (entries-known es g.1)

self-known : (o : Object) (H : List Object) (n : Bytes) → is_named Tree o n ≡ true → has_name (o ∷ H) (name Tree o.body) ≡ true
unfolding has_name
self-known o H n e =
    ap (λ (k : Kind). same_bytes (object_name o) (name k o.body) || has_name H (name k o.body)) (sym (named_kind Tree o n e))
    ∙ ap (λ b. b || has_name H (object_name o)) (same_bytes-self (object_name o))

pub stored-known : (H : List Object) (n : Bytes) → IsStore H → has Tree H n ≡ true → AreKnown H (stored_objects H n)
unfolding has tree_steps
stored-known [] n h t = absurd (true≢false (sym t))
stored-known (o ∷ H) n h t =
    elim (is_named Tree o n) as (λ b. is_named Tree o n ≡ b → (b || has Tree H n) ≡ true →
    AreKnown (o ∷ H) (cond b (entries_steps itself [] H (listed o.body) ++ record { kind = Tree; body = o.body } ∷ []) (stored_objects H n))) [
      | true ↦ λ e g.
          known-both (o ∷ H) (entries_steps itself [] H (listed o.body)) (record { kind = Tree; body = o.body } ∷ [])
          (known-above o H (entries_steps itself [] H (listed o.body)) (entries-known H (λ m k. stored-known H m h.2 k) (listed o.body) (object-children H o n h.0 e)))
          (self-known o H n e, tt)
      | false ↦ λ e g. known-above o H (stored_objects H n) (stored-known H n h.2 g)
    ] refl t

-- nothing is new of a tree whose name is held
pub stored-none : (S H : List Object) (n : Bytes) → IsStore S → IsStore H → AreIn S H → has_name H n ≡ true → grown H (stored_objects S n) ≡ H
stored-none S H n s h i k =
    elim (has Tree S n) as (λ b. has Tree S n ≡ b → grown H (stored_objects S n) ≡ H) [
      | true ↦ λ e.
          let t = part-kind S H Tree n s i k e in
          ap (grown H) (sym (stored-part S H n s h i t)) ∙ grown-known H (stored_objects H n) (stored-known H n h t)
      | false ↦ λ e. ap (grown H) (no-steps itself [] S n e)
    ] refl

-- ---- the steps of the walk

-- objects of which none is new are passed by
pass-by : (S : List Object) (names : List Name) (known os : List Object) → grown (held_of S names) known ≡ held_of S names → IsReady S names (known ++ os) → IsStep S names names (known ++ os) os
pass-by S names known os none r = let H = held_of S names in record {
  ready = record {
    whole = r.whole;
    holds = r.holds;
    fed = subst (λ (T : List Object). AreFed S T os) none (fed-back S H known os r.fed);
  };
  same = ap (λ (T : List Object). grown T os) (sym none) ∙ sym (grown-append H known os);
}

-- a tree that is held is passed by
pub skip-step : (S : List Object) (names : List Name) (n : Bytes) (os : List Object) → has_name (held_of S names) n ≡ true → IsReady S names (stored_objects S n ++ os) → IsStep S names names (stored_objects S n ++ os) os
skip-step S names n os k r =
    pass-by S names (stored_objects S n) os (stored-none S (held_of S names) n r.whole r.holds.held (named-in S (reverse (map name_bytes names))) k) r

-- so are entries whose children are held
pub skip-entries : (S : List Object) (names : List Name) (es : List Entry) (os : List Object) → HasChildren (held_of S names) es →
    IsReady S names (entries_steps itself [] S es ++ os) → IsStep S names names (entries_steps itself [] S es ++ os) os
skip-entries S names es os h r =
    let H = held_of S names in
    let i = named-in S (reverse (map name_bytes names)) in
    let same = part-entries S H i (λ n t. stored-part S H n r.whole r.holds.held i t) es h in
    let none = ap (grown H) (sym same) ∙ grown-known H (entries_steps itself [] H es) (entries-known H (λ n t. stored-known H n r.holds.held t) es h) in
    pass-by S names (entries_steps itself [] S es) os none r

-- the same objects, spelled otherwise
pub same-step : (S : List Object) (names : List Name) (os left : List Object) → os ≡ left → IsReady S names os → IsStep S names names os left
same-step S names os left e r = record {
  ready = record { whole = r.whole; holds = r.holds; fed = subst (AreFed S (held_of S names)) e r.fed };
  same = ap (grown (held_of S names)) (sym e);
}

module _ {A : Type 0} (f : Object → A) (mark : List A) (S : List Object) where
  -- one frame more
  pub frames-push : (ds : List Frame) (d : Frame) → frames_steps f mark S (ds ++ d ∷ []) ≡ frame_steps f mark S d ++ frames_steps f mark S ds
  frames-push [] d = sym (append-nil (frame_steps f mark S d))
  frames-push (x ∷ ds) d =
      ap (λ (t : List A). t ++ frame_steps f mark S x) (frames-push ds d) ∙ append_assoc (frame_steps f mark S d) (frames_steps f mark S ds) (frame_steps f mark S x)

  -- a tree that is gone down into
  pub frames-open : (ds : List Frame) (n : Name) (es bs : List Entry) → IsStore S → has Tree S n.0 ≡ true → listed (body_of Tree S n.0) ≡ es →
      tree_steps f mark S n.0 ++ frames_steps f mark S ds ≡ frames_steps f mark S (ds ++ record { name = n; entries = es; beside = bs } ∷ [])
  frames-open ds n es bs s h e =
      ap (λ (t : List A). t ++ frames_steps f mark S ds) (tree-unfolds f mark S n.0 s h ∙ ap (λ (l : List Entry). steps f mark S l ++ f (tree_at S n.0) ∷ []) e)
      ∙ sym (frames-push ds (record { name = n; entries = es; beside = bs }))

  -- the first of the entries that are left
  pub first-entry : (es : List Entry) (e : Entry) → Some e ≡ slice_get es 0 → entries_steps f mark S es ≡ child f mark S e.mode e.name.0 ++ entries_steps f mark S (drop 1 es)
  first-entry [] e h = cc
  first-entry (d ∷ es) e h = let same : d ≡ e = cc in ap (λ (x : Entry). child f mark S x.mode x.name.0 ++ entries_steps f mark S es) same

pub absent-step : (S : List Object) (names : List Name) (n : Bytes) (os : List Object) → has Tree S n ≡ false → IsReady S names (stored_objects S n ++ os) → IsStep S names names (stored_objects S n ++ os) os
absent-step S names n os h r = same-step S names (stored_objects S n ++ os) os (ap (λ (t : List Object). t ++ os) (no-steps itself [] S n h)) r

-- one step at a frame: its tree, a blob, or a tree below it
pub frame-end : {A : Type 0} (f : Object → A) (mark : List A) (S : List Object) (n : Name) (es es' bs : List Entry) → es' ≡ [] →
    entries_steps f mark S es ≡ next_steps f mark S None ++ entries_steps f mark S es' → frame_steps f mark S (record { name = n; entries = es; beside = bs }) ≡ f (tree_at S n.0) ∷ []
frame-end f mark S n es es' bs h e = ap (λ (t : List _). t ++ f (tree_at S n.0) ∷ []) (e ∙ ap (entries_steps f mark S) h)

pub frame-next : {A : Type 0} (f : Object → A) (mark : List A) (S : List Object) (n : Name) (es es' bs : List Entry) (ds : List Frame) (k : Child) →
    entries_steps f mark S es ≡ next_steps f mark S (Some k) ++ entries_steps f mark S es' →
    frame_steps f mark S (record { name = n; entries = es; beside = bs }) ++ frames_steps f mark S ds ≡ next_steps f mark S (Some k) ++ frames_steps f mark S (ds ++ record { name = n; entries = es'; beside = bs } ∷ [])
frame-next f mark S n es es' bs ds k e =
    let last = f (tree_at S n.0) ∷ [] in
    let next = next_steps f mark S (Some k) in
    ap (λ (t : List _). (t ++ last) ++ frames_steps f mark S ds) e
    ∙ ap (λ (t : List _). t ++ frames_steps f mark S ds) (append_assoc next (entries_steps f mark S es') last)
    ∙ append_assoc next (entries_steps f mark S es' ++ last) (frames_steps f mark S ds)
    ∙ ap (λ (t : List _). next ++ t) (sym (frames-push f mark S ds (record { name = n; entries = es'; beside = bs })))

-- ---- open frames

pub open-push : (S : List Object) (ds : List Frame) (d : Frame) → AreOpen S ds → IsOpen S d → AreOpen S (ds ++ d ∷ [])
open-push S [] d h g = (g, tt)
open-push S (x ∷ ds) d h g = (h.0, open-push S ds d h.1 g)

pub open-front : (S : List Object) (ds : List Frame) (d : Frame) → AreOpen S (ds ++ d ∷ []) → AreOpen S ds × IsOpen S d
open-front S [] d h = (tt, h.0)
open-front S (x ∷ ds) d h = let rest = open-front S ds d h.1 in ((h.0, rest.0), rest.1)

pub on-ok : {X E : Type 0} {P Q : Type 0} (r : Result X E) → (P → Q) → OnOk r P → OnOk r Q
on-ok (Ok x) f h = f h
on-ok (Err e) f h = tt
