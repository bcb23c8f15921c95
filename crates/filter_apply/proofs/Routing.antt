-- What one route shows, and what all of them show together.
use Rattle.std.proofs.Common.{◌≡◌, ℕ, zero, suc, ◌+◌, Bool, true, false, cond, not, ◌&&◌, inl, inr, List, [], ◌∷◌, ◌++◌, take, slice_get, Option, Some, None, refl, sym, ap, subst, ◌∙◌, true≢false, append-nil}
use Rattle.std.specs.Option.{is_some, option_map, option_or}
use Rattle.std.proofs.lemmas.List.{take_more}
use Rattle.std.proofs.lemmas.Option.{none-some, same_Some, slice_get_within, get_or_from_slice_get}
use Rattle.git_objects.specs.Lists.{Each}
use Rattle.git_objects.specs.Paths.{Bytes, Path, same_path, is_path}
use Rattle.git_objects.specs.Trees.{Leaf, Flat, IsTree, LeafNode, at, under, standing, if_full}
use Rattle.git_objects.proofs.Maps.{at_rest}
use Rattle.git_objects.proofs.Order.{path_decides}
use Rattle.filter_apply.proofs.Handing.{at-filter}
use Rattle.git_objects.proofs.Pointwise.{all_at, from-T}
use Rattle.git_objects.proofs.Under.{at-under, at-under_nil}
use Rattle.decision_lists.specs.Fronts.{strip, proper, whole, or_else, and_then}
use Rattle.decision_lists.specs.Entries.{Cone, at as point, below, base, tail, Entry, decide, run}
use Rattle.decision_lists.specs.Cells.{free_in}
use Rattle.decision_lists.specs.Lists.{Full, Valid, IsPath, Solid, Fine}
use Rattle.decision_lists.proofs.Strip.{strip-self, strip-is, proper-some, whole-some}
use Rattle.decision_lists.proofs.Compile.{tail-is, kept-is, left_out-is, full-behind, proper-full}
use Rattle.decision_lists.proofs.Valid.{valid-both, valid-behind, valid-path, full-path, path-from}
use Rattle.filter_text.specs.Filters.{Filter, Filters, nop, sub, onto, dir, file, exclude, join, chain, workspace, no_more, more, has_paths}
use Rattle.filter_routes.specs.Images.{image, first, through}
use Rattle.filter_routes.specs.Soundness.{IsSound}
use Rattle.filter_routes.specs.Lists.{IsListOf}
use Rattle.filter_routes.specs.Lenses.{IsLens}
use Rattle.filter_routes.specs.Origins.{lens_of, origin}
use Rattle.filter_routes.proofs.Carried.{same_on_paths}
use Rattle.filter_routes.proofs.ImagePaths.{image-path}
use Rattle.filter_routes.proofs.Inverse.{the_law}
use Rattle.object_store.specs.Hands.{IsLeafOf, IsComponentOf}
use Rattle.path_trees.specs.Walked.{behind}
use Rattle.path_trees.proofs.Lookups.{leaf_under}
use Rattle.filter_apply.specs.Hands.{parts_in, parts_in_all, IsNamedIn}
use Rattle.filter_apply.specs.Parts.{base_in, decides, part_of, rests_of}
use Rattle.filter_apply.specs.Ranges.{between, passed, seen_between}
use Rattle.filter_apply.proofs.Cones.{in_cone, free_more}
use Rattle.filter_apply.proofs.Deciding.{decides-is}
use Rattle.filter_apply.proofs.Members.{in-each, each-as, each-app, each-left, each-right}
use Rattle.filter_apply.proofs.Overs.{over_own}
use Rattle.filter_apply.proofs.Restricting.{seen-is-tree, seen-at, seen-nothing}

-- ---- components of images

mutual
  pub image-named : (C : Bytes → Type 0) (f : Filter) (p q : Path) → Each C (parts_in f) → Each C p → image f p ≡ Some q → Each C q
  image-named C nop p q n h e = subst (Each C) (same_Some p q e) h
  image-named C (sub a) p q n h e = each-right C a q (subst (Each C) (strip-is a p q (proper-some (strip a p) q e)) h)
  image-named C (onto a) p q n h e = subst (Each C) (same_Some (a ++ p) q e) (each-app C a p n h)
  image-named C (dir a) p q n h e = subst (Each C) (kept-is (proper (strip a p)) p q e) h
  image-named C (file a) p q n h e = subst (Each C) (kept-is (whole (strip a p)) p q e) h
  image-named C (exclude f) p q n h e = subst (Each C) (left_out-is (image f p) p q e) h
  image-named C (join fs) p q n h e = first-named C fs p q n h e
  image-named C (chain fs) p q n h e = through-named C fs p q n h e
  image-named C (workspace a) p q n h e = each-right C a q (subst (Each C) (strip-is a p q (proper-some (strip a p) q e)) h)

  first-named : (C : Bytes → Type 0) (fs : Filters) (p q : Path) → Each C (parts_in_all fs) → Each C p → first fs p ≡ Some q → Each C q
  first-named C no_more p q n h e = absurd (none-some q e)
  first-named C (more f fs) p q n h e =
      or_else-named (image f p) (first fs p) (λ k. image-named C f p q (each-left C (parts_in f) (parts_in_all fs) n) h k) (λ k. first-named C fs p q (each-right C (parts_in f) (parts_in_all fs) n) h k) e
    where
      or_else-named : (o o' : Option Path) → (o ≡ Some q → Each C q) → (o' ≡ Some q → Each C q) → or_else o o' ≡ Some q → Each C q
      or_else-named None o' f g e = g e
      or_else-named (Some x) o' f g e = f e

  through-named : (C : Bytes → Type 0) (fs : Filters) (p q : Path) → Each C (parts_in_all fs) → Each C p → through fs p ≡ Some q → Each C q
  through-named C no_more p q n h e = subst (Each C) (same_Some p q e) h
  through-named C (more f fs) p q n h e =
      and_then-named (image f p) (λ x k l. through-named C fs x q (each-right C (parts_in f) (parts_in_all fs) n) (image-named C f p x (each-left C (parts_in f) (parts_in_all fs) n) h k) l) e
    where
      and_then-named : (o : Option Path) → ((x : Path) → o ≡ Some x → through fs x ≡ Some q → Each C q) → and_then o (through fs) ≡ Some q → Each C q
      and_then-named None h e = absurd (none-some q e)
      and_then-named (Some x) h e = h x refl e

-- ---- entries by their places

pub each-get : {A : Type 0} (P : A → Type 0) (xs : List A) (i : ℕ) (x : A) → Each P xs → slice_get xs i ≡ Some x → P x
each-get P [] i x h e = cc
each-get P (y ∷ xs) zero x h e = subst P (same_Some y x e) h.0
each-get P (y ∷ xs) (suc i) x h e = each-get P xs i x h.1 e

take-get : (es : List Entry) (i : ℕ) (e : Entry) → slice_get es i ≡ Some e → take (i + 1) es ≡ take i es ++ e ∷ []
take-get es i e g = take_more es i e (slice_get_within es i e g) ∙ ap (λ (x : Entry). take i es ++ x ∷ []) (get_or_from_slice_get es i e e g)

pub between-one : (es : List Entry) (i : ℕ) (e : Entry) (p : Path) → slice_get es i ≡ Some e → between es i (i + 1) p ≡ decides es i p
between-one es i e p g =
    ap (λ b. free_in (take i es) p && not b) (free_more es i e p (take-get es i e g))
    ∙ by (free_in (take i es) p) (in_cone e.0 p)
    ∙ sym (decides-is es i e p g)
  where
    by : (a b : Bool) → (a && not (a && not b)) ≡ (b && a)
    by true true = refl
    by true false = refl
    by false true = refl
    by false false = refl

decided : (o a d d' : Option Path) → is_some o ≡ true → decide o a d ≡ decide o a d'
decided None a d d' e = absurd (true≢false (sym e))
decided (Some r) None d d' e = refl
decided (Some r) (Some t) d d' e = refl

-- where an entry decides, the list does as it does
pub decides-run : (es : List Entry) (i : ℕ) (e : Entry) (p : Path) → slice_get es i ≡ Some e → decides es i p ≡ true → (r : Path) × (tail e.0 p ≡ Some r) × (run None es p ≡ decide (Some r) e.1 None)
decides-run [] i e p g d = cc
decides-run (x ∷ es) zero e p g d =
    let same : x ≡ e = same_Some x e g in
    subst (λ (y : Entry). (r : Path) × (tail y.0 p ≡ Some r) × (run None (x ∷ es) p ≡ decide (Some r) y.1 None)) same (by (tail x.0 p) refl d)
  where
    by : (o : Option Path) → tail x.0 p ≡ o → is_some o ≡ true → (r : Path) × (tail x.0 p ≡ Some r) × (decide (tail x.0 p) x.1 (run None es p) ≡ decide (Some r) x.1 None)
    by None k d = absurd (true≢false (sym d))
    by (Some r) k d = (r, k, ap (λ o. decide o x.1 (run None es p)) k ∙ decided (Some r) x.1 (run None es p) None refl)
decides-run (x ∷ es) (suc i) e p g d = by (λ h. decides-run es i e p g h) (tail x.0 p) refl d
  where
    by : (decides es i p ≡ true → (r : Path) × (tail e.0 p ≡ Some r) × (run None es p ≡ decide (Some r) e.1 None)) → (o : Option Path) → tail x.0 p ≡ o → (not (is_some o) && decides es i p) ≡ true → (r : Path) × (tail e.0 p ≡ Some r) × (decide (tail x.0 p) x.1 (run None es p) ≡ decide (Some r) e.1 None)
    by rec None k d = let w = rec d in (w.0, w.1, ap (λ o. decide o x.1 (run None es p)) k ∙ w.2)
    by rec (Some r) k d = absurd (true≢false (sym d))

-- ---- what stands at a place, and what is put behind a path

pub at-rests : (t : Flat) (s r : Path) → IsTree t → at (rests_of (standing t s)) r ≡ at t (s ++ r)
at-rests t s r h = by (at t s) refl r
  where
    whole-flat : (w : Flat) → rests_of (if_full w) ≡ w
    whole-flat [] = refl
    whole-flat (d ∷ w) = refl

    by : (o : Option Leaf) → at t s ≡ o → (r : Path) → at (rests_of (option_or (option_map LeafNode (at t s)) (if_full (under t s)))) r ≡ at t (s ++ r)
    by (Some x) k [] = ap (λ o. at (rests_of (option_or (option_map LeafNode o) (if_full (under t s)))) []) k ∙ sym k ∙ ap (at t) (sym (append-nil s))
    by (Some x) k (d ∷ q) =
        ap (λ o. at (rests_of (option_or (option_map LeafNode o) (if_full (under t s)))) (d ∷ q)) k
        ∙ ap (λ (w : Flat). at w (d ∷ q)) (sym (leaf_under t s x h k)) ∙ at-under t s d q
    by None k [] =
        ap (λ o. at (rests_of (option_or (option_map LeafNode o) (if_full (under t s)))) []) k
        ∙ ap (λ (w : Flat). at w []) (whole-flat (under t s)) ∙ at-under_nil t s ∙ sym k ∙ ap (at t) (sym (append-nil s))
    by None k (d ∷ q) =
        ap (λ o. at (rests_of (option_or (option_map LeafNode o) (if_full (under t s)))) (d ∷ q)) k
        ∙ ap (λ (w : Flat). at w (d ∷ q)) (whole-flat (under t s)) ∙ at-under t s d q

pub at-behind : (a q : Path) (t : Flat) → at (behind a t) q ≡ at_rest t (strip a q)
at-behind a q [] = sym (nothing (strip a q))
  where
    nothing : (o : Option Path) → at_rest [] o ≡ None
    nothing None = refl
    nothing (Some r) = refl
at-behind a q ((r, x) ∷ t) = by (at-behind a q t) (strip a q) refl
  where
    by : at (behind a t) q ≡ at_rest t (strip a q) → (o : Option Path) → strip a q ≡ o → cond (same_path q (a ++ r)) (Some x) (at (behind a t) q) ≡ at_rest ((r, x) ∷ t) (strip a q)
    by ih None e = other (same_path q (a ++ r)) refl ∙ ih ∙ ap (at_rest t) e ∙ ap (at_rest ((r, x) ∷ t)) (sym e)
      where
        other : (b : Bool) → same_path q (a ++ r) ≡ b → cond (same_path q (a ++ r)) (Some x) (at (behind a t) q) ≡ at (behind a t) q
        other true k = absurd (none-some r (sym e ∙ ap (strip a) ((path_decides q (a ++ r)).0 k) ∙ strip-self a r))
        other false k = ap (λ b. cond b (Some x) (at (behind a t) q)) k
    by ih (Some s) e =
        (λ i. cond (same i) (Some x) (ih i)) ∙ ap (λ o. cond (same_path s r) (Some x) (at_rest t o)) e ∙ ap (at_rest ((r, x) ∷ t)) (sym e)
      where
        path : q ≡ a ++ s
        path = strip-is a q s e

        same : same_path q (a ++ r) ≡ same_path s r
        same = elim (same_path s r) as (λ b. same_path s r ≡ b → same_path q (a ++ r) ≡ b) [
          | true ↦ λ k. (path_decides q (a ++ r)).1 (path ∙ ap (λ w. a ++ w) ((path_decides s r).0 k))
          | false ↦ λ k. not_same (same_path q (a ++ r)) refl k
        ] refl
          where
            not_same : (b : Bool) → same_path q (a ++ r) ≡ b → same_path s r ≡ false → same_path q (a ++ r) ≡ false
            not_same false g k = g
            not_same true g k =
                let rests_same : s ≡ r = same_Some s r (sym e ∙ ap (strip a) ((path_decides q (a ++ r)).0 g) ∙ strip-self a r) in
                absurd (true≢false (sym ((path_decides s r).1 rests_same) ∙ k))

-- ---- one route

module _ (f : Filter) (es : List Entry) (list : IsListOf f es) (sound : IsSound f) (named : has_paths f ≡ true) where
  pub lens : IsLens (lens_of f)
  lens = the_law.lens f named sound

  module _ (t : Flat) (h : IsTree t) (i : ℕ) (e : Entry) (get : slice_get es i ≡ Some e) where
    abbrev k : Path → Bool
    k = between es i (i + 1)

    fine : Fine e
    fine = each-get Fine es i e list.fine get

    -- the image of a path for which the entry decides
    image-is : (p : Path) → IsPath p → decides es i p ≡ true → (r : Path) × (tail e.0 p ≡ Some r) × (image f p ≡ decide (Some r) e.1 None)
    image-is p v d = let w = decides-run es i e p get d in (w.0, w.1, sym (list.gives p (full-path p v)) ∙ w.2)

    pub no-target : e.1 ≡ None → seen_between f es i (i + 1) t ≡ []
    no-target n = seen-nothing (lens_of f) lens t h k (λ p q v d m.
        let w = image-is p v (sym (between-one es i e p get) ∙ d) in
        none-some q (ap (λ a. decide (Some w.0) a None) (sym n) ∙ sym w.2 ∙ m))

    module _ (a : Path) (target : e.1 ≡ Some a) where
      abbrev part : Flat
      part = part_of es i (base e.0) t

      abbrev at-base : Path → Bool
      at-base r = decides es i (base_in (slice_get es i) ++ r)

      part-at : (r : Path) → at part r ≡ cond (decides es i (base e.0 ++ r)) (at t (base e.0 ++ r)) None
      part-at r =
          at-filter at-base (rests_of (standing t (base e.0))) r
          ∙ (λ j. cond (decides es i (base_in (get j) ++ r)) (at-rests t (base e.0) r h j) None)

      moved : (p r : Path) → image f p ≡ decide (Some r) e.1 None → image f p ≡ Some (a ++ r)
      moved p r m = m ∙ ap (λ o. decide (Some r) o None) target

      -- a path that the entry has behind its base, where what it becomes is a path
      path-is : (r : Path) → decides es i (base e.0 ++ r) ≡ true → Valid r → IsPath (base e.0 ++ r)
      path-is r d v = by e.0 fine.0 (decides-run es i e (base e.0 ++ r) get d).0 (decides-run es i e (base e.0 ++ r) get d).1
        where
          by : (c : Cone) → Solid c → (s : Path) → tail c (base c ++ r) ≡ Some s → IsPath (base c ++ r)
          by (point b) solid s g =
              let w = whole-some (strip b (b ++ r)) s g in
              let none : r ≡ [] = same_Some r [] (sym (strip-self b r) ∙ w.0) in
              subst IsPath (sym (ap (λ x. b ++ x) none ∙ append-nil b)) solid
          by (below b) solid s g =
              let full : Full s = proper-full (strip b (b ++ r)) s g in
              let same : s ≡ r = same_Some s r (sym (proper-some (strip b (b ++ r)) s g) ∙ strip-self b r) in
              path-from (b ++ r) (full-behind b r (subst Full same full)) (valid-both b r solid v)

      -- its own path behind the base
      rest-is : (p r : Path) → tail e.0 p ≡ Some r → p ≡ base e.0 ++ r
      rest-is p r g = tail-is e.0 p r g

      pub route-is : IsTree (behind a part) → seen_between f es i (i + 1) t ≡ behind a part
      route-is tree = same_on_paths (seen_between f es i (i + 1) t) (behind a part) (seen-is-tree (lens_of f) lens t h k).sorted tree.sorted (seen-is-tree (lens_of f) lens t h k).paths tree.paths
          (λ q v. seen-at (lens_of f) lens t h k q v ∙ by q v (strip a q) refl ∙ sym (at-behind a q part))
        where
          -- a path that is shown as q by the entry
          shown-here : (q : Path) → IsPath q → (p : Path) → origin f q ≡ Some p → k p ≡ true → (r : Path) × (p ≡ base e.0 ++ r) × (q ≡ a ++ r) × (decides es i (base e.0 ++ r) ≡ true)
          shown-here q v p o d =
              let here : decides es i p ≡ true = sym (between-one es i e p get) ∙ d in
              let w = image-is p (lens.origin_path p q v o) here in
              let path = rest-is p w.0 w.1 in
              (w.0, path, same_Some q (a ++ w.0) (sym (lens.origin_image p q v o) ∙ moved p w.0 w.2), subst (λ (x : Path). decides es i x ≡ true) path here)

          none-of : (q : Path) → IsPath q → ((r : Path) → q ≡ a ++ r → decides es i (base e.0 ++ r) ≡ true → ⊥) → at_rest t (passed k (origin f q)) ≡ None
          none-of q v never = elim (origin f q) as (λ o. origin f q ≡ o → at_rest t (passed k o) ≡ None) [
            | None ↦ λ o. refl
            | Some p ↦ λ o. here p o (k p) refl
          ] refl
            where
              here : (p : Path) → origin f q ≡ Some p → (b : Bool) → k p ≡ b → at_rest t (cond (k p) (Some p) None) ≡ None
              here p o true d = let w = shown-here q v p o d in absurd (never w.0 w.2 w.3)
              here p o false d = ap (λ b. at_rest t (cond b (Some p) None)) d

          by : (q : Path) → IsPath q → (o : Option Path) → strip a q ≡ o → at_rest t (passed k (origin f q)) ≡ at_rest part (strip a q)
          by q v None g = none-of q v (λ r m d. none-some r (sym g ∙ ap (strip a) m ∙ strip-self a r)) ∙ ap (at_rest part) (sym g)
          by q v (Some r) g = at-rest (decides es i (base e.0 ++ r)) refl ∙ sym (part-at r) ∙ ap (at_rest part) (sym g)
            where
              path : q ≡ a ++ r
              path = strip-is a q r g

              at-rest : (b : Bool) → decides es i (base e.0 ++ r) ≡ b → at_rest t (passed k (origin f q)) ≡ cond (decides es i (base e.0 ++ r)) (at t (base e.0 ++ r)) None
              at-rest false d =
                  none-of q v (λ s m x. true≢false (sym x ∙ ap (λ w. decides es i (base e.0 ++ w)) (same_Some s r (sym (strip-self a s) ∙ ap (strip a) (sym m) ∙ g)) ∙ d))
                  ∙ ap (λ b. cond b (at t (base e.0 ++ r)) None) (sym d)
              at-rest true d =
                  let valid : IsPath (base e.0 ++ r) = path-is r d (valid-behind a r (subst Valid path (valid-path q v))) in
                  let w = image-is (base e.0 ++ r) valid d in
                  let same : w.0 ≡ r = same_Some w.0 r (sym (strip-self (base e.0) w.0) ∙ ap (strip (base e.0)) (sym (rest-is (base e.0 ++ r) w.0 w.1)) ∙ strip-self (base e.0) r) in
                  let shown : image f (base e.0 ++ r) ≡ Some q = moved (base e.0 ++ r) w.0 w.2 ∙ ap (λ x. Some (a ++ x)) same ∙ ap Some (sym path) in
                  let back : origin f q ≡ Some (base e.0 ++ r) = lens.image_origin (base e.0 ++ r) q valid shown in
                  ap (λ o. at_rest t (passed k o)) back
                  ∙ ap (λ b. at_rest t (cond b (Some (base e.0 ++ r)) None)) (between-one es i e (base e.0 ++ r) get ∙ d)
                  ∙ ap (λ b. cond b (at t (base e.0 ++ r)) None) (sym d)

      -- what the part has at a rest is a leaf of the tree, and its image is a path
      pub part-leaf : (r : Path) (x : Leaf) → at part r ≡ Some x → (at t (base e.0 ++ r) ≡ Some x) × IsPath (a ++ r) × (image f (base e.0 ++ r) ≡ Some (a ++ r))
      part-leaf r x g = by (decides es i (base e.0 ++ r)) refl (sym (part-at r) ∙ g)
        where
          by : (b : Bool) → decides es i (base e.0 ++ r) ≡ b → cond (decides es i (base e.0 ++ r)) (at t (base e.0 ++ r)) None ≡ Some x → (at t (base e.0 ++ r) ≡ Some x) × IsPath (a ++ r) × (image f (base e.0 ++ r) ≡ Some (a ++ r))
          by false d m = absurd (none-some x (ap (λ b. cond b (at t (base e.0 ++ r)) None) (sym d) ∙ m))
          by true d m =
              let leaf : at t (base e.0 ++ r) ≡ Some x = ap (λ b. cond b (at t (base e.0 ++ r)) None) (sym d) ∙ m in
              let valid : IsPath (base e.0 ++ r) = from-T (is_path (base e.0 ++ r)) (all_at is_path t (base e.0 ++ r) x h.paths leaf) in
              let w = image-is (base e.0 ++ r) valid d in
              let same : w.0 ≡ r = same_Some w.0 r (sym (strip-self (base e.0) w.0) ∙ ap (strip (base e.0)) (sym (rest-is (base e.0 ++ r) w.0 w.1)) ∙ strip-self (base e.0) r) in
              let shown : image f (base e.0 ++ r) ≡ Some (a ++ r) = moved (base e.0 ++ r) w.0 w.2 ∙ ap (λ y. Some (a ++ y)) same in
              (leaf, image-path f (base e.0 ++ r) (a ++ r) named valid shown, shown)

      -- the components of what is shown are named
      pub part-named : (r : Path) (x : Leaf) → at part r ≡ Some x → IsLeafOf t x × Each (IsComponentOf t) r × Each (IsNamedIn f t) a
      part-named r x g =
          let w = part-leaf r x g in
          let own = over_own t in
          let all = own.parts (base e.0 ++ r) x w.0 in (
            own.leaves (base e.0 ++ r) x w.0,
            each-right (IsComponentOf t) (base e.0) r all,
            each-left (IsNamedIn f t) a r (image-named (IsNamedIn f t) f (base e.0 ++ r) (a ++ r) (in-each (IsNamedIn f t) (parts_in f) (λ c j. inr j)) (each-as (IsComponentOf t) (IsNamedIn f t) (base e.0 ++ r) (λ c j. inl j) all) w.2),
          )
