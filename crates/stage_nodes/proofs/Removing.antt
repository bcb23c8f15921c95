-- A path removed.
use Rattle.std.proofs.Common.{◌≡◌, ℕ, ◌+◌, ◌-◌, ◌<◌, ◌≤◌, ◌≢◌, ◌⊎◌, inl, inr, Bool, true, false, cond, ◌==◌, ◌&&◌, List, [], ◌∷◌, ◌++◌, length, take, Option, Some, None, refl, sym, ap, subst, ◌∙◌, arith, true≢false, append_assoc, length-append}
use Rattle.std.specs.Option.{is_none}
use Rattle.std.specs.Cmp.Lexicographic.{bytes_decides}
use Rattle.std.proofs.lemmas.Bool.Decides.{eqb_tells}
use Rattle.std.proofs.lemmas.Option.{slice_get_within}
use Rattle.git_objects.specs.Paths.{Bytes, Path, same_bytes, is_prefix}
use Rattle.git_objects.specs.Trees.{Leaf, Flat, at, remove}
use Rattle.git_objects.proofs.Basics.{same_bytes-self}
use Rattle.git_objects.proofs.Maps.{after, at-remove}
use Rattle.object_store.specs.Objects.{Object}
use Rattle.stage_nodes.specs.declared.nodes.Nodes.{Nodes}
use Rattle.stage_nodes.specs.declared.nodes.Content.{Content}
use Rattle.stage_nodes.specs.declared.nodes.Link.{Link}
use Rattle.stage_nodes.specs.declared.nodes.Link.TheVariants.{Next}
use Rattle.stage_nodes.specs.declared.ways.Way.{Way}
use Rattle.stage_nodes.specs.Forests.{Forest, Nil, Bin, Reads, target, is_link, Beyond, Sound}
use Rattle.stage_nodes.specs.Frames.{Frame, Below, Behind, plug, link_of, path_of, Fits, Fills}
use Rattle.stage_nodes.specs.Leaves.{leaf_in, leaf_below, is_held}
use Rattle.stage_nodes.specs.Ways.{IsStill, IsBlocked, IsPlaceOf, IsWay, NotBefore, named_first, kids_of}
use Rattle.stage_nodes.specs.Branches.{CanCut, IsCut, Stands, IsRemoved, after_named, reached, is_alone}
use Rattle.stage_nodes.proofs.Order.{less_back, less_trans}
use Rattle.stage_nodes.proofs.Seeking.{inside_link}
use Rattle.stage_nodes.proofs.Freeing.{next_of}
use Rattle.stage_nodes.proofs.Leaves.{Alike, leaf_plug, leaf_beside, after_is}
use Rattle.stage_nodes.proofs.PutLeaves.{beyond_none, blocked_none, leaf_on_way}
use Rattle.stage_nodes.proofs.Replacing.{IsOld, old_of}

-- ---- paths

after_prefix : (p y r : Path) → after p y ≡ Some r → is_prefix p y ≡ true
after_prefix [] y r h = refl
after_prefix (c ∷ p) [] r h = absurd cc
after_prefix (c ∷ p) (d ∷ y) r h = elim (same_bytes c d) as (λ t. cond t (after p y) None ≡ Some r → (t && is_prefix p y) ≡ true) [ true ↦ λ g. after_prefix p y r g | false ↦ λ g. absurd cc ] h

no_after_prefix : (p y : Path) → after p y ≡ None → is_prefix p y ≡ false
no_after_prefix [] y h = absurd cc
no_after_prefix (c ∷ p) [] h = refl
no_after_prefix (c ∷ p) (d ∷ y) h = elim (same_bytes c d) as (λ t. cond t (after p y) None ≡ None → (t && is_prefix p y) ≡ false) [ true ↦ λ g. no_after_prefix p y g | false ↦ λ g. refl ] h

prefix_is : (p y : Path) → is_prefix p y ≡ true → (r : Path) × (after p y ≡ Some r)
prefix_is [] y h = (y, refl)
prefix_is (c ∷ p) [] h = absurd (true≢false (sym h))
prefix_is (c ∷ p) (d ∷ y) h = elim (same_bytes c d) as (λ t. (t && is_prefix p y) ≡ true → (r : Path) × (cond t (after p y) None ≡ Some r)) [ true ↦ λ g. prefix_is p y g | false ↦ λ g. absurd (true≢false (sym g)) ] h

prefix_self : (p r : Path) → is_prefix p (p ++ r) ≡ true
prefix_self [] r = refl
prefix_self (c ∷ p) r = ap (λ b. b && is_prefix p (p ++ r)) (same_bytes-self c) ∙ prefix_self p r

shorter_prefix : (q : Path) (c : Bytes) (y : Path) → is_prefix (q ++ c ∷ []) y ≡ true → is_prefix q y ≡ true
shorter_prefix [] c y h = refl
shorter_prefix (d ∷ q) c [] h = absurd (true≢false (sym h))
shorter_prefix (d ∷ q) c (e ∷ y) h = elim (same_bytes d e) as (λ t. (t && is_prefix (q ++ c ∷ []) y) ≡ true → (t && is_prefix q y) ≡ true) [ true ↦ λ g. shorter_prefix q c y g | false ↦ λ g. g ] h

-- ---- nothing stands there

absent_none : (S : List Object) (P : Content → Bool) (c : Bytes) (X : Forest) (r : Path) → Sound P X → NotBefore c X → named_first c X ≡ None → leaf_in S X (c ∷ r) ≡ None
absent_none S P c Nil r s n e = refl
absent_none S P c (Bin k d x l m) r s n e =
    elim (same_bytes c d) as (λ t. same_bytes c d ≡ t → cond t (Some k) None ≡ None → cond t (leaf_below S x (leaf_in S l) r) (leaf_in S m (c ∷ r)) ≡ None) [
      | true ↦ λ g q. absurd cc
      | false ↦ λ g q. beyond_none S c m r (far m (less_back c d n g) s.1)
    ] refl e
  where
    far : (F : Forest) → Rattle.stage_nodes.specs.Forests.bytes_cmp c d ≡ Rattle.std.specs.declared.cmp.Ordering.TheVariants.Less → Beyond d F → Beyond c F
    far Nil g b = tt
    far (Bin i e x l r) g b = (less_trans c d e g b.0, far r g b.1)

cond_none : (v : Bool) (o : Option Leaf) → (v ≡ true → o ≡ None) → cond v None o ≡ o
cond_none true o h = sym (h refl)
cond_none false o h = refl

cond_some : (v : Bool) (o : Option ℕ) (x : ℕ) → Some x ≡ cond v o None → (v ≡ true) × (o ≡ Some x)
cond_some true o x h = (refl, sym h)
cond_some false o x h = absurd cc

module _ (S : List Object) (s0 s t : Nodes) (p : Path) (n : ℕ) (within : n ≤ length p) (still : IsStill S s0 s) (same : (f : Flat) → Stands S s0 f → (y : Path) → at (remove f (take n p)) y ≡ at (remove f p) y) (w : Way) (way : IsWay S s t (take n p) w.level w.spot.link w.spot.child) where
  long : length way.before + (length way.behind + 1) ≡ n
  long = omega (arith, ap length way.path, length-append way.before (way.component ∷ way.behind), Rattle.std.proofs.Common.length-take n p, way.level_is)

  pub level_less : w.level < n
  level_less = omega (arith, long, way.level_is)

  -- the nodes after the way stand for what the nodes before it stood for
  stood : (f : Flat) → Stands S s0 f → (y : Path) → leaf_in S (plug way.place.frames way.place.rest) y ≡ at f y
  stood f h y = ap (λ (F : Forest). leaf_in S F y) way.place.whole ∙ way.still.leaves y ∙ still.leaves y ∙ h y

  pub way_still : IsStill S s0 t
  way_still = record { opened = way.still.opened; leaves = λ y. way.still.leaves y ∙ still.leaves y }

  -- ---- nothing is reached

  pub nothing_below : None ≡ reached n w → (f : Flat) → Stands S s0 f → (y : Path) → is_prefix (take n p) y ≡ true → at f y ≡ None
  nothing_below e f h y g =
      let r = prefix_is (take n p) y g in
      let y_is : y ≡ way.before ++ (way.component ∷ (way.behind ++ r.0)) = after_is S (is_held S) (take n p) y r.0 r.1 ∙ ap (λ (q : Path). q ++ r.0) (sym way.path) ∙ append_assoc way.before (way.component ∷ way.behind) r.0 in
      sym (stood f h y) ∙ ap (leaf_in S (plug way.place.frames way.place.rest)) (y_is ∙ ap (λ (q : Path). q ++ (way.component ∷ (way.behind ++ r.0))) (sym way.place.path))
      ∙ leaf_plug S (is_held S) way.place.frames way.place.rest way.component (way.behind ++ r.0) way.place.here.sound_up way.place.fits
      ∙ none_at r.0 way.behind refl way.ended
    where
      no_child : way.behind ≡ [] → named_first way.component way.place.rest ≡ None
      no_child q = sym way.place.child_is ∙ by (eqb_tells (w.level + 1) n)
        where
          by : (((w.level + 1 == n) ≡ true) × (w.level + 1 ≡ n)) ⊎ (((w.level + 1 == n) ≡ false) × (w.level + 1 ≢ n)) → w.spot.child ≡ None
          by (inl u) = ap (λ v. cond v w.spot.child None) (sym u.0) ∙ sym e
          by (inr u) = absurd (u.1 (omega (arith, long, way.level_is, ap length q)))

      none_at : (r : Path) (b : Path) → b ≡ way.behind → (way.behind ≡ []) ⊎ IsBlocked way.component way.place.rest → leaf_in S way.place.rest (way.component ∷ (b ++ r)) ≡ None
      none_at r b q (inl u) = absent_none S (is_held S) way.component way.place.rest (b ++ r) way.place.here.sound way.place.next (no_child u)
      none_at r [] q (inr u) = absent_none S (is_held S) way.component way.place.rest r way.place.here.sound way.place.next (no_child (sym q))
      none_at r (d ∷ b) q (inr u) = blocked_none S (is_held S) way.component way.place.rest d (b ++ r) way.place.here.sound way.place.next u

  pub nothing_removed : None ≡ reached n w → IsRemoved S s0 t p
  nothing_removed e = record {
    opened = way.still.opened;
    removes = λ f h y.
        way.still.leaves y ∙ still.leaves y ∙ h y
        ∙ sym (cond_none (is_prefix (take n p) y) (at f y) (nothing_below e f h y))
        ∙ sym (at-remove f (take n p) y)
        ∙ same f h y;
  }

  -- ---- a node is reached

  module _ (child : ℕ) (e : Some child ≡ reached n w) where
    at_end : (w.level + 1 ≡ n) × (w.spot.child ≡ Some child)
    at_end =
        let q = cond_some (w.level + 1 == n) w.spot.child child e in
        (by (eqb_tells (w.level + 1) n) q.0, q.1)
      where
        by : (((w.level + 1 == n) ≡ true) × (w.level + 1 ≡ n)) ⊎ (((w.level + 1 == n) ≡ false) × (w.level + 1 ≢ n)) → (w.level + 1 == n) ≡ true → w.level + 1 ≡ n
        by (inl u) g = u.1
        by (inr u) g = absurd (true≢false (sym g ∙ u.0))

    no_more : (b : Path) → length b ≡ 0 → b ≡ []
    no_more [] h = refl
    no_more (c ∷ b) h = absurd (omega arith)

    behind_none : way.behind ≡ []
    behind_none = no_more way.behind (omega (arith, long, way.level_is, at_end.0))

    path_is : way.before ++ way.component ∷ [] ≡ take n p
    path_is = ap (λ (b : Path). way.before ++ way.component ∷ b) (sym behind_none) ∙ way.path

    abbrev here : IsPlaceOf S t way.before way.component w.spot.link (Some child)
    here = record {
      frames = way.place.frames;
      number = way.place.number;
      rest = way.place.rest;
      here = way.place.here;
      whole = way.place.whole;
      path = way.place.path;
      link_is = way.place.link_is;
      fits = way.place.fits;
      next = way.place.next;
      child_is = sym at_end.1 ∙ way.place.child_is;
    }

    there : IsOld t way.component child way.place.rest
    there = old_of t way.component child way.place.number way.place.rest way.place.here.reads here.child_is

    pub child_link : is_link t.cells.items (Next child) ≡ true
    child_link = inside_link t.names.items t.cells.items child (slice_get_within t.cells.items child there.node there.there)

    no_sibling : is_none (target t.cells.items (Next child)) ≡ true → there.siblings ≡ Nil
    no_sibling g = by there.siblings there.node.next there.reads_siblings (sym (ap is_none (next_of t.cells.items child there.node there.there)) ∙ g)
      where
        by : (F : Forest) (o : Option ℕ) → Reads t.names.items t.cells.items o F → is_none o ≡ true → F ≡ Nil
        by Nil o r q = refl
        by (Bin i d x l m) o r q = absurd (true≢false (sym q ∙ ap is_none r.number))

    some_sibling : is_none (target t.cells.items (Next child)) ≡ false → there.siblings ≡ Nil → ⊥
    some_sibling g q = true≢false (sym (ap is_none (next_of t.cells.items child there.node there.there ∙ subst (Reads t.names.items t.cells.items there.node.next) q there.reads_siblings)) ∙ g)

    fills_by : (up : List Frame) (Y : Forest) → ((k : ℕ) (c : Bytes) (r : Forest) (rest : List Frame) → up ≡ Below k c r ∷ rest → Y ≡ Nil → ⊥) → Fills up Y
    fills_by [] Nil h = tt
    fills_by [] (Bin i d x l m) h = tt
    fills_by (Below k c r ∷ up) Nil h = h k c r up refl refl
    fills_by (Below k c r ∷ up) (Bin i d x l m) h = tt
    fills_by (Behind k c x l ∷ up) Nil h = tt
    fills_by (Behind k c x l ∷ up) (Bin i d y m r) h = tt

    pub can_cut : is_alone t.cells.items w.spot.link child ≡ false → CanCut t w.spot.link child
    can_cut g = record {
      objects = S;
      opened = way.still.opened;
      path = way.before;
      component = way.component;
      place = here;
      fills = fills_by way.place.frames (after_named way.component way.place.rest) (λ k c r up u q. some_sibling (sym (ap (λ (l : Link). is_alone t.cells.items l child) (way.place.link_is ∙ ap (link_of 0) u)) ∙ g) (sym there.behind ∙ q));
    }

    snoc_full : (q : Path) (c : Bytes) → q ++ c ∷ [] ≡ [] → ⊥
    snoc_full [] c h = cc
    snoc_full (d ∷ q) c h = cc

    -- the root may be left empty
    pub can_cut_root : n ≡ 1 → CanCut t w.spot.link child
    can_cut_root g = record {
      objects = S;
      opened = way.still.opened;
      path = way.before;
      component = way.component;
      place = here;
      fills = fills_by way.place.frames (after_named way.component way.place.rest) (λ k c r up u q. snoc_full (path_of up) c (sym (ap path_of u) ∙ way.place.path ∙ no_more way.before (omega (arith, long, g))));
    }

    cut_leaves : (v : Nodes) (h : CanCut t w.spot.link child) → h.objects ≡ S → kids_of v ≡ plug way.place.frames (after_named way.component way.place.rest) → (f : Flat) → Stands S s0 f → (y : Path) → leaf_in S (kids_of v) y ≡ at (remove f p) y
    cut_leaves v h o whole f st y =
        ap (λ (F : Forest). leaf_in S F y) (whole ∙ ap (plug way.place.frames) there.behind)
        ∙ by (after (take n p) y) refl
        ∙ sym (at-remove f (take n p) y)
        ∙ same f st y
      where
        sound_there : Sound (is_held S) (Bin child way.component there.content there.children there.siblings)
        sound_there = subst (Sound (is_held S)) there.is way.place.here.sound

        alike : Alike S (is_held S) way.component way.place.rest there.siblings
        alike d q g = ap (λ (F : Forest). leaf_in S F (d ∷ q)) there.is ∙ ap (λ b. cond b (leaf_below S there.content (leaf_in S there.children) q) (leaf_in S there.siblings (d ∷ q))) g

        by : (r : Option Path) → after (take n p) y ≡ r → leaf_in S (plug way.place.frames there.siblings) y ≡ cond (is_prefix (take n p) y) None (at f y)
        by None g =
            sym (leaf_beside S (is_held S) way.place.frames way.place.rest there.siblings way.component y way.place.here.sound_up way.place.fits alike (ap (λ (q : Path). after (q ++ way.component ∷ []) y) way.place.path ∙ ap (λ (q : Path). after q y) path_is ∙ g))
            ∙ stood f st y ∙ sym (ap (λ b. cond b None (at f y)) (no_after_prefix (take n p) y g))
        by (Some r) g =
            ap (leaf_in S (plug way.place.frames there.siblings)) (after_is S (is_held S) (take n p) y r g ∙ ap (λ (q : Path). q ++ r) (sym path_is) ∙ append_assoc way.before (way.component ∷ []) r ∙ ap (λ (q : Path). q ++ way.component ∷ r) (sym way.place.path))
            ∙ leaf_plug S (is_held S) way.place.frames there.siblings way.component r way.place.here.sound_up way.place.fits
            ∙ beyond_none S way.component there.siblings r sound_there.1
            ∙ sym (ap (λ b. cond b None (at f y)) (after_prefix (take n p) y r g))

    pub cut_removed : (v : Nodes) (g : is_alone t.cells.items w.spot.link child ≡ false) → ((h : CanCut t w.spot.link child) → IsCut t v w.spot.link child h) → IsRemoved S s0 v p
    unfolding can_cut
    cut_removed v g made = let r = made (can_cut g) in record { opened = r.opened; removes = λ f st y. cut_leaves v (can_cut g) refl r.whole f st y }

    pub cut_whole : (v : Nodes) (g : is_alone t.cells.items w.spot.link child ≡ false) → ((h : CanCut t w.spot.link child) → IsCut t v w.spot.link child h) → kids_of v ≡ plug way.place.frames (after_named way.component way.place.rest)
    unfolding can_cut
    cut_whole v g made = (made (can_cut g)).whole

    pub cut_removed_root : (v : Nodes) (g : n ≡ 1) → ((h : CanCut t w.spot.link child) → IsCut t v w.spot.link child h) → IsRemoved S s0 v p
    unfolding can_cut_root
    cut_removed_root v g made = let r = made (can_cut_root g) in record { opened = r.opened; removes = λ f st y. cut_leaves v (can_cut_root g) refl r.whole f st y }

    -- ---- the only child: its directory goes

    only_child : is_alone t.cells.items w.spot.link child ≡ true → ((e : Bytes) → Fits way.place.frames e) × (there.siblings ≡ Nil)
    only_child g = by way.place.frames (sym (ap (λ (l : Link). is_alone t.cells.items l child) way.place.link_is) ∙ g)
      where
        by : (up : List Frame) → is_alone t.cells.items (link_of 0 up) child ≡ true → ((e : Bytes) → Fits up e) × (there.siblings ≡ Nil)
        by [] q = (λ e. tt, no_sibling q)
        by (Below k c r ∷ up) q = (λ e. tt, no_sibling q)
        by (Behind k c x l ∷ up) q = absurd (true≢false (sym q))

    pub directory_goes : is_alone t.cells.items w.spot.link child ≡ true → (m : ℕ) → m + 1 ≡ n → (f : Flat) → Stands S s0 f → (y : Path) → at (remove f (take m p)) y ≡ at (remove f p) y
    directory_goes g m u f st y = at-remove f (take m p) y ∙ ap (λ (q : Path). cond (is_prefix q y) None (at f y)) before_is ∙ by (is_prefix way.before y) (is_prefix (take n p) y) refl refl ∙ sym (at-remove f (take n p) y) ∙ same f st y
      where
        only : ((e : Bytes) → Fits way.place.frames e) × (there.siblings ≡ Nil)
        only = only_child g

        before_is : take m p ≡ way.before
        before_is =
            sym (Rattle.std.proofs.lemmas.List.take-take m n p (omega arith))
            ∙ ap (take m) (sym path_is)
            ∙ Rattle.std.proofs.lemmas.List.take-append-le m way.before (way.component ∷ []) (omega (arith, long, ap length behind_none))
            ∙ Rattle.std.proofs.lemmas.List.take_all m way.before (omega (arith, long, ap length behind_none))

        -- no other path goes on from the directory
        nothing_else : is_prefix way.before y ≡ true → is_prefix (take n p) y ≡ false → at f y ≡ None
        nothing_else q v =
            let r = prefix_is way.before y q in
            sym (stood f st y) ∙ ends r.0 (after_is S (is_held S) way.before y r.0 r.1)
          where
            sibling : (e : Bytes) (z : Path) → y ≡ way.before ++ e ∷ z → same_bytes e way.component ≡ true → ⊥
            sibling e z d k = true≢false (sym (ap (is_prefix (take n p)) (d ∙ ap (λ (b : Bytes). way.before ++ b ∷ z) ((bytes_decides e way.component).0 k) ∙ sym (append_assoc way.before (way.component ∷ []) z)) ∙ ap (λ (x : Path). is_prefix x ((way.before ++ way.component ∷ []) ++ z)) (sym path_is) ∙ prefix_self (way.before ++ way.component ∷ []) z) ∙ v)

            other : (b : Bool) → (b ≡ true → ⊥) → b ≡ false
            other true h = absurd (h refl)
            other false h = refl

            ends : (z : Path) → y ≡ way.before ++ z → leaf_in S (plug way.place.frames way.place.rest) y ≡ None
            ends [] d = leaf_on_way S (is_held S) way.place.frames way.place.rest y way.place.here.sound_up (ap (is_prefix y) way.place.path ∙ ap (λ (x : Path). is_prefix x way.before) (d ∙ Rattle.std.proofs.Common.append-nil way.before) ∙ ap (is_prefix way.before) (sym (Rattle.std.proofs.Common.append-nil way.before)) ∙ prefix_self way.before [])
            ends (e ∷ z) d =
                ap (leaf_in S (plug way.place.frames way.place.rest)) (d ∙ ap (λ (x : Path). x ++ e ∷ z) (sym way.place.path))
                ∙ leaf_plug S (is_held S) way.place.frames way.place.rest e z way.place.here.sound_up (only.0 e)
                ∙ ap (λ (F : Forest). leaf_in S F (e ∷ z)) there.is
                ∙ ap (λ b. cond b (leaf_below S there.content (leaf_in S there.children) z) (leaf_in S there.siblings (e ∷ z))) (other (same_bytes e way.component) (sibling e z d))
                ∙ ap (λ (F : Forest). leaf_in S F (e ∷ z)) only.1

        by : (a b : Bool) → is_prefix way.before y ≡ a → is_prefix (take n p) y ≡ b → cond (is_prefix way.before y) None (at f y) ≡ cond (is_prefix (take n p) y) None (at f y)
        by true true q v = ap (λ b. cond b None (at f y)) (q ∙ sym v)
        by true false q v = ap (λ b. cond b None (at f y)) q ∙ sym (nothing_else q v) ∙ sym (ap (λ b. cond b None (at f y)) v)
        by false true q v = absurd (true≢false (sym (shorter_prefix way.before way.component y (ap (λ (x : Path). is_prefix x y) path_is ∙ v)) ∙ q))
        by false false q v = ap (λ b. cond b None (at f y)) (q ∙ sym v)

pub front_path : (p : Path) (n : ℕ) → 0 < n → Rattle.git_objects.specs.Paths.is_path p ≡ true → Rattle.git_objects.specs.Paths.is_path (take n p) ≡ true
front_path [] n h v = absurd (true≢false (sym v))
front_path (c ∷ p) n h v = by n h
  where
    all_front : (n : ℕ) (q : Path) → Rattle.std.specs.List.list_all Rattle.git_objects.specs.Paths.is_component q ≡ true → Rattle.std.specs.List.list_all Rattle.git_objects.specs.Paths.is_component (take n q) ≡ true
    all_front Rattle.std.proofs.Common.zero q g = refl
    all_front (Rattle.std.proofs.Common.suc n) [] g = refl
    all_front (Rattle.std.proofs.Common.suc n) (d ∷ q) g = Rattle.git_objects.proofs.Basics.and_both (Rattle.std.specs.Cmp.first_so (Rattle.git_objects.specs.Paths.is_component d) _ g) (all_front n q (Rattle.std.specs.Cmp.second_so (Rattle.git_objects.specs.Paths.is_component d) _ g))

    by : (n : ℕ) → 0 < n → Rattle.git_objects.specs.Paths.is_path (take n (c ∷ p)) ≡ true
    by Rattle.std.proofs.Common.zero g = absurd (omega arith)
    by (Rattle.std.proofs.Common.suc n) g = all_front (Rattle.std.proofs.Common.suc n) (c ∷ p) v
