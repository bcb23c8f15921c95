-- A path removed whose way is clear.
use Rattle.std.proofs.Common.{◌≡◌, ℕ, true, false, cond, List, [], ◌∷◌, ◌++◌, length, take, drop, Option, Some, None, refl, sym, ap, subst, ◌∙◌, arith}
use Rattle.std.proofs.lemmas.List.{take-append-drop, take_all}
use Rattle.git_objects.specs.Paths.{Path, same_bytes}
use Rattle.git_objects.specs.Trees.{Flat, at, remove}
use Rattle.object_store.specs.Objects.{Object}
use Rattle.stage_nodes.specs.declared.nodes.Nodes.{Nodes}
use Rattle.stage_nodes.specs.declared.ways.Way.{Way}
use Rattle.stage_nodes.specs.Branches.{CanCut, IsCut, IsCutAt, IsRemoved, Stands, after_named, is_alone, reached}
use Rattle.stage_nodes.specs.declared.nodes.Content.{Content}
use Rattle.stage_nodes.specs.declared.nodes.Content.TheVariants.{Held, Open}
use Rattle.stage_nodes.specs.Forests.{Forest, Nil, Bin, is_link}
use Rattle.stage_nodes.specs.declared.nodes.Link.{Link}
use Rattle.stage_nodes.specs.declared.nodes.Link.TheVariants.{Next}
use Rattle.stage_nodes.specs.Frames.{plug}
use Rattle.stage_nodes.specs.Ways.{IsOpen, IsStill, IsWay, kids_of}
use Rattle.stage_nodes.specs.Walks.{CanPrune, IsStop, IsWalkable, clear_below, is_clear}
use Rattle.stage_nodes.proofs.Clearing.{clear_place}
use Rattle.stage_nodes.proofs.OnWay.{still_same}
use Rattle.stage_nodes.proofs.Removing.{can_cut, child_link, cut_removed, cut_whole, nothing_removed}
use Rattle.stage_nodes.proofs.Walking.{way_of}

-- the way to what a path begins with is clear too
clear_front : (F : Forest) (p r : Path) → is_clear F (p ++ r) ≡ true → is_clear F p ≡ true
clear_front Nil p r g = refl
clear_front (Bin k e x l w) [] r g = refl
clear_front (Bin k e x l w) (c ∷ []) r g = refl
clear_front (Bin k e x l w) (c ∷ d ∷ p) r g =
    elim (same_bytes c e) as (λ b. cond b (clear_below x (is_clear l (d ∷ p ++ r))) (is_clear w (c ∷ d ∷ p ++ r)) ≡ true → cond b (clear_below x (is_clear l (d ∷ p))) (is_clear w (c ∷ d ∷ p)) ≡ true) [
      | true ↦ λ u. below x (clear_front l (d ∷ p) r) u
      | false ↦ λ u. clear_front w (c ∷ d ∷ p) r u
    ] g
  where
    below : (x : Content) → (is_clear l (d ∷ p ++ r) ≡ true → is_clear l (d ∷ p) ≡ true) → clear_below x (is_clear l (d ∷ p ++ r)) ≡ true → clear_below x (is_clear l (d ∷ p)) ≡ true
    below Open f u = f u
    below (Held f) g u = u

pub clear_take : (F : Forest) (p : Path) (n : ℕ) → is_clear F p ≡ true → is_clear F (take n p) ≡ true
clear_take F p n g = clear_front F (take n p) (drop n p) (ap (is_clear F) (take-append-drop n p) ∙ g)

-- the nodes as they are in the turns of the search
module _ (s0 s : Nodes) (p : Path) (e : s ≡ s0) (h : CanPrune s0 p) where
  pub still_now : IsStill h.objects s0 s
  still_now = subst (λ (v : Nodes). IsStill h.objects s0 v) (sym e) (still_same h.objects s0 h.opened)

  pub clear_now : (n : ℕ) → is_clear (kids_of s) (take n p) ≡ true
  clear_now n = clear_take (kids_of s) p n (ap (λ (v : Nodes). is_clear (kids_of v) p) e ∙ h.clear)

  abbrev pub walk_now : IsWalkable s
  walk_now = record { objects = h.objects; directory = still_now.opened.directory; sound = still_now.opened.sound }

  pub way_now : (n level : ℕ) (link : Link) (child : Option ℕ) → ((w : IsWalkable s) → is_clear (kids_of s) (take n p) ≡ true → IsStop w.objects s (take n p) level link child) → IsWay h.objects s s (take n p) level link child
  way_now n level link child stop = way_of h.objects s (take n p) level link child still_now.opened (stop walk_now (clear_now n))

-- ---- the way to a whole path

module _ (S : List Object) (s t : Nodes) (p : Path) (o : IsOpen S s) (w : Way) (way : IsWay S s t p w.level w.spot.link w.spot.child) where
  all : take (length p) p ≡ p
  all = take_all (length p) p (omega arith)

  abbrev whole : IsWay S s t (take (length p) p) w.level w.spot.link w.spot.child
  whole = subst (λ (q : Path). IsWay S s t q w.level w.spot.link w.spot.child) (sym all) way

  same : (f : Flat) → Stands S s f → (y : Path) → at (remove f (take (length p) p)) y ≡ at (remove f p) y
  same f st y = ap (λ (q : Path). at (remove f q) y) all

  pub none_cut : None ≡ reached (length p) w → IsCutAt S s t p way.place.frames
  none_cut e = record { removed = nothing_removed S s s t p (length p) (omega arith) (still_same S s o) same w whole e; rest = way.place.rest; whole = way.place.whole }

  -- its ways are clear, so what stands at the path may be removed from here on
  pub prunes : CanPrune t p
  prunes = record { objects = S; opened = way.still.opened; clear = ap (is_clear (kids_of t)) (sym way.path) ∙ clear_place S t way.before way.component way.behind w.spot.link w.spot.child way.place way.ended }

  pub pruned : (u : Nodes) → ((h : CanPrune t p) → IsRemoved h.objects t u p) → IsRemoved S s u p
  unfolding prunes
  pruned u made = let r = made prunes in record { opened = r.opened; removes = λ f st y. r.removes f (λ z. way.still.leaves z ∙ st z) y }

  module _ (child : ℕ) (e : Some child ≡ reached (length p) w) where
    pub whole_link : is_link t.cells.items (Next child) ≡ true
    whole_link = child_link S s s t p (length p) (omega arith) (still_same S s o) same w whole child e

    pub whole_cut : is_alone t.cells.items w.spot.link child ≡ false → CanCut t w.spot.link child
    whole_cut = can_cut S s s t p (length p) (omega arith) (still_same S s o) same w whole child e

    pub whole_cut_at : (v : Nodes) → is_alone t.cells.items w.spot.link child ≡ false → ((h : CanCut t w.spot.link child) → IsCut t v w.spot.link child h) → IsCutAt S s v p way.place.frames
    whole_cut_at v g made = record {
      removed = cut_removed S s s t p (length p) (omega arith) (still_same S s o) same w whole child e v g made;
      rest = after_named way.component way.place.rest;
      whole = subst (λ (q : Path). (x : IsWay S s t q w.level w.spot.link w.spot.child) → plug x.place.frames (after_named x.component x.place.rest) ≡ kids_of v) all
          (λ x. sym (cut_whole S s s t p (length p) (omega arith) (still_same S s o) same w x child e v g made)) way;
    }
