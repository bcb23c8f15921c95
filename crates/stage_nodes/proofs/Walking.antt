-- Walks to a path on whose way no stored directory stands.
use Rattle.std.proofs.Common.{◌≡◌, ℕ, ◌+◌, ◌<◌, ◌⊎◌, inl, inr, Bool, true, false, not, cond, List, [], ◌∷◌, ◌++◌, length, take, drop, get_or, Option, Some, None, refl, sym, ap, subst, ◌∙◌, arith, append_assoc, length-append, length-take}
use Rattle.std.specs.Option.{option_and_then, IfSome}
use Rattle.std.proofs.lemmas.List.{drop_all}
use Rattle.std.proofs.lemmas.Option.{slice_get_within}
use Rattle.git_objects.specs.Paths.{Bytes, Path}
use Rattle.git_objects.specs.Entries.{is_dir}
use Rattle.git_objects.proofs.Basics.{same_bytes-self}
use Rattle.object_store.specs.Objects.{Object}
use Rattle.stage_nodes.specs.declared.nodes.Nodes.{Nodes}
use Rattle.stage_nodes.specs.declared.nodes.Content.{Content}
use Rattle.stage_nodes.specs.declared.nodes.Content.TheVariants.{Held, Open}
use Rattle.stage_nodes.specs.declared.nodes.Link.{Link}
use Rattle.stage_nodes.specs.declared.nodes.Link.TheVariants.{First}
use Rattle.stage_nodes.specs.Forests.{Forest, Bin, sought}
use Rattle.stage_nodes.specs.Frames.{Frame, Below, Behind, plug, path_of, Fits, SoundUp}
use Rattle.stage_nodes.specs.Pools.{hanging}
use Rattle.stage_nodes.specs.Directories.{IsDirectory}
use Rattle.stage_nodes.specs.Leaves.{is_held}
use Rattle.stage_nodes.specs.Ways.{IsBlocked, IsDirOf, IsOpen, IsPlaceOf, IsWay, kids_of, named_first}
use Rattle.stage_nodes.specs.Walks.{IsStop, clear_below, if_open, is_clear, open_number}
use Rattle.stage_nodes.proofs.Order.{less_apart_back}
use Rattle.stage_nodes.proofs.Leaves.{fits_far}
use Rattle.stage_nodes.proofs.OnWay.{IsNamed, dir_in, named_of, nothing_blocks, one_longer, place_in, split_at, still_same}

-- a path that begins with the way and a component that fits is as clear as what is left of it at the place
pub clear_at : (P : Content → Bool) (up : List Frame) (X : Forest) (c d : Bytes) (r : Path) → SoundUp P up → Fits up c → is_clear (plug up X) (path_of up ++ c ∷ d ∷ r) ≡ is_clear X (c ∷ d ∷ r)
clear_at P [] X c d r u f = refl
clear_at P (Below k e m ∷ up) X c d r u f =
    ap (is_clear (plug up (Bin k e Open X m))) (append_assoc (path_of up) (e ∷ []) (c ∷ d ∷ r))
    ∙ clear_at P up (Bin k e Open X m) e c (d ∷ r) u.5 u.4
    ∙ ap (λ b. cond b (is_clear X (c ∷ d ∷ r)) (is_clear m (e ∷ c ∷ d ∷ r))) (same_bytes-self e)
clear_at P (Behind k e x l ∷ up) X c d r u f =
    clear_at P up (Bin k e x l X) c d r u.3 (fits_far [] P up e c u.2 f)
    ∙ ap (λ b. cond b (clear_below x (is_clear l (d ∷ r))) (is_clear X (c ∷ d ∷ r))) (less_apart_back e c f)

not_true : (b : Bool) → not b ≡ true → b ≡ false
not_true true h = absurd (Rattle.std.proofs.Common.true≢false (sym h))
not_true false h = refl

-- what is no open directory ends a clear way
held_blocks : (S : List Object) (s : Nodes) (q : Path) (c : Bytes) (link : Link) (child : Option ℕ) (here : IsPlaceOf S s q c link child) (d : Bytes) (r : Path) → is_clear (kids_of s) (q ++ c ∷ d ∷ r) ≡ true → None ≡ open_number s.cells.items child → IsBlocked c here.rest
held_blocks S s q c link None here d r clear none = nothing_blocks S s q c link None here refl
held_blocks S s q c link (Some j) here d r clear none =
    let m = named_of S s q c link j here in
    let n : IsNamed S s q c here.frames j = m.0 in
    subst (IsBlocked c) (sym m.1)
    (by n.content n.children n.siblings
    (sym (clear_at (is_held S) here.frames (Bin j c n.content n.children n.siblings) c d r here.here.sound_up here.fits)
    ∙ (λ i. is_clear (n.whole i) (n.path i ++ c ∷ d ∷ r)) ∙ clear)
    (none ∙ ap (option_and_then (λ v. if_open j v.content)) n.there ∙ ap (if_open j) n.cell.content))
  where
    by : (x : Content) (l w : Forest) → is_clear (Bin j c x l w) (c ∷ d ∷ r) ≡ true → None ≡ if_open j x → IsBlocked c (Bin j c x l w)
    by Open l w u v = absurd cc
    by (Held f) l w u v = inr (not_true (is_dir f.mode) (sym (ap (λ b. cond b (not (is_dir f.mode)) (is_clear w (c ∷ d ∷ r))) (same_bytes-self c)) ∙ u))

-- an open directory is gone through
open_goes : (S : List Object) (s : Nodes) (q : Path) (c : Bytes) (link : Link) (child : Option ℕ) (here : IsPlaceOf S s q c link child) (k : ℕ) → Some k ≡ open_number s.cells.items child → IsDirOf S s (q ++ c ∷ []) k
open_goes S s q c link None here k e = absurd cc
open_goes S s q c link (Some j) here k e =
    let n : IsNamed S s q c here.frames j = (named_of S s q c link j here).0 in
    let g = opened n.content (e ∙ ap (option_and_then (λ v. if_open j v.content)) n.there ∙ ap (if_open j) n.cell.content) in
    subst (IsDirOf S s (q ++ c ∷ [])) g.1 (dir_in S s q c here.frames j n g.0)
  where
    opened : (x : Content) → Some k ≡ if_open j x → (x ≡ Open) × (j ≡ k)
    opened Open h = (refl, cc)
    opened (Held f) h = absurd cc

pub number_inside : (S : List Object) (s : Nodes) (q : Path) (c : Bytes) (link : Link) (child : Option ℕ) → IsPlaceOf S s q c link child → IfSome child (λ k. k < length s.cells.items)
number_inside S s q c link None here = tt
number_inside S s q c link (Some j) here = let n = (named_of S s q c link j here).0 in slice_get_within s.cells.items j n.node n.there

module _ (S : List Object) (s : Nodes) (base : IsDirectory s 0 (kids_of s)) (p : Path) (k d : ℕ) (dir : IsDirOf S s (take k p) d) (c : Bytes) (within : k < length p) (own : c ≡ get_or p k c) (link : Link) (child : Option ℕ) (e : link ≡ sought c (First d) (hanging s (First d))) (f : child ≡ named_first c (hanging s link)) where
  pub here_at : IsPlaceOf S s (take k p) c link child
  here_at = place_in S s (take k p) d c link child base dir e f

  stops : (drop (k + 1) p ≡ []) ⊎ IsBlocked c here_at.rest → IsStop S s p k link child
  stops h = record {
    component = c;
    before = take k p;
    behind = drop (k + 1) p;
    path = split_at p k c within own;
    level_is = length-take k p ∙ omega arith;
    place = here_at;
    ended = h;
  }

  pub stop_last : k + 1 ≡ length p → IsStop S s p k link child
  stop_last h = stops (inl (drop_all (k + 1) p (omega arith)))

  pub stop_closed : is_clear (kids_of s) p ≡ true → None ≡ open_number s.cells.items child → IsStop S s p k link child
  stop_closed clear none = stops (by (drop (k + 1) p) refl)
    where
      by : (b : Path) → drop (k + 1) p ≡ b → (drop (k + 1) p ≡ []) ⊎ IsBlocked c here_at.rest
      by [] g = inl g
      by (b ∷ r) g = inr (held_blocks S s (take k p) c link child here_at b r (ap (is_clear (kids_of s)) (ap (λ (v : Path). take k p ++ c ∷ v) (sym g) ∙ split_at p k c within own) ∙ clear) none)

  pub goes_on : (j : ℕ) → Some j ≡ open_number s.cells.items child → IsDirOf S s (take (k + 1) p) j
  goes_on j h = subst (λ (q : Path). IsDirOf S s q j) (one_longer p k c within own) (open_goes S s (take k p) c link child here_at j h)

pub way_of : (S : List Object) (s : Nodes) (p : Path) (level : ℕ) (link : Link) (child : Option ℕ) → IsOpen S s → IsStop S s p level link child → IsWay S s s p level link child
way_of S s p level link child o h = record { still = still_same S s o; component = h.component; before = h.before; behind = h.behind; path = h.path; level_is = h.level_is; place = h.place; ended = h.ended }

pub stop_within : (S : List Object) (s : Nodes) (p : Path) (level : ℕ) (link : Link) (child : Option ℕ) → IsStop S s p level link child → level < length p
stop_within S s p level link child h = omega (arith, ap length h.path, length-append h.before (h.component ∷ h.behind), h.level_is)

pub way_within : (S : List Object) (s s' : Nodes) (p : Path) (level : ℕ) (link : Link) (child : Option ℕ) → IsWay S s s' p level link child → level < length p
way_within S s s' p level link child h = omega (arith, ap length h.path, length-append h.before (h.component ∷ h.behind), h.level_is)
