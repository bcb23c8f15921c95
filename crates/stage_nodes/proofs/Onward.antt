-- The way to a path from a link in the directory of its first components on.
use Rattle.std.proofs.Common.{◌≡◌, ℕ, ◌+◌, ◌<◌, ◌⊎◌, inl, inr, true, List, [], ◌∷◌, ◌++◌, length, take, drop, get_or, Option, Some, None, refl, sym, ap, subst, ◌∙◌, arith, length-append, length-take}
use Rattle.std.proofs.lemmas.List.{drop_all}
use Rattle.git_objects.specs.Paths.{Bytes, Path}
use Rattle.object_store.specs.Objects.{Object}
use Rattle.stage_nodes.specs.declared.nodes.Nodes.{Nodes}
use Rattle.stage_nodes.specs.declared.nodes.Link.{Link}
use Rattle.stage_nodes.specs.declared.nodes.Link.TheVariants.{First}
use Rattle.stage_nodes.specs.Forests.{is_link, sought, target}
use Rattle.stage_nodes.specs.Frames.{Frame, Below, Behind, AreSiblings, dirs_of, link_of, path_of}
use Rattle.stage_nodes.specs.Pools.{Walks, hanging}
use Rattle.stage_nodes.specs.Leaves.{is_held}
use Rattle.stage_nodes.specs.Ways.{IsBlocked, IsEntered, IsInside, IsOpen, IsPlaceOf, IsStart, IsStill, IsWayBy, named_first}
use Rattle.stage_nodes.proofs.OnWay.{at_root, one_longer, place_found, place_hangs, place_link, place_walk, split_at}
use Rattle.stage_nodes.proofs.Places.{IsFound, found_here}

-- siblings that are passed add no directory
pub dirs_siblings : (fs up : List Frame) → AreSiblings fs → dirs_of (fs ++ up) ≡ dirs_of up
dirs_siblings [] up h = refl
dirs_siblings (Below k c r ∷ fs) up h = absurd h
dirs_siblings (Behind k c x l ∷ fs) up h = dirs_siblings fs up h

-- there is a number for each directory on the way
pub dirs_long : (fs : List Frame) → length (dirs_of fs) ≡ length (path_of fs)
dirs_long [] = refl
dirs_long (Below k c r ∷ fs) = length-append (dirs_of fs) (k ∷ []) ∙ ap (λ n. n + 1) (dirs_long fs) ∙ sym (length-append (path_of fs) (c ∷ []))
dirs_long (Behind k c x l ∷ fs) = dirs_long fs

pub start_root : (S : List Object) (s : Nodes) (p : Path) → 0 < length p → IsOpen S s → IsStart S s p [] (First 0)
unfolding at_root
start_root S s p long o =
    let d = at_root S s o.directory o.sound in
    record { within = long; frames = d.frames; number = d.number; rest = d.kids; here = d.here; whole = d.whole; path = d.path; link_is = d.link_is; fits = λ c e. d.fits c; numbers = refl }

module _ (S : List Object) (s : Nodes) (p : Path) (ns : List ℕ) (start : Link) (o : IsOpen S s) (h : IsStart S s p ns start) where
  pub start_link : is_link s.cells.items start ≡ true
  start_link = ap (is_link s.cells.items) h.link_is ∙ place_link S s o.directory h.frames h.number h.rest h.here.reads_up h.here.reads h.whole

  pub start_walk : Walks s (target s.cells.items start)
  start_walk = subst (λ (l : Link). Walks s (target s.cells.items l)) (sym h.link_is) (place_walk S s o.directory h.frames h.number h.rest h.here.reads_up h.here.reads h.whole)

  module _ (c : Bytes) (own : c ≡ get_or p (length ns) c) (link : Link) (child : Option ℕ) (e : link ≡ sought c start (hanging s start)) (f : child ≡ named_first c (hanging s link)) where
    found : IsFound (is_held S) s.names.items s.cells.items 0 c h.frames h.rest
    found = found_here (is_held S) s.names.items s.cells.items 0 c h.rest h.frames h.number h.here (h.fits c own)

    at_link : link ≡ link_of 0 found.frames
    at_link =
        e ∙ (λ i. sought c (h.link_is i) (hanging s (h.link_is i)))
        ∙ ap (sought c (link_of 0 h.frames)) (place_hangs S s o.directory h.frames h.number h.rest h.here.reads_up h.here.reads h.whole) ∙ sym found.link

    pub place_on : IsPlaceOf S s (take (length ns) p) c link child
    place_on = place_found S s (take (length ns) p) c link child h.frames h.rest o.directory found h.whole h.path at_link f

    pub numbers_on : dirs_of place_on.frames ≡ ns
    unfolding place_found place_on
    numbers_on = ap dirs_of found.frames_are ∙ dirs_siblings found.passed h.frames found.siblings ∙ h.numbers

    module _ (s0 : Nodes) (still : IsStill S s0 s) where
      ends : (drop (length ns + 1) p ≡ []) ⊎ IsBlocked c place_on.rest → IsWayBy S s0 s p ns (length ns) link child
      ends b = record {
        way = record {
          still = still;
          component = c;
          before = take (length ns) p;
          behind = drop (length ns + 1) p;
          path = split_at p (length ns) c h.within own;
          level_is = length-take (length ns) p ∙ (let w = h.within in omega (arith, w));
          place = place_on;
          ended = b;
        };
        numbers = numbers_on;
      }

      pub on_last : length ns + 1 ≡ length p → IsWayBy S s0 s p ns (length ns) link child
      on_last g = ends (inl (drop_all (length ns + 1) p (omega (arith, g))))

      pub on_blocked : (s' : Nodes) → IsEntered S s s' child None → IsWayBy S s0 s' p ns (length ns) link child
      on_blocked s' g = subst (λ (v : Nodes). IsWayBy S s0 v p ns (length ns) link child) (sym g.0) (ends (inr (g.1 (take (length ns) p) c link place_on)))

    pub on_entered : (s' : Nodes) (d : ℕ) → length ns + 1 < length p → IsEntered S s s' child (Some d) → IsStart S s' p (ns ++ d ∷ []) (First d)
    on_entered s' d long g =
        let i : IsInside S s' (take (length ns) p ++ c ∷ []) (dirs_of place_on.frames ++ d ∷ []) d = g.1 (take (length ns) p) c link place_on in
        let n : length (ns ++ d ∷ []) ≡ length ns + 1 = length-append ns (d ∷ []) in
        record {
          within = omega (arith, n, long);
          frames = i.directory.frames;
          number = i.directory.number;
          rest = i.directory.kids;
          here = i.directory.here;
          whole = i.directory.whole;
          path = i.directory.path ∙ one_longer p (length ns) c h.within own ∙ ap (λ k. take k p) (sym n);
          link_is = i.directory.link_is;
          fits = λ b e. i.directory.fits b;
          numbers = i.numbers ∙ ap (λ (ms : List ℕ). ms ++ d ∷ []) numbers_on;
        }
