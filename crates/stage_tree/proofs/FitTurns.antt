-- Paths measured node by node.
use Rattle.std.proofs.Common.{◌≡◌, ℕ, ◌+◌, ◌-◌, ◌<◌, ◌≤◌, Bool, true, false, ◌&&◌, List, [], ◌∷◌, ◌++◌, length, length-take, drop, min, get_or, Option, Some, None, refl, sym, ap, ◌∙◌, arith}
use Rattle.std.specs.Prelude.{nat_le, slice_get}
use Rattle.std.proofs.lemmas.List.{length-drop}
use Rattle.std.proofs.lemmas.Option.{slice_get_read}
use Rattle.object_store.specs.Objects.{Object}
use Rattle.stage_nodes.specs.declared.nodes.Node.{Node}
use Rattle.stage_nodes.specs.declared.nodes.Nodes.{Nodes}
use Rattle.stage_nodes.specs.declared.nodes.Content.{Content}
use Rattle.stage_nodes.specs.declared.nodes.Content.TheVariants.{Held, Open}
use Rattle.path_trees.specs.declared.found.Found.{Found}
use Rattle.stage_nodes.specs.declared.nodes.Link.{Link}
use Rattle.stage_nodes.specs.declared.nodes.Link.TheVariants.{First, Next}
use Rattle.stage_tree.specs.declared.limits.Measure.{Measure}
use Rattle.std.proofs.lemmas.Bool.Decides.{nat_tests}
use Rattle.stage_nodes.specs.Forests.{is_link, node_component, target}
use Rattle.stage_nodes.specs.Pools.{hanging}
use Rattle.stage_tree.specs.Counts.{IsCountable}
use Rattle.stage_tree.specs.Limits.{content_fits, fits_in, weight}
use Rattle.stage_nodes.proofs.Seeking.{IsPassed, ended}
use Rattle.stage_tree.proofs.CountTurns.{count_passed}
use Rattle.stage_tree.proofs.Fits.{le_false, le_true}

pub and_assoc : (a b c : Bool) → (a && b) && c ≡ a && (b && c)
and_assoc true b c = refl
and_assoc false b c = refl

abbrev pub len_of : Option Node → ℕ
len_of None = 0
len_of (Some n) = n.len

pub and_true : (b : Bool) → b && true ≡ b
and_true true = refl
and_true false = refl

pub component_len : (names : Rattle.git_objects.specs.Paths.Bytes) (n : Node) → n.at + n.len ≤ length names → length (node_component names n) ≡ n.len
component_len names n h = let e : min (n.at + n.len - n.at) (length names - n.at) ≡ n.len = omega arith in length-take (n.at + n.len - n.at) (drop n.at names) ∙ ap (min (n.at + n.len - n.at)) (length-drop n.at names) ∙ e

pub inside_of : (ns : List Node) (k : ℕ) → is_link ns (Next k) ≡ true → k < length ns
inside_of ns k h = grind (arith, nat_tests)

module _ (m : Measure) (S : List Object) (s : Nodes) where
  -- what a directory's component takes
  abbrev pub own : ℕ → ℕ
  own k = weight m (len_of (slice_get s.cells.items k))

  abbrev pub taken : List ℕ → ℕ
  taken [] = 0
  taken (k ∷ ks) = own k + taken ks

  -- whether the paths behind the directories that were entered fit
  abbrev pub later : List ℕ → ℕ → Bool
  later [] room = true
  later (k ∷ ks) room = later ks room && fits_in m S (room + taken ks + own k) (hanging s (Next k))

  pub taken_more : (ks : List ℕ) (k : ℕ) → taken (ks ++ k ∷ []) ≡ taken ks + own k
  taken_more [] k = omega arith
  taken_more (i ∷ ks) k = omega (arith, taken_more ks k)

  pub later_more : (ks : List ℕ) (k room : ℕ) → later (ks ++ k ∷ []) room ≡ fits_in m S (room + own k) (hanging s (Next k)) && later ks (room + own k)
  later_more [] k room =
      let same : room + 0 + own k ≡ room + own k = omega arith in
      ap (λ r. fits_in m S r (hanging s (Next k))) same ∙ sym (and_true (fits_in m S (room + own k) (hanging s (Next k))))
  later_more (i ∷ ks) k room =
      let same : room + taken (ks ++ k ∷ []) + own i ≡ room + own k + taken ks + own i = omega (arith, taken_more ks k) in
      (λ v. later_more ks k room v && fits_in m S (same v) (hanging s (Next i)))
      ∙ and_assoc (fits_in m S (room + own k) (hanging s (Next k))) (later ks (room + own k)) (fits_in m S (room + own k + taken ks + own i) (hanging s (Next i)))

  pub own_read : (k : ℕ) (n : Node) → k < length s.cells.items → n ≡ get_or s.cells.items k n → own k ≡ weight m n.len
  own_read k n h read = ap (λ (o : Option Node). weight m (len_of o)) (slice_get_read s.cells.items (length s.cells.items) k n refl h read)

  pub fits_end : (link : Link) (room : ℕ) → target s.cells.items link ≡ None → fits_in m S room (hanging s link) ≡ true
  fits_end link room e = ap (fits_in m S room) (ended s.names.items s.cells.items link e)

  module _ (link : Link) (h : IsCountable S s link) (k : ℕ) (e : Some k ≡ target s.cells.items link) (n : Node) (read : n ≡ get_or s.cells.items k n) where
    abbrev passed : IsPassed s.names.items s.cells.items link k n
    passed = count_passed S s None link h k e n read

    there : slice_get s.cells.items k ≡ Some n
    there = slice_get_read s.cells.items (length s.cells.items) k n refl passed.inside read

    pub own_is : own k ≡ weight m n.len
    own_is = ap (λ (o : Option Node). weight m (len_of o)) there

    -- what hangs at the link
    fits_here : (room : ℕ) → fits_in m S room (hanging s link) ≡ nat_le (weight m n.len) room && content_fits m S (room - weight m n.len) n.content (fits_in m S (room - weight m n.len) (hanging s (First k))) && fits_in m S room (hanging s (Next k))
    fits_here room =
        ap (fits_in m S room) passed.opened
        ∙ (λ i. nat_le (weight m (component_len s.names.items n passed.within i)) room && content_fits m S (room - weight m (component_len s.names.items n passed.within i)) n.content (fits_in m S (room - weight m (component_len s.names.items n passed.within i)) (passed.below i)) && fits_in m S room (hanging s (Next k)))

    pub too_heavy : (room : ℕ) (b : Bool) → room < weight m n.len → false ≡ fits_in m S room (hanging s link) && b
    too_heavy room b h = sym (ap (λ v. v && b) (fits_here room ∙ ap (λ v. v && content_fits m S (room - weight m n.len) n.content (fits_in m S (room - weight m n.len) (hanging s (First k))) && fits_in m S room (hanging s (Next k))) (le_false (weight m n.len) room h)))

    light : (room : ℕ) → weight m n.len ≤ room → fits_in m S room (hanging s link) ≡ content_fits m S (room - weight m n.len) n.content (fits_in m S (room - weight m n.len) (hanging s (First k))) && fits_in m S room (hanging s (Next k))
    light room h = fits_here room ∙ ap (λ v. v && content_fits m S (room - weight m n.len) n.content (fits_in m S (room - weight m n.len) (hanging s (First k))) && fits_in m S room (hanging s (Next k))) (le_true (weight m n.len) room h)

    -- a leaf or a stored directory
    pub held_heavy : (room : ℕ) (b : Bool) (f : Found) → weight m n.len ≤ room → n.content ≡ Held f → content_fits m S (room - weight m n.len) (Held f) true ≡ false → false ≡ fits_in m S room (hanging s link) && b
    held_heavy room b f h x g =
        sym (ap (λ v. v && b) (light room h
        ∙ ap (λ (y : Content). content_fits m S (room - weight m n.len) y (fits_in m S (room - weight m n.len) (hanging s (First k))) && fits_in m S room (hanging s (Next k))) x
        ∙ ap (λ v. v && fits_in m S room (hanging s (Next k))) g))

    pub held_light : (room : ℕ) (b : Bool) (f : Found) → weight m n.len ≤ room → n.content ≡ Held f → content_fits m S (room - weight m n.len) (Held f) true ≡ true → fits_in m S room (hanging s (Next k)) && b ≡ fits_in m S room (hanging s link) && b
    held_light room b f h x g =
        sym (ap (λ v. v && b) (light room h
        ∙ ap (λ (y : Content). content_fits m S (room - weight m n.len) y (fits_in m S (room - weight m n.len) (hanging s (First k))) && fits_in m S room (hanging s (Next k))) x
        ∙ ap (λ v. v && fits_in m S room (hanging s (Next k))) g))

    -- a directory that is entered
    pub open_light : (room : ℕ) (ks : List ℕ) → weight m n.len ≤ room → n.content ≡ Open → fits_in m S (room - weight m n.len) (hanging s (First k)) && later (ks ++ k ∷ []) (room - weight m n.len) ≡ fits_in m S room (hanging s link) && later ks room
    open_light room ks h x =
        let same : room - weight m n.len + own k ≡ room = omega (arith, own_is) in
        ap (λ v. fits_in m S (room - weight m n.len) (hanging s (First k)) && v) (later_more ks k (room - weight m n.len) ∙ (λ i. fits_in m S (same i) (hanging s (Next k)) && later ks (same i)))
        ∙ sym (and_assoc (fits_in m S (room - weight m n.len) (hanging s (First k))) (fits_in m S room (hanging s (Next k))) (later ks room))
        ∙ sym (ap (λ v. v && later ks room) (light room h ∙ ap (λ (y : Content). content_fits m S (room - weight m n.len) y (fits_in m S (room - weight m n.len) (hanging s (First k))) && fits_in m S room (hanging s (Next k))) x))

  -- a directory that is left
  pub left_behind : (link : Link) (room : ℕ) (ks : List ℕ) (k : ℕ) (n : Node) → target s.cells.items link ≡ None → k < length s.cells.items → n ≡ get_or s.cells.items k n →
      fits_in m S (room + weight m n.len) (hanging s (Next k)) && later ks (room + weight m n.len) ≡ fits_in m S room (hanging s link) && later (ks ++ k ∷ []) room
  left_behind link room ks k n e h read =
      let is : own k ≡ weight m n.len = own_read k n h read in
      (λ i. fits_in m S (room + sym is i) (hanging s (Next k)) && later ks (room + sym is i))
      ∙ sym (later_more ks k room)
      ∙ sym (ap (λ v. v && later (ks ++ k ∷ []) room) (fits_end link room e))
