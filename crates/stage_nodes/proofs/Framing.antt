-- What is read stays, where the nodes that it reaches stay.
use Rattle.std.proofs.Common.{◌≡◌, ℕ, ◌+◌, ◌<◌, ◌≤◌, ◌≢◌, inl, inr, ◌==◌, List, [], ◌∷◌, Option, Some, None, refl, sym, ap, subst, ◌∙◌, arith}
use Rattle.std.specs.Prelude.{slice_get, slice_set}
use Rattle.std.proofs.lemmas.Bool.Decides.{eqb_tells}
use Rattle.git_objects.specs.Paths.{Bytes}
use Rattle.stage_nodes.specs.declared.nodes.Node.{Node}
use Rattle.stage_nodes.specs.declared.nodes.Content.{Content}
use Rattle.stage_nodes.specs.declared.nodes.Content.TheVariants.{Open}
use Rattle.stage_nodes.specs.Forests.{Forest, Nil, Bin, one, count, IsCell, Reads, target}
use Rattle.stage_nodes.specs.Frames.{Frame, Below, Behind, plug, link_of, count_up, IsBase, ReadsUp, written, pointed}
use Rattle.stage_nodes.specs.Pools.{IsKept}
use Rattle.stage_nodes.proofs.Lists.{got_set, got_other, range_front}

-- ---- numbers

pub one_self : (k : ℕ) → one (k == k) ≡ 1
one_self k = elim (eqb_tells k k) [ inl e ↦ ap one e.0 | inr e ↦ absurd (e.1 refl) ]

pub one_other : (n k : ℕ) → n ≢ k → one (n == k) ≡ 0
one_other n k h = elim (eqb_tells n k) [ inl e ↦ absurd (h e.1) | inr e ↦ ap one e.0 ]

pub cell_kept : (names names' : Bytes) → IsKept names names' → (n : Node) (c : Bytes) (x : Content) → IsCell names n c x → IsCell names' n c x
cell_kept names names' k n c x h =
    subst (λ (b : Bytes). IsCell b n c x) k.front
    (record {
      within = omega (arith, h.within, Rattle.std.proofs.Common.length-append names k.more);
      component = range_front names k.more n.at n.len h.within ∙ h.component;
      content = h.content;
    })

pub same_names : (names : Bytes) → IsKept names names
same_names names = record { more = []; front = Rattle.std.proofs.Common.append-nil names }

module _ (names names' : Bytes) (kept : IsKept names names') (ns ns' : List Node) where
  -- the nodes of these numbers are as they were
  abbrev pub Stay : (ℕ → ℕ) → Type 0
  Stay owned = (m : ℕ) (n : Node) → 0 < owned m → slice_get ns m ≡ Some n → slice_get ns' m ≡ Some n

  pub reads_kept : (F : Forest) (i : Option ℕ) → Stay (λ m. count m F) → Reads names ns i F → Reads names' ns' i F
  reads_kept Nil i s h = h
  reads_kept (Bin k c x l r) i s h = record {
    number = h.number;
    node = h.node;
    there = s k h.node (omega (arith, one_self k)) h.there;
    cell = cell_kept names names' kept h.node c x h.cell;
    children = reads_kept l h.node.first (λ m n g. s m n (omega arith)) h.children;
    siblings = reads_kept r h.node.next (λ m n g. s m n (omega arith)) h.siblings;
  }

  pub up_kept : (b : ℕ) (up : List Frame) (j : Option ℕ) → Stay (λ m. one (m == b) + count_up m up) → ReadsUp names ns b up j → ReadsUp names' ns' b up j
  up_kept b [] j s h = record { node = h.node; there = s b h.node (omega (arith, one_self b)) h.there; opened = h.opened; first = h.first }
  up_kept b (Below k c r ∷ up) j s h = record {
    node = h.node;
    there = s k h.node (omega (arith, one_self k)) h.there;
    cell = cell_kept names names' kept h.node c Open h.cell;
    first = h.first;
    siblings = reads_kept r h.node.next (λ m n g. s m n (omega arith)) h.siblings;
    up = up_kept b up (Some k) (λ m n g. s m n (omega arith)) h.up;
  }
  up_kept b (Behind k c x l ∷ up) j s h = record {
    node = h.node;
    there = s k h.node (omega (arith, one_self k)) h.there;
    cell = cell_kept names names' kept h.node c x h.cell;
    children = reads_kept l h.node.first (λ m n g. s m n (omega arith)) h.children;
    next = h.next;
    up = up_kept b up (Some k) (λ m n g. s m n (omega arith)) h.up;
  }

-- ---- one node written

pub stay_written : (ns : List Node) (k : ℕ) (n' : Node) (owned : ℕ → ℕ) → owned k ≡ 0 → (m : ℕ) (n : Node) → 0 < owned m → slice_get ns m ≡ Some n → slice_get (slice_set ns k n') m ≡ Some n
stay_written ns k n' owned z m n g e = got_other ns k m n' (λ same. absurd (omega (arith, ap owned same))) ∙ e

-- the number of the node that holds the link
abbrev pub holder : ℕ → List Frame → ℕ
holder b [] = b
holder b (Below k c r ∷ up) = k
holder b (Behind k c x l ∷ up) = k

pub owner_there : (b : ℕ) (up : List Frame) → 0 < one (holder b up == b) + count_up (holder b up) up
owner_there b [] = omega (arith, one_self b)
owner_there b (Below k c r ∷ up) = omega (arith, one_self k)
owner_there b (Behind k c x l ∷ up) = omega (arith, one_self k)

pub target_up : (names : Bytes) (ns : List Node) (b : ℕ) (up : List Frame) (j : Option ℕ) → ReadsUp names ns b up j → target ns (link_of b up) ≡ j
target_up names ns b [] j h = ap (Rattle.std.specs.Option.option_and_then (λ (n : Node). n.first)) h.there ∙ h.first
target_up names ns b (Below k c r ∷ up) j h = ap (Rattle.std.specs.Option.option_and_then (λ (n : Node). n.first)) h.there ∙ h.first
target_up names ns b (Behind k c x l ∷ up) j h = ap (Rattle.std.specs.Option.option_and_then (λ (n : Node). n.next)) h.there ∙ h.next

-- the link to a place written
pub up_pointed : (names : Bytes) (ns : List Node) (b : ℕ) (up : List Frame) (j i : Option ℕ) → one (holder b up == b) + count_up (holder b up) up ≤ 1 → ReadsUp names ns b up j → ReadsUp names (pointed ns (link_of b up) i) b up i
up_pointed names ns b [] j i d h = subst (λ (v : List Node). IsBase v b i) (sym (ap (written ns b (λ n. record n { first = i })) h.there)) (record {
  node = record h.node { first = i };
  there = got_set ns b h.node (record h.node { first = i }) h.there;
  opened = h.opened;
  first = refl;
})
up_pointed names ns b (Below k c r ∷ up) j i d h =
    let new : Node = record h.node { first = i } in
    subst (λ (v : List Node). ReadsUp names v b (Below k c r ∷ up) i) (sym (ap (written ns k (λ n. record n { first = i })) h.there))
    (record {
      node = new;
      there = got_set ns k h.node new h.there;
      cell = record { within = h.cell.within; component = h.cell.component; content = h.cell.content };
      first = refl;
      siblings = reads_kept names names (same_names names) ns (slice_set ns k new) r h.node.next (stay_written ns k new (λ m. count m r) (omega (arith, one_self k))) h.siblings;
      up = up_kept names names (same_names names) ns (slice_set ns k new) b up (Some k) (stay_written ns k new (λ m. one (m == b) + count_up m up) (omega (arith, one_self k))) h.up;
    })
up_pointed names ns b (Behind k c x l ∷ up) j i d h =
    let new : Node = record h.node { next = i } in
    subst (λ (v : List Node). ReadsUp names v b (Behind k c x l ∷ up) i) (sym (ap (written ns k (λ n. record n { next = i })) h.there))
    (record {
      node = new;
      there = got_set ns k h.node new h.there;
      cell = record { within = h.cell.within; component = h.cell.component; content = h.cell.content };
      next = refl;
      children = reads_kept names names (same_names names) ns (slice_set ns k new) l h.node.first (stay_written ns k new (λ m. count m l) (omega (arith, one_self k))) h.children;
      up = up_kept names names (same_names names) ns (slice_set ns k new) b up (Some k) (stay_written ns k new (λ m. one (m == b) + count_up m up) (omega (arith, one_self k))) h.up;
    })

pub stay_pointed : (ns : List Node) (b : ℕ) (up : List Frame) (i : Option ℕ) (owned : ℕ → ℕ) → owned (holder b up) ≡ 0 → (m : ℕ) (n : Node) → 0 < owned m → slice_get ns m ≡ Some n → slice_get (pointed ns (link_of b up) i) m ≡ Some n
stay_pointed ns b [] i owned z m n g e = by (slice_get ns b)
  where
    by : (o : Option Node) → slice_get (written ns b (λ n. record n { first = i }) o) m ≡ Some n
    by None = e
    by (Some h) = stay_written ns b (record h { first = i }) owned z m n g e
stay_pointed ns b (Below k c r ∷ up) i owned z m n g e = by (slice_get ns k)
  where
    by : (o : Option Node) → slice_get (written ns k (λ n. record n { first = i }) o) m ≡ Some n
    by None = e
    by (Some h) = stay_written ns k (record h { first = i }) owned z m n g e
stay_pointed ns b (Behind k c x l ∷ up) i owned z m n g e = by (slice_get ns k)
  where
    by : (o : Option Node) → slice_get (written ns k (λ n. record n { next = i }) o) m ≡ Some n
    by None = e
    by (Some h) = stay_written ns k (record h { next = i }) owned z m n g e

-- ---- a forest put at the place

pub count_plug : (n : ℕ) (up : List Frame) (X : Forest) → count n (plug up X) ≡ count_up n up + count n X
count_plug n [] X = omega arith
count_plug n (Below k c r ∷ up) X = count_plug n up (Bin k c Open X r) ∙ omega arith
count_plug n (Behind k c x l ∷ up) X = count_plug n up (Bin k c x l X) ∙ omega arith

-- the children of the directory where the way began
pub record ReadsAll (names : Bytes) (ns : List Node) (b : ℕ) (K : Forest) : Type 0 where
  pub node : Node
  pub there : slice_get ns b ≡ Some node
  pub opened : node.content ≡ Open
  pub children : Reads names ns node.first K

pub reads_plug : (names : Bytes) (ns : List Node) (b : ℕ) (up : List Frame) (j : Option ℕ) (X : Forest) → ReadsUp names ns b up j → Reads names ns j X → ReadsAll names ns b (plug up X)
reads_plug names ns b [] j X h g = record { node = h.node; there = h.there; opened = h.opened; children = subst (λ (i : Option ℕ). Reads names ns i X) (sym h.first) g }
reads_plug names ns b (Below k c r ∷ up) j X h g = reads_plug names ns b up (Some k) (Bin k c Open X r) h.up (record {
  number = refl;
  node = h.node;
  there = h.there;
  cell = h.cell;
  children = subst (λ (i : Option ℕ). Reads names ns i X) (sym h.first) g;
  siblings = h.siblings;
})
reads_plug names ns b (Behind k c x l ∷ up) j X h g = reads_plug names ns b up (Some k) (Bin k c x l X) h.up (record {
  number = refl;
  node = h.node;
  there = h.there;
  cell = h.cell;
  children = h.children;
  siblings = subst (λ (i : Option ℕ). Reads names ns i X) (sym h.next) g;
})
