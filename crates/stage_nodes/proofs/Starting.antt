-- Where the search among a directory's children starts.
use Rattle.std.proofs.Common.{◌⊎◌, inl, inr, ◌≡◌, ℕ, ◌+◌, ◌-◌, ◌<◌, ◌≤◌, true, false, cond, ◌||◌, List, [], ◌∷◌, ◌++◌, length, length-append, get_or, Option, Some, refl, sym, ap, subst, ◌∙◌, arith, true≢false}
use Rattle.std.specs.Prelude.{slice_get, IfSome}
use Rattle.std.specs.Ordering.{is_lt, nat_cmp}
use Rattle.std.specs.Cmp.Lexicographic.{slice_cmp}
use Rattle.std.specs.declared.cmp.Ordering.TheVariants.{Less}
use Rattle.std.proofs.lemmas.Bool.Decides.{eqb_tells}
use Rattle.std.proofs.lemmas.Option.{slice_get_within, get_or_from_slice_get}
use Rattle.std.proofs.lemmas.List.{get_or_push}
use Rattle.git_objects.specs.Paths.{Bytes, same_bytes}
use Rattle.git_objects.specs.Entries.{AreEntries, dir_key, is_dir}
use Rattle.git_objects.specs.declared.entry.Entry.{Entry}
use Rattle.path_trees.specs.declared.found.Found.{Found}
use Rattle.path_trees.proofs.Gathering.{is_less}
use Rattle.stage_nodes.specs.declared.nodes.Node.{Node}
use Rattle.stage_nodes.specs.declared.nodes.Nodes.{Nodes}
use Rattle.stage_nodes.specs.declared.nodes.Content.{Content}
use Rattle.stage_nodes.specs.declared.nodes.Content.TheVariants.{Held}
use Rattle.stage_nodes.specs.declared.nodes.Link.TheVariants.{First, Next}
use Rattle.stage_nodes.specs.Forests.{Forest, Nil, Bin, count, Reads, forest, node_component, target, inserted, is_link, sought, bytes_cmp, Beyond, Sound}
use Rattle.stage_nodes.specs.Pools.{Walks, hanging, inside}
use Rattle.stage_nodes.specs.Directories.{any, has_number, IsAddedTo, IsDirectory}
use Rattle.stage_nodes.specs.Expanding.{IsLastBefore}
use Rattle.stage_nodes.proofs.Seeking.{IsBehindOf, sought_from, inside_link}
use Rattle.stage_nodes.proofs.Order.{bytes_kept, less_trans}
use Rattle.stage_nodes.proofs.Pools.{forest_is, walk_is}
use Rattle.stage_nodes.proofs.Freeing.{first_of, next_of}

-- a sibling of that number, in the vector
record IsChild (names : Bytes) (ns : List Node) (k : ℕ) (F : Forest) : Type 0 where
  node : Node
  there : slice_get ns k ≡ Some node
  within : node.at + node.len ≤ length names
  rest : Forest
  siblings : Reads names ns node.next rest
  fewer : (m : ℕ) → count m rest ≤ count m F
  behind : (c : Bytes) → is_lt (bytes_cmp (node_component names node) c) ≡ true → IsBehindOf c k F rest

-- siblings before it stand before whatever it stands before
before_too : (d c : Bytes) (k : ℕ) (r R : Forest) → Beyond d r → IsBehindOf c k r R → is_lt (bytes_cmp d c) ≡ true
before_too d c k Nil R b h = absurd h
before_too d c k (Bin j e x l r) R b h = ap is_lt (less_trans d e c b.0 (is_less (bytes_cmp e c) h.0))

child_there : (names : Bytes) (ns : List Node) (k : ℕ) (F : Forest) (i : Option ℕ) → Reads names ns i F → Sound any F → has_number k F ≡ true → IsChild names ns k F
child_there names ns k Nil i h s e = absurd (true≢false (sym e))
child_there names ns k (Bin j d x l r) i h s e =
    elim (eqb_tells k j) [
      | inl q ↦ record {
        node = h.node;
        there = ap (slice_get ns) q.1 ∙ h.there;
        within = h.cell.within;
        rest = r;
        siblings = h.siblings;
        fewer = λ m. omega arith;
        behind = λ c t. (ap (λ (b : Bytes). is_lt (bytes_cmp b c)) (sym h.cell.component) ∙ t, inl (sym q.1, refl));
      }
      | inr q ↦
          let g : IsChild names ns k r = child_there names ns k r h.node.next h.siblings s.3 (ap (λ b. b || has_number k r) (sym q.0) ∙ e) in
          record {
            node = g.node;
            there = g.there;
            within = g.within;
            rest = g.rest;
            siblings = g.siblings;
            fewer = λ m. omega (arith, g.fewer m);
            behind = λ c t. (before_too d c k r g.rest s.1 (g.behind c t), inr (g.behind c t));
          }
    ]

module _ (s : Nodes) (b : ℕ) (dir : IsDirectory s b (hanging s (First b))) where
  few : (m : ℕ) → count m (hanging s (First b)) ≤ inside s m
  few m = omega (arith, dir.apart m)

  pub first_link : is_link s.cells.items (First b) ≡ true
  first_link = inside_link s.names.items s.cells.items b (slice_get_within s.cells.items b dir.node dir.there)

  pub first_walk : Walks s (target s.cells.items (First b))
  first_walk = subst (λ (o : Option ℕ). Walks s o) (sym (first_of s.cells.items b dir.node dir.there)) (walk_is s.names.items s.cells.items dir.node.first (hanging s (First b)) dir.children few)

  module _ (o : Option ℕ) (some : IfSome o (λ k. has_number k (hanging s (First b)) ≡ true)) (k : ℕ) (is : o ≡ Some k) where
    child : has_number k (hanging s (First b)) ≡ true
    child = subst (λ (p : Option ℕ). IfSome p (λ i. has_number i (hanging s (First b)) ≡ true)) is some

    here : IsChild s.names.items s.cells.items k (hanging s (First b))
    here = child_there s.names.items s.cells.items k (hanging s (First b)) dir.node.first dir.children dir.sound child

    fewer : (m : ℕ) → count m here.rest ≤ inside s m
    fewer m = omega (arith, here.fewer m, few m)

    pub child_inside : k < length s.cells.items
    child_inside = slice_get_within s.cells.items k here.node here.there

    pub child_link : is_link s.cells.items (Next k) ≡ true
    child_link = inside_link s.names.items s.cells.items k child_inside

    next_is : target s.cells.items (Next k) ≡ here.node.next
    next_is = next_of s.cells.items k here.node here.there

    pub child_walk : Walks s (target s.cells.items (Next k))
    child_walk = subst (λ (o : Option ℕ). Walks s o) (sym next_is) (walk_is s.names.items s.cells.items here.node.next here.rest here.siblings fewer)

    hangs : hanging s (Next k) ≡ here.rest
    hangs = ap (forest s.names.items s.cells.items) next_is ∙ forest_is s.names.items s.cells.items here.node.next here.rest here.siblings fewer

    -- a search from a child that is known to stand before the component
    pub child_before : (c : Bytes) → ((n : Node) → slice_get s.cells.items k ≡ Some n → bytes_cmp (node_component s.names.items n) c ≡ Less) → sought c (Next k) (hanging s (Next k)) ≡ sought c (First b) (hanging s (First b))
    child_before c h =
        ap (sought c (Next k)) hangs
        ∙ sought_from c k (hanging s (First b)) here.rest (First b) (here.behind c (ap is_lt (h here.node here.there)))

    module _ (n : Node) (read : n ≡ get_or s.cells.items k n) where
      node_is : n ≡ here.node
      node_is = read ∙ get_or_from_slice_get s.cells.items k here.node n here.there

      pub child_within : n.at + n.len ≤ length s.names.items
      child_within = omega (arith, here.within, ap (λ (x : Node). x.at + x.len) node_is)

      -- a search from there ends where one from the first child does
      pub child_place : (c : Bytes) → is_lt (bytes_cmp (node_component s.names.items n) c) ≡ true → sought c (Next k) (hanging s (Next k)) ≡ sought c (First b) (hanging s (First b))
      child_place c t =
          ap (sought c (Next k)) hangs
          ∙ sought_from c k (hanging s (First b)) here.rest (First b) (here.behind c (ap (λ (x : Node). is_lt (bytes_cmp (node_component s.names.items x) c)) (sym node_is) ∙ t))

-- ---- the child that was added last

-- a sibling that was put in is in the vector
inserted_there : (names : Bytes) (ns : List Node) (c : Bytes) (k : ℕ) (x : Content) (l F : Forest) (i : Option ℕ) → Reads names ns i (inserted c k x l F) → (n : Node) × (slice_get ns k ≡ Some n) × (node_component names n ≡ c)
inserted_there names ns c k x l Nil i h = (h.node, h.there, h.cell.component)
inserted_there names ns c k x l (Bin j e y m r) i h =
    elim (is_lt (bytes_cmp e c)) as (λ t. Reads names ns i (cond t (Bin j e y m (inserted c k x l r)) (Bin k c x l (Bin j e y m r))) → (n : Node) × (slice_get ns k ≡ Some n) × (node_component names n ≡ c)) [
      | true ↦ λ g. inserted_there names ns c k x l r g.node.next g.siblings
      | false ↦ λ g. (g.node, g.there, g.cell.component)
    ] h

-- neighbouring entries
neighbours : (xs ys : List Entry) (d e : Entry) → AreEntries ((xs ++ d ∷ []) ++ e ∷ ys) → (slice_cmp nat_cmp (dir_key d.component (is_dir d.mode)) (dir_key e.component (is_dir e.mode)) ≡ Less) × (same_bytes d.component e.component ≡ false)
neighbours [] ys d e h = (h.1.0, h.1.1)
neighbours (x ∷ xs) ys d e h = neighbours xs ys d e h.2

-- the last of the numbers is that of the last entry's node, whose component has so many bytes
pub record IsLast (s : Nodes) (done : List Entry) (ks : List ℕ) (long : ℕ) : Type 0 where
  pub before : List Entry
  pub entry : Entry
  pub done_is : before ++ entry ∷ [] ≡ done
  pub front : List ℕ
  pub number : ℕ
  pub top : ks ≡ front ++ number ∷ []
  pub node : Node
  pub there : slice_get s.cells.items number ≡ Some node
  pub component : node_component s.names.items node ≡ entry.component
  pub long_is : long ≡ length entry.component

-- or there is none
abbrev pub MayBeLast : Nodes → List Entry → List ℕ → ℕ → Type 0
MayBeLast s done ks long = (ks ≡ []) ⊎ IsLast s done ks long

pub added_is_last : (s s' : Nodes) (b : ℕ) (f : Found) (k : ℕ) (before : List Entry) (e : Entry) (ks front : List ℕ) (long : ℕ) → IsAddedTo s s' b e.component f k → ks ≡ front ++ k ∷ [] → long ≡ length e.component → IsLast s' (before ++ e ∷ []) ks long
added_is_last s s' b f k before e ks front long a t l =
    let here = inserted_there s'.names.items s'.cells.items e.component k (Held f) Nil (hanging s (First b)) a.directory.node.first a.directory.children in
    record { before = before; entry = e; done_is = refl; front = front; number = k; top = t; node = here.0; there = here.1; component = here.2; long_is = l }

-- it comes before the next entry by the bytes of its component, where that one keeps behind it
pub last_before : (s : Nodes) (done rest : List Entry) (e : Entry) (ks : List ℕ) (long : ℕ) → MayBeLast s done ks long → AreEntries (done ++ e ∷ rest) → (is_dir e.mode ≡ true → long ≤ length e.component) → IsLastBefore s ks e.component
last_before s done rest e ks long (inl none) v g = λ k n l r t. absurd (omega (arith, l, ap length none))
last_before s done rest e ks long (inr h) v g = λ k n l r t.
    let number : k ≡ h.number = r ∙ (λ i. get_or (h.top i) (length (h.top i) - 1) k) ∙ get_or_push h.front h.number k (length (h.front ++ h.number ∷ []) - 1) (omega (arith, length-append h.front (h.number ∷ []))) in
    let node : n ≡ h.node = same_node s.cells.items h.number n h.node (ap (slice_get s.cells.items) (sym number) ∙ t) h.there in
    let next = neighbours h.before rest h.entry e (subst (λ (es : List Entry). AreEntries (es ++ e ∷ rest)) (sym h.done_is) v) in
    ap (λ (x : Node). bytes_cmp (node_component s.names.items x) e.component) node
    ∙ ap (λ (x : Bytes). bytes_cmp x e.component) h.component
    ∙ bytes_kept h.entry.component e.component (is_dir h.entry.mode) (is_dir e.mode) (λ d. omega (arith, g d, h.long_is)) next.0 next.1
  where
    same_node : (ns : List Node) (j : ℕ) (a d : Node) → slice_get ns j ≡ Some a → slice_get ns j ≡ Some d → a ≡ d
    same_node ns j a d p q = cc
