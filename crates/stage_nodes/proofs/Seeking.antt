-- One sibling passed.
use Rattle.std.proofs.Common.{◌⊎◌, inl, inr, ◌≡◌, ℕ, ◌+◌, ◌<◌, ◌≤◌, true, false, cond, List, length, get_or, Option, Some, None, sym, ap, subst, ◌∙◌, arith}
use Rattle.std.specs.Prelude.{slice_get, nat_lt}
use Rattle.std.specs.Option.{option_and_then}
use Rattle.std.specs.Ordering.{is_lt}
use Rattle.std.proofs.lemmas.Option.{slice_get_within, get_or_from_slice_get}
use Rattle.git_objects.specs.Paths.{Bytes}
use Rattle.stage_nodes.specs.declared.nodes.Node.{Node}
use Rattle.stage_nodes.specs.declared.nodes.Link.{Link}
use Rattle.stage_nodes.specs.declared.nodes.Link.TheVariants.{First, Next}
use Rattle.stage_nodes.specs.Forests.{Forest, Nil, Bin, size, node_component, forest, forest_behind, IsWalk, target, is_link, sought, bytes_cmp}
use Rattle.stage_nodes.proofs.Reading.{IsStep, step, forest_none}

pub record IsPassed (names : Bytes) (ns : List Node) (link : Link) (k : ℕ) (node : Node) : Type 0 where
  pub inside : k < length ns
  pub within : node.at + node.len ≤ length names
  pub opened : forest_behind names ns link ≡ Bin k (node_component names node) node.content (forest names ns node.first) (forest_behind names ns (Next k))
  pub walk : IsWalk names ns (target ns (Next k))
  pub children : IsWalk names ns (target ns (First k))
  pub below : forest names ns node.first ≡ forest_behind names ns (First k)

passed_node : (names : Bytes) (ns : List Node) (link : Link) (k : ℕ) → target ns link ≡ Some k → (s : IsStep names ns k) → IsPassed names ns link k s.node
passed_node names ns link k e s =
    let next : target ns (Next k) ≡ s.node.next = ap (option_and_then (λ (n : Node). n.next)) s.there in
    let first : target ns (First k) ≡ s.node.first = ap (option_and_then (λ (n : Node). n.first)) s.there in
    record {
      inside = slice_get_within ns k s.node s.there;
      within = s.within;
      opened = ap (forest names ns) e ∙ s.opened ∙ ap (λ i. Bin k (node_component names s.node) s.node.content (forest names ns s.node.first) (forest names ns i)) (sym next);
      walk = subst (λ (i : Option ℕ). IsWalk names ns i) (sym next) s.siblings;
      children = subst (λ (i : Option ℕ). IsWalk names ns i) (sym first) s.children;
      below = ap (forest names ns) (sym first);
    }

pub passed_at : (names : Bytes) (ns : List Node) (link : Link) (k : ℕ) → target ns link ≡ Some k → IsWalk names ns (target ns link) → (n : Node) × (slice_get ns k ≡ Some n) × IsPassed names ns link k n
passed_at names ns link k e h = let s = step names ns k (subst (λ (i : Option ℕ). IsWalk names ns i) e h) in (s.node, s.there, passed_node names ns link k e s)

-- the same, of the node that was read
pub passed : (names : Bytes) (ns : List Node) (link : Link) (k : ℕ) (n : Node) → Some k ≡ target ns link → IsWalk names ns (target ns link) → n ≡ get_or ns k n → IsPassed names ns link k n
passed names ns link k n e h r = let p = passed_at names ns link k (sym e) h in subst (IsPassed names ns link k) (sym (r ∙ get_or_from_slice_get ns k p.0 n p.1)) p.2

pub ended : (names : Bytes) (ns : List Node) (link : Link) → target ns link ≡ None → forest_behind names ns link ≡ Nil
ended names ns link e = ap (forest names ns) e ∙ forest_none names ns

pub inside_link : (names : Bytes) (ns : List Node) (k : ℕ) → k < length ns → nat_lt k (length ns) ≡ true
inside_link names ns k h = search (Rattle.std.proofs.Common.tests, Rattle.std.proofs.Common.rules)

module _ (names : Bytes) (ns : List Node) (c : Bytes) (link : Link) (k : ℕ) (n : Node) (p : IsPassed names ns link k n) where
  pub passed_smaller : size (forest_behind names ns (Next k)) < size (forest_behind names ns link)
  passed_smaller = omega (arith, ap size p.opened)

  pub passed_before : is_lt (bytes_cmp (node_component names n) c) ≡ true → sought c (Next k) (forest_behind names ns (Next k)) ≡ sought c link (forest_behind names ns link)
  passed_before h = sym (ap (sought c link) p.opened ∙ ap (λ b. cond b (sought c (Next k) (forest_behind names ns (Next k))) link) h)

  pub passed_not : is_lt (bytes_cmp (node_component names n) c) ≡ false → sought c link (forest_behind names ns link) ≡ link
  passed_not h = ap (sought c link) p.opened ∙ ap (λ b. cond b (sought c (Next k) (forest_behind names ns (Next k))) link) h

  pub passed_link : is_link ns (Next k) ≡ true
  passed_link = inside_link names ns k p.inside

-- ---- a search that starts further on

-- the siblings behind a node of that number, of which all up to it stand before the component
abbrev pub IsBehindOf : Bytes → ℕ → Forest → Forest → Type 0
IsBehindOf c h Nil R = ⊥
IsBehindOf c h (Bin k d x l r) R = (is_lt (bytes_cmp d c) ≡ true) × (((k ≡ h) × (r ≡ R)) ⊎ IsBehindOf c h r R)

-- A search from a sibling that stands before the component ends where one from the first sibling does. So a hint at the
-- child that was found last, wherever it is kept, is seen by no contract.
pub sought_from : (c : Bytes) (h : ℕ) (F R : Forest) (link : Link) → IsBehindOf c h F R → sought c (Next h) R ≡ sought c link F
sought_from c h Nil R link b = absurd b
sought_from c h (Bin k d x l r) R link b =
    elim b.1 as (λ u. sought c (Next h) R ≡ cond (is_lt (bytes_cmp d c)) (sought c (Next k) r) link) [
      | inl e ↦ (λ i. sought c (Next (sym e.0 i)) (sym e.1 i)) ∙ sym (ap (λ t. cond t (sought c (Next k) r) link) b.0)
      | inr e ↦ sought_from c h r R (Next k) e ∙ sym (ap (λ t. cond t (sought c (Next k) r) link) b.0)
    ]
