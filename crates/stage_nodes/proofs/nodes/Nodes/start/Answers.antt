use Rattle.std.proofs.Common.{◌≡◌, ◌-◌, ◌<◌, ℕ, true, length, get_or, Some, sym, ap, subst, ◌∙◌, refl, arith}
use Rattle.std.proofs.lemmas.List.Elements.{All-get_or}
use Rattle.stage_nodes.specs.declared.nodes.Link.TheVariants.{First}
use Rattle.stage_nodes.specs.Directories.{has_number}
use Rattle.stage_nodes.specs.Pools.{hanging}
use Rattle.stage_nodes.proofs.Starting.{child_inside, child_within, child_link, child_walk, child_place, child_before}
use Rattle.stage_nodes.proofs.nodes.Nodes.start.Goals as goal

pub returns-then-not-is_empty-clause-place : goal.returns-then-not-is_empty-clause-place
returns-then-not-is_empty-clause-place c =
    let s = c.args.self.now in
    let b = c.args.directory in
    let k = c.index.result.now in
    let within : c.len.result - 1 < length c.args.children.now.items = grind (arith, c.if-not-is_empty, c.is_empty.ensures, c.len.ensures) in
    let is : has_number k (hanging s (First b)) ≡ true = subst (λ (j : ℕ). has_number j (hanging s (First b)) ≡ true) (sym c.index.ensures) (All-get_or (λ j. has_number j (hanging s (First b)) ≡ true) c.args.children.now.items (c.len.result - 1) k within c.requires.children) in
    let long : c.len.result ≡ length c.args.children.now.items = grind (arith, c.len.ensures) in
    child_before s b c.requires.directory (Some k) is k refl c.args.component.now (λ n h. c.requires.last (cc) k n (omega (arith, within)) (c.index.ensures ∙ ap (λ (j : ℕ). get_or c.args.children.now.items (j - 1) k) long) h)

pub returns-then-not-is_empty-clause-link : goal.returns-then-not-is_empty-clause-link
returns-then-not-is_empty-clause-link c =
    let s = c.args.self.now in
    let b = c.args.directory in
    let k = c.index.result.now in
    let within : c.len.result - 1 < length c.args.children.now.items = grind (arith, c.if-not-is_empty, c.is_empty.ensures, c.len.ensures) in
    let is : has_number k (hanging s (First b)) ≡ true = subst (λ (j : ℕ). has_number j (hanging s (First b)) ≡ true) (sym c.index.ensures) (All-get_or (λ j. has_number j (hanging s (First b)) ≡ true) c.args.children.now.items (c.len.result - 1) k within c.requires.children) in
    child_link s b c.requires.directory (Some k) is k refl

pub returns-then-not-is_empty-clause-walk : goal.returns-then-not-is_empty-clause-walk
returns-then-not-is_empty-clause-walk c =
    let s = c.args.self.now in
    let b = c.args.directory in
    let k = c.index.result.now in
    let within : c.len.result - 1 < length c.args.children.now.items = grind (arith, c.if-not-is_empty, c.is_empty.ensures, c.len.ensures) in
    let is : has_number k (hanging s (First b)) ≡ true = subst (λ (j : ℕ). has_number j (hanging s (First b)) ≡ true) (sym c.index.ensures) (All-get_or (λ j. has_number j (hanging s (First b)) ≡ true) c.args.children.now.items (c.len.result - 1) k within c.requires.children) in
    child_walk s b c.requires.directory (Some k) is k refl

pub index-requires-in-children : goal.index-requires-in-children
index-requires-in-children c =
    let s = c.args.self.now in
    let b = c.args.directory in
    let k = c.index-number.result.now in
    let within : c.len-in-children.result - 1 < length c.children.children.items = grind (arith, c.children-test.true, c.is_empty-in-children.ensures, c.len-in-children.ensures) in
    let is : has_number k (hanging s (First b)) ≡ true = subst (λ (j : ℕ). has_number j (hanging s (First b)) ≡ true) (sym c.index-number.ensures) (All-get_or (λ j. has_number j (hanging s (First b)) ≡ true) c.children.children.items (c.len-in-children.result - 1) k within c.children.invariant.children) in
    omega (arith, child_inside s b c.requires.directory (Some k) is k refl)

pub is_before-requires : goal.is_before-requires
is_before-requires c =
    let s = c.args.self.now in
    let b = c.args.directory in
    let k = c.index-number.result.now in
    let within : c.len-in-children.result - 1 < length c.children.children.items = grind (arith, c.children-test.true, c.is_empty-in-children.ensures, c.len-in-children.ensures) in
    let is : has_number k (hanging s (First b)) ≡ true = subst (λ (j : ℕ). has_number j (hanging s (First b)) ≡ true) (sym c.index-number.ensures) (All-get_or (λ j. has_number j (hanging s (First b)) ≡ true) c.children.children.items (c.len-in-children.result - 1) k within c.children.invariant.children) in
    child_within s b c.requires.directory (Some k) is k refl c.index-in-children.result.now c.index-in-children.ensures

pub returns-then-is_before-clause-place : goal.returns-then-is_before-clause-place
returns-then-is_before-clause-place c =
    let s = c.args.self.now in
    let b = c.args.directory in
    let k = c.index-number.result.now in
    let within : c.len-in-children.result - 1 < length c.children.children.items = grind (arith, c.children-test.true, c.is_empty-in-children.ensures, c.len-in-children.ensures) in
    let is : has_number k (hanging s (First b)) ≡ true = subst (λ (j : ℕ). has_number j (hanging s (First b)) ≡ true) (sym c.index-number.ensures) (All-get_or (λ j. has_number j (hanging s (First b)) ≡ true) c.children.children.items (c.len-in-children.result - 1) k within c.children.invariant.children) in
    child_place s b c.requires.directory (Some k) is k refl c.index-in-children.result.now c.index-in-children.ensures c.args.component.now (cc)

pub returns-then-is_before-clause-link : goal.returns-then-is_before-clause-link
returns-then-is_before-clause-link c =
    let s = c.args.self.now in
    let b = c.args.directory in
    let k = c.index-number.result.now in
    let within : c.len-in-children.result - 1 < length c.children.children.items = grind (arith, c.children-test.true, c.is_empty-in-children.ensures, c.len-in-children.ensures) in
    let is : has_number k (hanging s (First b)) ≡ true = subst (λ (j : ℕ). has_number j (hanging s (First b)) ≡ true) (sym c.index-number.ensures) (All-get_or (λ j. has_number j (hanging s (First b)) ≡ true) c.children.children.items (c.len-in-children.result - 1) k within c.children.invariant.children) in
    child_link s b c.requires.directory (Some k) is k refl

pub returns-then-is_before-clause-walk : goal.returns-then-is_before-clause-walk
returns-then-is_before-clause-walk c =
    let s = c.args.self.now in
    let b = c.args.directory in
    let k = c.index-number.result.now in
    let within : c.len-in-children.result - 1 < length c.children.children.items = grind (arith, c.children-test.true, c.is_empty-in-children.ensures, c.len-in-children.ensures) in
    let is : has_number k (hanging s (First b)) ≡ true = subst (λ (j : ℕ). has_number j (hanging s (First b)) ≡ true) (sym c.index-number.ensures) (All-get_or (λ j. has_number j (hanging s (First b)) ≡ true) c.children.children.items (c.len-in-children.result - 1) k within c.children.invariant.children) in
    child_walk s b c.requires.directory (Some k) is k refl
