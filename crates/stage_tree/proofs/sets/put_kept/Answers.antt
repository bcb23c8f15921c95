use Rattle.std.proofs.Common.{◌≡◌, ℕ, true, take, List, Option, IfSome, refl, ap, arith, sym, subst, ◌∙◌}
use Rattle.std.specs.List.{list_all}
use Rattle.std.proofs.lemmas.Result.{err_from_is_err_and}
use Rattle.git_objects.specs.Paths.{Path, is_component}
use Rattle.object_store.specs.Objects.{Object}
use Rattle.path_trees.specs.declared.found.Found.{Found}
use Rattle.stage_nodes.specs.declared.nodes.Nodes.{Nodes}
use Rattle.stage_nodes.specs.declared.nodes.Content.TheVariants.{Held}
use Rattle.stage_nodes.specs.declared.nodes.Link.{Link}
use Rattle.stage_nodes.specs.Leaves.{is_held}
use Rattle.stage_nodes.specs.Ways.{IsWay}
use Rattle.stage_nodes.proofs.Walking.{way_within}
use Rattle.stage_tree.specs.Sets.{IsPutAt}
use Rattle.stage_tree.proofs.Marked.{none_known}
use Rattle.stage_tree.proofs.Setting.{child_set, remembered}
use Rattle.stage_tree.proofs.sets.put_kept.Goals as goal

put_as : (s s' : Nodes) (x p : Path) (level : ℕ) (link : Link) (child : Option ℕ) (f : Found) (k : ℕ) → x ≡ p →
    ((S : List Object) (w : IsWay S s s x level link child) → is_held S (Held f) ≡ true → IsPutAt S s s' x level link child f k w) →
    (S : List Object) (w : IsWay S s s p level link child) → is_held S (Held f) ≡ true → IsPutAt S s s' p level link child f k w
put_as s s' x p level link child f k e g = subst (λ (q : Path). (S : List Object) (w : IsWay S s s q level link child) → is_held S (Held f) ≡ true → IsPutAt S s s' q level link child f k w) e g

pub returns-in_err-number-clause-ok : goal.returns-in_err-number-clause-ok
returns-in_err-number-clause-ok c =
    let p = err_from_is_err_and c.from_residual.result c.from_residual.ensures.1 in
    rw (p.1) tt

pub returns-in_err-number-clause-err : goal.returns-in_err-number-clause-err
returns-in_err-number-clause-err c =
    let p = err_from_is_err_and c.from_residual.result c.from_residual.ensures.1 in
    rw (p.1) c.in_err-number.ensures.err

pub returns-in_err-number-clause-child : goal.returns-in_err-number-clause-child
returns-in_err-number-clause-child c = none_known c.put_on.new.nodes c.args.last.now.child c.args.last.now.directory.items c.args.last.now.numbers.items c.requires.forgotten

pub put_on-requires-clause-way : goal.put_on-requires-clause-way
put_on-requires-clause-way c =
    let s = c.args.nodes.now in let w = c.args.way in
    (c.requires.way.0, subst (λ (q : Path). IsWay c.requires.way.0 s s q w.level w.spot.link w.spot.child) (sym c.deref.ensures.value) c.requires.way.1, c.requires.way.2)

pub put_on-requires-clause-components : goal.put_on-requires-clause-components
put_on-requires-clause-components c = ap (list_all is_component) c.deref.ensures.value ∙ c.requires.components

pub returns-clause-ok : goal.returns-clause-ok
returns-clause-ok c = λ S w held. (
  c.in_ok-number.number,
  put_as c.args.nodes.now c.put_on.new.nodes c.deref.result.now c.args.components.items c.args.way.level c.args.way.spot.link c.args.way.spot.child c.args.found c.in_ok-number.number c.deref.ensures.value c.in_ok-number.ensures.ok S w held,
)

pub keep-requires : goal.keep-requires
keep-requires c = let w = way_within c.requires.way.0 c.args.nodes.now c.args.nodes.now c.args.components.items c.args.way.level c.args.way.spot.link c.args.way.spot.child c.requires.way.1 in omega (arith, w)

pub returns-clause-child : goal.returns-clause-child
returns-clause-child c =
    let s = c.args.nodes.now in let p = c.args.components.items in let w = c.args.way in let k = c.in_ok-number.number in let S = c.requires.way.0 in
    let made = put_as s c.put_on.new.nodes c.deref.result.now p w.level w.spot.link w.spot.child c.args.found k c.deref.ensures.value c.in_ok-number.ensures.ok S c.requires.way.1 c.requires.way.2 in
    remembered c.put_on.new.nodes c.keep.new.self.child c.keep.new.self.directory.items _ c.keep.new.self.numbers.items c.args.last.now.numbers.items k
    (subst (λ (o : Option ℕ). IfSome o (λ j. (j ≡ k) × (c.keep.new.self.directory.items ≡ take w.level p))) (sym c.keep.ensures.child) (refl, c.keep.ensures.directory))
    (ap (λ n. n.items) c.keep.ensures.numbers)
    (child_set S s c.put_on.new.nodes p c.args.last.now.numbers.items w.level w.spot.link w.spot.child c.args.found k c.requires.way.1 c.requires.way.3 made)
