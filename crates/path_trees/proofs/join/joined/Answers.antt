use Rattle.std.proofs.Common.{◌≡◌, ℕ, ◌<◌, ◌+◌, ◌-◌, List, length, drop, Some, refl, sym, ap, subst, ◌∙◌, arith}
use Rattle.std.specs.Prelude.{slice_get}
use Rattle.std.proofs.lemmas.Result.{err_from_is_err_and}
use Rattle.git_objects.specs.Entries.{body_text}
use Rattle.git_objects.specs.declared.name.Name.{Name}
use Rattle.object_store.specs.Objects.{Object}
use Rattle.object_store.specs.Unfolding.{flat}
use Rattle.object_store.proofs.Unfolding.{flat_good}
use Rattle.path_trees.specs.Clashes.{IsShared}
use Rattle.path_trees.specs.Joins.{listing_of}
use Rattle.path_trees.specs.Made.{IsTreeFault}
use Rattle.path_trees.specs.Merged.{with_names}
use Rattle.path_trees.specs.declared.join.Shared.{Shared}
use Rattle.path_trees.proofs.Placed.{got}
use Rattle.path_trees.proofs.Rises.{AreRisen, left_held, right_held, enough, fits, refused, rises, all_risen}
use Rattle.path_trees.proofs.join.joined.Goals as goal

pub joined_body-requires-clause-left : goal.joined_body-requires-clause-left
joined_body-requires-clause-left c =
    let S0 = c.args.store.now in
    let s0 = c.shared_directories.ensures.store in
    let A = flat S0 c.args.a.0 in
    let B = flat S0 c.args.b.0 in
    let root : Shared = record { left = c.args.a; right = c.args.b } in
    let k = c.directories.level - 1 in
    let next : c.directories.level ≡ k + 1 = omega arith in
    let risen = subst (λ (i : ℕ). AreRisen S0 A B c.in-Ok.directories.items c.directories.store c.directories.names.items i) next c.directories.invariant in
    let within : k < length c.in-Ok.directories.items = omega (arith, c.directories.invariant.within) in
    let this : slice_get c.in-Ok.directories.items k ≡ Some c.index.result.now = got c.in-Ok.directories.items k c.index.result.now within c.index.ensures in
    let firsts_within : k < length c.in-Ok.firsts.items = omega (arith, c.in-Ok.ensures.all.count) in
    let place : slice_get c.in-Ok.firsts.items k ≡ Some c.index-in-directories.result.now = got c.in-Ok.firsts.items k c.index-in-directories.result.now firsts_within c.index-in-directories.ensures in
    left_held S0 s0 A B (flat_good S0 s0 c.args.a.0 c.requires.roots.left.held).tree (flat_good S0 s0 c.args.b.0 c.requires.roots.right.held).tree c.requires.clear root c.in-Ok.directories.items c.in-Ok.firsts.items c.in-Ok.ensures.all c.directories.store c.directories.names.items k risen c.index.result.now this c.index-in-directories.result.now place

pub joined_body-requires-clause-right : goal.joined_body-requires-clause-right
joined_body-requires-clause-right c =
    let S0 = c.args.store.now in
    let s0 = c.shared_directories.ensures.store in
    let A = flat S0 c.args.a.0 in
    let B = flat S0 c.args.b.0 in
    let root : Shared = record { left = c.args.a; right = c.args.b } in
    let k = c.directories.level - 1 in
    let next : c.directories.level ≡ k + 1 = omega arith in
    let risen = subst (λ (i : ℕ). AreRisen S0 A B c.in-Ok.directories.items c.directories.store c.directories.names.items i) next c.directories.invariant in
    let within : k < length c.in-Ok.directories.items = omega (arith, c.directories.invariant.within) in
    let this : slice_get c.in-Ok.directories.items k ≡ Some c.index.result.now = got c.in-Ok.directories.items k c.index.result.now within c.index.ensures in
    let firsts_within : k < length c.in-Ok.firsts.items = omega (arith, c.in-Ok.ensures.all.count) in
    let place : slice_get c.in-Ok.firsts.items k ≡ Some c.index-in-directories.result.now = got c.in-Ok.firsts.items k c.index-in-directories.result.now firsts_within c.index-in-directories.ensures in
    right_held S0 s0 A B (flat_good S0 s0 c.args.a.0 c.requires.roots.left.held).tree (flat_good S0 s0 c.args.b.0 c.requires.roots.right.held).tree c.requires.clear root c.in-Ok.directories.items c.in-Ok.firsts.items c.in-Ok.ensures.all c.directories.store c.directories.names.items k risen c.index.result.now this c.index-in-directories.result.now place

pub joined_body-requires-clause-names : goal.joined_body-requires-clause-names
joined_body-requires-clause-names c =
    let S0 = c.args.store.now in
    let s0 = c.shared_directories.ensures.store in
    let A = flat S0 c.args.a.0 in
    let B = flat S0 c.args.b.0 in
    let root : Shared = record { left = c.args.a; right = c.args.b } in
    let k = c.directories.level - 1 in
    let next : c.directories.level ≡ k + 1 = omega arith in
    let risen = subst (λ (i : ℕ). AreRisen S0 A B c.in-Ok.directories.items c.directories.store c.directories.names.items i) next c.directories.invariant in
    let within : k < length c.in-Ok.directories.items = omega (arith, c.directories.invariant.within) in
    let this : slice_get c.in-Ok.directories.items k ≡ Some c.index.result.now = got c.in-Ok.directories.items k c.index.result.now within c.index.ensures in
    let firsts_within : k < length c.in-Ok.firsts.items = omega (arith, c.in-Ok.ensures.all.count) in
    let place : slice_get c.in-Ok.firsts.items k ≡ Some c.index-in-directories.result.now = got c.in-Ok.firsts.items k c.index-in-directories.result.now firsts_within c.index-in-directories.ensures in
    let n = enough S0 s0 A B (flat_good S0 s0 c.args.a.0 c.requires.roots.left.held).tree (flat_good S0 s0 c.args.b.0 c.requires.roots.right.held).tree c.requires.clear root c.in-Ok.directories.items c.in-Ok.firsts.items c.in-Ok.ensures.all c.directories.store c.directories.names.items k risen c.index.result.now this c.index-in-directories.result.now place in
    let m = ap length c.deref-in-directories.ensures.value in
    omega arith

pub taken_in-requires : goal.taken_in-requires
taken_in-requires c =
    let S0 = c.args.store.now in
    let s0 = c.shared_directories.ensures.store in
    let A = flat S0 c.args.a.0 in
    let B = flat S0 c.args.b.0 in
    let root : Shared = record { left = c.args.a; right = c.args.b } in
    let k = c.directories.level - 1 in
    let next : c.directories.level ≡ k + 1 = omega arith in
    let risen = subst (λ (i : ℕ). AreRisen S0 A B c.in-Ok.directories.items c.directories.store c.directories.names.items i) next c.directories.invariant in
    let within : k < length c.in-Ok.directories.items = omega (arith, c.directories.invariant.within) in
    let this : slice_get c.in-Ok.directories.items k ≡ Some c.index.result.now = got c.in-Ok.directories.items k c.index.result.now within c.index.ensures in
    let firsts_within : k < length c.in-Ok.firsts.items = omega (arith, c.in-Ok.ensures.all.count) in
    let place : slice_get c.in-Ok.firsts.items k ≡ Some c.index-in-directories.result.now = got c.in-Ok.firsts.items k c.index-in-directories.result.now firsts_within c.index-in-directories.ensures in
    let text : c.deref-in-directories-2.result.now ≡ body_text (with_names (listing_of c.directories.store c.index.result.now) (drop c.index-in-directories.result.now c.directories.names.items)) =
    c.deref-in-directories-2.ensures.value ∙ c.in-Ok-joined_body.ensures ∙ ap (λ (ns : List Name). body_text (with_names (listing_of c.directories.store c.index.result.now) (drop c.index-in-directories.result.now ns))) c.deref-in-directories.ensures.value in
    fits S0 s0 A B (flat_good S0 s0 c.args.a.0 c.requires.roots.left.held).tree (flat_good S0 s0 c.args.b.0 c.requires.roots.right.held).tree c.requires.clear root c.in-Ok.directories.items c.in-Ok.firsts.items c.in-Ok.ensures.all c.directories.store c.directories.names.items k risen c.index.result.now this c.index-in-directories.result.now place c.deref-in-directories-2.result.now text

pub returns-in_err-names-clause-err : goal.returns-in_err-names-clause-err
returns-in_err-names-clause-err c =
    let S0 = c.args.store.now in
    let s0 = c.shared_directories.ensures.store in
    let A = flat S0 c.args.a.0 in
    let B = flat S0 c.args.b.0 in
    let root : Shared = record { left = c.args.a; right = c.args.b } in
    let k = c.directories.level - 1 in
    let next : c.directories.level ≡ k + 1 = omega arith in
    let risen = subst (λ (i : ℕ). AreRisen S0 A B c.in-Ok.directories.items c.directories.store c.directories.names.items i) next c.directories.invariant in
    let within : k < length c.in-Ok.directories.items = omega (arith, c.directories.invariant.within) in
    let this : slice_get c.in-Ok.directories.items k ≡ Some c.index.result.now = got c.in-Ok.directories.items k c.index.result.now within c.index.ensures in
    let firsts_within : k < length c.in-Ok.firsts.items = omega (arith, c.in-Ok.ensures.all.count) in
    let place : slice_get c.in-Ok.firsts.items k ≡ Some c.index-in-directories.result.now = got c.in-Ok.firsts.items k c.index-in-directories.result.now firsts_within c.index-in-directories.ensures in
    let text : c.deref-in-directories-2.result.now ≡ body_text (with_names (listing_of c.directories.store c.index.result.now) (drop c.index-in-directories.result.now c.directories.names.items)) =
    c.deref-in-directories-2.ensures.value ∙ c.in-Ok-joined_body.ensures ∙ ap (λ (ns : List Name). body_text (with_names (listing_of c.directories.store c.index.result.now) (drop c.index-in-directories.result.now ns))) c.deref-in-directories.ensures.value in
    let p = err_from_is_err_and c.from_residual.result c.from_residual.ensures.1 in
    let fact : IsTreeFault (IsShared A B) c.taken_in.new.store c.in_err-names.field-0.0 =
    subst (λ (R : List Object). IsTreeFault (IsShared A B) R c.in_err-names.field-0.0) (sym c.in_err-names.ensures.err.0) (refused S0 s0 A B (flat_good S0 s0 c.args.a.0 c.requires.roots.left.held).tree (flat_good S0 s0 c.args.b.0 c.requires.roots.right.held).tree c.requires.clear root c.in-Ok.directories.items c.in-Ok.firsts.items c.in-Ok.ensures.all c.directories.store c.directories.names.items k risen c.index.result.now this c.index-in-directories.result.now place c.deref-in-directories-2.result.now text c.in_err-names.field-0.0 c.in_err-names.ensures.err.1) in
    rw (p.1, p.2) fact

pub directories-preserved : goal.directories-preserved
directories-preserved c =
    let S0 = c.args.store.now in
    let s0 = c.shared_directories.ensures.store in
    let A = flat S0 c.args.a.0 in
    let B = flat S0 c.args.b.0 in
    let root : Shared = record { left = c.args.a; right = c.args.b } in
    let k = c.directories.level - 1 in
    let next : c.directories.level ≡ k + 1 = omega arith in
    let risen = subst (λ (i : ℕ). AreRisen S0 A B c.in-Ok.directories.items c.directories.store c.directories.names.items i) next c.directories.invariant in
    let within : k < length c.in-Ok.directories.items = omega (arith, c.directories.invariant.within) in
    let this : slice_get c.in-Ok.directories.items k ≡ Some c.index.result.now = got c.in-Ok.directories.items k c.index.result.now within c.index.ensures in
    let firsts_within : k < length c.in-Ok.firsts.items = omega (arith, c.in-Ok.ensures.all.count) in
    let place : slice_get c.in-Ok.firsts.items k ≡ Some c.index-in-directories.result.now = got c.in-Ok.firsts.items k c.index-in-directories.result.now firsts_within c.index-in-directories.ensures in
    let text : c.deref-in-directories-2.result.now ≡ body_text (with_names (listing_of c.directories.store c.index.result.now) (drop c.index-in-directories.result.now c.directories.names.items)) =
    c.deref-in-directories-2.ensures.value ∙ c.in-Ok-joined_body.ensures ∙ ap (λ (ns : List Name). body_text (with_names (listing_of c.directories.store c.index.result.now) (drop c.index-in-directories.result.now ns))) c.deref-in-directories.ensures.value in
    rises S0 s0 A B (flat_good S0 s0 c.args.a.0 c.requires.roots.left.held).tree (flat_good S0 s0 c.args.b.0 c.requires.roots.right.held).tree c.requires.clear root c.in-Ok.directories.items c.in-Ok.firsts.items c.in-Ok.ensures.all c.directories.store c.directories.names.items k risen c.index.result.now this c.index-in-directories.result.now place c.deref-in-directories-2.result.now text c.taken_in.new.store c.taken_in.ensures.store c.in_ok-names.ensures.ok.1 c.in_ok-names.field-0 c.in_ok-names.ensures.ok.0 _ refl

pub returns-clause-ok : goal.returns-clause-ok
returns-clause-ok c =
    let S0 = c.args.store.now in
    let s0 = c.shared_directories.ensures.store in
    let A = flat S0 c.args.a.0 in
    let B = flat S0 c.args.b.0 in
    let root : Shared = record { left = c.args.a; right = c.args.b } in
    let end : c.directories.level ≡ 0 = omega arith in
    let risen = subst (λ (i : ℕ). AreRisen S0 A B c.in-Ok.directories.items c.directories.store c.directories.names.items i) end c.directories.invariant in
    let some = Rattle.std.proofs.lemmas.Option.slice_get_within c.in-Ok.directories.items 0 root c.in-Ok.ensures.all.first in
    let within : 0 < length c.directories.names.items = omega (arith, some, c.directories.invariant.count) in
    all_risen S0 A B root c.in-Ok.directories.items c.in-Ok.firsts.items c.in-Ok.ensures.all c.directories.store c.directories.names.items risen c.index-2.result.now (got c.directories.names.items 0 c.index-2.result.now within c.index-2.ensures)
