use Rattle.std.proofs.Common.{Some, None, sym, ap, subst, ◌∙◌}
use Rattle.git_objects.specs.Trees.{Flat, at}
use Rattle.git_objects.specs.declared.kind.Kind.TheVariants.{Tree}
use Rattle.object_store.proofs.Growth.{flat-grown, has-grown}
use Rattle.filter_unapply.specs.Blocks.{IsLeast}
use Rattle.filter_unapply.specs.Parts.{IsBlockIn}
use Rattle.filter_unapply.proofs.Nears.{block-grown, joined-none, near-block}
use Rattle.filter_unapply.proofs.PartLists.{any-grown, apart-grown, each-grown}
use Rattle.filter_unapply.proofs.laying.put_together.Goals as goal

pub first_block-requires-clause-kept : goal.first_block-requires-clause-kept
first_block-requires-clause-kept c = has-grown c.args.store.now c.joined.new.store Tree c.args.kept.0 c.joined.ensures.store c.requires.kept

pub first_block-requires-clause-parts : goal.first_block-requires-clause-parts
first_block-requires-clause-parts c = each-grown c.args.store.now c.joined.new.store c.joined.ensures.store c.args.parts.now c.requires.parts

pub first_block-requires-clause-apart : goal.first_block-requires-clause-apart
first_block-requires-clause-apart c = apart-grown c.args.store.now c.joined.new.store c.joined.ensures.store c.args.parts.now c.requires.parts c.requires.apart

pub first_block-requires-clause-other : goal.first_block-requires-clause-other
first_block-requires-clause-other c =
    let S = c.args.store.now in
    let R = c.joined.new.store in
    let ns = c.args.parts.now in
    let k = c.args.kept in
    let g = c.joined.ensures.store in
    λ p x e. any-grown S R g ns c.requires.parts p ∙ c.requires.other p x (ap (λ (u : Flat). at u p) (sym (flat-grown S R k.0 g c.requires.kept)) ∙ e)

pub unreachable-requires : goal.unreachable-requires
unreachable-requires c =
    let S = c.args.store.now in
    let R = c.joined.new.store in
    let ns = c.args.parts.now in
    let k = c.args.kept in
    let g = c.joined.ensures.store in
    near-block S c.store_law.ensures.store k ns c.requires.kept
    (joined-none S k ns R c.in_ok-name.field-0 c.in_default.not-Some c.in_ok-name.ensures.ok)
    (block-grown S R g k ns c.requires.kept c.requires.parts None (subst (IsLeast (IsBlockIn R k ns)) c.in-None.is c.in_ok-path.ensures))

pub returns-clause-err : goal.returns-clause-err
returns-clause-err c =
    let S = c.args.store.now in
    let R = c.joined.new.store in
    let ns = c.args.parts.now in
    let k = c.args.kept in
    let g = c.joined.ensures.store in
    block-grown S R g k ns c.requires.kept c.requires.parts (Some (c.in-Some-2.path, c.in-Some-2.by)) (subst (IsLeast (IsBlockIn R k ns)) c.in-Some-2.is c.in_ok-path.ensures)
