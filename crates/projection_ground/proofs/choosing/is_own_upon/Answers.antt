use Rattle.std.proofs.Common.{[], true, false, length, map, refl, ap, ◌∙◌}
use Rattle.git_objects.specs.Commits.{Letter}
use Rattle.object_store.specs.Unfolding.{flat}
use Rattle.commit_map.specs.Shown.{shown_value}
use Rattle.projection_laws.specs.Projections.{Member, New, Nothing, chosen, own}
use Rattle.projection_ground.specs.Choosing.{leads_upon}
use Rattle.projection_ground.proofs.OwnChoices.{behind-all, none-lacked, own-by}
use Rattle.projection_ground.proofs.TurnLemmas.{choice-below, choice-member, choice-new, choice-nothing}
use Rattle.projection_ground.proofs.choosing.is_own_upon.Goals as goal

unwritten : Letter
unwritten = record { author = []; committer = []; message = [] }

pub unreachable-requires : goal.unreachable-requires
unreachable-requires c =
    let g = c.args.ground.now in
    let t = flat g.store c.args.tree.now.0 in
    let ps = c.args.parents.now in
    let ms = map shown_value c.deref.result.now in
    let place = length g.graph in
    none-lacked g ps c.in-Below.field-0 c.requires.ground c.requires.kept c.requires.parents
    (choice-below g place ps (own t unwritten ms) (λ ks. chosen g.rule (leads_upon g place ps ks) t unwritten ms) c.in_ok-chosen.field-0 c.in-Below.field-0
    (c.in_ok-chosen.ensures place unwritten (behind-all g ps c.requires.parents)) c.in-Below.is)

pub returns-in-Nothing : goal.returns-in-Nothing
returns-in-Nothing c = λ letter.
    let g = c.args.ground.now in
    let t = flat g.store c.args.tree.now.0 in
    let ps = c.args.parents.now in
    let ms = map shown_value c.deref.result.now in
    let place = length g.graph in
    own-by g ps t letter ms c.requires.ground (ap (map shown_value) c.deref.ensures.value ∙ c.in_ok-projected.ensures.members) false Nothing refl
    (choice-nothing g place ps (own t letter ms) (λ ks. chosen g.rule (leads_upon g place ps ks) t letter ms) c.in_ok-chosen.field-0
    (c.in_ok-chosen.ensures place letter (behind-all g ps c.requires.parents)) c.in-Nothing.is)

pub returns-in-Member : goal.returns-in-Member
returns-in-Member c = λ letter.
    let g = c.args.ground.now in
    let t = flat g.store c.args.tree.now.0 in
    let ps = c.args.parents.now in
    let ms = map shown_value c.deref.result.now in
    let place = length g.graph in
    own-by g ps t letter ms c.requires.ground (ap (map shown_value) c.deref.ensures.value ∙ c.in_ok-projected.ensures.members) false (Member (shown_value c.in-Member.field-0)) refl
    (choice-member g place ps (own t letter ms) (λ ks. chosen g.rule (leads_upon g place ps ks) t letter ms) c.in_ok-chosen.field-0 c.in-Member.field-0
    (c.in_ok-chosen.ensures place letter (behind-all g ps c.requires.parents)) c.in-Member.is)

pub returns : goal.returns
returns c = λ letter.
    let g = c.args.ground.now in
    let t = flat g.store c.args.tree.now.0 in
    let ps = c.args.parents.now in
    let ms = map shown_value c.deref.result.now in
    let place = length g.graph in
    own-by g ps t letter ms c.requires.ground (ap (map shown_value) c.deref.ensures.value ∙ c.in_ok-projected.ensures.members) true (New (own t letter ms)) refl
    (choice-new g place ps (own t letter ms) (λ ks. chosen g.rule (leads_upon g place ps ks) t letter ms) c.in_ok-chosen.field-0
    (c.in_ok-chosen.ensures place letter (behind-all g ps c.requires.parents)) c.in-New.is)
