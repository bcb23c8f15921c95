use Rattle.std.proofs.Common.{[], map, sym, ◌∙◌, ap}
use Rattle.git_objects.specs.Paths.{same_bytes}
use Rattle.object_store.specs.Unfolding.{flat}
use Rattle.object_store.proofs.Unfolding.{unfolding_law}
use Rattle.commit_map.specs.Shown.{shown_value}
use Rattle.commit_map.specs.declared.commit_map.Shown.{Shown}
use Rattle.projection_laws.specs.Projections.{own}
use Rattle.projection_ground.specs.Choosing.{leads_upon}
use Rattle.projection_ground.proofs.Chosen.{chosen-many, chosen-other, chosen-same}
use Rattle.projection_ground.proofs.choosing.chosen.Goals as goal

unnamed : Shown
unnamed = record { commit = record { 0 = [] }; tree = record { 0 = [] } }

pub returns-then-eq : goal.returns-then-eq
unfolding unnamed
returns-then-eq c = λ place letter b ks a.
    let g = c.args.ground.now in
    chosen-same g.rule (leads_upon g place c.args.parents.now ks) (flat g.store c.args.tree.now.0) letter c.args.projected.now unnamed c.in-len1.len_below c.in-len1.len_at_least
    (ap (same_bytes _) (unfolding_law g.store c.args.tree.now.0 c.requires.ground.graph.store c.requires.tree).named ∙ sym c.if-eq.ensures)

pub returns-else-eq : goal.returns-else-eq
unfolding unnamed
returns-else-eq c = λ place letter b ks a.
    let g = c.args.ground.now in
    chosen-other g.rule (leads_upon g place c.args.parents.now ks) (flat g.store c.args.tree.now.0) letter c.args.projected.now unnamed c.in-len1.len_below c.in-len1.len_at_least
    (ap (same_bytes _) (unfolding_law g.store c.args.tree.now.0 c.requires.ground.graph.store c.requires.tree).named ∙ sym c.if-eq.ensures)

pub returns-in-Two : goal.returns-in-Two
returns-in-Two c = λ place letter b.
    let g = c.args.ground.now in
    let t = flat g.store c.args.tree.now.0 in
    chosen-many g place c.args.parents.now g.rule (leads_upon g place c.args.parents.now) t c.args.tree.now.0 letter c.args.projected.now c.first_leading.result c.in-Two.is c.in_default.len_at_least
    (unfolding_law g.store c.args.tree.now.0 c.requires.ground.graph.store c.requires.tree).named (c.first_leading.ensures place (own t letter (map shown_value c.args.projected.now)) b)
