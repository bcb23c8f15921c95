use Rattle.std.proofs.Common.{Option, None, ℕ, refl, ap, subst, ◌∙◌}
use Rattle.std.proofs.lemmas.Result.{err_from_is_err_and}
use Rattle.stage_nodes.specs.declared.nodes.Link.{Link}
use Rattle.stage_nodes.specs.declared.nodes.Link.TheVariants.{First}
use Rattle.stage_nodes.specs.Forests.{is_link, target}
use Rattle.stage_nodes.specs.declared.nodes.Content.TheVariants.{Held}
use Rattle.git_objects.specs.Paths.{Bytes}
use Rattle.stage_nodes.specs.Pools.{IsAdded, hanging, IsPutBefore}
use Rattle.stage_nodes.proofs.Inserting.{link_is, link_there, is_added, number_t}
use Rattle.stage_nodes.proofs.nodes.Nodes.add_child.Goals as goal

pub target-behind-requires : goal.target-behind-requires
target-behind-requires c =
    let ad = subst (λ (x : Bytes). IsAdded c.args.self.now c.add_part.new.self x (Held c.args.found) None c.in_ok-number.number) c.requires.part c.in_ok-number.ensures.ok in
    let at_link = c.seek-link.ensures.place ∙ c.start-start.ensures.place ∙ link_is c.args.self.now c.add_part.new.self c.args.directory c.args.component.now c.args.found (hanging c.args.self.now (First c.args.directory)) refl c.requires.directory c.in_ok-number.number ad in
    ap (is_link c.add_part.new.self.cells.items) at_link ∙ link_there c.args.self.now c.add_part.new.self c.args.directory c.args.component.now c.args.found (hanging c.args.self.now (First c.args.directory)) refl c.requires.directory c.in_ok-number.number ad

pub put_before-requires-clause-link : goal.put_before-requires-clause-link
put_before-requires-clause-link c =
    let ad = subst (λ (x : Bytes). IsAdded c.args.self.now c.add_part.new.self x (Held c.args.found) None c.in_ok-number.number) c.requires.part c.in_ok-number.ensures.ok in
    let at_link = c.seek-link.ensures.place ∙ c.start-start.ensures.place ∙ link_is c.args.self.now c.add_part.new.self c.args.directory c.args.component.now c.args.found (hanging c.args.self.now (First c.args.directory)) refl c.requires.directory c.in_ok-number.number ad in
    ap (is_link c.add_part.new.self.cells.items) at_link ∙ link_there c.args.self.now c.add_part.new.self c.args.directory c.args.component.now c.args.found (hanging c.args.self.now (First c.args.directory)) refl c.requires.directory c.in_ok-number.number ad

pub put_before-requires-clause-number : goal.put_before-requires-clause-number
put_before-requires-clause-number c =
    let ad = subst (λ (x : Bytes). IsAdded c.args.self.now c.add_part.new.self x (Held c.args.found) None c.in_ok-number.number) c.requires.part c.in_ok-number.ensures.ok in
    number_t c.args.self.now c.add_part.new.self c.args.directory c.args.component.now c.args.found (hanging c.args.self.now (First c.args.directory)) refl c.requires.directory c.in_ok-number.number ad

pub returns-clause-ok : goal.returns-clause-ok
returns-clause-ok c =
    let ad = subst (λ (x : Bytes). IsAdded c.args.self.now c.add_part.new.self x (Held c.args.found) None c.in_ok-number.number) c.requires.part c.in_ok-number.ensures.ok in
    let at_link = c.seek-link.ensures.place ∙ c.start-start.ensures.place ∙ link_is c.args.self.now c.add_part.new.self c.args.directory c.args.component.now c.args.found (hanging c.args.self.now (First c.args.directory)) refl c.requires.directory c.in_ok-number.number ad in
    is_added c.args.self.now c.add_part.new.self c.args.directory c.args.component.now c.args.found (hanging c.args.self.now (First c.args.directory)) refl c.requires.directory c.in_ok-number.number ad c.put_before.new.self
    c.requires.absent c.requires.component
    (subst (λ (link : Link). IsPutBefore c.add_part.new.self c.put_before.new.self link (target c.add_part.new.self.cells.items link) c.in_ok-number.number) at_link
    (subst (λ (o : Option ℕ). IsPutBefore c.add_part.new.self c.put_before.new.self c.seek-link.result o c.in_ok-number.number) c.target-behind.ensures c.put_before.ensures))

pub add_part-requires-clause-pool : goal.add_part-requires-clause-pool
add_part-requires-clause-pool c = c.requires.directory.pool

pub returns-clause-names : goal.returns-clause-names
returns-clause-names c = c.put_before.ensures.link_names ∙ c.put_before.ensures.next_names ∙ ap (λ v. v.items) c.add_part.ensures.names

pub returns-in_err-number-clause-names : goal.returns-in_err-number-clause-names
returns-in_err-number-clause-names c = ap (λ v. v.items) c.add_part.ensures.names

pub returns-in_err-number-clause-ok : goal.returns-in_err-number-clause-ok
returns-in_err-number-clause-ok c = let p = err_from_is_err_and c.from_residual.result c.from_residual.ensures.1 in rw (p.1) tt

pub returns-in_err-number-clause-err : goal.returns-in_err-number-clause-err
returns-in_err-number-clause-err c = let p = err_from_is_err_and c.from_residual.result c.from_residual.ensures.1 in rw (p.1) c.in_err-number.ensures.err

pub returns-clause-err : goal.returns-clause-err
returns-clause-err c = tt
