use Rattle.std.proofs.Common.{◌≡◌, Some, None, true, sym, ap, ◌∙◌}
use Rattle.std.specs.Option.{option_map}
use Rattle.git_objects.specs.Names.{name}
use Rattle.git_objects.proofs.Basics.{bytes_fit}
use Rattle.object_store.specs.Errors.{error_of}
use Rattle.object_store.specs.Objects.{find_named}
use Rattle.object_store.specs.Puts.{same_object}
use Rattle.object_store.proofs.Putting.{fits, same_refusal, same_objects, is_new_object, new_refusal, new_objects}
use Rattle.object_store.proofs.shelf.Shelf.judge_sized.Goals as goal

pub returns-in-Some-true : goal.returns-in-Some-true
returns-in-Some-true c =
    let S = c.args.self.now in
    let fault = sym (ap (option_map error_of) c.requires.body) in
    let same : Some true ≡ option_map (same_object c.args.kind c.args.body.now) (find_named S (name c.args.kind c.args.body.now)) =
    ap Some (sym c.in-Some-true.field-0-test) ∙ c.in-Some-true.ensures ∙ (λ i. option_map (same_object c.args.kind c.args.body.now) (find_named S (c.name_of-name.ensures i))) in
    record {
      named = c.name_of-name.ensures;
      accepted = same_refusal S c.args.kind c.args.body.now fault same;
      stays = same_objects S c.args.kind c.args.body.now fault same;
    }

pub returns-in-None : goal.returns-in-None
returns-in-None c =
    let S = c.args.self.now in
    let fault = sym (ap (option_map error_of) c.requires.body) in
    let none : None ≡ option_map (same_object c.args.kind c.args.body.now) (find_named S (name c.args.kind c.args.body.now)) =
    c.in-None.ensures ∙ (λ i. option_map (same_object c.args.kind c.args.body.now) (find_named S (c.name_of-name.ensures i))) in
    let new = is_new_object S c.args.kind c.args.body.now fault none in
    record {
      named = c.name_of-name.ensures;
      accepted = new_refusal S c.args.kind c.args.body.now fault new;
      joins = new_objects S c.args.kind c.args.body.now fault new;
      new = ap (find_named S) c.name_of-name.ensures ∙ new;
      whole = fits S c.args.kind c.args.body.now c.requires.body (bytes_fit _ c.type_inv.body);
      sized = c.requires.stats;
    }
