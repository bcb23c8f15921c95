use Rattle.std.proofs.Common.{◌≡◌, Some, None, true, sym, ap, ◌∙◌}
use Rattle.std.specs.Option.{option_map}
use Rattle.git_objects.specs.Names.{name}
use Rattle.git_objects.proofs.Basics.{bytes_fit}
use Rattle.object_store.specs.Errors.{error_of}
use Rattle.object_store.specs.Objects.{find_named}
use Rattle.object_store.specs.Puts.{same_object}
use Rattle.object_store.proofs.Putting.{fits, same_refusal, same_objects, is_new_object, new_refusal, new_objects}
use Rattle.object_store.proofs.shelf.Shelf.judge_fitting.Goals as goal

pub returns-in-Some-true : goal.returns-in-Some-true
returns-in-Some-true c =
    let S = c.args.self.now in
    let k = c.args.kind in
    let b = c.args.body.now in
    let fault = sym (ap (option_map error_of) c.requires) in
    let same : Some true ≡ option_map (same_object k b) (find_named S (name k b)) =
    ap Some (sym c.in-Some-true.field-0-test) ∙ c.in-Some-true.ensures ∙ (λ i. option_map (same_object k b) (find_named S (c.name_of-name.ensures i))) in
    record {
      named = c.name_of-name.ensures;
      accepted = same_refusal S k b fault same;
      stays = same_objects S k b fault same;
    }

pub returns-in-None : goal.returns-in-None
returns-in-None c =
    let S = c.args.self.now in
    let k = c.args.kind in
    let b = c.args.body.now in
    let fault = sym (ap (option_map error_of) c.requires) in
    let none : None ≡ option_map (same_object k b) (find_named S (name k b)) =
    c.in-None.ensures ∙ (λ i. option_map (same_object k b) (find_named S (c.name_of-name.ensures i))) in
    let new = is_new_object S k b fault none in
    record {
      named = c.name_of-name.ensures;
      accepted = new_refusal S k b fault new;
      joins = new_objects S k b fault new;
      new = ap (find_named S) c.name_of-name.ensures ∙ new;
      whole = fits S k b c.requires (bytes_fit _ c.type_inv.body);
      sized = c.fitting_stats-stats.ensures;
    }
