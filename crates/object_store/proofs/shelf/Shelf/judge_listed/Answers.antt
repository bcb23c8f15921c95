use Rattle.std.proofs.Common.{◌≡◌, Some, None, true, sym, ap, ◌∙◌}
use Rattle.std.specs.Option.{option_map}
use Rattle.git_objects.specs.Names.{name}
use Rattle.git_objects.specs.declared.kind.Kind.TheVariants.{Tree}
use Rattle.git_objects.proofs.Basics.{bytes_fit}
use Rattle.object_store.specs.Errors.{error_of}
use Rattle.object_store.specs.Objects.{find_named}
use Rattle.object_store.specs.Puts.{same_object}
use Rattle.object_store.proofs.Putting.{fits, same_refusal, same_objects, is_new_object, new_refusal, new_objects}
use Rattle.object_store.proofs.shelf.Shelf.judge_listed.Goals as goal

pub returns-in-Some-true : goal.returns-in-Some-true
returns-in-Some-true c =
    let S = c.args.self.now in
    let b = c.args.body.now in
    let fault = sym (ap (option_map error_of) c.requires.body) in
    let same : Some true ≡ option_map (same_object Tree b) (find_named S (name Tree b)) =
    ap Some (sym c.in-Some-true.field-0-test) ∙ c.in-Some-true.ensures ∙ (λ i. option_map (same_object Tree b) (find_named S (c.name_of-name.ensures i))) in
    record {
      named = c.name_of-name.ensures;
      accepted = same_refusal S Tree b fault same;
      stays = same_objects S Tree b fault same;
    }

pub returns-in-None : goal.returns-in-None
returns-in-None c =
    let S = c.args.self.now in
    let b = c.args.body.now in
    let fault = sym (ap (option_map error_of) c.requires.body) in
    let none : None ≡ option_map (same_object Tree b) (find_named S (name Tree b)) =
    c.in-None.ensures ∙ (λ i. option_map (same_object Tree b) (find_named S (c.name_of-name.ensures i))) in
    let new = is_new_object S Tree b fault none in
    record {
      named = c.name_of-name.ensures;
      accepted = new_refusal S Tree b fault new;
      joins = new_objects S Tree b fault new;
      new = ap (find_named S) c.name_of-name.ensures ∙ new;
      whole = fits S Tree b c.requires.body (bytes_fit _ c.type_inv.body);
      sized = c.fitting_listed_stats-stats.ensures;
    }
