use Rattle.std.proofs.Common.{rules, tests}
use Rattle.std.proofs.lemmas.Iterator.Search.{all_from_yields_List}
use Rattle.std.proofs.lemmas.Iterator.Splits.{YieldsList-from_slice_split}
use Rattle.path_names.specs.RefNames.{is_ref_part}
use Rattle.path_names.proofs.ref_name.has_ref_parts.Goals as goal

pub returns : goal.returns
returns c =
    all_from_yields_List is_ref_part _ _ _ c.all.ensures.ran
    (YieldsList-from_slice_split _ _ c.args.t.now c.split.ensures.rest c.split.ensures.done
    c.split.ensures.closure (λ x r q k. search (rules, tests)))
    (λ x b q k. search (rules, tests))
