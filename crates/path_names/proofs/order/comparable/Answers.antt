use Rattle.std.proofs.Common.{rules, tests, ◌∙◌}
use Rattle.std.proofs.lemmas.Iterator.{YieldsList-from_slice, YieldsList-from_zip}
use Rattle.std.proofs.lemmas.Iterator.Search.{all_from_yields_List}
use Rattle.git_objects.specs.Paths.{same_bytes}
use Rattle.path_names.proofs.Comparables.{zip-comparable}
use Rattle.path_names.proofs.order.comparable.Goals as goal

pub returns : goal.returns
returns c =
    all_from_yields_List (λ e. same_bytes e.0 e.1) c.all.new.self _ _ c.all.ensures.ran
    (YieldsList-from_zip (YieldsList-from_slice c.args.a.now (cc)) (YieldsList-from_slice c.args.b.now (cc)))
    (λ x b q k. search (rules, tests))
    ∙ zip-comparable c.args.a.now c.args.b.now
