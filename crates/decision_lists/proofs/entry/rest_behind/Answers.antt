use Rattle.std.proofs.Common.{rules, ◌≤◌, length, sym, ◌∙◌}
use Rattle.decision_lists.proofs.Making.{rest-is, strip-length}
use Rattle.decision_lists.proofs.entry.rest_behind.Goals as goal

pub slice_bounds-result-count : goal.slice_bounds-result-count
slice_bounds-result-count c = strip-length c.args.front.now c.args.path.now (sym c.begins.ensures ∙ c.if-not-begins.false)

pub slice_bounds-result-start : goal.slice_bounds-result-start
slice_bounds-result-start c =
    let short : length c.args.front.now ≤ length c.args.path.now = strip-length c.args.front.now c.args.path.now (sym c.begins.ensures ∙ c.if-not-begins.false) in
    search (rules, short)

pub returns : goal.returns
returns c = rest-is c.args.front.now c.args.path.now (sym c.begins.ensures ∙ c.if-not-begins.false)
