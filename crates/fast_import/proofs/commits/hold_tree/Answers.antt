use Rattle.std.proofs.Common.{sym, ◌∙◌}
use Rattle.fast_import.proofs.Keeping.{hold-new, hold-old}
use Rattle.fast_import.proofs.commits.hold_tree.Goals as goal

pub returns-clause-ok : goal.returns-clause-ok
returns-clause-ok c = hold-new c.args.made.name c.args.made.tree c.args.trees.now.entries c.insert.new.self.entries (sym c.contains_key.ensures ∙ c.if-contains_key.false) c.in_ok-insert.ensures.entries

pub returns-then-contains_key-clause-ok : goal.returns-then-contains_key-clause-ok
returns-then-contains_key-clause-ok c = hold-old c.args.made.name c.args.made.tree c.args.trees.now.entries (sym c.contains_key.ensures ∙ c.if-contains_key.true)
