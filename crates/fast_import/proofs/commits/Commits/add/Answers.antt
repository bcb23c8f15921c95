use Rattle.std.proofs.Common.{◌∷◌, [], ◌++◌, ◌≡◌, ap, arith, length, length-append}
use Rattle.std.proofs.lemmas.Grind.{common_steps}
use Rattle.fast_import.proofs.Keeping.{trees-push}
use Rattle.fast_import.proofs.commits.Commits.add.Goals as goal

pub invariant_of-self-2 : goal.invariant_of-self-2
invariant_of-self-2 c =
    let pushed : c.push-pushed.new.self.items ≡ c.self.inside.made.items ++ c.args.made ∷ [] = grind (arith, common_steps) in
    record {
      found = trees-push c.self.inside.trees.entries c.hold_tree.new.trees.entries c.self.inside.made.items c.push-pushed.new.self.items c.args.made c.self.invariant.found pushed c.in_ok-hold_tree.ensures.ok;
      few = omega (arith, c.len.ensures, c.if-len-ge-STREAM_BYTES.false, ap length pushed, length-append c.self.inside.made.items (c.args.made ∷ []));
    }
