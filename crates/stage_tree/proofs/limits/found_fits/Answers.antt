use Rattle.stage_tree.proofs.FoundFits.{depth_fits, longest_fits}
use Rattle.stage_tree.proofs.limits.found_fits.Goals as goal

pub returns-in-Components : goal.returns-in-Components
returns-in-Components c = depth_fits c.args.store.now c.requires.store c.args.found (cc) c.requires.held c.in-Some.stats c.in-Some.ensures c.args.room c.requires.room c.args.measure c.in-Components.is

pub returns-in-Bytes : goal.returns-in-Bytes
returns-in-Bytes c = longest_fits c.args.store.now c.requires.store c.args.found (cc) c.requires.held c.in-Some.stats c.in-Some.ensures c.args.room c.requires.room c.args.measure c.in-Bytes.is
