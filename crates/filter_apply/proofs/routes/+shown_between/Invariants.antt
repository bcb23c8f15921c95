use Rattle.std.proofs.Common.{◌-◌}
use Rattle.filter_apply.proofs.routes.+shown_between.Given as goal

abbrev pub decreases-shown_between : goal.decreases-shown_between
decreases-shown_between g l = l.last - l.first
