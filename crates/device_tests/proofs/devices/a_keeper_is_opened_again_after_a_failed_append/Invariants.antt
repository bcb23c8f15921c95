use Rattle.std.proofs.Common.{◌≡◌, false}
use Rattle.device_tests.proofs.devices.a_keeper_is_opened_again_after_a_failed_append.Given as goal

abbrev pub invariant-loop-step : goal.invariant-loop-step
invariant-loop-step g l = l.keeper.broken ≡ false
