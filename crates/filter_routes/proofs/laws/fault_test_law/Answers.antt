use Rattle.filter_routes.proofs.FaultsTold.{fault-test-law}
use Rattle.filter_routes.proofs.laws.fault_test_law.Goals as goal

pub returns : goal.returns
returns c = fault-test-law
