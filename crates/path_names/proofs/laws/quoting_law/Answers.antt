use Rattle.path_names.proofs.Again.{round_trip}
use Rattle.path_names.proofs.laws.quoting_law.Goals as goal

pub returns : goal.returns
returns c = record { round_trip = round_trip }
