use Rattle.stream_reader.proofs.Reading.{fault_law}
use Rattle.stream_reader.proofs.laws.fault_law.Goals as goal

pub returns : goal.returns
returns c = fault_law
