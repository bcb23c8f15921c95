use Rattle.path_names.proofs.Readings as readings
use Rattle.path_names.proofs.laws.path_text_law.Goals as goal

pub returns : goal.returns
returns c = readings.path_text_law
