-- What the clauses of a command see of its devices.
use Rattle.std.specs.Prelude.{ℕ, List, Option}
use Rattle.proj_io.specs.Views.{source_view, sink_view, keeper_view}
use Rattle.proj_cli.specs.Answers.{Devices}

abbrev pub devices : {S O K : Type 0} → (S → Option (List ℕ)) → (S → ℕ) → (O → Option (List ℕ)) → (O → ℕ) → (O → ℕ) → (K → Option (List (List ℕ))) → (K → ℕ) → (K → ℕ) → S → O → K → Devices
devices left read written faults refusals items number kept source sink keeper =
    record { input = source_view left read source; out = sink_view written faults refusals sink; store = keeper_view items number kept keeper }
