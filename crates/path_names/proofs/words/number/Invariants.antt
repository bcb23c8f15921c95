use Rattle.std.proofs.Common.{◌≡◌, ◌<◌, ◌^◌, drop}
use Rattle.path_names.specs.Words.{number_from}
use Rattle.path_names.proofs.words.number.Given as goal

abbrev pub invariant-loop-k : goal.invariant-loop-k
invariant-loop-k l = record { same : number_from l.n (drop l.k l.text) ≡ number_from 0 l.text; small : l.n < 10 ^ l.k }
