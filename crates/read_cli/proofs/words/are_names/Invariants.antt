use Rattle.std.proofs.Common.{◌≡◌, drop, map, string_bytes}
use Rattle.std.specs.Option.{is_some}
use Rattle.read_cli.specs.Readings.{names_of}
use Rattle.read_cli.proofs.words.are_names.Given as goal

abbrev pub invariant-loop-word : goal.invariant-loop-word
invariant-loop-word l = is_some (names_of (map (λ word. string_bytes word) l.words)) ≡ is_some (names_of (map (λ word. string_bytes word) (drop l.word-index l.words)))
