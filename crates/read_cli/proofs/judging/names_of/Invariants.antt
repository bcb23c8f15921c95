use Rattle.std.proofs.Common.{◌≡◌, ◌++◌, List, drop, map, string_bytes}
use Rattle.std.specs.Option.{option_map}
use Rattle.git_objects.specs.Paths.{Bytes}
use Rattle.git_objects.specs.Parts.{name_bytes}
use Rattle.read_cli.specs.Readings.{names_of}
use Rattle.read_cli.proofs.judging.names_of.Given as goal

abbrev pub invariant-loop-word : goal.invariant-loop-word
invariant-loop-word l =
    names_of (map (λ word. string_bytes word) l.words)
    ≡ option_map (λ (ns : List Bytes). map name_bytes l.names.items ++ ns) (names_of (map (λ word. string_bytes word) (drop l.word-index l.words)))
