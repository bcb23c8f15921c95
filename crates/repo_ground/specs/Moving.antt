-- Refs in order of arrival that get other commits.
use Rattle.std.specs.Prelude.{Bool, not, false, fold}
use Rattle.std.specs.Option.{option_map_or}
use Rattle.git_objects.specs.Paths.{Bytes, same_bytes}
use Rattle.git_objects.specs.Refs.{Refs}
use Rattle.ref_store.specs.Refs.{head_of, with_head}

-- whether a ref gets another commit
abbrev pub moves_in : Refs → Bytes × Bytes → Bool
moves_in refs e = not (option_map_or (same_bytes e.1) (head_of refs e.0) false)

-- each set in turn
abbrev pub with_heads : Refs → Refs → Refs
with_heads refs es = fold (λ m e. with_head m e.0 e.1) refs es
