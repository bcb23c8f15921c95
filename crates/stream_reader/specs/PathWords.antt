-- Paths in lines.
use Rattle.std.specs.Prelude.{ℕ, Bool, cond, ◌==◌, nat_eq, [], ◌∷◌, drop, codes, Option, Some, None, Result, Ok, Err}
use Rattle.std.specs.Option.{option_map}
use Rattle.std.specs.List.{starts_with}
use Rattle.git_objects.specs.declared.quantity.Quantity.TheVariants as limits
use Rattle.git_objects.specs.Paths.{Bytes, Path, is_nil}
use Rattle.path_names.specs.declared.path.PathFault.{PathFault}
use Rattle.path_names.specs.declared.path.PathFault.TheVariants as paths
use Rattle.path_names.specs.PathTexts.{path_of}
use Rattle.path_names.specs.Quoting.{unquote}
use Rattle.stream_reader.specs.declared.fault.Feature.TheVariants.{EmptyPath}
use Rattle.stream_reader.specs.declared.fault.StreamFault.{StreamFault}
use Rattle.stream_reader.specs.declared.fault.StreamFault.TheVariants.{Unsupported, BadPath, Limit, OutOfMemory}
use Rattle.stream_reader.specs.Words.{first_word}
use Rattle.git_objects.specs.Results.{◌>>=◌}
use Rattle.stream_reader.specs.Reading.{Judged, fault, or_fault}

abbrev pub path_fault : ℕ → PathFault → StreamFault
path_fault at paths.Empty = Unsupported at EmptyPath
path_fault at paths.BadComponent = BadPath at
path_fault at paths.LongComponent = Limit at limits.Component
path_fault at paths.TooDeep = Limit at limits.PathDepth
path_fault at paths.TooLong = Limit at limits.PathBytes
path_fault at paths.OutOfMemory = OutOfMemory

abbrev pub path_by : ℕ → Result Path PathFault → Judged Path
path_by at (Ok p) = Ok p
path_by at (Err e) = fault (path_fault at e)

-- the path that a text names
abbrev pub path_at : ℕ → Bytes → Judged Path
path_at at t = path_by at (path_of t)

abbrev pub is_quoted : Bytes → Bool
is_quoted t = starts_with nat_eq t (codes "\"")

-- what stands between quotes, and what follows the closing one
abbrev pub unquoted_at : ℕ → Bytes → Judged (Bytes × Bytes)
unquoted_at at t = or_fault (BadPath at) (option_map (λ u. (u.0, drop u.1 t)) (unquote t))

-- A path up to the end of its line, between quotes or not.
unfoldable pub last_path : ℕ → Bytes → Judged Path
last_path at t =
    cond (is_quoted t) (unquoted_at at t >>= λ u. cond (is_nil u.1) (path_at at u.0) (fault (BadPath at))) (path_at at t)

-- behind a closing quote: the end of the line, or one space and what follows it
abbrev pub behind_quote : ℕ → Bytes → Judged (Option Bytes)
behind_quote at [] = Ok None
behind_quote at (x ∷ t) = cond (x == 32) (Ok (Some t)) (fault (BadPath at))

-- A path up to a space, between quotes or not, and what follows this space, or none where the line ends.
unfoldable pub first_path : ℕ → Bytes → Judged (Path × Option Bytes)
first_path at t =
    cond (is_quoted t)
    (unquoted_at at t >>= λ u. behind_quote at u.1 >>= λ r. path_at at u.0 >>= λ p. Ok (p, r))
    (path_at at (first_word t).0 >>= λ p. Ok (p, (first_word t).1))

-- Two paths.
unfoldable pub two_paths : ℕ → Bytes → Judged (Path × Path)
two_paths at t = first_path at t >>= λ f. or_fault (BadPath at) f.1 >>= λ r. last_path at r >>= λ q. Ok (f.0, q)
