-- How lines name refs, commits and people.
use Rattle.std.specs.Prelude.{◌-◌, ℕ, cond, nat_eq, length, take, replicate, codes, Option, Some, None, Ok}
use Rattle.std.specs.List.{starts_with, ends_with}
use Rattle.git_objects.specs.Paths.{Bytes, same_bytes}
use Rattle.git_objects.specs.Idents.{is_ident}
use Rattle.git_objects.specs.CommitBodies.{digits_name}
use Rattle.git_objects.specs.declared.name.Name.{Name}
use Rattle.path_names.specs.RefNames.{is_ref_name}
use Rattle.tag_objects.specs.TagNames.{is_tag_name}
use Rattle.stream_reader.specs.declared.fault.Feature.TheVariants.{ZeroName}
use Rattle.stream_reader.specs.declared.fault.StreamFault.TheVariants.{Syntax, Unsupported}
use Rattle.stream_reader.specs.declared.commit_ref.Target.{Target}
use Rattle.stream_reader.specs.declared.commit_ref.Target.TheVariants as targets
use Rattle.stream_reader.specs.Words.{mark}
use Rattle.git_objects.specs.Results.{◌>>=◌}
use Rattle.stream_reader.specs.Reading.{Judged, fault, or_fault}

-- at is the place of the line in which the text stands
abbrev pub refname : ℕ → Bytes → Judged Bytes
refname at t = cond (is_ref_name t) (Ok t) (fault (Syntax at))

-- the name of a tag, where the line goes on behind its word
abbrev pub tag_name : ℕ → Option Bytes → Judged Bytes
tag_name at None = fault (Syntax at)
tag_name at (Some t) = cond (is_tag_name t) (Ok t) (fault (Syntax at))

abbrev pub ident : ℕ → Bytes → Judged Bytes
ident at t = cond (is_ident t) (Ok t) (fault (Syntax at))

abbrev pub name_of : Option Bytes → Option Name
name_of None = None
name_of (Some n) = Some (record { 0 = n })

-- the name of 20 bytes, which aren't all zero
abbrev pub some_name : ℕ → Bytes → Judged Name
some_name at n = cond (same_bytes n (replicate 20 0)) (fault (Unsupported at ZeroName)) (Ok (record { 0 = n }))

-- without a `^0` at its end
abbrev pub without_zero : Bytes → Bytes
without_zero t = cond (ends_with nat_eq t (codes "^0")) (take (length t - 2) t) t

-- a text that 40 digits may be
abbrev pub target_by : ℕ → Bytes → Option Bytes → Judged Target
target_by at t (Some n) = some_name at n >>= λ x. Ok (targets.Digits x)
target_by at t None = refname at (without_zero t) >>= λ r. Ok (targets.Ref r)

-- A commit: a mark, 40 digits of either case, or a ref name with or without `^0`.
unfoldable pub target : ℕ → Bytes → Judged Target
target at t =
    cond (starts_with nat_eq t (codes ":")) (or_fault (Syntax at) (mark t) >>= λ n. Ok (targets.Mark n))
    (target_by at t (digits_name t))
