-- What a push refuses of a commit, one refusal after another.
use Rattle.std.specs.Prelude.{◌≡◌, refl, ◌+◌, length, Bool, true, false, Option, Some, None, Result, Ok}
use Rattle.std.specs.Option.{option_to_list}
use Rattle.std.specs.Cmp.Lexicographic.{bytes_decides}
use Rattle.std.proofs.Common.{ap, sym, true≢false}
use Rattle.git_objects.specs.Paths.{Bytes, is_nil}
use Rattle.git_objects.specs.Results.{◌>>=◌, must}
use Rattle.stream_reader.specs.declared.command.CommitHead.{CommitHead}
use Rattle.fast_import.specs.Replays.{Base, Replay, begun}
use Rattle.push_laws.specs.PushReplays.{StreamRefusal, NotAtHead, FurtherParents, chain_end, is_same_name}

-- ---- values that weren't refused

pub passed : (f : StreamRefusal) (b : Bool) (x : Result Replay StreamRefusal) (s : Replay) → (must f b >>= λ u. x) ≡ Ok s → (b ≡ true) × (x ≡ Ok s)
passed f true x s e = (refl, e)
passed f false x s e = cc

pub same-names : (m n : Option Bytes) → is_same_name m n ≡ true → m ≡ n
same-names None None e = refl
same-names (Some m) (Some n) e = ap Some ((bytes_decides m n).0 e)
same-names None (Some n) e = absurd (true≢false (sym e))
same-names (Some m) None e = absurd (true≢false (sym e))

-- what comes behind a commit's parent
abbrev pub unmerged : Base → Replay → CommitHead → Option Bytes → Result Replay StreamRefusal
unmerged base r h first = must (FurtherParents (length r.commits + 1)) (is_nil h.merges) >>= λ u. Ok (begun base r h first (option_to_list first))

abbrev pub at_head : Base → Option Bytes → Replay → CommitHead → Option Bytes → Result Replay StreamRefusal
at_head base from r h first = must (NotAtHead (chain_end from r) first) (is_same_name (chain_end from r) first) >>= λ u. unmerged base r h first
