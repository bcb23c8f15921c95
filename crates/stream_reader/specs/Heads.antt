-- Blobs, the heads of commits, and resets.
use Rattle.std.specs.Prelude.{ℕ, zero, suc, ◌-◌, ◌++◌, ◌∷◌, [], List, codes, Option, Some, None, Ok}
use Rattle.git_objects.specs.declared.limits.TheConstants.{PARENTS}
use Rattle.git_objects.specs.declared.quantity.Quantity.TheVariants as limits
use Rattle.git_objects.specs.Paths.{Bytes}
use Rattle.stream_lex.specs.Lines.{Line}
use Rattle.stream_reader.specs.declared.fault.StreamFault.TheVariants.{Syntax, Limit}
use Rattle.stream_reader.specs.declared.command.Command.{Command}
use Rattle.stream_reader.specs.declared.command.Command.TheVariants as commands
use Rattle.stream_reader.specs.declared.command.CommitHead.{CommitHead}
use Rattle.stream_reader.specs.declared.commit_ref.CommitRef.{CommitRef}
use Rattle.stream_reader.specs.Words.{mark}
use Rattle.git_objects.specs.Results.{◌>>=◌}
use Rattle.stream_lex.specs.Cutting.{◌then◌, judged, pure, refuse}
use Rattle.stream_reader.specs.Reading.{Judged, Reader, or_fault, option_line, need_line}
use Rattle.stream_reader.specs.Names.{refname, tag_name, ident, target}
use Rattle.stream_reader.specs.Blocks.{blob_data, message_data, tag_data}
use Rattle.git_objects.specs.CommitBodies.{strip}

abbrev pub if_some : {A : Type 0} → (Line → Judged A) → Option Line → Judged (Option A)
if_some says None = Ok None
if_some says (Some l) = says l >>= λ x. Ok (Some x)

-- a line that begins with a word and may be missing, and what its text says
abbrev pub said : {A : Type 0} → Bytes → (Line → Judged A) → Reader (Option A)
said word says = option_line word then λ l. judged (if_some says l)

-- ---- marks

abbrev pub mark_in : Line → Judged ℕ
mark_in l = or_fault (Syntax l.place) (mark l.bytes)

-- The lines `mark :N` and `original-oid TEXT`, each of which may be missing.
unfoldable pub mark_lines : Reader (Option ℕ)
mark_lines = said (codes "mark ") mark_in then λ m. option_line (codes "original-oid ") then λ o. pure m

-- What stands behind the line `blob`.
unfoldable pub blob : Reader Command
blob = mark_lines then λ m. blob_data then λ d. pure (commands.Blob m d)

-- ---- people

-- the committer where there is no author
abbrev pub author_or : Bytes → Option Bytes → Bytes
author_or c None = c
author_or c (Some a) = a

abbrev pub author_in : Line → Judged Bytes
author_in l = ident l.place l.bytes

abbrev pub committer_by : ℕ → Option Bytes → Judged Bytes
committer_by at t = or_fault (Syntax at) t >>= ident at

abbrev pub committer_of : Line → Judged Bytes
committer_of l = committer_by l.place (strip (codes "committer ") l.bytes)

-- The line `author IDENT`, which may be missing, and the line `committer IDENT`.
unfoldable pub people : Reader (Bytes × Bytes)
people =
    said (codes "author ") author_in then λ a. need_line then λ l. judged (committer_of l) then λ c. pure (author_or c a, c)

-- ---- parents

abbrev pub ref_in : Line → Judged CommitRef
ref_in l = target l.place l.bytes >>= λ t. Ok (record { at = l.place; target = t })

-- A line of a word and a commit's name, which may be missing.
unfoldable pub ref_line : Bytes → Reader (Option CommitRef)
ref_line word = said word ref_in

abbrev pub more_merges : List CommitRef → (CommitRef → Reader (List CommitRef)) → Option CommitRef → Reader (List CommitRef)
more_merges done next None = pure done
more_merges done next (Some r) = next r

-- Behind the merges that are done, any number of lines `merge NAME`, but at most n.
abbrev pub merges : ℕ → List CommitRef → Reader (List CommitRef)
merges zero done = ref_line (codes "merge ") then more_merges done (λ r. refuse (Limit r.at limits.Parents))
merges (suc n) done = ref_line (codes "merge ") then more_merges done (λ r. merges n (done ++ r ∷ []))

-- how many merges a commit may have beside its first parent
abbrev pub merges_max : Option CommitRef → ℕ
merges_max None = PARENTS
merges_max (Some r) = PARENTS - 1

-- The line `from NAME`, which may be missing, and any number of lines `merge NAME`.
unfoldable pub parents : Reader (Option CommitRef × List CommitRef)
parents = ref_line (codes "from ") then λ f. merges (merges_max f) [] then λ m. pure (f, m)

-- ---- heads and resets, by the text behind `commit` or `reset` and a space

abbrev pub head_of : Bytes → Option ℕ → Bytes × Bytes → Bytes → Option CommitRef × List CommitRef → CommitHead
head_of r m p d q = record { refname = r; mark = m; author = p.0; committer = p.1; message = d; from = q.0; merges = q.1 }

unfoldable pub head : ℕ → Bytes → Reader Command
head at t =
    judged (refname at t) then λ r. mark_lines then λ m. people then λ p. message_data then λ d. parents then λ q.
    pure (commands.Commit (head_of r m p d q))

unfoldable pub reset : ℕ → Bytes → Reader Command
reset at t = judged (refname at t) then λ r. ref_line (codes "from ") then λ f. pure (commands.Reset r f)

-- ---- tags, by the text behind `tag` and a space

-- what stands behind a word, which must be there
abbrev pub behind_word : Bytes → Line → Judged Line
behind_word word l = or_fault (Syntax l.place) (strip word l.bytes) >>= λ t. Ok (record { place = l.place; bytes = t })

-- The next line, which must begin with a word, and what its text says.
abbrev pub must_say : {A : Type 0} → Bytes → (Line → Judged A) → Reader A
must_say word says = need_line then λ l. judged (behind_word word l >>= says)

abbrev pub tagger_in : Line → Judged Bytes
tagger_in l = ident l.place l.bytes

unfoldable pub tag : ℕ → Option Bytes → Reader Command
tag at t =
    judged (tag_name at t) then λ n. said (codes "mark ") mark_in then λ m. must_say (codes "from ") ref_in then λ f.
    option_line (codes "original-oid ") then λ o. must_say (codes "tagger ") tagger_in then λ p. tag_data then λ d.
    pure (commands.Tag (record { name = n; from = f; mark = m; tagger = p; message = d }))
