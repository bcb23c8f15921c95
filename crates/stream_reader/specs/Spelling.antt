-- What commands are, in the bytes of a whole stream: i is what stands from a place on, j what is left behind.
use Rattle.std.specs.Prelude.{◌≡◌, ◌≢◌, ◌≤◌, ◌⊎◌, ℕ, zero, suc, true, false, List, [], ◌∷◌, ◌++◌, length, codes, Option, Some, None, Ok}
use Rattle.git_objects.specs.declared.limits.TheConstants.{BLOB_BYTES, MESSAGE_BYTES}
use Rattle.git_objects.specs.Paths.{Bytes}
use Rattle.git_objects.specs.Idents.{is_ident}
use Rattle.path_names.specs.RefNames.{is_ref_name}
use Rattle.tag_objects.specs.TagNames.{is_tag_name}
use Rattle.stream_lex.specs.Lines.{Input, Line}
use Rattle.stream_lex.specs.Spelling.{NextLine, NoLine, TakesBlock}
use Rattle.stream_reader.specs.declared.command.Command.{Command}
use Rattle.stream_reader.specs.declared.command.Command.TheVariants as commands
use Rattle.stream_reader.specs.declared.command.Change.{Change}
use Rattle.stream_reader.specs.declared.command.Change.TheVariants as changes
use Rattle.stream_reader.specs.declared.command.BlobRef.{BlobRef}
use Rattle.stream_reader.specs.declared.command.BlobRef.TheVariants as blobs
use Rattle.stream_reader.specs.declared.command.CommitHead.{CommitHead}
use Rattle.stream_reader.specs.declared.command.TagHead.{TagHead}
use Rattle.stream_reader.specs.declared.commit_ref.CommitRef.{CommitRef}
use Rattle.stream_reader.specs.declared.modify.DataRef.{DataRef}
use Rattle.stream_reader.specs.declared.modify.DataRef.TheVariants as datas
use Rattle.stream_reader.specs.declared.progress.Manner.{Manner}
use Rattle.stream_reader.specs.declared.progress.Phase.{Phase}
use Rattle.stream_reader.specs.declared.progress.Phase.TheVariants.{Between, InCommit, Finished}
use Rattle.stream_reader.specs.declared.progress.Progress.{Progress}
use Rattle.stream_reader.specs.declared.command.Placed.{Placed}
use Rattle.path_names.specs.Words.{number}
use Rattle.stream_reader.specs.Reading.{Judged}
use Rattle.stream_reader.specs.PathWords.{last_path, two_paths}
use Rattle.stream_reader.specs.Changes.{modify_line, is_notes}
use Rattle.stream_reader.specs.Heads.{mark_in, author_in, author_or, ref_in, merges_max}

-- ---- lines

-- The next line is the word and a text: t is this text, at the line's place.
pub record WordLine (word : Bytes) (i : Input) (t : Line) (j : Input) : Type 0 where
  pub line : Line
  pub next : NextLine i line j
  pub place : line.place ≡ t.place
  pub bytes : line.bytes ≡ word ++ t.bytes

-- There is no next line, or it begins with something else.
abbrev pub NoWord : Bytes → Input → Type 0
NoWord word i = ((j : Input) × NoLine i j) ⊎ ((l : Line) × (j : Input) × NextLine i l j × ((t : Bytes) → l.bytes ≢ word ++ t))

-- a line that may be missing
abbrev pub OptionLine : Bytes → Input → Option Line → Input → Type 0
OptionLine word i (Some t) j = WordLine word i t j
OptionLine word i None j = NoWord word i × (i ≡ j)

-- a line that may be missing, and what its text says
abbrev pub Said : {A : Type 0} → Bytes → (Line → Judged A) → Input → Option A → Input → Type 0
Said word says i (Some x) j = (t : Line) × WordLine word i t j × (says t ≡ Ok x)
Said word says i None j = NoWord word i × (i ≡ j)

-- ---- data

-- `data N`, and N bytes
pub record HasData (most : ℕ) (i : Input) (b : Bytes) (j : Input) : Type 0 where
  pub digits : Line
  pub behind : Input
  pub line : WordLine (codes "data ") i digits behind
  pub count : number digits.bytes ≡ Some (length b)
  pub within : length b ≤ most
  pub block : TakesBlock behind b j

-- ---- blobs, heads and resets

pub record HasMarks (i : Input) (m : Option ℕ) (j : Input) : Type 0 where
  pub middle : Input
  pub mark : Said (codes "mark ") mark_in i m middle
  pub other : Option Line
  pub name : OptionLine (codes "original-oid ") middle other j

pub record HasBlob (i : Input) (m : Option ℕ) (b : Bytes) (j : Input) : Type 0 where
  pub middle : Input
  pub marks : HasMarks i m middle
  pub content : HasData BLOB_BYTES middle b j

-- people.0 is the author, people.1 the committer
pub record HasPeople (i : Input) (people : Bytes × Bytes) (j : Input) : Type 0 where
  pub named : Option Bytes
  pub middle : Input
  pub first : Said (codes "author ") author_in i named middle
  pub place : ℕ
  pub line : WordLine (codes "committer ") middle (record { place = place; bytes = people.1 }) j
  pub ident : is_ident people.1 ≡ true
  pub author : people.0 ≡ author_or people.1 named

-- lines `merge NAME`, and none behind them
abbrev pub HasMerges : List CommitRef → Input → Input → Type 0
HasMerges [] i j = NoWord (codes "merge ") i × (i ≡ j)
HasMerges (r ∷ rs) i j = (k : Input) × Said (codes "merge ") ref_in i (Some r) k × HasMerges rs k j

pub record HasParents (i : Input) (from : Option CommitRef) (merges : List CommitRef) (j : Input) : Type 0 where
  pub middle : Input
  pub first : Said (codes "from ") ref_in i from middle
  pub others : HasMerges merges middle j
  pub few : length merges ≤ merges_max from

-- what stands behind the line `commit REF`
pub record HasHead (i : Input) (h : CommitHead) (j : Input) : Type 0 where
  pub named : is_ref_name h.refname ≡ true
  pub a : Input
  pub marks : HasMarks i h.mark a
  pub b : Input
  pub people : HasPeople a (h.author, h.committer) b
  pub c : Input
  pub message : HasData MESSAGE_BYTES b h.message c
  pub parents : HasParents c h.from h.merges j

-- what stands behind the line `tag NAME`
pub record HasTag (i : Input) (h : TagHead) (j : Input) : Type 0 where
  pub named : is_tag_name h.name ≡ true
  pub a : Input
  pub mark : Said (codes "mark ") mark_in i h.mark a
  pub b : Input
  pub from : Said (codes "from ") ref_in a (Some h.from) b
  pub c : Input
  pub other : Option Line
  pub name : OptionLine (codes "original-oid ") b other c
  pub d : Input
  pub place : ℕ
  pub tagger : WordLine (codes "tagger ") c (record { place = place; bytes = h.tagger }) d
  pub ident : is_ident h.tagger ≡ true
  pub message : HasData MESSAGE_BYTES d h.message j

-- ---- changes

abbrev pub HasBlobRef : DataRef → Input → BlobRef → Input → Type 0
HasBlobRef (datas.Mark n) i b j = (b ≡ blobs.Mark n) × (i ≡ j)
HasBlobRef (datas.Digits n) i b j = (b ≡ blobs.Digits n) × (i ≡ j)
HasBlobRef datas.Inline i b j = (c : Bytes) × HasData BLOB_BYTES i c j × (b ≡ blobs.Inline c)

-- a change whose first line has these bytes and stands at a place, behind this line
abbrev pub HasChange : ℕ → Bytes → Input → Change → Input → Type 0
HasChange at l i (changes.Modify m b p) j =
    (t : Bytes) × (d : DataRef) × (l ≡ codes "M " ++ t) × (modify_line at t ≡ Ok (record { mode = m; blob = d; path = p })) × HasBlobRef d i b j
HasChange at l i (changes.Delete p) j = (t : Bytes) × (l ≡ codes "D " ++ t) × (last_path at t ≡ Ok p) × (i ≡ j)
HasChange at l i (changes.Rename p q) j = (t : Bytes) × (l ≡ codes "R " ++ t) × (two_paths at t ≡ Ok (p, q)) × (i ≡ j)
HasChange at l i (changes.Copy p q) j = (t : Bytes) × (l ≡ codes "C " ++ t) × (two_paths at t ≡ Ok (p, q)) × (i ≡ j)
HasChange at l i changes.DeleteAll j = (l ≡ codes "deleteall") × (i ≡ j)

-- A line that is no change and isn't empty ends a commit and stays.
pub record IsOther (l : Bytes) : Type 0 where
  pub some : l ≢ []
  pub modify : (t : Bytes) → l ≢ codes "M " ++ t
  pub delete : (t : Bytes) → l ≢ codes "D " ++ t
  pub rename : (t : Bytes) → l ≢ codes "R " ++ t
  pub copy : (t : Bytes) → l ≢ codes "C " ++ t
  pub all : l ≢ codes "deleteall"
  pub notes : is_notes l ≡ false

-- ---- commands

-- a line of these bytes at a place
abbrev pub line_of : ℕ → Bytes → Line
line_of at b = record { place = at; bytes = b }

-- What stands between i and j is one spelling of the command, whose first line stands at a place; d says whether tags are read.
abbrev pub Spells : Manner → Phase → Input → ℕ → Command → Input → Type 0
Spells d Between i at (commands.Blob m b) j = (k : Input) × NextLine i (line_of at (codes "blob")) k × HasBlob k m b j
Spells d Between i at (commands.Commit h) j = (k : Input) × WordLine (codes "commit ") i (line_of at h.refname) k × HasHead k h j
Spells d Between i at (commands.Reset r f) j =
    (k : Input) × WordLine (codes "reset ") i (line_of at r) k × (is_ref_name r ≡ true) × Said (codes "from ") ref_in k f j
Spells d Between i at (commands.Tag h) j =
    (d.takes_tags ≡ true) × (k : Input) × WordLine (codes "tag ") i (line_of at h.name) k × HasTag k h j
Spells d Between i at commands.Done j = NextLine i (line_of at (codes "done")) j
Spells d Between i at (commands.Change c) j = ⊥
Spells d Between i at commands.CommitEnd j = ⊥
Spells d InCommit i at (commands.Change c) j = (l : Bytes) × (k : Input) × NextLine i (line_of at l) k × HasChange at l k c j
Spells d InCommit i at commands.CommitEnd j =
    (NoLine i j × (at ≡ j.at)) ⊎ NextLine i (line_of at []) j ⊎ ((l : Bytes) × (k : Input) × NextLine i (line_of at l) k × IsOther l × (j ≡ i))
Spells d InCommit i at (commands.Blob m b) j = ⊥
Spells d InCommit i at (commands.Commit h) j = ⊥
Spells d InCommit i at (commands.Reset r f) j = ⊥
Spells d InCommit i at (commands.Tag h) j = ⊥
Spells d InCommit i at commands.Done j = ⊥
Spells d Finished i at c j = ⊥

-- what is expected behind a command
abbrev pub phase_behind : Command → Phase
phase_behind (commands.Blob m b) = Between
phase_behind (commands.Commit h) = InCommit
phase_behind (commands.Change c) = InCommit
phase_behind commands.CommitEnd = Between
phase_behind (commands.Reset r f) = Between
phase_behind (commands.Tag h) = Between
phase_behind commands.Done = Finished

-- ---- lines that give no command, and the end

-- empty, `progress` with a text, or `checkpoint`
abbrev pub IsIdle : Bytes → Type 0
IsIdle l = (l ≡ []) ⊎ ((t : Bytes) × (l ≡ codes "progress " ++ t)) ⊎ (l ≡ codes "checkpoint")

-- such a line between commands, or `feature done`; d and e say how is read before and behind it
abbrev pub Passes : Input → Manner → Input → Manner → Type 0
Passes i d j e = (l : Line) × NextLine i l j × ((IsIdle l.bytes × (e ≡ d)) ⊎ ((l.bytes ≡ codes "feature done") × (e ≡ record d { wants_done = true })))

-- behind a command
abbrev pub behind : Progress → Command → Progress
behind p c = record { phase = phase_behind c; manner = p.manner }

-- behind n such lines
abbrev pub PassesLines : ℕ → Progress → Input → Progress → Input → Type 0
PassesLines zero p i q j = (p ≡ q) × (i ≡ j)
PassesLines (suc n) p i q j =
    (p.phase ≡ Between) × (k : Input) × (d : Manner) × Passes i p.manner k d × PassesLines n (record { phase = Between; manner = d }) k q j

abbrev pub Reaches : Progress → Input → Progress → Input → Type 0
Reaches p i q j = (n : ℕ) × PassesLines n p i q j

-- the stream ends, or `done` was read
abbrev pub EndsHere : Progress → Input → Type 0
EndsHere p i = (p.phase ≡ Finished) ⊎ ((p.phase ≡ Between) × (p.manner.wants_done ≡ false) × (j : Input) × NoLine i j)

-- ---- whole streams

-- These commands are spelled one behind the other, up to the end of the stream.
abbrev pub SpellsAll : List Placed → Progress → Input → Type 0
SpellsAll [] p i = (q : Progress) × (k : Input) × Reaches p i q k × EndsHere q k
SpellsAll (c ∷ cs) p i =
    (q : Progress) × (k : Input) × (j : Input) × Reaches p i q k × Spells q.manner q.phase k c.at c.command j × SpellsAll cs (behind q c.command) j
