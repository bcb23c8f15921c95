-- What a reader tells is replayable.
use Rattle.std.proofs.Common.{◌≡◌, ℕ, zero, suc, Bool, true, false, cond, ◌||◌, ◌+◌, length, Option, Some, None, Result, Ok, Err, refl, subst}
use Rattle.std.specs.Prelude.{codes}
use Rattle.git_objects.specs.Paths.{Bytes, same_bytes}
use Rattle.git_objects.specs.Results.{◌>>=◌}
use Rattle.git_objects.specs.declared.mode.Mode.{Mode}
use Rattle.git_objects.specs.declared.mode.Mode.TheVariants.{File, Exec, Link, Module, Dir}
use Rattle.stream_lex.specs.Cutting.{◌then◌, judged}
use Rattle.stream_lex.specs.Lines.{Input, Line, line_at}
use Rattle.stream_reader.specs.Blocks.{blob_data, message_data, tag_data}
use Rattle.stream_reader.specs.Changes.{ChangeLine, ModifyIs, DeleteIs, RenameIs, CopyIs, DeleteAllIs, NotesAre, EmptyIs, NoChange, blob_ref, change, change_line, data_part, dataref, fitting, mode, modify, modify_line}
use Rattle.stream_reader.specs.Commands.{gives, tag_turn, ends_at, CommandLine, EmptyLine, BlobLine, CommitLine, ResetLine, TagLine, IdleLine, WantsDone, DoneLine, RefusedLine, OtherLine, Told, Turn, between, between_at, by_event, changed, command_line, command_within, in_commit_at, read_command, turn, turn_in, turn_on}
use Rattle.stream_reader.specs.Heads.{blob, head, head_of, mark_in, mark_lines, must_say, parents, people, ref_in, ref_line, reset, said, tag, tagger_in}
use Rattle.stream_reader.specs.Names.{refname, tag_name}
use Rattle.stream_reader.specs.PathWords.{last_path, two_paths}
use Rattle.stream_reader.specs.Reading.{Judged, Read, Reader, fault, lifted, option_line, or_fault}
use Rattle.stream_reader.specs.Readers.{Reading, TellsNext}
use Rattle.stream_reader.specs.Replayable.{IfTold, is_fit, is_replayable}
use Rattle.stream_reader.specs.Words.{first_word}
use Rattle.stream_reader.specs.declared.command.BlobRef.TheVariants as blobs
use Rattle.stream_reader.specs.declared.command.Change.{Change}
use Rattle.stream_reader.specs.declared.command.Change.TheVariants as changes
use Rattle.stream_reader.specs.declared.command.Command.{Command}
use Rattle.stream_reader.specs.declared.command.Command.TheVariants as commands
use Rattle.stream_reader.specs.declared.command.Placed.{Placed}
use Rattle.stream_reader.specs.declared.commit_ref.CommitRef.{CommitRef}
use Rattle.stream_reader.specs.declared.fault.Feature.TheVariants as features
use Rattle.stream_reader.specs.declared.fault.StreamFault.{StreamFault}
use Rattle.stream_reader.specs.declared.fault.StreamFault.TheVariants.{Syntax, Unsupported}
use Rattle.stream_reader.specs.declared.modify.DataRef.{DataRef}
use Rattle.stream_reader.specs.declared.modify.DataRef.TheVariants as datas
use Rattle.stream_reader.specs.declared.modify.ModifyLine.{ModifyLine}
use Rattle.stream_reader.specs.declared.progress.Event.{Event}
use Rattle.stream_reader.specs.declared.progress.Event.TheVariants.{Gives, Skips, Ends}
use Rattle.stream_reader.specs.declared.progress.Manner.{Manner}
use Rattle.stream_reader.specs.declared.progress.Phase.{Phase}
use Rattle.stream_reader.specs.declared.progress.Phase.TheVariants.{Between, InCommit, Finished}
use Rattle.stream_reader.specs.declared.progress.Progress.{Progress}
use Rattle.stream_reader.specs.declared.reader.Next.{Next}
use Rattle.stream_reader.specs.declared.reader.Next.TheVariants as nexts

-- ---- a fact of what is judged or read

abbrev pub OnValue : {A E : Type 0} → (A → Type 0) → Result A E → Type 0
OnValue P (Ok x) = P x
OnValue P (Err e) = Unit {0}

pub any_value : {A E : Type 0} (r : Result A E) → OnValue (λ _. Unit {0}) r
any_value (Ok x) = tt
any_value (Err e) = tt

pub value_bind : {A B E : Type 0} (Q : A → Type 0) (P : B → Type 0) (r : Result A E) (f : A → Result B E) → OnValue Q r → ((x : A) → Q x → OnValue P (f x)) → OnValue P (r >>= f)
value_bind Q P (Ok x) f h g = g x h
value_bind Q P (Err e) f h g = tt

-- a test that comes before
pub value_if : {A E : Type 0} (P : A → Type 0) (b : Bool) (x y : Result A E) → (b ≡ true → OnValue P x) → (b ≡ false → OnValue P y) → OnValue P (cond b x y)
value_if P true x y h g = h refl
value_if P false x y h g = g refl

-- ---- the line of a change

abbrev pub NotDir : Mode → Type 0
NotDir File = Unit {0}
NotDir Exec = Unit {0}
NotDir Link = Unit {0}
NotDir Module = Unit {0}
NotDir Dir = ⊥

abbrev DataFits : Mode → DataRef → Type 0
DataFits m (datas.Mark n) = is_fit m (blobs.Mark n) ≡ true
DataFits m (datas.Digits n) = is_fit m (blobs.Digits n) ≡ true
DataFits m datas.Inline = (b : Bytes) → is_fit m (blobs.Inline b) ≡ true

abbrev LineFits : ModifyLine → Type 0
LineFits l = DataFits l.mode l.blob

pub mode_fits : (at : ℕ) (w : Bytes) → OnValue NotDir (mode at w)
unfolding mode
mode_fits at w =
    value_if NotDir (same_bytes w (codes "100644") || same_bytes w (codes "644")) (Ok File) _ (λ _. tt)
    (λ _. value_if NotDir (same_bytes w (codes "100755") || same_bytes w (codes "755")) (Ok Exec) _ (λ _. tt)
    (λ _. value_if NotDir (same_bytes w (codes "120000")) (Ok Link) _ (λ _. tt)
    (λ _. value_if NotDir (same_bytes w (codes "160000")) (Ok Module) _ (λ _. tt)
    (λ _. value_if NotDir (same_bytes w (codes "040000") || same_bytes w (codes "40000")) (fault (Unsupported at features.DirectoryMode)) (fault (Syntax at)) (λ _. tt) (λ _. tt)))))

data_fits : (at : ℕ) (m : Mode) (d : DataRef) → NotDir m → OnValue (DataFits m) (fitting at m d)
data_fits at File (datas.Mark n) h = refl
data_fits at File (datas.Digits n) h = refl
data_fits at File datas.Inline h = λ b. refl
data_fits at Exec (datas.Mark n) h = refl
data_fits at Exec (datas.Digits n) h = refl
data_fits at Exec datas.Inline h = λ b. refl
data_fits at Link (datas.Mark n) h = refl
data_fits at Link (datas.Digits n) h = refl
data_fits at Link datas.Inline h = λ b. refl
data_fits at Module (datas.Mark n) h = tt
data_fits at Module (datas.Digits n) h = refl
data_fits at Module datas.Inline h = tt
data_fits at Dir d h = absurd h

part_fits : (at : ℕ) (m : Mode) (w : Bytes × Option Bytes) → NotDir m → OnValue LineFits (data_part at m w)
part_fits at m w h =
    value_bind (λ _. Unit {0}) LineFits (dataref at w.0) (λ d. fitting at m d >>= λ d. or_fault (Syntax at) w.1 >>= λ t. last_path at t >>= λ p. Ok (record { mode = m; blob = d; path = p })) (any_value (dataref at w.0))
    (λ d _. value_bind (DataFits m) LineFits (fitting at m d) (λ d. or_fault (Syntax at) w.1 >>= λ t. last_path at t >>= λ p. Ok (record { mode = m; blob = d; path = p })) (data_fits at m d h)
    (λ e f. value_bind (λ _. Unit {0}) LineFits (or_fault (Syntax at) w.1) (λ t. last_path at t >>= λ p. Ok (record { mode = m; blob = e; path = p })) (any_value (or_fault (Syntax at) w.1))
    (λ t _. value_bind (λ _. Unit {0}) LineFits (last_path at t) (λ p. Ok (record { mode = m; blob = e; path = p })) (any_value (last_path at t)) (λ p _. f))))

line_fits : (at : ℕ) (t : Bytes) → OnValue LineFits (modify_line at t)
unfolding modify_line
line_fits at t =
    let w = first_word t in
    value_bind NotDir LineFits (mode at w.0) (λ m. or_fault (Syntax at) w.1 >>= λ u. data_part at m (first_word u)) (mode_fits at w.0)
    (λ m h. value_bind (λ _. Unit {0}) LineFits (or_fault (Syntax at) w.1) (λ u. data_part at m (first_word u)) (any_value (or_fault (Syntax at) w.1)) (λ u _. part_fits at m (first_word u) h))

-- ---- changes

abbrev OnRead : {A : Type 0} → (A → Type 0) → Read A → Type 0
OnRead P r = OnValue (λ x. P x.0) r

read_bind : {A B : Type 0} (Q : A → Type 0) (P : B → Type 0) (r : Reader A) (f : A → Reader B) (ended : Bool) (i : Input) → OnRead Q (r ended i) → ((x : A) (j : Input) → Q x → OnRead P (f x ended j)) → OnRead P ((r then f) ended i)
read_bind Q P r f ended i h g = value_bind (λ x. Q x.0) (λ x. P x.0) (r ended i) (λ x. f x.0 ended x.1) h (λ x q. g x.0 x.1 q)

judged_read : {A : Type 0} (P : A → Type 0) (r : Judged A) (ended : Bool) (i : Input) → OnValue P r → OnRead P (judged r ended i)
judged_read P (Ok x) ended i h = h
judged_read P (Err e) ended i h = tt

blob_fits : (m : Mode) (d : DataRef) (ended : Bool) (i : Input) → DataFits m d → OnRead (λ b. is_fit m b ≡ true) (blob_ref d ended i)
blob_fits m (datas.Mark n) ended i h = h
blob_fits m (datas.Digits n) ended i h = h
blob_fits m datas.Inline ended i h =
    read_bind (λ _. Unit {0}) (λ b. is_fit m b ≡ true) blob_data (λ b ended i. Ok (blobs.Inline b, i)) ended i (any_value (blob_data ended i)) (λ b j _. h b)

abbrev ChangeFits : Change → Type 0
ChangeFits c = is_replayable (commands.Change c) ≡ true

modify_fits : (at : ℕ) (t : Bytes) (ended : Bool) (i : Input) → OnRead ChangeFits (modify at t ended i)
unfolding modify
modify_fits at t ended i =
    read_bind LineFits ChangeFits (judged (modify_line at t)) (λ l. blob_ref l.blob then λ b ended i. Ok (changes.Modify l.mode b l.path, i)) ended i (judged_read LineFits (modify_line at t) ended i (line_fits at t))
    (λ l j h. read_bind (λ b. is_fit l.mode b ≡ true) ChangeFits (blob_ref l.blob) (λ b ended i. Ok (changes.Modify l.mode b l.path, i)) ended j (blob_fits l.mode l.blob ended j h) (λ b k e. e))

change_fits : (at : ℕ) (l : ChangeLine) (ended : Bool) (i : Input) → OnRead ChangeFits (change at l ended i)
unfolding change
change_fits at (ModifyIs t) ended i = modify_fits at t ended i
change_fits at (DeleteIs t) ended i = read_bind (λ _. Unit {0}) ChangeFits (judged (last_path at t)) (λ p ended i. Ok (changes.Delete p, i)) ended i (judged_read (λ _. Unit {0}) (last_path at t) ended i (any_value (last_path at t))) (λ p j _. refl)
change_fits at (RenameIs t) ended i = read_bind (λ _. Unit {0}) ChangeFits (judged (two_paths at t)) (λ p ended i. Ok (changes.Rename p.0 p.1, i)) ended i (judged_read (λ _. Unit {0}) (two_paths at t) ended i (any_value (two_paths at t))) (λ p j _. refl)
change_fits at (CopyIs t) ended i = read_bind (λ _. Unit {0}) ChangeFits (judged (two_paths at t)) (λ p ended i. Ok (changes.Copy p.0 p.1, i)) ended i (judged_read (λ _. Unit {0}) (two_paths at t) ended i (any_value (two_paths at t))) (λ p j _. refl)
change_fits at DeleteAllIs ended i = refl
change_fits at NotesAre ended i = tt
change_fits at EmptyIs ended i = tt
change_fits at NoChange ended i = tt

-- ---- turns

abbrev EventFits : Event → Type 0
EventFits (Gives c) = is_replayable c.command ≡ true
EventFits Skips = Unit {0}
EventFits Ends = Unit {0}

abbrev TurnFits : Turn → Type 0
TurnFits t = EventFits t.event

abbrev CommandFits : Command → Type 0
CommandFits c = is_replayable c ≡ true

-- a command whose last part is made of what was read before it
last_fits : {A : Type 0} (r : Reader A) (make : A → Command) (ended : Bool) (i : Input) → ((x : A) → is_replayable (make x) ≡ true) → OnRead CommandFits ((r then λ x ended i. Ok (make x, i)) ended i)
last_fits r make ended i h = read_bind (λ _. Unit {0}) CommandFits r (λ x ended i. Ok (make x, i)) ended i (any_value (r ended i)) (λ x j _. h x)

-- a part before it
part_read : {A : Type 0} (r : Reader A) (f : A → Reader Command) (ended : Bool) (i : Input) → ((x : A) (j : Input) → OnRead CommandFits (f x ended j)) → OnRead CommandFits ((r then f) ended i)
part_read r f ended i h = read_bind (λ _. Unit {0}) CommandFits r f ended i (any_value (r ended i)) (λ x j _. h x j)

blob_command : (ended : Bool) (i : Input) → OnRead CommandFits (blob ended i)
unfolding blob
blob_command ended i = part_read mark_lines (λ m. blob_data then λ d ended i. Ok (commands.Blob m d, i)) ended i (λ m j. last_fits blob_data (λ d. commands.Blob m d) ended j (λ d. refl))

head_command : (at : ℕ) (t : Bytes) (ended : Bool) (i : Input) → OnRead CommandFits (head at t ended i)
unfolding head
head_command at t ended i =
    part_read (judged (refname at t)) (λ r. mark_lines then λ m. people then λ p. message_data then λ d. parents then λ q ended i. Ok (commands.Commit (head_of r m p d q), i)) ended i
    (λ r j. part_read mark_lines (λ m. people then λ p. message_data then λ d. parents then λ q ended i. Ok (commands.Commit (head_of r m p d q), i)) ended j
    (λ m k. part_read people (λ p. message_data then λ d. parents then λ q ended i. Ok (commands.Commit (head_of r m p d q), i)) ended k
    (λ p l. part_read message_data (λ d. parents then λ q ended i. Ok (commands.Commit (head_of r m p d q), i)) ended l
    (λ d n. last_fits parents (λ q. commands.Commit (head_of r m p d q)) ended n (λ q. refl)))))

reset_command : (at : ℕ) (t : Bytes) (ended : Bool) (i : Input) → OnRead CommandFits (reset at t ended i)
unfolding reset
reset_command at t ended i =
    part_read (judged (refname at t)) (λ r. ref_line (codes "from ") then λ f ended i. Ok (commands.Reset r f, i)) ended i
    (λ r j. last_fits (ref_line (codes "from ")) (λ f. commands.Reset r f) ended j (λ f. refl))

tag_command : (at : ℕ) (t : Option Bytes) (ended : Bool) (i : Input) → OnRead CommandFits (tag at t ended i)
unfolding tag
tag_command at t ended i =
    part_read (judged (tag_name at t)) (λ n. said (codes "mark ") mark_in then λ m. must_say (codes "from ") ref_in then λ f. behind n m f) ended i
    (λ n j. part_read (said (codes "mark ") mark_in) (λ m. must_say (codes "from ") ref_in then λ f. behind n m f) ended j
    (λ m k. part_read (must_say (codes "from ") ref_in) (λ f. behind n m f) ended k
    (λ f l. part_read (option_line (codes "original-oid ")) (λ o. from_tagger n m f) ended l
    (λ o q. part_read (must_say (codes "tagger ") tagger_in) (λ p. tag_data then λ d ended i. Ok (commands.Tag (record { name = n; from = f; mark = m; tagger = p; message = d }), i)) ended q
    (λ p s. last_fits tag_data (λ d. commands.Tag (record { name = n; from = f; mark = m; tagger = p; message = d })) ended s (λ d. refl))))))
  where
    from_tagger : Bytes → Option ℕ → CommitRef → Reader Command
    from_tagger n m f = must_say (codes "tagger ") tagger_in then λ p. tag_data then λ d ended i. Ok (commands.Tag (record { name = n; from = f; mark = m; tagger = p; message = d }), i)

    behind : Bytes → Option ℕ → CommitRef → Reader Command
    behind n m f = option_line (codes "original-oid ") then λ o. from_tagger n m f

tag_fits : (at : ℕ) (t : Option Bytes) (d : Manner) (b : Bool) (ended : Bool) (i : Input) → OnRead TurnFits (tag_turn at t d b ended i)
tag_fits at t d true ended i = read_bind CommandFits TurnFits (tag at t) (gives at Between d) ended i (tag_command at t ended i) (λ c j h. h)
tag_fits at t d false ended i = tt

between_fits : (l : CommandLine) (at : ℕ) (d : Manner) (ended : Bool) (i : Input) → OnRead TurnFits (between l at d ended i)
between_fits EmptyLine at d ended i = tt
between_fits BlobLine at d ended i = read_bind CommandFits TurnFits blob (gives at Between d) ended i (blob_command ended i) (λ c j h. h)
between_fits (CommitLine t) at d ended i = read_bind CommandFits TurnFits (head at t) (gives at InCommit d) ended i (head_command at t ended i) (λ c j h. h)
between_fits (ResetLine t) at d ended i = read_bind CommandFits TurnFits (reset at t) (gives at Between d) ended i (reset_command at t ended i) (λ c j h. h)
between_fits (TagLine t) at d ended i = tag_fits at t d d.takes_tags ended i
between_fits IdleLine at d ended i = tt
between_fits WantsDone at d ended i = tt
between_fits DoneLine at d ended i = refl
between_fits (RefusedLine f) at d ended i = tt
between_fits OtherLine at d ended i = tt

in_change : (k : ChangeLine) (at : ℕ) (d : Manner) (ended : Bool) (i : Input) → OnRead TurnFits ((change at k then λ c. gives at InCommit d (commands.Change c)) ended i)
in_change k at d ended i = read_bind ChangeFits TurnFits (change at k) (λ c. gives at InCommit d (commands.Change c)) ended i (change_fits at k ended i) (λ c j h. h)

changed_fits : (k : ChangeLine) (at : ℕ) (d : Manner) (ended : Bool) (before i : Input) → OnRead TurnFits (changed k at d ended before i)
changed_fits EmptyIs at d ended before i = refl
changed_fits NoChange at d ended before i = refl
changed_fits (ModifyIs t) at d ended before i = in_change (ModifyIs t) at d ended i
changed_fits (DeleteIs t) at d ended before i = in_change (DeleteIs t) at d ended i
changed_fits (RenameIs t) at d ended before i = in_change (RenameIs t) at d ended i
changed_fits (CopyIs t) at d ended before i = in_change (CopyIs t) at d ended i
changed_fits DeleteAllIs at d ended before i = in_change DeleteAllIs at d ended i
changed_fits NotesAre at d ended before i = in_change NotesAre at d ended i

between_here : (d : Manner) (ended : Bool) (x : Option Line × Input) → OnRead TurnFits (between_at d ended x)
between_here d ended (None, i) = end_fits d.wants_done
  where
    end_fits : (e : Bool) → OnRead TurnFits (ends_at i.at d e ended i)
    end_fits true = tt
    end_fits false = tt
between_here d ended (Some l, i) = between_fits (command_line l.bytes) l.place d ended i

in_commit_here : (d : Manner) (ended : Bool) (before : Input) (x : Option Line × Input) → OnRead TurnFits (in_commit_at d ended before x)
in_commit_here d ended before (None, i) = refl
in_commit_here d ended before (Some l, i) = changed_fits (change_line l.bytes) l.place d ended before i

phase_fits : (p : Phase) (d : Manner) (ended : Bool) (i : Input) → OnRead TurnFits (turn_in p d ended i)
phase_fits Between d ended i = value_bind (λ _. Unit {0}) (λ x. TurnFits x.0) (lifted (line_at ended i)) (between_at d ended) (any_value (lifted (line_at ended i))) (λ x _. between_here d ended x)
phase_fits InCommit d ended i = value_bind (λ _. Unit {0}) (λ x. TurnFits x.0) (lifted (line_at ended i)) (in_commit_at d ended i) (any_value (lifted (line_at ended i))) (λ x _. in_commit_here d ended i x)
phase_fits Finished d ended i = tt

turn_fits : (p : Progress) (ended : Bool) (i : Input) → OnRead TurnFits (turn p ended i)
unfolding turn
turn_fits p ended i = phase_fits p.phase p.manner ended i

-- ---- the next command

abbrev IsFitOption : Option Placed → Type 0
IsFitOption None = Unit {0}
IsFitOption (Some c) = is_replayable c.command ≡ true

abbrev ToldFits : Told → Type 0
ToldFits t = IsFitOption t.command

event_told : (next : Progress → Reader Told) (e : Event) (p : Progress) (ended : Bool) (i : Input) → EventFits e → ((q : Progress) (j : Input) → OnRead ToldFits (next q ended j)) → OnRead ToldFits (by_event next e p ended i)
event_told next (Gives c) p ended i h g = h
event_told next Skips p ended i h g = g p i
event_told next Ends p ended i h g = tt

within_fits : (n : ℕ) (p : Progress) (ended : Bool) (i : Input) → OnRead ToldFits (command_within n p ended i)
within_fits zero p ended i = tt
within_fits (suc n) p ended i = read_bind TurnFits ToldFits (turn p) (turn_on (command_within n)) ended i (turn_fits p ended i) (λ t j h. event_told (command_within n) t.event t.progress ended j h (λ q k. within_fits n q ended k))

command_fits : (p : Progress) (ended : Bool) (i : Input) → OnRead ToldFits (read_command p ended i)
unfolding read_command
command_fits p ended i = within_fits (length i.rest + 1) p ended i

-- what a reader tells
pub replayable : (result : Result Next StreamFault) (old new : Reading) → TellsNext result old new → IfTold result
replayable (Ok (nexts.Command p)) old new h = subst (λ (r : Read Told). OnRead ToldFits r) h.0 (command_fits old.progress old.ended old.input)
replayable (Ok nexts.More) old new h = tt
replayable (Ok nexts.Ended) old new h = tt
replayable (Err f) old new h = tt
