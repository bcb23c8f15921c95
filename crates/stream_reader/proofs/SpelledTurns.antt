-- Commands are read exactly where they are spelled.
use Rattle.std.proofs.Common.{◌≡◌, ◌⊎◌, inl, inr, ℕ, Bool, true, false, cond, [], ◌++◌, Option, Some, None, Result, Ok, Err, refl, sym, ap, ◌∙◌, subst}
use Rattle.std.specs.Prelude.{codes}
use Rattle.std.specs.Cmp.Lexicographic.{bytes_decides}
use Rattle.git_objects.specs.Paths.{Bytes, same_bytes}
use Rattle.git_objects.specs.CommitBodies.{strip}
use Rattle.git_objects.proofs.CommitReading.{strip-spelled}
use Rattle.stream_lex.specs.declared.stop.Stop.{Stop}
use Rattle.stream_lex.specs.declared.stop.LimitFault.{LimitFault}
use Rattle.stream_lex.specs.Lines.{Input, Line, line_at}
use Rattle.stream_lex.specs.Spelling.{NextLine, NoLine}
use Rattle.stream_lex.proofs.Spelled.{Spelled, line_at-spelled, line_at-again, line_at-none}
use Rattle.stream_reader.specs.declared.command.Command.{Command}
use Rattle.stream_reader.specs.declared.command.Command.TheVariants as commands
use Rattle.stream_reader.specs.declared.command.Change.{Change}
use Rattle.stream_reader.specs.declared.command.Placed.{Placed}
use Rattle.stream_reader.specs.declared.progress.Manner.{Manner}
use Rattle.stream_reader.specs.declared.progress.Phase.{Phase}
use Rattle.stream_reader.specs.declared.progress.Phase.TheVariants.{Between, InCommit, Finished}
use Rattle.stream_reader.specs.declared.progress.Progress.{Progress}
use Rattle.stream_reader.specs.declared.progress.Event.{Event}
use Rattle.stream_reader.specs.declared.progress.Event.TheVariants.{Gives, Skips, Ends}
use Rattle.stream_reader.specs.Words.{first_word}
use Rattle.git_objects.specs.Results.{◌>>=◌}
use Rattle.stream_lex.specs.Cutting.{◌then◌}
use Rattle.stream_reader.specs.Reading.{Read, lifted}
use Rattle.stream_reader.specs.Heads.{blob, head, reset, tag}
use Rattle.stream_reader.specs.Changes.{change, change_line, ChangeLine, ModifyIs, DeleteIs, RenameIs, CopyIs, DeleteAllIs, NotesAre, EmptyIs, NoChange}
use Rattle.stream_reader.specs.Commands.{CommandLine, EmptyLine, BlobLine, CommitLine, ResetLine, TagLine, IdleLine, WantsDone, DoneLine, RefusedLine, OtherLine, feature_by, refused_line, with_word, by_word, by_text, command_line, Turn, turned, gives, tag_turn, between, ends_at, between_at, changed, in_commit_at, turn_in, turn}
use Rattle.stream_reader.specs.Spelling.{WordLine, line_of, Spells, phase_behind, IsIdle, Passes, behind, EndsHere}
use Rattle.stream_reader.proofs.SpelledHeads.{BlobIs, blob-reads, HeadIs, head-reads, ResetIs, reset-reads, TagIs, tag-reads}
use Rattle.stream_reader.proofs.SpelledChanges.{ChangeTold, change_told, change_was, ReadsChange, change_again, empty_again, other_again}

-- ---- lines by their first word

abbrev CommandTold : Bytes → CommandLine → Type 0
CommandTold l EmptyLine = l ≡ []
CommandTold l BlobLine = l ≡ codes "blob"
CommandTold l (CommitLine t) = l ≡ codes "commit " ++ t
CommandTold l (ResetLine t) = l ≡ codes "reset " ++ t
CommandTold l (TagLine (Some t)) = l ≡ codes "tag " ++ t
CommandTold l (TagLine None) = Unit {0}
CommandTold l IdleLine = IsIdle l
CommandTold l WantsDone = l ≡ codes "feature done"
CommandTold l DoneLine = l ≡ codes "done"
CommandTold l (RefusedLine f) = Unit {0}
CommandTold l OtherLine = Unit {0}

text_told : (l whole : Bytes) (here other : CommandLine) → (l ≡ whole → CommandTold l here) → CommandTold l other → CommandTold l (by_text whole here l other)
text_told l whole here other h g =
    elim (same_bytes l whole) as (λ b. same_bytes l whole ≡ b → CommandTold l (cond b here other)) [ true ↦ λ e. h ((bytes_decides l whole).0 e) | false ↦ λ e. g ] refl

word_told : (l word : Bytes) (make : Bytes → CommandLine) (other : CommandLine) → ((t : Bytes) → l ≡ word ++ t → CommandTold l (make t)) → CommandTold l other → CommandTold l (by_word word make l other)
word_told l word make other h g =
    elim (strip word l) as (λ o. strip word l ≡ o → CommandTold l (with_word make other o)) [ Some t ↦ λ e. h t (strip-spelled word l t e) | None ↦ λ e. g ] refl

command_told : (l : Bytes) → CommandTold l (command_line l)
unfolding command_line
command_told l =
    text_told l [] EmptyLine _ (λ e. e)
    (text_told l (codes "blob") BlobLine _ (λ e. e)
    (word_told l (codes "commit ") CommitLine _ (λ t e. e)
    (word_told l (codes "reset ") ResetLine _ (λ t e. e)
    (word_told l (codes "progress ") (λ r. IdleLine) _ (λ t e. inr (inl (t, e)))
    (text_told l (codes "checkpoint") IdleLine _ (λ e. inr (inr e))
    (text_told l (codes "feature done") WantsDone _ (λ e. e)
    (word_told l (codes "feature ") _ _ (λ t e. tt)
    (text_told l (codes "done") DoneLine _ (λ e. e)
    (word_told l (codes "tag ") (λ r. TagLine (Some r)) _ (λ t e. e)
    (text_told l (codes "tag") (TagLine None) _ (λ e. tt)
    (refused_told (feature_by (first_word l).0))))))))))))
  where
    refused_told : (o : Option _) → CommandTold l (refused_line o)
    refused_told None = tt
    refused_told (Some f) = tt

-- and the other way
tag_line : (t : Bytes) → command_line (codes "tag " ++ t) ≡ TagLine (Some t)
unfolding command_line
tag_line t = refl

commit_line : (t : Bytes) → command_line (codes "commit " ++ t) ≡ CommitLine t
unfolding command_line
commit_line t = refl

reset_line : (t : Bytes) → command_line (codes "reset " ++ t) ≡ ResetLine t
unfolding command_line
reset_line t = refl

progress_line : (t : Bytes) → command_line (codes "progress " ++ t) ≡ IdleLine
unfolding command_line
progress_line t = refl

checkpoint_line : command_line (codes "checkpoint") ≡ IdleLine
unfolding command_line
checkpoint_line = refl

blob_line : command_line (codes "blob") ≡ BlobLine
unfolding command_line
blob_line = refl

done_line : command_line (codes "done") ≡ DoneLine
unfolding command_line
done_line = refl

wants_line : command_line (codes "feature done") ≡ WantsDone
unfolding command_line
wants_line = refl

empty_line : command_line [] ≡ EmptyLine
unfolding command_line
empty_line = refl

-- ---- what is told is spelled

abbrev pub EventSpelled : Progress → Input → Event → Progress → Input → Type 0
EventSpelled p i (Gives c) q j = Spells p.manner p.phase i c.at c.command j × (q ≡ behind p c.command)
EventSpelled p i Skips q j = (p.phase ≡ Between) × (q.phase ≡ Between) × Passes i p.manner j q.manner
EventSpelled p i Ends q j = EndsHere p i

abbrev pub TurnSpelled : Progress → Input → Read Turn → Type 0
TurnSpelled p i (Ok x) = EventSpelled p i x.0.event x.0.progress x.1
TurnSpelled p i (Err e) = Unit {0}

abbrev pub here : Phase → Manner → Progress
here p d = record { phase = p; manner = d }

abbrev given : ℕ → Phase → Manner → Command → Turn
given at p d c = turned (Gives (record { at = at; command = c })) p d

then_spelled : {A : Type 0} (p : Progress) (i : Input) (r : Read A) (make : A → Turn) → ((x : A) (j : Input) → r ≡ Ok (x, j) → EventSpelled p i (make x).event (make x).progress j) →
    TurnSpelled p i (r >>= λ x. Ok (make x.0, x.1))
then_spelled p i (Ok x) make h = h x.0 x.1 refl
then_spelled p i (Err e) make h = tt

line_is : (i : Input) (l : Line) (k : Input) (b : Bytes) → NextLine i l k → l.bytes ≡ b → NextLine i (line_of l.place b) k
line_is i l k b n e = subst (λ z. NextLine i (line_of l.place z) k) e n

word_is : (word : Bytes) (i : Input) (l : Line) (k : Input) (t : Bytes) → NextLine i l k → l.bytes ≡ word ++ t → WordLine word i (line_of l.place t) k
word_is word i l k t n e = record { line = l; next = n; place = refl; bytes = e }

some_same : (t n : Bytes) → Some t ≡ Some n → t ≡ n
some_same t n e = cc

no_some : (o : Option Bytes) (n : Bytes) → o ≡ None → o ≡ Some n → ⊥
no_some o n d e = cc

module _ (d : Manner) (i k : Input) (l : Line) (n : NextLine i l k) where
  blob_spelled : l.bytes ≡ codes "blob" → (c : Command) (j : Input) → BlobIs k c j → EventSpelled (here Between d) i (Gives (record { at = l.place; command = c })) (here Between d) j
  blob_spelled e c j h =
      subst (λ z. EventSpelled (here Between d) i (Gives (record { at = l.place; command = z })) (here Between d) j) h.3 ((k, line_is i l k (codes "blob") n e, h.2), refl)

  head_spelled : (t : Bytes) → l.bytes ≡ codes "commit " ++ t → (c : Command) (j : Input) → HeadIs t k c j → EventSpelled (here Between d) i (Gives (record { at = l.place; command = c })) (here InCommit d) j
  head_spelled t e c j h =
      subst (λ z. EventSpelled (here Between d) i (Gives (record { at = l.place; command = z })) (here InCommit d) j) h.3
      ((k, word_is (codes "commit ") i l k h.0.refname n (e ∙ ap (λ z. codes "commit " ++ z) (sym h.1)), h.2), refl)

  reset_spelled : (t : Bytes) → l.bytes ≡ codes "reset " ++ t → (c : Command) (j : Input) → ResetIs t k c j → EventSpelled (here Between d) i (Gives (record { at = l.place; command = c })) (here Between d) j
  reset_spelled t e c j h =
      subst (λ z. EventSpelled (here Between d) i (Gives (record { at = l.place; command = z })) (here Between d) j) h.3 ((k, word_is (codes "reset ") i l k t n e, h.1, h.2), refl)

  tag_spelled : (t : Bytes) → d.takes_tags ≡ true → l.bytes ≡ codes "tag " ++ t → (c : Command) (j : Input) → TagIs (Some t) k c j → EventSpelled (here Between d) i (Gives (record { at = l.place; command = c })) (here Between d) j
  tag_spelled t o e c j h =
      let s : t ≡ h.0.name = some_same t h.0.name h.1 in
      subst (λ z. EventSpelled (here Between d) i (Gives (record { at = l.place; command = z })) (here Between d) j) h.3
      ((o, k, word_is (codes "tag ") i l k h.0.name n (e ∙ ap (λ z. codes "tag " ++ z) s), h.2), refl)

  tag_turn_spelled : (t : Option Bytes) → CommandTold l.bytes (TagLine t) → (b : Bool) → d.takes_tags ≡ b → TurnSpelled (here Between d) i (tag_turn l.place t d b true k)
  tag_turn_spelled t e false o = tt
  tag_turn_spelled None e true o = then_spelled (here Between d) i (tag l.place None true k) (given l.place Between d) (λ c j r. let h = (tag-reads l.place None).was k c j r in absurd (no_some None h.0.name refl h.1))
  tag_turn_spelled (Some t) e true o =
      then_spelled (here Between d) i (tag l.place (Some t) true k) (given l.place Between d) (λ c j r. tag_spelled t o e c j ((tag-reads l.place (Some t)).was k c j r))

  between_spelled : (kind : CommandLine) → CommandTold l.bytes kind → TurnSpelled (here Between d) i (between kind l.place d true k)
  between_spelled EmptyLine e = (refl, refl, (l, n, inl (inl e, refl)))
  between_spelled BlobLine e = then_spelled (here Between d) i (blob true k) (given l.place Between d) (λ c j r. blob_spelled e c j (blob-reads.was k c j r))
  between_spelled (CommitLine t) e = then_spelled (here Between d) i (head l.place t true k) (given l.place InCommit d) (λ c j r. head_spelled t e c j ((head-reads l.place t).was k c j r))
  between_spelled (ResetLine t) e = then_spelled (here Between d) i (reset l.place t true k) (given l.place Between d) (λ c j r. reset_spelled t e c j ((reset-reads l.place t).was k c j r))
  between_spelled (TagLine t) e = tag_turn_spelled t e d.takes_tags refl
  between_spelled IdleLine e = (refl, refl, (l, n, inl (e, refl)))
  between_spelled WantsDone e = (refl, refl, (l, n, inr (e, refl)))
  between_spelled DoneLine e = (line_is i l k (codes "done") n e, refl)
  between_spelled (RefusedLine f) e = tt
  between_spelled OtherLine e = tt

  changing_spelled : (kind : ChangeLine) → ChangeTold l.bytes kind → TurnSpelled (here InCommit d) i ((change l.place kind then λ c. gives l.place InCommit d (commands.Change c)) true k)
  changing_spelled kind e =
      then_spelled (here InCommit d) i (change l.place kind true k) (λ c. given l.place InCommit d (commands.Change c))
      (λ c j r. ((l.bytes, k, n, change_was l.place l.bytes kind e k c j r), refl))

  changed_spelled : (kind : ChangeLine) → ChangeTold l.bytes kind → TurnSpelled (here InCommit d) i (changed kind l.place d true i k)
  changed_spelled EmptyIs e = (inr (inl (line_is i l k [] n e)), refl)
  changed_spelled NoChange e = (inr (inr (l.bytes, k, n, e, refl)), refl)
  changed_spelled (ModifyIs t) e = changing_spelled (ModifyIs t) e
  changed_spelled (DeleteIs t) e = changing_spelled (DeleteIs t) e
  changed_spelled (RenameIs t) e = changing_spelled (RenameIs t) e
  changed_spelled (CopyIs t) e = changing_spelled (CopyIs t) e
  changed_spelled DeleteAllIs e = changing_spelled DeleteAllIs e
  changed_spelled NotesAre e = changing_spelled NotesAre e

end_spelled : (d : Manner) (e : Bool) → d.wants_done ≡ e → (at : ℕ) (i j : Input) → NoLine i j → TurnSpelled (here Between d) i (ends_at at d e true j)
end_spelled d true o at i j h = tt
end_spelled d false o at i j h = inr (refl, o, j, h)

between_line : (d : Manner) (i : Input) (r : Result (Option Line × Input) (Stop LimitFault)) → Spelled true i r → TurnSpelled (here Between d) i (lifted r >>= between_at d true)
between_line d i (Ok (Some l, k)) h = between_spelled d i k l h.0 (command_line l.bytes) (command_told l.bytes)
between_line d i (Ok (None, k)) h = end_spelled d d.wants_done refl k.at i k h.0
between_line d i (Err e) h = tt

commit_spelled : (d : Manner) (i : Input) (r : Result (Option Line × Input) (Stop LimitFault)) → Spelled true i r → TurnSpelled (here InCommit d) i (lifted r >>= in_commit_at d true i)
commit_spelled d i (Ok (Some l, k)) h = changed_spelled d i k l h.0 (change_line l.bytes) (change_told l.bytes)
commit_spelled d i (Ok (None, k)) h = (inl (h.0, refl), refl)
commit_spelled d i (Err e) h = tt

turn_in_spelled : (p : Phase) (d : Manner) (i : Input) → TurnSpelled (here p d) i (turn_in p d true i)
turn_in_spelled Between d i = between_line d i (line_at true i) (line_at-spelled true i)
turn_in_spelled InCommit d i = commit_spelled d i (line_at true i) (line_at-spelled true i)
turn_in_spelled Finished d i = inl refl

pub turn_spelled : (p : Progress) (i : Input) → TurnSpelled p i (turn p true i)
unfolding turn
turn_spelled p i = turn_in_spelled p.phase p.manner i

-- ---- what is spelled is told

at_between : (d : Manner) (i k : Input) (l : Line) (kind : CommandLine) → NextLine i l k → command_line l.bytes ≡ kind → turn_in Between d true i ≡ between kind l.place d true k
at_between d i k l kind n e = ap (λ r. lifted r >>= between_at d true) (line_at-again i l k n) ∙ ap (λ c. between c l.place d true k) e

at_change : (d : Manner) (i k : Input) (l : Line) (kind : ChangeLine) → NextLine i l k → change_line l.bytes ≡ kind → turn_in InCommit d true i ≡ changed kind l.place d true i k
at_change d i k l kind n e = ap (λ r. lifted r >>= in_commit_at d true i) (line_at-again i l k n) ∙ ap (λ c. changed c l.place d true i k) e

abbrev Answer : ℕ → Phase → Manner → Command → Input → Read Turn
Answer at p d c j = Ok (given at p d c, j)

-- a kind of line that is a change
reads_changed : (d : Manner) (at : ℕ) (i k : Input) (c : Change) (j : Input) (kind : ChangeLine) → change at kind true k ≡ Ok (c, j) → changed kind at d true i k ≡ Answer at InCommit d (commands.Change c) j
unfolding change
reads_changed d at i k c j EmptyIs e = absurd cc
reads_changed d at i k c j NoChange e = absurd cc
reads_changed d at i k c j (ModifyIs t) e = ap (λ r. r >>= λ x. gives at InCommit d (commands.Change x.0) true x.1) e
reads_changed d at i k c j (DeleteIs t) e = ap (λ r. r >>= λ x. gives at InCommit d (commands.Change x.0) true x.1) e
reads_changed d at i k c j (RenameIs t) e = ap (λ r. r >>= λ x. gives at InCommit d (commands.Change x.0) true x.1) e
reads_changed d at i k c j (CopyIs t) e = ap (λ r. r >>= λ x. gives at InCommit d (commands.Change x.0) true x.1) e
reads_changed d at i k c j DeleteAllIs e = ap (λ r. r >>= λ x. gives at InCommit d (commands.Change x.0) true x.1) e
reads_changed d at i k c j NotesAre e = ap (λ r. r >>= λ x. gives at InCommit d (commands.Change x.0) true x.1) e

read_again : (p : Phase) (d : Manner) (i : Input) (at : ℕ) (c : Command) (j : Input) → Spells d p i at c j → turn_in p d true i ≡ Answer at (phase_behind c) d c j
read_again Between d i at (commands.Blob m b) j h =
    at_between d i h.0 (line_of at (codes "blob")) BlobLine h.1 blob_line
    ∙ ap (λ r. r >>= λ x. gives at Between d x.0 true x.1) (blob-reads.again h.0 (commands.Blob m b) j (m, b, h.2, refl))
read_again Between d i at (commands.Commit g) j h =
    at_between d i h.0 h.1.line (CommitLine g.refname) h.1.next (ap command_line h.1.bytes ∙ commit_line g.refname)
    ∙ ap (λ a. between (CommitLine g.refname) a d true h.0) h.1.place
    ∙ ap (λ r. r >>= λ x. gives at InCommit d x.0 true x.1) ((head-reads at g.refname).again h.0 (commands.Commit g) j (g, refl, h.2, refl))
read_again Between d i at (commands.Reset t f) j h =
    at_between d i h.0 h.1.line (ResetLine t) h.1.next (ap command_line h.1.bytes ∙ reset_line t)
    ∙ ap (λ a. between (ResetLine t) a d true h.0) h.1.place
    ∙ ap (λ r. r >>= λ x. gives at Between d x.0 true x.1) ((reset-reads at t).again h.0 (commands.Reset t f) j (f, h.2, h.3, refl))
read_again Between d i at (commands.Tag g) j h =
    at_between d i h.1 h.2.line (TagLine (Some g.name)) h.2.next (ap command_line h.2.bytes ∙ tag_line g.name)
    ∙ ap (λ a. between (TagLine (Some g.name)) a d true h.1) h.2.place
    ∙ ap (λ b. tag_turn at (Some g.name) d b true h.1) h.0
    ∙ ap (λ r. r >>= λ x. gives at Between d x.0 true x.1) ((tag-reads at (Some g.name)).again h.1 (commands.Tag g) j (g, refl, h.3, refl))
read_again Between d i at commands.Done j h = at_between d i j (line_of at (codes "done")) DoneLine h done_line
read_again Between d i at (commands.Change c) j h = absurd h
read_again Between d i at commands.CommitEnd j h = absurd h
read_again InCommit d i at (commands.Change c) j h =
    let r : ReadsChange at h.0 h.1 c j = change_again at h.0 h.1 c j h.3 in
    at_change d i h.1 (line_of at h.0) r.kind h.2 r.line ∙ reads_changed d at i h.1 c j r.kind r.read
read_again InCommit d i at commands.CommitEnd j h =
    elim h [
      | inl n ↦ ap (λ r. lifted r >>= in_commit_at d true i) (line_at-none i j n.0) ∙ ap (λ a. Answer a Between d commands.CommitEnd j) (sym n.1)
      | inr m ↦ elim m [
        | inl n ↦ at_change d i j (line_of at []) EmptyIs n empty_again
        | inr n ↦ at_change d i n.1 (line_of at n.0) NoChange n.2 (other_again n.0 n.3) ∙ ap (Answer at Between d commands.CommitEnd) (sym n.4)
      ]
    ]
read_again InCommit d i at (commands.Blob m b) j h = absurd h
read_again InCommit d i at (commands.Commit g) j h = absurd h
read_again InCommit d i at (commands.Reset t f) j h = absurd h
read_again InCommit d i at (commands.Tag g) j h = absurd h
read_again InCommit d i at commands.Done j h = absurd h
read_again Finished d i at c j h = absurd h

pub turn_again : (p : Progress) (i j : Input) (c : Placed) → Spells p.manner p.phase i c.at c.command j → turn p true i ≡ Ok (record { event = Gives c; progress = behind p c.command }, j)
unfolding turn
turn_again p i j c h = read_again p.phase p.manner i c.at c.command j h

idle_line : (l : Bytes) → IsIdle l → (command_line l ≡ EmptyLine) ⊎ (command_line l ≡ IdleLine)
idle_line l h =
    elim h [
      | inl e ↦ inl (ap command_line e ∙ empty_line)
      | inr g ↦ elim g [ inl t ↦ inr (ap command_line t.1 ∙ progress_line t.0) | inr e ↦ inr (ap command_line e ∙ checkpoint_line) ]
    ]

passes_again : (d e : Manner) (i j : Input) → Passes i d j e → turn_in Between d true i ≡ Ok (turned Skips Between e, j)
passes_again d e i j h =
    elim h.2 [
      | inl g ↦ elim (idle_line h.0.bytes g.0) [
        | inl k ↦ at_between d i j h.0 EmptyLine h.1 k ∙ ap (λ b. Ok (turned Skips Between b, j)) (sym g.1)
        | inr k ↦ at_between d i j h.0 IdleLine h.1 k ∙ ap (λ b. Ok (turned Skips Between b, j)) (sym g.1)
      ]
      | inr g ↦ at_between d i j h.0 WantsDone h.1 (ap command_line g.0 ∙ wants_line) ∙ ap (λ b. Ok (turned Skips Between b, j)) (sym g.1)
    ]

pub turn_passes : (d e : Manner) (i j : Input) → Passes i d j e → turn (here Between d) true i ≡ Ok (turned Skips Between e, j)
unfolding turn
turn_passes d e i j h = passes_again d e i j h
