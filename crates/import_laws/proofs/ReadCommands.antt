-- What a reader gives is sound and within the limits.
use Rattle.std.proofs.Common.{◌≡◌, ℕ, zero, suc, ◌+◌, Bool, true, false, cond, List, [], ◌∷◌, ◌++◌, All, length, take, drop, Option, Some, None, Result, Ok, Err, refl, ap, subst, ◌∙◌}
use borrow.Author.Tests.{leb-true}
use Rattle.std.specs.Prelude.{codes, leb, nat_eq, nat_le, nat_lt, ◌==◌}
use Rattle.std.specs.Cmp.{first_so, second_so}
use Rattle.std.specs.List.{list_all, starts_with}
use Rattle.std.specs.Option.{option_map}
use Rattle.std.proofs.lemmas.List.{length-take-le}
use Rattle.std.proofs.lemmas.List.Elements.{All-cons, All-nil}
use Rattle.git_objects.specs.Paths.{Bytes, Path, is_component, is_nil, is_path, same_bytes}
use Rattle.git_objects.specs.Idents.{cut_at, is_ident}
use Rattle.git_objects.specs.Bodies.{is_name}
use Rattle.git_objects.specs.CommitBodies.{digits_name, strip}
use Rattle.git_objects.specs.Results.{◌>>=◌}
use Rattle.git_objects.specs.declared.limits.TheConstants.{BLOB_BYTES, COMPONENT_BYTES, MESSAGE_BYTES, PATH_BYTES, PATH_COMPONENTS, STREAM_BYTES}
use Rattle.git_objects.specs.declared.mode.Mode.{Mode}
use Rattle.git_objects.specs.declared.mode.Mode.TheVariants.{File, Exec, Link, Module, Dir}
use Rattle.git_objects.specs.declared.name.Name.{Name}
use Rattle.git_objects.specs.declared.quantity.Quantity.{Quantity}
use Rattle.git_objects.specs.declared.quantity.Quantity.TheVariants as limits
use Rattle.git_objects.proofs.Basics.{and_both}
use Rattle.git_objects.proofs.CommitReading.{digits-name}
use Rattle.git_objects.proofs.Pointwise.{from-T}
use Rattle.path_names.specs.PathTexts.{parts, path_of}
use Rattle.path_names.specs.RefNames.{is_ref_name}
use Rattle.tag_objects.specs.TagNames.{is_tag_name}
use Rattle.path_names.specs.declared.path.PathFault.{PathFault}
use Rattle.path_names.specs.declared.path.PathFault.TheVariants as paths
use Rattle.path_names.proofs.Readings.{path_text_law}
use Rattle.stream_lex.specs.Cutting.{◌then◌, judged, refuse}
use Rattle.stream_lex.specs.Lines.{Input, Lex, Line, any_line, behind, block_at, block_end, is_comment, is_long, last_line, line_at, line_from, line_within, past_comment, short_block, split_line}
use Rattle.stream_lex.specs.declared.stop.Stop.{Stop}
use Rattle.stream_lex.specs.declared.stop.Stop.TheVariants as stops
use Rattle.stream_lex.specs.declared.stop.LimitFault.TheVariants.{LongLine, StreamTooLong}
use Rattle.stream_reader.specs.Reading.{Judged, Read, Reader, fault, lifted, line_behind, line_text, must, need_line, option_line, or_fault}
use Rattle.stream_reader.specs.Names.{ident, refname, some_name, tag_name}
use Rattle.stream_reader.specs.Words.{first_word, mark}
use Rattle.stream_reader.specs.Blocks.{blob_data, block_in, count, data_behind, message_behind, message_data, sized_block, tag_data, whole_block}
use Rattle.stream_reader.specs.PathWords.{behind_quote, first_path, is_quoted, last_path, path_at, path_by, two_paths, unquoted_at}
use Rattle.stream_reader.specs.Changes.{ChangeLine, ModifyIs, DeleteIs, RenameIs, CopyIs, DeleteAllIs, NotesAre, EmptyIs, NoChange, blob_ref, change, change_line, data_part, dataref, fitting, mode, modify, modify_line}
use Rattle.stream_reader.specs.Heads.{author_in, author_or, behind_word, blob, committer_by, committer_of, head, head_of, if_some, mark_in, mark_lines, merges, merges_max, more_merges, parents, people, must_say, ref_in, ref_line, reset, said, tag, tagger_in}
use Rattle.stream_reader.specs.Commands.{CommandLine, EmptyLine, BlobLine, CommitLine, ResetLine, TagLine, IdleLine, WantsDone, DoneLine, RefusedLine, OtherLine, Told, Turn, ends_at, tag_turn, between, between_at, by_event, changed, command_line, command_within, gives, in_commit_at, read_command, turn, turn_in, turn_on}
use Rattle.stream_reader.specs.Verdicts.{from_start, go_on, verdict_from, verdict_within}
use Rattle.stream_reader.specs.declared.command.BlobRef.{BlobRef}
use Rattle.stream_reader.specs.declared.command.BlobRef.TheVariants as blobs
use Rattle.stream_reader.specs.declared.command.Change.{Change}
use Rattle.stream_reader.specs.declared.command.Change.TheVariants as changes
use Rattle.stream_reader.specs.declared.command.Command.{Command}
use Rattle.stream_reader.specs.declared.command.Command.TheVariants as commands
use Rattle.stream_reader.specs.declared.command.Placed.{Placed}
use Rattle.stream_reader.specs.declared.commit_ref.CommitRef.{CommitRef}
use Rattle.stream_reader.specs.declared.fault.Feature.TheVariants as features
use Rattle.stream_reader.specs.declared.fault.StreamFault.{StreamFault}
use Rattle.stream_reader.specs.declared.fault.StreamFault.TheVariants.{BadPath, Limit, Syntax, Unsupported}
use Rattle.stream_reader.specs.declared.modify.DataRef.{DataRef}
use Rattle.stream_reader.specs.declared.modify.DataRef.TheVariants as datas
use Rattle.stream_reader.specs.declared.modify.ModifyLine.{ModifyLine}
use Rattle.stream_reader.specs.declared.progress.Event.{Event}
use Rattle.stream_reader.specs.declared.progress.Event.TheVariants.{Gives, Skips, Ends}
use Rattle.stream_reader.specs.declared.progress.Manner.{Manner}
use Rattle.stream_reader.specs.declared.progress.Phase.{Phase}
use Rattle.stream_reader.specs.declared.progress.Phase.TheVariants.{Between, InCommit, Finished}
use Rattle.stream_reader.specs.declared.progress.Progress.{Progress}
use Rattle.stream_reader.proofs.Replayable.{NotDir, OnValue, any_value, mode_fits, value_bind, value_if}
use Rattle.state_items.proofs.ByteLists.{AreBytes, drop-bytes, take-bytes}
use Rattle.import_laws.specs.SoundCommands.{IsSoundBlob, IsSoundChange}
use Rattle.import_laws.specs.SmallCommands.{IsRead, IsShortPath, IsSmallBlob, IsSmallChange, ReaderLaw}

-- ---- bytes

abbrev IfBytes : Option Bytes → Type 0
IfBytes None = Unit {0}
IfBytes (Some b) = AreBytes b

strip-bytes : (word t : Bytes) → AreBytes t → IfBytes (strip word t)
strip-bytes [] t h = h
strip-bytes (w ∷ word) [] h = tt
strip-bytes (w ∷ word) (x ∷ t) h =
    elim (x == w) as (λ b. IfBytes (cond b (strip word t) None)) [ true ↦ strip-bytes word t (second_so (nat_lt x 256) _ h) | false ↦ tt ]

abbrev IfCut : Option (Bytes × Bytes) → Type 0
IfCut None = Unit {0}
IfCut (Some r) = AreBytes r.0 × AreBytes r.1

cut-more : (x : ℕ) (o : Option (Bytes × Bytes)) → nat_lt x 256 ≡ true → IfCut o → IfCut (option_map (λ r. (x ∷ r.0, r.1)) o)
cut-more x None h g = tt
cut-more x (Some r) h g = (and_both h g.0, g.1)

cut-bytes : (k : ℕ) (t : Bytes) → AreBytes t → IfCut (cut_at k t)
cut-bytes k [] h = tt
cut-bytes k (x ∷ t) h =
    elim (x == k) as (λ b. IfCut (cond b (Some ([], t)) (option_map (λ r. (x ∷ r.0, r.1)) (cut_at k t)))) [
      | true ↦ (refl, second_so (nat_lt x 256) _ h)
      | false ↦ cut-more x (cut_at k t) (first_so _ _ h) (cut-bytes k t (second_so (nat_lt x 256) _ h))
    ]

-- ---- a fact of what is read, where bytes are left

abbrev Fine : Input → Type 0
Fine i = AreBytes i.rest

abbrev OnRead : {A E : Type 0} → (A → Type 0) → Result (A × Input) E → Type 0
OnRead P r = OnValue (λ x. P x.0 × Fine x.1) r

any_read : {A E : Type 0} (P : A → Type 0) (r : Result (A × Input) E) → OnRead P r → OnRead (λ _. Unit {0}) r
any_read P (Ok x) h = (tt, h.1)
any_read P (Err e) h = tt

read_bind : {A B : Type 0} (Q : A → Type 0) (P : B → Type 0) (r : Reader A) (f : A → Reader B) (ended : Bool) (i : Input) → OnRead Q (r ended i) → ((x : A) (j : Input) → Q x → Fine j → OnRead P (f x ended j)) → OnRead P ((r then f) ended i)
read_bind Q P r f ended i h g = value_bind (λ x. Q x.0 × Fine x.1) (λ x. P x.0 × Fine x.1) (r ended i) (λ x. f x.0 ended x.1) h (λ x q. g x.0 x.1 q.0 q.1)

judged_read : {A : Type 0} (P : A → Type 0) (r : Judged A) (ended : Bool) (i : Input) → OnValue P r → Fine i → OnRead P (judged r ended i)
judged_read P (Ok x) ended i h f = (h, f)
judged_read P (Err e) ended i h f = tt

read_if : {A : Type 0} (P : A → Type 0) (b : Bool) (x y : Reader A) (ended : Bool) (i : Input) → (b ≡ true → OnRead P (x ended i)) → (b ≡ false → OnRead P (y ended i)) → OnRead P (cond b x y ended i)
read_if P true x y ended i h g = h refl
read_if P false x y ended i h g = g refl

lifted_read : {A : Type 0} (P : A → Type 0) (r : Lex A) → OnRead P r → OnRead P (lifted r)
lifted_read P (Ok x) h = h
lifted_read P (Err e) h = tt

-- ---- lines and blocks

abbrev IsLine : Line → Type 0
IsLine l = AreBytes l.bytes

abbrev IfLine : Option Line → Type 0
IfLine None = Unit {0}
IfLine (Some l) = IsLine l

last-read : (ended : Bool) (i : Input) (t : Bytes) → AreBytes t → Fine i → OnRead IfLine (last_line ended i t)
last-read false i t h f = tt
last-read true i [] h f = (tt, f)
last-read true i (x ∷ t) h f = (h, refl)

from-read : (ended : Bool) (i : Input) (o : Option (Bytes × Bytes)) → IfCut o → Fine i → OnRead IfLine (line_from ended i o)
from-read ended i (Some r) h f =
    value_if (λ x. IfLine x.0 × Fine x.1) (is_long i.at (length r.0)) (Err (stops.Fault (LongLine i.at)))
    (cond (leb (i.at + (length r.0 + 1)) STREAM_BYTES) (Ok (Some (record { place = i.at; bytes = r.0 }), behind (length r.0 + 1) r.1 i)) (Err (stops.Fault StreamTooLong))) (λ e. tt)
    (λ e. value_if (λ x. IfLine x.0 × Fine x.1) (leb (i.at + (length r.0 + 1)) STREAM_BYTES) (Ok (Some (record { place = i.at; bytes = r.0 }), behind (length r.0 + 1) r.1 i)) (Err (stops.Fault StreamTooLong)) (λ e. (h.0, h.1)) (λ e. tt))
from-read ended i None h f =
    value_if (λ x. IfLine x.0 × Fine x.1) (is_long i.at (length i.rest)) (Err (stops.Fault (LongLine i.at)))
    (cond (leb (i.at + length i.rest) STREAM_BYTES) (last_line ended i i.rest) (Err (stops.Fault StreamTooLong))) (λ e. tt)
    (λ e. value_if (λ x. IfLine x.0 × Fine x.1) (leb (i.at + length i.rest) STREAM_BYTES) (last_line ended i i.rest) (Err (stops.Fault StreamTooLong)) (λ e. last-read ended i i.rest f f) (λ e. tt))

any-read : (ended : Bool) (i : Input) → Fine i → OnRead IfLine (any_line ended i)
unfolding any_line
any-read ended i f = from-read ended i (split_line i.rest) (cut-bytes 10 i.rest f) f

past-read : (next : Input → Lex (Option Line)) (x : Option Line) (i : Input) → ((j : Input) → Fine j → OnRead IfLine (next j)) → IfLine x → Fine i → OnRead IfLine (past_comment next (x, i))
past-read next None i g h f = (tt, f)
past-read next (Some l) i g h f = value_if (λ x. IfLine x.0 × Fine x.1) (is_comment l.bytes) (next i) (Ok (Some l, i)) (λ e. g i f) (λ e. (h, f))

within-read : (n : ℕ) (ended : Bool) (i : Input) → Fine i → OnRead IfLine (line_within n ended i)
within-read zero ended i f = tt
within-read (suc n) ended i f =
    value_bind (λ x. IfLine x.0 × Fine x.1) (λ x. IfLine x.0 × Fine x.1) (any_line ended i) (past_comment (line_within n ended)) (any-read ended i f)
    (λ x h. past-read (line_within n ended) x.0 x.1 (λ j g. within-read n ended j g) h.0 h.1)

line-read : (ended : Bool) (i : Input) → Fine i → OnRead IfLine (lifted (line_at ended i))
unfolding line_at
line-read ended i f = lifted_read IfLine (line_within (length i.rest + 1) ended i) (within-read (length i.rest + 1) ended i f)

abbrev IsBlock : ℕ → Bytes → Type 0
IsBlock n b = AreBytes b × (length b ≡ n)

abbrev IfBlock : ℕ → Option Bytes → Type 0
IfBlock n None = Unit {0}
IfBlock n (Some b) = IsBlock n b

end-read : (ended : Bool) (n : ℕ) (b r : Bytes) (i : Input) → IsBlock n b → AreBytes r → OnRead (IfBlock n) (block_end ended n b r i)
end-read false n b [] i h f = tt
end-read true n b [] i h f = (h, refl)
end-read false n b (x ∷ r) i h f = more false n b x r i h f
  where
    more : (ended : Bool) (n : ℕ) (b : Bytes) (x : ℕ) (r : Bytes) (i : Input) → IsBlock n b → AreBytes (x ∷ r) → OnRead (IfBlock n) (block_end false n b (x ∷ r) i)
    more ended n b x r i h f =
        value_if (λ y. IfBlock n y.0 × Fine y.1) (x == 10) (cond (leb (i.at + (n + 1)) STREAM_BYTES) (Ok (Some b, behind (n + 1) r i)) (Err (stops.Fault StreamTooLong))) (Ok (Some b, behind n (x ∷ r) i))
        (λ e. value_if (λ y. IfBlock n y.0 × Fine y.1) (leb (i.at + (n + 1)) STREAM_BYTES) (Ok (Some b, behind (n + 1) r i)) (Err (stops.Fault StreamTooLong)) (λ e. (h, second_so (nat_lt x 256) _ f)) (λ e. tt))
        (λ e. (h, f))
end-read true n b (x ∷ r) i h f = more n b x r i h f
  where
    more : (n : ℕ) (b : Bytes) (x : ℕ) (r : Bytes) (i : Input) → IsBlock n b → AreBytes (x ∷ r) → OnRead (IfBlock n) (block_end true n b (x ∷ r) i)
    more n b x r i h f =
        value_if (λ y. IfBlock n y.0 × Fine y.1) (x == 10) (cond (leb (i.at + (n + 1)) STREAM_BYTES) (Ok (Some b, behind (n + 1) r i)) (Err (stops.Fault StreamTooLong))) (Ok (Some b, behind n (x ∷ r) i))
        (λ e. value_if (λ y. IfBlock n y.0 × Fine y.1) (leb (i.at + (n + 1)) STREAM_BYTES) (Ok (Some b, behind (n + 1) r i)) (Err (stops.Fault StreamTooLong)) (λ e. (h, second_so (nat_lt x 256) _ f)) (λ e. tt))
        (λ e. (h, f))

short-read : (n : ℕ) (ended : Bool) (i : Input) → Fine i → OnRead (IfBlock n) (short_block n ended i)
short-read n false i f = tt
short-read n true i f = (tt, f)

block-read : (n : ℕ) (ended : Bool) (i : Input) → Fine i → OnRead (IfBlock n) (lifted (block_at n ended i))
unfolding block_at
block-read n ended i f =
    let P : Option Bytes × Input → Type 0 = λ y. IfBlock n y.0 × Fine y.1 in
    let end = block_end ended n (take n i.rest) (drop n i.rest) i in
    let short = short_block n ended i in
    lifted_read (IfBlock n) (cond (leb n (length i.rest)) (cond (leb (i.at + n) STREAM_BYTES) end (Err (stops.Fault StreamTooLong))) (cond (leb (i.at + length i.rest) STREAM_BYTES) short (Err (stops.Fault StreamTooLong))))
    (value_if (λ y. IfBlock n y.0 × Fine y.1) (leb n (length i.rest)) (cond (leb (i.at + n) STREAM_BYTES) end (Err (stops.Fault StreamTooLong))) (cond (leb (i.at + length i.rest) STREAM_BYTES) short (Err (stops.Fault StreamTooLong)))
    (λ e. value_if (λ y. IfBlock n y.0 × Fine y.1) (leb (i.at + n) STREAM_BYTES) end (Err (stops.Fault StreamTooLong))
    (λ _. end-read ended n (take n i.rest) (drop n i.rest) i (take-bytes n i.rest f, length-take-le n i.rest (leb-true n (length i.rest) e)) (drop-bytes n i.rest f)) (λ _. tt))
    (λ e. value_if (λ y. IfBlock n y.0 × Fine y.1) (leb (i.at + length i.rest) STREAM_BYTES) short (Err (stops.Fault StreamTooLong)) (λ _. short-read n ended i f) (λ _. tt)))

-- ---- lines that are wanted

text-read : (l : Line) (before : Input) (o : Option Bytes) (after : Input) → IfBytes o → Fine before → Fine after → OnRead IfLine (line_text l before o after)
text-read l before None after h f g = (tt, f)
text-read l before (Some t) after h f g = (h, g)

behind-read : (word : Bytes) (before : Input) (x : Option Line) (after : Input) → IfLine x → Fine before → Fine after → OnRead IfLine (line_behind word before (x, after))
behind-read word before None after h f g = (tt, f)
behind-read word before (Some l) after h f g = text-read l before (strip word l.bytes) after (strip-bytes word l.bytes h) f g

option-read : (word : Bytes) (ended : Bool) (i : Input) → Fine i → OnRead IfLine (option_line word ended i)
unfolding option_line
option-read word ended i f =
    value_bind (λ x. IfLine x.0 × Fine x.1) (λ x. IfLine x.0 × Fine x.1) (lifted (line_at ended i)) (line_behind word i) (line-read ended i f) (λ x h. behind-read word i x.0 x.1 h.0 f h.1)

must-read : (x : Option Line) (i : Input) → IfLine x → Fine i → OnRead IsLine (must (x, i))
must-read None i h f = tt
must-read (Some l) i h f = (h, f)

need-read : (ended : Bool) (i : Input) → Fine i → OnRead IsLine (need_line ended i)
unfolding need_line
need-read ended i f = value_bind (λ x. IfLine x.0 × Fine x.1) (λ x. IsLine x.0 × Fine x.1) (lifted (line_at ended i)) must (line-read ended i f) (λ x h. must-read x.0 x.1 h.0 h.1)

-- ---- data

-- bytes, and at most so many
abbrev IsShort : ℕ → Bytes → Type 0
IsShort most b = AreBytes b × (nat_le (length b) most ≡ true)

in-read : (n most at : ℕ) (o : Option Bytes) (i : Input) → nat_le n most ≡ true → IfBlock n o → Fine i → OnRead (IsShort most) (block_in at (o, i))
in-read n most at None i e h f = tt
in-read n most at (Some b) i e h f = ((h.0, ap (λ k. nat_le k most) h.1 ∙ e), f)

sized-read : (which : Quantity) (most at n : ℕ) (ended : Bool) (i : Input) → Fine i → OnRead (IsShort most) (sized_block which most at n ended i)
sized-read which most at n ended i f =
    read_if (IsShort most) (nat_le n most) (whole_block at n) (refuse (Limit at which)) ended i
    (λ e. value_bind (λ x. IfBlock n x.0 × Fine x.1) (λ x. IsShort most x.0 × Fine x.1) (lifted (block_at n ended i)) (block_in at) (block-read n ended i f) (λ x h. in-read n most at x.0 x.1 e h.0 h.1))
    (λ e. tt)

data-read : (which : Quantity) (most : ℕ) (l : Line) (ended : Bool) (i : Input) → Fine i → OnRead (IsShort most) (data_behind which most l ended i)
unfolding data_behind
data-read which most l ended i f =
    read_if (IsShort most) (starts_with nat_eq l.bytes (codes "data <<")) (refuse (Unsupported l.place features.Delimiter)) (judged (or_fault (Syntax l.place) (count l.bytes)) then sized_block which most l.place) ended i
    (λ e. tt)
    (λ e. read_bind (λ _. Unit {0}) (IsShort most) (judged (or_fault (Syntax l.place) (count l.bytes))) (sized_block which most l.place) ended i
    (judged_read (λ _. Unit {0}) (or_fault (Syntax l.place) (count l.bytes)) ended i (any_value (or_fault (Syntax l.place) (count l.bytes))) f)
    (λ n j _ g. sized-read which most l.place n ended j g))

blob-read : (ended : Bool) (i : Input) → Fine i → OnRead (IsShort BLOB_BYTES) (blob_data ended i)
unfolding blob_data
blob-read ended i f = read_bind IsLine (IsShort BLOB_BYTES) need_line (data_behind limits.Blob BLOB_BYTES) ended i (need-read ended i f) (λ l j h g. data-read limits.Blob BLOB_BYTES l ended j g)

message-read : (ended : Bool) (i : Input) → Fine i → OnRead (IsShort MESSAGE_BYTES) (message_data ended i)
unfolding message_data
message-read ended i f =
    read_bind IsLine (IsShort MESSAGE_BYTES) need_line message_behind ended i (need-read ended i f)
    (λ l j h g.
    read_if (IsShort MESSAGE_BYTES) (starts_with nat_eq l.bytes (codes "encoding ")) (refuse (Unsupported l.place features.Encoding))
    (cond (starts_with nat_eq l.bytes (codes "gpgsig ")) (refuse (Unsupported l.place features.Signature)) (data_behind limits.Message MESSAGE_BYTES l)) ended j (λ e. tt)
    (λ e. read_if (IsShort MESSAGE_BYTES) (starts_with nat_eq l.bytes (codes "gpgsig ")) (refuse (Unsupported l.place features.Signature)) (data_behind limits.Message MESSAGE_BYTES l) ended j (λ e. tt)
    (λ e. data-read limits.Message MESSAGE_BYTES l ended j g)))

-- ---- paths

-- a path within its limits
abbrev IsGoodPath : Path → Type 0
IsGoodPath p = (is_path p ≡ true) × IsShortPath p

path-short : (t : Bytes) (r : Result Path PathFault) → path_of t ≡ r → OnValue (λ p. (nat_le (length p) PATH_COMPONENTS ≡ true) × (nat_le (length t) PATH_BYTES ≡ true)) r
unfolding path_of
path-short t r e =
    subst (λ (q : Result Path PathFault). OnValue (λ p. (nat_le (length p) PATH_COMPONENTS ≡ true) × (nat_le (length t) PATH_BYTES ≡ true)) q) e
    (value_if P (is_nil t) (Err paths.Empty) (cond (list_all is_component (parts t)) (cond (list_all (λ c. nat_le (length c) COMPONENT_BYTES) (parts t)) (cond (nat_le (length (parts t)) PATH_COMPONENTS) (cond (nat_le (length t) PATH_BYTES) (Ok (parts t)) (Err paths.TooLong)) (Err paths.TooDeep)) (Err paths.LongComponent)) (Err paths.BadComponent))
    (λ _. tt)
    (λ _. value_if P (list_all is_component (parts t)) (cond (list_all (λ c. nat_le (length c) COMPONENT_BYTES) (parts t)) (cond (nat_le (length (parts t)) PATH_COMPONENTS) (cond (nat_le (length t) PATH_BYTES) (Ok (parts t)) (Err paths.TooLong)) (Err paths.TooDeep)) (Err paths.LongComponent)) (Err paths.BadComponent)
    (λ _. value_if P (list_all (λ c. nat_le (length c) COMPONENT_BYTES) (parts t)) (cond (nat_le (length (parts t)) PATH_COMPONENTS) (cond (nat_le (length t) PATH_BYTES) (Ok (parts t)) (Err paths.TooLong)) (Err paths.TooDeep)) (Err paths.LongComponent)
    (λ _. value_if P (nat_le (length (parts t)) PATH_COMPONENTS) (cond (nat_le (length t) PATH_BYTES) (Ok (parts t)) (Err paths.TooLong)) (Err paths.TooDeep)
    (λ few. value_if P (nat_le (length t) PATH_BYTES) (Ok (parts t)) (Err paths.TooLong) (λ long. (few, long)) (λ _. tt)) (λ _. tt)) (λ _. tt)) (λ _. tt)))
  where
    P : Path → Type 0
    P p = (nat_le (length p) PATH_COMPONENTS ≡ true) × (nat_le (length t) PATH_BYTES ≡ true)

path-read : (at : ℕ) (t : Bytes) → OnValue IsGoodPath (path_at at t)
path-read at t =
    elim (path_of t) as (λ r. path_of t ≡ r → OnValue IsGoodPath (path_by at r)) [
      | Ok p ↦ λ e.
          let s = path-short t (Ok p) e in
          let same = path_text_law.same_text t p e in
          (from-T _ (path_text_law.path t p e), record { components = s.0; bytes = ap (λ (u : Bytes). nat_le (length u) PATH_BYTES) same ∙ s.1 })
      | Err d ↦ λ e. tt
    ] refl

last-path : (at : ℕ) (t : Bytes) → OnValue IsGoodPath (last_path at t)
unfolding last_path
last-path at t =
    value_if IsGoodPath (is_quoted t) (unquoted_at at t >>= λ u. cond (is_nil u.1) (path_at at u.0) (fault (BadPath at))) (path_at at t)
    (λ _. value_bind (λ _. Unit {0}) IsGoodPath (unquoted_at at t) (λ u. cond (is_nil u.1) (path_at at u.0) (fault (BadPath at))) (any_value (unquoted_at at t))
    (λ u _. value_if IsGoodPath (is_nil u.1) (path_at at u.0) (fault (BadPath at)) (λ _. path-read at u.0) (λ _. tt)))
    (λ _. path-read at t)

first-path : (at : ℕ) (t : Bytes) → OnValue (λ x. IsGoodPath x.0) (first_path at t)
unfolding first_path
first-path at t =
    value_if (λ x. IsGoodPath x.0) (is_quoted t) (unquoted_at at t >>= λ u. behind_quote at u.1 >>= λ r. path_at at u.0 >>= λ p. Ok (p, r)) (path_at at (first_word t).0 >>= λ p. Ok (p, (first_word t).1))
    (λ _. value_bind (λ _. Unit {0}) (λ x. IsGoodPath x.0) (unquoted_at at t) (λ u. behind_quote at u.1 >>= λ r. path_at at u.0 >>= λ p. Ok (p, r)) (any_value (unquoted_at at t))
    (λ u _. value_bind (λ _. Unit {0}) (λ x. IsGoodPath x.0) (behind_quote at u.1) (λ r. path_at at u.0 >>= λ p. Ok (p, r)) (any_value (behind_quote at u.1))
    (λ r _. value_bind IsGoodPath (λ x. IsGoodPath x.0) (path_at at u.0) (λ p. Ok (p, r)) (path-read at u.0) (λ p h. h))))
    (λ _. value_bind IsGoodPath (λ x. IsGoodPath x.0) (path_at at (first_word t).0) (λ p. Ok (p, (first_word t).1)) (path-read at (first_word t).0) (λ p h. h))

abbrev AreGoodPaths : Path × Path → Type 0
AreGoodPaths x = IsGoodPath x.0 × IsGoodPath x.1

two-paths : (at : ℕ) (t : Bytes) → OnValue AreGoodPaths (two_paths at t)
unfolding two_paths
two-paths at t =
    value_bind (λ x. IsGoodPath x.0) AreGoodPaths (first_path at t) (λ f. or_fault (BadPath at) f.1 >>= λ r. last_path at r >>= λ q. Ok (f.0, q)) (first-path at t)
    (λ f h. value_bind (λ _. Unit {0}) AreGoodPaths (or_fault (BadPath at) f.1) (λ r. last_path at r >>= λ q. Ok (f.0, q)) (any_value (or_fault (BadPath at) f.1))
    (λ r _. value_bind IsGoodPath AreGoodPaths (last_path at r) (λ q. Ok (f.0, q)) (last-path at r) (λ q g. (h, g))))

-- ---- the line of a change

-- digits are a name
abbrev IsData : DataRef → Type 0
IsData (datas.Mark n) = Unit {0}
IsData (datas.Digits n) = is_name n.0 ≡ true
IsData datas.Inline = Unit {0}

name-read : (at : ℕ) (n : Bytes) → is_name n ≡ true → OnValue (λ (x : Name). is_name x.0 ≡ true) (some_name at n)
name-read at n h = value_if (λ (x : Name). is_name x.0 ≡ true) (same_bytes n _) (fault (Unsupported at features.ZeroName)) (Ok (record { 0 = n })) (λ _. tt) (λ _. h)

digits-read : (at : ℕ) (w : Bytes) → OnValue (λ n. is_name n ≡ true) (or_fault (Syntax at) (digits_name w))
digits-read at w =
    elim (digits_name w) as (λ o. digits_name w ≡ o → OnValue (λ n. is_name n ≡ true) (or_fault (Syntax at) o)) [
      | None ↦ λ e. tt
      | Some n ↦ λ e. (digits-name w n e).1
    ] refl

dataref-read : (at : ℕ) (w : Bytes) → OnValue IsData (dataref at w)
unfolding dataref
dataref-read at w =
    value_if IsData (same_bytes w (codes "inline")) (Ok datas.Inline) _ (λ _. tt)
    (λ _. value_if IsData (starts_with nat_eq w (codes ":")) (or_fault (Syntax at) (mark w) >>= λ n. Ok (datas.Mark n)) (or_fault (Syntax at) (digits_name w) >>= λ n. some_name at n >>= λ x. Ok (datas.Digits x))
    (λ _. value_bind (λ _. Unit {0}) IsData (or_fault (Syntax at) (mark w)) (λ n. Ok (datas.Mark n)) (any_value (or_fault (Syntax at) (mark w))) (λ n _. tt))
    (λ _. value_bind (λ n. is_name n ≡ true) IsData (or_fault (Syntax at) (digits_name w)) (λ n. some_name at n >>= λ x. Ok (datas.Digits x)) (digits-read at w)
    (λ n h. value_bind (λ (x : Name). is_name x.0 ≡ true) IsData (some_name at n) (λ x. Ok (datas.Digits x)) (name-read at n h) (λ x g. g))))

-- what fits a mode
abbrev DataFits : Mode → DataRef → Type 0
DataFits m (datas.Mark n) = IsSoundBlob m (blobs.Mark n)
DataFits m (datas.Digits n) = IsSoundBlob m (blobs.Digits n)
DataFits m datas.Inline = (b : Bytes) → AreBytes b → IsSoundBlob m (blobs.Inline b)

fitting-read : (at : ℕ) (m : Mode) (d : DataRef) → NotDir m → IsData d → OnValue (DataFits m) (fitting at m d)
fitting-read at File (datas.Mark n) h g = tt
fitting-read at File (datas.Digits n) h g = tt
fitting-read at File datas.Inline h g = λ b k. k
fitting-read at Exec (datas.Mark n) h g = tt
fitting-read at Exec (datas.Digits n) h g = tt
fitting-read at Exec datas.Inline h g = λ b k. k
fitting-read at Link (datas.Mark n) h g = tt
fitting-read at Link (datas.Digits n) h g = tt
fitting-read at Link datas.Inline h g = λ b k. k
fitting-read at Module (datas.Mark n) h g = tt
fitting-read at Module (datas.Digits n) h g = g
fitting-read at Module datas.Inline h g = tt
fitting-read at Dir d h g = absurd h

record IsModifyLine (l : ModifyLine) : Type 0 where
  blob : DataFits l.mode l.blob
  path : IsGoodPath l.path

part-read : (at : ℕ) (m : Mode) (w : Bytes × Option Bytes) → NotDir m → OnValue IsModifyLine (data_part at m w)
part-read at m w h =
    value_bind IsData IsModifyLine (dataref at w.0) (λ d. fitting at m d >>= λ d. or_fault (Syntax at) w.1 >>= λ t. last_path at t >>= λ p. Ok (record { mode = m; blob = d; path = p })) (dataref-read at w.0)
    (λ d g. value_bind (DataFits m) IsModifyLine (fitting at m d) (λ d. or_fault (Syntax at) w.1 >>= λ t. last_path at t >>= λ p. Ok (record { mode = m; blob = d; path = p })) (fitting-read at m d h g)
    (λ e f. value_bind (λ _. Unit {0}) IsModifyLine (or_fault (Syntax at) w.1) (λ t. last_path at t >>= λ p. Ok (record { mode = m; blob = e; path = p })) (any_value (or_fault (Syntax at) w.1))
    (λ t _. value_bind IsGoodPath IsModifyLine (last_path at t) (λ p. Ok (record { mode = m; blob = e; path = p })) (last-path at t) (λ p k. record { blob = f; path = k }))))

modify-line : (at : ℕ) (t : Bytes) → OnValue IsModifyLine (modify_line at t)
unfolding modify_line
modify-line at t =
    let w = first_word t in
    value_bind NotDir IsModifyLine (mode at w.0) (λ m. or_fault (Syntax at) w.1 >>= λ u. data_part at m (first_word u)) (mode_fits at w.0)
    (λ m h. value_bind (λ _. Unit {0}) IsModifyLine (or_fault (Syntax at) w.1) (λ u. data_part at m (first_word u)) (any_value (or_fault (Syntax at) w.1)) (λ u _. part-read at m (first_word u) h))

-- ---- changes

abbrev IsBlobOf : Mode → BlobRef → Type 0
IsBlobOf m b = IsSoundBlob m b × IsSmallBlob b

ref-read : (m : Mode) (d : DataRef) (ended : Bool) (i : Input) → DataFits m d → Fine i → OnRead (IsBlobOf m) (blob_ref d ended i)
ref-read m (datas.Mark n) ended i h f = ((h, tt), f)
ref-read m (datas.Digits n) ended i h f = ((h, tt), f)
ref-read m datas.Inline ended i h f =
    read_bind (IsShort BLOB_BYTES) (IsBlobOf m) blob_data (λ b ended i. Ok (blobs.Inline b, i)) ended i (blob-read ended i f) (λ b j g k. ((h b g.0, g.1), k))

abbrev IsReadChange : Change → Type 0
IsReadChange c = IsSoundChange c × IsSmallChange c

modify-read : (at : ℕ) (t : Bytes) (ended : Bool) (i : Input) → Fine i → OnRead IsReadChange (modify at t ended i)
unfolding modify
modify-read at t ended i f =
    read_bind IsModifyLine IsReadChange (judged (modify_line at t)) (λ l. blob_ref l.blob then λ b ended i. Ok (changes.Modify l.mode b l.path, i)) ended i (judged_read IsModifyLine (modify_line at t) ended i (modify-line at t) f)
    (λ l j h g. read_bind (IsBlobOf l.mode) IsReadChange (blob_ref l.blob) (λ b ended i. Ok (changes.Modify l.mode b l.path, i)) ended j (ref-read l.mode l.blob ended j h.blob g)
    (λ b k e w. (((e.0, h.path.0), (e.1, h.path.1)), w)))

delete-read : (at : ℕ) (t : Bytes) (ended : Bool) (i : Input) → Fine i → OnRead IsReadChange ((judged (last_path at t) then λ p ended i. Ok (changes.Delete p, i)) ended i)
delete-read at t ended i f =
    read_bind IsGoodPath IsReadChange (judged (last_path at t)) (λ p ended i. Ok (changes.Delete p, i)) ended i (judged_read IsGoodPath (last_path at t) ended i (last-path at t) f) (λ p j h g. ((tt, h.1), g))

paths-read : (make : Path → Path → Change) (at : ℕ) (t : Bytes) (ended : Bool) (i : Input) → ((p q : Path) → IsGoodPath p → IsGoodPath q → IsReadChange (make p q)) → Fine i →
    OnRead IsReadChange ((judged (two_paths at t) then λ p ended i. Ok (make p.0 p.1, i)) ended i)
paths-read make at t ended i g f =
    read_bind AreGoodPaths IsReadChange (judged (two_paths at t)) (λ p ended i. Ok (make p.0 p.1, i)) ended i (judged_read AreGoodPaths (two_paths at t) ended i (two-paths at t) f) (λ p j h k. (g p.0 p.1 h.0 h.1, k))

change-read : (at : ℕ) (l : ChangeLine) (ended : Bool) (i : Input) → Fine i → OnRead IsReadChange (change at l ended i)
unfolding change
change-read at (ModifyIs t) ended i f = modify-read at t ended i f
change-read at (DeleteIs t) ended i f = delete-read at t ended i f
change-read at (RenameIs t) ended i f = paths-read (λ p q. changes.Rename p q) at t ended i (λ p q h g. (g.0, (h.1, g.1))) f
change-read at (CopyIs t) ended i f = paths-read (λ p q. changes.Copy p q) at t ended i (λ p q h g. (g.0, (h.1, g.1))) f
change-read at DeleteAllIs ended i f = ((tt, tt), f)
change-read at NotesAre ended i f = tt
change-read at EmptyIs ended i f = tt
change-read at NoChange ended i f = tt

-- ---- lines that may be missing

abbrev IfSaid : {A : Type 0} → (A → Type 0) → Option A → Type 0
IfSaid P None = Unit {0}
IfSaid P (Some x) = P x

said-value : {A : Type 0} (P : A → Type 0) (says : Line → Judged A) (o : Option Line) → ((l : Line) → IsLine l → OnValue P (says l)) → IfLine o → OnValue (IfSaid P) (if_some says o)
said-value P says None g h = tt
said-value P says (Some l) g h = value_bind P (IfSaid P) (says l) (λ x. Ok (Some x)) (g l h) (λ x k. k)

said-read : {A : Type 0} (P : A → Type 0) (word : Bytes) (says : Line → Judged A) (ended : Bool) (i : Input) → ((l : Line) → IsLine l → OnValue P (says l)) → Fine i → OnRead (IfSaid P) (said word says ended i)
said-read P word says ended i g f =
    read_bind IfLine (IfSaid P) (option_line word) (λ l. judged (if_some says l)) ended i (option-read word ended i f)
    (λ l j h k. judged_read (IfSaid P) (if_some says l) ended j (said-value P says l g h) k)

marks-read : (ended : Bool) (i : Input) → Fine i → OnRead (λ _. Unit {0}) (mark_lines ended i)
unfolding mark_lines
marks-read ended i f =
    read_bind (IfSaid (λ _. Unit {0})) (λ _. Unit {0}) (said (codes "mark ") mark_in) (λ m. option_line (codes "original-oid ") then λ o ended i. Ok (m, i)) ended i
    (said-read (λ _. Unit {0}) (codes "mark ") mark_in ended i (λ l h. any_value (mark_in l)) f)
    (λ m j _ g. read_bind IfLine (λ _. Unit {0}) (option_line (codes "original-oid ")) (λ o ended i. Ok (m, i)) ended j (option-read (codes "original-oid ") ended j g) (λ o k _ w. (tt, w)))

ref-line-read : (word : Bytes) (ended : Bool) (i : Input) → Fine i → OnRead (λ _. Unit {0}) (ref_line word ended i)
unfolding ref_line
ref-line-read word ended i f = any_read (IfSaid (λ _. Unit {0})) (said word ref_in ended i) (said-read (λ _. Unit {0}) word ref_in ended i (λ l h. any_value (ref_in l)) f)

-- ---- people

abbrev IsPerson : Bytes → Type 0
IsPerson t = (is_ident t ≡ true) × AreBytes t

ident-read : (at : ℕ) (t : Bytes) → AreBytes t → OnValue IsPerson (ident at t)
ident-read at t h = value_if IsPerson (is_ident t) (Ok t) (fault (Syntax at)) (λ e. (e, h)) (λ _. tt)

committer-read : (at : ℕ) (o : Option Bytes) → IfBytes o → OnValue IsPerson (committer_by at o)
committer-read at None h = tt
committer-read at (Some t) h = ident-read at t h

abbrev ArePeople : Bytes × Bytes → Type 0
ArePeople p = IsPerson p.0 × IsPerson p.1

author-or : (c : Bytes) (a : Option Bytes) → IsPerson c → IfSaid IsPerson a → IsPerson (author_or c a)
author-or c None h g = h
author-or c (Some a) h g = g

people-read : (ended : Bool) (i : Input) → Fine i → OnRead ArePeople (people ended i)
unfolding people
people-read ended i f =
    read_bind (IfSaid IsPerson) ArePeople (said (codes "author ") author_in) (λ a. need_line then λ l. judged (committer_of l) then λ c ended i. Ok ((author_or c a, c), i)) ended i
    (said-read IsPerson (codes "author ") author_in ended i (λ l h. ident-read l.place l.bytes h) f)
    (λ a j h g. read_bind IsLine ArePeople need_line (λ l. judged (committer_of l) then λ c ended i. Ok ((author_or c a, c), i)) ended j (need-read ended j g)
    (λ l k e w. read_bind IsPerson ArePeople (judged (committer_of l)) (λ c ended i. Ok ((author_or c a, c), i)) ended k
    (judged_read IsPerson (committer_of l) ended k (committer-read l.place (strip (codes "committer ") l.bytes) (strip-bytes (codes "committer ") l.bytes e)) w)
    (λ c n v u. ((author-or c a v h, v), u))))

-- ---- parents

more-read : (done : List CommitRef) (next : CommitRef → Reader (List CommitRef)) (o : Option CommitRef) (ended : Bool) (i : Input) → ((r : CommitRef) (j : Input) → Fine j → OnRead (λ _. Unit {0}) (next r ended j)) → Fine i →
    OnRead (λ _. Unit {0}) (more_merges done next o ended i)
more-read done next None ended i g f = (tt, f)
more-read done next (Some r) ended i g f = g r i f

merges-read : (n : ℕ) (done : List CommitRef) (ended : Bool) (i : Input) → Fine i → OnRead (λ _. Unit {0}) (merges n done ended i)
merges-read zero done ended i f =
    read_bind (λ _. Unit {0}) (λ _. Unit {0}) (ref_line (codes "merge ")) (more_merges done (λ r. refuse (Limit r.at limits.Parents))) ended i (ref-line-read (codes "merge ") ended i f)
    (λ o j _ g. more-read done (λ r. refuse (Limit r.at limits.Parents)) o ended j (λ r k w. tt) g)
merges-read (suc n) done ended i f =
    read_bind (λ _. Unit {0}) (λ _. Unit {0}) (ref_line (codes "merge ")) (more_merges done (λ r. merges n (done ++ r ∷ []))) ended i (ref-line-read (codes "merge ") ended i f)
    (λ o j _ g. more-read done (λ r. merges n (done ++ r ∷ [])) o ended j (λ r k w. merges-read n (done ++ r ∷ []) ended k w) g)

parents-read : (ended : Bool) (i : Input) → Fine i → OnRead (λ _. Unit {0}) (parents ended i)
unfolding parents
parents-read ended i f =
    read_bind (λ _. Unit {0}) (λ _. Unit {0}) (ref_line (codes "from ")) (λ r. merges (merges_max r) [] then λ m ended i. Ok ((r, m), i)) ended i (ref-line-read (codes "from ") ended i f)
    (λ r j _ g. read_bind (λ _. Unit {0}) (λ _. Unit {0}) (merges (merges_max r) []) (λ m ended i. Ok ((r, m), i)) ended j (merges-read (merges_max r) [] ended j g) (λ m k _ w. (tt, w)))

-- ---- commands

abbrev IsReadCommand : Command → Type 0
IsReadCommand c = IsRead c

blob-command : (ended : Bool) (i : Input) → Fine i → OnRead IsReadCommand (blob ended i)
unfolding blob
blob-command ended i f =
    read_bind (λ _. Unit {0}) IsReadCommand mark_lines (λ m. blob_data then λ d ended i. Ok (commands.Blob m d, i)) ended i (marks-read ended i f)
    (λ m j _ g. read_bind (IsShort BLOB_BYTES) IsReadCommand blob_data (λ d ended i. Ok (commands.Blob m d, i)) ended j (blob-read ended j g) (λ d k h w. (record { sound = h.0; small = h.1 }, w)))

ref-name : (at : ℕ) (t : Bytes) → OnValue (λ r. is_ref_name r ≡ true) (refname at t)
ref-name at t = value_if (λ r. is_ref_name r ≡ true) (is_ref_name t) (Ok t) (fault (Syntax at)) (λ e. e) (λ _. tt)

head-command : (at : ℕ) (t : Bytes) (ended : Bool) (i : Input) → Fine i → OnRead IsReadCommand (head at t ended i)
unfolding head
head-command at t ended i f =
    read_bind (λ r. is_ref_name r ≡ true) IsReadCommand (judged (refname at t)) (λ r. mark_lines then λ m. people then λ p. message_data then λ d. parents then λ q ended i. Ok (commands.Commit (head_of r m p d q), i)) ended i
    (judged_read (λ r. is_ref_name r ≡ true) (refname at t) ended i (ref-name at t) f)
    (λ r j a g. read_bind (λ _. Unit {0}) IsReadCommand mark_lines (λ m. people then λ p. message_data then λ d. parents then λ q ended i. Ok (commands.Commit (head_of r m p d q), i)) ended j (marks-read ended j g)
    (λ m k _ h. read_bind ArePeople IsReadCommand people (λ p. message_data then λ d. parents then λ q ended i. Ok (commands.Commit (head_of r m p d q), i)) ended k (people-read ended k h)
    (λ p l b u. read_bind (IsShort MESSAGE_BYTES) IsReadCommand message_data (λ d. parents then λ q ended i. Ok (commands.Commit (head_of r m p d q), i)) ended l (message-read ended l u)
    (λ d n c v. read_bind (λ _. Unit {0}) IsReadCommand parents (λ q ended i. Ok (commands.Commit (head_of r m p d q), i)) ended n (parents-read ended n v)
    (λ q o _ w. (
      record {
        sound = record { refname = a; author = b.0.0; committer = b.1.0; author_bytes = b.0.1; committer_bytes = b.1.1; message = c.0 };
        small = c.1;
      },
      w,
    ))))))

reset-command : (at : ℕ) (t : Bytes) (ended : Bool) (i : Input) → Fine i → OnRead IsReadCommand (reset at t ended i)
unfolding reset
reset-command at t ended i f =
    read_bind (λ r. is_ref_name r ≡ true) IsReadCommand (judged (refname at t)) (λ r. ref_line (codes "from ") then λ f ended i. Ok (commands.Reset r f, i)) ended i
    (judged_read (λ r. is_ref_name r ≡ true) (refname at t) ended i (ref-name at t) f)
    (λ r j a g. read_bind (λ _. Unit {0}) IsReadCommand (ref_line (codes "from ")) (λ f ended i. Ok (commands.Reset r f, i)) ended j (ref-line-read (codes "from ") ended j g) (λ n k _ h. (record { sound = a; small = tt }, h)))

-- ---- tags

tag-name : (at : ℕ) (o : Option Bytes) → OnValue (λ n. is_tag_name n ≡ true) (tag_name at o)
tag-name at None = tt
tag-name at (Some t) = value_if (λ n. is_tag_name n ≡ true) (is_tag_name t) (Ok t) (fault (Syntax at)) (λ e. e) (λ _. tt)

behind-value : {A : Type 0} (P : A → Type 0) (says : Line → Judged A) (at : ℕ) (o : Option Bytes) → ((l : Line) → IsLine l → OnValue P (says l)) → IfBytes o → OnValue P ((or_fault (Syntax at) o >>= λ t. Ok (record { place = at; bytes = t })) >>= says)
behind-value P says at None g h = tt
behind-value P says at (Some t) g h = g (record { place = at; bytes = t }) h

said-must : {A : Type 0} (P : A → Type 0) (word : Bytes) (says : Line → Judged A) (ended : Bool) (i : Input) → ((l : Line) → IsLine l → OnValue P (says l)) → Fine i → OnRead P (must_say word says ended i)
said-must P word says ended i g f =
    read_bind IsLine P need_line (λ l. judged (behind_word word l >>= says)) ended i (need-read ended i f)
    (λ l j h k. judged_read P (behind_word word l >>= says) ended j (behind-value P says l.place (strip word l.bytes) g (strip-bytes word l.bytes h)) k)

tag-message : (ended : Bool) (i : Input) → Fine i → OnRead (IsShort MESSAGE_BYTES) (tag_data ended i)
unfolding tag_data
tag-message ended i f =
    read_bind IsLine (IsShort MESSAGE_BYTES) need_line (data_behind limits.Message MESSAGE_BYTES) ended i (need-read ended i f) (λ l j h k. data-read limits.Message MESSAGE_BYTES l ended j k)

tag-command : (at : ℕ) (t : Option Bytes) (ended : Bool) (i : Input) → Fine i → OnRead IsReadCommand (tag at t ended i)
unfolding tag
tag-command at t ended i f =
    read_bind (λ n. is_tag_name n ≡ true) IsReadCommand (judged (tag_name at t)) (λ n. said (codes "mark ") mark_in then λ m. must_say (codes "from ") ref_in then λ f. other n m f) ended i
    (judged_read (λ n. is_tag_name n ≡ true) (tag_name at t) ended i (tag-name at t) f)
    (λ n j a g. read_bind (IfSaid (λ _. Unit {0})) IsReadCommand (said (codes "mark ") mark_in) (λ m. must_say (codes "from ") ref_in then λ f. other n m f) ended j
    (said-read (λ _. Unit {0}) (codes "mark ") mark_in ended j (λ l h. any_value (mark_in l)) g)
    (λ m k _ h. read_bind (λ _. Unit {0}) IsReadCommand (must_say (codes "from ") ref_in) (λ f. other n m f) ended k (said-must (λ _. Unit {0}) (codes "from ") ref_in ended k (λ l w. any_value (ref_in l)) h)
    (λ r l _ u. read_bind IfLine IsReadCommand (option_line (codes "original-oid ")) (λ o. from_tagger n m r) ended l (option-read (codes "original-oid ") ended l u)
    (λ o q _ v. read_bind IsPerson IsReadCommand (must_say (codes "tagger ") tagger_in) (λ p. from_data n m r p) ended q (said-must IsPerson (codes "tagger ") tagger_in ended q (λ l w. ident-read l.place l.bytes w) v)
    (λ p s b w. read_bind (IsShort MESSAGE_BYTES) IsReadCommand tag_data (λ d ended i. Ok (made n m r p d, i)) ended s (tag-message ended s w)
    (λ d z c y. (record { sound = record { tag_name = a; tagger = b.0; tagger_bytes = b.1; message = c.0 }; small = c.1 }, y)))))))
  where
    made : Bytes → Option ℕ → CommitRef → Bytes → Bytes → Command
    made n m r p d = commands.Tag (record { name = n; from = r; mark = m; tagger = p; message = d })

    from_data : Bytes → Option ℕ → CommitRef → Bytes → Reader Command
    from_data n m r p = tag_data then λ d ended i. Ok (made n m r p d, i)

    from_tagger : Bytes → Option ℕ → CommitRef → Reader Command
    from_tagger n m r = must_say (codes "tagger ") tagger_in then λ p. from_data n m r p

    other : Bytes → Option ℕ → CommitRef → Reader Command
    other n m r = option_line (codes "original-oid ") then λ o. from_tagger n m r

-- ---- turns

abbrev IsReadEvent : Event → Type 0
IsReadEvent (Gives c) = IsRead c.command
IsReadEvent Skips = Unit {0}
IsReadEvent Ends = Unit {0}

abbrev IsReadTurn : Turn → Type 0
IsReadTurn t = IsReadEvent t.event

tag-read : (at : ℕ) (t : Option Bytes) (d : Manner) (b : Bool) (ended : Bool) (i : Input) → Fine i → OnRead IsReadTurn (tag_turn at t d b ended i)
tag-read at t d true ended i f = read_bind IsReadCommand IsReadTurn (tag at t) (gives at Between d) ended i (tag-command at t ended i f) (λ c j h g. (h, g))
tag-read at t d false ended i f = tt

between-read : (l : CommandLine) (at : ℕ) (d : Manner) (ended : Bool) (i : Input) → Fine i → OnRead IsReadTurn (between l at d ended i)
between-read EmptyLine at d ended i f = (tt, f)
between-read BlobLine at d ended i f = read_bind IsReadCommand IsReadTurn blob (gives at Between d) ended i (blob-command ended i f) (λ c j h g. (h, g))
between-read (CommitLine t) at d ended i f = read_bind IsReadCommand IsReadTurn (head at t) (gives at InCommit d) ended i (head-command at t ended i f) (λ c j h g. (h, g))
between-read (ResetLine t) at d ended i f = read_bind IsReadCommand IsReadTurn (reset at t) (gives at Between d) ended i (reset-command at t ended i f) (λ c j h g. (h, g))
between-read (TagLine t) at d ended i f = tag-read at t d d.takes_tags ended i f
between-read IdleLine at d ended i f = (tt, f)
between-read WantsDone at d ended i f = (tt, f)
between-read DoneLine at d ended i f = (record { sound = tt; small = tt }, f)
between-read (RefusedLine e) at d ended i f = tt
between-read OtherLine at d ended i f = tt

in-change : (k : ChangeLine) (at : ℕ) (d : Manner) (ended : Bool) (i : Input) → Fine i → OnRead IsReadTurn ((change at k then λ c. gives at InCommit d (commands.Change c)) ended i)
in-change k at d ended i f = read_bind IsReadChange IsReadTurn (change at k) (λ c. gives at InCommit d (commands.Change c)) ended i (change-read at k ended i f) (λ c j h g. (record { sound = h.0; small = h.1 }, g))

changed-read : (k : ChangeLine) (at : ℕ) (d : Manner) (ended : Bool) (before i : Input) → Fine before → Fine i → OnRead IsReadTurn (changed k at d ended before i)
changed-read EmptyIs at d ended before i b f = (record { sound = tt; small = tt }, f)
changed-read NoChange at d ended before i b f = (record { sound = tt; small = tt }, b)
changed-read (ModifyIs t) at d ended before i b f = in-change (ModifyIs t) at d ended i f
changed-read (DeleteIs t) at d ended before i b f = in-change (DeleteIs t) at d ended i f
changed-read (RenameIs t) at d ended before i b f = in-change (RenameIs t) at d ended i f
changed-read (CopyIs t) at d ended before i b f = in-change (CopyIs t) at d ended i f
changed-read DeleteAllIs at d ended before i b f = in-change DeleteAllIs at d ended i f
changed-read NotesAre at d ended before i b f = in-change NotesAre at d ended i f

between-here : (d : Manner) (ended : Bool) (x : Option Line) (i : Input) → IfLine x → Fine i → OnRead IsReadTurn (between_at d ended (x, i))
between-here d ended None i h f = by d.wants_done
  where
    by : (e : Bool) → OnRead IsReadTurn (ends_at i.at d e ended i)
    by true = tt
    by false = (tt, f)
between-here d ended (Some l) i h f = between-read (command_line l.bytes) l.place d ended i f

in-commit-here : (d : Manner) (ended : Bool) (before : Input) (x : Option Line) (i : Input) → Fine before → Fine i → OnRead IsReadTurn (in_commit_at d ended before (x, i))
in-commit-here d ended before None i b f = (record { sound = tt; small = tt }, f)
in-commit-here d ended before (Some l) i b f = changed-read (change_line l.bytes) l.place d ended before i b f

phase-read : (p : Phase) (d : Manner) (ended : Bool) (i : Input) → Fine i → OnRead IsReadTurn (turn_in p d ended i)
phase-read Between d ended i f =
    value_bind (λ x. IfLine x.0 × Fine x.1) (λ x. IsReadTurn x.0 × Fine x.1) (lifted (line_at ended i)) (between_at d ended) (line-read ended i f) (λ x h. between-here d ended x.0 x.1 h.0 h.1)
phase-read InCommit d ended i f =
    value_bind (λ x. IfLine x.0 × Fine x.1) (λ x. IsReadTurn x.0 × Fine x.1) (lifted (line_at ended i)) (in_commit_at d ended i) (line-read ended i f) (λ x h. in-commit-here d ended i x.0 x.1 f h.1)
phase-read Finished d ended i f = (tt, f)

turn-read : (p : Progress) (ended : Bool) (i : Input) → Fine i → OnRead IsReadTurn (turn p ended i)
unfolding turn
turn-read p ended i f = phase-read p.phase p.manner ended i f

-- ---- the next command

abbrev IfPlaced : Option Placed → Type 0
IfPlaced None = Unit {0}
IfPlaced (Some c) = IsRead c.command

abbrev IsReadTold : Told → Type 0
IsReadTold t = IfPlaced t.command

event-read : (next : Progress → Reader Told) (e : Event) (p : Progress) (ended : Bool) (i : Input) → IsReadEvent e → Fine i → ((q : Progress) (j : Input) → Fine j → OnRead IsReadTold (next q ended j)) → OnRead IsReadTold (by_event next e p ended i)
event-read next (Gives c) p ended i h f g = (h, f)
event-read next Skips p ended i h f g = g p i f
event-read next Ends p ended i h f g = (tt, f)

command-within : (n : ℕ) (p : Progress) (ended : Bool) (i : Input) → Fine i → OnRead IsReadTold (command_within n p ended i)
command-within zero p ended i f = tt
command-within (suc n) p ended i f =
    read_bind IsReadTurn IsReadTold (turn p) (turn_on (command_within n)) ended i (turn-read p ended i f) (λ t j h g. event-read (command_within n) t.event t.progress ended j h g (λ q k w. command-within n q ended k w))

command-read : (p : Progress) (ended : Bool) (i : Input) → Fine i → OnRead IsReadTold (read_command p ended i)
unfolding read_command
command-read p ended i f = command-within (length i.rest + 1) p ended i f

-- ---- the whole stream

abbrev AreRead : List Placed → Type 0
AreRead cs = All (λ c. IsRead c.command) cs

told-read : (later : Progress → Input → Rattle.stream_reader.specs.Verdicts.Verdict) (o : Option Placed) (p : Progress) (i : Input) → IfPlaced o → AreRead (later p i).commands → AreRead (Rattle.stream_reader.specs.Verdicts.told_then later o p i).commands
told-read later None p i h g = All-nil (λ c. IsRead c.command)
told-read later (Some c) p i h g = All-cons (λ c. IsRead c.command) c (later p i).commands h g

halted-read : (e : Stop StreamFault) → AreRead (Rattle.stream_reader.specs.Verdicts.halted e).commands
halted-read (stops.Fault f) = All-nil (λ c. IsRead c.command)
halted-read (stops.More w) = All-nil (λ c. IsRead c.command)

go-read : (later : Progress → Input → Rattle.stream_reader.specs.Verdicts.Verdict) (r : Read Told) → OnRead IsReadTold r → ((p : Progress) (i : Input) → Fine i → AreRead (later p i).commands) → AreRead (go_on later r).commands
go-read later (Ok x) h g = told-read later x.0.command x.0.progress x.1 h.0 (g x.0.progress x.1 h.1)
go-read later (Err e) h g = halted-read e

verdict-within : (n : ℕ) (p : Progress) (i : Input) → Fine i → AreRead (verdict_within n p i).commands
verdict-within zero p i f = All-nil (λ c. IsRead c.command)
verdict-within (suc n) p i f = go-read (verdict_within n) (read_command p true i) (command-read p true i f) (λ q j g. verdict-within n q j g)

pub reader-law : ReaderLaw
unfolding verdict_from
reader-law p input h = verdict-within _ p (from_start input) h
