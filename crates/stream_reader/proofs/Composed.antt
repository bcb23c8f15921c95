-- Each reader of the grammar is one.
use Rattle.std.proofs.Common.{ℕ, zero, suc, Bool, true, false, List, [], ◌∷◌, ◌++◌, Option, Some, None, nat_eq}
use Rattle.std.specs.Prelude.{codes, nat_le}
use Rattle.std.specs.List.{starts_with}
use Rattle.git_objects.specs.declared.limits.TheConstants.{BLOB_BYTES, MESSAGE_BYTES}
use Rattle.git_objects.specs.declared.quantity.Quantity.{Quantity}
use Rattle.git_objects.specs.declared.quantity.Quantity.TheVariants as limits
use Rattle.git_objects.specs.Paths.{Bytes}
use Rattle.git_objects.specs.Results.{◌>>=◌}
use Rattle.stream_lex.specs.Lines.{Line}
use Rattle.stream_reader.specs.declared.fault.StreamFault.TheVariants.{Syntax, Limit}
use Rattle.stream_reader.specs.declared.commit_ref.CommitRef.{CommitRef}
use Rattle.stream_reader.specs.declared.modify.DataRef.{DataRef}
use Rattle.stream_reader.specs.declared.modify.DataRef.TheVariants as datas
use Rattle.stream_reader.specs.declared.progress.Manner.{Manner}
use Rattle.stream_reader.specs.declared.progress.Phase.TheVariants.{Between, InCommit}
use Rattle.stream_lex.specs.Cutting.{judged, refuse}
use Rattle.stream_reader.specs.Reading.{Judged, Reader, or_fault, option_line, need_line}
use Rattle.stream_reader.specs.Names.{refname, tag_name}
use Rattle.stream_reader.specs.Blocks.{count, sized_block, whole_block, data_behind, blob_data, message_behind, message_data, tag_data}
use Rattle.stream_reader.specs.PathWords.{last_path, two_paths}
use Rattle.stream_reader.specs.Changes.{modify_line, blob_ref, modify, change, ChangeLine, ModifyIs, DeleteIs, RenameIs, CopyIs, DeleteAllIs, NotesAre, EmptyIs, NoChange}
use Rattle.stream_reader.specs.Heads.{if_some, said, mark_in, mark_lines, blob, author_in, committer_of, people, ref_in, ref_line, more_merges, merges, merges_max, parents, head, reset, behind_word, must_say, tagger_in, tag}
use Rattle.stream_reader.specs.Commands.{CommandLine, EmptyLine, BlobLine, CommitLine, ResetLine, TagLine, IdleLine, WantsDone, DoneLine, RefusedLine, OtherLine, gives, tag_turn, between, ends_at, at_the_end}
use Rattle.stream_lex.specs.Cutting.{IsReader}
use Rattle.stream_lex.proofs.Combining.{then-reader, pure-reader, refuse-reader, judged-reader, cond-reader}
use Rattle.stream_reader.proofs.Combining.{option_line-reader, need_line-reader, whole_block-reader}
use Rattle.stream_reader.proofs.Judging.{IsJudged, given, refname-judged, last_path-judged, two_paths-judged, modify_line-judged, if_some-judged, mark_in-judged, author_in-judged, committer_of-judged, ref_in-judged, tag_name-judged, behind-judged, tagger_in-judged}

sized_block-reader : (which : Quantity) (most at n : ℕ) → IsReader (sized_block which most at n)
sized_block-reader which most at n = cond-reader (nat_le n most) (whole_block at n) (refuse (Limit at which)) (whole_block-reader at n) (refuse-reader (Limit at which))

data_behind-reader : (which : Quantity) (most : ℕ) (l : Line) → IsReader (data_behind which most l)
unfolding data_behind
data_behind-reader which most l =
    cond-reader (starts_with nat_eq l.bytes (codes "data <<")) _ _ (refuse-reader _)
    (then-reader (judged (or_fault (Syntax l.place) (count l.bytes))) (sized_block which most l.place) (judged-reader _ (given (Syntax l.place) (count l.bytes)).told) (sized_block-reader which most l.place))

pub blob_data-reader : IsReader blob_data
unfolding blob_data
blob_data-reader = then-reader need_line (data_behind limits.Blob BLOB_BYTES) need_line-reader (data_behind-reader limits.Blob BLOB_BYTES)

message_behind-reader : (l : Line) → IsReader (message_behind l)
message_behind-reader l =
    cond-reader (starts_with nat_eq l.bytes (codes "encoding ")) _ _ (refuse-reader _)
    (cond-reader (starts_with nat_eq l.bytes (codes "gpgsig ")) _ _ (refuse-reader _) (data_behind-reader limits.Message MESSAGE_BYTES l))

pub message_data-reader : IsReader message_data
unfolding message_data
message_data-reader = then-reader need_line message_behind need_line-reader message_behind-reader

-- ---- changes

pub blob_ref-reader : (d : DataRef) → IsReader (blob_ref d)
blob_ref-reader (datas.Mark n) = pure-reader _
blob_ref-reader (datas.Digits n) = pure-reader _
blob_ref-reader datas.Inline = then-reader blob_data _ blob_data-reader (λ b. pure-reader _)

modify-reader : (at : ℕ) (t : Bytes) → IsReader (modify at t)
unfolding modify
modify-reader at t =
    then-reader (judged (modify_line at t)) _ (judged-reader (modify_line at t) (modify_line-judged at t).told) (λ l. then-reader (blob_ref l.blob) _ (blob_ref-reader l.blob) (λ b. pure-reader _))

pub change-reader : (at : ℕ) (k : ChangeLine) → IsReader (change at k)
unfolding change
change-reader at (ModifyIs t) = modify-reader at t
change-reader at (DeleteIs t) = then-reader (judged (last_path at t)) _ (judged-reader (last_path at t) (last_path-judged at t).told) (λ p. pure-reader _)
change-reader at (RenameIs t) = then-reader (judged (two_paths at t)) _ (judged-reader (two_paths at t) (two_paths-judged at t).told) (λ p. pure-reader _)
change-reader at (CopyIs t) = then-reader (judged (two_paths at t)) _ (judged-reader (two_paths at t) (two_paths-judged at t).told) (λ p. pure-reader _)
change-reader at DeleteAllIs = pure-reader _
change-reader at NotesAre = refuse-reader _
change-reader at EmptyIs = refuse-reader _
change-reader at NoChange = refuse-reader _

-- ---- heads

pub said-reader : {A : Type 0} (word : Bytes) (says : Line → Judged A) → ((l : Line) → IsJudged l.place (says l)) → IsReader (said word says)
said-reader word says h =
    then-reader (option_line word) (λ l. judged (if_some says l)) (option_line-reader word) (λ l. judged-reader (if_some says l) (if_some-judged says h l).told)

pub mark_lines-reader : IsReader mark_lines
unfolding mark_lines
mark_lines-reader =
    then-reader (said (codes "mark ") mark_in) _ (said-reader (codes "mark ") mark_in mark_in-judged) (λ m.
    then-reader (option_line (codes "original-oid ")) _ (option_line-reader (codes "original-oid ")) (λ o. pure-reader m))

pub blob-reader : IsReader blob
unfolding blob
blob-reader = then-reader mark_lines _ mark_lines-reader (λ m. then-reader blob_data _ blob_data-reader (λ d. pure-reader _))

pub people-reader : IsReader people
unfolding people
people-reader =
    then-reader (said (codes "author ") author_in) _ (said-reader (codes "author ") author_in author_in-judged) (λ a.
    then-reader need_line _ need_line-reader (λ l.
    then-reader (judged (committer_of l)) _ (judged-reader (committer_of l) (committer_of-judged l).told) (λ c. pure-reader _)))

pub ref_line-reader : (word : Bytes) → IsReader (ref_line word)
unfolding ref_line
ref_line-reader word = said-reader word ref_in ref_in-judged

more_merges-reader : (done : List CommitRef) (next : CommitRef → Reader (List CommitRef)) → ((r : CommitRef) → IsReader (next r)) → (o : Option CommitRef) → IsReader (more_merges done next o)
more_merges-reader done next h None = pure-reader done
more_merges-reader done next h (Some r) = h r

pub merges-reader : (n : ℕ) (done : List CommitRef) → IsReader (merges n done)
merges-reader zero done = then-reader (ref_line (codes "merge ")) _ (ref_line-reader (codes "merge ")) (more_merges-reader done _ (λ r. refuse-reader (Limit r.at limits.Parents)))
merges-reader (suc n) done = then-reader (ref_line (codes "merge ")) _ (ref_line-reader (codes "merge ")) (more_merges-reader done _ (λ r. merges-reader n (done ++ r ∷ [])))

pub parents-reader : IsReader parents
unfolding parents
parents-reader =
    then-reader (ref_line (codes "from ")) _ (ref_line-reader (codes "from ")) (λ f. then-reader (merges (merges_max f) []) _ (merges-reader (merges_max f) []) (λ m. pure-reader _))

pub head-reader : (at : ℕ) (t : Bytes) → IsReader (head at t)
unfolding head
head-reader at t =
    then-reader (judged (refname at t)) _ (judged-reader (refname at t) (refname-judged at t).told) (λ r.
    then-reader mark_lines _ mark_lines-reader (λ m.
    then-reader people _ people-reader (λ p.
    then-reader message_data _ message_data-reader (λ d.
    then-reader parents _ parents-reader (λ q. pure-reader _)))))

pub reset-reader : (at : ℕ) (t : Bytes) → IsReader (reset at t)
unfolding reset
reset-reader at t =
    then-reader (judged (refname at t)) _ (judged-reader (refname at t) (refname-judged at t).told) (λ r. then-reader (ref_line (codes "from ")) _ (ref_line-reader (codes "from ")) (λ f. pure-reader _))

-- ---- tags

pub must_say-reader : {A : Type 0} (word : Bytes) (says : Line → Judged A) → ((at : ℕ) (t : Bytes) → IsJudged at (says (record { place = at; bytes = t }))) → IsReader (must_say word says)
must_say-reader word says h = then-reader need_line _ need_line-reader (λ l. judged-reader (behind_word word l >>= says) (behind-judged word says h l).told)

pub tag_data-reader : IsReader tag_data
unfolding tag_data
tag_data-reader = then-reader need_line (data_behind limits.Message MESSAGE_BYTES) need_line-reader (data_behind-reader limits.Message MESSAGE_BYTES)

pub tag-reader : (at : ℕ) (t : Option Bytes) → IsReader (tag at t)
unfolding tag
tag-reader at t =
    then-reader (judged (tag_name at t)) _ (judged-reader (tag_name at t) (tag_name-judged at t).told) (λ n.
    then-reader (said (codes "mark ") mark_in) _ (said-reader (codes "mark ") mark_in mark_in-judged) (λ m.
    then-reader (must_say (codes "from ") ref_in) _ (must_say-reader (codes "from ") ref_in (λ at t. ref_in-judged (record { place = at; bytes = t }))) (λ f.
    then-reader (option_line (codes "original-oid ")) _ (option_line-reader (codes "original-oid ")) (λ o.
    then-reader (must_say (codes "tagger ") tagger_in) _ (must_say-reader (codes "tagger ") tagger_in (λ at t. tagger_in-judged (record { place = at; bytes = t }))) (λ p.
    then-reader tag_data _ tag_data-reader (λ d. pure-reader _))))))

-- ---- turns

tag_turn-reader : (at : ℕ) (t : Option Bytes) (d : Manner) (b : Bool) → IsReader (tag_turn at t d b)
tag_turn-reader at t d true = then-reader (tag at t) (gives at Between d) (tag-reader at t) (λ c. pure-reader _)
tag_turn-reader at t d false = refuse-reader _

pub between-reader : (k : CommandLine) (at : ℕ) (d : Manner) → IsReader (between k at d)
between-reader EmptyLine at d = pure-reader _
between-reader BlobLine at d = then-reader blob (gives at Between d) blob-reader (λ c. pure-reader _)
between-reader (CommitLine t) at d = then-reader (head at t) (gives at InCommit d) (head-reader at t) (λ c. pure-reader _)
between-reader (ResetLine t) at d = then-reader (reset at t) (gives at Between d) (reset-reader at t) (λ c. pure-reader _)
between-reader (TagLine t) at d = tag_turn-reader at t d d.takes_tags
between-reader IdleLine at d = pure-reader _
between-reader WantsDone at d = pure-reader _
between-reader DoneLine at d = pure-reader _
between-reader (RefusedLine f) at d = refuse-reader _
between-reader OtherLine at d = refuse-reader _

ends_at-reader : (at : ℕ) (d : Manner) (b : Bool) → IsReader (ends_at at d b)
ends_at-reader at d true = refuse-reader _
ends_at-reader at d false = pure-reader _

pub at_the_end-reader : (at : ℕ) (d : Manner) → IsReader (at_the_end at d)
at_the_end-reader at d = ends_at-reader at d d.wants_done
