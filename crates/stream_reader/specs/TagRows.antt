-- Worked examples of tags that are read.
use Rattle.std.specs.Prelude.{◌≡◌, refl, [], ◌∷◌, ◌++◌, codes, Some, None}
use Rattle.git_objects.specs.Paths.{Bytes}
use Rattle.git_objects.specs.Idents.{is_ident}
use Rattle.hex.specs.Hex.{decode_pairs}
use Rattle.path_names.specs.RefNames.{is_ref_name}
use Rattle.path_names.specs.Words.{number}
use Rattle.stream_lex.specs.Lines.{any_line, block_at, line_at}
use Rattle.stream_reader.specs.Blocks.{data_behind, tag_data}
use Rattle.stream_reader.specs.Commands.{command_line, read_command, turn}
use Rattle.stream_reader.specs.Heads.{ref_line, reset, tag}
use Rattle.stream_reader.specs.Names.{target}
use Rattle.stream_reader.specs.Reading.{need_line, option_line}
use Rattle.stream_reader.specs.Words.{first_word, mark}
use Rattle.stream_reader.specs.declared.command.Command.TheVariants.{Tag}
use Rattle.stream_reader.specs.declared.commit_ref.Target.TheVariants as targets
use Rattle.stream_reader.specs.declared.fault.Feature.TheVariants as features
use Rattle.stream_reader.specs.declared.fault.StreamFault.TheVariants.{Syntax, Unsupported}
use Rattle.stream_reader.specs.Verdicts.{Verdict, stopped, tagged_start, verdict, verdict_from}

abbrev person : Bytes
person = codes "A <a@x> 1700000000 +0000"

abbrev front : Bytes
front = codes "tag v1\nfrom refs/heads/main\ntagger A <a@x> 1700000000 +0000\n"

abbrev lines : Bytes
lines = front ++ codes "data 3\nv1\n"

-- its lines begin at 0, 7, 28 and 60
abbrev v1 : Verdict
v1 = record {
  commands = record { at = 0; command = Tag (record { name = codes "v1"; from = record { at = 7; target = targets.Ref (codes "refs/heads/main") }; mark = None; tagger = person; message = codes "v1\n" }) } ∷ [];
  fault = None;
}

pub a_tag : verdict tagged_start lines ≡ v1
unfolding verdict_from read_command turn tag tag_data any_line line_at block_at option_line need_line first_word number mark target data_behind is_ref_name is_ident command_line decode_pairs
a_tag = refl

-- one LF behind the message is taken where it is there
pub an_empty_line_behind : verdict tagged_start (lines ++ codes "\n") ≡ v1
unfolding verdict_from read_command turn tag tag_data any_line line_at block_at option_line need_line first_word number mark target data_behind is_ref_name is_ident command_line decode_pairs
an_empty_line_behind = refl

-- the lines that may be missing stand in their places
pub with_a_mark : verdict tagged_start (codes "tag v1\nmark :5\nfrom :2\noriginal-oid x\ntagger A <a@x> 1700000000 +0000\ndata 0\n") ≡ record {
  commands = record { at = 0; command = Tag (record { name = codes "v1"; from = record { at = 15; target = targets.Mark 2 }; mark = Some 5; tagger = person; message = [] }) } ∷ [];
  fault = None;
}
unfolding verdict_from read_command turn tag tag_data any_line line_at block_at option_line need_line first_word number mark target data_behind is_ref_name is_ident command_line decode_pairs
with_a_mark = refl

-- ---- faults

pub the_word_alone : verdict tagged_start (codes "tag\n") ≡ stopped (Some (Syntax 0))
unfolding verdict_from read_command turn tag tag_data any_line line_at block_at option_line need_line first_word number mark target data_behind is_ref_name is_ident command_line decode_pairs
the_word_alone = refl

pub no_tag_name : verdict tagged_start (codes "tag v..1\n") ≡ stopped (Some (Syntax 0))
unfolding verdict_from read_command turn tag tag_data any_line line_at block_at option_line need_line first_word number mark target data_behind is_ref_name is_ident command_line decode_pairs
no_tag_name = refl

-- at the place of the line that stands there
pub no_commit : verdict tagged_start (codes "tag v1\ntagger A <a@x> 1700000000 +0000\n") ≡ stopped (Some (Syntax 7))
unfolding verdict_from read_command turn tag tag_data any_line line_at block_at option_line need_line first_word number mark target data_behind is_ref_name is_ident command_line decode_pairs
no_commit = refl

-- what Git writes of a tag without a tagger
pub no_tagger : verdict tagged_start (codes "tag v1\nfrom :2\ndata 3\nv1\n") ≡ stopped (Some (Syntax 15))
unfolding verdict_from read_command turn tag tag_data any_line line_at block_at option_line need_line first_word number mark target data_behind is_ref_name is_ident command_line decode_pairs
no_tagger = refl

-- at the length of the input where a line is missing
pub no_data : verdict tagged_start front ≡ stopped (Some (Syntax 60))
unfolding verdict_from read_command turn tag tag_data any_line line_at block_at option_line need_line first_word number mark target data_behind is_ref_name is_ident command_line decode_pairs
no_data = refl

pub short_data : verdict tagged_start (front ++ codes "data 4\nv1\n") ≡ stopped (Some (Syntax 60))
unfolding verdict_from read_command turn tag tag_data any_line line_at block_at option_line need_line first_word number mark target data_behind is_ref_name is_ident command_line decode_pairs
short_data = refl

-- a line `encoding` is a commit's alone
pub no_encoding : verdict tagged_start (front ++ codes "encoding x\ndata 0\n") ≡ stopped (Some (Syntax 60))
unfolding verdict_from read_command turn tag tag_data any_line line_at block_at option_line need_line first_word number mark target data_behind is_ref_name is_ident command_line decode_pairs
no_encoding = refl

pub a_delimiter : verdict tagged_start (front ++ codes "data <<x\n") ≡ stopped (Some (Unsupported 60 features.Delimiter))
unfolding verdict_from read_command turn tag tag_data any_line line_at block_at option_line need_line first_word number mark target data_behind is_ref_name is_ident command_line decode_pairs
a_delimiter = refl

-- what Git writes of a tag of a tag, before the tag itself
pub the_zero_name : verdict tagged_start (codes "reset refs/tags/n\nfrom 0000000000000000000000000000000000000000\n") ≡ stopped (Some (Unsupported 18 features.ZeroName))
unfolding verdict_from read_command turn tag tag_data any_line line_at block_at option_line need_line first_word number mark target data_behind is_ref_name is_ident command_line decode_pairs reset ref_line
the_zero_name = refl
