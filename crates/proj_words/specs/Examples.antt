-- Worked examples: forms of words, lines of a batch, numbers and texts of outcomes.
use Rattle.std.specs.Prelude.{◌≡◌, refl, true, false, [], ◌∷◌}
use Rattle.std.specs.Prelude.{◌++◌, codes, replicate, Some, None, Ok, Err}
use Rattle.std.specs.Fmt.{digits}
use Rattle.hex.specs.Hex.{decode_pairs, encode_with}
use Rattle.git_objects.specs.Paths.{Bytes, Path}
use Rattle.git_objects.specs.declared.name.Name.{Name as ObjectName}
use Rattle.git_objects.specs.declared.quantity.Quantity.TheVariants as limits
use Rattle.path_names.specs.PathTexts.{path_of}
use Rattle.path_names.specs.Quoting.{quote, quoted_byte}
use Rattle.path_names.specs.RefNames.{is_ref_name}
use Rattle.path_names.specs.Words.{number}
use Rattle.stream_reader.specs.declared.fault.Feature.TheVariants as features
use Rattle.stream_reader.specs.declared.fault.StreamFault.TheVariants as streams
use Rattle.filter_text.specs.declared.filter.FilterFault.TheVariants as texts
use Rattle.filter_routes.specs.declared.fault.RouteFault.TheVariants as routes
use Rattle.proj_words.specs.Words.{Import, Project, Push, PushMerges, Export, ExportTags, Name, Batch}
use Rattle.proj_words.specs.Words.{Trial, Rule, Ask, Verify, As, Unknown, Tags, Audit}
use Rattle.proj_words.specs.Words.{command, line_command, loads, reads, writes}
use Rattle.proj_words.specs.Outcomes.{code_of, text_of, usage}
use Rattle.proj_words.specs.Entries.{byte_count, entries, reply_text}
use Rattle.proj_words.specs.TrialTexts.{first_push, third_push, push_stream, trial_commit, trial_stream}
use Rattle.proj_words.specs.Faults.{filter_outcome, route_outcome, stream_outcome}
use Rattle.proj_words.specs.declared.outcome.FilterWhat.TheVariants as filters
use Rattle.proj_words.specs.declared.outcome.Outcome.TheVariants.{Done, OutOfMemory, Usage, UnknownRef}
use Rattle.proj_words.specs.declared.outcome.Outcome.TheVariants.{Syntax, Unsupported, Unresolved, BadPath, NoSource}
use Rattle.proj_words.specs.declared.outcome.Outcome.TheVariants.{FilterFault, Overlap, NotKeeping}
use Rattle.proj_words.specs.declared.outcome.Outcome.TheVariants.{NotForward, OtherRef, NotAtHead, MergePushed}
use Rattle.proj_words.specs.declared.outcome.Outcome.TheVariants.{NoChange, NotHeld, Blocked, BadWorkspace}
use Rattle.proj_words.specs.declared.outcome.Outcome.TheVariants.{Unseen, RepeatedParent, TagExists, NotProved}
use Rattle.proj_words.specs.declared.outcome.Outcome.TheVariants.{Limit, Collision, Damaged, Denied, BadPolicy}
use Rattle.proj_words.specs.declared.outcome.Outcome.TheVariants.{ReadFault, WriteFault, StoreFault}

-- ---- words

abbrev main : Bytes
main = codes "refs/heads/main"

pub an_import : command (codes "import" ∷ []) ≡ Import false
an_import = refl

pub a_forced_import : command (codes "import" ∷ codes "--force" ∷ []) ≡ Import true
a_forced_import = refl

pub an_import_of_something : command (codes "import" ∷ codes "force" ∷ []) ≡ Unknown
an_import_of_something = refl

pub a_projection : command (codes "project" ∷ main ∷ codes ":/a" ∷ []) ≡ Project main (codes ":/a")
unfolding is_ref_name
a_projection = refl

-- the text of a filter isn't read
pub a_push : command (codes "push" ∷ main ∷ codes "" ∷ []) ≡ Push main []
unfolding is_ref_name
a_push = refl

pub an_export : command (codes "export" ∷ main ∷ codes ":/a" ∷ []) ≡ Export main (codes ":/a")
unfolding is_ref_name
an_export = refl

pub a_name : command (codes "name" ∷ main ∷ codes ":/a" ∷ []) ≡ Name main (codes ":/a")
unfolding is_ref_name
a_name = refl

pub no_ref_name : command (codes "project" ∷ codes "main" ∷ codes ":/a" ∷ []) ≡ Unknown
unfolding is_ref_name
no_ref_name = refl

pub a_ref_without_a_filter : command (codes "project" ∷ main ∷ []) ≡ Unknown
a_ref_without_a_filter = refl

pub a_batch : command (codes "batch" ∷ []) ≡ Batch
a_batch = refl

pub the_largest_trial : command (codes "trial" ∷ codes "100000" ∷ []) ≡ Trial 100000
unfolding number
the_largest_trial = refl

pub a_larger_trial : command (codes "trial" ∷ codes "100001" ∷ []) ≡ Unknown
unfolding number
a_larger_trial = refl

pub a_trial_of_nothing : command (codes "trial" ∷ codes "0" ∷ []) ≡ Unknown
a_trial_of_nothing = refl

pub a_leading_zero : command (codes "trial" ∷ codes "07" ∷ []) ≡ Unknown
a_leading_zero = refl

pub a_rule : command (codes "rule" ∷ codes "1" ∷ []) ≡ Rule 1
a_rule = refl

pub the_second_rule : command (codes "rule" ∷ codes "2" ∷ []) ≡ Rule 2
the_second_rule = refl

pub no_third_rule : command (codes "rule" ∷ codes "3" ∷ []) ≡ Unknown
no_third_rule = refl

pub no_words : command [] ≡ Unknown
no_words = refl

pub a_word_too_many : command (codes "project" ∷ main ∷ codes ":/a" ∷ codes "b" ∷ []) ≡ Unknown
unfolding path_of
a_word_too_many = refl

-- ---- pushes with merges

-- the text of a filter is read neither as a filter nor as a path
pub a_push_with_merges : command (codes "push" ∷ codes "--merges" ∷ main ∷ codes "" ∷ []) ≡ PushMerges main []
unfolding is_ref_name
a_push_with_merges = refl

pub another_option_of_a_push : command (codes "push" ∷ codes "--force" ∷ main ∷ codes ":/a" ∷ []) ≡ Unknown
another_option_of_a_push = refl

pub an_option_of_an_export_on_a_push : command (codes "push" ∷ codes "--tags" ∷ main ∷ codes ":/a" ∷ []) ≡ Unknown
an_option_of_an_export_on_a_push = refl

pub an_option_of_a_push_on_an_export : command (codes "export" ∷ codes "--merges" ∷ main ∷ codes ":/a" ∷ []) ≡ Unknown
an_option_of_a_push_on_an_export = refl

pub a_push_with_its_option_last : command (codes "push" ∷ main ∷ codes ":/a" ∷ codes "--merges" ∷ []) ≡ Unknown
a_push_with_its_option_last = refl

pub a_push_with_merges_of_no_ref : command (codes "push" ∷ codes "--merges" ∷ codes "main" ∷ codes ":/a" ∷ []) ≡ Unknown
unfolding is_ref_name
a_push_with_merges_of_no_ref = refl

-- an option is no ref name
pub a_push_with_merges_without_a_filter : command (codes "push" ∷ codes "--merges" ∷ main ∷ []) ≡ Unknown
unfolding is_ref_name
a_push_with_merges_without_a_filter = refl

pub a_push_with_a_word_too_many :
    command (codes "push" ∷ codes "--merges" ∷ main ∷ codes ":/a" ∷ codes "b" ∷ []) ≡ Unknown
a_push_with_a_word_too_many = refl

pub a_push_with_two_words_too_many :
    command (codes "push" ∷ codes "--merges" ∷ main ∷ codes ":/a" ∷ codes "b" ∷ codes "c" ∷ []) ≡ Unknown
a_push_with_two_words_too_many = refl

-- the second word of a line is the ref, and an option is no ref name
pub a_push_with_merges_in_a_batch : line_command (codes "push --merges refs/heads/main :/a") ≡ Unknown
unfolding is_ref_name
a_push_with_merges_in_a_batch = refl

-- ---- annotated tags

-- the text of a filter is read neither as a filter nor as a path
pub an_export_with_tags : command (codes "export" ∷ codes "--tags" ∷ main ∷ codes "" ∷ []) ≡ ExportTags main []
unfolding is_ref_name
an_export_with_tags = refl

pub another_option_of_an_export : command (codes "export" ∷ codes "--tag" ∷ main ∷ codes ":/a" ∷ []) ≡ Unknown
another_option_of_an_export = refl

pub an_option_behind_the_ref : command (codes "export" ∷ main ∷ codes "--tags" ∷ codes ":/a" ∷ []) ≡ Unknown
an_option_behind_the_ref = refl

pub an_export_with_tags_of_no_ref : command (codes "export" ∷ codes "--tags" ∷ codes "v1" ∷ codes ":/a" ∷ []) ≡ Unknown
unfolding is_ref_name
an_export_with_tags_of_no_ref = refl

-- an option is no ref name
pub an_export_with_tags_without_a_filter : command (codes "export" ∷ codes "--tags" ∷ main ∷ []) ≡ Unknown
unfolding is_ref_name
an_export_with_tags_without_a_filter = refl

pub an_export_with_a_word_too_many :
    command (codes "export" ∷ codes "--tags" ∷ main ∷ codes ":/a" ∷ codes "b" ∷ []) ≡ Unknown
an_export_with_a_word_too_many = refl

pub an_option_of_a_projection : command (codes "project" ∷ codes "--tags" ∷ main ∷ codes "a" ∷ []) ≡ Unknown
unfolding path_of
an_option_of_a_projection = refl

pub the_tags : command (codes "tags" ∷ main ∷ codes ":/a" ∷ []) ≡ Ask (Tags main (codes ":/a"))
unfolding is_ref_name
the_tags = refl

pub tags_of_no_ref : command (codes "tags" ∷ codes "v1" ∷ codes ":/a" ∷ []) ≡ Unknown
unfolding is_ref_name
tags_of_no_ref = refl

pub tags_without_a_filter : command (codes "tags" ∷ main ∷ []) ≡ Unknown
tags_without_a_filter = refl

pub tags_with_a_path : command (codes "tags" ∷ main ∷ codes ":/a" ∷ codes "b" ∷ []) ≡ Unknown
unfolding path_of
tags_with_a_path = refl

-- the filter is all that is left of a line
pub tags_in_a_batch : line_command (codes "tags refs/heads/main :/a b") ≡ Ask (Tags main (codes ":/a b"))
unfolding is_ref_name
tags_in_a_batch = refl

-- the second word of a line is the ref, and an option is no ref name
pub an_export_with_tags_in_a_batch : line_command (codes "export --tags refs/heads/main :/a") ≡ Unknown
unfolding is_ref_name
an_export_with_tags_in_a_batch = refl

-- ---- certificates

abbrev digits_of_a_commit : Bytes
digits_of_a_commit = replicate 40 97

pub an_audit : command (codes "audit" ∷ main ∷ codes ":/a" ∷ codes "b/f" ∷ []) ≡ Ask (Audit main (codes ":/a") (codes "b/f"))
unfolding is_ref_name path_of
an_audit = refl

pub an_audit_of_no_path : command (codes "audit" ∷ main ∷ codes ":/a" ∷ codes "b//f" ∷ []) ≡ Unknown
unfolding path_of
an_audit_of_no_path = refl

pub an_audit_of_no_ref : command (codes "audit" ∷ digits_of_a_commit ∷ codes ":/a" ∷ codes "f" ∷ []) ≡ Unknown
unfolding is_ref_name path_of
an_audit_of_no_ref = refl

pub an_audit_without_a_path : command (codes "audit" ∷ main ∷ codes ":/a" ∷ []) ≡ Unknown
unfolding is_ref_name
an_audit_without_a_path = refl

pub a_verification : command (codes "verify" ∷ digits_of_a_commit ∷ codes ":/a" ∷ codes "f" ∷ []) ≡
    Verify digits_of_a_commit (codes ":/a") (codes "f")
unfolding path_of decode_pairs
a_verification = refl

pub digits_of_the_upper_case : command (codes "verify" ∷ replicate 40 65 ∷ [] ∷ codes "f" ∷ []) ≡
    Verify (replicate 40 65) [] (codes "f")
unfolding path_of decode_pairs
digits_of_the_upper_case = refl

pub a_verification_of_39_digits : command (codes "verify" ∷ replicate 39 97 ∷ codes ":/a" ∷ codes "f" ∷ []) ≡ Unknown
unfolding path_of
a_verification_of_39_digits = refl

pub a_verification_of_a_ref : command (codes "verify" ∷ main ∷ codes ":/a" ∷ codes "f" ∷ []) ≡ Unknown
unfolding path_of
a_verification_of_a_ref = refl

-- the third word is all that is left, so that no line has a word for a path
pub an_audit_in_a_batch : line_command (codes "audit refs/heads/main :/a f") ≡ Unknown
unfolding is_ref_name
an_audit_in_a_batch = refl

pub a_verification_in_a_batch : line_command (codes "verify " ++ digits_of_a_commit ++ codes " :/a f") ≡ Unknown
unfolding is_ref_name
a_verification_in_a_batch = refl

-- ---- users

abbrev ann : Bytes
ann = codes "ann"

pub a_projection_of_a_user : command (codes "as" ∷ ann ∷ codes "project" ∷ main ∷ codes ":/a" ∷ []) ≡
    As ann (Project main (codes ":/a"))
unfolding is_ref_name
a_projection_of_a_user = refl

pub a_push_of_a_user : command (codes "as" ∷ ann ∷ codes "push" ∷ main ∷ codes ":/a" ∷ []) ≡
    As ann (Push main (codes ":/a"))
unfolding is_ref_name
a_push_of_a_user = refl

pub an_export_of_a_user : command (codes "as" ∷ ann ∷ codes "export" ∷ main ∷ codes ":/a" ∷ []) ≡
    As ann (Export main (codes ":/a"))
unfolding is_ref_name
an_export_of_a_user = refl

-- no policy speaks of names and of other commands
pub a_name_of_a_user : command (codes "as" ∷ ann ∷ codes "name" ∷ main ∷ codes ":/a" ∷ []) ≡ Unknown
unfolding is_ref_name
a_name_of_a_user = refl

-- no policy speaks of tags
pub tags_of_a_user : command (codes "as" ∷ ann ∷ codes "tags" ∷ main ∷ codes ":/a" ∷ []) ≡ Unknown
unfolding is_ref_name
tags_of_a_user = refl

pub a_user_who_exports_tags :
    command (codes "as" ∷ ann ∷ codes "export" ∷ codes "--tags" ∷ main ∷ codes ":/a" ∷ []) ≡ Unknown
a_user_who_exports_tags = refl

pub a_user_who_pushes_with_merges :
    command (codes "as" ∷ ann ∷ codes "push" ∷ codes "--merges" ∷ main ∷ codes ":/a" ∷ []) ≡ Unknown
a_user_who_pushes_with_merges = refl

pub a_user_without_a_command : command (codes "as" ∷ ann ∷ []) ≡ Unknown
a_user_without_a_command = refl

pub an_import_of_a_user : command (codes "as" ∷ ann ∷ codes "import" ∷ []) ≡ Unknown
unfolding is_ref_name
an_import_of_a_user = refl

-- a policy's rule for everybody is no user's name
pub everybody_is_no_user : command (codes "as" ∷ codes "*" ∷ codes "push" ∷ main ∷ codes ":/a" ∷ []) ≡ Unknown
everybody_is_no_user = refl

pub a_user_of_64_bytes : command (codes "as" ∷ replicate 64 97 ∷ codes "push" ∷ main ∷ codes ":/a" ∷ []) ≡
    As (replicate 64 97) (Push main (codes ":/a"))
unfolding is_ref_name
a_user_of_64_bytes = refl

pub a_user_of_65_bytes : command (codes "as" ∷ replicate 65 97 ∷ codes "push" ∷ main ∷ codes ":/a" ∷ []) ≡ Unknown
a_user_of_65_bytes = refl

pub a_user_with_a_space : command (codes "as" ∷ codes "ann b" ∷ codes "push" ∷ main ∷ codes ":/a" ∷ []) ≡ Unknown
a_user_with_a_space = refl

pub a_user_without_a_ref_name : command (codes "as" ∷ ann ∷ codes "push" ∷ codes "main" ∷ codes ":/a" ∷ []) ≡ Unknown
unfolding is_ref_name
a_user_without_a_ref_name = refl

-- a line has three words at most, and a user as its second is no ref name
pub a_user_in_a_batch : line_command (codes "as ann push refs/heads/main :/a") ≡ Unknown
unfolding is_ref_name
a_user_in_a_batch = refl

-- what a user's command reads, loads and may append is its own
pub a_user_who_pushes : reads (As ann (Push main [])) ≡ true
a_user_who_pushes = refl

pub a_user_who_projects : writes (As ann (Project main [])) ≡ true
a_user_who_projects = refl

pub a_user_who_exports : loads (As ann (Export main [])) ≡ true
a_user_who_exports = refl

pub a_user_who_only_exports : writes (As ann (Export main [])) ≡ false
a_user_who_only_exports = refl

-- bytes that are no UTF-8 are told from a word as others are
pub a_word_that_is_no_text : line_command (255 ∷ []) ≡ Unknown
a_word_that_is_no_text = refl

pub a_filter_that_is_no_text : line_command (codes "push refs/heads/main :/" ++ 255 ∷ []) ≡
    Push main (codes ":/" ++ 255 ∷ [])
unfolding is_ref_name
a_filter_that_is_no_text = refl

pub a_ref_that_is_no_text : line_command (codes "export refs/" ++ 255 ∷ codes " :/a") ≡
    Export (codes "refs/" ++ 255 ∷ []) (codes ":/a")
unfolding is_ref_name
a_ref_that_is_no_text = refl

-- ---- the input of a batch

-- an import of three bytes, and a projection of none
abbrev two_entries : Bytes
two_entries = codes "import\nbytes 3\nabc\nproject refs/heads/main :/b\nbytes 0\n\n"

pub two_of_them : entries two_entries ≡ Ok (
    record { words = codes "import"; input = codes "abc" }
    ∷ record { words = codes "project refs/heads/main :/b"; input = [] } ∷ []
    )
unfolding entries number
two_of_them = refl

pub no_entries : entries [] ≡ Ok []
unfolding entries
no_entries = refl

-- any line is a line of words, and LFs may stand among the bytes
pub an_empty_line_of_words : entries (codes "\nbytes 2\n\n\n\n") ≡
    Ok (record { words = []; input = codes "\n\n" } ∷ [])
unfolding entries number
an_empty_line_of_words = refl

pub leading_zeros : entries (codes "push\nbytes 002\nab\n") ≡
    Ok (record { words = codes "push"; input = codes "ab" } ∷ [])
unfolding entries number
leading_zeros = refl

pub nine_digits : byte_count (codes "bytes 000000010") ≡ Some 10
unfolding number
nine_digits = refl

pub ten_digits : entries (codes "import\nbytes 0000000003\nabc\n") ≡ Err (Syntax 7)
unfolding entries
ten_digits = refl

pub no_digits : entries (codes "import\nbytes \n\n") ≡ Err (Syntax 7)
unfolding entries number
no_digits = refl

pub a_sign_before_the_digits : entries (codes "import\nbytes +1\na\n") ≡ Err (Syntax 7)
unfolding entries number
a_sign_before_the_digits = refl

pub another_word_than_bytes : entries (codes "import\nbyte 1\na\n") ≡ Err (Syntax 7)
unfolding entries
another_word_than_bytes = refl

-- the line `bytes N` is missing at the length of the input
pub no_line_of_bytes : entries (codes "import\n") ≡ Err (Syntax 7)
unfolding entries
no_line_of_bytes = refl

pub words_without_an_end : entries (codes "import") ≡ Err (Syntax 6)
unfolding entries
words_without_an_end = refl

pub bytes_without_an_end : entries (codes "import\nbytes 0") ≡ Err (Syntax 7)
unfolding entries number
bytes_without_an_end = refl

pub too_few_bytes : entries (codes "import\nbytes 4\nabc\n") ≡ Err (Syntax 7)
unfolding entries number
too_few_bytes = refl

pub too_many_bytes : entries (codes "import\nbytes 2\nabc\n") ≡ Err (Syntax 7)
unfolding entries number
too_many_bytes = refl

pub no_end_behind_the_bytes : entries (codes "import\nbytes 3\nabc") ≡ Err (Syntax 7)
unfolding entries number
no_end_behind_the_bytes = refl

-- the place is in the whole input
pub a_fault_in_the_second_entry : entries (codes "import\nbytes 1\na\nimport\nbytes 1\n\n") ≡ Err (Syntax 24)
unfolding entries number
a_fault_in_the_second_entry = refl

pub a_reply : reply_text Done (codes "abc\n") ≡ codes "status 0\nbytes 4\nabc\n\n"
unfolding digits
a_reply = refl

pub a_reply_to_a_fault : reply_text (Syntax 90) [] ≡ codes "status 3\nbytes 0\n\n"
unfolding digits
a_reply_to_a_fault = refl

-- ---- a trial

pub a_trial_of_one_commit : trial_stream 1 ≡
    codes "commit refs/heads/main\ncommitter T <t@x> 1700000000 +0000\ndata 3\nc0\n"
    ++ codes "M 100644 inline a/f0\ndata 2\n0\n"
unfolding digits
a_trial_of_one_commit = refl

pub the_twelfth_commit : trial_commit 11 ≡
    codes "commit refs/heads/main\ncommitter T <t@x> 1700000011 +0000\ndata 4\nc11\n"
    ++ codes "M 100644 inline d/f1\ndata 3\n11\n"
unfolding digits
the_twelfth_commit = refl

pub a_push_upon_nothing : push_stream 1700000001 first_push None ≡
    codes "commit refs/heads/main\ncommitter T <t@x> 1700000001 +0000\ndata 3\np1\n"
    ++ codes "M 100644 inline p\ndata 2\n1\n"
unfolding digits
a_push_upon_nothing = refl

pub a_push_upon_a_commit : push_stream 1700000003 third_push (Some (replicate 20 255)) ≡
    codes "commit refs/heads/main\ncommitter T <t@x> 1700000003 +0000\ndata 3\np3\n"
    ++ codes "from ffffffffffffffffffffffffffffffffffffffff\nM 100644 inline x/q\ndata 2\n3\n"
unfolding digits encode_with
a_push_upon_a_commit = refl

-- ---- devices

-- an export loads and doesn't write; a name reads and doesn't load; a trial does none of it
pub an_export_loads : loads (Export main []) ≡ true
an_export_loads = refl

pub an_export_writes_no_item : writes (Export main []) ≡ false
an_export_writes_no_item = refl

-- with merges a push reads, loads and writes as without
pub a_push_with_merges_reads : reads (PushMerges main []) ≡ true
a_push_with_merges_reads = refl

pub a_push_with_merges_loads : loads (PushMerges main []) ≡ true
a_push_with_merges_loads = refl

pub a_push_with_merges_may_write : writes (PushMerges main []) ≡ true
a_push_with_merges_may_write = refl

-- with tags or of them alone it reads, loads and writes as without
pub an_export_with_tags_reads_nothing : reads (ExportTags main []) ≡ false
an_export_with_tags_reads_nothing = refl

pub an_export_with_tags_loads : loads (ExportTags main []) ≡ true
an_export_with_tags_loads = refl

pub an_export_with_tags_writes_no_item : writes (ExportTags main []) ≡ false
an_export_with_tags_writes_no_item = refl

pub tags_read_nothing : reads (Ask (Tags main [])) ≡ false
tags_read_nothing = refl

pub tags_load : loads (Ask (Tags main [])) ≡ true
tags_load = refl

pub tags_write_no_item : writes (Ask (Tags main [])) ≡ false
tags_write_no_item = refl

pub a_projection_may_write : writes (Project main []) ≡ true
a_projection_may_write = refl

pub a_name_reads : reads (Name main []) ≡ true
a_name_reads = refl

pub a_name_loads_nothing : loads (Name main []) ≡ false
a_name_loads_nothing = refl

pub a_trial_reads_nothing : reads (Trial 1) ≡ false
a_trial_reads_nothing = refl

-- an audit loads as an export does, and a verification reads as a name does
pub an_audit_loads : loads (Ask (Audit main [] [])) ≡ true
an_audit_loads = refl

pub an_audit_reads_nothing : reads (Ask (Audit main [] [])) ≡ false
an_audit_reads_nothing = refl

pub an_audit_writes_no_item : writes (Ask (Audit main [] [])) ≡ false
an_audit_writes_no_item = refl

pub a_verification_reads : reads (Verify digits_of_a_commit [] []) ≡ true
a_verification_reads = refl

pub a_verification_loads_nothing : loads (Verify digits_of_a_commit [] []) ≡ false
a_verification_loads_nothing = refl

-- ---- texts

abbrev zeros : ObjectName
zeros = record { 0 = replicate 20 0 }

-- the path `a/"`
abbrev quote_in_a : Path
quote_in_a = codes "a" ∷ codes "\"" ∷ []

abbrev in_a : Path
in_a = codes "a" ∷ codes "b c" ∷ []

pub done_says_nothing : text_of Done ≡ []
done_says_nothing = refl

pub out_of_memory : text_of OutOfMemory ≡ codes "out of memory\n"
out_of_memory = refl

pub the_usage : text_of Usage ≡ usage ++ codes "\n"
the_usage = refl

pub a_syntax : text_of (Syntax 90) ≡ codes "syntax at 90\n"
unfolding digits
a_syntax = refl

pub an_unsupported_tag : text_of (Unsupported 0 features.Tag) ≡ codes "unsupported tag at 0\n"
unfolding digits
an_unsupported_tag = refl

pub an_unsupported_signature : text_of (Unsupported 12 features.Signature) ≡ codes "unsupported gpgsig at 12\n"
unfolding digits
an_unsupported_signature = refl

pub an_unsupported_directory : text_of (Unsupported 7 features.DirectoryMode) ≡
    codes "unsupported directory mode at 7\n"
unfolding digits
an_unsupported_directory = refl

pub an_unresolved_mark : text_of (Unresolved 10) ≡ codes "unresolved at 10\n"
unfolding digits
an_unresolved_mark = refl

pub a_bad_path : text_of (BadPath 1) ≡ codes "bad path at 1\n"
unfolding digits
a_bad_path = refl

pub no_source : text_of (NoSource 1234567) ≡ codes "no source at 1234567\n"
unfolding digits
no_source = refl

pub an_unknown_ref : text_of UnknownRef ≡ codes "unknown ref\n"
an_unknown_ref = refl

pub a_long_filter : text_of (FilterFault filters.TooLong) ≡ codes "filter: too long\n"
a_long_filter = refl

pub a_misplaced_workspace : text_of (FilterFault filters.WorkspacePlace) ≡ codes "filter: workspace place\n"
a_misplaced_workspace = refl

pub an_overlap : text_of (Overlap 0 1 2) ≡ codes "overlap: list 0, branches 1 and 2\n"
unfolding digits
an_overlap = refl

pub not_keeping : text_of (NotKeeping 3) ≡ codes "not keeping: piece 3\n"
unfolding digits
not_keeping = refl

pub not_forward : text_of (NotForward main zeros zeros) ≡
    codes "not forward: refs/heads/main 0000000000000000000000000000000000000000 "
    ++ codes "0000000000000000000000000000000000000000\n"
unfolding encode_with
not_forward = refl

pub another_ref : text_of (OtherRef 131) ≡ codes "other ref at 131\n"
unfolding digits
another_ref = refl

pub not_at_head : text_of (NotAtHead (Some zeros) None) ≡
    codes "not at head: expected 0000000000000000000000000000000000000000, got none\n"
unfolding encode_with
not_at_head = refl

pub a_pushed_merge : text_of (MergePushed 2) ≡ codes "merge: commit 2\n"
unfolding digits
a_pushed_merge = refl

pub no_change : text_of (NoChange 1) ≡ codes "no change: commit 1\n"
unfolding digits
no_change = refl

pub not_held : text_of (NotHeld 1 quote_in_a) ≡ codes "not held: commit 1: \"a/\\\"\"\n"
unfolding digits quote quoted_byte
not_held = refl

pub blocked : text_of (Blocked 1 in_a quote_in_a) ≡ codes "blocked: commit 1: a/b c by \"a/\\\"\"\n"
unfolding digits quote quoted_byte
blocked = refl

pub a_limit_with_a_place : text_of (Limit limits.PathDepth (Some 70)) ≡ codes "limit: path depth at 70\n"
unfolding digits
a_limit_with_a_place = refl

pub a_limit_of_the_state : text_of (Limit limits.Items None) ≡ codes "limit: items\n"
a_limit_of_the_state = refl

pub a_collision : text_of (Collision zeros) ≡ codes "collision: 0000000000000000000000000000000000000000\n"
unfolding encode_with
a_collision = refl

pub a_read_fault : text_of ReadFault ≡ codes "read fault\n"
a_read_fault = refl

pub a_write_fault : text_of WriteFault ≡ codes "write fault\n"
a_write_fault = refl

pub a_store_fault : text_of StoreFault ≡ codes "store fault\n"
a_store_fault = refl

pub a_damaged_item : text_of (Damaged 0 6) ≡ codes "damaged: item 0 at 6\n"
unfolding digits
a_damaged_item = refl

pub a_bad_workspace : text_of (BadWorkspace 1) ≡ codes "bad workspace: commit 1\n"
unfolding digits
a_bad_workspace = refl

pub an_unseen_path : text_of (Unseen 1 (codes "modules" ∷ codes "doc" ∷ codes "d" ∷ [])) ≡
    codes "unseen: commit 1: modules/doc/d\n"
unfolding digits quote
an_unseen_path = refl

pub a_repeated_parent : text_of (RepeatedParent 1) ≡ codes "repeated parent: commit 1\n"
unfolding digits
a_repeated_parent = refl

-- a name stands as it is, as that of a ref does
pub a_tag_that_exists : text_of (TagExists (codes "rel/\"1\"")) ≡ codes "tag exists: rel/\"1\"\n"
a_tag_that_exists = refl

pub not_proved : text_of (NotProved zeros) ≡ codes "not proved: 0000000000000000000000000000000000000000\n"
unfolding encode_with
not_proved = refl

pub denied : text_of (Denied 3) ≡ codes "denied: rule 3\n"
unfolding digits
denied = refl

pub a_bad_policy : text_of (BadPolicy 2) ≡ codes "bad policy: line 2\n"
unfolding digits
a_bad_policy = refl

-- ---- numbers

pub the_number_of_no_change : code_of (NoChange 1) ≡ 16
the_number_of_no_change = refl

pub the_number_of_not_held : code_of (NotHeld 1 in_a) ≡ 18
the_number_of_not_held = refl

pub the_number_of_a_bad_workspace : code_of (BadWorkspace 1) ≡ 26
the_number_of_a_bad_workspace = refl

pub the_number_of_a_repeated_parent : code_of (RepeatedParent 1) ≡ 28
the_number_of_a_repeated_parent = refl

pub the_number_of_a_tag_that_exists : code_of (TagExists (codes "v1")) ≡ 29
the_number_of_a_tag_that_exists = refl

-- ---- faults

-- a limit of a stream has its place
pub a_line_too_long : text_of (stream_outcome (streams.Limit 103 limits.Line)) ≡ codes "limit: line at 103\n"
unfolding digits
a_line_too_long = refl

pub a_filter_nested_too_deep : text_of (filter_outcome texts.TooDeep) ≡ codes "filter: too deep\n"
a_filter_nested_too_deep = refl

pub no_memory_for_a_filter : filter_outcome texts.OutOfMemory ≡ OutOfMemory
no_memory_for_a_filter = refl

pub an_unsound_list : code_of (route_outcome (routes.Overlap 0 0 1)) ≡ 10
an_unsound_list = refl
