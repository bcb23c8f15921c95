-- Worked examples of batches and of a trial.
use Rattle.std.specs.Prelude.{◌≡◌, refl, [], ◌∷◌, codes, Ok, Err}
use Rattle.std.specs.Fmt.{digits}
use Rattle.git_objects.specs.Paths.{Bytes}
use Rattle.path_names.specs.Words.{number}
use Rattle.state_items.specs.Items.{rule_text}
use Rattle.push_laws.specs.Examples.{naming, reading, showing}
use Rattle.push_laws.specs.StreamExamples.{replaying}
use Rattle.proj_words.specs.Entries.{Entry, entries}
use Rattle.proj_words.specs.declared.outcome.Outcome.TheVariants.{Done, Damaged, Syntax}
use Rattle.proj_commands.specs.Examples.{damaged, holding, imported, judging, lines_of_words, loading, output_of}
use Rattle.proj_cli.specs.Trials.{trial_made}
use Rattle.proj_cli.specs.Turns.{Turn, begun, items_after, turn_step, turn_text}

-- ---- batches

abbrev set_the_rule : Entry
set_the_rule = record { words = codes "rule 2"; input = [] }

abbrev project_it : Entry
project_it = record { words = codes "project refs/heads/main :/a"; input = [] }

-- of two entries
abbrev a_batch_of_two : Bytes
a_batch_of_two = codes "rule 2\nbytes 0\n\nproject refs/heads/main :/a\nbytes 0\n\n"

pub both_are_begun : begun imported a_batch_of_two ≡ Ok (set_the_rule ∷ project_it ∷ [])
unfolding entries loading holding replaying reading naming digits
both_are_begun = refl

pub entries_come_first : begun damaged (codes "rule 2") ≡ Err (Syntax 6)
unfolding entries loading
entries_come_first = refl

pub then_the_items_of_a_batch : begun damaged a_batch_of_two ≡ Err (Damaged 0 0)
unfolding entries loading number
then_the_items_of_a_batch = refl

-- the turn of the first
abbrev rule_turn : Turn
rule_turn = record { entry = set_the_rule; outcome = Done; output = codes "rule 2\n"; appended = rule_text 2 ∷ [] }

pub its_reply : turn_text rule_turn ≡ codes "status 0\nbytes 7\nrule 2\n\n"
unfolding digits
its_reply = refl

pub its_output : output_of (turn_step imported set_the_rule) ≡ Ok (codes "rule 2\n")
unfolding lines_of_words judging showing loading holding replaying reading naming digits
its_output = refl

-- the second stands upon what it appended
pub behind_the_first : output_of (turn_step (items_after imported (rule_turn ∷ [])) project_it) ≡ Ok (codes "6a27ff6de5d45a65cc66723c6ae6227ea6004aa6\n")
unfolding lines_of_words judging showing loading holding replaying reading naming digits
behind_the_first = refl

-- ---- a trial

pub a_trial_is_reported : output_of (trial_made 1) ≡ Ok (codes "commits 4\n:/a 3\n::b/ 1\n:[:/a:prefix=x,:/c:prefix=y] 3\n")
unfolding judging showing loading holding replaying reading naming digits
a_trial_is_reported = refl
