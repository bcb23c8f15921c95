-- What is seen of a body without a copy.
use Rattle.git_objects.specs.Commits.{Letter}
use Rattle.git_objects.specs.declared.entry.Entry.{Entry}
use Rattle.git_objects.specs.declared.tree_view.EntryView.{EntryView}
use Rattle.git_objects.specs.declared.commit_view.LetterView.{LetterView}

abbrev pub entry_value : EntryView → Entry
entry_value e = record { mode = e.mode; component = e.component.now; name = e.name }

abbrev pub letter_value : LetterView → Letter
letter_value l = record { author = l.author.now; committer = l.committer.now; message = l.message.now }
