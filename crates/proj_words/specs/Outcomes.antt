-- The numbers of the outcomes, and their texts.
use Rattle.std.specs.Prelude.{ℕ, Bool, true, false, ◌++◌, codes, decimal, Option, Some, None}
use Rattle.git_objects.specs.Paths.{Bytes, Path, text}
use Rattle.git_objects.specs.Commits.{hex}
use Rattle.git_objects.specs.declared.name.Name.{Name}
use Rattle.git_objects.specs.declared.quantity.Quantity.{Quantity}
use Rattle.git_objects.specs.declared.quantity.Quantity.TheVariants as limits
use Rattle.path_names.specs.Quoting.{quote}
use Rattle.stream_reader.specs.declared.fault.Feature.{Feature}
use Rattle.stream_reader.specs.declared.fault.Feature.TheVariants as features
use Rattle.proj_words.specs.declared.outcome.FilterWhat.{FilterWhat}
use Rattle.proj_words.specs.declared.outcome.FilterWhat.TheVariants as filters
use Rattle.proj_words.specs.declared.outcome.Outcome.{Outcome}
use Rattle.proj_words.specs.declared.outcome.Outcome.TheVariants.{Done, OutOfMemory, Usage, UnknownRef}
use Rattle.proj_words.specs.declared.outcome.Outcome.TheVariants.{Syntax, Unsupported, Unresolved, BadPath, NoSource}
use Rattle.proj_words.specs.declared.outcome.Outcome.TheVariants.{FilterFault, Overlap, NotKeeping}
use Rattle.proj_words.specs.declared.outcome.Outcome.TheVariants.{NotForward, OtherRef, NotAtHead, MergePushed}
use Rattle.proj_words.specs.declared.outcome.Outcome.TheVariants.{NoChange, NotHeld, Blocked, BadWorkspace}
use Rattle.proj_words.specs.declared.outcome.Outcome.TheVariants.{Unseen, RepeatedParent, TagExists, NotProved}
use Rattle.proj_words.specs.declared.outcome.Outcome.TheVariants.{Limit, Collision, Damaged, Denied, BadPolicy}
use Rattle.proj_words.specs.declared.outcome.Outcome.TheVariants.{ReadFault, WriteFault, StoreFault}

-- the number that the program ends with; 17 is never given
abbrev pub code_of : Outcome → ℕ
code_of Done = 0
code_of OutOfMemory = 1
code_of Usage = 2
code_of (Syntax at) = 3
code_of (Unsupported at what) = 4
code_of (Unresolved at) = 5
code_of (BadPath at) = 6
code_of (NoSource at) = 7
code_of UnknownRef = 8
code_of (FilterFault what) = 9
code_of (Overlap list first second) = 10
code_of (NotKeeping piece) = 11
code_of (NotForward refname old new) = 12
code_of (OtherRef at) = 13
code_of (NotAtHead expected got) = 14
code_of (MergePushed n) = 15
code_of (NoChange n) = 16
code_of (NotHeld n path) = 18
code_of (Blocked n path by) = 19
code_of (Limit which at) = 20
code_of (Collision n) = 21
code_of ReadFault = 22
code_of WriteFault = 23
code_of StoreFault = 24
code_of (Damaged item at) = 25
code_of (BadWorkspace n) = 26
code_of (Unseen n path) = 27
code_of (RepeatedParent n) = 28
code_of (TagExists tag) = 29
code_of (NotProved n) = 30
code_of (Denied rule) = 31
code_of (BadPolicy line) = 32

abbrev pub feature_words : Feature → Bytes
feature_words features.Tag = codes "tag"
feature_words features.Options = codes "option"
feature_words features.Alias = codes "alias"
feature_words features.Ls = codes "ls"
feature_words features.CatBlob = codes "cat-blob"
feature_words features.GetMark = codes "get-mark"
feature_words features.Notes = codes "notes"
feature_words features.FeatureLine = codes "feature"
feature_words features.Encoding = codes "encoding"
feature_words features.Signature = codes "gpgsig"
feature_words features.Delimiter = codes "delimiter"
feature_words features.DirectoryMode = codes "directory mode"
feature_words features.LinkTarget = codes "link target"
feature_words features.EmptyPath = codes "empty path"
feature_words features.ZeroName = codes "zero name"

abbrev pub filter_words : FilterWhat → Bytes
filter_words filters.TooLong = codes "too long"
filter_words filters.TooDeep = codes "too deep"
filter_words filters.Syntax = codes "syntax"
filter_words filters.WorkspacePlace = codes "workspace place"
filter_words filters.TooMany = codes "too many"

abbrev pub limit_words : Quantity → Bytes
limit_words limits.Stream = codes "stream"
limit_words limits.Line = codes "line"
limit_words limits.Blob = codes "blob"
limit_words limits.Message = codes "message"
limit_words limits.Component = codes "component"
limit_words limits.PathDepth = codes "path depth"
limit_words limits.PathBytes = codes "path bytes"
limit_words limits.Parents = codes "parents"
limit_words limits.Files = codes "files"
limit_words limits.Commits = codes "commits"
limit_words limits.Objects = codes "objects"
limit_words limits.Item = codes "item"
limit_words limits.Items = codes "items"
limit_words limits.Store = codes "store"
limit_words limits.Input = codes "input"

abbrev pub place_words : Option ℕ → Bytes
place_words None = codes ""
place_words (Some at) = codes " at " ++ decimal at

-- the digits of a name, or `none`
abbrev pub name_words : Option Name → Bytes
name_words None = codes "none"
name_words (Some n) = hex n.0

abbrev pub path_words : Path → Bytes
path_words p = quote (text p)

-- the forms of the words
abbrev pub usage : Bytes
usage =
    codes "usage: proj STORE (import [--force] | project REF FILTER | push [--merges] REF FILTER | "
    ++ codes "export [--tags] REF FILTER | tags REF FILTER | "
    ++ codes "audit REF FILTER PATH | as USER (project | push | export) REF FILTER | batch | "
    ++ codes "rule (1 | 2)), proj name REF FILTER, proj trial N, proj verify COMMIT FILTER PATH"

-- the line for the error stream, without its end
abbrev pub words_of : Outcome → Bytes
words_of Done = codes ""
words_of OutOfMemory = codes "out of memory"
words_of Usage = usage
words_of (Syntax at) = codes "syntax at " ++ decimal at
words_of (Unsupported at what) = codes "unsupported " ++ feature_words what ++ codes " at " ++ decimal at
words_of (Unresolved at) = codes "unresolved at " ++ decimal at
words_of (BadPath at) = codes "bad path at " ++ decimal at
words_of (NoSource at) = codes "no source at " ++ decimal at
words_of UnknownRef = codes "unknown ref"
words_of (FilterFault what) = codes "filter: " ++ filter_words what
words_of (Overlap list first second) =
    codes "overlap: list " ++ decimal list ++ codes ", branches " ++ decimal first ++ codes " and " ++ decimal second
words_of (NotKeeping piece) = codes "not keeping: piece " ++ decimal piece
words_of (NotForward refname old new) =
    codes "not forward: " ++ refname ++ codes " " ++ hex old.0 ++ codes " " ++ hex new.0
words_of (OtherRef at) = codes "other ref at " ++ decimal at
words_of (NotAtHead expected got) =
    codes "not at head: expected " ++ name_words expected ++ codes ", got " ++ name_words got
words_of (MergePushed n) = codes "merge: commit " ++ decimal n
words_of (NoChange n) = codes "no change: commit " ++ decimal n
words_of (NotHeld n path) = codes "not held: commit " ++ decimal n ++ codes ": " ++ path_words path
words_of (Blocked n path by) =
    codes "blocked: commit " ++ decimal n ++ codes ": " ++ path_words path ++ codes " by " ++ path_words by
words_of (Limit which at) = codes "limit: " ++ limit_words which ++ place_words at
words_of (Collision n) = codes "collision: " ++ hex n.0
words_of ReadFault = codes "read fault"
words_of WriteFault = codes "write fault"
words_of StoreFault = codes "store fault"
words_of (Damaged item at) = codes "damaged: item " ++ decimal item ++ codes " at " ++ decimal at
words_of (BadWorkspace n) = codes "bad workspace: commit " ++ decimal n
words_of (Unseen n path) = codes "unseen: commit " ++ decimal n ++ codes ": " ++ path_words path
words_of (RepeatedParent n) = codes "repeated parent: commit " ++ decimal n
words_of (TagExists tag) = codes "tag exists: " ++ tag
words_of (NotProved n) = codes "not proved: " ++ hex n.0
words_of (Denied rule) = codes "denied: rule " ++ decimal rule
words_of (BadPolicy line) = codes "bad policy: line " ++ decimal line

-- the line for the error stream, and nothing where the command is done
abbrev pub text_of : Outcome → Bytes
text_of Done = codes ""
text_of outcome = words_of outcome ++ codes "\n"

-- whether the text says no number, name, path or other cause
abbrev pub is_plain : Outcome → Bool
is_plain Done = true
is_plain OutOfMemory = true
is_plain Usage = true
is_plain UnknownRef = true
is_plain ReadFault = true
is_plain WriteFault = true
is_plain StoreFault = true
is_plain _ = false
