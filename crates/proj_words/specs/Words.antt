-- The forms of the words on the command line, and of the lines of words in a batch.
use Rattle.std.specs.Prelude.{ℕ, Bool, true, false, ◌&&◌, ◌||◌, ◌==◌, nat_eq, nat_le, if◌then◌else◌}
use Rattle.std.specs.Prelude.{List, [], ◌∷◌, codes, Option, Some, None}
use Rattle.std.specs.List.{starts_with}
use Rattle.std.specs.Option.{is_some, option_and_then}
use Rattle.std.specs.Result.{is_ok}
use Rattle.git_objects.specs.Paths.{Bytes, same_bytes}
use Rattle.git_objects.specs.CommitBodies.{digits_name}
use Rattle.git_objects.specs.Idents.{cut_at}
use Rattle.path_names.specs.PathTexts.{path_of}
use Rattle.path_names.specs.RefNames.{is_ref_name}
use Rattle.path_names.specs.UserNames.{is_user}
use Rattle.path_names.specs.Words.{number}

-- what a command asks of a store, without any input, and without an item that it appends
pub data Query : Type 0 where
  -- the annotated tags, of a ref and the text of a filter
  Tags : Bytes → Bytes → Query
  -- a certificate, of a ref, the text of a filter, and that of a path
  Audit : Bytes → Bytes → Bytes → Query

pub data Command : Type 0 where
  -- of a stream, and whether a ref may move anywhere
  Import : Bool → Command
  -- each of a ref and the text of a filter
  Project : Bytes → Bytes → Command
  Push : Bytes → Bytes → Command
  -- a push whose commits may have further parents
  PushMerges : Bytes → Bytes → Command
  Export : Bytes → Bytes → Command
  -- an export with its annotated tags
  ExportTags : Bytes → Bytes → Command
  Name : Bytes → Bytes → Command
  Batch : Command
  Trial : ℕ → Command
  -- of the number of a rule
  Rule : ℕ → Command
  Ask : Query → Command
  -- of a commit's digits, the text of a filter, and that of a path
  Verify : Bytes → Bytes → Bytes → Command
  -- of a user, and of the command that a policy may let him do: one of Project, Push and Export
  As : Bytes → Command → Command
  -- no form
  Unknown : Command

abbrev pub in_trial : ℕ → Option ℕ
in_trial n = if nat_le 1 n && nat_le n 100000 then Some n else None

-- a number without a leading zero, from 1 to 100,000
abbrev pub trial_number : Bytes → Option ℕ
trial_number t = if starts_with nat_eq t (codes "0") then None else option_and_then in_trial (number t)

abbrev pub trial_of : Option ℕ → Command
trial_of None = Unknown
trial_of (Some n) = Trial n

-- the digit 1 or 2
abbrev pub rule_word : Bytes → Command
rule_word v = if same_bytes v (codes "1") then Rule 1 else (if same_bytes v (codes "2") then Rule 2 else Unknown)

abbrev pub one_word : Bytes → Command
one_word w =
    if same_bytes w (codes "import") then Import false else
    (if same_bytes w (codes "batch") then Batch else Unknown)

abbrev pub two_words : Bytes → Bytes → Command
two_words w v =
    if same_bytes w (codes "import") then (if same_bytes v (codes "--force") then Import true else Unknown) else
    (if same_bytes w (codes "trial") then trial_of (trial_number v) else
    (if same_bytes w (codes "rule") then rule_word v else Unknown))

abbrev pub three_words : Bytes → Bytes → Bytes → Command
three_words w r f =
    if same_bytes w (codes "project") then Project r f else
    (if same_bytes w (codes "push") then Push r f else
    (if same_bytes w (codes "export") then Export r f else
    (if same_bytes w (codes "tags") then Ask (Tags r f) else
    (if same_bytes w (codes "name") then Name r f else Unknown))))

-- 40 digits of either case
abbrev pub is_commit_word : Bytes → Bool
is_commit_word t = is_some (digits_name t)

-- whether a text is read as a path
abbrev pub is_path_word : Bytes → Bool
is_path_word t = is_ok (path_of t)

-- of a word, a ref or a commit's digits, the text of a filter, and that of a path
abbrev pub certificate_words : Bytes → Bytes → Bytes → Bytes → Command
certificate_words w n f p =
    if same_bytes w (codes "audit") then (if is_ref_name n then Ask (Audit n f p) else Unknown) else
    (if same_bytes w (codes "verify") then (if is_commit_word n then Verify n f p else Unknown) else Unknown)

-- of an option of the word `export`, a ref, and the text of a filter
abbrev pub export_words : Bytes → Bytes → Bytes → Command
export_words o r f = if same_bytes o (codes "--tags") && is_ref_name r then ExportTags r f else Unknown

-- of an option of the word `push`, a ref, and the text of a filter
abbrev pub push_words : Bytes → Bytes → Bytes → Command
push_words o r f = if same_bytes o (codes "--merges") && is_ref_name r then PushMerges r f else Unknown

-- the path of a certificate must be one that can be read
abbrev pub four_words : Bytes → Bytes → Bytes → Bytes → Command
four_words w a b c =
    if same_bytes w (codes "export") then export_words a b c else
    (if same_bytes w (codes "push") then push_words a b c else
    (if is_path_word c then certificate_words w a b c else Unknown))

-- what a policy may let a user do
abbrev pub user_words : Bytes → Bytes → Bytes → Bytes → Command
user_words u w r f =
    if same_bytes w (codes "project") then As u (Project r f) else
    (if same_bytes w (codes "push") then As u (Push r f) else
    (if same_bytes w (codes "export") then As u (Export r f) else Unknown))

-- of the word `as`, a user, a word, a ref, and the text of a filter
abbrev pub five_words : Bytes → Bytes → Bytes → Bytes → Bytes → Command
five_words a u w r f = if same_bytes a (codes "as") && is_user u && is_ref_name r then user_words u w r f else Unknown

-- the form of the words; a ref must be a ref name
abbrev pub command : List Bytes → Command
command (w ∷ []) = one_word w
command (w ∷ v ∷ []) = two_words w v
command (w ∷ r ∷ f ∷ []) = if is_ref_name r then three_words w r f else Unknown
command (w ∷ a ∷ b ∷ c ∷ []) = four_words w a b c
command (a ∷ u ∷ w ∷ r ∷ f ∷ []) = five_words a u w r f
command _ = Unknown

-- whether the ref of a query is a ref name, and its path one that can be read
abbrev pub is_query : Query → Bool
is_query (Tags r f) = is_ref_name r
is_query (Audit r f p) = is_ref_name r && is_path_word p

-- Whether the ref of a command is a ref name, its commit 40 digits, its path one that can be read, the number of a
-- rule 1 or 2, and that of a trial from 1 to 100,000; and whether its user can be one, and does what a policy may let
-- him do.
abbrev pub is_formed : Command → Bool
is_formed (Project r f) = is_ref_name r
is_formed (Push r f) = is_ref_name r
is_formed (PushMerges r f) = is_ref_name r
is_formed (Export r f) = is_ref_name r
is_formed (ExportTags r f) = is_ref_name r
is_formed (Name r f) = is_ref_name r
is_formed (Trial n) = nat_le 1 n && nat_le n 100000
is_formed (Rule k) = k == 1 || k == 2
is_formed (Ask query) = is_query query
is_formed (Verify n f p) = is_commit_word n && is_path_word p
is_formed (As u (Project r f)) = is_user u && is_ref_name r
is_formed (As u (Push r f)) = is_user u && is_ref_name r
is_formed (As u (Export r f)) = is_user u && is_ref_name r
is_formed (As u c) = false
is_formed _ = true

-- ---- in a batch

abbrev pub cut_word : Bytes → (Bytes → List Bytes) → Option (Bytes × Bytes) → List Bytes
cut_word t next None = t ∷ []
cut_word t next (Some r) = r.0 ∷ next r.1

-- at most three words: the first two end at a space, and the third is what is left
abbrev pub line_words : Bytes → List Bytes
line_words t = cut_word t (λ u. cut_word u (λ v. v ∷ []) (cut_at 32 u)) (cut_at 32 t)

-- a batch holds no batch and no trial
abbrev pub in_batch : Command → Command
in_batch Batch = Unknown
in_batch (Trial n) = Unknown
in_batch c = c

-- the command of a batch's line
abbrev pub line_command : Bytes → Command
line_command t = in_batch (command (line_words t))

-- ---- devices

-- whether a form reads the input
abbrev pub reads : Command → Bool
reads (Import force) = true
reads (Push r f) = true
reads (PushMerges r f) = true
reads (Name r f) = true
reads Batch = true
reads (Verify n f p) = true
reads (As u c) = reads c
reads _ = false

-- whether it reads the items of the store
abbrev pub loads : Command → Bool
loads (Name r f) = false
loads (Trial n) = false
loads (Verify n f p) = false
loads (As u c) = loads c
loads Unknown = false
loads _ = true

-- whether it may append an item
abbrev pub writes : Command → Bool
writes (Export r f) = false
writes (ExportTags r f) = false
writes (Ask query) = false
writes (As u c) = writes c
writes c = loads c
