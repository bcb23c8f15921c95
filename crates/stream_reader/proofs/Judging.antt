-- What is said of a text is a value, or a fault of the text's line.
use Rattle.std.proofs.Common.{◌≡◌, refl, ℕ, Bool, true, false, cond, [], ◌∷◌, Option, Some, None, Result, Ok, Err}
use Rattle.std.specs.Prelude.{codes, ◌||◌, length, nat_le}
use Rattle.std.specs.List.{list_all}
use Rattle.git_objects.specs.declared.limits.TheConstants.{COMPONENT_BYTES, PATH_BYTES, PATH_COMPONENTS}
use Rattle.git_objects.specs.declared.quantity.Quantity.TheVariants as limits
use Rattle.git_objects.specs.declared.mode.Mode.{Mode}
use Rattle.git_objects.specs.declared.mode.Mode.TheVariants.{File, Exec, Link, Module}
use Rattle.git_objects.specs.Paths.{Bytes, Path, is_component, is_nil, same_bytes}
use Rattle.git_objects.specs.CommitBodies.{digits_name, strip}
use Rattle.path_names.specs.declared.path.PathFault.{PathFault}
use Rattle.path_names.specs.PathTexts.{parts, path_of}
use Rattle.stream_lex.specs.Lines.{Line}
use Rattle.stream_lex.specs.declared.stop.Stop.TheVariants.{More, Fault}
use Rattle.stream_reader.specs.declared.fault.StreamFault.{StreamFault}
use Rattle.stream_reader.specs.declared.fault.StreamFault.TheVariants.{BadPath, Limit, Syntax, Unsupported}
use Rattle.stream_reader.specs.declared.fault.Feature.TheVariants.{DirectoryMode, EmptyPath}
use Rattle.stream_reader.specs.declared.modify.DataRef.{DataRef}
use Rattle.stream_reader.specs.Words.{first_word, mark}
use Rattle.stream_reader.specs.Waited.{fault_place}
use Rattle.git_objects.specs.CommitBodies.{strip}
use Rattle.git_objects.specs.Results.{◌>>=◌}
use Rattle.stream_reader.specs.Reading.{Judged, fault, or_fault}
use Rattle.stream_reader.specs.Names.{refname, tag_name, ident, some_name, without_zero, target_by, target}
use Rattle.stream_reader.specs.PathWords.{path_by, path_at, unquoted_at, last_path, behind_quote, first_path, two_paths}
use Rattle.stream_reader.specs.Changes.{mode, dataref, fitting, data_part, mode_part, modify_line}
use Rattle.stream_reader.specs.Heads.{if_some, mark_in, author_in, behind_word, committer_by, committer_of, ref_in, tagger_in}
use Rattle.stream_lex.specs.Cutting.{IsTold}
use Rattle.stream_lex.proofs.Combining.{bind_told}

abbrev pub IsFaultAt : {A : Type 0} → ℕ → Judged A → Type 0
IsFaultAt at (Ok x) = Unit {0}
IsFaultAt at (Err (More w)) = Unit {0}
IsFaultAt at (Err (Fault f)) = fault_place f ≡ at

pub record IsJudged {A : Type 0} (at : ℕ) (r : Judged A) : Type 0 where
  pub told : IsTold r
  pub there : IsFaultAt at r

ok : {A : Type 0} {at : ℕ} (x : A) → IsJudged at (Ok x)
ok x = record { told = tt; there = tt }

refused : {A : Type 0} (f : StreamFault) → IsJudged (fault_place f) (fault {A = A} f)
refused f = record { told = tt; there = refl }

pub given : {A : Type 0} (f : StreamFault) (o : Option A) → IsJudged (fault_place f) (or_fault f o)
given f None = refused f
given f (Some x) = ok x

either : {A : Type 0} {at : ℕ} (b : Bool) {r s : Judged A} → IsJudged at r → IsJudged at s → IsJudged at (cond b r s)
either true h k = h
either false h k = k

bind_there : {A B : Type 0} (at : ℕ) (r : Judged A) (f : A → Judged B) → IsFaultAt at r → ((x : A) → IsFaultAt at (f x)) → IsFaultAt at (r >>= f)
bind_there at (Ok x) f h k = k x
bind_there at (Err (More w)) f h k = tt
bind_there at (Err (Fault e)) f h k = h

next : {A B : Type 0} {at : ℕ} {r : Judged A} {f : A → Judged B} → IsJudged at r → ((x : A) → IsJudged at (f x)) → IsJudged at (r >>= f)
next {at = at} {r = r} {f = f} h k = record { told = bind_told r f h.told (λ x. (k x).told); there = bind_there at r f h.there (λ x. (k x).there) }

pub refname-judged : (at : ℕ) (t : Bytes) → IsJudged at (refname at t)
refname-judged at t = either _ (ok _) (refused _)

pub tag_name-judged : (at : ℕ) (t : Option Bytes) → IsJudged at (tag_name at t)
tag_name-judged at None = refused _
tag_name-judged at (Some t) = either _ (ok _) (refused _)

ident-judged : (at : ℕ) (t : Bytes) → IsJudged at (ident at t)
ident-judged at t = either _ (ok _) (refused _)

some_name-judged : (at : ℕ) (n : Bytes) → IsJudged at (some_name at n)
some_name-judged at n = either _ (refused _) (ok _)

target_by-judged : (at : ℕ) (t : Bytes) (o : Option Bytes) → IsJudged at (target_by at t o)
target_by-judged at t (Some n) = next (some_name-judged at n) (λ x. ok _)
target_by-judged at t None = next (refname-judged at (without_zero t)) (λ x. ok _)

pub target-judged : (at : ℕ) (t : Bytes) → IsJudged at (target at t)
unfolding target
target-judged at t = either _ (next (given _ (mark t)) (λ x. ok _)) (target_by-judged at t (digits_name t))

-- a text names a path, or has a fault of its line
path_either : (at : ℕ) (b : Bool) (r s : Result Path PathFault) → IsJudged at (path_by at r) → IsJudged at (path_by at s) → IsJudged at (path_by at (cond b r s))
path_either at true r s h k = h
path_either at false r s h k = k

path_at-judged : (at : ℕ) (t : Bytes) → IsJudged at (path_at at t)
unfolding path_of
path_at-judged at t =
    path_either at (is_nil t) _ _ (refused (Unsupported at EmptyPath))
    (path_either at (list_all is_component (parts t)) _ _
    (path_either at (list_all (λ c. nat_le (length c) COMPONENT_BYTES) (parts t)) _ _
    (path_either at (nat_le (length (parts t)) PATH_COMPONENTS) _ _
    (path_either at (nat_le (length t) PATH_BYTES) _ _ (ok (parts t)) (refused (Limit at limits.PathBytes)))
    (refused (Limit at limits.PathDepth)))
    (refused (Limit at limits.Component)))
    (refused (BadPath at)))

unquoted_at-judged : (at : ℕ) (t : Bytes) → IsJudged at (unquoted_at at t)
unquoted_at-judged at t = given _ _

pub last_path-judged : (at : ℕ) (t : Bytes) → IsJudged at (last_path at t)
unfolding last_path
last_path-judged at t = either _ (next (unquoted_at-judged at t) (λ u. either _ (path_at-judged at u.0) (refused _))) (path_at-judged at t)

behind_quote-judged : (at : ℕ) (t : Bytes) → IsJudged at (behind_quote at t)
behind_quote-judged at [] = ok _
behind_quote-judged at (x ∷ t) = either _ (ok _) (refused _)

first_path-judged : (at : ℕ) (t : Bytes) → IsJudged at (first_path at t)
unfolding first_path
first_path-judged at t =
    either _ (next (unquoted_at-judged at t) (λ u. next (behind_quote-judged at u.1) (λ r. next (path_at-judged at u.0) (λ p. ok _))))
    (next (path_at-judged at (first_word t).0) (λ p. ok _))

pub two_paths-judged : (at : ℕ) (t : Bytes) → IsJudged at (two_paths at t)
unfolding two_paths
two_paths-judged at t = next (first_path-judged at t) (λ f. next (given _ f.1) (λ r. next (last_path-judged at r) (λ q. ok _)))

mode-judged : (at : ℕ) (w : Bytes) → IsJudged at (mode at w)
unfolding mode
mode-judged at w =
    either (same_bytes w (codes "100644") || same_bytes w (codes "644")) (ok File)
    (either (same_bytes w (codes "100755") || same_bytes w (codes "755")) (ok Exec)
    (either (same_bytes w (codes "120000")) (ok Link)
    (either (same_bytes w (codes "160000")) (ok Module)
    (either (same_bytes w (codes "040000") || same_bytes w (codes "40000")) (refused (Unsupported at DirectoryMode)) (refused (Syntax at))))))

dataref-judged : (at : ℕ) (w : Bytes) → IsJudged at (dataref at w)
unfolding dataref
dataref-judged at w =
    either _ (ok _) (either _ (next (given _ (mark w)) (λ n. ok _)) (next (given _ (digits_name w)) (λ n. next (some_name-judged at n) (λ x. ok _))))

fitting-judged : (at : ℕ) (m : Mode) (d : DataRef) → IsJudged at (fitting at m d)
fitting-judged at m d = either _ (either _ (ok _) (refused _)) (ok _)

data_part-judged : (at : ℕ) (m : Mode) (w : Bytes × Option Bytes) → IsJudged at (data_part at m w)
data_part-judged at m w = next (dataref-judged at w.0) (λ d. next (fitting-judged at m d) (λ e. next (given _ w.1) (λ t. next (last_path-judged at t) (λ p. ok _))))

mode_part-judged : (at : ℕ) (w : Bytes × Option Bytes) → IsJudged at (mode_part at w)
mode_part-judged at w = next (mode-judged at w.0) (λ m. next (given _ w.1) (λ t. data_part-judged at m (first_word t)))

pub modify_line-judged : (at : ℕ) (t : Bytes) → IsJudged at (modify_line at t)
unfolding modify_line
modify_line-judged at t = mode_part-judged at (first_word t)

abbrev pub maybe_place : Option Line → ℕ
maybe_place None = 0
maybe_place (Some l) = l.place

pub if_some-judged : {A : Type 0} (says : Line → Judged A) → ((l : Line) → IsJudged l.place (says l)) → (o : Option Line) → IsJudged (maybe_place o) (if_some says o)
if_some-judged says h None = ok _
if_some-judged says h (Some l) = next (h l) (λ x. ok _)

pub mark_in-judged : (l : Line) → IsJudged l.place (mark_in l)
mark_in-judged l = given _ (mark l.bytes)

pub author_in-judged : (l : Line) → IsJudged l.place (author_in l)
author_in-judged l = ident-judged l.place l.bytes

committer_by-judged : (at : ℕ) (o : Option Bytes) → IsJudged at (committer_by at o)
committer_by-judged at o = next (given _ o) (ident-judged at)

pub committer_of-judged : (l : Line) → IsJudged l.place (committer_of l)
committer_of-judged l = committer_by-judged l.place (strip (codes "committer ") l.bytes)

pub ref_in-judged : (l : Line) → IsJudged l.place (ref_in l)
ref_in-judged l = next (target-judged l.place l.bytes) (λ t. ok _)

behind_word-judged : (word : Bytes) (l : Line) → IsJudged l.place (behind_word word l)
behind_word-judged word l = next (given _ (strip word l.bytes)) (λ t. ok _)

-- what a line says behind its word
pub behind-judged : {A : Type 0} (word : Bytes) (says : Line → Judged A) → ((at : ℕ) (t : Bytes) → IsJudged at (says (record { place = at; bytes = t }))) → (l : Line) → IsJudged l.place (behind_word word l >>= says)
behind-judged word says h l = go (strip word l.bytes)
  where
    go : (o : Option Bytes) → IsJudged l.place ((or_fault (Syntax l.place) o >>= λ t. Ok (record { place = l.place; bytes = t })) >>= says)
    go None = refused _
    go (Some t) = h l.place t

pub tagger_in-judged : (l : Line) → IsJudged l.place (tagger_in l)
tagger_in-judged l = ident-judged l.place l.bytes
