-- What a pushed stream gives: blobs within the limits, and commits of these and of known blobs.
use Rattle.std.specs.Prelude.{◌≡◌, refl, ℕ, nat_le, true, ◌||◌, List, [], ◌∷◌, ◌++◌, length, map, All, Option, Some, None, Result, Ok, Err}
use Rattle.std.specs.Option.{option_map, option_to_list}
use Rattle.std.specs.List.{list_all, list_any}
use Rattle.std.proofs.Common.{sym, subst}
use Rattle.std.proofs.lemmas.Bool.{or_right}
use Rattle.std.proofs.lemmas.List.Elements.{All-head, All-tail}
use Rattle.git_objects.specs.Commits.{Letter}
use Rattle.git_objects.specs.Idents.{is_ident}
use Rattle.git_objects.specs.Lists.{Each}
use Rattle.git_objects.specs.Paths.{Bytes, is_bytes, same_bytes}
use Rattle.git_objects.specs.Results.{◌>>=◌, or_refuse}
use Rattle.git_objects.specs.Snapshots.{Snapshot}
use Rattle.git_objects.specs.Trees.{FileLeaf, ExecLeaf, LinkLeaf, ModuleLeaf, Flat, IsTree}
use Rattle.git_objects.specs.declared.limits.TheConstants.{MESSAGE_BYTES}
use Rattle.git_objects.proofs.Basics.{and_both, same_bytes-self}
use Rattle.stream_reader.specs.declared.command.Command.{Command}
use Rattle.stream_reader.specs.declared.command.Command.TheVariants as commands
use Rattle.stream_reader.specs.declared.command.CommitHead.{CommitHead}
use Rattle.stream_reader.specs.declared.command.Placed.{Placed}
use Rattle.stream_reader.specs.declared.fault.StreamFault.TheVariants.{Syntax}
use Rattle.stream_reader.specs.Verdicts.{start, verdict}
use Rattle.fast_import.specs.Replays.{Base, BlobMark, CommitMark, Draft, Marked, Replay, TagMark, begun, command_step, commit_of, committed, edited, first_parent, gone_on, inline_blob, known, letter_of, nothing_yet, ran_by, said, step, tag_of, tagged, with_branch, with_mark, with_merges}
use Rattle.state_items.specs.Imported.{has_leaves}
use Rattle.state_items.proofs.ReadObjects.{ok-same, value-of}
use Rattle.state_items.proofs.TreesHeld.{each-both}
use Rattle.import_laws.specs.SmallCommands.{IsRead}
use Rattle.import_laws.proofs.EditLeaves.{IsGood, leaves-more}
use Rattle.import_laws.proofs.ReadCommands.{reader-law}
use Rattle.import_laws.proofs.SmallReplaying.{inline-short, is_short}
use Rattle.import_laws.proofs.TreeReplaying.{AreGood, all-both, nothing-good, pool, refuse-value, step-good}
use Rattle.push_laws.specs.Given.{GivenLaw, IsGiven, IsGivenCommit, blobs_in}
use Rattle.tag_objects.specs.TagLists.{put_tag}
use Rattle.push_laws.specs.PushReplays.{StreamRefusal, Faulty, push_base, push_step}
use Rattle.push_laws.proofs.PushSteps.{goes-on}

-- ---- letters and lengths

record IsGivenLetter (l : Letter) : Type 0 where
  author : is_ident l.author ≡ true
  committer : is_ident l.committer ≡ true
  author_bytes : is_bytes l.author ≡ true
  committer_bytes : is_bytes l.committer ≡ true
  message : is_bytes l.message ≡ true
  short : nat_le (length l.message) MESSAGE_BYTES ≡ true

abbrev IfGivenLetter : Option Draft → Type 0
IfGivenLetter None = Unit
IfGivenLetter (Some d) = IsGivenLetter (letter_of d.head)

-- blobs within the limit, and letters of commits, also of the one that is being made
record AreLetters (r : Replay) : Type 0 where
  small : list_all is_short r.blobs ≡ true
  commits : Each (λ c. IsGivenLetter c.letter) r.commits
  drafted : IfGivenLetter r.draft

marked-letters : (m : Option ℕ) (x : Marked) (r : Replay) → AreLetters r → AreLetters (with_mark m x r)
marked-letters None x r i = i
marked-letters (Some n) x r i = record { small = i.small; commits = i.commits; drafted = i.drafted }

letter-read : (d : CommitHead) → IsRead (commands.Commit d) → IsGivenLetter (letter_of d)
letter-read d v = record {
  author = v.sound.author;
  committer = v.sound.committer;
  author_bytes = v.sound.author_bytes;
  committer_bytes = v.sound.committer_bytes;
  message = v.sound.message;
  short = v.small;
}

module _ (base : Base) where
  step-letters : (r q : Replay) (at : ℕ) (c : Command) → IsRead c → AreLetters r → command_step base r at c ≡ Ok q → AreLetters q
  step-letters r q at (commands.Blob m b) v i e =
      let next : Replay = record r { blobs = r.blobs ++ b ∷ [] } in
      subst AreLetters (ok-same (with_mark m (BlobMark b) next) q e)
      (marked-letters m (BlobMark b) next (record { small = all-both is_short r.blobs (b ∷ []) i.small (and_both v.small refl); commits = i.commits; drafted = i.drafted }))
  step-letters r q at (commands.Commit d) v i e =
      let f = value-of (first_parent base r d) (λ first. with_merges base r (option_to_list first) d.merges >>= λ parents. Ok (begun base r d first parents)) q e in
      let m = value-of (with_merges base r (option_to_list f.value) d.merges) (λ parents. Ok (begun base r d f.value parents)) q f.rest in
      subst AreLetters (ok-same (begun base r d f.value m.value) q m.rest) (record { small = i.small; commits = i.commits; drafted = letter-read d v })
  step-letters r q at (commands.Change c) v i e =
      let d = value-of (or_refuse (Syntax at) r.draft) (λ d. edited base r at d.tree c >>= λ t. Ok (record r { blobs = r.blobs ++ inline_blob c; draft = Some (record d { tree = t }) })) q e in
      let t = value-of (edited base r at d.value.tree c) (λ t. Ok (record r { blobs = r.blobs ++ inline_blob c; draft = Some (record d.value { tree = t }) })) q d.rest in
      let w : IsGivenLetter (letter_of d.value.head) = subst IfGivenLetter (refuse-value (Syntax at) r.draft d.value d.was) i.drafted in
      let next : Replay = record r { blobs = r.blobs ++ inline_blob c; draft = Some (record d.value { tree = t.value }) } in
      subst AreLetters (ok-same next q t.rest) (record { small = all-both is_short r.blobs (inline_blob c) i.small (inline-short c v.small); commits = i.commits; drafted = w })
  step-letters r q at commands.CommitEnd v i e =
      let d = value-of (or_refuse (Syntax at) r.draft) (λ d. Ok (committed r d)) q e in
      let w : IsGivenLetter (letter_of d.value.head) = subst IfGivenLetter (refuse-value (Syntax at) r.draft d.value d.was) i.drafted in
      subst AreLetters (ok-same (committed r d.value) q d.rest)
      (marked-letters d.value.head.mark (CommitMark _) _ (record {
        small = i.small;
        commits = each-both (λ c. IsGivenLetter c.letter) r.commits (commit_of d.value ∷ []) i.commits (w, tt);
        drafted = tt;
      }))
  step-letters r q at (commands.Reset refname from) v i e =
      let n = value-of (said base r from) (λ n. Ok (with_branch refname n r)) q e in
      subst AreLetters (ok-same (with_branch refname n.value r) q n.rest) (record { small = i.small; commits = i.commits; drafted = i.drafted })
  step-letters r q at (commands.Tag h) v i e =
      let n = value-of (known base r h.from) (λ n. Ok (tagged h n r)) q e in
      subst AreLetters (ok-same (tagged h n.value r) q n.rest)
      (marked-letters h.mark TagMark (record r { tags = put_tag (tag_of h n.value) r.tags }) (record { small = i.small; commits = i.commits; drafted = i.drafted }))
  step-letters r q at commands.Done v i e = subst AreLetters (ok-same r q e) i

-- ---- what is shown has its own blobs

more-known : (b : Bytes) (bs : List Bytes) (t : Flat) → has_leaves bs t ≡ true → has_leaves (b ∷ bs) t ≡ true
more-known b bs t h = leaves-more bs (b ∷ bs) (λ c k. or_right (same_bytes c b) (list_any (same_bytes c) bs) k) t h

first-known : (b : Bytes) (bs : List Bytes) → list_any (same_bytes b) (b ∷ bs) ≡ true
first-known b bs = subst (λ t. (t || list_any (same_bytes b) bs) ≡ true) (sym (same_bytes-self b)) refl

pub own-leaves : (t : Flat) → has_leaves (blobs_in t) t ≡ true
own-leaves [] = refl
own-leaves ((p, FileLeaf b) ∷ t) = and_both (and_both (first-known b (blobs_in t)) refl) (more-known b (blobs_in t) t (own-leaves t))
own-leaves ((p, ExecLeaf b) ∷ t) = and_both (and_both (first-known b (blobs_in t)) refl) (more-known b (blobs_in t) t (own-leaves t))
own-leaves ((p, LinkLeaf b) ∷ t) = and_both (and_both (first-known b (blobs_in t)) refl) (more-known b (blobs_in t) t (own-leaves t))
own-leaves ((p, ModuleLeaf n) ∷ t) = own-leaves t

-- ---- a whole stream

-- Upon trees of known blobs, command by command, by whatever a command does that goes on as it does in any replay.
module _ (base : Base) (known_bytes : list_all is_bytes base.blobs ≡ true) (trees : Each (λ e. IsGood base.blobs e.1) base.commits)
    (one : Replay → Placed → Result Replay StreamRefusal) (goes : (r s : Replay) (p : Placed) → one r p ≡ Ok s → step base r p ≡ Ok s) where
  abbrev IsSoFar : Replay → Type 0
  IsSoFar r = AreGood base r × AreLetters r

  pushed-on : (r s : Replay) (p : Placed) → IsRead p.command → IsSoFar r → one r p ≡ Ok s → IsSoFar s
  pushed-on r s p v i e =
      let k : command_step base r p.at p.command ≡ Ok s = goes r s p e in
      (step-good base known_bytes trees r s p.at p.command v.sound i.0 k, step-letters base r s p.at p.command v i.1 k)

  ran-given : (end : Option StreamRefusal) (ps : List Placed) (r : Replay) → All (λ p. IsRead p.command) ps → IsSoFar r → IsSoFar (ran_by one end r ps).state
  ran-given end [] r v i = i
  ran-given end (p ∷ ps) r v i =
      elim (one r p) as (λ x. one r p ≡ x → IsSoFar (gone_on p r (λ s. ran_by one end s ps) x).state) [
        | Ok s ↦ λ e. ran-given end ps s (All-tail (λ p. IsRead p.command) p ps v) (pushed-on r s p (All-head (λ p. IsRead p.command) p ps v) i e)
        | Err f ↦ λ e. i
      ] refl

given-commits : (bs : List Bytes) (cs : List Snapshot) → Each (λ c. IsGood bs c.tree) cs → Each (λ c. IsGivenLetter c.letter) cs → Each (IsGivenCommit bs) cs
given-commits bs [] g l = tt
given-commits bs (c ∷ cs) g l = (
  record {
    tree = g.0.0;
    leaves = g.0.1;
    author = l.0.author;
    committer = l.0.committer;
    author_bytes = l.0.author_bytes;
    committer_bytes = l.0.committer_bytes;
    message = l.0.message;
    short = l.0.short;
  },
  given-commits bs cs g.1 l.1,
)

-- what the commands of a stream of bytes give, up to the first that is refused
pub given-by : (base : Base) → list_all is_bytes base.blobs ≡ true → Each (λ e. IsGood base.blobs e.1) base.commits → (one : Replay → Placed → Result Replay StreamRefusal)
    → ((r s : Replay) (p : Placed) → one r p ≡ Ok s → step base r p ≡ Ok s) → (end : Option StreamRefusal) (input : Bytes) → is_bytes input ≡ true
    → IsGiven base.blobs (ran_by one end nothing_yet (verdict start input).commands).state
given-by base known_bytes trees one goes end input bytes =
    let ps = (verdict start input).commands in
    let r : Replay = (ran_by one end nothing_yet ps).state in
    let i = ran-given base known_bytes trees one goes end ps nothing_yet (reader-law start input bytes) (nothing-good base, record { small = refl; commits = tt; drafted = tt }) in
    record { bytes = i.0.bytes; small = i.1.small; commits = given-commits (pool base r) r.commits i.0.trees i.1.commits }

shown-good : (seen : Flat) → IsTree seen → (o : Option Bytes) → Each (λ (e : Bytes × Flat). IsGood (blobs_in seen) e.1) (map (λ n. (n, seen)) (option_to_list o))
shown-good seen tree None = tt
shown-good seen tree (Some n) = ((tree, own-leaves seen), tt)

pub given-law : GivenLaw
given-law refname from seen input tree known_bytes bytes =
    given-by (push_base refname from seen) known_bytes (shown-good seen tree from) (push_step (push_base refname from seen) refname from) (goes-on refname from seen)
    (option_map Faulty (verdict start input).fault) input bytes
