-- A commit of a store.
use Rattle.std.proofs.Common.{◌≡◌, true, List, Some, None, sym, ap, subst, ◌∙◌, true≢false}
use Rattle.std.proofs.lemmas.Option.{same_Some}
use Rattle.git_objects.specs.Paths.{Bytes}
use Rattle.git_objects.specs.Names.{name}
use Rattle.git_objects.specs.Commits.{Commit, commit_name}
use Rattle.git_objects.specs.CommitBodies.{commit_from, IsCommitBody}
use Rattle.git_objects.specs.Snapshots.{snapshot_name}
use Rattle.git_objects.specs.declared.kind.Kind.TheVariants.{Tree, Commit as CommitKind}
use Rattle.git_objects.proofs.CommitReading.{commit_law}
use Rattle.object_store.specs.Objects.{Object, IsStore, find_named, has, body_of}
use Rattle.object_store.specs.StoredSnapshots.{commit_named, snapshot_of}
use Rattle.object_store.proofs.Held.{body_named, body_bytes}
use Rattle.object_store.proofs.StoredCommits.{stored-commit, commit-told, commit-read}
use Rattle.object_store.proofs.Finding.{has-found}
use Rattle.object_store.proofs.Unfolding.{unfolding_law}

-- a commit that a store holds under a name
pub record IsHeld (S : List Object) (n : Bytes) (c : Commit) : Type 0 where
  pub read : commit_named S n ≡ Some c
  pub tree : has Tree S c.tree ≡ true
  pub spelled : IsCommitBody c (body_of CommitKind S n)
  pub named : snapshot_name (snapshot_of S c) ≡ n

pub held : (S : List Object) (n : Bytes) (c : Commit) → IsStore S → has CommitKind S n ≡ true → commit_named S n ≡ Some c → IsHeld S n c
unfolding commit_name
held S n c s h e =
    let b : Bytes = body_of CommitKind S n in
    let w = stored-commit S n s h in
    let same : w.commit ≡ c = same_Some w.commit c (sym w.read ∙ e) in
    let tree : has Tree S c.tree ≡ true = subst (λ (d : Commit). has Tree S d.tree ≡ true) same w.tree in
    let spelled : IsCommitBody c b = (commit_law b c (body_bytes CommitKind S n s h)).0 e in
    record {
      read = e;
      tree = tree;
      spelled = spelled;
      named =
          ap (λ (t : Bytes). commit_name (record { tree = t; parents = c.parents; letter = c.letter })) (unfolding_law S c.tree s tree).named
          ∙ ap (name CommitKind) spelled.spelled
          ∙ body_named CommitKind S n h;
    }

-- ---- what the code reads of a name

body-found : (S : List Object) (n : Bytes) (o : Object) → IsStore S → has CommitKind S n ≡ true → Some o ≡ find_named S n → body_of CommitKind S n ≡ o.body
body-found S n o s h e = commit-told S n o s h e

pub never-none : (S : List Object) (n : Bytes) → IsStore S → has CommitKind S n ≡ true → None ≡ find_named S n → ⊥
never-none S n s h e = true≢false (sym h ∙ sym (has-found CommitKind S n None s e))

pub never-unread : (S : List Object) (n : Bytes) (o : Object) → IsStore S → has CommitKind S n ≡ true → Some o ≡ find_named S n → None ≡ commit_from o.body → ⊥
never-unread S n o s h e f = commit-read S n o s h e (sym f)

pub view-held : (S : List Object) (n : Bytes) (o : Object) (c : Commit) → IsStore S → has CommitKind S n ≡ true → Some o ≡ find_named S n → Some c ≡ commit_from o.body → IsHeld S n c
view-held S n o c s h e f = held S n c s h (ap commit_from (body-found S n o s h e) ∙ sym f)
