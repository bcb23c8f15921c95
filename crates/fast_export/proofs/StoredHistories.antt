-- Commits of a store under their names.
use Rattle.std.proofs.Common.{◌≡◌, ℕ, ◌+◌, true, List, [], ◌∷◌, ◌++◌, length, Option, Some, refl, sym, ap, subst, ◌∙◌, ◌-◌, append_assoc, append-nil, length-append, arith}
use Rattle.std.specs.Option.{option_map}
use Rattle.std.specs.List.{cons_option}
use Rattle.std.proofs.lemmas.List.{map-append}
use Rattle.std.proofs.lemmas.List.Elements.{filter_map-append}
use Rattle.git_objects.specs.Paths.{Bytes}
use Rattle.git_objects.specs.Commits.{Commit, commit_name}
use Rattle.git_objects.specs.CommitBodies.{commit_from, IsCommitBody}
use Rattle.git_objects.specs.Names.{name}
use Rattle.git_objects.specs.Snapshots.{Snapshot, snapshot_name}
use Rattle.git_objects.specs.declared.kind.Kind.TheVariants.{Tree, Commit as CommitKind}
use Rattle.git_objects.specs.declared.name.Name.{Name}
use Rattle.git_objects.proofs.CommitReading.{commit_law}
use Rattle.object_store.specs.Objects.{Object, IsStore, body_of, find_named, has}
use Rattle.object_store.specs.StoredSnapshots.{commit_named, snapshot_of}
use Rattle.object_store.proofs.Held.{body_named}
use Rattle.object_store.proofs.StoredCommits.{commit-told, stored-commit}
use Rattle.object_store.proofs.Unfolding.{unfolding_law}
use Rattle.object_store.specs.Unfolding.{flat}
use Rattle.fast_export.specs.ExportTexts.{Marks, commit_text, commits_text, marks_after, marks_behind, new_blobs, one_text}
use Rattle.fast_export.specs.Given.{Given, AreGivenIn, HasMarks, commit_mark, marks_in, next_of, with_blobs}
use Rattle.fast_export.specs.Histories.{snapshots_at}
use Rattle.fast_export.specs.Known.{AreKnown, AreWritten}
use Rattle.fast_export.specs.declared.known.Lines.{Lines}
use Rattle.fast_export.proofs.Marked.{all_marked, known_stay}
use Rattle.fast_export.proofs.WrittenBlobs.{blobs_text}

-- what is known of a commit of a store
pub record IsStoredCommit (S : List Object) (n : Bytes) (c : Commit) : Type 0 where
  pub read : commit_named S n ≡ Some c
  pub tree : has Tree S c.tree ≡ true
  pub spelled : IsCommitBody c (body_of CommitKind S n)
  pub named : snapshot_name (snapshot_of S c) ≡ n

-- the commit that a body says
pub told_commit : (S : List Object) (n : Bytes) (o : Object) (c : Commit) → IsStore S → has CommitKind S n ≡ true → Some o ≡ find_named S n → Some c ≡ commit_from o.body → IsStoredCommit S n c
unfolding commit_name
told_commit S n o c s h e f =
    let k = stored-commit S n s h in
    let read : commit_named S n ≡ Some c = ap commit_from (commit-told S n o s h e) ∙ sym f in
    let same : k.commit ≡ c = let g : Some k.commit ≡ Some c = sym k.read ∙ read in cc in
    let tree : has Tree S c.tree ≡ true = subst (λ (d : Commit). has Tree S d.tree ≡ true) same k.tree in
    let spelled : IsCommitBody c (body_of CommitKind S n) = (commit_law (body_of CommitKind S n) c k.bytes).0 read in
    record {
      read = read;
      tree = tree;
      spelled = spelled;
      named =
          ap (λ (t : Bytes). commit_name (record { tree = t; parents = c.parents; letter = c.letter })) (unfolding_law S c.tree s tree).named
          ∙ ap (name CommitKind) spelled.spelled
          ∙ body_named CommitKind S n h;
    }

pub one_commit : (S : List Object) (n : Bytes) (c : Commit) → IsStoredCommit S n c → snapshots_at S (n ∷ []) ≡ snapshot_of S c ∷ []
one_commit S n c h = ap (λ (o : Option Commit). cons_option (option_map (snapshot_of S) o) []) h.read

-- ---- the commit's mark

abbrev pub with_commit : Marks → Bytes → Marks
with_commit m n = record { next = m.next + 1; blobs = m.blobs; commits = m.commits ++ (m.next, n) ∷ [] }

pub mark_given : (S : List Object) (g h : Given) (k : Name) → h ≡ record g { commits = g.commits ++ (k, next_of g) ∷ [] } → marks_in S h ≡ with_commit (marks_in S g) k.0
mark_given S g h k e =
    let long : length g.blobs + length (g.commits ++ (k, next_of g) ∷ []) + 1 ≡ next_of g + 1 = omega (arith, length-append g.commits ((k, next_of g) ∷ [])) in
    ap (marks_in S) e ∙ (λ i. record { next = long i; blobs = (marks_in S g).blobs; commits = map-append commit_mark g.commits ((k, next_of g) ∷ []) i })

module _ (S : List Object) (n : Name) (c : Commit) (stored : IsStoredCommit S n.0 c) (g h i : Given) (blobs : marks_in S h ≡ with_blobs (marks_in S g) (flat S c.tree)) (commit : i ≡ record h { commits = h.commits ++ (n, next_of h) ∷ [] }) where
  pub marks_given : marks_in S i ≡ marks_after (marks_in S g) (snapshot_of S c)
  marks_given = mark_given S h i n commit ∙ (λ j. with_commit (blobs j) (sym stored.named j))

  -- the blobs, and then the commit
  pub commit_put : (refname : Bytes) (number : ℕ) → number ≡ next_of h → blobs_text (marks_in S g) (flat S c.tree) ++ commit_text refname number (marks_in S i) (snapshot_of S c) ≡ commits_text refname (marks_in S g) (snapshots_at S (n.0 ∷ []))
  commit_put refname number e =
      let own : number ≡ (marks_after (marks_in S g) (snapshot_of S c)).next - 1 = let q : (marks_in S h).next ≡ (with_blobs (marks_in S g) (flat S c.tree)).next = ap (λ (m : Marks). m.next) blobs in omega arith in
      (λ j. blobs_text (marks_in S g) (flat S c.tree) ++ commit_text refname (own j) (marks_given j) (snapshot_of S c))
      ∙ sym (append-nil (one_text refname (marks_in S g) (marks_after (marks_in S g) (snapshot_of S c)) (snapshot_of S c)))
      ∙ ap (commits_text refname (marks_in S g)) (sym (one_commit S n.0 c stored))

  pub marks_put : marks_in S i ≡ marks_behind (marks_in S g) (snapshots_at S (n.0 ∷ []))
  marks_put = marks_given ∙ ap (marks_behind (marks_in S g)) (sym (one_commit S n.0 c stored))

-- the blobs, and what follows them
pub commit_begun : (S : List Object) (n : Name) (c : Commit) (stored : IsStoredCommit S n.0 c) (g : Given) (refname t : Bytes) → t ≡ c.tree
    → blobs_text (marks_in S g) (flat S t) ++ commit_text refname ((marks_after (marks_in S g) (snapshot_of S c)).next - 1) (marks_after (marks_in S g) (snapshot_of S c)) (snapshot_of S c) ≡ commits_text refname (marks_in S g) (snapshots_at S (n.0 ∷ []))
commit_begun S n c stored g refname t e =
    (λ i. blobs_text (marks_in S g) (flat S (e i)) ++ commit_text refname ((marks_after (marks_in S g) (snapshot_of S c)).next - 1) (marks_after (marks_in S g) (snapshot_of S c)) (snapshot_of S c))
    ∙ sym (append-nil (one_text refname (marks_in S g) (marks_after (marks_in S g) (snapshot_of S c)) (snapshot_of S c)))
    ∙ ap (commits_text refname (marks_in S g)) (sym (one_commit S n.0 c stored))

-- ---- one commit behind others

at_append : (S : List Object) (ns ms : List Bytes) → snapshots_at S (ns ++ ms) ≡ snapshots_at S ns ++ snapshots_at S ms
at_append S ns ms = filter_map-append (λ (n : Bytes). option_map (snapshot_of S) (commit_named S n)) ns ms

text_append : (refname : Bytes) (m : Marks) (cs ds : List Snapshot) → commits_text refname m (cs ++ ds) ≡ commits_text refname m cs ++ commits_text refname (marks_behind m cs) ds
text_append refname m [] ds = refl
text_append refname m (c ∷ cs) ds =
    ap (λ (t : Bytes). one_text refname m (marks_after m c) c ++ t) (text_append refname (marks_after m c) cs ds)
    ∙ sym (append_assoc (one_text refname m (marks_after m c) c) _ _)

behind_append : (m : Marks) (cs ds : List Snapshot) → marks_behind m (cs ++ ds) ≡ marks_behind (marks_behind m cs) ds
behind_append m [] ds = refl
behind_append m (c ∷ cs) ds = behind_append (marks_after m c) cs ds

pub texts_behind : (S : List Object) (refname : Bytes) (m : Marks) (ns ms : List Bytes) → commits_text refname m (snapshots_at S (ns ++ ms)) ≡ commits_text refname m (snapshots_at S ns) ++ commits_text refname (marks_behind m (snapshots_at S ns)) (snapshots_at S ms)
texts_behind S refname m ns ms = ap (commits_text refname m) (at_append S ns ms) ∙ text_append refname m (snapshots_at S ns) (snapshots_at S ms)

pub marks_further : (S : List Object) (m : Marks) (ns ms : List Bytes) → marks_behind m (snapshots_at S (ns ++ ms)) ≡ marks_behind (marks_behind m (snapshots_at S ns)) (snapshots_at S ms)
marks_further S m ns ms = ap (marks_behind m) (at_append S ns ms) ∙ behind_append m (snapshots_at S ns) (snapshots_at S ms)

-- what was written before is known on
pub still_written : (S : List Object) (n : Name) (c : Commit) (g h i : Given) (known : List (Name × Lines)) → marks_in S h ≡ with_blobs (marks_in S g) (flat S c.tree) → i ≡ record h { commits = h.commits ++ (n, next_of h) ∷ [] } → AreWritten S g known → AreGivenIn S h
    → AreWritten S i known
still_written S n c g h i known blobs commit w given = record {
  given = subst (AreGivenIn S) (sym commit) (record { held = given.held; trees = given.trees });
  lines = subst (λ (ms : List (ℕ × Bytes)). AreKnown S ms known) (sym (ap (λ (x : Given). (marks_in S x).blobs) commit ∙ ap (λ (m : Marks). m.blobs) blobs)) (known_stay S (marks_in S g).blobs (new_blobs (marks_in S g) (flat S c.tree)) known w.lines);
}

-- and each blob of the commit's tree has a mark
pub tree_has_marks : (S : List Object) (n : Name) (t : Bytes) (g h i : Given) → marks_in S h ≡ with_blobs (marks_in S g) (flat S t) → i ≡ record h { commits = h.commits ++ (n, next_of h) ∷ [] } → HasMarks (marks_in S i).blobs (flat S t)
tree_has_marks S n t g h i blobs commit =
    subst (λ (ms : List (ℕ × Bytes)). HasMarks ms (flat S t)) (sym (ap (λ (x : Given). (marks_in S x).blobs) commit ∙ ap (λ (m : Marks). m.blobs) blobs)) (all_marked (marks_in S g) (flat S t))
