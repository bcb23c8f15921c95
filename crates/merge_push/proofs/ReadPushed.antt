-- Pushed commits of a store are read again from their bodies.
use Rattle.std.proofs.Common.{◌≡◌, ◌≤◌, suc, Bool, true, false, cond, ◌&&◌, ◌||◌, List, [], ◌∷◌, ◌++◌, length, filter_map, find, Option, Some, None, IfSome, refl, sym, ap, ◌∙◌, arith, true≢false}
use Rattle.std.specs.Prelude.{codes}
use Rattle.std.specs.Option.{option_to_list, unwrap_or}
use Rattle.std.specs.List.{cons_option, list_all, list_any}
use Rattle.std.specs.Cmp.Lexicographic.{bytes_decides}
use Rattle.std.proofs.lemmas.Bool.{and_parts}
use Rattle.git_objects.specs.Bodies.{is_name}
use Rattle.git_objects.specs.Commits.{Commit, Letter, commit_body, commit_name, hex, letter_text, parent_lines}
use Rattle.git_objects.specs.Lists.{Each}
use Rattle.git_objects.specs.Names.{body}
use Rattle.git_objects.specs.Paths.{Bytes, is_nil, same_bytes}
use Rattle.git_objects.specs.Snapshots.{Snapshot, Graph, snapshot_commit, snapshot_name}
use Rattle.git_objects.specs.Trees.{Flat}
use Rattle.git_objects.specs.declared.kind.Kind.TheVariants.{Tree, Commit as CommitKind}
use Rattle.git_objects.proofs.Basics.{and_both}
use Rattle.git_objects.proofs.CommitReading.{spelled_law}
use Rattle.git_objects.proofs.Digests.{name-is_name}
use Rattle.object_store.specs.Objects.{Object, IsStore}
use Rattle.object_store.specs.StoredSnapshots.{snapshot_object}
use Rattle.object_store.proofs.Parts.{found-has}
use Rattle.object_store.proofs.StoredCommits.{stored-commit}
use Rattle.commit_map.specs.Shown.{Entries, Shown, kept_at}
use Rattle.commit_map.specs.declared.rule.Rule.{Rule}
use Rattle.commit_map.specs.declared.rule.Rule.TheVariants.{One, Two}
use Rattle.projection_laws.specs.Projections.{Nothing, Member, New, add_shown, chosen, distinct_from, has_tree, is_same, known_at, leads, member_or, members, own, projected, projections, shown_of}
use Rattle.projection_laws.proofs.HeldCommits.{held}
use Rattle.projection_laws.proofs.HistoryLemmas.{each-append}
use Rattle.fast_import.specs.Standing.{AreCommitsIn, IsCommitIn}
use Rattle.fast_import.specs.declared.replayed.Made.{Made}
use Rattle.push_laws.specs.Given.{IsGivenCommit}
use Rattle.push_laws.specs.PushLaws.{commit_of}
use Rattle.push_back.proofs.Letters.{behind, first, hex-quiet}
use Rattle.merge_laws.specs.MergeLaws.{AreJoined, IsJoined, is_among, projected_names}
use Rattle.merge_push.specs.Originals.{IsReadAgain}

-- ---- projections have names

abbrev IsNamed : Shown → Type 0
IsNamed s = is_name s.commit ≡ true

own-named : (c : Snapshot) → IsNamed (shown_of c)
unfolding commit_name
own-named c = name-is_name CommitKind (commit_body (snapshot_commit c))

found-in : (P : Shown → Type 0) (test : Shown → Bool) (ms : List Shown) → Each P ms → IfSome (find test ms) P
found-in P test [] h = tt
found-in P test (m ∷ ms) h = by (test m) (found-in P test ms h.1)
  where
    by : (b : Bool) → IfSome (find test ms) P → IfSome (cond b (Some m) (find test ms)) P
    by true k = h.0
    by false k = k

choice-named : (k : Rule) (leading : Shown → Bool) (t : Flat) (l : Letter) (ms : List Shown) → Each IsNamed ms → IfSome (projected (chosen k leading t l ms)) IsNamed
choice-named k leading t l [] h = by (is_nil t)
  where
    by : (b : Bool) → IfSome (projected (cond b Nothing (New (own t l [])))) IsNamed
    by true = tt
    by false = own-named (own t l [])
choice-named k leading t l (m ∷ []) h = by (has_tree t m)
  where
    by : (b : Bool) → IfSome (projected (cond b (Member m) (New (own t l (m ∷ []))))) IsNamed
    by true = h.0
    by false = own-named (own t l (m ∷ []))
choice-named One leading t l (m ∷ n ∷ ms) h = own-named (own t l (m ∷ n ∷ ms))
choice-named Two leading t l (m ∷ n ∷ ms) h = by (find (λ x. has_tree t x && leading x) (m ∷ n ∷ ms)) (found-in IsNamed (λ x. has_tree t x && leading x) (m ∷ n ∷ ms) h)
  where
    by : (o : Option Shown) → IfSome o IsNamed → IfSome (projected (member_or o (own t l (m ∷ n ∷ ms)))) IsNamed
    by None k = own-named (own t l (m ∷ n ∷ ms))
    by (Some x) k = k

distinct-named : (P : Shown → Type 0) (before ps : List Shown) → Each P before → Each P ps → Each P (distinct_from before ps)
distinct-named P before [] h k = h
distinct-named P before (p ∷ ps) h k = distinct-named P (add_shown before p) ps (by (list_any (is_same p) before)) k.1
  where
    by : (b : Bool) → Each P (cond b before (before ++ p ∷ []))
    by true = h
    by false = each-append P before (p ∷ []) h (k.0, tt)

abbrev AreNamed : Entries → Type 0
AreNamed ks = Each (λ e. IfSome e.1 IsNamed) ks

known-named : (ks : Entries) → AreNamed ks → (n : Bytes) → IfSome (known_at ks n) IsNamed
known-named [] h n = tt
known-named (e ∷ ks) h n = by (same_bytes n e.0) (known-named ks h.1 n)
  where
    by : (b : Bool) → IfSome (known_at ks n) IsNamed → IfSome (unwrap_or (cond b (Some e.1) (kept_at n ks)) None) IsNamed
    by true k = h.0
    by false k = k

all-known : (ks : Entries) → AreNamed ks → (ns : List Bytes) → Each IsNamed (filter_map (known_at ks) ns)
all-known ks h [] = tt
all-known ks h (n ∷ ns) = by (known_at ks n) (known-named ks h n) (all-known ks h ns)
  where
    by : (o : Option Shown) → IfSome o IsNamed → Each IsNamed (filter_map (known_at ks) ns) → Each IsNamed (cons_option o (filter_map (known_at ks) ns))
    by None k r = r
    by (Some x) k r = (k, r)

pub entries-named : (k : Rule) (sh : Flat → Flat) (g : Graph) → AreNamed (projections k sh [] g)
entries-named k sh [] = tt
entries-named k sh (c ∷ g) =
    let rest = entries-named k sh g in (
      choice-named k (leads g (projections k sh [] g) c.parents) (sh c.tree) c.letter (members (projections k sh [] g) c.parents) (distinct-named IsNamed [] (filter_map (known_at (projections k sh [] g)) c.parents) tt (all-known (projections k sh [] g) rest c.parents)),
      rest,
    )

-- ---- so do pushed commits' parents

abbrev IsNameOf : Bytes → Type 0
IsNameOf n = is_name n ≡ true

commit-named : (o : Option Shown) → IfSome o IsNamed → Each IsNameOf (option_to_list (commit_of o))
commit-named None h = tt
commit-named (Some s) h = (h, tt)

names-of : (ks : Entries) → AreNamed ks → Each IsNameOf (projected_names ks)
names-of [] h = tt
names-of (e ∷ ks) h = by e.1 h.0 (names-of ks h.1)
  where
    by : (o : Option Shown) → IfSome o IsNamed → Each IsNameOf (projected_names ks) → Each IsNameOf (cons_option (commit_of o) (projected_names ks))
    by None k r = r
    by (Some s) k r = (k, r)

among-named : (there : List Bytes) (n : Bytes) → Each IsNameOf there → is_among there n ≡ true → is_name n ≡ true
among-named [] n h e = absurd (true≢false (sym e))
among-named (m ∷ ms) n h e = by (same_bytes n m) refl e (among-named ms n h.1)
  where
    by : (b : Bool) → same_bytes n m ≡ b → (b || list_any (same_bytes n) ms) ≡ true → (is_among ms n ≡ true → is_name n ≡ true) → is_name n ≡ true
    by true q x r = ap is_name ((bytes_decides n m).0 q) ∙ h.0
    by false q x r = r x

others-named : (there : List Bytes) (ns : List Bytes) → Each IsNameOf there → list_all (is_among there) ns ≡ true → list_all is_name ns ≡ true
others-named there [] h e = refl
others-named there (n ∷ ns) h e =
    let p : (is_among there n ≡ true) × (list_all (is_among there) ns ≡ true) = and_parts (is_among there n) (list_all (is_among there) ns) e in
    and_both (among-named there n h p.0) (others-named there ns h p.1)

first-named : (e : Option Bytes) (ns : List Bytes) → Each IsNameOf (option_to_list e) → list_all is_name ns ≡ true → list_all is_name (option_to_list e ++ ns) ≡ true
first-named None ns h k = k
first-named (Some n) ns h k = and_both h.0 k

parents-named : (there : List Bytes) (e : Option Bytes) (c : Snapshot) → Each IsNameOf there → Each IsNameOf (option_to_list e) → IsJoined there e c → list_all is_name c.parents ≡ true
parents-named there e c h k j = ap (list_all is_name) j.parents ∙ first-named e j.others k (others-named there j.others h j.known)

-- ---- and there are few

same-length : (ps qs : List Bytes) (l m : Letter) → parent_lines ps (letter_text l) ≡ parent_lines qs (letter_text m) → length ps ≡ length qs
same-length [] [] l m e = refl
same-length [] (q ∷ qs) l m e = let h : 97 ≡ 112 = ap first e in absurd (omega (arith, h))
same-length (p ∷ ps) [] l m e = let h : 112 ≡ 97 = ap first e in absurd (omega (arith, h))
same-length (p ∷ ps) (q ∷ qs) l m e =
    ap suc (same-length ps qs l m (behind (codes "parent") (hex p) (parent_lines ps (letter_text l)) (hex q) (parent_lines qs (letter_text m)) (hex-quiet p) (hex-quiet q) e))

body-length : (c d : Commit) → commit_body c ≡ commit_body d → length c.parents ≡ length d.parents
unfolding commit_body
body-length c d e =
    same-length c.parents d.parents c.letter d.letter
    (behind (codes "tree") (hex c.tree) (parent_lines c.parents (letter_text c.letter)) (hex d.tree) (parent_lines d.parents (letter_text d.letter)) (hex-quiet c.tree) (hex-quiet d.tree) e)

few-parents : (S : List Object) (m : Made) (c : Snapshot) → IsStore S → IsCommitIn S m c → length c.parents ≤ 16
few-parents S m c s k =
    let w = found-has S CommitKind m.name.0 (snapshot_object c) k.held refl in
    let y = stored-commit S m.name.0 s w.0 in
    let h = held S m.name.0 y.commit s w.0 y.read in
    let same : length y.commit.parents ≡ length c.parents = body-length y.commit (snapshot_commit c) (h.spelled.spelled ∙ w.1) in
    let few = h.spelled.few in
    omega (arith, same, few)

-- ---- they are read again

pub all-again : (S : List Object) (s : IsStore S) (blobs : List Bytes) (there : List Bytes) (e : Option Bytes) (ms : List Made) (cs : List Snapshot) → Each IsNameOf there → Each IsNameOf (option_to_list e)
    → AreCommitsIn S ms cs → AreJoined there e cs → Each (IsGivenCommit blobs) cs → Each IsReadAgain cs
all-again S s blobs there e [] [] h k a j i = tt
all-again S s blobs there e [] (c ∷ cs) h k a j i = absurd a
all-again S s blobs there e (m ∷ ms) [] h k a j i = absurd a
all-again S s blobs there e (m ∷ ms) (c ∷ cs) h k a j i =
    let named : IsNameOf (snapshot_name c) = own-named c in (
      spelled_law (commit_body (snapshot_commit c)) (snapshot_commit c) (record {
        tree = name-is_name Tree (body c.tree);
        parents = parents-named there e c h k j.0;
        few = few-parents S m c s a.0;
        author = i.0.author;
        committer = i.0.committer;
        spelled = refl;
      }),
      all-again S s blobs (snapshot_name c ∷ there) (Some (snapshot_name c)) ms cs (named, h) (named, tt) a.1 j.1 i.1,
    )

-- the names that they are joined to have been projected
pub start-named : (k : Rule) (sh : Flat → Flat) (g : Graph) → Each IsNameOf (projected_names (projections k sh [] g))
start-named k sh g = names-of (projections k sh [] g) (entries-named k sh g)

pub head-named : (k : Rule) (sh : Flat → Flat) (g : Graph) (n : Bytes) → Each IsNameOf (option_to_list (commit_of (known_at (projections k sh [] g) n)))
head-named k sh g n = commit-named (known_at (projections k sh [] g) n) (known-named (projections k sh [] g) (entries-named k sh g) n)
