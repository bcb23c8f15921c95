-- The commits of a replay are joined.
use Rattle.std.specs.Prelude.{◌≡◌, refl, ℕ, ◌+◌, Bool, true, false, nat_lt, ◌||◌, cond, List, [], ◌∷◌, ◌++◌, length, map, unwrap_or, Option, Some, None, Result, Ok, Err}
use Rattle.std.specs.Option.{is_some, option_map, option_or, option_to_list}
use Rattle.std.specs.List.{last_or, list_all, list_any, cons_option}
use Rattle.std.proofs.Common.{ap, ◌∙◌, sym, subst, true≢false}
use Rattle.std.proofs.lemmas.Bool.{and_parts, and_from, or_left, or_right}
use Rattle.std.proofs.lemmas.Option.{same_Some}
use Rattle.std.specs.Cmp.Lexicographic.{bytes_decides}
use Rattle.git_objects.specs.Paths.{Bytes, same_bytes}
use Rattle.git_objects.specs.Results.{◌>>=◌, or_refuse, must, refused_by}
use Rattle.git_objects.specs.Snapshots.{Snapshot, Graph, snapshot_name, tree_at}
use Rattle.git_objects.specs.Trees.{Flat}
use Rattle.git_objects.specs.declared.limits.TheConstants.{PARENTS}
use Rattle.git_objects.specs.declared.quantity.Quantity.TheVariants.{Parents}
use Rattle.git_objects.proofs.Basics.{same_bytes-back, same_bytes-self}
use Rattle.stream_reader.specs.declared.command.Command.{Command}
use Rattle.stream_reader.specs.declared.command.Command.TheVariants as commands
use Rattle.stream_reader.specs.declared.command.CommitHead.{CommitHead}
use Rattle.stream_reader.specs.declared.command.Placed.{Placed}
use Rattle.stream_reader.specs.declared.commit_ref.CommitRef.{CommitRef}
use Rattle.stream_reader.specs.declared.fault.StreamFault.TheVariants.{Syntax, Unresolved, Limit}
use Rattle.stream_reader.specs.Verdicts.{start, verdict}
use Rattle.fast_import.specs.Replays.{Base, Ran, Replay, Draft, begun, nothing_yet, ran_by, gone_on, step, command_step, with_merges, one_more, known, target_name, tree_of, value_at, named_tree, commit_of, committed, edited, said, with_mark, with_branch, inline_blob, Marked, BlobMark, CommitMark, TagMark, tag_of, tagged}
use Rattle.tag_objects.specs.TagLists.{put_tag}
use Rattle.filter_text.specs.Filters.{Filter}
use Rattle.workspace.specs.Workspaces.{shown}
use Rattle.commit_map.specs.Shown.{Shown, Entries, kept_at}
use Rattle.commit_map.specs.declared.rule.Rule.{Rule}
use Rattle.projection_laws.specs.Projections.{known_at, projected, choice_of, projections}
use Rattle.projection_laws.proofs.HistoryLemmas.{any-append}
use Rattle.push_laws.specs.PushLaws.{commit_of as commit_of_shown}
use Rattle.push_laws.specs.PushReplays.{StreamRefusal, OtherRef, NotAtHead, FurtherParents, Faulty, chain_end, is_same_name, pushed_parent}
use Rattle.merge_laws.proofs.Binding.{bind-ok, must-ok, ok-same, refuse-ok, refused-ok}
use Rattle.merge_laws.specs.MergeLaws.{is_among, IsJoined, AreJoined, projected_names}
use Rattle.merge_laws.specs.MergeReplays.{is_once, merge_base, merge_command, merge_step}
use Rattle.merge_laws.specs.Merges.{shown_trees}
use Rattle.merge_laws.specs.StreamLaws.{JoinedLaw, PushedJoinedLaw}

-- ---- commits in line, seen from the end

abbrev end_after : Option Bytes → List Snapshot → Option Bytes
end_after e [] = e
end_after e (c ∷ cs) = end_after (Some (snapshot_name c)) cs

abbrev there_after : List Bytes → List Snapshot → List Bytes
there_after there [] = there
there_after there (c ∷ cs) = there_after (snapshot_name c ∷ there) cs

joined-more : (cs : List Snapshot) (there : List Bytes) (e : Option Bytes) (c : Snapshot) → AreJoined there e cs → IsJoined (there_after there cs) (end_after e cs) c → AreJoined there e (cs ++ c ∷ [])
joined-more [] there e c j h = (h, tt)
joined-more (d ∷ cs) there e c j h = (j.0, joined-more cs (snapshot_name d ∷ there) (Some (snapshot_name d)) c j.1 h)

turn : (a b c : Bool) → (a || (b || c)) ≡ (b || (a || c))
turn true true c = refl
turn true false c = refl
turn false true c = refl
turn false false c = refl

among-after : (p : Bytes → Bool) (cs : List Snapshot) (there : List Bytes) → list_any p (map snapshot_name cs ++ there) ≡ true → list_any p (there_after there cs) ≡ true
among-after p [] there h = h
among-after p (c ∷ cs) there h =
    among-after p cs (snapshot_name c ∷ there)
    (any-append p (map snapshot_name cs) (snapshot_name c ∷ there) ∙ turn (list_any p (map snapshot_name cs)) (p (snapshot_name c)) (list_any p there)
    ∙ ap (λ b. p (snapshot_name c) || b) (sym (any-append p (map snapshot_name cs) there)) ∙ h)

end-is : (cs : List Snapshot) (o : Option Snapshot) (from : Option Bytes) → option_or (option_map snapshot_name (last_or o cs)) from ≡ end_after (option_or (option_map snapshot_name o) from) cs
end-is [] o from = refl
end-is (c ∷ cs) o from = end-is cs (Some c) from

-- ---- names that are there

is-first : (e : Bytes × Flat) (n : Bytes) (es : List (Bytes × Flat)) (b : Bool) → same_bytes e.0 n ≡ b → is_some (cond b (Some e.1) (value_at n es)) ≡ true
    → (is_some (value_at n es) ≡ true → list_any (same_bytes n) (map (λ e. e.0) es) ≡ true) → (same_bytes n e.0 || list_any (same_bytes n) (map (λ e. e.0) es)) ≡ true
is-first e n es true i h k = or_left (same_bytes n e.0) (list_any (same_bytes n) (map (λ e. e.0) es)) (same_bytes-back n e.0 ∙ i)
is-first e n es false i h k = or_right (same_bytes n e.0) (list_any (same_bytes n) (map (λ e. e.0) es)) (k h)

valued : (n : Bytes) (es : List (Bytes × Flat)) → is_some (value_at n es) ≡ true → list_any (same_bytes n) (map (λ e. e.0) es) ≡ true
valued n [] h = absurd (true≢false (sym h))
valued n (e ∷ es) h = is-first e n es (same_bytes e.0 n) refl h (valued n es)

named-there : (cs : List Snapshot) (es : List (Bytes × Flat)) → map (λ e. e.0) (map named_tree cs ++ es) ≡ map snapshot_name cs ++ map (λ e. e.0) es
named-there [] es = refl
named-there (c ∷ cs) es = ap (λ z. snapshot_name c ∷ z) (named-there cs es)

same-name : (a b : Option Bytes) → is_same_name a b ≡ true → a ≡ b
same-name None None e = refl
same-name (Some m) (Some n) e = ap Some ((bytes_decides m n).0 e)
same-name None (Some n) e = absurd (true≢false (sym e))
same-name (Some m) None e = absurd (true≢false (sym e))

append-back : {A : Type 0} (xs ys zs : List A) → (xs ++ ys) ++ zs ≡ xs ++ (ys ++ zs)
append-back [] ys zs = refl
append-back (x ∷ xs) ys zs = ap (λ z. x ∷ z) (append-back xs ys zs)

append-none : {A : Type 0} (xs : List A) → xs ≡ xs ++ []
append-none [] = refl
append-none (x ∷ xs) = ap (λ z. x ∷ z) (append-none xs)

more-is : (at : ℕ) (ps : List Bytes) (n : Bytes) (qs : List Bytes) (b : Bool) → cond b (Ok (ps ++ n ∷ [])) (Err (Limit at Parents)) ≡ Ok qs → ps ++ n ∷ [] ≡ qs
more-is at ps n qs true e = cc
more-is at ps n qs false e = cc

-- ---- one command

module _ (base : Base) (refname : Bytes) (from : Option Bytes) where
  abbrev at_first : List Bytes
  at_first = map (λ e. e.0) base.commits

  -- the parents of the commit that is being made are right
  abbrev IsDrafted : Replay → Option Draft → Type 0
  IsDrafted r None = Unit {0}
  IsDrafted r (Some d) = IsJoined (there_after at_first r.commits) (end_after from r.commits) (commit_of d)

  record Holds (r : Replay) : Type 0 where
    line : AreJoined at_first from r.commits
    draft : IsDrafted r r.draft

  others-of : (r : Replay) (ps : List Bytes) (ms : List CommitRef) (qs : List Bytes) → with_merges base r ps ms ≡ Ok qs
      → (os : List Bytes) × (qs ≡ ps ++ os) × (list_all (is_among (there_after at_first r.commits)) os ≡ true)
  others-of r ps [] qs e = ([], (let same : ps ≡ qs = cc in sym same ∙ append-none ps), refl)
  others-of r ps (m ∷ ms) qs e =
      let a = bind-ok (known base r m) (λ n. one_more m.at ps n >>= λ more. with_merges base r more ms) qs e in
      let b = bind-ok (or_refuse (Unresolved m.at) (target_name base r m.target)) (λ n. must (Unresolved m.at) (is_some (tree_of base r n)) >>= λ x. Ok n) a.0 a.1 in
      let c = must-ok (Unresolved m.at) (is_some (tree_of base r b.0)) (λ x. Ok b.0) a.0 b.2 in
      let same : b.0 ≡ a.0 = ok-same b.0 a.0 (Ok b.0) refl c.1 in
      let d = bind-ok (one_more m.at ps a.0) (λ more. with_merges base r more ms) qs a.2 in
      let i = others-of r d.0 ms qs d.2 in (
        a.0 ∷ i.0,
        i.1 ∙ ap (λ z. z ++ i.0) (sym (more-is m.at ps a.0 d.0 (nat_lt (length ps) PARENTS) d.1)) ∙ append-back ps (a.0 ∷ []) i.0,
        and_from (is_among (there_after at_first r.commits) a.0) (list_all (is_among (there_after at_first r.commits)) i.0)
            (among-after (same_bytes a.0) r.commits at_first
            (ap (list_any (same_bytes a.0)) (sym (named-there r.commits base.commits)) ∙ valued a.0 (map named_tree r.commits ++ base.commits) (ap (λ z. is_some (tree_of base r z)) (sym same) ∙ c.0)))
            i.2,
      )

  -- ---- what one command leaves

  marked-holds : (m : Option ℕ) (x : Marked) (r : Replay) → Holds r → Holds (with_mark m x r)
  marked-holds None x r i = i
  marked-holds (Some n) x r i = record { line = i.line; draft = i.draft }

  branch-holds : (name : Bytes) (n : Option Bytes) (r : Replay) → Holds r → Holds (with_branch name n r)
  branch-holds name n r i = record { line = i.line; draft = i.draft }

  drafted : (r : Replay) (d : Draft) → Holds r → r.draft ≡ Some d → IsDrafted r (Some d)
  drafted r d i e = subst (IsDrafted r) e i.draft

  committed-holds : (r : Replay) (d : Draft) → Holds r → r.draft ≡ Some d → Holds (committed r d)
  committed-holds r d i e =
      marked-holds d.head.mark (CommitMark (snapshot_name (commit_of d))) _
      (branch-holds d.head.refname (Some (snapshot_name (commit_of d))) (record r { commits = r.commits ++ commit_of d ∷ []; draft = None }) (record {
        line = joined-more r.commits at_first from (commit_of d) i.line (drafted r d i e);
        draft = tt;
      }))

  changed-holds : (r : Replay) (d : Draft) (t : Flat) (bs : List Bytes) → Holds r → r.draft ≡ Some d → Holds (record r { blobs = bs; draft = Some (record d { tree = t }) })
  changed-holds r d t bs i e =
      let j : IsDrafted r (Some d) = drafted r d i e in
      record { line = i.line; draft = record { others = j.others; parents = j.parents; known = j.known; once = j.once } }

  plain : (r : Replay) (at : ℕ) (c : Command) (s : Replay) → ((h : CommitHead) → c ≡ commands.Commit h → Holds s) → command_step base r at c ≡ Ok s → Holds r → Holds s
  plain r at (commands.Blob m b) s otherwise e i =
      subst Holds (ok-same (with_mark m (BlobMark b) (record r { blobs = r.blobs ++ b ∷ [] })) s (Ok (with_mark m (BlobMark b) (record r { blobs = r.blobs ++ b ∷ [] }))) refl e)
      (marked-holds m (BlobMark b) (record r { blobs = r.blobs ++ b ∷ [] }) (record { line = i.line; draft = i.draft }))
  plain r at (commands.Commit h) s otherwise e i = otherwise h refl
  plain r at (commands.Change c) s otherwise e i =
      let a = bind-ok (or_refuse (Syntax at) r.draft) (λ d. edited base r at d.tree c >>= λ t. Ok (record r { blobs = r.blobs ++ inline_blob c; draft = Some (record d { tree = t }) })) s e in
      let b = bind-ok (edited base r at a.0.tree c) (λ t. Ok (record r { blobs = r.blobs ++ inline_blob c; draft = Some (record a.0 { tree = t }) })) s a.2 in
      let u : Replay = record r { blobs = r.blobs ++ inline_blob c; draft = Some (record a.0 { tree = b.0 }) } in
      subst Holds (ok-same u s (Ok u) refl b.2) (changed-holds r a.0 b.0 (r.blobs ++ inline_blob c) i (refuse-ok (Syntax at) r.draft a.0 a.1))
  plain r at commands.CommitEnd s otherwise e i =
      let a = bind-ok (or_refuse (Syntax at) r.draft) (λ d. Ok (committed r d)) s e in
      subst Holds (ok-same (committed r a.0) s (Ok (committed r a.0)) refl a.2) (committed-holds r a.0 i (refuse-ok (Syntax at) r.draft a.0 a.1))
  plain r at (commands.Reset name target) s otherwise e i =
      let a = bind-ok (said base r target) (λ n. Ok (with_branch name n r)) s e in
      subst Holds (ok-same (with_branch name a.0 r) s (Ok (with_branch name a.0 r)) refl a.2) (branch-holds name a.0 r i)
  plain r at (commands.Tag h) s otherwise e i =
      let a = bind-ok (known base r h.from) (λ n. Ok (tagged h n r)) s e in
      subst Holds (ok-same (tagged h a.0 r) s (Ok (tagged h a.0 r)) refl a.2)
      (marked-holds h.mark TagMark (record r { tags = put_tag (tag_of h a.0) r.tags }) (record { line = i.line; draft = i.draft }))
  plain r at commands.Done s otherwise e i = subst Holds (ok-same r s (Ok r) refl e) i

  begun-holds : (r : Replay) (h : CommitHead) (first : Option Bytes) (ps : List Bytes) → Holds r → chain_end from r ≡ first → with_merges base r (option_to_list first) h.merges ≡ Ok ps → is_once ps ≡ true
      → Holds (begun base r h first ps)
  begun-holds r h first ps i e m o =
      let x = others-of r (option_to_list first) h.merges ps m in
      record {
        line = i.line;
        draft = record {
          others = x.0;
          parents = x.1 ∙ ap (λ z. option_to_list z ++ x.0) (sym e ∙ end-is r.commits None from);
          known = x.2;
          once = o;
        };
      }

  commit-holds : (r : Replay) (p : Placed) (h : CommitHead) (s : Replay) → merge_command base refname from r p (commands.Commit h) ≡ Ok s → Holds r → Holds s
  commit-holds r p h s e i =
      let a = must-ok (OtherRef p.at) (same_bytes h.refname refname) _ s e in
      let b = bind-ok (refused_by Faulty (pushed_parent base r h h.from)) _ s a.1 in
      let c = must-ok (NotAtHead (chain_end from r) b.0) (is_same_name (chain_end from r) b.0) _ s b.2 in
      let d = bind-ok (refused_by Faulty (with_merges base r (option_to_list b.0) h.merges)) _ s c.1 in
      let f = must-ok (FurtherParents (length r.commits + 1)) (is_once d.0) (λ x. Ok (begun base r h b.0 d.0)) s d.2 in
      subst Holds (ok-same (begun base r h b.0 d.0) s (Ok (begun base r h b.0 d.0)) refl f.1)
      (begun-holds r h b.0 d.0 i (same-name (chain_end from r) b.0 c.0) (refused-ok Faulty (with_merges base r (option_to_list b.0) h.merges) d.0 d.1) f.0)

  command-holds : (r : Replay) (p : Placed) (c : Command) (s : Replay) → p.command ≡ c → merge_command base refname from r p c ≡ Ok s → Holds r → Holds s
  command-holds r p (commands.Commit h) s j e i = commit-holds r p h s e i
  command-holds r p (commands.Reset name target) s j e i =
      let a = must-ok (OtherRef p.at) (same_bytes name refname) _ s e in
      plain r p.at (commands.Reset name target) s (λ h k. cc) (ap (command_step base r p.at) (sym j) ∙ refused-ok Faulty (step base r p) s a.1) i
  command-holds r p (commands.Blob m b) s j e i = plain r p.at (commands.Blob m b) s (λ h k. cc) (ap (command_step base r p.at) (sym j) ∙ refused-ok Faulty (step base r p) s e) i
  command-holds r p (commands.Change c) s j e i = plain r p.at (commands.Change c) s (λ h k. cc) (ap (command_step base r p.at) (sym j) ∙ refused-ok Faulty (step base r p) s e) i
  command-holds r p commands.CommitEnd s j e i = plain r p.at commands.CommitEnd s (λ h k. cc) (ap (command_step base r p.at) (sym j) ∙ refused-ok Faulty (step base r p) s e) i
  command-holds r p (commands.Tag t) s j e i = plain r p.at (commands.Tag t) s (λ h k. cc) (ap (command_step base r p.at) (sym j) ∙ refused-ok Faulty (step base r p) s e) i
  command-holds r p commands.Done s j e i = plain r p.at commands.Done s (λ h k. cc) (ap (command_step base r p.at) (sym j) ∙ refused-ok Faulty (step base r p) s e) i

  -- ---- a whole stream

  gone-holds : (p : Placed) (r : Replay) (next : Replay → Ran StreamRefusal) (o : Result Replay StreamRefusal) → Holds r → ((s : Replay) → o ≡ Ok s → Holds s) → ((s : Replay) → Holds s → Holds (next s).state) → Holds (gone_on p r next o).state
  gone-holds p r next (Ok s) i h k = k s (h s refl)
  gone-holds p r next (Err f) i h k = i

  ran-holds : (end : Option StreamRefusal) (ps : List Placed) (r : Replay) → Holds r → Holds (ran_by (merge_step base refname from) end r ps).state
  ran-holds end [] r i = i
  ran-holds end (p ∷ ps) r i =
      gone-holds p r (λ s. ran_by (merge_step base refname from) end s ps) (merge_step base refname from r p) i (λ s e. command-holds r p p.command s refl e i) (λ s k. ran-holds end ps s k)

pub joined-law : JoinedLaw
joined-law refname from shown projected input =
    (ran-holds (merge_base refname from shown projected) refname from (option_map Faulty (verdict start input).fault) (verdict start input).commands nothing_yet (record { line = tt; draft = tt })).line

-- ---- upon a graph

-- with more names there
known-more : (xs ys : List Bytes) → ((n : Bytes) → is_among xs n ≡ true → is_among ys n ≡ true) → (os : List Bytes) → list_all (is_among xs) os ≡ true → list_all (is_among ys) os ≡ true
known-more xs ys f [] h = refl
known-more xs ys f (o ∷ os) h =
    let a : (is_among xs o ≡ true) × (list_all (is_among xs) os ≡ true) = and_parts (is_among xs o) (list_all (is_among xs) os) h in
    and_from (is_among ys o) (list_all (is_among ys) os) (f o a.0) (known-more xs ys f os a.1)

one-among : (m : Bytes) (xs ys : List Bytes) → ((n : Bytes) → is_among xs n ≡ true → is_among ys n ≡ true) → (n : Bytes) → is_among (m ∷ xs) n ≡ true → is_among (m ∷ ys) n ≡ true
one-among m xs ys f n h = by (same_bytes n m) h
  where
    by : (b : Bool) → (b || is_among xs n) ≡ true → (b || is_among ys n) ≡ true
    by true k = refl
    by false k = f n k

joined-by : (xs ys : List Bytes) → ((n : Bytes) → is_among xs n ≡ true → is_among ys n ≡ true) → (e : Option Bytes) (cs : List Snapshot) → AreJoined xs e cs → AreJoined ys e cs
joined-by xs ys f e [] j = tt
joined-by xs ys f e (c ∷ cs) j = (
  record { others = j.0.others; parents = j.0.parents; known = known-more xs ys f j.0.others j.0.known; once = j.0.once },
  joined-by (snapshot_name c ∷ xs) (snapshot_name c ∷ ys) (one-among (snapshot_name c) xs ys f) (Some (snapshot_name c)) cs j.1,
)

-- what is known of a commit is among the projections
known-among : (ks : Entries) (h : Bytes) (s : Shown) → known_at ks h ≡ Some s → is_among (projected_names ks) s.commit ≡ true
known-among [] h s e = cc
known-among (d ∷ ks) h s e = by d.1 (same_bytes h d.0) (known-among ks h s) e
  where
    by : (o : Option Shown) (b : Bool) → (known_at ks h ≡ Some s → is_among (projected_names ks) s.commit ≡ true) → unwrap_or (cond b (Some o) (kept_at h ks)) None ≡ Some s
        → is_among (cons_option (commit_of_shown o) (projected_names ks)) s.commit ≡ true
    by None true r e = cc
    by None false r e = r e
    by (Some m) true r e =
        ap (λ x. x || is_among (projected_names ks) s.commit) (ap (λ (z : Shown). same_bytes s.commit z.commit) (same_Some m s e) ∙ same_bytes-self s.commit)
    by (Some m) false r e = or_right (same_bytes s.commit m.commit) (is_among (projected_names ks) s.commit) (r e)

module _ (k : Rule) (f : Filter) where
  names-at : (c : Snapshot) (o : Option Shown) (es : List (Bytes × Flat)) (ns : List Bytes) → map (λ e. e.0) es ≡ ns
      → map (λ e. e.0) (cons_option (option_map (λ s. (s.commit, shown f c.tree)) o) es) ≡ cons_option (commit_of_shown o) ns
  names-at c None es ns e = e
  names-at c (Some s) es ns e = ap (λ z. s.commit ∷ z) e

  pub shown-names : (g : Graph) → map (λ e. e.0) (shown_trees f g (projections k (shown f) [] g)) ≡ projected_names (projections k (shown f) [] g)
  shown-names [] = refl
  shown-names (c ∷ g) =
      names-at c (projected (choice_of k (shown f) g (projections k (shown f) [] g) c)) (shown_trees f g (projections k (shown f) [] g)) (projected_names (projections k (shown f) [] g)) (shown-names g)

  -- the names in front of them are of a projection
  front-among : (g : Graph) (t : Flat) (o : Option Shown) → ((s : Shown) → o ≡ Some s → is_among (projected_names (projections k (shown f) [] g)) s.commit ≡ true) → (n : Bytes)
      → is_among (map (λ e. e.0) (map (λ m. (m, t)) (option_to_list (commit_of_shown o)) ++ shown_trees f g (projections k (shown f) [] g))) n ≡ true
      → is_among (projected_names (projections k (shown f) [] g)) n ≡ true
  front-among g t None h n e = ap (λ ns. is_among ns n) (sym (shown-names g)) ∙ e
  front-among g t (Some s) h n e = by (same_bytes n s.commit) refl e
    where
      by : (b : Bool) → same_bytes n s.commit ≡ b → (b || is_among (map (λ e. e.0) (shown_trees f g (projections k (shown f) [] g))) n) ≡ true → is_among (projected_names (projections k (shown f) [] g)) n ≡ true
      by true i e = ap (is_among (projected_names (projections k (shown f) [] g))) ((bytes_decides n s.commit).0 i) ∙ h s refl
      by false i e = ap (λ ns. is_among ns n) (sym (shown-names g)) ∙ e

pub pushed-joined-law : PushedJoinedLaw
pushed-joined-law k f g h refname input =
    let ks : Entries = projections k (shown f) [] g in
    let from : Option Bytes = commit_of_shown (known_at ks h) in
    let t : Flat = shown f (tree_at g h) in
    joined-by (map (λ e. e.0) (merge_base refname from t (shown_trees f g ks)).commits) (projected_names ks)
    (front-among k f g t (known_at ks h) (λ s e. known-among ks h s e)) from _
    (joined-law refname from t (shown_trees f g ks) input)
