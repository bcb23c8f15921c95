-- What a user is told of a step, by the policy, the head and what is shown.
use Rattle.std.proofs.Common.{◌≡◌, ℕ, true, false, inl, inr, List, [], ◌∷◌, ◌++◌, map, refl, sym, ap, subst, ◌∙◌, Option, Some, None, true≢false}
use Rattle.std.specs.Prelude.{Result, Ok, Err, zip}
use Rattle.std.specs.List.{flat_map, last_or}
use Rattle.std.specs.Option.{option_map, option_or}
use Rattle.git_objects.specs.Commits.{hex}
use Rattle.git_objects.specs.Paths.{Bytes, is_bytes}
use Rattle.git_objects.specs.Results.{◌>>=◌, or_refuse, refused_by}
use Rattle.git_objects.specs.Snapshots.{Snapshot, snapshot_name, tree_at}
use Rattle.git_objects.specs.Lists.{Each}
use Rattle.git_objects.specs.declared.quantity.Quantity.{Quantity}
use Rattle.filter_text.specs.Filters.{Filter}
use Rattle.workspace.specs.Laws.{IsUsable}
use Rattle.workspace.specs.Workspaces.{shown}
use Rattle.object_store.specs.Objects.{IsStore}
use Rattle.fast_import.specs.Replays.{Ran}
use Rattle.import_laws.proofs.EditLeaves.{held-bytes}
use Rattle.push_laws.specs.Alike.{SameUnlessUnshown as SameVerdicts, tells_unshown as refusal_tells}
use Rattle.push_laws.specs.Given.{IsGiven, IsGivenCommit, IsSeenTree, blobs_in}
use Rattle.push_laws.specs.PushLaws.{AreTrees, commit_of, originals}
use Rattle.push_laws.specs.PushReplays.{StreamRefusal, push_replay}
use Rattle.push_laws.specs.PushVerdicts as verdicts
use Rattle.push_laws.specs.PushVerdicts.{Pair, Verdict, verdict, verdict_from}
use Rattle.push_laws.specs.Pushes.{PushRefusal, StreamRefused, CommitRefused, Pushing, pushing, refusal_of}
use Rattle.push_laws.proofs.Alike.{alike-law as verdicts-alike}
use Rattle.push_laws.proofs.GivenStreams.{given-law}
use Rattle.push_laws.proofs.Pushing.{made-law, pushed-law}
use Rattle.push_laws.proofs.SeenTrees.{seen-tree}
use Rattle.state_items.specs.Changes.{Plan, Room, passed, room_of}
use Rattle.state_items.specs.Items.{Held, read_items}
use Rattle.state_items.specs.Repos.{repo}
use Rattle.state_items.proofs.ReadEntries.{read-law}
use Rattle.proj_gate.specs.Policies.{Act, See, Push as PushAct, decide, rules}
use Rattle.proj_words.specs.Words.{Project, Export, Push, As}
use Rattle.proj_words.specs.declared.outcome.Outcome.{Outcome}
use Rattle.proj_words.specs.declared.outcome.Outcome.TheVariants.{BadPolicy, UnknownRef}
use Rattle.fast_export.specs.ExportTexts.{export_text}
use Rattle.proj_commands.specs.Alike.{told, IsAlike, IsAlikeForPush, OfHeads, head, tells_unshown, SameUnlessUnshown, AlikeLaw}
use Rattle.proj_commands.specs.Cases.{Case, ProjectCase, ExportCase, PushCase, break_outcome, head_of, no_limit}
use Rattle.proj_commands.specs.Filters.{history, projected, rule_by, sound}
use Rattle.proj_commands.specs.Policy.{allowed, granted, policy_text}
use Rattle.proj_commands.specs.Lines.{name_line}
use Rattle.proj_commands.specs.Push.{no_refusal, push_outcome, push_plan, told_line}
use Rattle.proj_commands.specs.Steps.{made, step}
use Rattle.proj_commands.specs.declared.lines.Telling.TheVariants.{PushedAlone}
use Rattle.proj_commands.proofs.PushedLaws.{IsAccepted, accepted, head-tree}
use Rattle.proj_commands.proofs.SoundTexts.{sound-usable}
use Rattle.proj_commands.specs.declared.pushing.Manner.TheVariants.{InLine}

abbrev Told : Type 0
Told = Result Bytes Outcome

abbrev Gate : Type 0
Gate = Result (Unit {0}) Outcome

-- ---- the step of a user, by its parts

-- what is told of the case that a head has, behind a gate
abbrev by_parts : Room → Gate → Option Bytes → (Bytes → Case) → Told
by_parts room z w C = told ((z >>= λ u. or_refuse UnknownRef w >>= λ n. Ok (C n)) >>= made room)

abbrev told_at : Gate → Option Bytes → (Bytes → Told) → Told
told_at z w out = z >>= λ u. or_refuse UnknownRef w >>= out

in-parts : (room : Room) (z : Gate) (w : Option Bytes) (C : Bytes → Case) → by_parts room z w C ≡ told_at z w (λ n. told (made room (C n)))
in-parts room (Err e) w C = refl
in-parts room (Ok u) None C = refl
in-parts room (Ok u) (Some n) C = refl

same-heads : (x y : Option Bytes) (P : Bytes → Bytes → Type 0) (out other : Bytes → Told) → OfHeads P x y → ((m n : Bytes) → P m n → out m ≡ other n) → (or_refuse UnknownRef x >>= out) ≡ (or_refuse UnknownRef y >>= other)
same-heads None None P out other h g = refl
same-heads (Some m) (Some n) P out other h g = g m n h
same-heads None (Some n) P out other h g = absurd h
same-heads (Some m) None P out other h g = absurd h

-- behind one gate
behind : (z : Gate) (x y : Option Bytes) (P : Bytes → Bytes → Type 0) (out other : Bytes → Told) → OfHeads P x y
    → ((m n : Bytes) → x ≡ Some m → P m n → SameUnlessUnshown (out m) (other n)) → SameUnlessUnshown (told_at z x out) (told_at z y other)
behind (Err e) x y P out other h g = inr (inr refl)
behind (Ok u) None None P out other h g = inr (inr refl)
behind (Ok u) (Some m) (Some n) P out other h g = g m n refl h
behind (Ok u) None (Some n) P out other h g = absurd h
behind (Ok u) (Some m) None P out other h g = absurd h

-- ---- what is told of a push

-- a refusal of a push that tells of what isn't shown
abbrev push_tells : PushRefusal → Type 0
push_tells (StreamRefused e) = ⊥
push_tells (CommitRefused n e) = refusal_tells e ≡ true

tells-refusal : (r : PushRefusal) → push_tells r → tells_unshown (push_outcome InLine r) ≡ true
tells-refusal (StreamRefused e) h = absurd h
tells-refusal (CommitRefused n verdicts.NoChange) h = absurd (true≢false (sym h))
tells-refusal (CommitRefused n verdicts.BadWorkspace) h = absurd (true≢false (sym h))
tells-refusal (CommitRefused n (verdicts.NotHeld p)) h = absurd (true≢false (sym h))
tells-refusal (CommitRefused n (verdicts.Unseen p)) h = refl
tells-refusal (CommitRefused n (verdicts.Blocked p q)) h = refl
tells-refusal (CommitRefused n (verdicts.TreeLimit q)) h = refl

-- by its refusal, the limit that it passes, and what is written of it
abbrev pushed_told : Option PushRefusal → Option Quantity → Bytes → Told
pushed_told a l b = no_refusal InLine a >>= λ u. no_limit l >>= λ v. Ok b

told-push : (g : Held) (a : Option PushRefusal) (l : Option Quantity) (b : Bytes) (q : Plan) →
    told (no_refusal InLine a >>= λ u. no_limit l >>= λ v. Ok (record { output = b; before = g; plan = q })) ≡ pushed_told a l b
told-push g (Some r) l b q = refl
told-push g None (Some l) b q = refl
told-push g None None b q = refl

-- the refusal of a push, by that of its stream and by the verdict
abbrev refusal_by : Option StreamRefusal → Verdict → Option PushRefusal
refusal_by fault v = option_or (option_map StreamRefused fault) (refusal_of v)

pushed-same : (fault : Option StreamRefusal) (v w : Verdict) (l k : Option Quantity) (b d : Bytes) → SameVerdicts v w
    → (refusal_by fault v ≡ None → refusal_by fault w ≡ None → b ≡ d) → SameUnlessUnshown (pushed_told (refusal_by fault v) l b) (pushed_told (refusal_by fault w) k d)
pushed-same (Some r) v w l k b d s e = inr (inr refl)
pushed-same None (Err x) w l k b d (inl h) e = inl (tells-refusal (CommitRefused x.0 x.1) h)
pushed-same None (Ok ps) w l k b d (inl h) e = absurd (true≢false (sym h))
pushed-same None v (Err x) l k b d (inr (inl h)) e = inr (inl (tells-refusal (CommitRefused x.0 x.1) h))
pushed-same None v (Ok ps) l k b d (inr (inl h)) e = absurd (true≢false (sym h))
pushed-same None (Err x) (Err y) l k b d (inr (inr h)) e = let same : x ≡ y = cc in inr (inr (ap (λ (z : ℕ × verdicts.Refusal). Err (push_outcome InLine (CommitRefused z.0 z.1))) same))
pushed-same None (Err x) (Ok rs) l k b d (inr (inr h)) e = cc
pushed-same None (Ok ps) (Err y) l k b d (inr (inr h)) e = cc
pushed-same None (Ok ps) (Ok rs) (Some q) k b d (inr (inr h)) e = inl refl
pushed-same None (Ok ps) (Ok rs) None (Some q) b d (inr (inr h)) e = inr (inl refl)
pushed-same None (Ok ps) (Ok rs) None None b d (inr (inr h)) e = inr (inr (ap Ok (e refl refl)))

-- ---- what is written of a push that isn't refused

abbrev digits_alone : Snapshot → Bytes
digits_alone c = hex (snapshot_name c) ++ 10 ∷ []

pairs-told : (ps : List Pair) → flat_map (told_line PushedAlone) (zip (map (λ p. p.pushed) ps) (originals ps)) ≡ flat_map digits_alone (map (λ p. p.pushed) ps)
pairs-told [] = refl
pairs-told (p ∷ ps) = ap (λ rest. digits_alone p.pushed ++ rest) (pairs-told ps)

-- the digits of its commits
module _ (f : Filter) (h : Held) (refname n input : Bytes) where
  abbrev p : Pushing
  p = pushing (rule_by h.rule) f (repo h).commits n refname input

  abbrev told_lines : Bytes
  told_lines = flat_map (told_line PushedAlone) (zip p.stream.state.commits p.originals)

  pub lines-alone : p.refusal ≡ None → told_lines ≡ flat_map digits_alone p.stream.state.commits
  lines-alone e =
      let a : IsAccepted p.stream.fault (verdict f (repo h).commits n p.stream.state.commits) = accepted p.stream.fault (verdict f (repo h).commits n p.stream.state.commits) e in
      let m = made-law f (repo h).commits n refname (commit_of (projected h f n)) p.stream a.pairs a.verdict_is in
      let c = pushed-law f (repo h).commits n p.stream.state.commits a.pairs a.verdict_is in
      ap (λ (os : List Snapshot). flat_map (told_line PushedAlone) (zip p.stream.state.commits os)) m
      ∙ subst (λ (cs : List Snapshot). flat_map (told_line PushedAlone) (zip cs (originals a.pairs)) ≡ flat_map digits_alone cs) c (pairs-told a.pairs)

  -- the pushed commits are trees, where the input and what is held are bytes
  pub given-trees : IsStore h.objects → IsUsable f → is_bytes input ≡ true → AreTrees p.stream.state.commits
  given-trees s u b = each (p.stream.state.blobs ++ blobs_in (shown f (tree_at (repo h).commits n))) p.stream.state.commits given.commits
    where
      seen : IsSeenTree (shown f (tree_at (repo h).commits n))
      seen = let t = head-tree h n s in seen-tree f (tree_at (repo h).commits n) (repo h).blobs u t.0 t.1 (held-bytes h.objects s)

      given : IsGiven (blobs_in (shown f (tree_at (repo h).commits n))) p.stream.state
      given = given-law refname (commit_of (projected h f n)) (shown f (tree_at (repo h).commits n)) input seen.tree seen.bytes b

      each : (bs : List Bytes) (cs : List Snapshot) → Each (IsGivenCommit bs) cs → AreTrees cs
      each bs [] w = tt
      each bs (c ∷ cs) w = (w.0.tree, each bs cs w.1)

-- ---- what a user is told

module _ (user refname text : Bytes) (f : Filter) (e : sound text ≡ Ok f) where
  -- by the text of a policy
  abbrev gate_by : Bytes → Act → Gate
  gate_by t act = refused_by BadPolicy (rules t) >>= λ rs. allowed (decide rs user act refname f)

  abbrev gate : Held → Act → Gate
  gate h act = gate_by (policy_text h) act

  told-project : (I : List Bytes) (g : Held) (a : Bytes) → read_items I ≡ Ok g → told (step (As user (Project refname text)) I a) ≡ told_at (gate g See) (head refname g) (λ n. Ok (name_line (projected g f n)))
  told-project I g a r =
      (λ i. told ((e i >>= λ f. refused_by break_outcome (r i) >>= λ h. granted h user See refname f >>= λ u.
      head_of refname h.refs >>= λ n. Ok (ProjectCase h f n)) >>= made (room_of I)))
      ∙ in-parts (room_of I) (gate g See) (head refname g) (ProjectCase g f)

  told-export : (I : List Bytes) (g : Held) (a : Bytes) → read_items I ≡ Ok g →
      told (step (As user (Export refname text)) I a) ≡ told_at (gate g See) (head refname g) (λ n. Ok (export_text (history g.rule f (repo g).commits n) refname))
  told-export I g a r =
      (λ i. told ((e i >>= λ f. refused_by break_outcome (r i) >>= λ h. granted h user See refname f >>= λ u.
      head_of refname h.refs >>= λ n. Ok (ExportCase false h f refname n)) >>= made (room_of I)))
      ∙ in-parts (room_of I) (gate g See) (head refname g) (ExportCase false g f refname)

  module _ (input : Bytes) where
    abbrev push_of : Held → Bytes → Pushing
    push_of g n = pushing (rule_by g.rule) f (repo g).commits n refname input

    abbrev pushed_at : Room → Held → Bytes → Told
    pushed_at room g n = told (made room (PushCase InLine PushedAlone g f refname n (push_of g n)))

    told-pushed : (I : List Bytes) (g : Held) → read_items I ≡ Ok g → told (step (As user (Push refname text)) I input) ≡ told_at (gate g PushAct) (head refname g) (pushed_at (room_of I) g)
    told-pushed I g r =
        (λ i. told ((e i >>= λ f. refused_by break_outcome (r i) >>= λ h. granted h user PushAct refname f >>= λ u.
        head_of refname h.refs >>= λ n. Ok (PushCase InLine PushedAlone h f refname n (pushing (rule_by h.rule) f (repo h).commits n refname input))) >>= made (room_of I)))
        ∙ in-parts (room_of I) (gate g PushAct) (head refname g) (λ n. PushCase InLine PushedAlone g f refname n (push_of g n))

    abbrev plan_of : Held → Bytes → Plan
    plan_of g n = push_plan g refname (push_of g n) (last_or None (push_of g n).originals)

    abbrev lines_of : Held → Bytes → Bytes
    lines_of g n = told_lines f g refname n input

    -- two heads that are alike, of which the commits that are pushed upon the first are trees
    module _ (room other : Room) (g h : Held) (m n : Bytes) (i : IsAlikeForPush f g m h n) where
      abbrev x : Ran StreamRefusal
      x = (push_of g m).stream

      abbrev first : Told
      first = pushed_told (push_of g m).refusal (passed g room (plan_of g m)) (lines_of g m)

      -- the refusal upon the second head, by the stream upon it
      abbrev second_refusal : Ran StreamRefusal → Option PushRefusal
      second_refusal y = refusal_by y.fault (verdict f (repo h).commits n y.state.commits)

      abbrev second : Ran StreamRefusal → Told
      second y = pushed_told (second_refusal y) (passed h other (plan_of h n)) (lines_of h n)

      same-stream : x ≡ (push_of h n).stream
      same-stream = λ j. push_replay refname (commit_of (i.seen.projection j)) (i.seen.tree j) input

      same-verdicts : IsUsable f → AreTrees x.state.commits → SameVerdicts (verdict f (repo g).commits m x.state.commits) (verdict f (repo h).commits n x.state.commits)
      same-verdicts u trees =
          subst (λ seen. SameVerdicts (verdict f (repo g).commits m x.state.commits) (verdict_from f 1 n (tree_at (repo h).commits n) seen x.state.commits)) i.seen.tree
          (verdicts-alike f 1 m n (tree_at (repo g).commits m) (tree_at (repo h).commits n) (shown f (tree_at (repo g).commits m)) x.state.commits u trees i.file)

      same-lines : (push_of g m).refusal ≡ None → second_refusal (push_of h n).stream ≡ None → lines_of g m ≡ lines_of h n
      same-lines a b =
          lines-alone f g refname m input a ∙ ap (λ (y : Ran StreamRefusal). flat_map digits_alone y.state.commits) same-stream ∙ sym (lines-alone f h refname n input b)

      same-told : IsUsable f → AreTrees x.state.commits → SameUnlessUnshown first (second (push_of h n).stream)
      same-told u trees =
          subst (λ (y : Ran StreamRefusal). ((push_of g m).refusal ≡ None → second_refusal y ≡ None → lines_of g m ≡ lines_of h n) → SameUnlessUnshown first (second y)) same-stream
          (pushed-same x.fault (verdict f (repo g).commits m x.state.commits) (verdict f (repo h).commits n x.state.commits)
          (passed g room (plan_of g m)) (passed h other (plan_of h n)) (lines_of g m) (lines_of h n) (same-verdicts u trees))
          same-lines

      alike : IsUsable f → AreTrees x.state.commits → SameUnlessUnshown (pushed_at room g m) (pushed_at other h n)
      alike u trees =
          subst (λ (t : Told). SameUnlessUnshown t (pushed_at other h n)) (sym (told-push g (push_of g m).refusal (passed g room (plan_of g m)) (lines_of g m) (plan_of g m)))
          (subst (λ (t : Told). SameUnlessUnshown first t) (sym (told-push h (push_of h n).refusal (passed h other (plan_of h n)) (lines_of h n) (plan_of h n)))
          (same-told u trees))

pub alike-law : AlikeLaw
alike-law = record {
  project = λ user refname text I J g h f a b r s e policy heads.
      told-project user refname text f e I g a r
      ∙ (λ j. gate_by user refname text f e (policy j) See >>= λ u. same-heads (head refname g) (head refname h) (λ m n. IsAlike f g m h n) (λ n. Ok (name_line (projected g f n))) (λ n. Ok (name_line (projected h f n))) heads
      (λ m n i. ap (λ p. Ok (name_line p)) i.projection) j)
      ∙ sym (told-project user refname text f e J h b s);
  export = λ user refname text I J g h f a b r s e policy heads.
      told-export user refname text f e I g a r
      ∙ (λ j. gate_by user refname text f e (policy j) See >>= λ u. same-heads (head refname g) (head refname h) (λ m n. IsAlike f g m h n)
      (λ n. Ok (export_text (history g.rule f (repo g).commits n) refname)) (λ n. Ok (export_text (history h.rule f (repo h).commits n) refname)) heads
      (λ m n i. ap (λ cs. Ok (export_text cs refname)) i.history) j)
      ∙ sym (told-export user refname text f e J h b s);
  push = λ user refname text I J g h f input r s e policy all bytes heads.
      let u = sound-usable text f e in
      let store = read-law.store I g all r in
      subst (λ (t : Told). SameUnlessUnshown t (told (step (As user (Push refname text)) J input))) (sym (told-pushed user refname text f e input I g r))
      (subst (λ (t : Told). SameUnlessUnshown (told_at (gate user refname text f e g PushAct) (head refname g) (pushed_at user refname text f e input (room_of I) g)) t)
      (ap (λ p. told_at (gate_by user refname text f e p PushAct) (head refname h) (pushed_at user refname text f e input (room_of J) h)) policy ∙ sym (told-pushed user refname text f e input J h s))
      (behind (gate user refname text f e g PushAct) (head refname g) (head refname h) (λ m n. IsAlikeForPush f g m h n)
      (pushed_at user refname text f e input (room_of I) g) (pushed_at user refname text f e input (room_of J) h) heads
      (λ m n at i. alike user refname text f e input (room_of I) (room_of J) g h m n i u (given-trees f g refname m input store u bytes))));
}
