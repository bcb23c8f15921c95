-- Which refs of a batch move forward, as it is tested.
use Rattle.std.proofs.Common.{◌≡◌, ◌↔◌, ◌<◌, ◌+◌, ℕ, IsTrue, Bool, drop, get_or, length, true, false, cond, ◌||◌, List, [], ◌∷◌, ◌++◌, reverse, map, Option, Some, None, refl, sym, ap, subst, ◌∙◌, true≢false}
use Rattle.std.specs.Cmp.{both_ways, first_so, second_so}
use Rattle.std.specs.FinMap.{find}
use Rattle.std.specs.List.{list_all}
use Rattle.std.specs.Option.{is_some}
use Rattle.std.proofs.lemmas.Bool.{and_from, or_right}
use Rattle.std.proofs.lemmas.List.{drop_more}
use Rattle.std.proofs.lemmas.List.Folds.{list_all-map}
use Rattle.std.proofs.lemmas.Option.{slice_get-get_or}
use Rattle.git_objects.specs.Paths.{Bytes, same_bytes}
use Rattle.git_objects.specs.Refs.{Refs, bytes_cmp}
use Rattle.git_objects.specs.Snapshots.{Snapshot, snapshot_name}
use Rattle.git_objects.specs.declared.kind.Kind.TheVariants.{Commit as CommitKind}
use Rattle.commit_graph.specs.Graphs.{Reaches, Row, place_of}
use Rattle.fast_import.specs.Replaying.{setting_value}
use Rattle.fast_import.specs.declared.replayed.Setting.{Setting}
use Rattle.projection_ground.specs.Grounds.{IsGround}
use Rattle.object_store.specs.Objects.{Object, has}
use Rattle.object_store.specs.StoredSnapshots.{snapshots_in}
use Rattle.ref_store.specs.Refs.{head_of}
use Rattle.state_items.specs.Imported.{is_among, with_commits}
use Rattle.state_items.specs.Items.{Held}
use Rattle.state_items.specs.Repos.{repo}
use Rattle.state_items.proofs.HeadsHeld.{find-there}
use Rattle.state_items.proofs.ParentPlaces.{all-at}
use Rattle.state_items.proofs.RowsHeld.{place-there}
use Rattle.repo_ground.specs.Changes.{IsBatchOf, settings_of}
use Rattle.repo_ground.specs.Contents.{Contents}
use Rattle.repo_ground.specs.Entering.{IsFront}
use Rattle.repo_ground.specs.Moves.{IsMove, Move, backward, first_backward, is_before, or_later}
use Rattle.repo_ground.specs.Reaching.{AreEntered, AreHeads, HasCommits, MayMove, MayTest}
use Rattle.repo_ground.specs.declared.commit.Batch.{Batch}
use Rattle.repo_ground.specs.declared.moves.Backward.{Backward}
use Rattle.repo_ground.proofs.CommitsEntered.{held-entered, placed-among, placed-front}
use Rattle.repo_ground.proofs.FreshNames.{front-of}
use Rattle.repo_ground.proofs.Reaching.{get-member, moved-on, some-of}
use Rattle.state_items.proofs.RefsHeld.{head-found}
use Rattle.repo_ground.proofs.RowsGround.{are-in}

-- ---- one ref

pub moves-new : (cs : List Snapshot) (e : Bytes × Bytes) (o : Option Bytes) → o ≡ None → IsMove (backward cs e o) None
moves-new cs e o h = subst (λ (x : Option Bytes). IsMove (backward cs e x) None) (sym h) tt

-- a setting of a ref that has an old commit
module _ (S : List Object) (rows : List Row) (cs : List Snapshot) (refs sorted : Refs) (e : Bytes × Bytes) (m : MayTest S rows cs refs sorted (e ∷ [])) (old : Bytes) (is : Some old ≡ head_of refs e.0) where
  among : is_among cs e.1 ≡ true
  among = first_so (is_among cs e.1) true m.new

  pub old-placed : is_some (place_of old rows) ≡ true
  old-placed = m.old.placed e.0 old (sym is)

  pub new-placed : is_some (place_of e.1 rows) ≡ true
  new-placed = placed-among S rows cs e.1 m.has.each among

  abbrev forward : Bool
  forward = same_bytes old e.1 || is_before cs old e.1

  abbrev move : Bool → Option Move
  move b = cond b None (Some (record { refname = e.0; old = old; new = e.1 }))

  moved : backward cs e (find bytes_cmp e.0 sorted) ≡ move forward
  moved = ap (backward cs e) (sym (m.old.found e.0) ∙ sym is)

  -- what a test by the rows says
  forward-is : (b : Bool) → ((i j : ℕ) → place_of old rows ≡ Some i → place_of e.1 rows ≡ Some j → IsTrue b ↔ Reaches rows j i) → forward ≡ b
  forward-is b f =
      let i = some-of (place_of old rows) old-placed in
      let j = some-of (place_of e.1 rows) new-placed in
      let told = f i.0 j.0 i.1 j.1 in
      let on = moved-on S rows cs m.has old e.1 among i.0 j.0 i.1 j.1 in
      both_ways forward b (λ h. told.1 (on.1 h)) (λ h. on.0 (told.0 h))

  pub moves-on : (b : Bool) → ((i j : ℕ) → place_of old rows ≡ Some i → place_of e.1 rows ≡ Some j → IsTrue b ↔ Reaches rows j i) → b ≡ true → IsMove (backward cs e (find bytes_cmp e.0 sorted)) None
  moves-on b f h = subst (λ (x : Option Move). IsMove x None) (sym (moved ∙ ap move (forward-is b f ∙ h))) tt

  pub moves-back : (b : Bool) → ((i j : ℕ) → place_of old rows ≡ Some i → place_of e.1 rows ≡ Some j → IsTrue b ↔ Reaches rows j i) → b ≡ false
      → (r : Backward) → r.refname ≡ e.0 → r.old_commit.0 ≡ old → r.new_commit.0 ≡ e.1 → IsMove (backward cs e (find bytes_cmp e.0 sorted)) (Some r)
  moves-back b f h r x y z = subst (λ (o : Option Move). IsMove o (Some r)) (sym (moved ∙ ap move (forward-is b f ∙ h))) (x, y, z)

-- ---- one ref after another

-- the first that is found is the answer
pub first-found : (m later : Option Move) (r : Option Backward) → IsMove m r → is_some r ≡ true → IsMove (or_later m later) r
first-found None later None h e = absurd (true≢false (sym e))
first-found None later (Some b) h e = absurd h
first-found (Some m) later None h e = absurd h
first-found (Some m) later (Some b) h e = h

-- one that moves on leaves the later ones
pub later-found : (m later : Option Move) (r : Option Backward) → IsMove m r → is_some r ≡ false → or_later m later ≡ later
later-found None later r h e = refl
later-found (Some m) later None h e = absurd h
later-found (Some m) later (Some b) h e = absurd (true≢false e)

module _ (settings : List Setting) (k : ℕ) (s : Setting) (l : k < length settings) (is : s ≡ get_or settings k s) where
  -- one of the settings may be tested
  pub one-test : (S : List Object) (rows : List Row) (cs : List Snapshot) (refs sorted : Refs) → MayTest S rows cs refs sorted (map setting_value settings) → MayTest S rows cs refs sorted (setting_value s ∷ [])
  one-test S rows cs refs sorted m = record {
    has = m.has;
    old = m.old;
    new =
        let all = sym (list_all-map (λ (e : Bytes × Bytes). is_among cs e.1) setting_value settings) ∙ m.new in
        and_from (is_among cs (setting_value s).1) true (all-at (λ (x : Setting). is_among cs (setting_value x).1) settings k s (slice_get-get_or settings k s l ∙ ap Some (sym is)) all) refl;
  }

  -- its answer, or that of the later ones
  pub next-test : (cs : List Snapshot) (sorted : Refs) → first_backward cs sorted (map setting_value (drop k settings))
      ≡ or_later (backward cs (setting_value s) (find bytes_cmp s.refname sorted)) (first_backward cs sorted (map setting_value (drop (k + 1) settings)))
  next-test cs sorted = ap (λ (xs : List Setting). first_backward cs sorted (map setting_value xs)) (drop_more settings k s l ∙ ap (λ (x : Setting). x ∷ drop (k + 1) settings) (sym is))

-- ---- a batch

pub heads-front : (rows more : List Row) (refs sorted : Refs) → AreHeads rows refs sorted → AreHeads (rows ++ more) refs sorted
heads-front rows more refs sorted h = record { found = h.found; placed = λ r n e. placed-front rows more n (h.placed r n e) }

-- what may be tested as soon as the batch's commits have rows
pub may-test : (S : List Object) (rows after : List Row) (known cs : List Snapshot) (refs sorted : Refs) (b : Batch) → MayMove S rows known refs sorted b cs → IsFront rows after
    → HasCommits S after (reverse cs ++ known) → MayTest S after (reverse cs ++ known) refs sorted (settings_of b)
may-test S rows after known cs refs sorted b m f h = record {
  has = h;
  old = subst (λ (rs : List Row). AreHeads rs refs sorted) (sym f.1) (heads-front rows f.0 refs sorted m.old);
  new = m.new;
}

among-more : (xs ds : List Snapshot) (c : Snapshot) (n : Bytes) → is_among (xs ++ ds) n ≡ true → is_among (xs ++ c ∷ ds) n ≡ true
among-more [] ds c n h = or_right (same_bytes (snapshot_name c) n) (is_among ds n) h
among-more (x ∷ xs) ds c n h =
    elim (same_bytes (snapshot_name x) n) as (λ t. (t || is_among (xs ++ ds) n) ≡ true → (t || is_among (xs ++ c ∷ ds) n) ≡ true) [
      | true ↦ λ q. refl
      | false ↦ λ q. among-more xs ds c n q
    ] h

among-behind : (cs ds : List Snapshot) (c : Snapshot) (n : Bytes) (b : Bool) → is_among (cs ++ cond b ds (c ∷ ds)) n ≡ true → is_among (cs ++ c ∷ ds) n ≡ true
among-behind cs ds c n true h = among-more cs ds c n h
among-behind cs ds c n false h = h

-- commits that were brought, each once, are among all of them
with-among : (cs known : List Snapshot) (n : Bytes) → is_among (with_commits known cs) n ≡ true → is_among (reverse cs ++ known) n ≡ true
with-among [] known n h = h
with-among (c ∷ cs) known n h =
    ap (λ (xs : List Snapshot). is_among xs n) (front-of c cs known)
    ∙ among-behind (reverse cs) known c n (is_among known (snapshot_name c)) (with-among cs (cond (is_among known (snapshot_name c)) known (c ∷ known)) n h)

all-with : (cs known : List Snapshot) (es : Refs) → list_all (λ (e : Bytes × Bytes). is_among (with_commits known cs) e.1) es ≡ true → list_all (λ (e : Bytes × Bytes). is_among (reverse cs ++ known) e.1) es ≡ true
all-with cs known [] h = refl
all-with cs known (e ∷ es) h =
    and_from (is_among (reverse cs ++ known) e.1) (list_all (λ (d : Bytes × Bytes). is_among (reverse cs ++ known) d.1) es)
    (with-among cs known e.1 (first_so _ _ h)) (all-with cs known es (second_so (is_among (with_commits known cs) e.1) _ h))

module _ (h : Held) (s : Contents) (b : Batch) (blobs : List Bytes) (cs : List Snapshot) (w : IsBatchOf h s b blobs cs) (g : IsGround s.basis) where
  abbrev H : List Object
  H = h.objects

  heads-placed : AreHeads s.basis.graph s.refs h.refs
  heads-placed = record {
    found = found;
    placed = λ r n e.
        let t = find-there h.refs r n (sym (found r) ∙ e) in
        let held : has CommitKind H n ≡ true = all-at (λ (d : Bytes × Bytes). has CommitKind H d.1) h.refs t.1.0 (t.0, n) (get-member h.refs (t.0, n) t.1) w.spells.heads in
        ap (λ (rs : List Row). is_some (place_of n rs)) w.spells.graph ∙ place-there n H w.spells.store ∙ held;
  }
    where
      found : (r : Bytes) → head_of s.refs r ≡ find bytes_cmp r h.refs
      found r = head-found r s.refs w.spells.distinct ∙ ap (find bytes_cmp r) w.spells.refs

  -- a batch upon a state may be tested
  pub may-move : MayMove s.basis.store s.basis.graph (repo h).commits s.refs h.refs b cs
  may-move = record {
    enter = record {
      has = record {
        graph = g.graph;
        each = subst (λ (rs : List Row). AreEntered s.basis.store rs (snapshots_in H)) (sym w.spells.graph) (held-entered s.basis.store H g.graph.store w.spells.store (are-in s.basis.store H w.spells.within));
      };
      named = w.named;
      whole = w.brought.commits;
    };
    old = heads-placed;
    new = all-with cs (repo h).commits (settings_of b) w.refs.heads;
  }
