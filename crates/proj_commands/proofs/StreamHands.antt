-- What the commands of a stream bring is in hand.
use Rattle.std.proofs.Common.{◌≡◌, ℕ, List, [], ◌∷◌, ◌++◌, map, Contains, Option, None, Some, Result, Ok, Err, inl, inr, ⊎_elim, refl, sym, subst}
use Rattle.std.specs.Prelude.{◌⊎◌}
use Rattle.std.specs.List.{flat_map}
use Rattle.std.specs.Option.{option_to_list}
use Rattle.std.proofs.lemmas.List.Elements.{All-contains, Contains-append_left, Contains-append_right, Contains-push}
use Rattle.git_objects.specs.Lists.{Each}
use Rattle.git_objects.specs.Paths.{Bytes}
use Rattle.git_objects.specs.Results.{◌>>=◌, or_refuse}
use Rattle.git_objects.specs.Snapshots.{Snapshot}
use Rattle.git_objects.specs.Trees.{IsTree, Leaf, under}
use Rattle.object_store.specs.Hands.{IsComponentOf, IsLeafOf, IsTreeMade}
use Rattle.object_store.specs.Objects.{Object}
use Rattle.object_store.specs.StoredSnapshots.{snapshot_object}
use Rattle.stream_reader.specs.declared.command.Command.{Command}
use Rattle.stream_reader.specs.declared.command.Command.TheVariants as commands
use Rattle.stream_reader.specs.declared.command.Placed.{Placed}
use Rattle.stream_reader.specs.declared.fault.StreamFault.{StreamFault}
use Rattle.stream_reader.specs.declared.fault.StreamFault.TheVariants.{Syntax}
use Rattle.fast_import.specs.Made.{IsBlobAmong, IsDirectoryOf, IsMadeAt, IsMadeBy, IsMadeOf, IsMadeOn, tree_object}
use Rattle.fast_import.specs.Replays.{Base, BlobMark, CommitMark, Draft, Marked, Ran, Replay, TagMark, begun, commit_of, committed, command_step, edited, first_parent, gone_on, inline_blob, known, nothing_yet, ran_by, said, step, tag_of, tagged, with_branch, with_mark, with_merges}
use Rattle.tag_objects.specs.TagLists.{put_tag}
use Rattle.state_items.proofs.ReadObjects.{ok-same, value-of}
use Rattle.state_items.proofs.TreeParts.{all-each, below-made, each-map}
use Rattle.import_laws.proofs.Replaying.{refuse-value}
use Rattle.proj_commands.specs.Hands.{BlobRead, CommitMade, Hand, IsInHand, TreeMade, all_components, all_leaves, blobs_read, hand_of}

-- one of these blobs, or one of these commits, or a directory of its tree
abbrev pub IsBrought : List Bytes → List Snapshot → Object → Type 0
IsBrought bs cs o = IsBlobAmong bs o ⊎ ((c : Snapshot) × Contains cs c × ((o ≡ snapshot_object c) ⊎ IsDirectoryOf c.tree o))

brought-as : (bs ds : List Bytes) (cs es : List Snapshot) (o : Object) → ((b : Bytes) → Contains bs b → Contains ds b) → ((c : Snapshot) → Contains cs c → Contains es c) → IsBrought bs cs o
    → IsBrought ds es o
brought-as bs ds cs es o f g m = ⊎_elim (λ b. inl (b.0, f b.0 b.1, b.2)) (λ c. inr (c.0, g c.0 c.1, c.2)) m

-- ---- one command

mark-more : (m : Option ℕ) (x : Marked) (r : Replay) (c : Snapshot) → Contains r.commits c → Contains (with_mark m x r).commits c
mark-more None x r c there = there
mark-more (Some n) x r c there = there

module _ (base : Base) where
  -- what was made stays
  step-more : (r q : Replay) (at : ℕ) (c : Command) (x : Snapshot) → command_step base r at c ≡ Ok q → Contains r.commits x → Contains q.commits x
  step-more r q at (commands.Blob m b) x e there =
      let next : Replay = record r { blobs = r.blobs ++ b ∷ [] } in
      subst (λ (s : Replay). Contains s.commits x) (ok-same (with_mark m (BlobMark b) next) q e) (mark-more m (BlobMark b) next x there)
  step-more r q at (commands.Commit d) x e there =
      let f = value-of (first_parent base r d) (λ first. with_merges base r (option_to_list first) d.merges >>= λ parents. Ok (begun base r d first parents)) q e in
      let m = value-of (with_merges base r (option_to_list f.value) d.merges) (λ parents. Ok (begun base r d f.value parents)) q f.rest in
      subst (λ (s : Replay). Contains s.commits x) (ok-same (begun base r d f.value m.value) q m.rest) there
  step-more r q at (commands.Change c) x e there =
      let d = value-of (or_refuse (Syntax at) r.draft) (λ d. edited base r at d.tree c >>= λ t. Ok (record r { blobs = r.blobs ++ inline_blob c; draft = Some (record d { tree = t }) })) q e in
      let t = value-of (edited base r at d.value.tree c) (λ t. Ok (record r { blobs = r.blobs ++ inline_blob c; draft = Some (record d.value { tree = t }) })) q d.rest in
      let next : Replay = record r { blobs = r.blobs ++ inline_blob c; draft = Some (record d.value { tree = t.value }) } in
      subst (λ (s : Replay). Contains s.commits x) (ok-same next q t.rest) there
  step-more r q at commands.CommitEnd x e there =
      let d = value-of (or_refuse (Syntax at) r.draft) (λ d. Ok (committed r d)) q e in
      subst (λ (s : Replay). Contains s.commits x) (ok-same (committed r d.value) q d.rest)
      (mark-more d.value.head.mark (CommitMark _) _ x (Contains-append_left r.commits (commit_of d.value ∷ []) x there))
  step-more r q at (commands.Reset refname from) x e there =
      let n = value-of (said base r from) (λ n. Ok (with_branch refname n r)) q e in
      subst (λ (s : Replay). Contains s.commits x) (ok-same (with_branch refname n.value r) q n.rest) there
  step-more r q at (commands.Tag h) x e there =
      let n = value-of (known base r h.from) (λ n. Ok (tagged h n r)) q e in
      subst (λ (s : Replay). Contains s.commits x) (ok-same (tagged h n.value r) q n.rest)
      (mark-more h.mark TagMark (record r { tags = put_tag (tag_of h n.value) r.tags }) x there)
  step-more r q at commands.Done x e there = subst (λ (s : Replay). Contains s.commits x) (ok-same r q e) there

  -- what a command brings that is done
  step-brought : (r q : Replay) (at : ℕ) (c : Command) (o : Object) → command_step base r at c ≡ Ok q → IsMadeAt r c o → IsBrought (blobs_read c) q.commits o
  step-brought r q at (commands.Blob m b) o e made = inl (b, Contains-push [] b, made)
  step-brought r q at (commands.Commit d) o e made = absurd made
  step-brought r q at (commands.Change c) o e made = inl made
  step-brought r q at commands.CommitEnd o e made =
      let d = value-of (or_refuse (Syntax at) r.draft) (λ d. Ok (committed r d)) q e in
      let there = refuse-value (Syntax at) r.draft d.value d.was in
      inr (
        commit_of d.value,
        subst (λ (s : Replay). Contains s.commits (commit_of d.value)) (ok-same (committed r d.value) q d.rest)
            (mark-more d.value.head.mark (CommitMark _) _ (commit_of d.value) (Contains-push r.commits (commit_of d.value))),
        subst (λ x. IsMadeOf x o) there made,
      )
  step-brought r q at (commands.Reset refname from) o e made = absurd made
  step-brought r q at (commands.Tag h) o e made = absurd made
  step-brought r q at commands.Done o e made = absurd made

  -- and one that is refused
  pub refused-brought : (r : Replay) (at : ℕ) (c : Command) (f : StreamFault) (o : Object) → command_step base r at c ≡ Err f → IsMadeAt r c o → IsBrought (blobs_read c) r.commits o
  refused-brought r at (commands.Blob m b) f o e made = inl (b, Contains-push [] b, made)
  refused-brought r at (commands.Commit d) f o e made = absurd made
  refused-brought r at (commands.Change c) f o e made = inl made
  refused-brought r at commands.CommitEnd f o e made = absurd (none r.draft e made)
    where
      none : (d : Option Draft) → (or_refuse (Syntax at) d >>= λ d. Ok (committed r d)) ≡ Err f → IsMadeOf d o → ⊥
      none None e made = made
      none (Some d) e made = let no : Ok (committed r d) ≡ Err f = e in cc
  refused-brought r at (commands.Reset refname from) f o e made = absurd made
  refused-brought r at (commands.Tag h) f o e made = absurd made
  refused-brought r at commands.Done f o e made = absurd made

-- ---- a stream

-- by whatever one command does, where it does what the replay does; and where it is refused, all that it brings was brought
module _ {F : Type 0} (base : Base) (one : Replay → Placed → Result Replay F) (done : (r q : Replay) (p : Placed) → one r p ≡ Ok q → step base r p ≡ Ok q)
    (not_done : (r : Replay) (p : Placed) (f : F) (o : Object) → one r p ≡ Err f → IsMadeAt r p.command o → IsBrought (blobs_read p.command) r.commits o) (end : Option F) where
  abbrev run : Replay → List Placed → Ran F
  run r ps = ran_by one end r ps

  abbrev all_read : List Placed → List Bytes
  all_read ps = flat_map (λ p. blobs_read p.command) ps

  run-more : (ps : List Placed) (r : Replay) (x : Snapshot) → Contains r.commits x → Contains (run r ps).state.commits x
  run-more [] r x there = there
  run-more (p ∷ ps) r x there =
      elim (one r p) as (λ y. one r p ≡ y → Contains (gone_on p r (λ s. run s ps) y).state.commits x) [
        | Ok q ↦ λ e. run-more ps q x (step-more base r q p.at p.command x (done r q p e) there)
        | Err f ↦ λ e. there
      ] refl

  pub run-brought : (ps : List Placed) (r : Replay) (o : Object) → IsMadeBy base r (run r ps).tried o → IsBrought (all_read (run r ps).tried) (run r ps).state.commits o
  run-brought [] r o made = absurd made
  run-brought (p ∷ ps) r o made =
      elim (one r p) as (λ y. one r p ≡ y → IsMadeBy base r (gone_on p r (λ s. run s ps) y).tried o
      → IsBrought (all_read (gone_on p r (λ s. run s ps) y).tried) (gone_on p r (λ s. run s ps) y).state.commits o) [
        | Ok q ↦ λ e m.
            let bs : List Bytes = blobs_read p.command in
            let more : List Bytes = all_read (run q ps).tried in
            let after : List Snapshot = (run q ps).state.commits in
            ⊎_elim (λ a. brought-as bs (bs ++ more) q.commits after o (λ b k. Contains-append_left bs more b k) (λ c k. run-more ps q c k) (step-brought base r q p.at p.command o (done r q p e) a))
            (λ a. brought-as more (bs ++ more) after after o (λ b k. Contains-append_right bs more b k) (λ c k. k)
            (run-brought ps q o (subst (IsMadeOn (λ s. IsMadeBy base s (run q ps).tried o)) (done r q p e) a))) m
        | Err f ↦ λ e m.
            let bs : List Bytes = blobs_read p.command in
            ⊎_elim (λ a. brought-as bs (bs ++ []) r.commits r.commits o (λ b k. Contains-append_left bs [] b k) (λ c k. k) (not_done r p f o e a))
            (λ a. absurd (none (step base r p) a)) m
      ] refl made
    where
      none : (y : Result Replay StreamFault) → IsMadeOn (λ s. IsMadeBy base s [] o) y → ⊥
      none (Ok q) a = a
      none (Err f) a = a

-- ---- trees of commits in hand

each-flat : {A B : Type 0} (f : A → List B) (xs : List A) → Each (λ x. (y : B) → Contains (f x) y → Contains (flat_map f xs) y) xs
each-flat f [] = tt
each-flat {A = A} {B = B} f (x ∷ xs) = (
  λ y m. Contains-append_left (f x) (flat_map f xs) y m,
  each-map (λ (z : A). (y : B) → Contains (f z) y → Contains (flat_map f xs) y) (λ (z : A). (y : B) → Contains (f z) y → Contains (f x ++ flat_map f xs) y) xs
      (λ z h y m. Contains-append_right (f x) (flat_map f xs) y (h y m)) (each-flat f xs),
)

pub contains-flat : {A B : Type 0} (f : A → List B) (xs : List A) (x : A) (y : B) → Contains xs x → Contains (f x) y → Contains (flat_map f xs) y
contains-flat {A = A} {B = B} f xs x y there m =
    All-contains (λ (z : A). (v : B) → Contains (f z) v → Contains (flat_map f xs) v) xs x
    (all-each (λ (z : A). (v : B) → Contains (f z) v → Contains (flat_map f xs) v) xs (each-flat f xs)) there y m

-- of these leaves and components, also of more of them
pub tree-as : (ls ms : Leaf → Type 0) (cs ds : Bytes → Type 0) (o : Object) → ((x : Leaf) → ls x → ms x) → ((c : Bytes) → cs c → ds c) → IsTreeMade ls cs o → IsTreeMade ms ds o
tree-as ls ms cs ds o f g w = (
  w.0,
  record {
    tree = w.1.tree;
    all_leaves = each-map (λ e. ls e.1) (λ e. ms e.1) w.0 (λ e h. f e.1 h) w.1.all_leaves;
    all_components = each-map (λ e. Each cs e.0) (λ e. Each ds e.0) w.0 (λ e h. each-map cs ds e.0 g h) w.1.all_components;
  },
  w.2,
)

module _ (k : Hand) (c : Snapshot) (there : Contains k.commits c) where
  pub leaf-in-hand : (x : Leaf) → IsLeafOf c.tree x → Contains (all_leaves k) x
  leaf-in-hand x m =
      Contains-append_right k.leaves (flat_map (λ (d : Snapshot). map (λ e. e.1) d.tree) k.commits) x (contains-flat (λ (d : Snapshot). map (λ e. e.1) d.tree) k.commits c x there m)

  pub component-in-hand : (x : Bytes) → IsComponentOf c.tree x → Contains (all_components k) x
  component-in-hand x m =
      Contains-append_right k.components (flat_map (λ (d : Snapshot). flat_map (λ e. e.0) d.tree) k.commits) x (contains-flat (λ (d : Snapshot). flat_map (λ e. e.0) d.tree) k.commits c x there m)

  -- a directory of a commit in hand
  pub directory-in-hand : IsTree c.tree → (o : Object) → IsDirectoryOf c.tree o → IsInHand k o
  directory-in-hand t o d =
      subst (IsInHand k) (sym d.1)
      (TreeMade (tree-as (IsLeafOf c.tree) (Contains (all_leaves k)) (IsComponentOf c.tree) (Contains (all_components k)) (tree_object (under c.tree d.0)) leaf-in-hand component-in-hand (below-made c.tree d.0 t)))

-- ---- the hand of a stream

-- a blob or a commit that was brought, or a directory of its tree
pub brought-in-hand : (k : Hand) (bs : List Bytes) (cs : List Snapshot) (o : Object) → ((b : Bytes) → Contains bs b → Contains k.blobs b) → ((c : Snapshot) → Contains cs c → Contains k.commits c)
    → Each (λ c. IsTree c.tree) cs → IsBrought bs cs o → IsInHand k o
brought-in-hand k bs cs o blobs commits trees w =
    ⊎_elim (λ b. BlobRead b.0 (blobs b.0 b.1) b.2)
    (λ c.
    let there : Contains k.commits c.0 = commits c.0 c.1 in
    ⊎_elim (λ e. CommitMade c.0 there e) (λ d. directory-in-hand k c.0 there (All-contains (λ (d : Snapshot). IsTree d.tree) cs c.0 (all-each (λ (d : Snapshot). IsTree d.tree) cs trees) c.1) o d) c.2) w

-- Where the trees of the commits that a stream makes are such, all that its commands bring is in hand.
pub stream-in-hand : (objects : List Object) (cs : List Snapshot) (base : Base) (ps : List Placed) (end : Option StreamFault) (components : List Bytes) (o : Object)
    → Each (λ c. IsTree c.tree) (ran_by (step base) end nothing_yet ps).state.commits → IsMadeBy base nothing_yet (ran_by (step base) end nothing_yet ps).tried o
    → IsInHand (hand_of objects cs base (ran_by (step base) end nothing_yet ps) components) o
stream-in-hand objects cs base ps end components o trees made =
    let x : Ran StreamFault = ran_by (step base) end nothing_yet ps in
    let k : Hand = hand_of objects cs base x components in
    brought-in-hand k (flat_map (λ p. blobs_read p.command) x.tried) x.state.commits o (λ b m. m) (λ c m. Contains-append_right cs x.state.commits c m) trees
    (run-brought base (step base) (λ r q p e. e) (λ r p f o e m. refused-brought base r p.at p.command f o e m) end ps nothing_yet o made)
