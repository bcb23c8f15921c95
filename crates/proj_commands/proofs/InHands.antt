-- What a projection and a history make is in hand.
use Rattle.std.proofs.Common.{◌≡◌, inl, inr, ⊎_elim, zero, Bool, true, false, cond, List, [], ◌∷◌, ◌++◌, map, reverse, flat_map, Contains, refl, sym, subst, arith}
use Rattle.std.specs.Prelude.{◌⊎◌}
use Rattle.std.proofs.lemmas.List.{reverse-append}
use Rattle.std.proofs.lemmas.List.Elements.{Contains-append_cases, Contains-append_left, Contains-append_right, Contains-push, Contains-push_cases}
use Rattle.git_objects.specs.Paths.{Bytes}
use Rattle.git_objects.specs.Trees.{Leaf}
use Rattle.git_objects.specs.Snapshots.{Graph, Snapshot, add, add_all, has, snapshot_name}
use Rattle.object_store.specs.Growth.{IsClash, IsGrownBy}
use Rattle.object_store.specs.Hands.{IsLeafOf}
use Rattle.object_store.specs.Objects.{Object}
use Rattle.object_store.specs.StoredSnapshots.{snapshot_object}
use Rattle.filter_text.specs.Filters.{Filter}
use Rattle.filter_apply.specs.Hands.{IsNamedIn, parts_in}
use Rattle.filter_apply.proofs.Members.{in-flat_map}
use Rattle.filter_apply.proofs.Overs.{made_as}
use Rattle.workspace.specs.Workspaces.{resolve}
use Rattle.projection_ground.specs.Grounds.{IsShownOf}
use Rattle.state_items.specs.Hands.{IsTwice}
use Rattle.state_items.specs.Items.{Held}
use Rattle.state_items.specs.Repos.{repo}
use Rattle.state_items.proofs.Twices.{clash-twice}
use Rattle.proj_commands.specs.Hands.{CommitMade, Hand, IsInHand, IsInHands, TreeMade, all_components, all_leaves, components_for, still_hand}

contains-reverse : {A : Type 0} (xs : List A) (x : A) → Contains xs x → Contains (reverse xs) x
contains-reverse [] x m = m
contains-reverse {A = A} (y ∷ xs) x m =
    subst (λ (zs : List A). Contains zs x) (sym (reverse-append (y ∷ []) xs)) (by (λ k. contains-reverse xs x k) (Contains-append_cases (y ∷ []) xs x m))
  where
    by : (Contains xs x → Contains (reverse xs) x) → Contains (y ∷ []) x ⊎ Contains xs x → Contains (reverse xs ++ y ∷ []) x
    by later (inl a) = Contains-append_right (reverse xs) (y ∷ []) x a
    by later (inr b) = Contains-append_left (reverse xs) (y ∷ []) x (later b)

pub in-reverse : {A : Type 0} (xs : List A) (x : A) → Contains xs x → Contains (reverse xs) x
in-reverse xs x m = contains-reverse xs x m

-- ---- lists

pub none-in : {A : Type 0} (x : A) → Contains [] x → ⊥
none-in x h = let within = h.1 in omega arith

in-cons : {A : Type 0} (y : A) (xs : List A) (x : A) → Contains (y ∷ xs) x → (y ≡ x) ⊎ Contains xs x
in-cons y xs x h =
    ⊎_elim (λ e. ⊎_elim (λ q. absurd (none-in x q)) (λ q. inl q) (Contains-push_cases [] y x e)) (λ w. inr w) (Contains-append_cases (y ∷ []) xs x h)

pub here : {A : Type 0} (x : A) (xs : List A) → Contains (x ∷ xs) x
here x xs = Contains-append_left (x ∷ []) xs x (Contains-push [] x)

pub there : {A : Type 0} (x : A) (xs : List A) (y : A) → Contains xs y → Contains (x ∷ xs) y
there x xs y m = Contains-append_right (x ∷ []) xs y m

-- a graph to which these are added has these and its own
pub added-in : (cs : List Snapshot) (g : Graph) (c : Snapshot) → Contains (add_all g cs) c → Contains g c ⊎ Contains cs c
added-in [] g c m = inl m
added-in (d ∷ cs) g c m = by (has g (snapshot_name d)) (added-in cs (add g d) c m)
  where
    by : (b : Bool) → Contains (cond b g (d ∷ g)) c ⊎ Contains cs c → Contains g c ⊎ Contains (d ∷ cs) c
    by b (inr k) = inr (there d cs c k)
    by true (inl k) = inl k
    by false (inl k) = ⊎_elim (λ e. inr (subst (λ (x : Snapshot). Contains (d ∷ cs) x) e (here d cs))) (λ w. inl w) (in-cons d g c k)

-- ---- what a filter shows of the commits that are held, and commits that are made

module _ (f : Filter) (h : Held) (made : List Snapshot) where
  -- with these commits
  abbrev pub shown_hand : Hand
  shown_hand = still_hand h.objects ((repo h).commits ++ made) (components_for f (repo h).commits)

  leaves_of : Snapshot → List Leaf
  leaves_of c = map (λ e. e.1) c.tree

  leaf-in : (c : Snapshot) → Contains (repo h).commits c → (x : Leaf) → IsLeafOf c.tree x → Contains (all_leaves shown_hand) x
  unfolding leaves_of
  leaf-in c m x l = in-flat_map leaves_of ((repo h).commits ++ made) c x (Contains-append_left (repo h).commits made c m) l

  components_of : Snapshot → List Bytes
  components_of c = flat_map (λ e. e.0) c.tree

  parts_for : Snapshot → List Bytes
  parts_for c = parts_in (resolve f c.tree)

  component-in : (c : Snapshot) → Contains (repo h).commits c → (b : Bytes) → IsNamedIn (resolve f c.tree) c.tree b → Contains (all_components shown_hand) b
  unfolding components_of parts_for
  component-in c m b (inl own) =
      Contains-append_right (components_for f (repo h).commits) (flat_map components_of ((repo h).commits ++ made)) b
      (in-flat_map components_of ((repo h).commits ++ made) c b (Contains-append_left (repo h).commits made c m) own)
  component-in c m b (inr part) =
      Contains-append_left (components_for f (repo h).commits) (flat_map components_of ((repo h).commits ++ made)) b
      (Contains-append_right (parts_in f) (flat_map parts_for (repo h).commits) b (in-flat_map parts_for (repo h).commits c b m part))

  pub shown-in : (o : Object) → IsShownOf f (repo h).commits o → IsInHand shown_hand o
  shown-in o w =
      TreeMade
      (made_as (IsLeafOf w.0.tree) (Contains (all_leaves shown_hand)) (IsNamedIn (resolve f w.0.tree) w.0.tree) (Contains (all_components shown_hand)) (leaf-in w.0 w.1) (component-in w.0 w.1) o w.2)

  pub made-in : (c : Snapshot) → Contains made c → (o : Object) → snapshot_object c ≡ o → IsInHand shown_hand o
  made-in c m o e = CommitMade c (Contains-append_right (repo h).commits made c m) (sym e)

-- ---- hands

pub in-hands : (k : Hand) (o : Object) → IsInHand k o → IsInHands (k ∷ []) o
in-hands k o w = (zero, k, omega arith, refl, w)

-- two of one name, said of more
pub twice-as : (P Q : Object → Type 0) → ((o : Object) → P o → Q o) → (n : Bytes) → IsTwice P n → IsTwice Q n
twice-as P Q f n t = record {
  first = t.first;
  second = t.second;
  first_there = f t.first t.first_there;
  second_there = f t.second t.second_there;
  apart = t.apart;
  first_named = t.first_named;
  second_named = t.second_named;
}

-- a clash in a store that has grown is of two objects at hand
pub twice-at : (some more : Object → Type 0) (S T : List Object) (n : Bytes) → ((o : Object) → some o → more o) → IsGrownBy some S T → IsClash some T n → IsTwice (λ o. Contains S o ⊎ more o) n
twice-at some more S T n f g c =
    twice-as (λ o. Contains S o ⊎ some o) (λ o. Contains S o ⊎ more o) more-of n (clash-twice some S T n g c)
  where
    more-of : (o : Object) → Contains S o ⊎ some o → Contains S o ⊎ more o
    more-of o (inl m) = inl m
    more-of o (inr w) = inr (f o w)
