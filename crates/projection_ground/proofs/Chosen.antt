-- What is chosen, by how many projections the parents have.
use Rattle.std.proofs.Common.{◌≡◌, ◌<◌, ◌≤◌, ℕ, Bool, true, false, cond, not, true≢false, ◌&&◌, List, [], ◌∷◌, map, get_or, length, IfOk, Result, refl, sym, ap, subst, ◌∙◌, arith}
use Rattle.std.specs.List.{find}
use Rattle.std.proofs.lemmas.Result.{IfOk-weaker}
use Rattle.git_objects.specs.Paths.{Bytes, same_bytes}
use Rattle.git_objects.specs.Trees.{Flat}
use Rattle.git_objects.specs.Names.{tree_name}
use Rattle.git_objects.specs.Commits.{Letter}
use Rattle.git_objects.specs.Snapshots.{Snapshot}
use Rattle.commit_map.specs.Shown.{Entries, shown_value}
use Rattle.commit_map.specs.Shown as shown
use Rattle.commit_map.specs.declared.commit_map.Shown.{Shown}
use Rattle.commit_map.specs.declared.rule.Rule.{Rule}
use Rattle.commit_map.specs.declared.rule.Rule.TheVariants.{Two}
use Rattle.projection_laws.specs.Projections as projections
use Rattle.projection_laws.specs.Projections.{chosen, has_tree, member_or, own}
use Rattle.projection_ground.specs.Choosing.{Agree, commits_before, IsChoice, IsTest}
use Rattle.projection_ground.specs.declared.choosing.Choice.{Choice}
use Rattle.projection_ground.specs.declared.choosing.Choice.TheVariants.{Below, Nothing, Member, New}
use Rattle.projection_ground.specs.declared.choosing.Test.{Test}
use Rattle.projection_ground.specs.declared.choosing.Test.TheVariants.{Is, Lacks}
use Rattle.projection_ground.specs.declared.ground.Ground.{Ground}

-- what a test tells
pub told : (g : Ground) (place : ℕ) (ps : List ℕ) (value : Entries → Bool) (t : Test) (b : Bool) → IsTest g place ps value t → t ≡ Is b → (ks : Entries) → Agree g.map ks (commits_before g place) → b ≡ value ks
told g place ps value t b h e = subst (IsTest g place ps value) e h

-- a test that tells the same
pub test-as : (g : Ground) (place : ℕ) (ps : List ℕ) (v w : Entries → Bool) → ((ks : Entries) → w ks ≡ v ks) → (t : Test) → IsTest g place ps v t → IsTest g place ps w t
test-as g place ps v w e (Is b) h = λ ks a. h ks a ∙ sym (e ks)
test-as g place ps v w e (Lacks q) h = h

pub and-same : (s : Bool) → false ≡ not s → (x : Bool) → (s && x) ≡ x
and-same true e x = refl
and-same false e x = absurd (true≢false (sym e))

one-is : (ms : List Shown) (d : Shown) → 1 ≤ length ms → length ms < 2 → ms ≡ get_or ms 0 d ∷ []
one-is [] d l u = absurd (omega (arith, l))
one-is (m ∷ []) d l u = refl
one-is (m ∷ n ∷ ms) d l u = absurd (omega (arith, u))

module _ (k : Rule) (leading : shown.Shown → Bool) (t : Flat) (letter : Letter) (ms : List Shown) (d : Shown) (few : length ms < 2) (some : 1 ≤ length ms) where
  abbrev m : Shown
  m = get_or ms 0 d

  pub chosen-same : same_bytes m.tree.0 (tree_name t) ≡ true → chosen k leading t letter (map shown_value ms) ≡ projections.Member (shown_value m)
  chosen-same e =
      ap (λ (xs : List Shown). chosen k leading t letter (map shown_value xs)) (one-is ms d some few)
      ∙ ap (λ b. cond b (projections.Member (shown_value m)) (projections.New (own t letter (shown_value m ∷ [])))) e

  pub chosen-other : same_bytes m.tree.0 (tree_name t) ≡ false → chosen k leading t letter (map shown_value ms) ≡ projections.New (own t letter (map shown_value ms))
  chosen-other e =
      ap (λ (xs : List Shown). chosen k leading t letter (map shown_value xs)) (one-is ms d some few)
      ∙ ap (λ b. cond b (projections.Member (shown_value m)) (projections.New (own t letter (shown_value m ∷ [])))) e
      ∙ sym (ap (λ (xs : List Shown). projections.New (own t letter (map shown_value xs))) (one-is ms d some few))

chosen-two : (leading : shown.Shown → Bool) (t : Flat) (letter : Letter) (ms : List shown.Shown) → 2 ≤ length ms → chosen Two leading t letter ms ≡ member_or (find (λ x. has_tree t x && leading x) ms) (own t letter ms)
chosen-two leading t letter [] l = absurd (omega (arith, l))
chosen-two leading t letter (m ∷ []) l = absurd (omega (arith, l))
chosen-two leading t letter (m ∷ n ∷ ms) l = refl

choice-as : (g : Ground) (place : ℕ) (ps : List ℕ) (d : Snapshot) (v w : Entries → projections.Choice) → ((ks : Entries) → w ks ≡ v ks) → (c : Choice) → IsChoice g place ps d v c → IsChoice g place ps d w c
choice-as g place ps d v w e (Below q) h = h
choice-as g place ps d v w e Nothing h = λ ks a. e ks ∙ h ks a
choice-as g place ps d v w e (Member m) h = λ ks a. e ks ∙ h ks a
choice-as g place ps d v w e New h = λ ks a. e ks ∙ h ks a

map-length : (ms : List Shown) → 2 ≤ length ms → 2 ≤ length (map shown_value ms)
map-length [] l = absurd (omega (arith, l))
map-length (m ∷ []) l = absurd (omega (arith, l))
map-length (m ∷ n ∷ ms) l = omega arith

-- by the second rule
pub chosen-many : {E : Type 0} (g : Ground) (place : ℕ) (ps : List ℕ) (k : Rule) (leading : Entries → shown.Shown → Bool) (t : Flat) (tree : Bytes) (letter : Letter) (ms : List Shown) (r : Result Choice E) → k ≡ Two → 2 ≤ length ms → tree_name t ≡ tree
    → IfOk r (IsChoice g place ps (own t letter (map shown_value ms)) (λ ks. member_or (find (λ x. same_bytes x.tree tree && leading ks x) (map shown_value ms)) (own t letter (map shown_value ms))))
    → IfOk r (IsChoice g place ps (own t letter (map shown_value ms)) (λ ks. chosen k (leading ks) t letter (map shown_value ms)))
chosen-many g place ps k leading t tree letter ms r q l n h =
    IfOk-weaker r _ _ (choice-as g place ps (own t letter (map shown_value ms))
    (λ ks. member_or (find (λ x. same_bytes x.tree tree && leading ks x) (map shown_value ms)) (own t letter (map shown_value ms)))
    (λ ks. chosen k (leading ks) t letter (map shown_value ms))
    (λ ks. ap (λ j. chosen j (leading ks) t letter (map shown_value ms)) q ∙ chosen-two (leading ks) t letter (map shown_value ms) (map-length ms l)
    ∙ ap (λ (b : Bytes). member_or (find (λ x. same_bytes x.tree b && leading ks x) (map shown_value ms)) (own t letter (map shown_value ms))) n)) h
