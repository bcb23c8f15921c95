-- Projections over commits of which some stand more than once.
use Rattle.std.proofs.Common.{◌≡◌, Bool, true, false, cond, ◌||◌, List, [], ◌∷◌, ◌++◌, reverse, Option, Some, refl, sym, ap, ap₂, subst, ◌∙◌, append_assoc, true≢false}
use Rattle.std.specs.List.{cons_option, filter_map, list_all}
use Rattle.std.proofs.lemmas.Bool.{and_from, and_parts}
use Rattle.std.proofs.lemmas.List.{reverse-append}
use Rattle.std.proofs.lemmas.Option.{same_Some}
use Rattle.std.specs.Cmp.Lexicographic.{bytes_decides}
use Rattle.git_objects.specs.Commits.{Letter}
use Rattle.git_objects.specs.Lists.{Each}
use Rattle.git_objects.specs.Paths.{Bytes}
use Rattle.git_objects.specs.Snapshots.{Graph, Snapshot, add, add_all, has, has_name, snapshot_name}
use Rattle.git_objects.specs.Trees.{Flat}
use Rattle.commit_map.specs.Shown.{Entries, Shown}
use Rattle.commit_map.specs.declared.rule.Rule.TheVariants.{One}
use Rattle.projection_laws.specs.Projections.{choice_of, chosen, distinct, known_at, leads, members, projected, projection, projections}
use Rattle.projection_laws.proofs.GraphLemmas.{has-newer, has-self}
use Rattle.projection_laws.proofs.ProjectionLemmas.{projection-newest}

-- ---- one commit, by the first rule

chosen-same : (a b : Shown → Bool) (t : Flat) (letter : Letter) (ms : List Shown) → chosen One a t letter ms ≡ chosen One b t letter ms
chosen-same a b t letter [] = refl
chosen-same a b t letter (m ∷ []) = refl
chosen-same a b t letter (m ∷ l ∷ ms) = refl

known-same : (ks ls : Entries) (ps : List Bytes) → Each (λ p. known_at ks p ≡ known_at ls p) ps → filter_map (known_at ks) ps ≡ filter_map (known_at ls) ps
known-same ks ls [] h = refl
known-same ks ls (p ∷ ps) h = λ i. cons_option (h.0 i) (known-same ks ls ps h.1 i)

-- the value that a filter gives of a commit, over commits from the newest to the oldest
abbrev value : (Flat → Flat) → Graph → Bytes → Option Shown
value shown g n = projection One shown g n

-- what becomes of a commit upon older ones
abbrev made : (Flat → Flat) → Snapshot → Graph → Option Shown
made shown c older = projected (choice_of One shown older (projections One shown [] older) c)

-- only its parents' projections matter
made-same : (shown : Flat → Flat) (c : Snapshot) (g d : Graph) → Each (λ p. value shown g p ≡ value shown d p) c.parents → made shown c g ≡ made shown c d
made-same shown c g d h =
    let ks : Entries = projections One shown [] g in
    let ls : Entries = projections One shown [] d in
    ap projected (chosen-same (leads g ks c.parents) (leads d ls c.parents) (shown c.tree) c.letter (members ks c.parents)
    ∙ ap (λ (ms : List Shown). chosen One (leads d ls c.parents) (shown c.tree) c.letter (distinct ms)) (known-same ks ls c.parents h))

-- ---- commits that may stand more than once

-- A commit of them: the one of its name, whose parents are there, and whose projection is what becomes of it upon all of them.
record IsOwn (shown : Flat → Flat) (at : Bytes → Option Snapshot) (g : Graph) (c : Snapshot) : Type 0 where
  one : at (snapshot_name c) ≡ Some c
  there : has g (snapshot_name c) ≡ true
  parents : list_all (has g) c.parents ≡ true
  own : value shown g (snapshot_name c) ≡ made shown c g

-- each of them, beside the same commits of which each stands once
record IsSame (shown : Flat → Flat) (at : Bytes → Option Snapshot) (g once : Graph) : Type 0 where
  owns : Each (IsOwn shown at g) g
  names : (n : Bytes) → has g n ≡ has once n
  values : (n : Bytes) → value shown g n ≡ value shown once n

-- of commits, each behind its parents
abbrev pub AreBehind : Graph → List Snapshot → Type 0
AreBehind g [] = Unit {0}
AreBehind g (c ∷ cs) = (list_all (has g) c.parents ≡ true) × AreBehind (c ∷ g) cs

record IsFound (shown : Flat → Flat) (at : Bytes → Option Snapshot) (g : Graph) (n : Bytes) : Type 0 where
  commit : Snapshot
  named : n ≡ snapshot_name commit
  is_own : IsOwn shown at g commit

each-there : (g : Graph) (ps : List Bytes) → list_all (has g) ps ≡ true → Each (λ p. has g p ≡ true) ps
each-there g [] e = tt
each-there g (p ∷ ps) e = let a = and_parts (has g p) (list_all (has g) ps) e in (a.0, each-there g ps a.1)

all-there : (g : Graph) (ps : List Bytes) → Each (λ p. has g p ≡ true) ps → list_all (has g) ps ≡ true
all-there g [] h = refl
all-there g (p ∷ ps) h = and_from (has g p) (list_all (has g) ps) h.0 (all-there g ps h.1)

each-as : {A : Type 0} (P Q : A → Type 0) (xs : List A) → ((x : A) → P x → Q x) → Each P xs → Each Q xs
each-as P Q [] f h = tt
each-as P Q (x ∷ xs) f h = (f x h.0, each-as P Q xs f h.1)

module _ (shown : Flat → Flat) (at : Bytes → Option Snapshot) where
  find-own : (g xs : Graph) (n : Bytes) → Each (IsOwn shown at g) xs → has xs n ≡ true → IsFound shown at g n
  find-own g [] n h e = absurd (true≢false (sym e))
  find-own g (x ∷ xs) n h e =
      elim (has_name n x) as (λ b. has_name n x ≡ b → (b || has xs n) ≡ true → IsFound shown at g n) [
        | true ↦ λ k f. record { commit = x; named = (bytes_decides n (snapshot_name x)).0 k; is_own = h.0 }
        | false ↦ λ k f. find-own g xs n h.1 f
      ] refl e

  module _ (c : Snapshot) (g : Graph) (one : at (snapshot_name c) ≡ Some c) (owns : Each (IsOwn shown at g) g) where
    -- where the commit is among the others, its projection is what becomes of it
    again : has g (snapshot_name c) ≡ true → made shown c g ≡ value shown g (snapshot_name c)
    again e =
        let f = find-own g g (snapshot_name c) owns e in
        let same : f.commit ≡ c = same_Some f.commit c (sym f.is_own.one ∙ ap at (sym f.named) ∙ one) in
        sym (ap (value shown g) f.named ∙ f.is_own.own ∙ ap (λ (x : Snapshot). made shown x g) same)

    -- so projections stay when it is put in front
    stays : (n : Bytes) → has g n ≡ true → value shown (c ∷ g) n ≡ value shown g n
    stays n e = projection-newest One shown c g n ∙ by (has_name n c) refl
      where
        by : (b : Bool) → has_name n c ≡ b → cond b (made shown c g) (value shown g n) ≡ value shown g n
        by true k =
            let named : n ≡ snapshot_name c = (bytes_decides n (snapshot_name c)).0 k in
            again (ap (has g) (sym named) ∙ e) ∙ ap (value shown g) (sym named)
        by false k = refl

    -- whatever is asked for, where it is among them already
    stays-all : has g (snapshot_name c) ≡ true → (n : Bytes) → value shown (c ∷ g) n ≡ value shown g n
    stays-all e n = projection-newest One shown c g n ∙ by (has_name n c) refl
      where
        by : (b : Bool) → has_name n c ≡ b → cond b (made shown c g) (value shown g n) ≡ value shown g n
        by true k = again e ∙ ap (value shown g) (sym ((bytes_decides n (snapshot_name c)).0 k))
        by false k = refl

    has-all : has g (snapshot_name c) ≡ true → (n : Bytes) → has (c ∷ g) n ≡ has g n
    has-all e n = by (has_name n c) refl
      where
        by : (b : Bool) → has_name n c ≡ b → (b || has g n) ≡ has g n
        by true k = sym (ap (has g) ((bytes_decides n (snapshot_name c)).0 k) ∙ e)
        by false k = refl

    made-stays : (x : Snapshot) → list_all (has g) x.parents ≡ true → made shown x g ≡ made shown x (c ∷ g)
    made-stays x e =
        made-same shown x g (c ∷ g) (each-as (λ p. has g p ≡ true) (λ p. value shown g p ≡ value shown (c ∷ g) p) x.parents (λ p k. sym (stays p k)) (each-there g x.parents e))

    parents-stay : (ps : List Bytes) → list_all (has g) ps ≡ true → list_all (has (c ∷ g)) ps ≡ true
    parents-stay ps e = all-there (c ∷ g) ps (each-as (λ p. has g p ≡ true) (λ p. has (c ∷ g) p ≡ true) ps (λ p k. has-newer c g p k) (each-there g ps e))

    own-stays : (x : Snapshot) → IsOwn shown at g x → IsOwn shown at (c ∷ g) x
    own-stays x w = record {
      one = w.one;
      there = has-newer c g (snapshot_name x) w.there;
      parents = parents-stay x.parents w.parents;
      own = stays (snapshot_name x) w.there ∙ w.own ∙ made-stays x w.parents;
    }

    module _ (parents : list_all (has g) c.parents ≡ true) where
      own-new : IsOwn shown at (c ∷ g) c
      own-new = record {
        one = one;
        there = has-self c g;
        parents = parents-stay c.parents parents;
        own =
            projection-newest One shown c g (snapshot_name c)
            ∙ ap (λ b. cond b (made shown c g) (value shown g (snapshot_name c))) ((bytes_decides (snapshot_name c) (snapshot_name c)).1 refl)
            ∙ made-stays c parents;
      }

      owns-next : Each (IsOwn shown at (c ∷ g)) (c ∷ g)
      owns-next = (own-new, each-as (IsOwn shown at g) (IsOwn shown at (c ∷ g)) g own-stays owns)

  -- ---- one commit more

  next : (c : Snapshot) (g once : Graph) → at (snapshot_name c) ≡ Some c → list_all (has g) c.parents ≡ true → IsSame shown at g once → IsSame shown at (c ∷ g) (add once c)
  next c g once one parents s = by (has once (snapshot_name c)) refl
    where
      by : (b : Bool) → has once (snapshot_name c) ≡ b → IsSame shown at (c ∷ g) (cond b once (c ∷ once))
      by true e =
          let there : has g (snapshot_name c) ≡ true = s.names (snapshot_name c) ∙ e in
          record {
            owns = owns-next c g one s.owns parents;
            names = λ n. has-all c g one s.owns there n ∙ s.names n;
            values = λ n. stays-all c g one s.owns there n ∙ s.values n;
          }
      by false e = record {
        owns = owns-next c g one s.owns parents;
        names = λ n. ap (λ b. has_name n c || b) (s.names n);
        values = λ n. projection-newest One shown c g n ∙ ap₂ (cond (has_name n c)) (made-same shown c g once (each-as (λ p. has g p ≡ true) (λ p. value shown g p ≡ value shown once p) c.parents (λ p k. s.values p) (each-there g c.parents parents))) (s.values n)
            ∙ sym (projection-newest One shown c once n);
      }

  all-same : (cs : List Snapshot) (g once : Graph) → Each (λ c. at (snapshot_name c) ≡ Some c) cs → AreBehind g cs → IsSame shown at g once → IsSame shown at (reverse cs ++ g) (add_all once cs)
  all-same [] g once o b s = s
  all-same (c ∷ cs) g once o b s =
      let from : reverse cs ++ (c ∷ g) ≡ reverse (c ∷ cs) ++ g = sym (append_assoc (reverse cs) (c ∷ []) g) ∙ ap (λ (t : Graph). t ++ g) (sym (reverse-append (c ∷ []) cs)) in
      subst (λ (t : Graph). IsSame shown at t (add_all once (c ∷ cs))) from (all-same cs (c ∷ g) (add once c) o.1 b.1 (next c g once o.0 b.0 s))

-- Commits behind their parents, those of one name being one commit, have one projection whether each of them stands once or as often as
-- it came.
pub repeated-same : (shown : Flat → Flat) (at : Bytes → Option Snapshot) (cs : List Snapshot) (n : Bytes) → Each (λ c. at (snapshot_name c) ≡ Some c) cs → AreBehind [] cs
    → projection One shown (reverse cs ++ []) n ≡ projection One shown (add_all [] cs) n
repeated-same shown at cs n o b = (all-same shown at cs [] [] o b (record { owns = tt; names = λ m. refl; values = λ m. refl })).values n
