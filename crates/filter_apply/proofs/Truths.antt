-- Memos that stay true.
use Rattle.std.proofs.Common.{◌≡◌, ℕ, zero, suc, ◌+◌, ◌-◌, ◌<◌, ◌⊎◌, inl, inr, Bool, true, false, List, [], ◌∷◌, length, take, slice_get, Contains, Option, Some, None, is_some, refl, sym, ap, subst, ◌∙◌, cond, arith}
use Rattle.std.proofs.lemmas.Bool.Decides.{eqb_tells}
use Rattle.std.proofs.lemmas.Option.{none-some, same_Some, slice_get_within}
use Rattle.git_objects.specs.Paths.{Bytes}
use Rattle.git_objects.specs.declared.kind.Kind.TheVariants.{Tree}
use Rattle.object_store.specs.Objects.{Object, has}
use Rattle.object_store.specs.Unfolding.{flat, StandsFor}
use Rattle.object_store.specs.Growth.{IsGrownBy}
use Rattle.object_store.proofs.Growth.{has-grown, flat-grown, stands-grown}
use Rattle.path_trees.specs.Clashes.{together}
use Rattle.filter_text.specs.Filters.{Filter, nop, sub, onto, dir, file, exclude, join, chain, workspace}
use Rattle.filter_text.specs.Shapes.{shape}
use Rattle.filter_routes.specs.Lenses.{seen_through}
use Rattle.filter_routes.specs.Origins.{lens_of}
use Rattle.filter_routes.specs.TableValues.{Table}
use Rattle.filter_cache.specs.Memos.{Key, JoinKey, Memo, same_key, same_join, found, without, used, used_for, entered}
use Rattle.filter_cache.proofs.Lookups.{key-is, join-is}
use Rattle.filter_apply.specs.Parts.{routed}
use Rattle.filter_apply.specs.Truth.{IsPaid, IsShownAs, IsRoutedAs, IsJoinedAs, AreJoins, IsTrueFor, KeepsOthers, AreTrueFor}
use Rattle.filter_apply.proofs.Members.{here_or_later, first_in, later_in, none_in}

-- ---- a store that has grown

module _ {made : Object → Type 0} (S S' : List Object) (g : IsGrownBy made S S') where
  -- what is made of trees that were there
  pub shown-now : (table : Table) (tree shown : Bytes) → has Tree S tree ≡ true → StandsFor S' shown (seen_through (lens_of (shape table.filter)) (flat S tree)) → IsShownAs S' table tree shown
  shown-now table tree shown h s = record {
    held = has-grown S S' Tree tree g h;
    seen = record { held = s.held; map = s.map ∙ ap (seen_through (lens_of (shape table.filter))) (sym (flat-grown S S' tree g h)) };
  }

  pub routed-now : (table : Table) (i : ℕ) (tree shown : Bytes) → has Tree S tree ≡ true → StandsFor S' shown (routed table.routes i (flat S tree)) → IsRoutedAs S' table i tree shown
  routed-now table i tree shown h s = record {
    held = has-grown S S' Tree tree g h;
    seen = record { held = s.held; map = s.map ∙ ap (routed table.routes i) (sym (flat-grown S S' tree g h)) };
  }

  pub joined-now : (first second name : Bytes) → has Tree S first ≡ true → has Tree S second ≡ true → StandsFor S' name (together (flat S first) (flat S second)) → IsJoinedAs S' first second name
  joined-now first second name h k s = record {
    first_held = has-grown S S' Tree first g h;
    second_held = has-grown S S' Tree second g k;
    seen = record { held = s.held; map = s.map ∙ (λ i. together (sym (flat-grown S S' first g h) i) (sym (flat-grown S S' second g k) i)) };
  }

  -- what was there
  shown-grown : (table : Table) (tree shown : Bytes) → IsShownAs S table tree shown → IsShownAs S' table tree shown
  shown-grown table tree shown h = shown-now table tree shown h.held (stands-grown S S' shown _ g h.seen)

  routed-grown : (table : Table) (i : ℕ) (tree shown : Bytes) → IsRoutedAs S table i tree shown → IsRoutedAs S' table i tree shown
  routed-grown table i tree shown h = routed-now table i tree shown h.held (stands-grown S S' shown _ g h.seen)

  joined-grown : (first second name : Bytes) → IsJoinedAs S first second name → IsJoinedAs S' first second name
  joined-grown first second name h = joined-now first second name h.first_held h.second_held (stands-grown S S' name _ g h.seen)

-- ---- what a memo has after a call

module _ {K : Type 0} (same : K → K → Bool) (same-is : (j k : K) → same j k ≡ true → j ≡ k) where
  of-without : (k : K) (es : List (K × Bytes)) (e : K × Bytes) → Contains (without same k es) e → Contains es e
  of-without k [] e h = h
  of-without k (d ∷ es) e h = by (same k d.0) (λ g. of-without k es e g) h
    where
      by : (b : Bool) → (Contains (without same k es) e → Contains es e) → Contains (cond b es (d ∷ without same k es)) e → Contains (d ∷ es) e
      by true rec g = later_in d es e g
      by false rec g = elim (here_or_later d (without same k es) e g) [
        | inl is ↦ subst (Contains (d ∷ es)) is (first_in d es)
        | inr later ↦ later_in d es e (rec later)
      ]

  pub in-found : (k : K) (es : List (K × Bytes)) (n : Bytes) → found same k es ≡ Some n → Contains es (k, n)
  in-found k [] n e = absurd (none-some n e)
  in-found k (d ∷ es) n e = by (same k d.0) refl (λ g. in-found k es n g) e
    where
      by : (b : Bool) → same k d.0 ≡ b → (found same k es ≡ Some n → Contains es (k, n)) → cond b (Some d.1) (found same k es) ≡ Some n → Contains (d ∷ es) (k, n)
      by true h rec g =
          let key = same-is k d.0 h in
          let name = same_Some d.1 n g in
          let is : d ≡ (k, n) = λ i. (sym key i, name i) in
          subst (λ (x : K × Bytes). Contains (d ∷ es) x) is (first_in d es)
      by false h rec g = later_in d es (k, n) (rec g)

  of-used : (k : K) (es : List (K × Bytes)) (e : K × Bytes) → Contains (used same k es) e → Contains es e
  of-used k es e h = by (found same k es) refl h
    where
      by : (o : Option Bytes) → found same k es ≡ o → Contains (used_for same k o es) e → Contains es e
      by None g c = c
      by (Some n) g c = elim (here_or_later (k, n) (without same k es) e c) [
        | inl is ↦ subst (Contains es) is (in-found k es n g)
        | inr later ↦ of-without k es e later
      ]

  of-take : (n : ℕ) (es : List (K × Bytes)) (e : K × Bytes) → Contains (take n es) e → Contains es e
  of-take zero es e h = absurd (none_in e h)
  of-take (suc n) [] e h = h
  of-take (suc n) (d ∷ es) e h = elim (here_or_later d (take n es) e h) [
    | inl is ↦ subst (Contains (d ∷ es)) is (first_in d es)
    | inr later ↦ later_in d es e (of-take n es e later)
  ]

  of-entered : (capacity : ℕ) (k : K) (n : Bytes) (es : List (K × Bytes)) (e : K × Bytes) → Contains (entered same capacity k n es) e → (e ≡ (k, n)) ⊎ Contains es e
  of-entered capacity k n es e h = elim (here_or_later (k, n) (cond (is_some (found same k es)) (without same k es) (take (capacity - 1) es)) e h) [
    | inl is ↦ inl (sym is)
    | inr later ↦ inr (by (is_some (found same k es)) later)
  ]
    where
      by : (b : Bool) → Contains (cond b (without same k es) (take (capacity - 1) es)) e → Contains es e
      by true g = of-without k es e g
      by false g = of-take (capacity - 1) es e g

-- the second memo has nothing that the first hasn't
pub record HasNoMore (m m' : Memo) : Type 0 where
  pub entries : (e : Key × Bytes) → Contains m'.entries e → Contains m.entries e
  pub joins : (e : JoinKey × Bytes) → Contains m'.joins e → Contains m.joins e

-- it has at most this entry more
pub record HasAlso (m m' : Memo) (new : Key × Bytes) : Type 0 where
  pub entries : (e : Key × Bytes) → Contains m'.entries e → (e ≡ new) ⊎ Contains m.entries e
  pub joins : (e : JoinKey × Bytes) → Contains m'.joins e → Contains m.joins e

-- it has at most this join more
pub record HasJoinAlso (m m' : Memo) (new : JoinKey × Bytes) : Type 0 where
  pub entries : (e : Key × Bytes) → Contains m'.entries e → Contains m.entries e
  pub joins : (e : JoinKey × Bytes) → Contains m'.joins e → (e ≡ new) ⊎ Contains m.joins e

pub after_get : (m m' : Memo) (k : Key) → m' ≡ record m { entries = used same_key k m.entries } → HasNoMore m m'
after_get m m' k is = subst (HasNoMore m) (sym is) (record { entries = of-used same_key key-is k m.entries; joins = λ e h. h })

pub after_joined : (m m' : Memo) (k : JoinKey) → m' ≡ record m { joins = used same_join k m.joins } → HasNoMore m m'
after_joined m m' k is = subst (HasNoMore m) (sym is) (record { entries = λ e h. h; joins = of-used same_join join-is k m.joins })

pub after_put : (m m' : Memo) (k : Key) (n : Bytes) → (m' ≡ record m { entries = entered same_key m.capacity k n m.entries }) ⊎ (m' ≡ m) → HasAlso m m' (k, n)
after_put m m' k n (inl put) = subst (λ (x : Memo). HasAlso m x (k, n)) (sym put) (record { entries = of-entered same_key key-is m.capacity k n m.entries; joins = λ e h. h })
after_put m m' k n (inr as_before) = subst (λ (x : Memo). HasAlso m x (k, n)) (sym as_before) (record { entries = λ e h. inr h; joins = λ e h. h })

pub after_put_joined : (m m' : Memo) (k : JoinKey) (n : Bytes) → (m' ≡ record m { joins = entered same_join m.capacity k n m.joins }) ⊎ (m' ≡ m) → HasJoinAlso m m' (k, n)
after_put_joined m m' k n (inl put) = subst (λ (x : Memo). HasJoinAlso m x (k, n)) (sym put) (record { entries = λ e h. h; joins = of-entered same_join join-is m.capacity k n m.joins })
after_put_joined m m' k n (inr as_before) = subst (λ (x : Memo). HasJoinAlso m x (k, n)) (sym as_before) (record { entries = λ e h. h; joins = λ e h. inr h })

-- ---- joins

pub joins_less : (S : List Object) (m m' : Memo) → HasNoMore m m' → AreJoins S m → AreJoins S m'
joins_less S m m' h t a b n holds = t a b n (h.joins ((a, b), n) holds)

pub joins_grown : {made : Object → Type 0} (S S' : List Object) (m : Memo) → IsGrownBy made S S' → AreJoins S m → AreJoins S' m
joins_grown S S' m g t a b n holds = joined-grown S S' g a b n (t a b n holds)

pub joins_more : (S : List Object) (first second name : Bytes) (m m' : Memo) → HasJoinAlso m m' ((first, second), name) → IsJoinedAs S first second name → AreJoins S m → AreJoins S m'
joins_more S first second name m m' h is t a b n holds = elim (h.joins ((a, b), n) holds) [
  | inl same ↦ subst (λ (e : JoinKey × Bytes). IsJoinedAs S e.0.0 e.0.1 e.1) (sym same) is
  | inr old ↦ t a b n old
]

-- ---- of one table

module _ (table : Table) (id : ℕ) where
  pub true_less : (S : List Object) (m m' : Memo) → HasNoMore m m' → IsTrueFor S table id m → IsTrueFor S table id m'
  true_less S m m' h t = record {
    whole = λ tree shown holds. t.whole tree shown (h.entries (((id, 0), tree), shown) holds);
    routes = λ i tree shown holds. t.routes i tree shown (h.entries (((id, i + 1), tree), shown) holds);
    joins = joins_less S m m' h t.joins;
  }

  pub true_grown : {made : Object → Type 0} (S S' : List Object) (m : Memo) → IsGrownBy made S S' → IsTrueFor S table id m → IsTrueFor S' table id m
  true_grown S S' m g t = record {
    whole = λ tree shown holds. shown-grown S S' g table tree shown (t.whole tree shown holds);
    routes = λ i tree shown holds. routed-grown S S' g table i tree shown (t.routes i tree shown holds);
    joins = joins_grown S S' m g t.joins;
  }

  -- with what the table shows of a tree
  pub true_more : (S : List Object) (tree shown : Bytes) (m m' : Memo) → HasAlso m m' (((id, 0), tree), shown) → IsShownAs S table tree shown → IsTrueFor S table id m → IsTrueFor S table id m'
  true_more S tree shown m m' h is t = record {
    whole = λ u n holds. elim (h.entries (((id, 0), u), n) holds) [
      | inl same ↦ subst (λ (e : Key × Bytes). IsShownAs S table e.0.1 e.1) (sym same) is
      | inr old ↦ t.whole u n old
    ];
    routes = λ i u n holds. elim (h.entries (((id, i + 1), u), n) holds) [
      | inl same ↦ let part : i + 1 ≡ 0 = ap (λ (e : Key × Bytes). e.0.0.1) same in absurd (omega arith)
      | inr old ↦ t.routes i u n old
    ];
    joins = λ a b n holds. t.joins a b n (h.joins ((a, b), n) holds);
  }

  -- with what one of its entries shows of a tree
  pub true_routed : (S : List Object) (i : ℕ) (tree shown : Bytes) (m m' : Memo) → HasAlso m m' (((id, i + 1), tree), shown) → IsRoutedAs S table i tree shown → IsTrueFor S table id m → IsTrueFor S table id m'
  true_routed S i tree shown m m' h is t = record {
    whole = λ u n holds. elim (h.entries (((id, 0), u), n) holds) [
      | inl same ↦ let part : 0 ≡ i + 1 = ap (λ (e : Key × Bytes). e.0.0.1) same in absurd (omega arith)
      | inr old ↦ t.whole u n old
    ];
    routes = λ j u n holds. elim (h.entries (((id, j + 1), u), n) holds) [
      | inl same ↦
          let part : j + 1 ≡ i + 1 = ap (λ (e : Key × Bytes). e.0.0.1) same in
          let place : i ≡ j = omega arith in
          subst (λ (e : Key × Bytes). IsRoutedAs S table j e.0.1 e.1) (sym same) (subst (λ (k : ℕ). IsRoutedAs S table k tree shown) place is)
      | inr old ↦ t.routes j u n old
    ];
    joins = λ a b n holds. t.joins a b n (h.joins ((a, b), n) holds);
  }

  -- with other joins
  pub true_joined : (S : List Object) (m m' : Memo) → m'.entries ≡ m.entries → AreJoins S m' → IsTrueFor S table id m → IsTrueFor S table id m'
  true_joined S m m' same joins t = record {
    whole = λ tree shown holds. t.whole tree shown (subst (λ (es : List (Key × Bytes)). Contains es (((id, 0), tree), shown)) same holds);
    routes = λ i tree shown holds. t.routes i tree shown (subst (λ (es : List (Key × Bytes)). Contains es (((id, i + 1), tree), shown)) same holds);
    joins = joins;
  }

-- ---- of other tables

pub keeps_less : (id : ℕ) (m m' : Memo) → HasNoMore m m' → KeepsOthers id m m'
keeps_less id m m' h n part tree shown holds differs = h.entries (((n, part), tree), shown) holds

pub keeps_more : (id part : ℕ) (tree shown : Bytes) (m m' : Memo) → HasAlso m m' (((id, part), tree), shown) → KeepsOthers id m m'
keeps_more id part tree shown m m' h n p u s holds differs = elim (h.entries (((n, p), u), s) holds) [
  | inl same ↦ absurd (differs (ap (λ (e : Key × Bytes). e.0.0.0) same))
  | inr old ↦ old
]

pub keeps_same : (id : ℕ) (m m' : Memo) → m'.entries ≡ m.entries → KeepsOthers id m m'
keeps_same id m m' same n part tree shown holds differs = subst (λ (es : List (Key × Bytes)). Contains es (((n, part), tree), shown)) same holds

pub keeps_then : (id : ℕ) (m1 m2 m3 : Memo) → KeepsOthers id m1 m2 → KeepsOthers id m2 m3 → KeepsOthers id m1 m3
keeps_then id m1 m2 m3 a b n part tree shown holds differs = a n part tree shown (b n part tree shown holds differs) differs

-- ---- of all tables

none_joined : (S : List Object) (m : Memo) → m.joins ≡ [] → AreJoins S m
none_joined S m none a b n holds = absurd (none_in ((a, b), n) (subst (λ (es : List (JoinKey × Bytes)). Contains es ((a, b), n)) none holds))

no_entry_in : (m : Memo) → m.entries ≡ [] → (e : Key × Bytes) → Contains m.entries e → ⊥
no_entry_in m none e h = none_in e (subst (λ (es : List (Key × Bytes)). Contains es e) none h)

-- a memo that has nothing
pub none_true : (S : List Object) (table : Table) (id : ℕ) (m : Memo) → m.entries ≡ [] → m.joins ≡ [] → IsTrueFor S table id m
none_true S table id m entries joins = record {
  whole = λ tree shown holds. absurd (no_entry_in m entries (((id, 0), tree), shown) holds);
  routes = λ i tree shown holds. absurd (no_entry_in m entries (((id, i + 1), tree), shown) holds);
  joins = none_joined S m joins;
}

pub all_none_true : (S : List Object) (tables : List Table) (m : Memo) → m.entries ≡ [] → m.joins ≡ [] → AreTrueFor S tables m
all_none_true S tables m entries joins = record {
  each = λ id table get. none_true S table id m entries joins;
  within = λ n part tree shown holds. absurd (no_entry_in m entries (((n, part), tree), shown) holds);
  joins = none_joined S m joins;
}

pub are_grown : {made : Object → Type 0} (S S' : List Object) (tables : List Table) (m : Memo) → IsGrownBy made S S' → AreTrueFor S tables m → AreTrueFor S' tables m
are_grown S S' tables m g t = record {
  each = λ id table get. true_grown table id S S' m g (t.each id table get);
  within = t.within;
  joins = joins_grown S S' m g t.joins;
}

same_or_other : (m n : ℕ) → (m ≡ n) ⊎ (m ≡ n → ⊥)
same_or_other m n = elim (eqb_tells m n) [ inl h ↦ inl h.1 | inr h ↦ inr h.1 ]

-- one table shows something upon a store that grows
pub stay_true : {made : Object → Type 0} (S S' : List Object) (tables : List Table) (id : ℕ) (table : Table) (m m' : Memo) → IsGrownBy made S S' → slice_get tables id ≡ Some table → AreTrueFor S tables m → IsTrueFor S' table id m' → KeepsOthers id m m' → AreTrueFor S' tables m'
stay_true S S' tables id table m m' g get old now keeps = record {
  each = λ n other got. elim (same_or_other n id) [
    | inl same ↦
        let is : other ≡ table = same_Some other table (sym got ∙ ap (slice_get tables) same ∙ get) in
        subst (λ (w : ℕ × Table). IsTrueFor S' w.1 w.0 m') (λ i. (sym same i, sym is i)) now
    | inr differs ↦
        let t = true_grown other n S S' m g (old.each n other got) in
        record {
          whole = λ tree shown holds. t.whole tree shown (keeps n 0 tree shown holds differs);
          routes = λ i tree shown holds. t.routes i tree shown (keeps n (i + 1) tree shown holds differs);
          joins = now.joins;
        }
  ];
  within = λ n part tree shown holds. elim (same_or_other n id) [
    | inl same ↦ subst (λ (k : ℕ). k < length tables) (sym same) (slice_get_within tables id table get)
    | inr differs ↦ old.within n part tree shown (keeps n part tree shown holds differs)
  ];
  joins = now.joins;
}

-- ---- steps

-- no step is within every bound
pub paid_same : (f : Filter) (n : ℕ) → IsPaid f n n
paid_same nop n = tt
paid_same (sub a) n = omega arith
paid_same (onto a) n = omega arith
paid_same (dir a) n = omega arith
paid_same (file a) n = tt
paid_same (exclude f) n = tt
paid_same (join fs) n = tt
paid_same (chain fs) n = tt
paid_same (workspace a) n = tt
