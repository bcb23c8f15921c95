-- A map that is filled has the values of the recursion with its old entries kept.
use Rattle.std.proofs.Common.{◌≡◌, ℕ, ◌+◌, ◌≤◌, Bool, true, false, cond, ◌||◌, [], ◌∷◌, ◌++◌, Option, Some, None, is_some, unwrap_or, refl, sym, ap, subst, ◌∙◌, arith, true≢false, append-nil, append_assoc}
use Rattle.std.specs.Cmp.Lexicographic.{bytes_decides}
use Rattle.std.proofs.lemmas.Option.{none-some, same_Some}
use Rattle.git_objects.specs.Paths.{Bytes, same_bytes}
use Rattle.git_objects.specs.Lists.{Each}
use Rattle.git_objects.specs.Trees.{Flat}
use Rattle.git_objects.specs.Snapshots.{Snapshot, Graph, snapshot_name, has_name, has, is_graph, ancestors}
use Rattle.git_objects.proofs.Basics.{same_bytes-self}
use Rattle.commit_map.specs.Shown.{Shown, Entries, kept_at}
use Rattle.commit_map.specs.declared.rule.Rule.{Rule}
use Rattle.projection_laws.specs.Projections.{choice_of, known_at, projected, projection_by, projections}
use Rattle.projection_laws.specs.Filled.{IsFilled, weighing}
use Rattle.projection_laws.proofs.GraphLemmas.{IsGrown, grown, has-newer, has-self, other}
use Rattle.projection_laws.proofs.HistoryLemmas.{each-append}
use Rattle.projection_ground.specs.Choosing.{Agree}

-- ---- look-ups in a map and one behind it

pub kept-append : (n : Bytes) (xs ys : Entries) → kept_at n xs ≡ None → kept_at n (xs ++ ys) ≡ kept_at n ys
kept-append n [] ys h = refl
kept-append n (x ∷ xs) ys h = by (same_bytes n x.0) h (kept-append n xs ys)
  where
    by : (b : Bool) → cond b (Some x.1) (kept_at n xs) ≡ None → (kept_at n xs ≡ None → kept_at n (xs ++ ys) ≡ kept_at n ys) → cond b (Some x.1) (kept_at n (xs ++ ys)) ≡ kept_at n ys
    by true e k = absurd (none-some x.1 (sym e))
    by false e k = k e

pub kept-front : (n : Bytes) (xs ys : Entries) (o : Option Shown) → kept_at n xs ≡ Some o → kept_at n (xs ++ ys) ≡ Some o
kept-front n [] ys o h = absurd (none-some o h)
kept-front n (x ∷ xs) ys o h = by (same_bytes n x.0) h (kept-front n xs ys o)
  where
    by : (b : Bool) → cond b (Some x.1) (kept_at n xs) ≡ Some o → (kept_at n xs ≡ Some o → kept_at n (xs ++ ys) ≡ Some o) → cond b (Some x.1) (kept_at n (xs ++ ys)) ≡ Some o
    by true e k = e
    by false e k = k e

pub none-front : (n : Bytes) (xs ys : Entries) → kept_at n (xs ++ ys) ≡ None → kept_at n xs ≡ None
none-front n xs ys h = by (kept_at n xs) refl
  where
    by : (o : Option (Option Shown)) → kept_at n xs ≡ o → o ≡ None
    by None e = refl
    by (Some v) e = absurd (none-some v (sym h ∙ kept-front n xs ys v e))

-- an entry of a list of which something holds
pub kept-each : (P : Bytes → Option Shown → Type 0) (n : Bytes) (xs : Entries) (o : Option Shown) → Each (λ e. P e.0 e.1) xs → kept_at n xs ≡ Some o → P n o
kept-each P n [] o h e = absurd (none-some o e)
kept-each P n (x ∷ xs) o h e = by (same_bytes n x.0) refl e (kept-each P n xs o h.1)
  where
    by : (b : Bool) → same_bytes n x.0 ≡ b → cond b (Some x.1) (kept_at n xs) ≡ Some o → (kept_at n xs ≡ Some o → P n o) → P n o
    by true q f k = subst (λ v. P n v) (same_Some x.1 o f) (subst (λ m. P m x.1) (sym ((bytes_decides n x.0).0 q)) h.0)
    by false q f k = k f

pub kept-new : (n : Bytes) (v : Option Shown) → kept_at n ((n, v) ∷ []) ≡ Some v
kept-new n v = ap (λ b. cond b (Some v) None) (same_bytes-self n)

pub kept-other : (n m : Bytes) (v : Option Shown) (es : Entries) → kept_at n es ≡ None → (n ≡ m → ⊥) → kept_at n (es ++ (m, v) ∷ []) ≡ None
kept-other n m v es h apart = kept-append n es ((m, v) ∷ []) h ∙ by (same_bytes n m) refl
  where
    by : (b : Bool) → same_bytes n m ≡ b → cond b (Some v) None ≡ None
    by true e = absurd (apart ((bytes_decides n m).0 e))
    by false e = refl

-- ---- the recursion

module _ (k : Rule) (shown : Flat → Flat) (es : Entries) where
  -- newer commits leave what is known
  pub newer-known : (newer older : Graph) (n : Bytes) → is_graph (newer ++ older) ≡ true → has older n ≡ true → known_at (projections k shown es (newer ++ older)) n ≡ known_at (projections k shown es older) n
  newer-known [] older n s h = refl
  newer-known (c ∷ newer) older n s h =
      let w : IsGrown c (newer ++ older) = grown c (newer ++ older) s in
      ap (λ b. unwrap_or (cond b (Some (unwrap_or (kept_at (snapshot_name c) es) (projected (choice_of k shown (newer ++ older) (projections k shown es (newer ++ older)) c)))) (kept_at n (projections k shown es (newer ++ older)))) None)
      (other (newer ++ older) c n w.new (front newer))
      ∙ newer-known newer older n w.graph h
    where
      front : (xs : Graph) → has (xs ++ older) n ≡ true
      front [] = h
      front (x ∷ xs) = has-newer x (xs ++ older) n (front xs)

  -- a commit of the graph
  pub projection-at : (newer older : Graph) (c : Snapshot) → is_graph (newer ++ c ∷ older) ≡ true → kept_at (snapshot_name c) es ≡ None
      → projection_by k shown es (newer ++ c ∷ older) (snapshot_name c) ≡ projected (choice_of k shown older (projections k shown es older) c)
  projection-at newer older c s e =
      newer-known newer (c ∷ older) (snapshot_name c) s (has-self c older)
      ∙ ap (λ b. unwrap_or (cond b (Some (unwrap_or (kept_at (snapshot_name c) es) (projected (choice_of k shown older (projections k shown es older) c)))) (kept_at (snapshot_name c) (projections k shown es older))) None) (same_bytes-self (snapshot_name c))
      ∙ ap (λ o. unwrap_or o (projected (choice_of k shown older (projections k shown es older) c))) e

  -- what is kept wins
  pub entry-wins : (g : Graph) (n : Bytes) (v : Option Shown) → has g n ≡ true → kept_at n es ≡ Some v → projection_by k shown es g n ≡ v
  entry-wins [] n v h e = absurd (true≢false (sym h))
  entry-wins (c ∷ g) n v h e = by (has_name n c) refl h (λ q. entry-wins g n v q e)
    where
      made : Option Shown
      made = unwrap_or (kept_at (snapshot_name c) es) (projected (choice_of k shown g (projections k shown es g) c))

      by : (b : Bool) → has_name n c ≡ b → (b || has g n) ≡ true → (has g n ≡ true → projection_by k shown es g n ≡ v)
          → unwrap_or (cond (has_name n c) (Some (unwrap_or (kept_at (snapshot_name c) es) (projected (choice_of k shown g (projections k shown es g) c)))) (kept_at n (projections k shown es g))) None ≡ v
      by true q f r =
          ap (λ b. unwrap_or (cond b (Some (unwrap_or (kept_at (snapshot_name c) es) (projected (choice_of k shown g (projections k shown es g) c)))) (kept_at n (projections k shown es g))) None) q
          ∙ ap (λ m. unwrap_or (kept_at m es) (projected (choice_of k shown g (projections k shown es g) c))) (sym ((bytes_decides n (snapshot_name c)).0 q))
          ∙ ap (λ o. unwrap_or o (projected (choice_of k shown g (projections k shown es g) c))) e
      by false q f r =
          ap (λ b. unwrap_or (cond b (Some (unwrap_or (kept_at (snapshot_name c) es) (projected (choice_of k shown g (projections k shown es g) c)))) (kept_at n (projections k shown es g))) None) q
          ∙ r f

  -- ---- a map that is filled

  module _ (g : Graph) (head : Bytes) (now : Entries) (f : IsFilled k shown g head es now) where
    pub filled-value : (n : Bytes) (o : Option Shown) → has g n ≡ true → kept_at n now ≡ Some o → o ≡ projection_by k shown es g n
    filled-value n o h e = by (kept_at n es) refl
      where
        at : kept_at n (es ++ f.added) ≡ Some o
        at = ap (kept_at n) f.behind ∙ e

        by : (x : Option (Option Shown)) → kept_at n es ≡ x → o ≡ projection_by k shown es g n
        by None q = kept-each (λ m v. v ≡ projection_by k shown es g m) n f.added o f.values (sym (kept-append n es f.added q) ∙ at)
        by (Some v) q = same_Some o v (sym at ∙ kept-front n es f.added v q) ∙ sym (entry-wins g n v h q)

    pub filled-agrees : (newer older : Graph) → g ≡ newer ++ older → is_graph g ≡ true → Agree now (projections k shown es older) older
    filled-agrees newer older e s n o h q =
        let inside : has g n ≡ true = ap (λ (x : Graph). has x n) e ∙ front newer in
        filled-value n o inside q
        ∙ ap (λ (x : Graph). known_at (projections k shown es x) n) e
        ∙ newer-known newer older n (ap is_graph (sym e) ∙ s) h
      where
        front : (xs : Graph) → has (xs ++ older) n ≡ true
        front [] = h
        front (x ∷ xs) = has-newer x (xs ++ older) n (front xs)

    -- one entry more
    pub filled-more : (n : Bytes) (v : Option Shown) → has (ancestors g head) n ≡ true → kept_at n now ≡ None → v ≡ projection_by k shown es g n → IsFilled k shown g head es (now ++ (n, v) ∷ [])
    filled-more n v h e q = record {
      added = f.added ++ (n, v) ∷ [];
      behind = sym (append_assoc es f.added ((n, v) ∷ [])) ∙ ap (λ (xs : Entries). xs ++ (n, v) ∷ []) f.behind;
      among = each-append (λ x. has (ancestors g head) x.0 ≡ true) f.added ((n, v) ∷ []) f.among (h, tt);
      lacked = each-append (λ x. kept_at x.0 es ≡ None) f.added ((n, v) ∷ []) f.lacked (none-front n es f.added (ap (kept_at n) f.behind ∙ e), tt);
      values = each-append (λ x. x.1 ≡ projection_by k shown es g x.0) f.added ((n, v) ∷ []) f.values (q, tt);
    }

  pub filled-none : (g : Graph) (head : Bytes) → IsFilled k shown g head es es
  filled-none g head = record { added = []; behind = append-nil es; among = tt; lacked = tt; values = tt }

-- ---- how many are lacking

weigh-one : (w : ℕ) (o p : Option (Option Shown)) → ((v : Option Shown) → o ≡ Some v → p ≡ Some v) → cond (is_some p) 0 w ≤ cond (is_some o) 0 w
weigh-one w None None h = omega arith
weigh-one w None (Some v) h = omega arith
weigh-one w (Some v) p h = subst (λ (x : Option (Option Shown)). cond (is_some x) 0 w ≤ 0) (sym (h v refl)) (omega arith)

weigh-less : (w : ℕ) (es : Entries) (n : Bytes) (v : Option Shown) (cs : Graph) → weighing w (es ++ (n, v) ∷ []) cs ≤ weighing w es cs
weigh-less w es n v [] = omega arith
weigh-less w es n v (c ∷ cs) =
    let one = weigh-one w (kept_at (snapshot_name c) es) (kept_at (snapshot_name c) (es ++ (n, v) ∷ [])) (λ x e. kept-front (snapshot_name c) es ((n, v) ∷ []) x e) in
    let rest = weigh-less w es n v cs in
    omega (arith, one, rest)

-- a commit that was lacking isn't any more
pub weigh-set : (w : ℕ) (es : Entries) (n : Bytes) (v : Option Shown) (cs : Graph) → has cs n ≡ true → kept_at n es ≡ None → weighing w (es ++ (n, v) ∷ []) cs + w ≤ weighing w es cs
weigh-set w es n v [] h e = absurd (true≢false (sym h))
weigh-set w es n v (c ∷ cs) h e = by (has_name n c) refl h (λ q. weigh-set w es n v cs q e)
  where
    by : (b : Bool) → has_name n c ≡ b → (b || has cs n) ≡ true → (has cs n ≡ true → weighing w (es ++ (n, v) ∷ []) cs + w ≤ weighing w es cs)
        → cond (is_some (kept_at (snapshot_name c) (es ++ (n, v) ∷ []))) 0 w + weighing w (es ++ (n, v) ∷ []) cs + w ≤ cond (is_some (kept_at (snapshot_name c) es)) 0 w + weighing w es cs
    by true q f k =
        let same : n ≡ snapshot_name c = (bytes_decides n (snapshot_name c)).0 q in
        let was : cond (is_some (kept_at (snapshot_name c) es)) 0 w ≡ w = ap (λ m. cond (is_some (kept_at m es)) 0 w) (sym same) ∙ ap (λ o. cond (is_some o) 0 w) e in
        let now : cond (is_some (kept_at (snapshot_name c) (es ++ (n, v) ∷ []))) 0 w ≡ 0 =
        ap (λ m. cond (is_some (kept_at m (es ++ (n, v) ∷ []))) 0 w) (sym same) ∙ ap (λ o. cond (is_some o) 0 w) (kept-append n es ((n, v) ∷ []) e ∙ kept-new n v) in
        let rest = weigh-less w es n v cs in
        omega (arith, was, now, rest)
    by false q f k =
        let one = weigh-one w (kept_at (snapshot_name c) es) (kept_at (snapshot_name c) (es ++ (n, v) ∷ [])) (λ x e. kept-front (snapshot_name c) es ((n, v) ∷ []) x e) in
        let rest = k f in
        omega (arith, one, rest)
