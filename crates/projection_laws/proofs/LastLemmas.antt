-- The last commit of a history is the projection of its head.
use Rattle.std.proofs.Common.{◌≡◌, Bool, true, false, cond, ◌&&◌, ◌||◌, ◌⊎◌, inl, inr, List, [], ◌∷◌, ◌++◌, map, reverse, find, All, Contains, Option, Some, None, refl, sym, ap, subst, ◌∙◌, true≢false}
use Rattle.std.specs.List.{cons_option, filter_map, last_or, list_all, list_any}
use Rattle.std.specs.Option.{option_map_or, option_to_list}
use Rattle.std.specs.Cmp.Lexicographic.{bytes_decides}
use Rattle.std.proofs.lemmas.Bool.{and_parts, or_left, or_right}
use Rattle.std.proofs.lemmas.List.Elements.{All-contains_itself, All-head, All-tail}
use Rattle.std.proofs.lemmas.Option.{none-some, same_Some}
use Rattle.git_objects.specs.Paths.{Bytes, is_nil, same_bytes}
use Rattle.git_objects.specs.Lists.{Each}
use Rattle.git_objects.specs.Trees.{Flat}
use Rattle.git_objects.specs.Commits.{Letter}
use Rattle.git_objects.specs.Snapshots.{Snapshot, Graph, snapshot_name, has_name, has, commit_at, is_graph, is_wanted, wanted_below, reached, ancestors, add, add_all}
use Rattle.git_objects.proofs.Basics.{same_bytes-back, same_bytes-self}
use Rattle.commit_map.specs.Shown.{Shown, Entries}
use Rattle.commit_map.specs.declared.rule.Rule.{Rule}
use Rattle.commit_map.specs.declared.rule.Rule.TheVariants.{One, Two}
use Rattle.projection_laws.specs.Projections.{shown_of, is_same, known_at, is_shown_as, members, is_reached, leads, Choice, Nothing, Member, New, own, member_or, has_tree, chosen, projected, own_commit, choice_of, projections, projection, history, own_commits}
use Rattle.projection_laws.specs.ProjectionLaws.{AreOfDistinctNames, HistoryLaw}
use Rattle.projection_laws.proofs.GraphLemmas.{IsGrown, add-has, grown, has-newer, has-self, other}
use Rattle.projection_laws.proofs.ProjectionLemmas.{projection-newer, projection-newest}
use Rattle.projection_laws.proofs.KeptLemmas.{itself}
use Rattle.projection_laws.proofs.HistoryLemmas.{any-behind, any-in-front, distinct-has, each-distinct, each-map, each-reverse, fold-append, listed, map-append, member-of, names, new-parents, reached-has, reached-in, reverse-more, seen-made, wanted-still}
use Rattle.projection_laws.proofs.Reached.{commit-any, has-each, reached-closed, wanted-cases}

-- ---- lists

each-front : {A : Type 0} (P : A → Type 0) (xs ys : List A) → Each P (xs ++ ys) → Each P xs
each-front P [] ys h = tt
each-front P (x ∷ xs) ys h = (h.0, each-front P xs ys h.1)

each-back : {A : Type 0} (P : A → Type 0) (xs ys : List A) → Each P (xs ++ ys) → Each P ys
each-back P [] ys h = h
each-back P (x ∷ xs) ys h = each-back P xs ys h.1

each-all : {A : Type 0} (P : A → Type 0) (xs : List A) → All P xs → Each P xs
each-all P [] h = tt
each-all P (x ∷ xs) h = (All-head P x xs h, each-all P xs (All-tail P x xs h))

last-pushed : {A : Type 0} (o : Option A) (xs : List A) (x : A) → last_or o (xs ++ x ∷ []) ≡ Some x
last-pushed o [] x = refl
last-pushed o (y ∷ xs) x = last-pushed (Some y) xs x

-- one that passes a test, where all pass another
any-all : {A : Type 0} (p q : A → Bool) (xs : List A) → list_any p xs ≡ true → list_all q xs ≡ true → (x : A) × (p x ≡ true) × (q x ≡ true)
any-all p q [] h k = absurd (true≢false (sym h))
any-all {A = A} p q (x ∷ xs) h k =
    let w = and_parts (q x) (list_all q xs) k in
    by w.0 (p x) refl h (λ r. any-all p q xs r w.1)
  where
    by : q x ≡ true → (b : Bool) → p x ≡ b → (b || list_any p xs) ≡ true → (list_any p xs ≡ true → (y : A) × (p y ≡ true) × (q y ≡ true)) → (y : A) × (p y ≡ true) × (q y ≡ true)
    by t true e r f = (x, e, t)
    by t false e r f = f r

some-of : {A : Type 0} (f : A → Bool) (o : Option A) → option_map_or f o false ≡ true → (x : A) × (o ≡ Some x) × (f x ≡ true)
some-of f None e = absurd (true≢false (sym e))
some-of f (Some x) e = (x, refl, e)

found-in : (test : Bytes → Bool) (ns : List Bytes) (p : Bytes) → find test ns ≡ Some p → (list_any (same_bytes p) ns ≡ true) × (test p ≡ true)
found-in test [] p e = absurd (none-some p e)
found-in test (n ∷ ns) p e = by (test n) refl e (found-in test ns p)
  where
    by : (b : Bool) → test n ≡ b → cond b (Some n) (find test ns) ≡ Some p → (find test ns ≡ Some p → (list_any (same_bytes p) ns ≡ true) × (test p ≡ true)) → (list_any (same_bytes p) (n ∷ ns) ≡ true) × (test p ≡ true)
    by true q f k =
        let same : n ≡ p = same_Some n p f in
        (or_left (same_bytes p n) (list_any (same_bytes p) ns) (ap (same_bytes p) same ∙ same_bytes-self p), ap test (sym same) ∙ q)
    by false q f k = let r = k f in (or_right (same_bytes p n) (list_any (same_bytes p) ns) r.0, r.1)

one-name : (v x : Bytes) → list_any (same_bytes v) (x ∷ []) ≡ true → v ≡ x
one-name v x h = by (same_bytes v x) refl h
  where
    by : (b : Bool) → same_bytes v x ≡ b → (b || false) ≡ true → v ≡ x
    by true e k = (bytes_decides v x).0 e
    by false e k = absurd (true≢false (sym k))

its-name : (n : Bytes) → list_any (same_bytes n) (n ∷ []) ≡ true
its-name n = or_left (same_bytes n n) false (same_bytes-self n)

each-there : (cs : List Snapshot) → Each (λ c. has cs (snapshot_name c) ≡ true) cs
each-there [] = tt
each-there (c ∷ cs) = (has-self c cs, each-map (λ d. has cs (snapshot_name d) ≡ true) (λ d. has (c ∷ cs) (snapshot_name d) ≡ true) (λ d h. has-newer c cs (snapshot_name d) h) cs (each-there cs))

-- ---- what is reached

there : (g : Graph) (ws : List Bytes) (n : Bytes) → has (reached g ws) n ≡ true → has g n ≡ true
there g ws n h = has-each g (reached g ws) n (reached-in g ws) h

behind : (b : Bool) (c : Snapshot) (cs : List Snapshot) (n : Bytes) → has_name n c ≡ false → has (cond b (c ∷ []) [] ++ cs) n ≡ true → has cs n ≡ true
behind true c cs n e h = sym (ap (λ x. x || has cs n) e) ∙ h
behind false c cs n e h = h

-- the newest is reached only if it is wanted itself
newest-wanted : (c : Snapshot) (g : Graph) → IsGrown c g → (ws : List Bytes) → has (reached (c ∷ g) ws) (snapshot_name c) ≡ true → is_wanted ws c ≡ true
newest-wanted c g w ws h = by (is_wanted ws c) h
  where
    by : (b : Bool) → has (cond b (c ∷ []) [] ++ reached g (cond b (c.parents ++ ws) ws)) (snapshot_name c) ≡ true → b ≡ true
    by true h = refl
    by false h = absurd (true≢false (sym (there g ws (snapshot_name c) h) ∙ w.new))

-- what is reached from what is reached is reached
reached-through : (g : Graph) → is_graph g ≡ true → (vs ws : List Bytes) → ((v : Bytes) → list_any (same_bytes v) vs ≡ true → has g v ≡ true → has (reached g ws) v ≡ true) → (n : Bytes) → has (reached g vs) n ≡ true → has (reached g ws) n ≡ true
reached-through [] s vs ws f n h = h
reached-through (c ∷ g) s vs ws f n h =
    let w : IsGrown c g = grown c g s in
    by w (has_name n c) refl (λ k r. reached-through g w.graph (wanted_below vs c) (wanted_below ws c) k n r)
  where
    older : IsGrown c g → (v : Bytes) → has g v ≡ true → has (reached (c ∷ g) ws) v ≡ true → has (reached g (wanted_below ws c)) v ≡ true
    older w v t r = behind (is_wanted ws c) c (reached g (wanted_below ws c)) v (other g c v w.new t) r

    parents-too : IsGrown c g → is_wanted vs c ≡ true → wanted_below ws c ≡ c.parents ++ ws
    parents-too w q = ap (λ b. cond b (c.parents ++ ws) ws) (newest-wanted c g w ws (f (snapshot_name c) q (has-self c g)))

    wanted-now : IsGrown c g → (b : Bool) → is_wanted vs c ≡ b → (v : Bytes) → list_any (same_bytes v) (cond b (c.parents ++ vs) vs) ≡ true → has g v ≡ true → has (reached g (wanted_below ws c)) v ≡ true
    wanted-now w false q v e t = older w v t (f v e (has-newer c g v t))
    wanted-now w true q v e t = elim (wanted-cases v c.parents vs e) as (λ o. has (reached g (wanted_below ws c)) v ≡ true) [
      | inl x ↦ reached-has g (wanted_below ws c) v t (ap (list_any (same_bytes v)) (parents-too w q) ∙ any-in-front (same_bytes v) c.parents ws x)
      | inr x ↦ older w v t (f v x (has-newer c g v t))
    ]

    by : IsGrown c g → (b : Bool) → has_name n c ≡ b
        → (((v : Bytes) → list_any (same_bytes v) (wanted_below vs c) ≡ true → has g v ≡ true → has (reached g (wanted_below ws c)) v ≡ true) → has (reached g (wanted_below vs c)) n ≡ true → has (reached g (wanted_below ws c)) n ≡ true)
        → has (reached (c ∷ g) ws) n ≡ true
    by w true e k =
        let name : n ≡ snapshot_name c = (bytes_decides n (snapshot_name c)).0 e in
        ap (has (reached (c ∷ g) ws)) name ∙ f (snapshot_name c) (newest-wanted c g w vs (ap (has (reached (c ∷ g) vs)) (sym name) ∙ h)) (has-self c g)
    by w false e k =
        any-behind (has_name n) (cond (is_wanted ws c) (c ∷ []) []) (reached g (wanted_below ws c))
        (k (wanted-now w (is_wanted vs c) refl) (behind (is_wanted vs c) c (reached g (wanted_below vs c)) n e h))

-- a newer commit leaves what is reached
reached-later : (c : Snapshot) (g : Graph) → is_graph g ≡ true → (ws : List Bytes) (n : Bytes) → has (reached g ws) n ≡ true → has (reached (c ∷ g) ws) n ≡ true
reached-later c g s ws n h =
    any-behind (has_name n) (cond (is_wanted ws c) (c ∷ []) []) (reached g (wanted_below ws c))
    (reached-through g s ws (wanted_below ws c) (λ v e t. reached-has g (wanted_below ws c) v t (wanted-still ws c v e)) n h)

reached-added : (g : Graph) (c : Snapshot) → is_graph g ≡ true → (ws : List Bytes) (n : Bytes) → has (reached g ws) n ≡ true → has (reached (add g c) ws) n ≡ true
reached-added g c s ws n h = by (has g (snapshot_name c))
  where
    by : (b : Bool) → has (reached (cond b g (c ∷ g)) ws) n ≡ true
    by true = h
    by false = reached-later c g s ws n h

-- an older commit's ancestors
same-older : (c : Snapshot) (g : Graph) (a : Bytes) → has g (snapshot_name c) ≡ false → has g a ≡ true → reached (c ∷ g) (a ∷ []) ≡ reached g (a ∷ [])
same-older c g a e h = ap (λ b. cond b (c ∷ []) [] ++ reached g (cond b (c.parents ++ a ∷ []) (a ∷ []))) (ap (λ b. b || false) (same_bytes-back (snapshot_name c) a ∙ other g c a e h))

-- one of the wanted commits that a commit is reached from
record IsFrom (g : Graph) (ws : List Bytes) (n : Bytes) : Type 0 where
  from : Bytes
  wanted : list_any (same_bytes from) ws ≡ true
  held : has g from ≡ true
  below : has (reached g (from ∷ [])) n ≡ true

reached-from : (g : Graph) → is_graph g ≡ true → (ws : List Bytes) (n : Bytes) → has (reached g ws) n ≡ true → IsFrom g ws n
reached-from [] s ws n h = absurd (true≢false (sym h))
reached-from (c ∷ g) s ws n h =
    let w : IsGrown c g = grown c g s in
    by w (is_wanted ws c) refl (λ vs r. reached-from g w.graph vs n r) h
  where
    front : IsGrown c g → IsFrom g ws n → IsFrom (c ∷ g) ws n
    front w i = record { from = i.from; wanted = i.wanted; held = has-newer c g i.from i.held; below = reached-later c g w.graph (i.from ∷ []) n i.below }

    newest : is_wanted ws c ≡ true → has (reached (c ∷ g) (snapshot_name c ∷ [])) n ≡ true → IsFrom (c ∷ g) ws n
    newest q r = record { from = snapshot_name c; wanted = q; held = has-self c g; below = r }

    below-newest : IsGrown c g → (x : Bytes) → list_any (same_bytes x) c.parents ≡ true → has (reached g (x ∷ [])) n ≡ true → has (reached (c ∷ g) (snapshot_name c ∷ [])) n ≡ true
    below-newest w x e r =
        let below : wanted_below (snapshot_name c ∷ []) c ≡ c.parents ++ snapshot_name c ∷ [] = ap (λ b. cond b (c.parents ++ snapshot_name c ∷ []) (snapshot_name c ∷ [])) (its-name (snapshot_name c)) in
        any-behind (has_name n) (cond (is_wanted (snapshot_name c ∷ []) c) (c ∷ []) []) (reached g (wanted_below (snapshot_name c ∷ []) c))
        (reached-through g w.graph (x ∷ []) (wanted_below (snapshot_name c ∷ []) c)
        (λ v q t. reached-has g (wanted_below (snapshot_name c ∷ []) c) v t
        (ap (list_any (same_bytes v)) below ∙ any-in-front (same_bytes v) c.parents (snapshot_name c ∷ []) (ap (λ y. list_any (same_bytes y) c.parents) (one-name v x q) ∙ e))) n r)

    parents : IsGrown c g → is_wanted ws c ≡ true → IsFrom g (c.parents ++ ws) n → IsFrom (c ∷ g) ws n
    parents w q i = elim (wanted-cases i.from c.parents ws i.wanted) as (λ o. IsFrom (c ∷ g) ws n) [
      | inl x ↦ newest q (below-newest w i.from x i.below)
      | inr x ↦ front w (record { from = i.from; wanted = x; held = i.held; below = i.below })
    ]

    here : IsGrown c g → is_wanted ws c ≡ true → (b : Bool) → has_name n c ≡ b → (has (reached g (c.parents ++ ws)) n ≡ true → IsFrom g (c.parents ++ ws) n) → (b || has (reached g (c.parents ++ ws)) n) ≡ true → IsFrom (c ∷ g) ws n
    here w q true e ih r = newest q (reached-has (c ∷ g) (snapshot_name c ∷ []) n (or_left (has_name n c) (has g n) e) (or_left (same_bytes n (snapshot_name c)) false e))
    here w q false e ih r = parents w q (ih r)

    by : IsGrown c g → (b : Bool) → is_wanted ws c ≡ b → ((vs : List Bytes) → has (reached g vs) n ≡ true → IsFrom g vs n) → has (cond b (c ∷ []) [] ++ reached g (cond b (c.parents ++ ws) ws)) n ≡ true → IsFrom (c ∷ g) ws n
    by w true q ih r = here w q (has_name n c) refl (ih (c.parents ++ ws)) r
    by w false q ih r = front w (ih ws r)

-- ---- commits of distinct names

-- a commit of this name is this commit
abbrev Is : Snapshot → Snapshot → Type 0
Is e d = snapshot_name d ≡ snapshot_name e → d ≡ e

abbrev AreApart : List Snapshot → Type 0
AreApart cs = Each (λ e. Each (Is e) cs) cs

are-apart : (cs : List Snapshot) → AreOfDistinctNames cs → AreApart cs
are-apart cs f =
    let among : Each (Contains cs) cs = each-all (Contains cs) cs (All-contains_itself cs) in
    each-map (Contains cs) (λ e. Each (Is e) cs) (λ e m. each-map (Contains cs) (Is e) (λ d l q. f d e l m q) cs among) cs among

apart-front : (cs ds : List Snapshot) → AreApart (cs ++ ds) → AreApart cs
apart-front cs ds h = each-map (λ e. Each (Is e) (cs ++ ds)) (λ e. Each (Is e) cs) (λ e k. each-front (Is e) cs ds k) cs (each-front (λ e. Each (Is e) (cs ++ ds)) cs ds h)

apart-back : (cs ds : List Snapshot) → AreApart (cs ++ ds) → Each (λ e. Each (Is e) cs) ds
apart-back cs ds h = each-map (λ e. Each (Is e) (cs ++ ds)) (λ e. Each (Is e) cs) (λ e k. each-front (Is e) cs ds k) ds (each-back (λ e. Each (Is e) (cs ++ ds)) cs ds h)

each-add : (P : Snapshot → Type 0) (g : Graph) (c : Snapshot) → Each P g → P c → Each P (add g c)
each-add P g c h k = by (has g (snapshot_name c))
  where
    by : (b : Bool) → Each P (cond b g (c ∷ g))
    by true = h
    by false = (k, h)

each-add-all : (P : Snapshot → Type 0) (g : Graph) (cs : List Snapshot) → Each P g → Each P cs → Each P (add_all g cs)
each-add-all P g [] h k = h
each-add-all P g (c ∷ cs) h k = each-add-all P (add g c) cs (each-add P g c h k.0) k.1

-- where commits of its name are it, the commit that was added is found
added-at : (g : Graph) (d : Snapshot) → Each (Is d) g → commit_at (add g d) (snapshot_name d) ≡ Some d
added-at g d h = by (has g (snapshot_name d)) refl
  where
    first : (cs : Graph) → Each (Is d) cs → has cs (snapshot_name d) ≡ true → commit_at cs (snapshot_name d) ≡ Some d
    first [] h e = absurd (true≢false (sym e))
    first (c ∷ cs) h e = at (has_name (snapshot_name d) c) refl e (first cs h.1)
      where
        at : (b : Bool) → has_name (snapshot_name d) c ≡ b → (b || has cs (snapshot_name d)) ≡ true → (has cs (snapshot_name d) ≡ true → commit_at cs (snapshot_name d) ≡ Some d) → cond b (Some c) (commit_at cs (snapshot_name d)) ≡ Some d
        at true q r k = ap Some (h.0 (sym ((bytes_decides (snapshot_name d) (snapshot_name c)).0 q)))
        at false q r k = k r

    by : (b : Bool) → has g (snapshot_name d) ≡ b → commit_at (cond b g (d ∷ g)) (snapshot_name d) ≡ Some d
    by true e = first g h e
    by false e = ap (λ b. cond b (Some d) (commit_at g (snapshot_name d))) (same_bytes-self (snapshot_name d))

-- ---- choices

passes : (test : Shown → Bool) (c : Snapshot) (ms : List Shown) (m : Shown) → member_or (find test ms) c ≡ Member m → test m ≡ true
passes test c [] m e = cc
passes test c (x ∷ ms) m e = by (test x) refl e (passes test c ms m)
  where
    by : (b : Bool) → test x ≡ b → member_or (cond b (Some x) (find test ms)) c ≡ Member m → (member_or (find test ms) c ≡ Member m → test m ≡ true) → test m ≡ true
    by true q e k = let same : x ≡ m = cc in ap test (sym same) ∙ q
    by false q e k = k e

-- the member that is taken is the only one, or it leads
only-or-leads : (k : Rule) (leading : Shown → Bool) (t : Flat) (letter : Letter) (ms : List Shown) (m : Shown) → chosen k leading t letter ms ≡ Member m → (ms ≡ m ∷ []) ⊎ (leading m ≡ true)
only-or-leads k leading t letter [] m e = by (is_nil t) e
  where
    by : (b : Bool) → cond b Nothing (New (own t letter [])) ≡ Member m → ([] ≡ m ∷ []) ⊎ (leading m ≡ true)
    by true e = cc
    by false e = cc
only-or-leads k leading t letter (x ∷ []) m e = by (has_tree t x) e
  where
    by : (b : Bool) → cond b (Member x) (New (own t letter (x ∷ []))) ≡ Member m → (x ∷ [] ≡ m ∷ []) ⊎ (leading m ≡ true)
    by true e = let same : x ≡ m = cc in inl (ap (λ (z : Shown). z ∷ []) same)
    by false e = cc
only-or-leads One leading t letter (x ∷ y ∷ ms) m e = cc
only-or-leads Two leading t letter (x ∷ y ∷ ms) m e = inr (and_parts (has_tree t m) (leading m) (passes (λ z. has_tree t z && leading z) (own t letter (x ∷ y ∷ ms)) (x ∷ y ∷ ms) m e)).1

none-nothing : (o : Option Shown) (c : Snapshot) → member_or o c ≡ Nothing → ⊥
none-nothing None c e = cc
none-nothing (Some m) c e = cc

nothing-empty : (k : Rule) (leading : Shown → Bool) (t : Flat) (letter : Letter) (ms : List Shown) → chosen k leading t letter ms ≡ Nothing → ms ≡ []
nothing-empty k leading t letter [] e = refl
nothing-empty k leading t letter (x ∷ []) e = by (has_tree t x) e
  where
    by : (b : Bool) → cond b (Member x) (New (own t letter (x ∷ []))) ≡ Nothing → x ∷ [] ≡ []
    by true e = cc
    by false e = cc
nothing-empty One leading t letter (x ∷ y ∷ ms) e = cc
nothing-empty Two leading t letter (x ∷ y ∷ ms) e = absurd (none-nothing (find (λ z. has_tree t z && leading z) (x ∷ y ∷ ms)) (own t letter (x ∷ y ∷ ms)) e)

-- the projection of a parent is among the members
any-known : (ks : Entries) (x : Bytes) (t : Shown) (ns : List Bytes) → known_at ks x ≡ Some t → list_any (same_bytes x) ns ≡ true → list_any (is_same t) (filter_map (known_at ks) ns) ≡ true
any-known ks x t [] e h = absurd (true≢false (sym h))
any-known ks x t (n ∷ ns) e h = by (same_bytes x n) refl h (any-known ks x t ns e)
  where
    rest : (o : Option Shown) → list_any (is_same t) (filter_map (known_at ks) ns) ≡ true → list_any (is_same t) (cons_option o (filter_map (known_at ks) ns)) ≡ true
    rest None h = h
    rest (Some q) h = or_right (is_same t q) (list_any (is_same t) (filter_map (known_at ks) ns)) h

    by : (b : Bool) → same_bytes x n ≡ b → (b || list_any (same_bytes x) ns) ≡ true → (list_any (same_bytes x) ns ≡ true → list_any (is_same t) (filter_map (known_at ks) ns) ≡ true) → list_any (is_same t) (cons_option (known_at ks n) (filter_map (known_at ks) ns)) ≡ true
    by true q f k =
        ap (λ o. list_any (is_same t) (cons_option o (filter_map (known_at ks) ns))) (sym (ap (known_at ks) ((bytes_decides x n).0 q)) ∙ e)
        ∙ or_left (is_same t t) (list_any (is_same t) (filter_map (known_at ks) ns)) (same_bytes-self t.commit)
    by false q f k = rest (known_at ks n) (k f)

-- what holds of the members' names holds of the name of a member
named : (Q : Bytes → Type 0) (t : Shown) (ms : List Shown) → Each Q (names ms) → list_any (is_same t) ms ≡ true → Q t.commit
named Q t [] h e = absurd (true≢false (sym e))
named Q t (m ∷ ms) h e = by (is_same t m) refl e (named Q t ms h.1)
  where
    by : (b : Bool) → is_same t m ≡ b → (b || list_any (is_same t) ms) ≡ true → (list_any (is_same t) ms ≡ true → Q t.commit) → Q t.commit
    by true q f k = subst Q (sym ((bytes_decides t.commit m.commit).0 q)) h.0
    by false q f k = k f

-- a parent of the newest commit, where all of them are there and wanted
parent-reached : (c : Snapshot) (g : Graph) → IsGrown c g → (ws : List Bytes) → is_wanted ws c ≡ true → (x : Bytes) → list_any (same_bytes x) c.parents ≡ true → has (reached g (wanted_below ws c)) x ≡ true
parent-reached c g w ws q x e =
    let y = any-all (same_bytes x) (has g) c.parents e w.parents in
    reached-has g (wanted_below ws c) x (ap (has g) ((bytes_decides x y.0).0 y.1) ∙ y.2)
    (ap (λ b. list_any (same_bytes x) (cond b (c.parents ++ ws) ws)) q ∙ any-in-front (same_bytes x) c.parents ws e)

-- ---- ancestors' projections

module _ (k : Rule) (shown : Flat → Flat) where
  abbrev P : Graph → Bytes → Option Shown
  P g n = projection k shown g n

  abbrev made : Graph → List Bytes → Graph
  made g ws = add_all [] (own_commits k shown g ws)

  -- a commit's projection reaches this name in a graph
  record IsAbove (m : Graph) (g : Graph) (a q : Bytes) : Type 0 where
    top : Shown
    is : P g a ≡ Some top
    below : has (reached m (top.commit ∷ [])) q ≡ true

  -- a commit's projection reaches those of its ancestors
  abbrev AreAbove : Graph → List Bytes → Type 0
  AreAbove g ws = (a n : Bytes) (q : Shown) → has (reached g ws) a ≡ true → has (reached g (a ∷ [])) n ≡ true → P g n ≡ Some q → IsAbove (made g ws) g a q.commit

  module _ (c : Snapshot) (g : Graph) (w : IsGrown c g) where
    abbrev ks : Entries
    ks = projections k shown [] g

    abbrev ms : List Shown
    ms = members (projections k shown [] g) c.parents

    abbrev ch : Choice
    ch = choice_of k shown g (projections k shown [] g) c

    -- with what the newest commit becomes, if it is wanted
    abbrev grown-made : List Bytes → Bool → Graph
    grown-made vs b = add_all [] (own_commits k shown g vs ++ cond b (option_to_list (own_commit ch)) [])

    more : (vs : List Bytes) (b : Bool) → grown-made vs b ≡ add_all (made g vs) (cond b (option_to_list (own_commit ch)) [])
    more vs b = fold-append add [] (own_commits k shown g vs) (cond b (option_to_list (own_commit ch)) [])

    still : (vs : List Bytes) (b : Bool) (us : List Bytes) (n : Bytes) → has (reached (made g vs) us) n ≡ true → has (reached (grown-made vs b) us) n ≡ true
    still vs b us n h = ap (λ (x : Graph). has (reached x us) n) (more vs b) ∙ by b (own_commit ch)
      where
        by : (b : Bool) (o : Option Snapshot) → has (reached (add_all (made g vs) (cond b (option_to_list o) [])) us) n ≡ true
        by false o = h
        by true None = h
        by true (Some d) = reached-added (made g vs) d (listed k shown g w.graph vs).graph us n h

    older : (vs : List Bytes) (b : Bool) → AreAbove g vs → (a n : Bytes) (q : Shown) → has (reached g vs) a ≡ true → has (reached (c ∷ g) (a ∷ [])) n ≡ true → P (c ∷ g) n ≡ Some q → IsAbove (grown-made vs b) (c ∷ g) a q.commit
    older vs b ih a n q h r e =
        let t : has g a ≡ true = there g vs a h in
        let m : has (reached g (a ∷ [])) n ≡ true = ap (λ (x : Graph). has x n) (sym (same-older c g a w.new t)) ∙ r in
        let i = ih a n q h m (sym (projection-newer k shown c g n w.new (there g (a ∷ []) n m)) ∙ e) in
        record { top = i.top; is = projection-newer k shown c g a w.new t ∙ i.is; below = still vs b (i.top.commit ∷ []) q.commit i.below }

    module _ (vs : List Bytes) (ih : AreAbove g vs) (wanted : (x : Bytes) → list_any (same_bytes x) c.parents ≡ true → has (reached g vs) x ≡ true) where
      -- a member that leads reaches the others
      leader : (z t : Shown) → leads g ks c.parents z ≡ true → list_any (is_same t) ms ≡ true → has (reached (made g vs) (z.commit ∷ [])) t.commit ≡ true
      leader z t l h =
          let y = some-of (λ p. list_all (is_reached g ks p) ms) (find (is_shown_as ks z) c.parents) l in
          let f = found-in (is_shown_as ks z) c.parents y.0 y.1 in
          let v = some-of (is_same z) (known_at ks y.0) f.1 in
          let x = any-all (is_same t) (is_reached g ks y.0) ms h y.2 in
          let d = commit-any (is_shown_as ks x.0) (ancestors g y.0) (each-there (ancestors g y.0)) x.2 in
          let u = some-of (is_same x.0) (known_at ks (snapshot_name d.0)) d.2 in
          let i = ih y.0 (snapshot_name d.0) u.0 (wanted y.0 f.0) d.1 u.1 in
          let top : i.top ≡ v.0 = same_Some i.top v.0 (sym i.is ∙ v.1) in
          let high : z.commit ≡ i.top.commit = (bytes_decides z.commit v.0.commit).0 v.2 ∙ ap (λ (s : Shown). s.commit) (sym top) in
          let low : t.commit ≡ u.0.commit = (bytes_decides t.commit x.0.commit).0 x.1 ∙ (bytes_decides x.0.commit u.0.commit).0 u.2 in
          ap (λ s. has (reached (made g vs) (s ∷ [])) t.commit) high ∙ ap (has (reached (made g vs) (i.top.commit ∷ []))) low ∙ i.below

      -- what becomes of the newest commit reaches its members
      covers : (o : Choice) → ch ≡ o → is_graph (add_all (made g vs) (option_to_list (own_commit o))) ≡ true → Each (λ d. Each (Is d) (made g vs)) (option_to_list (own_commit o))
          → (t : Shown) → list_any (is_same t) ms ≡ true → has (made g vs) t.commit ≡ true
          → (p : Shown) × (projected o ≡ Some p) × (has (reached (add_all (made g vs) (option_to_list (own_commit o))) (p.commit ∷ [])) t.commit ≡ true)
      covers Nothing e s u t h r = absurd (true≢false (sym h ∙ ap (list_any (is_same t)) (nothing-empty k (leads g ks c.parents) (shown c.tree) c.letter ms e)))
      covers (Member z) e s u t h r = (
        z,
        refl,
        elim (only-or-leads k (leads g ks c.parents) (shown c.tree) c.letter ms z e) as (λ o. has (reached (made g vs) (z.commit ∷ [])) t.commit ≡ true) [
          | inl only ↦ reached-has (made g vs) (z.commit ∷ []) t.commit r (sym (ap (list_any (is_same t)) only) ∙ h)
          | inr l ↦ leader z t l h
        ],
      )
      covers (New d) e s u t h r = (
        shown_of d,
        refl,
        named (λ n. has (reached (add (made g vs) d) (snapshot_name d ∷ [])) n ≡ true) t ms
            (subst (Each (λ n. has (reached (add (made g vs) d) (snapshot_name d ∷ [])) n ≡ true)) (new-parents k (leads g ks c.parents) (shown c.tree) c.letter ms d e)
            (reached-closed (add (made g vs) d) s (snapshot_name d ∷ []) (snapshot_name d) d (added-at (made g vs) d u.0)
            (reached-has (add (made g vs) d) (snapshot_name d ∷ []) (snapshot_name d) (add-has (made g vs) d) (its-name (snapshot_name d))))) h,
      )

      newest : is_graph (grown-made vs true) ≡ true → Each (λ d. Each (Is d) (made g vs)) (option_to_list (own_commit ch))
          → (n : Bytes) (q : Shown) → has (reached (c ∷ g) (snapshot_name c ∷ [])) n ≡ true → P (c ∷ g) n ≡ Some q → has_name n c ≡ false → IsAbove (grown-made vs true) (c ∷ g) (snapshot_name c) q.commit
      newest s u n q h e f =
          let wants : has (reached g (c.parents ++ snapshot_name c ∷ [])) n ≡ true =
          ap (λ b. has (reached g (cond b (c.parents ++ snapshot_name c ∷ []) (snapshot_name c ∷ []))) n) (sym (its-name (snapshot_name c)))
          ∙ behind (is_wanted (snapshot_name c ∷ []) c) c (reached g (wanted_below (snapshot_name c ∷ []) c)) n f h in
          let i = reached-from g w.graph (c.parents ++ snapshot_name c ∷ []) n wants in
          let parent : list_any (same_bytes i.from) c.parents ≡ true = elim (wanted-cases i.from c.parents (snapshot_name c ∷ []) i.wanted) as (λ o. list_any (same_bytes i.from) c.parents ≡ true) [
            | inl x ↦ x
            | inr x ↦ absurd (true≢false (sym i.held ∙ ap (has g) (one-name i.from (snapshot_name c) x) ∙ w.new))
          ] in
          let b = ih i.from n q (wanted i.from parent) i.below (sym (projection-newer k shown c g n w.new (there g (i.from ∷ []) n i.below)) ∙ e) in
          let member : list_any (is_same b.top) ms ≡ true = distinct-has b.top [] (filter_map (known_at ks) c.parents) (any-known ks i.from b.top c.parents b.is parent) in
          let old : has (made g vs) b.top.commit ≡ true = seen-made k shown g vs i.from b.top w.graph b.is (wanted i.from parent) in
          let u = covers ch refl (ap (λ (x : Graph). is_graph x) (sym (more vs true)) ∙ s) u b.top member old in
          let high : has (reached (grown-made vs true) (u.0.commit ∷ [])) b.top.commit ≡ true = ap (λ (x : Graph). has (reached x (u.0.commit ∷ [])) b.top.commit) (more vs true) ∙ u.2 in
          record {
            top = u.0;
            is = itself k shown c g ∙ u.1;
            below = reached-through (grown-made vs true) s (b.top.commit ∷ []) (u.0.commit ∷ [])
                (λ v x t. ap (has (reached (grown-made vs true) (u.0.commit ∷ []))) (one-name v b.top.commit x) ∙ high) q.commit
                (still vs true (b.top.commit ∷ []) q.commit b.below);
          }

  above : (g : Graph) → is_graph g ≡ true → (ws : List Bytes) → AreApart (own_commits k shown g ws) → AreAbove g ws
  above [] s ws u a n q h r e = absurd (true≢false (sym h))
  above (c ∷ g) s ws u a n q h r e =
      let w : IsGrown c g = grown c g s in
      by w (above g w.graph (wanted_below ws c) (apart-front (own_commits k shown g (wanted_below ws c)) (cond (is_wanted ws c) (option_to_list (own_commit (ch c g w))) []) u)) (has_name a c) refl
    where
      -- the newest commit and one of its ancestors, or itself
      at : (w : IsGrown c g) → AreAbove g (wanted_below ws c) → is_wanted ws c ≡ true → a ≡ snapshot_name c → (b : Bool) → has_name n c ≡ b → IsAbove (made (c ∷ g) ws) (c ∷ g) a q.commit
      at w ih x name true f =
          let same : n ≡ snapshot_name c = (bytes_decides n (snapshot_name c)).0 f in
          record {
            top = q;
            is = ap (P (c ∷ g)) (name ∙ sym same) ∙ e;
            below = reached-has (made (c ∷ g) ws) (q.commit ∷ []) q.commit (seen-made k shown (c ∷ g) ws n q s e (ap (has (reached (c ∷ g) ws)) (same ∙ sym name) ∙ h)) (its-name q.commit);
          }
      at w ih x name false f =
          let all : AreApart (own_commits k shown g (wanted_below ws c) ++ option_to_list (own_commit (ch c g w))) = subst (λ b. AreApart (own_commits k shown g (wanted_below ws c) ++ cond b (option_to_list (own_commit (ch c g w))) [])) x u in
          subst (λ m. IsAbove (made (c ∷ g) ws) (c ∷ g) m q.commit) (sym name)
          (subst (λ b. IsAbove (grown-made c g w (wanted_below ws c) b) (c ∷ g) (snapshot_name c) q.commit) (sym x)
          (newest c g w (wanted_below ws c) ih (parent-reached c g w ws x)
          (subst (λ b. is_graph (grown-made c g w (wanted_below ws c) b) ≡ true) x (listed k shown (c ∷ g) s ws).graph)
          (each-map (λ d. Each (Is d) (own_commits k shown g (wanted_below ws c))) (λ d. Each (Is d) (made g (wanted_below ws c)))
          (λ d z. each-add-all (Is d) [] (own_commits k shown g (wanted_below ws c)) tt z) (option_to_list (own_commit (ch c g w)))
          (apart-back (own_commits k shown g (wanted_below ws c)) (option_to_list (own_commit (ch c g w))) all))
          n q (ap (λ m. has (reached (c ∷ g) (m ∷ [])) n) (sym name) ∙ r) e f))

      by : (w : IsGrown c g) → AreAbove g (wanted_below ws c) → (b : Bool) → has_name a c ≡ b → IsAbove (made (c ∷ g) ws) (c ∷ g) a q.commit
      by w ih true x =
          let name : a ≡ snapshot_name c = (bytes_decides a (snapshot_name c)).0 x in
          at w ih (newest-wanted c g w ws (ap (has (reached (c ∷ g) ws)) (sym name) ∙ h)) name (has_name n c) refl
      by w ih false x = older c g w (wanted_below ws c) (is_wanted ws c) ih a n q (behind (is_wanted ws c) c (reached g (wanted_below ws c)) a x h) r e

  -- ---- each projection is that of a commit that is made

  abbrev IsMade : (Snapshot → Type 0) → Shown → Type 0
  IsMade Q p = (d : Snapshot) × Q d × (p ≡ shown_of d)

  known-each : (Q : Shown → Type 0) (es : Entries) (ns : List Bytes) → ((x : Bytes) (p : Shown) → list_any (same_bytes x) ns ≡ true → known_at es x ≡ Some p → Q p) → Each Q (filter_map (known_at es) ns)
  known-each Q es [] f = tt
  known-each Q es (n ∷ ns) f = by (known_at es n) refl (known-each Q es ns (λ x p h e. f x p (or_right (same_bytes x n) (list_any (same_bytes x) ns) h) e))
    where
      by : (o : Option Shown) → known_at es n ≡ o → Each Q (filter_map (known_at es) ns) → Each Q (cons_option o (filter_map (known_at es) ns))
      by None e r = r
      by (Some p) e r = (f n p (or_left (same_bytes n n) (list_any (same_bytes n) ns) (same_bytes-self n)) e, r)

  is-made : (Q : Snapshot → Type 0) (g : Graph) → is_graph g ≡ true → (ws : List Bytes) → Each Q (own_commits k shown g ws) → (n : Bytes) (p : Shown) → has (reached g ws) n ≡ true → P g n ≡ Some p → IsMade Q p
  is-made Q [] s ws u n p h e = absurd (true≢false (sym h))
  is-made Q (c ∷ g) s ws u n p h e =
      let w : IsGrown c g = grown c g s in
      by w (is-made Q g w.graph (wanted_below ws c) (each-front Q (own_commits k shown g (wanted_below ws c)) (cond (is_wanted ws c) (option_to_list (own_commit (ch c g w))) []) u)) (has_name n c) refl
    where
      pick : (w : IsGrown c g) → Each (IsMade Q) (ms c g w) → (o : Choice) → ch c g w ≡ o → Each Q (option_to_list (own_commit o)) → projected o ≡ Some p → IsMade Q p
      pick w i Nothing q v z = absurd (none-some p z)
      pick w i (Member m) q v z = subst (IsMade Q) (same_Some m p z) (member-of k (IsMade Q) (leads g (ks c g w) c.parents) (shown c.tree) c.letter (ms c g w) m i q)
      pick w i (New d) q v z = (d, v.0, sym (same_Some (shown_of d) p z))

      by : (w : IsGrown c g) → ((m : Bytes) (t : Shown) → has (reached g (wanted_below ws c)) m ≡ true → P g m ≡ Some t → IsMade Q t) → (b : Bool) → has_name n c ≡ b → IsMade Q p
      by w ih true x =
          let name : n ≡ snapshot_name c = (bytes_decides n (snapshot_name c)).0 x in
          let q : is_wanted ws c ≡ true = newest-wanted c g w ws (ap (has (reached (c ∷ g) ws)) (sym name) ∙ h) in
          pick w
          (each-distinct (IsMade Q) [] (filter_map (known_at (ks c g w)) c.parents) tt
          (known-each (IsMade Q) (ks c g w) c.parents (λ x t y z. ih x t (parent-reached c g w ws q x y) z)))
          (ch c g w) refl
          (subst (λ b. Each Q (cond b (option_to_list (own_commit (ch c g w))) [])) q (each-back Q (own_commits k shown g (wanted_below ws c)) (cond (is_wanted ws c) (option_to_list (own_commit (ch c g w))) []) u))
          (sym (itself k shown c g) ∙ ap (P (c ∷ g)) (sym name) ∙ e)
      by w ih false x =
          let m : has (reached g (wanted_below ws c)) n ≡ true = behind (is_wanted ws c) c (reached g (wanted_below ws c)) n x h in
          ih n p m (sym (projection-newer k shown c g n w.new (there g (wanted_below ws c) n m)) ∙ e)

  -- ---- the last

  -- only a commit of the graph is projected
  projected-there : (g : Graph) (n : Bytes) (p : Shown) → P g n ≡ Some p → has g n ≡ true
  projected-there [] n p e = absurd (none-some p e)
  projected-there (c ∷ g) n p e = by (has_name n c) refl (projected-there g n p)
    where
      by : (b : Bool) → has_name n c ≡ b → (P g n ≡ Some p → has g n ≡ true) → (b || has g n) ≡ true
      by true q f = refl
      by false q f = f (sym (projection-newest k shown c g n ∙ ap (λ b. cond b (projected (choice_of k shown g (projections k shown [] g) c)) (P g n)) q) ∙ e)

  module _ (g : Graph) (s : is_graph g ≡ true) (h : Bytes) (apart : AreApart (own_commits k shown g (h ∷ []))) where
    abbrev IsSeen : Shown → Type 0
    IsSeen m = (n : Bytes) × (has (reached g (h ∷ [])) n ≡ true) × (P g n ≡ Some m)

    seen-each : (cs : List Snapshot) → Each (λ c. has (reached g (h ∷ [])) (snapshot_name c) ≡ true) cs → Each IsSeen (filter_map (λ c. P g (snapshot_name c)) cs)
    seen-each [] t = tt
    seen-each (c ∷ cs) t = by (P g (snapshot_name c)) refl (seen-each cs t.1)
      where
        by : (o : Option Shown) → P g (snapshot_name c) ≡ o → Each IsSeen (filter_map (λ d. P g (snapshot_name d)) cs) → Each IsSeen (cons_option o (filter_map (λ d. P g (snapshot_name d)) cs))
        by None e r = r
        by (Some p) e r = ((snapshot_name c, t.0, e), r)

    all-seen : Each IsSeen (history k shown g h)
    all-seen =
        each-distinct IsSeen [] (filter_map (λ c. P g (snapshot_name c)) (reverse (reached g (h ∷ [])))) tt
        (seen-each (reverse (reached g (h ∷ []))) (each-reverse (λ c. has (reached g (h ∷ [])) (snapshot_name c) ≡ true) (reached g (h ∷ [])) (each-there (reached g (h ∷ [])))))

    pub last-is : last_or None (history k shown g h) ≡ P g h
    last-is = ap (λ xs. last_or None xs) (sym (listed k shown g s (h ∷ [])).same) ∙ by (made g (h ∷ [])) refl
      where
        head-reached : has g h ≡ true → has (reached g (h ∷ [])) h ≡ true
        head-reached t = reached-has g (h ∷ []) h t (its-name h)

        nothing : made g (h ∷ []) ≡ [] → (o : Option Shown) → P g h ≡ o → None ≡ o
        nothing q None e = refl
        nothing q (Some p) e = absurd (true≢false (sym (seen-made k shown g (h ∷ []) h p s e (head-reached (projected-there g h p e))) ∙ ap (λ (x : Graph). has x p.commit) q))

        by : (m : Graph) → made g (h ∷ []) ≡ m → last_or None (map shown_of (reverse m)) ≡ P g h
        by [] q = nothing q (P g h) refl
        by (d ∷ m) q =
            let list : map shown_of (reverse (d ∷ m)) ≡ map shown_of (reverse m) ++ shown_of d ∷ [] = ap (map shown_of) (reverse-more d m) ∙ map-append shown_of (reverse m) (d ∷ []) in
            let whole : history k shown g h ≡ map shown_of (reverse m) ++ shown_of d ∷ [] = sym (listed k shown g s (h ∷ [])).same ∙ ap (λ (x : Graph). map shown_of (reverse x)) q ∙ list in
            let b : IsSeen (shown_of d) = (each-back IsSeen (map shown_of (reverse m)) (shown_of d ∷ []) (subst (Each IsSeen) whole all-seen)).0 in
            let i = reached-from g s (h ∷ []) b.0 b.1 in
            let start : has (reached g (h ∷ [])) h ≡ true = head-reached (ap (has g) (sym (one-name i.from h i.wanted)) ∙ i.held) in
            let a = above g s (h ∷ []) apart h b.0 (shown_of d) start b.1 b.2 in
            let w : IsGrown d m = grown d m (ap (λ (x : Graph). is_graph x) (sym q) ∙ (listed k shown g s (h ∷ [])).graph) in
            let name : snapshot_name d ≡ a.top.commit = one-name (snapshot_name d) a.top.commit (newest-wanted d m w (a.top.commit ∷ []) (ap (λ (x : Graph). has (reached x (a.top.commit ∷ [])) (snapshot_name d)) (sym q) ∙ a.below)) in
            let o = is-made (λ e. Each (Is e) (own_commits k shown g (h ∷ []))) g s (h ∷ []) apart h a.top start a.is in
            let one : Each (Is o.0) (d ∷ m) = subst (Each (Is o.0)) q (each-add-all (Is o.0) [] (own_commits k shown g (h ∷ [])) tt o.1) in
            let same : d ≡ o.0 = one.0 (name ∙ ap (λ (t : Shown). t.commit) o.2) in
            ap (λ xs. last_or None xs) list
            ∙ last-pushed None (map shown_of (reverse m)) (shown_of d)
            ∙ ap (λ (x : Snapshot). Some (shown_of x)) same
            ∙ ap Some (sym o.2)
            ∙ sym a.is

pub the_law : HistoryLaw
the_law = record {
  commits = λ k shown g h s. (listed k shown g s (h ∷ [])).same;
  graph = λ k shown g h s. (listed k shown g s (h ∷ [])).graph;
  last = λ k shown g h s d. last-is k shown g s h (are-apart (own_commits k shown g (h ∷ [])) d);
}
