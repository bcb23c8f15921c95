-- A history is the list of the commits that it makes.
use Rattle.std.specs.Prelude.{◌≡◌, refl, Bool, true, false, ◌||◌, ◌&&◌, cond, List, [], ◌∷◌, ◌++◌, map, reverse, find, fold, Option, Some, None}
use Rattle.std.specs.List.{list_all, list_any, cons_option, filter_map}
use Rattle.std.specs.Option.{option_to_list}
use Rattle.std.proofs.Common.{ap, ap₂, ◌∙◌, sym, subst, true≢false, append-nil}
use Rattle.std.proofs.lemmas.Bool.{and_parts, and_from, or_left, or_right}
use Rattle.std.proofs.lemmas.Grind.{reverse_onto}
use Rattle.std.specs.Cmp.Lexicographic.{bytes_decides}
use Rattle.git_objects.specs.Paths.{Bytes, is_nil, same_bytes}
use Rattle.git_objects.specs.Trees.{Flat}
use Rattle.git_objects.specs.Commits.{Letter}
use Rattle.git_objects.proofs.Basics.{same_bytes-self}
use Rattle.commit_map.specs.Shown.{Shown}
use Rattle.commit_map.specs.declared.rule.Rule.{Rule}
use Rattle.commit_map.specs.declared.rule.Rule.TheVariants.{One, Two}
use Rattle.git_objects.specs.Snapshots.{Snapshot, Graph, snapshot_name, has_name, has, is_graph, is_wanted, wanted_below, reached, add, add_all}
use Rattle.projection_laws.specs.Projections.{shown_of, is_same, add_shown, distinct_from, distinct, members, leads, Choice, Nothing, Member, New, own, member_or, has_tree, chosen, projected, own_commit, choice_of, projections, projection, own_commits}
use Rattle.git_objects.specs.Lists.{Each}
use Rattle.projection_laws.proofs.GraphLemmas.{IsGrown, add-graph, grown, has-newer}
use Rattle.projection_laws.proofs.ProjectionLemmas.{projection-newer, projection-newest}

-- ---- lists

pub any-append : {A : Type 0} (p : A → Bool) (xs ys : List A) → list_any p (xs ++ ys) ≡ (list_any p xs || list_any p ys)
any-append p [] ys = refl
any-append p (x ∷ xs) ys = ap (λ b. p x || b) (any-append p xs ys) ∙ turn (p x) (list_any p xs) (list_any p ys)
  where
    turn : (a b c : Bool) → (a || (b || c)) ≡ ((a || b) || c)
    turn true b c = refl
    turn false b c = refl

pub any-in-front : {A : Type 0} (p : A → Bool) (xs ys : List A) → list_any p xs ≡ true → list_any p (xs ++ ys) ≡ true
any-in-front p xs ys h = any-append p xs ys ∙ or_left (list_any p xs) (list_any p ys) h

pub any-behind : {A : Type 0} (p : A → Bool) (xs ys : List A) → list_any p ys ≡ true → list_any p (xs ++ ys) ≡ true
any-behind p xs ys h = any-append p xs ys ∙ or_right (list_any p xs) (list_any p ys) h

pub same-image : {A B : Type 0} (p : B → Bool) (q : A → Bool) (f : A → B) → ((x : A) → p (f x) ≡ q x) → (xs : List A) → list_any p (map f xs) ≡ list_any q xs
same-image p q f e [] = refl
same-image p q f e (x ∷ xs) = ap₂ (λ a b. a || b) (e x) (same-image p q f e xs)

pub map-append : {A B : Type 0} (f : A → B) (xs ys : List A) → map f (xs ++ ys) ≡ map f xs ++ map f ys
map-append f [] ys = refl
map-append f (x ∷ xs) ys = ap (λ z. f x ∷ z) (map-append f xs ys)

cons-append : {A : Type 0} (o : Option A) (xs ys : List A) → cons_option o (xs ++ ys) ≡ cons_option o xs ++ ys
cons-append None xs ys = refl
cons-append (Some x) xs ys = refl

pub filter-append : {A B : Type 0} (f : A → Option B) (xs ys : List A) → filter_map f (xs ++ ys) ≡ filter_map f xs ++ filter_map f ys
filter-append f [] ys = refl
filter-append f (x ∷ xs) ys = ap (cons_option (f x)) (filter-append f xs ys) ∙ cons-append (f x) (filter_map f xs) (filter_map f ys)

pub filter-same : {A B : Type 0} (f g : A → Option B) (xs : List A) → Each (λ x. f x ≡ g x) xs → filter_map f xs ≡ filter_map g xs
filter-same f g [] h = refl
filter-same f g (x ∷ xs) h = ap₂ cons_option h.0 (filter-same f g xs h.1)

pub fold-append : {A B : Type 0} (f : B → A → B) (b : B) (xs ys : List A) → fold f b (xs ++ ys) ≡ fold f (fold f b xs) ys
fold-append f b [] ys = refl
fold-append f b (x ∷ xs) ys = fold-append f (f b x) xs ys

pub each-append : {A : Type 0} (P : A → Type 0) (xs ys : List A) → Each P xs → Each P ys → Each P (xs ++ ys)
each-append P [] ys h k = k
each-append P (x ∷ xs) ys h k = (h.0, each-append P xs ys h.1 k)

pub each-map : {A : Type 0} (P Q : A → Type 0) → ((x : A) → P x → Q x) → (xs : List A) → Each P xs → Each Q xs
each-map P Q f [] h = tt
each-map P Q f (x ∷ xs) h = (f x h.0, each-map P Q f xs h.1)

pub reverse-more : {A : Type 0} (x : A) (xs : List A) → reverse (x ∷ xs) ≡ reverse xs ++ x ∷ []
reverse-more x xs = reverse_onto xs x []

pub each-reverse : {A : Type 0} (P : A → Type 0) (xs : List A) → Each P xs → Each P (reverse xs)
each-reverse P [] h = tt
each-reverse P (x ∷ xs) h = subst (Each P) (sym (reverse-more x xs)) (each-append P (reverse xs) (x ∷ []) (each-reverse P xs h.1) (h.0, tt))

pub any-reverse : {A : Type 0} (p : A → Bool) (xs : List A) → list_any p (reverse xs) ≡ list_any p xs
any-reverse p [] = refl
any-reverse p (x ∷ xs) = ap (list_any p) (reverse-more x xs) ∙ any-append p (reverse xs) (x ∷ []) ∙ ap (λ b. b || (p x || false)) (any-reverse p xs) ∙ turn (p x) (list_any p xs)
  where
    turn : (a b : Bool) → (b || (a || false)) ≡ (a || b)
    turn true true = refl
    turn true false = refl
    turn false true = refl
    turn false false = refl

-- ---- distinct projections

distinct-append : (b ps qs : List Shown) → distinct_from b (ps ++ qs) ≡ distinct_from (distinct_from b ps) qs
distinct-append b [] qs = refl
distinct-append b (p ∷ ps) qs = distinct-append (add_shown b p) ps qs

each-added : (P : Shown → Type 0) (b : List Shown) (p : Shown) → Each P b → P p → Each P (add_shown b p)
each-added P b p h k = by (list_any (is_same p) b)
  where
    by : (x : Bool) → Each P (cond x b (b ++ p ∷ []))
    by true = h
    by false = each-append P b (p ∷ []) h (k, tt)

pub each-distinct : (P : Shown → Type 0) (b ps : List Shown) → Each P b → Each P ps → Each P (distinct_from b ps)
each-distinct P b [] h k = h
each-distinct P b (p ∷ ps) h k = each-distinct P (add_shown b p) ps (each-added P b p h k.0) k.1

same-through : (m p : Shown) (b : List Shown) → is_same m p ≡ true → list_any (is_same p) b ≡ true → list_any (is_same m) b ≡ true
same-through m p b e h = ap (λ n. list_any (λ s. same_bytes n s.commit) b) ((bytes_decides m.commit p.commit).0 e) ∙ h

added-kept : (m p : Shown) (b : List Shown) → list_any (is_same m) b ≡ true → list_any (is_same m) (add_shown b p) ≡ true
added-kept m p b h = by (list_any (is_same p) b)
  where
    by : (x : Bool) → list_any (is_same m) (cond x b (b ++ p ∷ [])) ≡ true
    by true = h
    by false = any-in-front (is_same m) b (p ∷ []) h

added-here : (m p : Shown) (b : List Shown) → is_same m p ≡ true → list_any (is_same m) (add_shown b p) ≡ true
added-here m p b e = by (list_any (is_same p) b) refl
  where
    by : (x : Bool) → list_any (is_same p) b ≡ x → list_any (is_same m) (cond x b (b ++ p ∷ [])) ≡ true
    by true h = same-through m p b e h
    by false h = any-behind (is_same m) b (p ∷ []) (or_left (is_same m p) false e)

distinct-kept : (m : Shown) (b ps : List Shown) → list_any (is_same m) b ≡ true → list_any (is_same m) (distinct_from b ps) ≡ true
distinct-kept m b [] h = h
distinct-kept m b (p ∷ ps) h = distinct-kept m (add_shown b p) ps (added-kept m p b h)

-- what is in a list is in its distinct ones
pub distinct-has : (m : Shown) (b ps : List Shown) → list_any (is_same m) ps ≡ true → list_any (is_same m) (distinct_from b ps) ≡ true
distinct-has m b [] h = absurd (true≢false (sym h))
distinct-has m b (p ∷ ps) h = by (is_same m p) refl h (distinct-has m (add_shown b p) ps)
  where
    by : (x : Bool) → is_same m p ≡ x → (x || list_any (is_same m) ps) ≡ true → (list_any (is_same m) ps ≡ true → list_any (is_same m) (distinct_from (add_shown b p) ps) ≡ true) → list_any (is_same m) (distinct_from (add_shown b p) ps) ≡ true
    by true e h k = distinct-kept m (add_shown b p) ps (added-here m p b e)
    by false e h k = k h

-- ---- what is reached

pub reached-in : (g : Graph) (ws : List Bytes) → Each (λ d. has g (snapshot_name d) ≡ true) (reached g ws)
reached-in [] ws = tt
reached-in (c ∷ g) ws =
    each-append (λ d. has (c ∷ g) (snapshot_name d) ≡ true) (cond (is_wanted ws c) (c ∷ []) []) (reached g (wanted_below ws c)) (by (is_wanted ws c))
    (each-map (λ d. has g (snapshot_name d) ≡ true) (λ d. has (c ∷ g) (snapshot_name d) ≡ true) (λ d h. has-newer c g (snapshot_name d) h) (reached g (wanted_below ws c)) (reached-in g (wanted_below ws c)))
  where
    by : (b : Bool) → Each (λ d. has (c ∷ g) (snapshot_name d) ≡ true) (cond b (c ∷ []) [])
    by true = (or_left (has_name (snapshot_name c) c) (has g (snapshot_name c)) (same_bytes-self (snapshot_name c)), tt)
    by false = tt

pub wanted-still : (ws : List Bytes) (c : Snapshot) (n : Bytes) → list_any (same_bytes n) ws ≡ true → list_any (same_bytes n) (wanted_below ws c) ≡ true
wanted-still ws c n h = by (is_wanted ws c)
  where
    by : (b : Bool) → list_any (same_bytes n) (cond b (c.parents ++ ws) ws) ≡ true
    by true = any-behind (same_bytes n) c.parents ws h
    by false = h

-- what is wanted and there is reached
pub reached-has : (g : Graph) (ws : List Bytes) (n : Bytes) → has g n ≡ true → list_any (same_bytes n) ws ≡ true → has (reached g ws) n ≡ true
reached-has [] ws n h k = h
reached-has (c ∷ g) ws n h k = by (has_name n c) refl h (λ e. reached-has g (wanted_below ws c) n e (wanted-still ws c n k))
  where
    by : (b : Bool) → has_name n c ≡ b → (b || has g n) ≡ true → (has g n ≡ true → has (reached g (wanted_below ws c)) n ≡ true) → has (cond (is_wanted ws c) (c ∷ []) [] ++ reached g (wanted_below ws c)) n ≡ true
    by true e h r =
        let here : is_wanted ws c ≡ true = ap (λ m. list_any (same_bytes m) ws) (sym ((bytes_decides n (snapshot_name c)).0 e)) ∙ k in
        any-in-front (has_name n) (cond (is_wanted ws c) (c ∷ []) []) (reached g (wanted_below ws c)) (ap (λ b. list_any (has_name n) (cond b (c ∷ []) [])) here ∙ or_left (has_name n c) false e)
    by false e h r = any-behind (has_name n) (cond (is_wanted ws c) (c ∷ []) []) (reached g (wanted_below ws c)) (r h)

-- ---- choices

member-among : (P : Shown → Type 0) (test : Shown → Bool) (c : Snapshot) (ms : List Shown) (m : Shown) → Each P ms → member_or (find test ms) c ≡ Member m → P m
member-among P test c [] m h e = cc
member-among P test c (x ∷ ms) m h e = by (test x) e (member-among P test c ms m h.1)
  where
    by : (b : Bool) → member_or (cond b (Some x) (find test ms)) c ≡ Member m → (member_or (find test ms) c ≡ Member m → P m) → P m
    by true e k = let same : x ≡ m = cc in subst P same h.0
    by false e k = k e

pub member-of : (k : Rule) (P : Shown → Type 0) (leading : Shown → Bool) (t : Flat) (letter : Letter) (ms : List Shown) (m : Shown) → Each P ms → chosen k leading t letter ms ≡ Member m → P m
member-of k P leading t letter [] m h e = by (is_nil t) e
  where
    by : (b : Bool) → cond b Nothing (New (own t letter [])) ≡ Member m → P m
    by true e = cc
    by false e = cc
member-of k P leading t letter (x ∷ []) m h e = by (has_tree t x) e
  where
    by : (b : Bool) → cond b (Member x) (New (own t letter (x ∷ []))) ≡ Member m → P m
    by true e = let same : x ≡ m = cc in subst P same h.0
    by false e = cc
member-of One P leading t letter (x ∷ y ∷ ms) m h e = cc
member-of Two P leading t letter (x ∷ y ∷ ms) m h e = member-among P (λ z. has_tree t z && leading z) (own t letter (x ∷ y ∷ ms)) (x ∷ y ∷ ms) m h e

abbrev pub names : List Shown → List Bytes
names ms = map (λ m. m.commit) ms

new-member : (o : Option Shown) (c d : Snapshot) → member_or o c ≡ New d → d.parents ≡ c.parents
new-member None c d e = let same : d ≡ c = cc in ap (λ (x : Snapshot). x.parents) same
new-member (Some m) c d e = cc

pub new-parents : (k : Rule) (leading : Shown → Bool) (t : Flat) (letter : Letter) (ms : List Shown) (d : Snapshot) → chosen k leading t letter ms ≡ New d → d.parents ≡ names ms
new-parents k leading t letter [] d e = by (is_nil t) e
  where
    by : (b : Bool) → cond b Nothing (New (own t letter [])) ≡ New d → d.parents ≡ []
    by true e = cc
    by false e = let same : d ≡ own t letter [] = cc in ap (λ (x : Snapshot). x.parents) same
new-parents k leading t letter (x ∷ []) d e = by (has_tree t x) e
  where
    by : (b : Bool) → cond b (Member x) (New (own t letter (x ∷ []))) ≡ New d → d.parents ≡ x.commit ∷ []
    by true e = cc
    by false e = let same : d ≡ own t letter (x ∷ []) = cc in ap (λ (z : Snapshot). z.parents) same
new-parents One leading t letter (x ∷ y ∷ ms) d e = let same : d ≡ own t letter (x ∷ y ∷ ms) = cc in ap (λ (z : Snapshot). z.parents) same
new-parents Two leading t letter (x ∷ y ∷ ms) d e = new-member (find (λ z. has_tree t z && leading z) (x ∷ y ∷ ms)) (own t letter (x ∷ y ∷ ms)) d e

-- ---- histories

module _ (k : Rule) (shown : Flat → Flat) where
  abbrev P : Graph → Bytes → Option Shown
  P g n = projection k shown g n

  -- the projections of what is reached
  abbrev seen : Graph → List Bytes → List Shown
  seen g ws = filter_map (λ c. P g (snapshot_name c)) (reverse (reached g ws))

  abbrev hist : Graph → List Bytes → List Shown
  hist g ws = distinct (seen g ws)

  -- the graph of what projecting them makes
  abbrev made : Graph → List Bytes → Graph
  made g ws = add_all [] (own_commits k shown g ws)

  -- the projection of a commit that is wanted is among them
  among : (xs : List Snapshot) (g : Graph) (n : Bytes) (p : Shown) → P g n ≡ Some p → has xs n ≡ true → list_any (is_same p) (filter_map (λ c. P g (snapshot_name c)) xs) ≡ true
  among [] g n p e h = h
  among (c ∷ xs) g n p e h = by (has_name n c) refl h (among xs g n p e)
    where
      rest : (o : Option Shown) → list_any (is_same p) (filter_map (λ c. P g (snapshot_name c)) xs) ≡ true → list_any (is_same p) (cons_option o (filter_map (λ c. P g (snapshot_name c)) xs)) ≡ true
      rest None h = h
      rest (Some q) h = or_right (is_same p q) (list_any (is_same p) (filter_map (λ c. P g (snapshot_name c)) xs)) h

      by : (b : Bool) → has_name n c ≡ b → (b || has xs n) ≡ true → (has xs n ≡ true → list_any (is_same p) (filter_map (λ c. P g (snapshot_name c)) xs) ≡ true)
          → list_any (is_same p) (cons_option (P g (snapshot_name c)) (filter_map (λ c. P g (snapshot_name c)) xs)) ≡ true
      by true i h r =
          ap (λ o. list_any (is_same p) (cons_option o (filter_map (λ c. P g (snapshot_name c)) xs))) (sym (ap (P g) ((bytes_decides n (snapshot_name c)).0 i)) ∙ e)
          ∙ or_left (is_same p p) (list_any (is_same p) (filter_map (λ c. P g (snapshot_name c)) xs)) (same_bytes-self p.commit)
      by false i h r = rest (P g (snapshot_name c)) (r h)

  in-history : (g : Graph) (ws : List Bytes) (n : Bytes) (p : Shown) → P g n ≡ Some p → has g n ≡ true → list_any (same_bytes n) ws ≡ true → list_any (is_same p) (hist g ws) ≡ true
  in-history g ws n p e h w =
      distinct-has p [] (seen g ws) (among (reverse (reached g ws)) g n p e (any-reverse (has_name n) (reached g ws) ∙ reached-has g ws n h w))

  -- the members of a commit whose parents are there and wanted
  members-in : (g : Graph) (ws ns : List Bytes) → list_all (has g) ns ≡ true → Each (λ n. list_any (same_bytes n) ws ≡ true) ns →
      Each (λ m. list_any (is_same m) (hist g ws) ≡ true) (filter_map (P g) ns)
  members-in g ws [] h w = tt
  members-in g ws (n ∷ ns) h w =
      let x : (has g n ≡ true) × (list_all (has g) ns ≡ true) = and_parts (has g n) (list_all (has g) ns) h in
      by x.0 (P g n) refl (members-in g ws ns x.1 w.1)
    where
      by : has g n ≡ true → (o : Option Shown) → P g n ≡ o → Each (λ m. list_any (is_same m) (hist g ws) ≡ true) (filter_map (P g) ns) → Each (λ m. list_any (is_same m) (hist g ws) ≡ true) (cons_option o (filter_map (P g) ns))
      by h None e r = r
      by h (Some p) e r = (in-history g ws n p e h w.0, r)

  pub self-wanted : (ns ws : List Bytes) → Each (λ n. list_any (same_bytes n) (ns ++ ws) ≡ true) ns
  self-wanted [] ws = tt
  self-wanted (n ∷ ns) ws = (
    or_left (same_bytes n n) (list_any (same_bytes n) (ns ++ ws)) (same_bytes-self n),
    each-map (λ m. list_any (same_bytes m) (ns ++ ws) ≡ true) (λ m. list_any (same_bytes m) ((n ∷ ns) ++ ws) ≡ true) (λ m e. or_right (same_bytes m n) (list_any (same_bytes m) (ns ++ ws)) e) ns (self-wanted ns ws),
  )

  -- the list of the history is that of the commits that were made, and they are a graph
  pub record IsListed (g : Graph) (ws : List Bytes) : Type 0 where
    pub same : map shown_of (reverse (made g ws)) ≡ hist g ws
    pub graph : is_graph (made g ws) ≡ true

  has-made : (g : Graph) (ws : List Bytes) → IsListed g ws → (m : Shown) → list_any (is_same m) (hist g ws) ≡ has (made g ws) m.commit
  has-made g ws i m =
      ap (list_any (is_same m)) (sym i.same) ∙ same-image (is_same m) (has_name m.commit) shown_of (λ c. refl) (reverse (made g ws))
      ∙ any-reverse (has_name m.commit) (made g ws)

  all-made : (g : Graph) (ws : List Bytes) → IsListed g ws → (ms : List Shown) → Each (λ m. list_any (is_same m) (hist g ws) ≡ true) ms → list_all (has (made g ws)) (names ms) ≡ true
  all-made g ws i [] h = refl
  all-made g ws i (m ∷ ms) h = and_from (has (made g ws) m.commit) (list_all (has (made g ws)) (names ms)) (sym (has-made g ws i m) ∙ h.0) (all-made g ws i ms h.1)

  module _ (c : Snapshot) (g : Graph) (w : IsGrown c g) where
    -- what becomes of the newest commit
    abbrev ch : Choice
    ch = choice_of k shown g (projections k shown [] g) c

    own-projection : P (c ∷ g) (snapshot_name c) ≡ projected ch
    own-projection = projection-newest k shown c g (snapshot_name c) ∙ ap (λ b. cond b (projected ch) (P g (snapshot_name c))) (same_bytes-self (snapshot_name c))

    older-same : (ws : List Bytes) → filter_map (λ d. P (c ∷ g) (snapshot_name d)) (reverse (reached g ws)) ≡ seen g ws
    older-same ws =
        filter-same (λ d. P (c ∷ g) (snapshot_name d)) (λ d. P g (snapshot_name d)) (reverse (reached g ws))
        (each-reverse (λ d. P (c ∷ g) (snapshot_name d) ≡ P g (snapshot_name d)) (reached g ws)
        (each-map (λ d. has g (snapshot_name d) ≡ true) (λ d. P (c ∷ g) (snapshot_name d) ≡ P g (snapshot_name d)) (λ d h. projection-newer k shown c g (snapshot_name d) w.new h) (reached g ws) (reached-in g ws)))

    -- one commit more
    module _ (ws : List Bytes) (i : IsListed g ws) (inside : Each (λ m. list_any (is_same m) (hist g ws) ≡ true) (members (projections k shown [] g) c.parents)) where
      grown-list : (o : Choice) → ch ≡ o → map shown_of (reverse (add_all (made g ws) (option_to_list (own_commit o)))) ≡ distinct_from (hist g ws) (cons_option (projected o) [])
      grown-list Nothing e = i.same
      grown-list (Member m) e =
          i.same ∙ sym (ap (λ b. cond b (hist g ws) (hist g ws ++ m ∷ []))
          (member-of k (λ m. list_any (is_same m) (hist g ws) ≡ true) (leads g (projections k shown [] g) c.parents) (shown c.tree) c.letter (members (projections k shown [] g) c.parents) m inside e))
      grown-list (New d) e = by (has (made g ws) (snapshot_name d)) ∙ ap (λ b. cond b (hist g ws) (hist g ws ++ shown_of d ∷ [])) (sym (has-made g ws i (shown_of d)))
        where
          by : (b : Bool) → map shown_of (reverse (cond b (made g ws) (d ∷ made g ws))) ≡ cond b (hist g ws) (hist g ws ++ shown_of d ∷ [])
          by true = i.same
          by false = ap (map shown_of) (reverse-more d (made g ws)) ∙ map-append shown_of (reverse (made g ws)) (d ∷ []) ∙ ap (λ xs. xs ++ shown_of d ∷ []) i.same

      grown-graph : (o : Choice) → ch ≡ o → is_graph (add_all (made g ws) (option_to_list (own_commit o))) ≡ true
      grown-graph Nothing e = i.graph
      grown-graph (Member m) e = i.graph
      grown-graph (New d) e =
          add-graph (made g ws) d
          (ap (list_all (has (made g ws))) (new-parents k (leads g (projections k shown [] g) c.parents) (shown c.tree) c.letter (members (projections k shown [] g) c.parents) d e)
          ∙ all-made g ws i (members (projections k shown [] g) c.parents) inside) i.graph

    -- whether it is wanted or not
    listed-at : (ws : List Bytes) (b : Bool) → IsListed g ws → (b ≡ true → Each (λ m. list_any (is_same m) (hist g ws) ≡ true) (members (projections k shown [] g) c.parents))
        → (map shown_of (reverse (add_all [] (own_commits k shown g ws ++ cond b (option_to_list (own_commit ch)) [])))
        ≡ distinct (filter_map (λ d. P (c ∷ g) (snapshot_name d)) (reverse (cond b (c ∷ []) [] ++ reached g ws))))
        × (is_graph (add_all [] (own_commits k shown g ws ++ cond b (option_to_list (own_commit ch)) [])) ≡ true)
    listed-at ws false i inside = (
      ap (λ xs. map shown_of (reverse (add_all [] xs))) (append-nil (own_commits k shown g ws)) ∙ i.same ∙ ap distinct (sym (older-same ws)),
      ap (λ xs. is_graph (add_all [] xs)) (append-nil (own_commits k shown g ws)) ∙ i.graph,
    )
    listed-at ws true i inside = (
      ap (λ xs. map shown_of (reverse xs)) (fold-append add [] (own_commits k shown g ws) (option_to_list (own_commit ch)))
          ∙ grown-list ws i (inside refl) ch refl
          ∙ ap (λ o. distinct_from (hist g ws) (cons_option o [])) (sym own-projection)
          ∙ ap (λ xs. distinct_from (distinct xs) (filter_map (λ d. P (c ∷ g) (snapshot_name d)) (c ∷ []))) (sym (older-same ws))
          ∙ sym (distinct-append [] (filter_map (λ d. P (c ∷ g) (snapshot_name d)) (reverse (reached g ws))) (filter_map (λ d. P (c ∷ g) (snapshot_name d)) (c ∷ [])))
          ∙ ap distinct (sym (filter-append (λ d. P (c ∷ g) (snapshot_name d)) (reverse (reached g ws)) (c ∷ [])))
          ∙ ap (λ xs. distinct (filter_map (λ d. P (c ∷ g) (snapshot_name d)) xs)) (sym (reverse-more c (reached g ws))),
      ap is_graph (fold-append add [] (own_commits k shown g ws) (option_to_list (own_commit ch))) ∙ grown-graph ws i (inside refl) ch refl,
    )

  wanted-parents : (c : Snapshot) (ws : List Bytes) (b : Bool) → is_wanted ws c ≡ b → b ≡ true → wanted_below ws c ≡ c.parents ++ ws
  wanted-parents c ws true e h = ap (λ b. cond b (c.parents ++ ws) ws) e
  wanted-parents c ws false e h = absurd (true≢false (sym h))

  pub listed : (g : Graph) → is_graph g ≡ true → (ws : List Bytes) → IsListed g ws
  listed [] s ws = record { same = refl; graph = refl }
  listed (c ∷ g) s ws =
      let w : IsGrown c g = grown c g s in
      let r = listed-at c g w (wanted_below ws c) (is_wanted ws c) (listed g w.graph (wanted_below ws c))
      (λ h. each-distinct (λ m. list_any (is_same m) (hist g (wanted_below ws c)) ≡ true) [] (filter_map (P g) c.parents) tt
      (members-in g (wanted_below ws c) c.parents w.parents
      (subst (λ vs. Each (λ n. list_any (same_bytes n) vs ≡ true) c.parents) (sym (wanted-parents c ws (is_wanted ws c) refl h)) (self-wanted c.parents ws)))) in
      record { same = r.0; graph = r.1 }

  -- the projection of what is reached has the name of one of the commits that are made
  pub seen-made : (g : Graph) (ws : List Bytes) (n : Bytes) (p : Shown) → is_graph g ≡ true → P g n ≡ Some p → has (reached g ws) n ≡ true → has (made g ws) p.commit ≡ true
  seen-made g ws n p s e h =
      sym (has-made g ws (listed g s ws) p)
      ∙ distinct-has p [] (seen g ws) (among (reverse (reached g ws)) g n p e (any-reverse (has_name n) (reached g ws) ∙ h))

  -- a commit's projection has the name of one of the commits that its history makes
  pub head-made : (g : Graph) (h : Bytes) (p : Shown) → is_graph g ≡ true → P g h ≡ Some p → has g h ≡ true → has (made g (h ∷ [])) p.commit ≡ true
  head-made g h p s e t = sym (has-made g (h ∷ []) (listed g s (h ∷ [])) p) ∙ in-history g (h ∷ []) h p e t (or_left (same_bytes h h) false (same_bytes-self h))
