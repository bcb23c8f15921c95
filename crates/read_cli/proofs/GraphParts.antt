-- A graph without some of its commits.
use Rattle.std.proofs.Common.{◌≡◌, ◌⊎◌, inl, inr, Bool, true, false, not, cond, ◌||◌, true≢false, List, [], ◌∷◌, ◌++◌, map, reverse, refl, sym, ap, subst, ◌∙◌}
use Rattle.std.specs.List.{list_all}
use Rattle.std.specs.Cmp.Lexicographic.{bytes_decides}
use Rattle.std.proofs.lemmas.Bool.{and_from, and_parts}
use Rattle.git_objects.specs.Lists.{Each}
use Rattle.git_objects.specs.Paths.{Bytes, same_bytes}
use Rattle.git_objects.specs.Snapshots.{Graph, Snapshot, has, has_name, is_graph, is_wanted, reached, snapshot_name, wanted_below}
use Rattle.git_objects.specs.declared.kind.Kind.TheVariants.{Commit}
use Rattle.git_objects.proofs.Basics.{same_bytes-back}
use Rattle.object_store.specs.Objects as objects
use Rattle.object_store.specs.Objects.{Object}
use Rattle.fast_export.specs.ExportTexts.{is_among}
use Rattle.fast_export.specs.Histories.{are_distinct, parents_in}
use Rattle.incremental_export.specs.Histories.{are_behind}
use Rattle.incremental_export.specs.Unreached.{unreached}
use Rattle.projection_laws.proofs.GraphLemmas.{IsGrown, grown, has-newer}
use Rattle.projection_laws.proofs.HistoryLemmas.{any-append, any-reverse, each-map, each-reverse, map-append, reverse-more, same-image}
use Rattle.projection_ground.proofs.Growing.{commit-there}
use Rattle.incremental_export.proofs.StoredUnreached.{IsFound, own_parents}
use Rattle.read_cli.proofs.FoundCommits.{own-commit}

abbrev pub IsPart : Graph → Graph → Type 0
IsPart cs [] = cs ≡ []
IsPart cs (c ∷ older) = IsPart cs older ⊎ ((ds : Graph) × (cs ≡ c ∷ ds) × IsPart ds older)

pub reached-part : (g : Graph) (ws : List Bytes) → IsPart (reached g ws) g
reached-part [] ws = refl
reached-part (c ∷ older) ws = by (is_wanted ws c) (reached-part older (wanted_below ws c))
  where
    by : (b : Bool) → IsPart (reached older (wanted_below ws c)) older → IsPart (cond b (c ∷ []) [] ++ reached older (wanted_below ws c)) (c ∷ older)
    by true h = inr (reached older (wanted_below ws c), refl, h)
    by false h = inl h

pub unreached-part : (g : Graph) (ws : List Bytes) → IsPart (unreached g ws) g
unreached-part [] ws = refl
unreached-part (c ∷ older) ws = by (is_wanted ws c) (unreached-part older (wanted_below ws c))
  where
    by : (b : Bool) → IsPart (unreached older (wanted_below ws c)) older → IsPart (cond b [] (c ∷ []) ++ unreached older (wanted_below ws c)) (c ∷ older)
    by false h = inr (unreached older (wanted_below ws c), refl, h)
    by true h = inl h

pub part-of-part : (g a b : Graph) → IsPart a b → IsPart b g → IsPart a g
part-of-part [] a b h k = subst (IsPart a) k h
part-of-part (c ∷ older) a b h (inl k) = inl (part-of-part older a b h k)
part-of-part (c ∷ older) a b h (inr k) = by k.0 (subst (IsPart a) k.1 h) (λ d x. part-of-part older d k.0 x k.2)
  where
    by : (ds : Graph) → IsPart a (c ∷ ds) → ((d : Graph) → IsPart d ds → IsPart d older) → IsPart a (c ∷ older)
    by ds (inl x) f = inl (f a x)
    by ds (inr x) f = inr (x.0, x.1, f x.0 x.2)

pub part-each : (P : Snapshot → Type 0) (g cs : Graph) → IsPart cs g → Each P g → Each P cs
part-each P [] cs h e = subst (Each P) (sym h) tt
part-each P (c ∷ older) cs (inl h) e = part-each P older cs h e.1
part-each P (c ∷ older) cs (inr h) e = subst (Each P) (sym h.1) (e.0, part-each P older h.0 h.2 e.1)

pub part-has : (g cs : Graph) (n : Bytes) → IsPart cs g → has cs n ≡ true → has g n ≡ true
part-has [] cs n h e = subst (λ (x : Graph). has x n ≡ true) h e
part-has (c ∷ older) cs n (inl h) e = has-newer c older n (part-has older cs n h e)
part-has (c ∷ older) cs n (inr h) e = by (has_name n c) (subst (λ (x : Graph). has x n ≡ true) h.1 e) (part-has older h.0 n h.2)
  where
    by : (b : Bool) → (b || has h.0 n) ≡ true → (has h.0 n ≡ true → has older n ≡ true) → (b || has older n) ≡ true
    by true q k = refl
    by false q k = k q

-- ---- names

abbrev pub names : Graph → List Bytes
names g = map snapshot_name (reverse g)

among-names : (g : Graph) (n : Bytes) → is_among n (names g) ≡ has g n
among-names g n = same-image (same_bytes n) (has_name n) snapshot_name (λ c. refl) (reverse g) ∙ any-reverse (has_name n) g

names-more : (c : Snapshot) (g : Graph) → names (c ∷ g) ≡ names g ++ snapshot_name c ∷ []
names-more c g = ap (map snapshot_name) (reverse-more c g) ∙ map-append snapshot_name (reverse g) (c ∷ [])

new-among : (c : Snapshot) (older ds : Graph) → has older (snapshot_name c) ≡ false → IsPart ds older → is_among (snapshot_name c) (names ds) ≡ false
new-among c older ds new h = among-names ds (snapshot_name c) ∙ by (has ds (snapshot_name c)) refl
  where
    by : (b : Bool) → has ds (snapshot_name c) ≡ b → b ≡ false
    by false q = refl
    by true q = absurd (true≢false (sym (part-has older ds (snapshot_name c) h q) ∙ new))

distinct-more : (ns : List Bytes) (n : Bytes) → are_distinct ns ≡ true → is_among n ns ≡ false → are_distinct (ns ++ n ∷ []) ≡ true
distinct-more [] n h e = refl
distinct-more (m ∷ ns) n h e =
    let w = and_parts (not (is_among m ns)) (are_distinct ns) h in
    let x = or-parts (same_bytes n m) (is_among n ns) e in
    and_from (not (is_among m (ns ++ n ∷ []))) (are_distinct (ns ++ n ∷ []))
    (ap not (any-append (same_bytes m) ns (n ∷ []) ∙ ap (λ b. is_among m ns || (b || false)) (same_bytes-back m n ∙ x.0) ∙ or-none (is_among m ns)) ∙ w.0)
    (distinct-more ns n w.1 x.1)
  where
    or-parts : (a b : Bool) → (a || b) ≡ false → (a ≡ false) × (b ≡ false)
    or-parts true b q = cc
    or-parts false b q = (refl, q)

    or-none : (a : Bool) → (a || false) ≡ a
    or-none true = refl
    or-none false = refl

pub part-distinct : (g cs : Graph) → is_graph g ≡ true → IsPart cs g → are_distinct (names cs) ≡ true
part-distinct [] cs w h = ap (λ (x : Graph). are_distinct (names x)) h
part-distinct (c ∷ older) cs w (inl h) = part-distinct older cs (grown c older w).graph h
part-distinct (c ∷ older) cs w (inr h) =
    let q : IsGrown c older = grown c older w in
    ap (λ (x : Graph). are_distinct (names x)) h.1
    ∙ ap are_distinct (names-more c h.0)
    ∙ distinct-more (names h.0) (snapshot_name c) (part-distinct older h.0 q.graph h.2) (new-among c older h.0 q.new h.2)

-- ---- parents

all-as : (a b : Bytes → Bool) → ((n : Bytes) → a n ≡ true → b n ≡ true) → (ns : List Bytes) → list_all a ns ≡ true → list_all b ns ≡ true
all-as a b f [] h = refl
all-as a b f (n ∷ ns) h = let w = and_parts (a n) (list_all a ns) h in and_from (b n) (list_all b ns) (f n w.0) (all-as a b f ns w.1)

all-both : (a b c : Bytes → Bool) → ((n : Bytes) → a n ≡ true → b n ≡ true → c n ≡ true) → (ns : List Bytes) → list_all a ns ≡ true → list_all b ns ≡ true → list_all c ns ≡ true
all-both a b c f [] h k = refl
all-both a b c f (n ∷ ns) h k =
    let w = and_parts (a n) (list_all a ns) h in
    let v = and_parts (b n) (list_all b ns) k in
    and_from (c n) (list_all c ns) (f n w.0 v.0) (all-both a b c f ns w.1 v.1)

pub parents-within : (g : Graph) → is_graph g ≡ true → Each (λ c. list_all (has g) c.parents ≡ true) g
parents-within [] w = tt
parents-within (c ∷ older) w =
    let q : IsGrown c older = grown c older w in (
      all-as (has older) (has (c ∷ older)) (λ n h. has-newer c older n h) c.parents q.parents,
      each-map (λ d. list_all (has older) d.parents ≡ true) (λ d. list_all (has (c ∷ older)) d.parents ≡ true) (λ d h. all-as (has older) (has (c ∷ older)) (λ n k. has-newer c older n k) d.parents h) older (parents-within older q.graph),
    )

-- none of these is a new name
none-new : (g : Graph) (n : Bytes) → has g n ≡ false → (ps : List Bytes) → list_all (has g) ps ≡ true → list_all (λ p. not (same_bytes p n)) ps ≡ true
none-new g n new ps h = all-as (has g) (λ p. not (same_bytes p n)) (λ p k. by p k (same_bytes p n) refl) ps h
  where
    by : (p : Bytes) → has g p ≡ true → (b : Bool) → same_bytes p n ≡ b → not b ≡ true
    by p k false q = refl
    by p k true q = absurd (true≢false (sym k ∙ ap (has g) ((bytes_decides p n).0 q) ∙ new))

module _ (S : List Object) where
  behind-more : (ns : List Bytes) (n : Bytes) → are_behind S ns ≡ true → Each (λ m. list_all (λ p. not (same_bytes p n)) (parents_in S m) ≡ true) ns → list_all (λ p. not (same_bytes p n)) (parents_in S n) ≡ true
      → are_behind S (ns ++ n ∷ []) ≡ true
  behind-more [] n h e k = and_from (list_all (λ p. not (is_among p (n ∷ []))) (parents_in S n)) true (all-as (λ p. not (same_bytes p n)) (λ p. not (is_among p (n ∷ []))) (λ p q. ap not (or-none (same_bytes p n)) ∙ q) (parents_in S n) k) refl
    where
      or-none : (a : Bool) → (a || false) ≡ a
      or-none true = refl
      or-none false = refl
  behind-more (m ∷ ns) n h e k =
      let w = and_parts (list_all (λ p. not (is_among p (m ∷ ns))) (parents_in S m)) (are_behind S ns) h in
      and_from (list_all (λ p. not (is_among p (m ∷ (ns ++ n ∷ [])))) (parents_in S m)) (are_behind S (ns ++ n ∷ []))
      (all-both (λ p. not (is_among p (m ∷ ns))) (λ p. not (same_bytes p n)) (λ p. not (is_among p (m ∷ (ns ++ n ∷ [])))) joined (parents_in S m) w.0 e.0)
      (behind-more ns n w.1 e.1 k)
    where
      neither : (a b : Bool) → not a ≡ true → not b ≡ true → not (a || (b || false)) ≡ true
      neither false false p q = refl
      neither false true p q = q
      neither true b p q = p

      joined : (p : Bytes) → not (is_among p (m ∷ ns)) ≡ true → not (same_bytes p n) ≡ true → not (is_among p (m ∷ (ns ++ n ∷ []))) ≡ true
      joined p a b = ap not (any-append (same_bytes p) (m ∷ ns) (n ∷ [])) ∙ neither (is_among p (m ∷ ns)) (same_bytes p n) a b

  each-names : (P : Bytes → Type 0) (cs : List Snapshot) → Each (λ c. P (snapshot_name c)) cs → Each P (map snapshot_name cs)
  each-names P [] h = tt
  each-names P (c ∷ cs) h = (h.0, each-names P cs h.1)

  pub part-behind : (g cs : Graph) → is_graph g ≡ true → Each (IsFound S) g → IsPart cs g → are_behind S (names cs) ≡ true
  part-behind [] cs w f h = ap (λ (x : Graph). are_behind S (names x)) h
  part-behind (c ∷ older) cs w f (inl h) = part-behind older cs (grown c older w).graph f.1 h
  part-behind (c ∷ older) cs w f (inr h) =
      let q : IsGrown c older = grown c older w in
      let n : Bytes = snapshot_name c in
      ap (λ (x : Graph). are_behind S (names x)) h.1
      ∙ ap (are_behind S) (names-more c h.0)
      ∙ behind-more (names h.0) n (part-behind older h.0 q.graph f.1 h.2)
      (each-names (λ m. list_all (λ p. not (same_bytes p n)) (parents_in S m) ≡ true) (reverse h.0)
      (each-reverse (λ d. list_all (λ p. not (same_bytes p n)) (parents_in S (snapshot_name d)) ≡ true) h.0
      (part-each (λ d. list_all (λ p. not (same_bytes p n)) (parents_in S (snapshot_name d)) ≡ true) older h.0 h.2 (older-apart n q.new older f.1 (parents-within older q.graph)))))
      (ap (list_all (λ p. not (same_bytes p n))) (own_parents S c f.0) ∙ none-new older n q.new c.parents q.parents)
    where
      older-apart : (n : Bytes) → has older n ≡ false → (ds : List Snapshot) → Each (IsFound S) ds → Each (λ d. list_all (has older) d.parents ≡ true) ds
          → Each (λ d. list_all (λ p. not (same_bytes p n)) (parents_in S (snapshot_name d)) ≡ true) ds
      older-apart n new [] k e = tt
      older-apart n new (d ∷ ds) k e = (
        ap (list_all (λ p. not (same_bytes p n))) (own_parents S d k.0) ∙ none-new older n new d.parents e.0,
        older-apart n new ds k.1 e.1,
      )

  -- the store has them
  held-each : (cs : List Snapshot) → Each (IsFound S) cs → list_all (objects.has Commit S) (map snapshot_name cs) ≡ true
  held-each [] h = refl
  held-each (c ∷ cs) h =
      let d = own-commit S c h.0 in
      and_from (objects.has Commit S (snapshot_name c)) (list_all (objects.has Commit S) (map snapshot_name cs)) (commit-there S (snapshot_name c) d.0 d.1) (held-each cs h.1)

  pub held-names : (cs : Graph) → Each (IsFound S) cs → list_all (objects.has Commit S) (names cs) ≡ true
  held-names cs h = held-each (reverse cs) (each-reverse (IsFound S) cs h)
