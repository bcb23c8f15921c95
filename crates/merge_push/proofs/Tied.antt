-- The parents of an original, and what it would be projected to, as the code finds them.
use Rattle.std.specs.Prelude.{◌≡◌, refl, ℕ, ◌<◌, Bool, true, cond, is_some, length, List, [], ◌∷◌, filter_map, map, Option, Some, None, All}
use Rattle.std.specs.Option.{option_map}
use Rattle.std.specs.List.{cons_option}
use Rattle.std.proofs.Common.{ap, ◌∙◌, sym}
use Rattle.std.proofs.lemmas.List.Elements.{All-cons, All-nil}
use Rattle.git_objects.specs.Lists.{Each}
use Rattle.git_objects.specs.Paths.{Bytes}
use Rattle.git_objects.specs.Snapshots.{Snapshot, has}
use Rattle.filter_text.specs.Filters.{Filter}
use Rattle.workspace.specs.Workspaces.{shown}
use Rattle.commit_map.specs.Shown.{Shown}
use Rattle.projection_laws.specs.Projections.{Choice, Nothing, Member, New, chosen, distinct, known_at, leads, members, own_commit, projection}
use Rattle.projection_laws.specs.StoredGraphs.{name_at}
use Rattle.projection_laws.proofs.HistoryLemmas.{each-map, filter-same}
use Rattle.projection_ground.specs.Choosing.{is_own_by, names_at}
use Rattle.projection_ground.specs.declared.ground.Ground.{Ground}
use Rattle.history_ground.specs.Origins.{Firsts}
use Rattle.push_laws.specs.PushLaws.{commit_of}
use Rattle.merge_laws.specs.MergeLaws.{IsJoined, projected_names}
use Rattle.merge_laws.specs.MergeReplays.{is_once}
use Rattle.merge_laws.specs.MergeVerdicts.{Progress, Tie, choice_upon, further, is_new, origin_of, tied_members, tied_names, ties}
use Rattle.merge_laws.proofs.ChoiceLemmas.{Agree, leads-same}
use Rattle.merge_laws.proofs.Merging.{parents-there}
use Rattle.merge_laws.proofs.Parents.{distinct-once, parents-law, tied-known, ties-each}
use Rattle.merge_push.specs.Places.{Places, origin_in}
use Rattle.merge_push.specs.Progressing.{IsProgress}

-- ---- lists of what there is

same-cons : {A B C : Type 0} (f : A → C) (g : B → C) (xs : List A) (ys : List B) (o : Option A) (p : Option B) → option_map f o ≡ option_map g p → map f xs ≡ map g ys → map f (cons_option o xs) ≡ map g (cons_option p ys)
same-cons f g xs ys None None e h = h
same-cons f g xs ys None (Some y) e h = absurd cc
same-cons f g xs ys (Some x) None e h = absurd cc
same-cons f g xs ys (Some x) (Some y) e h = let k : f x ≡ g y = cc in λ i. k i ∷ h i

same-map : {A B C D : Type 0} (f : A → C) (g : B → C) (F : D → Option A) (G : D → Option B) → ((d : D) → option_map f (F d) ≡ option_map g (G d)) → (ds : List D) → map f (filter_map F ds) ≡ map g (filter_map G ds)
same-map f g F G h [] = refl
same-map f g F G h (d ∷ ds) = same-cons f g (filter_map F ds) (filter_map G ds) (F d) (G d) (h d) (same-map f g F G h ds)

all-some : {A B : Type 0} (P : B → Type 0) (F : A → Option B) → ((a : A) (b : B) → F a ≡ Some b → P b) → (xs : List A) → All P (filter_map F xs)
all-some P F h [] = All-nil P
all-some {A} {B} P F h (x ∷ xs) = by (F x) refl (all-some P F h xs)
  where
    by : (o : Option B) → F x ≡ o → All P (filter_map F xs) → All P (cons_option o (filter_map F xs))
    by None e rest = rest
    by (Some y) e rest = All-cons P y (filter_map F xs) (h x y e) rest

own-new : (x : Choice) → is_some (own_commit x) ≡ is_new x
own-new Nothing = refl
own-new (Member m) = refl
own-new (New c) = refl

-- ---- the parents' places

module _ (f : Filter) (os : Firsts) (g : Ground) (before : ℕ) (es : Places) (s : Progress) (p : IsProgress f os g before es s) where
  -- what is kept of the original before is known
  pub head-known : known_at g.map (name_at g.graph before) ≡ known_at s.known s.head
  head-known = ap (known_at g.map) p.head ∙ p.kept s.head p.head_there

  module _ (c : Snapshot) where
    abbrev pub places : List ℕ
    places = before ∷ filter_map (origin_in os es) (further (known_at g.map (name_at g.graph before)) c.parents)

    abbrev es-of : List Tie
    es-of = ties s c

    pub places-named : names_at g.graph places ≡ tied_names (ties s c)
    places-named =
        (λ i. p.head i ∷ map (name_at g.graph) (filter_map (origin_in os es) (further (head-known i) c.parents)))
        ∙ ap (λ ns. s.head ∷ ns) (sym (same-map (λ (e : Tie). e.0) (name_at g.graph) (origin_of s.known) (origin_in os es) p.origins (further (known_at s.known s.head) c.parents)))

    pub places-in : All (λ q. q < length g.graph) places
    places-in = All-cons (λ q. q < length g.graph) before _ p.there (all-some (λ q. q < length g.graph) (origin_in os es) p.within (further (known_at g.map (name_at g.graph before)) c.parents))

    -- ---- whether a commit of its own is chosen

    module _ (j : IsJoined (projected_names s.known) (commit_of (known_at s.known s.head)) c) where
      abbrev P : Bytes → Option Shown
      P n = projection g.rule (shown f) s.graph n

      abbrev ns : List Bytes
      ns = tied_names (ties s c)

      there : Each (λ n. has s.graph n ≡ true) ns
      there = parents-there s c p.head_there (each-map (λ e. (e.1 ≡ P e.0) × (has s.graph e.0 ≡ true)) (λ e. has s.graph e.0 ≡ true) (λ e x. x.1) s.known p.each)

      agree : Agree s.graph s.graph g.map s.known
      agree = record { known = p.kept; below = λ n h. refl }

      members-are : members g.map ns ≡ tied_members (ties s c)
      members-are =
          ap distinct (filter-same (known_at g.map) P ns (each-map (λ n. has s.graph n ≡ true) (λ n. known_at g.map n ≡ P n) (λ n h. p.kept n h ∙ p.known n h) ns there)
          ∙ tied-known P (ties s c) (ties-each (λ e. e.1 ≡ P e.0) s c (p.known s.head p.head_there) (each-map (λ e. (e.1 ≡ P e.0) × (has s.graph e.0 ≡ true)) (λ e. e.1 ≡ P e.0) (λ e x. x.0) s.known p.each)))
          ∙ distinct-once (tied_members (ties s c)) (ap is_once (parents-law s c j) ∙ j.once)

      pub own-is : is_own_by g places c.tree c.letter ≡ is_new (choice_upon g.rule s (ties s c) c)
      own-is =
          (λ i. is_some (own_commit (chosen g.rule (leads (p.graph i) g.map (places-named i)) c.tree c.letter (members g.map (places-named i)))))
          ∙ (λ i. is_some (own_commit (chosen g.rule (λ m. leads-same s.graph s.graph g.map s.known agree ns there m i) c.tree c.letter (members-are i))))
          ∙ own-new (choice_upon g.rule s (ties s c) c)
