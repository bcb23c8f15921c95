-- What became of a projection.
use Rattle.std.proofs.Common.{◌≡◌, ◌+◌, ℕ, inl, inr, true, List, [], ◌++◌, length, Contains, Option, Some, None, Result, Ok, Err, IsSome, length-append, refl, sym, ap, subst, ◌∙◌, arith}
use Rattle.std.specs.Prelude.{◌⊎◌, sum_by}
use Rattle.std.specs.FinMap.{find}
use Rattle.std.proofs.lemmas.List.Elements.{All-weaker}
use Rattle.std.proofs.lemmas.List.Sums.{sum_by-append}
use Rattle.git_objects.specs.Paths.{Bytes}
use Rattle.git_objects.specs.Refs.{bytes_cmp}
use Rattle.git_objects.specs.Results.{◌>>=◌, or_refuse}
use Rattle.git_objects.specs.declared.name.Name.{Name}
use Rattle.object_store.specs.Growth.{IsClash, IsGrownBy}
use Rattle.object_store.specs.Objects.{Object}
use Rattle.object_store.proofs.Growth.{grown_as, grown_self}
use Rattle.commit_map.specs.Shown.{Entries, Shown, kept_at}
use Rattle.filter_text.specs.Filters.{Filter}
use Rattle.filter_text.specs.Printing.{printed}
use Rattle.workspace.specs.Workspaces.{shown}
use Rattle.projection_laws.specs.Filled.{IsFilled}
use Rattle.projection_laws.specs.Projections.{projection_by}
use Rattle.projection_ground.specs.Grounds.{Extends, IsGround, IsShownOf, commits_of}
use Rattle.projection_ground.specs.declared.ground.Ground.{Ground}
use Rattle.proj_io.specs.Stops.{IsPresent, OnlyAdds, adds_as}
use Rattle.proj_io.specs.Views.{KeeperView}
use Rattle.state_items.specs.Changes.{KeepPlan, NoPlan, Plan, Room, held_after, passed, plan_items, room_of}
use Rattle.state_items.specs.Hands.{IsTwice}
use Rattle.state_items.specs.Items.{Held, is_canonical, read_items}
use Rattle.state_items.specs.Repos.{repo}
use Rattle.state_items.proofs.Appended.{appended}
use Rattle.state_items.proofs.Kepts.{kept-law}
use Rattle.repo_ground.specs.Changes.{GetsItems, IsCommitted, IsStopOf, KeepsItems}
use Rattle.repo_ground.specs.Contents.{Contents, room_in}
use Rattle.repo_ground.specs.Keeping.{AreNamed, keep_plan, new_entries}
use Rattle.repo_ground.specs.Selecting.{IsSelected}
use Rattle.repo_ground.proofs.ItemRuns.{stays-self}
use Rattle.proj_words.specs.declared.outcome.Outcome.{Outcome}
use Rattle.proj_words.specs.declared.outcome.Outcome.TheVariants.{Collision, OutOfMemory, StoreFault, UnknownRef}
use Rattle.proj_commands.specs.Cases.{Case, ProjectCase, head_of, unchanged}
use Rattle.proj_commands.specs.Lines.{name_line}
use Rattle.proj_commands.specs.Filters.{entries_of, project_by, project_of, recalled, sound}
use Rattle.proj_commands.specs.Hands.{IsInHands}
use Rattle.proj_commands.specs.Makes.{IsGoodPlan, IsKeepOf, IsKeepPlanOf, IsMadeOf, IsPlanned, IsStateOf, hands_of}
use Rattle.proj_commands.specs.Plans.{AreKept, RecallLaw}
use Rattle.proj_commands.proofs.InHands.{twice-at}
use Rattle.proj_commands.proofs.Keeps.{head-recalled, keep-planned, room-same, state-projected, state-selected}
use Rattle.proj_commands.proofs.SoundTexts.{sound-again}
use Rattle.proj_commands.proofs.StatesShown.{shown-at}

-- ---- nothing is done to the keeper

pub keeps-items : (v : KeeperView) → KeepsItems v v
keeps-items v = (refl, stays-self v.items)

pub adds-none : (m : ℕ) (since : ℕ → List Bytes → Type 0) (Kind : List Bytes → Type 0) → OnlyAdds m m since since Kind
adds-none m since Kind = record { later = omega arith; each = λ t left le was. inl was }

-- a stop left the items as they are
stop-present : (h : Held) (s : Contents) (o : Option (List Bytes)) (left : List Bytes) → IsPresent o left → IsStopOf h s NoPlan o left
stop-present h s None left k = tt
stop-present h s (Some all) left k = inl k

pub adds-present : (h : Held) (s : Contents) (a b : ℕ) (y z : ℕ → List Bytes → Type 0) (o : Option (List Bytes)) → OnlyAdds a b y z (IsPresent o) → OnlyAdds a b y z (IsStopOf h s NoPlan o)
adds-present h s a b y z o = adds_as a b y z (IsPresent o) (IsStopOf h s NoPlan o) (stop-present h s o)

-- ---- a plan that is none

good-none : (items : List Bytes) (h : Held) (room : Room) → IsGoodPlan items h room NoPlan
good-none items h room = record { within = refl; addition = tt; kept = λ k. (kept-law project_by).none items h k }

-- ---- a plan that is one of a projection

module _ (items : List Bytes) (h : Held) (s : Contents) (f : Filter) (n : Bytes) (w : IsStateOf items h s) (recall : RecallLaw) (t : Bytes) (read : sound t ≡ Ok f) (p : Plan) (k : IsKeepPlanOf h f n (room_in s) p) where
  room-is : room_in s ≡ room_of items
  room-is = λ i. record { number = w.current.number i; size = w.current.size i }

  true-one : AreKept items h → is_canonical (printed f) ≡ true → (e : Bytes × Option Shown) → e.1 ≡ recalled (entries_of h f) h.rule f (repo h).commits e.0
      → e.1 ≡ project_by h.rule (printed f) (repo h).commits e.0
  true-one a c e v =
      let again = sound-again t f read c in
      v ∙ recall items h f e.0 a w.spells.store again ∙ sym (ap (λ (r : Result Filter Outcome). project_of r h.rule (repo h).commits e.0) again)

  good-keep : (es : Entries) → IsKeepOf h f (room_in s) es → IsGoodPlan items h (room_in s) (KeepPlan h.rule (printed f) es)
  good-keep es o = record {
    within = o.within;
    addition = o.addition;
    kept = λ a. (kept-law project_by).keep items h h.rule (printed f) es a o.addition
        (ap (λ (r : Room). passed h r (KeepPlan h.rule (printed f) es)) (sym room-is) ∙ o.within)
        (All-weaker (λ e. e.1 ≡ recalled (entries_of h f) h.rule f (repo h).commits e.0) (λ e. e.1 ≡ project_by h.rule (printed f) (repo h).commits e.0) (true-one a o.canonical) es o.values);
  }

  pub good : IsGoodPlan items h (room_in s) p
  good = by k.plan
    where
      by : (p ≡ NoPlan) ⊎ ((es : Entries) × (p ≡ KeepPlan h.rule (printed f) es) × IsKeepOf h f (room_in s) es) → IsGoodPlan items h (room_in s) p
      by (inl e) = subst (IsGoodPlan items h (room_in s)) (sym e) (good-none items h (room_in s))
      by (inr o) = subst (IsGoodPlan items h (room_in s)) (sym o.1) (good-keep o.0 o.2)

  pub planned : IsPlanned (room_in s) (Ok (ProjectCase h f n)) p
  planned = record { case = ProjectCase h f n; came_up = refl; step = unchanged h (name_line (recalled (entries_of h f) h.rule f (repo h).commits n)); done = refl; planned = k }

  -- the items with the plan's behind them spell what is held then
  pub spelled : read_items (items ++ plan_items p) ≡ Ok (held_after h p)
  spelled = appended items h p w.current.read good.addition (ap (λ (r : Room). passed h r p) (sym room-is) ∙ good.within)

-- ---- no ref

module _ (items : List Bytes) (h : Held) (s : Contents) (f : Filter) (refname : Bytes) (w : IsStateOf items h s) where
  abbrev asked : Result Case Outcome
  asked = head_of refname h.refs >>= λ m. Ok (ProjectCase h f m)

  pub no-ref : find bytes_cmp refname h.refs ≡ None → (before : KeeperView) → IsMadeOf asked items h s s before before NoPlan (Err UnknownRef)
  no-ref e before =
      subst (λ (o : Option Bytes). IsMadeOf (or_refuse UnknownRef o >>= λ m. Ok (ProjectCase h f m)) items h s s before before NoPlan (Err UnknownRef)) (sym e)
      (record {
        reported = refl;
        planned = refl;
        good = good-none items h (room_in s);
        stored = keeps-items before;
        state = w;
        grown = grown_self (IsInHands []) s.basis.store w.ground.graph.store;
      })

-- ---- a projection

module _ (items : List Bytes) (h : Held) (s : Contents) (f : Filter) (refname n : Bytes) (w : IsStateOf items h s) (e : find bytes_cmp refname h.refs ≡ Some n) where
  abbrev came : Result Case Outcome
  came = Ok (ProjectCase h f n)

  came-up : (s' : Contents) (before after : KeeperView) (p : Plan) (result : Result Bytes Outcome) → IsMadeOf came items h s s' before after p result
      → IsMadeOf (asked items h s f refname w) items h s s' before after p result
  came-up s' before after p result m =
      subst (λ (o : Option Bytes). IsMadeOf (or_refuse UnknownRef o >>= λ m. Ok (ProjectCase h f m)) items h s s' before after p result) (sym e) m

  -- without memory
  pub no-memory : (s' : Contents) (before after : KeeperView) → KeepsItems before after → IsGrownBy (IsInHands (hands_of came)) s.basis.store s'.basis.store
      → IsMadeOf (asked items h s f refname w) items h s s' before after NoPlan (Err OutOfMemory)
  no-memory s' before after k g = came-up s' before after NoPlan (Err OutOfMemory) (record {
    reported = tt;
    planned = refl;
    good = good-none items h (room_in s);
    stored = k;
    state = tt;
    grown = g;
  })

  -- a store that is as before
  pub none-grown : (S : List Object) → S ≡ s.basis.store → IsGrownBy (IsInHands (hands_of came)) s.basis.store S
  none-grown S q = subst (IsGrownBy (IsInHands (hands_of came)) s.basis.store) (sym q) (grown_self (IsInHands (hands_of came)) s.basis.store w.ground.graph.store)

  module _ (first : s.selected ≡ None) (s1 : Contents) (c : IsSelected (printed f) s s1) where
    store-same : s1.basis.store ≡ s.basis.store
    store-same = ap (λ (x : Contents). x.basis.store) c.same

    -- what is shown upon the selected filter is in hand
    shown-in-hand : (o : Object) → IsShownOf f (commits_of s1.basis) o → IsInHands (hands_of came) o
    shown-in-hand = shown-at items h s1 f n (state-selected items h s f w first s1 c)

    pub shown-grown : (T : List Object) → IsGrownBy (IsShownOf f (commits_of s1.basis)) s1.basis.store T → IsGrownBy (IsInHands (hands_of came)) s.basis.store T
    shown-grown T g = subst (λ (S : List Object). IsGrownBy (IsInHands (hands_of came)) S T) store-same (grown_as (IsShownOf f (commits_of s1.basis)) (IsInHands (hands_of came)) s1.basis.store T shown-in-hand g)

    module _ (g : Ground) (filled : IsFilled s1.basis.rule (shown f) (commits_of s1.basis) n s1.basis.map g.map) (x : Extends (IsShownOf f (commits_of s1.basis)) s1.basis g) where
      abbrev s2 : Contents
      s2 = record s1 { basis = g }

      pub collided : (before : KeeperView) (k : Name) → IsClash (IsShownOf f (commits_of s1.basis)) g.store k.0
          → IsMadeOf (asked items h s f refname w) items h s s2 before before NoPlan (Err (Collision k))
      collided before k clash = came-up s2 before before NoPlan (Err (Collision k)) (record {
        reported = inr (subst (λ (S : List Object). IsTwice (λ o. Contains S o ⊎ IsInHands (hands_of came) o) k.0) store-same
            (twice-at (IsShownOf f (commits_of s1.basis)) (IsInHands (hands_of came)) s1.basis.store g.store k.0 shown-in-hand x.store clash));
        planned = refl;
        good = good-none items h (room_in s);
        stored = keeps-items before;
        state = state-projected items h s f w first s1 c n g filled x;
        grown = shown-grown g.store x.store;
      })

      module _ (found : IsSome (kept_at n g.map)) (named : is_canonical (printed f) ≡ true → AreNamed (new_entries s2)) (recall : RecallLaw) (t : Bytes) (read : sound t ≡ Ok f) where
        abbrev p : Plan
        p = keep_plan h s2 (printed f)

        plan-of : IsKeepPlanOf h f n (room_in s) p
        plan-of = keep-planned items h s f w first s1 c n g filled x found named

        -- the store failed
        pub store-failed : (s3 : Contents) (before after : KeeperView) → KeepsItems before after ⊎ GetsItems (plan_items p) before after → s3.basis ≡ g
            → IsMadeOf (asked items h s f refname w) items h s s3 before after p (Err StoreFault)
        store-failed s3 before after k b = came-up s3 before after p (Err StoreFault) (record {
          reported = tt;
          planned = planned items h s f n w recall t read p plan-of;
          good = good items h s f n w recall t read p plan-of;
          stored = k;
          state = tt;
          grown = shown-grown s3.basis.store (subst (λ (q : Ground). IsGrownBy (IsShownOf f (commits_of s1.basis)) s1.basis.store q.store) (sym b) x.store);
        })

        state-kept : (s3 : Contents) → IsCommitted h p s2 s3 → s3.basis ≡ g → IsStateOf (items ++ plan_items p) (held_after h p) s3
        state-kept s3 d b =
            let before = state-projected items h s f w first s1 c n g filled x in
            record {
              current = record {
                read = spelled items h s f n w recall t read p plan-of;
                number = d.appended.number ∙ ap (λ (m : ℕ). m + length (plan_items p)) before.current.number ∙ sym (length-append items (plan_items p));
                size = d.appended.size ∙ ap (λ (m : ℕ). m + sum_by length (plan_items p)) before.current.size ∙ sym (sum_by-append length items (plan_items p));
              };
              spells = d.appended.spells;
              ground = subst IsGround (sym b) x.ground;
            }

        -- all is done
        pub projected-now : (s3 : Contents) (before after : KeeperView) (report : Bytes) → GetsItems (plan_items p) before after → IsCommitted h p s2 s3 → s3.basis ≡ g
            → report ≡ name_line (projection_by s1.basis.rule (shown f) s1.basis.map (commits_of s1.basis) n)
            → IsMadeOf (asked items h s f refname w) items h s s3 before after p (Ok report)
        projected-now s3 before after report k d b line = came-up s3 before after p (Ok report) (record {
          reported = sym (line ∙ ap name_line (head-recalled items h s f w first s1 c n g filled x));
          planned = planned items h s f n w recall t read p plan-of;
          good = good items h s f n w recall t read p plan-of;
          stored = k;
          state = state-kept s3 d b;
          grown = shown-grown s3.basis.store (subst (λ (q : Ground). IsGrownBy (IsShownOf f (commits_of s1.basis)) s1.basis.store q.store) (sym b) x.store);
        })

        -- what a stop leaves
        stop-as : (o : Option (List Bytes)) (left : List Bytes) → IsStopOf h s2 p o left → IsStopOf h s p o left
        stop-as None left k = tt
        stop-as (Some all) left (inl k) = inl k
        stop-as (Some all) left (inr k) = inr (ap (λ (r : Room). passed h r p) (sym (room-same items h s f w first s1 c)) ∙ k.0, k.1)

        pub adds-kept : (a b : ℕ) (y z : ℕ → List Bytes → Type 0) (o : Option (List Bytes)) → OnlyAdds a b y z (IsStopOf h s2 p o) → OnlyAdds a b y z (IsStopOf h s p o)
        adds-kept a b y z o = adds_as a b y z (IsStopOf h s2 p o) (IsStopOf h s p o) (stop-as o)
