-- What a batch brings, as it is held and entered.
use Rattle.std.proofs.Common.{◌≡◌, ◌<◌, ◌≤◌, ◌+◌, ℕ, suc, Bool, true, false, cond, ◌&&◌, List, [], ◌∷◌, ◌++◌, length, map, filter, reverse, drop, Option, Some, None, Ok, Err, refl, sym, ap, subst, ◌∙◌, arith, true≢false}
use Rattle.std.specs.Prelude.{nat_le, sum_by}
use Rattle.std.specs.Cmp.{first_so}
use Rattle.std.proofs.Math.Seq.{drop-append_seam}
use Rattle.std.proofs.lemmas.List.{map-append, reverse-append, reverse-reverse}
use Rattle.std.proofs.lemmas.List.Elements.{All-contains}
use Rattle.std.proofs.lemmas.Option.{none-some}
use Rattle.git_objects.specs.Paths.{Bytes, is_nil}
use Rattle.git_objects.specs.Parts.{name_bytes}
use Rattle.git_objects.specs.Refs.{Refs}
use Rattle.git_objects.specs.Snapshots.{Snapshot}
use Rattle.git_objects.specs.declared.limits.TheConstants.{COMMITS, OBJECTS, STORE_BYTES}
use Rattle.git_objects.specs.declared.name.Name.{Name}
use Rattle.git_objects.specs.declared.quantity.Quantity.{Quantity}
use Rattle.git_objects.specs.declared.quantity.Quantity.TheVariants as limits
use Rattle.commit_graph.specs.Graphs.{Row}
use Rattle.object_store.specs.Fits.{is_commit}
use Rattle.object_store.specs.Objects.{Object, IsStore, find_named, has, object_name}
use Rattle.object_store.proofs.Parts.{AreIn, found-has}
use Rattle.object_store.specs.StoredSnapshots.{snapshot_object}
use Rattle.git_objects.specs.declared.kind.Kind.TheVariants.{Commit as CommitKind}
use Rattle.std.specs.List.{list_all}
use Rattle.projection_laws.specs.StoredGraphs.{IsGraphIn, graph_of}
use Rattle.projection_ground.specs.Grounds.{IsGround}
use Rattle.projection_ground.specs.TrueMaps.{AreTrueMaps}
use Rattle.projection_ground.proofs.TrueEntries.{rows-newer}
use Rattle.state_items.specs.Arrivals.{AreHeld, AreNamed}
use Rattle.tag_objects.specs.TagLists.{changed, with_tags}
use Rattle.tag_objects.specs.declared.tag.Tag.{Tag}
use Rattle.tag_objects.proofs.TagLists.{with_rises}
use Rattle.state_items.specs.Changes.{NoPlan, fresh, held_after, moved, objects_of, or_else, passed, passed_by_item, passed_by_items, passed_by_objects, plan_items, plan_with, with_refs}
use Rattle.state_items.specs.Items.{Held, has_room, text_with}
use Rattle.state_items.specs.Writings.{found}
use Rattle.state_items.proofs.Limits.{change-law}
use Rattle.state_items.proofs.Naming.{names-number}
use Rattle.state_items.proofs.TagPlans.{plan-parts}
use Rattle.state_items.proofs.TreeParts.{all-each}
use Rattle.repo_ground.specs.Changes.{AreNamedIn, IsBatchOf, settings_of, tagged_batch_plan}
use Rattle.repo_ground.specs.Contents.{Contents, Spells, room_in}
use Rattle.repo_ground.specs.Drafting.{HasMore, IsDraft, IsNoDraft, IsSizeOf, passed_with, tags_in}
use Rattle.repo_ground.specs.Entering.{IsFront, with_all}
use Rattle.state_items.specs.Growing.{grown}
use Rattle.state_items.proofs.Growing.{grown-fresh}
use Rattle.repo_ground.specs.Growing.{AreFed, Extends, IsReady, IsStep, held_of}
use Rattle.repo_ground.specs.Moving.{moves_in, with_heads}
use Rattle.repo_ground.specs.declared.commit.Batch.{Batch}
use Rattle.repo_ground.specs.declared.commit.CommitError.TheVariants.{Limit}
use Rattle.repo_ground.specs.declared.draft.Draft.{Draft}
use Rattle.repo_ground.proofs.Batches.{fed-from}
use Rattle.repo_ground.proofs.Brought.{batch-found, batch-new, batch-ready, held-named, held-own}
use Rattle.repo_ground.proofs.FreshNames.{AreFreshNames, fed-fresh, fresh-names, names-fresh}
use Rattle.repo_ground.proofs.Grows.{named-in}
use Rattle.repo_ground.proofs.MovedRefs.{moves-same, heads-after, heads-distinct, heads-sorted}
use Rattle.repo_ground.proofs.RowsBehind.{rows-behind}
use Rattle.repo_ground.proofs.RowsGround.{rows_ground}
use Rattle.repo_ground.proofs.Rules.{MayAppend, commits-number, may-append}
use Rattle.repo_ground.proofs.Cuts.{text-some}

-- ---- numbers

pub filter-append : {A : Type 0} (p : A → Bool) (xs ys : List A) → length (filter p (xs ++ ys)) ≡ length (filter p xs) + length (filter p ys)
filter-append p [] ys = let f : length (filter p ys) ≡ 0 + length (filter p ys) = omega arith in f
filter-append p (x ∷ xs) ys =
    elim (p x) as (λ b. length (cond b (x ∷ filter p (xs ++ ys)) (filter p (xs ++ ys))) ≡ length (cond b (x ∷ filter p xs) (filter p xs)) + length (filter p ys)) [
      | true ↦ let f : suc (length (filter p (xs ++ ys))) ≡ suc (length (filter p xs)) + length (filter p ys) = omega (arith, filter-append p xs ys) in f
      | false ↦ filter-append p xs ys
    ]

pub filter-reverse : {A : Type 0} (p : A → Bool) (xs : List A) → length (filter p (reverse xs)) ≡ length (filter p xs)
filter-reverse p [] = refl
filter-reverse p (x ∷ xs) =
    ap (λ (t : List _). length (filter p t)) (reverse-append (x ∷ []) xs)
    ∙ filter-append p (reverse xs) (x ∷ [])
    ∙ (let f : length (filter p (reverse xs)) + length (filter p (x ∷ [])) ≡ length (filter p (x ∷ [])) + length (filter p xs) = omega (arith, filter-reverse p xs) in f)
    ∙ sym (filter-append p (x ∷ []) xs)

both-true : (a b : Bool) → a ≡ true → b ≡ true → (a && b) ≡ true
both-true a b p q = ap (λ x. x && b) p ∙ q

or-none : (b : Bool) (q : Quantity) (later : Option Quantity) → or_else b q later ≡ None → (b ≡ true) × (later ≡ None)
or-none true q later e = (refl, e)
or-none false q later e = absurd (none-some q (sym e))

-- where no limit is passed, there is room
passes-room : (S : List Object) (later : Option Quantity) → passed_by_objects S later ≡ None → has_room S ≡ true
passes-room S later e =
    let a = or-none (nat_le (length (filter is_commit S)) COMMITS) limits.Commits (or_else (nat_le (length S) OBJECTS) limits.Objects later) e in
    both-true _ _ (or-none (nat_le (length S) OBJECTS) limits.Objects later a.1).0 a.0

-- ---- more of a state

pub front-map : {A B : Type 0} (f : A → B) (xs ys : List A) → IsFront xs ys → IsFront (map f xs) (map f ys)
front-map f xs ys e = (map f e.0, ap (map f) e.1 ∙ map-append f xs e.0)

pub has-more : (v now : Contents) (names blobs : List Bytes) (graph : List Row) → v ≡ now → IsFront v.names names → IsFront v.blobs blobs → IsFront v.basis.graph graph
    → HasMore now (record v { basis = record v.basis { graph = graph }; blobs = blobs; names = names })
has-more v now names blobs graph e a b d = subst (λ (x : Contents). HasMore x (record v { basis = record v.basis { graph = graph }; blobs = blobs; names = names })) e (record { names = a; blobs = b; commits = d; same = refl })

-- the commits of a batch are in the store
pub commits-there : (S : List Object) (names : List Name) (cs : List Snapshot) → AreNamedIn S names cs → list_all (has CommitKind S) (map name_bytes names) ≡ true
commits-there S [] [] h = refl
commits-there S [] (c ∷ cs) h = absurd h
commits-there S (n ∷ names) [] h = absurd h
commits-there S (n ∷ names) (c ∷ cs) h = both-true (has CommitKind S n.0) _ (found-has S CommitKind n.0 (snapshot_object c) h.1 refl).0 (commits-there S names cs h.2)

nils : {A B : Type 0} (xs : List A) (ys : List B) → length xs ≡ length ys → is_nil xs ≡ is_nil ys
nils [] [] e = refl
nils [] (y ∷ ys) e = absurd (omega (arith, e))
nils (x ∷ xs) [] e = absurd (omega (arith, e))
nils (x ∷ xs) (y ∷ ys) e = refl

nil-none : {A : Type 0} (xs : List A) → is_nil xs ≡ true → xs ≡ []
nil-none [] e = refl
nil-none (x ∷ xs) e = absurd (true≢false (sym e))

pub append-none : {A : Type 0} (xs : List A) → xs ++ [] ≡ xs
append-none [] = refl
append-none (x ∷ xs) = ap (λ (t : List _). x ∷ t) (append-none xs)

-- ---- plans

plan-none : (f : List Object) (m : Refs) (c : List Tag) → (is_nil f && is_nil m && is_nil c) ≡ true → plan_with f m c ≡ NoPlan
plan-none [] [] [] e = refl
plan-none [] [] (x ∷ c) e = absurd (true≢false (sym e))
plan-none [] (y ∷ m) c e = absurd (true≢false (sym e))
plan-none (o ∷ f) m c e = absurd (true≢false (sym e))

plan-item : (f : List Object) (m : Refs) (c : List Tag) → (is_nil f && is_nil m && is_nil c) ≡ false → plan_items (plan_with f m c) ≡ text_with f m c ∷ []
plan-item [] [] [] e = absurd (true≢false e)
plan-item [] [] (x ∷ c) e = refl
plan-item [] (y ∷ m) [] e = refl
plan-item [] (y ∷ m) (x ∷ c) e = refl
plan-item (o ∷ f) m [] e = refl
plan-item (o ∷ f) m (x ∷ c) e = refl

plan-held : (h : Held) (f : List Object) (m : Refs) (c : List Tag) → held_after h (plan_with f m c) ≡ record h { objects = reverse f ++ h.objects; refs = with_refs h.refs m; tags = with_tags h.tags c }
plan-held h [] [] [] = refl
plan-held h [] [] (x ∷ c) = refl
plan-held h [] (y ∷ m) [] = refl
plan-held h [] (y ∷ m) (x ∷ c) = refl
plan-held h (o ∷ f) m [] = refl
plan-held h (o ∷ f) m (x ∷ c) = refl

-- ---- what is held in addition

-- names of the new objects, behind those of what was held
pub record AreNews (h : Held) (s : Contents) (fs : List Object) (names new : List Name) : Type 0 where
  pub fresh : AreFreshNames s.basis.store h.objects names fs
  pub behind : AreNamed (reverse fs ++ h.objects) new
  pub within : AreIn s.basis.store (reverse fs ++ h.objects)
  pub commits : length s.basis.graph + length (filter is_commit (found s.basis.store names)) ≡ length (filter is_commit (reverse fs ++ h.objects))
  pub objects : length new ≡ length (reverse fs ++ h.objects)

module _ (h : Held) (s : Contents) (b : Batch) (blobs : List Bytes) (cs : List Snapshot) (w : IsBatchOf h s b blobs cs) (t : IsStore s.basis.store) where
  abbrev S : List Object
  S = s.basis.store

  abbrev H : List Object
  H = h.objects

  abbrev os : List Object
  os = objects_of blobs cs

  abbrev fs : List Object
  fs = fresh H os

  pub are-news : (old new : List Name) → s.names ≡ map name_bytes old → IsStep S old new os [] → Extends old new → AreNews h s fs (drop (length old) new) new
  are-news old new own step ext =
      let more : List Name = ext.0 in
      let same : held_of S new ≡ reverse fs ++ H = step.same ∙ ap (λ (T : List Object). grown T os) (held-own h s old w.spells own) ∙ grown-fresh H os in
      let behind : AreNamed (reverse fs ++ H) new = subst (λ (T : List Object). AreNamed T new) same step.ready.holds.named in
      let named : map name_bytes more ≡ map object_name fs = names-fresh H fs old more (held-named h s old w.spells own) (subst (λ (ns : List Name). AreNamed (reverse fs ++ H) ns) ext.1 behind) in
      let fed : AreFed S H os = fed-from S H os w.spells.store (batch-new h s b blobs cs w t) (batch-found h s b blobs cs w t) in
      let one = fresh-names S H more fs w.spells.store (batch-new h s b blobs cs w t) (fed-fresh S H os fed) named in
      let news : more ≡ drop (length old) new = sym (ap (drop (length old)) ext.1 ∙ drop-append_seam old more) in
      let at : AreFreshNames S H (drop (length old) new) fs = subst (λ (ns : List Name). AreFreshNames S H ns fs) news one in
      let f = ap (λ (xs : List Object). length (filter is_commit xs)) at.found in
      let k = commits-number h s w.spells in
      let x = filter-append is_commit (reverse fs) H in
      let y = filter-reverse is_commit fs in
      record {
        fresh = at;
        behind = behind;
        within = subst (AreIn S) same (named-in S (reverse (map name_bytes new)));
        commits = omega (arith, f, k, x, y);
        objects = names-number (reverse fs ++ H) new behind;
      }

  module _ (old new names : List Name) (own : s.names ≡ map name_bytes old) (step : IsReady S old os → IsStep S old new os []) (ext : Extends old new) (en : names ≡ drop (length old) new) where
    pub news-of : AreNews h s fs names new
    news-of = subst (λ (ns : List Name). AreNews h s fs ns new) (sym en) (are-news old new own (step (batch-ready h s b blobs cs w t old own)) ext)

    pub behind-old : new ≡ old ++ names
    behind-old = ext.1 ∙ ap (λ (t : List Name). old ++ t) (sym (en ∙ ap (drop (length old)) ext.1 ∙ drop-append_seam old ext.0))

    -- all of it is held where it was entered behind what was held
    pub held-with : (known : List Name) (graph : List Row) → AreHeld (with_all S H names) (old ++ names) graph known → AreHeld (reverse fs ++ H) new graph known
    held-with known graph a = subst (λ (T : List Object). AreHeld T new graph known) news-of.fresh.all (subst (λ (ns : List Name). AreHeld (with_all S H names) ns graph known) (sym behind-old) a)

  abbrev ms : Refs
  ms = moved h.refs (settings_of b)

  -- ---- what is entered

  pub held-before : (old known : List Name) → s.names ≡ map name_bytes old → s.blobs ≡ map name_bytes known → AreHeld H old s.basis.graph known
  held-before old known own k = record {
    whole = w.spells.store;
    named = held-named h s old w.spells own;
    graph = w.spells.graph;
    known = sym k ∙ w.spells.known;
    room = w.spells.room;
  }

  pub room-with : (number size : ℕ) (text : Bytes) → passed_with (reverse fs ++ H) number size text ≡ None → has_room (reverse fs ++ H) ≡ true
  room-with number size text e = passes-room (reverse fs ++ H) (passed_by_item (record { number = number; size = size }) text) e

  -- ---- the plan

  abbrev news : List Tag → List Tag
  news ts = changed h.tags ts

  abbrev after : List Tag → Held
  after ts = record h { objects = reverse fs ++ H; refs = with_refs h.refs ms; tags = with_tags h.tags (news ts) }

  -- the state that has what the plan says
  pub spells-after : (ts : List Tag) (names new known : List Name) (graph : List Row) → AreNews h s fs names new → AreHeld (reverse fs ++ H) new graph known
      → Spells (after ts) (record s { basis = record s.basis { graph = graph }; refs = with_heads s.refs ms; blobs = map name_bytes known; names = map name_bytes new; tags = with_tags s.tags (news ts) })
  spells-after ts names new known graph n a =
      let refs = (plan-parts h fs ms (change-law h blobs cs (settings_of b) w.brought w.small w.refs)).1 in
      let u = w.spells in
      record {
        store = a.whole;
        room = a.room;
        within = λ o m. All-contains (λ x. find_named S (object_name x) ≡ Some x) (reverse fs ++ H) o (all-each (λ x. find_named S (object_name x) ≡ Some x) (reverse fs ++ H) n.within) m;
        names = sym (reverse-reverse (map name_bytes new)) ∙ ap reverse a.named;
        graph = a.graph;
        known = a.known;
        distinct = heads-distinct s.refs ms u.distinct;
        refs = heads-sorted s.refs ms u.distinct ∙ ap (λ (m : Refs). with_refs m ms) u.refs;
        heads = heads-after H (reverse fs) ms h.refs refs u.heads;
        entries = u.entries;
        few = u.few;
        rule = u.rule;
        tags = ap (λ (us : List Tag). with_tags us (news ts)) u.tags;
        rising = with_rises (news ts) h.tags u.rising;
      }

  pub ground-after : (names new known : List Name) (graph : List Row) → IsGround s.basis → AreNews h s fs names new → AreHeld (reverse fs ++ H) new graph known → IsGround (record s.basis { graph = graph })
  ground-after names new known graph g n a =
      let in_store : IsGraphIn S graph =
      subst (IsGraphIn S) (sym a.graph)
      (rows_ground S (reverse fs ++ H) t a.whole (λ o m. All-contains (λ x. find_named S (object_name x) ≡ Some x) (reverse fs ++ H) o (all-each (λ x. find_named S (object_name x) ≡ Some x) (reverse fs ++ H) n.within) m)) in
      let behind = rows-behind (reverse fs) H in
      let rows : graph ≡ s.basis.graph ++ behind.0 = a.graph ∙ behind.1 ∙ ap (λ (rs : List Row). rs ++ behind.0) (sym w.spells.graph) in
      record {
        graph = in_store;
        memo = g.memo;
        maps = subst (λ (rs : List Row). AreTrueMaps S (graph_of S rs) s.basis.true_maps) (sym rows)
            (rows-newer S s.basis.graph behind.0 s.basis.true_maps (subst (IsGraphIn S) rows in_store) g.maps);
      }

  module _ (ts : List Tag) (names new : List Name) (n : AreNews h s fs names new) (rs : Refs) (re : rs ≡ filter (moves_in s.refs) (settings_of b)) (ns : List Tag) (ne : ns ≡ changed s.tags ts) where
    pub refs-are : rs ≡ ms
    refs-are = re ∙ moves-same s.refs h.refs (settings_of b) w.spells.distinct w.spells.refs w.sorted

    pub tags-are : ns ≡ news ts
    tags-are = ne ∙ ap (λ (us : List Tag). changed us ts) w.spells.tags

    abbrev text : Bytes
    text = text_with (found S names) rs ns

    text-is : text ≡ text_with fs ms (news ts)
    text-is = λ i. text_with (n.fresh.found i) (refs-are i) (tags-are i)

    says : (is_nil names && is_nil rs && is_nil ns) ≡ (is_nil fs && is_nil ms && is_nil (news ts))
    says = λ i. nils names fs n.fresh.number i && is_nil (refs-are i) && is_nil (tags-are i)

    pub nothing-new : (old : List Name) → new ≡ old ++ names → (is_nil names && is_nil rs && is_nil ns) ≡ true → (tagged_batch_plan h b blobs cs ts ≡ NoPlan) × (new ≡ old)
    nothing-new old f e =
        (plan-none fs ms (news ts) (sym says ∙ e), f ∙ ap (λ (t : List Name). old ++ t) (nil-none names (first_so (is_nil names) _ (first_so (is_nil names && is_nil rs) _ e))) ∙ append-none old)

    module _ (some : (is_nil names && is_nil rs && is_nil ns) ≡ false) where
      -- the item, as it was worked out
      pub item-is : plan_items (tagged_batch_plan h b blobs cs ts) ≡ text ∷ []
      item-is = plan-item fs ms (news ts) (sym says ∙ some) ∙ ap (λ (t : Bytes). t ∷ []) (sym text-is)

      -- the limits, as they were worked out
      pub passed-is : passed h (room_in s) (tagged_batch_plan h b blobs cs ts) ≡ passed_with (reverse fs ++ H) s.number s.size text
      passed-is = (λ i. passed_by_items (room_in s) (plan-held h fs ms (news ts) i).objects (item-is i))

      pub no-draft-is : (q : Quantity) → IsSizeOf (passed_with (reverse fs ++ H) s.number s.size text) text (Err q) → IsNoDraft h (tagged_batch_plan h b blobs cs ts) s (Limit q)
      no-draft-is q made = passed-is ∙ made

      pub draft-is : (known : List Name) (graph : List Row) (d : Draft) → IsGround s.basis → AreHeld (reverse fs ++ H) new graph known
          → passed_with (reverse fs ++ H) s.number s.size text ≡ None → d.size ≡ length text → d.refs ≡ with_heads s.refs rs → tags_in s.tags d.tags ≡ with_tags s.tags ns
          → IsDraft h (tagged_batch_plan h b blobs cs ts) s (record s { basis = record s.basis { graph = graph }; blobs = map name_bytes known; names = map name_bytes new }) d
      draft-is known graph d g a fits size refs tags = record {
        fits = passed-is ∙ fits;
        one = ap length item-is;
        room =
            let may = may-append (reverse fs ++ H) (room_in s) text fits in
            (may.items, subst (λ (k : ℕ). s.size + k ≤ STORE_BYTES) (sym size) may.store);
        size =
            size
            ∙ (let q : length text ≡ sum_by length (text ∷ []) = omega arith in q)
            ∙ ap (sum_by length) (sym item-is);
        spells =
            subst (λ (k : Held). Spells k (record s { basis = record s.basis { graph = graph }; refs = d.refs; blobs = map name_bytes known; names = map name_bytes new; tags = tags_in s.tags d.tags })) (sym (plan-held h fs ms (news ts)))
            (subst (λ (r : Refs × List Tag). Spells (after ts) (record s { basis = record s.basis { graph = graph }; refs = r.0; blobs = map name_bytes known; names = map name_bytes new; tags = r.1 }))
            (λ i. (sym (refs ∙ ap (with_heads s.refs) refs-are) i, sym (tags ∙ ap (with_tags s.tags) tags-are) i)) (spells-after ts names new known graph n a));
        ground = ground-after names new known graph g n a;
      }

-- ---- what is appended

-- a batch's item, which passes no limit
pub record IsItem (h : Held) (s : Contents) (b : Batch) (blobs : List Bytes) (cs : List Snapshot) (ts : List Tag) (text : Bytes) : Type 0 where
  pub fits : passed h (room_in s) (tagged_batch_plan h b blobs cs ts) ≡ None
  pub item : plan_items (tagged_batch_plan h b blobs cs ts) ≡ text ∷ []
  pub some : 0 < length text
  pub may : MayAppend (room_in s) text

module _ (h : Held) (s : Contents) (b : Batch) (blobs : List Bytes) (cs : List Snapshot) (w : IsBatchOf h s b blobs cs) (t : IsStore s.basis.store) (old new names : List Name) (ts : List Tag) where
  abbrev T : List Object
  T = reverse (fresh h.objects (objects_of blobs cs)) ++ h.objects

  pub item-of : s.names ≡ map name_bytes old → (IsReady s.basis.store old (objects_of blobs cs) → IsStep s.basis.store old new (objects_of blobs cs) []) → Extends old new → names ≡ drop (length old) new
      → (read : List Object) (rs : Refs) (ns : List Tag) (size : ℕ) → read ≡ found s.basis.store names → rs ≡ filter (moves_in s.refs) (settings_of b) → ns ≡ changed s.tags ts → (is_nil names && is_nil rs && is_nil ns) ≡ false
      → ((all : List Object) → length s.basis.graph + length (filter is_commit read) ≡ length (filter is_commit all) → length new ≡ length all → IsSizeOf (passed_with all s.number s.size (text_with read rs ns)) (text_with read rs ns) (Ok size))
      → IsItem h s b blobs cs ts (text_with read rs ns)
  item-of own step ext en read rs ns size re me ne some sized =
      let n = news-of h s b blobs cs w t old new names own step ext en in
      let made = sized T (ap (λ (xs : List Object). length s.basis.graph + length (filter is_commit xs)) re ∙ n.commits) n.objects in
      let same : text_with (found s.basis.store names) rs ns ≡ text_with read rs ns = ap (λ (xs : List Object). text_with xs rs ns) (sym re) in
      record {
        fits = passed-is h s b blobs cs w t ts names new n rs me ns ne some ∙ ap (λ (x : Bytes). passed_with T s.number s.size x) same ∙ made.0;
        item = item-is h s b blobs cs w t ts names new n rs me ns ne some ∙ ap (λ (x : Bytes). x ∷ []) same;
        some = text-some read rs ns;
        may = may-append T (room_in s) (text_with read rs ns) made.0;
      }
