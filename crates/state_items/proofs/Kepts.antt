-- Items stay Kept behind an addition.
use Rattle.std.proofs.Common.{◌≡◌, ℕ, true, false, ◌||◌, List, [], ◌∷◌, ◌++◌, map, All, Option, None, refl, sym, subst, ◌∙◌, true≢false}
use Rattle.std.specs.Cmp.{first_so, second_so}
use Rattle.std.specs.List.{list_all}
use Rattle.std.proofs.lemmas.List.Elements.{All-append, All-map}
use Rattle.git_objects.specs.Paths.{Bytes, same_bytes}
use Rattle.git_objects.specs.Names.{name}
use Rattle.git_objects.specs.declared.kind.Kind.{Kind}
use Rattle.git_objects.specs.declared.kind.Kind.TheVariants.{Blob, Tree, Commit as CommitKind}
use Rattle.git_objects.specs.Lists.{Each}
use Rattle.git_objects.proofs.Basics.{and_both}
use Rattle.object_store.specs.Objects.{Object, IsStore, has, object_name}
use Rattle.git_objects.specs.Refs.{Refs}
use Rattle.git_objects.specs.Snapshots.{Snapshot}
use Rattle.object_store.specs.StoredSnapshots.{snapshots_in}
use Rattle.object_store.proofs.StoredCommits.{commit-held}
use Rattle.state_items.specs.Items.{Held, Kept}
use Rattle.commit_map.specs.Shown.{Shown}
use Rattle.tag_objects.specs.declared.tag.Tag.{Tag}
use Rattle.state_items.specs.Repos.{IsKept, are_used, repo}
use Rattle.state_items.specs.Changes.{KeepPlan, NoPlan, RulePlan, change_plan, entry_of, held_after, passed, room_of, objects_of, tagged_plan}
use Rattle.state_items.specs.Appending.{IsAddition, are_tags}
use Rattle.state_items.specs.Imported.{AreRefsTo, AreSmall, IsBrought, is_among, with_commits}
use Rattle.state_items.specs.KeptLaws.{AreClosed, IsKeptAfter, KeptLaw, Projecting, StayLaw}
use Rattle.state_items.proofs.Appended.{appended}
use Rattle.state_items.proofs.Bringing.{commit-in, commit-one}
use Rattle.state_items.proofs.Imports as imports
use Rattle.state_items.proofs.Limits.{change-law}
use Rattle.state_items.proofs.ReadEntries.{read-sound}
use Rattle.state_items.proofs.TagPlans.{tagged-after, tagged-change-law}
use Rattle.state_items.proofs.TreeParts.{all-each}

all-both : {A : Type 0} (P Q R : A → Type 0) → ((x : A) → P x → Q x → R x) → (xs : List A) → All P xs → All Q xs → All R xs
all-both P Q R f xs p q = λ k d lt. f _ (p k d lt) (q k d lt)

-- ---- the commits of a store

module _ (hand : Object → Type 0) (apart : (o d : Object) → hand o → hand d → object_name o ≡ object_name d → o ≡ d) where
  among-one : (n : Bytes) (H : List Object) (k : Kind) (b : Bytes) → IsStore (record { kind = k; body = b } ∷ H) → (has CommitKind H n ≡ true → is_among (snapshots_in H) n ≡ true) →
      has CommitKind (record { kind = k; body = b } ∷ H) n ≡ true → is_among (snapshots_in (record { kind = k; body = b } ∷ H)) n ≡ true
  unfolding has
  among-one n H Blob b s f e = f e
  among-one n H Tree b s f e = f e
  among-one n H CommitKind b s f e =
      commit-one hand apart n H b s.2 (commit-held H b s.0)
      ∙ elim (same_bytes (name CommitKind b) n) as (λ t. (t || has CommitKind H n) ≡ true → (t || is_among (snapshots_in H) n) ≡ true) [
        | true ↦ λ g. refl
        | false ↦ f
      ] e

  has-among : (n : Bytes) (H : List Object) → IsStore H → has CommitKind H n ≡ true → is_among (snapshots_in H) n ≡ true
  unfolding has
  has-among n [] s e = absurd (true≢false (sym e))
  has-among n (o ∷ H) s e = among-one n H o.kind o.body s (has-among n H s.2) e

  all-among : (H : List Object) → IsStore H → (ps : List Bytes) → Each (λ p. has CommitKind H p ≡ true) ps → list_all (is_among (snapshots_in H)) ps ≡ true
  all-among H s [] h = refl
  all-among H s (p ∷ ps) h = and_both (has-among p H s h.0) (all-among H s ps h.1)

  closed-one : (H : List Object) (k : Kind) (b : Bytes) → IsStore (record { kind = k; body = b } ∷ H) → AreClosed (snapshots_in H) → AreClosed (snapshots_in (record { kind = k; body = b } ∷ H))
  closed-one H Blob b s h = h
  closed-one H Tree b s h = h
  closed-one H CommitKind b s h =
      let w = commit-held H b s.0 in
      subst (λ (cs : List Snapshot). AreClosed (cs ++ snapshots_in H)) (sym (commit-in hand apart H b w)) (all-among H s.2 w.commit.parents w.parents, h)

  closed : (H : List Object) → IsStore H → AreClosed (snapshots_in H)
  closed [] s = tt
  closed (o ∷ H) s = closed-one H o.kind o.body s (closed H s.2)

  each-among : (H : List Object) → IsStore H → (kept : List Kept) → list_all (λ e. has CommitKind H e.original) kept ≡ true → Each (λ e. is_among (snapshots_in H) e.original ≡ true) kept
  each-among H s [] h = tt
  each-among H s (e ∷ kept) h = (has-among e.original H s (first_so _ _ h), each-among H s kept (second_so (has CommitKind H e.original) _ h))

-- ---- the law

module _ (project : Projecting) where
  abbrev IsTrue : List Snapshot → Kept → Type 0
  IsTrue cs e = e.result ≡ project e.rule e.filter cs e.original

  pub none-kept : (items : List Bytes) (h : Held) → IsKept project items h → IsKeptAfter project items h NoPlan
  none-kept items h w = record { spelled = appended items h NoPlan w.spelled tt refl; objects = w.objects; entries = w.entries }

  rule-kept : (items : List Bytes) (h : Held) (k : ℕ) → IsKept project items h → IsAddition h (RulePlan k) → passed h (room_of items) (RulePlan k) ≡ None → IsKeptAfter project items h (RulePlan k)
  rule-kept items h k w a f = record { spelled = appended items h (RulePlan k) w.spelled a f; objects = w.objects; entries = w.entries }

  pub keep-kept : (items : List Bytes) (h : Held) (k : ℕ) (text : Bytes) (es : List (Bytes × Option Shown)) → IsKept project items h → IsAddition h (KeepPlan k text es) →
      passed h (room_of items) (KeepPlan k text es) ≡ None → All (λ e. e.1 ≡ project k text (repo h).commits e.0) es → IsKeptAfter project items h (KeepPlan k text es)
  keep-kept items h k text es w a f t = record {
    spelled = appended items h (KeepPlan k text es) w.spelled a f;
    objects = w.objects;
    entries = All-append (IsTrue (repo h).commits) h.kept (map (entry_of k text) es) w.entries (All-map (IsTrue (repo h).commits) (entry_of k text) es t);
  }

  -- the entries stay true where the commits are those before with the new ones
  entries-kept : (items : List Bytes) (h : Held) (bs : List Bytes) (cs : List Snapshot) (es : Refs) → StayLaw project → IsKept project items h → IsBrought h bs cs → All (IsTrue (repo (held_after h (change_plan h (objects_of bs cs) es))).commits) (held_after h (change_plan h (objects_of bs cs) es)).kept
  entries-kept items h bs cs es stay w b =
      let g = held_after h (change_plan h (objects_of bs cs) es) in
      let i = imports.imported h bs cs es b in
      let hand = imports.hand h bs cs es b in
      let apart = imports.apart h bs cs es b in
      let cs0 = (repo h).commits in
      let originals : All (λ e. is_among cs0 e.original ≡ true) h.kept =
      all-each (λ e. is_among cs0 e.original ≡ true) h.kept (each-among hand apart h.objects b.store h.kept (read-sound items h w.spelled).originals) in
      let stays : All (IsTrue (with_commits cs0 cs)) h.kept =
      all-both (IsTrue cs0) (λ e. is_among cs0 e.original ≡ true) (IsTrue (with_commits cs0 cs))
      (λ e t m. t ∙ sym (stay e.filter e.rule cs0 cs e.original (closed hand apart h.objects b.store) b.commits m)) h.kept w.entries originals in
      subst (λ (kept : List Kept). All (IsTrue (repo g).commits) kept) (sym i.kept) (subst (λ (k : List Snapshot). All (IsTrue k) h.kept) (sym i.commits) stays)

  change-kept : (items : List Bytes) (h : Held) (bs : List Bytes) (cs : List Snapshot) (es : Refs) → StayLaw project → IsKept project items h → IsBrought h bs cs → AreSmall bs cs → AreRefsTo (with_commits (repo h).commits cs) es →
      passed h (room_of items) (change_plan h (objects_of bs cs) es) ≡ None → IsKeptAfter project items h (change_plan h (objects_of bs cs) es)
  change-kept items h bs cs es stay w b small refs f = record {
    spelled = appended items h (change_plan h (objects_of bs cs) es) w.spelled (change-law h bs cs es b small refs) f;
    objects = (imports.imported h bs cs es b).nothing_more w.objects;
    entries = entries-kept items h bs cs es stay w b;
  }

  tags-kept : (items : List Bytes) (h : Held) (bs : List Bytes) (cs : List Snapshot) (es : Refs) (ts : List Tag) → StayLaw project → IsKept project items h → IsBrought h bs cs → AreSmall bs cs → AreRefsTo (with_commits (repo h).commits cs) es →
      are_tags (objects_of bs cs ++ h.objects) None ts ≡ true → passed h (room_of items) (tagged_plan h (objects_of bs cs) es ts) ≡ None → IsKeptAfter project items h (tagged_plan h (objects_of bs cs) es ts)
  tags-kept items h bs cs es ts stay w b small refs right f =
      let after = sym (tagged-after h (objects_of bs cs) es ts) in
      record {
        spelled = appended items h (tagged_plan h (objects_of bs cs) es ts) w.spelled (tagged-change-law h bs cs es ts b small refs right) f;
        objects = subst (λ (g : Held). are_used g.objects ≡ true) after ((imports.imported h bs cs es b).nothing_more w.objects);
        entries = subst (λ (g : Held). All (IsTrue (repo g).commits) g.kept) after (entries-kept items h bs cs es stay w b);
      }

  pub kept-law : KeptLaw project
  kept-law = record { none = none-kept; rule = rule-kept; keep = keep-kept; change = change-kept; tags = tags-kept }
