-- What became of an audit.
use Rattle.std.proofs.Common.{◌≡◌, ◌<◌, ◌^◌, true, List, [], length, Option, Some, None, Result, Ok, Err, append-nil, refl, sym, ap, subst, ◌∙◌}
use Rattle.std.specs.FinMap.{find}
use Rattle.std.specs.Option.{option_map}
use Rattle.git_objects.specs.Paths.{Bytes, Path, is_path}
use Rattle.git_objects.specs.Refs.{bytes_cmp}
use Rattle.git_objects.specs.Results.{◌>>=◌, or_refuse}
use Rattle.git_objects.specs.Snapshots.{tree_at}
use Rattle.git_objects.specs.Trees.{Flat, at}
use Rattle.git_objects.specs.declared.kind.Kind.TheVariants.{Commit as CommitKind}
use Rattle.object_store.specs.Objects.{Object, has}
use Rattle.object_store.proofs.Growth.{grown_self}
use Rattle.object_store.proofs.StoredCommits.{stored-commit}
use Rattle.filter_text.specs.Filters.{Filter}
use Rattle.workspace.specs.Laws.{IsUsable}
use Rattle.workspace.specs.Workspaces.{shown}
use Rattle.proj_audit.specs.Certificates.{Fault, audit, verify}
use Rattle.proj_audit.specs.Laws.{GrownLaw, StoreLaw, found_of}
use Rattle.proj_audit.specs.Readings.{Found}
use Rattle.proj_io.specs.Views.{KeeperView}
use Rattle.state_items.specs.Changes.{NoPlan}
use Rattle.state_items.specs.Items.{Held}
use Rattle.state_items.specs.Repos.{repo}
use Rattle.repo_ground.specs.Contents.{Contents, room_in}
use Rattle.repo_ground.proofs.CommitGraphs.{has-commit}
use Rattle.proj_words.specs.declared.outcome.Outcome.{Outcome}
use Rattle.proj_words.specs.declared.outcome.Outcome.TheVariants.{OutOfMemory, UnknownRef}
use Rattle.proj_commands.specs.Audit.{IsAudited}
use Rattle.proj_commands.specs.Cases.{QueryCase, query_case, unchanged}
use Rattle.proj_commands.specs.Hands.{IsInHands}
use Rattle.proj_commands.specs.Makes.{IsMadeOf, IsStateOf}
use Rattle.proj_commands.specs.Queries.{AuditOf, AuditSight}
use Rattle.proj_commands.proofs.Committing.{good-none}
use Rattle.proj_commands.proofs.Forming.{keeps-self}
use Rattle.proj_commands.proofs.Heads.{head-stored, tree-is}
use Rattle.proj_commands.proofs.StatesShown.{head-there}

module _ (items : List Bytes) (h : Held) (s : Contents) (f : Filter) (refname : Bytes) (q : Path) (w : IsStateOf items h s) where
  pub no-ref : find bytes_cmp refname h.refs ≡ None → (before : KeeperView) → IsMadeOf (query_case h (AuditOf f refname q)) items h s s before before NoPlan (Err UnknownRef)
  no-ref e before =
      subst (λ (o : Option Bytes). IsMadeOf (or_refuse UnknownRef (option_map (λ m. AuditSight f m q) o) >>= λ x. Ok (QueryCase h x)) items h s s before before NoPlan (Err UnknownRef)) (sym e)
      (record {
        reported = refl;
        planned = refl;
        good = good-none items h (room_in s);
        stored = keeps-self before;
        state = w;
        grown = grown_self (IsInHands []) s.basis.store w.ground.graph.store;
      })

  module _ (n : Bytes) (e : find bytes_cmp refname h.refs ≡ Some n) where
    abbrev S : List Object
    S = s.basis.store

    head-held : has CommitKind h.objects n ≡ true
    head-held = sym (has-commit n h.objects w.spells.store) ∙ head-there h s refname n w.spells e

    -- ---- the certificate

    same-text : GrownLaw → audit S f q n ≡ audit h.objects f q n
    same-text law = law f q h.objects S n w.spells.store head-held w.spells.within

    lawful : StoreLaw → GrownLaw → IsUsable f → is_path q ≡ true → IsAudited h f n q
    lawful law grown usable path small =
        let c = stored-commit S n w.ground.graph.store (head-stored items h s refname n w e) in
        let same = same-text grown in
        subst (λ (t : Bytes). verify n f q t ≡ Ok (option_map found_of (at (shown f (tree_at (repo h).commits n)) q))) same
        (law f q S n c.commit usable path w.ground.graph.store (head-stored items h s refname n w e) c.read (subst (λ (t : Bytes). length t < 2 ^ 64) (sym same) small)
        ∙ ap told (tree-is items h s refname n w e c.commit c.read))
      where
        told : Flat → Result (Option Found) Fault
        told t = Ok (option_map found_of (at (shown f t) q))

    came-up : (before : KeeperView) (result : Result Bytes Outcome) → IsMadeOf (Ok (QueryCase h (AuditSight f n q))) items h s s before before NoPlan result → IsMadeOf (query_case h (AuditOf f refname q)) items h s s before before NoPlan result
    came-up before result m = subst (λ (o : Option Bytes). IsMadeOf (or_refuse UnknownRef (option_map (λ m. AuditSight f m q) o) >>= λ x. Ok (QueryCase h x)) items h s s before before NoPlan result) (sym e) m

    pub no-memory : (before : KeeperView) → IsMadeOf (query_case h (AuditOf f refname q)) items h s s before before NoPlan (Err OutOfMemory)
    no-memory before = came-up before (Err OutOfMemory) (record {
      reported = tt;
      planned = refl;
      good = good-none items h (room_in s);
      stored = keeps-self before;
      state = tt;
      grown = grown_self _ S w.ground.graph.store;
    })

    pub whole : StoreLaw → GrownLaw → IsUsable f → is_path q ≡ true → (text : Bytes) → text ≡ audit S f q n → (before : KeeperView) → IsMadeOf (query_case h (AuditOf f refname q)) items h s s before before NoPlan (Ok text)
    whole law grown usable path text is before = came-up before (Ok text) (record {
      reported = sym (is ∙ same-text grown);
      planned = record { case = QueryCase h (AuditSight f n q); came_up = refl; step = unchanged h (audit h.objects f q n); done = refl; planned = (refl, lawful law grown usable path) };
      good = good-none items h (room_in s);
      stored = keeps-self before;
      state = subst (λ (list : List Bytes). IsStateOf list h s) (sym (append-nil items)) w;
      grown = grown_self _ S w.ground.graph.store;
    })
