-- What became of asking for tags.
use Rattle.std.proofs.Common.{◌≡◌, inr, List, [], Option, Some, None, Result, Ok, Err, append-nil, refl, sym, ap, subst, ◌∙◌}
use Rattle.std.specs.FinMap.{find}
use Rattle.std.specs.List.{flat_map}
use Rattle.std.specs.Option.{option_map}
use Rattle.git_objects.specs.Paths.{Bytes}
use Rattle.git_objects.specs.Refs.{bytes_cmp}
use Rattle.git_objects.specs.Results.{◌>>=◌, or_refuse}
use Rattle.object_store.specs.Growth.{IsGrownBy}
use Rattle.object_store.proofs.Growth.{grown_as, grown_self}
use Rattle.filter_text.specs.Filters.{Filter}
use Rattle.filter_apply.specs.Faults.{IsApplyFault}
use Rattle.filter_apply.specs.declared.fault.ApplyError.{ApplyError}
use Rattle.filter_apply.specs.declared.fault.ApplyError.TheVariants as shows
use Rattle.projection_ground.specs.Grounds.{Extends}
use Rattle.history_ground.specs.Heads.{IsSeenObject}
use Rattle.proj_io.specs.Views.{KeeperView}
use Rattle.tag_objects.specs.declared.tag.Tag.{Tag}
use Rattle.state_items.specs.Changes.{NoPlan}
use Rattle.state_items.specs.Items.{Held}
use Rattle.repo_ground.specs.Contents.{Contents, room_in}
use Rattle.proj_words.specs.declared.outcome.Outcome.{Outcome}
use Rattle.proj_words.specs.declared.outcome.Outcome.TheVariants.{OutOfMemory, UnknownRef}
use Rattle.proj_commands.specs.Cases.{Case, QueryCase, query_case, unchanged}
use Rattle.proj_commands.specs.Hands.{IsInHands}
use Rattle.proj_commands.specs.Makes.{IsMadeOf, IsStateOf, hands_of}
use Rattle.proj_commands.specs.Queries.{TagsOf, TagsSight}
use Rattle.proj_commands.specs.Refusals.{apply_outcome}
use Rattle.proj_commands.specs.Tags.{shown_tags, tags_text}
use Rattle.proj_commands.specs.Lines.{tag_line}
use Rattle.proj_commands.proofs.Committing.{good-none}
use Rattle.proj_commands.proofs.Forming.{keeps-self}
use Rattle.proj_commands.proofs.InHands.{twice-at}
use Rattle.proj_commands.proofs.SeenHands.{seen-at}
use Rattle.proj_commands.proofs.StatesShown.{state-upon}

-- ---- what became of it

module _ (items : List Bytes) (h : Held) (s : Contents) (f : Filter) (refname : Bytes) (w : IsStateOf items h s) where
  pub no-ref : find bytes_cmp refname h.refs ≡ None → (before : KeeperView) → IsMadeOf (query_case h (TagsOf f refname)) items h s s before before NoPlan (Err UnknownRef)
  no-ref e before =
      subst (λ (o : Option Bytes). IsMadeOf (or_refuse UnknownRef (option_map (TagsSight f) o) >>= λ x. Ok (QueryCase h x)) items h s s before before NoPlan (Err UnknownRef)) (sym e)
      (record {
        reported = refl;
        planned = refl;
        good = good-none items h (room_in s);
        stored = keeps-self before;
        state = w;
        grown = grown_self (IsInHands []) s.basis.store w.ground.graph.store;
      })

  module _ (n : Bytes) (e : find bytes_cmp refname h.refs ≡ Some n) (t : Contents) (rest : t ≡ record s { basis = record t.basis { map = s.basis.map } }) (x : Extends (IsSeenObject f s.basis n) s.basis t.basis) where
    abbrev came : Result Case Outcome
    came = Ok (QueryCase h (TagsSight f n))

    came-up : (before : KeeperView) (result : Result Bytes Outcome) → IsMadeOf came items h s t before before NoPlan result → IsMadeOf (query_case h (TagsOf f refname)) items h s t before before NoPlan result
    came-up before result m = subst (λ (o : Option Bytes). IsMadeOf (or_refuse UnknownRef (option_map (TagsSight f) o) >>= λ x. Ok (QueryCase h x)) items h s t before before NoPlan result) (sym e) m

    state-now : IsStateOf items h t
    state-now = state-upon items h s t f n (IsSeenObject f s.basis n) w rest x

    grown-now : IsGrownBy (IsInHands (hands_of came)) s.basis.store t.basis.store
    grown-now = grown_as (IsSeenObject f s.basis n) (IsInHands (hands_of came)) s.basis.store t.basis.store (seen-at items h s f n w) x.store

    pub no-memory : (before : KeeperView) → IsMadeOf (query_case h (TagsOf f refname)) items h s t before before NoPlan (Err OutOfMemory)
    no-memory before = came-up before (Err OutOfMemory) (record {
      reported = tt;
      planned = refl;
      good = good-none items h (room_in s);
      stored = keeps-self before;
      state = tt;
      grown = grown-now;
    })

    pub unshown : (a : ApplyError) → IsApplyFault (IsSeenObject f s.basis n) t.basis.store a → (before : KeeperView) → IsMadeOf (query_case h (TagsOf f refname)) items h s t before before NoPlan (Err (apply_outcome a))
    unshown (shows.Collision k) clash before = came-up before (Err (apply_outcome (shows.Collision k))) (record {
      reported = inr (twice-at (IsSeenObject f s.basis n) (IsInHands (hands_of came)) s.basis.store t.basis.store k.0 (seen-at items h s f n w) x.store clash);
      planned = refl;
      good = good-none items h (room_in s);
      stored = keeps-self before;
      state = state-now;
      grown = grown-now;
    })
    unshown shows.OutOfMemory clash before = no-memory before

    pub whole : (tags : List Tag) → tags ≡ shown_tags h f n → (report : Bytes) → report ≡ flat_map tag_line tags → (before : KeeperView) → IsMadeOf (query_case h (TagsOf f refname)) items h s t before before NoPlan (Ok report)
    whole tags is report told before = came-up before (Ok report) (record {
      reported = sym (told ∙ ap (flat_map tag_line) is);
      planned = record { case = QueryCase h (TagsSight f n); came_up = refl; step = unchanged h (tags_text h f n); done = refl; planned = (refl, tt) };
      good = good-none items h (room_in s);
      stored = keeps-self before;
      state = subst (λ (list : List Bytes). IsStateOf list h t) (sym (append-nil items)) state-now;
      grown = grown-now;
    })
