-- Reports of what is made at a ref's commit.
use Rattle.std.proofs.Common.{◌≡◌, List, [], ◌∷◌, Option, Some, Result, Ok, Err, sym, ap, subst}
use Rattle.std.specs.FinMap.{find}
use Rattle.git_objects.specs.Paths.{Bytes}
use Rattle.git_objects.specs.Refs.{bytes_cmp}
use Rattle.git_objects.specs.Results.{◌>>=◌, or_refuse}
use Rattle.object_store.specs.Growth.{IsGrownBy}
use Rattle.object_store.specs.Objects.{Object}
use Rattle.object_store.proofs.Growth.{grown_as}
use Rattle.filter_text.specs.Filters.{Filter}
use Rattle.filter_apply.specs.Faults.{IsApplyFault}
use Rattle.filter_apply.specs.declared.fault.ApplyError.{ApplyError}
use Rattle.filter_apply.proofs.Handing.{fault_as}
use Rattle.history_ground.specs.Heads.{IsSeenObject}
use Rattle.state_items.specs.Items.{Held}
use Rattle.repo_ground.specs.Contents.{Contents}
use Rattle.proj_words.specs.declared.outcome.Outcome.{Outcome}
use Rattle.proj_words.specs.declared.outcome.Outcome.TheVariants.{UnknownRef}
use Rattle.proj_commands.specs.Hands.{Hand, IsInHands, seen_hand}
use Rattle.proj_commands.specs.Makes.{IsStateOf}
use Rattle.proj_commands.specs.Refusals.{apply_outcome}
use Rattle.proj_commands.proofs.SeenHands.{seen-at}
use Rattle.read_cli.specs.Looks.{IsReport, at_head}
use Rattle.read_cli.proofs.Looked.{fault-unshown, report-at, unshown-report}

module _ (items : List Bytes) (h : Held) (s : Contents) (f : Filter) (n : Bytes) (w : IsStateOf items h s) (text : Bytes → Bytes) (refname : Bytes) (e : find bytes_cmp refname h.refs ≡ Some n) where
  pub head-told : (report : Bytes) → report ≡ text n → at_head refname h text ≡ Ok report
  head-told report told = subst (λ (o : Option Bytes). ◌≡◌ {A = Result Bytes Outcome} (or_refuse UnknownRef o >>= λ m. Ok (text m)) (Ok report)) (sym e) (ap Ok (sym told))

  pub head-unshown : (made : Object → Type 0) → ((o : Object) → made o → IsSeenObject f s.basis n o) → (T : List Object) → IsGrownBy made s.basis.store T → (a : ApplyError) → IsApplyFault made T a
      → IsReport s.basis.store (at_head refname h (seen_hand h f)) (at_head refname h text) (Err (apply_outcome a))
  head-unshown made seen T g a fault =
      let hands : List Hand = seen_hand h f n ∷ [] in
      let in_hands : (o : Object) → made o → IsInHands hands o = λ o m. seen-at items h s f n w o (seen o m) in
      report-at s.basis.store (λ (x : Result Bytes Outcome). x >>= λ m. Ok (seen_hand h f m)) text refname h.refs n (Err (apply_outcome a)) e
      (unshown-report s.basis.store hands (Ok (text n)) (apply_outcome a)
      (fault-unshown s.basis.store hands T a (grown_as made (IsInHands hands) s.basis.store T in_hands g) (fault_as made (IsInHands hands) T a in_hands fault)))
