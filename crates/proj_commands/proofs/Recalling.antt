-- Where what is kept is true, recalled projections are those from scratch.
use Rattle.std.proofs.Common.{◌≡◌, ℕ, Bool, true, false, List, [], ◌∷◌, map, All, Option, Some, Result, Ok, if◌then◌else◌, refl, sym, ap, ◌∙◌, arith}
use Rattle.std.specs.Prelude.{◌==◌}
use Rattle.std.specs.List.{filter}
use Rattle.std.proofs.lemmas.Bool.{and_parts, eqb-true}
use Rattle.std.proofs.lemmas.List.Elements.{All-tail}
use Rattle.std.proofs.lemmas.Option.{none-some, same_Some}
use Rattle.std.specs.Cmp.Lexicographic.{bytes_decides}
use Rattle.git_objects.specs.Paths.{Bytes, same_bytes}
use Rattle.git_objects.specs.Snapshots.{Snapshot}
use Rattle.filter_text.specs.Filters.{Filter}
use Rattle.filter_text.specs.Printing.{printed}
use Rattle.commit_map.specs.Shown.{Entries, Shown, kept_at}
use Rattle.workspace.specs.Workspaces.{shown}
use Rattle.projection_laws.specs.ProjectionLaws.{ProjectionLaw}
use Rattle.projection_laws.specs.Projections.{known_at}
use Rattle.state_items.specs.Items.{Kept}
use Rattle.state_items.specs.KeptMaps.{entries_for, is_for}
use Rattle.state_items.specs.Repos.{repo}
use Rattle.proj_words.specs.declared.outcome.Outcome.{Outcome}
use Rattle.proj_commands.specs.Filters.{entries_of, project_by, project_of, projection, rule_by, sound}
use Rattle.proj_commands.specs.Plans.{RecallLaw}
use Rattle.repo_ground.proofs.CommitGraphs.{stored-graph}

module _ (f : Filter) (rule : ℕ) (cs : List Snapshot) (s : sound (printed f) ≡ Ok f) where
  -- what is kept for the filter and the rule, of that commit
  true-one : (k : Kept) (n : Bytes) → k.result ≡ project_by k.rule k.filter cs k.original → is_for (printed f) rule k ≡ true → same_bytes n k.original ≡ true
      → k.result ≡ projection rule f cs n
  true-one k n e own is =
      let parts = and_parts (same_bytes k.filter (printed f)) (k.rule == rule) own in
      e
      ∙ ap (λ (t : Bytes). project_by k.rule t cs k.original) ((bytes_decides k.filter (printed f)).0 parts.0)
      ∙ ap (λ (r : Result Filter Outcome). project_of r k.rule cs k.original) s
      ∙ ap (λ (r : ℕ). projection r f cs k.original) (eqb-true k.rule rule parts.1)
      ∙ ap (projection rule f cs) (sym ((bytes_decides n k.original).0 is))

  true-kept : (kept : List Kept) → All (λ e. e.result ≡ project_by e.rule e.filter cs e.original) kept → (n : Bytes) (p : Option Shown)
      → kept_at n (entries_for (printed f) rule kept) ≡ Some p → p ≡ projection rule f cs n
  true-kept [] h n p e = absurd (none-some p e)
  true-kept (k ∷ kept) h n p e =
      by (is_for (printed f) rule k) refl (true-kept kept (All-tail (λ (x : Kept). x.result ≡ project_by x.rule x.filter cs x.original) k kept h) n p) e
    where
      pair : Kept → Bytes × Option Shown
      pair x = (x.original, x.result)

      at : is_for (printed f) rule k ≡ true → (kept_at n (entries_for (printed f) rule kept) ≡ Some p → p ≡ projection rule f cs n) → (b : Bool) → same_bytes n k.original ≡ b
          → (if b then Some k.result else kept_at n (entries_for (printed f) rule kept)) ≡ Some p → p ≡ projection rule f cs n
      at own later true g e = sym (same_Some k.result p e) ∙ true-one k n (h 0 k (omega arith)) own g
      at own later false g e = later e

      by : (b : Bool) → is_for (printed f) rule k ≡ b → (kept_at n (entries_for (printed f) rule kept) ≡ Some p → p ≡ projection rule f cs n)
          → kept_at n (map pair (if b then k ∷ filter (is_for (printed f) rule) kept else filter (is_for (printed f) rule) kept)) ≡ Some p
          → p ≡ projection rule f cs n
      by true own later e = at own later (same_bytes n k.original) refl e
      by false own later e = later e

pub recall : ProjectionLaw → RecallLaw
recall law items h f n kept store s =
    ap (λ (es : Entries). known_at es n)
    (law.kept (rule_by h.rule) (shown f) (repo h).commits (entries_of h f) (stored-graph h.objects store)
    (λ m p e there. true-kept f h.rule (repo h).commits s h.kept kept.entries m p e))
