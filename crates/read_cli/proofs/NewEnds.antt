-- The last commit that is written of a projected history.
use Rattle.std.proofs.Common.{◌≡◌, false, cond, List, [], ◌∷◌, ◌++◌, reverse, Option, None, Some, refl, sym, ap, ◌∙◌}
use Rattle.std.specs.List.{last_or}
use Rattle.std.specs.Option.{option_map}
use Rattle.std.proofs.lemmas.List.{reverse-append}
use Rattle.std.proofs.lemmas.Option.{none-some, same_Some}
use Rattle.git_objects.specs.Paths.{Bytes}
use Rattle.git_objects.specs.Snapshots.{Graph, Snapshot, is_wanted}
use Rattle.object_store.specs.Objects.{IsStore}
use Rattle.commit_map.specs.Shown.{Shown}
use Rattle.fast_export.specs.ExportTexts.{is_among}
use Rattle.filter_text.specs.Filters.{Filter}
use Rattle.projection_laws.specs.ProjectionLaws.{HistoryLaw}
use Rattle.projection_laws.specs.Projections.{shown_of}
use Rattle.state_items.specs.Items.{Held}
use Rattle.incremental_export.specs.Unreached.{unreached}
use Rattle.proj_commands.proofs.Exports.{ends-at}
use Rattle.read_cli.specs.Answers.{EndsNew}
use Rattle.read_cli.specs.Outputs.{projected_graph}

last-behind : {A : Type 0} (o : Option A) (xs : List A) (x : A) → last_or o (xs ++ x ∷ []) ≡ Some x
last-behind o [] x = refl
last-behind o (y ∷ xs) x = last-behind (Some y) xs x

-- the newest commit comes last
last-newest : (c : Snapshot) (older : Graph) → last_or None (reverse (c ∷ older)) ≡ Some c
last-newest c older = ap (last_or None) (reverse-append (c ∷ []) older) ∙ last-behind None (reverse older) c

-- a commit that isn't there is the newest that isn't reached
still-newest : (c : Snapshot) (older : Graph) (haves : List Bytes) → is_wanted haves c ≡ false → unreached (c ∷ older) haves ≡ c ∷ unreached older haves
still-newest c older haves e = λ i. cond (e i) [] (c ∷ []) ++ unreached older (cond (e i) (c.parents ++ haves) haves)

newest-last : (g : Graph) (haves : List Bytes) (p : Shown) → option_map shown_of (last_or None (reverse g)) ≡ Some p → is_among p.commit haves ≡ false
    → option_map shown_of (last_or None (reverse (unreached g haves))) ≡ Some p
newest-last [] haves p e a = absurd (none-some p e)
newest-last (c ∷ older) haves p e a =
    let same : shown_of c ≡ p = same_Some (shown_of c) p (sym (ap (option_map shown_of) (last-newest c older)) ∙ e) in
    let absent : is_wanted haves c ≡ false = ap (λ (q : Shown). is_among q.commit haves) same ∙ a in
    ap (λ (g : Graph). option_map shown_of (last_or None (reverse g))) (still-newest c older haves absent)
    ∙ ap (option_map shown_of) (last-newest c (unreached older haves))
    ∙ ap Some same

pub ends-new : HistoryLaw → (h : Held) (f : Filter) (n : Bytes) (haves : List Bytes) → IsStore h.objects → EndsNew h f n haves
ends-new law h f n haves store = λ apart p e absent. newest-last (projected_graph h f n) haves p (ends-at law h f n store apart ∙ e) absent
