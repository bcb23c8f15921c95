-- Kept projections of an item, read.
use Rattle.std.proofs.Common.{◌≡◌, ◌∙◌, ℕ, List, Ok, sym, ap}
use Rattle.git_objects.specs.Paths.{Bytes}
use Rattle.git_objects.specs.Results.{◌>>=◌}
use Rattle.object_store.specs.Objects.{Object}
use Rattle.commit_map.specs.Shown.{Entries}
use Rattle.state_items.specs.Fields.{Spot, ended, number}
use Rattle.state_items.specs.Items.{text_field}
use Rattle.state_items.specs.KeptMaps.{RuleMaps, entries_at, with_map_by}
use Rattle.state_items.specs.Steps.{entries_step, kept_maps}
use Rattle.state_items.proofs.Stopping.{then-ok}

pub kept-read : (S : List Object) (rule : ℕ) (maps : RuleMaps) (s t u v : Spot) (text : Bytes) (n : ℕ) (old es : Entries) → text_field s ≡ Ok (text, t) → number 4 t ≡ Ok (n, u)
    → old ≡ entries_at rule text maps → entries_step n S old u ≡ Ok (es, v) → ended v ≡ Ok tt → kept_maps S rule maps s ≡ Ok (with_map_by rule maps text es)
kept-read S rule maps s t u v text n old es e f o g h =
    then-ok (text_field s) (λ t. number 4 t.1 >>= λ n. entries_step n.0 S (entries_at rule t.0 maps) n.1 >>= λ e. ended e.1 >>= λ _. Ok (with_map_by rule maps t.0 e.0)) (text, t) e
    ∙ then-ok (number 4 t) (λ n. entries_step n.0 S (entries_at rule text maps) n.1 >>= λ e. ended e.1 >>= λ _. Ok (with_map_by rule maps text e.0)) (n, u) f
    ∙ then-ok (entries_step n S (entries_at rule text maps) u) (λ e. ended e.1 >>= λ _. Ok (with_map_by rule maps text e.0)) (es, v) (ap (λ (q : Entries). entries_step n S q u) (sym o) ∙ g)
    ∙ then-ok (ended v) (λ _. Ok (with_map_by rule maps text es)) tt h
