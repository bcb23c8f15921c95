-- Look-ups and settings, in the code's map and in what it stands for.
use Rattle.std.proofs.Common.{◌≡◌, Bool, true, false, cond, List, [], ◌∷◌, ◌++◌, Some, None, refl, sym, ap}
use Rattle.std.specs.declared.option.Option.{Option}
use Rattle.std.specs.Option.{option_map}
use Rattle.std.specs.Map.{lookup}
use Rattle.std.proofs.lemmas.Option.{none-some}
use Rattle.indexmap.specs.IndexMap.{insert_entry}
use Rattle.git_objects.specs.Paths.{Bytes, same_bytes}
use Rattle.git_objects.specs.declared.name.Name.{Name}
use Rattle.commit_map.specs.Shown.{Entries, entry_value, entry_values, kept_at, shown_value}
use Rattle.commit_map.specs.Shown as shown
use Rattle.commit_map.specs.declared.commit_map.Shown.{Shown}

abbrev pub is_key : Bytes → Name → Bool
is_key n j = same_bytes n j.0

abbrev pub value : Option Shown → Option shown.Shown
value s = option_map shown_value s

pub kept-lookup : (n : Bytes) (es : List (Name × Option Shown)) → option_map value (lookup (is_key n) es) ≡ kept_at n (entry_values es)
kept-lookup n [] = refl
kept-lookup n (e ∷ es) =
    elim (same_bytes n e.0.0) as (λ b. option_map value (cond b (Some e.1) (lookup (is_key n) es)) ≡ cond b (Some (value e.1)) (kept_at n (entry_values es))) [
      | true ↦ refl
      | false ↦ kept-lookup n es
    ]

pub behind : (k : Name) (v : Option Shown) (es : List (Name × Option Shown)) → kept_at k.0 (entry_values es) ≡ None
    → entry_values (insert_entry (λ (m n : Name). same_bytes m.0 n.0) es k v) ≡ entry_values es ++ entry_value (k, v) ∷ []
behind k v [] h = refl
behind k v (e ∷ es) h = by (λ f. behind k v es f) (same_bytes k.0 e.0.0) h
  where
    by : (kept_at k.0 (entry_values es) ≡ None → entry_values (insert_entry (λ (m n : Name). same_bytes m.0 n.0) es k v) ≡ entry_values es ++ entry_value (k, v) ∷ [])
        → (b : Bool) → cond b (Some (value e.1)) (kept_at k.0 (entry_values es)) ≡ None
        → entry_values (cond b ((e.0, v) ∷ es) (e ∷ insert_entry (λ (m n : Name). same_bytes m.0 n.0) es k v)) ≡ entry_value e ∷ (entry_values es ++ entry_value (k, v) ∷ [])
    by rest true f = absurd (none-some (value e.1) (sym f))
    by rest false f = ap (λ (others : Entries). entry_value e ∷ others) (rest f)
