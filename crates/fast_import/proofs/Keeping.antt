-- Names in a set and in a map as they stand in a list.
use Rattle.std.proofs.Common.{◌≡◌, ◌-◌, suc, Bool, true, false, cond, ◌||◌, List, [], ◌∷◌, ◌++◌, length, Option, Some, None, refl, sym, ap, ◌∙◌, arith}
use Rattle.std.specs.Prelude.{slice_get}
use Rattle.std.specs.Cmp.Lexicographic.{bytes_decides}
use Rattle.std.specs.List.{last_or, list_any}
use Rattle.std.specs.Map.{lookup}
use Rattle.std.specs.Option.{option_or}
use Rattle.std.proofs.lemmas.List.Folds.{list_any-append}
use Rattle.git_objects.specs.Paths.{Bytes, same_bytes}
use Rattle.git_objects.specs.declared.name.Name.{Name}
use Rattle.std.proofs.Common.{true≢false}
use Rattle.std.specs.Option.{is_some}
use Rattle.indexmap.specs.IndexMap.{insert_entry}
use Rattle.indexmap.specs.IndexSet.{insert_key}
use Rattle.fast_import.specs.Replaying.{HasSame, HasTrees, is_named, tree_made}
use Rattle.fast_import.specs.declared.replayed.Made.{Made}

or_false : (b : Bool) → (b || false) ≡ b
or_false true = refl
or_false false = refl

or_none : {A : Type 0} (x : Option A) → option_or x None ≡ x
or_none None = refl
or_none (Some x) = refl

-- one name more
any-push : (n k : Name) (names : List Name) → list_any (is_named n) (names ++ k ∷ []) ≡ (list_any (is_named n) names || is_named n k)
any-push n k names = list_any-append (is_named n) names (k ∷ []) ∙ ap (λ b. list_any (is_named n) names || b) (or_false (is_named n k))

-- a name that is there is there under its twin
any-twin : (n k : Name) (names : List Name) → is_named n k ≡ true → list_any (is_named n) names ≡ list_any (is_named k) names
any-twin n k names e = ap (λ (b : Bytes). list_any (λ (m : Name). same_bytes b m.0) names) ((bytes_decides n.0 k.0).0 e)

tree-twin : (n k : Name) (made : List Made) → is_named n k ≡ true → tree_made n made ≡ tree_made k made
tree-twin n k made e = ap (λ (b : Bytes). tree_made (record { 0 = b }) made) ((bytes_decides n.0 k.0).0 e)

held_already : (n k : Name) (names : List Name) → list_any (is_named k) names ≡ true → (list_any (is_named n) names || is_named n k) ≡ list_any (is_named n) names
held_already n k names h =
    elim (is_named n k) as (λ b. is_named n k ≡ b → (list_any (is_named n) names || b) ≡ list_any (is_named n) names) [
      | true ↦ λ e. let there : list_any (is_named n) names ≡ true = any-twin n k names e ∙ h in ap (λ b. b || true) there ∙ sym there
      | false ↦ λ e. or_false (list_any (is_named n) names)
    ] refl

same-insert : (read names : List Name) (k : Name) → HasSame read names → HasSame (insert_key is_named read k) (names ++ k ∷ [])
same-insert read names k h n =
    elim (list_any (is_named k) read) as (λ b. list_any (is_named k) read ≡ b → list_any (is_named n) (cond b read (read ++ k ∷ [])) ≡ list_any (is_named n) (names ++ k ∷ [])) [
      | true ↦ λ e. h n ∙ sym (any-push n k names ∙ held_already n k names (sym (h k) ∙ e))
      | false ↦ λ e. any-push n k read ∙ ap (λ b. b || is_named n k) (h n) ∙ sym (any-push n k names)
    ] refl

lookup-push : (n k t : Name) (es : List (Name × Name)) → lookup (is_named n) (es ++ (k, t) ∷ []) ≡ option_or (lookup (is_named n) es) (cond (is_named n k) (Some t) None)
lookup-push n k t [] = refl
lookup-push n k t (e ∷ es) = elim (is_named n e.0) as (λ b. cond b (Some e.1) (lookup (is_named n) (es ++ (k, t) ∷ [])) ≡ option_or (cond b (Some e.1) (lookup (is_named n) es)) (cond (is_named n k) (Some t) None)) [ true ↦ refl | false ↦ lookup-push n k t es ]

made-push : (n : Name) (made : List Made) (m : Made) → tree_made n (made ++ m ∷ []) ≡ option_or (tree_made n made) (cond (is_named n m.name) (Some m.tree) None)
made-push n [] m = refl
made-push n (d ∷ made) m = elim (is_named n d.name) as (λ b. cond b (Some d.tree) (tree_made n (made ++ m ∷ [])) ≡ option_or (cond b (Some d.tree) (tree_made n made)) (cond (is_named n m.name) (Some m.tree) None)) [ true ↦ refl | false ↦ made-push n made m ]

lookup-twin : (n k : Name) (es : List (Name × Name)) → is_named n k ≡ true → lookup (is_named n) es ≡ lookup (is_named k) es
lookup-twin n k es e = ap (λ (b : Bytes). lookup (λ (m : Name). same_bytes b m.0) es) ((bytes_decides n.0 k.0).0 e)

-- a name that has a tree gets no other
held_tree : (n k t u : Name) (es : List (Name × Name)) → lookup (is_named k) es ≡ Some u → lookup (is_named n) es ≡ option_or (lookup (is_named n) es) (cond (is_named n k) (Some t) None)
held_tree n k t u es h =
    elim (is_named n k) as (λ b. is_named n k ≡ b → lookup (is_named n) es ≡ option_or (lookup (is_named n) es) (cond b (Some t) None)) [
      | true ↦ λ e. let there : lookup (is_named n) es ≡ Some u = lookup-twin n k es e ∙ h in there ∙ sym (ap (λ o. option_or o (Some t)) there)
      | false ↦ λ e. sym (or_none (lookup (is_named n) es))
    ] refl

pub trees-push : (trees trees' : List (Name × Name)) (made made' : List Made) (m : Made) → HasTrees trees made → made' ≡ made ++ m ∷ []
    → ((n : Name) → lookup (is_named n) trees' ≡ option_or (lookup (is_named n) trees) (cond (is_named n m.name) (Some m.tree) None)) → HasTrees trees' made'
trees-push trees trees' made made' m h e g n = g n ∙ ap (λ o. option_or o (cond (is_named n m.name) (Some m.tree) None)) (h n) ∙ sym (ap (tree_made n) e ∙ made-push n made m)

pub same-push : (read read' names names' : List Name) (k : Name) → HasSame read names → read' ≡ insert_key is_named read k → names' ≡ names ++ k ∷ [] → HasSame read' names'
same-push read read' names names' k h e f n = ap (list_any (is_named n)) e ∙ same-insert read names k h n ∙ ap (list_any (is_named n)) (sym f)

not_there : (b : Bool) (v : Name) (x : Option Name) → is_some (cond b (Some v) x) ≡ false → (b ≡ false) × (is_some x ≡ false)
not_there true v x h = absurd (true≢false h)
not_there false v x h = (refl, h)

-- a name without a tree gets one, behind the others
new-behind : (k t : Name) (es : List (Name × Name)) → is_some (lookup (is_named k) es) ≡ false → insert_entry is_named es k t ≡ es ++ (k, t) ∷ []
new-behind k t [] h = refl
new-behind k t (e ∷ es) h =
    let g = not_there (is_named k e.0) e.1 (lookup (is_named k) es) h in
    ap (λ (b : Bool). cond b ((e.0, t) ∷ es) (e ∷ insert_entry is_named es k t)) g.0 ∙ ap (λ (ds : List (Name × Name)). e ∷ ds) (new-behind k t es g.1)

pub hold-new : (k t : Name) (es es' : List (Name × Name)) → is_some (lookup (is_named k) es) ≡ false → es' ≡ insert_entry is_named es k t
    → (n : Name) → lookup (is_named n) es' ≡ option_or (lookup (is_named n) es) (cond (is_named n k) (Some t) None)
hold-new k t es es' h e n = ap (lookup (is_named n)) (e ∙ new-behind k t es h) ∙ lookup-push n k t es

-- a name that has one keeps it
pub hold-old : (k t : Name) (es : List (Name × Name)) → is_some (lookup (is_named k) es) ≡ true → (n : Name) → lookup (is_named n) es ≡ option_or (lookup (is_named n) es) (cond (is_named n k) (Some t) None)
hold-old k t es h n =
    elim (lookup (is_named k) es) as (λ o. lookup (is_named k) es ≡ o → is_some o ≡ true → lookup (is_named n) es ≡ option_or (lookup (is_named n) es) (cond (is_named n k) (Some t) None)) [
      | None ↦ λ e g. absurd (true≢false (sym g))
      | Some u ↦ λ e g. held_tree n k t u es e
    ] refl h

-- ---- the last of a list

last-from : {A : Type 0} (m : A) (ms : List A) → slice_get (m ∷ ms) (length ms) ≡ last_or (Some m) ms
last-from m [] = refl
last-from m (k ∷ ms) = last-from k ms

pub last-is : {A : Type 0} (ms : List A) → slice_get ms (length ms - 1) ≡ last_or None ms
last-is [] = refl
last-is (m ∷ ms) = let e : suc (length ms) - 1 ≡ length ms = omega arith in ap (slice_get (m ∷ ms)) e ∙ last-from m ms
