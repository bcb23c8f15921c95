-- Items that were written are read back: a change, a rule, and kept projections.
use Rattle.std.proofs.Common.{◌≡◌, ◌+◌, ◌<◌, ◌^◌, ℕ, true, ◌&&◌, ◌||◌, List, [], ◌∷◌, ◌++◌, map, length, reverse, Option, None, Some, Result, Ok, refl, sym, ap, subst, ◌∙◌}
use Rattle.std.specs.Prelude.{◌==◌, not}
use Rattle.std.specs.Cmp.{first_so, second_so}
use Rattle.std.specs.Int.{to_be_bytes, w16, w32}
use Rattle.std.specs.List.{flat_map, list_any}
use Rattle.std.proofs.lemmas.List.{append_assoc}
use Rattle.git_objects.specs.Paths.{Bytes}
use Rattle.git_objects.specs.Bodies.{is_name}
use Rattle.git_objects.specs.declared.kind.Kind.TheVariants.{Commit}
use Rattle.object_store.specs.Objects.{Object, has}
use Rattle.state_items.specs.Fields.{Spot, Fault, BrokenAt, Read, field, number}
use Rattle.git_objects.specs.Refs.{Refs}
use Rattle.state_items.specs.Items.{is_canonical, change_text, object_text, objects_field, ref_text, refs_field, ChangeItem, Held, ItemKind, Kept, KeptItem, RuleItem, ended_with, entries_field, entry_field, entry_text, is_of, item_kind, kept_part, kept_text, item_kind_field, part, read_item, result_by, result_field, result_text, rule_field, rule_text, text_field, is_rule}
use Rattle.state_items.specs.Changes.{with_refs, entry_of}
use Rattle.git_objects.specs.Results.{◌>>=◌, must, or_refuse}
use Rattle.commit_map.specs.Shown.{Shown}
use Rattle.state_items.specs.Appending.{are_entries, is_result}
use Rattle.state_items.proofs.ReadFields.{AreSet, AreTaken, byte-front, field-front, number-front_2, number-front_4, objects-read, refs-read, spot, then-ok}
use Rattle.state_items.proofs.RefsMoved.{held-long, name-long}

pub append-nothing : (xs : Bytes) → xs ++ [] ≡ xs
append-nothing [] = refl
append-nothing (x ∷ xs) = ap (λ (t : Bytes). x ∷ t) (append-nothing xs)

-- ---- the first two bytes

kind-read : (f k : ℕ) (kind : ItemKind) (b : Bytes) → (f == 1 || f == 2) ≡ true → item_kind f k ≡ Some kind → item_kind_field (spot 0 (f ∷ k ∷ b)) ≡ Ok (kind, spot 2 b)
kind-read f k kind b u e =
    then-ok (number 1 (spot 0 (f ∷ k ∷ b))) (λ f. must (BrokenAt 0) (f.0 == 1 || f.0 == 2) >>= λ _. number 1 f.1 >>= λ k. or_refuse (BrokenAt f.1.at) (item_kind f.0 k.0) >>= λ kind. Ok (kind, k.1))
    (f, spot 1 (k ∷ b)) (byte-front 0 f (k ∷ b))
    ∙ then-ok (must (BrokenAt 0) (f == 1 || f == 2)) (λ _. number 1 (spot 1 (k ∷ b)) >>= λ k. or_refuse (BrokenAt 1) (item_kind f k.0) >>= λ kind. Ok (kind, k.1)) tt (ap (must (BrokenAt 0)) u)
    ∙ then-ok (number 1 (spot 1 (k ∷ b))) (λ k. or_refuse (BrokenAt 1) (item_kind f k.0) >>= λ kind. Ok (kind, k.1)) (k, spot 2 b) (byte-front 1 k b)
    ∙ ap (λ o. or_refuse (BrokenAt 1) o >>= λ kind. Ok (kind, spot 2 b)) e

pub item-by : (h : Held) (f k : ℕ) (kind : ItemKind) (b : Bytes) → (f == 1 || f == 2) ≡ true → item_kind f k ≡ Some kind → read_item h (f ∷ k ∷ b) ≡ part h kind (spot 2 b)
unfolding read_item
item-by h f k kind b u e = then-ok (item_kind_field (spot 0 (f ∷ k ∷ b))) (λ k. part h k.0 k.1) (kind, spot 2 b) (kind-read f k kind b u e)

-- ---- objects and refs

refs_behind : Held → List Object × Spot → Result Held Fault
refs_behind h o = number 4 o.1 >>= λ m. refs_field m.0 o.0 None h.refs m.1 >>= λ r. ended_with (record h { objects = o.0; refs = r.0 }) r.1

pub change-read : (h : Held) (os : List Object) (rs : Refs) → AreTaken h.objects os → AreSet (reverse os ++ h.objects) None rs → length os < 2 ^ 32 → length rs < 2 ^ 32 →
    read_item h (change_text os rs) ≡ Ok (record h { objects = reverse os ++ h.objects; refs = with_refs h.refs rs })
unfolding change_text refs_behind
change-read h os rs a b l m =
    let H = h.objects in
    let n = to_be_bytes w32 (length os) in
    let o = flat_map object_text os in
    let k = to_be_bytes w32 (length rs) in
    let r = flat_map ref_text rs in
    let G = reverse os ++ H in
    let text : n ++ o ++ k ++ r ≡ n ++ (o ++ (k ++ (r ++ []))) =
    append_assoc (n ++ o) k r ∙ append_assoc n o (k ++ r) ∙ ap (λ (t : Bytes). n ++ (o ++ (k ++ t))) (sym (append-nothing r)) in
    let one = objects-read os H 6 (k ++ (r ++ [])) a in
    let two = refs-read G rs None h.refs (one.0 + 4) [] b in
    ap (λ (t : Bytes). read_item h (1 ∷ 1 ∷ t)) text
    ∙ item-by h 1 1 ChangeItem (n ++ (o ++ (k ++ (r ++ [])))) refl refl
    ∙ then-ok (number 4 (spot 2 (n ++ (o ++ (k ++ (r ++ [])))))) (λ n. objects_field n.0 H n.1 >>= refs_behind h) (length os, spot 6 (o ++ (k ++ (r ++ [])))) (number-front_4 2 (length os) (o ++ (k ++ (r ++ []))) l)
    ∙ then-ok (objects_field (length os) H (spot 6 (o ++ (k ++ (r ++ []))))) (refs_behind h) (G, spot one.0 (k ++ (r ++ []))) one.1
    ∙ then-ok (number 4 (spot one.0 (k ++ (r ++ [])))) (λ m. refs_field m.0 G None h.refs m.1 >>= λ r. ended_with (record h { objects = G; refs = r.0 }) r.1) (length rs, spot (one.0 + 4) (r ++ []))
    (number-front_4 one.0 (length rs) (r ++ []) m)
    ∙ then-ok (refs_field (length rs) G None h.refs (spot (one.0 + 4) (r ++ []))) (λ r. ended_with (record h { objects = G; refs = r.0 }) r.1) (with_refs h.refs rs, spot two.0 []) two.1

-- ---- a rule

rule-front : (at k : ℕ) (b : Bytes) → is_rule k ≡ true → rule_field (spot at (k ∷ b)) ≡ Ok (k, spot (at + 1) b)
rule-front at k b u =
    then-ok (number 1 (spot at (k ∷ b))) (λ k. must (BrokenAt at) (is_rule k.0) >>= λ _. Ok k) (k, spot (at + 1) b) (byte-front at k b)
    ∙ ap (λ t. must (BrokenAt at) t >>= λ _. Ok (k, spot (at + 1) b)) u

pub rule-read : (h : Held) (k : ℕ) → is_rule k ≡ true → read_item h (rule_text k) ≡ Ok (record h { rule = k })
rule-read h k u =
    item-by h 2 3 RuleItem (k ∷ []) refl refl
    ∙ then-ok (rule_field (spot 2 (k ∷ []))) (λ k. ended_with (record h { rule = k.0 }) k.1) (k, spot 3 []) (rule-front 2 k [] u)

-- ---- kept projections

-- a value that is read up to what follows
abbrev pub Reads : {A : Type 0} → Read A → A → Bytes → Type 0
Reads r x rest = (at : ℕ) × (r ≡ Ok (x, spot at rest))

field-read : (n at : ℕ) (a b : Bytes) → length a ≡ n → field n (spot at (a ++ b)) ≡ Ok (a, spot (at + n) b)
field-read n at a b l = subst (λ k. field k (spot at (a ++ b)) ≡ Ok (a, spot (at + k) b)) l (field-front at a b)

result-read : (r : Option Shown) (at : ℕ) (rest : Bytes) → is_result r ≡ true → Reads (result_field (spot at (result_text r ++ rest))) r rest
result-read None at rest u = (at + 1, then-ok (number 1 (spot at (0 ∷ rest))) (λ b. result_by at b.0 b.1) (0, spot (at + 1) rest) (byte-front at 0 rest))
result-read (Some p) at rest u = (
  at + 1 + 20 + 20,
  ap (λ (t : Bytes). result_field (spot at (1 ∷ t))) (append_assoc p.commit p.tree rest)
      ∙ then-ok (number 1 (spot at (1 ∷ (p.commit ++ (p.tree ++ rest))))) (λ b. result_by at b.0 b.1) (1, spot (at + 1) (p.commit ++ (p.tree ++ rest))) (byte-front at 1 (p.commit ++ (p.tree ++ rest)))
      ∙ then-ok (field 20 (spot (at + 1) (p.commit ++ (p.tree ++ rest)))) (λ c. field 20 c.1 >>= λ t. Ok (Some (record { commit = c.0; tree = t.0 }), t.1)) (p.commit, spot (at + 1 + 20) (p.tree ++ rest))
      (field-read 20 (at + 1) p.commit (p.tree ++ rest) (name-long p.commit (first_so _ _ u)))
      ∙ then-ok (field 20 (spot (at + 1 + 20) (p.tree ++ rest))) (λ t. Ok (Some (record { commit = p.commit; tree = t.0 }), t.1)) (p.tree, spot (at + 1 + 20 + 20) rest)
      (field-read 20 (at + 1 + 20) p.tree rest (name-long p.tree (second_so (is_name p.commit) _ u))),
)

module _ (S : List Object) (k : ℕ) (text : Bytes) where
  -- an entry of an original that is held and has none yet
  entry-read : (kept : List Kept) (e : Bytes × Option Shown) (at : ℕ) (rest : Bytes) → has Commit S e.0 ≡ true → not (list_any (is_of text k e.0) kept) ≡ true → is_result e.1 ≡ true →
      Reads (entry_field S text k kept (spot at (entry_text e ++ rest))) (entry_of k text e) rest
  entry-read kept e at rest held new good =
      let next = result-read e.1 (at + 20) rest good in (
        next.0,
        ap (λ (t : Bytes). entry_field S text k kept (spot at t)) (append_assoc e.0 (result_text e.1) rest)
            ∙ then-ok (field 20 (spot at (e.0 ++ (result_text e.1 ++ rest))))
            (λ n. must (BrokenAt at) (has Commit S n.0 && not (list_any (is_of text k n.0) kept)) >>= λ _. result_field n.1 >>= λ r. Ok (record { filter = text; rule = k; original = n.0; result = r.0 }, r.1))
            (e.0, spot (at + 20) (result_text e.1 ++ rest)) (field-read 20 at e.0 (result_text e.1 ++ rest) (held-long Commit S e.0 held))
            ∙ then-ok (must (BrokenAt at) (has Commit S e.0 && not (list_any (is_of text k e.0) kept)))
            (λ _. result_field (spot (at + 20) (result_text e.1 ++ rest)) >>= λ r. Ok (record { filter = text; rule = k; original = e.0; result = r.0 }, r.1)) tt
            (λ i. must (BrokenAt at) (held i && new i))
            ∙ then-ok (result_field (spot (at + 20) (result_text e.1 ++ rest))) (λ r. Ok (record { filter = text; rule = k; original = e.0; result = r.0 }, r.1)) (e.1, spot next.0 rest) next.1,
      )

  entries-read : (es : List (Bytes × Option Shown)) (kept : List Kept) (at : ℕ) (rest : Bytes) → are_entries S k text kept es ≡ true →
      Reads (entries_field (length es) S text k kept (spot at (flat_map entry_text es ++ rest))) (kept ++ map (entry_of k text) es) rest
  entries-read [] kept at rest h = (at, ap (λ (t : List Kept). Ok (t, spot at rest)) (sym (kept-nothing kept)))
    where
      kept-nothing : (xs : List Kept) → xs ++ [] ≡ xs
      kept-nothing [] = refl
      kept-nothing (x ∷ xs) = ap (λ (t : List Kept). x ∷ t) (kept-nothing xs)
  entries-read (e ∷ es) kept at rest h =
      let d = entry_of k text e in
      let more = flat_map entry_text es ++ rest in
      let now = first_so (has Commit S e.0 && is_result e.1 && not (list_any (is_of text k e.0) kept)) _ h in
      let later = second_so (has Commit S e.0 && is_result e.1 && not (list_any (is_of text k e.0) kept)) _ h in
      let one = entry-read kept e at more (first_so _ _ (first_so _ _ now)) (second_so (has Commit S e.0 && is_result e.1) _ now) (second_so (has Commit S e.0) _ (first_so _ _ now)) in
      let next = entries-read es (kept ++ d ∷ []) one.0 rest later in (
        next.0,
        ap (λ (t : Bytes). entries_field (length (e ∷ es)) S text k kept (spot at t)) (append_assoc (entry_text e) (flat_map entry_text es) rest)
            ∙ then-ok (entry_field S text k kept (spot at (entry_text e ++ more))) (λ r. entries_field (length es) S text k (kept ++ r.0 ∷ []) r.1) (d, spot one.0 more) one.1
            ∙ next.1
            ∙ ap (λ (t : List Kept). Ok (t, spot next.0 rest)) (append_assoc kept (d ∷ []) (map (entry_of k text) es)),
      )

text-read : (text : Bytes) (at : ℕ) (rest : Bytes) → is_canonical text ≡ true → length text < 2 ^ 16 → text_field (spot at (to_be_bytes w16 (length text) ++ (text ++ rest))) ≡ Ok (text, spot (at + 2 + length text) rest)
text-read text at rest good short =
    then-ok (number 2 (spot at (to_be_bytes w16 (length text) ++ (text ++ rest)))) (λ n. field n.0 n.1 >>= λ t. must (BrokenAt n.1.at) (is_canonical t.0) >>= λ _. Ok t) (length text, spot (at + 2) (text ++ rest))
    (number-front_2 at (length text) (text ++ rest) short)
    ∙ then-ok (field (length text) (spot (at + 2) (text ++ rest))) (λ t. must (BrokenAt (at + 2)) (is_canonical t.0) >>= λ _. Ok t) (text, spot (at + 2 + length text) rest) (field-front (at + 2) text rest)
    ∙ ap (λ t. must (BrokenAt (at + 2)) t >>= λ _. Ok (text, spot (at + 2 + length text) rest)) good

pub kept-read : (h : Held) (k : ℕ) (text : Bytes) (es : List (Bytes × Option Shown)) → is_rule k ≡ true → is_canonical text ≡ true → length text < 2 ^ 16 → length es < 2 ^ 32 →
    are_entries h.objects k text h.kept es ≡ true → read_item h (kept_text k text es) ≡ Ok (record h { kept = h.kept ++ map (entry_of k text) es })
unfolding kept_text
kept-read h k text es u good short few new =
    let n = to_be_bytes w16 (length text) in
    let m = to_be_bytes w32 (length es) in
    let r = flat_map entry_text es in
    let at = 3 + 2 + length text in
    let spelled : n ++ text ++ m ++ r ≡ n ++ (text ++ (m ++ (r ++ []))) =
    append_assoc (n ++ text) m r ∙ append_assoc n text (m ++ r) ∙ ap (λ (t : Bytes). n ++ (text ++ (m ++ t))) (sym (append-nothing r)) in
    let last = entries-read h.objects k text es h.kept (at + 4) [] new in
    ap (λ (t : Bytes). read_item h (2 ∷ 2 ∷ k ∷ t)) spelled
    ∙ item-by h 2 2 KeptItem (k ∷ (n ++ (text ++ (m ++ (r ++ []))))) refl refl
    ∙ then-ok (rule_field (spot 2 (k ∷ (n ++ (text ++ (m ++ (r ++ []))))))) (λ k. kept_part h k.0 k.1) (k, spot 3 (n ++ (text ++ (m ++ (r ++ []))))) (rule-front 2 k (n ++ (text ++ (m ++ (r ++ [])))) u)
    ∙ then-ok (text_field (spot 3 (n ++ (text ++ (m ++ (r ++ [])))))) (λ t. number 4 t.1 >>= λ n. entries_field n.0 h.objects t.0 k h.kept n.1 >>= λ kept. ended_with (record h { kept = kept.0 }) kept.1)
    (text, spot at (m ++ (r ++ []))) (text-read text 3 (m ++ (r ++ [])) good short)
    ∙ then-ok (number 4 (spot at (m ++ (r ++ [])))) (λ n. entries_field n.0 h.objects text k h.kept n.1 >>= λ kept. ended_with (record h { kept = kept.0 }) kept.1) (length es, spot (at + 4) (r ++ []))
    (number-front_4 at (length es) (r ++ []) few)
    ∙ then-ok (entries_field (length es) h.objects text k h.kept (spot (at + 4) (r ++ []))) (λ kept. ended_with (record h { kept = kept.0 }) kept.1) (h.kept ++ map (entry_of k text) es, spot last.0 []) last.1
