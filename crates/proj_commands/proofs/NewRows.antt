-- New entries of a map, in the order of a graph's rows.
use Rattle.std.proofs.Common.{◌≡◌, ◌≤◌, ℕ, zero, suc, inl, inr, Bool, true, false, not, cond, ◌&&◌, ◌||◌, List, [], ◌∷◌, ◌++◌, length, map, slice_get, Option, Some, None, IsSome, refl, sym, ap, subst, ◌∙◌, arith, true≢false}
use Rattle.std.specs.Prelude.{◌⊎◌, ◌==◌}
use Rattle.std.specs.Cmp.{first_so, second_so}
use Rattle.std.specs.Cmp.Lexicographic.{bytes_decides}
use Rattle.std.specs.List.{cons_option, filter_map, list_all, list_any}
use Rattle.std.specs.Option.{is_some, option_map}
use Rattle.std.proofs.lemmas.List.Folds.{list_any-append}
use Rattle.git_objects.specs.Lists.{Each}
use Rattle.git_objects.specs.Paths.{Bytes, same_bytes}
use Rattle.git_objects.specs.declared.kind.Kind.TheVariants.{Commit}
use Rattle.git_objects.proofs.Basics.{and_both, same_bytes-self}
use Rattle.object_store.specs.Objects.{Object, has}
use Rattle.commit_graph.specs.Graphs.{Row}
use Rattle.commit_map.specs.Shown.{Entries, Shown, kept_at}
use Rattle.state_items.specs.Appending.{are_entries, is_result}
use Rattle.state_items.specs.Changes.{entry_of}
use Rattle.state_items.specs.Items.{Kept, is_of}
use Rattle.proj_commands.specs.Project.{in_order_of}

-- ---- lists in order

later-by : (all : List Bytes) → ((n : Bytes) (ns : List Bytes) → in_order_of (n ∷ ns) all ≡ true → in_order_of ns all ≡ true)
    → (m : Bytes) (ns : List Bytes) → in_order_of ns all ≡ true → in_order_of ns (m ∷ all) ≡ true
later-by all d m [] h = refl
later-by all d m (n ∷ ns) h = by (same_bytes n m)
  where
    by : (b : Bool) → cond b (in_order_of ns all) (in_order_of (n ∷ ns) all) ≡ true
    by true = d n ns h
    by false = h

dropped : (all : List Bytes) (n : Bytes) (ns : List Bytes) → in_order_of (n ∷ ns) all ≡ true → in_order_of ns all ≡ true
dropped [] n ns h = absurd (true≢false (sym h))
dropped (m ∷ all) n ns h = by (λ k ks. dropped all k ks) (same_bytes n m) h
  where
    by : ((k : Bytes) (ks : List Bytes) → in_order_of (k ∷ ks) all ≡ true → in_order_of ks all ≡ true) → (b : Bool) → cond b (in_order_of ns all) (in_order_of (n ∷ ns) all) ≡ true → in_order_of ns (m ∷ all) ≡ true
    by d true g = later-by all d m ns g
    by d false g = later-by all d m ns (d n ns g)

-- ---- no entry yet

other-name : (text : Bytes) (k : ℕ) (n m : Bytes) → same_bytes m n ≡ false → is_of text k n (record { filter = text; rule = k; original = m; result = None }) ≡ false
other-name text k n m e = ap (λ (b : Bool). same_bytes text text && k == k && b) e ∙ none (same_bytes text text && k == k)
  where
    none : (a : Bool) → (a && false) ≡ false
    none true = refl
    none false = refl

-- ---- entries of rows

module _ (old added : Entries) where
  -- what a row adds
  abbrev pub entry_by : Row → Option (Bytes × Option Shown)
  entry_by r = cond (is_some (kept_at r.name added)) (option_map (λ v. (r.name, v)) (kept_at r.name (old ++ added))) None

  -- an entry that is among the added ones, with what both have of its commit
  pub record IsNew (e : Bytes × Option Shown) : Type 0 where
    pub there : IsSome (kept_at e.0 added)
    pub value : kept_at e.0 (old ++ added) ≡ Some e.1

  -- what a row adds, if anything
  seen : (r : Row) → (entry_by r ≡ None) ⊎ ((v : Option Shown) × (entry_by r ≡ Some (r.name, v)) × IsNew (r.name, v))
  seen r = by (kept_at r.name added) refl (kept_at r.name (old ++ added)) refl
    where
      by : (a : Option (Option Shown)) → kept_at r.name added ≡ a → (b : Option (Option Shown)) → kept_at r.name (old ++ added) ≡ b
          → (entry_by r ≡ None) ⊎ ((v : Option Shown) × (entry_by r ≡ Some (r.name, v)) × IsNew (r.name, v))
      by None ea b eb = inl (ap (λ (o : Option (Option Shown)). cond (is_some o) (option_map (λ v. (r.name, v)) (kept_at r.name (old ++ added))) None) ea)
      by (Some x) ea None eb = inl (λ i. cond (is_some (ea i)) (option_map (λ v. (r.name, v)) (eb i)) None)
      by (Some x) ea (Some v) eb = inr (v, (λ i. cond (is_some (ea i)) (option_map (λ v. (r.name, v)) (eb i)) None), record { there = ap is_some ea; value = eb })

  abbrev pub entries_by : List Row → Entries
  entries_by rows = filter_map entry_by rows

  pub all-new : (rows : List Row) → Each IsNew (entries_by rows)
  all-new [] = tt
  all-new (r ∷ rows) = elim (seen r) [
    | inl gone ↦ subst (λ (o : Option (Bytes × Option Shown)). Each IsNew (cons_option o (entries_by rows))) (sym gone) (all-new rows)
    | inr w ↦ subst (λ (o : Option (Bytes × Option Shown)). Each IsNew (cons_option o (entries_by rows))) (sym w.1) (w.2, all-new rows)
  ]

  pub few-entries : (rows : List Row) → length (entries_by rows) ≤ length rows
  few-entries [] = omega arith
  few-entries (r ∷ rows) = by (entry_by r) (few-entries rows)
    where
      by : (o : Option (Bytes × Option Shown)) → length (entries_by rows) ≤ length rows → length (cons_option o (entries_by rows)) ≤ suc (length rows)
      by None h = omega (arith, h)
      by (Some x) h = omega (arith, h)

  pub in-order : (rows : List Row) → in_order_of (map (λ e. e.0) (entries_by rows)) (map (λ (r : Row). r.name) rows) ≡ true
  in-order [] = refl
  in-order (r ∷ rows) =
      let rest : List Bytes = map (λ e. e.0) (entries_by rows) in
      let names : List Bytes = map (λ (q : Row). q.name) rows in
      elim (seen r) [
        | inl gone ↦ ap (λ (o : Option (Bytes × Option Shown)). in_order_of (map (λ e. e.0) (cons_option o (entries_by rows))) (r.name ∷ names)) gone ∙ later-by names (dropped names) r.name rest (in-order rows)
        | inr w ↦
            ap (λ (o : Option (Bytes × Option Shown)). in_order_of (map (λ e. e.0) (cons_option o (entries_by rows))) (r.name ∷ names)) w.1
            ∙ ap (λ (b : Bool). cond b (in_order_of rest names) (in_order_of (r.name ∷ rest) names)) (same_bytes-self r.name)
            ∙ in-order rows
      ]

  module _ (S : List Object) (k : ℕ) (text : Bytes) where
    -- commits that are held, of which nothing is kept
    abbrev AreUnkept : List Row → List Kept → Type 0
    AreUnkept rows kept = (i : ℕ) (q : Row) → slice_get rows i ≡ Some q → IsSome (kept_at q.name added) → list_any (is_of text k q.name) kept ≡ false

    abbrev AreApart : List Row → Type 0
    AreApart rows = (i j : ℕ) (r q : Row) → slice_get rows i ≡ Some r → slice_get rows j ≡ Some q → r.name ≡ q.name → i ≡ j

    abbrev AreThere : List Row → Type 0
    AreThere rows = (i : ℕ) (q : Row) → slice_get rows i ≡ Some q → has Commit S q.name ≡ true

    apart-rest : (r : Row) (rows : List Row) → AreApart (r ∷ rows) → AreApart rows
    apart-rest r rows d i j a b e f q = less i j (d (suc i) (suc j) a b e f q)
      where
        less : (i j : ℕ) → suc i ≡ suc j → i ≡ j
        less i j e = omega (arith, e)

    -- an entry of the first row leaves the later ones
    unkept-rest : (r : Row) (rows : List Row) (kept : List Kept) (v : Option Shown) → AreApart (r ∷ rows) → AreUnkept (r ∷ rows) kept → AreUnkept rows (kept ++ entry_of k text (r.name, v) ∷ [])
    unkept-rest r rows kept v d u i q e there =
        list_any-append (is_of text k q.name) kept (entry_of k text (r.name, v) ∷ [])
        ∙ ap (λ (b : Bool). b || list_any (is_of text k q.name) (entry_of k text (r.name, v) ∷ [])) (u (suc i) q e there)
        ∙ ap (λ (b : Bool). b || false) (other-name text k q.name r.name (differ (same_bytes r.name q.name) refl))
      where
        differ : (b : Bool) → same_bytes r.name q.name ≡ b → b ≡ false
        differ true g = let same : zero ≡ suc i = d zero (suc i) r q refl e ((bytes_decides r.name q.name).0 g) in absurd (omega (arith, same))
        differ false g = refl

    pub fine-entries : (rows : List Row) (kept : List Kept) → AreThere rows → AreApart rows → AreUnkept rows kept → list_all (λ e. is_result e.1) (entries_by rows) ≡ true
        → are_entries S k text kept (entries_by rows) ≡ true
    fine-entries [] kept a d u n = refl
    fine-entries (r ∷ rows) kept a d u n = elim (seen r) [
      | inl gone ↦
          ap (λ (o : Option (Bytes × Option Shown)). are_entries S k text kept (cons_option o (entries_by rows))) gone
          ∙ fine-entries rows kept (λ i q e. a (suc i) q e) (apart-rest r rows d) (λ i q e. u (suc i) q e)
          (ap (λ (o : Option (Bytes × Option Shown)). list_all (λ e. is_result e.1) (cons_option o (entries_by rows))) (sym gone) ∙ n)
      | inr w ↦
          let named : (is_result w.0 && list_all (λ e. is_result e.1) (entries_by rows)) ≡ true = ap (λ (o : Option (Bytes × Option Shown)). list_all (λ e. is_result e.1) (cons_option o (entries_by rows))) (sym w.1) ∙ n in
          let unkept : not (list_any (is_of text k r.name) kept) ≡ true = ap not (u zero r refl w.2.there) in
          ap (λ (o : Option (Bytes × Option Shown)). are_entries S k text kept (cons_option o (entries_by rows))) w.1
          ∙ and_both (and_both (and_both (a zero r refl) (first_so (is_result w.0) (list_all (λ e. is_result e.1) (entries_by rows)) named)) unkept)
          (fine-entries rows (kept ++ entry_of k text (r.name, w.0) ∷ []) (λ i q e. a (suc i) q e) (apart-rest r rows d) (unkept-rest r rows kept w.0 d u)
          (second_so (is_result w.0) (list_all (λ e. is_result e.1) (entries_by rows)) named))
    ]
