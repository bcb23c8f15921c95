-- Maps of projections from scratch that are taken out, grow, and are put back.
use Rattle.std.proofs.Common.{◌≡◌, ◌⊎◌, inl, inr, ℕ, zero, suc, Bool, true, false, cond, reverse, arith, List, [], ◌∷◌, ◌++◌, ◌+◌, drop, take, slice_get, Option, Some, None, refl, sym, ap, subst, ◌∙◌}
use Rattle.std.specs.Cmp.Lexicographic.{bytes_decides}
use Rattle.std.specs.List.{filter_map}
use Rattle.std.proofs.lemmas.List.{reverse-append}
use Rattle.std.proofs.lemmas.Option.{none-some, same_Some}
use Rattle.git_objects.specs.Lists.{Each}
use Rattle.git_objects.specs.Paths.{Bytes, same_bytes}
use Rattle.git_objects.specs.Snapshots.{Graph, is_graph}
use Rattle.object_store.specs.Objects.{Object}
use Rattle.commit_graph.specs.Graphs.{Row}
use Rattle.commit_map.specs.Shown.{Shown, Entries, kept_at}
use Rattle.commit_map.specs.Rules.{rule_number}
use Rattle.commit_map.specs.declared.rule.Rule.{Rule}
use Rattle.commit_map.specs.declared.rule.Rule.TheVariants.{One, Two}
use Rattle.filter_apply.proofs.Members.{each-left, each-right}
use Rattle.filter_text.specs.Filters.{Filter}
use Rattle.filter_text.specs.Shapes.{shape}
use Rattle.workspace.specs.Workspaces.{shown}
use Rattle.projection_laws.specs.StoredGraphs.{IsGraphIn, graph_of, snapshot_named}
use Rattle.projection_laws.proofs.HistoryLemmas.{each-append, each-map, filter-append}
use Rattle.projection_laws.proofs.StoredGraphs.{whole-graph}
use Rattle.projection_ground.specs.TrueMaps.{AreTrueMaps, IsMapOf, IsPutBehind, IsTakenOut, IsTrueMap}
use Rattle.projection_ground.specs.declared.true_maps.TrueMap.{TrueMap}
use Rattle.projection_ground.proofs.Filling.{kept-append, kept-front, newer-known}
use Rattle.projection_ground.proofs.OwnPlaces.{has-behind}

-- ---- one entry more

-- what is so of each entry is so with one behind them
pub entry-more : (P : Bytes → Option Shown → Type 0) (es : Entries) (m : Bytes) (v : Option Shown) → ((n : Bytes) (o : Option Shown) → kept_at n es ≡ Some o → P n o) → P m v
    → (n : Bytes) (o : Option Shown) → kept_at n (es ++ (m, v) ∷ []) ≡ Some o → P n o
entry-more P es m v h k n o e = by (kept_at n es) refl
  where
    here : (b : Bool) → same_bytes n m ≡ b → cond b (Some v) None ≡ Some o → P n o
    here true q x = subst (λ y. P y o) (sym ((bytes_decides n m).0 q)) (subst (P m) (same_Some v o x) k)
    here false q x = absurd (none-some o x)

    by : (x : Option (Option Shown)) → kept_at n es ≡ x → P n o
    by None i = here (same_bytes n m) refl (sym (kept-append n es ((m, v) ∷ []) i) ∙ e)
    by (Some u) i = h n o (i ∙ sym (kept-front n es ((m, v) ∷ []) u i) ∙ e)

-- ---- more commits

-- projections of a graph's commits are those of one with newer commits
pub true-newer : (S : List Object) (k : Rule) (f : Filter) (newer older : Graph) (es : Entries) → is_graph (newer ++ older) ≡ true → IsTrueMap S older k f es → IsTrueMap S (newer ++ older) k f es
true-newer S k f newer older es whole w = record {
  of = λ n p e. has-behind newer older n (w.of n p e);
  values = λ n p e h. w.values n p e (w.of n p e) ∙ sym (newer-known k (shown f) [] newer older n whole (w.of n p e));
  held = w.held;
}

-- so are all true maps
pub maps-newer : (S : List Object) (newer older : Graph) (ms : List TrueMap) → is_graph (newer ++ older) ≡ true → AreTrueMaps S older ms → AreTrueMaps S (newer ++ older) ms
maps-newer S newer older ms whole h =
    each-map (λ (m : TrueMap). IsTrueMap S older m.rule (shape m.filter) m.map) (λ (m : TrueMap). IsTrueMap S (newer ++ older) m.rule (shape m.filter) m.map)
    (λ m w. true-newer S m.rule (shape m.filter) newer older m.map whole w) ms h

graph-append : (S : List Object) (rows more : List Row) → graph_of S (rows ++ more) ≡ graph_of S more ++ graph_of S rows
unfolding graph_of
graph-append S rows more =
    ap (filter_map (λ (r : Row). snapshot_named S r.name)) (reverse-append rows more)
    ∙ filter-append (λ (r : Row). snapshot_named S r.name) (reverse more) (reverse rows)

-- so they are where a graph has more rows
pub rows-newer : (S : List Object) (rows more : List Row) (ms : List TrueMap) → IsGraphIn S (rows ++ more) → AreTrueMaps S (graph_of S rows) ms → AreTrueMaps S (graph_of S (rows ++ more)) ms
rows-newer S rows more ms w h =
    subst (λ (g : Graph). AreTrueMaps S g ms) (sym (graph-append S rows more))
    (maps-newer S (graph_of S more) (graph_of S rows) ms (ap is_graph (sym (graph-append S rows more)) ∙ whole-graph S (rows ++ more) w) h)

-- ---- maps of a list

pub same-rule : (a b : Rule) → rule_number a ≡ rule_number b → a ≡ b
same-rule One One e = refl
same-rule One Two e = cc
same-rule Two One e = cc
same-rule Two Two e = refl

pub split-get : (xs : List TrueMap) (i : ℕ) (x : TrueMap) → slice_get xs i ≡ Some x → xs ≡ take i xs ++ x ∷ drop (i + 1) xs
split-get [] i x e = absurd (none-some x e)
split-get (y ∷ xs) zero x e = ap (λ z. z ∷ xs) (same_Some y x e)
split-get (y ∷ xs) (suc i) x e =
    let n : suc (i + 1) ≡ suc i + 1 = omega arith in
    ap (λ zs. y ∷ zs) (split-get xs i x e) ∙ ap (λ m. y ∷ (take i xs ++ x ∷ drop m (y ∷ xs))) n

-- a map without entries
pub true-nothing : (S : List Object) (g : Graph) (k : Rule) (f : Filter) → IsTrueMap S g k f []
true-nothing S g k f = record {
  of = λ n p e. absurd (none-some p e);
  values = λ n p e. absurd (none-some p e);
  held = λ n m e. absurd (none-some (Some m) e);
}

as-map : (S : List Object) (g : Graph) (k : Rule) (f : Filter) (es : Entries) (m : TrueMap) → IsMapOf f k es m → IsTrueMap S g m.rule (shape m.filter) m.map → IsTrueMap S g k f es
as-map S g k f es m is w =
    subst (IsTrueMap S g k f) is.2 (subst (λ (x : Filter). IsTrueMap S g k x m.map) is.0 (subst (λ (x : Rule). IsTrueMap S g x (shape m.filter) m.map) is.1 w))

of-map : (S : List Object) (g : Graph) (k : Rule) (f : Filter) (es : Entries) (m : TrueMap) → IsMapOf f k es m → IsTrueMap S g k f es → IsTrueMap S g m.rule (shape m.filter) m.map
of-map S g k f es m is w =
    subst (λ (x : Rule). IsTrueMap S g x (shape m.filter) m.map) (sym is.1) (subst (λ (x : Filter). IsTrueMap S g k x m.map) (sym is.0) (subst (IsTrueMap S g k f) (sym is.2) w))

-- what is taken out is true, and so is what is left
pub true-out : (S : List Object) (g : Graph) (f : Filter) (k : Rule) (old new : List TrueMap) (es : Entries) → IsTakenOut f k old new es → AreTrueMaps S g old → AreTrueMaps S g new × IsTrueMap S g k f es
true-out S g f k old new es (inl x) h = (subst (AreTrueMaps S g) (sym x.0) h, subst (IsTrueMap S g k f) (sym x.1) (true-nothing S g k f))
true-out S g f k old new es (inr x) h =
    let P : TrueMap → Type 0 = λ m. IsTrueMap S g m.rule (shape m.filter) m.map in
    let all : Each P (x.before ++ x.map ∷ x.behind) = subst (Each P) x.all h in
    let rest : P x.map × Each P x.behind = each-right P x.before (x.map ∷ x.behind) all in (
      subst (Each P) (sym x.left) (each-append P x.before x.behind (each-left P x.before (x.map ∷ x.behind) all) rest.1),
      as-map S g k f es x.map x.is rest.0,
    )

each-drop : {A : Type 0} (P : A → Type 0) (n : ℕ) (xs : List A) → Each P xs → Each P (drop n xs)
each-drop P zero xs h = h
each-drop P (suc n) [] h = h
each-drop P (suc n) (x ∷ xs) h = each-drop P n xs h.1

-- one that is true put behind true ones
pub true-behind : (S : List Object) (g : Graph) (f : Filter) (k : Rule) (es : Entries) (old new : List TrueMap) → IsPutBehind f k es old new → AreTrueMaps S g old → IsTrueMap S g k f es → AreTrueMaps S g new
true-behind S g f k es old new x h w =
    let P : TrueMap → Type 0 = λ m. IsTrueMap S g m.rule (shape m.filter) m.map in
    elim x.1 as (λ o. Each P new) [
      | inl same ↦ subst (Each P) (sym same) (each-drop P x.0 old h)
      | inr one ↦ subst (Each P) (sym one.2) (each-append P (drop x.0 old) (one.0 ∷ []) (each-drop P x.0 old h) (of-map S g k f es one.0 one.1 w, tt))
    ]

-- ---- taking out, and putting in

pub is-taken : (f : Filter) (k : Rule) (old new : List TrueMap) (i : ℕ) (m : TrueMap) (es : Entries) → slice_get old i ≡ Some m → shape m.filter ≡ f → m.rule ≡ k → new ≡ take i old ++ drop (i + 1) old
    → ((x : TrueMap) → slice_get old i ≡ Some x → es ≡ x.map) → IsTakenOut f k old new es
is-taken f k old new i m es at of rule left map =
    inr (record {
      map = m;
      before = take i old;
      behind = drop (i + 1) old;
      all = split-get old i m at;
      left = left;
      is = (of, rule, sym (map m at));
    })

pub is-put : (f : Filter) (k : Rule) (es : Entries) (old now new : List TrueMap) → (n : ℕ) × (now ≡ drop n old) → (new ≡ now) ⊎ ((m : TrueMap) × IsMapOf f k es m × (new ≡ now ++ m ∷ [])) → IsPutBehind f k es old new
is-put f k es old now new d (inl e) = (d.0, inl (e ∙ d.1))
is-put f k es old now new d (inr x) = (d.0, inr (x.0, x.1, x.2 ∙ ap (λ (ms : List TrueMap). ms ++ x.0 ∷ []) d.1))
