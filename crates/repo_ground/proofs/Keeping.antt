-- Keeping entries of the selected map.
use Rattle.std.proofs.Common.{◌≡◌, ◌+◌, ◌*◌, ◌^◌, ◌<◌, ◌≤◌, ◌&&◌, ◌||◌, ℕ, length-append, zero, suc, append_assoc, slice_get, Bool, true, false, cond, List, [], ◌∷◌, ◌++◌, drop, length, take, Option, Some, None, refl, sym, ap, subst, ◌∙◌, arith, true≢false, append-nil, IsSome, is_some}
use Rattle.std.specs.Option.{option_map}
use Rattle.std.specs.Bool.{if◌then◌else◌}
use borrow.Author.Tests.{leb-true}
use Rattle.std.specs.Prelude.{◌==◌, filter, nat_le, sum_by}
use Rattle.std.specs.Cmp.{second_so}
use Rattle.git_objects.specs.declared.limits.TheConstants.{COMMITS, OBJECTS}
use Rattle.object_store.specs.Fits.{is_commit}
use Rattle.std.specs.List.{cons_option, filter_map, flat_map, list_any}
use Rattle.std.specs.Cmp.Lexicographic.{bytes_decides}
use Rattle.std.specs.Int.{to_be_bytes, w16, w32}
use Rattle.commit_map.specs.Rules.{rule_number}
use Rattle.projection_ground.proofs.Filling.{kept-append, kept-each, kept-front}
use Rattle.state_items.proofs.Lengths.{item-some}
use Rattle.std.proofs.lemmas.List.{length-map, map-append, take-append-drop, take_all}
use Rattle.std.proofs.lemmas.Option.{none-some, same_Some}
use Rattle.git_objects.specs.declared.name.Name.{Name}
use Rattle.commit_map.specs.declared.commit_map.Shown as declared
use Rattle.git_objects.specs.Paths.{Bytes, same_bytes}
use Rattle.git_objects.proofs.Basics.{same_bytes-back}
use Rattle.commit_graph.specs.Graphs.{Row, place_of}
use Rattle.commit_map.specs.Shown.{Entries, Shown, entry_value, entry_values, kept_at}
use Rattle.state_items.specs.Changes.{ChangePlan, KeepPlan, NoPlan, Plan, RulePlan, TagPlan, held_after, passed, plan_items}
use Rattle.state_items.specs.Items.{Held, entry_text, is_canonical, is_rule, kept_text, result_text, rule_text}
use Rattle.state_items.specs.KeptMaps.{entries_at, entries_for}
use Rattle.state_items.proofs.Canonicals.{canonical-law}
use Rattle.state_items.proofs.KeptHeld.{entries-behind}
use Rattle.state_items.proofs.RowsHeld.{rows-number, some-place}
use Rattle.repo_ground.specs.Changes.{IsCommitted}
use Rattle.repo_ground.proofs.Cuts.{tagged-some}
use Rattle.repo_ground.specs.Contents.{Contents, Spells, entries_in, is_selected, room_in}
use Rattle.repo_ground.specs.Keeping.{AreNamed, AreOfGraph, keep_plan, may_keep, new_entries, new_entry, news, unheld}

-- all entries of the map are kept then, in an item of so many bytes
abbrev pub with_kept : Contents → ℕ → Contents
with_kept s n = record s { kept = length s.basis.map; number = s.number + 1; size = s.size + n }

-- ---- look-ups

-- lists that agree on a commit, with lists behind them that agree on it where the first have nothing of it
same-behind : (q : Bytes) (a c b d : Entries) → kept_at q a ≡ kept_at q c → (kept_at q a ≡ None → kept_at q b ≡ kept_at q d) → kept_at q (a ++ b) ≡ kept_at q (c ++ d)
same-behind q a c b d e k = by (kept_at q a) refl
  where
    by : (o : Option (Option Shown)) → kept_at q a ≡ o → kept_at q (a ++ b) ≡ kept_at q (c ++ d)
    by None f = kept-append q a b f ∙ k f ∙ sym (kept-append q c d (sym e ∙ f))
    by (Some v) f = kept-front q a b v f ∙ sym (kept-front q c d v (sym e ∙ f))

module _ (s : Contents) (q : Bytes) where
  none-found : (rows : List Row) → kept_at q (unheld s) ≡ None → kept_at q (filter_map (new_entry s) rows) ≡ None
  none-found [] h = refl
  none-found (r ∷ rows) h = by (is_some (kept_at r.name (unheld s))) refl (kept_at r.name s.basis.map) (none-found rows h)
    where
      at : (c : Bool) → same_bytes q r.name ≡ c → is_some (kept_at r.name (unheld s)) ≡ true → (v : Option Shown) (rest : Option (Option Shown)) → rest ≡ None → cond c (Some v) rest ≡ None
      at true e t v rest ih = absurd (true≢false (sym t ∙ ap (λ m. is_some (kept_at m (unheld s))) (sym ((bytes_decides q r.name).0 e)) ∙ ap is_some h))
      at false e t v rest ih = ih

      by : (b : Bool) → is_some (kept_at r.name (unheld s)) ≡ b → (o : Option (Option Shown)) → kept_at q (filter_map (new_entry s) rows) ≡ None
          → kept_at q (cons_option (cond b (option_map (λ v. (r.name, v)) o) None) (filter_map (new_entry s) rows)) ≡ None
      by false e o ih = ih
      by true e None ih = ih
      by true e (Some v) ih = at (same_bytes q r.name) refl e v (kept_at q (filter_map (new_entry s) rows)) ih

  some-found : (rows : List Row) (x : Option Shown) → IsSome (kept_at q (unheld s)) → kept_at q s.basis.map ≡ Some x → list_any (λ (y : Row). same_bytes y.name q) rows ≡ true → kept_at q (filter_map (new_entry s) rows) ≡ Some x
  some-found [] x h m p = absurd (true≢false (sym p))
  some-found (r ∷ rows) x h m p = by (same_bytes q r.name) refl (λ k. some-found rows x h m k)
    where
      passed-by : (o : Option (Bytes × Option Shown)) → option_map (λ e. e.0) o ≡ option_map (λ e. r.name) o → same_bytes q r.name ≡ false → kept_at q (filter_map (new_entry s) rows) ≡ Some x → kept_at q (cons_option o (filter_map (new_entry s) rows)) ≡ Some x
      passed-by None n e ih = ih
      passed-by (Some y) n e ih = ap (λ b. cond b (Some y.1) (kept_at q (filter_map (new_entry s) rows))) (ap (same_bytes q) (same_Some y.0 r.name n) ∙ e) ∙ ih

      named : (b : Bool) (o : Option (Option Shown)) → option_map (λ (e : Bytes × Option Shown). e.0) (cond b (option_map (λ v. (r.name, v)) o) None) ≡ option_map (λ (e : Bytes × Option Shown). r.name) (cond b (option_map (λ v. (r.name, v)) o) None)
      named false o = refl
      named true None = refl
      named true (Some v) = refl

      by : (c : Bool) → same_bytes q r.name ≡ c → (list_any (λ (y : Row). same_bytes y.name q) rows ≡ true → kept_at q (filter_map (new_entry s) rows) ≡ Some x) → kept_at q (cons_option (new_entry s r) (filter_map (new_entry s) rows)) ≡ Some x
      by true e ih =
          let n : q ≡ r.name = (bytes_decides q r.name).0 e in
          ap (λ b. kept_at q (cons_option (cond b (option_map (λ v. (r.name, v)) (kept_at r.name s.basis.map)) None) (filter_map (new_entry s) rows))) (ap (λ a. is_some (kept_at a (unheld s))) (sym n) ∙ h)
          ∙ ap (λ o. kept_at q (cons_option (option_map (λ v. (r.name, v)) o) (filter_map (new_entry s) rows))) (ap (λ a. kept_at a s.basis.map) (sym n) ∙ m)
          ∙ ap (λ b. cond b (Some x) (kept_at q (filter_map (new_entry s) rows))) e
      by false e ih =
          let t : same_bytes r.name q ≡ false = same_bytes-back r.name q ∙ e in
          let later : list_any (λ (y : Row). same_bytes y.name q) rows ≡ true = subst (λ b. (b || list_any (λ (y : Row). same_bytes y.name q) rows) ≡ true) t p in
          passed-by (new_entry s r) (named (is_some (kept_at r.name (unheld s))) (kept_at r.name s.basis.map)) e (ih later)

  -- what the new entries have of a commit of which nothing is held
  news-at : AreOfGraph s → kept_at q (take s.kept s.basis.map) ≡ None → kept_at q (unheld s) ≡ kept_at q (new_entries s)
  news-at g h = by (kept_at q (unheld s)) refl
    where
      by : (o : Option (Option Shown)) → kept_at q (unheld s) ≡ o → kept_at q (unheld s) ≡ kept_at q (new_entries s)
      by None e = e ∙ sym (none-found s.basis.graph e)
      by (Some x) e =
          let there : IsSome (place_of q s.basis.graph) = kept-each (λ n o. IsSome (place_of n s.basis.graph)) q (unheld s) x g e in
          let value : kept_at q s.basis.map ≡ Some x =
          ap (kept_at q) (sym (take-append-drop s.kept s.basis.map)) ∙ kept-append q (take s.kept s.basis.map) (unheld s) h ∙ e in
          e ∙ sym (some-found s.basis.graph x (ap is_some e) value (sym (some-place (λ (y : Row). same_bytes y.name q) s.basis.graph) ∙ there))

module _ (h : Held) (s : Contents) (text : Bytes) (n : ℕ) (w : Spells h s) (g : AreOfGraph s) (e : s.selected ≡ Some (text, h.rule)) where
  -- what a map has of a text and a rule with the new entries behind those that are kept
  kept-more : (chosen : Bool) (q : Bytes) (old for : Entries) → kept_at q (cond chosen (take s.kept s.basis.map) old) ≡ kept_at q for
      → kept_at q (cond chosen (take (length s.basis.map) s.basis.map) old) ≡ kept_at q (for ++ cond chosen (new_entries s) [])
  kept-more true q old for f =
      ap (kept_at q) (take_all (length s.basis.map) s.basis.map (omega arith) ∙ sym (take-append-drop s.kept s.basis.map))
      ∙ same-behind q (take s.kept s.basis.map) for (unheld s) (new_entries s) f (news-at s q g)
  kept-more false q old for f = f ∙ ap (kept_at q) (sym (append-nil for))

  entries-kept : (m : Bytes) (k : ℕ) (q : Bytes) → is_rule k ≡ true
      → kept_at q (entries_in (with_kept s n) m k) ≡ kept_at q (entries_for m k (held_after h (KeepPlan h.rule text (new_entries s))).kept)
  entries-kept m k q r =
      let chosen : Bool = same_bytes text m && h.rule == k in
      ap (λ o. kept_at q (cond (is_selected o m k) (take (length s.basis.map) s.basis.map) (entries_at k m s.maps))) e
      ∙ kept-more chosen q (entries_at k m s.maps) (entries_for m k h.kept)
      (sym (ap (λ o. kept_at q (cond (is_selected o m k) (take s.kept s.basis.map) (entries_at k m s.maps))) e) ∙ w.entries m k q r)
      ∙ ap (kept_at q) (sym (entries-behind text h.rule m k h.kept (new_entries s)))

  pub spells-kept : Spells (held_after h (KeepPlan h.rule text (new_entries s))) (with_kept s n)
  spells-kept = record {
    store = w.store;
    room = w.room;
    within = w.within;
    graph = w.graph;
    known = w.known;
    names = w.names;
    distinct = w.distinct;
    refs = w.refs;
    heads = w.heads;
    entries = entries-kept;
    few = omega arith;
    rule = w.rule;
    tags = w.tags;
    rising = w.rising;
  }

-- ---- entries behind those that are kept

drop-at : {A : Type 0} (xs : List A) (i : ℕ) (x : A) → slice_get xs i ≡ Some x → drop i xs ≡ x ∷ drop (i + 1) xs
drop-at [] i x e = absurd (none-some x e)
drop-at {A = A} (y ∷ ys) zero x e = ap (λ (z : A). z ∷ ys) (same_Some y x e)
drop-at {A = A} (y ∷ ys) (suc i) x e = drop-at ys i x e ∙ ap (λ (n : ℕ). x ∷ drop n (y ∷ ys)) (let q : suc (i + 1) ≡ suc i + 1 = omega arith in q)

-- ---- how many

filter_map-few : {A B : Type 0} (f : A → Option B) (xs : List A) → length (filter_map f xs) ≤ length xs
filter_map-few f [] = omega arith
filter_map-few {B = B} f (x ∷ xs) = by (f x) (filter_map-few f xs)
  where
    by : (o : Option B) → length (filter_map f xs) ≤ length xs → length (cons_option o (filter_map f xs)) ≤ suc (length xs)
    by None h = omega (arith, h)
    by (Some y) h = omega (arith, h)

pub few-news : (h : Held) (s : Contents) → Spells h s → length (new_entries s) ≤ 2 ^ 20
few-news h s w =
    let few = filter_map-few (new_entry s) s.basis.graph in
    let rows = ap length w.graph ∙ rows-number h.objects w.store in
    let all = leb-true (length (filter is_commit h.objects)) COMMITS (second_so (nat_le (length h.objects) OBJECTS) (nat_le (length (filter is_commit h.objects)) COMMITS) w.room) in
    omega (arith, few, rows, all)

-- the new entries are by names, where the length of their item is
pub news-named : (h : Held) (s : Contents) (text : Bytes) (xs : List (Name × Option declared.Shown)) (size : Option ℕ) → Spells h s → is_canonical text ≡ true → entry_values xs ≡ new_entries s
    → (9 + length text + 61 * length xs ≤ 2 ^ 29 → IsSome size) → (IsSome size → AreNamed (entry_values xs)) → AreNamed (new_entries s)
news-named h s text xs size w canonical e few named =
    let short = (canonical-law.of_text text canonical).1.short in
    let same : length xs ≡ length (new_entries s) = sym (length-map xs entry_value) ∙ ap length e in
    subst AreNamed e (named (few (omega (arith, short, same, few-news h s w))))

-- ---- the code's lists

-- an entry into the map of those that aren't held
pub unheld-set : (es found after : Entries) (i : ℕ) (x : Bytes × Option Shown) (all : Entries) → ((n : Bytes) → kept_at n (found ++ drop i es) ≡ kept_at n all)
    → slice_get es i ≡ Some x → after ≡ found ++ x ∷ [] → (n : Bytes) → kept_at n (after ++ drop (i + 1) es) ≡ kept_at n all
unheld-set es found after i x all h e f n =
    ap (λ (ys : Entries). kept_at n (ys ++ drop (i + 1) es)) f
    ∙ ap (kept_at n) (append_assoc found (x ∷ []) (drop (i + 1) es))
    ∙ ap (λ (ys : Entries). kept_at n (found ++ ys)) (sym (drop-at es i x e))
    ∙ h n

-- an entry of a commit that the map has
pub unheld-there : (es found : Entries) (i : ℕ) (x : Bytes × Option Shown) (all : Entries) → ((n : Bytes) → kept_at n (found ++ drop i es) ≡ kept_at n all)
    → slice_get es i ≡ Some x → IsSome (kept_at x.0 found) → (n : Bytes) → kept_at n (found ++ drop (i + 1) es) ≡ kept_at n all
unheld-there es found i x all h e f n =
    same-behind n found found (drop (i + 1) es) (x ∷ drop (i + 1) es) refl (λ k. by k (same_bytes n x.0) refl)
    ∙ ap (λ (ys : Entries). kept_at n (found ++ ys)) (sym (drop-at es i x e))
    ∙ h n
  where
    by : kept_at n found ≡ None → (c : Bool) → same_bytes n x.0 ≡ c → kept_at n (drop (i + 1) es) ≡ cond c (Some x.1) (kept_at n (drop (i + 1) es))
    by k true q = absurd (true≢false (sym f ∙ ap (λ m. is_some (kept_at m found)) (sym ((bytes_decides n x.0).0 q)) ∙ ap is_some k))
    by k false q = refl

-- what is looked up under a map
pub mapped-some : {A B : Type 0} (f : A → B) (o : Option A) (r : Option B) → option_map f o ≡ r → is_some o ≡ true → IsSome r
mapped-some f None r e n = absurd (true≢false (sym n))
mapped-some f (Some x) r e n = ap is_some (sym e)

-- the row at a place
pub row-at : (rows : List Row) (i : ℕ) → i < length rows → (r : Row) × (slice_get rows i ≡ Some r)
row-at [] i l = absurd (omega (arith, l))
row-at (r ∷ rows) zero l = (r, refl)
row-at (r ∷ rows) (suc i) l = row-at rows i (omega (arith, l))

-- what a row adds to the new entries
pub news-more : (s : Contents) (i : ℕ) (r : Row) (xs after : List (Name × Option declared.Shown)) (o : Option (Name × Option declared.Shown)) (all : Entries)
    → entry_values xs ++ filter_map (new_entry s) (drop i s.basis.graph) ≡ all → slice_get s.basis.graph i ≡ Some r → option_map entry_value o ≡ new_entry s r
    → after ≡ xs ++ cons_option o [] → entry_values after ++ filter_map (new_entry s) (drop (i + 1) s.basis.graph) ≡ all
news-more s i r xs after o all h e v f =
    ap (λ (ys : List (Name × Option declared.Shown)). entry_values ys ++ rest) f
    ∙ by o
    ∙ ap (λ (y : Option (Bytes × Option Shown)). entry_values xs ++ cons_option y rest) v
    ∙ ap (λ (rows : List Row). entry_values xs ++ filter_map (new_entry s) rows) (sym (drop-at s.basis.graph i r e))
    ∙ h
  where
    rest : Entries
    rest = filter_map (new_entry s) (drop (i + 1) s.basis.graph)

    by : (y : Option (Name × Option declared.Shown)) → entry_values (xs ++ cons_option y []) ++ rest ≡ entry_values xs ++ cons_option (option_map entry_value y) rest
    by None = ap (λ (ys : List (Name × Option declared.Shown)). entry_values ys ++ rest) (append-nil xs)
    by (Some x) = ap (λ (ys : Entries). ys ++ rest) (map-append entry_value xs (x ∷ [])) ∙ append_assoc (entry_values xs) (entry_value x ∷ []) rest

-- ---- items

abbrev first : List Bytes → Bytes
first [] = []
first (x ∷ xs) = x

kept-some : (k : ℕ) (text : Bytes) (es : Entries) → 0 < length (kept_text k text es)
unfolding kept_text
kept-some k text es = omega arith

-- a plan's item has bytes
pub plan-some : (p : Plan) (t : Bytes) → plan_items p ≡ t ∷ [] → 0 < length t
plan-some NoPlan t e = cc
plan-some (ChangePlan os rs) t e = subst (λ (x : Bytes). 0 < length x) (ap first e) (item-some os rs)
plan-some (RulePlan k) t e = subst (λ (x : Bytes). 0 < length x) (ap first e) (let q : 0 < length (rule_text k) = omega arith in q)
plan-some (KeepPlan k text es) t e = subst (λ (x : Bytes). 0 < length x) (ap first e) (kept-some k text es)
plan-some (TagPlan os rs ts) t e = subst (λ (x : Bytes). 0 < length x) (ap first e) (tagged-some os rs ts)

some-entries : (es : Entries) → length es ≤ length (flat_map entry_text es)
some-entries [] = omega arith
some-entries (e ∷ es) = omega (arith, some-entries es, length-append (entry_text e) (flat_map entry_text es), length-append e.0 (result_text e.1), result-some e.1)
  where
    result-some : (r : Option Shown) → 0 < length (result_text r)
    result-some None = omega arith
    result-some (Some p) = omega arith

-- an item has more bytes than entries
pub kept-long : (k : ℕ) (text : Bytes) (es : Entries) → length es ≤ length (kept_text k text es)
unfolding kept_text
kept-long k text es =
    let a = to_be_bytes w16 (length text) in
    let b = to_be_bytes w32 (length es) in
    let d = flat_map entry_text es in
    omega (arith, some-entries es, length-append (a ++ text ++ b) d, length-append (a ++ text) b, length-append a text)

-- ---- the state

pub keep-committed : (h : Held) (s : Contents) (text item : Bytes) → Spells h s → AreOfGraph s → s.selected ≡ Some (text, rule_number s.basis.rule)
    → plan_items (keep_plan h s text) ≡ item ∷ [] → passed h (room_in s) (keep_plan h s text) ≡ None → IsCommitted h (keep_plan h s text) s (with_kept s (length item))
keep-committed h s text item w g e = by (may_keep h s text)
  where
    chosen : s.selected ≡ Some (text, h.rule)
    chosen = e ∙ ap (λ (k : ℕ). Some (text, k)) w.rule

    by : (b : Bool) → plan_items (if b then news h s text else NoPlan) ≡ item ∷ [] → passed h (room_in s) (if b then news h s text else NoPlan) ≡ None
        → IsCommitted h (if b then news h s text else NoPlan) s (with_kept s (length item))
    by false f l = cc
    by true f l = record {
      appended = record {
        within = l;
        spells = spells-kept h s text (length item) w g chosen;
        number = refl;
        size = let q : s.size + length item ≡ s.size + sum_by length (item ∷ []) = omega arith in q ∙ ap (λ (xs : List Bytes). s.size + sum_by length xs) (sym f);
        store = refl;
        tables = refl;
        memo = refl;
        true_maps = refl;
      };
      map = refl;
      selected = refl;
    }
