-- What is held of kept projections, by a filter's text and a rule.
use Rattle.std.proofs.Common.{◌≡◌, ◌&&◌, ◌||◌, ℕ, zero, suc, Bool, true, false, not, cond, List, [], ◌∷◌, ◌++◌, map, Option, Some, Result, Ok, Err, refl, sym, ap, subst, ◌∙◌, append-nil, append_assoc, true≢false, eq-eqb}
use Rattle.std.specs.Prelude.{filter, ◌==◌}
use Rattle.std.specs.List.{list_any}
use Rattle.std.specs.Option.{is_none}
use Rattle.std.proofs.lemmas.List.{map-append}
use Rattle.std.proofs.lemmas.Bool.{eqb-true}
use Rattle.std.specs.Cmp.Lexicographic.{bytes_decides}
use Rattle.std.proofs.lemmas.List.Elements.{filter-append}
use Rattle.git_objects.proofs.Basics.{same_bytes-back, same_bytes-self}
use Rattle.git_objects.specs.Paths.{Bytes, same_bytes}
use Rattle.git_objects.specs.Results.{◌>>=◌, must}
use Rattle.git_objects.specs.declared.kind.Kind.TheVariants.{Commit}
use Rattle.object_store.specs.Objects.{Object, has}
use Rattle.commit_map.specs.Shown.{Entries, Shown, kept_at}
use Rattle.state_items.specs.Fields.{Spot, Fault, BrokenAt, field}
use Rattle.state_items.specs.Items.{Kept, entries_field, entry_field, is_of, is_rule, result_field}
use Rattle.state_items.specs.Changes.{entry_of}
use Rattle.state_items.specs.KeptMaps.{RuleMaps, AreKept, entries_at, entries_for, is_for, with_map_by}
use Rattle.state_items.specs.Steps.{entries_step, entry_step}
use Rattle.state_items.proofs.MapsKept.{entries-set}

-- ---- results that agree

-- values that stand in a relation, or one fault
abbrev pub Matches : {A B : Type 0} → (A → B → Type 0) → Result A Fault → Result B Fault → Type 0
Matches R (Ok x) (Ok y) = R x y
Matches R (Ok x) (Err f) = ⊥
Matches R (Err e) (Ok y) = ⊥
Matches R (Err e) (Err f) = e ≡ f

pub match-then : {A B C D : Type 0} (R : A → B → Type 0) (Q : C → D → Type 0) (r : Result A Fault) (q : Result B Fault) (f : A → Result C Fault) (g : B → Result D Fault)
    → Matches R r q → ((x : A) (y : B) → R x y → Matches Q (f x) (g y)) → Matches Q (r >>= f) (q >>= g)
match-then R Q (Ok x) (Ok y) f g h k = k x y h
match-then R Q (Ok x) (Err e) f g h k = absurd h
match-then R Q (Err e) (Ok y) f g h k = absurd h
match-then R Q (Err e) (Err d) f g h k = h

pub match-same : {A : Type 0} (r : Result A Fault) → Matches (λ (x y : A). x ≡ y) r r
match-same (Ok x) = refl
match-same (Err e) = refl

pub match-as : {A B : Type 0} (R Q : A → B → Type 0) (r : Result A Fault) (q : Result B Fault) → ((x : A) (y : B) → R x y → Q x y) → Matches R r q → Matches Q r q
match-as R Q (Ok x) (Ok y) f h = f x y h
match-as R Q (Ok x) (Err e) f h = absurd h
match-as R Q (Err e) (Ok y) f h = absurd h
match-as R Q (Err e) (Err d) f h = h

-- steps that are taken together on one side
pub match-nest : {A A' B C D : Type 0} (R : A → A' → Type 0) (Q : C → D → Type 0) (r : Result A Fault) (q : Result A' Fault) (f : A → Result B Fault) (g : B → Result C Fault) (k : A' → Result D Fault)
    → Matches R r q → ((x : A) (y : A') → R x y → Matches Q (f x >>= g) (k y)) → Matches Q ((r >>= f) >>= g) (q >>= k)
match-nest R Q (Ok x) (Ok y) f g k h l = l x y h
match-nest R Q (Ok x) (Err e) f g k h l = absurd h
match-nest R Q (Err e) (Ok y) f g k h l = absurd h
match-nest R Q (Err e) (Err d) f g k h l = h

pub match-nest3 : {A B C D E : Type 0} (Q : D → E → Type 0) (r : Result A Fault) (f : A → Result B Fault) (g : B → Result C Fault) (k : C → Result D Fault) (l : A → Result E Fault)
    → ((x : A) → Matches Q ((f x >>= g) >>= k) (l x)) → Matches Q (((r >>= f) >>= g) >>= k) (r >>= l)
match-nest3 Q (Ok x) f g k l h = h x
match-nest3 Q (Err e) f g k l h = refl

-- ---- entries

of-split : (a b c : Bool) → (a && b && c) ≡ cond (a && b) c false
of-split true true c = refl
of-split true false c = refl
of-split false b c = refl

none-step : {A : Type 0} (c later : Bool) (x : A) (o : Option A) → is_none o ≡ not later → is_none (cond c (Some x) o) ≡ not (c || later)
none-step true later x o h = refl
none-step false later x o h = h

abbrev pair_of : Kept → Bytes × Option Shown
pair_of e = (e.original, e.result)

module _ (text : Bytes) (rule : ℕ) where
  -- an original is in the map where it is held
  pub known : (n : Bytes) (kept : List Kept) → is_none (kept_at n (entries_for text rule kept)) ≡ not (list_any (is_of text rule n) kept)
  known n [] = refl
  known n (e ∷ kept) =
      let later : Bool = list_any (is_of text rule n) kept in
      let own : Bool = same_bytes e.original n in
      let split : is_of text rule n e ≡ cond (is_for text rule e) own false = of-split (same_bytes e.filter text) (e.rule == rule) own in
      let ih = known n kept in
      elim (is_for text rule e) as (λ b. is_for text rule e ≡ b →
      is_none (kept_at n (map pair_of (cond b (e ∷ filter (is_for text rule) kept) (filter (is_for text rule) kept)))) ≡ not (is_of text rule n e || later)) [
        | true ↦ λ h.
            ap (λ b. is_none (cond b (Some e.result) (kept_at n (entries_for text rule kept)))) (same_bytes-back n e.original)
            ∙ none-step own later e.result (kept_at n (entries_for text rule kept)) ih
            ∙ ap (λ b. not (b || later)) (sym (split ∙ ap (λ b. cond b own false) h))
        | false ↦ λ h. ih ∙ ap (λ b. not (b || later)) (sym (split ∙ ap (λ b. cond b own false) h))
      ] refl

  own-entries : (m : Bytes) (k : ℕ) (b : Bool) → (same_bytes text m && rule == k) ≡ b → (more : Entries) → map pair_of (filter (is_for m k) (map (entry_of rule text) more)) ≡ cond b more []
  own-entries m k true e [] = refl
  own-entries m k false e [] = refl
  own-entries m k true e (x ∷ more) =
      ap (λ c. map pair_of (cond c (entry_of rule text x ∷ filter (is_for m k) (map (entry_of rule text) more)) (filter (is_for m k) (map (entry_of rule text) more)))) e
      ∙ ap (λ (es : Entries). x ∷ es) (own-entries m k true e more)
  own-entries m k false e (x ∷ more) =
      ap (λ c. map pair_of (cond c (entry_of rule text x ∷ filter (is_for m k) (map (entry_of rule text) more)) (filter (is_for m k) (map (entry_of rule text) more)))) e
      ∙ own-entries m k false e more

  -- entries behind what is held are behind what is held for their text and rule, and nowhere else
  pub entries-behind : (m : Bytes) (k : ℕ) (kept : List Kept) (more : Entries)
      → entries_for m k (kept ++ map (entry_of rule text) more) ≡ entries_for m k kept ++ cond (same_bytes text m && rule == k) more []
  entries-behind m k kept more =
      ap (map pair_of) (filter-append (is_for m k) kept (map (entry_of rule text) more))
      ∙ map-append pair_of (filter (is_for m k) kept) (filter (is_for m k) (map (entry_of rule text) more))
      ∙ ap (λ (es : Entries). entries_for m k kept ++ es) (own-entries m k (same_bytes text m && rule == k) refl more)

  same-self : (same_bytes text text && rule == rule) ≡ true
  same-self = (λ i. same_bytes-self text i && eq-eqb rule rule refl i)

  pub own-behind : (kept : List Kept) (more : Entries) → entries_for text rule (kept ++ map (entry_of rule text) more) ≡ entries_for text rule kept ++ more
  own-behind kept more = entries-behind text rule kept more ∙ ap (λ b. entries_for text rule kept ++ cond b more []) same-self

  -- one entry more, in the map and in what is held
  pub record IsOneMore (es : Entries) (x : Entries × Spot) (y : Kept × Spot) : Type 0 where
    pub behind : x.1 ≡ y.1
    pub entry : Bytes × Option Shown
    pub mapped : x.0 ≡ es ++ entry ∷ []
    pub held : y.0 ≡ entry_of rule text entry

  pub record AreMore (es : Entries) (kept : List Kept) (x : Entries × Spot) (y : List Kept × Spot) : Type 0 where
    pub behind : x.1 ≡ y.1
    pub more : Entries
    pub mapped : x.0 ≡ es ++ more
    pub held : y.0 ≡ kept ++ map (entry_of rule text) more

  entry-match : (S : List Object) (es : Entries) (kept : List Kept) (s : Spot) → es ≡ entries_for text rule kept → Matches (IsOneMore es) (entry_step S es s) (entry_field S text rule kept s)
  entry-match S es kept s h =
      match-nest (λ (x y : Bytes × Spot). x ≡ y) (IsOneMore es) (field 20 s) (field 20 s)
      (λ n. must (BrokenAt s.at) (has Commit S n.0 && is_none (kept_at n.0 es)) >>= λ _. Ok n)
      (λ n. result_field n.1 >>= λ r. Ok (es ++ (n.0, r.0) ∷ [], r.1))
      (λ n. must (BrokenAt s.at) (has Commit S n.0 && not (list_any (is_of text rule n.0) kept)) >>= λ _. result_field n.1 >>= λ r. Ok (record { filter = text; rule = rule; original = n.0; result = r.0 }, r.1))
      (match-same (field 20 s)) (λ x y e. named x y e)
    where
      test : (n : Bytes) → (has Commit S n && is_none (kept_at n es)) ≡ (has Commit S n && not (list_any (is_of text rule n) kept))
      test n = ap (λ b. has Commit S n && b) (ap (λ (ds : Entries). is_none (kept_at n ds)) h ∙ known n kept)

      shown : (x : Bytes × Spot) → Matches (IsOneMore es) (result_field x.1 >>= λ r. Ok (es ++ (x.0, r.0) ∷ [], r.1)) (result_field x.1 >>= λ r. Ok (record { filter = text; rule = rule; original = x.0; result = r.0 }, r.1))
      shown x =
          match-then (λ (r q : Option Shown × Spot). r ≡ q) (IsOneMore es) (result_field x.1) (result_field x.1) (λ r. Ok (es ++ (x.0, r.0) ∷ [], r.1)) (λ r. Ok (record { filter = text; rule = rule; original = x.0; result = r.0 }, r.1))
          (match-same (result_field x.1))
          (λ r q e. record {
            behind = ap (λ (p : Option Shown × Spot). p.1) e;
            entry = (x.0, r.0);
            mapped = refl;
            held = ap (λ (p : Option Shown × Spot). record { filter = text; rule = rule; original = x.0; result = p.0 }) (sym e);
          })

      judged : (x : Bytes × Spot) → Matches (IsOneMore es)
          ((must (BrokenAt s.at) (has Commit S x.0 && is_none (kept_at x.0 es)) >>= λ _. Ok x) >>= λ n. result_field n.1 >>= λ r. Ok (es ++ (n.0, r.0) ∷ [], r.1))
          (must (BrokenAt s.at) (has Commit S x.0 && not (list_any (is_of text rule x.0) kept)) >>= λ _. result_field x.1 >>= λ r. Ok (record { filter = text; rule = rule; original = x.0; result = r.0 }, r.1))
      judged x =
          match-nest (λ (a b : Unit {0}). a ≡ b) (IsOneMore es) (must (BrokenAt s.at) (has Commit S x.0 && is_none (kept_at x.0 es))) (must (BrokenAt s.at) (has Commit S x.0 && not (list_any (is_of text rule x.0) kept)))
          (λ _. Ok x) (λ n. result_field n.1 >>= λ r. Ok (es ++ (n.0, r.0) ∷ [], r.1)) (λ _. result_field x.1 >>= λ r. Ok (record { filter = text; rule = rule; original = x.0; result = r.0 }, r.1))
          (subst (λ (b : Bool). Matches (λ (a b : Unit {0}). a ≡ b) (must (BrokenAt s.at) (has Commit S x.0 && is_none (kept_at x.0 es))) (must (BrokenAt s.at) b)) (test x.0) (match-same (must (BrokenAt s.at) (has Commit S x.0 && is_none (kept_at x.0 es)))))
          (λ a b e. shown x)

      named : (x y : Bytes × Spot) → x ≡ y → Matches (IsOneMore es)
          ((must (BrokenAt s.at) (has Commit S x.0 && is_none (kept_at x.0 es)) >>= λ _. Ok x) >>= λ n. result_field n.1 >>= λ r. Ok (es ++ (n.0, r.0) ∷ [], r.1))
          (must (BrokenAt s.at) (has Commit S y.0 && not (list_any (is_of text rule y.0) kept)) >>= λ _. result_field y.1 >>= λ r. Ok (record { filter = text; rule = rule; original = y.0; result = r.0 }, r.1))
      named x y e =
          subst (λ (z : Bytes × Spot). Matches (IsOneMore es)
          ((must (BrokenAt s.at) (has Commit S x.0 && is_none (kept_at x.0 es)) >>= λ _. Ok x) >>= λ n. result_field n.1 >>= λ r. Ok (es ++ (n.0, r.0) ∷ [], r.1))
          (must (BrokenAt s.at) (has Commit S z.0 && not (list_any (is_of text rule z.0) kept)) >>= λ _. result_field z.1 >>= λ r. Ok (record { filter = text; rule = rule; original = z.0; result = r.0 }, r.1))) e (judged x)

  -- entries into a map are entries behind what is held
  pub entries-match : (n : ℕ) (S : List Object) (es : Entries) (kept : List Kept) (s : Spot) → es ≡ entries_for text rule kept
      → Matches (AreMore es kept) (entries_step n S es s) (entries_field n S text rule kept s)
  entries-match zero S es kept s h = record { behind = refl; more = []; mapped = sym (append-nil es); held = sym (append-nil kept) }
  entries-match (suc n) S es kept s h =
      match-then (IsOneMore es) (AreMore es kept) (entry_step S es s) (entry_field S text rule kept s) (λ e. entries_step n S e.0 e.1) (λ e. entries_field n S text rule (kept ++ e.0 ∷ []) e.1)
      (entry-match S es kept s h)
      (λ x y one.
      let held : kept ++ y.0 ∷ [] ≡ kept ++ map (entry_of rule text) (one.entry ∷ []) = ap (λ (k : Kept). kept ++ k ∷ []) one.held in
      let both : x.0 ≡ entries_for text rule (kept ++ y.0 ∷ []) =
      one.mapped ∙ ap (λ (ds : Entries). ds ++ one.entry ∷ []) h ∙ sym (own-behind kept (one.entry ∷ [])) ∙ ap (entries_for text rule) (sym held) in
      let rest = subst (λ (t : Spot). Matches (AreMore x.0 (kept ++ y.0 ∷ [])) (entries_step n S x.0 x.1) (entries_field n S text rule (kept ++ y.0 ∷ []) t)) one.behind (entries-match n S x.0 (kept ++ y.0 ∷ []) x.1 both) in
      wider n S es kept x y one rest)
    where
      joined : (es : Entries) (kept : List Kept) (x : Entries × Spot) (y : Kept × Spot) → IsOneMore es x y → (v : Entries × Spot) (w : List Kept × Spot) → AreMore x.0 (kept ++ y.0 ∷ []) v w → AreMore es kept v w
      joined es kept x y one v w more = record {
        behind = more.behind;
        more = one.entry ∷ more.more;
        mapped = more.mapped ∙ ap (λ (ds : Entries). ds ++ more.more) one.mapped ∙ append_assoc es (one.entry ∷ []) more.more;
        held = more.held ∙ ap (λ (k : Kept). (kept ++ k ∷ []) ++ map (entry_of rule text) more.more) one.held ∙ append_assoc kept (entry_of rule text one.entry ∷ []) (map (entry_of rule text) more.more);
      }

      wider : (n : ℕ) (S : List Object) (es : Entries) (kept : List Kept) (x : Entries × Spot) (y : Kept × Spot) → IsOneMore es x y
          → Matches (AreMore x.0 (kept ++ y.0 ∷ [])) (entries_step n S x.0 x.1) (entries_field n S text rule (kept ++ y.0 ∷ []) y.1)
          → Matches (AreMore es kept) (entries_step n S x.0 x.1) (entries_field n S text rule (kept ++ y.0 ∷ []) y.1)
      wider n S es kept x y one h = match-as (AreMore x.0 (kept ++ y.0 ∷ [])) (AreMore es kept) (entries_step n S x.0 x.1) (entries_field n S text rule (kept ++ y.0 ∷ []) y.1) (λ v w m. joined es kept x y one v w m) h

  -- the maps with the grown map have what is held then
  pub kept-more : (maps : RuleMaps) (kept : List Kept) (more : Entries) → is_rule rule ≡ true → AreKept maps kept
      → AreKept (with_map_by rule maps text (entries_at rule text maps ++ more)) (kept ++ map (entry_of rule text) more)
  kept-more maps kept more r h m k g =
      entries-set rule k maps text m (entries_at rule text maps ++ more) r g
      ∙ by (same_bytes text m && rule == k) refl
      ∙ sym (entries-behind m k kept more)
    where
      first : (a b : Bool) → (a && b) ≡ true → a ≡ true
      first true b e = refl
      first false b e = e

      second : (a b : Bool) → (a && b) ≡ true → b ≡ true
      second true b e = e
      second false b e = absurd (true≢false (sym e))

      by : (b : Bool) → (same_bytes text m && rule == k) ≡ b → cond b (entries_at rule text maps ++ more) (entries_at k m maps) ≡ entries_for m k kept ++ cond b more []
      by true e =
          let t : text ≡ m = (bytes_decides text m).0 (first (same_bytes text m) (rule == k) e) in
          let n : rule ≡ k = eqb-true rule k (second (same_bytes text m) (rule == k) e) in
          ap (λ (es : Entries). es ++ more) (h text rule r ∙ (λ i. entries_for (t i) (n i) kept))
      by false e = h m k g ∙ sym (append-nil (entries_for m k kept))
