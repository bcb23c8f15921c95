-- Maps by the texts of filters, in the code's table and in what it stands for.
use Rattle.std.proofs.Common.{◌≡◌, ◌⊎◌, inl, inr, ◌&&◌, ◌||◌, ℕ, Bool, true, false, cond, List, [], ◌∷◌, Some, None, refl, sym, ap, subst₂, ◌∙◌, true≢false, IsSome, is_some}
use Rattle.std.specs.Prelude.{◌==◌}
use Rattle.std.specs.Cmp.Lexicographic.{bytes_decides}
use Rattle.std.proofs.lemmas.Bool.{eqb-true}
use Rattle.git_objects.proofs.Basics.{same_bytes-back, same_bytes-self}
use Rattle.state_items.specs.Items.{is_rule}
use Rattle.std.specs.Option.{unwrap_or}
use Rattle.std.specs.Map.{lookup, set_value}
use Rattle.indexmap.specs.IndexMap.{insert_entry}
use Rattle.git_objects.specs.Paths.{Bytes, same_bytes}
use Rattle.commit_map.specs.Shown.{Entries}
use Rattle.state_items.specs.KeptMaps.{RuleMaps, TextMaps, entries_at, map_of, maps_by, with_map_by, text_maps, with_map}

module _ {K : Type 0} (text : K → Bytes) where
  pub map-lookup : (n : Bytes) (es : List (K × Entries)) → lookup (λ k. same_bytes n (text k)) es ≡ map_of n (text_maps text es)
  map-lookup n [] = refl
  map-lookup n (e ∷ es) = ap (cond (same_bytes n (text e.0)) (Some e.1)) (map-lookup n es)

  pub maps-insert : (k : K) (m : Entries) (es : List (K × Entries)) → text_maps text (insert_entry (λ (a b : K). same_bytes (text a) (text b)) es k m) ≡ with_map (text_maps text es) (text k) m
  maps-insert k m [] = refl
  maps-insert k m (e ∷ es) =
      elim (same_bytes (text k) (text e.0)) as (λ b. text_maps text (cond b ((e.0, m) ∷ es) (e ∷ insert_entry (λ (a b : K). same_bytes (text a) (text b)) es k m))
      ≡ cond b ((text e.0, m) ∷ text_maps text es) ((text e.0, e.1) ∷ with_map (text_maps text es) (text k) m)) [
        | true ↦ refl
        | false ↦ ap (λ (ms : TextMaps). (text e.0, e.1) ∷ ms) (maps-insert k m es)
      ]

  -- the map of a text that is there, written in its place
  pub maps-exchange : (n : Bytes) (m : Entries) (es : List (K × Entries)) → IsSome (map_of n (text_maps text es)) → text_maps text (set_value (λ k. same_bytes n (text k)) es m) ≡ with_map (text_maps text es) n m
  maps-exchange n m [] h = absurd (true≢false (sym h))
  maps-exchange n m (e ∷ es) h =
      elim (same_bytes n (text e.0)) as (λ b. IsSome (cond b (Some e.1) (map_of n (text_maps text es))) → text_maps text (cond b ((e.0, m) ∷ es) (e ∷ set_value (λ k. same_bytes n (text k)) es m))
      ≡ cond b ((text e.0, m) ∷ text_maps text es) ((text e.0, e.1) ∷ with_map (text_maps text es) n m)) [
        | true ↦ λ k. refl
        | false ↦ λ k. ap (λ (ms : TextMaps). (text e.0, e.1) ∷ ms) (maps-exchange n m es k)
      ] h

-- ---- a text's map, set

map_of-set : (text : Bytes) (es : Entries) (m : Bytes) (ms : TextMaps) → map_of m (with_map ms text es) ≡ cond (same_bytes text m) (Some es) (map_of m ms)
map_of-set text es m [] = ap (λ b. cond b (Some es) None) (same_bytes-back m text)
map_of-set text es m (x ∷ ms) =
    elim (same_bytes text x.0) as (λ b. same_bytes text x.0 ≡ b → map_of m (cond b ((x.0, es) ∷ ms) (x ∷ with_map ms text es)) ≡ cond (same_bytes text m) (Some es) (cond (same_bytes m x.0) (Some x.1) (map_of m ms))) [
      | true ↦ λ e.
          let name : text ≡ x.0 = (bytes_decides text x.0).0 e in
          let both : same_bytes m x.0 ≡ same_bytes text m = ap (same_bytes m) (sym name) ∙ same_bytes-back m text in
          ap (λ b. cond b (Some es) (map_of m ms)) both
          ∙ elim (same_bytes text m) as (λ b. same_bytes text m ≡ b → cond b (Some es) (map_of m ms) ≡ cond b (Some es) (cond (same_bytes m x.0) (Some x.1) (map_of m ms))) [
            | true ↦ λ g. refl
            | false ↦ λ g. sym (ap (λ b. cond b (Some x.1) (map_of m ms)) (both ∙ g))
          ] refl
      | false ↦ λ e.
          ap (cond (same_bytes m x.0) (Some x.1)) (map_of-set text es m ms)
          ∙ elim (same_bytes m x.0) as (λ b. same_bytes m x.0 ≡ b → cond b (Some x.1) (cond (same_bytes text m) (Some es) (map_of m ms)) ≡ cond (same_bytes text m) (Some es) (cond b (Some x.1) (map_of m ms))) [
            | true ↦ λ g. sym (ap (λ b. cond b (Some es) (Some x.1)) (ap (same_bytes text) ((bytes_decides m x.0).0 g) ∙ e))
            | false ↦ λ g. refl
          ] refl
    ] refl

twice : (text : Bytes) (es ds : Entries) (ms : TextMaps) → with_map (with_map ms text ds) text es ≡ with_map ms text es
twice text es ds [] = ap (λ b. cond b ((text, es) ∷ []) ((text, ds) ∷ (text, es) ∷ [])) (same_bytes-self text)
twice text es ds (x ∷ ms) =
    elim (same_bytes text x.0) as (λ b. same_bytes text x.0 ≡ b → with_map (cond b ((x.0, ds) ∷ ms) (x ∷ with_map ms text ds)) text es ≡ cond b ((x.0, es) ∷ ms) (x ∷ with_map ms text es)) [
      | true ↦ λ e. ap (λ b. cond b ((x.0, es) ∷ ms) ((x.0, ds) ∷ with_map ms text es)) e
      | false ↦ λ e. ap (λ b. cond b ((x.0, es) ∷ with_map ms text ds) (x ∷ with_map (with_map ms text ds) text es)) e ∙ ap (λ (q : TextMaps). x ∷ q) (twice text es ds ms)
    ] refl

abbrev set_in : Bool → RuleMaps → Bytes → Entries → RuleMaps
set_in one maps text es = cond one (record { first = with_map maps.first text es; second = maps.second }) (record { first = maps.first; second = with_map maps.second text es })

pub map-twice : (rule : ℕ) (maps : RuleMaps) (text : Bytes) (es ds : Entries) → with_map_by rule (with_map_by rule maps text ds) text es ≡ with_map_by rule maps text es
map-twice rule maps text es ds = by (rule == 1)
  where
    by : (b : Bool) → set_in b (set_in b maps text ds) text es ≡ set_in b maps text es
    by true = λ i. record { first = twice text es ds maps.first i; second = maps.second }
    by false = λ i. record { first = maps.first; second = twice text es ds maps.second i }

-- a text has a map once it is set, and still has one where another text's is set
there-with : (text m : Bytes) (es : Entries) (ms : TextMaps) → IsSome (map_of m ms) → IsSome (map_of m (with_map ms text es))
there-with text m es ms h =
    ap is_some (map_of-set text es m ms) ∙ elim (same_bytes text m) as (λ b. is_some (cond b (Some es) (map_of m ms)) ≡ true) [ true ↦ refl | false ↦ h ]

pub map-there : (rule : ℕ) (text : Bytes) (maps : RuleMaps) (es : Entries) → IsSome (map_of text (maps_by rule (with_map_by rule maps text es)))
map-there rule text maps es = by (rule == 1)
  where
    one : (ms : TextMaps) → IsSome (map_of text (with_map ms text es))
    one ms = ap is_some (map_of-set text es text ms ∙ ap (λ b. cond b (Some es) (map_of text ms)) (same_bytes-self text))

    by : (b : Bool) → IsSome (map_of text (cond b (set_in b maps text es).first (set_in b maps text es).second))
    by true = one maps.first
    by false = one maps.second

pub map-stays : (rule k : ℕ) (text m : Bytes) (maps : RuleMaps) (es : Entries) → IsSome (map_of m (maps_by k maps)) → IsSome (map_of m (maps_by k (with_map_by rule maps text es)))
map-stays rule k text m maps es h = by (rule == 1) (k == 1) h
  where
    by : (a b : Bool) → IsSome (map_of m (cond b maps.first maps.second)) → IsSome (map_of m (cond b (set_in a maps text es).first (set_in a maps text es).second))
    by true true g = there-with text m es maps.first g
    by true false g = g
    by false true g = g
    by false false g = there-with text m es maps.second g

-- what is kept of a text and a rule after a map was set
pub entries-set : (rule k : ℕ) (maps : RuleMaps) (text m : Bytes) (es : Entries) → is_rule rule ≡ true → is_rule k ≡ true
    → entries_at k m (with_map_by rule maps text es) ≡ cond (same_bytes text m && rule == k) es (entries_at k m maps)
entries-set rule k maps text m es h g = by rule k (is-rule rule h) (is-rule k g)
  where
    one : (ms : TextMaps) → unwrap_or (map_of m (with_map ms text es)) [] ≡ cond (same_bytes text m && true) es (unwrap_or (map_of m ms) [])
    one ms =
        ap (λ o. unwrap_or o []) (map_of-set text es m ms)
        ∙ elim (same_bytes text m) as (λ b. unwrap_or (cond b (Some es) (map_of m ms)) [] ≡ cond (b && true) es (unwrap_or (map_of m ms) [])) [ true ↦ refl | false ↦ refl ]

    other : (e : Entries) → e ≡ cond (same_bytes text m && false) es e
    other e = elim (same_bytes text m) as (λ b. e ≡ cond (b && false) es e) [ true ↦ refl | false ↦ refl ]

    is-rule : (n : ℕ) → is_rule n ≡ true → (n ≡ 1) ⊎ (n ≡ 2)
    is-rule n e = two (n == 1) (n == 2) (eqb-true n 1) (eqb-true n 2) e
      where
        two : (a b : Bool) → (a ≡ true → n ≡ 1) → (b ≡ true → n ≡ 2) → (a || b) ≡ true → (n ≡ 1) ⊎ (n ≡ 2)
        two true b f g e = inl (f refl)
        two false true f g e = inr (g refl)
        two false false f g e = absurd (true≢false (sym e))

    by : (rule k : ℕ) → (rule ≡ 1) ⊎ (rule ≡ 2) → (k ≡ 1) ⊎ (k ≡ 2) → entries_at k m (with_map_by rule maps text es) ≡ cond (same_bytes text m && rule == k) es (entries_at k m maps)
    by rule k (inl a) (inl b) = subst₂ (λ (r j : ℕ). entries_at j m (with_map_by r maps text es) ≡ cond (same_bytes text m && r == j) es (entries_at j m maps)) (sym a) (sym b) (one maps.first)
    by rule k (inl a) (inr b) = subst₂ (λ (r j : ℕ). entries_at j m (with_map_by r maps text es) ≡ cond (same_bytes text m && r == j) es (entries_at j m maps)) (sym a) (sym b) (other (entries_at 2 m maps))
    by rule k (inr a) (inl b) = subst₂ (λ (r j : ℕ). entries_at j m (with_map_by r maps text es) ≡ cond (same_bytes text m && r == j) es (entries_at j m maps)) (sym a) (sym b) (other (entries_at 1 m maps))
    by rule k (inr a) (inr b) = subst₂ (λ (r j : ℕ). entries_at j m (with_map_by r maps text es) ≡ cond (same_bytes text m && r == j) es (entries_at j m maps)) (sym a) (sym b) (one maps.second)
