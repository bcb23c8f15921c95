-- Filters that are selected, and maps that are put back.
use Rattle.std.proofs.Common.{◌≡◌, ◌&&◌, ℕ, Bool, true, false, cond, [], take, Option, Some, None, is_some, refl, sym, ap, subst₂, ◌∙◌, true≢false}
use Rattle.std.specs.Prelude.{◌==◌}
use Rattle.std.specs.Option.{unwrap_or}
use Rattle.std.proofs.lemmas.Bool.{eqb-true}
use Rattle.std.specs.Cmp.Lexicographic.{bytes_decides}
use Rattle.git_objects.specs.Paths.{Bytes, same_bytes}
use Rattle.commit_map.specs.Rules.{rule_number}
use Rattle.commit_map.specs.Shown.{Entries, kept_at}
use Rattle.state_items.specs.Items.{is_rule}
use Rattle.state_items.specs.KeptMaps.{RuleMaps, entries_at, map_of, maps_by, with_map_by}
use Rattle.state_items.proofs.MapsKept.{entries-set, map-stays, map-there}
use Rattle.repo_ground.specs.Choices.{HasMap, HasPlace, Selection, entries_beside, maps_in, rested, selected_in, with_place}
use Rattle.repo_ground.proofs.MapFronts.{rule-known}
use Rattle.repo_ground.specs.declared.filter_maps.Choice.{Choice}
use Rattle.repo_ground.specs.declared.filter_maps.Choice.TheVariants.{Free, Chosen, Resting}

both : (a b : Bool) → (a && b) ≡ true → (a ≡ true) × (b ≡ true)
both true b e = (refl, e)
both false b e = absurd (true≢false (sym e))

-- ---- places

module _ (k : ℕ) (text : Bytes) (maps : RuleMaps) where
  abbrev set : Bool → RuleMaps
  set b = cond b maps (with_map_by k maps text [])

  pub place-there : HasMap k text (with_place k text maps)
  place-there = by (is_some (map_of text (maps_by k maps))) refl
    where
      by : (b : Bool) → is_some (map_of text (maps_by k maps)) ≡ b → HasMap k text (set b)
      by true e = e
      by false e = map-there k text maps []

  pub place-stays : (j : ℕ) (m : Bytes) → HasMap j m maps → HasMap j m (with_place k text maps)
  place-stays j m h = by (is_some (map_of text (maps_by k maps)))
    where
      by : (b : Bool) → HasMap j m (set b)
      by true = h
      by false = map-stays k j text m maps [] h

  -- a place has no entries
  pub place-entries : (j : ℕ) (m : Bytes) → is_rule k ≡ true → is_rule j ≡ true → entries_at j m (with_place k text maps) ≡ entries_at j m maps
  place-entries j m g h = by (is_some (map_of text (maps_by k maps))) refl
    where
      none : (o : Option Entries) → is_some o ≡ false → [] ≡ unwrap_or o []
      none None e = refl
      none (Some es) e = absurd (true≢false e)

      at : is_some (map_of text (maps_by k maps)) ≡ false → (c : Bool) → (same_bytes text m && k == j) ≡ c → cond c [] (entries_at j m maps) ≡ entries_at j m maps
      at e false q = refl
      at e true q =
          let p = both (same_bytes text m) (k == j) q in
          subst₂ (λ (n : Bytes) (i : ℕ). [] ≡ entries_at i n maps) ((bytes_decides text m).0 p.0) (eqb-true k j p.1) (none (map_of text (maps_by k maps)) e)

      by : (b : Bool) → is_some (map_of text (maps_by k maps)) ≡ b → entries_at j m (set b) ≡ entries_at j m maps
      by true e = refl
      by false e = entries-set k j maps text m [] g h ∙ at e (same_bytes text m && k == j) refl

-- a choice keeps its place in maps that have each place
pub has-place : (c : Choice) (maps more : RuleMaps) → ((k : ℕ) (m : Bytes) → HasMap k m maps → HasMap k m more) → HasPlace maps c → HasPlace more c
has-place Free maps more f h = tt
has-place (Chosen s) maps more f h = f (rule_number s.rule) s.text.items h
has-place (Resting r) maps more f h = f (rule_number r.filter.rule) r.filter.text.items h

-- ---- maps that rest

pub rested-place : (c : Choice) (maps : RuleMaps) (es : Entries) (n : ℕ) → HasPlace maps c → HasPlace maps (rested c es n)
rested-place Free maps es n h = tt
rested-place (Chosen s) maps es n h = h
rested-place (Resting r) maps es n h = h

pub rested-none : (c : Choice) (es : Entries) (n : ℕ) → selected_in (rested c es n) ≡ None
rested-none Free es n = refl
rested-none (Chosen s) es n = refl
rested-none (Resting r) es n = refl

abbrev pub seen : RuleMaps → Choice → Selection
seen maps c = record { maps = maps_in maps c; selected = selected_in c }

-- a map that rests counts among the others with the entries that items hold
pub rested-entries : (c : Choice) (maps : RuleMaps) (es : Entries) (n : ℕ) (text : Bytes) (k : ℕ) → is_rule k ≡ true
    → entries_at k text (maps_in maps (rested c es n)) ≡ entries_beside (seen maps c) (take n es) text k
rested-entries Free maps es n text k h = refl
rested-entries (Chosen s) maps es n text k h = entries-set (rule_number s.rule) k maps s.text.items text (take n es) (rule-known s.rule) h
rested-entries (Resting r) maps es n text k h = refl

-- with a further place the maps have what they had
pub seen-place : (c : Choice) (maps : RuleMaps) (j : ℕ) (t : Bytes) (es : Entries) (text : Bytes) (k : ℕ) → is_rule j ≡ true → is_rule k ≡ true
    → entries_beside (seen (with_place j t maps) c) es text k ≡ entries_beside (seen maps c) es text k
seen-place Free maps j t es text k g h = place-entries j t maps k text g h
seen-place (Chosen s) maps j t es text k g h = ap (cond (same_bytes s.text.items text && rule_number s.rule == k) es) (place-entries j t maps k text g h)
seen-place (Resting r) maps j t es text k g h =
    let own : Entries = take r.kept r.map in
    let i : ℕ = rule_number r.filter.rule in
    let m : Bytes = r.filter.text.items in
    entries-set i k (with_place j t maps) m text own (rule-known r.filter.rule) h
    ∙ ap (cond (same_bytes m text && i == k) own) (place-entries j t maps k text g h)
    ∙ sym (entries-set i k maps m text own (rule-known r.filter.rule) h)

-- a map that rests, put back
pub put-back : (maps : RuleMaps) (i : ℕ) (m : Bytes) (back own : Entries) → is_rule i ≡ true → ((n : Bytes) → kept_at n back ≡ kept_at n own)
    → (text : Bytes) (k : ℕ) (n : Bytes) → is_rule k ≡ true
    → kept_at n (entries_at k text (with_map_by i maps m back)) ≡ kept_at n (entries_at k text (with_map_by i maps m own))
put-back maps i m back own g w text k n h =
    ap (kept_at n) (entries-set i k maps m text back g h)
    ∙ elim (same_bytes m text && i == k) as (λ b. kept_at n (cond b back (entries_at k text maps)) ≡ kept_at n (cond b own (entries_at k text maps))) [ true ↦ w n | false ↦ refl ]
    ∙ ap (kept_at n) (sym (entries-set i k maps m text own g h))

-- ---- a map that is taken out

pub taken-entries : (maps : RuleMaps) (j : ℕ) (t : Bytes) (es : Entries) → is_rule j ≡ true → Some es ≡ map_of t (maps_by j maps) → (text : Bytes) (k : ℕ) → is_rule k ≡ true
    → entries_beside (record { maps = with_map_by j maps t []; selected = Some (t, j) }) es text k ≡ entries_at k text maps
taken-entries maps j t es g e text k h = by (same_bytes t text && j == k) refl
  where
    rest : Entries
    rest = entries_at k text (with_map_by j maps t [])

    by : (b : Bool) → (same_bytes t text && j == k) ≡ b → cond (same_bytes t text && j == k) es rest ≡ entries_at k text maps
    by true q =
        let p = both (same_bytes t text) (j == k) q in
        ap (λ b. cond b es rest) q
        ∙ subst₂ (λ (n : Bytes) (i : ℕ). es ≡ entries_at i n maps) ((bytes_decides t text).0 p.0) (eqb-true j k p.1) (ap (λ o. unwrap_or o []) e)
    by false q =
        ap (λ b. cond b es rest) q
        ∙ entries-set j k maps t text [] g h
        ∙ ap (λ b. cond b [] (entries_at k text maps)) q

-- The maps have what they had, where a place was made, what was selected was put back, and another map was taken out.
pub selected-entries : (c : Choice) (maps after : RuleMaps) (old es : Entries) (n : ℕ) (t : Bytes) (j : ℕ) → is_rule j ≡ true → Some es ≡ map_of t (maps_by j after)
    → ((text : Bytes) (k : ℕ) (m : Bytes) → is_rule k ≡ true → kept_at m (entries_at k text after) ≡ kept_at m (entries_at k text (maps_in (with_place j t maps) (rested c old n))))
    → (text : Bytes) (k : ℕ) (m : Bytes) → is_rule k ≡ true
    → kept_at m (entries_beside (record { maps = with_map_by j after t []; selected = Some (t, j) }) es text k) ≡ kept_at m (entries_beside (seen maps c) (take n old) text k)
selected-entries c maps after old es n t j g e w text k m h =
    ap (kept_at m) (taken-entries after j t es g e text k h)
    ∙ w text k m h
    ∙ ap (kept_at m) (rested-entries c (with_place j t maps) old n text k h ∙ seen-place c maps j t (take n old) text k g h)
