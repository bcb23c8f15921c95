-- An item, read into what the code holds, is what the items hold then.
use Rattle.std.proofs.Common.{◌≡◌, ℕ, Bool, true, false, List, None, Result, Ok, Err, refl, sym, ap, subst}
use Rattle.git_objects.specs.Paths.{Bytes}
use Rattle.git_objects.specs.Refs.{Refs}
use Rattle.git_objects.specs.Results.{◌>>=◌, must}
use Rattle.object_store.specs.Objects.{Object}
use Rattle.commit_map.specs.Shown.{Entries}
use Rattle.tag_objects.specs.declared.tag.Tag.{Tag}
use Rattle.state_items.specs.Fields.{Spot, Fault, BrokenAt, Clash, Read, ended, number, start}
use Rattle.state_items.specs.Items.{Held, Kept, ItemKind, ChangeItem, OldKeptItem, KeptItem, RuleItem, TagItem, change_part, ended_with, entries_field, is_rule, item_kind_field, kept_part, objects_field, part, read_item, refs_field, rule_field, tag_part, tags_field, text_field}
use Rattle.state_items.specs.KeptMaps.{RuleMaps, AreKept, entries_at, with_map_by}
use Rattle.state_items.specs.Steps.{Parts, entries_step, item_step, kept_by_rule, kept_maps, objects_step, part_step, refs_step, rule_end, tagged_step, tags_step}
use Rattle.state_items.specs.Stops.{IsStop}
use Rattle.state_items.specs.declared.fault.ItemFault.{ItemFault}
use Rattle.state_items.specs.declared.fault.ItemFault.TheVariants.{Broken, Collision, OutOfMemory}
use Rattle.state_items.proofs.KeptHeld.{Matches, match-nest, match-nest3, AreMore, entries-match, kept-more}

-- the parts are what is held
pub record AreParts (p : Parts) (h : Held) : Type 0 where
  pub objects : p.objects ≡ h.objects
  pub refs : p.refs ≡ h.refs
  pub maps : AreKept p.maps h.kept
  pub rule : p.rule ≡ h.rule
  pub tags : p.tags ≡ h.tags

-- one step first on both sides
then-same : {A C D : Type 0} (Q : C → D → Type 0) (r : Result A Fault) (f : A → Result C Fault) (g : A → Result D Fault) → ((x : A) → Matches Q (f x) (g x)) → Matches Q (r >>= f) (r >>= g)
then-same Q (Ok x) f g h = h x
then-same Q (Err e) f g h = refl

nest-same : {A B C D : Type 0} (Q : C → D → Type 0) (r : Result A Fault) (f : A → Result B Fault) (g : B → Result C Fault) (k : A → Result D Fault) → ((x : A) → Matches Q (f x >>= g) (k x)) → Matches Q ((r >>= f) >>= g) (r >>= k)
nest-same Q (Ok x) f g k h = h x
nest-same Q (Err e) f g k h = refl

module _ (h : Held) (p : Parts) (t : AreParts p h) where
  -- ---- a change

  abbrev changed : List Object × Refs → Result Parts Fault
  changed c = Ok (record p { objects = c.0; refs = c.1 })

  abbrev pair : List Object × Spot → Refs → Result (List Object × Refs) Fault
  pair o r = Ok (o.0, r)

  abbrev end_refs : Refs × Spot → Result Refs Fault
  end_refs r = ended r.1 >>= λ _. Ok r.0

  abbrev refs_then : List Object × Spot → ℕ × Spot → Result Refs Fault
  refs_then o m = refs_field m.0 o.0 None h.refs m.1 >>= end_refs

  abbrev objects_then : List Object × Spot → Result (List Object × Refs) Fault
  objects_then o = refs_step o.0 h.refs o.1 >>= pair o

  abbrev count_then : ℕ × Spot → Result (List Object × Refs) Fault
  count_then n = objects_field n.0 h.objects n.1 >>= objects_then

  abbrev held_end : List Object × Spot → Refs × Spot → Result Held Fault
  held_end o r = ended_with (record h { objects = o.0; refs = r.0 }) r.1

  abbrev held_refs : List Object × Spot → ℕ × Spot → Result Held Fault
  held_refs o m = refs_field m.0 o.0 None h.refs m.1 >>= held_end o

  abbrev held_objects : List Object × Spot → Result Held Fault
  held_objects o = number 4 o.1 >>= held_refs o

  abbrev held_count : ℕ × Spot → Result Held Fault
  held_count n = objects_field n.0 h.objects n.1 >>= held_objects

  refs-match : (o : List Object × Spot) (r : Refs × Spot) → Matches AreParts ((end_refs r >>= pair o) >>= changed) (held_end o r)
  refs-match o r =
      match-nest3 AreParts (ended r.1) (λ _. Ok r.0) (pair o) changed (λ _. Ok (record h { objects = o.0; refs = r.0 }))
      (λ _. record { objects = refl; refs = refl; maps = t.maps; rule = t.rule; tags = t.tags })

  objects-match : (o : List Object × Spot) → Matches AreParts (objects_then o >>= changed) (held_objects o)
  objects-match o =
      match-nest3 AreParts (number 4 o.1) (refs_then o) (pair o) changed (held_refs o)
      (λ m. match-nest3 AreParts (refs_field m.0 o.0 None h.refs m.1) end_refs (pair o) changed (held_end o) (λ r. refs-match o r))

  change-match : (s : Spot) → Matches AreParts (objects_step h.objects h.refs s >>= changed) (change_part h s)
  change-match s =
      nest-same AreParts (number 4 s) count_then changed held_count
      (λ n. nest-same AreParts (objects_field n.0 h.objects n.1) objects_then changed held_objects (λ o. objects-match o))

  -- ---- a change with tags

  abbrev tagged : List Object × Refs × List Tag → Result Parts Fault
  tagged c = Ok (record p { objects = c.0; refs = c.1; tags = c.2 })

  abbrev triple : List Object × Spot → Refs × List Tag → Result (List Object × Refs × List Tag) Fault
  triple o c = Ok (o.0, c.0, c.1)

  abbrev end_tags : Refs × Spot → List Tag × Spot → Result (Refs × List Tag) Fault
  end_tags r x = ended x.1 >>= λ _. Ok (r.0, x.0)

  abbrev tags_then : List Object × Spot → Refs × Spot → ℕ × Spot → Result (Refs × List Tag) Fault
  tags_then o r k = tags_field k.0 o.0 None h.tags k.1 >>= end_tags r

  abbrev number_then : List Object × Spot → Refs × Spot → Result (Refs × List Tag) Fault
  number_then o r = number 4 r.1 >>= tags_then o r

  abbrev both_then : List Object × Spot → ℕ × Spot → Result (Refs × List Tag) Fault
  both_then o m = refs_field m.0 o.0 None h.refs m.1 >>= number_then o

  abbrev all_then : List Object × Spot → Result (List Object × Refs × List Tag) Fault
  all_then o = tags_step o.0 h.refs h.tags o.1 >>= triple o

  abbrev all_count : ℕ × Spot → Result (List Object × Refs × List Tag) Fault
  all_count n = objects_field n.0 h.objects n.1 >>= all_then

  abbrev tagged_end : List Object × Spot → Refs × Spot → List Tag × Spot → Result Held Fault
  tagged_end o r x = ended_with (record h { objects = o.0; refs = r.0; tags = x.0 }) x.1

  abbrev held_tags : List Object × Spot → Refs × Spot → ℕ × Spot → Result Held Fault
  held_tags o r k = tags_field k.0 o.0 None h.tags k.1 >>= tagged_end o r

  abbrev held_number : List Object × Spot → Refs × Spot → Result Held Fault
  held_number o r = number 4 r.1 >>= held_tags o r

  abbrev held_both : List Object × Spot → ℕ × Spot → Result Held Fault
  held_both o m = refs_field m.0 o.0 None h.refs m.1 >>= held_number o

  abbrev held_all : List Object × Spot → Result Held Fault
  held_all o = number 4 o.1 >>= held_both o

  abbrev held_all_count : ℕ × Spot → Result Held Fault
  held_all_count n = objects_field n.0 h.objects n.1 >>= held_all

  end-match : (o : List Object × Spot) (r : Refs × Spot) (x : List Tag × Spot) → Matches AreParts ((end_tags r x >>= triple o) >>= tagged) (tagged_end o r x)
  end-match o r x =
      match-nest3 AreParts (ended x.1) (λ _. Ok (r.0, x.0)) (triple o) tagged (λ _. Ok (record h { objects = o.0; refs = r.0; tags = x.0 }))
      (λ _. record { objects = refl; refs = refl; maps = t.maps; rule = t.rule; tags = refl })

  tags-match : (o : List Object × Spot) (r : Refs × Spot) → Matches AreParts ((number_then o r >>= triple o) >>= tagged) (held_number o r)
  tags-match o r =
      match-nest3 AreParts (number 4 r.1) (tags_then o r) (triple o) tagged (held_tags o r)
      (λ k. match-nest3 AreParts (tags_field k.0 o.0 None h.tags k.1) (end_tags r) (triple o) tagged (tagged_end o r) (λ x. end-match o r x))

  all-match : (o : List Object × Spot) → Matches AreParts (all_then o >>= tagged) (held_all o)
  all-match o =
      match-nest3 AreParts (number 4 o.1) (both_then o) (triple o) tagged (held_both o)
      (λ m. match-nest3 AreParts (refs_field m.0 o.0 None h.refs m.1) (number_then o) (triple o) tagged (held_number o) (λ r. tags-match o r))

  tagged-match : (s : Spot) → Matches AreParts (tagged_step h.objects h.refs h.tags s >>= tagged) (tag_part h s)
  tagged-match s =
      nest-same AreParts (number 4 s) all_count tagged held_all_count
      (λ n. nest-same AreParts (objects_field n.0 h.objects n.1) all_then tagged held_all (λ o. all-match o))

  -- ---- kept projections

  abbrev mapped : RuleMaps → Result Parts Fault
  mapped maps = Ok (record p { maps = maps })

  module _ (rule : ℕ) (is : is_rule rule ≡ true) where
    abbrev end_maps : Bytes × Spot → Entries × Spot → Result RuleMaps Fault
    end_maps text e = ended e.1 >>= λ _. Ok (with_map_by rule p.maps text.0 e.0)

    abbrev maps_then : Bytes × Spot → ℕ × Spot → Result RuleMaps Fault
    maps_then text n = entries_step n.0 h.objects (entries_at rule text.0 p.maps) n.1 >>= end_maps text

    abbrev maps_count : Bytes × Spot → Result RuleMaps Fault
    maps_count text = number 4 text.1 >>= maps_then text

    abbrev kept_end : List Kept × Spot → Result Held Fault
    kept_end k = ended_with (record h { kept = k.0 }) k.1

    abbrev kept_then : Bytes × Spot → ℕ × Spot → Result Held Fault
    kept_then text n = entries_field n.0 h.objects text.0 rule h.kept n.1 >>= kept_end

    abbrev kept_count : Bytes × Spot → Result Held Fault
    kept_count text = number 4 text.1 >>= kept_then text

    ends-match : (text : Bytes × Spot) (x : Entries × Spot) (y : List Kept × Spot) → AreMore text.0 rule (entries_at rule text.0 p.maps) h.kept x y → Matches AreParts (end_maps text x >>= mapped) (kept_end y)
    ends-match text x y more =
        let maps : AreKept (with_map_by rule p.maps text.0 x.0) y.0 =
        subst (λ (d : Entries × List Kept). AreKept (with_map_by rule p.maps text.0 d.0) d.1) (λ i. (sym more.mapped i, sym more.held i)) (kept-more text.0 rule p.maps h.kept more.more is t.maps) in
        subst (λ (s : Spot). Matches AreParts (end_maps text x >>= mapped) (ended_with (record h { kept = y.0 }) s)) more.behind
        (nest-same AreParts (ended x.1) (λ _. Ok (with_map_by rule p.maps text.0 x.0)) mapped (λ _. Ok (record h { kept = y.0 }))
        (λ _. record { objects = t.objects; refs = t.refs; maps = maps; rule = t.rule; tags = t.tags }))

    maps-match : (text : Bytes × Spot) (n : ℕ × Spot) → Matches AreParts (maps_then text n >>= mapped) (kept_then text n)
    maps-match text n =
        match-nest (AreMore text.0 rule (entries_at rule text.0 p.maps) h.kept) AreParts (entries_step n.0 h.objects (entries_at rule text.0 p.maps) n.1) (entries_field n.0 h.objects text.0 rule h.kept n.1)
        (end_maps text) mapped kept_end (entries-match text.0 rule n.0 h.objects (entries_at rule text.0 p.maps) h.kept n.1 (t.maps text.0 rule is)) (λ x y more. ends-match text x y more)

    kept-match : (s : Spot) → Matches AreParts (kept_maps h.objects rule p.maps s >>= mapped) (kept_part h rule s)
    kept-match s =
        nest-same AreParts (text_field s) maps_count mapped kept_count
        (λ text. nest-same AreParts (number 4 text.1) (maps_then text) mapped (kept_then text) (λ n. maps-match text n))

  -- a rule that is read is one
  abbrev IsSameRule : ℕ × Spot → ℕ × Spot → Type 0
  IsSameRule x y = (x ≡ y) × (is_rule x.0 ≡ true)

  rule-match : (s : Spot) → Matches IsSameRule (rule_field s) (rule_field s)
  rule-match s = then-same IsSameRule (number 1 s) (λ k. must (BrokenAt s.at) (is_rule k.0) >>= λ _. Ok k) (λ k. must (BrokenAt s.at) (is_rule k.0) >>= λ _. Ok k) (λ k. by k (is_rule k.0) refl)
    where
      judged : ℕ × Spot → Bool → Read ℕ
      judged k b = must (BrokenAt s.at) b >>= λ _. Ok k

      by : (k : ℕ × Spot) (b : Bool) → is_rule k.0 ≡ b → Matches IsSameRule (judged k b) (judged k b)
      by k true e = (refl, e)
      by k false e = refl

  by_rule-match : (s : Spot) → Matches AreParts (kept_by_rule h.objects p.maps s >>= mapped) (rule_field s >>= λ k. kept_part h k.0 k.1)
  by_rule-match s =
      match-nest IsSameRule AreParts (rule_field s) (rule_field s) (λ k. kept_maps h.objects k.0 p.maps k.1) mapped (λ k. kept_part h k.0 k.1) (rule-match s)
      (λ x y e. subst (λ (k : ℕ × Spot). Matches AreParts (kept_maps h.objects x.0 p.maps x.1 >>= mapped) (kept_part h k.0 k.1)) e.0 (kept-match x.0 e.1 x.1))

  -- ---- a rule

  abbrev ruled : ℕ → Result Parts Fault
  ruled k = Ok (record p { rule = k })

  new_rule-match : (s : Spot) → Matches AreParts (rule_end s >>= ruled) (rule_field s >>= λ k. ended_with (record h { rule = k.0 }) k.1)
  new_rule-match s =
      nest-same AreParts (rule_field s) (λ k. ended k.1 >>= λ _. Ok k.0) ruled (λ k. ended_with (record h { rule = k.0 }) k.1)
      (λ k. nest-same AreParts (ended k.1) (λ _. Ok k.0) ruled (λ _. Ok (record h { rule = k.0 })) (λ _. record { objects = t.objects; refs = t.refs; maps = t.maps; rule = refl; tags = t.tags }))

  -- ---- an item

  part-match : (k : ItemKind) (s : Spot) → Matches AreParts (part_step p k s) (part h k s)
  part-match ChangeItem s = subst (λ (d : List Object × Refs). Matches AreParts (objects_step d.0 d.1 s >>= changed) (change_part h s)) (λ i. (sym t.objects i, sym t.refs i)) (change-match s)
  part-match OldKeptItem s = subst (λ (S : List Object). Matches AreParts (kept_maps S 1 p.maps s >>= mapped) (kept_part h 1 s)) (sym t.objects) (kept-match 1 refl s)
  part-match KeptItem s = subst (λ (S : List Object). Matches AreParts (kept_by_rule S p.maps s >>= mapped) (rule_field s >>= λ k. kept_part h k.0 k.1)) (sym t.objects) (by_rule-match s)
  part-match RuleItem s = new_rule-match s
  part-match TagItem s =
      subst (λ (d : List Object × Refs × List Tag). Matches AreParts (tagged_step d.0 d.1 d.2 s >>= tagged) (tag_part h s)) (λ i. (sym t.objects i, sym t.refs i, sym t.tags i)) (tagged-match s)

  pub item-match : (bytes : Bytes) → Matches AreParts (item_step p bytes) (read_item h bytes)
  unfolding item_step read_item
  item-match bytes = then-same AreParts (item_kind_field (start bytes)) (λ k. part_step p k.0 k.1) (λ k. part h k.0 k.1) (λ k. part-match k.0 k.1)

-- ---- what is read by the one is read by the other

pub record IsValue {A B : Type 0} (R : A → B → Type 0) (x : A) (q : Result B Fault) : Type 0 where
  pub value : B
  pub read : q ≡ Ok value
  pub stands : R x value

pub value-match : {A B : Type 0} (R : A → B → Type 0) (r : Result A Fault) (q : Result B Fault) (x : A) → Matches R r q → r ≡ Ok x → IsValue R x q
value-match {A = A} {B = B} R r q x h e = by q (subst (λ (s : Result A Fault). Matches R s q) e h)
  where
    by : (q : Result B Fault) → Matches R (Ok x) q → IsValue R x q
    by (Ok y) g = record { value = y; read = refl; stands = g }
    by (Err f) g = absurd g

err-match : {A B : Type 0} (R : A → B → Type 0) (r : Result A Fault) (q : Result B Fault) (f : Fault) → Matches R r q → r ≡ Err f → q ≡ Err f
err-match {A = A} {B = B} R r q f h e = by q (subst (λ (s : Result A Fault). Matches R s q) e h)
  where
    by : (q : Result B Fault) → Matches R (Err f) q → q ≡ Err f
    by (Ok y) g = absurd g
    by (Err d) g = ap (λ (x : Fault). Err x) (sym g)

pub stop-match : {A B : Type 0} (R : A → B → Type 0) (r : Result A Fault) (q : Result B Fault) (stop : ItemFault) → Matches R r q → IsStop stop r → IsStop stop q
stop-match R r q (Broken at) h e = err-match R r q (BrokenAt at) h e
stop-match R r q (Collision n) h e = err-match R r q (Clash n.0) h e
stop-match R r q OutOfMemory h e = tt
