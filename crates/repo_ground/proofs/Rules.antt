-- Setting a rule.
use Rattle.std.proofs.Common.{◌≡◌, ◌+◌, ◌<◌, ◌≤◌, ℕ, Bool, true, false, List, [], filter, length, map, Option, None, refl, sym, ap, subst, ◌∙◌, arith, nat_le, eq-eqb}
use Rattle.std.specs.Bool.{if◌then◌else◌}
use Rattle.std.specs.Prelude.{◌==◌}
use Rattle.std.proofs.lemmas.List.{length-map, length-reverse}
use Rattle.std.proofs.lemmas.Option.{none-some}
use borrow.Author.Tests.{leb-true}
use Rattle.git_objects.specs.declared.limits.TheConstants.{COMMITS, ITEMS, ITEM_BYTES, OBJECTS, STORE_BYTES}
use Rattle.git_objects.specs.declared.quantity.Quantity.TheVariants as limits
use Rattle.git_objects.specs.declared.quantity.Quantity.{Quantity}
use Rattle.git_objects.specs.Paths.{Bytes}
use Rattle.object_store.specs.Fits.{is_commit}
use Rattle.object_store.specs.Objects.{Object, object_name}
use Rattle.commit_map.specs.Rules.{rule_number}
use Rattle.commit_map.specs.declared.rule.Rule.{Rule}
use Rattle.state_items.specs.Changes.{NoPlan, Plan, Room, RulePlan, held_after, or_else, passed, passed_by_item, passed_by_objects, plan_items, rule_plan}
use Rattle.state_items.specs.Items.{Held}
use Rattle.state_items.proofs.RowsHeld.{rows-number}
use Rattle.repo_ground.specs.Changes.{IsRuleSet}
use Rattle.repo_ground.specs.Contents.{Contents, Spells, room_in}
use Rattle.repo_ground.specs.Selecting.{IsPutAway}
use Rattle.repo_ground.proofs.Cuts.{none-appended}

-- ---- how many are held

pub objects-number : (h : Held) (s : Contents) → Spells h s → length s.names ≡ length h.objects
objects-number h s w = ap length w.names ∙ length-reverse (map object_name h.objects) ∙ length-map h.objects object_name

pub commits-number : (h : Held) (s : Contents) → Spells h s → length s.basis.graph ≡ length (filter is_commit h.objects)
commits-number h s w = ap length w.graph ∙ rows-number h.objects w.store

-- ---- limits

or-none : (b : Bool) (q : Quantity) (later : Option Quantity) → or_else b q later ≡ None → (b ≡ true) × (later ≡ None)
or-none true q later e = (refl, e)
or-none false q later e = absurd (none-some q (sym e))

-- an item that passes no limit may be appended
pub record MayAppend (room : Room) (bytes : Bytes) : Type 0 where
  pub item : length bytes ≤ ITEM_BYTES
  pub items : room.number < ITEMS
  pub store : room.size + length bytes ≤ STORE_BYTES

pub may-append : (S : List Object) (room : Room) (bytes : Bytes) → passed_by_objects S (passed_by_item room bytes) ≡ None → MayAppend room bytes
may-append S room bytes e =
    let last : Option Quantity = or_else (nat_le (room.size + length bytes) STORE_BYTES) limits.Store None in
    let items : Option Quantity = or_else (nat_le (room.number + 1) ITEMS) limits.Items last in
    let a = or-none (nat_le (length (filter is_commit S)) COMMITS) limits.Commits (or_else (nat_le (length S) OBJECTS) limits.Objects (passed_by_item room bytes)) e in
    let b = or-none (nat_le (length S) OBJECTS) limits.Objects (passed_by_item room bytes) a.1 in
    let c = or-none (nat_le (length bytes) ITEM_BYTES) limits.Item items b.1 in
    let d = or-none (nat_le (room.number + 1) ITEMS) limits.Items last c.1 in
    let f = or-none (nat_le (room.size + length bytes) STORE_BYTES) limits.Store None d.1 in
    let n : room.number + 1 ≤ ITEMS = leb-true _ _ d.0 in
    record { item = leb-true _ _ c.0; items = omega (arith, n); store = leb-true _ _ f.0 }

-- ---- rules

pub other-rule : (h : Held) (k : ℕ) → (h.rule == k) ≡ false → rule_plan h k ≡ RulePlan k
other-rule h k e = ap (λ b. if b then NoPlan else RulePlan k) e

-- the state with another rule and one item more
abbrev pub with_rule : Contents → Rule → Contents
with_rule s r = record s { basis = record s.basis { rule = r }; number = s.number + 1; size = s.size + 3 }

spells-rule : (h : Held) (s : Contents) (r : Rule) → Spells h s → Spells (held_after h (RulePlan (rule_number r))) (with_rule s r)
spells-rule h s r w = record {
  store = w.store;
  room = w.room;
  within = w.within;
  graph = w.graph;
  known = w.known;
  names = w.names;
  distinct = w.distinct;
  refs = w.refs;
  heads = w.heads;
  entries = w.entries;
  few = w.few;
  rule = refl;
  tags = w.tags;
  rising = w.rising;
}

-- another rule is set, and the map that was selected is put away
pub rule-set : (h : Held) (s s1 : Contents) (r : Rule) → Spells h s → (h.rule == rule_number r) ≡ false → passed h (room_in s) (RulePlan (rule_number r)) ≡ None → IsPutAway s s1
    → IsRuleSet h (rule_plan h (rule_number r)) s (with_rule s1 r)
rule-set h s s1 r w e f away = subst (λ (p : Plan). IsRuleSet h p s (with_rule s1 r)) (sym (other-rule h (rule_number r) e)) (record {
  appended = record {
    within = f;
    spells = spells-rule h s1 r (away.spells h w);
    number = ap (λ (x : Contents). x.number + 1) away.same;
    size = ap (λ (x : Contents). x.size + 3) away.same;
    store = ap (λ (x : Contents). x.basis.store) away.same;
    tables = ap (λ (x : Contents). x.basis.tables) away.same;
    memo = ap (λ (x : Contents). x.basis.memo) away.same;
    true_maps = ap (λ (x : Contents). x.basis.true_maps) away.same;
  };
  none = λ q. away.none;
  empty = λ q. away.empty;
  same = λ q. absurd (some-item q);
})
  where
    some-item : plan_items (RulePlan (rule_number r)) ≡ [] → ⊥
    some-item q = cc

-- the rule that is set already changes nothing
pub rule-same : (h : Held) (s : Contents) (r : Rule) → Spells h s → rule_number s.basis.rule ≡ rule_number r → IsRuleSet h (rule_plan h (rule_number r)) s s
rule-same h s r w e = subst (λ (p : Plan). IsRuleSet h p s s) (sym (ap (λ b. if b then NoPlan else RulePlan (rule_number r)) (eq-eqb h.rule (rule_number r) (sym w.rule ∙ e)))) (record {
  appended = none-appended h s w;
  none = λ q. absurd (q refl);
  empty = λ q. absurd (q refl);
  same = λ q. refl;
})
