-- Trees whose bodies list the same but for names.
use Rattle.std.proofs.Common.{◌≡◌, ◌+◌, true, false, cond, List, [], ◌∷◌, ◌++◌, Option, Some, None, IfSome, length, map, max, nat_eq, arith, append-nil, append_assoc, length-append, refl, sym, ap, ◌∙◌}
use Rattle.std.specs.Option.{is_some, option_map, unwrap_or}
use Rattle.std.proofs.lemmas.Bool.{eqb-true}
use Rattle.std.proofs.lemmas.List.{map-append}
use Rattle.git_objects.specs.Paths.{Bytes}
use Rattle.git_objects.specs.Bodies.{entry_from, is_listing, tree_entries}
use Rattle.git_objects.specs.Entries.{body_text}
use Rattle.git_objects.specs.Names.{mode_text}
use Rattle.git_objects.specs.Neighbours.{spelled_entries}
use Rattle.git_objects.specs.Trees.{Flat}
use Rattle.git_objects.specs.declared.entry.Entry.{Entry}
use Rattle.git_objects.specs.declared.kind.Kind.TheVariants.{Blob}
use Rattle.git_objects.proofs.Beside.{entry_key, keys-listing, spelled-body, spelled-more}
use Rattle.git_objects.proofs.TreeReading.{line-rest}
use Rattle.object_store.specs.Judgements.{IsTreeOf}
use Rattle.object_store.specs.Objects.{HasChildren, Object, body_of, has_child, missing_entry}
use Rattle.object_store.specs.Puts.{if_missing, of_tree}
use Rattle.object_store.specs.Sizes.{held_number, sizes, sizes_joined}
use Rattle.object_store.specs.Unfolding.{entry_flat, flat, joined}
use Rattle.object_store.specs.declared.store.TreeStats.{TreeStats}
use Rattle.object_store.proofs.Sizes.{joined_joined, joined_none, none_joined, sizes-append}

-- the map of entries, one after another
abbrev entries_flat : List Object → List Entry → Flat
entries_flat S es = joined (body_of Blob S) (flat S) es

-- ---- sums of sizes

joined_swap : (a b c : TreeStats) → sizes_joined (sizes_joined a b) c ≡ sizes_joined (sizes_joined a c) b
joined_swap a b c =
    let f : held_number (held_number (a.files + b.files) + c.files) ≡ held_number (held_number (a.files + c.files) + b.files) = omega arith in
    let d : max (max a.depth b.depth) c.depth ≡ max (max a.depth c.depth) b.depth = omega arith in
    let l : max (max a.longest b.longest) c.longest ≡ max (max a.longest c.longest) b.longest = omega arith in
    λ i. record { files = f i; depth = d i; longest = l i }

-- a part is moved to the second of three
to-second : (k x part rest : TreeStats) → sizes_joined (sizes_joined k x) (sizes_joined part rest) ≡ sizes_joined (sizes_joined k (sizes_joined x part)) rest
to-second k x part rest = sym (joined_joined (sizes_joined k x) part rest) ∙ ap (λ (s : TreeStats). sizes_joined s rest) (joined_joined k x part)

-- and to the first
to-first : (k x part rest : TreeStats) → sizes_joined (sizes_joined k x) (sizes_joined part rest) ≡ sizes_joined (sizes_joined (sizes_joined k part) x) rest
to-first k x part rest = sym (joined_joined (sizes_joined k x) part rest) ∙ ap (λ (s : TreeStats). sizes_joined s rest) (joined_swap k x part)

none-behind : (k x : TreeStats) → sizes_joined (sizes_joined k x) (sizes []) ≡ sizes_joined k x
none-behind k x = joined_none (sizes_joined k x) (omega arith)

-- ---- a body beside the entries of a tree

-- The entries were passed that the tree has in front of these, and the body spells as many in front of the rest, of the same modes and
-- components, whose children are held. The tree's sizes are of what both have, of what went, and of the entries that are left; the body's
-- are of what both have and of what came.
pub record IsBeside (S : List Object) (old entries : List Entry) (total less more : TreeStats) (body rest : Bytes) : Type 0 where
  pub seen : List Entry
  pub spelled : List Entry
  pub kept : TreeStats
  pub listed : old ≡ seen ++ entries
  pub keys : map entry_key spelled ≡ map entry_key seen
  pub read : spelled_entries body ≡ option_map (λ gs. spelled ++ gs) (spelled_entries rest)
  pub left : missing_entry S entries ≡ None
  pub held : (gs : List Entry) → missing_entry S (spelled ++ gs) ≡ missing_entry S gs
  pub before : total ≡ sizes_joined (sizes_joined kept less) (sizes (entries_flat S entries))
  pub after : (gs : List Entry) → sizes (entries_flat S (spelled ++ gs)) ≡ sizes_joined (sizes_joined kept more) (sizes (entries_flat S gs))

nothing-more : (o : Option (List Entry)) → option_map (λ gs. [] ++ gs) o ≡ o
nothing-more None = refl
nothing-more (Some gs) = refl

nothing-yet : (t : Flat) → sizes_joined (sizes_joined (sizes []) (sizes [])) (sizes t) ≡ sizes t
nothing-yet t = ap (λ (s : TreeStats). sizes_joined s (sizes t)) (none_joined []) ∙ none_joined t

pub begun : (S : List Object) (old : List Entry) (total : TreeStats) (body : Bytes) → missing_entry S old ≡ None → total ≡ sizes (entries_flat S old) → IsBeside S old old total (sizes []) (sizes []) body body
begun S old total body none is = record {
  seen = [];
  spelled = [];
  kept = sizes [];
  listed = refl;
  keys = refl;
  read = sym (nothing-more (spelled_entries body));
  left = none;
  held = λ gs. refl;
  before = is ∙ sym (nothing-yet (entries_flat S old));
  after = λ gs. sym (nothing-yet (entries_flat S gs));
}

-- the first child is held, and the others are
pub left-next : (S : List Object) (e : Entry) (es : List Entry) → missing_entry S (e ∷ es) ≡ None → (has_child S e.mode e.name.0 ≡ true) × (missing_entry S es ≡ None)
left-next S e es =
    elim (has_child S e.mode e.name.0) as (λ b. cond b (missing_entry S es) (Some e.name.0) ≡ None → (b ≡ true) × (missing_entry S es ≡ None)) [
      | true ↦ λ h. (refl, h)
      | false ↦ λ h. cc
    ]

keys-more : (xs ys : List Entry) (a b : Entry) → map entry_key xs ≡ map entry_key ys → entry_key a ≡ entry_key b → map entry_key (xs ++ a ∷ []) ≡ map entry_key (ys ++ b ∷ [])
keys-more xs ys a b h e = map-append entry_key xs (a ∷ []) ∙ (λ i. h i ++ e i ∷ []) ∙ sym (map-append entry_key ys (b ∷ []))

module _ (S : List Object) (old new : List Entry) (e d : Entry) (total less more : TreeStats) (body rest behind : Bytes) (w : IsBeside S old (e ∷ new) total less more body rest)
    (same : entry_key d ≡ entry_key e) (first : entry_from rest ≡ Some (d, behind)) (child : has_child S d.mode d.name.0 ≡ true) where
  listed-more : old ≡ (w.seen ++ e ∷ []) ++ new
  listed-more = w.listed ∙ sym (append_assoc w.seen (e ∷ []) new)

  held-more : (gs : List Entry) → missing_entry S ((w.spelled ++ d ∷ []) ++ gs) ≡ missing_entry S gs
  held-more gs = ap (missing_entry S) (append_assoc w.spelled (d ∷ []) gs) ∙ w.held (d ∷ gs) ∙ ap (λ b. cond b (missing_entry S gs) (Some d.name.0)) child

  after-more : (gs : List Entry) → sizes (entries_flat S ((w.spelled ++ d ∷ []) ++ gs)) ≡ sizes_joined (sizes_joined w.kept more) (sizes_joined (sizes (entry_flat S d)) (sizes (entries_flat S gs)))
  after-more gs =
      ap (λ (es : List Entry). sizes (entries_flat S es)) (append_assoc w.spelled (d ∷ []) gs)
      ∙ w.after (d ∷ gs)
      ∙ ap (sizes_joined (sizes_joined w.kept more)) (sizes-append (entry_flat S d) (entries_flat S gs))

  before-more : total ≡ sizes_joined (sizes_joined w.kept less) (sizes_joined (sizes (entry_flat S e)) (sizes (entries_flat S new)))
  before-more = w.before ∙ ap (sizes_joined (sizes_joined w.kept less)) (sizes-append (entry_flat S e) (entries_flat S new))

  -- the entry has another name
  pub swapped : (went came : TreeStats) → went ≡ sizes (entry_flat S e) → came ≡ sizes (entry_flat S d) → IsBeside S old new total (sizes_joined less went) (sizes_joined more came) body behind
  swapped went came hw hc = record {
    seen = w.seen ++ e ∷ [];
    spelled = w.spelled ++ d ∷ [];
    kept = w.kept;
    listed = listed-more;
    keys = keys-more w.spelled w.seen d e w.keys same;
    read = spelled-more body rest behind w.spelled d w.read first;
    left = (left-next S e new w.left).1;
    held = held-more;
    before = before-more ∙ ap (λ (p : TreeStats). sizes_joined (sizes_joined w.kept less) (sizes_joined p (sizes (entries_flat S new)))) (sym hw) ∙ to-second w.kept less went (sizes (entries_flat S new));
    after = λ gs. after-more gs ∙ ap (λ (p : TreeStats). sizes_joined (sizes_joined w.kept more) (sizes_joined p (sizes (entries_flat S gs)))) (sym hc) ∙ to-second w.kept more came (sizes (entries_flat S gs));
  }

  -- it is the same
  pub passed : d ≡ e → IsBeside S old new total less more body behind
  passed one = record {
    seen = w.seen ++ e ∷ [];
    spelled = w.spelled ++ d ∷ [];
    kept = sizes_joined w.kept (sizes (entry_flat S e));
    listed = listed-more;
    keys = keys-more w.spelled w.seen d e w.keys same;
    read = spelled-more body rest behind w.spelled d w.read first;
    left = (left-next S e new w.left).1;
    held = held-more;
    before = before-more ∙ to-first w.kept less (sizes (entry_flat S e)) (sizes (entries_flat S new));
    after = λ gs. after-more gs ∙ ap (λ (x : Entry). sizes_joined (sizes_joined w.kept more) (sizes_joined (sizes (entry_flat S x)) (sizes (entries_flat S gs)))) one ∙ to-first w.kept more (sizes (entry_flat S e)) (sizes (entries_flat S gs));
  }

-- all of both was passed
pub whole : (S : List Object) (old : List Entry) (total less more : TreeStats) (body : Bytes) → IsBeside S old [] total less more body [] → is_listing old ≡ true
    → (s : TreeStats) → ((kept : TreeStats) → total ≡ sizes_joined kept less → s ≡ sizes_joined kept more) → IsTreeOf S body s
whole S old total less more body w listing s says =
    let seen : old ≡ w.seen = w.listed ∙ append-nil w.seen in
    let order : is_listing w.spelled ≡ true = keys-listing w.spelled w.seen w.keys ∙ ap is_listing (sym seen) ∙ listing in
    let tree : tree_entries body ≡ Some w.spelled = spelled-body body w.spelled (w.read ∙ ap Some (append-nil w.spelled)) order in
    let none : missing_entry S w.spelled ≡ None = ap (missing_entry S) (sym (append-nil w.spelled)) ∙ w.held [] in
    let sum : sizes (entries_flat S w.spelled) ≡ sizes_joined w.kept more = ap (λ (es : List Entry). sizes (entries_flat S es)) (sym (append-nil w.spelled)) ∙ w.after [] ∙ none-behind w.kept more in (
      ap (λ (o : Option (List Entry)). of_tree S o None) tree ∙ ap (λ (o : Option Bytes). if_missing o None) none,
      says w.kept (w.before ∙ none-behind w.kept less) ∙ sym sum ∙ ap (λ (o : Option (List Entry)). sizes (entries_flat S (unwrap_or o []))) (sym tree),
    )

-- ---- what is left

pub nothing-left : {A : Type 0} (t : List A) → nat_eq (length t) 0 ≡ true → t ≡ []
nothing-left [] h = refl
nothing-left (x ∷ t) h = let none : length (x ∷ t) ≡ 0 = eqb-true (length (x ∷ t)) 0 h in absurd (omega arith)

-- where nothing is spelled, no entry is left
pub none-left : (es : List Entry) (b : Bytes) → b ≡ body_text es → nat_eq (length b) 0 ≡ true → es ≡ []
none-left [] b is h = refl
none-left (e ∷ es) b is h =
    let none : length b ≡ 0 = eqb-true (length b) 0 h in
    absurd (omega (arith, none, ap length is, ap length (line-rest e.mode e.component e.name.0 (body_text es)), length-append (mode_text e.mode) (32 ∷ (e.component ++ 0 ∷ (e.name.0 ++ body_text es)))))

-- what is told of sizes is told of what they are of
pub told : (o : Option TreeStats) (P : TreeStats → Type 0) (total less more : TreeStats) → IfSome o (λ s. (kept : TreeStats) → total ≡ sizes_joined kept less → s ≡ sizes_joined kept more)
    → ((s : TreeStats) → ((kept : TreeStats) → total ≡ sizes_joined kept less → s ≡ sizes_joined kept more) → P s) → IfSome o P
told None P total less more w f = tt
told (Some s) P total less more w f = f s w

-- ---- the tree beside

pub is-some : {A : Type 0} (o : Option A) → (o ≡ None → ⊥) → is_some o ≡ true
is-some None none = absurd (none refl)
is-some (Some x) none = refl

pub none-missing : (S : List Object) (es : List Entry) → HasChildren S es → missing_entry S es ≡ None
none-missing S [] h = refl
none-missing S (e ∷ es) h = ap (λ b. cond b (missing_entry S es) (Some e.name.0)) h.0 ∙ none-missing S es h.1
