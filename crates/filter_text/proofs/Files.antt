-- Reading a workspace file, member by member.
use Rattle.std.proofs.Common.{◌≡◌, ◌+◌, ◌-◌, ◌<◌, ◌≤◌, ℕ, zero, suc, true, false, cond, List, [], ◌∷◌, ◌++◌, length, Option, Some, None, refl, sym, ap, ◌∙◌, arith, add-one, append_assoc}
use Rattle.std.specs.Option.{option_map, option_and_then}
use Rattle.git_objects.specs.Paths.{Bytes, Path, is_nil}
use Rattle.filter_text.specs.Filters.{Filters}
use Rattle.filter_text.specs.Texts.{Read, gap, target_at}
use Rattle.filter_text.specs.Reading.{made, pieces_at}
use Rattle.filter_text.specs.Items.{Member, Item, sized_member, member_at, ends_member, later_members, members_of, members_within, members, roomy_item, items_of, items_from, with_item}
use Rattle.filter_text.specs.declared.filter.Item as declared
use Rattle.filter_text.specs.Views.{item_value, item_values}
use Rattle.filter_text.proofs.Shorter.{Less, less_some, less_then, less_weak, less_from, gap_shorter, target_shorter, pieces_at_shorter}

abbrev sized : ℕ → Option Path → Filters × Bytes → Member × Bytes
sized n target y = (record { target = target; filter = made target y.0; size = n - length y.1 }, y.1)

sized_less : (n : ℕ) (t : Bytes) (target : Option Path) (o : Read Filters) → Less 2 t o → Less 2 t (option_map (sized n target) o)
sized_less n t target None l = tt
sized_less n t target (Some y) l = l

sized_shorter : (n : ℕ) (t : Bytes) (x : Option Path × Bytes) → length x.1 ≤ length t → Less 2 t (sized_member n x)
sized_shorter n t x h =
    sized_less n t x.0 (pieces_at x.1)
    (less_weak 2 (2 + 0) t (pieces_at x.1) (omega arith) (less_from 0 2 x.1 t (pieces_at x.1) (omega arith) (pieces_at_shorter x.1)))

pub member_shorter : (t : Bytes) → Less 2 t (member_at t)
member_shorter t =
    less_then (sized_member (length t)) 2 t (target_at t) (λ x e.
    sized_shorter (length t) t x (omega (arith, less_some 0 t (target_at t) x (target_shorter t) e)))

later_agree : (f g : Bytes → Option (List Member)) (t : Bytes) (o : Read Member) → Less 2 t o → ((s : Bytes) → length s + 2 ≤ length t → f s ≡ g s) →
    option_and_then (later_members f) o ≡ option_and_then (later_members g) o
later_agree f g t None l h = refl
later_agree f g t (Some x) l h = ap (λ o. cond (ends_member x.1) (option_map (λ ms. x.0 ∷ ms) o) None) (h x.1 l)

members_of_agree : (f g : Bytes → Option (List Member)) (t : Bytes) → ((s : Bytes) → length s + 2 ≤ length t → f s ≡ g s) →
    members_of f t ≡ members_of g t
members_of_agree f g t h = ap (cond (is_nil t) (Some [])) (later_agree f g t (member_at t) (member_shorter t) h)

members_agree : (n m : ℕ) (t : Bytes) → length t < n → length t < m → members_within n t ≡ members_within m t
members_agree zero m t h k = absurd (omega arith)
members_agree (suc n) zero t h k = absurd (omega arith)
members_agree (suc n) (suc m) t h k =
    let g = gap_shorter false false t in
    members_of_agree (members_within n) (members_within m) (gap t).1 (λ s l. members_agree n m s (omega arith) (omega arith))

-- one step: the end of the file, or a member and what follows it
pub members_step : (t : Bytes) → members t ≡ members_of members (gap t).1
unfolding members
members_step t =
    let g = gap_shorter false false t in
    ap (λ n. members_within n t) (add-one (length t))
    ∙ members_of_agree (members_within (length t)) members (gap t).1 (λ s l. members_agree (length t) (length s + 1) s (omega arith) (omega arith))

-- ---- items

module _ (room : ℕ) (t : Bytes) (some : is_nil t ≡ false) where
  from_member : items_from room t ≡ option_and_then (items_of room) (option_and_then (later_members members) (member_at t))
  from_member = ap (λ b. option_and_then (items_of room) (cond b (Some []) (option_and_then (later_members members) (member_at t)))) some

  pub next_none : member_at t ≡ None → items_from room t ≡ None
  next_none e = from_member ∙ ap (λ o. option_and_then (items_of room) (option_and_then (later_members members) o)) e

  module _ (m : Member) (r : Bytes) (e : member_at t ≡ Some (m, r)) where
    next_read : items_from room t ≡ option_and_then (items_of room) (cond (ends_member r) (option_map (λ ms. m ∷ ms) (members r)) None)
    next_read = from_member ∙ ap (λ o. option_and_then (items_of room) (option_and_then (later_members members) o)) e

    pub next_unended : ends_member r ≡ false → items_from room t ≡ None
    next_unended h = next_read ∙ ap (λ b. option_and_then (items_of room) (cond b (option_map (λ ms. m ∷ ms) (members r)) None)) h

    module _ (h : ends_member r ≡ true) where
      next_ended : items_from room t ≡ option_and_then (items_of room) (option_map (λ ms. m ∷ ms) (members r))
      next_ended = next_read ∙ ap (λ b. option_and_then (items_of room) (cond b (option_map (λ ms. m ∷ ms) (members r)) None)) h

      pub next_unfit : roomy_item room m ≡ None → items_from room t ≡ None
      next_unfit k = next_ended ∙ none (members r)
        where
          none : (o : Option (List Member)) → option_and_then (items_of room) (option_map (λ ms. m ∷ ms) o) ≡ None
          none None = refl
          none (Some ms) = ap (option_and_then (λ x. option_map (λ is. x.0 ∷ is) (items_of x.1 ms))) k

      pub next_fit : (i : Item) (left : ℕ) → roomy_item room m ≡ Some (i, left) → items_from room t ≡ with_item (Some (i, left, (gap r).1))
      next_fit i left k =
          next_ended ∙ fit (members r)
          ∙ ap (λ o. option_map (λ is. i ∷ is) (option_and_then (items_of left) o)) (members_step r)
        where
          fit : (o : Option (List Member)) →
              option_and_then (items_of room) (option_map (λ ms. m ∷ ms) o) ≡ option_map (λ is. i ∷ is) (option_and_then (items_of left) o)
          fit None = refl
          fit (Some ms) = ap (option_and_then (λ x. option_map (λ is. x.0 ∷ is) (items_of x.1 ms))) k

-- items that were read before
abbrev pub behind_items : List Item → Option (List Item) → Option (List Item)
behind_items done o = option_map (λ is. done ++ is) o

pub items_more : (done : List Item) (i : Item) (o : Option (List Item)) → behind_items done (option_map (λ is. i ∷ is) o) ≡ behind_items (done ++ i ∷ []) o
items_more done i None = refl
items_more done i (Some is) = ap Some (sym (append_assoc done (i ∷ []) is))

behind-none : (o : Option (List Item)) → behind_items [] o ≡ o
behind-none None = refl
behind-none (Some is) = refl

pub items_begin : (room : ℕ) (t : Bytes) → behind_items [] (items_from room (gap t).1) ≡ option_and_then (items_of room) (members t)
items_begin room t = behind-none (items_from room (gap t).1) ∙ ap (option_and_then (items_of room)) (sym (members_step t))

pub values-push : (xs ys : List declared.Item) (x : declared.Item) → ys ≡ xs ++ x ∷ [] → item_values ys ≡ item_values xs ++ item_value x ∷ []
values-push xs ys x e = ap item_values e ∙ pushed_value xs
  where
    pushed_value : (zs : List declared.Item) → item_values (zs ++ x ∷ []) ≡ item_values zs ++ item_value x ∷ []
    pushed_value [] = refl
    pushed_value (z ∷ zs) = ap (λ is. item_value z ∷ is) (pushed_value zs)
