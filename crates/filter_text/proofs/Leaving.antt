-- What reading leaves behind it is no longer than what was left at any step.
use Rattle.std.proofs.Common.{◌≡◌, ◌-◌, ◌<◌, ℕ, true, false, cond, ◌&&◌, List, [], ◌∷◌, length, Option, Some, None, refl, sym, ap, arith, subst, leb, not}
use Rattle.std.proofs.lemmas.Bool.{leb-true}
use Rattle.std.specs.Option.{option_map, option_and_then}
use Rattle.git_objects.specs.Paths.{Bytes, Path, is_nil}
use Rattle.filter_text.specs.Filters.{Filters, append, components, has_workspace, pieces}
use Rattle.filter_text.specs.Shapes.{shapes}
use Rattle.filter_text.specs.Texts.{Read}
use Rattle.filter_text.specs.Reading.{bracketed, more_pieces, made, more_members, pieces_at, list_at}
use Rattle.filter_text.specs.Nesting.{enclosed, with_front, after_member, after_list, resumed, answer, LeavesLess, TellsPieces}
use Rattle.filter_text.specs.Items.{Member, sized_member, member_at, ends_member, place, is_fit, Item, item_of, roomy_item, items_from, IsLong}
use Rattle.filter_text.specs.declared.frame.Frame.{Frame}
use Rattle.filter_text.specs.declared.frame.At.{At}
use Rattle.filter_text.specs.declared.frame.At.TheVariants as places
use Rattle.filter_text.proofs.Shorter.{Less, less_map, less_then, less_weak, less_some, more_pieces_shorter, more_members_shorter, pieces_at_shorter, list_at_shorter}
use Rattle.filter_text.proofs.Files.{next_none, next_unended, next_unfit}

after_member_less : (f : Frame) (t : Bytes) (x : Read Filters) → Less 0 t x → Less 0 t (after_member f x)
after_member_less f t x l =
    less_then (more_members list_at) 0 t (option_map (λ y. (made f.target y.0, y.1)) x) (λ y e.
    more_members_shorter list_at list_at_shorter 0 t y
    (less_some 0 t (option_map (λ y. (made f.target y.0, y.1)) x) y (less_map (made f.target) 0 t x l) e))

after_list_less : (f : Frame) (t : Bytes) (x : Read Filters) → Less 0 t x → Less 0 t (after_list f x)
after_list_less f t x l =
    let inner = bracketed (enclosed f.bracket) (with_front (shapes f.members.items) x) in
    let inner_less = less_map (enclosed f.bracket) 0 t (with_front (shapes f.members.items) x) (less_map (append (shapes f.members.items)) 0 t x l) in
    less_map (append (shapes f.before.items)) 0 t (option_and_then (more_pieces pieces_at) inner)
    (less_then (more_pieces pieces_at) 0 t inner (λ y e. more_pieces_shorter pieces_at pieces_at_shorter 0 t y (less_some 0 t inner y inner_less e)))

resumed_less : (frames : List Frame) (t : Bytes) (x : Read Filters) → Less 0 t x → Less 0 t (resumed frames x)
resumed_less [] t x l = l
resumed_less (f ∷ outer) t x l = resumed_less outer t (after_list f (after_member f x)) (after_list_less f t (after_member f x) (after_member_less f t x l))

answer_less : (frames : List Frame) (fs : Filters) (at : At) (t : Bytes) → Less 0 t (answer frames fs at t)
answer_less frames fs places.Piece t =
    resumed_less frames t (with_front fs (pieces_at t)) (less_map (append fs) 0 t (pieces_at t) (less_weak 0 2 t (pieces_at t) (omega arith) (pieces_at_shorter t)))
answer_less [] fs places.Inside t = tt
answer_less (f ∷ outer) fs places.Inside t = resumed_less outer t (after_list f (list_at t)) (after_list_less f t (list_at t) (list_at_shorter t))
answer_less [] fs places.Ended t = omega arith
answer_less (f ∷ outer) fs places.Ended t = omega arith
answer_less [] fs places.Refused t = tt
answer_less (f ∷ outer) fs places.Refused t = tt

less_leaves : (t : Bytes) (least : ℕ) (o : Read Filters) → length t < least → Less 0 t o → LeavesLess least o
less_leaves t least None h l = tt
less_leaves t least (Some x) h l = omega arith

pub answer-leaves : (frames : List Frame) (fs : Filters) (at : At) (t : Bytes) (least : ℕ) (whole : Read Filters) →
    answer frames fs at t ≡ whole → length t < least → LeavesLess least whole
answer-leaves frames fs at t least whole e h = subst (LeavesLess least) e (less_leaves t least (answer frames fs at t) h (answer_less frames fs at t))

-- nothing leaves fewer bytes than none
pub told-all : (whole read : Read Filters) → TellsPieces 0 whole read → read ≡ whole
told-all None None h = refl
told-all (Some x) None h = absurd (omega arith)
told-all whole (Some x) h = sym h

-- a member of whose text too little is left is too long
sized_long : (before : ℕ) (target : Option Path) (o : Read Filters) → LeavesLess (before - 4096) o →
    IsLong (option_map {U = Member × Bytes} (λ y. (record { target = target; filter = made target y.0; size = before - length y.1 }, y.1)) o)
sized_long before target None l = tt
sized_long before target (Some y) l = omega arith

pub sized-long : (before : ℕ) (target : Option Path) (t : Bytes) → LeavesLess (before - 4096) (pieces_at t) → IsLong (sized_member before (target, t))
sized-long before target t l = sized_long before target (pieces_at t) l

-- and is no item
long_unfit : (m : Member) → 4096 < m.size → is_fit m ≡ false
long_unfit m h =
    elim (leb m.size 4096) as (λ b. leb m.size 4096 ≡ b → (b && leb (components m.filter) 256 && not (has_workspace m.filter)) ≡ false) [
      | true ↦ λ e. absurd (omega (arith, leb-true m.size 4096 e))
      | false ↦ λ e. refl
    ] refl

long_none : (room : ℕ) (m : Member) → 4096 < m.size → roomy_item room m ≡ None
long_none room m h =
    elim (leb (pieces m.filter) room) as (λ b. cond b (option_map {U = Item × ℕ} (λ i. (i, room - pieces m.filter)) (item_of m)) None ≡ None) [
      | true ↦ ap (λ o. option_map {U = Item × ℕ} (λ i. (i, room - pieces m.filter)) o) item_none
      | false ↦ refl
    ]
  where
    item_none : item_of m ≡ None
    item_none = ap (λ b. cond b (option_map {U = Item} (λ p. (p, m.filter)) (place m)) None) (long_unfit m h)

pub next-long : (room : ℕ) (t : Bytes) → is_nil t ≡ false → IsLong (member_at t) → items_from room t ≡ None
next-long room t some l =
    elim (member_at t) as (λ o. member_at t ≡ o → IsLong o → items_from room t ≡ None) [
      | None ↦ λ e h. next_none room t some e
      | Some x ↦ λ e h.
          elim (ends_member x.1) as (λ b. ends_member x.1 ≡ b → items_from room t ≡ None) [
            | true ↦ λ k. next_unfit room t some x.0 x.1 e k (long_none room x.0 h)
            | false ↦ λ k. next_unended room t some x.0 x.1 e k
          ] refl
    ] refl l
