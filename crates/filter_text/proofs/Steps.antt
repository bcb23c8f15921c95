-- How far a reading may go makes no difference where it is enough: reading goes on by one step.
use Rattle.std.proofs.Common.{◌≡◌, ◌+◌, ◌<◌, ◌≤◌, ℕ, zero, suc, false, cond, length, drop, Option, Some, None, refl, sym, ap, ◌∙◌, arith, add-one}
use Rattle.std.specs.Option.{option_map, option_and_then}
use Rattle.git_objects.specs.Paths.{Bytes, Path}
use Rattle.filter_text.specs.Filters.{Filter, Filters, exclude, join, no_more, only}
use Rattle.filter_text.specs.Texts.{Read, begins, gap, target_at}
use Rattle.filter_text.specs.Reading.{word_at, inside, bracketed, piece_of, with_first, more_pieces, made, member_of, goes_on, more_members, list_of, pieces_within, list_within, pieces_at, list_at}
use Rattle.filter_text.specs.declared.word.Word.{Word}
use Rattle.filter_text.specs.declared.word.Word.TheVariants as words
use Rattle.filter_text.proofs.Shorter.{less_some, gap_shorter, word_shorter, target_shorter, heads_shorter, members_shorter}

then_agree : {X Y : Type 0} (f g : X × Bytes → Read Y) (o : Read X) → ((x : X × Bytes) → o ≡ Some x → f x ≡ g x) → option_and_then f o ≡ option_and_then g o
then_agree f g None h = refl
then_agree f g (Some x) h = h x refl

piece_agree : (l m : Bytes → Read Filters) (x : Word × Bytes) → l x.1 ≡ m x.1 → piece_of l x ≡ piece_of m x
piece_agree l m (words.Nop, t) h = refl
piece_agree l m (words.Sub, t) h = refl
piece_agree l m (words.Prefix, t) h = refl
piece_agree l m (words.Kept, t) h = refl
piece_agree l m (words.Exclude, t) h = ap (bracketed (λ fs. exclude (inside fs))) h
piece_agree l m (words.Join, t) h = ap (bracketed join) h
piece_agree l m (words.Workspace, t) h = refl

more_pieces_agree : (p q : Bytes → Read Filters) (x : Filter × Bytes) → p x.1 ≡ q x.1 → more_pieces p x ≡ more_pieces q x
more_pieces_agree p q x h = ap (λ r. cond (begins 58 x.1) (with_first x.0 r) (Some (only x.0, x.1))) h

more_members_agree : (p q : Bytes → Read Filters) (x : Filter × Bytes) → p x.1 ≡ q x.1 → more_members p x ≡ more_members q x
more_members_agree p q x h = ap (λ r. cond (goes_on x.1) (with_first x.0 r) None) h

member_agree : (p q : Bytes → Read Filters) (x : Option Path × Bytes) → p x.1 ≡ q x.1 → member_of p x ≡ member_of q x
member_agree p q x h = ap (option_map (λ y. (made x.0 y.0, y.1))) h

-- one step of two readings that agree on what is shorter
chain_agree : (n : ℕ) (p q l m : Bytes → Read Filters) (t : Bytes) →
    ((s : Bytes) → length s + 2 ≤ length t → l s ≡ m s) → ((s : Bytes) → length s + 2 ≤ length t → p s ≡ q s) →
    ((x : Word × Bytes) → l x.1 ≡ list_within n x.1) →
    option_and_then (more_pieces p) (option_and_then (piece_of l) (word_at t)) ≡ option_and_then (more_pieces q) (option_and_then (piece_of m) (word_at t))
chain_agree n p q l m t h k e =
    let heads : option_and_then (piece_of l) (word_at t) ≡ option_and_then (piece_of m) (word_at t) =
    then_agree (piece_of l) (piece_of m) (word_at t) (λ x g. piece_agree l m x (h x.1 (less_some 2 t (word_at t) x (word_shorter t) g))) in
    let short : option_and_then (piece_of l) (word_at t) ≡ option_and_then (piece_of (list_within n)) (word_at t) =
    then_agree (piece_of l) (piece_of (list_within n)) (word_at t) (λ x g. piece_agree l (list_within n) x (e x)) in
    then_agree (more_pieces p) (more_pieces q) (option_and_then (piece_of l) (word_at t)) (λ x g.
    more_pieces_agree p q x (k x.1 (less_some 2 t (option_and_then (piece_of (list_within n)) (word_at t)) x (heads_shorter n t) (sym short ∙ g))))
    ∙ ap (option_and_then (more_pieces q)) heads

list_agree : (n : ℕ) (p q l m : Bytes → Read Filters) (t : Bytes) →
    ((s : Bytes) → length s ≤ length t → p s ≡ q s) → ((s : Bytes) → length s + 2 ≤ length t → l s ≡ m s) →
    ((s : Bytes) → p s ≡ pieces_within n s) →
    list_of p l t ≡ list_of q m t
list_agree n p q l m t h k e =
    let members : option_and_then (member_of p) (target_at t) ≡ option_and_then (member_of q) (target_at t) =
    then_agree (member_of p) (member_of q) (target_at t) (λ x g.
    let s = less_some 0 t (target_at t) x (target_shorter t) g in
    member_agree p q x (h x.1 (omega arith))) in
    let short : option_and_then (member_of p) (target_at t) ≡ option_and_then (member_of (pieces_within n)) (target_at t) =
    then_agree (member_of p) (member_of (pieces_within n)) (target_at t) (λ x g. member_agree p (pieces_within n) x (e x.1)) in
    ap (cond (begins 93 t) (Some (no_more, drop 1 t)))
    (then_agree (more_members l) (more_members m) (option_and_then (member_of p) (target_at t)) (λ x g.
    more_members_agree l m x (k x.1 (less_some 2 t (option_and_then (member_of (pieces_within n)) (target_at t)) x (members_shorter n t) (sym short ∙ g))))
    ∙ ap (option_and_then (more_members m)) members)

mutual
  pub pieces_agree : (n m : ℕ) (t : Bytes) → length t < n → length t < m → pieces_within n t ≡ pieces_within m t
  pieces_agree zero m t h k = absurd (omega arith)
  pieces_agree (suc n) zero t h k = absurd (omega arith)
  pieces_agree (suc n) (suc m) t h k =
      chain_agree n (pieces_within n) (pieces_within m) (list_within n) (list_within m) t
      (λ s l. lists_agree n m s (omega arith) (omega arith))
      (λ s l. pieces_agree n m s (omega arith) (omega arith))
      (λ x. refl)

  pub lists_agree : (n m : ℕ) (t : Bytes) → length t + 1 < n → length t + 1 < m → list_within n t ≡ list_within m t
  lists_agree zero m t h k = absurd (omega arith)
  lists_agree (suc n) zero t h k = absurd (omega arith)
  lists_agree (suc n) (suc m) t h k =
      let g = gap_shorter false false t in
      list_agree n (pieces_within n) (pieces_within m) (list_within n) (list_within m) (gap t).1
      (λ s l. pieces_agree n m s (omega arith) (omega arith))
      (λ s l. lists_agree n m s (omega arith) (omega arith))
      (λ s. refl)

-- one step: a piece, and further ones where one begins
pub pieces_step : (t : Bytes) → pieces_at t ≡ option_and_then (more_pieces pieces_at) (option_and_then (piece_of list_at) (word_at t))
unfolding pieces_at list_at
pieces_step t =
    ap (λ n. pieces_within n t) (add-one (length t))
    ∙ chain_agree (length t) (pieces_within (length t)) pieces_at (list_within (length t)) list_at t
    (λ s l. lists_agree (length t) (length s + 2) s (omega arith) (omega arith))
    (λ s l. pieces_agree (length t) (length s + 1) s (omega arith) (omega arith))
    (λ x. refl)

-- one step: the closing bracket, or a member and what follows it
pub list_step : (t : Bytes) → list_at t ≡ list_of pieces_at list_at (gap t).1
unfolding pieces_at list_at
list_step t =
    let g = gap_shorter false false t in
    let two : length t + 2 ≡ suc (length t + 1) = omega arith in
    ap (λ n. list_within n t) two
    ∙ list_agree (length t + 1) (pieces_within (length t + 1)) pieces_at (list_within (length t + 1)) list_at (gap t).1
    (λ s l. pieces_agree (length t + 1) (length s + 1) s (omega arith) (omega arith))
    (λ s l. lists_agree (length t + 1) (length s + 2) s (omega arith) (omega arith))
    (λ s. refl)
