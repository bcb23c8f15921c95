-- What is read leaves a shorter text, and how far a reading may go makes no difference to it.
use Rattle.std.proofs.Common.{◌≡◌, ◌+◌, ◌≤◌, ℕ, zero, suc, Bool, true, false, cond, [], ◌∷◌, length, take, drop, Option, Some, None, refl, arith, eqb, subst, length-drop, List}
use Rattle.std.specs.Option.{option_map, option_and_then}
use Rattle.git_objects.specs.Paths.{Bytes, Path}
use Rattle.path_names.specs.PathTexts.{path_of}
use Rattle.path_names.specs.Quoting.{unquote}
use Rattle.filter_text.specs.Filters.{Filter, Filters, sub, onto, dir, file, exclude, join, workspace, no_more, more, only}
use Rattle.git_objects.specs.CommitBodies.{strip}
use Rattle.path_names.specs.PathTexts.{ok_path}
use Rattle.filter_text.specs.Texts.{Read, begins, is_blank, gap_byte, going, gap_from, gap, past_blanks, as_path, quoted_at, cut, bare_len, without_slash, name_at, kept_name_at, equals, target_at}
use Rattle.filter_text.specs.Reading.{or_word, spellings, word_among, word_at, kept, inside, piece_of, with_first, more_pieces, made, member_of, goes_on, more_members, list_of, pieces_within, list_within, pieces_at, list_at}
use Rattle.filter_text.specs.declared.word.Word.{Word}
use Rattle.filter_text.specs.declared.word.Word.TheVariants as words

-- what is left is shorter than t by at least k bytes
abbrev pub Less : {X : Type 0} → ℕ → Bytes → Read X → Type 0
Less k t None = Unit {0}
Less k t (Some x) = length x.1 + k ≤ length t

pub less_map : {X Y : Type 0} (h : X → Y) (k : ℕ) (t : Bytes) (o : Read X) → Less k t o → Less k t (option_map (λ x. (h x.0, x.1)) o)
less_map h k t None l = tt
less_map h k t (Some x) l = l

pub less_then : {X Y : Type 0} (f : X × Bytes → Read Y) (k : ℕ) (t : Bytes) (o : Read X) →
    ((x : X × Bytes) → o ≡ Some x → Less k t (f x)) → Less k t (option_and_then f o)
less_then f k t None h = tt
less_then f k t (Some x) h = h x refl

-- a shorter text to begin with
pub less_from : {X : Type 0} (j k : ℕ) (s t : Bytes) (o : Read X) → length s + j ≤ length t → Less k s o → Less (k + j) t o
less_from j k s t None h l = tt
less_from j k s t (Some x) h l = omega arith

pub less_weak : {X : Type 0} (j k : ℕ) (t : Bytes) (o : Read X) → j ≤ k → Less k t o → Less j t o
less_weak j k t None h l = tt
less_weak j k t (Some x) h l = omega arith

pub less_some : {X : Type 0} (k : ℕ) (t : Bytes) (o : Read X) (x : X × Bytes) → Less k t o → o ≡ Some x → length x.1 + k ≤ length t
less_some k t o x l e = subst (Less k t) e l

-- ---- gaps and words

pub gap_shorter : (c b : Bool) (t : Bytes) → length (gap_from c b t).1 ≤ length t
gap_shorter c b [] = omega arith
gap_shorter c b (x ∷ t) =
    elim (gap_byte c b x) as (λ o. length (going o (λ d e. gap_from d e t) (b, x ∷ t)).1 ≤ length (x ∷ t)) [
      | None ↦ omega arith
      | Some s ↦ omega (arith, gap_shorter s.0 s.1 t)
    ]

pub blanks_shorter : (t : Bytes) → length (past_blanks t) ≤ length t
blanks_shorter [] = omega arith
blanks_shorter (x ∷ t) =
    elim (is_blank x) as (λ b. length (cond b (past_blanks t) (x ∷ t)) ≤ length (x ∷ t)) [
      | true ↦ omega (arith, blanks_shorter t)
      | false ↦ omega arith
    ]

abbrev pub LessText : ℕ → Bytes → Option Bytes → Type 0
LessText k t None = Unit {0}
LessText k t (Some r) = length r + k ≤ length t

pub strip_shorter : (w t : Bytes) → LessText (length w) t (strip w t)
strip_shorter [] t = omega arith
strip_shorter (w ∷ ws) [] = tt
strip_shorter (w ∷ ws) (x ∷ t) =
    elim (eqb x w) as (λ b. LessText (length (w ∷ ws)) (x ∷ t) (cond b (strip ws t) None)) [
      | true ↦ longer (strip ws t) (strip_shorter ws t)
      | false ↦ tt
    ]
  where
    longer : (o : Option Bytes) → LessText (length ws) t o → LessText (length (w ∷ ws)) (x ∷ t) o
    longer None l = tt
    longer (Some r) l = omega arith

word_shorter_one : (n : ℕ) (t : Bytes) (o : Option Bytes) (w : Word) (others : Read Word) → 2 ≤ n → LessText n t o → Less 2 t others → Less 2 t (or_word o w others)
word_shorter_one n t None w others h l m = m
word_shorter_one n t (Some r) w others h l m = omega arith

abbrev AreLong : List (Bytes × Word) → Type 0
AreLong [] = Unit {0}
AreLong (w ∷ ws) = (2 ≤ length w.0) × AreLong ws

among_shorter : (ws : List (Bytes × Word)) (t : Bytes) → AreLong ws → Less 2 t (word_among ws t)
among_shorter [] t h = tt
among_shorter (w ∷ ws) t h =
    word_shorter_one (length w.0) t (strip w.0 t) w.1 (word_among ws t) h.0 (strip_shorter w.0 t) (among_shorter ws t h.1)

pub word_shorter : (t : Bytes) → Less 2 t (word_at t)
unfolding word_at
word_shorter t =
    among_shorter spellings t
    (omega arith, (omega arith, (omega arith, (omega arith, (omega arith, (omega arith, (omega arith, tt)))))))

-- ---- names

path_shorter : (t : Bytes) (o : Read Bytes) → Less 0 t o → Less 0 t (as_path o)
path_shorter t None l = tt
path_shorter t (Some x) l =
    elim (ok_path (path_of x.0)) as (λ p. Less 0 t (option_map (λ q. (q, x.1)) p)) [ None ↦ tt | Some p ↦ l ]

cut_shorter : (n : ℕ) (t : Bytes) → Less 0 t (cut n t)
cut_shorter n t = omega (arith, length-drop n t)

quoted_shorter : (t : Bytes) → Less 0 t (quoted_at t)
quoted_shorter t =
    elim (unquote t) as (λ o. Less 0 t (option_map (λ u. (u.0, drop u.1 t)) o)) [
      | None ↦ tt
      | Some u ↦ omega (arith, length-drop u.1 t)
    ]

either : (b : Bool) (t : Bytes) (x y : Read Bytes) → Less 0 t x → Less 0 t y → Less 0 t (cond b x y)
either true t x y l m = l
either false t x y l m = m

pub name_shorter : (t : Bytes) → Less 0 t (name_at t)
unfolding name_at
name_shorter t = path_shorter t _ (either (begins 34 t) t _ _ (quoted_shorter t) (cut_shorter (bare_len t) t))

pub kept_name_shorter : (t : Bytes) → Less 0 t (kept_name_at t)
unfolding kept_name_at
kept_name_shorter t = path_shorter t _ (either (begins 34 t) t _ _ (quoted_shorter t) (cut_shorter (without_slash (take (bare_len t) t)) t))

equals_shorter : (t : Bytes) (x : Path × Bytes) → length x.1 ≤ length t → Less 0 t (equals x)
equals_shorter t x h =
    behind (strip (61 ∷ []) (past_blanks x.1)) (strip_shorter (61 ∷ []) (past_blanks x.1))
  where
    behind : (o : Option Bytes) → LessText 1 (past_blanks x.1) o → Less 0 t (option_map (λ r. (Some x.0, past_blanks r)) o)
    behind None l = tt
    behind (Some r) l = omega (arith, blanks_shorter r, blanks_shorter x.1)

pub target_shorter : (t : Bytes) → Less 0 t (target_at t)
unfolding target_at
target_shorter t =
    elim (begins 58 t) as (λ b. Less 0 t (cond b (Some (None, t)) (option_and_then equals (name_at t)))) [
      | true ↦ omega arith
      | false ↦ less_then equals 0 t (name_at t) (λ x e. equals_shorter t x (omega (arith, less_some 0 t (name_at t) x (name_shorter t) e)))
    ]

-- ---- pieces and lists

kept_shorter : (t : Bytes) (o : Read Path) → Less 0 t o → Less 0 t (option_map kept o)
kept_shorter t None l = tt
kept_shorter t (Some x) l =
    elim (begins 47 x.1) as (λ b. Less 0 t (Some (cond b (dir x.0, drop 1 x.1) (file x.0, x.1)))) [
      | true ↦ omega (arith, length-drop 1 x.1)
      | false ↦ l
    ]

-- a way to read that leaves what is shorter by k bytes
abbrev pub Shortens : {X : Type 0} → ℕ → (Bytes → Read X) → Type 0
Shortens k f = (t : Bytes) → Less k t (f t)

pub piece_shorter : (list : Bytes → Read Filters) → Shortens 0 list → (x : Word × Bytes) → Less 0 x.1 (piece_of list x)
piece_shorter list h (words.Nop, t) = omega arith
piece_shorter list h (words.Sub, t) = less_map sub 0 t (name_at t) (name_shorter t)
piece_shorter list h (words.Prefix, t) = less_map onto 0 t (name_at t) (name_shorter t)
piece_shorter list h (words.Kept, t) = kept_shorter t (kept_name_at t) (kept_name_shorter t)
piece_shorter list h (words.Exclude, t) = less_map (λ fs. exclude (inside fs)) 0 t (list t) (h t)
piece_shorter list h (words.Join, t) = less_map join 0 t (list t) (h t)
piece_shorter list h (words.Workspace, t) = less_map workspace 0 t (name_at t) (name_shorter t)

pub more_pieces_shorter : (pieces : Bytes → Read Filters) → Shortens 2 pieces → (k : ℕ) (t : Bytes) (x : Filter × Bytes) → length x.1 + k ≤ length t → Less k t (more_pieces pieces x)
more_pieces_shorter pieces h k t x l =
    elim (begins 58 x.1) as (λ b. Less k t (cond b (with_first x.0 (pieces x.1)) (Some (only x.0, x.1)))) [
      | true ↦ less_map (λ fs. more x.0 fs) k t (pieces x.1) (less_weak k (2 + k) t (pieces x.1) (omega arith) (less_from k 2 x.1 t (pieces x.1) l (h x.1)))
      | false ↦ l
    ]

pub more_members_shorter : (list : Bytes → Read Filters) → Shortens 0 list → (k : ℕ) (t : Bytes) (x : Filter × Bytes) → length x.1 + k ≤ length t → Less k t (more_members list x)
more_members_shorter list h k t x l =
    elim (goes_on x.1) as (λ b. Less k t (cond b (with_first x.0 (list x.1)) None)) [
      | true ↦ less_map (λ fs. more x.0 fs) k t (list x.1) (less_weak k (0 + k) t (list x.1) (omega arith) (less_from k 0 x.1 t (list x.1) l (h x.1)))
      | false ↦ tt
    ]

member_shorter : (pieces : Bytes → Read Filters) → Shortens 2 pieces → (t : Bytes) → Less 2 t (option_and_then (member_of pieces) (target_at t))
member_shorter pieces h t =
    less_then (member_of pieces) 2 t (target_at t) (λ x e.
    less_map (λ fs. made x.0 fs) 2 t (pieces x.1)
    (less_weak 2 (2 + 0) t (pieces x.1) (omega arith) (less_from 0 2 x.1 t (pieces x.1) (less_some 0 t (target_at t) x (target_shorter t) e) (h x.1))))

list_of_shorter : (pieces list : Bytes → Read Filters) → Shortens 2 pieces → Shortens 0 list → (t : Bytes) → Less 0 t (list_of pieces list t)
list_of_shorter pieces list h k t =
    elim (begins 93 t) as (λ b. Less 0 t (cond b (Some (no_more, drop 1 t)) (option_and_then (more_members list) (option_and_then (member_of pieces) (target_at t))))) [
      | true ↦ omega (arith, length-drop 1 t)
      | false ↦ less_then (more_members list) 0 t (option_and_then (member_of pieces) (target_at t)) (λ x e.
          more_members_shorter list k 0 t x (omega (arith, less_some 2 t (option_and_then (member_of pieces) (target_at t)) x (member_shorter pieces h t) e)))
    ]

-- the first piece
head_shorter : (list : Bytes → Read Filters) → Shortens 0 list → (t : Bytes) → Less 2 t (option_and_then (piece_of list) (word_at t))
head_shorter list h t =
    less_then (piece_of list) 2 t (word_at t) (λ y g.
    less_weak 2 (0 + 2) t (piece_of list y) (omega arith)
    (less_from 2 0 y.1 t (piece_of list y) (less_some 2 t (word_at t) y (word_shorter t) g) (piece_shorter list h y)))

mutual
  pub pieces_shorter : (n : ℕ) → Shortens 2 (pieces_within n)
  pieces_shorter zero t = tt
  pieces_shorter (suc n) t =
      less_then (more_pieces (pieces_within n)) 2 t (option_and_then (piece_of (list_within n)) (word_at t)) (λ x e.
      more_pieces_shorter (pieces_within n) (pieces_shorter n) 2 t x
      (less_some 2 t (option_and_then (piece_of (list_within n)) (word_at t)) x (head_shorter (list_within n) (lists_shorter n) t) e))

  pub lists_shorter : (n : ℕ) → Shortens 0 (list_within n)
  lists_shorter zero t = tt
  lists_shorter (suc n) t =
      less_weak 0 (0 + 0) t (list_within (suc n) t) (omega arith)
      (less_from 0 0 (gap t).1 t (list_within (suc n) t) (omega (arith, gap_shorter false false t))
      (list_of_shorter (pieces_within n) (list_within n) (pieces_shorter n) (lists_shorter n) (gap t).1))

pub heads_shorter : (n : ℕ) (t : Bytes) → Less 2 t (option_and_then (piece_of (list_within n)) (word_at t))
heads_shorter n t = head_shorter (list_within n) (lists_shorter n) t

pub members_shorter : (n : ℕ) (t : Bytes) → Less 2 t (option_and_then (member_of (pieces_within n)) (target_at t))
members_shorter n t = member_shorter (pieces_within n) (pieces_shorter n) t

pub pieces_at_shorter : Shortens 2 pieces_at
unfolding pieces_at
pieces_at_shorter t = pieces_shorter (length t + 1) t

pub list_at_shorter : Shortens 0 list_at
unfolding list_at
list_at_shorter t = lists_shorter (length t + 2) t
