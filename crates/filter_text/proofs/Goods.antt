-- What is spelled is a filter as they are given away, and its paths are read again.
use Rattle.std.proofs.lemmas.Bool.{or_parts}
use Rattle.std.proofs.Common.{◌≡◌, Bool, true, false, not, cond, ◌||◌, true≢false, Option, Ok, refl, sym, ap, ◌∙◌, subst}
use Rattle.git_objects.specs.Paths.{Bytes, Path, text}
use Rattle.git_objects.proofs.Basics.{and_both}
use Rattle.std.specs.Cmp.{first_so, second_so}
use Rattle.path_names.specs.PathTexts.{path_of}
use Rattle.path_names.proofs.Readings.{path_text_law}
use Rattle.filter_text.specs.Filters.{Filter, Filters, nop, sub, onto, dir, file, exclude, join, chain, workspace, no_more, more, append, only, is_chain, are_pieces, is_linked, are_linked, is_workspace, has_workspace, some_have_workspace, has_one_place, is_placed}
use Rattle.filter_text.specs.Reading.{inside, linked, made}
use Rattle.filter_text.specs.Spelling.{SpellsName, bare, quoted, SpellsTarget, without, target, SpellsPiece, a_nop, a_sub, a_prefix, a_dir, a_file, an_exclude, a_list, a_workspace, SpellsPieces, a_piece, pieces, SpellsMember, member, SpellsMembers, a_member, members, SpellsList, no_members, some_members, SpellsFilter}

-- the path is read of its text
abbrev pub IsReadable : Path → Type 0
IsReadable p = path_of (text p) ≡ Ok p

abbrev mutual
  pub HasReadable : Filter → Type 0
  HasReadable nop = Unit {0}
  HasReadable (sub p) = IsReadable p
  HasReadable (onto p) = IsReadable p
  HasReadable (dir p) = IsReadable p
  HasReadable (file p) = IsReadable p
  HasReadable (exclude f) = HasReadable f
  HasReadable (join fs) = HaveReadable fs
  HasReadable (chain fs) = HaveReadable fs
  HasReadable (workspace p) = IsReadable p

  pub HaveReadable : Filters → Type 0
  HaveReadable no_more = Unit {0}
  HaveReadable (more f fs) = HasReadable f × HaveReadable fs

pub record IsGood (f : Filter) : Type 0 where
  pub links : is_linked f ≡ true
  pub paths : HasReadable f

pub record AreGood (fs : Filters) : Type 0 where
  pub links : are_linked fs ≡ true
  pub paths : HaveReadable fs

-- good pieces of a chain
record ArePieces (fs : Filters) : Type 0 where
  good : AreGood fs
  pieces : are_pieces fs ≡ true

name_good : {w : Bytes} {p : Path} → SpellsName w p → IsReadable p
name_good (bare w p h e) = ap path_of (path_text_law.same_text w p e) ∙ e
name_good (quoted w u p q e) = ap path_of (path_text_law.same_text u p e) ∙ e

good_more : {f : Filter} {fs : Filters} → IsGood f → AreGood fs → AreGood (more f fs)
good_more g gs = record { links = and_both g.links gs.links; paths = (g.paths, gs.paths) }

pieces_more : {f : Filter} {fs : Filters} → IsGood f → is_chain f ≡ false → ArePieces fs → ArePieces (more f fs)
pieces_more g n gs = record { good = good_more g gs.good; pieces = and_both (ap not n) gs.pieces }

none_good : AreGood no_more
none_good = record { links = refl; paths = tt }

no_pieces : ArePieces no_more
no_pieces = record { good = none_good; pieces = refl }

pieces_append : (fs : Filters) (p : Path) → ArePieces fs → IsReadable p → ArePieces (append fs (only (onto p)))
pieces_append no_more p gs r = pieces_more (record { links = refl; paths = r }) refl no_pieces
pieces_append (more f fs) p gs r =
    pieces_more (record { links = first_so (is_linked f) (are_linked fs) gs.good.links; paths = gs.good.paths.0 })
    (is_not (is_chain f) (first_so (not (is_chain f)) (are_pieces fs) gs.pieces))
    (pieces_append fs p (record {
      good = record { links = second_so (is_linked f) (are_linked fs) gs.good.links; paths = gs.good.paths.1 };
      pieces = second_so (not (is_chain f)) (are_pieces fs) gs.pieces;
    }) r)
  where
    is_not : (b : Bool) → not b ≡ true → b ≡ false
    is_not true h = absurd (true≢false (sym h))
    is_not false h = refl

abbrev IsSome : Filters → Bool
IsSome no_more = false
IsSome (more f fs) = true

linked_good : (fs : Filters) → IsSome fs ≡ true → ArePieces fs → IsGood (linked fs)
linked_good no_more h gs = absurd (true≢false (sym h))
linked_good (more f no_more) h gs = record { links = first_so (is_linked f) true gs.good.links; paths = gs.good.paths.0 }
linked_good (more f (more g fs)) h gs = record {
  links = and_both gs.pieces gs.good.links;
  paths = gs.good.paths;
}

append_some : (fs gs : Filters) → IsSome fs ≡ true → IsSome (append fs gs) ≡ true
append_some no_more gs h = absurd (true≢false (sym h))
append_some (more f fs) gs h = refl

target_good : {w : Bytes} {t : Option Path} → SpellsTarget w t → (fs : Filters) → IsSome fs ≡ true → ArePieces fs → IsGood (made t fs)
target_good without fs h gs = linked_good fs h gs
target_good (target w u v p n bu bv) fs h gs =
    linked_good (append fs (only (onto p))) (append_some fs (only (onto p)) h) (pieces_append fs p gs (name_good n))

inside_good : (fs : Filters) → AreGood fs → IsGood (inside fs)
inside_good no_more g = record { links = refl; paths = tt }
inside_good (more f no_more) g = record { links = first_so (is_linked f) true g.links; paths = g.paths.0 }
inside_good (more f (more h fs)) g = record { links = g.links; paths = g.paths }

pieces_some : {w : Bytes} {fs : Filters} → SpellsPieces w fs → IsSome fs ≡ true
pieces_some (a_piece w f p) = refl
pieces_some (pieces w v f fs p ps) = refl

piece_is : {w : Bytes} {f : Filter} → SpellsPiece w f → is_chain f ≡ false
piece_is a_nop = refl
piece_is (a_sub w p n) = refl
piece_is (a_prefix w p n) = refl
piece_is (a_dir w p n) = refl
piece_is (a_file w p n) = refl
piece_is (an_exclude w fs l) = refl
piece_is (a_list w fs l) = refl
piece_is (a_workspace w p n) = refl

mutual
  piece_good : {w : Bytes} {f : Filter} → SpellsPiece w f → IsGood f
  piece_good a_nop = record { links = refl; paths = tt }
  piece_good (a_sub w p n) = record { links = refl; paths = name_good n }
  piece_good (a_prefix w p n) = record { links = refl; paths = name_good n }
  piece_good (a_dir w p n) = record { links = refl; paths = name_good n }
  piece_good (a_file w p n) = record { links = refl; paths = name_good n }
  piece_good (an_exclude w fs l) = let g = inside_good fs (list_good l) in record { links = g.links; paths = g.paths }
  piece_good (a_list w fs l) = let g = list_good l in record { links = g.links; paths = g.paths }
  piece_good (a_workspace w p n) = record { links = refl; paths = name_good n }

  pieces_good : {w : Bytes} {fs : Filters} → SpellsPieces w fs → ArePieces fs
  pieces_good (a_piece w f p) = pieces_more (piece_good p) (piece_is p) no_pieces
  pieces_good (pieces w v f fs p ps) = pieces_more (piece_good p) (piece_is p) (pieces_good ps)

  member_good : {w : Bytes} {f : Filter} → SpellsMember w f → IsGood f
  member_good (member w v t fs st sp) = target_good st fs (pieces_some sp) (pieces_good sp)

  members_good : {w : Bytes} {fs : Filters} → SpellsMembers w fs → AreGood fs
  members_good (a_member w f m) = good_more (member_good m) none_good
  members_good (members w g v f fs m h ms) = good_more (member_good m) (members_good ms)

  list_good : {w : Bytes} {fs : Filters} → SpellsList w fs → AreGood fs
  list_good (no_members g b h) = none_good
  list_good (some_members g w h b c fs i ms j) = members_good ms

pub filter-good : (t : Bytes) (f : Filter) → SpellsFilter t f → IsGood f
filter-good t f s = subst IsGood s.2 (linked_good s.0 (pieces_some s.1) (pieces_good s.1))

pub made-good : {w v : Bytes} {t : Option Path} {fs : Filters} → SpellsTarget w t → SpellsPieces v fs → IsGood (made t fs)
made-good {fs = fs} st sp = target_good st fs (pieces_some sp) (pieces_good sp)

-- ---- a filter without a workspace has it well placed

not_workspace : (f : Filter) → has_workspace f ≡ false → is_workspace f ≡ false
not_workspace nop h = refl
not_workspace (sub p) h = refl
not_workspace (onto p) h = refl
not_workspace (dir p) h = refl
not_workspace (file p) h = refl
not_workspace (exclude f) h = refl
not_workspace (join fs) h = refl
not_workspace (chain fs) h = refl
not_workspace (workspace p) h = absurd (true≢false h)

may_stand : (b : Bool) (f : Filter) → has_workspace f ≡ false → cond (is_workspace f) (not b) (not (has_workspace f)) ≡ true
may_stand b f h = (λ i. cond (not_workspace f h i) (not b) (not (h i)))

all_placed : (b : Bool) (fs : Filters) → some_have_workspace fs ≡ false → has_one_place b fs ≡ true
all_placed b no_more h = refl
all_placed b (more f fs) h =
    let both = or_parts (has_workspace f) (some_have_workspace fs) h in
    and_both (may_stand b f both.0) (all_placed (b || is_workspace f) fs both.1)

pub none-placed : (f : Filter) → has_workspace f ≡ false → is_placed f ≡ true
none-placed nop h = refl
none-placed (sub p) h = refl
none-placed (onto p) h = refl
none-placed (dir p) h = refl
none-placed (file p) h = refl
none-placed (exclude f) h = and_both (ap not h) refl
none-placed (join fs) h = and_both (ap not h) refl
none-placed (chain fs) h = all_placed false fs h
none-placed (workspace p) h = absurd (true≢false h)
