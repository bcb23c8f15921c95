-- The canonical text of a filter spells it.
use Rattle.git_objects.proofs.Pointwise.{from-T}
use Rattle.std.proofs.Common.{◌≡◌, ◌≤◌, Bool, true, false, not, cond, ◌&&◌, true≢false, [], ◌∷◌, ◌++◌, length, Option, Some, None, Ok, Err, refl, sym, ap, ◌∙◌, append-nil, subst, leb, le-leb, ltb}
use Rattle.std.specs.List.{list_all, list_any}
use Rattle.std.specs.Cmp.{first_so, second_so}
use Rattle.git_objects.specs.Paths.{Bytes, Path, text, is_bytes, is_component, is_nil}
use Rattle.git_objects.proofs.Basics.{and_both, second}
use Rattle.path_names.specs.Quoting as quoting
use Rattle.path_names.proofs.Again.{round_trip}
use Rattle.path_names.proofs.Readings.{path_text_law}
use Rattle.filter_text.specs.Filters.{Filter, Filters, nop, sub, onto, dir, file, exclude, join, chain, workspace, no_more, more, only, is_several, is_chain, are_pieces, is_linked, are_linked, is_placed, is_filter}
use Rattle.filter_text.specs.Texts.{ends_bare}
use Rattle.filter_text.specs.Reading.{inside, filter_of}
use Rattle.filter_text.specs.Limits.{too_deep, is_small, judged, read}
use Rattle.filter_text.specs.declared.filter.FilterFault.TheVariants.{TooLong, TooDeep, WorkspacePlace, TooMany}
use Rattle.filter_text.specs.Printing.{path_text, list_text, printed, printed_inside, printed_members, printed_further, printed_pieces}
use Rattle.filter_text.specs.Spelling.{SpellsName, bare, quoted, IsGap, nothing, separator, without, SpellsPiece, a_nop, a_sub, a_prefix, a_dir, a_file, an_exclude, a_list, a_workspace, SpellsPieces, a_piece, pieces, SpellsMember, member, SpellsMembers, a_member, members, SpellsList, no_members, some_members, SpellsFilter}
use Rattle.filter_text.proofs.Goods.{IsReadable, HasReadable, HaveReadable, filter-good}
use Rattle.filter_text.proofs.Grammar.{filter_read}
use Rattle.filter_text.proofs.Spelled.{filter-spelled}

-- ---- paths

bytes_append : (a b : Bytes) → is_bytes a ≡ true → is_bytes b ≡ true → is_bytes (a ++ b) ≡ true
bytes_append [] b h k = k
bytes_append (x ∷ a) b h k = and_both (first_so (ltb x 256) (is_bytes a) h) (bytes_append a b (second_so (ltb x 256) (is_bytes a) h) k)

component_bytes : (c : Bytes) → is_component c ≡ true → is_bytes c ≡ true
component_bytes c h = second_so _ (is_bytes c) h

text_bytes : (p : Path) → list_all is_component p ≡ true → is_bytes (text p) ≡ true
text_bytes [] h = refl
text_bytes (c ∷ []) h = component_bytes c (first_so (is_component c) true h)
text_bytes (c ∷ d ∷ p) h =
    bytes_append c (47 ∷ text (d ∷ p)) (component_bytes c (first_so (is_component c) (list_all is_component (d ∷ p)) h))
    (text_bytes (d ∷ p) (second_so (is_component c) (list_all is_component (d ∷ p)) h))

readable_bytes : (p : Path) → IsReadable p → is_bytes (text p) ≡ true
readable_bytes p r =
    text_bytes p (from-T (list_all is_component p) (second (not (is_nil p)) (list_all is_component p) (path_text_law.path (text p) p r)))

name_spelt : (p : Path) → IsReadable p → SpellsName (path_text p) p
name_spelt p r =
    let t = text p in
    elim (list_any ends_bare t) as (λ b. list_any ends_bare t ≡ b → SpellsName (cond b (quoting.quoted t) t) p) [
      | true ↦ λ e. quoted (quoting.quoted t) t p (ap quoting.unquote (sym (append-nil (quoting.quoted t))) ∙ round_trip t [] (readable_bytes p r)) r
      | false ↦ λ e. bare t p e r
    ] refl

-- ---- filters

is_not : (b : Bool) → not b ≡ true → b ≡ false
is_not true h = absurd (true≢false (sym h))
is_not false h = refl

comma_gap : IsGap (44 ∷ []) true
comma_gap = separator 44 [] false refl nothing

one_piece : (f : Filter) → SpellsPiece (printed f) f → SpellsFilter (printed f) f
one_piece f p = (only f, a_piece (printed f) f p, refl)

to_member : (f : Filter) → SpellsFilter (printed f) f → SpellsMember (printed f) f
to_member f s = subst (SpellsMember (printed f)) s.2 (member [] (printed f) None s.0 without s.1)

alone : (f : Filter) → SpellsMember (printed f) f → SpellsList (printed f) (only f)
alone f m = subst (λ w. SpellsList w (only f)) (append-nil (printed f)) (some_members [] (printed f) [] false false (only f) nothing (a_member (printed f) f m) nothing)

-- what an exclude has between its brackets, and what it is then
abbrev InsideOf : Filter → Type 0
InsideOf f = (fs : Filters) × SpellsList (printed_inside f) fs × (inside fs ≡ f)

listed : (fs : Filters) → SpellsMembers (printed_members fs) fs → SpellsList (printed_members fs) fs
listed fs ms = subst (λ w. SpellsList w fs) (append-nil (printed_members fs)) (some_members [] (printed_members fs) [] false false fs nothing ms nothing)

-- each member's text spells it; each piece's does
abbrev EachSpelt : Filters → Type 0
EachSpelt no_more = Unit {0}
EachSpelt (more f fs) = SpellsFilter (printed f) f × EachSpelt fs

abbrev EachPiece : Filters → Type 0
EachPiece no_more = Unit {0}
EachPiece (more f fs) = SpellsPiece (printed f) f × EachPiece fs

pieces_spelt : (f : Filter) (fs : Filters) → EachPiece (more f fs) → SpellsPieces (printed_pieces (more f fs)) (more f fs)
pieces_spelt f no_more e = subst (λ w. SpellsPieces w (only f)) (sym (append-nil (printed f))) (a_piece (printed f) f e.0)
pieces_spelt f (more g fs) e = pieces (printed f) (printed_pieces (more g fs)) f (more g fs) e.0 (pieces_spelt g fs e.1)

chain_spelt : (fs : Filters) → is_several fs ≡ true → EachPiece fs → SpellsFilter (printed_pieces fs) (chain fs)
chain_spelt no_more h e = absurd (true≢false (sym h))
chain_spelt (more f no_more) h e = absurd (true≢false (sym h))
chain_spelt (more f (more g fs)) h e = (more f (more g fs), pieces_spelt f (more g fs) e, refl)

members_spelt : (f : Filter) (fs : Filters) → EachSpelt (more f fs) → SpellsMembers (printed f ++ printed_further fs) (more f fs)
members_spelt f no_more e =
    subst (λ w. SpellsMembers w (only f)) (sym (append-nil (printed f))) (a_member (printed f) f (to_member f e.0))
members_spelt f (more g fs) e =
    members (printed f) (44 ∷ []) (printed g ++ printed_further fs) f (more g fs) (to_member f e.0) comma_gap (members_spelt g fs e.1)

list_spelt : (fs : Filters) → EachSpelt fs → SpellsList (printed_members fs) fs
list_spelt no_more e = no_members [] false nothing
list_spelt (more f fs) e = listed (more f fs) (members_spelt f fs e)

join_inside : (fs : Filters) → EachSpelt fs → InsideOf (join fs)
join_inside no_more e = (no_more, no_members [] false nothing, refl)
join_inside (more f no_more) e =
    let p = a_list (printed f) (only f) (alone f (to_member f e.0)) in
    let q = subst (λ w. SpellsPiece (list_text w) (join (only f))) (sym (append-nil (printed f))) p in
    let a = alone (join (only f)) (to_member (join (only f)) (one_piece (join (only f)) q)) in
    (only (join (only f)), subst (λ w. SpellsList (list_text w) (only (join (only f)))) (append-nil (printed f)) a, refl)
join_inside (more f (more g fs)) e = (more f (more g fs), listed (more f (more g fs)) (members_spelt f (more g fs) e), refl)

exclude_spelt : (f : Filter) → InsideOf f → SpellsPiece (printed (exclude f)) (exclude f)
exclude_spelt f i = subst (λ g. SpellsPiece (printed (exclude f)) (exclude g)) i.2 (an_exclude (printed_inside f) i.0 i.1)

module _ (fs : Filters) (l : is_linked (chain fs) ≡ true) where
  chain_several : is_several fs ≡ true
  chain_several = first_so (is_several fs) (are_pieces fs) (first_so (is_several fs && are_pieces fs) (are_linked fs) l)

  chain_pieces : are_pieces fs ≡ true
  chain_pieces = second_so (is_several fs) (are_pieces fs) (first_so (is_several fs && are_pieces fs) (are_linked fs) l)

  chain_links : are_linked fs ≡ true
  chain_links = second_so (is_several fs && are_pieces fs) (are_linked fs) l

mutual
  piece_spelt : (f : Filter) → is_chain f ≡ false → is_linked f ≡ true → HasReadable f → SpellsPiece (printed f) f
  piece_spelt nop c l r = a_nop
  piece_spelt (sub p) c l r = a_sub (path_text p) p (name_spelt p r)
  piece_spelt (onto p) c l r = a_prefix (path_text p) p (name_spelt p r)
  piece_spelt (dir p) c l r = a_dir (path_text p) p (name_spelt p r)
  piece_spelt (file p) c l r = a_file (path_text p) p (name_spelt p r)
  piece_spelt (exclude f) c l r = exclude_spelt f (inside_spelt f l r)
  piece_spelt (join fs) c l r = a_list (printed_members fs) fs (list_spelt fs (each_spelt fs l r))
  piece_spelt (chain fs) c l r = absurd (true≢false c)
  piece_spelt (workspace p) c l r = a_workspace (path_text p) p (name_spelt p r)

  pub filter_spelt : (f : Filter) → is_linked f ≡ true → HasReadable f → SpellsFilter (printed f) f
  filter_spelt nop l r = one_piece nop a_nop
  filter_spelt (sub p) l r = one_piece (sub p) (a_sub (path_text p) p (name_spelt p r))
  filter_spelt (onto p) l r = one_piece (onto p) (a_prefix (path_text p) p (name_spelt p r))
  filter_spelt (dir p) l r = one_piece (dir p) (a_dir (path_text p) p (name_spelt p r))
  filter_spelt (file p) l r = one_piece (file p) (a_file (path_text p) p (name_spelt p r))
  filter_spelt (exclude f) l r = one_piece (exclude f) (exclude_spelt f (inside_spelt f l r))
  filter_spelt (join fs) l r = one_piece (join fs) (a_list (printed_members fs) fs (list_spelt fs (each_spelt fs l r)))
  filter_spelt (chain fs) l r = chain_spelt fs (chain_several fs l) (each_piece fs (chain_pieces fs l) (chain_links fs l) r)
  filter_spelt (workspace p) l r = one_piece (workspace p) (a_workspace (path_text p) p (name_spelt p r))

  each_spelt : (fs : Filters) → are_linked fs ≡ true → HaveReadable fs → EachSpelt fs
  each_spelt no_more l r = tt
  each_spelt (more f fs) l r =
      (filter_spelt f (first_so (is_linked f) (are_linked fs) l) r.0, each_spelt fs (second_so (is_linked f) (are_linked fs) l) r.1)

  each_piece : (fs : Filters) → are_pieces fs ≡ true → are_linked fs ≡ true → HaveReadable fs → EachPiece fs
  each_piece no_more c l r = tt
  each_piece (more f fs) c l r = (
    piece_spelt f (is_not (is_chain f) (first_so (not (is_chain f)) (are_pieces fs) c)) (first_so (is_linked f) (are_linked fs) l) r.0,
    each_piece fs (second_so (not (is_chain f)) (are_pieces fs) c) (second_so (is_linked f) (are_linked fs) l) r.1,
  )

  inside_spelt : (f : Filter) → is_linked f ≡ true → HasReadable f → InsideOf f
  inside_spelt nop l r = (only nop, alone nop (to_member nop (one_piece nop a_nop)), refl)
  inside_spelt (sub p) l r = (only (sub p), alone (sub p) (to_member (sub p) (one_piece (sub p) (a_sub (path_text p) p (name_spelt p r)))), refl)
  inside_spelt (onto p) l r = (only (onto p), alone (onto p) (to_member (onto p) (one_piece (onto p) (a_prefix (path_text p) p (name_spelt p r)))), refl)
  inside_spelt (dir p) l r = (only (dir p), alone (dir p) (to_member (dir p) (one_piece (dir p) (a_dir (path_text p) p (name_spelt p r)))), refl)
  inside_spelt (file p) l r = (only (file p), alone (file p) (to_member (file p) (one_piece (file p) (a_file (path_text p) p (name_spelt p r)))), refl)
  inside_spelt (exclude f) l r =
      (only (exclude f), alone (exclude f) (to_member (exclude f) (one_piece (exclude f) (exclude_spelt f (inside_spelt f l r)))), refl)
  inside_spelt (join fs) l r = join_inside fs (each_spelt fs l r)
  inside_spelt (chain fs) l r =
      (only (chain fs), alone (chain fs) (to_member (chain fs) (chain_spelt fs (chain_several fs l) (each_piece fs (chain_pieces fs l) (chain_links fs l) r))), refl)
  inside_spelt (workspace p) l r = (only (workspace p), alone (workspace p) (to_member (workspace p) (one_piece (workspace p) (a_workspace (path_text p) p (name_spelt p r)))), refl)

-- ---- reading and writing

pub record IsRead (t : Bytes) (f : Filter) : Type 0 where
  pub spelled : SpellsFilter t f
  pub placed : is_placed f ≡ true
  pub small : is_small f ≡ true

judged_ok : (o : Option Filter) (f : Filter) → judged o ≡ Ok f → (o ≡ Some f) × (is_placed f ≡ true) × (is_small f ≡ true)
judged_ok None f e = absurd (let k : ⊥ = cc in k)
judged_ok (Some g) f e =
    elim (is_placed g) as (λ b. is_placed g ≡ b → cond b (cond (is_small g) (Ok g) (Err TooMany)) (Err WorkspacePlace) ≡ Ok f → (Some g ≡ Some f) × (is_placed f ≡ true) × (is_small f ≡ true)) [
      | true ↦ λ p.
          elim (is_small g) as (λ b. is_small g ≡ b → cond b (Ok g) (Err TooMany) ≡ Ok f → (Some g ≡ Some f) × (is_placed f ≡ true) × (is_small f ≡ true)) [
            | true ↦ λ s h. let same : g ≡ f = cc in (ap Some same, subst (λ x. is_placed x ≡ true) same p, subst (λ x. is_small x ≡ true) same s)
            | false ↦ λ s h. absurd (let k : ⊥ = cc in k)
          ] refl
      | false ↦ λ p h. absurd (let k : ⊥ = cc in k)
    ] refl e

pub read-is : (t : Bytes) (f : Filter) → read t ≡ Ok f → IsRead t f
unfolding read
read-is t f e =
    elim (leb (length t) 4096) as (λ b. cond b (cond (too_deep t) (Err TooDeep) (judged (filter_of t))) (Err TooLong) ≡ Ok f → IsRead t f) [
      | true ↦
          elim (too_deep t) as (λ b. cond b (Err TooDeep) (judged (filter_of t)) ≡ Ok f → IsRead t f) [
            | true ↦ λ h. absurd (let k : ⊥ = cc in k)
            | false ↦ λ h.
                let j = judged_ok (filter_of t) f h in
                record { spelled = filter-spelled t f j.0; placed = j.1; small = j.2 }
          ]
      | false ↦ λ h. absurd (let k : ⊥ = cc in k)
    ] e

pub read-filter : (t : Bytes) (f : Filter) → read t ≡ Ok f → is_filter f ≡ true
read-filter t f e =
    let r = read-is t f e in
    let g = filter-good t f r.spelled in
    and_both g.links r.placed

pub print-law : (t : Bytes) (f : Filter) → read t ≡ Ok f → length (printed f) ≤ 4096 → too_deep (printed f) ≡ false → read (printed f) ≡ Ok f
unfolding read
print-law t f e l d =
    let r = read-is t f e in
    let g = filter-good t f r.spelled in
    let again : filter_of (printed f) ≡ Some f = filter_read (printed f) f (filter_spelt f g.links g.paths) in
    ap (λ b. cond b (cond (too_deep (printed f)) (Err TooDeep) (judged (filter_of (printed f)))) (Err TooLong)) (le-leb (length (printed f)) 4096 l)
    ∙ ap (λ b. cond b (Err TooDeep) (judged (filter_of (printed f)))) d
    ∙ ap judged again
    ∙ ap (λ b. cond b (cond (is_small f) (Ok f) (Err TooMany)) (Err WorkspacePlace)) r.placed
    ∙ ap (λ b. cond b (Ok f) (Err TooMany)) r.small
