-- What is read of a filter text is spelled so.
use Rattle.std.proofs.Common.{◌≡◌, ◌⊎◌, inl, inr, ℕ, zero, suc, Bool, true, false, cond, ◌||◌, true≢false, List, [], ◌∷◌, ◌++◌, length, drop, Option, Some, None, refl, sym, ap, ◌∙◌, ◌+◌, eqb-true, append_assoc, append-nil, subst}
use Rattle.std.specs.Prelude.{codes}
use Rattle.std.specs.Option.{option_map, option_and_then}
use Rattle.git_objects.specs.Paths.{Bytes, Path}
use Rattle.filter_text.specs.Filters.{Filter, Filters, nop, sub, onto, dir, file, exclude, join, workspace, no_more, more, only}
use Rattle.filter_text.specs.Texts as texts
use Rattle.git_objects.specs.CommitBodies.{strip}
use Rattle.git_objects.proofs.CommitReading.{strip-spelled}
use Rattle.filter_text.specs.Texts.{Read, begins, name_at, kept_name_at, target_at}
use Rattle.filter_text.specs.Reading.{or_word, spellings, word_among, word_at, kept, inside, piece_of, with_first, more_pieces, linked, made, member_of, goes_on, more_members, list_of, pieces_within, list_within, pieces_at, whole, filter_of}
use Rattle.filter_text.specs.declared.word.Word.{Word}
use Rattle.filter_text.specs.declared.word.Word.TheVariants as words
use Rattle.filter_text.specs.Spelling.{IsGap, SpellsPiece, a_nop, a_sub, a_prefix, a_dir, a_file, an_exclude, a_list, a_workspace, SpellsPieces, a_piece, pieces, SpellsMember, member, SpellsMembers, a_member, members, SpellsList, no_members, some_members, SpellsFilter}
use Rattle.filter_text.proofs.PathNames.{IsFront, some_is, name-spelled, kept-spelled}
use Rattle.filter_text.proofs.GapSpelling.{Gapped, gapped, target-spelled, target-none}

-- ---- steps backwards

pub record MapsTo {X Y : Type 0} (h : X → Y) (o : Read X) (y : Y) (r : Bytes) : Type 0 where
  pub value : X
  pub is : o ≡ Some (value, r)
  pub to : h value ≡ y

pub maps_to : {X Y : Type 0} (h : X → Y) (o : Read X) (y : Y) (r : Bytes) → option_map {U = Y × Bytes} (λ x. (h x.0, x.1)) o ≡ Some (y, r) → MapsTo h o y r
maps_to h None y r e = absurd (let k : ⊥ = cc in k)
maps_to h (Some x) y r e =
    let both = some_is (h x.0, x.1) (y, r) e in
    record { value = x.0; is = (λ i. Some (x.0, (ap (λ z. z.1) both) i)); to = ap (λ z. z.0) both }

pub record ThenGives {X Y : Type 0} (f : X → Option Y) (o : Option X) (y : Y) : Type 0 where
  pub value : X
  pub is : o ≡ Some value
  pub to : f value ≡ Some y

pub then_gives : {X Y : Type 0} (f : X → Option Y) (o : Option X) (y : Y) → option_and_then f o ≡ Some y → ThenGives f o y
then_gives f None y e = absurd (let k : ⊥ = cc in k)
then_gives f (Some x) y e = record { value = x; is = refl; to = e }

first-is : (k : ℕ) (t : Bytes) → begins k t ≡ true → t ≡ k ∷ drop 1 t
first-is k [] e = absurd (true≢false (sym e))
first-is k (x ∷ t) e = λ i. eqb-true x k e i ∷ t

-- ---- words

abbrev spelling : Word → Bytes
spelling words.Nop = codes ":nop"
spelling words.Sub = codes ":/"
spelling words.Prefix = codes ":prefix="
spelling words.Kept = codes "::"
spelling words.Exclude = codes ":exclude["
spelling words.Join = codes ":["
spelling words.Workspace = codes ":workspace="

abbrev AreSpelled : List (Bytes × Word) → Type 0
AreSpelled [] = Unit {0}
AreSpelled (k ∷ ws) = (k.0 ≡ spelling k.1) × AreSpelled ws

among_front : (ws : List (Bytes × Word)) (t : Bytes) (w : Word) (r : Bytes) → AreSpelled ws → word_among ws t ≡ Some (w, r) → t ≡ spelling w ++ r
among_front [] t w r h e = absurd (let k : ⊥ = cc in k)
among_front (k ∷ ws) t w r h e =
    elim (strip k.0 t) as (λ o. strip k.0 t ≡ o → or_word o k.1 (word_among ws t) ≡ Some (w, r) → t ≡ spelling w ++ r) [
      | None ↦ λ g l. among_front ws t w r h.1 l
      | Some s ↦ λ g l.
          let both = some_is (k.1, s) (w, r) l in
          strip-spelled k.0 t s g ∙ ap (λ x. x ++ s) h.0 ∙ (λ i. spelling ((ap (λ z. z.0) both) i) ++ (ap (λ z. z.1) both) i)
    ] refl e

word-front : (t : Bytes) (w : Word) (r : Bytes) → word_at t ≡ Some (w, r) → t ≡ spelling w ++ r
unfolding word_at
word-front t w r e = among_front spellings t w r (refl, (refl, (refl, (refl, (refl, (refl, (refl, tt))))))) e

-- ---- pieces

pub record IsListFront (t : Bytes) (fs : Filters) (r : Bytes) : Type 0 where
  pub front : Bytes
  pub is : t ≡ front ++ 93 ∷ r
  pub spelled : SpellsList front fs

-- a way to read lists that reads only what is spelled so
abbrev ListsSpelled : (Bytes → Read Filters) → Type 0
ListsSpelled list = (t : Bytes) (fs : Filters) (r : Bytes) → list t ≡ Some (fs, r) → IsListFront t fs r

abbrev PiecesSpelled : (Bytes → Read Filters) → Type 0
PiecesSpelled p = (t : Bytes) (fs : Filters) (r : Bytes) → p t ≡ Some (fs, r) → IsFront (λ w. SpellsPieces w fs) t r

kept_front : (s : Bytes) (x : Path × Bytes) (f : Filter) (r : Bytes) → kept_name_at s ≡ Some x → kept x ≡ (f, r) → IsFront (λ w. SpellsPiece w f) (codes "::" ++ s) r
kept_front s x f r n e =
    let name = kept-spelled s x.0 x.1 n in
    elim (begins 47 x.1) as (λ b. begins 47 x.1 ≡ b → ◌≡◌ {A = Filter × Bytes} (cond b (dir x.0, drop 1 x.1) (file x.0, x.1)) (f, r) → IsFront (λ w. SpellsPiece w f) (codes "::" ++ s) r) [
      | true ↦ λ g h. record {
        front = codes "::" ++ (name.front ++ 47 ∷ []);
        is = ap (λ y. codes "::" ++ y) (name.is ∙ ap (λ y. name.front ++ y) (first-is 47 x.1 g ∙ ap (λ z. 47 ∷ z.1) h) ∙ sym (append_assoc name.front (47 ∷ []) r));
        spelled = subst (SpellsPiece (codes "::" ++ (name.front ++ 47 ∷ []))) (ap (λ z. z.0) h) (a_dir name.front x.0 name.spelled);
      }
      | false ↦ λ g h. record {
        front = codes "::" ++ name.front;
        is = ap (λ y. codes "::" ++ y) (name.is ∙ ap (λ z. name.front ++ z.1) h);
        spelled = subst (SpellsPiece (codes "::" ++ name.front)) (ap (λ z. z.0) h) (a_file name.front x.0 name.spelled);
      }
    ] refl e

kept_some : (s : Bytes) (o : Read Path) (f : Filter) (r : Bytes) → kept_name_at s ≡ o → option_map kept o ≡ Some (f, r) → IsFront (λ w. SpellsPiece w f) (codes "::" ++ s) r
kept_some s None f r n e = absurd (let k : ⊥ = cc in k)
kept_some s (Some x) f r n e = kept_front s x f r n (some_is (kept x) (f, r) e)

bracket_is : (front r : Bytes) → front ++ 93 ∷ r ≡ (front ++ 93 ∷ []) ++ r
bracket_is front r = sym (append_assoc front (93 ∷ []) r)

piece_spelled : (list : Bytes → Read Filters) → ListsSpelled list → (w : Word) (s : Bytes) (f : Filter) (r : Bytes) →
    piece_of list (w, s) ≡ Some (f, r) → IsFront (λ x. SpellsPiece x f) (spelling w ++ s) r
piece_spelled list l words.Nop s f r e =
    let both = some_is (nop, s) (f, r) e in
    record { front = codes ":nop"; is = ap (λ z. codes ":nop" ++ z.1) both; spelled = subst (SpellsPiece (codes ":nop")) (ap (λ z. z.0) both) a_nop }
piece_spelled list l words.Sub s f r e =
    let m = maps_to sub (name_at s) f r e in
    let n = name-spelled s m.value r m.is in
    record { front = codes ":/" ++ n.front; is = ap (λ x. codes ":/" ++ x) n.is; spelled = subst (SpellsPiece (codes ":/" ++ n.front)) m.to (a_sub n.front m.value n.spelled) }
piece_spelled list l words.Prefix s f r e =
    let m = maps_to onto (name_at s) f r e in
    let n = name-spelled s m.value r m.is in
    record { front = codes ":prefix=" ++ n.front; is = ap (λ x. codes ":prefix=" ++ x) n.is; spelled = subst (SpellsPiece (codes ":prefix=" ++ n.front)) m.to (a_prefix n.front m.value n.spelled) }
piece_spelled list l words.Kept s f r e = kept_some s (kept_name_at s) f r refl e
piece_spelled list l words.Exclude s f r e =
    let m = maps_to (λ fs. exclude (inside fs)) (list s) f r e in
    let n = l s m.value r m.is in
    record {
      front = codes ":exclude[" ++ (n.front ++ 93 ∷ []);
      is = ap (λ x. codes ":exclude[" ++ x) (n.is ∙ bracket_is n.front r);
      spelled = subst (SpellsPiece (codes ":exclude[" ++ (n.front ++ 93 ∷ []))) m.to (an_exclude n.front m.value n.spelled);
    }
piece_spelled list l words.Join s f r e =
    let m = maps_to join (list s) f r e in
    let n = l s m.value r m.is in
    record {
      front = codes ":[" ++ (n.front ++ 93 ∷ []);
      is = ap (λ x. codes ":[" ++ x) (n.is ∙ bracket_is n.front r);
      spelled = subst (SpellsPiece (codes ":[" ++ (n.front ++ 93 ∷ []))) m.to (a_list n.front m.value n.spelled);
    }
piece_spelled list l words.Workspace s f r e =
    let m = maps_to workspace (name_at s) f r e in
    let n = name-spelled s m.value r m.is in
    record { front = codes ":workspace=" ++ n.front; is = ap (λ x. codes ":workspace=" ++ x) n.is; spelled = subst (SpellsPiece (codes ":workspace=" ++ n.front)) m.to (a_workspace n.front m.value n.spelled) }

head_spelled : (list : Bytes → Read Filters) → ListsSpelled list → (t : Bytes) (f : Filter) (r : Bytes) →
    option_and_then (piece_of list) (word_at t) ≡ Some (f, r) → IsFront (λ x. SpellsPiece x f) t r
head_spelled list l t f r e =
    let g = then_gives (piece_of list) (word_at t) (f, r) e in
    let p = piece_spelled list l g.value.0 g.value.1 f r g.to in
    record { front = p.front; is = word-front t g.value.0 g.value.1 g.is ∙ p.is; spelled = p.spelled }

chain_spelled : (p list : Bytes → Read Filters) → PiecesSpelled p → ListsSpelled list → (t : Bytes) (fs : Filters) (r : Bytes) →
    option_and_then (more_pieces p) (option_and_then (piece_of list) (word_at t)) ≡ Some (fs, r) → IsFront (λ w. SpellsPieces w fs) t r
chain_spelled p list h l t fs r e =
    let g = then_gives (more_pieces p) (option_and_then (piece_of list) (word_at t)) (fs, r) e in
    let f = g.value.0 in
    let s = g.value.1 in
    let first = head_spelled list l t f s g.is in
    elim (begins 58 s) as (λ b. cond b (with_first f (p s)) (Some (only f, s)) ≡ Some (fs, r) → IsFront (λ w. SpellsPieces w fs) t r) [
      | true ↦ λ k.
          let m = maps_to (λ gs. more f gs) (p s) fs r k in
          let rest = h s m.value r m.is in
          record {
            front = first.front ++ rest.front;
            is = first.is ∙ ap (λ x. first.front ++ x) rest.is ∙ sym (append_assoc first.front rest.front r);
            spelled = subst (SpellsPieces (first.front ++ rest.front)) m.to (pieces first.front rest.front f m.value first.spelled rest.spelled);
          }
      | false ↦ λ k.
          let both = some_is (only f, s) (fs, r) k in
          record {
            front = first.front;
            is = first.is ∙ ap (λ z. first.front ++ z.1) both;
            spelled = subst (SpellsPieces first.front) (ap (λ z. z.0) both) (a_piece first.front f first.spelled);
          }
    ] g.to

-- ---- lists

record ClosesAt (s : Bytes) (fs : Filters) (r : Bytes) : Type 0 where
  none : fs ≡ no_more
  is : s ≡ 93 ∷ r

record MembersAt (s : Bytes) (fs : Filters) (r : Bytes) : Type 0 where
  front : Bytes
  gap : Bytes
  broken : Bool
  spelled : SpellsMembers front fs
  behind : IsGap gap broken
  is : s ≡ front ++ (gap ++ 93 ∷ r)
  others : begins 93 s ≡ false

record ListFront (t : Bytes) (fs : Filters) (r : Bytes) : Type 0 where
  gap : Bytes
  broken : Bool
  spelled : IsGap gap broken
  flag : (texts.gap t).0 ≡ broken
  is : t ≡ gap ++ (texts.gap t).1
  rest : ClosesAt (texts.gap t).1 fs r ⊎ MembersAt (texts.gap t).1 fs r

to_list_of : (t : Bytes) (fs : Filters) (r : Bytes) (l : ListFront t fs r) → ClosesAt (texts.gap t).1 fs r ⊎ MembersAt (texts.gap t).1 fs r → IsListFront t fs r
to_list_of t fs r l (inl c) = record {
  front = l.gap;
  is = l.is ∙ ap (λ x. l.gap ++ x) c.is;
  spelled = subst (SpellsList l.gap) (sym c.none) (no_members l.gap l.broken l.spelled);
}
to_list_of t fs r l (inr m) = record {
  front = l.gap ++ (m.front ++ m.gap);
  is =
      l.is ∙ ap (λ x. l.gap ++ x) (m.is ∙ sym (append_assoc m.front m.gap (93 ∷ r)))
      ∙ sym (append_assoc l.gap (m.front ++ m.gap) (93 ∷ r));
  spelled = some_members l.gap m.front m.gap l.broken m.broken fs l.spelled m.spelled m.behind;
}

to_list : (t : Bytes) (fs : Filters) (r : Bytes) → ListFront t fs r → IsListFront t fs r
to_list t fs r l = to_list_of t fs r l l.rest

abbrev ListsFronted : (Bytes → Read Filters) → Type 0
ListsFronted list = (t : Bytes) (fs : Filters) (r : Bytes) → list t ≡ Some (fs, r) → ListFront t fs r

pub or_first : (a b : Bool) → (a || b) ≡ true → b ≡ false → a ≡ true
or_first true b h e = refl
or_first false b h e = absurd (true≢false (sym h ∙ e))

member_spelled : (p : Bytes → Read Filters) → PiecesSpelled p → (g : Bytes) (f : Filter) (s : Bytes) →
    option_and_then (member_of p) (target_at g) ≡ Some (f, s) → IsFront (λ w. SpellsMember w f) g s
member_spelled p h g f s e =
    let k = then_gives (member_of p) (target_at g) (f, s) e in
    let target = target-spelled g k.value.0 k.value.1 k.is in
    let m = maps_to (made k.value.0) (p k.value.1) f s k.to in
    let rest = h k.value.1 m.value s m.is in
    record {
      front = target.front ++ rest.front;
      is = target.is ∙ ap (λ x. target.front ++ x) rest.is ∙ sym (append_assoc target.front rest.front s);
      spelled = subst (SpellsMember (target.front ++ rest.front)) m.to (member target.front rest.front k.value.0 m.value target.spelled rest.spelled);
    }

behind_member : (g s : Bytes) (f : Filter) (fs ys : Filters) (r : Bytes) → begins 93 g ≡ false → IsFront (λ w. SpellsMember w f) g s → goes_on s ≡ true → more f ys ≡ fs →
    (l : ListFront s ys r) → ClosesAt (texts.gap s).1 ys r ⊎ MembersAt (texts.gap s).1 ys r → MembersAt g fs r
behind_member g s f fs ys r o m w e l (inl c) = record {
  front = m.front;
  gap = l.gap;
  broken = l.broken;
  spelled = subst (SpellsMembers m.front) (ap (more f) (sym c.none) ∙ e) (a_member m.front f m.spelled);
  behind = l.spelled;
  is = m.is ∙ ap (λ x. m.front ++ x) (l.is ∙ ap (λ x. l.gap ++ x) c.is);
  others = o;
}
behind_member g s f fs ys r o m w e l (inr c) =
    let broken : l.broken ≡ true = sym l.flag ∙ or_first (texts.gap s).0 (begins 93 (texts.gap s).1) w c.others in
    record {
      front = m.front ++ (l.gap ++ c.front);
      gap = c.gap;
      broken = c.broken;
      spelled =
          subst (SpellsMembers (m.front ++ (l.gap ++ c.front))) e
          (members m.front l.gap c.front f ys m.spelled (subst (IsGap l.gap) broken l.spelled) c.spelled);
      behind = c.behind;
      is =
          m.is ∙ ap (λ x. m.front ++ x) (l.is ∙ ap (λ x. l.gap ++ x) c.is ∙ sym (append_assoc l.gap c.front (c.gap ++ 93 ∷ r)))
          ∙ sym (append_assoc m.front (l.gap ++ c.front) (c.gap ++ 93 ∷ r));
      others = o;
    }

more_spelled : (p list : Bytes → Read Filters) → PiecesSpelled p → ListsFronted list → (g : Bytes) (fs : Filters) (r : Bytes) → begins 93 g ≡ false →
    option_and_then (more_members list) (option_and_then (member_of p) (target_at g)) ≡ Some (fs, r) → MembersAt g fs r
more_spelled p list h l g fs r o e =
    let k = then_gives (more_members list) (option_and_then (member_of p) (target_at g)) (fs, r) e in
    let f = k.value.0 in
    let s = k.value.1 in
    let first = member_spelled p h g f s k.is in
    elim (goes_on s) as (λ b. goes_on s ≡ b → cond b (with_first f (list s)) None ≡ Some (fs, r) → MembersAt g fs r) [
      | true ↦ λ w x.
          let m = maps_to (λ gs. more f gs) (list s) fs r x in
          let rest = l s m.value r m.is in
          behind_member g s f fs m.value r o first w m.to rest rest.rest
      | false ↦ λ w x. absurd (let y : ⊥ = cc in y)
    ] refl k.to

rest_spelled : (p list : Bytes → Read Filters) → PiecesSpelled p → ListsFronted list → (g : Bytes) (fs : Filters) (r : Bytes) →
    list_of p list g ≡ Some (fs, r) → ClosesAt g fs r ⊎ MembersAt g fs r
rest_spelled p list h l g fs r e =
    elim (begins 93 g) as (λ b. begins 93 g ≡ b → cond b (Some (no_more, drop 1 g)) (option_and_then (more_members list) (option_and_then (member_of p) (target_at g))) ≡ Some (fs, r) → ClosesAt g fs r ⊎ MembersAt g fs r) [
      | true ↦ λ b x.
          let both = some_is (no_more, drop 1 g) (fs, r) x in
          inl (record { none = sym (ap (λ z. z.0) both); is = first-is 93 g b ∙ ap (λ z. 93 ∷ z.1) both })
      | false ↦ λ b x. inr (more_spelled p list h l g fs r b x)
    ] refl e

nothing_inside : (p list : Bytes → Read Filters) (g : Bytes) → g ≡ [] → list_of p list g ≡ None
nothing_inside p list g e = ap (list_of p list) e ∙ ap (λ x. option_and_then (more_members list) (option_and_then (member_of p) x)) target-none

list_step_spelled : (p list : Bytes → Read Filters) → PiecesSpelled p → ListsFronted list → (t : Bytes) (fs : Filters) (r : Bytes) →
    list_of p list (texts.gap t).1 ≡ Some (fs, r) → Gapped false t (texts.gap t) → ListFront t fs r
list_step_spelled p list h l t fs r e (inl g) =
    record { gap = g.gap; broken = g.broken; spelled = g.spelled; flag = g.flag; is = g.is; rest = rest_spelled p list h l (texts.gap t).1 fs r e }
list_step_spelled p list h l t fs r e (inr g) = absurd (let n = nothing_inside p list (texts.gap t).1 g.rest in let k : ⊥ = cc in k)

mutual
  pieces_spelled : (n : ℕ) → PiecesSpelled (pieces_within n)
  pieces_spelled zero t fs r e = absurd (let k : ⊥ = cc in k)
  pieces_spelled (suc n) t fs r e =
      chain_spelled (pieces_within n) (list_within n) (pieces_spelled n) (λ s gs q k. to_list s gs q (lists_spelled n s gs q k)) t fs r e

  lists_spelled : (n : ℕ) → ListsFronted (list_within n)
  lists_spelled zero t fs r e = absurd (let k : ⊥ = cc in k)
  lists_spelled (suc n) t fs r e = list_step_spelled (pieces_within n) (list_within n) (pieces_spelled n) (lists_spelled n) t fs r e (gapped false t)

pub pieces-spelled : (t : Bytes) (fs : Filters) (r : Bytes) → pieces_at t ≡ Some (fs, r) → IsFront (λ w. SpellsPieces w fs) t r
unfolding pieces_at
pieces-spelled t fs r e = pieces_spelled (length t + 1) t fs r e

whole_spelled : (t : Bytes) (f : Filter) (o : Read Filters) → pieces_at t ≡ o → whole o ≡ Some f → SpellsFilter t f
whole_spelled t f None e h = absurd (let k : ⊥ = cc in k)
whole_spelled t f (Some (fs, [])) e h =
    let p = pieces-spelled t fs [] e in
    (fs, subst (λ s. SpellsPieces s fs) (sym (p.is ∙ append-nil p.front)) p.spelled, some_is (linked fs) f h)
whole_spelled t f (Some (fs, x ∷ r)) e h = absurd (let k : ⊥ = cc in k)

pub filter-spelled : (t : Bytes) (f : Filter) → filter_of t ≡ Some f → SpellsFilter t f
filter-spelled t f e = whole_spelled t f (pieces_at t) refl e
