-- What is read of a workspace file is spelled so, and what is spelled so is read.
use Rattle.std.proofs.Math.Bool.{or-true}
use Rattle.std.proofs.Common.{◌≡◌, ◌⊎◌, inl, inr, ℕ, ◌+◌, ◌-◌, zero, suc, Bool, true, false, cond, ◌||◌, true≢false, List, [], ◌∷◌, ◌++◌, length, Option, Some, None, refl, sym, ap, ◌∙◌, append_assoc, append-nil, length-append, subst, arith}
use Rattle.std.specs.Option.{option_map, option_and_then}
use Rattle.git_objects.specs.Paths.{Bytes, Path, is_nil}
use Rattle.filter_text.specs.Filters.{Filters}
use Rattle.filter_text.specs.Texts as texts
use Rattle.filter_text.specs.Texts.{Read, begins, target_at}
use Rattle.filter_text.specs.Reading.{made, pieces_at}
use Rattle.filter_text.specs.Items.{Member, sized_member, member_at, ends_member, later_members, members_of, members_within, members}
use Rattle.filter_text.specs.Spelling.{IsGap, SpellsTarget, IsLastGap, closed, open_comment, SpellsEntry, entry, SpellsEntries, an_entry, entries, SpellsFile, no_entries, some_entries}
use Rattle.filter_text.proofs.PathNames.{stops, IsFront, some_is}
use Rattle.filter_text.proofs.GapSpelling.{Gapped, gapped, firm, gap-read, last-read, last-stops, last-no-colon, break-stops, break-no-colon, target-read, target-spelled}
use Rattle.filter_text.proofs.Grammar.{pieces_begin, pieces_read, member_firm}
use Rattle.filter_text.proofs.Spelled.{or_first, then_gives, pieces-spelled}
use Rattle.filter_text.proofs.Files.{members_step}

-- ---- what is read is spelled so

abbrev made_of : ℕ → Option Path → Filters × Bytes → Member × Bytes
made_of n target y = (record { target = target; filter = made target y.0; size = n - length y.1 }, y.1)

sized_spelled : (s : Bytes) (target : Option Path) (u : Bytes) (m : Member) (r : Bytes) → IsFront (λ w. SpellsTarget w target) s u → (o : Read Filters) →
    pieces_at u ≡ o → option_map (made_of (length s) target) o ≡ Some (m, r) → IsFront (λ w. SpellsEntry w m) s r
sized_spelled s target u m r front None e h = absurd (let k : ⊥ = cc in k)
sized_spelled s target u m r front (Some y) e h =
    let both = some_is (made_of (length s) target y) (m, r) h in
    let rest = pieces-spelled u y.0 y.1 e in
    let a = front.front in
    let b = rest.front in
    let whole : s ≡ (a ++ b) ++ y.1 = front.is ∙ ap (λ x. a ++ x) rest.is ∙ sym (append_assoc a b y.1) in
    let size : length (a ++ b) ≡ length s - length y.1 = omega (arith, ap length whole, length-append (a ++ b) y.1) in
    record {
      front = a ++ b;
      is = whole ∙ ap (λ z. (a ++ b) ++ z.1) both;
      spelled =
          subst (SpellsEntry (a ++ b)) ((λ i. record { target = target; filter = made target y.0; size = size i }) ∙ ap (λ z. z.0) both)
          (entry a b target y.0 front.spelled rest.spelled);
    }

entry_spelled : (s : Bytes) (m : Member) (r : Bytes) → member_at s ≡ Some (m, r) → IsFront (λ w. SpellsEntry w m) s r
entry_spelled s m r e =
    let k = then_gives (sized_member (length s)) (target_at s) (m, r) e in
    sized_spelled s k.value.0 k.value.1 m r (target-spelled s k.value.0 k.value.1 k.is) (pieces_at k.value.1) refl k.to

record LastAt (t : Bytes) (ms : List Member) : Type 0 where
  none : ms ≡ []
  spelled : IsLastGap t

record EntriesAt (t : Bytes) (ms : List Member) : Type 0 where
  gap : Bytes
  broken : Bool
  front : Bytes
  last : Bytes
  spelled : IsGap gap broken
  flag : (texts.gap t).0 ≡ broken
  entries : SpellsEntries front ms
  end : IsLastGap last
  is : t ≡ gap ++ (front ++ last)
  others : is_nil (texts.gap t).1 ≡ false

abbrev FileFront : Bytes → List Member → Type 0
FileFront t ms = LastAt t ms ⊎ EntriesAt t ms

abbrev FilesFronted : (Bytes → Option (List Member)) → Type 0
FilesFronted f = (t : Bytes) (ms : List Member) → f t ≡ Some ms → FileFront t ms

nil_is : (t : Bytes) → is_nil t ≡ true → t ≡ []
nil_is [] e = refl
nil_is (x ∷ t) e = absurd (true≢false (sym e))

last_at : (t : Bytes) → is_nil (texts.gap t).1 ≡ true → Gapped false t (texts.gap t) → IsLastGap t
last_at t e (inl g) =
    subst IsLastGap (sym (g.is ∙ ap (λ x. g.gap ++ x) (nil_is (texts.gap t).1 e) ∙ append-nil g.gap)) (closed g.gap g.broken g.spelled)
last_at t e (inr g) = subst IsLastGap (sym g.is) (open_comment g.gap g.line g.broken g.spelled g.plain)

-- a member, and what the file has behind it
behind_entry : (t s : Bytes) (m : Member) (ys ms : List Member) → is_nil (texts.gap t).1 ≡ false → Gapped false t (texts.gap t) →
    IsFront (λ w. SpellsEntry w m) (texts.gap t).1 s → ends_member s ≡ true → m ∷ ys ≡ ms → FileFront s ys → EntriesAt t ms
behind_entry t s m ys ms o (inr g) w b e f = absurd (true≢false (sym (ap is_nil g.rest) ∙ o))
behind_entry t s m ys ms o (inl g) w b e (inl l) = record {
  gap = g.gap;
  broken = g.broken;
  front = w.front;
  last = s;
  spelled = g.spelled;
  flag = g.flag;
  entries = subst (SpellsEntries w.front) (ap (λ x. m ∷ x) (sym l.none) ∙ e) (an_entry w.front m w.spelled);
  end = l.spelled;
  is = g.is ∙ ap (λ x. g.gap ++ x) w.is;
  others = o;
}
behind_entry t s m ys ms o (inl g) w b e (inr l) =
    let broken : l.broken ≡ true = sym l.flag ∙ or_first (texts.gap s).0 (is_nil (texts.gap s).1) b l.others in
    record {
      gap = g.gap;
      broken = g.broken;
      front = w.front ++ (l.gap ++ l.front);
      last = l.last;
      spelled = g.spelled;
      flag = g.flag;
      entries =
          subst (SpellsEntries (w.front ++ (l.gap ++ l.front))) e
          (entries w.front l.gap l.front m ys w.spelled (subst (IsGap l.gap) broken l.spelled) l.entries);
      end = l.end;
      is =
          g.is ∙ ap (λ x. g.gap ++ x)
          (w.is ∙ ap (λ x. w.front ++ x) (l.is ∙ sym (append_assoc l.gap l.front l.last))
          ∙ sym (append_assoc w.front (l.gap ++ l.front) l.last));
      others = o;
    }

later_spelled : (f : Bytes → Option (List Member)) → FilesFronted f → (t s : Bytes) (m : Member) (ms : List Member) → is_nil (texts.gap t).1 ≡ false →
    Gapped false t (texts.gap t) → IsFront (λ w. SpellsEntry w m) (texts.gap t).1 s → ends_member s ≡ true → (o : Option (List Member)) → f s ≡ o →
    option_map (λ ys. m ∷ ys) o ≡ Some ms → EntriesAt t ms
later_spelled f h t s m ms o g w b None e k = absurd (let x : ⊥ = cc in x)
later_spelled f h t s m ms o g w b (Some ys) e k = behind_entry t s m ys ms o g w b (some_is (m ∷ ys) ms k) (h s ys e)

some_spelled : (f : Bytes → Option (List Member)) → FilesFronted f → (t : Bytes) (ms : List Member) → is_nil (texts.gap t).1 ≡ false →
    option_and_then (later_members f) (member_at (texts.gap t).1) ≡ Some ms → EntriesAt t ms
some_spelled f h t ms o e =
    let k = then_gives (later_members f) (member_at (texts.gap t).1) ms e in
    let m = k.value.0 in
    let s = k.value.1 in
    elim (ends_member s) as (λ b. ends_member s ≡ b → cond b (option_map (λ ys. m ∷ ys) (f s)) None ≡ Some ms → EntriesAt t ms) [
      | true ↦ λ b x. later_spelled f h t s m ms o (gapped false t) (entry_spelled (texts.gap t).1 m s k.is) b (f s) refl x
      | false ↦ λ b x. absurd (let y : ⊥ = cc in y)
    ] refl k.to

files_spelled : (n : ℕ) → FilesFronted (members_within n)
files_spelled zero t ms e = absurd (let k : ⊥ = cc in k)
files_spelled (suc n) t ms e =
    elim (is_nil (texts.gap t).1) as (λ b. is_nil (texts.gap t).1 ≡ b → cond b (Some []) (option_and_then (later_members (members_within n)) (member_at (texts.gap t).1)) ≡ Some ms → FileFront t ms) [
      | true ↦ λ b x. inl (record { none = sym (some_is [] ms x); spelled = last_at t b (gapped false t) })
      | false ↦ λ b x. inr (some_spelled (members_within n) (files_spelled n) t ms b x)
    ] refl e

to_file : (t : Bytes) (ms : List Member) → FileFront t ms → SpellsFile t ms
to_file t ms (inl l) = subst (SpellsFile t) (sym l.none) (no_entries t l.spelled)
to_file t ms (inr l) =
    subst (λ s. SpellsFile s ms) (sym l.is) (some_entries l.gap l.front l.last l.broken ms l.spelled l.entries l.end)

pub file-spelled : (t : Bytes) (ms : List Member) → members t ≡ Some ms → SpellsFile t ms
unfolding members
file-spelled t ms e = to_file t ms (files_spelled (length t + 1) t ms e)

-- ---- what is spelled so is read

entry_read : {w : Bytes} {m : Member} → SpellsEntry w m → (r : Bytes) → stops r ≡ true → begins 58 r ≡ false → member_at (w ++ r) ≡ Some (m, r)
entry_read (entry w v t fs st sp) r s k =
    let n = length ((w ++ v) ++ r) in
    let size : n - length r ≡ length (w ++ v) = omega (arith, length-append (w ++ v) r) in
    ap (λ x. option_and_then (sized_member n) (target_at x)) (append_assoc w v r)
    ∙ ap (option_and_then (sized_member n)) (target-read st (v ++ r) (pieces_begin sp r))
    ∙ ap (option_map (made_of n t)) (pieces_read sp r s k)
    ∙ (λ i. Some (record { target = t; filter = made t fs; size = size i }, r))

nil-append : (a b : Bytes) → is_nil b ≡ false → is_nil (a ++ b) ≡ false
nil-append [] b e = e
nil-append (x ∷ a) b e = refl

begins-some : (k : ℕ) (t : Bytes) → begins k t ≡ true → is_nil t ≡ false
begins-some k [] e = absurd (true≢false (sym e))
begins-some k (x ∷ t) e = refl

entry_some : {w : Bytes} {m : Member} → SpellsEntry w m → (r : Bytes) → is_nil (w ++ r) ≡ false
entry_some (entry w v t fs st sp) r = ap is_nil (append_assoc w v r) ∙ nil-append w (v ++ r) (begins-some 58 (v ++ r) (pieces_begin sp r))

entry_firm : {w : Bytes} {m : Member} → SpellsEntry w m → (r : Bytes) → firm (w ++ r) ≡ true
entry_firm (entry w v t fs st sp) r = ap firm (append_assoc w v r) ∙ member_firm st sp r

entries_firm : {w : Bytes} {ms : List Member} → SpellsEntries w ms → (r : Bytes) → firm (w ++ r) ≡ true
entries_firm (an_entry w m e) r = entry_firm e r
entries_firm (entries w g v m ms e k es) r = ap firm (append_assoc w (g ++ v) r) ∙ entry_firm e ((g ++ v) ++ r)

last_members : {h : Bytes} → IsLastGap h → members h ≡ Some []
last_members {h} l = members_step h ∙ ap (members_of members) (last-read l)

last_ends : {h : Bytes} → IsLastGap h → ends_member h ≡ true
last_ends {h} l = ap (λ x. (texts.gap h).0 || is_nil x) (last-read l) ∙ or-true (texts.gap h).0

one_entry : {w : Bytes} {m : Member} → SpellsEntry w m → (r : Bytes) → stops r ≡ true → begins 58 r ≡ false → ends_member r ≡ true →
    members_of members (w ++ r) ≡ option_map (λ ms. m ∷ ms) (members r)
one_entry {w} {m} e r s k b =
    ap (λ c. cond c (Some []) (option_and_then (later_members members) (member_at (w ++ r)))) (entry_some e r)
    ∙ ap (option_and_then (later_members members)) (entry_read e r s k)
    ∙ ap (λ c. cond c (option_map (λ ms. m ∷ ms) (members r)) None) b

entries_read : {w : Bytes} {ms : List Member} → SpellsEntries w ms → (h : Bytes) → IsLastGap h → members_of members (w ++ h) ≡ Some ms
entries_read (an_entry w m e) h l =
    one_entry e h (last-stops l) (last-no-colon l) (last_ends l) ∙ ap (option_map (λ ms. m ∷ ms)) (last_members l)
entries_read (entries w g v m ms e k es) h l =
    let rest = g ++ (v ++ h) in
    let between = gap-read k false (v ++ h) (entries_firm es h) in
    ap (members_of members) (append_assoc w (g ++ v) h ∙ ap (λ x. w ++ x) (append_assoc g v h))
    ∙ one_entry e rest (break-stops k refl (v ++ h)) (break-no-colon k refl (v ++ h)) (ap (λ x. x.0 || is_nil x.1) between)
    ∙ ap (option_map (λ ys. m ∷ ys)) (members_step rest ∙ ap (λ x. members_of members x.1) between ∙ entries_read es h l)

pub file-read : {t : Bytes} {ms : List Member} → SpellsFile t ms → members t ≡ Some ms
file-read (no_entries g l) = last_members l
file-read (some_entries g w h b ms i es l) =
    members_step (g ++ (w ++ h)) ∙ ap (λ x. members_of members x.1) (gap-read i false (w ++ h) (entries_firm es h)) ∙ entries_read es h l
