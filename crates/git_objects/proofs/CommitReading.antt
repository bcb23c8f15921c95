-- Reading a commit's body gives what it spells, and each spelling is read.
use Rattle.std.proofs.Common.{◌≡◌, ℕ, zero, suc, ◌*◌, ◌/◌, ◌%◌, ◌<◌, ◌≤◌, Bool, true, false, cond, not, List, [], ◌∷◌, ◌++◌, length, Option, Some, None, Result, Ok, Err, refl, sym, ap, subst, ◌∙◌, nat_eq, arith, append_assoc, slice_index}
use Rattle.std.specs.Prelude.{codes}
use Rattle.std.specs.Option.{option_map, option_and_then}
use Rattle.std.specs.Result.{result_ok}
use Rattle.std.specs.List.{list_all}
use Rattle.std.specs.Cmp.{first_so, second_so}
use Rattle.std.specs.Cmp.Lexicographic.{bytes_decides}
use Rattle.std.proofs.lemmas.Bool.{eqb-true, ltb-true, lt-ltb}
use Rattle.std.proofs.lemmas.Bool.Decides.{nat_tests}
use Rattle.hex.specs.Hex.{decode_sized, encode_with, lower_digits, hex_digit_value, IsBytes}
use Rattle.hex.specs.declared.error.FromHexError.{FromHexError}
use Rattle.hex.proofs.HexLemmas.{decode_sized-ok, decode_sized-twice, decode_of-ok, decode_sized-encode_lower, IsDigits-lower_digits}
use Rattle.git_objects.specs.Paths.{Bytes, same_bytes, is_bytes}
use Rattle.git_objects.specs.Idents.{cut_at, is_ident, is_number, is_digit, is_sign, is_quiet}
use Rattle.git_objects.specs.Bodies.{is_name}
use Rattle.git_objects.specs.Commits.{Commit, Letter, field, parent_lines, letter_text, commit_body, hex}
use Rattle.git_objects.specs.CommitBodies.{IsCommitBody, digits_name, lower_name, strip, field_from, name_field, ident_field, letter_from, more_parent, is_parent, without_parents, rest_from, commit_from}
use Rattle.git_objects.specs.Laws.{CommitBodyLaw}
use Rattle.git_objects.proofs.Basics.{and_both, same_bytes-self}
use Rattle.git_objects.proofs.IdentSpelling.{cut-spelled, cut-front, avoids, avoids-from, some_same, same_test, ident_law, quiet_byte}
use Rattle.git_objects.proofs.TreeReading.{then_some, map_some, cond_some}

-- ---- words in front

strip_cons : (x w : ℕ) (word text r : Bytes) → (strip word text ≡ Some r → text ≡ word ++ r) → cond (nat_eq x w) (strip word text) None ≡ Some r → x ∷ text ≡ w ∷ (word ++ r)
strip_cons x w word text r h =
    elim (nat_eq x w) as (λ v. nat_eq x w ≡ v → cond v (strip word text) None ≡ Some r → x ∷ text ≡ w ∷ (word ++ r)) [
      | true ↦ λ s e. let p = same_test x w s in let q = h e in λ i. p i ∷ q i
      | false ↦ λ s e. cc
    ] refl

pub strip-spelled : (word text r : Bytes) → strip word text ≡ Some r → text ≡ word ++ r
strip-spelled [] text r e = some_same text r e
strip-spelled (w ∷ word) [] r e = cc
strip-spelled (w ∷ word) (x ∷ text) r e = strip_cons x w word text r (strip-spelled word text r) e

eq_self : (x : ℕ) → nat_eq x x ≡ true
eq_self x = grind (arith, nat_tests)

pub strip-read : (word r : Bytes) → strip word (word ++ r) ≡ Some r
strip-read [] r = refl
strip-read (w ∷ word) r = ap (λ v. cond v (strip word (word ++ r)) None) (eq_self w) ∙ strip-read word r

-- ---- lines

spaced : (word v r : Bytes) → (word ++ 32 ∷ []) ++ (v ++ 10 ∷ r) ≡ field word v r
spaced word v r = append_assoc word (32 ∷ []) (v ++ 10 ∷ r)

pub field-spelled : (word b v r : Bytes) → field_from word b ≡ Some (v, r) → b ≡ field word v r
field-spelled word b v r e =
    let s = then_some (cut_at 10) (strip (word ++ 32 ∷ []) b) (v, r) e in
    strip-spelled (word ++ 32 ∷ []) b s.0 s.1 ∙ ap (λ (t : Bytes). (word ++ 32 ∷ []) ++ t) (cut-spelled 10 s.0 v r s.2) ∙ spaced word v r

pub field-read : (word v r : Bytes) → avoids 10 v ≡ true → field_from word (field word v r) ≡ Some (v, r)
field-read word v r h =
    ap (λ (t : Bytes). option_and_then (cut_at 10) (strip (word ++ 32 ∷ []) t)) (sym (spaced word v r))
    ∙ ap (option_and_then (cut_at 10)) (strip-read (word ++ 32 ∷ []) (v ++ 10 ∷ r))
    ∙ cut-front 10 v r h

-- ---- names

IsBytes-from : (n : Bytes) → is_bytes n ≡ true → IsBytes n
IsBytes-from [] h i = omega arith
IsBytes-from (x ∷ n) h zero = ltb-true x 256 (first_so _ _ h)
IsBytes-from (x ∷ n) h (suc i) = IsBytes-from n (second_so _ _ h) i

is_bytes-from : (n : Bytes) → IsBytes n → is_bytes n ≡ true
is_bytes-from [] h = refl
is_bytes-from (x ∷ n) h = and_both (lt-ltb x 256 (h 0)) (is_bytes-from n (λ i. h (suc i)))

ok_some : (r : Result Bytes FromHexError) (n : Bytes) → result_ok r ≡ Some n → r ≡ Ok n
ok_some (Ok x) n e = ap Ok (some_same x n e)
ok_some (Err x) n e = cc

pub digits-name : (t n : Bytes) → digits_name t ≡ Some n → (length t ≡ 40) × (is_name n ≡ true)
digits-name t n e =
    let d = ok_some (decode_sized t 20) n e in
    let l : length t ≡ 2 * 20 = decode_sized-ok t 20 n d in
    let k = decode_of-ok t n (sym (decode_sized-twice t 20 l) ∙ d) in
    let twice = k.2 in
    let long : length n ≡ 20 = omega arith in
    (l, and_both (is_bytes-from n k.3) (ap (λ m. nat_eq m 20) long))

pub lower-spelled : (t n : Bytes) → lower_name t ≡ Some n → (hex n ≡ t) × (is_name n ≡ true)
lower-spelled t n e =
    let d = then_some (λ n. cond (same_bytes (hex n) t) (Some n) None) (digits_name t) n e in
    let c = cond_some (same_bytes (hex d.0) t) d.0 n d.2 in
    (ap hex (sym c.1) ∙ (bytes_decides (hex d.0) t).0 c.0, (digits-name t n (d.1 ∙ ap Some c.1)).1)

name_long : (n : Bytes) → is_name n ≡ true → length n ≡ 20
name_long n h = eqb-true (length n) 20 (second_so _ _ h)

pub digits-read : (n : Bytes) → is_name n ≡ true → digits_name (hex n) ≡ Some n
digits-read n h = ap result_ok (decode_sized-encode_lower n 20 (name_long n h) (IsBytes-from n (first_so _ _ h)))

pub lower-read : (n : Bytes) → is_name n ≡ true → lower_name (hex n) ≡ Some n
lower-read n h =
    ap (option_and_then (λ m. cond (same_bytes (hex m) (hex n)) (Some m) None)) (digits-read n h)
    ∙ ap (λ v. cond v (Some n) None) (same_bytes-self (hex n))

-- no digit ends a line
no_end : (d : ℕ) → d < 16 → not (nat_eq (slice_index lower_digits d) 10) ≡ true
no_end d lt =
    elim (nat_eq (slice_index lower_digits d) 10) as (λ v. nat_eq (slice_index lower_digits d) 10 ≡ v → not v ≡ true) [
      | true ↦ λ e. let none : None ≡ Some d = ap hex_digit_value (sym (same_test (slice_index lower_digits d) 10 e)) ∙ IsDigits-lower_digits d lt in cc
      | false ↦ λ e. refl
    ] refl

hex-10 : (n : Bytes) → is_bytes n ≡ true → avoids 10 (hex n) ≡ true
unfolding encode_with
hex-10 [] h = refl
hex-10 (x ∷ n) h =
    let small : x < 256 = ltb-true x 256 (first_so _ _ h) in
    let high : x / 16 < 16 = omega arith in
    let low : x % 16 < 16 = omega arith in
    and_both (no_end (x / 16) high) (and_both (no_end (x % 16) low) (hex-10 n (second_so _ _ h)))

pub name_field-spelled : (word b n r : Bytes) → name_field word b ≡ Some (n, r) → (b ≡ field word (hex n) r) × (is_name n ≡ true)
name_field-spelled word b n r e =
    let f = then_some (λ (r : Bytes × Bytes). option_map (λ n. (n, r.1)) (lower_name r.0)) (field_from word b) (n, r) e in
    let m = map_some (λ (n : Bytes). (n, f.0.1)) (lower_name f.0.0) (n, r) f.2 in
    let same : m.0 ≡ n = ap (λ (p : Bytes × Bytes). p.0) m.2 in
    let rest : f.0.1 ≡ r = ap (λ (p : Bytes × Bytes). p.1) m.2 in
    let l = lower-spelled f.0.0 m.0 m.1 in
    (field-spelled word b f.0.0 f.0.1 f.1 ∙ (λ i. field word (sym l.0 i) f.0.1) ∙ (λ i. field word (hex (same i)) (rest i)), ap is_name (sym same) ∙ l.1)

pub name_field-read : (word n r : Bytes) → is_name n ≡ true → name_field word (field word (hex n) r) ≡ Some (n, r)
name_field-read word n r h =
    ap (option_and_then (λ (r : Bytes × Bytes). option_map (λ (n : Bytes). (n, r.1)) (lower_name r.0))) (field-read word (hex n) r (hex-10 n (first_so _ _ h)))
    ∙ ap (option_map (λ (m : Bytes). (m, r))) (lower-read n h)

-- ---- idents

avoids-append : (b : ℕ) (u v : Bytes) → avoids b u ≡ true → avoids b v ≡ true → avoids b (u ++ v) ≡ true
avoids-append b [] v h k = k
avoids-append b (x ∷ u) v h k = and_both (first_so _ _ h) (avoids-append b u v (second_so _ _ h) k)

quiet-10 : (u : Bytes) → is_quiet u ≡ true → avoids 10 u ≡ true
quiet-10 u e = avoids-from 10 quiet_byte (λ x h. second_so _ _ (first_so _ _ h)) u e

digit-10 : (x : ℕ) → is_digit x ≡ true → not (nat_eq x 10) ≡ true
digit-10 x h = grind (arith, nat_tests)

digits-10 : (most : ℕ) (u : Bytes) → is_number most u ≡ true → avoids 10 u ≡ true
digits-10 most u e = avoids-from 10 is_digit digit-10 u (second_so _ _ e)

sign-10 : (x : ℕ) → is_sign x ≡ true → not (nat_eq x 10) ≡ true
sign-10 x h = grind (arith, nat_tests)

ident-10 : (v : Bytes) → is_ident v ≡ true → avoids 10 v ≡ true
ident-10 v h =
    let i = (ident_law v).0 h in
    let zone = digits-10 8 i.zone i.zone_fits in
    let offset = and_both (sign-10 i.sign i.sign_fits) zone in
    let time = avoids-append 10 i.seconds (32 ∷ i.sign ∷ i.zone) (digits-10 18 i.seconds i.seconds_fit) offset in
    let rest = avoids-append 10 i.email (62 ∷ 32 ∷ (i.seconds ++ 32 ∷ i.sign ∷ i.zone)) (quiet-10 i.email i.email_fits) time in
    ap (avoids 10) i.spelled ∙ avoids-append 10 i.person (60 ∷ (i.email ++ 62 ∷ 32 ∷ (i.seconds ++ 32 ∷ i.sign ∷ i.zone))) (quiet-10 i.person (first_so _ _ i.person_fits)) rest

pub ident_field-spelled : (word b v r : Bytes) → ident_field word b ≡ Some (v, r) → (b ≡ field word v r) × (is_ident v ≡ true)
ident_field-spelled word b v r e =
    let f = then_some (λ (r : Bytes × Bytes). cond (is_ident r.0) (Some r) None) (field_from word b) (v, r) e in
    let c = cond_some (is_ident f.0.0) f.0 (v, r) f.2 in
    (field-spelled word b f.0.0 f.0.1 f.1 ∙ (λ i. field word ((c.1 i).0) ((c.1 i).1)), ap (λ (p : Bytes × Bytes). is_ident p.0) (sym c.1) ∙ c.0)

pub ident_field-read : (word v r : Bytes) → is_ident v ≡ true → ident_field word (field word v r) ≡ Some (v, r)
ident_field-read word v r h =
    ap (option_and_then (λ (r : Bytes × Bytes). cond (is_ident r.0) (Some r) None)) (field-read word v r (ident-10 v h))
    ∙ ap (λ w. cond w (Some (v, r)) None) h

-- ---- the letter

-- an author and a committer that are idents
pub record Signed (l : Letter) : Type 0 where
  pub author : is_ident l.author ≡ true
  pub committer : is_ident l.committer ≡ true

abbrev with_committer : Bytes × Bytes → Bytes × Bytes → Option Letter
with_committer a c = option_map (λ m. record { author = a.0; committer = c.0; message = m }) (strip (10 ∷ []) c.1)

abbrev with_author : Bytes × Bytes → Option Letter
with_author a = option_and_then (with_committer a) (ident_field (codes "committer") a.1)

pub letter-spelled : (b : Bytes) (l : Letter) → letter_from b ≡ Some l → (b ≡ letter_text l) × Signed l
letter-spelled b l e =
    let a = then_some with_author (ident_field (codes "author") b) l e in
    let c = then_some (with_committer a.0) (ident_field (codes "committer") a.0.1) l a.2 in
    let m = map_some (λ (m : Bytes). let made : Letter = record { author = a.0.0; committer = c.0.0; message = m } in made) (strip (10 ∷ []) c.0.1) l c.2 in
    let p = ident_field-spelled (codes "author") b a.0.0 a.0.1 a.1 in
    let q = ident_field-spelled (codes "committer") a.0.1 c.0.0 c.0.1 c.1 in
    let r = strip-spelled (10 ∷ []) c.0.1 m.0 m.1 in
    let made : Letter = record { author = a.0.0; committer = c.0.0; message = m.0 } in
    let text : b ≡ letter_text made =
    p.0 ∙ ap (field (codes "author") a.0.0) (q.0 ∙ ap (field (codes "committer") c.0.0) r) in
    let signed : Signed made = record { author = p.1; committer = q.1 } in
    (text ∙ ap letter_text m.2, subst Signed m.2 signed)

pub letter-read : (l : Letter) → Signed l → letter_from (letter_text l) ≡ Some l
letter-read l h =
    ap (option_and_then with_author) (ident_field-read (codes "author") l.author (field (codes "committer") l.committer (10 ∷ l.message)) h.author)
    ∙ ap (option_and_then (with_committer (l.author, field (codes "committer") l.committer (10 ∷ l.message)))) (ident_field-read (codes "committer") l.committer (10 ∷ l.message) h.committer)

-- ---- parents

abbrev names : List Bytes → Bool
names ps = list_all is_name ps

-- what was read of the parents and the letter
pub record Read (n : ℕ) (b : Bytes) (ps : List Bytes) (l : Letter) : Type 0 where
  pub spelled : b ≡ parent_lines ps (letter_text l)
  pub named : names ps ≡ true
  pub few : length ps ≤ n
  pub signed : Signed l

read_none : (n : ℕ) (b : Bytes) (ps : List Bytes) (l : Letter) → without_parents b ≡ Some (ps, l) → Read n b ps l
read_none n b ps l e =
    let m = map_some (λ (l : Letter). let made : List Bytes × Letter = ([], l) in made) (letter_from b) (ps, l) e in
    let none : [] ≡ ps = ap (λ (p : List Bytes × Letter). p.0) m.2 in
    let same : m.0 ≡ l = ap (λ (p : List Bytes × Letter). p.1) m.2 in
    let s = letter-spelled b m.0 m.1 in
    let few : length ps ≤ n = subst (λ (qs : List Bytes). length qs ≤ n) none (omega arith) in
    record { spelled = s.0 ∙ (λ i. parent_lines (none i) (letter_text (same i))); named = ap names (sym none); few = few; signed = subst Signed same s.1 }

abbrev with_parent : ℕ → Bytes × Bytes → Option (List Bytes × Letter)
with_parent n r = more_parent r.0 (rest_from n r.1)

read_more : (n : ℕ) (b : Bytes) (ps : List Bytes) (l : Letter) → ((a : Bytes) (qs : List Bytes) (k : Letter) → rest_from n a ≡ Some (qs, k) → Read n a qs k) → option_and_then (with_parent n) (name_field (codes "parent") b) ≡ Some (ps, l) → Read (suc n) b ps l
read_more n b ps l h e =
    let p = then_some (with_parent n) (name_field (codes "parent") b) (ps, l) e in
    let m = map_some (λ (r : List Bytes × Letter). let made : List Bytes × Letter = (p.0.0 ∷ r.0, r.1) in made) (rest_from n p.0.1) (ps, l) p.2 in
    let all : p.0.0 ∷ m.0.0 ≡ ps = ap (λ (p : List Bytes × Letter). p.0) m.2 in
    let same : m.0.1 ≡ l = ap (λ (p : List Bytes × Letter). p.1) m.2 in
    let s = name_field-spelled (codes "parent") b p.0.0 p.0.1 p.1 in
    let r = h p.0.1 m.0.0 m.0.1 m.1 in
    let text : b ≡ parent_lines (p.0.0 ∷ m.0.0) (letter_text m.0.1) = s.0 ∙ ap (field (codes "parent") (hex p.0.0)) r.spelled in
    let fewer : length m.0.0 ≤ n = r.few in
    let few : length (p.0.0 ∷ m.0.0) ≤ suc n = omega arith in
    record {
      spelled = text ∙ (λ i. parent_lines (all i) (letter_text (same i)));
      named = ap names (sym all) ∙ and_both s.1 r.named;
      few = subst (λ (qs : List Bytes). length qs ≤ suc n) all few;
      signed = subst Signed same r.signed;
    }

read_either : (n : ℕ) (b : Bytes) (ps : List Bytes) (l : Letter) (v : Bool) → (option_and_then (with_parent n) (name_field (codes "parent") b) ≡ Some (ps, l) → Read (suc n) b ps l) → cond v (option_and_then (with_parent n) (name_field (codes "parent") b)) (without_parents b) ≡ Some (ps, l) → Read (suc n) b ps l
read_either n b ps l true h e = h e
read_either n b ps l false h e = read_none (suc n) b ps l e

pub rest-spelled : (n : ℕ) (b : Bytes) (ps : List Bytes) (l : Letter) → rest_from n b ≡ Some (ps, l) → Read n b ps l
rest-spelled zero b ps l e = read_none zero b ps l e
rest-spelled (suc n) b ps l e = read_either n b ps l (is_parent b) (read_more n b ps l (rest-spelled n)) e

no_parent : (n : ℕ) (l : Letter) → Signed l → rest_from n (letter_text l) ≡ Some ([], l)
no_parent zero l h = ap (option_map (λ (l : Letter). let made : List Bytes × Letter = ([], l) in made)) (letter-read l h)
no_parent (suc n) l h = ap (option_map (λ (l : Letter). let made : List Bytes × Letter = ([], l) in made)) (letter-read l h)

pub rest-read : (n : ℕ) (ps : List Bytes) (l : Letter) → length ps ≤ n → names ps ≡ true → Signed l → rest_from n (parent_lines ps (letter_text l)) ≡ Some (ps, l)
rest-read n [] l few h s = no_parent n l s
rest-read zero (p ∷ ps) l few h s = absurd (omega arith)
rest-read (suc n) (p ∷ ps) l few h s =
    let fewer : length ps ≤ n = omega arith in
    ap (option_and_then (with_parent n)) (name_field-read (codes "parent") p (parent_lines ps (letter_text l)) (first_so _ _ h))
    ∙ ap (more_parent p) (rest-read n ps l fewer (second_so _ _ h) s)

-- ---- the law

abbrev with_tree : Bytes × Bytes → Option Commit
with_tree t = option_map (λ r. record { tree = t.0; parents = r.0; letter = r.1 }) (rest_from 16 t.1)

read_law : (b : Bytes) (c : Commit) → commit_from b ≡ Some c → IsCommitBody c b
unfolding commit_from commit_body
read_law b c e =
    let t = then_some with_tree (name_field (codes "tree") b) c e in
    let m = map_some (λ (r : List Bytes × Letter). let made : Commit = record { tree = t.0.0; parents = r.0; letter = r.1 } in made) (rest_from 16 t.0.1) c t.2 in
    let s = name_field-spelled (codes "tree") b t.0.0 t.0.1 t.1 in
    let r = rest-spelled 16 t.0.1 m.0.0 m.0.1 m.1 in
    let made : Commit = record { tree = t.0.0; parents = m.0.0; letter = m.0.1 } in
    let body : IsCommitBody made b = record {
      tree = s.1;
      parents = r.named;
      few = r.few;
      author = r.signed.author;
      committer = r.signed.committer;
      spelled = sym (s.0 ∙ ap (field (codes "tree") (hex t.0.0)) r.spelled);
    } in
    subst (λ (d : Commit). IsCommitBody d b) m.2 body

pub spelled_law : (b : Bytes) (c : Commit) → IsCommitBody c b → commit_from b ≡ Some c
unfolding commit_from commit_body
spelled_law b c h =
    ap (λ t. option_and_then with_tree (name_field (codes "tree") t)) (sym h.spelled)
    ∙ ap (option_and_then with_tree) (name_field-read (codes "tree") c.tree (parent_lines c.parents (letter_text c.letter)) h.tree)
    ∙ ap (option_map (λ (r : List Bytes × Letter). let made : Commit = record { tree = c.tree; parents = r.0; letter = r.1 } in made)) (rest-read 16 c.parents c.letter h.few h.parents (record { author = h.author; committer = h.committer }))

pub commit_law : CommitBodyLaw
commit_law b c bytes = (read_law b c, spelled_law b c)
