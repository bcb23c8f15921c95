-- What is read of the lines of a commit's changes.
use Rattle.std.proofs.Common.{◌≡◌, ℕ, ◌+◌, ◌-◌, ◌/◌, ◌%◌, ◌<◌, Bool, true, false, cond, not, ◌||◌, List, [], ◌∷◌, ◌++◌, length, drop, Option, Some, None, Result, Ok, Err, refl, sym, ap, ◌∙◌, subst, arith, append-nil, T}
use Rattle.std.specs.Prelude.{codes, nat_eq, nat_le, nat_lt, replicate, slice_index}
use Rattle.std.specs.Option.{option_map}
use Rattle.std.specs.List.{list_all, list_any, starts_with}
use Rattle.std.specs.Fmt.{decimal}
use Rattle.std.specs.Cmp.{first_so, second_so}
use Rattle.std.specs.Cmp.Lexicographic.{bytes_decides}
use Rattle.std.proofs.lemmas.Bool.Decides.{nat_tests}
use borrow.Author.Tests.{ltb-true}
use Rattle.hex.specs.Hex.{encode_with, lower_digits, hex_digit_value}
use Rattle.hex.proofs.HexLemmas.{IsDigits-lower_digits}
use Rattle.git_objects.specs.declared.quantity.Quantity.TheVariants as limits
use Rattle.git_objects.specs.declared.mode.Mode.{Mode}
use Rattle.git_objects.specs.Paths.{Bytes, Path, is_path, is_component, is_nil, is_bytes, same_bytes, text}
use Rattle.git_objects.specs.Trees.{Leaf, FileLeaf, ExecLeaf, LinkLeaf, ModuleLeaf}
use Rattle.git_objects.specs.Names.{leaf_mode, mode_text}
use Rattle.git_objects.specs.Bodies.{is_name}
use Rattle.git_objects.specs.Commits.{hex}
use Rattle.git_objects.specs.Idents.{is_digit}
use Rattle.git_objects.specs.CommitBodies.{digits_name}
use Rattle.git_objects.proofs.Basics.{and_both}
use Rattle.git_objects.proofs.IdentSpelling.{avoids, cut-front, same_test}
use Rattle.git_objects.proofs.CommitReading.{digits-read, digits-name}
use Rattle.path_names.specs.declared.path.PathFault.{PathFault}
use Rattle.path_names.specs.declared.path.PathFault.TheVariants as paths
use Rattle.path_names.specs.PathTexts.{parts, path_of}
use Rattle.path_names.specs.Quoting.{short, is_hidden, is_special, octal, escape, quoted_byte, quoted_rest, quoted, quote, unquote}
use Rattle.path_names.proofs.Again.{round_trip}
use Rattle.path_names.proofs.Readings.{path_text_law}
use Rattle.stream_lex.specs.Lines.{Input, line_at}
use Rattle.stream_lex.specs.Spelling.{no_lf, NoLine}
use Rattle.stream_lex.proofs.Spelled.{line_at-none}
use Rattle.stream_reader.specs.declared.fault.StreamFault.TheVariants.{Syntax, BadPath, Unsupported}
use Rattle.stream_reader.specs.declared.fault.Feature.TheVariants.{ZeroName}
use Rattle.stream_reader.specs.declared.command.Command.{Command}
use Rattle.stream_reader.specs.declared.command.Command.TheVariants as commands
use Rattle.stream_reader.specs.declared.command.Change.{Change}
use Rattle.stream_reader.specs.declared.command.Change.TheVariants as changes
use Rattle.stream_reader.specs.declared.command.BlobRef.{BlobRef}
use Rattle.stream_reader.specs.declared.command.BlobRef.TheVariants as blobs
use Rattle.stream_reader.specs.declared.modify.DataRef.{DataRef}
use Rattle.stream_reader.specs.declared.modify.DataRef.TheVariants as datas
use Rattle.stream_reader.specs.declared.modify.ModifyLine.{ModifyLine}
use Rattle.stream_reader.specs.declared.progress.Phase.TheVariants.{Between, InCommit}
use Rattle.stream_reader.specs.declared.progress.Event.TheVariants.{Gives, Skips, Ends}
use Rattle.stream_reader.specs.Words.{first_word, word_by, mark}
use Rattle.stream_reader.specs.Names.{some_name}
use Rattle.git_objects.specs.Results.{◌>>=◌}
use Rattle.stream_lex.specs.Cutting.{◌then◌, pure, judged}
use Rattle.stream_reader.specs.Reading.{Judged, Reader, lifted, or_fault, fault}
use Rattle.stream_reader.specs.PathWords.{path_by, path_at, is_quoted, unquoted_at, last_path}
use Rattle.stream_reader.specs.Changes.{mode, dataref, fitting, data_part, mode_part, modify_line, blob_ref, modify, ChangeLine, ModifyIs, DeleteAllIs, EmptyIs, change_line, change}
use Rattle.stream_reader.specs.Commands.{EmptyLine, command_line, Turn, turned, gives, changed, in_commit_at, between_at, turn_in, turn}
use Rattle.stream_reader.specs.Verdicts.{start}
use Rattle.stream_reader.proofs.SpelledChanges.{modify_again, all_again, empty_again}
use Rattle.fast_export.proofs.Goings.{Reads, Read, Limited, Says, Said, Over, then_reads, judged_reads, bind_says, is_command}
use Rattle.fast_export.proofs.Numbers.{mark_again, digits_of_number, digits_plain, all_front, all_so}
use Rattle.fast_export.proofs.ReadLines.{left, Room, IsLine, LineTold, LineIs, LineLong, line_told}
use Rattle.fast_export.proofs.Heads.{calm, inside, pure_reads, between_turn, colon, IsMark}

-- ---- quoted texts have no LF

letter_plain : Option ℕ → Bool
letter_plain None = true
letter_plain (Some x) = not (nat_eq x 10)

either_plain : (b : Bool) (x : ℕ) (o : Option ℕ) → not (nat_eq x 10) ≡ true → letter_plain o ≡ true → letter_plain (cond b (Some x) o) ≡ true
unfolding letter_plain
either_plain true x o h k = h
either_plain false x o h k = k

short_plain : (x : ℕ) → letter_plain (short x) ≡ true
unfolding letter_plain
short_plain x =
    either_plain (nat_eq x 7) 97 _ refl (either_plain (nat_eq x 8) 98 _ refl (either_plain (nat_eq x 9) 116 _ refl (either_plain (nat_eq x 10) 110 _ refl
    (either_plain (nat_eq x 11) 118 _ refl (either_plain (nat_eq x 12) 102 _ refl (either_plain (nat_eq x 13) 114 _ refl (either_plain (nat_eq x 34) 34 _ refl
    (either_plain (nat_eq x 92) 92 None refl refl))))))))

above_plain : (x y : ℕ) → x ≡ 48 + y → not (nat_eq x 10) ≡ true
above_plain x y e = grind (arith, nat_tests)

shown_plain : (x : ℕ) → is_hidden x ≡ false → not (nat_eq x 10) ≡ true
shown_plain x h = grind (arith, nat_tests)

octal_plain : (x : ℕ) → no_lf (octal x) ≡ true
octal_plain x = and_both (above_plain (48 + x / 8 / 8) (x / 8 / 8) refl) (and_both (above_plain (48 + x / 8 % 8) (x / 8 % 8) refl) (and_both (above_plain (48 + x % 8) (x % 8) refl) refl))

escape_plain : (x : ℕ) (o : Option ℕ) → letter_plain o ≡ true → no_lf (escape x o) ≡ true
unfolding letter_plain
escape_plain x (Some y) h = and_both h refl
escape_plain x None h =
    elim (is_hidden x) as (λ b. is_hidden x ≡ b → no_lf (cond b (octal x) (x ∷ [])) ≡ true) [ true ↦ λ e. octal_plain x | false ↦ λ e. and_both (shown_plain x e) refl ] refl

byte_plain : (x : ℕ) → no_lf (quoted_byte x) ≡ true
unfolding quoted_byte
byte_plain x = escape_plain x (short x) (short_plain x)

rest_plain : (t : Bytes) → no_lf (quoted_rest t) ≡ true
rest_plain [] = refl
rest_plain (x ∷ t) = all_front (λ x. not (nat_eq x 10)) (quoted_byte x) (quoted_rest t) (byte_plain x) (rest_plain t)

pub or_none : (a b : Bool) → (a || b) ≡ false → (a ≡ false) × (b ≡ false)
or_none true b h = absurd cc
or_none false b h = (refl, h)

usual_plain : (x : ℕ) → is_special x ≡ false → not (nat_eq x 10) ≡ true
usual_plain x h = shown_plain x (or_none (is_hidden x) (nat_eq x 34) (or_none (is_hidden x || nat_eq x 34) (nat_eq x 92) h).0).0

none_plain : (t : Bytes) → list_any is_special t ≡ false → no_lf t ≡ true
none_plain [] h = refl
none_plain (x ∷ t) h = let o = or_none (is_special x) (list_any is_special t) h in and_both (usual_plain x o.0) (none_plain t o.1)

pub quote_plain : (t : Bytes) → no_lf (quote t) ≡ true
unfolding quote
quote_plain t =
    elim (list_any is_special t) as (λ b. list_any is_special t ≡ b → no_lf (cond b (quoted t) t) ≡ true) [ true ↦ λ e. rest_plain t | false ↦ λ e. none_plain t e ] refl

-- ---- paths

component_some : (c t : Bytes) → is_component c ≡ true → is_nil (c ++ t) ≡ false
component_some [] t h = absurd cc
component_some (x ∷ c) t h = refl

component_bytes : (c : Bytes) → is_component c ≡ true → is_bytes c ≡ true
component_bytes c h = second_so _ _ h

path_some : (p : Path) → is_path p ≡ true → is_nil (text p) ≡ false
path_some [] h = absurd cc
path_some (c ∷ []) h = ap is_nil (sym (append-nil c)) ∙ component_some c [] (first_so _ _ h)
path_some (c ∷ d ∷ p) h = component_some c (47 ∷ text (d ∷ p)) (first_so _ _ h)

text_bytes : (p : Path) → list_all is_component p ≡ true → is_bytes (text p) ≡ true
text_bytes [] h = refl
text_bytes (c ∷ []) h = component_bytes c (first_so _ _ h)
text_bytes (c ∷ d ∷ p) h = all_front (λ x. nat_lt x 256) c (47 ∷ text (d ∷ p)) (component_bytes c (first_so _ _ h)) (text_bytes (d ∷ p) (second_so _ _ h))

true-T : (b : Bool) → b ≡ true → T b
true-T b e = subst T (sym e) tt

by_tests : (at : ℕ) (p : Path) (a b c : Bool) →
    Says (path_by at (cond a (cond b (cond c (Ok p) (Err paths.TooLong)) (Err paths.TooDeep)) (Err paths.LongComponent))) (λ q. q ≡ p)
by_tests at p true true true = Said p refl refl
by_tests at p true true false = Over at limits.PathBytes refl
by_tests at p true false c = Over at limits.PathDepth refl
by_tests at p false b c = Over at limits.Component refl

abbrev limited : Bytes → Path → Result Path PathFault
limited t q =
    cond (list_all (λ c. nat_le (length c) 255) (parts t)) (cond (nat_le (length (parts t)) 128) (cond (nat_le (length t) 4096) (Ok q) (Err paths.TooLong)) (Err paths.TooDeep)) (Err paths.LongComponent)

path_says : (at : ℕ) (p : Path) → is_path p ≡ true → Says (path_at at (text p)) (λ q. q ≡ p)
unfolding path_of
path_says at p h =
    let t = text p in
    let some = path_some p h in
    let same = path_text_law.same_parts p (true-T (is_path p) h) in
    let all : list_all is_component (parts t) ≡ true = ap (list_all is_component) same ∙ second_so _ _ h in
    subst (λ b. Says (path_by at (cond b (Err paths.Empty) (cond (list_all is_component (parts t)) (limited t (parts t)) (Err paths.BadComponent)))) (λ q. q ≡ p)) (sym some)
    (subst (λ b. Says (path_by at (cond b (limited t (parts t)) (Err paths.BadComponent))) (λ q. q ≡ p)) (sym all)
    (subst (λ (q : Path). Says (path_by at (limited t q)) (λ q. q ≡ p)) (sym same)
    (by_tests at p (list_all (λ c. nat_le (length c) 255) (parts t)) (nat_le (length (parts t)) 128) (nat_le (length t) 4096))))

-- between quotes

drop_whole : {A : Type 0} (xs : List A) → drop (length xs) xs ≡ []
drop_whole [] = refl
drop_whole (x ∷ xs) = drop_whole xs

unquoted_again : (at : ℕ) (t : Bytes) → is_bytes t ≡ true → unquoted_at at (quoted t) ≡ Ok (t, [])
unquoted_again at t h =
    ap (λ o. or_fault (BadPath at) (option_map (λ (u : Bytes × ℕ). (u.0, drop u.1 (quoted t))) o)) (ap unquote (sym (append-nil (quoted t))) ∙ round_trip t [] h)
    ∙ ap (λ (d : Bytes). Ok (t, d)) (drop_whole (quoted t))

not_quoted : (t : Bytes) → list_any is_special t ≡ false → is_quoted t ≡ false
not_quoted [] h = refl
not_quoted (x ∷ t) h =
    let o = or_none (is_special x) (list_any is_special t) h in
    other (or_none (is_hidden x) (nat_eq x 34) (or_none (is_hidden x || nat_eq x 34) (nat_eq x 92) o.0).0).1
  where
    swap : nat_eq x 34 ≡ false → nat_eq 34 x ≡ false
    swap e = grind (arith, nat_tests)

    other : nat_eq x 34 ≡ false → is_quoted (x ∷ t) ≡ false
    other e = let d : nat_eq 34 x ≡ false = swap e in rw d refl

abbrev last_of : ℕ → Bytes → Judged Path
last_of at t = cond (is_quoted t) (unquoted_at at t >>= λ u. cond (is_nil u.1) (path_at at u.0) (fault (BadPath at))) (path_at at t)

pub last_says : (at : ℕ) (p : Path) → is_path p ≡ true → Says (last_path at (quote (text p))) (λ q. q ≡ p)
unfolding last_path quote
last_says at p h =
    elim (list_any is_special (text p)) as (λ b. list_any is_special (text p) ≡ b → Says (last_of at (cond b (quoted (text p)) (text p))) (λ q. q ≡ p)) [
      | true ↦ λ e.
          subst (λ (r : Judged (Bytes × Bytes)). Says (r >>= λ u. cond (is_nil u.1) (path_at at u.0) (fault (BadPath at))) (λ q. q ≡ p)) (sym (unquoted_again at (text p) (text_bytes p (second_so _ _ h)))) (path_says at p h)
      | false ↦ λ e.
          subst (λ b. Says (cond b (unquoted_at at (text p) >>= λ u. cond (is_nil u.1) (path_at at u.0) (fault (BadPath at))) (path_at at (text p))) (λ q. q ≡ p)) (sym (not_quoted (text p) e)) (path_says at p h)
    ] refl

-- ---- digits of a name

no_digit : (b d : ℕ) → hex_digit_value b ≡ None → d < 16 → not (nat_eq (slice_index lower_digits d) b) ≡ true
no_digit b d none lt =
    elim (nat_eq (slice_index lower_digits d) b) as (λ v. nat_eq (slice_index lower_digits d) b ≡ v → not v ≡ true) [
      | true ↦ λ e. let some : None ≡ Some d = sym none ∙ ap hex_digit_value (sym (same_test (slice_index lower_digits d) b e)) ∙ IsDigits-lower_digits d lt in absurd cc
      | false ↦ λ e. refl
    ] refl

pub hex_avoids : (b : ℕ) (n : Bytes) → hex_digit_value b ≡ None → is_bytes n ≡ true → avoids b (hex n) ≡ true
unfolding encode_with
hex_avoids b [] none h = refl
hex_avoids b (x ∷ n) none h =
    let small : x < 256 = ltb-true x 256 (first_so _ _ h) in
    let high : x / 16 < 16 = omega arith in
    let low : x % 16 < 16 = omega arith in
    and_both (no_digit b (x / 16) none high) (and_both (no_digit b (x % 16) none low) (hex_avoids b n none (second_so _ _ h)))

hex_long : (n : Bytes) → is_name n ≡ true → length (hex n) ≡ 40
hex_long n h = (digits-name (hex n) n (digits-read n h)).0

not_inline : (n : Bytes) → is_name n ≡ true → same_bytes (hex n) (codes "inline") ≡ false
not_inline n h =
    let l = hex_long n h in
    elim (same_bytes (hex n) (codes "inline")) as (λ b. same_bytes (hex n) (codes "inline") ≡ b → b ≡ false) [
      | true ↦ λ e. let s : length (hex n) ≡ 6 = ap length ((bytes_decides (hex n) (codes "inline")).0 e) in absurd (omega arith)
      | false ↦ λ e. refl
    ] refl

pub not_colon : (t : Bytes) → avoids 58 t ≡ true → starts_with nat_eq t (codes ":") ≡ false
not_colon [] h = refl
not_colon (x ∷ t) h = let d : nat_eq 58 x ≡ false = swap (first_so _ _ h) in rw d refl
  where
    swap : not (nat_eq x 58) ≡ true → nat_eq 58 x ≡ false
    swap e = grind (arith, nat_tests)

-- ---- what a leaf's line says

abbrev pub ref_text : ℕ → Leaf → Bytes
ref_text k (FileLeaf b) = colon k
ref_text k (ExecLeaf b) = colon k
ref_text k (LinkLeaf b) = colon k
ref_text k (ModuleLeaf n) = hex n

abbrev leaf_data : ℕ → Leaf → DataRef
leaf_data k (FileLeaf b) = datas.Mark k
leaf_data k (ExecLeaf b) = datas.Mark k
leaf_data k (LinkLeaf b) = datas.Mark k
leaf_data k (ModuleLeaf n) = datas.Digits (record { 0 = n })

abbrev pub leaf_blob : ℕ → Leaf → BlobRef
leaf_blob k (FileLeaf b) = blobs.Mark k
leaf_blob k (ExecLeaf b) = blobs.Mark k
leaf_blob k (LinkLeaf b) = blobs.Mark k
leaf_blob k (ModuleLeaf n) = blobs.Digits (record { 0 = n })

-- it can be read: a mark that can be written, or a name that isn't zero
abbrev pub IsReadable : ℕ → Leaf → Type 0
IsReadable k (FileLeaf b) = IsMark k
IsReadable k (ExecLeaf b) = IsMark k
IsReadable k (LinkLeaf b) = IsMark k
IsReadable k (ModuleLeaf n) = (is_name n ≡ true) × (same_bytes n (replicate 20 0) ≡ false)

mark_data : (at k : ℕ) → IsMark k → dataref at (colon k) ≡ Ok (datas.Mark k)
unfolding dataref
mark_data at k h = ap (λ o. or_fault (Syntax at) o >>= λ n. Ok (datas.Mark n)) (mark_again k h.some h.small)

name_data : (at : ℕ) (n : Bytes) → is_name n ≡ true → same_bytes n (replicate 20 0) ≡ false → dataref at (hex n) ≡ Ok (datas.Digits (record { 0 = n }))
unfolding dataref
name_data at n h z =
    ap (λ b. cond b (Ok datas.Inline) (cond (starts_with nat_eq (hex n) (codes ":")) (or_fault (Syntax at) (mark (hex n)) >>= λ n. Ok (datas.Mark n)) (or_fault (Syntax at) (digits_name (hex n)) >>= λ n. some_name at n >>= λ x. Ok (datas.Digits x)))) (not_inline n h)
    ∙ ap (λ b. cond b (or_fault (Syntax at) (mark (hex n)) >>= λ n. Ok (datas.Mark n)) (or_fault (Syntax at) (digits_name (hex n)) >>= λ n. some_name at n >>= λ x. Ok (datas.Digits x))) (not_colon (hex n) (hex_avoids 58 n refl (first_so _ _ h)))
    ∙ ap (λ o. or_fault (Syntax at) o >>= λ n. some_name at n >>= λ x. Ok (datas.Digits x)) (digits-read n h)
    ∙ ap (λ b. cond b (fault (Unsupported at ZeroName)) (Ok (record { 0 = n })) >>= λ x. Ok (datas.Digits x)) z

leaf_datum : (at k : ℕ) (x : Leaf) → IsReadable k x → dataref at (ref_text k x) ≡ Ok (leaf_data k x)
leaf_datum at k (FileLeaf b) h = mark_data at k h
leaf_datum at k (ExecLeaf b) h = mark_data at k h
leaf_datum at k (LinkLeaf b) h = mark_data at k h
leaf_datum at k (ModuleLeaf n) h = name_data at n h.0 h.1

leaf_fits : (at k : ℕ) (x : Leaf) → fitting at (leaf_mode x) (leaf_data k x) ≡ Ok (leaf_data k x)
leaf_fits at k (FileLeaf b) = refl
leaf_fits at k (ExecLeaf b) = refl
leaf_fits at k (LinkLeaf b) = refl
leaf_fits at k (ModuleLeaf n) = refl

digit_space : (x : ℕ) → is_digit x ≡ true → not (nat_eq x 32) ≡ true
digit_space x h = grind (arith, nat_tests)

colon_avoids : (k : ℕ) → IsMark k → avoids 32 (colon k) ≡ true
colon_avoids k h = all_so is_digit (λ x. not (nat_eq x 32)) digit_space (decimal k) (digits_of_number k h.small)

ref_avoids : (k : ℕ) (x : Leaf) → IsReadable k x → avoids 32 (ref_text k x) ≡ true
ref_avoids k (FileLeaf b) h = colon_avoids k h
ref_avoids k (ExecLeaf b) h = colon_avoids k h
ref_avoids k (LinkLeaf b) h = colon_avoids k h
ref_avoids k (ModuleLeaf n) h = hex_avoids 32 n refl (first_so _ _ h.0)

ref_plain : (k : ℕ) (x : Leaf) → IsReadable k x → no_lf (ref_text k x) ≡ true
ref_plain k (FileLeaf b) h = digits_plain k h.small
ref_plain k (ExecLeaf b) h = digits_plain k h.small
ref_plain k (LinkLeaf b) h = digits_plain k h.small
ref_plain k (ModuleLeaf n) h = hex_avoids 10 n refl (first_so _ _ h.0)

ref_word : (k : ℕ) (x : Leaf) (q : Bytes) → IsReadable k x → first_word (ref_text k x ++ 32 ∷ q) ≡ (ref_text k x, Some q)
unfolding first_word
ref_word k x q h = ap (word_by (ref_text k x ++ 32 ∷ q)) (cut-front 32 (ref_text k x) q (ref_avoids k x h))

mode_word : (x : Leaf) (t : Bytes) → first_word (mode_text (leaf_mode x) ++ 32 ∷ t) ≡ (mode_text (leaf_mode x), Some t)
unfolding first_word
mode_word (FileLeaf b) t = refl
mode_word (ExecLeaf b) t = refl
mode_word (LinkLeaf b) t = refl
mode_word (ModuleLeaf n) t = refl

mode_again : (at : ℕ) (x : Leaf) → mode at (mode_text (leaf_mode x)) ≡ Ok (leaf_mode x)
unfolding mode
mode_again at (FileLeaf b) = refl
mode_again at (ExecLeaf b) = refl
mode_again at (LinkLeaf b) = refl
mode_again at (ModuleLeaf n) = refl

-- behind `M` and a space
abbrev pub leaf_text : ℕ → Path → Leaf → Bytes
leaf_text k p x = mode_text (leaf_mode x) ++ 32 ∷ (ref_text k x ++ 32 ∷ quote (text p))

abbrev is_line : ℕ → Path → Leaf → ModifyLine → Type 0
is_line k p x l = l ≡ record { mode = leaf_mode x; blob = leaf_data k x; path = p }

data_says : (at k : ℕ) (p : Path) (x : Leaf) → IsReadable k x → is_path p ≡ true → Says (data_part at (leaf_mode x) (ref_text k x, Some (quote (text p)))) (is_line k p x)
data_says at k p x h v =
    subst (λ (r : Judged DataRef). Says (r >>= λ d. fitting at (leaf_mode x) d >>= λ d. or_fault (Syntax at) (Some (quote (text p))) >>= λ t. last_path at t >>= λ p. Ok (record { mode = leaf_mode x; blob = d; path = p })) (is_line k p x)) (sym (leaf_datum at k x h))
    (subst (λ (r : Judged DataRef). Says (r >>= λ d. or_fault (Syntax at) (Some (quote (text p))) >>= λ t. last_path at t >>= λ p. Ok (record { mode = leaf_mode x; blob = d; path = p })) (is_line k p x)) (sym (leaf_fits at k x))
    (bind_says (last_path at (quote (text p))) (λ p. Ok (record { mode = leaf_mode x; blob = leaf_data k x; path = p })) (λ q. q ≡ p) (is_line k p x) (last_says at p v)
    (λ q e. Said (record { mode = leaf_mode x; blob = leaf_data k x; path = q }) refl (λ i. record { mode = leaf_mode x; blob = leaf_data k x; path = e i }))))

line_says : (at k : ℕ) (p : Path) (x : Leaf) → IsReadable k x → is_path p ≡ true → Says (modify_line at (leaf_text k p x)) (is_line k p x)
unfolding modify_line
line_says at k p x h v =
    subst (λ (w : Bytes × Option Bytes). Says (mode_part at w) (is_line k p x)) (sym (mode_word x (ref_text k x ++ 32 ∷ quote (text p))))
    (subst (λ (r : Judged Mode). Says (r >>= λ m. or_fault (Syntax at) (Some (ref_text k x ++ 32 ∷ quote (text p))) >>= λ t. data_part at m (first_word t)) (is_line k p x)) (sym (mode_again at x))
    (subst (λ (w : Bytes × Option Bytes). Says (data_part at (leaf_mode x) w) (is_line k p x)) (sym (ref_word k x (quote (text p)) h))
    (data_says at k p x h v)))

-- ---- turns within a commit

pub inside_turn : (n : ℕ) (l rest : Bytes) (kind : ChangeLine) (P : Turn → Type 0) (j : Input) → Room n (l ++ 10 ∷ rest) → IsLine l → change_line l ≡ kind →
    ((at : ℕ) → Reads (changed kind at calm true (left n (l ++ 10 ∷ rest)) (left n rest)) P j) → Reads (turn inside true (left n (l ++ 10 ∷ rest))) P j
unfolding turn
inside_turn n l rest kind P j r k e h = by (line_told n l rest r k)
  where
    told : line_at true (left n (l ++ 10 ∷ rest)) ≡ Ok (Some (record { place = n - length (l ++ 10 ∷ rest); bytes = l }), left n rest) →
        turn_in InCommit calm true (left n (l ++ 10 ∷ rest)) ≡ changed kind (n - length (l ++ 10 ∷ rest)) calm true (left n (l ++ 10 ∷ rest)) (left n rest)
    told d =
        ap (λ r. lifted r >>= in_commit_at calm true (left n (l ++ 10 ∷ rest))) d
        ∙ ap (λ c. changed c (n - length (l ++ 10 ∷ rest)) calm true (left n (l ++ 10 ∷ rest)) (left n rest)) e

    by : LineTold n l rest → Reads (turn_in InCommit calm true (left n (l ++ 10 ∷ rest))) P j
    by (LineIs d) = subst (λ r. Reads r P j) (sym (told d)) (h (n - length (l ++ 10 ∷ rest)))
    by (LineLong at d) = Limited at limits.Line (ap (λ r. lifted r >>= in_commit_at calm true (left n (l ++ 10 ∷ rest))) d)

abbrev pub is_change : Change → Command → Type 0
is_change c d = d ≡ commands.Change c

pub changed_reads : (f : Reader Change) (i j : Input) (at : ℕ) (c : Change) → Reads (f true i) (λ d. d ≡ c) j →
    Reads ((f then λ c. gives at InCommit calm (commands.Change c)) true i) (is_command (is_change c) inside) j
changed_reads f i j at c h =
    then_reads f (λ c. gives at InCommit calm (commands.Change c)) i j j (λ d. d ≡ c) (is_command (is_change c) inside) h
    (λ d k. pure_reads (turned (Gives (record { at = at; command = commands.Change d })) InCommit calm) j (is_command (is_change c) inside) (record { at = at; command = commands.Change d }, refl, ap commands.Change k))

pub all_turn : (n : ℕ) (rest : Bytes) → Room n (codes "deleteall" ++ 10 ∷ rest) →
    Reads (turn inside true (left n (codes "deleteall" ++ 10 ∷ rest))) (is_command (is_change changes.DeleteAll) inside) (left n rest)
unfolding change
all_turn n rest r =
    inside_turn n (codes "deleteall") rest DeleteAllIs (is_command (is_change changes.DeleteAll) inside) (left n rest) r (record { plain = refl; seen = refl }) all_again
    (λ at. changed_reads (pure changes.DeleteAll) (left n rest) (left n rest) at changes.DeleteAll (pure_reads changes.DeleteAll (left n rest) (λ d. d ≡ changes.DeleteAll) refl))

pub leaf_line_is : (k : ℕ) (p : Path) (x : Leaf) → IsReadable k x → IsLine (codes "M " ++ leaf_text k p x)
leaf_line_is k p x h = record { plain = all_front plain (mode_text (leaf_mode x)) (32 ∷ (ref_text k x ++ 32 ∷ quote (text p))) (mode_plain x) (all_front plain (ref_text k x) (32 ∷ quote (text p)) (ref_plain k x h) (quote_plain (text p))); seen = refl }
  where
    plain : ℕ → Bool
    plain x = not (nat_eq x 10)

    mode_plain : (x : Leaf) → no_lf (mode_text (leaf_mode x)) ≡ true
    mode_plain (FileLeaf b) = refl
    mode_plain (ExecLeaf b) = refl
    mode_plain (LinkLeaf b) = refl
    mode_plain (ModuleLeaf n) = refl

blob_reads : (k : ℕ) (x : Leaf) (i : Input) → Reads (blob_ref (leaf_data k x) true i) (λ b. b ≡ leaf_blob k x) i
blob_reads k (FileLeaf b) i = Read (blobs.Mark k) refl refl
blob_reads k (ExecLeaf b) i = Read (blobs.Mark k) refl refl
blob_reads k (LinkLeaf b) i = Read (blobs.Mark k) refl refl
blob_reads k (ModuleLeaf n) i = Read (blobs.Digits (record { 0 = n })) refl refl

abbrev pub leaf_change : ℕ → Path → Leaf → Change
leaf_change k p x = changes.Modify (leaf_mode x) (leaf_blob k x) p

modify_reads : (at k : ℕ) (p : Path) (x : Leaf) (i : Input) → IsReadable k x → is_path p ≡ true → Reads (change at (ModifyIs (leaf_text k p x)) true i) (λ d. d ≡ leaf_change k p x) i
unfolding change modify
modify_reads at k p x i h v =
    then_reads (judged (modify_line at (leaf_text k p x))) (λ l. blob_ref l.blob then λ b. pure (changes.Modify l.mode b l.path)) i i i (is_line k p x) (λ d. d ≡ leaf_change k p x)
    (judged_reads (modify_line at (leaf_text k p x)) i (is_line k p x) (line_says at k p x h v))
    (λ l e. subst (λ (l : ModifyLine). Reads ((blob_ref l.blob then λ b. pure (changes.Modify l.mode b l.path)) true i) (λ d. d ≡ leaf_change k p x) i) (sym e)
    (then_reads (blob_ref (leaf_data k x)) (λ b. pure (changes.Modify (leaf_mode x) b p)) i i i (λ b. b ≡ leaf_blob k x) (λ d. d ≡ leaf_change k p x) (blob_reads k x i)
    (λ b g. pure_reads (changes.Modify (leaf_mode x) b p) i (λ d. d ≡ leaf_change k p x) (ap (λ b. changes.Modify (leaf_mode x) b p) g))))

pub leaf_turn : (k : ℕ) (p : Path) (x : Leaf) (n : ℕ) (rest : Bytes) → Room n ((codes "M " ++ leaf_text k p x) ++ 10 ∷ rest) → IsReadable k x → is_path p ≡ true →
    Reads (turn inside true (left n ((codes "M " ++ leaf_text k p x) ++ 10 ∷ rest))) (is_command (is_change (leaf_change k p x)) inside) (left n rest)
leaf_turn k p x n rest r h v =
    inside_turn n (codes "M " ++ leaf_text k p x) rest (ModifyIs (leaf_text k p x)) (is_command (is_change (leaf_change k p x)) inside) (left n rest) r (leaf_line_is k p x h) (modify_again (leaf_text k p x))
    (λ at. changed_reads (change at (ModifyIs (leaf_text k p x))) (left n rest) (left n rest) at (leaf_change k p x) (modify_reads at k p x (left n rest) h v))

-- an empty line ends a commit
pub end_turn : (n : ℕ) (rest : Bytes) → Room n (10 ∷ rest) → Reads (turn inside true (left n (10 ∷ rest))) (is_command (λ c. c ≡ commands.CommitEnd) start) (left n rest)
end_turn n rest r =
    inside_turn n [] rest EmptyIs (is_command (λ c. c ≡ commands.CommitEnd) start) (left n rest) r (record { plain = refl; seen = refl }) empty_again
    (λ at. pure_reads (turned (Gives (record { at = at; command = commands.CommitEnd })) Between calm) (left n rest) (is_command (λ c. c ≡ commands.CommitEnd) start) (record { at = at; command = commands.CommitEnd }, refl, refl))

-- ---- behind the last command

empty_kind : command_line [] ≡ EmptyLine
unfolding command_line
empty_kind = refl

pub skip_turn : (n : ℕ) (rest : Bytes) → Room n (10 ∷ rest) → Reads (turn start true (left n (10 ∷ rest))) (λ t. t ≡ record { event = Skips; progress = start }) (left n rest)
skip_turn n rest r =
    between_turn n [] rest EmptyLine (λ t. t ≡ record { event = Skips; progress = start }) (left n rest) r (record { plain = refl; seen = refl }) empty_kind
    (λ at. pure_reads (turned Skips Between calm) (left n rest) (λ t. t ≡ record { event = Skips; progress = start }) refl)

pub last_turn : (n : ℕ) → Room n [] → turn start true (left n []) ≡ Ok (record { event = Ends; progress = start }, left n [])
unfolding turn
last_turn n r =
    let m = r.most in
    let none : NoLine (left n []) (left n []) = record { comments = []; skips = refl; within = omega arith; nothing = refl } in
    ap (λ r. lifted r >>= between_at calm true) (line_at-none (left n []) (left n []) none)
