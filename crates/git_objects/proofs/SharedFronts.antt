-- The entries whose lines end within a front that two bodies of trees share.
use Rattle.std.proofs.Common.{◌≡◌, ℕ, ◌+◌, ◌-◌, ◌<◌, ◌≤◌, true, List, [], ◌∷◌, ◌++◌, length, take, drop, Option, Some, None, refl, sym, ap, ◌∙◌, true≢false, arith, append_assoc, length-append, length-take, length-drop}
use Rattle.std.specs.Prelude.{unwrap_or}
use Rattle.std.specs.Cmp.Lexicographic.{bytes_decides}
use Rattle.std.specs.Option.{is_some}
use Rattle.std.proofs.lemmas.List.{take-append-drop, take-take, drop-take}
use Rattle.std.proofs.Math.Seq.{drop-append_seam}
use Rattle.git_objects.specs.Paths.{Bytes}
use Rattle.git_objects.specs.Names.{mode_text}
use Rattle.git_objects.specs.Idents.{cut_at}
use Rattle.git_objects.specs.Entries.{entry_line}
use Rattle.git_objects.specs.Bodies.{entry_from, tree_entries}
use Rattle.git_objects.specs.SharedFronts.{SharesFront}
use Rattle.git_objects.specs.declared.mode.Mode.{Mode}
use Rattle.git_objects.specs.declared.mode.Mode.TheVariants.{File, Exec, Link, Module, Dir}
use Rattle.git_objects.specs.declared.entry.Entry.{Entry}
use Rattle.git_objects.proofs.IdentSpelling.{cut-front, cut-spelled, avoids, some_same}
use Rattle.git_objects.proofs.TreeReading.{line-rest, entry-spelled, same-first}
use Rattle.git_objects.proofs.TreeViews.{tree_next, tree_none}

-- ---- where the first entry ends

-- from the seventh byte on, the first zero byte is the one behind the component
behind_mode : (m : Mode) (c t : Bytes) → avoids 0 c ≡ true → (w : Bytes) × (drop 6 (mode_text m ++ 32 ∷ (c ++ 0 ∷ t)) ≡ w ++ 0 ∷ t) × (avoids 0 w ≡ true)
behind_mode File c t h = (32 ∷ c, refl, h)
behind_mode Exec c t h = (32 ∷ c, refl, h)
behind_mode Link c t h = (32 ∷ c, refl, h)
behind_mode Module c t h = (32 ∷ c, refl, h)
behind_mode Dir c t h = (c, refl, h)

pub line_end : (b u v : Bytes) (e : Entry) (r : Bytes) → entry_from b ≡ Some (e, r) → cut_at 0 (drop 6 b) ≡ Some (u, v) → r ≡ drop (length b - length v + 20) b
line_end b u v e r h k =
    let s = entry-spelled b e r h in
    let whole : b ≡ mode_text e.mode ++ 32 ∷ (e.component ++ 0 ∷ (e.name.0 ++ r)) = s.0 ∙ line-rest e.mode e.component e.name.0 r in
    let w = behind_mode e.mode e.component (e.name.0 ++ r) s.2 in
    let there : Some (u, v) ≡ Some (w.0, e.name.0 ++ r) =
    sym k ∙ ap (λ (t : Bytes). cut_at 0 (drop 6 t)) whole ∙ ap (cut_at 0) w.1 ∙ cut-front 0 w.0 (e.name.0 ++ r) w.2 in
    let behind : v ≡ e.name.0 ++ r = ap (λ (p : Bytes × Bytes). p.1) (some_same (u, v) (w.0, e.name.0 ++ r) there) in
    let long : length b ≡ length (mode_text e.mode) + (1 + (length e.component + (1 + (length e.name.0 + length r)))) =
    omega (arith, ap length whole, length-append (mode_text e.mode) (32 ∷ (e.component ++ 0 ∷ (e.name.0 ++ r))), length-append e.component (0 ∷ (e.name.0 ++ r)), length-append e.name.0 r) in
    let size : length b - length v + 20 ≡ length (entry_line e) =
    omega (arith, long, ap length s.0, length-append (entry_line e) r, ap length behind, length-append e.name.0 r, s.1) in
    sym ((λ i. drop (size i) (s.0 i)) ∙ drop-append_seam (entry_line e) r)

pub cut_shorter : (n : ℕ) (b u v : Bytes) → cut_at 0 (drop n b) ≡ Some (u, v) → length v ≤ length b
cut_shorter n b u v k =
    omega (arith, ap length (cut-spelled 0 (drop n b) u v k), length-append u (0 ∷ v), length-drop n b)

-- ---- an entry that ends within the front

-- the entries of a tree's bytes, none where they are no tree's
abbrev pub listed : Bytes → List Entry
listed b = unwrap_or (tree_entries b) []

-- n bytes are passed, which spell one entry
abbrev pub Passes : Bytes → Bytes → ℕ → Type 0
Passes x y n = (e : Entry) × (listed x ≡ e ∷ listed (drop n x)) × (listed y ≡ e ∷ listed (drop n y)) × (is_some (tree_entries (drop n x)) ≡ true) × (is_some (tree_entries (drop n y)) ≡ true)

abbrev of_list : Option (List Entry) → List Entry
of_list o = unwrap_or o []

pub passes_line : (x y : Bytes) (n front : ℕ) → is_some (tree_entries x) ≡ true → is_some (tree_entries y) ≡ true → 0 < n → n ≤ front → front ≤ length x → take front x ≡ take front y
    → ((e : Entry) (r : Bytes) → entry_from x ≡ Some (e, r) → r ≡ drop n x) → Passes x y n
passes_line x y n front hx hy p q l same ends = by (entry_from x) refl
  where
    by : (o : Option (Entry × Bytes)) → entry_from x ≡ o → Passes x y n
    by None f = absurd (true≢false (sym hx ∙ tree_none x (omega arith) f))
    by (Some f) g =
        let first : entry_from x ≡ Some (f.0, drop n x) = g ∙ ap (λ (r : Bytes). Some (f.0, r)) (ends f.0 f.1 g) in
        let size : length x - length (drop n x) ≡ n = omega (arith, length-drop n x) in
        let line : Bytes = take (length x - length (drop n x)) x in
        let taken : line ≡ take n x = ap (λ (k : ℕ). take k x) size in
        let long : length line ≡ n = ap length taken ∙ omega (arith, length-take n x) in
        let fronts : take n y ≡ take n x = sym (take-take n front y q) ∙ sym (ap (take n) same) ∙ take-take n front x q in
        let other : entry_from y ≡ Some (f.0, drop n y) =
        same-first x y f.0 (drop n x) first (drop n y) ((bytes_decides (take (length line) y) line).1 (ap (λ (k : ℕ). take k y) long ∙ fronts ∙ sym taken)) (ap (λ (k : ℕ). drop k y) (sym long)) in
        let one = tree_next x f.0 (drop n x) first hx in
        let two = tree_next y f.0 (drop n y) other hy in (
          f.0,
          ap of_list one.1 ∙ ap (λ (es : List Entry). f.0 ∷ es) (sym (ap of_list one.2)),
          ap of_list two.1 ∙ ap (λ (es : List Entry). f.0 ∷ es) (sym (ap of_list two.2)),
          ap is_some one.2,
          ap is_some two.2,
        )

pub shares_more : (a b x y : Bytes) (n : ℕ) → SharesFront a b x y → Passes x y n → SharesFront a b (drop n x) (drop n y)
shares_more a b x y n h p = record {
  entries = h.entries ++ p.0 ∷ [];
  first = h.first ∙ ap (λ (es : List Entry). h.entries ++ es) p.1 ∙ sym (append_assoc h.entries (p.0 ∷ []) (listed (drop n x)));
  second = h.second ∙ ap (λ (es : List Entry). h.entries ++ es) p.2 ∙ sym (append_assoc h.entries (p.0 ∷ []) (listed (drop n y)));
  first_left = p.3;
  second_left = p.4;
}

-- ---- the front

take_two : (n m : ℕ) (a : Bytes) → take (n + m) a ≡ take n a ++ take m (drop n a)
take_two n m a = sym (take-append-drop n (take (n + m) a)) ∙ (λ i. take-take n (n + m) a (omega arith) i ++ drop-take n m a i)

pub fronts_more : (n m : ℕ) (a b : Bytes) → take n a ≡ take n b → take m (drop n a) ≡ take m (drop n b) → take (n + m) a ≡ take (n + m) b
fronts_more n m a b h k = take_two n m a ∙ (λ i. h i ++ k i) ∙ sym (take_two n m b)

pub fronts_left : (n left : ℕ) (x y : Bytes) → n ≤ left → take left x ≡ take left y → take (left - n) (drop n x) ≡ take (left - n) (drop n y)
fronts_left n left x y p h =
    let whole : n + (left - n) ≡ left = omega arith in
    sym (drop-take n (left - n) x) ∙ ap (drop n) ((λ i. take (whole i) x) ∙ h ∙ (λ i. take (sym whole i) y)) ∙ drop-take n (left - n) y
