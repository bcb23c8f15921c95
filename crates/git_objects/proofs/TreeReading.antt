-- Reading a tree's body gives what it spells, and each spelling is read.
use Rattle.std.proofs.Common.{◌≡◌, ℕ, zero, suc, ◌<◌, ◌≤◌, ◌-◌, Bool, true, false, cond, not, ◌&&◌, List, [], ◌∷◌, ◌++◌, length, take, drop, Option, Some, None, refl, sym, ap, subst, ◌∙◌, nat_eq, arith, append_assoc, length-append, length-take}
use Rattle.std.specs.Prelude.{nat_le, nat_lt, IsSome}
use Rattle.std.specs.Option.{option_map, option_and_then, is_some}
use Rattle.std.specs.List.{list_all}
use Rattle.std.specs.Cmp.{first_so, second_so}
use Rattle.std.specs.Cmp.Lexicographic.{bytes_decides}
use Rattle.std.proofs.lemmas.Bool.{le-leb, leb-true}
use Rattle.std.proofs.lemmas.Bool.Decides.{nat_tests}
use Rattle.std.proofs.lemmas.List.{take-append-drop}
use Rattle.std.proofs.Math.Seq.{take-append_seam, drop-append_seam}
use Rattle.git_objects.specs.Paths.{Bytes, same_bytes, is_bytes, is_component}
use Rattle.git_objects.specs.Names.{line, mode_text}
use Rattle.git_objects.specs.Idents.{cut_at}
use Rattle.git_objects.specs.Entries.{AreEntries, body_text, entry_line}
use Rattle.git_objects.specs.Bodies.{is_name, IsTreeBody, mode_from, target_from, entry_from, entries_within, is_listing, if_listed, tree_entries}
use Rattle.git_objects.specs.Neighbours.{spelled_entries}
use Rattle.git_objects.specs.Laws.{TreeBodyLaw}
use Rattle.git_objects.specs.declared.mode.Mode.{Mode}
use Rattle.git_objects.specs.declared.mode.Mode.TheVariants.{File, Exec, Link, Module, Dir}
use Rattle.git_objects.specs.declared.entry.Entry.{Entry}
use Rattle.git_objects.proofs.Basics.{and_both, plain-component}
use Rattle.git_objects.proofs.IdentSpelling.{cut-spelled, cut-front, cut-avoids, avoids, avoids-from, some_same}
use Rattle.git_objects.proofs.Neighbours.{entries_listing, listing_entries}

-- ---- steps that may fail

pub then_some : {A B : Type 0} (f : A → Option B) (o : Option A) (y : B) → option_and_then f o ≡ Some y → (x : A) × (o ≡ Some x) × (f x ≡ Some y)
then_some f None y e = cc
then_some f (Some x) y e = (x, refl, e)

pub map_some : {A B : Type 0} (f : A → B) (o : Option A) (y : B) → option_map f o ≡ Some y → (x : A) × (o ≡ Some x) × (f x ≡ y)
map_some f None y e = cc
map_some f (Some x) y e = (x, refl, some_same _ _ e)

pub cond_some : {A : Type 0} (v : Bool) (x y : A) → cond v (Some x) None ≡ Some y → (v ≡ true) × (x ≡ y)
cond_some true x y e = (refl, some_same _ _ e)
cond_some false x y e = cc

-- ---- modes

same_text : (t u : Bytes) → same_bytes t u ≡ true → u ≡ t
same_text t u e = sym ((bytes_decides t u).0 e)

pick : (t u : Bytes) (m n : Mode) (o : Option Mode) → mode_text m ≡ u → (o ≡ Some n → mode_text n ≡ t) → cond (same_bytes t u) (Some m) o ≡ Some n → mode_text n ≡ t
pick t u m n o e h g =
    elim (same_bytes t u) as (λ v. same_bytes t u ≡ v → cond v (Some m) o ≡ Some n → mode_text n ≡ t) [
      | true ↦ λ s f. ap mode_text (sym (some_same _ _ f)) ∙ e ∙ same_text t u s
      | false ↦ λ s f. h f
    ] refl g

mode-spelled : (t : Bytes) (m : Mode) → mode_from t ≡ Some m → mode_text m ≡ t
mode-spelled t m =
    pick t (mode_text File) File m _ refl
    (pick t (mode_text Exec) Exec m _ refl
    (pick t (mode_text Link) Link m _ refl
    (pick t (mode_text Module) Module m _ refl
    (pick t (mode_text Dir) Dir m None refl (λ e. cc)))))

mode-read : (m : Mode) → mode_from (mode_text m) ≡ Some m
mode-read File = refl
mode-read Exec = refl
mode-read Link = refl
mode-read Module = refl
mode-read Dir = refl

mode-32 : (m : Mode) → avoids 32 (mode_text m) ≡ true
mode-32 File = refl
mode-32 Exec = refl
mode-32 Link = refl
mode-32 Module = refl
mode-32 Dir = refl

-- ---- one entry

pub line-rest : (m : Mode) (c n r : Bytes) → line m c n ++ r ≡ mode_text m ++ 32 ∷ (c ++ 0 ∷ (n ++ r))
unfolding line
line-rest m c n r = simp append_assoc

-- so many bytes at least
long : (n : ℕ) (t : Bytes) → nat_le n (length t) ≡ true → length (take n t) ≡ n
long n t h = omega (arith, length-take n t, leb-true n (length t) h)

pub entry-spelled : (b : Bytes) (e : Entry) (r : Bytes) → entry_from b ≡ Some (e, r) → (b ≡ entry_line e ++ r) × (length e.name.0 ≡ 20) × (avoids 0 e.component ≡ true)
entry-spelled b e r h =
    let s = then_some (λ (s : Bytes × Bytes). option_and_then (λ m. option_and_then (target_from m) (cut_at 0 s.1)) (mode_from s.0)) (cut_at 32 b) (e, r) h in
    let m = then_some (λ (m : Mode). option_and_then (target_from m) (cut_at 0 s.0.1)) (mode_from s.0.0) (e, r) s.2 in
    let k = then_some (target_from m.0) (cut_at 0 s.0.1) (e, r) m.2 in
    let made : Entry = record { mode = m.0; component = k.0.0; name = record { 0 = take 20 k.0.1 } } in
    let c = cond_some (nat_le 20 (length k.0.1)) (made, drop 20 k.0.1) (e, r) k.2 in
    let same : made ≡ e = ap (λ (p : Entry × Bytes). p.0) c.1 in
    let rest : drop 20 k.0.1 ≡ r = ap (λ (p : Entry × Bytes). p.1) c.1 in
    let text : b ≡ entry_line made ++ drop 20 k.0.1 =
    cut-spelled 32 b s.0.0 s.0.1 s.1
    ∙ ap (λ (t : Bytes). t ++ 32 ∷ s.0.1) (sym (mode-spelled s.0.0 m.0 m.1))
    ∙ ap (λ (t : Bytes). mode_text m.0 ++ 32 ∷ t) (cut-spelled 0 s.0.1 k.0.0 k.0.1 k.1)
    ∙ ap (λ (t : Bytes). mode_text m.0 ++ 32 ∷ (k.0.0 ++ 0 ∷ t)) (sym (take-append-drop 20 k.0.1))
    ∙ sym (line-rest m.0 k.0.0 (take 20 k.0.1) (drop 20 k.0.1)) in (
      text ∙ (λ i. entry_line (same i) ++ rest i),
      ap (λ (x : Entry). length x.name.0) (sym same) ∙ long 20 k.0.1 c.0,
      ap (λ (x : Entry). avoids 0 x.component) (sym same) ∙ cut-avoids 0 s.0.1 k.0.0 k.0.1 k.1,
    )

target-read : (m : Mode) (c n r : Bytes) → length n ≡ 20 → target_from m (c, n ++ r) ≡ Some (record { mode = m; component = c; name = record { 0 = n } }, r)
target-read m c n r e =
    let enough : nat_le 20 (length (n ++ r)) ≡ true = le-leb 20 (length (n ++ r)) (omega (arith, length-append n r)) in
    let front : take 20 (n ++ r) ≡ n = subst (λ k. take k (n ++ r) ≡ n) e (take-append_seam n r) in
    let back : drop 20 (n ++ r) ≡ r = subst (λ k. drop k (n ++ r) ≡ r) e (drop-append_seam n r) in
    λ i. cond (enough i) (Some (record { mode = m; component = c; name = record { 0 = front i } }, back i)) None

pub entry-read : (e : Entry) (r : Bytes) → avoids 0 e.component ≡ true → length e.name.0 ≡ 20 → entry_from (entry_line e ++ r) ≡ Some (e, r)
entry-read e r c n =
    ap entry_from (line-rest e.mode e.component e.name.0 r)
    ∙ ap (option_and_then (λ (s : Bytes × Bytes). option_and_then (λ m. option_and_then (target_from m) (cut_at 0 s.1)) (mode_from s.0))) (cut-front 32 (mode_text e.mode) (e.component ++ 0 ∷ (e.name.0 ++ r)) (mode-32 e.mode))
    ∙ ap (option_and_then (λ (m : Mode). option_and_then (target_from m) (cut_at 0 (e.component ++ 0 ∷ (e.name.0 ++ r))))) (mode-read e.mode)
    ∙ ap (option_and_then (target_from e.mode)) (cut-front 0 e.component (e.name.0 ++ r) c)
    ∙ target-read e.mode e.component e.name.0 r n

module _ (b d : Bytes) (e : Entry) (r : Bytes) (first : entry_from b ≡ Some (e, r)) where
  -- the bytes that a first entry takes
  abbrev taken : Bytes
  taken = take (length b - length r) b

  taken-line : taken ≡ entry_line e
  taken-line =
      let k = entry-spelled b e r first in
      let size : length b - length r ≡ length (entry_line e) = omega (arith, ap length k.0, length-append (entry_line e) r) in
      (λ i. take (size i) (k.0 i)) ∙ take-append_seam (entry_line e) r

  -- what begins with these bytes has this entry first
  pub same-first : (s : Bytes) → same_bytes (take (length taken) d) taken ≡ true → s ≡ drop (length taken) d → entry_from d ≡ Some (e, s)
  same-first s f g =
      let k = entry-spelled b e r first in
      let whole : d ≡ taken ++ s = sym (take-append-drop (length taken) d) ∙ (λ i. (bytes_decides (take (length taken) d) taken).0 f i ++ sym g i) in
      ap entry_from (whole ∙ ap (λ (t : Bytes). t ++ s) taken-line) ∙ entry-read e s k.2 k.1

  -- and the other way round
  pub same-taken : (s : Bytes) → entry_from d ≡ Some (e, s) → same_bytes (take (length taken) d) taken ≡ true
  same-taken s f =
      (bytes_decides (take (length taken) d) taken).1
      ((λ i. take (length (taken-line i)) ((entry-spelled d e s f).0 i)) ∙ take-append_seam (entry_line e) s ∙ sym taken-line)

line-some : (e : Entry) (r : Bytes) → length r < length (entry_line e ++ r)
line-some e r =
    let l = length-append (mode_text e.mode) (32 ∷ (e.component ++ 0 ∷ (e.name.0 ++ r))) in
    let k = length-append e.component (0 ∷ (e.name.0 ++ r)) in
    let j = length-append e.name.0 r in
    let t = ap length (line-rest e.mode e.component e.name.0 r) in
    omega arith

pub entry-shorter : (b : Bytes) (p : Entry × Bytes) → entry_from b ≡ Some p → length p.1 < length b
entry-shorter b p h = subst (λ (t : Bytes). length p.1 < length t) (sym (entry-spelled b p.0 p.1 h).0) (line-some p.0 p.1)

-- ---- all entries

-- with more turns than bytes, the number of turns doesn't matter
again_same : (n m : ℕ) → ((b : Bytes) → length b ≤ n → length b ≤ m → entries_within n b ≡ entries_within m b) → (x : ℕ) (b : Bytes) (o : Option (Entry × Bytes)) → entry_from (x ∷ b) ≡ o → length b ≤ n → length b ≤ m
    → option_and_then (λ (r : Entry × Bytes). option_map (λ es. r.0 ∷ es) (entries_within n r.1)) o ≡ option_and_then (λ (r : Entry × Bytes). option_map (λ es. r.0 ∷ es) (entries_within m r.1)) o
again_same n m h x b None e p q = refl
again_same n m h x b (Some r) e p q =
    let less : length r.1 < length (x ∷ b) = entry-shorter (x ∷ b) r e in
    ap (option_map (λ (es : List Entry). r.0 ∷ es)) (h r.1 (omega arith) (omega arith))

pub enough_turns : (n m : ℕ) (b : Bytes) → length b ≤ n → length b ≤ m → entries_within n b ≡ entries_within m b
enough_turns n m [] p q = nothing n ∙ sym (nothing m)
  where
    nothing : (k : ℕ) → entries_within k [] ≡ Some []
    nothing zero = refl
    nothing (suc k) = refl
enough_turns zero m (x ∷ b) p q = absurd (omega arith)
enough_turns (suc n) zero (x ∷ b) p q = absurd (omega arith)
enough_turns (suc n) (suc m) (x ∷ b) p q =
    again_same n m (enough_turns n m) x b (entry_from (x ∷ b)) refl (omega arith) (omega arith)

-- entry after entry
pub spelled-entry : (b : Bytes) (e : Entry) (r : Bytes) → entry_from b ≡ Some (e, r) → spelled_entries b ≡ option_map (λ es. e ∷ es) (spelled_entries r)
spelled-entry [] e r h = cc
spelled-entry (x ∷ b) e r h =
    let less : length r < length (x ∷ b) = entry-shorter (x ∷ b) (e, r) h in
    ap (option_and_then (λ (r : Entry × Bytes). option_map (λ (es : List Entry). r.0 ∷ es) (entries_within (length b) r.1))) h
    ∙ ap (option_map (λ (es : List Entry). e ∷ es)) (enough_turns (length b) (length r) r (omega arith) (omega arith))

pub spelled-none : (b : Bytes) → 0 < length b → entry_from b ≡ None → spelled_entries b ≡ None
spelled-none [] p h = absurd (omega arith)
spelled-none (x ∷ b) p h = ap (option_and_then (λ (r : Entry × Bytes). option_map (λ (es : List Entry). r.0 ∷ es) (entries_within (length b) r.1))) h

abbrev names_long : List Entry → Bool
names_long es = list_all (λ e. nat_eq (length e.name.0) 20) es

eq_20 : (k : ℕ) → k ≡ 20 → nat_eq k 20 ≡ true
eq_20 k e = ap (λ j. nat_eq j 20) e

spelled_within : (n : ℕ) (b : Bytes) (es : List Entry) → entries_within n b ≡ Some es → (body_text es ≡ b) × (names_long es ≡ true)
spelled_within zero [] es h = let e : [] ≡ es = some_same _ _ h in (ap body_text (sym e), ap names_long (sym e))
spelled_within (suc n) [] es h = let e : [] ≡ es = some_same _ _ h in (ap body_text (sym e), ap names_long (sym e))
spelled_within zero (x ∷ b) es h = cc
spelled_within (suc n) (x ∷ b) es h =
    let r = then_some (λ (r : Entry × Bytes). option_map (λ (ds : List Entry). r.0 ∷ ds) (entries_within n r.1)) (entry_from (x ∷ b)) es h in
    let d = map_some (λ (ds : List Entry). r.0.0 ∷ ds) (entries_within n r.0.1) es r.2 in
    let s = entry-spelled (x ∷ b) r.0.0 r.0.1 r.1 in
    let k = spelled_within n r.0.1 d.0 d.1 in
    let text : body_text (r.0.0 ∷ d.0) ≡ x ∷ b = ap (λ (t : Bytes). entry_line r.0.0 ++ t) k.0 ∙ sym s.0 in
    let long : names_long (r.0.0 ∷ d.0) ≡ true = and_both (eq_20 (length r.0.0.name.0) s.1) k.1 in
    (ap body_text (sym d.2) ∙ text, ap names_long (sym d.2) ∙ long)

plain-0 : (c : Bytes) → is_component c ≡ true → avoids 0 c ≡ true
plain-0 c h = avoids-from 0 (λ x. not (nat_eq x 0) && not (nat_eq x 47)) (λ x e. first_so _ _ e) c (plain-component c h)

eq_of : (k : ℕ) → nat_eq k 20 ≡ true → k ≡ 20
eq_of k e = grind (arith, nat_tests)

abbrev components : List Entry → Bool
components es = list_all (λ e. is_component e.component) es

entries_components : (es : List Entry) → AreEntries es → components es ≡ true
entries_components [] h = refl
entries_components (e ∷ es) h = and_both h.0 (entries_components es h.2)

-- entries in whatever order are read as they are spelled
pub read_spelled : (es : List Entry) → components es ≡ true → list_all (λ e. is_name e.name.0) es ≡ true → spelled_entries (body_text es) ≡ Some es
read_spelled [] h k = refl
read_spelled (e ∷ es) h k =
    spelled-entry (body_text (e ∷ es)) e (body_text es) (entry-read e (body_text es) (plain-0 e.component (first_so _ _ h)) (eq_of (length e.name.0) (second_so _ _ (first_so _ _ k))))
    ∙ ap (option_map (λ (ds : List Entry). e ∷ ds)) (read_spelled es (second_so _ _ h) (second_so _ _ k))

-- and where they are read as a body, they are in order
listed_cond : (es : List Entry) → is_some (if_listed es) ≡ true → is_listing es ≡ true
listed_cond es = elim (is_listing es) as (λ v. is_some (cond v (Some es) None) ≡ true → v ≡ true) [ true ↦ λ e. refl | false ↦ λ e. e ]

pub read_entries : (es : List Entry) → components es ≡ true → list_all (λ e. is_name e.name.0) es ≡ true → IsSome (tree_entries (body_text es)) → AreEntries es
unfolding tree_entries
read_entries es h k s = listing_entries es (listed_cond es (ap (λ o. is_some (option_and_then if_listed o)) (sym (read_spelled es h k)) ∙ s))

-- ---- the law

-- bytes within a body
bytes_first : (a b : Bytes) → is_bytes (a ++ b) ≡ true → is_bytes a ≡ true
bytes_first [] b h = refl
bytes_first (x ∷ a) b h = and_both (first_so _ _ h) (bytes_first a b (second_so _ _ h))

bytes_second : (a b : Bytes) → is_bytes (a ++ b) ≡ true → is_bytes b ≡ true
bytes_second [] b h = h
bytes_second (x ∷ a) b h = bytes_second a b (second_so _ _ h)

line_name : (e : Entry) → is_bytes (entry_line e) ≡ true → is_bytes e.name.0 ≡ true
unfolding line
line_name e h = second_so (nat_lt 0 256) (is_bytes e.name.0) (bytes_second (mode_text e.mode ++ (32 ∷ e.component)) (0 ∷ e.name.0) h)

names_bytes : (es : List Entry) → is_bytes (body_text es) ≡ true → names_long es ≡ true → list_all (λ e. is_name e.name.0) es ≡ true
names_bytes [] h k = refl
names_bytes (e ∷ es) h k =
    and_both (and_both (line_name e (bytes_first (entry_line e) (body_text es) h)) (first_so _ _ k)) (names_bytes es (bytes_second (entry_line e) (body_text es) h) (second_so _ _ k))

pub read_text : (b : Bytes) (es : List Entry) → tree_entries b ≡ Some es → body_text es ≡ b
unfolding tree_entries
read_text b es h =
    let d = then_some if_listed (spelled_entries b) es h in
    let c = cond_some (is_listing d.0) d.0 es d.2 in
    ap body_text (sym c.1) ∙ (spelled_within (length b) b d.0 d.1).0

read_law : (b : Bytes) (es : List Entry) → is_bytes b ≡ true → tree_entries b ≡ Some es → IsTreeBody es b
unfolding tree_entries
read_law b es bytes h =
    let d = then_some if_listed (spelled_entries b) es h in
    let c = cond_some (is_listing d.0) d.0 es d.2 in
    let s = spelled_within (length b) b d.0 d.1 in
    let text : body_text es ≡ b = read_text b es h in
    let listed : is_listing es ≡ true = ap is_listing (sym c.1) ∙ c.0 in
    let long : names_long es ≡ true = ap names_long (sym c.1) ∙ s.1 in
    record {
      entries = listing_entries es listed;
      names = names_bytes es (ap is_bytes text ∙ bytes) long;
      spelled = text;
    }

pub spelled_law : (b : Bytes) (es : List Entry) → IsTreeBody es b → tree_entries b ≡ Some es
unfolding tree_entries
spelled_law b es h =
    ap (λ t. option_and_then if_listed (spelled_entries t)) (sym h.spelled)
    ∙ ap (option_and_then if_listed) (read_spelled es (entries_components es h.entries) h.names)
    ∙ ap (λ v. cond v (Some es) None) (entries_listing es h.entries)

pub tree_law : TreeBodyLaw
tree_law b es bytes = (read_law b es bytes, spelled_law b es)
