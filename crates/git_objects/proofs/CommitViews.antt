-- What is seen of a commit's body, line by line.
use Rattle.std.proofs.Common.{◌≡◌, ℕ, zero, suc, ◌+◌, ◌-◌, ◌*◌, ◌<◌, ◌≤◌, Bool, true, false, cond, ◌&&◌, List, [], ◌∷◌, ◌++◌, length, take, drop, get_or, map, Option, Some, None, refl, sym, ap, subst, ◌∙◌, nat_eq, arith, append_assoc, append-nil, length-take, length-drop}
use Rattle.std.specs.Prelude.{codes, unwrap_or, slice_get, MatchOption}
use Rattle.std.specs.Borrow.{Bor}
use Rattle.std.specs.Option.{option_map, option_and_then}
use Rattle.std.specs.List.{list_all}
use Rattle.std.specs.Cmp.{first_so, second_so}
use Rattle.std.proofs.lemmas.List.{drop-drop, take_more, map-append}
use Rattle.std.proofs.Math.Seq.{take-append_seam, drop-append-add}
use Rattle.git_objects.specs.Paths.{Bytes, same_bytes}
use Rattle.git_objects.specs.Idents.{cut_at}
use Rattle.git_objects.specs.Bodies.{is_name}
use Rattle.git_objects.specs.Commits.{Commit, Letter, field, hex}
use Rattle.git_objects.specs.CommitBodies.{digits_name, strip, field_from, name_field, letter_from, more_parent, is_parent, without_parents, rest_from, commit_from}
use Rattle.git_objects.specs.Parts.{name_bytes}
use Rattle.git_objects.specs.declared.name.Name.{Name}
use Rattle.git_objects.specs.ParentLines.{parent_name, parents_at, with_parents}
use Rattle.git_objects.proofs.Basics.{and_both}
use Rattle.git_objects.proofs.IdentSpelling.{some_same}
use Rattle.git_objects.proofs.CommitReading.{digits-name, digits-read, name_field-spelled}

-- ---- words in front

pub strip-by_take : (word text : Bytes) → cond (same_bytes (take (length word) text) word) (Some (drop (length word) text)) None ≡ strip word text
strip-by_take [] text = refl
strip-by_take (w ∷ word) [] = refl
strip-by_take (w ∷ word) (x ∷ text) =
    elim (nat_eq x w) as (λ v. cond (v && same_bytes (take (length word) text) word) (Some (drop (length word) text)) None ≡ cond v (strip word text) None) [ true ↦ strip-by_take word text | false ↦ refl ]

strip_append_by : (v : Bool) (word more text : Bytes) → strip (word ++ more) text ≡ option_and_then (strip more) (strip word text) → cond v (strip (word ++ more) text) None ≡ option_and_then (strip more) (cond v (strip word text) None)
strip_append_by true word more text e = e
strip_append_by false word more text e = refl

strip-append : (word more text : Bytes) → strip (word ++ more) text ≡ option_and_then (strip more) (strip word text)
strip-append [] more text = refl
strip-append (w ∷ word) more [] = refl
strip-append (w ∷ word) more (x ∷ text) = strip_append_by (nat_eq x w) word more text (strip-append word more text)

pub field_steps : (word text : Bytes) → field_from word text ≡ option_and_then (cut_at 10) (option_and_then (strip (32 ∷ [])) (strip word text))
field_steps word text = ap (option_and_then (cut_at 10)) (strip-append word (32 ∷ []) text)

pub strip_matched : (word text : Bytes) (r : Option (Bor Bytes)) → MatchOption r (same_bytes (take (length word) text) word ≡ false) (λ x. (same_bytes (take (length word) text) word ≡ true) × (x.now ≡ drop (length word) text) × (length x.now + length word ≡ length text)) → option_map (λ r. r.now) r ≡ strip word text
strip_matched word text None h = sym (ap (λ v. cond v (Some (drop (length word) text)) None) h) ∙ strip-by_take word text
strip_matched word text (Some x) h = ap Some h.1 ∙ sym (ap (λ v. cond v (Some (drop (length word) text)) None) h.0) ∙ strip-by_take word text

-- ---- lines of parents

abbrev pub prepended : List Bytes → Option (List Bytes × Letter) → Option (List Bytes × Letter)
prepended ps o = option_map (λ r. (ps ++ r.0, r.1)) o

prepended_more : (ps : List Bytes) (n : Bytes) (o : Option (List Bytes × Letter)) → prepended ps (more_parent n o) ≡ prepended (ps ++ n ∷ []) o
prepended_more ps n None = refl
prepended_more ps n (Some r) = ap (λ (qs : List Bytes). let made : List Bytes × Letter = (qs, r.1) in Some made) (sym (append_assoc ps (n ∷ []) r.0))

prepended_last : (ps : List Bytes) (o : Option Letter) → prepended ps (with_parents [] o) ≡ with_parents ps o
prepended_last ps None = refl
prepended_last ps (Some l) = ap (λ (qs : List Bytes). let made : List Bytes × Letter = (qs, l) in Some made) (append-nil ps)

pub prepended_none : (o : Option (List Bytes × Letter)) → prepended [] o ≡ o
prepended_none None = refl
prepended_none (Some r) = refl

-- a line of a parent has 48 bytes, and its name's digits stand in place
hex_long : (n : Bytes) → is_name n ≡ true → length (hex n) ≡ 40
hex_long n h = (digits-name (hex n) n (digits-read n h)).0

line_rest : (n r : Bytes) → is_name n ≡ true → drop 48 (field (codes "parent") (hex n) r) ≡ r
line_rest n r h =
    subst (λ k. drop (k + 1) (hex n ++ 10 ∷ r) ≡ r) (hex_long n h) (drop-append-add (hex n) (10 ∷ r) 1)

line_name : (n r : Bytes) → is_name n ≡ true → parent_name (field (codes "parent") (hex n) r) ≡ n
line_name n r h =
    ap (λ (t : Bytes). unwrap_or (digits_name t) []) (subst (λ k. take k (hex n ++ 10 ∷ r) ≡ hex n) (hex_long n h) (take-append_seam (hex n) (10 ∷ r)))
    ∙ ap (λ (o : Option Bytes). unwrap_or o []) (digits-read n h)

pub parents_more : (k : ℕ) (b : Bytes) → parents_at (k + 1) b ≡ parents_at k b ++ parent_name (drop (48 * k) b) ∷ []
parents_more zero b = refl
parents_more (suc k) b =
    let next : suc k + 1 ≡ suc (k + 1) = omega arith in
    let far : 48 + 48 * k ≡ 48 * suc k = omega arith in
    ap (λ (j : ℕ). parents_at j b) next
    ∙ ap (λ (ps : List Bytes). parent_name b ∷ ps) (parents_more k (drop 48 b))
    ∙ ap (λ (t : Bytes). parent_name b ∷ (parents_at k (drop 48 b) ++ parent_name t ∷ [])) (drop-drop (48 * k) 48 b ∙ ap (λ (j : ℕ). drop j b) far)

-- so many lines of parents were read, and this is left
pub record Passed (k : ℕ) (text rest : Bytes) : Type 0 where
  pub few : k ≤ 16
  pub left : rest ≡ drop (48 * k) text
  pub named : list_all is_name (parents_at k text) ≡ true
  pub same : rest_from 16 text ≡ prepended (parents_at k text) (rest_from (16 - k) rest)

pub passed_none : (text : Bytes) → Passed 0 text text
passed_none text = record { few = omega arith; left = refl; named = refl; same = sym (prepended_none (rest_from 16 text)) }

pub names_push : (ps : List Bytes) (n : Bytes) → list_all is_name ps ≡ true → is_name n ≡ true → list_all is_name (ps ++ n ∷ []) ≡ true
names_push [] n h k = and_both k refl
names_push (p ∷ ps) n h k = and_both (first_so _ _ h) (names_push ps n (second_so _ _ h) k)

abbrev line_read : ℕ → Bytes × Bytes → Option (List Bytes × Letter)
line_read k r = more_parent r.0 (rest_from k r.1)

one_more : (k : ℕ) (rest : Bytes) → k < 16 → is_parent rest ≡ true → rest_from (16 - k) rest ≡ option_and_then (line_read (16 - (k + 1))) (name_field (codes "parent") rest)
one_more k rest lt p =
    let turns : 16 - k ≡ suc (16 - (k + 1)) = omega arith in
    ap (λ (j : ℕ). rest_from j rest) turns
    ∙ ap (λ v. cond v (option_and_then (line_read (16 - (k + 1))) (name_field (codes "parent") rest)) (without_parents rest)) p

pub passed_more : (k : ℕ) (text rest n after : Bytes) → Passed k text rest → k < 16 → is_parent rest ≡ true → name_field (codes "parent") rest ≡ Some (n, after) → Passed (k + 1) text after
passed_more k text rest n after h lt p e =
    let s = name_field-spelled (codes "parent") rest n after e in
    let here : parent_name (drop (48 * k) text) ≡ n = ap parent_name (sym h.left ∙ s.0) ∙ line_name n after s.1 in
    let all : parents_at (k + 1) text ≡ parents_at k text ++ n ∷ [] = parents_more k text ∙ ap (λ (m : Bytes). parents_at k text ++ m ∷ []) here in
    let far : 48 * k + 48 ≡ 48 * (k + 1) = omega arith in
    record {
      few = omega arith;
      left = sym (line_rest n after s.1) ∙ ap (drop 48) (sym s.0 ∙ h.left) ∙ drop-drop 48 (48 * k) text ∙ ap (λ (j : ℕ). drop j text) far;
      named = ap (list_all is_name) all ∙ names_push (parents_at k text) n h.named s.1;
      same = h.same
          ∙ ap (prepended (parents_at k text)) (one_more k rest lt p ∙ ap (option_and_then (line_read (16 - (k + 1)))) e)
          ∙ prepended_more (parents_at k text) n (rest_from (16 - (k + 1)) after)
          ∙ ap (λ (ps : List Bytes). prepended ps (rest_from (16 - (k + 1)) after)) (sym all);
    }

pub passed_not : (k : ℕ) (text rest : Bytes) → Passed k text rest → k < 16 → is_parent rest ≡ true → name_field (codes "parent") rest ≡ None → rest_from 16 text ≡ None
passed_not k text rest h lt p e =
    h.same ∙ ap (prepended (parents_at k text)) (one_more k rest lt p ∙ ap (option_and_then (line_read (16 - (k + 1)))) e)

no_more : (j : ℕ) (rest : Bytes) → is_parent rest ≡ false → rest_from j rest ≡ without_parents rest
no_more zero rest p = refl
no_more (suc j) rest p = ap (λ v. cond v (option_and_then (line_read j) (name_field (codes "parent") rest)) (without_parents rest)) p

pub passed_all : (k : ℕ) (text rest : Bytes) → Passed k text rest → is_parent rest ≡ false → rest_from 16 text ≡ with_parents (parents_at k text) (letter_from rest)
passed_all k text rest h p = h.same ∙ ap (prepended (parents_at k text)) (no_more (16 - k) rest p) ∙ prepended_last (parents_at k text) (letter_from rest)

pub passed_most : (k : ℕ) (text rest : Bytes) → Passed k text rest → 16 ≤ k → rest_from 16 text ≡ with_parents (parents_at k text) (letter_from rest)
passed_most k text rest h le =
    let none : 16 - k ≡ 0 = omega arith in
    h.same ∙ ap (λ (j : ℕ). prepended (parents_at k text) (rest_from j rest)) none ∙ prepended_last (parents_at k text) (letter_from rest)

-- ---- a parent by its place

pub parents_long : (k : ℕ) (b : Bytes) → length (parents_at k b) ≡ k
parents_long zero b = refl
parents_long (suc k) b = ap suc (parents_long k (drop 48 b))

pub parents_get : (k i : ℕ) (b : Bytes) → i < k → slice_get (parents_at k b) i ≡ Some (parent_name (drop (48 * i) b))
parents_get zero i b h = absurd (omega arith)
parents_get (suc k) zero b h = refl
parents_get (suc k) (suc i) b h =
    let lt : i < k = omega arith in
    let far : 48 + 48 * i ≡ 48 * suc i = omega arith in
    parents_get k i (drop 48 b) lt ∙ ap (λ (t : Bytes). Some (parent_name t)) (drop-drop (48 * i) 48 b ∙ ap (λ (j : ℕ). drop j b) far)

pub parents_past : (k i : ℕ) (b : Bytes) → k ≤ i → slice_get (parents_at k b) i ≡ None
parents_past zero i b h = refl
parents_past (suc k) zero b h = absurd (omega arith)
parents_past (suc k) (suc i) b h = let le : k ≤ i = omega arith in parents_past k i (drop 48 b) le

named_get : (ps : List Bytes) (i : ℕ) (n : Bytes) → list_all is_name ps ≡ true → slice_get ps i ≡ Some n → is_name n ≡ true
named_get [] i n h e = cc
named_get (p ∷ ps) zero n h e = ap is_name (sym (some_same p n e)) ∙ first_so _ _ h
named_get (p ∷ ps) (suc i) n h e = named_get ps i n (second_so _ _ h) e

named_some : (o : Option Bytes) → is_name (unwrap_or o []) ≡ true → o ≡ Some (unwrap_or o [])
named_some None h = cc
named_some (Some n) h = refl

-- the digits of a parent stand 7 bytes behind its line's start
pub parent_digits : (k i : ℕ) (b : Bytes) → i < k → list_all is_name (parents_at k b) ≡ true → (48 * i + 47 ≤ length b) × (digits_name (take 40 (drop (48 * i + 7) b)) ≡ slice_get (parents_at k b) i)
parent_digits k i b lt h =
    let line : Bytes = drop (48 * i) b in
    let get = parents_get k i b lt in
    let named = named_get (parents_at k b) i (parent_name line) h get in
    let some : digits_name (take 40 (drop 7 line)) ≡ Some (parent_name line) = named_some (digits_name (take 40 (drop 7 line))) named in
    let place : drop 7 line ≡ drop (48 * i + 7) b = drop-drop 7 (48 * i) b in
    let long : length (take 40 (drop (48 * i + 7) b)) ≡ 40 = ap (λ (t : Bytes). length (take 40 t)) (sym place) ∙ (digits-name (take 40 (drop 7 line)) (parent_name line) some).0 in
    (omega (arith, length-take 40 (drop (48 * i + 7) b), length-drop (48 * i + 7) b), ap (λ (t : Bytes). digits_name (take 40 t)) (sym place) ∙ some ∙ sym get)

-- ---- a whole body

abbrev with_tree : Bytes × Bytes → Option Commit
with_tree t = option_map (λ r. record { tree = t.0; parents = r.0; letter = r.1 }) (rest_from 16 t.1)

pub body_none : (b : Bytes) → name_field (codes "tree") b ≡ None → commit_from b ≡ None
unfolding commit_from
body_none b e = ap (option_and_then with_tree) e

pub rest_none : (b t text : Bytes) → name_field (codes "tree") b ≡ Some (t, text) → rest_from 16 text ≡ None → commit_from b ≡ None
unfolding commit_from
rest_none b t text e h =
    ap (option_and_then with_tree) e ∙ ap (option_map (λ (r : List Bytes × Letter). let made : Commit = record { tree = t; parents = r.0; letter = r.1 } in made)) h

joined : (t : Bytes) (ps : List Bytes) (l : Option Letter) → option_map (λ (r : List Bytes × Letter). let made : Commit = record { tree = t; parents = r.0; letter = r.1 } in made) (with_parents ps l) ≡ option_map (λ k. record { tree = t; parents = ps; letter = k }) l
joined t ps None = refl
joined t ps (Some l) = refl

pub body_some : (b t text : Bytes) (ps : List Bytes) (l : Option Letter) → name_field (codes "tree") b ≡ Some (t, text) → rest_from 16 text ≡ with_parents ps l → commit_from b ≡ option_map (λ k. record { tree = t; parents = ps; letter = k }) l
unfolding commit_from
body_some b t text ps l e h =
    ap (option_and_then with_tree) e ∙ ap (option_map (λ (r : List Bytes × Letter). let made : Commit = record { tree = t; parents = r.0; letter = r.1 } in made)) h ∙ joined t ps l

-- ---- the names of parts

pub names_more : (ps : List Name) (i : ℕ) (d : Name) → i < length ps → list_all is_name (map name_bytes (take i ps)) ≡ true → is_name (name_bytes (get_or ps i d)) ≡ true → list_all is_name (map name_bytes (take (i + 1) ps)) ≡ true
names_more ps i d lt h k =
    ap (λ (qs : List Name). list_all is_name (map name_bytes qs)) (take_more ps i d lt)
    ∙ ap (list_all is_name) (map-append name_bytes (take i ps) (get_or ps i d ∷ []))
    ∙ names_push (map name_bytes (take i ps)) (name_bytes (get_or ps i d)) h k

-- ---- the tree alone

tree_behind : (t : Bytes) (o : Option (List Bytes × Letter)) (c : Commit) → option_map (λ r. record { tree = t; parents = r.0; letter = r.1 }) o ≡ Some c → t ≡ c.tree
tree_behind t None c h = absurd (none_some h)
  where
    none_some : None ≡ Some c → ⊥
    none_some e = cc
tree_behind t (Some r) c h = let e : record { tree = t; parents = r.0; letter = r.1 } ≡ c = cc in ap (λ (d : Commit). d.tree) e

tree_first_by : (o : Option (Bytes × Bytes)) (c : Commit) → option_and_then (λ t. option_map (λ r. record { tree = t.0; parents = r.0; letter = r.1 }) (rest_from 16 t.1)) o ≡ Some c → option_map (λ r. r.0) o ≡ Some c.tree
tree_first_by None c h = cc
tree_first_by (Some t) c h = ap Some (tree_behind t.0 (rest_from 16 t.1) c h)

-- the name in a commit's first line is that of its tree
pub tree_first : (b : Bytes) (o : Option (Bytes × Bytes)) (c : Commit) → o ≡ name_field (codes "tree") b → commit_from b ≡ Some c → option_map (λ r. r.0) o ≡ Some c.tree
unfolding commit_from
tree_first b o c e h = tree_first_by o c (ap (option_and_then (λ t. option_map (λ r. record { tree = t.0; parents = r.0; letter = r.1 }) (rest_from 16 t.1))) e ∙ h)
