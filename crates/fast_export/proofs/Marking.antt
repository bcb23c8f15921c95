-- What marks name.
use Rattle.std.proofs.Common.{◌≡◌, ℕ, ◌+◌, ◌<◌, ◌≤◌, Bool, true, false, ◌||◌, List, [], ◌∷◌, ◌++◌, map, refl, sym, ap, ◌∙◌, subst, Option, Some, None, arith}
use Rattle.std.specs.Prelude.{if◌then◌else◌, nat_eq, filter_map}
use Rattle.std.specs.Option.{is_some}
use Rattle.std.specs.List.{enumerate_from, cons_option}
use Rattle.std.specs.Cmp.Lexicographic.{bytes_decides}
use Rattle.std.proofs.lemmas.Bool.Decides.{nat_tests}
use Rattle.git_objects.specs.Paths.{Bytes, Path, same_bytes}
use Rattle.git_objects.specs.Trees.{Leaf, Flat}
use Rattle.git_objects.specs.Lists.{Each}
use Rattle.git_objects.proofs.Basics.{same_bytes-self, same_bytes-back}
use Rattle.git_objects.specs.Snapshots.{Snapshot, snapshot_name}
use Rattle.fast_import.specs.Replays.{Marked, marked, value_at, named_tree}
use Rattle.object_store.specs.TreeObjects.{blob_of}
use Rattle.fast_export.specs.ExportTexts.{mark_of, is_among, further}
use Rattle.fast_export.proofs.Changing.{or_none}

abbrev pub contents : List (ℕ × Bytes) → List Bytes
contents ms = map (λ (m : ℕ × Bytes). m.1) ms

pub or_right : (a b : Bool) → b ≡ true → (a || b) ≡ true
or_right true b h = refl
or_right false b h = h

-- the mark of what was given one before, and of what wasn't
pub found : (b : Bytes) (ms ns : List (ℕ × Bytes)) → is_among b (contents ms) ≡ true → mark_of b (ms ++ ns) ≡ mark_of b ms
found b [] ns h = absurd cc
found b (m ∷ ms) ns h =
    elim (same_bytes m.1 b) as (λ t. same_bytes m.1 b ≡ t → (if t then m.0 else mark_of b (ms ++ ns)) ≡ (if t then m.0 else mark_of b ms)) [
      | true ↦ λ e. refl
      | false ↦ λ e. let f : same_bytes b m.1 ≡ false = same_bytes-back b m.1 ∙ e in found b ms ns (ap (λ t. t || is_among b (contents ms)) (sym f) ∙ h)
    ] refl

passed : (b : Bytes) (ms ns : List (ℕ × Bytes)) → is_among b (contents ms) ≡ false → mark_of b (ms ++ ns) ≡ mark_of b ns
passed b [] ns h = refl
passed b (m ∷ ms) ns h =
    let o = or_none (same_bytes b m.1) (is_among b (contents ms)) h in
    ap (λ t. if t then m.0 else mark_of b (ms ++ ns)) (same_bytes-back m.1 b ∙ o.0) ∙ passed b ms ns o.1

pub among_front : (b : Bytes) (xs ys : List Bytes) → is_among b xs ≡ true → is_among b (xs ++ ys) ≡ true
among_front b [] ys h = absurd cc
among_front b (x ∷ xs) ys h =
    elim (same_bytes b x) as (λ t. (t || is_among b xs) ≡ true → (t || is_among b (xs ++ ys)) ≡ true) [ true ↦ λ e. refl | false ↦ λ e. among_front b xs ys e ] h

pub among_behind : (b : Bytes) (xs ys : List Bytes) → is_among b ys ≡ true → is_among b (xs ++ ys) ≡ true
among_behind b [] ys h = h
among_behind b (x ∷ xs) ys h = or_right (same_bytes b x) _ (among_behind b xs ys h)

pub among_either : (b : Bytes) (xs ys : List Bytes) → is_among b xs ≡ false → is_among b (xs ++ ys) ≡ is_among b ys
among_either b [] ys h = refl
among_either b (x ∷ xs) ys h =
    let o = or_none (same_bytes b x) (is_among b xs) h in
    ap (λ t. t || is_among b (xs ++ ys)) o.0 ∙ among_either b xs ys o.1

pub contents_append : (ms ns : List (ℕ × Bytes)) → contents (ms ++ ns) ≡ contents ms ++ contents ns
contents_append [] ns = refl
contents_append (m ∷ ms) ns = ap (λ xs. m.1 ∷ xs) (contents_append ms ns)

pub contents_numbered : (k : ℕ) (bs : List Bytes) → contents (enumerate_from k bs) ≡ bs
contents_numbered k [] = refl
contents_numbered k (b ∷ bs) = ap (λ xs. b ∷ xs) (contents_numbered (k + 1) bs)

-- ---- marks in a replay

-- b's mark names what is made of b, and lies below top
pub record IsMarked (make : Bytes → Marked) (ms : List (ℕ × Bytes)) (top : ℕ) (marks : List (ℕ × Marked)) (b : Bytes) : Type 0 where
  pub names : marked (mark_of b ms) marks ≡ Some (make b)
  pub some : 1 ≤ mark_of b ms
  pub low : mark_of b ms < top

abbrev pub AreMarked : (Bytes → Marked) → List (ℕ × Bytes) → ℕ → List (ℕ × Marked) → Type 0
AreMarked make ms top marks = (b : Bytes) → is_among b (contents ms) ≡ true → IsMarked make ms top marks b

other_number : (k n : ℕ) → n < k → nat_eq k n ≡ false
other_number k n h = grind (arith, nat_tests)

pub own_number : (k : ℕ) → nat_eq k k ≡ true
own_number k = grind (arith, nat_tests)

-- another mark is given
pub older_marked : (make : Bytes → Marked) (ms : List (ℕ × Bytes)) (top : ℕ) (marks : List (ℕ × Marked)) (y : Marked) → AreMarked make ms top marks → AreMarked make ms (top + 1) ((top, y) ∷ marks)
older_marked make ms top marks y h b a =
    let g = h b a in
    let low = g.low in
    record { names = ap (λ t. if t then Some y else marked (mark_of b ms) marks) (other_number top (mark_of b ms) low) ∙ g.names; some = g.some; low = omega arith }

pub newer_marked : (make : Bytes → Marked) (ms : List (ℕ × Bytes)) (top : ℕ) (marks : List (ℕ × Marked)) (c : Bytes) → 1 ≤ top → AreMarked make ms top marks → AreMarked make (ms ++ (top, c) ∷ []) (top + 1) ((top, make c) ∷ marks)
newer_marked make ms top marks c one h b a =
    elim (is_among b (contents ms)) as (λ t. is_among b (contents ms) ≡ t → IsMarked make (ms ++ (top, c) ∷ []) (top + 1) ((top, make c) ∷ marks) b) [
      | true ↦ λ e. old e
      | false ↦ λ e. new e
    ] refl
  where
    old : is_among b (contents ms) ≡ true → IsMarked make (ms ++ (top, c) ∷ []) (top + 1) ((top, make c) ∷ marks) b
    old e =
        let g = older_marked make ms top marks (make c) h b e in
        let s = found b ms ((top, c) ∷ []) e in
        record { names = ap (λ n. marked n ((top, make c) ∷ marks)) s ∙ g.names; some = subst (λ n. 1 ≤ n) (sym s) g.some; low = subst (λ n. n < top + 1) (sym s) g.low }

    just : (is_among b (c ∷ []) ≡ true) → same_bytes b c ≡ true
    just e = elim (same_bytes b c) as (λ t. (t || false) ≡ true → t ≡ true) [ true ↦ λ d. refl | false ↦ λ d. d ] e

    new : is_among b (contents ms) ≡ false → IsMarked make (ms ++ (top, c) ∷ []) (top + 1) ((top, make c) ∷ marks) b
    new e =
        let same : same_bytes b c ≡ true = just (sym (ap (is_among b) (contents_append ms ((top, c) ∷ [])) ∙ among_either b (contents ms) (c ∷ []) e) ∙ a) in
        let s : mark_of b (ms ++ (top, c) ∷ []) ≡ top = passed b ms ((top, c) ∷ []) e ∙ ap (λ t. if t then top else 0) (same_bytes-back c b ∙ same) in
        record {
          names = ap (λ n. marked n ((top, make c) ∷ marks)) s ∙ ap (λ t. if t then Some (make c) else marked top marks) (own_number top) ∙ ap (λ x. Some (make x)) (sym ((bytes_decides b c).0 same));
          some = subst (λ n. 1 ≤ n) (sym s) one;
          low = let low : top < top + 1 = omega arith in subst (λ n. n < top + 1) (sym s) low;
        }

pub none_marked : (make : Bytes → Marked) (top : ℕ) (marks : List (ℕ × Marked)) → AreMarked make [] top marks
none_marked make top marks b a = absurd cc

-- ---- commits by their names

pub has_tree : (p : Bytes) (cs : List Snapshot) → is_among p (map snapshot_name cs) ≡ true → is_some (value_at p (map named_tree cs ++ [])) ≡ true
has_tree p [] h = absurd cc
has_tree p (c ∷ cs) h =
    elim (same_bytes (snapshot_name c) p) as (λ t. same_bytes (snapshot_name c) p ≡ t → is_some (if t then Some c.tree else value_at p (map named_tree cs ++ [])) ≡ true) [
      | true ↦ λ e. refl
      | false ↦ λ e. let f : same_bytes p (snapshot_name c) ≡ false = same_bytes-back p (snapshot_name c) ∙ e in
          has_tree p cs (ap (λ t. t || is_among p (map snapshot_name cs)) (sym f) ∙ h)
    ] refl

-- ---- the blobs of a tree

pub further_has : (b : Bytes) (others bs : List Bytes) → is_among b bs ≡ true → (is_among b others || is_among b (further others bs)) ≡ true
further_has b others [] h = absurd cc
further_has b others (x ∷ bs) h =
    elim (is_among x others) as (λ t. is_among x others ≡ t → (is_among b others || is_among b (if t then further others bs else x ∷ further (x ∷ others) bs)) ≡ true) [
      | true ↦ λ e. elim (same_bytes b x) as (λ t. same_bytes b x ≡ t → (is_among b others || is_among b (further others bs)) ≡ true) [
        | true ↦ λ d. let s : is_among b others ≡ true = ap (λ y. is_among y others) ((bytes_decides b x).0 d) ∙ e in ap (λ t. t || is_among b (further others bs)) s
        | false ↦ λ d. further_has b others bs (ap (λ t. t || is_among b bs) (sym d) ∙ h)
      ] refl
      | false ↦ λ e. elim (same_bytes b x) as (λ t. same_bytes b x ≡ t → (is_among b others || (t || is_among b (further (x ∷ others) bs))) ≡ true) [
        | true ↦ λ d. or_right (is_among b others) true refl
        | false ↦ λ d.
            let f = further_has b (x ∷ others) bs (ap (λ t. t || is_among b bs) (sym d) ∙ h) in
            ap (λ t. (t || is_among b others) || is_among b (further (x ∷ others) bs)) (sym d) ∙ f
      ] refl
    ] refl

abbrev pub leaf_blobs : Flat → List Bytes
leaf_blobs t = filter_map (λ e. blob_of e.1) t

abbrev pub HasBlob : List Bytes → Path × Leaf → Type 0
HasBlob bs e = (b : Bytes) → blob_of e.1 ≡ Some b → is_among b bs ≡ true

pub each_so : {A : Type 0} (P Q : A → Type 0) (xs : List A) → ((x : A) → P x → Q x) → Each P xs → Each Q xs
each_so P Q [] h a = tt
each_so P Q (x ∷ xs) h a = (h x a.0, each_so P Q xs h a.1)

in_front : (o : Option Bytes) (b : Bytes) (bs : List Bytes) → is_among b bs ≡ true → is_among b (cons_option o bs) ≡ true
in_front None b bs h = h
in_front (Some c) b bs h = or_right (same_bytes b c) _ h

pub blobs_there : (t : Flat) → Each (HasBlob (leaf_blobs t)) t
blobs_there [] = tt
blobs_there (e ∷ t) = (
  (λ b h. ap (λ o. is_among b (cons_option o (leaf_blobs t))) h ∙ ap (λ v. v || is_among b (leaf_blobs t)) (same_bytes-self b)),
  each_so (HasBlob (leaf_blobs t)) (HasBlob (leaf_blobs (e ∷ t))) t (λ d k b h. in_front (blob_of e.1) b (leaf_blobs t) (k b h)) (blobs_there t),
)

-- all of them have marks once the further ones do
pub blobs_marked : (ms : List (ℕ × Bytes)) (k : ℕ) (t : Flat) → Each (HasBlob (contents (ms ++ enumerate_from k (further (contents ms) (leaf_blobs t))))) t
blobs_marked ms k t = each_so (HasBlob (leaf_blobs t)) (HasBlob (contents (ms ++ new))) t (λ e h b g. there b (h b g)) (blobs_there t)
  where
    new : List (ℕ × Bytes)
    new = enumerate_from k (further (contents ms) (leaf_blobs t))

    either : (b : Bytes) (xs ys : List Bytes) → (is_among b xs || is_among b ys) ≡ true → is_among b (xs ++ ys) ≡ true
    either b xs ys h = elim (is_among b xs) as (λ v. is_among b xs ≡ v → (v || is_among b ys) ≡ true → is_among b (xs ++ ys) ≡ true) [
      | true ↦ λ e g. among_front b xs ys e
      | false ↦ λ e g. among_behind b xs ys g
    ] refl h

    there : (b : Bytes) → is_among b (leaf_blobs t) ≡ true → is_among b (contents (ms ++ enumerate_from k (further (contents ms) (leaf_blobs t)))) ≡ true
    there b h =
        ap (is_among b) (contents_append ms (enumerate_from k (further (contents ms) (leaf_blobs t))) ∙ ap (λ xs. contents ms ++ xs) (contents_numbered k (further (contents ms) (leaf_blobs t))))
        ∙ either b (contents ms) (further (contents ms) (leaf_blobs t)) (further_has b (contents ms) (leaf_blobs t) h)
