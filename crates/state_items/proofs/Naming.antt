-- The names of objects, and what is taken in.
use Rattle.std.proofs.Common.{◌≡◌, ◌+◌, ◌^◌, ℕ, suc, Bool, true, false, not, cond, ◌&&◌, ◌||◌, List, [], ◌∷◌, ◌++◌, map, length, reverse, None, Some, Result, Ok, Err, refl, sym, ap, ◌∙◌, arith, ◌<◌, lit<}
use Rattle.std.proofs.lemmas.Bool.Decides.{nat_tests}
use Rattle.std.specs.Prelude.{nat_le, filter}
use Rattle.std.specs.List.{list_any}
use Rattle.std.specs.Option.{unwrap_or}
use Rattle.std.proofs.lemmas.List.{reverse-append, map-append, length-reverse}
use Rattle.std.proofs.lemmas.List.Folds.{list_any-append}
use Rattle.git_objects.specs.Paths.{Bytes, same_bytes}
use Rattle.git_objects.specs.declared.limits.TheConstants.{COMMITS, OBJECTS}
use Rattle.git_objects.specs.Names.{name, depth}
use Rattle.git_objects.specs.Bodies.{tree_entries}
use Rattle.git_objects.specs.Parts.{name_bytes}
use Rattle.git_objects.specs.declared.kind.Kind.{Kind}
use Rattle.git_objects.specs.declared.kind.Kind.TheVariants.{Blob, Tree, Commit}
use Rattle.git_objects.specs.declared.name.Name.{Name}
use Rattle.git_objects.proofs.Basics.{same_bytes-back, same_bytes-self}
use Rattle.object_store.specs.Objects.{Object, object_name, has, has_name, is_named, body_of}
use Rattle.object_store.specs.Puts.{refusal}
use Rattle.object_store.specs.Unfolding.{joined, flat}
use Rattle.object_store.specs.Sizes.{longest, held_number, sizes, stats_of}
use Rattle.object_store.specs.declared.store.TreeStats.{TreeStats}
use Rattle.state_items.specs.Fields.{Fault, BrokenAt}
use Rattle.state_items.specs.Items.{has_room, take_object}
use Rattle.object_store.specs.Fits.{body_fits, is_commit, tree_fits}
use Rattle.state_items.specs.Arrivals.{AreNamed, more_commits}

-- ---- names

pub or-back : (a b : Bool) → (a || b) ≡ (b || a)
or-back true true = refl
or-back true false = refl
or-back false true = refl
or-back false false = refl

pub or-false : (a : Bool) → (a || false) ≡ a
or-false true = refl
or-false false = refl

any-reverse : (p : Bytes → Bool) (xs : List Bytes) → list_any p (reverse xs) ≡ list_any p xs
any-reverse p [] = refl
any-reverse p (x ∷ xs) =
    ap (list_any p) (reverse-append (x ∷ []) xs)
    ∙ list_any-append p (reverse xs) (x ∷ [])
    ∙ (λ i. any-reverse p xs i || or-false (p x) i)
    ∙ or-back (list_any p xs) (p x)

pub any-map : {A : Type 0} (p : Bytes → Bool) (f : A → Bytes) (xs : List A) → list_any p (map f xs) ≡ list_any (λ x. p (f x)) xs
any-map p f [] = refl
any-map p f (x ∷ xs) = ap (λ b. p (f x) || b) (any-map p f xs)

any-named : (S : List Object) (n : Bytes) → list_any (same_bytes n) (map object_name S) ≡ has_name S n
unfolding has_name
any-named [] n = refl
any-named (o ∷ S) n = λ i. same_bytes-back n (object_name o) i || any-named S n i

-- whether a name is among the names
pub name-known : (S : List Object) (names : List Name) (k : Name) → AreNamed S names → list_any (λ (j : Name). same_bytes k.0 j.0) names ≡ has_name S k.0
name-known S names k h =
    sym (any-map (same_bytes k.0) name_bytes names)
    ∙ sym (any-reverse (same_bytes k.0) (map name_bytes names))
    ∙ ap (list_any (same_bytes k.0)) h
    ∙ any-named S k.0

pub named-more : (S : List Object) (names : List Name) (o : Object) (k : Name) → AreNamed S names → k.0 ≡ object_name o → AreNamed (o ∷ S) (names ++ k ∷ [])
named-more S names o k h e =
    ap reverse (map-append name_bytes names (k ∷ []))
    ∙ reverse-append (map name_bytes names) (k.0 ∷ [])
    ∙ (λ i. e i ∷ h i)

length-map : {A B : Type 0} (f : A → B) (xs : List A) → length (map f xs) ≡ length xs
length-map f [] = refl
length-map f (x ∷ xs) = ap (λ n. suc n) (length-map f xs)

pub names-number : (S : List Object) (names : List Name) → AreNamed S names → length names ≡ length S
names-number S names h = sym (length-map name_bytes names) ∙ sym (length-reverse (map name_bytes names)) ∙ ap length h ∙ length-map object_name S

-- ---- tests

pub not-true : (b : Bool) → true ≡ not b → b ≡ false
not-true true e = e
not-true false e = refl

pub not-false : (b : Bool) → false ≡ not b → b ≡ true
not-false true e = refl
not-false false e = e

-- ---- the tree that arrived last

pub last-fits : (S : List Object) (b n : Bytes) → n ≡ name Tree b →
    (has Tree (record { kind = Tree; body = b } ∷ S) n && tree_fits (flat (record { kind = Tree; body = b } ∷ S) n)) ≡ body_fits S Tree b
unfolding has flat
last-fits S b n e =
    let same : same_bytes (name Tree b) n ≡ true = ap (same_bytes (name Tree b)) e ∙ same_bytes-self (name Tree b) in
    ap (λ t. (t || has Tree S n) && tree_fits (cond t (joined (body_of Blob S) (flat S) (unwrap_or (tree_entries b) [])) (flat S n))) same

pub last-fits-of : (S T : List Object) (k : Kind) (b n : Bytes) → k ≡ Tree → T ≡ record { kind = k; body = b } ∷ S → n ≡ name k b →
    (has Tree T n && tree_fits (flat T n)) ≡ body_fits S k b
last-fits-of S T k b n ek et en =
    ap (λ (R : List Object). has Tree R n && tree_fits (flat R n)) et
    ∙ ap (λ (j : Kind). has Tree (record { kind = j; body = b } ∷ S) n && tree_fits (flat (record { kind = j; body = b } ∷ S) n)) ek
    ∙ last-fits S b n (en ∙ ap (λ (j : Kind). name j b) ek)
    ∙ ap (λ (j : Kind). body_fits S j b) (sym ek)

-- ---- numbers

pub commits-more : (S : List Object) (n : ℕ) (k : Kind) (b : Bytes) → n ≡ length (filter is_commit S) → more_commits n k ≡ length (filter is_commit (record { kind = k; body = b } ∷ S))
commits-more S n Blob b e = e
commits-more S n Tree b e = e
commits-more S n Commit b e = let f : n + 1 ≡ suc (length (filter is_commit S)) = omega arith in f

-- ---- what is taken in

module _ (S : List Object) (k : Kind) (b : Bytes) (at : ℕ) where
  abbrev new : Object
  new = record { kind = k; body = b }

  abbrev taken : Bool → Bool → Bool → Result (List Object) Fault
  taken old fits room = cond (not old && fits && room) (Ok (new ∷ S)) (Err (BrokenAt at))

  pub take-known : refusal S k b ≡ None → has_name S (name k b) ≡ true → take_object S k b at (refusal S k b) ≡ Err (BrokenAt at)
  take-known r h = ap (take_object S k b at) r ∙ ap (λ old. taken old (body_fits S k b) (has_room (new ∷ S))) h

  pub take-unfit : refusal S k b ≡ None → has_name S (name k b) ≡ false → body_fits S k b ≡ false → take_object S k b at (refusal S k b) ≡ Err (BrokenAt at)
  take-unfit r h f = ap (take_object S k b at) r ∙ (λ i. taken (h i) (f i) (has_room (new ∷ S)))

  pub take-full : refusal S k b ≡ None → has_name S (name k b) ≡ false → body_fits S k b ≡ true → has_room (new ∷ S) ≡ false → take_object S k b at (refusal S k b) ≡ Err (BrokenAt at)
  take-full r h f m = ap (take_object S k b at) r ∙ (λ i. taken (h i) (f i) (m i))

  pub take-new : refusal S k b ≡ None → has_name S (name k b) ≡ false → body_fits S k b ≡ true → has_room (new ∷ S) ≡ true → take_object S k b at (refusal S k b) ≡ Ok (new ∷ S)
  take-new r h f m = ap (take_object S k b at) r ∙ (λ i. taken (h i) (f i) (m i))

or-true : (a b : Bool) → b ≡ true → (a || b) ≡ true
or-true true b e = refl
or-true false b e = e

pub commit-stays : (S : List Object) (o : Object) (n : Bytes) → has Commit S n ≡ true → has Commit (o ∷ S) n ≡ true
unfolding has
commit-stays S o n h = or-true (is_named Commit o n) (has Commit S n) h

pub room-more : (S : List Object) (names : List Name) (k : Kind) (b : Bytes) (key : Name) (after : List Name) (number commits : ℕ) → after ≡ names ++ key ∷ [] → number ≡ length after
    → AreNamed S names → commits ≡ length (filter is_commit S) → key.0 ≡ name k b
    → (nat_le number OBJECTS && nat_le (more_commits commits k) COMMITS) ≡ has_room (record { kind = k; body = b } ∷ S)
room-more S names k b key after number commits e en h counted named =
    let o : Object = record { kind = k; body = b } in
    let many : number ≡ length (o ∷ S) = en ∙ ap length e ∙ names-number (o ∷ S) (names ++ key ∷ []) (named-more S names o key h named) in
    λ i. nat_le (many i) OBJECTS && nat_le (commits-more S commits k b counted i) COMMITS

-- ---- sizes

pub held-le : (n m : ℕ) → m < 4294967295 → nat_le (held_number n) m ≡ nat_le n m
held-le n m h = grind (arith, nat_tests)

none-of : {A : Type 0} (t : Bool) (x : A) → None ≡ cond t (Some x) None → t ≡ false
none-of true x e = cc
none-of false x e = refl

some-of : {A : Type 0} (t : Bool) (x s : A) → Some s ≡ cond t (Some x) None → (t ≡ true) × (s ≡ x)
some-of true x s e = (refl, let f : s ≡ x = cc in f)
some-of false x s e = cc

pub no-stats : (S : List Object) (n : Bytes) → None ≡ stats_of S n → false ≡ (has Tree S n && tree_fits (flat S n))
no-stats S n e = sym (ap (λ t. t && tree_fits (flat S n)) (none-of (has Tree S n) (sizes (flat S n)) e))

fit : TreeStats → Bool
fit s = nat_le s.files (2 ^ 20) && nat_le s.depth 1024 && nat_le s.longest 16384

pub some-stats : (S : List Object) (n : Bytes) (s : TreeStats) → Some s ≡ stats_of S n →
    (nat_le s.files (2 ^ 20) && nat_le s.depth 1024 && nat_le s.longest 16384) ≡ (has Tree S n && tree_fits (flat S n))
unfolding fit
some-stats S n s e =
    let known = some-of (has Tree S n) (sizes (flat S n)) s e in
    ap fit known.1
    ∙ (λ i. held-le (length (flat S n)) (2 ^ 20) (lit< tt) i && held-le (depth (flat S n)) 1024 (lit< tt) i && held-le (longest (flat S n)) 16384 (lit< tt) i)
    ∙ sym (ap (λ t. t && tree_fits (flat S n)) known.0)
