-- A stream may name what a state has, and a state stays one where its store has grown.
use Rattle.std.proofs.Common.{◌≡◌, ℕ, zero, suc, Bool, true, false, ◌||◌, List, [], ◌∷◌, ◌++◌, map, reverse, Option, Some, None, IsSome, Result, Ok, Err, if◌then◌else◌, append-nil, refl, sym, ap, subst, ◌∙◌}
use Rattle.std.specs.Cmp.{first_so, second_so}
use Rattle.std.specs.List.{list_any}
use Rattle.std.specs.Option.{is_some}
use Rattle.std.specs.Prelude.{IfSome, slice_get}
use Rattle.std.proofs.lemmas.Grind.{reverse_onto}
use Rattle.std.proofs.lemmas.List.{reverse-append}
use Rattle.std.proofs.lemmas.List.Folds.{list_any-append}
use Rattle.git_objects.specs.Lists.{Each}
use Rattle.git_objects.specs.Names.{name}
use Rattle.git_objects.specs.Paths.{Bytes, is_bytes, same_bytes}
use Rattle.git_objects.specs.Refs.{Refs}
use Rattle.git_objects.specs.declared.kind.Kind.{Kind}
use Rattle.git_objects.specs.declared.kind.Kind.TheVariants.{Blob, Tree, Commit as CommitKind}
use Rattle.object_store.specs.Growth.{IsGrownBy}
use Rattle.object_store.specs.Objects.{Object, IsStore, has}
use Rattle.object_store.specs.StoredSnapshots.{IsTreeOf}
use Rattle.object_store.proofs.Parts.{AreIn, found-has}
use Rattle.commit_graph.specs.Graphs.{Row}
use Rattle.fast_import.specs.Bases.{IsBaseIn, base_in}
use Rattle.fast_import.specs.Replays.{Base, value_at}
use Rattle.fast_import.specs.Whole.{IsMadeOfStreamIn, IsTaggedWhole}
use Rattle.fast_import.specs.declared.replayed.TaggedReplay.{TaggedReplay}
use Rattle.fast_import.specs.declared.whole.ReplayError.{ReplayError}
use Rattle.projection_laws.specs.StoredGraphs.{IsRowIn}
use Rattle.projection_ground.specs.Grounds.{IsGround}
use Rattle.state_items.specs.Arrivals.{blobs_of, rows_of, with_blob_name}
use Rattle.state_items.specs.Changes.{with_refs}
use Rattle.state_items.specs.Items.{Held}
use Rattle.state_items.specs.Steps.{are_heads}
use Rattle.state_items.proofs.RowsHeld.{place-there, some-place}
use Rattle.repo_ground.specs.Contents.{Contents, Spells}
use Rattle.repo_ground.specs.Laws.{trees_of}
use Rattle.import_laws.specs.Bases.{base_of}
use Rattle.repo_ground.proofs.GroundLaws.{ground-law}
use Rattle.repo_ground.proofs.GrownLaws.{ground-grown, spells-grown}
use Rattle.repo_ground.proofs.RowsGround.{are-in}
use Rattle.proj_words.specs.declared.outcome.Outcome.{Outcome}
use Rattle.proj_commands.specs.Makes.{IsStateOf}
use Rattle.proj_commands.specs.Refusals.{replay_outcome}
use Rattle.proj_commands.specs.Replaying.{IsReplayedUpon}
use Rattle.stream_reader.specs.Verdicts.{tagged_start}

-- ---- lists

each-append : {A : Type 0} (P : A → Type 0) (xs ys : List A) → Each P xs → Each P ys → Each P (xs ++ ys)
each-append P [] ys h k = k
each-append P (x ∷ xs) ys h k = (h.0, each-append P xs ys h.1 k)

each-reverse : {A : Type 0} (P : A → Type 0) (xs : List A) → Each P xs → Each P (reverse xs)
each-reverse P [] h = tt
each-reverse P (x ∷ xs) h = subst (Each P) (sym (reverse_onto xs x [])) (each-append P (reverse xs) (x ∷ []) (each-reverse P xs h.1) (h.0, tt))

any-reverse : {A : Type 0} (p : A → Bool) (xs : List A) → list_any p (reverse xs) ≡ list_any p xs
any-reverse p [] = refl
any-reverse p (x ∷ xs) = ap (list_any p) (reverse_onto xs x []) ∙ list_any-append p (reverse xs) (x ∷ []) ∙ ap (λ b. b || (p x || false)) (any-reverse p xs) ∙ turn (p x) (list_any p xs)
  where
    turn : (a b : Bool) → (b || (a || false)) ≡ (a || b)
    turn true true = refl
    turn true false = refl
    turn false true = refl
    turn false false = refl

-- ---- commits with their trees

each-at : {A : Type 0} (P : A → Type 0) (xs : List A) → ((i : ℕ) (x : A) → slice_get xs i ≡ Some x → P x) → Each P xs
each-at P [] f = tt
each-at P (x ∷ xs) f = (f zero x refl, each-at P xs (λ i y e. f (suc i) y e))

each-image : {A B : Type 0} (P : B → Type 0) (f : A → B) (xs : List A) → Each (λ x. P (f x)) xs → Each P (map f xs)
each-image P f [] h = tt
each-image P f (x ∷ xs) h = (h.0, each-image P f xs h.1)

row-tree : (S : List Object) (rows : List Row) (r : Row) → IsRowIn S rows r → IsTreeOf S r.name r.tree
row-tree S rows r w = record { commit = w.commit; named = w.named; tree = sym w.tree; held = w.tree_held }

trees-stored : (S : List Object) (rows : List Row) → ((i : ℕ) (r : Row) → slice_get rows i ≡ Some r → IsRowIn S rows r) → Each (λ e. IsTreeOf S e.0 e.1) (trees_of rows)
trees-stored S rows each =
    each-image (λ (e : Bytes × Bytes). IsTreeOf S e.0 e.1) (λ (r : Row). (r.name, r.tree)) (reverse rows)
    (each-reverse (λ (r : Row). IsTreeOf S r.name r.tree) rows (each-at (λ (r : Row). IsTreeOf S r.name r.tree) rows (λ i r e. row-tree S rows r (each i r e))))

-- ---- heads

value-there : (n : Bytes) (rs : List Row) → is_some (value_at n (map (λ (r : Row). (r.name, r.tree)) rs)) ≡ list_any (λ (r : Row). same_bytes r.name n) rs
value-there n [] = refl
value-there n (r ∷ rs) = by (value-there n rs) (same_bytes r.name n)
  where
    by : is_some (value_at n (map (λ (q : Row). (q.name, q.tree)) rs)) ≡ list_any (λ (q : Row). same_bytes q.name n) rs → (b : Bool)
        → is_some (if b then Some r.tree else value_at n (map (λ (q : Row). (q.name, q.tree)) rs)) ≡ (b || list_any (λ (q : Row). same_bytes q.name n) rs)
    by later true = refl
    by later false = later

-- a commit that is held has its tree among them
tree-there : (H : List Object) (n : Bytes) → IsStore H → has CommitKind H n ≡ true → IsSome (value_at n (trees_of (rows_of H)))
tree-there H n s e =
    value-there n (reverse (rows_of H)) ∙ any-reverse (λ (r : Row). same_bytes r.name n) (rows_of H) ∙ sym (some-place (λ (r : Row). same_bytes r.name n) (rows_of H)) ∙ place-there n H s ∙ e

heads-there : (H : List Object) (refs : Refs) → IsStore H → are_heads H refs ≡ true → Each (λ e. IsSome (value_at e.1 (trees_of (rows_of H)))) refs
heads-there H [] s h = tt
heads-there H (x ∷ refs) s h = (
  tree-there H x.1 s (first_so (has CommitKind H x.1) (are_heads H refs) h),
  heads-there H refs s (second_so (has CommitKind H x.1) (are_heads H refs) h),
)

-- ---- blobs

blobs-step : (S H : List Object) (k : Kind) (b : Bytes) → AreIn S (record { kind = k; body = b } ∷ H) → Each (λ n. has Blob S n ≡ true) (reverse (blobs_of H))
    → Each (λ n. has Blob S n ≡ true) (reverse (with_blob_name (blobs_of H) k b))
blobs-step S H Blob b i e =
    subst (Each (λ n. has Blob S n ≡ true)) (sym (reverse-append (blobs_of H) (name Blob b ∷ []))) ((found-has S Blob (name Blob b) (record { kind = Blob; body = b }) i.0 refl).0, e)
blobs-step S H Tree b i e = e
blobs-step S H CommitKind b i e = e

blobs-stored : (S H : List Object) → AreIn S H → Each (λ n. has Blob S n ≡ true) (reverse (blobs_of H))
unfolding blobs_of
blobs-stored S [] i = tt
blobs-stored S (o ∷ H) i = blobs-step S H o.kind o.body i (blobs-stored S H i.1)

-- ---- what a stream may name

pub state-base : (h : Held) (s : Contents) → Spells h s → IsGround s.basis → IsBaseIn s.basis.store (trees_of s.basis.graph) (with_refs [] s.refs) (reverse s.blobs)
state-base h s w g = record {
  trees = trees-stored s.basis.store s.basis.graph g.graph.each;
  heads =
      subst (λ (rows : List Row). Each (λ e. IsSome (value_at e.1 (trees_of rows))) (with_refs [] s.refs)) (sym w.graph)
      (subst (Each (λ e. IsSome (value_at e.1 (trees_of (rows_of h.objects))))) (sym w.refs) (heads-there h.objects h.refs w.store w.heads));
  contents =
      subst (λ (ns : List Bytes). Each (λ n. has Blob s.basis.store n ≡ true) (reverse ns)) (sym w.known)
      (blobs-stored s.basis.store h.objects (are-in s.basis.store h.objects w.within));
}

pub state-base-is : (h : Held) (s : Contents) → Spells h s → IsGround s.basis → base_in s.basis.store (trees_of s.basis.graph) (with_refs [] s.refs) (reverse s.blobs) ≡ base_of h
state-base-is h s w g = ap (λ (refs : Refs). base_in s.basis.store (trees_of s.basis.graph) refs (reverse s.blobs)) w.refs ∙ ground-law.base h s w g

-- equal commits, refs and blobs may be named
pub base-as : (S : List Object) (cs ds : List (Bytes × Bytes)) (rs es : Refs) (bs ns : List Bytes) → cs ≡ ds → rs ≡ es → bs ≡ ns → IsBaseIn S ds es ns → IsBaseIn S cs rs bs
base-as S cs ds rs es bs ns c r b w =
    subst (λ (xs : List (Bytes × Bytes)). IsBaseIn S xs rs bs) (sym c)
    (subst (λ (xs : Refs). IsBaseIn S ds xs bs) (sym r) (subst (λ (xs : List Bytes). IsBaseIn S ds es xs) (sym b) w))

-- ---- a store that has grown

-- the state with this store
abbrev pub with_store : Contents → List Object → Contents
with_store s S = record s { basis = record s.basis { store = S } }

pub store-grown : (made : Object → Type 0) (items : List Bytes) (h : Held) (s : Contents) (S : List Object) → IsStateOf items h s → IsGrownBy made s.basis.store S → IsStateOf items h (with_store s S)
store-grown made items h s S w x = record {
  current = record { read = w.current.read; number = w.current.number; size = w.current.size };
  spells = spells-grown h s (record s.basis { store = S }) x.newer [] w.spells x.store x.above (append-nil s.basis.map) refl refl;
  ground = ground-grown s.basis x.newer S w.ground x.store x.above;
}

-- ---- a stream that was replayed

pub same-bytes : (o : Option Bytes) (all : Bytes) → IfSome o (λ l. l ≡ all) → IfSome o (λ l. all ≡ l)
same-bytes None all h = tt
same-bytes (Some l) all h = sym h

module _ (items : List Bytes) (h : Held) (s : Contents) (cs : List (Bytes × Bytes)) (rs : Refs) (bs : List Bytes) (S : List Object) (all : Bytes) (w : IsStateOf items h s)
    (c : cs ≡ trees_of s.basis.graph) (r : rs ≡ with_refs [] s.refs) (b : bs ≡ reverse s.blobs) where
  abbrev named : Base
  named = base_in s.basis.store cs rs bs

  named-is : named ≡ base_of h
  named-is = (λ i. base_in s.basis.store (c i) (r i) (b i)) ∙ state-base-is h s w.spells w.ground

  over-held : (x : Result TaggedReplay ReplayError) → IsTaggedWhole named s.basis.store S all x → IsTaggedWhole (base_of h) s.basis.store S all x
  over-held x y = subst (λ (base : Base). IsTaggedWhole base s.basis.store S all x) named-is y

  replayed : (g : TaggedReplay) (result : Result TaggedReplay Outcome) → result ≡ Ok g → IsTaggedWhole named s.basis.store S all (Ok g) → IsReplayedUpon items h all s (with_store s S) result
  replayed g result e x =
      let y = over-held (Ok g) x in
      subst (IsReplayedUpon items h all s (with_store s S)) (sym e) (record {
        given = y.given;
        refused = tt;
        state = store-grown (IsMadeOfStreamIn tagged_start (base_of h) all) items h s S w y.grown;
        grown = y.grown;
        same = refl;
      })

  not-replayed : (f : ReplayError) (o : Outcome) (result : Result TaggedReplay Outcome) → result ≡ Err o → o ≡ replay_outcome f → IsTaggedWhole named s.basis.store S all (Err f)
      → IsReplayedUpon items h all s (with_store s S) result
  not-replayed f o result e q x =
      let y = over-held (Err f) x in
      subst (IsReplayedUpon items h all s (with_store s S)) (sym e) (record {
        given = tt;
        refused = (f, q, y.refused);
        state = store-grown (IsMadeOfStreamIn tagged_start (base_of h) all) items h s S w y.grown;
        grown = y.grown;
        same = refl;
      })

-- what is answered
abbrev pub answered : Result TaggedReplay ReplayError → Result TaggedReplay Outcome
answered (Ok g) = Ok g
answered (Err f) = Err (replay_outcome f)

-- what became of a stream over what a state has: the same is replayed upon the state
pub replayed-upon : (items : List Bytes) (h : Held) (old v : Contents) → v ≡ old → IsStateOf items h old → (cs : List (Bytes × Bytes)) (rs : Refs) (bs : List Bytes) (S : List Object)
    → cs ≡ trees_of v.basis.graph → rs ≡ with_refs [] v.refs → bs ≡ reverse v.blobs → (left : Option Bytes) (x : Result TaggedReplay ReplayError)
    → ((all : Bytes) × (is_bytes all ≡ true) × IfSome left (λ l. l ≡ all) × IsTaggedWhole (base_in v.basis.store cs rs bs) v.basis.store S all x)
    → (all : Bytes) × (is_bytes all ≡ true) × IfSome left (λ l. all ≡ l) × IsReplayedUpon items h all old (with_store v S) (answered x)
replayed-upon items h old v e w cs rs bs S c r b left x k =
    let st = subst (IsStateOf items h) (sym e) w in
    (k.0, k.1, same-bytes left k.0 k.2, subst (λ (y : Contents). IsReplayedUpon items h k.0 y (with_store v S) (answered x)) e (by st x k.3))
  where
    by : IsStateOf items h v → (y : Result TaggedReplay ReplayError) → IsTaggedWhole (base_in v.basis.store cs rs bs) v.basis.store S k.0 y → IsReplayedUpon items h k.0 v (with_store v S) (answered y)
    by st (Ok g) z = replayed items h v cs rs bs S k.0 st c r b g (Ok g) refl z
    by st (Err f) z = not-replayed items h v cs rs bs S k.0 st c r b f (replay_outcome f) (Err (replay_outcome f)) refl refl z
