-- What is known of a filter while a ground grows.
use Rattle.std.proofs.Common.{◌≡◌, ℕ, true, false, is_some, true≢false, List, Option, Some, None, slice_get, IfSome, IfOk, IfErr, OnErr, Result, Ok, Err, [], append-nil, refl, sym, ap, subst, ◌∙◌}
use Rattle.std.specs.Option.{option_and_then}
use Rattle.std.specs.declared.alloc.AllocError.{AllocError}
use Rattle.std.proofs.lemmas.Option.{same_Some}
use Rattle.std.specs.Cmp.Lexicographic.{bytes_decides}
use Rattle.git_objects.specs.Paths.{Bytes, Path, same_bytes}
use Rattle.git_objects.specs.Trees.{Flat, at}
use Rattle.git_objects.specs.declared.kind.Kind.TheVariants.{Tree}
use Rattle.git_objects.specs.declared.name.Name.{Name}
use Rattle.object_store.specs.Objects.{Object, has}
use Rattle.object_store.specs.Growth.{IsGrownBy}
use Rattle.object_store.specs.Unfolding.{flat, StandsFor}
use Rattle.object_store.proofs.Growth.{has-grown, flat-grown, stands-grown}
use Rattle.filter_text.specs.Filters.{Filter}
use Rattle.filter_text.specs.Shapes.{shape}
use Rattle.filter_routes.specs.Interned.{HasAt, Interns}
use Rattle.filter_routes.specs.TableValues.{Table}
use Rattle.filter_cache.specs.Memos.{Memo}
use Rattle.filter_routes.specs.Lenses.{seen_through}
use Rattle.filter_routes.specs.Origins.{lens_of}
use Rattle.filter_apply.specs.Faults.{IsApplyFault}
use Rattle.filter_apply.specs.Hands.{IsShownObject}
use Rattle.filter_apply.specs.Truth.{IsTrueFor, KeepsOthers}
use Rattle.filter_apply.proofs.Truths.{stay_true}
use Rattle.filter_apply.specs.declared.fault.ApplyError.{ApplyError}
use Rattle.filter_apply.specs.declared.fault.ApplyError.TheVariants.{OutOfMemory}
use Rattle.commit_map.specs.Shown.{Entries}
use Rattle.path_trees.specs.declared.found.Leaf.{Leaf}
use Rattle.workspace.specs.Views.{IsHeldLeaf, found_value}
use Rattle.workspace.specs.Workspaces.{place, resolve, shown, with_leaf}
use Rattle.workspace.specs.declared.resolving.Resolved.{Resolved}
use Rattle.projection_ground.specs.Grounds.{IsGround, AreInFront, Extends}
use Rattle.projection_ground.specs.Asked.{IsNone, IsNumbered, IsShownBy, IsAskedFor}
use Rattle.projection_ground.specs.declared.ground.Ground.{Ground}
use Rattle.projection_ground.specs.declared.seeing.Asked.{Asked}
use Rattle.projection_ground.proofs.Growing.{front-self, interned-front, has-front, graph-grown, ground-tables, maps-grown, extends-self, extends-then, extends-as}
use Rattle.projection_ground.proofs.Leaves.{found-leaf-grown, leaf-held-grown}

-- without a workspace place the filter is one for every tree
pub same-resolve : (f : Filter) (t u : Flat) → None ≡ place f → resolve f t ≡ resolve f u
unfolding resolve
same-resolve f t u e = ap (λ p. with_leaf f (option_and_then (at t) p)) (sym e) ∙ ap (λ p. with_leaf f (option_and_then (at u) p)) e

pub shown-is : (f : Filter) (t : Flat) → shown f t ≡ seen_through (lens_of (resolve f t)) t
unfolding shown
shown-is f t = refl

table-grown : (f : Filter) (g h : Ground) (made : Object → Type 0) → Extends made g h → (o : Option ℕ) → IfSome o (λ n. (t : Flat) → HasAt g.tables (resolve f t) n) → IfSome o (λ n. (t : Flat) → HasAt h.tables (resolve f t) n)
table-grown f g h made a None k = tt
table-grown f g h made a (Some n) k = λ t. has-front g.tables h.tables (resolve f t) n a.tables (k t)

last-grown : (f : Filter) (g h : Ground) (made : Object → Type 0) → Extends made g h → (o : Option (Name × Name)) → IfSome o (λ p. (has Tree g.store p.0.0 ≡ true) × StandsFor g.store p.1.0 (shown f (flat g.store p.0.0)))
    → IfSome o (λ p. (has Tree h.store p.0.0 ≡ true) × StandsFor h.store p.1.0 (shown f (flat h.store p.0.0)))
last-grown f g h made a None k = tt
last-grown f g h made a (Some p) k = (
  has-grown g.store h.store Tree p.0.0 a.store k.0,
  subst (λ (t : Flat). StandsFor h.store p.1.0 (shown f t)) (sym (flat-grown g.store h.store p.0.0 a.store k.0)) (stands-grown g.store h.store p.1.0 (shown f (flat g.store p.0.0)) a.store k.1),
)

leaf-grown : (f : Filter) (g h : Ground) (made : Object → Type 0) → Extends made g h → (o : Option (Option Leaf × ℕ)) → IfSome o (λ p. IsNumbered f g.store g.tables p.0 p.1) → IfSome o (λ p. IsNumbered f h.store h.tables p.0 p.1)
leaf-grown f g h made a None k = tt
leaf-grown f g h made a (Some p) k = record {
  held = leaf-held-grown g.store h.store a.store p.0 k.held;
  there = has-front g.tables h.tables (with_leaf f (found_value h.store p.0)) p.1 a.tables
      (subst (λ x. HasAt g.tables (with_leaf f x) p.1) (sym (found-leaf-grown g.store h.store a.store p.0 k.held)) k.there);
}

pub asked-grown : (f : Filter) (g h : Ground) (made : Object → Type 0) (a : Asked) → Extends made g h → IsAskedFor f g a → IsAskedFor f h a
asked-grown f g h made a e k = record {
  table = table-grown f g h made e a.table k.table;
  last = last-grown f g h made e a.last k.last;
  leaf = leaf-grown f g h made e a.leaf k.leaf;
}

-- ---- one more tree

-- the tree that was asked last
pub asked-again : (f : Filter) (g : Ground) (root : Name) (tree shown' : Name) → IsGround g → same_bytes tree.0 root.0 ≡ true
    → (has Tree g.store tree.0 ≡ true) × StandsFor g.store shown'.0 (shown f (flat g.store tree.0)) → IsShownBy (resolve f (flat g.store root.0)) root.0 g g (Ok shown')
unfolding shown
asked-again f g root tree shown' w e k =
    let same : tree.0 ≡ root.0 = (bytes_decides tree.0 root.0).0 e in
    record {
      ok = subst (λ (n : Bytes). StandsFor g.store shown'.0 (shown f (flat g.store n))) same k.1;
      err = tt;
      same = extends-self (IsShownObject (resolve f (flat g.store root.0)) (flat g.store root.0)) g w;
      map = refl;
    }

no-object : (made : Object → Type 0) (o : Object) → IsNone o → made o
no-object made o h = absurd h

pub extends-none : (made : Object → Type 0) (g h : Ground) → Extends IsNone g h → Extends made g h
extends-none made g h a = extends-as IsNone made g h (no-object made) a

-- what is shown of a flat tree
record IsParted (f : Filter) (t : Flat) (g g' : Ground) (result : Result Name ApplyError) : Type 0 where
  ok : IfOk result (λ n. StandsFor g'.store n.0 (seen_through (lens_of f) t))
  err : IfErr result (IsApplyFault (IsShownObject f t) g'.store)
  same : Extends (IsShownObject f t) g g'

-- behind more tables
pub shown-behind : (f : Filter) (root : Bytes) (g h k : Ground) (r : Result Name ApplyError) → has Tree g.store root ≡ true → Extends IsNone g h → h.map ≡ g.map → IsShownBy f root h k r → IsShownBy f root g k r
shown-behind f root g h k r t a m w =
    let same : flat h.store root ≡ flat g.store root = flat-grown g.store h.store root a.store t in
    let x = subst (λ (u : Flat). IsParted f u h k r) same (record { ok = w.ok; err = w.err; same = w.same }) in
    record {
      ok = x.ok;
      err = x.err;
      same = extends-then (IsShownObject f (flat g.store root)) g h k (extends-none (IsShownObject f (flat g.store root)) g h a) x.same;
      map = w.map ∙ m;
    }

-- what a call leaves of a store
record IsPut (f : Filter) (t : Flat) (S T : List Object) (result : Result Name ApplyError) : Type 0 where
  ok : IfOk result (λ n. StandsFor T n.0 (seen_through (lens_of f) t))
  err : IfErr result (IsApplyFault (IsShownObject f t) T)
  grown : IsGrownBy (IsShownObject f t) S T

-- what is shown by a table
pub shown-of : (g : Ground) (f : Filter) (number : ℕ) (root : Name) (table : Table) (S : List Object) (memo : Memo) (r : Result Name ApplyError) → IsGround g → HasAt g.tables f number → slice_get g.tables number ≡ Some table
    → IfOk r (λ n. StandsFor S n.0 (seen_through (lens_of (shape table.filter)) (flat g.store root.0)))
    → IfErr r (IsApplyFault (IsShownObject (shape table.filter) (flat g.store root.0)) S)
    → IsGrownBy (IsShownObject (shape table.filter) (flat g.store root.0)) g.store S
    → IsTrueFor S table number memo → KeepsOthers number g.memo memo
    → IsShownBy f root.0 g (record g { store = S; memo = memo }) r
shown-of g f number root table S memo r w h e ok err grown own others =
    let is : shape table.filter ≡ f = ap (λ (t : Table). shape t.filter) (same_Some table h.0 (sym e ∙ h.1)) ∙ h.2 in
    let x = subst (λ (k : Filter). IsPut k (flat g.store root.0) g.store S r) is (record { ok = ok; err = err; grown = grown }) in
    record {
      ok = x.ok;
      err = x.err;
      same = record {
        graph = refl;
        rule = refl;
        tables = front-self g.tables;
        store = x.grown;
        ground = record {
          graph = graph-grown g.store S grown g.graph w.graph;
          memo = stay_true g.store S g.tables number table g.memo memo grown e w.memo own others;
          maps = maps-grown g.store S grown g.graph w.graph g.true_maps w.maps;
        };
      };
      map = refl;
    }

-- ---- calls that fail, and what follows a call

pub tables-after : (old new : List Table) (f : Filter) (r : Result Resolved AllocError) → IfOk r (λ x. Interns old new f x.table) → OnErr r (new ≡ old) → AreInFront old new
tables-after old new f (Ok x) h e = interned-front old new f x.table h
tables-after old new f (Err d) h e = ([], append-nil old ∙ sym e)

pub shown-failed : (f : Filter) (root : Bytes) (g h : Ground) (r : Result Name ApplyError) → IsGround g → Extends IsNone g h → h.map ≡ g.map → r ≡ Err OutOfMemory → IsShownBy f root g h r
shown-failed f root g h r w a m e = record {
  ok = subst (λ q. IfOk q (λ n. StandsFor h.store n.0 (seen_through (lens_of f) (flat g.store root)))) (sym e) tt;
  err = subst (λ q. IfErr q (IsApplyFault (IsShownObject f (flat g.store root)) h.store)) (sym e) tt;
  same = extends-none (IsShownObject f (flat g.store root)) g h a;
  map = m;
}

-- what was asked last now
pub asked-now : (f : Filter) (g h : Ground) (made : Object → Type 0) (a : Asked) (root shown' : Name) → has Tree g.store root.0 ≡ true → Extends made g h → IsAskedFor f h a
    → StandsFor h.store shown'.0 (seen_through (lens_of (resolve f (flat g.store root.0))) (flat g.store root.0)) → IsAskedFor f h (record a { last = Some (root, shown') })
asked-now f g h made a root shown' t e k s = record {
  table = k.table;
  leaf = k.leaf;
  last = (
    has-grown g.store h.store Tree root.0 e.store t,
    subst (λ (u : Flat). StandsFor h.store shown'.0 (shown f u)) (sym (flat-grown g.store h.store root.0 e.store t)) (subst (λ (u : Flat). StandsFor h.store shown'.0 u) (sym (shown-is f (flat g.store root.0))) s),
  );
}

-- the table that is the filter's for every tree
pub asked-first : (f : Filter) (t : Flat) (g : Ground) (number : ℕ) (ts : List Table) (o : Option Path) → o ≡ place f → false ≡ is_some o → HasAt ts (resolve f t) number → IsAskedFor f (record g { tables = ts }) (record { table = Some number; last = None; leaf = None })
asked-first f t g number ts (Some p) e n h = absurd (true≢false (sym n))
asked-first f t g number ts None e n h = record { table = λ u. subst (λ (k : Filter). HasAt ts k number) (same-resolve f t u e) h; last = tt; leaf = tt }

-- the leaf that stood last
pub leaf-again : (f : Filter) (g : Ground) (a : Asked) (last leaf : Option Leaf) (n : ℕ) → IsAskedFor f g a → a.leaf ≡ Some (last, n) → last ≡ leaf → HasAt g.tables (with_leaf f (found_value g.store leaf)) n
leaf-again f g a last leaf n k e same =
    let kept = subst (λ (o : Option (Option Leaf × ℕ)). IfSome o (λ p. IsNumbered f g.store g.tables p.0 p.1)) e k.leaf in
    subst (λ (x : Option Leaf). HasAt g.tables (with_leaf f (found_value g.store x)) n) same kept.there

-- the leaf that stood last now
pub leaf-now : (f : Filter) (g : Ground) (a : Asked) (ts : List Table) (leaf : Option Leaf) (n : ℕ) → IsGround g → AreInFront g.tables ts → IsAskedFor f g a → IsHeldLeaf g.store leaf → HasAt ts (with_leaf f (found_value g.store leaf)) n
    → IsAskedFor f (record g { tables = ts }) (record a { leaf = Some (leaf, n) })
leaf-now f g a ts leaf n w t k held there =
    let h : Ground = record g { tables = ts } in
    let e : Extends IsNone g h = ground-tables IsNone g ts w t in
    record { table = table-grown f g h IsNone e a.table k.table; last = last-grown f g h IsNone e a.last k.last; leaf = record { held = held; there = there } }

pub asked-same : (f : Filter) (g h : Ground) (a : Asked) (es : Entries) → h ≡ record g { map = es } → IsAskedFor f g a → IsAskedFor f h a
asked-same f g h a es q k = subst (λ (x : Ground). IsAskedFor f x a) (sym q) (record { table = k.table; last = k.last; leaf = k.leaf })
