-- Looking up in a graph, and what newer commits leave.
use Rattle.std.specs.Prelude.{◌≡◌, refl, Bool, true, false, not, ◌&&◌, ◌||◌, cond, [], ◌∷◌, Some}
use Rattle.std.specs.List.{list_all}
use Rattle.std.proofs.Common.{ap, ◌∙◌, sym, true≢false}
use Rattle.std.proofs.lemmas.Bool.{and_parts, and_from, or_left, or_right}
use Rattle.std.proofs.lemmas.Option.{none-some}
use Rattle.std.specs.Cmp.Lexicographic.{bytes_decides}
use Rattle.git_objects.specs.Paths.{Bytes}
use Rattle.git_objects.proofs.Basics.{same_bytes-self}
use Rattle.git_objects.specs.Snapshots.{Snapshot, Graph, snapshot_name, has_name, has, commit_at, is_graph, add}

-- names distinct, parents older
pub record IsGrown (c : Snapshot) (older : Graph) : Type 0 where
  pub new : has older (snapshot_name c) ≡ false
  pub parents : list_all (has older) c.parents ≡ true
  pub graph : is_graph older ≡ true

not-is : (b : Bool) → not b ≡ true → b ≡ false
not-is true e = absurd (true≢false (sym e))
not-is false e = refl

pub grown : (c : Snapshot) (older : Graph) → is_graph (c ∷ older) ≡ true → IsGrown c older
grown c older e =
    let h : ((not (has older (snapshot_name c)) && list_all (has older) c.parents) ≡ true) × (is_graph older ≡ true) = and_parts (not (has older (snapshot_name c)) && list_all (has older) c.parents) (is_graph older) e in
    let k : (not (has older (snapshot_name c)) ≡ true) × (list_all (has older) c.parents ≡ true) = and_parts (not (has older (snapshot_name c))) (list_all (has older) c.parents) h.0 in
    record { new = not-is (has older (snapshot_name c)) k.0; parents = k.1; graph = h.1 }

pub graph-from : (c : Snapshot) (older : Graph) → has older (snapshot_name c) ≡ false → list_all (has older) c.parents ≡ true → is_graph older ≡ true → is_graph (c ∷ older) ≡ true
graph-from c older e h g = and_from (not (has older (snapshot_name c)) && list_all (has older) c.parents) (is_graph older) (and_from (not (has older (snapshot_name c))) (list_all (has older) c.parents) (ap not e) h) g

-- a name that is there isn't that of a new commit
pub other : (g : Graph) (c : Snapshot) (n : Bytes) → has g (snapshot_name c) ≡ false → has g n ≡ true → has_name n c ≡ false
other g c n e h = by (has_name n c) refl
  where
    by : (b : Bool) → has_name n c ≡ b → b ≡ false
    by true k = absurd (true≢false (sym h ∙ ap (has g) ((bytes_decides n (snapshot_name c)).0 k) ∙ e))
    by false k = refl

pub has-newer : (c : Snapshot) (g : Graph) (n : Bytes) → has g n ≡ true → has (c ∷ g) n ≡ true
has-newer c g n h = or_right (has_name n c) (has g n) h

pub has-self : (c : Snapshot) (g : Graph) → has (c ∷ g) (snapshot_name c) ≡ true
has-self c g = or_left (has_name (snapshot_name c) c) (has g (snapshot_name c)) (same_bytes-self (snapshot_name c))

found-at : (g : Graph) (d : Snapshot) (n : Bytes) (c : Snapshot) (b : Bool) → cond b (Some d) (commit_at g n) ≡ Some c → (commit_at g n ≡ Some c → has g n ≡ true) → (b || has g n) ≡ true
found-at g d n c true e h = refl
found-at g d n c false e h = h e

pub has-found : (g : Graph) (n : Bytes) (c : Snapshot) → commit_at g n ≡ Some c → has g n ≡ true
has-found [] n c e = absurd (none-some c e)
has-found (d ∷ g) n c e = found-at g d n c (has_name n d) e (has-found g n c)

find-at : (g : Graph) (d : Snapshot) (n : Bytes) (b : Bool) → (b || has g n) ≡ true → (has g n ≡ true → (c : Snapshot) × (commit_at g n ≡ Some c)) → (c : Snapshot) × (cond b (Some d) (commit_at g n) ≡ Some c)
find-at g d n true e h = (d, refl)
find-at g d n false e h = h e

pub found : (g : Graph) (n : Bytes) → has g n ≡ true → (c : Snapshot) × (commit_at g n ≡ Some c)
found [] n e = absurd (true≢false (sym e))
found (d ∷ g) n e = find-at g d n (has_name n d) e (found g n)

-- ---- commits that are added

add-at : (g : Graph) (c : Snapshot) (b : Bool) → has g (snapshot_name c) ≡ b → list_all (has g) c.parents ≡ true → is_graph g ≡ true → is_graph (cond b g (c ∷ g)) ≡ true
add-at g c true e h k = k
add-at g c false e h k = graph-from c g e h k

pub add-graph : (g : Graph) (c : Snapshot) → list_all (has g) c.parents ≡ true → is_graph g ≡ true → is_graph (add g c) ≡ true
add-graph g c h k = add-at g c (has g (snapshot_name c)) refl h k

add-has-at : (g : Graph) (c : Snapshot) (b : Bool) → has g (snapshot_name c) ≡ b → has (cond b g (c ∷ g)) (snapshot_name c) ≡ true
add-has-at g c true e = e
add-has-at g c false e = has-self c g

pub add-has : (g : Graph) (c : Snapshot) → has (add g c) (snapshot_name c) ≡ true
add-has g c = add-has-at g c (has g (snapshot_name c)) refl

add-keeps-at : (g : Graph) (c : Snapshot) (n : Bytes) (b : Bool) → has g n ≡ true → has (cond b g (c ∷ g)) n ≡ true
add-keeps-at g c n true h = h
add-keeps-at g c n false h = has-newer c g n h

pub add-keeps : (g : Graph) (c : Snapshot) (n : Bytes) → has g n ≡ true → has (add g c) n ≡ true
add-keeps g c n h = add-keeps-at g c n (has g (snapshot_name c)) h

pub one-parent : (c : Snapshot) (h : Bytes) (g : Graph) → c.parents ≡ h ∷ [] → list_all (has g) c.parents ≡ true → has g h ≡ true
one-parent c h g e k = (and_parts (has g h) true (sym (ap (list_all (has g)) e) ∙ k)).0

pub one-parent-in : (c : Snapshot) (h : Bytes) (g : Graph) → c.parents ≡ h ∷ [] → has g h ≡ true → list_all (has g) c.parents ≡ true
one-parent-in c h g e k = ap (list_all (has g)) e ∙ and_from (has g h) true k refl
