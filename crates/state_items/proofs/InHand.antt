-- Whatever is brought is in hand.
use Rattle.std.proofs.Common.{◌≡◌, true, false, ◌||◌, List, [], ◌∷◌, ◌++◌, map, Contains, refl, sym, subst, true≢false}
use Rattle.std.specs.Cmp.{first_so, second_so}
use Rattle.std.specs.Cmp.Lexicographic.{bytes_decides}
use Rattle.std.specs.List.{flat_map, list_all, list_any}
use Rattle.std.proofs.lemmas.List.Elements.{All-contains, Contains-append_right}
use Rattle.git_objects.specs.Lists.{Each}
use Rattle.git_objects.specs.Paths.{Bytes, same_bytes}
use Rattle.git_objects.specs.Snapshots.{Snapshot}
use Rattle.git_objects.specs.Trees.{Leaf, FileLeaf, ExecLeaf, LinkLeaf, ModuleLeaf, Flat}
use Rattle.git_objects.specs.declared.kind.Kind.{Kind}
use Rattle.git_objects.specs.declared.kind.Kind.TheVariants.{Blob, Tree, Commit as CommitKind}
use Rattle.object_store.specs.Objects.{Object}
use Rattle.object_store.specs.StoredSnapshots.{blobs_in, snapshot_object}
use Rattle.object_store.specs.TreeObjects.{leaf_objects, tree_objects}
use Rattle.state_items.specs.Items.{Held}
use Rattle.state_items.specs.Repos.{repo}
use Rattle.state_items.specs.Changes.{blob_object, commit_objects, objects_of}
use Rattle.state_items.specs.Imported.{AreWhole, IsWhole, has_leaves}
use Rattle.state_items.specs.Hands.{IsInHand, HandLaw, HeldObject, BlobRead, CommitMade, TreeMade}
use Rattle.state_items.proofs.Imports.{any-cases}
use Rattle.state_items.proofs.TreeParts.{all-each, below-made, each-map, each-member, tree-each}
use Rattle.state_items.proofs.TreesHeld.{each-both}
use Rattle.state_items.proofs.Twices.{once-same}

-- what a list has by a test it has as a member
pub any-member : (b : Bytes) (xs : List Bytes) → list_any (same_bytes b) xs ≡ true → Contains xs b
any-member b [] e = absurd (true≢false (sym e))
any-member b (x ∷ xs) e =
    elim (same_bytes b x) as (λ t. same_bytes b x ≡ t → (t || list_any (same_bytes b) xs) ≡ true → Contains (x ∷ xs) b) [
      | true ↦ λ g k. subst (Contains (x ∷ xs)) (sym ((bytes_decides b x).0 g)) (each-member (x ∷ xs)).0
      | false ↦ λ g k. Contains-append_right (x ∷ []) xs b (any-member b xs k)
    ] refl e

-- a known blob is an object that is held
pub known-held : (b : Bytes) (H : List Object) → list_any (same_bytes b) (blobs_in H) ≡ true → Contains H (blob_object b)
known-held b [] e = absurd (true≢false (sym e))
known-held b (o ∷ H) e = by o.kind o.body (known-held b H) e
  where
    by : (k : Kind) (x : Bytes) → (list_any (same_bytes b) (blobs_in H) ≡ true → Contains H (blob_object b)) → list_any (same_bytes b) (blobs_in (record { kind = k; body = x } ∷ H)) ≡ true → Contains (record { kind = k; body = x } ∷ H) (blob_object b)
    by Blob x f e =
        elim (same_bytes b x) as (λ t. same_bytes b x ≡ t → (t || list_any (same_bytes b) (blobs_in H)) ≡ true → Contains (blob_object x ∷ H) (blob_object b)) [
          | true ↦ λ g k. subst (λ (y : Bytes). Contains (blob_object x ∷ H) (blob_object y)) (sym ((bytes_decides b x).0 g)) (each-member (blob_object x ∷ H)).0
          | false ↦ λ g k. Contains-append_right (blob_object x ∷ []) H (blob_object b) (f k)
        ] refl e
    by Tree x f e = Contains-append_right (record { kind = Tree; body = x } ∷ []) H (blob_object b) (f e)
    by CommitKind x f e = Contains-append_right (record { kind = CommitKind; body = x } ∷ []) H (blob_object b) (f e)

module _ (h : Held) (bs : List Bytes) (cs : List Snapshot) where
  abbrev Hand : Object → Type 0
  Hand o = IsInHand h bs cs o

  pool-hand : (b : Bytes) → list_any (same_bytes b) (bs ++ (repo h).blobs) ≡ true → Hand (blob_object b)
  pool-hand b e =
      any-cases (same_bytes b) bs (repo h).blobs (Hand (blob_object b)) e (λ k. BlobRead b (any-member b bs k) refl) (λ k. HeldObject (known-held b h.objects k))

  leaf-hand : (x : Leaf) → list_all (λ (o : Object). list_any (same_bytes o.body) (bs ++ (repo h).blobs)) (leaf_objects x) ≡ true → Each Hand (leaf_objects x)
  leaf-hand (FileLeaf b) e = (pool-hand b (first_so _ _ e), tt)
  leaf-hand (ExecLeaf b) e = (pool-hand b (first_so _ _ e), tt)
  leaf-hand (LinkLeaf b) e = (pool-hand b (first_so _ _ e), tt)
  leaf-hand (ModuleLeaf n) e = tt

  leaves-hand : (t : Flat) → has_leaves (bs ++ (repo h).blobs) t ≡ true → Each (λ e. Each Hand (leaf_objects e.1)) t
  leaves-hand [] e = tt
  leaves-hand (d ∷ t) e = (leaf-hand d.1 (first_so _ _ e), leaves-hand t (second_so (list_all (λ o. list_any (same_bytes o.body) (bs ++ (repo h).blobs)) (leaf_objects d.1)) _ e))

  commit-hand : (c : Snapshot) → Contains cs c → IsWhole c → has_leaves (bs ++ (repo h).blobs) c.tree ≡ true → Each Hand (commit_objects c)
  commit-hand c m w l =
      each-both Hand (tree_objects c.tree) (snapshot_object c ∷ []) (tree-each Hand c.tree w.tree (leaves-hand c.tree l) (λ p. TreeMade c m (below-made c.tree p w.tree))) (CommitMade c m refl, tt)

  commits-hand : (ds known : List Snapshot) → Each (Contains cs) ds → AreWhole known ds → list_all (λ (c : Snapshot). has_leaves (bs ++ (repo h).blobs) c.tree) ds ≡ true → Each Hand (flat_map commit_objects ds)
  commits-hand [] known m w l = tt
  commits-hand (c ∷ ds) known m w l =
      each-both Hand (commit_objects c) (flat_map commit_objects ds) (commit-hand c m.0 w.0 (first_so _ _ l)) (commits-hand ds (c ∷ known) m.1 w.2 (second_so (has_leaves (bs ++ (repo h).blobs) c.tree) _ l))

  blobs-hand : (xs : List Bytes) → Each (Contains bs) xs → Each Hand (map blob_object xs)
  blobs-hand [] m = tt
  blobs-hand (b ∷ xs) m = (BlobRead b m.0 refl, blobs-hand xs m.1)

  all-hand : AreWhole (repo h).commits cs → list_all (λ (c : Snapshot). has_leaves (bs ++ (repo h).blobs) c.tree) cs ≡ true → Each Hand (h.objects ++ objects_of bs cs)
  all-hand w l =
      each-both Hand h.objects (objects_of bs cs) (each-map (Contains h.objects) Hand h.objects (λ o m. HeldObject m) (each-member h.objects))
      (each-both Hand (map blob_object bs) (flat_map commit_objects cs) (blobs-hand bs (each-member bs)) (commits-hand cs (repo h).commits (each-member cs) w l))

  pub in-hand : AreWhole (repo h).commits cs → list_all (λ (c : Snapshot). has_leaves (bs ++ (repo h).blobs) c.tree) cs ≡ true → (o : Object) → Contains (h.objects ++ objects_of bs cs) o → Hand o
  in-hand w l o m = All-contains Hand (h.objects ++ objects_of bs cs) o (all-each Hand (h.objects ++ objects_of bs cs) (all-hand w l)) m

pub hand-law : HandLaw
hand-law = record {
  in_hand = λ h bs cs w l o m. in-hand h bs cs w l o m;
  apart = λ h bs cs w l f o d m n e. once-same (IsInHand h bs cs) f o d (in-hand h bs cs w l o m) (in-hand h bs cs w l d n) e;
}
