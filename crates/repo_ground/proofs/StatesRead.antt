-- A state of what was read has what items hold.
use Rattle.std.proofs.Common.{◌≡◌, ℕ, zero, suc, ◌<◌, Bool, true, false, cond, ◌||◌, List, [], ◌∷◌, length, take, get_or, Contains, Option, Some, None, refl, sym, ap, subst, ◌∙◌, arith}
use Rattle.git_objects.specs.Paths.{Bytes, same_bytes}
use Rattle.git_objects.specs.Refs.{Refs}
use Rattle.git_objects.proofs.Basics.{same_bytes-back, same_bytes-self}
use Rattle.object_store.specs.Objects.{Object, object_name, find_named, has_name, IsStore}
use Rattle.commit_map.specs.Rules.{rule_number}
use Rattle.commit_map.specs.Shown.{Entries, kept_at}
use Rattle.commit_graph.specs.Graphs.{Row}
use Rattle.filter_apply.proofs.Truths.{all_none_true}
use Rattle.filter_cache.specs.Memos.{Memo}
use Rattle.projection_laws.specs.StoredGraphs.{IsGraphIn}
use Rattle.projection_ground.specs.Grounds.{IsGround, commits_of}
use Rattle.projection_ground.specs.TrueMaps.{AreTrueMaps}
use Rattle.projection_ground.specs.declared.true_maps.TrueMap.{TrueMap}
use Rattle.state_items.specs.Arrivals.{rows_of}
use Rattle.state_items.specs.Changes.{with_refs}
use Rattle.state_items.specs.Items.{Held}
use Rattle.state_items.specs.KeptMaps.{RuleMaps, entries_at}
use Rattle.state_items.specs.Readings.{Gathered, Holds}
use Rattle.ref_store.specs.Refs.{AreDistinct}
use Rattle.repo_ground.specs.Contents.{Contents, Spells, is_selected}
use Rattle.repo_ground.specs.Loads.{new_memo}
use Rattle.repo_ground.proofs.RowsGround.{rows_ground}

or-left : (a b : Bool) → (a || b) ≡ false → a ≡ false
or-left true b h = h
or-left false b h = refl

or-right : (a b : Bool) → (a || b) ≡ false → b ≡ false
or-right true b h = absurd (cc h)
or-right false b h = h

-- an object whose name another hasn't
apart-at : (S : List Object) (n : Bytes) (k : ℕ) (d : Object) → k < length S → has_name S n ≡ false → same_bytes (object_name (get_or S k d)) n ≡ false
unfolding has_name
apart-at [] n k d lt h = absurd (omega arith)
apart-at (o ∷ S) n zero d lt h = or-left (same_bytes (object_name o) n) (has_name S n) h
apart-at (o ∷ S) n (suc k) d lt h = apart-at S n k d (omega arith) (or-right (same_bytes (object_name o) n) (has_name S n) h)

found-at : (S : List Object) (k : ℕ) (d : Object) → k < length S → IsStore S → find_named S (object_name (get_or S k d)) ≡ Some (get_or S k d)
unfolding find_named
found-at [] k d lt s = absurd (omega arith)
found-at (o ∷ S) zero d lt s = ap (λ b. cond b (Some o) (find_named S (object_name o))) (same_bytes-self (object_name o))
found-at (o ∷ S) (suc k) d lt s =
    let less : k < length S = omega arith in
    ap (λ b. cond b (Some o) (find_named S (object_name (get_or S k d)))) (same_bytes-back (object_name o) (object_name (get_or S k d)) ∙ apart-at S (object_name o) k d less s.1)
    ∙ found-at S k d less s.2

-- an object of a store is found by its name
pub found-in : (S : List Object) → IsStore S → (o : Object) → Contains S o → find_named S (object_name o) ≡ Some o
found-in S s o m = subst (λ (x : Object). find_named S (object_name x) ≡ Some x) m.2 (found-at S m.0 o m.1 s)

-- what a state has of what was read
pub record IsReadInto (v : Gathered) (s : Contents) : Type 0 where
  pub store : s.basis.store ≡ v.objects
  pub names : s.names ≡ v.names
  pub graph : s.basis.graph ≡ v.rows
  pub known : s.blobs ≡ v.blobs
  pub refs : s.refs ≡ v.refs
  pub maps : s.maps ≡ v.maps
  pub rule : rule_number s.basis.rule ≡ v.rule
  pub tags : s.tags ≡ v.tags
  pub none : s.selected ≡ None
  pub kept : s.kept ≡ 0

spells-read : (h : Held) (v : Gathered) (s : Contents) → IsReadInto v s → Holds h v → Spells h s
spells-read h v s r g =
    let e : s.basis.store ≡ h.objects = r.store ∙ g.objects in
    record {
      store = g.store;
      room = g.room;
      within = λ o m. ap (λ (S : List Object). find_named S (object_name o)) e ∙ found-in h.objects g.store o m;
      names = r.names ∙ g.names;
      graph = r.graph ∙ g.graph;
      known = r.known ∙ g.known;
      distinct = subst (λ (rs : Refs). AreDistinct rs) (sym r.refs) g.distinct;
      refs = ap (λ (rs : Refs). with_refs [] rs) r.refs ∙ g.refs;
      heads = g.heads;
      entries = λ text rule n k.
          ap (λ (es : Entries). kept_at n es)
          (ap (λ (o : Option (Bytes × ℕ)). cond (is_selected o text rule) (take s.kept s.basis.map) (entries_at rule text s.maps)) r.none
          ∙ ap (λ (m : RuleMaps). entries_at rule text m) r.maps
          ∙ g.kept text rule k);
      few = omega (arith, r.kept);
      rule = r.rule ∙ g.rule;
      tags = r.tags ∙ g.tags;
      rising = g.rising;
    }

-- its ground, with a new memo
ground-read : (h : Held) (v : Gathered) (s : Contents) → IsReadInto v s → Holds h v → s.basis.memo ≡ new_memo → s.basis.true_maps ≡ [] → IsGround s.basis
ground-read h v s r g m n =
    let of : IsGraphIn h.objects (rows_of h.objects) = rows_ground h.objects h.objects g.store g.store (found-in h.objects g.store) in
    let S : IsGraphIn s.basis.store (rows_of h.objects) = subst (λ (S : List Object). IsGraphIn S (rows_of h.objects)) (sym (r.store ∙ g.objects)) of in
    record {
      graph = subst (λ (rows : List Row). IsGraphIn s.basis.store rows) (sym (r.graph ∙ g.graph)) S;
      memo = all_none_true s.basis.store s.basis.tables s.basis.memo (ap (λ (x : Memo). x.entries) m) (ap (λ (x : Memo). x.joins) m);
      maps = subst (λ (ms : List TrueMap). AreTrueMaps s.basis.store (commits_of s.basis) ms) (sym n) tt;
    }

pub whole-read : (h : Held) (v : Gathered) (s : Contents) → IsReadInto v s → s.basis.memo ≡ new_memo → s.basis.true_maps ≡ [] → Holds h v → Spells h s × IsGround s.basis
whole-read h v s r m n g = (spells-read h v s r g, ground-read h v s r g m n)
