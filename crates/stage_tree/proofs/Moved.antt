-- A stage after a move.
use Rattle.std.proofs.Common.{◌≡◌, ℕ, true, List, Option, Some, None, IfSome, Result, IsOkAnd, Ok, Err, refl, subst}
use Rattle.git_objects.specs.Paths.{Path, is_path}
use Rattle.git_objects.specs.Results.{◌>>=◌, or_refuse}
use Rattle.git_objects.specs.Trees.{Flat, Node as FlatNode, put, remove, standing}
use Rattle.git_objects.proofs.Pointwise.{IsNode, put-tree, remove-tree}
use Rattle.git_objects.proofs.Standing.{standing_node}
use Rattle.object_store.specs.Objects.{Object}
use Rattle.stage_tree.specs.declared.fault.StageFault.{StageFault}
use Rattle.stage_tree.specs.declared.fault.StageFault.TheVariants.{NoSource}
use Rattle.stage_nodes.specs.declared.nodes.Nodes.{Nodes}
use Rattle.stage_nodes.specs.Branches.{Stands}
use Rattle.stage_tree.specs.Edits.{IsEdited, renamed, within_paths}
use Rattle.stage_tree.specs.Renames.{IsEditedTo}
use Rattle.stage_nodes.specs.Roots.{IsOpened}
use Rattle.stage_tree.specs.Stages.{Shows, Staged, staged}
use Rattle.stage_nodes.specs.Ways.{IsOpen}
use Rattle.stage_tree.proofs.Fewer.{rename_few}
use Rattle.stage_tree.proofs.Staging.{as_test, most_stays, shows_open, shows_still}

pub edited_open : (S : List Object) (s s' : Nodes) (left : Result Flat StageFault) (r : Result (Unit {0}) StageFault) → IsEditedTo S s s' left r → IsOpen S s'
edited_open S s s' (Ok t) (Ok u) h = h.done.0
edited_open S s s' (Err e) (Ok u) h = absurd h.done
edited_open S s s' left (Err e) h = h.refused.0.opened

module _ (t : Flat) (s p : Path) where
  -- what is left is made of what stood there
  left_of : (P Q : Flat → Type 0) → ((n : FlatNode) → standing t s ≡ Some n → P (put (remove t s) p n) → Q (put (remove t s) p n)) → IsOkAnd (renamed t s p) P → IsOkAnd (renamed t s p) Q
  left_of P Q f = by (standing t s) refl
    where
      more : (n : FlatNode) → standing t s ≡ Some n → (r : Result (Unit {0}) StageFault) → IsOkAnd (r >>= λ _. Ok (put (remove t s) p n)) P → IsOkAnd (r >>= λ _. Ok (put (remove t s) p n)) Q
      more n e (Ok u) h = f n e h
      more n e (Err x) h = h

      by : (o : Option FlatNode) → standing t s ≡ o → IsOkAnd (or_refuse NoSource o >>= λ x. within_paths p x >>= λ _. Ok (put (remove t s) p x)) P → IsOkAnd (or_refuse NoSource o >>= λ x. within_paths p x >>= λ _. Ok (put (remove t s) p x)) Q
      by None e h = h
      by (Some n) e h = more n e (within_paths p n) h

module _ (S : List Object) (s s0 s' : Nodes) (m : ℕ) (v : Staged) (e : staged s m ≡ v) (o : IsOpened S s s0) (t : Flat) (h : Shows S v t) (from to : Path) (valid : is_path to ≡ true) where
  is_node : (n : FlatNode) → standing t from ≡ Some n → IsNode n
  is_node n g = subst (λ (x : Option FlatNode). IfSome x IsNode) g (standing_node t from h.tree)

  made : (n : FlatNode) → standing t from ≡ Some n → IsOpen S s' × Stands S s' (put (remove t from) to n) → Shows S (staged s' m) (put (remove t from) to n)
  made n g d =
      shows_open S s' m (put (remove t from) to n) h.store d.0 (put-tree (remove t from) to n (remove-tree t from h.tree) (as_test (is_path to) valid) (is_node n g)) d.1
      (most_stays S s m v t (put (remove t from) to n) e h (rename_few t from to n g))

  pub shows_moved : (r : Result (Unit {0}) StageFault) → IsEditedTo S s0 s' (renamed t from to) r → IsEdited S (staged s' m) t (renamed t from to) r
  shows_moved (Ok u) d = record { done = left_of t from to (λ x. IsOpen S s' × Stands S s' x) (Shows S (staged s' m)) made d.done; refused = tt }
  shows_moved (Err x) d = record { done = tt; refused = (shows_still S s s0 s' m v t e o d.refused.0 h, d.refused.1) }
