-- A stage after a copy.
use Rattle.std.proofs.Common.{◌≡◌, ℕ, ◌≤◌, ◌⊎◌, Bool, true, false, List, length, Option, Some, None, IfSome, Result, IsOkAnd, Ok, Err, refl, sym, subst, arith}
use Rattle.std.specs.Prelude.{nat_le, if◌then◌else◌}
use Rattle.git_objects.specs.declared.limits.TheConstants.{TREE_FILES}
use Rattle.git_objects.specs.Paths.{Path, is_path}
use Rattle.git_objects.specs.Results.{◌>>=◌, or_refuse}
use Rattle.git_objects.specs.Trees.{Flat, Node as FlatNode, put, standing}
use Rattle.git_objects.proofs.Pointwise.{IsNode, put-tree}
use Rattle.git_objects.proofs.Standing.{standing_node}
use Rattle.object_store.specs.Objects.{Object}
use Rattle.stage_tree.specs.declared.fault.StageFault.{StageFault}
use Rattle.stage_tree.specs.declared.fault.StageFault.TheVariants.{NoSource, TooMany}
use Rattle.stage_nodes.specs.declared.nodes.Nodes.{Nodes}
use Rattle.stage_nodes.specs.Branches.{Stands}
use Rattle.stage_tree.specs.Copies.{IsCopyTo}
use Rattle.stage_tree.specs.Edits.{IsEdited, copied, few_files, within_paths}
use Rattle.stage_nodes.specs.Roots.{IsOpened}
use Rattle.stage_tree.specs.Stages.{Shows, Staged, staged}
use Rattle.stage_nodes.specs.Ways.{IsOpen}
use Rattle.stage_tree.proofs.Staging.{as_test, shows_open, shows_still}

pub copy_open : (S : List Object) (s s' : Nodes) (left : Result Flat StageFault) (r : Result ℕ StageFault) → IsCopyTo S s s' left r → IsOpen S s'
copy_open S s s' (Ok t) (Ok m) h = h.done.0
copy_open S s s' (Err e) (Ok m) h = absurd h.done
copy_open S s s' left (Err e) h = h.refused.0.opened

abbrev by_test : Bool → Flat → Result Flat StageFault
by_test b u = if b then Ok u else Err TooMany

module _ (t : Flat) (s p : Path) where
  -- what is left is made of what stood there
  copy_of : (P Q : Flat → Type 0) → ((n : FlatNode) → standing t s ≡ Some n → P (put t p n) → Q (put t p n)) → IsOkAnd (copied t s p) P → IsOkAnd (copied t s p) Q
  copy_of P Q f = by (standing t s) refl
    where
      few : (n : FlatNode) → standing t s ≡ Some n → (b : Bool) → IsOkAnd (by_test b (put t p n)) P → IsOkAnd (by_test b (put t p n)) Q
      few n e true h = f n e h
      few n e false h = h

      more : (n : FlatNode) → standing t s ≡ Some n → (r : Result (Unit {0}) StageFault) → IsOkAnd (r >>= λ _. few_files (put t p n)) P → IsOkAnd (r >>= λ _. few_files (put t p n)) Q
      more n e (Ok u) h = few n e (nat_le (length (put t p n)) TREE_FILES) h
      more n e (Err x) h = h

      by : (o : Option FlatNode) → standing t s ≡ o → IsOkAnd (or_refuse NoSource o >>= λ x. within_paths p x >>= λ _. few_files (put t p x)) P → IsOkAnd (or_refuse NoSource o >>= λ x. within_paths p x >>= λ _. few_files (put t p x)) Q
      by None e h = h
      by (Some n) e h = more n e (within_paths p n) h

module _ (S : List Object) (s s0 s' : Nodes) (m : ℕ) (v : Staged) (e : staged s m ≡ v) (o : IsOpened S s s0) (t : Flat) (h : Shows S v t) (from to : Path) where
  pub copy_refused : (f x : StageFault) → x ≡ f → IsCopyTo S s0 s' (copied t from to) (Err f) → IsEdited {A = Unit {0}} S (staged s' m) t (copied t from to) (Err x)
  copy_refused f x q d = record { done = tt; refused = (shows_still S s s0 s' m v t e o d.refused.0 h, by d.refused.1) }
    where
      by : (f ≡ Rattle.stage_tree.specs.declared.fault.StageFault.TheVariants.OutOfMemory) ⊎ (copied t from to ≡ Err f) → (x ≡ Rattle.stage_tree.specs.declared.fault.StageFault.TheVariants.OutOfMemory) ⊎ (copied t from to ≡ Err x)
      by = subst (λ (y : StageFault). (f ≡ Rattle.stage_tree.specs.declared.fault.StageFault.TheVariants.OutOfMemory) ⊎ (copied t from to ≡ Err f) → (y ≡ Rattle.stage_tree.specs.declared.fault.StageFault.TheVariants.OutOfMemory) ⊎ (copied t from to ≡ Err y)) (sym q) (λ g. g)

  module _ (valid : is_path to ≡ true) where
    is_node : (n : FlatNode) → standing t from ≡ Some n → IsNode n
    is_node n g = subst (λ (x : Option FlatNode). IfSome x IsNode) g (standing_node t from h.tree)

    pub copy_shown : (m' : ℕ) → IsCopyTo S s0 s' (copied t from to) (Ok m') → IsEdited {A = Unit {0}} S (staged s' m') t (copied t from to) (Ok tt)
    copy_shown m' d = record {
      done = copy_of t from to (λ x. IsOpen S s' × Stands S s' x × (length x ≤ m')) (Shows S (staged s' m'))
          (λ n g k. shows_open S s' m' (put t to n) h.store k.0 (put-tree t to n h.tree (as_test (is_path to) valid) (is_node n g)) k.1 (omega (arith, k.2))) d.done;
      refused = tt;
    }
