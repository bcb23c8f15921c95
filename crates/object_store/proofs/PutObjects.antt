-- An object that was put: what the store is then, and that a commit fits whose tree and parents are there.
use Rattle.std.proofs.Common.{◌≡◌, ◌⊎◌, inl, inr, zero, suc, arith, true, false, cond, List, [], ◌∷◌, Option, Some, None, Contains, refl, sym, ap, ◌∙◌}
use Rattle.std.specs.Option.{is_some}
use Rattle.std.specs.Cmp.{first_so, second_so}
use Rattle.std.specs.Cmp.Lexicographic.{bytes_decides}
use Rattle.git_objects.specs.Lists.{Each}
use Rattle.git_objects.specs.Paths.{Bytes}
use Rattle.git_objects.specs.Names.{name}
use Rattle.git_objects.specs.Bodies.{tree_entries}
use Rattle.git_objects.specs.CommitBodies.{commit_from}
use Rattle.git_objects.specs.Commits.{Commit}
use Rattle.git_objects.specs.declared.entry.Entry.{Entry}
use Rattle.git_objects.specs.declared.kind.Kind.{Kind}
use Rattle.git_objects.specs.declared.kind.Kind.TheVariants.{Blob, Tree, Commit as CommitKind}
use Rattle.git_objects.specs.declared.name.Name.{Name}
use Rattle.git_objects.proofs.Basics.{same_bytes-self}
use Rattle.object_store.specs.Errors.{refusal_told}
use Rattle.object_store.specs.Growth.{IsClash, IsGrownBy, IsOnly}
use Rattle.object_store.specs.Objects.{Object, find_named, has, missing_entry, missing_of_commit, missing_parent, IsStore}
use Rattle.object_store.specs.declared.store.PutError.{PutError}
use Rattle.object_store.specs.declared.store.PutError.TheVariants.{NotCanonical, MissingChild, Collision, OutOfMemory}
use Rattle.object_store.specs.Puts.{Refusal, Collides, Missing, NotBody, collision, same_object, if_missing, of_tree, of_commit, of_body, refusal, with_object}
use Rattle.object_store.proofs.Finding.{found_name}
use Rattle.object_store.proofs.Held.{kind_is}

module _ (S : List Object) (k : Kind) (b : Bytes) where
  abbrev pub new : Object
  new = record { kind = k; body = b }

  tree_passes : (o : Option (List Entry)) (later : Option Refusal) → of_tree S o None ≡ None → of_tree S o later ≡ later
  tree_passes None later h = cc
  tree_passes (Some es) later h = by (missing_entry S es) h
    where
      by : (m : Option Bytes) → if_missing m None ≡ None → if_missing m later ≡ later
      by None g = refl
      by (Some n) g = cc

  commit_passes : (o : Option Commit) (later : Option Refusal) → of_commit S o None ≡ None → of_commit S o later ≡ later
  commit_passes None later h = cc
  commit_passes (Some c) later h = by (missing_of_commit S c) h
    where
      by : (m : Option Bytes) → if_missing m None ≡ None → if_missing m later ≡ later
      by None g = refl
      by (Some n) g = cc

  -- where the body and its children are fine, what comes behind them decides
  passes : (j : Kind) (later : Option Refusal) → of_body S j b None ≡ None → of_body S j b later ≡ later
  passes Blob later h = refl
  passes Tree later h = tree_passes (tree_entries b) later h
  passes CommitKind later h = commit_passes (commit_from b) later h

  same_object_is : (o : Object) → same_object k b o ≡ true → o ≡ new
  same_object_is o h = λ i. record { kind = kind_is k o.kind (first_so _ _ h) i; body = sym ((bytes_decides b o.body).0 (second_so _ _ h)) i }

  no_collision : (o : Option Object) → collision k b o ≡ None → (o ≡ None) ⊎ (o ≡ Some new)
  no_collision None h = inl refl
  no_collision (Some o) h =
      elim (same_object k b o) as (λ t. same_object k b o ≡ t → cond t None (Some (Collides (name k b))) ≡ None → (Some o ≡ None) ⊎ (Some o ≡ Some new)) [
        | true ↦ λ e g. inr (ap Some (same_object_is o e))
        | false ↦ λ e g. cc
      ] refl h

  -- the store that put left
  pub record IsPut (T : List Object) : Type 0 where
    pub found : find_named T (name k b) ≡ Some new
    pub grown : IsGrownBy (IsOnly k b) S T

  one_more : (T : List Object) → IsStore T → T ≡ new ∷ S → IsPut T
  unfolding find_named
  one_more T s e = record {
    found = ap (λ (R : List Object). find_named R (name k b)) e ∙ ap (λ t. cond t (Some new) (find_named S (name k b))) (same_bytes-self (name k b));
    grown = record { store = s; newer = new ∷ []; above = sym e; all = λ o m. only o m };
  }
    where
      only : (o : Object) → Contains (new ∷ []) o → o ≡ new
      only o (zero, l, e) = sym e
      only o (suc i, l, e) = absurd (omega (arith, l))

  put_by : (T : List Object) (o : Option Object) → o ≡ find_named S (name k b) → IsStore T → T ≡ cond (is_some o) S (new ∷ S) → (o ≡ None) ⊎ (o ≡ Some new) → IsPut T
  put_by T None at s e h = one_more T s e
  put_by T (Some o) at s e (inl h) = cc
  put_by T (Some o) at s e (inr h) = record {
    found = ap (λ (R : List Object). find_named R (name k b)) e ∙ sym at ∙ h;
    grown = record { store = s; newer = []; above = sym e; all = λ o m. absurd (omega (arith, m.1)) };
  }

  pub put_is : (T : List Object) → of_body S k b None ≡ None → refusal S k b ≡ None → IsStore T → T ≡ with_object S k b → IsPut T
  put_is T fine taken s e =
      put_by T (find_named S (name k b)) refl s (e ∙ ap (λ t. cond t S (new ∷ S)) (found_name S (name k b)))
      (no_collision (find_named S (name k b)) (sym (passes k (collision k b (find_named S (name k b))) fine) ∙ taken))

  -- a name that is taken is the object's own
  taken_by : (o : Option Object) (r : Refusal) → collision k b o ≡ Some r → r ≡ Collides (name k b)
  taken_by None r h = cc
  taken_by (Some o) r h =
      elim (same_object k b o) as (λ t. cond t None (Some (Collides (name k b))) ≡ Some r → r ≡ Collides (name k b)) [
        | true ↦ λ g. cc
        | false ↦ λ g. cc
      ] h

  same_name : (m : Bytes) → Collides m ≡ Collides (name k b) → m ≡ name k b
  same_name m h = cc

  no_body : NotBody ≡ Collides (name k b) → ⊥
  no_body h = cc

  no_child : (m : Bytes) → Missing m ≡ Collides (name k b) → ⊥
  no_child m h = cc

  clash_of : (n : Name) → collision k b (find_named S (name k b)) ≡ Some (Collides n.0) → IsClash (IsOnly k b) S n.0
  clash_of n h =
      let own = same_name n.0 (taken_by (find_named S (name k b)) (Collides n.0) h) in
      record { object = new; is_made = refl; held = ap (λ (m : Bytes). collision k b (find_named S m)) own ∙ h }

  -- why an object that fits is not put
  abbrev pub IsOnlyClash : PutError → Type 0
  IsOnlyClash e = (e ≡ OutOfMemory) ⊎ ((n : Name) × (e ≡ Collision n) × IsClash (IsOnly k b) S n.0)

  clash_told : (e : PutError) → collision k b (find_named S (name k b)) ≡ refusal_told e → IsOnlyClash e
  clash_told OutOfMemory h = inl refl
  clash_told (Collision n) h = inr (n, refl, clash_of n h)
  clash_told NotCanonical h = absurd (no_body (taken_by (find_named S (name k b)) NotBody h))
  clash_told (MissingChild n) h = absurd (no_child n.0 (taken_by (find_named S (name k b)) (Missing n.0) h))

  pub only_clash : (e : PutError) → of_body S k b None ≡ None → (e ≡ OutOfMemory) ⊎ (refusal S k b ≡ refusal_told e) → IsOnlyClash e
  only_clash e fine (inl h) = inl h
  only_clash e fine (inr h) = clash_told e (sym (passes k (collision k b (find_named S (name k b))) fine) ∙ h)

-- ---- a commit that is put

none_missing : (S : List Object) (ps : List Bytes) → Each (λ n. has CommitKind S n ≡ true) ps → missing_parent S ps ≡ None
none_missing S [] h = refl
none_missing S (p ∷ ps) h = ap (λ t. cond t (missing_parent S ps) (Some p)) h.0 ∙ none_missing S ps h.1

pub commit_fits : (S : List Object) (c : Commit) (b : Bytes) → has Tree S c.tree ≡ true → Each (λ n. has CommitKind S n ≡ true) c.parents → commit_from b ≡ Some c → of_body S CommitKind b None ≡ None
commit_fits S c b h g e =
    ap (λ o. of_commit S o None) e
    ∙ ap (λ t. if_missing (cond t (missing_parent S c.parents) (Some c.tree)) None) h
    ∙ ap (λ o. if_missing o None) (none_missing S c.parents g)
