-- What `put` answers, by what is wrong with the body and by what is held under the name.
use Rattle.std.proofs.Common.{◌≡◌, true, false, cond, List, ◌∷◌, Option, Some, None, refl, sym, ap, ◌∙◌}
use Rattle.std.specs.Option.{is_none, is_some, option_map, option_map_or}
use Rattle.git_objects.specs.Paths.{Bytes, is_bytes}
use Rattle.git_objects.specs.Names.{name}
use Rattle.git_objects.specs.Commits.{Commit}
use Rattle.git_objects.specs.Bodies.{tree_entries}
use Rattle.git_objects.specs.CommitBodies.{commit_from}
use Rattle.git_objects.specs.declared.entry.Entry.{Entry}
use Rattle.git_objects.specs.declared.kind.Kind.{Kind}
use Rattle.git_objects.specs.declared.kind.Kind.TheVariants.{Blob, Tree, Commit as CommitKind}
use Rattle.git_objects.proofs.Basics.{and_both}
use Rattle.git_objects.proofs.Maps.{first_some}
use Rattle.object_store.specs.Objects.{Object, find_named, missing_entry, missing_of_commit, is_body}
use Rattle.object_store.specs.Puts.{Refusal, Collides, if_missing, same_object, collision, of_tree, of_commit, of_body, refusal, with_object}
use Rattle.object_store.specs.Errors.{error_of}
use Rattle.object_store.proofs.Finding.{found_name}

missing_first : (o : Option Bytes) (later : Option Refusal) → if_missing o later ≡ first_some (if_missing o None) later
missing_first None later = refl
missing_first (Some n) later = refl

tree_first : (S : List Object) (o : Option (List Entry)) (later : Option Refusal) → of_tree S o later ≡ first_some (of_tree S o None) later
tree_first S None later = refl
tree_first S (Some es) later = missing_first (missing_entry S es) later

commit_first : (S : List Object) (o : Option Commit) (later : Option Refusal) → of_commit S o later ≡ first_some (of_commit S o None) later
commit_first S None later = refl
commit_first S (Some c) later = missing_first (missing_of_commit S c) later

-- what is wrong with the body comes first
body_first : (S : List Object) (k : Kind) (b : Bytes) (later : Option Refusal) → of_body S k b later ≡ first_some (of_body S k b None) later
body_first S Blob b later = refl
body_first S Tree b later = tree_first S (tree_entries b) later
body_first S CommitKind b later = commit_first S (commit_from b) later

-- ---- no fault of the body

pub fits : (S : List Object) (k : Kind) (b : Bytes) → of_body S k b None ≡ None → is_bytes b ≡ true → is_body S k b ≡ true
fits S k b fine h = by k fine
  where
    none_missing : (o : Option Bytes) → if_missing o None ≡ None → is_none o ≡ true
    none_missing None g = refl
    none_missing (Some n) g = cc

    tree : (o : Option (List Entry)) → of_tree S o None ≡ None → option_map_or (λ es. is_none (missing_entry S es)) o false ≡ true
    tree None g = cc
    tree (Some es) g = none_missing (missing_entry S es) g

    commit : (o : Option Commit) → of_commit S o None ≡ None → option_map_or (λ c. is_none (missing_of_commit S c)) o false ≡ true
    commit None g = cc
    commit (Some c) g = none_missing (missing_of_commit S c) g

    by : (k : Kind) → of_body S k b None ≡ None → is_body S k b ≡ true
    by Blob g = h
    by Tree g = and_both h (tree (tree_entries b) g)
    by CommitKind g = and_both h (commit (commit_from b) g)

pub no_fault : (o : Option Refusal) → None ≡ option_map error_of o → o ≡ None
no_fault None h = refl
no_fault (Some r) h = cc

module _ (S : List Object) (k : Kind) (b : Bytes) (fine : None ≡ option_map error_of (of_body S k b None)) where
  refusal_is : refusal S k b ≡ collision k b (find_named S (name k b))
  refusal_is = body_first S k b (collision k b (find_named S (name k b))) ∙ ap (λ o. first_some o (collision k b (find_named S (name k b)))) (no_fault _ fine)

  -- the same object is
  same_answer : (o : Option Object) → Some true ≡ option_map (same_object k b) o → (collision k b o ≡ None) × (is_some o ≡ true)
  same_answer None h = cc
  same_answer (Some o) h = let same : same_object k b o ≡ true = cc in (ap (λ t. cond t None (Some (Collides (name k b)))) same, refl)

  pub same_refusal : Some true ≡ option_map (same_object k b) (find_named S (name k b)) → refusal S k b ≡ None
  same_refusal h = refusal_is ∙ (same_answer (find_named S (name k b)) h).0

  pub same_objects : Some true ≡ option_map (same_object k b) (find_named S (name k b)) → S ≡ with_object S k b
  same_objects h = sym (ap (λ t. cond t S (record { kind = k; body = b } ∷ S)) (found_name S (name k b) ∙ (same_answer (find_named S (name k b)) h).1))

  -- nothing is held under the name
  no_object : (o : Option Object) → None ≡ option_map (same_object k b) o → o ≡ None
  no_object None h = refl
  no_object (Some o) h = cc

  pub new_refusal : find_named S (name k b) ≡ None → refusal S k b ≡ None
  new_refusal h = refusal_is ∙ ap (collision k b) h

  pub new_objects : find_named S (name k b) ≡ None → record { kind = k; body = b } ∷ S ≡ with_object S k b
  new_objects h = sym (ap (λ t. cond t S (record { kind = k; body = b } ∷ S)) (found_name S (name k b) ∙ ap is_some h))

  pub is_new_object : None ≡ option_map (same_object k b) (find_named S (name k b)) → find_named S (name k b) ≡ None
  is_new_object h = no_object (find_named S (name k b)) h
