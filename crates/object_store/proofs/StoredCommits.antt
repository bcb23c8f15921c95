-- Commits of a store.
use Rattle.std.proofs.Common.{◌≡◌, true, false, cond, ◌&&◌, ◌||◌, List, [], ◌∷◌, None, Some, refl, sym, ap, ◌∙◌, true≢false}
use Rattle.std.specs.Cmp.{first_so, second_so}
use Rattle.std.specs.declared.option.Option.{Option}
use Rattle.std.specs.Option.{is_none, option_map_or}
use Rattle.git_objects.specs.Paths.{Bytes, is_bytes}
use Rattle.git_objects.specs.Commits.{Commit}
use Rattle.git_objects.specs.CommitBodies.{commit_from}
use Rattle.git_objects.specs.declared.kind.Kind.TheVariants.{Tree, Commit as CommitKind}
use Rattle.git_objects.specs.Lists.{Each}
use Rattle.object_store.specs.StoredSnapshots.{commit_named, IsTreeOf}
use Rattle.object_store.specs.Objects.{Object, is_named, find_named, has, body_of, missing_parent, missing_of_commit, is_body, IsStore}
use Rattle.object_store.proofs.Finding.{has-found}
use Rattle.object_store.proofs.Held.{named_kind}
use Rattle.object_store.specs.StoredSnapshots.{commit_named}
use Rattle.object_store.proofs.Parts.{found-has}
use Rattle.std.proofs.lemmas.Bool.{or_right}

-- a commit's body is read, and its tree and its parents are held
pub record IsHeldCommit (S : List Object) (b : Bytes) : Type 0 where
  pub commit : Commit
  pub read : commit_from b ≡ Some commit
  pub bytes : is_bytes b ≡ true
  pub tree : has Tree S commit.tree ≡ true
  pub parents : Each (λ p. has CommitKind S p ≡ true) commit.parents

parents-held : (S : List Object) (ps : List Bytes) → is_none (missing_parent S ps) ≡ true → Each (λ p. has CommitKind S p ≡ true) ps
parents-held S [] h = tt
parents-held S (p ∷ ps) h =
    elim (has CommitKind S p) as (λ b. has CommitKind S p ≡ b → is_none (cond b (missing_parent S ps) (Some p)) ≡ true → Each (λ p. has CommitKind S p ≡ true) (p ∷ ps)) [
      | true ↦ λ k l. (k, parents-held S ps l)
      | false ↦ λ k l. absurd (true≢false (sym l))
    ] refl h

parts-held : (S : List Object) (c : Commit) → is_none (missing_of_commit S c) ≡ true → (has Tree S c.tree ≡ true) × Each (λ p. has CommitKind S p ≡ true) c.parents
parts-held S c h =
    elim (has Tree S c.tree) as (λ b. has Tree S c.tree ≡ b → is_none (cond b (missing_parent S c.parents) (Some c.tree)) ≡ true →
    (has Tree S c.tree ≡ true) × Each (λ p. has CommitKind S p ≡ true) c.parents) [
      | true ↦ λ k l. (k, parents-held S c.parents l)
      | false ↦ λ k l. absurd (true≢false (sym l))
    ] refl h

has-older : (o : Object) (S : List Object) (n : Bytes) → has CommitKind S n ≡ true → has CommitKind (o ∷ S) n ≡ true
unfolding has
has-older o S n h = or_right (is_named CommitKind o n) _ h

tree-older : (o : Object) (S : List Object) (n : Bytes) → has Tree S n ≡ true → has Tree (o ∷ S) n ≡ true
unfolding has
tree-older o S n h = or_right (is_named Tree o n) _ h

each-older : (o : Object) (S : List Object) (ps : List Bytes) → Each (λ p. has CommitKind S p ≡ true) ps → Each (λ p. has CommitKind (o ∷ S) p ≡ true) ps
each-older o S [] h = tt
each-older o S (p ∷ ps) h = (has-older o S p h.0, each-older o S ps h.1)

commit-older : (o : Object) (S : List Object) (b : Bytes) → IsHeldCommit S b → IsHeldCommit (o ∷ S) b
commit-older o S b h = record { commit = h.commit; read = h.read; bytes = h.bytes; tree = tree-older o S h.commit.tree h.tree; parents = each-older o S h.commit.parents h.parents }

pub commit-held : (S : List Object) (b : Bytes) → is_body S CommitKind b ≡ true → IsHeldCommit S b
commit-held S b h =
    elim (commit_from b) as (λ o. commit_from b ≡ o → option_map_or (λ c. is_none (missing_of_commit S c)) o false ≡ true → IsHeldCommit S b) [
      | None ↦ λ e g. absurd (true≢false (sym g))
      | Some c ↦ λ e g. let p = parts-held S c g in record { commit = c; read = e; bytes = first_so _ _ h; tree = p.0; parents = p.1 }
    ] refl (second_so _ _ h)

-- the other way round
pub parts-none : (S : List Object) (ps : List Bytes) → Each (λ p. has CommitKind S p ≡ true) ps → is_none (missing_parent S ps) ≡ true
parts-none S [] h = refl
parts-none S (p ∷ ps) h = ap (λ b. is_none (cond b (missing_parent S ps) (Some p))) h.0 ∙ parts-none S ps h.1

pub commit-body : (S : List Object) (b : Bytes) → IsHeldCommit S b → is_body S CommitKind b ≡ true
commit-body S b h =
    (λ i. h.bytes i && option_map_or (λ c. is_none (missing_of_commit S c)) (h.read i) false)
    ∙ ap (λ t. is_none (cond t (missing_parent S h.commit.parents) (Some h.commit.tree))) h.tree
    ∙ parts-none S h.commit.parents h.parents

pub stored-commit : (S : List Object) (n : Bytes) → IsStore S → has CommitKind S n ≡ true → IsHeldCommit S (body_of CommitKind S n)
unfolding has body_of
stored-commit [] n s h = absurd (true≢false (sym h))
stored-commit (o ∷ S) n s h =
    elim (is_named CommitKind o n) as (λ t. is_named CommitKind o n ≡ t → (t || has CommitKind S n) ≡ true → IsHeldCommit (o ∷ S) (cond t o.body (body_of CommitKind S n))) [
      | true ↦ λ e g. commit-older o S o.body (commit-held S o.body (ap (λ k. is_body S k o.body) (sym (named_kind CommitKind o n e)) ∙ s.0))
      | false ↦ λ e g. commit-older o S (body_of CommitKind S n) (stored-commit S n s.2 g)
    ] refl h

pub commit-told : (S : List Object) (n : Bytes) (o : Object) → IsStore S → has CommitKind S n ≡ true → Some o ≡ find_named S n → body_of CommitKind S n ≡ o.body
commit-told S n o s h e = (found-has S CommitKind n o (sym e) (has-found CommitKind S n (Some o) s e ∙ h)).1

pub commit-tree : (S : List Object) (n t : Bytes) (o : Object) (c : Commit) → IsStore S → has CommitKind S n ≡ true → Some o ≡ find_named S n → Some c ≡ commit_from o.body → t ≡ c.tree → IsTreeOf S n t
commit-tree S n t o c s h e r q =
    let held = stored-commit S n s h in
    let body = commit-told S n o s h e in
    let named : commit_named S n ≡ Some c = ap commit_from body ∙ sym r in
    let same : c ≡ held.commit = let f : Some c ≡ Some held.commit = sym named ∙ held.read in cc in
    record { commit = c; named = named; tree = q; held = ap (has Tree S) (q ∙ ap (λ (d : Commit). d.tree) same) ∙ held.tree }

pub commit-read : (S : List Object) (n : Bytes) (o : Object) → IsStore S → has CommitKind S n ≡ true → Some o ≡ find_named S n → commit_from o.body ≡ None → ⊥
commit-read S n o s h e r =
    let held = stored-commit S n s h in
    let no : Some held.commit ≡ None = sym held.read ∙ ap commit_from (commit-told S n o s h e) ∙ r in cc

-- the tree that is read of a stored commit's body is the commit's
pub tree-told : (S : List Object) (n : Bytes) (o : Object) (t : Option Bytes) → IsStore S → has CommitKind S n ≡ true → Some o ≡ find_named S n → ((c : Commit) → commit_from o.body ≡ Some c → t ≡ Some c.tree) → (t ≡ None → ⊥) × ((u : Bytes) → t ≡ Some u → IsTreeOf S n u)
tree-told S n o t s h e told =
    let held = stored-commit S n s h in
    let read : commit_from o.body ≡ Some held.commit = sym (ap commit_from (commit-told S n o s h e)) ∙ held.read in
    let tree : t ≡ Some held.commit.tree = told held.commit read in (
      (λ none. let no : Some held.commit.tree ≡ None = sym tree ∙ none in cc),
      (λ u is. let same : u ≡ held.commit.tree = let f : Some u ≡ Some held.commit.tree = sym is ∙ tree in cc in
          commit-tree S n u o held.commit s h e (sym read) same),
    )
