-- Proves what src/gating.rt needs of `policy_text`.
use Rattle.std.proofs.Common.{◌∙◌, List, None, Some, sym, ap, subst}
use Rattle.std.specs.FinMap.{find}
use Rattle.git_objects.specs.Paths.{Bytes, Path}
use Rattle.git_objects.specs.Refs.{bytes_cmp}
use Rattle.git_objects.specs.Trees.{at}
use Rattle.object_store.specs.Objects.{Object}
use Rattle.object_store.specs.Unfolding.{flat}
use Rattle.workspace.specs.Views.{leaf_value}
use Rattle.repo_ground.specs.Contents.{Contents}
use Rattle.repo_ground.specs.contracts.state.State.{the_view}
use Rattle.state_items.specs.Items.{Held}
use Rattle.proj_commands.specs.Makes.{IsStateOf}
use Rattle.proj_commands.specs.Policy.{policy_ref}
use Rattle.proj_commands.proofs.Heads.{head-stored, tree-is}
use Rattle.proj_commands.proofs.PolicyTexts.{policy-at, policy-named}
use Rattle.proj_commands.proofs.gating.policy_text.Goals as goal

pub ref_name-requires : goal.ref_name-requires
ref_name-requires c = policy-named

pub tree_of-requires : goal.tree_of-requires
tree_of-requires c =
    let q = c.requires.state in
    let w = subst (IsStateOf q.0 q.1) (sym c.state.view_is) q.2 in
    head-stored q.0 q.1 (the_view c.state.inside) policy_ref c.in-Some.head.0 w
    (sym (c.in-Some.ensures.held q.1 q.2.spells ∙ ap (λ (r : Bytes). find bytes_cmp r q.1.refs) c.in_ok-refname.ensures.ok))

pub returns-in-None-clause-ok : goal.returns-in-None-clause-ok
returns-in-None-clause-ok c = λ (items : List Bytes) (h : Held) st.
    let v : Contents = the_view c.state.inside in
    let S : List Object = v.basis.store in
    let n : Bytes = c.in-Some.head.0 in
    let w = subst (IsStateOf items h) (sym c.state.view_is) st in
    let named = sym (c.in-Some.ensures.held h st.spells ∙ ap (λ (r : Bytes). find bytes_cmp r h.refs) c.in_ok-refname.ensures.ok) in
    let tree = c.tree_of.ensures in
    policy-at h n named (flat S c.tree_of.result.0) (ap (flat S) tree.tree ∙ tree-is items h v policy_ref n w named tree.commit tree.named) None
    (c.in-None.ensures.leaf ∙ ap (λ (p : Path). at (flat S c.tree_of.result.0) p) c.in_ok-place.ensures)

pub returns-clause-ok : goal.returns-clause-ok
returns-clause-ok c = λ (items : List Bytes) (h : Held) st.
    let v : Contents = the_view c.state.inside in
    let S : List Object = v.basis.store in
    let n : Bytes = c.in-Some.head.0 in
    let w = subst (IsStateOf items h) (sym c.state.view_is) st in
    let named = sym (c.in-Some.ensures.held h st.spells ∙ ap (λ (r : Bytes). find bytes_cmp r h.refs) c.in_ok-refname.ensures.ok) in
    let tree = c.tree_of.ensures in
    c.leaf_text.ensures
    ∙ policy-at h n named (flat S c.tree_of.result.0) (ap (flat S) tree.tree ∙ tree-is items h v policy_ref n w named tree.commit tree.named) (Some (leaf_value S c.in-Some-leaf_at.leaf))
    (c.in-Some-leaf_at.ensures.leaf ∙ ap (λ (p : Path). at (flat S c.tree_of.result.0) p) c.in_ok-place.ensures)
