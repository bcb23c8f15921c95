use Rattle.std.proofs.Common.{◌∙◌, ap, sym, not, ◌&&◌, Bool, true, false, ◌≡◌, refl}
use Rattle.filter_text.specs.Filters.{is_placed, some_have_workspace, has_one_place}
use Rattle.filter_text.specs.Shapes.{shape, shapes}
use Rattle.filter_text.proofs.RowLists.{shape-join, shape-chain}
use Rattle.filter_text.proofs.limits.is_placed.Goals as goal

with_all : (b : Bool) → b ≡ (b && true)
with_all true = refl
with_all false = refl

pub returns-in-Join : goal.returns-in-Join
returns-in-Join c =
    ap not (c.some_have_workspace.ensures ∙ ap (λ xs. some_have_workspace (shapes xs)) c.as_slice.ensures.value)
    ∙ with_all (not (some_have_workspace (shapes c.in-Join.members.items)))
    ∙ sym (ap (λ f. is_placed (shape f)) c.in-Join.is ∙ ap is_placed (shape-join c.in-Join.members))

pub returns-in-Chain : goal.returns-in-Chain
returns-in-Chain c =
    c.has_one_place.ensures ∙ ap (λ xs. has_one_place false (shapes xs)) c.as_slice-in-Chain.ensures.value
    ∙ sym (ap (λ f. is_placed (shape f)) c.in-Chain.is ∙ ap is_placed (shape-chain c.in-Chain.members))
