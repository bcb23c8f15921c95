-- What the loops of the test for clashes need.
use Rattle.std.specs.Prelude.{◌≡◌, ℕ, ◌+◌, List, [], ◌∷◌, ◌++◌, drop, take, Bool, true, false, ◌||◌}
use Rattle.std.proofs.Common.{ap, ◌∙◌, sym}
use Rattle.decision_lists.proofs.Making.{alive_is, heads-app}
use Rattle.decision_lists.specs.Cells.{cells, cells_at, touches}
use Rattle.decision_lists.specs.Entries.{Cone, Entry, at, below}
use Rattle.decision_lists.specs.Operations.{alive, alive_in, heads}
use Rattle.git_objects.specs.Paths.{Path}

-- the cells from a place on, the entry there first
pub cells-next : (gs : List Entry) (i : ℕ) (e : Entry) → drop i gs ≡ e ∷ drop (i + 1) gs → take (i + 1) gs ≡ take i gs ++ e ∷ []
    → cells (heads (take i gs) []) (drop i gs) ≡ cells_at e.0 e.1 (heads (take i gs) []) (cells (heads (take (i + 1) gs) []) (drop (i + 1) gs))
cells-next gs i e h k =
    ap (cells (heads (take i gs) [])) h
    ∙ ap (λ hs. cells_at e.0 e.1 (heads (take i gs) []) (cells hs (drop (i + 1) gs))) (sym (ap (λ xs. heads xs []) k ∙ heads-app (take i gs) (e ∷ []) []))

pub alive-test : (hs : List Entry) (c d : Cone) (b : Bool) → b ≡ alive_in hs c → c ≡ d → b ≡ alive (heads hs []) d
alive-test hs c d b e f = e ∙ sym (alive_is hs c) ∙ ap (alive (heads hs [])) f

pub touches-here : (s t : Path) (hs : List Entry) (c : List ℕ) (v w : Path) → w ≡ c ∷ v → t ≡ s ++ c ∷ [] → true ≡ alive_in hs (at t) → true ≡ touches s (heads hs []) w
touches-here s t hs c v w e f a =
    ap (λ b. b || touches (s ++ c ∷ []) (heads hs []) v) (a ∙ sym (alive_is hs (at t)) ∙ ap (λ x. alive (heads hs []) (at x)) f)
    ∙ ap (touches s (heads hs [])) (sym e)

pub touches-later : (s t : Path) (hs : List Entry) (c : List ℕ) (v w : Path) → w ≡ c ∷ v → t ≡ s ++ c ∷ [] → false ≡ alive_in hs (at t) → touches t (heads hs []) v ≡ touches s (heads hs []) w
touches-later s t hs c v w e f a =
    ap (λ x. touches x (heads hs []) v) f
    ∙ ap (λ b. b || touches (s ++ c ∷ []) (heads hs []) v) (a ∙ sym (alive_is hs (at t)) ∙ ap (λ x. alive (heads hs []) (at x)) f)
    ∙ ap (touches s (heads hs [])) (sym e)

pub alive-last : (s : Path) (hs : List Entry) (b : Bool) (w : Path) → w ≡ [] → b ≡ alive_in hs (below s) → b ≡ touches s (heads hs []) w
alive-last s hs b w e a = a ∙ sym (alive_is hs (below s)) ∙ ap (touches s (heads hs [])) (sym e)
