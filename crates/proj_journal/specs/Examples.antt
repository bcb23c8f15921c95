-- Worked examples.
use Rattle.std.specs.Prelude.{◌≡◌, refl, [], ◌∷◌, ◌++◌, Ok, Err}
use Rattle.proj_journal.specs.Spelling.{header, size_at, items_from, spelled}

pub nothing_is_no_journal : spelled [] ≡ Err 0
unfolding spelled
nothing_is_no_journal = refl

pub another_header_is_none : spelled (112 ∷ 114 ∷ 111 ∷ 106 ∷ 32 ∷ 48 ∷ 50 ∷ 10 ∷ 0 ∷ []) ≡ Err 0
unfolding spelled
another_header_is_none = refl

pub a_header_needs_a_gate : spelled header ≡ Err 8
unfolding spelled items_from
a_header_needs_a_gate = refl

pub a_new_journal_has_no_items : spelled (header ++ 0 ∷ []) ≡ Ok []
unfolding spelled items_from
a_new_journal_has_no_items = refl

pub one_item : spelled (header ++ 1 ∷ 0 ∷ 0 ∷ 0 ∷ 2 ∷ 97 ∷ 98 ∷ 0 ∷ []) ≡ Ok ((97 ∷ 98 ∷ []) ∷ [])
unfolding spelled items_from size_at
one_item = refl

pub behind_the_last_gate_all_may_stand : spelled (header ++ 1 ∷ 0 ∷ 0 ∷ 0 ∷ 1 ∷ 97 ∷ 2 ∷ 9 ∷ 9 ∷ []) ≡ Ok ((97 ∷ []) ∷ [])
unfolding spelled items_from size_at
behind_the_last_gate_all_may_stand = refl

pub an_item_needs_a_gate_behind_it : spelled (header ++ 1 ∷ 0 ∷ 0 ∷ 0 ∷ 1 ∷ 97 ∷ []) ≡ Err 14
unfolding spelled items_from size_at
an_item_needs_a_gate_behind_it = refl

pub no_length_is_cut : spelled (header ++ 1 ∷ 0 ∷ 0 ∷ 0 ∷ []) ≡ Err 8
unfolding spelled items_from size_at
no_length_is_cut = refl

pub no_item_is_empty : spelled (header ++ 1 ∷ 0 ∷ 0 ∷ 0 ∷ 0 ∷ 0 ∷ []) ≡ Err 8
unfolding spelled items_from size_at
no_item_is_empty = refl

pub no_item_runs_past_the_end : spelled (header ++ 1 ∷ 0 ∷ 0 ∷ 0 ∷ 2 ∷ 97 ∷ []) ≡ Err 8
unfolding spelled items_from size_at
no_item_runs_past_the_end = refl

pub no_item_is_too_long : spelled (header ++ 1 ∷ 32 ∷ 0 ∷ 0 ∷ 1 ∷ 97 ∷ []) ≡ Err 8
unfolding spelled items_from size_at
no_item_is_too_long = refl
