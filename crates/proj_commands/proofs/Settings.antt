-- Refs in order of arrival, each set in turn.
use Rattle.std.proofs.Common.{◌≡◌, ◌+◌, ℕ, List, [], ◌∷◌, ◌++◌, take, slice_get, Some, sym, ap, ◌∙◌}
use Rattle.std.specs.BTreeMap.{insert_entry}
use Rattle.std.specs.FinMap.{put}
use Rattle.std.proofs.lemmas.List.{take_more}
use Rattle.std.proofs.lemmas.List.Sums.{fold-append}
use Rattle.std.proofs.lemmas.Option.{get_or_from_slice_get, slice_get_within}
use Rattle.git_objects.specs.Paths.{Bytes}
use Rattle.git_objects.specs.Refs.{Refs, bytes_cmp}
use Rattle.git_objects.specs.declared.name.Name.{Name}
use Rattle.fast_import.specs.Replaying.{head_values}
use Rattle.fast_import.proofs.Heading.{put-heads}
use Rattle.state_items.specs.Changes.{with_refs}

-- one more is set
pub one-more : (refs : Refs) (i : ℕ) (n : Bytes) (c : Name) → slice_get refs i ≡ Some (n, c.0) → (es fs : List (Bytes × Name)) → head_values es ≡ with_refs [] (take i refs) → fs ≡ insert_entry bytes_cmp es n c
    → head_values fs ≡ with_refs [] (take (i + 1) refs)
one-more refs i n c e es fs h f =
    ap head_values f
    ∙ put-heads n c es
    ∙ ap (put bytes_cmp n c.0) h
    ∙ sym (fold-append (λ (m : Refs) (x : Bytes × Bytes). put bytes_cmp x.0 x.1 m) [] (take i refs) ((n, c.0) ∷ []))
    ∙ ap (with_refs []) (ap (λ (x : Bytes × Bytes). take i refs ++ x ∷ []) (sym (get_or_from_slice_get refs i (n, c.0) (n, c.0) e)) ∙ sym (take_more refs i (n, c.0) (slice_get_within refs i (n, c.0) e)))
