-- Refs in order of arrival after some were moved.
use Rattle.std.proofs.Common.{◌≡◌, true, false, not, ◌&&◌, T, List, [], ◌∷◌, ◌++◌, filter, Option, Some, None, refl, sym, ap, ◌∙◌}
use Rattle.std.specs.Cmp.{first_so, second_so}
use Rattle.std.specs.Option.{option_map_or, option_or}
use Rattle.std.specs.FinMap.{find, put, is_sorted, slice_cmp-IsAntisymmetric, nat_cmp-IsAntisymmetric}
use Rattle.std.specs.FinMap.Entries.{same_entries}
use Rattle.std.specs.Cmp.Lexicographic.{nat_list_cmp_total}
use Rattle.git_objects.specs.Paths.{Bytes, same_bytes}
use Rattle.git_objects.specs.Refs.{Refs, bytes_cmp}
use Rattle.git_objects.specs.declared.kind.Kind.TheVariants.{Commit}
use Rattle.object_store.specs.Objects.{Object, has}
use Rattle.object_store.proofs.Held.{has-above}
use Rattle.path_names.specs.RefNames.{is_ref_name}
use Rattle.ref_store.specs.Refs.{head_of, with_head, AreDistinct}
use Rattle.ref_store.proofs.Heads.{distinct-set}
use Rattle.state_items.specs.Appending.{are_refs}
use Rattle.state_items.specs.Changes.{is_moved, moved, with_refs}
use Rattle.state_items.specs.Items.{rises}
use Rattle.state_items.specs.Steps.{are_heads}
use Rattle.state_items.proofs.HeadsHeld.{are_heads-more, are_heads-put}
use Rattle.state_items.proofs.RefsHeld.{head-found, sorted-head}
use Rattle.state_items.proofs.RefsSet.{find-with, sorted-with}
use Rattle.repo_ground.specs.Moving.{moves_in, with_heads}

-- ---- refs in byte order

-- refs in byte order are as they are when each is set in turn
pub sorted-same : (es : Refs) → T (is_sorted bytes_cmp es) → with_refs [] es ≡ es
sorted-same es h =
    same_entries bytes_cmp nat_list_cmp_total (slice_cmp-IsAntisymmetric nat_cmp-IsAntisymmetric) (with_refs [] es) es (sorted-with es [] tt) h
    (λ q. find-with q es [] h ∙ or-none (find bytes_cmp q es))
  where
    or-none : (o : Option Bytes) → option_or o None ≡ o
    or-none None = refl
    or-none (Some x) = refl

-- ---- refs that move

-- those that move among refs in order of arrival move among these refs in byte order
pub moves-same : (rs hs es : Refs) → AreDistinct rs → with_refs [] rs ≡ hs → T (is_sorted bytes_cmp es) → filter (moves_in rs) es ≡ moved hs es
moves-same rs hs es d w h =
    (λ i. filter (λ (e : Bytes × Bytes). not (option_map_or (same_bytes e.1) (at e.0 i) false)) es) ∙ ap (filter (is_moved hs)) (sym (sorted-same es h))
  where
    at : (q : Bytes) → head_of rs q ≡ find bytes_cmp q hs
    at q = head-found q rs d ∙ ap (find bytes_cmp q) w

pub heads-distinct : (rs es : Refs) → AreDistinct rs → AreDistinct (with_heads rs es)
heads-distinct rs [] d = d
heads-distinct rs (e ∷ es) d = heads-distinct (with_head rs e.0 e.1) es (distinct-set rs e.0 e.1 d)

pub heads-sorted : (rs es : Refs) → AreDistinct rs → with_refs [] (with_heads rs es) ≡ with_refs (with_refs [] rs) es
heads-sorted rs [] d = refl
heads-sorted rs (e ∷ es) d =
    heads-sorted (with_head rs e.0 e.1) es (distinct-set rs e.0 e.1 d)
    ∙ ap (λ (m : Refs). with_refs m es) (sorted-head rs e.0 e.1 d)

-- ---- their commits

heads-set : (G : List Object) (before : Option Bytes) (es m : Refs) → are_refs G before es ≡ true → are_heads G m ≡ true → are_heads G (with_refs m es) ≡ true
heads-set G before [] m a h = h
heads-set G before (e ∷ es) m a h =
    heads-set G (Some e.0) es (put bytes_cmp e.0 e.1 m) (second_so (is_ref_name e.0 && rises before e.0 && has Commit G e.1) _ a)
    (are_heads-put G m e.0 e.1 h (second_so (is_ref_name e.0 && rises before e.0) _ (first_so _ _ a)))

pub heads-after : (H newer : List Object) (es m : Refs) → are_refs (newer ++ H) None es ≡ true → are_heads H m ≡ true → are_heads (newer ++ H) (with_refs m es) ≡ true
heads-after H newer es m a h = heads-set (newer ++ H) None es m a (are_heads-more H (newer ++ H) m (λ n e. has-above newer H Commit n e) h)
