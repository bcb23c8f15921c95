-- The way back of one route.
use Rattle.std.specs.Prelude.{◌≡◌, refl, List, [], ◌∷◌, ◌++◌, Option, Some, None, cond, Bool, true, false, not, ◌&&◌, is_some}
use Rattle.std.proofs.Common.{ap, ◌∙◌, sym, append_assoc}
use Rattle.decision_lists.proofs.Compile.{pulled-hit, pulled-miss, run-app}
use Rattle.decision_lists.proofs.Locating.{free_is}
use Rattle.decision_lists.proofs.Making.{pulled-next}
use Rattle.decision_lists.specs.Backward.{IsWayBack, deads}
use Rattle.decision_lists.specs.Cells.{cells_at, free_in, is_free, moved, origin_at}
use Rattle.decision_lists.specs.Entries.{Cone, Entry, base, cone_of, decide, run, tail}
use Rattle.decision_lists.specs.Fronts.{or_else}
use Rattle.decision_lists.specs.Operations.{heads, pull, pulled, put}
use Rattle.git_objects.specs.Paths.{Path}

-- ---- a default is what is given where no entry has the path

late-at : (o t d x : Option Path) (y : Option Path) (b : Bool) → d ≡ or_else x (cond b y None) → decide o t d ≡ or_else (decide o t x) (cond (not (is_some o) && b) y None)
late-at None t d x y b e = e
late-at (Some r) None d x y b e = refl
late-at (Some r) (Some t) d x y b e = refl

pub run-late : (d : Option Path) (es : List Entry) (p : Path) → run d es p ≡ or_else (run None es p) (cond (free_in es p) d None)
run-late d [] p = refl
run-late d (e ∷ es) p = late-at (tail e.0 p) e.1 (run d es p) (run None es p) d (free_in es p) (run-late d es p)

-- ---- entries without targets

dead-at : (o d x : Option Path) (b : Bool) → x ≡ cond b d None → decide o None x ≡ cond (not (is_some o) && b) d None
dead-at None d x b e = e
dead-at (Some r) d x b e = refl

pub run-deads : (d : Option Path) (es : List Entry) (p : Path) → run d (deads es) p ≡ cond (free_in es p) d None
run-deads d [] p = refl
run-deads d (e ∷ es) p = dead-at (tail e.0 p) d (run d (deads es) p) (free_in es p) (run-deads d es p)

-- one more part
pub part-more : (c : Cone) (s : Path) (done now : List Entry) (e : Entry) (es : List Entry) → now ≡ done ++ put (pull c s e.0) None [] → now ++ pulled c s (deads es) ≡ done ++ pulled c s (deads (e ∷ es))
part-more c s done now e es h =
    ap (λ l. l ++ pulled c s (deads es)) h ∙ append_assoc done (put (pull c s e.0) None []) (pulled c s (deads es))
    ∙ ap (λ l. done ++ l) (sym (pulled-next c s (e.0, None) (deads es)))

-- ---- the whole list

cone-base : (b : Bool) (s : Path) → base (cone_of b s) ≡ s
cone-base true s = refl
cone-base false s = refl

cone-moved : (b : Bool) (s t : Path) → moved (cone_of b s) t ≡ cone_of b t
cone-moved true s t = refl
cone-moved false s t = refl

pub way-back : (b : Bool) (s t : Path) (hs : List Entry) → IsWayBack (pulled (cone_of b t) s (deads hs) ++ (cone_of b t, Some s) ∷ []) (cells_at (cone_of b s) (Some t) (heads hs []) [])
way-back b s t hs q =
    run-app None (pulled (cone_of b t) s (deads hs)) ((cone_of b t, Some s) ∷ []) q
    ∙ by (tail (cone_of b t) q) refl
    ∙ ap (λ c. origin_at q (cone_of b s, t, heads hs []) (tail c q) None) (sym (cone-moved b s t))
  where
    by : (o : Option Path) → tail (cone_of b t) q ≡ o →
        run (decide (tail (cone_of b t) q) (Some s) None) (pulled (cone_of b t) s (deads hs)) q ≡ origin_at q (cone_of b s, t, heads hs []) (tail (cone_of b t) q) None
    by None e =
        pulled-miss (cone_of b t) s (decide (tail (cone_of b t) q) (Some s) None) (deads hs) q e
        ∙ ap (λ o. decide o (Some s) None) e
        ∙ ap (λ o. origin_at q (cone_of b s, t, heads hs []) o None) (sym e)
    by (Some r) e =
        pulled-hit (cone_of b t) s (decide (tail (cone_of b t) q) (Some s) None) (deads hs) q r e
        ∙ ap (λ o. run (decide o (Some s) None) (deads hs) (s ++ r)) e
        ∙ run-deads (Some (s ++ r)) hs (s ++ r)
        ∙ ap (λ x. cond x (Some (s ++ r)) None) (sym (free_is hs (s ++ r)))
        ∙ ap (λ (u : Path). cond (is_free (heads hs []) (u ++ r)) (Some (u ++ r)) None) (sym (cone-base b s))
        ∙ ap (λ o. origin_at q (cone_of b s, t, heads hs []) o None) (sym e)

pub way-back-of : (b : Bool) (s t s' t' : Path) (hs done all : List Entry) → s' ≡ s → t' ≡ t → done ≡ pulled (cone_of b t) s (deads hs) → all ≡ done ++ (cone_of b t', Some s') ∷ [] →
    IsWayBack all (cells_at (cone_of b s) (Some t) (heads hs []) [])
way-back-of b s t s' t' hs done all e f h g q =
    ap (λ l. run None l q) (g ∙ (λ i. h i ++ (cone_of b (f i), Some (e i)) ∷ [])) ∙ way-back b s t hs q
