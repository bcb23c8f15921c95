-- Decision lists of filters, and what the finite test says of two of them.
use Rattle.std.specs.Prelude.{◌≡◌, refl, ℕ, ◌+◌, List, [], ◌∷◌, Option, Some, None, true, ◌⊎◌}
use Rattle.std.proofs.Common.{ap, ap₂, ◌∙◌, sym, arith, inl, inr}
use Rattle.decision_lists.proofs.Cells.{TableClash, table-clash-from, table-clash-give}
use Rattle.decision_lists.proofs.Clash.{Comparable}
use Rattle.decision_lists.proofs.Compare.{comparable-is, comparable-test}
use Rattle.filter_routes.proofs.ImagePaths.{through-full}
use Rattle.decision_lists.proofs.Compile.{and_then-same, one-kept, one-sub, tail-is}
use Rattle.decision_lists.proofs.Each.{each-after, each-either, each-turned, good-list, length-long, long, long-component, total}
use Rattle.decision_lists.proofs.Fold.{after_left-run, after_left-thin, either_left-run, either_left-thin, turned-run, turned-thin}
use Rattle.decision_lists.proofs.Valid.{full-path, valid-path}
use Rattle.decision_lists.specs.Cells.{any_clash, cells}
use Rattle.decision_lists.specs.Entries.{Entry, at, below, decide, run}
use Rattle.decision_lists.specs.Fronts.{and_then, left_out, or_else, proper, strip, whole}
use Rattle.filter_routes.specs.Images.{first, image, through}
use Rattle.decision_lists.specs.Lists.{IsPath}
use Rattle.filter_routes.specs.Lists.{IsListOf}
use Rattle.decision_lists.specs.Operations.{after_left, either_left, turned}
use Rattle.filter_routes.specs.Soundness.{Clash}
use Rattle.filter_text.specs.Filters.{Filter, Filters, append, chain, dir, exclude, file, join, more, no_more, nop, only, onto, sub, workspace}
use Rattle.git_objects.specs.Paths.{Path, comparable}

pub list-nop : IsListOf nop ((below [], Some []) ∷ [])
list-nop = record { gives = λ p n. ap (λ o. decide o (Some []) None) n; thin = (refl, tt); fine = ((refl, refl), tt); one = tt }

pub list-sub : (a : Path) → IsPath a → IsListOf (sub a) ((below a, Some []) ∷ [])
list-sub a h = record { gives = λ p n. one-sub (proper (strip a p)); thin = (refl, tt); fine = ((valid-path a h, refl), tt); one = refl }

pub list-workspace : (a : Path) → IsPath a → IsListOf (workspace a) ((below a, Some []) ∷ [])
list-workspace a h = record { gives = λ p n. one-sub (proper (strip a p)); thin = (refl, tt); fine = ((valid-path a h, refl), tt); one = tt }

pub list-onto : (a : Path) → IsPath a → IsListOf (onto a) ((below [], Some a) ∷ [])
list-onto a h = record { gives = λ p n. ap (λ o. decide o (Some a) None) n; thin = (refl, tt); fine = ((refl, valid-path a h), tt); one = refl }

pub list-dir : (a : Path) → IsPath a → IsListOf (dir a) ((below a, Some a) ∷ [])
list-dir a h =
    record { gives = λ p n. one-kept (proper (strip a p)) a p (tail-is (below a) p); thin = (refl, tt); fine = ((valid-path a h, valid-path a h), tt); one = refl }

pub list-file : (a : Path) → IsPath a → IsListOf (file a) ((at a, Some a) ∷ [])
list-file a h =
    record { gives = λ p n. one-kept (whole (strip a p)) a p (tail-is (at a) p); thin = (refl, tt); fine = ((h, valid-path a h), tt); one = tt }

pub list-exclude : (f : Filter) (es : List Entry) → IsListOf f es → IsListOf (exclude f) (turned [] es)
list-exclude f es h =
    record {
      gives = λ p n. turned-run es [] p n tt ∙ ap (λ o. left_out o p) (h.gives p n);
      thin = turned-thin es [] h.thin;
      fine = each-turned es [] h.fine;
      one = tt;
    }

pub list-none : IsListOf (join no_more) []
list-none = record { gives = λ p n. refl; thin = tt; fine = tt; one = tt }

pub list-all : IsListOf (chain no_more) ((below [], Some []) ∷ [])
list-all = record { gives = λ p n. ap (λ o. decide o (Some []) None) n; thin = (refl, tt); fine = ((refl, refl), tt); one = tt }

or_else-more : (o o' o'' : Option Path) → or_else (or_else o o') o'' ≡ or_else o (or_else o' o'')
or_else-more None o' o'' = refl
or_else-more (Some x) o' o'' = refl

or_else-none : (o : Option Path) → or_else o None ≡ o
or_else-none None = refl
or_else-none (Some x) = refl

pub first-one : (fs : Filters) (g : Filter) (p : Path) → first (append fs (only g)) p ≡ or_else (first fs p) (image g p)
first-one no_more g p = or_else-none (image g p)
first-one (more f fs) g p = ap (or_else (image f p)) (first-one fs g p) ∙ sym (or_else-more (image f p) (first fs p) (image g p))

and_then-more : (o : Option Path) (g h : Path → Option Path) → and_then (and_then o g) h ≡ and_then o (λ x. and_then (g x) h)
and_then-more None g h = refl
and_then-more (Some x) g h = refl

and_then-last : (o : Option Path) → and_then o (λ x. Some x) ≡ o
and_then-last None = refl
and_then-last (Some x) = refl

pub through-one : (fs : Filters) (g : Filter) (p : Path) → through (append fs (only g)) p ≡ and_then (through fs p) (image g)
through-one no_more g p = and_then-last (image g p)
through-one (more f fs) g p =
    and_then-same (image f p) (through (append fs (only g))) (λ x. and_then (through fs x) (image g)) (λ x e. through-one fs g x)
    ∙ sym (and_then-more (image f p) (through fs) (image g))

pub list-join : (fs : Filters) (g : Filter) (es gs : List Entry) → IsListOf (join fs) es → IsListOf g gs → IsListOf (join (append fs (only g))) (either_left es gs)
list-join fs g es gs h k =
    record {
      gives = λ p n. either_left-run es gs p ∙ ap₂ or_else (h.gives p n) (k.gives p n) ∙ sym (first-one fs g p);
      thin = either_left-thin es gs h.thin;
      fine = each-either es gs h.fine k.fine;
      one = tt;
    }

pub list-chain : (fs : Filters) (g : Filter) (es gs : List Entry) → IsListOf (chain fs) es → IsListOf g gs → IsListOf (chain (append fs (only g))) (after_left es gs)
list-chain fs g es gs h k =
    record {
      gives = λ p n. after_left-run es gs p ∙ ap (λ o. and_then o (run None gs)) (h.gives p n)
          ∙ and_then-same (through fs p) (run None gs) (image g) (λ x e. k.gives x (through-full fs p x n e)) ∙ sym (through-one fs g p);
      thin = after_left-thin es gs h.thin;
      fine = each-after es gs h.fine k.fine;
      one = tt;
    }

-- ---- the test is exact

turn-meet : (p q x y : Path) → (p ≡ q) ⊎ Comparable x y → (p ≡ q) ⊎ (comparable x y ≡ true)
turn-meet p q x y (inl e) = inl e
turn-meet p q x y (inr h) = inr (comparable-test x y h)

turn-test : (p q x y : Path) → (p ≡ q) ⊎ (comparable x y ≡ true) → (p ≡ q) ⊎ Comparable x y
turn-test p q x y (inl e) = inl e
turn-test p q x y (inr h) = inr (comparable-is x y h)

pub clash-told : (f g : Filter) (es gs : List Entry) → IsListOf f es → IsListOf g gs → any_clash (cells [] es) (cells [] gs) ≡ true → Clash f g
clash-told f g es gs h k e =
    let n : ℕ = total es + total gs in
    let x : List ℕ = long n in
    let c : TableClash es gs =
    table-clash-give x es gs (long-component n) (good-list x es h.thin h.fine (omega (arith, length-long n)))
    (good-list x gs k.thin k.fine (omega (arith, length-long n))) e in
    record {
      p = c.p;
      q = c.q;
      x = c.px;
      y = c.qy;
      path_p = c.path_p;
      path_q = c.path_q;
      image_p = sym (h.gives c.p (full-path c.p c.path_p)) ∙ c.run_p;
      image_q = sym (k.gives c.q (full-path c.q c.path_q)) ∙ c.run_q;
      meet = turn-meet c.p c.q c.px c.qy c.meet;
    }

pub clash-seen : (f g : Filter) (es gs : List Entry) → IsListOf f es → IsListOf g gs → Clash f g → any_clash (cells [] es) (cells [] gs) ≡ true
clash-seen f g es gs h k c =
    table-clash-from es gs (record {
      p = c.p;
      q = c.q;
      px = c.x;
      qy = c.y;
      path_p = c.path_p;
      path_q = c.path_q;
      run_p = h.gives c.p (full-path c.p c.path_p) ∙ c.image_p;
      run_q = k.gives c.q (full-path c.q c.path_q) ∙ c.image_q;
      meet = turn-test c.p c.q c.x c.y c.meet;
    })
