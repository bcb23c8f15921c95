-- What a stage shows after one entry of a list more.
use Rattle.std.proofs.Common.{◌≡◌, Bool, true, false, cond, T, List, [], ◌∷◌, ◌++◌, Option, Some, None, Result, Ok, Err, refl, sym, ap, subst, ◌∙◌, true≢false}
use Rattle.std.proofs.lemmas.Option.{none-some}
use Rattle.std.specs.Prelude.{IfOk, OnOk, is_some, if◌then◌else◌}
use Rattle.std.specs.FinMap.{is_sorted}
use Rattle.git_objects.specs.Paths.{Path, path_cmp}
use Rattle.git_objects.specs.Trees.{Leaf, Flat, IsTree, at, put, remove}
use Rattle.git_objects.proofs.Maps.{same_flat}
use Rattle.git_objects.specs.declared.kind.Kind.TheVariants.{Tree}
use Rattle.object_store.specs.Objects.{IsStore, Object}
use Rattle.path_trees.specs.Standing.{node}
use Rattle.path_trees.specs.declared.found.Found.{Found}
use Rattle.stage_nodes.specs.Closing.{HasDirectory}
use Rattle.stage_tree.specs.Stages.{Shows, Staged}
use Rattle.decision_lists.specs.Entries.{Cone, Entry, at as at_cone, below as below_cone, cone_of, decide, run, tail}
use Rattle.filter_routes.proofs.Carried.{nowhere}
use Rattle.filter_unapply.specs.Hands.{IsIn, IsMadeOf}
use Rattle.filter_unapply.specs.Sifted.{AreAlike, IsAbsent, IsFitting, IsShown, IsWithin, asked, chosen, put_back, sifted, stays, taken_out}
use Rattle.filter_unapply.proofs.Fittings.{asked-is, at-sifted, out-fits, put-fits, sorted-sifted, started}
use Rattle.filter_unapply.proofs.MadeTrees.{directory-made}
use Rattle.filter_unapply.proofs.Sieves.{removed-at}

module _ (S : List Object) (v : Staged) (t u : Flat) (h : IsTree t) (w : IsWithin u t) where
  module _ (b : Bool) (s : Path) (f : Found) (k : IsFitting S t b s (Some f)) where
    pub back-found : Shows S v (put u s (node S f)) → IsShown S v (put_back (cone_of b s) t u)
    back-found g = record { tree = put u s (node S f); shows = g; leaves = put-fits S b s f t u h w k }

    -- what goes of the whole tree goes of the part
    same-out : (a b : Bool) (y x : Option Leaf) → ((z : Leaf) → x ≡ Some z → y ≡ Some z) → cond a None y ≡ cond b None y → cond a None x ≡ cond b None x
    same-out true true y x f e = refl
    same-out false false y x f e = refl
    same-out true false y None f e = refl
    same-out true false y (Some z) f e = absurd (none-some z (e ∙ f z refl))
    same-out false true y None f e = refl
    same-out false true y (Some z) f e = absurd (none-some z (sym e ∙ f z refl))

    pub out-found : Shows S v (remove u s) → IsShown S v (taken_out (cone_of b s) u)
    out-found g = record {
      tree = remove u s;
      shows = g;
      leaves = λ q. removed-at u s q ∙ same-out _ (is_some (tail (cone_of b s) q)) (at t q) (at u q) (w q) (sym (removed-at t s q) ∙ out-fits S b s f t h k q);
    }

-- ---- a cone in which the whole tree has nothing

module _ (S : List Object) (v : Staged) (t u : Flat) (w : IsWithin u t) (c : Cone) (no : IsAbsent c t) (g : Shows S v u) where
  nothing-there : (q : Path) → is_some (tail c q) ≡ true → at u q ≡ None
  nothing-there q k = by (at u q) (w q)
    where
      by : (o : Option Leaf) → ((x : Leaf) → o ≡ Some x → at t q ≡ Some x) → o ≡ None
      by None f = refl
      by (Some x) f = absurd (none-some x (sym (no q k) ∙ f x refl))

  pub back-absent : IsShown S v (put_back c t u)
  back-absent = record { tree = u; shows = g; leaves = λ q. by q (is_some (tail c q)) refl }
    where
      by : (q : Path) (b : Bool) → is_some (tail c q) ≡ b → at u q ≡ cond b (at t q) (at u q)
      by q true k = nothing-there q k ∙ sym (no q k)
      by q false k = refl

  pub out-absent : IsShown S v (taken_out c u)
  out-absent = record { tree = u; shows = g; leaves = λ q. by q (is_some (tail c q)) refl }
    where
      by : (q : Path) (b : Bool) → is_some (tail c q) ≡ b → at u q ≡ cond b None (at u q)
      by q true k = nothing-there q k
      by q false k = refl

-- ---- all paths

module _ (S : List Object) (v : Staged) (t u : Flat) (h : IsTree t) (g : IsTree u) where
  none-t : at t [] ≡ None
  none-t = nowhere t [] h.paths refl

  none-u : at u [] ≡ None
  none-u = nowhere u [] g.paths refl

  point-back : (q : Path) → at u q ≡ put_back (at_cone []) t u q
  point-back [] = none-u ∙ sym none-t
  point-back (c ∷ q) = refl

  point-out : (q : Path) → at u q ≡ taken_out (at_cone []) u q
  point-out [] = none-u
  point-out (c ∷ q) = refl

  below-back : (q : Path) → at t q ≡ put_back (below_cone []) t u q
  below-back [] = none-t ∙ sym none-u
  below-back (c ∷ q) = refl

  below-out : (q : Path) → at [] q ≡ taken_out (below_cone []) u q
  below-out [] = sym none-u
  below-out (c ∷ q) = refl

  pub all-point : (b k : Bool) → b ≡ true → Shows S v u → IsShown S v (if k then put_back (cone_of b []) t u else taken_out (cone_of b []) u)
  all-point b true e s = subst (λ b. IsShown S v (put_back (cone_of b []) t u)) (sym e) (record { tree = u; shows = s; leaves = point-back })
  all-point b false e s = subst (λ b. IsShown S v (taken_out (cone_of b []) u)) (sym e) (record { tree = u; shows = s; leaves = point-out })

  pub all-back : (b k : Bool) → b ≡ false → k ≡ true → Shows S v t → IsShown S v (if k then put_back (cone_of b []) t u else taken_out (cone_of b []) u)
  all-back b true e f s = subst (λ b. IsShown S v (put_back (cone_of b []) t u)) (sym e) (record { tree = t; shows = s; leaves = below-back })
  all-back b false e f s = absurd (true≢false (sym f))

  pub all-out : (b k : Bool) → b ≡ false → k ≡ false → Shows S v [] → IsShown S v (if k then put_back (cone_of b []) t u else taken_out (cone_of b []) u)
  all-out b true e f s = absurd (true≢false f)
  all-out b false e f s = subst (λ b. IsShown S v (taken_out (cone_of b []) u)) (sym e) (record { tree = []; shows = s; leaves = below-out })

-- ---- lists

pub shown-as : (S : List Object) (v : Staged) (o : Path → Option Leaf) (t : Flat) → T (is_sorted path_cmp t) → ((q : Path) → o q ≡ at t q) → IsShown S v o → Shows S v t
shown-as S v o t g f h = subst (Shows S v) (same_flat h.tree t h.shows.tree.sorted g (λ q. h.leaves q ∙ f q)) h.shows

pub shown-step : (S : List Object) (v : Staged) (t : Flat) → IsTree t → (b : Bool) (e : Entry) (es : List Entry) → IsShown S v (asked b e t (sifted b es t)) → Shows S v (sifted b (e ∷ es) t)
shown-step S v t g b e es h =
    shown-as S v (asked b e t (sifted b es t)) (sifted b (e ∷ es) t) (sorted-sifted b (e ∷ es) t g.sorted)
    (λ q. ap (chosen b e.1 (tail e.0 q) (at t q)) (at-sifted b es t q) ∙ asked-is b (tail e.0 q) e.1 (run None es q) (at t q) ∙ sym (at-sifted b (e ∷ es) t q)) h

pub shown-all : (S : List Object) (v : Staged) (b : Bool) (t : Flat) → b ≡ false → Shows S v t → Shows S v (sifted b [] t)
shown-all S v b t e s = subst (Shows S v) (sym (started b t ∙ ap (λ b. cond b [] t) e)) s

pub shown-none : (S : List Object) (v : Staged) (b : Bool) (t : Flat) → b ≡ true → Shows S v [] → Shows S v (sifted b [] t)
shown-none S v b t e s = subst (Shows S v) (sym (started b t ∙ ap (λ b. cond b [] t) e)) s

-- an entry with a target takes out, whatever the whole tree is
pub shown-one : (S : List Object) (v : Staged) (t u : Flat) → IsTree u → (e : Entry) → is_some e.1 ≡ true → IsShown S v (asked false e t u) → Shows S v (sifted false (e ∷ []) u)
shown-one S v t u g e k h =
    shown-as S v (asked false e t u) (sifted false (e ∷ []) u) (sorted-sifted false (e ∷ []) u g.sorted)
    (λ q. by e.1 k (tail e.0 q) (at t q) (at u q) ∙ asked-is false (tail e.0 q) e.1 None (at u q) ∙ sym (at-sifted false (e ∷ []) u q)) h
  where
    by : (a : Option Path) → is_some a ≡ true → (o : Option Path) (x y : Option Leaf) → chosen false a o x y ≡ chosen false a o y y
    by None k o x y = absurd (true≢false (sym k))
    by (Some r) k None x y = refl
    by (Some r) k (Some s) x y = refl

-- ---- entries that all have targets, or all have none, the first of them first

-- an entry that hasn't the path may be left out
run-past : (xs rest : List Entry) (e : Entry) (q : Path) → tail e.0 q ≡ None → run None (xs ++ e ∷ rest) q ≡ run None (xs ++ rest) q
run-past [] rest e q n = ap (λ o. decide o e.1 (run None rest q)) n
run-past (d ∷ xs) rest e q n = ap (decide (tail d.0 q) d.1) (run-past xs rest e q n)

stays-decided : (b : Bool) (r : Path) (a more : Option Path) → stays b (decide (Some r) a more) ≡ stays b a
stays-decided true r None more = refl
stays-decided false r None more = refl
stays-decided true r (Some t) more = refl
stays-decided false r (Some t) more = refl

stays-alike : (b : Bool) (a c : Option Path) → is_some a ≡ is_some c → stays b a ≡ stays b c
stays-alike b None None h = refl
stays-alike b None (Some t) h = absurd (true≢false (sym h))
stays-alike b (Some t) None h = absurd (true≢false h)
stays-alike true (Some t) (Some u) h = refl
stays-alike false (Some t) (Some u) h = refl

-- what an entry has stays or goes by it, or by another one that is like it
run-alike : (b k : Bool) (xs rest : List Entry) (e : Entry) (q r : Path) → AreAlike k xs → is_some e.1 ≡ k → tail e.0 q ≡ Some r → stays b (run None (xs ++ e ∷ rest) q) ≡ stays b e.1
run-alike b k [] rest e q r h is has = ap (λ o. stays b (decide o e.1 (run None rest q))) has ∙ stays-decided b r e.1 (run None rest q)
run-alike b k (d ∷ xs) rest e q r h is has = by (tail d.0 q) (run-alike b k xs rest e q r h.1 is has)
  where
    by : (o : Option Path) → stays b (run None (xs ++ e ∷ rest) q) ≡ stays b e.1 → stays b (decide o d.1 (run None (xs ++ e ∷ rest) q)) ≡ stays b e.1
    by None later = later
    by (Some s) later = stays-decided b s d.1 (run None (xs ++ e ∷ rest) q) ∙ stays-alike b d.1 e.1 (h.0 ∙ sym is)

chosen-alike : (b k : Bool) (xs rest : List Entry) (e : Entry) (q : Path) (y : Option Leaf) → AreAlike k xs → is_some e.1 ≡ k → (o : Option Path) → tail e.0 q ≡ o →
    chosen b e.1 o y (cond (stays b (run None (xs ++ rest) q)) y None) ≡ cond (stays b (run None (xs ++ e ∷ rest) q)) y None
chosen-alike b k xs rest e q y h is None has = ap (λ x. cond (stays b x) y None) (sym (run-past xs rest e q has))
chosen-alike b k xs rest e q y h is (Some r) has = ap (λ s. cond s y None) (sym (run-alike b k xs rest e q r h is has))

pub shown-run : (S : List Object) (v : Staged) (t : Flat) → IsTree t → (b k : Bool) (xs rest : List Entry) (e : Entry) → AreAlike k xs → is_some e.1 ≡ k → IsShown S v (asked b e t (sifted b (xs ++ rest) t)) → Shows S v (sifted b (xs ++ e ∷ rest) t)
shown-run S v t g b k xs rest e h is s =
    shown-as S v (asked b e t (sifted b (xs ++ rest) t)) (sifted b (xs ++ e ∷ rest) t) (sorted-sifted b (xs ++ e ∷ rest) t g.sorted)
    (λ q.
    ap (chosen b e.1 (tail e.0 q) (at t q)) (at-sifted b (xs ++ rest) t q)
    ∙ chosen-alike b k xs rest e q (at t q) h is (tail e.0 q) refl
    ∙ sym (at-sifted b (xs ++ e ∷ rest) t q)) s

-- ---- an entry that keeps what it has, or takes it out

module _ (S : List Object) (v : Staged) (b : Bool) (e : Entry) (t u : Flat) (c : Cone) (same : c ≡ e.0) where
  keeps-asked : (a o : Option Path) (x y : Option Leaf) → stays b a ≡ true → cond (is_some o) x y ≡ chosen b a o x y
  keeps-asked a None x y k = refl
  keeps-asked a (Some r) x y k = ap (λ c. cond c x None) (sym k)

  out-asked : (a o : Option Path) (x y : Option Leaf) → stays b a ≡ false → cond (is_some o) None y ≡ chosen b a o x y
  out-asked a None x y k = refl
  out-asked a (Some r) x y k = ap (λ c. cond c x None) (sym k)

  pub asked-back : stays b e.1 ≡ true → IsShown S v (put_back c t u) → IsShown S v (asked b e t u)
  asked-back k h = record {
    tree = h.tree;
    shows = h.shows;
    leaves = λ q. h.leaves q ∙ ap (λ d. cond (is_some (tail d q)) (at t q) (at u q)) same ∙ keeps-asked e.1 (tail e.0 q) (at t q) (at u q) k;
  }

  pub asked-out : stays b e.1 ≡ false → IsShown S v (taken_out c u) → IsShown S v (asked b e t u)
  asked-out k h = record {
    tree = h.tree;
    shows = h.shows;
    leaves = λ q. h.leaves q ∙ ap (λ d. cond (is_some (tail d q)) None (at u q)) same ∙ out-asked e.1 (tail e.0 q) (at t q) (at u q) k;
  }

  pub asked-all : (k : Bool) → stays b e.1 ≡ k → IsShown S v (if k then put_back c t u else taken_out c u) → IsShown S v (asked b e t u)
  asked-all true k h = asked-back k h
  asked-all false k h = asked-out k h

pub ok-as : {A E : Type 0} (P Q : A → Type 0) (r : Result A E) → ((x : A) → P x → Q x) → IfOk r P → IfOk r Q
ok-as P Q (Ok x) f h = f x h
ok-as P Q (Err e) f h = tt

pub on-as : {A E : Type 0} (P Q : Type 0) (r : Result A E) → (P → Q) → OnOk r P → OnOk r Q
on-as P Q (Ok x) f h = f h
on-as P Q (Err e) f h = tt

module _ {E : Type 0} (S : List Object) where
  pub empty-shown : IsStore S → (b : Bool) (t : Flat) → b ≡ true → (r : Result Staged E) → IfOk r (λ v. (T : List Object) → IsStore T → Shows T v []) → IfOk r (λ v. Shows S v (sifted b [] t))
  empty-shown h b t e r i = ok-as (λ v. (T : List Object) → IsStore T → Shows T v []) (λ v. Shows S v (sifted b [] t)) r (λ v k. shown-none S v b t e (k S h)) i

  pub all-shown : (b : Bool) (t : Flat) → b ≡ false → (r : Result Staged E) → IfOk r (λ v. Shows S v t) → IfOk r (λ v. Shows S v (sifted b [] t))
  all-shown b t e r i = ok-as (λ v. Shows S v t) (λ v. Shows S v (sifted b [] t)) r (λ v k. shown-all S v b t e k) i

-- the directories of a part are of leaves of the whole tree
pub directories-made : (t u : Flat) → IsTree u → IsWithin u t → (o : Object) → o.kind ≡ Tree → HasDirectory u o.body → IsMadeOf (IsIn t) o
directories-made t u h w o k d = directory-made (IsIn t) u h w d.path o k d.body
