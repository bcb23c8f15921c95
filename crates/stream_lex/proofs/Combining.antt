-- What is built of readers is a reader.
use Rattle.std.proofs.Common.{◌≡◌, ◌+◌, ◌≤◌, Bool, true, false, cond, Result, Ok, Err, refl, sym, ap, ◌∙◌, arith, subst}
use Rattle.std.proofs.lemmas.List.{drop-drop, length-drop, drop-append-le}
use Rattle.std.proofs.Common.{◌-◌, ◌++◌, ℕ, drop, length, length-append}
use Rattle.git_objects.specs.Paths.{Bytes}
use Rattle.git_objects.specs.Results.{◌>>=◌}
use Rattle.stream_lex.specs.declared.stop.Wanted.{Wanted}
use Rattle.stream_lex.specs.declared.stop.Wanted.TheVariants as wants
use Rattle.stream_lex.specs.declared.stop.Stop.{Stop}
use Rattle.stream_lex.specs.declared.stop.Stop.TheVariants.{More, Fault}
use Rattle.stream_lex.specs.Lines.{Input, Read, line_at, block_at}
use Rattle.stream_lex.specs.Cutting.{grown, Reader, ◌then◌, pure, refuse, judged, Agrees, Advances, Steps, IsTold, place, from_place, StillWants, WaitsOn, IsReader}

pub stays : (i : Input) → Advances i i
stays i = record { by = 0; at = omega arith; rest = refl; within = omega arith }

pub further : (i j k : Input) → Advances i j → Advances j k → Advances i k
further i j k p q = record {
  by = p.by + q.by;
  at = q.at ∙ omega (arith, p.at);
  rest = q.rest ∙ ap (drop q.by) p.rest ∙ drop-drop q.by p.by i.rest;
  within = omega (arith, p.within, q.within, ap length p.rest, length-drop p.by i.rest);
}

-- ---- one step after another

pub bind_agrees : {E A B : Type 0} (more : Bytes) (r s : Read E A) (f k : A × Input → Read E B) → Agrees more r s →
    ((x : A) (j : Input) → Agrees more (f (x, j)) (k (x, grown more j))) → Agrees more (r >>= f) (s >>= k)
bind_agrees more (Ok x) s f k a b = subst (λ t. Agrees more (f x) (t >>= k)) (sym a) (b x.0 x.1)
bind_agrees more (Err (More w)) s f k a b = tt
bind_agrees more (Err (Fault e)) s f k a b = ap (λ t. t >>= k) a

pub steps_later : {E A : Type 0} (i j : Input) (r : Read E A) → Advances i j → Steps j r → Steps i r
steps_later i j (Ok y) h g = further i j y.1 h g
steps_later i j (Err e) h g = tt

pub bind_steps : {E A B : Type 0} (i : Input) (r : Read E A) (f : A × Input → Read E B) → Steps i r → ((x : A) (j : Input) → Steps j (f (x, j))) → Steps i (r >>= f)
bind_steps i (Ok x) f h k = steps_later i x.1 (f x) h (k x.0 x.1)
bind_steps i (Err e) f h k = tt

pub bind_told : {E A B : Type 0} (r : Result A (Stop E)) (f : A → Result B (Stop E)) → IsTold r → ((x : A) → IsTold (f x)) → IsTold (r >>= f)
bind_told (Ok x) f h k = k x
bind_told (Err (More w)) f h k = h
bind_told (Err (Fault e)) f h k = tt

-- ---- what is waited for

pub place_along : (at : ℕ) (i j : Input) → Advances i j → j.at ≤ at → from_place at j ≡ from_place at i
place_along at i j s h =
    let n : s.by + (at - j.at) ≡ at - i.at = omega (arith, s.at) in
    let r : drop (at - j.at) j.rest ≡ drop (at - i.at) i.rest = ap (drop (at - j.at)) s.rest ∙ drop-drop (at - j.at) s.by i.rest ∙ ap (λ m. drop m i.rest) n in
    λ k. record { at = at; rest = r k }

-- more that comes stands behind what is there
pub grown_along : (more : Bytes) (i j : Input) → Advances i j → Advances (grown more i) (grown more j)
grown_along more i j s = record {
  by = s.by;
  at = s.at;
  rest = ap (λ t. t ++ more) s.rest ∙ sym (drop-append-le s.by i.rest more s.within);
  within = omega (arith, s.within, length-append i.rest more);
}

pub wants_along : (w v : Wanted) (i j : Input) → Advances i j → j.at ≤ place w → StillWants w i v → StillWants w j v
wants_along (wants.Line at) v i j s h a = subst (λ k. line_at false k ≡ Err (More v)) (sym (place_along at i j s h)) a
wants_along (wants.Block at n) v i j s h a = subst (λ k. block_at n false k ≡ Err (More v)) (sym (place_along at i j s h)) a

-- what is waited for behind some bytes is waited for
pub waits_later : {E A : Type 0} (told : Bytes → Read E A) (i j : Input) (w : Wanted) → Advances i j → WaitsOn told j w → WaitsOn told i w
waits_later told i j w s u =
    let l = length-drop s.by i.rest in
    record {
      from = omega (arith, s.at, u.from);
      room = omega (arith, s.at, s.within, u.room, ap length s.rest, l);
      few = omega (arith, s.at, s.within, u.few, ap length s.rest, l);
      still = λ more v a. u.still more v (wants_along w v (grown more i) (grown more j) (grown_along more i j s) u.from a);
    }

pub waits_as : {E F A B : Type 0} (told : Bytes → Read E A) (then_told : Bytes → Read F B) (i : Input) (w : Wanted) →
    ((more : Bytes) (v : Wanted) → told more ≡ Err (More v) → then_told more ≡ Err (More v)) → WaitsOn told i w → WaitsOn then_told i w
waits_as told then_told i w h u = record { from = u.from; room = u.room; few = u.few; still = λ more v a. h more v (u.still more v a) }

-- one step after another
module _ {E A B : Type 0} (i : Input) (w : Wanted) (r : Read E A) (s : Bytes → Read E A) (f : A × Input → Read E B) (k : Bytes → A × Input → Read E B) where
  pub bind_waits : ((more : Bytes) → Agrees more r (s more)) → ((v : Wanted) → r ≡ Err (More v) → WaitsOn s i v) →
      ((x : A) (j : Input) → r ≡ Ok (x, j) → f (x, j) ≡ Err (More w) → WaitsOn (λ more. k more (x, grown more j)) i w) → r >>= f ≡ Err (More w) → WaitsOn (λ more. s more >>= k more) i w
  bind_waits settles first then_waits e = go r refl e
    where
      go : (q : Read E A) → r ≡ q → q >>= f ≡ Err (More w) → WaitsOn (λ more. s more >>= k more) i w
      go (Ok x) p h =
          waits_as (λ more. k more (x.0, grown more x.1)) (λ more. s more >>= k more) i w
          (λ more v a. ap (λ t. t >>= k more) (subst (λ t. Agrees more t (s more)) p (settles more)) ∙ a)
          (then_waits x.0 x.1 p h)
      go (Err (More v)) p h =
          let same : v ≡ w = cc in
          waits_as s (λ more. s more >>= k more) i w (λ more u a. ap (λ t. t >>= k more) a) (first w (p ∙ ap (λ u. Err (More u)) same))
      go (Err (Fault g)) p h = let no : ⊥ = cc in absurd no

-- ---- readers

pub then-reader : {E A B : Type 0} (f : Reader E A) (g : A → Reader E B) → IsReader f → ((x : A) → IsReader (g x)) → IsReader (f then g)
then-reader f g h k = record {
  settles = λ e more i. bind_agrees more (f false i) (f e (grown more i)) (λ x. g x.0 false x.1) (λ x. g x.0 e x.1) (h.settles e more i) (λ x j. (k x).settles e more j);
  steps = λ e i. bind_steps i (f e i) (λ x. g x.0 e x.1) (h.steps e i) (λ x j. (k x).steps e j);
  told = λ i. bind_told (f true i) (λ x. g x.0 true x.1) (h.told i) (λ x. (k x.0).told x.1);
  waits = λ i w. bind_waits i w (f false i) (λ more. f false (grown more i)) (λ x. g x.0 false x.1) (λ more x. g x.0 false x.1)
      (λ more. h.settles false more i) (h.waits i)
      (λ x j p e. waits_later (λ more. g x false (grown more j)) i j w (subst (Steps i) p (h.steps false i)) ((k x).waits j w e));
}

pub pure-reader : {E A : Type 0} (x : A) → IsReader {E = E} (pure x)
pure-reader x = record { settles = λ e more i. refl; steps = λ e i. stays i; told = λ i. tt; waits = λ i w e. let no : ⊥ = cc in absurd no }

pub refuse-reader : {E A : Type 0} (f : E) → IsReader (refuse {A = A} f)
refuse-reader f = record { settles = λ e more i. refl; steps = λ e i. tt; told = λ i. tt; waits = λ i w e. let no : ⊥ = cc in absurd no }

pub judged-reader : {E A : Type 0} (r : Result A (Stop E)) → IsTold r → IsReader (judged r)
judged-reader (Ok x) h = pure-reader x
judged-reader (Err (More w)) h = absurd h
judged-reader (Err (Fault f)) h = refuse-reader f

pub cond-reader : {E A : Type 0} (b : Bool) (f g : Reader E A) → IsReader f → IsReader g → IsReader (cond b f g)
cond-reader true f g h k = h
cond-reader false f g h k = k
