-- Steps of a reader, one behind another.
use Rattle.std.proofs.Common.{◌≡◌, Result, Ok, Err, refl, ap, ◌∙◌}
use Rattle.git_objects.specs.Results.{◌>>=◌}
use Rattle.state_items.specs.Fields.{Fault}
use Rattle.state_items.specs.Stops.{IsStop}
use Rattle.state_items.specs.declared.fault.ItemFault.{ItemFault}
use Rattle.state_items.specs.declared.fault.ItemFault.TheVariants.{Broken, Collision, OutOfMemory}

-- what follows a step that was made
pub then-ok : {A B : Type 0} (r : Result A Fault) (f : A → Result B Fault) (x : A) → r ≡ Ok x → (r >>= f) ≡ f x
then-ok r f x e = ap (λ q. q >>= f) e

-- a step that stops, stops all
pub then-stop : {A B : Type 0} (stop : ItemFault) (r : Result A Fault) (f : A → Result B Fault) → IsStop stop r → IsStop stop (r >>= f)
then-stop (Broken at) r f e = ap (λ q. q >>= f) e
then-stop (Collision n) r f e = ap (λ q. q >>= f) e
then-stop OutOfMemory r f e = tt

-- stops of equal reads
pub stop-along : {A : Type 0} (stop : ItemFault) (r q : Result A Fault) → r ≡ q → IsStop stop q → IsStop stop r
stop-along (Broken at) r q s e = s ∙ e
stop-along (Collision n) r q s e = s ∙ e
stop-along OutOfMemory r q s e = tt

-- steps in a row, taken together
pub together : {A B C : Type 0} (r : Result A Fault) (f : A → Result B Fault) (g : B → Result C Fault) (h : A → Result C Fault) → ((x : A) → h x ≡ (f x >>= g)) → (r >>= h) ≡ ((r >>= f) >>= g)
together (Ok x) f g h e = e x
together (Err e) f g h same = refl

value-of : {A : Type 0} → A → Result A Fault → A
value-of d (Ok x) = x
value-of d (Err e) = d

pub same-value : {A : Type 0} (x y : A) → ◌≡◌ {A = Result A Fault} (Ok x) (Ok y) → x ≡ y
unfolding value-of
same-value x y e = ap (value-of x) e
