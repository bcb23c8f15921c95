-- Items, one after another.
use Rattle.std.proofs.Common.{◌≡◌, ℕ, ◌+◌, ◌<◌, true, List, [], ◌∷◌, ◌++◌, length, drop, take, Result, Ok, Some, None, IfSome, refl, sym, ap, subst, ◌∙◌, arith, add-one, length-append, sum_by}
use Rattle.std.specs.declared.option.Option.{Option}
use Rattle.std.proofs.Math.Seq.{drop-cons}
use Rattle.std.proofs.lemmas.List.{take-append-drop, take_more}
use Rattle.std.proofs.lemmas.Option.{unwrap_or-slice_get}
use Rattle.std.proofs.lemmas.List.Sums.{sum_by-cons, sum_by_push}
use Rattle.git_objects.specs.Paths.{Bytes}
use Rattle.git_objects.specs.Results.{◌>>=◌}
use Rattle.proj_io.specs.Items.{Stays, item_of}
use Rattle.state_items.specs.Items.{Held, Break, item_fits, nothing, read_item, read_one, read_from, read_items}
use Rattle.state_items.specs.Readings.{Gathered, Holds, with_piece}
use Rattle.state_items.proofs.ReadObjects.{value-of}
use Rattle.repo_ground.specs.Loads.{IsLoadFault}
use Rattle.repo_ground.specs.Steps.{AreRead, IsReadNext}
use Rattle.repo_ground.specs.declared.state.LoadError.{LoadError}
use Rattle.repo_ground.specs.declared.state.LoadError.TheVariants.{StoreFault, Damaged, Collision, OutOfMemory}

fault-then : (e : LoadError) (r : Result Held Break) (f : Held → Result Held Break) → IsLoadFault e r → IsLoadFault e (r >>= f)
fault-then StoreFault r f h = tt
fault-then OutOfMemory r f h = tt
fault-then (Damaged item at) r f h = ap (λ (q : Result Held Break). q >>= f) h
fault-then (Collision n) r f h = (h.0, ap (λ (q : Result Held Break). q >>= f) h.1)

fault-along : (e : LoadError) (r q : Result Held Break) → r ≡ q → IsLoadFault e q → IsLoadFault e r
fault-along StoreFault r q s h = tt
fault-along OutOfMemory r q s h = tt
fault-along (Damaged item at) r q s h = s ∙ h
fault-along (Collision n) r q s h = (h.0, s ∙ h.1)

abbrev then_rest : ℕ → ℕ → Bytes → List Bytes → Held → Result Held Break
then_rest number size item items g = read_from (number + 1) (size + length item) g items

drop-item : (all : List Bytes) (k : ℕ) → k < length all → drop k all ≡ item_of all k ∷ drop (k + 1) all
drop-item all k h = drop-cons all k [] h ∙ (λ i. sym (unwrap_or-slice_get all k []) i ∷ drop (sym (add-one k) i) all)

-- behind items that are read, the rest is read
read-behind : (items rest : List Bytes) (number size : ℕ) (h g : Held) → read_from number size h items ≡ Ok g →
    read_from number size h (items ++ rest) ≡ read_from (number + length items) (size + sum_by length items) g rest
read-behind [] rest number size h g e =
    let same : h ≡ g = cc in
    let n : number ≡ number + 0 = omega arith in
    let z : size ≡ size + 0 = omega arith in
    λ i. read_from (n i) (z i) (same i) rest
read-behind (x ∷ items) rest number size h g e =
    let d = value-of (read_one number size h x) (then_rest number size x items) g e in
    let n : (number + 1) + length items ≡ number + length (x ∷ items) = omega arith in
    let z : (size + length x) + sum_by length items ≡ size + sum_by length (x ∷ items) = omega (arith, sum_by-cons length x items) in
    ap (λ (q : Result Held Break). q >>= then_rest number size x (items ++ rest)) d.was
    ∙ read-behind items rest (number + 1) (size + length x) d.value g d.rest
    ∙ (λ i. read_from (n i) (z i) g rest)

-- behind the first items, which are read, some more are read
more-behind : (o : Option (List Bytes)) (number size : ℕ) (v : Gathered) (r : AreRead o number size v) (rest : List Bytes) →
    read_items (r.items ++ rest) ≡ read_from number size r.held rest
unfolding read_items
more-behind o number size v r rest =
    let n : 0 + length r.items ≡ number = omega arith in
    let z : 0 + sum_by length r.items ≡ size = omega arith in
    read-behind r.items rest 0 0 nothing r.held r.read ∙ (λ i. read_from (n i) (z i) r.held rest)

pub none-read : (o : Option (List Bytes)) (v : Gathered) → Holds nothing v → AreRead o 0 0 v
unfolding read_items
none-read o v h = record { items = []; keeps = none-kept o; held = nothing; read = refl; gathered = h; many = refl; long = refl }
  where
    none-kept : (o : Option (List Bytes)) → IfSome o (λ all. [] ≡ take 0 all)
    none-kept None = tt
    none-kept (Some all) = refl

-- an item that the keeper has, where it tells them
abbrev pub HasItem : Option (List Bytes) → ℕ → Type 0
HasItem o number = IfSome o (λ all. number < length all)

pub has-item : (o : Option (List Bytes)) (number count n : ℕ) → number < count → count ≡ n → IfSome o (λ all. length all ≡ n) → HasItem o number
has-item None number count n lt e l = tt
has-item (Some all) number count n lt e l = omega arith

keeps-more : (o p : Option (List Bytes)) (number : ℕ) (items : List Bytes) (item : Bytes) → Stays o p → HasItem o number →
    IfSome o (λ all. items ≡ take number all) → IfSome p (λ all. item ≡ item_of all number) → IfSome o (λ all. items ++ item ∷ [] ≡ take (number + 1) all)
keeps-more None p number items item st lt k s = tt
keeps-more (Some all) None number items item st lt k s = absurd st
keeps-more (Some all) (Some other) number items item st lt k s =
    let last : item ≡ item_of all number = s ∙ ap (λ (xs : List Bytes). item_of xs number) st in
    (λ i. k i ++ (last ∙ unwrap_or-slice_get all number []) i ∷ []) ∙ sym (take_more all number [] lt)

-- what is held is so with any piece
pub holds-piece : (h : Held) (v w : Gathered) → w ≡ with_piece v w.piece → Holds h v → Holds h w
holds-piece h v w e g = subst (λ (x : Gathered). Holds h x) (sym e) (record {
  store = g.store;
  room = g.room;
  objects = g.objects;
  names = g.names;
  graph = g.graph;
  known = g.known;
  distinct = g.distinct;
  refs = g.refs;
  heads = g.heads;
  kept = g.kept;
  rule = g.rule;
  tags = g.tags;
  rising = g.rising;
})

-- the piece was read as an item
abbrev pub ReadsTo : Gathered → Gathered → Type 0
ReadsTo w u = (h : Held) → Holds h w → (g : Held) × (read_item h w.piece ≡ Ok g) × Holds g u

pub next-read : (o : Option (List Bytes)) (number before now : ℕ) (v w u : Gathered) (h : Held) → w ≡ with_piece v w.piece → item_fits number before w.piece ≡ true → now ≡ before + length w.piece →
    IfSome o (λ all. w.piece ≡ item_of all number) → ReadsTo w u → Holds h v → IsReadNext o number before h now u
next-read o number before now v w u h p f e k r g =
    let t = r h (holds-piece h v w p g) in
    let one : read_one number before h w.piece ≡ Ok t.0 = grind arith in
    record { item = w.piece; keeps = k; after = t.0; read = one; gathered = t.2; size = e }

-- what reading one item more gives
abbrev pub StepsTo : ℕ → ℕ → Gathered → ℕ → Gathered → Option (List Bytes) → Type 0
StepsTo number size v now w p = (h : Held) → Holds h v → IsReadNext p number size h now w

pub more-read : (o p : Option (List Bytes)) (number size now : ℕ) (v w : Gathered) → Stays o p → HasItem o number → AreRead o number size v → StepsTo number size v now w p → AreRead o (number + 1) now w
more-read o p number size now v w st lt r s =
    let t = s r.held r.gathered in
    record {
      items = r.items ++ t.item ∷ [];
      keeps = keeps-more o p number r.items t.item st lt r.keeps t.keeps;
      held = t.after;
      read = more-behind o number size v r (t.item ∷ []) ∙ ap (λ (q : Result Held Break). q >>= then_rest number size t.item []) t.read;
      gathered = t.gathered;
      many = omega (arith, r.many, length-append r.items (t.item ∷ []));
      long = omega (arith, t.size, r.long, sum_by_push length r.items t.item);
    }

abbrev pub FailsBy : ℕ → ℕ → Gathered → LoadError → Option (List Bytes) → Type 0
FailsBy number size v e p = (h : Held) → Holds h v → IfSome p (λ all. IsLoadFault e (read_one number size h (item_of all number)))

pub read-fault : (o p : Option (List Bytes)) (number size : ℕ) (v : Gathered) (e : LoadError) → Stays o p → HasItem o number → AreRead o number size v → FailsBy number size v e p →
    IfSome o (λ all. IsLoadFault e (read_items all))
read-fault None p number size v e st lt r s = tt
read-fault (Some all) None number size v e st lt r s = absurd st
read-fault (Some all) (Some other) number size v e st lt r s =
    let item : Bytes = item_of all number in
    let rest : List Bytes = drop (number + 1) all in
    let f : IsLoadFault e (read_one number size r.held item) =
    subst (λ (xs : List Bytes). IsLoadFault e (read_one number size r.held (item_of xs number))) st (s r.held r.gathered) in
    let whole : all ≡ r.items ++ item ∷ rest =
    sym (take-append-drop number all) ∙ (λ i. sym r.keeps i ++ drop-item all number lt i) in
    fault-along e (read_items all) (read_one number size r.held item >>= then_rest number size item rest)
    (ap read_items whole ∙ more-behind (Some all) number size v r (item ∷ rest))
    (fault-then e (read_one number size r.held item) (then_rest number size item rest) f)

pub stays-self : (o : Option (List Bytes)) → Stays o o
stays-self None = tt
stays-self (Some xs) = refl

pub stays-on : (o p q : Option (List Bytes)) → Stays o p → Stays p q → Stays o q
stays-on None p q a b = tt
stays-on (Some x) None q a b = absurd a
stays-on (Some x) (Some y) None a b = absurd b
stays-on (Some x) (Some y) (Some z) a b = b ∙ a
