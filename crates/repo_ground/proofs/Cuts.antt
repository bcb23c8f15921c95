-- A state from which what was entered last is taken off again.
use Rattle.std.proofs.Common.{◌≡◌, ◌≤◌, ◌+◌, ◌<◌, inl, inr, ℕ, zero, suc, List, [], ◌∷◌, ◌++◌, length, map, take, Option, Some, None, refl, sym, ap, subst, ◌∙◌, arith, length-append, true≢false}
use Rattle.std.specs.Prelude.{Bool, true, false, Result, Ok, Err, MatchResult}
use Rattle.std.specs.Result.{IsErrAnd, IsErrOf}
use Rattle.proj_io.specs.Uses.{IsUsed}
use Rattle.git_objects.specs.Paths.{Bytes}
use Rattle.object_store.specs.Objects.{Object}
use Rattle.git_objects.specs.Refs.{Refs}
use Rattle.proj_io.specs.Stops.{IsBeforeOrAfter}
use Rattle.state_items.specs.Changes.{NoPlan, Plan, passed, plan_items}
use Rattle.state_items.specs.Items.{Held, tagged_change_text, text_with}
use Rattle.tag_objects.specs.declared.tag.Tag.{Tag}
use Rattle.proj_io.specs.declared.keeper.KeepError.{KeepError}
use Rattle.proj_io.specs.declared.keeper.KeepError.TheVariants.{Failed, OutOfMemory as NoMemory}
use Rattle.repo_ground.specs.Changes.{Appends, GetsItems, IsAppended, IsCommitted, IsRefusal, IsRefused, IsStopOf, KeepsItems, keep_error, keep_error_result}
use Rattle.proj_io.specs.Views.{KeeperView}
use Rattle.repo_ground.proofs.ItemRuns.{stays-self}
use Rattle.repo_ground.specs.declared.commit.CommitError.{CommitError}
use Rattle.repo_ground.specs.declared.commit.CommitError.TheVariants.{StoreFault, Limit, OutOfMemory}
use Rattle.state_items.proofs.Lengths.{item-some}
use Rattle.repo_ground.specs.Contents.{Contents, Spells, room_in}
use Rattle.repo_ground.specs.Drafting.{Adds, HasMore, IsDraft, IsNoDraft, cut_to, with_draft}
use Rattle.repo_ground.specs.Entering.{IsFront}
use Rattle.repo_ground.specs.declared.draft.Draft.{Draft}

pub map-take : {A B : Type 0} (f : A → B) (n : ℕ) (xs : List A) → map f (take n xs) ≡ take n (map f xs)
map-take f zero [] = refl
map-take f zero (x ∷ xs) = refl
map-take f (suc n) [] = refl
map-take f (suc n) (x ∷ xs) = ap (λ (t : List _). f x ∷ t) (map-take f n xs)

take-front : {A : Type 0} (xs more : List A) → take (length xs) (xs ++ more) ≡ xs
take-front [] [] = refl
take-front [] (y ∷ more) = refl
take-front (x ∷ xs) more = ap (λ (t : List _). x ∷ t) (take-front xs more)

pub front-back : {A : Type 0} (n : ℕ) (xs ys : List A) → n ≡ length xs → IsFront xs ys → take n ys ≡ xs
front-back n xs ys e f = (λ i. take (e i) (f.1 i)) ∙ take-front xs f.0

pub front-long : {A : Type 0} (n : ℕ) (xs ys : List A) → n ≡ length xs → IsFront xs ys → n ≤ length ys
front-long n xs ys e f = let a : length ys ≡ length xs + length f.0 = ap length f.1 ∙ length-append xs f.0 in omega (arith, a, e)

-- the state as it was before
pub cut-same : (names blobs commits : ℕ) (s after : Contents) → names ≡ length s.names → blobs ≡ length s.blobs → commits ≡ length s.basis.graph → HasMore s after → cut_to names blobs commits after ≡ s
cut-same names blobs commits s after a b d h =
    (λ i. cut_to names blobs commits (h.same i))
    ∙ (λ i. record s {
      basis = record s.basis { graph = front-back commits s.basis.graph after.basis.graph d h.commits i };
      blobs = front-back blobs s.blobs after.blobs b h.blobs i;
      names = front-back names s.names after.names a h.names i;
    })

-- a draft that is taken up
pub draft-committed : (h : Held) (p : Plan) (s after : Contents) (d : Draft) → HasMore s after → IsDraft h p s after d → IsCommitted h p s (with_draft after d)
draft-committed h p s after d m w = record {
  appended = record {
    within = w.fits;
    spells = record {
      store = w.spells.store;
      room = w.spells.room;
      within = w.spells.within;
      names = w.spells.names;
      graph = w.spells.graph;
      known = w.spells.known;
      distinct = w.spells.distinct;
      refs = w.spells.refs;
      heads = w.spells.heads;
      entries = w.spells.entries;
      few = w.spells.few;
      rule = w.spells.rule;
      tags = w.spells.tags;
      rising = w.spells.rising;
    };
    number = ap (λ (x : Contents). x.number + 1) m.same ∙ ap (λ (k : ℕ). s.number + k) (sym w.one);
    size = ap (λ (x : Contents). x.size + d.size) m.same ∙ ap (λ (k : ℕ). s.size + k) w.size;
    store = ap (λ (x : Contents). x.basis.store) m.same;
    tables = ap (λ (x : Contents). x.basis.tables) m.same;
    memo = ap (λ (x : Contents). x.basis.memo) m.same;
    true_maps = ap (λ (x : Contents). x.basis.true_maps) m.same;
  };
  map = ap (λ (x : Contents). x.basis.map) m.same;
  selected = ap (λ (x : Contents). x.selected) m.same;
}

-- without an item, the state is as it was
pub none-appended : (h : Held) (s : Contents) → Spells h s → IsAppended h NoPlan s s
none-appended h s w = record {
  within = refl;
  spells = w;
  number = let q : s.number ≡ s.number + 0 = omega arith in q;
  size = let q : s.size ≡ s.size + 0 = omega arith in q;
  store = refl;
  tables = refl;
  memo = refl;
  true_maps = refl;
}

pub none-committed : (h : Held) (p : Plan) (s after : Contents) → Spells h s → p ≡ NoPlan → after ≡ s → IsCommitted h p s after
none-committed h p s after w e f =
    subst (λ (x : Contents). IsCommitted h p s x) (sym f)
    (subst (λ (q : Plan). IsCommitted h q s s) (sym e) (record { appended = none-appended h s w; map = refl; selected = refl }))

-- what a stop of the keeper leaves while the item is appended
pub stop-is : (h : Held) (s : Contents) (p : Plan) (item : Bytes) (items : Option (List Bytes)) (list : List Bytes) → passed h (room_in s) p ≡ None → plan_items p ≡ item ∷ [] → IsBeforeOrAfter items item list → IsStopOf h s p items list
stop-is h s p item None list a b q = tt
stop-is h s p item (Some all) list a b (inl e) = inl e
stop-is h s p item (Some all) list a b (inr e) = inr (a, e ∙ ap (λ (xs : List Bytes). all ++ xs) (sym b))

-- why the keeper's failure leaves no draft
pub fault-is : (h : Held) (s : Contents) (p : Plan) (item : Bytes) (e : KeepError) → passed h (room_in s) p ≡ None → plan_items p ≡ item ∷ [] → IsNoDraft h p s (keep_error e)
fault-is h s p item Failed a b = (λ q. some-none (sym b ∙ q), a)
  where
    some-none : item ∷ [] ≡ [] → ⊥
    some-none q = cc
fault-is h s p item NoMemory a b = tt

-- without a draft, the state as it was is a refusal's
pub refused-is : (h : Held) (p : Plan) (s last : Contents) (e : CommitError) → IsNoDraft h p s e → last ≡ s → IsRefused h p s last e
refused-is h p s last StoreFault w f = w
refused-is h p s last (Limit q) w f = (f, w)
refused-is h p s last OutOfMemory w f = f

-- what the keeper got, where the plan has one item
pub appends-is : (p : Plan) (item : Bytes) (before after : KeeperView) (r : Result (Unit {0}) KeepError) → plan_items p ≡ item ∷ [] → Adds item before after r → Appends p before after (keep_error_result r)
appends-is p item before after (Ok u) e w = subst (λ (items : List Bytes). GetsItems items before after) (sym e) w
appends-is p item before after (Err Failed) e (inl w) = inl w
appends-is p item before after (Err Failed) e (inr w) = inr (subst (λ (items : List Bytes). GetsItems items before after) (sym e) w)
appends-is p item before after (Err NoMemory) e w = w

-- without a call, the keeper has what it had
pub keeps-same : (k : KeeperView) → KeepsItems k k
keeps-same k = (refl, stays-self k.items)

-- want of memory, as it is told
pub no-memory : {A : Type 0} (r : Result A CommitError) → IsErrAnd r (λ e. e ≡ OutOfMemory) → r ≡ Err OutOfMemory
no-memory (Ok x) w = absurd w
no-memory (Err e) w = ap Err w

-- what holds of want of memory
pub memory-is : {A : Type 0} (r : Result A CommitError) (P : A → Type 0) (Q : CommitError → Type 0) → r ≡ Err OutOfMemory → Q OutOfMemory → MatchResult r P Q
memory-is {A = A} r P Q e q = subst (λ (x : Result A CommitError). MatchResult x P Q) (sym e) q

abbrev is-fault : {A : Type 0} → Result A CommitError → Bool
is-fault (Ok x) = false
is-fault (Err StoreFault) = true
is-fault (Err (Limit q)) = false
is-fault (Err OutOfMemory) = false

pub memory-fault : {A : Type 0} (r : Result A CommitError) → r ≡ Err OutOfMemory → r ≡ Err StoreFault → ⊥
memory-fault r a b = true≢false (sym (ap is-fault b) ∙ ap is-fault a)

-- a keeper that wasn't called, where no fault of it is told
pub unused : {K : Type 0} (faults : K → ℕ) (opens tells : K → Type 0) (k : K) (F : Type 0) → opens k → (F → ⊥) → IsUsed faults opens tells k k F
unused faults opens tells k F may never = record {
  is_open = λ _. may;
  told = (λ t. t, λ t. t);
  cause = record { later = omega arith; rose = λ f. absurd (never f) };
}

-- a fault of the keeper by another name
pub used-as : {K : Type 0} (faults : K → ℕ) (opens tells : K → Type 0) (a b : K) (F G : Type 0) → (F → G) → (G → F) → IsUsed faults opens tells a b F → IsUsed faults opens tells a b G
used-as faults opens tells a b F G to back w = record {
  is_open = λ never. w.is_open (λ f. never (to f));
  told = w.told;
  cause = record { later = w.cause.later; rose = λ g. w.cause.rose (back g) };
}

pub told-fault : {A B : Type 0} (e : KeepError) → IsErrOf {T = A} (Err e) Failed → IsErrOf {T = B} (Err (keep_error e)) StoreFault
told-fault Failed q = refl
told-fault NoMemory q = cc

pub kept-fault : {A B : Type 0} (e : KeepError) → IsErrOf {T = B} (Err (keep_error e)) StoreFault → IsErrOf {T = A} (Err e) Failed
kept-fault Failed q = refl
kept-fault NoMemory q = cc

-- the keeper refuses by want of memory alone
pub refusal-memory : (e : KeepError) → IsRefusal (Err (keep_error e)) → e ≡ NoMemory
refusal-memory Failed q = absurd q
refusal-memory NoMemory q = refl

pub tagged-some : (os : List Object) (rs : Refs) (ts : List Tag) → 0 < length (tagged_change_text os rs ts)
unfolding tagged_change_text
tagged-some os rs ts = omega arith

-- the item of a change has bytes
pub text-some : (os : List Object) (rs : Refs) (ts : List Tag) → 0 < length (text_with os rs ts)
text-some os rs [] = item-some os rs
text-some os rs (t ∷ ts) = tagged-some os rs (t ∷ ts)
