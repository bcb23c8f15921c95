-- Objects that are needed, each once, and readings one after another.
use Rattle.std.proofs.Common.{◌≡◌, ◌<◌, ℕ, suc, length, drop, get_or, drop-cons, subst, true, false, ◌||◌, List, [], ◌∷◌, ◌++◌, Option, refl, sym, ap, ◌∙◌}
use Rattle.std.proofs.lemmas.List.{map-append}
use Rattle.std.specs.Prelude.{fold, if◌then◌else◌, Result, Ok, Err}
use Rattle.std.specs.List.{list_any}
use Rattle.git_objects.specs.Paths.{Bytes, Path, same_bytes}
use Rattle.git_objects.specs.declared.entry.Entry.{Entry}
use Rattle.object_store.specs.Objects.{Object, has_name}
use Rattle.proj_audit.specs.Readings.{Found, Reading, add_object, done, upon, ◌>>=◌, at_entry, entry_at, leaf_below, tree_named}
use Rattle.proj_audit.specs.Steps.{Reads, needed_value, needed_values}
use Rattle.proj_audit.specs.declared.objects.Needed.{Needed}
use Rattle.proj_audit.specs.declared.objects.Stop.{Stop}
use Rattle.proj_audit.specs.declared.objects.Stop.TheVariants.{NotThere, OutOfMemory}

pub among : (ns : List Needed) (n : Bytes) → list_any (λ (m : Needed). same_bytes m.name.0 n) ns ≡ has_name (needed_values ns) n
unfolding has_name
among [] n = refl
among (m ∷ ns) n = λ i. same_bytes (sym m.named i) n || among ns n i

-- ---- what is left to read gives the same

-- From what was noted at first on, a reading ends as another one does from what is noted now on.
pub record SameEnd {A : Type 0} (first : List Object) (r : Reading A) (now : List Object) (s : Reading A) : Type 0 where
  pub outcome : r.outcome ≡ s.outcome
  pub used : fold add_object first r.used ≡ fold add_object now s.used

pub fold-append : (us vs ws : List Object) → fold add_object us (vs ++ ws) ≡ fold add_object (fold add_object us vs) ws
fold-append us [] ws = refl
fold-append us (v ∷ vs) ws = fold-append (add_object us v) vs ws

-- one reading further
pub then-same : {A B : Type 0} (first now then_ : List Object) (r : Reading B) (s : Reading A) (next : A → Reading B) (x : A) →
    SameEnd first r now (s >>= next) → s.outcome ≡ Ok x → then_ ≡ fold add_object now s.used → SameEnd first r then_ (next x)
then-same first now then_ r s next x h e g = record {
  outcome = h.outcome ∙ ap (λ z. (upon s.used z next).outcome) e;
  used =
      h.used
      ∙ ap (λ z. fold add_object now (upon s.used z next).used) e
      ∙ fold-append now s.used (next x).used
      ∙ ap (λ us. fold add_object us (next x).used) (sym g);
}

-- a reading that has ended
pub ends : {A B : Type 0} (value : B → A) (r : Reading A) (old new : List Needed) (x : A) (y : B) →
    SameEnd (needed_values old) r (needed_values new) (done x) → value y ≡ x → Reads value r old new (Ok y)
ends value r old new x y h e = (h.outcome ∙ ap Ok (sym e), sym h.used)

-- one that stops stops all
pub stops : {A B C D : Type 0} (value : B → A) (value' : D → C) (first now : List Object) (r : Reading A) (s : Reading C) (next : C → Reading A)
    (old new before after : List Needed) (e : Stop) →
    SameEnd first r now (s >>= next) → Reads value' s before after (Err e) → Reads value r old new (Err e)
stops value value' first now r s next old new before after (NotThere n) h k = h.outcome ∙ ap (λ z. (upon s.used z next).outcome) k
stops value value' first now r s next old new before after OutOfMemory h k = tt

-- ---- objects that are noted

pub noted : (ns : List Needed) (m : Needed) → list_any (λ (k : Needed). same_bytes k.name.0 m.name.0) ns ≡ true →
    needed_values ns ≡ add_object (needed_values ns) (needed_value m)
noted ns m h =
    sym (ap (λ b. if b then needed_values ns else needed_values ns ++ needed_value m ∷ [])
    (ap (has_name (needed_values ns)) m.named ∙ sym (among ns m.name.0) ∙ h))

pub noted-new : (ns : List Needed) (m : Needed) → list_any (λ (k : Needed). same_bytes k.name.0 m.name.0) ns ≡ false →
    needed_values (ns ++ m ∷ []) ≡ add_object (needed_values ns) (needed_value m)
noted-new ns m h =
    map-append needed_value ns (m ∷ [])
    ∙ sym (ap (λ b. if b then needed_values ns else needed_values ns ++ needed_value m ∷ [])
    (ap (has_name (needed_values ns)) m.named ∙ sym (among ns m.name.0) ∙ h))

-- a tree on the way of which nothing is read
pub stops-below : {B : Type 0} (os : List Object) (value : B → Option Found) (first now : List Object) (r : Reading (Option Found))
    (n : Bytes) (p : Path) (i : ℕ) (old new before after : List Needed) (e : Stop) →
    i < length p →
    SameEnd first r now (leaf_below os n (drop i p)) → Reads (λ (es : List Entry). es) (tree_named os n) before after (Err e) → Reads value r old new (Err e)
stops-below os value first now r n p i old new before after e l h k =
    stops value (λ (es : List Entry). es) first now r (tree_named os n)
    (λ es. at_entry (entry_at (get_or p i []) es) (drop (suc i) p) (λ m. leaf_below os m (drop (suc i) p))) old new before after e
    (subst (λ (q : Path). SameEnd first r now (leaf_below os n q)) (drop-cons p i [] l) h) k

-- ---- one reading behind another

-- a reading of which the first part stops
pub stops-first : {A B C D : Type 0} (value : B → A) (value' : D → C) (s : Reading C) (next : C → Reading A) (old mid new : List Needed) (e : Stop) →
    Reads value' s old mid (Err e) → Reads value (s >>= next) old new (Err e)
stops-first value value' s next old mid new (NotThere n) k = ap (λ z. (upon s.used z next).outcome) k
stops-first value value' s next old mid new OutOfMemory k = tt

-- a reading whose first part gives a value, upon which the second was made
pub follows : {A B C D : Type 0} (value : B → A) (value' : D → C) (s : Reading C) (next : C → Reading A)
    (old mid new : List Needed) (x : D) (r : Result B Stop) →
    Reads value' s old mid (Ok x) → Reads value (next (value' x)) mid new r → Reads value (s >>= next) old new r
follows value value' s next old mid new x (Ok y) h k = (
  ap (λ z. (upon s.used z next).outcome) h.0 ∙ k.0,
  k.1
      ∙ ap (λ us. fold add_object us (next (value' x)).used) h.1
      ∙ sym (fold-append (needed_values old) s.used (next (value' x)).used)
      ∙ sym (ap (λ z. fold add_object (needed_values old) (upon s.used z next).used) h.0),
)
follows value value' s next old mid new x (Err (NotThere n)) h k = ap (λ z. (upon s.used z next).outcome) h.0 ∙ k
follows value value' s next old mid new x (Err OutOfMemory) h k = tt
