-- What a walk passes by, since a held tree beside has it too.
use Rattle.std.proofs.Common.{◌≡◌, true, List, [], ◌∷◌, ◌++◌, drop, length, map, reverse, ◌≤◌, Option, None, Some, refl, sym, ap, subst, ◌∙◌, arith, length-append}
use Rattle.std.specs.Option.{is_some, option_to_list}
use Rattle.std.proofs.lemmas.Grind.{flat_map-append}
use Rattle.std.proofs.lemmas.List.{append_assoc, map-append, reverse-append}
use Rattle.git_objects.specs.Parts.{name_bytes}
use Rattle.git_objects.specs.Paths.{Bytes}
use Rattle.git_objects.specs.Bodies.{tree_entries}
use Rattle.git_objects.specs.declared.entry.Entry.{Entry}
use Rattle.git_objects.specs.declared.kind.Kind.TheVariants.{Blob, Tree}
use Rattle.git_objects.specs.declared.name.Name.{Name}
use Rattle.git_objects.proofs.SharedFronts.{listed}
use Rattle.object_store.specs.Objects.{Object, IsStore, HasChildren, body_of, find_named, has, has_name}
use Rattle.object_store.proofs.Children.{tree-children}
use Rattle.object_store.proofs.Parts.{part-has, part-kind}
use Rattle.path_trees.proofs.Grown.{child-above}
use Rattle.state_items.specs.Writings.{objects_named as named}
use Rattle.repo_ground.specs.Beside.{AreBeside, IsPassed}
use Rattle.repo_ground.specs.Growing.{Extends, Holds, IsReady, IsStep, held_of}
use Rattle.repo_ground.specs.StoredObjects.{IsOpen, child_steps, counted, entries_steps, frame_steps, itself, tree_at, tree_steps}
use Rattle.repo_ground.specs.declared.walk.Frame.{Frame}
use Rattle.repo_ground.proofs.Grows.{named-in}
use Rattle.repo_ground.proofs.Walks.{skip-entries}

-- ---- what is held stays held

named-append : (S : List Object) (a b : List Bytes) → named S (a ++ b) ≡ named S a ++ named S b
named-append S [] b = refl
named-append S (n ∷ a) b =
    ap (λ (t : List Object). option_to_list (find_named S n) ++ t) (named-append S a b) ∙ sym (append_assoc (option_to_list (find_named S n)) (named S a) (named S b))

held-more : (S : List Object) (names more : List Name) → held_of S (names ++ more) ≡ named S (reverse (map name_bytes more)) ++ held_of S names
held-more S names more =
    ap (named S) (ap reverse (map-append name_bytes names more) ∙ reverse-append (map name_bytes names) (map name_bytes more))
    ∙ named-append S (reverse (map name_bytes more)) (reverse (map name_bytes names))

newer-children : (newer H : List Object) (es : List Entry) → IsStore (newer ++ H) → HasChildren H es → HasChildren (newer ++ H) es
newer-children newer H [] s h = tt
newer-children newer H (e ∷ es) s h = (child-above newer H e.mode e.name.0 s h.0, newer-children newer H es s h.1)

children-stay : (S : List Object) (names later : List Name) (es : List Entry) → Extends names later → IsStore (held_of S later) → HasChildren (held_of S names) es → HasChildren (held_of S later) es
children-stay S names later es x s h =
    let newer = named S (reverse (map name_bytes x.0)) in
    let e : held_of S later ≡ newer ++ held_of S names = ap (held_of S) x.1 ∙ held-more S names x.0 in
    subst (λ (T : List Object). HasChildren T es) (sym e) (newer-children newer (held_of S names) es (subst IsStore e s) h)

pub beside-stay : (S : List Object) (names later : List Name) (ds : List Frame) → Extends names later → IsStore (held_of S later) → AreBeside (held_of S names) ds → AreBeside (held_of S later) ds
beside-stay S names later [] x s h = tt
beside-stay S names later (d ∷ ds) x s h = (children-stay S names later d.beside x s h.0, beside-stay S names later ds x s h.1)

-- ---- one frame more or less

pub beside-push : (H : List Object) (ds : List Frame) (d : Frame) → AreBeside H ds → HasChildren H d.beside → AreBeside H (ds ++ d ∷ [])
beside-push H [] d h g = (g, tt)
beside-push H (x ∷ ds) d h g = (h.0, beside-push H ds d h.1 g)

pub beside-front : (H : List Object) (ds : List Frame) (d : Frame) → AreBeside H (ds ++ d ∷ []) → AreBeside H ds × HasChildren H d.beside
beside-front H [] d h = (tt, h.0)
beside-front H (x ∷ ds) d h = let rest = beside-front H ds d h.1 in ((h.0, rest.0), rest.1)

-- ---- the tree beside

-- what a held tree lists is held
pub held-listed : (S : List Object) (names : List Name) (n : Bytes) → IsStore S → Holds S names → has_name (held_of S names) n ≡ true → has Tree S n ≡ true →
    HasChildren (held_of S names) (listed (body_of Tree S n))
held-listed S names n s h k t =
    let H = held_of S names in
    let i = named-in S (reverse (map name_bytes names)) in
    let tree = part-kind S H Tree n s i k t in
    subst (λ (b : Bytes). HasChildren H (listed b)) (part-has S H Tree n i tree).1 (tree-children H n h.held tree)

pub some-read : (o : Option (List Entry)) → (o ≡ None → ⊥) → is_some o ≡ true
some-read None h = absurd (h refl)
some-read (Some es) h = refl

-- where no tree is held beside, nothing is listed
no-entries : tree_entries [] ≡ Some []
unfolding tree_entries
no-entries = refl

pub empty-read : is_some (tree_entries []) ≡ true
empty-read = ap is_some no-entries

pub empty-children : (H : List Object) (es : List Entry) → Some es ≡ tree_entries [] → HasChildren H es
empty-children H es e =
    let none : Some es ≡ Some [] = e ∙ no-entries in
    let same : es ≡ [] = cc in
    subst (λ (x : List Entry). HasChildren H x) (sym same) tt

-- one more is passed by
pub one-more : (all gone left : List Entry) → all ≡ gone ++ left → (x : List Entry) × (all ≡ x ++ drop 1 left)
one-more all gone [] h = (gone, h)
one-more all gone (e ∷ left) h = (gone ++ e ∷ [], h ∙ sym (append_assoc gone (e ∷ []) left))

children-front : (H : List Object) (a b : List Entry) → HasChildren H (a ++ b) → HasChildren H a
children-front H [] b h = tt
children-front H (e ∷ a) b h = (h.0, children-front H a b h.1)

children-back : (H : List Object) (a b : List Entry) → HasChildren H (a ++ b) → HasChildren H b
children-back H [] b h = h
children-back H (e ∷ a) b h = children-back H a b h.1

-- ---- what both list

passed-steps : {A : Type 0} (f : Object → A) (mark : List A) (S : List Object) (d d' : Frame) (p : IsPassed d d') → frame_steps f mark S d ≡ entries_steps f mark S p.same ++ frame_steps f mark S d'
passed-steps f mark S d d' p =
    let step : Entry → List _ = λ e. child_steps f mark (body_of Blob S) (tree_steps f mark S) e.mode e.name.0 in
    (λ i. entries_steps f mark S (p.entries i) ++ f (tree_at S (p.name i).0) ∷ [])
    ∙ ap (λ (t : List _). t ++ f (tree_at S d'.name.0) ∷ []) (flat_map-append step p.same d'.entries)
    ∙ append_assoc (entries_steps f mark S p.same) (entries_steps f mark S d'.entries) (f (tree_at S d'.name.0) ∷ [])

pub passed-work : (S : List Object) (d d' : Frame) → IsPassed d d' → length (frame_steps counted (tt ∷ []) S d') ≤ length (frame_steps counted (tt ∷ []) S d)
passed-work S d d' p =
    let e = ap length (passed-steps counted (tt ∷ []) S d d' p) in
    omega (arith, e, length-append (entries_steps counted (tt ∷ []) S p.same) (frame_steps counted (tt ∷ []) S d'))

pub passed-step : (S : List Object) (names : List Name) (d d' : Frame) (os : List Object) → IsPassed d d' → HasChildren (held_of S names) d.beside →
    IsReady S names (frame_steps itself [] S d ++ os) → IsStep S names names (frame_steps itself [] S d ++ os) (frame_steps itself [] S d' ++ os)
passed-step S names d d' os p h r =
    let same = entries_steps itself [] S p.same in
    let rest = frame_steps itself [] S d' in
    let e : frame_steps itself [] S d ++ os ≡ same ++ (rest ++ os) = ap (λ (t : List Object). t ++ os) (passed-steps itself [] S d d' p) ∙ append_assoc same rest os in
    let known = children-front (held_of S names) p.same _ (subst (λ (es : List Entry). HasChildren (held_of S names) es) p.beside h) in
    subst (λ (x : List Object). IsStep S names names x (rest ++ os)) (sym e)
    (skip-entries S names p.same (rest ++ os) known (subst (λ (x : List Object). IsReady S names x) e r))

pub passed-beside : (H : List Object) (d d' : Frame) → IsPassed d d' → HasChildren H d.beside → HasChildren H d'.beside
passed-beside H d d' p h =
    children-back H p.gone d'.beside (children-back H p.same (p.gone ++ d'.beside) (subst (λ (es : List Entry). HasChildren H es) p.beside h))

pub passed-open : (S : List Object) (d d' : Frame) → IsPassed d d' → IsOpen S d → IsOpen S d'
passed-open S d d' p h = record {
  tree = subst (λ (n : Name). has Tree S n.0 ≡ true) p.name h.tree;
  children = children-back S p.same d'.entries (subst (λ (es : List Entry). HasChildren S es) p.entries h.children);
}
