-- What a store holds under a name, and that it stays when the store grows.
use Rattle.std.proofs.Common.{◌≡◌, true, false, cond, ◌||◌, List, [], ◌∷◌, ◌++◌, Some, None, refl, sym, ap, ◌∙◌, true≢false}
use Rattle.std.proofs.lemmas.Bool.{or_right, false_from_ne_true}
use Rattle.std.specs.Option.{is_none, option_map_or}
use Rattle.std.specs.Cmp.{first_so, second_so}
use Rattle.std.specs.Cmp.Lexicographic.{bytes_decides}
use Rattle.git_objects.specs.Paths.{Bytes, same_bytes, is_bytes}
use Rattle.git_objects.specs.Names.{name}
use Rattle.git_objects.specs.Bodies.{tree_entries}
use Rattle.git_objects.specs.declared.entry.Entry.{Entry}
use Rattle.git_objects.specs.declared.kind.Kind.{Kind}
use Rattle.git_objects.specs.declared.kind.Kind.TheVariants.{Blob, Tree, Commit}
use Rattle.object_store.specs.Objects.{Object, object_name, same_kind, is_named, has, has_name, body_of, missing_entry, is_body, IsStore}

pub kind_is : (j k : Kind) → same_kind j k ≡ true → k ≡ j
kind_is Blob Blob h = refl
kind_is Blob Tree h = absurd (true≢false (sym h))
kind_is Blob Commit h = absurd (true≢false (sym h))
kind_is Tree Blob h = absurd (true≢false (sym h))
kind_is Tree Tree h = refl
kind_is Tree Commit h = absurd (true≢false (sym h))
kind_is Commit Blob h = absurd (true≢false (sym h))
kind_is Commit Tree h = absurd (true≢false (sym h))
kind_is Commit Commit h = refl

pub named_kind : (k : Kind) (o : Object) (n : Bytes) → is_named k o n ≡ true → o.kind ≡ k
named_kind k o n h = kind_is k o.kind (first_so _ _ h)

pub named_name : (k : Kind) (o : Object) (n : Bytes) → is_named k o n ≡ true → object_name o ≡ n
named_name k o n h = (bytes_decides (object_name o) n).0 (second_so _ _ h)

named_body : (k : Kind) (o : Object) (n : Bytes) → is_named k o n ≡ true → name k o.body ≡ n
named_body k o n h = ap (λ j. name j o.body) (sym (named_kind k o n h)) ∙ named_name k o n h

pub body_named : (k : Kind) (S : List Object) (n : Bytes) → has k S n ≡ true → name k (body_of k S n) ≡ n
unfolding has body_of
body_named k [] n h = absurd (true≢false (sym h))
body_named k (o ∷ S) n h =
    elim (is_named k o n) as (λ t. is_named k o n ≡ t → (t || has k S n) ≡ true → name k (cond t o.body (body_of k S n)) ≡ n) [
      | true ↦ λ e g. named_body k o n e
      | false ↦ λ e g. body_named k S n g
    ] refl h

-- ---- bodies

is_body-bytes : (S : List Object) (k : Kind) (b : Bytes) → is_body S k b ≡ true → is_bytes b ≡ true
is_body-bytes S Blob b h = h
is_body-bytes S Tree b h = first_so _ _ h
is_body-bytes S Commit b h = first_so _ _ h

pub body_bytes : (k : Kind) (S : List Object) (n : Bytes) → IsStore S → has k S n ≡ true → is_bytes (body_of k S n) ≡ true
unfolding has body_of
body_bytes k [] n s h = absurd (true≢false (sym h))
body_bytes k (o ∷ S) n s h =
    elim (is_named k o n) as (λ t. (t || has k S n) ≡ true → is_bytes (cond t o.body (body_of k S n)) ≡ true) [
      | true ↦ λ g. is_body-bytes S o.kind o.body s.0
      | false ↦ λ g. body_bytes k S n s.2 g
    ] h

-- a tree's body is read, and its children are held
pub record IsHeldTree (S : List Object) (b : Bytes) : Type 0 where
  pub entries : List Entry
  pub read : tree_entries b ≡ Some entries
  pub bytes : is_bytes b ≡ true
  pub held : is_none (missing_entry S entries) ≡ true

pub tree_held : (S : List Object) (b : Bytes) → is_body S Tree b ≡ true → IsHeldTree S b
tree_held S b h =
    elim (tree_entries b) as (λ o. tree_entries b ≡ o → option_map_or (λ es. is_none (missing_entry S es)) o false ≡ true → IsHeldTree S b) [
      | None ↦ λ e g. absurd (true≢false (sym g))
      | Some es ↦ λ e g. record { entries = es; read = e; bytes = first_so _ _ h; held = g }
    ] refl (second_so _ _ h)

-- ---- one more object

pub has_name-from : (k : Kind) (S : List Object) (n : Bytes) → has k S n ≡ true → has_name S n ≡ true
unfolding has has_name
has_name-from k [] n h = h
has_name-from k (o ∷ S) n h =
    elim (is_named k o n) as (λ t. is_named k o n ≡ t → (t || has k S n) ≡ true → (same_bytes (object_name o) n || has_name S n) ≡ true) [
      | true ↦ λ e g. ap (λ b. b || has_name S n) (second_so _ _ e)
      | false ↦ λ e g. or_right _ _ (has_name-from k S n g)
    ] refl h

-- what an older object has for its name, a newer one has not
pub not_named : (k : Kind) (o : Object) (S : List Object) (n : Bytes) → has_name S (object_name o) ≡ false → has k S n ≡ true → is_named k o n ≡ false
not_named k o S n f h = false_from_ne_true _ (λ e. true≢false (sym (has_name-from k S n h) ∙ ap (has_name S) (sym (named_name k o n e)) ∙ f))

pub has-above : (newer S : List Object) (k : Kind) (n : Bytes) → has k S n ≡ true → has k (newer ++ S) n ≡ true
unfolding has
has-above [] S k n h = h
has-above (o ∷ newer) S k n h = or_right (is_named k o n) _ (has-above newer S k n h)
