-- Look-ups and entries, in the code's caches and in the memo.
use Rattle.std.proofs.Common.{◌≡◌, ◌-◌, Bool, true, false, cond, nat_eq, ◌&&◌, List, [], ◌∷◌, map, length, take, Option, Some, None, is_some, Result, Ok, Err, OnOk, OnErr, IsOk, IsSome, ◌⊎◌, inl, inr, refl, sym, ap, ◌∙◌}
use Rattle.std.specs.List.{AllByRecursion, IsDistinct}
use Rattle.std.specs.Option.{option_map, option_map_or}
use Rattle.std.specs.Map.{keys_of, lookup, lookup_entry, remove_entry}
use Rattle.std.specs.Cmp.Lexicographic.{bytes_decides}
use Rattle.std.proofs.lemmas.Bool.{eqb-true, and_parts}
use Rattle.std.proofs.lemmas.List.{length-map, take-map}
use Rattle.lru.specs.LruCache.{LruCache, promoted, put_entries}
use Rattle.lru.proofs.CallerLemmas.{Contains-lookup_entry}
use Rattle.git_objects.specs.Paths.{Bytes, same_bytes}
use Rattle.git_objects.specs.Parts.{name_bytes}
use Rattle.git_objects.specs.declared.name.Name.{Name}
use Rattle.filter_cache.specs.Memos.{Key, JoinKey, same_key, same_join, found, without, used, used_for, entered}
use Rattle.filter_cache.specs.Pairs.{key_of, join_of, entries_of}
use Rattle.filter_cache.specs.declared.memo.Pair.{Pair}
use Rattle.filter_cache.specs.declared.memo.Place.{Place}

-- ---- keys that are the same

pub key-is : (j k : Key) → same_key j k ≡ true → j ≡ k
key-is j k h =
    let front = and_parts (nat_eq j.0.0 k.0.0) (nat_eq j.0.1 k.0.1 && same_bytes j.1 k.1) h in
    let rest = and_parts (nat_eq j.0.1 k.0.1) (same_bytes j.1 k.1) front.1 in
    let table = eqb-true j.0.0 k.0.0 front.0 in
    let part = eqb-true j.0.1 k.0.1 rest.0 in
    let tree = (bytes_decides j.1 k.1).0 rest.1 in
    λ i. ((table i, part i), tree i)

pub join-is : (j k : JoinKey) → same_join j k ≡ true → j ≡ k
join-is j k h =
    let both = and_parts (same_bytes j.0 k.0) (same_bytes j.1 k.1) h in
    let first = (bytes_decides j.0 k.0).0 both.0 in
    let second = (bytes_decides j.1 k.1).0 both.1 in
    λ i. (first i, second i)

-- ---- look-ups

-- a test of the code's keys that tells whether one is this key
abbrev pub Tells : {P K : Type 0} → (P → K) → (K → K → Bool) → (P → Bool) → K → Type 0
Tells {P = P} key same test k = (p : P) → test p ≡ same k (key p)

module _ {P K : Type 0} (key : P → K) (same : K → K → Bool) (same-is : (j k : K) → same j k ≡ true → j ≡ k) (test : P → Bool) (k : K) (tells : Tells key same test k) where
  pub found-lookup : (es : List (P × Name)) → option_map name_bytes (lookup test es) ≡ found same k (entries_of key es)
  found-lookup [] = refl
  found-lookup (e ∷ es) =
      elim (test e.0) as (λ b. option_map name_bytes (cond b (Some e.1) (lookup test es)) ≡ cond b (Some e.1.0) (found same k (entries_of key es))) [
        | true ↦ refl
        | false ↦ found-lookup es
      ]
      ∙ ap (λ b. cond b (Some e.1.0) (found same k (entries_of key es))) (tells e.0)

  without-remove : (es : List (P × Name)) → entries_of key (remove_entry test es) ≡ without same k (entries_of key es)
  without-remove [] = refl
  without-remove (e ∷ es) =
      elim (test e.0) as (λ b. entries_of key (cond b es (e ∷ remove_entry test es)) ≡ cond b (entries_of key es) ((key e.0, e.1.0) ∷ without same k (entries_of key es))) [
        | true ↦ refl
        | false ↦ ap (λ (rs : List (K × Bytes)). (key e.0, e.1.0) ∷ rs) (without-remove es)
      ]
      ∙ ap (λ b. cond b (entries_of key es) ((key e.0, e.1.0) ∷ without same k (entries_of key es))) (tells e.0)

  found-entry : (es : List (P × Name)) → option_map (λ e. e.1.0) (lookup_entry test es) ≡ found same k (entries_of key es)
  found-entry [] = refl
  found-entry (e ∷ es) =
      elim (test e.0) as (λ b. option_map (λ e. e.1.0) (cond b (Some e) (lookup_entry test es)) ≡ cond b (Some e.1.0) (found same k (entries_of key es))) [
        | true ↦ refl
        | false ↦ found-entry es
      ]
      ∙ ap (λ b. cond b (Some e.1.0) (found same k (entries_of key es))) (tells e.0)

  -- a pair that is found has the key
  key-found : (es : List (P × Name)) (e : P × Name) → lookup_entry test es ≡ Some e → key e.0 ≡ k
  key-found es e h = sym (same-is k (key e.0) (sym (tells e.0) ∙ (Contains-lookup_entry test es e h).1))

  pub used-promoted : (es : List (P × Name)) → entries_of key (promoted test es) ≡ used same k (entries_of key es)
  used-promoted es = by (lookup_entry test es) refl ∙ ap (λ o. used_for same k o (entries_of key es)) (found-entry es)
    where
      by : (o : Option (P × Name)) → lookup_entry test es ≡ o → entries_of key (option_map_or (λ e. e ∷ remove_entry test es) o es) ≡ used_for same k (option_map (λ e. e.1.0) o) (entries_of key es)
      by None h = refl
      by (Some e) h = λ i. (key-found es e h i, e.1.0) ∷ without-remove es i

  pub entered-put : (eq : P → P → Bool) (c : LruCache P Name) (p : P) (n : Name) → eq p ≡ test → key p ≡ k → entries_of key (put_entries eq c p n) ≡ entered same c.cap k n.0 (entries_of key c.entries)
  entered-put eq c p n e f =
      ap (λ t. entries_of key (option_map_or (λ (d : P × Name). (d.0, n) ∷ remove_entry t c.entries) (lookup_entry t c.entries) ((p, n) ∷ take (c.cap - 1) c.entries))) e
      ∙ by (lookup_entry test c.entries) refl
      ∙ ap (λ (o : Option Bytes). (k, n.0) ∷ cond (is_some o) (without same k (entries_of key c.entries)) (take (c.cap - 1) (entries_of key c.entries))) (found-entry c.entries)
    where
      by : (o : Option (P × Name)) → lookup_entry test c.entries ≡ o → entries_of key (option_map_or (λ (d : P × Name). (d.0, n) ∷ remove_entry test c.entries) o ((p, n) ∷ take (c.cap - 1) c.entries))
          ≡ (k, n.0) ∷ cond (is_some (option_map (λ (d : P × Name). d.1.0) o)) (without same k (entries_of key c.entries)) (take (c.cap - 1) (entries_of key c.entries))
      by None h = λ i. (f i, n.0) ∷ sym (take-map (λ (e : P × Name). (key e.0, e.1.0)) (c.cap - 1) c.entries) i
      by (Some d) h = λ i. (key-found c.entries d h i, n.0) ∷ without-remove c.entries i

abbrev pub same_place : Place → Place → Bool
same_place p q = same_key (key_of p) (key_of q)

abbrev pub same_pair : Pair → Pair → Bool
same_pair p q = same_join (join_of p) (join_of q)

pub length-entries : {P K : Type 0} (key : P → K) (es : List (P × Name)) → length (entries_of key es) ≡ length es
length-entries {K = K} key es = length-map {B = K × Bytes} es (λ e. (key e.0, e.1.0))

-- distinct keys of the code are distinct keys of the memo
pub distinct-keys : {P K : Type 0} (key : P → K) (same : K → K → Bool) (eq : P → P → Bool) → ((p q : P) → eq p q ≡ same (key p) (key q)) → (es : List (P × Name)) → IsDistinct eq (keys_of es) → IsDistinct same (map (λ e. e.0) (entries_of key es))
unfolding IsDistinct
distinct-keys key same eq tells [] d = d
distinct-keys {P = P} {K = K} key same eq tells (e ∷ es) d = (apart es d.0, distinct-keys key same eq tells es d.1)
  where
    apart : (fs : List (P × Name)) → AllByRecursion (λ q. eq e.0 q ≡ false) (keys_of fs) → AllByRecursion (λ q. same (key e.0) q ≡ false) (map (λ e. e.0) (entries_of key fs))
    apart [] a = a
    apart (f ∷ fs) a = (sym (tells e.0 f.0) ∙ a.0, apart fs a.1)

-- ---- what a call that may want memory leaves

pub either-way : {T E : Type 0} {P Q : Type 0} (r : Result T E) → OnOk r P → OnErr r Q → P ⊎ Q
either-way (Ok t) p q = inl p
either-way (Err e) p q = inr q

pub when-ok : {T E : Type 0} {P : Type 0} (r : Result T E) → OnOk r P → IsOk r → P
when-ok (Ok t) p ok = p
when-ok (Err e) p ok = cc

pub some-before : {A B : Type 0} (f : A → B) (o : Option A) → IsSome (option_map f o) → IsSome o
some-before f None s = s
some-before f (Some a) s = refl
