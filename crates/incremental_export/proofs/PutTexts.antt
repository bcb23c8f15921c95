-- The texts of a list's members, put one behind the other.
use Rattle.std.proofs.Common.{◌≡◌, ℕ, ◌+◌, ◌<◌, ◌≤◌, List, [], ◌∷◌, ◌++◌, length, take, drop, get_or, take-append-drop, Option, Result, Ok, Err, flat_map, sym, ap, ◌∙◌, append-nil}
use Rattle.std.proofs.lemmas.Grind.{flat_map-append}
use Rattle.std.proofs.lemmas.List.{take_all, take_more}
use Rattle.git_objects.specs.Paths.{Bytes}
use Rattle.fast_export.specs.Sending.{IsPut}
use Rattle.fast_export.specs.declared.error.ExportError.{ExportError}
use Rattle.fast_export.specs.declared.error.ExportError.TheVariants.{OutOfMemory}
use Rattle.fast_export.proofs.Sent.{put_as, put_before, put_idle, put_short, put_stop, put_then}

module _ {A : Type 0} (f : A → Bytes) (xs : List A) where
  -- the text of the first i
  abbrev pub text_to : ℕ → Bytes
  text_to i = flat_map f (take i xs)

  text_more : (i : ℕ) (x : A) → i < length xs → x ≡ get_or xs i x → text_to i ++ f x ≡ text_to (i + 1)
  text_more i x h here =
      ap (λ (t : Bytes). text_to i ++ t) (sym (append-nil (f x)))
      ∙ sym (flat_map-append f (take i xs) (x ∷ []))
      ∙ ap (λ y. flat_map f (take i xs ++ y ∷ [])) here
      ∙ ap (flat_map f) (sym (take_more xs i x h))

  text_rest : (i : ℕ) → text_to i ++ flat_map f (drop i xs) ≡ flat_map f xs
  text_rest i = sym (flat_map-append f (take i xs) (drop i xs)) ∙ ap (flat_map f) (take-append-drop i xs)

  module _ {O : Type 0} {tells : O → Type 0} {written : O → Option Bytes} {faults refusals : O → ℕ} where
    pub none_put : (a : O) (k : Bytes) → IsPut tells written faults refusals a a k k (text_to 0) (Ok tt)
    none_put a k = put_idle a k

    -- one text more was kept, and then sent or not
    one_put : (a b c : O) (k l l1 m : Bytes) (i : ℕ) (x : A) (r : Result Unit ExportError) → i < length xs → x ≡ get_or xs i x → IsPut tells written faults refusals a b k l (text_to i) (Ok tt) → l1 ≡ l ++ f x
        → IsPut tells written faults refusals b c l1 m [] r → IsPut tells written faults refusals a c k m (text_to (i + 1)) r
    one_put a b c k l l1 m i x r h here p e q =
        put_as a c k m _ _ r (append-nil (text_to i ++ f x) ∙ text_more i x h here) (put_then a b c k l1 m _ [] r (put_before a b k l l1 (text_to i) (f x) e p) q)

    pub more_put : (a b c : O) (k l l1 m : Bytes) (i : ℕ) (x : A) → i < length xs → x ≡ get_or xs i x → IsPut tells written faults refusals a b k l (text_to i) (Ok tt) → l1 ≡ l ++ f x
        → IsPut tells written faults refusals b c l1 m [] (Ok tt) → IsPut tells written faults refusals a c k m (text_to (i + 1)) (Ok tt)
    more_put a b c k l l1 m i x h here p e q = one_put a b c k l l1 m i x (Ok tt) h here p e q

    -- an error in the middle
    pub less_put : (a b c : O) (k l l1 m : Bytes) (i : ℕ) (x : A) (f1 : ExportError) → i < length xs → x ≡ get_or xs i x → IsPut tells written faults refusals a b k l (text_to i) (Ok tt) → l1 ≡ l ++ f x
        → IsPut tells written faults refusals b c l1 m [] (Err f1) → IsPut tells written faults refusals a c k m (flat_map f xs) (Err f1)
    less_put a b c k l l1 m i x f1 h here p e q =
        put_as a c k m _ _ (Err f1) (text_rest (i + 1)) (put_stop a c k m m (text_to (i + 1)) (flat_map f (drop (i + 1) xs)) f1 (one_put a b c k l l1 m i x (Err f1) h here p e q))

    pub short_put : (a b : O) (k l m : Bytes) (i : ℕ) → IsPut tells written faults refusals a b k l (text_to i) (Ok tt) → IsPut tells written faults refusals a b k m (flat_map f xs) (Err OutOfMemory)
    short_put a b k l m i p = put_as a b k m _ _ (Err OutOfMemory) (text_rest i) (put_short a b k l m (text_to i) (flat_map f (drop i xs)) p)

    pub all_put : (a b : O) (k l : Bytes) (i : ℕ) → length xs ≤ i → IsPut tells written faults refusals a b k l (text_to i) (Ok tt) → IsPut tells written faults refusals a b k l (flat_map f xs) (Ok tt)
    all_put a b k l i h p = put_as a b k l _ _ (Ok tt) (ap (flat_map f) (take_all i xs h)) p
