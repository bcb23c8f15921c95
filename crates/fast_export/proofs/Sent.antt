-- Texts that are put one behind the other.
use Rattle.std.proofs.Common.{◌≡◌, ℕ, ◌+◌, [], ◌++◌, length, take, min, Option, Result, Ok, Err, refl, sym, ap, subst, ◌∙◌, append_assoc, append-nil, arith}
use Rattle.std.specs.Prelude.{IsErrAnd, OnOk}
use Rattle.std.specs.Io.KnownBytes.{Appends}
use Rattle.std.proofs.KnownBytes.{Appends-nil, Appends-trans}
use Rattle.std.proofs.Math.Seq.{take-append-add}
use Rattle.std.proofs.lemmas.List.{take-append-le}
use Rattle.std.proofs.lemmas.Grind.{common_steps}
use Rattle.git_objects.specs.Paths.{Bytes}
use Rattle.proj_io.specs.Counts.{Counts}
use Rattle.fast_export.specs.Sending.{IsSent, IsFront, IsPut}
use Rattle.fast_export.specs.declared.error.ExportError.{ExportError}
use Rattle.fast_export.specs.declared.error.ExportError.TheVariants.{OutOfMemory}

pub whenever : {A E : Type 0} (r : Result A E) (P : Type 0) → P → OnOk r P
whenever (Ok x) P h = h
whenever (Err e) P h = tt

pub err_of : (r : Result Unit ExportError) (e : ExportError) → IsErrAnd r (λ x. x ≡ e) → r ≡ Err e
err_of (Ok x) e h = absurd h
err_of (Err x) e h = ap Err h

both_texts : (s r k l m t u : Bytes) → s ++ l ≡ k ++ t → r ++ m ≡ l ++ u → (s ++ r) ++ m ≡ k ++ (t ++ u)
both_texts s r k l m t u p q = append_assoc s r m ∙ ap (λ (x : Bytes). s ++ x) q ∙ sym (append_assoc s l u) ∙ ap (λ (x : Bytes). x ++ u) p ∙ append_assoc k t u

sent_then : (a b c : Option Bytes) (k l m t u : Bytes) → IsSent a b k l t → IsSent b c l m u → IsSent a c k m (t ++ u)
sent_then a b c k l m t u p q = record {
  sent = p.sent ++ q.sent;
  got = Appends-trans a b c p.sent q.sent p.got q.got;
  all = both_texts p.sent q.sent k l m t u p.all q.all;
}

front_then : (a b c : Option Bytes) (k l t u : Bytes) → IsSent a b k l t → IsFront b c (l ++ u) → IsFront a c (k ++ (t ++ u))
front_then a b c k l t u p q =
    let whole : p.sent ++ (l ++ u) ≡ k ++ (t ++ u) = sym (append_assoc p.sent l u) ∙ ap (λ (x : Bytes). x ++ u) p.all ∙ append_assoc k t u in
    record {
      count = length p.sent + q.count;
      got = subst (Appends a c) (sym (take-append-add p.sent (l ++ u) q.count) ∙ ap (take (length p.sent + q.count)) whole) (Appends-trans a b c p.sent (take q.count (l ++ u)) p.got q.got);
    }

short_front : (n : ℕ) (xs ys : Bytes) → take (min n (length xs)) (xs ++ ys) ≡ take n xs
short_front n xs ys = take-append-le (min n (length xs)) xs ys (omega arith) ∙ shortened n xs
  where
    shortened : (n : ℕ) (xs : Bytes) → take (min n (length xs)) xs ≡ take n xs
    shortened n xs = grind (arith, common_steps)

front_more : (a b : Option Bytes) (k t u : Bytes) → IsFront a b (k ++ t) → IsFront a b (k ++ (t ++ u))
front_more a b k t u p = record {
  count = min p.count (length (k ++ t));
  got = subst (Appends a b) (sym (short_front p.count (k ++ t) u) ∙ ap (take (min p.count (length (k ++ t)))) (append_assoc k t u)) p.got;
}

counts_then : (a b c : ℕ) (A B : Type 0) → Counts a b A → Counts b c B → Counts a c B
counts_then a b c A B p q = let l = p.later in record { later = let r = q.later in omega arith; rose = λ e. let r = q.rose e in omega arith }

same_counts : (a : ℕ) (A : Type 0) → (A → ⊥) → Counts a a A
same_counts a A h = record { later = omega arith; rose = λ x. absurd (h x) }

module _ {O : Type 0} {tells : O → Type 0} {written : O → Option Bytes} {faults refusals : O → ℕ} where
  pub put_then : (a b c : O) (k l m t u : Bytes) (r : Result Unit ExportError) → IsPut tells written faults refusals a b k l t (Ok tt) → IsPut tells written faults refusals b c l m u r → IsPut tells written faults refusals a c k m (t ++ u) r
  put_then a b c k l m t u (Ok x) p q = record {
    sent = sent_then (written a) (written b) (written c) k l m t u p.sent q.sent;
    front = tt;
    told = (λ x. p.told.0 (q.told.0 x), λ x. q.told.1 (p.told.1 x));
    fault = counts_then (faults a) (faults b) (faults c) _ _ p.fault q.fault;
    memory = let v = p.memory in let w = q.memory in omega arith;
  }
  put_then a b c k l m t u (Err e) p q = record {
    sent = tt;
    front = front_then (written a) (written b) (written c) k l t u p.sent q.front;
    told = (λ x. p.told.0 (q.told.0 x), λ x. q.told.1 (p.told.1 x));
    fault = counts_then (faults a) (faults b) (faults c) _ _ p.fault q.fault;
    memory = let v = p.memory in let w = q.memory in omega arith;
  }

  -- after an error nothing more comes of what was to follow
  pub put_stop : (a b : O) (k l m t u : Bytes) (e : ExportError) → IsPut tells written faults refusals a b k l t (Err e) → IsPut tells written faults refusals a b k m (t ++ u) (Err e)
  put_stop a b k l m t u e p = record {
    sent = tt;
    front = front_more (written a) (written b) k t u p.front;
    told = p.told;
    fault = p.fault;
    memory = p.memory;
  }

  pub put_kept : (a : O) (k t : Bytes) → IsPut tells written faults refusals a a k (k ++ t) t (Ok tt)
  put_kept a k t = record {
    sent = record { sent = []; got = Appends-nil (written a); all = refl };
    front = tt;
    told = (λ x. x, λ x. x);
    fault = same_counts (faults a) _ (λ x. cc);
    memory = omega arith;
  }

  pub put_idle : (a : O) (k : Bytes) → IsPut tells written faults refusals a a k k [] (Ok tt)
  put_idle a k = record {
    sent = record { sent = []; got = Appends-nil (written a); all = sym (append-nil k) };
    front = tt;
    told = (λ x. x, λ x. x);
    fault = same_counts (faults a) _ (λ x. cc);
    memory = omega arith;
  }

  pub put_none : (a : O) (k l t : Bytes) → IsPut tells written faults refusals a a k l t (Err OutOfMemory)
  put_none a k l t = record {
    sent = tt;
    front = record { count = 0; got = Appends-nil (written a) };
    told = (λ x. x, λ x. x);
    fault = same_counts (faults a) _ (λ x. cc);
    memory = omega arith;
  }

  pub put_as : (a b : O) (k l t u : Bytes) (r : Result Unit ExportError) → t ≡ u → IsPut tells written faults refusals a b k l t r → IsPut tells written faults refusals a b k l u r
  put_as a b k l t u r e p = subst (λ (x : Bytes). IsPut tells written faults refusals a b k l x r) e p

  -- an error that was told, as it is answered
  pub put_err : (a b : O) (k l t : Bytes) (e : ExportError) (r : Result Unit ExportError) → IsErrAnd r (λ x. x ≡ e) → IsPut tells written faults refusals a b k l t (Err e) → IsPut tells written faults refusals a b k l t r
  put_err a b k l t e r h p = subst (λ (x : Result Unit ExportError). IsPut tells written faults refusals a b k l t x) (sym (err_of r e h)) p

  pub put_left : (a b : O) (k l m t : Bytes) (r : Result Unit ExportError) → l ≡ m → IsPut tells written faults refusals a b k l t r → IsPut tells written faults refusals a b k m t r
  put_left a b k l m t r e p = subst (λ (x : Bytes). IsPut tells written faults refusals a b k x t r) e p

  -- behind what was gathered in front of it
  pub put_behind : (a b : O) (k k1 l t u : Bytes) (r : Result Unit ExportError) → k1 ≡ k ++ t → IsPut tells written faults refusals a b k1 l u r → IsPut tells written faults refusals a b k l (t ++ u) r
  put_behind a b k k1 l t u r e p = put_then a a b k (k ++ t) l t u r (put_kept a k t) (subst (λ (x : Bytes). IsPut tells written faults refusals a b x l u r) e p)

  -- and something is gathered behind it
  pub put_before : (a b : O) (k l l1 t u : Bytes) → l1 ≡ l ++ u → IsPut tells written faults refusals a b k l t (Ok tt) → IsPut tells written faults refusals a b k l1 (t ++ u) (Ok tt)
  put_before a b k l l1 t u e p = put_left a b k (l ++ u) l1 (t ++ u) (Ok tt) (sym e) (put_then a b b k l (l ++ u) t u (Ok tt) p (put_kept b l u))

  -- or there is no memory for it
  pub put_short : (a b : O) (k l m t u : Bytes) → IsPut tells written faults refusals a b k l t (Ok tt) → IsPut tells written faults refusals a b k m (t ++ u) (Err OutOfMemory)
  put_short a b k l m t u p = put_then a b b k l m t u (Err OutOfMemory) p (put_none b l m u)

  pub put_result : (a b : O) (k l t : Bytes) (q r : Result Unit ExportError) → q ≡ r → IsPut tells written faults refusals a b k l t q → IsPut tells written faults refusals a b k l t r
  put_result a b k l t q r e p = subst (λ (x : Result Unit ExportError). IsPut tells written faults refusals a b k l t x) e p
