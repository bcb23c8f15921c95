-- Pieces that are written one after another are written as one.
use Rattle.std.proofs.Common.{◌≡◌, ◌≢◌, ◌<◌, ◌≤◌, ◌++◌, ℕ, zero, suc, List, [], ◌∷◌, take, drop, length, append_assoc, refl, sym, ap, subst, ◌∙◌, arith}
use Rattle.std.specs.Prelude.{codes, decimal, get_or}
use Rattle.std.specs.List.{flat_map}
use Rattle.std.specs.Io.KnownBytes.{Appends}
use Rattle.std.proofs.KnownBytes.{Appends-trans}
use Rattle.std.proofs.Math.Seq.{take-append_seam}
use Rattle.std.proofs.lemmas.List.{take-append-drop}
use Rattle.git_objects.specs.Paths.{Bytes}
use Rattle.proj_io.specs.Views.{SinkView}
use Rattle.proj_words.specs.Entries.{reply_text}
use Rattle.proj_words.specs.Outcomes.{code_of}
use Rattle.proj_words.specs.declared.outcome.Outcome.{Outcome}
use Rattle.proj_words.specs.declared.outcome.Outcome.TheVariants.{Done, OutOfMemory, WriteFault}
use Rattle.proj_cli.specs.Sent.{IsSent, reply_head}
use Rattle.proj_commands.specs.Makes.{Fronts}

-- ---- lists

module _ {X : Type 0} (f : X → Bytes) where
  -- those before a place, that one, and those behind it
  pub flat-at : (xs : List X) (k : ℕ) (d : X) → k < length xs → flat_map f xs ≡ flat_map f (take k xs) ++ (f (get_or xs k d) ++ flat_map f (drop (suc k) xs))
  flat-at [] k d lt = absurd (omega (arith, lt))
  flat-at (y ∷ xs) zero d lt = refl
  flat-at (y ∷ xs) (suc k) d lt =
      let less : k < length xs = omega (arith, lt) in
      ap (λ (t : Bytes). f y ++ t) (flat-at xs k d less) ∙ sym (append_assoc (f y) (flat_map f (take k xs)) (f (get_or xs k d) ++ flat_map f (drop (suc k) xs)))

-- ---- a piece that isn't written whole

module _ (o m q : SinkView) (front piece later : Bytes) (wrote : Appends o.written m.written front) (fewer : o.refusals ≤ m.refusals) where
  cut : (n : ℕ) → take (length (front ++ take n piece)) (front ++ (piece ++ later)) ≡ front ++ take n piece
  cut n =
      ap (λ (t : Bytes). take (length (front ++ take n piece)) t)
      (ap (λ (t : Bytes). front ++ (t ++ later)) (sym (take-append-drop n piece))
      ∙ ap (λ (t : Bytes). front ++ t) (append_assoc (take n piece) (drop n piece) later)
      ∙ sym (append_assoc front (take n piece) (drop n piece ++ later)))
      ∙ take-append_seam (front ++ take n piece) (drop n piece ++ later)

  front-of : (n : ℕ) → Appends m.written q.written (take n piece) → Fronts (front ++ (piece ++ later)) o q
  front-of n w =
      (length (front ++ take n piece), subst (Appends o.written q.written) (sym (cut n)) (Appends-trans o.written m.written q.written front (take n piece) wrote w))

  pub sent-short : (outcome : Outcome) → outcome ≢ Done → IsSent outcome piece m q → IsSent outcome (front ++ (piece ++ later)) o q
  sent-short Done n sent = absurd (n refl)
  sent-short WriteFault n sent = front-of sent.0 sent.1
  sent-short OutOfMemory n sent = (omega (arith, fewer, sent.0), front-of sent.1.0 sent.1.1)
  sent-short _ n sent = absurd sent

-- ---- the loop over the pieces

-- a front was written, and no count has fallen
pub record HasWritten (o q : SinkView) (front : Bytes) : Type 0 where
  pub wrote : Appends o.written q.written front
  pub faults : o.faults ≤ q.faults
  pub refusals : o.refusals ≤ q.refusals

-- ---- a reply

-- what stands before the output, the output and an LF are a reply
pub reply-pieces : (outcome : Outcome) (output : Bytes) → reply_head outcome (length output) ++ (output ++ 10 ∷ []) ≡ reply_text outcome output
reply-pieces outcome output = append_assoc (codes "status " ++ decimal (code_of outcome) ++ codes "\nbytes " ++ decimal (length output)) (10 ∷ []) (output ++ 10 ∷ [])

-- what stands there, from its end to its front
pub head-joined : (code count : Bytes) → codes "status " ++ (code ++ (codes "\nbytes " ++ (count ++ 10 ∷ []))) ≡ codes "status " ++ code ++ codes "\nbytes " ++ count ++ 10 ∷ []
head-joined code count =
    let front = codes "status " ++ code in
    sym (append_assoc (front ++ codes "\nbytes ") count (10 ∷ []) ∙ append_assoc front (codes "\nbytes ") (count ++ 10 ∷ []))
