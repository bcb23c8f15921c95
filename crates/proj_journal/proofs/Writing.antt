-- Writes behind the shut gate at the end.
use Rattle.std.proofs.Common.{◌≡◌, ◌<◌, ◌≤◌, ◌+◌, ◌++◌, ℕ, List, length, drop, Result, Ok, Err, Some, None, refl, sym, ◌∙◌, ap, subst, arith, append_assoc}
use Rattle.std.proofs.lemmas.List.{take_at}
use Rattle.std.specs.declared.option.Option.{Option}
use Rattle.std.specs.Prelude.{OnOk, IsErrOf, IfSome}
use Rattle.std.specs.Option.{option_map}
use Rattle.std.proofs.Math.Seq.{drop-append-add}
use Rattle.std.proofs.lemmas.List.{places}
use Rattle.proj_io.specs.Stops.{OnlyAdds, adds_as}
use Rattle.proj_io.specs.declared.source.SinkError.{SinkError}
use Rattle.proj_io.specs.declared.source.SinkError.TheVariants.{Failed, OutOfMemory}
use Rattle.proj_disk.specs.Disks.{DiskView, IsImage, IsLeftBy, IsTornIfKnown, Elapses, put, stable, written, widened}
use Rattle.proj_journal.specs.Spelling.{listed, list_in}
use Rattle.proj_journal.specs.Rest.{StandsAt, IsAtRest, SpellsSame, KeepsRest, KeepsList, Puts}
use Rattle.proj_journal.specs.Resting.{spells, stands-widened, stands-written, stands-stable, rest_images}

-- a piece at the end of a front
pub put_end : (front rest piece : List ℕ) (at : ℕ) → length front ≡ at → put at piece (front ++ rest) ≡ (front ++ piece) ++ drop (length piece) rest
put_end front rest piece at long =
    (λ i. take_at front rest at long i ++ (piece ++ past i)) ∙ sym (append_assoc front piece (drop (length piece) rest))
  where
    past : drop (at + length piece) (front ++ rest) ≡ drop (length piece) rest
    past = ap (λ (n : ℕ). drop (n + length piece) (front ++ rest)) (sym long) ∙ drop-append-add front rest (length piece)

pub length-put : (at : ℕ) (piece bytes : List ℕ) → at ≤ length bytes → at + length piece ≤ length (put at piece bytes)
length-put at piece bytes le = grind (arith, places)

-- a write behind the end that succeeded
pub rest_written : (end at : ℕ) (piece : List ℕ) (o p : Option DiskView) → end < at → IsAtRest end o → p ≡ option_map (written at piece) o → IfSome p (λ d. IsImage d d.bytes) → KeepsRest end o p
rest_written end at piece None p lt rest is reads = is
rest_written end at piece (Some d) None lt rest is reads = cc
rest_written end at piece (Some d) (Some e) lt rest is reads =
    let same : e ≡ written at piece d = cc in
    let stands : StandsAt end (listed d.bytes) e = subst (StandsAt end (listed d.bytes)) (sym same) (stands-written end (listed d.bytes) d rest at piece lt) in
    (stands, ap list_in (spells end (listed d.bytes) e stands e.bytes reads))

pub rest_same : (end : ℕ) (o p : Option DiskView) → IsAtRest end o → p ≡ o → KeepsRest end o p
rest_same end None p rest is = is
rest_same end (Some d) None rest is = cc
rest_same end (Some d) (Some e) rest is =
    let same : e ≡ d = cc in
    (subst (StandsAt end (listed d.bytes)) (sym same) rest, ap (λ (v : DiskView). listed v.bytes) same)

pub keeps_list : (end : ℕ) (o p : Option DiskView) → KeepsRest end o p → KeepsList o p
keeps_list end None p keeps = keeps
keeps_list end (Some d) None keeps = keeps
keeps_list end (Some d) (Some e) keeps = keeps.1

pub torn_list : (end at n : ℕ) (o p : Option DiskView) → end < at → IsAtRest end o → IsTornIfKnown at n o p → IfSome p (λ d. IsImage d d.bytes) → KeepsList o p
torn_list end at n None p lt rest torn reads = torn
torn_list end at n (Some d) None lt rest torn reads = torn
torn_list end at n (Some d) (Some e) lt rest torn reads =
    ap list_in (spells end (listed d.bytes) (widened at n d) (stands-widened end (listed d.bytes) d rest at n lt) e.bytes (torn.images e.bytes reads))

torn_images : (end at n : ℕ) (o p : Option DiskView) → end < at → IsAtRest end o → IsTornIfKnown at n o p → (image : List ℕ) → IsLeftBy p image → SpellsSame o image
torn_images end at n None p lt rest torn image left = tt
torn_images end at n (Some d) None lt rest torn image left = absurd left
torn_images end at n (Some d) (Some e) lt rest torn image left =
    spells end (listed d.bytes) (widened at n d) (stands-widened end (listed d.bytes) d rest at n lt) image (torn.images image left)

pub spells_back : (o p : Option DiskView) → KeepsList o p → (image : List ℕ) → SpellsSame p image → SpellsSame o image
spells_back None p keeps image is = tt
spells_back (Some d) None keeps image is = absurd keeps
spells_back (Some d) (Some e) keeps image is = is ∙ ap Ok keeps

pub rest_after : (end : ℕ) (o p : Option DiskView) → KeepsRest end o p → IsAtRest end p
rest_after end None p keeps = subst (IsAtRest end) (sym keeps) tt
rest_after end (Some d) None keeps = absurd keeps
rest_after end (Some d) (Some e) keeps = subst (λ (l : List (List ℕ)). StandsAt end l e) (sym keeps.1) keeps.0

kept_images : (end : ℕ) (o p : Option DiskView) → KeepsRest end o p → (image : List ℕ) → IsLeftBy p image → SpellsSame o image
kept_images end o p keeps image left = spells_back o p (keeps_list end o p keeps) image (rest_images end p (rest_after end o p keeps) image left)

-- a write behind the end, whatever it answered
pub write_list : (end at : ℕ) (piece : List ℕ) (o p : Option DiskView) (result : Result (Unit {0}) SinkError) → end < at → IsAtRest end o → IfSome p (λ d. IsImage d d.bytes)
    → OnOk result (p ≡ option_map (written at piece) o) → (IsErrOf result Failed → IsTornIfKnown at (length piece) o p) → (IsErrOf result OutOfMemory → p ≡ o) → KeepsList o p
write_list end at piece o p (Ok v) lt rest reads ok failed memory = keeps_list end o p (rest_written end at piece o p lt rest ok reads)
write_list end at piece o p (Err Failed) lt rest reads ok failed memory = torn_list end at (length piece) o p lt rest (failed refl) reads
write_list end at piece o p (Err OutOfMemory) lt rest reads ok failed memory = keeps_list end o p (rest_same end o p rest (memory refl))

pub write_images : (end at : ℕ) (piece : List ℕ) (o p : Option DiskView) (result : Result (Unit {0}) SinkError) → end < at → IsAtRest end o → IfSome p (λ d. IsImage d d.bytes)
    → OnOk result (p ≡ option_map (written at piece) o) → (IsErrOf result Failed → IsTornIfKnown at (length piece) o p) → (IsErrOf result OutOfMemory → p ≡ o)
    → (image : List ℕ) → IsLeftBy p image → SpellsSame o image
write_images end at piece o p (Ok v) lt rest reads ok failed memory = kept_images end o p (rest_written end at piece o p lt rest ok reads)
write_images end at piece o p (Err Failed) lt rest reads ok failed memory = torn_images end at (length piece) o p lt rest (failed refl)
write_images end at piece o p (Err OutOfMemory) lt rest reads ok failed memory = kept_images end o p (rest_same end o p rest (memory refl))

pub puts : (at : ℕ) (piece : List ℕ) (o p : Option DiskView) → p ≡ option_map (written at piece) o → Puts at piece o p
puts at piece None p is = is
puts at piece (Some d) None is = cc
puts at piece (Some d) (Some e) is = let same : e ≡ written at piece d = cc in ap (λ (v : DiskView). v.bytes) same

-- a call that adds nothing but images of a kind
pub adds : (before now : ℕ) (past since : ℕ → List ℕ → Type 0) (p : Option DiskView) (Kind : List ℕ → Type 0) → Elapses before now past since p
    → ((image : List ℕ) → IsLeftBy p image → Kind image) → OnlyAdds before now past since Kind
adds before now past since p Kind time kind = adds_as before now past since (IsLeftBy p) Kind kind time.adds

pub on_ok : {T E : Type 0} (P Q : Type 0) (result : Result T E) → (P → Q) → OnOk result P → OnOk result Q
on_ok P Q (Ok v) to is = to is
on_ok P Q (Err e) to is = tt

pub sync_images : (end : ℕ) (o p : Option DiskView) → IsAtRest end o → IfSome o (λ d. IsImage d d.bytes) → p ≡ option_map (λ d. stable d.bytes) o
    → (image : List ℕ) → IsLeftBy p image → SpellsSame o image
sync_images end None p rest reads is image left = tt
sync_images end (Some d) None rest reads is image left = absurd left
sync_images end (Some d) (Some e) rest reads is image left =
    let same : e ≡ stable d.bytes = cc in
    spells end (listed d.bytes) (stable d.bytes) (stands-stable end (listed d.bytes) d rest reads) image (subst (λ (v : DiskView). IsImage v image) same left)

pub same_images : (end : ℕ) (o p : Option DiskView) → IsAtRest end o → p ≡ o → (image : List ℕ) → IsLeftBy p image → SpellsSame o image
same_images end o p rest is image left = rest_images end o rest image (subst (λ (v : Option DiskView). IsLeftBy v image) is left)
