-- What judging a form gives.
use Rattle.std.proofs.Common.{◌≡◌, ◌⊎◌, inr, List, map, Option, Some, Err, refl, sym, ap, subst}
use Rattle.git_objects.specs.Parts.{name_bytes}
use Rattle.git_objects.specs.Paths.{Bytes}
use Rattle.git_objects.specs.declared.name.Name.{Name}
use Rattle.std.specs.Global.{Vec}
use Rattle.proj_words.specs.declared.outcome.Outcome.{Outcome}
use Rattle.proj_words.specs.declared.outcome.Outcome.TheVariants.{OutOfMemory}
use Rattle.read_cli.specs.Looks.{IsAsked, IsSubject, IsUnjudged}
use Rattle.read_cli.specs.Readings.{Check, Log, New, Originals, Reading, Refs, Unknown, new_of, originals_of, verdict}
use Rattle.read_cli.specs.declared.judging.Asked.TheVariants as asks
use Rattle.read_cli.specs.declared.words.Beside.{Beside}
use Rattle.proj_commands.specs.declared.subjects.Subject.{Subject}

pub asked-new : (k : Beside) (r t : Bytes) (o : Option (List Bytes)) (s : Subject) (haves : Vec Name) → IsSubject s r t → o ≡ Some (map name_bytes haves.items) → IsAsked (new_of k r t o) (asks.New k s haves)
asked-new k r t o s haves w e = subst (λ (p : Option (List Bytes)). IsAsked (new_of k r t p) (asks.New k s haves)) (sym e) (refl, w, refl)

pub asked-originals : (r : Bytes) (o : Option (List Bytes)) (n : Bytes) (haves : Vec Name) → n ≡ r → o ≡ Some (map name_bytes haves.items) → IsAsked (originals_of r o) (asks.Originals n haves)
asked-originals r o n haves w e = subst (λ (p : Option (List Bytes)). IsAsked (originals_of r p) (asks.Originals n haves)) (sym e) (w, refl)

-- ---- what was judged

pub unjudged-told : (form : Reading) (e : Outcome) → IsUnjudged form e → (e ≡ OutOfMemory) ⊎ (verdict form ≡ Err e)
unjudged-told Unknown e h = inr (ap Err (sym h))
unjudged-told Refs e h = h
unjudged-told (Log r t) e h = h
unjudged-told (Check r t) e h = h
unjudged-told (New k r t ns) e h = h
unjudged-told (Originals r ns) e h = h
