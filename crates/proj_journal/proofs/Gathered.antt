-- Pieces that are written behind the gate one behind another.
use Rattle.std.proofs.Common.{◌≡◌, ◌<◌, ◌≤◌, ◌+◌, ◌++◌, [], ◌∷◌, ℕ, List, length, take, drop, get_or, Result, Ok, Err, Some, None, refl, sym, ◌∙◌, ap, subst, inl, arith, add-zero, append_assoc, length-append, take-append-drop}
use Rattle.std.proofs.lemmas.List.{append-nil, length-take, drop-drop, take_more}
use Rattle.std.proofs.lemmas.List.Concat.{flat_map-append}
use Rattle.std.specs.declared.option.Option.{Option}
use Rattle.std.specs.Borrow.{Bor}
use Rattle.std.specs.Prelude.{OnOk, IsErrOf, IfSome}
use Rattle.proj_io.specs.Counts.{Counts, Rose}
use Rattle.proj_io.specs.Items.{joined}
use Rattle.proj_io.specs.Stops.{OnlyAdds, adds_on, adds_as}
use Rattle.proj_io.specs.declared.source.SinkError.{SinkError}
use Rattle.proj_io.specs.declared.source.SinkError.TheVariants.{Failed, OutOfMemory}
use Rattle.proj_disk.specs.Disks.{DiskView, put}
use Rattle.proj_journal.specs.Gathering.{IsGathered, WritesBehind}
use Rattle.proj_journal.specs.Rest.{StandsAt, IsAtRest, KeepsRest, KeepsList, Puts, SpellsSame}
use Rattle.proj_journal.proofs.Staging.{puts_none}
use Rattle.proj_journal.proofs.Writing.{put_end, length-put, rest_same, keeps_list, spells_back}

-- two pieces that are put one behind the other are put as one
put_on : (at : ℕ) (a b bytes : List ℕ) → at ≤ length bytes → put (at + length a) b (put at a bytes) ≡ put at (a ++ b) bytes
put_on at a b bytes le =
    let front = take at bytes ++ a in
    let rest = drop (at + length a) bytes in
    let last = drop (length b) rest in
    let long : length front ≡ at + length a = omega (arith, length-append (take at bytes) a, length-take at bytes) in
    let far : at + length a + length b ≡ at + length (a ++ b) = omega (arith, length-append a b) in
    ap (put (at + length a) b) (sym (append_assoc (take at bytes) a rest))
    ∙ put_end front rest b (at + length a) long
    ∙ append_assoc front b last
    ∙ append_assoc (take at bytes) a (b ++ last)
    ∙ ap (λ (l : List ℕ). take at bytes ++ l) (sym (append_assoc a b last))
    ∙ ap (λ (l : List ℕ). take at bytes ++ ((a ++ b) ++ l)) (drop-drop (length b) (at + length a) bytes ∙ ap (λ (n : ℕ). drop n bytes) far)

pub puts_on : (at : ℕ) (a b : List ℕ) (o m p : Option DiskView) → IfSome o (λ d. at ≤ length d.bytes) → Puts at a o m → Puts (at + length a) b m p → Puts at (a ++ b) o p
puts_on at a b None m p inside first second = puts_none (at + length a) b m p first second
puts_on at a b (Some d) None p inside first second = absurd first
puts_on at a b (Some d) (Some e) None inside first second = second
puts_on at a b (Some d) (Some e) (Some f) inside first second = second ∙ ap (put (at + length a) b) first ∙ put_on at a b d.bytes inside

puts_nothing : (at : ℕ) (o : Option DiskView) → Puts at [] o o
puts_nothing at None = refl
puts_nothing at (Some d) = sym (ap (λ (n : ℕ). take at d.bytes ++ drop n d.bytes) (add-zero at) ∙ take-append-drop at d.bytes)

-- ---- what is gathered

pub gathered_none : (at : ℕ) (bytes : List ℕ) (o : Option DiskView) → IsGathered at at bytes bytes o o
gathered_none at bytes o = record { written = []; split = refl; ends = sym (add-zero at); puts = puts_nothing at o }

pub gathered_all : (at : ℕ) (piece : List ℕ) (o p : Option DiskView) → Puts at piece o p → IsGathered at (at + length piece) piece [] o p
gathered_all at piece o p puts = record { written = piece; split = sym (append-nil piece); ends = refl; puts = puts }

pub gathered_on : (at mid next : ℕ) (bytes more kept rest : List ℕ) (o m p : Option DiskView) → IfSome o (λ d. at ≤ length d.bytes) → IsGathered at mid bytes kept o m
    → IsGathered mid next (kept ++ more) rest m p → IsGathered at next (bytes ++ more) rest o p
gathered_on at mid next bytes more kept rest o m p inside first second =
    let a = first.written in
    let b = second.written in
    record {
      written = a ++ b;
      split =
          ap (λ (l : List ℕ). l ++ more) first.split
          ∙ append_assoc a kept more
          ∙ ap (λ (l : List ℕ). a ++ l) second.split
          ∙ sym (append_assoc a b rest);
      ends = omega (arith, first.ends, second.ends, length-append a b);
      puts = puts_on at a b o m p inside first.puts (subst (λ (n : ℕ). Puts n b m p) first.ends second.puts);
    }

-- all is put where nothing is gathered any more
pub gathered_end : (at mid next : ℕ) (bytes kept : List ℕ) (o m p : Option DiskView) → IfSome o (λ d. at ≤ length d.bytes) → IsGathered at mid bytes kept o m → IsGathered mid next kept [] m p → Puts at bytes o p
gathered_end at mid next bytes kept o m p inside first second =
    let a = first.written in
    let b = second.written in
    let whole : bytes ≡ a ++ b = first.split ∙ ap (λ (l : List ℕ). a ++ l) (second.split ∙ append-nil b) in
    subst (λ (l : List ℕ). Puts at l o p) (sym whole) (puts_on at a b o m p inside first.puts (subst (λ (n : ℕ). Puts n b m p) first.ends second.puts))

-- the next place is within the disk
pub inside_after : (at next : ℕ) (bytes kept : List ℕ) (o p : Option DiskView) → IfSome o (λ d. at ≤ length d.bytes) → IsGathered at next bytes kept o p → IfSome p (λ d. next ≤ length d.bytes)
inside_after at next bytes kept None p inside gathered = subst (λ (v : Option DiskView). IfSome v (λ d. next ≤ length d.bytes)) (sym gathered.puts) tt
inside_after at next bytes kept (Some d) None inside gathered = absurd gathered.puts
inside_after at next bytes kept (Some d) (Some e) inside gathered =
    omega (arith, gathered.ends, length-put at gathered.written d.bytes inside, ap length gathered.puts)

pub joined_more : (parts : List (Bor (List ℕ))) (i : ℕ) (d : Bor (List ℕ)) → i < length parts → joined (take (i + 1) parts) ≡ joined (take i parts) ++ (get_or parts i d).now
joined_more parts i d lt =
    ap joined (take_more parts i d lt)
    ∙ flat_map-append (λ (part : Bor (List ℕ)). part.now) (take i parts) (get_or parts i d ∷ [])
    ∙ ap (λ (l : List ℕ). joined (take i parts) ++ l) (append-nil (get_or parts i d).now)

-- ---- what the writes do to the disk

keeps_rest_on : (end : ℕ) (o m p : Option DiskView) → KeepsRest end o m → KeepsRest end m p → KeepsRest end o p
keeps_rest_on end None m p first second = known_none m p first second
  where
    known_none : (m p : Option DiskView) → m ≡ None → KeepsRest end m p → p ≡ None
    known_none None p is keeps = keeps
    known_none (Some d) p is keeps = cc
keeps_rest_on end (Some d) None p first second = absurd first
keeps_rest_on end (Some d) (Some e) None first second = second
keeps_rest_on end (Some d) (Some e) (Some f) first second =
    (subst (λ (l : List (List ℕ)). StandsAt end l f) first.1 second.0, second.1 ∙ first.1)

keeps_list_on : (o m p : Option DiskView) → KeepsList o m → KeepsList m p → KeepsList o p
keeps_list_on None m p first second = known_none m p first second
  where
    known_none : (m p : Option DiskView) → m ≡ None → KeepsList m p → p ≡ None
    known_none None p is keeps = keeps
    known_none (Some d) p is keeps = cc
keeps_list_on (Some d) None p first second = absurd first
keeps_list_on (Some d) (Some e) None first second = second
keeps_list_on (Some d) (Some e) (Some f) first second = second ∙ first

module _ {D : Type 0} (content : D → Option DiskView) (moment : D → ℕ) (left_since : D → ℕ → List ℕ → Type 0) (faults : D → ℕ) (end : ℕ) where
  pub behind_none : (d : D) → IsAtRest end (content d) → (HasFailed : Type 0) → (HasFailed → ⊥) → WritesBehind content moment left_since faults end d d HasFailed
  behind_none d rest HasFailed passed = record {
    rest = λ _. rest_same end (content d) (content d) rest refl;
    list = keeps_list end (content d) (content d) (rest_same end (content d) (content d) rest refl);
    stops = record { later = omega arith; each = λ t left le since. inl since };
    cause = record { later = omega arith; rose = λ failed. absurd (passed failed) };
    calm = λ _. refl;
  }

  pub behind_on : (a b c : D) (HasFailed : Type 0) → WritesBehind content moment left_since faults end a b ⊥ → WritesBehind content moment left_since faults end b c HasFailed
      → WritesBehind content moment left_since faults end a c HasFailed
  behind_on a b c HasFailed first second = record {
    rest = λ passed. keeps_rest_on end (content a) (content b) (content c) (first.rest (λ none. none)) (second.rest passed);
    list = keeps_list_on (content a) (content b) (content c) first.list second.list;
    stops =
        adds_on _ _ _ _ _ _ (SpellsSame (content a)) first.stops
        (adds_as _ _ _ _ (SpellsSame (content b)) (SpellsSame (content a)) (spells_back (content a) (content b) first.list) second.stops);
    cause = record {
      later = omega (arith, first.cause.later, second.cause.later);
      rose = λ failed. subst (λ (n : ℕ). Rose n (faults c)) (first.calm (λ none. none)) (second.cause.rose failed);
    };
    calm = λ passed. second.calm passed ∙ first.calm (λ none. none);
  }

  -- a write that hasn't failed counts as none that can fail
  pub behind_passed : (a b : D) (HasFailed : Type 0) → (HasFailed → ⊥) → WritesBehind content moment left_since faults end a b HasFailed → WritesBehind content moment left_since faults end a b ⊥
  behind_passed a b HasFailed passed behind = record {
    rest = λ _. behind.rest passed;
    list = behind.list;
    stops = behind.stops;
    cause = record { later = behind.cause.later; rose = λ none. absurd none };
    calm = λ _. behind.calm passed;
  }

  -- what one write ensures, as a record
  pub behind_by : {T : Type 0} (a b : D) (result : Result T SinkError) → OnOk result (KeepsRest end (content a) (content b)) → (IsErrOf result OutOfMemory → KeepsRest end (content a) (content b))
      → KeepsList (content a) (content b) → OnlyAdds (moment a) (moment b) (left_since a) (left_since b) (SpellsSame (content a)) → Counts (faults a) (faults b) (IsErrOf result Failed)
      → OnOk result (faults b ≡ faults a) → (IsErrOf result OutOfMemory → faults b ≡ faults a) → WritesBehind content moment left_since faults end a b (IsErrOf result Failed)
  behind_by a b (Ok v) rest memory list stops cause calm calm_memory = record { rest = λ _. rest; list = list; stops = stops; cause = cause; calm = λ _. calm }
  behind_by a b (Err Failed) rest memory list stops cause calm calm_memory =
      record { rest = λ passed. absurd (passed refl); list = list; stops = stops; cause = cause; calm = λ passed. absurd (passed refl) }
  behind_by a b (Err OutOfMemory) rest memory list stops cause calm calm_memory =
      record { rest = λ _. memory refl; list = list; stops = stops; cause = cause; calm = λ _. calm_memory refl }
