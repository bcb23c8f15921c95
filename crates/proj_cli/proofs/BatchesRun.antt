-- Entries that are answered one after another are a run of a batch.
use Rattle.std.proofs.Common.{◌≡◌, ◌≢◌, ◌⊎◌, inl, inr, ◌+◌, ◌++◌, ◌≤◌, ◌<◌, ℕ, zero, suc, false, List, [], ◌∷◌, map, take, drop, length, append-nil, append_assoc, length-append, Option, None, Some, refl, sym, ap, subst, ◌∙◌, arith}
use Rattle.std.specs.Prelude.{Contains, get_or}
use Rattle.std.specs.Io.KnownBytes.{Appends}
use Rattle.std.proofs.KnownBytes.{Appends-kept, Appends-nil, Appends-trans}
use Rattle.std.proofs.lemmas.List.{reverse-append}
use Rattle.git_objects.specs.Paths.{Bytes}
use Rattle.object_store.specs.Objects.{Object}
use Rattle.proj_io.specs.Counts.{Counts, Rose}
use Rattle.proj_io.specs.Items.{Stays}
use Rattle.proj_io.specs.Stops.{OnlyAdds, adds_as, adds_on}
use Rattle.proj_io.specs.Views.{SourceView, SinkView, KeeperView}
use Rattle.state_items.specs.Items.{Held}
use Rattle.repo_ground.specs.Changes.{KeepsItems}
use Rattle.repo_ground.specs.Contents.{Contents}
use Rattle.repo_ground.proofs.Stopping.{adds_none}
use Rattle.proj_words.specs.Entries.{Entry}
use Rattle.proj_words.specs.declared.outcome.Outcome.{Outcome}
use Rattle.proj_words.specs.declared.outcome.Outcome.TheVariants.{Done, OutOfMemory, ReadFault, WriteFault, StoreFault}
use Rattle.proj_cli.specs.Answers.{Devices, GetsAll}
use Rattle.proj_commands.specs.Cases.{is_verdict}
use Rattle.proj_cli.specs.Batches.{BeganReply, IsLeftBy, IsRun, RepliesUnlessFailed}
use Rattle.proj_commands.specs.Makes.{IsStateOf}
use Rattle.proj_cli.specs.Running.{BeganTurn, IsBehind, IsEntryAnswered, IsStateBehind, IsTurnOf, IsTurnStop}
use Rattle.proj_cli.specs.Turns.{AreTurns, IsSafeTurn, IsTurn, Turn, appended, entries_of, items_after, turn_text, turn_texts}
use Rattle.proj_cli.proofs.Delivering.{after, before}
use Rattle.proj_commands.proofs.Forming.{Stays-self}

-- ---- what a keeper gets in several turns

-- known items, and how many there are, have these behind them
abbrev pub GotAll : List Bytes → KeeperView → KeeperView → Type 0
GotAll more k l = (l.number ≡ k.number + length more) × GetsAll k.items more l.items

gets-on : (a b c : Option (List Bytes)) (xs ys : List Bytes) → GetsAll a xs b → GetsAll b ys c → GetsAll a (xs ++ ys) c
gets-on None b c xs ys p q = tt
gets-on (Some x) None c xs ys p q = absurd p
gets-on (Some x) (Some y) None xs ys p q = absurd q
gets-on (Some x) (Some y) (Some z) xs ys p q = q ∙ ap (λ (l : List Bytes). l ++ ys) p ∙ append_assoc x xs ys

gets-still : (a b c : Option (List Bytes)) (xs : List Bytes) → GetsAll a xs b → Stays b c → GetsAll a xs c
gets-still None b c xs p q = tt
gets-still (Some x) None c xs p q = absurd p
gets-still (Some x) (Some y) None xs p q = absurd q
gets-still (Some x) (Some y) (Some z) xs p q = q ∙ p

gets-none : (a b : Option (List Bytes)) → Stays a b → GetsAll a [] b
gets-none None b h = tt
gets-none (Some xs) None h = h
gets-none (Some xs) (Some ys) h = h ∙ sym (append-nil xs)

pub got-on : (k m l : KeeperView) (xs ys : List Bytes) → GotAll xs k m → GotAll ys m l → GotAll (xs ++ ys) k l
got-on k m l xs ys a b =
    let p = a.0 in
    let q = b.0 in
    let n = length-append xs ys in
    (omega (arith, p, q, n), gets-on k.items m.items l.items xs ys a.1 b.1)

pub got-still : (k m l : KeeperView) (xs : List Bytes) → GotAll xs k m → KeepsItems m l → GotAll xs k l
got-still k m l xs a b = (b.0 ∙ a.0, gets-still k.items m.items l.items xs a.1 b.1)

pub got-none : (k l : KeeperView) → KeepsItems k l → GotAll [] k l
got-none k l a = let p = a.0 in (omega (arith, p), gets-none k.items l.items a.1)

-- the items behind turns are the first with all that they appended
pub all-appended : (items : List Bytes) (ts : List Turn) → items_after items ts ≡ items ++ appended ts
all-appended items [] = sym (append-nil items)
all-appended items (t ∷ ts) = ap (λ (l : List Bytes). l ++ t.appended) (all-appended items ts) ∙ append_assoc items (appended ts) t.appended

told-all : (items more : List Bytes) (a b : Option (List Bytes)) → a ≡ Some items → GetsAll a more b → b ≡ Some (items ++ more)
told-all items more None b e g = cc
told-all items more (Some x) None e g = absurd g
told-all items more (Some x) (Some y) e g = let same : x ≡ items = cc in ap Some (g ∙ ap (λ (l : List Bytes). l ++ more) same)

-- ---- entries

module _ {X : Type 0} (f : X → Entry) where
  -- those before a place, that one, and those behind it
  pub entries-at : (xs : List X) (k : ℕ) (d : X) → k < length xs → map f xs ≡ map f (take k xs) ++ f (get_or xs k d) ∷ map f (drop (suc k) xs)
  entries-at [] k d lt = absurd (omega (arith, lt))
  entries-at (y ∷ xs) zero d lt = refl
  entries-at (y ∷ xs) (suc k) d lt = let less : k < length xs = omega (arith, lt) in ap (λ (t : List Entry). f y ∷ t) (entries-at xs k d less)

  pub entries-more : (xs : List X) (k : ℕ) (d : X) → k < length xs → map f (take (suc k) xs) ≡ map f (take k xs) ++ f (get_or xs k d) ∷ []
  entries-more [] k d lt = absurd (omega (arith, lt))
  entries-more (y ∷ xs) zero d lt = refl
  entries-more (y ∷ xs) (suc k) d lt = let less : k < length xs = omega (arith, lt) in ap (λ (t : List Entry). f y ∷ t) (entries-more xs k d less)

-- one turn more is one entry more
entry-on : (t : Turn) (ts : List Turn) → entries_of (t ∷ ts) ≡ entries_of ts ++ t.entry ∷ []
entry-on t ts = reverse-append (t.entry ∷ []) (map (λ (x : Turn). x.entry) ts)

-- ---- entries that were answered, with a batch that goes on

-- These entries of a batch were answered so far: what was written and appended, and what a stop may leave since.
pub record IsUnderway (items : List Bytes) (all es : List Entry) (s : Contents) (o q : SinkView) (k l : KeeperView) (Adds : (List Bytes → Type 0) → Type 0) : Type 0 where
  pub turns : List Turn
  pub entries : entries_of turns ≡ es
  pub behind : IsStateBehind items turns s
  pub wrote : Appends o.written q.written (turn_texts turns)
  pub got : GotAll (appended turns) k l
  pub safe : AreTurns (IsSafeTurn items) turns
  pub in_turn : AreTurns (IsTurn items) turns
  pub stops : k.items ≡ Some items → Adds (IsLeftBy items all)

pub under-way : (items : List Bytes) (all : List Entry) (h : Held) (s : Contents) (o : SinkView) (k : KeeperView) (a : ℕ) (x : ℕ → List Bytes → Type 0) → IsStateOf items h s → s.basis.store ≡ h.objects
    → IsUnderway items all [] s o o k k (OnlyAdds a a x x)
under-way items all h s o k a x state only = record {
  turns = [];
  entries = refl;
  behind = record { held = h; state = state; brought = λ n m. inl (subst (λ (T : List Object). Contains T n) only m) };
  wrote = Appends-nil o.written;
  got = got-none k k (refl, Stays-self k.items);
  safe = tt;
  in_turn = tt;
  stops = λ told. adds_none a x (IsLeftBy items all);
}

module _ (items : List Bytes) (all es later : List Entry) (e : Entry) (split : all ≡ es ++ e ∷ later) (s s' : Contents) (i j : SourceView) (o m q : SinkView) (k n l : KeeperView) (a b c : ℕ)
    (x y z : ℕ → List Bytes → Type 0) (u : IsUnderway items all es s o m k n (OnlyAdds a b x y)) where
  -- one more turn
  module _ (t : Turn) (same : t.entry ≡ e) where
    pub one-more : entries_of (t ∷ u.turns) ≡ es ++ e ∷ []
    one-more = entry-on t u.turns ∙ ap (λ (xs : List Entry). xs ++ t.entry ∷ []) u.entries ∙ ap (λ (d : Entry). es ++ d ∷ []) same

    front-more : all ≡ entries_of (t ∷ u.turns) ++ later
    front-more = split ∙ sym (ap (λ (xs : List Entry). xs ++ later) one-more ∙ append_assoc es (e ∷ []) later)

    safe-more : IsSafeTurn items u.turns t → AreTurns (IsSafeTurn items) (t ∷ u.turns)
    safe-more safe = (u.safe, safe)

  front-still : all ≡ entries_of u.turns ++ e ∷ later
  front-still = split ∙ ap (λ (xs : List Entry). xs ++ e ∷ later) (sym u.entries)

  pub told-behind : k.items ≡ Some items → n.items ≡ Some (items_after items u.turns)
  told-behind told = told-all items (appended u.turns) k.items n.items told u.got.1 ∙ ap Some (sym (all-appended items u.turns))

  -- ---- stops

  left-by : (list : List Bytes) → IsTurnStop items u.turns e list → IsLeftBy items all list
  left-by list (inl was) =
      record { turns = u.turns; left = e ∷ later; front = front-still; behind = was; safe = u.safe; in_turn = u.in_turn }
  left-by list (inr (t, same, is, behind)) = record {
    turns = t ∷ u.turns;
    left = later;
    front = front-more t same;
    behind = behind;
    safe = (u.safe, is.safe);
    in_turn = (u.in_turn, is.in_turn);
  }

  pub adds-more : (n.items ≡ Some (items_after items u.turns) → OnlyAdds b c y z (IsTurnStop items u.turns e)) → k.items ≡ Some items → OnlyAdds a c x z (IsLeftBy items all)
  adds-more adds told =
      adds_on a b c x y z (IsLeftBy items all) (u.stops told) (adds_as b c y z (IsTurnStop items u.turns e) (IsLeftBy items all) left-by (adds (told-behind told)))

  -- ---- the batch goes on

  pub goes-further : IsEntryAnswered items u.turns e s' (before i j m q n l) (after i j m q n l) Done → (n.items ≡ Some (items_after items u.turns) → OnlyAdds b c y z (IsTurnStop items u.turns e))
      → IsUnderway items all (es ++ e ∷ []) s' o q k l (OnlyAdds a c x z)
  goes-further (h, wrote, state) adds = record {
    turns = h.turn ∷ u.turns;
    entries = one-more h.turn h.entry;
    behind = state;
    wrote = Appends-trans o.written m.written q.written (turn_texts u.turns) (turn_text h.turn) u.wrote wrote;
    got = got-on k n l (appended u.turns) h.turn.appended u.got h.got;
    safe = (u.safe, h.is.safe);
    in_turn = (u.in_turn, h.is.in_turn);
    stops = adds-more adds;
  }

  -- ---- the batch ends

  module _ (faults : o.faults ≤ m.faults) (refusals : o.refusals ≤ m.refusals) where
    began : (t : Turn) → BeganTurn t (before i j m q n l) (after i j m q n l) → BeganReply u.turns t (before i j o q k l) (after i j o q k l)
    began t (d, w) = (d, Appends-trans o.written m.written q.written (turn_texts u.turns) (take d (turn_text t)) u.wrote w)

    ended : (t : Turn) → t.entry ≡ e → IsTurnOf items u.turns t → GotAll t.appended n l → (outcome : Outcome)
        → ((outcome ≡ OutOfMemory) × Rose m.refusals q.refusals) ⊎ (outcome ≡ WriteFault) → BeganTurn t (before i j m q n l) (after i j m q n l)
        → IsRun items all (before i j o q k l) (after i j o q k l) outcome
    ended t same is got outcome (inl (is_memory, rose)) front = subst (IsRun items all (before i j o q k l) (after i j o q k l)) (sym is_memory) (record {
      turns = u.turns;
      last = Some t;
      left = later;
      front = front-more t same;
      ended = (omega (arith, refusals, rose), is.whole, began t front);
      got = got-on k n l (appended u.turns) t.appended u.got got;
      safe = (u.safe, is.safe);
      in_turn = (u.in_turn, inl is.in_turn);
    })
    ended t same is got outcome (inr is_write) front = subst (IsRun items all (before i j o q k l) (after i j o q k l)) (sym is_write) (record {
      turns = u.turns;
      last = Some t;
      left = later;
      front = front-more t same;
      ended = (is.whole, began t front);
      got = got-on k n l (appended u.turns) t.appended u.got got;
      safe = (u.safe, is.safe);
      in_turn = (u.in_turn, inl is.in_turn);
    })

    unless-failed : (t : Turn) → (¬ Rose m.faults q.faults → ¬ Rose m.refusals q.refusals → Appends m.written q.written (turn_text t)) → RepliesUnlessFailed u.turns t (before i j o q k l) (after i j o q k l)
    unless-failed t w f r =
        Appends-trans o.written m.written q.written (turn_texts u.turns) (turn_text t) u.wrote (w (λ rose. f (omega (arith, faults, rose))) (λ rose. r (omega (arith, refusals, rose))))

    pub stopped : (outcome : Outcome) → outcome ≢ Done → IsEntryAnswered items u.turns e s' (before i j m q n l) (after i j m q n l) outcome → IsRun items all (before i j o q k l) (after i j o q k l) outcome
    stopped Done apart answered = absurd (apart refl)
    stopped OutOfMemory apart (inl idle) = record {
      turns = u.turns;
      last = None;
      left = e ∷ later;
      front = front-still;
      ended = Appends-kept o.written m.written q.written (turn_texts u.turns) u.wrote idle.0;
      got = got-still k n l (appended u.turns) u.got idle.1;
      safe = u.safe;
      in_turn = (u.in_turn, tt);
    }
    stopped OutOfMemory apart (inr (rose, (h, front))) = ended h.turn h.entry h.is h.got OutOfMemory (inl (refl, rose)) front
    stopped WriteFault apart (h, front) = ended h.turn h.entry h.is h.got WriteFault (inr refl) front
    stopped StoreFault apart (h, front, whole) = record {
      turns = u.turns;
      last = Some h.turn;
      left = later;
      front = front-more h.turn h.entry;
      ended = (h.is.fault, began h.turn front, unless-failed h.turn whole);
      got = got-on k n l (appended u.turns) h.turn.appended u.got h.got;
      safe = (u.safe, h.is.safe);
      in_turn = (u.in_turn, inr h.is.broken);
    }
    stopped _ apart answered = absurd answered

-- every entry was answered
pub run-done : (items : List Bytes) (all es : List Entry) (s : Contents) (i j : SourceView) (o q : SinkView) (k l : KeeperView) (Adds : (List Bytes → Type 0) → Type 0) → IsUnderway items all es s o q k l Adds → es ≡ all
    → IsRun items all (before i j o q k l) (after i j o q k l) Done
run-done items all es s i j o q k l Adds u same = record {
  turns = u.turns;
  last = None;
  left = [];
  front = sym (append-nil (entries_of u.turns) ∙ u.entries ∙ same);
  ended = (refl, u.wrote);
  got = u.got;
  safe = u.safe;
  in_turn = (u.in_turn, tt);
}

-- how an entry may end it
entry-other : (items : List Bytes) (ts : List Turn) (e : Entry) (s : Contents) (b a : Devices) (outcome : Outcome) → IsEntryAnswered items ts e s b a outcome → is_verdict outcome ≡ false
entry-other items ts e s b a Done h = refl
entry-other items ts e s b a OutOfMemory h = refl
entry-other items ts e s b a WriteFault h = refl
entry-other items ts e s b a StoreFault h = refl
entry-other items ts e s b a _ h = absurd h

-- ---- the loop over the entries

-- These were answered, whatever items the state at the beginning was loaded from; the store has as many items as the state, and no count
-- has fallen.
pub record AreAnswered (all es : List Entry) (s s' : Contents) (o q : SinkView) (k l : KeeperView) (Adds : (List Bytes → Type 0) → Type 0) : Type 0 where
  pub underway : (items : List Bytes) (h : Held) → IsStateOf items h s → s.basis.store ≡ h.objects → IsUnderway items all es s' o q k l Adds
  pub number : s'.number ≡ l.number
  pub faults : o.faults ≤ q.faults
  pub refusals : o.refusals ≤ q.refusals
  pub failures : k.faults ≤ l.faults

-- a state that was loaded from some items, and has nothing else in its store
abbrev pub IsFresh : Contents → Type 0
IsFresh s = (items : List Bytes) × (h : Held) × IsStateOf items h s × (s.basis.store ≡ h.objects)

pub none-answered : (all : List Entry) (s : Contents) (o : SinkView) (k : KeeperView) (a : ℕ) (x : ℕ → List Bytes → Type 0) → s.number ≡ k.number → AreAnswered all [] s s o o k k (OnlyAdds a a x x)
none-answered all s o k a x number = record {
  underway = λ items h state only. under-way items all h s o k a x state only;
  number = number;
  faults = omega arith;
  refusals = omega arith;
  failures = omega arith;
}

pub behind-some : (all es : List Entry) (s s' : Contents) (o q : SinkView) (k l : KeeperView) (Adds : (List Bytes → Type 0) → Type 0) → AreAnswered all es s s' o q k l Adds → IsFresh s → IsBehind s'
behind-some all es s s' o q k l Adds w (items, h, state, only) = let u = w.underway items h state only in (items, u.turns, u.behind)

module _ (all es later : List Entry) (e : Entry) (split : all ≡ es ++ e ∷ later) (s s' t : Contents) (o m q : SinkView) (k n l : KeeperView) (a b c : ℕ)
    (x y z : ℕ → List Bytes → Type 0) (w : AreAnswered all es s s' o m k n (OnlyAdds a b x y)) (outcome : Outcome)
    (answered : (items : List Bytes) (ts : List Turn) (i j : SourceView) → IsStateBehind items ts s' → IsEntryAnswered items ts e t (before i j m q n l) (after i j m q n l) outcome)
    (stops : (items : List Bytes) (ts : List Turn) → IsStateBehind items ts s' → n.items ≡ Some (items_after items ts) → OnlyAdds b c y z (IsTurnStop items ts e)) where
  abbrev none_left : SourceView
  none_left = record { left = None; faults = 0 }

  pub answered-more : outcome ≡ Done → t.number ≡ l.number → m.faults ≤ q.faults → m.refusals ≤ q.refusals → n.faults ≤ l.faults → AreAnswered all (es ++ e ∷ []) s t o q k l (OnlyAdds a c x z)
  answered-more done number faults refusals failures = record {
    underway = λ items h state only.
        let u = w.underway items h state only in
        goes-further items all es later e split s' t none_left none_left o m q k n l a b c x y z u
        (subst (IsEntryAnswered items u.turns e t (before none_left none_left m q n l) (after none_left none_left m q n l)) done (answered items u.turns none_left none_left u.behind))
        (stops items u.turns u.behind);
    number = number;
    faults = let f = w.faults in omega (arith, f, faults);
    refusals = let f = w.refusals in omega (arith, f, refusals);
    failures = let f = w.failures in omega (arith, f, failures);
  }

  pub answered-last : outcome ≢ Done → (items : List Bytes) (h : Held) (i j : SourceView) → IsStateOf items h s → s.basis.store ≡ h.objects → IsRun items all (before i j o q k l) (after i j o q k l) outcome
  answered-last apart items h i j state only =
      let u = w.underway items h state only in
      stopped items all es later e split s' t i j o m q k n l a b c x y z u w.faults w.refusals outcome apart (answered items u.turns i j u.behind)

  pub answered-stops : (items : List Bytes) (h : Held) → IsStateOf items h s → s.basis.store ≡ h.objects → k.items ≡ Some items → OnlyAdds a c x z (IsLeftBy items all)
  answered-stops items h state only told =
      let u = w.underway items h state only in
      adds-more items all es later e split s' t none_left none_left o m q k n l a b c x y z u (stops items u.turns u.behind) told

  -- no entry ends a batch with a refusal of words or of a filter
  pub answered-other : IsFresh s → is_verdict outcome ≡ false
  answered-other (items, h, state, only) =
      let u = w.underway items h state only in
      entry-other items u.turns e t (before none_left none_left m q n l) (after none_left none_left m q n l) outcome (answered items u.turns none_left none_left u.behind)

  -- no entry is at fault of the input
  pub answered-early : IsFresh s → outcome ≢ ReadFault
  answered-early (items, h, state, only) is_read =
      let u = w.underway items h state only in
      subst (IsEntryAnswered items u.turns e t (before none_left none_left m q n l) (after none_left none_left m q n l)) is_read (answered items u.turns none_left none_left u.behind)

-- ---- counts

-- the count at entry may be an earlier one
pub counts-since : (f g h : ℕ) (Answered : Type 0) → f ≤ g → Counts g h Answered → Counts f h Answered
counts-since f g h Answered le counts = record { later = omega (arith, le, counts.later); rose = λ e. omega (arith, le, counts.rose e) }

-- at no fault
pub counts-without : (f g : ℕ) (Answered : Type 0) → f ≤ g → (Answered → ⊥) → Counts f g Answered
counts-without f g Answered le none = record { later = le; rose = λ e. absurd (none e) }
