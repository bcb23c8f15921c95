-- What came of reading a batch, loading the store and answering its entries is the answer of the batch.
use Rattle.std.proofs.Common.{◌≡◌, ◌≢◌, ◌⊎◌, inl, inr, ◌+◌, ◌^◌, ◌++◌, ◌<◌, ◌≤◌, ℕ, Bool, true, false, true≢false, List, [], length, Option, None, Some, Result, Ok, Err, IfSome, refl, sym, ap, subst, ◌∙◌, arith}
use Rattle.std.specs.Io.KnownBytes.{Consumes}
use Rattle.std.proofs.lemmas.Bool.{lt-leb}
use Rattle.std.proofs.KnownBytes.{Appends-nil, Keeps-refl}
use Rattle.git_objects.specs.Paths.{Bytes}
use Rattle.git_objects.specs.Results.{◌>>=◌, must, refused_by}
use Rattle.git_objects.specs.declared.quantity.Quantity.TheVariants as limits
use Rattle.proj_io.specs.Counts.{Counts}
use Rattle.proj_io.specs.Items.{Stays}
use Rattle.proj_io.specs.Stops.{OnlyAdds, Nothing}
use Rattle.proj_io.specs.Views.{SourceView, SinkView, KeeperView}
use Rattle.state_items.specs.Items.{Break, Held, read_items}
use Rattle.repo_ground.specs.Changes.{KeepsItems}
use Rattle.proj_words.specs.Entries.{Entry, entries, entries_within, is_entry_fault, start}
use Rattle.proj_words.specs.declared.outcome.Outcome.{Outcome}
use Rattle.proj_words.specs.declared.outcome.Outcome.TheVariants.{Done, Limit, OutOfMemory, ReadFault, Syntax, WriteFault, StoreFault}
use Rattle.proj_cli.specs.Answers.{GetsAll}
use Rattle.proj_cli.specs.Batches.{BatchLeaves, all_turns, HasRun, IsBatchAnswer, IsBatchBy, IsEnded, IsLeftBy, IsRun, IsUnbegun}
use Rattle.proj_commands.specs.Cases.{break_outcome, is_verdict, loaded}
use Rattle.proj_commands.specs.Forms.{IsEarly}
use Rattle.proj_commands.specs.Inputs.{IsUnread, ForInput}
use Rattle.proj_cli.specs.Turns.{Turn, appended, begun, loading}
use Rattle.proj_cli.proofs.BatchesRun.{counts-without, got-none}
use Rattle.proj_cli.proofs.Delivering.{after, before}
use Rattle.proj_commands.proofs.Forming.{adds-nothing}
use Rattle.proj_commands.proofs.InputsRead.{for-any}

-- ---- nothing was begun

-- what may end a batch before any entry is begun, whatever its input is
abbrev pub MayEnd : Outcome → Type 0
MayEnd outcome = (outcome ≡ OutOfMemory) ⊎ (outcome ≡ ReadFault) ⊎ (outcome ≡ StoreFault)

module _ (items : List Bytes) (i j : SourceView) (o : SinkView) (k l : KeeperView) (kept : KeepsItems k l) where
  ended-early : (es : List Entry) (outcome : Outcome) → MayEnd outcome → IsEnded [] None es (before i j o o k l) (after i j o o k l) outcome
  ended-early es outcome (inl e) = subst (IsEnded [] None es (before i j o o k l) (after i j o o k l)) (sym e) (Appends-nil o.written)
  ended-early es outcome (inr (inl e)) = subst (IsEnded [] None es (before i j o o k l) (after i j o o k l)) (sym e) (refl, Appends-nil o.written)
  ended-early es outcome (inr (inr e)) = subst (IsEnded [] None es (before i j o o k l) (after i j o o k l)) (sym e) (refl, Appends-nil o.written)

  unbegun : (x outcome : Outcome) → MayEnd outcome → IsUnbegun x outcome
  unbegun x outcome w = inr w

  pub batch-early : (r : Result (List Entry) Outcome) (outcome : Outcome) → MayEnd outcome → IsBatchBy items r (before i j o o k l) (after i j o o k l) outcome
  batch-early (Ok es) outcome w = record {
    turns = [];
    last = None;
    left = es;
    front = refl;
    ended = ended-early es outcome w;
    got = got-none k l kept;
    safe = tt;
    in_turn = (tt, tt);
  }
  batch-early (Err x) outcome w = (unbegun x outcome w, (Keeps-refl o.written, kept))

  pub batch-refused : (r : Result (List Entry) Outcome) (outcome : Outcome) → r ≡ Err outcome → IsBatchBy items r (before i j o o k l) (after i j o o k l) outcome
  batch-refused r outcome e =
      subst (λ (x : Result (List Entry) Outcome). IsBatchBy items x (before i j o o k l) (after i j o o k l) outcome) (sym e) (inl refl, (Keeps-refl o.written, kept))

  pub batch-fault : (r : Result (List Entry) Outcome) (outcome : Outcome) → (outcome ≡ OutOfMemory) ⊎ (r ≡ Err outcome) → IsBatchBy items r (before i j o o k l) (after i j o o k l) outcome
  batch-fault r outcome (inl e) = batch-early r outcome (inl e)
  batch-fault r outcome (inr e) = batch-refused r outcome e

-- ---- the input

-- an input of more bytes than a batch may have
pub too-many : (input : Bytes) → 2 ^ 29 < length input → entries input ≡ Err (Limit limits.Input None)
unfolding entries
too-many input more = ap (λ (b : Bool). must (Limit limits.Input None) b >>= λ _. refused_by Syntax (entries_within (length input) (start input))) (lt-leb (length input) (2 ^ 29) more)

pub begun-refused : (items : List Bytes) (input : Bytes) (e : Outcome) → entries input ≡ Err e → begun items input ≡ Err e
begun-refused items input e g = ap (λ (r : Result (List Entry) Outcome). r >>= λ es. loaded items >>= λ _. Ok es) g

pub begun-loads : (items : List Bytes) (input : Bytes) (es : List Entry) → entries input ≡ Ok es → begun items input ≡ loading items es
begun-loads items input es g = ap (λ (r : Result (List Entry) Outcome). r >>= λ es. loading items es) g

pub loading-whole : (items : List Bytes) (es : List Entry) (h : Held) → read_items items ≡ Ok h → loading items es ≡ Ok es
loading-whole items es h e = ap (λ (r : Result Held Break). refused_by break_outcome r >>= λ _. Ok es) e

loading-broken : (items : List Bytes) (es : List Entry) (e : Outcome) → loaded items ≡ Err e → loading items es ≡ Err e
loading-broken items es e g = ap (λ (r : Result Held Outcome). r >>= λ _. Ok es) g

pub batch-unloaded : (items : List Bytes) (i j : SourceView) (o : SinkView) (k l : KeeperView) → KeepsItems k l → (es : List Entry) (e : Outcome) → IsEarly (loaded items) e
    → IsBatchBy items (loading items es) (before i j o o k l) (after i j o o k l) e
batch-unloaded items i j o k l kept es e (inl memory) = batch-early items i j o k l kept (loading items es) e (inl memory)
batch-unloaded items i j o k l kept es e (inr (inl fault)) = batch-early items i j o k l kept (loading items es) e (inr (inr fault))
batch-unloaded items i j o k l kept es e (inr (inr broken)) = batch-refused items i j o k l kept (loading items es) e (loading-broken items es e broken)

-- ---- an input that isn't read, or that has no entries

pub unread-run : (items : List Bytes) (i j : SourceView) (o : SinkView) (k l : KeeperView) → KeepsItems k l → (e : Outcome) → IsUnread i.left e
    → ForInput i.left (λ all. IsBatchBy items (begun items all) (before i j o o k l) (after i j o o k l) e)
unread-run items i j o k l kept e (inl m) = for-any i.left _ (λ all. batch-early items i j o k l kept (begun items all) e (inl m))
unread-run items i j o k l kept e (inr (inl r)) = for-any i.left _ (λ all. batch-early items i j o k l kept (begun items all) e (inr (inl r)))
unread-run items i j o k l kept e (inr (inr (is, w))) =
    record {
      all = w.all;
      told = w.told;
      says = batch-refused items i j o k l kept (begun items w.all) e (begun-refused items w.all e (too-many w.all w.says ∙ ap (λ (x : Outcome). Err x) (sym is)));
    }

pub unspelled-run : (items : List Bytes) (i j : SourceView) (o : SinkView) (k l : KeeperView) → KeepsItems k l → (bytes : Bytes) (e : Outcome) → IfSome i.left (λ l. bytes ≡ l) → (e ≡ OutOfMemory) ⊎ (entries bytes ≡ Err e)
    → ForInput i.left (λ all. IsBatchBy items (begun items all) (before i j o o k l) (after i j o o k l) e)
unspelled-run items i j o k l kept bytes e told (inl m) = record { all = bytes; told = told; says = batch-early items i j o k l kept (begun items bytes) e (inl m) }
unspelled-run items i j o k l kept bytes e told (inr g) = record { all = bytes; told = told; says = batch-refused items i j o k l kept (begun items bytes) e (begun-refused items bytes e g) }

-- an outcome of reading the entries is at no fault of a device
pub entry-own : (e : Outcome) → is_entry_fault e ≡ true → (e ≢ ReadFault) × (e ≢ WriteFault) × (e ≢ StoreFault)
entry-own e own = (
  λ f. true≢false (sym own ∙ ap is_entry_fault f),
  λ f. true≢false (sym own ∙ ap is_entry_fault f),
  λ f. true≢false (sym own ∙ ap is_entry_fault f),
)

-- nor of words or of a filter
pub entry-verdict : (e : Outcome) → is_entry_fault e ≡ true → is_verdict e ≡ false
entry-verdict OutOfMemory own = refl
entry-verdict (Syntax at) own = refl
entry-verdict _ own = absurd (true≢false (sym own))

-- ---- a run upon what was loaded, as one since before it was

ended-since : (ts : List Turn) (last : Option Turn) (left : List Entry) (i j : SourceView) (o q : SinkView) (k m l : KeeperView) (outcome : Outcome) → IsEnded ts last left (before i j o q m l) (after i j o q m l) outcome
    → IsEnded ts last left (before i j o q k l) (after i j o q k l) outcome
ended-since ts None left i j o q k m l Done h = h
ended-since ts None left i j o q k m l OutOfMemory h = h
ended-since ts None left i j o q k m l ReadFault h = h
ended-since ts None left i j o q k m l StoreFault h = h
ended-since ts None left i j o q k m l _ h = h
ended-since ts (Some t) left i j o q k m l OutOfMemory h = h
ended-since ts (Some t) left i j o q k m l WriteFault h = h
ended-since ts (Some t) left i j o q k m l StoreFault h = h
ended-since ts (Some t) left i j o q k m l _ h = h

gets-since : (a b c : Option (List Bytes)) (xs : List Bytes) → Stays a b → GetsAll b xs c → GetsAll a xs c
gets-since None b c xs p q = tt
gets-since (Some x) None c xs p q = absurd p
gets-since (Some x) (Some y) None xs p q = q
gets-since (Some x) (Some y) (Some z) xs p q = q ∙ ap (λ (l : List Bytes). l ++ xs) p

module _ (items : List Bytes) (es : List Entry) (i j : SourceView) (o q : SinkView) (k m l : KeeperView) (kept : KeepsItems k m) where
  run-since : (outcome : Outcome) → IsRun items es (before i j o q m l) (after i j o q m l) outcome → IsRun items es (before i j o q k l) (after i j o q k l) outcome
  run-since outcome r = record {
    turns = r.turns;
    last = r.last;
    left = r.left;
    front = r.front;
    ended = ended-since r.turns r.last r.left i j o q k m l outcome r.ended;
    got = (r.got.0 ∙ ap (λ (n : ℕ). n + length (appended (all_turns r.turns r.last))) kept.0, gets-since k.items m.items l.items (appended (all_turns r.turns r.last)) kept.1 r.got.1);
    safe = r.safe;
    in_turn = r.in_turn;
  }

  pub batch-run : (outcome : Outcome) (b : Result (List Entry) Outcome) → b ≡ Ok es → IsRun items es (before i j o q m l) (after i j o q m l) outcome → IsBatchBy items b (before i j o q k l) (after i j o q k l) outcome
  batch-run outcome b e r = subst (λ (x : Result (List Entry) Outcome). IsBatchBy items x (before i j o q k l) (after i j o q k l) outcome) (sym e) (run-since outcome r)

-- ---- the answer and the stops

pub has-run : (items : List Bytes) (i j : SourceView) (o q : SinkView) (k l : KeeperView) (outcome : Outcome) → ForInput i.left (λ all. IsBatchBy items (begun items all) (before i j o q k l) (after i j o q k l) outcome)
    → HasRun items (before i j o q k l) (after i j o q k l) outcome
has-run items i j o q k l outcome f = record { input = f.all; told = f.told; run = f.says }

pub leaves-run : (items : List Bytes) (b : Result (List Entry) Outcome) (es : List Entry) → b ≡ Ok es → (list : List Bytes) → IsLeftBy items es list → BatchLeaves items b list
leaves-run items b es e list w = subst (λ (x : Result (List Entry) Outcome). BatchLeaves items x list) (sym e) w

-- nothing was written, and no entry begun
pub early-answer : (i j : SourceView) (o : SinkView) (k l : KeeperView) (outcome : Outcome) → Counts i.faults j.faults (outcome ≡ ReadFault) → Counts k.faults l.faults (outcome ≡ StoreFault) → outcome ≢ WriteFault → is_verdict outcome ≡ false
    → ((given : Bytes) × (length given ≤ 2 ^ 29 + 1) × Consumes i.left j.left given)
    → ((items : List Bytes) → k.items ≡ Some items → ForInput i.left (λ all. IsBatchBy items (begun items all) (before i j o o k l) (after i j o o k l) outcome))
    → IsBatchAnswer (before i j o o k l) (after i j o o k l) outcome
early-answer i j o k l outcome read keep write judged taken run = record {
  judged = judged;
  taken = taken;
  cause = record { read = read; write = counts-without o.faults o.faults (outcome ≡ WriteFault) (omega arith) write; keep = keep; memory = omega arith };
  run = λ items told. has-run items i j o o k l outcome (run items told);
}

pub early-adds : (left : Option Bytes) (items : List Bytes) (a b : ℕ) (x y : ℕ → List Bytes → Type 0) → OnlyAdds a b x y Nothing → ForInput left (λ all. OnlyAdds a b x y (BatchLeaves items (begun items all)))
early-adds left items a b x y none = for-any left (λ all. OnlyAdds a b x y (BatchLeaves items (begun items all))) (λ all. adds-nothing a b x y (BatchLeaves items (begun items all)) none)
