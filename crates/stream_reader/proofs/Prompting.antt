-- What a reader waits for stands near what it tells then.
use Rattle.std.proofs.Common.{◌≡◌, ◌+◌, ◌≤◌, ℕ, Bool, true, false, cond, length, Option, Some, None, Ok, Err, refl, sym, ap, ◌∙◌, arith, subst}
use Rattle.git_objects.specs.CommitBodies.{strip}
use Rattle.git_objects.specs.Paths.{Bytes}
use Rattle.git_objects.specs.Results.{◌>>=◌}
use Rattle.git_objects.specs.declared.limits.TheConstants.{BLOB_BYTES, LINE_BYTES, STREAM_BYTES}
use Rattle.stream_lex.specs.Cutting.{◌then◌, Agrees, IsReader, Steps, grown, judged, place, pure, refuse}
use Rattle.stream_lex.specs.Lines.{Input, Lex, Line, line_at}
use Rattle.stream_lex.specs.declared.stop.LimitFault.{LimitFault}
use Rattle.stream_lex.specs.declared.stop.LimitFault.TheVariants.{LongLine, StreamTooLong}
use Rattle.stream_lex.specs.declared.stop.Stop.{Stop}
use Rattle.stream_lex.specs.declared.stop.Stop.TheVariants.{More, Fault}
use Rattle.stream_lex.specs.declared.stop.Wanted.{Wanted}
use Rattle.stream_lex.proofs.Waiting.{line_at-reader}
use Rattle.stream_reader.specs.Reading.{Judged, Read, Reader, lifted, line_behind, line_text, must, need_line, option_line}
use Rattle.stream_reader.specs.Waited.{fault_place, line_place, next_place}
use Rattle.stream_reader.specs.declared.fault.StreamFault.{StreamFault}
use Rattle.stream_reader.proofs.Judging.{IsJudged}
use Rattle.stream_reader.proofs.Placing.{IsLineAt, ahead, line_is, line_waited, none_is}
use Rattle.stream_reader.proofs.Reading.{came_along}

-- a fault stands at b or up to a line before it, and of a value holds what Q says
abbrev pub From : {A : Type 0} → ℕ → (A → Input → Type 0) → Read A → Type 0
From b Q (Ok x) = Q x.0 x.1
From b Q (Err (More w)) = Unit {0}
From b Q (Err (Fault f)) = b ≤ fault_place f + (LINE_BYTES + 1)

-- the next line stands at b or behind it
abbrev pub Later : {A : Type 0} → ℕ → A → Input → Type 0
Later b x j = b ≤ next_place j

-- what a reader waits for is near, and what it tells then isn't before that
pub record IsNearIn {A : Type 0} (Q : ℕ → A → Input → Type 0) (f : Reader A) (i : Input) (w : Wanted) : Type 0 where
  pub few : i.at + length i.rest ≤ place w + BLOB_BYTES
  pub after : (more : Bytes) → From (place w) (Q (place w)) (f true (grown more i))

-- A reader behind a line that stands there.
pub record IsPrompt {A : Type 0} (at : ℕ) (f : Reader A) : Type 0 where
  pub later : (b : ℕ) (i : Input) → b ≤ at → b ≤ next_place i → From b (Later b) (f true i)
  pub near : (i : Input) (w : Wanted) → f false i ≡ Err (More w) → IsNearIn Later f i w

-- ---- one reader behind another

pub bind_from : {A B : Type 0} (b : ℕ) (P : A → Input → Type 0) (Q : B → Input → Type 0) (r : Read A) (g : A × Input → Read B) → From b P r → ((x : A) (j : Input) → P x j → From b Q (g (x, j))) → From b Q (r >>= g)
bind_from b P Q (Ok x) g h k = k x.0 x.1 h
bind_from b P Q (Err (More w)) g h k = tt
bind_from b P Q (Err (Fault f)) g h k = h

-- what is told of more is told of it behind what was told before
told_behind : {A B : Type 0} (f : Reader A) (g : A → Reader B) → IsReader f → (i : Input) (x : A) (j : Input) → f false i ≡ Ok (x, j) → (more : Bytes) → (f then g) true (grown more i) ≡ g x true (grown more j)
told_behind f g h i x j e more = ap (λ r. r >>= λ y. g y.0 true y.1) (subst (λ r. Agrees more r (f true (grown more i))) e (h.settles true more i))

module _ {A B : Type 0} (Q : ℕ → B → Input → Type 0) (f : Reader A) (g : A → Reader B) (h : IsReader f) (i : Input) (w : Wanted) where
  -- the second reader waits
  behind_near : (x : A) (j : Input) → f false i ≡ Ok (x, j) → IsNearIn Q (g x) j w → IsNearIn Q (f then g) i w
  behind_near x j e u = record {
    few = omega (arith, u.few, came_along i j (subst (Steps i) e (h.steps false i)));
    after = λ more. subst (From (place w) (Q (place w))) (sym (told_behind f g h i x j e more)) (u.after more);
  }

  pub then_near : (P : ℕ → A → Input → Type 0) → ((v : Wanted) → f false i ≡ Err (More v) → IsNearIn P f i v) →
      ((x : A) (j : Input) → f false i ≡ Ok (x, j) → g x false j ≡ Err (More w) → IsNearIn Q (g x) j w) →
      ((x : A) (j : Input) → P (place w) x j → From (place w) (Q (place w)) (g x true j)) → (f then g) false i ≡ Err (More w) → IsNearIn Q (f then g) i w
  then_near P first second on e = go (f false i) refl e
    where
      go : (r : Read A) → f false i ≡ r → (r >>= λ y. g y.0 false y.1) ≡ Err (More w) → IsNearIn Q (f then g) i w
      go (Ok x) p k = behind_near x.0 x.1 p (second x.0 x.1 p k)
      go (Err (More v)) p k =
          let same : v ≡ w = cc in
          let u = first w (p ∙ ap (λ u. Err (More u)) same) in record {
            few = u.few;
            after = λ more. bind_from (place w) (P (place w)) (Q (place w)) (f true (grown more i)) (λ y. g y.0 true y.1) (u.after more) on;
          }
      go (Err (Fault t)) p k = let no : ⊥ = cc in absurd no

-- the second one stands behind no line in particular
pub then-prompt : {A B : Type 0} (at : ℕ) (f : Reader A) (g : A → Reader B) → IsReader f → IsPrompt at f → ((c : ℕ) (x : A) → IsPrompt c (g x)) → IsPrompt at (f then g)
then-prompt at f g r h k = record {
  later = λ b i l n. bind_from b (Later b) (Later b) (f true i) (λ y. g y.0 true y.1) (h.later b i l n) (λ x j m. (k b x).later b j (omega arith) m);
  near = λ i w. then_near Later f g r i w Later (h.near i) (λ x j p e. (k 0 x).near j w e) (λ x j m. (k (place w) x).later (place w) j (omega arith) m);
}

pub pure-prompt : {A : Type 0} (at : ℕ) (x : A) → IsPrompt at (pure x)
pure-prompt at x = record { later = λ b i l n. n; near = λ i w e. let no : ⊥ = cc in absurd no }

pub refuse-prompt : {A : Type 0} (f : StreamFault) → IsPrompt {A = A} (fault_place f) (refuse f)
refuse-prompt f = record { later = λ b i l n. omega (arith, l); near = λ i w e. let no : ⊥ = cc in absurd no }

pub judged-prompt : {A : Type 0} (at : ℕ) (r : Judged A) → IsJudged at r → IsPrompt at (judged r)
judged-prompt at (Ok x) h = pure-prompt at x
judged-prompt at (Err (More w)) h = absurd h.told
judged-prompt {A = A} at (Err (Fault f)) h = subst (λ n. IsPrompt {A = A} n (refuse f)) h.there (refuse-prompt f)

pub cond-prompt : {A : Type 0} (at : ℕ) (b : Bool) (f g : Reader A) → IsPrompt at f → IsPrompt at g → IsPrompt at (cond b f g)
cond-prompt at true f g h k = h
cond-prompt at false f g h k = k

-- a reader that tells the same
pub prompt_as : {A : Type 0} (at : ℕ) (f g : Reader A) → ((ended : Bool) (i : Input) → f ended i ≡ g ended i) → IsPrompt at f → IsPrompt at g
prompt_as at f g s h = record {
  later = λ b i l n. subst (From b (Later b)) (s true i) (h.later b i l n);
  near = λ i w e. let u = h.near i w (s false i ∙ e) in record {
    few = u.few;
    after = λ more. subst (From (place w) (Later (place w))) (s true (grown more i)) (u.after more);
  };
}

-- ---- readers that begin right behind their line

pub record IsBeside {A : Type 0} (at : ℕ) (f : Reader A) : Type 0 where
  pub later : (b : ℕ) (i : Input) → b ≤ at → at ≤ i.at → i.at ≤ STREAM_BYTES → From b (Later b) (f true i)
  pub near : (i : Input) (w : Wanted) → i.at ≤ at + (LINE_BYTES + 1) → i.at ≤ STREAM_BYTES → f false i ≡ Err (More w) → IsNearIn Later f i w

pub prompt-beside : {A : Type 0} (at : ℕ) (f : Reader A) → IsPrompt at f → IsBeside at f
prompt-beside at f h = record {
  later = λ b i l m s. h.later b i l (omega (arith, l, m, ahead i s));
  near = λ i w m s e. h.near i w e;
}

pub cond-beside : {A : Type 0} (at : ℕ) (b : Bool) (f g : Reader A) → IsBeside at f → IsBeside at g → IsBeside at (cond b f g)
cond-beside at true f g h k = h
cond-beside at false f g h k = k

-- ---- lines

-- a fault of reading a line stands where the next line is
stopped_from : {A B : Type 0} (b : ℕ) (Q : B → Input → Type 0) (s : Stop LimitFault) (g : A × Input → Read B) → (h : b ≤ line_place (Err s)) → From b Q (lifted (Err s) >>= g)
stopped_from b Q (More w) g h = tt
stopped_from b Q (Fault (LongLine at)) g h = omega (arith, h)
stopped_from b Q (Fault StreamTooLong) g h = omega (arith, h)

-- What is made of the next line, of what stands before it and of what stands behind it.
abbrev pub by_line : {B : Type 0} → (Bool → Input → Option Line × Input → Read B) → Reader B
by_line g ended i = lifted (line_at ended i) >>= g ended i

module _ {B : Type 0} (Q : ℕ → B → Input → Type 0) (g : Bool → Input → Option Line × Input → Read B) where
  pub line_later : (b : ℕ) (i : Input) → b ≤ next_place i →
      ((l : Line) (j : Input) → line_at true i ≡ Ok (Some l, j) → IsLineAt i l j → b ≤ l.place → From b (Q b) (g true i (Some l, j))) →
      ((j : Input) → line_at true i ≡ Ok (None, j) → j.at ≤ STREAM_BYTES → b ≤ j.at → From b (Q b) (g true i (None, j))) → From b (Q b) (by_line g true i)
  line_later b i n some none = go (line_at true i) refl
    where
      go : (r : Lex (Option Line)) → line_at true i ≡ r → From b (Q b) (lifted r >>= g true i)
      go (Ok (Some l, j)) e = some l j e (line_is true i l j e) (subst (λ r. b ≤ line_place r) e n)
      go (Ok (None, j)) e = none j e (none_is true i j e).1 (subst (λ r. b ≤ line_place r) e n)
      go (Err s) e = stopped_from b (Q b) s (g true i) (subst (λ r. b ≤ line_place r) e n)

  -- the line is waited for, or what stands behind it
  pub line_near : (i : Input) (w : Wanted) → ((b : ℕ) (k : Input) → b ≤ next_place k → From b (Q b) (by_line g true k)) →
      ((l : Line) (j : Input) → line_at false i ≡ Ok (Some l, j) → IsLineAt i l j → g false i (Some l, j) ≡ Err (More w) → IsNearIn Q (by_line g) i w) →
      ((j : Input) → line_at false i ≡ Ok (None, j) → g false i (None, j) ≡ Err (More w) → IsNearIn Q (by_line g) i w) → by_line g false i ≡ Err (More w) → IsNearIn Q (by_line g) i w
  line_near i w all some none e = go (line_at false i) refl e
    where
      go : (r : Lex (Option Line)) → line_at false i ≡ r → (lifted r >>= g false i) ≡ Err (More w) → IsNearIn Q (by_line g) i w
      go (Ok (Some l, j)) p k = some l j p (line_is false i l j p) k
      go (Ok (None, j)) p k = none j p k
      go (Err (More v)) p k =
          let same : v ≡ w = cc in
          let u = line_waited i w (p ∙ ap (λ u. Err (More u)) same) in record {
            few = omega (arith, u.few);
            after = λ more. all (place w) (grown more i) (u.ahead more);
          }
      go (Err (Fault (LongLine at))) p k = let no : ⊥ = cc in absurd no
      go (Err (Fault StreamTooLong)) p k = let no : ⊥ = cc in absurd no

-- the line, once it is there, is the same of more
pub line_more : (i : Input) (o : Option Line) (j : Input) → line_at false i ≡ Ok (o, j) → (more : Bytes) → line_at true (grown more i) ≡ Ok (o, grown more j)
line_more i o j e more = subst (λ r. Agrees more r (line_at true (grown more i))) e (line_at-reader.settles true more i)

pub line_came : (i : Input) (o : Option Line) (j : Input) → line_at false i ≡ Ok (o, j) → j.at + length j.rest ≡ i.at + length i.rest
line_came i o j e = came_along i j (subst (Steps i) e (line_at-reader.steps false i))

-- ---- a line that must be there

module _ {B : Type 0} (g : Line → Reader B) (h : (l : Line) → IsBeside l.place (g l)) where
  abbrev by_need : Bool → Input → Option Line × Input → Read B
  by_need ended i x = must x >>= λ y. g y.0 ended y.1

  need_same : (ended : Bool) (i : Input) → by_line by_need ended i ≡ (need_line then g) ended i
  unfolding need_line
  need_same ended i = go (lifted (line_at ended i))
    where
      go : (r : Judged (Option Line × Input)) → (r >>= by_need ended i) ≡ ((r >>= must) >>= λ y. g y.0 ended y.1)
      go (Ok x) = refl
      go (Err e) = refl

  need_later : (b : ℕ) (i : Input) → b ≤ next_place i → From b (Later b) (by_line by_need true i)
  need_later b i n = line_later Later by_need b i n
      (λ l j e p m. (h l).later b j m p.to p.within)
      (λ j e s m. omega (arith, m))

  need_near : (i : Input) (w : Wanted) → by_line by_need false i ≡ Err (More w) → IsNearIn Later (by_line by_need) i w
  need_near i w = line_near Later by_need i w need_later
      (λ l j e p k.
      let u = (h l).near j w p.short p.within k in record {
        few = omega (arith, u.few, line_came i (Some l) j e);
        after = λ more. subst (From (place w) (Later (place w))) (sym (ap (λ r. lifted r >>= by_need true (grown more i)) (line_more i (Some l) j e more))) (u.after more);
      })
      (λ j e k. let no : ⊥ = cc in absurd no)

  pub need-prompt : (at : ℕ) → IsPrompt at (need_line then g)
  need-prompt at = prompt_as at (by_line by_need) (need_line then g) need_same (record { later = λ b i l n. need_later b i n; near = need_near })

-- ---- a line that may be missing

module _ {B : Type 0} (word : Bytes) (g : Option Line → Reader B) (some : (l : Line) → IsPrompt l.place (g (Some l))) (none : (at : ℕ) → IsPrompt at (g None)) where
  abbrev by_option : Bool → Input → Option Line × Input → Read B
  by_option ended i x = line_behind word i x >>= λ y. g y.0 ended y.1

  option_same : (ended : Bool) (i : Input) → by_line by_option ended i ≡ (option_line word then g) ended i
  unfolding option_line
  option_same ended i = go (lifted (line_at ended i))
    where
      go : (q : Judged (Option Line × Input)) → (q >>= by_option ended i) ≡ ((q >>= line_behind word i) >>= λ y. g y.0 ended y.1)
      go (Ok x) = refl
      go (Err e) = refl

  text_later : (b : ℕ) (i : Input) (l : Line) (j : Input) → IsLineAt i l j → b ≤ l.place → b ≤ next_place i → (o : Option Bytes) → From b (Later b) (line_text l i o j >>= λ y. g y.0 true y.1)
  text_later b i l j p m n None = (none b).later b i (omega arith) n
  text_later b i l j p m n (Some t) = (some (record { place = l.place; bytes = t })).later b j m (omega (arith, m, p.to, ahead j p.within))

  option_later : (b : ℕ) (i : Input) → b ≤ next_place i → From b (Later b) (by_line by_option true i)
  option_later b i n = line_later Later by_option b i n
      (λ l j e p m. text_later b i l j p m n (strip word l.bytes))
      (λ j e s m. (none b).later b i (omega arith) n)

  text_near : (i : Input) (w : Wanted) (l : Line) (j : Input) → line_at false i ≡ Ok (Some l, j) → (o : Option Bytes) → strip word l.bytes ≡ o → (line_text l i o j >>= λ y. g y.0 false y.1) ≡ Err (More w) → IsNearIn Later (by_line by_option) i w
  text_near i w l j e None q k =
      let u = (none 0).near i w k in record {
        few = u.few;
        after = λ more. subst (From (place w) (Later (place w))) (sym (ap (λ x. lifted x >>= by_option true (grown more i)) (line_more i (Some l) j e more) ∙ ap (λ o. line_text l (grown more i) o (grown more j) >>= λ y. g y.0 true y.1) q)) (u.after more);
      }
  text_near i w l j e (Some t) q k =
      let u = (some (record { place = l.place; bytes = t })).near j w k in record {
        few = omega (arith, u.few, line_came i (Some l) j e);
        after = λ more. subst (From (place w) (Later (place w))) (sym (ap (λ x. lifted x >>= by_option true (grown more i)) (line_more i (Some l) j e more) ∙ ap (λ o. line_text l (grown more i) o (grown more j) >>= λ y. g y.0 true y.1) q)) (u.after more);
      }

  option_near : (i : Input) (w : Wanted) → by_line by_option false i ≡ Err (More w) → IsNearIn Later (by_line by_option) i w
  option_near i w = line_near Later by_option i w option_later
      (λ l j e p k. text_near i w l j e (strip word l.bytes) refl k)
      (λ j e k.
      let u = (none 0).near i w k in record {
        few = u.few;
        after = λ more. subst (From (place w) (Later (place w))) (sym (ap (λ x. lifted x >>= by_option true (grown more i)) (line_more i None j e more))) (u.after more);
      })

  pub option-prompt : (at : ℕ) → IsPrompt at (option_line word then g)
  option-prompt at = prompt_as at (by_line by_option) (option_line word then g) option_same (record { later = λ b i l n. option_later b i n; near = option_near })
