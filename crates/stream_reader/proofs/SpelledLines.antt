-- Lines and blocks are read exactly where they are spelled.
use Rattle.std.proofs.Common.{◌≡◌, ◌≢◌, inl, inr, ℕ, true, ◌++◌, length, Option, Some, None, Result, Ok, Err, refl, sym, ap, ◌∙◌, subst}
use Rattle.git_objects.specs.Paths.{Bytes}
use Rattle.git_objects.specs.CommitBodies.{strip}
use Rattle.git_objects.proofs.CommitReading.{strip-spelled, strip-read}
use Rattle.stream_lex.specs.declared.stop.Stop.{Stop}
use Rattle.stream_lex.specs.declared.stop.LimitFault.{LimitFault}
use Rattle.stream_lex.specs.Lines.{Input, Line, line_at, block_at}
use Rattle.stream_lex.specs.Spelling.{NextLine, TakesBlock}
use Rattle.stream_lex.proofs.Spelled.{Spelled, line_at-spelled, line_at-again, line_at-none}
use Rattle.stream_lex.proofs.BlockSpelled.{BlockTold, block_at-told, block_at-again}
use Rattle.stream_reader.specs.declared.fault.StreamFault.{StreamFault}
use Rattle.git_objects.specs.Results.{◌>>=◌}
use Rattle.stream_lex.specs.Cutting.{◌then◌, pure, judged}
use Rattle.stream_reader.specs.Reading.{Judged, Reader, or_fault, lifted, line_text, line_behind, option_line, must, need_line}
use Rattle.stream_reader.specs.Blocks.{block_in, whole_block}
use Rattle.stream_reader.specs.Heads.{if_some, said}
use Rattle.stream_reader.specs.Spelling.{WordLine, NoWord, OptionLine, Said}

-- ---- words

pub strip-other : (word line : Bytes) → ((t : Bytes) → line ≢ word ++ t) → strip word line ≡ None
strip-other word line h =
    elim (strip word line) as (λ o. strip word line ≡ o → o ≡ None) [ None ↦ λ e. refl | Some t ↦ λ e. absurd (h t (strip-spelled word line t e)) ] refl

pub strip-not : (word line t : Bytes) → strip word line ≡ None → line ≢ word ++ t
strip-not word line t e g = let s : strip word line ≡ Some t = ap (strip word) g ∙ strip-read word t in absurd cc

-- ---- readers that take exactly what is spelled

pub record Reads {A : Type 0} (f : Reader A) (R : Input → A → Input → Type 0) : Type 0 where
  pub was : (i : Input) (x : A) (j : Input) → f true i ≡ Ok (x, j) → R i x j
  pub again : (i : Input) (x : A) (j : Input) → R i x j → f true i ≡ Ok (x, j)

pub bind_ok : {A B : Type 0} (r : Judged A) (f : A → Judged B) (y : B) → (r >>= f) ≡ Ok y → (x : A) × (r ≡ Ok x) × (f x ≡ Ok y)
bind_ok (Ok x) f y e = (x, refl, e)
bind_ok (Err d) f y e = absurd cc

abbrev pub done : {A : Type 0} → A → Judged A
done x = Ok x

pub ok_is : {A : Type 0} (x y : A) → done x ≡ done y → x ≡ y
ok_is x y e = cc

pub or_ok : {A : Type 0} (f : StreamFault) (o : Option A) (x : A) → or_fault f o ≡ Ok x → o ≡ Some x
or_ok f None x e = absurd cc
or_ok f (Some y) x e = let k : y ≡ x = ok_is y x e in ap Some k

abbrev pub Then : {A B : Type 0} → (Input → A → Input → Type 0) → (A → Input → B → Input → Type 0) → Input → B → Input → Type 0
Then {A = A} R S i y k = (x : A) × (j : Input) × R i x j × S x j y k

pub then_reads : {A B : Type 0} (f : Reader A) (g : A → Reader B) (R : Input → A → Input → Type 0) (S : A → Input → B → Input → Type 0) →
    Reads f R → ((x : A) → Reads (g x) (S x)) → Reads (f then g) (Then R S)
then_reads f g R S h s = record {
  was = λ i y k e. let b = bind_ok (f true i) (λ x. g x.0 true x.1) (y, k) e in (b.0.0, b.0.1, h.was i b.0.0 b.0.1 b.1, (s b.0.0).was b.0.1 y k b.2);
  again = λ i y k t. ap (λ r. r >>= λ x. g x.0 true x.1) (h.again i t.0 t.1 t.2) ∙ (s t.0).again t.1 y k t.3;
}

abbrev pub Same : {A : Type 0} → A → Input → A → Input → Type 0
Same x i y j = (x ≡ y) × (i ≡ j)

pub pure_reads : {A : Type 0} (x : A) → Reads (pure x) (Same x)
pure_reads {A = A} x = record {
  was = λ i y j e. let p : (x, i) ≡ (y, j) = ok_is (x, i) (y, j) e in (ap (λ (z : A × Input). z.0) p, ap (λ (z : A × Input). z.1) p);
  again = λ i y j h. λ k. Ok (h.0 k, h.1 k);
}

abbrev pub Told : {A : Type 0} → Judged A → Input → A → Input → Type 0
Told r i y j = (r ≡ Ok y) × (i ≡ j)

pub judged_reads : {A : Type 0} (r : Judged A) → Reads (judged r) (Told r)
judged_reads {A = A} r = record {
  was = λ i y j e.
      let b = bind_ok r (λ x. Ok (x, i)) (y, j) e in
      let p : (b.0, i) ≡ (y, j) = ok_is (b.0, i) (y, j) b.2 in
      (b.1 ∙ ap Ok (ap (λ (z : A × Input). z.0) p), ap (λ (z : A × Input). z.1) p);
  again = λ i y j h. ap (λ s. s >>= λ x. Ok (x, i)) h.0 ∙ (λ k. Ok (y, h.1 k));
}

pub convert : {A : Type 0} (f : Reader A) (R S : Input → A → Input → Type 0) → Reads f R →
    ((i : Input) (x : A) (j : Input) → R i x j → S i x j) → ((i : Input) (x : A) (j : Input) → S i x j → R i x j) → Reads f S
convert f R S h a b = record { was = λ i x j e. a i x j (h.was i x j e); again = λ i x j t. h.again i x j (b i x j t) }

-- ---- lines

lifted_ok : {A : Type 0} (r : Result (A × Input) (Stop LimitFault)) (x : A × Input) → lifted r ≡ Ok x → r ≡ Ok x
lifted_ok (Ok y) x e = let k : y ≡ x = ok_is y x e in ap Ok k
lifted_ok (Err s) x e = absurd cc

text_was : (word : Bytes) (i k : Input) (l : Line) → NextLine i l k → (o : Option Line) (j : Input) → (s : Option Bytes) → strip word l.bytes ≡ s → line_text l i s k ≡ Ok (o, j) → OptionLine word i o j
text_was word i k l n o j None p e =
    subst (λ (x : Option Line × Input). OptionLine word i x.0 x.1) (ok_is (None, i) (o, j) e) (inr (l, k, n, λ t g. strip-not word l.bytes t p g), refl)
text_was word i k l n o j (Some t) p e =
    subst (λ (x : Option Line × Input). OptionLine word i x.0 x.1) (ok_is (Some (record { place = l.place; bytes = t }), k) (o, j) e) (record { line = l; next = n; place = refl; bytes = strip-spelled word l.bytes t p })

behind_was : (word : Bytes) (i k : Input) (x : Option Line) → Spelled true i (Ok (x, k)) → (o : Option Line) (j : Input) → line_behind word i (x, k) ≡ Ok (o, j) → OptionLine word i o j
behind_was word i k None n o j e = subst (λ (x : Option Line × Input). OptionLine word i x.0 x.1) (ok_is (None, i) (o, j) e) (inl (k, n.0), refl)
behind_was word i k (Some l) n o j e = text_was word i k l n.0 o j (strip word l.bytes) refl e

option_was : (word : Bytes) (i : Input) (o : Option Line) (j : Input) → option_line word true i ≡ Ok (o, j) → OptionLine word i o j
unfolding option_line
option_was word i o j e =
    let b = bind_ok (lifted (line_at true i)) (line_behind word i) (o, j) e in
    behind_was word i b.0.1 b.0.0 (subst (Spelled true i) (lifted_ok (line_at true i) b.0 b.1) (line_at-spelled true i)) o j b.2

none_taken : (word : Bytes) (i : Input) → NoWord word i → option_line word true i ≡ Ok (None, i)
unfolding option_line
none_taken word i h =
    elim h [
      | inl n ↦ ap (λ r. lifted r >>= line_behind word i) (line_at-none i n.0 n.1)
      | inr n ↦ ap (λ r. lifted r >>= line_behind word i) (line_at-again i n.0 n.1 n.2) ∙ ap (λ s. line_text n.0 i s n.1) (strip-other word n.0.bytes n.3)
    ]

word_taken : (word : Bytes) (i : Input) (t : Line) (j : Input) → WordLine word i t j → option_line word true i ≡ Ok (Some t, j)
unfolding option_line
word_taken word i t j h =
    ap (λ r. lifted r >>= line_behind word i) (line_at-again i h.line j h.next)
    ∙ ap (λ s. line_text h.line i s j) (ap (strip word) h.bytes ∙ strip-read word t.bytes)
    ∙ (λ k. Ok (Some (record { place = h.place k; bytes = t.bytes }), j))

option_again : (word : Bytes) (i : Input) (o : Option Line) (j : Input) → OptionLine word i o j → option_line word true i ≡ Ok (o, j)
option_again word i None j h = none_taken word i h.0 ∙ ap (λ k. Ok (None, k)) h.1
option_again word i (Some t) j h = word_taken word i t j h

pub option_line-reads : (word : Bytes) → Reads (option_line word) (OptionLine word)
option_line-reads word = record { was = option_was word; again = option_again word }

must_was : (i : Input) (x : Option Line) (k : Input) → Spelled true i (Ok (x, k)) → (l : Line) (j : Input) → must (x, k) ≡ Ok (l, j) → NextLine i l j
must_was i None k h l j e = absurd cc
must_was i (Some y) k h l j e = subst (λ (z : Line × Input). NextLine i z.0 z.1) (ok_is (y, k) (l, j) e) h.0

need_was : (i : Input) (l : Line) (j : Input) → need_line true i ≡ Ok (l, j) → NextLine i l j
unfolding need_line
need_was i l j e =
    let b = bind_ok (lifted (line_at true i)) must (l, j) e in
    must_was i b.0.0 b.0.1 (subst (Spelled true i) (lifted_ok (line_at true i) b.0 b.1) (line_at-spelled true i)) l j b.2

need_again : (i : Input) (l : Line) (j : Input) → NextLine i l j → need_line true i ≡ Ok (l, j)
unfolding need_line
need_again i l j h = ap (λ r. lifted r >>= must) (line_at-again i l j h)

pub need_line-reads : Reads need_line NextLine
need_line-reads = record { was = need_was; again = need_again }

-- ---- a line that may be missing, and what its text says

said_was : {A : Type 0} (word : Bytes) (says : Line → Judged A) (i : Input) (o : Option Line) (k : Input) → OptionLine word i o k → (y : Option A) (j : Input) →
    if_some says o ≡ Ok y → k ≡ j → Said word says i y j
said_was word says i None k h y j e p = subst (λ z. Said word says i z j) (ok_is None y e) (h.0, h.1 ∙ p)
said_was word says i (Some t) k h y j e p =
    let b = bind_ok (says t) (λ x. Ok (Some x)) y e in
    subst (λ z. Said word says i z j) (ok_is (Some b.0) y b.2) (t, subst (WordLine word i t) p h, b.1)

said_again : {A : Type 0} (word : Bytes) (says : Line → Judged A) (i : Input) (y : Option A) (j : Input) → Said word says i y j → Then (OptionLine word) (λ o. Told (if_some says o)) i y j
said_again word says i None j h = (None, j, h, (refl, refl))
said_again word says i (Some x) j h = (Some h.0, j, h.1, (ap (λ r. r >>= λ x. Ok (Some x)) h.2, refl))

pub said-reads : {A : Type 0} (word : Bytes) (says : Line → Judged A) → Reads (said word says) (Said word says)
said-reads word says =
    convert (said word says) (Then (OptionLine word) (λ o. Told (if_some says o))) (Said word says)
    (then_reads (option_line word) (λ o. judged (if_some says o)) (OptionLine word) (λ o. Told (if_some says o)) (option_line-reads word) (λ o. judged_reads (if_some says o)))
    (λ i y j h. said_was word says i h.0 h.1 h.2 y j h.3.0 h.3.1) (said_again word says)

-- ---- blocks

block_in_was : (at n : ℕ) (k : Input) (o : Option Bytes) (m : Input) → BlockTold n true k (Ok (o, m)) → (b : Bytes) (j : Input) → block_in at (o, m) ≡ Ok (b, j) → TakesBlock k b j × (length b ≡ n)
block_in_was at n k None m h b j e = absurd cc
block_in_was at n k (Some c) m h b j e = subst (λ (z : Bytes × Input). TakesBlock k z.0 z.1 × (length z.0 ≡ n)) (ok_is (c, m) (b, j) e) (h.0, h.1)

pub whole_block-reads : (at n : ℕ) → Reads (whole_block at n) (λ i b j. TakesBlock i b j × (length b ≡ n))
whole_block-reads at n = record {
  was = λ i b j e.
      let r = bind_ok (lifted (block_at n true i)) (block_in at) (b, j) e in
      block_in_was at n i r.0.0 r.0.1 (subst (BlockTold n true i) (lifted_ok (block_at n true i) r.0 r.1) (block_at-told n true i)) b j r.2;
  again = λ i b j h.
      ap (λ m. lifted (block_at m true i) >>= block_in at) (sym h.1) ∙ ap (λ r. lifted r >>= block_in at) (block_at-again true i b j h.0 (inr refl));
}
