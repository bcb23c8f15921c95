-- Changes are read exactly where they are spelled.
use Rattle.std.proofs.Common.{◌≡◌, ◌≢◌, ℕ, Bool, true, false, cond, [], ◌∷◌, ◌++◌, Some, None, Ok, refl, sym, ap, ◌∙◌, subst}
use Rattle.std.specs.Prelude.{codes}
use Rattle.std.specs.Cmp.Lexicographic.{bytes_decides}
use Rattle.git_objects.specs.declared.limits.TheConstants.{BLOB_BYTES}
use Rattle.git_objects.specs.Paths.{Bytes, same_bytes, is_nil}
use Rattle.git_objects.specs.CommitBodies.{strip}
use Rattle.git_objects.proofs.CommitReading.{strip-spelled}
use Rattle.stream_lex.specs.Lines.{Input}
use Rattle.stream_reader.specs.declared.command.Change.{Change}
use Rattle.stream_reader.specs.declared.command.Change.TheVariants as changes
use Rattle.stream_reader.specs.declared.command.BlobRef.{BlobRef}
use Rattle.stream_reader.specs.declared.command.BlobRef.TheVariants as blobs
use Rattle.stream_reader.specs.declared.modify.DataRef.{DataRef}
use Rattle.stream_reader.specs.declared.modify.DataRef.TheVariants as datas
use Rattle.stream_reader.specs.declared.modify.ModifyLine.{ModifyLine}
use Rattle.stream_reader.specs.Words.{first_word}
use Rattle.stream_lex.specs.Cutting.{◌then◌, pure, judged}
use Rattle.stream_reader.specs.Reading.{Judged}
use Rattle.stream_reader.specs.Blocks.{blob_data}
use Rattle.stream_reader.specs.PathWords.{last_path, two_paths}
use Rattle.stream_reader.specs.Changes.{modify_line, blob_ref, modify, change, change_line, with_word, by_word, is_notes, ChangeLine, ModifyIs, DeleteIs, RenameIs, CopyIs, DeleteAllIs, NotesAre, EmptyIs, NoChange}
use Rattle.stream_reader.specs.Spelling.{HasData, HasBlobRef, HasChange, IsOther}
use Rattle.stream_reader.proofs.SpelledLines.{strip-other, strip-not, Reads, Then, then_reads, Same, pure_reads, Told, judged_reads, convert}
use Rattle.stream_reader.proofs.SpelledHeads.{blob_data-reads}

-- ---- lines by their first word

-- what a line is by what it was found to be
abbrev pub ChangeTold : Bytes → ChangeLine → Type 0
ChangeTold l (ModifyIs t) = l ≡ codes "M " ++ t
ChangeTold l (DeleteIs t) = l ≡ codes "D " ++ t
ChangeTold l (RenameIs t) = l ≡ codes "R " ++ t
ChangeTold l (CopyIs t) = l ≡ codes "C " ++ t
ChangeTold l DeleteAllIs = l ≡ codes "deleteall"
ChangeTold l NotesAre = Unit {0}
ChangeTold l EmptyIs = l ≡ []
ChangeTold l NoChange = IsOther l

word_told : (l word : Bytes) (make : Bytes → ChangeLine) (other : ChangeLine) → ((t : Bytes) → l ≡ word ++ t → ChangeTold l (make t)) → (strip word l ≡ None → ChangeTold l other) → ChangeTold l (by_word word make l other)
word_told l word make other h g =
    elim (strip word l) as (λ o. strip word l ≡ o → ChangeTold l (with_word make other o)) [ Some t ↦ λ e. h t (strip-spelled word l t e) | None ↦ λ e. g e ] refl

test_told : (l : Bytes) (b : Bool) (here other : ChangeLine) → (b ≡ true → ChangeTold l here) → (b ≡ false → ChangeTold l other) → ChangeTold l (cond b here other)
test_told l true here other h g = h refl
test_told l false here other h g = g refl

nil_is : (l : Bytes) → is_nil l ≡ true → l ≡ []
nil_is [] e = refl
nil_is (x ∷ l) e = absurd cc

not_nil : (l : Bytes) → is_nil l ≡ false → l ≢ []
not_nil l e g = let h : is_nil l ≡ true = ap is_nil g in absurd cc

not_same : (l whole : Bytes) → same_bytes l whole ≡ false → l ≢ whole
not_same l whole e g = let t : same_bytes l whole ≡ true = (bytes_decides l whole).1 g in absurd cc

pub change_told : (l : Bytes) → ChangeTold l (change_line l)
unfolding change_line
change_told l =
    word_told l (codes "M ") ModifyIs _ (λ t e. e) (λ m.
    word_told l (codes "D ") DeleteIs _ (λ t e. e) (λ d.
    word_told l (codes "R ") RenameIs _ (λ t e. e) (λ r.
    word_told l (codes "C ") CopyIs _ (λ t e. e) (λ c.
    test_told l (same_bytes l (codes "deleteall")) DeleteAllIs _ (λ e. (bytes_decides l (codes "deleteall")).0 e) (λ a.
    test_told l (is_notes l) NotesAre _ (λ e. tt) (λ n.
    test_told l (is_nil l) EmptyIs NoChange (nil_is l) (λ s. record {
      some = not_nil l s;
      modify = λ t. strip-not (codes "M ") l t m;
      delete = λ t. strip-not (codes "D ") l t d;
      rename = λ t. strip-not (codes "R ") l t r;
      copy = λ t. strip-not (codes "C ") l t c;
      all = not_same l (codes "deleteall") a;
      notes = n;
    })))))))

-- and the other way
pub modify_again : (t : Bytes) → change_line (codes "M " ++ t) ≡ ModifyIs t
unfolding change_line
modify_again t = refl

pub delete_again : (t : Bytes) → change_line (codes "D " ++ t) ≡ DeleteIs t
unfolding change_line
delete_again t = refl

pub rename_again : (t : Bytes) → change_line (codes "R " ++ t) ≡ RenameIs t
unfolding change_line
rename_again t = refl

pub copy_again : (t : Bytes) → change_line (codes "C " ++ t) ≡ CopyIs t
unfolding change_line
copy_again t = refl

pub all_again : change_line (codes "deleteall") ≡ DeleteAllIs
unfolding change_line
all_again = refl

pub empty_again : change_line [] ≡ EmptyIs
unfolding change_line first_word
empty_again = refl

false_same : (l whole : Bytes) → l ≢ whole → same_bytes l whole ≡ false
false_same l whole h =
    elim (same_bytes l whole) as (λ b. same_bytes l whole ≡ b → b ≡ false) [ false ↦ λ e. refl | true ↦ λ e. absurd (h ((bytes_decides l whole).0 e)) ] refl

false_nil : (l : Bytes) → l ≢ [] → is_nil l ≡ false
false_nil [] h = absurd (h refl)
false_nil (x ∷ l) h = refl

pub other_again : (l : Bytes) → IsOther l → change_line l ≡ NoChange
unfolding change_line
other_again l h =
    ap (with_word ModifyIs (by_word (codes "D ") DeleteIs l (by_word (codes "R ") RenameIs l (by_word (codes "C ") CopyIs l
    (cond (same_bytes l (codes "deleteall")) DeleteAllIs (cond (is_notes l) NotesAre (cond (is_nil l) EmptyIs NoChange)))))))
    (strip-other (codes "M ") l h.modify)
    ∙ ap (with_word DeleteIs (by_word (codes "R ") RenameIs l (by_word (codes "C ") CopyIs l
    (cond (same_bytes l (codes "deleteall")) DeleteAllIs (cond (is_notes l) NotesAre (cond (is_nil l) EmptyIs NoChange))))))
    (strip-other (codes "D ") l h.delete)
    ∙ ap (with_word RenameIs (by_word (codes "C ") CopyIs l (cond (same_bytes l (codes "deleteall")) DeleteAllIs (cond (is_notes l) NotesAre (cond (is_nil l) EmptyIs NoChange)))))
    (strip-other (codes "R ") l h.rename)
    ∙ ap (with_word CopyIs (cond (same_bytes l (codes "deleteall")) DeleteAllIs (cond (is_notes l) NotesAre (cond (is_nil l) EmptyIs NoChange))))
    (strip-other (codes "C ") l h.copy)
    ∙ ap (λ b. cond b DeleteAllIs (cond (is_notes l) NotesAre (cond (is_nil l) EmptyIs NoChange))) (false_same l (codes "deleteall") h.all)
    ∙ ap (λ b. cond b NotesAre (cond (is_nil l) EmptyIs NoChange)) h.notes
    ∙ ap (λ b. cond b EmptyIs NoChange) (false_nil l h.some)

-- ---- data behind a line

abbrev InlineIs : Input → BlobRef → Input → Type 0
InlineIs i b j = (c : Bytes) × HasData BLOB_BYTES i c j × (b ≡ blobs.Inline c)

inline_was : (i : Input) (b : BlobRef) (j : Input) → Then (HasData BLOB_BYTES) (λ c. Same (blobs.Inline c)) i b j → InlineIs i b j
inline_was i b j h = (h.0, subst (λ k. HasData BLOB_BYTES i h.0 k) h.3.1 h.2, sym h.3.0)

inline_again : (i : Input) (b : BlobRef) (j : Input) → InlineIs i b j → Then (HasData BLOB_BYTES) (λ c. Same (blobs.Inline c)) i b j
inline_again i b j h = (h.0, j, h.1, (sym h.2, refl))

turned : {A : Type 0} (x : A) → Reads (pure x) (λ i y j. (y ≡ x) × (i ≡ j))
turned x = convert (pure x) (Same x) (λ i y j. (y ≡ x) × (i ≡ j)) (pure_reads x) (λ i y j h. (sym h.0, h.1)) (λ i y j h. (sym h.0, h.1))

pub blob_ref-reads : (d : DataRef) → Reads (blob_ref d) (HasBlobRef d)
blob_ref-reads (datas.Mark n) = turned (blobs.Mark n)
blob_ref-reads (datas.Digits n) = turned (blobs.Digits n)
blob_ref-reads datas.Inline =
    convert (blob_ref datas.Inline) (Then (HasData BLOB_BYTES) (λ c. Same (blobs.Inline c))) InlineIs
    (then_reads blob_data (λ b. pure (blobs.Inline b)) (HasData BLOB_BYTES) (λ c. Same (blobs.Inline c)) blob_data-reads (λ b. pure_reads (blobs.Inline b)))
    inline_was inline_again

-- ---- changes

abbrev pub ModifyAre : ℕ → Bytes → Input → Change → Input → Type 0
ModifyAre at t i c j = (l : ModifyLine) × (b : BlobRef) × (modify_line at t ≡ Ok l) × HasBlobRef l.blob i b j × (changes.Modify l.mode b l.path ≡ c)

abbrev ThenModify : ℕ → Bytes → Input → Change → Input → Type 0
ThenModify at t = Then (Told (modify_line at t)) (λ l. Then (HasBlobRef l.blob) (λ b. Same (changes.Modify l.mode b l.path)))

modify_was : (at : ℕ) (t : Bytes) (i : Input) (c : Change) (j : Input) → ThenModify at t i c j → ModifyAre at t i c j
modify_was at t i c j h = (
  h.0,
  h.3.0,
  h.2.0,
  subst (λ k. HasBlobRef h.0.blob k h.3.0 j) (sym h.2.1) (subst (λ k. HasBlobRef h.0.blob h.1 h.3.0 k) h.3.3.1 h.3.2),
  h.3.3.0,
)

modify_then : (at : ℕ) (t : Bytes) (i : Input) (c : Change) (j : Input) → ModifyAre at t i c j → ThenModify at t i c j
modify_then at t i c j h = (h.0, i, (h.2, refl), (h.1, j, h.3, (h.4, refl)))

pub modify-reads : (at : ℕ) (t : Bytes) → Reads (modify at t) (ModifyAre at t)
unfolding modify
modify-reads at t =
    convert (modify at t) (ThenModify at t) (ModifyAre at t)
    (then_reads (judged (modify_line at t)) _ (Told (modify_line at t)) (λ l. Then (HasBlobRef l.blob) (λ b. Same (changes.Modify l.mode b l.path))) (judged_reads (modify_line at t))
    (λ l. then_reads (blob_ref l.blob) _ (HasBlobRef l.blob) (λ b. Same (changes.Modify l.mode b l.path)) (blob_ref-reads l.blob) (λ b. pure_reads (changes.Modify l.mode b l.path))))
    (modify_was at t) (modify_then at t)

-- a value that a line says
abbrev pub ValueIs : {A : Type 0} → Judged A → (A → Change) → Input → Change → Input → Type 0
ValueIs {A = A} r make i c j = (x : A) × (r ≡ Ok x) × (i ≡ j) × (make x ≡ c)

value_was : {A : Type 0} (r : Judged A) (make : A → Change) (i : Input) (c : Change) (j : Input) → Then (Told r) (λ x. Same (make x)) i c j → ValueIs r make i c j
value_was r make i c j h = (h.0, h.2.0, h.2.1 ∙ h.3.1, h.3.0)

value_then : {A : Type 0} (r : Judged A) (make : A → Change) (i : Input) (c : Change) (j : Input) → ValueIs r make i c j → Then (Told r) (λ x. Same (make x)) i c j
value_then r make i c j h = (h.0, j, (h.1, h.2), (h.3, refl))

pub value-reads : {A : Type 0} (r : Judged A) (make : A → Change) → Reads (judged r then λ x. pure (make x)) (ValueIs r make)
value-reads r make =
    convert (judged r then λ x. pure (make x)) (Then (Told r) (λ x. Same (make x))) (ValueIs r make)
    (then_reads (judged r) (λ x. pure (make x)) (Told r) (λ x. Same (make x)) (judged_reads r) (λ x. pure_reads (make x)))
    (value_was r make) (value_then r make)

-- what a change's first line says is a change there
pub change_was : (at : ℕ) (l : Bytes) (k : ChangeLine) → ChangeTold l k → (i : Input) (c : Change) (j : Input) → change at k true i ≡ Ok (c, j) → HasChange at l i c j
unfolding change
change_was at l (ModifyIs t) h i c j e =
    let w = (modify-reads at t).was i c j e in subst (λ z. HasChange at l i z j) w.4 (t, w.0.blob, h, w.2, w.3)
change_was at l (DeleteIs t) h i c j e =
    let w = (value-reads (last_path at t) (λ p. changes.Delete p)).was i c j e in subst (λ z. HasChange at l i z j) w.3 (t, h, w.1, w.2)
change_was at l (RenameIs t) h i c j e =
    let w = (value-reads (two_paths at t) (λ p. changes.Rename p.0 p.1)).was i c j e in subst (λ z. HasChange at l i z j) w.3 (t, h, w.1, w.2)
change_was at l (CopyIs t) h i c j e =
    let w = (value-reads (two_paths at t) (λ p. changes.Copy p.0 p.1)).was i c j e in subst (λ z. HasChange at l i z j) w.3 (t, h, w.1, w.2)
change_was at l DeleteAllIs h i c j e = let w = (pure_reads changes.DeleteAll).was i c j e in subst (λ z. HasChange at l i z j) w.0 (h, w.1)
change_was at l NotesAre h i c j e = absurd cc
change_was at l EmptyIs h i c j e = absurd cc
change_was at l NoChange h i c j e = absurd cc

-- and the other way: the line is a change, and it is read
pub record ReadsChange (at : ℕ) (l : Bytes) (i : Input) (c : Change) (j : Input) : Type 0 where
  pub kind : ChangeLine
  pub line : change_line l ≡ kind
  pub read : change at kind true i ≡ Ok (c, j)

pub change_again : (at : ℕ) (l : Bytes) (i : Input) (c : Change) (j : Input) → HasChange at l i c j → ReadsChange at l i c j
unfolding change
change_again at l i (changes.Modify m b p) j h = record {
  kind = ModifyIs h.0;
  line = ap change_line h.2 ∙ modify_again h.0;
  read = (modify-reads at h.0).again i (changes.Modify m b p) j (record { mode = m; blob = h.1; path = p }, b, h.3, h.4, refl);
}
change_again at l i (changes.Delete p) j h = record {
  kind = DeleteIs h.0;
  line = ap change_line h.1 ∙ delete_again h.0;
  read = (value-reads (last_path at h.0) (λ p. changes.Delete p)).again i (changes.Delete p) j (p, h.2, h.3, refl);
}
change_again at l i (changes.Rename p q) j h = record {
  kind = RenameIs h.0;
  line = ap change_line h.1 ∙ rename_again h.0;
  read = (value-reads (two_paths at h.0) (λ p. changes.Rename p.0 p.1)).again i (changes.Rename p q) j ((p, q), h.2, h.3, refl);
}
change_again at l i (changes.Copy p q) j h = record {
  kind = CopyIs h.0;
  line = ap change_line h.1 ∙ copy_again h.0;
  read = (value-reads (two_paths at h.0) (λ p. changes.Copy p.0 p.1)).again i (changes.Copy p q) j ((p, q), h.2, h.3, refl);
}
change_again at l i changes.DeleteAll j h = record { kind = DeleteAllIs; line = ap change_line h.0 ∙ all_again; read = (pure_reads changes.DeleteAll).again i changes.DeleteAll j (refl, h.1) }
