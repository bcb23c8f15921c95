-- How far the blobs of leaves that were found are written.
use Rattle.std.proofs.Common.{◌≡◌, ℕ, zero, suc, ◌+◌, ◌<◌, ◌≤◌, List, [], ◌∷◌, ◌++◌, length, take, drop, get_or, take-append-drop, Option, Result, Ok, Err, refl, sym, ap, subst, ◌∙◌, arith}
use Rattle.std.proofs.lemmas.List.{map-append, take_all, take_more}
use Rattle.git_objects.specs.Lists.{Each}
use Rattle.git_objects.specs.Paths.{Bytes}
use Rattle.git_objects.specs.Trees.{Flat}
use Rattle.object_store.specs.Objects.{Object}
use Rattle.fast_export.specs.ExportTexts.{Marks}
use Rattle.fast_export.specs.Given.{Given, AreGivenIn, marks_in, one_leaf, with_blobs}
use Rattle.fast_export.specs.Sending.{IsPut}
use Rattle.fast_export.specs.declared.error.ExportError.{ExportError}
use Rattle.fast_export.proofs.NewBlobs.{texts_append, with_append, with_nothing}
use Rattle.fast_export.proofs.Sent.{put_as, put_idle, put_stop, put_then}
use Rattle.fast_export.proofs.WrittenBlobs.{blobs_text}
use Rattle.incremental_export.specs.Compared.{IsHeldLeaf}
use Rattle.incremental_export.specs.Written.{flat_of}
use Rattle.incremental_export.specs.declared.compare.Placed.{Placed}

held_at : (S : List Object) (ps : List Placed) (i : ℕ) (d : Placed) → Each (IsHeldLeaf S) ps → i < length ps → IsHeldLeaf S (get_or ps i d)
held_at S [] i d h l = absurd (omega arith)
held_at S (p ∷ ps) zero d h l = h.0
held_at S (p ∷ ps) (suc i) d h l = held_at S ps i d h.1 (omega arith)

pub leaf_held : (S : List Object) (ps : List Placed) (i : ℕ) (x : Placed) → x ≡ get_or ps i x → Each (IsHeldLeaf S) ps → i < length ps → IsHeldLeaf S x
leaf_held S ps i x here h l = subst (IsHeldLeaf S) (sym here) (held_at S ps i x h l)

-- the blobs of the first i are written
pub record AreBlobsWritten {O : Type 0} (tells : O → Type 0) (written : O → Option Bytes) (faults refusals : O → ℕ) (a b : O) (k l : Bytes) (S : List Object) (ps : List Placed) (i : ℕ) (g h : Given) : Type 0 where
  pub put : IsPut tells written faults refusals a b k l (blobs_text (marks_in S g) (flat_of S (take i ps))) (Ok tt)
  pub marks : marks_in S h ≡ with_blobs (marks_in S g) (flat_of S (take i ps))
  pub given : AreGivenIn S h
  pub commits : h.commits ≡ g.commits

module _ (S : List Object) (ps : List Placed) (g : Given) where
  abbrev flat_to : ℕ → Flat
  flat_to i = flat_of S (take i ps)

  flat_more : (i : ℕ) (x : Placed) → i < length ps → x ≡ get_or ps i x → flat_to i ++ one_leaf S x.leaf ≡ flat_to (i + 1)
  flat_more i x h here = sym (map-append _ (take i ps) (x ∷ [])) ∙ ap (λ (y : Placed). flat_of S (take i ps ++ y ∷ [])) here ∙ ap (flat_of S) (sym (take_more ps i x h))

  flat_rest : (i : ℕ) → flat_to i ++ flat_of S (drop i ps) ≡ flat_of S ps
  flat_rest i = sym (map-append _ (take i ps) (drop i ps)) ∙ ap (flat_of S) (take-append-drop i ps)

  text_rest : (i : ℕ) → blobs_text (marks_in S g) (flat_to i) ++ blobs_text (with_blobs (marks_in S g) (flat_to i)) (flat_of S (drop i ps)) ≡ blobs_text (marks_in S g) (flat_of S ps)
  text_rest i = sym (texts_append (marks_in S g) (flat_to i) (flat_of S (drop i ps))) ∙ ap (blobs_text (marks_in S g)) (flat_rest i)

  module _ {O : Type 0} {tells : O → Type 0} {written : O → Option Bytes} {faults refusals : O → ℕ} where
    pub no_blobs : (a : O) (k : Bytes) → AreGivenIn S g → AreBlobsWritten tells written faults refusals a a k k S ps 0 g g
    no_blobs a k given = record { put = put_idle a k; marks = sym (with_nothing (marks_in S g) [] refl); given = given; commits = refl }

    module _ (a b c : O) (k l m : Bytes) (i : ℕ) (x : Placed) (h : Given) (within : i < length ps) (here : x ≡ get_or ps i x) (p : AreBlobsWritten tells written faults refusals a b k l S ps i g h) where
      one_blob : (r : Result Unit ExportError) → IsPut tells written faults refusals b c l m (blobs_text (marks_in S h) (one_leaf S x.leaf)) r
          → IsPut tells written faults refusals a c k m (blobs_text (marks_in S g) (flat_to (i + 1))) r
      one_blob r q =
          put_as a c k m _ _ r
          (
          (λ j. blobs_text (marks_in S g) (flat_to i) ++ blobs_text (p.marks j) (one_leaf S x.leaf))
          ∙ sym (texts_append (marks_in S g) (flat_to i) (one_leaf S x.leaf))
          ∙ ap (blobs_text (marks_in S g)) (flat_more i x within here)
          )
          (put_then a b c k l m _ _ r p.put q)

      pub more_blobs : (n : Given) → IsPut tells written faults refusals b c l m (blobs_text (marks_in S h) (one_leaf S x.leaf)) (Ok tt)
          → marks_in S n ≡ with_blobs (marks_in S h) (one_leaf S x.leaf) → AreGivenIn S n → n.commits ≡ h.commits → AreBlobsWritten tells written faults refusals a c k m S ps (i + 1) g n
      more_blobs n q marks given commits = record {
        put = one_blob (Ok tt) q;
        marks =
            marks ∙ ap (λ (y : Marks). with_blobs y (one_leaf S x.leaf)) p.marks
            ∙ sym (with_append (marks_in S g) (flat_to i) (one_leaf S x.leaf))
            ∙ ap (with_blobs (marks_in S g)) (flat_more i x within here);
        given = given;
        commits = commits ∙ p.commits;
      }

      -- an error in the middle
      pub less_blobs : (f : ExportError) → IsPut tells written faults refusals b c l m (blobs_text (marks_in S h) (one_leaf S x.leaf)) (Err f) → IsPut tells written faults refusals a c k m (blobs_text (marks_in S g) (flat_of S ps)) (Err f)
      less_blobs f q =
          put_as a c k m _ _ (Err f) (text_rest (i + 1))
          (put_stop a c k m m _ (blobs_text (with_blobs (marks_in S g) (flat_to (i + 1))) (flat_of S (drop (i + 1) ps))) f (one_blob (Err f) q))

    -- all are passed
    pub all_blobs : (a b : O) (k l : Bytes) (i : ℕ) (h : Given) → length ps ≤ i → AreBlobsWritten tells written faults refusals a b k l S ps i g h
        → IsPut tells written faults refusals a b k l (blobs_text (marks_in S g) (flat_of S ps)) (Ok tt) × (marks_in S h ≡ with_blobs (marks_in S g) (flat_of S ps))
    all_blobs a b k l i h e p =
        let all : flat_to i ≡ flat_of S ps = ap (flat_of S) (take_all i ps e) in
        (put_as a b k l _ _ (Ok tt) (ap (blobs_text (marks_in S g)) all) p.put, p.marks ∙ ap (with_blobs (marks_in S g)) all)
