use Rattle.std.proofs.Common.{◌≡◌, ℕ, ◌∙◌, ◌++◌, [], ◌∷◌, codes, decimal, length, ap, append_assoc}
use Rattle.git_objects.specs.Paths.{Bytes}
use Rattle.fast_export.specs.ExportTexts.{blob_text, line, mark_line}
use Rattle.fast_export.proofs.Sent.{put_as, put_before, put_behind, put_err, put_short, put_stop}
use Rattle.fast_export.proofs.blobs.write_blob.Goals as goal

parts : (x l b f : Bytes) → ((x ++ l) ++ b) ++ f ≡ x ++ ((l ++ b) ++ f)
parts x l b f = ap (λ (t : Bytes). t ++ f) (append_assoc x l b) ∙ append_assoc x (l ++ b) f

whole : (n : ℕ) (b : Bytes) → ((codes "blob\n" ++ mark_line (codes "mark ") n ++ line (codes "data ") (decimal (length b))) ++ b) ++ 10 ∷ [] ≡ blob_text (n, b)
whole n b = parts (codes "blob\n" ++ mark_line (codes "mark ") n) (line (codes "data ") (decimal (length b))) b (10 ∷ [])

pub returns-in_err-put : goal.returns-in_err-put
returns-in_err-put g c =
    put_err _ _ _ _ _ c.in_err-put.field-0.0 _ c.from_residual-in_err-put.ensures.1
    (put_as _ _ _ _ _ _ _ (whole c.args.number c.args.body.now)
    (put_stop _ _ _ _ _ _ (10 ∷ []) _ (put_behind _ _ _ _ _ _ _ _ c.in_ok-add_blob_head.ensures c.in_err-put.ensures)))

pub returns-in_err-push : goal.returns-in_err-push
returns-in_err-push g c =
    put_err _ _ _ _ _ _ _ c.from_residual-in_err-push.ensures.1
    (put_as _ _ _ _ _ _ _ (whole c.args.number c.args.body.now)
    (put_short _ _ _ _ _ _ (10 ∷ []) (put_behind _ _ _ _ _ _ _ _ c.in_ok-add_blob_head.ensures c.in_ok-put.ensures)))

pub returns : goal.returns
returns g c =
    put_as _ _ _ _ _ _ _ (whole c.args.number c.args.body.now)
    (put_before _ _ _ _ _ _ (10 ∷ []) c.in_ok-push.ensures.items (put_behind _ _ _ _ _ _ _ _ c.in_ok-add_blob_head.ensures c.in_ok-put.ensures))
