use Rattle.std.proofs.Common.{◌≡◌, ℕ, ◌∙◌, ◌++◌, sym, take, drop, take-append-drop}
use Rattle.git_objects.specs.Paths.{Bytes}
use Rattle.fast_export.proofs.Sent.{put_as, put_err, put_left, put_short, put_stop, put_then}
use Rattle.fast_export.proofs.sending.put.Goals as goal

-- what fills a piece, and the rest
halves : (front rest bytes : Bytes) (n : ℕ) → front ≡ take n bytes → rest ≡ drop n bytes → front ++ rest ≡ bytes
halves front rest bytes n e f = (λ i. e i ++ f i) ∙ take-append-drop n bytes

pub returns-in_err-fill : goal.returns-in_err-fill
returns-in_err-fill g c =
    let whole = halves _ _ c.args.bytes.now _ c.split_at.ensures.front c.split_at.ensures.back in
    put_err _ _ _ _ _ c.in_err-fill.field-0.0 _ c.from_residual-in_err-fill.ensures.1
    (put_as _ _ _ _ _ _ _ whole (put_stop _ _ _ _ _ _ _ _ c.in_err-fill.ensures.put))

pub returns-in_err-extend_from_slice-2 : goal.returns-in_err-extend_from_slice-2
returns-in_err-extend_from_slice-2 g c =
    let whole = halves _ _ c.args.bytes.now _ c.split_at.ensures.front c.split_at.ensures.back in
    put_err _ _ _ _ _ _ _ c.from_residual-in_err-extend_from_slice-2.ensures.1
    (put_as _ _ _ _ _ _ _ whole (put_short _ _ _ _ _ _ _ c.in_ok-fill.ensures.put))

pub returns : goal.returns
returns g c =
    let whole = halves _ _ c.args.bytes.now _ c.split_at.ensures.front c.split_at.ensures.back in
    let filled = put_left _ _ _ _ _ _ _ c.in_ok-fill.ensures.none c.in_ok-fill.ensures.put in
    put_left _ _ _ _ _ _ _ (sym {A = Bytes} c.in_ok-fill.ensures.none) (put_as _ _ _ _ _ _ _ whole (put_then _ _ _ _ _ _ _ _ _ filled c.send_bytes.ensures))
