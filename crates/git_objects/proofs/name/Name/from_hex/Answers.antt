use Rattle.hex.specs.Hex.{decode_sized}
use Rattle.hex.proofs.HexLemmas.{IsOk-decode_sized, IsOk-written}
use Rattle.git_objects.proofs.name.Name.from_hex.Goals as goal

pub returns-in-Ok-clause-digits : goal.returns-in-Ok-clause-digits
returns-in-Ok-clause-digits c =
    let written = IsOk-written (decode_sized c.args.text.now 20) _ _ c.in-Ok.ensures.value in
    let digits = IsOk-decode_sized c.args.text.now 20 in
    (λ h. digits.0 (written.0 h), λ h. written.1 (digits.1 h))

pub returns-in-Err-clause-digits : goal.returns-in-Err-clause-digits
returns-in-Err-clause-digits c =
    let written = IsOk-written (decode_sized c.args.text.now 20) _ _ c.in-Err.ensures.value in
    let digits = IsOk-decode_sized c.args.text.now 20 in
    (λ h. digits.0 (written.0 h), λ h. written.1 (digits.1 h))
