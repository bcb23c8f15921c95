-- Proves what src/deliver.rt needs of `put_head`.
use Rattle.std.proofs.Common.{◌≡◌, ◌≤◌, ◌<◌, ◌^◌, ◌∙◌, ◌++◌, [], ◌∷◌, ℕ, sym, drop, length, ap, arith, rules}
use Rattle.std.specs.Prelude.{codes}
use Rattle.std.specs.Fmt.{decimal}
use Rattle.std.proofs.Math.Seq.{drop-length}
use Rattle.std.proofs.lemmas.Fmt.{length-decimal-le}
use Rattle.git_objects.specs.Paths.{Bytes}
use Rattle.proj_cli.proofs.Pieces.{head-joined}
use Rattle.proj_cli.proofs.deliver.put_head.Goals as goal

-- a number of 64 bits has at most 20 digits
many_digits : (n : ℕ) → n < 2 ^ 64 → length (decimal n) ≤ 20
many_digits n h = length-decimal-le 20 n (omega arith) (omega arith) h

-- a number of 8 bits has at most 3
few_digits : (n : ℕ) → n < 2 ^ 8 → length (decimal n) ≤ 3
few_digits n h = length-decimal-le 3 n (omega arith) (omega (arith, h)) (omega (arith, h))

pub write_digits-end-requires : goal.write_digits-end-requires
write_digits-end-requires c =
    let many = many_digits c.args.len (search rules) in
    let end = c.put_before-end.ensures in
    (omega (arith, many, end.start), omega (arith, end.start, end.length, c.requires))

pub put_before-end-requires-2-clause-word : goal.put_before-end-requires-2-clause-word
put_before-end-requires-2-clause-word c = omega (arith, many_digits c.args.len (search rules), c.put_before-end.ensures.start, c.write_digits-end.ensures.start)

pub write_digits-end-requires-2 : goal.write_digits-end-requires-2
write_digits-end-requires-2 c =
    let many = many_digits c.args.len (search rules) in
    let few : length (decimal c.from.result) ≤ 3 = few_digits c.from.result (search rules) in
    let end = c.put_before-end-2.ensures in
    (omega (arith, many, few, c.put_before-end.ensures.start, c.write_digits-end.ensures.start, end.start), search rules)

pub put_before-requires-clause-word : goal.put_before-requires-clause-word
put_before-requires-clause-word c =
    let few : length (decimal c.from.result) ≤ 3 = few_digits c.from.result (search rules) in
    omega (arith, many_digits c.args.len (search rules), few, c.put_before-end.ensures.start, c.write_digits-end.ensures.start, c.put_before-end-2.ensures.start, c.write_digits-end-2.ensures.start)

pub returns-clause-written : goal.returns-clause-written
returns-clause-written c =
    let none : drop 38 c.args.buffer.now ≡ [] = ap (λ (n : ℕ). drop n c.args.buffer.now) (sym c.requires) ∙ drop-length c.args.buffer.now in
    c.put_before.ensures.written
    ∙ ap (λ (t : Bytes). codes "status " ++ t) (c.write_digits-end-2.ensures.written
    ∙ ap (λ (t : Bytes). decimal c.from.result ++ t) (c.put_before-end-2.ensures.written
    ∙ ap (λ (t : Bytes). codes "\nbytes " ++ t) (c.write_digits-end.ensures.written
    ∙ ap (λ (t : Bytes). decimal c.args.len ++ t) (c.put_before-end.ensures.written ∙ ap (λ (t : Bytes). 10 ∷ t) none))))
    ∙ head-joined (decimal c.from.result) (decimal c.args.len)
    ∙ ap (λ (n : ℕ). codes "status " ++ decimal n ++ codes "\nbytes " ++ decimal c.args.len ++ 10 ∷ []) (c.from.ensures ∙ c.outcome_code.ensures)
