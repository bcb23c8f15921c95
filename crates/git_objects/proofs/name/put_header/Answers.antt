use Rattle.std.proofs.Common.{ℕ, ◌≤◌, ◌<◌, ◌^◌, length, ap, arith, rules}
use Rattle.std.specs.Fmt.{decimal}
use Rattle.std.proofs.lemmas.Fmt.{length-decimal-le}
use Rattle.git_objects.specs.Paths.{Bytes}
use Rattle.git_objects.proofs.name.put_header.Goals as goal

-- a number of 64 bits has at most 20 digits
few_digits : (n : ℕ) → n < 2 ^ 64 → length (decimal n) ≤ 20
few_digits n h = length-decimal-le 20 n (omega arith) (omega arith) h

pub write_digits-digits-requires : goal.write_digits-digits-requires
write_digits-digits-requires c =
    let few = few_digits c.args.len (search rules) in (
      omega (arith, few),
      omega (arith, ap (λ (b : Bytes). length b) c.requires),
    )

pub put_before-requires-clause-word : goal.put_before-requires-clause-word
put_before-requires-clause-word c = omega (arith, few_digits c.args.len (search rules), c.write_digits-digits.ensures.start)

pub put_before-requires-in-Tree-clause-word : goal.put_before-requires-in-Tree-clause-word
put_before-requires-in-Tree-clause-word c = omega (arith, few_digits c.args.len (search rules), c.write_digits-digits.ensures.start)

pub put_before-requires-in-Commit-clause-word : goal.put_before-requires-in-Commit-clause-word
put_before-requires-in-Commit-clause-word c = omega (arith, few_digits c.args.len (search rules), c.write_digits-digits.ensures.start)
