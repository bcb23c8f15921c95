use Rattle.std.proofs.Common.{◌≡◌, length, nat_eq, ap, arith}
use Rattle.git_objects.proofs.Basics.{and_both}
use Rattle.git_objects.proofs.name.Name.bytes.Goals as goal

pub returns-clause-name : goal.returns-clause-name
returns-clause-name c =
    let long : length c.args.self.now.0 ≡ 20 = omega arith in
    and_both c.in_range.ensures.bytes (ap (λ n. nat_eq n 20) long)
