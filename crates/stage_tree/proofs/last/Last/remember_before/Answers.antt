use Rattle.std.proofs.Common.{◌≡◌, length, take, ap, subst, sym, ◌∙◌, arith}
use Rattle.stage_tree.specs.Sets.{IsChildOf}
use Rattle.stage_tree.proofs.Setting.{remembered}
use Rattle.stage_tree.proofs.Starts.{directory_popped, sibling_before}
use Rattle.stage_tree.proofs.last.Last.remember_before.Goals as goal

pub returns-in-Next : goal.returns-in-Next
returns-in-Next c = λ s fs X whole path numbers link.
    let p = c.args.components.now in
    let ns = c.args.self.now.numbers.items in
    let new = c.remember.new.self in
    remembered s new.child new.directory.items _ new.numbers.items ns c.in-Next.number c.remember.ensures.child (ap (λ n. n.items) c.remember.ensures.numbers)
    (sibling_before s fs X whole p ns c.args.way.level path numbers c.in-Next.number (sym c.in-Next.is ∙ link))

pub returns-in-Some : goal.returns-in-Some
returns-in-Some c = λ s fs X whole path numbers link.
    let p = c.args.components.now in
    let ns = c.args.self.now.numbers.items in
    let ms = c.pop.new.self.items in
    let k = c.in-Some.number in
    let new = c.remember-in-Some.new.self in
    let l = c.len-above.ensures in
    let n = c.pop.new.self.ok in
    let same : length ms ≡ c.len-above.result = omega (arith, l, n) in
    let level = c.requires.level in
    let h : IsChildOf s (take c.len-above.result p) ms k = subst (λ i. IsChildOf s (take i p) ms k) same (directory_popped s fs X whole p ns c.args.way.level path numbers (omega (arith, level)) ms k c.in-Some.ensures.items) in
    remembered s new.child new.directory.items _ new.numbers.items ms k c.remember-in-Some.ensures.child (ap (λ n. n.items) c.remember-in-Some.ensures.numbers) h
