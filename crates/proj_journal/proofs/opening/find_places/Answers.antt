use Rattle.std.proofs.Common.{◌≡◌, inl, inr, ℕ, [], sym, ◌∙◌, subst}
use Rattle.std.specs.Prelude.{IfSome, IsTrue, ◌↔◌, take}
use Rattle.std.specs.declared.option.Option.{Option}
use Rattle.proj_disk.specs.Disks.{DiskView, stable}
use Rattle.proj_journal.specs.Spelling.{header}
use Rattle.proj_journal.specs.Journals.{IsBrokenAt, Reaches}
use Rattle.proj_journal.proofs.Reached.{header_reached, header_broken, settled_known, broken_before}
use Rattle.proj_journal.proofs.opening.find_places.Goals as goal

pub returns-then-not-found-clause-broken : goal.returns-then-not-found-clause-broken
returns-then-not-found-clause-broken g c place is =
    let o = g.D.Disk.content c.args.disk.now in
    let p = g.D.Disk.content c.settle.new.disk in
    let here : 0 ≡ place = cc in
    let same : g.D.Disk.content c.len.new.self ≡ p = c.in-Ok-len.ensures.same in
    let tells : IfSome p (λ d. IsTrue c.in-Ok-find_header.found ↔ (take 8 d.bytes ≡ header)) = subst (λ (v : Option DiskView). IfSome v (λ d. IsTrue c.in-Ok-find_header.found ↔ (take 8 d.bytes ≡ header))) same c.in-Ok-find_header.ensures.header in
    subst (λ (n : ℕ). IsBrokenAt n o) here (broken_before 0 o p c.in-Ok.ensures.stable (header_broken p c.in-Ok-find_header.found c.in-Ok-len.size (inl c.if-not-found.true) tells c.in-Ok-len.ensures.count))

pub returns-then-size-lt8-clause-broken : goal.returns-then-size-lt8-clause-broken
returns-then-size-lt8-clause-broken g c place is =
    let o = g.D.Disk.content c.args.disk.now in
    let p = g.D.Disk.content c.settle.new.disk in
    let here : 0 ≡ place = cc in
    let same : g.D.Disk.content c.len.new.self ≡ p = c.in-Ok-len.ensures.same in
    let tells : IfSome p (λ d. IsTrue c.in-Ok-find_header.found ↔ (take 8 d.bytes ≡ header)) = subst (λ (v : Option DiskView). IfSome v (λ d. IsTrue c.in-Ok-find_header.found ↔ (take 8 d.bytes ≡ header))) same c.in-Ok-find_header.ensures.header in
    subst (λ (n : ℕ). IsBrokenAt n o) here (broken_before 0 o p c.in-Ok.ensures.stable (header_broken p c.in-Ok-find_header.found c.in-Ok-len.size (inr c.if-size-lt8.true) tells c.in-Ok-len.ensures.count))

pub find_records-requires-clause-header : goal.find_records-requires-clause-header
find_records-requires-clause-header g c =
    let p = g.D.Disk.content c.settle.new.disk in
    let same : g.D.Disk.content c.find_header.new.disk ≡ p = c.in-Ok-find_header.ensures.same ∙ c.in-Ok-len.ensures.same in
    let settled : IfSome p (λ d. d ≡ stable d.bytes) = settled_known (g.D.Disk.content c.args.disk.now) p c.in-Ok.ensures.stable in
    let tells : IfSome p (λ d. IsTrue c.in-Ok-find_header.found ↔ (take 8 d.bytes ≡ header)) = subst (λ (v : Option DiskView). IfSome v (λ d. IsTrue c.in-Ok-find_header.found ↔ (take 8 d.bytes ≡ header))) c.in-Ok-len.ensures.same c.in-Ok-find_header.ensures.header in
    subst (λ (v : Option DiskView). Reaches 8 [] v) (sym same) (header_reached p c.in-Ok-find_header.found c.if-not-found.false tells settled)
