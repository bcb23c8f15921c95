use Rattle.std.proofs.Common.{◌≡◌, ◌∙◌, ◌+◌, ◌-◌, length, drop, ap, sym, subst, arith, length-drop}
use Rattle.git_objects.specs.Paths.{Bytes}
use Rattle.stream_lex.specs.Lines.{Input, HasNone}
use Rattle.stream_lex.proofs.Passing.{at_offset, given_up, past_along}
use Rattle.stream_lex.proofs.lexer.Lexer.give_up.Goals as goal

pub invariant_of-self : goal.invariant_of-self
invariant_of-self c =
    let l = c.self.inside in
    let left = c.drop_front.new.bytes.items in
    let kept : left ≡ drop l.used l.bytes.items = c.drop_front.ensures in
    let start = given_up l.base l.bytes.items l.used 0 l.used (omega arith) ∙ ap (λ (b : Bytes). at_offset (l.base + l.used) b 0) (sym kept) in
    let further = given_up l.base l.bytes.items l.used (l.from - l.used) l.from (omega (arith, c.self.invariant.order))
    ∙ ap (λ (b : Bytes). at_offset (l.base + l.used) b (l.from - l.used)) (sym kept) in
    record {
      order = omega arith;
      room = omega (arith, c.self.invariant.order, c.self.invariant.room, ap length kept, length-drop l.used l.bytes.items);
      within = omega (arith, c.self.invariant.order, c.self.invariant.within);
      past = past_along start further c.self.invariant.past;
      clear = subst (λ t. HasNone t l.clear) (ap (λ (i : Input). i.rest) further) c.self.invariant.clear;
    }
