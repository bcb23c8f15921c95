use Rattle.std.proofs.Common.{◌≡◌, ◌+◌, ◌-◌, length, take, drop, Some, refl, inr, sym, ap, ◌∙◌, arith, length-drop}
use Rattle.std.proofs.lemmas.List.{take_rest}
use Rattle.path_names.specs.Quoting.{Plain, unquote, unquoted, behind, is_marked}
use Rattle.path_names.proofs.Quotes.{place-le-length, tail, tail-is, read_run, read_end, read_slash, read_none, read_lf, read_bad, read_byte, read_begin, read_other, read_nothing, marked_there}
use Rattle.path_names.proofs.quoting.unquote.Goals as goal

pub returns-in_default-clause-told : goal.returns-in_default-clause-told
returns-in_default-clause-told c = inr (refl, read_nothing c.args.text.now c.in_default.len_below)

pub returns-then-first-ne34-clause-told : goal.returns-then-first-ne34-clause-told
returns-then-first-ne34-clause-told c =
    inr (refl, read_other c.args.text.now c.in-len1-up.len_at_least c.if-first-ne34.true)

pub runs-init : goal.runs-init
runs-init c =
    let t = c.args.text.now in
    let k : 1 ≡ length t - length (tail t) = omega (arith, ap length (tail-is t), length-drop 1 t) in
    record {
      within = omega (arith, ap length (tail-is t), length-drop 1 t);
      told =
          read_begin t c.in-len1-up.len_at_least c.if-first-ne34.false
          ∙ (λ i. behind (sym c.new-bytes.ensures.items i) (k i) (unquoted Plain (tail t)));
    }

pub split_at-requires : goal.split_at-requires
split_at-requires c = omega (arith, place-le-length is_marked c.runs.rest.now, c.inert_len.ensures)

pub returns-in_default-more-clause-told : goal.returns-in_default-more-clause-told
returns-in_default-more-clause-told c =
    let run = read_run _ c.runs.bytes.items c.runs.rest.now _ c.inert_len.result c.split_at.result.0.now c.split_at.result.1.now _
    c.inert_len.ensures c.split_at.ensures.front c.split_at.ensures.back c.runs.invariant.told c.in-Ok.ensures.items in
    inr (refl, read_none _ _ c.split_at.result.1.now _ run c.in_default-more.len_below)

pub returns-then-mark-eq34-clause-told : goal.returns-then-mark-eq34-clause-told
returns-then-mark-eq34-clause-told c =
    let run = read_run _ c.runs.bytes.items c.runs.rest.now _ c.inert_len.result c.split_at.result.0.now c.split_at.result.1.now _
    c.inert_len.ensures c.split_at.ensures.front c.split_at.ensures.back c.runs.invariant.told c.in-Ok.ensures.items in
    let more = c.split_at.result.1.now in
    let used : length c.args.text.now - length c.runs.rest.now + c.inert_len.result + 1 ≡ length c.args.text.now - length (tail more) =
    omega (arith, ap length (tail-is more), length-drop 1 more) in
    read_end _ _ more _ run c.in-len1-up-more.len_at_least c.if-mark-eq34.true ∙ (λ i. Some (sym c.of.ensures i, used i))

pub returns-then-mark-ne92-clause-told : goal.returns-then-mark-ne92-clause-told
returns-then-mark-ne92-clause-told c =
    let run = read_run _ c.runs.bytes.items c.runs.rest.now _ c.inert_len.result c.split_at.result.0.now c.split_at.result.1.now _
    c.inert_len.ensures c.split_at.ensures.front c.split_at.ensures.back c.runs.invariant.told c.in-Ok.ensures.items in
    let marked = marked_there _ _ _ c.inert_len.ensures c.split_at.ensures.back c.in-len1-up-more.len_at_least in
    inr (refl, read_lf _ _ c.split_at.result.1.now _ run c.in-len1-up-more.len_at_least c.if-mark-eq34.false c.if-mark-ne92.true marked)

pub returns-in_default-escaped-clause-told : goal.returns-in_default-escaped-clause-told
returns-in_default-escaped-clause-told c =
    let run = read_run _ c.runs.bytes.items c.runs.rest.now _ c.inert_len.result c.split_at.result.0.now c.split_at.result.1.now _
    c.inert_len.ensures c.split_at.ensures.front c.split_at.ensures.back c.runs.invariant.told c.in-Ok.ensures.items in
    let slash = read_slash _ _ c.split_at.result.1.now _ run c.in-len1-up-more.len_at_least c.if-mark-ne92.false in
    inr (refl, read_bad (unquote c.args.text.now) c.extend_from_slice.new.self.items (tail c.split_at.result.1.now) _ slash c.in_default-escaped.ensures.byte)

pub runs-preserved : goal.runs-preserved
runs-preserved c =
    let run = read_run _ c.runs.bytes.items c.runs.rest.now _ c.inert_len.result c.split_at.result.0.now c.split_at.result.1.now _
    c.inert_len.ensures c.split_at.ensures.front c.split_at.ensures.back c.runs.invariant.told c.in-Ok.ensures.items in
    let more = c.split_at.result.1.now in
    let slash = read_slash _ _ more _ run c.in-len1-up-more.len_at_least c.if-mark-ne92.false in
    let rest_is : take (length (tail more) - c.in-Some.taken) (drop c.in-Some.taken (tail more)) ≡ drop c.in-Some.taken (tail more) = take_rest (tail more) c.in-Some.taken in
    let long : length (take (length (tail more) - c.in-Some.taken) (drop c.in-Some.taken (tail more))) + c.in-Some.taken + 1 + c.inert_len.result ≡ length c.runs.rest.now =
    omega (arith, ap length rest_is, length-drop c.in-Some.taken (tail more), ap length (tail-is more), length-drop 1 more, c.in-Some.ensures.within) in
    let used : length c.args.text.now - length c.runs.rest.now + c.inert_len.result + 1 + c.in-Some.taken
    ≡ length c.args.text.now - length (take (length (tail more) - c.in-Some.taken) (drop c.in-Some.taken (tail more))) = omega (arith, long, c.runs.invariant.within) in
    record {
      within = omega (arith, long, c.runs.invariant.within);
      told =
          read_byte _ _ (tail more) _ slash c.in-Some.byte c.in-Some.taken _ _ c.in-Some.ensures.byte c.in-Ok-push.ensures.items rest_is
          ∙ (λ i. behind c.push.new.self.items (used i) (unquoted Plain (take (length (tail more) - c.in-Some.taken) (drop c.in-Some.taken (tail more)))));
    }
