use Rattle.std.proofs.Common.{sym}
use Rattle.filter_text.specs.Shapes.{shape}
use Rattle.filter_cache.specs.Memos.{Key, same_key}
use Rattle.filter_cache.proofs.Lookups.{key-is}
use Rattle.filter_apply.proofs.Truths.{after_get, after_put, true_less, keeps_less, true_more, keeps_more, keeps_then, in-found, paid_same, shown-now}
use Rattle.filter_apply.proofs.showing.shown.Goals as goal

pub returns-in-Some-clause-ok : goal.returns-in-Some-clause-ok
returns-in-Some-clause-ok g c =
    let k : Key = ((c.args.id, 0), c.args.root.0) in
    (c.requires.memo.whole c.args.root.0 c.in-Some.name.0 (in-found same_key key-is k c.args.memo.now.entries c.in-Some.name.0 (sym c.in-Some.ensures.found))).seen

pub returns-in-Some-clause-true_now : goal.returns-in-Some-clause-true_now
returns-in-Some-clause-true_now g c =
    let k : Key = ((c.args.id, 0), c.args.root.0) in
    true_less c.args.table.now c.args.id c.args.store.now c.args.memo.now c.get.new.self (after_get c.args.memo.now c.get.new.self k c.get.ensures.used) c.requires.memo

pub returns-in-Some-clause-others : goal.returns-in-Some-clause-others
returns-in-Some-clause-others g c =
    let k : Key = ((c.args.id, 0), c.args.root.0) in
    keeps_less c.args.id c.args.memo.now c.get.new.self (after_get c.args.memo.now c.get.new.self k c.get.ensures.used)

pub returns-in-Some-clause-few : goal.returns-in-Some-clause-few
returns-in-Some-clause-few g c = paid_same (shape c.args.table.now.filter) c.args.steps.now

pub made-requires-clause-memo : goal.made-requires-clause-memo
made-requires-clause-memo g c =
    let k : Key = ((c.args.id, 0), c.args.root.0) in
    true_less c.args.table.now c.args.id c.args.store.now c.args.memo.now c.get.new.self (after_get c.args.memo.now c.get.new.self k c.get.ensures.used) c.requires.memo

pub returns-in_err-name-clause-others : goal.returns-in_err-name-clause-others
returns-in_err-name-clause-others g c =
    let k : Key = ((c.args.id, 0), c.args.root.0) in
    keeps_then c.args.id c.args.memo.now c.get.new.self c.made.new.memo
    (keeps_less c.args.id c.args.memo.now c.get.new.self (after_get c.args.memo.now c.get.new.self k c.get.ensures.used)) c.in_err-name.ensures.others

pub returns-clause-true_now : goal.returns-clause-true_now
returns-clause-true_now g c =
    let S = c.args.store.now in
    let S1 = c.made.new.store in
    let k : Key = ((c.args.id, 0), c.args.root.0) in
    let name = c.in_ok-name.name.0 in
    true_more c.args.table.now c.args.id S1 c.args.root.0 name c.made.new.memo c.put.new.self (after_put c.made.new.memo c.put.new.self k name c.put.ensures.entered)
    (shown-now S S1 c.in_ok-name.ensures.store c.args.table.now c.args.root.0 name c.requires.root c.in_ok-name.ensures.ok) c.in_ok-name.ensures.true_now

pub returns-clause-others : goal.returns-clause-others
returns-clause-others g c =
    let k : Key = ((c.args.id, 0), c.args.root.0) in
    let name = c.in_ok-name.name.0 in
    keeps_then c.args.id c.args.memo.now c.get.new.self c.put.new.self
    (keeps_less c.args.id c.args.memo.now c.get.new.self (after_get c.args.memo.now c.get.new.self k c.get.ensures.used))
    (keeps_then c.args.id c.get.new.self c.made.new.memo c.put.new.self c.in_ok-name.ensures.others
    (keeps_more c.args.id 0 c.args.root.0 name c.made.new.memo c.put.new.self (after_put c.made.new.memo c.put.new.self k name c.put.ensures.entered)))
