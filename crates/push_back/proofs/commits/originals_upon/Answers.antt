use Rattle.std.proofs.Common.{◌≤◌, ◌+◌, [], length, drop, get_or, refl, sym, ap, subst, arith, List}
use Rattle.git_objects.specs.declared.name.Name.{Name}
use Rattle.object_store.specs.Unfolding.{flat}
use Rattle.filter_text.specs.Shapes.{shape}
use Rattle.fast_import.specs.declared.replayed.Made.{Made}
use Rattle.push_back.proofs.Runs.{IsUpTo, left-none, more-base, more-head, more-seen, next-first, run-at, run-end, run-grows, run-more, run-refused, up-to-none}
use Rattle.push_back.proofs.commits.originals_upon.Goals as goal

pub loop-pushed-init : goal.loop-pushed-init
loop-pushed-init c = record {
  number = refl;
  ground = c.requires.ground;
  head = c.requires.head;
  base = c.requires.base;
  seen = c.requires.seen;
  run = λ cs k.
      let g = c.args.ground.now in
      subst (λ (ns : List Name). IsUpTo (shape c.args.filter.now) c.args.head.name.0 (flat g.store c.args.head.tree.0) (flat g.store c.args.seen.0) cs g g ns c.args.head c.args.seen 0 c.args.commits.now) (sym c.new-names.ensures.items)
      (up-to-none (shape c.args.filter.now) cs c.args.ground.now c.args.head c.args.seen c.args.commits.now c.requires.ground k);
}

pub add_original-requires-clause-pushed : goal.add_original-requires-clause-pushed
add_original-requires-clause-pushed c =
    let g = c.args.ground.now in
    let l = c.loop-pushed in
    let w = c.requires.commits in
    let f = shape c.args.filter.now in
    let m = get_or c.args.commits.now l.pushed-index (record { name = record { 0 = [] }; tree = record { 0 = [] } }) in
    let h = c.args.head.name.0 in
    let t = flat g.store c.args.head.tree.0 in
    let s = flat g.store c.args.seen.0 in
    let left = drop (l.pushed-index + 1) c.args.commits.now in
    let u = run-at f h t s w.0 g l.ground l.names.items l.before l.shown l.pushed-index c.args.commits.now l.pushed-index c.loop-pushed-test.true (l.invariant.run w.0 w.1) in
    let a = next-first f h t s w.0 g l.ground l.names.items l.before l.shown l.pushed-index m left u in
    (a.commit, a.stands)

pub loop-pushed-preserved : goal.loop-pushed-preserved
loop-pushed-preserved c =
    let g = c.args.ground.now in
    let l = c.loop-pushed in
    let k' = c.add_original.new.ground in
    let w = c.requires.commits in
    let f = shape c.args.filter.now in
    let m = get_or c.args.commits.now l.pushed-index (record { name = record { 0 = [] }; tree = record { 0 = [] } }) in
    let h = c.args.head.name.0 in
    let t = flat g.store c.args.head.tree.0 in
    let s = flat g.store c.args.seen.0 in
    let left = drop (l.pushed-index + 1) c.args.commits.now in
    let u = run-at f h t s w.0 g l.ground l.names.items l.before l.shown l.pushed-index c.args.commits.now l.pushed-index c.loop-pushed-test.true (l.invariant.run w.0 w.1) in
    let a = next-first f h t s w.0 g l.ground l.names.items l.before l.shown l.pushed-index m left u in
    let o = c.add_original.ensures.original a.commit a.stands in
    record {
      number = omega arith;
      ground = o.same.extends.ground;
      head = more-head f h t s w.0 g l.ground l.names.items l.before l.shown l.pushed-index m left u k' c.add_original.result o c.in-Ok.made c.in-Ok.is;
      base = more-base f h t s w.0 g l.ground l.names.items l.before l.shown l.pushed-index m left u k' c.add_original.result o c.in-Ok.made c.in-Ok.is;
      seen = more-seen f h t s w.0 g l.ground l.names.items l.before l.shown l.pushed-index m left u k' c.add_original.result o c.in-Ok.made c.in-Ok.is;
      run = λ cs q.
          let v = run-at f h t s cs g l.ground l.names.items l.before l.shown l.pushed-index c.args.commits.now l.pushed-index c.loop-pushed-test.true (l.invariant.run cs q) in
          let b = next-first f h t s cs g l.ground l.names.items l.before l.shown l.pushed-index m left v in
          subst (λ (ns : List Name). IsUpTo f h t s cs g k' ns c.in-Ok.made m.tree (l.pushed-index + 1) left) (sym c.in-Ok.ensures.names)
          (run-more f h t s cs g l.ground l.names.items l.before l.shown l.pushed-index m left v k' c.add_original.result (c.add_original.ensures.original b.commit b.stands) c.in-Ok.made c.in-Ok.is);
    }

pub returns-in-Err-clause-err : goal.returns-in-Err-clause-err
returns-in-Err-clause-err c = λ cs q.
    let g = c.args.ground.now in
    let l = c.loop-pushed in
    let f = shape c.args.filter.now in
    let m = get_or c.args.commits.now l.pushed-index (record { name = record { 0 = [] }; tree = record { 0 = [] } }) in
    let h = c.args.head.name.0 in
    let t = flat g.store c.args.head.tree.0 in
    let s = flat g.store c.args.seen.0 in
    let left = drop (l.pushed-index + 1) c.args.commits.now in
    let v = run-at f h t s cs g l.ground l.names.items l.before l.shown l.pushed-index c.args.commits.now l.pushed-index c.loop-pushed-test.true (l.invariant.run cs q) in
    let b = next-first f h t s cs g l.ground l.names.items l.before l.shown l.pushed-index m left v in
    run-refused f h t s cs g l.ground l.names.items l.before l.shown l.pushed-index m left v c.add_original.new.ground c.add_original.result (c.add_original.ensures.original b.commit b.stands) c.in-Err.refusal (l.n + 1) (ap (λ i. i + 1) l.invariant.number) c.in-Err.is

pub returns-in-Err-clause-same : goal.returns-in-Err-clause-same
returns-in-Err-clause-same c = λ cs q.
    let g = c.args.ground.now in
    let l = c.loop-pushed in
    let f = shape c.args.filter.now in
    let m = get_or c.args.commits.now l.pushed-index (record { name = record { 0 = [] }; tree = record { 0 = [] } }) in
    let h = c.args.head.name.0 in
    let t = flat g.store c.args.head.tree.0 in
    let s = flat g.store c.args.seen.0 in
    let left = drop (l.pushed-index + 1) c.args.commits.now in
    let v = run-at f h t s cs g l.ground l.names.items l.before l.shown l.pushed-index c.args.commits.now l.pushed-index c.loop-pushed-test.true (l.invariant.run cs q) in
    let b = next-first f h t s cs g l.ground l.names.items l.before l.shown l.pushed-index m left v in
    run-grows f h t s cs g l.ground l.names.items l.before l.shown l.pushed-index m left v c.add_original.new.ground c.add_original.result (c.add_original.ensures.original b.commit b.stands)

pub returns-clause-ok : goal.returns-clause-ok
returns-clause-ok c = λ cs q.
    let g = c.args.ground.now in
    let l = c.loop-pushed in
    let end : length c.args.commits.now ≤ l.pushed-index = let z = c.loop-pushed-test.false in omega (arith, z) in
    let f = shape c.args.filter.now in
    let h = c.args.head.name.0 in
    let t = flat g.store c.args.head.tree.0 in
    let s = flat g.store c.args.seen.0 in
    run-end f h t s cs g l.ground l.names.items l.before l.shown l.pushed-index
    (subst (λ (ms : List Made). IsUpTo f h t s cs g l.ground l.names.items l.before l.shown l.pushed-index ms) (left-none c.args.commits.now l.pushed-index end) (l.invariant.run cs q))

pub returns-clause-same : goal.returns-clause-same
returns-clause-same c = λ cs q. (c.loop-pushed.invariant.run cs q).same
