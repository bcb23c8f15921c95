use Rattle.std.proofs.Common.{◌≤◌, ◌+◌, [], length, drop, get_or, refl, sym, ap, subst, arith, List}
use Rattle.git_objects.specs.declared.name.Name.{Name}
use Rattle.filter_text.specs.Shapes.{shape}
use Rattle.merge_laws.specs.MergeVerdicts.{begun}
use Rattle.projection_ground.specs.Grounds.{commits_of}
use Rattle.fast_import.specs.declared.replayed.Made.{Made}
use Rattle.merge_push.specs.Places.{Places}
use Rattle.merge_push.proofs.Runs.{IsUpTo, left-none, next-first, no_one, run-at, run-end, run-more, run-refused, run-widens, up-to-none}
use Rattle.merge_push.proofs.Starting.{progress-start}
use Rattle.merge_push.proofs.commits.originals_upon.Goals as goal

pub loop-pushed-init : goal.loop-pushed-init
loop-pushed-init c = record {
  number = refl;
  run = λ cs k.
      let f = shape c.args.filter.now in
      let os = c.args.origins.now in
      let g = c.args.ground.now in
      let n = c.args.head.now.0 in
      let s = begun g.rule f (commits_of g) n in
      subst (λ (ns : List Name). IsUpTo f os s cs g g ns c.in-Some.place c.new.result 0 c.args.commits.now) (sym c.new-names.ensures.items)
      (subst (λ (es : Places). IsUpTo f os s cs g g [] c.in-Some.place es 0 c.args.commits.now) (sym c.new.ensures)
      (up-to-none f os s cs g c.in-Some.place c.args.commits.now (progress-start f os g c.requires.ground c.requires.kept c.requires.map c.requires.origins n c.in-Some.place c.in-Some.ensures.place) k.standing k.read_again k.joined));
}

pub add_original-requires-clause-next : goal.add_original-requires-clause-next
add_original-requires-clause-next c =
    let f = shape c.args.filter.now in
    let os = c.args.origins.now in
    let g = c.args.ground.now in
    let l = c.loop-pushed in
    let w = c.requires.commits in
    let s = begun g.rule f (commits_of g) c.args.head.now.0 in
    let m = get_or c.args.commits.now l.pushed-index no_one in
    let left = drop (l.pushed-index + 1) c.args.commits.now in
    let u = run-at f os s w.0 g l.ground l.names.items l.progress.before l.progress.entered l.pushed-index c.args.commits.now l.pushed-index c.loop-pushed-test.true (l.invariant.run w.0 w.1) in
    let a = next-first f os s w.0 g l.ground l.names.items l.progress.before l.progress.entered l.pushed-index m left u in
    (u.state, a.commit, a.next)

pub loop-pushed-preserved : goal.loop-pushed-preserved
loop-pushed-preserved c =
    let f = shape c.args.filter.now in
    let os = c.args.origins.now in
    let g = c.args.ground.now in
    let l = c.loop-pushed in
    let s = begun g.rule f (commits_of g) c.args.head.now.0 in
    let m = get_or c.args.commits.now l.pushed-index no_one in
    let left = drop (l.pushed-index + 1) c.args.commits.now in
    record {
      number = omega arith;
      run = λ cs q.
          let u = run-at f os s cs g l.ground l.names.items l.progress.before l.progress.entered l.pushed-index c.args.commits.now l.pushed-index c.loop-pushed-test.true (l.invariant.run cs q) in
          let a = next-first f os s cs g l.ground l.names.items l.progress.before l.progress.entered l.pushed-index m left u in
          run-more f os s cs g l.ground l.names.items l.progress.before l.progress.entered l.pushed-index m left u c.add_original.new.ground c.add_original.new.progress.before c.add_original.new.progress.entered c.add_original.new.names.items c.add_original.result
          (c.add_original.ensures u.state a.commit a.next) c.in-Ok.is;
    }

pub returns-in-Err-clause-worked : goal.returns-in-Err-clause-worked
returns-in-Err-clause-worked c = λ cs q.
    let f = shape c.args.filter.now in
    let os = c.args.origins.now in
    let g = c.args.ground.now in
    let l = c.loop-pushed in
    let s = begun g.rule f (commits_of g) c.args.head.now.0 in
    let m = get_or c.args.commits.now l.pushed-index no_one in
    let left = drop (l.pushed-index + 1) c.args.commits.now in
    let u = run-at f os s cs g l.ground l.names.items l.progress.before l.progress.entered l.pushed-index c.args.commits.now l.pushed-index c.loop-pushed-test.true (l.invariant.run cs q) in
    let a = next-first f os s cs g l.ground l.names.items l.progress.before l.progress.entered l.pushed-index m left u in
    record {
      ok = tt;
      err = run-refused f os s cs g l.ground l.names.items l.progress.before l.progress.entered l.pushed-index m left u c.add_original.new.ground c.add_original.new.progress.before c.add_original.new.progress.entered c.add_original.new.names.items c.add_original.result
          (c.add_original.ensures u.state a.commit a.next) c.in-Err.refusal (l.n + 1) (ap (λ i. i + 1) l.invariant.number) c.in-Err.is;
    }

pub returns-in-Err-clause-same : goal.returns-in-Err-clause-same
returns-in-Err-clause-same c = λ cs q.
    let f = shape c.args.filter.now in
    let os = c.args.origins.now in
    let g = c.args.ground.now in
    let l = c.loop-pushed in
    let s = begun g.rule f (commits_of g) c.args.head.now.0 in
    let m = get_or c.args.commits.now l.pushed-index no_one in
    let left = drop (l.pushed-index + 1) c.args.commits.now in
    let u = run-at f os s cs g l.ground l.names.items l.progress.before l.progress.entered l.pushed-index c.args.commits.now l.pushed-index c.loop-pushed-test.true (l.invariant.run cs q) in
    let a = next-first f os s cs g l.ground l.names.items l.progress.before l.progress.entered l.pushed-index m left u in
    run-widens f os s cs g l.ground l.names.items l.progress.before l.progress.entered l.pushed-index m left u c.add_original.new.ground c.add_original.new.progress.before c.add_original.new.progress.entered c.add_original.new.names.items c.add_original.result
    (c.add_original.ensures u.state a.commit a.next)

pub returns-clause-worked : goal.returns-clause-worked
returns-clause-worked c = λ cs q.
    let f = shape c.args.filter.now in
    let os = c.args.origins.now in
    let g = c.args.ground.now in
    let l = c.loop-pushed in
    let s = begun g.rule f (commits_of g) c.args.head.now.0 in
    let end : length c.args.commits.now ≤ l.pushed-index = let z = c.loop-pushed-test.false in omega (arith, z) in
    record {
      ok = run-end f os s cs g l.ground l.names.items l.progress.before l.progress.entered l.pushed-index
          (subst (λ (ms : List Made). IsUpTo f os s cs g l.ground l.names.items l.progress.before l.progress.entered l.pushed-index ms) (left-none c.args.commits.now l.pushed-index end) (l.invariant.run cs q));
      err = tt;
    }

pub returns-clause-same : goal.returns-clause-same
returns-clause-same c = λ cs q. (c.loop-pushed.invariant.run cs q).same
