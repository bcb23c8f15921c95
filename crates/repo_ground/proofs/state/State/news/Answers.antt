-- Proves what src/keep.rt needs of `news`.
use Rattle.std.proofs.Common.{◌≡◌, ◌∙◌, ◌<◌, ◌++◌, Some, None, IfSome, append-nil, ap, drop, subst, sym}
use Rattle.std.specs.List.{filter_map}
use Rattle.std.specs.Option.{option_map}
use Rattle.commit_graph.specs.Graphs.{Row}
use Rattle.commit_map.specs.Shown.{Entries, entry_value, entry_values}
use Rattle.repo_ground.specs.Contents.{Contents}
use Rattle.repo_ground.specs.Keeping.{new_entries, new_entry}
use Rattle.repo_ground.specs.contracts.state.State.{the_view}
use Rattle.repo_ground.proofs.FreshPlaces.{news-from}
use Rattle.repo_ground.proofs.Keeping.{news-more, row-at}
use Rattle.repo_ground.proofs.state.State.news.Goals as goal
use Rattle.repo_ground.proofs.state.State.news.Goals.{in-None, in-Some+in_ok-push-in-Some}

pub loop-place-init : goal.loop-place-init
loop-place-init c =
    let s : Contents = the_view c.self.inside in
    let low = c.lowest-place.result in
    ap (λ (es : Entries). es ++ filter_map (new_entry s) (drop low s.basis.graph)) (ap entry_values c.new-news.ensures.items)
    ∙ subst (λ (x : Contents). filter_map (new_entry x) (drop low x.basis.graph) ≡ new_entries x) (sym c.self.view_is)
    (news-from c.args.self.now c.in_ok-fresh.fresh low c.in_ok-fresh.ensures c.lowest-place.ensures.before)

pub loop-place-preserved : goal.loop-place-preserved
loop-place-preserved c =
    let s : Contents = the_view c.self.inside in
    let at = row-at s.basis.graph c.loop-place.place (subst (λ k. c.loop-place.place < k) c.len-place-end.ensures.len c.loop-place-test.true) in
    let r : Row = at.0 in
    let named : c.name-name.result.0 ≡ r.name = subst (λ o. IfSome o (λ (x : Row). c.name-name.result.0 ≡ x.name)) at.1 c.name-name.ensures in
    let entry : option_map entry_value c.new_entry.result ≡ new_entry s r = c.new_entry.ensures r named ∙ ap (λ (x : Contents). new_entry x r) (sym c.self.view_is) in
    let xs = c.loop-place.news.items in
    elim c.match-new_entry.branch [
      | in-None w ↦ rw w.news-is
          (news-more s c.loop-place.place r xs xs None (new_entries s) c.loop-place.invariant at.1 (ap (λ o. option_map entry_value o) (sym w.in-None.is) ∙ entry) (sym (append-nil xs)))
      | in-Some+in_ok-push-in-Some w ↦ rw w.news-is
          (news-more s c.loop-place.place r xs w.push.new.self.items (Some w.in-Some.entry) (new_entries s) c.loop-place.invariant at.1
          (ap (λ o. option_map entry_value o) (sym w.in-Some.is) ∙ entry) w.in_ok-push-in-Some.ensures.items)
    ]
