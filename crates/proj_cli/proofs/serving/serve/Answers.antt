use Rattle.std.proofs.Common.{◌≡◌, ◌≢◌, ℕ, List, [], map, string_bytes, inl, sym, ap, subst, ◌∙◌, arith}
use Rattle.git_objects.specs.Paths.{Bytes}
use Rattle.proj_io.specs.Stops.{OnlyAdds, adds_on}
use Rattle.proj_io.specs.Views.{source_view, sink_view}
use Rattle.proj_disk.specs.Disks.{DiskView}
use Rattle.proj_journal.specs.Journals.{ListsLeft, disk_of, items_counted, items_of, number_of}
use Rattle.proj_journal.specs.Spelling.{listed}
use Rattle.proj_words.specs.Outcomes.{code_of}
use Rattle.proj_words.specs.Words.{command}
use Rattle.proj_cli.specs.Stopped.{IsBetween, OnlyGrows}
use Rattle.proj_cli.specs.Served.{IsServed, IsWhole, LeavesKind, LeavesWhole, error_code, seen}
use Rattle.proj_cli.proofs.DiskLists.{lists_add, run_fronts, run_stops, settled_steady, steady_stops, steady_whole, told_begun, unopened_grows, unopened_left, unopened_stops, whole_some}
use Rattle.proj_cli.proofs.Lengthening.{for-later}
use Rattle.proj_cli.proofs.Lifting.{ran_on}
use Rattle.proj_cli.proofs.serving.serve.Goals as goal
use Rattle.proj_commands.specs.Inputs.{ForInput}
use Rattle.fast_import.proofs.Stopping.{within_none}

pub returns-in-Ok-clause-served : goal.returns-in-Ok-clause-served
returns-in-Ok-clause-served g c =
    let asked = command (map (λ word. string_bytes word) c.args.words.now) in
    let at = seen g.S.Source.left g.S.Source.faults g.O.Sink.written g.O.Sink.faults g.O.Sink.refusals g.E.Sink.written g.E.Sink.faults g.E.Sink.refusals g.D.Disk.content g.D.Disk.faults in
    let read = source_view g.S.Source.left g.S.Source.faults in
    let shown = sink_view g.O.Sink.written g.O.Sink.faults g.O.Sink.refusals in
    let heard = sink_view g.E.Sink.written g.E.Sink.faults g.E.Sink.refusals in
    let content = g.D.Disk.content in
    let journal = c.in-Ok.journal in
    let store = c.run-outcome.new.store in
    let ran = c.run-outcome in
    let end = disk_of store in
    subst (λ (disk : _). IsServed asked (ran.new.input ≡ c.args.input.now × ran.new.out ≡ c.args.out.now) (at c.args.input.now c.args.out.now c.args.err.now c.args.disk) (at ran.new.input ran.new.out ran.new.err disk) c.outcome_code.result)
    (sym c.into_disk.ensures)
    (inl (ran_on asked (read c.args.input.now) (read ran.new.input) (shown c.args.out.now) (shown ran.new.out) (heard c.args.err.now) (heard ran.new.err) (content c.args.disk) (content journal.disk) (content end)
    (g.D.Disk.faults c.args.disk) (g.D.Disk.faults journal.disk) (g.D.Disk.faults end) (number_of (content journal.disk) journal.places.items) (number_of (content end) store.places.items) ran.result c.in-Ok.ensures.items
    c.outcome_code.result c.outcome_code.ensures c.in-Ok.ensures.list c.in-Ok.ensures.fresh c.in-Ok.ensures.cause (items_counted (content journal.disk) journal.places.items) (items_counted (content end) store.places.items)
    ran.ensures.answer (λ no_load. ap (λ s. content (disk_of s)) (ran.ensures.untouched.1 no_load))
    (λ one refused. ap (λ s. content (disk_of s)) (ran.ensures.unjudged one refused).1) (λ unknown. (ran.ensures.idle unknown).1) ran.ensures.text
    (λ no_fault. settled_steady (content end) (g.D.Disk.moment end) (g.D.Disk.left_since end) (λ image is. g.met.D.Disk.counts_now end (g.D.Disk.moment end) image (omega arith) is) (ran.ensures.settled no_fault).1)))

pub returns-in-Ok-clause-stops : goal.returns-in-Ok-clause-stops
returns-in-Ok-clause-stops g c view told whole =
    let asked = command (map (λ word. string_bytes word) c.args.words.now) in
    let d = c.args.disk in
    let m = g.D.Disk.moment in
    let left = g.D.Disk.left_since in
    let j = disk_of c.in-Ok.journal in
    let end = disk_of c.run-outcome.new.store in
    let items = listed view.bytes in
    let still = c.in-Ok.ensures.items ∙ ap items_of told in
    subst (λ (disk : _). ForInput (g.S.Source.left c.args.input.now) (λ all. (image : List ℕ) → left disk (m d) image → LeavesWhole asked all view image)) (sym c.into_disk.ensures)
    (run_stops (g.S.Source.left c.args.input.now) asked view (g.D.Disk.content d) told whole (m d) (m j) (left d) (left j) (λ image was. g.met.D.Disk.only_now d image was)
    (c.in-Ok.ensures.stops view told (whole_some (g.D.Disk.content d) view told (g.met.D.Disk.reads d) whole)) (m end) (left end) (for-later _ _ _ (λ all says. says.1) (c.run-outcome.ensures.stops items still)))

pub returns-in-Ok-clause-steady : goal.returns-in-Ok-clause-steady
returns-in-Ok-clause-steady g c view told steady =
    let asked = command (map (λ word. string_bytes word) c.args.words.now) in
    steady_stops (g.S.Source.left c.args.input.now) asked view _ steady (returns-in-Ok-clause-stops g c view told (steady_whole view steady))

pub returns-in-Err-clause-stops : goal.returns-in-Err-clause-stops
returns-in-Err-clause-stops g c view told whole =
    let asked = command (map (λ word. string_bytes word) c.args.words.now) in
    let d = c.args.disk in
    let m = g.D.Disk.moment in
    let left = g.D.Disk.left_since in
    unopened_stops (g.S.Source.left c.args.input.now) asked view (g.D.Disk.content d) told whole (m d) _ (left d) _ (λ image was. g.met.D.Disk.only_now d image was)
    (c.in-Err.ensures.stops view told (whole_some (g.D.Disk.content d) view told (g.met.D.Disk.reads d) whole))

pub returns-in-Err-clause-steady : goal.returns-in-Err-clause-steady
returns-in-Err-clause-steady g c view told steady =
    let asked = command (map (λ word. string_bytes word) c.args.words.now) in
    steady_stops (g.S.Source.left c.args.input.now) asked view _ steady (returns-in-Err-clause-stops g c view told (steady_whole view steady))

-- what a stop leaves of a kind of lists: since the call began, and since an earlier moment
abbrev Fronts : DiskView → ℕ → ℕ → (ℕ → List ℕ → Type 0) → (ℕ → List ℕ → Type 0) → (List Bytes → Type 0) → Type 0
Fronts view before now past since Kind =
    (IsWhole view → (image : List ℕ) → since before image → LeavesKind Kind view image) × (view.bytes ≢ [] → OnlyAdds before now (ListsLeft past) (ListsLeft since) Kind)

pub returns-in-Ok-clause-fronts : goal.returns-in-Ok-clause-fronts
returns-in-Ok-clause-fronts g c view told apart =
    let asked = command (map (λ word. string_bytes word) c.args.words.now) in
    let d = c.args.disk in
    let m = g.D.Disk.moment in
    let left = g.D.Disk.left_since in
    let content = g.D.Disk.content in
    let j = disk_of c.in-Ok.journal in
    let end = disk_of c.run-outcome.new.store in
    let items = listed view.bytes in
    let still = c.in-Ok.ensures.items ∙ ap items_of told in
    let grows = c.run-outcome.ensures.fronts items still (λ fault. apart (c.outcome_code.ensures ∙ ap code_of fault)) in
    subst (λ (disk : _). OnlyGrows items (items_of (content disk)) (Fronts view (m d) (m disk) (left d) (left disk))) (sym c.into_disk.ensures)
    (record {
      all = grows.all;
      told = grows.told;
      behind = grows.behind;
      stops = (
        (λ whole.
            run_fronts (g.S.Source.left c.args.input.now) asked view (content d) told whole (m d) (m j) (left d) (left j) (λ image was. g.met.D.Disk.only_now d image was)
            (c.in-Ok.ensures.stops view told (whole_some (content d) view told (g.met.D.Disk.reads d) whole)) (m end) (left end) grows.all grows.stops.1),
        (λ some.
            adds_on (m d) (m j) (m end) (ListsLeft (left d)) (ListsLeft (left j)) (ListsLeft (left end)) (IsBetween items grows.all)
            (lists_add (m d) (m j) (left d) (left j) (IsBetween items grows.all) (c.in-Ok.ensures.stops view told some)) grows.stops.1),
      );
    })

pub returns-in-Err-clause-fronts : goal.returns-in-Err-clause-fronts
returns-in-Err-clause-fronts g c view told apart =
    let asked = command (map (λ word. string_bytes word) c.args.words.now) in
    let d = c.args.disk in
    let m = g.D.Disk.moment in
    let left = g.D.Disk.left_since in
    let content = g.D.Disk.content in
    let none = c.in-Err.none in
    let e = c.tell_error-error.result in
    let same = IsBetween (listed view.bytes) (listed view.bytes) in
    unopened_grows (content d) (content none.disk) view e (Fronts view (m d) (m none.disk) (left d) (left none.disk)) told (λ failed. apart (c.error_code.ensures ∙ ap error_code failed)) c.in-Err.ensures.kept
    (told_begun (content d) (content none.disk) none.error e c.in-Err.ensures.why c.tell_error-error.ensures.error c.in-Err.ensures.begun) (
      (λ whole.
          unopened_left (g.S.Source.left c.args.input.now) asked view (content d) told whole (m d) (m none.disk) (left d) (left none.disk) (λ image was. g.met.D.Disk.only_now d image was)
          (c.in-Err.ensures.stops view told (whole_some (content d) view told (g.met.D.Disk.reads d) whole)) same),
      (λ some. lists_add (m d) (m none.disk) (left d) (left none.disk) same (c.in-Err.ensures.stops view told some)),
    )

-- ---- how much is taken

pub returns-in-Err-clause-within : goal.returns-in-Err-clause-within
returns-in-Err-clause-within g c = within_none (g.S.Source.left c.args.input.now)
