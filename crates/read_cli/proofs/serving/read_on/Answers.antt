use Rattle.std.proofs.Common.{◌≡◌, map, string_bytes, inl, sym, subst, ◌∙◌}
use Rattle.proj_io.specs.Views.{sink_view}
use Rattle.proj_journal.specs.Journals.{disk_of}
use Rattle.proj_words.specs.declared.outcome.Outcome.TheVariants.{StoreFault}
use Rattle.read_cli.specs.Readings.{reading}
use Rattle.read_cli.specs.Served.{IsReadOn}
use Rattle.read_cli.proofs.DiskReads.{counts-behind, synced-items}
use Rattle.read_cli.proofs.serving.read_on.Goals as goal

pub returns-in-Ok-clause-read : goal.returns-in-Ok-clause-read
returns-in-Ok-clause-read g c =
    let asked = reading (map (λ word. string_bytes word) c.args.words.now) in
    let shown = sink_view g.O.Sink.written g.O.Sink.faults g.O.Sink.refusals in
    let heard = sink_view g.E.Sink.written g.E.Sink.faults g.E.Sink.refusals in
    let content = g.D.Disk.content in
    let faults = g.D.Disk.faults in
    let ran = c.read-outcome in
    let d = c.args.disk in
    let j = disk_of c.in-Ok.journal in
    let end = disk_of ran.new.store in
    subst (λ (x : _). IsReadOn asked (ran.new.out ≡ c.args.out.now) (record { out = shown c.args.out.now; err = heard c.args.err.now; content = content d; faults = faults d })
    (record { out = shown ran.new.out; err = heard ran.new.err; content = content x; faults = faults x }) c.outcome_code.result)
    (sym c.into_disk.ensures)
    (inl (record {
      outcome = ran.result;
      status = c.outcome_code.ensures;
      list = c.in-Ok.ensures.read;
      answer = λ items e. ran.ensures.answer items (synced-items (content d) (content j) c.in-Ok.ensures.stable ∙ e);
      judged = ran.ensures.judged;
      write = ran.ensures.write;
      cause = counts-behind (faults d) (faults j) (faults end) (ran.result ≡ StoreFault) c.in-Ok.ensures.cause ran.ensures.cause;
      text = ran.ensures.text;
    }))
