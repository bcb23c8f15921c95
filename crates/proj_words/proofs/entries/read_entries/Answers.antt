use Rattle.std.proofs.Common.{[], ◌∷◌, map, inr, ap, ◌∙◌, arith}
use Rattle.std.proofs.lemmas.List.{map-append}
use Rattle.proj_words.specs.Views.{entry_value, line_value, spot_value}
use Rattle.proj_words.proofs.Reading.{ended, faulty, gone_on, renamed}
use Rattle.proj_words.proofs.entries.read_entries.Goals as goal

pub entries-preserved : goal.entries-preserved
entries-preserved c = record {
  within = omega (arith, c.in-Ok.ensures.same_end, c.in-Some.ensures.same_end, c.entries.invariant.within);
  read =
      renamed _ _ _ _
      (ap (map entry_value) c.in_ok-add_entry-in-Ok.ensures
      ∙ map-append entry_value c.entries.found.items (c.in-Ok.entry ∷ []))
      (gone_on c.args.input.now (map entry_value c.entries.found.items) (spot_value c.entries.spot)
      c.entries.invariant.read (line_value c.in-Some.line) (entry_value c.in-Ok.entry) (spot_value c.in-Ok.next)
      c.in-Some.ensures.line c.in-Ok.ensures.entry
      (omega (arith, c.in-Ok.ensures.shorter, c.in-Some.ensures.shorter)));
}

pub returns-in-Err-clause-value : goal.returns-in-Err-clause-value
returns-in-Err-clause-value c =
    inr (faulty c.args.input.now (map entry_value c.entries.found.items) (spot_value c.entries.spot) c.requires
    c.entries.invariant.read (line_value c.in-Some.line) c.in-Err.at c.in-Some.ensures.line
    (omega (arith, c.in-Some.ensures.shorter)) c.in-Err.ensures.entry)

pub returns-in-None-clause-value : goal.returns-in-None-clause-value
returns-in-None-clause-value c =
    ended c.args.input.now (map entry_value c.entries.found.items) (spot_value c.entries.spot) c.requires
    c.entries.invariant.read c.in-None.ensures.line
