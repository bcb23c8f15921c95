-- Proves what src/deliver.rt needs of `finish_read`.
use Rattle.std.proofs.Common.{◌≡◌, ◌⊎◌, inl, inr, refl, sym, subst, ◌∙◌}
use Rattle.std.specs.Prelude.{◌≢◌}
use Rattle.git_objects.specs.Paths.{Bytes}
use Rattle.proj_io.specs.Views.{sink_view}
use Rattle.proj_words.specs.Outcomes.{text_of}
use Rattle.proj_words.specs.declared.outcome.Outcome.{Outcome}
use Rattle.proj_words.specs.declared.outcome.Outcome.TheVariants.{OutOfMemory, Usage}
use Rattle.proj_cli.specs.Answers.{GetsText}
use Rattle.proj_cli.specs.Sent.{TakesMemory}
use Rattle.read_cli.specs.Looks.{read_text}
use Rattle.read_cli.proofs.deliver.finish_read.Goals as goal

other-text : (o : Outcome) → o ≢ Usage → text_of o ≡ read_text o
other-text Usage n = absurd (n refl)
other-text o n = refl

finished-text : (o r : Outcome) → o ≢ Usage → (r ≡ o) ⊎ ((r ≡ OutOfMemory) × TakesMemory o) → text_of r ≡ read_text r
finished-text o r n (inl e) = other-text r (λ q. n (sym e ∙ q))
finished-text o r n (inr p) = subst (λ (x : Outcome). text_of x ≡ read_text x) (sym p.0) refl

pub returns-in_default-clause-outcome : goal.returns-in_default-clause-outcome
returns-in_default-clause-outcome g c = c.finish.ensures.outcome

pub returns-in_default-clause-text : goal.returns-in_default-clause-text
returns-in_default-clause-text g c =
    let seen = sink_view g.E.Sink.written g.E.Sink.faults g.E.Sink.refusals in
    subst (λ (t : Bytes). GetsText (seen c.args.err.now) (seen c.finish.new.err) t)
    (finished-text c.args.outcome c.finish.result c.in_default.not-Usage c.finish.ensures.outcome) c.finish.ensures.text
