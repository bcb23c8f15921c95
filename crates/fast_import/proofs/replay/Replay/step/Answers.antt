use Rattle.std.proofs.Common.{sym, subst}
use Rattle.fast_import.specs.Bases.{base_in}
use Rattle.fast_import.specs.Standing.{IsStepped}
use Rattle.stream_reader.specs.declared.command.Command.{Command}
use Rattle.stream_reader.specs.declared.command.Command.TheVariants as commands
use Rattle.fast_import.proofs.Stepping.{tried_stepped}
use Rattle.fast_import.proofs.replay.Replay.step.Goals as goal

pub returns-in-Blob : goal.returns-in-Blob
returns-in-Blob g c = λ r h.
    let S = c.args.store.now in
    let base = base_in S (g.B.Base.commits c.args.base.now) (g.B.Base.refs c.args.base.now) (g.B.Base.blobs c.args.base.now) in
    subst (λ (x : Command). IsStepped base S c.blob.new.store c.blob.new.self r (record { at = c.args.placed.at; command = x }) c.blob.result) (sym c.in-Blob.is) (c.blob.ensures base c.args.placed.at r h)

pub returns-in-Commit : goal.returns-in-Commit
returns-in-Commit g c = λ r h.
    let S = c.args.store.now in
    let base = base_in S (g.B.Base.commits c.args.base.now) (g.B.Base.refs c.args.base.now) (g.B.Base.blobs c.args.base.now) in
    subst (λ (x : Command). IsStepped base S S c.commit.new.self r (record { at = c.args.placed.at; command = x }) c.commit.result) (sym c.in-Commit.is)
    (tried_stepped base S c.commit.new.self r (record { at = c.args.placed.at; command = commands.Commit c.in-Commit.head }) c.commit.result c.store_law.ensures.store (c.commit.ensures c.args.placed.at r h))

pub returns-in-CommitEnd : goal.returns-in-CommitEnd
returns-in-CommitEnd g c = λ r h.
    let S = c.args.store.now in
    let base = base_in S (g.B.Base.commits c.args.base.now) (g.B.Base.refs c.args.base.now) (g.B.Base.blobs c.args.base.now) in
    subst (λ (x : Command). IsStepped base S c.commit_end.new.store c.commit_end.new.self r (record { at = c.args.placed.at; command = x }) c.commit_end.result) (sym c.in-CommitEnd.is) (c.commit_end.ensures base r h)

pub returns-in-Reset : goal.returns-in-Reset
returns-in-Reset g c = λ r h.
    let S = c.args.store.now in
    let base = base_in S (g.B.Base.commits c.args.base.now) (g.B.Base.refs c.args.base.now) (g.B.Base.blobs c.args.base.now) in
    subst (λ (x : Command). IsStepped base S S c.reset.new.self r (record { at = c.args.placed.at; command = x }) c.reset.result) (sym c.in-Reset.is)
    (tried_stepped base S c.reset.new.self r (record { at = c.args.placed.at; command = commands.Reset c.in-Reset.refname c.in-Reset.from }) c.reset.result c.store_law-in-Reset.ensures.store (c.reset.ensures S c.args.placed.at r c.requires.base h))

pub returns-in-Tag : goal.returns-in-Tag
returns-in-Tag g c = λ r h.
    let S = c.args.store.now in
    let base = base_in S (g.B.Base.commits c.args.base.now) (g.B.Base.refs c.args.base.now) (g.B.Base.blobs c.args.base.now) in
    subst (λ (x : Command). IsStepped base S S c.tag.new.self r (record { at = c.args.placed.at; command = x }) c.tag.result) (sym c.in-Tag.is)
    (tried_stepped base S c.tag.new.self r (record { at = c.args.placed.at; command = commands.Tag c.in-Tag.head }) c.tag.result c.store_law-in-Tag.ensures.store (c.tag.ensures S c.args.placed.at r h))
