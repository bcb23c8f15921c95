use Rattle.std.proofs.Common.{◌∙◌, map, sym}
use Rattle.std.proofs.lemmas.Result.{err_from_is_err_and}
use Rattle.git_objects.specs.Parts.{name_bytes}
use Rattle.git_objects.specs.declared.kind.Kind.TheVariants.{Commit}
use Rattle.object_store.specs.Growth.{IsOnly}
use Rattle.object_store.proofs.Growth.{grown_as, grown_self}
use Rattle.filter_apply.specs.Faults.{IsApplyFault}
use Rattle.history_ground.specs.Making.{IsAdded}
use Rattle.history_ground.proofs.MadeHistories.{added, taken-there}
use Rattle.history_ground.proofs.TakenTurns.{fault-as}
use Rattle.projection_ground.proofs.TurnLemmas.{handed-on}
use Rattle.history_ground.proofs.histories.add_made.Goals as goal

pub returns-then-contains-clause-ok : goal.returns-then-contains-clause-ok
returns-then-contains-clause-ok c = taken-there c.args.store.now c.args.made.now.keys c.args.name c.args.body.items c.requires.fit.named (sym c.contains.ensures ∙ c.if-contains.true)

pub returns-then-contains-clause-store : goal.returns-then-contains-clause-store
returns-then-contains-clause-store c = grown_self (IsAdded (map name_bytes c.args.made.now.keys) c.args.body.items) c.args.store.now c.requires.store

pub returns-in_err-put_commit-clause-err : goal.returns-in_err-put_commit-clause-err
returns-in_err-put_commit-clause-err c =
    let b = c.args.body.items in
    let made = IsAdded (map name_bytes c.args.made.now.keys) b in
    let T = c.put_commit.new.store in
    let p = err_from_is_err_and c.from_residual.result c.from_residual.ensures.1 in
    handed-on (IsApplyFault made T) c.from_residual.result p.0 c.in_err-put_commit.field-0.0 p.1 p.2
    (fault-as (IsOnly Commit b) made T (added c.args.made.now.keys c.args.name b c.requires.fit.named (sym c.contains.ensures ∙ c.if-contains.false)) c.in_err-put_commit.field-0.0 c.in_err-put_commit.ensures.err)

pub returns-in_err-put_commit-clause-store : goal.returns-in_err-put_commit-clause-store
returns-in_err-put_commit-clause-store c =
    let b = c.args.body.items in
    grown_as (IsOnly Commit b) (IsAdded (map name_bytes c.args.made.now.keys) b) c.args.store.now c.put_commit.new.store (added c.args.made.now.keys c.args.name b c.requires.fit.named (sym c.contains.ensures ∙ c.if-contains.false)) c.put_commit.ensures.store

pub returns-in_err-add_name-clause-store : goal.returns-in_err-add_name-clause-store
returns-in_err-add_name-clause-store c =
    let b = c.args.body.items in
    grown_as (IsOnly Commit b) (IsAdded (map name_bytes c.args.made.now.keys) b) c.args.store.now c.put_commit.new.store (added c.args.made.now.keys c.args.name b c.requires.fit.named (sym c.contains.ensures ∙ c.if-contains.false)) c.put_commit.ensures.store

pub returns-clause-store : goal.returns-clause-store
returns-clause-store c =
    let b = c.args.body.items in
    grown_as (IsOnly Commit b) (IsAdded (map name_bytes c.args.made.now.keys) b) c.args.store.now c.put_commit.new.store (added c.args.made.now.keys c.args.name b c.requires.fit.named (sym c.contains.ensures ∙ c.if-contains.false)) c.put_commit.ensures.store
