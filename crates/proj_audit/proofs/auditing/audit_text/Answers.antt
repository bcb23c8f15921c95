use Rattle.filter_text.specs.Shapes.{shape}
use Rattle.proj_audit.proofs.Storing.{told-stored, not-refused}
use Rattle.proj_audit.proofs.auditing.audit_text.Goals as goal

pub unreachable-requires : goal.unreachable-requires
unreachable-requires c =
    let told = told-stored (shape c.args.filter.now) c.args.path.now c.args.store.now c.args.commit.now.0 c.store_law.ensures.store c.requires.commit in
    not-refused _ told.0 _ told.1 (rw c.in-Err-NotThere.field-0-is at c.in-Err-NotThere.ensures)
