use Rattle.std.proofs.Common.{◌≡◌, ◌+◌, ℕ, Ok, take, drop, sym, subst}
use Rattle.state_items.specs.Steps.{body_field}
use Rattle.state_items.specs.Stops.{spot_at}
use Rattle.state_items.proofs.Spots.{body-spot}
use Rattle.state_items.proofs.objects.part_at.Goals as goal

pub returns-clause-part : goal.returns-clause-part
returns-clause-part c =
    let item = c.args.item.now in
    let len = c.in_ok-len.field-0 in
    subst (λ (at : ℕ). body_field (spot_at c.args.at item) ≡ Ok (record { kind = c.in_ok-kind.kind; body = take len (drop at item); at = at }, spot_at (at + len) item)) (sym c.at-at.ensures)
    (body-spot item c.args.at c.new-cursor.result c.kind_field.new.cursor c.four_bytes.new.self c.field.new.self c.in_ok-kind.kind len c.in_ok-field.field-0.now
    c.new-cursor.ensures c.in_ok-kind.ensures c.in_ok-len.ensures c.in_ok-field.ensures)
