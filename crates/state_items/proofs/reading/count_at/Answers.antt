use Rattle.std.proofs.Common.{◌≡◌, ◌∙◌, ℕ, Ok, sym, ap}
use Rattle.state_items.specs.Fields.{Spot, number}
use Rattle.state_items.specs.Stops.{spot_at}
use Rattle.state_items.proofs.Spots.{number-spot}
use Rattle.state_items.proofs.reading.count_at.Goals as goal

pub returns-clause-count : goal.returns-clause-count
returns-clause-count c =
    let item = c.args.item.now in
    let read : number 4 (spot_at c.args.at item) ≡ Ok (c.in_ok-count.count, c.four_bytes.new.self) = ap (number 4) (sym c.new-cursor.ensures) ∙ c.in_ok-count.ensures in
    let behind = number-spot item c.args.at 4 c.in_ok-count.count c.four_bytes.new.self read in
    read ∙ ap (λ (s : Spot). Ok (c.in_ok-count.count, s)) (behind ∙ ap (λ (n : ℕ). spot_at n item) (sym (c.at.ensures ∙ ap (λ (s : Spot). s.at) behind)))
