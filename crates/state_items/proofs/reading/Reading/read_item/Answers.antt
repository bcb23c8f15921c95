use Rattle.std.proofs.Common.{◌≡◌, [], Ok, sym, ap, subst}
use Rattle.std.specs.Prelude.{MatchResult}
use Rattle.git_objects.specs.Paths.{Bytes}
use Rattle.object_store.specs.Places.{Intake}
use Rattle.commit_map.specs.Rules.{rule_number}
use Rattle.ref_store.specs.Refs.{AreDistinct}
use Rattle.state_items.specs.Items.{Held, read_item}
use Rattle.state_items.specs.Readings.{Gathered, Holds, parts_of}
use Rattle.state_items.specs.Stops.{IsStop}
use Rattle.state_items.proofs.Gathering.{heads-from, held-from, parts-from, read-on, shown}
use Rattle.state_items.proofs.reading.Reading.read_item.Goals as goal

pub read_parts-read-requires-clause-held : goal.read_parts-read-requires-clause-held
read_parts-read-requires-clause-held c =
    held-from c.requires.0 _ _ _ _ _ _ _ _ _ (subst (λ (v : Gathered). Holds c.requires.0 v) (sym c.self.view_is) c.requires.1)

pub read_parts-read-requires-clause-heads : goal.read_parts-read-requires-clause-heads
read_parts-read-requires-clause-heads c =
    heads-from c.requires.0 _ _ _ _ _ _ _ _ _ (subst (λ (v : Gathered). Holds c.requires.0 v) (sym c.self.view_is) c.requires.1)

pub read_parts-read-requires-clause-distinct : goal.read_parts-read-requires-clause-distinct
read_parts-read-requires-clause-distinct c = subst (λ (v : Gathered). AreDistinct v.refs) (sym c.self.view_is) c.requires.1.distinct

pub returns-clause-item : goal.returns-clause-item
returns-clause-item c = λ h holds.
    let inside = c.self.inside in
    let objects = inside.objects in
    let after = c.read_parts-read.new in
    let read = c.read_parts-read.ensures in
    let was = subst (λ (v : Gathered). Holds h v) (sym c.self.view_is) holds in
    let parts = parts-from h objects.incoming.objects objects.names.keys objects.graph objects.blobs.keys inside.refs inside.kept (rule_number inside.rule) inside.tags.items objects.incoming.piece was in
    let done = λ (s : Intake).
    shown s.objects after.objects.names.keys after.objects.graph after.objects.blobs.keys after.refs after.kept (rule_number after.rule) after.tags.items s.piece in
    subst (λ (item : Bytes). MatchResult c.read_parts-read.result (λ _. (g : Held) × (read_item h item ≡ Ok g) × Holds g (done c.close.new.self)) (λ stop. IsStop stop (read_item h item)))
    (ap (λ (v : Gathered). v.piece) c.self.view_is)
    (subst (λ (s : Intake). MatchResult c.read_parts-read.result (λ _. (g : Held) × (read_item h objects.incoming.piece ≡ Ok g) × Holds g (done s)) (λ stop. IsStop stop (read_item h objects.incoming.piece)))
    (sym c.close.ensures)
    (read-on h (parts_of objects.incoming.objects inside.refs inside.kept (rule_number inside.rule) inside.tags.items) objects.incoming.piece after.objects.incoming.objects after.objects.names.keys after.objects.graph after.objects.blobs.keys
    after.refs after.kept (rule_number after.rule) after.tags.items [] c.read_parts-read.result parts was.rising read.held read.heads read.distinct read.parts))
