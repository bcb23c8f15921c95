use Rattle.std.proofs.Common.{◌≡◌, ◌≤◌, ◌^◌, ◌&&◌, ◌∷◌, ℕ, List, true, false, Ok, map, take, drop, sym, ap, subst, ◌∙◌}
use Rattle.std.specs.Prelude.{nat_le}
use Rattle.git_objects.specs.Paths.{Bytes}
use Rattle.git_objects.specs.Parts.{name_bytes}
use Rattle.object_store.specs.Objects.{Object, IsStore}
use Rattle.object_store.specs.Fits.{body_fits}
use Rattle.object_store.specs.Places.{Intake}
use Rattle.state_items.specs.Arrivals.{HasArrived, with_blob_name, with_row}
use Rattle.state_items.proofs.Naming.{take-unfit, take-new}
use Rattle.state_items.proofs.Taking.{arrived, commits-stay, few-rows, held-more, room-is, take-full}
use Rattle.state_items.proofs.objects.Objects.take.Goals as goal

pub more_commits-requires : goal.more_commits-requires
more_commits-requires c = subst (λ (n : ℕ). n ≤ 2 ^ 20) (sym c.len-2.ensures.len) (few-rows _ _ _ _ c.requires.held c.args.part.kind (take c.args.part.len (drop c.args.part.at c.args.self.now.incoming.piece)))

pub returns-then-not-has_room-clause-object : goal.returns-then-not-has_room-clause-object
returns-then-not-has_room-clause-object c =
    let k = c.args.part.kind in
    let b = take c.args.part.len (drop c.args.part.at c.args.self.now.incoming.piece) in
    let key = c.in_ok-key.ensures in
    take-full c.args.self.now.incoming.objects k b c.args.part.at key.added.refusal key.added.fresh
    (sym (room-is _ _ _ _ c.requires.held k b c.in_ok-key.key c.add.new.names.keys c.len.result c.len-2.result key.names c.len.ensures.len c.len-2.ensures.len key.name)
    ∙ (λ i. nat_le c.len.result (2 ^ 22) && nat_le (sym c.more_commits.ensures i) (2 ^ 20)) ∙ sym c.has_room.ensures ∙ c.if-not-has_room.true)

pub enter-requires-clause-arrived : goal.enter-requires-clause-arrived
enter-requires-clause-arrived c =
    let k = c.args.part.kind in
    let b = take c.args.part.len (drop c.args.part.at c.args.self.now.incoming.piece) in
    let key = c.in_ok-key.ensures in
    subst (λ (p : Bytes). HasArrived c.args.self.now.graph (map name_bytes c.args.self.now.blobs.keys) k (take c.args.part.len (drop c.args.part.at p))) (sym key.piece)
    (arrived _ _ _ _ c.requires.held k b c.add.new.incoming.objects key.whole key.added.objects key.added.fresh)

pub returns-then-not-branch-clause-object : goal.returns-then-not-branch-clause-object
returns-then-not-branch-clause-object c =
    let S = c.args.self.now.incoming.objects in
    let k = c.args.part.kind in
    let at = λ (p : Bytes). take c.args.part.len (drop c.args.part.at p) in
    let key = c.in_ok-key.ensures in
    let fits : body_fits S k (at c.args.self.now.incoming.piece) ≡ false =
    ap (λ (p : Bytes). body_fits S k (at p)) (sym key.piece)
    ∙ sym (c.in_ok-enter.ensures.fits S (key.added.objects ∙ ap (λ (p : Bytes). record { kind = k; body = at p } ∷ S) (sym key.piece)))
    ∙ c.if-not-branch.true in
    take-unfit S k (at c.args.self.now.incoming.piece) c.args.part.at key.added.refusal key.added.fresh fits

pub returns-clause-object : goal.returns-clause-object
returns-clause-object c =
    let S = c.args.self.now.incoming.objects in
    let k = c.args.part.kind in
    let at = λ (p : Bytes). take c.args.part.len (drop c.args.part.at p) in
    let b = at c.args.self.now.incoming.piece in
    let key = c.in_ok-key.ensures in
    let fits : body_fits S k b ≡ true =
    ap (λ (p : Bytes). body_fits S k (at p)) (sym key.piece)
    ∙ sym (c.in_ok-enter.ensures.fits S (key.added.objects ∙ ap (λ (p : Bytes). record { kind = k; body = at p } ∷ S) (sym key.piece)))
    ∙ c.if-not-branch.false in
    let room =
    sym (room-is _ _ _ _ c.requires.held k b c.in_ok-key.key c.add.new.names.keys c.len.result c.len-2.result key.names c.len.ensures.len c.len-2.ensures.len key.name)
    ∙ (λ i. nat_le c.len.result (2 ^ 22) && nat_le (sym c.more_commits.ensures i) (2 ^ 20)) ∙ sym c.has_room.ensures ∙ c.if-not-has_room.false in
    take-new S k b c.args.part.at key.added.refusal key.added.fresh fits room
    ∙ ap (λ (T : List Object). Ok T) (sym (ap (λ (s : Intake). s.objects) c.in_ok-enter.ensures.incoming ∙ key.added.objects))

pub returns-clause-held : goal.returns-clause-held
returns-clause-held c =
    let k = c.args.part.kind in
    let at = λ (p : Bytes). take c.args.part.len (drop c.args.part.at p) in
    let b = at c.args.self.now.incoming.piece in
    let key = c.in_ok-key.ensures in
    let later = c.in_ok-enter.ensures in
    let same = ap (λ (s : Intake). s.objects) later.incoming in
    let room =
    sym (room-is _ _ _ _ c.requires.held k b c.in_ok-key.key c.add.new.names.keys c.len.result c.len-2.result key.names c.len.ensures.len c.len-2.ensures.len key.name)
    ∙ (λ i. nat_le c.len.result (2 ^ 22) && nat_le (sym c.more_commits.ensures i) (2 ^ 20)) ∙ sym c.has_room.ensures ∙ c.if-not-has_room.false in
    held-more _ _ _ _ c.requires.held k b c.enter.new.self.incoming.objects c.in_ok-key.key c.enter.new.self.names.keys c.enter.new.self.graph c.enter.new.self.blobs.keys
    (subst IsStore (sym same) key.whole) (same ∙ key.added.objects) (later.names ∙ key.names) key.name
    (later.rows c.if-not-branch.false ∙ ap (λ (p : Bytes). with_row c.args.self.now.graph k (at p)) key.piece)
    (later.blobs c.if-not-branch.false ∙ ap (λ (p : Bytes). with_blob_name (map name_bytes c.args.self.now.blobs.keys) k (at p)) key.piece)
    room

pub returns-clause-commits : goal.returns-clause-commits
returns-clause-commits c = λ n h.
    commits-stay _ _ _ _ c.requires.held c.args.part.kind (take c.args.part.len (drop c.args.part.at c.args.self.now.incoming.piece)) c.enter.new.self.incoming.objects
    (ap (λ (s : Intake). s.objects) c.in_ok-enter.ensures.incoming ∙ c.in_ok-key.ensures.added.objects) n h
