use Rattle.std.proofs.Common.{◌+◌, [], ◌∷◌, ℕ, List, refl, ap, subst, ◌∙◌}
use Rattle.std.specs.Int.{to_be_bytes, w32}
use Rattle.proj_journal.specs.Rest.{SpellsSame, Puts}
use Rattle.proj_io.specs.Items.{joined}
use Rattle.proj_io.specs.Stops.{adds_on, adds_as}
use Rattle.proj_journal.proofs.RecordBytes.{puts_staged}
use Rattle.proj_journal.proofs.Staging.{stage_done}
use Rattle.proj_journal.proofs.Writing.{adds, spells_back, rest_after, sync_images, same_images}
use Rattle.proj_journal.proofs.records.stage.Goals as goal

pub returns-in-Ok-clause-staged : goal.returns-in-Ok-clause-staged
returns-in-Ok-clause-staged g c =
    stage_done c.args.end (joined c.args.parts.now) _ (g.D.Disk.content c.write_behind.new.disk) (g.D.Disk.content c.write_parts.new.disk) (g.D.Disk.content c.write_behind-2.new.disk) _
    c.requires.rest c.requires.few c.requires.some c.requires.size (g.met.D.Disk.reads c.args.disk.now)
    (subst (λ (l : List ℕ). Puts (c.args.end + 1) l (g.D.Disk.content c.args.disk.now) (g.D.Disk.content c.write_behind.new.disk)) (c.to_be_bytes-size.ensures ∙ ap (to_be_bytes w32) c.requires.total) c.in_ok-write_behind.ensures.bytes)
    c.in_ok-write_parts.ensures.bytes
    (subst (λ (n : ℕ). Puts (c.args.end + 5 + n) (0 ∷ []) (g.D.Disk.content c.write_parts.new.disk) (g.D.Disk.content c.write_behind-2.new.disk)) c.requires.total c.in_ok-write_behind-2.ensures.bytes)
    c.in-Ok.ensures.stable

pub returns-in-Ok-clause-stops : goal.returns-in-Ok-clause-stops
returns-in-Ok-clause-stops g c =
    let o = g.D.Disk.content c.args.disk.now in
    let a = g.D.Disk.content c.write_behind.new.disk in
    let b = g.D.Disk.content c.write_parts.new.disk in
    let p = g.D.Disk.content c.write_behind-2.new.disk in
    let first = c.write_behind.ensures.stops in
    let second = adds_on _ _ _ _ _ _ _ first (adds_as _ _ _ _ (SpellsSame a) (SpellsSame o) (spells_back o a c.write_behind.ensures.list) c.write_parts.ensures.stops) in
    let back_b = λ (image : List ℕ) (is : SpellsSame b image). spells_back o a c.write_behind.ensures.list image (spells_back a b c.write_parts.ensures.list image is) in
    let third = adds_on _ _ _ _ _ _ _ second (adds_as _ _ _ _ (SpellsSame b) (SpellsSame o) back_b c.write_behind-2.ensures.stops) in
    let rest = rest_after c.args.end b p c.in_ok-write_behind-2.ensures.rest in
    let back_p = λ (image : List ℕ) (is : SpellsSame p image). back_b image (spells_back b p c.write_behind-2.ensures.list image is) in
    adds_on _ _ _ _ _ _ _ third (adds _ _ _ _ _ (SpellsSame o) c.sync.ensures.time (λ image left. back_p image (sync_images c.args.end p _ rest (g.met.D.Disk.reads c.write_behind-2.new.disk) c.in-Ok.ensures.stable image left)))

pub returns-in-Err-clause-stops : goal.returns-in-Err-clause-stops
returns-in-Err-clause-stops g c =
    let o = g.D.Disk.content c.args.disk.now in
    let a = g.D.Disk.content c.write_behind.new.disk in
    let b = g.D.Disk.content c.write_parts.new.disk in
    let p = g.D.Disk.content c.write_behind-2.new.disk in
    let first = c.write_behind.ensures.stops in
    let second = adds_on _ _ _ _ _ _ _ first (adds_as _ _ _ _ (SpellsSame a) (SpellsSame o) (spells_back o a c.write_behind.ensures.list) c.write_parts.ensures.stops) in
    let back_b = λ (image : List ℕ) (is : SpellsSame b image). spells_back o a c.write_behind.ensures.list image (spells_back a b c.write_parts.ensures.list image is) in
    let third = adds_on _ _ _ _ _ _ _ second (adds_as _ _ _ _ (SpellsSame b) (SpellsSame o) back_b c.write_behind-2.ensures.stops) in
    let rest = rest_after c.args.end b p c.in_ok-write_behind-2.ensures.rest in
    let back_p = λ (image : List ℕ) (is : SpellsSame p image). back_b image (spells_back b p c.write_behind-2.ensures.list image is) in
    adds_on _ _ _ _ _ _ _ third (adds _ _ _ _ _ (SpellsSame o) c.sync.ensures.time (λ image left. back_p image (same_images c.args.end p _ rest (c.in-Err.ensures.failed refl) image left)))

pub returns-in-Ok-clause-bytes : goal.returns-in-Ok-clause-bytes
returns-in-Ok-clause-bytes g c =
    puts_staged c.args.end (joined c.args.parts.now) _ (g.D.Disk.content c.write_behind.new.disk) (g.D.Disk.content c.write_parts.new.disk) (g.D.Disk.content c.write_behind-2.new.disk) _
    c.requires.rest (g.met.D.Disk.reads c.args.disk.now)
    (subst (λ (l : List ℕ). Puts (c.args.end + 1) l (g.D.Disk.content c.args.disk.now) (g.D.Disk.content c.write_behind.new.disk)) (c.to_be_bytes-size.ensures ∙ ap (to_be_bytes w32) c.requires.total) c.in_ok-write_behind.ensures.bytes)
    c.in_ok-write_parts.ensures.bytes
    (subst (λ (n : ℕ). Puts (c.args.end + 5 + n) (0 ∷ []) (g.D.Disk.content c.write_parts.new.disk) (g.D.Disk.content c.write_behind-2.new.disk)) c.requires.total c.in_ok-write_behind-2.ensures.bytes)
    c.in-Ok.ensures.stable
