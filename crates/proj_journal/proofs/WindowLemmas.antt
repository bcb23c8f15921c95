-- What a window on a disk shows.
use Rattle.std.proofs.Common.{◌≡◌, ◌≤◌, ◌+◌, ◌-◌, ℕ, List, take, drop, sym, ap, ◌∙◌, arith, Some, None}
use Rattle.std.specs.Prelude.{IfSome, min}
use Rattle.std.proofs.lemmas.List.{take-take, drop-take, drop-drop}
use Rattle.std.specs.declared.option.Option.{Option}
use Rattle.proj_disk.specs.Disks.{DiskView, front_at}
use Rattle.proj_journal.specs.declared.window.Window.{Window}
use Rattle.proj_journal.specs.Windows.{Shows, ShowsAt}
use Rattle.proj_journal.proofs.Keeping.{take_room}

-- five bytes within a window are those of the disk
within : (buf bytes : List ℕ) (from at skip count : ℕ) → take count buf ≡ take count (drop from bytes) → from + skip ≡ at → skip + 5 ≤ count
    → take 5 (drop skip (take count buf)) ≡ take 5 (drop at bytes)
within buf bytes from at skip count shows place room =
    let rest = count - skip in
    let whole : skip + rest ≡ count = omega arith in
    let tail : drop skip (take count buf) ≡ take rest (drop skip (drop from bytes)) =
    ap (λ (l : List ℕ). drop skip l) (shows ∙ ap (λ (n : ℕ). take n (drop from bytes)) (sym whole)) ∙ drop-take skip rest (drop from bytes) in
    ap (λ (l : List ℕ). take 5 l) tail ∙ take-take 5 rest (drop skip (drop from bytes)) (omega arith)
    ∙ ap (λ (l : List ℕ). take 5 l) (drop-drop skip from bytes ∙ ap (λ (n : ℕ). drop n bytes) place)

pub shown_within : (o : Option DiskView) (window : Window) (at skip : ℕ) → Shows o window → window.from + skip ≡ at → skip + 5 ≤ window.count → ShowsAt o at skip window
shown_within None window at skip is place room = tt
shown_within (Some d) window at skip is place room = within window.bytes.items d.bytes window.from at skip window.count is place room

-- a window that was just read
pub shown_new : (o : Option DiskView) (window : Window) (at size : ℕ) → IfSome o (λ d. take window.count window.bytes.items ≡ front_at at size d.bytes) → 5 ≤ size
    → ShowsAt o at 0 window
shown_new None window at size is room = tt
shown_new (Some d) window at size is room = ap (λ (l : List ℕ). take 5 l) is ∙ take-take 5 size (drop at d.bytes) room

pub window_new : (o : Option DiskView) (window : Window) (at size : ℕ) → IfSome o (λ d. take window.count window.bytes.items ≡ front_at at size d.bytes) → window.count ≤ size → window.from ≡ at
    → Shows o window
window_new None window at size is le from = tt
window_new (Some d) window at size is le from =
    sym (take-take window.count window.count window.bytes.items (omega arith))
    ∙ ap (λ (l : List ℕ). take window.count l) is ∙ take-take window.count size (drop at d.bytes) le
    ∙ ap (λ (n : ℕ). take window.count (drop n d.bytes)) (sym from)

-- a window that shows nothing
pub window_none : (o : Option DiskView) (window : Window) → window.count ≡ 0 → Shows o window
window_none None window none = tt
window_none (Some d) window none = ap (λ (n : ℕ). take n window.bytes.items) none ∙ ap (λ (n : ℕ). take n (drop window.from d.bytes)) (sym none)

-- the five bytes behind a place of a window's bytes, or as many as it has
pub head_part : (items : List ℕ) (count skip n : ℕ) → skip ≤ count → n ≡ min 5 (count - skip) → take n (drop skip items) ≡ take 5 (drop skip (take count items))
head_part items count skip n le is =
    let rest = count - skip in
    let whole : skip + rest ≡ count = omega arith in
    let tail : drop skip (take count items) ≡ take rest (drop skip items) =
    ap (λ (m : ℕ). drop skip (take m items)) (sym whole) ∙ drop-take skip rest items in
    take_room n 5 rest (drop skip items) is ∙ ap (λ (l : List ℕ). take 5 l) (sym tail)
