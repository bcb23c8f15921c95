-- How a disk in memory goes on by one write or one sync.
use Rattle.std.proofs.Common.{◌≡◌, ◌⊎◌, ◌+◌, ◌++◌, [], ◌∷◌, ℕ, zero, suc, List, length, drop, true, false, Some, None, inl, inr, refl, sym, ◌∙◌, ap, subst, arith, length-append, get_or, set, append_assoc, append-nil}
use Rattle.std.specs.Option.{is_some}
use Rattle.std.specs.declared.option.Option.{Option}
use Rattle.proj_disk.specs.Disks.{DiskView, IsTorn, Elapses, stable, written}
use Rattle.proj_disk.specs.declared.mem_disk.DiskWrite.{DiskWrite}
use Rattle.proj_disk.specs.MemDisks.{MemDiskState, settled, after, steps_of, moments, moment_of, IsLeftByOne, LeftSince, view_of, marked, mark}
use Rattle.proj_disk.specs.Moments.{one_left, one_split, drop_push, widen, stable_image}

marked_set : (call : ℕ) (writes : List DiskWrite) (n : ℕ) (d : DiskWrite) → length writes ≡ n + 1
    → set writes n (record (get_or writes n d) { sync = mark call (get_or writes n d).sync }) ≡ marked call writes
marked_set call [] n d is = absurd (omega arith)
marked_set call (w ∷ []) zero d is = refl
marked_set call (w ∷ []) (suc n) d is = absurd (omega arith)
marked_set call (w ∷ v ∷ writes) zero d is = absurd (omega arith)
marked_set call (w ∷ v ∷ writes) (suc n) d is = ap (λ (l : List DiskWrite). w ∷ l) (marked_set call (v ∷ writes) n d (omega arith))

mark_new : (call : ℕ) (sync : Option ℕ) → is_some sync ≡ false → mark call sync ≡ Some call
mark_new call None is = refl
mark_new call (Some earlier) is = cc

mark_old : (call : ℕ) (sync : Option ℕ) → is_some sync ≡ true → mark call sync ≡ sync
mark_old call None is = cc
mark_old call (Some earlier) is = refl

marked_at : (call : ℕ) (writes : List DiskWrite) (n : ℕ) (w : DiskWrite) (sync : Option ℕ) → length writes ≡ n + 1 → w ≡ get_or writes n w → mark call w.sync ≡ sync
    → set writes n (record w { sync = sync }) ≡ marked call writes
marked_at call writes n w sync long is new =
    ap (λ (s : Option ℕ). set writes n (record w { sync = s })) (sym new)
    ∙ ap (λ (v : DiskWrite). set writes n (record v { sync = mark call v.sync })) is
    ∙ marked_set call writes n w long

pub marked_now : (call : ℕ) (writes : List DiskWrite) (n : ℕ) (w : DiskWrite) → length writes ≡ n + 1 → w ≡ get_or writes n w → is_some w.sync ≡ false
    → set writes n (record w { sync = Some call }) ≡ marked call writes
marked_now call writes n w long is none = marked_at call writes n w (Some call) long is (mark_new call w.sync none)

pub marked_before : (call : ℕ) (writes : List DiskWrite) (n : ℕ) (w : DiskWrite) → length writes ≡ n + 1 → w ≡ get_or writes n w → is_some w.sync ≡ true
    → set writes n w ≡ marked call writes
marked_before call writes n w long is some = marked_at call writes n w w.sync long is (mark_old call w.sync some)

pub marked_none : (call : ℕ) (writes : List DiskWrite) → length writes ≡ 0 → writes ≡ marked call writes
marked_none call [] is = refl
marked_none call (w ∷ writes) is = absurd (omega arith)

-- a write at the end
pub after-push : (disk : DiskView) (writes : List DiskWrite) (w : DiskWrite) → after disk (writes ++ w ∷ []) ≡ settled w.sync (written w.at w.piece (after disk writes))
after-push disk [] w = refl
after-push disk (v ∷ writes) w = after-push (settled v.sync (written v.at v.piece disk)) writes w

moments-push : (disk : DiskView) (writes : List DiskWrite) (w : DiskWrite) → moments disk (writes ++ w ∷ []) ≡ moments disk writes ++ steps_of w.sync (written w.at w.piece (after disk writes))
moments-push disk [] w = append-nil (steps_of w.sync (written w.at w.piece disk))
moments-push disk (v ∷ writes) w =
    let next = settled v.sync (written v.at v.piece disk) in
    let first = steps_of v.sync (written v.at v.piece disk) in
    ap (λ (l : List DiskView). first ++ l) (moments-push next writes w) ∙ sym (append_assoc first (moments next writes) _)

-- a sync after the last
marked-last : (call : ℕ) (disk : DiskView) (w : DiskWrite) (sync : Option ℕ)
    → settled (mark call sync) disk ≡ stable (settled sync disk).bytes
marked-last call disk w None = refl
marked-last call disk w (Some earlier) = refl

after-marked_more : (call : ℕ) (disk : DiskView) (w : DiskWrite) (writes : List DiskWrite) → after disk (marked call (w ∷ writes)) ≡ stable (after disk (w ∷ writes)).bytes
after-marked_more call disk w [] = marked-last call (written w.at w.piece disk) w w.sync
after-marked_more call disk w (v ∷ writes) = after-marked_more call (settled w.sync (written w.at w.piece disk)) v writes

pub after-marked : (call : ℕ) (start : List ℕ) (writes : List DiskWrite) → after (stable start) (marked call writes) ≡ stable (after (stable start) writes).bytes
after-marked call start [] = refl
after-marked call start (w ∷ writes) = after-marked_more call (stable start) w writes

-- the moments stay, or get one more behind them
abbrev Grows : List DiskView → List DiskView → DiskView → Type 0
Grows before now last = (now ≡ before) ⊎ (now ≡ before ++ last ∷ [])

grows_last : (call : ℕ) (disk : DiskView) (sync : Option ℕ) → Grows (steps_of sync disk ++ []) (steps_of (mark call sync) disk ++ []) (settled (mark call sync) disk)
grows_last call disk None = inr refl
grows_last call disk (Some earlier) = inl refl

grows_behind : (first before now : List DiskView) (last : DiskView) → Grows before now last → Grows (first ++ before) (first ++ now) last
grows_behind first before now last (inl same) = inl (ap (λ (l : List DiskView). first ++ l) same)
grows_behind first before now last (inr more) = inr (ap (λ (l : List DiskView). first ++ l) more ∙ sym (append_assoc first before (last ∷ [])))

marked_grows : (call : ℕ) (disk : DiskView) (writes : List DiskWrite) → Grows (moments disk writes) (moments disk (marked call writes)) (after disk (marked call writes))
marked_grows call disk [] = inl refl
marked_grows call disk (w ∷ []) = grows_last call (written w.at w.piece disk) w.sync
marked_grows call disk (w ∷ v ∷ writes) =
    grows_behind (steps_of w.sync (written w.at w.piece disk)) _ _ _ (marked_grows call (settled w.sync (written w.at w.piece disk)) (v ∷ writes))

-- what a stop since t may leave, of a disk that was at these moments
abbrev Since : DiskView → List DiskView → ℕ → List ℕ → Type 0
Since first disks t image = IsLeftByOne (drop t (first ∷ disks)) image

elapses_push : (first : DiskView) (before : List DiskView) (last : DiskView)
    → Elapses (length before) (length (before ++ last ∷ [])) (Since first before) (Since first (before ++ last ∷ [])) (Some last)
elapses_push first before last = record {
  adds = record {
    later = omega (arith, length-append before (last ∷ []));
    each = λ t image le since. one_split (drop t (first ∷ before)) last image
        (subst (λ (l : List DiskView). IsLeftByOne l image) (drop_push t (first ∷ before) last (omega (arith, le))) since);
  };
  keeps = λ t image le past. subst (λ (l : List DiskView). IsLeftByOne l image)
      (sym (drop_push t (first ∷ before) last (omega (arith, le)))) (one_left (drop t (first ∷ before)) (last ∷ []) image past);
}

elapses_same : (first : DiskView) (before : List DiskView) (disk : Option DiskView)
    → Elapses (length before) (length before) (Since first before) (Since first before) disk
elapses_same first before disk = record {
  adds = record { later = omega arith; each = λ t image le since. inl since };
  keeps = λ t image le past. past;
}

elapses_grows : (first : DiskView) (before now : List DiskView) (last : DiskView) → Grows before now last
    → Elapses (length before) (length now) (Since first before) (Since first now) (Some last)
elapses_grows first before now last (inl same) =
    subst (λ (l : List DiskView). Elapses (length before) (length l) (Since first before) (Since first l) (Some last)) (sym same) (elapses_same first before (Some last))
elapses_grows first before now last (inr more) =
    subst (λ (l : List DiskView). Elapses (length before) (length l) (Since first before) (Since first l) (Some last)) (sym more) (elapses_push first before last)

-- what a call of a disk in memory says of time
abbrev pub Passes : MemDiskState → MemDiskState → Type 0
Passes old new = Elapses (moment_of old) (moment_of new) (LeftSince old) (LeftSince new) (Some (view_of new))

-- a sync, and a write
module _ (start : List ℕ) (writes now : List DiskWrite) where
  abbrev Further : Type 0
  Further = Elapses (length (moments (stable start) writes)) (length (moments (stable start) now))
      (Since (stable start) (moments (stable start) writes)) (Since (stable start) (moments (stable start) now)) (Some (after (stable start) now))

  pub sync_time : (call : ℕ) → now ≡ marked call writes → Further
  sync_time call is =
      let more : Grows (moments (stable start) writes) (moments (stable start) now) (after (stable start) now) =
      subst (λ (l : List DiskWrite). Grows (moments (stable start) writes) (moments (stable start) l) (after (stable start) l)) (sym is)
      (marked_grows call (stable start) writes) in
      elapses_grows (stable start) _ _ _ more

  pub write_time : (w : DiskWrite) → w.sync ≡ None → now ≡ writes ++ w ∷ [] → Further
  write_time w none is =
      let last : DiskView = written w.at w.piece (after (stable start) writes) in
      let end : after (stable start) now ≡ last = (λ i. after (stable start) (is i)) ∙ after-push (stable start) writes w ∙ (λ i. settled (none i) last) in
      let more : moments (stable start) now ≡ moments (stable start) writes ++ last ∷ [] =
      (λ i. moments (stable start) (is i)) ∙ moments-push (stable start) writes w ∙ (λ i. moments (stable start) writes ++ steps_of (none i) last) in
      elapses_grows (stable start) _ _ _ (inr (more ∙ ap (λ (d : DiskView). moments (stable start) writes ++ d ∷ []) (sym end)))

-- a write at the end of the list
pub write_view : (start : List ℕ) (writes : List DiskWrite) (at call : ℕ) (piece : List ℕ)
    → after (stable start) (writes ++ record { at = at; piece = piece; call = call; sync = None } ∷ []) ≡ written at piece (after (stable start) writes)
write_view start writes at call piece = after-push (stable start) writes _

-- a write that failed and wrote nothing
pub torn_same : (at n : ℕ) (disk : DiskView) → IsTorn at n disk disk
torn_same at n disk = record { bytes = widen (stable disk.bytes) at n disk.bytes (stable_image disk.bytes); images = λ image is. widen disk at n image is }
