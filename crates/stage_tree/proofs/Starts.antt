-- Where the way to a path begins, by the node that is known.
use Rattle.std.proofs.Common.{◌≡◌, ℕ, ◌+◌, ◌-◌, ◌<◌, ◌≤◌, ◌==◌, true, false, List, [], ◌∷◌, ◌++◌, length, take, get_or, refl, sym, ap, subst, ◌∙◌, arith, length-append, length-take}
use Rattle.std.specs.declared.cmp.Ordering.TheVariants.{Less}
use Rattle.std.proofs.lemmas.Bool.{eqb-true, eqb-false}
use Rattle.std.proofs.lemmas.List.{get_or_append_left, get_or_default, take_all, take-append-le, take-take}
use Rattle.std.proofs.Math.Seq.{get_or-append_seam, take-append_seam}
use Rattle.git_objects.specs.Paths.{Bytes, Path}
use Rattle.object_store.specs.Objects.{Object}
use Rattle.stage_nodes.specs.declared.nodes.Nodes.{Nodes}
use Rattle.stage_nodes.specs.declared.nodes.Content.TheVariants.{Open}
use Rattle.stage_nodes.specs.declared.nodes.Link.TheVariants.{First, Next}
use Rattle.stage_nodes.specs.Forests.{Forest, Bin, bytes_cmp}
use Rattle.stage_nodes.specs.Frames.{Frame, Below, Behind, Fits, dirs_of, link_of, path_of, plug}
use Rattle.stage_nodes.specs.Ways.{IsOpen, IsStart, kids_of}
use Rattle.stage_nodes.proofs.Onward.{dirs_long}
use Rattle.stage_nodes.proofs.Turning.{here_in}
use Rattle.stage_tree.specs.Sets.{IsChildOf}

-- ---- the directories above a place

-- one of the directories on the way to a place
record IsAbove (fs : List Frame) (X : Forest) (j : ℕ) : Type 0 where
  pub frames : List Frame
  pub component : Bytes
  pub children : Forest
  pub siblings : Forest
  pub whole : plug frames (Bin (get_or (dirs_of fs) j 0) component Open children siblings) ≡ plug fs X
  pub path : path_of frames ≡ take j (path_of fs)
  pub numbers : dirs_of frames ≡ take j (dirs_of fs)

above : (fs : List Frame) (X : Forest) (j : ℕ) → j < length (dirs_of fs) → IsAbove fs X j
above [] X j l = absurd (omega (arith, l))
above (Behind k c x l ∷ up) X j b =
    let w : IsAbove up (Bin k c x l X) j = above up (Bin k c x l X) j b in
    record { frames = w.frames; component = w.component; children = w.children; siblings = w.siblings; whole = w.whole; path = w.path; numbers = w.numbers }
above (Below k c r ∷ up) X j b =
    elim (j == length (dirs_of up)) as (λ v. (j == length (dirs_of up)) ≡ v → IsAbove (Below k c r ∷ up) X j) [
      | true ↦ λ e.
          let same : j ≡ length (dirs_of up) = eqb-true j (length (dirs_of up)) e in
          let number : get_or (dirs_of up ++ k ∷ []) j 0 ≡ k = ap (λ i. get_or (dirs_of up ++ k ∷ []) i 0) same ∙ get_or-append_seam (dirs_of up) k [] 0 in
          record {
            frames = up;
            component = c;
            children = X;
            siblings = r;
            whole = λ i. plug up (Bin (number i) c Open X r);
            path = sym (ap (λ i. take i (path_of up ++ c ∷ [])) (same ∙ dirs_long up) ∙ take-append_seam (path_of up) (c ∷ []));
            numbers = sym (ap (λ i. take i (dirs_of up ++ k ∷ [])) same ∙ take-append_seam (dirs_of up) (k ∷ []));
          }
      | false ↦ λ e.
          let long = length-append (dirs_of up) (k ∷ []) in
          let other = eqb-false j (length (dirs_of up)) e in
          let within : j < length (dirs_of up) = omega (arith, b, long, other) in
          let w : IsAbove up (Bin k c Open X r) j = above up (Bin k c Open X r) j within in
          let number : get_or (dirs_of up) j 0 ≡ get_or (dirs_of up ++ k ∷ []) j 0 = sym (get_or_append_left (dirs_of up) (k ∷ []) 0 j within) in
          record {
            frames = w.frames;
            component = w.component;
            children = w.children;
            siblings = w.siblings;
            whole = (λ i. plug w.frames (Bin (sym number i) w.component Open w.children w.siblings)) ∙ w.whole;
            path = w.path ∙ sym (take-append-le j (path_of up) (c ∷ []) (let p = dirs_long up in omega (arith, within, p)));
            numbers = w.numbers ∙ sym (take-append-le j (dirs_of up) (k ∷ []) (omega (arith, within)));
          }
    ] refl

-- a directory on the way to a node, as a node of the directory above it
pub child_above : (s : Nodes) (q : Path) (ns : List ℕ) (k j : ℕ) → IsChildOf s q ns k → j < length ns → IsChildOf s (take j q) (take j ns) (get_or ns j 0)
child_above s q ns k j h l =
    let X : Forest = Bin k h.component h.content h.children h.siblings in
    let w : IsAbove h.frames X j = above h.frames X j (subst (λ (ms : List ℕ). j < length ms) (sym h.numbers) l) in
    record {
      frames = w.frames;
      component = w.component;
      content = Open;
      children = w.children;
      siblings = w.siblings;
      whole = (λ i. plug w.frames (Bin (get_or (sym h.numbers i) j 0) w.component Open w.children w.siblings)) ∙ w.whole ∙ h.whole;
      path = w.path ∙ ap (take j) h.path;
      numbers = w.numbers ∙ ap (take j) h.numbers;
    }

-- the node itself, where no directory stands at that level
pub child_itself : (s : Nodes) (q : Path) (ns : List ℕ) (k j : ℕ) → IsChildOf s q ns k → j ≤ length q → length ns ≤ j → IsChildOf s (take j q) (take j ns) k
child_itself s q ns k j h within past =
    let same : length ns ≡ length q = ap length (sym h.numbers) ∙ dirs_long h.frames ∙ ap length h.path in
    subst (λ (ms : List ℕ). IsChildOf s (take j q) ms k) (sym (take_all j ns past))
    (subst (λ (r : Path). IsChildOf s r ns k) (sym (take_all j q (omega (arith, within, past, same)))) h)

-- The numbers are cut off at a level up to which two paths have the same components.
module _ (s : Nodes) (q p : Path) (ns ms : List ℕ) (j : ℕ) (cut : ms ≡ take j ns) where
  pub cut_long : (k : ℕ) → IsChildOf s q ns k → j ≤ length q → length ms ≡ j
  cut_long k h within =
      let same : length ns ≡ length q = ap length (sym h.numbers) ∙ dirs_long h.frames ∙ ap length h.path in
      ap length cut ∙ length-take j ns ∙ omega (arith, within, same)

  pub child_cut : length ms ≡ j → take j q ≡ take j p → (k : ℕ) → IsChildOf s (take j q) (take j ns) k → IsChildOf s (take (length ms) p) ms k
  child_cut long same k h =
      subst (λ (r : Path). IsChildOf s r ms k) (same ∙ ap (λ i. take i p) (sym long)) (subst (λ (xs : List ℕ). IsChildOf s (take j q) xs k) (sym cut) h)

-- a component read at a place of a path
pub own_at : (p : Path) (i j : ℕ) (x y : Bytes) → j < length p → i ≡ j → x ≡ y → y ≡ get_or p i y → x ≡ get_or p j x
own_at p i j x y within same e own = e ∙ own ∙ ap (λ n. get_or p n y) same ∙ get_or_default p j y x within

-- ---- the first link of a place's directory

record IsFront (fs : List Frame) (X : Forest) : Type 0 where
  pub frames : List Frame
  pub kids : Forest
  pub whole : plug frames kids ≡ plug fs X
  pub path : path_of frames ≡ path_of fs
  pub numbers : dirs_of frames ≡ dirs_of fs
  pub link : First (get_or (dirs_of fs) (length (dirs_of fs) - 1) 0) ≡ link_of 0 frames
  pub fits : (c : Bytes) → Fits frames c

front : (fs : List Frame) (X : Forest) → IsFront fs X
front [] X = record { frames = []; kids = X; whole = refl; path = refl; numbers = refl; link = refl; fits = λ c. tt }
front (Behind k c x l ∷ up) X =
    let w : IsFront up (Bin k c x l X) = front up (Bin k c x l X) in
    record { frames = w.frames; kids = w.kids; whole = w.whole; path = w.path; numbers = w.numbers; link = w.link; fits = w.fits }
front (Below k c r ∷ up) X =
    let long = length-append (dirs_of up) (k ∷ []) in
    let at : length (dirs_of up ++ k ∷ []) - 1 ≡ length (dirs_of up) = omega (arith, long) in
    record {
      frames = Below k c r ∷ up;
      kids = X;
      whole = refl;
      path = refl;
      numbers = refl;
      link = ap First (ap (λ i. get_or (dirs_of up ++ k ∷ []) i 0) at ∙ get_or-append_seam (dirs_of up) k [] 0);
      fits = λ d. tt;
    }

-- ---- before a place

module _ (s : Nodes) (fs : List Frame) (X : Forest) (whole : plug fs X ≡ kids_of s) (p : Path) (ns : List ℕ) (level : ℕ) (path : path_of fs ≡ take level p) (numbers : dirs_of fs ≡ ns) where
  -- the sibling before it
  pub sibling_before : (k : ℕ) → Next k ≡ link_of 0 fs → IsChildOf s (take level p) ns k
  sibling_before k e = by fs whole path numbers e
    where
      by : (fs : List Frame) → plug fs X ≡ kids_of s → path_of fs ≡ take level p → dirs_of fs ≡ ns → Next k ≡ link_of 0 fs → IsChildOf s (take level p) ns k
      by [] w q n e = absurd cc
      by (Below i c r ∷ up) w q n e = absurd cc
      by (Behind i c x l ∷ up) w q n e =
          let same : k ≡ i = cc in
          record { frames = up; component = c; content = x; children = l; siblings = X; whole = (λ v. plug up (Bin (same v) c x l X)) ∙ w; path = q; numbers = n }

  -- its directory
  pub directory_before : level ≤ length p → (j : ℕ) → j + 1 ≡ length ns → IsChildOf s (take j p) (take j ns) (get_or ns j 0)
  directory_before within j e =
      let w : IsAbove fs X j = above fs X j (let n = ap length numbers in omega (arith, e, n)) in
      let long : level ≡ length ns = sym (length-take level p ∙ omega (arith, within)) ∙ ap length (sym path) ∙ sym (dirs_long fs) ∙ ap length numbers in
      record {
        frames = w.frames;
        component = w.component;
        content = Open;
        children = w.children;
        siblings = w.siblings;
        whole = (λ i. plug w.frames (Bin (get_or (sym numbers i) j 0) w.component Open w.children w.siblings)) ∙ w.whole ∙ whole;
        path = w.path ∙ ap (take j) path ∙ take-take j level p (omega (arith, e, long));
        numbers = w.numbers ∙ ap (take j) numbers;
      }

  pub directory_popped : level ≤ length p → (ms : List ℕ) (k : ℕ) → ns ≡ ms ++ k ∷ [] → IsChildOf s (take (length ms) p) ms k
  directory_popped within ms k e =
      let long = length-append ms (k ∷ []) in
      let cut : take (length ms) ns ≡ ms = ap (take (length ms)) e ∙ take-append_seam ms (k ∷ []) in
      let number : get_or ns (length ms) 0 ≡ k = ap (λ (xs : List ℕ). get_or xs (length ms) 0) e ∙ get_or-append_seam ms k [] 0 in
      subst (IsChildOf s (take (length ms) p) ms) number
      (subst (λ (xs : List ℕ). IsChildOf s (take (length ms) p) xs (get_or ns (length ms) 0)) cut (directory_before within (length ms) (let n = ap length e in omega (arith, n, long))))

-- ---- where the way begins

module _ (S : List Object) (s : Nodes) (o : IsOpen S s) (p : Path) (ns : List ℕ) (within : length ns < length p) where
  start_of : (fs : List Frame) (X : Forest) → plug fs X ≡ kids_of s → path_of fs ≡ take (length ns) p → dirs_of fs ≡ ns → ((c : Bytes) → c ≡ get_or p (length ns) c → Fits fs c) → IsStart S s p ns (link_of 0 fs)
  start_of fs X whole path numbers fits =
      let here = here_in S s o fs X whole in
      record { within = within; frames = fs; number = here.0; rest = X; here = here.1; whole = whole; path = path; link_is = refl; fits = fits; numbers = numbers }

  module _ (k : ℕ) (h : IsChildOf s (take (length ns) p) ns k) where
    -- behind a node that stands before the next component
    pub start_behind : ((c : Bytes) → c ≡ get_or p (length ns) c → bytes_cmp h.component c ≡ Less) → IsStart S s p ns (Next k)
    start_behind less = start_of (Behind k h.component h.content h.children ∷ h.frames) h.siblings h.whole h.path h.numbers less

    -- at the first link of its directory
    pub start_front : IsStart S s p ns (First (get_or ns (length ns - 1) 0))
    start_front =
        let X : Forest = Bin k h.component h.content h.children h.siblings in
        let w : IsFront h.frames X = front h.frames X in
        let number : get_or ns (length ns - 1) 0 ≡ get_or (dirs_of h.frames) (length (dirs_of h.frames) - 1) 0 = λ i. get_or (sym h.numbers i) (length (sym h.numbers i) - 1) 0 in
        subst (IsStart S s p ns) (sym (ap First number ∙ w.link))
        (start_of w.frames w.kids (w.whole ∙ h.whole) (w.path ∙ h.path) (w.numbers ∙ h.numbers) (λ c e. w.fits c))

-- inside a directory that has the next component
pub start_inside : (S : List Object) (s : Nodes) → IsOpen S s → (p : Path) (ns : List ℕ) (k : ℕ) (h : IsChildOf s (take (length ns) p) ns k) → length ns + 1 < length p → h.component ≡ get_or p (length ns) h.component → h.content ≡ Open → IsStart S s p (ns ++ k ∷ []) (First k)
start_inside S s o p ns k h within own opened =
    let n : length (ns ++ k ∷ []) ≡ length ns + 1 = length-append ns (k ∷ []) in
    let fs : List Frame = Below k h.component h.siblings ∷ h.frames in
    start_of S s o p (ns ++ k ∷ []) (omega (arith, n, within)) fs h.children
    (ap (λ x. plug h.frames (Bin k h.component x h.children h.siblings)) (sym opened) ∙ h.whole)
    (ap (λ (q : Path). q ++ h.component ∷ []) h.path ∙ Rattle.stage_nodes.proofs.OnWay.one_longer p (length ns) h.component (omega (arith, within)) own ∙ ap (λ i. take i p) (sym n))
    (ap (λ (ms : List ℕ). ms ++ k ∷ []) h.numbers)
    (λ c e. tt)
