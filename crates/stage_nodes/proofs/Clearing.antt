-- Ways made clear of stored directories.
use Rattle.std.proofs.Common.{◌≡◌, ℕ, ◌+◌, ◌<◌, ◌⊎◌, inl, inr, Bool, true, false, not, cond, ◌&&◌, ◌||◌, List, [], ◌∷◌, ◌++◌, length, take, drop, get_or, Option, Some, refl, sym, ap, subst, ◌∙◌, arith, append_assoc, length-append, length-take, true≢false}
use Rattle.std.specs.declared.cmp.Ordering.TheVariants.{Less}
use Rattle.git_objects.specs.Paths.{Bytes, Path, comparable, is_prefix, same_bytes}
use Rattle.git_objects.specs.Entries.{is_dir}
use Rattle.git_objects.specs.declared.mode.Mode.TheVariants.{Dir}
use Rattle.git_objects.proofs.Basics.{same_bytes-self, same_bytes-back}
use Rattle.object_store.specs.Objects.{Object, IsStore}
use Rattle.path_trees.specs.declared.found.Found.{Found}
use Rattle.stage_nodes.specs.declared.nodes.Node.{Node}
use Rattle.stage_nodes.specs.declared.nodes.Nodes.{Nodes}
use Rattle.stage_nodes.specs.declared.nodes.Content.{Content}
use Rattle.stage_nodes.specs.declared.nodes.Content.TheVariants.{Held, Open}
use Rattle.stage_nodes.specs.declared.nodes.Link.{Link}
use Rattle.stage_nodes.specs.declared.nodes.Link.TheVariants.{First}
use Rattle.stage_nodes.specs.Forests.{Forest, Nil, Bin, Beyond, Sound, bytes_cmp, sought}
use Rattle.std.proofs.lemmas.List.{take-append-drop}
use Rattle.stage_nodes.specs.Pools.{hanging}
use Rattle.stage_nodes.specs.Frames.{Frame, Below, Behind, plug, path_of, Fits, SoundUp}
use Rattle.stage_nodes.specs.Leaves.{is_held}
use Rattle.stage_nodes.specs.Expanding.{IsExpanded}
use Rattle.stage_nodes.specs.Ways.{IsBlocked, IsDirOf, IsOpen, IsPlaceOf, IsStill, NotBefore, kids_of, named_first}
use Rattle.stage_nodes.specs.Walks.{IsCleared, StaysClear, clear_below, is_clear}
use Rattle.stage_nodes.proofs.Order.{less_apart, less_back, less_trans}
use Rattle.stage_nodes.proofs.Leaves.{fits_far}
use Rattle.stage_nodes.proofs.OnWay.{IsNamed, content_is, here_now, named_of, split_at, whole_new}
use Rattle.stage_nodes.proofs.Walking.{clear_at}

pub short_clear : (X : Forest) (c : Bytes) → is_clear X (c ∷ []) ≡ true
short_clear Nil c = refl
short_clear (Bin k e x l r) c = refl

-- ---- a forest in the place of another

-- what is clear of stored directories stays so
pub clear_more : (up : List Frame) (X Y : Forest) → ((q : Path) → is_clear X q ≡ true → is_clear Y q ≡ true) → (q : Path) → is_clear (plug up X) q ≡ true → is_clear (plug up Y) q ≡ true
clear_more [] X Y h q g = h q g
clear_more (Below k c r ∷ up) X Y h q g = clear_more up (Bin k c Open X r) (Bin k c Open Y r) by q g
  where
    by : (q : Path) → is_clear (Bin k c Open X r) q ≡ true → is_clear (Bin k c Open Y r) q ≡ true
    by [] u = refl
    by (d ∷ []) u = refl
    by (d ∷ e ∷ q) u = elim (same_bytes d c) as (λ b. cond b (is_clear X (e ∷ q)) (is_clear r (d ∷ e ∷ q)) ≡ true → cond b (is_clear Y (e ∷ q)) (is_clear r (d ∷ e ∷ q)) ≡ true) [ true ↦ λ v. h (e ∷ q) v | false ↦ λ v. v ] u
clear_more (Behind k c x l ∷ up) X Y h q g = clear_more up (Bin k c x l X) (Bin k c x l Y) by q g
  where
    by : (q : Path) → is_clear (Bin k c x l X) q ≡ true → is_clear (Bin k c x l Y) q ≡ true
    by [] u = refl
    by (d ∷ []) u = refl
    by (d ∷ e ∷ q) u = elim (same_bytes d c) as (λ b. cond b (clear_below x (is_clear l (e ∷ q))) (is_clear X (d ∷ e ∷ q)) ≡ true → cond b (clear_below x (is_clear l (e ∷ q))) (is_clear Y (d ∷ e ∷ q)) ≡ true) [ true ↦ λ v. v | false ↦ λ v. h (d ∷ e ∷ q) v ] u

-- the same for the paths that are not comparable with one
pub clear_apart : (up : List Frame) (X Y : Forest) (p : Path) → ((q : Path) → comparable p q ≡ false → is_clear X q ≡ true → is_clear Y q ≡ true) → (q : Path) → comparable (path_of up ++ p) q ≡ false → is_clear (plug up X) q ≡ true → is_clear (plug up Y) q ≡ true
clear_apart [] X Y p h q n g = h q n g
clear_apart (Below k c r ∷ up) X Y p h q n g =
    clear_apart up (Bin k c Open X r) (Bin k c Open Y r) (c ∷ p) by q (ap (λ (v : Path). comparable v q) (sym (append_assoc (path_of up) (c ∷ []) p)) ∙ n) g
  where
    by : (q : Path) → comparable (c ∷ p) q ≡ false → is_clear (Bin k c Open X r) q ≡ true → is_clear (Bin k c Open Y r) q ≡ true
    by [] n u = refl
    by (d ∷ []) n u = refl
    by (d ∷ e ∷ q) n u =
        elim (same_bytes d c) as (λ b. same_bytes d c ≡ b → cond b (is_clear X (e ∷ q)) (is_clear r (d ∷ e ∷ q)) ≡ true → cond b (is_clear Y (e ∷ q)) (is_clear r (d ∷ e ∷ q)) ≡ true) [
          | true ↦ λ w v. h (e ∷ q) (sym (λ i. ((same_bytes-back c d ∙ w) i && is_prefix p (e ∷ q)) || (w i && is_prefix (e ∷ q) p)) ∙ n) v
          | false ↦ λ w v. v
        ] refl u
clear_apart (Behind k c x l ∷ up) X Y p h q n g = clear_apart up (Bin k c x l X) (Bin k c x l Y) p by q n g
  where
    by : (q : Path) → comparable p q ≡ false → is_clear (Bin k c x l X) q ≡ true → is_clear (Bin k c x l Y) q ≡ true
    by [] n u = refl
    by (d ∷ []) n u = refl
    by (d ∷ e ∷ q) n u = elim (same_bytes d c) as (λ b. cond b (clear_below x (is_clear l (e ∷ q))) (is_clear X (d ∷ e ∷ q)) ≡ true → cond b (clear_below x (is_clear l (e ∷ q))) (is_clear Y (d ∷ e ∷ q)) ≡ true) [ true ↦ λ v. v | false ↦ λ v. h (d ∷ e ∷ q) n v ] u

-- ---- where a way ends

pub beyond_clear : (c : Bytes) (X : Forest) (p : Path) → Beyond c X → is_clear X (c ∷ p) ≡ true
beyond_clear c Nil p b = refl
beyond_clear c (Bin k e x l r) [] b = refl
beyond_clear c (Bin k e x l r) (d ∷ p) b = ap (λ v. cond v (clear_below x (is_clear l (d ∷ p))) (is_clear r (c ∷ d ∷ p))) (less_apart c e b.0) ∙ beyond_clear c r (d ∷ p) b.1

module _ (P : Content → Bool) where
  beyond_far : (c d : Bytes) (F : Forest) → bytes_cmp c d ≡ Less → Beyond d F → Beyond c F
  beyond_far c d Nil g b = tt
  beyond_far c d (Bin i e x l r) g b = (less_trans c d e g b.0, beyond_far c d r g b.1)

  not_dir : (f : Found) → is_dir f.mode ≡ false → not (is_dir f.mode) ≡ true
  not_dir f h = ap not h

  blocked_clear : (c : Bytes) (X : Forest) (p : Path) → Sound P X → NotBefore c X → IsBlocked c X → is_clear X (c ∷ p) ≡ true
  blocked_clear c Nil p s n b = refl
  blocked_clear c (Bin k e x l m) [] s n b = refl
  blocked_clear c (Bin k e Open l m) (d ∷ p) s n b =
      ap (λ v. cond v (is_clear l (d ∷ p)) (is_clear m (c ∷ d ∷ p))) b ∙ (let less = less_back c e n b in beyond_clear c m (d ∷ p) (beyond_far c e m less s.1))
  blocked_clear c (Bin k e (Held f) l m) (d ∷ p) s n b =
      elim (same_bytes c e) as (λ t. same_bytes c e ≡ t → cond t (not (is_dir f.mode)) (is_clear m (c ∷ d ∷ p)) ≡ true) [
        | true ↦ λ g. leaf g b
        | false ↦ λ g. let less = less_back c e n g in beyond_clear c m (d ∷ p) (beyond_far c e m less s.1)
      ] refl
    where
      leaf : same_bytes c e ≡ true → (same_bytes c e ≡ false) ⊎ (is_dir f.mode ≡ false) → not (is_dir f.mode) ≡ true
      leaf g (inl h) = absurd (true≢false (sym g ∙ h))
      leaf g (inr h) = not_dir f h

  short_at : (up : List Frame) (X : Forest) (c : Bytes) → SoundUp P up → Fits up c → is_clear (plug up X) (path_of up ++ c ∷ []) ≡ true
  short_at [] X c u f = short_clear X c
  short_at (Below k e m ∷ up) X c u f =
      ap (is_clear (plug up (Bin k e Open X m))) (append_assoc (path_of up) (e ∷ []) (c ∷ []))
      ∙ clear_at P up (Bin k e Open X m) e c [] u.5 u.4
      ∙ ap (λ b. cond b (is_clear X (c ∷ [])) (is_clear m (e ∷ c ∷ []))) (same_bytes-self e)
      ∙ short_clear X c
  short_at (Behind k e x l ∷ up) X c u f = short_at up (Bin k e x l X) c u.3 (fits_far [] P up e c u.2 f)

  clear_end : (up : List Frame) (X : Forest) (c : Bytes) (b : Path) → SoundUp P up → Fits up c → Sound P X → NotBefore c X → (b ≡ []) ⊎ IsBlocked c X → is_clear (plug up X) (path_of up ++ c ∷ b) ≡ true
  clear_end up X c b u f s n (inl h) = ap (λ (v : Path). is_clear (plug up X) (path_of up ++ c ∷ v)) h ∙ short_at up X c u f
  clear_end up X c [] u f s n (inr h) = short_at up X c u f
  clear_end up X c (d ∷ b) u f s n (inr h) = clear_at P up X c d b u f ∙ blocked_clear c X (d ∷ b) s n h

  pub clear_dir : (S : List Object) (s : Nodes) (q : Path) (d : ℕ) (c : Bytes) → IsDirOf S s q d → is_clear (kids_of s) (q ++ c ∷ []) ≡ true
  clear_dir S s q d c h = (λ i. is_clear (sym h.whole i) (sym h.path i ++ c ∷ [])) ∙ Rattle.stage_nodes.proofs.Clearing.short_at (is_held S) h.frames h.kids c h.here.sound_up (h.fits c)

pub clear_place : (S : List Object) (s : Nodes) (q : Path) (c : Bytes) (b : Path) (link : Link) (child : Option ℕ) (h : IsPlaceOf S s q c link child) → (b ≡ []) ⊎ IsBlocked c h.rest → is_clear (kids_of s) (q ++ c ∷ b) ≡ true
clear_place S s q c b link child h e = (λ i. is_clear (sym h.whole i) (sym h.path i ++ c ∷ b)) ∙ clear_end (is_held S) h.frames h.rest c b h.here.sound_up h.fits h.here.sound h.next e

-- ---- a directory's entries made nodes

module _ (S : List Object) (s : Nodes) (opened : IsOpen S s) (q : Path) (c : Bytes) (link : Link) (k : ℕ) (here : IsPlaceOf S s q c link (Some k)) (f : Found) (d : is_dir f.mode ≡ true) where
  abbrev n : IsNamed S s q c here.frames k
  n = (named_of S s q c link k here).0

  pub expand_clear : (s' : Nodes) (held : n.content ≡ Held (record { mode = Dir; name = f.name })) (x : IsExpanded S s s' k f.name) → IsStore S → StaysClear s s'
  expand_clear s' held x st p g =
      ap (λ (F : Forest). is_clear F p) (sym (whole_new S s opened q c here.frames k n f.name held s' x st))
      ∙ clear_more here.frames (Bin k c n.content n.children n.siblings) (Bin k c Open x.kids n.siblings) by p (ap (λ (F : Forest). is_clear F p) n.whole ∙ g)
    where
      by : (p : Path) → is_clear (Bin k c n.content n.children n.siblings) p ≡ true → is_clear (Bin k c Open x.kids n.siblings) p ≡ true
      by [] u = refl
      by (e ∷ []) u = refl
      by (e ∷ b ∷ p) u =
          elim (same_bytes e c) as (λ t. cond t (clear_below n.content (is_clear n.children (b ∷ p))) (is_clear n.siblings (e ∷ b ∷ p)) ≡ true → cond t (is_clear x.kids (b ∷ p)) (is_clear n.siblings (e ∷ b ∷ p)) ≡ true) [
            | true ↦ λ v. absurd (true≢false (sym v ∙ ap (λ (y : Content). clear_below y (is_clear n.children (b ∷ p))) held))
            | false ↦ λ v. v
          ] u

-- the node was read
pub child_clear : (S : List Object) (s : Nodes) (q : Path) (c : Bytes) (link : Link) (child : Option ℕ) (k : ℕ) (here : IsPlaceOf S s q c link child) (e : child ≡ Some k) (v : Node) (read : v ≡ get_or s.cells.items k v) (opened : IsOpen S s) (f : Found) (h : v.content ≡ Held f) (d : is_dir f.mode ≡ true) (s' : Nodes) → IsExpanded S s s' k f.name → IsStore S → StaysClear s s'
child_clear S s q c link child k here e v read opened f h d s' x st =
    let at_k = subst (IsPlaceOf S s q c link) e here in
    expand_clear S s opened q c link k at_k f d s' (content_is S s q c link child k here e v read opened f h d (named_of S s q c link k at_k).0) x st

pub clear_same : (s s' : Nodes) → s' ≡ s → StaysClear s s'
clear_same s s' e q g = ap (λ (v : Nodes). is_clear (kids_of v) q) e ∙ g

-- ---- the whole way

-- it ends at what is no directory
pub cleared_blocked : (S : List Object) (s0 s s' : Nodes) (p : Path) (k d : ℕ) (dir : IsDirOf S s (take k p) d) (still : IsStill S s0 s) → StaysClear s0 s → (c : Bytes) (within : k < length p) (own : c ≡ get_or p k c) (link : Link) (child : Option ℕ) → link ≡ sought c (First d) (hanging s (First d)) → child ≡ named_first c (hanging s link) → s' ≡ s →
    ((q : Path) (b : Bytes) (l : Link) → (at : IsPlaceOf S s q b l child) → IsBlocked b at.rest) → IsCleared S s0 s' p
cleared_blocked S s0 s s' p k d dir still kept c within own link child e f same blocked =
    let here = here_now S s0 s p k d dir still c within own link child e f in
    subst (λ (v : Nodes). IsCleared S s0 v p) (sym same) (record {
      still = still;
      kept = kept;
      clear = ap (is_clear (kids_of s)) (sym (split_at p k c within own)) ∙ clear_place S s (take k p) c (drop (k + 1) p) link child here (inr (blocked (take k p) c link here));
    })

-- all above the last component is open
pub cleared_all : (S : List Object) (s0 s : Nodes) (p : Path) (k d : ℕ) (dir : IsDirOf S s (take k p) d) (still : IsStill S s0 s) → StaysClear s0 s → k + 1 ≡ length p → IsCleared S s0 s p
cleared_all S s0 s p k d dir still kept long = record { still = still; kept = kept; clear = by (drop k p) refl }
  where
    by : (r : Path) → drop k p ≡ r → is_clear (kids_of s) p ≡ true
    by [] g = absurd (omega (arith, ap length (take-append-drop k p), length-append (take k p) (drop k p), ap length g, length-take k p))
    by (c ∷ []) g = ap (is_clear (kids_of s)) (sym (take-append-drop k p) ∙ ap (λ (v : Path). take k p ++ v) g) ∙ clear_dir (is_held S) S s (take k p) d c dir
    by (c ∷ e ∷ r) g = absurd (omega (arith, ap length (take-append-drop k p), length-append (take k p) (drop k p), ap length g, length-take k p))
