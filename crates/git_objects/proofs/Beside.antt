-- Entries of two bodies that differ in their names alone.
use Rattle.std.proofs.Common.{◌≡◌, ◌+◌, ◌-◌, ◌≤◌, Bool, true, not, cond, ◌&&◌, List, [], ◌∷◌, ◌++◌, length, take, drop, Option, Some, None, map, refl, sym, ap, ◌∙◌, arith, append_assoc, length-append}
use Rattle.std.specs.Cmp.Lexicographic.{bytes_decides}
use Rattle.std.specs.Cmp.Lexicographic.{slice_cmp}
use Rattle.std.specs.Option.{option_and_then, option_map}
use Rattle.std.specs.Ordering.{is_lt, nat_cmp}
use Rattle.std.proofs.lemmas.List.{take-append-drop}
use Rattle.std.proofs.Math.Seq.{take-append_seam}
use Rattle.git_objects.specs.Paths.{Bytes, is_component, same_bytes}
use Rattle.git_objects.specs.Names.{line, mode_text}
use Rattle.git_objects.specs.Entries.{dir_key, entry_line, is_dir}
use Rattle.git_objects.specs.Bodies.{entry_from, if_listed, is_first, is_listing, tree_entries}
use Rattle.git_objects.specs.Neighbours.{spelled_entries}
use Rattle.git_objects.specs.declared.entry.Entry.{Entry}
use Rattle.git_objects.specs.declared.mode.Mode.{Mode}
use Rattle.git_objects.proofs.TreeReading.{cond_some, entry-read, entry-spelled, spelled-entry, then_some}

-- ---- one entry

-- what stands in front of a name
abbrev key : Mode → Bytes → Bytes
key m c = mode_text m ++ 32 ∷ (c ++ 0 ∷ [])

line-key : (m : Mode) (c n : Bytes) → line m c n ≡ key m c ++ n
unfolding line
line-key m c n = simp append_assoc

module _ (b : Bytes) (e : Entry) (r : Bytes) (first : entry_from b ≡ Some (e, r)) where
  pub size : length b ≡ length (entry_line e) + length r
  size = ap length (entry-spelled b e r first).0 ∙ length-append (entry_line e) r

  pub long : 20 ≤ length (entry_line e)
  long = omega (arith, ap length (line-key e.mode e.component e.name.0), length-append (key e.mode e.component) e.name.0, (entry-spelled b e r first).1)

  pub line-is : (l : Bytes) → l ≡ take (length b - length r) b → l ≡ entry_line e
  line-is l h =
      let exact : length b - length r ≡ length (entry_line e) = omega (arith, size) in
      h ∙ (λ i. take (exact i) ((entry-spelled b e r first).0 i)) ∙ take-append_seam (entry_line e) r

  key-is : (l k : Bytes) → l ≡ entry_line e → k ≡ take (length l - 20) l → k ≡ key e.mode e.component
  key-is l k h g =
      let whole : l ≡ key e.mode e.component ++ e.name.0 = h ∙ line-key e.mode e.component e.name.0 in
      let exact : length l - 20 ≡ length (key e.mode e.component) =
      omega (arith, ap length whole, length-append (key e.mode e.component) e.name.0, (entry-spelled b e r first).1) in
      g ∙ (λ i. take (exact i) (whole i)) ∙ take-append_seam (key e.mode e.component) e.name.0

  -- bytes that begin with the line but for its name
  pub beside : (d l k t n s : Bytes) → l ≡ take (length b - length r) b → k ≡ take (length l - 20) l → same_bytes (take (length k) d) k ≡ true → t ≡ drop (length k) d → n ≡ take 20 t → s ≡ drop 20 t → length n ≡ 20
      → entry_from d ≡ Some (record e { name = record { 0 = n } }, s)
  beside d l k t n s hl hk hd ht hn hs size20 =
      let keyed = key-is l k (line-is l hl) hk in
      let text : d ≡ k ++ t = sym (take-append-drop (length k) d) ∙ (λ i. (bytes_decides (take (length k) d) k).0 hd i ++ sym ht i) in
      let rest : t ≡ n ++ s = sym (take-append-drop 20 t) ∙ (λ i. sym hn i ++ sym hs i) in
      let whole : d ≡ line e.mode e.component n ++ s =
      text ∙ (λ i. keyed i ++ rest i) ∙ sym (append_assoc (key e.mode e.component) n s) ∙ ap (λ (x : Bytes). x ++ s) (sym (line-key e.mode e.component n)) in
      ap entry_from whole ∙ entry-read (record e { name = record { 0 = n } }) s (entry-spelled b e r first).2 size20

-- ---- listings

-- what the order of entries goes by
abbrev pub entry_key : Entry → Mode × Bytes
entry_key e = (e.mode, e.component)

-- entries of the same modes and components stand in the same order
keys-first : (a b : Entry) (xs ys : List Entry) → entry_key a ≡ entry_key b → map entry_key xs ≡ map entry_key ys → is_first a xs ≡ is_first b ys
keys-first a b [] [] e h = refl
keys-first a b [] (d ∷ ys) e h = cc
keys-first a b (c ∷ xs) [] e h = cc
keys-first a b (c ∷ xs) (d ∷ ys) e h =
    let one : entry_key c ≡ entry_key d = cc in
    let rest : map entry_key xs ≡ map entry_key ys = cc in
    λ i. is_lt (slice_cmp nat_cmp (dir_key (e i).1 (is_dir (e i).0)) (dir_key (one i).1 (is_dir (one i).0))) && not (same_bytes (e i).1 (one i).1) && keys-first a b xs ys e rest i

pub keys-listing : (xs ys : List Entry) → map entry_key xs ≡ map entry_key ys → is_listing xs ≡ is_listing ys
keys-listing [] [] h = refl
keys-listing [] (d ∷ ys) h = cc
keys-listing (c ∷ xs) [] h = cc
keys-listing (c ∷ xs) (d ∷ ys) h =
    let one : entry_key c ≡ entry_key d = cc in
    let rest : map entry_key xs ≡ map entry_key ys = cc in
    λ i. is_component (one i).1 && keys-first c d xs ys one rest i && keys-listing xs ys rest i

-- ---- bodies

-- what a body's bytes spell that are a body
pub listing-of : (b : Bytes) (es : List Entry) → tree_entries b ≡ Some es → is_listing es ≡ true
unfolding tree_entries
listing-of b es h =
    let d = then_some if_listed (spelled_entries b) es h in
    let c = cond_some (is_listing d.0) d.0 es d.2 in
    ap is_listing (sym c.1) ∙ c.0

-- bytes that spell entries in order are a body
pub spelled-body : (b : Bytes) (es : List Entry) → spelled_entries b ≡ Some es → is_listing es ≡ true → tree_entries b ≡ Some es
unfolding tree_entries
spelled-body b es h l = ap (option_and_then if_listed) h ∙ ap (λ (v : Bool). cond v (Some es) None) l

-- more entries behind those that were read
more-behind : (fs : List Entry) (e : Entry) (o : Option (List Entry)) → option_map (λ gs. fs ++ gs) (option_map (λ gs. e ∷ gs) o) ≡ option_map (λ gs. (fs ++ e ∷ []) ++ gs) o
more-behind fs e None = refl
more-behind fs e (Some gs) = ap Some (sym (append_assoc fs (e ∷ []) gs))

pub spelled-more : (b d s : Bytes) (fs : List Entry) (e : Entry) → spelled_entries b ≡ option_map (λ gs. fs ++ gs) (spelled_entries d) → entry_from d ≡ Some (e, s) → spelled_entries b ≡ option_map (λ gs. (fs ++ e ∷ []) ++ gs) (spelled_entries s)
spelled-more b d s fs e h f = h ∙ ap (option_map (λ (gs : List Entry). fs ++ gs)) (spelled-entry d e s f) ∙ more-behind fs e (spelled_entries s)
