-- Reading the records of a disk, one after another.
use Rattle.std.proofs.Common.{◌≡◌, ◌<◌, ◌⊎◌, inl, inr, ◌+◌, ◌-◌, ◌++◌, [], ◌∷◌, ℕ, suc, List, length, take, drop, Ok, Err, Some, None, refl, sym, ap, ◌∙◌, subst, arith, length-append, append_assoc, take-append-drop, length-drop}
use Rattle.std.specs.Prelude.{IfSome, IsTrue, Bool, true, false, ◌↔◌}
use Rattle.std.specs.Option.{option_map}
use Rattle.std.proofs.lemmas.Bool.{false≢true}
use Rattle.std.specs.declared.option.Option.{Option}
use Rattle.std.specs.Int.{w32, to_be_bytes}
use Rattle.std.proofs.Math.Seq.{take-add}
use Rattle.std.proofs.lemmas.List.{take_at, length-take}
use Rattle.proj_disk.specs.Disks.{DiskView, stable}
use Rattle.proj_journal.specs.declared.place.Place.{Place}
use Rattle.proj_journal.specs.declared.gate.Gate.{Gate}
use Rattle.proj_journal.specs.declared.gate.Gate.TheVariants.{Shut, Open, Broken}
use Rattle.proj_journal.specs.Spelling.{header, record_of, records_of, items_from, spelled, listed, list_in, placed}
use Rattle.proj_journal.specs.Spelled.{spelled-list, spelled-header, items_from-records, items_from-none, items_from-broken, befores, befores-err, records_of-push, are-push, length-records_push, records_of-none, spelled-other}
use Rattle.proj_journal.specs.Rest.{StandsAt, AllBehind}
use Rattle.proj_journal.specs.declared.window.Window.{Window}
use Rattle.proj_journal.specs.Windows.{ShowsAt}
use Rattle.proj_journal.specs.Gates.{IsGate, OpensItem, EndsList, OpensNothing}
use Rattle.proj_journal.specs.Journals.{IsReached, Reaches, GateAt, IsRead, IsBrokenAt}
use Rattle.proj_journal.proofs.Keeping.{length-placed, placed-push}

pub gate_known : (o : Option DiskView) (window : Window) (number at size skip : ℕ) (gate : Gate) (head : List ℕ) → IfSome o (λ d. size ≡ length d.bytes)
    → ShowsAt o at skip window → head ≡ take 5 (drop skip (take window.count window.bytes.items)) → ((rest : List ℕ) → head ≡ take 5 rest → size - at ≡ length rest → IsGate number rest gate)
    → GateAt number at gate o
gate_known None window number at size skip gate head long shows is told = tt
gate_known (Some d) window number at size skip gate head long shows is told =
    told (drop at d.bytes) (is ∙ shows) (omega (arith, long, length-drop at d.bytes))

module _ (at : ℕ) (places : List Place) (bytes : List ℕ) (reached : IsReached at places bytes) where
  abbrev items : List (List ℕ)
  items = reached.items

  count_is : length places ≡ length items
  count_is = ap length reached.stand ∙ length-placed 8 items

  split : (rest : List ℕ) → drop at bytes ≡ rest → bytes ≡ header ++ (records_of items ++ rest)
  split rest is =
      sym (take-append-drop at bytes) ∙ (λ i. reached.front i ++ is i) ∙ append_assoc header (records_of items) rest

  spelled_on : (rest : List ℕ) → drop at bytes ≡ rest → spelled bytes ≡ befores items (items_from at (length places) 0 rest)
  spelled_on rest is =
      let place : 8 + length (records_of items) ≡ at = omega (arith, reached.ends) in
      let count : 0 + length items ≡ length places = omega (arith, count_is) in
      ap spelled (split rest is) ∙ spelled-header (records_of items ++ rest) ∙ items_from-records 8 0 items rest reached.sized (omega (arith, reached.few))
      ∙ ap (befores items) (λ i. items_from (place i) (count i) 0 rest)

  pub broken_here : (drop at bytes ≡ []) ⊎ OpensNothing (length places) (drop at bytes) → spelled bytes ≡ Err at
  broken_here (inl none) = spelled_on [] none ∙ ap (befores items) (items_from-none at (length places)) ∙ befores-err items at
  broken_here (inr opens) = spelled_on (1 ∷ opens.behind) opens.is ∙ ap (befores items) (items_from-broken at (length places) opens.behind opens.none) ∙ befores-err items at

  pub ends_here : EndsList (drop at bytes) → spelled bytes ≡ Ok items
  ends_here ends = ap spelled (split (ends.gate ∷ ends.behind) ends.is) ∙ spelled-list items ends.gate ends.behind reached.sized reached.few ends.shut

  pub stands_here : (disk : DiskView) → disk.synced ≡ bytes → disk.ranges ≡ [] → EndsList (drop at bytes) → StandsAt at items disk
  stands_here disk synced ranges ends =
      let head : List ℕ = header ++ (records_of items ++ ends.gate ∷ []) in
      let long : length head ≡ at + 1 = omega (arith, reached.ends, length-append (records_of items) (ends.gate ∷ [])) in
      record {
        gate = ends.gate;
        shut = ends.shut;
        front = ap (λ (l : List ℕ). take (at + 1) l) (synced ∙ split (ends.gate ∷ ends.behind) ends.is ∙ ap (λ (l : List ℕ). header ++ l) (sym (append_assoc (records_of items) (ends.gate ∷ []) ends.behind)))
            ∙ take_at head ends.behind (at + 1) long;
        ends = reached.ends;
        sized = reached.sized;
        few = reached.few;
        behind = subst (λ (r : List (ℕ × ℕ)). AllBehind (at + 1) r) (sym ranges) tt;
      }

  abbrev item_at : ℕ → List ℕ → List ℕ
  item_at size behind = take size (drop 4 behind)

  is_record : (size : ℕ) (behind : List ℕ) → take 4 behind ≡ to_be_bytes w32 size → length (item_at size behind) ≡ size → take (5 + size) (1 ∷ behind) ≡ record_of (item_at size behind)
  unfolding record_of
  is_record size behind bytes_are long =
      let more : 5 + size ≡ suc (4 + size) = omega arith in
      ap (λ (n : ℕ). take n (1 ∷ behind)) more
      ∙ ap (λ (l : List ℕ). 1 ∷ l) (take-add 4 size behind ∙ ap (λ (l : List ℕ). l ++ item_at size behind) (bytes_are ∙ ap (to_be_bytes w32) (sym long)))

  pub reach_more : (size : ℕ) → OpensItem (length places) size (drop at bytes) → IsReached (at + (5 + size)) (places ++ record { at = at + 5; size = size } ∷ []) bytes
  reach_more size opens =
      let item = item_at size opens.behind in
      let long : length item ≡ size = omega (arith, opens.room, length-take size (drop 4 opens.behind), length-drop 4 opens.behind) in
      let rest_long : length bytes - at ≡ suc (length opens.behind) = sym (length-drop at bytes) ∙ ap length opens.is in
      let place : at + 5 ≡ 8 + length (records_of items) + 5 = omega (arith, reached.ends) in
      record {
        items = items ++ item ∷ [];
        front = take-add at (5 + size) bytes
            ∙ (λ i. reached.front i ++ take (5 + size) (opens.is i))
            ∙ ap (λ (l : List ℕ). (header ++ records_of items) ++ l) (is_record size opens.behind opens.bytes long)
            ∙ append_assoc header (records_of items) (record_of item)
            ∙ ap (λ (l : List ℕ). header ++ l) (sym (records_of-push items item));
        ends = omega (arith, reached.ends, length-records_push items item, long);
        within = omega (arith, rest_long, opens.room);
        sized = are-push items item reached.sized (omega (arith, long, opens.some)) (omega (arith, long, opens.small));
        few = omega (arith, count_is, opens.few, length-append items (item ∷ []));
        stand = (λ i. reached.stand i ++ record { at = place i; size = sym long i } ∷ []) ∙ sym (placed-push 8 items item);
      }

pub read_done : (o : Option DiskView) (at number : ℕ) (places : List Place) → number ≡ length places → Reaches at places o → GateAt number at Shut o → IsRead o at places
read_done None at number places count reaches gate = tt
read_done (Some d) at number places count reaches gate =
    let reached = reaches.0 in
    let is : spelled d.bytes ≡ Ok reached.items = ends_here at places d.bytes reached gate in
    let list : listed d.bytes ≡ reached.items = ap list_in is in
    let synced : d.synced ≡ d.bytes = ap (λ (v : DiskView). v.synced) reaches.1 in
    let ranges : d.ranges ≡ [] = ap (λ (v : DiskView). v.ranges) reaches.1 in (
      subst (λ (l : List (List ℕ)). StandsAt at l d) (sym list) (stands_here at places d.bytes reached d synced ranges gate),
      reached.stand ∙ ap (placed 8) (sym list),
      is ∙ ap Ok (sym list),
    )

pub broken_at : (o : Option DiskView) (at number : ℕ) (places : List Place) → number ≡ length places → Reaches at places o → GateAt number at Broken o → IsBrokenAt at o
broken_at None at number places count reaches gate = tt
broken_at (Some d) at number places count reaches gate =
    broken_here at places d.bytes reaches.0 (subst (λ (n : ℕ). (drop at d.bytes ≡ []) ⊎ OpensNothing n (drop at d.bytes)) count gate)

pub reaches_more : (o : Option DiskView) (at number size : ℕ) (places now : List Place) → number ≡ length places → now ≡ places ++ record { at = at + 5; size = size } ∷ []
    → Reaches at places o → GateAt number at (Open size) o → Reaches (at + (5 + size)) now o
reaches_more None at number size places now count is reaches gate = tt
reaches_more (Some d) at number size places now count is reaches gate =
    let more : IsReached (at + (5 + size)) (places ++ record { at = at + 5; size = size } ∷ []) d.bytes =
    reach_more at places d.bytes reaches.0 size (subst (λ (n : ℕ). OpensItem n size (drop at d.bytes)) count gate) in
    (subst (λ (l : List Place). IsReached (at + (5 + size)) l d.bytes) (sym is) more, reaches.1)

pub gate_is : (number at : ℕ) (a b : Gate) (o p : Option DiskView) → a ≡ b → p ≡ o → GateAt number at a p → GateAt number at b o
gate_is number at a b o p same kept gate = subst (λ (v : Option DiskView). GateAt number at b v) kept (subst (λ (x : Gate). GateAt number at x p) same gate)

-- behind the header
pub header_reached : (o : Option DiskView) (found : Bool) → found ≡ true → IfSome o (λ d. IsTrue found ↔ (take 8 d.bytes ≡ header)) → IfSome o (λ d. d ≡ stable d.bytes) → Reaches 8 [] o
header_reached None found is tells settled = tt
header_reached (Some d) found is tells settled =
    let same : take 8 d.bytes ≡ header = tells.0 is in (
      record {
        items = [];
        front = same ∙ no_records;
        ends = ap (λ (l : List ℕ). 8 + length l) no_items;
        within = omega (arith, ap length same, length-take 8 d.bytes);
        sized = tt;
        few = omega arith;
        stand = refl;
      },
      settled,
    )
  where
    no_items : [] ≡ records_of []
    no_items = records_of-none

    no_records : header ≡ header ++ records_of []
    no_records = ap (λ (l : List ℕ). header ++ l) no_items

pub header_broken : (o : Option DiskView) (found : Bool) (size : ℕ) → (found ≡ false) ⊎ (size < 8) → IfSome o (λ d. IsTrue found ↔ (take 8 d.bytes ≡ header)) → IfSome o (λ d. size ≡ length d.bytes) → IsBrokenAt 0 o
header_broken None found size fails tells long = tt
header_broken (Some d) found size fails tells long = spelled-other d.bytes (λ is. wrong is fails)
  where
    wrong : take 8 d.bytes ≡ header → (found ≡ false) ⊎ (size < 8) → ⊥
    wrong is (inl not_found) = false≢true (sym not_found ∙ tells.1 is)
    wrong is (inr short) = omega (arith, ap length is, length-take 8 d.bytes, long)

pub settled_known : (o p : Option DiskView) → p ≡ option_map (λ d. stable d.bytes) o → IfSome p (λ d. d ≡ stable d.bytes)
settled_known o None is = tt
settled_known None (Some e) is = cc
settled_known (Some d) (Some e) is =
    let same : e ≡ stable d.bytes = cc in same ∙ ap (λ (v : DiskView). stable v.bytes) (sym same)

pub broken_before : (place : ℕ) (o p : Option DiskView) → p ≡ option_map (λ d. stable d.bytes) o → IsBrokenAt place p → IsBrokenAt place o
broken_before place None p is broken = tt
broken_before place (Some d) None is broken = cc
broken_before place (Some d) (Some e) is broken =
    let same : e ≡ stable d.bytes = cc in ap (λ (v : DiskView). spelled v.bytes) (sym same) ∙ broken
