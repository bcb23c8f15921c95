-- Each commit of a graph is reached from given ones, or isn't.
use Rattle.std.proofs.Common.{◌≡◌, Bool, true, false, cond, ◌⊎◌, inl, inr, List, [], ◌∷◌, ◌++◌, Contains, sym, ap, ◌∙◌, true≢false, arith}
use Rattle.std.specs.Cmp.{first_so, second_so}
use Rattle.std.proofs.lemmas.List.Elements.{Contains-append_cases, Contains-append_left, Contains-append_right, Contains-push_cases}
use Rattle.std.proofs.lemmas.List.Folds.{list_any_at}
use Rattle.git_objects.specs.Snapshots.{Graph, Snapshot, has, has_name, is_graph, is_wanted, reached, snapshot_name, wanted_below}
use Rattle.git_objects.specs.Paths.{Bytes}
use Rattle.git_objects.proofs.Basics.{same_bytes-self}
use Rattle.git_objects.proofs.IdentSpelling.{not-false}
use Rattle.incremental_export.specs.Unreached.{PartingLaw, unreached}

none : (c : Snapshot) → Contains [] c → ⊥
none c h = let l = h.1 in absurd (omega arith)

-- what is among a list of one is that one
alone : (d c : Snapshot) → Contains (d ∷ []) c → d ≡ c
alone d c h = one (Contains-push_cases [] d c h)
  where
    one : Contains [] c ⊎ (d ≡ c) → d ≡ c
    one (inl k) = absurd (none c k)
    one (inr k) = k

-- what is among commits has its name there
named : (g : Graph) (c : Snapshot) → Contains g c → has g (snapshot_name c) ≡ true
named g c h = list_any_at (has_name (snapshot_name c)) g h.0 c h.1 (ap (has_name (snapshot_name c)) h.2 ∙ same_bytes-self (snapshot_name c))

-- the newest isn't among the older ones
not_older : (d : Snapshot) (older : Graph) (c : Snapshot) → has older (snapshot_name d) ≡ false → d ≡ c → Contains older c → ⊥
not_older d older c new e h = true≢false (sym (named older c h) ∙ ap (λ (x : Snapshot). has older (snapshot_name x)) (sym e) ∙ new)

module _ (d : Snapshot) (older left : Graph) (within : (c : Snapshot) → Contains left c → Contains older c) where
  behind : (c : Snapshot) → Contains left c → Contains (d ∷ older) c
  behind c k = Contains-append_right (d ∷ []) older c (within c k)

  first_too : (c : Snapshot) → Contains (d ∷ left) c → Contains (d ∷ older) c
  first_too c k = by (Contains-append_cases (d ∷ []) left c k)
    where
      by : Contains (d ∷ []) c ⊎ Contains left c → Contains (d ∷ older) c
      by (inl q) = Contains-append_left (d ∷ []) older c q
      by (inr q) = behind c q

-- what is reached of a graph's commits is of them, and so is what isn't
module _ (d : Snapshot) (older left : Graph) (within : (c : Snapshot) → Contains left c → Contains older c) (c : Snapshot) where
  with_first : (b : Bool) → Contains (cond b (d ∷ []) [] ++ left) c → Contains (d ∷ older) c
  with_first true k = first_too d older left within c k
  with_first false k = behind d older left within c k

  without_first : (b : Bool) → Contains (cond b [] (d ∷ []) ++ left) c → Contains (d ∷ older) c
  without_first true k = behind d older left within c k
  without_first false k = first_too d older left within c k

of_reached : (g : Graph) (wanted : List Bytes) (c : Snapshot) → Contains (reached g wanted) c → Contains g c
of_reached [] wanted c h = h
of_reached (d ∷ older) wanted c h = with_first d older (reached older (wanted_below wanted d)) (of_reached older (wanted_below wanted d)) c (is_wanted wanted d) h

of_unreached : (g : Graph) (wanted : List Bytes) (c : Snapshot) → Contains (unreached g wanted) c → Contains g c
of_unreached [] wanted c h = h
of_unreached (d ∷ older) wanted c h = without_first d older (unreached older (wanted_below wanted d)) (of_unreached older (wanted_below wanted d)) c (is_wanted wanted d) h

either : (g : Graph) (wanted : List Bytes) (c : Snapshot) → Contains g c → Contains (unreached g wanted) c ⊎ Contains (reached g wanted) c
either [] wanted c h = absurd (none c h)
either (d ∷ older) wanted c h = by (is_wanted wanted d) (Contains-append_cases (d ∷ []) older c h) (either older (wanted_below wanted d) c)
  where
    by : (b : Bool) → Contains (d ∷ []) c ⊎ Contains older c
        → (Contains older c → Contains (unreached older (wanted_below wanted d)) c ⊎ Contains (reached older (wanted_below wanted d)) c)
        → Contains (cond b [] (d ∷ []) ++ unreached older (wanted_below wanted d)) c ⊎ Contains (cond b (d ∷ []) [] ++ reached older (wanted_below wanted d)) c
    by true (inl q) k = inr (Contains-append_left (d ∷ []) (reached older (wanted_below wanted d)) c q)
    by false (inl q) k = inl (Contains-append_left (d ∷ []) (unreached older (wanted_below wanted d)) c q)
    by b (inr q) k = on (k q)
      where
        on : Contains (unreached older (wanted_below wanted d)) c ⊎ Contains (reached older (wanted_below wanted d)) c
            → Contains (cond b [] (d ∷ []) ++ unreached older (wanted_below wanted d)) c ⊎ Contains (cond b (d ∷ []) [] ++ reached older (wanted_below wanted d)) c
        on (inl u) = inl (Contains-append_right (cond b [] (d ∷ [])) (unreached older (wanted_below wanted d)) c u)
        on (inr r) = inr (Contains-append_right (cond b (d ∷ []) []) (reached older (wanted_below wanted d)) c r)

never_both : (g : Graph) (wanted : List Bytes) (c : Snapshot) → is_graph g ≡ true → Contains (unreached g wanted) c → Contains (reached g wanted) c → ⊥
never_both [] wanted c s u r = none c u
never_both (d ∷ older) wanted c s u r = by (never_both older (wanted_below wanted d) c (second_so _ _ s)) (is_wanted wanted d) u r
  where
    new : has older (snapshot_name d) ≡ false
    new = not-false _ (first_so _ _ (first_so _ _ s))

    by : (Contains (unreached older (wanted_below wanted d)) c → Contains (reached older (wanted_below wanted d)) c → ⊥)
        → (b : Bool) → Contains (cond b [] (d ∷ []) ++ unreached older (wanted_below wanted d)) c → Contains (cond b (d ∷ []) [] ++ reached older (wanted_below wanted d)) c → ⊥
    by rest true v q = on (Contains-append_cases (d ∷ []) (reached older (wanted_below wanted d)) c q)
      where
        on : Contains (d ∷ []) c ⊎ Contains (reached older (wanted_below wanted d)) c → ⊥
        on (inl e) = not_older d older c new (alone d c e) (of_unreached older (wanted_below wanted d) c v)
        on (inr k) = rest v k
    by rest false v q = on (Contains-append_cases (d ∷ []) (unreached older (wanted_below wanted d)) c v)
      where
        on : Contains (d ∷ []) c ⊎ Contains (unreached older (wanted_below wanted d)) c → ⊥
        on (inl e) = not_older d older c new (alone d c e) (of_reached older (wanted_below wanted d) c q)
        on (inr k) = rest k q

pub parting_law : PartingLaw
parting_law g haves s c = ((either g haves c, back), never_both g haves c s)
  where
    back : Contains (unreached g haves) c ⊎ Contains (reached g haves) c → Contains g c
    back (inl u) = of_unreached g haves c u
    back (inr r) = of_reached g haves c r
