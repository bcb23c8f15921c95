-- A state has what is held still where its store or its map has grown.
use Rattle.std.proofs.Common.{◌≡◌, ◌+◌, ◌≤◌, ℕ, List, ◌++◌, take, length, if◌then◌else◌, sym, ap, ◌∙◌, arith, length-append}
use Rattle.std.specs.Prelude.{⊤}
use Rattle.std.proofs.lemmas.List.{take-append-le}
use Rattle.git_objects.specs.Paths.{Bytes}
use Rattle.object_store.specs.Growth.{IsGrownBy}
use Rattle.object_store.specs.Objects.{Object, IsStore, object_name}
use Rattle.object_store.proofs.Growth.{found-grown}
use Rattle.commit_map.specs.Rules.{rule_number}
use Rattle.commit_map.specs.Shown.{Entries, kept_at}
use Rattle.projection_ground.specs.Grounds.{IsGround}
use Rattle.projection_ground.specs.declared.ground.Ground.{Ground}
use Rattle.state_items.specs.Items.{Held}
use Rattle.state_items.specs.KeptMaps.{entries_at}
use Rattle.repo_ground.specs.Contents.{Contents, Spells, is_selected}
use Rattle.repo_ground.specs.Laws.{GrownLaw}
use Rattle.filter_apply.proofs.Truths.{are_grown}
use Rattle.projection_ground.proofs.Growing.{graph-grown, maps-grown}

-- a map of which as many entries are kept as of another
abbrev entries_by : Contents → Bytes → ℕ → Entries → Entries
entries_by s text rule kept = if is_selected s.selected text rule then kept else entries_at rule text s.maps

abbrev anything : Object → Type 0
anything o = ⊤

-- the store has grown
grown : (S T newer : List Object) → IsStore T → newer ++ S ≡ T → IsGrownBy anything S T
grown S T newer s e = record { store = s; newer = newer; above = e; all = λ o m. tt }

pub spells-grown : (h : Held) (s : Contents) (g : Ground) (newer : List Object) (added : Entries) → Spells h s → IsStore g.store
    → newer ++ s.basis.store ≡ g.store → s.basis.map ++ added ≡ g.map → g.graph ≡ s.basis.graph → g.rule ≡ s.basis.rule → Spells h (record s { basis = g })
spells-grown h s g newer added w t above e graph rule =
    let a : IsGrownBy anything s.basis.store g.store = grown s.basis.store g.store newer t above in
    let long : length s.basis.map + length added ≡ length g.map = sym (length-append s.basis.map added) ∙ ap length e in
    let few : s.kept ≤ length s.basis.map = w.few in
    let same : take s.kept g.map ≡ take s.kept s.basis.map = ap (take s.kept) (sym e) ∙ take-append-le s.kept s.basis.map added few in
    record {
      store = w.store;
      room = w.room;
      within = λ o m. found-grown s.basis.store g.store (object_name o) o a (w.within o m);
      graph = graph ∙ w.graph;
      known = w.known;
      names = w.names;
      distinct = w.distinct;
      refs = w.refs;
      heads = w.heads;
      entries = λ text rule n r. ap (λ (kept : Entries). kept_at n (entries_by s text rule kept)) same ∙ w.entries text rule n r;
      few = omega (arith, long, few);
      rule = ap rule_number rule ∙ w.rule;
      tags = w.tags;
      rising = w.rising;
    }

-- ---- the ground

pub ground-grown : (g : Ground) (newer S : List Object) → IsGround g → IsStore S → newer ++ g.store ≡ S → IsGround (record g { store = S })
ground-grown g newer S w s e =
    let a : IsGrownBy anything g.store S = grown g.store S newer s e in
    record {
      graph = graph-grown g.store S a g.graph w.graph;
      memo = are_grown g.store S g.tables g.memo a w.memo;
      maps = maps-grown g.store S a g.graph w.graph g.true_maps w.maps;
    }

pub grown-law : GrownLaw
grown-law = record { state = spells-grown; base = ground-grown }
