-- What is gathered of items, and what they hold.
use Rattle.std.proofs.Common.{◌≡◌, ℕ, Bool, true, false, cond, List, [], map, reverse, None, Result, Ok, Err, refl, sym, ap, subst, ◌∙◌}
use Rattle.std.specs.Prelude.{◌==◌, MatchResult, OnOk}
use Rattle.std.specs.Option.{unwrap_or}
use Rattle.std.proofs.lemmas.List.{reverse-reverse}
use Rattle.git_objects.specs.Paths.{Bytes}
use Rattle.git_objects.specs.Parts.{name_bytes}
use Rattle.git_objects.specs.Refs.{Refs}
use Rattle.git_objects.specs.declared.name.Name.{Name}
use Rattle.object_store.specs.Objects.{Object, object_name, IsStore}
use Rattle.commit_graph.specs.Graphs.{Row}
use Rattle.ref_store.specs.Refs.{AreDistinct}
use Rattle.tag_objects.specs.TagLists.{rise}
use Rattle.tag_objects.specs.declared.tag.Tag.{Tag}
use Rattle.state_items.specs.Items.{Held, has_room, nothing, read_item}
use Rattle.state_items.specs.Changes.{with_refs}
use Rattle.state_items.specs.Arrivals.{AreHeld, blobs_of, rows_of}
use Rattle.state_items.specs.KeptMaps.{RuleMaps, AreKept, map_of, no_maps}
use Rattle.state_items.specs.Readings.{Gathered, Holds, parts_of}
use Rattle.state_items.specs.Steps.{Parts, are_heads, item_step}
use Rattle.state_items.specs.Stops.{IsStop}
use Rattle.state_items.specs.declared.fault.ItemFault.{ItemFault}
use Rattle.state_items.proofs.ItemTags.{item-rises}
use Rattle.state_items.proofs.ItemSteps.{AreParts, item-match, stop-match, value-match}

-- what the code's fields show
abbrev pub shown : List Object → List Name → List Row → List Name → Refs → RuleMaps → ℕ → List Tag → Bytes → Gathered
shown S names rows blobs refs maps rule tags piece =
    record { objects = S; names = map name_bytes names; rows = rows; blobs = map name_bytes blobs; refs = refs; maps = maps; rule = rule; tags = tags; piece = piece }

module _ (h : Held) (S : List Object) (names : List Name) (rows : List Row) (blobs : List Name) (refs : Refs) (maps : RuleMaps) (rule : ℕ) (tags : List Tag) (piece : Bytes) where
  pub held-from : Holds h (shown S names rows blobs refs maps rule tags piece) → AreHeld S names rows blobs
  held-from g = record {
    whole = subst IsStore (sym g.objects) g.store;
    named = ap reverse g.names ∙ reverse-reverse (map object_name h.objects) ∙ ap (map object_name) (sym g.objects);
    graph = g.graph ∙ ap rows_of (sym g.objects);
    known = g.known ∙ ap blobs_of (sym g.objects);
    room = ap has_room g.objects ∙ g.room;
  }

  pub heads-from : Holds h (shown S names rows blobs refs maps rule tags piece) → are_heads S (with_refs [] refs) ≡ true
  heads-from g = (λ i. are_heads (g.objects i) (g.refs i)) ∙ g.heads

  pub parts-from : Holds h (shown S names rows blobs refs maps rule tags piece) → AreParts (parts_of S refs maps rule tags) h
  parts-from g = record { objects = g.objects; refs = g.refs; maps = g.kept; rule = g.rule; tags = g.tags }

  pub holds-of : AreHeld S names rows blobs → are_heads S (with_refs [] refs) ≡ true → AreDistinct refs → AreParts (parts_of S refs maps rule tags) h → rise None h.tags ≡ true → Holds h (shown S names rows blobs refs maps rule tags piece)
  holds-of a e d p r = record {
    store = subst IsStore p.objects a.whole;
    room = ap has_room (sym p.objects) ∙ a.room;
    objects = p.objects;
    names = sym (reverse-reverse (map name_bytes names)) ∙ ap reverse a.named ∙ ap (λ (T : List Object). reverse (map object_name T)) p.objects;
    graph = a.graph ∙ ap rows_of p.objects;
    known = a.known ∙ ap blobs_of p.objects;
    distinct = d;
    refs = p.refs;
    heads = (λ i. are_heads (sym p.objects i) (sym p.refs i)) ∙ e;
    kept = p.maps;
    rule = p.rule;
    tags = p.tags;
    rising = r;
  }

-- nothing was gathered
pub holds-nothing : (S : List Object) (names : List Name) (rows : List Row) (blobs : List Name) (refs : Refs) (maps : RuleMaps) (rule : ℕ) (tags : List Tag) (piece : Bytes)
    → AreHeld S names rows blobs → S ≡ [] → refs ≡ [] → maps ≡ no_maps → rule ≡ 1 → tags ≡ [] → Holds nothing (shown S names rows blobs refs maps rule tags piece)
holds-nothing S names rows blobs refs maps rule tags piece a s r m k x =
    holds-of nothing S names rows blobs refs maps rule tags piece a ((λ i. are_heads (s i) (with_refs [] (r i))) ∙ refl)
    (subst AreDistinct (sym r) (λ i j x y e f q. absurd (cc e)))
    (record { objects = s; refs = ap (with_refs []) r; maps = subst (λ (q : RuleMaps). AreKept q []) (sym m) none; rule = k; tags = x }) refl
  where
    none : AreKept no_maps []
    none text n g = by (n == 1)
      where
        by : (b : Bool) → unwrap_or (map_of text (cond b [] [])) [] ≡ []
        by true = refl
        by false = refl

-- a read that gave parts, with all that stands beside them, gives what the items hold then
module _ (h : Held) (p : Parts) (item : Bytes) (S : List Object) (names : List Name) (rows : List Row) (blobs : List Name) (refs : Refs) (maps : RuleMaps) (rule : ℕ) (tags : List Tag) (piece : Bytes) where
  pub read-on : (read : Result (Unit {0}) ItemFault) → AreParts p h → rise None h.tags ≡ true → OnOk read (AreHeld S names rows blobs) → OnOk read (are_heads S (with_refs [] refs) ≡ true) → OnOk read (AreDistinct refs)
      → MatchResult read (λ _. item_step p item ≡ Ok (parts_of S refs maps rule tags)) (λ stop. IsStop stop (item_step p item))
      → MatchResult read (λ _. (g : Held) × (read_item h item ≡ Ok g) × Holds g (shown S names rows blobs refs maps rule tags piece)) (λ stop. IsStop stop (read_item h item))
  read-on (Ok x) t r a e d m =
      let is = value-match AreParts (item_step p item) (read_item h item) (parts_of S refs maps rule tags) (item-match h p t item) m in
      (is.value, is.read, holds-of is.value S names rows blobs refs maps rule tags piece a e d is.stands (item-rises h is.value item r is.read))
  read-on (Err stop) t r a e d m = stop-match AreParts (item_step p item) (read_item h item) stop (item-match h p t item) m
