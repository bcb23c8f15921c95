-- Tags that get other commits.
use Rattle.std.proofs.Common.{◌≡◌, ◌⊎◌, inl, inr, List, [], ◌∷◌, ◌++◌, map, Option, None, Some, append-nil, append_assoc, refl, sym, ap, ◌∙◌}
use Rattle.std.specs.Prelude.{if◌then◌else◌, zip}
use Rattle.std.specs.List.{cons_option, filter_map}
use Rattle.std.specs.Option.{option_map}
use Rattle.git_objects.specs.Parts.{name_bytes}
use Rattle.git_objects.specs.Paths.{Bytes}
use Rattle.git_objects.specs.Snapshots.{ancestors, has}
use Rattle.git_objects.specs.declared.name.Name.{Name}
use Rattle.filter_text.specs.Filters.{Filter}
use Rattle.workspace.specs.Workspaces.{shown}
use Rattle.projection_laws.specs.Projections.{projection}
use Rattle.history_ground.specs.Before as before
use Rattle.tag_objects.specs.declared.tag.Tag.{Tag}
use Rattle.state_items.specs.Items.{Held}
use Rattle.repo_ground.specs.Contents.{Contents}
use Rattle.proj_commands.specs.Makes.{IsStateOf}
use Rattle.proj_commands.specs.Tags.{retargeted, retargeted_one, shown_before, shown_tags}
use Rattle.proj_commands.proofs.StatesShown.{commits-are, rule-is}

-- ---- tags, each beside its commit

one-by-one : (r : Tag × Option Bytes → Option Tag) (p : Bytes → Option Bytes) (ts : List Tag) → filter_map r (zip ts (map p (map (λ t. t.target.0) ts))) ≡ filter_map (λ t. r (t, p t.target.0)) ts
one-by-one r p [] = refl
one-by-one r p (t ∷ ts) = ap (cons_option (r (t, p t.target.0))) (one-by-one r p ts)

map-names : (p : Bytes → Option Bytes) (ts : List Tag) → map (λ (n : Name). p n.0) (map (λ t. t.target) ts) ≡ map p (map (λ t. t.target.0) ts)
map-names p [] = refl
map-names p (t ∷ ts) = ap (λ (os : List (Option Bytes)). p t.target.0 ∷ os) (map-names p ts)

module _ (items : List Bytes) (h : Held) (s : Contents) (f : Filter) (n : Bytes) (w : IsStateOf items h s) where
  pub same-before : before.shown_before f s.basis n ≡ shown_before h f n
  same-before = λ i m. if has (ancestors (commits-are items h s f n w i) n) m then option_map (λ c. c.commit) (projection (rule-is h s w.spells i) (shown f) (commits-are items h s f n w i) m) else None

  -- the state's tags, each of the projection of its commit, where that is shown before the head
  pub tags-shown : (names : List Name) (os : List (Option Name)) → names ≡ map (λ t. t.target) s.tags → map (option_map name_bytes) os ≡ map (λ (m : Name). before.shown_before f s.basis n m.0) names
      → filter_map retargeted_one (zip s.tags (map (option_map name_bytes) os)) ≡ shown_tags h f n
  tags-shown names os a b =
      ap (λ (ps : List (Option Bytes)). filter_map retargeted_one (zip s.tags ps))
      (b ∙ ap (map (λ (m : Name). before.shown_before f s.basis n m.0)) a ∙ map-names (before.shown_before f s.basis n) s.tags)
      ∙ one-by-one retargeted_one (before.shown_before f s.basis n) s.tags
      ∙ (λ i. filter_map (λ t. retargeted_one (t, same-before i t.target.0)) (w.spells.tags i))

-- ---- one after another

-- what comes of these tags, beside these commits
abbrev still : List Tag → List (Option Name) → List Tag
still ts os = filter_map retargeted_one (zip ts (map (option_map name_bytes) os))

-- what was found, and behind it what is still to come, is what comes of all
abbrev pub IsGoing : List Tag → List (Option Name) → List Tag → List (Option Name) → List Tag → Type 0
IsGoing tags shown ts os found = found ++ still ts os ≡ still tags shown

none-left : (ts : List Tag) (os : List (Option Name)) → (ts ≡ []) ⊎ (os ≡ []) → still ts os ≡ []
none-left [] os e = refl
none-left (t ∷ ts) [] e = refl
none-left (t ∷ ts) (o ∷ os) (inl e) = cc
none-left (t ∷ ts) (o ∷ os) (inr e) = cc

module _ (tags : List Tag) (shown : List (Option Name)) where
  pub going-first : (ts : List Tag) (os : List (Option Name)) (found : List Tag) → ts ≡ tags → os ≡ shown → found ≡ [] → IsGoing tags shown ts os found
  going-first ts os found p q none = λ i. none i ++ still (p i) (q i)

  module _ (before ts : List Tag) (others os : List (Option Name)) (t : Tag) (o : Option Name) (found : List Tag) (p : before ≡ t ∷ ts) (q : others ≡ o ∷ os) (i : IsGoing tags shown before others found) where
    pub going-none : o ≡ None → IsGoing tags shown ts os found
    going-none e = sym (λ j. found ++ still (p j) ((q ∙ ap (λ x. x ∷ os) e) j)) ∙ i

    pub going-some : (n : Name) (u : Tag) (more : List Tag) → o ≡ Some n → u ≡ retargeted t n.0 → more ≡ found ++ u ∷ [] → IsGoing tags shown ts os more
    going-some n u more e is same =
        ap (λ us. us ++ still ts os) (same ∙ ap (λ v. found ++ v ∷ []) is)
        ∙ append_assoc found (retargeted t n.0 ∷ []) (still ts os)
        ∙ sym (λ j. found ++ still (p j) ((q ∙ ap (λ x. x ∷ os) e) j))
        ∙ i

  pub going-end : (ts : List Tag) (os : List (Option Name)) (found : List Tag) → (ts ≡ []) ⊎ (os ≡ []) → IsGoing tags shown ts os found → found ≡ still tags shown
  going-end ts os found e i = sym (append-nil found) ∙ ap (λ us. found ++ us) (sym (none-left ts os e)) ∙ i
