-- Commits of a graph that a store has: they may be written, their text is that by the graph's trees, and it is read again.
use Rattle.std.proofs.Common.{◌≡◌, ◌≤◌, Bool, true, false, List, [], ◌∷◌, ◌++◌, map, reverse, length, Some, Err, sym, ap, subst, ◌∙◌}
use Rattle.std.specs.Prelude.{replicate}
use Rattle.std.specs.List.{list_all}
use Rattle.std.proofs.lemmas.Bool.{and_parts}
use Rattle.git_objects.specs.Lists.{Each}
use Rattle.git_objects.specs.Paths.{Bytes, same_bytes}
use Rattle.git_objects.specs.Snapshots.{Graph, Snapshot, has, is_graph, snapshot_name, tree_at}
use Rattle.git_objects.specs.Trees.{Flat}
use Rattle.git_objects.specs.declared.limits.TheConstants.{STREAM_BYTES}
use Rattle.object_store.specs.Objects.{IsStore, Object}
use Rattle.path_names.specs.RefNames.{is_ref_name}
use Rattle.stream_reader.specs.declared.fault.StreamFault.TheVariants.{Limit}
use Rattle.fast_import.specs.Replays.{Base, replay, tagged_replay, value_at}
use Rattle.fast_export.specs.ExportTexts.{is_among}
use Rattle.fast_export.specs.Histories.{snapshots_at}
use Rattle.incremental_export.specs.ChangeTexts.{changes_text}
use Rattle.incremental_export.specs.Histories.{AreCommitsIn, HasParents, IsThere, StoredNewLaw, tree_in}
use Rattle.incremental_export.specs.Laws.{AreNewUpon, IsReadUpon, ReadUponLaw}
use Rattle.incremental_export.specs.TagLaws.{IsTaggedUpon, TaggedUponLaw, tagged_changes}
use Rattle.tag_objects.specs.Tags.{tags_text}
use Rattle.tag_objects.specs.declared.tag.Tag.{Tag}
use Rattle.fast_export.specs.TagLaws.{AreTagsOf}
use Rattle.projection_laws.proofs.HistoryLemmas.{each-map, each-reverse}
use Rattle.read_cli.specs.Answers.{HasOthers, IsReadBackUpon, IsTaggedBackUpon}
use Rattle.incremental_export.proofs.StoredUnreached.{IsFound, own_parents}
use Rattle.read_cli.proofs.FoundCommits.{snapshots-of, tree-same}
use Rattle.read_cli.proofs.GraphParts.{IsPart, held-names, names, parents-within, part-behind, part-distinct, part-each}
use Rattle.read_cli.proofs.SameTexts.{Agree, text-same}

each-both : {A : Type 0} (P Q R : A → Type 0) → ((x : A) → P x → Q x → R x) → (xs : List A) → Each P xs → Each Q xs → Each R xs
each-both P Q R f [] h k = tt
each-both P Q R f (x ∷ xs) h k = (f x h.0 k.0, each-both P Q R f xs h.1 k.1)

all-each : (test : Bytes → Bool) (ns : List Bytes) → list_all test ns ≡ true → Each (λ n. test n ≡ true) ns
all-each test [] h = tt
all-each test (n ∷ ns) h = let w = and_parts (test n) (list_all test ns) h in (w.0, all-each test ns w.1)

each-names : (P : Bytes → Type 0) (cs : List Snapshot) → Each (λ c. P (snapshot_name c)) cs → Each P (map snapshot_name cs)
each-names P [] h = tt
each-names P (c ∷ cs) h = (h.0, each-names P cs h.1)

module _ (S : List Object) (store : IsStore S) (g : Graph) (graph : is_graph g ≡ true) (found : Each (IsFound S) g) (cs : Graph) (part : IsPart cs g) where
  found-part : Each (IsFound S) cs
  found-part = part-each (IsFound S) g cs part found

  pub commits-in : AreCommitsIn S (names cs)
  commits-in = record { held = held-names S cs found-part; distinct = part-distinct g cs graph part }

  pub snapshots-are : snapshots_at S (names cs) ≡ reverse cs
  snapshots-are = snapshots-of S cs found-part

  -- each parent's tree is that in the graph
  trees-agree : Each (λ c. Each (λ p. tree_in S p ≡ tree_at g p) c.parents) cs
  trees-agree =
      part-each (λ c. Each (λ p. tree_in S p ≡ tree_at g p) c.parents) g cs part
      (each-map (λ c. list_all (has g) c.parents ≡ true) (λ c. Each (λ p. tree_in S p ≡ tree_at g p) c.parents)
      (λ c h. each-map (λ p. has g p ≡ true) (λ p. tree_in S p ≡ tree_at g p) (λ p k. tree-same S g found p k) c.parents (all-each (has g) c.parents h))
      g (parents-within g graph))

  agree : Agree (tree_in S) (tree_at g) (reverse cs)
  agree = each-reverse (λ c. Each (λ p. tree_in S p ≡ tree_at g p) c.parents) cs trees-agree

  pub text-is : (refname : Bytes) → changes_text (tree_in S) (snapshots_at S (names cs)) refname ≡ changes_text (tree_at g) (reverse cs) refname
  text-is refname = ap (λ (ds : List Snapshot). changes_text (tree_in S) ds refname) snapshots-are ∙ text-same (tree_in S) (tree_at g) (reverse cs) refname agree

  -- ---- it is read again

  abbrev Other : Base → (Bytes → Flat) → Bytes → Type 0
  Other base tree_of p = (is_among p (names cs) ≡ false → value_at p base.commits ≡ Some (tree_of p)) × (same_bytes p (replicate 20 0) ≡ false)

  others-there : (base : Base) → HasOthers (tree_at g) base (reverse cs) → Each (HasParents S base (names cs)) (names cs)
  others-there base others =
      each-names (HasParents S base (names cs)) (reverse cs)
      (each-both (λ c. IsFound S c) (λ c. Each (Other base (tree_in S)) c.parents) (λ c. HasParents S base (names cs) (snapshot_name c))
      (λ c f h. subst (λ (ps : List Bytes). Each (λ p. IsThere S base (names cs) p × (same_bytes p (replicate 20 0) ≡ false)) ps) (sym (own_parents S c f)) h)
      (reverse cs) (each-reverse (IsFound S) cs found-part)
      (each-both (λ c. Each (Other base (tree_at g)) c.parents) (λ c. Each (λ p. tree_in S p ≡ tree_at g p) c.parents) (λ c. Each (Other base (tree_in S)) c.parents)
      (λ c h a. each-both (Other base (tree_at g)) (λ p. tree_in S p ≡ tree_at g p) (Other base (tree_in S)) (λ p x e. (λ k. x.0 k ∙ ap Some (sym e), x.1)) c.parents h a)
      (reverse cs) others agree))

  upon-others : StoredNewLaw → (base : Base) → HasOthers (tree_at g) base (reverse cs) → AreNewUpon (tree_in S) base [] (reverse cs)
  upon-others stored base others =
      let new = stored S base (names cs) store commits-in (part-behind S g cs graph found part) (others-there base others) in
      subst (AreNewUpon (tree_in S) base []) snapshots-are new.upon

  pub read-back : ReadUponLaw → StoredNewLaw → (refname : Bytes) → is_ref_name refname ≡ true → IsReadBackUpon (tree_at g) (reverse cs) refname
  read-back law stored refname named = λ base others zeros short limits.
      let upon = upon-others stored base others in
      let same : changes_text (tree_in S) (reverse cs) refname ≡ changes_text (tree_at g) (reverse cs) refname = text-same (tree_in S) (tree_at g) (reverse cs) refname agree in
      subst (λ (t : Bytes). IsReadUpon base t (reverse cs) refname) same
      (law (tree_in S) base (reverse cs) refname upon named zeros
      (subst (λ (t : Bytes). length t ≤ STREAM_BYTES) (sym same) short)
      (λ at which e. limits at which (subst (λ (t : Bytes). replay base t ≡ Err (Limit at which)) same e)))

  pub tagged-back : TaggedUponLaw → StoredNewLaw → (refname : Bytes) → is_ref_name refname ≡ true → (ts : List Tag) → AreTagsOf (reverse cs) ts → IsTaggedBackUpon (tree_at g) (reverse cs) refname ts
  tagged-back law stored refname named ts tags = λ base others zeros short limits.
      let same : tagged_changes (tree_in S) (reverse cs) refname ts ≡ tagged_changes (tree_at g) (reverse cs) refname ts = λ i. text-same (tree_in S) (tree_at g) (reverse cs) refname agree i ++ tags_text ts in
      subst (λ (t : Bytes). IsTaggedUpon base t (reverse cs) refname ts) same
      (law (tree_in S) base (reverse cs) refname ts (upon-others stored base others) named zeros tags
      (subst (λ (t : Bytes). length t ≤ STREAM_BYTES) (sym same) short)
      (λ at which e. limits at which (subst (λ (t : Bytes). tagged_replay base t ≡ Err (Limit at which)) same e)))
