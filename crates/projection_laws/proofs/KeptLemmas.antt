-- With true entries kept each commit gives what it gives from scratch.
use Rattle.std.specs.Prelude.{◌≡◌, refl, true, cond, [], ◌∷◌, Option, Some, None, unwrap_or}
use Rattle.std.specs.Prelude.{List}
use Rattle.std.proofs.Common.{ap, ap₂, sym, ◌∙◌}
use Rattle.git_objects.specs.Paths.{Bytes}
use Rattle.git_objects.specs.Trees.{Flat}
use Rattle.git_objects.proofs.Basics.{same_bytes-self}
use Rattle.commit_map.specs.Shown.{Shown, Entries, kept_at}
use Rattle.commit_map.specs.declared.rule.Rule.{Rule}
use Rattle.git_objects.specs.Snapshots.{Snapshot, Graph, snapshot_name, has, is_graph, add, add_all}
use Rattle.projection_laws.specs.Projections.{choice_of, projected, projection, projections}
use Rattle.projection_laws.specs.ProjectionLaws.{AreTrue, ProjectionLaw, StayLaw}
use Rattle.projection_laws.proofs.GraphLemmas.{IsGrown, add-keeps, grown, has-newer, has-self}
use Rattle.projection_laws.proofs.ProjectionLemmas.{projection-added, projection-newer, projection-newest, projection-of}

module _ (k : Rule) (shown : Flat → Flat) where
  true-older : (c : Snapshot) (g : Graph) (ks : Entries) → IsGrown c g → AreTrue k shown (c ∷ g) ks → AreTrue k shown g ks
  true-older c g ks w t n p e h = t n p e (has-newer c g n h) ∙ projection-newer k shown c g n w.new h

  -- the newest commit itself
  pub itself : (c : Snapshot) (g : Graph) → projection k shown (c ∷ g) (snapshot_name c) ≡ projected (choice_of k shown g (projections k shown [] g) c)
  itself c g = projection-newest k shown c g (snapshot_name c)
      ∙ ap (λ b. cond b (projected (choice_of k shown g (projections k shown [] g) c)) (projection k shown g (snapshot_name c))) (same_bytes-self (snapshot_name c))

  kept-or : (o : Option (Option Shown)) (x y : Option Shown) → x ≡ y → ((p : Option Shown) → o ≡ Some p → p ≡ y) → unwrap_or o x ≡ y
  kept-or None x y e h = e
  kept-or (Some p) x y e h = h p refl

  pub kept-same : (g : Graph) (ks : Entries) → is_graph g ≡ true → AreTrue k shown g ks → projections k shown ks g ≡ projections k shown [] g
  kept-same [] ks s t = refl
  kept-same (c ∷ g) ks s t =
      let w : IsGrown c g = grown c g s in
      let below : projections k shown ks g ≡ projections k shown [] g = kept-same g ks w.graph (true-older c g ks w t) in
      ap₂ (λ x y. (snapshot_name c, x) ∷ y)
      (kept-or (kept_at (snapshot_name c) ks) (projected (choice_of k shown g (projections k shown ks g) c)) (projected (choice_of k shown g (projections k shown [] g) c))
      (ap (λ z. projected (choice_of k shown g z c)) below)
      (λ p e. t (snapshot_name c) p e (has-self c g) ∙ itself c g)) below

pub the_law : ProjectionLaw
the_law = record { tree = λ k s g n c e. projection-of k s g n c e; added = λ k s cs g n h. projection-added k s cs g n h; kept = λ k s g ks e t. kept-same k s g ks e t }

-- ---- commits that are added

has-added : (cs : List Snapshot) (g : Graph) (n : Bytes) → has g n ≡ true → has (add_all g cs) n ≡ true
has-added [] g n h = h
has-added (c ∷ cs) g n h = has-added cs (add g c) n (add-keeps g c n h)

pub the_stay : StayLaw
the_stay = record {
  of = λ cs g kept o n p e. has-added cs g n (o n p e);
  values = λ k s cs g kept o t n p e h. t n p e (o n p e) ∙ sym (projection-added k s cs g n (o n p e));
}
