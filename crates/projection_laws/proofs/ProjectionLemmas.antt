-- A projection stays when newer commits come, and has the shown tree's name.
use Rattle.std.specs.Prelude.{◌≡◌, refl, Bool, true, false, ◌&&◌, cond, List, [], ◌∷◌, find, Option, Some, None, unwrap_or}
use Rattle.std.specs.List.{cons_option}
use Rattle.std.proofs.Common.{ap, ◌∙◌, sym, subst, true≢false}
use Rattle.std.proofs.lemmas.Bool.{and_parts}
use Rattle.std.proofs.lemmas.Option.{none-some, same_Some}
use Rattle.std.specs.Cmp.Lexicographic.{bytes_decides}
use Rattle.git_objects.specs.Paths.{Bytes, is_nil}
use Rattle.git_objects.specs.Trees.{Flat}
use Rattle.git_objects.specs.Names.{tree_name}
use Rattle.git_objects.specs.Commits.{Letter}
use Rattle.commit_map.specs.Shown.{Shown, kept_at}
use Rattle.commit_map.specs.declared.rule.Rule.{Rule}
use Rattle.commit_map.specs.declared.rule.Rule.TheVariants.{One, Two}
use Rattle.git_objects.specs.Snapshots.{Snapshot, Graph, snapshot_name, has_name, has, commit_at, is_graph, add, add_all}
use Rattle.projection_laws.specs.Projections.{shown_of, distinct, known_at, members, leads, Choice, Nothing, Member, New, own, member_or, has_tree, chosen, projected, choice_of, projections, projection}
use Rattle.projection_laws.specs.ProjectionLaws.{IsOf}
use Rattle.projection_laws.proofs.GraphLemmas.{IsGrown, grown, other, has-newer, add-keeps, one-parent}

nil-is : (t : Flat) → is_nil t ≡ true → t ≡ []
nil-is [] e = refl
nil-is (x ∷ t) e = absurd (true≢false (sym e))

none-or : (t : Flat) (c : Snapshot) (b : Bool) → is_nil t ≡ b → c.tree ≡ t → IsOf t (projected (cond b Nothing (New c)))
none-or t c true e h = nil-is t e
none-or t c false e h = ap tree_name h

member-is : (t : Flat) (c : Snapshot) (m : Shown) (b : Bool) → has_tree t m ≡ b → c.tree ≡ t → IsOf t (projected (cond b (Member m) (New c)))
member-is t c m true e h = (bytes_decides m.tree (tree_name t)).0 e
member-is t c m false e h = ap tree_name h

first-is : (t : Flat) (c : Snapshot) (leading : Shown → Bool) (ms : List Shown) → c.tree ≡ t → IsOf t (projected (member_or (find (λ x. has_tree t x && leading x) ms) c))
first-is t c leading [] h = ap tree_name h
first-is t c leading (m ∷ ms) h = by (has_tree t m && leading m) refl (first-is t c leading ms h)
  where
    by : (b : Bool) → (has_tree t m && leading m) ≡ b → IsOf t (projected (member_or (find (λ x. has_tree t x && leading x) ms) c)) → IsOf t (projected (member_or (cond b (Some m) (find (λ x. has_tree t x && leading x) ms)) c))
    by true e k = (bytes_decides m.tree (tree_name t)).0 (and_parts (has_tree t m) (leading m) e).0
    by false e k = k

pub chosen-of : (k : Rule) (leading : Shown → Bool) (t : Flat) (letter : Letter) (ms : List Shown) → IsOf t (projected (chosen k leading t letter ms))
chosen-of k leading t letter [] = none-or t (own t letter []) (is_nil t) refl refl
chosen-of k leading t letter (m ∷ []) = member-is t (own t letter (m ∷ [])) m (has_tree t m) refl refl
chosen-of One leading t letter (m ∷ l ∷ ms) = refl
chosen-of Two leading t letter (m ∷ l ∷ ms) = first-is t (own t letter (m ∷ l ∷ ms)) leading (m ∷ l ∷ ms) refl

module _ (k : Rule) (shown : Flat → Flat) where
  abbrev made : Snapshot → Graph → Option Shown
  made c older = projected (choice_of k shown older (projections k shown [] older) c)

  -- a graph's newest commit, and the others
  pub projection-newest : (c : Snapshot) (older : Graph) (n : Bytes) → projection k shown (c ∷ older) n ≡ cond (has_name n c) (made c older) (projection k shown older n)
  projection-newest c older n = by (has_name n c) (kept_at n (projections k shown [] older))
    where
      by : (b : Bool) (o : Option (Option Shown)) → unwrap_or (cond b (Some (made c older)) o) None ≡ cond b (made c older) (unwrap_or o None)
      by true o = refl
      by false o = refl

  pub projection-newer : (c : Snapshot) (g : Graph) (n : Bytes) → has g (snapshot_name c) ≡ false → has g n ≡ true → projection k shown (c ∷ g) n ≡ projection k shown g n
  projection-newer c g n e h = projection-newest c g n ∙ ap (λ b. cond b (made c g) (projection k shown g n)) (other g c n e h)

  -- a projection carries the shown tree's name, and none means that the shown tree is empty
  pub projection-of : (g : Graph) (n : Bytes) (c : Snapshot) → commit_at g n ≡ Some c → IsOf (shown c.tree) (projection k shown g n)
  projection-of [] n c e = absurd (none-some c e)
  projection-of (d ∷ g) n c e = subst (IsOf (shown c.tree)) (sym (projection-newest d g n)) (by (has_name n d) (projection-of g n c) e)
    where
      by : (b : Bool) → (commit_at g n ≡ Some c → IsOf (shown c.tree) (projection k shown g n)) → cond b (Some d) (commit_at g n) ≡ Some c → IsOf (shown c.tree) (cond b (made d g) (projection k shown g n))
      by true h e =
          subst (λ (x : Snapshot). IsOf (shown x.tree) (made d g)) (same_Some d c e)
          (chosen-of k (leads g (projections k shown [] g) d.parents) (shown d.tree) d.letter (members (projections k shown [] g) d.parents))
      by false h e = h e

  -- ---- a commit with one parent

  -- what becomes of it, by its parent's projection
  abbrev pub upon_one : Option Shown → Flat → Letter → Option Shown
  upon_one None t l = cond (is_nil t) None (Some (shown_of (own t l [])))
  upon_one (Some m) t l = cond (has_tree t m) (Some m) (Some (shown_of (own t l (m ∷ []))))

  made-one : (c : Snapshot) (older : Graph) (h : Bytes) → c.parents ≡ h ∷ [] → made c older ≡ upon_one (projection k shown older h) (shown c.tree) c.letter
  made-one c older h e = (λ i. made (record { tree = c.tree; parents = e i; letter = c.letter }) older) ∙ by (known_at (projections k shown [] older) h)
    where
      yes-or : (b : Bool) (x y : Choice) → projected (cond b x y) ≡ cond b (projected x) (projected y)
      yes-or true x y = refl
      yes-or false x y = refl

      by : (o : Option Shown) → projected (chosen k (leads older (projections k shown [] older) (h ∷ [])) (shown c.tree) c.letter (distinct (cons_option o []))) ≡ upon_one o (shown c.tree) c.letter
      by None = yes-or (is_nil (shown c.tree)) Nothing (New (own (shown c.tree) c.letter []))
      by (Some m) = yes-or (has_tree (shown c.tree) m) (Member m) (New (own (shown c.tree) c.letter (m ∷ [])))

  pub projection-one : (g : Graph) → is_graph g ≡ true → (n : Bytes) (c : Snapshot) (h : Bytes) → commit_at g n ≡ Some c → c.parents ≡ h ∷ [] →
      (projection k shown g n ≡ upon_one (projection k shown g h) (shown c.tree) c.letter) × (has g h ≡ true)
  projection-one [] s n c h e p = absurd (none-some c e)
  projection-one (d ∷ g) s n c h e p =
      let w : IsGrown d g = grown d g s in
      by w (has_name n d) refl (projection-one g w.graph n c h) e
    where
      later : IsGrown d g → has g h ≡ true → upon_one (projection k shown g h) (shown c.tree) c.letter ≡ upon_one (projection k shown (d ∷ g) h) (shown c.tree) c.letter
      later w k' = ap (λ o. upon_one o (shown c.tree) c.letter) (sym (projection-newer d g h w.new k'))

      by : IsGrown d g → (b : Bool) → has_name n d ≡ b
          → (commit_at g n ≡ Some c → c.parents ≡ h ∷ [] → (projection k shown g n ≡ upon_one (projection k shown g h) (shown c.tree) c.letter) × (has g h ≡ true))
          → cond b (Some d) (commit_at g n) ≡ Some c → (projection k shown (d ∷ g) n ≡ upon_one (projection k shown (d ∷ g) h) (shown c.tree) c.letter) × (has (d ∷ g) h ≡ true)
      by w true i ih e =
          let same : d ≡ c = same_Some d c e in
          let q : d.parents ≡ h ∷ [] = ap (λ (x : Snapshot). x.parents) same ∙ p in
          let there : has g h ≡ true = one-parent d h g q w.parents in (
            projection-newest d g n ∙ ap (λ b. cond b (made d g) (projection k shown g n)) i ∙ made-one d g h q
                ∙ ap (λ (x : Snapshot). upon_one (projection k shown g h) (shown x.tree) x.letter) same ∙ later w there,
            has-newer d g h there,
          )
      by w false i ih e =
          let r : (projection k shown g n ≡ upon_one (projection k shown g h) (shown c.tree) c.letter) × (has g h ≡ true) = ih e p in
          (projection-newest d g n ∙ ap (λ b. cond b (made d g) (projection k shown g n)) i ∙ r.0 ∙ later w r.1, has-newer d g h r.1)

  -- ---- commits that are added

  add-at : (g : Graph) (c : Snapshot) (n : Bytes) (b : Bool) → has g (snapshot_name c) ≡ b → has g n ≡ true → projection k shown (cond b g (c ∷ g)) n ≡ projection k shown g n
  add-at g c n true e h = refl
  add-at g c n false e h = projection-newer c g n e h

  pub projection-added : (os : List Snapshot) (g : Graph) (n : Bytes) → has g n ≡ true → projection k shown (add_all g os) n ≡ projection k shown g n
  projection-added [] g n h = refl
  projection-added (o ∷ os) g n h = projection-added os (add g o) n (add-keeps g o n h) ∙ add-at g o n (has g (snapshot_name o)) refl h
