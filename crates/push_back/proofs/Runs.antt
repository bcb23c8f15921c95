-- Originals one after another.
use Rattle.std.proofs.Common.{◌≡◌, inl, inr, ℕ, suc, ◌+◌, ◌<◌, ◌≤◌, true, List, [], ◌∷◌, ◌++◌, length, drop, get_or, Option, Some, Result, Ok, Err, IfOk, IfErr, IsOkAnd, refl, sym, ap, subst, ◌∙◌, arith, append-nil, append_assoc, drop-cons}
use Rattle.std.specs.Result.{result_err}
use Rattle.std.proofs.lemmas.List.{drop_all}
use Rattle.git_objects.specs.Paths.{Bytes}
use Rattle.git_objects.specs.Trees.{Flat}
use Rattle.git_objects.specs.Names.{tree_name}
use Rattle.git_objects.specs.Snapshots.{Snapshot, snapshot_name}
use Rattle.git_objects.specs.declared.kind.Kind.TheVariants.{Tree, Commit as CommitKind}
use Rattle.git_objects.specs.declared.name.Name.{Name}
use Rattle.object_store.specs.Growth.{IsGrownBy}
use Rattle.object_store.specs.Objects.{Object, IsStore, has}
use Rattle.object_store.specs.Unfolding.{flat}
use Rattle.object_store.proofs.Unfolding.{unfolding_law}
use Rattle.filter_text.specs.Filters.{Filter}
use Rattle.projection_ground.specs.Grounds.{IsGround}
use Rattle.projection_ground.specs.declared.ground.Ground.{Ground}
use Rattle.fast_import.specs.Standing.{AreCommitsIn, IsCommitIn}
use Rattle.fast_import.specs.declared.replayed.Made.{Made}
use Rattle.fast_import.proofs.Growing.{commits-grown}
use Rattle.push_laws.specs.PushVerdicts.{Pair, Refusal, Verdict, original_of, original_tree, upon, verdict_from, with_pair}
use Rattle.push_laws.specs.Pushes.{made_from, made_upon}
use Rattle.push_back.specs.Originals.{AreNamedIn, AreOriginals, Grows, IsMadeFor, IsMadeOne, IsMadeUpon, IsOriginal, IsOriginalError}
use Rattle.push_back.specs.Refusals.{IsRefusedBy}
use Rattle.push_back.specs.declared.refusal.TreeRefusal.{TreeRefusal}
use Rattle.push_back.proofs.LaidTrees.{grows-as, grows-self, grows-then, refused-as}
use Rattle.push_back.proofs.OneOriginal.{commit-has, commit-in-grown, ok-and}

-- ---- verdicts

pair-err : (p : Pair) (v : Verdict) → result_err (with_pair p v) ≡ result_err v
pair-err p (Ok ps) = refl
pair-err p (Err e) = refl

abbrev refused : Verdict → Option (ℕ × Refusal)
refused v = result_err v

abbrev pair_of : Bytes → Snapshot → Flat → Pair
pair_of h c u = record { pushed = c; original = original_of h c u }

module _ (f : Filter) (n : ℕ) (h : Bytes) (t seen : Flat) (c : Snapshot) (cs : List Snapshot) where
  abbrev later : Flat → Verdict
  later u = verdict_from f (n + 1) (snapshot_name (original_of h c u)) u c.tree cs

  verdict-ok : (u : Flat) → original_tree f t seen c.tree ≡ Ok u → refused (verdict_from f n h t seen (c ∷ cs)) ≡ refused (later u)
  verdict-ok u e = ap (λ (r : Result Flat Refusal). refused (upon n r (λ u. with_pair (pair_of h c u) (later u)))) e ∙ pair-err (pair_of h c u) (later u)

  verdict-err : (r : Refusal) → original_tree f t seen c.tree ≡ Err r → refused (verdict_from f n h t seen (c ∷ cs)) ≡ Some (n, r)
  verdict-err r e = ap (λ (x : Result Flat Refusal). refused (upon n x (λ u. with_pair (pair_of h c u) (later u)))) e

  made-ok : (u : Flat) → original_tree f t seen c.tree ≡ Ok u
      → made_from f h t seen (c ∷ cs) ≡ original_of h c u ∷ made_from f (snapshot_name (original_of h c u)) u c.tree cs
  made-ok u e = ap (λ (r : Result Flat Refusal). made_upon h c r (λ u. made_from f (snapshot_name (original_of h c u)) u c.tree cs)) e

  object-ok : (u : Flat) → original_tree f t seen c.tree ≡ Ok u → (o : Object) → IsMadeFor f (snapshot_name (original_of h c u)) u c.tree cs o → IsMadeFor f h t seen (c ∷ cs) o
  object-ok u e o x = inr (subst (λ (r : Result Flat Refusal). IsMadeUpon h c r (λ u. IsMadeFor f (snapshot_name (original_of h c u)) u c.tree cs o) o) (sym e) (inr x))

  upon-more : (r : Result Flat Refusal) (more : Flat → Type 0) (o : Object) → IsMadeUpon h c r (λ u. ⊥) o → IsMadeUpon h c r more o
  upon-more (Ok u) more o (inl x) = inl x
  upon-more (Ok u) more o (inr x) = absurd x
  upon-more (Err e) more o x = absurd x

  object-one : (o : Object) → IsMadeOne f h t seen c o → IsMadeFor f h t seen (c ∷ cs) o
  object-one o (inl x) = inl x
  object-one o (inr x) = inr (upon-more (original_tree f t seen c.tree) (λ u. IsMadeFor f (snapshot_name (original_of h c u)) u c.tree cs o) o x)

err-is : (v : Verdict) (x : ℕ × Refusal) → result_err v ≡ Some x → v ≡ Err x
err-is (Ok ps) x e = cc
err-is (Err y) x e = let q : y ≡ x = cc in ap Err q

-- ---- names of commits

abbrev as_made : Name → Snapshot → Made
as_made n c = record { name = n; tree = record { 0 = tree_name c.tree } }

as-named : (S : List Object) (m : Made) (c : Snapshot) → IsStore S → IsCommitIn S m c → IsCommitIn S (as_made m.name c) c
as-named S m c s k =
    let named : m.tree.0 ≡ tree_name c.tree = sym (unfolding_law S m.tree.0 s k.stands.held).named ∙ ap tree_name k.stands.map in
    record {
      named = k.named;
      held = k.held;
      stands = record { held = ap (has Tree S) (sym named) ∙ k.stands.held; map = ap (flat S) (sym named) ∙ k.stands.map };
    }

named-grown : {made : Object → Type 0} (S T : List Object) (g : IsGrownBy made S T) (ns : List Name) (cs : List Snapshot) → AreNamedIn S ns cs → AreNamedIn T ns cs
named-grown S T g [] [] h = tt
named-grown S T g [] (c ∷ cs) h = absurd h
named-grown S T g (n ∷ ns) [] h = absurd h
named-grown S T g (n ∷ ns) (c ∷ cs) h = (commit-in-grown S T (as_made n c) c g h.0, named-grown S T g ns cs h.1)

named-more : (S : List Object) (ns : List Name) (cs : List Snapshot) (n : Name) (c : Snapshot) → AreNamedIn S ns cs → IsCommitIn S (as_made n c) c → AreNamedIn S (ns ++ n ∷ []) (cs ++ c ∷ [])
named-more S [] [] n c h k = (k, tt)
named-more S [] (d ∷ cs) n c h k = absurd h
named-more S (m ∷ ns) [] n c h k = absurd h
named-more S (m ∷ ns) (d ∷ cs) n c h k = (h.0, named-more S ns cs n c h.1 k)

-- ---- how far a run has come

-- The commits so far have the originals of these names, the last of which is `before`; the last of them shows `shown`. What is left
-- of the run is a run upon these.
pub record IsUpTo (f : Filter) (h : Bytes) (t seen : Flat) (cs : List Snapshot) (g g' : Ground) (names : List Name) (before : Made) (shown : Name) (number : ℕ) (left : List Made) : Type 0 where
  pub rest : List Snapshot
  pub standing : AreCommitsIn g'.store left rest
  pub originals : List Snapshot
  pub named : AreNamedIn g'.store names originals
  pub made : made_from f h t seen cs ≡ originals ++ made_from f before.name.0 (flat g'.store before.tree.0) (flat g'.store shown.0) rest
  pub refusal : result_err (verdict_from f 1 h t seen cs) ≡ result_err (verdict_from f (number + 1) before.name.0 (flat g'.store before.tree.0) (flat g'.store shown.0) rest)
  pub objects : (o : Object) → IsMadeFor f before.name.0 (flat g'.store before.tree.0) (flat g'.store shown.0) rest o → IsMadeFor f h t seen cs o
  pub same : Grows (IsMadeFor f h t seen cs) g g'

pub up-to-none : (f : Filter) (cs : List Snapshot) (g : Ground) (before : Made) (shown : Name) (ms : List Made) → IsGround g → AreCommitsIn g.store ms cs
    → IsUpTo f before.name.0 (flat g.store before.tree.0) (flat g.store shown.0) cs g g [] before shown 0 ms
up-to-none f cs g before shown ms w k = record {
  rest = cs;
  standing = k;
  originals = [];
  named = tt;
  made = refl;
  refusal = refl;
  objects = λ o x. x;
  same = grows-self (IsMadeFor f before.name.0 (flat g.store before.tree.0) (flat g.store shown.0) cs) g w;
}

-- the first of commits, and those behind it
pub record IsFirst (S : List Object) (m : Made) (left : List Made) (cs : List Snapshot) : Type 0 where
  pub commit : Snapshot
  pub rest : List Snapshot
  pub all : cs ≡ commit ∷ rest
  pub stands : IsCommitIn S m commit
  pub behind : AreCommitsIn S left rest

first-of : (S : List Object) (m : Made) (left : List Made) (cs : List Snapshot) → AreCommitsIn S (m ∷ left) cs → IsFirst S m left cs
first-of S m left [] h = absurd h
first-of S m left (c ∷ cs) h = record { commit = c; rest = cs; all = refl; stands = h.0; behind = h.1 }

module _ (f : Filter) (h : Bytes) (t seen : Flat) (cs : List Snapshot) (g k : Ground) (names : List Name) (before : Made) (shown : Name) (number : ℕ) (m : Made) (left : List Made)
    (u : IsUpTo f h t seen cs g k names before shown number (m ∷ left)) where
  abbrev tb : Flat
  tb = flat k.store before.tree.0

  abbrev sb : Flat
  sb = flat k.store shown.0

  pub next-first : IsFirst k.store m left u.rest
  next-first = first-of k.store m left u.rest u.standing

  abbrev d : Snapshot
  d = next-first.commit

  abbrev ds : List Snapshot
  ds = next-first.rest

  objects-of : (o : Object) → IsMadeFor f before.name.0 tb sb (d ∷ ds) o → IsMadeFor f h t seen cs o
  objects-of = subst (λ (xs : List Snapshot). (o : Object) → IsMadeFor f before.name.0 tb sb xs o → IsMadeFor f h t seen cs o) next-first.all u.objects

  refusal-of : result_err (verdict_from f 1 h t seen cs) ≡ result_err (verdict_from f (number + 1) before.name.0 tb sb (d ∷ ds))
  refusal-of = u.refusal ∙ ap (λ (xs : List Snapshot). result_err (verdict_from f (number + 1) before.name.0 tb sb xs)) next-first.all

  made-of : made_from f h t seen cs ≡ u.originals ++ made_from f before.name.0 tb sb (d ∷ ds)
  made-of = u.made ∙ ap (λ (xs : List Snapshot). u.originals ++ made_from f before.name.0 tb sb xs) next-first.all

  one-object : (o : Object) → IsMadeOne f before.name.0 tb sb d o → IsMadeFor f h t seen cs o
  one-object o x = objects-of o (object-one f number before.name.0 tb sb d ds o x)

  module _ (k' : Ground) (r : Result Made TreeRefusal) (a : IsOriginal f before.name.0 tb sb d k k' r) where
    pub run-grows : Grows (IsMadeFor f h t seen cs) g k'
    run-grows = grows-then (IsMadeFor f h t seen cs) g k k' u.same (grows-as (IsMadeOne f before.name.0 tb sb d) (IsMadeFor f h t seen cs) k k' one-object a.same)

    pub run-refused : (e : TreeRefusal) (n : ℕ) → n ≡ number + 1 → r ≡ Err e → IsOriginalError f h t seen cs k'.store (record { n = n; refusal = e })
    run-refused e n q x =
        refused-as (λ y. original_tree f tb sb d.tree ≡ Err y) (λ y. verdict_from f 1 h t seen cs ≡ Err (n, y)) (IsMadeOne f before.name.0 tb sb d) (IsMadeFor f h t seen cs) k'.store
        (λ y z. err-is (verdict_from f 1 h t seen cs) (n, y) (refusal-of ∙ verdict-err f (number + 1) before.name.0 tb sb d ds y z ∙ ap (λ i. Some (i, y)) (sym q)))
        one-object e (subst (λ (v : Result Made TreeRefusal). IfErr v (IsRefusedBy (λ y. original_tree f tb sb d.tree ≡ Err y) (IsMadeOne f before.name.0 tb sb d) k'.store)) x a.err)

    module _ (o : Made) (x : r ≡ Ok o) where
      known : (v : Flat) × (original_tree f tb sb d.tree ≡ Ok v) × IsCommitIn k'.store o (original_of before.name.0 d v)
      known = ok-and (original_tree f tb sb d.tree) (λ v. IsCommitIn k'.store o (original_of before.name.0 d v))
          (subst (λ (y : Result Made TreeRefusal). IfOk y (λ z. IsOkAnd (original_tree f tb sb d.tree) (λ v. IsCommitIn k'.store z (original_of before.name.0 d v)))) x a.ok)

      abbrev v : Flat
      v = known.0

      abbrev orig : Snapshot
      orig = original_of before.name.0 d known.0

      grown : IsGrownBy (IsMadeOne f before.name.0 tb sb d) k.store k'.store
      grown = a.same.extends.store

      here : IsCommitIn k'.store m d
      here = commit-in-grown k.store k'.store m d grown next-first.stands

      -- the run upon the original
      abbrev At : (Bytes → Flat → Flat → Type 0) → Type 0
      At P = P o.name.0 (flat k'.store o.tree.0) (flat k'.store m.tree.0)

      at-original : (P : Bytes → Flat → Flat → Type 0) → P (snapshot_name orig) known.0 d.tree → At P
      at-original P p =
          subst (λ (n : Bytes). P n (flat k'.store o.tree.0) (flat k'.store m.tree.0)) known.2.named
          (subst (λ (z : Flat). P (snapshot_name orig) z (flat k'.store m.tree.0)) (sym known.2.stands.map)
          (subst (λ (z : Flat). P (snapshot_name orig) known.0 z) (sym here.stands.map) p))

      pub run-more : IsUpTo f h t seen cs g k' (names ++ o.name ∷ []) o m.tree (number + 1) left
      run-more = record {
        rest = ds;
        standing = commits-grown k.store k'.store grown left ds next-first.behind;
        originals = u.originals ++ orig ∷ [];
        named = named-more k'.store names u.originals o.name orig (named-grown k.store k'.store grown names u.originals u.named)
            (as-named k'.store o orig a.same.extends.ground.graph.store known.2);
        made = at-original (λ n y z. made_from f h t seen cs ≡ (u.originals ++ orig ∷ []) ++ made_from f n y z ds)
            (made-of ∙ ap (λ (xs : List Snapshot). u.originals ++ xs) (made-ok f (number + 1) before.name.0 tb sb d ds known.0 known.1)
            ∙ sym (append_assoc u.originals (orig ∷ []) (made_from f (snapshot_name orig) known.0 d.tree ds)));
        refusal = at-original (λ n y z. result_err (verdict_from f 1 h t seen cs) ≡ result_err (verdict_from f (number + 1 + 1) n y z ds))
            (refusal-of ∙ verdict-ok f (number + 1) before.name.0 tb sb d ds known.0 known.1);
        objects = at-original (λ n y z. (o : Object) → IsMadeFor f n y z ds o → IsMadeFor f h t seen cs o)
            (λ b y. objects-of b (object-ok f (number + 1) before.name.0 tb sb d ds known.0 known.1 b y));
        same = run-grows;
      }

      pub more-head : has CommitKind k'.store o.name.0 ≡ true
      more-head = commit-has k'.store o orig known.2

      pub more-base : has Tree k'.store o.tree.0 ≡ true
      more-base = known.2.stands.held

      pub more-seen : has Tree k'.store m.tree.0 ≡ true
      more-seen = here.stands.held

-- the end of a run
none-left : (S : List Object) (cs : List Snapshot) → AreCommitsIn S [] cs → cs ≡ []
none-left S [] h = refl
none-left S (c ∷ cs) h = absurd h

pub run-end : (f : Filter) (h : Bytes) (t seen : Flat) (cs : List Snapshot) (g k : Ground) (names : List Name) (before : Made) (shown : Name) (number : ℕ) → IsUpTo f h t seen cs g k names before shown number []
    → AreOriginals f h t seen cs k.store names
run-end f h t seen cs g k names before shown number u =
    let none = none-left k.store u.rest u.standing in
    record {
      accepted = u.refusal ∙ ap (λ (xs : List Snapshot). result_err (verdict_from f (number + 1) before.name.0 (flat k.store before.tree.0) (flat k.store shown.0) xs)) none;
      made = subst (λ (xs : List Snapshot). AreNamedIn k.store names xs)
          (sym (u.made ∙ ap (λ (xs : List Snapshot). u.originals ++ made_from f before.name.0 (flat k.store before.tree.0) (flat k.store shown.0) xs) none ∙ append-nil u.originals))
          u.named;
    }

-- ---- what is left of a list

pub left-cons : (ms : List Made) (i : ℕ) → i < length ms → drop i ms ≡ get_or ms i (record { name = record { 0 = [] }; tree = record { 0 = [] } }) ∷ drop (i + 1) ms
left-cons ms i l = drop-cons ms i (record { name = record { 0 = [] }; tree = record { 0 = [] } }) l ∙ ap (λ n. get_or ms i (record { name = record { 0 = [] }; tree = record { 0 = [] } }) ∷ drop n ms) (let q : suc i ≡ i + 1 = omega arith in q)

pub left-none : (ms : List Made) (i : ℕ) → length ms ≤ i → drop i ms ≡ []
left-none ms i l = drop_all i ms l

pub run-at : (f : Filter) (h : Bytes) (t seen : Flat) (cs : List Snapshot) (g k : Ground) (names : List Name) (before : Made) (shown : Name) (number : ℕ) (ms : List Made) (i : ℕ) → i < length ms
    → IsUpTo f h t seen cs g k names before shown number (drop i ms) → IsUpTo f h t seen cs g k names before shown number (get_or ms i (record { name = record { 0 = [] }; tree = record { 0 = [] } }) ∷ drop (i + 1) ms)
run-at f h t seen cs g k names before shown number ms i l u = subst (λ (xs : List Made). IsUpTo f h t seen cs g k names before shown number xs) (left-cons ms i l) u
