-- Originals of commits with merges, one after another.
use Rattle.std.proofs.Common.{◌≡◌, inl, inr, ℕ, suc, ◌+◌, ◌<◌, ◌≤◌, List, [], ◌∷◌, ◌++◌, length, drop, get_or, Some, Result, Ok, Err, IfErr, OnOk, refl, sym, ap, subst, ◌∙◌, arith, append-nil, append_assoc, drop-cons}
use Rattle.std.specs.Result.{result_err}
use Rattle.std.proofs.lemmas.List.{drop_all}
use Rattle.git_objects.specs.Lists.{Each}
use Rattle.git_objects.specs.Results.{◌>>=◌, refused_by}
use Rattle.git_objects.specs.Snapshots.{Snapshot, snapshot_name}
use Rattle.git_objects.specs.declared.name.Name.{Name}
use Rattle.object_store.specs.Growth.{IsGrownBy}
use Rattle.object_store.specs.Objects.{Object}
use Rattle.commit_map.specs.declared.rule.Rule.{Rule}
use Rattle.filter_text.specs.Filters.{Filter}
use Rattle.projection_laws.specs.Projections.{known_at, shown_of}
use Rattle.projection_ground.specs.declared.ground.Ground.{Ground}
use Rattle.history_ground.specs.Origins.{Firsts}
use Rattle.fast_import.specs.Standing.{AreCommitsIn, IsCommitIn}
use Rattle.fast_import.specs.declared.replayed.Made.{Made}
use Rattle.fast_import.proofs.Growing.{commits-grown}
use Rattle.push_laws.specs.PushLaws.{commit_of}
use Rattle.push_laws.specs.PushVerdicts.{Pair, Refusal, Verdict}
use Rattle.push_back.specs.Originals.{AreNamedIn}
use Rattle.push_back.specs.Refusals.{IsRefusedBy}
use Rattle.push_back.specs.declared.refusal.TreeRefusal.{TreeRefusal}
use Rattle.push_back.proofs.LaidTrees.{refused-as}
use Rattle.push_back.proofs.OneOriginal.{commit-in-grown}
use Rattle.merge_laws.specs.MergeLaws.{AreJoined, projected_names}
use Rattle.merge_laws.specs.MergeVerdicts.{Progress, after, made_from, made_upon, original, verdict_from, with_number}
use Rattle.merge_laws.proofs.Merging.{known-new}
use Rattle.merge_push.specs.Originals.{AreOriginals, IsMadeFor, IsMadeOne, IsMadeUpon, IsOriginalError, IsReadAgain}
use Rattle.merge_push.specs.Places.{Places}
use Rattle.merge_push.specs.Progressing.{IsAdded, IsAddedTo, IsNext, IsProgress, Widens, made_as}
use Rattle.merge_push.proofs.Widening.{widens-as, widens-self, widens-then}

-- ---- verdicts

pair-err : (p : Pair) (v : Verdict) → result_err (v >>= λ ps. Ok (p ∷ ps)) ≡ result_err v
pair-err p (Ok ps) = refl
pair-err p (Err e) = refl

module _ (k : Rule) (f : Filter) (n : ℕ) (s : Progress) (c : Snapshot) (cs : List Snapshot) where
  abbrev later : Snapshot → Verdict
  later o = verdict_from k f (n + 1) (after s c o) cs

  abbrev from_original : Result Snapshot Refusal → Verdict
  from_original r = refused_by (with_number n) r >>= λ o. later o >>= λ ps. Ok (record { pushed = c; original = o } ∷ ps)

  verdict-ok : (o : Snapshot) → original k f s c ≡ Ok o → result_err (verdict_from k f n s (c ∷ cs)) ≡ result_err (later o)
  verdict-ok o e = ap (λ r. result_err (from_original r)) e ∙ pair-err (record { pushed = c; original = o }) (later o)

  verdict-err : (r : Refusal) → original k f s c ≡ Err r → result_err (verdict_from k f n s (c ∷ cs)) ≡ Some (n, r)
  verdict-err r e = ap (λ x. result_err (from_original x)) e

  made-ok : (o : Snapshot) → original k f s c ≡ Ok o → made_from k f s (c ∷ cs) ≡ o ∷ made_from k f (after s c o) cs
  made-ok o e = ap (λ r. made_upon r (λ o. made_from k f (after s c o) cs)) e

  object-ok : (o : Snapshot) → original k f s c ≡ Ok o → (x : Object) → IsMadeFor k f (after s c o) cs x → IsMadeFor k f s (c ∷ cs) x
  object-ok o e x y = inr (subst (λ (r : Result Snapshot Refusal). IsMadeUpon r (λ u. IsMadeFor k f (after s c u) cs x) x) (sym e) (inr y))

  upon-more : (r : Result Snapshot Refusal) (more : Snapshot → Type 0) (x : Object) → IsMadeUpon r (λ u. ⊥) x → IsMadeUpon r more x
  upon-more (Ok u) more x (inl y) = inl y
  upon-more (Ok u) more x (inr y) = absurd y
  upon-more (Err e) more x y = absurd y

  object-one : (x : Object) → IsMadeOne f s.tree c (original k f s c) x → IsMadeFor k f s (c ∷ cs) x
  object-one x (inl y) = inl y
  object-one x (inr y) = inr (upon-more (original k f s c) (λ u. IsMadeFor k f (after s c u) cs x) x y)

err-is : (v : Verdict) (x : ℕ × Refusal) → result_err v ≡ Some x → v ≡ Err x
err-is (Ok ps) x e = cc
err-is (Err y) x e = let q : y ≡ x = cc in ap Err q

-- ---- names of commits

named-grown : {made : Object → Type 0} (S T : List Object) (g : IsGrownBy made S T) (ns : List Name) (cs : List Snapshot) → AreNamedIn S ns cs → AreNamedIn T ns cs
named-grown S T g [] [] h = tt
named-grown S T g [] (c ∷ cs) h = absurd h
named-grown S T g (n ∷ ns) [] h = absurd h
named-grown S T g (n ∷ ns) (c ∷ cs) h = (commit-in-grown S T (made_as n c) c g h.0, named-grown S T g ns cs h.1)

named-more : (S : List Object) (ns : List Name) (cs : List Snapshot) (n : Name) (c : Snapshot) → AreNamedIn S ns cs → IsCommitIn S (made_as n c) c → AreNamedIn S (ns ++ n ∷ []) (cs ++ c ∷ [])
named-more S [] [] n c h k = (k, tt)
named-more S [] (d ∷ cs) n c h k = absurd h
named-more S (m ∷ ns) [] n c h k = absurd h
named-more S (m ∷ ns) (d ∷ cs) n c h k = (h.0, named-more S ns cs n c h.1 k)

-- ---- how far a run has come

-- The commits so far have the originals of these names; what is left of the run is a run from there.
pub record IsUpTo (f : Filter) (os : Firsts) (s₀ : Progress) (cs : List Snapshot) (g g' : Ground) (names : List Name) (before : ℕ) (es : Places) (number : ℕ) (left : List Made) : Type 0 where
  pub rest : List Snapshot
  pub state : Progress
  pub progress : IsProgress f os g' before es state
  pub standing : AreCommitsIn g'.store left rest
  pub read_again : Each IsReadAgain rest
  pub joined : AreJoined (projected_names state.known) (commit_of (known_at state.known state.head)) rest
  pub originals : List Snapshot
  pub named : AreNamedIn g'.store names originals
  pub made : made_from g.rule f s₀ cs ≡ originals ++ made_from g.rule f state rest
  pub refusal : result_err (verdict_from g.rule f 1 s₀ cs) ≡ result_err (verdict_from g.rule f (number + 1) state rest)
  pub objects : (o : Object) → IsMadeFor g.rule f state rest o → IsMadeFor g.rule f s₀ cs o
  pub same : Widens (IsMadeFor g.rule f s₀ cs) g g'

pub up-to-none : (f : Filter) (os : Firsts) (s : Progress) (cs : List Snapshot) (g : Ground) (before : ℕ) (ms : List Made) → IsProgress f os g before [] s → AreCommitsIn g.store ms cs → Each IsReadAgain cs
    → AreJoined (projected_names s.known) (commit_of (known_at s.known s.head)) cs → IsUpTo f os s cs g g [] before [] 0 ms
up-to-none f os s cs g before ms p k r j = record {
  rest = cs;
  state = s;
  progress = p;
  standing = k;
  read_again = r;
  joined = j;
  originals = [];
  named = tt;
  made = refl;
  refusal = refl;
  objects = λ o x. x;
  same = widens-self (IsMadeFor g.rule f s cs) g p.ground;
}

-- the first of commits, and those behind it
pub record IsFirst (f : Filter) (os : Firsts) (g : Ground) (before : ℕ) (es : Places) (s : Progress) (m : Made) (left : List Made) (cs : List Snapshot) : Type 0 where
  pub commit : Snapshot
  pub rest : List Snapshot
  pub all : cs ≡ commit ∷ rest
  pub next : IsNext f os g before es s m commit
  pub behind : AreCommitsIn g.store left rest
  pub again : Each IsReadAgain rest
  pub joins : AreJoined (snapshot_name commit ∷ projected_names s.known) (Some (snapshot_name commit)) rest

first-of : (f : Filter) (os : Firsts) (g : Ground) (before : ℕ) (es : Places) (s : Progress) (m : Made) (left : List Made) (cs : List Snapshot) → IsProgress f os g before es s → AreCommitsIn g.store (m ∷ left) cs → Each IsReadAgain cs
    → AreJoined (projected_names s.known) (commit_of (known_at s.known s.head)) cs → IsFirst f os g before es s m left cs
first-of f os g before es s m left [] p h r j = absurd h
first-of f os g before es s m left (c ∷ cs) p h r j = record {
  commit = c;
  rest = cs;
  all = refl;
  next = record { progress = p; standing = h.0; read_again = r.0; joined = j.0 };
  behind = h.1;
  again = r.1;
  joins = j.1;
}

module _ (f : Filter) (os : Firsts) (s₀ : Progress) (cs : List Snapshot) (g k : Ground) (names : List Name) (before : ℕ) (es : Places) (number : ℕ) (m : Made) (left : List Made)
    (u : IsUpTo f os s₀ cs g k names before es number (m ∷ left)) where
  pub next-first : IsFirst f os k before es u.state m left u.rest
  next-first = first-of f os k before es u.state m left u.rest u.progress u.standing u.read_again u.joined

  abbrev s : Progress
  s = u.state

  abbrev d : Snapshot
  d = next-first.commit

  abbrev ds : List Snapshot
  ds = next-first.rest

  same-rule : k.rule ≡ g.rule
  same-rule = u.same.rule

  objects-of : (o : Object) → IsMadeFor g.rule f s (d ∷ ds) o → IsMadeFor g.rule f s₀ cs o
  objects-of = subst (λ (xs : List Snapshot). (o : Object) → IsMadeFor g.rule f s xs o → IsMadeFor g.rule f s₀ cs o) next-first.all u.objects

  refusal-of : result_err (verdict_from g.rule f 1 s₀ cs) ≡ result_err (verdict_from g.rule f (number + 1) s (d ∷ ds))
  refusal-of = u.refusal ∙ ap (λ (xs : List Snapshot). result_err (verdict_from g.rule f (number + 1) s xs)) next-first.all

  made-of : made_from g.rule f s₀ cs ≡ u.originals ++ made_from g.rule f s (d ∷ ds)
  made-of = u.made ∙ ap (λ (xs : List Snapshot). u.originals ++ made_from g.rule f s xs) next-first.all

  abbrev one-made : Object → Type 0
  one-made = IsMadeOne f s.tree d (original k.rule f s d)

  one-object : (o : Object) → one-made o → IsMadeFor g.rule f s₀ cs o
  one-object o x = objects-of o (object-one g.rule f number s d ds o (subst (λ (r : Rule). IsMadeOne f s.tree d (original r f s d) o) same-rule x))

  module _ (k' : Ground) (b : ℕ) (ys : Places) (ms : List Name) (r : Result Unit TreeRefusal) (a : IsAddedTo f os s d k k' b ys names ms r) where
    pub run-widens : Widens (IsMadeFor g.rule f s₀ cs) g k'
    run-widens = widens-then (IsMadeFor g.rule f s₀ cs) g k k' u.same (widens-as one-made (IsMadeFor g.rule f s₀ cs) k k' one-object a.same)

    pub run-refused : (e : TreeRefusal) (n : ℕ) → n ≡ number + 1 → r ≡ Err e → IsOriginalError g.rule f s₀ cs (IsMadeFor g.rule f s₀ cs) k'.store (record { n = n; refusal = e })
    run-refused e n q x =
        refused-as (λ y. original k.rule f s d ≡ Err y) (λ y. verdict_from g.rule f 1 s₀ cs ≡ Err (n, y)) one-made (IsMadeFor g.rule f s₀ cs) k'.store
        (λ y z. err-is (verdict_from g.rule f 1 s₀ cs) (n, y) (refusal-of ∙ verdict-err g.rule f (number + 1) s d ds y (ap (λ r. original r f s d) (sym same-rule) ∙ z) ∙ ap (λ i. Some (i, y)) (sym q)))
        one-object e (subst (λ (v : Result Unit TreeRefusal). IfErr v (IsRefusedBy (λ y. original k.rule f s d ≡ Err y) one-made k'.store)) x a.err)

    module _ (x : r ≡ Ok tt) where
      one : IsAdded f os k' b ys s d names ms
      one = subst (λ (v : Result Unit TreeRefusal). OnOk v (IsAdded f os k' b ys s d names ms)) x a.ok

      abbrev o : Snapshot
      o = one.commit

      is : original g.rule f s d ≡ Ok o
      is = ap (λ r. original r f s d) (sym run-widens.rule) ∙ one.is

      grown : IsGrownBy one-made k.store k'.store
      grown = a.same.store

      pub run-more : IsUpTo f os s₀ cs g k' ms b ys (number + 1) left
      run-more = record {
        rest = ds;
        state = after s d o;
        progress = one.progress;
        standing = commits-grown k.store k'.store grown left ds next-first.behind;
        read_again = next-first.again;
        joined = subst (λ y. AreJoined (snapshot_name d ∷ projected_names s.known) (commit_of y) ds) (sym (known-new (snapshot_name o) (Some (shown_of d)) s.known)) next-first.joins;
        originals = u.originals ++ o ∷ [];
        named = subst (λ (ns : List Name). AreNamedIn k'.store ns (u.originals ++ o ∷ [])) (sym one.names)
            (named-more k'.store names u.originals one.name o (named-grown k.store k'.store grown names u.originals u.named) one.standing);
        made = made-of ∙ ap (λ (xs : List Snapshot). u.originals ++ xs) (made-ok g.rule f (number + 1) s d ds o is) ∙ sym (append_assoc u.originals (o ∷ []) (made_from g.rule f (after s d o) ds));
        refusal = refusal-of ∙ verdict-ok g.rule f (number + 1) s d ds o is;
        objects = λ y z. objects-of y (object-ok g.rule f (number + 1) s d ds o is y z);
        same = run-widens;
      }

-- the end of a run
none-left : (S : List Object) (cs : List Snapshot) → AreCommitsIn S [] cs → cs ≡ []
none-left S [] h = refl
none-left S (c ∷ cs) h = absurd h

pub run-end : (f : Filter) (os : Firsts) (s₀ : Progress) (cs : List Snapshot) (g k : Ground) (names : List Name) (before : ℕ) (es : Places) (number : ℕ) → IsUpTo f os s₀ cs g k names before es number [] → AreOriginals g.rule f s₀ cs k.store names
run-end f os s₀ cs g k names before es number u =
    let none = none-left k.store u.rest u.standing in
    record {
      accepted = u.refusal ∙ ap (λ (xs : List Snapshot). result_err (verdict_from g.rule f (number + 1) u.state xs)) none;
      made = subst (λ (xs : List Snapshot). AreNamedIn k.store names xs)
          (sym (u.made ∙ ap (λ (xs : List Snapshot). u.originals ++ made_from g.rule f u.state xs) none ∙ append-nil u.originals))
          u.named;
    }

-- ---- what is left of a list

abbrev pub no_one : Made
no_one = record { name = record { 0 = [] }; tree = record { 0 = [] } }

left-cons : (ms : List Made) (i : ℕ) → i < length ms → drop i ms ≡ get_or ms i no_one ∷ drop (i + 1) ms
left-cons ms i l = drop-cons ms i no_one l ∙ ap (λ n. get_or ms i no_one ∷ drop n ms) (let q : suc i ≡ i + 1 = omega arith in q)

pub left-none : (ms : List Made) (i : ℕ) → length ms ≤ i → drop i ms ≡ []
left-none ms i l = drop_all i ms l

pub run-at : (f : Filter) (os : Firsts) (s₀ : Progress) (cs : List Snapshot) (g k : Ground) (names : List Name) (before : ℕ) (es : Places) (number : ℕ) (ms : List Made) (i : ℕ) → i < length ms
    → IsUpTo f os s₀ cs g k names before es number (drop i ms) → IsUpTo f os s₀ cs g k names before es number (get_or ms i no_one ∷ drop (i + 1) ms)
run-at f os s₀ cs g k names before es number ms i l u = subst (λ (xs : List Made). IsUpTo f os s₀ cs g k names before es number xs) (left-cons ms i l) u
