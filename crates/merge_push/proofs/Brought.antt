-- What a replayed stream's commits bring, with their originals.
use Rattle.std.proofs.Common.{◌≡◌, ℕ, ◌+◌, suc, List, [], ◌∷◌, length, map, None, Result, Ok, Err, refl, sym, ap, subst, ◌∙◌}
use Rattle.std.specs.Global.{Vec}
use Rattle.std.specs.Result.{result_err}
use Rattle.git_objects.specs.Results.{◌>>=◌, refused_by}
use Rattle.git_objects.specs.Paths.{Bytes}
use Rattle.git_objects.specs.Snapshots.{Snapshot}
use Rattle.git_objects.specs.declared.name.Name.{Name}
use Rattle.object_store.specs.Objects.{Object}
use Rattle.commit_map.specs.declared.rule.Rule.{Rule}
use Rattle.filter_text.specs.Filters.{Filter}
use Rattle.projection_ground.specs.declared.ground.Ground.{Ground}
use Rattle.projection_ground.specs.Grounds.{commits_of}
use Rattle.fast_import.specs.declared.replayed.Made.{Made}
use Rattle.fast_import.specs.declared.replayed.Replayed.{Replayed}
use Rattle.push_laws.specs.PushVerdicts.{Pair as PairOf, Refusal, Verdict}
use Rattle.push_back.specs.Faults.{of_original}
use Rattle.push_back.specs.Originals.{AreNamedIn}
use Rattle.push_back.specs.declared.brought.Pair.{Pair}
use Rattle.push_back.specs.declared.brought.Plan.{Plan}
use Rattle.push_back.specs.declared.fault.PushFault.{PushFault}
use Rattle.push_back.specs.declared.fault.PushFault.TheVariants as faults
use Rattle.push_back.specs.declared.refusal.OriginalError.{OriginalError}
use Rattle.push_back.specs.declared.refusal.TreeRefusal.TheVariants as trees
use Rattle.push_back.proofs.Planned.{commits-length, named-length}
use Rattle.merge_laws.specs.MergeVerdicts.{Progress, after, begun, made_from, made_upon, original, verdict_from, with_number}
use Rattle.merge_push.specs.Bringing.{IsBroughtBy}
use Rattle.merge_push.specs.Originals.{ArePushed, AreWorkedOut, IsMadeOver}

accepted-before : (p : PairOf) (v : Verdict) → result_err (v >>= λ ps. Ok (p ∷ ps)) ≡ None → result_err v ≡ None
accepted-before p (Ok ps) e = refl
accepted-before p (Err x) e = absurd cc

-- each commit of an accepted push has an original
made-length : (k : Rule) (f : Filter) (n : ℕ) (s : Progress) (cs : List Snapshot) → result_err (verdict_from k f n s cs) ≡ None → length (made_from k f s cs) ≡ length cs
made-length k f n s [] e = refl
made-length k f n s (c ∷ cs) e = by (original k f s c) e (λ o. made-length k f (n + 1) (after s c o) cs)
  where
    by : (r : Result Snapshot Refusal) → result_err (refused_by (with_number n) r >>= λ o. verdict_from k f (n + 1) (after s c o) cs >>= λ ps. Ok (record { pushed = c; original = o } ∷ ps)) ≡ None
        → ((o : Snapshot) → result_err (verdict_from k f (n + 1) (after s c o) cs) ≡ None → length (made_from k f (after s c o) cs) ≡ length cs)
        → length (made_upon r (λ o. made_from k f (after s c o) cs)) ≡ suc (length cs)
    by (Ok o) q ih = ap suc (ih o (accepted-before (record { pushed = c; original = o }) (verdict_from k f (n + 1) (after s c o) cs) q))
    by (Err x) q ih = absurd cc

module _ (f : Filter) (g : Ground) (h : Bytes) (v : Replayed) (cs : List Snapshot) (a : ArePushed f g h v.commits.items cs) (S : List Object) where
  pub not-worked : (e : OriginalError) → AreWorkedOut f g h cs (IsMadeOver f g h cs) S (Err e) → (w : PushFault) → w ≡ of_original e.n e.refusal → IsBroughtBy f g h cs v S (Err w)
  not-worked e o w q = record { ok = tt; err = (e, q, o.err) }

  pub no-pairs : (w : PushFault) → w ≡ faults.OutOfMemory → IsBroughtBy f g h cs v S (Err w)
  no-pairs w q = record { ok = tt; err = (record { n = 1; refusal = trees.OutOfMemory }, q, tt) }

  module _ (ns : Vec Name) (o : AreWorkedOut f g h cs (IsMadeOver f g h cs) S (Ok ns)) where
    pub as-many : length ns.items ≡ length v.commits.items
    as-many =
        named-length S ns.items (made_from g.rule f (begun g.rule f (commits_of g) h) cs) o.ok.made
        ∙ made-length g.rule f 1 (begun g.rule f (commits_of g) h) cs o.ok.accepted
        ∙ sym (commits-length g.store v.commits.items cs a.standing)

    pub worked : (p : Plan) → p.blobs.items ≡ v.blobs.items → map (λ (x : Pair). x.pushed) p.commits.items ≡ map (λ (x : Made). x.name) v.commits.items → map (λ (x : Pair). x.original) p.commits.items ≡ ns.items
        → IsBroughtBy f g h cs v S (Ok p)
    worked p b q r = record {
      ok = record {
        accepted = o.ok.accepted;
        blobs = b;
        pushed = q;
        originals = subst (λ (xs : List Name). AreNamedIn S xs (made_from g.rule f (begun g.rule f (commits_of g) h) cs)) (sym r) o.ok.made;
      };
      err = tt;
    }
