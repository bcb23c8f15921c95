-- What was taken of an input.
use Rattle.std.proofs.Common.{◌≡◌, ◌+◌, ◌≤◌, ℕ, List, [], Option, None, Some, length, reverse, Result, Ok, refl, ap, sym, subst, ◌∙◌, arith}
use Rattle.std.specs.FinMap.{find}
use Rattle.std.proofs.KnownBytes.{Consumes-nil}
use Rattle.git_objects.specs.Paths.{Bytes}
use Rattle.git_objects.specs.Refs.{Refs, bytes_cmp}
use Rattle.git_objects.specs.Results.{◌>>=◌, or_refuse}
use Rattle.filter_text.specs.Filters.{Filter}
use Rattle.stream_reader.specs.Verdicts.{tagged_start}
use Rattle.fast_import.specs.Bases.{base_in}
use Rattle.fast_import.specs.Replays.{Base}
use Rattle.fast_import.specs.Waited.{IsTakenIn}
use Rattle.fast_import.specs.declared.replayed.TaggedReplay.{TaggedReplay}
use Rattle.fast_import.specs.declared.whole.ReplayError.{ReplayError}
use Rattle.import_laws.specs.Bases.{base_of}
use Rattle.state_items.specs.Changes.{with_refs}
use Rattle.state_items.specs.Items.{Held}
use Rattle.repo_ground.specs.Contents.{Contents, Spells}
use Rattle.repo_ground.specs.Laws.{trees_of}
use Rattle.projection_ground.specs.Grounds.{IsGround}
use Rattle.proj_words.specs.Words.{Command}
use Rattle.proj_words.specs.declared.outcome.Outcome.{Outcome}
use Rattle.proj_words.specs.declared.outcome.Outcome.TheVariants.{UnknownRef}
use Rattle.proj_commands.specs.Cases.{Case, PushCase}
use Rattle.proj_commands.specs.Steps.{case}
use Rattle.proj_commands.specs.Push.{push_case, pushed_upon}
use Rattle.proj_commands.specs.Intake.{TakesUpTo, pushed_to, tagged_waited, waited_by, waited_if}
use Rattle.proj_commands.specs.Judging.{IsJudged}
use Rattle.proj_commands.specs.declared.judging.Judged.{Judged}
use Rattle.proj_commands.specs.declared.lines.Telling.{Telling}
use Rattle.proj_commands.specs.declared.pushing.Manner.{Manner}
use Rattle.proj_commands.proofs.JudgedCases.{case-upon, upon}
use Rattle.proj_commands.proofs.StateBases.{state-base-is}

-- nothing
pub takes-none : (place : Bytes → ℕ) (o : Option Bytes) → TakesUpTo place o o
takes-none place None = tt
takes-none place (Some all) = ([], Consumes-nil (Some all), omega arith)

-- up to the same places
pub takes-as : (place other : Bytes → ℕ) → ((all : Bytes) → place all ≡ other all) → (a b : Option Bytes) → TakesUpTo place a b → TakesUpTo other a b
takes-as place other same None b t = tt
takes-as place other same (Some all) b t = (t.0, t.1, subst (λ (n : ℕ). length t.0 ≤ n + 33554432) (same all) t.2)

-- what a replay took
pub replay-takes : (base : Base) (a b : Option Bytes) (result : Result TaggedReplay ReplayError) → IsTakenIn tagged_start base a b result → TakesUpTo (tagged_waited base) a b
replay-takes base None b result t = tt
replay-takes base (Some all) b result t = (t.0, t.1, t.2)

-- of a replay upon what a state holds
pub state-takes : (h : Held) (v : Contents) → Spells h v → IsGround v.basis → (cs : List (Bytes × Bytes)) (rs : Refs) (bs : List Bytes) → cs ≡ trees_of v.basis.graph → rs ≡ with_refs [] v.refs
    → bs ≡ reverse v.blobs → (a b : Option Bytes) (result : Result TaggedReplay ReplayError) → IsTakenIn tagged_start (base_in v.basis.store cs rs bs) a b result → TakesUpTo (tagged_waited (base_of h)) a b
state-takes h v w g cs rs bs c r k a b result t =
    subst (λ (base : Base). TakesUpTo (tagged_waited base) a b)
    (ap (λ (xs : List (Bytes × Bytes)). base_in v.basis.store xs rs bs) c ∙ ap (λ (xs : Refs). base_in v.basis.store (trees_of v.basis.graph) xs bs) r
    ∙ ap (λ (xs : List Bytes). base_in v.basis.store (trees_of v.basis.graph) (with_refs [] v.refs) xs) k ∙ state-base-is h v w g)
    (replay-takes (base_in v.basis.store cs rs bs) a b result t)

-- ---- of a judged command

pub takes-by : (asked : Command) (j : Judged) → IsJudged asked j → (h : Held) (a b : Option Bytes) → TakesUpTo (waited_by (upon j h)) a b → TakesUpTo (waited_by (case asked (Ok h))) a b
takes-by asked j w h a b t =
    takes-as (waited_by (upon j h)) (waited_by (case asked (Ok h))) (λ all. sym (ap (λ (r : Result Case Outcome). waited_if r all) (case-upon asked j w h all))) a b t

-- ---- of a push

-- with the commit of its ref, or without one
pub push-takes : (m : Manner) (telling : Telling) (h : Held) (f : Filter) (refname : Bytes) (a b : Option Bytes) → ((n : Bytes) → find bytes_cmp refname h.refs ≡ Some n → TakesUpTo (pushed_to m h f refname n) a b) → (find bytes_cmp refname h.refs ≡ None → b ≡ a)
    → TakesUpTo (waited_by (push_case m telling h f refname)) a b
push-takes m telling h f refname a b at none = by (find bytes_cmp refname h.refs) refl
  where
    placed : Option Bytes → Bytes → ℕ
    placed o all = waited_if (or_refuse UnknownRef o >>= λ n. Ok (PushCase m telling h f refname n (pushed_upon m h f n refname all))) all

    by : (o : Option Bytes) → find bytes_cmp refname h.refs ≡ o → TakesUpTo (waited_by (push_case m telling h f refname)) a b
    by (Some n) e = takes-as (pushed_to m h f refname n) (waited_by (push_case m telling h f refname)) (λ all. sym (ap (λ (o : Option Bytes). placed o all) e)) a b (at n e)
    by None e = subst (TakesUpTo (waited_by (push_case m telling h f refname)) a) (sym (none e)) (takes-none (waited_by (push_case m telling h f refname)) a)

-- where a policy lets a case come up
pub takes-let : (p : Result (Unit {0}) Outcome) (up : Bytes → Result Case Outcome) → p ≡ Ok tt → (a b : Option Bytes) → TakesUpTo (waited_by up) a b → TakesUpTo (waited_by (λ all. p >>= λ _. up all)) a b
takes-let p up may a b t =
    takes-as (waited_by up) (waited_by (λ all. p >>= λ _. up all)) (λ all. sym (ap (λ (q : Result (Unit {0}) Outcome). waited_if (q >>= λ _. up all) all) may)) a b t
