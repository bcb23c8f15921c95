-- The body of a commit of its own.
use Rattle.std.proofs.Common.{◌≡◌, List, [], ◌∷◌, map, Some, IfOk, Result, Ok, Err, refl, ap, ◌∙◌}
use Rattle.git_objects.specs.Paths.{Bytes}
use Rattle.git_objects.specs.Commits.{Commit, Letter, commit_body}
use Rattle.git_objects.specs.CommitBodies.{commit_from}
use Rattle.git_objects.specs.Parts.{name_bytes}
use Rattle.git_objects.specs.declared.name.Name.{Name}
use Rattle.commit_map.specs.Shown.{shown_value}
use Rattle.commit_map.specs.Shown as shown
use Rattle.commit_map.specs.declared.commit_map.Shown.{Shown}
use Rattle.projection_laws.specs.Made.{own_commit_of, IsOwnBody}

names-map : (ps : List Shown) → map name_bytes (map (λ (p : Shown). p.commit) ps) ≡ map (λ (p : shown.Shown). p.commit) (map shown_value ps)
names-map [] = refl
names-map (p ∷ ps) = ap (λ (ns : List Bytes). p.commit.0 ∷ ns) (names-map ps)

-- the letter that is copied
pub own-commit : (t : Bytes) (ps : List Shown) (names : List Name) (l m : Letter) → names ≡ map (λ (p : Shown). p.commit) ps → m.author ≡ l.author → m.committer ≡ l.committer → m.message ≡ l.message →
    record { tree = t; parents = map name_bytes names; letter = m } ≡ own_commit_of t (map shown_value ps) l
own-commit t ps names l m e a b d =
    let parents : map name_bytes names ≡ map (λ (p : shown.Shown). p.commit) (map shown_value ps) = ap (λ (ns : List Name). map name_bytes ns) e ∙ names-map ps in
    λ i. record { tree = t; parents = parents i; letter = record { author = a i; committer = b i; message = d i } }

pub own-body : {B E : Type 0} (items : B → Bytes) (v : Commit) (t : Bytes) (ms : List shown.Shown) (l : Letter) (r : Result B E) → v ≡ own_commit_of t ms l
    → IfOk r (λ b. items b ≡ commit_body v) → IfOk r (λ b. commit_from (items b) ≡ Some v) → IfOk r (λ b. IsOwnBody t ms l (items b))
own-body items v t ms l (Ok b) e h k = record { body = h ∙ ap commit_body e; read = k ∙ ap Some e }
own-body items v t ms l (Err d) e h k = tt
