-- Where a store holds more, the same is written of a commit.
use Rattle.std.proofs.Common.{◌≡◌, ap, List, [], ◌∷◌, Contains, Some}
use Rattle.object_store.specs.Objects.{Object, object_name, find_named}
use Rattle.proj_audit.specs.Readings.{once}
use Rattle.proj_audit.specs.Texts.{certificate}
use Rattle.proj_audit.specs.Laws.{GrownLaw}
use Rattle.proj_audit.proofs.Again.{AreFound, commit-found, commit-again}
use Rattle.proj_audit.proofs.Finds.{found}
use Rattle.proj_audit.proofs.Storing.{told-stored}
use Rattle.proj_audit.specs.Walks.{commit_leaf}

within-all : (S T : List Object) → ((o : Object) → Contains S o → find_named T (object_name o) ≡ Some o) → (us : List Object) → AreFound S us →
    AreFound T us
within-all S T h [] g = g
within-all S T h (o ∷ us) g = (h o (found S (object_name o) o g.0).0, within-all S T h us g.1)

pub grown-law : GrownLaw
grown-law f q S T n s h within =
    let t = told-stored f q S n s h in
    ap (λ r. certificate (once r.used)) (commit-again S T f q n t.0 t.1 (within-all S T within (commit_leaf S f q n).used (commit-found S f q n)))
