-- A check by the objects of a text.
use Rattle.std.proofs.Common.{◌≡◌, List, sym, ap, ◌∙◌}
use Rattle.git_objects.specs.Paths.{Bytes, Path}
use Rattle.git_objects.specs.Results.{◌>>=◌, refused_by}
use Rattle.object_store.specs.Objects.{Object}
use Rattle.filter_text.specs.Filters.{Filter}
use Rattle.proj_audit.specs.Certificates.{Syntax, NotProved, verify}
use Rattle.proj_audit.specs.Reads.{AreOfText}
use Rattle.proj_audit.specs.Walks.{commit_leaf}
use Rattle.proj_audit.proofs.SameFinds.{commit-same}

-- a check by objects among which each name has what it has in the text
pub verify-by : (n : Bytes) (f : Filter) (q : Path) (t : Bytes) (held : List Object) → AreOfText t held →
    verify n f q t ≡ refused_by NotProved (commit_leaf held f q n).outcome
verify-by n f q t held h =
    ap (λ z. refused_by Syntax z >>= λ os. refused_by NotProved (commit_leaf os f q n).outcome) h.read
    ∙ ap (λ r. refused_by NotProved r.outcome) (sym (commit-same h.all held h.found f q n))
