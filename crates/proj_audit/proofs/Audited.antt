-- What is written of objects that tell the leaf is accepted with this leaf.
use Rattle.std.proofs.Common.{ap, ◌∙◌}
use Rattle.git_objects.specs.Results.{◌>>=◌, refused_by}
use Rattle.proj_audit.specs.Walks.{commit_leaf, needed}
use Rattle.proj_audit.specs.Certificates.{Syntax, NotProved}
use Rattle.proj_audit.specs.Laws.{AuditLaw}
use Rattle.proj_audit.proofs.Again.{commit-found, commit-again, once-found}
use Rattle.proj_audit.proofs.Writing.{certificate-read}

pub audit-law : AuditLaw
audit-law f q os n x e h =
    ap (λ z. refused_by Syntax z >>= λ ps. refused_by NotProved (commit_leaf ps f q n).outcome) (certificate-read (needed os f q n) h)
    ∙ ap (λ r. refused_by NotProved r.outcome)
    (commit-again os (needed os f q n) f q n x e (once-found os (commit_leaf os f q n).used (commit-found os f q n)))
    ∙ ap (refused_by NotProved) e
