-- The command `verify`: what a certificate proves, without a store.
use Rattle.std.specs.Prelude.{List, Option, None, Result, Ok, [], ◌≡◌, ◌⊎◌, length, nat_le, unwrap_or}
use Rattle.std.specs.Option.{option_map}
use Rattle.git_objects.specs.CommitBodies.{digits_name}
use Rattle.git_objects.specs.Paths.{Bytes, Path}
use Rattle.git_objects.specs.Results.{◌>>=◌, must, refused_by}
use Rattle.git_objects.specs.Snapshots.{Snapshot, snapshot_name}
use Rattle.git_objects.specs.Trees.{IsTree, at}
use Rattle.git_objects.specs.declared.limits.TheConstants.{INPUT_BYTES}
use Rattle.git_objects.specs.declared.quantity.Quantity.TheVariants.{Input}
use Rattle.object_store.specs.Objects.{Object}
use Rattle.filter_text.specs.Filters.{Filter}
use Rattle.workspace.specs.Workspaces.{shown}
use Rattle.proj_audit.specs.Certificates.{Fault, Syntax, NotProved, found_text, verify}
use Rattle.proj_audit.specs.Laws.{Collides, IsOf, found_of}
use Rattle.proj_audit.specs.Readings.{Found}
use Rattle.proj_audit.specs.Texts.{objects}
use Rattle.state_items.specs.Items.{nothing}
use Rattle.proj_words.specs.declared.outcome.Outcome.{Outcome}
use Rattle.proj_words.specs.declared.outcome.Outcome.TheVariants as outcomes
use Rattle.proj_commands.specs.Cases.{Made, unchanged}

-- the name that 40 digits say
abbrev pub name_by : Bytes → Bytes
name_by digits = unwrap_or (digits_name digits) []

abbrev pub verify_outcome : Fault → Outcome
verify_outcome (Syntax at) = outcomes.Syntax at
verify_outcome (NotProved n) = outcomes.NotProved (record { 0 = n })

-- what comes of it, or the first refusal: that there is more than an input may have, and of the certificate
abbrev pub verify_made : Filter → Bytes → Path → Bytes → Result Made Outcome
verify_made f n q text = do
  _ ← must (outcomes.Limit Input None) (nat_le (length text) INPUT_BYTES)
  x ← refused_by verify_outcome (verify n f q text)
  Ok (unchanged nothing (found_text x))

-- What is accepted is what the filter shows at the path of every commit of that name; or an object of the text and another one of that
-- commit, of its trees or of its blobs, have one name.
abbrev pub IsVerified : Filter → Bytes → Path → Bytes → Type 0
IsVerified f n q text = (c : Snapshot) (os : List Object) (x : Option Found) → snapshot_name c ≡ n → IsTree c.tree → objects text ≡ Ok os
    → verify n f q text ≡ Ok x → (x ≡ option_map found_of (at (shown f c.tree) q)) ⊎ Collides os (IsOf c)
