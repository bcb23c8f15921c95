use Rattle.std.proofs.Common.{◌<◌, ◌^◌, length, sym, subst}
use Rattle.git_objects.specs.Paths.{Bytes}
use Rattle.state_items.proofs.TagFields.{name_short}
use Rattle.state_items.proofs.writing.write_tag.Goals as goal

pub overflow_cast-name : goal.overflow_cast-name
overflow_cast-name c = record { fits = subst (λ (t : Bytes). length t < 2 ^ 16) (sym c.text-name.ensures.text) (name_short _ c.text-name.ensures.valid) }
