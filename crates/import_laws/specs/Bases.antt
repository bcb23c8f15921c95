-- What a stream may name of what is held.
use Rattle.std.specs.Prelude.{map}
use Rattle.fast_import.specs.Replays.{Base, named_tree}
use Rattle.state_items.specs.Items.{Held}
use Rattle.state_items.specs.Repos.{repo}

-- its commits with their trees, its refs, and its known blobs
abbrev pub base_of : Held → Base
base_of h = record { commits = map named_tree (repo h).commits; refs = h.refs; blobs = (repo h).blobs }
