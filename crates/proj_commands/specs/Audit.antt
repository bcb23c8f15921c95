-- The query `audit`: a certificate of what a filter shows of a ref's commit at a path.
use Rattle.std.specs.Prelude.{Ok, [], ◌≡◌, ◌<◌, ◌^◌, length, unwrap_or}
use Rattle.std.specs.Option.{option_map}
use Rattle.git_objects.specs.Paths.{Bytes, Path}
use Rattle.git_objects.specs.Snapshots.{tree_at}
use Rattle.git_objects.specs.Trees.{at}
use Rattle.path_names.specs.PathTexts.{ok_path, path_of}
use Rattle.filter_text.specs.Filters.{Filter}
use Rattle.workspace.specs.Workspaces.{shown}
use Rattle.proj_audit.specs.Certificates.{audit, verify}
use Rattle.proj_audit.specs.Laws.{found_of}
use Rattle.state_items.specs.Items.{Held}
use Rattle.state_items.specs.Repos.{repo}

-- the path that a text names
abbrev pub path_by : Bytes → Path
path_by text = unwrap_or (ok_path (path_of text)) []

-- The certificate, of the objects that tell what is shown at the path among those that are held, is accepted for the commit's name, with the leaf that the filter shows of the commit's tree at the path, or that there is
-- none. So it is where each size in it has at most 20 digits.
abbrev pub IsAudited : Held → Filter → Bytes → Path → Type 0
IsAudited h f n q = length (audit h.objects f q n) < 2 ^ 64
    → verify n f q (audit h.objects f q n) ≡ Ok (option_map found_of (at (shown f (tree_at (repo h).commits n)) q))
