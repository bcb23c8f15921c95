-- What is known of whatever items hold.
use Rattle.std.specs.Prelude.{◌≡◌, true, List, None, T, Ok}
use Rattle.std.specs.FinMap.{is_sorted}
use Rattle.std.specs.List.{list_all}
use Rattle.git_objects.specs.Paths.{Bytes, is_bytes}
use Rattle.git_objects.specs.Refs.{bytes_cmp}
use Rattle.git_objects.specs.declared.kind.Kind.TheVariants.{Commit}
use Rattle.object_store.specs.Fits.{tree_fits}
use Rattle.object_store.specs.Objects.{IsStore, has}
use Rattle.path_names.specs.RefNames.{is_ref_name}
use Rattle.state_items.specs.Appending.{are_tags}
use Rattle.state_items.specs.Items.{Held, is_rule, read_items}
use Rattle.state_items.specs.Repos.{repo}

-- Refs stand in byte order, each with a commit that is held; kept projections are of commits that are held; the rule is
-- one; the trees of the commits are within the limits of objects; and tags stand in byte order, each with a commit that
-- is held.
pub record IsSoundHeld (h : Held) : Type 0 where
  pub sorted : T (is_sorted bytes_cmp h.refs)
  pub names : list_all (λ e. is_ref_name e.0) h.refs ≡ true
  pub heads : list_all (λ e. has Commit h.objects e.1) h.refs ≡ true
  pub originals : list_all (λ e. has Commit h.objects e.original) h.kept ≡ true
  pub rule : is_rule h.rule ≡ true
  pub trees : list_all (λ c. tree_fits c.tree) (repo h).commits ≡ true
  pub tags : are_tags h.objects None h.tags ≡ true

-- Of any items that are read; and where they are bytes, the objects that they hold are a store.
pub record ReadLaw : Type 0 where
  pub sound : (items : List Bytes) (h : Held) → read_items items ≡ Ok h → IsSoundHeld h
  pub store : (items : List Bytes) (h : Held) → list_all is_bytes items ≡ true → read_items items ≡ Ok h
      → IsStore h.objects
