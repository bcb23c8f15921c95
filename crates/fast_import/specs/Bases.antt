-- What is there before a stream, in a store: commits with their trees, refs, and blobs, all by their names.
use Rattle.std.specs.Prelude.{◌≡◌, true, List, map, IsSome}
use Rattle.git_objects.specs.Lists.{Each}
use Rattle.git_objects.specs.Paths.{Bytes}
use Rattle.git_objects.specs.Refs.{Refs}
use Rattle.git_objects.specs.declared.kind.Kind.TheVariants.{Blob}
use Rattle.object_store.specs.Objects.{Object, body_of, has}
use Rattle.object_store.specs.StoredSnapshots.{IsTreeOf}
use Rattle.object_store.specs.Unfolding.{flat}
use Rattle.fast_import.specs.Replays.{Base, value_at}

-- what these names stand for: the flat trees of the commits, and the blobs' bytes
abbrev pub base_in : List Object → List (Bytes × Bytes) → Refs → List Bytes → Base
base_in S commits refs blobs = record {
  commits = map (λ e. (e.0, flat S e.1)) commits;
  refs = refs;
  blobs = map (body_of Blob S) blobs;
}

-- The store has each commit with its tree, and each blob; each ref names one of the commits.
pub record IsBaseIn (S : List Object) (commits : List (Bytes × Bytes)) (refs : Refs) (blobs : List Bytes) : Type 0 where
  pub trees : Each (λ e. IsTreeOf S e.0 e.1) commits
  pub heads : Each (λ e. IsSome (value_at e.1 commits)) refs
  pub contents : Each (λ n. has Blob S n ≡ true) blobs
