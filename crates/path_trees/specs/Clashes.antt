-- Two trees put together.
use Rattle.std.specs.Prelude.{◌≡◌, false, cond, [], ◌∷◌, Option, Some, None}
use Rattle.std.specs.Option.{option_map, option_or}
use Rattle.git_objects.specs.Paths.{Bytes, Path, comparable, is_nil}
use Rattle.git_objects.specs.Trees.{Flat, put_all, under}
use Rattle.git_objects.specs.Names.{body}

-- the first path that is comparable with p
abbrev pub first_comparable : Path → Flat → Option Path
first_comparable p [] = None
first_comparable p (e ∷ t) = cond (comparable p e.0) (Some e.0) (first_comparable p t)

-- the first path of a that is comparable with one of b, and the first of b that it is comparable with
abbrev pub clash : Flat → Flat → Option (Path × Path)
clash [] b = None
clash (e ∷ a) b = option_or (option_map (λ q. (e.0, q)) (first_comparable e.0 b)) (clash a b)

-- the leaves of both
unfoldable pub together : Flat → Flat → Flat
together a b = put_all [] a b

-- the body of a directory that both have a path in, with the leaves of both
pub record IsShared (a b : Flat) (made : Bytes) : Type 0 where
  pub above : Path
  pub first : is_nil (under a above) ≡ false
  pub second : is_nil (under b above) ≡ false
  pub body : body (under (together a b) above) ≡ made
