-- Worked examples of words.
use Rattle.std.specs.Prelude.{◌≡◌, [], ◌∷◌, replicate, codes, refl}
use Rattle.git_objects.specs.Paths.{Bytes}
use Rattle.path_names.specs.RefNames.{is_ref_name}
use Rattle.hex.specs.Hex.{decode_pairs}
use Rattle.read_cli.specs.Readings.{Check, Log, New, Originals, Refs, Unknown, reading}
use Rattle.read_cli.specs.declared.words.Beside.TheVariants.{Names, Nothing, Tags}

abbrev main : Bytes
main = codes "refs/heads/main"

abbrev digits : Bytes
digits = codes "abABabABabABabABabABabABabABabABabABabAB"

refs : reading (codes "refs" ∷ []) ≡ Refs
refs = refl

no_more : reading (codes "refs" ∷ main ∷ []) ≡ Unknown
no_more = refl

log : reading (codes "log" ∷ main ∷ codes ":/lib" ∷ []) ≡ Log main (codes ":/lib")
unfolding is_ref_name
log = refl

check : reading (codes "check" ∷ main ∷ codes ":/lib" ∷ []) ≡ Check main (codes ":/lib")
unfolding is_ref_name
check = refl

new : reading (codes "new" ∷ main ∷ codes ":/lib" ∷ digits ∷ []) ≡ New Nothing main (codes ":/lib") (replicate 20 171 ∷ [])
unfolding is_ref_name decode_pairs
new = refl

tagged : reading (codes "new" ∷ codes "--tags" ∷ main ∷ codes ":/lib" ∷ []) ≡ New Tags main (codes ":/lib") []
unfolding is_ref_name
tagged = refl

named : reading (codes "new" ∷ codes "--names" ∷ main ∷ codes ":/lib" ∷ digits ∷ []) ≡ New Names main (codes ":/lib") (replicate 20 171 ∷ [])
unfolding is_ref_name decode_pairs
named = refl

short : reading (codes "originals" ∷ main ∷ codes "ab" ∷ []) ≡ Unknown
unfolding is_ref_name decode_pairs
short = refl

originals : reading (codes "originals" ∷ main ∷ digits ∷ digits ∷ []) ≡ Originals main (replicate 20 171 ∷ replicate 20 171 ∷ [])
unfolding is_ref_name decode_pairs
originals = refl

bad : reading (codes "log" ∷ codes "a..b" ∷ codes ":/lib" ∷ []) ≡ Unknown
unfolding is_ref_name
bad = refl
