-- A new journal.
use Rattle.std.proofs.Common.{◌≡◌, ◌+◌, ◌++◌, [], ◌∷◌, ℕ, List, length, take, Some, None, refl, sym, ◌∙◌, ap, subst, arith, ◌↔◌}
use Rattle.std.specs.declared.option.Option.{Option}
use Rattle.std.specs.Prelude.{IfSome, IsSome}
use Rattle.std.specs.Option.{option_map}
use Rattle.proj_disk.specs.Disks.{DiskView, IsImage, IsTornIfKnown, put, stable, written}
use Rattle.proj_journal.specs.Spelling.{header, spelled, listed, list_in}
use Rattle.proj_journal.specs.Rest.{AllBehind, StandsAt, IsEmptyList}
use Rattle.proj_journal.specs.Spelled.{records_of-none, spelled-none}

-- the header and a shut gate on an empty disk
new_stands : (disk : DiskView) → disk ≡ stable (header ++ (0 ∷ [])) → StandsAt 8 [] disk
new_stands disk is = record {
  gate = 0;
  shut = omega arith;
  front = ap (λ (d : DiskView). take 9 d.synced) is ∙ ap (λ (l : List ℕ). header ++ (l ++ 0 ∷ [])) records_of-none;
  ends = ap (λ (l : List (ℕ)). 8 + length l) records_of-none;
  sized = tt;
  few = omega arith;
  behind = subst (λ (d : DiskView). AllBehind 9 d.ranges) (sym is) tt;
}

pub new_list : (o p q : Option DiskView) → IfSome o (λ d. d.bytes ≡ []) → p ≡ option_map (written 0 (header ++ (0 ∷ []))) o → q ≡ option_map (λ d. stable d.bytes) p → IsEmptyList q
new_list o p None none is sync = tt
new_list o None (Some f) none is sync = cc
new_list None (Some e) (Some f) none is sync = cc
new_list (Some d) (Some e) (Some f) none is sync =
    let wrote : e ≡ written 0 (header ++ (0 ∷ [])) d = cc in
    let made : f ≡ stable e.bytes = cc in
    let bytes : e.bytes ≡ header ++ (0 ∷ []) = ap (λ (v : DiskView). v.bytes) wrote ∙ ap (put 0 (header ++ (0 ∷ []))) none in
    let now : f ≡ stable (header ++ (0 ∷ [])) = made ∙ ap stable bytes in
    let list : listed f.bytes ≡ [] = ap (λ (v : DiskView). list_in (spelled v.bytes)) now ∙ ap list_in spelled-none in
    (subst (λ (l : List (List ℕ)). StandsAt 8 l f) (sym list) (new_stands f now), list, ap (λ (v : DiskView). v.bytes) now)

-- after a sync that failed any bytes may stand where the header and the gate were written
pub header_torn : (o p : Option DiskView) → IfSome o (λ d. d.bytes ≡ []) → p ≡ option_map (written 0 (header ++ (0 ∷ []))) o → IsTornIfKnown 0 9 o p
header_torn None p none is = is
header_torn (Some d) None none is = cc
header_torn (Some d) (Some e) none is =
    let wrote : e ≡ written 0 (header ++ (0 ∷ [])) d = cc in
    let bytes : e.bytes ≡ header ++ (0 ∷ []) = ap (λ (v : DiskView). v.bytes) wrote ∙ ap (put 0 (header ++ (0 ∷ []))) none in
    record {
      bytes = record {
        no_shorter = omega (arith, ap length none);
        no_longer = omega (arith, ap length bytes);
        same = λ place lt _. absurd (omega (arith, lt, ap length none));
      };
      images = λ image is.
          let of = subst (λ (v : DiskView). IsImage v image) wrote is in
          record { no_shorter = of.no_shorter; no_longer = of.no_longer; same = of.same };
    }

known_map : (o p : Option DiskView) (f : DiskView → DiskView) → p ≡ option_map f o → IsSome p ↔ IsSome o
known_map None None f is = (λ some. some, λ some. some)
known_map None (Some e) f is = cc
known_map (Some d) None f is = cc
known_map (Some d) (Some e) f is = (λ some. refl, λ some. refl)

-- a disk that is known stays known
pub still_known : (o p q : Option DiskView) (f g : DiskView → DiskView) → p ≡ option_map f o → q ≡ option_map g p → IsSome q ↔ IsSome o
still_known o p q f g wrote synced =
    let first = known_map o p f wrote in
    let second = known_map p q g synced in
    (λ some. first.0 (second.0 some), λ some. second.1 (first.1 some))
