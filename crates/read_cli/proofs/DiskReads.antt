-- A call of the reading program on a disk.
use Rattle.std.proofs.Common.{◌≡◌, inl, inr, ℕ, ◌≤◌, List, Option, Some, None, refl, sym, ap, subst, arith}
use Rattle.std.specs.Option.{option_map}
use Rattle.git_objects.specs.Paths.{Bytes}
use Rattle.proj_io.specs.Counts.{Counts}
use Rattle.proj_io.specs.Items.{Stays}
use Rattle.proj_disk.specs.Disks.{DiskView, stable}
use Rattle.proj_journal.specs.Journals.{IsSameOrSynced, items_of}
use Rattle.proj_cli.proofs.DiskLists.{open_items}

-- the items of a disk that was only synced
pub synced-items : (o p : Option DiskView) → p ≡ option_map (λ disk. stable disk.bytes) o → items_of p ≡ items_of o
synced-items o p e = open_items o o p e refl

pub stays-self : (o : Option (List Bytes)) → Stays o o
stays-self None = tt
stays-self (Some items) = refl

pub stays-same : (o p : Option DiskView) → IsSameOrSynced o p → Stays (items_of o) (items_of p)
stays-same o p (inl e) = subst (λ (x : Option (List Bytes)). Stays (items_of o) x) (sym (ap items_of e)) (stays-self (items_of o))
stays-same o p (inr e) = subst (λ (x : Option (List Bytes)). Stays (items_of o) x) (sym (synced-items o p e)) (stays-self (items_of o))

pub stays-behind : (o p q : Option DiskView) → p ≡ option_map (λ disk. stable disk.bytes) o → Stays (items_of p) (items_of q) → Stays (items_of o) (items_of q)
stays-behind o p q e h = subst (λ (x : Option (List Bytes)). Stays x (items_of q)) (synced-items o p e) h

-- a count that had not fallen before
pub counts-behind : (f g h : ℕ) (Answered : Type 0) → f ≤ g → Counts g h Answered → Counts f h Answered
counts-behind f g h Answered le c = record {
  later = omega (arith, le, c.later);
  rose = λ a. let r = c.rose a in omega (arith, le, r);
}
