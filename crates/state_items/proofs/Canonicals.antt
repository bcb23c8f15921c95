-- Canonical texts of filters.
use Rattle.std.proofs.Common.{◌≡◌, ◌<◌, ◌≤◌, ◌^◌, true, false, cond, length, Ok, Err, refl, sym, ap, ◌∙◌, true≢false, arith}
use borrow.Author.Tests.{leb-true}
use Rattle.std.specs.Prelude.{nat_le}
use Rattle.std.specs.Cmp.{first_so, second_so}
use Rattle.std.specs.Cmp.Lexicographic.{bytes_decides}
use Rattle.git_objects.specs.Paths.{Bytes, same_bytes}
use Rattle.git_objects.specs.declared.limits.TheConstants.{FILTER_BYTES}
use Rattle.git_objects.proofs.Basics.{and_both, same_bytes-self}
use Rattle.filter_text.specs.Filters.{Filter}
use Rattle.filter_text.specs.Limits.{judged, read, too_deep}
use Rattle.filter_text.specs.Printing.{printed}
use Rattle.filter_text.specs.Reading.{filter_of}
use Rattle.filter_text.specs.declared.filter.FilterFault.TheVariants.{TooDeep, TooLong}
use Rattle.filter_routes.specs.SoundTests.{is_sound}
use Rattle.state_items.specs.Canonical.{CanonicalLaw, IsCanonicalOf}
use Rattle.state_items.specs.Items.{is_canonical, is_text_of}
use Rattle.filter_text.proofs.Printable.{print-law}

read-short : (t : Bytes) (f : Filter) → read t ≡ Ok f → length t < 2 ^ 16
unfolding read
read-short t f e =
    elim (nat_le (length t) FILTER_BYTES) as (λ b. nat_le (length t) FILTER_BYTES ≡ b → cond b (cond (too_deep t) (Err TooDeep) (judged (filter_of t))) (Err TooLong) ≡ Ok f → length t < 2 ^ 16) [
      | true ↦ λ g k. let l = leb-true (length t) 4096 g in omega (arith, l)
      | false ↦ λ g k. let no : Err TooLong ≡ Ok f = k in cc
    ] refl e

of-text : (t : Bytes) → is_canonical t ≡ true → (f : Filter) × IsCanonicalOf t f
unfolding is_canonical
of-text t h =
    elim (read t) as (λ r. read t ≡ r → is_text_of t r ≡ true → (f : Filter) × IsCanonicalOf t f) [
      | Ok f ↦ λ e g. (f, record { was_read = e; was_printed = (bytes_decides (printed f) t).0 (first_so _ _ g); sound = second_so (same_bytes (printed f) t) _ g; short = read-short t f e })
      | Err d ↦ λ e g. absurd (true≢false (sym g))
    ] refl h

of-filter : (t : Bytes) (f : Filter) → read t ≡ Ok f → is_sound f ≡ true → length (printed f) ≤ FILTER_BYTES → too_deep (printed f) ≡ false → is_canonical (printed f) ≡ true
unfolding is_canonical
of-filter t f e s l d = ap (is_text_of (printed f)) (print-law t f e l d) ∙ and_both (same_bytes-self (printed f)) s

pub canonical-law : CanonicalLaw
canonical-law = record { of_text = of-text; of_filter = of-filter }
