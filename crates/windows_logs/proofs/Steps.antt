-- The pages of an entry, in sequence.
use Rattle.std.proofs.Common.{◌≡◌, ◌≤◌, ◌+◌, ◌-◌, ◌*◌, ◌/◌, ◌%◌, ◌<◌, ◌==◌, ◌&&◌, ℕ, true, false, List, ◌∷◌, length, refl, sym, ap, ◌∙◌, add-one, arith}
use Rattle.std.specs.Prelude.{nat_le, not, slice_range}
use Rattle.std.proofs.lemmas.Bool.{and_parts, eqb-true, leb-true}
use Rattle.nt_bytes.specs.Fields.{u32_in}
use Rattle.windows_logs.specs.log_parts.Pages.{put_at, put_pages}
use Rattle.windows_logs.specs.log_parts.Wide.{is_wide_size}
use Rattle.windows_logs.specs.declared.entry_log.entry.Entry.{Entry}
use Rattle.windows_logs.specs.entry_log.Entries.{bytes_of, is_page, are_pages, pages_from, IsWhole}

-- a page that can be
pub record Fits (bytes : List ℕ) (size start place long : ℕ) : Type 0 where
  pub inside : place + long ≤ size
  pub there : start + long ≤ length bytes

pub page_fits : (bytes : List ℕ) (size start place long : ℕ) → is_page bytes size start place long ≡ true
    → Fits bytes size start place long
page_fits bytes size start place long is =
    let parts = and_parts (((place % 512 == 0) && (long % 512 == 0)) && not (long == 0))
    (nat_le (place + long) size && nat_le (start + long) (length bytes)) is in
    let bounds = and_parts (nat_le (place + long) size) _ parts.1 in
    record { inside = leb-true _ _ bounds.0; there = leb-true _ _ bounds.1 }

-- the first of n pages, and the m after it
module _ (bytes : List ℕ) (size field start place long n m next : ℕ) (more : n ≡ m + 1) (on : next ≡ field + 8)
    (place_is : place ≡ u32_in bytes field) (long_is : long ≡ u32_in bytes (field + 4)) where
  first_page : are_pages bytes size field start n ≡ is_page bytes size start place long && are_pages bytes size next (start + long) m
  unfolding are_pages
  first_page = rw (more, add-one, on, place_is, long_is) refl

  pub page_is : is_page bytes size start place long ≡ true → are_pages bytes size field start n ≡ are_pages bytes size next (start + long) m
  page_is is = first_page ∙ ap (λ b. b && are_pages bytes size next (start + long) m) is

  pub page_is_not : is_page bytes size start place long ≡ false → are_pages bytes size field start n ≡ false
  page_is_not is_not = first_page ∙ ap (λ b. b && are_pages bytes size next (start + long) m) is_not

  pub page_parts : are_pages bytes size field start n ≡ true
      → (is_page bytes size start place long ≡ true) × (are_pages bytes size next (start + long) m ≡ true)
  page_parts are = and_parts _ _ (sym first_page ∙ are)

  pub page_more : pages_from bytes field start n
      ≡ record { place = place; bytes = slice_range bytes start (start + long) } ∷ pages_from bytes next (start + long) m
  unfolding pages_from
  page_more = rw (more, add-one, on, place_is, long_is) refl

  pub page_put : (file : List ℕ) → put_pages file (pages_from bytes field start n)
      ≡ put_pages (put_at file (4096 + place) (slice_range bytes start (start + long))) (pages_from bytes next (start + long) m)
  page_put file = ap (put_pages file) page_more

pub no_pages : (bytes : List ℕ) (size field start n : ℕ) → n ≡ 0 → are_pages bytes size field start n ≡ true
unfolding are_pages
no_pages bytes size field start n none = rw none refl

pub none_put : (bytes file : List ℕ) (field start n : ℕ) → n ≡ 0 → put_pages file (pages_from bytes field start n) ≡ file
unfolding pages_from
none_put bytes file field start n none = rw none refl

-- what is known of a whole entry
pub record Knows (log : List ℕ) (entry : Entry) : Type 0 where
  pub inside : 512 * entry.sector + entry.length ≤ length log
  pub fields : 40 + 8 * entry.count ≤ length (bytes_of log entry)
  pub steps : 512 * (entry.length / 512) ≡ entry.length
  pub pages : are_pages (bytes_of log entry) entry.size 40 (40 + 8 * entry.count) entry.count ≡ true

pub known : (log : List ℕ) (entry : Entry) → IsWhole log entry → Knows log entry
known log entry whole =
    let long = and_parts (not (entry.length == 0) && (entry.length % 512 == 0)) _ whole.long in
    let paged = and_parts (is_wide_size entry.size && nat_le (40 + 8 * entry.count) (length (bytes_of log entry))) _ whole.paged in
    let sized = and_parts (is_wide_size entry.size) _ paged.0 in
    let even : entry.length % 512 ≡ 0 = eqb-true _ _ (and_parts (not (entry.length == 0)) _ long.0).1 in
    record { inside = leb-true _ _ long.1; steps = omega arith; fields = leb-true _ _ sized.1; pages = paged.1 }

-- place and length of page i are these
pub record IsNext (bytes : List ℕ) (i place long count : ℕ) : Type 0 where
  pub below : i < count
  pub place_is : place ≡ u32_in bytes (40 + 8 * i)
  pub long_is : long ≡ u32_in bytes (40 + 8 * i + 4)

module _ (bytes : List ℕ) (size i start place long count : ℕ) (next : IsNext bytes i place long count) where
  parts : are_pages bytes size (40 + 8 * i) start (count - i) ≡ true
      → (is_page bytes size start place long ≡ true) × (are_pages bytes size (40 + 8 * (i + 1)) (start + long) (count - (i + 1)) ≡ true)
  parts = page_parts bytes size (40 + 8 * i) start place long (count - i) (count - (i + 1)) (40 + 8 * (i + 1))
      (omega (arith, next.below)) (omega arith) next.place_is next.long_is

  pub next_fits : are_pages bytes size (40 + 8 * i) start (count - i) ≡ true → Fits bytes size start place long
  next_fits are = page_fits bytes size start place long (parts are).0

  pub next_are : are_pages bytes size (40 + 8 * i) start (count - i) ≡ true
      → are_pages bytes size (40 + 8 * (i + 1)) (start + long) (count - (i + 1)) ≡ true
  next_are are = (parts are).1

  pub next_put : (file : List ℕ) → put_pages file (pages_from bytes (40 + 8 * i) start (count - i))
      ≡ put_pages (put_at file (4096 + place) (slice_range bytes start (start + long)))
      (pages_from bytes (40 + 8 * (i + 1)) (start + long) (count - (i + 1)))
  next_put file = page_put bytes size (40 + 8 * i) start place long (count - i) (count - (i + 1)) (40 + 8 * (i + 1))
      (omega (arith, next.below)) (omega arith) next.place_is next.long_is file
