-- An image is recovered as what its primary carries, or as what its log was spelled for.
use Rattle.std.proofs.Common.{◌≡◌, ◌+◌, ◌*◌, ◌/◌, ◌==◌, ℕ, Bool, true, false, List, length, Option, Some, None, Result, Ok, Err, refl, sym, inl, inr, arith}
use Rattle.std.proofs.lemmas.Bool.{eqb-true, and_parts}
use Rattle.nt_bytes.specs.declared.fault.HiveFault.{HiveFault}
use Rattle.nt_bytes.specs.Reading.{◌>>=◌}
use Rattle.hive_model.specs.Base.{Base, IsBase, is_bins_size, base_of}
use Rattle.hive_model.specs.Image.{Image, Content, Bytes, Unreadable}
use Rattle.hive_model.specs.Recovery.{primary_in, base_at, recovered_of}
use Rattle.hive_model.specs.Carries.{Carries}
use Rattle.hive_model.proofs.BaseLemmas.{base_in_checked}
use Rattle.hive_log.proofs.Appending.{sized}
use Rattle.hive_log.proofs.Finding.{carries_recovered}
use Rattle.hive_log.proofs.Opened.{IsCommitOf, opened_recovered}
use Rattle.hive_laws.specs.hive_laws.Opened.{IsClosing, IsUnderWay}

-- bins data of a size that a base block may have are whole bins
pages : (size : ℕ) (bins : List ℕ) → size ≡ length bins → is_bins_size size ≡ true
    → 4096 * (length bins / 4096) ≡ length bins
pages size bins long is = omega (arith, long, (sized size is).pages)

-- what an image carries it is recovered as, clean, whatever its log is
pub carried_recovered : (image : Image) (base : Base) (bins : List ℕ) → Carries image base bins
    → recovered_of image ≡ Ok (record { base = base; bins = bins; dirty = false })
carried_recovered image base bins is =
    let whole = pages base.size bins is.size (base_in_checked image base is.block).size_is in
    carries_recovered image base bins is (omega (arith, whole))

-- the base block of the log
logged_block : (closed : Base) → IsBase closed → IsBase (record closed { kind = 1 })
logged_block closed is = record {
  first_fits = is.first_fits;
  second_fits = is.second_fits;
  stamp_fits = is.stamp_fits;
  minor_is = is.minor_is;
  kind_fits = omega arith;
  root_fits = is.root_fits;
  size_is = is.size_is;
  cluster_fits = is.cluster_fits;
  name_long = is.name_long;
  name_bytes = is.name_bytes;
  rest_long = is.rest_long;
  rest_bytes = is.rest_bytes;
}

unreadable_base : (r : Result Base HiveFault) → (r >>= λ base. Ok (Some base)) ≡ Ok None → ⊥
unreadable_base (Ok base) e = cc
unreadable_base (Err f) e = cc

-- a sector 0 without a base block that is no fault can't be read
unreadable_block : (o : Option Content) → base_at o ≡ Ok None → o ≡ Some Unreadable
unreadable_block None e = absurd cc
unreadable_block (Some Unreadable) e = refl
unreadable_block (Some (Bytes block)) e = absurd (unreadable_base (base_of block 0) e)

-- a base block that this one closes, of any that can't be read
opened_for : Base → Base
opened_for closed = record closed { second = closed.first + 1 }

module _ (image : Image) (closed : Base) (bits : ℕ → Bool) (bins : List ℕ) where
  closes : (opened : Base) → IsClosing (Some opened) closed bins → (opened.first ≡ opened.second → ⊥)
      → IsCommitOf opened closed bins
  closes opened closing odd =
      let two = and_parts (closed.first == opened.first) (closed.second == opened.first) closing.goes in
      record {
        odd = odd;
        first = eqb-true closed.first opened.first two.0;
        second = eqb-true closed.second opened.first two.1;
        kind = closing.kind;
        size = closing.size;
        fits = logged_block closed closing.block;
        pages = pages closed.size bins closing.size closing.block.size_is;
      }

  -- any base block does for one that can't be read
  closes_any : IsClosing None closed bins → IsCommitOf (opened_for closed) closed bins
  unfolding opened_for
  closes_any closing =
      record {
        odd = λ same. omega (arith, same);
        first = refl;
        second = sym (eqb-true closed.first closed.second closing.goes);
        kind = closing.kind;
        size = closing.size;
        fits = logged_block closed closing.block;
        pages = pages closed.size bins closing.size closing.block.size_is;
      }

  pub log_read_back : (opened : Option Base) → IsClosing opened closed bins → IsUnderWay image opened closed bits bins
      → recovered_of image ≡ Ok (record { base = closed; bins = bins; dirty = true })
  log_read_back (Some opened) closing is =
      opened_recovered image opened closed bits bins (closes opened closing is.primary.odd)
      (record { block = inl is.primary.block; logged = is.log; unmarked = is.unmarked })
  log_read_back None closing is =
      opened_recovered image (opened_for closed) closed bits bins (closes_any closing)
      (record {
        block = inr (unreadable_block (primary_in image 0) is.primary.block);
        logged = is.log;
        unmarked = is.unmarked;
      })
