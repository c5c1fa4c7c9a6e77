-- What a cut in a repair or in a commit of two copies leaves.
use Rattle.std.proofs.Common.{◌≡◌, ◌<◌, ◌+◌, ◌*◌, ◌/◌, ◌==◌, ℕ, Bool, true, false, List, length, Some, None, refl, sym, ◌∙◌, ap, arith, inl, inr, ⊎_elim}
use Rattle.std.specs.Prelude.{not}
use Rattle.std.proofs.lemmas.Bool.{eq-eqb, and_from}
use Rattle.hive_model.specs.Base.{Base, IsBase, base_text}
use Rattle.hive_model.specs.Image.{Image, File, Primary, Log, Bytes, Unreadable, IsLeftBy}
use Rattle.hive_model.specs.Recovery.{sector, base_at}
use Rattle.hive_model.specs.Carries.{HasBins}
use Rattle.hive_model.proofs.BaseLemmas.{IsChecked, base_in_checked}
use Rattle.nt_edge.specs.Crash.{AgreeOutside}
use Rattle.regf_base.specs.Fitting.{NumbersFit, TextsFit}
use Rattle.hive_commit.specs.Stages.{HasMarked, opened_of, closed_of}
use Rattle.hive_commit.proofs.Four.{IsAsked, is_base_of}
use Rattle.hive_alt.specs.Copies.{copy_in, HasCopy, IsPair, IsBehind, in_copy, is_block, is_bin, BlockIsBeforeOr, IsWritten, IsRewriting}
use Rattle.hive_alt.specs.Schemes.{IsKeptAs, IsKeptAsEither}
use Rattle.hive_alt.specs.Twin.{copy_at, is_second, twin_of}
use Rattle.hive_alt.proofs.CopyLemmas.{copy_along, copy_written, block_written, no_block}
use Rattle.hive_alt.proofs.TwinLemmas.{whole_of, first_stands, second_stands}

-- what is known of the base block of a good copy
pub checked_of : (file : File) (image : Image) (base : Base) (bins : List ℕ) → HasCopy file image base bins
    → IsChecked 0 base
checked_of file image base bins is = base_in_checked (copy_in file image) base is.block

pub fits_of : (file : File) (image : Image) (base : Base) (bins : List ℕ) → HasCopy file image base bins
    → NumbersFit base → TextsFit base → IsBase base
fits_of file image base bins is numbers texts = is_base_of base numbers texts (checked_of file image base bins is)

-- the primary is good
pub kept_first : (c : Image) (base : Base) (bins : List ℕ) → HasCopy Primary c base bins
    → 512 * (length bins / 512) ≡ length bins → IsKeptAs twin_of base bins c
kept_first c base bins is whole =
    record { dirty = not (is_second c base bins); kept = first_stands c base bins is whole }

-- the primary leaves the word to the second copy
pub kept_second : (c : Image) (base : Base) (bins : List ℕ) → IsBehind c base → HasCopy Log c base bins
    → 512 * (length bins / 512) ≡ length bins → IsKeptAs twin_of base bins c
kept_second c base bins behind is whole = record { dirty = true; kept = second_stands c base bins behind is whole }

-- whatever is done to the second copy
pub second_cut : (h0 c : Image) (base : Base) (bins : List ℕ) → HasCopy Primary h0 base bins
    → 512 * (length bins / 512) ≡ length bins → AgreeOutside (in_copy Log) h0 c → IsKeptAs twin_of base bins c
second_cut h0 c base bins is whole agree =
    kept_first c base bins (copy_along Primary h0 c base bins (λ n. agree (copy_at Primary n) refl) is) whole

-- a primary whose base block can't be read
torn_behind : (c : Image) (base : Base) → base.first ≡ base.second → c (copy_at Primary 0) ≡ Some Unreadable
    → IsBehind c base
torn_behind c base even torn =
    record { opened = None; block = ap base_at torn; unfinished = tt; goes = eq-eqb base.first base.second even }

-- ---- the second copy is repaired

pub second_mended : (h0 h1 : Image) (base : Base) (bins : List ℕ) → HasCopy Primary h0 base bins → NumbersFit base
    → TextsFit base
    → AgreeOutside (in_copy Log) h0 h1 → IsWritten Log h1 base bins → IsPair h1 base bins
second_mended h0 h1 base bins is numbers texts other written = record {
  first = copy_along Primary h0 h1 base bins (λ n. other (copy_at Primary n) refl) is;
  second = copy_written Log h1 base bins (fits_of Primary h0 base bins is numbers texts)
      (checked_of Primary h0 base bins is).kind_is is.clean is.size written;
}

-- ---- the primary is repaired

-- the second copy stands, and the primary has its bins data
pub record IsReady (base : Base) (bins : List ℕ) (image : Image) : Type 0 where
  pub behind : IsBehind image base
  pub second : HasCopy Log image base bins
  pub bins_there : HasBins (copy_in Primary image) bins
  pub fits : IsBase base
  pub whole : 512 * (length bins / 512) ≡ length bins

behind_along : (h0 c : Image) (base : Base) → IsBehind h0 base → c (copy_at Primary 0) ≡ h0 (copy_at Primary 0)
    → IsBehind c base
behind_along h0 c base behind same = record {
  opened = behind.opened;
  block = ap base_at same ∙ behind.block;
  unfinished = behind.unfinished;
  goes = behind.goes;
}

module _ (h0 : Image) (base : Base) (bins : List ℕ) (bits : ℕ → Bool) (behind : IsBehind h0 base)
    (is : HasCopy Log h0 base bins) (whole : 512 * (length bins / 512) ≡ length bins) (c : Image)
    (agree : AgreeOutside (is_bin Primary (length bins) bits) h0 c) where
  behind_still : IsBehind c base
  behind_still = behind_along h0 c base behind (agree (copy_at Primary 0) refl)

  second_still : HasCopy Log c base bins
  second_still = copy_along Log h0 c base bins (λ n. agree (copy_at Log n) refl) is

  pub bins_mending : IsKeptAs twin_of base bins c
  bins_mending = kept_second c base bins behind_still second_still whole

  pub bins_mended : NumbersFit base → TextsFit base → ((i : ℕ) → 512 * i < length bins → bits i ≡ true)
      → HasMarked (copy_in Primary c) bits bins → IsReady base bins c
  bins_mended numbers texts all written = record {
    behind = behind_still;
    second = second_still;
    bins_there = λ i small. written i small (all i small);
    fits = fits_of Log h0 base bins is numbers texts;
    whole = whole;
  }

module _ {base : Base} {bins : List ℕ} {h1 : Image} (is : IsReady base bins h1) (c : Image)
    (agree : AgreeOutside (is_block Primary) h1 c) where
  second_of : HasCopy Log c base bins
  second_of = copy_along Log h1 c base bins (λ n. agree (copy_at Log n) refl) is.second

  first_of : c (copy_at Primary 0) ≡ Some (Bytes (base_text base)) → HasCopy Primary c base bins
  first_of there =
      copy_written Primary c base bins is.fits (checked_of Log h1 base bins is.second).kind_is is.second.clean
      is.second.size
      (record {
        block = there;
        bins_there = λ i small. agree (copy_at Primary (8 + i)) (no_block Primary i) ∙ is.bins_there i small;
      })

  pub block_mending : BlockIsBeforeOr Primary h1 base c → IsKeptAs twin_of base bins c
  block_mending block = ⊎_elim
      (λ same. kept_second c base bins (behind_along h1 c base is.behind same) second_of is.whole)
      (⊎_elim
      (λ there. kept_first c base bins (first_of there) is.whole)
      (λ torn. kept_second c base bins (torn_behind c base is.second.clean torn) second_of is.whole))
      block

  pub first_mended : c (copy_at Primary 0) ≡ Some (Bytes (base_text base)) → IsPair c base bins
  first_mended there = record { first = first_of there; second = second_of }

-- ---- a commit

module _ (base : Base) (old new : List ℕ) (root : ℕ) (bits : ℕ → Bool) (a : IsAsked base old new root bits) (h0 : Image)
    (is0 : IsPair h0 base old) where
  abbrev opened : Base
  opened = opened_of base

  abbrev closed : Base
  closed = closed_of base new root

  opened_fits : IsBase opened
  opened_fits = record {
    first_fits = omega arith;
    second_fits = a.fits.second_fits;
    stamp_fits = a.fits.stamp_fits;
    minor_is = a.fits.minor_is;
    kind_fits = a.fits.kind_fits;
    root_fits = a.fits.root_fits;
    size_is = a.fits.size_is;
    cluster_fits = a.fits.cluster_fits;
    name_long = a.fits.name_long;
    name_bytes = a.fits.name_bytes;
    rest_long = a.fits.rest_long;
    rest_bytes = a.fits.rest_bytes;
  }

  closed_fits : IsBase closed
  closed_fits = record {
    first_fits = omega arith;
    second_fits = omega arith;
    stamp_fits = a.fits.stamp_fits;
    minor_is = a.fits.minor_is;
    kind_fits = a.fits.kind_fits;
    root_fits = a.root_fits;
    size_is = a.sized_new;
    cluster_fits = a.fits.cluster_fits;
    name_long = a.fits.name_long;
    name_bytes = a.fits.name_bytes;
    rest_long = a.fits.rest_long;
    rest_bytes = a.fits.rest_bytes;
  }

  whole_new : 512 * (length new / 512) ≡ length new
  whole_new = whole_of (length new) a.sized_new

  same_as : (b : List ℕ) (i : ℕ) → sector new i ≡ b → Some (Bytes b) ≡ Some (Bytes (sector new i))
  same_as b i is = ap (λ l. Some (Bytes l)) (sym is)

  -- the second copy has the sectors that do not differ
  pub second_stays : (i : ℕ) → 512 * i < length new → bits i ≡ false
      → h0 (copy_at Log (8 + i)) ≡ Some (Bytes (sector new i))
  second_stays i small off = let old_one = a.same i small off in
      is0.second.bins_there i old_one.0 ∙ same_as (sector old i) i old_one.1

  -- the first three stages
  pub before_cut : (c : Image) → AgreeOutside (in_copy Log) h0 c → IsKeptAs twin_of base old c
  before_cut c agree = second_cut h0 c base old is0.first a.whole_old agree

  module _ (h1 : Image) (other1 : AgreeOutside (in_copy Log) h0 h1) (written1 : IsWritten Log h1 closed new) where
    second1 : HasCopy Log h1 closed new
    second1 = copy_written Log h1 closed new closed_fits a.kind refl refl written1

    -- so has the primary
    pub first_stays : (i : ℕ) → 512 * i < length new → bits i ≡ false
        → h1 (copy_at Primary (8 + i)) ≡ Some (Bytes (sector new i))
    first_stays i small off =
        let old_one = a.same i small off in
        other1 (copy_at Primary (8 + i)) refl ∙ is0.first.bins_there i old_one.0 ∙ same_as (sector old i) i old_one.1

    second_of_cut : (c : Image) → AgreeOutside (in_copy Primary) h1 c → HasCopy Log c closed new
    second_of_cut c agree = copy_along Log h1 c closed new (λ n. agree (copy_at Log n) refl) second1

    first_of_cut : (c : Image) → IsWritten Primary c closed new → HasCopy Primary c closed new
    first_of_cut c written = copy_written Primary c closed new closed_fits a.kind refl refl written

    -- the primary is open
    open_behind : (c : Image) → IsLeftBy (copy_at Primary 0, base_text opened) (c (copy_at Primary 0))
        → IsBehind c closed
    open_behind c left = ⊎_elim
        (λ there. record {
          opened = Some opened;
          block = ap base_at there ∙ block_written opened opened_fits a.kind;
          unfinished = λ e. absurd (omega (arith, a.fits.first_fits, a.fits.second_fits, a.clean, e));
          goes = and_from (closed.first == opened.first) (closed.second == opened.first)
              (eq-eqb closed.first opened.first refl) (eq-eqb closed.second opened.first refl);
        })
        (λ torn. torn_behind c closed refl torn)
        left

    -- the last three stages
    pub first_cut : (c : Image) → AgreeOutside (in_copy Primary) h1 c → IsRewriting Primary h1 opened closed new c
        → IsKeptAsEither twin_of base old closed new c
    first_cut c agree cut = ⊎_elim
        (λ same. inl (kept_first c base old
        (copy_along Primary h0 c base old (λ n. same (copy_at Primary n) ∙ other1 (copy_at Primary n) refl)
        is0.first) a.whole_old))
        (⊎_elim
        (λ left. inr (kept_second c closed new (open_behind c left) (second_of_cut c agree) whole_new))
        (λ written. inr (kept_first c closed new (first_of_cut c written) whole_new)))
        cut

    pub pair_after : (h2 : Image) → AgreeOutside (in_copy Primary) h1 h2 → IsWritten Primary h2 closed new
        → IsPair h2 closed new
    pair_after h2 agree written = record { first = first_of_cut h2 written; second = second_of_cut h2 agree }
