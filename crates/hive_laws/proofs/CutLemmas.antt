-- What an image loads as, and reads as, that is recovered as one of two.
use Rattle.std.proofs.Common.{inl, inr, ℕ, List, Option, refl}
use Rattle.hive_model.specs.Base.{Base}
use Rattle.hive_model.specs.Carries.{IsRecoveredAs}
use Rattle.hive_model.specs.Image.{Image}
use Rattle.hive_model.specs.Load.{Loads}
use Rattle.hive_model.specs.State.{HiveState}
use Rattle.hive_cells.proofs.Again.{one_list}
use Rattle.hive_read.proofs.Loading.{one-load}
use Rattle.hive_commit.specs.Stages.{IsBeforeOrAfter, LoadsAsEither}
use Rattle.hive_laws.specs.hive_laws.Cuts.{HoldsIn, LoadsAsNoThird, ReadsAsEither}

-- an image that is recovered as this loads as the state that this holds
loads_as : (image : Image) (base : Base) (bins : List ℕ) (state : HiveState) → HoldsIn base bins state
    → (is : IsRecoveredAs image base bins) → Loads image state is.dirty
loads_as image base bins state holds is =
    record {
      recovered = record { base = base; bins = bins; dirty = is.dirty };
      read = is.recovered;
      was_dirty = refl;
      holds = record {
        bins = holds.bins;
        cells = holds.cells;
        tree = holds.tree;
        sequence = holds.sequence;
        version = holds.version;
      };
    }

-- so an image that is recovered as one of two reads as one of them, by whatever reading
pub reads_as_either : (reading : Base → List ℕ → Option HiveState) (base closed : Base) (old new : List ℕ)
    (image : Image)
    → IsBeforeOrAfter base old closed new image → ReadsAsEither reading base old closed new image
reads_as_either reading base closed old new image (inl is) =
    (record { base = base; bins = old; dirty = is.dirty }, is.recovered, inl refl)
reads_as_either reading base closed old new image (inr is) =
    (record { base = closed; bins = new; dirty = is.dirty }, is.recovered, inr refl)

module _ (base closed : Base) (old new : List ℕ) (before after : HiveState)
    (held : HoldsIn base old before) (holds : HoldsIn closed new after) where
  pub loads_as_either : (image : Image) → IsBeforeOrAfter base old closed new image → LoadsAsEither before after image
  loads_as_either image (inl is) = inl (is.dirty, loads_as image base old before held is)
  loads_as_either image (inr is) = inr (is.dirty, loads_as image closed new after holds is)

  pub loads_as_no_third : (image : Image) → IsBeforeOrAfter base old closed new image
      → LoadsAsNoThird before after image
  loads_as_no_third image (inl is) found dirty loads =
      inl (one-load one_list image found before dirty is.dirty loads (loads_as image base old before held is)).0
  loads_as_no_third image (inr is) found dirty loads =
      inr (one-load one_list image found after dirty is.dirty loads (loads_as image closed new after holds is)).0
