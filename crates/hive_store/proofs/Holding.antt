-- What an image holds that is recovered as a base block and bins data, or as one of two of them.
use Rattle.std.proofs.Common.{◌≡◌, inl, inr, ⊎_elim, ℕ, Bool, true, false, List, length, Result, Ok, refl, sym, subst, ◌∙◌, arith}
use Rattle.nt_bytes.specs.declared.fault.HiveFault.{HiveFault}
use Rattle.hive_model.specs.Base.{Base, is_bins_size, version_of}
use Rattle.hive_model.specs.Image.{Image}
use Rattle.hive_model.specs.Recovery.{Recovered, recovered_of}
use Rattle.hive_model.specs.Carries.{Carries, IsRecoveredAs}
use Rattle.hive_model.specs.State.{HiveState}
use Rattle.hive_model.specs.Load.{Loads, LoadsAs, Holds}
use Rattle.hive_model.specs.Tree.{Tree}
use Rattle.nt_edge.specs.Disk.{DiskState}
use Rattle.nt_edge.specs.Crash.{EachCrash}
use Rattle.hive_log.proofs.Appending.{sized}
use Rattle.hive_log.proofs.Finding.{carries_recovered}
use Rattle.hive_commit.specs.Stages.{IsBeforeOrAfter, LoadsAsEither}
use Rattle.hive_store.specs.Session.{HasTree}
use Rattle.hive_store.specs.Checks.{held_state}

abbrev done : Recovered → Result Recovered HiveFault
done r = Ok r

one_found : (x y : Recovered) → done x ≡ done y → x ≡ y
one_found x y e = cc

-- a clean hive
abbrev pub clean : Base → List ℕ → Recovered
clean base bins = record { base = base; bins = bins; dirty = false }

-- what is recovered as what has this tree loads as it
pub found_loads : (image : Image) (r : Recovered) (tree : Tree) → recovered_of image ≡ Ok r
    → Holds r (held_state r tree) → LoadsAs image (held_state r tree)
found_loads image r tree is holds = (r.dirty, record { recovered = r; read = is; was_dirty = refl; holds = holds })

-- a state is held with or without a log
pub held_again : (r : Recovered) (s : HiveState) (image : Image) → Holds r s → IsRecoveredAs image r.base r.bins
    → LoadsAs image s
held_again r s image holds is = (
  is.dirty,
  record {
    recovered = record { base = r.base; bins = r.bins; dirty = is.dirty };
    read = is.recovered;
    was_dirty = refl;
    holds = record {
      bins = holds.bins;
      cells = holds.cells;
      tree = holds.tree;
      sequence = holds.sequence;
      version = holds.version;
    };
  },
)

-- what an image is recovered as holds what the image loads as
pub held_by : (image : Image) (s : HiveState) (dirty : Bool) (r : Recovered) → Loads image s dirty
    → recovered_of image ≡ Ok r → Holds r s
held_by image s dirty r loads is =
    subst (λ (x : Recovered). Holds x s) (one_found loads.recovered r (sym loads.read ∙ is)) loads.holds

-- an image that carries them is recovered as them
pub carried : (image : Image) (base : Base) (bins : List ℕ) → is_bins_size (length bins) ≡ true
    → Carries image base bins
    → recovered_of image ≡ Ok (clean base bins)
carried image base bins size carries =
    let pages = (sized (length bins) size).pages in
    carries_recovered image base bins carries (omega arith)

-- and it loads as what they hold
pub carried_loads : (image : Image) (base : Base) (bins : List ℕ) (s : HiveState) → is_bins_size (length bins) ≡ true
    → Carries image base bins
    → Holds (clean base bins) s → Loads image s false
carried_loads image base bins s size carries holds =
    record { recovered = clean base bins; read = carried image base bins size carries; was_dirty = refl; holds = holds }

-- bins data in which a tree stands hold it, under the number and in the version of the base block
pub tree_holds : (base : Base) (bins : List ℕ) (tree : Tree) → HasTree (version_of base.minor) bins base.root tree
    → Holds (clean base bins) (held_state (clean base bins) tree)
tree_holds base bins tree has =
    record { bins = has.heap; cells = has.cells; tree = has.stands; sequence = refl; version = refl }

-- and an image that carries them loads as it
pub tree_loads : (base : Base) (bins : List ℕ) (tree : Tree) → HasTree (version_of base.minor) bins base.root tree
    → (held : Image) → Carries held base bins → Loads held (held_state (clean base bins) tree) false
tree_loads base bins tree has held carries =
    carried_loads held base bins (held_state (clean base bins) tree) has.sized carries
    (tree_holds base bins tree has)

-- what is recovered as the old or as the new loads as what the one or the other holds
pub either_loads : (base : Base) (bins : List ℕ) (before : HiveState) → Holds (clean base bins) before
    → (closed : Base) (new : List ℕ) (after : HiveState) → Holds (clean closed new) after
    → (state : DiskState) → EachCrash state (IsBeforeOrAfter base bins closed new)
    → EachCrash state (LoadsAsEither before after)
either_loads base bins before was closed new after holds state each c crash =
    ⊎_elim
    (λ is. inl (held_again (clean base bins) before c was is))
    (λ is. inr (held_again (clean closed new) after c holds is))
    (each c crash)
