-- What an image of bytes loads as can be held.
use Rattle.std.proofs.Common.{subst}
use Rattle.hive_model.specs.Base.{version_of}
use Rattle.hive_model.specs.Bins.{look_up}
use Rattle.nt_bytes.specs.declared.version.HiveVersion.{HiveVersion}
use Rattle.hive_read.proofs.FormFacts.{IsBytes}
use Rattle.hive_read.proofs.ValidTrees.{well-formed-valid, cells-bytes}
use Rattle.hive_laws.proofs.Sized.{recovered_bytes}
use Rattle.state_laws.specs.held_laws.Sets.{PremiseOfLoaded}
use Rattle.state_laws.specs.held_laws.Trees.{LoadedIsValid}
use Rattle.state_laws.proofs.WatchLemmas.{premise_of_states}

pub loaded_is_valid : LoadedIsValid
loaded_is_valid image state dirty bytes l =
    let version : HiveVersion = version_of l.recovered.base.minor in
    well-formed-valid (look_up version l.holds.bins) l.recovered.base.root state.tree
    (cells-bytes version l.holds.bins (subst IsBytes l.holds.cells.1 (recovered_bytes image l.recovered bytes l.read)))
    l.holds.tree

pub premise_of_loaded : PremiseOfLoaded
premise_of_loaded choice script placed image bytes l =
    premise_of_states choice script placed (loaded_is_valid image placed.state placed.dirty bytes l)
