-- What stands as the lines of `twin` tell? (This project's own.)
use Rattle.std.specs.Prelude.{◌≡◌, ◌++◌, ℕ, List, [], Option, Some, None, Ok, codes}
use Rattle.std.specs.Fmt.{decimal}
use Rattle.hive_model.specs.Base.{version_of}
use Rattle.hive_model.specs.Image.{Image}
use Rattle.hive_model.specs.Load.{state_of}
use Rattle.hive_model.specs.Recovery.{Recovered}
use Rattle.hive_model.specs.State.{HiveState}
use Rattle.hive_model.specs.Tree.{Tree}
use Rattle.nt_edge.specs.Host.{HostState}
use Rattle.hive_commit.specs.Stages.{next_number}
use Rattle.hive_alt.specs.Changes.{Change, nothing, no_select, too_large, changed, change_of, defaulted}
use Rattle.hive_alt.specs.Plans.{IsFound}
use Rattle.hive_alt.specs.Schemes.{StandsClean}
use Rattle.command_words.specs.Words.{TwinAsked}
use Rattle.command_parts.specs.declared.command_parts.inputs.HiveFiles.{HiveFiles}
use Rattle.command_parts.specs.command_parts.Inputs.{hive_in}
use Rattle.command_parts.specs.command_parts.Placed.{image_in}
use Rattle.twin_command.specs.Told.{load_text}
use Rattle.twin_command.specs.Twinned.{stands_by}

-- the line of the default set; without a number there is none
abbrev pub default_line : Option ℕ → Recovered → Change → List ℕ
default_line None found change = []
default_line (Some number) found nothing = codes "default nothing\n"
default_line (Some number) found no_select = codes "refused default no-key\n"
default_line (Some number) found too_large = codes "refused default full\n"
default_line (Some number) found (changed u) =
    codes "commit default " ++ decimal (next_number found.base.first) ++ codes "\n"

-- the lines: what was loaded, the default set, the end
abbrev pub lines_of : Option ℕ → Recovered → Change → List ℕ
lines_of number found change = load_text found.base.first found.dirty ++ default_line number found change ++ codes "end\n"

-- the tree with this number as `Select\Default`; without one as it is
abbrev pub with_default : Option ℕ → Tree → Tree
with_default None tree = tree
with_default (Some number) tree = defaulted number tree

-- The state that these lines tell: the loaded tree under the number of `load`; with the default set, under the number of
-- `commit default`, where that was printed.
abbrev pub told_state : Option ℕ → Recovered → Tree → Change → HiveState
told_state number found tree nothing = state_of tree found.base.first (version_of found.base.minor)
told_state number found tree no_select = state_of tree found.base.first (version_of found.base.minor)
told_state number found tree too_large = state_of tree found.base.first (version_of found.base.minor)
told_state number found tree (changed u) =
    state_of (with_default number tree) (next_number found.base.first) (version_of found.base.minor)

-- what becomes of the tree that was found
abbrev pub becomes : Option ℕ → Recovered → Tree → Change
becomes number found tree = change_of (version_of found.base.minor) tree number

-- The files that the command line names stood for a tree, its lines were printed, and the image stands for the state that they tell,
-- with nothing to repair.
pub record StandsAsTold (words : TwinAsked) (old new : HostState) (image : Image) : Type 0 where
  pub files : HiveFiles
  pub found : Recovered
  pub tree : Tree
  pub named : hive_in old.files words.hive words.alt ≡ Ok files
  pub is_found : IsFound (stands_by words.scheme) (image_in files) found tree
  pub said : new.said ≡ old.said ++ lines_of words.default found (becomes words.default found tree)
  pub stands_for :
      StandsClean (stands_by words.scheme) (told_state words.default found tree (becomes words.default found tree)) image
