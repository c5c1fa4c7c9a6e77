-- What is shown of a system with one driver, byte for byte? (this project's own)
use Rattle.std.specs.Prelude.{ℕ, List, [], ◌∷◌, ◌++◌, codes}
use Rattle.hive_model.specs.Tree.{Item, Head, Tree, key, none, trees}

-- a number of four bytes, below 256
abbrev pub number : List ℕ → ℕ → Item
number name low = record { name = name; kind = 4; bytes = low ∷ 0 ∷ 0 ∷ 0 ∷ [] }

-- a key of this name and these flags without anything
abbrev pub bare : List ℕ → ℕ → Head
bare name flags = record { name = name; flags = flags; stamp = 0; class = []; security = []; values = [] }

-- a key of this name with these children
abbrev pub folder : List ℕ → List Tree → Tree
folder name keys = key (bare name 0) (trees keys)

-- the driver, which starts at boot
abbrev pub disk_key : Tree
disk_key = key (record (bare (codes "Disk") 0) { values = number (codes "Start") 0 ∷ number (codes "Type") 1 ∷ [] }) none

-- the one control set
abbrev pub set_key : Tree
set_key = folder (codes "ControlSet001") (folder (codes "Services") (disk_key ∷ []) ∷ [])

-- which set is which
abbrev pub select_key : Tree
select_key = key (record (bare (codes "Select") 0) {
  values = number (codes "Current") 1 ∷ number (codes "Default") 1 ∷ number (codes "Failed") 0 ∷ number (codes "LastKnownGood") 0 ∷ [];
}) none

-- the tree of the system
abbrev pub one_driver : Tree
one_driver = key (bare (codes "ROOT") 0x000C) (trees (set_key ∷ select_key ∷ []))

-- its text where the hive has the sequence number 5
abbrev pub one_driver_text : List ℕ
one_driver_text =
    codes "sequence 5 bulk 776\n"
    ++ codes "ROOT\n"
    ++ codes "  ControlSet001\n"
    ++ codes "    Services\n"
    ++ codes "      Disk\n"
    ++ codes "        = Start 4 4 00000000\n"
    ++ codes "        = Type 4 4 01000000\n"
    ++ codes "  Select\n"
    ++ codes "    = Current 4 4 01000000\n"
    ++ codes "    = Default 4 4 01000000\n"
    ++ codes "    = Failed 4 4 00000000\n"
    ++ codes "    = LastKnownGood 4 4 00000000\n"
