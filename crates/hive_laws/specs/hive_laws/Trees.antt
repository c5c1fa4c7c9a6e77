-- The trees that the worked examples are about.
use Rattle.std.specs.Prelude.{ℕ, zero, suc, List, [], ◌∷◌, ◌++◌, codes, replicate}
use Rattle.hive_model.specs.Tree.{Item, Head, Tree, key, none, trees}

-- a key of this name and these flags without anything
abbrev pub bare : List ℕ → ℕ → Head
bare name flags = record { name = name; flags = flags; stamp = 0; class = []; security = []; values = [] }

-- a key of this name with these children
abbrev pub folder : List ℕ → List Tree → Tree
folder name keys = key (bare name 0) (trees keys)

-- the root `R` alone, with the flags of a root
abbrev pub only_root : Tree
only_root = key (bare (codes "R") 0x000C) none

-- a number of four bytes, below 256
abbrev pub number : List ℕ → ℕ → Item
number name low = record { name = name; kind = 4; bytes = low ∷ 0 ∷ 0 ∷ 0 ∷ [] }

-- a root `R` with these values and these keys, a stamp and a descriptor
abbrev pub root_with : List Item → List Tree → Tree
root_with values keys =
    key (record { name = codes "R"; flags = 0x000C; stamp = 7; class = []; security = 1 ∷ 2 ∷ []; values = values }) (trees keys)

-- the key `A` with a key `C` inside, and the key `D`
abbrev pub a_key : Tree
a_key = folder (codes "A") (folder (codes "C") [] ∷ [])

abbrev pub d_key : Tree
d_key = folder (codes "D") []

-- a root with a value `Tag` and these keys
abbrev pub tagged : List Tree → Tree
tagged keys = root_with (number (codes "Tag") 1 ∷ []) keys

-- such a root with those two
abbrev pub home : Tree
home = tagged (a_key ∷ d_key ∷ [])

-- a new child of that root
abbrev pub new_in_home : List ℕ → Tree
new_in_home name = key (record { name = name; flags = 0; stamp = 7; class = []; security = 1 ∷ 2 ∷ []; values = [] }) none

-- that many keys `K`, each in the one above, and one more at the end
abbrev pub chain : ℕ → Tree
chain zero = folder (codes "K") []
chain (suc n) = folder (codes "K") (chain n ∷ [])

-- the path of that many names `K`
abbrev pub steps_down : ℕ → List (List ℕ)
steps_down zero = []
steps_down (suc n) = codes "K" ∷ steps_down n

-- the hive of one driver: a set with its services, and the four numbers of `Select`
abbrev pub disk_key : Tree
disk_key = key (record (bare (codes "Disk") 0) { values = number (codes "Start") 0 ∷ number (codes "Type") 1 ∷ [] }) none

abbrev pub services_key : Tree
services_key = folder (codes "Services") (disk_key ∷ [])

abbrev pub set_key : Tree
set_key = folder (codes "ControlSet001") (services_key ∷ [])

abbrev pub select_key : Tree
select_key = key (record (bare (codes "Select") 0) {
  values = number (codes "Current") 1 ∷ number (codes "Default") 1 ∷ number (codes "Failed") 0 ∷ number (codes "LastKnownGood") 0 ∷ [];
}) none

abbrev pub one_driver : Tree
one_driver = key (bare (codes "ROOT") 0x000C) (trees (set_key ∷ select_key ∷ []))

-- a root `R` alone with values of these data, whose names count up from `A`
abbrev pub values_from : ℕ → List (List ℕ) → List Item
values_from letter [] = []
values_from letter (bytes ∷ more) = record { name = letter ∷ []; kind = 3; bytes = bytes } ∷ values_from (suc letter) more

abbrev pub full_root : List (List ℕ) → Tree
full_root contents = key (record { name = codes "R"; flags = 0x000C; stamp = 0; class = []; security = []; values = values_from 0x41 contents }) none

-- 16,345 bytes, and a root with them as its one value `A`
abbrev pub long_bytes : List ℕ
long_bytes = replicate 16344 7 ++ 9 ∷ []

abbrev pub long_root : Tree
long_root = full_root (long_bytes ∷ [])

-- the path of `Services` in the hive of one driver, and that of its driver
abbrev pub services_path : List (List ℕ)
services_path = codes "ControlSet001" ∷ codes "Services" ∷ []

abbrev pub disk_path : List (List ℕ)
disk_path = services_path ++ codes "Disk" ∷ []

-- a key of this name with this descriptor
abbrev pub guarded_by : List ℕ → List ℕ → Head
guarded_by descriptor name = record (bare name 0) { security = descriptor }

-- a key `B` with a descriptor of its own and a value of five bytes
abbrev pub marked_key : Tree
marked_key = key (record (guarded_by (3 ∷ []) (codes "B")) { values = record { name = codes "v"; kind = 3; bytes = 1 ∷ 2 ∷ 3 ∷ 4 ∷ 5 ∷ [] } ∷ [] }) none

-- a key `A` with a class, that key and a key `D` inside
abbrev pub classed_key : Tree
classed_key = key (record (guarded_by (1 ∷ 2 ∷ []) (codes "A")) { class = 9 ∷ [] }) (trees (marked_key ∷ key (guarded_by (1 ∷ 2 ∷ []) (codes "D")) none ∷ []))

-- a root `R` with this one child; all but `B` have one descriptor
abbrev pub guarded : Tree
guarded = key (guarded_by (1 ∷ 2 ∷ []) (codes "R")) (trees (classed_key ∷ []))

-- a root `R` with a descriptor and these keys, and a key of this name with this descriptor and these keys
abbrev pub guarded_root : List Tree → Tree
guarded_root keys = key (record (guarded_by (1 ∷ 2 ∷ []) (codes "R")) { flags = 0x000C }) (trees keys)

abbrev pub guarded_key : List ℕ → List ℕ → List Tree → Tree
guarded_key descriptor name keys = key (guarded_by descriptor name) (trees keys)

-- the root, a key `A` with the same descriptor and a class of one byte, and a key `B` with another descriptor
abbrev pub two_descriptors : Tree
two_descriptors = guarded_root (key (record (guarded_by (1 ∷ 2 ∷ []) (codes "A")) { class = 9 ∷ [] }) none ∷ guarded_key (3 ∷ []) (codes "B") [] ∷ [])

-- the root, a key `A` with another descriptor, in that a key `C` with the root's again, and under the root a key `D` with it
abbrev pub ring_of_three : Tree
ring_of_three = guarded_root (guarded_key (3 ∷ []) (codes "A") (guarded_key (1 ∷ 2 ∷ []) (codes "C") [] ∷ []) ∷ guarded_key (1 ∷ 2 ∷ []) (codes "D") [] ∷ [])
