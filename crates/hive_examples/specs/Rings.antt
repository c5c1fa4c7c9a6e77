-- The bins data of two trees with descriptors, field by field, as the format's tables and the rules of the packed form give them
-- by hand. A cell's place stands above it; a place is written with its lowest byte first.
use Rattle.std.specs.Prelude.{ℕ, List, [], ◌∷◌, ◌++◌, codes, replicate}
use Rattle.hive_laws.specs.hive_laws.Samples.{none_here}

-- the header of one bin of 4096 bytes
abbrev pub one_bin : List ℕ
one_bin = codes "hbin" ++ (0 ∷ 0 ∷ 0 ∷ 0 ∷ []) ++ (0 ∷ 0x10 ∷ 0 ∷ 0 ∷ []) ++ replicate 20 0

-- The two descriptors are at 120, where the root and `A` use it, and at 360, where `B` does: each is next to the other, and before it.
unfoldable pub two_descriptors_bin : List ℕ
two_descriptors_bin =
    one_bin
    -- 32: the node of `R`: two keys, in the list at 152, whose names take at most two bytes and whose classes one
    ++ (0xA8 ∷ 0xFF ∷ 0xFF ∷ 0xFF ∷ []) ++ codes "nk" ++ (0x2C ∷ 0 ∷ []) ++ replicate 12 0 ++ none_here
    ++ (2 ∷ 0 ∷ 0 ∷ 0 ∷ []) ++ replicate 4 0 ++ (0x98 ∷ 0 ∷ 0 ∷ 0 ∷ []) ++ none_here
    ++ replicate 4 0 ++ none_here ++ (0x78 ∷ 0 ∷ 0 ∷ 0 ∷ []) ++ none_here
    ++ (2 ∷ 0 ∷ 0 ∷ 0 ∷ []) ++ (1 ∷ 0 ∷ 0 ∷ 0 ∷ []) ++ replicate 12 0 ++ (1 ∷ 0 ∷ 0 ∷ 0 ∷ []) ++ codes "R" ++ replicate 7 0
    -- 120: the descriptor of `R` and `A`; 360 is next and before, and two keys use it
    ++ (0xE0 ∷ 0xFF ∷ 0xFF ∷ 0xFF ∷ []) ++ codes "sk" ++ (0 ∷ 0 ∷ []) ++ (0x68 ∷ 1 ∷ 0 ∷ 0 ∷ []) ++ (0x68 ∷ 1 ∷ 0 ∷ 0 ∷ [])
    ++ (2 ∷ 0 ∷ 0 ∷ 0 ∷ []) ++ (2 ∷ 0 ∷ 0 ∷ 0 ∷ []) ++ (1 ∷ 2 ∷ []) ++ replicate 6 0
    -- 152: the list of `R`, with 176 and 272
    ++ (0xE8 ∷ 0xFF ∷ 0xFF ∷ 0xFF ∷ []) ++ codes "lf" ++ (2 ∷ 0 ∷ [])
    ++ (0xB0 ∷ 0 ∷ 0 ∷ 0 ∷ []) ++ codes "A" ++ replicate 3 0 ++ (0x10 ∷ 1 ∷ 0 ∷ 0 ∷ []) ++ codes "B" ++ replicate 3 0
    -- 176: the node of `A`, under 32, with the descriptor at 120 and a class of one byte at 264
    ++ (0xA8 ∷ 0xFF ∷ 0xFF ∷ 0xFF ∷ []) ++ codes "nk" ++ (0x20 ∷ 0 ∷ []) ++ replicate 12 0 ++ (0x20 ∷ 0 ∷ 0 ∷ 0 ∷ [])
    ++ replicate 8 0 ++ none_here ++ none_here
    ++ replicate 4 0 ++ none_here ++ (0x78 ∷ 0 ∷ 0 ∷ 0 ∷ []) ++ (8 ∷ 1 ∷ 0 ∷ 0 ∷ [])
    ++ replicate 20 0 ++ (1 ∷ 0 ∷ 1 ∷ 0 ∷ []) ++ codes "A" ++ replicate 7 0
    -- 264: its class
    ++ (0xF8 ∷ 0xFF ∷ 0xFF ∷ 0xFF ∷ []) ++ (9 ∷ 0 ∷ 0 ∷ 0 ∷ [])
    -- 272: the node of `B`, under 32, with the descriptor at 360
    ++ (0xA8 ∷ 0xFF ∷ 0xFF ∷ 0xFF ∷ []) ++ codes "nk" ++ (0x20 ∷ 0 ∷ []) ++ replicate 12 0 ++ (0x20 ∷ 0 ∷ 0 ∷ 0 ∷ [])
    ++ replicate 8 0 ++ none_here ++ none_here
    ++ replicate 4 0 ++ none_here ++ (0x68 ∷ 1 ∷ 0 ∷ 0 ∷ []) ++ none_here
    ++ replicate 20 0 ++ (1 ∷ 0 ∷ 0 ∷ 0 ∷ []) ++ codes "B" ++ replicate 7 0
    -- 360: the descriptor of `B`; 120 is next and before, and one key uses it
    ++ (0xE0 ∷ 0xFF ∷ 0xFF ∷ 0xFF ∷ []) ++ codes "sk" ++ (0 ∷ 0 ∷ []) ++ (0x78 ∷ 0 ∷ 0 ∷ 0 ∷ []) ++ (0x78 ∷ 0 ∷ 0 ∷ 0 ∷ [])
    ++ (1 ∷ 0 ∷ 0 ∷ 0 ∷ []) ++ (1 ∷ 0 ∷ 0 ∷ 0 ∷ []) ++ (3 ∷ []) ++ replicate 7 0
    -- 392: the free cell, of 3704 bytes
    ++ (0x78 ∷ 0x0E ∷ 0 ∷ 0 ∷ []) ++ replicate 3700 0

-- The descriptors are at 120, 264 and 400; the keys `R` and `D` use the first, `A` the second and `C` the third.
unfoldable pub ring_of_three_bin : List ℕ
ring_of_three_bin =
    one_bin
    -- 32: the node of `R`: two keys, in the list at 152, whose names take at most two bytes
    ++ (0xA8 ∷ 0xFF ∷ 0xFF ∷ 0xFF ∷ []) ++ codes "nk" ++ (0x2C ∷ 0 ∷ []) ++ replicate 12 0 ++ none_here
    ++ (2 ∷ 0 ∷ 0 ∷ 0 ∷ []) ++ replicate 4 0 ++ (0x98 ∷ 0 ∷ 0 ∷ 0 ∷ []) ++ none_here
    ++ replicate 4 0 ++ none_here ++ (0x78 ∷ 0 ∷ 0 ∷ 0 ∷ []) ++ none_here
    ++ (2 ∷ 0 ∷ 0 ∷ 0 ∷ []) ++ replicate 16 0 ++ (1 ∷ 0 ∷ 0 ∷ 0 ∷ []) ++ codes "R" ++ replicate 7 0
    -- 120: the descriptor of `R` and `D`; 264 is next, 400 before, and two keys use it
    ++ (0xE0 ∷ 0xFF ∷ 0xFF ∷ 0xFF ∷ []) ++ codes "sk" ++ (0 ∷ 0 ∷ []) ++ (8 ∷ 1 ∷ 0 ∷ 0 ∷ []) ++ (0x90 ∷ 1 ∷ 0 ∷ 0 ∷ [])
    ++ (2 ∷ 0 ∷ 0 ∷ 0 ∷ []) ++ (2 ∷ 0 ∷ 0 ∷ 0 ∷ []) ++ (1 ∷ 2 ∷ []) ++ replicate 6 0
    -- 152: the list of `R`, with 176 and 432
    ++ (0xE8 ∷ 0xFF ∷ 0xFF ∷ 0xFF ∷ []) ++ codes "lf" ++ (2 ∷ 0 ∷ [])
    ++ (0xB0 ∷ 0 ∷ 0 ∷ 0 ∷ []) ++ codes "A" ++ replicate 3 0 ++ (0xB0 ∷ 1 ∷ 0 ∷ 0 ∷ []) ++ codes "D" ++ replicate 3 0
    -- 176: the node of `A`, under 32, with one key in the list at 296, and the descriptor at 264
    ++ (0xA8 ∷ 0xFF ∷ 0xFF ∷ 0xFF ∷ []) ++ codes "nk" ++ (0x20 ∷ 0 ∷ []) ++ replicate 12 0 ++ (0x20 ∷ 0 ∷ 0 ∷ 0 ∷ [])
    ++ (1 ∷ 0 ∷ 0 ∷ 0 ∷ []) ++ replicate 4 0 ++ (0x28 ∷ 1 ∷ 0 ∷ 0 ∷ []) ++ none_here
    ++ replicate 4 0 ++ none_here ++ (8 ∷ 1 ∷ 0 ∷ 0 ∷ []) ++ none_here
    ++ (2 ∷ 0 ∷ 0 ∷ 0 ∷ []) ++ replicate 16 0 ++ (1 ∷ 0 ∷ 0 ∷ 0 ∷ []) ++ codes "A" ++ replicate 7 0
    -- 264: the descriptor of `A`; 400 is next, 120 before, and one key uses it
    ++ (0xE0 ∷ 0xFF ∷ 0xFF ∷ 0xFF ∷ []) ++ codes "sk" ++ (0 ∷ 0 ∷ []) ++ (0x90 ∷ 1 ∷ 0 ∷ 0 ∷ []) ++ (0x78 ∷ 0 ∷ 0 ∷ 0 ∷ [])
    ++ (1 ∷ 0 ∷ 0 ∷ 0 ∷ []) ++ (1 ∷ 0 ∷ 0 ∷ 0 ∷ []) ++ (3 ∷ []) ++ replicate 7 0
    -- 296: the list of `A`, with 312
    ++ (0xF0 ∷ 0xFF ∷ 0xFF ∷ 0xFF ∷ []) ++ codes "lf" ++ (1 ∷ 0 ∷ []) ++ (0x38 ∷ 1 ∷ 0 ∷ 0 ∷ []) ++ codes "C" ++ replicate 3 0
    -- 312: the node of `C`, under 176, with the descriptor at 400
    ++ (0xA8 ∷ 0xFF ∷ 0xFF ∷ 0xFF ∷ []) ++ codes "nk" ++ (0x20 ∷ 0 ∷ []) ++ replicate 12 0 ++ (0xB0 ∷ 0 ∷ 0 ∷ 0 ∷ [])
    ++ replicate 8 0 ++ none_here ++ none_here
    ++ replicate 4 0 ++ none_here ++ (0x90 ∷ 1 ∷ 0 ∷ 0 ∷ []) ++ none_here
    ++ replicate 20 0 ++ (1 ∷ 0 ∷ 0 ∷ 0 ∷ []) ++ codes "C" ++ replicate 7 0
    -- 400: the descriptor of `C`, which is not that of `A`; 120 is next, 264 before, and one key uses it
    ++ (0xE0 ∷ 0xFF ∷ 0xFF ∷ 0xFF ∷ []) ++ codes "sk" ++ (0 ∷ 0 ∷ []) ++ (0x78 ∷ 0 ∷ 0 ∷ 0 ∷ []) ++ (8 ∷ 1 ∷ 0 ∷ 0 ∷ [])
    ++ (1 ∷ 0 ∷ 0 ∷ 0 ∷ []) ++ (2 ∷ 0 ∷ 0 ∷ 0 ∷ []) ++ (1 ∷ 2 ∷ []) ++ replicate 6 0
    -- 432: the node of `D`, under 32, with the descriptor at 120
    ++ (0xA8 ∷ 0xFF ∷ 0xFF ∷ 0xFF ∷ []) ++ codes "nk" ++ (0x20 ∷ 0 ∷ []) ++ replicate 12 0 ++ (0x20 ∷ 0 ∷ 0 ∷ 0 ∷ [])
    ++ replicate 8 0 ++ none_here ++ none_here
    ++ replicate 4 0 ++ none_here ++ (0x78 ∷ 0 ∷ 0 ∷ 0 ∷ []) ++ none_here
    ++ replicate 20 0 ++ (1 ∷ 0 ∷ 0 ∷ 0 ∷ []) ++ codes "D" ++ replicate 7 0
    -- 520: the free cell, of 3576 bytes
    ++ (0xF8 ∷ 0x0D ∷ 0 ∷ 0 ∷ []) ++ replicate 3572 0
