-- The hive of one driver: a file that was written apart from this repository.
use Rattle.std.specs.Prelude.{ℕ, List, [], ◌∷◌, ◌++◌, replicate}
use Rattle.std.specs.List.{flat_map}
use Rattle.std.specs.Int.{w32, to_le_bytes}
use Rattle.hive_model.specs.Image.{Image, image_of}
use Rattle.hive_laws.specs.hive_laws.Samples.{file_of, changed}

-- its bin up to the free cell, in words of four bytes
unfoldable pub driver_words : List ℕ
driver_words =
    0x6E696268 ∷ 0 ∷ 0x00001000 ∷ 0 ∷ 0 ∷ 0 ∷ 0 ∷ 0 ∷
    0xFFFFFFA8 ∷ 0x002C6B6E ∷ 0 ∷ 0 ∷ 0 ∷ 0xFFFFFFFF ∷ 2 ∷ 0 ∷
    0x00000078 ∷ 0xFFFFFFFF ∷ 0 ∷ 0xFFFFFFFF ∷ 0xFFFFFFFF ∷ 0xFFFFFFFF ∷ 0x0000001A ∷ 0 ∷
    0 ∷ 0 ∷ 0 ∷ 4 ∷ 0x544F4F52 ∷ 0 ∷ 0xFFFFFFE8 ∷ 0x0002666C ∷
    0x00000090 ∷ 0x746E6F43 ∷ 0x00000210 ∷ 0x656C6553 ∷ 0xFFFFFFA0 ∷ 0x00206B6E ∷ 0 ∷ 0 ∷
    0 ∷ 0x00000020 ∷ 1 ∷ 0 ∷ 0x000000F0 ∷ 0xFFFFFFFF ∷ 0 ∷ 0xFFFFFFFF ∷
    0xFFFFFFFF ∷ 0xFFFFFFFF ∷ 0x00000010 ∷ 0 ∷ 0 ∷ 0 ∷ 0 ∷ 0x0000000D ∷
    0x746E6F43 ∷ 0x536C6F72 ∷ 0x30307465 ∷ 0x00000031 ∷ 0xFFFFFFF0 ∷ 0x0001666C ∷ 0x00000100 ∷ 0x76726553 ∷
    0xFFFFFFA8 ∷ 0x00206B6E ∷ 0 ∷ 0 ∷ 0 ∷ 0x00000090 ∷ 1 ∷ 0 ∷
    0x00000158 ∷ 0xFFFFFFFF ∷ 0 ∷ 0xFFFFFFFF ∷ 0xFFFFFFFF ∷ 0xFFFFFFFF ∷ 8 ∷ 0 ∷
    0 ∷ 0 ∷ 0 ∷ 8 ∷ 0x76726553 ∷ 0x73656369 ∷ 0xFFFFFFF0 ∷ 0x0001666C ∷
    0x00000168 ∷ 0x6B736944 ∷ 0xFFFFFFA8 ∷ 0x00206B6E ∷ 0 ∷ 0 ∷ 0 ∷ 0x00000100 ∷
    0 ∷ 0 ∷ 0xFFFFFFFF ∷ 0xFFFFFFFF ∷ 2 ∷ 0x000001C0 ∷ 0xFFFFFFFF ∷ 0xFFFFFFFF ∷
    0 ∷ 0 ∷ 0x0000000A ∷ 4 ∷ 0 ∷ 4 ∷ 0x6B736944 ∷ 0 ∷
    0xFFFFFFF0 ∷ 0x000001D0 ∷ 0x000001F0 ∷ 0 ∷ 0xFFFFFFE0 ∷ 0x00056B76 ∷ 0x80000004 ∷ 0 ∷
    4 ∷ 1 ∷ 0x72617453 ∷ 0x00000074 ∷ 0xFFFFFFE0 ∷ 0x00046B76 ∷ 0x80000004 ∷ 1 ∷
    4 ∷ 1 ∷ 0x65707954 ∷ 0 ∷ 0xFFFFFFA8 ∷ 0x00206B6E ∷ 0 ∷ 0 ∷
    0 ∷ 0x00000020 ∷ 0 ∷ 0 ∷ 0xFFFFFFFF ∷ 0xFFFFFFFF ∷ 4 ∷ 0x00000268 ∷
    0xFFFFFFFF ∷ 0xFFFFFFFF ∷ 0 ∷ 0 ∷ 0x0000001A ∷ 4 ∷ 0 ∷ 6 ∷
    0x656C6553 ∷ 0x00007463 ∷ 0xFFFFFFE8 ∷ 0x00000280 ∷ 0x000002A0 ∷ 0x000002C0 ∷ 0x000002E0 ∷ 0 ∷
    0xFFFFFFE0 ∷ 0x00076B76 ∷ 0x80000004 ∷ 1 ∷ 4 ∷ 1 ∷ 0x72727543 ∷ 0x00746E65 ∷
    0xFFFFFFE0 ∷ 0x00076B76 ∷ 0x80000004 ∷ 1 ∷ 4 ∷ 1 ∷ 0x61666544 ∷ 0x00746C75 ∷
    0xFFFFFFE0 ∷ 0x00066B76 ∷ 0x80000004 ∷ 0 ∷ 4 ∷ 1 ∷ 0x6C696146 ∷ 0x00006465 ∷
    0xFFFFFFD8 ∷ 0x000D6B76 ∷ 0x80000004 ∷ 0 ∷ 4 ∷ 1 ∷ 0x7473614C ∷ 0x776F6E4B ∷
    0x6F6F476E ∷ 0x00000064 ∷ 0x00000CF8 ∷ 0 ∷ []

-- its bytes
unfoldable pub driver_bin : List ℕ
driver_bin = flat_map (to_le_bytes w32) driver_words ++ replicate 3312 0

-- the hive of one driver with its numbers 5, no log, and these bytes of its bins data changed
unfoldable pub driver_with : List (ℕ × ℕ) → Image
driver_with edits = image_of (file_of 5 5 (changed edits driver_bin)) []

-- what is other in its lists at 120, 240 and 344 where the hive is packed in version 1.5: the signature `lh`, and the hash of each name
abbrev pub hashed_lists : List (ℕ × ℕ)
hashed_lists =
    (125, 0x68) ∷ (132, 0xA2) ∷ (133, 0xA9) ∷ (134, 0x3B) ∷ (135, 0x8F) ∷ (140, 0xA0) ∷
    (141, 0x24) ∷ (142, 0) ∷ (143, 0x5F) ∷ (245, 0x68) ∷ (252, 0x30) ∷ (253, 0xF7) ∷
    (254, 0x7A) ∷ (255, 0x22) ∷ (349, 0x68) ∷ (356, 0x5F) ∷ (357, 0x21) ∷ (358, 0x36) ∷
    (359, 0) ∷ []
