-- How is a type of a value named? (Microsoft's documentation of registry value types)
use Rattle.std.specs.Prelude.{ℕ, List, [], ◌∷◌, ◌++◌, codes, slice_get, unwrap_or}
use Rattle.std.specs.Int.{w32, to_be_bytes}
use Rattle.hex.specs.Hex.{encode_lower}

-- the types 0 to 11
abbrev pub kind_names : List (List ℕ)
kind_names =
    codes "REG_NONE" ∷ codes "REG_SZ" ∷ codes "REG_EXPAND_SZ" ∷ codes "REG_BINARY" ∷ codes "REG_DWORD" ∷ codes "REG_DWORD_BIG_ENDIAN"
    ∷ codes "REG_LINK" ∷ codes "REG_MULTI_SZ" ∷ codes "REG_RESOURCE_LIST" ∷ codes "REG_FULL_RESOURCE_DESCRIPTOR"
    ∷ codes "REG_RESOURCE_REQUIREMENTS_LIST" ∷ codes "REG_QWORD" ∷ []

-- any other type: eight lower-case hexadecimal digits
abbrev pub kind_digits : ℕ → List ℕ
kind_digits kind = codes "0x" ++ encode_lower (to_be_bytes w32 kind)

-- the type's name where it has one
abbrev pub kind_text : ℕ → List ℕ
kind_text kind = unwrap_or (slice_get kind_names kind) (kind_digits kind)
