-- Where does the file of a text lie, and does the text name svchost? (this project's own; the names of the Windows folder: Microsoft's documentation of
-- ImagePath and of ServiceDll)
--
-- Texts are folded first, so that the names below stand in capitals.
use Rattle.std.specs.Prelude.{ℕ, Bool, true, false, not, ◌&&◌, ◌||◌, ◌==◌, nat_le, nat_eq, List, [], ◌∷◌, drop, codes, if◌then◌else◌}
use Rattle.std.specs.List.{starts_with}
use Rattle.nt_bytes.specs.Folding.{folded}

abbrev pub begins : List ℕ → List ℕ → Bool
begins text front = starts_with nat_eq text front

-- ---- steps upwards

abbrev pub is_separator : ℕ → Bool
is_separator c = (c == 0x5C) || (c == 0x2F)

-- two dots and a separator
abbrev pub begins_parent : List ℕ → Bool
begins_parent text = begins text (codes "..\\") || begins text (codes "../")

-- these stand at the beginning, where that is one of a name, or after a separator
abbrev pub steps_up : Bool → List ℕ → Bool
steps_up fresh [] = false
steps_up fresh (c ∷ cs) = if fresh && begins_parent (c ∷ cs) then true else steps_up (is_separator c) cs

-- ---- the Windows folder

abbrev pub is_letter : ℕ → Bool
is_letter c = nat_le 0x41 c && nat_le c 0x5A

-- what stands after a drive
abbrev pub follows_drive : List ℕ → Bool
follows_drive text = begins text (codes "\\WINDOWS\\") || begins text (codes "\\WINNT\\")

-- a letter and a colon, and then that
abbrev pub in_drive : List ℕ → Bool
in_drive [] = false
in_drive (c ∷ []) = false
in_drive (c ∷ colon ∷ rest) = is_letter c && (colon == 0x3A) && follows_drive rest

-- a drive's Windows folder; which letter it has isn't judged
abbrev pub in_windows : List ℕ → Bool
in_windows text = in_drive text || begins text (codes "%SYSTEMDRIVE%\\WINDOWS\\") || begins text (codes "%SYSTEMDRIVE%\\WINNT\\")

-- any name of the Windows folder
abbrev pub in_folder : List ℕ → Bool
in_folder text =
    begins text (codes "\\SYSTEMROOT\\") || begins text (codes "%SYSTEMROOT%\\") || begins text (codes "%WINDIR%\\") || in_windows text

-- a separator or a percent sign
abbrev pub is_root : ℕ → Bool
is_root c = (c == 0x5C) || (c == 0x2F) || (c == 0x25)

-- no path below some folder: it begins with one of these, or has a colon second
abbrev pub is_rooted : List ℕ → Bool
is_rooted [] = false
is_rooted (c ∷ []) = is_root c
is_rooted (c ∷ d ∷ rest) = is_root c || (d == 0x3A)

abbrev pub lies_outside : List ℕ → Bool
lies_outside text =
    if steps_up true text then true
    else (if begins text (codes "\\??\\") then not (in_windows (drop 4 text))
    else is_rooted text && not (in_folder text))

-- a quote at the beginning is left out
abbrev pub without_quote : List ℕ → List ℕ
without_quote [] = []
without_quote (c ∷ cs) = if c == 0x22 then cs else c ∷ cs

-- the text is outside of the Windows folder
abbrev pub is_outside : List ℕ → Bool
is_outside text = lies_outside (without_quote (folded text))

-- ---- svchost

-- a backslash or a quote, after which a name may stand
abbrev pub is_before_name : ℕ → Bool
is_before_name c = (c == 0x5C) || (c == 0x22)

-- the end, a space or a quote
abbrev pub ends_name : List ℕ → Bool
ends_name [] = true
ends_name (c ∷ cs) = (c == 0x20) || (c == 0x22)

-- the same, perhaps after `.exe`
abbrev pub ends_there : List ℕ → Bool
ends_there text = ends_name text || begins text (codes ".EXE") && ends_name (drop 4 text)

abbrev pub begins_svchost : List ℕ → Bool
begins_svchost text = begins text (codes "SVCHOST") && ends_there (drop 7 text)

-- this stands at the beginning, where that is one of a name, or after a backslash or a quote
abbrev pub has_svchost : Bool → List ℕ → Bool
has_svchost fresh [] = false
has_svchost fresh (c ∷ cs) = if fresh && begins_svchost (c ∷ cs) then true else has_svchost (is_before_name c) cs

-- the text names svchost
abbrev pub names_svchost : List ℕ → Bool
names_svchost text = has_svchost true (folded text)
