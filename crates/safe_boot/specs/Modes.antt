-- Which safe mode do the switches of an entry of boot.ini ask for? (Microsoft's documentation of boot.ini, /SAFEBOOT; that the
-- first one counts is this project's own)
use Rattle.std.specs.Prelude.{ℕ, ◌||◌, List, [], ◌∷◌, Option, Some, None, codes, if◌then◌else◌}
use Rattle.std.specs.Option.{option_or}
use Rattle.nt_bytes.specs.Text.{names_same}
use Rattle.safe_boot.specs.declared.mode.SafeMode.{SafeMode}
use Rattle.safe_boot.specs.declared.mode.SafeMode.TheVariants.{Minimal, Network}

-- the mode that a switch asks for, its letters in either case
abbrev pub mode_of : List ℕ → Option SafeMode
mode_of switch =
    if names_same switch (codes "/SAFEBOOT:MINIMAL") || names_same switch (codes "/SAFEBOOT:MINIMAL(ALTERNATESHELL)") then Some Minimal
    else if names_same switch (codes "/SAFEBOOT:NETWORK") then Some Network
    else None

-- the mode of the first switch that asks for one
abbrev pub mode_asked : List (List ℕ) → Option SafeMode
mode_asked [] = None
mode_asked (switch ∷ switches) = option_or (mode_of switch) (mode_asked switches)
