-- How are faults printed? (this project's own)
use Rattle.std.specs.Prelude.{ℕ, ◌++◌, codes}
use Rattle.std.specs.Fmt.{decimal}
use Rattle.refusal_reason.specs.reason_lines.Texts.{Text}

-- a file is absent
abbrev pub no_file : Text → Text
no_file name = codes "no file " ++ name ++ codes "\n"

-- of a hive and its log
abbrev pub hive_fault : Text → ℕ → Text
hive_fault kind at = codes "hive fault " ++ kind ++ codes " at " ++ decimal at ++ codes "\n"

-- of the second hive of `diff`
abbrev pub other_fault : Text → ℕ → Text
other_fault kind at = codes "with fault " ++ kind ++ codes " at " ++ decimal at ++ codes "\n"

-- of a script, or of the commands of `control`
abbrev pub script_fault : Text → ℕ → Text
script_fault kind line = codes "script fault " ++ decimal line ++ codes " " ++ kind ++ codes "\n"

-- of a registry text
abbrev pub reg_fault : Text → ℕ → Text
reg_fault kind line = codes "reg fault " ++ decimal line ++ codes " " ++ kind ++ codes "\n"

abbrev pub boot_ini_fault : Text → Text
boot_ini_fault kind = codes "boot.ini fault " ++ kind ++ codes "\n"
