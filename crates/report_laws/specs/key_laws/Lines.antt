-- What is asked of a line of `key`, so that its text determines it? (the widths of the fields: regf format; the rest is this project's own)
use Rattle.std.specs.Prelude.{◌≡◌, ◌<◌, ◌^◌, ℕ, false, List, length}
use Rattle.std.specs.List.{All, AllByRecursion}
use Rattle.hex.specs.Hex.{IsBytes}
use Rattle.nt_bytes.specs.Text.{is_backslash}
use Rattle.hive_model.specs.Tree.{Item}
use Rattle.json_laws.specs.Objects.{AreUnits}
use Rattle.key_text.specs.Lines.{KeyLine, RootLine, KeyAtLine, StampLine, FlagsLine, ClassLine, ClassBytesLine, SecurityLine, ValueLine, SubkeyLine, NoKeyLine, EndLine}

-- the name of a key below the root: units, none of which is a backslash
pub record IsKeyName (name : List ℕ) : Type 0 where
  pub units : AreUnits name
  pub whole : All (λ u. is_backslash u ≡ false) name

-- the path of a key below the root
pub record IsKeyPath (path : List (List ℕ)) : Type 0 where
  pub below : 0 < length path
  pub names : AllByRecursion IsKeyName path

-- the name of a value is of units, its type of 32 bits, and its data are bytes
pub record FitsItem (v : Item) : Type 0 where
  pub name : AreUnits v.name
  pub kind : v.kind < 2 ^ 32
  pub bytes : IsBytes v.bytes

-- bytes whose count a field of 32 bits can hold
abbrev pub IsCounted : List ℕ → Type 0
IsCounted bytes = length bytes < 2 ^ 32

-- what a line reports fits the fields of a hive from which it comes
abbrev pub FitsLine : KeyLine → Type 0
FitsLine (RootLine name) = AreUnits name
FitsLine (KeyAtLine path) = IsKeyPath path
FitsLine (StampLine stamp) = stamp < 2 ^ 64
FitsLine (FlagsLine flags) = flags < 2 ^ 16
FitsLine (ClassLine units) = AreUnits units
FitsLine (ClassBytesLine bytes) = IsBytes bytes × IsCounted bytes
FitsLine (SecurityLine bytes) = IsBytes bytes × IsCounted bytes
FitsLine (ValueLine v) = FitsItem v × IsCounted v.bytes
FitsLine (SubkeyLine name) = IsKeyName name
FitsLine NoKeyLine = Unit {0}
FitsLine EndLine = Unit {0}

-- so does each line
abbrev pub FitLines : List KeyLine → Type 0
FitLines lines = AllByRecursion FitsLine lines
