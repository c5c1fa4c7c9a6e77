-- Which lines of `key` say what lines of `find` say? (this project's own)
use Rattle.std.specs.Prelude.{Bool, true, false}
use Rattle.key_text.specs.Lines.{KeyLine, RootLine, KeyAtLine, StampLine, FlagsLine, ClassLine, ClassBytesLine, SecurityLine, ValueLine, SubkeyLine, NoKeyLine, EndLine}
use Rattle.key_text.specs.Blocks.{title_line}
use Rattle.find_rule.specs.Hits.{Hit, KeyName, ValueName, Data}

-- a place that has a line of its own in `key`: a key's name, or data of a value
abbrev pub has_key_line : Hit → Bool
has_key_line (KeyName path name) = true
has_key_line (ValueName path name) = false
has_key_line (Data path v) = true

-- that line
abbrev pub key_line_of : Hit → KeyLine
key_line_of (KeyName path name) = title_line path name
key_line_of (ValueName path name) = EndLine
key_line_of (Data path v) = ValueLine v

-- a line of `key` that says a key or a value
abbrev pub says_place : KeyLine → Bool
says_place (RootLine name) = true
says_place (KeyAtLine path) = true
says_place (StampLine stamp) = false
says_place (FlagsLine flags) = false
says_place (ClassLine units) = false
says_place (ClassBytesLine bytes) = false
says_place (SecurityLine bytes) = false
says_place (ValueLine v) = true
says_place (SubkeyLine name) = false
says_place NoKeyLine = false
says_place EndLine = false
