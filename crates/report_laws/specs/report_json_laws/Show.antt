-- How is a line of `show` read from its object? (this project's own)
use Rattle.std.specs.Prelude.{ℕ, zero, suc, ◌==◌, max, if◌then◌else◌, List, [], ◌∷◌, ◌++◌, codes}
use Rattle.std.specs.Fmt.{decimal}
use Rattle.hive_model.specs.Tree.{Tree, Trees, key, none, more}
use Rattle.start_model.specs.Lines.{name_text}
use Rattle.report_text.specs.line_text.Objects.{Number, Text}
use Rattle.json_laws.specs.Reports.{Fields, Reader, Said, said}
use Rattle.tree_text.specs.TreeText.{deeper, value_text}
use Rattle.tree_text.specs.TreeObjects.{TreeLine, HiveLine, KeyLine, ValueLine, value_fields}

-- how many levels are below a key
abbrev mutual
  pub levels : Tree → ℕ
  levels (key h ts) = levels_in ts

  -- how many levels are these children, and what is below them
  pub levels_in : Trees → ℕ
  levels_in none = 0
  levels_in (more t ts) = max (suc (levels t)) (levels_in ts)

-- the margin of a key of this level
abbrev pub margin : ℕ → List ℕ
margin zero = []
margin (suc level) = deeper (margin level)

abbrev pub hive_text : ℕ → ℕ → List ℕ
hive_text sequence bulk = codes "sequence " ++ decimal sequence ++ codes " bulk " ++ decimal bulk ++ codes "\n"

abbrev pub name_line : ℕ → List ℕ → List ℕ
name_line level name = margin level ++ name_text name ++ codes "\n"

-- ---- the line

abbrev pub text_of : TreeLine → List ℕ
text_of (HiveLine sequence bulk) = hive_text sequence bulk
text_of (KeyLine level name) = name_line level name
text_of (ValueLine level v) = value_text (margin (suc level)) v

abbrev pub word_of : TreeLine → List ℕ
word_of (HiveLine sequence bulk) = codes "tree"
word_of (KeyLine level name) = codes "key"
word_of (ValueLine level v) = codes "value"

abbrev pub fields_of : TreeLine → Fields
fields_of (HiveLine sequence bulk) = (codes "sequence", Number sequence) ∷ (codes "bulk", Number bulk) ∷ []
fields_of (KeyLine level name) = (codes "level", Number level) ∷ (codes "name", Text name) ∷ []
fields_of (ValueLine level v) = value_fields level v

abbrev pub said_of : TreeLine → Said
said_of line = said (text_of line) (word_of line) (fields_of line)

-- ---- the text of an object

-- the digits of data, which follow a space where there are any
abbrev pub digits_text : ℕ → List ℕ → List ℕ
digits_text count digits = if count == 0 then [] else codes " " ++ digits

abbrev pub show_reader : Reader
show_reader word ((a, Number sequence) ∷ (b, Number bulk) ∷ []) = hive_text sequence bulk
show_reader word ((a, Number level) ∷ (b, Text name) ∷ []) = name_line level name
show_reader word ((a, Number level) ∷ (b, Text name) ∷ (c, Number kind) ∷ (d, Number count) ∷ (e, Text digits) ∷ []) =
    margin (suc level) ++ codes "= " ++ name_text name ++ codes " " ++ decimal kind ++ codes " " ++ decimal count ++ digits_text count digits ++ codes "\n"
show_reader word other = []
