-- The lines of `key`, read from their objects.
use Rattle.std.proofs.Common.{◌≡◌, ℕ, List, ◌++◌, map, refl, ap}
use Rattle.std.specs.Prelude.{codes}
use Rattle.report_text.specs.declared.line_text.form.ReportForm.{ReportForm}
use Rattle.report_text.specs.declared.line_text.form.ReportForm.TheVariants as forms
use Rattle.json_laws.specs.Reports as reports
use Rattle.json_laws.specs.Reports.{IsRead, IsReport}
use Rattle.json_laws.proofs.ReportLemmas.{report_of_lines}
use Rattle.hive_model.specs.Tree.{Item}
use Rattle.key_text.specs.Lines.{KeyLine, RootLine, KeyAtLine, StampLine, FlagsLine, ClassLine, ClassBytesLine, SecurityLine, ValueLine, SubkeyLine, NoKeyLine, EndLine, value_text, value_json, printed, printed_lines}
use Rattle.key_text.specs.Data.{form_of}
use Rattle.key_text.specs.Kinds.{kind_text}
use Rattle.report_text.specs.line_text.Quoted.{quoted}
use Rattle.report_laws.proofs.DataLemmas.{data_words, data_read}
use Rattle.report_laws.specs.report_json_laws.Key.{said_of, key_reader}

whole : (form : ReportForm) (line : KeyLine) → printed form line ≡ reports.printed form (said_of line)
unfolding value_json
whole forms.Text line = refl
whole forms.Json (RootLine name) = refl
whole forms.Json (KeyAtLine path) = refl
whole forms.Json (StampLine stamp) = refl
whole forms.Json (FlagsLine flags) = refl
whole forms.Json (ClassLine units) = refl
whole forms.Json (ClassBytesLine bytes) = refl
whole forms.Json (SecurityLine bytes) = refl
whole forms.Json (ValueLine v) = refl
whole forms.Json (SubkeyLine name) = refl
whole forms.Json NoKeyLine = refl
whole forms.Json EndLine = refl

value_read : (v : Item) → IsRead key_reader (said_of (ValueLine v))
unfolding value_text
value_read v = record {
  words = data_words (form_of v.kind v.bytes);
  back = ap (λ (t : List ℕ). codes "value " ++ quoted v.name ++ codes " " ++ kind_text v.kind ++ codes " " ++ t
      ++ codes "\n")
      (data_read v.kind v.bytes);
}

read : (line : KeyLine) → IsRead key_reader (said_of line)
read (RootLine name) = record { words = refl; back = refl }
read (KeyAtLine path) = record { words = refl; back = refl }
read (StampLine stamp) = record { words = refl; back = refl }
read (FlagsLine flags) = record { words = refl; back = refl }
read (ClassLine units) = record { words = refl; back = refl }
read (ClassBytesLine bytes) = record { words = refl; back = refl }
read (SecurityLine bytes) = record { words = refl; back = refl }
read (ValueLine v) = value_read v
read (SubkeyLine name) = record { words = refl; back = refl }
read NoKeyLine = record { words = refl; back = refl }
read EndLine = record { words = refl; back = refl }

pub key_report : (said : List KeyLine) → IsReport key_reader (λ form. printed_lines form said) (map said_of said)
key_report said = report_of_lines printed said_of key_reader whole read said
