-- What a field tells of its value.
use Rattle.std.proofs.Common.{◌≡◌, ◌<◌, ℕ, Bool, true, false, ◌&&◌, cond, List, [], Option, Some, None, refl, sym, ap, ◌∙◌}
use Rattle.std.specs.Prelude.{◌↔◌, slice_index, length, ◌==◌, ◌||◌, ◌%◌}
use Rattle.std.specs.Option.{option_map_or, unwrap_or}
use Rattle.std.proofs.lemmas.Bool.{and_parts, cond-true}
use Rattle.nt_bytes.specs.Text.{sz_of, wide_of}
use Rattle.hive_model.specs.Tree.{Item, dword_in, string_in}
use Rattle.key_text.specs.declared.data.DataForm.{DataForm}
use Rattle.key_text.specs.declared.data.DataForm.TheVariants.{Raw}
use Rattle.key_text.specs.Data.{data_of}
use Rattle.key_text.proofs.DataLemmas.{data_back}
use Rattle.service_list.specs.declared.field.Field.{Field}
use Rattle.service_list.specs.declared.field.Field.TheVariants.{Missing, Number, Text, Other}
use Rattle.service_list.specs.Fields.{other_of, is_ended, is_text}
use Rattle.services_laws.specs.Stands.{NumberIsDword, TextIsString, HasWhole, OtherIsWhole}

-- the parts of a field
abbrev number_part : Field → ℕ
number_part Missing = 0
number_part (Number n) = n
number_part (Text text) = 0
number_part (Other kind form) = 0

abbrev text_part : Field → List ℕ
text_part Missing = []
text_part (Number n) = []
text_part (Text text) = text
text_part (Other kind form) = kind

abbrev form_part : Field → DataForm
form_part Missing = Raw []
form_part (Number n) = Raw []
form_part (Text text) = Raw []
form_part (Other kind form) = form

pub number_is_dword : NumberIsDword
number_is_dword v n = by_case (dword_in v)
  where
    by_case : (o : Option ℕ) → (option_map_or Number o (other_of v) ≡ Number n) ↔ (o ≡ Some n)
    by_case (Some m) = (λ e. ap Some (ap number_part e), λ e. ap Number (ap (λ (o : Option ℕ). unwrap_or o 0) e))
    by_case None = (λ e. absurd cc, λ e. absurd cc)

pub text_is_string : TextIsString
text_is_string v text e = by_case (is_text v) refl e
  where
    string : is_text v ≡ true → string_in v ≡ Some (sz_of v.bytes)
    string whole =
        let kind = (and_parts ((v.kind == 1) || (v.kind == 2)) ((length v.bytes % 2 == 0) && is_ended (wide_of v.bytes)) whole).0 in
        cond-true ((v.kind == 1) || (v.kind == 2)) (Some (sz_of v.bytes)) None kind

    by_case : (b : Bool) → is_text v ≡ b → cond b (Text (sz_of v.bytes)) (other_of v) ≡ Text text → string_in v ≡ Some text
    by_case true whole same = string whole ∙ ap Some (ap text_part same)
    by_case false whole same = absurd cc

-- the parts of a field in brackets are those of its value
whole : (v : Item) → ((i : ℕ) → slice_index v.bytes i < 256) → (kind : List ℕ) (form : DataForm) → other_of v ≡ Other kind form
    → HasWhole v kind form
whole v small kind form e = record {
  kind_is = sym (ap text_part e);
  back = ap data_of (sym (ap form_part e)) ∙ data_back v.kind v.bytes small;
}

pub other_is_whole : OtherIsWhole
other_is_whole = record {
  number = λ v small kind form e. number_whole v small kind form (dword_in v) e;
  text = λ v small kind form e. text_whole v small kind form (is_text v) e;
}
  where
    number_whole : (v : Item) → ((i : ℕ) → slice_index v.bytes i < 256) → (kind : List ℕ) (form : DataForm) (o : Option ℕ)
        → option_map_or Number o (other_of v) ≡ Other kind form → HasWhole v kind form
    number_whole v small kind form (Some n) e = absurd cc
    number_whole v small kind form None e = whole v small kind form e

    text_whole : (v : Item) → ((i : ℕ) → slice_index v.bytes i < 256) → (kind : List ℕ) (form : DataForm) (b : Bool)
        → cond b (Text (sz_of v.bytes)) (other_of v) ≡ Other kind form → HasWhole v kind form
    text_whole v small kind form true e = absurd cc
    text_whole v small kind form false e = whole v small kind form e
