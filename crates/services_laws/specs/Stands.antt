-- What does a field tell of its value? (this project's own)
use Rattle.std.specs.Prelude.{◌≡◌, ◌↔◌, ◌<◌, ℕ, List, Some, slice_index}
use Rattle.hive_model.specs.Tree.{Item, dword_in, string_in}
use Rattle.key_text.specs.declared.data.DataForm.{DataForm}
use Rattle.key_text.specs.Data.{data_of}
use Rattle.key_text.specs.Kinds.{kind_text}
use Rattle.service_list.specs.declared.field.Field.TheVariants.{Number, Text, Other}
use Rattle.service_list.specs.Fields.{number_in, text_in}

abbrev pub NumberIsDword : Type 0
NumberIsDword = (v : Item) (n : ℕ) → (number_in v ≡ Number n) ↔ (dword_in v ≡ Some n)

abbrev pub TextIsString : Type 0
TextIsString = (v : Item) (text : List ℕ) → text_in v ≡ Text text → string_in v ≡ Some text

-- the name of the type and the data of a value
pub record HasWhole (v : Item) (kind : List ℕ) (form : DataForm) : Type 0 where
  pub kind_is : kind ≡ kind_text v.kind
  pub back : data_of form ≡ v.bytes

-- in brackets stand the type and the data, of which nothing is lost
pub record OtherIsWhole : Type 0 where
  pub number : (v : Item) → ((i : ℕ) → slice_index v.bytes i < 256) → (kind : List ℕ) (form : DataForm) → number_in v ≡ Other kind form
      → HasWhole v kind form
  pub text : (v : Item) → ((i : ℕ) → slice_index v.bytes i < 256) → (kind : List ℕ) (form : DataForm) → text_in v ≡ Other kind form
      → HasWhole v kind form
