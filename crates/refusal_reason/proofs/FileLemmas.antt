-- A file is known by its place on the command line.
use Rattle.std.proofs.Common.{◌≡◌, ◌<◌, ◌∙◌, ℕ, Bool, true, false, List, [], length, get_or, Option, Some, None, option_map, is_some, nat_lt, ap, refl, sym, arith}
use Rattle.std.specs.Prelude.{bytes_eq}
use Rattle.std.specs.List.{position_or_len}
use Rattle.std.proofs.lemmas.Slice.Eq.{bytes_eq-Decides}
use Rattle.std.proofs.lemmas.List.Sums.{passes_at_first}
use Rattle.std.proofs.lemmas.Option.{slice_get-get_or}
use Rattle.std.proofs.lemmas.Bool.{false≢true}
use Rattle.std.proofs.lemmas.Bool.Decides.{nat_tests}
use Rattle.refusal_reason.specs.reason_lines.Texts.{Text}
use Rattle.refusal_reason.specs.reason_lines.Files.{is_file, is_named, named_by, place_of, file_at, names, value_of}

-- the value that is a file
pub is_file-same : (value : Option Text) (file : Text) → is_file value file ≡ true → value ≡ Some file
is_file-same None file h = cc
is_file-same (Some value) file h = ap Some ((bytes_eq-Decides value file).0 h)

-- the option that names a file
pub names-same : (words : List Text) (option file : Text) → names words option file ≡ true
    → value_of words option ≡ Some file
names-same words option file h = is_file-same (value_of words option) file h

-- the file that the word at a place of the command line names
file_at-within : (words : List Text) (place : ℕ) → place < length words
    → file_at words (Some place) ≡ Some (named_by (get_or words place []))
file_at-within words place h = ap (option_map named_by) (slice_get-get_or words place [] h)

-- the file at the place of a file is that file, where there is one
pub file_at-place_of : (words : List Text) (file : Text) → is_some (place_of words file) ≡ true
    → file_at words (place_of words file) ≡ Some file
file_at-place_of words file = go (nat_lt (position_or_len (is_named file) words) (length words)) refl
  where
    go : (t : Bool) → nat_lt (position_or_len (is_named file) words) (length words) ≡ t
        → is_some (place_of words file) ≡ true → file_at words (place_of words file) ≡ Some file
    go true e h =
        let place = position_or_len (is_named file) words in
        let inside : place < length words = grind (arith, nat_tests) in
        let word = get_or words place [] in
        let is : bytes_eq file (named_by word) ≡ true = passes_at_first (is_named file) words [] inside in
        rw e (file_at-within words place inside ∙ ap Some (sym ((bytes_eq-Decides file (named_by word)).0 is)))
    go false e h = absurd (false≢true (rw e at h))
