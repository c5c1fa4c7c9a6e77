-- There is room for the line of each file on the command line that it is absent, and a longer text is no such line.
use Rattle.std.proofs.Common.{◌≡◌, ◌∙◌, ◌<◌, ◌≤◌, ◌+◌, ◌-◌, ◌&&◌, ◌∷◌, ℕ, Bool, true, false, cond, if◌then◌else◌, List, [], length, drop, take, Option, Some, None, option_map, nat_lt, ap, sym, refl, arith}
use Rattle.std.specs.Prelude.{bytes_eq, nat_le, not, position, slice_range, slice_index, unwrap_or, codes, ◌==◌}
use Rattle.std.specs.List.{position_or_len}
use Rattle.std.proofs.lemmas.Bool.Decides.{nat_tests}
use Rattle.std.proofs.lemmas.List.{length-take, length-drop, take_all}
use Rattle.std.proofs.lemmas.Slice.Eq.{bytes_eq-Decides}
use Rattle.refusal_reason.specs.reason_lines.Texts.{Text}
use Rattle.refusal_reason.specs.reason_lines.Files.{file_in, is_equals, is_long, is_named, missing_in, named_by, place_for, place_of}
use Rattle.refusal_reason.specs.refusal_reason.Notes.{longest, room_for}

-- the file that a word names is no longer than the word
part-short : (word : Text) (place : Option ℕ)
    → length (unwrap_or (option_map (λ at. drop (at + 1) word) place) word) ≤ length word
part-short word None = omega arith
part-short word (Some at) = omega (arith, length-drop (at + 1) word)

named-short : (word : Text) → length (named_by word) ≤ length word
named-short word = go (is_long word)
  where
    go : (long : Bool) → length (if long then file_in word else word) ≤ length word
    go true = part-short word (position is_equals word)
    go false = omega arith

-- a word doesn't name a file that is longer
other : (name word : Text) → length word < length name → is_named name word ≡ false
other name word short = go (is_named name word) refl
  where
    go : (t : Bool) → is_named name word ≡ t → t ≡ false
    go true e =
        let same : length name ≡ length (named_by word) = ap length ((bytes_eq-Decides name (named_by word)).0 e) in
        absurd (omega (arith, named-short word))
    go false e = refl

unfound : (words : List Text) (name : Text) → longest words < length name
    → position_or_len (is_named name) words ≡ length words
unfound [] name short = refl
unfound (word ∷ words) name short =
    let more : position_or_len (is_named name) (word ∷ words) ≡ 1 + position_or_len (is_named name) words =
    ap (λ (b : Bool). cond (not b) (1 + position_or_len (is_named name) words) 0) (other name word (omega arith)) in
    let rest : position_or_len (is_named name) words ≡ length words = unfound words name (omega arith) in
    omega arith

unnamed : (words : List Text) (name : Text) → longest words < length name → place_of words name ≡ None
unnamed words name short =
    let none : nat_lt (length words) (length words) ≡ false = grind (arith, nat_tests) in
    ap (λ n. cond (nat_lt n (length words)) (Some n) None) (unfound words name short)
    ∙ ap (λ (b : Bool). cond b (Some (length words)) None) none

-- a text that is longer than the line for each file is the line for none
longer : (words : List Text) (text : Text) → longest words + 10 ≤ length text → missing_in words text ≡ None
longer words text long =
    go (nat_le 9 (length text) && (bytes_eq (slice_range text 0 8) (codes "no file ") && slice_index text (length text - 1) == 10))
  where
    go : (t : Bool) → place_for words (if t then Some (slice_range text 8 (length text - 1)) else None) ≡ None
    go true =
        unnamed words (slice_range text 8 (length text - 1))
        (omega (arith, length-take (length text - 1 - 8) (drop 8 text), length-drop 8 text))
    go false = refl

-- what there is room for says which file is absent
pub missing-front : (words : List Text) (text : Text)
    → missing_in words (take (room_for words) text) ≡ missing_in words text
missing-front words text = go (nat_lt (room_for words) (length text)) refl
  where
    go : (t : Bool) → nat_lt (room_for words) (length text) ≡ t
        → missing_in words (take (room_for words) text) ≡ missing_in words text
    go true e =
        let past : room_for words < length text = grind (arith, nat_tests) in
        longer words (take (room_for words) text) (omega (arith, length-take (room_for words) text))
        ∙ sym (longer words text (omega arith))
    go false e =
        let within : length text ≤ room_for words = grind (arith, nat_tests) in
        ap (missing_in words) (take_all (room_for words) text within)
