-- The pieces of an object are known by its text, and where it ends.
use Rattle.std.proofs.Common.{◌≡◌, ℕ, ◌==◌, eqb, Bool, true, false, cond, not, ◌&&◌, List, [], ◌∷◌, ◌++◌, map, refl, sym, ap, ◌∙◌, append_assoc, arith}
use Rattle.std.specs.Prelude.{codes}
use Rattle.std.specs.List.{AllByRecursion, list_all, flat_map}
use Rattle.std.specs.Fmt.{decimal}
use Rattle.std.proofs.lemmas.Bool.{and_parts}
use Rattle.std.proofs.lemmas.Bool.Decides.{nat_tests}
use Rattle.nt_bytes.specs.Text.{is_printable}
use Rattle.report_text.specs.line_text.Objects as objects
use Rattle.report_text.specs.line_text.Objects.{Value, value_text, opening_text}
use Rattle.report_text.specs.line_text.Quoted.{quoted}
use Rattle.report_text.proofs.QuoteLemmas.{parted}
use Rattle.json_laws.specs.Objects.{is_word, IsNumber, AreUnits, IsValue}
use Rattle.json_laws.proofs.Parts.{first_byte, rest_of, cancel, parted_where, apart}
use Rattle.json_laws.proofs.Values.{is_digit, ends, number_first, parted_value}
use Rattle.line_parts.specs.Pieces.{Piece, Field, Opens, Closes, ListOpens, NextOpens, ListCloses, piece_text, pieces_text}
use Rattle.line_laws.specs.Objects.{Object, has_keys, has_words, HasValue, HasValues, told_piece, told}

-- pieces, the end of the object, and the rest
abbrev pub ended : List Piece → List ℕ → List ℕ
ended pieces after = pieces_text pieces ++ (125 ∷ 10 ∷ after)

-- ---- a piece and the text after it

-- a key after the quote before it
abbrev keyed : List ℕ → List ℕ → List ℕ
keyed key after = key ++ (34 ∷ 58 ∷ after)

-- the first field of a record after its first quote
abbrev opened : List ℕ → List ℕ → List ℕ → List ℕ
opened first text after = keyed first (quoted text ++ after)

-- what follows the key of a piece that has one
abbrev behind_key : Piece → List ℕ → List ℕ
behind_key (Field key value) after = value_text value ++ after
behind_key (Opens key first text) after = 123 ∷ 34 ∷ opened first text after
behind_key (ListOpens key first text) after = 91 ∷ 123 ∷ 34 ∷ opened first text after
behind_key other after = after

abbrev spelled : Piece → List ℕ → List ℕ
spelled (Field key value) after = 44 ∷ 34 ∷ keyed key (behind_key (Field key value) after)
spelled (Opens key first text) after = 44 ∷ 34 ∷ keyed key (behind_key (Opens key first text) after)
spelled Closes after = 125 ∷ after
spelled (ListOpens key first text) after = 44 ∷ 34 ∷ keyed key (behind_key (ListOpens key first text) after)
spelled (NextOpens first text) after = 125 ∷ 44 ∷ 123 ∷ 34 ∷ opened first text after
spelled ListCloses after = 125 ∷ 93 ∷ after

-- what begins with a key
key_first : (key text after : List ℕ) → ((key ++ codes "\":") ++ text) ++ after ≡ keyed key (text ++ after)
key_first key text after =
    append_assoc (key ++ codes "\":") text after ∙ append_assoc key (codes "\":") (text ++ after)

-- the first field of a record, whose key stands in front of it in any way
opens : (front first text after : List ℕ) → (front ++ (((codes "{\"" ++ first) ++ codes "\":") ++ quoted text)) ++ after
    ≡ front ++ (123 ∷ 34 ∷ opened first text after)
opens front first text after =
    append_assoc front (((codes "{\"" ++ first) ++ codes "\":") ++ quoted text) after
    ∙ ap (λ (t : List ℕ). front ++ (123 ∷ 34 ∷ t)) (key_first first (quoted text) after)

spell : (p : Piece) (after : List ℕ) → piece_text p ++ after ≡ spelled p after
spell (Field key value) after = ap (λ (t : List ℕ). 44 ∷ 34 ∷ t) (key_first key (value_text value) after)
spell (Opens key first text) after =
    opens (codes ",\"" ++ key ++ codes "\":") first text after
    ∙ ap (λ (t : List ℕ). 44 ∷ 34 ∷ t) (append_assoc key (codes "\":") (123 ∷ 34 ∷ opened first text after))
spell Closes after = refl
spell (ListOpens key first text) after =
    opens ((codes ",\"" ++ key ++ codes "\":") ++ codes "[") first text after
    ∙ ap (λ (t : List ℕ). 44 ∷ 34 ∷ t) (append_assoc (key ++ codes "\":") (codes "[") (123 ∷ 34 ∷ opened first text after)
    ∙ append_assoc key (codes "\":") (91 ∷ 123 ∷ 34 ∷ opened first text after))
spell (NextOpens first text) after = opens (codes "},") first text after
spell ListCloses after = refl

step : (p : Piece) (ps : List Piece) (after : List ℕ) → ended (p ∷ ps) after ≡ spelled p (ended ps after)
step p ps after = append_assoc (piece_text p) (pieces_text ps) (125 ∷ 10 ∷ after) ∙ spell p (ended ps after)

ended_ends : (ps : List Piece) (after : List ℕ) → ends (ended ps after) ≡ true
ended_ends [] after = refl
ended_ends (Field key value ∷ ps) after = refl
ended_ends (p ∷ ps) after = refl

-- ---- which piece a text begins with: one with a key, the end, or one of the other three

abbrev second : List ℕ → ℕ
second text = first_byte (rest_of text)

abbrev third : List ℕ → ℕ
third text = first_byte (rest_of (rest_of text))

abbrev begun : List ℕ → ℕ
begun text =
    cond (first_byte text == 44) 0 (cond (second text == 10) 1 (cond (second text == 93) 5
    (cond ((second text == 44) && (third text == 123)) 4 3)))

abbrev sort_of : Piece → ℕ
sort_of (Field key value) = 0
sort_of (Opens key first text) = 0
sort_of (ListOpens key first text) = 0
sort_of Closes = 3
sort_of (NextOpens first text) = 4
sort_of ListCloses = 5

closes : (ps : List Piece) (after : List ℕ) → begun (125 ∷ ended ps after) ≡ 3
closes [] after = refl
closes (Field key value ∷ ps) after = refl
closes (p ∷ ps) after = refl

begins : (p : Piece) (ps : List Piece) (after : List ℕ) → begun (spelled p (ended ps after)) ≡ sort_of p
begins Closes ps after = closes ps after
begins (Field key value) ps after = refl
begins p ps after = refl

-- ---- which piece with a key: what its value begins with

abbrev opening : List ℕ → ℕ
opening text = cond (first_byte text == 123) 1 (cond ((first_byte text == 91) && (second text == 123)) 2 0)

abbrev form_of : Piece → ℕ
form_of (Field key value) = 0
form_of (Opens key first text) = 1
form_of (ListOpens key first text) = 2
form_of Closes = 3
form_of (NextOpens first text) = 4
form_of ListCloses = 5

digit_is : (c d : ℕ) → is_digit c ≡ true → is_digit d ≡ false → eqb c d ≡ false
digit_is c d is other = by_test (eqb c d) refl
  where
    by_test : (b : Bool) → eqb c d ≡ b → eqb c d ≡ false
    by_test false e = e
    by_test true e = grind (arith, nat_tests)

number_opens : (n : ℕ) (after : List ℕ) → IsNumber n → opening (decimal n ++ after) ≡ 0
number_opens n after is =
    let digit = number_first n after is in
    rw (digit_is (first_byte (decimal n ++ after)) 123 digit refl)
    (rw (digit_is (first_byte (decimal n ++ after)) 91 digit refl) refl)

list_opens : (n : ℕ) (rest after : List ℕ) → IsNumber n → opening (91 ∷ (((decimal n ++ rest) ++ codes "]") ++ after)) ≡ 0
list_opens n rest after is =
    let text = ((decimal n ++ rest) ++ codes "]") ++ after in
    let whole : text ≡ decimal n ++ (rest ++ (93 ∷ after)) =
    append_assoc (decimal n ++ rest) (codes "]") after ∙ append_assoc (decimal n) rest (93 ∷ after) in
    let digit : is_digit (first_byte text) ≡ true =
    ap (λ (t : List ℕ). is_digit (first_byte t)) whole ∙ number_first n (rest ++ (93 ∷ after)) is in
    rw (digit_is (first_byte text) 123 digit refl) refl

value_opens : (v : Value) (after : List ℕ) → IsValue v → opening (value_text v ++ after) ≡ 0
value_opens (objects.Number n) after is = number_opens n after is
value_opens (objects.Text units) after is = refl
value_opens (objects.Numbers []) after is = refl
value_opens (objects.Numbers (n ∷ ns)) after is = list_opens n (flat_map (λ m. codes "," ++ decimal m) ns) after is.0
value_opens (objects.Texts []) after is = refl
value_opens (objects.Texts (t ∷ ts)) after is = refl
value_opens (objects.Flag true) after is = refl
value_opens (objects.Flag false) after is = refl
value_opens objects.Null after is = refl

-- ---- pieces with a key

abbrev key_of : Piece → List ℕ
key_of (Field key value) = key
key_of (Opens key first text) = key
key_of (ListOpens key first text) = key
key_of other = []

at_key : (p : Piece) (after : List ℕ) → sort_of p ≡ 0 → spelled p after ≡ 44 ∷ 34 ∷ keyed (key_of p) (behind_key p after)
at_key (Field key value) after k = refl
at_key (Opens key first text) after k = refl
at_key (ListOpens key first text) after k = refl
at_key p after k = absurd (apart (sort_of p) 0 refl k)

key_is_word : (p : Piece) → sort_of p ≡ 0 → has_keys p ≡ true → is_word (key_of p) ≡ true
key_is_word (Field key value) k keys = keys
key_is_word (Opens key first text) k keys = (and_parts (is_word key) (is_word first) keys).0
key_is_word (ListOpens key first text) k keys = (and_parts (is_word key) (is_word first) keys).0
key_is_word p k keys = absurd (apart (sort_of p) 0 refl k)

form_behind : (p : Piece) (after : List ℕ) → sort_of p ≡ 0 → HasValue p → opening (behind_key p after) ≡ form_of p
form_behind (Field key value) after k has = value_opens value after has
form_behind (Opens key first text) after k has = refl
form_behind (ListOpens key first text) after k has = refl
form_behind p after k has = absurd (apart (sort_of p) 0 refl k)

-- a piece without a key is known by its sort
settled : (n : ℕ) (q : Piece) → eqb n 0 ≡ false → n ≡ sort_of q → n ≡ form_of q
settled n (Field key value) d k = absurd (apart n 0 d k)
settled n (Opens key first text) d k = absurd (apart n 0 d k)
settled n (ListOpens key first text) d k = absurd (apart n 0 d k)
settled n q d k = k

no_end : (q : Piece) → 1 ≡ sort_of q → ⊥
no_end Closes k = absurd (apart 1 3 refl k)
no_end q k = absurd (apart 1 (sort_of q) refl k)

-- ---- two texts that agree

-- a key up to the colon after it
parted_key : (a b after more : List ℕ) → is_word a ≡ true → is_word b ≡ true → keyed a after ≡ keyed b more
    → (a ≡ b) × (after ≡ more)
parted_key a b after more is_a is_b e =
    let both = parted_where (λ c. is_printable c && not (c == 34)) a b (34 ∷ 58 ∷ after) (34 ∷ 58 ∷ more) is_a is_b refl refl e in
    (both.0, ap rest_of (ap rest_of both.1))

-- the first field of a record
parted_first : (f g t u after more : List ℕ) → is_word f ≡ true → is_word g ≡ true → AreUnits t → AreUnits u
    → opened f t after ≡ opened g u more → (f ≡ g) × ((t ≡ u) × (after ≡ more))
parted_first f g t u after more is_f is_g are_t are_u e =
    let key = parted_key f g (quoted t ++ after) (quoted u ++ more) is_f is_g e in
    (key.0, parted t u after more are_t are_u key.1)

module _ (ps qs : List Piece) (after more : List ℕ) where
  abbrev Parted : Piece → Piece → Type 0
  Parted p q = has_keys p ≡ true → has_keys q ≡ true → HasValue p → HasValue q
      → spelled p (ended ps after) ≡ spelled q (ended qs more) → (told_piece p ≡ told_piece q) × (ended ps after ≡ ended qs more)

  by_form : (p q : Piece) → form_of p ≡ form_of q → Parted p q
  by_form (Field a v) (Field b w) k is_p is_q has_p has_q e =
      let key = parted_key a b (value_text v ++ ended ps after) (value_text w ++ ended qs more) is_p is_q (ap rest_of (ap rest_of e)) in
      let value = parted_value (ended ps after) (ended qs more) (ended_ends ps after) (ended_ends qs more) v w has_p has_q key.1 in
      ((λ i. Field (key.0 i) (value.0 i)), value.1)
  by_form (Opens a f t) (Opens b g u) k is_p is_q has_p has_q e =
      let both_p = and_parts (is_word a) (is_word f) is_p in
      let both_q = and_parts (is_word b) (is_word g) is_q in
      let key = parted_key a b (123 ∷ 34 ∷ opened f t (ended ps after)) (123 ∷ 34 ∷ opened g u (ended qs more)) both_p.0 both_q.0
      (ap rest_of (ap rest_of e)) in
      let first = parted_first f g t u (ended ps after) (ended qs more) both_p.1 both_q.1 has_p has_q (ap rest_of (ap rest_of key.1)) in
      ((λ i. Opens (key.0 i) (first.0 i) (first.1.0 i)), first.1.1)
  by_form (ListOpens a f t) (ListOpens b g u) k is_p is_q has_p has_q e =
      let both_p = and_parts (is_word a) (is_word f) is_p in
      let both_q = and_parts (is_word b) (is_word g) is_q in
      let key = parted_key a b (91 ∷ 123 ∷ 34 ∷ opened f t (ended ps after)) (91 ∷ 123 ∷ 34 ∷ opened g u (ended qs more)) both_p.0 both_q.0
      (ap rest_of (ap rest_of e)) in
      let first = parted_first f g t u (ended ps after) (ended qs more) both_p.1 both_q.1 has_p has_q
      (ap rest_of (ap rest_of (ap rest_of key.1))) in
      ((λ i. ListOpens (key.0 i) (first.0 i) (first.1.0 i)), first.1.1)
  by_form Closes Closes k is_p is_q has_p has_q e = (refl, ap rest_of e)
  by_form (NextOpens f t) (NextOpens g u) k is_p is_q has_p has_q e =
      let first = parted_first f g t u (ended ps after) (ended qs more) is_p is_q has_p has_q
      (ap rest_of (ap rest_of (ap rest_of (ap rest_of e)))) in
      ((λ i. NextOpens (first.0 i) (first.1.0 i)), first.1.1)
  by_form ListCloses ListCloses k is_p is_q has_p has_q e = (refl, ap rest_of (ap rest_of e))
  by_form p q k is_p is_q has_p has_q e = absurd (apart (form_of p) (form_of q) refl k)

  abbrev Formed : Piece → Piece → Type 0
  Formed p q = has_keys p ≡ true → has_keys q ≡ true → HasValue p → HasValue q
      → spelled p (ended ps after) ≡ spelled q (ended qs more) → form_of p ≡ form_of q

  with_key : (p q : Piece) → sort_of p ≡ 0 → sort_of q ≡ 0 → Formed p q
  with_key p q k l is_p is_q has_p has_q e =
      let key = parted_key (key_of p) (key_of q) (behind_key p (ended ps after)) (behind_key q (ended qs more))
      (key_is_word p k is_p) (key_is_word q l is_q)
      (ap rest_of (ap rest_of (sym (at_key p (ended ps after) k) ∙ e ∙ at_key q (ended qs more) l))) in
      sym (form_behind p (ended ps after) k has_p) ∙ ap opening key.1 ∙ form_behind q (ended qs more) l has_q

  same_form : (p q : Piece) → sort_of p ≡ sort_of q → Formed p q
  same_form Closes q k is_p is_q has_p has_q e = settled 3 q refl k
  same_form (NextOpens f t) q k is_p is_q has_p has_q e = settled 4 q refl k
  same_form ListCloses q k is_p is_q has_p has_q e = settled 5 q refl k
  same_form p q k is_p is_q has_p has_q e = with_key p q refl (sym k) is_p is_q has_p has_q e

  parted_piece : (p q : Piece) → Parted p q
  parted_piece p q is_p is_q has_p has_q e =
      let sort = sym (begins p ps after) ∙ ap begun e ∙ begins q qs more in
      by_form p q (same_form p q sort is_p is_q has_p has_q e) is_p is_q has_p has_q e

pub parted_pieces : (ps qs : List Piece) (after more : List ℕ) → list_all has_keys ps ≡ true → list_all has_keys qs ≡ true
    → AllByRecursion HasValue ps → AllByRecursion HasValue qs → ended ps after ≡ ended qs more
    → (map told_piece ps ≡ map told_piece qs) × (after ≡ more)
parted_pieces [] [] after more is_p is_q has_p has_q e = (refl, ap rest_of (ap rest_of e))
parted_pieces [] (q ∷ qs) after more is_p is_q has_p has_q e =
    absurd (no_end q (ap begun (e ∙ step q qs more) ∙ begins q qs more))
parted_pieces (p ∷ ps) [] after more is_p is_q has_p has_q e =
    absurd (no_end p (ap begun (sym e ∙ step p ps after) ∙ begins p ps after))
parted_pieces (p ∷ ps) (q ∷ qs) after more is_p is_q has_p has_q e =
    let both_p = and_parts (has_keys p) (list_all has_keys ps) is_p in
    let both_q = and_parts (has_keys q) (list_all has_keys qs) is_q in
    let first = parted_piece ps qs after more p q both_p.0 both_q.0 has_p.0 has_q.0 (sym (step p ps after) ∙ e ∙ step q qs more) in
    let others = parted_pieces ps qs after more both_p.1 both_q.1 has_p.1 has_q.1 first.1 in
    ((λ i. first.0 i ∷ others.0 i), others.1)

-- ---- objects

abbrev pub json_of : Object → List ℕ
json_of o = opening_text o.word ++ pieces_text o.pieces ++ codes "}\n"

-- an object, and the rest
opened_object : (o : Object) (after : List ℕ) → json_of o ++ after ≡ codes "{\"line\":\"" ++ (o.word ++ (34 ∷ ended o.pieces after))
opened_object o after =
    append_assoc (opening_text o.word ++ pieces_text o.pieces) (codes "}\n") after
    ∙ append_assoc (opening_text o.word) (pieces_text o.pieces) (125 ∷ 10 ∷ after)
    ∙ append_assoc (codes "{\"line\":\"" ++ o.word) (codes "\"") (ended o.pieces after)

parted_object : (a b : Object) (after more : List ℕ) → has_words a ≡ true → has_words b ≡ true → HasValues a → HasValues b
    → json_of a ++ after ≡ json_of b ++ more → (told a ≡ told b) × (after ≡ more)
parted_object a b after more words_a words_b values_a values_b e =
    let both_a = and_parts (is_word a.word) (list_all has_keys a.pieces) words_a in
    let both_b = and_parts (is_word b.word) (list_all has_keys b.pieces) words_b in
    let word = parted_where (λ c. is_printable c && not (c == 34)) a.word b.word (34 ∷ ended a.pieces after) (34 ∷ ended b.pieces more)
    both_a.0 both_b.0 refl refl
    (cancel (codes "{\"line\":\"") (a.word ++ (34 ∷ ended a.pieces after)) (b.word ++ (34 ∷ ended b.pieces more))
    (sym (opened_object a after) ∙ e ∙ opened_object b more)) in
    let pieces = parted_pieces a.pieces b.pieces after more both_a.1 both_b.1 values_a values_b (ap rest_of word.1) in
    ((λ i. record { word = word.0 i; pieces = pieces.0 i }), pieces.1)

abbrev pub jsons_of : List Object → List ℕ
jsons_of os = flat_map json_of os

abbrev pub Sound : Object → Type 0
Sound o = (has_words o ≡ true) × HasValues o

pub parted_objects : (os qs : List Object) → AllByRecursion Sound os → AllByRecursion Sound qs
    → jsons_of os ≡ jsons_of qs → map told os ≡ map told qs
parted_objects [] [] sound_a sound_b e = refl
parted_objects [] (b ∷ qs) sound_a sound_b e = absurd (apart 0 123 refl (ap first_byte e))
parted_objects (a ∷ os) [] sound_a sound_b e = absurd (apart 123 0 refl (ap first_byte e))
parted_objects (a ∷ os) (b ∷ qs) sound_a sound_b e =
    let first = parted_object a b (jsons_of os) (jsons_of qs) sound_a.0.0 sound_b.0.0 sound_a.0.1 sound_b.0.1 e in
    let others = parted_objects os qs sound_a.1 sound_b.1 first.1 in
    (λ i. first.0 i ∷ others i)
