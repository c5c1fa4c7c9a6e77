-- Data that are written, as they are read.
use Rattle.std.proofs.Common.{◌≡◌, ℕ, zero, suc, ◌+◌, ◌-◌, ◌*◌, ◌/◌, ◌%◌, ◌<◌, ◌≤◌, Bool, true, false, cond, ◌&&◌, ◌||◌, not, eqb, ltb, List, [], ◌∷◌, ◌++◌, length, take, drop, get_or, Option, None, Result, Ok, Err, refl, sym, ap, subst, ◌∙◌, append_assoc, arith}
use Rattle.std.specs.Prelude.{codes}
use Rattle.std.specs.List.{flat_map, list_all, prefix_len, All}
use Rattle.std.specs.Option.{option_map_or}
use Rattle.std.specs.Char.{digit_value}
use Rattle.std.specs.Fmt.{digits, digits_onto, digit_glyph}
use Rattle.std.specs.Int.{w32, to_le_bytes, from_le_bytes}
use Rattle.std.specs.Str.Parse.{AllDigits, digits_value}
use Rattle.std.proofs.lemmas.Bool.{eq-eqb, ne_eqb, eqb-true, lt-ltb, le-ltb, and_from, and_parts, or_parts, or_from}
use Rattle.std.proofs.lemmas.Fmt.{digits_is_IsNumeral}
use Rattle.std.proofs.lemmas.List.{append-nil}
use Rattle.std.proofs.lemmas.Nat.{le_bytes_4}
use Rattle.nt_bytes.specs.Text.{wide_of, is_zero, sz_of}
use Rattle.nt_bytes.specs.Reading.{◌>>=◌}
use Rattle.reg_text.specs.declared.stop.RegFaultKind.{RegFaultKind}
use Rattle.reg_text.specs.declared.stop.RegFaultKind.TheVariants.{Line}
use Rattle.reg_text.specs.declared.item.LineItem.TheVariants.{Named, GoesOn}
use Rattle.reg_text.specs.Digits.{is_hex, byte_of, with_bytes, pairs_of, bytes_of}
use Rattle.reg_text.specs.Items.{ends_in, front, continued, comma_ended, string_bytes, string_ended, string_item, dword_item, bytes_item, kind_ended, kind_in, kind_at, hex_item, number_item, data_item}
use Rattle.reg_text.specs.Quotes.{with_units, quoted_from}
use Rattle.reg_text.specs.Writing.{quoted_unit, quoted, byte_digits, bytes_text, number_digits, is_line_end, breaks, is_dword, is_string, binary_text, data_text}
use Rattle.text_laws.proofs.LineLemmas.{whole_append, last_at, Ends, ends_behind, hex_whole, hex_plain, hex_open, all_hex_whole}

-- ---- texts in quotes

quoted_by : (u : ℕ) (text : List ℕ) (a b : Bool) → eqb u 92 ≡ a → eqb u 34 ≡ b
    → quoted_from false (cond (a || b) (92 ∷ u ∷ []) (u ∷ []) ++ text) ≡ with_units (u ∷ []) (quoted_from false text)
unfolding quoted_from
quoted_by u text true b is92 is34 = rw is92 refl
quoted_by u text false true is92 is34 = rw (is92, is34) refl
quoted_by u text false false is92 is34 = rw (is92, is34) refl

pub quoted_back : (text rest : List ℕ) → quoted_from false (flat_map quoted_unit text ++ 34 ∷ rest) ≡ Ok (text, rest)
unfolding quoted_from quoted_unit
quoted_back [] rest = refl
quoted_back (u ∷ text) rest =
    ap (quoted_from false) (append_assoc (quoted_unit u) (flat_map quoted_unit text) (34 ∷ rest))
    ∙ quoted_by u (flat_map quoted_unit text ++ 34 ∷ rest) (eqb u 92) (eqb u 34) refl refl
    ∙ ap (with_units (u ∷ [])) (quoted_back text rest)

pub quoted_whole : (text : List ℕ) → breaks text ≡ false → breaks (flat_map quoted_unit text) ≡ false
unfolding quoted_unit
quoted_whole [] e = refl
quoted_whole (u ∷ text) e =
    let two = or_parts (is_line_end u) (breaks text) e in
    whole_append (quoted_unit u) (flat_map quoted_unit text) (by (eqb u 92 || eqb u 34) two.0) (quoted_whole text two.1)
  where
    by : (b : Bool) → is_line_end u ≡ false → breaks (cond b (92 ∷ u ∷ []) (u ∷ [])) ≡ false
    by true plain = or_from (is_line_end u) false plain refl
    by false plain = or_from (is_line_end u) false plain refl

-- ---- bytes

digit_value_glyph : (d : ℕ) → d < 16 → digit_value (digit_glyph false d) ≡ d
digit_value_glyph zero lt = refl
digit_value_glyph (suc zero) lt = refl
digit_value_glyph (suc (suc zero)) lt = refl
digit_value_glyph (suc (suc (suc zero))) lt = refl
digit_value_glyph (suc (suc (suc (suc zero)))) lt = refl
digit_value_glyph (suc (suc (suc (suc (suc zero))))) lt = refl
digit_value_glyph (suc (suc (suc (suc (suc (suc zero)))))) lt = refl
digit_value_glyph (suc (suc (suc (suc (suc (suc (suc zero))))))) lt = refl
digit_value_glyph (suc (suc (suc (suc (suc (suc (suc (suc zero)))))))) lt = refl
digit_value_glyph (suc (suc (suc (suc (suc (suc (suc (suc (suc zero))))))))) lt = refl
digit_value_glyph (suc (suc (suc (suc (suc (suc (suc (suc (suc (suc zero)))))))))) lt = refl
digit_value_glyph (suc (suc (suc (suc (suc (suc (suc (suc (suc (suc (suc zero))))))))))) lt = refl
digit_value_glyph (suc (suc (suc (suc (suc (suc (suc (suc (suc (suc (suc (suc zero)))))))))))) lt = refl
digit_value_glyph (suc (suc (suc (suc (suc (suc (suc (suc (suc (suc (suc (suc (suc zero))))))))))))) lt = refl
digit_value_glyph (suc (suc (suc (suc (suc (suc (suc (suc (suc (suc (suc (suc (suc (suc zero)))))))))))))) lt = refl
digit_value_glyph (suc (suc (suc (suc (suc (suc (suc (suc (suc (suc (suc (suc (suc (suc (suc zero))))))))))))))) lt =
    refl
digit_value_glyph (suc (suc (suc (suc (suc (suc (suc (suc (suc (suc (suc (suc (suc (suc (suc (suc d)))))))))))))))) lt =
    absurd (omega (arith, lt))

abbrev pub AreBytes : List ℕ → Type 0
AreBytes bytes = All (λ b. b < 256) bytes

glyph_hex : (d : ℕ) → d < 16 → is_hex (digit_glyph false d) ≡ true
glyph_hex d lt = (let small : digit_value (digit_glyph false d) < 16 = omega (arith, lt, digit_value_glyph d lt) in
    lt-ltb _ 16 small)

pair_hex : (b : ℕ) → b < 256
    → (is_hex (digit_glyph false (b / 16)) ≡ true) × (is_hex (digit_glyph false (b % 16)) ≡ true)
pair_hex b lt = (glyph_hex (b / 16) (omega arith), glyph_hex (b % 16) (omega arith))

byte_back : (b : ℕ) → b < 256 → byte_of (digit_glyph false (b / 16)) (digit_glyph false (b % 16)) ≡ b
byte_back b lt =
    let high : digit_value (digit_glyph false (b / 16)) ≡ b / 16 = digit_value_glyph (b / 16) (omega arith) in
    let low : digit_value (digit_glyph false (b % 16)) ≡ b % 16 = digit_value_glyph (b % 16) (omega arith) in
    omega (arith, high, low)

-- the bytes after the first one
abbrev more_text : List ℕ → List ℕ
more_text bytes = flat_map (λ y. codes "," ++ byte_digits y) bytes

pair_one : (h l n : ℕ) → is_hex h ≡ true → is_hex l ≡ true → byte_of h l ≡ n → pairs_of (h ∷ l ∷ []) ≡ Ok (n ∷ [])
unfolding pairs_of
pair_one h l n eh el is =
    ap (λ (b : Bool). cond b (Ok (byte_of h l ∷ [])) (Err Line)) (and_from (is_hex h) (is_hex l) eh el)
    ∙ ap (λ (m : ℕ). Ok (m ∷ [])) is

pair_more : (h l n : ℕ) (text bytes : List ℕ) → is_hex h ≡ true → is_hex l ≡ true → byte_of h l ≡ n
    → pairs_of text ≡ Ok bytes
    → pairs_of (h ∷ l ∷ 44 ∷ text) ≡ Ok (n ∷ bytes)
unfolding pairs_of
pair_more h l n text bytes eh el is rest =
    ap (λ (b : Bool). cond b (with_bytes (byte_of h l ∷ []) (pairs_of text)) (Err Line))
    (and_from (is_hex h) (is_hex l) eh el)
    ∙ ap (λ (m : ℕ). with_bytes (m ∷ []) (pairs_of text)) is
    ∙ ap (with_bytes (n ∷ [])) rest

pairs_back : (b : ℕ) (bytes : List ℕ) → AreBytes (b ∷ bytes)
    → pairs_of (byte_digits b ++ more_text bytes) ≡ Ok (b ∷ bytes)
pairs_back b [] all =
    let lt : b < 256 = all 0 b (omega arith) in
    let hex = pair_hex b lt in
    pair_one (digit_glyph false (b / 16)) (digit_glyph false (b % 16)) b hex.0 hex.1 (byte_back b lt)
pairs_back b (c ∷ bytes) all =
    let lt : b < 256 = all 0 b (omega arith) in
    let hex = pair_hex b lt in
    let rest = pairs_back c bytes (λ k d l. all (suc k) d (omega arith)) in
    pair_more (digit_glyph false (b / 16)) (digit_glyph false (b % 16)) b (byte_digits c ++ more_text bytes) (c ∷ bytes)
    hex.0 hex.1 (byte_back b lt) rest

pub bytes_back : (bytes : List ℕ) → AreBytes bytes → bytes_of (bytes_text bytes) ≡ Ok bytes
bytes_back [] all = refl
bytes_back (b ∷ bytes) all =
    let text : List ℕ = byte_digits b ++ more_text bytes in
    let long : eqb (length text) 0 ≡ false = ne_eqb (length text) 0 (λ e. absurd (omega (arith, e))) in
    ap (λ (z : Bool). cond z (Ok []) (pairs_of text)) long ∙ pairs_back b bytes all

more_ends : (b : ℕ) (bytes : List ℕ) → AreBytes (b ∷ bytes) → Ends (byte_digits b ++ more_text bytes)
more_ends b [] all =
    let hex = pair_hex b (all 0 b (omega arith)) in
    let low : ℕ = digit_glyph false (b % 16) in
    record {
      front = digit_glyph false (b / 16) ∷ [];
      last = low;
      is = refl;
      plain = hex_plain low hex.1;
      unslashed = hex_open low hex.1;
    }
more_ends b (c ∷ bytes) all =
    ends_behind (digit_glyph false (b / 16) ∷ digit_glyph false (b % 16) ∷ 44 ∷ []) (byte_digits c ++ more_text bytes)
    (more_ends c bytes (λ k d l. all (suc k) d (omega arith)))

more_whole : (b : ℕ) (bytes : List ℕ) → AreBytes (b ∷ bytes) → breaks (byte_digits b ++ more_text bytes) ≡ false
more_whole b [] all =
    let hex = pair_hex b (all 0 b (omega arith)) in
    let h : ℕ = digit_glyph false (b / 16) in
    let l : ℕ = digit_glyph false (b % 16) in
    or_from (is_line_end h) (is_line_end l || false) (hex_whole h hex.0)
    (or_from (is_line_end l) false (hex_whole l hex.1) refl)
more_whole b (c ∷ bytes) all =
    let hex = pair_hex b (all 0 b (omega arith)) in
    let h : ℕ = digit_glyph false (b / 16) in
    let l : ℕ = digit_glyph false (b % 16) in
    let rest : Bool = breaks (byte_digits c ++ more_text bytes) in
    or_from (is_line_end h) (is_line_end l || rest) (hex_whole h hex.0)
    (or_from (is_line_end l) rest (hex_whole l hex.1) (more_whole c bytes (λ k d lt. all (suc k) d (omega arith))))

pub bytes_whole : (bytes : List ℕ) → AreBytes bytes → breaks (bytes_text bytes) ≡ false
bytes_whole [] all = refl
bytes_whole (b ∷ bytes) all = more_whole b bytes all

-- after a text that ends so
pub bytes_end : (before bytes : List ℕ) → Ends before → AreBytes bytes → Ends (before ++ bytes_text bytes)
bytes_end before [] ends all = subst Ends (sym (append-nil before)) ends
bytes_end before (b ∷ bytes) ends all = ends_behind before (byte_digits b ++ more_text bytes) (more_ends b bytes all)

ends_none : (text : List ℕ) → Ends text → continued text ≡ None
ends_none text e =
    let last : ends_in 92 text ≡ false =
    ap (λ (t : List ℕ). eqb (get_or t (length t - 1) 0) 92) e.is ∙ ap (λ (c : ℕ). eqb c 92) (last_at e.front e.last)
    ∙ e.unslashed in
    ap (λ (b : Bool). cond b (comma_ended (front text)) None) last

no_more : (bytes : List ℕ) → AreBytes bytes → continued (bytes_text bytes) ≡ None
no_more [] all = refl
no_more (b ∷ bytes) all = ends_none (byte_digits b ++ more_text bytes) (more_ends b bytes all)

item_by : (name : List ℕ) (kind : ℕ) (bytes : List ℕ) (o : Option (List ℕ)) (r : Result (List ℕ) RegFaultKind)
    → o ≡ None
    → r ≡ Ok bytes
    → option_map_or (λ more. Ok (GoesOn (record { name = name; kind = kind; text = more }))) o
    (r >>= λ b. Ok (Named name kind b)) ≡ Ok (Named name kind bytes)
item_by name kind bytes o r e f = rw (e, f) refl

item_back : (name : List ℕ) (kind : ℕ) (bytes : List ℕ) → AreBytes bytes
    → bytes_item name kind [] (bytes_text bytes) ≡ Ok (Named name kind bytes)
unfolding bytes_item
item_back name kind bytes all =
    item_by name kind bytes (continued (bytes_text bytes)) (bytes_of (bytes_text bytes)) (no_more bytes all)
    (bytes_back bytes all)

-- ---- numbers

byte_value : (x n : ℕ) → x < 256
    → (n * 16 + digit_value (digit_glyph false (x / 16))) * 16 + digit_value (digit_glyph false (x % 16)) ≡ n * 256 + x
byte_value x n lt =
    let high : digit_value (digit_glyph false (x / 16)) ≡ x / 16 = digit_value_glyph (x / 16) (omega arith) in
    let low : digit_value (digit_glyph false (x % 16)) ≡ x % 16 = digit_value_glyph (x % 16) (omega arith) in
    omega (arith, high, low)

-- the number n, of which another one is known, with a byte after
next_byte : (x n m : ℕ) → x < 256 → n ≡ m
    → (n * 16 + digit_value (digit_glyph false (x / 16))) * 16 + digit_value (digit_glyph false (x % 16)) ≡ m * 256 + x
next_byte x n m lt is =
    ap (λ (k : ℕ). (k * 16 + digit_value (digit_glyph false (x / 16))) * 16 + digit_value (digit_glyph false (x % 16)))
    is ∙ byte_value x m lt

-- eight digits of four bytes, the highest first
abbrev eight : ℕ → ℕ → ℕ → ℕ → List ℕ
eight d c b a = byte_digits d ++ byte_digits c ++ byte_digits b ++ byte_digits a

eight_value : (d c b a : ℕ) → d < 256 → c < 256 → b < 256 → a < 256
    → digits_value 16 (eight d c b a) ≡ ((d * 256 + c) * 256 + b) * 256 + a
eight_value d c b a dl cl bl al =
    let one : (0 * 16 + digit_value (digit_glyph false (d / 16))) * 16 + digit_value (digit_glyph false (d % 16)) ≡ d =
    omega (arith, byte_value d 0 dl) in
    next_byte a _ _ al (next_byte b _ _ bl (next_byte c _ _ cl one))

two_hex : (x : ℕ) (rest : List ℕ) → x < 256 → list_all is_hex rest ≡ true
    → list_all is_hex (byte_digits x ++ rest) ≡ true
two_hex x rest lt all =
    let hex = pair_hex x lt in
    and_from (is_hex (digit_glyph false (x / 16))) _ hex.0
    (and_from (is_hex (digit_glyph false (x % 16))) (list_all is_hex rest) hex.1 all)

eight_hex : (d c b a : ℕ) → d < 256 → c < 256 → b < 256 → a < 256 → list_all is_hex (eight d c b a) ≡ true
eight_hex d c b a dl cl bl al =
    two_hex d (byte_digits c ++ byte_digits b ++ byte_digits a) dl
    (two_hex c (byte_digits b ++ byte_digits a) cl (two_hex b (byte_digits a) bl (two_hex a [] al refl)))

-- the digits of a number that four bytes are
pub record Eight (bytes : List ℕ) : Type 0 where
  pub hex : list_all is_hex (number_digits (from_le_bytes w32 bytes)) ≡ true
  pub value : digits_value 16 (number_digits (from_le_bytes w32 bytes)) ≡ from_le_bytes w32 bytes
  pub ends : Ends (number_digits (from_le_bytes w32 bytes))

four_eight : (a b c d n : ℕ) → a < 256 → b < 256 → c < 256 → d < 256 → n ≡ a + b * 256 + c * 65536 + d * 16777216
    → (list_all is_hex (number_digits n) ≡ true) × (digits_value 16 (number_digits n) ≡ n) × Ends (number_digits n)
four_eight a b c d n al bl cl dl is =
    let x3 : n / 16777216 ≡ d = omega (arith, is) in
    let x2 : n / 65536 % 256 ≡ c = omega (arith, is) in
    let x1 : n / 256 % 256 ≡ b = omega (arith, is) in
    let x0 : n % 256 ≡ a = omega (arith, is) in
    let same : number_digits n ≡ eight d c b a = (λ j. eight (x3 j) (x2 j) (x1 j) (x0 j)) in
    let low : ℕ = digit_glyph false (a % 16) in
    let lead : List ℕ = byte_digits d ++ byte_digits c ++ byte_digits b ++ digit_glyph false (a / 16) ∷ [] in
    let hex = pair_hex a al in
    let ends : Ends (eight d c b a) =
    record { front = lead; last = low; is = refl; plain = hex_plain low hex.1; unslashed = hex_open low hex.1 } in (
      ap (list_all is_hex) same ∙ eight_hex d c b a dl cl bl al,
      ap (digits_value 16) same ∙ eight_value d c b a dl cl bl al ∙ omega (arith, is),
      subst Ends (sym same) ends,
    )

pub eight_back : (bytes : List ℕ) → length bytes ≡ 4 → AreBytes bytes → Eight bytes
eight_back [] l all = absurd (omega (arith, l))
eight_back (a ∷ []) l all = absurd (omega (arith, l))
eight_back (a ∷ b ∷ []) l all = absurd (omega (arith, l))
eight_back (a ∷ b ∷ c ∷ []) l all = absurd (omega (arith, l))
eight_back (a ∷ b ∷ c ∷ d ∷ []) l all =
    let four = four_eight a b c d (from_le_bytes w32 (a ∷ b ∷ c ∷ d ∷ [])) (all 0 a (omega arith))
    (all 1 a (omega arith)) (all 2 a (omega arith)) (all 3 a (omega arith)) refl in
    record { hex = four.0; value = four.1; ends = four.2 }
eight_back (a ∷ b ∷ c ∷ d ∷ e ∷ bytes) l all = absurd (omega (arith, l))

small_at : (bytes : List ℕ) → AreBytes bytes → (i : ℕ) → get_or bytes i 0 < 256
small_at [] all i = omega arith
small_at (b ∷ bytes) all zero = all 0 b (omega arith)
small_at (b ∷ bytes) all (suc i) = small_at bytes (λ k d l. all (suc k) d (omega arith)) i

-- ---- strings

string_back : (bytes : List ℕ) → AreBytes bytes → length bytes ≡ 2 * length (sz_of bytes) + 2
    → string_bytes (sz_of bytes) ≡ bytes
string_back [] all l = absurd (omega (arith, l))
string_back (low ∷ []) all l = absurd (omega (arith, l))
string_back (low ∷ high ∷ rest) all l =
    go (is_zero (low + 256 * high)) refl (string_back rest (λ k d lt. all (suc (suc k)) d (omega arith))) l
  where
    unit : ℕ
    unit = low + 256 * high

    cut : (b : Bool) → is_zero unit ≡ b → sz_of (low ∷ high ∷ rest) ≡ cond b [] (unit ∷ sz_of rest)
    cut true e = ap (λ (z : Bool). take (cond (not z) (1 + prefix_len (λ x. not (is_zero x)) (wide_of rest)) 0)
        (unit ∷ wide_of rest)) e
    cut false e = ap (λ (z : Bool). take (cond (not z) (1 + prefix_len (λ x. not (is_zero x)) (wide_of rest)) 0)
        (unit ∷ wide_of rest)) e ∙ one
      where
        next : 1 + prefix_len (λ x. not (is_zero x)) (wide_of rest)
            ≡ suc (prefix_len (λ x. not (is_zero x)) (wide_of rest))
        next = omega arith

        one : take (1 + prefix_len (λ x. not (is_zero x)) (wide_of rest)) (unit ∷ wide_of rest) ≡ unit ∷ sz_of rest
        one = ap (λ (n : ℕ). take n (unit ∷ wide_of rest)) next

    go : (b : Bool) → is_zero unit ≡ b → (length rest ≡ 2 * length (sz_of rest) + 2 → string_bytes (sz_of rest) ≡ rest)
        → length (low ∷ high ∷ rest) ≡ 2 * length (sz_of (low ∷ high ∷ rest)) + 2
        → string_bytes (sz_of (low ∷ high ∷ rest)) ≡ low ∷ high ∷ rest
    go true e again l =
        let size : length (sz_of (low ∷ high ∷ rest)) ≡ 0 = ap length (cut true e) in
        let zero_is : unit ≡ 0 = eqb-true unit 0 e in
        let low_is : 0 ≡ low = omega (arith, zero_is) in
        let high_is : 0 ≡ high = omega (arith, zero_is) in
        let none_left : [] ≡ rest = empty rest (omega (arith, l, size)) in
        ap string_bytes (cut true e) ∙ (λ j. low_is j ∷ high_is j ∷ none_left j)
      where
        empty : (xs : List ℕ) → length xs ≡ 0 → [] ≡ xs
        empty [] e = refl
        empty (x ∷ xs) e = absurd (omega (arith, e))
    go false e again l =
        let size : length (sz_of (low ∷ high ∷ rest)) ≡ suc (length (sz_of rest)) = ap length (cut false e) in
        let tail = again (omega (arith, l, size)) in
        let low_small : low < 256 = all 0 low (omega arith) in
        let low_is : unit % 256 ≡ low = omega (arith, low_small) in
        let high_is : unit / 256 ≡ high = omega (arith, low_small) in
        ap string_bytes (cut false e) ∙ (λ j. low_is j ∷ high_is j ∷ tail j)

-- ---- the type in brackets

-- 16 to a power
sixteens : ℕ → ℕ
sixteens zero = 1
sixteens (suc j) = 16 * sixteens j

two_values : true ≡ false → ⊥
two_values e = absurd cc

few_onto : (k j n : ℕ) (acc : List ℕ) → n < sixteens (suc j)
    → length (digits_onto k 16 false n acc) ≤ suc j + length acc
unfolding sixteens
few_onto zero j n acc lt = omega arith
few_onto (suc k) j n acc lt =
    go (eqb (n / 16) 0) refl j (λ i small. few_onto k i (n / 16) (digit_glyph false (n % 16) ∷ acc) small) lt
  where
    g : ℕ
    g = digit_glyph false (n % 16)

    go : (b : Bool) → eqb (n / 16) 0 ≡ b → (i : ℕ)
        → ((i : ℕ) → n / 16 < sixteens (suc i)
        → length (digits_onto k 16 false (n / 16) (g ∷ acc)) ≤ suc i + length (g ∷ acc)) → n < sixteens (suc i)
        → length (cond b (g ∷ acc) (digits_onto k 16 false (n / 16) (g ∷ acc))) ≤ suc i + length acc
    go true e i again lt = omega arith
    go false e zero again lt =
        let sixteen : sixteens (suc zero) ≡ 16 = refl in
        let none : n / 16 ≡ 0 = omega (arith, lt, sixteen) in
        absurd (two_values (sym (eq-eqb (n / 16) 0 none) ∙ e))
    go false e (suc i) again lt =
        let step : sixteens (suc (suc i)) ≡ 16 * sixteens (suc i) = refl in
        let small : n / 16 < sixteens (suc i) = omega (arith, lt, step) in
        omega (arith, again i small)

few_digits : (kind : ℕ) → kind < 4294967296 → length (digits 16 false kind) ≤ 8
unfolding digits sixteens
few_digits kind lt = few_onto 64 7 kind [] lt

all_hex : (ds : List ℕ) → AllDigits 16 ds → list_all is_hex ds ≡ true
all_hex [] all = refl
all_hex (c ∷ ds) all = and_from (is_hex c) (list_all is_hex ds) (lt-ltb (digit_value c) 16 all.0) (all_hex ds all.1)

hex_front : (ds : List ℕ) (c : ℕ) (rest : List ℕ) → list_all is_hex ds ≡ true → is_hex c ≡ false
    → prefix_len is_hex (ds ++ c ∷ rest) ≡ length ds
hex_front [] c rest all e = ap (λ (b : Bool). cond b (1 + prefix_len is_hex rest) 0) e
hex_front (d ∷ ds) c rest all e = go (is_hex d) (λ a. hex_front ds c rest a e) all
  where
    go : (b : Bool) → (list_all is_hex ds ≡ true → prefix_len is_hex (ds ++ c ∷ rest) ≡ length ds)
        → (b && list_all is_hex ds) ≡ true → cond b (1 + prefix_len is_hex (ds ++ c ∷ rest)) 0 ≡ suc (length ds)
    go true again all = omega (arith, again all)
    go false again all = absurd cc

take_front : (ds rest : List ℕ) → take (length ds) (ds ++ rest) ≡ ds
take_front [] rest = refl
take_front (d ∷ ds) rest = ap (λ (l : List ℕ). d ∷ l) (take_front ds rest)

drop_front : (ds rest : List ℕ) → drop (length ds) (ds ++ rest) ≡ rest
drop_front [] rest = refl
drop_front (d ∷ ds) rest = drop_front ds rest

kind_by : (ds text : List ℕ) (n : ℕ) → n ≡ length ds → 0 < length ds → length ds ≤ 8
    → cond (eqb n 0 || ltb 8 n) (Err Line)
    (kind_ended (digits_value 16 (take n (ds ++ 41 ∷ 58 ∷ text))) (drop n (ds ++ 41 ∷ 58 ∷ text)))
    ≡ Ok (digits_value 16 ds, text)
unfolding kind_ended
kind_by ds text n is some few =
    let none : eqb n 0 ≡ false = ne_eqb n 0 (λ e. absurd (omega (arith, is, e, some))) in
    let large : ltb 8 n ≡ false = le-ltb 8 n (omega (arith, is, few)) in
    let lead : take n (ds ++ 41 ∷ 58 ∷ text) ≡ ds =
    ap (λ (m : ℕ). take m (ds ++ 41 ∷ 58 ∷ text)) is ∙ take_front ds (41 ∷ 58 ∷ text) in
    let rest : drop n (ds ++ 41 ∷ 58 ∷ text) ≡ 41 ∷ 58 ∷ text =
    ap (λ (m : ℕ). drop m (ds ++ 41 ∷ 58 ∷ text)) is ∙ drop_front ds (41 ∷ 58 ∷ text) in
    ap (λ (b : Bool). cond b (Err Line)
    (kind_ended (digits_value 16 (take n (ds ++ 41 ∷ 58 ∷ text))) (drop n (ds ++ 41 ∷ 58 ∷ text))))
    (or_from (eqb n 0) (ltb 8 n) none large)
    ∙ ap (λ (t : List ℕ). kind_ended (digits_value 16 t) (drop n (ds ++ 41 ∷ 58 ∷ text))) lead
    ∙ ap (kind_ended (digits_value 16 ds)) rest

kind_back : (kind : ℕ) (text : List ℕ) → kind < 4294967296
    → kind_in (digits 16 false kind ++ 41 ∷ 58 ∷ text) ≡ Ok (kind, text)
unfolding kind_in
kind_back kind text lt =
    let ds : List ℕ = digits 16 false kind in
    let numeral = digits_is_IsNumeral 16 false (omega arith) (omega arith) kind (omega (arith, lt)) in
    kind_by ds text (prefix_len is_hex (ds ++ 41 ∷ 58 ∷ text))
    (hex_front ds 41 (58 ∷ text) (all_hex ds numeral.0.1) refl) numeral.0.0 (few_digits kind lt)
    ∙ ap (λ (k : ℕ). Ok (k, text)) numeral.1

-- ---- data

-- data that are written are read, are in one line, and end in no blank
pub record Back (kind : ℕ) (bytes text : List ℕ) : Type 0 where
  pub back : (name : List ℕ) → data_item name text ≡ Ok (Named name kind bytes)
  pub whole : breaks text ≡ false
  pub ends : Ends text

dword_is : (name : List ℕ) (bytes text : List ℕ) → length text ≡ 8 → list_all is_hex text ≡ true
    → to_le_bytes w32 (digits_value 16 text) ≡ bytes
    → data_item name (codes "dword:" ++ text) ≡ Ok (Named name 4 bytes)
unfolding data_item number_item dword_item
dword_is name bytes text eight hex is =
    let long : eqb (length text) 8 ≡ true = ap (λ (n : ℕ). eqb n 8) eight in
    ap (λ (b : Bool). cond b (Ok (Named name 4 (to_le_bytes w32 (digits_value 16 text)))) (Err Line))
    (and_from (eqb (length text) 8) (list_all is_hex text) long hex)
    ∙ ap (λ (b : List ℕ). Ok (Named name 4 b)) is

dword_data : (bytes : List ℕ) → length bytes ≡ 4 → AreBytes bytes
    → Back 4 bytes (codes "dword:" ++ number_digits (from_le_bytes w32 bytes))
dword_data bytes four all =
    let e = eight_back bytes four all in
    let n : ℕ = from_le_bytes w32 bytes in
    record {
      back = λ name. dword_is name bytes (number_digits n) refl e.hex
          (le_bytes_4 bytes (digits_value 16 (number_digits n)) four (small_at bytes all) e.value);
      whole = whole_append (codes "dword:") (number_digits n) refl (all_hex_whole (number_digits n) e.hex);
      ends = ends_behind (codes "dword:") (number_digits n) e.ends;
    }

string_is : (name text : List ℕ)
    → data_item name (34 ∷ flat_map quoted_unit text ++ 34 ∷ []) ≡ Ok (Named name 1 (string_bytes text))
unfolding data_item string_item string_ended
string_is name text = ap (λ (r : Result (List ℕ × List ℕ) RegFaultKind). r >>= λ q. string_ended name q.0 q.1)
    (quoted_back text [])

string_data : (bytes : List ℕ) → length bytes ≡ 2 * length (sz_of bytes) + 2 → breaks (sz_of bytes) ≡ false
    → AreBytes bytes
    → Back 1 bytes (quoted (sz_of bytes))
string_data bytes long whole all =
    let inner : List ℕ = flat_map quoted_unit (sz_of bytes) in
    record {
      back = λ name. string_is name (sz_of bytes)
          ∙ ap (λ (b : List ℕ). Ok (Named name 1 b)) (string_back bytes all long);
      whole = whole_append (inner) (34 ∷ []) (quoted_whole (sz_of bytes) whole) refl;
      ends = record { front = 34 ∷ inner; last = 34; is = refl; plain = refl; unslashed = refl };
    }

hex_is : (name bytes : List ℕ) → AreBytes bytes
    → data_item name (codes "hex:" ++ bytes_text bytes) ≡ Ok (Named name 3 bytes)
unfolding data_item number_item hex_item kind_at
hex_is name bytes all = item_back name 3 bytes all

-- a type in brackets and bytes
abbrev wide_text : ℕ → List ℕ → List ℕ
wide_text kind bytes = codes "hex(" ++ (digits 16 false kind ++ 41 ∷ 58 ∷ bytes_text bytes)

wide_is : (name : List ℕ) (kind : ℕ) (bytes : List ℕ) → kind < 4294967296 → AreBytes bytes
    → data_item name (wide_text kind bytes) ≡ Ok (Named name kind bytes)
unfolding data_item number_item hex_item kind_at
wide_is name kind bytes lt all =
    ap (λ (r : Result (ℕ × List ℕ) RegFaultKind). r >>= λ k. bytes_item name k.0 [] k.1)
    (kind_back kind (bytes_text bytes) lt) ∙ item_back name kind bytes all

hex_data : (bytes : List ℕ) → AreBytes bytes → Back 3 bytes (codes "hex:" ++ bytes_text bytes)
hex_data bytes all = record {
  back = λ name. hex_is name bytes all;
  whole = whole_append (codes "hex:") (bytes_text bytes) refl (bytes_whole bytes all);
  ends = bytes_end (codes "hex:") bytes
      (record { front = codes "hex"; last = 58; is = refl; plain = refl; unslashed = refl }) all;
}

wide_back : (kind : ℕ) (bytes : List ℕ) → kind < 4294967296 → AreBytes bytes → Back kind bytes (wide_text kind bytes)
wide_back kind bytes lt all =
    let ds : List ℕ = digits 16 false kind in
    let numeral = digits_is_IsNumeral 16 false (omega arith) (omega arith) kind (omega (arith, lt)) in
    let rest : List ℕ = 41 ∷ 58 ∷ bytes_text bytes in
    record {
      back = λ name. wide_is name kind bytes lt all;
      whole = whole_append (codes "hex(") (ds ++ rest) refl
          (whole_append ds rest (all_hex_whole ds (all_hex ds numeral.0.1))
          (whole_append (codes "):") (bytes_text bytes) refl (bytes_whole bytes all)));
      ends = ends_behind (codes "hex(") (ds ++ rest)
          (ends_behind ds rest (bytes_end (codes "):") bytes
          (record { front = codes ")"; last = 58; is = refl; plain = refl; unslashed = refl }) all));
    }

wide_data : (kind : ℕ) (bytes : List ℕ) → kind < 4294967296 → AreBytes bytes
    → Back kind bytes (codes "hex(" ++ digits 16 false kind ++ codes "):" ++ bytes_text bytes)
wide_data kind bytes lt all =
    subst (Back kind bytes) (ap (λ (t : List ℕ). codes "hex(" ++ t)
    (sym (append_assoc (digits 16 false kind) (41 ∷ 58 ∷ []) (bytes_text bytes))))
    (wide_back kind bytes lt all)

binary_by : (kind : ℕ) (bytes : List ℕ) (b : Bool) → eqb kind 3 ≡ b → kind < 4294967296 → AreBytes bytes
    → Back kind bytes (cond b (codes "hex:" ++ bytes_text bytes)
    (codes "hex(" ++ digits 16 false kind ++ codes "):" ++ bytes_text bytes))
binary_by kind bytes true is lt all =
    subst (λ (k : ℕ). Back k bytes (codes "hex:" ++ bytes_text bytes)) (sym (eqb-true kind 3 is)) (hex_data bytes all)
binary_by kind bytes false is lt all = wide_data kind bytes lt all

not_true : (b : Bool) → not b ≡ true → b ≡ false
not_true true e = absurd cc
not_true false e = refl

string_by : (kind : ℕ) (bytes : List ℕ) (b : Bool) → is_string kind bytes ≡ b → kind < 4294967296 → AreBytes bytes
    → Back kind bytes (cond b (quoted (sz_of bytes)) (binary_text kind bytes))
unfolding is_string
string_by kind bytes true is lt all =
    let long : Bool = eqb (length bytes) (2 * length (sz_of bytes) + 2) in
    let one = and_parts (eqb kind 1 && long) (not (breaks (sz_of bytes))) is in
    let two = and_parts (eqb kind 1) long one.0 in
    subst (λ (k : ℕ). Back k bytes (quoted (sz_of bytes))) (sym (eqb-true kind 1 two.0))
    (string_data bytes (eqb-true (length bytes) (2 * length (sz_of bytes) + 2) two.1)
    (not_true (breaks (sz_of bytes)) one.1) all)
string_by kind bytes false is lt all = binary_by kind bytes (eqb kind 3) refl lt all

dword_by : (kind : ℕ) (bytes : List ℕ) (b : Bool) → is_dword kind bytes ≡ b → kind < 4294967296 → AreBytes bytes
    → Back kind bytes
    (cond b (codes "dword:" ++ number_digits (from_le_bytes w32 bytes))
    (cond (is_string kind bytes) (quoted (sz_of bytes)) (binary_text kind bytes)))
dword_by kind bytes true is lt all =
    let two = and_parts (eqb kind 4) (eqb (length bytes) 4) is in
    subst (λ (k : ℕ). Back k bytes (codes "dword:" ++ number_digits (from_le_bytes w32 bytes)))
    (sym (eqb-true kind 4 two.0))
    (dword_data bytes (eqb-true (length bytes) 4 two.1) all)
dword_by kind bytes false is lt all = string_by kind bytes (is_string kind bytes) refl lt all

pub data_back : (kind : ℕ) (bytes : List ℕ) → kind < 4294967296 → AreBytes bytes
    → Back kind bytes (data_text kind bytes)
unfolding data_text
data_back kind bytes lt all = dword_by kind bytes (is_dword kind bytes) refl lt all
