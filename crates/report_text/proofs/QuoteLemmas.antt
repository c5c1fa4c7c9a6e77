-- A text in quotes is read back, unit by unit.
use Rattle.std.proofs.Common.{◌≡◌, ℕ, ◌+◌, ◌-◌, ◌*◌, ◌/◌, ◌%◌, ◌<◌, ◌^◌, ◌==◌, ◌||◌, Bool, true, false, eqb, cond, List, [], ◌∷◌, ◌++◌, refl, sym, ap, ◌∙◌, append_assoc, arith}
use Rattle.std.specs.Prelude.{nat_lt}
use Rattle.std.specs.List.{All, flat_map}
use Rattle.std.specs.Fmt.{digit_glyph}
use Rattle.std.proofs.lemmas.Bool.Decides.{nat_tests}
use Rattle.std.proofs.lemmas.List.Elements.{All-head, All-tail}
use Rattle.nt_bytes.specs.Text.{is_printable}
use Rattle.start_model.specs.Lines.{unit_text, escaped}
use Rattle.report_text.specs.line_text.Quoted.{quoted_unit, quoted}

abbrev Read : Type 0
Read = ℕ × List ℕ

-- the value of a lower-case digit
abbrev digit_worth : ℕ → ℕ
digit_worth c = cond (nat_lt c 97) (c - 48) (c - 87)

abbrev four_digits : List ℕ → Read
four_digits (a ∷ b ∷ c ∷ d ∷ rest) =
    (4096 * digit_worth a + 256 * digit_worth b + 16 * digit_worth c + digit_worth d, rest)
four_digits _ = (0, [])

abbrev after_backslash : List ℕ → Read
after_backslash [] = (0, [])
after_backslash (c ∷ rest) = cond (eqb c 117) (four_digits rest) (c, rest)

-- the first unit of a quoted text, and what follows it
abbrev first_unit : List ℕ → Read
first_unit [] = (0, [])
first_unit (c ∷ rest) = cond (eqb c 92) (after_backslash rest) (c, rest)

worth : (d : ℕ) → d < 16 → digit_worth (digit_glyph false d) ≡ d
worth d lt = grind (arith, nat_tests)

number : (u : ℕ) → u < 2 ^ 16
    → 4096 * digit_worth (digit_glyph false (u / 4096)) + 256 * digit_worth (digit_glyph false (u / 256 % 16))
    + 16 * digit_worth (digit_glyph false (u / 16 % 16)) + digit_worth (digit_glyph false (u % 16)) ≡ u
number u lt =
    let a = worth (u / 4096) (omega arith) in
    let b = worth (u / 256 % 16) (omega arith) in
    let c = worth (u / 16 % 16) (omega arith) in
    let d = worth (u % 16) (omega arith) in
    rw (a, b, c, d) (omega arith)

by_shape : (b p : Bool) (u : ℕ) (r : List ℕ) → u < 2 ^ 16
    → ((u == 34) || (u == 92)) ≡ b
    → first_unit (cond b (92 ∷ u ∷ []) (cond p (u ∷ []) (escaped u)) ++ r) ≡ (u, r)
by_shape true p u r lt e =
    let no : eqb u 117 ≡ false = grind (arith, nat_tests) in
    rw no refl
by_shape false true u r lt e =
    let no : eqb u 92 ≡ false = grind (arith, nat_tests) in
    rw no refl
by_shape false false u r lt e = ap (λ (n : ℕ). (n, r)) (number u lt)

read_unit : (u : ℕ) (r : List ℕ) → u < 2 ^ 16 → first_unit (quoted_unit u ++ r) ≡ (u, r)
unfolding quoted_unit unit_text
read_unit u r lt = by_shape ((u == 34) || (u == 92)) (is_printable u) u r lt refl

-- the first byte, or 0
abbrev first_byte : List ℕ → ℕ
first_byte [] = 0
first_byte (c ∷ rest) = c

by_byte : (b p : Bool) (u : ℕ) (r : List ℕ)
    → ((u == 34) || (u == 92)) ≡ b
    → first_byte (cond b (92 ∷ u ∷ []) (cond p (u ∷ []) (escaped u)) ++ r) ≡ 34 → ⊥
by_byte true p u r e same = absurd (omega arith)
by_byte false true u r e same = grind (arith, nat_tests)
by_byte false false u r e same = absurd (omega arith)

no_quote : (u : ℕ) (r : List ℕ) → first_byte (quoted_unit u ++ r) ≡ 34 → ⊥
unfolding quoted_unit unit_text
no_quote u r same = by_byte ((u == 34) || (u == 92)) (is_printable u) u r refl same

abbrev pub Small : List ℕ → Type 0
Small units = All (λ u. u < 2 ^ 16) units

abbrev small : ℕ → Type 0
small u = u < 2 ^ 16

-- the units of a text, the quote after them, and the rest
abbrev ended : List ℕ → List ℕ → List ℕ
ended units after = flat_map quoted_unit units ++ (34 ∷ after)

step : (u : ℕ) (us after : List ℕ) → ended (u ∷ us) after ≡ quoted_unit u ++ ended us after
step u us after = append_assoc (quoted_unit u) (flat_map quoted_unit us) (34 ∷ after)

rest_of : List ℕ → List ℕ
rest_of [] = []
rest_of (c ∷ rest) = rest

parted-from : (a b after more : List ℕ) → Small a → Small b
    → ended a after ≡ ended b more → (a ≡ b) × (after ≡ more)
unfolding rest_of
parted-from [] [] after more s t e = (refl, ap rest_of e)
parted-from [] (v ∷ vs) after more s t e =
    absurd (no_quote v (ended vs more) (sym (ap first_byte (e ∙ step v vs more))))
parted-from (u ∷ us) [] after more s t e =
    absurd (no_quote u (ended us after) (ap first_byte (sym (step u us after) ∙ e)))
parted-from (u ∷ us) (v ∷ vs) after more s t e =
    let one : first_unit (quoted_unit u ++ ended us after) ≡ first_unit (quoted_unit v ++ ended vs more) =
    ap first_unit (sym (step u us after) ∙ e ∙ step v vs more) in
    let both : (u, ended us after) ≡ (v, ended vs more) =
    sym (read_unit u (ended us after) (All-head small u us s)) ∙ one
    ∙ read_unit v (ended vs more) (All-head small v vs t) in
    let further : (us ≡ vs) × (after ≡ more) =
    parted-from us vs after more (All-tail small u us s) (All-tail small v vs t) (ap (λ (r : Read). r.1) both) in
    let same : u ≡ v = ap (λ (r : Read). r.0) both in
    (ap (λ (w : ℕ). w ∷ us) same ∙ ap (λ (t : List ℕ). v ∷ t) further.0, further.1)

front : (units after : List ℕ) → quoted units ++ after ≡ 34 ∷ ended units after
front units after =
    ap (λ (t : List ℕ). 34 ∷ t) (append_assoc (flat_map quoted_unit units) (34 ∷ []) after)

pub parted : (a b after more : List ℕ) → Small a → Small b
    → quoted a ++ after ≡ quoted b ++ more → (a ≡ b) × (after ≡ more)
unfolding rest_of
parted a b after more s t e =
    parted-from a b after more s t (ap rest_of (sym (front a after) ∙ e ∙ front b more))
