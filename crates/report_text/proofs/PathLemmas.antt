-- A printable text is printed as it is.
use Rattle.std.proofs.Common.{◌≡◌, ℕ, true, false, List, [], ◌∷◌, refl, ap}
use Rattle.std.specs.List.{list_all}
use Rattle.std.proofs.lemmas.Bool.{and_parts}
use Rattle.nt_bytes.specs.Text.{is_printable}
use Rattle.start_model.specs.Lines.{unit_text, name_text}
use Rattle.report_text.specs.line_text.Paths.{begins_plain, is_plain, written}
use Rattle.report_text.specs.line_text.Quoted.{quoted}

printable_unit : (u : ℕ) → is_printable u ≡ true → unit_text u ≡ u ∷ []
unfolding unit_text
printable_unit u e = rw e refl

pub as_it_is : (text : List ℕ) → list_all is_printable text ≡ true → name_text text ≡ text
as_it_is [] e = refl
as_it_is (u ∷ us) e =
    let both = and_parts (is_printable u) (list_all is_printable us) e in
    rw (printable_unit u both.0) (ap (λ (t : List ℕ). u ∷ t) (as_it_is us both.1))

pub plain_written : (text : List ℕ) → is_plain text ≡ true → written text ≡ name_text text
unfolding written
plain_written text e =
    let both = and_parts (begins_plain text) (list_all is_printable text) e in
    rw (e, as_it_is text both.1) refl

pub quoted_written : (text : List ℕ) → is_plain text ≡ false → written text ≡ quoted text
unfolding written
quoted_written text e = rw e refl
