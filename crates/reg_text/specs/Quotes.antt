-- What does a text in quotes say? (this project's own)
--
-- It ends at a quote without a backslash before it. A backslash stands before a backslash or a quote alone.
use Rattle.std.specs.Prelude.{ℕ, Bool, true, false, ◌||◌, ◌==◌, if◌then◌else◌, List, [], ◌∷◌, ◌++◌, Option, Some, None, Result, Ok, Err}
use Rattle.reg_text.specs.declared.stop.RegFaultKind.{RegFaultKind}
use Rattle.reg_text.specs.declared.stop.RegFaultKind.TheVariants.{Line}

-- a backslash or a quote, which stand after a backslash
abbrev pub is_escaped : ℕ → Bool
is_escaped u = (u == 92) || (u == 34)

-- units before those of the rest
abbrev pub with_units : List ℕ → Result (List ℕ × List ℕ) RegFaultKind → Result (List ℕ × List ℕ) RegFaultKind
with_units front (Ok q) = Ok (front ++ q.0, q.1)
with_units front (Err kind) = Err kind

-- the text up to its closing quote, and what follows that; a backslash may stand before the first unit
unfoldable pub quoted_from : Bool → List ℕ → Result (List ℕ × List ℕ) RegFaultKind
quoted_from escaped [] = Err Line
quoted_from true (u ∷ text) = if is_escaped u then with_units (u ∷ []) (quoted_from false text) else Err Line
quoted_from false (u ∷ text) =
    if u == 34 then Ok ([], text)
    else if u == 92 then quoted_from true text
    else with_units (u ∷ []) (quoted_from false text)

-- the unit after a backslash, and what follows it
unfoldable pub escaped_unit : List ℕ → Result (Option ℕ × List ℕ) RegFaultKind
escaped_unit [] = Err Line
escaped_unit (u ∷ text) = if is_escaped u then Ok (Some u, text) else Err Line

-- the first unit of the text, or none at its closing quote, and what follows
unfoldable pub first_unit : List ℕ → Result (Option ℕ × List ℕ) RegFaultKind
first_unit [] = Err Line
first_unit (u ∷ text) = if u == 34 then Ok (None, text) else if u == 92 then escaped_unit text else Ok (Some u, text)
