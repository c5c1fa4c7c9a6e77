-- Units of a text in quotes in sequence, as the loop reads them.
use Rattle.std.proofs.Common.{◌≡◌, ℕ, Bool, true, false, cond, eqb, List, [], ◌∷◌, ◌++◌, Option, Some, None, Result, Ok, Err, refl, sym, ap, ◌∙◌, append_assoc}
use Rattle.std.proofs.lemmas.List.{append-nil}
use Rattle.reg_text.specs.declared.stop.RegFaultKind.{RegFaultKind}
use Rattle.reg_text.specs.declared.stop.RegFaultKind.TheVariants.{Line}
use Rattle.reg_text.specs.Quotes.{is_escaped, with_units, quoted_from, escaped_unit, first_unit}

-- what the text is, by its first unit
abbrev pub by_unit : Result (Option ℕ × List ℕ) RegFaultKind → Result (List ℕ × List ℕ) RegFaultKind
by_unit (Ok (Some u, text)) = with_units (u ∷ []) (quoted_from false text)
by_unit (Ok (None, text)) = Ok ([], text)
by_unit (Err kind) = Err kind

by_escape : (b : Bool) (u : ℕ) (text : List ℕ)
    → cond b (with_units (u ∷ []) (quoted_from false text)) (Err Line) ≡ by_unit (cond b (Ok (Some u, text)) (Err Line))
by_escape true u text = refl
by_escape false u text = refl

next_escaped : (text : List ℕ) → quoted_from true text ≡ by_unit (escaped_unit text)
unfolding quoted_from escaped_unit
next_escaped [] = refl
next_escaped (u ∷ text) = by_escape (is_escaped u) u text

by_tests : (a b : Bool) (u : ℕ) (text : List ℕ)
    → cond a (Ok ([], text)) (cond b (quoted_from true text) (with_units (u ∷ []) (quoted_from false text)))
    ≡ by_unit (cond a (Ok (None, text)) (cond b (escaped_unit text) (Ok (Some u, text))))
by_tests true b u text = refl
by_tests false true u text = next_escaped text
by_tests false false u text = refl

next_unit : (text : List ℕ) → quoted_from false text ≡ by_unit (first_unit text)
unfolding quoted_from first_unit
next_unit [] = refl
next_unit (u ∷ text) = by_tests (eqb u 34) (eqb u 92) u text

regroup : (front : List ℕ) (u : ℕ) (read : Result (List ℕ × List ℕ) RegFaultKind)
    → with_units front (with_units (u ∷ []) read) ≡ with_units (front ++ u ∷ []) read
regroup front u (Ok q) = ap (λ (t : List ℕ). Ok (t, q.1)) (sym (append_assoc front (u ∷ []) q.0))
regroup front u (Err kind) = refl

pub fails : (front rest : List ℕ) (kind : RegFaultKind) (total : Result (List ℕ × List ℕ) RegFaultKind)
    → first_unit rest ≡ Err kind
    → with_units front (quoted_from false rest) ≡ total → total ≡ Err kind
fails front rest kind total read so_far = sym so_far ∙ ap (with_units front) (next_unit rest ∙ ap by_unit read)

pub ends : (front rest after : List ℕ) (total : Result (List ℕ × List ℕ) RegFaultKind)
    → first_unit rest ≡ Ok (None, after)
    → with_units front (quoted_from false rest) ≡ total → total ≡ Ok (front, after)
ends front rest after total read so_far =
    sym so_far ∙ ap (with_units front) (next_unit rest ∙ ap by_unit read)
    ∙ ap (λ (t : List ℕ). Ok (t, after)) (append-nil front)

pub goes_on : (front rest after : List ℕ) (u : ℕ) (total : Result (List ℕ × List ℕ) RegFaultKind)
    → first_unit rest ≡ Ok (Some u, after)
    → with_units front (quoted_from false rest) ≡ total → with_units (front ++ u ∷ []) (quoted_from false after) ≡ total
goes_on front rest after u total read so_far =
    let one : with_units front (quoted_from false rest) ≡ with_units (front ++ u ∷ []) (quoted_from false after) =
    ap (with_units front) (next_unit rest ∙ ap by_unit read) ∙ regroup front u (quoted_from false after) in
    sym one ∙ so_far
