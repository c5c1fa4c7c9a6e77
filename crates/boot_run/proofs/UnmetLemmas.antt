-- Names that are printed in sequence, each in a line of its own.
use Rattle.std.proofs.Common.{◌≡◌, ◌≤◌, ◌-◌, ℕ, List, [], ◌∷◌, ◌++◌, length, take, drop, map, get_or, sym, ap, subst, ◌∙◌, append_assoc}
use Rattle.reg_tree.proofs.Outcomes.{uncons}
use Rattle.report_words.specs.declared.line.Line.{Line}
use Rattle.run_parts.specs.printed_parts.Parts.{Told, Tells}
use Rattle.run_parts.proofs.GoesLemmas.{tells-then}
use Rattle.boot_run.specs.Views.{TellsBefore}

-- one more name was printed, a copy of the next one
pub name_next : (line : List ℕ → Line) (names : List (List ℕ)) (name copy : List ℕ) (all : List Line) (x y z : Told)
    → 1 ≤ length names → name ≡ get_or names 0 name → copy ≡ name
    → TellsBefore all (map line names) x y → Tells y z (line copy ∷ [])
    → TellsBefore all (map line (take (length names - 1) (drop 1 names))) x z
name_next line names name copy all x y z some is same before told =
    let more : List (List ℕ) = take (length names - 1) (drop 1 names) in
    let P : List ℕ → Type 0 = λ n. Tells y z (line n ∷ []) in
    record {
      first = before.first ++ line name ∷ [];
      parts =
          before.parts ∙ ap (λ (ns : List (List ℕ)). before.first ++ map line ns) (uncons names name some is)
          ∙ sym (append_assoc before.first (line name ∷ []) (map line more));
      told = tells-then x y z before.first (line name ∷ []) before.told (subst P same told);
    }
