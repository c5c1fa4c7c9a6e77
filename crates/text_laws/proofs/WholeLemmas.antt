-- A text that is read, whose edits are made.
use Rattle.std.specs.Prelude.{nat_lt}
use Rattle.std.proofs.Common.{◌≡◌, ℕ, Bool, true, false, cond, List, Result, Ok, Err, refl, sym, ◌∙◌, ap, subst}
use Rattle.std.specs.List.{All}
use Rattle.nt_bytes.specs.declared.version.HiveVersion.{HiveVersion}
use Rattle.nt_bytes.specs.Reading.{◌>>=◌}
use Rattle.hive_model.specs.Edit.{Step, Refusal, full, most_bulk, after_steps, edited}
use Rattle.hive_model.specs.Size.{bulk_of}
use Rattle.hive_model.specs.Tree.{Tree}
use Rattle.reg_text.specs.declared.stop.RegFault.{RegFault}
use Rattle.reg_text.specs.Reading.{reg_steps_of}
use Rattle.reg_text.specs.Writing.{reg_text_of}
use Rattle.text_laws.specs.Back.{key_steps, IsPart, IsTextual, IsOrdered, IsFreeAt, HasBack}
use Rattle.text_laws.proofs.FocusLemmas.{done, ok_one}
use Rattle.text_laws.proofs.BuildLemmas.{has_back}
use Rattle.text_laws.proofs.TextLemmas.{read_back}

-- edits that are made are not refused one by one
made_steps : (version : HiveVersion) (root made : Tree) (steps : List Step) → edited version root steps ≡ Ok made
    → after_steps root steps ≡ Ok made
unfolding edited
made_steps version root made steps is = go (after_steps root steps) refl is
  where
    fits : (u : Tree) (b : Bool) → cond b (Err full) (done u) ≡ Ok made → u ≡ made
    fits u true e = absurd cc
    fits u false e = ok_one u made e

    go : (r : Result Tree Refusal) → after_steps root steps ≡ r
        → (r >>= λ u. cond (nat_lt most_bulk (bulk_of version u)) (Err full) (Ok u)) ≡ Ok made
        → after_steps root steps ≡ Ok made
    go (Err why) are e = absurd cc
    go (Ok u) are e = are ∙ ap done (fits u (nat_lt most_bulk (bulk_of version u)) e)

read : List Step → Result (List Step) RegFault
read steps = Ok steps

one_read : (a b : List Step) → read a ≡ read b → a ≡ b
unfolding read
one_read a b e = cc

pub gives_back : (path : List (List ℕ)) (written root made : Tree) (text : List ℕ) (steps : List Step)
    (version : HiveVersion) → All IsPart path
    → IsTextual written → IsOrdered written → IsFreeAt path root → reg_text_of path written ≡ Ok text
    → reg_steps_of text ≡ Ok steps
    → edited version root steps ≡ Ok made → HasBack path written made
unfolding read
gives_back path written root made text steps version parts textual ordered free is reads makes =
    let same : steps ≡ key_steps path written =
    one_read steps (key_steps path written) (sym reads ∙ read_back path written text parts textual is) in
    has_back path written root made ordered free
    (subst (λ (s : List Step). after_steps root s ≡ Ok made) same (made_steps version root made steps makes))
