-- A session with one edit more.
use Rattle.std.proofs.Common.{◌≡◌, Bool, true, ℕ, List, [], ◌∷◌, ◌++◌, refl, sym, subst, ◌∙◌}
use Rattle.hive_model.specs.Base.{Base}
use Rattle.hive_model.specs.Edit.{Step}
use Rattle.hive_edit.specs.Hive.{HiveCells}
use Rattle.hive_store.specs.Edits.{IsEdit, AreEdits}
use Rattle.hive_store.specs.Session.{IsSession}

edits_then : (a b c : HiveCells) (edits : List (List Step)) (steps : List Step) → AreEdits a edits b → IsEdit b steps c
    → AreEdits a (edits ++ steps ∷ []) c
edits_then a b c [] steps made is = (c, subst (λ (h : HiveCells). IsEdit h steps c) made is, refl)
edits_then a b c (one ∷ more) steps made is = (made.0, made.1, edits_then made.0 b c more steps made.2 is)

pub edited_session : (base : Base) (cells after : HiveCells) (changed : Bool) (steps : List Step)
    → IsSession base cells.base cells changed → after.base ≡ cells.base → IsEdit cells steps after
    → IsSession base after.base after true
edited_session base cells after changed steps is same edit =
    subst (λ (b : List ℕ). IsSession base b after true) (sym same)
    (record {
      read = is.read;
      edits = is.edits ++ steps ∷ [];
      read_is = is.read_is;
      read_in = is.read_in;
      carried = is.carried;
      made = edits_then is.read cells after is.edits steps is.made edit;
      version = edit.version ∙ is.version;
      kept = λ e. absurd cc;
    })
