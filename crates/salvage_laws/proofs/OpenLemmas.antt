-- What is opened of a hive whose log is not looked at.
use Rattle.std.proofs.Common.{◌≡◌, ℕ, Bool, true, false, cond, None, List, [], ◌∷◌, sym, ap, ◌∙◌, arith}
use Rattle.std.specs.Prelude.{◌==◌}
use Rattle.std.proofs.lemmas.Bool.Decides.{nat_tests}
use Rattle.nt_bytes.specs.declared.fault.HiveFault.{HiveFault}
use Rattle.hive_model.specs.Base.{fields_of}
use Rattle.salvage_file.specs.declared.opening.FileState.TheVariants.{Clean}
use Rattle.salvage_file.specs.Faults.{base_faults, head_of}
use Rattle.salvage_file.specs.Recovery.{recovery}
use Rattle.salvage_file.specs.Opened.{as_is, dirty_as, opened_as, opened}

same_numbers : (a b : ℕ) → a ≡ b → (a == b) ≡ true
same_numbers a b e = grind (arith, nat_tests)

pub broken_alike : (file log other : List ℕ) (fault : HiveFault) (more : List HiveFault) → base_faults (head_of file) 0 ≡ fault ∷ more
    → opened file log ≡ opened file other
unfolding opened
broken_alike file log other fault more e =
    ap (opened_as file (fields_of (head_of file)) log) e ∙ sym (ap (opened_as file (fields_of (head_of file)) other) e)

-- a clean hive, whatever its log is
as_clean : (file log : List ℕ) → base_faults (head_of file) 0 ≡ []
    → (fields_of (head_of file)).first ≡ (fields_of (head_of file)).second
    → opened file log ≡ as_is file (fields_of (head_of file)) Clean [] false None
unfolding opened
as_clean file log e same =
    let base = fields_of (head_of file) in
    ap (opened_as file base log) e
    ∙ ap (λ (b : Bool). cond b (as_is file base Clean [] false None) (dirty_as file base (recovery file base log)))
    (same_numbers base.first base.second same)

pub clean_alike : (file log other : List ℕ) → base_faults (head_of file) 0 ≡ []
    → (fields_of (head_of file)).first ≡ (fields_of (head_of file)).second → opened file log ≡ opened file other
clean_alike file log other e same = as_clean file log e same ∙ sym (as_clean file other e same)
