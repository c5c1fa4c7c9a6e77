use Rattle.std.proofs.Common.{◌≡◌, ℕ, List, refl, sym, arith}
use Rattle.std.proofs.lemmas.Grind.{common_steps}
use Rattle.hive_model.specs.Asked.{log_at}
use Rattle.hive_model.specs.Base.{Base}
use Rattle.hive_model.specs.Image.{Image, File, Primary, Log, with_file}
use Rattle.hive_model.specs.Carries.{HasBase}
use Rattle.hive_laws.specs.hive_laws.Looking.{LooksAt}
use Rattle.hive_laws.proofs.Alike.{recovered_alike}
use Rattle.hive_laws.proofs.hive_laws.looking.a_clean_hive_needs_no_log.Goals as goal

unread : (image : Image) (base : Base) (n : ℕ) → HasBase image base → base.first ≡ base.second
    → LooksAt image (log_at n) → ⊥
unread image base n has even looks = grind (arith, common_steps)

-- the primary stays, and the log is not looked at
same : (image : Image) (base : Base) (log : List ℕ) → HasBase image base → base.first ≡ base.second
    → (f : File) (n : ℕ) → LooksAt image (record { file = f; sector = n })
    → image (record { file = f; sector = n }) ≡ with_file Log log image (record { file = f; sector = n })
same image base log has even Primary n looks = refl
same image base log has even Log n looks = absurd (unread image base n has even looks)

pub returns-clause-unread : goal.returns-clause-unread
returns-clause-unread c = unread

pub returns-clause-any : goal.returns-clause-any
returns-clause-any c = λ image base log has even. sym
    (recovered_alike image (with_file Log log image) (λ a looks. same image base log has even a.file a.sector looks))
