-- The tables of reports are true.
use Rattle.std.proofs.Common.{◌≡◌, ◌<◌, ◌*◌, ◌^◌, ◌++◌, ℕ, Bool, true, false, List, length}
use Rattle.hive_model.specs.Base.{Base, is_bins_size}
use Rattle.hive_model.specs.Image.{Image, Log, IsFileOf}
use Rattle.hive_model.specs.Recovery.{bit, sector}
use Rattle.regf_base.specs.Fitting.{NumbersFit, TextsFit}
use Rattle.hive_log.specs.Found.{Found}
use Rattle.hive_commit.specs.Cuts.{IsChange}
use Rattle.hive_commit.specs.Stages.{closed_of}
use Rattle.sweep_text.specs.declared.sweep_text.logged.Logged.{Logged}
use Rattle.sweep_text.specs.sweep_text.Logged.{logged_of}
use Rattle.sweep_text.specs.sweep_text.Report.{stages_by}
use Rattle.sweep_laws.specs.Leaving.{recovery_writes, commit_writes, held_after, IsRecoveredBy, IsRecoveredBefore}
use Rattle.sweep_laws.specs.Truth.{IsTrueOf}
use Rattle.sweep_laws.proofs.CutLemmas.{commit_leaves, log_left}
use Rattle.sweep_laws.proofs.FileLemmas.{commit_told, recovery_told}
use Rattle.sweep_laws.proofs.RecoveryLemmas.{recovery_leaves, change_then, both_leave}

-- a recovery
pub recovery_true : {held : Image} {base : Base} {bitmap bins log : List ℕ} → Found held base bitmap bins → NumbersFit base
    → TextsFit base → IsFileOf held Log log → (written : Logged)
    → IsTrueOf (IsRecoveredBefore base bins) held (stages_by true false (logged_of log) written)
    (recovery_writes base (bit bitmap) bins)
recovery_true {log = log} found numbers texts file written = record {
  lists = recovery_told file found;
  leaves = recovery_leaves found numbers texts (logged_of log).sectors;
}

module _ {base : Base} {old new : List ℕ} {root : ℕ} {bits : ℕ → Bool} where
  pub commit_true : {before : Image} {log : List ℕ} (given : Logged) → IsChange before base old new root bits
      → IsFileOf (held_after before (commit_writes base bits new root)) Log log
      → IsTrueOf (IsRecoveredBy base old (closed_of base new root) new) before (stages_by false true given (logged_of log))
      (commit_writes base bits new root)
  commit_true {log = log} given is file = record {
    lists = commit_told file is (log_left is);
    leaves = commit_leaves is (logged_of log).bitmap (logged_of log).sectors;
  }

  module _ {held : Image} {bitmap log : List ℕ} (found : Found held base bitmap old) (numbers : NumbersFit base)
      (texts : TextsFit base) (file : IsFileOf held Log log) where
    pub both_true : {last : List ℕ} → is_bins_size (length new) ≡ true → root < 2 ^ 32
        → ((i : ℕ) → 512 * i < length new → bits i ≡ false → (512 * i < length old) × (sector new i ≡ sector old i))
        → IsFileOf (held_after held (recovery_writes base (bit bitmap) old ++ commit_writes base bits new root)) Log last
        → IsTrueOf (IsRecoveredBy base old (closed_of base new root) new) held
        (stages_by true true (logged_of log) (logged_of last))
        (recovery_writes base (bit bitmap) old ++ commit_writes base bits new root)
    both_true {last = last} sized fits stays left =
        let is = change_then found numbers texts new root bits sized fits stays in
        let first = recovery_told file found in
        let then = commit_told left is (log_left is) in
        record {
          lists = λ i. first i ++ then i;
          leaves = both_leave found numbers texts new root bits sized fits stays
              (logged_of last).bitmap (logged_of log).sectors (logged_of last).sectors;
        }
