use Rattle.std.proofs.Common.{[], ◌∷◌, ◌++◌}
use Rattle.report_words.specs.declared.words.PhaseWord.TheVariants as phases
use Rattle.report_words.specs.declared.line.Line.TheVariants.{Phase as PhaseLine, Vital as VitalLine}
use Rattle.start_model.specs.Run.{first_state}
use Rattle.run_laws.specs.run_laws.Parts.{part_of}
use Rattle.kept_laws.specs.vital_laws.Asked.{vital_behind}
use Rattle.kept_laws.proofs.PlayLemmas.{line-fair, passed, missing}
use Rattle.kept_laws.proofs.vital_laws.passing.no_start_passes_its_boot_phase_without_a_vital_name.Goals as goal

pub returns-clause-passed : goal.returns-clause-passed
returns-clause-passed c = λ choice script e placed wakes outcomes m w o before after is said.
    passed (vital_behind [] (script ++ e ∷ [])) (part_of choice script (first_state placed) wakes outcomes).lines before
    (line-fair choice script e placed wakes outcomes m w o before (PhaseLine phases.System) after is said)

pub returns-clause-missing : goal.returns-clause-missing
returns-clause-missing c = λ choice script e placed wakes outcomes m w o before after name is said.
    missing (vital_behind [] (script ++ e ∷ [])) (part_of choice script (first_state placed) wakes outcomes).lines
    before name (line-fair choice script e placed wakes outcomes m w o before (VitalLine name) after is said)
