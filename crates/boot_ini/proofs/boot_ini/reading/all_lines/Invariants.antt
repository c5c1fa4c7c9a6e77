use Rattle.std.proofs.Common.{◌≡◌, ◌≤◌, ◌++◌, length, codes}
use Rattle.std.specs.Option.{option_map, option_or}
use Rattle.boot_ini.specs.boot_ini.Keys.{said_in}
use Rattle.boot_ini.specs.boot_ini.Ini.{first_of, values_from, entries_from, timeout_text, default_path, entries_in}
use Rattle.boot_ini.proofs.boot_ini.reading.all_lines.Given as goal

abbrev pub invariant-loop-rest : goal.invariant-loop-rest
invariant-loop-rest l = record {
  timeout : option_or (option_map (λ x. x.now) l.draft.timeout)
      (first_of (values_from (codes "timeout") l.draft.section (said_in l.rest))) ≡ timeout_text l.text;
  default : option_or (option_map (λ x. x.now) l.draft.default)
      (first_of (values_from (codes "default") l.draft.section (said_in l.rest))) ≡ default_path l.text;
  entries : l.draft.entries ++ entries_from l.draft.section (said_in l.rest) ≡ entries_in l.text;
  few : length l.draft.entries ≤ 64;
}

abbrev pub decreases-loop-rest : goal.decreases-loop-rest
decreases-loop-rest l = length l.rest
