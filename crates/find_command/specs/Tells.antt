-- What does a host come to, to which hits are told as they are found? (this project's own)
use Rattle.std.specs.Prelude.{◌≡◌, ◌+◌, ℕ, List, length, Result, OnOk}
use Rattle.std.specs.List.{flat_map}
use Rattle.nt_edge.specs.Host.{HostState}
use Rattle.nt_edge.specs.declared.host.HostStop.{HostStop}
use Rattle.report_text.specs.declared.line_text.form.ReportForm.{ReportForm}
use Rattle.line_parts.specs.Parts.{printed}
use Rattle.find_rule.specs.declared.wanted.Wanted.{Wanted}
use Rattle.find_rule.specs.Hits.{Hit, hits_of}
use Rattle.find_rule.specs.Lines.{hit_line}
use Rattle.find_command.specs.Prints.{Prints}

-- the lines of hits
abbrev pub hits_text : ReportForm → List Hit → List ℕ
hits_text form found = flat_map (λ (h : Hit). printed form (hit_line h)) found

-- the lines of what is hit among these places were printed, and counted
pub record Tells (form : ReportForm) (wanted : Wanted) (all : List Hit) (result : Result (Unit {0}) HostStop) (old new : HostState)
    (before after : ℕ) : Type 0 where
  pub prints : Prints (hits_text form (hits_of wanted all)) result old new
  pub count : OnOk result (after ≡ before + length (hits_of wanted all))

-- what is told of these places from here on completes what was told of all places since the beginning
abbrev pub Carries : ReportForm → Wanted → List Hit → HostState → ℕ → List Hit → HostState → ℕ → Type 0
Carries form wanted all old before rest now so_far =
    (result : Result (Unit {0}) HostStop) (new : HostState) (after : ℕ)
    → Tells form wanted rest result now new so_far after → Tells form wanted all result old new before after
