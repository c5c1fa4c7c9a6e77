use Rattle.std.proofs.Common.{◌≡◌, ℕ, List, map, ap, sym, subst, ◌∙◌, string_bytes}
use Rattle.mem_edge.specs.Hosts.{host_of}
use Rattle.mem_edge.specs.Laws.{ordered_law}
use Rattle.mem_edge.specs.State.{state_of}
use Rattle.nt_edge.specs.Disk.{DiskState}
use Rattle.nt_edge.specs.Host.{HostState}
use Rattle.command_words.specs.Reading.{reading_of}
use Rattle.command_parts.specs.command_parts.Leaves.{Leaves}
use Rattle.ntboot_cli.specs.Answer.{EndsWords}
use Rattle.command_laws.specs.run_examples.Files.{words, IsReady}
use Rattle.command_laws.specs.run_examples.Runs.{Runs}
use Rattle.command_laws.proofs.RunExamplesCallLemmas.{ready_runs}
use Rattle.command_laws.proofs.run_examples.calling.run.Goals as goal

pub returns : goal.returns
returns c = λ events is.
    let script : List ℕ = c.args.script.now in
    let old : HostState = host_of c.in_ok-host.host in
    let new : HostState = host_of c.ntboot-status.new.host in
    let disk : DiskState = state_of c.ntboot-status.new.bench in
    let R : List ℕ → Type 0 = λ hive. IsReady hive script old in
    let ready : IsReady c.in_ok-hive.hive script old = subst R c.as_slice.ensures c.in_ok-host.ensures in
    let same : map string_bytes c.as_slice-2.result.now ≡ words =
    ap (map string_bytes) c.as_slice-2.ensures.value ∙ c.in_ok-line.ensures in
    let L : List (List ℕ) → Type 0 =
    λ line. Leaves (EndsWords (reading_of line) old.files new.files disk) c.ntboot-status.result old new in
    let runs = ready_runs c.in_ok-hive.hive script events old new disk c.ntboot-status.result
    c.in_ok-hive.ensures.loads ready (ordered_law c.ntboot-status.new.bench) is
    (subst L same c.ntboot-status.ensures.answer) in
    let P : List ℕ → Type 0 = λ said. Runs events c.ntboot-status.result said in
    subst P (sym (c.in_ok-said.ensures ∙ c.said.ensures)) runs
