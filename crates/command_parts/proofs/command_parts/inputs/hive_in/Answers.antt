use Rattle.std.proofs.Common.{◌∙◌, ℕ, ap, sym, arith}
use Rattle.std.specs.Prelude.{option_map}
use Rattle.command_parts.specs.command_parts.Inputs.{asks_hive}
use Rattle.command_parts.specs.command_parts.Leaves.{more, named}
use Rattle.command_parts.proofs.AskLemmas.{more_more, last_asks, log_asked}
use Rattle.command_parts.proofs.command_parts.inputs.hive_in.Goals as goal

pub returns-in_err-log-clause-asks : goal.returns-in_err-log-clause-asks
returns-in_err-log-clause-asks g c = λ tells.
    let old = g.H.Host.state c.args.host.now in
    let log = option_map (λ v. v.now) c.args.log in
    let n = log_asked old.files c.args.hive.now log c.in_ok-primary.primary
    (c.in_ok-primary.ensures.looks.found tells) in
    let gets = c.in_err-log.ensures.asks ∙ ap (more (named log)) c.file_in.ensures.asks
    ∙ more_more (named log) 1 old.gets ∙ ap (λ (k : ℕ). more k old.gets) (sym n) in
    last_asks (asks_hive old.files c.args.hive.now log)
    c.in_err-log.field-0.0 c.from_residual-in_err-log.result old.gets _
    c.in_err-log.ensures.looks.unwritten c.from_residual-in_err-log.ensures.1 (omega (arith, n)) gets
