use Rattle.std.proofs.Common.{inl, refl, []}
use Rattle.hive_store.proofs.LoadingLemmas.{loads_or_fails}
use Rattle.mend_command.specs.declared.mend_command.status.MendStatus.TheVariants.{Device}
use Rattle.mend_command.specs.mend_command.Lines.{device_text}
use Rattle.mend_command.proofs.EndLemmas.{told_nothing}
use Rattle.mend_command.proofs.mend_command.command.mend_hive.Goals as goal

pub returns-in-Ok-clause-crash : goal.returns-in-Ok-clause-crash
returns-in-Ok-clause-crash g c = λ tells s dirty loads.
    let held = (c.load.ensures.cut tells).crash s dirty loads (g.D.Disk.state c.load.new.disk).held (λ a. inl refl) in
    c.mend_loaded.ensures.crash tells s held.0 held.1

pub returns-in-Ok-clause-faulty : goal.returns-in-Ok-clause-faulty
returns-in-Ok-clause-faulty g c = λ tells fault fails.
    absurd (loads_or_fails (g.D.Disk.state c.args.disk.now).held _ _ fault (c.in-Ok.ensures.exact tells).loads fails)

pub returns-in-Err-Fault-clause-crash : goal.returns-in-Err-Fault-clause-crash
returns-in-Err-Fault-clause-crash g c =
    λ tells s dirty loads image crash. inl ((c.load.ensures.cut tells).crash s dirty loads image crash)

pub returns-in-Err-PowerLost-clause-crash : goal.returns-in-Err-PowerLost-clause-crash
returns-in-Err-PowerLost-clause-crash g c =
    λ tells s dirty loads image crash. inl ((c.load.ensures.cut tells).crash s dirty loads image crash)

pub returns-in-Err-Device-clause-crash : goal.returns-in-Err-Device-clause-crash
returns-in-Err-Device-clause-crash g c =
    λ tells s dirty loads image crash. inl ((c.load.ensures.cut tells).crash s dirty loads image crash)

pub returns-in-Err-Memory-clause-said : goal.returns-in-Err-Memory-clause-said
returns-in-Err-Memory-clause-said g c = λ tells. record {
  told = Device;
  text = device_text;
  report = record { before = []; begun = inl refl; text_is = refl };
  said = told_nothing Device device_text (g.H.Host.state c.args.host.now);
}

pub returns-in-Err-Memory-clause-crash : goal.returns-in-Err-Memory-clause-crash
returns-in-Err-Memory-clause-crash g c =
    λ tells s dirty loads image crash. inl ((c.load.ensures.cut tells).crash s dirty loads image crash)
