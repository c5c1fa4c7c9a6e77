use Rattle.std.proofs.Common.{sym, subst}
use Rattle.hive_model.specs.Image.{IsFileOf}
use Rattle.nt_edge.specs.Book.{file_of}
use Rattle.command_parts.specs.command_parts.Saves.{WritesAlone}
use Rattle.command_parts.proofs.SaveLemmas.{saves-taken, saves-untaken}
use Rattle.command_parts.proofs.command_parts.saving.save_as.Goals as goal

pub returns-in-Ok : goal.returns-in-Ok
returns-in-Ok g c =
    let t = c.in-Ok.ensures.taken in
    let p = c.put.ensures in
    let of = subst (IsFileOf t.0 (file_of c.args.file)) (sym c.as_slice.ensures) t.3 in
    let host : WritesAlone c.put.result (g.H.Host.state c.args.host.now) (g.H.Host.state c.put.new.self) =
    record { keeps = p.keeps; unsaid = p.unsaid; unasked = p.unasked; counts = p.counts; unread = p.never_read } in
    saves-taken (file_of c.args.file) c.args.name.now c.as_slice.result.now c.put.result
    (g.H.Host.state c.args.host.now) (g.H.Host.state c.put.new.self)
    (g.B.Disk.state c.args.bench.now) (g.B.Disk.state c.take.new.self) t.0 t.1 t.2 of host p.put p.others

pub returns-in-Err : goal.returns-in-Err
returns-in-Err g c =
    saves-untaken (file_of c.args.file) c.args.name.now (g.H.Host.state c.args.host.now)
    (g.B.Disk.state c.args.bench.now) (g.B.Disk.state c.take.new.self)
    c.in-Err.ensures.before
