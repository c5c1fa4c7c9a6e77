use Rattle.std.proofs.Common.{refl}
use Rattle.mend_command.specs.hive_mend.Mending.{shorter}
use Rattle.mend_command.proofs.MendingLemmas.{kept_crash}
use Rattle.mend_command.specs.declared.mend_command.status.MendStatus.TheVariants.{Done, Cut, Device}
use Rattle.mend_command.specs.mend_command.Lines.{begun_text, packed_text}
use Rattle.mend_command.proofs.EndLemmas.{told_behind, told_whole, told_cut, not_as, disk_same}
use Rattle.mend_command.proofs.mend_command.command.mend_loaded.Goals as goal

pub returns-in-Done-clause-said : goal.returns-in-Done-clause-said
returns-in-Done-clause-said g c =
    let old = g.H.Host.state c.args.host.now in
    let mid = g.H.Host.state c.tell_loaded.new.host in
    let new = g.H.Host.state c.pack_loaded.new.host in
    let first = begun_text c.args.hive c.args.dirty in
    let rest = c.pack_loaded.ensures.said in
    record {
      told = rest.told;
      text = rest.text;
      rest = rest.rest;
      said = told_behind rest.told first rest.text c.pack_loaded.result old mid new c.in-Done.ensures.host.keeps.tells
          (told_whole first Done old mid refl c.in-Done.ensures.told) rest.said;
    }

pub returns-in_default : goal.returns-in_default
returns-in_default g c =
    let old = g.H.Host.state c.args.host.now in
    let new = g.H.Host.state c.tell_loaded.new.host in
    let disk = g.D.Disk.state c.args.disk.now in
    let status = c.tell_loaded.result in
    let first = begun_text c.args.hive c.args.dirty in
    let told = c.tell_loaded.ensures.told in
    record {
      said = record {
        told = Done;
        text = packed_text c.args.hive (shorter c.args.hive);
        rest = refl;
        said = told_cut Done first (packed_text c.args.hive (shorter c.args.hive))
            status old new c.in_default.not-Done told;
      };
      mended = λ tells done. absurd (c.in_default.not-Done done);
      crash = λ tells. kept_crash disk (c.requires.still tells);
      disk = disk_same status disk (g.met.D.Disk.bounded c.args.disk.now)
          (not_as Done Cut first status old new told (λ f. cc) (λ f. cc) (λ f. cc))
          (not_as Done Device first status old new told (λ f. cc) (λ f. cc) (λ f. cc));
      host = c.tell_loaded.ensures.host;
    }
