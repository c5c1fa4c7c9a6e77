use Rattle.text_commands.proofs.changing.change_awake.Goals as goal

pub returns : goal.returns
returns g c = record {
  late = g.B.Disk.state c.change-done.new.disk;
  changed = c.change-done.ensures.changed g.met.B.Bench.told;
  unmoved = c.change-done.ensures.unmoved;
  off = c.power_off.ensures.off;
}
