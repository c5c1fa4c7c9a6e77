use Rattle.std.proofs.Common.{rules, arith}
use Rattle.std.proofs.lemmas.Bool.{ne_eqb}
use Rattle.nt_bytes.specs.Text.{sz_of}
use Rattle.reg_text.proofs.StringLemmas.{string_goes_on}
use Rattle.reg_text.proofs.values.string_in.Goals as goal

pub units-preserved : goal.units-preserved
units-preserved c = record {
  text =
      string_goes_on c.units.rest.now c.units.text.items c.push_reserved.new.self.items (sz_of c.args.bytes.now)
      c.from_le_bytes-unit.result c.in-len2-up.len_at_least (omega (arith, c.from_le_bytes-unit.ensures))
      (ne_eqb _ 0 c.if-unit-eq0.false) c.push_reserved.ensures.items c.units.invariant.text;
  room = search rules;
  half = search rules;
}
