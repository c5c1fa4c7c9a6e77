use Rattle.std.proofs.Common.{◌∙◌}
use Rattle.device_rule.proofs.KeyLemmas.{found_key}
use Rattle.device_rule.proofs.named_keys.NamedKeys.find.Goals as goal

pub returns : goal.returns
returns c = c.at_place.ensures ∙ found_key c.args.name.now c.args.self.now
