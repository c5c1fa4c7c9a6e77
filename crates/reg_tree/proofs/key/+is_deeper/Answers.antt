use Rattle.std.proofs.Common.{sym, arith}
use Rattle.std.proofs.lemmas.Bool.{lt-ltb}
use Rattle.reg_tree.proofs.Stepping.{some_level}
use Rattle.reg_tree.proofs.key.+is_deeper.Goals as goal

pub Key::is_deeper-returns-then-most-eq0 : goal.Key::is_deeper-returns-then-most-eq0
Key::is_deeper-returns-then-most-eq0 t c = sym (lt-ltb _ _ (omega (arith, some_level c.args.self.now)))
