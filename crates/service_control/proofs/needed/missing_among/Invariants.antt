use Rattle.std.proofs.Common.{◌≡◌, take, filter}
use Rattle.std.specs.Option.{option_copied}
use Rattle.std.specs.List.{fold}
use Rattle.service_control.specs.Needed.{is_absent, lesser}
use Rattle.service_control.proofs.needed.missing_among.Given as goal

abbrev pub invariant-loop-name : goal.invariant-loop-name
invariant-loop-name l = option_copied l.best
    ≡ fold lesser (option_copied l.fn.before) (filter (is_absent l.index) (take l.name-index l.names))
