use Rattle.std.proofs.Common.{◌≡◌, ◌<◌, ◌+◌, length}
use Rattle.key_text.specs.Months.{month_day}
use Rattle.key_text.proofs.month.month_among.Given as goal

abbrev pub invariant-months : goal.invariant-months
invariant-months l = record {
  same : month_day l.rest l.month l.day ≡ month_day l.lengths l.fn.month l.fn.day;
  few : l.month + length l.rest < 100;
  near : l.day < 1000;
}

abbrev pub decreases-months : goal.decreases-months
decreases-months l = length l.rest
