use Rattle.std.proofs.Common.{ap, inr, map, string_bytes}
use Rattle.ntboot_c.proofs.WordLemmas.{unread}
use Rattle.ntboot_c.proofs.words.words_in.Goals as goal

pub returns-in-Err : goal.returns-in-Err
returns-in-Err c = inr (
  ap (map string_bytes) c.new.ensures.items,
  unread c.args.text.now c.loop-rest.rest.now c.first_line.result.0.now c.first_line.result.1.now
      (map string_bytes c.loop-rest.words.items) c.loop-rest.invariant c.first_line.ensures.first c.in-Err.ensures.cases.0,
)
