use Rattle.std.proofs.Common.{◌≡◌, ◌++◌, take, map}
use Rattle.std.specs.List.{flat_map}
use Rattle.boot_script.specs.boot_script.Values.{text_bytes}
use Rattle.boot_script.proofs.boot_script.data.push_texts.Given as goal

abbrev pub invariant-loop-text : goal.invariant-loop-text
invariant-loop-text l = l.out ≡ l.fn.out ++ flat_map text_bytes (map (λ w. w.now) (take l.text-index l.texts))
