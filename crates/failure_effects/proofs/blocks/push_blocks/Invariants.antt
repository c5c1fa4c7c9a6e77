use Rattle.std.proofs.Common.{◌≡◌, ◌++◌, [], cond, take}
use Rattle.std.specs.List.{flat_map}
use Rattle.std.specs.Option.{option_copied}
use Rattle.failure_effects.specs.declared.told.Told.{Told}
use Rattle.failure_effects.specs.Lost.{blocks_of}
use Rattle.failure_effects.specs.Effects.{is_asked}
use Rattle.failure_effects.proofs.blocks.push_blocks.Given as goal

abbrev pub invariant-loop-told : goal.invariant-loop-told
invariant-loop-told l =
    let asked = λ (t : Told). cond (is_asked (option_copied l.of) t.name) (blocks_of l.initial.read l.plain t) [] in
    record {
      read : l.read ≡ l.initial.read;
      lines : l.lines ≡ l.initial.lines ++ flat_map asked (take l.told-index l.plain);
    }
