use Rattle.std.proofs.Common.{◌≡◌, ℕ, None, sym, ap, subst, ◌∙◌}
use Rattle.std.specs.Option.{option_and_then}
use Rattle.std.specs.Prelude.{Contains}
use Rattle.hive_cells.specs.Held.{held_at}
use Rattle.hive_edit.specs.Given.{place_in}
use Rattle.hive_edit.specs.Hive.{cells_in}
use Rattle.hive_look.specs.Places.{data_places, value_place}
use Rattle.hive_edit.proofs.NewValueLemmas.{placed_in}
use Rattle.hive_look.proofs.ResultLemmas.{some, some_same}
use Rattle.hive_edit.proofs.hive.HiveBytes.set_at.Goals as goal
use Rattle.hive_edit.proofs.hive.HiveBytes.set_at.Goals.{In-Some}

placed : (c : In-Some) → let h = c.args.self.now in
    place_in (cells_in h) c.args.path.now c.args.name.now h.root ≡ some c.in-Some.at
placed c =
    placed_in c.args.self.now c.args.path.now c.args.name.now c.args.place.key c.in-Some.at c.requires.may.key
    (sym c.in-Some.is ∙ c.requires.may.there)

pub put_new-requires-clause-new : goal.put_new-requires-clause-new
put_new-requires-clause-new c =
    let may = c.requires.may in
    record { key = may.key; absent = sym may.there ∙ c.in-None.is; short = may.short }

pub give_there-requires-clause-there : goal.give_there-requires-clause-there
give_there-requires-clause-there c = placed (goal.at.give_there-requires-clause-there c).In-Some

pub returns-in-None-clause-freed : goal.returns-in-None-clause-freed
returns-in-None-clause-freed c = λ yes at there.
    let may = c.requires.may in
    let none = ap (option_and_then (value_place (cells_in c.args.self.now) c.args.name.now)) may.key
    ∙ sym may.there ∙ c.in-None.is in
    absurd (let e = sym none ∙ there in cc)

pub returns-in-Some-clause-freed : goal.returns-in-Some-clause-freed
returns-in-Some-clause-freed c = λ yes at there.
    let here = placed (goal.at.returns-in-Some-clause-freed c).In-Some in
    subst (λ (k : ℕ). (o : ℕ) → Contains (data_places (cells_in c.args.self.now) k) o
    → held_at c.give_there.new.self.bins o ≡ None)
    (some_same c.in-Some.at at (sym here ∙ there)) (c.give_there.ensures.freed yes)
