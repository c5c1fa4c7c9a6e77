use Rattle.std.proofs.Common.{ℕ, List, length, sym, ap, ◌∙◌, arith}
use Rattle.hive_edit.proofs.AskedLemmas.{Lent, Good, asks_no_key, asks_bad_name, asks_long, asks_deep, asks_there, asks_open, already_told}
use Rattle.hive_edit.proofs.hive.HiveBytes.open_place.Goals as goal
use Rattle.hive_edit.proofs.hive.HiveBytes.open_place.Goals.{After-cells, Else-as_slice-gt-MOST_PARENTS}

lent : (c : After-cells) → let i = c.self.inside in
    Lent i.cells c.cells.result.now i.root i.version i.bulk c.args.self.now
lent c = record { is = c.self.invariant; same = c.cells.ensures; view = c.self.view_is }

good : (c : Else-as_slice-gt-MOST_PARENTS) → let i = c.self.inside in
    Good i.cells c.cells.result.now i.root i.version i.bulk c.args.self.now c.args.parent.now c.args.name.now c.in-Some.at
good c = record {
  lent = lent (goal.at.Else-as_slice-gt-MOST_PARENTS c).After-cells;
  place = c.in-Some.ensures.place;
  good = sym c.is_bad_name.ensures ∙ c.if-is_bad_name.false;
  short = omega (arith, c.if-name-gt-LONGEST_KEY_NAME.false);
  deep = omega (arith, c.if-as_slice-gt-MOST_PARENTS.false, ap (λ (l : List _). length l) c.as_slice.ensures);
}

pub returns-in-None : goal.returns-in-None
returns-in-None c = record {
  judged = asks_no_key _ _ _ _ _ _ c.args.parent.now c.args.name.now (lent (goal.at.returns-in-None c).After-cells)
      c.in-None.ensures.place;
}

pub returns-then-is_bad_name : goal.returns-then-is_bad_name
returns-then-is_bad_name c = record {
  judged = asks_bad_name _ _ _ _ _ _ c.args.parent.now c.args.name.now c.in-Some.at
      (lent (goal.at.returns-then-is_bad_name c).After-cells) c.in-Some.ensures.place
      (sym c.is_bad_name.ensures ∙ c.if-is_bad_name.true);
}

pub returns-then-name-gt-LONGEST_KEY_NAME : goal.returns-then-name-gt-LONGEST_KEY_NAME
returns-then-name-gt-LONGEST_KEY_NAME c = record {
  judged = asks_long _ _ _ _ _ _ c.args.parent.now c.args.name.now c.in-Some.at
      (lent (goal.at.returns-then-name-gt-LONGEST_KEY_NAME c).After-cells) c.in-Some.ensures.place
      (sym c.is_bad_name.ensures ∙ c.if-is_bad_name.false)
      (omega (arith, c.if-name-gt-LONGEST_KEY_NAME.true));
}

pub returns-then-as_slice-gt-MOST_PARENTS : goal.returns-then-as_slice-gt-MOST_PARENTS
returns-then-as_slice-gt-MOST_PARENTS c = record {
  judged = asks_deep _ _ _ _ _ _ c.args.parent.now c.args.name.now c.in-Some.at
      (lent (goal.at.returns-then-as_slice-gt-MOST_PARENTS c).After-cells) c.in-Some.ensures.place
      (sym c.is_bad_name.ensures ∙ c.if-is_bad_name.false) (omega (arith, c.if-name-gt-LONGEST_KEY_NAME.false))
      (omega (arith, c.if-as_slice-gt-MOST_PARENTS.true, ap (λ (l : List (List ℕ)). length l) c.as_slice.ensures));
}

pub returns-then-is_some : goal.returns-then-is_some
returns-then-is_some c = record {
  judged = already_told c.self.inside.cells c.self.inside.root c.self.inside.version c.self.inside.bulk
      c.args.self.now c.args.parent.now c.args.name.now c.self.invariant c.self.view_is
      (asks_there _ _ _ _ _ _ _ _ _ (good (goal.at.returns-then-is_some c).Else-as_slice-gt-MOST_PARENTS)
      c.child_at.result c.child_at.ensures.place (sym c.is_some.ensures ∙ c.if-is_some.true));
}

pub returns : goal.returns
returns c = record {
  judged = asks_open _ _ _ _ _ _ _ _ _ (good (goal.at.returns c).Else-as_slice-gt-MOST_PARENTS)
      c.child_at.result c.child_at.ensures.place (sym c.is_some.ensures ∙ c.if-is_some.false);
}
