use Rattle.std.proofs.Common.{◌≡◌, ◌++◌, List, ℕ, [], ◌∷◌, take, true, IfOk, sym, ap, ◌∙◌, subst}
use Rattle.windows_logs.specs.log_parts.Filled.{filled}
use Rattle.hive_model.specs.Base.{Base}
use Rattle.log_replay.specs.declared.line.ReplayLine.{ReplayLine}
use Rattle.log_replay.specs.declared.line.ReplayLine.TheVariants.{Sequence}
use Rattle.log_replay.specs.declared.entries.HiveNow.{HiveNow}
use Rattle.log_replay.specs.declared.replaying.Outcome.{Outcome}
use Rattle.log_replay.specs.Reading.{readings_lines}
use Rattle.log_replay.specs.Entries.{most, replayed_by}
use Rattle.log_replay.specs.Old.{chosen_old}
use Rattle.log_replay.specs.Replay.{begun, by_old, dirty_of}
use Rattle.log_replay.proofs.Going.{unchanged}
use Rattle.log_replay.proofs.Ending.{dirty_zero}
use Rattle.log_replay.proofs.replaying.dirty.Goals as goal

pub by_old-requires-clause-same : goal.by_old-requires-clause-same
by_old-requires-clause-same c =
    let now = c.in_ok-replay_entries.ensures.hive ∙ ap (λ (b : Base). (replayed_by c.args.logs.now (begun c.args.file b)).hive) c.hive.view_is in
    let same_file : c.replay_entries.new.hive.file ≡ c.args.file =
    ap (λ (h : HiveNow). h.file) (now ∙ unchanged most c.args.logs.now (begun c.args.file c.args.hive.now)
    (ap (λ (h : HiveNow). h.applied) (sym now) ∙ c.if-now-eq0.true)) in
    subst (λ (f : List ℕ). filled (take c.args.count f) ≡ f) (sym same_file) c.requires.same

pub returns-then-now-eq0 : goal.returns-then-now-eq0
returns-then-now-eq0 c =
    let logs = c.args.logs.now in
    let file = c.args.file in
    let count = c.args.count in
    let hive = c.args.hive.now in
    let now = c.in_ok-replay_entries.ensures.hive ∙ ap (λ (b : Base). (replayed_by logs (begun file b)).hive) c.hive.view_is in
    let same_file : c.replay_entries.new.hive.file ≡ file =
    ap (λ (h : HiveNow). h.file) (now ∙ unchanged most logs (begun file hive)
    (ap (λ (h : HiveNow). h.applied) (sym now) ∙ c.if-now-eq0.true)) in
    let seen : Base = record {
      first = c.hive.inside.first;
      second = c.hive.inside.second;
      stamp = c.hive.inside.stamp;
      minor = c.hive.inside.minor;
      kind = c.hive.inside.kind;
      root = c.hive.inside.root;
      size = c.hive.inside.size;
      cluster = c.hive.inside.cluster;
      name = c.hive.inside.name;
      rest = c.hive.inside.rest;
    } in
    let L : Base → Type 0 = λ b. c.replay_entries.new.lines ≡ (Sequence b.first b.second true ∷ readings_lines logs) ++ (replayed_by logs (begun file b)).lines in
    let said : c.push_readings.new.lines ≡ Sequence c.hive.inside.first c.hive.inside.second true ∷ readings_lines logs =
    c.in_ok-push_readings.ensures ∙ ap (λ (l : List ReplayLine). l ++ readings_lines logs) (c.in_ok-push.ensures.ok
    ∙ ap (λ (l : List ReplayLine). l ++ Sequence c.hive.inside.first c.hive.inside.second true ∷ []) c.new-lines.ensures) in
    let lines = subst L c.hive.view_is (c.in_ok-replay_entries.ensures.lines
    ∙ ap (λ (l : List ReplayLine). l ++ (replayed_by logs (begun file seen)).lines) said) in
    let whole : by_old (take count c.replay_entries.new.hive.file) hive c.replay_entries.new.lines (chosen_old logs hive.first) ≡ dirty_of (take count file) hive logs =
    ap (λ (f : List ℕ). by_old (take count f) hive c.replay_entries.new.lines (chosen_old logs hive.first)) same_file
    ∙ dirty_zero (take count file) file hive logs c.replay_entries.new.hive c.replay_entries.new.lines c.requires.same now lines c.if-now-eq0.true in
    let P : Outcome → Type 0 = λ wanted. IfOk c.by_old.result (λ outcome. outcome ≡ wanted) in
    subst P whole c.by_old.ensures
