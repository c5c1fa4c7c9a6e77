use Rattle.std.proofs.Common.{◌≡◌, ◌++◌, ◌∙◌, ℕ, true, List, [], refl, rules, sym, ap}
use Rattle.std.proofs.lemmas.List.{append-nil}
use Rattle.nt_bytes.specs.declared.fault.HiveFault.{HiveFault}
use Rattle.hive_model.specs.Bins.{spelled}
use Rattle.hive_model.specs.Load.{LoadFault}
use Rattle.hive_model.specs.Recovery.{Recovered, bit}
use Rattle.hive_commit.specs.Calls.{closing_calls}
use Rattle.hive_commit.proofs.RecoveryCalls.{only_read, read_then, restored_front, restored_all, clean_all}
use Rattle.nt_edge.specs.Calls.{reads_of}
use Rattle.nt_edge.specs.Crash.{EachCrash}
use Rattle.nt_edge.specs.Disk.{DiskState}
use Rattle.hive_commit.specs.Alone.{KeepsAll}
use Rattle.hive_commit.specs.Cuts.{IsCutOfRestoring}
use Rattle.hive_commit.proofs.Rest.{all_kept, all_restored}
use Rattle.hive_store.specs.Session.{Session}
use Rattle.hive_store.specs.Loading.{loaded_state}
use Rattle.hive_store.proofs.LoadingLemmas.{loads_or_fails, kept_loads, restored_loads, found_again}
use Rattle.hive_store.proofs.LoadingCalls.{stopped_look, stopped_restore}
use Rattle.hive_store.proofs.hive.Hive.load_judged.Given.{Over}
use Rattle.hive_store.proofs.hive.Hive.load_judged.Goals as goal
use Rattle.hive_store.proofs.hive.Hive.load_judged.Goals.{After-look, In_ok-hive, After-hive, then-dirty+in_ok-restore, else-dirty}

-- what was read, as what is recovered
abbrev seen : (g : Over) → In_ok-hive g → Recovered
seen g c =
    let looked = c.in_ok-hive.field-0 in
    record { base = looked.hive.base; bins = looked.hive.bins; dirty = looked.dirty }

-- a hive that loads has no fault
no_fault : (g : Over) (c : In_ok-hive g) → g.D.Disk.tells ≡ true → (fault : HiveFault)
    → LoadFault (g.D.Disk.state c.args.disk.now).held fault → ⊥
no_fault g c tells fault =
    loads_or_fails (g.D.Disk.state c.args.disk.now).held (loaded_state c.in_ok-hive.field-0.hive)
    c.in_ok-hive.field-0.dirty fault (c.in_ok-hive.ensures.exact tells)

-- the bytes of the cells are the bins data that were read
bins_read : (g : Over) (c : After-hive g) (bins : List ℕ) → bins ≡ spelled 0 c.hive.inside.cells.bins
    → bins ≡ c.in_ok-hive.field-0.hive.bins
bins_read g c bins is =
    is ∙ ap (λ (s : Session). spelled 0 s.cells.bins) c.hive.view_is ∙ c.in_ok-hive.ensures.cells.bytes

-- where nothing was written, a cut keeps all
kept_all : (g : Over) (c : After-look g) → g.D.Disk.tells ≡ true
    → KeepsAll (g.D.Disk.state c.args.disk.now) (g.D.Disk.state c.look.new.disk)
kept_all g c tells =
    all_kept (g.D.Disk.state c.args.disk.now) (g.D.Disk.state c.look.new.disk) (c.look.ensures.look.held tells)
    (c.look.ensures.look.flight tells ∙ c.requires.still tells)

-- and where what was read was given to the restoring
kept_restored : (g : Over) (c : After-hive g) (bins : List ℕ) → bins ≡ spelled 0 c.hive.inside.cells.bins
    → g.D.Disk.tells ≡ true → (now : DiskState)
    → EachCrash now (IsCutOfRestoring (g.D.Disk.state c.look.new.disk).held c.hive.inside.base bins)
    → KeepsAll (g.D.Disk.state c.args.disk.now) now
kept_restored g c bins is tells now cut =
    let here = (goal.at.After-hive g c).In_ok-hive in
    all_restored (g.D.Disk.state c.args.disk.now) (g.D.Disk.state c.look.new.disk) now (seen g here)
    c.hive.inside.base bins (c.look.ensures.look.held tells) (c.in_ok-hive.ensures.recovered tells)
    (ap (λ (s : Session). s.base) c.hive.view_is) (bins_read g c bins is) cut

pub returns-in_err-hive-clause-cut : goal.returns-in_err-hive-clause-cut
returns-in_err-hive-clause-cut g c = kept_all g (goal.at.returns-in_err-hive-clause-cut g c).After-look

pub returns-in_err-restore-clause-cut : goal.returns-in_err-restore-clause-cut
returns-in_err-restore-clause-cut g c = λ tells.
    kept_restored g (goal.at.returns-in_err-restore-clause-cut g c).After-hive c.bytes-bins.result.now
    c.bytes-bins.ensures.exact tells (g.D.Disk.state c.restore.new.disk) (c.restore.ensures.cut tells)

pub returns-clause-cut : goal.returns-clause-cut
returns-clause-cut g c = λ tells.
    elim c.if-dirty.branch [
      | then-dirty+in_ok-restore w ↦ rw w.disk-is
          (kept_restored g (goal.at.returns-clause-cut g c).After-hive w.bytes-bins.result.now
          w.bytes-bins.ensures.exact tells (g.D.Disk.state w.restore.new.disk) (w.restore.ensures.cut tells))
      | else-dirty w ↦ rw w.disk-is (kept_all g (goal.at.returns-clause-cut g c).After-look tells)
    ]

pub returns-in_err-hive-clause-made : goal.returns-in_err-hive-clause-made
returns-in_err-hive-clause-made g c =
    let asked = c.in_err-hive.ensures.asked in
    only_read (g.D.Disk.calls c.args.disk.now) (g.D.Disk.calls c.look.new.disk) _ asked.sectors asked.made
    (λ tells. stopped_look (g.D.Disk.state c.args.disk.now).held c.from_residual.result c.in_err-hive.field-0.0
    asked.sectors c.from_residual.ensures.1 (asked.are tells))

pub returns-in_err-restore-clause-made : goal.returns-in_err-restore-clause-made
returns-in_err-restore-clause-made g c =
    let view = seen g (goal.at.returns-in_err-restore-clause-made g c).In_ok-hive in
    let asked = c.in_ok-hive.ensures.asked in
    let bitmap = c.as_slice.result.now in
    let bins = c.bytes-bins.result.now in
    let made = c.in_err-restore.ensures.made in
    read_then (g.D.Disk.calls c.args.disk.now) (g.D.Disk.calls c.look.new.disk) _ asked.sectors asked.made
    (g.D.Disk.calls c.restore.new.disk) c.hive.inside.base (bit bitmap) bins made
    (λ tells. stopped_restore (g.D.Disk.state c.args.disk.now).held c.from_residual-in_err-restore.result
    c.in_err-restore.field-0.0
    (reads_of asked.sectors ++ made.front) c.from_residual-in_err-restore.ensures.1
    (restored_front _ asked.sectors (asked.are tells) view (c.in_ok-hive.ensures.recovered tells)
    c.hive.inside.base bitmap bins c.in_ok-hive.field-0.bitmap c.if-dirty.true (c.in_ok-hive.ensures.found tells c.if-dirty.true)
    (ap (λ (s : Session). s.base) c.hive.view_is) c.as_slice.ensures
    (bins_read g (goal.at.returns-in_err-restore-clause-made g c).After-hive bins c.bytes-bins.ensures.exact)
    made.front (record { rest = made.rest; cut = made.cut }))
    (no_fault g (goal.at.returns-in_err-restore-clause-made g c).In_ok-hive tells))

pub returns-clause-made : goal.returns-clause-made
returns-clause-made g c =
    let start = g.D.Disk.calls c.args.disk.now in
    let one = g.D.Disk.calls c.look.new.disk in
    let image = (g.D.Disk.state c.args.disk.now).held in
    let view = seen g (goal.at.returns-clause-made g c).In_ok-hive in
    let asked = c.in_ok-hive.ensures.asked in
    elim c.if-dirty.branch [
      | then-dirty+in_ok-restore w ↦
          let closed = c.hive.inside.base in
          let bitmap = w.as_slice.result.now in
          let bins = w.bytes-bins.result.now in
          let calls = closing_calls closed (bit bitmap) bins in
          rw w.disk-is
          (read_then start one _ asked.sectors asked.made (g.D.Disk.calls w.restore.new.disk) closed (bit bitmap) bins
          (record { front = calls; rest = []; cut = sym (append-nil calls); made = w.in_ok-restore.ensures.made })
          (λ tells. restored_all image asked.sectors (asked.are tells) view (c.in_ok-hive.ensures.recovered tells)
          closed bitmap bins c.in_ok-hive.field-0.bitmap w.if-dirty.true
          (c.in_ok-hive.ensures.found tells w.if-dirty.true)
          (ap (λ (s : Session). s.base) c.hive.view_is) w.as_slice.ensures
          (bins_read g (goal.at.returns-clause-made g c).After-hive bins w.bytes-bins.ensures.exact)))
      | else-dirty w ↦ rw w.disk-is
          (only_read start one _ asked.sectors asked.made
          (λ tells. clean_all image asked.sectors (asked.are tells) view (c.in_ok-hive.ensures.recovered tells)
          w.if-dirty.false))
    ]

pub returns-in_err-hive-clause-crash : goal.returns-in_err-hive-clause-crash
returns-in_err-hive-clause-crash g c = λ tells.
    kept_loads (g.D.Disk.state c.args.disk.now) (g.D.Disk.state c.look.new.disk) (c.look.ensures.look.held tells)
    (c.look.ensures.look.flight tells ∙ c.requires.still tells)

pub returns-in_err-restore-clause-crash : goal.returns-in_err-restore-clause-crash
returns-in_err-restore-clause-crash g c = λ tells.
    restored_loads (g.D.Disk.state c.args.disk.now).held
    (seen g (goal.at.returns-in_err-restore-clause-crash g c).In_ok-hive) (c.in_ok-hive.ensures.recovered tells)
    c.hive.inside.base c.bytes-bins.result.now (ap (λ (s : Session). s.base) c.hive.view_is)
    (bins_read g (goal.at.returns-in_err-restore-clause-crash g c).After-hive _ c.bytes-bins.ensures.exact)
    (g.D.Disk.state c.restore.new.disk) (λ cut left. (c.restore.ensures.cut tells cut left).recovered)

pub returns-clause-crash : goal.returns-clause-crash
returns-clause-crash g c = λ tells.
    let s0 = g.D.Disk.state c.args.disk.now in
    elim c.if-dirty.branch [
      | then-dirty+in_ok-restore w ↦ rw w.disk-is
          (restored_loads s0.held (seen g (goal.at.returns-clause-crash g c).In_ok-hive)
          (c.in_ok-hive.ensures.recovered tells)
          c.hive.inside.base w.bytes-bins.result.now (ap (λ (s : Session). s.base) c.hive.view_is)
          (bins_read g (goal.at.returns-clause-crash g c).After-hive _ w.bytes-bins.ensures.exact)
          (g.D.Disk.state w.restore.new.disk) (λ cut left. (w.restore.ensures.cut tells cut left).recovered))
      | else-dirty w ↦ rw w.disk-is
          (kept_loads s0 (g.D.Disk.state c.look.new.disk) (c.look.ensures.look.held tells)
          (c.look.ensures.look.flight tells ∙ c.requires.still tells))
    ]

pub returns-clause-loaded : goal.returns-clause-loaded
returns-clause-loaded g c =
    let s0 = g.D.Disk.state c.args.disk.now in
    let looked = c.in_ok-hive.field-0 in
    record {
      recovered = search rules;
      unchanged = search rules;
      cells = search rules;
      clean = record { on = search rules; still = search rules; carries = search rules };
      loads = λ tells.
          let found = found_again s0.held (loaded_state looked.hive) looked.dirty
          (seen g (goal.at.returns-clause-loaded g c).In_ok-hive)
          (c.in_ok-hive.ensures.exact tells) (c.in_ok-hive.ensures.recovered tells) c.in_ok-hive.ensures.sized in
          elim c.if-dirty.branch [
            | then-dirty+in_ok-restore w ↦ rw w.disk-is
                (found c.hive.inside.base w.bytes-bins.result.now (ap (λ (s : Session). s.base) c.hive.view_is)
                (bins_read g (goal.at.returns-clause-loaded g c).After-hive _ w.bytes-bins.ensures.exact)
                (g.D.Disk.state w.restore.new.disk).held (w.in_ok-restore.ensures.clean.carries tells))
            | else-dirty w ↦ rw (w.disk-is, c.look.ensures.look.held tells)
                (found looked.hive.base looked.hive.bins refl refl s0.held
                (c.in_ok-hive.ensures.carries tells w.if-dirty.false))
          ];
    }

pub returns-in_err-restore-clause-written : goal.returns-in_err-restore-clause-written
returns-in_err-restore-clause-written g c = record {
  clean = search rules;
  faulty = λ tells fault fails. absurd
      (no_fault g (goal.at.returns-in_err-restore-clause-written g c).In_ok-hive tells fault fails);
  unwritten = search rules;
}

pub returns-clause-written : goal.returns-clause-written
returns-clause-written g c = record {
  clean = search rules;
  faulty = λ tells fault fails. absurd (no_fault g (goal.at.returns-clause-written g c).In_ok-hive tells fault fails);
  unwritten = search rules;
}
