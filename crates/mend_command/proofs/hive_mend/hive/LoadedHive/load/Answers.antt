use Rattle.std.proofs.Common.{◌≡◌, ◌++◌, ◌∙◌, true, [], refl, rules, sym, ap}
use Rattle.std.proofs.lemmas.List.{append-nil}
use Rattle.nt_bytes.specs.declared.fault.HiveFault.{HiveFault}
use Rattle.hive_model.specs.Load.{LoadFault}
use Rattle.hive_model.specs.Recovery.{Recovered, bit}
use Rattle.nt_edge.specs.Calls.{reads_of}
use Rattle.hive_commit.specs.Alone.{KeepsAll}
use Rattle.hive_commit.specs.Calls.{closing_calls}
use Rattle.hive_commit.proofs.RecoveryCalls.{only_read, read_then, restored_front, restored_all, clean_all}
use Rattle.hive_commit.proofs.Rest.{all_kept, all_restored}
use Rattle.mend_command.specs.hive_mend.Loaded.{Loaded, loaded_state}
use Rattle.hive_store.proofs.LoadingLemmas.{loads_or_fails, found_again}
use Rattle.mend_command.proofs.MendingLemmas.{keeps_hive}
use Rattle.mend_command.proofs.LoadingCalls.{stopped_look, stopped_restore}
use Rattle.mend_command.proofs.hive_mend.hive.LoadedHive.load.Given.{Over}
use Rattle.mend_command.proofs.hive_mend.hive.LoadedHive.load.Goals as goal
use Rattle.mend_command.proofs.hive_mend.hive.LoadedHive.load.Goals.{In_ok-hive, After-hive, After-read_unmended, After-restore, After-drop-bitmap-inside-2, then-dirty+in_ok-restore, else-dirty}

-- what was read, as what is recovered
abbrev seen : (g : Over) → In_ok-hive g → Recovered
seen g c =
    let looked = c.in_ok-hive.field-0 in
    record { base = looked.hive.base; bins = looked.hive.bins; dirty = looked.dirty }

-- a hive that loads has no fault
no_fault : (g : Over) (c : In_ok-hive g) → g.D.Disk.tells ≡ true → (fault : HiveFault)
    → LoadFault (g.D.Disk.state c.args.disk.now).held fault → ⊥
no_fault g c tells fault =
    loads_or_fails (g.D.Disk.state c.args.disk.now).held (loaded_state c.in_ok-hive.field-0.hive)
    c.in_ok-hive.field-0.dirty fault (c.in_ok-hive.ensures.exact tells).loads

-- its bins data are those that were read
bins_read : (g : Over) (c : After-hive g) → c.hive.inside.bins ≡ c.in_ok-hive.field-0.hive.bins
bins_read g c = ap (λ (h : Loaded). h.bins) c.hive.view_is

-- what a cut keeps: where nothing was written yet, after a restoring that stopped, and at the end
unwritten : (g : Over) (c : After-read_unmended g) → g.D.Disk.tells ≡ true
    → KeepsAll (g.D.Disk.state c.args.disk.now) (g.D.Disk.state c.read_unmended.new.disk)
unwritten g c tells =
    let look = c.read_unmended.ensures.look in
    all_kept _ _ (look.held tells) (look.flight tells ∙ c.requires.still tells)

stopped : (g : Over) (c : After-restore g) → g.D.Disk.tells ≡ true
    → KeepsAll (g.D.Disk.state c.args.disk.now) (g.D.Disk.state c.restore.new.disk)
stopped g c tells =
    all_restored _ (g.D.Disk.state c.read_unmended.new.disk) _ (seen g (goal.at.After-restore g c).In_ok-hive)
    c.hive.inside.base c.as_slice-then-dirty.result.now (c.read_unmended.ensures.look.held tells)
    (c.in_ok-hive.ensures.exact tells).recovered (ap (λ (h : Loaded). h.base) c.hive.view_is)
    (c.as_slice-then-dirty.ensures ∙ bins_read g (goal.at.After-restore g c).After-hive) (c.restore.ensures.cut tells)

ended : (g : Over) (c : After-drop-bitmap-inside-2 g) → g.D.Disk.tells ≡ true
    → KeepsAll (g.D.Disk.state c.args.disk.now) (g.D.Disk.state c.if-dirty.disk)
ended g c tells = elim c.if-dirty.branch [
  | then-dirty+in_ok-restore w ↦ rw w.disk-is
      (all_restored _ (g.D.Disk.state c.read_unmended.new.disk) _ (seen g (goal.at.After-drop-bitmap-inside-2 g c).In_ok-hive)
      c.hive.inside.base w.as_slice-then-dirty.result.now (c.read_unmended.ensures.look.held tells)
      (c.in_ok-hive.ensures.exact tells).recovered (ap (λ (h : Loaded). h.base) c.hive.view_is)
      (w.as_slice-then-dirty.ensures ∙ bins_read g (goal.at.After-drop-bitmap-inside-2 g c).After-hive) (w.restore.ensures.cut tells))
  | else-dirty w ↦ rw w.disk-is (unwritten g (goal.at.After-drop-bitmap-inside-2 g c).After-read_unmended tells)
]

pub returns-in_err-hive-clause-made : goal.returns-in_err-hive-clause-made
returns-in_err-hive-clause-made g c =
    let asked = c.in_err-hive.ensures.asked in
    only_read (g.D.Disk.calls c.args.disk.now) (g.D.Disk.calls c.read_unmended.new.disk) _ asked.sectors asked.made
    (λ tells. stopped_look (g.D.Disk.state c.args.disk.now).held c.from_residual.result c.in_err-hive.field-0.0
    asked.sectors c.from_residual.ensures.1 (asked.are tells))

pub returns-in_err-restore-clause-made : goal.returns-in_err-restore-clause-made
returns-in_err-restore-clause-made g c =
    let view = seen g (goal.at.returns-in_err-restore-clause-made g c).In_ok-hive in
    let asked = c.in_ok-hive.ensures.asked in
    let bitmap = c.as_slice.result.now in
    let bins = c.as_slice-then-dirty.result.now in
    let made = c.in_err-restore.ensures.made in
    read_then (g.D.Disk.calls c.args.disk.now) (g.D.Disk.calls c.read_unmended.new.disk) _ asked.sectors asked.made
    (g.D.Disk.calls c.restore.new.disk) c.hive.inside.base (bit bitmap) bins made
    (λ tells. stopped_restore (g.D.Disk.state c.args.disk.now).held c.from_residual-in_err-restore.result
    c.in_err-restore.field-0.0
    (reads_of asked.sectors ++ made.front) c.from_residual-in_err-restore.ensures.1
    (restored_front _ asked.sectors (asked.are tells) view (c.in_ok-hive.ensures.exact tells).recovered
    c.hive.inside.base bitmap bins c.in_ok-hive.field-0.bitmap c.if-dirty.true (c.in_ok-hive.ensures.dirty tells c.if-dirty.true)
    (ap (λ (h : Loaded). h.base) c.hive.view_is) c.as_slice.ensures
    (c.as_slice-then-dirty.ensures ∙ bins_read g (goal.at.returns-in_err-restore-clause-made g c).After-hive)
    made.front (record { rest = made.rest; cut = made.cut }))
    (no_fault g (goal.at.returns-in_err-restore-clause-made g c).In_ok-hive tells))

pub returns-clause-made : goal.returns-clause-made
returns-clause-made g c =
    let start = g.D.Disk.calls c.args.disk.now in
    let one = g.D.Disk.calls c.read_unmended.new.disk in
    let image = (g.D.Disk.state c.args.disk.now).held in
    let view = seen g (goal.at.returns-clause-made g c).In_ok-hive in
    let asked = c.in_ok-hive.ensures.asked in
    elim c.if-dirty.branch [
      | then-dirty+in_ok-restore w ↦
          let closed = c.hive.inside.base in
          let bitmap = w.as_slice.result.now in
          let bins = w.as_slice-then-dirty.result.now in
          let calls = closing_calls closed (bit bitmap) bins in
          rw w.disk-is
          (read_then start one _ asked.sectors asked.made (g.D.Disk.calls w.restore.new.disk) closed (bit bitmap) bins
          (record { front = calls; rest = []; cut = sym (append-nil calls); made = w.in_ok-restore.ensures.made })
          (λ tells. restored_all image asked.sectors (asked.are tells) view (c.in_ok-hive.ensures.exact tells).recovered
          closed bitmap bins c.in_ok-hive.field-0.bitmap w.if-dirty.true
          (c.in_ok-hive.ensures.dirty tells w.if-dirty.true)
          (ap (λ (h : Loaded). h.base) c.hive.view_is) w.as_slice.ensures
          (w.as_slice-then-dirty.ensures ∙ bins_read g (goal.at.returns-clause-made g c).After-hive)))
      | else-dirty w ↦ rw w.disk-is
          (only_read start one _ asked.sectors asked.made
          (λ tells. clean_all image asked.sectors (asked.are tells) view (c.in_ok-hive.ensures.exact tells).recovered
          w.if-dirty.false))
    ]

pub returns-in_err-hive-clause-cut : goal.returns-in_err-hive-clause-cut
returns-in_err-hive-clause-cut g c = λ tells.
    keeps_hive _ _ (unwritten g (goal.at.returns-in_err-hive-clause-cut g c).After-read_unmended tells)

pub returns-in_err-restore-clause-cut : goal.returns-in_err-restore-clause-cut
returns-in_err-restore-clause-cut g c = λ tells.
    keeps_hive _ _ (stopped g (goal.at.returns-in_err-restore-clause-cut g c).After-restore tells)

pub returns-clause-cut : goal.returns-clause-cut
returns-clause-cut g c = λ tells.
    keeps_hive _ _ (ended g (goal.at.returns-clause-cut g c).After-drop-bitmap-inside-2 tells)

pub returns-clause-stands : goal.returns-clause-stands
returns-clause-stands g c =
    let s0 = g.D.Disk.state c.args.disk.now in
    let view = seen g (goal.at.returns-clause-stands g c).In_ok-hive in
    record {
      clean = record { on = search rules; still = search rules; carries = search rules };
      loads = λ tells.
          let is = c.in_ok-hive.ensures.exact tells in
          let found = found_again s0.held (loaded_state c.in_ok-hive.field-0.hive)
          view.dirty view is.loads is.recovered c.in_ok-hive.ensures.sized in
          elim c.if-dirty.branch [
            | then-dirty+in_ok-restore w ↦ rw w.disk-is
                (found c.hive.inside.base w.as_slice-then-dirty.result.now (ap (λ (h : Loaded). h.base) c.hive.view_is)
                (w.as_slice-then-dirty.ensures ∙ bins_read g (goal.at.returns-clause-stands g c).After-hive)
                (g.D.Disk.state w.restore.new.disk).held (w.in_ok-restore.ensures.clean.carries tells))
            | else-dirty w ↦ rw (w.disk-is, c.read_unmended.ensures.look.held tells)
                (found view.base view.bins refl refl s0.held
                (c.in_ok-hive.ensures.carries tells w.if-dirty.false))
          ];
    }

pub returns-in_err-restore-clause-written : goal.returns-in_err-restore-clause-written
returns-in_err-restore-clause-written g c = record {
  clean = search rules;
  faulty = λ tells fault fails. absurd
      (no_fault g (goal.at.returns-in_err-restore-clause-written g c).In_ok-hive tells fault fails);
  unwritten = search rules;
}

pub returns-clause-written : goal.returns-clause-written
returns-clause-written g c = record {
  clean = search rules;
  faulty = λ tells fault fails. absurd (no_fault g (goal.at.returns-clause-written g c).In_ok-hive tells fault fails);
  unwritten = search rules;
}
