use Rattle.std.proofs.Common.{◌++◌, [], sym, ◌∙◌, ap, subst}
use Rattle.std.proofs.lemmas.List.{append-nil}
use Rattle.hive_model.specs.Image.{Image}
use Rattle.hive_model.specs.Recovery.{Recovered}
use Rattle.nt_edge.specs.Calls.{reads_of}
use Rattle.hive_alt.specs.Calls.{mend_calls}
use Rattle.hive_alt.specs.Copies.{IsPair}
use Rattle.hive_alt.specs.Twin.{twin_of}
use Rattle.hive_alt.proofs.KeptLemmas.{kept_still, kept_mended}
use Rattle.hive_alt.proofs.LoadCalls.{only_read, read_then, stopped_look, stopped_mend, clean_all, mended_all, mended_front}
use Rattle.hive_alt.proofs.LoadLemmas.{seen_as, good_first, good_second, behind_given, pair_as, no_repair}
use Rattle.hive_alt.proofs.mending.load_pair.Goals as goal
use Rattle.hive_alt.proofs.mending.load_pair.Goals.{then-found+in_ok-mend, else-found}

pub mend-requires-clause-first : goal.mend-requires-clause-first
mend-requires-clause-first g c = λ tells.
    good_first (seen_as c.found.view_is (c.in_ok-found.ensures.stands tells)) (c.read_pair.ensures.look.held tells)
    c.as_slice.ensures

pub mend-requires-clause-behind : goal.mend-requires-clause-behind
mend-requires-clause-behind g c = λ tells.
    behind_given (seen_as c.found.view_is (c.in_ok-found.ensures.stands tells)) (c.read_pair.ensures.look.held tells)
    c.as_slice.ensures

pub mend-requires-clause-second : goal.mend-requires-clause-second
mend-requires-clause-second g c = λ tells.
    good_second (seen_as c.found.view_is (c.in_ok-found.ensures.stands tells)) (c.read_pair.ensures.look.held tells)
    c.as_slice.ensures

pub returns-in_err-found-clause-made : goal.returns-in_err-found-clause-made
returns-in_err-found-clause-made g c =
    only_read c.read_pair.ensures.asked _
    (λ tells. stopped_look (g.D.Disk.state c.args.disk.now).held c.from_residual.result c.in_err-found.field-0.0
    c.read_pair.ensures.asked.sectors c.from_residual.ensures.1 (c.in_err-found.ensures.fault tells))

pub returns-in_err-mend-clause-made : goal.returns-in_err-mend-clause-made
returns-in_err-mend-clause-made g c =
    let reads = c.read_pair.ensures.asked.sectors in
    let made = c.in_err-mend.ensures.made in
    read_then c.read_pair.ensures.asked _ (g.D.Disk.calls c.mend.new.disk) c.in_ok-found.field-0.second
    c.found.inside.base c.as_slice.result.now made
    (λ tells. stopped_mend (g.D.Disk.state c.args.disk.now).held c.from_residual-in_err-mend.result
    c.in_err-mend.field-0.0 (reads_of reads ++ made.front) c.from_residual-in_err-mend.ensures.1
    (mended_front _ (seen_as c.found.view_is (c.in_ok-found.ensures.stands tells)) reads c.if-found.true
    c.as_slice.result.now c.as_slice.ensures made))

pub returns-clause-made : goal.returns-clause-made
returns-clause-made g c =
    let asked = c.read_pair.ensures.asked in
    elim c.if-found.branch [
      | then-found+in_ok-mend w ↦
          let base = c.found.inside.base in
          let bins = w.as_slice.result.now in
          let calls = mend_calls c.in_ok-found.field-0.second base bins in
          rw w.disk-is
          (read_then asked _ (g.D.Disk.calls w.mend.new.disk) c.in_ok-found.field-0.second base bins
          (record { front = calls; rest = []; cut = sym (append-nil calls); made = w.in_ok-mend.ensures.made })
          (λ tells. mended_all _ (seen_as c.found.view_is (c.in_ok-found.ensures.stands tells)) asked.sectors
          w.if-found.true bins w.as_slice.ensures))
      | else-found w ↦
          rw w.disk-is (only_read asked _
          (λ tells. clean_all _ (seen_as c.found.view_is (c.in_ok-found.ensures.stands tells)) asked.sectors
          w.if-found.false))
    ]

pub returns-in_err-found-clause-crash : goal.returns-in_err-found-clause-crash
returns-in_err-found-clause-crash g c = λ tells.
    kept_still twin_of (g.D.Disk.state c.args.disk.now) (g.D.Disk.state c.read_pair.new.disk)
    (c.read_pair.ensures.look.held tells) (c.read_pair.ensures.look.flight tells ∙ c.requires.still tells)

pub returns-in_err-mend-clause-crash : goal.returns-in_err-mend-clause-crash
returns-in_err-mend-clause-crash g c = λ tells.
    kept_mended twin_of (g.D.Disk.state c.args.disk.now).held _
    (seen_as c.found.view_is (c.in_ok-found.ensures.stands tells)).exact c.as_slice.result.now c.as_slice.ensures
    (g.D.Disk.state c.mend.new.disk) (c.mend.ensures.crash tells)

pub returns-clause-crash : goal.returns-clause-crash
returns-clause-crash g c = λ tells base bins is.
    let s0 = g.D.Disk.state c.args.disk.now in
    let s1 = g.D.Disk.state c.read_pair.new.disk in
    elim c.if-found.branch [
      | then-found+in_ok-mend w ↦
          rw w.disk-is (kept_mended twin_of s0.held _
          (seen_as c.found.view_is (c.in_ok-found.ensures.stands tells)).exact w.as_slice.result.now w.as_slice.ensures
          (g.D.Disk.state w.mend.new.disk) (w.mend.ensures.crash tells) base bins is)
      | else-found w ↦
          rw w.disk-is (kept_still twin_of s0 s1 (c.read_pair.ensures.look.held tells)
          (c.read_pair.ensures.look.flight tells ∙ c.requires.still tells) base bins is)
    ]

pub returns-in_err-found-clause-clean : goal.returns-in_err-found-clause-clean
returns-in_err-found-clause-clean g c = λ tells base bins is.
    record { held = c.read_pair.ensures.look.held tells; flight = c.read_pair.ensures.look.flight tells }

pub returns-in_err-mend-clause-clean : goal.returns-in_err-mend-clause-clean
returns-in_err-mend-clause-clean g c = λ tells base bins is.
    absurd (no_repair (seen_as c.found.view_is (c.in_ok-found.ensures.stands tells)) base bins is c.if-found.true)

pub returns-clause-clean : goal.returns-clause-clean
returns-clause-clean g c = λ tells base bins is.
    elim c.if-found.branch [
      | then-found+in_ok-mend w ↦
          absurd (no_repair (seen_as c.found.view_is (c.in_ok-found.ensures.stands tells)) base bins is w.if-found.true)
      | else-found w ↦ rw w.disk-is
          (record { held = c.read_pair.ensures.look.held tells; flight = c.read_pair.ensures.look.flight tells })
    ]

pub returns-in_err-found-clause-faulty : goal.returns-in_err-found-clause-faulty
returns-in_err-found-clause-faulty g c = λ tells fault is.
    record { held = c.read_pair.ensures.look.held tells; flight = c.read_pair.ensures.look.flight tells }

pub returns-in_err-mend-clause-faulty : goal.returns-in_err-mend-clause-faulty
returns-in_err-mend-clause-faulty g c = λ tells fault is. let exact = (c.in_ok-found.ensures.stands tells).exact in
    absurd (cc)

pub returns-clause-faulty : goal.returns-clause-faulty
returns-clause-faulty g c = λ tells fault is. let exact = (c.in_ok-found.ensures.stands tells).exact in absurd (cc)

pub returns-clause-mended : goal.returns-clause-mended
returns-clause-mended g c = λ tells.
    let found = c.in_ok-found.field-0.found in
    elim c.if-found.branch [
      | then-found+in_ok-mend w ↦
          rw w.disk-is (pair_as (g.D.Disk.state w.mend.new.disk).held found c.found.view_is w.as_slice.ensures
          (w.in_ok-mend.ensures.pair tells))
      | else-found w ↦
          rw w.disk-is (subst (λ (i : Image). IsPair i found.base found.bins)
          (sym (c.read_pair.ensures.look.held tells))
          ((c.in_ok-found.ensures.stands tells).pair
          (sym (ap (λ (r : Recovered). r.dirty) c.found.view_is) ∙ w.if-found.false)))
    ]
