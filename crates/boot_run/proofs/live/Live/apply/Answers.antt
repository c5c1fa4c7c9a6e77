use Rattle.boot_run.proofs.live.Live.apply.Goals as goal

pub returns-clause-changed : goal.returns-clause-changed
returns-clause-changed c = rw (← c.self.view_is) c.apply.ensures.changed
