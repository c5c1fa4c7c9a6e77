use Rattle.hive_model.specs.Image.{IsCrashImage}
use Rattle.start_laws.proofs.ReportLemmas.{report-ended, report-quiet_text, report-quiet_loads}
use Rattle.start_laws.proofs.report.a_report_tells_its_run.Goals as goal

pub returns-clause-ended : goal.returns-clause-ended
returns-clause-ended c = λ choice script placed images held flight text r. report-ended choice script placed images
    (IsCrashImage held flight) text r

pub returns-clause-quiet : goal.returns-clause-quiet
returns-clause-quiet c = λ choice script placed images held flight text r all. report-quiet_text choice script placed
    images (IsCrashImage held flight) text r all

pub returns-clause-quiet_loads : goal.returns-clause-quiet_loads
returns-clause-quiet_loads c =
    λ choice script placed images held flight text r all i left. report-quiet_loads choice script placed images
    (IsCrashImage held flight) text r all i left
