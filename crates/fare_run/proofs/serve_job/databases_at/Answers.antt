use Rattle.fare_keeping.proofs.Since.{err_says}
use Rattle.fare_run.specs.Stores.{IsOfStores, opening_failure}
use Rattle.fare_run.proofs.Served.{of_opening}
use Rattle.fare_run.proofs.serve_job.databases_at.Goals as goal

pub returns-in_err-connect_files-clause-fails : goal.returns-in_err-connect_files-clause-fails
returns-in_err-connect_files-clause-fails c =
    let fault = c.in_err-connect_files.field-0.0 in
    err_says c.from_residual.result IsOfStores (opening_failure fault) c.from_residual.ensures.1 (of_opening fault)
