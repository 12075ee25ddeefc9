-- `host::callinglamp_run` meets its contract. Assumes nothing.
use Rattle.host.proofs.Calls.{run_said, run_fits}
use Rattle.host.proofs.callinglamp_run.Goals as goal

pub ran-requires : goal.ran-requires
ran-requires c =
    run_fits _ _ _ _ c.run.result c.run.new.z c.run.new.za c.run.new.report c.run.ensures

pub returns : goal.returns
returns c =
    run_said _ _ _ _ _ c.run.result _ _ _ _ _ c.run.ensures c.ran.ensures
