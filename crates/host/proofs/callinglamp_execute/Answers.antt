-- `host::callinglamp_execute` meets its contract. Assumes nothing.
use Rattle.host.proofs.Calls.{execute_said}
use Rattle.host.proofs.callinglamp_execute.Goals as goal

pub returns : goal.returns
returns c =
    execute_said _ _ c.settings_of.ensures _ _ _ _ c.execute.result _ _ _ _ c.execute.ensures c.executed.ensures
