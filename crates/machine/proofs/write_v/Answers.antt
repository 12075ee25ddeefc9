-- `machine::write_v` meets its contract: the V register's new bytes, and zeros behind them. Assumes nothing.
use Rattle.machine.proofs.Renewal.{all_written}
use Rattle.machine.proofs.write_v.Goals as goal

pub returns : goal.returns
returns c =
    all_written c.requires.sources c.requires.into_v c.step_v-toggles.ensures c.clear-cleared.ensures.1 c.add.result c.add.ensures
