-- `machine::step_vector` meets its contract. Assumes nothing.
use Rattle.machine.proofs.Strides.{array_renewal}
use Rattle.machine.proofs.step_vector.Goals as goal

pub returns : goal.returns
returns g c =
    array_renewal c.requires.places g.row.K c.requires.k_value c.args.r c.args.i c.requires.v_lt_w.1 c.requires.v_lt_w.2 c.args.v _ _ c.renew.ensures
