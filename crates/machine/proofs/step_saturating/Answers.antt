-- `machine::step_saturating` meets its contract. Assumes nothing.
use lib.Seq.{length-take-le}
use Rattle.machine.proofs.Renewal.{step_renewal}
use Rattle.machine.proofs.step_saturating.Goals as goal

pub returns : goal.returns
returns c =
    step_renewal c.requires.sources c.requires.family_value.0 _ (length-take-le _ _ c.requires.family_value.1) _ c.build.auto.out _ _ c.build.ensures c.replace.ensures
