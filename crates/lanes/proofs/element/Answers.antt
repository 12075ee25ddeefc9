-- `lanes::element` meets its contract, as either step does. Assumes nothing.
use Rattle.std.proofs.Common.{ne_eqb}
use Rattle.lanes.specs.Lane.{step}
use Rattle.lanes.proofs.element.Goals as goal

pub returns-then-this-ne0 : goal.returns-then-this-ne0
unfolding step
returns-then-this-ne0 g c = rw (ne_eqb _ _ c.if-this-ne0.true, ← c.read-a.ensures.0, ← c.read-b.ensures.0) c.sat_step_of.ensures

pub returns-else-this-ne0 : goal.returns-else-this-ne0
unfolding step
returns-else-this-ne0 g c = rw (c.if-this-ne0.false, ← c.read-a.ensures.0, ← c.read-b.ensures.0) c.lane_step_of.ensures
