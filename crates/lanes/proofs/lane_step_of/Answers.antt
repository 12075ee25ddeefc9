-- `lanes::lane_step_of` meets its contract: the low bits of the product are those of its integer. Assumes nothing.
use Rattle.lanes.proofs.Widths.{width_range}
use Rattle.lanes.proofs.Wrapping.{lane_step_is}
use Rattle.lanes.proofs.lane_step_of.Goals as goal

pub returns : goal.returns
returns g c = (
  lane_step_is g.row.LANE g.row.WIDE c.args.operation.unsigned c.args.operation.subtract c.args.acc c.args.x c.args.y c.product-product.result _
      (width_range g.row.WIDE c.requires.widths.1.0).1 c.product-product.ensures c.accumulate.ensures.0,
  c.accumulate.ensures.1,
)
