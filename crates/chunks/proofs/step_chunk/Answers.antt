-- `chunks::step_chunk` meets its contract, of one element and of two. Assumes nothing.
use native.Mathlib.Omega.{arith}
use Rattle.chunks.proofs.Parts.{one_is, two_is, one_of_two}
use Rattle.chunks.proofs.step_chunk.Goals as goal

pub returns-then-this-eq64 : goal.returns-then-this-eq64
returns-then-this-eq64 g c =
    one_is g.row.LANE g.row.WIDE c.args.operation.unsigned c.args.operation.subtract c.args.old c.args.z.now c.args.first.at c.args.first.step c.args.second.at c.args.second.step (omega arith)
    _ c.if-this-eq64.true c.element.ensures.0

pub returns : goal.returns
returns g c =
    two_is g.row.LANE g.row.WIDE c.args.operation.unsigned c.args.operation.subtract c.args.old c.args.z.now c.args.first.at c.args.first.step c.args.second.at c.args.second.step (omega arith)
    _ _ (one_of_two g.row.WIDE c.requires.of_chunk.1 c.if-this-eq64.false) c.element-low.ensures.0 c.element-high.ensures.0
