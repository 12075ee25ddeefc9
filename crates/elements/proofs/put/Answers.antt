use Rattle.std.proofs.Common.{refl, arith}
use Rattle.elements.specs.Elements.{put_at}
use Rattle.elements.proofs.Elements.{put_turn, rest_turn}
use Rattle.elements.proofs.put.Goals as goal

pub loop-i-init : goal.loop-i-init
unfolding put_at
loop-i-init g c = (refl, omega arith)

pub loop-i-preserved : goal.loop-i-preserved
loop-i-preserved g c = (
  rw (c.loop-i.invariant.0, c.loop-i.invariant.1) (put_turn c.args.at c.args.number c.args.s.now c.loop-i.i),
  rw c.loop-i.invariant.1 (rest_turn c.args.number c.loop-i.i),
)
