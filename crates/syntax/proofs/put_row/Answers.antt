use native.Mathlib.Omega.{arith}
use mathlib.Core.Path.{refl}
use lib.ListN.{get_or}
use Rattle.pieces.proofs.Pieces.{said}
use Rattle.syntax.proofs.Turns.{wrote_none, wrote_more, says_of_lem}
use Rattle.syntax.proofs.put_row.Goals as goal

pub loop-c-init : goal.loop-c-init
loop-c-init c = (refl, omega arith, wrote_none c.args.values.now c.args.row.now c.args.out.now)

pub loop-c-preserved : goal.loop-c-preserved
loop-c-preserved c = (
  omega arith,
  omega (arith, c.put_said-at.ensures.upper_bound),
  wrote_more c.args.values.now c.args.row.now c.loop-c.c-index c.loop-c-test.true c.loop-c.invariant.2
      (said (says_of_lem c.args.values.now (get_or c.args.row.now c.loop-c.c-index 0) _ c.value_in.ensures) c.put_said-at.ensures.wrote),
)
