use native.Mathlib.Omega.{arith}
use mathlib.Core.Path.{ap, ◌∙◌}
use mathlib.Core.List.{List, ◌++◌}
use Prim.Native.Nat.{ℕ}
use lib.ListN.{get_or}
use Rattle.syntax.proofs.Turns.{nothing_yet, one_more, says_of_lem}
use Rattle.syntax.proofs.push_row.Goals as goal

pub loop-c-init : goal.loop-c-init
loop-c-init g c = (omega arith, nothing_yet c.args.values.now c.args.out.now.items)

pub loop-c-preserved : goal.loop-c-preserved
loop-c-preserved g c = (
  omega arith,
  one_more c.args.values.now c.args.row.now c.args.out.now.items c.loop-c.c-index c.loop-c-test.true c.loop-c.invariant.1
      (c.push_said.ensures.text
      ∙ ap (λ (t : List ℕ). c.loop-c.out.items ++ t) (says_of_lem c.args.values.now (get_or c.args.row.now c.loop-c.c-index 0) _ c.value_in.ensures)),
)
