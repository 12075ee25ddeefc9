-- `lanes::signed` meets its contract, width by width. Assumes nothing.
use Rattle.std.proofs.Common.{arith}
use Rattle.std.proofs.lemmas.Int.{ints}
use Rattle.lanes.specs.Lane.{s_int}
use Rattle.lanes.proofs.Widths.{last_width}
use Rattle.lanes.proofs.signed.Goals as goal

pub returns-in-8 : goal.returns-in-8
unfolding s_int
returns-in-8 g c = rw c.in-8.is (grind (arith, ints))

pub returns-in-16 : goal.returns-in-16
unfolding s_int
returns-in-16 g c = rw c.in-16.is (grind (arith, ints))

pub returns-in-32 : goal.returns-in-32
unfolding s_int
returns-in-32 g c = rw c.in-32.is (grind (arith, ints))

pub returns-in_default : goal.returns-in_default
unfolding s_int
returns-in_default g c =
    rw (last_width g.row.BITS c.requires.width (λ e. omega arith) (λ e. omega arith) (λ e. omega arith)) (grind (arith, ints))
