use native.Mathlib.Omega.{arith}
use mathlib.Core.Path.{◌≡◌, ◌∙◌}
use lib.ListN.{length-set}
use Rattle.pieces.specs.Pieces.{digits}
use Rattle.pieces.proofs.Digits.{one_placed}
use Rattle.pieces.proofs.fill_digits.Goals as goal

pub loop-place-preserved : goal.loop-place-preserved
loop-place-preserved c = (
  length-set _ _ _ ∙ c.loop-place.invariant.0,
  one_placed c.args.base c.loop-place.place c.loop-place.rest _ c.loop-place.room (omega arith) (omega (arith, c.loop-place.invariant.0)) c.glyph.ensures
      ∙ c.loop-place.invariant.1,
)

pub returns : goal.returns
unfolding digits
returns c =
    let none : c.loop-place.place ≡ 0 = omega arith in
    rw none at c.loop-place.invariant.1
