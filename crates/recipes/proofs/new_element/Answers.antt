-- `recipes::new_element` meets its contract. Assumes nothing.
use mathlib.Core.Bool.{true, false}
use Rattle.recipes.specs.Recipe.{by_segment}
use Rattle.lanes.proofs.Built.{new_element-at}
use Rattle.recipes.proofs.new_element.Goals as goal

pub returns : goal.returns
returns g c =
    rw (
      new_element-at (by_segment true false c.args.fields.subtract g.row.LANE c.args.fields.part c.args.fields.index) c.args.z.now c.args.at c.args.z.now c.args.n c.args.m c.args.e,
      ← c.requires.of_c.1,
      ← c.read-old.ensures.0,
    )
    c.element.ensures.0
