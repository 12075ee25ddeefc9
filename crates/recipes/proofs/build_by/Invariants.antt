-- `recipes::build_by` meets its contract. Assumes nothing.
use mathlib.Core.Path.{◌≡◌}
use mathlib.Core.Bool.{true, false}
use Prim.Native.Nat.{◌/◌}
use lib.ListN.{length, drop}
use Rattle.elements.proofs.Vectors.{put_each}
use Rattle.recipes.specs.Recipe.{by_segment}
use Rattle.lanes.specs.Element.{new_element}
use Rattle.recipes.proofs.build_by.Given as goal

abbrev pub invariant-loop-e : goal.invariant-loop-e
invariant-loop-e g l =
    (l.out ≡ put_each (new_element (by_segment true false l.fields.subtract g.row.LANE l.fields.part l.fields.index) (drop l.at l.z) (drop l.n l.z) (drop l.m l.z)) (g.row.WIDE / 8) 0 l.e l.fn.out)
    × (length l.out ≡ length l.fn.out)
