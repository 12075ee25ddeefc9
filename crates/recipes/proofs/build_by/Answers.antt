use mathlib.Core.Path.{refl, ◌∙◌}
use mathlib.Core.Bool.{true, false}
use Prim.Native.Nat.{ℕ, ◌*◌, ◌/◌}
use native.Mathlib.Omega.{arith}
use lib.ListN.{length, drop}
use Rattle.elements.proofs.Vectors.{put_each, put_each_turn, put_each_end}
use Rattle.recipes.specs.Recipe.{by_segment}
use Rattle.lanes.specs.Element.{new_element}
use Rattle.recipes.proofs.Saturating.{count_fills, c_bytes}
use Rattle.recipes.proofs.build_by.Goals as goal

pub loop-e-init : goal.loop-e-init
unfolding put_each
loop-e-init g c = (refl, refl)

pub loop-e-preserved : goal.loop-e-preserved
loop-e-preserved g c = (
  put_each_turn (new_element (by_segment true false c.args.fields.subtract g.row.LANE c.args.fields.part c.args.fields.index) (drop c.args.at c.args.z.now) (drop c.args.n c.args.z.now) (drop c.args.m c.args.z.now))
      (g.row.WIDE / 8) 0 c.loop-e.e (c.loop-e.e * (g.row.WIDE / 8)) _ c.args.out.now c.loop-e.out _ (omega arith) c.new_element-new.ensures c.loop-e.invariant.0 c.put.ensures,
  c.put.auto.s ∙ c.loop-e.invariant.1,
)

pub returns : goal.returns
returns g c =
    let d = c.requires.of_c in
    let n : ℕ = length c.args.out.now in
    put_each_end _ (g.row.WIDE / 8) c.loop-e.e (n / (g.row.WIDE / 8)) c.args.out.now c.loop-e.out (omega arith) (omega arith)
    (count_fills g.row.LANE g.row.WIDE d n c.requires.registers_there.inside.whole) c.loop-e.invariant.0
    ∙ c_bytes g.row.LANE g.row.WIDE d c.args.fields.subtract c.args.fields.part c.args.fields.index n _ _ _
