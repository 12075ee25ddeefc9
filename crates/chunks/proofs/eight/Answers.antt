use mathlib.Core.Path.{◌≡◌, refl, ap, ◌∙◌}
use Prim.Native.Nat.{ℕ, ◌+◌, ◌*◌}
use native.Mathlib.Omega.{arith}
use Rattle.elements.specs.Elements.{element_at}
use Rattle.elements.proofs.Vectors.{put_each}
use Rattle.chunks.proofs.Renewed.{own_put, all_put}
use Rattle.chunks.proofs.eight.Goals as goal

pub loop-e-init : goal.loop-e-init
unfolding put_each
loop-e-init c = (refl, c.requires.len)

pub loop-e-preserved : goal.loop-e-preserved
loop-e-preserved c =
    let at : c.args.at + 2 * c.loop-e.e ≡ c.args.at + c.loop-e.e * 2 = omega arith in (
      own_put c.args.operation.unsigned c.args.operation.subtract c.args.z.now c.args.at c.args.x c.args.y c.args.by c.loop-e.e _ _ _ _ _ c.args.new.now c.loop-e.new _
          (c.read-old.ensures.0 ∙ ap (λ (k : ℕ). element_at 2 k c.args.z.now) at) (omega arith) (omega arith) (omega arith) c.element-v.ensures.0 c.loop-e.invariant.0 c.put.ensures,
      c.put.auto.s ∙ c.loop-e.invariant.1,
    )

pub returns : goal.returns
returns c =
    all_put c.args.operation.unsigned c.args.operation.subtract c.args.z.now c.args.at c.args.x c.args.y c.args.by c.loop-e.e c.args.new.now c.loop-e.new
    (omega arith) (omega arith) c.requires.len c.loop-e.invariant.0
