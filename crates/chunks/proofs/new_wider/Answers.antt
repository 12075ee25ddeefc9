-- `chunks::new_wider` meets its contract. Assumes nothing.
use mathlib.Core.Path.{refl}
use Prim.Native.Nat.{◌*◌, ◌/◌}
use native.Mathlib.Nat.{add-zero}
use native.Mathlib.Omega.{arith}
use lib.Dec.{lit≤}
use Rattle.chunks.proofs.Parts.{v_chunk}
use Rattle.chunks.proofs.Strides.{chunk-at}
use Rattle.chunks.proofs.Renewed.{v_place}
use Rattle.chunks.proofs.new_wider.Goals as goal

pub returns : goal.returns
returns g c =
    let widths = (v_chunk g.row.LANE g.row.WIDE c.requires.of_v).0 in
    let word =
    chunk-at g.row.LANE g.row.WIDE widths.1.0 c.args.operation.unsigned c.args.operation.subtract c.args.z.now c.args.at c.args.z.now
    c.args.x 1 (g.row.LANE / 8) c.args.y c.args.by (c.args.by * (g.row.LANE / 8)) (omega arith) refl (λ j. (c.type_inv.z j).fits) in (
      rw c.step_chunk-low.ensures (word 0 16 _ c.args.x c.args.y (lit≤ tt) (rw (add-zero c.args.at) c.read.ensures.0) (omega arith) (omega arith)),
      rw c.step_chunk-high.ensures (word 1 16 _ _ _ (lit≤ tt) c.read-2.ensures.0 (v_place g.row.LANE g.row.WIDE c.requires.of_v c.args.x 1) (v_place g.row.LANE g.row.WIDE c.requires.of_v c.args.y c.args.by)),
    )
