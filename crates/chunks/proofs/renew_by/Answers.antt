use mathlib.Core.Path.{refl}
use Prim.Native.Nat.{◌+◌, ◌*◌, ◌/◌}
use native.Mathlib.Omega.{arith}
use Rattle.elements.proofs.Vectors.{put_each}
use Rattle.bits.proofs.Put.{none_yet}
use Rattle.chunks.proofs.Parts.{array_chunk}
use Rattle.chunks.proofs.Renewed.{turned, whole, array_step, array_place}
use Rattle.chunks.proofs.renew_by.Goals as goal

pub loop-word-init : goal.loop-word-init
unfolding put_each
loop-word-init g c =
    (refl, none_yet c.args.za.now c.default-toggles.result c.default-toggles.ensures.0 c.default-toggles.ensures.1, (omega arith, omega arith), refl, λ j. (c.type_inv.za j).fits)

pub loop-word-preserved : goal.loop-word-preserved
loop-word-preserved g c =
    let array = c.requires.of_array in
    let step = array_step g.row.LANE g.row.WIDE array in
    let T =
    turned g.row.LANE g.row.WIDE (array_chunk g.row.LANE g.row.WIDE array).0.1.0 c.args.operation.unsigned c.args.operation.subtract c.args.za.now c.args.at c.args.z.now
    c.args.x (g.row.WIDE / g.row.LANE) (g.row.WIDE / 8) c.args.y (g.row.WIDE / g.row.LANE) (g.row.WIDE / 8) c.args.bytes step step c.loop-word.invariant.4 c.requires.bytes_in_bounds.0 c.requires.bytes_in_bounds.1.0
    c.loop-word.word c.loop-word.toggles c.write.result c.add_assign.new.self c.read-old.result c.step_chunk-new.result (c.args.x + 8 * c.loop-word.word) (c.args.y + 8 * c.loop-word.word) c.loop-word.za c.write.new.file
    (omega arith) c.loop-word.invariant.0 c.loop-word.invariant.1
    (array_place g.row.LANE g.row.WIDE array c.args.x c.loop-word.word) (array_place g.row.LANE g.row.WIDE array c.args.y c.loop-word.word)
    c.read-old.ensures.0 c.step_chunk-new.ensures c.write.ensures.value c.add_assign.ensures.after c.write.ensures.new in
    (T.0, T.1, (omega arith, omega arith), T.2, c.loop-word.invariant.4)

pub returns : goal.returns
returns g c =
    let array = c.requires.of_array in
    let step = array_step g.row.LANE g.row.WIDE array in
    whole g.row.LANE g.row.WIDE (array_chunk g.row.LANE g.row.WIDE array).0.1.0 c.args.operation.unsigned c.args.operation.subtract c.args.za.now c.args.at c.args.z.now
    c.args.x (g.row.WIDE / g.row.LANE) (g.row.WIDE / 8) c.args.y (g.row.WIDE / g.row.LANE) (g.row.WIDE / 8) c.args.bytes step step c.loop-word.invariant.4 c.requires.bytes_in_bounds.0 c.requires.bytes_in_bounds.1.0
    c.loop-word.word c.loop-word.toggles c.loop-word.za (omega arith) c.loop-word.invariant.0 c.loop-word.invariant.1
