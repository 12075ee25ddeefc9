-- `chunks::renew_v` meets its contract. Assumes nothing.
use mathlib.Core.Path.{refl}
use Prim.Native.Nat.{◌*◌}
use lib.ListN.{drop}
use borrow.Author.Rules.{rules}
use Rattle.bits.proofs.Put.{both}
use Rattle.lanes.proofs.Widths.{doubled}
use Rattle.lanes.proofs.Built.{length_new, Bytes-new_bytes}
use Rattle.chunks.specs.Chunk.{evenly, even_bytes}
use Rattle.chunks.proofs.renew_v.Goals as goal

pub returns : goal.returns
returns c =
    let R = evenly c.args.lane (2 * c.args.lane) c.args.operation.unsigned c.args.operation.subtract 1 c.args.by in
    let own = drop c.args.at c.args.z.now in
    let first = drop c.args.x c.args.z.now in
    let second = drop c.args.y c.args.z.now in
    both c.args.z.now (even_bytes c.args.lane (2 * c.args.lane) c.args.operation.unsigned c.args.operation.subtract c.args.z.now c.args.at c.args.z.now c.args.x 1 c.args.y c.args.by 16) c.args.at
    c.requires.at_in_bounds (length_new R 16 own first second (doubled c.args.lane c.requires.lane).1.0 refl) (λ j. search rules)
    (Bytes-new_bytes R 16 own first second) c.write-low.result c.write-high.result c.add.result c.new_pair-new.result.low c.new_pair-new.result.high c.write-low.new.file c.write-high.new.file
    c.new_pair-new.ensures.0 c.new_pair-new.ensures.1 c.write-low.ensures.value c.write-low.ensures.new c.write-high.ensures.value c.write-high.ensures.new c.add.ensures
