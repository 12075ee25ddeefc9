-- `chunks::renew_by` meets its contract. Assumes nothing.
use mathlib.Core.Path.{◌≡◌}
use Prim.Native.Nat.{◌*◌, ◌/◌, ◌≤◌}
use lib.ListN.{length}
use Rattle.elements.specs.Elements.{Bytes}
use Rattle.bits.specs.Bits.{toggles}
use Rattle.bits.proofs.Put.{Upto}
use Rattle.chunks.specs.Chunk.{even_bytes}
use Rattle.chunks.proofs.renew_by.Given as goal

abbrev pub invariant-loop-word : goal.invariant-loop-word
invariant-loop-word g l =
    Upto l.fn.za
    (even_bytes g.row.LANE g.row.WIDE l.operation.unsigned l.operation.subtract l.fn.za l.at l.z l.x (g.row.WIDE / g.row.LANE) l.y (g.row.WIDE / g.row.LANE) l.bytes)
    l.at (8 * l.word) l.za
    × (l.toggles ≡ toggles l.fn.za l.za) × ((l.toggles.rises ≤ 64 * l.word) × (l.toggles.falls ≤ 64 * l.word)) × (length l.za ≡ length l.fn.za) × Bytes l.fn.za
