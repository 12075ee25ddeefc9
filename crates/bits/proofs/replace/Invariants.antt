-- `bits::replace` meets its contract. Assumes nothing.
use mathlib.Core.Path.{◌≡◌}
use Prim.Native.Nat.{◌*◌, ◌≤◌}
use lib.ListN.{length}
use Rattle.elements.specs.Elements.{Bytes}
use Rattle.bits.specs.Bits.{toggles}
use Rattle.bits.proofs.Put.{Upto}
use Rattle.bits.proofs.replace.Given as goal

abbrev pub invariant-loop-word : goal.invariant-loop-word
invariant-loop-word l =
    Upto l.fn.file l.new l.at (8 * l.word) l.file × (l.toggles ≡ toggles l.fn.file l.file)
    × ((l.toggles.rises ≤ 64 * l.word) × (l.toggles.falls ≤ 64 * l.word)) × (length l.file ≡ length l.fn.file) × Bytes l.fn.file
