-- The number of the first digits, which are digits.
use Rattle.std.proofs.Common.{◌≡◌, true, length}
use Rattle.spell.specs.Spelled.{are_digits, hex_number}
use Rattle.spell.proofs.word_in.Given as goal

abbrev pub invariant-loop-byte : goal.invariant-loop-byte
invariant-loop-byte l = (length l.line ≡ 8) × (are_digits l.line l.byte-index ≡ true) × (l.word ≡ hex_number l.line l.byte-index)
