-- `elements::read` meets its contract, width by width: the library's number of the bytes is the element. Assumes nothing.
use Rattle.std.proofs.Common.{take, drop, ap, ◌∙◌, add-zero, arith}
use Rattle.std.specs.Int.{w16, w32, w64, from_le_bytes}
use Rattle.elements.specs.Elements.{element_at}
use Rattle.elements.proofs.Elements.{sum_element, copied_element}
use Rattle.elements.proofs.Lanes.{last_width}
use Rattle.elements.proofs.read.Goals as goal

pub returns-in-8 : goal.returns-in-8
unfolding element_at
returns-in-8 g c = rw c.in-8.is (simp add-zero (omega arith), omega arith)

pub returns-in-16 : goal.returns-in-16
returns-in-16 g c =
    rw c.in-16.is
    (c.from-in-16.ensures ∙ c.from_le_bytes.ensures ∙ ap (from_le_bytes w16) c.bytes.ensures ∙ sum_element 1 (take 2 (drop c.args.at c.args.s.now)) ∙ copied_element 2 c.args.at c.args.s.now, omega arith)

pub returns-in-32 : goal.returns-in-32
returns-in-32 g c =
    rw c.in-32.is
    (c.from-in-32.ensures ∙ c.from_le_bytes-in-32.ensures ∙ ap (from_le_bytes w32) c.bytes-in-32.ensures ∙ sum_element 3 (take 4 (drop c.args.at c.args.s.now)) ∙ copied_element 4 c.args.at c.args.s.now, omega arith)

pub returns-in_default : goal.returns-in_default
returns-in_default g c =
    rw (last_width g.row.BITS c.requires.width (λ e. omega arith) (λ e. omega arith) (λ e. omega arith))
    (c.from_le_bytes-in_default.ensures ∙ ap (from_le_bytes w64) c.bytes-in_default.ensures ∙ sum_element 7 (take 8 (drop c.args.at c.args.s.now)) ∙ copied_element 8 c.args.at c.args.s.now, omega arith)
