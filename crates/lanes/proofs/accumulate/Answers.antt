-- `lanes::accumulate` meets its contract, by the laws at each width. Assumes nothing.
use Rattle.std.proofs.Common.{◌≡◌, ◌%◌, ◌^◌, refl, mod-lt, mod-eq_of_lt, arith}
use Rattle.lanes.proofs.Widths.{last_width}
use Rattle.lanes.proofs.Wrapping.{added_to, subtracted_from}
use Rattle.lanes.proofs.accumulate.Goals as goal

pub returns-in-16-true : goal.returns-in-16-true
returns-in-16-true g c =
    let acc = rw c.in-16-true.is-0 at c.requires.acc_bound in
    rw (c.in-16-true.is-0, c.in-16-true.is-1) (subtracted_from 16 c.args.acc (c.args.product % 65536) _ acc (mod-lt _ (omega arith)) c.from.ensures, omega arith)

pub returns-in-16-false : goal.returns-in-16-false
returns-in-16-false g c =
    rw (c.in-16-false.is-0, c.in-16-false.is-1) (added_to 16 c.args.acc (c.args.product % 65536) _ c.from-in-16-false.ensures, omega arith)

pub returns-in-32-true : goal.returns-in-32-true
returns-in-32-true g c =
    let acc = rw c.in-32-true.is-0 at c.requires.acc_bound in
    rw (c.in-32-true.is-0, c.in-32-true.is-1) (subtracted_from 32 c.args.acc (c.args.product % 4294967296) _ acc (mod-lt _ (omega arith)) c.from-in-32-true.ensures, omega arith)

pub returns-in-32-false : goal.returns-in-32-false
returns-in-32-false g c =
    rw (c.in-32-false.is-0, c.in-32-false.is-1) (added_to 32 c.args.acc (c.args.product % 4294967296) _ c.from-in-32-false.ensures, omega arith)

pub returns-in_default-true : goal.returns-in_default-true
returns-in_default-true g c =
    let wide = last_width g.row.WIDE c.requires.width.0 (λ e. omega arith) c.in_default-true.is-0.0.1 c.in_default-true.is-0.1 in
    let acc = rw wide at c.requires.acc_bound in
    let whole : c.args.product % 2 ^ 64 ≡ c.args.product = mod-eq_of_lt (omega arith) in
    rw (wide, c.in_default-true.is-1, whole) (subtracted_from 64 c.args.acc c.args.product _ acc (omega arith) refl, mod-lt _ (omega arith))

pub returns-in_default-false : goal.returns-in_default-false
returns-in_default-false g c =
    let wide = last_width g.row.WIDE c.requires.width.0 (λ e. omega arith) c.in_default-false.is-0.0.1 c.in_default-false.is-0.1 in
    let whole : c.args.product % 2 ^ 64 ≡ c.args.product = mod-eq_of_lt (omega arith) in
    rw (wide, c.in_default-false.is-1, whole) (added_to 64 c.args.acc c.args.product _ refl, mod-lt _ (omega arith))
