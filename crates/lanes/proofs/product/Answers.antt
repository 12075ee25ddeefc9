-- `lanes::product` meets its contract, of unsigned lanes and of signed ones. Assumes nothing.
use Rattle.std.proofs.Common.{◌≡◌, ℤ, ◌*ℤ◌, ap₂, arith, rules}
use Rattle.std.proofs.lemmas.Int.{to_z-of_z}
use Rattle.std.specs.Int.{w64, cast_unsigned}
use Rattle.std.specs.Int.RustNames.{FitsSigned}
use Rattle.lanes.specs.Lane.{s_int}
use Rattle.lanes.proofs.Widths.{lane_lt}
use Rattle.lanes.proofs.Saturation.{product_fits}
use Rattle.lanes.proofs.Wrapping.{below, unsigned_is, signed_is}
use Rattle.lanes.proofs.product.Goals as goal

pub overflow_mul-signed : goal.overflow_mul-signed
overflow_mul-signed g c =
    let a : FitsSigned w64 c.signed.result = search rules in
    let b : FitsSigned w64 c.signed-else-unsigned.result = search rules in
    simp to_z-of_z (rw (c.signed.ensures, c.signed-else-unsigned.ensures) (product_fits g.row.LANE c.args.x c.args.y c.requires.lane c.requires.x_bound.0 c.requires.x_bound.1))

pub returns-then-unsigned : goal.returns-then-unsigned
returns-then-unsigned g c =
    let lane = c.requires.lane in
    rw c.if-unsigned.true
    (unsigned_is g.row.LANE c.args.x c.args.y (below (lane_lt g.row.LANE lane c.args.x c.requires.x_bound.0) (lane_lt g.row.LANE lane c.args.y c.requires.x_bound.1)))

pub returns-else-unsigned : goal.returns-else-unsigned
returns-else-unsigned g c =
    let a : FitsSigned w64 c.signed.result = search rules in
    let b : FitsSigned w64 c.signed-else-unsigned.result = search rules in
    let ep : c.signed.result *ℤ c.signed-else-unsigned.result ≡ s_int g.row.LANE c.args.x *ℤ s_int g.row.LANE c.args.y =
    ap₂ (λ (v w : ℤ). v *ℤ w) c.signed.ensures c.signed-else-unsigned.ensures in
    let p : FitsSigned w64 (c.signed.result *ℤ c.signed-else-unsigned.result) =
    rw ep (product_fits g.row.LANE c.args.x c.args.y c.requires.lane c.requires.x_bound.0 c.requires.x_bound.1) in
    let e : c.cast_unsigned.result ≡ cast_unsigned w64 (c.signed.result *ℤ c.signed-else-unsigned.result) = simp to_z-of_z at c.cast_unsigned.ensures in
    rw c.if-unsigned.false (signed_is g.row.LANE c.args.x c.args.y c.cast_unsigned.result (c.signed.result *ℤ c.signed-else-unsigned.result) ep p (omega arith) e)
