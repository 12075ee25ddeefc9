-- `lanes::sat_step_of` meets its contract: the clamped step by the library's sums. Assumes nothing.
use Rattle.std.proofs.Common.{◌≡◌, ℤ, ◌+ℤ◌, ◌-ℤ◌, ◌*ℤ◌, Bool, sym, ap, ap₂, ◌∙◌, rules}
use Rattle.std.proofs.lemmas.Int.{to_z-of_z}
use Rattle.std.specs.Int.{w64, cast_unsigned, saturate_to_bits}
use Rattle.std.specs.Int.RustNames.{FitsSigned}
use Rattle.lanes.specs.Lane.{s_int, add_sub, signed_sat}
use Rattle.lanes.proofs.Widths.{width_range}
use Rattle.lanes.proofs.Saturation.{product_fits, sat_step_is}
use Rattle.lanes.proofs.sat_step_of.Goals.{then-subtract, else-subtract}
use Rattle.lanes.proofs.sat_step_of.Goals as goal

pub overflow_mul-product : goal.overflow_mul-product
overflow_mul-product g c =
    let a : FitsSigned w64 c.signed.result = search rules in
    let b : FitsSigned w64 c.signed-2.result = search rules in
    simp to_z-of_z (rw (c.signed.ensures, c.signed-2.ensures) (product_fits g.row.LANE c.args.x c.args.y c.requires.widths.0 c.requires.x_bound.0 c.requires.x_bound.1))

pub returns : goal.returns
returns g c =
    let a : FitsSigned w64 c.signed.result = search rules in
    let b : FitsSigned w64 c.signed-2.result = search rules in
    let ep : c.signed.result *ℤ c.signed-2.result ≡ s_int g.row.LANE c.args.x *ℤ s_int g.row.LANE c.args.y = ap₂ (λ (v w : ℤ). v *ℤ w) c.signed.ensures c.signed-2.ensures in
    let p : FitsSigned w64 (c.signed.result *ℤ c.signed-2.result) = rw ep (product_fits g.row.LANE c.args.x c.args.y c.requires.widths.0 c.requires.x_bound.0 c.requires.x_bound.1) in
    let t : FitsSigned w64 c.saturating_add.result = search rules in
    let d : FitsSigned w64 c.clamp-doubled.result = search rules in
    let k : FitsSigned w64 c.clamp.result = search rules in
    let f : FitsSigned w64 c.signed-before.result = search rules in
    let et : c.saturating_add.result ≡ saturate_to_bits 63 (c.signed.result *ℤ c.signed-2.result +ℤ c.signed.result *ℤ c.signed-2.result) = simp to_z-of_z at c.saturating_add.ensures in
    let ed : c.clamp-doubled.result ≡ signed_sat g.row.WIDE c.saturating_add.result = simp to_z-of_z at c.clamp-doubled.ensures in
    let ek : c.clamp.result ≡ signed_sat g.row.WIDE c.if-subtract.after = simp c.if-subtract.after-is at c.clamp.ensures in
    let eu : c.cast_unsigned.result ≡ cast_unsigned w64 c.clamp.result = simp to_z-of_z at c.cast_unsigned.ensures in
    let all = λ (e : c.if-subtract.after ≡ saturate_to_bits 63 (add_sub c.args.subtract c.signed-before.result c.clamp-doubled.result)).
    sat_step_is g.row.LANE g.row.WIDE c.args.subtract c.args.acc c.args.x c.args.y c.low_bits.result c.cast_unsigned.result
    (c.signed.result *ℤ c.signed-2.result) c.saturating_add.result c.clamp-doubled.result c.signed-before.result c.if-subtract.after c.clamp.result
    (width_range g.row.WIDE c.requires.widths.1.0).1 ep et ed c.signed-before.ensures e ek k eu c.low_bits.ensures in
    elim c.if-subtract.branch [
      | then-subtract w ↦
          let r : FitsSigned w64 w.saturating_sub-after.result = search rules in
          let e : w.saturating_sub-after.result ≡ saturate_to_bits 63 (c.signed-before.result -ℤ c.clamp-doubled.result) = simp to_z-of_z at w.saturating_sub-after.ensures in
          all (sym c.if-subtract.after-is ∙ w.after-is ∙ to_z-of_z w64 w.saturating_sub-after.result r ∙ e ∙ ap (λ (b : Bool). saturate_to_bits 63 (add_sub b c.signed-before.result c.clamp-doubled.result)) (sym w.if-subtract.true))
      | else-subtract w ↦
          let r : FitsSigned w64 w.saturating_add-after.result = search rules in
          let e : w.saturating_add-after.result ≡ saturate_to_bits 63 (c.signed-before.result +ℤ c.clamp-doubled.result) = simp to_z-of_z at w.saturating_add-after.ensures in
          all (sym c.if-subtract.after-is ∙ w.after-is ∙ to_z-of_z w64 w.saturating_add-after.result r ∙ e ∙ ap (λ (b : Bool). saturate_to_bits 63 (add_sub b c.signed-before.result c.clamp-doubled.result)) (sym w.if-subtract.false))
    ]
