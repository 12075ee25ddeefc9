use mathlib.Core.Path.{◌≡◌, refl, ap, ◌∙◌}
use Prim.Native.Nat.{ℕ, ◌+◌, ◌*◌, ◌≤◌, ◌<◌}
use native.Mathlib.Omega.{arith}
use Rattle.elements.specs.Files.{replaced}
use Rattle.bits.specs.declared.Toggles.{Toggles}
use Rattle.bits.proofs.Put.{same_toggles, none_yet}
use Rattle.words.specs.declared.Fields.{Fields}
use Rattle.recipes.specs.Recipe.{per_source}
use mathlib.Core.List.{List}
use Rattle.machine.specs.Loop.{Places, Grid}
use Rattle.machine.proofs.Vectors.{few_vectors, Turned, turn, count_next}
use Rattle.machine.proofs.step_vectors.Goals as goal

-- a count stays small
small : (f : Fields) (w : ℕ) (z za : List ℕ) (stride k first q so_far more : ℕ) → (p : Places f w z za) → (g : Grid w f.group stride k first × (k ≡ per_source f.family))
    → q < f.group * k → so_far ≤ q * (8 * w) → more ≤ 8 * w → (so_far + more ≤ (q + 1) * (8 * w)) × (so_far + more ≤ 32768)
small f w z za stride k first q so_far more p g in_turn = count_next w q (f.group * k) so_far more p.sources.width.most (few_vectors p g.0 g.1) in_turn

pub loop-q-init : goal.loop-q-init
unfolding replaced
loop-q-init g c =
    (refl, none_yet c.args.za.now c.default-toggles.result c.default-toggles.ensures.0 c.default-toggles.ensures.1, (omega arith, omega arith), refl)

pub add_assign-requires : goal.add_assign-requires
add_assign-requires g c =
    let turned : Turned c.requires.places c.requires.grid.0 c.loop-q.q c.step_vector.result c.loop-q.za c.step_vector.new.za =
    turn c.requires.places c.requires.grid.0 c.loop-q.q c.step_vector.result _ _ c.loop-q.za _ c.loop-q-test.true c.loop-q.invariant.0 refl refl c.step_vector.ensures in
    let rises = small c.args.fields c.args.w c.args.z.now c.args.za.now c.args.stride g.row.K c.args.first c.loop-q.q c.loop-q.toggles.rises c.step_vector.result.rises c.requires.places c.requires.grid c.loop-q-test.true c.loop-q.invariant.2.0 (omega (arith, turned.few)) in
    let falls = small c.args.fields c.args.w c.args.z.now c.args.za.now c.args.stride g.row.K c.args.first c.loop-q.q c.loop-q.toggles.falls c.step_vector.result.falls c.requires.places c.requires.grid c.loop-q-test.true c.loop-q.invariant.2.1 (omega (arith, turned.few)) in
    (omega (arith, rises.1), omega (arith, falls.1))

pub loop-q-preserved : goal.loop-q-preserved
loop-q-preserved g c =
    let turned : Turned c.requires.places c.requires.grid.0 c.loop-q.q c.step_vector.result c.loop-q.za c.step_vector.new.za =
    turn c.requires.places c.requires.grid.0 c.loop-q.q c.step_vector.result _ _ c.loop-q.za _ c.loop-q-test.true c.loop-q.invariant.0 refl refl c.step_vector.ensures in
    let rises = small c.args.fields c.args.w c.args.z.now c.args.za.now c.args.stride g.row.K c.args.first c.loop-q.q c.loop-q.toggles.rises c.step_vector.result.rises c.requires.places c.requires.grid c.loop-q-test.true c.loop-q.invariant.2.0 (omega (arith, turned.few)) in
    let falls = small c.args.fields c.args.w c.args.z.now c.args.za.now c.args.stride g.row.K c.args.first c.loop-q.q c.loop-q.toggles.falls c.step_vector.result.falls c.requires.places c.requires.grid c.loop-q-test.true c.loop-q.invariant.2.1 (omega (arith, turned.few)) in
    let sums = c.add_assign.ensures.after in (
      turned.after,
      same_toggles _ _
          (sums.0 ∙ ap (λ (t : Toggles). t.rises + c.step_vector.result.rises) c.loop-q.invariant.1 ∙ turned.rise)
          (sums.1 ∙ ap (λ (t : Toggles). t.falls + c.step_vector.result.falls) c.loop-q.invariant.1 ∙ turned.fall),
      (rw sums.0 rises.0, rw sums.1 falls.0),
      c.step_vector.auto.za ∙ c.loop-q.invariant.3,
    )
