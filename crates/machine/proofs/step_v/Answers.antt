-- `machine::step_v` meets its contract, in A and in B. Assumes nothing.
use mathlib.Core.Path.{◌≡◌}
use mathlib.Core.Logic.{⊎_elim}
use Rattle.words.specs.declared.Family.TheVariants.{ByElement, Vector}
use Rattle.machine.proofs.Strides.{by_element_lem, by_pairs}
use Rattle.machine.proofs.step_v.Goals as goal

pub returns-in-ByElement : goal.returns-in-ByElement
returns-in-ByElement c =
    by_element_lem c.requires.sources c.in-ByElement.is _ _ c.renew_v.ensures

pub returns-in_default : goal.returns-in_default
returns-in_default c =
    let is_b : c.args.fields.family ≡ Vector =
    ⊎_elim (λ (e : c.args.fields.family ≡ ByElement). absurd (c.in_default.not-ByElement e)) (λ (e : c.args.fields.family ≡ Vector). e) c.requires.into_v in
    by_pairs c.requires.sources is_b _ _ c.renew_v-in_default.ensures
