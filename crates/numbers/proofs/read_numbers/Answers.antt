use Rattle.std.proofs.Common.{◌≡◌, List, ℕ, Bor, Err, sym, ap, refl, ◌∙◌, arith, rules}
use Rattle.std.proofs.lemmas.List.{set-get_or}
use Rattle.numbers.specs.Numbers.{Read, number_at}
use Rattle.numbers.proofs.Rows.{number_back, fault_back, begin, one_more, out_fault, out_all}
use Rattle.numbers.proofs.read_numbers.Goals as goal

-- an answer at a reader's place, by the list that was lent and the place that the answers before it lead to
moved : (b d : List ℕ) (p q : ℕ) (t : Read) → d ≡ b → q ≡ p → t ≡ number_at d q → t ≡ number_at b p
moved b d p q t e f h = h ∙ ap (λ (l : List ℕ). number_at l q) e ∙ ap (number_at b) f

pub loop-slot-init : goal.loop-slot-init
loop-slot-init c = record { list = refl; filling = begin _ _ _ }

pub returns-in_err-slot : goal.returns-in_err-slot
returns-in_err-slot c =
    let told : c.from_residual.result ≡ Err c.in_err-slot.field-0.0 = search rules in
    let here = moved _ _ _ _ _ c.loop-slot.invariant.list refl (sym (fault_back _ _ c.in_err-slot.ensures.answer)) in
    let row = out_fault c.loop-slot.invariant.filling c.in_err-slot.field-0.0 (omega (arith, c.loop-slot-test.true, c.loop-slot.auto.out)) (sym here) in
    (told ∙ row.0, set-get_or _ _ _ ∙ row.1)

pub loop-slot-preserved : goal.loop-slot-preserved
loop-slot-preserved c =
    let here = moved _ _ _ _ _ c.loop-slot.invariant.list refl (sym (number_back _ _ _ _ c.in_ok-slot.ensures.answer c.next.ensures.place)) in
    record {
      list = ap (λ (l : Bor (List ℕ)). l.now) c.next.ensures.list ∙ c.loop-slot.invariant.list;
      filling = one_more c.loop-slot.invariant.filling _ (omega (arith, c.loop-slot-test.true, c.loop-slot.auto.out)) (sym here);
    }

pub returns : goal.returns
returns c = out_all c.loop-slot.invariant.filling (omega (arith, c.loop-slot-test.false, c.loop-slot.auto.out))
