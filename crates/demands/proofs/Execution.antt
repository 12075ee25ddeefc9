-- The statements of specs/Execution.antt, proved. Assumes nothing.
use Prim.Native.Nat.{ℕ, ◌*◌}
use native.Mathlib.Omega.{arith}
use mathlib.Core.Path.{◌≡◌, refl, sym, ap, ◌∙◌, subst}
use mathlib.Core.Logic.{inl, inr, ⊎_elim, ◌≢◌}
use mathlib.Core.Bool.{cond}
use mathlib.Core.List.{List}
use Rattle.settings.specs.declared.Settings.{Settings}
use Rattle.settings.proofs.Lengths.{vector_bits, same_length}
use Rattle.words.specs.declared.Family.{Family}
use Rattle.words.specs.declared.Family.TheVariants.{ByElement, Vector, Saturating, LongLong, Long}
use Rattle.words.specs.declared.Fields.{Fields}
use Rattle.bits.proofs.Bits.{rises_same, falls_same, toggled_differs}
use Rattle.recipes.specs.Recipe.{per_source}
use Rattle.machine.specs.Execute.{Outcome, execute_paper, refused_with, writes_za, stepped}
use Rattle.machine.specs.Step.{z_after, za_after}
use Rattle.machine.specs.Loop.{IntoV, IntoZa}
use Rattle.machine.proofs.Stepping.{stepped_to, stepped_z}
use Rattle.machine.proofs.Small.{counts_small}
use Rattle.demands.specs.Execution.{vl_of, LengthIsVl, Accepted, AcceptedSteps, AcceptedExactly, AlwaysInOrder}
use Rattle.demands.specs.Execution.{Always, KeepsIfRefused, SameLengths, StillBytes, CountsEach, CountsToggled, AtMostWritten, FewWritten}
use Rattle.demands.specs.Execution.{Whenever, ElementsA, ElementsB, ElementsC, ElementsZa, WrittenIs, ElsewhereZ, ZElsewhere, ElsewhereZa}
use Rattle.demands.specs.Execution.{WheneverV, ClearsAbove, CountsCleared, SameAt128, WheneverZa, First, Distinct, Exact}
use Rattle.demands.proofs.Outcomes.{accepted, in_order, IsRefused, refused_or_accepted, stepped_number}
use Rattle.demands.proofs.Accepted.{step_accepts, step_lengths, step_bytes, step_each, step_few}
use Rattle.demands.proofs.Accepted.{elements_a, elements_b, elements_c, elements_d, elements_e, clears_above, counts_cleared, same_at_128, out_z, out-za}
use Rattle.demands.proofs.Accepted.{first, distinct, exact}

-- ---- VL

pub length_is_vl : LengthIsVl
length_is_vl s v = (vector_bits s v, ap (λ (n : ℕ). 8 * n) (same_length s) ∙ vector_bits s v)

-- ---- which words are accepted, and how the others are refused

pub accepted_steps : AcceptedSteps
accepted_steps s w f z za a = accepted s w z za f a

pub accepted_exactly : AcceptedExactly
accepted_exactly s w z za = (
  λ e. ⊎_elim
      (λ (r : IsRefused s w z za). absurd (r.1.0 (sym (ap (λ (o : Outcome). o.number) r.1.1) ∙ e)))
      (λ (a : (f : Fields) × Accepted s w f z za). a)
      (refused_or_accepted s w z za),
  λ a. ap (λ (o : Outcome). o.number) (accepted s w z za a.0 a.1) ∙ stepped_number s a.0 z za,
)

pub refused_in_order : AlwaysInOrder
refused_in_order s w z za = in_order s w z za

-- ---- every outcome

-- what holds of a refusal and of the step of an accepted word holds of every outcome
always : (P : List ℕ → List ℕ → Outcome → Type 0) → ((n : ℕ) (z za : List ℕ) → n ≢ 0 → P z za (refused_with n z za))
    → ((s : Settings) (w : ℕ) (f : Fields) (z za : List ℕ) → Accepted s w f z za → P z za (stepped s f z za)) → Always P
always P k l s w z za =
    ⊎_elim
    (λ (r : IsRefused s w z za). subst (P z za) (sym r.1.1) (k r.0 z za r.1.0))
    (λ (a : (f : Fields) × Accepted s w f z za). subst (P z za) (sym (accepted_steps s w a.0 z za a.1)) (l s w a.0 z za a.1))
    (refused_or_accepted s w z za)

pub refused_keeps : Always KeepsIfRefused
refused_keeps = always KeepsIfRefused (λ n z za h _. (refl, refl, refl, refl, refl)) step_accepts

pub lengths_kept : Always SameLengths
lengths_kept = always SameLengths (λ n z za h. (refl, refl)) step_lengths

pub bytes_kept : Always StillBytes
bytes_kept = always StillBytes (λ n z za h b c. (b, c)) step_bytes

pub each_counted : Always CountsEach
each_counted = always CountsEach (λ n z za h. (omega (arith, rises_same z, rises_same za), omega (arith, falls_same z, falls_same za))) step_each

pub toggled_whole : Always CountsToggled
toggled_whole s w z za =
    let o : Outcome = execute_paper s w z za in
    let e = each_counted s w z za in
    omega (arith, e.0, e.1, toggled_differs z o.z, toggled_differs za o.za)

pub toggled_le_written : Always AtMostWritten
toggled_le_written = always AtMostWritten (λ n z za h. omega arith) step_few

pub few_written : Always FewWritten
few_written s w z za = (counts_small s w z za).2

-- ---- where a word of a family is accepted

-- what a word of the family leaves in Z and in ZA
abbrev left_z : Family → Settings → Fields → List ℕ → List ℕ
left_z family s f z = cond (writes_za family) z (z_after s f z)

abbrev left_za : Family → Settings → Fields → List ℕ → List ℕ → List ℕ
left_za family s f z za = cond (writes_za family) (za_after s f z za) za

-- what holds of the family's step holds of the outcome
whenever : (family : Family) (P : Settings → Fields → List ℕ → List ℕ → Outcome → Type 0)
    → ((s : Settings) (w : ℕ) (f : Fields) (z za : List ℕ) → Accepted s w f z za → f.family ≡ family
    → P s f z za (stepped_to s f z za (left_z family s f z) (left_za family s f z za)))
    → Whenever family P
unfolding stepped
whenever family P h s w f z za a e =
    subst (P s f z za)
    (sym (accepted_steps s w f z za a ∙ ap (λ (x : Family). stepped_to s f z za (left_z x s f z) (left_za x s f z za)) e))
    (h s w f z za a e)

pub written_is : WrittenIs
written_is =
    record {
      in_a = whenever ByElement (λ s f z za o. o.written ≡ vl_of s) (λ s w f z za a e. rw e);
      in_b = whenever Vector (λ s f z za o. o.written ≡ vl_of s) (λ s w f z za a e. rw e);
      in_c = whenever Saturating (λ s f z za o. o.written ≡ vl_of s) (λ s w f z za a e. rw e);
      in_d = whenever LongLong (λ s f z za o. o.written ≡ vl_of s * f.group * 4) (λ s w f z za a e. rw e);
      in_e = whenever Long (λ s f z za o. o.written ≡ vl_of s * f.group * 2) (λ s w f z za a e. rw e);
    }

pub by_element_step : Whenever ByElement ElementsA
by_element_step = whenever ByElement ElementsA elements_a

pub vector_step : Whenever Vector ElementsB
vector_step = whenever Vector ElementsB elements_b

pub saturating_step : Whenever Saturating ElementsC
saturating_step = whenever Saturating ElementsC elements_c

pub long_long_step : Whenever LongLong (ElementsZa 4)
long_long_step = whenever LongLong (ElementsZa 4) elements_d

pub long_step : Whenever Long (ElementsZa 2)
long_step = whenever Long (ElementsZa 2) elements_e

-- ---- the upper part of a V write

-- what holds of the step in A and B
whenever_v : (P : Settings → Fields → List ℕ → List ℕ → Outcome → Type 0)
    → ((s : Settings) (w : ℕ) (f : Fields) (z za : List ℕ) → Accepted s w f z za → IntoV f → P s f z za (stepped_z s f z za)) → WheneverV P
whenever_v P h = (whenever ByElement P (λ s w f z za a e. h s w f z za a (inl e)), whenever Vector P (λ s w f z za a e. h s w f z za a (inr e)))

pub cleared_above : WheneverV ClearsAbove
cleared_above = whenever_v ClearsAbove clears_above

pub cleared_counted : WheneverV CountsCleared
cleared_counted = whenever_v CountsCleared counts_cleared

pub at_128 : WheneverV SameAt128
at_128 = whenever_v SameAt128 same_at_128

-- ---- everything else stays

pub z_stays : ZElsewhere
z_stays =
    record {
      in_a = whenever ByElement ElsewhereZ (λ s w f z za a q. out_z s w f z za a);
      in_b = whenever Vector ElsewhereZ (λ s w f z za a q. out_z s w f z za a);
      in_c = whenever Saturating ElsewhereZ (λ s w f z za a q. out_z s w f z za a);
    }

pub za_stays : WheneverZa ElsewhereZa
za_stays = (
  whenever LongLong (ElsewhereZa 4) (λ s w f z za a q. (refl, out-za s w f z za a LongLong q (inl q))),
  whenever Long (ElsewhereZa 2) (λ s w f z za a q. (refl, out-za s w f z za a Long q (inr q))),
)

-- ---- the vectors of ZA that a word writes

-- what holds of k holds of 4 in D and of 2 in E
by-k : (P : ℕ → Settings → Fields → Type 0)
    → ((s : Settings) (w : ℕ) (f : Fields) (z za : List ℕ) → Accepted s w f z za → IntoZa f → P (per_source f.family) s f)
    → WheneverZa (λ k s f z za o. P k s f)
by-k P h = (
  λ s w f z za a q. subst (λ (x : Family). P (per_source x) s f) q (h s w f z za a (inl q)),
  λ s w f z za a q. subst (λ (x : Family). P (per_source x) s f) q (h s w f z za a (inr q)),
)

pub first_vector_is : WheneverZa (λ k s f z za o. First k s f)
first_vector_is = by-k First first

pub vectors_distinct : WheneverZa (λ k s f z za o. Distinct k s f)
vectors_distinct = by-k Distinct distinct

pub writes_exactly : WheneverZa (λ k s f z za o. Exact k s f)
writes_exactly = by-k Exact exact
