-- The ZA vectors of a word: where they are, and that writing one after the other comes to ZA after the step. Assumes nothing.
use Prim.Native.Nat.{ℕ, zero, suc, ◌+◌, ◌-◌, ◌*◌, ◌/◌, ◌%◌, ◌≤◌, ◌<◌}
use native.Mathlib.Nat.{mod-lt}
use native.Mathlib.Omega.{arith}
use mathlib.Core.Path.{◌≡◌, refl, sym, ap, ◌∙◌, subst}
use mathlib.Core.Logic.{◌⊎◌, inl, inr}
use mathlib.Core.Bool.{Bool, true, false, ◌||◌}
use mathlib.Core.List.{List}
use lib.Dec.{eqb}
use lib.ListN.{length, get_or}
use borrow.Author.Tests.{eqb-true, eq-eqb}
use Rattle.laws.proofs.Tests.{never_both, either, by_lt}
use Rattle.settings.specs.Lengths.{VectorLength}
use Rattle.settings.specs.Valid.{array_bytes}
use Rattle.settings.specs.declared.Settings.{Settings}
use Rattle.settings.proofs.Lengths.{same_length}
use Rattle.words.specs.Ranges.{Ranges}
use Rattle.words.specs.declared.Family.TheVariants.{LongLong, Long}
use Rattle.words.specs.declared.Fields.{Fields}
use Rattle.words.proofs.Ranges.{in_family}
use Rattle.recipes.specs.Recipe.{per_source}
use Rattle.recipes.proofs.Inside.{length-new_bytes}
use Rattle.elements.specs.Files.{vector_at, replaced}
use Rattle.elements.proofs.Files.{Placed, Names, renewed_cong, replaced-renewed}
use Rattle.machine.specs.Step.{stride, selected, first_vector, some_below, writes_vector, new_vector, za_after}
use Rattle.machine.specs.Loop.{Grid, place, becomes, IntoZa}
use Rattle.machine.proofs.Grid.{Written, row_written, which, place_lt, place_distinct, place-which, which_lt, which_row, r_lt, i_lt}

-- a number below n that passes
pub some_below_lem : (n : ℕ) (test : ℕ → Bool) → some_below n test ≡ true → (i : ℕ) × ((i < n) × (test i ≡ true))
unfolding some_below
some_below_lem zero test e = absurd (never_both _ refl (sym e))
some_below_lem (suc n) test e =
    either (test n) (some_below n test) e
    (λ t. (n, (omega arith, t)))
    (λ t. let b = some_below_lem n test t in (b.0, (omega (arith, b.1.0), b.1.1)))

pub below_some : (n : ℕ) (test : ℕ → Bool) (i : ℕ) → i < n → test i ≡ true → some_below n test ≡ true
unfolding some_below
below_some zero test i h t = absurd (omega arith)
below_some (suc n) test i h t =
    by_lt i n
    (λ l. rw (below_some n test i l t) (or-true (test n)))
    (λ l. let e : i ≡ n = omega arith in rw (← e, t))
  where
    or-true : (b : Bool) → (b || true) ≡ true
    or-true true = refl
    or-true false = refl

-- the group, as a word has it
pub group_numbers : (f : Fields) → Ranges f → IntoZa f → (f.group ≡ 2) ⊎ (f.group ≡ 4)
group_numbers f g (inl e) = (in_family f g LongLong e).0
group_numbers f g (inr e) = (in_family f g Long e).0

-- k, by its number
pub two_or_four_vectors : (f : Fields) → IntoZa f → (k : ℕ) → k ≡ per_source f.family → (k ≡ 2) ⊎ (k ≡ 4)
two_or_four_vectors f (inl e) k ek = inr (ek ∙ ap per_source e)
two_or_four_vectors f (inr e) k ek = inl (ek ∙ ap per_source e)

-- rows of a multiple of 4 vectors; rounding down to a multiple of k keeps k vectors below the row's end
over_numbers : (w group k x : ℕ) → VectorLength w → (group ≡ 2) ⊎ (group ≡ 4) → (k ≡ 2) ⊎ (k ≡ 4)
    → Grid w group (w / group) k (x % (w / group) - x % (w / group) % k) × ((x % (w / group) - x % (w / group) % k) % k ≡ 0)
over_numbers w group k x v = go
  where
    grid : (stride : ℕ) → w / group ≡ stride → stride % 4 ≡ 0 → 0 < stride → group * stride ≡ w → (k ≡ 2) ⊎ (k ≡ 4)
        → Grid w group stride k (x % stride - x % stride % k) × ((x % stride - x % stride % k) % k ≡ 0)
    grid stride e m p t (inl h) =
        let l = mod-lt x p in rw h (record { rows = t; some = omega arith; fits = omega arith }, omega arith)
    grid stride e m p t (inr h) =
        let l = mod-lt x p in rw h (record { rows = t; some = omega arith; fits = omega arith }, omega arith)

    go : (group ≡ 2) ⊎ (group ≡ 4) → (k ≡ 2) ⊎ (k ≡ 4)
        → Grid w group (w / group) k (x % (w / group) - x % (w / group) % k) × ((x % (w / group) - x % (w / group) % k) % k ≡ 0)
    go (inl h) = grid (w / group) refl (rw h (omega (arith, v.whole))) (rw h (omega (arith, v.least))) (rw h (omega (arith, v.whole)))
    go (inr h) = grid (w / group) refl (rw h (omega (arith, v.whole))) (rw h (omega (arith, v.least))) (rw h (omega (arith, v.whole)))

-- the first n of a word's vectors are there, and the new ones are as long
pub placed_to : (f : Fields) → Ranges f → {w stride k first : ℕ} → VectorLength w → Grid w f.group stride k first → (z za : List ℕ) → length za ≡ w * w
    → (n : ℕ) → n ≤ f.group * k → Placed (place first stride k) (becomes f w first stride k z za) w w n za
unfolding becomes
placed_to f ranges {w} v g z za long n h =
    record {
      long = long;
      inside = λ q l. place_lt g q (omega arith);
      wide = λ q l. length-new_bytes f ranges _ w _ _ _ (omega (arith, v.whole));
    }

module _ (s : Settings) (v : VectorLength (array_bytes s)) (f : Fields) (g : Ranges f) (za : IntoZa f) where
  numbers : Grid (array_bytes s) f.group (stride s f) (per_source f.family) (first_vector s f) × (first_vector s f % per_source f.family ≡ 0)
  unfolding stride selected first_vector
  numbers =
      over_numbers (array_bytes s) f.group (per_source f.family) (get_or s.select (f.select - 8) 0 + f.offset) v (group_numbers f g za) (two_or_four_vectors f za _ refl)

  pub grid : Grid (array_bytes s) f.group (stride s f) (per_source f.family) (first_vector s f)
  grid = numbers.0

  -- the first vector is a multiple of k
  pub first_multiple : first_vector s f % per_source f.family ≡ 0
  first_multiple = numbers.1

  -- the test of the definition says so
  pub tested : (u : ℕ) → writes_vector s f u ≡ true → Written grid u
  unfolding writes_vector
  tested u e =
      let r = some_below_lem f.group (λ r. some_below (per_source f.family) (λ i. eqb u (first_vector s f + r * stride s f + i))) e in
      let i = some_below_lem (per_source f.family) (λ i. eqb u (first_vector s f + r.0 * stride s f + i)) r.1.1 in
      subst (Written grid) (sym (eqb-true u _ i.1.1)) (row_written grid r.0 i.0 i.1.0)

  pub passes : (r i : ℕ) → r < f.group → i < per_source f.family → writes_vector s f (first_vector s f + r * stride s f + i) ≡ true
  unfolding writes_vector
  passes r i hr hi =
      let u : ℕ = first_vector s f + r * stride s f + i in
      below_some f.group (λ r. some_below (per_source f.family) (λ i. eqb u (first_vector s f + r * stride s f + i))) r hr
      (below_some (per_source f.family) (λ i. eqb u (first_vector s f + r * stride s f + i)) i hi (eq-eqb u u refl))

  module _ (z a : List ℕ) (long : length a ≡ array_bytes s * array_bytes s) where
    abbrev w : ℕ
    w = array_bytes s

    abbrev k : ℕ
    k = per_source f.family

    abbrev at : ℕ → ℕ
    at = place (first_vector s f) (stride s f) k

    abbrev new : ℕ → List ℕ
    new = becomes f w (first_vector s f) (stride s f) k z a

    pub placed : Placed at new w w (f.group * k) a
    placed = placed_to f g v grid z a long (f.group * k) (omega arith)

    passes_at : (q : ℕ) → q < f.group * k → writes_vector s f (at q) ≡ true
    unfolding place
    passes_at q h = passes (q / k) (q % k) (r_lt grid q h) (i_lt grid q)

    names : Names at (which grid) (writes_vector s f) w (f.group * k)
    names =
        record {
          named = λ u h e. (which_lt grid u h (tested u e), place-which grid u h (tested u e));
          all = passes_at;
        }

    -- the vectors by their number are those by r and i
    by_number : (u : ℕ) → u < w → writes_vector s f u ≡ true
        → new (which grid u) ≡ new_vector s f z (u / stride s f) (u % stride s f - first_vector s f) (vector_at w u a)
    unfolding becomes new_vector
    by_number u h e =
        let y = tested u e in
        let r = which_row grid u y in
        rw (place-which grid u h y, r.0, r.1, same_length s)

    -- the loop's result is ZA after the step
    pub array_is : replaced at new w (f.group * k) a ≡ za_after s f z a
    unfolding za_after
    array_is =
        replaced-renewed at (which grid) new (writes_vector s f) w w (f.group * k) a placed (place_distinct grid) names
        ∙ renewed_cong (writes_vector s f) (λ u. new (which grid u))
        (λ u. new_vector s f z (u / stride s f) (u % stride s f - first_vector s f) (vector_at w u a)) w w a by_number
