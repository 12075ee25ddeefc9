-- A candidate has the layout of the row that it was built by, and no word has two: so it says what that row says of it, and the test of these fields
-- decides which word has given ones. Assumes nothing.
use Prim.Native.Nat.{ℕ, ◌+◌, ◌*◌, ◌/◌, ◌%◌, ◌^◌, ◌<◌, ◌≤◌}
use native.Mathlib.Omega.{arith}
use mathlib.Core.Path.{◌≡◌, refl, sym, ap, ◌∙◌, subst}
use mathlib.Core.Logic.{◌⊎◌, ◌≢◌}
use mathlib.Core.List.Memᴰ.{head as here}
use mathlib.Core.List.Memᴰ.{tail as next}
use mathlib.Core.List.{List, [], ◌∷◌, Memᴰ}
use mathlib.Core.Bool.{Bool, true, false, not, ◌||◌, cond}
use lib.Dec.{eqb}
use lib.ListN.{get_or}
use Rattle.std.specs.Prelude.{Some, None}
use Rattle.std.specs.Bool.{then_some}
use Rattle.std.proofs.lemmas.Option.{same_Some, cond_some}
use Rattle.laws.specs.Lists.{Each}
use Rattle.laws.proofs.Tests.{one_of_three, by_three, never_both}
use Rattle.layouts.specs.Layout.{Layout, size, matches, value, parts, build}
use Rattle.layouts.proofs.Inverse.{Fit, parts-build}
use Rattle.words.specs.Rows.{row_a, row_b}
use Rattle.words.specs.Says.{As, Row, table, describe, fields_a16, fields_a32, fields_b}
use Rattle.words.specs.Kinds.{fields_as}
use Rattle.words.specs.Numbers.{bit_of}
use Rattle.words.specs.declared.Family.{Family}
use Rattle.words.specs.declared.Family.TheVariants.{ByElement, Vector, Saturating, LongLong, Long}
use Rattle.words.specs.declared.Fields.{Fields}
use Rattle.words.specs.declared.Kind.{Kind}
use Rattle.words.specs.declared.Kind.TheVariants as kind
use Rattle.words.proofs.Numbers.{bit_range}
use Rattle.words.proofs.Table.{described_exactly}
use Rattle.words.proofs.Ranges.{in_range}
use Rattle.encoding.specs.Encode.{Has, TheWord}
use Rattle.encoding.specs.Candidate.{values_a16, values_a32, values_b, values_c16, values_c32, values_d, values_e, lane_b, kind_by, kind_with, built_as, candidate_by}
use Rattle.encoding.proofs.Only.{only}

-- ---- any row

-- a word built of values that fit has these values and the layout
built : (l : Layout) (vs : List ℕ) (w : ℕ) → Fit l vs → w ≡ build l vs → (parts l w ≡ vs) × (matches l w ≡ true)
built l vs w fit e =
    let z : 0 * 2 ^ size l + build l vs ≡ w = omega arith in
    subst (λ (x : ℕ). (parts l x ≡ vs) × (matches l x ≡ true)) z (parts-build l vs 0 fit)

-- so it says what its row says, where its size is not reserved
abbrev Says : ℕ → Row → Type 0
Says w r = (vs : List ℕ) → Fit r.layout vs → r.reserved (value r.layout w) ≡ false → w ≡ build r.layout vs → describe w ≡ As (r.fields (value r.layout w))

row_says : (w : ℕ) (r : Row) → Memᴰ r table → Says w r
row_says w r listed vs fit o e =
    (described_exactly w (r.fields (value r.layout w))).1
    (record { row = r; listed = listed; matching = (built r.layout vs w fit e).1; open_size = o; fields = refl })

each_says : (w : ℕ) (rs : List Row) → ((r : Row) → Memᴰ r rs → Says w r) → Each (Says w) rs
each_says w [] k = tt
each_says w (r ∷ rs) k = (k r (here refl), each_says w rs (λ q m. k q (next m)))

says : (w : ℕ) → Each (Says w) table
says w = each_says w table (row_says w)

-- ---- the rows of the candidate

-- U and S are bits, so that each value is within its field
module _ (f : Fields) where
  u : bit_of f.unsigned ≤ 1
  u = bit_range f.unsigned

  s : bit_of f.subtract ≤ 1
  s = bit_range f.subtract

-- ss, the third value of A and of B
abbrev third : List ℕ → ℕ
third vs = get_or vs 2 0

-- A: the candidate's ss says which fields the row reads
a : (w : ℕ) (vs : List ℕ) → Fit row_a vs → not (eqb (third vs) 0b01 || eqb (third vs) 0b10) ≡ false → w ≡ build row_a vs
    → describe w ≡ As (cond (eqb (third vs) 0b01) (fields_a16 (value row_a w)) (fields_a32 (value row_a w)))
a w vs fit o e =
    let ss : value row_a w "s" ≡ third vs = ap third (built row_a vs w fit e).0 in
    (says w).0 vs fit (ap (λ (x : ℕ). not (eqb x 0b01 || eqb x 0b10)) ss ∙ o) e
    ∙ ap (λ (x : ℕ). As (cond (eqb x 0b01) (fields_a16 (value row_a w)) (fields_a32 (value row_a w)))) ss

-- B: the ss of each of its lanes is not reserved
lane_open : (lane : ℕ) → lane_b lane ≡ true → eqb (lane / 16 % 4) 0b11 ≡ false
lane_open lane l = by_three lane 8 16 32 l (λ (n : ℕ). eqb (n / 16 % 4) 0b11 ≡ false) refl refl refl

b : (f : Fields) (w : ℕ) → lane_b f.lane ≡ true → w ≡ build row_b (values_b f) → describe w ≡ As (fields_b (value row_b w))
b f w l e =
    let fit : Fit row_b (values_b f) = omega (arith, u f, s f) in
    let ss : value row_b w "s" ≡ f.lane / 16 % 4 = ap third (built row_b (values_b f) w fit e).0 in
    (says w).1.0 (values_b f) fit (ap (λ (x : ℕ). eqb x 0b11) ss ∙ lane_open f.lane l) e

-- a word that was built by the kind's row says the kind's fields
own : (k : Kind) (f : Fields) (w : ℕ) → (k ≡ kind.Vector → lane_b f.lane ≡ true) → w ≡ built_as k f → describe w ≡ As (fields_as k w)
unfolding fields_as
own kind.ByElement16 f w l = a w (values_a16 f) (omega (arith, u f, s f)) refl
own kind.ByElement32 f w l = a w (values_a32 f) (omega (arith, u f, s f)) refl
own kind.Vector f w l = b f w (l refl)
own kind.Saturating16 f w l = let (_, (_, (c16, _))) = says w in c16 (values_c16 f) (omega (arith, s f)) refl
own kind.Saturating32 f w l = let (_, (_, (_, (c32, _)))) = says w in c32 (values_c32 f) (omega (arith, s f)) refl
own kind.LongLong2 f w l = let (_, (_, (_, (_, (d2, _))))) = says w in d2 (values_d 2 f) (omega (arith, u f, s f)) refl
own kind.LongLong4 f w l = let (_, (_, (_, (_, (_, (d4, _)))))) = says w in d4 (values_d 4 f) (omega (arith, u f, s f)) refl
own kind.Long2 f w l = let (_, (_, (_, (_, (_, (_, (e2, _))))))) = says w in e2 (values_e 2 f) (omega (arith, u f, s f)) refl
own kind.Long4 f w l = let (_, (_, (_, (_, (_, (_, (_, (e4, _)))))))) = says w in e4 (values_e 4 f) (omega (arith, u f, s f)) refl

-- ---- the kind of the candidate

-- a choice of two kinds that are not B's
two : (t : Bool) (p q k : Kind) (f : Fields) → p ≢ kind.Vector → q ≢ kind.Vector → cond t (Some p) (Some q) ≡ Some k
    → (built_as k f ≡ cond t (built_as p f) (built_as q f)) × (k ≡ kind.Vector → lane_b f.lane ≡ true)
two true p q k f np nq e = let s : p ≡ k = same_Some p k e in (ap (λ (x : Kind). built_as x f) (sym s), λ v. absurd (np (s ∙ v)))
two false p q k f np nq e = let s : q ≡ k = same_Some q k e in (ap (λ (x : Kind). built_as x f) (sym s), λ v. absurd (nq (s ∙ v)))

-- of the kind the candidate is the family's, and B has one of its lanes
by_kind : (family : Family) (f : Fields) (k : Kind) → kind_by family f ≡ Some k
    → (built_as k f ≡ candidate_by family f) × (k ≡ kind.Vector → lane_b f.lane ≡ true)
by_kind ByElement f k = two (eqb f.lane 16) _ _ k f (λ (z : kind.ByElement16 ≡ kind.Vector). cc) (λ (z : kind.ByElement32 ≡ kind.Vector). cc)
by_kind Vector f k = λ e. let p = cond_some (lane_b f.lane) kind.Vector k e in (ap (λ (x : Kind). built_as x f) (sym p.1), λ _. p.0)
by_kind Saturating f k = two (eqb f.lane 16) _ _ k f (λ (z : kind.Saturating16 ≡ kind.Vector). cc) (λ (z : kind.Saturating32 ≡ kind.Vector). cc)
by_kind LongLong f k = two (eqb f.group 2) _ _ k f (λ (z : kind.LongLong2 ≡ kind.Vector). cc) (λ (z : kind.LongLong4 ≡ kind.Vector). cc)
by_kind Long f k = two (eqb f.group 2) _ _ k f (λ (z : kind.Long2 ≡ kind.Vector). cc) (λ (z : kind.Long4 ≡ kind.Vector). cc)

-- no word has another lane of B
lane_known : (lane : ℕ) → (lane ≡ 8) ⊎ ((lane ≡ 16) ⊎ (lane ≡ 32)) → lane_b lane ≡ true
lane_known = one_of_three (λ n. lane_b n ≡ true) 8 16 32 refl refl refl

one : (p q : Kind) (t : Bool) → cond t (Some p) (Some q) ≡ None → ⊥
one p q true e = cc
one p q false e = cc

no_lane : (t : Bool) (p : Kind) → cond t (Some p) None ≡ None → t ≡ false
no_lane true p e = cc
no_lane false p e = refl

none_by : (family : Family) (f : Fields) → kind_by family f ≡ None → (w : ℕ) → Has f w → ⊥
none_by ByElement f e w h = one _ _ (eqb f.lane 16) e
none_by Vector f e w h = never_both _ (lane_known f.lane (in_range w f h.says).lane) (no_lane (lane_b f.lane) kind.Vector e)
none_by Saturating f e w h = one _ _ (eqb f.lane 16) e
none_by LongLong f e w h = one _ _ (eqb f.group 2) e
none_by Long f e w h = one _ _ (eqb f.group 2) e

-- where there is no kind no word has the fields
pub no_kind : (f : Fields) → kind_with f ≡ None → (w : ℕ) → Has f w → ⊥
no_kind f = none_by f.family f

-- ---- the test

-- the word that was built has the fields where it says them, and else none has
pub tested : (k : Kind) (f g : Fields) (w : ℕ) (t : Bool) → kind_with f ≡ Some k → w ≡ built_as k f → w < 2 ^ 32 → g ≡ fields_as k w
    → (t ≡ true → g ≡ f) → (g ≡ f → t ≡ true) → TheWord (Has f) (then_some t w)
tested k f g w true ek ew lt eg then_same if_same =
    record { fits = lt; says = own k f w (by_kind f.family f k ek).1 ew ∙ ap As (sym eg ∙ then_same refl) }
tested k f g w false ek ew lt eg then_same if_same = λ v h.
    let p = by_kind f.family f k ek in
    let same : w ≡ v = ew ∙ p.0 ∙ only f v h.fits h.says in
    let twice : As (fields_as k w) ≡ As f = sym (own k f w p.1 ew) ∙ ap describe same ∙ h.says in
    let known : g ≡ f = cc in
    never_both _ (if_same known) refl
