-- A number at a place of a list: nothing past it is looked at, and it stands in the list whole. Assumes nothing.
use Prim.Native.Nat.{ℕ, suc, ◌+◌, ◌-◌, ◌^◌, ◌≤◌, ◌<◌}
use mathlib.Core.Path.{◌≡◌, refl, sym, ap, ◌∙◌}
use mathlib.Core.Logic.{◌≢◌, ◌⊎◌, inl, inr}
use mathlib.Core.List.{List, [], ◌∷◌, ◌++◌}
use native.Mathlib.Omega.{arith}
use native.Mathlib.Decide.{dec_le}
use lib.ListN.{length, take, drop, length-take, length-drop, drop_of_length-le}
use lib.Seq.{drop-append-le, drop-append_seam}
use Rattle.settings.specs.declared.Refusal.{Refusal}
use Rattle.settings.specs.declared.Refusal.TheVariants.{ListEnds, BadNumber}
use Rattle.numbers.specs.declared.Fault.{Fault}
use Rattle.numbers.specs.declared.Number.{Number}
use Rattle.numbers.specs.Numbers.{Got, got, short, wrong, group_then, numeral, number, no_number, placed, number_at, put}
use Rattle.numbers.specs.Theorems.{NoFurther}
use Rattle.numbers.proofs.Groups.{fifth_last, last_group, group_follows, Front, faulty, ends, goes_on, front}
use Rattle.numbers.proofs.Shortest.{put-length, read_put, read_shortest, read_length, read_small}

-- ---- bytes

-- what follows a number, or one that is wrong, changes nothing
pub reads_no_further : NoFurther
unfolding numeral
reads_no_further k [] t h = absurd (h refl)
reads_no_further k (b ∷ s) t h = go (reads_no_further (suc k) s t) (front k b)
  where
    go : (numeral (suc k) s ≢ short → numeral (suc k) (s ++ t) ≡ numeral (suc k) s) → Front k b → numeral k (b ∷ (s ++ t)) ≡ numeral k (b ∷ s)
    go ih (faulty w) = w (s ++ t) ∙ sym (w s)
    go ih (ends p l z) = last_group k b (s ++ t) p l z ∙ sym (last_group k b s p l z)
    go ih (goes_on p l) =
        group_follows k b (s ++ t) p l
        ∙ ap (group_then (b - 128)) (ih (λ e. h (group_follows k b s p l ∙ ap (group_then (b - 128)) e)))
        ∙ sym (group_follows k b s p l)

group-short : (g : ℕ) (x : Got) → group_then g x ≡ short → x ≡ short
group-short g (got v n) e = let z : ◌≡◌ {A = ℕ} 0 1 = cc in absurd (omega arith)
group-short g short e = refl
group-short g wrong e = let z : ◌≡◌ {A = ℕ} 0 1 = cc in absurd (omega arith)

-- five bytes are never too few
five_bytes : (k : ℕ) (s : List ℕ) → k ≤ 4 → 5 ≤ k + length s → numeral k s ≢ short
five_bytes k [] few h e = omega arith
five_bytes k (b ∷ s) few h e = go (five_bytes (suc k) s) (front k b)
  where
    go : (suc k ≤ 4 → 5 ≤ suc k + length s → numeral (suc k) s ≢ short) → Front k b → ⊥
    go ih (faulty w) = let a = w s in let z : ◌≡◌ {A = ℕ} 0 1 = cc in omega arith
    go ih (ends p l z) = let a = last_group k b s p l z in let y : ◌≡◌ {A = ℕ} 0 1 = cc in omega arith
    go ih (goes_on p l) =
        let n = fifth_last k b p l in
        ih (omega arith) (omega arith) (group-short (b - 128) (numeral (suc k) s) (sym (group_follows k b s p l) ∙ e))

-- ---- places

-- what stands at the place is a number, or wrong: then the place is in the list
begun : (list : List ℕ) (at : ℕ) → numeral 0 (drop at list) ≢ short → at ≤ length list
unfolding numeral
begun list at h =
    elim (dec_le at (length list)) [
      | yes y ↦ y
      | no n ↦
          let past : length list ≤ at = omega arith in
          absurd (h (ap (numeral 0) (drop_of_length-le list past)))
    ]

kept : (list t : List ℕ) (at : ℕ) → numeral 0 (drop at list) ≢ short → number_at (list ++ t) at ≡ number_at list at
unfolding number_at
kept list t at h = ap (placed at) (ap (numeral 0) (drop-append-le at list t (begun list at h)) ∙ reads_no_further 0 (drop at list) t h)

not_ended : (at : ℕ) (g : Got) → placed at g ≢ no_number ListEnds at → g ≢ short
not_ended at g h e = h (ap (placed at) e)

-- bytes after a list change nothing at a place of it, unless the list ended there
not_ended_kept : (list t : List ℕ) (at : ℕ) → number_at list at ≢ no_number ListEnds at → number_at (list ++ t) at ≡ number_at list at
unfolding number_at
not_ended_kept list t at h = kept list t at (not_ended at (numeral 0 (drop at list)) h)

-- so a number stays
pub number_kept : (list t : List ℕ) (at v n : ℕ) → number_at list at ≡ number v n → number_at (list ++ t) at ≡ number v n
number_kept list t at v n e =
    not_ended_kept list t at (λ (f : number_at list at ≡ no_number ListEnds at). let z : ◌≡◌ {A = ℕ} 0 1 = cc in omega arith) ∙ e

-- with five bytes left, bytes after the list change nothing
pub number_far : (list t : List ℕ) (at : ℕ) → at + 5 ≤ length list → number_at (list ++ t) at ≡ number_at list at
number_far list t at h = kept list t at (five_bytes 0 (drop at list) (omega arith) (omega (arith, length-drop at list)))

-- what is put at a place is read there, and the place after it is that of what follows
pub number_put : (before : List ℕ) (v : ℕ) (t : List ℕ) → v < 2 ^ 32 → number_at (before ++ (put v ++ t)) (length before) ≡ number v (length before + length (put v))
unfolding number_at
number_put before v t h = ap (placed (length before)) (ap (numeral 0) (drop-append_seam before (put v ++ t)) ∙ read_put v t h)

-- what was read determines its two numbers
same_number : (w n v p : ℕ) → number w n ≡ number v p → (w ≡ v) × (n ≡ p)
same_number w n v p e =
    let same : ◌≡◌ {A = Number} (record { value = w; next = n }) (record { value = v; next = p }) = cc in
    (ap (λ (x : Number). x.value) same, ap (λ (x : Number). x.next) same)

-- a number is read from the bytes at its place, and the place after it follows them
pub number-got : (list : List ℕ) (at v p : ℕ) → number_at list at ≡ number v p → (m : ℕ) × (numeral 0 (drop at list) ≡ got v m) × (at + m ≡ p)
unfolding number_at
number-got list at v p h = go (numeral 0 (drop at list)) refl h
  where
    go : (g : Got) → numeral 0 (drop at list) ≡ g → placed at g ≡ number v p → (m : ℕ) × (numeral 0 (drop at list) ≡ got v m) × (at + m ≡ p)
    go (got w m) q e = let x = same_number w (at + m) v p e in (m, q ∙ ap (λ (u : ℕ). got u m) x.0, x.1)
    go short q e = let z : ◌≡◌ {A = ℕ} 0 1 = cc in absurd (omega arith)
    go wrong q e = let z : ◌≡◌ {A = ℕ} 0 1 = cc in absurd (omega arith)

-- a number stands in the list whole, in one to five bytes, and is below 2 ^ 32
pub record Within (list : List ℕ) (at v n : ℕ) : Type 0 where
  pub past : at < n
  pub inside : n ≤ length list
  pub near : n ≤ at + 5
  pub below : v < 2 ^ 32
  pub long : n ≡ at + length (put v)

pub number_within : (list : List ℕ) (at v n : ℕ) → number_at list at ≡ number v n → Within list at v n
number_within list at v n h =
    let (m, q, y) = number-got list at v n h in
    let count : m ≡ length (put v) = read_length (drop at list) v m q in
    let bytes : length (take m (drop at list)) ≡ m = ap length (read_shortest (drop at list) v m q) ∙ sym count in
    let few = put-length v in
    record {
      past = omega arith;
      inside = omega (arith, length-take m (drop at list), length-drop at list);
      near = omega arith;
      below = read_small (drop at list) v m q;
      long = omega arith;
    }

same_fault : (j : Refusal) (q : ℕ) (k : Refusal) (p : ℕ) → no_number j q ≡ no_number k p → (k ≡ j) × (p ≡ q)
same_fault j q k p e =
    let same : ◌≡◌ {A = Fault} (record { refusal = k; place = p }) (record { refusal = j; place = q }) = cc in
    (ap (λ (x : Fault). x.refusal) same, ap (λ (x : Fault). x.place) same)

-- a fault is refusal 7 or 8, at the place where the number is due
pub number_fault : (list : List ℕ) (at : ℕ) (k : Refusal) (p : ℕ) → number_at list at ≡ no_number k p → (p ≡ at) × ((k ≡ ListEnds) ⊎ (k ≡ BadNumber))
unfolding number_at
number_fault list at k p h = go (numeral 0 (drop at list)) h
  where
    go : (g : Got) → placed at g ≡ no_number k p → (p ≡ at) × ((k ≡ ListEnds) ⊎ (k ≡ BadNumber))
    go (got w m) e = let z : ◌≡◌ {A = ℕ} 0 1 = cc in absurd (omega arith)
    go short e = let x = same_fault ListEnds at k p e in (x.1, inl x.0)
    go wrong e = let x = same_fault BadNumber at k p e in (x.1, inr x.0)
