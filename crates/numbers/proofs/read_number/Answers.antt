-- `numbers::read_number` meets its contract: each turn and each way out by a law of Turns.antt. Assumes nothing.
use Prim.Native.Nat.{ℕ, ◌<◌, ◌≤◌}
use native.Mathlib.Omega.{arith}
use mathlib.Core.Path.{◌≡◌, ◌∙◌}
use mathlib.Core.List.{List}
use mathlib.Core.Logic.{◌⊎◌, ⊎_elim}
use mathlib.Core.Bool.{false}
use lib.Dec.{ltb}
use lib.ListN.{get_or}
use Rattle.numbers.specs.Numbers.{greatest_byte}
use Rattle.numbers.proofs.Groups.{fits_fifth, fits_other, fifth_great, zero_last, last_group, group_follows}
use Rattle.numbers.proofs.Turns.{Reading, byte_first, Follows, follows, last_fits, out_ends, out-wrong, out_read, turn}
use Rattle.numbers.proofs.read_number.Goals as goal

-- a byte that went past the test is not above the greatest, either because it is a fifth and small or because it is another
passed : (k b : ℕ) → b < 256 → ((k ≡ 4) × (b ≤ 15)) ⊎ (k ≡ 4 → ⊥) → ltb (greatest_byte k) b ≡ false
passed k b l e = ⊎_elim (λ w. fits_fifth k b w.0 w.1) (λ w. fits_other k b w l) e

-- and where its top bit is set another group follows
more : {list : List ℕ} {at i k s v : ℕ} → Reading list at i k s v → get_or list i 0 < 256 → 128 ≤ get_or list i 0
    → ((k ≡ 4) × (get_or list i 0 ≤ 15)) ⊎ (k ≡ 4 → ⊥) → Follows k s v (get_or list i 0)
more r l h e = follows r _ l h (passed _ _ l e)

pub overflow_mul-answer : goal.overflow_mul-answer
overflow_mul-answer c = omega (arith, last_fits c.loop-i.invariant _ c.if-byte-lt128.true (passed _ _ (c.type_inv.list c.loop-i.i).fits c.else-groups-eq4.either))

pub overflow_add-answer : goal.overflow_add-answer
overflow_add-answer c = record { fits = last_fits c.loop-i.invariant _ c.if-byte-lt128.true (passed _ _ (c.type_inv.list c.loop-i.i).fits c.else-groups-eq4.either) }

pub overflow_mul-value : goal.overflow_mul-value
overflow_mul-value c = let f = more c.loop-i.invariant (c.type_inv.list c.loop-i.i).fits c.if-byte-lt128.false c.else-groups-eq4.either in omega arith

pub overflow_add-value : goal.overflow_add-value
overflow_add-value c = let f = more c.loop-i.invariant (c.type_inv.list c.loop-i.i).fits c.if-byte-lt128.false c.else-groups-eq4.either in omega arith

pub overflow_mul-scale : goal.overflow_mul-scale
overflow_mul-scale c = let f = more c.loop-i.invariant (c.type_inv.list c.loop-i.i).fits c.if-byte-lt128.false c.else-groups-eq4.either in omega arith

pub loop-i-preserved : goal.loop-i-preserved
loop-i-preserved c =
    turn c.loop-i.invariant _ (more c.loop-i.invariant (c.type_inv.list c.loop-i.i).fits c.if-byte-lt128.false c.else-groups-eq4.either)
    (byte_first _ _ _ c.if-list-i.false ∙ group_follows _ _ _ (passed _ _ (c.type_inv.list c.loop-i.i).fits c.else-groups-eq4.either) c.if-byte-lt128.false)

pub returns-then-list-i : goal.returns-then-list-i
returns-then-list-i c = out_ends c.loop-i.invariant c.if-list-i.true

pub returns-then-byte-gt15 : goal.returns-then-byte-gt15
returns-then-byte-gt15 c =
    out-wrong c.loop-i.invariant (byte_first _ _ _ c.if-list-i.false ∙ fifth_great _ _ _ c.if-groups-eq4.true c.if-byte-gt15.true)

pub returns-then-groups-gt0 : goal.returns-then-groups-gt0
returns-then-groups-gt0 c =
    out-wrong c.loop-i.invariant
    (byte_first _ _ _ c.if-list-i.false
    ∙ zero_last _ _ _ (passed _ _ (c.type_inv.list c.loop-i.i).fits c.else-groups-eq4.either) c.if-byte-eq0.true c.if-groups-gt0.true)

pub returns-else-byte-eq0 : goal.returns-else-byte-eq0
returns-else-byte-eq0 c =
    out_read c.loop-i.invariant _
    (byte_first _ _ _ c.if-list-i.false
    ∙ last_group _ _ _ (passed _ _ (c.type_inv.list c.loop-i.i).fits c.else-groups-eq4.either) c.if-byte-lt128.true
    (⊎_elim (λ w _. omega (arith, w.1)) (λ w z. absurd (w z)) c.else-byte-eq0.either))
