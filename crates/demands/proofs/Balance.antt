-- The statements of specs/Balance.antt, proved. Assumes nothing.
use Prim.Native.Nat.{ℕ, ◌+◌}
use native.Mathlib.Omega.{arith}
use mathlib.Core.Path.{◌≡◌, sym, subst}
use mathlib.Core.List.{List, [], ◌∷◌}
use lib.ListN.{length, replicate}
use Rattle.settings.specs.declared.Settings.{Settings}
use Rattle.bits.proofs.Bits as bits
use Rattle.tally.specs.Tally.{plus}
use Rattle.tally.specs.declared.Counts.{Counts}
use Rattle.machine.specs.Execute.{Outcome, execute_paper}
use Rattle.machine.specs.Run.{run_of}
use Rattle.runlist.specs.Plan.{Found, Asked}
use Rattle.runlist.specs.RunList.{no_tally, tallied, carried_out, run_paper}
use Rattle.demands.specs.Balance.{ones, BitsAre, Balances, RisesFromZeros, FallsFromOnes, RunBalances, EndBalances, ListBalances}
use Rattle.demands.proofs.Execution.{each_counted, lengths_kept}

pub bits_are : BitsAre
bits_are z za = omega (arith, bits.bits_are z, bits.bits_are za)

-- ---- a word

module _ (s : Settings) (w : ℕ) (z za : List ℕ) where
  abbrev o : Outcome
  o = execute_paper s w z za

  z_long : length z ≡ length (execute_paper s w z za).z
  z_long = sym (lengths_kept s w z za).0

  za_long : length za ≡ length (execute_paper s w z za).za
  za_long = sym (lengths_kept s w z za).1

  pub word_balances : Balances z za (execute_paper s w z za)
  word_balances =
      let e = each_counted s w z za in
      omega (arith, e.0, e.1, bits.balance z o.z z_long, bits.balance za o.za za_long)

  pub rises_from_zeros : RisesFromZeros z za (execute_paper s w z za)
  rises_from_zeros = omega (arith, (each_counted s w z za).0, bits.rises_le z o.z z_long, bits.rises_le za o.za za_long)

  pub falls_from_ones : FallsFromOnes z za (execute_paper s w z za)
  falls_from_ones = omega (arith, (each_counted s w z za).1, bits.falls_le z o.z z_long, bits.falls_le za o.za za_long)

-- ---- a run

-- from any tally on: what it had stands on both sides
from_tally : (s : Settings) (ws z za : List ℕ) (t : Counts)
    → ones (run_of (execute_paper s) ws z za).z (run_of (execute_paper s) ws z za).za + (tallied t (run_of (execute_paper s) ws z za).reports).falls + t.rises
    ≡ ones z za + (tallied t (run_of (execute_paper s) ws z za).reports).rises + t.falls
unfolding run_of tallied
from_tally s [] z za t = omega arith
from_tally s (w ∷ ws) z za t =
    let o : Outcome = execute_paper s w z za in
    omega (arith, word_balances s w z za, from_tally s ws o.z o.za (plus t o.rises o.falls o.written))

pub run_balances : RunBalances
run_balances s ws z za = omega (arith, from_tally s ws z za no_tally)

-- ---- a list

pub list_balances : ListBalances
unfolding run_paper
list_balances list z za report a e =
    subst (λ (x : Found Asked). EndBalances a za (carried_out x z za report)) (sym e) (run_balances a.settings a.words a.z (replicate (length za) 0))
