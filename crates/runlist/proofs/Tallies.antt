-- The tally of a run stays small: that of n words is at most n times what one word can count. Assumes nothing.
use Prim.Native.Nat.{ℕ, ◌+◌, ◌*◌, ◌≤◌}
use native.Mathlib.Omega.{arith}
use mathlib.Core.List.{List, [], ◌∷◌}
use lib.ListN.{length}
use Rattle.settings.specs.declared.Settings.{Settings}
use Rattle.tally.specs.Tally.{plus}
use Rattle.tally.specs.declared.Counts.{Counts}
use Rattle.machine.specs.Execute.{Outcome, execute_paper}
use Rattle.machine.specs.Run.{run_of}
use Rattle.machine.proofs.Small.{Small, counts_small}
use Rattle.runlist.specs.RunList.{no_tally, tallied}

-- n words can have counted as many
abbrev pub Within : ℕ → Counts → Type 0
Within n t = (t.rises ≤ 49152 * n) × (t.falls ≤ 49152 * n) × (t.written ≤ 8192 * n)

pub none_within : Within 0 no_tally
none_within = (omega arith, omega arith, omega arith)

pub one_more : (n : ℕ) (t : Counts) (o : Outcome) → Within n t → Small o → Within (n + 1) (plus t o.rises o.falls o.written)
one_more n t o b few = (omega (arith, b.0, few.0), omega (arith, b.1, few.1), omega (arith, b.2, few.2))

words_more : (s : Settings) (ws z za : List ℕ) (n : ℕ) (t : Counts) → Within n t
    → Within (n + length ws) (tallied t (run_of (execute_paper s) ws z za).reports)
unfolding run_of tallied
words_more s [] z za n t b = (omega (arith, b.0), omega (arith, b.1), omega (arith, b.2))
words_more s (w ∷ ws) z za n t b =
    let o = execute_paper s w z za in
    let all = words_more s ws o.z o.za (n + 1) _ (one_more n t o b (counts_small s w z za)) in
    (omega (arith, all.0), omega (arith, all.1), omega (arith, all.2))

-- the tally of a run
pub run_within : (s : Settings) (ws z za : List ℕ) → Within (length ws) (tallied no_tally (run_of (execute_paper s) ws z za).reports)
run_within s ws z za =
    let all = words_more s ws z za 0 no_tally none_within in
    (omega (arith, all.0), omega (arith, all.1), omega (arith, all.2))
