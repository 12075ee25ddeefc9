-- The statements of specs/Theorems.antt, proved. Assumes nothing.
use Prim.Native.Nat.{ℕ}
use mathlib.Core.Path.{◌≡◌, ap, ◌∙◌}
use mathlib.Core.List.{List}
use borrow.Author.Tests.{ne_eqb}
use Rattle.words.specs.Decode.{decode_paper}
use Rattle.machine.specs.Execute.{execute_paper}
use Rattle.runlist.specs.Plan.{settings_of}
use Rattle.runlist.specs.RunList.{run_paper}
use Rattle.spelling.proofs.Printing.{print_leaves}
use Rattle.demands.proofs.Execution as execution
use Rattle.demands.proofs.Lists as lists
use Rattle.packing.specs.Packing.{halves, HostExecuted, HostRan}
use Rattle.host.specs.Host.{host_decode, host_execute, host_run}
use Rattle.host.specs.Theorems.{DecodeKeeps, ExecuteKeeps, RunKeeps, PrintKeeps}

pub decode_keeps : DecodeKeeps
unfolding host_decode
decode_keeps settings word fields r fields' e h =
    let number : (halves r).0 ≡ (decode_paper (settings_of settings) word).0 = ap (λ (x : (ℕ × ℕ) × List ℕ). x.0.0) e in
    ap (λ (x : (ℕ × ℕ) × List ℕ). x.1) e ∙ rw (ne_eqb (decode_paper (settings_of settings) word).0 0 (λ z. h (number ∙ z)))

pub execute_keeps : ExecuteKeeps
unfolding host_execute
execute_keeps settings word z za counts r z' za' counts' e h =
    let o = execute_paper (settings_of settings) word z za in
    let number : (halves r).0 ≡ o.number = ap (λ (x : HostExecuted). x.answer.0) e in
    let kept = execution.refused_keeps (settings_of settings) word z za (λ n. h (number ∙ n)) in (
      ap (λ (x : HostExecuted). x.z) e ∙ kept.0,
      ap (λ (x : HostExecuted). x.za) e ∙ kept.1,
      ap (λ (x : HostExecuted). x.counts) e ∙ rw (ne_eqb o.number 0 (λ n. h (number ∙ n))),
    )

pub run_keeps : RunKeeps
unfolding host_run
run_keeps list z za report totals r z' za' report' totals' e h =
    let o = run_paper list z za report in
    let number : (halves r).0 ≡ o.number = ap (λ (x : HostRan). x.answer.0) e in
    let kept = lists.refused_keeps list z za report (λ n. h (number ∙ n)) in (
      ap (λ (x : HostRan). x.z) e ∙ kept.0,
      ap (λ (x : HostRan). x.za) e ∙ kept.1,
      ap (λ (x : HostRan). x.report) e ∙ kept.2,
      ap (λ (x : HostRan). x.totals) e ∙ rw (ne_eqb o.number 0 (λ n. h (number ∙ n))),
    )

pub print_keeps : PrintKeeps
print_keeps settings word room r room' e h =
    ap (λ (x : (ℕ × ℕ) × List ℕ). x.1) e ∙ print_leaves (settings_of settings) word room (λ n. h (ap (λ (x : (ℕ × ℕ) × List ℕ). x.0.0) e ∙ n))
