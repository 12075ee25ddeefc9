-- From what a public call promises, and what is put down of its answer, to what the C function promises. Assumes nothing.
use Rattle.std.specs.Prelude.{Some, None, Result, Ok, Err}
use Prim.Native.Nat.{ℕ, ◌<◌, ◌^◌}
use native.Mathlib.Omega.{arith}
use mathlib.Core.Path.{◌≡◌, ap, ◌∙◌}
use mathlib.Core.List.{List}
use Rattle.tally.specs.declared.Counts.{Counts}
use Rattle.settings.specs.Refused.{word_says}
use Rattle.settings.specs.declared.Refusal.{Refusal}
use Rattle.settings.specs.declared.Settings.{Settings}
use Rattle.words.specs.Decode.{decoded_says}
use Rattle.words.specs.declared.Fields.{Fields}
use Rattle.machine.specs.Execute.{Outcome}
use Rattle.runlist.specs.Plan.{settings_of}
use Rattle.runlist.specs.RunList.{Ended}
use Rattle.numbers.specs.declared.Fault.{Fault}
use Rattle.runlist.specs.declared.Ran.{Ran}
use Rattle.spelling.specs.Print.{printed_says}
use Rattle.spelling.proofs.Printing.{print_short}
use Rattle.demands.proofs.Lists.{run_small}
use Rattle.callinglamp.specs.Promises.{DecodePromise, EncodePromise, PartnerPromise, ExecutePromise, RunPromise, PrintPromise, ReadPromise}
use Rattle.packing.specs.Packing.{halves, fields_from, decoded_into, executed_into, ran_into, ExecutedPut, RanPut, FitsHalf, TextFits}
use Rattle.host.specs.Host.{host_decode, HostDecode, EncodesNumbers, HostEncode, HostPartner, host_execute, HostExecute, host_run, HostRun, HostPrint, HostRead}

module _ (settings : List ℕ) (s : Settings) (e : s ≡ settings_of settings) where
  pub decode_said : (word : ℕ) (fields fields' : List ℕ) (a : Result Fields Refusal) (r : ℕ) → DecodePromise s word a
      → (halves r, fields') ≡ decoded_into (decoded_says a) fields → HostDecode settings word fields r fields'
  unfolding host_decode
  decode_said word fields fields' a r p h =
      rw (← e) (h ∙ ap (λ (d : ℕ × Fields). decoded_into d fields) p)

  pub encode_said : (fields : List ℕ) (f : Fields) (a : Result ℕ Refusal) (r : ℕ) → fields_from fields ≡ Some f → EncodePromise s f a
      → halves r ≡ word_says a → HostEncode settings fields r
  encode_said fields f a r g p h = rw (← e, g, h) p

  pub encode_nothing : (fields : List ℕ) (r : ℕ) → fields_from fields ≡ None → EncodesNumbers s None (halves r) → HostEncode settings fields r
  encode_nothing fields r g p = rw (← e, g) p

  pub partner_said : (word : ℕ) (a : Result ℕ Refusal) (r : ℕ) → PartnerPromise s word a → halves r ≡ word_says a → HostPartner settings word r
  partner_said word a r p h = rw (← e) (h ∙ p)

  pub execute_said : (word : ℕ) (z za counts : List ℕ) (a : Result Counts Refusal) (r : ℕ) (z' za' counts' : List ℕ) → ExecutePromise s word z za a z' za'
      → ExecutedPut a counts r counts' → HostExecute settings word z za counts r z' za' counts'
  unfolding host_execute
  execute_said word z za counts a r z' za' counts' p h =
      rw (← e) (h z' za' ∙ ap (λ (o : Outcome). executed_into o counts) p)

  pub print_said : (word : ℕ) (room : List ℕ) (a : Result ℕ Refusal) (r : ℕ) (room' : List ℕ) → PrintPromise s word room a room' → halves r ≡ printed_says a
      → HostPrint settings word room r room'
  print_said word room a r room' p h = rw (← e, h) p

  pub read_said : (text : List ℕ) (a : Result ℕ Refusal) (r : ℕ) → ReadPromise s text a → halves r ≡ word_says a → HostRead settings text r
  read_said text a r p h = rw (← e, h) p

module _ (list z za report : List ℕ) where
  pub run_said : (totals : List ℕ) (a : Result Ran Fault) (r : ℕ) (z' za' report' totals' : List ℕ) → RunPromise list z za report a z' za' report'
      → RanPut a totals r totals' → HostRun list z za report totals r z' za' report' totals'
  unfolding host_run
  run_said totals a r z' za' report' totals' p h = h z' za' report' ∙ ap (λ (o : Ended). ran_into o totals) p

  -- the count of words and the place have 32 bits
  pub run_fits : (a : Result Ran Fault) (z' za' report' : List ℕ) → RunPromise list z za report a z' za' report' → FitsHalf a
  run_fits (Ok r) z' za' report' p =
      omega (arith, ap (λ (o : Ended). o.words) p, (run_small list z za report).1)
  run_fits (Err f) z' za' report' p =
      omega (arith, ap (λ (o : Ended). o.place) p, (run_small list z za report).0)

-- the length of a text has 32 bits
pub print_fits : (s : Settings) (word : ℕ) (room : List ℕ) (a : Result ℕ Refusal) (room' : List ℕ) → word < 2 ^ 32 → PrintPromise s word room a room' → TextFits a
print_fits s word room a room' fits p = omega (arith, ap (λ (x : (ℕ × ℕ) × List ℕ). x.0.1) p, print_short s word room fits)
