-- The three demands, a record each. A field is a statement that document 01, a landed request or the order makes, in its words; proofs/Demands.antt
-- proves each record, so that no statement can be dropped or lost in silence. That a call ends, for every input, is what the check says of a
-- function without a `requires`: no public call has one.
use Rattle.std.specs.Prelude.{ℕ, ◌^◌, ◌<◌, ◌≡◌, ◌↔◌, true, List, Result}
use Rattle.tally.specs.declared.Counts.{Counts}
use Rattle.settings.specs.Valid.{valid_settings}
use Rattle.settings.specs.declared.Refusal.{Refusal}
use Rattle.settings.specs.declared.Settings.{Settings}
use Rattle.words.specs.Says.{table, SaidBy}
use Rattle.words.specs.Decode.{enables, decode_paper}
use Rattle.words.specs.declared.Family.TheVariants.{ByElement, Vector, Saturating, LongLong, Long}
use Rattle.words.specs.declared.Fields.{Fields}
use Rattle.encoding.specs.Encode.{Encodes}
use Rattle.numbers.specs.declared.Fault.{Fault}
use Rattle.runlist.specs.declared.Ran.{Ran}
use Rattle.spelling.specs.Language.{Reads}
use Rattle.demands.specs.Execution.{LengthIsVl, AcceptedExactly, AlwaysInOrder, Always, KeepsIfRefused, SameLengths, StillBytes, CountsToggled, AtMostWritten, FewWritten}
use Rattle.demands.specs.Execution.{Whenever, ElementsA, ElementsB, ElementsC, ElementsZa, WrittenIs, WheneverV, ClearsAbove, ZElsewhere, ElsewhereZa, WheneverZa, First, Distinct, Exact}
use Rattle.demands.specs.Sweep.{SweepCloses, UndoAccepts, PartnersAccepted}
use Rattle.demands.specs.SweepExamples.{AllMet, EachNeeded}
use Rattle.demands.specs.Calls.{CallersSee}
use Rattle.demands.specs.Permitted.{EnabledAndPermitted}
use Rattle.demands.specs.Lists.{RefusedWith, PlaceInside, WrittenIsRead, OneList}
use Rattle.demands.specs.Reports.{ReportsAre}
use Rattle.callinglamp.specs.Promises.{DecodePromise, EncodePromise, PartnerPromise, ExecutePromise, PercentPromise, RunPromise, PrintPromise, ReadPromise}
use Rattle.packing.specs.Theorems as packing
use Rattle.host.specs.Host.{HostDecode, HostEncode, HostPartner, HostExecute, HostPercent, HostRun, HostPrint, HostRead}
use Rattle.host.specs.Theorems as host
use Rattle.demanded.specs.Refusals.{RefusalNumbers, DecodeInOrder, EncodeInOrder, PartnerInOrder, PrintInOrder, ReadInOrder, ListInOrder, ExecuteLeaves, RunLeaves, PrintLeaves}

-- "any two results allowed by it are equal": an answer, with all that was lent as the call left it
abbrev pub OnlyOne : {A : Type 0} → (A → Type 0) → Type 0
OnlyOne {A} Promise = (x y : A) → Promise x → Promise y → x ≡ y

-- "Every call ends with an answer for every word, setting, list and buffer length; bad input gets the refusal number that the paper fixes; a refused
-- call changes no lent byte or number"
pub record Demand1 : Type 0 where
  -- "For every input, a public call's promise determines its result, the refusal number and every byte or number lent to it"
  pub decode_determined : (s : Settings) (w : ℕ) → OnlyOne {A = Result Fields Refusal} (DecodePromise s w)
  pub encode_determined : (s : Settings) (f : Fields) → OnlyOne {A = Result ℕ Refusal} (EncodePromise s f)
  pub partner_determined : (s : Settings) (w : ℕ) → OnlyOne {A = Result ℕ Refusal} (PartnerPromise s w)
  -- the answer, Z and ZA
  pub execute_determined : (s : Settings) (w : ℕ) (z za : List ℕ)
      → OnlyOne {A = Result Counts Refusal × List ℕ × List ℕ} (λ a. ExecutePromise s w z za a.0 a.1 a.2)
  pub percent_determined : (toggled written : ℕ) → OnlyOne {A = ℕ} (PercentPromise toggled written)
  -- the answer, Z, ZA and the report
  pub run_determined : (list z za report : List ℕ)
      → OnlyOne {A = Result Ran Fault × List ℕ × List ℕ × List ℕ} (λ a. RunPromise list z za report a.0 a.1 a.2 a.3)
  -- the answer and the room
  pub print_determined : (s : Settings) (w : ℕ) (room : List ℕ) → OnlyOne {A = Result ℕ Refusal × List ℕ} (λ a. PrintPromise s w room a.0 a.1)
  pub read_determined : (s : Settings) (text : List ℕ) → OnlyOne {A = Result ℕ Refusal} (ReadPromise s text)
  -- the same of the calls for C: the answer, and each array that is lent to be written
  pub c_decode_determined : (settings : List ℕ) (w : ℕ) (fields : List ℕ)
      → OnlyOne {A = ℕ × List ℕ} (λ a. HostDecode settings w fields a.0 a.1)
  pub c_encode_determined : (settings fields : List ℕ) → OnlyOne {A = ℕ} (HostEncode settings fields)
  pub c_partner_determined : (settings : List ℕ) (w : ℕ) → OnlyOne {A = ℕ} (HostPartner settings w)
  pub c_execute_determined : (settings : List ℕ) (w : ℕ) (z za counts : List ℕ)
      → OnlyOne {A = ℕ × List ℕ × List ℕ × List ℕ} (λ a. HostExecute settings w z za counts a.0 a.1 a.2 a.3)
  pub c_percent_determined : (toggled written : ℕ) → OnlyOne {A = ℕ} (HostPercent toggled written)
  pub c_run_determined : (list z za report totals : List ℕ)
      → OnlyOne {A = ℕ × List ℕ × List ℕ × List ℕ × List ℕ} (λ a. HostRun list z za report totals a.0 a.1 a.2 a.3 a.4)
  pub c_print_determined : (settings : List ℕ) (w : ℕ) (room : List ℕ) → OnlyOne {A = ℕ × List ℕ} (λ a. HostPrint settings w room a.0 a.1)
  pub c_read_determined : (settings text : List ℕ) → OnlyOne {A = ℕ} (HostRead settings text)
  -- "bad input gets the refusal number that the paper fixes"
  pub refusal_numbers : RefusalNumbers
  -- "Refusal numbers, tested in this order". "Decode tests 1, 3"
  pub decode_in_order : (s : Settings) (w : ℕ) → DecodeInOrder s w
  -- "encode 1, 5, 3"
  pub encode_in_order : (s : Settings) (f : Fields) (answer : ℕ × ℕ) → Encodes s f answer → EncodeInOrder s f answer
  -- "partner 1, 3, 6"
  pub partner_in_order : (s : Settings) (w : ℕ) → PartnerInOrder s w
  -- "execute 1, 2, 3, 4"
  pub execute_in_order : AlwaysInOrder
  -- "printing tests 1, 3, then 12 where the room is shorter than the text"
  pub print_in_order : (s : Settings) (w : ℕ) (room : List ℕ) → PrintInOrder s w room
  -- "reading tests 1, then 11 for text not of the language, then 3 for a missing feature"
  pub read_in_order : (s : Settings) (text : List ℕ) (answer : ℕ × ℕ) → Reads s text answer → ReadInOrder s text answer
  -- the run list: "found while reading left to right, the first fault deciding"
  pub list_in_order : (list z za report : List ℕ) → ListInOrder list z za report
  -- no other refusal is given to a list, and its place is in the list or at its end: "0 with every other refusal" than 7 to 10
  pub list_refusals : RefusedWith
  pub list_place : PlaceInside
  -- "In order: VL, features, modes, W8, W9, W10, W11; the Z bytes as they are; a count n; n words": a list that is written so is accepted, and no other is
  pub list_understood : WrittenIsRead
  pub list_only : OneList
  -- "A refusal returns its number and zeros, and every lent buffer keeps its contents"
  pub refused_keeps : Always KeepsIfRefused
  pub execute_leaves : ExecuteLeaves
  pub run_leaves : RunLeaves
  pub print_leaves : PrintLeaves
  pub c_decode_keeps : host.DecodeKeeps
  pub c_execute_keeps : host.ExecuteKeeps
  pub c_run_keeps : host.RunKeeps
  pub c_print_keeps : host.PrintKeeps

-- "Under valid settings a word decodes exactly when a listed layout matches, its size is not reserved and the features enable it; encoding inverts
-- decoding; each execution gives the registers of Arm's operation text as 01 states it, changes nothing else, and reports exactly the bits that differ
-- and the bits written"
pub record Demand2 : Type 0 where
  -- "a word decodes exactly when .."
  pub decodes_exactly : (s : Settings) (w : ℕ) (f : Fields) → valid_settings s ≡ true
      → (decode_paper s w ≡ (0, f)) ↔ (SaidBy table w f × (enables s.features.0 f ≡ true))
  -- "A, B need AdvSIMD. C needs SVE2 or SME. .. Modes, tested at execution only: A, B need SM off. ..": every valid sum, in numbers
  pub features_and_modes : EnabledAndPermitted
  -- "encoding inverts decoding", one way and the other
  pub encode_after_decode : (s : Settings) (w : ℕ) (f : Fields) (answer : ℕ × ℕ) → w < 2 ^ 32 → decode_paper s w ≡ (0, f) → Encodes s f answer → answer ≡ (0, w)
  pub decode_after_encode : (s : Settings) (w : ℕ) (f : Fields) → Encodes s f (0, w) → decode_paper s w ≡ (0, f)
  -- in C, too: the twelve numbers of fields stand for these fields, and no other twelve do
  pub c_fields_back : packing.FieldsBack
  pub c_numbers_back : packing.NumbersBack
  -- a word is executed exactly where no refusal is due
  pub accepted_exactly : AcceptedExactly
  -- "each execution gives the registers of Arm's operation text as 01 states it". A: "the 64-bit half Q of the first source gives 64/lane elements",
  -- each with "the one element at the index, counted over the whole second register"
  pub in_a : Whenever ByElement ElementsA
  -- "B pairs each with the same element of half Q of the second source"
  pub in_b : Whenever Vector ElementsB
  -- C: "the first factor is element 2e+T. With s = e − (e mod (64/lane)), the second is element 2s+index. The doubled product is clamped ..; the sum or
  -- difference is clamped again"
  pub in_c : Whenever Saturating ElementsC
  -- "let k be 4 in D, 2 in E .. at each element e of k·lane bits, the product of elements k·e+i of Z registers n+r and m+r, modulo 2 to the width"
  pub in_d : Whenever LongLong (ElementsZa 4)
  pub in_e : Whenever Long (ElementsZa 2)
  -- "Stride is (VL/8)/group. The first vector is (W+offset) mod stride, rounded down to a multiple of k"
  pub first_vector_is : WheneverZa (λ k s f z za o. First k s f)
  -- "For r below group and i below k, vector first + r·stride + i of ZA": these vectors and no others, each once
  pub vectors_exact : WheneverZa (λ k s f z za o. Exact k s f)
  pub vectors_distinct : WheneverZa (λ k s f z za o. Distinct k s f)
  -- A, B: "writing a V register sets the rest of the Z register to zero" (document 02)
  pub v_cleared : WheneverV ClearsAbove
  -- "changes nothing else": the other registers of Z, the other vectors of ZA, and the lengths; and bytes stay bytes
  pub z_stays : ZElsewhere
  pub za_stays : WheneverZa ElsewhereZa
  pub lengths_stay : Always SameLengths
  pub bytes_stay : Always StillBytes
  -- "Toggled is the number of bits that differ in Z and ZA before and after"; of them some rise, and the others fall (RequestTwo)
  pub toggled_exact : Always CountsToggled
  -- "Their written count becomes VL", in A and B (document 02); "VL in C, VL·group·4 in D, VL·group·2 in E"; VL is the length of a register
  pub written_exact : WrittenIs
  pub length_is_vl : LengthIsVl
  pub toggled_at_most_written : Always AtMostWritten
  pub written_at_most : Always FewWritten
  -- "An accepted list leaves the final Z and ZA", and "four numbers for each word (refusal, rises, falls, written)" "in the report, whose rest stays. A
  -- word refused with 3 or 4 changes no register and the run goes on"
  pub list_runs : ReportsAre

-- "Words accepted in their turn, none saturating, none that writes a vector register naming its destination as a source: from the end state each
-- word's partner, in reverse order, is accepted, every byte returns, and each partner reports its word's counts": by document 02 "a partner's rises are
-- its word's falls, and the other way round", and there is a premise more (`ClearInTurn`): "before each A or B word runs, its destination has zeros
-- from byte 16 on"
pub record Demand3 : Type 0 where
  pub sweep_closes : SweepCloses
  -- "each word's partner .. is accepted": by `partner` and by `execute`
  pub partner_accepts : UndoAccepts
  pub partners_accepted : PartnersAccepted
  -- the same, as whoever makes the calls sees it
  pub callers_see : CallersSee
  -- the premises can be met together, and each is needed
  pub premises_met : AllMet
  pub premises_needed : EachNeeded
