-- Each promise of the C interface determines the answer, and every byte and number that was lent: any two results that it allows are
-- equal. Assumes nothing.
use Rattle.std.specs.Prelude.{Option, Some, None}
use Prim.Native.Nat.{ℕ}
use mathlib.Core.Path.{◌≡◌, sym, ap, ◌∙◌}
use mathlib.Core.List.{List}
use Rattle.words.specs.declared.Fields.{Fields}
use Rattle.settings.specs.declared.Settings.{Settings}
use Rattle.encoding.proofs.Theorems.{encodes_unique}
use Rattle.runlist.specs.Plan.{settings_of}
use Rattle.spelling.proofs.Theorems.{reads_unique}
use Rattle.packing.specs.Packing.{of_halves, halves, fields_from, HostExecuted, HostRan}
use Rattle.packing.proofs.Theorems.{answer_back}
use Rattle.host.specs.Host.{HostDecode, EncodesNumbers, HostEncode, HostPartner, HostExecute, HostPercent, HostRun, HostPrint, HostRead, HostVersion}

-- an answer is known by its halves
halves_known : (r q : ℕ) → halves r ≡ halves q → r ≡ q
halves_known r q e = sym (answer_back r) ∙ ap (λ (h : ℕ × ℕ). of_halves h.0 h.1) e ∙ answer_back q

pub decode_unique : (settings : List ℕ) (word : ℕ) (fields : List ℕ) (r q : ℕ) (fields1 fields2 : List ℕ)
    → HostDecode settings word fields r fields1 → HostDecode settings word fields q fields2
    → (r ≡ q) × (fields1 ≡ fields2)
decode_unique settings word fields r q fields1 fields2 e g =
    let same = e ∙ sym g in
    (halves_known r q (ap (λ (x : (ℕ × ℕ) × List ℕ). x.0) same), ap (λ (x : (ℕ × ℕ) × List ℕ). x.1) same)

numbers_encoded : (s : Settings) (f : Option Fields) (a b : ℕ × ℕ) → EncodesNumbers s f a → EncodesNumbers s f b → a ≡ b
numbers_encoded s (Some f) a b p q = encodes_unique s f a b p q
numbers_encoded s None a b p q = p ∙ sym q

pub encode_unique : (settings fields : List ℕ) (r q : ℕ) → HostEncode settings fields r → HostEncode settings fields q → r ≡ q
encode_unique settings fields r q e g = halves_known r q (numbers_encoded (settings_of settings) (fields_from fields) (halves r) (halves q) e g)

pub partner_unique : (settings : List ℕ) (word r q : ℕ) → HostPartner settings word r → HostPartner settings word q → r ≡ q
partner_unique settings word r q e g = halves_known r q (e ∙ sym g)

pub execute_unique : (settings : List ℕ) (word : ℕ) (z za counts : List ℕ) (r q : ℕ) (z1 za1 counts1 z2 za2 counts2 : List ℕ)
    → HostExecute settings word z za counts r z1 za1 counts1 → HostExecute settings word z za counts q z2 za2 counts2
    → (r ≡ q) × (z1 ≡ z2) × (za1 ≡ za2) × (counts1 ≡ counts2)
execute_unique settings word z za counts r q z1 za1 counts1 z2 za2 counts2 e g =
    let same = e ∙ sym g in (
      halves_known r q (ap (λ (x : HostExecuted). x.answer) same),
      ap (λ (x : HostExecuted). x.z) same,
      ap (λ (x : HostExecuted). x.za) same,
      ap (λ (x : HostExecuted). x.counts) same,
    )

pub percent_unique : (toggled written r q : ℕ) → HostPercent toggled written r → HostPercent toggled written q → r ≡ q
percent_unique toggled written r q e g = e ∙ sym g

pub run_unique : (list z za report totals : List ℕ) (r q : ℕ) (z1 za1 report1 totals1 z2 za2 report2 totals2 : List ℕ)
    → HostRun list z za report totals r z1 za1 report1 totals1 → HostRun list z za report totals q z2 za2 report2 totals2
    → (r ≡ q) × (z1 ≡ z2) × (za1 ≡ za2) × (report1 ≡ report2) × (totals1 ≡ totals2)
run_unique list z za report totals r q z1 za1 report1 totals1 z2 za2 report2 totals2 e g =
    let same = e ∙ sym g in (
      halves_known r q (ap (λ (x : HostRan). x.answer) same),
      ap (λ (x : HostRan). x.z) same,
      ap (λ (x : HostRan). x.za) same,
      ap (λ (x : HostRan). x.report) same,
      ap (λ (x : HostRan). x.totals) same,
    )

pub print_unique : (settings : List ℕ) (word : ℕ) (room : List ℕ) (r q : ℕ) (room1 room2 : List ℕ)
    → HostPrint settings word room r room1 → HostPrint settings word room q room2
    → (r ≡ q) × (room1 ≡ room2)
print_unique settings word room r q room1 room2 e g =
    let same = e ∙ sym g in
    (halves_known r q (ap (λ (x : (ℕ × ℕ) × List ℕ). x.0) same), ap (λ (x : (ℕ × ℕ) × List ℕ). x.1) same)

pub read_unique : (settings text : List ℕ) (r q : ℕ) → HostRead settings text r → HostRead settings text q → r ≡ q
read_unique settings text r q e g = halves_known r q (reads_unique (settings_of settings) text (halves r) (halves q) e g)

pub version_unique : (r q : ℕ) → HostVersion r → HostVersion q → r ≡ q
version_unique r q e g = e ∙ sym g
