-- Each promise determines the answer, and every byte or number that was lent: any two results that it allows are equal. Assumes nothing.
use Prim.Native.Nat.{ℕ}
use mathlib.Core.Path.{◌≡◌}
use mathlib.Core.List.{List}
use Rattle.std.specs.Prelude.{Result}
use Rattle.settings.specs.declared.Refusal.{Refusal}
use Rattle.settings.specs.declared.Settings.{Settings}
use Rattle.words.specs.declared.Fields.{Fields}
use Rattle.words.proofs.Answers as words
use Rattle.encoding.proofs.Theorems as encoding
use Rattle.tally.specs.declared.Counts.{Counts}
use Rattle.machine.proofs.Answers as machine
use Rattle.rate.proofs.Rate as rate
use Rattle.numbers.specs.declared.Fault.{Fault}
use Rattle.runlist.specs.declared.Ran.{Ran}
use Rattle.runlist.proofs.Answers as runlist
use Rattle.spelling.proofs.Theorems as spelling
use Rattle.callinglamp.specs.Promises.{DecodePromise, EncodePromise, PartnerPromise, ExecutePromise, PercentPromise, RunPromise, PrintPromise, ReadPromise}

pub decode_unique : (settings : Settings) (word : ℕ) (r q : Result Fields Refusal) → DecodePromise settings word r → DecodePromise settings word q → r ≡ q
decode_unique = words.decode_unique

pub encode_unique : (settings : Settings) (fields : Fields) (r q : Result ℕ Refusal) → EncodePromise settings fields r → EncodePromise settings fields q → r ≡ q
encode_unique = encoding.encode_unique

pub partner_unique : (settings : Settings) (word : ℕ) (r q : Result ℕ Refusal) → PartnerPromise settings word r → PartnerPromise settings word q → r ≡ q
partner_unique = words.partner_unique

-- the answer, and Z and ZA at the end
pub execute_unique : (settings : Settings) (word : ℕ) (z za : List ℕ) (r q : Result Counts Refusal) (z1 za1 z2 za2 : List ℕ)
    → ExecutePromise settings word z za r z1 za1 → ExecutePromise settings word z za q z2 za2
    → (r ≡ q) × (z1 ≡ z2) × (za1 ≡ za2)
execute_unique = machine.execute_unique

pub percent_unique : (toggled written r q : ℕ) → PercentPromise toggled written r → PercentPromise toggled written q → r ≡ q
percent_unique = rate.percent_unique

-- the answer, and Z, ZA and the report at the end
pub run_unique : (list z za report : List ℕ) (r q : Result Ran Fault) (z1 za1 report1 z2 za2 report2 : List ℕ)
    → RunPromise list z za report r z1 za1 report1 → RunPromise list z za report q z2 za2 report2
    → (r ≡ q) × (z1 ≡ z2) × (za1 ≡ za2) × (report1 ≡ report2)
run_unique = runlist.run_unique

-- the answer, and the room at the end
pub print_unique : (settings : Settings) (word : ℕ) (room : List ℕ) (r q : Result ℕ Refusal) (room1 room2 : List ℕ)
    → PrintPromise settings word room r room1 → PrintPromise settings word room q room2
    → (r ≡ q) × (room1 ≡ room2)
print_unique = spelling.print_unique

pub read_unique : (settings : Settings) (text : List ℕ) (r q : Result ℕ Refusal) → ReadPromise settings text r → ReadPromise settings text q → r ≡ q
read_unique = spelling.read_unique
