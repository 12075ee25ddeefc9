-- What holds of the C interface. Statements only: proofs/Theorems.antt proves each.
use Rattle.std.specs.Prelude.{ℕ, ◌≡◌, ◌≢◌, List}
use Rattle.packing.specs.Packing.{halves}
use Rattle.host.specs.Host.{HostDecode, HostExecute, HostRun, HostPrint}

-- "every lent buffer keeps its contents": a call that was refused has written nothing
abbrev pub DecodeKeeps : Type 0
DecodeKeeps =
    (settings : List ℕ) (word : ℕ) (fields : List ℕ) (r : ℕ) (fields' : List ℕ) → HostDecode settings word fields r fields'
    → (halves r).0 ≢ 0 → fields' ≡ fields

abbrev pub ExecuteKeeps : Type 0
ExecuteKeeps =
    (settings : List ℕ) (word : ℕ) (z za counts : List ℕ) (r : ℕ) (z' za' counts' : List ℕ) → HostExecute settings word z za counts r z' za' counts'
    → (halves r).0 ≢ 0 → (z' ≡ z) × (za' ≡ za) × (counts' ≡ counts)

abbrev pub RunKeeps : Type 0
RunKeeps =
    (list z za report totals : List ℕ) (r : ℕ) (z' za' report' totals' : List ℕ) → HostRun list z za report totals r z' za' report' totals'
    → (halves r).0 ≢ 0 → (z' ≡ z) × (za' ≡ za) × (report' ≡ report) × (totals' ≡ totals)

abbrev pub PrintKeeps : Type 0
PrintKeeps =
    (settings : List ℕ) (word : ℕ) (room : List ℕ) (r : ℕ) (room' : List ℕ) → HostPrint settings word room r room'
    → (halves r).0 ≢ 0 → room' ≡ room
