-- The C interface, include/callinglamp.h: what each function answers, and what stands afterwards in each array that it was lent. What is said
-- is what the public calls promise; as numbers it stands in `packing`.
use Rattle.std.specs.Prelude.{ℕ, ◌≡◌, cond, List, Option, Some, None}
use Rattle.words.specs.declared.Fields.{Fields}
use Rattle.settings.specs.Valid.{valid_settings}
use Rattle.settings.specs.declared.Settings.{Settings}
use Rattle.words.specs.Decode.{decode_paper}
use Rattle.words.specs.Partner.{partner_paper}
use Rattle.encoding.specs.Encode.{Encodes}
use Rattle.machine.specs.Execute.{execute_paper}
use Rattle.rate.specs.Rate.{percent_of}
use Rattle.runlist.specs.Plan.{settings_of}
use Rattle.runlist.specs.RunList.{run_paper}
use Rattle.spelling.specs.Print.{print_paper}
use Rattle.spelling.specs.Language.{Reads}
use Rattle.packing.specs.Packing.{halves, fields_from, decoded_into, HostExecuted, executed_into, HostRan, ran_into}

-- ---- decode

unfoldable pub host_decode : List ℕ → ℕ → List ℕ → (ℕ × ℕ) × List ℕ
host_decode settings word fields = decoded_into (decode_paper (settings_of settings) word) fields

abbrev pub HostDecode : List ℕ → ℕ → List ℕ → ℕ → List ℕ → Type 0
HostDecode settings word fields r fields' = (halves r, fields') ≡ host_decode settings word fields

-- ---- encode

-- numbers that are no fields: 5 after 1, since no word has them
abbrev pub EncodesNumbers : Settings → Option Fields → ℕ × ℕ → Type 0
EncodesNumbers s (Some f) answer = Encodes s f answer
EncodesNumbers s None answer = answer ≡ cond (valid_settings s) (5, 0) (1, 0)

abbrev pub HostEncode : List ℕ → List ℕ → ℕ → Type 0
HostEncode settings fields r = EncodesNumbers (settings_of settings) (fields_from fields) (halves r)

-- ---- partner

abbrev pub HostPartner : List ℕ → ℕ → ℕ → Type 0
HostPartner settings word r = halves r ≡ partner_paper (settings_of settings) word

-- ---- execute

unfoldable pub host_execute : List ℕ → ℕ → List ℕ → List ℕ → List ℕ → HostExecuted
host_execute settings word z za counts = executed_into (execute_paper (settings_of settings) word z za) counts

abbrev pub HostExecute : List ℕ → ℕ → List ℕ → List ℕ → List ℕ → ℕ → List ℕ → List ℕ → List ℕ → Type 0
HostExecute settings word z za counts r z' za' counts' =
    record { answer = halves r; z = z'; za = za'; counts = counts' } ≡ host_execute settings word z za counts

-- ---- percent

-- its answer is the percent, in 64 bits
abbrev pub HostPercent : ℕ → ℕ → ℕ → Type 0
HostPercent toggled written r = r ≡ percent_of toggled written

-- ---- run

unfoldable pub host_run : List ℕ → List ℕ → List ℕ → List ℕ → List ℕ → HostRan
host_run list z za report totals = ran_into (run_paper list z za report) totals

abbrev pub HostRun : List ℕ → List ℕ → List ℕ → List ℕ → List ℕ → ℕ → List ℕ → List ℕ → List ℕ → List ℕ → Type 0
HostRun list z za report totals r z' za' report' totals' =
    record { answer = halves r; z = z'; za = za'; report = report'; totals = totals' } ≡ host_run list z za report totals

-- ---- print

-- the text's length stands beside the number
abbrev pub HostPrint : List ℕ → ℕ → List ℕ → ℕ → List ℕ → Type 0
HostPrint settings word room r room' = (halves r, room') ≡ print_paper (settings_of settings) word room

-- ---- read

abbrev pub HostRead : List ℕ → List ℕ → ℕ → Type 0
HostRead settings text r = Reads (settings_of settings) text (halves r)

-- ---- version

-- of the library, 3.0.0: ten thousands are its major number, hundreds its minor one. `CALLINGLAMP_VERSION` of its header is the same.
abbrev pub HostVersion : ℕ → Type 0
HostVersion r = r ≡ 30000
