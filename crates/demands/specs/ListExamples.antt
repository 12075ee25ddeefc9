-- The definitions run: document 01's list of three words, lists at the limits, and each way in which a list is refused.
use Rattle.std.specs.Prelude.{ℕ, ◌≡◌, refl, List, [], ◌∷◌, ◌++◌, map, take, replicate}
use Rattle.settings.specs.Valid.{valid_settings, vector_bytes, array_bytes}
use Rattle.settings.specs.declared.Refusal.{Refusal}
use Rattle.settings.specs.declared.Refusal.TheVariants.{BadSettings, BadLength, ListEnds, BadNumber, TooManyWords, ExtraBytes}
use Rattle.words.specs.Says.{describe}
use Rattle.words.specs.Decode.{enables, decode_enabled, decode_paper}
use Rattle.elements.specs.Elements.{element_at, low_bytes, vector}
use Rattle.elements.specs.Files.{vector_at, renewed}
use Rattle.lanes.specs.Lane.{s_int, int_of, low, product, accumulate, lane_step, step}
use Rattle.bits.specs.Bits.{over_bits, over_bytes}
use Rattle.numbers.specs.Numbers.{numeral, number_at, numbers_at}
use Rattle.tally.specs.declared.Counts.{Counts}
use Rattle.lanes.specs.Element.{new_element, new_bytes}
use Rattle.machine.specs.Step.{stride, selected, first_vector, some_below, writes_vector, new_vector, za_after}
use Rattle.machine.specs.Execute.{stepped, execute_paper}
use Rattle.machine.specs.Run.{run_of}
use Rattle.runlist.specs.Plan.{Asked, found, refused, words_from, z_from, settled_from, settings_of, plan_of}
use Rattle.runlist.specs.declared.Lengths.{Lengths}
use Rattle.runlist.specs.RunList.{Ended, no_tally, tallied, fours, refused_at, run_paper}
use Rattle.demands.specs.Lists.{longest}

longest_is : longest ≡ 7194
longest_is = refl

-- ---- document 01's list

-- VL 128, features 12, modes 3, four zeros
abbrev first_numbers : List ℕ
first_numbers = 0x80 ∷ 0x01 ∷ 0x0C ∷ 0x03 ∷ 0x00 ∷ 0x00 ∷ 0x00 ∷ 0x00 ∷ []

-- and 512 bytes of 01
abbrev pub before_count : List ℕ
before_count = first_numbers ++ replicate 512 0x01

-- C1A20008, 0E228020, C1A20000
abbrev three_words : List ℕ
three_words = 0x88 ∷ 0x80 ∷ 0x88 ∷ 0x8D ∷ 0x0C ∷ 0xA0 ∷ 0x80 ∷ 0x8A ∷ 0x71 ∷ 0x80 ∷ 0x80 ∷ 0x88 ∷ 0x8D ∷ 0x0C ∷ []

-- "VL 128, features 12, modes 3, four zeros, 512 bytes of 01, three words"
abbrev pub paper_list : List ℕ
paper_list = before_count ++ 0x03 ∷ three_words

-- Z, ZA and the report hold something else before a run
abbrev lent_z : List ℕ
lent_z = replicate 512 0x5A

abbrev lent_za : List ℕ
lent_za = replicate 256 0xA5

abbrev lent_report : ℕ → List ℕ
lent_report n = replicate n 77

-- after a run that leaves ZA at zero
abbrev ran_with : ℕ → Counts → List ℕ → Ended
ran_with n tally report = record { number = 0; place = 0; words = n; tally = tally; z = replicate 512 0x01; za = replicate 256 0x00; report = report }

-- the paper's list, with a report of n numbers
abbrev paper_run : ℕ → Ended
paper_run n = run_paper paper_list lent_z lent_za (lent_report n)

-- what it leaves: the first word only raises bits, and the third lets them fall. Of a longer report the rest stays
abbrev paper_ran : List ℕ → Ended
paper_ran rest = ran_with 3 (record { rises = 1024; falls = 1024; written = 2048 }) (0 ∷ 1024 ∷ 0 ∷ 1024 ∷ 3 ∷ 0 ∷ 0 ∷ 0 ∷ 0 ∷ 0 ∷ 1024 ∷ 1024 ∷ rest)

-- the ZA that its first word alone leaves
abbrev first_za : List ℕ
first_za = (run_paper (before_count ++ 0x01 ∷ take 5 three_words) lent_z lent_za (lent_report 4)).za

-- the first word leaves −1 in each element of vectors 0 to 3 and 8 to 11, which the third takes back
words_run : (paper_run 12 ≡ paper_ran []) × (paper_run 14 ≡ paper_ran (77 ∷ 77 ∷ []))
    × (first_za ≡ replicate 64 0xFF ++ replicate 64 0x00 ++ replicate 64 0xFF ++ replicate 64 0x00)
unfolding run_paper plan_of settings_of settled_from z_from words_from numbers_at number_at numeral run_of tallied fours
    execute_paper stepped decode_paper decode_enabled describe enables valid_settings vector_bytes array_bytes
    za_after new_vector writes_vector some_below first_vector selected stride new_bytes new_element renewed vector_at vector element_at low_bytes
    step lane_step accumulate product s_int int_of low over_bits over_bytes
words_run = (refl, refl, refl)

no_words_run : run_paper (before_count ++ 0x00 ∷ []) lent_z lent_za [] ≡ ran_with 0 no_tally []
unfolding run_paper plan_of settings_of settled_from z_from words_from numbers_at number_at numeral run_of tallied fours valid_settings vector_bytes array_bytes
no_words_run = refl

-- a refused list: every lent buffer keeps its contents
empty_list_run : run_paper [] lent_z lent_za (lent_report 2) ≡ refused_at 7 0 lent_z lent_za (lent_report 2)
unfolding run_paper plan_of numbers_at number_at numeral
empty_list_run = refl

-- Z and ZA as long as VL 128 asks for, and a report of n numbers
abbrev pub lent_with : ℕ → Lengths
lent_with n = record { z = 512; za = 256; report = n }

-- ---- row 15 of "Lines to try on the bench": 1,024 words (of one byte), and 1,025

-- what the first asks for
abbrev pub most_asked : Asked
most_asked = record { settings = settings_of (128 ∷ 12 ∷ 3 ∷ 0 ∷ 0 ∷ 0 ∷ 0 ∷ []); z = replicate 512 0x01; words = replicate 1024 0 }

-- proofs/Written.antt proves it by the law on lists that are written: to compute it takes longer than all else in this crate
abbrev pub MostWords : Type 0
MostWords = plan_of (before_count ++ 0x80 ∷ 0x08 ∷ replicate 1024 0x00) (lent_with 4096) ≡ found most_asked

one_too_many : plan_of (before_count ++ 0x81 ∷ 0x08 ∷ replicate 1025 0x00) (lent_with 4100) ≡ refused TooManyWords 520
unfolding plan_of settings_of settled_from z_from words_from numbers_at number_at numeral valid_settings vector_bytes array_bytes
one_too_many = refl

-- ---- lists that are refused

-- a list, and how many numbers the report has; why it is refused, and where
record RefusedList : Type 0 where
  pub list : List ℕ
  pub report : ℕ
  pub refusal : Refusal
  pub place : ℕ

abbrev refusing : List ℕ → ℕ → Refusal → ℕ → RefusedList
refusing list report refusal place = record { list = list; report = report; refusal = refusal; place = place }

abbrev refused_lists : List RefusedList
refused_lists =
    -- 7: before a number, inside one, before the Z bytes, inside them, before n, before a word, inside one
    refusing [] 12 ListEnds 0
    ∷ refusing (take 3 first_numbers) 12 ListEnds 3
    ∷ refusing (0x80 ∷ 0x01 ∷ 0x8C ∷ []) 12 ListEnds 2
    ∷ refusing first_numbers 12 ListEnds 8
    ∷ refusing (first_numbers ++ replicate 511 0x01) 12 ListEnds 8
    ∷ refusing before_count 12 ListEnds 520
    ∷ refusing (before_count ++ 0x03 ∷ take 9 three_words) 12 ListEnds 530
    ∷ refusing (before_count ++ 0x03 ∷ take 13 three_words) 12 ListEnds 530
    -- 8, at the number's first byte: modes in two bytes, n in two, the fifth byte of the first word, the last of the second
    ∷ refusing (0x80 ∷ 0x01 ∷ 0x0C ∷ 0x83 ∷ 0x00 ∷ []) 12 BadNumber 3
    ∷ refusing (before_count ++ 0x83 ∷ 0x00 ∷ three_words) 12 BadNumber 520
    ∷ refusing (before_count ++ 0x03 ∷ 0x88 ∷ 0x80 ∷ 0x88 ∷ 0x8D ∷ 0x10 ∷ []) 12 BadNumber 521
    ∷ refusing (before_count ++ 0x03 ∷ take 5 three_words ++ 0xA0 ∷ 0x80 ∷ 0x00 ∷ []) 12 BadNumber 526
    -- 1, once W11 is read: VL 129; modes without SME
    ∷ refusing (0x81 ∷ 0x01 ∷ 0x0C ∷ 0x03 ∷ 0x00 ∷ 0x00 ∷ 0x00 ∷ []) 12 ListEnds 7
    ∷ refusing (0x81 ∷ 0x01 ∷ 0x0C ∷ 0x03 ∷ 0x00 ∷ 0x00 ∷ 0x00 ∷ 0x00 ∷ []) 12 BadSettings 0
    ∷ refusing (0x80 ∷ 0x01 ∷ 0x03 ∷ 0x03 ∷ 0x00 ∷ 0x00 ∷ 0x00 ∷ 0x00 ∷ []) 12 BadSettings 0
    -- 2: VL 256 has Z of 1,024 bytes
    ∷ refusing (0x80 ∷ 0x02 ∷ 0x0C ∷ 0x03 ∷ 0x00 ∷ 0x00 ∷ 0x00 ∷ 0x00 ∷ []) 12 BadLength 0
    -- 9 with no words behind it, and where the report is too short as well
    ∷ refusing (before_count ++ 0x81 ∷ 0x08 ∷ []) 4100 TooManyWords 520
    ∷ refusing (before_count ++ 0x81 ∷ 0x08 ∷ []) 12 TooManyWords 520
    -- 2: the reports of 12 and of 15 numbers are too short for four words, and are tested before the first of them is read; that of 16 is not
    ∷ refusing (before_count ++ 0x04 ∷ []) 12 BadLength 0
    ∷ refusing (before_count ++ 0x04 ∷ []) 15 BadLength 0
    ∷ refusing (before_count ++ 0x04 ∷ []) 16 ListEnds 521
    -- 10
    ∷ refusing (paper_list ++ 0x00 ∷ []) 12 ExtraBytes 535
    ∷ refusing (before_count ++ 0x02 ∷ three_words) 12 ExtraBytes 530
    ∷ []

refusals_hold : map (λ (l : RefusedList). plan_of l.list (lent_with l.report)) refused_lists ≡ map (λ (l : RefusedList). refused l.refusal l.place) refused_lists
unfolding plan_of settings_of settled_from z_from words_from numbers_at number_at numeral valid_settings vector_bytes array_bytes
refusals_hold = refl

-- 2, with the paper's list: Z and ZA of a byte too few
short_z : plan_of paper_list (record { z = 511; za = 256; report = 12 }) ≡ refused BadLength 0
unfolding plan_of settings_of settled_from numbers_at number_at numeral valid_settings vector_bytes array_bytes
short_z = refl

short-za : plan_of paper_list (record { z = 512; za = 255; report = 12 }) ≡ refused BadLength 0
unfolding plan_of settings_of settled_from numbers_at number_at numeral valid_settings vector_bytes array_bytes
short-za = refl
