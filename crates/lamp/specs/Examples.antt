-- Document 01's example run: from the list's bytes to the printed lines.
use Rattle.std.specs.Prelude.{◌≡◌, refl, [], ◌++◌}
use Rattle.settings.specs.Valid.{valid_settings, vector_bytes, array_bytes}
use Rattle.words.specs.Says.{describe}
use Rattle.words.specs.Decode.{enables, decode_enabled, decode_paper}
use Rattle.elements.specs.Elements.{element_at, low_bytes, vector}
use Rattle.elements.specs.Files.{vector_at, renewed}
use Rattle.lanes.specs.Lane.{s_int, int_of, low, product, accumulate, lane_step, step}
use Rattle.bits.specs.Bits.{over_bits, over_bytes}
use Rattle.numbers.specs.Numbers.{numeral, number_at, numbers_at}
use Rattle.lanes.specs.Element.{new_element, new_bytes}
use Rattle.machine.specs.Step.{stride, selected, first_vector, some_below, writes_vector, new_vector, za_after}
use Rattle.machine.specs.Execute.{stepped, execute_paper}
use Rattle.machine.specs.Run.{run_of}
use Rattle.runlist.specs.Plan.{words_from, z_from, settled_from, settings_of, plan_of}
use Rattle.runlist.specs.RunList.{tallied, fours, run_paper}
use Rattle.pieces.specs.Pieces.{text, digits, decimal_up_to, decimal, hex8}
use Rattle.lines.specs.Lines.{refused_line, counts_after, outcome, word_line, word_lines, words_line, total_line, ran_lines}
use Rattle.demands.specs.ListExamples.{paper_list}
use Rattle.lamp.specs.Lamp.{words_of, text_of, lines_of, register_bytes, printed}

-- "It prints:"
paper-printed : printed paper_list
    ≡ text "words 3\n" ++ text "1 C1A20008 1024 1024 100\n" ++ text "2 0E228020 refused 3\n" ++ text "3 C1A20000 1024 1024 100\n" ++ text "total 2048 2048 100\n"
unfolding printed register_bytes lines_of text_of words_of run_paper plan_of settings_of settled_from z_from words_from numbers_at number_at numeral run_of tallied fours
    execute_paper stepped decode_paper decode_enabled describe enables valid_settings vector_bytes array_bytes
    za_after new_vector writes_vector some_below first_vector selected stride new_bytes new_element renewed vector_at vector element_at low_bytes
    step lane_step accumulate product s_int int_of low over_bits over_bytes
    ran_lines words_line total_line word_lines word_line outcome counts_after hex8 decimal decimal_up_to digits
paper-printed = refl

-- "`refused 7 at 0` for empty input"
empty-printed : printed [] ≡ text "refused 7 at 0\n"
unfolding printed register_bytes lines_of text_of words_of run_paper plan_of numbers_at number_at numeral refused_line decimal decimal_up_to
empty-printed = refl
