-- The document's example of keep, from the bytes of its file: they are read back, pruned, and written as text.
-- Assumes nothing.
use Prim.Native.Nat.{ℕ}
use mathlib.Core.Path.{◌≡◌, refl}
use mathlib.Core.Bool.{false}
use mathlib.Core.List.{List, [], ◌∷◌}
use Rattle.kinds.specs.Answers.{Answer.given}
use Rattle.laws.specs.Fold.{up_to, first_from}
use Rattle.limits.specs.Limits.{stations_judged, length_judged, level_judged, room_judged, plan_short}
use Rattle.network.specs.Judging.{same_ends, ends_judged, line_judged, lines_judged}
use Rattle.request.specs.Judging.{start_count_judged, start_judged, starts_judged, sizes_judged, request_judged}
use Rattle.rule.specs.Rule.{take_to, take_line, scan_station, ready, fresh, next_station, scan_as, scan_next, all_scanned, one_round}
use Rattle.kept.specs.Kept.{kept_count}
use Rattle.prune.specs.Pruning.{prune_answer}
use Rattle.rule.specs.Rounds.{next_round, all_rounds, pruned}
use Rattle.request.specs.Requests.{Request}
use Rattle.request.proofs.Judging.{request_good}
use Rattle.writing.specs.Writing.{file_bytes}
use Rattle.writing.proofs.ReadWritten.{read_written}
use Rattle.report.specs.Example.{keep_example}
use Rattle.report.proofs.Examples.{kept_example}
use Rattle.programs.specs.Keep.{pruned_text, network_text, read_text, keep_output}

abbrev q : List ℕ
q = 0 ∷ 1 ∷ 0 ∷ 2 ∷ 0 ∷ 3 ∷ 1 ∷ 2 ∷ 1 ∷ 3 ∷ 2 ∷ 3 ∷ []

abbrev starts : List ℕ
starts = 0 ∷ 0 ∷ []

request : Request 4 2 q starts false
unfolding up_to first_from same_ends stations_judged length_judged ends_judged line_judged lines_judged level_judged start_count_judged room_judged start_judged starts_judged sizes_judged request_judged take_to take_line scan_station ready fresh next_station scan_as scan_next all_scanned one_round kept_count next_round all_rounds pruned plan_short prune_answer
request = request_good 4 2 q starts false refl

answer : prune_answer 4 2 q starts 8192 16384 ≡ given 5
unfolding up_to first_from same_ends stations_judged length_judged ends_judged line_judged lines_judged level_judged start_count_judged room_judged start_judged starts_judged sizes_judged request_judged take_to take_line scan_station ready fresh next_station scan_as scan_next all_scanned one_round kept_count next_round all_rounds pruned plan_short prune_answer
answer = refl

ranks : (pruned 4 2 q starts).ranks ≡ 1 ∷ 1 ∷ 1 ∷ 2 ∷ 2 ∷ 0 ∷ []
unfolding up_to first_from same_ends stations_judged length_judged ends_judged line_judged lines_judged level_judged start_count_judged room_judged start_judged starts_judged sizes_judged request_judged take_to take_line scan_station ready fresh next_station scan_as scan_next all_scanned one_round kept_count next_round all_rounds pruned plan_short prune_answer
ranks = refl

pub kept_from_file : keep_output (file_bytes 4 2 q starts) ≡ keep_example
unfolding keep_output read_text network_text pruned_text
kept_from_file =
    let (facts, lines_are, starts_are) = read_written 4 2 q starts false request in
    rw (facts, lines_are, starts_are, answer, ranks) kept_example
