-- THEOREM. The starred examples come out as the document says: the definitions compute to what it states.
-- Assumes nothing.
use mathlib.Core.Path.{refl}
use native.Mathlib.Omega.{arith}
use Rattle.laws.specs.Fold.{up_to, first_from}
use Rattle.limits.specs.Limits.{stations_judged, length_judged, level_judged, room_judged, weak_level_judged, plan_short}
use Rattle.network.specs.Judging.{same_ends, ends_judged, line_judged, lines_judged, list_judged}
use Rattle.request.specs.Judging.{start_count_judged, start_judged, starts_judged, sizes_judged, request_judged}
use Rattle.rule.specs.Rule.{take_to, take_line, scan_station, ready, fresh, next_station, scan_as, scan_next, all_scanned, one_round}
use Rattle.kept.specs.Kept.{kept_count, copy_line, kept_lines}
use Rattle.prune.specs.Pruning.{prune_answer}
use Rattle.rule.specs.Rounds.{next_round, all_rounds, pruned}
use Rattle.plans.specs.Orders.{order_of, position_of}
use Rattle.plans.specs.Checking.{in_play, of_rank, linked, rank_verdict, ranks_verdict, entry_verdict, order_verdict, earliest, has_parent, has_other, parent_verdict, other_verdict, station_verdict, stations_verdict, add_tree, trees_of, line_verdict, lines_verdict, round_verdict, rounds_verdict, plan_verdict, plan_judged, check_answer}
use Rattle.pieces.specs.Away.{is_away}
use Rattle.pieces.specs.Pieces.{alone, merge, join_line, pieces_of, one_piece}
use Rattle.joined.specs.Asking.{away_judged, all_away_judged, asked_judged, joined_answer}
use Rattle.unite.specs.Union.{add_line, united, lists_judged, union_judged, union_short, size_answer, union_answer}
use Rattle.parting.specs.Standing.{lowest_remaining, lowest_apart, without}
use Rattle.tries.specs.Tries.{without_ones, without_seconds, without_twos, weak_spot}
use Rattle.weakness.specs.Search.{weak_judged, weak_answer}
use Rattle.certificate.proofs.Seven.{seven_forests}
use Rattle.starred.specs.Examples.{Right, starred}

pub starred_right : Right starred
unfolding up_to first_from same_ends stations_judged length_judged ends_judged line_judged lines_judged list_judged level_judged start_count_judged room_judged start_judged starts_judged sizes_judged request_judged take_to take_line scan_station ready fresh next_station scan_as scan_next all_scanned one_round kept_count next_round all_rounds pruned plan_short prune_answer copy_line kept_lines in_play of_rank linked rank_verdict ranks_verdict entry_verdict order_verdict earliest has_parent has_other parent_verdict other_verdict station_verdict stations_verdict position_of add_tree trees_of line_verdict lines_verdict round_verdict rounds_verdict order_of plan_verdict plan_judged check_answer is_away alone merge join_line pieces_of one_piece away_judged all_away_judged asked_judged joined_answer add_line united lists_judged union_judged union_short size_answer union_answer lowest_remaining lowest_apart without without_ones without_seconds without_twos weak_spot weak_level_judged weak_judged weak_answer
starred_right = (refl, (refl, (refl, (refl, (refl, (refl, (refl, (refl, (refl, (refl, (seven_forests 1 (omega arith) (omega arith), (seven_forests 2 (omega arith) (omega arith), (refl, (refl, (refl, (refl, (refl, (refl, (refl, (refl, (refl, (refl, (refl, (refl, tt))))))))))))))))))))))))
