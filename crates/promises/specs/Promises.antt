-- What Tapuhzel promises, in the letter's order and words, then what document 01 adds: of what a caller gives a routine and gets from it. A name with a
-- prime is a buffer as the call leaves it. `proofs/Promises.antt` shows that all of it holds.
-- Assumes nothing.
use Rattle.std.specs.Prelude.{ℕ, ◌-◌, ◌*◌, ◌/◌, ◌<◌, ◌≤◌, ◌≡◌, ◌↔◌, Bool, true, false, List, [], ◌∷◌, length, get_or, take, Result, Ok, Err, Option, Some, None}
use Rattle.kinds.specs.Answers.{Answer.given, answer_of}
use Rattle.kinds.specs.Rows.{Follows}
use Rattle.kinds.specs.declared.Refusal.{Refusal}
use Rattle.network.specs.Lines.{network}
use Rattle.network.specs.Chains.{Every}
use Rattle.network.specs.Faults.{Sound}
use Rattle.network.specs.Judging.{list_judged}
use Rattle.network.specs.Rows.{list_rows}
use Rattle.pieces.specs.Away.{is_away}
use Rattle.pieces.specs.Joined.{Remains, Joined}
use Rattle.pieces.specs.Pieces.{pieces_of}
use Rattle.pieces.specs.Lowest.{LowestJoined}
use Rattle.kept.specs.Kept.{kept_lines, kept_of}
use Rattle.kept.specs.Answers.{CopyAllows}
use Rattle.kept.specs.Rows.{copy_rows}
use Rattle.prune.specs.Answers.{PruneAllows}
use Rattle.prune.specs.Rows.{prune_rows}
use Rattle.unite.specs.Union.{united}
use Rattle.unite.specs.Answers.{UniteAllows}
use Rattle.unite.specs.Rows.{union_rows}
use Rattle.plans.specs.Verdicts.{Kind, Verdict.faulty}
use Rattle.plans.specs.Published.{MaximalForest}
use Rattle.plans.specs.Checking.{check_answer}
use Rattle.plans.specs.Plans.{PlanMeets}
use Rattle.plans.specs.Checkable.{Checkable}
use Rattle.plans.specs.Faults.{FirstFault}
use Rattle.plans.specs.Rows.{check_rows}
use Rattle.forests.specs.Answers.{checked_answer}
use Rattle.joined.specs.Rising.{Question}
use Rattle.joined.specs.Asking.{joined_answer}
use Rattle.joined.specs.Rows.{joined_rows}
use Rattle.parting.specs.Answers.{spot_stations}
use Rattle.parting.specs.declared.WeakSpot.{WeakSpot}
use Rattle.weakness.specs.Spots.{Searchable, StandsAt, IsWeakSpot}
use Rattle.weakness.specs.Search.{weak_answer}
use Rattle.weakness.specs.Answers.{searched_answer}
use Rattle.weakness.specs.Rows.{weak_rows}
use Rattle.reading.specs.Reading.{line_numbers, start_numbers}
use Rattle.reading.specs.Answers.{facts_of, reading_answer, ReadAllows}
use Rattle.reading.specs.Files.{Formed, network_found}
use Rattle.reading.specs.Rows.{read_rows}
use Rattle.reading.specs.declared.Found.{Found}
use Rattle.writing.specs.Writing.{file_bytes}
use Rattle.writing.specs.Answers.{WriteAllows}
use Rattle.writing.specs.Rows.{write_rows}
use Rattle.report.specs.Example.{keep_example}
use Rattle.programs.specs.Keep.{keep_output}
use Rattle.programs.specs.Weak.{weak_output}
use Rattle.programs.specs.Texts.{TextAllows}
use Rattle.certificate.specs.Alike.{Alike}
use Rattle.certificate.specs.Starts.{StartsIn}
use Rattle.certificate.specs.Calls.{first_lines, PruneAndCopy, UnionCalls}
use Rattle.certificate.specs.Seven.{seven, seven_ranks}
use Rattle.starred.specs.Examples.{Right, starred}
use Rattle.codes.specs.Codes.{count_said, joined_said, kind_said, round_said, fault_place_said, weak_said, spot_said, one_said, two_said, stations_said, level_said, lines_said, starts_said, written_number, written_count}
use Rattle.tapuhzel.specs.Calls.{said, judge_call, prune_call, copy_call, unite_call, joined_call, check_call, weak_call, read_call, write_call, text_call}
use Rattle.promises.specs.Allowed.{JudgeAllows, CheckAllows, JoinedAllows, SearchAllows, ByTheRule, Front, Tells}
use Rattle.entries.specs.declared.Verdict.{Verdict}
use Rattle.entries.specs.declared.Verdict.TheVariants.{Accepted}
use Rattle.report.specs.declared.TooShort.{TooShort}

-- "1. Every input is taken or refused by a numbered reason and a place. No entry point trusts its caller, no input stops it, and a refusal changes no
-- byte of the caller's buffers." That each routine comes to an end, and stops at no input, the checker asks of the code; that none has a `requires`,
-- `.ci/run` asks of the C face, which calls every other one.
pub record Demand1 : Type 0 where
  -- The answer is refused exactly by the first of the routine's rows that holds.
  pub judging : {n : ℕ} {lines : List ℕ} {said : Result (Unit {0}) Refusal} → JudgeAllows n lines said → Follows (answer_of said) (list_rows 0 n lines)
  pub pruning : {n k : ℕ} {lines starts ranks orders ranks' orders' : List ℕ} {said : Result ℕ Refusal} → PruneAllows n k lines starts ranks orders said ranks' orders'
      → Follows (answer_of said) (prune_rows n k lines starts (length ranks) (length orders))
  pub checking : {n k : ℕ} {lines ranks orders : List ℕ} {said : Result Verdict Refusal} → CheckAllows n k lines ranks orders said
      → Follows (checked_answer said) (check_rows n k lines ranks orders)
  pub copying : {lines ranks room room' : List ℕ} {said : Result ℕ Refusal} → CopyAllows lines ranks room said room' → Follows (answer_of said) (copy_rows lines ranks (length room))
  pub uniting : {n : ℕ} {first second room room' : List ℕ} {said : Result ℕ Refusal} → UniteAllows n first second room said room'
      → Follows (answer_of said) (union_rows n first second (length room))
  pub asking : {n : ℕ} {lines away : List ℕ} {a b : ℕ} {said : Result Bool Refusal} → JoinedAllows n lines away a b said → Follows (answer_of said) (joined_rows n lines away a b)
  pub searching : {n k : ℕ} {lines : List ℕ} {said : Result (Option WeakSpot) Refusal} → SearchAllows n k lines said → Follows (searched_answer said) (weak_rows n k lines)
  pub reading : {bytes lines starts lines' starts' : List ℕ} {said : Result Found Refusal} → ReadAllows bytes lines starts said lines' starts'
      → Follows (reading_answer said) (read_rows bytes lines starts)
  pub writing : {n k : ℕ} {lines starts bytes bytes' : List ℕ} {said : Result ℕ Refusal} → WriteAllows n k lines starts bytes said bytes'
      → Follows (answer_of said) (write_rows n k lines starts bytes)
  -- A list is taken exactly where it is within the limits and simple.
  pub sound : {n : ℕ} {lines : List ℕ} {said : Result (Unit {0}) Refusal} → JudgeAllows n lines said → (said ≡ Ok tt) ↔ Sound n lines
  -- A refused call leaves every lent buffer as it was.
  pub pruning_untouched : {n k : ℕ} {lines starts ranks orders ranks' orders' : List ℕ} {why : Refusal}
      → PruneAllows n k lines starts ranks orders (Err why) ranks' orders' → (ranks' ≡ ranks) × (orders' ≡ orders)
  pub copying_untouched : {lines ranks room room' : List ℕ} {why : Refusal} → CopyAllows lines ranks room (Err why) room' → room' ≡ room
  pub uniting_untouched : {n : ℕ} {first second room room' : List ℕ} {why : Refusal} → UniteAllows n first second room (Err why) room' → room' ≡ room
  pub reading_untouched : {bytes lines starts lines' starts' : List ℕ} {why : Refusal} → ReadAllows bytes lines starts (Err why) lines' starts'
      → (lines' ≡ lines) × (starts' ≡ starts)
  pub writing_untouched : {n k : ℕ} {lines starts bytes bytes' : List ℕ} {why : Refusal} → WriteAllows n k lines starts bytes (Err why) bytes' → bytes' ≡ bytes
  pub text_untouched : {room : ℕ} {output text text' : List ℕ} → TextAllows room output text (Err (record {})) text' → text' ≡ text

-- "2. Each line's round, and each round's scan order, is what the scan-first rule gives for the owner's level and starting stations. The checker says yes
-- exactly to those rounds and orders that meet the published definition of such forests, ours among them."
pub record Demand2 : Type 0 where
  pub by_the_rule : {n k count : ℕ} {lines starts ranks orders ranks' orders' : List ℕ} → PruneAllows n k lines starts ranks orders (Ok count) ranks' orders'
      → ByTheRule n k lines starts ranks orders count ranks' orders'
  pub yes_exactly : {n k : ℕ} {lines ranks orders : List ℕ} {said : Result Verdict Refusal} → CheckAllows n k lines ranks orders said
      → (said ≡ Ok Accepted) ↔ (Checkable n k lines ranks orders × PlanMeets n k lines ranks orders)
  pub fault_exactly : {n k : ℕ} {lines ranks orders : List ℕ} {said : Result Verdict Refusal} → CheckAllows n k lines ranks orders said → (round : ℕ) (kind : Kind) (place : ℕ)
      → (checked_answer said ≡ given (faulty round kind place)) ↔ (Checkable n k lines ranks orders × FirstFault n k lines ranks orders round kind place)
  pub ours_among_them : {n k count : ℕ} {lines starts ranks orders ranks' orders' : List ℕ} {said : Result Verdict Refusal}
      → PruneAllows n k lines starts ranks orders (Ok count) ranks' orders' → CheckAllows n k lines ranks' orders' said → said ≡ Ok Accepted

-- "3. Call two line lists over the same n stations alike at k when, for every set of fewer than k stations taken away, any two remaining stations are
-- joined in one exactly when in the other. Lines kept under any rounds the checker accepts are alike at k to the whole list, at most k times (n − 1) of
-- them. If two accepted lists over the same n stations have a union within the line limit, then pruning each at k, uniting what is kept and pruning that
-- at k, from any starts that pruning takes, gives a list alike at k to the union of the two originals."
pub record Demand3 : Type 0 where
  -- Copying that has room is not refused.
  pub kept_alike : {n k : ℕ} {lines ranks orders room room' : List ℕ} {copied : Result ℕ Refusal} → CheckAllows n k lines ranks orders (Ok Accepted)
      → CopyAllows lines ranks room copied room' → 2 * kept_of lines ranks ≤ length room
      → (copied ≡ Ok (kept_of lines ranks)) × (kept_of lines ranks ≤ k * (n - 1)) × Alike n k lines (first_lines (kept_of lines ranks) room')
  -- Neither copying what is kept nor uniting it is refused, nor is pruning what they give.
  pub union_given : {n k x y : ℕ} {a b s t room' : List ℕ} {copied₁ copied₂ : Result ℕ Refusal} {said : Result ℕ Refusal} → UnionCalls n k a b s t x y copied₁ copied₂ said room'
      → length (united a b) ≤ 16384 → (copied₁ ≡ Ok x) × (copied₂ ≡ Ok y) × (z : ℕ) × (said ≡ Ok z)
  pub union_alike : {n k x y z : ℕ} {a b s t r room' room'' : List ℕ} {copied₁ copied₂ copied₃ : Result ℕ Refusal} {said : Result ℕ Refusal}
      → UnionCalls n k a b s t x y copied₁ copied₂ (Ok z) room' → length (united a b) ≤ 16384 → length r ≡ k → StartsIn n k r
      → PruneAndCopy n k (first_lines z room') r said copied₃ room''
      → (w : ℕ) × (said ≡ Ok w) × (copied₃ ≡ Ok w) × Alike n k (united a b) (first_lines w room'')

-- Document 01: what is written, joined, weak spots, the file, the programs.
pub record Rules : Type 0 where
  -- Copying "writes the ends in list order; the answer is the number of lines written". Uniting: "the answer is its number of lines".
  pub copied : {count : ℕ} {lines ranks room room' : List ℕ} → CopyAllows lines ranks room (Ok count) room'
      → (count ≡ kept_of lines ranks) × Front (kept_lines lines ranks) room room'
  pub union_written : {n count : ℕ} {first second room room' : List ℕ} → UniteAllows n first second room (Ok count) room'
      → (2 * count ≡ length (united first second)) × Front (united first second) room room'
  -- "Joined: a and b remain and a chain of remaining stations, neighbours by lines, leads from a to b".
  pub joined_exactly : {n : ℕ} {lines away : List ℕ} {a b : ℕ} {said : Result Bool Refusal} → JoinedAllows n lines away a b said
      → (said ≡ Ok true) ↔ (Question n lines away a b × Joined n lines (is_away away) a b)
  pub apart_exactly : {n : ℕ} {lines away : List ℕ} {a b : ℕ} {said : Result Bool Refusal} → JoinedAllows n lines away a b said
      → (said ≡ Ok false) ↔ (Question n lines away a b × (¬ Joined n lines (is_away away) a b))
  -- "A network stands at level k when no set of fewer than k stations, taken away, leaves two stations not joined. Otherwise the answer is the weak spot".
  pub stands_exactly : {n k : ℕ} {lines : List ℕ} {said : Result (Option WeakSpot) Refusal} → SearchAllows n k lines said
      → (said ≡ Ok None) ↔ (Searchable n k lines × StandsAt n k lines)
  pub weak_exactly : {n k : ℕ} {lines : List ℕ} {said : Result (Option WeakSpot) Refusal} {w : WeakSpot} → SearchAllows n k lines said
      → (said ≡ Ok (Some w)) ↔ (Searchable n k lines × IsWeakSpot n k lines (spot_stations w.spot) w.one.0 w.two.0)
  -- Reading "judges neither n, k, ends nor starts, and hands back n, k and the counts of lines and starts it found": of any bytes that are a file.
  pub read_exactly : {bytes lines starts lines' starts' : List ℕ} {said : Result Found Refusal} → ReadAllows bytes lines starts said lines' starts' → (found : Found)
      → (said ≡ Ok found) ↔ ((16384 ≤ length lines) × (16 ≤ length starts) × Formed bytes (facts_of found))
  pub read_written : {bytes lines starts lines' starts' : List ℕ} {found : Found} → ReadAllows bytes lines starts (Ok found) lines' starts'
      → Front (line_numbers bytes found.counts.lines) lines lines' × Front (start_numbers bytes found.counts.lines found.counts.starts) starts starts'
  pub file_written : {n k count : ℕ} {lines starts bytes bytes' : List ℕ} → WriteAllows n k lines starts bytes (Ok count) bytes'
      → (count ≡ length (file_bytes n k lines starts)) × Front (file_bytes n k lines starts) bytes bytes'
  -- "Reading what was written gives the same network".
  pub written_then_read : {n k count : ℕ} {lines starts bytes bytes' room room' starts_room starts_room' : List ℕ} {said : Result Found Refusal}
      → WriteAllows n k lines starts bytes (Ok count) bytes' → ReadAllows (take count bytes') room starts_room said room' starts_room'
      → 16384 ≤ length room → 16 ≤ length starts_room
      → (said ≡ Ok (network_found n k lines starts)) × (take (length lines) room' ≡ lines) × (take (length starts) starts_room' ≡ starts)
  -- "Writing a file's contents, if not refused, gives the same bytes". A byte is a number below 256.
  pub read_then_written : {count : ℕ} {bytes room lines starts_room starts out out' : List ℕ} {found : Found} → ((i : ℕ) → i < length bytes → get_or bytes i 0 < 256)
      → ReadAllows bytes room starts_room (Ok found) lines starts
      → WriteAllows found.stations found.level.0 (take (2 * found.counts.lines) lines) (take found.counts.starts starts) out (Ok count) out'
      → take count out' ≡ bytes
  -- What the programs write of a file's bytes, by routines that ask for 524,416 bytes of room and for 256; and `keep` of the document's example.
  pub keep_written : (bytes : List ℕ) {text text' : List ℕ} {said : Result ℕ TooShort} → TextAllows 524416 (keep_output bytes) text said text' → 524416 ≤ length text
      → (said ≡ Ok (length (keep_output bytes))) × Front (keep_output bytes) text text'
  pub weak_written : (bytes : List ℕ) {text text' : List ℕ} {said : Result ℕ TooShort} → TextAllows 256 (weak_output bytes) text said text' → 256 ≤ length text
      → (said ≡ Ok (length (weak_output bytes))) × Front (weak_output bytes) text text'
  pub keep_example_lem : keep_output (file_bytes 4 2 (0 ∷ 1 ∷ 0 ∷ 2 ∷ 0 ∷ 3 ∷ 1 ∷ 2 ∷ 1 ∷ 3 ∷ 2 ∷ 3 ∷ []) (0 ∷ 0 ∷ [])) ≡ keep_example

-- "Prove that two results allowed by it are equal": the answer, and every buffer.
pub record Once : Type 1 where
  pub judge : {n : ℕ} {lines : List ℕ} {r s : Result (Unit {0}) Refusal} → JudgeAllows n lines r → JudgeAllows n lines s → r ≡ s
  pub prune : {n k : ℕ} {lines starts ranks orders ranks₁ orders₁ ranks₂ orders₂ : List ℕ} {r s : Result ℕ Refusal}
      → PruneAllows n k lines starts ranks orders r ranks₁ orders₁ → PruneAllows n k lines starts ranks orders s ranks₂ orders₂
      → (r ≡ s) × (ranks₁ ≡ ranks₂) × (orders₁ ≡ orders₂)
  pub check : {n k : ℕ} {lines ranks orders : List ℕ} {r s : Result Verdict Refusal} → CheckAllows n k lines ranks orders r → CheckAllows n k lines ranks orders s → r ≡ s
  pub copy : {lines ranks room room₁ room₂ : List ℕ} {r s : Result ℕ Refusal} → CopyAllows lines ranks room r room₁ → CopyAllows lines ranks room s room₂ → (r ≡ s) × (room₁ ≡ room₂)
  pub unite : {n : ℕ} {first second room room₁ room₂ : List ℕ} {r s : Result ℕ Refusal} → UniteAllows n first second room r room₁ → UniteAllows n first second room s room₂
      → (r ≡ s) × (room₁ ≡ room₂)
  pub ask : {n : ℕ} {lines away : List ℕ} {a b : ℕ} {r s : Result Bool Refusal} → JoinedAllows n lines away a b r → JoinedAllows n lines away a b s → r ≡ s
  pub search_for_weak_spot : {n k : ℕ} {lines : List ℕ} {r s : Result (Option WeakSpot) Refusal} → SearchAllows n k lines r → SearchAllows n k lines s → r ≡ s
  pub read : {bytes lines starts lines₁ starts₁ lines₂ starts₂ : List ℕ} {r s : Result Found Refusal}
      → ReadAllows bytes lines starts r lines₁ starts₁ → ReadAllows bytes lines starts s lines₂ starts₂ → (r ≡ s) × (lines₁ ≡ lines₂) × (starts₁ ≡ starts₂)
  pub write : {n k : ℕ} {lines starts bytes bytes₁ bytes₂ : List ℕ} {r s : Result ℕ Refusal} → WriteAllows n k lines starts bytes r bytes₁ → WriteAllows n k lines starts bytes s bytes₂
      → (r ≡ s) × (bytes₁ ≡ bytes₂)
  pub write_text : {room : ℕ} {output text text₁ text₂ : List ℕ} {r s : Result ℕ TooShort} → TextAllows room output text r text₁ → TextAllows room output text s text₂
      → (r ≡ s) × (text₁ ≡ text₂)
  -- A routine of the C face: all that a call leaves is one value.
  pub call : {Results : Type 0} {value r s : Results} → r ≡ value → s ≡ value → r ≡ s

-- Three stations, every two joined.
abbrev pub triangle : List ℕ
triangle = 0 ∷ 1 ∷ 1 ∷ 2 ∷ 0 ∷ 2 ∷ []

-- What keeps the definitions from saying less than they seem to.
pub record Pins : Type 0 where
  -- A network has one weak spot only, and it parts one pair only.
  pub one_weak_spot : {n k : ℕ} {lines spot other : List ℕ} {a b c d : ℕ} → k ≤ 3 → IsWeakSpot n k lines spot a b → IsWeakSpot n k lines other c d
      → (spot ≡ other) × (a ≡ c) × (b ≡ d)
  -- A piece is named by its lowest station, and has one name only.
  pub named : {n : ℕ} {lines : List ℕ} {away : ℕ → Bool} {v : ℕ} → Sound n lines → Remains n away v → LowestJoined n lines away v (get_or (pieces_of n lines away) v 0)
  pub one_name : {n : ℕ} {lines : List ℕ} {away : ℕ → Bool} {v name other : ℕ} → LowestJoined n lines away v name → LowestJoined n lines away v other → name ≡ other
  -- The lines of a triangle are no forest.
  pub triangle_no_forest : ¬ MaximalForest (network 3 triangle) Every Every
  -- Spanning forests are not enough: the lines of the seven stations' two are not alike at 2 to the whole list, and meet the definition under no orders.
  pub seven_not_alike : ¬ Alike 7 2 seven (kept_lines seven seven_ranks)
  pub seven_no_plan : (orders : List ℕ) → ¬ PlanMeets 7 2 seven seven_ranks orders
  -- What a routine's `ensures` says is all that the records of contracts above ask; and calls that follow each other are as they are told.
  pub judge_contract : {n : ℕ} {lines : List ℕ} {said : Result (Unit {0}) Refusal} → answer_of said ≡ list_judged 0 n lines → JudgeAllows n lines said
  pub check_contract : {n k : ℕ} {lines ranks orders : List ℕ} {said : Result Verdict Refusal} → checked_answer said ≡ check_answer n k lines ranks orders → CheckAllows n k lines ranks orders said
  pub joined_contract : {n : ℕ} {lines away : List ℕ} {a b : ℕ} {said : Result Bool Refusal} → answer_of said ≡ joined_answer n lines away a b → JoinedAllows n lines away a b said
  pub search_contract : {n k : ℕ} {lines : List ℕ} {said : Result (Option WeakSpot) Refusal} → searched_answer said ≡ weak_answer n k lines → SearchAllows n k lines said
  pub prune_and_copy : {n k : ℕ} {lines starts ranks orders ranks' orders' room room' : List ℕ} {said : Result ℕ Refusal} {copied : Result ℕ Refusal}
      → PruneAllows n k lines starts ranks orders said ranks' orders' → CopyAllows lines ranks' room copied room'
      → length lines / 2 ≤ length ranks → k * n ≤ length orders → ((count : ℕ) → said ≡ Ok count → 2 * count ≤ length room)
      → PruneAndCopy n k lines starts said copied room'
  pub union_calls : {n k x y : ℕ} {a b s t room₁ room₂ room room' : List ℕ} {copied₁ copied₂ : Result ℕ Refusal} {said : Result ℕ Refusal}
      → PruneAndCopy n k a s (Ok x) copied₁ room₁ → PruneAndCopy n k b t (Ok y) copied₂ room₂
      → UniteAllows n (first_lines x room₁) (first_lines y room₂) room said room' → length (united (first_lines x room₁) (first_lines y room₂)) ≤ length room
      → UnionCalls n k a b s t x y copied₁ copied₂ said room'

-- The C face, whose contracts say that all a call leaves is one value of `crates/tapuhzel/specs/Calls.antt`: this is what the routine answers and leaves
-- in its buffers, in codes, so that each promise above is one of the C face too.
pub record CSame : Type 0 where
  pub judge : {n : ℕ} {lines : List ℕ} {r : Result (Unit {0}) Refusal} → JudgeAllows n lines r → judge_call n lines ≡ said (answer_of r)
  pub prune : {n k : ℕ} {lines starts ranks orders ranks' orders' : List ℕ} {r : Result ℕ Refusal} → PruneAllows n k lines starts ranks orders r ranks' orders'
      → prune_call n k lines starts ranks orders ≡ (said (answer_of r), count_said (answer_of r), ranks', orders')
  pub check : {n k : ℕ} {lines ranks orders : List ℕ} {r : Result Verdict Refusal} → CheckAllows n k lines ranks orders r
      → check_call n k lines ranks orders ≡ (said (checked_answer r), kind_said (checked_answer r), round_said (checked_answer r), fault_place_said (checked_answer r))
  pub copy : {lines ranks room room' : List ℕ} {r : Result ℕ Refusal} → CopyAllows lines ranks room r room'
      → copy_call lines ranks room ≡ (said (answer_of r), count_said (answer_of r), room')
  pub unite : {n : ℕ} {first second room room' : List ℕ} {r : Result ℕ Refusal} → UniteAllows n first second room r room'
      → unite_call n first second room ≡ (said (answer_of r), count_said (answer_of r), room')
  pub ask : {n : ℕ} {lines away : List ℕ} {a b : ℕ} {r : Result Bool Refusal} → JoinedAllows n lines away a b r
      → joined_call n lines away a b ≡ (said (answer_of r), joined_said (answer_of r))
  pub search_for_weak_spot : {n k : ℕ} {lines : List ℕ} {r : Result (Option WeakSpot) Refusal} → SearchAllows n k lines r
      → weak_call n k lines ≡ (said (searched_answer r), weak_said (searched_answer r), length (spot_said (searched_answer r)), get_or (spot_said (searched_answer r)) 0 0, get_or (spot_said (searched_answer r)) 1 0, one_said (searched_answer r), two_said (searched_answer r))
  pub read : {bytes lines starts lines' starts' : List ℕ} {r : Result Found Refusal} → ReadAllows bytes lines starts r lines' starts'
      → read_call bytes lines starts ≡ (said (reading_answer r), stations_said (reading_answer r), level_said (reading_answer r), lines_said (reading_answer r), starts_said (reading_answer r), lines', starts')
  pub write : {n k : ℕ} {lines starts bytes bytes' : List ℕ} {r : Result ℕ Refusal} → WriteAllows n k lines starts bytes r bytes'
      → write_call n k lines starts bytes ≡ (said (answer_of r), count_said (answer_of r), bytes')
  pub write_text : {room : ℕ} {output text text' : List ℕ} {r : Result ℕ TooShort} → TextAllows room output text r text'
      → text_call room output text ≡ (written_number r, written_count r, text')

-- How a call from C tells a refusal; and demand 2's second half, in codes.
pub record CFace : Type 0 where
  pub judge : (n : ℕ) (lines : List ℕ) → Tells (judge_call n lines) (list_rows 0 n lines)
  pub prune : (n k : ℕ) (lines starts ranks orders : List ℕ) → Tells (prune_call n k lines starts ranks orders).0 (prune_rows n k lines starts (length ranks) (length orders))
  pub check : (n k : ℕ) (lines ranks orders : List ℕ) → Tells (check_call n k lines ranks orders).0 (check_rows n k lines ranks orders)
  pub copy : (lines ranks room : List ℕ) → Tells (copy_call lines ranks room).0 (copy_rows lines ranks (length room))
  pub unite : (n : ℕ) (first second room : List ℕ) → Tells (unite_call n first second room).0 (union_rows n first second (length room))
  pub ask : (n : ℕ) (lines away : List ℕ) (a b : ℕ) → Tells (joined_call n lines away a b).0 (joined_rows n lines away a b)
  pub search_for_weak_spot : (n k : ℕ) (lines : List ℕ) → Tells (weak_call n k lines).0 (weak_rows n k lines)
  pub read : (bytes lines starts : List ℕ) → Tells (read_call bytes lines starts).0 (read_rows bytes lines starts)
  pub write : (n k : ℕ) (lines starts bytes : List ℕ) → Tells (write_call n k lines starts bytes).0 (write_rows n k lines starts bytes)
  -- A text is refused, by 5, exactly where its buffer is shorter than the routine asks for; else it returns 0.
  pub text_refused : (room : ℕ) (output text : List ℕ) → ((text_call room output text).0 ≡ 5) ↔ (length text < room)
  pub text_given : (room : ℕ) (output text : List ℕ) → ((text_call room output text).0 ≡ 0) ↔ (room ≤ length text)
  pub yes_exactly : (n k : ℕ) (lines ranks orders : List ℕ)
      → (check_call n k lines ranks orders ≡ ((0, 0, 0), 0, 0, 0)) ↔ (Checkable n k lines ranks orders × PlanMeets n k lines ranks orders)
  pub ours_among_them : (n k : ℕ) (lines starts ranks orders : List ℕ) {place list kept : ℕ} {ranks' orders' : List ℕ}
      → prune_call n k lines starts ranks orders ≡ ((0, place, list), kept, ranks', orders') → check_call n k lines ranks' orders' ≡ ((0, 0, 0), 0, 0, 0)

-- The codes of the C face, in the words of its header.
pub record Codes : Type 0 where
  -- The header's words: "*kind is 0 (accepted), or the first fault's kind, 1 for A to 5 for E, with its round in *round and its own place in *at".
  pub c_accepted : check_call 3 1 (0 ∷ 2 ∷ 1 ∷ 2 ∷ []) (1 ∷ 1 ∷ []) (0 ∷ 2 ∷ 1 ∷ []) ≡ ((0, 0, 0), 0, 0, 0)
  pub c_rank_above : check_call 3 1 (0 ∷ 2 ∷ 1 ∷ 2 ∷ []) (1 ∷ 2 ∷ []) (0 ∷ 1 ∷ 2 ∷ []) ≡ ((0, 0, 0), 1, 0, 1)
  pub c_not_each_once : check_call 3 1 (0 ∷ 2 ∷ 1 ∷ 2 ∷ []) (1 ∷ 1 ∷ []) (0 ∷ 0 ∷ 2 ∷ []) ≡ ((0, 0, 0), 2, 1, 1)
  pub c_parent_lacking : check_call 3 1 (0 ∷ 2 ∷ 1 ∷ 2 ∷ []) (0 ∷ 1 ∷ []) (0 ∷ 1 ∷ 2 ∷ []) ≡ ((0, 0, 0), 3, 1, 2)
  pub c_other_parent : check_call 3 1 (0 ∷ 2 ∷ 1 ∷ 2 ∷ []) (1 ∷ 1 ∷ []) (0 ∷ 1 ∷ 2 ∷ []) ≡ ((0, 0, 0), 4, 1, 2)
  pub c_trees_apart : check_call 3 1 (0 ∷ 2 ∷ 1 ∷ 2 ∷ []) (1 ∷ 0 ∷ []) (0 ∷ 1 ∷ 2 ∷ []) ≡ ((0, 0, 0), 5, 1, 1)
  -- "Every routine returns the number of its answer: 0 where it is not refused, else the number of the refusal"; then its place, and which list it is of.
  pub c_judged : judge_call 2 (0 ∷ 1 ∷ 1 ∷ 0 ∷ []) ≡ (8, 1, 0)
  pub c_second_list : unite_call 2 (0 ∷ 1 ∷ []) (0 ∷ 0 ∷ []) (9 ∷ []) ≡ ((7, 0, 2), 0, (9 ∷ []))
  pub c_united : unite_call 3 (0 ∷ 1 ∷ []) (1 ∷ 0 ∷ 2 ∷ 1 ∷ []) (9 ∷ 9 ∷ 9 ∷ 9 ∷ 9 ∷ []) ≡ ((0, 0, 0), 2, (0 ∷ 1 ∷ 2 ∷ 1 ∷ 9 ∷ []))
  pub c_copied : copy_call (2 ∷ 0 ∷ 1 ∷ 0 ∷ 1 ∷ 2 ∷ []) (1 ∷ 0 ∷ 7 ∷ []) (9 ∷ 9 ∷ 9 ∷ 9 ∷ 9 ∷ []) ≡ ((0, 0, 0), 2, (2 ∷ 0 ∷ 1 ∷ 2 ∷ 9 ∷ []))
  -- A file of 300 stations, level 2, the line from 256 to 3 and the starts 4 and 5: NW, LN, RT, RT, EN, numbers low byte first.
  pub c_file : file_bytes 300 2 (256 ∷ 3 ∷ []) (4 ∷ 5 ∷ [])
      ≡ 78 ∷ 87 ∷ 44 ∷ 1 ∷ 2 ∷ 0 ∷ 76 ∷ 78 ∷ 0 ∷ 1 ∷ 3 ∷ 0 ∷ 82 ∷ 84 ∷ 4 ∷ 0 ∷ 82 ∷ 84 ∷ 5 ∷ 0 ∷ 69 ∷ 78 ∷ 1 ∷ 0 ∷ []
  pub c_pruned : prune_call 2 1 (0 ∷ 1 ∷ []) (0 ∷ []) (9 ∷ 9 ∷ []) (9 ∷ 9 ∷ 9 ∷ []) ≡ ((0, 0, 0), 1, (1 ∷ 9 ∷ []), (0 ∷ 1 ∷ 9 ∷ []))
  pub c_joined : joined_call 3 (0 ∷ 1 ∷ []) [] 0 1 ≡ ((0, 0, 0), 1)
  pub c_apart : joined_call 3 (0 ∷ 1 ∷ []) [] 0 2 ≡ ((0, 0, 0), 0)
  -- "*weak is 1 where there is one; then *size is the number of its stations, *first and *second are they, *one is the lowest station left, and *two the
  -- lowest not joined to it".
  pub c_weak : weak_call 4 3 (0 ∷ 1 ∷ 1 ∷ 2 ∷ 2 ∷ 3 ∷ 0 ∷ 3 ∷ []) ≡ ((0, 0, 0), 1, 2, 0, 2, 1, 3)

-- All of it, and document 01's starred examples.
pub record Promises : Type 1 where
  pub demand_1 : Demand1
  pub demand_2 : Demand2
  pub demand_3 : Demand3
  pub rules : Rules
  pub once : Once
  pub pins : Pins
  pub c_same : CSame
  pub c_face : CFace
  pub codes : Codes
  pub examples : Right starred
