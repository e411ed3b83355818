-- The next station to scan, from the lowest numbers of the sets in words: of many numbers, of which the first n are stations.
-- Assumes nothing.
use Prim.Native.Nat.{ℕ, ◌<◌, ◌≤◌}
use mathlib.Core.Path.{◌≡◌, refl, sym, ◌∙◌}
use mathlib.Core.Bool.{Bool, true, false, not, ◌&&◌}
use mathlib.Core.List.{List}
use Rattle.laws.specs.Fold.{pick, lowest}
use Rattle.laws.proofs.Fold.{first_last, some_any, lowest_same, lowest_low, lowest_high}
use Rattle.bits.specs.Sets.{is_in, members}
use Rattle.bits.proofs.Sets.{members_at}
use Rattle.rule.specs.Rule.{ready, fresh, next_station}

module _ (n many : ℕ) (few : n ≤ many) (marked scanned : List ℕ) where
  -- marked and unscanned, and unmarked, as the words say it
  abbrev is_ready_next : ℕ → Bool
  is_ready_next v = is_in marked v && not (is_in scanned v)

  abbrev is_fresh : ℕ → Bool
  is_fresh v = not (is_in marked v)

  ready_is : (v : ℕ) → v < n → ready (members n marked) (members n scanned) v ≡ is_ready_next v
  unfolding ready
  ready_is v h = rw (members_at n marked v h, members_at n scanned v h) (go (is_in marked v) (is_in scanned v))
    where
      go : (a b : Bool) → pick a (not b) false ≡ (a && not b)
      go true b = refl
      go false b = refl

  fresh_is : (v : ℕ) → v < n → fresh (members n marked) v ≡ is_fresh v
  unfolding fresh
  fresh_is v h = rw (members_at n marked v h)

  -- there is a marked, unscanned station: the lowest is next
  pub next_ready : lowest is_ready_next many many < n → lowest is_ready_next many many ≡ next_station n (members n marked) (members n scanned)
  unfolding next_station
  next_ready h =
      let (passes, same) = lowest_low is_ready_next many n few h in
      sym (rw (some_any (ready (members n marked) (members n scanned)) n (lowest is_ready_next many many) h (ready_is (lowest is_ready_next many many) h ∙ passes))
      (lowest_same (ready (members n marked) (members n scanned)) is_ready_next n 0 ready_is ∙ same 0))

  -- there is none
  module _ (none : n ≤ lowest is_ready_next many many) where
    next_is : next_station n (members n marked) (members n scanned) ≡ lowest is_fresh n 0
    unfolding next_station
    next_is =
        rw (first_last (λ b. b) (ready (members n marked) (members n scanned)) false n (λ v h. ready_is v h ∙ lowest_high is_ready_next many n few none v h))
        (lowest_same (fresh (members n marked)) is_fresh n 0 fresh_is)

    -- the lowest unmarked station is next, or station 0 where all are marked
    pub next_fresh : lowest is_fresh many many < n → lowest is_fresh many many ≡ next_station n (members n marked) (members n scanned)
    next_fresh h = sym (next_is ∙ (lowest_low is_fresh many n few h).1 0)

    pub next_none : n ≤ lowest is_fresh many many → 0 ≡ next_station n (members n marked) (members n scanned)
    next_none h = sym (next_is ∙ first_last is_fresh (λ v. v) 0 n (lowest_high is_fresh many n few h))
