-- The sets of fewer than k stations, tried fewest first: the first that parts two others, or that none does.
-- Assumes nothing.
use Rattle.std.specs.Prelude.{ℕ, ◌+◌, ◌-◌, List, [], ◌∷◌, leb}
use Rattle.laws.specs.Fold.{pick, first_from}
use Rattle.parting.specs.Standing.{Standing, Standing.stands, Standing.weak, is_weak, without}

infixr 30 ◌or_else◌
-- The first try's weak spot, or what the tries after it say.
abbrev pub ◌or_else◌ : Standing → Standing → Standing
◌or_else◌ stands next = next
◌or_else◌ (weak spot a b) next = weak spot a b

-- One station is taken away, the smallest number first.
unfoldable pub without_ones : ℕ → List ℕ → Standing
without_ones n lines = first_from is_weak (λ v. without n lines (v ∷ [])) stands 0 n

-- Station v and a higher one are taken away, the smallest second number first.
unfoldable pub without_seconds : ℕ → List ℕ → ℕ → Standing
without_seconds n lines v = first_from is_weak (λ w. without n lines (v ∷ (w ∷ []))) stands (v + 1) (n - (v + 1))

-- Two stations are taken away, the smallest first number first.
unfoldable pub without_twos : ℕ → List ℕ → Standing
without_twos n lines = first_from is_weak (without_seconds n lines) stands 0 n

-- Fewer than k stations, fewest first.
unfoldable pub weak_spot : ℕ → ℕ → List ℕ → Standing
weak_spot n k lines =
    without n lines []
    or_else pick (leb 2 k) (without_ones n lines) stands
    or_else pick (leb 3 k) (without_twos n lines) stands
