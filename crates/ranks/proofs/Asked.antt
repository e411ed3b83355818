-- What the rounds ask for: a request that is in order has it, and what all rounds have each of them has.
-- Assumes nothing.
use Prim.Native.Nat.{ℕ, ◌/◌}
use mathlib.Core.Path.{◌≡◌, refl}
use mathlib.Core.Bool.{Bool}
use mathlib.Core.List.{List}
use native.Mathlib.Omega.{arith}
use lib.ListN.{length}
use Rattle.request.specs.Requests.{Request}
use Rattle.scan.specs.Asked.{Scannable}
use Rattle.ranks.specs.Sizes.{InOrder}

module _ {n k : ℕ} {lines starts : List ℕ} {short : Bool} (r : Request n k lines starts short) where
  pub request_scannable : {ranks : List ℕ} → length ranks ≡ length lines / 2 → Scannable n lines ranks
  request_scannable half =
      record {
        some = r.sized.within.some;
        most = r.sized.within.most;
        one_in = λ q h. r.sound.simple.proper.one_in q (omega arith);
        two_in = λ q h. r.sound.simple.proper.two_in q (omega arith);
        few = r.sized.within.few;
        pairs = omega (arith, r.sized.within.even);
      }

  pub request_in_order : InOrder n k starts
  request_in_order = record { some = r.sized.some; most = r.sized.most; count = r.sized.starts_count; below = r.starts_in }

pub in_order_each : {n k : ℕ} {starts : List ℕ} → InOrder n k starts → InOrder n (length starts) starts
in_order_each o = record { some = omega (arith, o.some); most = omega (arith, o.most); count = refl; below = λ i h. o.below i (omega (arith, o.count)) }
