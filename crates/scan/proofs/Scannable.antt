-- A network is laid over ranks by their number alone.
-- Assumes nothing.
use Prim.Native.Nat.{ℕ}
use mathlib.Core.Path.{◌≡◌}
use mathlib.Core.List.{List}
use native.Mathlib.Omega.{arith}
use lib.ListN.{length}
use Rattle.scan.specs.Asked.{Scannable}

pub scannable_alike : {n : ℕ} {lines ranks ranks' : List ℕ} → Scannable n lines ranks → length ranks' ≡ length ranks → Scannable n lines ranks'
scannable_alike laid e =
    record {
      some = laid.some;
      most = laid.most;
      one_in = λ p h. laid.one_in p (omega arith);
      two_in = λ p h. laid.two_in p (omega arith);
      few = laid.few;
      pairs = omega (arith, laid.pairs);
    }
