-- A pass over a whole network: it comes to every station, so what it says of each is right.
-- Assumes nothing.
use Prim.Native.Nat.{ℕ}
use mathlib.Core.Path.{◌≡◌, refl, sym, subst}
use mathlib.Core.Logic.{◌↔◌}
use mathlib.Core.Bool.{Bool, true, false}
use mathlib.Core.List.{List}
use native.Mathlib.Omega.{arith}
use lib.ListN.{length, get_or}
use Rattle.network.specs.Chains.{Chain.here, Chain.step}
use Rattle.network.proofs.Chains.{chain_start}
use Rattle.pieces.specs.Joined.{Remains, Joined, Whole, Parted}
use Rattle.neighbours.specs.Near.{Near}
use Rattle.cuts.specs.Cuts.{and_away, SaysCuts}
use Rattle.cuts.specs.Passes.{Seen, New, Start, Ended, Unseen, Visited}
use Rattle.cuts.proofs.Seen.{besides_stays, besides_other}

module _ (n : ℕ) (lines : List ℕ) (away : ℕ → Bool) where
  -- A pass may begin at any station that remains.
  pub pass_starts : (s : List ℕ) → Unseen n away s → (a : ℕ) → Remains n away a → Start n lines away s a 1
  pass_starts s un a r =
      record {
        gone = un.gone;
        station = r.station;
        fresh = un.fresh a r;
        some = omega arith;
        most = omega arith;
        above = λ y z sy rz e h. absurd (none y sy);
        linked = λ y z sy sz. absurd (none y sy);
        alone = λ e. none;
        other = λ l. absurd (omega arith);
      }
    where
      none : (y : ℕ) → ¬ Seen n away s y
      none y sy = sy.deep (un.fresh y sy.remains)

  module _ (s t : List ℕ) (cut₀ cut : List Bool) (a low : ℕ) (un : Unseen n away s) (r : Remains n away a)
      (E : Ended n lines away s t cut₀ cut a 1 low) where
    new : (v : ℕ) → Seen n away t v → New n away s t v
    new v sv = record { seen = sv; fresh = un.fresh v sv.remains }

    reach : (x v : ℕ) → Joined n lines away x v → Seen n away t x → Seen n away t v
    reach x v (here q) sx = sx
    reach x v (step {v = y} q h c) sx = reach y v c (E.closed x y tt (new x sx) (chain_start c) h)

    -- THEOREM. A pass over a network that is whole says of each station whether it is a cut station.
    pub pass_says : Whole n lines away → SaysCuts n lines away cut
    pass_says whole =
        record {
          parted = λ w rw' e. (E.right w tt (new w (every w rw'))).parted e;
          whole = λ w rw' e. record { joined = λ x y rx ry. (E.right w tt (new w (every w rw'))).joined e x y (every x (besides_stays n away w x rx)) (every y (besides_stays n away w y ry)) (besides_other n away w x rx) (besides_other n away w y ry) };
        }
      where
        every : (v : ℕ) → Remains n away v → Seen n away t v
        every v rv = reach a v (whole.joined a v r rv) (record { remains = r; deep = λ (e : get_or t a 0 ≡ 0). omega (arith, E.here) })

-- What a visit of a station that remains leaves, at depth 1 and with no other seen, says of each station whether it is a cut station.
pub visit_says : (n : ℕ) (begins near : List ℕ) (away : ℕ → Bool) (s t : List ℕ) (cut₀ cut : List Bool) (a low : ℕ) → length s ≡ n
    → Unseen n away s → Remains n away a → Visited begins near s t cut₀ cut a 1 low
    → (lines : List ℕ) → Near n lines begins near → Whole n lines away → SaysCuts n lines away cut
visit_says n begins near away s t cut₀ cut a low e un r vis lines N whole =
    pass_says n lines away s t cut₀ cut a low un r
    (subst (λ (x : ℕ). Ended x lines away s t cut₀ cut a 1 low) e
    (vis.ended lines away
    (subst (λ (x : ℕ). Near x lines begins near) (sym e) N)
    (subst (λ (x : ℕ). Start x lines away s a 1) (sym e) (pass_starts n lines away s un a r))))
    whole

-- THEOREM. Such a table says true exactly of the cut stations.
pub cut_exactly : (n : ℕ) (lines : List ℕ) (away : ℕ → Bool) (cut : List Bool) → SaysCuts n lines away cut → (w : ℕ) → Remains n away w
    → (get_or cut w false ≡ true) ↔ Parted n lines (and_away away w)
cut_exactly n lines away cut s w r = (s.parted w r, λ p. go p (get_or cut w false) refl)
  where
    go : Parted n lines (and_away away w) → (b : Bool) → get_or cut w false ≡ b → b ≡ true
    go p true e = refl
    go p false e = absurd (p.apart ((s.whole w r e).joined p.one p.two p.one_remains p.two_remains))
