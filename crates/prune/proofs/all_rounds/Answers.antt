-- `prune::all_rounds` meets its contract. Assumes nothing.
use Prim.Native.Nat.{ℕ, ◌+◌, ◌*◌, ◌-◌, ◌≤◌}
use mathlib.Core.Path.{◌≡◌, refl, sym, ap, ap₂, ◌∙◌}
use mathlib.Core.List.{List, [], ◌++◌, append-nil}
use native.Mathlib.Nat.{zero-mul, add-sub_cancel_left}
use native.Mathlib.Omega.{arith}
use lib.ListN.{length, take, drop, length-append, length-take, length-drop}
use lib.Seq.{drop-length}
use Rattle.laws.specs.Fold.{up_to}
use Rattle.laws.proofs.Fold.{up_to_more}
use Rattle.laws.proofs.Lists.{part_next, part_fits}
use Rattle.scan.proofs.Scannable.{scannable_alike}
use Rattle.rule.specs.Rounds.{rounds, next_round, all_rounds}
use Rattle.ranks.proofs.Asked.{in_order_each}
use Rattle.rule.proofs.Rounds.{one_more}
use Rattle.prune.proofs.all_rounds.Goals as goal
use Rattle.prune.proofs.all_rounds.Goals.{In-loop-done}

-- A part of the orders is lent and comes back by where it begins, whatever the sum by which that is reckoned.
part_size : (orders : List ℕ) {at : ℕ} (begin n m : ℕ) → at ≡ begin → begin + n ≤ length orders → m ≡ length (take (at + n - at) (drop at orders)) → m ≡ n
part_size orders {at} begin n m e h f = f ∙ rw e (simp (add-sub_cancel_left, length-take, length-drop) (omega (arith, h)))

part_same : (orders part : List ℕ) {at : ℕ} (begin n : ℕ) → at ≡ begin
    → take at orders ++ (part ++ drop (at + n - at) (drop at orders)) ≡ take begin orders ++ (part ++ drop (begin + n - begin) (drop begin orders))
part_same orders part begin n e = rw e

-- within the loop, the next round's part is within the orders
part_in : (c : In-loop-done) → c.loop-done.done * c.args.n + c.args.n ≤ length c.loop-done.orders
part_in c =
    omega (arith, part_fits c.loop-done.done c.args.level.0 c.args.n (omega (arith, c.loop-done-test.true)), c.requires.2, c.loop-done.invariant.1)

pub loop-done-init : goal.loop-done-init
unfolding up_to
loop-done-init c = (refl, refl, sym (zero-mul _), rw (zero-mul c.args.n), refl)

pub one_round-requires : goal.one_round-requires
one_round-requires c =
    let p = c.requires in
    let h = part_in (goal.at.one_round-requires c).In-loop-done in (
      scannable_alike p.0 c.loop-done.invariant.0,
      in_order_each p.1,
      omega (arith, p.1.count),
      part_size c.loop-done.orders (c.loop-done.done * c.args.n) c.args.n _ (omega arith) h refl,
    )

pub loop-done-preserved : goal.loop-done-preserved
loop-done-preserved c =
    let a = c.args in
    let l = c.loop-done in
    let d = c.one_round in
    let i = l.invariant in
    let f = next_round a.n a.lines.now a.starts.now in
    let z = rounds a.ranks.now [] in
    let at = l.done * a.n in
    let h = part_in (goal.at.loop-done-preserved c).In-loop-done in
    let size : length d.new.order ≡ a.n = part_size l.orders at a.n (length d.new.order) (omega arith) h d.auto.order in
    let w = one_more a.n a.lines.now a.starts.now l.done at (up_to f z l.done) a.orders.now l.ranks l.orders
    d.new.ranks d.new.order i.2 i.3 i.4 d.ensures.ranks d.ensures.order size in (
      d.auto.ranks ∙ i.0,
      ap length (part_same l.orders d.new.order at a.n (omega arith)) ∙ simp (length-append, length-take, length-drop) (omega (arith, i.1, h, size)),
      rw (up_to_more f z l.done, part_next l.done a.n) w.longer,
      part_same l.orders d.new.order at a.n (omega arith) ∙ rw (up_to_more f z l.done, part_next l.done a.n) w.filled,
      rw (up_to_more f z l.done) w.ranked,
    )

pub returns : goal.returns
unfolding all_rounds
returns c =
    let a = c.args in
    let l = c.loop-done in
    let e : l.done ≡ a.level.0 = omega arith in
    let g : l.done * a.n ≡ length a.orders.now = omega (arith, c.requires.2, ap (λ (x : ℕ). x * a.n) e) in
    let o = simp (drop-length, append-nil) at (rw g at l.invariant.3) in
    let w : rounds l.ranks l.orders ≡ up_to (next_round a.n a.lines.now a.starts.now) (rounds a.ranks.now []) l.done = ap₂ rounds l.invariant.4 o in
    record { rounds = rw e at w }
