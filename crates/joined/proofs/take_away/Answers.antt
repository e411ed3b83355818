-- `joined::take_away` meets its contract. Assumes nothing.
use mathlib.Core.Path.{◌≡◌, refl}
use native.Mathlib.Omega.{arith}
use borrow.Author.Rules.{rules}
use lib.ListN.{length, length-set}
use Rattle.laws.specs.Fold.{first_from}
use Rattle.pieces.specs.Away.{is_away}
use Rattle.joined.proofs.Asking.{mark_next}
use Rattle.joined.proofs.take_away.Goals as goal

pub loop-v-init : goal.loop-v-init
unfolding first_from
loop-v-init c = (search rules, refl, λ v h. c.requires.1.none v h)

pub loop-v-preserved : goal.loop-v-preserved
loop-v-preserved c =
    let l = c.loop-v in
    let away = c.args.away.now in (
      omega arith,
      simp length-set (omega arith),
      λ v h. mark_next away l.gone l.v-index (omega (arith, c.requires.0.below l.v-index (omega arith))) l.invariant.2 v (simp length-set at h),
    )

pub returns : goal.returns
unfolding is_away
returns c =
    record {
      gone = (let e : c.loop-v.v-index ≡ length c.args.away.now = omega arith in
          record { says = λ v h. rw e at (c.loop-v.invariant.2 v h) });
    }
