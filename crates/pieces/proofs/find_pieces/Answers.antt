-- `pieces::find_pieces` meets its contract. From each station alone, the lines lead to the definition's names, and the last pass leaves
-- just these. Assumes nothing.
use native.Mathlib.Omega.{arith}
use Rattle.pieces.specs.Pieces.{pieces_of}
use Rattle.pieces.proofs.Tables.{set_leads}
use Rattle.pieces.proofs.find_pieces.Goals as goal

pub join_lines-requires : goal.join_lines-requires
join_lines-requires c =
    let s = c.args.network.now.sound in
    let started = set_leads _ _ c.set_alone.ensures.alone in (
      record {
        one_in = λ p h. omega (arith, s.simple.proper.one_in p h);
        two_in = λ p h. omega (arith, s.simple.proper.two_in p h);
        few = s.within.few;
        most = omega (arith, s.within.most);
        marks = omega arith;
      },
      record { names = _; leads = started },
    )

pub set_names-requires : goal.set_names-requires
set_names-requires c =
    let started = set_leads _ _ c.set_alone.ensures.alone in
    (omega (arith, c.args.network.now.sound.within.most), record { names = _; leads = c.join_lines.ensures.joined _ started })

pub returns : goal.returns
unfolding pieces_of
returns c =
    record {
      pieces = (let started = set_leads _ _ c.set_alone.ensures.alone in
          rw c.requires.1 at (c.set_names.ensures.names _ (c.join_lines.ensures.joined _ started)));
    }
