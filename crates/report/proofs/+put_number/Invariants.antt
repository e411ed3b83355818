-- `report::put_number`: the measure is the number, since its call of itself writes the digits of a tenth of it.
use Rattle.report.proofs.+put_number.Given as goal

abbrev pub decreases-put_number : goal.decreases-put_number
decreases-put_number l = l.x
