-- What falls where `rejudging::text::Line::decimal` calls itself. Assumes nothing.
use Rattle.rejudging.proofs.text.Line.+decimal.Given as goal

abbrev pub decreases-decimal : goal.decreases-decimal
decreases-decimal l = l.n
