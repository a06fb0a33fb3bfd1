-- The measure of `writing::Page::decimal` is the number.
use Rattle.writing.proofs.Page.+decimal.Given as goal

abbrev pub decreases-decimal : goal.decreases-decimal
decreases-decimal l = l.n
