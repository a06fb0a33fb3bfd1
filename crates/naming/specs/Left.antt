-- The letters that an iterator over a name has not given yet.
-- Rests on Letters and on the struct of src/lib.rt.
use Rattle.std.specs.Prelude.{ℕ, List}
use Rattle.naming.specs.declared.EachLetter.{EachLetter}
use Rattle.naming.specs.Letters.{letters}

abbrev pub letters_left : EachLetter → List ℕ
letters_left each = letters each.bytes.now
