-- What the readers of crate reach find, with their values forgotten; and the parts of two records that have a function of their own.
-- Rests on reach's Reader and RuleFile.
use Rattle.std.specs.Prelude.{ℕ, ◌&&◌, leb, Result, Ok, Err}
use Rattle.reach.specs.declared.Refusal.{Refusal}
use Rattle.reach.specs.declared.Refusal.TheVariants.{OutOfRange}
use Rattle.reach.specs.Limits.{body_limit, depth_limit, step_limit}
use Rattle.reach.specs.Reader.{Got, got, refused, Reader, ◌>>=◌, ◌>>◌, give, demand, word, passed}
use Rattle.reach.specs.RuleFile.{counted}

-- any reader, with its value forgotten
abbrev pub passed_of : {A : Type 0} → Got A → Result ℕ Refusal
passed_of (got a next) = Ok next
passed_of (refused why) = Err why

-- the end of a function's record: the body's length, then the body
unfoldable pub body_part : Reader ℕ
body_part = do
  l ← word
  demand (leb 1 l && leb l body_limit) OutOfRange
  passed l

-- the end of GO: D and S
unfoldable pub limits_part : Reader ℕ
limits_part = do
  d ← counted 1 depth_limit
  s ← word
  demand (leb s step_limit) OutOfRange
  give s
