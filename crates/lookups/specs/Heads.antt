-- What the record of a function says and where the constructors of a type stand, found in a rule file whose records stand at known places.
-- Rests on reach's Places and on the structs of src/lib.rt.
use Rattle.std.specs.Prelude.{ℕ, ◌≤◌, List}
use Rattle.reach.specs.RuleFile as RuleFile
use Rattle.reach.specs.Places.{bytes_at}
use Rattle.lookups.specs.declared.Head.{Head}
use Rattle.lookups.specs.declared.Constructors.{Constructors}

-- the head that was found
abbrev pub head_of : List ℕ → Head → RuleFile.Head
head_of s h = record { parameters = bytes_at s h.parameters.at h.parameters.count; result = h.result; body = h.body; size = h.size }

-- what was found stands at places that can be counted on from, and is no more than the bytes of its record say
abbrev pub NearHead : Head → Type 0
NearHead h = (h.parameters.at ≤ 65536) × (h.parameters.count ≤ 255) × (h.result ≤ 255) × (h.body ≤ 65794) × (h.size ≤ 65535)

abbrev pub NearType : Constructors → Type 0
NearType cs = (cs.at ≤ 65536) × (cs.count ≤ 255)
