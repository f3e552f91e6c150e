-- The parts of a message, as the reader finds them and as the writer is given them.
use Rattle.std.specs.Prelude.{Ok, Err}
use Rattle.std.specs.Prelude.{ℕ, ◌+◌, min, List, eqb, leb}
use Rattle.octets.specs.Bytes.{num, items}
use Rattle.rules.specs.Choice.{pick}
use Rattle.rules.specs.Kind.{numbers_in}
use Rattle.rules.specs.Read.{numbers_at, entries_at}
use Rattle.rules.specs.declared.Header.{Header}
use Rattle.rules.specs.declared.Message.{Message}
use Rattle.rules.specs.declared.Message.TheVariants.{Malformed}
use Rattle.rules.specs.Read.{Verdict}
use Rattle.fields.specs.declared.Parts.{Parts}

-- ---- as they stand in bytes

abbrev pub header_in : List ℕ → Header
header_in b =
    record { kind = num b 0 1; to_group = num b 1 1; to_mask = num b 2 1; from_group = num b 3 1; from_replica = num b 4 1; view = num b 8 4 }

-- `count` numbers from `at` on
abbrev pub numbers_from : List ℕ → ℕ → ℕ → List ℕ
numbers_from b at count = items (λ a. num b a 8) 8 at count

-- the numbers of the kind that the bytes say
abbrev pub kind_numbers : ℕ → List ℕ → List ℕ
kind_numbers s b = numbers_from b (numbers_at s (num b 0 1) + 4) (numbers_in (num b 0 1))

abbrev pub parts_in : ℕ → List ℕ → Parts
parts_in s b =
    record {
      header = header_in b;
      zeros = num b 5 3;
      views = num b 12 4;
      numbers = num b (numbers_at s (num b 0 1)) 4;
      entries = num b (entries_at s (num b 0 1)) 4;
    }

-- ---- the reader's answer from its verdict, where m is the case of what stands in the bytes

unfoldable pub judged_as : ℕ → ℕ → Message → Verdict → Message
judged_as len end m (Ok o) = pick (eqb len end) m (Malformed (min len end))
judged_as len end m (Err f) = Malformed (pick (leb f.end len) f.at len)
