-- Entries in a row: the first that repeats an earlier transaction, how far a log is looked at, and what is looked at.
use Rattle.std.specs.Prelude.{ℕ, ◌+◌, ◌-◌, ◌*◌, ◌^◌, ◌≤◌, min, Bool, ◌&&◌, List, ltb}
use Rattle.rules.specs.Choice.{pick}
use Rattle.rules.specs.Group.{holds}
use Rattle.rules.specs.Entry.{before}
use Rattle.rules.specs.Log.{seen_before}
use Rattle.rules.specs.Read.{entry_at, message_wrong}
use Rattle.rules.specs.declared.Entry.{Entry}
use Rattle.rules.specs.Read.{Verdict}
use Rattle.fields.specs.Parts.{fields_from}
use Rattle.fields.specs.declared.Parts.{Parts}
use Rattle.verdicts.specs.declared.Look.{Look}
use Rattle.repeats.specs.Repeat.{first_to}

-- the entries that stand in b from `at` on
abbrev pub row_in : List ℕ → ℕ → ℕ → Entry
row_in b at i = entry_at b (at + 24 * i)

-- of the first n entries, the first that has a transaction of an earlier one; n where none has
abbrev pub repeat_of : (ℕ → Entry) → ℕ → ℕ
repeat_of f n = first_to (λ i. seen_before f (f i) i) n

-- how many of `seen` entries come before the first whole one of a log that repeats an earlier
unfoldable pub limit_of : Bool → (ℕ → Entry) → ℕ → ℕ → ℕ
limit_of log f whole seen = pick (log && ltb (repeat_of f (min whole seen)) (min whole seen)) (repeat_of f (min whole seen)) seen

-- an entry whose transaction is new stands in a log of group k after the entry `last`
abbrev pub stands_after : ℕ → ℕ → Entry → Entry → Bool
stands_after s k last e = before last e && (holds e.mask k && ltb e.mask (2 ^ s))

-- the verdict on a message of these numbers, whose entries stand in b
abbrev pub wrong_in : ℕ → ℕ → Parts → List ℕ → List ℕ → Look → Verdict
wrong_in n s p xs b look = message_wrong n s (fields_from p xs (row_in b look.at)) look.whole look.seen

-- what is looked at lies near enough, and its whole entries lie in the `size` bytes
pub record Looked (s : ℕ) (look : Look) (size : ℕ) : Type 0 where
  pub groups : s ≤ 8
  pub near : look.at ≤ 2 ^ 32
  pub few : look.seen ≤ 2 ^ 32
  pub inside : 24 * look.whole ≤ size - look.at
