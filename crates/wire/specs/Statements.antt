-- The statements of the reader and the writer, as predicates over what is given and what is left. Each `ensures` is its predicate, and proofs/Promises shows that two
-- outcomes that satisfy it are one.
use Rattle.std.specs.Prelude.{ℕ, ◌≡◌, List}
use Rattle.rules.specs.Read.{decoded}
use Rattle.rules.specs.Write.{written, writes}
use Rattle.rules.specs.Refusals.{Answer}
use Rattle.rules.specs.declared.Message.{Message}

-- read: the bytes b are the message m, or are none as it says
abbrev pub Reads : (n s : ℕ) (b : List ℕ) → (m : Message) → Type 0
Reads n s b m = m ≡ decoded n s b

-- write: of the message m with these views and entries, and the buffer out, are left the answer a and the buffer out'
abbrev pub Writes : (n s : ℕ) → Message → (views entries out : List ℕ) → (a : Answer) (out' : List ℕ) → Type 0
Writes n s m views entries out a out' = written a out' ≡ writes n s m views entries out
