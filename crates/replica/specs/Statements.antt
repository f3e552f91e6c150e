-- What each function that a host calls promises: a predicate over what it is given and what it leaves. Its `ensures` is the predicate, and proofs/Promises shows
-- that two outcomes that satisfy it are one. What is handed on as it is given has the statement of the function that gives it: `Steps` of `rooms`, `Measures` of `fresh`,
-- `MeasuresFirst`, `TellsField`, `TellsView` and `TellsEntry` of `readers`, `DigestsOn` of `digest`.
use Rattle.std.specs.Prelude.{ℕ, ◌≡◌, List, []}
use Rattle.rules.specs.Choice.{pick}
use Rattle.rules.specs.Read.{decoded}
use Rattle.rules.specs.Wire.{answer_of, offset_in}
use Rattle.rules.specs.Image.{good_bytes}
use Rattle.rules.specs.Bytes.{step_bytes, start_bytes, order_bytes}
use Rattle.rules.specs.declared.Shape.{Shape}
use Rattle.replica.specs.Face.{version, coded, Gives, Puts, Given, writes_from}

-- jallumere_step: of the state's bytes b, a message and the buffer out are left the number r, the state's bytes b' and the buffer out'
abbrev pub StepsByNumber : Shape → (b message out : List ℕ) → (r : ℕ) (b' out' : List ℕ) → Type 0
StepsByNumber shape b message out r b' out' = Gives (step_bytes shape b message out) r b' out'

-- jallumere_start: of the memory b are left the number r and the memory b'
abbrev pub Starts : Shape → (group replica : ℕ) (b : List ℕ) → (r : ℕ) (b' : List ℕ) → Type 0
Starts shape group replica b r b' = Gives (start_bytes shape group replica b) r b' []

-- jallumere_order: of the state's bytes b are left the number r and the state's bytes b'
abbrev pub Orders : Shape → (b : List ℕ) → (r : ℕ) (b' : List ℕ) → Type 0
Orders shape b r b' = Gives (order_bytes shape b) r b' []

-- jallumere_good: 0 of a good state's bytes, 1 of others
abbrev pub Judges : Shape → (b : List ℕ) → (r : ℕ) → Type 0
Judges shape b r = r ≡ pick (good_bytes shape b) 0 1

-- jallumere_read: the reader's answer, and with 2 the offset
abbrev pub Reads : (n s : ℕ) (message : List ℕ) → (r : ℕ) → Type 0
Reads n s message r = r ≡ coded (answer_of (decoded n s message)) (offset_in (decoded n s message))

-- jallumere_write: of the header g, the numbers, views and entries and the buffer out are left the number r and the buffer out'
abbrev pub Writes : (n s : ℕ) → Given → (numbers views entries out : List ℕ) → (r : ℕ) (out' : List ℕ) → Type 0
Writes n s g numbers views entries out r out' = Puts (writes_from n s g numbers views entries out) r out'

-- jallumere_version
abbrev pub IsVersion : (r : ℕ) → Type 0
IsVersion r = r ≡ version

-- jallumere_is_model: the proved core is no model
abbrev pub IsCore : (r : ℕ) → Type 0
IsCore r = r ≡ 0
