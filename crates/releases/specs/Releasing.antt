-- A state while entries are released, as its bytes hold it, and what one release and the end of all make of it.
use Rattle.std.specs.Prelude.{ℕ, ◌≡◌, true, List, [], ◌∷◌, ◌++◌, drop}
use Rattle.rules.specs.Entry.{without}
use Rattle.rules.specs.Log.{distinct}
use Rattle.rules.specs.State.{State, with_logged, with_waiting}
use Rattle.rules.specs.Image.{state_of}
use Rattle.rules.specs.Early.{notes_without}
use Rattle.rules.specs.declared.Entry.{Entry}
use Rattle.rules.specs.declared.Shape.{Shape}
use Rattle.places.specs.Layout.{Midway, Own}

-- the bytes are those of the state in them, whose own site is one of the shape; early has no transaction twice
pub record Releasing (sh : Shape) (b : List ℕ) : Type 0 where
  pub midway : Midway sh (state_of sh b) b
  pub own : Own sh (state_of sh b)
  pub early : distinct (state_of sh b).waiting.early ≡ true

-- the bytes are those of this state while entries are released
pub record Reaches (sh : Shape) (st : State) (b : List ℕ) : Type 0 where
  pub is : state_of sh b ≡ st
  pub releasing : Releasing sh b

-- with one entry more at the end of the log
abbrev pub logging : State → Entry → State
logging st e = with_logged (st.logged.log ++ (e ∷ [])) st.logged.sync st.logged.commit st

-- without these transactions in early
abbrev pub early_left : State → List Entry → State
early_left st gone = with_waiting (without gone st.waiting.early) st.waiting.late st.waiting.notes st

-- without their notes
abbrev pub notes_left : State → List Entry → State
notes_left st gone = with_waiting st.waiting.early st.waiting.late (notes_without gone st.waiting.notes) st

-- from the state in b, once the notes of the entries of its log from place n on went
abbrev pub Noted : Shape → List ℕ → ℕ → List ℕ → Type 0
Noted sh b n b' = Reaches sh (notes_left (state_of sh b) (drop n (state_of sh b).logged.log)) b'

-- from the state in b, once the entries of its log from place n on left early, and their notes went
abbrev pub Cleared : Shape → List ℕ → ℕ → List ℕ → Type 0
Cleared sh b n b' = Reaches sh (notes_left (early_left (state_of sh b) (drop n (state_of sh b).logged.log)) (drop n (state_of sh b).logged.log)) b'
