-- What the checks know of a state's bytes, and tests that are parts of the rules' tests.
use Rattle.std.specs.Prelude.{ℕ, ◌+◌, ◌*◌, ◌<◌, ◌≡◌, Bool, ◌&&◌, List, [], ◌∷◌, ◌++◌, length, eqb, ltb, leb}
use Rattle.octets.specs.Bytes.{num, part}
use Rattle.rules.specs.Choice.{pick, when, all_of, every, is_some}
use Rattle.rules.specs.Group.{shape_fits}
use Rattle.rules.specs.Entry.{latest, entry_fits}
use Rattle.rules.specs.Log.{good_log}
use Rattle.rules.specs.State.{Note, State, in_order, leads, noted, stamps_of, noted_to, greatest_to, value_of, view_good, heard_good, kept_good, buffers_good, early_good, notes_distinct, good}
use Rattle.rules.specs.Image.{note_length, state_of, canonical, at_early, at_late, at_log, at_notes}
use Rattle.rules.specs.declared.Entry.{Entry}
use Rattle.rules.specs.declared.Shape.{Shape}
use Rattle.logs.specs.Place.{Within}
use Rattle.notes.specs.Notes.{Notes}
use Rattle.places.specs.Layout.{start_of, Sized}

-- the head's numbers are in range
unfoldable pub head_fits : Shape → State → Bool
head_fits sh st =
    all_of
    (ltb st.site.group sh.s
    ∷ ltb st.site.replica sh.n
    ∷ leb 1 st.view.status
    ∷ leb st.view.status 3
    ∷ leb st.clock latest
    ∷ leb st.change.boundary latest
    ∷ [])

-- the commit point is within the sync point, and that within the log
unfoldable pub points_good : State → Bool
points_good st = leb st.logged.commit st.logged.sync && leb st.logged.sync (length st.logged.log)

-- an entry has the note of group k, and the timestamp that the notes of s groups say
unfoldable pub noted_right : ℕ → List Note → ℕ → Entry → Bool
noted_right s xs k e =
    is_some (noted xs e k)
    && eqb e.stamp (pick (noted_to e.mask (stamps_of xs e) s) (greatest_to e.mask (stamps_of xs e) s) (value_of (noted xs e k)))

-- the log is good, and with it early and late buffer, whose entries are in range
unfoldable pub entries_good : Shape → State → Bool
entries_good sh st = good_log sh.s st.site.group st.logged.log && (buffers_good st && every (entry_fits sh.s) (st.waiting.early ++ st.waiting.late))

-- in status 1 a leader's early entries have their notes
unfoldable pub early_right : Shape → State → Bool
early_right sh st = when (eqb st.view.status 1 && leads sh st) (every (early_good sh st) st.waiting.early)

-- and no two notes are of one transaction
unfoldable pub notes_right : Shape → State → Bool
notes_right sh st = notes_distinct st.waiting.notes && early_right sh st

-- bytes of the right length whose group is in range
pub record Known (sh : Shape) (b : List ℕ) : Type 0 where
  pub sized : Sized sh b
  pub group : num b 0 1 < sh.s

-- and which are the form of the state in them: of that, what the tests need
pub record Formed (sh : Shape) (b : List ℕ) : Type 0 where
  pub known : Known sh b
  pub log : Within sh.c b (start_of sh at_log)
  pub early : Within sh.c b (start_of sh at_early)
  pub late : Within sh.c b (start_of sh at_late)
  pub notes : Notes sh.c sh.s (part b (start_of sh at_notes) (4 + note_length sh.s * sh.c))

-- t is the notes of the state in b
pub record Lent (sh : Shape) (b t : List ℕ) : Type 0 where
  pub notes : Notes sh.c sh.s t
  pub is : t ≡ part b (start_of sh at_notes) (4 + note_length sh.s * sh.c)

-- what is left of a good state where head and notes are in range
unfoldable pub rest_good : Shape → State → Bool
rest_good sh st =
    all_of
    (heard_good sh st
    ∷ good_log sh.s st.site.group st.change.draft
    ∷ points_good st
    ∷ view_good sh st
    ∷ kept_good sh st
    ∷ entries_good sh st
    ∷ notes_right sh st
    ∷ [])

-- the state of which it is asked that it is good: as it is or, where the order of early is not asked, with early in order
abbrev pub asked : Bool → State → State
asked ordered st = pick ordered st (in_order st)

-- the bytes are those of such a state
unfoldable pub judged : Bool → Shape → List ℕ → Bool
judged ordered sh b = shape_fits sh && (canonical sh b && good sh (asked ordered (state_of sh b)))
