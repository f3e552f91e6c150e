-- Where each section of a state begins, and what is known of bytes that hold a state.
use Rattle.std.specs.Prelude.{ℕ, ◌+◌, ◌*◌, ◌≤◌, ◌<◌, ◌%◌, ◌≡◌, true, List, ◌++◌, length, take}
use Rattle.octets.specs.Bytes.{le, num, part}
use Rattle.octets.specs.Sections.{total}
use Rattle.rules.specs.Choice.{pick}
use Rattle.rules.specs.Group.{shape_fits}
use Rattle.rules.specs.State.{State, good}
use Rattle.rules.specs.Image.{table_length, note_length, vote_length, reply_length, lengths, state_length, image, at_draft, at_early, at_gvec, at_heard, at_late, at_log, at_notes, at_replies, at_votes, at_end}
use Rattle.rules.specs.declared.Shape.{Shape}
use Rattle.rules.proofs.Image.{StateFits}
use Rattle.places.specs.declared.Places.{Places}

-- where a section begins
abbrev pub start_of : Shape → ℕ → ℕ
start_of sh i = total (take i (lengths sh))

-- the longest state: of seven replicas in each of eight groups, with room for 4,096 entries
abbrev pub longest : ℕ
longest = state_length (record { n = 7; s = 8; c = 4096 })

-- where each begins, and the length of a table, a note, a vote and a reply
abbrev pub places_of : Shape → Places
places_of sh =
    record {
      views = start_of sh at_gvec;
      heard = start_of sh at_heard;
      log = start_of sh at_log;
      early = start_of sh at_early;
      late = start_of sh at_late;
      notes = start_of sh at_notes;
      votes = start_of sh at_votes;
      draft = start_of sh at_draft;
      replies = start_of sh at_replies;
      end = start_of sh (at_end sh);
      table = table_length sh.c;
      note = note_length sh.s;
      vote = vote_length sh.c;
      reply = reply_length sh.c;
    }

-- the places are those of the shape. What follows from the first is here so that it is found
pub record Marks (sh : Shape) (p : Places) : Type 0 where
  pub all : p ≡ places_of sh
  pub views : p.views ≡ start_of sh at_gvec
  pub heard : p.heard ≡ start_of sh at_heard
  pub log : p.log ≡ start_of sh at_log
  pub early : p.early ≡ start_of sh at_early
  pub late : p.late ≡ start_of sh at_late
  pub notes : p.notes ≡ start_of sh at_notes
  pub votes : p.votes ≡ start_of sh at_votes
  pub draft : p.draft ≡ start_of sh at_draft
  pub replies : p.replies ≡ start_of sh at_replies
  pub end : p.end ≡ start_of sh (at_end sh)
  pub table : p.table ≡ table_length sh.c
  pub note : p.note ≡ note_length sh.s
  pub vote : p.vote ≡ vote_length sh.c
  pub reply : p.reply ≡ reply_length sh.c
  pub small : start_of sh (at_end sh) ≤ longest

-- a shape in range, as plain facts
pub record Fits (sh : Shape) : Type 0 where
  pub least : 3 ≤ sh.n
  pub most : sh.n ≤ 7
  pub odd : sh.n % 2 ≡ 1
  pub groups : 1 ≤ sh.s
  pub few : sh.s ≤ 8
  pub room : 16 ≤ sh.c
  pub small : sh.c ≤ 4096

-- the length that a state has; 0 where the sizes are not permitted
unfoldable pub length_for : Shape → ℕ
length_for sh = pick (shape_fits sh) (state_length sh) 0

-- place r of section i, whose places have k bytes each, begins at a and lies within the state
pub record PlaceAt (sh : Shape) (i k r a : ℕ) : Type 0 where
  pub at : a ≡ start_of sh i + k * r
  pub within : a + k ≤ state_length sh

-- bytes of the right length
pub record Sized (sh : Shape) (b : List ℕ) : Type 0 where
  pub fits : Fits sh
  pub size : length b ≡ state_length sh

-- the vote that the own last normal gView, sync point and log make
unfoldable pub own_bytes : Shape → List ℕ → List ℕ
own_bytes sh b = le 1 1 ++ (le 4 (num b 12 4) ++ (le 8 (num b 24 8) ++ part b (start_of sh at_log) (table_length sh.c)))

-- the bytes are those of the state, good or not, and each of its numbers and tables fits its bytes: so of any state on the way from one good state to another
pub record Midway (sh : Shape) (st : State) (b : List ℕ) : Type 0 where
  pub fits : Fits sh
  pub holds : StateFits sh st
  pub bytes : b ≡ image sh st
  pub size : length b ≡ state_length sh

-- the bytes are those of a good state: what a step is given
pub record Stands (sh : Shape) (st : State) (b : List ℕ) : Type 0 where
  pub fits : Fits sh
  pub shape : shape_fits sh ≡ true
  pub good : good sh st ≡ true
  pub bytes : b ≡ image sh st
  pub size : length b ≡ state_length sh

-- the own group is one of the shape's, and the own replica one of a group's
pub record Own (sh : Shape) (st : State) : Type 0 where
  pub group : st.site.group < sh.s
  pub replica : st.site.replica < sh.n
