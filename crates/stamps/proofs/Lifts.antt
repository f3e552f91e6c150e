-- A note, an early entry added, and the early entry that is lifted, in the bytes of a state on the way. Assumes nothing.
use Rattle.std.specs.Prelude as rust
use Rattle.std.specs.Prelude.{Some, None}
use Prim.Native.Nat.{ℕ, ◌+◌, ◌*◌, ◌≤◌, ◌<◌}
use mathlib.Core.Path.{◌≡◌, refl, sym, ap, subst, ◌∙◌}
use mathlib.Core.Bool.{Bool, true, false, not}
use mathlib.Core.List.{List, ◌++◌}
use native.Mathlib.Omega.{arith}
use lib.ListN.{length, take, drop}
use borrow.Author.Tests.{le-ltb, not-true, not-false}
use Rattle.octets.specs.Bytes.{num}
use Rattle.rules.specs.Choice.{is_some}
use Rattle.rules.specs.Entry.{no_entry, entry_of, same_txn, stamped, among, before, place}
use Rattle.rules.specs.Log.{distinct}
use Rattle.rules.specs.State.{Note, State, with_waiting, noted, agreed, greatest}
use Rattle.rules.specs.Read.{entry_at}
use Rattle.rules.specs.Image.{table_at, image, state_of}
use Rattle.rules.specs.Early.{lifted}
use Rattle.rules.specs.declared.Entry.{Entry}
use Rattle.rules.specs.declared.Shape.{Shape}
use Rattle.rules.proofs.Choice.{all_at, any_none}
use Rattle.rules.proofs.Order.{place_perm, perm_pairs}
use Rattle.rules.proofs.Logs.{Apart, apart_turns, distinct_pairs, pairs_distinct}
use Rattle.entries.specs.First.{find_row}
use Rattle.entries.specs.Table.{Holds, Table}
use Rattle.entries.proofs.First.{found_row}
use Rattle.entries.proofs.Table.{entry_in, row_among}
use Rattle.notes.specs.Notes.{said}
use Rattle.places.specs.Layout.{Midway}
use Rattle.places.proofs.Sections.{midway_is}
use Rattle.stamps.specs.Climbs.{Climbs}
use Rattle.stamps.proofs.Lifted.{not_before, lifted_absent, lifted_waits, lifted_here}

-- ---- what a note says

some_said : (p : rust.Option ℕ) → rust.is_some p ≡ is_some (said p)
some_said None = refl
some_said (Some t) = refl

pub is_noted : (xs ys : List Note) (x : Entry) (j : ℕ) (p : rust.Option ℕ) (r : Bool) → xs ≡ ys → said p ≡ noted xs x j → r ≡ rust.is_some p → r ≡ is_some (noted ys x j)
is_noted xs ys x j p r e q w = w ∙ some_said p ∙ ap is_some q ∙ ap (λ (zs : List Note). is_some (noted zs x j)) e

-- ---- the ways of lifting

-- a state with these early entries
abbrev pub early_in : State → List Entry → State
early_in st es = with_waiting es st.waiting.late st.waiting.notes st

module _ {sh : Shape} {st : State} {b : List ℕ} (m : Midway sh st b) (o : distinct st.waiting.early ≡ true) (t : List ℕ) (g : Table sh.c t) (e : table_at sh.c t 0 ≡ st.waiting.early) (x : Entry) (n i : ℕ) (q : n ≡ num t 0 4) (f : i ≡ find_row (λ j. entry_at t (4 + 24 * j)) x.request x.coordinator n) where
  held : Holds sh.c st.waiting.early t
  held = subst (λ (es : List Entry). Holds sh.c es t) e g

  counted : n ≡ length st.waiting.early
  counted = q ∙ held.count

  -- it is one of those in the table
  pub lift_within : i < n → i < length (table_at sh.c t 0)
  lift_within h = omega (arith, counted, ap length e)

  pub lift_absent : n ≤ i → Midway sh (early_in st (lifted sh st.waiting.notes x st.waiting.early)) b
  lift_absent h =
      let a : among st.waiting.early x ≡ false = sym (row_among sh.c st.waiting.early t held x n i counted f) ∙ le-ltb i n h in
      rw (lifted_absent sh st.waiting.notes x st.waiting.early a) m

  module _ (h : i < n) (d : Entry) (p : d ≡ entry_of (table_at sh.c t 0) i) (xs : List Note) (z : xs ≡ st.waiting.notes) where
    low : i < length st.waiting.early
    low = omega (arith, counted)

    found : d ≡ entry_of st.waiting.early i
    found = p ∙ ap (λ (es : List Entry). entry_of es i) e

    named : same_txn x (entry_of st.waiting.early i) ≡ true
    named = ap (same_txn x) (sym (entry_in sh.c st.waiting.early t held i low)) ∙ found_row (λ j. entry_at t (4 + 24 * j)) x n i f h

    pub lift_waits : (r : Bool) → r ≡ agreed sh xs d → not r ≡ true → Midway sh (early_in st (lifted sh st.waiting.notes x st.waiting.early)) b
    lift_waits r a y = rw (lifted_waits sh st.waiting.notes x st.waiting.early o i low named (sym (rw (z, found) at a) ∙ not-true r y)) m

    module _ (r : Bool) (v : ℕ) (a : r ≡ agreed sh xs d) (u : not r ≡ false) (w : v ≡ greatest sh xs d) (y : Entry) (k : y ≡ stamped v d) where
      abbrev to : ℕ
      to = greatest sh st.waiting.notes (entry_of st.waiting.early i)

      agrees : agreed sh st.waiting.notes (entry_of st.waiting.early i) ≡ true
      agrees = sym (rw (z, found) at a) ∙ not-false r u

      raised_is : y ≡ stamped to (entry_of st.waiting.early i)
      raised_is = k ∙ rw (w, z) (ap (λ (c : Entry). stamped (greatest sh st.waiting.notes c) c) found)

      -- it does not go down
      pub lift_up : Climbs sh st.waiting.notes x st.waiting.early → before y (entry_of st.waiting.early i) ≡ false
      lift_up l =
          let m : (entry_of st.waiting.early i).stamp ≤ to = all_at (λ (c : Entry). same_txn x c ≡ true → agreed sh st.waiting.notes c ≡ true → c.stamp ≤ greatest sh st.waiting.notes c) no_entry st.waiting.early l i low named agrees in
          ap (λ (c : Entry). before c (entry_of st.waiting.early i)) raised_is ∙ not_before (entry_of st.waiting.early i) to m

      pub lift_here : (b' : List ℕ) → Midway sh (early_in st (place y (take i st.waiting.early ++ drop (i + 1) st.waiting.early))) b' → Midway sh (early_in st (lifted sh st.waiting.notes x st.waiting.early)) b'
      lift_here b' l =
          rw (lifted_here sh st.waiting.notes x st.waiting.early o i low named agrees) (rw raised_is at l)

-- ---- what was written stands there

module _ {sh : Shape} {b : List ℕ} (st : State) (es : List Entry) (xs : List Note) (m : Midway sh (with_waiting es st.waiting.late xs st) b) where
  -- what holds of the early entries and the notes
  pub standing : (p : List Entry → List Note → Type 0) → p es xs → p (state_of sh b).waiting.early (state_of sh b).waiting.notes
  standing p h = subst (λ (x : State). p x.waiting.early x.waiting.notes) (sym (midway_is m)) h

  -- a note was kept, and the early entry is lifted by it
  pub kept_lifted : (e : Entry) (b' : List ℕ) → Midway sh (early_in (state_of sh b) (lifted sh (state_of sh b).waiting.notes e (state_of sh b).waiting.early)) b' → b' ≡ image sh (with_waiting (lifted sh xs e es) st.waiting.late xs st)
  kept_lifted e b' k = k.bytes ∙ ap (λ (x : State). image sh (early_in x (lifted sh x.waiting.notes e x.waiting.early))) (midway_is m)

-- an entry put in, of a transaction that was not there
pub placed_once : (e : Entry) (ds : List Entry) → distinct ds ≡ true → among ds e ≡ false → distinct (place e ds) ≡ true
placed_once e ds o a = pairs_distinct (place e ds) (perm_pairs Apart apart_turns (place_perm e ds) (any_none (same_txn e) ds a, distinct_pairs ds o))
