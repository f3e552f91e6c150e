-- Bytes that hold notes, and the notes that are read from them. Assumes nothing.
use Prim.Native.Nat.{ℕ, ◌+◌, ◌*◌, ◌≤◌, ◌<◌, min}
use mathlib.Core.Path.{◌≡◌, refl, sym, ap, subst, ◌∙◌}
use mathlib.Core.Bool.{Bool, ◌&&◌}
use mathlib.Core.Option.{none}
use mathlib.Core.List.{List, [], append-nil}
use native.Mathlib.Omega.{arith}
use native.Mathlib.Nat.{mul-le-mul_left, mul-le-mul_right}
use lib.ListN.{length, get_or}
use lib.Dec.{eqb}
use Rattle.octets.specs.Bytes.{num, items}
use Rattle.octets.proofs.Codecs.{All, back_number, get_or_items}
use Rattle.rules.specs.State.{Note}
use Rattle.rules.specs.Image.{note_length, notes_section, point_at, note_at}
use Rattle.rules.specs.declared.Shape.{Shape}
use Rattle.rules.proofs.Tables.{NoteFits, NotesFit, note, long_rows, back_rows}
use Rattle.notes.specs.Notes.{sized, notes_at, no_note, note_in, is_of, NotesHold, Notes}

-- ---- places: the product of two sizes, within its bounds

pub below_room : (s i : ℕ) → s ≤ 8 → i ≤ 4096 → note_length s * i ≤ 319488
below_room s i hs hi = omega (arith, mul-le-mul_right i hs)

pub inside : (s i n : ℕ) → i < n → note_length s * i + note_length s ≤ note_length s * n
inside s i n h = omega (arith, mul-le-mul_left s h)

-- ---- the record

pub count_notes : (c s : ℕ) (xs : List Note) → length xs ≤ 4096 → num (notes_section (sized c s) xs) 0 4 ≡ length xs
unfolding notes_section
count_notes c s xs h = back_number 4 (notes_section (sized c s) xs) 0 (length xs) _ (omega arith) refl

module _ (c s : ℕ) (xs : List Note) (t : List ℕ) where
  fits : length xs ≤ c → c ≤ 4096 → All (NoteFits s) xs → NotesFit (sized c s) xs
  fits r m f = record { room = r; counted = omega arith; each = f }

  pub hold : t ≡ notes_section (sized c s) xs → length xs ≤ c → c ≤ 4096 → s ≤ 8 → All (NoteFits s) xs → NotesHold c s xs t
  unfolding notes_section
  hold b r m g f =
      record {
        bytes = b;
        room = r;
        small = m;
        groups = g;
        fit = f;
        size = ap length b ∙ long_rows (note s) c xs (fits r m f);
        count = ap (λ (x : List ℕ). num x 0 4) b ∙ count_notes c s xs (omega arith);
      }

  module _ (h : NotesHold c s xs t) where
    -- the notes that are read are those that it holds
    pub decoded : notes_at c s t ≡ xs
    unfolding notes_at notes_section
    decoded = back_rows (note s) t 0 c xs [] (fits h.room h.small h.fit) (h.bytes ∙ sym (append-nil (notes_section (sized c s) xs)))

    pub is_notes : Notes c s t
    is_notes = subst (λ (x : List Note). NotesHold c s x t) (sym decoded) h

    -- what a further call says of the notes that it read, said of those that the bytes hold
    pub and_then : (op : List Note → List Note) (u : List ℕ) → NotesHold c s (op (notes_at c s t)) u → NotesHold c s (op xs) u
    and_then op u k = subst (λ (x : List Note). NotesHold c s (op x) u) decoded k

    -- one note, by its place
    pub note_in_lem : (i : ℕ) → i < length xs → note_at s t (4 + note_length s * i) ≡ note_in xs i
    unfolding notes_at
    note_in_lem i l =
        let n : min (num t 0 4) c ≡ length xs = omega (arith, h.count, h.room) in
        let k : i < min (num t 0 4) c = omega arith in
        sym (get_or_items (note_at s t) (note_length s) 4 (min (num t 0 4) c) i no_note k) ∙ ap (λ (ys : List Note). note_in ys i) decoded

    -- its transaction
    pub transaction_in : (i at request coordinator : ℕ) (r : Bool) → i < length xs → at ≡ 4 + note_length s * i → r ≡ (eqb (num t (at + 4) 2) coordinator && eqb (num t at 4) request) → is_of request coordinator (note_in xs i) ≡ r
    unfolding note_at
    transaction_in i at request coordinator r l e q = sym (ap (is_of request coordinator) (note_in_lem i l)) ∙ sym (rw e at q)

    -- its timestamp of a group
    pub point_in : (i j at : ℕ) → i < length xs → j < s → at ≡ 4 + note_length s * i + 6 + 9 * j → point_at t at ≡ get_or (note_in xs i).stamps j none
    unfolding note_at
    point_in i j at l m e =
        ap (point_at t) e ∙ sym (get_or_items (point_at t) 9 (4 + note_length s * i + 6) s j none m) ∙ ap (λ (x : Note). get_or x.stamps j none) (note_in_lem i l)

-- no notes
pub empty : (c s : ℕ) (t : List ℕ) → t ≡ notes_section (sized c s) [] → c ≤ 4096 → s ≤ 8 → NotesHold c s [] t
empty c s t b m g = hold c s [] t b (omega arith) m g tt

-- ---- the section of a state, whose shape has more

pub section_of : (sh : Shape) (xs : List Note) → notes_section sh xs ≡ notes_section (sized sh.c sh.s) xs
unfolding notes_section
section_of sh xs = refl

pub hold_section : (sh : Shape) (xs : List Note) (t : List ℕ) → t ≡ notes_section sh xs → NotesFit sh xs → sh.c ≤ 4096 → sh.s ≤ 8 → NotesHold sh.c sh.s xs t
hold_section sh xs t b f m g = hold sh.c sh.s xs t (b ∙ section_of sh xs) f.room m g f.each

pub held_section : (sh : Shape) (xs : List Note) (t : List ℕ) → NotesHold sh.c sh.s xs t → t ≡ notes_section sh xs
held_section sh xs t h = h.bytes ∙ sym (section_of sh xs)

-- the notes of the state that is read
pub read_is : (c s : ℕ) (t : List ℕ) → notes_at c s t ≡ items (note_at s t) (note_length s) 4 (min (num t 0 4) c)
unfolding notes_at
read_is c s t = refl
