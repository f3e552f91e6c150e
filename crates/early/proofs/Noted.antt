-- The notes as those of listed transactions leave: one looked at, one moved, the rest cut off. Assumes nothing.
use Prim.Native.Nat.{ℕ, zero, suc, ◌+◌, ◌*◌, ◌-◌, ◌≤◌, ◌<◌}
use mathlib.Core.Path.{◌≡◌, refl, sym, ap, ◌∙◌}
use mathlib.Core.Bool.{Bool}
use mathlib.Core.List.{List, [], ◌∷◌, ◌++◌, append_assoc}
use native.Mathlib.Omega.{arith}
use native.Mathlib.Nat.{mul-le-mul_left}
use lib.ListN.{length, take, drop, set, replicate, length-set, length-append, length-replicate, replicate-append-replicate, length-drop, take-append-drop}
use lib.Seq.{length-take-le}
use Rattle.octets.specs.Bytes.{le, num, part, splice, flat}
use Rattle.octets.proofs.Laws.{length_le, part_front, part_back, splice_front, splice_back, splice_at}
use Rattle.octets.proofs.Sections.{part_whole}
use Rattle.octets.proofs.Codecs.{All, long_all, flat_append}
use Rattle.rules.specs.Choice.{any}
use Rattle.rules.specs.State.{Note, note_of}
use Rattle.rules.specs.Image.{note_length, zero_bytes, note_bytes, note_at, notes_section}
use Rattle.rules.specs.declared.Entry.{Entry}
use Rattle.rules.proofs.Tests.{all_at, all-1}
use Rattle.rules.proofs.Tables.{NoteFits, note}
use Rattle.rules.proofs.Choice.{all_take, all_drop}
use Rattle.entries.specs.First.{is_of}
use Rattle.notes.specs.Notes.{no_note, note_in, notes_at, NotesHold, Notes}
use Rattle.notes.proofs.Notes.{hold, note_in_lem, decoded, is_notes}
use Rattle.places.proofs.Rows.{Even, within, get_row, set_row}
use Rattle.early.specs.Moved.{moved, moved_to}
use Rattle.early.proofs.Sifting.{Sifted, sift_turn}

all_set : {A : Type 0} (P : A → Type 0) (xs : List A) (i : ℕ) (y : A) → All P xs → P y → All P (set xs i y)
all_set P [] i y f g = f
all_set P (x ∷ xs) zero y f g = (g, f.1)
all_set P (x ∷ xs) (suc i) y f g = (f.0, all_set P xs i y f.1 g)

module _ {c s : ℕ} {xs : List Note} {t : List ℕ} (h : NotesHold c s xs t) where
  -- note i lies within the bytes
  pub note_within : (i : ℕ) → i < length xs → 4 + note_length s * i + note_length s ≤ length t
  note_within i l = omega (arith, h.size, h.room, within (note_length s) i c (omega (arith, h.room)))

  pub end_within : (n : ℕ) → n ≤ length xs → (note_length s * n ≤ note_length s * length xs) × (4 + note_length s * length xs ≤ length t)
  end_within n l = (mul-le-mul_left (note_length s) l, omega (arith, h.size, mul-le-mul_left (note_length s) h.room))

  pub end_at : (m end : ℕ) → m ≡ num t 0 4 → end ≡ 4 + note_length s * m → end ≡ 4 + note_length s * length xs
  end_at m end hm e = e ∙ ap (λ (j : ℕ). 4 + note_length s * j) (hm ∙ h.count)

  -- whether its transaction is among those listed
  pub note_looked : (gone : List Entry) (i at request coordinator : ℕ) (r : Bool) → i < length xs → at ≡ 4 + note_length s * i → request ≡ num t at 4 → coordinator ≡ num t (at + 4) 2
      → r ≡ any (is_of request coordinator) gone → r ≡ any (λ e. note_of e (note_in xs i)) gone
  unfolding note_at
  note_looked gone i at request coordinator r l e a b q =
      q ∙ rw (a, b) (ap (λ (x : Note). any (λ e. note_of e x) gone) (ap (note_at s t) e ∙ note_in_lem c s xs t h i l))

  even : Even note_bytes (note_length s) xs
  even = all-1 (λ x f. (note s).long x f) xs h.fit

  -- the bytes of note i
  note_bytes_lem : (i from : ℕ) → i < length xs → from ≡ 4 + note_length s * i → part t from (note_length s) ≡ note_bytes (note_in xs i)
  unfolding notes_section
  note_bytes_lem i from l e =
      let k : ℕ = note_length s in
      let F : List ℕ = flat note_bytes xs in
      let Z : List ℕ = zero_bytes (k * (c - length xs)) in
      let a : from ≡ length (le 4 (length xs)) + k * i = omega (arith, length_le 4 (length xs)) in
      let m : k * i + k ≤ length F = omega (arith, long_all (note s) xs h.fit, within k i (length xs) l) in
      let z : k * i ≡ k * i + 0 = omega arith in
      let w : length (note_bytes (note_in xs i)) ≤ k = omega (arith, (note s).long (note_in xs i) (all_at (NoteFits s) no_note xs h.fit i l)) in
      ap (λ (b : List ℕ). part b from k) h.bytes
      ∙ ap (λ (j : ℕ). part (le 4 (length xs) ++ (F ++ Z)) j k) a
      ∙ part_back (le 4 (length xs)) (F ++ Z) (k * i) k
      ∙ part_front F Z (k * i) k m
      ∙ ap (λ (j : ℕ). part F j k) z
      ∙ get_row note_bytes k no_note xs i 0 k even l (omega arith)
      ∙ part_whole (note_bytes (note_in xs i)) k w

  -- one is moved
  pub move_law : (i kept to from n : ℕ) (u : List ℕ) → i < length xs → kept ≤ i → to ≡ 4 + note_length s * kept → from ≡ 4 + note_length s * i → n ≡ note_length s → u ≡ splice t to (part t from n) → NotesHold c s (set xs kept (note_in xs i)) u
  unfolding notes_section
  move_law i kept to from n u l m e f z q =
      let k : ℕ = note_length s in
      let x : Note = note_in xs i in
      let fx : NoteFits s x = all_at (NoteFits s) no_note xs h.fit i l in
      let F : List ℕ = flat note_bytes xs in
      let Z : List ℕ = zero_bytes (k * (c - length xs)) in
      let lx : length (note_bytes x) ≡ k = (note s).long x fx in
      let a : to ≡ length (le 4 (length xs)) + k * kept = omega (arith, length_le 4 (length xs)) in
      let w : k * kept + length (note_bytes x) ≤ length F = omega (arith, long_all (note s) xs h.fit, within k kept (length xs) (omega arith)) in
      let g : u ≡ le 4 (length xs) ++ (flat note_bytes (set xs kept x) ++ Z)
      = q
      ∙ ap (splice t to) (ap (part t from) z ∙ note_bytes_lem i from l f)
      ∙ ap (λ (b : List ℕ). splice b to (note_bytes x)) h.bytes
      ∙ ap (λ (j : ℕ). splice (le 4 (length xs) ++ (F ++ Z)) j (note_bytes x)) a
      ∙ splice_back (le 4 (length xs)) (F ++ Z) (k * kept) (note_bytes x)
      ∙ ap (λ (b : List ℕ). le 4 (length xs) ++ b) (splice_front F Z (k * kept) (note_bytes x) w ∙ ap (λ (b : List ℕ). b ++ Z) (set_row note_bytes k xs kept x even lx (omega arith))) in
      let r : length (set xs kept x) ≡ length xs = length-set xs kept x in
      hold c s (set xs kept x) u (g ∙ sym (rw r)) (omega (arith, h.room)) h.small h.groups (all_set (NoteFits s) xs kept x h.fit fx)

  -- the rest is cut off
  pub truncate_law : (n m from end : ℕ) (u v : List ℕ) → n ≤ length xs → m ≡ num t 0 4 → from ≡ 4 + note_length s * n → end ≡ 4 + note_length s * m → u ≡ splice t from (replicate (end - from) 0) → v ≡ splice u 0 (le 4 n) → NotesHold c s (take n xs) v
  unfolding notes_section
  truncate_law n m from end u v l hm e f q w =
      let k : ℕ = note_length s in
      let ys : List Note = take n xs in
      let zs : List Note = drop n xs in
      let d : m ≡ length xs = hm ∙ h.count in
      let Z : List ℕ = zero_bytes (k * (c - m)) in
      let P : List ℕ = le 4 m ++ flat note_bytes ys in
      let O : List ℕ = replicate (end - from) 0 in
      let ly : length ys ≡ n = length-take-le n xs l in
      let v1 : m ≡ n + (m - n) = omega arith in
      let y : end - from ≡ k * (m - n) = omega (arith, ap (λ (j : ℕ). k * j) v1) in
      let hl : t ≡ P ++ (flat note_bytes zs ++ Z)
      = h.bytes ∙ rw (← d) (ap (λ (r : List Note). le 4 m ++ (flat note_bytes r ++ Z)) (sym (take-append-drop n xs)) ∙ rw (flat_append note_bytes ys zs) (simp append_assoc)) in
      let lP : length P ≡ from = length-append (le 4 m) (flat note_bytes ys) ∙ omega (arith, length_le 4 m, long_all (note s) ys (all_take (NoteFits s) n xs h.fit) ∙ ap (λ (j : ℕ). k * j) ly) in
      let lz : length (flat note_bytes zs) ≡ length O = long_all (note s) zs (all_drop (NoteFits s) n xs h.fit) ∙ ap (λ (j : ℕ). k * j) (length-drop n xs ∙ ap (λ (j : ℕ). j - n) (sym d)) ∙ sym (length-replicate {A = ℕ} (end - from) 0 ∙ y) in
      let lu : u ≡ le 4 m ++ (flat note_bytes ys ++ (O ++ Z))
      = q ∙ ap (λ (b : List ℕ). splice b from O) hl ∙ splice_at P (flat note_bytes zs) Z O from lP lz ∙ append_assoc (le 4 m) (flat note_bytes ys) (O ++ Z) in
      let v2 : c - n ≡ m - n + (c - m) = omega (arith, h.room) in
      let v3 : k * (c - n) ≡ end - from + k * (c - m) = omega (arith, ap (λ (j : ℕ). k * j) v2) in
      let g : O ++ Z ≡ zero_bytes (k * (c - n)) = replicate-append-replicate {A = ℕ} (end - from) (k * (c - m)) 0 ∙ ap zero_bytes (sym v3) in
      hold c s ys v
      (w ∙ ap (λ (b : List ℕ). splice b 0 (le 4 n)) lu ∙ splice_at [] (le 4 m) (flat note_bytes ys ++ (O ++ Z)) (le 4 n) 0 refl (length_le 4 m ∙ sym (length_le 4 n)) ∙ rw (g, ly))
      (omega (arith, h.room))
      h.small
      h.groups
      (all_take (NoteFits s) n xs h.fit)

-- one turn over the notes
pub notes_turn : (p : Note → Bool) (xs : List Note) (i kept c s : ℕ) (ys : List Note) (u : List ℕ) (r : ℕ) → Sifted p xs i kept ys → i < length xs
    → NotesHold c s (moved p no_note ys i kept) u → r ≡ moved_to p no_note ys i kept → Notes c s u × Sifted p xs (i + 1) r (notes_at c s u)
notes_turn p xs i kept c s ys u r a l h q = (is_notes c s _ u h, sift_turn p no_note xs i kept ys a l r _ q (decoded c s _ u h))
