-- What the writes of each operation make of the notes: n is what the count gave, t1, t2, t3 the bytes after each call. Assumes nothing.
use Prim.Native.Nat.{ℕ, ◌+◌, ◌-◌, ◌*◌, ◌^◌, ◌≤◌, ◌<◌}
use mathlib.Core.Path.{◌≡◌, refl, sym, ap, subst, ◌∙◌}
use mathlib.Core.Option.{Option, none, some}
use mathlib.Core.List.{List, [], ◌∷◌, ◌++◌, append_assoc, append-nil}
use native.Mathlib.Omega.{arith}
use lib.ListN.{length, get_or, take, drop, set, replicate, length-append, length-replicate, length-drop, length-set, replicate-append-replicate}
use lib.Seq.{length-take-le}
use Rattle.octets.specs.Bytes.{le, num, part, splice, flat}
use Rattle.octets.proofs.Laws.{length_le, le_zero, splice_at, splice_next, number_over}
use Rattle.octets.proofs.Sections.{splice_whole}
use Rattle.octets.proofs.Codecs.{long_all, flat_append}
use Rattle.rules.specs.State.{Note}
use Rattle.rules.specs.Early.{heard_note, keep_note}
use Rattle.rules.specs.Image.{note_length, zero_bytes, point_bytes, note_bytes, notes_section}
use Rattle.rules.specs.declared.Entry.{Entry}
use Rattle.rules.proofs.Tests.{all_at}
use Rattle.rules.proofs.Tables.{PointFits, point, NoteFits, note, points_zeros, point_long}
use Rattle.rules.proofs.Choice.{all_append, all_take, all_drop}
use Rattle.notes.specs.Notes.{sized, notes_at, no_note, note_in, unheard_note, row, NotesHold}
use Rattle.notes.proofs.Rows.{all_set, all_replicate, row_write, row_remove}
use Rattle.notes.proofs.Notes.{hold, decoded, and_then}
use Rattle.notes.proofs.Row.{row_within, kept_found, kept_new, heard_last}

-- ---- free places

zeros_both : (m n k : ℕ) → k ≡ m + n → zero_bytes k ≡ zero_bytes m ++ zero_bytes n
zeros_both m n k e = ap zero_bytes e ∙ sym (replicate-append-replicate {A = ℕ} m n 0)

-- of one free place more
free_more : (s m k : ℕ) → k ≡ m + 1 → zero_bytes (note_length s * k) ≡ zero_bytes (note_length s) ++ zero_bytes (note_length s * m)
free_more s m k e = zeros_both (note_length s) (note_length s * m) (note_length s * k) (ap (λ (z : ℕ). note_length s * z) e ∙ omega arith)

-- ---- one note

-- a timestamp written into a note's bytes
heard_bytes : (s : ℕ) (x : Note) (j t : ℕ) (r : List ℕ) → NoteFits s x → j < s → splice (note_bytes x ++ r) (6 + 9 * j) (point_bytes (some t)) ≡ note_bytes (heard_note x j t) ++ r
unfolding note_bytes
heard_bytes s x j t r f l =
    let p : List ℕ = le 4 x.request ++ le 2 x.coordinator in
    let ts : List (Option ℕ) = x.stamps in
    let z : List ℕ = point_bytes (some t) in
    let lp : length p ≡ 6 = simp (length-append, length_le) in
    let m : j < length ts = omega (arith, f.places) in
    let zl : length (point_bytes (get_or ts j none)) ≡ 9 = point_long (get_or ts j none) in
    let yl : length z ≡ 9 = point_long (some t) in
    let w : (q : List ℕ) → splice (point_bytes (get_or ts j none) ++ q) 0 z ≡ z ++ q = λ q. splice_at [] (point_bytes (get_or ts j none)) q z 0 refl (zl ∙ sym yl) in
    let e : 6 + 9 * j ≡ length p + 9 * j + 0 = omega arith in
    let g : (us : List (Option ℕ)) → (le 4 x.request ++ (le 2 x.coordinator ++ flat point_bytes us)) ++ r ≡ p ++ (flat point_bytes us ++ r) = λ us. simp append_assoc in
    ap (λ (b : List ℕ). splice b (6 + 9 * j) z) (g ts) ∙ row_write point p ts none r j f.each m (6 + 9 * j) 0 z (some t) e w ∙ sym (g (set ts j (some t)))

heard_fits : (s : ℕ) (x : Note) (j t : ℕ) → NoteFits s x → t < 256 ^ 8 → NoteFits s (heard_note x j t)
heard_fits s x j t f l =
    record {
      request = f.request;
      coordinator = f.coordinator;
      places = length-set x.stamps j (some t) ∙ f.places;
      each = all_set PointFits x.stamps j (some t) f.each l;
    }

unheard_fits : (s request coordinator : ℕ) → request < 256 ^ 4 → coordinator < 256 ^ 2 → NoteFits s (unheard_note s request coordinator)
unheard_fits s request coordinator r k =
    record { request = r; coordinator = k; places = length-replicate {A = Option ℕ} s none; each = all_replicate PointFits s none tt }

-- ---- the notes

pub clear_law : (c s at : ℕ) (t t1 : List ℕ) → length t ≡ 4 + note_length s * c → at ≡ 4 + note_length s * c → t1 ≡ splice t 0 (replicate at 0) → t1 ≡ notes_section (sized c s) []
unfolding notes_section flat
clear_law c s at t t1 l e q =
    let z : c - 0 ≡ c = omega arith in
    q ∙ splice_whole t (zero_bytes at) (length-replicate {A = ℕ} at 0 ∙ e ∙ sym l)
    ∙ sym (rw (z, le_zero 4) (sym (zeros_both 4 (note_length s * c) at e)))

module _ (c s : ℕ) (xs : List Note) (t : List ℕ) (h : NotesHold c s xs t) where
  -- a timestamp is written into note i
  pub hear_law : (i j v at : ℕ) (t1 : List ℕ) → v < 256 ^ 8 → i < length xs → j < s → at ≡ 4 + note_length s * i + 6 + 9 * j → t1 ≡ splice t at (point_bytes (some v)) → NotesHold c s (set xs i (heard_note (note_in xs i) j v)) t1
  unfolding notes_section
  hear_law i j v at t1 fv hi hj e q =
      let x : Note = note_in xs i in
      let y : Note = heard_note x j v in
      let fx : NoteFits s x = all_at (NoteFits s) no_note xs h.fit i hi in
      let Z : List ℕ = zero_bytes (note_length s * (c - length xs)) in
      let a : at ≡ length (le 4 (length xs)) + note_length s * i + (6 + 9 * j) = omega (arith, length_le 4 (length xs)) in
      let w : splice (le 4 (length xs) ++ (flat note_bytes xs ++ Z)) at (point_bytes (some v)) ≡ le 4 (length xs) ++ (flat note_bytes (set xs i y) ++ Z)
      = row_write (note s) (le 4 (length xs)) xs no_note Z i h.fit hi at (6 + 9 * j) (point_bytes (some v)) y a (λ r. heard_bytes s x j v r fx hj) in
      let m : length (set xs i y) ≡ length xs = length-set xs i y in
      hold c s (set xs i y) t1
      (q ∙ ap (λ (b : List ℕ). splice b at (point_bytes (some v))) h.bytes ∙ w ∙ sym (rw m))
      (omega (arith, h.room))
      h.small
      h.groups
      (all_set (NoteFits s) xs i y h.fit (heard_fits s x j v fx fv))

  -- a note with no timestamp after the last
  pub append_law : (request coordinator n at : ℕ) (t1 t2 t3 : List ℕ) → request < 256 ^ 4 → coordinator < 256 ^ 2 → length xs < c → n ≡ num t 0 4 → at ≡ 4 + note_length s * n → at + 6 ≤ length t
      → t1 ≡ splice t at (le 4 request) → t2 ≡ splice t1 (at + 4) (le 2 coordinator) → t3 ≡ splice t2 0 (le 4 (n + 1)) → NotesHold c s (xs ++ (unheard_note s request coordinator ∷ [])) t3
  unfolding notes_section note_bytes flat
  append_law request coordinator n at t1 t2 t3 fr fk hc hn e inside q1 q2 q3 =
      let u : Note = unheard_note s request coordinator in
      let k : n ≡ length xs = hn ∙ h.count in
      let w : List ℕ = le 4 request ++ le 2 coordinator in
      let U : List ℕ = flat point_bytes (replicate s none) in
      let P : List ℕ = le 4 n ++ flat note_bytes xs in
      let Z : List ℕ = zero_bytes (note_length s * (c - (n + 1))) in
      let z : zero_bytes (note_length s * (c - n)) ≡ zero_bytes 6 ++ (U ++ Z)
      = free_more s (c - (n + 1)) (c - n) (omega arith)
      ∙ ap (λ (r : List ℕ). r ++ Z) (zeros_both 6 (9 * s) (note_length s) refl ∙ ap (λ (r : List ℕ). zero_bytes 6 ++ r) (sym (points_zeros s)))
      ∙ append_assoc (zero_bytes 6) U Z in
      let hl : t ≡ P ++ (zero_bytes 6 ++ (U ++ Z)) = h.bytes ∙ rw (← k, z) (simp append_assoc) in
      let lP : length P ≡ at = length-append (le 4 n) (flat note_bytes xs) ∙ omega (arith, length_le 4 n, long_all (note s) xs h.fit ∙ ap (λ (m : ℕ). note_length s * m) (sym k)) in
      let lw : length (zero_bytes 6) ≡ length w = sym (length-append (le 4 request) (le 2 coordinator) ∙ omega (arith, length_le 4 request, length_le 2 coordinator)) in
      let w2 : t2 ≡ splice t at w = splice_next t at 4 (le 4 request) (le 2 coordinator) t1 t2 (omega arith) (length_le 4 request) q1 q2 in
      let l2 : t2 ≡ le 4 n ++ (flat note_bytes xs ++ (w ++ (U ++ Z)))
      = w2 ∙ ap (λ (r : List ℕ). splice r at w) hl ∙ splice_at P (zero_bytes 6) (U ++ Z) w at lP lw ∙ append_assoc (le 4 n) (flat note_bytes xs) (w ++ (U ++ Z)) in
      let m : length (xs ++ (u ∷ [])) ≡ n + 1 = length-append xs (u ∷ []) ∙ omega arith in
      let g : flat note_bytes xs ++ (w ++ (U ++ Z)) ≡ flat note_bytes (xs ++ (u ∷ [])) ++ Z
      = sym (ap (λ (r : List ℕ). r ++ Z) (flat_append note_bytes xs (u ∷ [])) ∙ simp (append_assoc, append-nil)) in
      hold c s (xs ++ (u ∷ [])) t3
      (q3 ∙ ap (λ (r : List ℕ). splice r 0 (le 4 (n + 1))) l2 ∙ number_over 4 n (n + 1) _ ∙ ap (λ (r : List ℕ). le 4 (n + 1) ++ r) g ∙ sym (rw m))
      (omega arith)
      h.small
      h.groups
      (all_append (NoteFits s) xs (u ∷ []) h.fit (unheard_fits s request coordinator fr fk, tt))

  -- note i is taken out
  pub remove_law : (i n at next end : ℕ) (t1 t2 : List ℕ) → i < length xs → n ≡ num t 0 4 → at ≡ 4 + note_length s * i → next ≡ 4 + note_length s * (i + 1) → end ≡ 4 + note_length s * n
      → t1 ≡ splice t at (part t (at + (next - at)) (end - next) ++ replicate (next - at) 0) → t2 ≡ splice t1 0 (le 4 (n - 1)) → NotesHold c s (take i xs ++ drop (i + 1) xs) t2
  unfolding notes_section
  remove_law i n at next end t1 t2 hi hn ea en ee q1 q2 =
      let ys : List Note = take i xs ++ drop (i + 1) xs in
      let k : n ≡ length xs = hn ∙ h.count in
      let Z : List ℕ = zero_bytes (note_length s * (c - n)) in
      let l : List ℕ = le 4 n ++ (flat note_bytes xs ++ Z) in
      let hl : t ≡ l = h.bytes ∙ rw (← k) in
      let w : next - at ≡ note_length s = omega arith in
      let b : n ≡ i + 1 + (length xs - (i + 1)) = omega arith in
      let m : end - next ≡ note_length s * (length xs - (i + 1)) = omega (arith, ap (λ (z : ℕ). note_length s * z) b) in
      let a : at ≡ length (le 4 n) + note_length s * i = omega (arith, length_le 4 n) in
      let l1 : t1 ≡ le 4 n ++ (flat note_bytes ys ++ (zero_bytes (note_length s) ++ Z))
      = q1
      ∙ ap (λ (j : ℕ). splice t at (part t (at + j) (end - next) ++ replicate j 0)) w
      ∙ ap (λ (r : List ℕ). splice r at (part r (at + note_length s) (end - next) ++ replicate (note_length s) 0)) hl
      ∙ row_remove (note s) (le 4 n) xs no_note Z i h.fit hi at (end - next) a m in
      let r : length ys ≡ n - 1 = length-append (take i xs) (drop (i + 1) xs) ∙ omega (arith, length-take-le i xs (omega arith), length-drop (i + 1) xs) in
      let z : zero_bytes (note_length s * (c - (n - 1))) ≡ zero_bytes (note_length s) ++ Z = free_more s (c - n) (c - (n - 1)) (omega (arith, h.room)) in
      hold c s ys t2
      (q2 ∙ ap (λ (v : List ℕ). splice v 0 (le 4 (n - 1))) l1 ∙ number_over 4 n (n - 1) _ ∙ rw (r, z))
      (omega (arith, h.room))
      h.small
      h.groups
      (all_append (NoteFits s) (take i xs) (drop (i + 1) xs) (all_take (NoteFits s) i xs h.fit) (all_drop (NoteFits s) (i + 1) xs h.fit))

-- ---- a timestamp is kept

module _ (c s : ℕ) (e : Entry) (j v : ℕ) (xs : List Note) (i : ℕ) (q : i ≡ row e.request e.coordinator xs) where
  pub keep_found : (u : List ℕ) → i < length xs → NotesHold c s (set xs i (heard_note (note_in xs i) j v)) u → NotesHold c s (keep_note (sized c s) e j v xs) u
  keep_found u l k =
      let m : row e.request e.coordinator xs < length xs = omega arith in
      let z : set xs i (heard_note (note_in xs i) j v) ≡ keep_note (sized c s) e j v xs
      = ap (λ (n : ℕ). set xs n (heard_note (note_in xs n) j v)) q ∙ sym (kept_found e (sized c s) j v xs m) in
      subst (λ (ys : List Note). NotesHold c s ys u) z k

  module _ (t : List ℕ) (l : length xs ≤ i) (h : NotesHold c s (xs ++ (unheard_note s e.request e.coordinator ∷ [])) t) where
    at_end : i ≡ length xs
    at_end = omega (arith, row_within e.request e.coordinator xs)

    -- the new note is one of those that are read then
    pub new_within : i < length (notes_at c s t)
    new_within = rw (decoded c s _ t h) (rw (length-append xs (unheard_note s e.request e.coordinator ∷ [])) (omega (arith, at_end)))

    pub keep_new : (u : List ℕ) → NotesHold c s (set (notes_at c s t) i (heard_note (note_in (notes_at c s t) i) j v)) u → NotesHold c s (keep_note (sized c s) e j v xs) u
    keep_new u k =
        let m : length xs ≤ row e.request e.coordinator xs = omega arith in
        let z = heard_last c s e j v i xs at_end ∙ sym (kept_new e (sized c s) j v xs m) in
        subst (λ (ys : List Note). NotesHold c s ys u) z (and_then c s _ t h (λ ys. set ys i (heard_note (note_in ys i) j v)) u k)
