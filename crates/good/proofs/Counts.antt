-- What holds of any state that stands in bytes: counts within the room, places, and widths. Assumes nothing.
use Prim.Native.Nat.{ℕ, ◌+◌, ◌*◌, ◌^◌, ◌≤◌, ◌<◌, min}
use mathlib.Core.Path.{◌≡◌, refl, ap, ◌∙◌}
use mathlib.Core.Bool.{Bool, true, false, ◌&&◌}
use mathlib.Core.Option.{none, some}
use mathlib.Core.List.{List, ◌++◌}
use native.Mathlib.Omega.{arith}
use lib.ListN.{length}
use lib.Dec.{eqb, ltb, leb}
use borrow.Author.Tests.{eq-eqb, lt-ltb, le-leb}
use Rattle.octets.specs.Bytes.{num, items, part}
use Rattle.octets.proofs.Laws.{Bytes, bytes_part, length_part, num_lt}
use Rattle.octets.proofs.Codecs.{All, length_items}
use Rattle.rules.specs.Choice.{pick, every, passes}
use Rattle.rules.specs.Read.{entry_at, entry_wide}
use Rattle.rules.specs.State.{Note, Vote, counts_good, places_good}
use Rattle.rules.specs.Image.{table_length, note_length, vote_length, reply_length, state_length, point_at, table_at, note_at, vote_at, reply_at, state_of, at_draft, at_early, at_gvec, at_heard, at_late, at_log, at_notes, at_replies, at_votes}
use Rattle.rules.specs.declared.Entry.{Entry}
use Rattle.rules.specs.declared.Shape.{Shape}
use Rattle.rules.proofs.Tests.{and_both, join, ◌also◌, each_of, each_append, all_items, all-1}
use Rattle.rules.proofs.Tables.{PointFits, NoteFits}
use Rattle.notes.specs.Notes.{notes_at}
use Rattle.places.specs.Layout.{start_of}
use Rattle.places.proofs.Rows.{within}
use Rattle.places.proofs.Fields.{fields}

-- what is unset passes
passes_any : {A : Type 0} (q : A → Bool) (t : Bool) (x : A) → q x ≡ true → passes q (pick t none (some x)) ≡ true
unfolding pick
passes_any q true x e = refl
passes_any q false x e = e

-- every one of a row passes
every_row : {A : Type 0} (p : A → Bool) (f : ℕ → A) (k o n : ℕ) (xs : List A) → xs ≡ items f k o n → ((i : ℕ) → i < n → p (f (o + k * i)) ≡ true) → every p xs ≡ true
every_row p f k o n xs e h = ap (every p) e ∙ each_of p (items f k o n) (all_items (λ x. p x ≡ true) f k o n h)

-- ---- counts

pub table_within : (c : ℕ) (b : List ℕ) (a : ℕ) → length (table_at c b a) ≤ c
unfolding table_at
table_within c b a = omega (arith, length_items (entry_at b) 24 (a + 4) (min (num b a 4) c))

pub notes_within : (c s : ℕ) (t : List ℕ) → length (notes_at c s t) ≤ c
unfolding notes_at
notes_within c s t = omega (arith, length_items (note_at s t) (note_length s) 4 (min (num t 0 4) c))

table_room : (c : ℕ) (b : List ℕ) (a : ℕ) (es : List Entry) → es ≡ table_at c b a → leb (length es) c ≡ true
table_room c b a es e = le-leb (length es) c (rw e (table_within c b a))

module _ (sh : Shape) (b : List ℕ) (z : length b ≡ state_length sh) where
  pub counts_good_lem : counts_good sh (state_of sh b) ≡ true
  unfolding counts_good vote_at reply_at
  counts_good_lem =
      let f = fields sh b z in
      let c : ℕ = sh.c in
      join _
      (table_room c b (start_of sh at_log) (state_of sh b).logged.log f.log
      also table_room c b (start_of sh at_early) (state_of sh b).waiting.early f.early
      also table_room c b (start_of sh at_late) (state_of sh b).waiting.late f.late
      also le-leb (length (state_of sh b).waiting.notes) c (rw f.notes (notes_within c sh.s _))
      also table_room c b (start_of sh at_draft) (state_of sh b).change.draft f.draft
      also every_row (passes (λ (v : Vote). leb (length v.log) c)) (vote_at c b) (vote_length c) (start_of sh at_votes) sh.n (state_of sh b).change.votes f.votes (λ i l. passes_any (λ (v : Vote). leb (length v.log) c) _ _ (table_room c b _ _ refl))
      also every_row (passes (λ (es : List Entry). leb (length es) c)) (reply_at c b) (reply_length c) (start_of sh at_replies) sh.s (state_of sh b).change.replies f.replies (λ i l. passes_any (λ (es : List Entry). leb (length es) c) _ _ (table_room c b _ _ refl))
      also tt)

-- ---- widths

module _ (b : List ℕ) (bs : Bytes b) where
  num_fits : (a k : ℕ) → a + k ≤ length b → ltb (num b a k) (256 ^ k) ≡ true
  num_fits a k l = lt-ltb (num b a k) (256 ^ k) (num_lt b a k bs l)

  table_wide : (c a : ℕ) → a + table_length c ≤ length b → every entry_wide (table_at c b a) ≡ true
  unfolding table_at entry_at
  table_wide c a l =
      every_row entry_wide (entry_at b) 24 (a + 4) (min (num b a 4) c) _ refl
      (λ i h. and_both _ _ (num_fits (a + 4 + 24 * i + 8) 8 (omega arith)) (num_fits (a + 4 + 24 * i + 16) 4 (omega arith)))

  point_fits : (a : ℕ) → a + 9 ≤ length b → PointFits (point_at b a)
  unfolding point_at pick
  point_fits a l = go (eqb (num b a 1) 0)
    where
      go : (t : Bool) → PointFits (pick t none (some (num b (a + 1) 8)))
      go true = tt
      go false = num_lt b (a + 1) 8 bs (omega arith)

  note_fits_lem : (s a : ℕ) → a + note_length s ≤ length b → NoteFits s (note_at s b a)
  unfolding note_at
  note_fits_lem s a l =
      record {
        request = num_lt b a 4 bs (omega arith);
        coordinator = num_lt b (a + 4) 2 bs (omega arith);
        places = length_items (point_at b) 9 (a + 6) s;
        each = all_items PointFits (point_at b) 9 (a + 6) s (λ j h. point_fits (a + 6 + 9 * j) (omega arith));
      }

  pub notes_fit : (c s : ℕ) → length b ≡ 4 + note_length s * c → All (NoteFits s) (notes_at c s b)
  unfolding notes_at
  notes_fit c s z =
      all_items (NoteFits s) (note_at s b) (note_length s) 4 (min (num b 0 4) c)
      (λ i h. let w : note_length s * i + note_length s ≤ note_length s * c = within (note_length s) i c (omega arith) in note_fits_lem s (4 + note_length s * i) (omega arith))

-- what fits is as wide as the rules want
note_wide : (s : ℕ) (x : Note) → NoteFits s x → (ltb x.request (2 ^ 32) && eqb (length x.stamps) s) ≡ true
note_wide s x f = and_both _ _ (lt-ltb x.request (2 ^ 32) f.request) (eq-eqb (length x.stamps) s f.places)

module _ (sh : Shape) (b : List ℕ) (z : length b ≡ state_length sh) (bs : Bytes b) where
  wide_at : (i : ℕ) (es : List Entry) → es ≡ table_at sh.c b i → i + table_length sh.c ≤ length b → every entry_wide es ≡ true
  wide_at i es e l = ap (every entry_wide) e ∙ table_wide b bs sh.c i l

  pub places_good_lem : places_good sh (state_of sh b) ≡ true
  unfolding places_good vote_at reply_at point_at
  places_good_lem =
      let f = fields sh b z in
      let st = state_of sh b in
      let c : ℕ = sh.c in
      let m : ℕ = 4 + note_length sh.s * c in
      let t : List ℕ = part b (start_of sh at_notes) m in
      let ws : every entry_wide (st.logged.log ++ (st.waiting.early ++ (st.waiting.late ++ st.change.draft))) ≡ true
      = each_append entry_wide st.logged.log _ (wide_at (start_of sh at_log) st.logged.log f.log (omega arith))
      (each_append entry_wide st.waiting.early _ (wide_at (start_of sh at_early) st.waiting.early f.early (omega arith))
      (each_append entry_wide st.waiting.late _ (wide_at (start_of sh at_late) st.waiting.late f.late (omega arith))
      (wide_at (start_of sh at_draft) st.change.draft f.draft (omega arith)))) in
      join _
      (eq-eqb (length st.view.g_vec) sh.s (ap length f.g_vec ∙ length_items (λ a. num b a 4) 4 (start_of sh at_gvec) sh.s)
      also eq-eqb (length st.change.votes) sh.n (ap length f.votes ∙ length_items (vote_at c b) (vote_length c) (start_of sh at_votes) sh.n)
      also eq-eqb (length st.change.replies) sh.s (ap length f.replies ∙ length_items (reply_at c b) (reply_length c) (start_of sh at_replies) sh.s)
      also eq-eqb (length st.heard) sh.n (ap length f.heard ∙ length_items (point_at b) 9 (start_of sh at_heard) sh.n)
      also (ap (λ (v : ℕ). ltb v (2 ^ 32)) f.view ∙ num_fits b bs 8 4 (omega arith))
      also every_row (λ (v : ℕ). ltb v (2 ^ 32)) (λ a. num b a 4) 4 (start_of sh at_gvec) sh.s st.view.g_vec f.g_vec (λ i l. num_fits b bs (start_of sh at_gvec + 4 * i) 4 (omega arith))
      also every_row (passes (λ (p : ℕ). ltb p (2 ^ 64))) (point_at b) 9 (start_of sh at_heard) sh.n st.heard f.heard (λ i l. passes_any (λ (p : ℕ). ltb p (2 ^ 64)) _ _ (num_fits b bs (start_of sh at_heard + 9 * i + 1) 8 (omega arith)))
      also (ap (every (λ (x : Note). ltb x.request (2 ^ 32) && eqb (length x.stamps) sh.s)) f.notes ∙ each_of (λ (x : Note). ltb x.request (2 ^ 32) && eqb (length x.stamps) sh.s) (notes_at c sh.s t) (all-1 (note_wide sh.s) (notes_at c sh.s t) (notes_fit t (bytes_part b (start_of sh at_notes) m bs) c sh.s (length_part b (start_of sh at_notes) m (omega arith)))))
      also ws
      also every_row (passes (λ (v : Vote). every entry_wide v.log)) (vote_at c b) (vote_length c) (start_of sh at_votes) sh.n st.change.votes f.votes
      (λ i l. let w : vote_length c * i + vote_length c ≤ vote_length c * sh.n = within (vote_length c) i sh.n l in passes_any (λ (v : Vote). every entry_wide v.log) _ _ (table_wide b bs c (start_of sh at_votes + vote_length c * i + 13) (omega arith)))
      also every_row (passes (every entry_wide)) (reply_at c b) (reply_length c) (start_of sh at_replies) sh.s st.change.replies f.replies
      (λ i l. let w : reply_length c * i + reply_length c ≤ reply_length c * sh.s = within (reply_length c) i sh.s l in passes_any (every entry_wide) _ _ (table_wide b bs c (start_of sh at_replies + reply_length c * i + 1) (omega arith)))
      also tt)
