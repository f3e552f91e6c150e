-- Each kind of place in the state's bytes: its length, and what decides whether it has its form. Assumes nothing.
use Prim.Native.Nat.{ℕ, ◌+◌, ◌≤◌, min}
use mathlib.Core.Path.{◌≡◌, refl, sym, ap, ◌∙◌}
use mathlib.Core.Bool.{Bool, true}
use mathlib.Core.List.{List, ◌++◌}
use native.Mathlib.Omega.{arith}
use native.Mathlib.Nat.{add_assoc}
use lib.ListN.{length, take, drop, length-append}
use Rattle.octets.specs.Bytes.{le, part, num}
use Rattle.octets.proofs.Laws.{Bytes, length_le, le_num}
use Rattle.octets.proofs.Codecs.{length_items, row_long}
use Rattle.rules.specs.Choice.{same}
use Rattle.rules.specs.Read.{entry_at}
use Rattle.rules.specs.State.{Vote}
use Rattle.rules.specs.Image.{table_length, note_length, vote_length, reply_length, point_bytes, table_bytes, note_bytes, vote_bytes, reply_bytes, point_at, table_at, note_at, vote_at, reply_at}
use Rattle.rules.specs.declared.Entry.{Entry}
use Rattle.rules.proofs.Tests.{same_self}
use Rattle.rules.proofs.Tables.{table_long}
use Rattle.places.proofs.Fields.{table_in}
use Rattle.form.proofs.Same.{number_first, Flagged, flag_long}

-- the form in which a part is lent
pub part_lent : (b : List ℕ) (a m n : ℕ) → m ≡ n → take m (drop a b) ≡ part b a n
unfolding part
part_lent b a m n e = rw e

-- ---- a point

pub point_place : Flagged ℕ 9 8 point_bytes point_at (le 8) (λ b a. num b (a + 1) 8)
unfolding point_bytes point_at
point_place = record { wide = refl; unset = refl; is = λ x. refl; read = λ b a. refl; long = λ b a. length_le 8 (num b (a + 1) 8) }

-- what stands behind its flag is a number
pub point_body : (b : List ℕ) (a : ℕ) → Bytes b → a + 9 ≤ length b → true ≡ same (le 8 (num b (a + 1) 8)) (part b (a + 1) 8)
point_body b a bs l = sym (ap (same (le 8 (num b (a + 1) 8))) (sym (le_num b (a + 1) 8 bs (omega arith))) ∙ same_self (le 8 (num b (a + 1) 8)))

-- ---- a table

module _ (c : ℕ) (b : List ℕ) (a : ℕ) where
  table_within : length (table_at c b a) ≤ c
  unfolding table_at
  table_within = omega (arith, length_items (entry_at b) 24 (a + 4) (min (num b a 4) c))

  pub table_at_long : length (table_bytes c (table_at c b a)) ≡ table_length c
  table_at_long = table_long c (table_at c b a) table_within

  module _ (l : a + table_length c ≤ length b) where
    pub table_part : table_at c (part b a (table_length c)) 0 ≡ table_at c b a
    table_part = table_in b a (table_length c) l c 0 a (omega arith) (omega arith)

    -- lent as a slice of m bytes
    pub table_lent : (m : ℕ) (r : Bool) → m ≡ table_length c → r ≡ same (table_bytes c (table_at c (take m (drop a b)) 0)) (take m (drop a b)) → r ≡ same (table_bytes c (table_at c b a)) (part b a (table_length c))
    table_lent m r e h =
        h
        ∙ ap (λ (x : List ℕ). same (table_bytes c (table_at c x 0)) x) (part_lent b a m (table_length c) e)
        ∙ ap (λ (es : List Entry). same (table_bytes c es) (part b a (table_length c))) table_part

-- ---- a vote

module _ (c : ℕ) where
  abbrev vote_body : Vote → List ℕ
  vote_body v = le 4 v.normal ++ (le 8 v.sync ++ table_bytes c v.log)

  abbrev vote_in : List ℕ → ℕ → Vote
  vote_in b a = record { normal = num b (a + 1) 4; sync = num b (a + 5) 8; log = table_at c b (a + 13) }

  vote_long : (b : List ℕ) (a : ℕ) → length (vote_body (vote_in b a)) ≡ 4 + (8 + table_length c)
  vote_long b a = simp (length-append, length_le) (omega (arith, table_at_long c b (a + 13)))

  pub vote_place : Flagged Vote (vote_length c) (4 + (8 + table_length c)) (vote_bytes c) (vote_at c) vote_body vote_in
  unfolding vote_bytes vote_at
  vote_place = record { wide = omega arith; unset = refl; is = λ v. refl; read = λ b a. refl; long = vote_long }

  -- what stands behind its flag is right where its table is
  pub vote_body_lem : (b : List ℕ) (a : ℕ) → Bytes b → a + vote_length c ≤ length b → same (table_bytes c (table_at c b (a + 13))) (part b (a + 13) (table_length c)) ≡ same (vote_body (vote_in b a)) (part b (a + 1) (4 + (8 + table_length c)))
  vote_body_lem b a bs l =
      let t : List ℕ = table_bytes c (table_at c b (a + 13)) in
      let y : List ℕ = le 8 (num b (a + 5) 8) ++ t in
      sym (number_first b (a + 1) 4 (8 + table_length c) (omega arith) y bs
      ∙ ap (λ (j : ℕ). same y (part b j (8 + table_length c))) (add_assoc a 1 4)
      ∙ number_first b (a + 5) 8 (table_length c) (omega arith) t bs
      ∙ ap (λ (j : ℕ). same t (part b j (table_length c))) (add_assoc a 5 8))

  -- ---- a reply
  pub reply_place : Flagged (List Entry) (reply_length c) (table_length c) (reply_bytes c) (reply_at c) (table_bytes c) (λ b a. table_at c b (a + 1))
  unfolding reply_bytes reply_at
  reply_place = record { wide = refl; unset = refl; is = λ x. refl; read = λ b a. refl; long = λ b a. table_at_long c b (a + 1) }

-- ---- a note

module _ (s : ℕ) (b : List ℕ) (a : ℕ) where
  pub note_long : length (note_bytes (note_at s b a)) ≡ note_length s
  unfolding note_bytes note_at
  note_long = simp (length-append, length_le) (omega (arith, row_long point_bytes point_at 9 (flag_long point_place) b (a + 6) s))
