-- The state that is read from bytes of the right length: each of its fields by its place in those bytes. Assumes nothing.
use Prim.Native.Nat.{ℕ, ◌+◌, ◌*◌, ◌≤◌, ◌<◌, min}
use mathlib.Core.Path.{◌≡◌, ap, ◌∙◌}
use mathlib.Core.List.{List}
use native.Mathlib.Omega.{arith}
use lib.ListN.{length, get_or}
use Rattle.octets.specs.Bytes.{num, part, items}
use Rattle.octets.proofs.Laws.{num_part}
use Rattle.octets.proofs.Codecs.{get_or_items, items_shift}
use Rattle.rules.specs.Read.{entry_at}
use Rattle.rules.specs.State.{State}
use Rattle.rules.specs.Image.{table_length, note_length, vote_length, reply_length, state_length, point_at, table_at, vote_at, reply_at, state_in, state_of, at_draft, at_early, at_gvec, at_heard, at_late, at_log, at_notes, at_replies, at_votes}
use Rattle.rules.specs.declared.Shape.{Shape}
use Rattle.rules.proofs.Entries.{entry_part}
use Rattle.notes.specs.Notes.{notes_at}
use Rattle.places.specs.Layout.{start_of}
use Rattle.places.proofs.Rows.{within}

-- ---- what is read from a part of bytes is read from the bytes

module _ (b : List ℕ) (a m : ℕ) (l : a + m ≤ length b) where
  pub point_in : (i j : ℕ) → i + 9 ≤ m → j ≡ a + i → point_at (part b a m) i ≡ point_at b j
  unfolding point_at
  point_in i j h e = simp (num_part b a m i j 1 l (omega arith) e, num_part b a m (i + 1) (j + 1) 8 l (omega arith) (omega arith))

module _ (b : List ℕ) (a m : ℕ) (l : a + m ≤ length b) (c : ℕ) where
  pub table_in : (i j : ℕ) → i + table_length c ≤ m → j ≡ a + i → table_at c (part b a m) i ≡ table_at c b j
  unfolding table_at
  table_in i j h e =
      let q : num (part b a m) i 4 ≡ num b j 4 = num_part b a m i j 4 l (omega arith) e in
      rw q (items_shift (entry_at (part b a m)) (entry_at b) 24 (i + 4) (j + 4) (min (num b j 4) c) (λ x r. entry_part b a m (i + 4 + 24 * x) (j + 4 + 24 * x) l (omega arith) (omega arith)))

  pub vote_in : (i j : ℕ) → i + vote_length c ≤ m → j ≡ a + i → vote_at c (part b a m) i ≡ vote_at c b j
  unfolding vote_at
  vote_in i j h e =
      simp (
        num_part b a m i j 1 l (omega arith) e,
        num_part b a m (i + 1) (j + 1) 4 l (omega arith) (omega arith),
        num_part b a m (i + 5) (j + 5) 8 l (omega arith) (omega arith),
        table_in (i + 13) (j + 13) (omega arith) (omega arith),
      )

  pub reply_in : (i j : ℕ) → i + reply_length c ≤ m → j ≡ a + i → reply_at c (part b a m) i ≡ reply_at c b j
  unfolding reply_at
  reply_in i j h e = simp (num_part b a m i j 1 l (omega arith) e, table_in (i + 1) (j + 1) (omega arith) (omega arith))

-- a section that is a row of n things, each of k bytes
row_in_lem : {A : Type 0} (get : List ℕ → ℕ → A) (b : List ℕ) (a k n o : ℕ) → o ≡ a → ((i j : ℕ) → i + k ≤ k * n → j ≡ a + i → get (part b a (k * n)) i ≡ get b j) → items (get (part b a (k * n))) k 0 n ≡ items (get b) k o n
row_in_lem get b a k n o e h =
    items_shift (get (part b a (k * n))) (get b) k 0 o n
    (λ i l. let w : k * i + k ≤ k * n = within k i n l in h (0 + k * i) (o + k * i) (omega arith) (omega arith))

-- ---- the fields

pub record Fields (sh : Shape) (b : List ℕ) (st : State) : Type 0 where
  pub group : st.site.group ≡ num b 0 1
  pub replica : st.site.replica ≡ num b 1 1
  pub status : st.view.status ≡ num b 2 1
  pub view : st.view.g_view ≡ num b 8 4
  pub normal : st.view.normal ≡ num b 12 4
  pub clock : st.clock ≡ num b 16 8
  pub sync : st.logged.sync ≡ num b 24 8
  pub commit : st.logged.commit ≡ num b 32 8
  pub boundary : st.change.boundary ≡ num b 40 8
  pub g_vec : st.view.g_vec ≡ items (λ a. num b a 4) 4 (start_of sh at_gvec) sh.s
  pub heard : st.heard ≡ items (point_at b) 9 (start_of sh at_heard) sh.n
  pub log : st.logged.log ≡ table_at sh.c b (start_of sh at_log)
  pub early : st.waiting.early ≡ table_at sh.c b (start_of sh at_early)
  pub late : st.waiting.late ≡ table_at sh.c b (start_of sh at_late)
  pub notes : st.waiting.notes ≡ notes_at sh.c sh.s (part b (start_of sh at_notes) (4 + note_length sh.s * sh.c))
  pub votes : st.change.votes ≡ items (vote_at sh.c b) (vote_length sh.c) (start_of sh at_votes) sh.n
  pub draft : st.change.draft ≡ table_at sh.c b (start_of sh at_draft)
  pub replies : st.change.replies ≡ items (reply_at sh.c b) (reply_length sh.c) (start_of sh at_replies) sh.s

module _ (sh : Shape) (b : List ℕ) (size : length b ≡ state_length sh) where
  pub fields : Fields sh b (state_of sh b)
  unfolding state_of state_in notes_at
  fields =
      let t : ℕ = table_length sh.c in
      let a1 : ℕ = 0 + 48 in
      let a2 : ℕ = a1 + 4 * sh.s in
      let a3 : ℕ = a2 + 9 * sh.n in
      let a4 : ℕ = a3 + t in
      let a5 : ℕ = a4 + t in
      let a6 : ℕ = a5 + t in
      let a7 : ℕ = a6 + (4 + note_length sh.s * sh.c) in
      let a8 : ℕ = a7 + vote_length sh.c * sh.n in
      let a9 : ℕ = a8 + t in
      let h : 0 + 48 ≤ length b = omega arith in
      record {
        group = num_part b 0 48 0 0 1 h (omega arith) (omega arith);
        replica = num_part b 0 48 1 1 1 h (omega arith) (omega arith);
        status = num_part b 0 48 2 2 1 h (omega arith) (omega arith);
        view = num_part b 0 48 8 8 4 h (omega arith) (omega arith);
        normal = num_part b 0 48 12 12 4 h (omega arith) (omega arith);
        clock = num_part b 0 48 16 16 8 h (omega arith) (omega arith);
        sync = num_part b 0 48 24 24 8 h (omega arith) (omega arith);
        commit = num_part b 0 48 32 32 8 h (omega arith) (omega arith);
        boundary = num_part b 0 48 40 40 8 h (omega arith) (omega arith);
        g_vec = row_in_lem (λ x a. num x a 4) b a1 4 sh.s (start_of sh at_gvec) (omega arith) (λ i j l e. num_part b a1 (4 * sh.s) i j 4 (omega arith) l e);
        heard = row_in_lem point_at b a2 9 sh.n (start_of sh at_heard) (omega arith) (point_in b a2 (9 * sh.n) (omega arith));
        log = table_in b a3 t (omega arith) sh.c 0 (start_of sh at_log) (omega arith) (omega arith);
        early = table_in b a4 t (omega arith) sh.c 0 (start_of sh at_early) (omega arith) (omega arith);
        late = table_in b a5 t (omega arith) sh.c 0 (start_of sh at_late) (omega arith) (omega arith);
        notes =
            let e : a6 ≡ start_of sh at_notes = omega arith in
            ap (λ (x : ℕ). notes_at sh.c sh.s (part b x (4 + note_length sh.s * sh.c))) e;
        votes = row_in_lem (vote_at sh.c) b a7 (vote_length sh.c) sh.n (start_of sh at_votes) (omega arith) (vote_in b a7 (vote_length sh.c * sh.n) (omega arith) sh.c);
        draft = table_in b a8 t (omega arith) sh.c 0 (start_of sh at_draft) (omega arith) (omega arith);
        replies = row_in_lem (reply_at sh.c) b a9 (reply_length sh.c) sh.s (start_of sh at_replies) (omega arith) (reply_in b a9 (reply_length sh.c * sh.s) (omega arith) sh.c);
      }

  -- the own group's view
  pub view_of : (j : ℕ) → j < sh.s → get_or (state_of sh b).view.g_vec j 0 ≡ num b (start_of sh at_gvec + 4 * j) 4
  view_of j l = ap (λ (xs : List ℕ). get_or xs j 0) fields.g_vec ∙ get_or_items (λ a. num b a 4) 4 (start_of sh at_gvec) sh.s j 0 l
