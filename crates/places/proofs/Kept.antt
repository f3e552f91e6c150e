-- gVec, the points heard, the votes and the replies: place r read and written, or all of them written. Assumes nothing.
use Prim.Native.Nat.{ℕ, ◌+◌, ◌*◌, ◌^◌, ◌≤◌, ◌<◌}
use mathlib.Core.Path.{◌≡◌, refl, sym, ap, ◌∙◌}
use mathlib.Core.Bool.{Bool, true, false}
use mathlib.Core.Option.{Option, none, some}
use mathlib.Core.List.{List, [], ◌∷◌, ◌++◌}
use native.Mathlib.Omega.{arith}
use native.Mathlib.Nat.{add_assoc}
use lib.ListN.{length, take, drop, get_or, set, replicate, length-append, length-replicate}
use lib.Seq.{take_at}
use lib.Dec.{eqb, lit<, lit≤}
use Rattle.octets.specs.Bytes.{le, num, part, splice, flat, items}
use Rattle.octets.proofs.Laws.{Bytes, length_le, part_past}
use Rattle.octets.proofs.Sections.{part_whole}
use Rattle.octets.proofs.Codecs.{All, number, length_items, peel_all, exact_number}
use Rattle.rules.specs.Choice.{pick, count, is_some}
use Rattle.rules.specs.State.{Vote, State, held, in_view, with_change, with_heard}
use Rattle.rules.specs.Image.{table_length, vote_length, reply_length, lengths, zero_bytes, head_section, point_bytes, table_bytes, vote_bytes, reply_bytes, sections, point_at, table_at, vote_at, reply_at, at_gvec, at_heard, at_replies, at_votes, at_end}
use Rattle.rules.specs.declared.Entry.{Entry}
use Rattle.rules.specs.declared.Shape.{Shape}
use Rattle.rules.proofs.Tests.{all-1, all_at}
use Rattle.rules.proofs.Tables.{point, TableFits, table_long, VoteIs, VoteFits, vote, ReplyFits, reply, point_long, points_zeros}
use Rattle.places.specs.Layout.{start_of, own_bytes, Midway}
use Rattle.places.proofs.Sections.{Laid, midway_laid, long_at, get_in, drop_all, put_in, put_all}
use Rattle.places.proofs.Rows.{within, Even, long_row, places_row, get_row, set_row, row_at}
use Rattle.places.proofs.Head.{get_head}
use Rattle.places.proofs.Tables.{log_part}
use Rattle.places.proofs.Spots.{count_like}
use Rattle.places.proofs.Zeros.{votes_zeros, replies_zeros}

-- ---- lengths

each : {A : Type 0} (P : A → Type 0) → ((x : A) → P x) → (xs : List A) → All P xs
each P h [] = tt
each P h (x ∷ xs) = (h x, each P h xs)

pub vote_long : (c : ℕ) (v : Vote) → length v.log ≤ c → length (vote_bytes c (some v)) ≡ vote_length c
unfolding vote_bytes
vote_long c v h = simp (length-append, length_le) (omega (arith, table_long c v.log h))

pub reply_long : (c : ℕ) (es : List Entry) → length es ≤ c → length (reply_bytes c (some es)) ≡ reply_length c
unfolding reply_bytes
reply_long c es h = simp (length-append, length_le) (omega (arith, table_long c es h))

pub even_points : (xs : List (Option ℕ)) → Even point_bytes 9 xs
even_points = each (λ p. length (point_bytes p) ≡ 9) point_long

pub even_views : (xs : List ℕ) → Even (le 4) 4 xs
even_views = each (λ v. length (le 4 v) ≡ 4) (length_le 4)

-- ---- written

module _ {sh : Shape} {st : State} {b : List ℕ} (l : Laid sh st b) where
  -- place r of a section that is a row of n things, each of k bytes
  put_place : {A : Type 0} {b' : List ℕ} (put : A → List ℕ) (k n i r : ℕ) (xs : List A) (y : A) (next : State) → i < at_end sh → get_or (sections sh st) i [] ≡ flat put xs → get_or (lengths sh) i 0 ≡ k * n → 0 < k → Even put k xs → length (put y) ≡ k → r < n → set (sections sh st) i (flat put (set xs r y)) ≡ sections sh next → b' ≡ splice b (start_of sh i + k * r) (put y) → Laid sh next b'
  put_place put k n i r xs y next h s z p f e j q w =
      let m : length xs ≡ n = places_row put k xs n p f (ap length (sym s) ∙ long_at l i ∙ z) in
      let u : r < length xs = omega arith in
      let v : k * r + length (put y) ≤ get_or (lengths sh) i 0 = omega (arith, within k r n j) in
      put_in l next i (k * r) (start_of sh i + k * r) (put y) h refl v
      (ap (λ (x : List ℕ). set (sections sh st) i (splice x (k * r) (put y))) s ∙ ap (set (sections sh st) i) (set_row put k xs r y f e u) ∙ q) w

  pub put_views : {b' : List ℕ} (xs : List ℕ) → length xs ≡ sh.s → b' ≡ splice b (start_of sh at_gvec) (flat (le 4) xs) → Laid sh (in_view st.view.g_view xs st.view.normal st.view.status st) b'
  unfolding head_section
  put_views xs e = put_all l (in_view st.view.g_view xs st.view.normal st.view.status st) 1 (start_of sh at_gvec) (flat (le 4) xs) (lit< tt) refl (long_row (le 4) 4 xs (even_views xs) ∙ ap (λ (n : ℕ). 4 * n) e) refl

  pub put_heard : {b' : List ℕ} (r : ℕ) (p : Option ℕ) → r < sh.n → b' ≡ splice b (start_of sh at_heard + 9 * r) (point_bytes p) → Laid sh (with_heard (set st.heard r p) st) b'
  unfolding head_section
  put_heard r p h = put_place point_bytes 9 sh.n 2 r st.heard p (with_heard (set st.heard r p) st) (lit< tt) refl refl (lit< tt) (even_points st.heard) (point_long p) h refl

  pub put_vote : {b' : List ℕ} (r : ℕ) (v : Vote) → Even (vote_bytes sh.c) (vote_length sh.c) st.change.votes → length v.log ≤ sh.c → r < sh.n → b' ≡ splice b (start_of sh at_votes + vote_length sh.c * r) (vote_bytes sh.c (some v)) → Laid sh (with_change (set st.change.votes r (some v)) st.change.draft st.change.boundary st.change.replies st) b'
  unfolding head_section
  put_vote r v f e h = put_place (vote_bytes sh.c) (vote_length sh.c) sh.n 7 r st.change.votes (some v) (with_change (set st.change.votes r (some v)) st.change.draft st.change.boundary st.change.replies st) (lit< tt) refl refl (omega arith) f (vote_long sh.c v e) h refl

  pub put_reply : {b' : List ℕ} (j : ℕ) (es : List Entry) → Even (reply_bytes sh.c) (reply_length sh.c) st.change.replies → length es ≤ sh.c → j < sh.s → b' ≡ splice b (start_of sh at_replies + reply_length sh.c * j) (reply_bytes sh.c (some es)) → Laid sh (with_change st.change.votes st.change.draft st.change.boundary (set st.change.replies j (some es)) st) b'
  unfolding head_section
  put_reply j es f e h = put_place (reply_bytes sh.c) (reply_length sh.c) sh.s 9 j st.change.replies (some es) (with_change st.change.votes st.change.draft st.change.boundary (set st.change.replies j (some es)) st) (lit< tt) refl refl (omega arith) f (reply_long sh.c es e) h refl

  -- zeros over a section of which zeros are the form
  put_zeros : {b' : List ℕ} (next : State) (i n : ℕ) (x : List ℕ) → i < at_end sh → x ≡ zero_bytes n → n ≡ get_or (lengths sh) i 0 → set (sections sh st) i x ≡ sections sh next → b' ≡ splice b (start_of sh i) (zero_bytes n) → Laid sh next b'
  put_zeros next i n x h e r q w = put_all l next i (start_of sh i) x h refl (ap length e ∙ length-replicate {A = ℕ} n 0 ∙ r) q (w ∙ ap (splice b (start_of sh i)) (sym e))

  pub clear_heard : {b' : List ℕ} → b' ≡ splice b (start_of sh at_heard) (replicate (9 * sh.n) 0) → Laid sh (with_heard (replicate sh.n none) st) b'
  unfolding head_section
  clear_heard = put_zeros (with_heard (replicate sh.n none) st) 2 (9 * sh.n) (flat point_bytes (replicate sh.n none)) (lit< tt) (points_zeros sh.n) refl refl

  pub clear_votes : {b' : List ℕ} → b' ≡ splice b (start_of sh at_votes) (replicate (vote_length sh.c * sh.n) 0) → Laid sh (with_change (replicate sh.n none) st.change.draft st.change.boundary st.change.replies st) b'
  unfolding head_section
  clear_votes = put_zeros (with_change (replicate sh.n none) st.change.draft st.change.boundary st.change.replies st) 7 (vote_length sh.c * sh.n) (flat (vote_bytes sh.c) (replicate sh.n none)) (lit< tt) (votes_zeros sh.c sh.n) refl refl

  pub clear_replies : {b' : List ℕ} → b' ≡ splice b (start_of sh at_replies) (replicate (reply_length sh.c * sh.s) 0) → Laid sh (with_change st.change.votes st.change.draft st.change.boundary (replicate sh.s none) st) b'
  unfolding head_section
  clear_replies = put_zeros (with_change st.change.votes st.change.draft st.change.boundary (replicate sh.s none) st) 9 (reply_length sh.c * sh.s) (flat (reply_bytes sh.c) (replicate sh.s none)) (lit< tt) (replies_zeros sh.c sh.s) refl refl

  -- ---- the own vote, of a state on the way whose three numbers fit their bytes
  pub put_own_vote : {b' : List ℕ} → Even (vote_bytes sh.c) (vote_length sh.c) st.change.votes → length st.logged.log ≤ sh.c → st.site.replica < sh.n → st.site.replica < 256 → st.view.normal < 256 ^ 4 → st.logged.sync < 256 ^ 8 → b' ≡ splice b (start_of sh at_votes + vote_length sh.c * num b 1 1) (own_bytes sh b) → Laid sh (with_change (set st.change.votes st.site.replica (some (record { normal = st.view.normal; sync = st.logged.sync; log = st.logged.log }))) st.change.draft st.change.boundary st.change.replies st) b'
  unfolding own_bytes vote_bytes
  put_own_vote f e h fr fn fs w =
      let er : num b 1 1 ≡ st.site.replica = get_head l 1 1 1 st.site.replica (lit< tt) (simp length_le) (lit≤ tt) refl fr in
      let en : num b 12 4 ≡ st.view.normal = get_head l 5 12 4 st.view.normal (lit< tt) (simp length_le) (lit≤ tt) refl fn in
      let es : num b 24 8 ≡ st.logged.sync = get_head l 7 24 8 st.logged.sync (lit< tt) (simp length_le) (lit≤ tt) refl fs in
      put_vote st.site.replica (record { normal = st.view.normal; sync = st.logged.sync; log = st.logged.log }) f e h (w ∙ rw (er, en, es, log_part l))

-- ---- the views that stand in other bytes

pub views_in : (src : List ℕ) (at n : ℕ) → Bytes src → at + 4 * n ≤ length src → part src at (4 * n) ≡ flat (le 4) (items (λ a. num src a 4) 4 at n)
unfolding part
views_in src at n bs h =
    let vs = items (λ a. num src a 4) 4 at n in
    let k : length (flat (le 4) vs) ≡ 4 * n = long_row (le 4) 4 vs (even_views vs) ∙ ap (λ (m : ℕ). 4 * m) (length_items (λ a. num src a 4) 4 at n) in
    ap (take (4 * n)) (sym (peel_all (exact_number 4) src at n bs h)) ∙ take_at (flat (le 4) vs) (drop (at + 4 * n) src) (4 * n) k

-- ---- what is kept at a place, by its reader

point_is : (b : List ℕ) (a p : ℕ) → point_at b a ≡ some p → num b (a + 1) 8 ≡ p
unfolding point_at pick
point_is b a p e = go (eqb (num b a 1) 0) e
  where
    go : (t : Bool) → pick t none (some (num b (a + 1) 8)) ≡ some p → num b (a + 1) 8 ≡ p
    go true q = absurd (let z : ◌≡◌ {A = ℕ} 0 1 = cc in omega arith)
    go false q = cc

vote_is : (c : ℕ) (b : List ℕ) (a : ℕ) (v : Vote) → vote_at c b a ≡ some v → (num b (a + 1) 4 ≡ v.normal) × (num b (a + 5) 8 ≡ v.sync)
unfolding vote_at pick
vote_is c b a v e = go (eqb (num b a 1) 0) e
  where
    w : Vote
    w = record { normal = num b (a + 1) 4; sync = num b (a + 5) 8; log = table_at c b (a + 13) }

    go : (t : Bool) → pick t none (some w) ≡ some v → (num b (a + 1) 4 ≡ v.normal) × (num b (a + 5) 8 ≡ v.sync)
    go true q = absurd (let z : ◌≡◌ {A = ℕ} 0 1 = cc in omega arith)
    go false q = let r : w ≡ v = cc in (ap (λ (x : Vote). x.normal) r, ap (λ (x : Vote). x.sync) r)

-- the table in a vote, and in a reply
vote_body_lem : (c : ℕ) (v : Vote) → length v.log ≤ c → part (vote_bytes c (some v)) 13 (table_length c) ≡ table_bytes c v.log
unfolding vote_bytes
vote_body_lem c v h =
    let n = table_length c in
    part_past (le 1 1) (le 4 v.normal ++ (le 8 v.sync ++ table_bytes c v.log)) 1 13 n (length_le 1 1) (lit≤ tt)
    ∙ part_past (le 4 v.normal) (le 8 v.sync ++ table_bytes c v.log) 4 12 n (length_le 4 v.normal) (lit≤ tt)
    ∙ part_past (le 8 v.sync) (table_bytes c v.log) 8 8 n (length_le 8 v.sync) (lit≤ tt)
    ∙ part_whole (table_bytes c v.log) n (omega (arith, table_long c v.log h))

reply_body : (c : ℕ) (es : List Entry) → length es ≤ c → part (reply_bytes c (some es)) 1 (table_length c) ≡ table_bytes c es
unfolding reply_bytes
reply_body c es h = part_past (le 1 1) (table_bytes c es) 1 1 (table_length c) (length_le 1 1) (lit≤ tt) ∙ part_whole (table_bytes c es) (table_length c) (omega (arith, table_long c es h))

-- ---- read

pub view_at_lem : {sh : Shape} {st : State} {b : List ℕ} → Laid sh st b → length st.view.g_vec ≡ sh.s → All (λ v. v < 256 ^ 4) st.view.g_vec → (j : ℕ) → j < sh.s → num b (start_of sh at_gvec + 4 * j) 4 ≡ get_or st.view.g_vec j 0
view_at_lem {sh} {st} {b} l n f j h = row_at (number 4) b (start_of sh at_gvec) st.view.g_vec _ 0 j f (drop_all l 1 (start_of sh at_gvec) (lit< tt) refl) (omega arith)

module _ {sh : Shape} {st : State} {b : List ℕ} (m : Midway sh st b) where
  pub even_votes : Even (vote_bytes sh.c) (vote_length sh.c) st.change.votes
  even_votes = all-1 (vote sh.c).long st.change.votes m.holds.votes

  pub even_replies : Even (reply_bytes sh.c) (reply_length sh.c) st.change.replies
  even_replies = all-1 (reply sh.c).long st.change.replies m.holds.replies

  pub heard_at : (r : ℕ) → r < sh.n → point_at b (start_of sh at_heard + 9 * r) ≡ get_or st.heard r none
  heard_at r h =
      let n : length st.heard ≡ sh.n = m.holds.heard_places in
      row_at point b (start_of sh at_heard) st.heard _ none r m.holds.heard (drop_all (midway_laid m) 2 (start_of sh at_heard) (lit< tt) refl) (omega arith)

  pub vote_at_lem : (r : ℕ) → r < sh.n → vote_at sh.c b (start_of sh at_votes + vote_length sh.c * r) ≡ get_or st.change.votes r none
  vote_at_lem r h =
      let n : length st.change.votes ≡ sh.n = m.holds.vote_places in
      row_at (vote sh.c) b (start_of sh at_votes) st.change.votes _ none r m.holds.votes (drop_all (midway_laid m) 7 (start_of sh at_votes) (lit< tt) refl) (omega arith)

  pub reply_at_lem : (j : ℕ) → j < sh.s → reply_at sh.c b (start_of sh at_replies + reply_length sh.c * j) ≡ get_or st.change.replies j none
  reply_at_lem j h =
      let n : length st.change.replies ≡ sh.s = m.holds.reply_places in
      row_at (reply sh.c) b (start_of sh at_replies) st.change.replies _ none j m.holds.replies (drop_all (midway_laid m) 9 (start_of sh at_replies) (lit< tt) refl) (omega arith)

  -- ---- of what is kept
  pub heard_point : (r p : ℕ) → r < sh.n → get_or st.heard r none ≡ some p → num b (start_of sh at_heard + 9 * r + 1) 8 ≡ p
  heard_point r p h e = point_is b (start_of sh at_heard + 9 * r) p (heard_at r h ∙ e)

  -- inside place r of a section that is a row of n things, each of k bytes
  get_place : {A : Type 0} (put : A → List ℕ) (k n i r j g : ℕ) (xs : List A) (d : A) → i < at_end sh → get_or (sections sh st) i [] ≡ flat put xs → get_or (lengths sh) i 0 ≡ k * n → Even put k xs → length xs ≡ n → r < n → j + g ≤ k → part b (start_of sh i + k * r + j) g ≡ part (put (get_or xs r d)) j g
  get_place put k n i r j g xs d h q z f e u v =
      let w : k * r + j + g ≤ get_or (lengths sh) i 0 = omega (arith, within k r n u) in
      let y : r < length xs = omega arith in
      get_in (midway_laid m) i (k * r + j) (start_of sh i + k * r + j) g h (add_assoc (start_of sh i) (k * r) j) w
      ∙ ap (λ (x : List ℕ). part x (k * r + j) g) q
      ∙ get_row put k d xs r j g f y v

  module _ (r : ℕ) (v : Vote) (h : r < sh.n) (e : get_or st.change.votes r none ≡ some v) where
    pub vote_normal : num b (start_of sh at_votes + vote_length sh.c * r + 1) 4 ≡ v.normal
    vote_normal = (vote_is sh.c b (start_of sh at_votes + vote_length sh.c * r) v (vote_at_lem r h ∙ e)).0

    pub vote_sync : num b (start_of sh at_votes + vote_length sh.c * r + 5) 8 ≡ v.sync
    vote_sync = (vote_is sh.c b (start_of sh at_votes + vote_length sh.c * r) v (vote_at_lem r h ∙ e)).1

    pub vote_fits : VoteIs sh.c v
    vote_fits =
        let n : length st.change.votes ≡ sh.n = m.holds.vote_places in
        let f : VoteFits sh.c (get_or st.change.votes r none) = all_at (VoteFits sh.c) none st.change.votes m.holds.votes r (omega arith) in
        rw e at f

    pub vote_table : part b (start_of sh at_votes + vote_length sh.c * r + 13) (table_length sh.c) ≡ table_bytes sh.c v.log
    vote_table =
        get_place (vote_bytes sh.c) (vote_length sh.c) sh.n 7 r 13 (table_length sh.c) st.change.votes none (lit< tt) refl refl even_votes m.holds.vote_places h (omega arith)
        ∙ ap (λ (x : Option Vote). part (vote_bytes sh.c x) 13 (table_length sh.c)) e
        ∙ vote_body_lem sh.c v vote_fits.log.room

  module _ (j : ℕ) (es : List Entry) (h : j < sh.s) (e : get_or st.change.replies j none ≡ some es) where
    pub reply_fits : TableFits sh.c es
    reply_fits =
        let n : length st.change.replies ≡ sh.s = m.holds.reply_places in
        let f : ReplyFits sh.c (get_or st.change.replies j none) = all_at (ReplyFits sh.c) none st.change.replies m.holds.replies j (omega arith) in
        rw e at f

    pub reply_table : part b (start_of sh at_replies + reply_length sh.c * j + 1) (table_length sh.c) ≡ table_bytes sh.c es
    reply_table =
        get_place (reply_bytes sh.c) (reply_length sh.c) sh.s 9 j 1 (table_length sh.c) st.change.replies none (lit< tt) refl refl even_replies m.holds.reply_places h (omega arith)
        ∙ ap (λ (x : Option (List Entry)). part (reply_bytes sh.c x) 1 (table_length sh.c)) e
        ∙ reply_body sh.c es reply_fits.room

  pub votes_held : count (λ r. is_some (vote_at sh.c b (start_of sh at_votes + vote_length sh.c * r))) sh.n ≡ held st.change.votes
  votes_held = count_like _ _ sh.n (λ r h. ap is_some (vote_at_lem r h)) ∙ ap (count (λ i. is_some (get_or st.change.votes i none))) (sym m.holds.vote_places)

  pub replies_held : count (λ j. is_some (reply_at sh.c b (start_of sh at_replies + reply_length sh.c * j))) sh.s ≡ held st.change.replies
  replies_held = count_like _ _ sh.s (λ j h. ap is_some (reply_at_lem j h)) ∙ ap (count (λ i. is_some (get_or st.change.replies i none))) (sym m.holds.reply_places)
