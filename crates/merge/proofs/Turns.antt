-- The merge turn by turn: what each group's reply is, and what stands once the first j of them are taken in. Assumes nothing.
use Prim.Native.Nat.{ℕ, ◌+◌, ◌-◌, ◌*◌, ◌≤◌, ◌<◌}
use mathlib.Core.Path.{◌≡◌, refl, sym, ap, ◌∙◌}
use mathlib.Core.Bool.{Bool, true, false, true≢false}
use mathlib.Core.Option.{Option, none, some}
use mathlib.Core.List.{List, [], ◌∷◌, ◌++◌, append-nil}
use native.Mathlib.Omega.{arith}
use native.Mathlib.Numerals.{add-one}
use lib.ListN.{length, take, drop, get_or, set, length-set, take-append-drop}
use lib.Seq.{take_all, take-suc, get_or-set_same, get_or-set_other}
use Rattle.octets.specs.Bytes.{num, splice, flat, items}
use Rattle.octets.proofs.Sections.{splice_whole}
use Rattle.octets.proofs.Codecs.{flat_append}
use Rattle.rules.specs.Choice.{is_some}
use Rattle.rules.specs.Entry.{ordered}
use Rattle.rules.specs.Read.{entry_at}
use Rattle.rules.specs.State.{State}
use Rattle.rules.specs.Image.{table_length, reply_length, table_at, reply_at, at_draft, at_replies}
use Rattle.rules.specs.Merge.{all_taken, entries_in, merged}
use Rattle.rules.specs.declared.Entry.{Entry}
use Rattle.rules.specs.declared.Shape.{Shape}
use Rattle.rules.proofs.Order.{ordered_length}
use Rattle.entries.specs.Table.{Holds}
use Rattle.entries.specs.Rows.{Found}
use Rattle.entries.proofs.Table.{decoded, and_then, rows_read}
use Rattle.places.specs.Layout.{start_of, PlaceAt, Stands}
use Rattle.places.proofs.Sections.{stands_fits, stands_laid, stands_midway}
use Rattle.places.proofs.Kept.{reply_at_lem}
use Rattle.places.proofs.Lent.{draft_lent, reply_lent}
use Rattle.merge.specs.Taken.{Taken, Took}
use Rattle.merge.proofs.Taking.{told_held, told_full, all_append, all_grows}

none_is : (o : Option (List Entry)) → is_some o ≡ false → o ≡ none
none_is none h = refl
none_is (some es) h = absurd (true≢false h)

some_is : (o : Option (List Entry)) → is_some o ≡ true → (es : List Entry) × (o ≡ some es)
some_is none h = absurd (true≢false (sym h))
some_is (some es) h = (es, refl)

-- ---- what group j replied

-- the replies with that of one group put in
abbrev pub with_reply : State → ℕ → List Entry → List (Option (List Entry))
with_reply st from es = set st.change.replies from (some es)

module _ {sh : Shape} {st : State} {b : List ℕ} (s : Stands sh st b) (j : ℕ) (h : j < sh.s) (f : Bool) (a len : ℕ) (g : f ≡ is_some (reply_at sh.c b (start_of sh at_replies + reply_length sh.c * j))) (q : f ≡ true) (ha : PlaceAt sh 9 (reply_length sh.c) j a) (hl : len ≡ table_length sh.c) where
  -- the table of a reply that is kept
  kept_table : (ds : List Entry) × (reply_at sh.c b (start_of sh at_replies + reply_length sh.c * j) ≡ some ds) × Holds sh.c ds (take (a + 1 + len - (a + 1)) (drop (a + 1) b))
  kept_table =
      let w = some_is (reply_at sh.c b (start_of sh at_replies + reply_length sh.c * j)) (sym g ∙ q) in
      let e : a + 1 ≡ start_of sh at_replies + reply_length sh.c * j + 1 = ap (λ (n : ℕ). n + 1) ha.at in
      let m : a + 1 + len - (a + 1) ≡ table_length sh.c = omega arith in
      (w.0, w.1, reply_lent (stands_midway s) j w.0 (a + 1) (a + 1 + len - (a + 1)) h (sym (reply_at_lem (stands_midway s) j h) ∙ w.1) e m)

  pub kept_room : (n : ℕ) → n ≡ num (take (a + 1 + len - (a + 1)) (drop (a + 1) b)) 0 4 → 4 + 24 * n ≤ length (take (a + 1 + len - (a + 1)) (drop (a + 1) b))
  kept_room n hn = let k = kept_table.2 in omega (arith, k.count, k.size, k.room)

module _ {sh : Shape} {st : State} {b : List ℕ} (s : Stands sh st b) (from : ℕ) (es : List Entry) where
  own : (j : ℕ) → j < sh.s → j ≡ from → get_or (with_reply st from es) j none ≡ some es
  own j h q =
      let m : length st.change.replies ≡ sh.s = (stands_fits s).reply_places in
      let l : from < length st.change.replies = omega arith in
      rw q (get_or-set_same st.change.replies from (some es) none l)

  other : (j : ℕ) → j < sh.s → (j ≡ from → ⊥) → get_or (with_reply st from es) j none ≡ reply_at sh.c b (start_of sh at_replies + reply_length sh.c * j)
  other j h n = get_or-set_other st.change.replies from j (some es) none n ∙ sym (reply_at_lem (stands_midway s) j h)

  -- the ways of taking it in
  module _ (j c : ℕ) (h : j < sh.s) (ds : List Entry) where
    pub way_own : (r : Bool) (u rows : List ℕ) → j ≡ from → Took c (all_taken ds es) r u rows → Took c (all_taken ds (entries_in (get_or (with_reply st from es) j none))) r u rows
    way_own r u rows q k = rw (own j h q) k

    pub way_none : (f : Bool) (u rows : List ℕ) → (j ≡ from → ⊥) → f ≡ is_some (reply_at sh.c b (start_of sh at_replies + reply_length sh.c * j)) → f ≡ false → Holds c ds u → Found ds rows
        → Took c (all_taken ds (entries_in (get_or (with_reply st from es) j none))) true u rows
    unfolding all_taken
    way_none f u rows n g q k m = rw (other j h n, none_is (reply_at sh.c b (start_of sh at_replies + reply_length sh.c * j)) (sym g ∙ q)) (record { taken = told_held c ds u k; found = λ _. m })

    pub way_kept : (f : Bool) (r : Bool) (a len n : ℕ) (u rows : List ℕ) → (j ≡ from → ⊥) → f ≡ is_some (reply_at sh.c b (start_of sh at_replies + reply_length sh.c * j)) → f ≡ true → PlaceAt sh 9 (reply_length sh.c) j a → len ≡ table_length sh.c
        → n ≡ num (take (a + 1 + len - (a + 1)) (drop (a + 1) b)) 0 4
        → Took c (all_taken ds (items (entry_at (take (a + 1 + len - (a + 1)) (drop (a + 1) b))) 24 4 n)) r u rows → Took c (all_taken ds (entries_in (get_or (with_reply st from es) j none))) r u rows
    way_kept f r a len n u rows d g q ha hl hn k =
        let w = kept_table s j h f a len g q ha hl in
        let z = rows_read sh.c w.0 (take (a + 1 + len - (a + 1)) (drop (a + 1) b)) w.2 n hn in
        rw (other j h d, w.1, ← z) k

-- ---- the draft, and the replies of the first j groups

-- the draft's table, copied over bytes of its length
pub draft_copied : {sh : Shape} {st : State} {b : List ℕ} → Stands sh st b → (at len : ℕ) (t u : List ℕ) → at ≡ start_of sh at_draft → len ≡ table_length sh.c → length t ≡ 4 + 24 * sh.c → u ≡ splice t 0 (take (at + len - at) (drop at b)) → Holds sh.c st.change.draft u
draft_copied {sh} {st} {b} s at len t u ha hl ht q =
    let m : at + len - at ≡ table_length sh.c = omega arith in
    let k : Holds sh.c st.change.draft (take (at + len - at) (drop at b)) = draft_lent (stands_laid s) at (at + len - at) s.fits (stands_fits s).draft ha m in
    rw (q ∙ splice_whole t (take (at + len - at) (drop at b)) (k.size ∙ sym ht)) k

pub replies_long : {sh : Shape} {st : State} {b : List ℕ} → Stands sh st b → (from : ℕ) (es : List Entry) → length (with_reply st from es) ≡ sh.s
replies_long {st = st} s from es = length-set st.change.replies from (some es) ∙ (stands_fits s).reply_places

module _ (draft : List Entry) (rs : List (Option (List Entry))) where
  abbrev pub merged_to : ℕ → List Entry
  merged_to j = all_taken draft (flat entries_in (take j rs))

  pub merge_start : (c : ℕ) (t slots : List ℕ) → Holds c draft t × Found draft slots → Holds c (merged_to 0) t × Found (merged_to 0) slots
  unfolding all_taken flat
  merge_start c t slots h = h

  to_next : (j : ℕ) → j < length rs → merged_to (j + 1) ≡ all_taken (merged_to j) (entries_in (get_or rs j none))
  unfolding flat
  to_next j l =
      let q : take (j + 1) rs ≡ take j rs ++ (get_or rs j none ∷ []) = rw add-one (take-suc rs j none l) in
      ap (λ (xs : List (Option (List Entry))). all_taken draft (flat entries_in xs)) q
      ∙ ap (all_taken draft) (flat_append entries_in (take j rs) (get_or rs j none ∷ []) ∙ ap (λ (l : List Entry). flat entries_in (take j rs) ++ l) (append-nil (entries_in (get_or rs j none))))
      ∙ all_append draft (flat entries_in (take j rs)) (entries_in (get_or rs j none))

  -- those of the groups from j on make it no shorter
  to_grows : (j : ℕ) → length (merged_to j) ≤ length (all_taken draft (flat entries_in rs))
  to_grows j =
      let q : flat entries_in rs ≡ flat entries_in (take j rs) ++ flat entries_in (drop j rs) = ap (flat entries_in) (sym (take-append-drop j rs)) ∙ flat_append entries_in (take j rs) (drop j rs) in
      rw (q, all_append draft (flat entries_in (take j rs)) (flat entries_in (drop j rs))) (all_grows (merged_to j) (flat entries_in (drop j rs)))

  module _ (n : ℕ) (hn : length rs ≡ n) (c j : ℕ) (t : List ℕ) (h : Holds c (merged_to j) t) where
    module _ (l : j < n) (r : Bool) (u : List ℕ) (k : Taken c (all_taken (table_at c t 0) (entries_in (get_or rs j none))) r u) where
      pub merge_again : r ≡ true → Holds c (merged_to (j + 1)) u
      merge_again q = rw (to_next j (omega arith)) (and_then c (merged_to j) t h (λ ds. all_taken ds (entries_in (get_or rs j none))) u (k.held q))

      pub merge_rows : (slots : List ℕ) → Found (all_taken (table_at c t 0) (entries_in (get_or rs j none))) slots → Found (merged_to (j + 1)) slots
      merge_rows slots f = rw (to_next j (omega arith)) (rw (decoded c (merged_to j) t h) at f)

      pub merge_full : r ≡ false → Taken c (merged draft rs) false u
      unfolding merged
      merge_full q =
          let z : length (merged_to (j + 1)) ≡ length (all_taken (table_at c t 0) (entries_in (get_or rs j none))) = ap length (to_next j (omega arith)) ∙ ap (λ (ds : List Entry). length (all_taken ds (entries_in (get_or rs j none)))) (sym (decoded c (merged_to j) t h)) in
          let v : c < length (all_taken (table_at c t 0) (entries_in (get_or rs j none))) = k.full q in
          told_full c (ordered (all_taken draft (flat entries_in rs))) u (omega (arith, to_grows (j + 1), ordered_length (all_taken draft (flat entries_in rs))))

    pub merge_end : n ≤ j → (u : List ℕ) → Holds c (ordered (table_at c t 0)) u → Taken c (merged draft rs) true u
    unfolding merged
    merge_end l u k =
        told_held c (ordered (all_taken draft (flat entries_in rs))) u
        (rw (take_all j rs (omega arith)) at (and_then c (merged_to j) t h ordered u k))
