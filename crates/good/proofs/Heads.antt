-- The tests of the head's numbers, of the points heard, and of what is kept, each as the rules have it. Assumes nothing.
use Prim.Native.Nat.{ℕ, zero, suc, ◌+◌, ◌-◌, ◌*◌, ◌%◌, ◌≤◌, ◌<◌, min}
use mathlib.Core.Path.{◌≡◌, refl, sym, ap, ap₂, ◌∙◌}
use mathlib.Core.Bool.{Bool, true, false, ◌&&◌, ◌||◌, not, true≢false, and_assoc, and_comm, and-true}
use mathlib.Core.Option.{Option, none, some}
use mathlib.Core.List.{List, [], ◌∷◌}
use native.Mathlib.Omega.{arith}
use lib.ListN.{length, get_or}
use lib.Dec.{eqb, ltb, leb}
use borrow.Author.Tests.{not-true, not-false}
use Rattle.octets.specs.Bytes.{num, part, flat, items}
use Rattle.octets.proofs.Codecs.{length_items, get_or_items}
use Rattle.rules.specs.Choice.{pick, when, all_of, count, every, is_some, passes, below, same}
use Rattle.rules.specs.Group.{majority}
use Rattle.rules.specs.Entry.{latest}
use Rattle.rules.specs.Log.{good_log, all_hold}
use Rattle.rules.specs.State.{leads, view_good, heard_good, vote_good, reply_good, kept_good, held}
use Rattle.rules.specs.Read.{entry_at}
use Rattle.rules.specs.Image.{vote_length, reply_length, state_length, point_bytes, point_at, table_at, vote_at, reply_at, state_of, at_gvec, at_heard, at_replies, at_votes}
use Rattle.rules.specs.declared.Entry.{Entry}
use Rattle.rules.specs.declared.Shape.{Shape}
use Rattle.rules.proofs.Choice.{every_append}
use Rattle.places.specs.Layout.{start_of, PlaceAt}
use Rattle.places.proofs.Spots.{count_like}
use Rattle.form.specs.Sections.{section_form}
use Rattle.form.proofs.Same.{flag_long}
use Rattle.form.proofs.Same as same-laws
use Rattle.form.proofs.Parts.{point_place}
use Rattle.good.specs.Known.{head_fits, points_good}
use Rattle.places.proofs.Fields.{fields, view_of}
use Rattle.good.proofs.Tables.{row_next, count_is, table_is}

-- ---- tests of a place that may be unset

module _ {A : Type 0} (q : A → Bool) (t : Bool) (x : A) where
  pub unset : (flag : Bool) → flag ≡ is_some (pick t none (some x)) → not flag ≡ true → true ≡ passes q (pick t none (some x))
  unfolding pick
  unset flag e h = go t (sym e ∙ not-true flag h)
    where
      go : (u : Bool) → is_some (pick u none (some x)) ≡ false → true ≡ passes q (pick u none (some x))
      go true f = refl
      go false f = absurd (true≢false f)

  pub set_so : (flag : Bool) → flag ≡ is_some (pick t none (some x)) → not flag ≡ false → (r : Bool) → r ≡ q x → r ≡ passes q (pick t none (some x))
  unfolding pick
  set_so flag e h r w = go t (sym e ∙ not-false flag h)
    where
      go : (u : Bool) → is_some (pick u none (some x)) ≡ true → r ≡ passes q (pick u none (some x))
      go true f = absurd (true≢false (sym f))
      go false f = w

  pub either : (flag r : Bool) → flag ≡ is_some (pick t none (some x)) → r ≡ q x → (not flag || r) ≡ passes q (pick t none (some x))
  unfolding pick
  either flag r e w = rw (e, w) (go t)
    where
      go : (u : Bool) → (not (is_some (pick u none (some x))) || q x) ≡ passes q (pick u none (some x))
      go true = refl
      go false = refl

pub point_test : (b : List ℕ) (a : ℕ) (q : ℕ → Bool) (flag r : Bool) (v : ℕ) → flag ≡ is_some (point_at b a) → v ≡ num b (a + 1) 8 → r ≡ q v → (not flag || r) ≡ passes q (point_at b a)
unfolding point_at
point_test b a q flag r v e w h = either q (eqb (num b a 1) 0) (num b (a + 1) 8) flag r e (h ∙ ap q w)

-- one more point heard: what it says, and its form
pub heard_turn : (b : List ℕ) (o i most v : ℕ) (k l fine flag : Bool) → fine ≡ every (passes (λ p. not k || (l && leb p most))) (items (point_at b) 9 o i) → v ≡ num b (o + 9 * i + 1) 8 → flag ≡ is_some (point_at b (o + 9 * i)) → (fine && (not flag || (not k || (l && leb v most)))) ≡ every (passes (λ p. not k || (l && leb p most))) (items (point_at b) 9 o (i + 1))
heard_turn b o i most v k l fine flag e w h = row_next (passes (λ p. not k || (l && leb p most))) (point_at b) 9 o i fine _ e (point_test b (o + 9 * i) (λ p. not k || (l && leb p most)) flag _ v h w refl)

module _ (b : List ℕ) (o : ℕ) where
  -- the first i points have their form
  abbrev pub points_form : ℕ → Bool
  points_form i = same (flat point_bytes (items (point_at b) 9 o i)) (part b o (9 * i))

  pub form_none : true ≡ points_form 0
  form_none = same-laws.row_none point_bytes point_at 9 (flag_long point_place) b o

  pub form_turn : (at i : ℕ) (f p : Bool) → at ≡ o → o + 9 * (i + 1) ≤ length b → f ≡ points_form i → p ≡ same (point_bytes (point_at b (at + 9 * i))) (part b (at + 9 * i) 9) → (f && p) ≡ points_form (i + 1)
  form_turn at i f p e l hf hp = same-laws.row_next point_bytes point_at 9 (flag_long point_place) b o i (at + 9 * i) f p (omega arith) l hf hp

  pub points_end : (k l : Bool) (most i n : ℕ) (f w : Bool) → i ≤ n → n ≤ i → f ≡ points_form i → w ≡ every (passes (λ p. not k || (l && leb p most))) (items (point_at b) 9 o i) → (f && w) ≡ (points_form n && every (passes (λ p. not k || (l && leb p most))) (items (point_at b) 9 o n))
  points_end k l most i n f w x y hf hw = let q : i ≡ n = omega arith in ap₂ ◌&&◌ (rw q at hf) (rw q at hw)

-- ---- the rules' tests

pick_both : (t x y : Bool) → pick t x y ≡ ((t && x) || (not t && y))
unfolding pick
pick_both true true y = refl
pick_both true false y = refl
pick_both false x y = refl

below_agree : (p q : ℕ → Bool) (n : ℕ) → ((i : ℕ) → i < n → p i ≡ q i) → every p (below n) ≡ every q (below n)
unfolding below every
below_agree p q zero h = refl
below_agree p q (suc n) h = every_append p (below n) (n ∷ []) ∙ ap₂ ◌&&◌ (below_agree p q n (λ i l. h i (omega arith))) (ap (λ (t : Bool). t && true) (h n (omega arith))) ∙ sym (every_append q (below n) (n ∷ []))

every_agree : {A : Type 0} (p q : A → Bool) → ((x : A) → p x ≡ q x) → (xs : List A) → every p xs ≡ every q xs
unfolding every
every_agree p q h [] = refl
every_agree p q h (x ∷ xs) = ap₂ ◌&&◌ (h x) (every_agree p q h xs)

no_point : (y : ℕ) (x : Option ℕ) → passes (λ p. false && leb p y) x ≡ not (is_some x)
no_point y none = refl
no_point y (some p) = refl

heard_by : (l t w : Bool) (y : ℕ) (xs : List (Option ℕ)) → w ≡ every (passes (λ p. l && leb p y)) xs → ((not l || t) && w) ≡ pick l (t && every (passes (λ p. leb p y)) xs) (every (λ p. not (is_some p)) xs)
unfolding pick
heard_by true t w y xs h = ap (λ (u : Bool). t && u) h
heard_by false t w y xs h = h ∙ every_agree (passes (λ p. false && leb p y)) (λ p. not (is_some p)) (no_point y) xs

no_test : (xs : List (Option ℕ)) → every (passes (λ p. true)) xs ≡ true
unfolding every
no_test [] = refl
no_test (none ∷ xs) = no_test xs
no_test (some p ∷ xs) = no_test xs

-- the form and, where asked, what the points say
heard_both : (k f l t w : Bool) (y : ℕ) (xs : List (Option ℕ)) → w ≡ (f && every (passes (λ p. not k || (l && leb p y))) xs) → (w && (not k || (not l || t))) ≡ (f && (not k || pick l (t && every (passes (λ p. leb p y)) xs) (every (λ p. not (is_some p)) xs)))
heard_both true f l t w y xs h =
    let v : Bool = every (passes (λ p. l && leb p y)) xs in
    ap (λ (u : Bool). u && (not l || t)) h
    ∙ and_assoc f v (not l || t)
    ∙ ap (λ (u : Bool). f && u) (and_comm v (not l || t) ∙ heard_by l t v y xs refl)
heard_both false f l t w y xs h = and-true w ∙ h ∙ ap (λ (u : Bool). f && u) (no_test xs)

module _ (sh : Shape) (b : List ℕ) (z : length b ≡ state_length sh) where
  pub head_is : (group replica status clock boundary : ℕ) → group ≡ num b 0 1 → replica ≡ num b 1 1 → status ≡ num b 2 1 → clock ≡ num b 16 8 → boundary ≡ num b 40 8
      → (ltb group sh.s && (ltb replica sh.n && (leb 1 status && (leb status 3 && (leb clock latest && leb boundary latest))))) ≡ head_fits sh (state_of sh b)
  unfolding head_fits all_of
  head_is group replica status clock boundary e1 e2 e3 e4 e5 =
      let f = fields sh b z in
      rw (e1, e2, e3, e4, e5, f.group, f.replica, f.status, f.clock, f.boundary, and-true)

  pub leads_is : (group replica view : ℕ) (r : Bool) → num b 0 1 < sh.s → group ≡ num b 0 1 → view ≡ num b (start_of sh at_gvec + 4 * group) 4 → replica ≡ num b 1 1 → r ≡ eqb replica (view % sh.n) → r ≡ leads sh (state_of sh b)
  leads_is group replica view r l e1 e2 e3 e4 =
      let f = fields sh b z in
      let g : group ≡ (state_of sh b).site.group = e1 ∙ sym f.group in
      let h : group < sh.s = omega arith in
      let v : view ≡ get_or (state_of sh b).view.g_vec (state_of sh b).site.group 0 = e2 ∙ sym (view_of sh b z group h) ∙ ap (λ (j : ℕ). get_or (state_of sh b).view.g_vec j 0) g in
      e4 ∙ ap₂ (λ (x y : ℕ). eqb x (y % sh.n)) (e3 ∙ sym f.replica) v

  pub points_is : (n sync commit : ℕ) → n ≡ length (state_of sh b).logged.log → sync ≡ num b 24 8 → commit ≡ num b 32 8 → (leb commit sync && leb sync n) ≡ points_good (state_of sh b)
  unfolding points_good
  points_is n sync commit q e2 e1 =
      let f = fields sh b z in
      rw (q, e1, e2, f.commit, f.sync)

  pub view_is : (status normal view : ℕ) (l : Bool) → status ≡ num b 2 1 → normal ≡ num b 12 4 → view ≡ num b 8 4 → l ≡ leads sh (state_of sh b)
      → (((eqb status 1 && eqb normal view) || (not (eqb status 1) && ltb normal view)) && (not (eqb status 3) || l)) ≡ view_good sh (state_of sh b)
  unfolding view_good
  view_is status normal view l e1 e2 e3 e4 =
      let f = fields sh b z in
      rw (e1 ∙ sym f.status, e2 ∙ sym f.normal, e3 ∙ sym f.view, e4)
      (ap (λ (t : Bool). t && when (eqb (state_of sh b).view.status 3) (leads sh (state_of sh b))) (sym (pick_both (eqb (state_of sh b).view.status 1) _ _)))

  heard_form : same (flat point_bytes (items (point_at b) 9 (start_of sh at_heard) sh.n)) (part b (start_of sh at_heard) (9 * sh.n)) ≡ section_form sh b 2
  unfolding section_form
  heard_form =
      let e : start_of sh at_heard ≡ 0 + 48 + 4 * sh.s = omega arith in
      ap₂ (λ (xs : List (Option ℕ)) (j : ℕ). same (flat point_bytes xs) (part b j (9 * sh.n))) (sym (fields sh b z).heard) e

  pub heard_is : (n status sync : ℕ) (l w : Bool) → n ≡ length (state_of sh b).logged.log → status ≡ num b 2 1 → sync ≡ num b 24 8 → l ≡ leads sh (state_of sh b)
      → w ≡ (same (flat point_bytes (items (point_at b) 9 (start_of sh at_heard) sh.n)) (part b (start_of sh at_heard) (9 * sh.n)) && every (passes (λ p. not (eqb status 1) || (l && leb p sync))) (items (point_at b) 9 (start_of sh at_heard) sh.n))
      → (w && (not (eqb status 1) || (not l || eqb sync n))) ≡ (section_form sh b 2 && heard_good sh (state_of sh b))
  unfolding heard_good
  heard_is n status sync l w q e1 e2 e4 e5 =
      let f = fields sh b z in
      let st = state_of sh b in
      let g : Bool = same (flat point_bytes (items (point_at b) 9 (start_of sh at_heard) sh.n)) (part b (start_of sh at_heard) (9 * sh.n)) in
      heard_both (eqb status 1) g l (eqb sync n) w sync (items (point_at b) 9 (start_of sh at_heard) sh.n) e5
      ∙ rw (heard_form, e1 ∙ sym f.status, e2 ∙ sym f.sync, q, e4, sym f.heard)

  -- ---- votes and replies

  module _ (r : ℕ) (flag : Bool) where
    abbrev vote_place : ℕ
    vote_place = start_of sh at_votes + vote_length sh.c * r

    pub vote_unset : flag ≡ is_some (vote_at sh.c b vote_place) → not flag ≡ true → true ≡ passes (vote_good sh (state_of sh b)) (vote_at sh.c b vote_place)
    unfolding vote_at
    vote_unset e h = unset (vote_good sh (state_of sh b)) (eqb (num b vote_place 1) 0) _ flag e h

    pub vote_is : flag ≡ is_some (vote_at sh.c b vote_place) → not flag ≡ false → (a n sync normal view group : ℕ) (log : Bool) → PlaceAt sh 7 (vote_length sh.c) r a → n ≡ min (num b (a + 13) 4) sh.c → sync ≡ num b (vote_place + 5) 8 → normal ≡ num b (vote_place + 1) 4 → view ≡ num b 8 4 → group ≡ num b 0 1 → log ≡ good_log sh.s group (table_at sh.c b (a + 13))
        → (log && (leb sync n && ltb normal view)) ≡ passes (vote_good sh (state_of sh b)) (vote_at sh.c b vote_place)
    unfolding vote_at vote_good
    vote_is e h a n sync normal view group log w e2 e3 e4 e5 e6 e7 =
        let f = fields sh b z in
        set_so (vote_good sh (state_of sh b)) (eqb (num b vote_place 1) 0) _ flag e h _ (rw (e7, count_is sh.c b (a + 13) n e2, e3, e4, e5, e6, w.at, f.group, f.view))

  module _ (j : ℕ) (flag : Bool) where
    abbrev reply_place : ℕ
    reply_place = start_of sh at_replies + reply_length sh.c * j

    pub reply_unset : flag ≡ is_some (reply_at sh.c b reply_place) → not flag ≡ true → true ≡ passes (reply_good sh (state_of sh b) j) (reply_at sh.c b reply_place)
    unfolding reply_at
    reply_unset e h = unset (reply_good sh (state_of sh b) j) (eqb (num b reply_place 1) 0) _ flag e h

    pub reply_is : flag ≡ is_some (reply_at sh.c b reply_place) → not flag ≡ false → (a group n : ℕ) (log : Bool) → PlaceAt sh 9 (reply_length sh.c) j a → group ≡ num b 0 1 → n ≡ min (num b (a + 1) 4) sh.c → log ≡ (good_log sh.s group (items (entry_at b) 24 (a + 1 + 4) n) && all_hold j (items (entry_at b) 24 (a + 1 + 4) n))
        → (not (eqb j group) && log) ≡ passes (reply_good sh (state_of sh b) j) (reply_at sh.c b reply_place)
    unfolding reply_at reply_good
    reply_is e h a group n log w e2 e3 e4 =
        let f = fields sh b z in
        set_so (reply_good sh (state_of sh b) j) (eqb (num b reply_place 1) 0) _ flag e h _ (rw (e4, table_is sh.c b (a + 1) n e3, e2, w.at, f.group))

  -- ---- all that is kept
  held_row : {A : Type 0} (get : ℕ → Option A) (k o n : ℕ) (xs : List (Option A)) → xs ≡ items get k o n → count (λ i. is_some (get (o + k * i))) n ≡ held xs
  held_row get k o n xs e =
      count_like _ _ n (λ i l. ap is_some (sym (get_or_items get k o n i none l)))
      ∙ ap (count (λ i. is_some (get_or (items get k o n) i none))) (sym (length_items get k o n))
      ∙ ap held (sym e)

  replies_each : every (λ j. passes (reply_good sh (state_of sh b) j) (reply_at sh.c b (start_of sh at_replies + reply_length sh.c * j))) (below sh.s) ≡ every (λ j. passes (reply_good sh (state_of sh b) j) (get_or (state_of sh b).change.replies j none)) (below sh.s)
  replies_each =
      below_agree _ _ sh.s (λ j l. ap (passes (reply_good sh (state_of sh b) j)) (sym (ap (λ (xs : List (Option (List Entry))). get_or xs j none) (fields sh b z).replies ∙ get_or_items (reply_at sh.c b) (reply_length sh.c) (start_of sh at_replies) sh.s j none l)))

  pub kept_is : (status votes replies most : ℕ) (v w : Bool) → status ≡ num b 2 1 → votes ≡ count (λ r. is_some (vote_at sh.c b (start_of sh at_votes + vote_length sh.c * r))) sh.n → replies ≡ count (λ j. is_some (reply_at sh.c b (start_of sh at_replies + reply_length sh.c * j))) sh.s
      → v ≡ every (passes (vote_good sh (state_of sh b))) (items (vote_at sh.c b) (vote_length sh.c) (start_of sh at_votes) sh.n) → w ≡ every (λ j. passes (reply_good sh (state_of sh b) j) (reply_at sh.c b (start_of sh at_replies + reply_length sh.c * j))) (below sh.s) → most ≡ majority sh.n
      → (v && (w && ((not (eqb status 2) || ltb votes most) && (not (eqb status 3) || ltb replies (sh.s - 1))))) ≡ kept_good sh (state_of sh b)
  unfolding kept_good all_of
  kept_is status votes replies most v w e1 e2 e3 e4 e5 e6 =
      let f = fields sh b z in
      let st = state_of sh b in
      let a : v ≡ every (passes (vote_good sh st)) st.change.votes = e4 ∙ ap (every (passes (vote_good sh st))) (sym f.votes) in
      let c : w ≡ every (λ j. passes (reply_good sh st j) (get_or st.change.replies j none)) (below sh.s) = e5 ∙ replies_each in
      let d : votes ≡ held st.change.votes = e2 ∙ held_row (vote_at sh.c b) (vote_length sh.c) (start_of sh at_votes) sh.n st.change.votes f.votes in
      let g : replies ≡ held st.change.replies = e3 ∙ held_row (reply_at sh.c b) (reply_length sh.c) (start_of sh at_replies) sh.s st.change.replies f.replies in
      let i : status ≡ st.view.status = e1 ∙ sym f.status in
      rw (a, c, d, g, i, e6, and-true)
