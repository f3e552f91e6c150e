-- The ways through a tick: what a leader's and a follower's releases leave. Assumes nothing.
use Prim.Native.Nat.{ℕ, zero, suc, ◌+◌, ◌-◌, ◌*◌, ◌≤◌, ◌<◌, min}
use mathlib.Core.Path.{◌≡◌, refl, sym, ap, ap₂, ◌∙◌}
use mathlib.Core.Bool.{Bool, true, false, ◌&&◌, not, and-false}
use mathlib.Core.List.{List, [], ◌∷◌, ◌++◌, append-nil}
use native.Mathlib.Omega.{arith}
use native.Mathlib.Decide.{dec_le}
use lib.ListN.{length, take, length-append, length-take}
use lib.Seq.{take_all, take-nil, take-take, length-take-le}
use lib.Dec.{eqb, leb}
use borrow.Author.Tests.{le-leb, lt-leb, ne_eqb}
use Rattle.octets.specs.Bytes.{num, flat, splice}
use Rattle.octets.proofs.Laws.{splice_next}
use Rattle.rules.specs.Kind.{row_of}
use Rattle.rules.specs.Choice.{pick, leading, below}
use Rattle.rules.specs.Entry.{entry_of}
use Rattle.rules.specs.Wire.{Wire, wire_bytes}
use Rattle.rules.specs.Read.{length_for}
use Rattle.rules.specs.State.{State, agreed}
use Rattle.rules.specs.Image.{image, state_of}
use Rattle.rules.specs.Step.{refused, done, sends, send_leader, send_followers, fitting, released, placed_replies, unplaced_reply, leader_tells, leader_releases, follower_releases}
use Rattle.rules.specs.Early.{due_of}
use Rattle.rules.specs.Bytes.{Left, left, leaves, closes}
use Rattle.rules.specs.declared.Entry.{Entry}
use Rattle.rules.specs.declared.Shape.{Shape}
use Rattle.std.specs.Prelude.{Ok}
use Rattle.rules.proofs.Choice.{pick_true, pick_false}
use Rattle.early.proofs.Kept.{without_none}
use Rattle.early.proofs.Leading.{leading_take, leading_length, due_at, due_within}
use Rattle.notes.proofs.Leaving as notes
use Rattle.ticks.specs.Released.{settled_at}
use Rattle.handler.proofs.Rows.{flat_snoc}
use Rattle.handler.proofs.Closes.{quiet, closes_refused, closes_sent, closes_tight, closes_quiet, closes_one, closes_short}
use Rattle.handler.proofs.Sends.{sent_length}
use Rattle.releases.specs.Releasing.{Releasing}
use Rattle.ticks.specs.Released.{Released}
use Rattle.ticks.proofs.Many.{replies_length}
use Rattle.ticks.proofs.Telling.{sync_in}

-- ---- as many as the log holds

-- a leading run is the first of them
pub run_first : (p : Entry → Bool) (ds : List Entry) → leading p ds ≡ take (length (leading p ds)) ds
run_first p ds = leading_take p ds ∙ ap (λ (n : ℕ). take n ds) (sym (leading_length p ds))

pub all_first : (ds : List Entry) → ds ≡ take (length ds) ds
all_first ds = sym (take_all (length ds) ds (omega arith))

take_again : (ds : List Entry) (r m : ℕ) → take m (take r ds) ≡ take (min r m) ds
take_again ds r m = go (dec_le m r)
  where
    go : Dec (m ≤ r) → take m (take r ds) ≡ take (min r m) ds
    go (yes l) =
        let e : m ≡ min r m = omega arith in
        take-take m r ds l ∙ ap (λ (j : ℕ). take j ds) e
    go (no l) =
        let z : length (take r ds) ≡ min r (length ds) = length-take r ds in
        let e : r ≡ min r m = omega arith in
        take_all m (take r ds) (omega arith) ∙ ap (λ (j : ℕ). take j ds) e

module _ (sh : Shape) (st : State) (ds run : List Entry) (h : run ≡ take (length run) ds) where
  pub run_within : length run ≤ length ds
  run_within = omega (arith, ap length h, length-take (length run) ds)

  pub fitting_is : (n k : ℕ) → n ≡ length st.logged.log → k ≡ min (length run) (sh.c - n) → fitting sh st run ≡ take k ds
  fitting_is n k e q =
      ap (take (sh.c - length st.logged.log)) h
      ∙ take_again ds (length run) (sh.c - length st.logged.log)
      ∙ ap (λ (j : ℕ). take j ds) (ap (λ (x : ℕ). min (length run) (sh.c - x)) (sym e) ∙ sym q)

-- ---- what is left once messages are written after the replies

module _ {sh : Shape} {b₀ : List ℕ} (m : Releasing sh b₀) (out₀ : List ℕ) (time k : ℕ) (hk : k ≤ length (due_of time (state_of sh b₀).waiting.early)) (w : Wire) (n : ℕ) (hw : length (wire_bytes w) ≡ n) (next : State) where
  abbrev st : State
  st = state_of sh b₀

  abbrev es : List Entry
  es = take k (due_of time st.waiting.early)

  long_replies : length (flat wire_bytes (placed_replies st es)) ≡ length_for sh.s 5 1 * k
  long_replies = replies_length st (due_of time st.waiting.early) sh.s m.midway.holds.g_vec_places k hk

  long_all : length (flat wire_bytes (placed_replies st es ++ (w ∷ []))) ≡ length_for sh.s 5 1 * k + n
  long_all = ap length (flat_snoc wire_bytes (placed_replies st es) w) ∙ length-append (flat wire_bytes (placed_replies st es)) (wire_bytes w) ∙ ap₂ ◌+◌ long_replies hw

  pub releases_tight : length out₀ < length_for sh.s 5 1 * k + n → leaves 9 b₀ out₀ ≡ closes sh b₀ out₀ (done next (placed_replies st es ++ (w ∷ [])))
  releases_tight l = sym (closes_tight sh b₀ out₀ next (placed_replies st es ++ (w ∷ [])) (omega (arith, long_all)))

  pub releases_done : (at end : ℕ) {b₁ out₁ : List ℕ} (b₂ out₂ : List ℕ) → length_for sh.s 5 1 * k + n ≤ length out₀ → Released sh b₀ out₀ time k at b₁ out₁ → end ≡ at + n → out₂ ≡ splice out₁ at (wire_bytes w) → b₂ ≡ image sh next
      → left (Ok end) b₂ out₂ ≡ closes sh b₀ out₀ (done next (placed_replies st es ++ (w ∷ [])))
  releases_done at end {b₁} {out₁} b₂ out₂ l r e o i =
      let x = flat wire_bytes (placed_replies st es) in
      let f : flat wire_bytes (placed_replies st es ++ (w ∷ [])) ≡ x ++ wire_bytes w = flat_snoc wire_bytes (placed_replies st es) w in
      let a : at ≡ 0 + length_for sh.s 5 1 * k = omega (arith, r.end) in
      let g : out₂ ≡ splice out₀ 0 (x ++ wire_bytes w)
      = splice_next out₀ 0 (length_for sh.s 5 1 * k) x (wire_bytes w) out₁ out₂ (omega arith) long_replies r.replies (o ∙ ap (λ (z : ℕ). splice out₁ z (wire_bytes w)) a) in
      let s : end ≡ length (flat wire_bytes (placed_replies st es ++ (w ∷ []))) = omega (arith, r.end, long_all) in
      sym (closes_sent sh b₀ out₀ next (placed_replies st es ++ (w ∷ [])) (omega (arith, long_all)) ∙ rw (← s, f, ← g, ← i))

-- ---- the rules

module _ (sh : Shape) (st : State) where
  tells_none : (ds : List Entry) → length ds ≡ 0 → leader_tells sh st [] ds ≡ []
  unfolding leader_tells
  tells_none [] z = refl
  tells_none (d ∷ ds) z = absurd (omega arith)

  tells_first : (ds : List Entry) → (length ds ≡ 0 → ⊥) → leader_tells sh st [] ds ≡ unplaced_reply st (entry_of ds 0) ∷ []
  unfolding leader_tells
  tells_first [] f = absurd (f refl)
  tells_first (d ∷ ds) f = refl

module _ (sh : Shape) (st : State) (time : ℕ) (ds : List Entry) where
  -- no room for the first of the run
  pub leader_full : (run : List Entry) → (length run ≡ 0 → ⊥) → sh.c ≤ length st.logged.log → leader_releases sh st time ds run ≡ refused 8
  unfolding leader_releases pick
  leader_full run f l = rw (le-leb sh.c (length st.logged.log) l, ne_eqb (length run) 0 f)

  tells_log : (es : List Entry) → 0 < length es → leader_tells sh st es ds ≡ send_followers sh st 4 (st.logged.log ++ es) ∷ []
  unfolding leader_tells
  tells_log [] l = absurd (omega arith)
  tells_log (e ∷ es) l = refl

  -- some are released
  pub leader_some : (run : List Entry) → run ≡ take (length run) ds → (length run ≡ 0 → ⊥) → (n k : ℕ) → n ≡ length st.logged.log → n < sh.c → k ≡ min (length run) (sh.c - n)
      → leader_releases sh st time ds run ≡ done (released st time (n + k) (take k ds)) (placed_replies st (take k ds) ++ (send_followers sh st 4 (st.logged.log ++ take k ds) ∷ []))
  unfolding leader_releases pick
  leader_some run h f n k e l q =
      let g : fitting sh st run ≡ take k ds = fitting_is sh st ds run h n k e q in
      let c : length st.logged.log < sh.c = omega arith in
      let t : length (take k ds) ≡ k = length-take-le k ds (omega (arith, run_within sh st ds run h)) in
      let a : length (st.logged.log ++ take k ds) ≡ n + k = length-append st.logged.log (take k ds) ∙ omega arith in
      let p : 0 < length (take k ds) = positive run f n k l q t in
      rw (lt-leb sh.c (length st.logged.log) c, g, a, tells_log (take k ds) p)
    where
      positive : (run : List Entry) → (length run ≡ 0 → ⊥) → (n k : ℕ) → n < sh.c → k ≡ min (length run) (sh.c - n) → length (take k ds) ≡ k → 0 < length (take k ds)
      positive [] f n k l q t = absurd (f refl)
      positive (x ∷ xs) f n k l q t = omega arith

  -- the run is empty
  no_run : (n : ℕ) → n ≡ length st.logged.log → leader_releases sh st time ds [] ≡ done (released st time n []) (leader_tells sh st [] ds)
  unfolding leader_releases sends below
  no_run n e =
      let t : take {A = Entry} (sh.c - length st.logged.log) [] ≡ [] = take-nil (sh.c - length st.logged.log) in
      let a : length (st.logged.log ++ []) ≡ n = ap length (append-nil st.logged.log) ∙ sym e in
      pick_false (leb sh.c (length st.logged.log) && false) _ _ (and-false (leb sh.c (length st.logged.log))) ∙ rw (t, a)

  -- nothing is due, or the first due one is told of
  pub leader_none : length ds ≡ 0 → (n : ℕ) → n ≡ length st.logged.log → leader_releases sh st time ds [] ≡ done (released st time n []) []
  leader_none z n e = no_run n e ∙ ap (done (released st time n [])) (tells_none sh st ds z)

  pub leader_first : (length ds ≡ 0 → ⊥) → (n : ℕ) → n ≡ length st.logged.log → leader_releases sh st time ds [] ≡ done (released st time n []) (unplaced_reply st (entry_of ds 0) ∷ [])
  leader_first f n e = no_run n e ∙ ap (done (released st time n [])) (tells_first sh st ds f)

  -- a follower
  pub follower_full : (leb sh.c (length st.logged.log) && not (eqb (length ds) 0)) ≡ true → follower_releases sh st time ds ≡ refused 8
  unfolding follower_releases
  follower_full t = pick_true (leb sh.c (length st.logged.log) && not (eqb (length ds) 0)) _ _ t

  pub follower_some : (leb sh.c (length st.logged.log) && not (eqb (length ds) 0)) ≡ false → (n k : ℕ) → n ≡ length st.logged.log → k ≡ min (length ds) (sh.c - n)
      → follower_releases sh st time ds ≡ done (released st time st.logged.sync (take k ds)) (placed_replies st (take k ds) ++ (send_leader sh st 10 st.site.group (st.logged.sync ∷ []) [] ∷ []))
  unfolding follower_releases
  follower_some t n k e q =
      pick_false (leb sh.c (length st.logged.log) && not (eqb (length ds) 0)) _ _ t
      ∙ ap (λ (es : List Entry). done (released st time st.logged.sync es) (placed_replies st es ++ (send_leader sh st 10 st.site.group (st.logged.sync ∷ []) [] ∷ []))) (fitting_is sh st ds ds (all_first ds) n k e q)

-- ---- a leader

nothing : (xs : List Entry) → length xs ≡ 0 → xs ≡ []
nothing [] e = refl
nothing (x ∷ xs) e = absurd (omega arith)

module _ {sh : Shape} {b₀ : List ℕ} (m : Releasing sh b₀) (out₀ : List ℕ) (time n : ℕ) (hn : n ≡ length (state_of sh b₀).logged.log) where
  abbrev old : State
  old = state_of sh b₀

  abbrev ds : List Entry
  ds = due_of time old.waiting.early

  -- the state that a release of none leaves
  settled_none : (x : List ℕ) → x ≡ image sh (settled_at old time n) → x ≡ image sh (released old time n [])
  settled_none x e = e ∙ rw (append-nil old.logged.log, without_none old.waiting.early, notes.without_none old.waiting.notes)

  -- ---- whose run is empty
  pub waits_none : (due : ℕ) (x : List ℕ) → due ≡ length ds → due ≡ 0 → x ≡ image sh (settled_at old time n) → left (Ok 0) x out₀ ≡ closes sh b₀ out₀ (leader_releases sh old time ds [])
  waits_none due x e z i =
      sym (ap (closes sh b₀ out₀) (leader_none sh old time ds (sym e ∙ z) n hn) ∙ closes_quiet sh b₀ out₀ (released old time n []) ∙ ap (λ (y : List ℕ). quiet y out₀) (sym (settled_none x i)))

  module _ (due : ℕ) (e : due ≡ length ds) (f : due ≡ 0 → ⊥) where
    unplaced_long : length (wire_bytes (unplaced_reply old (entry_of ds 0))) ≡ length_for sh.s 5 1
    unfolding unplaced_reply pick row_of
    unplaced_long = sent_length sh.s old 5 255 1 _ _ m.midway.holds.g_vec_places refl refl

    told_first : leader_releases sh old time ds [] ≡ done (released old time n []) (unplaced_reply old (entry_of ds 0) ∷ [])
    told_first = leader_first sh old time ds (λ z. f (e ∙ z)) n hn

    some_waits : 0 < length ds
    some_waits = some_due due f e
      where
        some_due : (d : ℕ) → (d ≡ 0 → ⊥) → d ≡ length ds → 0 < length ds
        some_due zero g h = absurd (g refl)
        some_due (suc d) g h = omega arith

    pub waits_due : 0 < length old.waiting.early
    waits_due = omega (arith, some_waits, due_within time old.waiting.early)

    pub waits_tight : (a : ℕ) → a ≡ length_for sh.s 5 1 → length out₀ < a → leaves 9 b₀ out₀ ≡ closes sh b₀ out₀ (leader_releases sh old time ds [])
    waits_tight a q l = sym (ap (closes sh b₀ out₀) told_first ∙ closes_short sh b₀ out₀ (released old time n []) (unplaced_reply old (entry_of ds 0)) (omega (arith, unplaced_long)))

    pub waits_told : (a end : ℕ) (x out₁ : List ℕ) → a ≡ length_for sh.s 5 1 → a ≤ length out₀ → (end ≡ length_for sh.s 5 1) × (out₁ ≡ splice out₀ 0 (wire_bytes (unplaced_reply old (entry_of old.waiting.early 0)))) → x ≡ image sh (settled_at old time n)
        → left (Ok end) x out₁ ≡ closes sh b₀ out₀ (leader_releases sh old time ds [])
    waits_told a end x out₁ q l (u, t) i =
        let w = unplaced_reply old (entry_of ds 0) in
        let s : end ≡ length (wire_bytes w) = u ∙ sym unplaced_long in
        let v : out₁ ≡ splice out₀ 0 (wire_bytes w) = t ∙ ap (λ (d : Entry). splice out₀ 0 (wire_bytes (unplaced_reply old d))) (sym (due_at time old.waiting.early 0 some_waits)) in
        sym (ap (closes sh b₀ out₀) told_first ∙ closes_one sh b₀ out₀ (released old time n []) w (omega (arith, unplaced_long)) ∙ rw (← s, ← v, ← settled_none x i))

  -- ---- whose run is not
  abbrev run : List Entry
  run = leading (agreed sh old.waiting.notes) ds

  pub leader_empty : (r : ℕ) (x : Left) → r ≡ length run → r ≡ 0 → x ≡ closes sh b₀ out₀ (leader_releases sh old time ds []) → x ≡ closes sh b₀ out₀ (leader_releases sh old time ds run)
  leader_empty r x e z h = h ∙ ap (λ (xs : List Entry). closes sh b₀ out₀ (leader_releases sh old time ds xs)) (sym (nothing run (sym e ∙ z)))

  pub leader_shut : (r : ℕ) → r ≡ length run → (r ≡ 0 → ⊥) → sh.c ≤ n → leaves 8 b₀ out₀ ≡ closes sh b₀ out₀ (leader_releases sh old time ds run)
  leader_shut r e f l = sym (ap (closes sh b₀ out₀) (leader_full sh old time ds run (λ z. f (e ∙ z)) (omega arith)) ∙ closes_refused sh b₀ out₀ 8)

  module _ (r k a z : ℕ) (e : r ≡ length run) (f : r ≡ 0 → ⊥) (l : n < sh.c) (q : k ≡ min r (sh.c - n)) (ha : a ≡ length_for sh.s 5 1 * k) (hz : z ≡ length_for sh.s 4 (n + k)) where
    abbrev sync : Wire
    sync = send_followers sh old 4 (old.logged.log ++ take k ds)

    within : k ≤ length ds
    within = omega (arith, run_within sh old ds run (run_first (agreed sh old.waiting.notes) ds))

    made : leader_releases sh old time ds run ≡ done (released old time (n + k) (take k ds)) (placed_replies old (take k ds) ++ (sync ∷ []))
    made = leader_some sh old time ds run (run_first (agreed sh old.waiting.notes) ds) (λ y. f (e ∙ y)) n k hn l (q ∙ ap (λ (x : ℕ). min x (sh.c - n)) e)

    long_log : length (old.logged.log ++ take k ds) ≡ n + k
    long_log = length-append old.logged.log (take k ds) ∙ ap₂ ◌+◌ (sym hn) (length-take-le k ds within)

    sync_long : length (wire_bytes sync) ≡ z
    unfolding pick row_of
    sync_long = sent_length sh.s old 4 _ _ [] (old.logged.log ++ take k ds) m.midway.holds.g_vec_places refl refl ∙ ap (length_for sh.s 4) long_log ∙ sym hz

    pub leader_tight : length out₀ < a + z → leaves 9 b₀ out₀ ≡ closes sh b₀ out₀ (leader_releases sh old time ds run)
    leader_tight t = releases_tight m out₀ time k within sync z sync_long (released old time (n + k) (take k ds)) (omega arith) ∙ ap (closes sh b₀ out₀) (sym made)

    module _ (t : a + z ≤ length out₀) where
      pub leader_asks : Releasing sh b₀ × (n ≡ length old.logged.log) × (k ≤ length ds) × (n + k ≤ sh.c) × (length_for sh.s 5 1 * k ≤ length out₀)
      leader_asks = (m, hn, within, omega arith, omega arith)

      module _ (at : ℕ) {b₁ out₁ : List ℕ} (w : Released sh b₀ out₀ time k at b₁ out₁) where
        now_log : length (state_of sh b₁).logged.log ≡ n + k
        now_log = ap (λ (x : State). length x.logged.log) w.reached.is ∙ long_log

        pub leader_log : Releasing sh b₁ × (at + length_for sh.s 4 (length (state_of sh b₁).logged.log) ≤ length out₁)
        leader_log = let y : length_for sh.s 4 (length (state_of sh b₁).logged.log) ≡ z = ap (length_for sh.s 4) now_log ∙ sym hz in (w.reached.releasing, omega (arith, w.end, w.long))

        pub leader_done : (end : ℕ) (b₂ out₂ : List ℕ) → (end ≡ at + length_for sh.s 4 (length (state_of sh b₁).logged.log)) × (out₂ ≡ splice out₁ at (wire_bytes (send_followers sh (state_of sh b₁) 4 (state_of sh b₁).logged.log))) → b₂ ≡ image sh (settled_at (state_of sh b₁) time (n + k))
            → left (Ok end) b₂ out₂ ≡ closes sh b₀ out₀ (leader_releases sh old time ds run)
        leader_done end b₂ out₂ (u, v) i =
            let y : length_for sh.s 4 (length (state_of sh b₁).logged.log) ≡ z = ap (length_for sh.s 4) now_log ∙ sym hz in
            releases_done m out₀ time k within sync z sync_long (released old time (n + k) (take k ds)) at end b₂ out₂ (omega arith) w (omega arith)
            (v ∙ ap (λ (x : State). splice out₁ at (wire_bytes (send_followers sh x 4 x.logged.log))) w.reached.is)
            (i ∙ ap (λ (x : State). image sh (settled_at x time (n + k))) w.reached.is)
            ∙ ap (closes sh b₀ out₀) (sym made)

  -- ---- a follower
  module _ (due : ℕ) (e : due ≡ length ds) where
    full_is : (leb sh.c n && not (eqb due 0)) ≡ (leb sh.c (length old.logged.log) && not (eqb (length ds) 0))
    full_is = rw (hn, e)

    pub follower_shut : (leb sh.c n && not (eqb due 0)) ≡ true → leaves 8 b₀ out₀ ≡ closes sh b₀ out₀ (follower_releases sh old time ds)
    follower_shut t = sym (ap (closes sh b₀ out₀) (follower_full sh old time ds (sym full_is ∙ t)) ∙ closes_refused sh b₀ out₀ 8)

    module _ (k a z : ℕ) (l : n ≤ sh.c) (c : (leb sh.c n && not (eqb due 0)) ≡ false) (q : k ≡ min due (sh.c - n)) (ha : a ≡ length_for sh.s 5 1 * k) (hz : z ≡ length_for sh.s 10 0) where
      abbrev status : Wire
      status = send_leader sh old 10 old.site.group (old.logged.sync ∷ []) []

      inside : k ≤ length ds
      inside = omega arith

      sent : follower_releases sh old time ds ≡ done (released old time old.logged.sync (take k ds)) (placed_replies old (take k ds) ++ (status ∷ []))
      sent = follower_some sh old time ds (sym full_is ∙ c) n k hn (q ∙ ap (λ (x : ℕ). min x (sh.c - n)) e)

      status_long : length (wire_bytes status) ≡ z
      unfolding pick row_of
      status_long = sent_length sh.s old 10 _ _ (old.logged.sync ∷ []) [] m.midway.holds.g_vec_places refl refl ∙ sym hz

      pub follower_tight : length out₀ < a + z → leaves 9 b₀ out₀ ≡ closes sh b₀ out₀ (follower_releases sh old time ds)
      follower_tight t = releases_tight m out₀ time k inside status z status_long (released old time old.logged.sync (take k ds)) (omega arith) ∙ ap (closes sh b₀ out₀) (sym sent)

      module _ (t : a + z ≤ length out₀) where
        pub follower_asks : Releasing sh b₀ × (n ≡ length old.logged.log) × (k ≤ length ds) × (n + k ≤ sh.c) × (length_for sh.s 5 1 * k ≤ length out₀)
        follower_asks = (m, hn, inside, omega arith, omega arith)

        module _ (at : ℕ) {b₁ out₁ : List ℕ} (w : Released sh b₀ out₀ time k at b₁ out₁) where
          pub follower_tells : Releasing sh b₁ × (at + length_for sh.s 10 0 ≤ length out₁)
          follower_tells = (w.reached.releasing, omega (arith, w.end, w.long))

          pub follower_done : (end sync : ℕ) (b₂ out₂ : List ℕ) → (end ≡ at + length_for sh.s 10 0) × (out₂ ≡ splice out₁ at (wire_bytes (send_leader sh (state_of sh b₁) 10 (state_of sh b₁).site.group ((state_of sh b₁).logged.sync ∷ []) []))) → sync ≡ num b₁ 24 8 → b₂ ≡ image sh (settled_at (state_of sh b₁) time sync)
              → left (Ok end) b₂ out₂ ≡ closes sh b₀ out₀ (follower_releases sh old time ds)
          follower_done end sync b₂ out₂ (u, v) y i =
              let s : sync ≡ old.logged.sync = y ∙ sync_in w.reached.releasing ∙ ap (λ (x : State). x.logged.sync) w.reached.is in
              releases_done m out₀ time k inside status z status_long (released old time old.logged.sync (take k ds)) at end b₂ out₂ (omega arith) w (omega arith)
              (v ∙ ap (λ (x : State). splice out₁ at (wire_bytes (send_leader sh x 10 x.site.group (x.logged.sync ∷ []) []))) w.reached.is)
              (i ∙ ap (λ (x : ℕ). image sh (settled_at (state_of sh b₁) time x)) s ∙ ap (λ (x : State). image sh (settled_at x time old.logged.sync)) w.reached.is)
              ∙ ap (closes sh b₀ out₀) (sym sent)
