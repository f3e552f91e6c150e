-- A site's turn, and what is remembered of the run after it. Assumes nothing.
use Prim.Native.Nat.{ℕ, suc, ◌≤◌, ◌<◌}
use native.Mathlib.Nat.{le_of_eq}
use native.Mathlib.Decide.{dec_le}
use mathlib.Core.Path.{◌≡◌, refl, sym, subst, subst₂, ◌∙◌, ap}
use mathlib.Core.Logic.{◌⊎◌, inl, inr, ◌≢◌}
use mathlib.Core.List.Memᴰ
use mathlib.Core.List.{List, Memᴰ}
use native.Mathlib.Omega.{arith}
use lib.ListN.{length, take}
use lib.Seq.{take-length}
use lib.Dec.{ltb, eqb, ltb→lt, eqb→eq, nltb→le}
use Rattle.rules.specs.Wire.{Wire}
use Rattle.rules.specs.State.{State}
use Rattle.rules.specs.declared.Entry.{Entry}
use Rattle.rules.proofs.Run.{Config, upd, put}
use Rattle.rules.proofs.RunForms.{by_test, neqb_to_ne, upd_same}
use Rattle.rules.proofs.RunPast.{Plan, chief, Past, Live, seen_by, led_by, told}
use Rattle.rules.proofs.RunInvariant.{Extends, extends_refl, Later, Vouched, SiteOk, MsgOk, Based, Now, Inv, passed_on, based_on, site_on, msg_on}

-- by the cases of an update
upd_cases : (Q : State → Type 0) (f : ℕ → State) (i : ℕ) (s : State) (j : ℕ) → (i ≡ j → Q s) → (i ≢ j → Q (f j)) → Q (upd f i s j)
unfolding upd
upd_cases Q f i s j h k = by_test Q (eqb i j) (λ t. h (eqb→eq i j t)) (λ t. k (neqb_to_ne i j t))

-- either it is another number or it is this one
pub same_or : (i j : ℕ) → (i ≡ j) ⊎ (i ≢ j)
same_or i j = go (dec_le i j) (dec_le j i)
  where
    go : Dec (i ≤ j) → Dec (j ≤ i) → (i ≡ j) ⊎ (i ≢ j)
    go (yes a) (yes b) = inl (omega arith)
    go (no a) b = inr (λ e. omega arith)
    go (yes a) (no b) = inr (λ e. omega arith)

-- a turn keeps the last normal gView: the sync point does not fall, and stays if the site has left that view; a leader's log goes on
pub record Stays (P : Plan) (i : ℕ) (s u : State) : Type 0 where
  pub normal : u.view.normal ≡ s.view.normal
  pub sync : s.logged.sync ≤ u.logged.sync
  pub shut : s.view.normal < s.view.g_view → u.logged.sync ≡ s.logged.sync
  pub lead : s.view.normal ≤ P.top → i ≡ chief P s.view.normal → Extends s.logged.log u.logged.log

-- or it starts a view, in status 1; the commit point does not rise then, and the log is synced
pub record Moves (s u : State) : Type 0 where
  pub later : s.view.normal < u.view.normal
  pub view : s.view.g_view ≤ u.view.normal
  pub status : u.view.status ≡ 1
  pub commit : u.logged.commit ≤ s.logged.commit
  pub sync : u.logged.sync ≡ length u.logged.log

-- a site that starts view w after another did
pub record Joins (P : Plan) (G : Past) (i w : ℕ) : Type 0 where
  pub from : ℕ
  pub seen : 0 < G.seen from w
  pub other : w ≤ P.top → i ≢ chief P w

pos_le : {a b : ℕ} → a ≡ 0 → a ≤ b
pos_le e = omega arith

module _ (P : Plan) (C : Config) (G : Past) (inv : Inv P C G) (i : ℕ) (u : State) (ms : List Wire) where
  abbrev D : Config
  D = put C i u ms

  abbrev H : Past
  H = told P G D

  abbrev before : State
  before = C.sites i

  pub at_me : D.sites i ≡ u
  at_me = upd_same C.sites i u

  pub at_other : (j : ℕ) → i ≢ j → D.sites j ≡ C.sites j
  at_other j n = upd_cases (λ (x : State). x ≡ C.sites j) C.sites i u j (λ e. absurd (n e)) (λ _. refl)

  -- of other sites nothing is new
  seen_other : (j v : ℕ) → i ≢ j → H.seen j v ≡ G.seen j v
  unfolding told seen_by
  seen_other j v n =
      ap (λ (x : State). seen_by x v (G.seen j v)) (at_other j n)
      ∙ by_test (λ (x : ℕ). x ≡ G.seen j v) (eqb (C.sites j).view.normal v)
      (λ t. sym (inv.now.seen j) ∙ ap (G.seen j) (eqb→eq _ _ t)) (λ _. refl)

  pub seen_here : (v : ℕ) → u.view.normal ≡ v → H.seen i v ≡ suc u.logged.sync
  unfolding told seen_by
  seen_here v e =
      ap (λ (x : State). seen_by x v (G.seen i v)) at_me
      ∙ by_test (λ (x : ℕ). x ≡ suc u.logged.sync) (eqb u.view.normal v) (λ _. refl) (λ t. absurd (neqb_to_ne _ _ t e))

  pub seen_there : (v : ℕ) → u.view.normal ≢ v → H.seen i v ≡ G.seen i v
  unfolding told seen_by
  seen_there v n =
      ap (λ (x : State). seen_by x v (G.seen i v)) at_me
      ∙ by_test (λ (x : ℕ). x ≡ G.seen i v) (eqb u.view.normal v) (λ t. absurd (n (eqb→eq _ _ t))) (λ _. refl)

  pub view_here : H.view i ≡ u.view.g_view
  unfolding told
  view_here = ap (λ (x : State). x.view.g_view) at_me

  led_other : (v : ℕ) → i ≢ chief P v → H.lead v ≡ G.lead v
  unfolding told led_by
  led_other v n =
      ap (λ (x : State). led_by x v (G.lead v)) (at_other (chief P v) n)
      ∙ by_test (λ (x : List Entry). x ≡ G.lead v) (eqb (C.sites (chief P v)).view.normal v)
      (λ t. sym (inv.now.led v (eqb→eq _ _ t))) (λ _. refl)

  at_chief : (v : ℕ) → i ≡ chief P v → D.sites (chief P v) ≡ u
  at_chief v e = subst (λ (j : ℕ). D.sites j ≡ u) e at_me

  pub led_here : (v : ℕ) → i ≡ chief P v → u.view.normal ≡ v → H.lead v ≡ u.logged.log
  unfolding told led_by
  led_here v e n =
      ap (λ (x : State). led_by x v (G.lead v)) (at_chief v e)
      ∙ by_test (λ (x : List Entry). x ≡ u.logged.log) (eqb u.view.normal v) (λ _. refl) (λ t. absurd (neqb_to_ne _ _ t n))

  led_there : (v : ℕ) → i ≡ chief P v → u.view.normal ≢ v → H.lead v ≡ G.lead v
  unfolding told led_by
  led_there v e n =
      ap (λ (x : State). led_by x v (G.lead v)) (at_chief v e)
      ∙ by_test (λ (x : List Entry). x ≡ G.lead v) (eqb u.view.normal v) (λ t. absurd (n (eqb→eq _ _ t))) (λ _. refl)

  base_live : (v : ℕ) → Live P G v → H.base v ≡ G.base v
  unfolding told
  base_live v l = by_test (λ (x : ℕ). x ≡ G.base v) (ltb 0 (G.seen (chief P v) v)) (λ _. refl) (λ t. absurd (let z : G.seen (chief P v) v ≤ 0 = nltb→le _ _ t in omega arith))

  pub base_new : (v : ℕ) → G.seen (chief P v) v ≡ 0 → H.base v ≡ length (H.lead v)
  unfolding told
  base_new v e = by_test (λ (x : ℕ). x ≡ length (H.lead v)) (ltb 0 (G.seen (chief P v) v)) (λ t. absurd (let z : 0 < G.seen (chief P v) v = ltb→lt _ _ t in omega arith)) (λ _. refl)

  -- a view that the site has not come to
  pub seen_never : (v : ℕ) → before.view.normal < v → G.seen i v ≡ 0
  seen_never v h = (inv.site i).fresh v h

  not_live : (v : ℕ) → i ≡ chief P v → before.view.normal < v → Live P G v → ⊥
  not_live v e h l = let z : G.seen (chief P v) v ≡ 0 = subst (λ (j : ℕ). G.seen j v ≡ 0) e (seen_never v h) in omega arith

  now_seen : G.seen i before.view.normal ≡ suc before.logged.sync
  now_seen = inv.now.seen i

  more_me : Stays P i before u ⊎ Moves before u → (v : ℕ) → G.seen i v ≤ H.seen i v
  more_me (inl g) v = go (same_or u.view.normal v)
    where
      go : (u.view.normal ≡ v) ⊎ (u.view.normal ≢ v) → G.seen i v ≤ H.seen i v
      go (inl e) =
          let a : G.seen i v ≡ suc before.logged.sync = subst (λ (x : ℕ). G.seen i x ≡ suc before.logged.sync) (sym g.normal ∙ e) now_seen in
          let b : H.seen i v ≡ suc u.logged.sync = seen_here v e in
          omega (arith, g.sync)
      go (inr n) = le_of_eq (sym (seen_there v n))
  more_me (inr g) v = go (same_or u.view.normal v)
    where
      go : (u.view.normal ≡ v) ⊎ (u.view.normal ≢ v) → G.seen i v ≤ H.seen i v
      go (inl e) = pos_le (seen_never v (subst (λ (x : ℕ). before.view.normal < x) e g.later))
      go (inr n) = le_of_eq (sym (seen_there v n))

  shut_me : Stays P i before u ⊎ Moves before u → (v : ℕ) → v < before.view.g_view → H.seen i v ≡ G.seen i v
  shut_me (inl g) v h = go (same_or u.view.normal v)
    where
      go : (u.view.normal ≡ v) ⊎ (u.view.normal ≢ v) → H.seen i v ≡ G.seen i v
      go (inl e) =
          let n : before.view.normal ≡ v = sym g.normal ∙ e in
          let a : G.seen i v ≡ suc before.logged.sync = subst (λ (x : ℕ). G.seen i x ≡ suc before.logged.sync) n now_seen in
          let b : H.seen i v ≡ suc u.logged.sync = seen_here v e in
          let c : u.logged.sync ≡ before.logged.sync = g.shut (omega arith) in
          b ∙ ap (λ (x : ℕ). suc x) c ∙ sym a
      go (inr n) = seen_there v n
  shut_me (inr g) v h = seen_there v (λ e. omega (arith, g.view))

  lead_me : Stays P i before u ⊎ Moves before u → (v : ℕ) → v ≤ P.top → i ≡ chief P v → Live P G v → Extends (G.lead v) (H.lead v)
  lead_me (inl g) v t c l = go (same_or u.view.normal v)
    where
      go : (u.view.normal ≡ v) ⊎ (u.view.normal ≢ v) → Extends (G.lead v) (H.lead v)
      go (inl e) =
          let n : before.view.normal ≡ v = sym g.normal ∙ e in
          let a : G.lead v ≡ before.logged.log = inv.now.led v (subst (λ (j : ℕ). (C.sites j).view.normal ≡ v) c n) ∙ ap (λ (j : ℕ). (C.sites j).logged.log) (sym c) in
          subst₂ Extends (sym a) (sym (led_here v c e)) (g.lead (subst (λ (x : ℕ). x ≤ P.top) (sym n) t) (subst (λ (x : ℕ). i ≡ chief P x) (sym n) c))
      go (inr n) = rw (led_there v c n) (extends_refl _)
  lead_me (inr g) v t c l = go (same_or u.view.normal v)
    where
      go : (u.view.normal ≡ v) ⊎ (u.view.normal ≢ v) → Extends (G.lead v) (H.lead v)
      go (inl e) = absurd (not_live v c (subst (λ (x : ℕ). before.view.normal < x) e g.later) l)
      go (inr n) = rw (led_there v c n) (extends_refl _)

  pub later_put : before.view.g_view ≤ u.view.g_view → Stays P i before u ⊎ Moves before u → Later P G H
  unfolding told
  later_put h g =
      record {
        view = λ r. upd_cases (λ (x : State). G.view r ≤ x.view.g_view) C.sites i u r (λ e. rw (inv.now.view r, ← e) h) (λ _. le_of_eq (inv.now.view r));
        more = λ r v. more r v (same_or i r);
        shut = λ r v l. shut r v (rw (inv.now.view r) at l) (same_or i r);
        lead = λ v t l. lead v t l (same_or i (chief P v));
        base = λ v t l. base_live v l;
      }
    where
      more : (r v : ℕ) → (i ≡ r) ⊎ (i ≢ r) → G.seen r v ≤ H.seen r v
      more r v (inl e) = subst (λ (j : ℕ). G.seen j v ≤ H.seen j v) e (more_me g v)
      more r v (inr n) = le_of_eq (sym (seen_other r v n))

      shut : (r v : ℕ) → v < (C.sites r).view.g_view → (i ≡ r) ⊎ (i ≢ r) → H.seen r v ≡ G.seen r v
      shut r v l (inl e) = subst (λ (j : ℕ). H.seen j v ≡ G.seen j v) e (shut_me g v (subst (λ (j : ℕ). v < (C.sites j).view.g_view) (sym e) l))
      shut r v l (inr n) = seen_other r v n

      lead : (v : ℕ) → v ≤ P.top → Live P G v → (i ≡ chief P v) ⊎ (i ≢ chief P v) → Extends (G.lead v) (H.lead v)
      lead v t l (inl e) = lead_me g v t e l
      lead v t l (inr n) = rw (led_other v n) (extends_refl _)

  -- what the turn has to show
  pub record Keeps : Type 0 where
    pub view : before.view.g_view ≤ u.view.g_view
    pub goes : Stays P i before u ⊎ Moves before u
    pub site : SiteOk P H i u
    pub msgs : (m : Wire) → Memᴰ m ms → MsgOk P H m
    pub begun : P.shape.s ≡ 1 → Moves before u → Vouched P H u.view.normal u.logged.log ⊎ Joins P G i u.view.normal

  now_told : Now P D H
  unfolding told seen_by led_by
  now_told =
      record {
        view = λ r. refl;
        seen = λ r.
            by_test (λ (x : ℕ). x ≡ suc (D.sites r).logged.sync) (eqb (D.sites r).view.normal (D.sites r).view.normal) (λ _. refl)
            (λ t. absurd (neqb_to_ne (D.sites r).view.normal (D.sites r).view.normal t refl));
        led = λ v e.
            by_test (λ (x : List Entry). x ≡ (D.sites (chief P v)).logged.log) (eqb (D.sites (chief P v)).view.normal v) (λ _. refl)
            (λ t. absurd (neqb_to_ne _ _ t e));
      }

  module _ (f : Keeps) where
    pub kept_later : Later P G H
    kept_later = later_put f.view f.goes

    -- a view that this turn starts
    based_new : (w : ℕ) → w ≤ P.top → i ≡ chief P w → G.seen (chief P w) w ≡ 0 → u.view.normal ≡ w → Based P H w
    based_new w t c z e = record { fits = le_of_eq b; made = λ one p. made one f.goes }
      where
        b : H.base w ≡ length (H.lead w)
        b = base_new w z

        rebuilt : Vouched P H u.view.normal u.logged.log ⊎ Joins P G i u.view.normal → Vouched P H w (take (H.base w) (H.lead w))
        rebuilt (inl k) =
            subst (Vouched P H w) (sym (led_here w c e) ∙ sym (take-length (H.lead w)) ∙ ap (λ (x : ℕ). take x (H.lead w)) (sym b))
            (subst (λ (x : ℕ). Vouched P H x u.logged.log) e k)
        rebuilt (inr k) = absurd (k.other (subst (λ (x : ℕ). x ≤ P.top) (sym e) t) (subst (λ (x : ℕ). i ≡ chief P x) (sym e) c))

        made : P.shape.s ≡ 1 → Stays P i before u ⊎ Moves before u → Vouched P H w (take (H.base w) (H.lead w))
        made one (inl g) =
            let y : G.seen i w ≡ suc before.logged.sync = subst (λ (x : ℕ). G.seen i x ≡ suc before.logged.sync) (sym g.normal ∙ e) now_seen in
            let x : G.seen i w ≡ 0 = subst (λ (j : ℕ). G.seen j w ≡ 0) (sym c) z in
            absurd (omega arith)
        made one (inr g) = rebuilt (f.begun one g)

    based : (w : ℕ) → w ≤ P.top → Live P H w → Based P H w
    based w t l = go (same_or i (chief P w)) (dec_le 1 (G.seen (chief P w) w)) (same_or u.view.normal w)
      where
        go : (i ≡ chief P w) ⊎ (i ≢ chief P w) → Dec (1 ≤ G.seen (chief P w) w) → (u.view.normal ≡ w) ⊎ (u.view.normal ≢ w) → Based P H w
        go c (yes a) m = based_on (kept_later) w t a (inv.based w t a)
        go (inr c) (no a) m = absurd (let z : H.seen (chief P w) w ≡ G.seen (chief P w) w = seen_other (chief P w) w c in omega arith)
        go (inl c) (no a) (inl m) = based_new w t c (omega arith) m
        go (inl c) (no a) (inr m) =
            absurd (let z : H.seen (chief P w) w ≡ G.seen (chief P w) w = subst (λ (j : ℕ). H.seen j w ≡ G.seen j w) c (seen_there w m) in omega arith)

    -- then the invariant holds after it
    pub kept_inv : Inv P D H
    kept_inv =
        record {
          now = now_told;
          site = λ j.
              upd_cases (λ (x : State). SiteOk P H j x) C.sites i u j (λ e. subst (λ (x : ℕ). SiteOk P H x u) e f.site)
              (λ n. site_on (kept_later) (λ v h. seen_other j v n ∙ (inv.site j).fresh v h) (inv.site j));
          msg = λ m p. sent m (Memᴰ.append_cases ms p);
          based = based;
          zero = passed_on (kept_later) 0 0 inv.zero;
        }
      where
        sent : (m : Wire) → Memᴰ m ms ⊎ Memᴰ m C.sent → MsgOk P H m
        sent m (inl p) = f.msgs m p
        sent m (inr p) = msg_on (kept_later) m (inv.msg m p)
