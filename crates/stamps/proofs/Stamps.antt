-- The timestamp that a leader gives. Assumes nothing.
use Prim.Native.Nat.{ℕ, ◌+◌, ◌≤◌}
use mathlib.Core.Path.{◌≡◌, sym, ap, ◌∙◌}
use mathlib.Core.Bool.{Bool, true, false}
use mathlib.Core.List.{List}
use native.Mathlib.Numerals.{add-one}
use Rattle.rules.specs.Log.{last_of, last_stamp, follows_last, leader_stamp, raised}
use Rattle.rules.specs.Entry.{latest, stamped, before}
use Rattle.rules.specs.Image.{state_of}
use Rattle.rules.specs.declared.Entry.{Entry}
use Rattle.rules.specs.declared.Shape.{Shape}
use Rattle.rules.proofs.Choice.{pick_true, pick_false}
use Rattle.rules.proofs.Logs.{last_fits}
use Rattle.rules.proofs.Conjuncts.{good_is}
use Rattle.places.specs.Layout.{Stands}

-- the last timestamp of a good state's log is at most the latest
pub last_low : (sh : Shape) (b : List ℕ) → Stands sh (state_of sh b) b → (last : Entry) → last ≡ last_of (state_of sh b).logged.log → last.stamp ≤ latest
last_low sh b s last q =
    let st = state_of sh b in
    rw q (last_fits sh.s st.site.group st.logged.log (good_is sh st s.good).log)

module _ (es : List Entry) (e last : Entry) (q : last ≡ last_of es) (t : Bool) (f : t ≡ before last e) where
  follows_is : t ≡ follows_last es e
  follows_is = f ∙ ap (λ (x : Entry). before x e) q

  -- due, where that places it after the last
  pub raised_due : t ≡ true → e ≡ raised es e
  unfolding leader_stamp
  raised_due h = sym (ap (λ (x : ℕ). stamped x e) (pick_true (follows_last es e) e.stamp _ (sym follows_is ∙ h)))

  -- and otherwise the last timestamp plus one
  pub raised_lifted : t ≡ false → (y : Entry) → y ≡ stamped (last.stamp + 1) e → y ≡ raised es e
  unfolding leader_stamp
  raised_lifted h y u =
      u ∙ rw (q, add-one (last_stamp es)) (sym (ap (λ (x : ℕ). stamped x e) (pick_false (follows_last es e) e.stamp _ (sym follows_is ∙ h))))
