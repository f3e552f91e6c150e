-- The ways through the call that orders an older state. Assumes nothing.
use Prim.Native.Nat.{ℕ, ◌-◌}
use mathlib.Core.Path.{◌≡◌, refl, sym, ap, ◌∙◌}
use mathlib.Core.Bool.{Bool, true, false, not, true≢false, and-false}
use mathlib.Core.List.{List, [], ◌++◌}
use native.Mathlib.Omega.{arith}
use lib.ListN.{length, take, drop}
use lib.Dec.{eqb}
use borrow.Author.Tests.{not-true}
use Rattle.rules.specs.Choice.{pick}
use Rattle.rules.specs.Group.{shape_fits}
use Rattle.rules.specs.Entry.{ordered}
use Rattle.rules.specs.State.{in_order}
use Rattle.rules.specs.Image.{state_length, table_at, state_of, orderable, at_early, at_late}
use Rattle.rules.specs.Bytes.{leaves, order_bytes}
use Rattle.rules.specs.declared.Entry.{Entry}
use Rattle.rules.specs.declared.Shape.{Shape}
use Rattle.rules.proofs.Order.{perm_all, perm_back, ordered_perm, ordered_length}
use Rattle.rules.proofs.Image.{StateFits, fits_waiting, image_length}
use Rattle.rules.proofs.Tables.{TableFits}
use Rattle.rules.proofs.Good.{good_state}
use Rattle.rules.proofs.InOrder.{orderable_is}
use Rattle.entries.specs.Table.{Holds, Table}
use Rattle.entries.proofs.Table.{is_table, and_then}
use Rattle.places.specs.Layout.{start_of, length_for, Midway}
use Rattle.places.proofs.Sections.{fits}
use Rattle.places.proofs.Midway.{early_here, early_comes}

-- bytes of another length than a state of these sizes has
pub wrong_length : (sh : Shape) (b : List ℕ) (r : Bool) → r ≡ eqb (length b) (length_for sh) → not r ≡ true → false ≡ orderable sh b
unfolding length_for pick orderable
wrong_length sh b r e h = go (shape_fits sh) refl
  where
    go : (f : Bool) → shape_fits sh ≡ f → false ≡ orderable sh b
    go false g = rw g
    go true g = let k : eqb (length b) (state_length sh) ≡ false = rw g at (sym e ∙ not-true r h) in simp (k, and-false)

-- bytes that are refused
pub not_orderable : (sh : Shape) (b : List ℕ) (g : Bool) → g ≡ orderable sh b → not g ≡ true → leaves 1 b [] ≡ order_bytes sh b
unfolding order_bytes pick
not_orderable sh b true e f = absurd (true≢false (sym f))
not_orderable sh b false e f = rw (sym e)

pub is_orderable : (sh : Shape) (b : List ℕ) (g : Bool) → g ≡ orderable sh b → not g ≡ false → orderable sh b ≡ true
is_orderable sh b true e f = sym e
is_orderable sh b false e f = absurd (true≢false f)

module _ (sh : Shape) (b : List ℕ) (e : orderable sh b ≡ true) where
  -- what fits its bytes with early in order does without
  held : StateFits sh (state_of sh b)
  held =
      let o = orderable_is sh b e in
      let st = state_of sh b in
      let f = good_state sh o.fits (in_order st) o.good in
      let early : TableFits sh.c st.waiting.early
      = record {
        room = omega (arith, f.early.room, ordered_length st.waiting.early);
        counted = f.early.counted;
        each = perm_all _ (perm_back (ordered_perm st.waiting.early)) f.early.each;
      } in
      fits_waiting st.waiting.early st.waiting.late st.waiting.notes f early f.late f.notes

  pub order_midway : Midway sh (state_of sh b) b
  order_midway =
      let o = orderable_is sh b e in
      record { fits = fits sh o.fits; holds = held; bytes = sym o.bytes; size = ap length (sym o.bytes) ∙ image_length sh (state_of sh b) held }

  module _ (at end : ℕ) (p : at ≡ start_of sh at_early) (q : end ≡ start_of sh at_late) where
    pub early_lent : Table sh.c (take (end - at) (drop at b))
    early_lent = is_table sh.c _ _ (early_here order_midway at end p q)

    pub early_ordered : (x : List ℕ) → Holds sh.c (ordered (table_at sh.c (take (end - at) (drop at b)) 0)) x
        → record { refused = false; number = 0; offset = 0; sent = 0; state = take at b ++ (x ++ drop (end - at) (drop at b)); out = [] } ≡ order_bytes sh b
    unfolding order_bytes pick
    early_ordered x h =
        let k : Holds sh.c (ordered (state_of sh b).waiting.early) x = and_then sh.c _ _ (early_here order_midway at end p q) (λ (es : List Entry). ordered es) x h in
        let m = early_comes order_midway at end (ordered (state_of sh b).waiting.early) k p q refl in
        rw e (ap (λ (y : List ℕ). record { refused = false; number = 0; offset = 0; sent = 0; state = y; out = [] }) m.bytes)
