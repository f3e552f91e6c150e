-- The ways through the handler of kind 9. Assumes nothing.
use Prim.Native.Nat.{ℕ, ◌+◌, ◌*◌, ◌≤◌, ◌<◌}
use mathlib.Core.Path.{◌≡◌, sym, ap, ◌∙◌}
use mathlib.Core.List.{List, []}
use native.Mathlib.Omega.{arith}
use lib.ListN.{length}
use mathlib.Core.Bool.{true, false}
use lib.Dec.{leb}
use borrow.Author.Tests.{le-leb, lt-leb}
use Rattle.octets.specs.Bytes.{num, items}
use Rattle.rules.specs.Choice.{any}
use Rattle.rules.specs.Wire.{Wire, tag_of, header_in}
use Rattle.rules.specs.Kind.{bare, known, row_of}
use Rattle.rules.specs.Read.{wire_in, entries_at, length_for, entry_at}
use Rattle.rules.specs.State.{State}
use Rattle.rules.specs.Image.{image, state_of}
use Rattle.rules.specs.Step.{refused, done, started, on_start_view}
use Rattle.rules.specs.Bytes.{leaves}
use Rattle.rules.specs.declared.Entry.{Entry}
use Rattle.rules.specs.declared.Header.{Header}
use Rattle.rules.specs.declared.Shape.{Shape}
use Rattle.rules.specs.declared.Message.{Message}
use Rattle.rules.specs.declared.Message.TheVariants.{StartView}
use Rattle.rules.proofs.Choice.{pick_true, pick_false}
use Rattle.handler.specs.Handler.{Ready, handled}
use Rattle.handler.proofs.Told.{Told, told_length, told_entries, told_count, ready_told}
use Rattle.handler.proofs.Closes.{quiet}
use Rattle.handler.proofs.Ways.{refuses, keeps}
use Rattle.views.specs.Views.{views_of}
use Rattle.changes.proofs.Said.{view_said, views_said, views_stand}

-- ---- the rule, by the number of entries

module _ (sh : Shape) (st : State) (w : Wire) where
  many : sh.c < length w.entries → on_start_view sh st w ≡ refused 8
  unfolding on_start_view
  many h = pick_false (leb (length w.entries) sh.c) _ _ (lt-leb (length w.entries) sh.c h)

  few : (view : ℕ) (g_vec : List ℕ) (es : List Entry) → w.view ≡ view → w.g_vec ≡ g_vec → w.entries ≡ es → length es ≤ sh.c → on_start_view sh st w ≡ done (started sh st view g_vec es) []
  unfolding on_start_view
  few view g_vec es v g e h =
      let k : length w.entries ≤ sh.c = rw e h in
      pick_true (leb (length w.entries) sh.c) _ _ (le-leb (length w.entries) sh.c k) ∙ rw (v, g, e)

-- ---- the ways

module _ (sh : Shape) (b msg out : List ℕ) (m : Message) (h : Header) (r : Ready sh b m msg) (e : m ≡ StartView h) where
  abbrev st : State
  st = state_of sh b

  abbrev w : Wire
  w = wire_in sh.s msg

  kind_known : known (tag_of m) ≡ true
  unfolding any
  kind_known = ap (λ (x : Message). known (tag_of x)) e

  kind_views : bare (tag_of m) ≡ false
  unfolding row_of
  kind_views = ap (λ (x : Message). bare (tag_of x)) e

  kind_is : tag_of m ≡ 9
  kind_is = ap tag_of e

  told_so : Told sh.n sh.s m msg
  told_so = ready_told sh b msg m r kind_known

  pub start_views : 16 + 4 * sh.s ≤ length msg
  start_views = views_stand sh b msg m r kind_known kind_views

  module _ (at : ℕ) (a : at ≡ entries_at sh.s 9) where
    whole : length msg ≡ at + 4 + 24 * num msg at 4
    whole = told_length sh.n sh.s m msg told_so ∙ ap (λ (j : ℕ). length_for sh.s j (num msg (entries_at sh.s j) 4)) kind_is ∙ ap (λ (x : ℕ). x + 4 + 24 * num msg x 4) (sym a)

    -- the count of the entries stands there
    pub start_counted : at + 4 ≤ length msg
    start_counted = omega (arith, whole)

    module _ (number : ℕ) (n : number ≡ num msg at 4) where
      entries_are : w.entries ≡ items (entry_at msg) 24 (at + 4) number
      entries_are =
          told_entries sh.n sh.s m msg told_so
          ∙ ap (λ (j : ℕ). items (entry_at msg) 24 (entries_at sh.s j + 4) (num msg (entries_at sh.s j) 4)) kind_is
          ∙ ap (λ (x : ℕ). items (entry_at msg) 24 (x + 4) (num msg x 4)) (sym a)
          ∙ ap (items (entry_at msg) 24 (at + 4)) (sym n)

      entries_long : length w.entries ≡ number
      entries_long = told_count sh.n sh.s m msg told_so ∙ ap (λ (j : ℕ). num msg (entries_at sh.s j) 4) kind_is ∙ ap (λ (x : ℕ). num msg x 4) (sym a) ∙ sym n

      -- and they after it
      pub start_stands : at + 4 + 24 * number ≤ length msg
      start_stands = omega (arith, whole)

      pub start_past : sh.c < number → leaves 8 b out ≡ handled 9 on_start_view sh m b msg out
      start_past k = refuses 9 on_start_view sh b msg out m kind_is 8 (many sh st w (omega (arith, entries_long)))

      pub start_done : (b' : List ℕ) → number ≤ sh.c → b' ≡ image sh (started sh st h.view (views_of sh msg) (items (entry_at msg) 24 (at + 4) number)) → quiet b' out ≡ handled 9 on_start_view sh m b msg out
      start_done b' k i =
          let es = items (entry_at msg) 24 (at + 4) number in
          let v : w.view ≡ h.view = view_said sh b msg m r kind_known ∙ ap (λ (x : Message). (header_in x).view) e in
          let f : length es ≤ sh.c = omega (arith, entries_long, ap length entries_are) in
          keeps 9 on_start_view sh b msg out m kind_is _ b' (few sh st w h.view (views_of sh msg) es v (views_said sh b msg m r kind_known kind_views) entries_are f) i
