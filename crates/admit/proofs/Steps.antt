-- What the refusals 2 to 6 say of the step on bytes: the number refuses it, and 0 leaves it to the handler of the kind. Assumes nothing.
use Prim.Native.Nat.{ℕ}
use mathlib.Core.Path.{◌≡◌, refl, sym, ap, ◌∙◌, subst}
use mathlib.Core.Bool.{Bool, true, false, true≢false}
use mathlib.Core.List.{List}
use native.Mathlib.Nat.{suc-ne-zero}
use lib.Dec.{eqb}
use borrow.Author.Tests.{eqb-true, eq-eqb, ne_eqb}
use Rattle.octets.specs.Bytes.{num}
use Rattle.rules.specs.Choice.{pick, any}
use Rattle.rules.specs.Group.{sizes_fit, shape_fits}
use Rattle.rules.specs.Wire.{Wire, offset_in, tag_of}
use Rattle.rules.specs.Kind.{known, to_outside}
use Rattle.rules.specs.Read.{Read, malformed, message, read, wire_in, case_read, decoded}
use Rattle.rules.specs.State.{State}
use Rattle.rules.specs.Image.{state_of, good_bytes}
use Rattle.rules.specs.Step.{Outcome, refused, step, handle, here, view_right, status_right, role_right}
use Rattle.rules.specs.Bytes.{Left, leaves, leaves_at, closes, step_read, step_bytes}
use Rattle.rules.specs.declared.Shape.{Shape}
use Rattle.rules.specs.declared.Message.{Message}
use Rattle.rules.proofs.Tests.{and_l}
use Rattle.rules.proofs.Good.{good_bytes_lem}
use Rattle.rules.proofs.Case.{tag_case, offset_case}
use Rattle.rules.proofs.Messages.{read_whole, whole_known}
use Rattle.places.proofs.Sections.{stands}
use Rattle.handler.specs.Handler.{Ready}
use Rattle.handler.proofs.Told.{Told, told}
use Rattle.handler.proofs.Closes.{closes_refused}
use Rattle.admit.specs.Refusal.{refusal_of, wrong_at}

-- ---- the tests in a row

abbrev numbered : Bool → Bool → Bool → Bool → Bool → ℕ
numbered o h v s r = pick o 2 (pick h (pick v (pick s (pick r 0 6) 5) 4) 3)

chosen : (o h v s r : Bool) (f : Outcome) → pick o (refused 2) (pick h (pick v (pick s (pick r f (refused 6)) (refused 5)) (refused 4)) (refused 3)) ≡ pick (eqb (numbered o h v s r) 0) f (refused (numbered o h v s r))
unfolding pick
chosen true h v s r f = refl
chosen false false v s r f = refl
chosen false true false s r f = refl
chosen false true true false r f = refl
chosen false true true true false f = refl
chosen false true true true true f = refl

all_right : (o h v s r : Bool) → numbered o h v s r ≡ 0 → (h ≡ true) × (v ≡ true) × (s ≡ true) × (r ≡ true)
unfolding pick
all_right true h v s r e = absurd (true≢false (sym (ap (λ (x : ℕ). eqb x 0) e)))
all_right false false v s r e = absurd (true≢false (sym (ap (λ (x : ℕ). eqb x 0) e)))
all_right false true false s r e = absurd (true≢false (sym (ap (λ (x : ℕ). eqb x 0) e)))
all_right false true true false r e = absurd (true≢false (sym (ap (λ (x : ℕ). eqb x 0) e)))
all_right false true true true false e = absurd (true≢false (sym (ap (λ (x : ℕ). eqb x 0) e)))
all_right false true true true true e = (refl, refl, refl, refl)

module _ (sh : Shape) (st : State) (k : ℕ) (w : Wire) (z : eqb k 0 ≡ false) where
  numbers : refusal_of sh st k w ≡ numbered (to_outside k) (here st w) (view_right k st w) (status_right k st w) (role_right k sh st w)
  unfolding refusal_of
  numbers = rw z

  rights : refusal_of sh st k w ≡ 0 → (here st w ≡ true) × (view_right k st w ≡ true) × (status_right k st w ≡ true) × (role_right k sh st w ≡ true)
  rights e = all_right (to_outside k) (here st w) (view_right k st w) (status_right k st w) (role_right k sh st w) (sym numbers ∙ e)

abbrev Judged : Shape → State → Wire → ℕ → Type 0
Judged sh st w k = step sh st w ≡ pick (eqb (refusal_of sh st k w) 0) (handle k sh st w) (refused (refusal_of sh st k w))

own_number : (sh : Shape) (st : State) (w : Wire) → eqb w.kind 0 ≡ false → Judged sh st w w.kind
unfolding step
own_number sh st w z =
    chosen (to_outside w.kind) (here st w) (view_right w.kind st w) (status_right w.kind st w) (role_right w.kind sh st w) (handle w.kind sh st w)
    ∙ ap (λ (x : ℕ). pick (eqb x 0) (handle w.kind sh st w) (refused x)) (sym (numbers sh st w.kind w z))

by_number : (sh : Shape) (st : State) (k : ℕ) (w : Wire) → eqb k 0 ≡ false → w.kind ≡ k → Judged sh st w k
by_number sh st k w z e = subst (Judged sh st w) e (own_number sh st w (ap (λ (x : ℕ). eqb x 0) e ∙ z))

none_two : (sh : Shape) (st : State) (k : ℕ) (w : Wire) → k ≡ 0 → refusal_of sh st k w ≡ 2
unfolding refusal_of pick
none_two sh st k w e = rw e

known_some : (k : ℕ) → known k ≡ true → eqb k 0 ≡ false
unfolding any
known_some k e = go (eqb k 0) refl
  where
    go : (t : Bool) → eqb k 0 ≡ t → t ≡ false
    go false f = refl
    go true f = absurd (true≢false (sym e ∙ ap known (eqb-true k 0 f)))

sizes : (sh : Shape) → shape_fits sh ≡ true → sizes_fit sh.n sh.s ≡ true
sizes sh e = and_l _ _ e

module _ (sh : Shape) (b msg out : List ℕ) (m : Message) (r : ℕ) (g : good_bytes sh b ≡ true) (d : m ≡ decoded sh.n sh.s msg) (q : r ≡ refusal_of sh (state_of sh b) (tag_of m) (wire_in sh.s msg)) where
  abbrev here_then : Left
  here_then = step_read sh b out (num msg 0 1) (read sh.n sh.s msg)

  good_step : here_then ≡ step_bytes sh b msg out
  unfolding step_bytes pick
  good_step = rw g

  case : (x : Read) → read sh.n sh.s msg ≡ x → m ≡ case_read x
  unfolding decoded pick
  case x e = d ∙ rw (sizes sh (good_bytes_lem sh b g).fits, e)

  -- bytes that are no message
  none : (at : ℕ) → read sh.n sh.s msg ≡ malformed at → (r ≡ 2) × (leaves_at (wrong_at m msg) b out ≡ here_then)
  unfolding step_read
  none at e =
      let m-is = case (malformed at) e in (
        q ∙ none_two sh (state_of sh b) (tag_of m) (wire_in sh.s msg) (ap tag_of m-is),
        sym (ap (step_read sh b out (num msg 0 1)) e ∙ ap (λ (x : Message). leaves_at (wrong_at x msg) b out) (sym m-is)),
      )

  abbrev judged : ℕ → Left
  judged x = closes sh b out (pick (eqb x 0) (handle (tag_of m) sh (state_of sh b) (wire_in sh.s msg)) (refused x))

  module _ (t : Told sh.n sh.s m msg) (z : eqb (tag_of m) 0 ≡ false) where
    by_refusal : here_then ≡ judged r
    unfolding step_read
    by_refusal =
        ap (step_read sh b out (num msg 0 1)) t.reading
        ∙ ap (closes sh b out) (by_number sh (state_of sh b) (tag_of m) (wire_in sh.s msg) z t.kind)
        ∙ ap judged (sym q)

  -- bytes that are one
  known_kind : (w : Wire) → read sh.n sh.s msg ≡ message w → known w.kind ≡ true
  known_kind w e = whole_known sh.n sh.s msg w (read_whole sh.n sh.s msg w e)

  known_tag : (w : Wire) → read sh.n sh.s msg ≡ message w → known (tag_of m) ≡ true
  known_tag w e =
      let k = known_kind w e in
      ap (λ (x : Message). known (tag_of x)) (case (message w) e) ∙ ap known (tag_case w k) ∙ k

  one : (w : Wire) → read sh.n sh.s msg ≡ message w → (here_then ≡ judged r) × (wrong_at m msg ≡ 0)
  unfolding pick
  one w e =
      let k = known_tag w e in
      let o : offset_in m ≡ 0 = ap offset_in (case (message w) e) ∙ offset_case w (known_kind w e) in
      (by_refusal (told sh.n sh.s m msg d k) (known_some (tag_of m) k), either (to_outside (num msg 0 1)) (offset_in m) o)
    where
      either : (t : Bool) (x : ℕ) → x ≡ 0 → pick t 0 x ≡ 0
      either true x e = refl
      either false x e = e

  -- another number than 2 comes from a message alone
  by_read : (r ≡ 2 → ⊥) → (x : Read) → read sh.n sh.s msg ≡ x → here_then ≡ judged r
  by_read n (malformed at) e = absurd (n (none at e).0)
  by_read n (message w) e = (one w e).0

  judged_step : (r ≡ 2 → ⊥) → judged r ≡ step_bytes sh b msg out
  judged_step n = sym (by_read n (read sh.n sh.s msg) refl) ∙ good_step

  refused_so : (r ≡ 0 → ⊥) → leaves r b out ≡ judged r
  unfolding pick
  refused_so n =
      let e : judged r ≡ closes sh b out (refused r) = ap (λ (x : Bool). closes sh b out (pick x (handle (tag_of m) sh (state_of sh b) (wire_in sh.s msg)) (refused r))) (ne_eqb r 0 n) in
      sym (closes_refused sh b out r) ∙ sym e

  pub refused_step : (r ≡ 0 → ⊥) → (r ≡ 2 → ⊥) → leaves r b out ≡ step_bytes sh b msg out
  refused_step n o = refused_so n ∙ judged_step o

  -- 2, with the offset of the first wrong field
  pub malformed_step : (at : ℕ) → at ≡ wrong_at m msg → r ≡ 2 → leaves_at at b out ≡ step_bytes sh b msg out
  malformed_step at a f = ap (λ (x : ℕ). leaves_at x b out) a ∙ go (read sh.n sh.s msg) refl ∙ good_step
    where
      go : (x : Read) → read sh.n sh.s msg ≡ x → leaves_at (wrong_at m msg) b out ≡ here_then
      go (malformed at) e = (none at e).1
      go (message w) e =
          let p = one w e in
          ap (λ (x : ℕ). leaves_at x b out) p.1 ∙ ap (λ (x : ℕ). leaves x b out) (sym f) ∙ refused_so (λ z. absurd (suc-ne-zero 1 (sym f ∙ z))) ∙ sym p.0

  pub handled_step : r ≡ 0 → closes sh b out (handle (tag_of m) sh (state_of sh b) (wire_in sh.s msg)) ≡ step_bytes sh b msg out
  unfolding pick
  handled_step n =
      sym (ap (λ (x : Bool). closes sh b out (pick x (handle (tag_of m) sh (state_of sh b) (wire_in sh.s msg)) (refused r))) (eq-eqb r 0 n))
      ∙ judged_step (λ z. absurd (suc-ne-zero 1 (sym z ∙ n)))

  some_kind : r ≡ 0 → eqb (tag_of m) 0 ≡ false
  some_kind n = go (eqb (tag_of m) 0) refl
    where
      go : (t : Bool) → eqb (tag_of m) 0 ≡ t → t ≡ false
      go false e = refl
      go true e = absurd (true≢false (sym (ap (λ (x : ℕ). eqb x 0) (sym (none_two sh (state_of sh b) (tag_of m) (wire_in sh.s msg) (eqb-true (tag_of m) 0 e)) ∙ sym q ∙ n))))

  pub ready : r ≡ 0 → Ready sh b m msg
  ready n =
      let e = rights sh (state_of sh b) (tag_of m) (wire_in sh.s msg) (some_kind n) (sym q ∙ n) in
      record { stands = stands sh b g; told = d; here = e.0; view = e.1; status = e.2; role = e.3 }
