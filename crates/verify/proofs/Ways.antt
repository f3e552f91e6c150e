-- The ways through the handler of kind 18. Assumes nothing.
use Prim.Native.Nat.{ℕ, ◌+◌, ◌-◌, ◌*◌, ◌≤◌, ◌<◌}
use mathlib.Core.Path.{◌≡◌, refl, sym, ap, ◌∙◌}
use mathlib.Core.Bool.{true, false}
use mathlib.Core.List.{List, [], ◌∷◌, ◌++◌, append_assoc, append-nil}
use native.Mathlib.Omega.{arith}
use native.Mathlib.Nat.{zero-add}
use lib.ListN.{length, get_or, length-append}
use Rattle.octets.specs.Bytes.{le, splice, flat}
use Rattle.octets.specs.Sections.{concat}
use Rattle.octets.proofs.Laws.{Bytes, length_le, length_splice, splice_splice_next}
use Rattle.rules.specs.Choice.{pick, any}
use Rattle.rules.specs.Group.{only}
use Rattle.rules.specs.Entry.{ordered}
use Rattle.rules.specs.Wire.{Wire, entry_bytes, head_bytes, wire_bytes, tag_of, header_in, numbers_of}
use Rattle.rules.specs.Kind.{known, row_of}
use Rattle.rules.specs.Wire as wires
use Rattle.rules.specs.Read.{wire_in, length_for}
use Rattle.rules.specs.State.{State}
use Rattle.rules.specs.Image.{state_of}
use Rattle.rules.specs.Step.{done, send, source, asked, on_verify_request}
use Rattle.rules.specs.Bytes.{Left, leaves}
use Rattle.rules.specs.declared.Entry.{Entry}
use Rattle.rules.specs.declared.Header.{Header}
use Rattle.rules.specs.declared.Shape.{Shape}
use Rattle.rules.specs.declared.Message.{Message}
use Rattle.rules.specs.declared.Message.TheVariants.{VerifyRequest, VerifyReply}
use Rattle.rules.proofs.Order.{ordered_length}
use Rattle.places.specs.Layout.{Sized}
use Rattle.places.proofs.Sections.{stands_fits, stands_laid}
use Rattle.handler.specs.Handler.{Ready, handled}
use Rattle.handler.specs.Sending.{message_bytes, headed_in}
use Rattle.handler.proofs.Ways.{no_room_for, sends_one, said, said_number, said_sender}
use Rattle.handler.proofs.Sends.{sender, sent_length, message_length, message_sent}
use Rattle.verify.specs.Asked.{asked_in}
use Rattle.verify.proofs.Asked.{rows_long, source_fits, asked_is, splice_again}

-- ---- a message's entries stand last, after their count

module _ (st : State) (k g t : ℕ) (xs : List ℕ) where
  -- what stands before the count
  front : List ℕ
  front = concat (head_bytes (send st k g t xs []) ∷ le 4 (length st.view.g_vec) ∷ flat (le 4) st.view.g_vec ∷ le 4 (length xs) ∷ flat (le 8) xs ∷ [])

  in_two : (es : List Entry) → wire_bytes (send st k g t xs es) ≡ front ++ (le 4 (length es) ++ flat entry_bytes es)
  unfolding front wire_bytes head_bytes concat
  in_two es = simp (append_assoc, append-nil)

  -- with none
  none_is : wire_bytes (send st k g t xs []) ≡ front ++ le 4 0
  unfolding flat
  none_is = in_two [] ∙ ap (λ (x : List ℕ). front ++ x) (append-nil (le 4 0))

-- a verify reply with none ends here
pub none_ends : (sh : Shape) (b : List ℕ) (h : Header) (r : ℕ) → Sized sh b → Bytes b → r ≡ 0 + length (message_bytes sh b (VerifyReply h) []) → r ≡ 24 + 4 * sh.s
none_ends sh b h r z bs e = omega (arith, message_length sh b (VerifyReply h) [] (omega (arith, z.size)) bs tt refl)

-- entries written over the count of none
over_none : (out F : List ℕ) (k : ℕ) (rows : List ℕ) → length F + (4 + length rows) ≤ length out → splice (splice out 0 (F ++ le 4 0)) (length F) (le 4 k ++ rows) ≡ splice out 0 (F ++ (le 4 k ++ rows))
over_none out F k rows h =
    let z = zero-add (length F) in
    let lm : length (splice out 0 F) ≡ length out = length_splice out 0 F (omega arith) in
    let a : splice out 0 (F ++ le 4 0) ≡ splice (splice out 0 F) (length F) (le 4 0) = rw z at (sym (splice_splice_next out 0 F (le 4 0) (omega arith))) in
    let b : splice (splice (splice out 0 F) (length F) (le 4 0)) (length F) (le 4 k ++ rows) ≡ splice (splice out 0 F) (length F) (le 4 k ++ rows)
    =
    let c : length F + 4 ≤ length (splice out 0 F) = omega arith in
    sym (splice_splice_next (splice (splice out 0 F) (length F) (le 4 0)) (length F) (le 4 k) rows (omega (arith, length_le 4 k, length_le 4 0, length_splice (splice out 0 F) (length F) (le 4 0) (omega (arith, length_le 4 0)))))
    ∙ ap (λ (o : List ℕ). splice o (length F + length (le 4 k)) rows) (splice_again (splice out 0 F) (length F) (le 4 0) (le 4 k) (omega arith) (length_le 4 0 ∙ sym (length_le 4 k)))
    ∙ splice_splice_next (splice out 0 F) (length F) (le 4 k) rows (omega (arith, length_le 4 k)) in
    ap (λ (o : List ℕ). splice o (length F) (le 4 k ++ rows)) a ∙ b ∙ rw z at (splice_splice_next out 0 F (le 4 k ++ rows) (omega arith))

-- ---- the ways

module _ (sh : Shape) (b msg out : List ℕ) (m : Message) (h : Header) (p : ℕ) (r : Ready sh b m msg) (e : m ≡ VerifyRequest h p) where
  abbrev st : State
  st = state_of sh b

  abbrev asker : ℕ
  asker = h.from_group

  abbrev from : ℕ
  from = h.from_replica

  own : tag_of m ≡ 18
  own = ap tag_of e

  kind_known : known 18 ≡ true
  unfolding pick any
  kind_known = refl

  boundary_is : wires.number (wire_in sh.s msg) 0 ≡ p
  boundary_is = said_number r 18 own kind_known 0 ∙ ap (λ (x : Message). get_or (numbers_of x) 0 0) e

  header_is : wires.header_of (wire_in sh.s msg) ≡ h
  header_is = (said r 18 own kind_known).header ∙ ap header_in e

  -- the sender is a replica
  pub from_below : from < sh.n
  unfolding row_of
  from_below = rw e at (said_sender r 18 own kind_known refl).1

  pub from_small : from < 8
  from_small = omega (arith, from_below, r.stands.fits.most)

  abbrev told : Wire
  told = send st 19 asker (only from) [] (asked p asker (source st))

  says : on_verify_request sh st (wire_in sh.s msg) ≡ done st (told ∷ [])
  unfolding on_verify_request
  says =
      ap (λ (x : Header). done st (send st 19 x.from_group (only x.from_replica) [] (asked (wires.number (wire_in sh.s msg) 0) x.from_group (source st)) ∷ [])) header_is
      ∙ ap (λ (x : ℕ). done st (send st 19 asker (only from) [] (asked x asker (source st)) ∷ [])) boundary_is

  -- the message with no entries
  none_told : message_bytes sh b (VerifyReply (headed_in b 19 asker (only from))) [] ≡ wire_bytes (send st 19 asker (only from) [] [])
  unfolding flat
  none_told = message_sent (stands_laid r.stands) (sender (stands_fits r.stands)) (VerifyReply (headed_in b 19 asker (only from))) [] 19 asker (only from) [] [] refl refl refl tt

  none_long : length (wire_bytes (send st 19 asker (only from) [] [])) ≡ 24 + 4 * sh.s
  unfolding pick row_of
  none_long = sent_length sh.s st 19 asker (only from) [] [] (stands_fits r.stands).g_vec_places refl refl ∙ omega arith

  module _ (t : List ℕ) (count : ℕ) (lt : t ≡ flat entry_bytes (source st)) (hc : count ≡ length (asked_in p asker t)) where
    asked_all : ordered (asked_in p asker t) ≡ asked p asker (source st)
    asked_all = asked_is p asker t (source st) lt (source_fits r.stands).each

    asked_long : length (asked p asker (source st)) ≡ count
    asked_long = ap length (sym asked_all) ∙ ordered_length (asked_in p asker t) ∙ sym hc

    told_long : length (wire_bytes told) ≡ length_for sh.s 19 count
    unfolding pick row_of
    told_long = sent_length sh.s st 19 asker (only from) [] _ (stands_fits r.stands).g_vec_places refl refl ∙ ap (length_for sh.s 19) asked_long

    pub no_room : (need : ℕ) → need ≡ length_for sh.s 19 count → length out < need → leaves 9 b out ≡ handled 18 on_verify_request sh m b msg out
    no_room need n l = no_room_for 18 on_verify_request sh b msg out m own st told says (omega (arith, told_long))

    pub asked_told : (need end : ℕ) (out₁ out₂ : List ℕ) → need ≡ length_for sh.s 19 count → need ≤ length out → end ≡ 24 + 4 * sh.s → out₁ ≡ splice out 0 (message_bytes sh b (VerifyReply (headed_in b 19 asker (only from))) [])
        → out₂ ≡ splice out₁ (end - 4) (le 4 count ++ flat entry_bytes (ordered (asked_in p asker t)))
        → ◌≡◌ {A = Left} (record { refused = false; number = 0; offset = 0; sent = end + 24 * count; state = b; out = out₂ }) (handled 18 on_verify_request sh m b msg out)
    unfolding pick row_of
    asked_told need end out₁ out₂ n l he w₁ w₂ =
        let F = front st 19 asker (only from) [] in
        let es = asked p asker (source st) in
        let z : wire_bytes (send st 19 asker (only from) [] []) ≡ F ++ le 4 0 = none_is st 19 asker (only from) [] in
        let lf : length F ≡ end - 4 = omega (arith, none_long, sym (ap length z) ∙ none_long, length-append F (le 4 0), length_le 4 0) in
        let x : out₂ ≡ splice out 0 (wire_bytes told)
        = w₂ ∙ rw (w₁ ∙ ap (splice out 0) (none_told ∙ z), ← lf, asked_all) (over_none out F count (flat entry_bytes es) (omega (arith, rows_long es, asked_long, told_long)))
        ∙ ap (splice out 0) (sym (in_two st 19 asker (only from) [] es ∙ ap (λ (k : ℕ). F ++ (le 4 k ++ flat entry_bytes es)) asked_long)) in
        sends_one 18 on_verify_request sh b msg out m own st told says b out₂ (end + 24 * count) (omega (arith, told_long)) r.stands.bytes (omega (arith, told_long)) x
